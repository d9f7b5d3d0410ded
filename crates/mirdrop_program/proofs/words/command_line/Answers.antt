use Rattle.std.proofs.Common.{ap, ap₂, Bool, Bor, ◌≡◌, ◌∙◌, true, Some, [], ◌∷◌}
use Rattle.std.proofs.lemmas.Result.{IfOk-weaker}
use Rattle.clap.specs.Lexer.{usize_max}
use Rattle.clap.specs.Simple.{app_of_fields}
use Rattle.clap.specs.Words.{App, Rule, Text, app_of, rule_of, with_rule}
use Rattle.clap.specs.declared.builder.arg.Arg.{Arg}
use Rattle.clap.specs.declared.builder.texts.Texts.TheVariants.{One}
use Rattle.mirdrop_program.specs.Words.{command_rule, numbers_rule, ticks_rule, named}
use Rattle.mirdrop_program.proofs.CommandLine.{given_range}
use Rattle.mirdrop_program.proofs.words.command_line.Goals as goal

abbrev nameless : App → App
nameless app = record app { top = record app.top { no_binary_name = true } }

abbrev required : Rule → Rule
required rule = record rule { required = true }

abbrev of_any_number : Rule → Rule
of_any_number rule = record rule { range = Some (record { start_inclusive = 0; end_inclusive = usize_max }) }

abbrev by_long : Text → Text → Rule → Rule
by_long name value rule = record rule { long = Some name; defaults = value ∷ [] }

abbrev defaulted : Bor Text → Arg → Arg
defaulted value arg = record arg { default_vals = One value }

abbrev is_global : Arg → Bool
is_global arg = arg.global

has_default : (new long given : Arg) (name value : Bor Text) (rule : Rule) → given ≡ record long { default_vals = One value } →
    long ≡ record new { long = Some name } → rule_of new ≡ rule → rule_of given ≡ by_long name.now value.now rule
has_default new long given name value rule g l r =
    ap rule_of (g ∙ ap (defaulted value) l) ∙ ap (by_long name.now value.now) r

pub returns : goal.returns
returns c =
    let command_is : rule_of c.required.result ≡ command_rule = ap rule_of c.required.ensures ∙ ap required c.new-2.ensures.rule in
    let range : c.num_args.result.num_vals ≡ Some (record { start_inclusive = 0; end_inclusive = usize_max }) =
    given_range _ _ c.num_args.ensures.1 in
    let numbers_is : rule_of c.num_args.result ≡ numbers_rule = ap rule_of (c.num_args.ensures.0 ∙ ap (λ range. record c.new-3.result { num_vals = range }) range) ∙ ap of_any_number c.new-3.ensures.rule in
    let ticks_is : rule_of c.default_value.result ≡ ticks_rule = has_default _ _ _ _ _ _ c.default_value.ensures c.long.ensures c.new-4.ensures.rule in
    let named_is : app_of c.no_binary_name.result ≡ named = ap app_of_fields c.no_binary_name.ensures ∙ ap nameless c.new.ensures.app in
    let first_is : app_of c.in_ok-arg.field-0 ≡ with_rule named command_rule =
    c.in_ok-arg.ensures.shape (ap is_global c.required.ensures ∙ c.new-2.ensures.optional.1) ∙ ap₂ with_rule named_is command_is in
    let second_is : app_of c.in_ok-arg-2.field-0 ≡ with_rule (with_rule named command_rule) numbers_rule =
    c.in_ok-arg-2.ensures.shape (ap is_global c.num_args.ensures.0 ∙ c.new-3.ensures.optional.1) ∙ ap₂ with_rule first_is numbers_is in
    IfOk-weaker c.arg-3.result _ _ (λ command adds. adds.shape (ap is_global c.default_value.ensures ∙ ap is_global c.long.ensures ∙ c.new-4.ensures.optional.1) ∙ ap₂ with_rule second_is ticks_is) c.arg-3.ensures
