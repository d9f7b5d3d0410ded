-- The rows of types and patterns: there are no closures in them.
use Rattle.std.proofs.Common.{Bool, true, false, Option, Some, None, refl}
use Rattle.std.proofs.lemmas.Bool.{true≢false}
use Rattle.mir_base.specs.declared.place_in_text.Pos.{Pos}
use Rattle.src_token.specs.declared.mark.Mark.{Mark}
use Rattle.src_token.specs.declared.token.Token.{Token}
use Rattle.src_token.specs.declared.word.Word.{Word as Keyword}
use Rattle.src_tree.specs.declared.row.GrammarRow.{GrammarRow}
use Rattle.src_tree.specs.Grammar as grammar
use Rattle.src_tree.specs.Grammar.{NodeBeginning, GrammarRest}
use Rattle.src_tree.specs.Layout.{node, tok}
use Rattle.typing_soundness.proofs.Due.{DuePart}
use Rattle.typing_soundness.proofs.Good.{Held, IsQuiet, IsParam, RowIs}
use Rattle.typing_soundness.proofs.Telling.{quiet, quiet_list, of_quiet, of_name}
use Rattle.typing_soundness.proofs.Tokens.{IsPlain}

-- how a node begins by a token
abbrev pub EntryDue : Pos → Bool → Token → Option NodeBeginning → Type 0
EntryDue at self t None = Unit {0}
EntryDue at self t (Some e) = DuePart self e.rest (λ r rest. RowIs self r (node at r (tok t rest)))

pub type_due : (at : Pos) (self : Bool) (t : Token) → IsPlain t → EntryDue at self t (grammar.type_ t)
type_due at self (Token.Name n) p = (
  (λ g k. quiet refl (of_name k, tt) (λ a r. refl) refl refl, λ g k. quiet refl (of_quiet k, tt) (λ a r. refl) refl refl),
  quiet refl tt (λ a r. refl) refl refl,
)
type_due at self (Token.Word Keyword.SelfType) p = quiet refl tt (λ a r. refl) refl refl
type_due at self (Token.Mark Mark.OpenParenthesis) p = λ gs e l. quiet refl (quiet_list gs _ e) (λ a r. refl) refl refl
type_due at self (Token.Mark Mark.OpenBracket) p = λ g k value suffix. quiet refl (of_quiet k, tt) (λ a r. refl) refl refl
type_due at self (Token.Mark Mark.Not) p = quiet refl tt (λ a r. refl) refl refl
type_due at self (Token.Mark Mark.And) p = (
  λ g k. quiet refl (of_quiet k, tt) (λ a r. refl) refl refl,
  λ g k. quiet refl (of_quiet k, tt) (λ a r. refl) refl refl,
)
type_due at self _ p = tt

-- ---- patterns

self_param : {at : Pos} {parts : Held} → IsQuiet (node at GrammarRow.SelfParam parts) → IsParam true (node at GrammarRow.SelfParam
    parts)
self_param h = record { quiet = h; other = λ e rest. absurd (true≢false e) }

pub pattern_due : (at : Pos) (self : Bool) (t : Token) → IsPlain t → EntryDue at self t (grammar.pattern self t)
pattern_due at self (Token.Mark Mark.Underscore) p = quiet refl tt (λ a r. refl) refl refl
pattern_due at true (Token.Word Keyword.Mut) p =
    (self_param (quiet refl tt (λ a r. refl) refl refl), λ n q. quiet refl tt (λ a r. refl) refl refl)
pattern_due at false (Token.Word Keyword.Mut) p = λ n q. quiet refl tt (λ a r. refl) refl refl
pattern_due at self (Token.Name n) p = (
  λ g k. (
    λ gs e l. quiet refl (of_name k, quiet_list gs _ e) (λ a r. refl) refl refl,
    (
      λ gs e l. quiet refl (of_name k, quiet_list gs _ e) (λ a r. refl) refl refl,
      quiet refl (of_name k, tt) (λ a r. refl) refl refl,
    ),
  ),
  (
    λ gs e l. quiet refl (quiet_list gs _ e) (λ a r. refl) refl refl,
    (
      λ gs e l. quiet refl (quiet_list gs _ e) (λ a r. refl) refl refl,
      quiet refl tt (λ a r. refl) refl refl,
    ),
  ),
)
pattern_due at self (Token.Word Keyword.SelfType) p = (
  λ g k. (
    λ gs e l. quiet refl (of_name k, quiet_list gs _ e) (λ a r. refl) refl refl,
    (
      λ gs e l. quiet refl (of_name k, quiet_list gs _ e) (λ a r. refl) refl refl,
      quiet refl (of_name k, tt) (λ a r. refl) refl refl,
    ),
  ),
  (
    λ gs e l. quiet refl (quiet_list gs _ e) (λ a r. refl) refl refl,
    (
      λ gs e l. quiet refl (quiet_list gs _ e) (λ a r. refl) refl refl,
      quiet refl tt (λ a r. refl) refl refl,
    ),
  ),
)
pattern_due at self (Token.Number value suffix) p = quiet refl tt (λ a r. refl) refl refl
pattern_due at self (Token.Mark Mark.Minus) p = λ value suffix. quiet refl tt (λ a r. refl) refl refl
pattern_due at self (Token.Word Keyword.True) p = quiet refl tt (λ a r. refl) refl refl
pattern_due at self (Token.Word Keyword.False) p = quiet refl tt (λ a r. refl) refl refl
pattern_due at self (Token.Mark Mark.OpenParenthesis) p = λ gs e l. quiet refl (quiet_list gs _ e) (λ a r. refl) refl refl
pattern_due at self (Token.Mark Mark.OpenBracket) p =
    λ gs e l. quiet refl (quiet_list gs _ e) (λ a r. refl) refl refl
pattern_due at true (Token.Word Keyword.SelfValue) p = self_param (quiet refl tt (λ a r. refl) refl refl)
pattern_due at false (Token.Word Keyword.SelfValue) p = tt
pattern_due at true (Token.Mark Mark.And) p =
    (self_param (quiet refl tt (λ a r. refl) refl refl), self_param (quiet refl tt (λ a r. refl) refl refl))
pattern_due at false (Token.Mark Mark.And) p = tt
pattern_due at self _ p = tt

pub field_pattern_due : (at : Pos) (self : Bool) (t : Token) → IsPlain t → EntryDue at self t (grammar.field_pattern t)
field_pattern_due at self (Token.Name n) p =
    (λ g k. quiet refl (of_quiet k, tt) (λ a r. refl) refl refl, quiet refl tt (λ a r. refl) refl refl)
field_pattern_due at self (Token.Word Keyword.Mut) p = λ n q. quiet refl tt (λ a r. refl) refl refl
field_pattern_due at self _ p = tt

-- ---- names and fields

pub name_due : (at : Pos) (self : Bool) (t : Token) → IsPlain t → EntryDue at self t (grammar.name t)
name_due at self (Token.Name n) p = record {
  tells = λ a r. refl;
  silent = λ a r. refl;
  at = at;
  word = n;
  is = refl;
  named = p;
}
name_due at self _ p = tt

pub label_due : (at : Pos) (self : Bool) (t : Token) → IsPlain t → EntryDue at self t (grammar.label t)
label_due at self (Token.Label n) p = record { tells = λ a r. refl; silent = λ a r. refl; is = refl }
label_due at self _ p = tt

pub field_due : (at : Pos) (self : Bool) (t : Token) → IsPlain t → EntryDue at self t (grammar.named_field t)
field_due at self (Token.Name n) p = λ g k. quiet refl (of_quiet k, tt) (λ a r. refl) refl p.is_field
field_due at self _ p = tt
