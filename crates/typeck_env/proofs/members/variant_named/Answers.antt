use Rattle.std.proofs.Common.{◌≡◌, Option, Some, None, slice_get, rules, ap, ◌∙◌}
use Rattle.std.specs.Prelude.{option_and_then}
use Rattle.std.specs.List.{position as position_of}
use Rattle.std.specs.Str.{bytes_eq}
use Rattle.typeck_env.proofs.MemberNames.{variant_found}
use Rattle.typeck_env.specs.declared.members.AdtNames.{AdtNames}
use Rattle.typeck_env.proofs.members.variant_named.Goals as goal

pub returns-in-Some : goal.returns-in-Some
returns-in-Some c =
    let at : Some c.in-Some.of_adt.now ≡ slice_get c.args.names.now c.args.adt = search rules in
    c.find.ensures ∙ ap (option_and_then (λ (a : AdtNames). position_of (bytes_eq c.args.name.now) a.variants)) at
    ∙ ap (λ ns. option_and_then (λ (a : AdtNames). position_of (bytes_eq c.args.name.now) a.variants) (slice_get ns c.args.adt)) c.requires
    ∙ variant_found c.args.items.now c.args.adt c.args.name.now

pub returns-in-None : goal.returns-in-None
returns-in-None c =
    let at : ◌≡◌ {A = Option AdtNames} None (slice_get c.args.names.now c.args.adt) = search rules in
    ap (option_and_then (λ (a : AdtNames). position_of (bytes_eq c.args.name.now) a.variants)) at
    ∙ ap (λ ns. option_and_then (λ (a : AdtNames). position_of (bytes_eq c.args.name.now) a.variants) (slice_get ns c.args.adt)) c.requires
    ∙ variant_found c.args.items.now c.args.adt c.args.name.now
