use Rattle.std.proofs.Common.{◌≡◌, ◌∷◌, [], ◌++◌, map, take, Some, None, slice_get, rules, ap, sym, ◌∙◌, arith}
use Rattle.std.proofs.lemmas.List.{map_push}
use Rattle.std.proofs.lemmas.Option.{slice_get_within}
use Rattle.mir_ty.specs.declared.adt.Adt.{Adt}
use Rattle.mir_ty.proofs.Sets.{all_taken, with_next}
use Rattle.type_check.proofs.items.adt_names.Goals as goal

pub loop-adt-preserved : goal.loop-adt-preserved
loop-adt-preserved c =
    let at : slice_get c.args.items.now.adts c.loop-adt.n ≡ Some c.in-Some.adt.now = search rules in
    record {
      within = omega (arith, slice_get_within c.args.items.now.adts c.loop-adt.n c.in-Some.adt.now at);
      names =
          c.in_ok-names.ensures ∙ ap (λ x. c.loop-adt.names ++ x ∷ []) c.as_str.ensures
          ∙ ap (λ xs. xs ++ c.in-Some.adt.now.name ∷ []) c.loop-adt.invariant.names
          ∙ sym (ap (map (λ (adt : Adt). adt.name)) (with_next c.args.items.now.adts c.loop-adt.n c.in-Some.adt.now at)
          ∙ map_push (λ (adt : Adt). adt.name) (take c.loop-adt.n c.args.items.now.adts) c.in-Some.adt.now);
    }

pub returns : goal.returns
returns c =
    let past : slice_get c.args.items.now.adts c.loop-adt.n ≡ None = search rules in
    c.loop-adt.invariant.names ∙ ap (map (λ (adt : Adt). adt.name)) (all_taken c.args.items.now.adts c.loop-adt.n past c.loop-adt.invariant.within)

pub loop-adt-smaller : goal.loop-adt-smaller
loop-adt-smaller c =
    let at : slice_get c.args.items.now.adts c.loop-adt.n ≡ Some c.in-Some.adt.now = search rules in
    omega (arith, slice_get_within c.args.items.now.adts c.loop-adt.n c.in-Some.adt.now at)
