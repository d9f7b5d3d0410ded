use Rattle.std.proofs.Common.{◌≡◌, ◌∷◌, [], ◌++◌, map, take, Some, None, slice_get, rules, ap, sym, ◌∙◌, arith}
use Rattle.std.proofs.lemmas.List.{map_push}
use Rattle.std.proofs.lemmas.Option.{slice_get_within}
use Rattle.mir_ty.specs.declared.def.TraitDef.{TraitDef}
use Rattle.mir_ty.proofs.Sets.{all_taken, with_next}
use Rattle.type_check.proofs.items.trait_names.Goals as goal

pub loop-def-preserved : goal.loop-def-preserved
loop-def-preserved c =
    let at : slice_get c.args.items.now.traits c.loop-def.n ≡ Some c.in-Some.def.now = search rules in
    record {
      within = omega (arith, slice_get_within c.args.items.now.traits c.loop-def.n c.in-Some.def.now at);
      names =
          c.in_ok-names.ensures ∙ ap (λ x. c.loop-def.names ++ x ∷ []) c.as_str.ensures
          ∙ ap (λ xs. xs ++ c.in-Some.def.now.name ∷ []) c.loop-def.invariant.names
          ∙ sym (ap (map (λ (def : TraitDef). def.name)) (with_next c.args.items.now.traits c.loop-def.n c.in-Some.def.now at)
          ∙ map_push (λ (def : TraitDef). def.name) (take c.loop-def.n c.args.items.now.traits) c.in-Some.def.now);
    }

pub returns : goal.returns
returns c =
    let past : slice_get c.args.items.now.traits c.loop-def.n ≡ None = search rules in
    c.loop-def.invariant.names ∙ ap (map (λ (def : TraitDef). def.name)) (all_taken c.args.items.now.traits c.loop-def.n past c.loop-def.invariant.within)

pub loop-def-smaller : goal.loop-def-smaller
loop-def-smaller c =
    let at : slice_get c.args.items.now.traits c.loop-def.n ≡ Some c.in-Some.def.now = search rules in
    omega (arith, slice_get_within c.args.items.now.traits c.loop-def.n c.in-Some.def.now at)
