use Rattle.std.proofs.Common.{◌≡◌, ◌∷◌, [], ◌++◌, map, take, Some, None, slice_get, rules, ap, sym, ◌∙◌, arith}
use Rattle.std.proofs.lemmas.List.{map_push}
use Rattle.std.proofs.lemmas.Option.{slice_get_within}
use Rattle.mir_ty.specs.declared.def.Sig.{Sig}
use Rattle.mir_ty.proofs.Sets.{all_taken, with_next}
use Rattle.type_check.proofs.items.body_names.Goals as goal

pub loop-sig-preserved : goal.loop-sig-preserved
loop-sig-preserved c =
    let at : slice_get c.args.items.now.bodies c.loop-sig.n ≡ Some c.in-Some.sig.now = search rules in
    record {
      within = omega (arith, slice_get_within c.args.items.now.bodies c.loop-sig.n c.in-Some.sig.now at);
      names =
          c.in_ok-names.ensures ∙ ap (λ x. c.loop-sig.names ++ x ∷ []) c.as_str.ensures
          ∙ ap (λ xs. xs ++ c.in-Some.sig.now.name ∷ []) c.loop-sig.invariant.names
          ∙ sym (ap (map (λ (sig : Sig). sig.name)) (with_next c.args.items.now.bodies c.loop-sig.n c.in-Some.sig.now at)
          ∙ map_push (λ (sig : Sig). sig.name) (take c.loop-sig.n c.args.items.now.bodies) c.in-Some.sig.now);
    }

pub returns : goal.returns
returns c =
    let past : slice_get c.args.items.now.bodies c.loop-sig.n ≡ None = search rules in
    c.loop-sig.invariant.names ∙ ap (map (λ (sig : Sig). sig.name)) (all_taken c.args.items.now.bodies c.loop-sig.n past c.loop-sig.invariant.within)

pub loop-sig-smaller : goal.loop-sig-smaller
loop-sig-smaller c =
    let at : slice_get c.args.items.now.bodies c.loop-sig.n ≡ Some c.in-Some.sig.now = search rules in
    omega (arith, slice_get_within c.args.items.now.bodies c.loop-sig.n c.in-Some.sig.now at)
