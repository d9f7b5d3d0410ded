use Rattle.std.proofs.Common.{◌≡◌, ◌∷◌, [], ◌++◌, take, Some, None, slice_get, rules, ap, sym, ◌∙◌, arith}
use Rattle.std.proofs.lemmas.List.{map_push}
use Rattle.std.proofs.lemmas.Option.{slice_get_within}
use Rattle.typeck_env.specs.Members.{adt_names, all_names}
use Rattle.mir_ty.proofs.Sets.{all_taken, with_next}
use Rattle.typeck_env.proofs.members.member_names.Goals as goal

pub loop-adt-preserved : goal.loop-adt-preserved
loop-adt-preserved c =
    let at : slice_get c.args.items.now.adts c.loop-adt.n ≡ Some c.in-Some.adt.now = search rules in
    record {
      within = omega (arith, slice_get_within c.args.items.now.adts c.loop-adt.n c.in-Some.adt.now at);
      names =
          c.in_ok-push.ensures.pushed ∙ ap (λ xs. xs ++ c.in_ok-adt_names.field-0 ∷ []) c.loop-adt.invariant.names
          ∙ ap (λ x. all_names (take c.loop-adt.n c.args.items.now.adts) ++ x ∷ []) c.in_ok-adt_names.ensures
          ∙ sym (ap all_names (with_next c.args.items.now.adts c.loop-adt.n c.in-Some.adt.now at)
          ∙ map_push adt_names (take c.loop-adt.n c.args.items.now.adts) c.in-Some.adt.now);
    }

pub returns : goal.returns
returns c =
    let past : slice_get c.args.items.now.adts c.loop-adt.n ≡ None = search rules in
    c.loop-adt.invariant.names ∙ ap all_names (all_taken c.args.items.now.adts c.loop-adt.n past c.loop-adt.invariant.within)
