use Rattle.std.proofs.Common.{◌≡◌, Some, None, ◌||◌, slice_get, rules, ap, sym, ◌∙◌, arith}
use Rattle.std.specs.List.{list_any}
use Rattle.std.proofs.lemmas.Option.{slice_get_within}
use Rattle.mir_ty.specs.DropBodies.{is_its_drop_body}
use Rattle.mir_ty.proofs.Sets.{all_taken, any_next}
use Rattle.mir_ty.proofs.items.Items.drop_bodies.Goals as goal

pub loop-adt-preserved : goal.loop-adt-preserved
loop-adt-preserved c =
    let adts = c.args.self.now.adts in
    let at : slice_get adts c.loop-adt.n ≡ Some c.in-Some.adt.now = search rules in
    record {
      within = omega (arith, slice_get_within adts c.loop-adt.n c.in-Some.adt.now at);
      bodies = λ body. c.in_ok-add_drop_body.ensures body ∙ ap (λ b. b || is_its_drop_body body c.in-Some.adt.now) (c.loop-adt.invariant.bodies body)
          ∙ sym (any_next (is_its_drop_body body) adts c.loop-adt.n c.in-Some.adt.now at);
    }

pub returns : goal.returns
returns c =
    let adts = c.args.self.now.adts in
    let past : slice_get adts c.loop-adt.n ≡ None = search rules in
    λ body. c.loop-adt.invariant.bodies body ∙ ap (list_any (is_its_drop_body body)) (all_taken adts c.loop-adt.n past c.loop-adt.invariant.within)

pub loop-adt-smaller : goal.loop-adt-smaller
loop-adt-smaller c =
    let at : slice_get c.args.self.now.adts c.loop-adt.n ≡ Some c.in-Some.adt.now = search rules in
    omega (arith, slice_get_within c.args.self.now.adts c.loop-adt.n c.in-Some.adt.now at)
