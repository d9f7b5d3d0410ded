use Rattle.std.proofs.Common.{◌≡◌, ◌+◌, [], ◌∷◌, length, map, refl, ap, sym, subst, ◌∙◌, arith}
use Rattle.std.proofs.lemmas.Grind.{common_steps}
use Rattle.std.proofs.lemmas.Iterator.Adapters.{YieldsList-from_vec}
use Rattle.std.proofs.lemmas.Iterator.Consumers.{YieldsList-turn, YieldsList-end}
use Rattle.std.proofs.lemmas.List.{length_push, length-map, map-append}
use Rattle.cfg_meaning.specs.Programs.{arguments_from}
use Rattle.machine_store.specs.Frames.{cells_of}
use Rattle.machine_store.proofs.Activations.{more_arguments, entered}
use Rattle.store_model.specs.Values.Datum.{datum_of}
use Rattle.store_model.specs.Values.Wholeness.{IsWhole}
use Rattle.machine_store.proofs.store.frame_with.Goals as goal

pub put-requires : goal.put-requires
put-requires c =
    let gives = YieldsList-from_vec c.args.args (grind (arith, common_steps)) (grind (arith, common_steps)) in
    let t = YieldsList-turn gives c.loop-arg.yielded _ c.loop-arg.yielded_by _ c.next.new.self c.in-Some.arg c.in-Some.is c.next.ensures.steps in
    subst (λ v. IsWhole (datum_of v)) (sym t.1) (c.requires (length c.loop-arg.yielded) c.in-Some.arg t.0)

pub loop-arg-init : goal.loop-arg-init
loop-arg-init c = record { body = grind (arith, common_steps); key = refl; cells = ap (λ frame. cells_of frame.1) c.new-frame.ensures }

pub loop-arg-preserved : goal.loop-arg-preserved
loop-arg-preserved c =
    let n : c.in-Some-checked_add.next ≡ length c.loop-arg.yielded + 1 = grind (arith, common_steps) in
    record {
      body = c.in_ok-put.ensures.body ∙ c.loop-arg.invariant.body;
      key = n ∙ sym (length_push c.loop-arg.yielded c.in-Some.arg);
      cells =
          c.in_ok-put.ensures.cells
          ∙ more_arguments (map datum_of c.loop-arg.yielded) (datum_of c.in-Some.arg) (cells_of c.loop-arg.frame.1) c.in-Some-checked_add.next c.loop-arg.invariant.cells (n ∙ ap (λ k. k + 1) (sym (length-map c.loop-arg.yielded datum_of)))
          ∙ ap (arguments_from 1) (sym (map-append datum_of c.loop-arg.yielded (c.in-Some.arg ∷ [])));
    }

pub returns : goal.returns
returns c = let gives = YieldsList-from_vec c.args.args (grind (arith, common_steps)) (grind (arith, common_steps)) in
    let t = YieldsList-end gives c.loop-arg.yielded _ c.loop-arg.yielded_by _ c.next.new.self c.in-None.is c.next.ensures.steps in
    entered c.loop-arg.frame c.args.body c.loop-arg.yielded c.args.args c.loop-arg.invariant.body c.loop-arg.invariant.cells t.0
