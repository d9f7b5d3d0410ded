use Rattle.std.proofs.Common.{◌≡◌, suc, Some, None, length, ap, sym, ◌∙◌, arith}
use Rattle.std.proofs.lemmas.Grind.{common_steps}
use Rattle.std.specs.Prelude.{slice_get}
use Rattle.machine_store.proofs.Activations.{is_frame, frame_count}
use Rattle.machine_steps.proofs.NumbersDone.{runs_last}
use Rattle.machine_steps.proofs.world.World.running.Goals as goal

pub returns-in-Some : goal.returns-in-Some
returns-in-Some c =
    let frames = c.args.self.now.store.frames in
    let frame : slice_get c.args.self.now.store.frames c.in_ok-depth.depth ≡ Some c.in-Some.frame.now = grind (arith, common_steps) in
    let n : c.len.result ≡ suc c.in_ok-depth.depth = grind (arith, common_steps) in
    let k = frame_count frames c.len.result c.len.ensures in
    let last : suc c.in_ok-depth.depth ≡ length c.args.self.now.store.frames = omega arith in
    ap Some c.body.ensures ∙ sym (runs_last frames c.in_ok-depth.depth c.in-Some.frame.now frame last)

pub returns-in-None : goal.returns-in-None
returns-in-None c =
    let none : slice_get c.args.self.now.store.frames c.in_ok-depth.depth ≡ None = grind (arith, common_steps) in
    let n : c.len.result ≡ suc c.in_ok-depth.depth = grind (arith, common_steps) in
    absurd (is_frame c.args.self.now.store.frames c.in_ok-depth.depth c.len.result c.len.ensures n none)
