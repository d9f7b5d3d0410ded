use Rattle.std.proofs.Common.{rules, ◌≡◌, List, Option, ℕ, map, subst}
use Rattle.std.proofs.lemmas.Result.{on_ok_weaker}
use Rattle.lower_passes.specs.Framed.{frame_of}
use Rattle.lower_passes.specs.Reaching.{AreReaches}
use Rattle.lower_code.specs.Forms.{entire_function}
use Rattle.lower_code.specs.View.{op_of}
use Rattle.typed_tree.specs.View.{body_of}
use Rattle.cfg_build.proofs.Whole.{whole}
use Rattle.cfg_build.proofs.bodies.build_body.Goals as goal

pub build_entire-requires : goal.build_entire-requires
build_entire-requires c = λ f.
    let slice : c.in_ok-reaches.reaches ≡ c.as_slice-3.result.now = search rules in
    subst (λ (rs : List (Option ℕ)). AreReaches f (map op_of c.as_slice.result.now) c.as_slice-2.result.now rs) slice (c.in_ok-reaches.ensures f)

pub returns : goal.returns
returns c =
    let words : c.as_slice.result.now ≡ c.in_ok-code.code.ops = search rules in
    let marks : c.as_slice-2.result.now ≡ c.in_ok-marks.marks = search rules in
    on_ok_weaker c.build_entire.result
    (λ made begins. made
    (whole (frame_of c.args.frame) (body_of c.args.body.now) c.in_ok-code.code.ops c.as_slice.result.now c.in_ok-marks.marks c.as_slice-2.result.now words marks
    (c.in_ok-marks.ensures (entire_function c.args.frame.items.now (body_of c.args.body.now)) c.in_ok-code.ensures.code)) begins) c.build_entire.ensures
