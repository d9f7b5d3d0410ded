use Rattle.std.proofs.Common.{◌≡◌, ◌∙◌, ap, sym, map}
use Rattle.std.proofs.Math.ListN.{drop_of_length-le}
use Rattle.std.proofs.lemmas.Result.{on_ok_weaker}
use Rattle.pattern_lower.specs.Seen.{bound_of}
use Rattle.lower_code.specs.Code.{Innermost}
use Rattle.lower_code.specs.View.{ops_of}
use Rattle.lower_code.specs.Ops.{onto, entered_onto}
use Rattle.lower_code.specs.Forms.{declared}
use Rattle.lower_code.proofs.Following.{declared_onto, emptied_onto}
use Rattle.lower_code.proofs.blocks.declare_bindings.Goals as goal

pub returns : goal.returns
returns c =
    let bounds = map bound_of c.args.bindings.now in
    let all = drop_of_length-le c.args.bindings.now c.loop-binding-test.false in
    let emptied : ops_of c.loop-binding.code ≡ emptied_onto c.args.items.now bounds (ops_of c.args.code.now) =
    sym (ap (λ rest. emptied_onto c.args.items.now (map bound_of rest) (ops_of c.loop-binding.code)) all) ∙ c.loop-binding.invariant in
    let then_all : ops_of c.enter_bindings.new.code ≡ entered_onto Innermost bounds (ops_of c.loop-binding.code) → ops_of c.enter_bindings.new.code ≡ onto (declared c.args.items.now bounds) (ops_of c.args.code.now) =
    λ made. made ∙ ap (entered_onto Innermost bounds) emptied ∙ declared_onto c.args.items.now bounds (ops_of c.args.code.now) in
    on_ok_weaker c.enter_bindings.result then_all c.enter_bindings.ensures
