use Rattle.std.proofs.Common.{◌≡◌, ◌∙◌, ap, sym, map}
use Rattle.std.proofs.Math.ListN.{drop_of_length-le}
use Rattle.std.proofs.lemmas.Result.{on_ok_weaker}
use Rattle.typed_tree.specs.View.{param_tree}
use Rattle.lower_code.specs.Forms.{params_entered}
use Rattle.lower_code.specs.Ops.{onto, params_onto}
use Rattle.lower_code.specs.View.{ops_of}
use Rattle.lower_forms.proofs.Params.{params_are, names_onto}
use Rattle.lower_forms.proofs.bodies.params_entered.Goals as goal

pub returns : goal.returns
returns c =
    let params = map param_tree c.args.params.now in
    let all = drop_of_length-le c.args.params.now c.loop-param-test.false in
    let named : ops_of c.loop-param.code ≡ names_onto c.args.items.now params (ops_of c.args.code.now) =
    sym (ap (λ rest. names_onto c.args.items.now (map param_tree rest) (ops_of c.loop-param.code)) all) ∙ c.loop-param.invariant in
    let then_all : ops_of c.params_behind.new.code ≡ params_onto params (ops_of c.loop-param.code) → ops_of c.params_behind.new.code ≡ onto (params_entered c.args.items.now params) (ops_of c.args.code.now) =
    λ made. made ∙ ap (params_onto params) named ∙ params_are c.args.items.now params (ops_of c.args.code.now) in
    on_ok_weaker c.params_behind.result then_all c.params_behind.ensures
