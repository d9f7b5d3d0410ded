use Rattle.std.proofs.Common.{◌∙◌, []}
use Rattle.std.proofs.lemmas.Result.{IfOk-weaker}
use Rattle.cfg_graph.specs.declared.terminator.Term.{Term}
use Rattle.drop_blocks.specs.Ladders.{made_of, with_one}
use Rattle.drop_blocks.proofs.blocks.NewBlocks.add_case.Goals as goal

pub returns : goal.returns
returns c =
    IfOk-weaker c.add.result _ _
    (λ number made. made
    ∙ (λ i. with_one c.args.kind (c.new.ensures i)
    (Term.Case (c.in_ok-on.ensures i) c.args.variant c.args.there c.args.other) (made_of c.args.self.now))) c.add.ensures
