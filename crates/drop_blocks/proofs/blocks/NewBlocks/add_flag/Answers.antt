use Rattle.std.proofs.Common.{◌∙◌, []}
use Rattle.std.proofs.lemmas.Result.{IfOk-weaker}
use Rattle.cfg_graph.specs.declared.place.Operand.{Operand}
use Rattle.cfg_graph.specs.declared.terminator.Term.{Term}
use Rattle.drop_elaborate.specs.Ladder.{local_place}
use Rattle.drop_blocks.specs.Ladders.{made_of, with_one}
use Rattle.drop_blocks.proofs.blocks.NewBlocks.add_flag.Goals as goal

pub returns : goal.returns
returns c =
    IfOk-weaker c.add.result _ _
    (λ number made. made
    ∙ (λ i. with_one c.args.kind (c.new.ensures i)
    (Term.If (Operand.Copied (c.whole_local.ensures i)) c.args.there c.args.to) (made_of c.args.self.now))) c.add.ensures
