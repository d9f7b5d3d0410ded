use Rattle.std.proofs.Common.{◌∙◌, []}
use Rattle.std.proofs.lemmas.Result.{IfOk-weaker}
use Rattle.cfg_graph.specs.declared.terminator.Term.{Term}
use Rattle.drop_elaborate.specs.Ladder.{unwind_in}
use Rattle.drop_blocks.specs.Ladders.{ending_of, made_of, with_one}
use Rattle.drop_blocks.proofs.blocks.NewBlocks.add_drop.Goals as goal

pub returns : goal.returns
returns c =
    IfOk-weaker c.add.result _ _
    (λ number made. made
    ∙ (λ i. with_one c.args.kind (c.new.ensures i)
    (Term.DropAt (c.in_ok-place.ensures i) c.args.to (c.unwind_in-unwind.ensures i)) (made_of c.args.self.now))) c.add.ensures
