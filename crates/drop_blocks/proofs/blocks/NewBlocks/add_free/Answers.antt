use Rattle.std.proofs.Common.{◌≡◌, ◌∙◌, ◌∷◌, [], ◌++◌}
use Rattle.std.proofs.lemmas.Result.{IfOk-weaker}
use Rattle.cfg_graph.specs.declared.statement.Stmt.{Stmt}
use Rattle.cfg_graph.specs.declared.terminator.Term.{Term}
use Rattle.drop_blocks.specs.Ladders.{made_of, with_one}
use Rattle.drop_blocks.proofs.blocks.NewBlocks.add_free.Goals as goal

pub returns : goal.returns
returns c =
    let stmts : c.push.new.self ≡ Stmt.Free c.args.place.now ∷ [] =
    c.in_ok-push.ensures.pushed ∙ (λ i. c.new-stmts.ensures i ++ Stmt.Free (c.in_ok-place.ensures i) ∷ []) in
    IfOk-weaker c.add.result _ _
    (λ number made. made
    ∙ (λ i. with_one c.args.kind (stmts i) (Term.Goto c.args.to) (made_of c.args.self.now))) c.add.ensures
