use Rattle.std.proofs.Common.{Contains, ◌∙◌, sym, subst}
use Rattle.mir_ty.proofs.Numbers.{insert_key-new}
use Rattle.move_paths.specs.Trie.{AreOnce}
use Rattle.move_paths.specs.contracts.parts.PathPartPartialEq.TheImpl as part
use Rattle.move_paths.proofs.Growth.{once-push}
use Rattle.move_paths.proofs.PartEq.{decides}
use Rattle.move_paths.proofs.parts.Parts.push.Goals as goal

pub invariant_of-self-2 : goal.invariant_of-self-2
invariant_of-self-2 c =
    let parts = c.self.inside.parts.keys in
    let absent : ¬ Contains parts c.args.part = rw c.self.view_is c.requires in
    let pushed = c.in_ok-insert.ensures.keys ∙ insert_key-new part.ghosts.eq decides parts c.args.part absent in
    subst AreOnce (sym pushed) (once-push parts c.args.part c.self.invariant absent)

pub returns-clause-pushed : goal.returns-clause-pushed
returns-clause-pushed c =
    let parts = c.self.inside.parts.keys in
    let absent : ¬ Contains parts c.args.part = rw c.self.view_is c.requires in
    rw (← c.self.view_is) (c.in_ok-insert.ensures.keys ∙ insert_key-new part.ghosts.eq decides parts c.args.part absent)
