use Rattle.std.proofs.Common.{◌∙◌, ◌==◌, not, ℕ, List, length, ap, sym}
use Rattle.cfg_graph.specs.Places.{named}
use Rattle.drop_bodies.proofs.Counting.{opened-at, not-opened}
use Rattle.drop_bodies.proofs.counts.is_opened.Goals as goal

pub returns-in-Some : goal.returns-in-Some
returns-in-Some c =
    ap not (c.is_empty.ensures ∙ ap (λ (l : List ℕ). length l == 0) c.children.ensures)
    ∙ sym (opened-at (named c.args.place.now) c.args.forest.now.paths c.in-Some.path c.requires c.in-Some.ensures)

pub returns-in-None : goal.returns-in-None
returns-in-None c = sym (not-opened (named c.args.place.now) c.args.forest.now.paths c.in-None.ensures)
