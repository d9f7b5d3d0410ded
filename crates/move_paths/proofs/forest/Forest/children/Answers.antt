use Rattle.std.proofs.Common.{◌<◌, List, ℕ, length, get_or, ap, ◌∙◌, arith}
use Rattle.move_paths.specs.Forest.{PathForest}
use Rattle.move_paths.proofs.Children.{children-at, length-children}
use Rattle.move_paths.proofs.forest.Forest.children.Goals as goal

pub bounds-as_slice-path : goal.bounds-as_slice-path
bounds-as_slice-path c =
    let same = ap length (c.as_slice.ensures ∙ c.self.invariant.1) in
    let long = length-children c.self.inside.trie in
    let within : c.args.path < length c.self.inside.trie = (let size = ap (λ (f : PathForest). length f.paths) c.self.view_is in let asked = c.requires in omega (size, asked, arith)) in
    omega (same, long, within, arith)

pub returns : goal.returns
returns c =
    let within : c.args.path < length c.self.inside.trie = (let size = ap (λ (f : PathForest). length f.paths) c.self.view_is in let asked = c.requires in omega (size, asked, arith)) in
    let list = c.index-as_slice-path.result in
    rw (← c.self.view_is)
    (c.as_slice-2.ensures ∙ c.index-as_slice-path.is
    ∙ ap (λ (z : List (List ℕ)). get_or z c.args.path list) (c.as_slice.ensures ∙ c.self.invariant.1)
    ∙ children-at c.self.inside.trie c.args.path list within)
