use Rattle.std.proofs.Common.{◌+◌, List, ℕ, sym, ◌∙◌, subst, arith}
use Rattle.std.proofs.lemmas.Option.{slice_get_within}
use Rattle.move_paths.proofs.Children.{Listed, listed-none, listed-root, listed-more, listed-all}
use Rattle.move_paths.proofs.forest.children_in.Goals as goal
use Rattle.move_paths.proofs.forest.children_in.Goals.{in-Some+in_ok-add_child, in_default}

pub loop-path-init : goal.loop-path-init
loop-path-init c = subst (λ (z : List (List ℕ)). Listed c.args.trie.now z 0) (sym c.in_ok-lists.ensures) (listed-none c.args.trie.now c.len-count.result c.len-count.ensures.len)

pub loop-path-preserved : goal.loop-path-preserved
loop-path-preserved c =
    elim c.match-parent.branch [
      | in-Some+in_ok-add_child w ↦
          subst (λ (z : List (List ℕ)). Listed c.args.trie.now z (c.loop-path.path + 1)) (sym w.in_ok-add_child.ensures ∙ sym w.lists-is)
          (listed-more c.args.trie.now c.len-count.ensures.once c.loop-path.lists c.loop-path.path c.loop-path.invariant w.in-Some.upper
          (slice_get_within c.args.trie.now w.in-Some.upper w.in-Some.ensures.place w.in-Some.ensures.above) w.in-Some.ensures)
      | in_default w ↦
          subst (λ (z : List (List ℕ)). Listed c.args.trie.now z (c.loop-path.path + 1)) (sym w.lists-is)
          (listed-root c.args.trie.now c.len-count.ensures.once c.loop-path.lists c.loop-path.path c.loop-path.invariant w.in_default.ensures)
    ]

pub returns : goal.returns
returns c =
    listed-all c.args.trie.now c.loop-path.lists c.loop-path.path
    (let far = c.loop-path-test.false in let end = c.loop-path.auto.path-end in let count = c.len-count.ensures.len in omega (far, end, count, arith))
    c.loop-path.invariant
