use Rattle.std.proofs.Common.{◌≡◌, ◌+◌, ◌++◌, ◌<◌, List, length, take, get_or, map, flat_map, ap, sym, ◌∙◌, subst, arith}
use Rattle.std.proofs.lemmas.List.{append_assoc}
use Rattle.cfg_graph.specs.declared.place.Place.{Place}
use Rattle.cfg_graph.specs.declared.graph.Block.{Block}
use Rattle.cfg_graph.specs.Uses.{PlaceUse, Stores, stmt_uses, term_uses, stored_by_term}
use Rattle.move_paths.specs.declared.uses.Used.{Used}
use Rattle.move_paths.specs.Forest.{Names}
use Rattle.move_paths.specs.Uses.{block_uses, inner_uses, listed}
use Rattle.move_paths.proofs.Naming.{names-more, locals-kept, flat_map-more}
use Rattle.move_paths.proofs.forest.add_blocks.Goals as goal

pub add_uses-requires : goal.add_uses-requires
add_uses-requires c =
    locals-kept c.args.items.now c.args.body.now c.args.trie.now c.loop-block.trie (flat_map block_uses (take c.loop-block.block-index c.args.body.now.blocks)) c.loop-block.invariant c.requires

pub add_result-requires : goal.add_result-requires
add_result-requires c =
    locals-kept c.args.items.now c.args.body.now c.loop-block.trie c.add_uses.new.trie (listed c.as_slice.result.now) c.in_ok-add_uses.ensures
    (locals-kept c.args.items.now c.args.body.now c.args.trie.now c.loop-block.trie (flat_map block_uses (take c.loop-block.block-index c.args.body.now.blocks)) c.loop-block.invariant c.requires)

pub loop-block-preserved : goal.loop-block-preserved
loop-block-preserved c =
    let items = c.args.items.now in
    let body = c.args.body.now in
    let item : Block = c.block-item.result in
    let i = c.loop-block.block-index in
    let before : List (PlaceUse × Place) = flat_map block_uses (take i body.blocks) in
    let last : List (PlaceUse × Place) = map (λ (place : Place). (Stores, place)) (stored_by_term item.term) in
    let blocks = c.as_slice-block-items.ensures in
    let within : i < length body.blocks = (let k = ap length blocks in let t = c.loop-block-test.true in omega (k, t, arith)) in
    let is : get_or body.blocks i item ≡ item = ap (λ (z : List Block). get_or z i item) (sym blocks) ∙ sym c.block-item.is in
    let more : flat_map block_uses (take (i + 1) body.blocks) ≡ before ++ block_uses item =
    flat_map-more block_uses body.blocks i item within ∙ ap (λ (block : Block). before ++ block_uses block) is in
    let inner : listed c.as_slice.result.now ≡ inner_uses item = ap listed c.as_slice.ensures ∙ c.in_ok-add_inner_uses.ensures ∙ ap (λ (z : List Used). listed z ++ inner_uses item) c.truncate.ensures in
    let all : inner_uses item ++ last ≡ block_uses item = append_assoc (flat_map stmt_uses item.stmts) (term_uses item.term) last in
    subst (Names items body c.args.trie.now c.add_result.new.trie) (sym more)
    (names-more items body c.args.trie.now c.loop-block.trie c.add_result.new.trie before (block_uses item) c.loop-block.invariant
    (subst (Names items body c.loop-block.trie c.add_result.new.trie) all
    (names-more items body c.loop-block.trie c.add_uses.new.trie c.add_result.new.trie (inner_uses item) last
    (subst (Names items body c.loop-block.trie c.add_uses.new.trie) inner c.in_ok-add_uses.ensures)
    c.in_ok-add_result.ensures)))
