use Rattle.std.proofs.Common.{◌≡◌, List, length, flat_map, ap, sym, ◌∙◌, subst}
use Rattle.mir_ty.specs.declared.ty.TyId.{TyId}
use Rattle.store_model.specs.Places.Place.{Place}
use Rattle.move_paths.specs.Trie.{AreOnce, places, roots}
use Rattle.move_paths.specs.Forest.{IsForest, all_children, IsRooted, Names, HasLocals}
use Rattle.move_paths.specs.Uses.{block_uses}
use Rattle.move_paths.proofs.Finding.{has-roots, is-forest, is-rooted}
use Rattle.move_paths.proofs.forest.forest_of.Goals as goal
use Rattle.move_paths.proofs.forest.forest_of.Goals.{In_ok-copy_types}

pub add_blocks-requires : goal.add_blocks-requires
add_blocks-requires c =
    let count = c.in-Ok.ensures.1 ∙ c.len.ensures in
    subst (HasLocals c.args.body.now) (ap roots (sym count) ∙ sym c.new-trie.ensures) (has-roots c.args.items.now c.args.body.now)

named : (c : In_ok-copy_types) → Names c.args.items.now c.args.body.now (roots (length c.args.body.now.locals)) c.add_blocks.new.trie (flat_map block_uses c.args.body.now.blocks)
named c =
    let count = c.in-Ok.ensures.1 ∙ c.len.ensures in
    subst (λ (z : List Place). Names c.args.items.now c.args.body.now z c.add_blocks.new.trie (flat_map block_uses c.args.body.now.blocks)) (c.new-trie.ensures ∙ ap roots count) c.in_ok-add_blocks.ensures

pub invariant_of-result-2 : goal.invariant_of-result-2
invariant_of-result-2 c =
    let tys : c.in_ok-copy_types.field-0 ≡ c.args.body.now.locals = c.in_ok-copy_types.ensures ∙ c.as_slice.ensures in (
      subst (λ (z : List TyId). IsRooted z (places c.trie.inside.locals c.trie.inside.parts)) (sym tys)
          (subst (IsRooted c.args.body.now.locals) (sym c.trie.view_is) (is-rooted c.args.items.now c.args.body.now c.add_blocks.new.trie (named c))),
      c.in_ok-children.ensures ∙ ap all_children (sym c.trie.view_is),
    )

pub returns : goal.returns
returns c =
    let tys : c.in_ok-copy_types.field-0 ≡ c.args.body.now.locals = c.in_ok-copy_types.ensures ∙ c.as_slice.ensures in
    let once : AreOnce c.add_blocks.new.trie = c.len-2.ensures.once in
    subst (λ (z : List TyId). IsForest c.args.items.now c.args.body.now (record { tys = z; paths = places c.trie.inside.locals c.trie.inside.parts })) (sym tys)
    (subst (λ (z : List Place). IsForest c.args.items.now c.args.body.now (record { tys = c.args.body.now.locals; paths = z })) (sym c.trie.view_is) (is-forest c.args.items.now c.args.body.now c.add_blocks.new.trie (named c) once))
