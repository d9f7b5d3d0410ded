use Rattle.std.proofs.Common.{◌≡◌, ◌≢◌, List, false, length, map, slice_get, ap, sym, ◌∙◌}
use Rattle.std.proofs.lemmas.List.{length-map}
use Rattle.mir_ty.specs.declared.ty.TyId.{TyId}
use Rattle.cfg_graph.specs.Places.{named, named_step}
use Rattle.move_paths.specs.Watch.{goes_through_reference}
use Rattle.move_paths.proofs.Finding.{reached-exact, reached-above}
use Rattle.move_paths.proofs.forest.Forest.find.Goals as goal

pub returns-else-near-as_slice : goal.returns-else-near-as_slice
returns-else-near-as_slice c =
    let steps = map named_step c.args.place.now.steps in
    let through : goes_through_reference c.args.items.now (slice_get c.self.inside.tys c.args.place.now.local) steps ≡ false =
    ap (λ (z : List TyId). goes_through_reference c.args.items.now (slice_get z c.args.place.now.local) steps) (sym c.as_slice.ensures) ∙ sym c.is_behind_reference.ensures ∙ c.if-is_behind_reference.false in
    let part : c.nearest-near.result.depth ≢ length (named c.args.place.now).steps =
    (λ e. c.if-near-as_slice.false (e ∙ length-map c.args.place.now.steps named_step ∙ ap length (sym c.as_slice-2.ensures))) in
    rw (← c.self.view_is) (through, reached-above c.self.inside.trie (named c.args.place.now) c.nearest-near.result c.nearest-near.ensures part)

pub returns-then-near-as_slice : goal.returns-then-near-as_slice
returns-then-near-as_slice c =
    let steps = map named_step c.args.place.now.steps in
    let through : goes_through_reference c.args.items.now (slice_get c.self.inside.tys c.args.place.now.local) steps ≡ false =
    ap (λ (z : List TyId). goes_through_reference c.args.items.now (slice_get z c.args.place.now.local) steps) (sym c.as_slice.ensures) ∙ sym c.is_behind_reference.ensures ∙ c.if-is_behind_reference.false in
    let whole : c.nearest-near.result.depth ≡ length (named c.args.place.now).steps =
    c.if-near-as_slice.true ∙ ap length c.as_slice-2.ensures ∙ sym (length-map c.args.place.now.steps named_step) in
    rw (← c.self.view_is) (through, reached-exact c.self.inside.trie (named c.args.place.now) c.nearest-near.result c.nearest-near.ensures whole)
