use Rattle.std.proofs.Common.{◌≡◌, ◌≢◌, length, ap, sym, ◌∙◌, arith}
use Rattle.std.proofs.lemmas.List.{length-map}
use Rattle.cfg_graph.specs.Places.{named, named_step}
use Rattle.move_paths.proofs.Finding.{reached-exact, reached-none}
use Rattle.move_paths.proofs.forest.Forest.exact.Goals as goal

pub returns-else-near-as_slice : goal.returns-else-near-as_slice
returns-else-near-as_slice c =
    let part : c.nearest-near.result.depth ≢ length (named c.args.place.now).steps =
    (λ e. c.if-near-as_slice.false (e ∙ length-map c.args.place.now.steps named_step ∙ ap length (sym c.as_slice.ensures))) in
    rw (← c.self.view_is) (reached-none c.self.inside.trie (named c.args.place.now) c.nearest-near.result c.nearest-near.ensures part)

pub returns-then-near-as_slice : goal.returns-then-near-as_slice
returns-then-near-as_slice c =
    let whole : c.nearest-near.result.depth ≡ length (named c.args.place.now).steps =
    c.if-near-as_slice.true ∙ ap length c.as_slice.ensures ∙ sym (length-map c.args.place.now.steps named_step) in
    rw (← c.self.view_is) (reached-exact c.self.inside.trie (named c.args.place.now) c.nearest-near.result c.nearest-near.ensures whole)

pub returns-then-place-len : goal.returns-then-place-len
returns-then-place-len c =
    rw (← c.self.view_is) (λ has. let within = c.self.invariant.0.locals (named c.args.place.now) has in let past = c.if-place-len.true in let count = c.len.ensures in omega (within, past, count, arith))
