use Rattle.std.proofs.Common.{◌≡◌, ◌&&◌, true, length, nat_lt, ap, sym, ◌∙◌, arith, List, Bool}
use Rattle.std.specs.Option.{is_some}
use Rattle.std.proofs.lemmas.Bool.{lt-ltb}
use Rattle.mir_ty.specs.declared.ty.TyId.{TyId}
use Rattle.cfg_graph.specs.Places.{named}
use Rattle.cfg_graph.specs.Moves.Gone.{counts, leaves_gone}
use Rattle.move_paths.specs.Uses.{use_of}
use Rattle.move_paths.specs.Watch.{is_watched}
use Rattle.move_paths.proofs.Watched.{counts-is}
use Rattle.move_paths.proofs.forest.makes_paths.Goals as goal

pub returns-then-changes : goal.returns-then-changes
returns-then-changes c =
    let body = c.args.body.now in
    let place = c.args.place.now in
    let changes : Bool = is_some (leaves_gone (use_of c.args.how)) in
    let watched : Bool = counts c.args.items.now body (named place) in
    let long = ap length c.as_slice-locals.ensures in
    let within = c.if-place-locals.true in
    let here : nat_lt place.local (length body.locals) ≡ true = lt-ltb place.local (length body.locals) (omega (long, within, arith)) in
    let made : changes ≡ true = sym c.changes.ensures ∙ c.if-changes.true in
    c.is_watched.ensures ∙ ap (λ (ls : List TyId). is_watched c.args.items.now ls place) c.as_slice-locals.ensures ∙ sym (counts-is c.args.items.now body place)
    ∙ sym (ap (λ (b : Bool). b && (changes && watched)) here ∙ ap (λ (b : Bool). b && watched) made)
