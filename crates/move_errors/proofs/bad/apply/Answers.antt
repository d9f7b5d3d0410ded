use Rattle.std.proofs.Common.{length, if◌then◌else◌, Option, Bool, sym, ap, ◌∙◌}
use Rattle.std.proofs.lemmas.Bool.{eq-eqb}
use Rattle.std.proofs.lemmas.List.{length-map}
use Rattle.cfg_graph.specs.Places.{named}
use Rattle.cfg_graph.specs.Moves.Gone.{is_at_or_above}
use Rattle.bit_rows.specs.Words.{union, difference}
use Rattle.init_flow.specs.Carried.{Bits}
use Rattle.move_paths.specs.Uses.{use_of}
use Rattle.init_flow.specs.Moved.{mask_of}
use Rattle.init_flow.specs.Switches.{by_mask}
use Rattle.move_errors.proofs.Leaving.{applied-nothing, applied-mask, applied}
use Rattle.move_errors.proofs.bad.apply.Goals as goal

pub returns-in_default : goal.returns-in_default
returns-in_default c =
    let w = c.args.watch.now in
    applied-nothing w.items.now w.body.now w.forest w.below c.requires.watched (use_of c.args.how, c.args.place.now) c.args.row.now c.switch_of.result c.requires.used c.requires.row c.switch_of.ensures c.in_default.is

pub returns-in-Some : goal.returns-in-Some
returns-in-Some c =
    let w = c.args.watch.now in
    let on = c.in-Some.switch.on in
    let row : Bits = c.args.row.now in
    let mask : Bits = mask_of w.forest.paths (named c.args.place.now) in
    let got = applied-mask w.items.now w.body.now w.forest w.below c.requires.watched (use_of c.args.how, c.args.place.now) c.switch_of.result c.in-Some.switch c.switch_of.ensures c.in-Some.is in
    c.turn.ensures ∙ ap (λ (z : Option Bits). by_mask z on row) got
    ∙ ap (λ (b : Bool). if b then (if on then union mask row else difference mask row) else row)
    (eq-eqb (length mask) (length row) (length-map w.forest.paths (is_at_or_above (named c.args.place.now)) ∙ sym c.requires.row))
    ∙ applied w.items.now w.body.now w.forest w.below c.requires.watched (use_of c.args.how, c.args.place.now) row c.switch_of.result c.in-Some.switch c.requires.row c.switch_of.ensures c.in-Some.is
