use Rattle.std.proofs.Common.{◌≡◌, ◌<◌, List, Option, Some, None, length, ap, sym, ◌∙◌, arith}
use Rattle.std.proofs.lemmas.Option.{slice_get_past}
use Rattle.init_flow.specs.Carried.{Bits}
use Rattle.init_flow.specs.Switches.{by_mask}
use Rattle.init_flow.proofs.Masking.{length-masks, mask-there}
use Rattle.init_flow.proofs.masks.Masks.turn.Goals as goal

pub returns-then-path-self : goal.returns-then-path-self
returns-then-path-self c =
    let count = length-masks c.self.inside.bits 0 c.self.inside.rows in
    let long = ap length c.self.view_is in
    let rows = c.self.invariant in
    let past = c.if-path-self.true in
    ap (λ (o : Option Bits). by_mask o c.args.on c.args.row.now) (sym (slice_get_past c.args.self.now c.args.path (omega (count, long, rows, past, arith))))

pub bounds-as_slice-path : goal.bounds-as_slice-path
bounds-as_slice-path c =
    let within = c.if-path-self.false in let rows = c.self.invariant in let same = ap length c.as_slice.ensures in omega (within, rows, same, arith)

pub returns-in-Some : goal.returns-in-Some
returns-in-Some c =
    c.turn.ensures
    ∙ ap (λ (o : Option Bits). by_mask o c.args.on c.args.row.now)
    (sym (mask-there c.self.inside.bits c.args.path c.self.inside.rows c.as_slice.result.now c.args.self.now c.self.view_is c.as_slice.ensures
    (let within = c.if-path-self.false in let rows = c.self.invariant in omega (within, rows, arith))
    (Some c.in-Some.mask) c.index-as_slice-path.result (sym c.in-Some.is ∙ c.index-as_slice-path.is)))

pub returns-in-None : goal.returns-in-None
returns-in-None c =
    c.turn_one.ensures
    ∙ ap (λ (o : Option Bits). by_mask o c.args.on c.args.row.now)
    (sym (mask-there c.self.inside.bits c.args.path c.self.inside.rows c.as_slice.result.now c.args.self.now c.self.view_is c.as_slice.ensures
    (let within = c.if-path-self.false in let rows = c.self.invariant in omega (within, rows, arith))
    None c.index-as_slice-path.result (sym c.in-None.is ∙ c.index-as_slice-path.is)))
