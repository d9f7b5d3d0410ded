use Rattle.std.proofs.Common.{◌≡◌, ◌<◌, List, Option, Some, None, length, ap, sym, ◌∙◌, arith}
use Rattle.bit_rows.specs.Words.{any_both}
use Rattle.init_flow.specs.Carried.{Bits}
use Rattle.init_flow.proofs.Masking.{length-masks, mask-is}
use Rattle.init_flow.proofs.masks.Masks.meets.Goals as goal

pub bounds-as_slice-path : goal.bounds-as_slice-path
bounds-as_slice-path c =
    let count = length-masks c.self.inside.bits 0 c.self.inside.rows in
    let long = ap length c.self.view_is in
    let within = c.requires.path in
    let same = ap length c.as_slice.ensures in
    omega (count, long, within, same, arith)

pub meets-requires : goal.meets-requires
meets-requires c =
    sym (c.requires.mask ∙ ap length (mask-is c.self.inside.bits c.args.path c.self.inside.rows c.as_slice.result.now c.args.self.now c.self.view_is c.as_slice.ensures
    (let count = length-masks c.self.inside.bits 0 c.self.inside.rows in let long = ap length c.self.view_is in let within = c.requires.path in omega (count, long, within, arith))
    (Some c.in-Some.mask) c.index-as_slice-path.result (sym c.in-Some.is ∙ c.index-as_slice-path.is)))

pub returns-in-Some : goal.returns-in-Some
returns-in-Some c =
    c.meets.ensures
    ∙ ap (λ (z : Bits). any_both z c.args.row.now) (sym (mask-is c.self.inside.bits c.args.path c.self.inside.rows c.as_slice.result.now c.args.self.now c.self.view_is c.as_slice.ensures
    (let count = length-masks c.self.inside.bits 0 c.self.inside.rows in let long = ap length c.self.view_is in let within = c.requires.path in omega (count, long, within, arith))
    (Some c.in-Some.mask) c.index-as_slice-path.result (sym c.in-Some.is ∙ c.index-as_slice-path.is)))

pub returns-in-None : goal.returns-in-None
returns-in-None c =
    c.is_on.ensures
    ∙ ap (λ (z : Bits). any_both z c.args.row.now) (sym (mask-is c.self.inside.bits c.args.path c.self.inside.rows c.as_slice.result.now c.args.self.now c.self.view_is c.as_slice.ensures
    (let count = length-masks c.self.inside.bits 0 c.self.inside.rows in let long = ap length c.self.view_is in let within = c.requires.path in omega (count, long, within, arith))
    None c.index-as_slice-path.result (sym c.in-None.is ∙ c.index-as_slice-path.is)))

pub is_on-requires-clause-row : goal.is_on-requires-clause-row
is_on-requires-clause-row c =
    c.requires.paths ∙ sym (ap length c.self.view_is) ∙ length-masks c.self.inside.bits 0 c.self.inside.rows ∙ c.self.invariant

pub is_on-requires-clause-path : goal.is_on-requires-clause-path
is_on-requires-clause-path c =
    let count = length-masks c.self.inside.bits 0 c.self.inside.rows in
    let long = ap length c.self.view_is in
    let within = c.requires.path in
    let rows = c.self.invariant in
    omega (count, long, within, rows, arith)
