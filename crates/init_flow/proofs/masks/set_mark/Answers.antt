use Rattle.std.proofs.Common.{◌≡◌, ◌<◌, Bool, true, false, length, List, Option, Some, None, refl, sym, ap, ◌∙◌, arith}
use Rattle.std.specs.Prelude.{slice_index_or, slice_set}
use Rattle.std.specs.Option.{is_some, option_map}
use Rattle.std.proofs.lemmas.Bool.{false≢true}
use Rattle.std.proofs.lemmas.List.{length-set}
use Rattle.init_flow.specs.Carried.{Bits}
use Rattle.init_flow.specs.Marks.{masks_from, single}
use Rattle.init_flow.proofs.Masking.{length-masks, marks-first, marks-none, marks-row, row-long}
use Rattle.init_flow.proofs.masks.set_mark.Goals as goal

there : (o : Option Bits) → is_some o ≡ true → (row : Bits) × (o ≡ Some row)
there None h = absurd (false≢true h)
there (Some row) h = (row, refl)

missing : (o : Option Bits) → is_some o ≡ false → o ≡ None
missing None h = refl
missing (Some row) h = absurd (false≢true (sym h))

pub mark_row-requires-clause-path : goal.mark_row-requires-clause-path
mark_row-requires-clause-path c = λ row is.
    let count = length-masks c.args.bits 0 c.args.rows.now in
    let long = c.requires.long in
    let of = c.requires.of in
    let within = c.requires.path in
    let as-long = row-long c.args.bits c.args.rows.now c.args.of c.args.path c.requires.long c.requires.of row is (c.requires.square c.args.of (omega (count, long, of, arith))) in
    omega (as-long, within, arith)

pub returns-then-has_row-clause-long : goal.returns-then-has_row-clause-long
returns-then-has_row-clause-long c = ap length c.mark_row.ensures ∙ length-set c.args.rows.now c.args.of _ ∙ c.requires.long

pub returns-then-has_row-clause-marked : goal.returns-then-has_row-clause-marked
returns-then-has_row-clause-marked c =
    let rows : List (Option Bits) = c.args.rows.now in
    let at = there (slice_index_or rows c.args.of None) (ap (λ (z : List (Option Bits)). is_some (slice_index_or z c.args.of None)) (sym c.as_slice.ensures) ∙ sym c.has_row.ensures ∙ c.if-has_row.true) in
    ap (masks_from c.args.bits 0) (c.mark_row.ensures ∙ ap (λ (o : Option Bits). slice_set rows c.args.of (option_map (λ (row : Bits). slice_set row c.args.path true) o)) at.1)
    ∙ marks-row c.args.bits rows c.args.of c.args.path c.requires.long c.requires.of at.0 at.1

pub returns-then-of-path-clause-marked : goal.returns-then-of-path-clause-marked
returns-then-of-path-clause-marked c =
    let rows : List (Option Bits) = c.args.rows.now in
    let none = missing (slice_index_or rows c.args.of None) (ap (λ (z : List (Option Bits)). is_some (slice_index_or z c.args.of None)) (sym c.as_slice.ensures) ∙ sym c.has_row.ensures ∙ c.if-has_row.false) in
    marks-none c.args.bits rows c.args.of c.args.path c.requires.long c.requires.of none c.if-of-path.true

pub returns-clause-long : goal.returns-clause-long
returns-clause-long c = ap length c.set.ensures ∙ length-set c.args.rows.now c.args.of _ ∙ c.requires.long

pub returns-clause-marked : goal.returns-clause-marked
returns-clause-marked c =
    let rows : List (Option Bits) = c.args.rows.now in
    let none = missing (slice_index_or rows c.args.of None) (ap (λ (z : List (Option Bits)). is_some (slice_index_or z c.args.of None)) (sym c.as_slice.ensures) ∙ sym c.has_row.ensures ∙ c.if-has_row.false) in
    ap (masks_from c.args.bits 0) c.set.ensures ∙ marks-first c.args.bits rows c.args.of c.args.path c.requires.long c.requires.of c.in_ok-row.row none c.in_ok-row.ensures
