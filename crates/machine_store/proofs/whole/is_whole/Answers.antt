use Rattle.std.proofs.Common.{◌≡◌, Some, None, ap, ◌∙◌, arith}
use Rattle.store_model.specs.Values.Access.{value_at}
use Rattle.store_model.specs.Values.Datum.{datum_of}
use Rattle.std.proofs.lemmas.Grind.{common_steps}
use Rattle.std.specs.Prelude.{slice_get}
use Rattle.machine_store.specs.Frames.{entry_of}
use Rattle.machine_store.specs.Standing.{standing}
use Rattle.machine_store.proofs.Wholes.{not_whole_nowhere, not_whole_unstored, stands_in_entry}
use Rattle.machine_store.proofs.whole.is_whole.Goals as goal

pub returns-in_default : goal.returns-in_default
returns-in_default c =
    let a = c.args.s.now.address in
    let none : slice_get c.args.store.now.frames c.args.s.now.address.depth ≡ None = grind (arith, common_steps) in
    not_whole_nowhere c.args.store.now.frames a.depth a.key.0 a.path (standing c.args.s.now.value) c.requires none

pub returns-in-Some-cell : goal.returns-in-Some-cell
returns-in-Some-cell c =
    let a = c.args.s.now.address in
    let frame : slice_get c.args.store.now.frames c.args.s.now.address.depth ≡ Some c.in-Some.frame.now = grind (arith, common_steps) in
    let entry : entry_of c.args.s.now.address.key.0 c.in-Some.frame.now.1 ≡ Some c.in-Some-cell.cell.now = grind (arith, common_steps) in
    c.is_whole_at.ensures (standing c.args.s.now.value)
    (ap (λ path. value_at path (datum_of c.in-Some-cell.cell.now)) c.as_slice.ensures ∙ stands_in_entry c.args.store.now.frames a.depth a.key.0 a.path (standing c.args.s.now.value) c.requires c.in-Some.frame.now frame c.in-Some-cell.cell.now entry)

pub returns-in-None : goal.returns-in-None
returns-in-None c =
    let a = c.args.s.now.address in
    let frame : slice_get c.args.store.now.frames c.args.s.now.address.depth ≡ Some c.in-Some.frame.now = grind (arith, common_steps) in
    let none : entry_of c.args.s.now.address.key.0 c.in-Some.frame.now.1 ≡ None = grind (arith, common_steps) in
    not_whole_unstored c.args.store.now.frames a.depth a.key.0 a.path (standing c.args.s.now.value) c.requires c.in-Some.frame.now frame none
