use Rattle.std.proofs.Common.{◌≡◌, Some, None, ap, sym, ◌∙◌, arith}
use Rattle.std.proofs.lemmas.Grind.{common_steps}
use Rattle.std.specs.Prelude.{slice_get}
use Rattle.machine_store.specs.Frames.{place_of, entry_of}
use Rattle.machine_store.proofs.Frames.{no_entry, entry_at, read_found}
use Rattle.machine_store.proofs.frame.MachineFrame.cell.Goals as goal

pub returns-in_err-place : goal.returns-in_err-place
returns-in_err-place c =
    let none : place_of c.args.key c.self.inside.entries ≡ None = sym (c.self.invariant c.args.key) ∙ sym c.place_of_local.ensures ∙ c.in_err-place.was in
    let missing = (no_entry c.args.key c.self.inside.entries none).missing in
    let same = ap (λ frame. entry_of c.args.key frame.1) c.self.view_is in
    cc

pub returns-in-Some : goal.returns-in-Some
returns-in-Some c =
    let at : place_of c.args.key c.self.inside.entries ≡ Some c.in_ok-place.place = sym (c.self.invariant c.args.key) ∙ sym c.place_of_local.ensures ∙ c.in_ok-place.was in
    let is : slice_get c.self.inside.entries c.in_ok-place.place ≡ Some c.in-Some.entry.now = grind (arith, common_steps) in
    sym (read_found c.args.key c.in_ok-place.place c.self.inside.entries c.in-Some.entry.now at is) ∙ ap (λ frame. entry_of c.args.key frame.1) c.self.view_is

pub returns-in-None : goal.returns-in-None
returns-in-None c =
    let at : place_of c.args.key c.self.inside.entries ≡ Some c.in_ok-place.place = sym (c.self.invariant c.args.key) ∙ sym c.place_of_local.ensures ∙ c.in_ok-place.was in
    let is = (entry_at c.args.key c.self.inside.entries c.in_ok-place.place at).is in
    let none : slice_get c.self.inside.entries c.in_ok-place.place ≡ None = grind (arith, common_steps) in
    absurd (cc)
