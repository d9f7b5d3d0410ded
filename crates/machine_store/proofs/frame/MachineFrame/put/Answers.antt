use Rattle.std.proofs.Common.{◌≡◌, Some, None, ap, sym, subst, ◌∙◌}
use Rattle.std.specs.Prelude.{slice_set}
use Rattle.store_model.specs.Concrete.State.{cell, with_cell}
use Rattle.store_model.specs.Values.Access.{replaced}
use Rattle.store_model.specs.Values.Datum.{datum_of}
use Rattle.machine_store.specs.Frames.{place_of, cells_of}
use Rattle.machine_store.proofs.Frames.{within_entries, read_stands, read_changed, read_kept, store_added}
use Rattle.std.proofs.lemmas.Result.{on_ok_weaker}
use Rattle.machine_store.proofs.frame.MachineFrame.put.Goals as goal

pub element_mut-requires : goal.element_mut-requires
element_mut-requires c =
    within_entries c.args.key c.in-Some.number c.self.inside.entries (sym (c.self.invariant c.args.key) ∙ sym c.place_of_local.ensures ∙ c.in-Some.is)

pub invariant_of-self : goal.invariant_of-self
invariant_of-self c =
    let at : place_of c.args.key c.self.inside.entries ≡ Some c.in-Some.number = sym (c.self.invariant c.args.key) ∙ sym c.place_of_local.ensures ∙ c.in-Some.is in
    λ key. c.self.invariant key ∙ sym (read_kept c.args.key c.in-Some.number c.self.inside.entries c.element_mut.result.now at c.element_mut.ensures.value c.put.new.self key)

pub returns-in-Some-clause-cells : goal.returns-in-Some-clause-cells
returns-in-Some-clause-cells c =
    let at : place_of c.args.key c.self.inside.entries ≡ Some c.in-Some.number = sym (c.self.invariant c.args.key) ∙ sym c.place_of_local.ensures ∙ c.in-Some.is in
    let stands = read_stands c.args.key c.in-Some.number c.self.inside.entries c.element_mut.result.now at c.element_mut.ensures.value in
    let changed = read_changed c.args.key c.in-Some.number c.self.inside.entries c.element_mut.result.now at c.element_mut.ensures.value c.put.new.self in
    subst (λ frame. cells_of (slice_set c.self.inside.entries c.in-Some.number (record { key = c.element_mut.result.now.key; cell = c.put.new.self }))
    ≡ with_cell c.args.key (replaced c.args.place.now (datum_of c.args.value) (cell c.args.key (cells_of frame.1))) (cells_of frame.1)) c.self.view_is
    (changed ∙ ap (λ d. with_cell c.args.key d (cells_of c.self.inside.entries)) (c.put.ensures ∙ ap (replaced c.args.place.now (datum_of c.args.value)) (sym stands)))

pub returns-in_ok-cell-in-None-clause-cells : goal.returns-in_ok-cell-in-None-clause-cells
returns-in_ok-cell-in-None-clause-cells c =
    let none : place_of c.args.key c.args.self.now.1 ≡ None =
    ap (λ frame. place_of c.args.key frame.1) (sym c.self.view_is) ∙ sym (c.self.invariant c.args.key) ∙ sym c.place_of_local.ensures ∙ c.in-None.is
    in
    on_ok_weaker c.add.result
    (store_added c.args.self.now c.args.key c.in_ok-cell-in-None.cell (replaced c.args.place.now (datum_of c.args.value)) none c.in_ok-cell-in-None.ensures c.add.new.self)
    c.add.ensures.added
