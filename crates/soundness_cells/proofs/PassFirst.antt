-- In a well typed program a checked run of a body is its marked run, wherever that does not end by a mark; and it never
-- ends by the first.
use Rattle.std.proofs.Common.{◌≡◌, ◌⊎◌, inl, inr, ℕ, zero, suc, ◌+◌, List, [], ◌∷◌, Some, slice_get, refl, sym, subst, arith}
use Rattle.std.proofs.lemmas.Bool.{false≢true}
use Rattle.std.proofs.lemmas.Option.{none-some, same_Some}
use Rattle.mir_ty.specs.declared.def.Sig.{Sig}
use Rattle.mir_ty.specs.ItemTable.{ItemTable}
use Rattle.store_model.specs.Abstract.Effects.{abstract_effects}
use Rattle.store_model.specs.Effects.{Halt, Aborted, OutOfTicks, Stuck, StuckAt, BadUse, BadStore, NoChoice, Infeasible, Unreachable, Out, Go, Unwind, Halts}
use Rattle.typed_tree.specs.Tree.{BodyTree, ProgramTree}
use Rattle.src_meaning.specs.Locals.Effects.{at_locals}
use Rattle.src_meaning.specs.Locals.OfBody.{local_of, local_ty}
use Rattle.src_meaning.specs.Programs.{activation}
use Rattle.well_typed.specs.Claim.{Holds}
use Rattle.well_typed.specs.Program.{WellTyped, are_bodies, is_body}
use Rattle.soundness_values.proofs.Checked.{Checking, checked_effects}
use Rattle.soundness_values.proofs.CheckedBodies.{checks_of}
use Rattle.soundness_values.proofs.Facts.{Facts}
use Rattle.soundness_values.proofs.Leaving.{ShownOut}
use Rattle.soundness_cells.proofs.PassCellEffects.{marked_run, may_end}
use Rattle.soundness_cells.proofs.PassCellEnds.{ends_well}
use Rattle.soundness_cells.proofs.PassCellItems.{told}
use Rattle.soundness_cells.proofs.PassCellPatterns.{Told}
use Rattle.soundness_cells.proofs.PassCellTests.{cell_marks, marks_stand}
use Rattle.soundness_cells.proofs.PassMarks.{Unmarked, unmarked_run}

-- each body has the head of its number
pub body_at : (items : ItemTable) (m : ℕ) (sigs : List Sig) (bodies : List BodyTree) →
    Holds (are_bodies items m sigs bodies) → (n : ℕ) (body : BodyTree) → slice_get bodies n ≡ Some body →
    (sig : Sig) × ((slice_get sigs n ≡ Some sig) × Holds (is_body items (m + n) sig body))
body_at items m [] [] h n body e = absurd (none-some body e)
body_at items m [] (b ∷ bodies) h n body e = absurd (false≢true h)
body_at items m (sig ∷ sigs) [] h n body e = absurd (none-some body e)
body_at items m (sig ∷ sigs) (b ∷ bodies) h zero body e =
    let same : m ≡ m + 0 = omega arith in (
      sig,
      (
        refl,
        subst (λ k. Holds (is_body items k sig body)) same
            (subst (λ x. Holds (is_body items m sig x)) (same_Some b body e) h.0),
      ),
    )
body_at items m (sig ∷ sigs) (b ∷ bodies) h (suc n) body e =
    let later = body_at items (suc m) sigs bodies h.1 n body e in
    let same : suc m + n ≡ m + suc n = omega arith in
    (later.0, (later.1.0, subst (λ k. Holds (is_body items k later.0 body)) same later.1.1))

module _ (p : ProgramTree) (typed : WellTyped p) (n : ℕ) (body : BodyTree) (at : slice_get p.bodies n ≡ Some body)
    (fuel : ℕ) (v : Checking Facts) where
  abbrev marked : Out (Checking Facts)
  marked = activation p.items (marked_run p.items body) fuel body v

  abbrev checked : Out (Checking Facts)
  checked = activation p.items (at_locals (local_of p.items body)
      (checked_effects (checks_of p.items body) (abstract_effects p.items (local_ty p.items body)))) fuel body v

  pub first_holds : ShownOut may_end (λ w. Unit {0}) (λ w. Unit {0}) marked
  first_holds =
      let known : Told p.items = told p typed in
      let b = body_at p.items 0 p.items.bodies p.bodies typed.1 n body at in
      let plus : n ≡ 0 + n = omega arith in
      let there = subst (λ k. slice_get p.items.bodies k ≡ Some b.0) plus b.1.0 in
      ends_well p.items (told p typed) (0 + n) b.0 body b.1.1 there (known.results n b.0 b.1.0) fuel v

  -- it has ended by another mark
  abbrev pub EndsByOther : Out (Checking Facts) → Type 0
  EndsByOther o =
      (mark : ℕ) × ((block : ℕ) × ((w : Checking Facts) × ((o ≡ Halts (StuckAt mark block) w) × (mark ≡ 1 → ⊥))))

  pub checked_or_other : (checked ≡ marked) ⊎ EndsByOther marked
  checked_or_other = of_run marked refl first_holds
    where
      same : (o : Out (Checking Facts)) → marked ≡ o → Unmarked o → checked ≡ marked
      same o e u = unmarked_run (checks_of p.items body) (cell_marks p.items body) (marks_stand p.items body)
          (abstract_effects p.items (local_ty p.items body)) p.items (local_of p.items body) fuel body v
          (subst Unmarked (sym e) u)

      of_halt : (halt : Halt) (w : Checking Facts) → marked ≡ Halts halt w → may_end halt w →
          (checked ≡ marked) ⊎ EndsByOther marked
      of_halt (StuckAt mark block) w e h = inr (mark, (block, (w, (e, h))))
      of_halt Aborted w e h = inl (same (Halts Aborted w) e (λ x. x))
      of_halt OutOfTicks w e h = inl (same (Halts OutOfTicks w) e (λ x. x))
      of_halt Stuck w e h = absurd h
      of_halt (BadUse site) w e h = inl (same (Halts (BadUse site) w) e (λ x. x))
      of_halt (BadStore site) w e h = inl (same (Halts (BadStore site) w) e (λ x. x))
      of_halt NoChoice w e h = inl (same (Halts NoChoice w) e (λ x. x))
      of_halt Infeasible w e h = inl (same (Halts Infeasible w) e (λ x. x))
      of_halt Unreachable w e h = inl (same (Halts Unreachable w) e (λ x. x))

      of_run : (o : Out (Checking Facts)) → marked ≡ o → ShownOut may_end (λ w. Unit {0}) (λ w. Unit {0}) o →
          (checked ≡ marked) ⊎ EndsByOther marked
      of_run (Go w) e h = inl (same (Go w) e tt)
      of_run (Unwind w) e h = inl (same (Unwind w) e tt)
      of_run (Halts halt w) e h = of_halt halt w e h
