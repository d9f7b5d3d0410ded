-- Effects in a run that marks what is left: where no place waits, those that touch no place fail for want of nothing,
-- and leave none waiting; nor does an effect on places of which what is asked holds. What is asked may take for
-- granted that the types of what is done are right.
use Rattle.std.proofs.Common.{◌≡◌, ℕ, ◌&&◌, Bool, true, false, List, [], ◌∷◌, Option, Some, None, refl, ap, sym, subst}
use Rattle.std.proofs.lemmas.Bool.{false≢true}
use Rattle.mir_ty.specs.ItemTable.{ItemTable}
use Rattle.store_model.specs.Abstract.Effects as free
use Rattle.store_model.specs.Abstract.Effects.{AbstractState, acted_on, never_at}
use Rattle.store_model.specs.Effects as effects
use Rattle.store_model.specs.Effects.{Action, Unreachable, Infeasible, Out, Go, Unwind, Halts, Choice, Yes, No, Neither, Effects, halting_if, stores_where}
use Rattle.typed_tree.specs.Tree.{BodyTree}
use Rattle.src_meaning.specs.Locals.Effects as locals_of
use Rattle.src_meaning.specs.Locals.Effects.{action_at, test_at}
use Rattle.src_meaning.specs.Locals.OfBody.{local_of, local_ty}
use Rattle.src_meaning.specs.Scopes.{entry_site}
use Rattle.soundness_values.proofs.AlsoTests.{Also}
use Rattle.soundness_values.proofs.Checked.{Checking, with_facts, chosen_with}
use Rattle.soundness_values.proofs.CheckedBodies.{is_reference_param}
use Rattle.soundness_values.proofs.Checks as checks
use Rattle.soundness_values.proofs.Facts.{Facts}
use Rattle.soundness_values.proofs.Leaving.{ShownOut}
use Rattle.soundness.proofs.PassAloneRun.{I, Makes}
use Rattle.soundness.proofs.PassCallsAlone.{alone_run}
use Rattle.soundness_cells.proofs.PassCellEffects.{Quiet, acted_quiet, ChosenSo, test_quiet, drop_quiet}
use Rattle.soundness_cells.proofs.PassCellTests.{cells_act}
use Rattle.soundness_cells.proofs.PassKept.{Answered}
use Rattle.soundness_cells.proofs.PassMarks.{marked, chosen_marked}
use Rattle.soundness.proofs.PassPlacesNamed as named
use Rattle.soundness.proofs.PassPlacesRules.{Safe, touches_none}
use Rattle.soundness_cells.proofs.PassRefilled.{not_mark, unmarked, action_calm, unwound_calm, taken_calm, declined_calm}
use Rattle.soundness_cells.proofs.PassRestMarks.{left_refill}
use Rattle.soundness.proofs.PassPlacesMarks.{five_if, test_places, drop_places}
use Rattle.soundness_cells.proofs.PassRestSplit.{places_act}

first_of : (a b : Bool) → (a && b) ≡ true → a ≡ true
first_of true b h = refl
first_of false b h = absurd (false≢true h)

module _ (items : ItemTable) (body : BodyTree) (also : Also) where
  abbrev V : Type 0
  V = Checking Facts

  abbrev pub q : Effects V
  q = alone_run items body also

  abbrev L : ℕ → ℕ
  L = local_of items body

  -- no place waits for its value, and all references were made by borrows of the block
  abbrev pub Settled : V → Type 0
  Settled v = (v.facts.refilled ≡ None) × I items body also v

  abbrev Waits : V → Type 0
  Waits v = v.facts.refilled ≡ None

  both_out : (o : Out V) → ShownOut (not_mark 5) Waits Waits o →
      ShownOut (λ halt w. Unit {0}) (I items body also) (I items body also) o → ShownOut (not_mark 5) Settled Settled o
  both_out (Go w) h k = (h, k)
  both_out (Unwind w) h k = (h, k)
  both_out (Halts halt w) h k = h

  both_answered : (o : Choice V) → Answered (not_mark 5) Waits o → named.AnswersNamed items body also o →
      Answered (not_mark 5) Settled o
  both_answered (Yes w) h k = (h, k)
  both_answered (No w) h k = (h, k)
  both_answered (Neither halt w) h k = h

  halting_quiet : (b : Bool) (o : Out AbstractState) → Quiet items (local_ty items body) (Unit {0}) o →
      Quiet items (local_ty items body) (Unit {0}) (halting_if b Unreachable o)
  halting_quiet true (Go w) h = tt
  halting_quiet true (Unwind w) h = h
  halting_quiet true (Halts halt w) h = h
  halting_quiet false o h = h

  calm_out : (mark : Option ℕ) (v : V) (went unwound : Facts) (o : Out AbstractState) → (mark ≡ Some 5 → ⊥) →
      Quiet items (local_ty items body) (Unit {0}) o → went.refilled ≡ None → unwound.refilled ≡ None →
      ShownOut (not_mark 5) Waits Waits (marked mark v (with_facts went unwound o))
  calm_out None v went unwound (Go w) n h c d = c
  calm_out None v went unwound (Unwind w) n h c d = d
  calm_out None v went unwound (Halts halt w) n h c d = unmarked 5 halt h
  calm_out (Some m) v went unwound o n h c d = λ e. n (ap Some e)

  -- an action of which what is asked holds, where its types are right
  pub acts_settled : (action : Action) (v : V) → Makes items body also (action_at L action) → Settled v →
      (cells_act items (local_ty items body) (is_reference_param items body) (action_at L action) ≡ true →
      places_act items body v.facts v.free.cells (action_at L action) ≡ true) →
      ShownOut (not_mark 5) Settled Settled (q.act action v)
  acts_settled action v m c h = both_out (q.act action v) (calm_out _ v _ _ _
      (five_if _ _ _ _ _ (λ others. subst (λ o. checks.unless_refilled o
      (places_act items body v.facts v.free.cells (action_at L action))
      (λ hole. left_refill items body v.facts hole (action_at L action)) ≡ true) (sym c.0)
      (h (first_of _ _ others))))
      (halting_quiet (stores_where (never_at items (local_ty items body)) (action_at L action))
      (acted_on items (local_ty items body) (action_at L action) v.free)
      (acted_quiet items (local_ty items body) (action_at L action) v.free))
      (action_calm items body (action_at L action) v.facts c.0) (unwound_calm items body (action_at L action) v.facts
      c.0)) (named.act_named items body also action v m c.1)

  makes_none : (action : Action) → touches_none action ≡ true → Makes items body also (action_at L action)
  makes_none (effects.Borrow to unique base) t = absurd (false≢true t)
  makes_none action t = tt

  no_place : (action : Action) (v : V) → touches_none action ≡ true →
      places_act items body v.facts v.free.cells (action_at L action) ≡ true
  no_place (effects.Put to (effects.Copied site)) v t = absurd (false≢true t)
  no_place (effects.Put to (effects.Moved site)) v t = absurd (false≢true t)
  no_place (effects.Compare to operator (effects.Moved site) right) v t = refl
  no_place (effects.Compare to operator left right) v t = absurd (false≢true t)
  no_place (effects.Borrow to unique base) v t = absurd (false≢true t)
  no_place (effects.Touch base) v t = absurd (false≢true t)
  no_place other v t = refl

  answered : (mark : Option ℕ) (v : V) (taken declined : Facts) (o : Choice AbstractState) → (mark ≡ Some 5 → ⊥) →
      ChosenSo items (local_ty items body) o → taken.refilled ≡ None → declined.refilled ≡ None →
      Answered (not_mark 5) Waits (chosen_marked mark v (chosen_with taken declined o))
  answered None v taken declined (Yes w) n h c d = c
  answered None v taken declined (No w) n h c d = d
  answered None v taken declined (Neither halt w) n h c d = unmarked 5 halt h
  answered (Some m) v taken declined o n h c d = λ e. n (ap Some e)

  ticked : (facts : Facts) (w : AbstractState) (list : List Bool) →
      (facts.refilled ≡ None) × named.Known items body also facts →
      ShownOut {V = V} (not_mark 5) Settled Settled
      (with_facts facts facts (free.next_choice list w Go (Halts Infeasible)))
  ticked facts w [] c = tt
  ticked facts w (false ∷ rest) c = c
  ticked facts w (true ∷ rest) c = tt

  pub settled_safe : Safe q (not_mark 5) Settled
  settled_safe = record {
    acts = λ action v t c. acts_settled action v (makes_none action t) c (λ others. no_place action v t);
    asks = λ operand v c. both_answered (q.choose (effects.IsTrue operand) v) (answered _ v _ _
        (free.choose items (local_ty items body) (test_at L (effects.IsTrue operand)) v.free)
        (test_places items body also (test_at L (effects.IsTrue operand)) v.free v.facts refl)
        (test_quiet items (local_ty items body) (test_at L (effects.IsTrue operand)) v.free)
        (taken_calm items body (test_at L (effects.IsTrue operand)) v.facts c.0)
        (declined_calm items body (test_at L (effects.IsTrue operand)) v.facts c.0))
        (named.test_named items body also (effects.IsTrue operand) v c.1);
    drops = λ mode e v c. both_out (q.drop mode (entry_site e) v) (calm_out _ v _ _ _
        (drop_places items body also mode (locals_of.site_at L (entry_site e)) v.free v.facts refl)
        (drop_quiet items (local_ty items body) mode (locals_of.site_at L (entry_site e)) v.free) c.0 c.0)
        (named.drop_named items body also mode (entry_site e) v c.1);
    panics = λ why v c. c;
    ticks = λ v c. ticked v.facts v.free v.free.choices c;
    aborts = λ v. tt;
    lapses = λ v. tt;
    stuck = λ v. tt;
  }
