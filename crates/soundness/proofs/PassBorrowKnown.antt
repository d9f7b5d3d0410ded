-- Right behind a borrow, what its local names is known: the place that was borrowed, which is sure to lead on and may
-- be
-- used. So an argument that is a reference begins to name what is asked of it.
use Rattle.std.proofs.Common.{◌≡◌, ◌⊎◌, inl, inr, ℕ, ◌==◌, ◌&&◌, not, Bool, true, false, List, [], ◌∷◌, Option, Some, None, if◌then◌else◌, refl, ap, sym, ◌∙◌, subst}
use Rattle.std.specs.Cmp.{first_so, second_so}
use Rattle.std.specs.Option.{option_map_or}
use Rattle.std.proofs.lemmas.Bool.{false≢true}
use Rattle.std.proofs.lemmas.Bool.Decides.{Decides-eqb}
use Rattle.mir_ty.specs.ItemTable.{ItemTable}
use Rattle.store_model.specs.Abstract.Effects as free
use Rattle.store_model.specs.Abstract.Effects.{AbstractState, abstract_effects, presence, may_use, watched_at}
use Rattle.store_model.specs.Effects as effects
use Rattle.store_model.specs.Effects.{EffectSite, Halt, BadUse, Unreachable, Out, Go, Unwind, Halts, halting_if}
use Rattle.store_model.specs.Places.Place.{Place}
use Rattle.store_model.specs.Places.TypeForms.{same_id, referent}
use Rattle.src_meaning.specs.Locals.OfBody.{local_ty}
use Rattle.typed_tree.specs.Tree.{BodyTree}
use Rattle.typing_rules.specs.Accesses.{begin_alike}
use Rattle.soundness_values.proofs.AlsoTests.{Also, checks_also}
use Rattle.soundness_values.proofs.Checked.{Checking, Checks, with_facts}
use Rattle.soundness_values.proofs.CheckedBodies.{checks_of, is_reference_param}
use Rattle.soundness_values.proofs.Checks as checks
use Rattle.soundness_values.proofs.Checks.{no_steps}
use Rattle.soundness_values.proofs.Facts.{Naming, Facts, takes_index}
use Rattle.soundness_values.proofs.NoOverlap.{seen}
use Rattle.soundness_frame.proofs.PassFrameActs.{KeptOut}
use Rattle.soundness_frame.proofs.PassFrameCells.{CellsKept, cells_same, free_keeping}
use Rattle.soundness_frame.proofs.PassFrameFacts as frame
use Rattle.soundness_frame.proofs.PassFrameFacts.{FactsKept}
use Rattle.soundness_cells.proofs.PassMarks.{Marks, StandFor, marked, marked_effects}
use Rattle.soundness.proofs.PassProtectRun.{unless_none}
use Rattle.soundness_frame.proofs.PassStillKnown.{Clear, still_sure}
use Rattle.soundness_values.proofs.Running.{sure_place}

not_same : (b : Bool) → not b ≡ true → b ≡ false
not_same true h = absurd (false≢true h)
not_same false h = refl

went_by : (b : Bool) (halt : Halt) (next : AbstractState → Out AbstractState) (w u : AbstractState) →
    free.when b halt next w ≡ Go u → b ≡ true
went_by true halt next w u e = refl
went_by false halt next w u e = absurd (let never : ⊥ = cc in never)

went_on : (b : Bool) (o : Out AbstractState) (u : AbstractState) → halting_if b Unreachable o ≡ Go u → o ≡ Go u
went_on false o u e = e
went_on true (Go w) u e = absurd (let never : ⊥ = cc in never)
went_on true (Unwind w) u e = e
went_on true (Halts halt w) u e = e

kept_there : (I : AbstractState → Type 0) (o : Out AbstractState) (u : AbstractState) → o ≡ Go u → KeptOut I o → I u
kept_there I o u e k = subst (KeptOut I) e k

pub facts_went : (went unwound : Facts) (o : Out AbstractState) (u : Checking Facts) →
    with_facts went unwound o ≡ Go u → (o ≡ Go u.free) × (u.facts ≡ went)
facts_went went unwound (Go w) u e = (
  ap (λ (x : Out (Checking Facts)). elim x [ Go y ↦ Go y.free | Unwind y ↦ Go w | Halts halt y ↦ Go w ]) e,
  sym (ap (λ (x : Out (Checking Facts)). elim x [ Go y ↦ y.facts | Unwind y ↦ went | Halts halt y ↦ went ]) e),
)
facts_went went unwound (Unwind w) u e = absurd (let never : ⊥ = cc in never)
facts_went went unwound (Halts halt w) u e = absurd (let never : ⊥ = cc in never)

pub unmarked_so : (mark : Option ℕ) (v u : Checking Facts) (o : Out (Checking Facts)) → marked mark v o ≡ Go u →
    (mark ≡ None) × (o ≡ Go u)
unmarked_so None v u o e = (refl, e)
unmarked_so (Some mark) v u o e = absurd (let never : ⊥ = cc in never)

module _ (items : ItemTable) (body : BodyTree) (also : Also) (at_node local : ℕ) (unique : Bool) (base : EffectSite)
  where
    abbrev to : EffectSite
    to = record { node = at_node; place = record { local = local; steps = [] } }

    abbrev own : AbstractState → Facts → Bool
    own w facts = (checks_of items body).act_ok (effects.Borrow to unique base) w facts

    abbrev sure : Facts → Bool
    sure facts = sure_place items (local_ty items body) (is_reference_param items body) facts base.place

    -- the reference is to the type of the place
    abbrev types_right : Bool
    types_right = option_map_or (λ id. option_map_or (same_id id)
        (referent unique (checks.ty_of items (local_ty items body) (is_reference_param items body) to.place)) false)
        (checks.id_of items (local_ty items body) (is_reference_param items body) base.place) false

    -- what is known of the reference in a local
    pub record BorrowKnown (w : Checking Facts) : Type 0 where
      pub named : checks.naming_of items (local_ty items body) (is_reference_param items body) local w.facts
          ≡ Some (record { local = local; unique = unique; place = base.place })
      pub is_sure : sure w.facts ≡ true
      pub is_usable : may_use (watched_at items (local_ty items body) base)
          (presence base.place.local w.free.cells) ≡ true
      pub is_typed : types_right ≡ true

    -- ---- what the test says

    module _ (w : AbstractState) (facts : Facts) (h : own w facts ≡ true) where
      well : checks.acts_well items (local_ty items body) (is_reference_param items body) facts w.cells
          (effects.Borrow to unique base) ≡ true
      well = unless_none facts.refilled (checks.acts_well items (local_ty items body) (is_reference_param items body)
          facts w.cells (effects.Borrow to unique base)) h

      behind : (sure facts && (not (base.place.local == local) && not (takes_index local base.place.steps))) ≡ true
      behind = second_so _ (sure facts && (not (base.place.local == local) && not (takes_index local base.place.steps)))
          (second_so (no_steps to.place.steps && not (is_reference_param items body local)) _ well)

      was_typed : types_right ≡ true
      was_typed = first_so types_right _
          (second_so (no_steps to.place.steps && not (is_reference_param items body local)) _ well)

      was_sure : sure facts ≡ true
      was_sure = first_so (sure facts) _ behind

      other_local : (base.place.local == local) ≡ false
      other_local = not_same (base.place.local == local)
          (first_so (not (base.place.local == local)) _ (second_so (sure facts) _ behind))

      no_index : takes_index local base.place.steps ≡ false
      no_index = not_same (takes_index local base.place.steps)
          (second_so (not (base.place.local == local)) _ (second_so (sure facts) _ behind))

      -- only the local of the reference changes
      abbrev May : Place → Type 0
      May q = q ≡ to.place

      clear : Clear May base.place
      clear = record {
        apart = λ q m. ap (λ b. b && begin_alike (seen base.place.steps) (seen q.steps))
            (ap (λ (x : Place). base.place.local == x.local) m ∙ other_local);
        way = λ q m. ap (λ (x : Place). takes_index x.local base.place.steps) m ∙ no_index;
      }

      fixed : frame.Fixed May base.place.local
      fixed q m = ap (λ (x : Place). base.place.local == x.local) m ∙ other_local

      abbrev no_names : Facts
      no_names = record facts { naming = [] }

      kept : FactsKept May no_names (checks.after_drop items (local_ty items body) (is_reference_param items body)
          to.place no_names)
      kept = frame.dropped_kept May items (local_ty items body)
          (is_reference_param items body) to.place no_names no_names
          refl (record {
            bounded = λ l count f k. k;
            variants = λ place n f k. k;
            naming = λ l m f g k. k;
            allowed = tt;
          })

      still : sure (checks.after_action items (local_ty items body) (is_reference_param items body)
          (effects.Borrow to unique base) facts) ≡ true
      still = still_sure May items (local_ty items body) (is_reference_param items body) no_names
          (checks.after_drop items (local_ty items body) (is_reference_param items body) to.place no_names) kept
          base.place clear was_sure

      cells_kept : (u : AbstractState) →
          (abstract_effects items (local_ty items body)).act (effects.Borrow to unique base) w ≡ Go u →
          CellsKept May w.cells u.cells
      cells_kept u e = kept_there (λ (x : AbstractState). CellsKept May w.cells x.cells)
          ((abstract_effects items (local_ty items body)).act (effects.Borrow to false base) w) u e
          ((free_keeping May items (local_ty items body) w.cells).acts (effects.Borrow to false base) w
          (refl, λ n. absurd (false≢true n)) (cells_same May w.cells))

      was_usable : (u : AbstractState) →
          (abstract_effects items (local_ty items body)).act (effects.Borrow to unique base) w ≡ Go u →
          may_use (watched_at items (local_ty items body) base) (presence base.place.local w.cells) ≡ true
      was_usable u e = went_by _ (BadUse base) (free.store items (local_ty items body) to) w u (went_on _ _ u e)

      known : (u : Checking Facts) →
          (abstract_effects items (local_ty items body)).act (effects.Borrow to unique base) w ≡ Go u.free →
          u.facts ≡ checks.after_action items (local_ty items body) (is_reference_param items body)
          (effects.Borrow to unique base) facts → BorrowKnown u
      known u e f = record {
        named = ap (checks.naming_of items (local_ty items body) (is_reference_param items body) local) f
            ∙ ap (λ b. if b then Some (record { local = local; unique = unique; place = base.place })
            else Rattle.std.specs.List.find (λ (x : Naming). x.local == local)
            (checks.after_store items (local_ty items body) (is_reference_param items body) to facts).naming)
            ((Decides-eqb local local).1 refl);
        is_sure = subst (λ x. sure x ≡ true) (sym f) still;
        is_usable = ap (may_use (watched_at items (local_ty items body) base))
            ((cells_kept u.free e).fixed base.place.local fixed) ∙ was_usable u.free e;
        is_typed = was_typed;
      }

    -- in each run with marks for what is tested
    pub borrow_known : (marks : Marks Facts) → StandFor marks (checks_also also (checks_of items body)) →
        (v u : Checking Facts) → (marked_effects (checks_also also (checks_of items body)) marks
        (abstract_effects items (local_ty items body))).act (effects.Borrow to unique base) v ≡ Go u → BorrowKnown u
    borrow_known marks stand v u e =
        let m = unmarked_so (marks.acting (effects.Borrow to unique base) v.free v.facts) v u _ e in
        let f = facts_went _ _ ((abstract_effects items (local_ty items body)).act
        (effects.Borrow to unique base) v.free) u
        m.1 in
        known v.free v.facts (second_so (also.act v.facts (effects.Borrow to unique base)) _
        (stand.acts (effects.Borrow to unique base) v.free v.facts m.0)) u f.0 f.1
