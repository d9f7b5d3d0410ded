-- Runs that say whether a test of protected parameters failed while all else was in order: 6 where it did, 2 where
-- another test failed. What is known of references, each effect keeps, and none has this mark, if what is said of the
-- calls, borrows and assignments of the block holds.
use Rattle.std.proofs.Common.{◌≡◌, ℕ, ◌&&◌, not, Bool, true, false, List, [], ◌∷◌, map, Option, Some, None, refl, ap, sym, ◌∙◌, subst, arith}
use Rattle.std.specs.Prelude.{slice_get, option_and_then}
use Rattle.std.specs.Cmp.{first_so, second_so}
use Rattle.std.specs.Option.{option_map_or}
use Rattle.std.proofs.lemmas.Bool.{false≢true}
use Rattle.mir_ty.specs.declared.def.Sig.{Sig}
use Rattle.mir_ty.specs.declared.ty.Ty.{Ty}
use Rattle.mir_ty.specs.declared.ty.TyId.{TyId}
use Rattle.mir_ty.specs.ItemTable.{ItemTable}
use Rattle.store_model.specs.Abstract.Effects as free
use Rattle.store_model.specs.Abstract.Effects.{AbstractState, abstract_effects, acted_on, never_at}
use Rattle.store_model.specs.Abstract.Presence.{Presence}
use Rattle.store_model.specs.Effects as effects
use Rattle.store_model.specs.Effects.{EffectSite, Operand, Action, Test, Mode, Halt, StuckAt, Infeasible, NoChoice, Unreachable, Out, Go, Unwind, Halts, Choice, Yes, No, Neither, Effects, halting_if, stores_where}
use Rattle.store_model.specs.Places.Place.{Step, Place, is_reference, whole_local}
use Rattle.store_model.specs.Places.TypeForms.{same_id, referent}
use Rattle.src_meaning.specs.Forms.{site_of_key}
use Rattle.src_meaning.specs.Locals.Effects.{at_locals, action_at, test_at, site_at, place_at, operand_at}
use Rattle.src_meaning.specs.Locals.OfBody.{local_ty, local_of}
use Rattle.typed_tree.specs.Nodes.{nodes_of}
use Rattle.typed_tree.specs.Tree.{BodyTree}
use Rattle.soundness_values.proofs.AlsoTests.{Also, checks_also}
use Rattle.soundness_values.proofs.Checked.{Checking, with_facts, chosen_with, by_list}
use Rattle.soundness_values.proofs.CheckedBodies.{checks_of, is_reference_param}
use Rattle.soundness_values.proofs.Checks as checks
use Rattle.soundness_values.proofs.Checks.{no_steps}
use Rattle.soundness_values.proofs.DropsCount.{is_content}
use Rattle.soundness_values.proofs.Facts.{Naming, Facts}
use Rattle.soundness_values.proofs.Leaving.{ShownOut}
use Rattle.soundness_cells.proofs.PassCellEffects.{Quiet, acted_quiet, ChosenSo, test_quiet, drop_quiet}
use Rattle.soundness_frame.proofs.PassFrameActs.{is_plain, AnsweredSo, KeepingSo}
use Rattle.soundness_frame.proofs.PassFrameBodies.{any_place}
use Rattle.soundness_cells.proofs.PassMarks.{Marks, marked, chosen_marked, marked_effects}
use Rattle.soundness.proofs.PassNamingKept as kept
use Rattle.soundness_cells.proofs.PassNumbers.{Rises}
use Rattle.soundness.proofs.PassProtectArgs as named
use Rattle.soundness.proofs.PassProtectArgs.{MadeBy, NamedSo}
use Rattle.soundness_cells.proofs.PassRefilled.{not_mark, NotMark, unmarked}
use Rattle.soundness_values.proofs.ProtectTests.{protect_tests, marked as passed_marked}
use Rattle.typing_rules.specs.Replaced.{OfTrait, bodies_of}

abbrev pub also_mark : (more own : Bool) → Option ℕ
also_mark more false = Some 2
also_mark true true = None
also_mark false true = Some 6

module _ (items : ItemTable) (body : BodyTree) (also : Also) where
  abbrev pub also_marks : Marks Facts
  also_marks = record {
    acting = λ action v facts. also_mark (also.act facts action) ((checks_of items body).act_ok action v facts);
    choosing = λ test v facts. also_mark true ((checks_of items body).test_ok test v facts);
    dropping = λ mode site v facts. also_mark (also.drop site.place) ((checks_of items body).drop_ok mode site v facts);
    giving = λ site v facts. also_mark true ((checks_of items body).give_ok site v facts);
  }

  abbrev pub also_run : Effects (Checking Facts)
  also_run = at_locals (local_of items body) (marked_effects (checks_also also (checks_of items body)) also_marks
      (abstract_effects items (local_ty items body)))

-- ---- a local that is borrowed into has a reference type

pub unless_none : (o : Option Place) (now : Bool) → checks.unless_refilled o now (λ hole. false) ≡ true → now ≡ true
unless_none None now h = h
unless_none (Some hole) now h = absurd (false≢true h)

pub some_sig : (o : Option Sig) (f : Sig → Bool) → option_map_or f o false ≡ true →
    (sig : Sig) × ((o ≡ Some sig) × (f sig ≡ true))
some_sig None f h = absurd (false≢true h)
some_sig (Some sig) f h = (sig, (refl, h))

pub some_head : (o : Option (List TyId × TyId)) (f : List TyId × TyId → Bool) → option_map_or f o false ≡ true →
    (head : List TyId × TyId) × ((o ≡ Some head) × (f head ≡ true))
some_head None f h = absurd (false≢true h)
some_head (Some head) f h = (head, (refl, h))

pub referred : (unique : Bool) (o : Option Ty) (id : TyId) → option_map_or (same_id id) (referent unique o) false ≡ true →
    is_reference o ≡ true
referred true None id h = absurd (false≢true h)
referred false None id h = absurd (false≢true h)
referred true (Some (Ty.Unique to)) id h = refl
referred true (Some (Ty.Shared to)) id h = refl
referred false (Some (Ty.Shared to)) id h = refl
referred false (Some (Ty.Unique to)) id h = refl
referred true (Some ty) id h = absurd (false≢true h)
referred false (Some ty) id h = absurd (false≢true h)

pub of_some : (o : Option TyId) (f : TyId → Bool) (P : Type 0) → option_map_or f o false ≡ true →
    ((id : TyId) → f id ≡ true → P) → P
of_some None f P h k = absurd (false≢true h)
of_some (Some id) f P h k = k id h

module _ (items : ItemTable) (body : BodyTree) (protects : ℕ → ℕ → Bool) (n : ℕ) (rise : Rises (nodes_of body.block))
  where
    abbrev V : Type 0
    V = Checking Facts

    abbrev local : ℕ → ℕ
    local = local_of items body

    abbrev also : Also
    also = protect_tests items protects n

    abbrev pub run : Effects (Checking Facts)
    run = also_run items body also

    abbrev Known : Facts → Type 0
    Known = named.Known items body protects n rise

    abbrev pub I : V → Type 0
    I v = Known v.facts

    abbrev own : Action → AbstractState → Facts → Bool
    own = (checks_of items body).act_ok

    abbrev made_by : EffectSite → Bool → EffectSite → Naming
    made_by to unique base = record { local = local to.place.local; unique = unique; place = place_at local base.place }

    -- what is known of an action: a borrow of exactly what a protected parameter names is one of the block's, and a
    -- call
    -- passes such references for protected parameters
    abbrev pub Does_ : Action → Type 0
    Does_ (effects.Borrow to unique base) = named.is_danger items body protects n rise (made_by to unique base) ≡ true →
        MadeBy items body protects n rise (made_by to unique base)
    Does_ (effects.Call to callee args) = (w : AbstractState) (facts : Facts) → Known facts →
        own (action_at local (effects.Call to callee args)) w facts ≡ true →
        passed_marked items protects n (callee ∷ []) 1 facts (map (operand_at local) args) ≡ true
    Does_ (effects.CallVirtual to trait_no method args) = (w : AbstractState) (facts : Facts) → Known facts →
        own (action_at local (effects.CallVirtual to trait_no method args)) w facts ≡ true →
        passed_marked items protects n (bodies_of items (OfTrait trait_no method)) 1 facts (map (operand_at local) args)
        ≡ true
    Does_ action = Unit {0}

    abbrev pub Drops : EffectSite → Type 0
    Drops site = also.drop (place_at local site.place) ≡ true

    -- ---- the tests hold

    also_holds : (action : Action) (w : AbstractState) (facts : Facts) → Does_ action → Known facts →
        own (action_at local action) w facts ≡ true → also.act facts (action_at local action) ≡ true
    also_holds (effects.Call to callee args) w facts d k o = d w facts k o
    also_holds (effects.CallVirtual to trait_no method args) w facts d k o = d w facts k o
    also_holds (effects.Borrow to unique base) w facts d k o = refl
    also_holds action w facts d k o = refl

    whole_ref : (l : ℕ) (steps : List Step) → no_steps steps ≡ true →
        is_reference (checks.ty_of items (local_ty items body) (is_reference_param items body)
        (record { local = l; steps = steps })) ≡ true →
        is_reference (named.ty_of_local items body protects n rise l) ≡ true
    whole_ref l [] e h = h
    whole_ref l (step ∷ steps) e h = absurd (false≢true e)

    makes : (action : Action) (w : AbstractState) (facts : Facts) → Does_ action →
        own (action_at local action) w facts ≡ true →
        kept.Makes items (local_ty items body) (is_reference_param items body) (NamedSo items body protects n rise)
        (action_at local action)
    makes (effects.Borrow to unique base) w facts d o = λ danger. (
      of_some (checks.id_of items (local_ty items body) (is_reference_param items body) (place_at local base.place))
          (λ id. option_map_or (same_id id) (referent unique (checks.ty_of items (local_ty items body)
          (is_reference_param items body) (place_at local to.place))) false) _ typed
          (λ id h. whole_ref (local to.place.local) (place_at local to.place).steps
          (first_so (no_steps (place_at local to.place).steps) _ (first_so (no_steps (place_at local to.place).steps
          && not (is_reference_param items body (local to.place.local))) _ well))
          (referred unique (checks.ty_of items (local_ty items body) (is_reference_param items body)
          (place_at local to.place)) id h)),
      d danger,
    )
      where
        well : checks.acts_well items (local_ty items body) (is_reference_param items body) facts w.cells
            (effects.Borrow (site_at local to) unique (site_at local base)) ≡ true
        well = unless_none facts.refilled (checks.acts_well items (local_ty items body) (is_reference_param items body)
            facts w.cells (effects.Borrow (site_at local to) unique (site_at local base))) o

        typed : option_map_or (λ id. option_map_or (same_id id)
            (referent unique (checks.ty_of items (local_ty items body)
            (is_reference_param items body) (place_at local to.place))) false)
            (checks.id_of items (local_ty items body) (is_reference_param items body) (place_at local base.place)) false
            ≡ true
        typed = first_so _ _ (second_so (no_steps (place_at local to.place).steps
            && not (is_reference_param items body (local to.place.local))) _ well)
    makes (effects.Call to callee args) w facts d o = tt
    makes (effects.CallVirtual to trait_no method args) w facts d o = tt
    makes action w facts d o = tt

    -- ---- however free effects end

    halting_quiet : (b : Bool) (o : Out AbstractState) → Quiet items (local_ty items body) (Unit {0}) o →
        Quiet items (local_ty items body) (Unit {0}) (halting_if b Unreachable o)
    halting_quiet true (Go w) h = tt
    halting_quiet true (Unwind w) h = h
    halting_quiet true (Halts halt w) h = h
    halting_quiet false o h = h

    known_so : (went unwound : Facts) (o : Out AbstractState) → Quiet items (local_ty items body) (Unit {0}) o →
        Known went → Known unwound → ShownOut {V = V} (not_mark 6) I I (with_facts went unwound o)
    known_so went unwound (Go w) q f g = f
    known_so went unwound (Unwind w) q f g = g
    known_so went unwound (Halts halt w) q f g = unmarked 6 halt q

    chosen_so : (taken declined : Facts) (o : Choice AbstractState) → ChosenSo items (local_ty items body) o →
        Known taken → Known declined → AnsweredSo {V = V} (not_mark 6) I (chosen_with taken declined o)
    chosen_so taken declined (Yes w) q f g = f
    chosen_so taken declined (No w) q f g = g
    chosen_so taken declined (Neither halt w) q f g = unmarked 6 halt q

    ticked : (facts : Facts) (w : AbstractState) (list : List Bool) → Known facts → ShownOut {V = V} (not_mark 6) I I
        (with_facts facts facts (free.next_choice list w Go (Halts Infeasible)))
    ticked facts w [] k = tt
    ticked facts w (false ∷ rest) k = k
    ticked facts w (true ∷ rest) k = tt

    other : NotMark 6 (StuckAt 2 0)
    other e = let same : 2 ≡ 6 = e in omega (same, arith)

    either : (more own : Bool) (v : V) (o : Out V) → (own ≡ true → more ≡ true) →
        (own ≡ true → ShownOut (not_mark 6) I I o) → ShownOut (not_mark 6) I I (marked (also_mark more own) v o)
    either true true v o f h = h refl
    either true false v o f h = other
    either false false v o f h = other
    either false true v o f h = absurd (false≢true (f refl))

    either_choice : (own : Bool) (v : V) (o : Choice V) → AnsweredSo (not_mark 6) I o →
        AnsweredSo (not_mark 6) I (chosen_marked (also_mark true own) v o)
    either_choice true v o h = h
    either_choice false v o h = other

    plain_does : (action : Action) → is_plain action ≡ true → Does_ action
    plain_does (effects.Borrow to unique base) e = absurd (false≢true e)
    plain_does (effects.Free box) e = absurd (false≢true e)
    plain_does (effects.Call to callee args) e = absurd (false≢true e)
    plain_does (effects.CallVirtual to trait_no method args) e = absurd (false≢true e)
    plain_does action e = tt

    pub keeps : KeepingSo run (not_mark 6) Does_ Drops any_place any_place any_place I
    keeps = record {
      acts = λ action v a d i. either (also.act v.facts (action_at local action))
          (own (action_at local action) v.free v.facts) v _
          (λ o. also_holds action v.free v.facts d i o)
          (λ o. known_so _ _ _ (halting_quiet (stores_where (never_at items (local_ty items body))
          (action_at local action))
          (acted_on items (local_ty items body) (action_at local action) v.free)
          (acted_quiet items (local_ty items body) (action_at local action) v.free))
          (kept.action_named items (local_ty items body) (is_reference_param items body)
          (NamedSo items body protects n rise)
          (action_at local action) v.facts (makes action v.free v.facts d o) i)
          (kept.unwound_named items (local_ty items body) (is_reference_param items body)
          (NamedSo items body protects n rise)
          (action_at local action) v.facts (makes action v.free v.facts d o) i));
      chooses = λ test v t i. either_choice ((checks_of items body).test_ok (test_at local test) v.free v.facts) v _
          (chosen_so _ _ _ (test_quiet items (local_ty items body) (test_at local test) v.free)
          (kept.taken_named items (local_ty items body) (is_reference_param items body)
          (NamedSo items body protects n rise)
          (test_at local test) v.facts i)
          (kept.declined_named items (local_ty items body) (is_reference_param items body)
          (NamedSo items body protects n rise)
          (test_at local test) v.facts i));
      drops = λ mode site v m d i. either (also.drop (place_at local site.place))
          ((checks_of items body).drop_ok mode (site_at local site) v.free v.facts) v _ (λ o. d)
          (λ o. known_so _ _ _ (drop_quiet items (local_ty items body) mode (site_at local site) v.free)
          (kept.dropped_named items (local_ty items body) (is_reference_param items body)
          (NamedSo items body protects n rise)
          (place_at local site.place) v.facts i)
          (kept.dropped_named items (local_ty items body) (is_reference_param items body)
          (NamedSo items body protects n rise)
          (place_at local site.place) v.facts i));
      panics = λ why v i. i;
      ticks = λ v i. ticked v.facts v.free v.free.choices i;
      plain = plain_does;
      whole = λ key. refl;
      stores = λ place m. tt;
      coerces = λ place m. tt;
      aborts = λ v i. tt;
      lapses = λ v i. tt;
      stuck = λ v i. tt;
    }

    pub gives : (site : EffectSite) (v : V) → I v → ShownOut (not_mark 6) I I (run.give site v)
    gives site v i = by ((checks_of items body).give_ok (site_at local site) v.free v.facts)
      where
        by : (o : Bool) → ShownOut (not_mark 6) I I (marked (also_mark true o) v
            (with_facts v.facts v.facts ((abstract_effects items (local_ty items body)).give
            (site_at local site) v.free)))
        by true = i
        by false = other
