-- What a checked run knows of places and of references stays so while only places apart from them are changed; of a
-- call it has to be known which places it changes.
use Rattle.std.proofs.Common.{◌≡◌, ℕ, ◌==◌, ◌&&◌, ◌||◌, not, Bool, true, false, List, [], ◌∷◌, Option, Some, if◌then◌else◌, refl, ap, sym, ◌∙◌, subst}
use Rattle.std.specs.Cmp.{first_so}
use Rattle.std.specs.Cmp.Derive.{both_true}
use Rattle.std.proofs.lemmas.Bool.{false≢true}
use Rattle.std.proofs.lemmas.Bool.Decides.{Decides-eqb}
use Rattle.std.proofs.lemmas.Option.{none-some}
use Rattle.mir_ty.specs.ItemTable.{ItemTable}
use Rattle.mir_ty.specs.declared.ty.TyId.{TyId}
use Rattle.store_model.specs.Effects as effects
use Rattle.store_model.specs.Effects.{EffectSite, Operand, Action, Test}
use Rattle.store_model.specs.Places.Place.{Place}
use Rattle.soundness_values.proofs.Checks as checks
use Rattle.soundness_values.proofs.Checks.{with_naming, without_if}
use Rattle.soundness_values.proofs.Facts.{Naming, Facts, Each, takes_index, stays, without, same_place, bounded_by}
use Rattle.soundness_frame.proofs.PassArgsLeft.{found_local}
use Rattle.soundness_frame.proofs.PassFrameActs.{Takes, AllTake, Allowed, AllowedTest}
use Rattle.soundness_frame.proofs.PassFrameFacts.{Fixed, FixedWay, Stays, any_kept, find_kept, place_same, named_by, variant_known}
use Rattle.soundness_frame.proofs.PassStillKnown.{Clear, still_sure}
use Rattle.soundness_values.proofs.Running.{sure_place}

module _ (May : Place → Type 0) where
  -- so much of some facts is still known
  pub record FactsStay (before now : Facts) : Type 0 where
    pub bounded : (local count : ℕ) → Fixed May local → bounded_by before local count ≡ true →
        bounded_by now local count ≡ true
    pub variants : (place : Place) (n : ℕ) → Stays May place → variant_known before place n ≡ true →
        variant_known now place n ≡ true
    pub naming : (local : ℕ) (m : Naming) → Fixed May local → FixedWay May m.place.steps →
        named_by local before ≡ Some m → named_by local now ≡ Some m

  pub stay_same : (facts : Facts) → FactsStay facts facts
  stay_same facts =
      record { bounded = λ local count f h. h; variants = λ place n f h. h; naming = λ local m f w h. h }

  without_kept : (q : Place) (before now : Facts) → May q → FactsStay before now → FactsStay before (without q now)
  without_kept q before now m k = record {
    bounded = λ local count f h. any_kept (λ (b : ℕ × ℕ). b.0 == local && b.1 == count)
        (λ (b : ℕ × ℕ). not (b.0 == q.local)) now.bounded
        (λ b e. ap not (ap (λ n. n == q.local)
        ((Decides-eqb b.0 local).0 (first_so (b.0 == local) (b.1 == count) e)) ∙ f q m))
        (k.bounded local count f h);
    variants = λ place n f h. any_kept (λ (v : Place × ℕ). same_place v.0 place && v.1 == n)
        (λ (v : Place × ℕ). stays q v.0) now.variants
        (λ v e. ap (stays q) (place_same v.0 place (first_so (same_place v.0 place) (v.1 == n) e)) ∙ f q m)
        (k.variants place n f h);
    naming = λ local n f w h.
        let still = k.naming local n f w h in
        find_kept (λ (x : Naming). x.local == local)
        (λ (x : Naming). not (x.local == q.local) && not (takes_index q.local x.place.steps)) now.naming n
        (both_true (ap not (ap (λ x. x == q.local) ((Decides-eqb n.local local).0
        (found_local local now.naming n still)) ∙ f q m))
        (ap not (w q m))) still;
  }

  module _ (items : ItemTable) (local_ty : ℕ → Option TyId) (is_target : ℕ → Bool) where
    abbrev after_operand : Operand → Facts → Facts
    after_operand = checks.after_operand items local_ty is_target

    abbrev after_operands : List Operand → Facts → Facts
    after_operands = checks.after_operands items local_ty is_target

    abbrev named_by_all : Facts → List Operand → List Naming
    named_by_all = checks.named_by_all items local_ty is_target

    abbrev after_namings : List Naming → Facts → Facts
    after_namings = checks.after_namings items local_ty is_target

    operand_kept : (operand : Operand) (before now : Facts) → Takes May operand → FactsStay before now →
        FactsStay before (after_operand operand now)
    operand_kept (effects.Moved site) before now t k = without_kept site.place before now t k
    operand_kept (effects.Copied site) before now t k = k
    operand_kept (effects.Number value kind) before now t k = k
    operand_kept (effects.Truth value) before now t k = k
    operand_kept effects.UnitValue before now t k = k

    operands_kept : (operands : List Operand) (before now : Facts) → AllTake May operands → FactsStay before now →
        FactsStay before (after_operands operands now)
    operands_kept [] before now t k = k
    operands_kept (operand ∷ operands) before now t k =
        operands_kept operands before (after_operand operand now) t.1 (operand_kept operand before now t.0 k)

    -- what arguments name by `&mut` may be changed
    abbrev pub MayIfUnique : Naming → Type 0
    MayIfUnique m = m.unique ≡ true → May m.place

    naming_kept : (m : Naming) (before now : Facts) → MayIfUnique m → FactsStay before now →
        FactsStay before (checks.after_naming items local_ty is_target m now)
    naming_kept m before now h k = by m.unique refl
      where
        by : (b : Bool) → m.unique ≡ b → FactsStay before (without_if b m.place now)
        by true e = without_kept m.place before now (h e) k
        by false e = k

    namings_kept : (ms : List Naming) (before now : Facts) → Each MayIfUnique ms → FactsStay before now →
        FactsStay before (after_namings ms now)
    namings_kept [] before now h k = k
    namings_kept (m ∷ ms) before now h k =
        namings_kept ms before (checks.after_naming items local_ty is_target m now) h.1 (naming_kept m before now h.0 k)

    -- a reference is made in a local that may be changed
    made_kept : (m : Naming) (to : Place) (before now : Facts) → May to → m.local ≡ to.local → FactsStay before now →
        FactsStay before (with_naming m now)
    made_kept m to before now t same k = record {
      bounded = k.bounded;
      variants = k.variants;
      naming = λ local n f w e.
          ap (λ b. if b then Some m else named_by local now)
          (other m.local local (subst (λ x. (local == x) ≡ false) (sym same) (f to t))) ∙ k.naming local n f w e;
    }
      where
        other : (a b : ℕ) → (b == a) ≡ false → (a == b) ≡ false
        other a b e = by (a == b) refl
          where
            by : (c : Bool) → (a == b) ≡ c → c ≡ false
            by true x = absurd (false≢true (sym e ∙ (Decides-eqb b a).1 (sym ((Decides-eqb a b).0 x))))
            by false x = refl

    call_kept : (to : EffectSite) (args : List Operand) (before now : Facts) → May to.place → AllTake May args →
        Each MayIfUnique (named_by_all now args) → FactsStay before now → FactsStay before (without to.place
        (after_namings (named_by_all now args) (after_operands args now)))
    call_kept to args before now m t h k = without_kept to.place before
        (after_namings (named_by_all now args) (after_operands args now)) m
        (namings_kept (named_by_all now args) before (after_operands args now) h
        (operands_kept args before now t k))

    refilled_kept : (before now : Facts) → FactsStay before now →
        FactsStay before (checks.refilled_now items local_ty is_target now)
    refilled_kept before now k = record {
      bounded = k.bounded;
      variants = k.variants;
      naming = k.naming;
    }

    two_kept : (left right : Operand) (before now : Facts) → Takes May left → Takes May right →
        FactsStay before now → FactsStay before (after_operand right (after_operand left now))
    two_kept left right before now l r k =
        operand_kept right before (after_operand left now) r (operand_kept left before now l k)

    -- of a call what its arguments name
    abbrev pub MayCall : Facts → Action → Type 0
    MayCall now (effects.Call to body args) = Each MayIfUnique (named_by_all now args)
    MayCall now (effects.CallVirtual to trait_no method args) = Each MayIfUnique (named_by_all now args)
    MayCall now action = Unit {0}

    pub action_kept : (action : Action) (before now : Facts) → Allowed May action → MayCall now action →
        FactsStay before now →
        FactsStay before (checks.after_action items local_ty is_target action now)
    action_kept (effects.Put to from) before now a c k = refilled_kept before (without to.place (after_operand from
        now))
        (without_kept to.place before (after_operand from now) a.0 (operand_kept from before now a.1 k))
    action_kept (effects.Compare to operator left right) before now a c k = without_kept to.place before
        (after_operand right (after_operand left now)) a.0 (two_kept left right before now a.1.0 a.1.1 k)
    action_kept (effects.Not to operand) before now a c k =
        without_kept to.place before (after_operand operand now) a.0 (operand_kept operand before now a.1 k)
    action_kept (effects.Build to kind parts) before now a c k =
        without_kept to.place before (after_operands parts now) a.0 (operands_kept parts before now a.1 k)
    action_kept (effects.NewBox to content) before now a c k =
        without_kept to.place before (after_operand content now) a.0 (operand_kept content before now a.1 k)
    action_kept (effects.Unsize to trait_no operand) before now a c k =
        without_kept to.place before (after_operand operand now) a.0 (operand_kept operand before now a.1 k)
    action_kept (effects.Borrow to unique base) before now a c k =
        made_kept (record { local = to.place.local; unique = unique; place = base.place }) to.place before
        (without to.place now) a.0 refl (without_kept to.place before now a.0 k)
    action_kept (effects.Touch base) before now a c k = k
    action_kept (effects.Print operand) before now a c k = operand_kept operand before now a k
    action_kept (effects.Forget operand) before now a c k = operand_kept operand before now a k
    action_kept (effects.Free box) before now a c k = k
    action_kept (effects.Compute to operator left right) before now a c k = without_kept to.place before
        (after_operand right (after_operand left now)) a.0 (two_kept left right before now a.1.0 a.1.1 k)
    action_kept (effects.Negate to operand) before now a c k =
        without_kept to.place before (after_operand operand now) a.0 (operand_kept operand before now a.1 k)
    action_kept (effects.Bounds (effects.Copied site) length) before now a c k = record {
      bounded = λ local count f h. either
          (site.place.local == local && length == count) (bounded_by now local count) (k.bounded local count f h);
      variants = k.variants;
      naming = k.naming;
    }
      where
        either : (b c : Bool) → c ≡ true → (b || c) ≡ true
        either true c h = refl
        either false c h = h
    action_kept (effects.Bounds (effects.Moved site) length) before now a c k = k
    action_kept (effects.Bounds (effects.Number value kind) length) before now a c k = k
    action_kept (effects.Bounds (effects.Truth value) length) before now a c k = k
    action_kept (effects.Bounds effects.UnitValue length) before now a c k = k
    action_kept (effects.Call to body args) before now a c k = call_kept to args before now a.0 a.1 c k
    action_kept (effects.CallVirtual to trait_no method args) before now a c k = call_kept to args before now a.0 a.1
        c k
    action_kept (effects.Ask to) before now a c k = without_kept to.place before now a k

    pub unwound_kept : (action : Action) (before now : Facts) → Allowed May action → MayCall now action →
        FactsStay before now →
        FactsStay before (checks.after_unwound items local_ty is_target action now)
    unwound_kept (effects.Bounds index length) before now a c k = k
    unwound_kept (effects.Touch base) before now a c k = k
    unwound_kept (effects.Free box) before now a c k = k
    unwound_kept other before now a c k = action_kept other before now a c k

    pub taken_kept : (test : Test) (before now : Facts) → AllowedTest May test → FactsStay before now →
        FactsStay before (checks.after_taken items local_ty is_target test now)
    taken_kept (effects.IsTrue operand) before now t k = operand_kept operand before now t k
    taken_kept (effects.HasVariant site variant) before now t k = record {
      bounded = k.bounded;
      variants = λ place n f h. either
          (same_place site.place place && variant == n) (variant_known now place n) (k.variants place n f h);
      naming = k.naming;
    }
      where
        either : (b c : Bool) → c ≡ true → (b || c) ≡ true
        either true c h = refl
        either false c h = h

    pub declined_kept : (test : Test) (before now : Facts) → AllowedTest May test → FactsStay before now →
        FactsStay before (checks.after_declined items local_ty is_target test now)
    declined_kept (effects.IsTrue operand) before now t k = operand_kept operand before now t k
    declined_kept (effects.HasVariant site variant) before now t k = k

    pub dropped_kept : (place : Place) (before now : Facts) → May place → FactsStay before now →
        FactsStay before (checks.after_drop items local_ty is_target place now)
    dropped_kept place before now m k = by (checks.no_steps place.steps)
      where
        w : FactsStay before (without place now)
        w = without_kept place before now m k

        by : (b : Bool) → FactsStay before (checks.refilled_if b place (without place now))
        by true = w
        by false = record {
          bounded = w.bounded;
          variants = w.variants;
          naming = w.naming;
        }

  -- a place that is sure to lead on is so still
  pub stay_sure : (items : ItemTable) (local_ty : ℕ → Option TyId) (is_target : ℕ → Bool) (before now : Facts) →
      FactsStay before now → (place : Place) → Clear May place →
      sure_place items local_ty is_target before place ≡ true → sure_place items local_ty is_target now place ≡ true
  stay_sure items local_ty is_target before now k place c h = still_sure May items local_ty is_target
      (record before { naming = [] }) (record now { naming = [] }) (record {
        bounded = k.bounded;
        variants = k.variants;
        naming = λ local m f w e. absurd (none-some m e);
        allowed = tt;
      }) place c h
