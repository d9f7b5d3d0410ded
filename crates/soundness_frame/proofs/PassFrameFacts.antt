-- What a checked run knows of places, and what is present of them, stays so while only places apart from them are
-- changed.
use Rattle.std.proofs.Common.{◌≡◌, ◌⊎◌, inl, inr, ℕ, ◌==◌, ◌&&◌, ◌||◌, not, Bool, true, false, List, [], ◌∷◌, ◌++◌, filter, Option, Some, None, if◌then◌else◌, refl, ap, sym, ◌∙◌, subst}
use Rattle.std.specs.List.{list_any, find}
use Rattle.std.specs.Cmp.{first_so, second_so}
use Rattle.std.specs.Cmp.Derive.{both_true}
use Rattle.std.specs.Cmp.Lexicographic.{pointwise}
use Rattle.std.proofs.lemmas.Bool.{false≢true}
use Rattle.std.proofs.lemmas.Bool.Decides.{Decides-eqb}
use Rattle.std.proofs.lemmas.Option.{none-some}
use Rattle.mir_ty.specs.ItemTable.{ItemTable}
use Rattle.mir_ty.specs.declared.ty.TyId.{TyId}
use Rattle.store_model.specs.Effects as effects
use Rattle.store_model.specs.Effects.{EffectSite, Operand, Action, Test}
use Rattle.store_model.specs.Places.Place.{Step, Place, same_step}
use Rattle.soundness_values.proofs.Checks as checks
use Rattle.soundness_values.proofs.Checks.{with_naming, without_if, listed}
use Rattle.soundness_values.proofs.Facts.{Naming, Facts, Each, each_kept, takes_index, stays, without, same_place, bounded_by}
use Rattle.soundness_frame.proofs.PassFrameActs.{Takes, AllTake, Allowed, AllowedTest}
use Rattle.soundness_values.proofs.Steps.{step_same}

-- ---- lists of which some are left out

pub any_kept : {A : Type 0} (test keep : A → Bool) (list : List A) → ((a : A) → test a ≡ true → keep a ≡ true) →
    list_any test list ≡ true → list_any test (filter keep list) ≡ true
any_kept test keep [] f h = h
any_kept {A = A} test keep (a ∷ list) f h = by (test a) (keep a) refl refl h (any_kept test keep list f)
  where
    by : (b c : Bool) → test a ≡ b → keep a ≡ c → (b || list_any test list) ≡ true →
        (list_any test list ≡ true → list_any test (filter keep list) ≡ true) →
        list_any test (if c then a ∷ filter keep list else filter keep list) ≡ true
    by true true e k h later = ap (λ b. b || list_any test (filter keep list)) e
    by true false e k h later = absurd (false≢true (sym k ∙ f a e))
    by false true e k h later = ap (λ b. b || list_any test (filter keep list)) e ∙ later h
    by false false e k h later = later h

pub find_kept : {A : Type 0} (test keep : A → Bool) (list : List A) (m : A) → keep m ≡ true → find test list ≡ Some m →
    find test (filter keep list) ≡ Some m
find_kept test keep [] m k h = h
find_kept {A = A} test keep (a ∷ list) m k h = by (test a) (keep a) refl refl h (find_kept test keep list m k)
  where
    same : Some a ≡ Some m → a ≡ m
    same e = cc

    by : (b c : Bool) → test a ≡ b → keep a ≡ c → (if b then Some a else find test list) ≡ Some m →
        (find test list ≡ Some m → find test (filter keep list) ≡ Some m) →
        find test (if c then a ∷ filter keep list else filter keep list) ≡ Some m
    by true true e l h later = ap (λ b. if b then Some a else find test (filter keep list)) e ∙ h
    by true false e l h later = absurd (false≢true (sym l ∙ ap keep (same h) ∙ k))
    by false true e l h later = ap (λ b. if b then Some a else find test (filter keep list)) e ∙ later h
    by false false e l h later = later h

-- the first of which a test holds
found : {A : Type 0} (holds : A → Type 0) (test : A → Bool) (list : List A) (m : A) → Each holds list →
    find test list ≡ Some m → (test m ≡ true) × holds m
found holds test [] m h e = absurd (none-some m e)
found {A = A} holds test (a ∷ list) m h e = by (test a) refl e (found holds test list m h.1)
  where
    same : Some a ≡ Some m → a ≡ m
    same e = cc

    by : (b : Bool) → test a ≡ b → (if b then Some a else find test list) ≡ Some m →
        (find test list ≡ Some m → (test m ≡ true) × holds m) → (test m ≡ true) × holds m
    by true k e later = subst (λ x. (test x ≡ true) × holds x) (same e) (k, h.0)
    by false k e later = later e

steps_same : (a b : List Step) → pointwise same_step a b ≡ true → a ≡ b
steps_same [] [] h = refl
steps_same [] (t ∷ b) h = absurd (false≢true h)
steps_same (s ∷ a) [] h = absurd (false≢true h)
steps_same (s ∷ a) (t ∷ b) h =
    ap (λ x. x ∷ a) (step_same s t (first_so (same_step s t) (pointwise same_step a b) h))
    ∙ ap (λ l. t ∷ l) (steps_same a b (second_so (same_step s t) (pointwise same_step a b) h))

pub place_same : (a b : Place) → same_place a b ≡ true → a ≡ b
place_same a b h =
    let l : a.local ≡ b.local =
    (Decides-eqb a.local b.local).0 (first_so (a.local == b.local) (pointwise same_step a.steps b.steps) h) in
    let s : a.steps ≡ b.steps =
    steps_same a.steps b.steps (second_so (a.local == b.local) (pointwise same_step a.steps b.steps) h) in
    ap (λ n. record { local = n; steps = a.steps }) l ∙ ap (λ x. record { local = b.local; steps = x }) s

-- ---- what stays

abbrev pub variant_known : Facts → Place → ℕ → Bool
variant_known facts place n = list_any (λ v. same_place v.0 place && v.1 == n) facts.variants

abbrev pub named_by : ℕ → Facts → Option Naming
named_by local facts = find (λ n. n.local == local) facts.naming

module _ (May : Place → Type 0) where
  -- nothing changes a local
  abbrev pub Fixed : ℕ → Type 0
  Fixed local = (q : Place) → May q → (local == q.local) ≡ false

  -- what is known of the variant at a place stays
  abbrev pub Stays : Place → Type 0
  Stays place = (q : Place) → May q → stays q place ≡ true

  -- no local that is an index on the way changes
  abbrev pub FixedWay : List Step → Type 0
  FixedWay steps = (q : Place) → May q → takes_index q.local steps ≡ false

  -- what is named by a `&mut` that may be passed on may be changed
  abbrev pub AllowedNaming : Naming → Type 0
  AllowedNaming m = m.unique ≡ true → May m.place ⊎ Fixed m.local

  -- so much of some facts is still known
  pub record FactsKept (before now : Facts) : Type 0 where
    pub bounded : (local count : ℕ) → Fixed local → bounded_by before local count ≡ true →
        bounded_by now local count ≡ true
    pub variants : (place : Place) (n : ℕ) → Stays place → variant_known before place n ≡ true →
        variant_known now place n ≡ true
    pub naming : (local : ℕ) (m : Naming) → Fixed local → FixedWay m.place.steps →
        named_by local before ≡ Some m → named_by local now ≡ Some m
    pub allowed : Each AllowedNaming now.naming

  without_kept : (q : Place) (before now : Facts) → May q → FactsKept before now → FactsKept before (without q now)
  without_kept q before now m k = record {
    bounded = λ local count f h. any_kept (λ (b : ℕ × ℕ). b.0 == local && b.1 == count)
        (λ (b : ℕ × ℕ). not (b.0 == q.local)) now.bounded
        (λ b e. ap not (ap (λ n. n == q.local)
        ((Decides-eqb b.0 local).0 (first_so (b.0 == local) (b.1 == count) e)) ∙ f q m))
        (k.bounded local count f h);
    variants = λ place n f h. any_kept (λ (v : Place × ℕ). same_place v.0 place && v.1 == n)
        (λ (v : Place × ℕ). stays q v.0) now.variants
        (λ v e. ap (stays q) (place_same v.0 place (first_so (same_place v.0 place) (v.1 == n) e)) ∙ f q m)
        (k.variants place n f h);
    naming = λ local n f w h.
        let still = k.naming local n f w h in
        find_kept (λ (x : Naming). x.local == local)
        (λ (x : Naming). not (x.local == q.local) && not (takes_index q.local x.place.steps)) now.naming n
        (both_true (ap not (ap (λ x. x == q.local) ((Decides-eqb n.local local).0
        (found AllowedNaming (λ (x : Naming). x.local == local) now.naming n k.allowed still).0) ∙ f q m))
        (ap not (w q m))) still;
    allowed = each_kept AllowedNaming AllowedNaming
        (λ (x : Naming). not (x.local == q.local) && not (takes_index q.local x.place.steps)) now.naming
        (λ x e h. h) k.allowed;
  }

  module _ (items : ItemTable) (local_ty : ℕ → Option TyId) (is_target : ℕ → Bool) where
    abbrev after_operand : Operand → Facts → Facts
    after_operand = checks.after_operand items local_ty is_target

    abbrev after_operands : List Operand → Facts → Facts
    after_operands = checks.after_operands items local_ty is_target

    abbrev named_by_all : Facts → List Operand → List Naming
    named_by_all = checks.named_by_all items local_ty is_target

    abbrev after_namings : List Naming → Facts → Facts
    after_namings = checks.after_namings items local_ty is_target

    operand_kept : (operand : Operand) (before now : Facts) → Takes May operand → FactsKept before now →
        FactsKept before (after_operand operand now)
    operand_kept (effects.Moved site) before now t k = without_kept site.place before now t k
    operand_kept (effects.Copied site) before now t k = k
    operand_kept (effects.Number value kind) before now t k = k
    operand_kept (effects.Truth value) before now t k = k
    operand_kept effects.UnitValue before now t k = k

    operands_kept : (operands : List Operand) (before now : Facts) → AllTake May operands → FactsKept before now →
        FactsKept before (after_operands operands now)
    operands_kept [] before now t k = k
    operands_kept (operand ∷ operands) before now t k =
        operands_kept operands before (after_operand operand now) t.1 (operand_kept operand before now t.0 k)

    -- what arguments name by `&mut` may be changed
    abbrev MayIfUnique : Naming → Type 0
    MayIfUnique m = m.unique ≡ true → May m.place

    both_each : (a b : List Naming) → Each MayIfUnique a → Each MayIfUnique b → Each MayIfUnique (a ++ b)
    both_each [] b f g = g
    both_each (n ∷ a) b f g = (f.0, both_each a b f.1 g)

    one_allowed : (operand : Operand) (now : Facts) → Takes May operand → Each AllowedNaming now.naming →
        Each MayIfUnique (checks.named_by_one items local_ty is_target now operand)
    one_allowed (effects.Moved site) now t k = by (named_by site.place.local now) refl
      where
        by : (o : Option Naming) → named_by site.place.local now ≡ o → Each MayIfUnique (listed o)
        by None e = tt
        by (Some m) e =
            let f = found AllowedNaming (λ (x : Naming). x.local == site.place.local) now.naming m k e in
            (λ u. allowed_so m (f.1 u) f.0, tt)
          where
            allowed_so : (m : Naming) → May m.place ⊎ Fixed m.local → (m.local == site.place.local) ≡ true → May m.place
            allowed_so m (inl x) h = x
            allowed_so m (inr x) h = absurd (false≢true (sym (x site.place t) ∙ h))
    one_allowed (effects.Copied site) now t k = tt
    one_allowed (effects.Number value kind) now t k = tt
    one_allowed (effects.Truth value) now t k = tt
    one_allowed effects.UnitValue now t k = tt

    operand_allowed : (operand : Operand) (now : Facts) → Each AllowedNaming now.naming →
        Each AllowedNaming (after_operand operand now).naming
    operand_allowed (effects.Moved site) now k = each_kept AllowedNaming AllowedNaming
        (λ (x : Naming). not (x.local == site.place.local) && not (takes_index site.place.local x.place.steps))
        now.naming (λ x e h. h) k
    operand_allowed (effects.Copied site) now k = k
    operand_allowed (effects.Number value kind) now k = k
    operand_allowed (effects.Truth value) now k = k
    operand_allowed effects.UnitValue now k = k

    all_allowed : (args : List Operand) (now : Facts) → AllTake May args → Each AllowedNaming now.naming →
        Each MayIfUnique (named_by_all now args)
    all_allowed [] now t k = tt
    all_allowed (operand ∷ args) now t k =
        both_each (checks.named_by_one items local_ty is_target now operand)
        (named_by_all (after_operand operand now) args) (one_allowed operand now t.0 k)
        (all_allowed args (after_operand operand now) t.1 (operand_allowed operand now k))

    naming_kept : (m : Naming) (before now : Facts) → MayIfUnique m → FactsKept before now →
        FactsKept before (checks.after_naming items local_ty is_target m now)
    naming_kept m before now h k = by m.unique refl
      where
        by : (b : Bool) → m.unique ≡ b → FactsKept before (without_if b m.place now)
        by true e = without_kept m.place before now (h e) k
        by false e = k

    namings_kept : (ms : List Naming) (before now : Facts) → Each MayIfUnique ms → FactsKept before now →
        FactsKept before (after_namings ms now)
    namings_kept [] before now h k = k
    namings_kept (m ∷ ms) before now h k =
        namings_kept ms before (checks.after_naming items local_ty is_target m now) h.1 (naming_kept m before now h.0 k)

    -- a reference is made in a local that may be changed
    made_kept : (m : Naming) (to : Place) (before now : Facts) → May to → m.local ≡ to.local →
        (m.unique ≡ true → May m.place) → FactsKept before now → FactsKept before (with_naming m now)
    made_kept m to before now t same h k = record {
      bounded = k.bounded;
      variants = k.variants;
      naming = λ local n f w e.
          ap (λ b. if b then Some m else named_by local now)
          (other m.local local (subst (λ x. (local == x) ≡ false) (sym same) (f to t))) ∙ k.naming local n f w e;
      allowed = (λ u. inl (h u), k.allowed);
    }
      where
        other : (a b : ℕ) → (b == a) ≡ false → (a == b) ≡ false
        other a b e = by (a == b) refl
          where
            by : (c : Bool) → (a == b) ≡ c → c ≡ false
            by true x = absurd (false≢true (sym e ∙ (Decides-eqb b a).1 (sym ((Decides-eqb a b).0 x))))
            by false x = refl

    call_kept : (to : EffectSite) (args : List Operand) (before now : Facts) → May to.place → AllTake May args →
        FactsKept before now → FactsKept before (without to.place
        (after_namings (named_by_all now args) (after_operands args now)))
    call_kept to args before now m t k = without_kept to.place before
        (after_namings (named_by_all now args) (after_operands args now)) m
        (namings_kept (named_by_all now args) before (after_operands args now) (all_allowed args now t k.allowed)
        (operands_kept args before now t k))

    refilled_kept : (before now : Facts) → FactsKept before now →
        FactsKept before (checks.refilled_now items local_ty is_target now)
    refilled_kept before now k = record {
      bounded = k.bounded;
      variants = k.variants;
      naming = k.naming;
      allowed = k.allowed;
    }

    two_kept : (left right : Operand) (before now : Facts) → Takes May left → Takes May right →
        FactsKept before now → FactsKept before (after_operand right (after_operand left now))
    two_kept left right before now l r k =
        operand_kept right before (after_operand left now) r (operand_kept left before now l k)

    pub action_kept : (action : Action) (before now : Facts) → Allowed May action → FactsKept before now →
        FactsKept before (checks.after_action items local_ty is_target action now)
    action_kept (effects.Put to from) before now a k = refilled_kept before (without to.place (after_operand from now))
        (without_kept to.place before (after_operand from now) a.0 (operand_kept from before now a.1 k))
    action_kept (effects.Compare to operator left right) before now a k = without_kept to.place before
        (after_operand right (after_operand left now)) a.0 (two_kept left right before now a.1.0 a.1.1 k)
    action_kept (effects.Not to operand) before now a k =
        without_kept to.place before (after_operand operand now) a.0 (operand_kept operand before now a.1 k)
    action_kept (effects.Build to kind parts) before now a k =
        without_kept to.place before (after_operands parts now) a.0 (operands_kept parts before now a.1 k)
    action_kept (effects.NewBox to content) before now a k =
        without_kept to.place before (after_operand content now) a.0 (operand_kept content before now a.1 k)
    action_kept (effects.Unsize to trait_no operand) before now a k =
        without_kept to.place before (after_operand operand now) a.0 (operand_kept operand before now a.1 k)
    action_kept (effects.Borrow to unique base) before now a k =
        made_kept (record { local = to.place.local; unique = unique; place = base.place }) to.place before
        (without to.place now) a.0 refl a.1 (without_kept to.place before now a.0 k)
    action_kept (effects.Touch base) before now a k = k
    action_kept (effects.Print operand) before now a k = operand_kept operand before now a k
    action_kept (effects.Forget operand) before now a k = operand_kept operand before now a k
    action_kept (effects.Free box) before now a k = k
    action_kept (effects.Compute to operator left right) before now a k = without_kept to.place before
        (after_operand right (after_operand left now)) a.0 (two_kept left right before now a.1.0 a.1.1 k)
    action_kept (effects.Negate to operand) before now a k =
        without_kept to.place before (after_operand operand now) a.0 (operand_kept operand before now a.1 k)
    action_kept (effects.Bounds (effects.Copied site) length) before now a k = record {
      bounded = λ local count f h. either
          (site.place.local == local && length == count) (bounded_by now local count) (k.bounded local count f h);
      variants = k.variants;
      naming = k.naming;
      allowed = k.allowed;
    }
      where
        either : (b c : Bool) → c ≡ true → (b || c) ≡ true
        either true c h = refl
        either false c h = h
    action_kept (effects.Bounds (effects.Moved site) length) before now a k = k
    action_kept (effects.Bounds (effects.Number value kind) length) before now a k = k
    action_kept (effects.Bounds (effects.Truth value) length) before now a k = k
    action_kept (effects.Bounds effects.UnitValue length) before now a k = k
    action_kept (effects.Call to body args) before now a k = call_kept to args before now a.0 a.1 k
    action_kept (effects.CallVirtual to trait_no method args) before now a k = call_kept to args before now a.0 a.1 k
    action_kept (effects.Ask to) before now a k = without_kept to.place before now a k

    pub unwound_kept : (action : Action) (before now : Facts) → Allowed May action → FactsKept before now →
        FactsKept before (checks.after_unwound items local_ty is_target action now)
    unwound_kept (effects.Bounds index length) before now a k = k
    unwound_kept (effects.Touch base) before now a k = k
    unwound_kept (effects.Free box) before now a k = k
    unwound_kept other before now a k = action_kept other before now a k

    pub taken_kept : (test : Test) (before now : Facts) → AllowedTest May test → FactsKept before now →
        FactsKept before (checks.after_taken items local_ty is_target test now)
    taken_kept (effects.IsTrue operand) before now t k = operand_kept operand before now t k
    taken_kept (effects.HasVariant site variant) before now t k = record {
      bounded = k.bounded;
      variants = λ place n f h. either
          (same_place site.place place && variant == n) (variant_known now place n) (k.variants place n f h);
      naming = k.naming;
      allowed = k.allowed;
    }
      where
        either : (b c : Bool) → c ≡ true → (b || c) ≡ true
        either true c h = refl
        either false c h = h

    pub declined_kept : (test : Test) (before now : Facts) → AllowedTest May test → FactsKept before now →
        FactsKept before (checks.after_declined items local_ty is_target test now)
    declined_kept (effects.IsTrue operand) before now t k = operand_kept operand before now t k
    declined_kept (effects.HasVariant site variant) before now t k = k

    pub dropped_kept : (place : Place) (before now : Facts) → May place → FactsKept before now →
        FactsKept before (checks.after_drop items local_ty is_target place now)
    dropped_kept place before now m k = by (checks.no_steps place.steps)
      where
        w : FactsKept before (without place now)
        w = without_kept place before now m k

        by : (b : Bool) → FactsKept before (checks.refilled_if b place (without place now))
        by true = w
        by false = record {
          bounded = w.bounded;
          variants = w.variants;
          naming = w.naming;
          allowed = w.allowed;
        }
