-- No type of an accepted text holds itself.
use Rattle.std.proofs.Common.{◌≡◌, ℕ, zero, suc, ◌+◌, ◌<◌, ◌≤◌, Bool, true, false, ◌&&◌, ◌||◌, cond, not, List, [], ◌∷◌, length, slice_get, Option, Some, None, Result, Ok, Err, IsTrue, Contains, ◌⊎◌, inl, inr, refl, ap, sym, subst, ◌∙◌, arith}
use Rattle.std.specs.Prelude.{codes, is_some, flat_map}
use Rattle.std.specs.List.{list_any, list_all, filter_map}
use Rattle.std.proofs.lemmas.Bool.{false≢true, and_from, cases_eq, eq-eqb}
use Rattle.std.proofs.lemmas.Option.{none-some, same_Some, slice_get_within}
use Rattle.mir_base.specs.declared.place_in_text.Pos.{Pos}
use Rattle.mir_base.specs.declared.rule.Rule as rule
use Rattle.mir_ty.specs.declared.adt.Adt.{Adt}
use Rattle.mir_ty.specs.declared.adt.Variant.{Variant}
use Rattle.mir_ty.specs.declared.def.ClosureDef.{ClosureDef}
use Rattle.mir_ty.specs.declared.ty.Ty.{Ty}
use Rattle.mir_ty.specs.declared.ty.TyId.{TyId}
use Rattle.mir_ty.specs.Facts.{Rule}
use Rattle.mir_ty.specs.ItemTable.{ItemTable, type_at}
use Rattle.mir_ty.specs.Parts.{held_by, variants_of, captures_of}
use Rattle.mir_ty.proofs.FixedPoint.{IsGrowing, by_rule-settled, by_rule-shown, in_rounds-least}
use Rattle.src_tree.specs.Layout.{Parts}
use Rattle.typed_tree.specs.Tree.{ProgramTree}
use Rattle.well_typed.specs.Items.{finite_rule, is_finite}
use Rattle.well_typed.specs.Types.{is_same, closure_in}
use Rattle.typing_rules.specs.Check.{TypingState, Broken, obeys}
use Rattle.typing_rules.specs.Collected as rules
use Rattle.typing_rules.specs.Items.{ItemSyn, items_of, item_syns, body_paths}
use Rattle.typing_rules.specs.Promises.{AreReady, Extends, IsAlone, IsValueType, made_of, ComesAfter}
use Rattle.typing_rules.specs.Written.{number_of}
use Rattle.typing_rules.proofs.Sound.Interned.{made_held}
use Rattle.src_ast.specs.Syntax.{Syn, syn, AnItem, StructItem, EnumItem}
use Rattle.typing_soundness.specs.Heads.{IsAdtOf, AreAdtsOf}
use Rattle.typing_soundness.specs.Program.{IsAccepted}
use Rattle.typing_soundness.specs.Walks.{Walked}
use Rattle.typing_soundness.proofs.Bodies.Program.{bodies_typed}
use Rattle.typing_soundness.proofs.Items.Accepted.{items_kept, ready_at_first}
use Rattle.typing_soundness.proofs.Items.Accepting.{are_collected, are_typed}
use Rattle.typing_soundness.proofs.Items.Collected.{all_adts, both_tell, finite_still, names_still}
use Rattle.typing_soundness.proofs.Items.Copies.{Derived, derived_in, derived_of_text, all_derived}
use Rattle.typing_soundness.proofs.Items.Headed.{heads_of_text, ok_same, no_ok}
use Rattle.typing_soundness.proofs.Items.Ready.{All, ItemKeeps, names_ready, heads_ready, impls_ready, is_finite_ready}
use Rattle.typing_soundness.proofs.Walking.Steps.{walk, walk_map, walk_ends, walk_interned_as}

-- ---- lists and numbers

-- a list passes where each of its members does
all_true : {A : Type 0} (p : A → Bool) (xs : List A) → ((x : A) → Contains xs x → p x ≡ true) → list_all p xs ≡ true
all_true p [] h = refl
all_true p (x ∷ xs) h =
    and_from (p x) _ (h x (0, omega arith, refl)) (all_true p xs (λ y has. h y (suc has.0, omega (arith, has.1), has.2)))

all_grows : {A : Type 0} (p q : A → Bool) (xs : List A) → ((x : A) → p x ≡ true → q x ≡ true) → list_all p xs ≡ true →
    list_all q xs ≡ true
all_grows p q [] so h = refl
all_grows p q (x ∷ xs) so h = by (p x) refl h (all_grows p q xs so)
  where
    by : (b : Bool) → p x ≡ b → (b && list_all p xs) ≡ true → (list_all p xs ≡ true → list_all q xs ≡ true) → list_all q (x
        ∷ xs) ≡ true
    by true e h on = and_from (q x) _ (so x e) (on h)
    by false e h on = absurd (false≢true h)

-- one of a list passes
any_true : {A : Type 0} (p : A → Bool) (xs : List A) (x : A) → Contains xs x → p x ≡ true → list_any p xs ≡ true
any_true p [] x has h = absurd (omega (arith, has.1))
any_true p (y ∷ xs) x (zero, below, is) h = ap (λ b. b || list_any p xs) (ap p is ∙ h)
any_true p (y ∷ xs) x (suc k, below, is) h = by (p y) (any_true p xs x (k, omega (arith, below), is) h)
  where
    by : (b : Bool) → list_any p xs ≡ true → (b || list_any p xs) ≡ true
    by true h = refl
    by false h = h

any_found : {A : Type 0} (p : A → Bool) (xs : List A) → list_any p xs ≡ true → (x : A) × Contains xs x × (p x ≡ true)
any_found p [] h = absurd (false≢true h)
any_found p (x ∷ xs) h = by (p x) refl h (any_found p xs)
  where
    by : (b : Bool) → p x ≡ b → (b || list_any p xs) ≡ true → (list_any p xs ≡ true → (y : _) × Contains xs y × (p y ≡
        true)) → (y : _) × Contains (x ∷ xs) y × (p y ≡ true)
    by true e h on = (x, (0, omega arith, refl), e)
    by false e h on = let f = on h in (f.0, (suc f.1.0, omega (arith, f.1.1), f.1.2), f.2)

-- how many numbers below one pass
abbrev count : (ℕ → Bool) → ℕ → ℕ
count f zero = 0
count f (suc n) = cond (f n) 1 0 + count f n

count_within : (f g : ℕ → Bool) → ((k : ℕ) → f k ≡ true → g k ≡ true) → (n : ℕ) → count f n ≤ count g n
count_within f g so zero = omega arith
count_within f g so (suc n) = by (f n) (g n) refl refl (count_within f g so n)
  where
    by : (a b : Bool) → f n ≡ a → g n ≡ b → count f n ≤ count g n → cond a 1 0 + count f n ≤ cond b 1 0 + count g n
    by true true e d h = omega (arith, h)
    by true false e d h = absurd (false≢true (sym d ∙ so n e))
    by false true e d h = omega (arith, h)
    by false false e d h = omega (arith, h)

-- fewer, where one is left out
count_less : (f g : ℕ → Bool) → ((k : ℕ) → f k ≡ true → g k ≡ true) → (j : ℕ) → f j ≡ false → g j ≡ true → (n : ℕ) → j < n →
    count f n < count g n
count_less f g so j left_out passed zero below = absurd (omega (arith, below))
count_less f g so j left_out passed (suc n) below = by (cases_eq j n) (count_less f g so j left_out passed n)
  where
    here : (a b : Bool) → a ≡ false → b ≡ true → cond a 1 0 + count f n < cond b 1 0 + count g n
    here a b e d =
        subst (λ x. cond x 1 0 + count f n < cond b 1 0 + count g n) (sym e) (subst (λ x. 0 + count f n < cond x 1 0 + count
        g n) (sym d) (let h = count_within f g so n in omega (arith, h)))

    there : (a b : Bool) → f n ≡ a → g n ≡ b → count f n < count g n → cond a 1 0 + count f n < cond b 1 0 + count g n
    there true true e d h = omega (arith, h)
    there true false e d h = absurd (false≢true (sym d ∙ so n e))
    there false true e d h = omega (arith, h)
    there false false e d h = omega (arith, h)

    by : (j ≡ n) ⊎ (j ≡ n → ⊥) → (j < n → count f n < count g n) → count f (suc n) < count g (suc n)
    by (inl same) on = here (f n) (g n) (ap f (sym same) ∙ left_out) (ap g (sym same) ∙ passed)
    by (inr other) on = there (f n) (g n) refl refl (on (omega (arith, below, other)))

-- ---- what holds a type

-- a type holds another
abbrev holds_in : ItemTable → TyId → TyId → Bool
holds_in items x part = rules.holds items part x

module _ (items : ItemTable) where
  abbrev holds_rule : TyId → Rule
  holds_rule part = λ known ty. list_any (λ h. is_same h part || known h) (held_by items ty)

  holds_grows : (part : TyId) → IsGrowing (holds_rule part)
  holds_grows part = record { grows = λ P Q within ty h. by P Q within (held_by items ty) h }
    where
      by : (P Q : TyId → Bool) → ((id : TyId) → P id ≡ true → Q id ≡ true) → (xs : List TyId) → list_any (λ h. is_same h part ||
          P h) xs ≡ true → list_any (λ h. is_same h part || Q h) xs ≡ true
      by P Q within xs h =
          let f = any_found (λ h. is_same h part || P h) xs h in any_true (λ h. is_same h part || Q h) xs f.0 f.1 (one
          f.0 (is_same f.0 part) f.2)
        where
          one : (x : TyId) (b : Bool) → (b || P x) ≡ true → (b || Q x) ≡ true
          one x true h = refl
          one x false h = within x h

  -- what a type holds at once, and what that holds
  holds_by : (x h y : TyId) (ty : Ty) → type_at items x ≡ Some ty → Contains (held_by items ty) h → (is_same h y ||
      holds_in items h y) ≡ true → holds_in items x y ≡ true
  holds_by x h y ty at has so =
      by_rule-settled items.types (holds_rule y) (holds_grows y) x ty at (any_true (λ g. is_same g y || holds_in items g
      y) (held_by items ty) h has so)

  finite_grows : IsGrowing (finite_rule items)
  finite_grows = record { grows = λ P Q within ty h. all_grows P Q (held_by items ty) within h }

  -- a type is finite where all that it holds is
  finite_by : (x : TyId) (ty : Ty) → type_at items x ≡ Some ty → ((h : TyId) → Contains (held_by items ty) h → is_finite items
      h ≡ true) → is_finite items x ≡ true
  finite_by x ty at h =
      by_rule-settled items.types (finite_rule items) finite_grows x ty at (all_true (is_finite items) (held_by items ty) h)

-- ---- among more types

-- one type has the number of a struct or an enum, and does not hold itself
abbrev IsChecked : ItemTable → ℕ → Type 0
IsChecked items n = (id : TyId) × (type_at items id ≡ Some (Ty.Adt n)) × (holds_in items id id ≡ false)

abbrev AreChecked : ItemTable → ℕ → Derived → Type 0
AreChecked items n [] = Unit {0}
AreChecked items n (a ∷ as_) = IsChecked items n × AreChecked items (suc n) as_

held_same : (old new : ItemTable) → new.adts ≡ old.adts → new.closures ≡ old.closures → (ty : Ty) → held_by new ty ≡ held_by
    old ty
held_same old new adts closures (Ty.Adt n) =
    ap (λ as_. flat_map (λ (v : Variant). v.fields) (variants_of (slice_get as_ n))) adts
held_same old new adts closures (Ty.Closure n) = ap (λ cs. captures_of (slice_get cs n)) closures
held_same old new adts closures _ = refl

module _ (old new : ItemTable) (ready : AreReady old) (types : (n : ℕ) (ty : Ty) → slice_get old.types n ≡ Some ty → slice_get
    new.types n ≡ Some ty) (adts : new.adts ≡ old.adts) (closures : new.closures ≡ old.closures) where
  -- what a type of the older table holds in the newer one, it held already
  abbrev held_before : TyId → TyId → Bool
  held_before part x = not (is_some (type_at old x)) || holds_in old x part

  still_held : (part x : TyId) → holds_in new x part ≡ true → held_before part x ≡ true
  still_held part =
      in_rounds-least new.types (holds_rule new part) (holds_grows new part) (held_before part) closed (length new.types)
    where
      closed : (x : TyId) (ty : Ty) → slice_get new.types x.0 ≡ Some ty → holds_rule new part (held_before part) ty ≡ true →
          held_before part x ≡ true
      closed x ty at h = by (type_at old x) refl
        where
          by : (o : Option Ty) → type_at old x ≡ o → (not (is_some o) || holds_in old x part) ≡ true
          by None is = refl
          by (Some t) is =
              let same : ty ≡ t = same_Some ty t (sym at ∙ types x.0 t is) in
              let f = any_found (λ g. is_same g part || held_before part g) (held_by new ty) h in
              let has : Contains (held_by old t) f.0 =
              subst (λ xs. Contains xs f.0) (ap (held_by new) same ∙ held_same old new adts closures t) f.1 in
              holds_by old x f.0 part t is has (was f.0 (ready.held x f.0 t is has) (is_same f.0 part) f.2)
            where
              was : (g : TyId) → IsAlone old g → (b : Bool) → (b || held_before part g) ≡ true → (b || holds_in old g
                  part) ≡ true
              was g alone true h = refl
              was g alone false h = ap (λ o. not (is_some o) || holds_in old g part) (sym alone.1) ∙ h

  checked_later : (n : ℕ) → IsChecked old n → IsChecked new n
  checked_later n (id, at, no_) = (id, types id.0 (Ty.Adt n) at, by (holds_in new id id) refl)
    where
      by : (b : Bool) → holds_in new id id ≡ b → b ≡ false
      by true e =
          absurd (false≢true (sym no_ ∙ (ap (λ o. not (is_some o) || holds_in old id id) (sym at) ∙ still_held id id e)))
      by false e = refl

-- ---- what is asked at the end of the collection

obeyed_so : {P : Type 0} (r : rule.Rule) (at : Pos) (b : Bool) (s : TypingState) → (IsTrue b → P) → Walked (λ _ t. P × (t ≡ s))
    (obeys r at b s)
obeyed_so r at true s h = walk_ends (h refl, refl)
obeyed_so r at false s h = record { so = tt }

no_truth : (b : Bool) → IsTrue (not b) → b ≡ false
no_truth true h = absurd (false≢true h)
no_truth false h = refl

one_checked : (n : ℕ) (at : Pos) (s : TypingState) → Walked (λ _ t. IsChecked t.items n) (rules.is_finite n at s)
one_checked n at s =
    walk_interned_as (Ty.Adt n) s λ id t same is. walk_map (obeyed_so rule.Rule.T09 at (not (rules.holds t.items id id)) t
    (no_truth (holds_in t.items id id))) λ _ u h. subst (λ (w : TypingState). IsChecked w.items n) (sym h.1) (id, is, h.0)

all_checked : (n : ℕ) (as_ : Derived) (s : TypingState) → Walked (λ _ t. AreReady s.items → AreChecked t.items n as_)
    (rules.all_finite n as_ s)
all_checked n [] s = walk_ends (λ ready. tt)
all_checked n (a ∷ as_) s =
    walk {f = λ _. rules.all_finite (suc n) as_} (both_tell (rules.is_finite n a.0 s) (is_finite_ready n a.0 s) (one_checked n a.0 s)) λ
    _ t e. walk_map (both_tell (rules.all_finite (suc n) as_ t) (finite_still (suc n) as_ t) (all_checked (suc n) as_ t)) λ
    _ u g ready. (
      checked_later t.items u.items (e.0 ready).0 g.0.stays.types g.0.stays.adts g.0.stays.closures n e.1,
      g.1 (e.0 ready).0,
    )

collecting_checked : (is : List ItemSyn) (end : Pos) → All ItemKeeps is → Walked (λ _ t. AreChecked t.items 0 (derived_in
    is)) (rules.collecting is end (rules.starting_with rules.no_items))
collecting_checked is end h =
    walk (both_tell (rules.names_differ (filter_map rules.item_name (item_syns is)) [] start) (names_ready (filter_map
    rules.item_name (item_syns is)) [] start) (names_still (filter_map rules.item_name (item_syns is)) [] start)) λ _ t e.
    walk (heads_ready (rules.known_of is) (record { outer = []; in_outer = 0; closures = 0 }) is t h e.1.stays.closures) λ _
    u f. walk (impls_ready (rules.known_of is) (item_syns is) u) λ _ v g. walk (all_checked 0 (derived_in is) v) λ _ w l.
    walk (all_derived (rules.drop_owners is) 0 (derived_in is) w) λ _ x d. walk_map (obeyed_so {P = Unit {0}}
    rule.Rule.T01 end (is_some (number_of (body_paths is)
    (codes "main"))) x (λ _. tt)) λ _ y o. subst (λ items. AreChecked items 0 (derived_in is)) (sym (ap (λ (z : TypingState).
    z.items) o.1 ∙ d.0)) (l (g (f (e.0 ready_at_first).0).0).0)
  where
    start : TypingState
    start = rules.starting_with rules.no_items

-- ---- types of the collected table

module _ (items later : ItemTable) (extends : Extends items later) (ready : AreReady items) (none : items.closures ≡ []) (checked
    : (n : ℕ) (id : TyId) → type_at items id ≡ Some (Ty.Adt n) → holds_in items id id ≡ false) where
  -- what a type holds, and the type itself
  abbrev within : TyId → ℕ → Bool
  within x k = is_same x (record { 0 = k }) || holds_in items x (record { 0 = k })

  abbrev size : TyId → ℕ
  size x = count (within x) (length items.types)

  -- a type that stands alone, before there are closures
  plain_at : (h : TyId) → IsAlone items h → (ty : Ty) × (type_at items h ≡ Some ty) × (closure_in ty ≡ None)
  plain_at h alone = (alone.0, alone.1, by alone.0 alone.2)
    where
      by : (ty : Ty) → IsValueType items ty → closure_in ty ≡ None
      by (Ty.Closure n) v = absurd (false≢true (subst (λ cs. IsTrue (is_some (slice_get cs n))) none v))
      by _ v = refl

  module _ (x h : TyId) (ty : Ty) (at : type_at items x ≡ Some ty) (has : Contains (held_by items ty) h) where
    within_more : (k : ℕ) → within h k ≡ true → within x k ≡ true
    within_more k so =
        let e = holds_by items x h (record { 0 = k }) ty at has so in
        by (is_same x (record { 0 = k })) e
      where
        by : (b : Bool) → holds_in items x (record { 0 = k }) ≡ true → (b || holds_in items x (record { 0 = k })) ≡
            true
        by true e = refl
        by false e = e

    size_within : size h ≤ size x
    size_within = count_within (within h) (within x) within_more (length items.types)

    -- what holds itself in no way is not within what it holds
    size_less : holds_in items x x ≡ false → size h < size x
    size_less no_ =
        count_less (within h) (within x) within_more x.0 (by (within h x.0) refl) own (length items.types) (slice_get_within
        items.types x.0 ty at)
      where
        own : within x x.0 ≡ true
        own = ap (λ b. b || holds_in items x x) (eq-eqb x.0 x.0 refl)

        by : (b : Bool) → within h x.0 ≡ b → b ≡ false
        by true e = absurd (false≢true (sym no_ ∙ holds_by items x h x ty at has e))
        by false e = refl

  abbrev IsFinite : TyId → Type 0
  IsFinite x = is_finite later x ≡ true

  finite_later : (x : TyId) (ty : Ty) → type_at items x ≡ Some ty → ((h : TyId) → Contains (held_by later ty) h → IsFinite h) →
      IsFinite x
  finite_later x ty at h = finite_by later x ty (extends.types x.0 ty at) h

  -- by how much a type holds, and then by its number
  abbrev AreFiniteTo : ℕ → ℕ → Type 0
  AreFiniteTo m i =
      (x : TyId) (ty : Ty) → type_at items x ≡ Some ty → closure_in ty ≡ None → size x < m → x.0 < i → IsFinite x

  nothing_held : (x : TyId) (ty : Ty) → type_at items x ≡ Some ty → held_by later ty ≡ [] → IsFinite x
  nothing_held x ty at e =
      finite_later x ty at (λ h has. absurd (let g = (subst (λ xs. Contains xs h) e has).1 in omega (arith, g)))

  adt_held : (n : ℕ) → held_by later (Ty.Adt n) ≡ held_by items (Ty.Adt n)
  adt_held n = ap (λ as_. flat_map (λ (v : Variant). v.fields) (variants_of (slice_get as_ n))) extends.adts

  step : (m i : ℕ) → ((j : ℕ) → AreFiniteTo m j) → AreFiniteTo (suc m) i → AreFiniteTo (suc m) (suc i)
  step m i less before x (Ty.Adt n) at plain big below =
      finite_later x (Ty.Adt n) at (λ h has.
      let own : Contains (held_by items (Ty.Adt n)) h = subst (λ xs. Contains xs h) (adt_held n) has in
      let t = plain_at h (ready.held x h (Ty.Adt n) at own) in
      less (suc h.0) h t.0 t.1 t.2 (let a = size_less x h (Ty.Adt n) at own (checked n x at) in omega (arith, a, big))
      (omega arith))
  step m i less before x (Ty.Tuple parts) at plain big below =
      finite_later x (Ty.Tuple parts) at (λ h has.
      let t = plain_at h (ready.held x h (Ty.Tuple parts) at has) in
      before h t.0 t.1 t.2 (let a = size_within x h (Ty.Tuple parts) at has in omega (arith, a, big)) (let a = ready.order
      x.0 (Ty.Tuple parts) h at has in omega (arith, a, below)))
  step m i less before x (Ty.Array element n) at plain big below =
      finite_later x (Ty.Array element n) at (λ h has.
      let t = plain_at h (ready.held x h (Ty.Array element n) at has) in
      before h t.0 t.1 t.2 (let a = size_within x h (Ty.Array element n) at has in omega (arith, a, big)) (let a =
      ready.order x.0 (Ty.Array element n) h at has in omega (arith, a, below)))
  step m i less before x (Ty.Closure n) at plain big below = absurd (none-some n (sym plain))
  step m i less before x other at plain big below = nothing_held x other at refl

  finite_to : (m i : ℕ) → AreFiniteTo m i
  finite_to zero i x ty at plain big below = absurd (omega (arith, big))
  finite_to (suc m) zero x ty at plain big below = absurd (omega (arith, below))
  finite_to (suc m) (suc i) x ty at plain big below =
      step m i (finite_to m) (finite_to (suc m) i) x ty at plain big below

  pub collected_finite : (x : TyId) (ty : Ty) → type_at items x ≡ Some ty → closure_in ty ≡ None → IsFinite x
  collected_finite x ty at plain = finite_to (suc (size x)) (suc x.0) x ty at plain (omega arith) (omega arith)

-- ---- types of the last table

module _ (items : ItemTable) (ready : AreReady items) (adts : (x : TyId) (n : ℕ) → type_at items x ≡ Some (Ty.Adt n) → is_finite
    items x ≡ true) where
  abbrev IsFiniteType : TyId → Type 0
  IsFiniteType x = is_finite items x ≡ true

  bare : (x : TyId) (ty : Ty) → type_at items x ≡ Some ty → held_by items ty ≡ [] → IsFiniteType x
  bare x ty at e =
      finite_by items x ty at (λ h has. absurd (let g = (subst (λ xs. Contains xs h) e has).1 in omega (arith, g)))

  -- closures of lower numbers
  abbrev AreClosuresTo : ℕ → Type 0
  AreClosuresTo k = (x : TyId) (j : ℕ) → type_at items x ≡ Some (Ty.Closure j) → j < k → IsFiniteType x

  -- types before a number, whose closures are finite
  abbrev IsLow : (bound : ℕ) → Type 0
  IsLow bound =
      (x : TyId) (ty : Ty) → type_at items x ≡ Some ty → x.0 < bound → closure_in ty ≡ None → IsFiniteType x

  module _ (k : ℕ) (lower : AreClosuresTo k) (before : ℕ) (made : (n j : ℕ) (ty : Ty) (part : TyId) → suc n ≤ before → slice_get
      items.types n ≡ Some ty → Contains (made_of ty) part → slice_get items.types part.0 ≡ Some (Ty.Closure j) → suc j ≤ k)
    where
      -- a part of a type before that number
      a_part : (i : ℕ) → i ≤ before → IsLow i → (x : TyId) (ty : Ty) → type_at items x ≡ Some ty → x.0 ≤ i → x.0 < before →
          (h : TyId) → Contains (made_of ty) h → IsFiniteType h
      a_part i within low x ty at below first h has =
          by alone.0 alone.1
        where
          alone : IsAlone items h
          alone = ready.held x h ty at (made_held items ty h has)

          less : h.0 < x.0
          less = let a = ready.order x.0 ty h at has in omega (arith, a)

          plain : (t : Ty) → type_at items h ≡ Some t → closure_in t ≡ None → IsFiniteType h
          plain t is e = low h t is (let a = less in omega (arith, a, below)) e

          by : (t : Ty) → type_at items h ≡ Some t → IsFiniteType h
          by (Ty.Closure j) is = lower h j is (let a = made x.0 j ty h first at has is in omega (arith, a))
          by other is = plain other is refl

      low_to : (i : ℕ) → i ≤ before → IsLow i
      low_to zero within x ty at below plain = absurd (omega (arith, below))
      low_to (suc i) within x ty at below plain = by ty at plain (low_to i (omega (arith, within)))
        where
          by : (t : Ty) → type_at items x ≡ Some t → closure_in t ≡ None → IsLow i → IsFiniteType x
          by (Ty.Adt n) at plain low = adts x n at
          by (Ty.Tuple parts) at plain low =
              finite_by items x (Ty.Tuple parts) at (a_part i (omega (arith, within)) low x (Ty.Tuple parts) at (omega (
                arith,
                below,
              )) (omega (arith, below, within)))
          by (Ty.Array element n) at plain low =
              finite_by items x (Ty.Array element n) at (a_part i (omega (arith, within)) low x (Ty.Array element n) at (omega
              (arith, below)) (omega (arith, below, within)))
          by (Ty.Closure n) at plain low = absurd (none-some n (sym plain))
          by other at plain low = bare x other at refl

  -- a closure is finite where those of lower numbers are
  one_closure : (k : ℕ) → AreClosuresTo k → (x : TyId) → type_at items x ≡ Some (Ty.Closure k) → IsFiniteType x
  one_closure k lower x at = by (slice_get items.closures k) refl
    where
      by : (o : Option ClosureDef) → slice_get items.closures k ≡ o → IsFiniteType x
      by None is = bare x (Ty.Closure k) at (ap captures_of is)
      by (Some def) is =
          finite_by items x (Ty.Closure k) at (λ h has. capture h (subst (λ o. Contains (captures_of o) h) is has) (ready.held
          x h (Ty.Closure k) at has))
        where
          after : ComesAfter items.types k def
          after = ready.after k def is

          capture : (h : TyId) → Contains def.captures h → IsAlone items h → IsFiniteType h
          capture h has alone = one alone.0 alone.1
            where
              plain : (t : Ty) → type_at items h ≡ Some t → closure_in t ≡ None → IsFiniteType h
              plain t is e = low_to k lower after.before after.lower after.before (omega arith) h t is (let a = after.captures
                  h has in omega (arith, a)) e

              one : (t : Ty) → type_at items h ≡ Some t → IsFiniteType h
              one (Ty.Closure j) is = lower h j is (let a = after.captured h j has is in omega (arith, a))
              one other is = plain other is refl

  closures_to : (k : ℕ) → AreClosuresTo k
  closures_to zero x j at below = absurd (omega (arith, below))
  closures_to (suc k) x j at below = one_closure j (λ y i is less. closures_to k y i is (omega (arith, below, less))) x at

  -- types up to a number
  abbrev AreFiniteBelow : ℕ → Type 0
  AreFiniteBelow i = (x : TyId) (ty : Ty) → type_at items x ≡ Some ty → x.0 < i → IsFiniteType x

  finite_below : (i : ℕ) → AreFiniteBelow i
  finite_below zero x ty at below = absurd (omega (arith, below))
  finite_below (suc i) x ty at below = by ty at (finite_below i)
    where
      a_held : (t : Ty) → type_at items x ≡ Some t → AreFiniteBelow i → (h : TyId) → Contains (made_of t) h →
          IsFiniteType h
      a_held t at on h has =
          let alone = ready.held x h t at (made_held items t h has) in
          on h alone.0 alone.1 (let a = ready.order x.0 t h at has in omega (arith, a, below))

      by : (t : Ty) → type_at items x ≡ Some t → AreFiniteBelow i → IsFiniteType x
      by (Ty.Adt n) at on = adts x n at
      by (Ty.Tuple parts) at on = finite_by items x (Ty.Tuple parts) at (a_held (Ty.Tuple parts) at on)
      by (Ty.Array element n) at on = finite_by items x (Ty.Array element n) at (a_held (Ty.Array element n) at on)
      by (Ty.Closure k) at on = closures_to (suc k) x k at (omega arith)
      by other at on = bare x other at refl

-- ---- the whole

-- as many structs and enums are asked about as there are
asked_at : (items : ItemTable) (n : ℕ) (is : List Syn) (adts : List Adt) → AreAdtsOf is adts → AreChecked items n (filter_map
    rules.adt_item is) → (k : ℕ) (adt : Adt) → slice_get adts k ≡ Some adt → IsChecked items (n + k)
asked_at items n [] [] are h k adt at = absurd (none-some adt at)
asked_at items n [] (a ∷ adts) are h k adt at = absurd are
asked_at items n (i ∷ is) [] are h k adt at = absurd are
asked_at items n (i ∷ is) (a ∷ adts) are h k adt at = by i are.0 h (asked_at items (suc n) is adts are.1) k at
  where
    -- those behind it
    Later : Type 0
    Later =
        AreChecked items (suc n) (filter_map rules.adt_item is) → (k : ℕ) (adt : Adt) → slice_get adts k ≡ Some adt →
        IsChecked items (suc n + k)

    on : IsChecked items n × AreChecked items (suc n) (filter_map rules.adt_item is) → Later → (k : ℕ) → slice_get (a ∷ adts)
        k ≡ Some adt → IsChecked items (n + k)
    on h later zero at = subst (IsChecked items) (omega arith) h.0
    on h later (suc k) at = subst (IsChecked items) (omega arith) (later h.1 k adt at)

    by : (j : Syn) → IsAdtOf j a → AreChecked items n (filter_map rules.adt_item (j ∷ is)) → Later → (k : ℕ) → slice_get (a ∷
        adts) k ≡ Some adt → IsChecked items (n + k)
    by (syn at (AnItem (StructItem ds name kind fields))) one h later = on h later
    by (syn at (AnItem (EnumItem ds name variants))) one h later = on h later
    by (syn at _) one h later = absurd one

module _ (parts : Parts Pos) (items : ItemTable) (p : ProgramTree) (h : IsAccepted parts items p) where
  ready : AreReady items
  ready = (are_collected parts items p h).ready

  extends : Extends items p.items
  extends = (bodies_typed parts items p (are_collected parts items p h) h.checked).0

  checked : AreChecked items 0 (derived_in (items_of parts))
  checked =
      by _ (collecting_checked (items_of parts) h.end (items_kept parts h.end items p h.collected h.checked h.text.listed))
      h.collected
    where
      by : (r : Result (Unit {0} × TypingState) Broken) → Walked (λ _ t. AreChecked t.items 0 (derived_in (items_of parts))) r →
          rules.items_in r ≡ Ok items → AreChecked items 0 (derived_in (items_of parts))
      by (Ok a) w e = subst (λ i. AreChecked i 0 (derived_in (items_of parts))) (ok_same a.1.items items e) w.so
      by (Err x) w e = absurd (no_ok x e)

  -- no struct or enum holds itself
  none_itself : (n : ℕ) (id : TyId) → type_at items id ≡ Some (Ty.Adt n) → holds_in items id id ≡ false
  none_itself n id at = by (slice_get items.adts n) refl
    where
      by : (o : Option Adt) → slice_get items.adts n ≡ o → holds_in items id id ≡ false
      by (Some adt) is =
          let c : IsChecked items n = subst (IsChecked items) (omega arith) (asked_at items 0 (all_adts (items_of parts)) items.adts (heads_of_text parts h.end items h.collected).adts
          (subst (AreChecked items 0) (sym (derived_of_text (items_of parts))) checked) n adt is) in
          let same : c.0.0 ≡ id.0 = ready.distinct c.0.0 id.0 (Ty.Adt n) c.1 at in
          subst (λ x. holds_in items x x ≡ false) (λ i. record { 0 = same i }) c.2
      by None is = no_ (holds_in items id id) refl
        where
          no_ : (b : Bool) → holds_in items id id ≡ b → b ≡ false
          no_ false e = refl
          no_ true e =
              let s = by_rule-shown items.types (holds_rule items id) (holds_grows items id) id e in
              let same : s.0 ≡ Ty.Adt n = same_Some s.0 (Ty.Adt n) (sym s.1 ∙ at) in
              absurd (false≢true (sym (ap (λ o. list_any (λ g. is_same g id || holds_in items g id) (flat_map (λ (v :
              Variant). v.fields) (variants_of o))) is) ∙ subst (λ t. holds_rule items id (λ g. holds_in items g id) t ≡
              true) same s.2))

  adt_finite : (x : TyId) (n : ℕ) → type_at p.items x ≡ Some (Ty.Adt n) → is_finite p.items x ≡ true
  adt_finite x n at =
      finite_by p.items x (Ty.Adt n) at (λ g has.
      let own : Contains (held_by items (Ty.Adt n)) g =
      subst (λ as_. Contains (flat_map (λ (v : Variant). v.fields) (variants_of (slice_get as_ n))) g) extends.adts has in
      let t = plain_at items p.items extends ready none none_itself g (ready.held_fields n g own) in
      collected_finite items p.items extends ready none none_itself g t.0 t.1 t.2)
    where
      none : items.closures ≡ []
      none = (heads_of_text parts h.end items h.collected).closures

  pub text_finite : (id : TyId) (ty : Ty) → type_at p.items id ≡ Some ty → IsTrue (is_finite p.items id)
  text_finite id ty at =
      finite_below p.items (are_typed parts items p h).0 adt_finite (suc id.0) id ty at (omega arith)
