-- What well typed items and bodies tell of the parts that lines name.
use Rattle.std.proofs.Common.{◌≡◌, ℕ, zero, suc, ◌+◌, ◌<◌, ◌==◌, ◌&&◌, ◌||◌, not, nat_lt, Bool, true, false, List, [], ◌∷◌, ◌++◌, length, Option, Some, None, slice_get, position, if◌then◌else◌, refl, sym, ap, subst, ◌∙◌, arith}
use Rattle.std.proofs.lemmas.Bool.{lt-ltb, eqb-true}
use Rattle.std.proofs.lemmas.Option.{none-some, same_Some, slice_get_within}
use Rattle.std.specs.Prelude.{is_some, replicate, option_and_then, codes}
use Rattle.std.specs.Str.{bytes_eq}
use Rattle.std.specs.List.{list_any, list_all}
use Rattle.std.specs.Option.{option_map_or}
use Rattle.cfg_graph.specs.WellFormed.LineFaults.{local_faults, local_tests}
use Rattle.cfg_graph.specs.WellFormed.TypeFaults.{is_drop_body, ty_exists, misplaces_dyn, existing, misplacing}
use Rattle.cfg_graph.proofs.NoFaults.{broken-holds}
use Rattle.cfg_graph.proofs.Rests.{position-any}
use Rattle.mir_ty.specs.declared.adt.Adt.{Adt}
use Rattle.mir_ty.specs.declared.adt.Variant.{Variant}
use Rattle.mir_ty.specs.declared.def.ClosureDef.{ClosureDef}
use Rattle.mir_ty.specs.declared.def.ImplDef.{ImplDef}
use Rattle.mir_ty.specs.declared.def.Sig.{Sig}
use Rattle.mir_ty.specs.declared.ty.Ty.{Ty}
use Rattle.mir_ty.specs.declared.ty.TyId.{TyId}
use Rattle.mir_ty.specs.Facts.{in_rounds}
use Rattle.mir_ty.specs.ItemTable.{ItemTable, type_at}
use Rattle.mir_ty.specs.Parts.{parts_of, fields_of, variants_of, captures_of, of_one_variant}
use Rattle.store_model.specs.Concrete.Effects.{impl_of}
use Rattle.store_model.specs.Places.Place.{content_of, element_of}
use Rattle.store_model.specs.Places.TypeForms as forms
use Rattle.typed_tree.specs.Tree.{BodyTree, ProgramTree}
use Rattle.well_typed.specs.Claim.{Claim, Holds, fact, some, each, nothing, ◌&◌}
use Rattle.well_typed.specs.Items as items_of
use Rattle.well_typed.specs.Nodes as typing
use Rattle.well_typed.specs.Program.{WellTyped, are_bodies, is_body}
use Rattle.well_typed.specs.Types as types
use Rattle.well_typed.proofs.ItemLemmas.{are_distinct}
use Rattle.lower_rules.proofs.KnownTypes.{closure_known}
use Rattle.lower_laws.proofs.Base.{untrue, and_first, and_second, found}

-- ---- lists of which all are so
all_at : {A : Type 0} (test : A → Bool) (xs : List A) (i : ℕ) (x : A) → list_all test xs ≡ true → slice_get xs i ≡ Some x → test x ≡ true
all_at test [] i x h e = absurd (none-some x e)
all_at test (y ∷ ys) zero x h e = subst (λ z. test z ≡ true) (same_Some y x e) (and_first (test y) _ h)
all_at test (y ∷ ys) (suc i) x h e = all_at test ys i x (and_second (test y) _ h) e

each_at : {A : Type 0} (f : A → Claim) (xs : List A) (i : ℕ) (x : A) → Holds (each f xs) → slice_get xs i ≡ Some x → Holds (f x)
each_at f [] i x h e = absurd (none-some x e)
each_at f (y ∷ ys) zero x h e = subst (λ z. Holds (f z)) (same_Some y x e) h.0
each_at f (y ∷ ys) (suc i) x h e = each_at f ys i x h.1 e

-- claims of the members of a table, each with its number
abbrev Numbered : {A : Type 0} → (ℕ → A → Claim) → ℕ → List A → Claim
Numbered f n [] = nothing
Numbered f n (x ∷ xs) = f n x & Numbered f (suc n) xs

numbered_at : {A : Type 0} (f : ℕ → A → Claim) (n : ℕ) (xs : List A) (i : ℕ) (x : A) → Holds (Numbered f n xs) → slice_get xs i ≡ Some x → (k : ℕ) × Holds (f k x)
numbered_at f n [] i x h e = absurd (none-some x e)
numbered_at f n (y ∷ ys) zero x h e = (n, subst (λ z. Holds (f n z)) (same_Some y x e) h.0)
numbered_at f n (y ∷ ys) (suc i) x h e = numbered_at f (suc n) ys i x h.1 e

any_at : {A : Type 0} (test : A → Bool) (xs : List A) → list_any test xs ≡ true → (i : ℕ) × (x : A) × (slice_get xs i ≡ Some x) × (test x ≡ true)
any_at test [] h = absurd (untrue h)
any_at test (y ∷ ys) h = by (test y) refl (any_at test ys) h
  where
    by : (b : Bool) → test y ≡ b → (list_any test ys ≡ true → (i : ℕ) × (x : _) × (slice_get ys i ≡ Some x) × (test x ≡ true)) → b || list_any test ys ≡ true → (i : ℕ) × (x : _) × (slice_get (y ∷ ys) i ≡ Some x) × (test x ≡ true)
    by true e later h = (0, y, refl, e)
    by false e later h = let it = later h in (suc it.0, it.1, it.2, it.3)

some_is : {A : Type 0} (o : Option A) → is_some o ≡ true → (x : A) × (o ≡ Some x)
some_is None h = absurd (untrue h)
some_is (Some x) h = (x, refl)

-- ---- locals
module _ (items : ItemTable) (bodies : ℕ) where
  there : (id : TyId) → ty_exists items id ≡ true → (ty : Ty) × (type_at items id ≡ Some ty)
  there id h = by (length items.types) h
    where
      by : (k : ℕ) → in_rounds items.types (existing items) k id ≡ true → (ty : Ty) × (type_at items id ≡ Some ty)
      by zero h = absurd (untrue h)
      by (suc k) h = of (slice_get items.types id.0) refl h
        where
          of : (o : Option Ty) → slice_get items.types id.0 ≡ o → option_map_or (existing items (in_rounds items.types (existing items) k)) o false ≡ true → (ty : Ty) × (type_at items id ≡ Some ty)
          of None e h = absurd (untrue h)
          of (Some ty) e h = (ty, e)

  sized : (id : TyId) (ty : Ty) → type_at items id ≡ Some ty → misplaces_dyn items id ≡ false → forms.is_dyn (Some ty) ≡ false
  sized id ty e h = by ty (length items.types) (some_round items.types id.0 ty e) e h
    where
      some_round : (xs : List Ty) (n : ℕ) (ty : Ty) → slice_get xs n ≡ Some ty → (k : ℕ) × (length xs ≡ suc k)
      some_round [] n ty e = absurd (none-some ty e)
      some_round (x ∷ xs) n ty e = (length xs, refl)

      by : (ty : Ty) (l : ℕ) → ((k : ℕ) × (l ≡ suc k)) → type_at items id ≡ Some ty → in_rounds items.types (misplacing items) l id ≡ false → forms.is_dyn (Some ty) ≡ false
      by (Ty.Dyn n) l r e h =
          let shown : in_rounds items.types (misplacing items) (suc r.0) id ≡ false = subst (λ (z : ℕ). in_rounds items.types (misplacing items) z id ≡ false) r.1 h in
          absurd (untrue (sym (ap (λ (o : Option Ty). option_map_or (misplacing items (in_rounds items.types (misplacing items) r.0)) o false) (sym e) ∙ shown)))
      by other l r e h = refl

  not_so : (b : Bool) → not b ≡ true → b ≡ false
  not_so true h = absurd (untrue h)
  not_so false h = refl

  -- a local without a fault is of a type of the table, and of no `dyn` type
  pub local_known : (id : TyId) → local_faults items bodies id ≡ [] → (ty : Ty) × (type_at items id ≡ Some ty) × (forms.is_dyn (Some ty) ≡ false)
  local_known id none =
      let t = there id (broken-holds (local_tests items bodies id) none 0 (1, ty_exists items id) refl) in
      (t.0, t.1, sized id t.0 t.1 (not_so (misplaces_dyn items id) (broken-holds (local_tests items bodies id) none 1 (3, not (misplaces_dyn items id)) refl)))

-- ---- items
module _ (p : ProgramTree) (w : WellTyped p) where
  items : ItemTable
  items = p.items

  pub good : (id : TyId) (ty : Ty) → type_at p.items id ≡ Some ty → items_of.is_well_made p.items ty ≡ true
  good id ty e = and_first (items_of.is_well_made p.items ty) _ (all_at (items_of.is_good_type p.items) p.items.types id.0 ty w.0.0.1.0 e)

  alone : (id : TyId) → items_of.stands_alone p.items id ≡ true → (t : Ty) × (type_at p.items id ≡ Some t)
  alone id h = some_is (type_at p.items id) (and_first (is_some (type_at p.items id)) _ h)

  of_alone : (ids : List TyId) (i : ℕ) (id : TyId) → list_all (items_of.stands_alone p.items) ids ≡ true → slice_get ids i ≡ Some id → (t : Ty) × (type_at p.items id ≡ Some t)
  of_alone ids i id h e = alone id (all_at (items_of.stands_alone p.items) ids i id h e)

  one_of : (parts : List TyId) (v n : ℕ) (j : TyId) → slice_get (of_one_variant parts v) n ≡ Some j → slice_get parts n ≡ Some j
  one_of parts v n j e = by (v == 0) e
    where
      by : (b : Bool) → slice_get (if b then parts else []) n ≡ Some j → slice_get parts n ≡ Some j
      by true e = e
      by false e = absurd (none-some j e)

  repeated : (count : ℕ) (x : TyId) (n : ℕ) (j : TyId) → slice_get (replicate count x) n ≡ Some j → x ≡ j
  repeated zero x n j e = absurd (none-some j e)
  repeated (suc count) x zero j e = same_Some x j e
  repeated (suc count) x (suc n) j e = repeated count x n j e

  pub parts_there : (id : TyId) (ty : Ty) (v n : ℕ) (j : TyId) → type_at p.items id ≡ Some ty → slice_get (parts_of p.items ty v) n ≡ Some j → (t : Ty) × (type_at p.items j ≡ Some t)
  parts_there id (Ty.Adt k) v n j e h = of_adt (slice_get p.items.adts k) refl h
    where
      of_adt : (o : Option Adt) → slice_get p.items.adts k ≡ o → slice_get (fields_of (slice_get (variants_of o) v)) n ≡ Some j → (t : Ty) × (type_at p.items j ≡ Some t)
      of_adt None q h = absurd (none-some j h)
      of_adt (Some adt) q h = of_variant (slice_get adt.variants v) refl h
        where
          of_variant : (o : Option Variant) → slice_get adt.variants v ≡ o → slice_get (fields_of o) n ≡ Some j → (t : Ty) × (type_at p.items j ≡ Some t)
          of_variant None r h = absurd (none-some j h)
          of_variant (Some variant) r h = of_alone variant.fields n j (each_at _ adt.variants v variant (numbered_at _ 0 p.items.adts k adt w.0.1.0 q).1.1.0 r).0 h
  parts_there id (Ty.Tuple parts) v n j e h = of_alone parts n j (and_first (list_all (items_of.stands_alone p.items) parts) _ (good id (Ty.Tuple parts) e)) (one_of parts v n j h)
  parts_there id (Ty.Array element count) v n j e h =
      subst (λ (z : TyId). (t : Ty) × (type_at p.items z ≡ Some t)) (repeated count element n j (one_of (replicate count element) v n j h)) (alone element (and_first (items_of.stands_alone p.items element) _ (good id (Ty.Array element count) e)))
  parts_there id (Ty.Closure k) v n j e h = of_closure (slice_get p.items.closures k) refl (one_of (captures_of (slice_get p.items.closures k)) v n j h)
    where
      of_closure : (o : Option ClosureDef) → slice_get p.items.closures k ≡ o → slice_get (captures_of o) n ≡ Some j → (t : Ty) × (type_at p.items j ≡ Some t)
      of_closure None q h = absurd (none-some j h)
      of_closure (Some def) q h = of_alone def.captures n j (numbered_at _ 0 p.items.closures k def w.0.1.1.1.1.1.0 q).1.0 h
  parts_there id other v n j e h = absurd (none-some j h)

  pub content_there : (id : TyId) (ty : Ty) (j : TyId) → type_at p.items id ≡ Some ty → content_of ty ≡ Some j → (t : Ty) × (type_at p.items j ≡ Some t)
  content_there id (Ty.Boxed content) j e h = subst (λ (z : TyId). (t : Ty) × (type_at p.items z ≡ Some t)) (same_Some content j h) (some_is (type_at p.items content) (and_first _ _ (good id (Ty.Boxed content) e)))
  content_there id (Ty.Shared to) j e h = subst (λ (z : TyId). (t : Ty) × (type_at p.items z ≡ Some t)) (same_Some to j h) (some_is (type_at p.items to) (and_first _ _ (good id (Ty.Shared to) e)))
  content_there id (Ty.Unique to) j e h = subst (λ (z : TyId). (t : Ty) × (type_at p.items z ≡ Some t)) (same_Some to j h) (some_is (type_at p.items to) (and_first _ _ (good id (Ty.Unique to) e)))
  content_there id other j e h = absurd (none-some j h)

  pub element_there : (id : TyId) (ty : Ty) (j : TyId) → type_at p.items id ≡ Some ty → element_of ty ≡ Some j → (t : Ty) × (type_at p.items j ≡ Some t)
  element_there id (Ty.Array element count) j e h = subst (λ (z : TyId). (t : Ty) × (type_at p.items z ≡ Some t)) (same_Some element j h) (alone element (and_first (items_of.stands_alone p.items element) _ (good id (Ty.Array element count) e)))
  element_there id other j e h = absurd (none-some j h)

  pub trait_there : (id : TyId) (n : ℕ) → type_at p.items id ≡ Some (Ty.Dyn n) → nat_lt n (length p.items.traits) ≡ true
  trait_there id n e = good id (Ty.Dyn n) e

  pub one_number : (a b : TyId) (ty : Ty) → type_at p.items a ≡ Some ty → type_at p.items b ≡ Some ty → a ≡ b
  one_number a b ty e d = ap (λ (n : ℕ). record { 0 = n }) (are_distinct p w a.0 b.0 ty e d)

  row_test : ℕ → ℕ → ImplDef → Bool
  row_test trait_no adt def = def.trait_no == trait_no && def.adt == adt

  pub row_there : (trait_no adt : ℕ) → types.implements p.items adt trait_no ≡ true → (impl_no : ℕ) × (impl_of p.items trait_no adt ≡ Some impl_no)
  row_there trait_no adt h = first_at (λ def. def.trait_no == trait_no && def.adt == adt) p.items.impls h
    where
      first_at : (test : ImplDef → Bool) (xs : List ImplDef) → list_any test xs ≡ true → (n : ℕ) × (position test xs ≡ Some n)
      first_at test xs h = some_is (position test xs) (position-any {X = ImplDef} test xs ∙ h)

  -- ---- bodies
  bodies_at : (m : ℕ) (sigs : List Sig) (bodies : List BodyTree) → Holds (are_bodies p.items m sigs bodies) → (i : ℕ) (tree : BodyTree) → slice_get bodies i ≡ Some tree → (sig : Sig) × (slice_get sigs i ≡ Some sig) × Holds (is_body p.items (m + i) sig tree)
  bodies_at m [] [] h i tree e = absurd (none-some tree e)
  bodies_at m [] (body ∷ bodies) h i tree e = absurd (untrue h)
  bodies_at m (sig ∷ sigs) [] h i tree e = absurd (none-some tree e)
  bodies_at m (sig ∷ sigs) (body ∷ bodies) h zero tree e =
      let same : m ≡ m + 0 = omega arith in
      (sig, refl, subst (λ (z : BodyTree). Holds (is_body p.items (m + 0) sig z)) (same_Some body tree e) (subst (λ (k : ℕ). Holds (is_body p.items k sig body)) same h.0))
  bodies_at m (sig ∷ sigs) (body ∷ bodies) h (suc i) tree e =
      let it = bodies_at (suc m) sigs bodies h.1 i tree e in
      let same : suc m + i ≡ m + suc i = omega arith in
      (it.0, it.1, subst (λ (k : ℕ). Holds (is_body p.items k it.0 tree)) same it.2)

  pub body_at : (i : ℕ) (tree : BodyTree) → slice_get p.bodies i ≡ Some tree → (sig : Sig) × (slice_get p.items.bodies i ≡ Some sig) × Holds (is_body p.items i sig tree)
  body_at i tree e = let it = bodies_at 0 p.items.bodies p.bodies w.1 i tree e in let same : 0 + i ≡ i = omega arith in (it.0, it.1, subst (λ (k : ℕ). Holds (is_body p.items k it.0 tree)) same it.2)

  as_many : (m : ℕ) (sigs : List Sig) (bodies : List BodyTree) → Holds (are_bodies p.items m sigs bodies) → length sigs ≡ length bodies
  as_many m [] [] h = refl
  as_many m [] (body ∷ bodies) h = absurd (untrue h)
  as_many m (sig ∷ sigs) [] h = absurd (untrue h)
  as_many m (sig ∷ sigs) (body ∷ bodies) h = ap suc (as_many (suc m) sigs bodies h.1)

  pub callable : (n : ℕ) (sig : Sig) → slice_get p.items.bodies n ≡ Some sig → nat_lt n (length p.bodies) ≡ true
  callable n sig e = lt-ltb n (length p.bodies) (subst (λ (k : ℕ). n < k) (as_many 0 p.items.bodies p.bodies w.1) (slice_get_within p.items.bodies n sig e))

  -- the claims of heads, as the definition has them
  abbrev Begins : ℕ → List TyId → Bool
  Begins n [] = false
  Begins n (ty ∷ tys) = option_map_or (λ m. m == n) (types.closure_of p.items ty) false && list_all (items_of.stands_alone p.items) tys

  abbrev NamedBy : ℕ → Bool × TyId → Bool
  NamedBy n r = option_map_or (λ m. m == n) (types.adt_of p.items r.1) false

  abbrev OneSelf : ℕ → List TyId → Bool
  OneSelf n (ty ∷ []) = option_map_or (λ r. r.0) (types.reference_of p.items ty) false && option_map_or (NamedBy n) (types.reference_of p.items ty) false
  OneSelf n _ = false

  abbrev DropHead : List ℕ → ℕ → Option ℕ → Claim
  DropHead name n None = nothing
  DropHead name n (Some body) = some (slice_get p.items.bodies body) (λ sig. fact (bytes_eq sig.name (name ++ codes "::drop")) & fact (OneSelf n sig.params && types.is_unit p.items sig.result))

  -- a closure's body begins with the closure's value, and that of a `Drop` impl has a reference alone
  pub closure_first : (n : ℕ) (def : ClosureDef) (i : ℕ) → slice_get p.items.closures i ≡ Some def → (sig : Sig) × (slice_get p.items.bodies def.body ≡ Some sig) × ((ty : TyId) × (tys : List TyId) × (k : ℕ) × (sig.params ≡ ty ∷ tys) × (type_at p.items ty ≡ Some (Ty.Closure k)))
  closure_first n def i e =
      let c = numbered_at _ 0 p.items.closures i def w.0.1.1.1.1.1.0 e in
      let sig = found (slice_get p.items.bodies def.body) _ c.1.1 in
      (sig.0, sig.1, begins c.0 sig.0.params sig.2)
    where
      begins : (n : ℕ) (tys : List TyId) → Begins n tys ≡ true → (ty : TyId) × (others : List TyId) × (k : ℕ) × (tys ≡ ty ∷ others) × (type_at p.items ty ≡ Some (Ty.Closure k))
      begins n [] h = absurd (untrue h)
      begins n (ty ∷ tys) h = of (types.closure_of p.items ty) refl (and_first _ _ h)
        where
          of : (o : Option ℕ) → types.closure_of p.items ty ≡ o → option_map_or (λ m. m == n) o false ≡ true → (first : TyId) × (others : List TyId) × (k : ℕ) × (ty ∷ tys ≡ first ∷ others) × (type_at p.items first ≡ Some (Ty.Closure k))
          of None q h = absurd (untrue h)
          of (Some k) q h = (ty, tys, k, refl, closure_known p.items ty k q)

  drop_first : (n : ℕ) (adt : Adt) (i : ℕ) → slice_get p.items.adts i ≡ Some adt → adt.drop_body ≡ Some n → (sig : Sig) × (slice_get p.items.bodies n ≡ Some sig) × ((ty : TyId) × (r : Bool × TyId) × (sig.params ≡ ty ∷ []) × (types.reference_of p.items ty ≡ Some r))
  drop_first n adt i e d =
      let a = numbered_at _ 0 p.items.adts i adt w.0.1.0 e in
      let sig = found (slice_get p.items.bodies n) _ (subst (λ (o : Option ℕ). Holds (DropHead adt.name a.0 o)) d a.1.1.1.1) in
      (sig.0, sig.1, of_one a.0 sig.0.params (and_first _ _ sig.2.1))
    where
      of_one : (n : ℕ) (tys : List TyId) → OneSelf n tys ≡ true → (ty : TyId) × (r : Bool × TyId) × (tys ≡ ty ∷ []) × (types.reference_of p.items ty ≡ Some r)
      of_one n [] h = absurd (untrue h)
      of_one n (ty ∷ []) h = of (types.reference_of p.items ty) refl (and_first _ _ h)
        where
          of : (o : Option (Bool × TyId)) → types.reference_of p.items ty ≡ o → option_map_or (λ r. r.0) o false ≡ true → (first : TyId) × (r : Bool × TyId) × (ty ∷ [] ≡ first ∷ []) × (types.reference_of p.items first ≡ Some r)
          of None q h = absurd (untrue h)
          of (Some r) q h = (ty, r, refl, q)
      of_one n (ty ∷ other ∷ tys) h = absurd (untrue h)

  -- so no body is both
  pub entered : (n : ℕ) → typing.is_closure_body p.items n ≡ true → is_drop_body p.items n ≡ false
  entered n h = by (is_drop_body p.items n) refl
    where
      by : (b : Bool) → is_drop_body p.items n ≡ b → is_drop_body p.items n ≡ false
      by false e = e
      by true e =
          let c = any_at _ p.items.closures h in
          let a = any_at _ p.items.adts e in
          let of_closure = closure_first n c.1 c.0 c.2 in
          let d = of_body a.1.drop_body a.3 in
          let of_drop = drop_first n a.1 a.0 a.2 d in
          let at : slice_get p.items.bodies n ≡ Some of_closure.0 = subst (λ (k : ℕ). slice_get p.items.bodies k ≡ Some of_closure.0) (eqb-true c.1.body n c.3) of_closure.1 in
          let same : of_closure.0 ≡ of_drop.0 = same_Some of_closure.0 of_drop.0 (sym at ∙ of_drop.1) in
          let params = sym of_closure.2.3 ∙ ap (λ (s : Sig). s.params) same ∙ of_drop.2.2 in
          let first : of_closure.2.0 ≡ of_drop.2.0 = same_Some of_closure.2.0 of_drop.2.0 (ap (λ (l : List TyId). slice_get l 0) params) in
          absurd (none-some of_drop.2.1 (sym (ap (option_and_then types.reference_in) (ap (type_at p.items) (sym first) ∙ of_closure.2.4)) ∙ of_drop.2.3))
        where
          of_body : (o : Option ℕ) → option_map_or (λ b. n == b) o false ≡ true → o ≡ Some n
          of_body None k = absurd (untrue k)
          of_body (Some b) k = ap (λ (z : ℕ). Some z) (sym (eqb-true n b k))
