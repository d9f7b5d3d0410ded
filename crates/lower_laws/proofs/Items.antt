-- The items of a well typed program have no fault.
use Rattle.std.proofs.Common.{◌≡◌, ℕ, zero, suc, ◌+◌, ◌<◌, ◌==◌, ◌&&◌, ◌||◌, not, nat_lt, nat_le, nat_eq, Bool, true, false, List, [], ◌∷◌, ◌++◌, length, map, drop, Option, Some, None, slice_get, if◌then◌else◌, refl, sym, ap, subst, ◌∙◌, arith}
use Rattle.std.specs.Prelude.{is_some, option_and_then, codes, flat_map}
use Rattle.std.specs.Cmp.Lexicographic.{pointwise}
use Rattle.std.specs.List.{list_any, list_all}
use Rattle.std.specs.Option.{option_map_or}
use Rattle.std.specs.Str.{bytes_eq}
use Rattle.std.proofs.lemmas.Bool.{eqb-true, lt-ltb}
use Rattle.std.proofs.lemmas.Bool.Decides.{Decides-eqb}
use Rattle.std.proofs.lemmas.List.Concat.{flat_map-cons}
use Rattle.std.proofs.lemmas.List.{append_assoc, append_cancel_left}
use Rattle.std.proofs.lemmas.Option.{none-some, same_Some, slice_get_within}
use Rattle.std.proofs.lemmas.Slice.Eq.{bytes_eq-Decides}
use Rattle.cfg_graph.specs.declared.graph.Body.{Body}
use Rattle.cfg_graph.specs.declared.graph.GraphFault.{GraphFault}
use Rattle.cfg_graph.specs.WellFormed.Faults.{of_each, at_line, nowhere, item_faults}
use Rattle.cfg_graph.specs.WellFormed.ItemFaults as faults
use Rattle.cfg_graph.specs.WellFormed.ItemFaults.{adt_faults, trait_faults, impl_faults, closure_faults}
use Rattle.cfg_graph.specs.WellFormed.NameFaults.{is_name, is_adt_name, is_repeated, is_repeated_impl, same_impl, same_name}
use Rattle.cfg_graph.specs.WellFormed.TypeFaults.{is_drop_body, adt_holds_itself, closure_holds_itself}
use Rattle.cfg_graph.proofs.InfiniteSize.{adt_holding-tested, closure_holding-tested}
use Rattle.mir_ty.specs.declared.adt.Adt.{Adt}
use Rattle.mir_ty.specs.declared.adt.Variant.{Variant}
use Rattle.mir_ty.specs.declared.def.ClosureDef.{ClosureDef}
use Rattle.mir_ty.specs.declared.def.ImplDef.{ImplDef}
use Rattle.mir_ty.specs.declared.def.Sig.{Sig}
use Rattle.mir_ty.specs.declared.def.TraitDef.{TraitDef}
use Rattle.mir_ty.specs.declared.ty.Ty.{Ty}
use Rattle.mir_ty.specs.declared.ty.TyId.{TyId}
use Rattle.mir_ty.specs.ItemTable.{ItemTable, type_at}
use Rattle.store_model.specs.Places.TypeForms as forms
use Rattle.typed_tree.specs.Tree.{BodyTree, ProgramTree}
use Rattle.well_typed.specs.Claim.{Claim, Holds, fact, ◌&◌, each, some, nothing}
use Rattle.well_typed.specs.Items as items_of
use Rattle.well_typed.specs.Names as words
use Rattle.well_typed.specs.Program.{WellTyped, are_bodies}
use Rattle.well_typed.specs.Types as types
use Rattle.well_typed.proofs.ItemLemmas.{are_finite}
use Rattle.lower_laws.specs.Lowerable.{IsLowerable, adt_is_named, trait_is_named}
use Rattle.lower_laws.proofs.Known.{untrue, and_first, and_second, both, not_true, found, passed, some_is, Each, Fine}
use Rattle.lower_laws.proofs.Types as of_types
use Rattle.lower_laws.proofs.Types.{all_each, each_all, each_mapped, each_at, each_by, none_broken}

-- ---- lists
pub no_line : (body block line : ℕ) (numbers : List ℕ) → numbers ≡ [] → at_line body block line numbers ≡ []
no_line body block line [] e = refl
no_line body block line (n ∷ ns) e = absurd (cc)

pub none_of : {X : Type 0} (f : ℕ → X → List GraphFault) (from : ℕ) (xs : List X) → ((i : ℕ) (x : X) → slice_get xs i ≡ Some x → f (from + i) x ≡ []) → of_each f from xs ≡ []
none_of f from [] h = refl
none_of f from (x ∷ xs) h =
    let here : from + 0 ≡ from = omega arith in
    ap (λ (l : List GraphFault). l ++ of_each f (suc from) xs) (subst (λ (k : ℕ). f k x ≡ []) here (h 0 x refl))
    ∙ none_of f (suc from) xs (λ i y e. let same : from + suc i ≡ suc from + i = omega arith in subst (λ (k : ℕ). f k y ≡ []) same (h (suc i) y e))

pub all_got : {A : Type 0} (test : A → Bool) (xs : List A) (i : ℕ) (x : A) → list_all test xs ≡ true → slice_get xs i ≡ Some x → test x ≡ true
all_got test xs i x h e = each_at (λ x. test x ≡ true) xs i x (all_each test xs h) e

claims_at : {A : Type 0} (f : A → Claim) (xs : List A) (i : ℕ) (x : A) → Holds (each f xs) → slice_get xs i ≡ Some x → Holds (f x)
claims_at f [] i x h e = absurd (none-some x e)
claims_at f (y ∷ ys) zero x h e = subst (λ z. Holds (f z)) (same_Some y x e) h.0
claims_at f (y ∷ ys) (suc i) x h e = claims_at f ys i x h.1 e

-- claims of the members of a table, each with its number
abbrev Numbered : {A : Type 0} → (ℕ → A → Claim) → ℕ → List A → Claim
Numbered f n [] = nothing
Numbered f n (x ∷ xs) = f n x & Numbered f (suc n) xs

numbered_at : {A : Type 0} (f : ℕ → A → Claim) (n : ℕ) (xs : List A) (i : ℕ) (x : A) → Holds (Numbered f n xs) → slice_get xs i ≡ Some x → Holds (f (n + i) x)
numbered_at f n [] i x h e = absurd (none-some x e)
numbered_at f n (y ∷ ys) zero x h e =
    let same : n ≡ n + 0 = omega arith in
    subst (λ (k : ℕ). Holds (f k x)) same (subst (λ z. Holds (f n z)) (same_Some y x e) h.0)
numbered_at f n (y ∷ ys) (suc i) x h e =
    let same : suc n + i ≡ n + suc i = omega arith in
    subst (λ (k : ℕ). Holds (f k x)) same (numbered_at f (suc n) ys i x h.1 e)

counted_at : {A : Type 0} (f : ℕ → A → Claim) (xs : List A) (i : ℕ) (x : A) → Holds (Numbered f 0 xs) → slice_get xs i ≡ Some x → Holds (f i x)
counted_at f xs i x h e = let same : 0 + i ≡ i = omega arith in subst (λ (k : ℕ). Holds (f k x)) same (numbered_at f 0 xs i x h e)

same_number : (n m : ℕ) → n ≡ m → (n == m) ≡ true
same_number n m e = (Decides-eqb n m).1 e

turned : (m n : ℕ) → (m == n) ≡ true → (n == m) ≡ true
turned m n h = same_number n m (sym (eqb-true m n h))

-- ---- names
word_is_name : (name : List ℕ) → words.is_word name ≡ true → is_name name ≡ true
word_is_name [] h = absurd (untrue h)
word_is_name (byte ∷ bytes) h = both (nat_lt 0 (length (byte ∷ bytes))) _ (lt-ltb 0 (length (byte ∷ bytes)) (omega arith)) h

abbrev is_item_name : List ℕ → Bool
is_item_name name = words.is_word name && not (words.is_among name words.built_in)

pub name_of_item : (name : List ℕ) → is_item_name name ≡ true → is_name name ≡ true
name_of_item name h = word_is_name name (and_first _ _ h)

distinct_first : (xs ys : List (List ℕ)) → words.are_distinct (xs ++ ys) ≡ true → words.are_distinct xs ≡ true
distinct_first [] ys h = refl
distinct_first (x ∷ xs) ys h =
    both (not (words.is_among x xs)) _ (among_fewer xs ys x (and_first _ _ h)) (distinct_first xs ys (and_second (not (words.is_among x (xs ++ ys))) _ h))
  where
    among_fewer : (xs ys : List (List ℕ)) (x : List ℕ) → not (words.is_among x (xs ++ ys)) ≡ true → not (words.is_among x xs) ≡ true
    among_fewer [] ys x h = refl
    among_fewer (z ∷ xs) ys x h = on (bytes_eq x z) h (among_fewer xs ys x)
      where
        on : (b : Bool) → not (b || words.is_among x (xs ++ ys)) ≡ true → (not (words.is_among x (xs ++ ys)) ≡ true → not (words.is_among x xs) ≡ true) → not (b || words.is_among x xs) ≡ true
        on true h more = h
        on false h more = more h

distinct_second : (xs ys : List (List ℕ)) → words.are_distinct (xs ++ ys) ≡ true → words.are_distinct ys ≡ true
distinct_second [] ys h = h
distinct_second (x ∷ xs) ys h = distinct_second xs ys (and_second (not (words.is_among x (xs ++ ys))) _ h)

equal_bytes : (a b : List ℕ) → bytes_eq a b ≡ true → a ≡ b
equal_bytes a b h = (bytes_eq-Decides a b).0 h

bytes_equal : (a b : List ℕ) → a ≡ b → bytes_eq a b ≡ true
bytes_equal a b e = (bytes_eq-Decides a b).1 e

-- what is in a list is among its names
among_at : (names : List (List ℕ)) (n : ℕ) (name : List ℕ) → slice_get names n ≡ Some name → words.is_among name names ≡ true
among_at [] n name e = absurd (none-some name e)
among_at (x ∷ names) zero name e = ap (λ (b : Bool). b || words.is_among name names) (bytes_equal name x (sym (same_Some x name e)))
among_at (x ∷ names) (suc n) name e = on (bytes_eq name x) (among_at names n name e)
  where
    on : (b : Bool) → words.is_among name names ≡ true → b || words.is_among name names ≡ true
    on true h = refl
    on false h = h

pub not_repeated : (names : List (List ℕ)) (n : ℕ) (name : List ℕ) → words.are_distinct names ≡ true → slice_get names n ≡ Some name → is_repeated names n name ≡ false
not_repeated [] n name h e = absurd (none-some name e)
not_repeated (x ∷ names) zero name h e = refl
not_repeated (x ∷ names) (suc n) name h e =
    ap (λ (b : Bool). b || is_repeated names n name) (apart (same_name name x) refl) ∙ not_repeated names n name (and_second (not (words.is_among x names)) _ h) e
  where
    apart : (b : Bool) → same_name name x ≡ b → same_name name x ≡ false
    apart false q = q
    apart true q =
        let same : name ≡ x = equal_bytes name x q in
        absurd (untrue (sym (not_true (words.is_among x names) (and_first _ _ h)) ∙ subst (λ (z : List ℕ). words.is_among z names ≡ true) same (among_at names n name e)))

pub name_at : {A : Type 0} (f : A → List ℕ) (xs : List A) (i : ℕ) (x : A) → slice_get xs i ≡ Some x → slice_get (map f xs) i ≡ Some (f x)
name_at f [] i x e = absurd (none-some x e)
name_at f (y ∷ ys) zero x e = ap (λ z. Some (f z)) (same_Some y x e)
name_at f (y ∷ ys) (suc i) x e = name_at f ys i x e

pub any_got : {A : Type 0} (test : A → Bool) (xs : List A) → list_any test xs ≡ true → (i : ℕ) × (x : A) × (slice_get xs i ≡ Some x) × (test x ≡ true)
any_got test [] h = absurd (untrue h)
any_got test (y ∷ ys) h = on (test y) refl h (any_got test ys)
  where
    on : (b : Bool) → test y ≡ b → b || list_any test ys ≡ true → (list_any test ys ≡ true → (i : ℕ) × (x : _) × (slice_get ys i ≡ Some x) × (test x ≡ true)) → (i : ℕ) × (x : _) × (slice_get (y ∷ ys) i ≡ Some x) × (test x ≡ true)
    on true e h more = (0, y, refl, e)
    on false e h more = let it = more h in (suc it.0, it.1, it.2, it.3)

-- ---- the items
module _ (p : ProgramTree) (w : WellTyped p) where
  made : (id : TyId) (ty : Ty) → type_at p.items id ≡ Some ty → items_of.is_well_made p.items ty ≡ true
  made id ty e = and_first (items_of.is_well_made p.items ty) _ (all_got (items_of.is_good_type p.items) p.items.types id.0 ty w.0.0.1.0 e)

  as_many : (m : ℕ) (sigs : List Sig) (bodies : List BodyTree) → Holds (are_bodies p.items m sigs bodies) → length sigs ≡ length bodies
  as_many m [] [] h = refl
  as_many m [] (body ∷ bodies) h = absurd (untrue h)
  as_many m (sig ∷ sigs) [] h = absurd (untrue h)
  as_many m (sig ∷ sigs) (body ∷ bodies) h = ap suc (as_many (suc m) sigs bodies h.1)

  abbrev bodies : ℕ
  bodies = length p.bodies

  callable : (n : ℕ) (sig : Sig) → slice_get p.items.bodies n ≡ Some sig → nat_lt n bodies ≡ true
  callable n sig e = lt-ltb n bodies (subst (λ (k : ℕ). n < k) (as_many 0 p.items.bodies p.bodies w.1) (slice_get_within p.items.bodies n sig e))

  exists : (low : IsLowerable p) (ids : List TyId) → Each (Fine p.items) ids → faults.exist p.items bodies ids ≡ true
  exists low ids h = of_types.exists p.items made low.0 bodies ids h

  places : (ids : List TyId) → Each (Fine p.items) ids → faults.place_dyn p.items bodies ids ≡ true
  places ids h = of_types.places p.items made bodies ids h

  alone : (ids : List TyId) → list_all (items_of.stands_alone p.items) ids ≡ true → Each (Fine p.items) ids
  alone ids h = of_types.all_alone p.items made ids h

  -- ---- references, as both say it
  abbrev NamedBy : (TyId → Option ℕ) → ℕ → Bool × TyId → Bool
  NamedBy number n r = option_map_or (λ m. m == n) (number r.1) false

  abbrev IsUnique : TyId → Bool
  IsUnique ty = option_map_or (λ (r : Bool × TyId). r.0) (types.reference_of p.items ty) false

  -- a reference: whether it is unique, and what it names
  abbrev Reference : Bool → TyId → Ty
  Reference true to = Ty.Unique to
  Reference false to = Ty.Shared to

  reference_known : (ty : TyId) (r : Bool × TyId) → types.reference_of p.items ty ≡ Some r → type_at p.items ty ≡ Some (Reference r.0 r.1)
  reference_known ty r h = of (type_at p.items ty) refl h
    where
      form : (t : Ty) → types.reference_in t ≡ Some r → t ≡ Reference r.0 r.1
      form (Ty.Shared to) e = ap (λ (x : Bool × TyId). Reference x.0 x.1) (same_Some (false, to) r e)
      form (Ty.Unique to) e = ap (λ (x : Bool × TyId). Reference x.0 x.1) (same_Some (true, to) r e)
      form _ e = absurd (none-some r e)

      of : (o : Option Ty) → type_at p.items ty ≡ o → option_and_then types.reference_in o ≡ Some r → type_at p.items ty ≡ Some (Reference r.0 r.1)
      of None e h = absurd (none-some r h)
      of (Some t) e h = e ∙ ap (λ (z : Ty). Some z) (form t h)

  adt_named : (to : TyId) (n : ℕ) → option_map_or (λ m. m == n) (types.adt_of p.items to) false ≡ true → forms.is_adt n (type_at p.items to) ≡ true
  adt_named to n h = of (type_at p.items to) h
    where
      form : (t : Ty) → option_map_or (λ m. m == n) (types.adt_in t) false ≡ true → forms.is_adt n (Some t) ≡ true
      form (Ty.Adt m) h = turned m n h
      form _ h = absurd (untrue h)

      of : (o : Option Ty) → option_map_or (λ m. m == n) (option_and_then types.adt_in o) false ≡ true → forms.is_adt n o ≡ true
      of None h = absurd (untrue h)
      of (Some t) h = form t h

  closure_named : (to : TyId) (n : ℕ) → option_map_or (λ m. m == n) (types.closure_of p.items to) false ≡ true → forms.is_closure n (type_at p.items to) ≡ true
  closure_named to n h = of (type_at p.items to) h
    where
      form : (t : Ty) → option_map_or (λ m. m == n) (types.closure_in t) false ≡ true → forms.is_closure n (Some t) ≡ true
      form (Ty.Closure m) h = turned m n h
      form _ h = absurd (untrue h)

      of : (o : Option Ty) → option_map_or (λ m. m == n) (option_and_then types.closure_in o) false ≡ true → forms.is_closure n o ≡ true
      of None h = absurd (untrue h)
      of (Some t) h = form t h

  unit_named : (ty : TyId) → types.is_unit p.items ty ≡ true → forms.is_unit (type_at p.items ty) ≡ true
  unit_named ty h = of (type_at p.items ty) h
    where
      form : (t : Ty) → types.is_unit_ty t ≡ true → forms.is_unit (Some t) ≡ true
      form Ty.Unit h = refl
      form _ h = absurd (untrue h)

      of : (o : Option Ty) → option_map_or types.is_unit_ty o false ≡ true → forms.is_unit o ≡ true
      of None h = absurd (untrue h)
      of (Some t) h = form t h

  -- ---- structs and enums
  abbrev OneSelf : ℕ → List TyId → Bool
  OneSelf n (ty ∷ []) = IsUnique ty && option_map_or (NamedBy (types.adt_of p.items) n) (types.reference_of p.items ty) false
  OneSelf n _ = false

  abbrev DropHead : List ℕ → ℕ → Option ℕ → Claim
  DropHead name n None = nothing
  DropHead name n (Some body) = some (slice_get p.items.bodies body) (λ sig. fact (bytes_eq sig.name (name ++ codes "::drop")) & fact (OneSelf n sig.params && types.is_unit p.items sig.result))

  one_dropped : (n : ℕ) (params : List TyId) → OneSelf n params ≡ true → faults.are_dropped p.items bodies n params ≡ true
  one_dropped n [] h = absurd (untrue h)
  one_dropped n (ty ∷ []) h =
      let r = passed (NamedBy (types.adt_of p.items) n) (types.reference_of p.items ty) (and_second (IsUnique ty) _ h) in
      unique r.0 r.1 (sym (ap (λ (o : Option (Bool × TyId)). option_map_or (λ (r : Bool × TyId). r.0) o false) r.1) ∙ and_first (IsUnique ty) _ h) r.2
    where
      unique : (r : Bool × TyId) → types.reference_of p.items ty ≡ Some r → r.0 ≡ true → NamedBy (types.adt_of p.items) n r ≡ true → faults.is_unique_adt p.items bodies n (type_at p.items ty) ≡ true
      unique (true, to) e u h = ap (faults.is_unique_adt p.items bodies n) (reference_known ty (true, to) e) ∙ adt_named to n h
      unique (false, to) e u h = absurd (untrue u)
  one_dropped n (ty ∷ other ∷ tys) h = absurd (untrue h)

  drop_known : (name : List ℕ) (n : ℕ) (o : Option ℕ) → Holds (DropHead name n o) → (option_map_or (λ body. nat_lt body bodies) o true ≡ true) × (option_map_or (faults.has_drop_sig p.items bodies n) o true ≡ true)
  drop_known name n None h = (refl, refl)
  drop_known name n (Some body) h =
      let sig = found (slice_get p.items.bodies body) _ h in (
        callable body sig.0 sig.1,
        ap (λ (o : Option Sig). option_map_or (faults.is_drop_sig p.items bodies n) o false) sig.1 ∙ both _ _ (one_dropped n sig.0.params (and_first _ _ sig.2.1)) (unit_named sig.0.result (and_second (OneSelf n sig.0.params) _ sig.2.1)),
      )

  abbrev IsVariant : Variant → Claim
  IsVariant v =
      fact (list_all (items_of.stands_alone p.items) v.fields) & fact (words.are_distinct v.field_names) &
      fact (length v.field_names == length v.fields && nat_le (length v.fields) 32)

  fields_fine : (vs : List Variant) → Holds (each IsVariant vs) → Each (Fine p.items) (flat_map (λ (v : Variant). v.fields) vs)
  fields_fine [] h = tt
  fields_fine (v ∷ vs) h = subst (Each (Fine p.items)) (sym (flat_map-cons (λ (v : Variant). v.fields) v vs)) (append v.fields _ (alone v.fields h.0.0) (fields_fine vs h.1))
    where
      append : (xs ys : List TyId) → Each (Fine p.items) xs → Each (Fine p.items) ys → Each (Fine p.items) (xs ++ ys)
      append [] ys h k = k
      append (x ∷ xs) ys h k = (h.0, append xs ys h.1 k)

  no_adt_holds : (n : ℕ) → not (adt_holds_itself p.items n) ≡ true
  no_adt_holds n = of (adt_holds_itself p.items n) refl
    where
      of : (b : Bool) → adt_holds_itself p.items n ≡ b → not b ≡ true
      of false e = refl
      of true e = let h = (adt_holding-tested p.items n).0 e in absurd (are_finite p w h.0 h.2)

  no_closure_holds : (n : ℕ) → not (closure_holds_itself p.items n) ≡ true
  no_closure_holds n = of (closure_holds_itself p.items n) refl
    where
      of : (b : Bool) → closure_holds_itself p.items n ≡ b → not b ≡ true
      of false e = refl
      of true e = let h = (closure_holding-tested p.items n).0 e in absurd (are_finite p w h.0 h.2)

  -- ---- names of items
  abbrev adt_names : List (List ℕ)
  adt_names = map (λ (adt : Adt). adt.name) p.items.adts

  abbrev trait_names : List (List ℕ)
  trait_names = map (λ (def : TraitDef). def.name) p.items.traits

  abbrev pub body_names : List (List ℕ)
  body_names = map (λ (sig : Sig). sig.name) p.items.bodies

  distinct : words.are_distinct ((adt_names ++ trait_names) ++ body_names) ≡ true
  distinct = w.0.1.1.1.1.1.1.1.0

  named : list_all is_item_name ((adt_names ++ trait_names) ++ body_names) ≡ true
  named = w.0.1.1.1.1.1.1.1.1.0

  all_first : (test : List ℕ → Bool) (xs ys : List (List ℕ)) → list_all test (xs ++ ys) ≡ true → list_all test xs ≡ true
  all_first test [] ys h = refl
  all_first test (x ∷ xs) ys h = both (test x) _ (and_first _ _ h) (all_first test xs ys (and_second (test x) _ h))

  all_second : (test : List ℕ → Bool) (xs ys : List (List ℕ)) → list_all test (xs ++ ys) ≡ true → list_all test ys ≡ true
  all_second test [] ys h = h
  all_second test (x ∷ xs) ys h = all_second test xs ys (and_second (test x) _ h)

  trait_distinct : words.are_distinct trait_names ≡ true
  trait_distinct = distinct_second adt_names trait_names (distinct_first (adt_names ++ trait_names) body_names distinct)

  adt_distinct : words.are_distinct adt_names ≡ true
  adt_distinct = distinct_first adt_names trait_names (distinct_first (adt_names ++ trait_names) body_names distinct)

  pub body_distinct : words.are_distinct body_names ≡ true
  body_distinct = distinct_second (adt_names ++ trait_names) body_names distinct

  trait_named : list_all is_item_name trait_names ≡ true
  trait_named = all_second is_item_name adt_names trait_names (all_first is_item_name (adt_names ++ trait_names) body_names named)

  pub body_named : list_all is_item_name body_names ≡ true
  body_named = all_second is_item_name (adt_names ++ trait_names) body_names named

  pub adt_clean : IsLowerable p → (n : ℕ) (adt : Adt) → slice_get p.items.adts n ≡ Some adt → adt_faults p.items bodies n adt ≡ []
  adt_clean low n adt e =
      let c = counted_at _ p.items.adts n adt w.0.1.0 e in
      let fields = fields_fine adt.variants c.1.0 in
      let d = drop_known adt.name n adt.drop_body c.1.1.1 in
      let names = all_got adt_is_named p.items.adts n adt low.1.0 e in
      none_broken (faults.adt_tests p.items bodies n adt) (
        both _ _ (exists low (faults.field_types adt) fields) d.0,
        (
          both _ _ (both _ _ (places (faults.field_types adt) fields) d.1) (no_adt_holds n),
          (both _ _ (both _ _ (and_first _ _ names) (and_second (is_adt_name adt.name) _ names)) (ap not (not_repeated adt_names n adt.name adt_distinct (name_at (λ (adt : Adt). adt.name) p.items.adts n adt e))), tt),
        ),
      )

  -- ---- heads
  abbrev IsHead : Sig → Bool
  IsHead sig = list_all (items_of.is_param p.items) sig.params && items_of.stands_alone p.items sig.result

  param_fine : (id : TyId) → items_of.is_param p.items id ≡ true → Fine p.items id
  param_fine id h = (some_is (type_at p.items id) (and_first _ _ h), not_true (types.is_dyn p.items id) (and_second (is_some (type_at p.items id)) _ h))

  pub params_fine : (ids : List TyId) → list_all (items_of.is_param p.items) ids ≡ true → Each (Fine p.items) ids
  params_fine ids h = each_mapped (λ id. items_of.is_param p.items id ≡ true) (Fine p.items) ids param_fine (all_each (items_of.is_param p.items) ids h)

  head_fine : (sig : Sig) → IsHead sig ≡ true → Each (Fine p.items) (faults.types_of_sig sig)
  head_fine sig h = ((alone (sig.result ∷ []) (both _ true (and_second (list_all (items_of.is_param p.items) sig.params) _ h) refl)).0, params_fine sig.params (and_first _ _ h))

  pub head_at : (n : ℕ) (sig : Sig) → slice_get p.items.bodies n ≡ Some sig → Each (Fine p.items) (sig.result ∷ sig.params)
  head_at n sig e = head_fine sig (all_got IsHead p.items.bodies n sig w.0.1.1.1.1.1.1.0 e)

  -- ---- traits
  abbrev BeginsWithSelf : ℕ → List TyId → Bool
  BeginsWithSelf n [] = false
  BeginsWithSelf n (ty ∷ tys) = option_map_or (NamedBy (types.trait_of p.items) n) (types.reference_of p.items ty) false

  abbrev IsMethod : ℕ → Sig → Claim
  IsMethod n sig = fact (IsHead sig) & fact (BeginsWithSelf n sig.params) & fact (not (bytes_eq sig.name (codes "drop")))

  methods_at : (n : ℕ) (def : TraitDef) → slice_get p.items.traits n ≡ Some def → Holds (each (IsMethod n) def.methods)
  methods_at n def e = (counted_at _ p.items.traits n def w.0.1.1.0 e).0

  pub answer_at : (n m : ℕ) (def : TraitDef) (sig : Sig) → slice_get p.items.traits n ≡ Some def → slice_get def.methods m ≡ Some sig → Fine p.items sig.result
  answer_at n m def sig e d = (head_fine sig (claims_at (IsMethod n) def.methods m sig (methods_at n def e) d).0).0

  appended : (xs ys : List TyId) → Each (Fine p.items) xs → Each (Fine p.items) ys → Each (Fine p.items) (xs ++ ys)
  appended [] ys h k = k
  appended (x ∷ xs) ys h k = (h.0, appended xs ys h.1 k)

  heads_fine : (n : ℕ) (sigs : List Sig) → Holds (each (IsMethod n) sigs) → Each (Fine p.items) (flat_map faults.types_of_sig sigs)
  heads_fine n [] h = tt
  heads_fine n (sig ∷ sigs) h = subst (Each (Fine p.items)) (sym (flat_map-cons faults.types_of_sig sig sigs)) (appended (faults.types_of_sig sig) _ (head_fine sig h.0.0) (heads_fine n sigs h.1))

  pub trait_clean : IsLowerable p → (n : ℕ) (def : TraitDef) → slice_get p.items.traits n ≡ Some def → trait_faults p.items bodies n def ≡ []
  trait_clean low n def e =
      let fine = heads_fine n def.methods (methods_at n def e) in
      let own = name_at (λ (def : TraitDef). def.name) p.items.traits n def e in
      none_broken (faults.trait_tests p.items bodies n def) (
        exists low (faults.types_of_trait def) fine,
        (
          places (faults.types_of_trait def) fine,
          (
            both _ _ (both _ _ (name_of_item def.name (all_got is_item_name trait_names n def.name trait_named own)) (all_got trait_is_named p.items.traits n def low.1.1 e))
                (ap not (not_repeated trait_names n def.name trait_distinct own)),
            tt,
          ),
        ),
      )

  -- ---- impls
  abbrev IsSameTruth : Bool → Bool → Bool
  IsSameTruth a b = if a then b else not b

  abbrev SameParams : ℕ → List TyId → List TyId → Bool
  SameParams adt (self ∷ tys) (own ∷ others) =
      option_map_or (NamedBy (types.adt_of p.items) adt) (types.reference_of p.items own) false && (IsSameTruth (IsUnique self) (IsUnique own) && types.are_same tys others)
  SameParams adt _ _ = false

  abbrev ImplementsHead : ℕ → List ℕ → Sig → Sig → Claim
  ImplementsHead adt name method sig =
      fact (bytes_eq sig.name (name ++ codes "::" ++ method.name)) & fact (SameParams adt method.params sig.params && types.is_same method.result sig.result)

  abbrev ImplementsAll : ℕ → List ℕ → List Sig → List ℕ → Claim
  ImplementsAll adt name [] [] = nothing
  ImplementsAll adt name (method ∷ methods) (body ∷ rest) = some (slice_get p.items.bodies body) (ImplementsHead adt name method) & ImplementsAll adt name methods rest
  ImplementsAll adt name _ _ = fact false

  same_types : (xs ys : List TyId) → types.are_same xs ys ≡ true → forms.same_ids xs ys ≡ true
  same_types [] [] h = refl
  same_types [] (y ∷ ys) h = absurd (untrue h)
  same_types (x ∷ xs) [] h = absurd (untrue h)
  same_types (x ∷ xs) (y ∷ ys) h = both (types.is_same x y) _ (and_first _ _ h) (same_types xs ys (and_second (types.is_same x y) _ h))

  selves : (adt : ℕ) (r s : Bool × TyId) → IsSameTruth r.0 s.0 ≡ true → NamedBy (types.adt_of p.items) adt s ≡ true → faults.are_selves p.items bodies adt (Some (Reference r.0 r.1)) (Some (Reference s.0 s.1)) ≡ true
  selves adt (true, from) (true, to) h k = adt_named to adt k
  selves adt (false, from) (false, to) h k = adt_named to adt k
  selves adt (true, from) (false, to) h k = absurd (untrue h)
  selves adt (false, from) (true, to) h k = absurd (untrue h)

  unique_by : (ty : TyId) (r : Bool × TyId) → types.reference_of p.items ty ≡ Some r → IsUnique ty ≡ r.0
  unique_by ty r e = ap (λ (o : Option (Bool × TyId)). option_map_or (λ (r : Bool × TyId). r.0) o false) e

  params_implement : (n adt : ℕ) (params own : List TyId) → BeginsWithSelf n params ≡ true → SameParams adt params own ≡ true → faults.params_implement p.items bodies adt params own ≡ true
  params_implement n adt [] own b h = absurd (untrue b)
  params_implement n adt (self ∷ tys) [] b h = absurd (untrue h)
  params_implement n adt (self ∷ tys) (own ∷ others) b h =
      let r = passed (NamedBy (types.trait_of p.items) n) (types.reference_of p.items self) b in
      let s = passed (NamedBy (types.adt_of p.items) adt) (types.reference_of p.items own) (and_first _ _ h) in
      let rest = and_second (option_map_or (NamedBy (types.adt_of p.items) adt) (types.reference_of p.items own) false) _ h in
      let truth : IsSameTruth r.0.0 s.0.0 ≡ true = subst (λ (x : Bool). IsSameTruth x s.0.0 ≡ true) (unique_by self r.0 r.1) (subst (λ (x : Bool). IsSameTruth (IsUnique self) x ≡ true) (unique_by own s.0 s.1) (and_first _ _ rest)) in
      both _ _
      (subst (λ (o : Option Ty). faults.are_selves p.items bodies adt o (type_at p.items own) ≡ true) (sym (reference_known self r.0 r.1))
      (subst (λ (o : Option Ty). faults.are_selves p.items bodies adt (Some (Reference r.0.0 r.0.1)) o ≡ true) (sym (reference_known own s.0 s.1)) (selves adt r.0 s.0 truth s.2)))
      (same_types tys others (and_second (IsSameTruth (IsUnique self) (IsUnique own)) _ rest))

  -- the body of a method is that of no `Drop` impl, since no method of a trait is called `drop`
  one_reference : (n : ℕ) (params : List TyId) → OneSelf n params ≡ true → (ty : TyId) × (r : Bool × TyId) × (slice_get params 0 ≡ Some ty) × (types.reference_of p.items ty ≡ Some r) × (NamedBy (types.adt_of p.items) n r ≡ true)
  one_reference n [] h = absurd (untrue h)
  one_reference n (ty ∷ []) h = let r = passed (NamedBy (types.adt_of p.items) n) (types.reference_of p.items ty) (and_second (IsUnique ty) _ h) in (ty, r.0, refl, r.1, r.2)
  one_reference n (ty ∷ other ∷ tys) h = absurd (untrue h)

  own_reference : (adt : ℕ) (params own : List TyId) → SameParams adt params own ≡ true → (ty : TyId) × (r : Bool × TyId) × (slice_get own 0 ≡ Some ty) × (types.reference_of p.items ty ≡ Some r) × (NamedBy (types.adt_of p.items) adt r ≡ true)
  own_reference adt [] own h = absurd (untrue h)
  own_reference adt (self ∷ tys) [] h = absurd (untrue h)
  own_reference adt (self ∷ tys) (ty ∷ others) h = let s = passed (NamedBy (types.adt_of p.items) adt) (types.reference_of p.items ty) (and_first _ _ h) in (ty, s.0, refl, s.1, s.2)

  one_number : (n m : ℕ) (r : Bool × TyId) → NamedBy (types.adt_of p.items) n r ≡ true → NamedBy (types.adt_of p.items) m r ≡ true → n ≡ m
  one_number n m r h k = of (types.adt_of p.items r.1) h k
    where
      of : (o : Option ℕ) → option_map_or (λ x. x == n) o false ≡ true → option_map_or (λ x. x == m) o false ≡ true → n ≡ m
      of None h k = absurd (untrue h)
      of (Some x) h k = sym (eqb-true x n h) ∙ eqb-true x m k

  called_drop : (name method : List ℕ) → name ++ codes "::drop" ≡ name ++ codes "::" ++ method → method ≡ codes "drop"
  called_drop name method e =
      let behind : codes "::drop" ≡ codes "::" ++ method = append_cancel_left name (codes "::drop") (codes "::" ++ method) (e ∙ append_assoc name (codes "::") method) in
      sym (ap (drop 2) behind)

  no_drop : (adt_no : ℕ) (adt : Adt) (method sig : Sig) (body : ℕ) → slice_get p.items.adts adt_no ≡ Some adt → slice_get p.items.bodies body ≡ Some sig → Holds (ImplementsHead adt_no adt.name method sig) → not (bytes_eq method.name (codes "drop")) ≡ true → not (is_drop_body p.items body) ≡ true
  no_drop adt_no adt method sig body at e h named_so = of (is_drop_body p.items body) refl
    where
      of_body : (o : Option ℕ) → option_map_or (nat_eq body) o false ≡ true → o ≡ Some body
      of_body None k = absurd (untrue k)
      of_body (Some b) k = ap (λ (z : ℕ). Some z) (sym (eqb-true body b k))

      of : (b : Bool) → is_drop_body p.items body ≡ b → not b ≡ true
      of false q = refl
      of true q =
          let a = any_got _ p.items.adts q in
          let claim = counted_at _ p.items.adts a.0 a.1 w.0.1.0 a.2 in
          let dropped : Holds (DropHead a.1.name a.0 (Some body)) = subst (λ (o : Option ℕ). Holds (DropHead a.1.name a.0 o)) (of_body a.1.drop_body a.3) claim.1.1.1 in
          let d = found (slice_get p.items.bodies body) _ dropped in
          let same : d.0 ≡ sig = same_Some d.0 sig (sym d.1 ∙ e) in
          let one = one_reference a.0 d.0.params (and_first _ _ d.2.1) in
          let own = own_reference adt_no method.params sig.params (and_first _ _ h.1) in
          let ty : one.0 ≡ own.0 = same_Some one.0 own.0 (sym one.2 ∙ ap (λ (s : Sig). slice_get s.params 0) same ∙ own.2) in
          let r : one.1 ≡ own.1 = same_Some one.1 own.1 (sym one.3 ∙ ap (types.reference_of p.items) ty ∙ own.3) in
          let number : a.0 ≡ adt_no = one_number a.0 adt_no own.1 (subst (λ (x : Bool × TyId). NamedBy (types.adt_of p.items) a.0 x ≡ true) r one.4) own.4 in
          let adts : a.1 ≡ adt = same_Some a.1 adt (sym a.2 ∙ ap (slice_get p.items.adts) number ∙ at) in
          let drop_name : sig.name ≡ adt.name ++ codes "::drop" = sym (ap (λ (s : Sig). s.name) same) ∙ equal_bytes d.0.name (a.1.name ++ codes "::drop") d.2.0 ∙ ap (λ (x : Adt). x.name ++ codes "::drop") adts in
          let own_name : sig.name ≡ adt.name ++ codes "::" ++ method.name = equal_bytes sig.name (adt.name ++ codes "::" ++ method.name) h.0 in
          absurd (untrue (sym (not_true _ named_so) ∙ bytes_equal method.name (codes "drop") (called_drop adt.name method.name (sym drop_name ∙ own_name))))

  all_implement : (n adt_no : ℕ) (adt : Adt) (methods : List Sig) (rest : List ℕ) → slice_get p.items.adts adt_no ≡ Some adt → Holds (each (IsMethod n) methods) → Holds (ImplementsAll adt_no adt.name methods rest) →
      (list_all (λ (body : ℕ). nat_lt body bodies) rest ≡ true) × (pointwise (faults.body_implements p.items bodies adt_no) methods rest ≡ true)
  all_implement n adt_no adt [] [] at m h = (refl, refl)
  all_implement n adt_no adt [] (body ∷ rest) at m h = absurd (untrue h)
  all_implement n adt_no adt (method ∷ methods) [] at m h = absurd (untrue h)
  all_implement n adt_no adt (method ∷ methods) (body ∷ rest) at m h =
      let sig = found (slice_get p.items.bodies body) _ h.0 in
      let more = all_implement n adt_no adt methods rest at m.1 h.1 in
      let implements : faults.sig_implements p.items bodies adt_no method sig.0 ≡ true = both _ _ (params_implement n adt_no method.params sig.0.params m.0.1.0 (and_first _ _ sig.2.1)) (and_second (SameParams adt_no method.params sig.0.params) _ sig.2.1) in
      let own : faults.body_implements p.items bodies adt_no method body ≡ true = both _ _ (ap (λ (o : Option Sig). option_map_or (faults.sig_implements p.items bodies adt_no method) o false) sig.1 ∙ implements) (no_drop adt_no adt method sig.0 body at sig.1 sig.2 m.0.1.1) in
      (both _ _ (callable body sig.0 sig.1) more.0, both _ _ own more.1)

  abbrev IsImplOf : ImplDef → ImplDef → Bool
  IsImplOf a b = a.trait_no == b.trait_no && a.adt == b.adt

  abbrev DistinctImpls : List ImplDef → Bool
  DistinctImpls [] = true
  DistinctImpls (def ∷ defs) = not (list_any (IsImplOf def) defs) && DistinctImpls defs

  any_at : {A : Type 0} (test : A → Bool) (xs : List A) (i : ℕ) (x : A) → slice_get xs i ≡ Some x → test x ≡ true → list_any test xs ≡ true
  any_at test [] i x e h = absurd (none-some x e)
  any_at test (y ∷ ys) zero x e h = ap (λ (b : Bool). b || list_any test ys) (ap test (same_Some y x e) ∙ h)
  any_at test (y ∷ ys) (suc i) x e h = on (test y) (any_at test ys i x e h)
    where
      on : (b : Bool) → list_any test ys ≡ true → b || list_any test ys ≡ true
      on true k = refl
      on false k = k

  not_again : (impls : List ImplDef) (n : ℕ) (def : ImplDef) → DistinctImpls impls ≡ true → slice_get impls n ≡ Some def → is_repeated_impl impls n def ≡ false
  not_again [] n def h e = absurd (none-some def e)
  not_again (x ∷ impls) zero def h e = refl
  not_again (x ∷ impls) (suc n) def h e =
      ap (λ (b : Bool). b || is_repeated_impl impls n def) (apart (same_impl def x) refl) ∙ not_again impls n def (and_second (not (list_any (IsImplOf x) impls)) _ h) e
    where
      apart : (b : Bool) → same_impl def x ≡ b → same_impl def x ≡ false
      apart false q = q
      apart true q =
          let back : IsImplOf x def ≡ true = both _ _ (turned def.trait_no x.trait_no (and_first _ _ q)) (turned def.adt x.adt (and_second (def.trait_no == x.trait_no) _ q)) in
          absurd (untrue (sym (not_true (list_any (IsImplOf x) impls) (and_first _ _ h)) ∙ any_at (IsImplOf x) impls n def e back))

  pub impl_clean : (n : ℕ) (def : ImplDef) → slice_get p.items.impls n ≡ Some def → impl_faults p.items bodies n def ≡ []
  impl_clean n def e =
      let tr = found (slice_get p.items.traits def.trait_no) _ (claims_at _ p.items.impls n def w.0.1.1.1.0 e) in
      let adt = found (slice_get p.items.adts def.adt) _ tr.2 in
      let k = all_implement def.trait_no def.adt adt.0 tr.0.methods def.bodies adt.1 (methods_at def.trait_no tr.0 tr.1) adt.2 in
      let within_traits = lt-ltb def.trait_no (length p.items.traits) (slice_get_within p.items.traits def.trait_no tr.0 tr.1) in
      let within_adts = lt-ltb def.adt (length p.items.adts) (slice_get_within p.items.adts def.adt adt.0 adt.1) in
      none_broken (faults.impl_tests p.items bodies n def) (
        both _ _ (both _ _ within_traits within_adts) k.0,
        (
          ap (λ (o : Option TraitDef). pointwise (faults.body_implements p.items bodies def.adt) (option_map_or (λ (t : TraitDef). t.methods) o []) def.bodies) tr.1 ∙ k.1,
          (ap not (not_again p.items.impls n def w.0.1.1.1.1.0 e), tt),
        ),
      )

  -- ---- closures
  abbrev BeginsWithClosure : ℕ → List TyId → Bool
  BeginsWithClosure n [] = false
  BeginsWithClosure n (ty ∷ tys) = option_map_or (λ m. m == n) (types.closure_of p.items ty) false && list_all (items_of.stands_alone p.items) tys

  closure_first : (n : ℕ) (params : List TyId) → BeginsWithClosure n params ≡ true → faults.begins_with_closure p.items bodies n params ≡ true
  closure_first n [] h = absurd (untrue h)
  closure_first n (ty ∷ tys) h = closure_named ty n (and_first _ _ h)

  pub closure_clean : IsLowerable p → (n : ℕ) (def : ClosureDef) → slice_get p.items.closures n ≡ Some def → closure_faults p.items bodies n def ≡ []
  closure_clean low n def e =
      let c = counted_at _ p.items.closures n def w.0.1.1.1.1.1.0 e in
      let fine = alone def.captures c.0 in
      let sig = found (slice_get p.items.bodies def.body) _ c.1 in
      none_broken (faults.closure_tests p.items bodies n def) (
        both _ _ (exists low def.captures fine) (callable def.body sig.0 sig.1),
        (
          both _ _ (both _ _ (places def.captures fine) (ap (λ (o : Option Sig). option_map_or (λ (s : Sig). faults.begins_with_closure p.items bodies n s.params) o false) sig.1 ∙ closure_first n sig.0.params sig.2)) (no_closure_holds n),
          tt,
        ),
      )

  -- ---- all items
  pub items_clean : IsLowerable p → (bodies_of : List Body) → length bodies_of ≡ bodies → item_faults (record { items = p.items; bodies = bodies_of }) ≡ []
  items_clean low bodies_of same =
      nothing_of _ _ (of_items 0 adt_faults p.items.adts (adt_clean low))
      (nothing_of _ _ (of_items (length p.items.adts) trait_faults p.items.traits (trait_clean low))
      (nothing_of _ _ (of_items (length p.items.adts + length p.items.traits) impl_faults p.items.impls impl_clean)
      (of_items (length p.items.adts + length p.items.traits + length p.items.impls) closure_faults p.items.closures (closure_clean low))))
    where
      nothing_of : (xs ys : List GraphFault) → xs ≡ [] → ys ≡ [] → xs ++ ys ≡ []
      nothing_of [] ys e d = d
      nothing_of (x ∷ xs) ys e d = absurd (cc)

      of_items : {X : Type 0} (before : ℕ) (numbers : ItemTable → ℕ → ℕ → X → List ℕ) (xs : List X) → ((n : ℕ) (x : X) → slice_get xs n ≡ Some x → numbers p.items bodies n x ≡ []) →
          of_each (λ n item. at_line nowhere nowhere (before + n) (numbers p.items (length bodies_of) n item)) 0 xs ≡ []
      of_items before numbers xs clean =
          none_of (λ n item. at_line nowhere nowhere (before + n) (numbers p.items (length bodies_of) n item)) 0 xs
          (λ i x e. no_line nowhere nowhere (before + (0 + i)) (numbers p.items (length bodies_of) (0 + i) x) (let here : 0 + i ≡ i = omega arith in subst (λ (k : ℕ). numbers p.items (length bodies_of) k x ≡ []) (sym here) (subst (λ (k : ℕ). numbers p.items k i x ≡ []) (sym same) (clean i x e))))
