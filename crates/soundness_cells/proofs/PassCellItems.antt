-- What the items of a well typed program tell of types: results, parameters, fields, parts and captures.
use Rattle.std.proofs.Common.{◌≡◌, ◌⊎◌, inl, inr, ℕ, zero, suc, ◌+◌, ◌==◌, ◌&&◌, ◌||◌, not, is_some, Bool, true, false, List, [], ◌∷◌, length, Option, Some, None, slice_get, if◌then◌else◌, refl, ap, sym, ◌∙◌, subst, arith, nat_lt}
use Rattle.std.specs.Prelude.{option_and_then, position, replicate}
use Rattle.std.specs.List.{list_any, list_all}
use Rattle.std.specs.Option.{option_map_or}
use Rattle.std.specs.Str.{bytes_eq}
use Rattle.std.specs.Cmp.Derive.{both_true}
use Rattle.soundness_values.specs.Typed.{has_variant}
use Rattle.std.proofs.lemmas.Bool.{false≢true, lt-ltb}
use Rattle.std.proofs.lemmas.List.Quantifiers.{position-Some}
use Rattle.std.proofs.lemmas.Bool.Decides.{Decides-eqb}
use Rattle.std.proofs.lemmas.Option.{none-some, same_Some, slice_get-get_or, slice_get_within}
use Rattle.mir_ty.specs.declared.adt.Adt.{Adt}
use Rattle.mir_ty.specs.declared.adt.Variant.{Variant}
use Rattle.mir_ty.specs.declared.def.ClosureDef.{ClosureDef}
use Rattle.mir_ty.specs.declared.def.Sig.{Sig}
use Rattle.mir_ty.specs.declared.def.TraitDef.{TraitDef}
use Rattle.mir_ty.specs.declared.ty.Ty.{Ty}
use Rattle.mir_ty.specs.declared.ty.TyId.{TyId}
use Rattle.mir_ty.specs.ItemTable.{ItemTable, type_at}
use Rattle.mir_ty.specs.Parts.{field_ty, fields_of, variants_of, captures_of, of_one_variant, parts_of}
use Rattle.store_model.specs.Concrete.Location.{named_by}
use Rattle.store_model.specs.Places.TypeForms as type_forms
use Rattle.typed_tree.specs.Tree.{ProgramTree}
use Rattle.well_typed.specs.Claim.{Claim, Holds, ◌&◌, each, nothing, some}
use Rattle.well_typed.specs.Items.{stands_alone, is_param, is_well_made, is_equal}
use Rattle.well_typed.specs.Program.{WellTyped}
use Rattle.well_typed.specs.Types as types
use Rattle.well_typed.proofs.ItemLemmas.{are_distinct}
use Rattle.soundness_cells.proofs.PassCellPatterns.{Told}
use Rattle.soundness_cells.proofs.PassCellCopies.{copy_undropped}
use Rattle.soundness_cells.proofs.PassCellTypes as facts
use Rattle.soundness_cells.proofs.PassCellTypes.{Alone}

-- ---- what is claimed of all is claimed of each

pub all_at : {A : Type 0} (test : A → Bool) (list : List A) (n : ℕ) (a : A) → list_all test list ≡ true →
    slice_get list n ≡ Some a → test a ≡ true
all_at test [] n a h e = absurd (none-some a e)
all_at test (b ∷ list) zero a h e =
    subst (λ x. test x ≡ true) (same_Some b a e) (facts.left_of (test b) (list_all test list) h)
all_at test (b ∷ list) (suc n) a h e = all_at test list n a (facts.right_of (test b) (list_all test list) h) e

claims_at : {A : Type 0} (f : A → Claim) (list : List A) (n : ℕ) (a : A) → Holds (each f list) →
    slice_get list n ≡ Some a → Holds (f a)
claims_at f [] n a h e = absurd (none-some a e)
claims_at f (b ∷ list) zero a h e = subst (λ x. Holds (f x)) (same_Some b a e) h.0
claims_at f (b ∷ list) (suc n) a h e = claims_at f list n a h.1 e

-- what is claimed of what is there
some_at : {A : Type 0} (o : Option A) (f : A → Claim) (a : A) → o ≡ Some a → Holds (some o f) → Holds (f a)
some_at None f a e h = absurd (none-some a e)
some_at (Some b) f a e h = subst (λ x. Holds (f x)) (same_Some b a e) h

-- claims of the members of a table, each with its number
abbrev Numbered : {A : Type 0} → (ℕ → A → Claim) → ℕ → List A → Claim
Numbered f n [] = nothing
Numbered f n (x ∷ xs) = f n x & Numbered f (suc n) xs

numbered_at : {A : Type 0} (f : ℕ → A → Claim) (n : ℕ) (list : List A) (i : ℕ) (a : A) → Holds (Numbered f n list) →
    slice_get list i ≡ Some a → Holds (f (n + i) a)
numbered_at f n [] i a h e = absurd (none-some a e)
numbered_at f n (b ∷ list) zero a h e =
    let same : n ≡ n + 0 = omega arith in
    subst (λ k. Holds (f k a)) same (subst (λ x. Holds (f n x)) (same_Some b a e) h.0)
numbered_at f n (b ∷ list) (suc i) a h e =
    let same : suc n + i ≡ n + suc i = omega arith in
    subst (λ k. Holds (f k a)) same (numbered_at f (suc n) list i a h.1 e)

-- ---- types by their forms

same_bool : (o : Option Ty) → option_map_or types.is_bool_ty o false ≡ true → o ≡ Some Ty.Bool
same_bool None e = absurd (false≢true e)
same_bool (Some Ty.Bool) e = refl
same_bool (Some ty) e = absurd (false≢true e)

same_unit : (o : Option Ty) → option_map_or types.is_unit_ty o false ≡ true → o ≡ Some Ty.Unit
same_unit None e = absurd (false≢true e)
same_unit (Some Ty.Unit) e = refl
same_unit (Some ty) e = absurd (false≢true e)

equal_bool : (ty : Ty) → is_equal Ty.Bool ty ≡ true → type_forms.is_bool (Some ty) ≡ true
equal_bool Ty.Bool e = refl
equal_bool ty e = absurd (false≢true e)

first : (a b : Bool) → a ≡ true → (a || b) ≡ true
first true b k = refl
first false b k = absurd (false≢true k)

second : (a b : Bool) → b ≡ true → (a || b) ≡ true
second true b k = refl
second false b k = k

any_bool : (list : List Ty) → list_any (is_equal Ty.Bool) list ≡ true →
    list_any (λ ty. type_forms.is_bool (Some ty)) list ≡ true
any_bool [] e = absurd (false≢true e)
any_bool (ty ∷ list) e = on (facts.one_of (is_equal Ty.Bool ty) (list_any (is_equal Ty.Bool) list) e)
    (λ l. any_bool list l)
  where
    on : (is_equal Ty.Bool ty ≡ true) ⊎ (list_any (is_equal Ty.Bool) list ≡ true) →
        (list_any (is_equal Ty.Bool) list ≡ true → list_any (λ ty. type_forms.is_bool (Some ty)) list ≡ true) →
        (type_forms.is_bool (Some ty) || list_any (λ ty. type_forms.is_bool (Some ty)) list) ≡ true
    on (inl k) later =
        first (type_forms.is_bool (Some ty)) (list_any (λ ty. type_forms.is_bool (Some ty)) list) (equal_bool ty k)
    on (inr l) later =
        second (type_forms.is_bool (Some ty)) (list_any (λ ty. type_forms.is_bool (Some ty)) list) (later l)

-- the first type that is `bool` is one
first_bool : (tys : List Ty) → list_any (is_equal Ty.Bool) tys ≡ true →
    type_forms.is_bool (slice_get tys
    (option_map_or (λ n. n) (position (λ ty. type_forms.is_bool (Some ty)) tys) (length tys))) ≡ true
first_bool tys h = by (position (λ ty. type_forms.is_bool (Some ty)) tys) refl
  where
    by : (o : Option ℕ) → position (λ ty. type_forms.is_bool (Some ty)) tys ≡ o →
        type_forms.is_bool (slice_get tys (option_map_or (λ n. n) o (length tys))) ≡ true
    by None e = absurd (false≢true (ap is_some (sym e) ∙ facts.has_position (λ ty. type_forms.is_bool (Some ty)) tys
        (any_bool tys h)))
    by (Some n) e =
        let p = position-Some (λ ty. type_forms.is_bool (Some ty)) tys n Ty.Bool e in
        subst (λ o. type_forms.is_bool o ≡ true) (sym (slice_get-get_or tys n Ty.Bool p.0)) p.1

abbrev IsOne : List ℕ → List Variant → Bool
IsOne name (variant ∷ []) = bytes_eq variant.name name
IsOne name list = false

-- an enum, or the one variant of a struct
enum_or_first : (b x : Bool) (name : List ℕ) (list : List Variant) → (if b then x else IsOne name list) ≡ true →
    (variant : ℕ) (v : Variant) → slice_get list variant ≡ Some v → (b || variant == 0) ≡ true
enum_or_first true x name list h variant v k = refl
enum_or_first false x name [] h variant v k = absurd (false≢true h)
enum_or_first false x name (one ∷ []) h zero v k = refl
enum_or_first false x name (one ∷ []) h (suc n) v k = absurd (none-some v k)
enum_or_first false x name (one ∷ (other ∷ list)) h n v k = absurd (false≢true h)

-- an element of a list of one type
alike_at : (count : ℕ) (ty : TyId) (n : ℕ) (t : TyId) → slice_get (replicate count ty) n ≡ Some t → ty ≡ t
alike_at zero ty n t e = absurd (none-some t e)
alike_at (suc count) ty zero t e = same_Some ty t e
alike_at (suc count) ty (suc n) t e = alike_at count ty n t e

module _ (items : ItemTable) where
  lone : (id : TyId) → stands_alone items id ≡ true → Alone items id
  lone id h = facts.neither_alone items id
      (facts.is_false (types.is_reference items id) (facts.right_of (not (types.is_dyn items id)) _
      (facts.right_of (is_some (type_at items id)) _ h)))
      (facts.is_false (types.is_dyn items id) (facts.left_of (not (types.is_dyn items id)) _
      (facts.right_of (is_some (type_at items id)) _ h)))

  plain : (id : TyId) → stands_alone items id ≡ true → types.is_reference items id ≡ false
  plain id h = facts.is_false (types.is_reference items id) (facts.right_of (not (types.is_dyn items id)) _
      (facts.right_of (is_some (type_at items id)) _ h))

module _ (p : ProgramTree) (w : WellTyped p) where
  abbrev items : ItemTable
  items = p.items

  made : (id : TyId) (ty : Ty) → type_at items id ≡ Some ty → is_well_made items ty ≡ true
  made id ty e = facts.left_of (is_well_made items ty) _ (all_at _ items.types id.0 ty w.0.0.1.0 e)

  head_ok : (n : ℕ) (sig : Sig) → slice_get items.bodies n ≡ Some sig →
      (list_all (is_param items) sig.params && stands_alone items sig.result) ≡ true
  head_ok n sig e = all_at _ items.bodies n sig w.0.1.1.1.1.1.1.0 e

  method_ok : (t m : ℕ) (def : TraitDef) (sig : Sig) → slice_get items.traits t ≡ Some def →
      slice_get def.methods m ≡ Some sig →
      (list_all (is_param items) sig.params && stands_alone items sig.result) ≡ true
  method_ok t m def sig e k =
      (claims_at _ def.methods m sig (numbered_at _ 0 items.traits t def w.0.1.1.0 e).0 k).0

  captures_ok : (n : ℕ) (def : ClosureDef) → slice_get items.closures n ≡ Some def →
      list_all (stands_alone items) def.captures ≡ true
  captures_ok n def e = (numbered_at _ 0 items.closures n def w.0.1.1.1.1.1.0 e).0

  adt_ok : (n : ℕ) (adt : Adt) → slice_get items.adts n ≡ Some adt → (variant : ℕ) (v : Variant) →
      slice_get adt.variants variant ≡ Some v → list_all (stands_alone items) v.fields ≡ true
  adt_ok n adt e variant v k = (claims_at _ adt.variants variant v (numbered_at _ 0 items.adts n adt w.0.1.0 e).1.0 k).0

  tuple_ok : (id : TyId) (tys : List TyId) → types.tuple_of items id ≡ Some tys →
      list_all (stands_alone items) tys ≡ true
  tuple_ok id tys e =
      facts.left_of (list_all (stands_alone items) tys) _
      (made id (Ty.Tuple tys) (facts.tuple_by (type_at items id) tys e).0)

  array_ok : (id : TyId) (a : TyId × ℕ) → types.array_of items id ≡ Some a → stands_alone items a.0 ≡ true
  array_ok id a e =
      facts.left_of (stands_alone items a.0) _ (made id (Ty.Array a.0 a.1) (facts.array_by (type_at items id) a e).0)

  box_ok : (id inside : TyId) → types.boxed_of items id ≡ Some inside → types.is_reference items inside ≡ false
  box_ok id inside e = facts.is_false (types.is_reference items inside)
      (facts.right_of (is_some (type_at items inside)) _
      (made id (Ty.Boxed inside) (facts.boxed_by (type_at items id) inside e).0))

  -- the first parameter of the inside of a closure
  closure_ok : (n : ℕ) (def : ClosureDef) (sig : Sig) (ty : TyId) (rest : List TyId) →
      slice_get items.closures n ≡ Some def → slice_get items.bodies def.body ≡ Some sig → sig.params ≡ ty ∷ rest →
      types.closure_of items ty ≡ Some n
  closure_ok n def sig ty rest e k same = by (types.closure_of items ty)
      (facts.left_of _ _ (some_at (slice_get items.bodies def.body) _ (record sig { params = ty ∷ rest })
      (k ∙ ap (λ l. Some (record sig { params = l })) same)
      (numbered_at _ 0 items.closures n def w.0.1.1.1.1.1.0 e).1))
    where
      by : (o : Option ℕ) → option_map_or (λ m. m == 0 + n) o false ≡ true → o ≡ Some n
      by None h = absurd (false≢true h)
      by (Some m) h =
          let one : m ≡ 0 + n = (Decides-eqb m (0 + n)).0 h in
          let same : 0 + n ≡ n = omega arith in ap Some (one ∙ same)

  inside_ok : (to : TyId) → (is_some (type_at items to) && not (types.is_reference items to)) ≡ true →
      types.is_reference items to ≡ false
  inside_ok to h = facts.is_false (types.is_reference items to) (facts.right_of (is_some (type_at items to)) _ h)

  referent_ok : (id to : TyId) → named_by (type_at items id) ≡ Some to → types.is_reference items to ≡ false
  referent_ok id to e = by (type_at items id) refl e
    where
      by : (o : Option Ty) → type_at items id ≡ o → named_by o ≡ Some to → types.is_reference items to ≡ false
      by None k e = absurd (none-some to e)
      by (Some (Ty.Shared t)) k e = inside_ok to (subst (λ i. (is_some (type_at items i)
          && not (types.is_reference items i)) ≡ true) (same_Some t to e) (made id (Ty.Shared t) k))
      by (Some (Ty.Unique t)) k e = inside_ok to (subst (λ i. (is_some (type_at items i)
          && not (types.is_reference items i)) ≡ true) (same_Some t to e) (made id (Ty.Unique t) k))
      by (Some ty) k e = absurd (none-some to e)

  -- what is a numbered part stands alone
  one_variant : (list : List TyId) (variant n : ℕ) (t : TyId) → list_all (stands_alone items) list ≡ true →
      slice_get (of_one_variant list variant) n ≡ Some t → stands_alone items t ≡ true
  one_variant list variant n t h e = by (variant == 0) e
    where
      by : (b : Bool) → slice_get (if b then list else []) n ≡ Some t → stands_alone items t ≡ true
      by true k = all_at (stands_alone items) list n t h k
      by false k = absurd (none-some t k)

  of_fields : (o : Option Variant) → ((v : Variant) → o ≡ Some v → list_all (stands_alone items) v.fields ≡ true) →
      (n : ℕ) (t : TyId) → slice_get (fields_of o) n ≡ Some t → stands_alone items t ≡ true
  of_fields None f n t e = absurd (none-some t e)
  of_fields (Some v) f n t e = all_at (stands_alone items) v.fields n t (f v refl) e

  of_adt : (number : ℕ) (o : Option Adt) → slice_get items.adts number ≡ o → (variant n : ℕ) (t : TyId) →
      slice_get (fields_of (slice_get (variants_of o) variant)) n ≡ Some t → stands_alone items t ≡ true
  of_adt number None same variant n t e = absurd (none-some t e)
  of_adt number (Some adt) same variant n t e = of_fields (slice_get adt.variants variant)
      (λ v k. adt_ok number adt same variant v k) n t e

  of_closure : (number : ℕ) (o : Option ClosureDef) → slice_get items.closures number ≡ o → (variant n : ℕ) (t : TyId) →
      slice_get (of_one_variant (captures_of o) variant) n ≡ Some t → stands_alone items t ≡ true
  of_closure number None same variant n t e = one_variant [] variant n t refl e
  of_closure number (Some def) same variant n t e =
      one_variant def.captures variant n t (captures_ok number def same) e

  alike : (count : ℕ) (ty : TyId) → stands_alone items ty ≡ true → list_all (stands_alone items) (replicate count ty) ≡
      true
  alike zero ty h = refl
  alike (suc count) ty h = ap (λ b. b && list_all (stands_alone items) (replicate count ty)) h ∙ alike count ty h

  part_ok : (id : TyId) (ty : Ty) → type_at items id ≡ Some ty → (variant n : ℕ) (t : TyId) →
      slice_get (parts_of items ty variant) n ≡ Some t → stands_alone items t ≡ true
  part_ok id (Ty.Adt number) same variant n t e = of_adt number (slice_get items.adts number) refl variant n t e
  part_ok id (Ty.Tuple parts) same variant n t e = one_variant parts variant n t
      (facts.left_of (list_all (stands_alone items) parts) _ (made id (Ty.Tuple parts) same)) e
  part_ok id (Ty.Array element count) same variant n t e = one_variant (replicate count element) variant n t
      (alike count element (facts.left_of (stands_alone items element) _ (made id (Ty.Array element count) same))) e
  part_ok id (Ty.Closure number) same variant n t e =
      of_closure number (slice_get items.closures number) refl variant n t e
  part_ok id ty same variant n t e = absurd (none-some t e)

  pub field_ok : (id : TyId) (variant n : ℕ) (t : TyId) → field_ty items id variant n ≡ Some t →
      stands_alone items t ≡ true
  field_ok id variant n t e = by (type_at items id) refl e
    where
      by : (o : Option Ty) → type_at items id ≡ o →
          option_and_then (λ ty. slice_get (parts_of items ty variant) n) o ≡ Some t → stands_alone items t ≡ true
      by None same k = absurd (none-some t k)
      by (Some ty) same k = part_ok id ty same variant n t k

  one_number : (a b : TyId) (ty : Ty) → type_at items a ≡ Some ty → type_at items b ≡ Some ty → a ≡ b
  one_number a b ty e k =
      let same : a.0 ≡ b.0 = are_distinct p w a.0 b.0 ty e k in
      ap (λ n. record { 0 = n }) same

  -- a variant that is found is one of its type, and its fields are the parts
  variant_ok : (adt variant : ℕ) (v : Variant) → types.variant_at items adt variant ≡ Some v →
      (has_variant items (Some (Ty.Adt adt)) variant ≡ true)
      × ((parts_of items (Ty.Adt adt) variant ≡ v.fields) × (list_all (stands_alone items) v.fields ≡ true))
  variant_ok adt variant v k = by (slice_get items.adts adt) refl k
    where
      by : (o : Option Adt) → slice_get items.adts adt ≡ o →
          option_and_then (λ (def : Adt). slice_get def.variants variant) o ≡ Some v →
          (has_variant items (Some (Ty.Adt adt)) variant ≡ true)
          × ((parts_of items (Ty.Adt adt) variant ≡ v.fields) × (list_all (stands_alone items) v.fields ≡ true))
      by None e k = absurd (none-some v k)
      by (Some def) e k = (
        subst (λ (o : Option Adt). (nat_lt variant (length (variants_of o))
            && (option_map_or (λ (d : Adt). d.is_enum) o false || variant == 0)) ≡ true) (sym e)
            (both_true (lt-ltb variant (length def.variants) (slice_get_within def.variants variant v k))
            (enum_or_first def.is_enum _ def.name def.variants
            (numbered_at _ 0 items.adts adt def w.0.1.0 e).0 variant v k)),
        (
          ap (λ (o : Option Adt). fields_of (slice_get (variants_of o) variant)) e ∙ ap fields_of k,
          adt_ok adt def e variant v k,
        ),
      )

  in_table : (id : TyId) → stands_alone items id ≡ true → is_some (type_at items id) ≡ true
  in_table id h = facts.left_of (is_some (type_at items id)) _ h

  inside_listed : (id t : TyId) → types.inside_of items id ≡ Some t → is_some (type_at items t) ≡ true
  inside_listed id t e = by (type_at items id) refl e
    where
      of_made : (u : TyId) → (is_some (type_at items u) && not (types.is_reference items u)) ≡ true → u ≡ t →
          is_some (type_at items t) ≡ true
      of_made u h same = subst (λ i. is_some (type_at items i) ≡ true) same (facts.left_of _ _ h)

      by : (o : Option Ty) → type_at items id ≡ o → option_and_then types.inside_in o ≡ Some t →
          is_some (type_at items t) ≡ true
      by None k e = absurd (none-some t e)
      by (Some (Ty.Boxed u)) k e = of_made u (made id (Ty.Boxed u) k) (same_Some u t e)
      by (Some (Ty.Shared u)) k e = of_made u (made id (Ty.Shared u) k) (same_Some u t e)
      by (Some (Ty.Unique u)) k e = of_made u (made id (Ty.Unique u) k) (same_Some u t e)
      by (Some ty) k e = absurd (none-some t e)

  pub told : Told items
  told = record {
    results = λ n sig e. lone items sig.result
        (facts.right_of (list_all (is_param items) sig.params) _ (head_ok n sig e));
    params = λ n sig e. facts.left_of (list_all (is_param items) sig.params) _ (head_ok n sig e);
    methods = λ t m def sig e k. (
      lone items sig.result (facts.right_of (list_all (is_param items) sig.params) _ (method_ok t m def sig e k)),
      facts.left_of (list_all (is_param items) sig.params) _ (method_ok t m def sig e k),
    );
    fields = λ id variant n t e. plain items t (field_ok id variant n t e);
    variants = variant_ok;
    tuples = tuple_ok;
    arrays = array_ok;
    captures = captures_ok;
    closures = closure_ok;
    copies = copy_undropped items (λ n adt e. (numbered_at _ 0 items.adts n adt w.0.1.0 e).1.1.0);
    boxes = box_ok;
    referents = referent_ok;
    bools = λ a b e k. one_number a b Ty.Bool (same_bool (type_at items a) e) (same_bool (type_at items b) k);
    units = λ a b e k. one_number a b Ty.Unit (same_unit (type_at items a) e) (same_unit (type_at items b) k);
    truth = first_bool items.types w.0.0.1.1.0;
    listed_results = λ n sig e. in_table sig.result
        (facts.right_of (list_all (is_param items) sig.params) _ (head_ok n sig e));
    listed_methods = λ t m def sig e k. in_table sig.result
        (facts.right_of (list_all (is_param items) sig.params) _ (method_ok t m def sig e k));
    listed_fields = λ id variant n t e. in_table t (field_ok id variant n t e);
    listed_inside = inside_listed;
  }
