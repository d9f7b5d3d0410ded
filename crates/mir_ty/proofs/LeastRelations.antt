-- What the rules show is what the relations say.
use Rattle.std.proofs.Common.{◌≡◌, ℕ, zero, suc, ◌<◌, Bool, true, false, ◌&&◌, ◌||◌, nat_lt, is_some, List, [], length, slice_get, slice_index_or, replicate, if◌then◌else◌, ◌==◌, Option, Some, None, Contains, ◌⊎◌, ◌↔◌, inl, inr, refl, ap, ◌∙◌, IsTrue, arith}
use Rattle.std.specs.List.{list_any, list_all}
use Rattle.std.specs.Option.{option_map_or, option_and_then}
use Rattle.std.proofs.lemmas.Bool.{false≢true, or_cases, or_right, and_parts, and_from, ltb-true, lt-ltb}
use Rattle.std.proofs.lemmas.Option.{slice_get_within, slice_get-get_or, get_or_from_slice_get, same_Some, none-some, option_and_then_some}
use Rattle.std.proofs.lemmas.List.Folds.{Any-from_list_any, list_any_at}
use Rattle.std.proofs.lemmas.List.Sums.{AllPass-from_list_all, list_all-from_AllPass}
use Rattle.mir_ty.specs.declared.ty.Ty.{Ty}
use Rattle.mir_ty.specs.declared.ty.TyId.{TyId}
use Rattle.mir_ty.specs.declared.adt.Adt.{Adt}
use Rattle.mir_ty.specs.declared.adt.Variant.{Variant}
use Rattle.mir_ty.specs.declared.def.ClosureDef.{ClosureDef}
use Rattle.mir_ty.specs.ItemTable.{ItemTable, type_at}
use Rattle.mir_ty.specs.Parts.{field_ty, parts_of, of_one_variant, fields_of, variants_of, captures_of}
use Rattle.mir_ty.specs.Facts.{Rule, copy_rule, drop_rule, adt_drop_rule, is_scalar, in_rounds, is_copy, needs_drop, adt_has_drop_impl, ty_has_drop_impl, IsCopy, scalar, derives, tuple, array, closure, NeedsDrop, a_box, a_dyn, an_impl, a_part}
use Rattle.mir_ty.proofs.ListLemmas.{slice_get-Contains, Contains-slice_get, All-slice_get}
use Rattle.mir_ty.proofs.FixedPoint.{by_rule-settled}
use Rattle.mir_ty.proofs.Rules.{copy_rule-growing, drop_rule-growing}

-- an element of a list, each of which passes, passes
passes : {X : Type 0} (p : X → Bool) (xs : List X) (x : X) → list_all p xs ≡ true → Contains xs x → p x ≡ true
passes p xs x all has = All-slice_get (λ x. p x ≡ true) xs has.0 x (AllPass-from_list_all p xs all) (slice_get-Contains xs x has)

-- a list passes where each of its elements does
all_pass : {X : Type 0} (p : X → Bool) (xs : List X) → ((x : X) → Contains xs x → p x ≡ true) → list_all p xs ≡ true
all_pass p xs each = list_all-from_AllPass p xs (λ k d below. each (slice_index_or xs k d) (Contains-slice_get xs k _ (slice_get-get_or xs k d below)))

-- an element of which a test is true, where there is one
one_passes : {X : Type 0} (p : X → Bool) (xs : List X) → list_any p xs ≡ true → (i : ℕ) × (x : X) × (slice_get xs i ≡ Some x) × (p x ≡ true)
one_passes p xs h =
    let a = Any-from_list_any p xs h in
    (a.0, a.1, slice_get-get_or xs a.0 a.1 a.2 ∙ ap Some a.3, a.4)

any_passes : {X : Type 0} (p : X → Bool) (xs : List X) (i : ℕ) (x : X) → slice_get xs i ≡ Some x → p x ≡ true → list_any p xs ≡ true
any_passes p xs i x is h = list_any_at p xs i x (slice_get_within xs i x is) (ap p (get_or_from_slice_get xs i x x is) ∙ h)

-- the value of an option, where a test is true of it
one_there : {X : Type 0} (p : X → Bool) (o : Option X) → option_map_or p o false ≡ true → (x : X) × (o ≡ Some x) × (p x ≡ true)
one_there p None h = absurd (false≢true h)
one_there p (Some x) h = (x, refl, h)

there : {X : Type 0} (p : X → Bool) (o : Option X) (x : X) → o ≡ Some x → p x ≡ true → option_map_or p o false ≡ true
there p o x is h = ap (λ o. option_map_or p o false) is ∙ h

-- an element of a list of copies
slice_get-replicate : {X : Type 0} (n : ℕ) (x : X) (i : ℕ) (y : X) → slice_get (replicate n x) i ≡ Some y → (0 < n) × (x ≡ y)
slice_get-replicate zero x i y h = absurd (none-some y h)
slice_get-replicate (suc n) x zero y h = (omega arith, same_Some x y h)
slice_get-replicate (suc n) x (suc i) y h = (omega arith, (slice_get-replicate n x i y h).1)

slice_get-replicate_first : {X : Type 0} (n : ℕ) (x : X) → 0 < n → slice_get (replicate n x) 0 ≡ Some x
slice_get-replicate_first zero x h = absurd (omega arith)
slice_get-replicate_first (suc n) x h = refl

module _ (items : ItemTable) where
  abbrev copying : Rule
  copying = copy_rule items.adts items.closures

  abbrev dropping : Rule
  dropping = drop_rule items.adts items.closures

  copied : (id : TyId) (ty : Ty) → type_at items id ≡ Some ty → copying (is_copy items) ty ≡ true → is_copy items id ≡ true
  copied = by_rule-settled items.types copying (copy_rule-growing items.adts items.closures)

  scalar_shown : (ty : Ty) → is_scalar ty ≡ true → copying (is_copy items) ty ≡ true
  scalar_shown (Ty.Adt n) h = absurd (false≢true h)
  scalar_shown (Ty.Tuple parts) h = absurd (false≢true h)
  scalar_shown (Ty.Array element count) h = absurd (false≢true h)
  scalar_shown (Ty.Closure n) h = absurd (false≢true h)
  scalar_shown _ h = h

  pub is_copy_from : (id : TyId) → IsCopy items id → is_copy items id ≡ true
  is_copy_from id (scalar {ty = ty} is h) = copied id ty is (scalar_shown ty h)
  is_copy_from id (derives {n = n} {adt = adt} is at h) = copied id (Ty.Adt n) is (there (λ a. a.copy) (slice_get items.adts n) adt at h)
  is_copy_from id (tuple {parts = parts} is each) = copied id (Ty.Tuple parts) is (all_pass (is_copy items) parts (λ part has. is_copy_from part (each part has)))
  is_copy_from id (array {element = element} {count = count} is one) = copied id (Ty.Array element count) is (is_copy_from element one)
  is_copy_from id (closure {n = n} {def = def} is at each) =
      copied id (Ty.Closure n) is (there (λ d. list_all (is_copy items) d.captures) (slice_get items.closures n) def at (all_pass (is_copy items) def.captures (λ part has. is_copy_from part (each part has))))

  copy_step : (P : TyId → Bool) → ((id : TyId) → P id ≡ true → IsCopy items id) → (id : TyId) (ty : Ty) → type_at items id ≡ Some ty → copying P ty ≡ true → IsCopy items id
  copy_step P known id (Ty.Adt n) is h = let a = one_there (λ a. a.copy) (slice_get items.adts n) h in derives is a.1 a.2
  copy_step P known id (Ty.Tuple parts) is h = tuple is (λ part has. known part (passes P parts part h has))
  copy_step P known id (Ty.Array element count) is h = array is (known element h)
  copy_step P known id (Ty.Closure n) is h =
      let a = one_there (λ d. list_all P d.captures) (slice_get items.closures n) h in
      closure is a.1 (λ part has. known part (passes P a.0.captures part a.2 has))
  copy_step P known id _ is h = scalar is h

  copy_shown : (k : ℕ) (id : TyId) → in_rounds items.types copying k id ≡ true → IsCopy items id
  copy_shown zero id h = absurd (false≢true h)
  copy_shown (suc k) id h =
      let a = one_there (copying (in_rounds items.types copying k)) (type_at items id) h in
      copy_step (in_rounds items.types copying k) (copy_shown k) id a.0 a.1 a.2

  pub is_copy-rules : (id : TyId) → IsTrue (is_copy items id) ↔ IsCopy items id
  is_copy-rules id = (copy_shown (length items.types) id, is_copy_from id)

  dropped : (id : TyId) (ty : Ty) → type_at items id ≡ Some ty → dropping (needs_drop items) ty ≡ true → needs_drop items id ≡ true
  dropped = by_rule-settled items.types dropping (drop_rule-growing items.adts items.closures)

  -- a part that needs dropping
  of_one_shown : (P : TyId → Bool) (parts : List TyId) (variant n : ℕ) (part : TyId) → slice_get (of_one_variant parts variant) n ≡ Some part → P part ≡ true → list_any P parts ≡ true
  of_one_shown P parts variant n part is h = by (variant == 0) is
    where
      by : (b : Bool) → slice_get (if b then parts else []) n ≡ Some part → list_any P parts ≡ true
      by true is = any_passes P parts n part is h
      by false is = absurd (none-some part is)

  fields_shown : (P : TyId → Bool) (variants : List Variant) (variant n : ℕ) (part : TyId) → slice_get (fields_of (slice_get variants variant)) n ≡ Some part → P part ≡ true
      → list_any (λ v. list_any P v.fields) variants ≡ true
  fields_shown P variants variant n part is h = by (slice_get variants variant) refl is
    where
      by : (o : Option Variant) → slice_get variants variant ≡ o → slice_get (fields_of o) n ≡ Some part → list_any (λ v. list_any P v.fields) variants ≡ true
      by None at is = absurd (none-some part is)
      by (Some v) at is = any_passes (λ v. list_any P v.fields) variants variant v at (any_passes P v.fields n part is h)

  adt_shown : (P : TyId → Bool) (o : Option Adt) (variant n : ℕ) (part : TyId) → slice_get (fields_of (slice_get (variants_of o) variant)) n ≡ Some part → P part ≡ true → option_map_or (adt_drop_rule P) o false ≡ true
  adt_shown P None variant n part is h = absurd (none-some part is)
  adt_shown P (Some adt) variant n part is h = or_right (is_some adt.drop_body) (list_any (λ v. list_any P v.fields) adt.variants) (fields_shown P adt.variants variant n part is h)

  captures_shown : (P : TyId → Bool) (o : Option ClosureDef) (variant n : ℕ) (part : TyId) → slice_get (of_one_variant (captures_of o) variant) n ≡ Some part → P part ≡ true
      → option_map_or (λ d. list_any P d.captures) o false ≡ true
  captures_shown P None variant n part is h = absurd (false≢true (of_one_shown P [] variant n part is h))
  captures_shown P (Some d) variant n part is h = of_one_shown P d.captures variant n part is h

  array_shown : (P : TyId → Bool) (element : TyId) (count variant n : ℕ) (part : TyId) → slice_get (of_one_variant (replicate count element) variant) n ≡ Some part → P part ≡ true
      → (nat_lt 0 count && P element) ≡ true
  array_shown P element count variant n part is h = by (variant == 0) is
    where
      by : (b : Bool) → slice_get (if b then replicate count element else []) n ≡ Some part → (nat_lt 0 count && P element) ≡ true
      by true is = let e = slice_get-replicate count element n part is in and_from (nat_lt 0 count) (P element) (lt-ltb 0 count e.0) (ap P e.1 ∙ h)
      by false is = absurd (none-some part is)

  part_shown : (P : TyId → Bool) (ty : Ty) (variant n : ℕ) (part : TyId) → slice_get (parts_of items ty variant) n ≡ Some part → P part ≡ true → dropping P ty ≡ true
  part_shown P (Ty.Adt k) variant n part is h = adt_shown P (slice_get items.adts k) variant n part is h
  part_shown P (Ty.Tuple parts) variant n part is h = of_one_shown P parts variant n part is h
  part_shown P (Ty.Array element count) variant n part is h = array_shown P element count variant n part is h
  part_shown P (Ty.Closure k) variant n part is h = captures_shown P (slice_get items.closures k) variant n part is h
  part_shown P _ variant n part is h = absurd (none-some part is)

  impl_of_adt : (P : TyId → Bool) (o : Option Adt) → adt_has_drop_impl o ≡ true → option_map_or (adt_drop_rule P) o false ≡ true
  impl_of_adt P None h = h
  impl_of_adt P (Some adt) h = ap (λ b. b || list_any (λ v. list_any P v.fields) adt.variants) h

  impl_shown : (P : TyId → Bool) (ty : Ty) → ty_has_drop_impl items ty ≡ true → dropping P ty ≡ true
  impl_shown P (Ty.Adt k) h = impl_of_adt P (slice_get items.adts k) h
  impl_shown P _ h = absurd (false≢true h)

  pub needs_drop_from : (id : TyId) → NeedsDrop items id → needs_drop items id ≡ true
  needs_drop_from id (a_box {inside = inside} is) = dropped id (Ty.Boxed inside) is refl
  needs_drop_from id (a_dyn {n = n} is) = dropped id (Ty.Dyn n) is refl
  needs_drop_from id (an_impl h) =
      let a = one_there (ty_has_drop_impl items) (type_at items id) h in
      dropped id a.0 a.1 (impl_shown (needs_drop items) a.0 a.2)
  needs_drop_from id (a_part {part = part} variant n is h) = by (needs_drop_from part h)
    where
      by : needs_drop items part ≡ true → needs_drop items id ≡ true
      by shown =
          option_and_then_some (λ ty. slice_get (parts_of items ty variant) n) (type_at items id) part is
          (λ ty at here. dropped id ty at (part_shown (needs_drop items) ty variant n part here shown))

  part_at : (id : TyId) (ty : Ty) (variant n : ℕ) (part : TyId) → type_at items id ≡ Some ty → slice_get (parts_of items ty variant) n ≡ Some part → field_ty items id variant n ≡ Some part
  part_at id ty variant n part is here = ap (option_and_then (λ ty. slice_get (parts_of items ty variant) n)) is ∙ here

  module _ (P : TyId → Bool) (known : (id : TyId) → P id ≡ true → NeedsDrop items id) (id : TyId) where
    one_needs : (ty : Ty) (parts : List TyId) → type_at items id ≡ Some ty → parts_of items ty 0 ≡ parts → list_any P parts ≡ true → NeedsDrop items id
    one_needs ty parts is same h =
        let a = one_passes P parts h in
        a_part 0 a.0 (part_at id ty 0 a.0 a.1 is (ap (λ l. slice_get l a.0) same ∙ a.2)) (known a.1 a.3)

    adt_needs : (n : ℕ) (adt : Adt) → type_at items id ≡ Some (Ty.Adt n) → slice_get items.adts n ≡ Some adt → (is_some adt.drop_body ≡ true) ⊎ (list_any (λ v. list_any P v.fields) adt.variants ≡ true) → NeedsDrop items id
    adt_needs n adt is at (inl h) = an_impl (there (ty_has_drop_impl items) (type_at items id) (Ty.Adt n) is (ap adt_has_drop_impl at ∙ h))
    adt_needs n adt is at (inr h) =
        let v = one_passes (λ v. list_any P v.fields) adt.variants h in
        let f = one_passes P v.1.fields v.3 in
        let here : fields_of (slice_get (variants_of (slice_get items.adts n)) v.0) ≡ v.1.fields = ap (λ o. fields_of (slice_get (variants_of o) v.0)) at ∙ ap fields_of v.2 in
        a_part v.0 f.0 (part_at id (Ty.Adt n) v.0 f.0 f.1 is (ap (λ l. slice_get l f.0) here ∙ f.2)) (known f.1 f.3)

    drop_step : (ty : Ty) → type_at items id ≡ Some ty → dropping P ty ≡ true → NeedsDrop items id
    drop_step (Ty.Boxed inside) is h = a_box is
    drop_step (Ty.Dyn n) is h = a_dyn is
    drop_step (Ty.Adt n) is h =
        let a = one_there (adt_drop_rule P) (slice_get items.adts n) h in
        adt_needs n a.0 is a.1 (or_cases (is_some a.0.drop_body) (list_any (λ v. list_any P v.fields) a.0.variants) a.2)
    drop_step (Ty.Tuple parts) is h = one_needs (Ty.Tuple parts) parts is refl h
    drop_step (Ty.Array element count) is h =
        let p = and_parts (nat_lt 0 count) (P element) h in
        a_part 0 0 (part_at id (Ty.Array element count) 0 0 element is (slice_get-replicate_first count element (ltb-true 0 count p.0))) (known element p.1)
    drop_step (Ty.Closure n) is h =
        let a = one_there (λ d. list_any P d.captures) (slice_get items.closures n) h in
        one_needs (Ty.Closure n) a.0.captures is (ap captures_of a.1) a.2
    drop_step _ is h = absurd (false≢true h)

  drop_shown : (k : ℕ) (id : TyId) → in_rounds items.types dropping k id ≡ true → NeedsDrop items id
  drop_shown zero id h = absurd (false≢true h)
  drop_shown (suc k) id h =
      let a = one_there (dropping (in_rounds items.types dropping k)) (type_at items id) h in
      drop_step (in_rounds items.types dropping k) (drop_shown k) id a.0 a.1 a.2

  pub needs_drop-rules : (id : TyId) → IsTrue (needs_drop items id) ↔ NeedsDrop items id
  needs_drop-rules id = (drop_shown (length items.types) id, needs_drop_from id)
