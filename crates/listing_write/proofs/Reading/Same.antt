-- Two graphs that are equal as compared, of which the one is well formed, and types of the other exist where they are written as those of
-- the one that exist: their items are alike.
use Rattle.std.proofs.Common.{◌≡◌, ℕ, zero, suc, ◌+◌, ◌<◌, Bool, true, false, ◌&&◌, ◌||◌, ◌==◌, nat_eq, List, [], ◌∷◌, ◌++◌, map, flat_map, take, length, All, Option, Some, None, is_some, nat_lt, slice_get, refl, ap, sym, subst, ◌∙◌, arith, eq-eqb}
use Rattle.std.specs.Prelude.{⊤, option_map, option_and_then}
use Rattle.std.specs.List.{list_any}
use Rattle.std.specs.Option.{option_map_or}
use Rattle.std.proofs.lemmas.Bool.{and_parts, false≢true}
use Rattle.std.proofs.lemmas.Option.{none-some, same_Some}
use Rattle.mir_ty.specs.declared.ty.Ty.{Ty}
use Rattle.mir_ty.specs.declared.ty.TyId.{TyId}
use Rattle.mir_ty.specs.declared.adt.Adt.{Adt}
use Rattle.mir_ty.specs.declared.adt.Variant.{Variant}
use Rattle.mir_ty.specs.declared.def.Sig.{Sig}
use Rattle.mir_ty.specs.declared.def.TraitDef.{TraitDef}
use Rattle.mir_ty.specs.declared.def.ClosureDef.{ClosureDef}
use Rattle.mir_ty.specs.AreItems.{AreItems, AreTypes, AreMethods, IsTy, IsAdt, IsVariant, IsSig, IsMethod}
use Rattle.mir_ty.specs.ItemTable.{ItemTable}
use Rattle.mir_ty.specs.Named.{adt_name, name_of_adt}
use Rattle.mir_ty.specs.Parts.{fields_of, variants_of, captures_of, held_by}
use Rattle.store_model.specs.Places.Place.{is_enum}
use Rattle.store_model.specs.Places.TypeForms.{same_id, same_ids}
use Rattle.cfg_graph.specs.declared.graph.Body.{Body}
use Rattle.cfg_graph.specs.declared.graph.Graph.{Graph}
use Rattle.cfg_graph.specs.WellFormed.LineFaults.{has_sig}
use Rattle.cfg_graph.specs.WellFormed.NameFaults.{is_name, is_adt_name}
use Rattle.cfg_graph.specs.WellFormed.TypeFaults.{ty_exists, is_drop_body, is_drop_body_of}
use Rattle.cfg_graph.specs.WellFormed.Typing.{variant_at, enum_variant, method_at}
use Rattle.listing_write.specs.Compared.{AdtSeen, SigSeen, BodySeen, GraphSeen, VariantSeen, numbered, variant_seen, adt_seen, sig_seen, trait_seen, closure_seen, body_seen, seen, IsListed}
use Rattle.listing_write.specs.Fields.{GraphFits, TyFits}
use Rattle.listing_write.specs.Types.{trait_name, name_of_trait, type_text}
use Rattle.listing_write.proofs.Reading.Basics.{Every}
use Rattle.listing_write.proofs.Reading.Types.{AreNamed, every_more}
use Rattle.listing_write.proofs.Reading.Parts.{every_from_all}
use Rattle.listing_write.proofs.Reading.Items.{GoodVariant, GoodAdt, GoodSig, GoodTrait, GoodClosure}
use Rattle.listing_write.proofs.Reading.Listed.{all_at, found_at, ty_numbers, are_named, good_adts, good_traits, good_closures, adt_no, trait_no, adts_told, traits_told, sig_holds, good_body}
use Rattle.listing_write.proofs.Reading.Law.{one_id}
use Rattle.listing_write.proofs.Reading.Alike.{Side, TyAlike, ListsAlike, FormsAlike, forms_alike, one_type}
use Rattle.listing_write.proofs.Reading.Tested.{bool_iff}
use Rattle.listing_write.proofs.Reading.Held.{types_alike}
use Rattle.listing_write.proofs.Reading.Typed.{SigAlike, OptSig, OptVariant, ItemsAlike}

-- two that are missing, or that look the same
abbrev pub Both : {X Y Z : Type 0} → (X → Z) → (Y → Z) → Option X → Option Y → Type 0
Both f g None None = ⊤
Both f g (Some x) (Some y) = f x ≡ g y
Both f g None (Some y) = ⊥
Both f g (Some x) None = ⊥

tail_of : {Z : Type 0} → List Z → List Z
tail_of [] = []
tail_of (z ∷ zs) = zs

first_same : {Z : Type 0} (x y : Z) (xs ys : List Z) → x ∷ xs ≡ y ∷ ys → x ≡ y
first_same x y xs ys h = same_Some x y (ap (λ (zs : List _). slice_get zs 0) h)

rest_same : {Z : Type 0} (x y : Z) (xs ys : List Z) → x ∷ xs ≡ y ∷ ys → xs ≡ ys
unfolding tail_of
rest_same x y xs ys h = ap tail_of h

pub both_at : {X Y Z : Type 0} (f : X → Z) (g : Y → Z) (xs : List X) (ys : List Y) → map f xs ≡ map g ys → (n : ℕ) → Both f g (slice_get xs n) (slice_get ys n)
both_at f g [] [] h n = tt
both_at f g [] (y ∷ ys) h n = absurd (cc)
both_at f g (x ∷ xs) [] h n = absurd (cc)
both_at f g (x ∷ xs) (y ∷ ys) h zero = first_same (f x) (g y) (map f xs) (map g ys) h
both_at f g (x ∷ xs) (y ∷ ys) h (suc n) = both_at f g xs ys (rest_same (f x) (g y) (map f xs) (map g ys) h) n

pub same_length : {X Y Z : Type 0} (f : X → Z) (g : Y → Z) (xs : List X) (ys : List Y) → map f xs ≡ map g ys → length xs ≡ length ys
same_length f g [] [] h = refl
same_length f g [] (y ∷ ys) h = absurd (cc)
same_length f g (x ∷ xs) [] h = absurd (cc)
same_length f g (x ∷ xs) (y ∷ ys) h = ap suc (same_length f g xs ys (rest_same (f x) (g y) (map f xs) (map g ys) h))

pub both_from : {X Y Z : Type 0} (f : ℕ → X → Z) (g : ℕ → Y → Z) (k : ℕ) (xs : List X) (ys : List Y) → numbered f k xs ≡ numbered g k ys
    → (n : ℕ) → Both (f (k + n)) (g (k + n)) (slice_get xs n) (slice_get ys n)
both_from f g k [] [] h n = tt
both_from f g k [] (y ∷ ys) h n = absurd (cc)
both_from f g k (x ∷ xs) [] h n = absurd (cc)
both_from f g k (x ∷ xs) (y ∷ ys) h zero =
    subst (λ m. f m x ≡ g m y) (let e : k ≡ k + 0 = omega arith in e) (first_same (f k x) (g k y) (numbered f (suc k) xs) (numbered g (suc k) ys) h)
both_from f g k (x ∷ xs) (y ∷ ys) h (suc n) =
    subst (λ m. Both (f m) (g m) (slice_get xs n) (slice_get ys n)) (let e : suc k + n ≡ k + suc n = omega arith in e)
    (both_from f g (suc k) xs ys (rest_same (f k x) (g k y) (numbered f (suc k) xs) (numbered g (suc k) ys) h) n)

pub same_numbered : {X Y Z : Type 0} (f : ℕ → X → Z) (g : ℕ → Y → Z) (k : ℕ) (xs : List X) (ys : List Y) → numbered f k xs ≡ numbered g k ys → length xs ≡ length ys
same_numbered f g k [] [] h = refl
same_numbered f g k [] (y ∷ ys) h = absurd (cc)
same_numbered f g k (x ∷ xs) [] h = absurd (cc)
same_numbered f g k (x ∷ xs) (y ∷ ys) h = ap suc (same_numbered f g (suc k) xs ys (rest_same (f k x) (g k y) (numbered f (suc k) xs) (numbered g (suc k) ys) h))

pub every_at : {X : Type 0} (P : X → Type 0) (xs : List X) (n : ℕ) (x : X) → Every P xs → slice_get xs n ≡ Some x → P x
every_at P [] n x h e = absurd (none-some x e)
every_at P (y ∷ ys) zero x h e = subst P (same_Some y x e) h.0
every_at P (y ∷ ys) (suc n) x h e = every_at P ys n x h.1 e

every_take : {X : Type 0} (P : X → Type 0) (n : ℕ) (xs : List X) → Every P xs → Every P (take n xs)
every_take P zero [] h = tt
every_take P zero (x ∷ xs) h = tt
every_take P (suc n) [] h = tt
every_take P (suc n) (x ∷ xs) h = (h.0, every_take P n xs h.1)

ids_hold : (P : TyId → Type 0) (xs ys : List TyId) → same_ids xs ys ≡ true → Every P xs → Every P ys
ids_hold P [] [] h e = tt
ids_hold P [] (y ∷ ys) h e = absurd (false≢true h)
ids_hold P (x ∷ xs) [] h e = absurd (false≢true h)
ids_hold P (x ∷ xs) (y ∷ ys) h e = let (this, others) = and_parts (same_id x y) _ h in (subst P (one_id x y this) e.0, ids_hold P xs ys others e.1)

module _ (left right : ItemTable) where
  append_alike : (xs ys us vs : List TyId) → ListsAlike left right xs ys → ListsAlike left right us vs → ListsAlike left right (xs ++ us) (ys ++ vs)
  append_alike [] [] us vs h k = k
  append_alike [] (y ∷ ys) us vs h k = absurd h
  append_alike (x ∷ xs) [] us vs h k = absurd h
  append_alike (x ∷ xs) (y ∷ ys) us vs h k = (h.0, append_alike xs ys us vs h.1 k)

-- types of the one that are in its table, and are written as such of the other that exist, exist too
pub record WrittenExist (left right : Graph) : Type 0 where
  pub table : (a b : TyId) → ty_exists left.items a ≡ true → b.0 < length right.items.types → type_text left.items a ≡ type_text right.items b → ty_exists right.items b ≡ true
  pub locals : All (λ body. AreTypes right.items.types body.locals) right.bodies

module _ (left right : Graph) (l : IsListed left) (ri : AreItems right.items) (ex : WrittenExist left right) (rf : GraphFits right) (same : seen left ≡ seen right) where
  abbrev pub L : ItemTable
  L = left.items

  abbrev pub R : ItemTable
  R = right.items

  pub adts_same : map (adt_seen L) L.adts ≡ map (adt_seen R) R.adts
  adts_same = ap (λ (s : GraphSeen). s.adts) same

  pub traits_same : map (trait_seen L) L.traits ≡ map (trait_seen R) R.traits
  traits_same = ap (λ (s : GraphSeen). s.traits) same

  pub impls_same : L.impls ≡ R.impls
  impls_same = ap (λ (s : GraphSeen). s.impls) same

  pub closures_same : map (closure_seen L) L.closures ≡ map (closure_seen R) R.closures
  closures_same = ap (λ (s : GraphSeen). s.closures) same

  pub bodies_same : numbered (body_seen L) 0 left.bodies ≡ numbered (body_seen R) 0 right.bodies
  bodies_same = ap (λ (s : GraphSeen). s.bodies) same

  pub adt_count : length L.adts ≡ length R.adts
  adt_count = same_length (adt_seen L) (adt_seen R) L.adts R.adts adts_same

  pub trait_count : length L.traits ≡ length R.traits
  trait_count = same_length (trait_seen L) (trait_seen R) L.traits R.traits traits_same

  pub body_count : length left.bodies ≡ length right.bodies
  body_count = same_numbered (body_seen L) (body_seen R) 0 left.bodies right.bodies bodies_same

  pub bodies_both : (n : ℕ) → Both (body_seen L n) (body_seen R n) (slice_get left.bodies n) (slice_get right.bodies n)
  bodies_both n =
      subst (λ m. Both (body_seen L m) (body_seen R m) (slice_get left.bodies n) (slice_get right.bodies n)) (let e : 0 + n ≡ n = omega arith in e)
      (both_from (body_seen L) (body_seen R) 0 left.bodies right.bodies bodies_same n)

  alike_within : (xs ys : List TyId) → Every (λ id. ty_exists L id ≡ true) xs → Every (λ id. id.0 < length R.types) ys → map (type_text L) xs ≡ map (type_text R) ys → ListsAlike L R xs ys
  alike_within [] [] h k e = tt
  alike_within [] (y ∷ ys) h k e = absurd (cc)
  alike_within (x ∷ xs) [] h k e = absurd (cc)
  alike_within (x ∷ xs) (y ∷ ys) h k e =
      let one : type_text L x ≡ type_text R y = first_same (type_text L x) (type_text R y) (map (type_text L) xs) (map (type_text R) ys) e in
      (record { left_exists = h.0; right_exists = ex.table x y h.0 k.0 one; text = one }, alike_within xs ys h.1 k.1 (rest_same (type_text L x) (type_text R y) (map (type_text L) xs) (map (type_text R) ys) e))

  pub in_table : (xs ys : List TyId) → Every (λ id. ty_exists L id ≡ true) xs → AreTypes R.types ys → map (type_text L) xs ≡ map (type_text R) ys → ListsAlike L R xs ys
  in_table xs ys h k e = alike_within xs ys h (every_from_all (λ (id : TyId). id.0 < length R.types) ys k) e

  -- names
  name_both : (x y : Option Adt) → Both (adt_seen L) (adt_seen R) x y → name_of_adt x ≡ name_of_adt y
  name_both None None h = refl
  name_both (Some x) (Some y) h = ap (λ (s : AdtSeen). s.name) h
  name_both None (Some y) h = absurd h
  name_both (Some x) None h = absurd h

  pub name_same : (n : ℕ) → adt_name L n ≡ adt_name R n
  name_same n = name_both (slice_get L.adts n) (slice_get R.adts n) (both_at (adt_seen L) (adt_seen R) L.adts R.adts adts_same n)

  trait_both : (x y : Option TraitDef) → Both (trait_seen L) (trait_seen R) x y → name_of_trait x ≡ name_of_trait y
  trait_both None None h = refl
  trait_both (Some x) (Some y) h = ap (λ (s : List ℕ × List SigSeen). s.0) h
  trait_both None (Some y) h = absurd h
  trait_both (Some x) None h = absurd h

  pub trait_same : (n : ℕ) → trait_name L n ≡ trait_name R n
  trait_same n = trait_both (slice_get L.traits n) (slice_get R.traits n) (both_at (trait_seen L) (trait_seen R) L.traits R.traits traits_same n)

  in_adts : (n : ℕ) → nat_lt n (length R.adts) ≡ true → nat_lt n (length L.adts) ≡ true
  in_adts n h = ap (nat_lt n) adt_count ∙ h

  in_traits : (n : ℕ) → nat_lt n (length R.traits) ≡ true → nat_lt n (length L.traits) ≡ true
  in_traits n h = ap (nat_lt n) trait_count ∙ h

  pub named : AreNamed R
  named = record {
    adts = λ n h. ap is_adt_name (sym (name_same n)) ∙ (are_named left l).adts n (in_adts n h);
    traits = λ n h. ap is_name (sym (trait_same n)) ∙ (are_named left l).traits n (in_traits n h);
    numbers = λ id ty is. ty_numbers ty (all_at TyFits R.types id.0 ty rf.items.types is);
    types = let short = ri.short.types in omega arith;
  }

  side_left : Side L
  side_left = record { named = are_named left l; parts = λ id ty is. (all_at (IsTy L.types) L.types id.0 ty l.items.types is).parts; distinct = l.items.distinct }

  side_right : Side R
  side_right = record { named = named; parts = λ id ty is. (all_at (IsTy R.types) R.types id.0 ty ri.types is).parts; distinct = ri.distinct }

  one_left : (n m : ℕ) → nat_lt n (length L.adts) ≡ true → nat_lt m (length L.adts) ≡ true → adt_name L n ≡ adt_name L m → n ≡ m
  one_left n m a b e = sym (adts_told left l n a).1 ∙ ap (adt_no left l) e ∙ (adts_told left l m b).1

  one_trait_left : (n m : ℕ) → nat_lt n (length L.traits) ≡ true → nat_lt m (length L.traits) ≡ true → trait_name L n ≡ trait_name L m → n ≡ m
  one_trait_left n m a b e = sym (traits_told left l n a).1 ∙ ap (trait_no left l) e ∙ (traits_told left l m b).1

  pub forms : (a b : TyId) → TyAlike L R a b → FormsAlike L R a b
  forms = forms_alike L R (are_named left l) named
      (λ n m a b e. one_left n m a (in_adts m b) (e ∙ sym (name_same m))) (λ n m a b e. one_trait_left n m a (in_traits m b) (e ∙ sym (trait_same m)))
      side_left.parts side_right.parts

  pub one_type_left : (a b : TyId) → ty_exists L a ≡ true → ty_exists L b ≡ true → type_text L a ≡ type_text L b → a ≡ b
  one_type_left = one_type L side_left one_left one_trait_left

  one_type_right : (a b : TyId) → ty_exists R a ≡ true → ty_exists R b ≡ true → type_text R a ≡ type_text R b → a ≡ b
  one_type_right = one_type R side_right
      (λ n m a b e. one_left n m (in_adts n a) (in_adts m b) (name_same n ∙ e ∙ sym (name_same m)))
      (λ n m a b e. one_trait_left n m (in_traits n a) (in_traits m b) (trait_same n ∙ e ∙ sym (trait_same m)))

  ids_alike : (a b c d : TyId) → TyAlike L R a b → TyAlike L R c d → same_id a c ≡ same_id b d
  ids_alike a b c d h k =
      bool_iff (same_id a c) (same_id b d)
      (λ e. let one : a ≡ c = one_id a c e in
      let other : b ≡ d = one_type_right b d h.right_exists k.right_exists (sym h.text ∙ ap (type_text L) one ∙ k.text) in
      eq-eqb b.0 d.0 (ap (λ (id : TyId). id.0) other))
      (λ e. let one : b ≡ d = one_id b d e in
      let other : a ≡ c = one_type_left a c h.left_exists k.left_exists (h.text ∙ ap (type_text R) one ∙ sym k.text) in
      eq-eqb a.0 c.0 (ap (λ (id : TyId). id.0) other))

  -- variants and their fields
  abbrev ExistL : List TyId → Type 0
  ExistL ids = Every (λ id. ty_exists L id ≡ true) ids

  one_variant : (v w : Variant) → GoodVariant L (are_named left l) v → IsVariant R.types w → variant_seen L v ≡ variant_seen R w → ListsAlike L R v.fields w.fields
  one_variant v w good is h = in_table v.fields w.fields good.fields is.fields (ap (λ (s : VariantSeen). s.1) h)

  variant_both : (vs ws : List Variant) → Every (GoodVariant L (are_named left l)) vs → Every (IsVariant R.types) ws → map (variant_seen L) vs ≡ map (variant_seen R) ws
      → (v : ℕ) → OptVariant L R (slice_get vs v) (slice_get ws v)
  variant_both [] [] g k h v = tt
  variant_both [] (w ∷ ws) g k h v = absurd (cc)
  variant_both (x ∷ vs) [] g k h v = absurd (cc)
  variant_both (x ∷ vs) (w ∷ ws) g k h zero = one_variant x w g.0 k.0 (first_same (variant_seen L x) (variant_seen R w) (map (variant_seen L) vs) (map (variant_seen R) ws) h)
  variant_both (x ∷ vs) (w ∷ ws) g k h (suc v) = variant_both vs ws g.1 k.1 (rest_same (variant_seen L x) (variant_seen R w) (map (variant_seen L) vs) (map (variant_seen R) ws) h) v

  pub all_fields : (vs ws : List Variant) → Every (GoodVariant L (are_named left l)) vs → Every (IsVariant R.types) ws → map (variant_seen L) vs ≡ map (variant_seen R) ws
      → ListsAlike L R (flat_map (λ v. v.fields) vs) (flat_map (λ w. w.fields) ws)
  all_fields [] [] g k h = tt
  all_fields [] (w ∷ ws) g k h = absurd (cc)
  all_fields (x ∷ vs) [] g k h = absurd (cc)
  all_fields (x ∷ vs) (w ∷ ws) g k h =
      append_alike L R x.fields w.fields (flat_map (λ v. v.fields) vs) (flat_map (λ v. v.fields) ws)
      (one_variant x w g.0 k.0 (first_same (variant_seen L x) (variant_seen R w) (map (variant_seen L) vs) (map (variant_seen R) ws) h))
      (all_fields vs ws g.1 k.1 (rest_same (variant_seen L x) (variant_seen R w) (map (variant_seen L) vs) (map (variant_seen R) ws) h))

  -- a struct or enum and the other one with its number
  pub record AdtPair (n : ℕ) (x y : Adt) : Type 0 where
    pub look : adt_seen L x ≡ adt_seen R y
    pub good : GoodAdt L (are_named left l) x
    pub is : Every (IsVariant R.types) y.variants

  abbrev pub OptAdt : ℕ → Option Adt → Option Adt → Type 0
  OptAdt n None None = ⊤
  OptAdt n (Some x) (Some y) = AdtPair n x y
  OptAdt n None (Some y) = ⊥
  OptAdt n (Some x) None = ⊥

  pub adt_pair : (n : ℕ) → OptAdt n (slice_get L.adts n) (slice_get R.adts n)
  adt_pair n = by (slice_get L.adts n) (slice_get R.adts n) refl refl (both_at (adt_seen L) (adt_seen R) L.adts R.adts adts_same n)
    where
      by : (o p : Option Adt) → slice_get L.adts n ≡ o → slice_get R.adts n ≡ p → Both (adt_seen L) (adt_seen R) o p → OptAdt n o p
      by None None e f h = tt
      by (Some x) (Some y) e f h = record {
        look = h;
        good = every_at (GoodAdt L (are_named left l)) L.adts n x (good_adts left l) e;
        is = every_from_all (IsVariant R.types) y.variants (all_at (IsAdt R.types) R.adts n y ri.adts f).variants;
      }
      by None (Some y) e f h = absurd h
      by (Some x) None e f h = absurd h

  variant_opt : (n v : ℕ) → OptVariant L R (variant_at L n v) (variant_at R n v)
  variant_opt n v = by (slice_get L.adts n) (slice_get R.adts n) (adt_pair n)
    where
      by : (o p : Option Adt) → OptAdt n o p → OptVariant L R (option_and_then (λ def. slice_get def.variants v) o) (option_and_then (λ def. slice_get def.variants v) p)
      by None None h = tt
      by (Some x) (Some y) h = variant_both x.variants y.variants h.good.variants h.is (ap (λ (s : AdtSeen). s.variants) h.look) v
      by None (Some y) h = absurd h
      by (Some x) None h = absurd h

  fields_opt : (n v : ℕ) → ListsAlike L R (fields_of (slice_get (variants_of (slice_get L.adts n)) v)) (fields_of (slice_get (variants_of (slice_get R.adts n)) v))
  fields_opt n v = by (slice_get L.adts n) (slice_get R.adts n) (adt_pair n)
    where
      from : (o p : Option Variant) → OptVariant L R o p → ListsAlike L R (fields_of o) (fields_of p)
      from None None h = tt
      from (Some x) (Some y) h = h
      from None (Some y) h = absurd h
      from (Some x) None h = absurd h

      by : (o p : Option Adt) → OptAdt n o p → ListsAlike L R (fields_of (slice_get (variants_of o) v)) (fields_of (slice_get (variants_of p) v))
      by None None h = tt
      by (Some x) (Some y) h = from (slice_get x.variants v) (slice_get y.variants v) (variant_both x.variants y.variants h.good.variants h.is (ap (λ (s : AdtSeen). s.variants) h.look) v)
      by None (Some y) h = absurd h
      by (Some x) None h = absurd h

  pub held_opt : (n : ℕ) → ListsAlike L R (held_by L (Ty.Adt n)) (held_by R (Ty.Adt n))
  held_opt n = by (slice_get L.adts n) (slice_get R.adts n) (adt_pair n)
    where
      by : (o p : Option Adt) → OptAdt n o p → ListsAlike L R (flat_map (λ v. v.fields) (variants_of o)) (flat_map (λ v. v.fields) (variants_of p))
      by None None h = tt
      by (Some x) (Some y) h = all_fields x.variants y.variants h.good.variants h.is (ap (λ (s : AdtSeen). s.variants) h.look)
      by None (Some y) h = absurd h
      by (Some x) None h = absurd h

  enum_opt : (n : ℕ) → is_enum L (Ty.Adt n) ≡ is_enum R (Ty.Adt n)
  enum_opt n = by (slice_get L.adts n) (slice_get R.adts n) (both_at (adt_seen L) (adt_seen R) L.adts R.adts adts_same n)
    where
      by : (o p : Option Adt) → Both (adt_seen L) (adt_seen R) o p → option_map_or (λ adt. adt.is_enum) o false ≡ option_map_or (λ adt. adt.is_enum) p false
      by None None h = refl
      by (Some x) (Some y) h = ap (λ (s : AdtSeen). s.is_enum) h
      by None (Some y) h = absurd h
      by (Some x) None h = absurd h

  some_variant : (o p : Option Variant) → OptVariant L R o p → is_some o ≡ is_some p
  some_variant None None h = refl
  some_variant (Some x) (Some y) h = refl
  some_variant None (Some y) h = absurd h
  some_variant (Some x) None h = absurd h

  enum_variant_same : (n v : ℕ) → enum_variant L n v ≡ enum_variant R n v
  enum_variant_same n v = λ i. enum_opt n i && some_variant (variant_at L n v) (variant_at R n v) (variant_opt n v) i

  -- closures
  pub captures_opt : (n : ℕ) → ListsAlike L R (captures_of (slice_get L.closures n)) (captures_of (slice_get R.closures n))
  captures_opt n = by (slice_get L.closures n) (slice_get R.closures n) refl refl (both_at (closure_seen L) (closure_seen R) L.closures R.closures closures_same n)
    where
      by : (o p : Option ClosureDef) → slice_get L.closures n ≡ o → slice_get R.closures n ≡ p → Both (closure_seen L) (closure_seen R) o p → ListsAlike L R (captures_of o) (captures_of p)
      by None None e f h = tt
      by (Some x) (Some y) e f h =
          in_table x.captures y.captures (every_at (GoodClosure L (are_named left l)) L.closures n x (good_closures left l) e).captures
          (all_at (λ (d : ClosureDef). AreTypes R.types d.captures) R.closures n y ri.closures f) (ap (λ (s : List (List ℕ) × ℕ). s.0) h)
      by None (Some y) e f h = absurd h
      by (Some x) None e f h = absurd h

  -- methods
  sig_alike : (s t : Sig) → ExistL (s.result ∷ s.params) → IsSig R.types t → sig_seen L s ≡ sig_seen R t → SigAlike L R s t
  sig_alike s t exists is h = record {
    params = in_table s.params t.params exists.1 is.params (ap (λ (x : SigSeen). x.1) h);
    answer = record { left_exists = exists.0; right_exists = ex.table s.result t.result exists.0 is.answer (ap (λ (x : SigSeen). x.2) h); text = ap (λ (x : SigSeen). x.2) h };
  }

  pub methods_both : (xs ys : List Sig) → Every (GoodSig L (are_named left l)) xs → Every (IsSig R.types) ys → map (sig_seen L) xs ≡ map (sig_seen R) ys
      → (m : ℕ) → OptSig L R (slice_get xs m) (slice_get ys m)
  methods_both [] [] g k h m = tt
  methods_both [] (y ∷ ys) g k h m = absurd (cc)
  methods_both (x ∷ xs) [] g k h m = absurd (cc)
  methods_both (x ∷ xs) (y ∷ ys) g k h zero = sig_alike x y (g.0.answer, g.0.params) k.0 (first_same (sig_seen L x) (sig_seen R y) (map (sig_seen L) xs) (map (sig_seen R) ys) h)
  methods_both (x ∷ xs) (y ∷ ys) g k h (suc m) = methods_both xs ys g.1 k.1 (rest_same (sig_seen L x) (sig_seen R y) (map (sig_seen L) xs) (map (sig_seen R) ys) h) m

  pub record TraitPair (x y : TraitDef) : Type 0 where
    pub look : trait_seen L x ≡ trait_seen R y
    pub good : GoodTrait L (are_named left l) x
    pub is : Every (IsSig R.types) y.methods

  abbrev pub OptTrait : Option TraitDef → Option TraitDef → Type 0
  OptTrait None None = ⊤
  OptTrait (Some x) (Some y) = TraitPair x y
  OptTrait None (Some y) = ⊥
  OptTrait (Some x) None = ⊥

  pub trait_pair : (n : ℕ) → OptTrait (slice_get L.traits n) (slice_get R.traits n)
  trait_pair n = by (slice_get L.traits n) (slice_get R.traits n) refl refl (both_at (trait_seen L) (trait_seen R) L.traits R.traits traits_same n)
    where
      by : (o p : Option TraitDef) → slice_get L.traits n ≡ o → slice_get R.traits n ≡ p → Both (trait_seen L) (trait_seen R) o p → OptTrait o p
      by None None e f h = tt
      by (Some x) (Some y) e f h = record {
        look = h;
        good = every_at (GoodTrait L (are_named left l)) L.traits n x (good_traits left l) e;
        is = every_more R (IsMethod R.types n) (IsSig R.types) (λ s m. m.head) y.methods (every_from_all (IsMethod R.types n) y.methods (subst (AreMethods R.types n) f (ri.traits n)));
      }
      by None (Some y) e f h = absurd h
      by (Some x) None e f h = absurd h

  methods_opt : (n m : ℕ) → OptSig L R (method_at L n m) (method_at R n m)
  methods_opt n m = by (slice_get L.traits n) (slice_get R.traits n) (trait_pair n)
    where
      by : (o p : Option TraitDef) → OptTrait o p → OptSig L R (option_and_then (λ def. slice_get def.methods m) o) (option_and_then (λ def. slice_get def.methods m) p)
      by None None h = tt
      by (Some x) (Some y) h = methods_both x.methods y.methods h.good.methods h.is (ap (λ (s : List ℕ × List SigSeen). s.1) h.look) m
      by None (Some y) h = absurd h
      by (Some x) None h = absurd h

  -- signatures
  sig_exists : (n : ℕ) (body : Body) → slice_get left.bodies n ≡ Some body → (sig : Sig) → slice_get L.bodies n ≡ Some sig → ExistL (sig.result ∷ sig.params)
  sig_exists n body at sig is =
      let tested = subst (λ o. has_sig L (length left.bodies) body o ≡ true) is (sig_holds left l n body at) in
      let alike = (and_parts (length sig.params == body.params) _ tested).1 in
      ids_hold (λ id. ty_exists L id ≡ true) (take (suc body.params) body.locals) (sig.result ∷ sig.params) alike
      (every_take (λ id. ty_exists L id ≡ true) (suc body.params) body.locals (good_body left l n body at).locals)

  pub signature_opt : (n : ℕ) → nat_lt n (length left.bodies) ≡ true → OptSig L R (slice_get L.bodies n) (slice_get R.bodies n)
  signature_opt n lt =
      let (body, at) = found_at left.bodies n lt in
      by body at (slice_get right.bodies n) (subst (λ o. Both (body_seen L n) (body_seen R n) o (slice_get right.bodies n)) at (bodies_both n))
    where
      from : (body : Body) → slice_get left.bodies n ≡ Some body → (o p : Option Sig) → slice_get L.bodies n ≡ o → slice_get R.bodies n ≡ p → option_map (sig_seen L) o ≡ option_map (sig_seen R) p → OptSig L R o p
      from body at None None e f h = tt
      from body at (Some s) (Some t) e f h = sig_alike s t (sig_exists n body at s e) (all_at (IsSig R.types) R.bodies n t ri.bodies f) (same_Some (sig_seen L s) (sig_seen R t) h)
      from body at None (Some t) e f h = absurd (none-some (sig_seen R t) h)
      from body at (Some s) None e f h = absurd (none-some (sig_seen L s) (sym h))

      by : (body : Body) → slice_get left.bodies n ≡ Some body → (q : Option Body) → Both (body_seen L n) (body_seen R n) (Some body) q → OptSig L R (slice_get L.bodies n) (slice_get R.bodies n)
      by body at (Some other) h = from body at (slice_get L.bodies n) (slice_get R.bodies n) refl refl (ap (λ (s : BodySeen). s.signature) h)
      by body at None h = absurd h

  abbrev drop_seen : ℕ → AdtSeen → Bool
  drop_seen n s = option_map_or (nat_eq n) s.drop_body false

  any_seen : (items : ItemTable) (n : ℕ) (adts : List Adt) → list_any (is_drop_body_of n) adts ≡ list_any (drop_seen n) (map (adt_seen items) adts)
  any_seen items n [] = refl
  any_seen items n (x ∷ xs) = ap (λ (b : Bool). is_drop_body_of n x || b) (any_seen items n xs)

  drop_same : (n : ℕ) → is_drop_body L n ≡ is_drop_body R n
  drop_same n = any_seen L n L.adts ∙ ap (list_any (drop_seen n)) adts_same ∙ sym (any_seen R n R.adts)

  pub items_alike : ItemsAlike L R (length left.bodies)
  items_alike = record {
    held = record { fields = fields_opt; enums = enum_opt; captures = captures_opt };
    types = types_alike L R forms;
    ids = ids_alike;
    variants = variant_opt;
    enums = enum_variant_same;
    methods = methods_opt;
    signatures = signature_opt;
    drops = drop_same;
    impls = impls_same;
  }
