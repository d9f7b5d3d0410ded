-- What is asked of types, places and operands has one answer in two graphs whose types are written alike.
use Rattle.std.proofs.Common.{◌≡◌, ℕ, zero, suc, Bool, true, false, ◌&&◌, ◌||◌, ◌==◌, if◌then◌else◌, List, [], ◌∷◌, replicate, Option, Some, None, slice_get, refl, sym, subst, ◌∙◌}
use Rattle.std.specs.Prelude.{⊤, option_and_then}
use Rattle.mir_base.specs.declared.int_kind.IntKind.{IntKind}
use Rattle.mir_ty.specs.declared.ty.Ty.{Ty}
use Rattle.mir_ty.specs.declared.ty.TyId.{TyId}
use Rattle.mir_ty.specs.ItemTable.{ItemTable, type_at}
use Rattle.mir_ty.specs.Parts.{fields_of, variants_of, captures_of, parts_of}
use Rattle.store_model.specs.Places.Place as plain
use Rattle.store_model.specs.Places.Place.{is_enum, part_if, unless_enum, content_of, element_of, step_ty, ty_along, place_ty, ToPart, ToField, ToContent, ToElement}
use Rattle.store_model.specs.Places.TypeForms.{is_int, is_bool, is_unit, is_dyn, is_dyn_of, is_adt, is_closure, same_int, are_compared, is_signed, adt_of, tuple_parts, box_content, referent}
use Rattle.cfg_graph.specs.declared.place.Place.{Place}
use Rattle.cfg_graph.specs.declared.place.Operand.{Operand}
use Rattle.cfg_graph.specs.Places.{named, place_id, ty_of_place, ty_of_operand}
use Rattle.listing_write.proofs.Reading.Alike.{TyAlike, ListsAlike, Alike, int, bool, unit, adt, tuple, array, boxed, object, shared, unique, closure}

pub bool_iff : (p q : Bool) → (p ≡ true → q ≡ true) → (q ≡ true → p ≡ true) → p ≡ q
bool_iff true true f g = refl
bool_iff false false f g = refl
bool_iff true false f g = sym (f refl)
bool_iff false true f g = g refl

module _ (left right : ItemTable) where
  abbrev pub OptTy : Option Ty → Option Ty → Type 0
  OptTy None None = ⊤
  OptTy (Some s) (Some t) = Alike left right s t
  OptTy None (Some t) = ⊥
  OptTy (Some s) None = ⊥

  abbrev pub OptId : Option TyId → Option TyId → Type 0
  OptId None None = ⊤
  OptId (Some a) (Some b) = TyAlike left right a b
  OptId None (Some b) = ⊥
  OptId (Some a) None = ⊥

  abbrev pub OptIds : Option (List TyId) → Option (List TyId) → Type 0
  OptIds None None = ⊤
  OptIds (Some xs) (Some ys) = ListsAlike left right xs ys
  OptIds None (Some ys) = ⊥
  OptIds (Some xs) None = ⊥

  blind : {B : Type 0} (F : Option Ty → B) → ((s t : Ty) → Alike left right s t → F (Some s) ≡ F (Some t)) → (x y : Option Ty) → OptTy x y → F x ≡ F y
  blind F f None None h = refl
  blind F f (Some s) (Some t) h = f s t h
  blind F f None (Some t) h = absurd h
  blind F f (Some s) None h = absurd h

  pub int_alike : (kind : IntKind) (x y : Option Ty) → OptTy x y → is_int kind x ≡ is_int kind y
  int_alike kind = blind (is_int kind) by
    where
      by : (s t : Ty) → Alike left right s t → is_int kind (Some s) ≡ is_int kind (Some t)
      by s t (int k) = refl
      by s t _ = refl

  pub bool_alike : (x y : Option Ty) → OptTy x y → is_bool x ≡ is_bool y
  bool_alike = blind is_bool by
    where
      by : (s t : Ty) → Alike left right s t → is_bool (Some s) ≡ is_bool (Some t)
      by s t bool = refl
      by s t _ = refl

  pub unit_alike : (x y : Option Ty) → OptTy x y → is_unit x ≡ is_unit y
  unit_alike = blind is_unit by
    where
      by : (s t : Ty) → Alike left right s t → is_unit (Some s) ≡ is_unit (Some t)
      by s t unit = refl
      by s t _ = refl

  pub dyn_alike : (x y : Option Ty) → OptTy x y → is_dyn x ≡ is_dyn y
  dyn_alike = blind is_dyn by
    where
      by : (s t : Ty) → Alike left right s t → is_dyn (Some s) ≡ is_dyn (Some t)
      by s t (object n) = refl
      by s t _ = refl

  pub dyn_of_alike : (n : ℕ) (x y : Option Ty) → OptTy x y → is_dyn_of n x ≡ is_dyn_of n y
  dyn_of_alike n = blind (is_dyn_of n) by
    where
      by : (s t : Ty) → Alike left right s t → is_dyn_of n (Some s) ≡ is_dyn_of n (Some t)
      by s t (object m) = refl
      by s t _ = refl

  pub adt_alike : (n : ℕ) (x y : Option Ty) → OptTy x y → is_adt n x ≡ is_adt n y
  adt_alike n = blind (is_adt n) by
    where
      by : (s t : Ty) → Alike left right s t → is_adt n (Some s) ≡ is_adt n (Some t)
      by s t (adt m) = refl
      by s t _ = refl

  pub closure_alike : (n : ℕ) (x y : Option Ty) → OptTy x y → is_closure n x ≡ is_closure n y
  closure_alike n = blind (is_closure n) by
    where
      by : (s t : Ty) → Alike left right s t → is_closure n (Some s) ≡ is_closure n (Some t)
      by s t (closure m) = refl
      by s t _ = refl

  pub adt_of_alike : (x y : Option Ty) → OptTy x y → adt_of x ≡ adt_of y
  adt_of_alike = blind adt_of by
    where
      by : (s t : Ty) → Alike left right s t → adt_of (Some s) ≡ adt_of (Some t)
      by s t (adt n) = refl
      by s t _ = refl

  pub same_int_alike : (x y u v : Option Ty) → OptTy x y → OptTy u v → same_int x u ≡ same_int y v
  same_int_alike x y u v h k = blind (λ o. same_int o u) by x y h ∙ last y
    where
      by : (s t : Ty) → Alike left right s t → same_int (Some s) u ≡ same_int (Some t) u
      by s t (int kind) = refl
      by s t _ = refl

      last : (y : Option Ty) → same_int y u ≡ same_int y v
      last None = refl
      last (Some (Ty.Int kind)) = int_alike kind u v k
      last (Some _) = refl

  pub signed_alike : (x y : Option Ty) → OptTy x y → is_signed x ≡ is_signed y
  signed_alike x y h = λ i. int_alike IntKind.I32 x y h i || int_alike IntKind.I64 x y h i

  pub compared_alike : (x y u v : Option Ty) → OptTy x y → OptTy u v → are_compared x u ≡ are_compared y v
  compared_alike x y u v h k = λ i. same_int_alike x y u v h k i || (bool_alike x y h i && bool_alike u v k i)

  pub content_alike : (x y : Option Ty) → OptTy x y → OptId (box_content x) (box_content y)
  content_alike None None h = tt
  content_alike (Some s) (Some t) h = by s t h
    where
      by : (s t : Ty) → Alike left right s t → OptId (box_content (Some s)) (box_content (Some t))
      by s t (boxed h) = h
      by s t _ = tt
  content_alike None (Some t) h = absurd h
  content_alike (Some s) None h = absurd h

  pub referent_alike : (unique : Bool) (x y : Option Ty) → OptTy x y → OptId (referent unique x) (referent unique y)
  referent_alike u None None h = none_of u
    where
      none_of : (u : Bool) → OptId (referent u None) (referent u None)
      none_of true = tt
      none_of false = tt
  referent_alike u (Some s) (Some t) h = by u s t h
    where
      by : (u : Bool) (s t : Ty) → Alike left right s t → OptId (referent u (Some s)) (referent u (Some t))
      by true s t (unique h) = h
      by false s t (shared h) = h
      by true s t _ = tt
      by false s t _ = tt
  referent_alike u None (Some t) h = absurd h
  referent_alike u (Some s) None h = absurd h

  pub tuple_alike : (x y : Option Ty) → OptTy x y → OptIds (tuple_parts x) (tuple_parts y)
  tuple_alike None None h = tt
  tuple_alike (Some s) (Some t) h = by s t h
    where
      by : (s t : Ty) → Alike left right s t → OptIds (tuple_parts (Some s)) (tuple_parts (Some t))
      by s t (tuple h) = h
      by s t _ = tt
  tuple_alike None (Some t) h = absurd h
  tuple_alike (Some s) None h = absurd h

  pub slice_alike : (xs ys : List TyId) → ListsAlike left right xs ys → (n : ℕ) → OptId (slice_get xs n) (slice_get ys n)
  slice_alike [] [] h n = tt
  slice_alike [] (y ∷ ys) h n = absurd h
  slice_alike (x ∷ xs) [] h n = absurd h
  slice_alike (x ∷ xs) (y ∷ ys) h zero = h.0
  slice_alike (x ∷ xs) (y ∷ ys) h (suc n) = slice_alike xs ys h.1 n

  replicate_alike : (a b : TyId) → TyAlike left right a b → (n : ℕ) → ListsAlike left right (replicate n a) (replicate n b)
  replicate_alike a b h zero = tt
  replicate_alike a b h (suc n) = (h, replicate_alike a b h n)

  if_alike : (t : Bool) (xs ys : List TyId) → ListsAlike left right xs ys → ListsAlike left right (if t then xs else []) (if t then ys else [])
  if_alike true xs ys h = h
  if_alike false xs ys h = tt

  unless_alike : (e : Bool) (x y : Option TyId) → OptId x y → OptId (unless_enum e x) (unless_enum e y)
  unless_alike true x y h = tt
  unless_alike false x y h = h

  part_alike : (e : Bool) (x y : Option TyId) → OptId x y → OptId (part_if e x) (part_if e y)
  part_alike true x y h = h
  part_alike false x y h = tt

  -- the two have alike structs, enums and closures
  pub record HeldAlike : Type 0 where
    pub fields : (n v : ℕ) → ListsAlike left right (fields_of (slice_get (variants_of (slice_get left.adts n)) v)) (fields_of (slice_get (variants_of (slice_get right.adts n)) v))
    pub enums : (n : ℕ) → is_enum left (Ty.Adt n) ≡ is_enum right (Ty.Adt n)
    pub captures : (n : ℕ) → ListsAlike left right (captures_of (slice_get left.closures n)) (captures_of (slice_get right.closures n))

  module _ (held : HeldAlike) where
    parts_alike : (s t : Ty) → Alike left right s t → (v : ℕ) → ListsAlike left right (parts_of left s v) (parts_of right t v)
    parts_alike s t (adt n) v = held.fields n v
    parts_alike s t (tuple {xs = xs} {ys = ys} h) v = if_alike (v == 0) xs ys h
    parts_alike s t (array {a = a} {b = b} h count) v = if_alike (v == 0) (replicate count a) (replicate count b) (replicate_alike a b h count)
    parts_alike s t (closure n) v = if_alike (v == 0) (captures_of (slice_get left.closures n)) (captures_of (slice_get right.closures n)) (held.captures n)
    parts_alike s t _ v = tt

    enum_alike : (s t : Ty) → Alike left right s t → is_enum left s ≡ is_enum right t
    enum_alike s t (adt n) = held.enums n
    enum_alike s t _ = refl

    step_alike : (step : plain.Step) (s t : Ty) → Alike left right s t → OptId (step_ty left step s) (step_ty right step t)
    step_alike (ToPart n) s t h =
        subst (λ e. OptId (unless_enum (is_enum left s) (slice_get (parts_of left s 0) n)) (unless_enum e (slice_get (parts_of right t 0) n))) (enum_alike s t h)
        (unless_alike (is_enum left s) (slice_get (parts_of left s 0) n) (slice_get (parts_of right t 0) n) (slice_alike (parts_of left s 0) (parts_of right t 0) (parts_alike s t h 0) n))
    step_alike (ToField v n) s t h =
        subst (λ e. OptId (part_if (is_enum left s) (slice_get (parts_of left s v) n)) (part_if e (slice_get (parts_of right t v) n))) (enum_alike s t h)
        (part_alike (is_enum left s) (slice_get (parts_of left s v) n) (slice_get (parts_of right t v) n) (slice_alike (parts_of left s v) (parts_of right t v) (parts_alike s t h v) n))
    step_alike ToContent s t h = by s t h
      where
        by : (s t : Ty) → Alike left right s t → OptId (content_of s) (content_of t)
        by s t (boxed h) = h
        by s t (shared h) = h
        by s t (unique h) = h
        by s t _ = tt
    step_alike (ToElement i) s t h = by s t h
      where
        by : (s t : Ty) → Alike left right s t → OptId (element_of s) (element_of t)
        by s t (array h count) = h
        by s t _ = tt

    module _ (alike : (a b : TyId) → TyAlike left right a b → OptTy (type_at left a) (type_at right b)) where
      pub at_alike : (x y : Option TyId) → OptId x y → OptTy (option_and_then (type_at left) x) (option_and_then (type_at right) y)
      at_alike None None h = tt
      at_alike (Some a) (Some b) h = alike a b h
      at_alike None (Some b) h = absurd h
      at_alike (Some a) None h = absurd h

      taken : (step : plain.Step) (x y : Option Ty) → OptTy x y → OptId (option_and_then (step_ty left step) x) (option_and_then (step_ty right step) y)
      taken step None None h = tt
      taken step (Some s) (Some t) h = step_alike step s t h
      taken step None (Some t) h = absurd h
      taken step (Some s) None h = absurd h

      along_alike : (steps : List plain.Step) (a b : TyId) → TyAlike left right a b → OptId (ty_along left steps a) (ty_along right steps b)
      along_alike [] a b h = h
      along_alike (step ∷ steps) a b h =
          go (option_and_then (step_ty left step) (type_at left a)) (option_and_then (step_ty right step) (type_at right b)) (taken step (type_at left a) (type_at right b) (alike a b h)) (along_alike steps)
        where
          go : (x y : Option TyId) → OptId x y → ((a b : TyId) → TyAlike left right a b → OptId (ty_along left steps a) (ty_along right steps b))
              → OptId (option_and_then (ty_along left steps) x) (option_and_then (ty_along right steps) y)
          go None None h on = tt
          go (Some a) (Some b) h on = on a b h
          go None (Some b) h on = absurd h
          go (Some a) None h on = absurd h

      module _ (locals others : List TyId) (stand : ListsAlike left right locals others) where
        pub place_alike : (place : Place) → OptId (place_id left locals place) (place_id right others place)
        place_alike place = go (slice_get locals place.local) (slice_get others place.local) (slice_alike locals others stand place.local)
          where
            go : (x y : Option TyId) → OptId x y → OptId (option_and_then (ty_along left (named place).steps) x) (option_and_then (ty_along right (named place).steps) y)
            go None None h = tt
            go (Some a) (Some b) h = along_alike (named place).steps a b h
            go None (Some b) h = absurd h
            go (Some a) None h = absurd h

        pub of_place : (place : Place) → OptTy (ty_of_place left locals place) (ty_of_place right others place)
        of_place place = at_alike (place_id left locals place) (place_id right others place) (place_alike place)

        pub of_operand : (operand : Operand) → OptTy (ty_of_operand left locals operand) (ty_of_operand right others operand)
        of_operand (Operand.Copied place) = of_place place
        of_operand (Operand.Moved place) = of_place place
        of_operand (Operand.Number value kind) = int kind
        of_operand (Operand.Truth value) = bool
        of_operand Operand.Unit = unit
