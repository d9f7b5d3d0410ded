-- How a type is written where those in it have smaller numbers: whatever depth is allowed beyond its own, and whatever types come later.
use Rattle.std.proofs.Common.{◌≡◌, ℕ, zero, suc, ◌-◌, ◌<◌, ◌≤◌, List, [], ◌∷◌, ◌++◌, map, length, codes, Option, Some, None, All, decimal, slice_get, refl, ap, sym, subst, ◌∙◌, arith, length-append, append_assoc, append-nil, inl, inr}
use Rattle.std.specs.Prelude.{◌⊎◌, Contains}
use Rattle.std.proofs.lemmas.Option.{same_Some, slice_get_within}
use Rattle.std.proofs.lemmas.Bool.{cases_lt}
use Rattle.mir_ty.specs.declared.ty.Ty.{Ty}
use Rattle.mir_ty.specs.declared.ty.TyId.{TyId}
use Rattle.mir_ty.specs.AreItems.{types_in}
use Rattle.mir_ty.specs.ItemTable.{ItemTable, type_at, with_type, Interns}
use Rattle.listing_write.specs.Types.{tuple_text, form_text, found_text, type_within, type_text, deepest}
use Rattle.listing_write.proofs.Reading.Basics.{Every}
use Rattle.listing_parts.specs.Table.{MayStand, AreRead, WithTypes, Grow, under, text_under}

pub every_from_all : {X : Type 0} (P : X → Type 0) (xs : List X) → All P xs → Every P xs
every_from_all P [] h = tt
every_from_all P (x ∷ xs) h = (h 0 x (omega arith), every_from_all P xs (λ k d lt. h (suc k) d (omega arith)))

pub every_more : {X : Type 0} (P Q : X → Type 0) → ((x : X) → P x → Q x) → (xs : List X) → Every P xs → Every Q xs
every_more P Q up [] h = tt
every_more P Q up (x ∷ xs) h = (up x h.0, every_more P Q up xs h.1)

pub map_alike : (f g : TyId → List ℕ) (ids : List TyId) → Every (λ id. f id ≡ g id) ids → map f ids ≡ map g ids
map_alike f g [] h = refl
map_alike f g (id ∷ ids) h = λ i. h.0 i ∷ map_alike f g ids h.1 i

-- items of the same names
form_alike : (items : ItemTable) (f g : TyId → List ℕ) (ty : Ty) → Every (λ id. f id ≡ g id) (types_in ty) → form_text items f ty ≡ form_text items g ty
form_alike items f g (Ty.Tuple parts) h = ap tuple_text (map_alike f g parts h)
form_alike items f g (Ty.Array element count) h = ap (λ (w : List ℕ). codes "[" ++ w ++ codes "; " ++ decimal count ++ codes "]") h.0
form_alike items f g (Ty.Boxed inside) h = ap (λ (w : List ℕ). codes "Box<" ++ w ++ codes ">") h.0
form_alike items f g (Ty.Shared to) h = ap (λ (w : List ℕ). codes "&" ++ w) h.0
form_alike items f g (Ty.Unique to) h = ap (λ (w : List ℕ). codes "&mut " ++ w) h.0
form_alike items f g _ h = refl

module _ (heads items : ItemTable) (read : AreRead heads items.types) where
  parts_below : (id : TyId) (ty : Ty) → type_at items id ≡ Some ty → Every (λ part. part.0 < id.0) (types_in ty)
  parts_below id ty is = every_from_all (λ part. part.0 < id.0) (types_in ty) (read id.0 ty is).below

  -- whatever depth is allowed
  stable : (d e : ℕ) (id : TyId) → id.0 < d → id.0 < e → type_within (under heads items) d id ≡ type_within (under heads items) e id
  stable zero e id a b = absurd (omega arith)
  stable (suc d) zero id a b = absurd (omega arith)
  stable (suc d) (suc e) id a b = by (type_at items id) refl (λ part h. stable d e part (omega arith) (omega arith))
    where
      by : (o : Option Ty) → type_at items id ≡ o → ((part : TyId) → part.0 < id.0 → type_within (under heads items) d part ≡ type_within (under heads items) e part)
          → type_within (under heads items) (suc d) id ≡ type_within (under heads items) (suc e) id
      by None is deeper = rw is refl
      by (Some ty) is deeper =
          rw is (form_alike (under heads items) (type_within (under heads items) d) (type_within (under heads items) e) ty
          (every_more (λ part. part.0 < id.0) (λ part. type_within (under heads items) d part ≡ type_within (under heads items) e part) deeper (types_in ty) (parts_below id ty is)))

  -- a type is written by its form
  pub text_of : (id : TyId) (ty : Ty) → id.0 < deepest → type_at items id ≡ Some ty → text_under heads items id ≡ form_text (under heads items) (text_under heads items) ty
  unfolding type_text
  text_of id ty short is =
      ap (found_text (under heads items) (type_within (under heads items) (deepest - 1))) is
      ∙ form_alike (under heads items) (type_within (under heads items) (deepest - 1)) (type_within (under heads items) deepest) ty
      (every_more (λ part. part.0 < id.0) (λ part. type_within (under heads items) (deepest - 1) part ≡ type_within (under heads items) deepest part)
      (λ part h. stable (deepest - 1) deepest part (omega arith) (omega arith)) (types_in ty) (parts_below id ty is))

-- more types come behind
pub at_front : {X : Type 0} (xs ys : List X) (i : ℕ) → i < length xs → slice_get (xs ++ ys) i ≡ slice_get xs i
at_front [] ys i h = absurd (omega arith)
at_front (x ∷ xs) ys zero h = refl
at_front (x ∷ xs) ys (suc i) h = at_front xs ys i (omega arith)

pub at_seam : {X : Type 0} (xs : List X) (x : X) → slice_get (xs ++ x ∷ []) (length xs) ≡ Some x
at_seam [] x = refl
at_seam (y ∷ xs) x = at_seam xs x

pub grown_types : (old new : ItemTable) (others : WithTypes old new) → new.types ≡ old.types ++ others.more
grown_types old new others = ap (λ (items : ItemTable). items.types) others.is

pub no_less : (old new : ItemTable) → WithTypes old new → length old.types ≤ length new.types
no_less old new others = omega (arith, ap length (grown_types old new others), length-append old.types others.more)

pub still_there : (old new : ItemTable) → WithTypes old new → (id : TyId) → id.0 < length old.types → type_at new id ≡ type_at old id
still_there old new others id h = ap (λ (types : List Ty). slice_get types id.0) (grown_types old new others) ∙ at_front old.types others.more id.0 h

module _ (heads old new : ItemTable) (read : AreRead heads old.types) (others : WithTypes old new) where
  within_grown : (d : ℕ) (id : TyId) → id.0 < length old.types → type_within (under heads new) d id ≡ type_within (under heads old) d id
  within_grown zero id h = refl
  within_grown (suc d) id h = by (type_at old id) refl (within_grown d)
    where
      by : (o : Option Ty) → type_at old id ≡ o → ((part : TyId) → part.0 < length old.types → type_within (under heads new) d part ≡ type_within (under heads old) d part)
          → type_within (under heads new) (suc d) id ≡ type_within (under heads old) (suc d) id
      by None is deeper = ap (found_text (under heads new) (type_within (under heads new) d)) (still_there old new others id h ∙ is) ∙ sym (ap (found_text (under heads old) (type_within (under heads old) d)) is)
      by (Some ty) is deeper =
          ap (found_text (under heads new) (type_within (under heads new) d)) (still_there old new others id h ∙ is)
          ∙ form_alike (under heads old) (type_within (under heads new) d) (type_within (under heads old) d) ty
          (every_more (λ part. part.0 < id.0) (λ part. type_within (under heads new) d part ≡ type_within (under heads old) d part)
          (λ part k. deeper part (omega arith)) (types_in ty) (parts_below heads old read id ty is))
          ∙ sym (ap (found_text (under heads old) (type_within (under heads old) d)) is)

  -- a type that was there is written as it was
  pub text_grown : (id : TyId) → id.0 < length old.types → text_under heads new id ≡ text_under heads old id
  unfolding type_text
  text_grown id h = within_grown deepest id h

  pub texts_grown : (ids : List TyId) → Every (λ id. id.0 < length old.types) ids → map (text_under heads new) ids ≡ map (text_under heads old) ids
  texts_grown [] h = refl
  texts_grown (id ∷ ids) h = λ i. text_grown id h.0 i ∷ texts_grown ids h.1 i

-- a type more
pub same_types : (items : ItemTable) → WithTypes items items
same_types items = record { more = []; is = λ i. record items { types = sym (append-nil items.types) i } }

pub then_types : (a b c : ItemTable) → WithTypes a b → WithTypes b c → WithTypes a c
then_types a b c left right = record {
  more = left.more ++ right.more;
  is =
      right.is ∙ (λ i. record (left.is i) { types = grown_types a b left i ++ right.more })
      ∙ (λ i. record a { types = append_assoc a.types left.more right.more i });
}

read_more : (heads : ItemTable) (types : List Ty) (ty : Ty) → AreRead heads types → MayStand heads (length types) ty → AreRead heads (types ++ ty ∷ [])
read_more heads types ty read new n other is = by (cases_lt n (length types))
  where
    by : (n < length types) ⊎ (length types ≤ n) → MayStand heads n other
    by (inl h) = read n other (sym (at_front types (ty ∷ []) n h) ∙ is)
    by (inr h) =
        let within : n < length (types ++ ty ∷ []) = slice_get_within (types ++ ty ∷ []) n other is in
        let same : n ≡ length types = omega (arith, length-append types (ty ∷ [])) in
        let one : ty ≡ other = same_Some ty other (sym (at_seam types ty) ∙ sym (ap (slice_get (types ++ ty ∷ [])) same) ∙ is) in
        subst (λ (m : ℕ). MayStand heads m other) (sym same) (subst (λ (t : Ty). MayStand heads (length types) t) one new)

-- a type that was given a number
module _ (heads old new : ItemTable) (ty : Ty) (id : TyId) (read : AreRead heads old.types) (may : MayStand heads (length old.types) ty) (given : Interns old ty new id) where
  pub interned_grow : Grow heads old new
  interned_grow = by given.1
    where
      by : (new ≡ old) ⊎ ((¬ Contains old.types ty) × (id.0 ≡ length old.types) × (new ≡ with_type old ty)) → Grow heads old new
      by (inl same) = record { types = subst (λ (items : ItemTable). AreRead heads items.types) (sym same) read; others = subst (WithTypes old) (sym same) (same_types old) }
      by (inr more) = record {
        types = subst (λ (items : ItemTable). AreRead heads items.types) (sym more.2) (read_more heads old.types ty read may);
        others = record { more = ty ∷ []; is = more.2 };
      }

  pub interned_within : id.0 < length new.types
  interned_within = slice_get_within new.types id.0 ty given.0

  pub interned_text : length new.types < deepest → text_under heads new id ≡ form_text (under heads old) (text_under heads old) ty
  interned_text short =
      text_of heads new interned_grow.types id ty (omega (arith, interned_within)) given.0
      ∙ form_alike (under heads old) (text_under heads new) (text_under heads old) ty
      (every_more (λ part. part.0 < length old.types) (λ part. text_under heads new part ≡ text_under heads old part)
      (text_grown heads old new read interned_grow.others) (types_in ty) (every_from_all (λ part. part.0 < length old.types) (types_in ty) may.below))
