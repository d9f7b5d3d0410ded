-- In two graphs whose types are written alike, the same types misplace `dyn`, and the same structs, enums and closures hold themselves.
use Rattle.std.proofs.Common.{◌≡◌, ◌⊎◌, inl, inr, ⊎_elim, ℕ, zero, suc, ◌≤◌, Bool, true, false, not, ◌&&◌, ◌||◌, List, [], ◌∷◌, length, Option, Some, slice_get, Contains, refl, ap, sym, subst, ◌∙◌, arith}
use Rattle.std.specs.List.{list_any}
use Rattle.std.specs.Option.{option_map_or}
use Rattle.std.proofs.lemmas.Bool.{false≢true}
use Rattle.std.proofs.lemmas.Option.{none-some, same_Some}
use Rattle.mir_ty.proofs.ListLemmas.{Contains-slice_get, slice_get-Contains}
use Rattle.mir_ty.specs.declared.ty.Ty.{Ty}
use Rattle.mir_ty.specs.declared.ty.TyId.{TyId}
use Rattle.mir_ty.specs.AreItems.{types_in}
use Rattle.mir_ty.specs.Facts.{in_rounds}
use Rattle.mir_ty.specs.ItemTable.{ItemTable, type_at}
use Rattle.mir_ty.specs.Parts.{held_by, captures_of, Holds, at_once, within}
use Rattle.cfg_graph.specs.WellFormed.TypeFaults.{ty_exists, existing, misplacing, misplaces_dyn, unless_dyn, HoldsItself}
use Rattle.listing_write.specs.Types.{type_text}
use Rattle.listing_write.proofs.Reading.Basics.{Every}
use Rattle.listing_write.proofs.Reading.Types.{IsShown, shown_parts, every_of}
use Rattle.listing_write.proofs.Reading.Alike.{TyAlike, ListsAlike, Alike, FormsAlike, int, bool, unit, never, adt, tuple, array, boxed, object, shared, unique, closure}
use Rattle.listing_write.proofs.Reading.Tested.{OptTy, dyn_alike}

module _ (left right : ItemTable) (forms : (a b : TyId) → TyAlike left right a b → FormsAlike left right a b) where
  pub types_alike : (a b : TyId) → TyAlike left right a b → OptTy left right (type_at left a) (type_at right b)
  types_alike a b h =
      let f = forms a b h in
      subst (λ x. OptTy left right x (type_at right b)) (sym f.left_is) (subst (λ y. OptTy left right (Some f.s) y) (sym f.right_is) f.alike)

  -- `dyn` in a wrong place
  abbrev lm : ℕ → TyId → Bool
  lm m = in_rounds left.types (misplacing left) m

  abbrev rm : ℕ → TyId → Bool
  rm n = in_rounds right.types (misplacing right) n

  Misplaced : ℕ → ℕ → ℕ → ℕ → Type 0
  Misplaced k j m n = (a b : TyId) → IsShown left k a → IsShown right j b → TyAlike left right a b → lm m a ≡ rm n b

  module _ (k j m n : ℕ) (ih : (a b : TyId) → IsShown left k a → IsShown right j b → TyAlike left right a b → lm m a ≡ rm n b) where
    any_misplaced : (xs ys : List TyId) → Every (IsShown left k) xs → Every (IsShown right j) ys → ListsAlike left right xs ys → list_any (lm m) xs ≡ list_any (rm n) ys
    any_misplaced [] [] p q h = refl
    any_misplaced [] (y ∷ ys) p q h = absurd h
    any_misplaced (x ∷ xs) [] p q h = absurd h
    any_misplaced (x ∷ xs) (y ∷ ys) p q h = λ i. ih x y p.0 q.0 h.0 i || any_misplaced xs ys p.1 q.1 h.1 i

    behind_mark : (a b : TyId) → IsShown left k a → IsShown right j b → TyAlike left right a b → unless_dyn left (lm m) a ≡ unless_dyn right (rm n) b
    behind_mark a b p q h = λ i. not (dyn_alike left right (type_at left a) (type_at right b) (types_alike a b h) i) && ih a b p q h i

    ty_misplaced : (s t : Ty) → Alike left right s t → Every (IsShown left k) (types_in s) → Every (IsShown right j) (types_in t) → misplacing left (lm m) s ≡ misplacing right (rm n) t
    ty_misplaced s t (object i) p q = refl
    ty_misplaced s t (boxed {a = a} {b = b} h) p q = behind_mark a b p.0 q.0 h
    ty_misplaced s t (shared {a = a} {b = b} h) p q = behind_mark a b p.0 q.0 h
    ty_misplaced s t (unique {a = a} {b = b} h) p q = behind_mark a b p.0 q.0 h
    ty_misplaced s t (tuple {xs = xs} {ys = ys} h) p q = any_misplaced xs ys p q h
    ty_misplaced s t (array {a = a} {b = b} h count) p q = any_misplaced (a ∷ []) (b ∷ []) p q (h, tt)
    ty_misplaced s t (int kind) p q = refl
    ty_misplaced s t bool p q = refl
    ty_misplaced s t unit p q = refl
    ty_misplaced s t never p q = refl
    ty_misplaced s t (adt i) p q = refl
    ty_misplaced s t (closure i) p q = refl

  misplaced_within : (k j m n : ℕ) → k ≤ m → j ≤ n → (a b : TyId) → IsShown left k a → IsShown right j b → TyAlike left right a b → lm m a ≡ rm n b
  misplaced_within zero j m n x y a b p q h = absurd (false≢true p)
  misplaced_within (suc k) zero m n x y a b p q h = absurd (false≢true q)
  misplaced_within (suc k) (suc j) zero n x y a b p q h = absurd (omega arith)
  misplaced_within (suc k) (suc j) (suc m) zero x y a b p q h = absurd (omega arith)
  misplaced_within (suc k) (suc j) (suc m) (suc n) x y a b p q h =
      let (s, is, own, sparts) = shown_parts left k a p in
      let (t, at, other, tparts) = shown_parts right j b q in
      let f = forms a b h in
      let one : f.s ≡ s = same_Some f.s s (sym f.left_is ∙ is) in
      let two : f.t ≡ t = same_Some f.t t (sym f.right_is ∙ at) in
      let low : k ≤ m = omega arith in
      let low_too : j ≤ n = omega arith in
      let here : misplacing left (lm m) s ≡ misplacing right (rm n) t =
      ty_misplaced k j m n (misplaced_within k j m n low low_too) s t (subst (λ u. Alike left right u t) one (subst (λ u. Alike left right f.s u) two f.alike))
      (every_of (in_rounds left.types (existing left) k) (types_in s) sparts) (every_of (in_rounds right.types (existing right) j) (types_in t) tparts) in
      ap (λ (o : Option Ty). option_map_or (misplacing left (lm m)) o false) is ∙ here ∙ sym (ap (λ (o : Option Ty). option_map_or (misplacing right (rm n)) o false) at)

  pub misplaced_alike : (a b : TyId) → TyAlike left right a b → misplaces_dyn left a ≡ misplaces_dyn right b
  misplaced_alike a b h =
      misplaced_within (length left.types) (length right.types) (length left.types) (length right.types) (omega arith) (omega arith) a b h.left_exists h.right_exists h

  pub none_misplaced : (xs ys : List TyId) → ListsAlike left right xs ys → list_any (misplaces_dyn left) xs ≡ list_any (misplaces_dyn right) ys
  none_misplaced [] [] h = refl
  none_misplaced [] (y ∷ ys) h = absurd h
  none_misplaced (x ∷ xs) [] h = absurd h
  none_misplaced (x ∷ xs) (y ∷ ys) h = λ i. misplaced_alike x y h.0 i || none_misplaced xs ys h.1 i

  -- what holds itself
  module _ (fields : (n : ℕ) → ListsAlike left right (held_by left (Ty.Adt n)) (held_by right (Ty.Adt n)))
      (captures : (n : ℕ) → ListsAlike left right (captures_of (slice_get left.closures n)) (captures_of (slice_get right.closures n)))
      (one : (a b : TyId) → ty_exists left a ≡ true → ty_exists left b ≡ true → type_text left a ≡ type_text left b → a ≡ b) where
    held_alike : (s t : Ty) → Alike left right s t → ListsAlike left right (held_by left s) (held_by right t)
    held_alike s t (adt n) = fields n
    held_alike s t (tuple h) = h
    held_alike s t (array h count) = (h, tt)
    held_alike s t (closure n) = captures n
    held_alike s t _ = tt

    -- one of a list has one written alike in the other
    abbrev Among : List TyId → TyId → Type 0
    Among xs b = (k : ℕ) × (a : TyId) × (slice_get xs k ≡ Some a) × TyAlike left right a b

    among : (xs ys : List TyId) → ListsAlike left right xs ys → (k : ℕ) (b : TyId) → slice_get ys k ≡ Some b → Among xs b
    among [] [] h k b e = absurd (none-some b e)
    among [] (y ∷ ys) h k b e = absurd h
    among (x ∷ xs) [] h k b e = absurd h
    among (x ∷ xs) (y ∷ ys) h zero b e = (0, x, refl, subst (TyAlike left right x) (same_Some y b e) h.0)
    among (x ∷ xs) (y ∷ ys) h (suc k) b e = let (i, a, is, alike) = among xs ys h.1 k b e in (suc i, a, is, alike)

    -- what a type of the one holds, a type of the other holds that is written alike
    abbrev HeldToo : TyId → TyId → Type 0
    HeldToo a c = (d : TyId) × Holds left a d × TyAlike left right d c

    at_once_too : (a b c : TyId) (ty : Ty) → TyAlike left right a b → type_at right b ≡ Some ty → Contains (held_by right ty) c → HeldToo a c
    at_once_too a b c ty h is inside =
        let f = forms a b h in
        let same : f.t ≡ ty = same_Some f.t ty (sym f.right_is ∙ is) in
        let lists = subst (λ t. ListsAlike left right (held_by left f.s) (held_by right t)) same (held_alike f.s f.t f.alike) in
        let (k, d, at, alike) = among (held_by left f.s) (held_by right ty) lists inside.0 c (slice_get-Contains (held_by right ty) c inside) in
        (d, at_once f.left_is (Contains-slice_get (held_by left f.s) k d at), alike)

    held_too : (b c : TyId) → Holds right b c → (a : TyId) → TyAlike left right a b → HeldToo a c
    held_too b c (at_once {ty = ty} is inside) a h = at_once_too a b c ty h is inside
    held_too b c (within {b = m} bm mc) a h =
        let (d, holds, alike) = held_too b m bm a h in
        let (e, on, last) = held_too m c mc d alike in
        (e, within holds on, last)

    -- the first of what lies on the way
    abbrev First : TyId → TyId → Type 0
    First b c = (m : TyId) × (ty : Ty) × (type_at right b ≡ Some ty) × Contains (held_by right ty) m × ((m ≡ c) ⊎ Holds right m c)

    first_held : (b c : TyId) → Holds right b c → First b c
    first_held b c (at_once {ty = ty} is inside) = (c, ty, is, inside, inl refl)
    first_held b c (within {b = m} bm mc) =
        let (z, ty, is, inside, on) = first_held b m bm in
        (z, ty, is, inside, inr (⊎_elim (λ (e : z ≡ m). subst (λ y. Holds right y c) (sym e) mc) (λ (h : Holds right z m). within h mc) on))

    -- where a type of the one holds itself, so does a type of the other
    pub round_too : (id : TyId) (ty : Ty) → type_at right id ≡ Some ty → Holds right id id → (low : List TyId) → ListsAlike left right low (held_by right ty)
        → (d : TyId) × TyAlike left right d id × Holds left d d
    round_too id ty is holds low alike =
        let (m, at, here, inside, on) = first_held id id holds in
        let same : at ≡ ty = same_Some at ty (sym here ∙ is) in
        let inside_ty = subst (λ t. Contains (held_by right t) m) same inside in
        let (k, z, place, zm) = among low (held_by right ty) alike inside_ty.0 m (slice_get-Contains (held_by right ty) m inside_ty) in
        let got : (d : TyId) × TyAlike left right d id =
        ⊎_elim (λ (e : m ≡ id). (z, subst (TyAlike left right z) e zm)) (λ (h : Holds right m id). let low : HeldToo z id = held_too m id h z zm in (low.0, low.2)) on in
        let next : HeldToo got.0 id = held_too id id holds got.0 got.1 in
        let equal : got.0 ≡ next.0 = one got.0 next.0 got.1.left_exists next.2.left_exists (got.1.text ∙ sym next.2.text) in
        (got.0, got.1, subst (Holds left got.0) (sym equal) next.1)

    adt_form : (s : Ty) (n : ℕ) → Alike left right s (Ty.Adt n) → s ≡ Ty.Adt n
    adt_form s n (adt m) = refl

    closure_form : (s : Ty) (n : ℕ) → Alike left right s (Ty.Closure n) → s ≡ Ty.Closure n
    closure_form s n (closure m) = refl

    pub adt_holds_too : (n : ℕ) → HoldsItself right (Ty.Adt n) → HoldsItself left (Ty.Adt n)
    adt_holds_too n (id, is, holds) =
        let (d, alike, own) = round_too id (Ty.Adt n) is holds (held_by left (Ty.Adt n)) (fields n) in
        let f = forms d id alike in
        let same : f.t ≡ Ty.Adt n = same_Some f.t (Ty.Adt n) (sym f.right_is ∙ is) in
        (d, f.left_is ∙ ap (λ (t : Ty). Some t) (adt_form f.s n (subst (Alike left right f.s) same f.alike)), own)

    pub closure_holds_too : (n : ℕ) → HoldsItself right (Ty.Closure n) → HoldsItself left (Ty.Closure n)
    closure_holds_too n (id, is, holds) =
        let (d, alike, own) = round_too id (Ty.Closure n) is holds (held_by left (Ty.Closure n)) (captures n) in
        let f = forms d id alike in
        let same : f.t ≡ Ty.Closure n = same_Some f.t (Ty.Closure n) (sym f.right_is ∙ is) in
        (d, f.left_is ∙ ap (λ (t : Ty). Some t) (closure_form f.s n (subst (Alike left right f.s) same f.alike)), own)
