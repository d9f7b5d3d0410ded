-- Types of two graphs that are written alike have one form, with types in them that are written alike; and in one graph they are one type.
use Rattle.std.proofs.Common.{◌≡◌, ℕ, zero, suc, ◌^◌, ◌<◌, true, false, not, ◌&&◌, List, [], ◌∷◌, ◌++◌, map, length, codes, Some, decimal, nat_lt, refl, ap, sym, subst, ◌∙◌, arith}
use Rattle.std.specs.Prelude.{⊤}
use Rattle.std.specs.Str.Parse.{digits_value}
use Rattle.std.proofs.lemmas.Bool.{and_parts, false≢true}
use Rattle.std.proofs.lemmas.Fmt.{decimal_is_IsNumeral_wide}
use Rattle.std.proofs.lemmas.Option.{same_Some}
use Rattle.mir_base.specs.declared.int_kind.IntKind.{IntKind}
use Rattle.mir_ty.specs.declared.ty.Ty.{Ty}
use Rattle.mir_ty.specs.declared.ty.TyId.{TyId}
use Rattle.mir_ty.specs.AreItems.{types_in, HasParts, AreDistinct}
use Rattle.mir_ty.specs.Facts.{in_rounds}
use Rattle.mir_ty.specs.ItemTable.{ItemTable, type_at}
use Rattle.mir_ty.specs.Named.{adt_name}
use Rattle.cfg_graph.specs.WellFormed.NameFaults.{same_name, is_among, is_name, is_adt_name, type_words}
use Rattle.cfg_graph.specs.WellFormed.TypeFaults.{own_number_exists, existing, ty_exists}
use Rattle.listing_write.specs.Types.{kind_text, trait_name, type_text}
use Rattle.listing_write.proofs.Reading.Basics.{Every, strip}
use Rattle.listing_write.proofs.Reading.Types.{Shape, Word, Row, Count, InBox, Object, Refers, shape_of, shape_reader, AreNamed, HasNumbers, known, IsShown, shown_parts, every_of}
use Rattle.listing_write.proofs.Reading.Listed.{same_as_itself}

-- what holds of the types of one graph
pub record Side (items : ItemTable) : Type 0 where
  pub named : AreNamed items
  pub parts : (id : TyId) (ty : Ty) → type_at items id ≡ Some ty → HasParts ty
  pub distinct : AreDistinct items.types

differ : (x y : List ℕ) → same_name x y ≡ false → x ≡ y → ⊥
differ x y h e = false≢true (sym h ∙ ap (same_name x) (sym e) ∙ same_as_itself x)

decimal_same : (n m : ℕ) → n < 10 ^ 64 → m < 10 ^ 64 → decimal n ≡ decimal m → n ≡ m
decimal_same n m a b e = sym (decimal_is_IsNumeral_wide n a).1 ∙ ap (digits_value 10) e ∙ (decimal_is_IsNumeral_wide m b).1

int_same : (a b : IntKind) → kind_text a ≡ kind_text b → a ≡ b
int_same IntKind.I32 IntKind.I32 h = refl
int_same IntKind.I64 IntKind.I64 h = refl
int_same IntKind.U32 IntKind.U32 h = refl
int_same IntKind.U64 IntKind.U64 h = refl
int_same IntKind.Usize IntKind.Usize h = refl
int_same a b h = absurd (differ (kind_text a) (kind_text b) refl h)

int_no_bool : (a : IntKind) → kind_text a ≡ codes "bool" → ⊥
int_no_bool IntKind.I32 h = differ (codes "i32") (codes "bool") refl h
int_no_bool IntKind.I64 h = differ (codes "i64") (codes "bool") refl h
int_no_bool IntKind.U32 h = differ (codes "u32") (codes "bool") refl h
int_no_bool IntKind.U64 h = differ (codes "u64") (codes "bool") refl h
int_no_bool IntKind.Usize h = differ (codes "usize") (codes "bool") refl h

int_no_closure : (a : IntKind) (w : List ℕ) → kind_text a ≡ codes "closure#" ++ w → ⊥
int_no_closure IntKind.I32 w h = differ (codes "i32") (codes "closure#" ++ w) refl h
int_no_closure IntKind.I64 w h = differ (codes "i64") (codes "closure#" ++ w) refl h
int_no_closure IntKind.U32 w h = differ (codes "u32") (codes "closure#" ++ w) refl h
int_no_closure IntKind.U64 w h = differ (codes "u64") (codes "closure#" ++ w) refl h
int_no_closure IntKind.Usize w h = differ (codes "usize") (codes "closure#" ++ w) refl h

int_no_name : (a : IntKind) → is_adt_name (kind_text a) ≡ false
int_no_name IntKind.I32 = refl
int_no_name IntKind.I64 = refl
int_no_name IntKind.U32 = refl
int_no_name IntKind.U64 = refl
int_no_name IntKind.Usize = refl

closure_no_name : (w name : List ℕ) → is_adt_name name ≡ true → codes "closure#" ++ w ≡ name → ⊥
closure_no_name w name h e =
    let named : is_adt_name (codes "closure#" ++ w) ≡ true = ap is_adt_name e ∙ h in
    false≢true ((and_parts (is_name (codes "closure#" ++ w) && not (is_among type_words (codes "closure#" ++ w))) _ named).1)

word_of : Shape → List ℕ
word_of (Word w) = w
word_of _ = []

one_word : (v w : List ℕ) → Word v ≡ Word w → v ≡ w
unfolding word_of
one_word v w h = ap word_of h

abbrev rows_of : Shape → List (List ℕ)
rows_of (Row ws) = ws
rows_of _ = []

abbrev inner_of : Shape → List ℕ
inner_of (Count w ds) = w
inner_of (InBox w) = w
inner_of (Object w) = w
inner_of (Refers u w) = w
inner_of _ = []

abbrev digits_of : Shape → List ℕ
digits_of (Count w ds) = ds
digits_of _ = []

module _ (left right : ItemTable) where
  -- types of the two that are written alike
  pub record TyAlike (a b : TyId) : Type 0 where
    pub left_exists : ty_exists left a ≡ true
    pub right_exists : ty_exists right b ≡ true
    pub text : type_text left a ≡ type_text right b

  abbrev pub ListsAlike : List TyId → List TyId → Type 0
  ListsAlike [] [] = ⊤
  ListsAlike [] (b ∷ bs) = ⊥
  ListsAlike (a ∷ rest) [] = ⊥
  ListsAlike (a ∷ rest) (b ∷ bs) = TyAlike a b × ListsAlike rest bs

  pub lists_alike : (xs ys : List TyId) → Every (λ a. ty_exists left a ≡ true) xs → Every (λ b. ty_exists right b ≡ true) ys
      → map (type_text left) xs ≡ map (type_text right) ys → ListsAlike xs ys
  lists_alike [] [] a b e = tt
  lists_alike [] (y ∷ ys) a b e = absurd (cc)
  lists_alike (x ∷ xs) [] a b e = absurd (cc)
  lists_alike (x ∷ xs) (y ∷ ys) a b e =
      (record { left_exists = a.0; right_exists = b.0; text = ap (λ (ws : List (List ℕ)). head ws) e }, lists_alike xs ys a.1 b.1 (ap (λ (ws : List (List ℕ)). tail ws) e))
    where
      head : List (List ℕ) → List ℕ
      head [] = []
      head (w ∷ ws) = w

      tail : List (List ℕ) → List (List ℕ)
      tail [] = []
      tail (w ∷ ws) = ws

  pub data Alike : Ty → Ty → Type 0 where
    int : (kind : IntKind) → Alike (Ty.Int kind) (Ty.Int kind)
    bool : Alike Ty.Bool Ty.Bool
    unit : Alike Ty.Unit Ty.Unit
    never : Alike Ty.Never Ty.Never
    adt : (n : ℕ) → Alike (Ty.Adt n) (Ty.Adt n)
    tuple : {xs ys : List TyId} → ListsAlike xs ys → Alike (Ty.Tuple xs) (Ty.Tuple ys)
    array : {a b : TyId} → TyAlike a b → (count : ℕ) → Alike (Ty.Array a count) (Ty.Array b count)
    boxed : {a b : TyId} → TyAlike a b → Alike (Ty.Boxed a) (Ty.Boxed b)
    object : (n : ℕ) → Alike (Ty.Dyn n) (Ty.Dyn n)
    shared : {a b : TyId} → TyAlike a b → Alike (Ty.Shared a) (Ty.Shared b)
    unique : {a b : TyId} → TyAlike a b → Alike (Ty.Unique a) (Ty.Unique b)
    closure : (n : ℕ) → Alike (Ty.Closure n) (Ty.Closure n)

  -- the forms of two types
  pub record FormsAlike (a b : TyId) : Type 0 where
    pub s : Ty
    pub t : Ty
    pub left_is : type_at left a ≡ Some s
    pub right_is : type_at right b ≡ Some t
    pub alike : Alike s t

  module _ (l : AreNamed left) (r : AreNamed right)
      (one_adt : (n m : ℕ) → nat_lt n (length left.adts) ≡ true → nat_lt m (length right.adts) ≡ true → adt_name left n ≡ adt_name right m → n ≡ m)
      (one_trait : (n m : ℕ) → nat_lt n (length left.traits) ≡ true → nat_lt m (length right.traits) ≡ true → trait_name left n ≡ trait_name right m → n ≡ m) where
    abbrev Parts : Ty → Ty → Type 0
    Parts s t = Every (λ a. ty_exists left a ≡ true) (types_in s) × Every (λ b. ty_exists right b ≡ true) (types_in t)

    alike_of : (s t : Ty) → own_number_exists left s ≡ true → own_number_exists right t ≡ true → HasNumbers s → HasNumbers t → HasParts s → HasParts t → Parts s t
        → shape_of left (type_text left) s ≡ shape_of right (type_text right) t → Alike s t
    alike_of (Ty.Int a) (Ty.Int b) own other n m p q e h = subst (λ k. Alike (Ty.Int a) (Ty.Int k)) (int_same a b (one_word (kind_text a) (kind_text b) h)) (int a)
    alike_of (Ty.Int a) Ty.Bool own other n m p q e h = absurd (int_no_bool a (one_word (kind_text a) (codes "bool") h))
    alike_of (Ty.Int a) (Ty.Adt k) own other n m p q e h =
        absurd (false≢true (sym (int_no_name a) ∙ ap is_adt_name (one_word (kind_text a) (adt_name right k) h) ∙ r.adts k other))
    alike_of (Ty.Int a) (Ty.Closure k) own other n m p q e h = absurd (int_no_closure a (decimal k) (one_word (kind_text a) (codes "closure#" ++ decimal k) h))
    alike_of Ty.Bool (Ty.Int b) own other n m p q e h = absurd (int_no_bool b (sym (one_word (codes "bool") (kind_text b) h)))
    alike_of Ty.Bool Ty.Bool own other n m p q e h = bool
    alike_of Ty.Bool (Ty.Adt k) own other n m p q e h = absurd (false≢true (ap is_adt_name (one_word (codes "bool") (adt_name right k) h) ∙ r.adts k other))
    alike_of Ty.Bool (Ty.Closure k) own other n m p q e h = absurd (differ (codes "bool") (codes "closure#" ++ decimal k) refl (one_word (codes "bool") (codes "closure#" ++ decimal k) h))
    alike_of (Ty.Adt j) (Ty.Int b) own other n m p q e h =
        absurd (false≢true (sym (int_no_name b) ∙ ap is_adt_name (sym (one_word (adt_name left j) (kind_text b) h)) ∙ l.adts j own))
    alike_of (Ty.Adt j) Ty.Bool own other n m p q e h = absurd (false≢true (ap is_adt_name (sym (one_word (adt_name left j) (codes "bool") h)) ∙ l.adts j own))
    alike_of (Ty.Adt j) (Ty.Adt k) own other n m p q e h =
        subst (λ i. Alike (Ty.Adt j) (Ty.Adt i)) (one_adt j k own other (one_word (adt_name left j) (adt_name right k) h)) (adt j)
    alike_of (Ty.Adt j) (Ty.Closure k) own other n m p q e h =
        absurd (closure_no_name (decimal k) (adt_name left j) (l.adts j own) (sym (one_word (adt_name left j) (codes "closure#" ++ decimal k) h)))
    alike_of (Ty.Closure j) (Ty.Int b) own other n m p q e h = absurd (int_no_closure b (decimal j) (sym (one_word (codes "closure#" ++ decimal j) (kind_text b) h)))
    alike_of (Ty.Closure j) Ty.Bool own other n m p q e h = absurd (differ (codes "closure#" ++ decimal j) (codes "bool") refl (one_word (codes "closure#" ++ decimal j) (codes "bool") h))
    alike_of (Ty.Closure j) (Ty.Adt k) own other n m p q e h = absurd (closure_no_name (decimal j) (adt_name right k) (r.adts k other) (one_word (codes "closure#" ++ decimal j) (adt_name right k) h))
    alike_of (Ty.Closure j) (Ty.Closure k) own other n m p q e h =
        let digits : decimal j ≡ decimal k =
        same_Some (decimal j) (decimal k) (ap (strip (codes "closure#")) (one_word (codes "closure#" ++ decimal j) (codes "closure#" ++ decimal k) h)) in
        subst (λ i. Alike (Ty.Closure j) (Ty.Closure i)) (decimal_same j k n m digits) (closure j)
    alike_of Ty.Unit Ty.Unit own other n m p q e h = unit
    alike_of Ty.Unit (Ty.Tuple []) own other n m p q e h = absurd (omega arith)
    alike_of Ty.Unit (Ty.Tuple (y ∷ ys)) own other n m p q e h = absurd (let k : [] ≡ map (type_text right) (y ∷ ys) = ap rows_of h in cc)
    alike_of (Ty.Tuple []) Ty.Unit own other n m p q e h = absurd (omega arith)
    alike_of (Ty.Tuple (x ∷ xs)) Ty.Unit own other n m p q e h = absurd (let k : map (type_text left) (x ∷ xs) ≡ [] = ap rows_of h in cc)
    alike_of (Ty.Tuple xs) (Ty.Tuple ys) own other n m p q e h = tuple (lists_alike xs ys e.0 e.1 (ap rows_of h))
    alike_of (Ty.Array a c) (Ty.Array b d) own other n m p q e h =
        subst (λ i. Alike (Ty.Array a c) (Ty.Array b i)) (decimal_same c d n m (ap digits_of h))
        (array (record { left_exists = e.0.0; right_exists = e.1.0; text = ap inner_of h }) c)
    alike_of Ty.Never Ty.Never own other n m p q e h = never
    alike_of (Ty.Boxed a) (Ty.Boxed b) own other n m p q e h = boxed (record { left_exists = e.0.0; right_exists = e.1.0; text = ap inner_of h })
    alike_of (Ty.Dyn j) (Ty.Dyn k) own other n m p q e h = subst (λ i. Alike (Ty.Dyn j) (Ty.Dyn i)) (one_trait j k own other (ap inner_of h)) (object j)
    alike_of (Ty.Shared a) (Ty.Shared b) own other n m p q e h = shared (record { left_exists = e.0.0; right_exists = e.1.0; text = ap inner_of h })
    alike_of (Ty.Unique a) (Ty.Unique b) own other n m p q e h = unique (record { left_exists = e.0.0; right_exists = e.1.0; text = ap inner_of h })
    alike_of _ _ own other n m p q e h = absurd (cc)

    module _ (left_parts : (id : TyId) (ty : Ty) → type_at left id ≡ Some ty → HasParts ty) (right_parts : (id : TyId) (ty : Ty) → type_at right id ≡ Some ty → HasParts ty) where
      pub forms_alike : (a b : TyId) → TyAlike a b → FormsAlike a b
      forms_alike a b h =
          let (s, ks) = known left l a h.left_exists in
          let (t, kt) = known right r b h.right_exists in
          record {
            s = s;
            t = t;
            left_is = ks.is;
            right_is = kt.is;
            alike = alike_of s t ks.own kt.own (l.numbers a s ks.is) (r.numbers b t kt.is) (left_parts a s ks.is) (right_parts b t kt.is) (ks.parts, kt.parts)
                (same_Some (shape_of left (type_text left) s) (shape_of right (type_text right) t) (sym ks.shape ∙ ap shape_reader h.text ∙ kt.shape));
          }

-- in one graph, types that are written alike are one
module _ (items : ItemTable) (side : Side items)
    (one_adt : (n m : ℕ) → nat_lt n (length items.adts) ≡ true → nat_lt m (length items.adts) ≡ true → adt_name items n ≡ adt_name items m → n ≡ m)
    (one_trait : (n m : ℕ) → nat_lt n (length items.traits) ≡ true → nat_lt m (length items.traits) ≡ true → trait_name items n ≡ trait_name items m → n ≡ m) where
  abbrev AreOne : ℕ → Type 0
  AreOne k = (a b : TyId) → IsShown items k a → TyAlike items items a b → a ≡ b

  lists_same : (k : ℕ) → AreOne k → (xs ys : List TyId) → Every (IsShown items k) xs → ListsAlike items items xs ys → xs ≡ ys
  lists_same k one [] [] shown h = refl
  lists_same k one [] (y ∷ ys) shown h = absurd h
  lists_same k one (x ∷ xs) [] shown h = absurd h
  lists_same k one (x ∷ xs) (y ∷ ys) shown h = λ i. one x y shown.0 h.0 i ∷ lists_same k one xs ys shown.1 h.1 i

  ty_same : (k : ℕ) → AreOne k → (s t : Ty) → Alike items items s t → Every (IsShown items k) (types_in s) → s ≡ t
  ty_same k one s t (tuple {xs = xs} {ys = ys} h) shown = ap Ty.Tuple (lists_same k one xs ys shown h)
  ty_same k one s t (array {a = a} {b = b} h count) shown = ap (λ (id : TyId). Ty.Array id count) (one a b shown.0 h)
  ty_same k one s t (boxed {a = a} {b = b} h) shown = ap Ty.Boxed (one a b shown.0 h)
  ty_same k one s t (shared {a = a} {b = b} h) shown = ap Ty.Shared (one a b shown.0 h)
  ty_same k one s t (unique {a = a} {b = b} h) shown = ap Ty.Unique (one a b shown.0 h)
  ty_same k one s t (int kind) shown = refl
  ty_same k one s t bool shown = refl
  ty_same k one s t unit shown = refl
  ty_same k one s t never shown = refl
  ty_same k one s t (adt n) shown = refl
  ty_same k one s t (object n) shown = refl
  ty_same k one s t (closure n) shown = refl

  one_within : (k : ℕ) → AreOne k
  one_within zero a b h alike = absurd (false≢true h)
  one_within (suc k) a b h alike =
      let (s, is, own, parts) = shown_parts items k a h in
      let forms = forms_alike items items side.named side.named one_adt one_trait side.parts side.parts a b alike in
      let same : s ≡ forms.s = same_Some s forms.s (sym is ∙ forms.left_is) in
      let shown = subst (λ ty. Every (IsShown items k) (types_in ty)) same (every_of (in_rounds items.types (existing items) k) (types_in s) parts) in
      let equal : forms.s ≡ forms.t = ty_same k (one_within k) forms.s forms.t forms.alike shown in
      let number : a.0 ≡ b.0 = side.distinct a.0 b.0 forms.t (forms.left_is ∙ ap (λ (ty : Ty). Some ty) equal) forms.right_is in
      λ i. record { 0 = number i }

  pub one_type : (a b : TyId) → ty_exists items a ≡ true → ty_exists items b ≡ true → type_text items a ≡ type_text items b → a ≡ b
  one_type a b x y e = one_within (length items.types) a b x (record { left_exists = x; right_exists = y; text = e })
