-- Types that get a number.
use Rattle.std.proofs.Common.{◌≡◌, ℕ, zero, suc, ◌+◌, ◌<◌, ◌≤◌, Bool, true, false, ◌==◌, not, if◌then◌else◌, List, [], ◌∷◌, ◌++◌, length, slice_get, Option, Some, None, IsTrue, Contains, ◌⊎◌, inl, inr, refl, ap, sym, subst, ◌∙◌, arith, nat_lt}
use Rattle.std.specs.Prelude.{option_and_then}
use Rattle.std.specs.List.{position as position_of, position_or_len}
use Rattle.std.proofs.lemmas.Bool.{eqb-true, false≢true, lt-ltb}
use Rattle.std.proofs.lemmas.List.Quantifiers.{position-Some}
use Rattle.std.proofs.lemmas.List.{length-append}
use Rattle.std.proofs.lemmas.Option.{none-some, same_Some, slice_get-get_or, slice_get_within}
use Rattle.mir_base.specs.declared.int_kind.IntKind.{IntKind}
use Rattle.mir_ty.specs.declared.def.ClosureDef.{ClosureDef}
use Rattle.mir_ty.specs.declared.ty.Ty.{Ty}
use Rattle.mir_ty.specs.declared.ty.TyId.{TyId}
use Rattle.mir_ty.specs.AreItems.{types_in}
use Rattle.mir_ty.specs.ItemTable.{ItemTable, type_at, with_type}
use Rattle.mir_ty.specs.Parts.{held_by, parts_of}
use Rattle.mir_ty.proofs.ListLemmas.{slice_get-append_left, slice_get-last, slice_get-push_cases}
use Rattle.well_typed.specs.Items.{is_equal}
use Rattle.well_typed.specs.Types.{is_same, are_same, inside_in, is_reference}
use Rattle.well_typed.proofs.ClaimLemmas.{true_left, true_right}
use Rattle.well_typed.proofs.ItemLemmas.{equal_self}
use Rattle.typing_rules.specs.Check.{TypingState, interned, interned_at, ty_no}
use Rattle.typing_rules.specs.Promises.{Extends, IsReady, IsAlone, AreReady, Gives, made_of, ComesAfter}
use Rattle.typing_rules.specs.RowPromises.{IsMade}
use Rattle.typing_rules.proofs.Sound.Gives.{given}
use Rattle.typing_rules.proofs.Sound.Later.{some_got, type_later, ready_later, alone_later, known_later, same_reference}
use Rattle.typing_rules.proofs.Sound.Operators.{same_id}
use Rattle.typing_rules.proofs.Sound.PartsFirst.{part_first}

-- ---- equal types are the same

kind_is : (a b : IntKind) → IsTrue (is_equal (Ty.Int a) (Ty.Int b)) → a ≡ b
kind_is IntKind.I32 IntKind.I32 h = refl
kind_is IntKind.I64 IntKind.I64 h = refl
kind_is IntKind.U32 IntKind.U32 h = refl
kind_is IntKind.U64 IntKind.U64 h = refl
kind_is IntKind.Usize IntKind.Usize h = refl
kind_is _ _ h = absurd (let no_ : IsTrue false = h in cc)

same_ids : (as_ bs : List TyId) → IsTrue (are_same as_ bs) → as_ ≡ bs
same_ids [] [] h = refl
same_ids (a ∷ as_) (b ∷ bs) h =
    let first = same_id a b (true_left (is_same a b) (are_same as_ bs) h) in
    let rest = same_ids as_ bs (true_right (is_same a b) (are_same as_ bs) h) in
    λ i. first i ∷ rest i
same_ids [] (b ∷ bs) h = absurd (let no_ : IsTrue false = h in cc)
same_ids (a ∷ as_) [] h = absurd (let no_ : IsTrue false = h in cc)

same_number : (n m : ℕ) → IsTrue (n == m) → n ≡ m
same_number n m h = eqb-true n m h

pub equal_is : (a b : Ty) → IsTrue (is_equal a b) → a ≡ b
equal_is (Ty.Int a) (Ty.Int b) = λ h. ap Ty.Int (kind_is a b h)
equal_is Ty.Bool Ty.Bool = λ h. refl
equal_is Ty.Unit Ty.Unit = λ h. refl
equal_is Ty.Never Ty.Never = λ h. refl
equal_is (Ty.Adt a) (Ty.Adt b) = λ h. ap Ty.Adt (same_number a b h)
equal_is (Ty.Tuple as_) (Ty.Tuple bs) = λ h. ap Ty.Tuple (same_ids as_ bs h)
equal_is (Ty.Array a n) (Ty.Array b m) =
    λ h. λ i. Ty.Array (same_id a b (true_left (is_same a b) (n == m) h) i) (same_number n m (true_right (is_same a b)
    (n
    == m) h) i)
equal_is (Ty.Boxed a) (Ty.Boxed b) = λ h. ap Ty.Boxed (same_id a b h)
equal_is (Ty.Dyn a) (Ty.Dyn b) = λ h. ap Ty.Dyn (same_number a b h)
equal_is (Ty.Shared a) (Ty.Shared b) = λ h. ap Ty.Shared (same_id a b h)
equal_is (Ty.Unique a) (Ty.Unique b) = λ h. ap Ty.Unique (same_id a b h)
equal_is (Ty.Closure a) (Ty.Closure b) = λ h. ap Ty.Closure (same_number a b h)
equal_is _ _ = λ h. absurd (let no_ : IsTrue false = h in cc)

-- ---- where a type stands in the table

pub found_at : (ty : Ty) (tys : List Ty) (n : ℕ) → position_of (is_equal ty) tys ≡ Some n → slice_get tys n ≡ Some ty
found_at ty tys n h =
    let at = position-Some (is_equal ty) tys n ty h in
    slice_get-get_or tys n ty at.0 ∙ ap Some (sym (equal_is ty _ at.1))

below_if : (p : Ty → Bool) (tys : List Ty) (k : ℕ) (t : Ty) → slice_get tys k ≡ Some t → IsTrue (p t) → position_or_len
    p tys < length tys
below_if p [] k t is h = absurd (none-some t is)
below_if p (y ∷ ys) zero t is h = by (p y) (subst (λ z. IsTrue (p z)) (sym (same_Some y t is)) h)
  where
    by : (b : Bool) → IsTrue b → (if not b then 1 + position_or_len p ys else 0) < suc (length ys)
    by true h = omega arith
    by false h = absurd (cc)
below_if p (y ∷ ys) (suc k) t is h = by (p y) (below_if p ys k t is h)
  where
    by : (b : Bool) → position_or_len p ys < length ys → (if not b then 1 + position_or_len p ys else 0) < suc (length
        ys)
    by true h = omega arith
    by false h = omega (arith, h)

some_below : (p : Ty → Bool) (tys : List Ty) → position_or_len p tys < length tys → position_of p tys ≡ None → ⊥
some_below p tys h is = by (nat_lt (position_or_len p tys) (length tys)) (lt-ltb _ _ h) is
  where
    by : (b : Bool) → b ≡ true → (if b then Some (position_or_len p tys) else None) ≡ None → ⊥
    by true e is = none-some _ (sym is)
    by false e is = false≢true e

pub not_there : (ty : Ty) (tys : List Ty) → position_of (is_equal ty) tys ≡ None → (k : ℕ) → slice_get tys k ≡ Some ty → ⊥
not_there ty tys h k is = some_below (is_equal ty) tys (below_if (is_equal ty) tys k ty is (equal_self ty)) h

-- ---- one more type

-- what a type is made of is held
pub made_held : (items : ItemTable) (ty : Ty) (part : TyId) → Contains (made_of ty) part → Contains (held_by items ty) part
made_held items (Ty.Tuple parts) part has = has
made_held items (Ty.Array element count) part has = has
made_held items _ part has = absurd (omega (arith, has.1))

module _ (items : ItemTable) (ty : Ty) where
  more_types : Extends items (with_type items ty)
  more_types =
      record {
        types = λ n t h. slice_get-append_left items.types (ty ∷ []) n t h;
        closures = λ n def h. h;
        adts = refl;
        traits = refl;
        impls = refl;
        bodies = refl;
      }

  held_same : (t : Ty) → held_by (with_type items ty) t ≡ held_by items t
  held_same (Ty.Adt n) = refl
  held_same (Ty.Closure n) = refl
  held_same _ = refl

  parts_same : (t : Ty) (variant : ℕ) → parts_of (with_type items ty) t variant ≡ parts_of items t variant
  parts_same (Ty.Adt n) variant = refl
  parts_same (Ty.Closure n) variant = refl
  parts_same _ variant = refl

  module _ (all : AreReady items) (made : IsMade items ty) where
    abbrev Two : ℕ → Ty → Type 0
    Two n t = (slice_get items.types n ≡ Some t) ⊎ ((n ≡ length items.types) × (ty ≡ t))

    held_more : (id part : TyId) (t : Ty) → Two id.0 t → Contains (held_by (with_type items ty) t) part → IsAlone items
        part
    held_more id part t (inl is) has = all.held id part t is (subst (λ xs. Contains xs part) (held_same t) has)
    held_more id part t (inr new_) has =
        made.held part (subst (λ xs. Contains xs part) (held_same ty) (subst (λ u. Contains (held_by (with_type items
        ty)
        u) part) (sym new_.1) has))

    parts_more : (id part : TyId) (variant n : ℕ) (t : Ty) → Two id.0 t → slice_get (parts_of (with_type items ty) t
        variant) n ≡ Some part → IsAlone items part
    parts_more id part variant n t (inl is) h =
        all.parts id part variant n (ap (λ o. option_and_then (λ u. slice_get (parts_of items u variant) n) o) is ∙ (ap
        (λ xs. slice_get xs n) (sym (parts_same t variant)) ∙ h))
    parts_more id part variant n t (inr new_) h =
        made.parts part variant n (ap (λ xs. slice_get xs n) (sym (parts_same ty variant)) ∙ (ap (λ u. slice_get
        (parts_of (with_type items ty) u variant) n) new_.1 ∙ h))

    first_more : (id part : TyId) (t : Ty) → Two id.0 t → Contains (types_in t) part → suc part.0 ≤ id.0
    first_more id part t (inl is) has = all.parts_first id part t is has
    first_more id part t (inr new_) has =
        subst (λ n. suc part.0 ≤ n) (sym new_.0) (part_first items ty made part (subst (λ u. Contains (types_in u) part)
        (sym new_.1) has))

    inside_more : (id to : TyId) (t : Ty) → Two id.0 t → inside_in t ≡ Some to → IsReady items to × IsTrue
        (not (is_reference items to))
    inside_more id to t (inl is) h = all.inside id to (ap (option_and_then inside_in) is ∙ h)
    inside_more id to t (inr new_) h = made.inside to (ap inside_in new_.1 ∙ h)

    distinct_more : ((k : ℕ) → slice_get items.types k ≡ Some ty → ⊥) → (i j : ℕ) (t : Ty) → Two i t → Two j t → i ≡ j
    distinct_more absent i j t (inl a) (inl b) = all.distinct i j t a b
    distinct_more absent i j t (inl a) (inr b) = absurd (absent i (a ∙ ap Some (sym b.1)))
    distinct_more absent i j t (inr a) (inl b) = absurd (absent j (b ∙ ap Some (sym a.1)))
    distinct_more absent i j t (inr a) (inr b) = a.0 ∙ sym b.0

    two : (n : ℕ) (t : Ty) → slice_get (items.types ++ ty ∷ []) n ≡ Some t → Two n t
    two n t h = slice_get-push_cases items.types ty n t h

    order_more : (n : ℕ) (t : Ty) (part : TyId) → Two n t → Contains (made_of t) part → suc part.0 ≤ n
    order_more n t part (inl is) has = all.order n t part is has
    order_more n t part (inr new_) has =
        let alone = made.held part (made_held items ty part (subst (λ u. Contains (made_of u) part) (sym new_.1) has)) in
        let below = slice_get_within items.types part.0 alone.0 alone.1 in
        let last = new_.0 in
        omega (arith, below, last)

    -- a type that is not the last one
    was_there : (n : ℕ) (t : Ty) → suc n ≤ length items.types → Two n t → slice_get items.types n ≡ Some t
    was_there n t below (inl is) = is
    was_there n t below (inr new_) = let last = new_.0 in absurd (omega (arith, below, last))

    after_more : (k : ℕ) (def : ClosureDef) → ComesAfter items.types k def → ComesAfter (items.types ++ ty ∷ []) k def
    after_more k def h = record {
      before = h.before;
      within = let a = h.within in let b = length-append items.types (ty ∷ []) in omega (arith, a, b);
      captures = h.captures;
      captured = λ part j has at.
          let a = h.within in let b = h.captures part has in
          h.captured part j has (was_there part.0 (Ty.Closure j) (omega (arith, a, b)) (two part.0 (Ty.Closure j) at));
      lower = λ n j t part below is has at.
          let a = h.within in
          let was = was_there n t (omega (arith, a, below)) (two n t is) in
          let b = all.order n t part was has in
          h.lower n j t part below was has (was_there part.0 (Ty.Closure j) (omega (arith, a, b, below)) (two part.0
          (Ty.Closure j) at));
    }

    ready_more : ((k : ℕ) → slice_get items.types k ≡ Some ty → ⊥) → AreReady (with_type items ty)
    ready_more absent =
        record {
          begins = λ n t h. more_types.types n t (all.begins n t h);
          distinct = λ i j t a b. distinct_more absent i j t (two i t a) (two j t b);
          parts_first = λ id part t at has. first_more id part t (two id.0 t at) has;
          held = λ id part t at has. alone_later more_types part (held_more id part t (two id.0 t at) has);
          parts = λ id part variant n h.
              let known = some_got (λ u. slice_get (parts_of (with_type items ty) u variant) n) (type_at (with_type
              items
              ty) id) part h in
              alone_later more_types part (parts_more id part variant n known.0 (two id.0 known.0 known.1) known.2);
          held_fields = λ n part has. alone_later more_types part (all.held_fields n part has);
          fields = λ n variant k part h. alone_later more_types part (all.fields n variant k part h);
          inside = λ id to h.
              let known = some_got inside_in (type_at (with_type items ty) id) to h in
              let was = inside_more id to known.0 (two id.0 known.0 known.1) known.2 in (
                ready_later more_types to was.0,
                subst (λ b. IsTrue (not b)) (sym (same_reference more_types to was.0))
                    was.1,
              );
          results = λ n sig h. alone_later more_types sig.result (all.results n sig h);
          methods = λ n k def sig h g. alone_later more_types sig.result (all.methods n k def sig h g);
          params = λ n sig t h has. known_later more_types t (all.params n sig t h has);
          method_params = λ n k def sig t h g has. known_later more_types t (all.method_params n k def sig t h g has);
          order = λ n t part at has. order_more n t part (two n t at) has;
          after = λ k def at. after_more k def (all.after k def at);
        }

pub interned_sound : (ty : Ty) (s : TypingState) → IsMade s.items ty → Gives s (λ w id. type_at w.items id ≡ Some ty)
    (interned ty s)
interned_sound ty s made = by (position_of (is_equal ty) s.items.types) refl
  where
    by : (o : Option ℕ) → position_of (is_equal ty) s.items.types ≡ o → Gives s (λ w id. type_at w.items id ≡ Some ty)
        (interned_at ty o s)
    by (Some n) is = given (ty_no n) λ ready w g. type_later g.items (ty_no n) ty (found_at ty s.items.types n is)
    by None is =
        record {
          so = λ all. (
            record {
              items = more_types s.items ty;
              ready = λ same. ready_more s.items ty same made (not_there ty s.items.types is);
              breaks = λ b h. h;
              numbers = omega arith;
              below = λ h b has. let is = h b has in (is.0, alone_later (more_types s.items ty) b.1 is.1);
              made = λ body h. inl h;
            },
            λ w g. type_later g.items (ty_no (length s.items.types)) ty (slice_get-last s.items.types ty),
          );
        }
