-- Going through boxes and references, a step at a time.
use Rattle.std.proofs.Common.{◌≡◌, ℕ, suc, ◌+◌, ◌-◌, ◌<◌, ◌≤◌, ◌⊎◌, inl, inr, Bool, false, Option, Some, None, Result, Ok, Err, refl, ap, sym, ◌∙◌, length, arith}
use Rattle.std.specs.Option.{is_some, option_and_then, option_map}
use Rattle.std.proofs.lemmas.Option.{slice_get_within}
use Rattle.mir_base.specs.declared.place_in_text.Pos.{Pos}
use Rattle.mir_ty.specs.ItemTable.{ItemTable, type_at}
use Rattle.mir_ty.specs.declared.ty.Ty.{Ty}
use Rattle.mir_ty.specs.declared.ty.TyId.{TyId}
use Rattle.typed_tree.specs.Tree.{Node}
use Rattle.typing_rules.specs.Check.{Broken, TypingState, and_then}
use Rattle.typing_rules.specs.Places.{Member, through, through_at, through_in}
use Rattle.well_typed.specs.Places.{ty_of}
use Rattle.well_typed.specs.Types.{inside_in, inside_of}
use Rattle.typeck_calls.specs.Going.{deref_of}

module _ {A : Type 0} (member : Member A) (at : Pos) (n : ℕ) (items : ItemTable) (base : Node) (s : TypingState) where
  pub found_here : (f : A) → member items (ty_of base) ≡ Some f → through_in member at (suc n) items base s ≡ Ok ((base, Some f), s)
  found_here f e = ap (λ m. through_at member at (through_in member at n items) base m (inside_of items (ty_of base)) s) e

  pub ends_here : member items (ty_of base) ≡ None → inside_of items (ty_of base) ≡ None → through_in member at (suc n) items base s ≡ Ok ((base, None), s)
  ends_here e f = λ i. through_at member at (through_in member at n items) base (e i) (f i) s

  pub goes_on : (ty : TyId) (later : Node) (t : TypingState) → member items (ty_of base) ≡ None → inside_of items (ty_of base) ≡ Some ty → deref_of at ty base s ≡ Ok (later, t) →
      through_in member at (suc n) items base s ≡ through_in member at n items later t
  goes_on ty later t e f g =
      (λ i. through_at member at (through_in member at n items) base (e i) (f i) s)
      ∙ ap (λ r. and_then r (through_in member at n items)) g

-- a type that leads on is in the table
pub leads : (items : ItemTable) (id ty : TyId) → inside_of items id ≡ Some ty → id.0 < length items.types
leads items id ty e = by (type_at items id) refl e
  where
    by : (t : Option Ty) → type_at items id ≡ t → inside_of items id ≡ Some ty → id.0 < length items.types
    by None is h = absurd (let bad : None ≡ Some ty = sym (ap (option_and_then inside_in) is) ∙ h in cc)
    by (Some t) is h = slice_get_within items.types id.0 t is

-- the items behind a check
abbrev pub items_in : ItemTable → Result (Node × TypingState) Broken → ItemTable
items_in items (Ok x) = x.1.items
items_in items (Err e) = items

-- ---- so many steps

-- at the first type, or at one from which there are no more steps than types
abbrev pub Near : ℕ → ℕ → Node → TypingState → Type 0
Near k count base s = ((k ≡ 0) × (count ≡ (ty_of base).0 + 1)) ⊎ (count ≤ length s.items.types)

-- what is left of going there is what the whole gives
pub record IsGoing {A : Type 0} (member : Member A) (at : Pos) (whole : Result ((Node × Option A) × TypingState) Broken) (k count : ℕ) (base : Node) (s : TypingState) : Type 0 where
  pub left : through_in member at (suc (length s.items.types) - k) s.items base s ≡ whole
  pub near : Near k count base s

module _ {A : Type 0} (member : Member A) (at : Pos) (count : ℕ) (base : Node) (s : TypingState) where
  pub starts : count ≡ (ty_of base).0 + 1 → IsGoing member at (through member at base s) 0 count base s
  starts e = record {
    left = let same : suc (length s.items.types) - 0 ≡ suc (length s.items.types) = omega arith in ap (λ n. through_in member at n s.items base s) same;
    near = inl (refl, e);
  }

  module _ (whole : Result ((Node × Option A) × TypingState) Broken) (k : ℕ) (going : IsGoing member at whole k count base s) (less : k < count) where
    room : Near k count base s → suc (length s.items.types) - k ≡ suc (length s.items.types - k)
    room (inl first) = let zero_ : k ≡ 0 = first.0 in omega arith
    room (inr near) = omega arith

    here : through_in member at (suc (length s.items.types - k)) s.items base s ≡ whole
    here = sym (ap (λ n. through_in member at n s.items base s) (room going.near)) ∙ going.left

    pub found : (f : A) → member s.items (ty_of base) ≡ Some f → whole ≡ Ok ((base, Some f), s)
    found f e = sym here ∙ found_here member at (length s.items.types - k) s.items base s f e

    pub ends : member s.items (ty_of base) ≡ None → inside_of s.items (ty_of base) ≡ None → whole ≡ Ok ((base, None), s)
    ends e f = sym here ∙ ends_here member at (length s.items.types - k) s.items base s e f

    pub next : (ty : TyId) (later : Node) (t : TypingState) → member s.items (ty_of base) ≡ None → inside_of s.items (ty_of base) ≡ Some ty → deref_of at ty base s ≡ Ok (later, t) →
        IsGoing member at whole (k + 1) count later t
    next ty later t e f g =
        let same : t.items ≡ s.items = sym (items_same g) in
        record {
          left =
              sym (ap (λ (items : ItemTable). through_in member at (suc (length items.types) - (k + 1)) items later t) (sym same))
              ∙ (let fewer : suc (length s.items.types) - (k + 1) ≡ length s.items.types - k = omega arith in ap (λ n. through_in member at n s.items later t) fewer)
              ∙ sym (goes_on member at (length s.items.types - k) s.items base s ty later t e f g) ∙ here;
          near = inr (closer same going.near);
        }
      where
        items_same : deref_of at ty base s ≡ Ok (later, t) → s.items ≡ t.items
        items_same h = ap (items_in s.items) h

        closer : t.items ≡ s.items → Near k count base s → count ≤ length t.items.types
        closer same (inl first) =
            let within = leads s.items (ty_of base) ty f in
            let many : length t.items.types ≡ length s.items.types = ap (λ (items : ItemTable). length items.types) same in
            let first_count = first.1 in omega arith
        closer same (inr near) =
            let many : length t.items.types ≡ length s.items.types = ap (λ (items : ItemTable). length items.types) same in omega arith

-- nothing was found
pub none_of : {A B : Type 0} (view : B → A) (o : Option B) (r : Option A) (b : Bool) → option_map view o ≡ r → b ≡ is_some o → b ≡ false → r ≡ None
none_of view None r b e is f = sym e
none_of view (Some x) r b e is f = absurd (cc)
