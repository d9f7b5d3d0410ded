-- Rules for what a check adds, one a step of a row.
use Rattle.std.proofs.Common.{◌≡◌, ℕ, Bool, true, false, List, [], ◌∷◌, ◌++◌, length, slice_get, Option, Some, None, Result, Ok, Err, IsTrue, ◌⊎◌, inl, inr, refl, ap, sym, ◌∙◌}
use Rattle.std.specs.List.{position as position_of}
use Rattle.mir_base.specs.declared.place_in_text.Pos.{Pos}
use Rattle.mir_base.specs.declared.rule.Rule.{Rule}
use Rattle.mir_ty.specs.declared.ty.Ty.{Ty}
use Rattle.mir_ty.specs.declared.ty.TyId.{TyId}
use Rattle.mir_ty.specs.ItemTable.{type_at, with_type}
use Rattle.mir_ty.specs.AreItems.{AreDistinct}
use Rattle.mir_ty.proofs.ListLemmas.{slice_get-append_left, slice_get-last, slice_get-push_cases}
use Rattle.typing_rules.proofs.Sound.Interned.{found_at, not_there}
use Rattle.typed_tree.specs.Nodes.{nodes_of}
use Rattle.typed_tree.specs.Tree as tree
use Rattle.typed_tree.specs.Tree.{Node, node, Form, MaybeNode}
use Rattle.well_typed.specs.Items.{is_equal}
use Rattle.typing_rules.specs.Check.{Check, TypingState, Broken, and_then, obeys, known, breaks, interned, interned_at}
use Rattle.typing_rules.specs.Places.{Fit, Fits, Coerced, Differs, fit, place_in_text, agrees}
use Rattle.typing_rules.specs.Rows.{agrees_borrow, borrow_alone_end, fitted, fitted_by, settled}
use Rattle.typing_soundness.specs.Closures.{Tape}
use Rattle.typing_soundness.specs.Walks.{Walks, Walked}
use Rattle.typing_soundness.proofs.Walking.Adding.{Stays, stays_refl, walks_same, walks_outer}
use Rattle.well_typed.specs.Places.{ty_of}

-- ---- one step after another

pub walk : {A B : Type 0} {P : A → TypingState → Type 0} {R : B → TypingState → Type 0} {r : Result (A × TypingState) Broken} {f : A →
    Check B} → Walked P r → ((a : A) (t : TypingState) → P a t → Walked R (f a t)) → Walked R (and_then r f)
walk {r = Ok a} h k = k a.0 a.1 h.so
walk {r = Err e} h k = record { so = tt }

pub walk_obeyed : {B : Type 0} {R : B → TypingState → Type 0} {s : TypingState} (rule : Rule) (at : Pos) (holds : Bool) (f : Check
    B) → (IsTrue holds → Walked R (f s)) → Walked R (and_then (obeys rule at holds s) (λ _. f))
walk_obeyed rule at true f k = k refl
walk_obeyed rule at false f k = record { so = tt }

pub walk_found : {A B : Type 0} {R : B → TypingState → Type 0} {s : TypingState} (rule : Rule) (at : Pos) (o : Option A) (f : A →
    Check B) → ((a : A) → o ≡ Some a → Walked R (f a s)) → Walked R (and_then (known rule at o s) f)
walk_found rule at (Some a) f k = k a refl
walk_found rule at None f k = record { so = tt }

pub walk_ends : {A : Type 0} {R : A → TypingState → Type 0} {a : A} {t : TypingState} → R a t → Walked R (Ok (a, t))
walk_ends h = record { so = h }

pub walk_broken : {A : Type 0} {R : A → TypingState → Type 0} (rule : Rule) (at : Pos) (s : TypingState) → Walked R (breaks {A = A}
    rule at s)
walk_broken rule at s = record { so = tt }

pub walk_map : {A : Type 0} {P R : A → TypingState → Type 0} {r : Result (A × TypingState) Broken} → Walked P r → ((a : A) (t :
    TypingState) → P a t → R a t) → Walked R r
walk_map {r = Ok a} h k = record { so = k a.0 a.1 h.so }
walk_map {r = Err e} h k = record { so = tt }

-- what gives nothing, whatever comes first
pub walk_nothing : {A B : Type 0} {R : B → TypingState → Type 0} (rule : Rule) (at : Pos) (r : Result (A × TypingState) Broken) →
    Walked R (and_then r (λ _. breaks rule at))
walk_nothing rule at (Ok a) = record { so = tt }
walk_nothing rule at (Err e) = record { so = tt }

-- nor does a borrow that is no argument for a reference
pub walk_borrow_alone : {R : Node → TypingState → Type 0} (at : Pos) (unique : Bool) (expected : Option TyId) (r : Result (Node ×
    TypingState) Broken) → Walked R (and_then r (borrow_alone_end at unique expected))
walk_borrow_alone at unique expected (Err e) = record { so = tt }
walk_borrow_alone {R} at unique expected (Ok a) = by (agrees_borrow a.1.items unique (ty_of a.0) expected)
  where
    by : (b : Bool) → Walked R (and_then (obeys Rule.T03 at b a.1) (λ _. breaks Rule.T08 at))
    by true = record { so = tt }
    by false = record { so = tt }

-- states that differ in their items alone
pub record SameWalk (s t : TypingState) : Type 0 where
  pub number : t.next_node ≡ s.next_node
  pub breaks : t.breaks ≡ s.breaks
  pub stays : Stays s t

pub on_same : {f : Tape} {s t u : TypingState} {xs : List Node} → SameWalk t u → Walks f s t xs → Walks f s u xs
on_same {u = u} e p = walks_same u e.number e.breaks e.stays p

-- a type that is new
pub with_type_distinct : (ty : Ty) (tys : List Ty) → ((k : ℕ) → slice_get tys k ≡ Some ty → ⊥) → AreDistinct tys → AreDistinct
    (tys ++ ty ∷ [])
with_type_distinct ty tys absent all i j t a b =
    by (slice_get-push_cases tys ty i t a) (slice_get-push_cases tys ty j t b)
  where
    by : (slice_get tys i ≡ Some t) ⊎ ((i ≡ length tys) × (ty ≡ t)) → (slice_get tys j ≡ Some t) ⊎ ((j ≡ length
        tys) × (ty ≡ t)) → i ≡ j
    by (inl a) (inl b) = all i j t a b
    by (inl a) (inr b) = absurd (absent i (a ∙ ap Some (sym b.1)))
    by (inr a) (inl b) = absurd (absent j (b ∙ ap Some (sym a.1)))
    by (inr a) (inr b) = a.0 ∙ sym b.0

with_type_stays : (ty : Ty) (s : TypingState) → position_of (is_equal ty) s.items.types ≡ None → Stays s (record s {
  items =
      with_type s.items ty;
})
with_type_stays ty s is = record {
  types = λ n t h. slice_get-append_left s.items.types (ty ∷ []) n t h;
  distinct = with_type_distinct ty s.items.types (not_there ty s.items.types is);
  adts = refl;
  traits = refl;
  impls = refl;
  heads = refl;
  next_body = refl;
  bodies = refl;
  closures = refl;
}

-- a type gets a number, and has it
pub walk_interned_as : {B : Type 0} {R : B → TypingState → Type 0} (ty : Ty) (s : TypingState) {f : TyId → Check B} → ((id : TyId) (t
    : TypingState) → SameWalk s t → type_at t.items id ≡ Some ty → Walked R (f id t)) → Walked R (and_then (interned ty s) f)
walk_interned_as {R = R} ty s {f} k = by (position_of (is_equal ty) s.items.types) refl
  where
    by : (o : Option ℕ) → position_of (is_equal ty) s.items.types ≡ o → Walked R (and_then (interned_at ty o s) f)
    by (Some n) is =
        k _ s (record { number = refl; breaks = refl; stays = stays_refl s }) (found_at ty s.items.types n is)
    by None is =
        k _ _ (record { number = refl; breaks = refl; stays = with_type_stays ty s is }) (slice_get-last s.items.types ty)

pub walk_interned : {B : Type 0} {R : B → TypingState → Type 0} (ty : Ty) (s : TypingState) {f : TyId → Check B} → ((id : TyId) (t :
    TypingState) → SameWalk s t → Walked R (f id t)) → Walked R (and_then (interned ty s) f)
walk_interned ty s k = walk_interned_as ty s λ id t e is. k id t e

-- nothing comes behind it
pub interned_ends : {R : TyId → TypingState → Type 0} (ty : Ty) (s : TypingState) → ((id : TyId) (t : TypingState) → SameWalk s t → R id t) →
    Walked R (interned ty s)
interned_ends {R} ty s k = by (position_of (is_equal ty) s.items.types) refl
  where
    by : (o : Option ℕ) → position_of (is_equal ty) s.items.types ≡ o → Walked R (interned_at ty o s)
    by (Some n) is = walk_ends (k _ s (record { number = refl; breaks = refl; stays = stays_refl s }))
    by None is = walk_ends (k _ _ (record { number = refl; breaks = refl; stays = with_type_stays ty s is }))

-- ---- the end of a row

fitted_so : {C : Type 0} {f : Tape} (expected : TyId) (n : Node) {s t : TypingState} (how : Fit) → (C → Walks f s t (nodes_of n)) →
    Walked (λ m u. C → Walks f s u (nodes_of m)) (fitted_by expected n how t)
fitted_so expected n Fits p = walk_ends p
fitted_so expected n (Coerced trait_no) p = walk_ends (λ c. walks_outer (place_in_text n) expected None (tree.Unsize trait_no n)
    (p c))
fitted_so expected n Differs p = record { so = tt }

-- a leaf, which may be coerced, where something is so
pub fitted_when : {C : Type 0} {f : Tape} (expected : Option TyId) (n : Node) {s t : TypingState} → (C → Walks f s t (nodes_of n)) →
    Walked (λ m u. C → Walks f s u (nodes_of m)) (fitted expected n t)
fitted_when None n p = walk_ends p
fitted_when (Some expected) n {t = t} p = fitted_so expected n (fit t.items expected (ty_of n)) p

pub walk_fitted : {f : Tape} (expected : Option TyId) (n : Node) {s t : TypingState} → Walks f s t (nodes_of n) → Walked (λ m u. Walks f s u
    (nodes_of m)) (fitted expected n t)
walk_fitted expected n p = walk_map (fitted_when {C = Unit {0}} expected n (λ _. p)) λ m u h. h tt

pub walk_settled : {f : Tape} (expected : Option TyId) (n : Node) {s t : TypingState} → Walks f s t (nodes_of n) → Walked (λ m u. Walks f s u
    (nodes_of m)) (settled expected n t)
walk_settled expected n {t = t} p = walk_obeyed Rule.T03 (place_in_text n) (agrees t.items expected (ty_of n)) _ λ is. walk_ends
    p
