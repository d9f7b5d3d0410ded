-- Typing as a walk: what is known so far, and the first broken rule with its place. The lines of a `do` block follow
-- one
-- another as long as no rule is broken, so the order of lines is the order of rules.
use Rattle.std.specs.List.{position as position_of}
use Rattle.std.specs.Prelude.{ℕ, suc, Bool, ◌==◌, List, [], ◌∷◌, ◌++◌, length, Option, Some, None, Result, Ok, Err, if◌then◌else◌}
use Rattle.mir_base.specs.declared.place_in_text.Pos.{Pos}
use Rattle.mir_base.specs.declared.rule.Rule.{Rule}
use Rattle.mir_ty.specs.declared.ty.Ty.{Ty}
use Rattle.mir_ty.specs.declared.ty.TyId.{TyId}
use Rattle.mir_ty.specs.ItemTable.{ItemTable, with_type, with_closure}
use Rattle.typed_tree.specs.Tree.{BodyTree}
use Rattle.well_typed.specs.Items.{is_equal}

-- the items so far; the next number of a node in the body, and of a body; the breaks of the body, each with its loop's
-- number; the bodies that are whole
pub record TypingState : Type 0 where
  pub items : ItemTable
  pub next_node : ℕ
  pub next_body : ℕ
  pub breaks : List (ℕ × TyId)
  pub bodies : List BodyTree

pub record Broken : Type 0 where
  pub rule : Rule
  pub at : Pos

abbrev pub Check : Type 0 → Type 0
Check A = TypingState → Result (A × TypingState) Broken

abbrev pub and_then : {A B : Type 0} → Result (A × TypingState) Broken → (A → Check B) → Result (B × TypingState) Broken
and_then (Ok a) f = f a.0 a.1
and_then (Err e) f = Err e

infixl 10 ◌>>=◌
abbrev pub ◌>>=◌ : {A B : Type 0} → Check A → (A → Check B) → Check B
p >>= f = λ s. and_then (p s) f

infixl 10 ◌>>◌
abbrev pub ◌>>◌ : {A B : Type 0} → Check A → Check B → Check B
p >> q = p >>= (λ _. q)

abbrev pub pure : {A : Type 0} → A → Check A
pure a = λ s. Ok (a, s)

infixr 11 ◌<$>◌
abbrev pub ◌<$>◌ : {A B : Type 0} → (A → B) → Check A → Check B
f <$> p = p >>= (λ a. pure (f a))

-- the rule is broken there
abbrev pub breaks : {A : Type 0} → Rule → Pos → Check A
breaks rule at = λ s. Err (record { rule = rule; at = at })

-- the rule holds there where this is true
abbrev pub obeys : Rule → Pos → Bool → Check (Unit {0})
obeys rule at holds = if holds then pure tt else breaks rule at

-- what is there, or else the rule is broken
abbrev pub known : {A : Type 0} → Rule → Pos → Option A → Check A
known rule at None = breaks rule at
known rule at (Some a) = pure a

abbrev pub the_items : Check ItemTable
the_items = λ s. Ok (s.items, s)

-- the next number of a node
abbrev pub number : Check ℕ
number = λ s. Ok (s.next_node, record s { next_node = suc s.next_node })

-- the next number of a body
abbrev pub body_number : Check ℕ
body_number = λ s. Ok (s.next_body, record s { next_body = suc s.next_body })

abbrev pub ty_no : ℕ → TyId
ty_no n = record { 0 = n }

abbrev pub interned_at : Ty → Option ℕ → Check TyId
interned_at ty (Some n) = pure (ty_no n)
interned_at ty None = λ s. Ok (ty_no (length s.items.types), record s { items = with_type s.items ty })

-- the number of a type, which gets the next one where it has none
abbrev pub interned : Ty → Check TyId
interned ty = λ s. interned_at ty (position_of (is_equal ty) s.items.types) s

-- a closure with captures of these types; its number
abbrev pub closure_added : List TyId → ℕ → Check ℕ
closure_added captures body =
    λ s. Ok (
      length s.items.closures,
      record s {
        items =
            with_closure s.items (record { captures = captures; body = body });
      },
    )

-- within a body of its own
abbrev pub within_body : {A : Type 0} → TypingState → Result (A × TypingState) Broken → Result (A × TypingState) Broken
within_body outer (Ok a) = Ok (a.0, record (a.1) { next_node = outer.next_node; breaks = outer.breaks })
within_body outer (Err e) = Err e

abbrev pub in_new_body : {A : Type 0} → Check A → Check A
in_new_body check = λ s. within_body s (check (record s { next_node = 0; breaks = [] }))

-- a body that is whole stands before those of the closures in it
abbrev pub put_before : {A : Type 0} → List BodyTree → (A → BodyTree) → Result (A × TypingState) Broken →
    Result (A × TypingState)
    Broken
put_before earlier body (Ok a) = Ok (a.0, record (a.1) { bodies = earlier ++ body a.0 ∷ a.1.bodies })
put_before earlier body (Err e) = Err e

abbrev pub with_body : {A : Type 0} → (A → BodyTree) → Check A → Check A
with_body body check = λ s. put_before s.bodies body (check (record s { bodies = [] }))

-- a break out of the loop with this number, with a value of this type
abbrev pub breaks_out : ℕ → TyId → Check (Unit {0})
breaks_out loop ty = λ s. Ok (tt, record s { breaks = s.breaks ++ (loop, ty) ∷ [] })

abbrev pub types_for : ℕ → List (ℕ × TyId) → List TyId
types_for loop [] = []
types_for loop (b ∷ bs) = if b.0 == loop then b.1 ∷ types_for loop bs else types_for loop bs

-- the types of the breaks out of a loop
abbrev pub types_of_breaks : ℕ → Check (List TyId)
types_of_breaks loop = λ s. Ok (types_for loop s.breaks, s)

-- each of some things in its order
abbrev pub each_checked : {A B : Type 0} → (A → Check B) → List A → Check (List B)
each_checked f [] = pure []
each_checked f (x ∷ xs) = do
  y ← f x
  ys ← each_checked f xs
  pure (y ∷ ys)
