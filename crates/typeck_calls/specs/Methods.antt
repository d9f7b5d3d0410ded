-- Methods of a value, in Rust as the rules of typing see them.
use Rattle.std.specs.Prelude.{◌≡◌, ℕ, ◌==◌, Bool, false, ◌&&◌, ◌||◌, not, List, [], ◌∷◌, length, Option, Some, None, IsSome, option_and_then, option_map, slice_get, Result, Ok, Err, if◌then◌else◌}
use Rattle.std.specs.Option.{option_map_or}
use Rattle.mir_base.specs.declared.place_in_text.Pos.{Pos}
use Rattle.mir_base.specs.declared.rule.Rule.{Rule}
use Rattle.mir_base.specs.declared.rule.RuleError.{RuleError}
use Rattle.mir_ty.specs.declared.ty.TyId.{TyId}
use Rattle.mir_ty.specs.ItemTable.{ItemTable}
use Rattle.typed_tree.specs.Tree as tree
use Rattle.typed_tree.specs.Tree.{Form, Node, Nodes}
use Rattle.typeck_checker.specs.Lists.{behind_form}
use Rattle.typeck_heads.specs.Answers.{Refuses}
use Rattle.typeck_checker.specs.Stand.{stack, state, top}
use Rattle.typeck_checker.specs.declared.checker.Checker.{Checker}
use Rattle.typing_rules.specs.Check.{Broken, Check, TypingState, ◌>>=◌, breaks, the_items}
use Rattle.typing_rules.specs.Named.{with_head}
use Rattle.typing_rules.specs.Places.{is_behind_shared}
use Rattle.typing_rules.specs.Rows as rows
use Rattle.typing_rules.specs.Rows.{method_call_end}
use Rattle.mir_ty.specs.DropBodies.{is_drop_body}
use Rattle.well_typed.specs.Places.{form_of}
use Rattle.well_typed.specs.Types.{is_same, reference_of}
use Rattle.typeck_calls.specs.declared.methods.Method.{Method}
use Rattle.typeck_calls.specs.declared.receivers.Called.{Called}
use Rattle.typeck_calls.specs.declared.receivers.MethodReceiver.{MethodReceiver}

-- a method by its body, or by its trait and number, with its head in the items
abbrev pub method_seen : ItemTable → Method → Option rows.Method
method_seen items (Method.OfAdt body) = with_head items body (slice_get items.bodies body)
method_seen items (Method.OfTrait trait_no k) =
    option_and_then (λ def. option_map (rows.OfTrait trait_no k) (slice_get def.methods k)) (slice_get items.traits
    trait_no)

-- a method that was found, if one was
abbrev pub IsMethod : ItemTable → Option Method → Option rows.Method → Type 0
IsMethod items None found = found ≡ None
IsMethod items (Some method) found = IsSome found × (found ≡ method_seen items method)

-- the last node is the one that was gone to, and this method was found of its type; want of memory says nothing
abbrev pub GivesMethod : Result ((Node × Option rows.Method) × TypingState) Broken → Result (Option Method) RuleError →
    Checker → Type 0
GivesMethod outcome (Ok method) after =
    (found : Option rows.Method) × IsMethod after.walk.items method found ×
    (outcome ≡ Ok ((top (stack after), found), state after))
GivesMethod outcome (Err e) after = Refuses outcome e

-- it is the body of a `Drop` impl
abbrev pub is_drop_of : ItemTable → Method → Bool
is_drop_of items (Method.OfAdt body) = is_drop_body items body
is_drop_of items (Method.OfTrait trait_no k) = false

-- the type of `self`, of a method of a value of this type
abbrev pub self_of : ItemTable → TyId → List TyId → Option TyId
self_of items own [] = None
self_of items own (self ∷ params) =
    if is_same self own || option_map_or (λ r. is_same r.1 own) (reference_of items self) false then Some self else None

-- what is borrowed is behind `&`
abbrev pub form_shared : ItemTable → Form → Bool
form_shared items (tree.Borrow unique base) = is_behind_shared items base
form_shared items _ = false

abbrev pub borrows_shared : ItemTable → Node → Bool
borrows_shared items n = form_shared items (form_of n)

-- the last node is the receiver that was made of this one; whether it is borrowed by `&mut`, so that it may not be
-- behind `&`
abbrev pub GivesReceiver : Result (Node × TypingState) Broken → Node → Result Bool RuleError → Checker → Type 0
GivesReceiver outcome base (Ok unique) after =
    (outcome ≡ Ok (top (stack after), state after)) ×
    ((items : ItemTable) → (unique && borrows_shared items (top (stack after)))
    ≡ (rows.is_unique_borrow (form_of (top (stack after))) && is_behind_shared items base))
GivesReceiver outcome base (Err e) after = Refuses outcome e

-- ---- how a call ends, by what is known of it before its arguments

abbrev pub ends_by : ℕ → Pos → Option Called → Bool → Option TyId → Node → Nodes → Check Node
ends_by id at None is_count expected receiver given = breaks Rule.T12 at
ends_by id at (Some called) is_count expected receiver given = do
  items ← the_items
  method_call_end id at called.answer (behind_form called.behind receiver given) is_count called.place_at
      (called.is_unique && borrows_shared items receiver) (not called.is_drop) expected

-- its receiver is this node, and there are so many arguments
abbrev pub received_end : ℕ → Pos → Option TyId → MethodReceiver → Node → ℕ → Nodes → Check Node
received_end id at expected r receiver count given = ends_by id at r.called (count == length r.params) expected receiver given
