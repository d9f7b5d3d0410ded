-- Places of a typed body, what is in scope around a node, and how a place may be used (The Rust Reference, "Place
-- Expressions and Value Expressions", "Moved and copied types").
use Rattle.std.specs.Prelude.{ℕ, ◌==◌, Bool, true, false, ◌&&◌, ◌||◌, not, List, [], ◌∷◌, ◌++◌, Option, Some, None, is_none, if◌then◌else◌}
use Rattle.std.specs.List.{find}
use Rattle.std.specs.Option.{option_map_or}
use Rattle.mir_ty.specs.declared.ty.TyId.{TyId}
use Rattle.mir_ty.specs.Facts.{is_copy, has_drop_impl}
use Rattle.mir_ty.specs.ItemTable.{ItemTable}
use Rattle.typed_tree.specs.declared.node.Use.{Use}
use Rattle.typed_tree.specs.Tree.{Node, node, Form, Variable, Captured, Field, Index, Deref, Borrow}
use Rattle.well_typed.specs.Claim.{Claim, fact, ◌&◌}
use Rattle.well_typed.specs.Types.{is_reference, reference_of, is_dyn, is_never, fits, is_same}

-- an entry in scope: its key and type, and whether it is a binding inside its own guard
pub record InScope : Type 0 where
  pub key : ℕ
  pub ty : TyId
  pub is_in_guard : Bool

-- a loop around a node: its number and type, and whether its breaks may carry a value
pub record LoopAround : Type 0 where
  pub loop : ℕ
  pub ty : TyId
  pub has_value : Bool

-- where a node stands: the items, the entries in scope, in the body of a closure the closure's value, the loops around
-- it, and the type of the body's result
pub record Context : Type 0 where
  pub items : ItemTable
  pub entries : List InScope
  pub closure : Option InScope
  pub loops : List LoopAround
  pub answer : TyId

abbrev pub with_entries : List InScope → Context → Context
with_entries new c = record c { entries = new ++ c.entries }

abbrev pub within : LoopAround → Context → Context
within loop c = record c { loops = loop ∷ c.loops }

abbrev in_own_guard : InScope → InScope
in_own_guard x = record x { is_in_guard = true }

-- inside a guard the names of its arm stand for the parts that they would take
abbrev pub in_guard : List InScope → List InScope
in_guard [] = []
in_guard (x ∷ xs) = in_own_guard x ∷ in_guard xs

abbrev pub entry_with : ℕ → List InScope → Option InScope
entry_with key entries = find (λ x. x.key == key) entries

abbrev pub loop_with : ℕ → List LoopAround → Option LoopAround
loop_with loop loops = find (λ a. a.loop == loop) loops

abbrev pub ty_of : Node → TyId
ty_of (node id at ty by form) = ty

abbrev pub form_of : Node → Form
form_of (node id at ty by form) = form

abbrev pub is_place : Form → Bool
is_place (Variable key) = true
is_place (Captured closure part name) = true
is_place (Field base part) = true
is_place (Index base index length) = true
is_place (Deref base) = true
is_place _ = false

abbrev pub is_borrow : Form → Bool
is_borrow (Borrow unique base) = true
is_borrow _ = false

abbrev is_move : Use → Bool
is_move Use.Move = true
is_move _ = false

abbrev is_copying : Use → Bool
is_copying Use.Copy = true
is_copying _ = false

abbrev is_borrowing : Use → Bool
is_borrowing Use.Borrow = true
is_borrowing _ = false

abbrev is_borrowing_uniquely : Use → Bool
is_borrowing_uniquely Use.BorrowMut = true
is_borrowing_uniquely _ = false

abbrev is_testing : Use → Bool
is_testing Use.Test = true
is_testing _ = false

abbrev is_storing : Use → Bool
is_storing Use.Store = true
is_storing _ = false

abbrev pub is_use : Use → Use → Bool
is_use Use.Move = is_move
is_use Use.Copy = is_copying
is_use Use.Borrow = is_borrowing
is_use Use.BorrowMut = is_borrowing_uniquely
is_use Use.Test = is_testing
is_use Use.Store = is_storing

-- used so
abbrev pub is_by : Use → Option Use → Bool
is_by want by = option_map_or (is_use want) by false

-- what is Copy is copied, and the rest is moved
abbrev pub taking : ItemTable → TyId → Use
taking items ty = if is_copy items ty then Use.Copy else Use.Move

abbrev pub borrow_by : Bool → Use
borrow_by unique = if unique then Use.BorrowMut else Use.Borrow

abbrev pub is_guarded : List InScope → ℕ → Bool
is_guarded entries key = option_map_or (λ x. x.is_in_guard) (entry_with key entries) false

-- a binding inside its own guard, by itself
abbrev pub is_own_binding : Context → Form → Bool
is_own_binding c (Variable key) = is_guarded c.entries key
is_own_binding c _ = false

abbrev pub names_shared : Option (Bool × TyId) → Bool
names_shared None = false
names_shared (Some r) = not r.0

module _ (c : Context) where
  -- A place may be moved out of: it is not behind a reference, no element, in no type with a `Drop` impl, and no
  -- binding
  -- inside its own guard. What is no place is a temporary.
  abbrev mutual
    pub may_move : Node → Bool
    may_move (node id at ty by form) = may_move_by form

    pub may_move_by : Form → Bool
    may_move_by (Variable key) = not (is_guarded c.entries key)
    may_move_by (Field base part) = not (has_drop_impl c.items (ty_of base)) && may_move base
    may_move_by (Index base index length) = false
    may_move_by (Deref base) = not (is_reference c.items (ty_of base)) && may_move base
    may_move_by _ = true

  -- a place with a variable of type `&T` at its root
  abbrev mutual
    pub is_rooted : Node → Bool
    is_rooted (node id at ty by form) = is_rooted_by ty form

    pub is_rooted_by : TyId → Form → Bool
    is_rooted_by ty (Variable key) = names_shared (reference_of c.items ty)
    is_rooted_by ty (Field base part) = is_rooted base
    is_rooted_by ty (Index base index length) = is_rooted base
    is_rooted_by ty (Deref base) = is_rooted base
    is_rooted_by ty _ = false

  -- a place behind `&`, which is neither stored into nor borrowed by `&mut`
  abbrev pub is_behind_shared : Node → Bool
  is_behind_shared (node id at ty by form) = is_place form && is_rooted_by ty form

  abbrev pub may_take : Bool → TyId → Form → Bool
  may_take copies ty form = copies || (may_move_by form && not (is_dyn c.items ty))

-- How a node stands in the one around it.
pub data Standing : Type 0 where
  -- its value is used; it is of a type that fits this one; it is an argument for a parameter of this type
  Taken : Standing
  Wanted : (ty : TyId) → Standing
  Passed : (ty : TyId) → Standing
  -- its place is gone through, is borrowed or tested, is stored into
  Base : Standing
  Used : (by : Use) → Standing
  Stored : Standing

module _ (c : Context) where
  -- a value in a value context: a place is copied or moved, and no reference is used by itself
  abbrev pub is_taken : TyId → Option Use → Form → Claim
  is_taken ty by form =
      if is_place form then
      (fact (is_by (taking c.items ty) by) & fact (may_take c (is_copy c.items ty) ty form) &
      fact (not (is_reference c.items ty)))
      else fact (is_none by && not (is_borrow form))

  -- a place with this use, or a value that becomes a temporary
  abbrev pub is_used : Use → Option Use → Form → Bool
  is_used want by form = if is_place form then is_by want by else is_none by && not (is_borrow form)

  -- A node may stand so. An argument for a reference is a borrow, or of type `!`; `&` and `&mut` stand nowhere else.
  -- A scrutinee or
  -- what is stored into is not a reference by itself.
  abbrev pub stands : Standing → TyId → Option Use → Form → Claim
  stands Taken ty by form = is_taken ty by form
  stands (Wanted want) ty by form = is_taken ty by form & fact (fits c.items want ty)
  stands (Passed want) ty by form =
      if is_reference c.items want && not (is_never c.items ty) then fact (is_borrow form && is_none by && is_same ty
      want)
      else (is_taken ty by form & fact (fits c.items want ty))
  stands Base ty by form = fact (is_none by && not (is_borrow form))
  stands (Used want) ty by form = fact (is_used want by form && not (is_reference c.items ty))
  stands Stored ty by form =
      fact (is_place form && is_by Use.Store by && not (is_reference c.items ty)) & fact (not (is_own_binding c form)) &
      fact (not (is_dyn c.items ty))
