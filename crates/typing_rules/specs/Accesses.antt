-- What an expression does to places, in its order, and where references that are passed together overlap (The Rust
-- Reference, "Operator expressions", "Borrow operators"; rustc's borrow checker, errors E0499, E0502, E0505, E0506).
use Rattle.std.specs.Prelude.{ℕ, suc, Bool, true, false, ◌==◌, ◌&&◌, ◌||◌, not, List, [], ◌∷◌, ◌++◌, map, Option, Some, None, option_map, if◌then◌else◌}
use Rattle.std.specs.List.{filter_map, list_any, find}
use Rattle.mir_base.specs.declared.place_in_text.Pos.{Pos}
use Rattle.typed_tree.specs.declared.node.Use.{Use}
use Rattle.typed_tree.specs.Tree.{Node, node, Nodes, no_node, a_node, Fields, no_field, a_field, MaybeNode, absent, present, Form, Variable, Captured, Field, Index, Deref, Not, Negate, Arithmetic, Comparison, And, Or, Assign, Call, MethodCall, VirtualCall, ClosureCall, Make, Tuple, Array, Closure, NewBox, Print, DropValue, Forget, Borrow, Unsize, Block, Let, Evaluate, If, IfLet, Match, Arm, Loop, While, WhileLet, Break, Return, Binding, StructPattern, VariantPattern, TuplePattern, ArrayPattern}

-- ---- places

-- a part, or the content of a box or what a reference names
pub data AccessStep : Type 0 where
  ToPart : (number : ℕ) → AccessStep
  ToContent : AccessStep

-- A variable by its key, and steps inwards. An index ends the steps: the whole array is meant, and nothing behind it.
pub record AccessPlace : Type 0 where
  pub key : ℕ
  pub steps : List AccessStep
  pub has_ended : Bool

abbrev pub variable_place : ℕ → AccessPlace
variable_place key = record { key = key; steps = []; has_ended = false }

abbrev pub with_step : AccessStep → AccessPlace → AccessPlace
with_step step p = if p.has_ended then p else record p { steps = p.steps ++ step ∷ [] }

abbrev pub with_end : AccessPlace → AccessPlace
with_end p = record p { has_ended = true }

abbrev pub is_same_step : AccessStep → AccessStep → Bool
is_same_step (ToPart a) (ToPart b) = a == b
is_same_step ToContent ToContent = true
is_same_step _ _ = false

-- the one begins with the other
abbrev pub begin_alike : List AccessStep → List AccessStep → Bool
begin_alike [] steps = true
begin_alike steps [] = true
begin_alike (a ∷ as_) (b ∷ bs) = is_same_step a b && begin_alike as_ bs

abbrev pub overlap : AccessPlace → AccessPlace → Bool
overlap a b = a.key == b.key && begin_alike a.steps b.steps

-- a temporary overlaps nothing
abbrev pub overlap_if_any : Option AccessPlace → Option AccessPlace → Bool
overlap_if_any (Some a) (Some b) = overlap a b
overlap_if_any _ _ = false

-- Inside a guard the name of a binding of its arm stands for the matched part of the scrutinee, which may be a
-- temporary.
abbrev pub Aliases : Type 0
Aliases = List (ℕ × Option AccessPlace)

abbrev pub or_variable : ℕ → Option (ℕ × Option AccessPlace) → Option AccessPlace
or_variable key None = Some (variable_place key)
or_variable key (Some alias) = alias.1

abbrev pub place_of_key : Aliases → ℕ → Option AccessPlace
place_of_key aliases key = or_variable key (find (λ (a : ℕ × Option AccessPlace). a.0 == key) aliases)

module _ (aliases : Aliases) where
  abbrev mutual
    pub place_of : Node → Option AccessPlace
    place_of (node id at ty by form) = place_of_form form

    pub place_of_form : Form → Option AccessPlace
    place_of_form (Variable key) = place_of_key aliases key
    place_of_form (Captured closure part name) = option_map (with_step (ToPart part)) (place_of_key aliases closure)
    place_of_form (Field base part) = option_map (with_step (ToPart part)) (place_of base)
    place_of_form (Index base index count) = option_map with_end (place_of base)
    place_of_form (Deref base) = option_map (with_step ToContent) (place_of base)
    place_of_form _ = None

-- the key of the variable at a place's root
abbrev mutual
  pub root_of : Node → Option ℕ
  root_of (node id at ty by form) = root_of_form form

  pub root_of_form : Form → Option ℕ
  root_of_form (Variable key) = Some key
  root_of_form (Captured closure part name) = Some closure
  root_of_form (Field base part) = root_of base
  root_of_form (Index base index count) = root_of base
  root_of_form (Deref base) = root_of base
  root_of_form _ = None

-- ---- accesses

pub data Access : Type 0 where
  Reads : Access
  Moves : Access
  Stores : Access
  Borrows : Access
  BorrowsUniquely : Access

-- an access to a place, whose root is a variable, and where it stands
pub record Accessed : Type 0 where
  pub access : Access
  pub place : Option AccessPlace
  pub root : Option ℕ
  pub at : Pos

-- moving, storing and borrowing by `&mut`
abbrev pub changes : Access → Bool
changes Moves = true
changes Stores = true
changes BorrowsUniquely = true
changes _ = false

abbrev pub replaces : Access → Bool
replaces Stores = true
replaces BorrowsUniquely = true
replaces _ = false

-- What an expression does to places, and where it conflicts within itself.
pub record CollectedAccesses : Type 0 where
  pub accesses : List Accessed
  pub conflicts : List Pos

abbrev pub quiet : CollectedAccesses
quiet = record { accesses = []; conflicts = [] }

infixr 5 ◌⊕◌
abbrev pub ◌⊕◌ : CollectedAccesses → CollectedAccesses → CollectedAccesses
a ⊕ b = record { accesses = a.accesses ++ b.accesses; conflicts = a.conflicts ++ b.conflicts }

abbrev pub one : Access → Option AccessPlace → Option ℕ → Pos → CollectedAccesses
one access place root at =
    record { accesses = record { access = access; place = place; root = root; at = at } ∷ []; conflicts = [] }

abbrev pub conflicting : List Pos → CollectedAccesses
conflicting at = record { accesses = []; conflicts = at }

abbrev pub access_by : Option Use → Option Access
access_by (Some Use.Move) = Some Moves
access_by (Some Use.Copy) = Some Reads
access_by (Some Use.Borrow) = Some Borrows
access_by (Some Use.BorrowMut) = Some BorrowsUniquely
access_by _ = None

abbrev pub own_access : Option Access → Option AccessPlace → Option ℕ → Pos → CollectedAccesses
own_access None place root at = quiet
own_access (Some access) place root at = one access place root at

-- ---- arguments

-- a reference argument names a place, or a temporary; a receiver that is borrowed is one too
pub record Referring : Type 0 where
  pub place : Option AccessPlace
  pub unique : Bool

pub record Argument : Type 0 where
  pub refers : Option Referring
  pub is_receiver : Bool
  pub at : Pos
  pub told : CollectedAccesses

abbrev pub refers_by : Aliases → Form → Option Referring
refers_by aliases (Borrow unique base) = Some record { place = place_of aliases base; unique = unique }
refers_by aliases _ = None

-- two references of one list overlap and one of them is `&mut`: at the later one
abbrev pub overlap_together : Referring → Option Referring → Bool
overlap_together r None = false
overlap_together r (Some s) = (r.unique || s.unique) && overlap_if_any r.place s.place

-- an access that a reference before it does not allow: a change; behind an explicit `&mut` any access
abbrev pub is_against : Bool → Option AccessPlace → Accessed → Bool
is_against allows_none place a = (allows_none || changes a.access) && overlap_if_any place a.place

abbrev pub against : Bool → Option AccessPlace → Accessed → Option Pos
against allows_none place a = if is_against allows_none place a then Some a.at else None

abbrev pub at_if : Bool → Pos → List Pos
at_if b at = if b then at ∷ [] else []

abbrev pub against_one : Bool → Referring → Argument → List Pos
against_one is_receiver r later =
    at_if (overlap_together r later.refers) later.at ++
    filter_map (against (r.unique && not is_receiver) r.place) later.told.accesses

abbrev pub against_all : Bool → Option Referring → List Argument → List Pos
against_all is_receiver None later = []
against_all is_receiver (Some r) [] = []
against_all is_receiver (Some r) (a ∷ as_) = against_one is_receiver r a ++ against_all is_receiver (Some r) as_

abbrev pub conflicts_among : List Argument → List Pos
conflicts_among [] = []
conflicts_among (a ∷ as_) = against_all a.is_receiver a.refers as_ ++ conflicts_among as_

abbrev pub all_told : List Argument → CollectedAccesses
all_told [] = quiet
all_told (a ∷ as_) = a.told ⊕ all_told as_

abbrev pub passed_together : List Argument → CollectedAccesses
passed_together args = all_told args ⊕ conflicting (conflicts_among args)

-- ---- patterns

abbrev pub access_of_binding : Option Use → Access
access_of_binding (Some Use.Move) = Moves
access_of_binding _ = Reads

-- the parts that the bindings of a pattern take, each with the binding's key
abbrev mutual
  pub bound : Option AccessPlace → Node → List (ℕ × Accessed)
  bound place (node id at ty by form) = bound_by place id at by form

  pub bound_by : Option AccessPlace → ℕ → Pos → Option Use → Form → List (ℕ × Accessed)
  bound_by place id at by (Binding name) =
      (id, record { access = access_of_binding by; place = place; root = None; at = at }) ∷ []
  bound_by place id at by (StructPattern fields) = bound_fields place fields
  bound_by place id at by (VariantPattern variant is_test fields) = bound_fields place fields
  bound_by place id at by (TuplePattern parts) = bound_parts place 0 parts
  bound_by place id at by (ArrayPattern elements) = bound_parts place 0 elements
  bound_by place id at by _ = []

  pub bound_fields : Option AccessPlace → Fields → List (ℕ × Accessed)
  bound_fields place no_field = []
  bound_fields place (a_field number value rest) =
      bound (option_map (with_step (ToPart number)) place) value ++ bound_fields place rest

  pub bound_parts : Option AccessPlace → ℕ → Nodes → List (ℕ × Accessed)
  bound_parts place k no_node = []
  bound_parts place k (a_node first rest) =
      bound (option_map (with_step (ToPart k)) place) first ++ bound_parts place (suc k) rest

abbrev pub accesses_of : List (ℕ × Accessed) → CollectedAccesses
accesses_of bounds = record { accesses = map (λ (b : ℕ × Accessed). b.1) bounds; conflicts = [] }

abbrev pub alias_of : ℕ × Accessed → ℕ × Option AccessPlace
alias_of b = (b.0, b.1.place)

abbrev pub aliases_with : List (ℕ × Accessed) → Aliases → Aliases
aliases_with bounds aliases = map alias_of bounds ++ aliases

-- ---- guards

abbrev pub is_key : ℕ → Option ℕ → Bool
is_key key None = false
is_key key (Some root) = key == root

abbrev pub is_bound : Option ℕ → List (ℕ × Accessed) → Bool
is_bound root bounds = list_any (λ (b : ℕ × Accessed). is_key b.0 root) bounds

-- A guard does not change a place that overlaps its scrutinee, nor store into or borrow by `&mut` a binding of its arm.
abbrev pub against_guard : Option AccessPlace → List (ℕ × Accessed) → Accessed → Option Pos
against_guard scrutinee bounds a =
    if (changes a.access && overlap_if_any scrutinee a.place) || (replaces a.access && is_bound a.root bounds) then
    Some a.at
    else None

abbrev pub of_guard : Option AccessPlace → List (ℕ × Accessed) → CollectedAccesses → CollectedAccesses
of_guard scrutinee bounds told = told ⊕ conflicting (filter_map (against_guard scrutinee bounds) told.accesses)

abbrev pub is_one_name : Node → Bool
is_one_name (node id at ty by (Binding name)) = true
is_one_name _ = false

-- a pattern with parts takes them out of the initialiser's place
abbrev pub of_let : Aliases → Node → Node → CollectedAccesses
of_let aliases pattern value =
    if is_one_name pattern then quiet else accesses_of (bound (place_of aliases value) pattern)

abbrev pub of_scrutinee : Aliases → Node → Node → CollectedAccesses
of_scrutinee aliases pattern scrutinee = accesses_of (bound (place_of aliases scrutinee) pattern)

abbrev pub receiver_of : Aliases → Node → CollectedAccesses → Argument
receiver_of aliases (node id at ty by form) told =
    record { refers = refers_by aliases form; is_receiver = true; at = at; told = told }

abbrev mutual
  -- an expression with the use of its place
  pub told : Aliases → Node → CollectedAccesses
  told aliases (node id at ty by form) =
      told_form aliases at form ⊕ own_access (access_by by) (place_of aliases (node id at ty by form)) (root_of_form
      form) at

  -- what is inside a place, without its own use
  pub inside : Aliases → Node → CollectedAccesses
  inside aliases (node id at ty by form) = told_form aliases at form

  pub told_form : Aliases → Pos → Form → CollectedAccesses
  told_form aliases at (Field base part) = inside aliases base
  told_form aliases at (Index base index count) =
      inside aliases base ⊕ told aliases index ⊕ one Borrows (option_map with_end (place_of aliases base)) (root_of
      base) at
  told_form aliases at (Deref base) = inside aliases base
  told_form aliases at (Not operand) = told aliases operand
  told_form aliases at (Negate operand) = told aliases operand
  told_form aliases at (Arithmetic operator left right) = told aliases left ⊕ told aliases right
  told_form aliases at (Comparison operator left right) = told aliases left ⊕ told aliases right
  told_form aliases at (And left right) = told aliases left ⊕ told aliases right
  told_form aliases at (Or left right) = told aliases left ⊕ told aliases right
  told_form aliases at (Assign place value) =
      told aliases value ⊕ inside aliases place ⊕ one Stores (place_of aliases place) (root_of place) at
  told_form aliases at (Call body args) = passed_together (arguments aliases args)
  told_form aliases at (MethodCall body receiver args) =
      passed_together (receiver_of aliases receiver (told aliases receiver) ∷ arguments aliases args)
  told_form aliases at (VirtualCall trait_no method receiver args) =
      passed_together (receiver_of aliases receiver (told aliases receiver) ∷ arguments aliases args)
  told_form aliases at (ClosureCall body callee args) = told aliases callee ⊕ passed_together (arguments aliases args)
  told_form aliases at (Make adt variant fields) = told_fields aliases fields
  told_form aliases at (Tuple parts) = told_all aliases parts
  told_form aliases at (Array elements) = told_all aliases elements
  told_form aliases at (Closure closure captures) = told_all aliases captures
  told_form aliases at (NewBox content) = told aliases content
  told_form aliases at (Print operand) = told aliases operand
  told_form aliases at (DropValue operand) = told aliases operand
  told_form aliases at (Forget operand) = told aliases operand
  told_form aliases at (Borrow unique base) =
      inside aliases base ⊕
      one (if unique then BorrowsUniquely else Borrows) (place_of aliases base) (root_of base) at
  told_form aliases at (Unsize trait_no operand) = told aliases operand
  told_form aliases at (Block statements tail) = told_all aliases statements ⊕ told_maybe aliases tail
  told_form aliases at (Let pattern absent) = quiet
  told_form aliases at (Let pattern (present value)) = told aliases value ⊕ of_let aliases pattern value
  told_form aliases at (Evaluate expression) = told aliases expression
  told_form aliases at (If condition body otherwise) =
      told aliases condition ⊕ told aliases body ⊕ told_maybe aliases otherwise
  told_form aliases at (IfLet pattern scrutinee body otherwise) =
      told aliases scrutinee ⊕ of_scrutinee aliases pattern scrutinee ⊕ told aliases body ⊕ told_maybe aliases otherwise
  told_form aliases at (Match scrutinee arms) =
      told aliases scrutinee ⊕ told_arms aliases (place_of aliases scrutinee) arms
  told_form aliases at (Loop body) = told aliases body
  told_form aliases at (While condition body) = told aliases condition ⊕ told aliases body
  told_form aliases at (WhileLet pattern scrutinee body) =
      told aliases scrutinee ⊕ of_scrutinee aliases pattern scrutinee ⊕ told aliases body
  told_form aliases at (Break loop value) = told_maybe aliases value
  told_form aliases at (Return value) = told_maybe aliases value
  told_form aliases at _ = quiet

  pub told_all : Aliases → Nodes → CollectedAccesses
  told_all aliases no_node = quiet
  told_all aliases (a_node first rest) = told aliases first ⊕ told_all aliases rest

  pub told_fields : Aliases → Fields → CollectedAccesses
  told_fields aliases no_field = quiet
  told_fields aliases (a_field number value rest) = told aliases value ⊕ told_fields aliases rest

  pub told_maybe : Aliases → MaybeNode → CollectedAccesses
  told_maybe aliases absent = quiet
  told_maybe aliases (present value) = told aliases value

  pub arguments : Aliases → Nodes → List Argument
  arguments aliases no_node = []
  arguments aliases (a_node first rest) = argument aliases first ∷ arguments aliases rest

  pub argument : Aliases → Node → Argument
  argument aliases (node id at ty by form) = record {
    refers = refers_by aliases form;
    is_receiver = false;
    at = at;
    told =
        told_form aliases at form ⊕ own_access (access_by by) (place_of aliases (node id at ty by form))
        (root_of_form form) at;
  }

  pub told_arms : Aliases → Option AccessPlace → Nodes → CollectedAccesses
  told_arms aliases scrutinee no_node = quiet
  told_arms aliases scrutinee (a_node first rest) = told_arm aliases scrutinee first ⊕ told_arms aliases scrutinee rest

  pub told_arm : Aliases → Option AccessPlace → Node → CollectedAccesses
  told_arm aliases scrutinee (node id at ty by (Arm pattern guard body)) =
      told_guard aliases scrutinee (bound scrutinee pattern) guard ⊕ accesses_of (bound scrutinee pattern) ⊕ told
      aliases body
  told_arm aliases scrutinee _ = quiet

  pub told_guard : Aliases → Option AccessPlace → List (ℕ × Accessed) → MaybeNode → CollectedAccesses
  told_guard aliases scrutinee bounds absent = quiet
  told_guard aliases scrutinee bounds (present guard) =
      of_guard scrutinee bounds (told (aliases_with bounds aliases) guard)
