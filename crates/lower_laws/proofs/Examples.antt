-- Of each fact a program that is well typed, lacks that fact alone, and has a graph with a fault, beside one that has it.
-- (Texts whose programs are lowerable stand with the examples of the lowering.)
use Rattle.std.proofs.Common.{◌≡◌, ℕ, suc, ◌==◌, Bool, true, false, ◌&&◌, List, [], ◌∷◌, ◌++◌, Option, Some, None, map, pos, refl}
use Rattle.std.specs.Prelude.{codes, flat_map, option_map}
use Rattle.std.specs.List.{list_any}
use Rattle.cfg_graph.specs.declared.graph.Block as graph
use Rattle.cfg_graph.specs.declared.graph.Body.{Body}
use Rattle.cfg_graph.specs.declared.place.Place.{Place}
use Rattle.cfg_graph.specs.Uses.{places_of_stmt, places_of_term}
use Rattle.mir_base.specs.declared.int_kind.IntKind.{IntKind}
use Rattle.mir_base.specs.declared.place_in_text.Pos.{Pos}
use Rattle.cfg_graph.specs.WellFormed.Faults.{faults, first_fault}
use Rattle.mir_ty.specs.declared.adt.Adt.{Adt}
use Rattle.mir_ty.specs.declared.ty.Ty.{Ty}
use Rattle.mir_ty.specs.declared.ty.TyId.{TyId}
use Rattle.mir_ty.specs.ItemTable.{ItemTable}
use Rattle.typed_tree.specs.declared.node.Use.{Use}
use Rattle.typed_tree.specs.Tree.{Node, node, no_node, a_node, absent, present, Number, Variable, Panic, Block, Let, Evaluate, Binding, TuplePattern, ProgramTree}
use Rattle.well_typed.specs.Program.{is_well_typed}
use Rattle.lower_rules.specs.Lower.{graph_of}
use Rattle.lower_laws.specs.Lowerable.{is_lowerable}

abbrev counted : {A : Type 0} → ℕ → List A → List ℕ
counted n [] = []
counted n (x ∷ xs) = n ∷ counted (suc n) xs

-- ---- what a program may lack
abbrev here : Pos
here = record { line = 1; col = 1 }

abbrev ty_no : ℕ → TyId
ty_no k = record { 0 = k }

abbrev i32 : TyId
i32 = ty_no 0

abbrev unit : TyId
unit = ty_no 1

abbrev never : TyId
never = ty_no 3

abbrev types : List Ty
types = Ty.Int IntKind.I32 ∷ Ty.Unit ∷ Ty.Bool ∷ Ty.Never ∷ []

abbrev items : ItemTable
items = record {
  types = types;
  adts = [];
  traits = [];
  impls = [];
  closures = [];
  bodies = record { name = codes "main"; params = []; result = unit } ∷ [];
}

abbrev with_main : ItemTable → Node → ProgramTree
with_main items block = record { items = items; bodies = record { number = 0; params = []; answer = unit; block = block } ∷ [] }

abbrev empty : Node
empty = node 0 here unit None (Block no_node absent)

-- fn main() {}
abbrev plain : ProgramTree
plain = with_main items empty

plain_stands : is_well_typed plain && is_lowerable plain ≡ true
plain_stands = refl

plain_has_no_fault : faults (graph_of plain) ≡ []
plain_has_no_fault = refl

-- the number of the first fault of its graph
abbrev first_number : ProgramTree → Option ℕ
first_number p = option_map (λ fault. fault.number) (first_fault (graph_of p))

-- a box that holds itself: let x: T; where T is Box<T>
abbrev let_of : TyId → Use → Node
let_of ty by = node 0 here unit None (Block (a_node (node 1 here unit None (Let (node 2 here ty (Some by) (Binding (codes "x"))) absent)) no_node) absent)

abbrev boxed_in_itself : ProgramTree
boxed_in_itself = with_main (record items { types = Ty.Int IntKind.I32 ∷ Ty.Unit ∷ Ty.Bool ∷ Ty.Never ∷ Ty.Boxed (ty_no 4) ∷ [] }) (let_of (ty_no 4) Use.Move)

boxed_in_itself_lacks : (is_well_typed boxed_in_itself ≡ true) × (is_lowerable boxed_in_itself ≡ false) × (first_number boxed_in_itself ≡ Some 1)
boxed_in_itself_lacks = (refl, refl, refl)

-- struct dyn(i32);
abbrev struct_called : List ℕ → Adt
struct_called name = record {
  name = name;
  is_enum = false;
  variants = record { name = name; fields = i32 ∷ []; field_names = codes "0" ∷ [] } ∷ [];
  copy = false;
  drop_body = None;
}

abbrev with_struct : List ℕ → ProgramTree
with_struct name = with_main (record items { adts = struct_called name ∷ [] }) empty

struct_stands : (is_well_typed (with_struct (codes "S")) ≡ true) × (is_lowerable (with_struct (codes "S")) ≡ true) × (first_number (with_struct (codes "S")) ≡ None)
struct_stands = (refl, refl, refl)

struct_lacks : (is_well_typed (with_struct (codes "dyn")) ≡ true) × (is_lowerable (with_struct (codes "dyn")) ≡ false) × (first_number (with_struct (codes "dyn")) ≡ Some 7)
struct_lacks = (refl, refl, refl)

-- trait T { fn m&(&self); }
abbrev trait_with : List ℕ → ProgramTree
trait_with method = with_main (record items {
  types = Ty.Int IntKind.I32 ∷ Ty.Unit ∷ Ty.Bool ∷ Ty.Never ∷ Ty.Dyn 0 ∷ Ty.Shared (ty_no 4) ∷ [];
  traits = record { name = codes "T"; methods = record { name = method; params = ty_no 5 ∷ []; result = unit } ∷ [] } ∷ [];
}) empty

method_stands : (is_well_typed (trait_with (codes "m")) ≡ true) × (is_lowerable (trait_with (codes "m")) ≡ true) × (first_number (trait_with (codes "m")) ≡ None)
method_stands = (refl, refl, refl)

method_lacks : (is_well_typed (trait_with (codes "m&")) ≡ true) × (is_lowerable (trait_with (codes "m&")) ≡ false) × (first_number (trait_with (codes "m&")) ≡ Some 7)
method_lacks = (refl, refl, refl)

-- ---- what typing asks of a `let`, so that its lines and its locals have no fault

-- let x: T; of a type that is not in the table
let_stands : (is_well_typed (with_main items (let_of i32 Use.Copy)) ≡ true) × (is_lowerable (with_main items (let_of i32 Use.Copy)) ≡ true) × (first_number (with_main items (let_of i32 Use.Copy)) ≡ None)
let_stands = (refl, refl, refl)

let_is_ill_typed : (is_well_typed (with_main items (let_of (ty_no 4) Use.Move)) ≡ false) × (first_number (with_main items (let_of (ty_no 4) Use.Move)) ≡ Some 1)
let_is_ill_typed = (refl, refl)

-- fn f(x: !) { let (a, b): (i32, i32) = x; }
abbrev binds : ℕ → List ℕ → Node
binds id name = node id here i32 (Some Use.Copy) (Binding name)

abbrev apart : TyId → ProgramTree
apart ty = record {
  items = record items {
    types = Ty.Int IntKind.I32 ∷ Ty.Unit ∷ Ty.Bool ∷ Ty.Never ∷ Ty.Tuple (i32 ∷ i32 ∷ []) ∷ [];
    bodies = record { name = codes "main"; params = []; result = unit } ∷ record { name = codes "f"; params = ty ∷ []; result = unit } ∷ [];
  };
  bodies =
      record { number = 0; params = []; answer = unit; block = empty } ∷
      record {
        number = 1;
        params = record { pattern = node 0 here ty (Some Use.Copy) (Binding (codes "x")); ty = ty } ∷ [];
        answer = unit;
        block =
            node 1 here unit None
            (Block (a_node (node 2 here unit None
            (Let (node 3 here (ty_no 4) None (TuplePattern (a_node (binds 4 (codes "a")) (a_node (binds 5 (codes "b")) no_node))))
            (present (node 6 here ty None (Variable 0))))) no_node) absent);
      } ∷ [];
}

pair_stands : (is_well_typed (apart (ty_no 4)) ≡ true) × (is_lowerable (apart (ty_no 4)) ≡ true) × (first_number (apart (ty_no 4)) ≡ None)
pair_stands = (refl, refl, refl)

never_is_ill_typed : (is_well_typed (apart never) ≡ false) × (first_number (apart never) ≡ Some 3)
never_is_ill_typed = (refl, refl)

-- ---- which locals lines name

abbrev places_in : graph.Block → List Place
places_in block = flat_map places_of_stmt block.stmts ++ places_of_term block.term

abbrev is_named : Body → ℕ → Bool
is_named body local = list_any (λ place. place.local == local) (flat_map places_in body.blocks)

-- whether each local of `main` is named
abbrev are_named : ProgramTree → List (List Bool)
are_named p = map (λ body. map (is_named body) (counted 0 body.locals)) (graph_of p).bodies

-- fn main() { let x: i32; }
declared_alone : are_named (with_main items (let_of i32 Use.Copy)) ≡ (true ∷ true ∷ []) ∷ []
declared_alone = refl

-- fn main() { panic!(); let x = 1; }
abbrev behind_a_panic : ProgramTree
behind_a_panic =
    with_main items
    (node 0 here never None
    (Block (a_node (node 1 here unit None (Evaluate (node 2 here never None Panic)))
    (a_node (node 3 here unit None (Let (node 4 here i32 (Some Use.Copy) (Binding (codes "x"))) (present (node 5 here i32 None (Number (pos 1)))))) no_node)) absent))

behind_a_panic_stands : is_well_typed behind_a_panic && is_lowerable behind_a_panic ≡ true
behind_a_panic_stands = refl

behind_a_panic_named : are_named behind_a_panic ≡ (false ∷ false ∷ []) ∷ []
behind_a_panic_named = refl

-- fn f(x: i32) {}
abbrev unused_param : ProgramTree
unused_param = record {
  items = record items { bodies = record { name = codes "main"; params = []; result = unit } ∷ record { name = codes "f"; params = i32 ∷ []; result = unit } ∷ [] };
  bodies =
      record { number = 0; params = []; answer = unit; block = empty } ∷
      record {
        number = 1;
        params = record { pattern = node 0 here i32 (Some Use.Copy) (Binding (codes "x")); ty = i32 } ∷ [];
        answer = unit;
        block = node 1 here unit None (Block no_node absent);
      } ∷ [];
}

unused_param_named : are_named unused_param ≡ (true ∷ []) ∷ (true ∷ false ∷ []) ∷ []
unused_param_named = refl
