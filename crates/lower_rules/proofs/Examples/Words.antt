-- Words in which the examples write typed trees, and what they begin with: a struct whose `Drop` body panics at a negative number.
--     struct N(i32);
--     impl Drop for N { fn drop(&mut self) { if self.0 < 0 { panic!() } } }
use Rattle.std.specs.Prelude.{ℕ, ◌+◌, ℤ, pos, List, [], ◌∷◌, Some, None, false, codes}
use Rattle.mir_base.specs.declared.int_kind.IntKind.{IntKind}
use Rattle.mir_base.specs.declared.operator.Cmp.{Cmp}
use Rattle.mir_base.specs.declared.place_in_text.Pos.{Pos}
use Rattle.mir_ty.specs.declared.adt.Adt.{Adt}
use Rattle.mir_ty.specs.declared.def.Sig.{Sig}
use Rattle.mir_ty.specs.declared.ty.Ty.{Ty}
use Rattle.mir_ty.specs.declared.ty.TyId.{TyId}
use Rattle.typed_tree.specs.declared.node.Use.{Use}
use Rattle.typed_tree.specs.Tree.{Node, node, Form, Nodes, no_node, a_node, no_field, a_field, absent, present, Number, Variable, Field, Deref, Comparison, Make, Panic, Block, If, Let, Evaluate, Binding, BodyTree, ProgramTree}

-- The examples have no text, so all nodes stand at one place.
abbrev here : Pos
here = record { line = 1; col = 1 }

abbrev pub n : ℕ → TyId → Form → Node
n id ty form = node id here ty None form

abbrev pub used : ℕ → TyId → Use → Form → Node
used id ty by form = node id here ty (Some by) form

abbrev pub a_name : Form
a_name = Binding (codes "x")

abbrev ty_no : ℕ → TyId
ty_no k = record { 0 = k }

abbrev pub i32 : TyId
i32 = ty_no 0

abbrev pub unit : TyId
unit = ty_no 1

abbrev pub bool : TyId
bool = ty_no 2

abbrev pub never : TyId
never = ty_no 3

abbrev pub n_ty : TyId
n_ty = ty_no 4

abbrev unique_n_ty : TyId
unique_n_ty = ty_no 5

abbrev n_struct : Adt
n_struct = record {
  name = codes "N";
  is_enum = false;
  variants = (record { name = codes "N"; fields = i32 ∷ []; field_names = codes "f" ∷ [] }) ∷ [];
  copy = false;
  drop_body = Some 0;
}

abbrev pub signature : List ℕ → List TyId → TyId → Sig
signature name params answer = record { name = name; params = params; result = answer }

abbrev pub nodes : List Node → Nodes
nodes [] = no_node
nodes (first ∷ rest) = a_node first (nodes rest)

abbrev pub let_ : ℕ → Node → Node → Node
let_ id pattern value = n id unit (Let pattern (present value))

abbrev pub stmt : ℕ → Node → Node
stmt id expression = n id unit (Evaluate expression)

abbrev pub block : ℕ → TyId → List Node → Node
block id ty stmts = n id ty (Block (nodes stmts) absent)

abbrev pub number : ℕ → ℕ → Node
number id value = n id i32 (Number (pos value))

-- `N(number)`
abbrev pub nn : ℕ → ℤ → Node
nn id value = n id n_ty (Make 0 0 (a_field 0 (n (id + 1) i32 (Number value)) no_field))

abbrev pub drop_n : BodyTree
drop_n = record {
  number = 0;
  params = (record { pattern = used 0 unique_n_ty Use.Copy a_name; ty = unique_n_ty }) ∷ [];
  answer = unit;
  block = n 1 unit (Block no_node (present (n 2 unit (If
      (n 3 bool (Comparison Cmp.Lt (used 4 i32 Use.Copy (Field (n 5 n_ty (Deref (n 6 unique_n_ty (Variable 0)))) 0)) (number 7 0)))
      (n 8 never (Block no_node (present (n 9 never Panic))))
      absent))));
}

-- a program of `N`, of `main`, and of other bodies
abbrev pub program : Node → List Sig → List BodyTree → ProgramTree
program main signatures others = record {
  items = record {
    types = Ty.Int IntKind.I32 ∷ Ty.Unit ∷ Ty.Bool ∷ Ty.Never ∷ Ty.Adt 0 ∷ Ty.Unique n_ty ∷ [];
    adts = n_struct ∷ [];
    traits = [];
    impls = [];
    closures = [];
    bodies = signature (codes "N::drop") (unique_n_ty ∷ []) unit ∷ signature (codes "main") [] unit ∷ signatures;
  };
  bodies = drop_n ∷ (record { number = 1; params = []; answer = unit; block = main }) ∷ others;
}
