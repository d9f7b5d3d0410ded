-- The typed program that the text has: its items, and its bodies by their places.
use Rattle.std.specs.Prelude.{ℕ, zero, suc, pos, false, List, [], ◌∷◌, ◌++◌, Some, None, codes}
use Rattle.mir_base.specs.declared.operator.Cmp.{Cmp}
use Rattle.mir_base.specs.declared.place_in_text.Pos.{Pos}
use Rattle.mir_ty.specs.declared.adt.Adt.{Adt}
use Rattle.mir_ty.specs.declared.def.Sig.{Sig}
use Rattle.mir_ty.specs.declared.ty.Ty.{Ty}
use Rattle.mir_ty.specs.declared.ty.TyId.{TyId}
use Rattle.mir_ty.specs.ItemTable.{ItemTable}
use Rattle.typed_tree.specs.declared.node.Use.{Use}
use Rattle.typed_tree.specs.Tree as tree
use Rattle.typed_tree.specs.Tree.{Node, node, Form, Nodes, no_node, a_node, no_field, a_field, absent, present, ParamTree, BodyTree, ProgramTree}
use Rattle.src_ast.specs.Syntax.{Tuple_}
use Rattle.src_ast.specs.View.{self_name}
use Rattle.typing_rules.specs.Check.{TypingState, ty_no}
use Rattle.typing_rules.specs.Places.{scalars}
use Rattle.typing_rules.specs.Scope.{Env}
use Rattle.soak_laws.proofs.Placing.{Places, from}
use Rattle.soak_laws.proofs.Trees.{f_word, d_word}

-- ---- items

abbrev unit_ty : TyId
unit_ty = ty_no 0

abbrev bool_ty : TyId
bool_ty = ty_no 1

abbrev i32_ty : TyId
i32_ty = ty_no 3

abbrev d_ty : TyId
d_ty = ty_no 8

abbrev self_ty : TyId
self_ty = ty_no 9

abbrev pub types : List Ty
types = scalars ++ Ty.Adt 0 ∷ Ty.Unique d_ty ∷ []

abbrev pub d_item : Adt
d_item = record {
  name = d_word;
  is_enum = false;
  variants = record { name = d_word; fields = i32_ty ∷ []; field_names = codes "0" ∷ [] } ∷ [];
  copy = false;
  drop_body = Some 0;
}

abbrev pub drop_sig : Sig
drop_sig = record { name = codes "D::drop"; params = self_ty ∷ []; result = unit_ty }

abbrev pub function_sig : ℕ → Sig
function_sig i = record { name = f_word i; params = d_ty ∷ []; result = unit_ty }

abbrev pub main_sig : Sig
main_sig = record { name = codes "main"; params = []; result = unit_ty }

-- the heads of the bodies before the function of a number
abbrev pub sigs : ℕ → List Sig
sigs zero = drop_sig ∷ []
sigs (suc i) = sigs i ++ function_sig i ∷ []

abbrev pub items_with : List Sig → ItemTable
items_with bodies =
    record { types = types; adts = d_item ∷ []; traits = []; impls = []; closures = []; bodies = bodies }

abbrev pub soak_table : ℕ → ItemTable
soak_table last = items_with (sigs (suc last) ++ main_sig ∷ [])

-- ---- nodes

abbrev plain : ℕ → Pos → TyId → Form → Node
plain id at ty form = node id at ty None form

abbrev moved : ℕ → Pos → TyId → Form → Node
moved id at ty form = node id at ty (Some Use.Move) form

abbrev copied : ℕ → Pos → TyId → Form → Node
copied id at ty form = node id at ty (Some Use.Copy) form

abbrev one : Node → Nodes
one n = a_node n no_node

abbrev number : ℕ → Pos → ℕ → Node
number id at n = plain id at i32_ty (tree.Number (pos n))

abbrev made : ℕ → Pos → Node → Node
made id at n = plain id at d_ty (tree.Make 0 0 (a_field 0 n no_field))

-- a block of one statement
abbrev statement : ℕ → Pos → Pos → Node → Node
statement id at inside n =
    plain id at unit_ty (tree.Block (one (plain (suc id) inside unit_ty (tree.Evaluate n))) absent)

-- ---- bodies

module _ (f : Places) where
  abbrev pub drop_tree : BodyTree
  drop_tree = record {
    number = 0;
    params = record { pattern = copied 0 (f 8) self_ty (tree.Binding self_name); ty = self_ty } ∷ [];
    answer = unit_ty;
    block =
        statement 1 (f 12) (f 13) (plain 3 (f 13) unit_ty (tree.Print (copied 4 (f 15) i32_ty (tree.Field
        (plain 5 (f 15) d_ty (tree.Deref (plain 6 (f 15) self_ty (tree.Variable 0)))) 0))));
  }

  -- what a function does with its argument, where 0 is asked
  abbrev pub called : ℕ → Node → Form
  called zero x = tree.DropValue x
  called (suc i) x = tree.Call (suc i) (one x)

  abbrev pub asking : ℕ → Node
  asking i = plain 6 (f 16) unit_ty (tree.If
      (plain 7 (f 17) bool_ty (tree.Comparison Cmp.Eq (plain 8 (f 17) i32_ty tree.Ask) (number 9 (f 21) 0)))
      (statement 10 (f 22) (f 23) (plain 12 (f 23) unit_ty (called i (moved 13 (f 25) d_ty (tree.Variable 0))))) absent)

  abbrev pub function_tree : ℕ → BodyTree
  function_tree i = record {
    number = suc i;
    params = record { pattern = moved 0 (f 3) d_ty (tree.Binding (codes "x")); ty = d_ty } ∷ [];
    answer = unit_ty;
    block = plain 1 (f 7) unit_ty (tree.Block
        (one (plain 2 (f 8) unit_ty (tree.Let (moved 3 (f 9) d_ty (tree.Binding (codes "y")))
        (present (made 4 (f 11) (number 5 (f 13) i))))))
        (present (asking i)));
  }

  abbrev pub main_tree : ℕ → BodyTree
  main_tree last = record {
    number = suc (suc last);
    params = [];
    answer = unit_ty;
    block =
        statement 0 (f 4) (f 5) (plain 2 (f 5) unit_ty
        (tree.Call (suc last) (one (made 3 (f 7) (number 4 (f 9) (suc last))))));
  }

-- the places of the functions, and what follows them
abbrev pub functions_at : ℕ → Places → Places
functions_at zero f = f
functions_at (suc i) f = from 30 (functions_at i f)

abbrev pub impl_at : Places → Places
impl_at f = from 6 f

abbrev pub first_at : Places → Places
first_at f = from 22 (impl_at f)

-- the bodies before the function of a number
abbrev pub bodies : Places → ℕ → List BodyTree
bodies f zero = drop_tree (impl_at f) ∷ []
bodies f (suc i) = bodies f i ++ function_tree (functions_at i (first_at f)) i ∷ []

abbrev pub soak_program : Places → ℕ → ProgramTree
soak_program f last = record {
  items = soak_table last;
  bodies = bodies f (suc last) ++ main_tree (functions_at (suc last) (first_at f)) last ∷ [];
}

-- ---- states of typing

abbrev pub soak_env : Env
soak_env = record {
  adts = d_word ∷ [];
  traits = [];
  kinds = (Tuple_ ∷ []) ∷ [];
  methods = codes "D::drop" ∷ [];
  self_adt = None;
  variables = [];
  loops = [];
  answer = unit_ty;
}

abbrev pub state_at : List Sig → ℕ → List BodyTree → TypingState
state_at heads n done =
    record { items = items_with heads; next_node = 0; next_body = n; breaks = []; bodies = done }
