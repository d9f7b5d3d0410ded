-- Words in which the examples write typed trees and items.
use Rattle.std.specs.Prelude.{ℕ, suc, ◌+◌, List, [], ◌∷◌, Option, Some, None, true, false, codes}
use Rattle.mir_base.specs.declared.place_in_text.Pos.{Pos}
use Rattle.mir_ty.specs.declared.adt.Adt.{Adt}
use Rattle.mir_ty.specs.declared.adt.Variant.{Variant}
use Rattle.mir_ty.specs.declared.def.Sig.{Sig}
use Rattle.mir_base.specs.declared.int_kind.IntKind.{IntKind}
use Rattle.mir_ty.specs.declared.ty.Ty.{Ty}
use Rattle.mir_ty.specs.declared.ty.TyId.{TyId}
use Rattle.typed_tree.specs.declared.node.Use.{Use}
use Rattle.typed_tree.specs.Tree.{Node, node, Form, Nodes, no_node, a_node, Fields, no_field, a_field, present, Let, Evaluate, Binding, ParamTree, BodyTree}

-- The examples have no text, so all nodes stand at one place.
abbrev here : Pos
here = record { line = 1; col = 1 }

abbrev pub n : ℕ → TyId → Form → Node
n id ty form = node id here ty None form

abbrev pub used : ℕ → TyId → Use → Form → Node
used id ty by form = node id here ty (Some by) form

-- a name as a pattern; the examples print none
abbrev pub a_name : Form
a_name = Binding (codes "x")

-- other names of the same pattern or list of parameters
abbrev pub another_name : Form
another_name = Binding (codes "y")

abbrev pub third_name : Form
third_name = Binding (codes "z")

abbrev pub param : Node → TyId → ParamTree
param pattern ty = record { pattern = pattern; ty = ty }

abbrev pub ty_no : ℕ → TyId
ty_no k = record { 0 = k }

-- the types with which the items of each example begin
abbrev pub i32 : TyId
i32 = ty_no 0

abbrev pub unit : TyId
unit = ty_no 1

abbrev pub bool : TyId
bool = ty_no 2

abbrev pub never : TyId
never = ty_no 3

abbrev pub scalars : List Ty
scalars = Ty.Int IntKind.I32 ∷ Ty.Unit ∷ Ty.Bool ∷ Ty.Never ∷ []

-- fields are named by their numbers, each of one digit: 48 is the code of 0
abbrev names_from : {A : Type 0} → ℕ → List A → List (List ℕ)
names_from k [] = []
names_from k (a ∷ as_) = ((48 + k) ∷ []) ∷ names_from (suc k) as_

abbrev field_names : {A : Type 0} → List A → List (List ℕ)
field_names = names_from 0

abbrev pub variant : List ℕ → List TyId → Variant
variant name fields = record { name = name; fields = fields; field_names = field_names fields }

abbrev pub struct : List ℕ → List TyId → Option ℕ → Adt
struct name fields drop_body =
    record { name = name; is_enum = false; variants = variant name fields ∷ []; copy = false; drop_body = drop_body }

abbrev pub enum : List ℕ → List Variant → Adt
enum name variants = record { name = name; is_enum = true; variants = variants; copy = false; drop_body = None }

abbrev pub head : List ℕ → List TyId → TyId → Sig
head name params answer = record { name = name; params = params; result = answer }

abbrev pub nodes : List Node → Nodes
nodes [] = no_node
nodes (first ∷ rest) = a_node first (nodes rest)

abbrev pub fields : List (ℕ × Node) → Fields
fields [] = no_field
fields (first ∷ rest) = a_field first.0 first.1 (fields rest)

abbrev pub let_ : ℕ → Node → Node → Node
let_ id pattern value = n id unit (Let pattern (present value))

abbrev pub stmt : ℕ → Node → Node
stmt id expression = n id unit (Evaluate expression)

abbrev pub body : ℕ → List ParamTree → TyId → Node → BodyTree
body number params answer block = record { number = number; params = params; answer = answer; block = block }
