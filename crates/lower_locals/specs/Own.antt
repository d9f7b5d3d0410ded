-- Which nodes have a local for their own value, by what their forms are and how they are asked for.
use Rattle.std.specs.Prelude.{ℕ, Bool, true, false, not, List, [], ◌∷◌, Option, Some, None}
use Rattle.mir_ty.specs.declared.ty.Ty.{Ty}
use Rattle.mir_ty.specs.declared.ty.TyId.{TyId}
use Rattle.mir_ty.specs.ItemTable.{ItemTable}
use Rattle.src_meaning.specs.Forms.{is_never}
use Rattle.src_meaning.specs.Locals.OfBody.{bool_ty}
use Rattle.src_meaning.specs.Scopes.{Entry}
use Rattle.typed_tree.specs.Tree as tree
use Rattle.typed_tree.specs.Tree.{Form}
use Rattle.lower_locals.specs.declared.own.AskedAs.{AskedAs}
use Rattle.lower_locals.specs.declared.own.OwnKind.{OwnKind}

abbrev pub kind : Form → OwnKind
kind (tree.Variable key) = OwnKind.Place
kind (tree.Captured closure part name) = OwnKind.Place
kind (tree.Field base part) = OwnKind.Place
kind (tree.Index base index length) = OwnKind.Place
kind (tree.Deref base) = OwnKind.Place
kind (tree.Call body args) = OwnKind.Always
kind (tree.MethodCall body receiver args) = OwnKind.Always
kind (tree.VirtualCall trait_no method receiver args) = OwnKind.Always
kind (tree.ClosureCall body callee args) = OwnKind.Always
kind (tree.Binding name) = OwnKind.Always
kind (tree.NumberPattern value) = OwnKind.Test
kind (tree.TruthPattern value) = OwnKind.Test
kind (tree.Let pattern initialiser) = OwnKind.NoValue
kind (tree.Evaluate expression) = OwnKind.NoValue
kind (tree.Arm pattern guard body) = OwnKind.NoValue
kind tree.Wildcard = OwnKind.NoValue
kind (tree.StructPattern fields) = OwnKind.NoValue
kind (tree.VariantPattern variant is_test fields) = OwnKind.NoValue
kind (tree.TuplePattern parts) = OwnKind.NoValue
kind (tree.ArrayPattern elements) = OwnKind.NoValue
kind (tree.OrPattern alternatives) = OwnKind.NoValue
kind form = OwnKind.Value

-- Under each kind, for a node that is asked for in one of the three ways, of type `!` or not.
abbrev pub has_local : OwnKind → AskedAs → (is_never : Bool) → Bool
has_local OwnKind.Place AskedAs.Own never = true
has_local OwnKind.Place AskedAs.Around never = never
has_local OwnKind.Place AskedAs.Reached never = false
has_local OwnKind.Always AskedAs.Own never = true
has_local OwnKind.Always AskedAs.Around never = never
has_local OwnKind.Always AskedAs.Reached never = true
has_local OwnKind.NoValue asked never = false
has_local kind AskedAs.Around never = false
has_local kind asked never = not never

abbrev pub ty_of_local : ItemTable → OwnKind → TyId → TyId
ty_of_local items OwnKind.Test ty = bool_ty items
ty_of_local items kind ty = ty

abbrev pub where_true : Bool → List Entry → List Entry
where_true true entries = entries
where_true false entries = []

abbrev pub own_local : ItemTable → AskedAs → ℕ → TyId → Form → List Entry
own_local items asked id ty form =
    where_true (has_local (kind form) asked (is_never items ty))
    ((record { key = id; ty = ty_of_local items (kind form) ty }) ∷ [])

-- there is a type, and it is not `bool`
abbrev pub is_another : Option Ty → Bool
is_another None = false
is_another (Some Ty.Bool) = false
is_another ty = true
