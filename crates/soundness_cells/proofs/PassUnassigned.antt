-- A `let` of a reference without a value: the rules of typing refuse it, by computation. They have to, since its body
-- is accepted and its checked run complains.
use Rattle.std.proofs.Common.{◌≡◌, true, false, [], ◌∷◌, Some, None, refl}
use Rattle.std.specs.Prelude.{codes}
use Rattle.mir_base.specs.declared.int_kind.IntKind.{IntKind}
use Rattle.mir_base.specs.declared.place_in_text.Pos.{Pos}
use Rattle.mir_ty.specs.declared.ty.Ty.{Ty}
use Rattle.mir_ty.specs.declared.ty.TyId.{TyId}
use Rattle.mir_ty.specs.ItemTable.{ItemTable}
use Rattle.typed_tree.specs.declared.node.Use.{Use}
use Rattle.typed_tree.specs.Tree.{node, no_node, a_node, absent, Let, Block, Binding, BodyTree, ProgramTree}
use Rattle.src_meaning.specs.Programs.{reached_by}
use Rattle.well_typed.specs.Program.{is_well_typed}
use Rattle.soundness_cells.proofs.PassExamples.{all_faults}

abbrev at : Pos
at = record { line = 1; col = 1 }

abbrev unit : TyId
unit = record { 0 = 0 }

abbrev reference : TyId
reference = record { 0 = 3 }

abbrev items : ItemTable
items = record {
  types = Ty.Unit ∷ Ty.Bool ∷ Ty.Int IntKind.I32 ∷ Ty.Shared (record { 0 = 2 }) ∷ [];
  adts = [];
  traits = [];
  impls = [];
  closures = [];
  bodies = (record { name = codes "main"; params = []; result = unit }) ∷ [];
}

-- `fn main() { let r: &i32; }`
abbrev body : BodyTree
body = record {
  number = 0;
  params = [];
  answer = unit;
  block = node 0 at unit None
      (Block
      (a_node
      (node 1 at unit None (Let (node 2 at reference (Some Use.Copy) (Binding (codes "r"))) absent))
      no_node)
      absent);
}

abbrev program : ProgramTree
program = record { items = items; bodies = body ∷ [] }

unassigned_untyped : is_well_typed program ≡ false
unassigned_untyped = refl

unassigned_accepted : reached_by items body [] ≡ None
unassigned_accepted = refl

-- a fault 0 is a run that complains
unassigned_complains : all_faults 1 items (body ∷ []) ≡ (0, (0, [])) ∷ []
unassigned_complains = refl
