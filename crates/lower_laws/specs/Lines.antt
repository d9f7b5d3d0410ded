-- Lines of lowered bodies without a fault.
use Rattle.std.specs.Prelude.{◌≡◌, ℕ, [], Some, length, slice_get}
use Rattle.cfg_graph.specs.declared.graph.Block.{Block}
use Rattle.cfg_graph.specs.declared.graph.Body.{Body}
use Rattle.cfg_graph.specs.declared.statement.Stmt.{Stmt}
use Rattle.cfg_graph.specs.WellFormed.LineFaults.{stmt_faults, term_faults, local_faults}
use Rattle.mir_ty.specs.declared.ty.TyId.{TyId}
use Rattle.mir_ty.specs.ItemTable.{ItemTable}
use Rattle.typed_tree.specs.Tree.{BodyTree, ProgramTree}
use Rattle.well_typed.specs.Program.{WellTyped}
use Rattle.lower_rules.specs.Lower.{body_of}

-- no local of a body has a fault, and no line of it
abbrev pub LocalsHaveNoFault : ItemTable → (bodies : ℕ) → Body → Type 0
LocalsHaveNoFault items bodies body =
    (n : ℕ) (id : TyId) → slice_get body.locals n ≡ Some id → local_faults items bodies id ≡ []

abbrev pub LinesHaveNoFault : ItemTable → (bodies : ℕ) → Body → Type 0
LinesHaveNoFault items bodies body =
    (n : ℕ) (block : Block) → slice_get body.blocks n ≡ Some block →
    ((line : ℕ) (stmt : Stmt) → slice_get block.stmts line ≡ Some stmt → stmt_faults items bodies body stmt ≡ [])
    × (term_faults items bodies body block ≡ [])

-- of a well typed program, what lines name exists and is of the types that they want, edges lead to blocks, lower the
-- rank and keep to cleanup blocks, where the types of its locals have no fault
abbrev pub LoweredLinesHaveNoFault : Type 0
LoweredLinesHaveNoFault =
    (program : ProgramTree) → WellTyped program → (n : ℕ) (tree : BodyTree) → slice_get program.bodies n ≡ Some tree →
    LocalsHaveNoFault program.items (length program.bodies) (body_of program.items tree) →
    LinesHaveNoFault program.items (length program.bodies) (body_of program.items tree)
