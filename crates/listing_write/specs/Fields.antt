-- The numbers of a graph are such as their fields hold: 32 bits, and for constants a sign and 127.
use Rattle.std.specs.Prelude.{ℕ, ◌<◌, ◌^◌, All, ⊤, IfSome, ℤ, pos, negsuc}
use Rattle.mir_ty.specs.declared.ty.Ty.{Ty}
use Rattle.mir_ty.specs.ItemTable.{ItemTable}
use Rattle.cfg_graph.specs.declared.place.Operand.{Operand}
use Rattle.cfg_graph.specs.declared.place.Place.{Place}
use Rattle.cfg_graph.specs.declared.place.Step.{Step}
use Rattle.cfg_graph.specs.declared.statement.Stmt.{Stmt}
use Rattle.cfg_graph.specs.declared.terminator.Term.{Term}
use Rattle.cfg_graph.specs.declared.terminator.Unwind.{Unwind}
use Rattle.cfg_graph.specs.declared.graph.Block.{Block}
use Rattle.cfg_graph.specs.declared.graph.Body.{Body}
use Rattle.cfg_graph.specs.declared.graph.Graph.{Graph}

abbrev pub Fits : ℕ → Type 0
Fits n = n < 2 ^ 32

abbrev pub StepFits : Step → Type 0
StepFits (Step.Part n) = Fits n
StepFits (Step.Field variant part) = Fits variant × Fits part
StepFits Step.Inside = ⊤
StepFits (Step.Index local) = Fits local

abbrev pub PlaceFits : Place → Type 0
PlaceFits place = Fits place.local × All StepFits place.steps

abbrev pub ConstantFits : ℤ → Type 0
ConstantFits (pos n) = n < 2 ^ 127
ConstantFits (negsuc n) = n < 2 ^ 127

abbrev pub OperandFits : Operand → Type 0
OperandFits (Operand.Copied place) = PlaceFits place
OperandFits (Operand.Moved place) = PlaceFits place
OperandFits (Operand.Number value kind) = ConstantFits value
OperandFits (Operand.Truth value) = ⊤
OperandFits Operand.Unit = ⊤

abbrev pub StmtFits : Stmt → Type 0
StmtFits (Stmt.Put to from) = PlaceFits to × OperandFits from
StmtFits (Stmt.Compare to op left right) = PlaceFits to × OperandFits left × OperandFits right
StmtFits (Stmt.Not to operand) = PlaceFits to × OperandFits operand
StmtFits (Stmt.Tuple to parts) = PlaceFits to × All OperandFits parts
StmtFits (Stmt.Array to parts) = PlaceFits to × All OperandFits parts
StmtFits (Stmt.Make to adt variant parts) = PlaceFits to × Fits variant × All OperandFits parts
StmtFits (Stmt.Close to closure parts) = PlaceFits to × Fits closure × All OperandFits parts
StmtFits (Stmt.NewBox to operand) = PlaceFits to × OperandFits operand
StmtFits (Stmt.Unsize to trait_no from) = PlaceFits to × OperandFits from
StmtFits (Stmt.Borrow to unique of) = PlaceFits to × PlaceFits of
StmtFits (Stmt.Touch place) = PlaceFits place
StmtFits (Stmt.Print operand) = OperandFits operand
StmtFits (Stmt.Forget operand) = OperandFits operand
StmtFits (Stmt.Free place) = PlaceFits place

abbrev pub UnwindFits : Unwind → Type 0
UnwindFits (Unwind.Block block) = Fits block
UnwindFits Unwind.Resume = ⊤
UnwindFits Unwind.Abort = ⊤

abbrev pub WaysFit : ℕ → Unwind → Type 0
WaysFit next unwind = Fits next × UnwindFits unwind

abbrev pub TermFits : Term → Type 0
TermFits (Term.Goto block) = Fits block
TermFits (Term.If on if_true if_false) = OperandFits on × Fits if_true × Fits if_false
TermFits (Term.Case on variant if_true if_false) = PlaceFits on × Fits variant × Fits if_true × Fits if_false
TermFits (Term.Math to op left right next unwind) =
    PlaceFits to × OperandFits left × OperandFits right × WaysFit next unwind
TermFits (Term.Negate to of next unwind) = PlaceFits to × OperandFits of × WaysFit next unwind
TermFits (Term.Bounds index count next unwind) = OperandFits index × Fits count × WaysFit next unwind
TermFits (Term.Call to body args next unwind) =
    PlaceFits to × Fits body × All OperandFits args × WaysFit next unwind
TermFits (Term.Virtual to trait_no method args next unwind) =
    PlaceFits to × Fits method × All OperandFits args × WaysFit next unwind
TermFits (Term.Ask to next unwind) = PlaceFits to × WaysFit next unwind
TermFits (Term.DropAt place next unwind) = PlaceFits place × WaysFit next unwind
TermFits (Term.Panic why unwind) = UnwindFits unwind
TermFits Term.Return = ⊤
TermFits Term.Resume = ⊤

pub record BlockFits (block : Block) : Type 0 where
  pub rank : Fits block.rank
  pub stmts : All StmtFits block.stmts
  pub term : TermFits block.term

pub record BodyFits (body : Body) : Type 0 where
  pub params : Fits body.params
  pub blocks : All BlockFits body.blocks

abbrev pub TyFits : Ty → Type 0
TyFits (Ty.Array element count) = Fits count
TyFits (Ty.Closure n) = Fits n
TyFits _ = ⊤

pub record ItemsFit (items : ItemTable) : Type 0 where
  pub types : All TyFits items.types
  pub drops : All (λ adt. IfSome adt.drop_body Fits) items.adts
  pub impls : All (λ def. All Fits def.bodies) items.impls
  pub closures : All (λ def. Fits def.body) items.closures

pub record GraphFits (graph : Graph) : Type 0 where
  pub items : ItemsFit graph.items
  pub bodies : All BodyFits graph.bodies
