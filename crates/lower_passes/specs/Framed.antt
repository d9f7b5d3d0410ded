-- What contracts see of a frame, and of effects.
use Rattle.std.specs.Prelude.{ℕ, Option, Some, None}
use Rattle.lower_locals.specs.View.{keys}
use Rattle.lower_rules.specs.Build as build
use Rattle.lower_rules.specs.Build.{Done, ByStmt, ByTerm}
use Rattle.cfg_graph.specs.declared.place.Place.{Place}
use Rattle.cfg_graph.specs.declared.statement.Stmt.{Stmt}
use Rattle.cfg_graph.specs.declared.terminator.Term.{Term}
use Rattle.cfg_graph.specs.declared.terminator.Unwind.{Unwind}
use Rattle.lower_code.specs.declared.code.Action.{Action}
use Rattle.src_meaning.specs.Locals.OfBody.{local_among}
use Rattle.lower_passes.specs.declared.frames.LoweringFrame.{LoweringFrame}

abbrev pub frame_of : LoweringFrame → build.LoweringFrame
frame_of frame = record {
  items = frame.items.now;
  local_of = local_among (keys frame.locals.now);
  tys = frame.tys.now;
}

-- the terminator by which an effect is done, with its two ways on
abbrev pub term_by : Done → ℕ → Unwind → Option Term
term_by (ByStmt stmt) next unwind = None
term_by (ByTerm term) next unwind = Some (term next unwind)

-- the place into which a statement stores, and an effect
abbrev pub stored_in : Stmt → Option Place
stored_in (Stmt.Put to from) = Some to
stored_in (Stmt.Compare to operator left right) = Some to
stored_in (Stmt.Not to operand) = Some to
stored_in (Stmt.Tuple to parts) = Some to
stored_in (Stmt.Array to parts) = Some to
stored_in (Stmt.Make to adt variant parts) = Some to
stored_in (Stmt.Close to closure parts) = Some to
stored_in (Stmt.NewBox to content) = Some to
stored_in (Stmt.Unsize to trait_no from) = Some to
stored_in (Stmt.Borrow to unique base) = Some to
stored_in stmt = None

abbrev pub stored : Action → Option Place
stored (Action.Stmt stmt) = stored_in stmt
stored (Action.Math to op left right) = Some to
stored (Action.Negate to of) = Some to
stored (Action.Bounds index length) = None
stored (Action.Call to body args) = Some to
stored (Action.Virtual to trait_no method args) = Some to
stored (Action.Ask to) = Some to
