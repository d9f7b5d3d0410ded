-- What the check of uses tells of what may be gone is what drop elaboration asks for.
use Rattle.std.proofs.Common.{◌∙◌, sym, true}
use Rattle.mir_ty.specs.ItemTable.{ItemTable}
use Rattle.cfg_graph.specs.declared.graph.Body.{Body}
use Rattle.move_errors.specs.GoneRows.{AreGone}
use Rattle.move_errors.specs.declared.errors.GoneMoves.{GoneMoves}
use Rattle.drop_plans.proofs.Solved.{rows-say}
use Rattle.drop_plans.specs.Analysed.{IsGone}

pub is-gone : (items : ItemTable) (body : Body) (moves : GoneMoves) → AreGone items body moves →
    IsGone items body (record { forest = moves.forest; switches = moves.switches; rows = moves.rows })
is-gone items body moves are =
    let solved = are.rows in record {
      forest = are.forest;
      switches = are.switches;
      rows = rows-say items body moves.forest.paths true solved.pass solved.first moves.rows solved.says solved.carried
          solved.long (λ n within. solved.widths n within ∙ sym solved.says.width);
    }
