-- Of the numbers of a graph those that no rule of graphs bounds: the counts and closures of its types, the ranks of its
-- blocks, and the lengths that tests of bounds compare with. In memory each has 32 bits.
use Rattle.std.specs.Prelude.{All, ⊤}
use Rattle.cfg_graph.specs.declared.graph.Block.{Block}
use Rattle.cfg_graph.specs.declared.graph.Body.{Body}
use Rattle.cfg_graph.specs.declared.graph.Graph.{Graph}
use Rattle.cfg_graph.specs.declared.terminator.Term.{Term}
use Rattle.listing_write.specs.Fields.{Fits, TyFits}

abbrev pub CountFits : Term → Type 0
CountFits (Term.Bounds index count next unwind) = Fits count
CountFits term = ⊤

pub record OwnNumbersFit (block : Block) : Type 0 where
  pub rank : Fits block.rank
  pub count : CountFits block.term

abbrev pub AreNumbered : Body → Type 0
AreNumbered body = All OwnNumbersFit body.blocks

pub record NumbersFit (graph : Graph) : Type 0 where
  pub types : All TyFits graph.items.types
  pub bodies : All AreNumbered graph.bodies
