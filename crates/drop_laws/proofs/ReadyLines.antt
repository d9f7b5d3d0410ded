-- What a body of an elaborable graph has, line by line; and such a graph is ready where what references name stays.
use Rattle.std.proofs.Common.{◌≡◌, ℕ, length, Some, slice_get}
use Rattle.std.specs.List.{list_all}
use Rattle.std.specs.Cmp.{first_so, second_so}
use Rattle.std.proofs.lemmas.List.Elements.{All-contains}
use Rattle.mir_ty.proofs.ListLemmas.{Contains-slice_get}
use Rattle.mir_ty.specs.AreItems.{IsAdt, AreItems}
use Rattle.cfg_graph.specs.declared.graph.Block.{Block}
use Rattle.cfg_graph.specs.declared.graph.Body.{Body}
use Rattle.cfg_graph.specs.declared.graph.Graph.{Graph}
use Rattle.cfg_graph.specs.Ready.{all_stmts, all_terms, is_no_free, moves_out_well, drops_well, IsReadyGraph}
use Rattle.cfg_graph.specs.Uses.{operands_of_stmt, operands_of_term}
use Rattle.cfg_graph.specs.WellFormed.Faults.{IsWellFormed}
use Rattle.drop_elaborate.proofs.BodyFacts.{stmt-typed, term-typed, numbers-exist, targets-exist, cleans}
use Rattle.drop_elaborate.proofs.ReadyBody.{BodyIsReady}
use Rattle.drop_elaborate.proofs.StandAlone.{all-at}
use Rattle.drop_laws.specs.Ready.{IsElaborable, IsElaborableBody, NamedStays}

module _ (graph : Graph) (are : AreItems graph.items) (ready : IsElaborable graph) (number : ℕ) (body : Body)
    (found : slice_get graph.bodies number ≡ Some body) where
  abbrev w : IsWellFormed graph
  w = ready.well_formed

  abbrev p : IsElaborableBody graph.items body
  p = ready.prepared number body found

  pub ready-lines : BodyIsReady graph.items (length graph.bodies) body
  ready-lines = record {
    alone = ready.alone;
    one_variant = λ n adt e f.
        let a : IsAdt graph.items.types adt = All-contains (IsAdt graph.items.types) graph.items.adts adt are.adts
        (Contains-slice_get graph.items.adts n adt e) in
        let o = a.of_struct f in (o.0, o.1);
    references = p.references;
    stmt_typed = λ n line block stmt at here. stmt-typed graph w number body found n block at line stmt here;
    stmt_moves = λ n line block stmt at here.
        all-at (λ stmt. list_all (moves_out_well graph.items body) (operands_of_stmt stmt)) block.stmts line stmt
        (all-at (λ (block : Block). list_all (λ stmt. list_all (moves_out_well graph.items body) (operands_of_stmt stmt)) block.stmts)
        body.blocks n block
        (first_so (all_stmts (λ stmt. list_all (moves_out_well graph.items body) (operands_of_stmt stmt)) body)
        (all_terms (λ term. list_all (moves_out_well graph.items body) (operands_of_term term)) body) p.moves) at) here;
    no_free = λ n line block stmt at here. all-at is_no_free block.stmts line stmt
        (all-at (λ (block : Block). list_all is_no_free block.stmts) body.blocks n block p.no_free at) here;
    term_typed = λ n block at. term-typed graph w number body found n block at;
    term_moves = λ n block at.
        all-at (λ (block : Block). list_all (moves_out_well graph.items body) (operands_of_term block.term)) body.blocks n block
        (second_so (all_stmts (λ stmt. list_all (moves_out_well graph.items body) (operands_of_stmt stmt)) body)
        (all_terms (λ term. list_all (moves_out_well graph.items body) (operands_of_term term)) body) p.moves) at;
    drops = λ n block at. all-at (λ (block : Block). drops_well graph.items body block.term) body.blocks n block p.drops at;
    numbers = λ n block at. numbers-exist graph w number body found n block at;
    exist = λ n block at. targets-exist graph w number body found n block at;
    cleanup = λ n block at. cleans graph w number body found n block at;
  }

pub ready-graph : (graph : Graph) → IsElaborable graph → NamedStays graph → IsReadyGraph graph
ready-graph graph ready stays = record {
  prepared = record {
    well_formed = ready.well_formed;
    has_bool = ready.has_bool;
    alone = ready.alone;
    prepared = λ n body found. let p = ready.prepared n body found in record {
      no_free = p.no_free;
      one_beginning = p.one_beginning;
      moves = p.moves;
      drops = p.drops;
      references = p.references;
      named_stays = λ path given local is. stays n body path given local found is;
    };
  };
  uses = ready.uses;
}

-- and each ready graph is elaborable
pub elaborable : (graph : Graph) → IsReadyGraph graph → IsElaborable graph
elaborable graph ready = record {
  well_formed = ready.prepared.well_formed;
  has_bool = ready.prepared.has_bool;
  alone = ready.prepared.alone;
  prepared = λ n body found. let p = ready.prepared.prepared n body found in record {
    no_free = p.no_free;
    one_beginning = p.one_beginning;
    moves = p.moves;
    drops = p.drops;
    references = p.references;
  };
  uses = ready.uses;
}
