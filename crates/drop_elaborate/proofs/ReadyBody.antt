-- What a body of a ready graph has, line by line: the premises of all that is shown of its run.
use Rattle.std.proofs.Common.{◌≡◌, inl, inr, ℕ, nat_lt, true, false, [], ◌∷◌, length, Some, slice_get, Contains, arith}
use Rattle.std.specs.List.{list_all}
use Rattle.std.proofs.lemmas.List.Elements.{All-contains}
use Rattle.std.proofs.lemmas.Bool.{ltb-true}
use Rattle.std.proofs.lemmas.Option.{slice_get_cases}
use Rattle.mir_ty.proofs.ListLemmas.{Contains-slice_get, slice_get-Contains}
use Rattle.mir_ty.specs.declared.adt.Adt.{Adt}
use Rattle.mir_ty.specs.declared.adt.Variant.{Variant}
use Rattle.mir_ty.specs.AreItems.{IsAdt, AreItems}
use Rattle.mir_ty.specs.ItemTable.{ItemTable}
use Rattle.cfg_graph.specs.declared.graph.Block.{Block}
use Rattle.cfg_graph.specs.declared.graph.Body.{Body}
use Rattle.cfg_graph.specs.declared.graph.Graph.{Graph}
use Rattle.cfg_graph.specs.declared.statement.Stmt.{Stmt}
use Rattle.cfg_graph.specs.Edges.{targets}
use Rattle.cfg_graph.specs.Ready.{is_no_free, moves_out_well, references_in_locals, references_stand_alone, drops_well, IsPreparedBody, IsReadyGraph}
use Rattle.cfg_graph.specs.Uses.{operands_of_stmt, operands_of_term}
use Rattle.cfg_graph.specs.WellFormed.Cleanup.{keeps_to_cleanup}
use Rattle.cfg_graph.specs.WellFormed.Faults.{IsWellFormed}
use Rattle.cfg_graph.specs.WellFormed.LineFaults.{term_numbers_exist, blocks_exist}
use Rattle.cfg_graph.specs.WellFormed.Typing.{stmt_is_typed, term_is_typed}
use Rattle.drop_elaborate.proofs.BodyFacts.{stmt-typed, term-typed, numbers-exist, targets-exist, cleans, stmt-moves, term-moves}
use Rattle.drop_elaborate.proofs.StandAlone.{all-at}

pub record BodyIsReady (items : ItemTable) (bodies : ℕ) (body : Body) : Type 0 where
  pub alone : references_stand_alone items ≡ true
  -- a struct has one variant
  pub one_variant : (n : ℕ) (adt : Adt) → slice_get items.adts n ≡ Some adt → adt.is_enum ≡ false →
      (variant : Variant) × (adt.variants ≡ variant ∷ [])
  pub references : references_in_locals items body ≡ true
  pub stmt_typed : (n line : ℕ) (block : Block) (stmt : Stmt) → slice_get body.blocks n ≡ Some block →
      slice_get block.stmts line ≡ Some stmt → stmt_is_typed items body.locals stmt ≡ true
  pub stmt_moves : (n line : ℕ) (block : Block) (stmt : Stmt) → slice_get body.blocks n ≡ Some block →
      slice_get block.stmts line ≡ Some stmt → list_all (moves_out_well items body) (operands_of_stmt stmt) ≡ true
  pub no_free : (n line : ℕ) (block : Block) (stmt : Stmt) → slice_get body.blocks n ≡ Some block →
      slice_get block.stmts line ≡ Some stmt → is_no_free stmt ≡ true
  pub term_typed : (n : ℕ) (block : Block) → slice_get body.blocks n ≡ Some block →
      term_is_typed items body.locals block.term ≡ true
  pub term_moves : (n : ℕ) (block : Block) → slice_get body.blocks n ≡ Some block →
      list_all (moves_out_well items body) (operands_of_term block.term) ≡ true
  pub drops : (n : ℕ) (block : Block) → slice_get body.blocks n ≡ Some block →
      drops_well items body block.term ≡ true
  pub numbers : (n : ℕ) (block : Block) → slice_get body.blocks n ≡ Some block →
      term_numbers_exist items bodies block.term ≡ true
  pub exist : (n : ℕ) (block : Block) → slice_get body.blocks n ≡ Some block →
      blocks_exist items bodies body (targets block.term) ≡ true
  pub cleanup : (n : ℕ) (block : Block) → slice_get body.blocks n ≡ Some block → keeps_to_cleanup body block ≡ true

pub ready-body : (graph : Graph) → AreItems graph.items → IsReadyGraph graph → (number : ℕ) (body : Body) →
    slice_get graph.bodies number ≡ Some body → BodyIsReady graph.items (length graph.bodies) body
ready-body graph are ready number body found = record {
  alone = ready.prepared.alone;
  one_variant = λ n adt e f.
      let a : IsAdt graph.items.types adt = All-contains (IsAdt graph.items.types) graph.items.adts adt are.adts
      (Contains-slice_get graph.items.adts n adt e) in
      let o = a.of_struct f in (o.0, o.1);
  references = p.references;
  stmt_typed = λ n line block stmt at here. stmt-typed graph w number body found n block at line stmt here;
  stmt_moves = λ n line block stmt at here. stmt-moves graph w number body found n block at p line stmt here;
  no_free = λ n line block stmt at here. all-at is_no_free block.stmts line stmt
      (all-at (λ (block : Block). list_all is_no_free block.stmts) body.blocks n block p.no_free at) here;
  term_typed = λ n block at. term-typed graph w number body found n block at;
  term_moves = λ n block at. term-moves graph w number body found n block at p;
  drops = λ n block at. all-at (λ (block : Block). drops_well graph.items body block.term) body.blocks n block p.drops
      at;
  numbers = λ n block at. numbers-exist graph w number body found n block at;
  exist = λ n block at. targets-exist graph w number body found n block at;
  cleanup = λ n block at. cleans graph w number body found n block at;
}
  where
    w : IsWellFormed graph
    w = ready.prepared.well_formed

    p : IsPreparedBody graph.items body
    p = ready.prepared.prepared number body found

-- each block to which a terminator leads is there
pub targets-there : (items : ItemTable) (bodies : ℕ) (body : Body) → BodyIsReady items bodies body → (n : ℕ)
    (block : Block) → slice_get body.blocks n ≡ Some block → (m : ℕ) → Contains (targets block.term) m →
    (next : Block) × (slice_get body.blocks m ≡ Some next)
targets-there items bodies body ready n block at m c =
    let h = all-at (λ (n : ℕ). nat_lt n (length body.blocks)) (targets block.term) c.0 m (ready.exist n block at)
    (slice_get-Contains (targets block.term) m c) in
    elim ((slice_get_cases body.blocks m).1) [
      | inl x ↦ (x.0, x.2)
      | inr x ↦ (let l = ltb-true m (length body.blocks) h in let k = x.0 in absurd
          (let never : ⊥ = omega (arith, l, k) in never))
    ]
