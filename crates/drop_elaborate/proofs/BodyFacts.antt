-- What each line of a body without a fault has: its types, rows of impls, and targets.
use Rattle.std.proofs.Common.{◌≡◌, ℕ, ◌+◌, ◌&&◌, true, [], ◌++◌, length, Some, slice_get, refl, ap, sym, ◌∙◌, subst, arith}
use Rattle.std.specs.Option.{option_map_or}
use Rattle.mir_ty.specs.declared.def.Sig.{Sig}
use Rattle.std.specs.List.{list_all}
use Rattle.std.specs.Cmp.{first_so, second_so}
use Rattle.cfg_graph.specs.declared.graph.Block.{Block}
use Rattle.cfg_graph.specs.declared.graph.Body.{Body}
use Rattle.cfg_graph.specs.declared.graph.Graph.{Graph}
use Rattle.cfg_graph.specs.declared.statement.Stmt.{Stmt}
use Rattle.cfg_graph.specs.Edges.{targets}
use Rattle.cfg_graph.specs.Ready.{all_stmts, all_terms, moves_out_well, IsPreparedBody}
use Rattle.cfg_graph.specs.Uses.{operands_of_stmt, operands_of_term}
use Rattle.cfg_graph.specs.WellFormed.Cleanup.{keeps_to_cleanup}
use Rattle.cfg_graph.specs.WellFormed.Faults.{nowhere, at_line, of_each, item_faults, own_faults, locals_faults, stmts_faults, block_faults, faults_of_body, end_faults, IsWellFormed}
use Rattle.cfg_graph.specs.WellFormed.LineFaults.{stmt_has_row, stmt_tests, stmt_faults, term_numbers_exist, blocks_exist, term_tests, term_faults, has_sig, has_own_name, body_tests, body_faults}
use Rattle.cfg_graph.specs.WellFormed.Typing.{stmt_is_typed, term_is_typed}
use Rattle.cfg_graph.proofs.NoFaults.{first_empty, second_empty, map_empty, of_each-empty, broken-holds}
use Rattle.drop_elaborate.proofs.StandAlone.{all-at}

module _ (graph : Graph) (well : IsWellFormed graph) (number : ℕ) (body : Body)
    (found : slice_get graph.bodies number ≡ Some body) where
  abbrev bodies : ℕ
  bodies = length graph.bodies

  of-body : faults_of_body graph (0 + number) body ≡ []
  of-body =
      let in_bodies = first_empty (of_each (faults_of_body graph) 0 graph.bodies) (end_faults graph)
      (second_empty (item_faults graph) (of_each (faults_of_body graph) 0 graph.bodies ++ end_faults graph) well) in
      of_each-empty (faults_of_body graph) 0 graph.bodies in_bodies number body found

  own : body_faults graph.items bodies (0 + number) body ≡ []
  own =
      map_empty (λ (k : ℕ). record { number = k; body = 0 + number; block = nowhere; line = nowhere })
      (body_faults graph.items bodies (0 + number) body)
      (first_empty (own_faults graph (0 + number) body) (locals_faults graph (0 + number) body
      ++ of_each (block_faults graph (0 + number) body) 0 body.blocks) of-body)

  -- its signature is that of its locals
  pub has-sig : has_sig graph.items bodies body (slice_get graph.items.bodies (0 + number)) ≡ true
  has-sig =
      broken-holds (body_tests graph.items bodies (0 + number) body) own 2
      (3, has_sig graph.items bodies body (slice_get graph.items.bodies (0 + number))) refl

  -- its name stands in a listing and is that of no earlier body
  pub own-name : (sig : Sig) → slice_get graph.items.bodies number ≡ Some sig →
      has_own_name graph.items bodies number sig ≡ true
  own-name sig is =
      let same : 0 + number ≡ number = omega arith in
      let test : option_map_or (has_own_name graph.items bodies (0 + number)) (slice_get graph.items.bodies (0 +
      number))
      true ≡ true = broken-holds (body_tests graph.items bodies (0 + number) body) own 3
      (7, option_map_or (has_own_name graph.items bodies (0 + number)) (slice_get graph.items.bodies (0 + number)) true)
      refl in
      let here : option_map_or (has_own_name graph.items bodies number) (slice_get graph.items.bodies number) true ≡
      true =
      subst (λ k. option_map_or (has_own_name graph.items bodies k) (slice_get graph.items.bodies k) true ≡ true) same
      test
      in
      sym (ap (λ o. option_map_or (has_own_name graph.items bodies number) o true) is) ∙ here

  module _ (n : ℕ) (block : Block) (at : slice_get body.blocks n ≡ Some block) where
    in-blocks : block_faults graph (0 + number) body (0 + n) block ≡ []
    in-blocks =
        let rest = second_empty (own_faults graph (0 + number) body) (locals_faults graph (0 + number) body
        ++ of_each (block_faults graph (0 + number) body) 0 body.blocks) of-body in
        let blocks = second_empty (locals_faults graph (0 + number) body)
        (of_each (block_faults graph (0 + number) body) 0 body.blocks) rest in
        of_each-empty (block_faults graph (0 + number) body) 0 body.blocks blocks n block at

    in-stmts : (k : ℕ) (stmt : Stmt) → slice_get block.stmts k ≡ Some stmt →
        stmt_faults graph.items bodies body stmt ≡ []
    in-stmts k stmt here =
        let stmts = first_empty (stmts_faults graph (0 + number) body (0 + n) block)
        (at_line (0 + number) (0 + n) (length block.stmts) (term_faults graph.items bodies body block)) in-blocks in
        let one = of_each-empty (λ line stmt. at_line (0 + number) (0 + n) line
        (stmt_faults graph.items bodies body stmt)) 0 block.stmts stmts k stmt here in
        map_empty (λ (j : ℕ). record { number = j; body = 0 + number; block = 0 + n; line = 0 + k })
        (stmt_faults graph.items bodies body stmt) one

    in-term : term_faults graph.items bodies body block ≡ []
    in-term =
        map_empty (λ (j : ℕ). record { number = j; body = 0 + number; block = 0 + n; line = length block.stmts })
        (term_faults graph.items bodies body block)
        (second_empty (stmts_faults graph (0 + number) body (0 + n) block)
        (at_line (0 + number) (0 + n) (length block.stmts) (term_faults graph.items bodies body block)) in-blocks)

    pub stmt-typed : (k : ℕ) (stmt : Stmt) → slice_get block.stmts k ≡ Some stmt →
        stmt_is_typed graph.items body.locals stmt ≡ true
    stmt-typed k stmt here =
        broken-holds (stmt_tests graph.items bodies body stmt) (in-stmts k stmt here) 2
        (3, stmt_is_typed graph.items body.locals stmt) refl

    pub stmt-row : (k : ℕ) (stmt : Stmt) → slice_get block.stmts k ≡ Some stmt →
        stmt_has_row graph.items bodies body.locals stmt ≡ true
    stmt-row k stmt here =
        broken-holds (stmt_tests graph.items bodies body stmt) (in-stmts k stmt here) 3
        (6, stmt_has_row graph.items bodies body.locals stmt) refl

    pub term-typed : term_is_typed graph.items body.locals block.term ≡ true
    term-typed =
        broken-holds (term_tests graph.items bodies body block) in-term 2
        (3, term_is_typed graph.items body.locals block.term) refl

    pub numbers-exist : term_numbers_exist graph.items bodies block.term ≡ true
    numbers-exist =
        first_so (term_numbers_exist graph.items bodies block.term)
        (blocks_exist graph.items bodies body (targets block.term))
        (broken-holds (term_tests graph.items bodies body block) in-term 0 (
          1,
          term_numbers_exist graph.items bodies block.term
              && blocks_exist graph.items bodies body (targets block.term),
        ) refl)

    pub targets-exist : blocks_exist graph.items bodies body (targets block.term) ≡ true
    targets-exist =
        second_so (term_numbers_exist graph.items bodies block.term)
        (blocks_exist graph.items bodies body (targets block.term))
        (broken-holds (term_tests graph.items bodies body block) in-term 0 (
          1,
          term_numbers_exist graph.items bodies block.term
              && blocks_exist graph.items bodies body (targets block.term),
        ) refl)

    pub cleans : keeps_to_cleanup body block ≡ true
    cleans =
        broken-holds (term_tests graph.items bodies body block) in-term 4 (5, keeps_to_cleanup body block) refl

    module _ (prepared : IsPreparedBody graph.items body) where
      -- what it moves may be left gone
      pub stmt-moves : (k : ℕ) (stmt : Stmt) → slice_get block.stmts k ≡ Some stmt →
          list_all (moves_out_well graph.items body) (operands_of_stmt stmt) ≡ true
      stmt-moves k stmt here =
          all-at (λ stmt. list_all (moves_out_well graph.items body) (operands_of_stmt stmt)) block.stmts k stmt
          (all-at (λ (block : Block). list_all (λ stmt. list_all (moves_out_well graph.items body)
          (operands_of_stmt stmt)) block.stmts) body.blocks n block
          (first_so (all_stmts (λ stmt. list_all (moves_out_well graph.items body) (operands_of_stmt stmt)) body)
          (all_terms (λ term. list_all (moves_out_well graph.items body) (operands_of_term term)) body)
          prepared.moves) at) here

      pub term-moves : list_all (moves_out_well graph.items body) (operands_of_term block.term) ≡ true
      term-moves =
          all-at (λ (block : Block). list_all (moves_out_well graph.items body) (operands_of_term block.term))
          body.blocks
          n block
          (second_so (all_stmts (λ stmt. list_all (moves_out_well graph.items body) (operands_of_stmt stmt)) body)
          (all_terms (λ term. list_all (moves_out_well graph.items body) (operands_of_term term)) body)
          prepared.moves) at
