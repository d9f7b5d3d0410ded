-- A well formed graph has no fault in any of its lines.
use Rattle.std.proofs.Common.{◌≡◌, ℕ, ◌+◌, List, [], ◌++◌, length, Some, slice_get, subst, arith}
use Rattle.mir_ty.specs.declared.adt.Adt.{Adt}
use Rattle.mir_ty.specs.declared.def.ClosureDef.{ClosureDef}
use Rattle.mir_ty.specs.declared.def.ImplDef.{ImplDef}
use Rattle.mir_ty.specs.ItemTable.{ItemTable}
use Rattle.cfg_graph.specs.declared.graph.Block.{Block}
use Rattle.cfg_graph.specs.declared.graph.Body.{Body}
use Rattle.cfg_graph.specs.declared.graph.Graph.{Graph}
use Rattle.cfg_graph.specs.declared.statement.Stmt.{Stmt}
use Rattle.cfg_graph.specs.WellFormed.Faults.{IsWellFormed, nowhere, at_line, of_each, of_items, adts_faults, traits_faults, impls_faults, closures_faults, item_faults, own_faults, locals_faults, stmts_faults, block_faults, faults_of_body, end_faults}
use Rattle.cfg_graph.specs.WellFormed.ItemFaults.{adt_faults, impl_faults, closure_faults}
use Rattle.cfg_graph.specs.WellFormed.LineFaults.{body_faults, stmt_faults, term_faults}
use Rattle.cfg_graph.proofs.NoFaults.{first_empty, second_empty, map_empty, of_each-empty}

module _ (graph : Graph) (well_formed : IsWellFormed graph) where
  abbrev items : ItemTable
  items = graph.items

  abbrev bodies : ℕ
  bodies = length graph.bodies

  no_item_fault : item_faults graph ≡ []
  no_item_fault = first_empty (item_faults graph) (of_each (faults_of_body graph) 0 graph.bodies ++ end_faults graph)
      well_formed

  no_body_fault : of_each (faults_of_body graph) 0 graph.bodies ≡ []
  no_body_fault =
      first_empty (of_each (faults_of_body graph) 0 graph.bodies) (end_faults graph)
      (second_empty (item_faults graph) (of_each (faults_of_body graph) 0 graph.bodies ++ end_faults graph) well_formed)

  behind_adts : traits_faults graph ++ (impls_faults graph ++ closures_faults graph) ≡ []
  behind_adts = second_empty (adts_faults graph) (traits_faults graph ++
      (impls_faults graph ++ closures_faults graph)) no_item_fault

  behind_traits : impls_faults graph ++ closures_faults graph ≡ []
  behind_traits = second_empty (traits_faults graph) (impls_faults graph ++ closures_faults graph) behind_adts

  no_fault_of : {X : Type 0} → (before : ℕ) (faults : ℕ → X → List ℕ) (xs : List X) → of_items graph before faults xs
      ≡ [] → (n : ℕ) (x : X) → slice_get xs n ≡ Some x → faults n x ≡ []
  no_fault_of before faults xs none n x is =
      let own = of_each-empty (λ n x. at_line nowhere nowhere (before + n) (faults n x)) 0 xs none n x is in
      let empty = map_empty (λ (k : ℕ). record {
        number = k;
        body = nowhere;
        block = nowhere;
        line = before + (0 + n);
      }) (faults (0 + n) x) own in
      subst (λ m. faults m x ≡ []) (let e : 0 + n ≡ n = omega arith in e) empty

  pub adt_holds : (n : ℕ) (adt : Adt) → slice_get items.adts n ≡ Some adt → adt_faults items bodies n adt ≡ []
  adt_holds = no_fault_of 0 (adt_faults items bodies) items.adts
      (first_empty (adts_faults graph) (traits_faults graph ++ (impls_faults graph ++ closures_faults graph))
      no_item_fault)

  pub impl_holds : (n : ℕ) (def : ImplDef) → slice_get items.impls n ≡ Some def → impl_faults items bodies n def ≡ []
  impl_holds = no_fault_of (length items.adts + length items.traits) (impl_faults items bodies) items.impls
      (first_empty (impls_faults graph) (closures_faults graph) behind_traits)

  pub closure_holds : (n : ℕ) (def : ClosureDef) → slice_get items.closures n ≡ Some def → closure_faults items bodies
      n def ≡ []
  closure_holds =
      no_fault_of (length items.adts + length items.traits + length items.impls) (closure_faults items bodies)
      items.closures
      (second_empty (impls_faults graph) (closures_faults graph) behind_traits)

  module _ (number : ℕ) (body : Body) (at : slice_get graph.bodies number ≡ Some body) where
    of_body : faults_of_body graph (0 + number) body ≡ []
    of_body = of_each-empty (faults_of_body graph) 0 graph.bodies no_body_fault number body at

    behind_own : locals_faults graph (0 + number) body ++ of_each (block_faults graph (0 + number) body) 0 body.blocks
        ≡ []
    behind_own = second_empty (own_faults graph (0 + number) body)
        (locals_faults graph (0 + number) body ++ of_each (block_faults graph (0 + number) body) 0 body.blocks) of_body

    pub own_holds : body_faults items bodies number body ≡ []
    own_holds =
        let empty = map_empty (λ (k : ℕ). record { number = k; body = 0 + number; block = nowhere; line = nowhere })
        (body_faults items bodies (0 + number) body)
        (first_empty (own_faults graph (0 + number) body)
        (locals_faults graph (0 + number) body ++ of_each (block_faults graph (0 + number) body) 0 body.blocks)
        of_body) in
        subst (λ m. body_faults items bodies m body ≡ []) (let e : 0 + number ≡ number = omega arith in e) empty

    module _ (m : ℕ) (block : Block) (here : slice_get body.blocks m ≡ Some block) where
      of_block : block_faults graph (0 + number) body (0 + m) block ≡ []
      of_block =
          of_each-empty (block_faults graph (0 + number) body) 0 body.blocks
          (second_empty (locals_faults graph (0 + number) body)
          (of_each (block_faults graph (0 + number) body) 0 body.blocks) behind_own) m block here

      pub stmt_holds : (k : ℕ) (stmt : Stmt) → slice_get block.stmts k ≡ Some stmt → stmt_faults items bodies body
          stmt ≡ []
      stmt_holds k stmt is =
          let none = of_each-empty (λ line stmt. at_line (0 + number) (0 + m) line
          (stmt_faults items bodies body stmt)) 0 block.stmts
          (first_empty (stmts_faults graph (0 + number) body (0 + m) block)
          (at_line (0 + number) (0 + m) (length block.stmts) (term_faults items bodies body block)) of_block) k
          stmt is in
          map_empty (λ (j : ℕ). record { number = j; body = 0 + number; block = 0 + m; line = 0 + k })
          (stmt_faults items bodies body stmt) none

      pub term_holds : term_faults items bodies body block ≡ []
      term_holds =
          map_empty (λ (j : ℕ). record { number = j; body = 0 + number; block = 0 + m; line = length block.stmts })
          (term_faults items bodies body block)
          (second_empty (stmts_faults graph (0 + number) body (0 + m) block)
          (at_line (0 + number) (0 + m) (length block.stmts) (term_faults items bodies body block)) of_block)
