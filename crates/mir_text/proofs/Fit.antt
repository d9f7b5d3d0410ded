-- The numbers of a graph whose lines stand fit their fields.
use Rattle.std.proofs.Common.{◌≡◌, ℕ, zero, suc, ◌<◌, Bool, true, false, List, [], ◌∷◌, ◌++◌, map, length, Some, All, IfSome, slice_get, get_or, refl, arith}
use Rattle.cfg_graph.specs.declared.graph.Block.{Block}
use Rattle.cfg_graph.specs.declared.graph.Body.{Body}
use Rattle.cfg_graph.specs.declared.graph.Graph.{Graph}
use Rattle.cfg_graph.specs.declared.statement.Stmt.{Stmt}
use Rattle.cfg_graph.specs.declared.terminator.Term.{Term}
use Rattle.mir_ty.specs.declared.adt.Adt.{Adt}
use Rattle.mir_ty.specs.declared.def.ClosureDef.{ClosureDef}
use Rattle.mir_ty.specs.declared.def.ImplDef.{ImplDef}
use Rattle.mir_ty.specs.declared.ty.Ty.{Ty}
use Rattle.mir_ty.specs.ItemTable.{ItemTable}
use Rattle.listing_write.specs.Compared.{numbered}
use Rattle.listing_write.specs.Fields.{Fits, StmtFits, TermFits, BlockFits, BodyFits, TyFits, GraphFits}
use Rattle.listing_write.specs.Lines.{adt_in_line, line_of_adt, line_of_impl, line_of_closure, line_of_stmt, line_of_term, line_of_local, lines_of_block, lines_of_body, lines_each}
use Rattle.listing_write.proofs.Reading.Basics.{Every}
use Rattle.mir_text.specs.Beginning.{LineStands}
use Rattle.mir_text.proofs.Longest.{adt_lines, trait_lines, impl_lines, closure_lines, body_lines_of}
use Rattle.mir_text.proofs.Sections.{every_append}
use Rattle.mir_text.proofs.Told.{all_from_every}
use Rattle.mir_text.proofs.Whole.{lines_between}
use Rattle.listing_parts.specs.Table.{AreRead}

module _ (items : ItemTable) where
  stmt_fits : (stmt : Stmt) → LineStands items (line_of_stmt items stmt) → StmtFits stmt
  stmt_fits (Stmt.Make to adt variant parts) s = (s.0, s.2, s.3)
  stmt_fits (Stmt.Unsize to trait from) s = (s.0, s.2)
  stmt_fits other s = s.0

  term_fits : (term : Term) → LineStands items (line_of_term items term) → TermFits term
  term_fits (Term.Virtual to trait method args next unwind) s = (s.0, s.2, s.3, s.4)
  term_fits other s = s.0

  stmts_fit : (stmts : List Stmt) → Every (LineStands items) (map (line_of_stmt items) stmts) → Every StmtFits stmts
  stmts_fit [] h = tt
  stmts_fit (stmt ∷ stmts) h = (stmt_fits stmt h.0, stmts_fit stmts h.1)

  block_fits : (n : ℕ) (block : Block) → Every (LineStands items) (lines_of_block items n block) → BlockFits block
  block_fits n block h =
      let parts = every_append (LineStands items) (map (line_of_stmt items) block.stmts) (line_of_term items block.term ∷ []) h.1 in
      record { rank = h.0.1; stmts = all_from_every StmtFits block.stmts (stmts_fit block.stmts parts.0); term = term_fits block.term parts.1.0 }

  blocks_fit : (n : ℕ) (blocks : List Block) → Every (LineStands items) (lines_each (lines_of_block items) n blocks) → Every BlockFits blocks
  blocks_fit n [] h = tt
  blocks_fit n (block ∷ blocks) h =
      let parts = every_append (LineStands items) (lines_of_block items n block) (lines_each (lines_of_block items) (suc n) blocks) h in
      (block_fits n block parts.0, blocks_fit (suc n) blocks parts.1)

  body_fits : (n : ℕ) (body : Body) → Every (LineStands items) (lines_of_body items n body) → BodyFits body
  body_fits n body h =
      let parts = every_append (LineStands items) (numbered (line_of_local items) 0 body.locals) (lines_each (lines_of_block items) 0 body.blocks) h.1 in
      record { params = h.0.3; blocks = all_from_every BlockFits body.blocks (blocks_fit 0 body.blocks parts.1) }

  bodies_fit : (n : ℕ) (bodies : List Body) → Every (LineStands items) (lines_each (lines_of_body items) n bodies) → Every BodyFits bodies
  bodies_fit n [] h = tt
  bodies_fit n (body ∷ bodies) h =
      let parts = every_append (LineStands items) (lines_of_body items n body) (lines_each (lines_of_body items) (suc n) bodies) h in
      (body_fits n body parts.0, bodies_fit (suc n) bodies parts.1)

  drop_fits : (is_enum : Bool) (adt : Adt) → LineStands items (adt_in_line items is_enum adt) → IfSome adt.drop_body Fits
  drop_fits true adt h = h.3
  drop_fits false adt h = h.3

  drops_fit : (adts : List Adt) → Every (LineStands items) (map (line_of_adt items) adts) → Every (λ adt. IfSome adt.drop_body Fits) adts
  drops_fit [] h = tt
  drops_fit (adt ∷ adts) h = (drop_fits adt.is_enum adt h.0, drops_fit adts h.1)

  impls_fit : (impls : List ImplDef) → Every (LineStands items) (map (line_of_impl items) impls) → Every (λ def. All Fits def.bodies) impls
  impls_fit [] h = tt
  impls_fit (def ∷ impls) h = (h.0.2, impls_fit impls h.1)

  closures_fit : (n : ℕ) (closures : List ClosureDef) → Every (LineStands items) (numbered (line_of_closure items) n closures) → Every (λ def. Fits def.body) closures
  closures_fit n [] h = tt
  closures_fit n (def ∷ closures) h = (h.0.2, closures_fit (suc n) closures h.1)

types_fit : (heads : ItemTable) (types : List Ty) → AreRead heads types → All TyFits types
types_fit heads types read k d less = (read k _ (at types k d less)).fits
  where
    at : (xs : List Ty) (k : ℕ) (d : Ty) → k < length xs → slice_get xs k ≡ Some (get_or xs k d)
    at [] k d less = absurd (omega arith)
    at (y ∷ xs) zero d less = refl
    at (y ∷ xs) (suc k) d less = at xs k d (omega (arith, less))

pub graph_fits : (heads : ItemTable) (graph : Graph) → AreRead heads graph.items.types → Every (LineStands graph.items) (lines_between graph) → GraphFits graph
graph_fits heads graph read stand =
    let items : ItemTable = graph.items in
    let a = every_append (LineStands items) (adt_lines graph) (trait_lines graph ++ (impl_lines graph ++ (closure_lines graph ++ body_lines_of graph))) stand in
    let b = every_append (LineStands items) (trait_lines graph) (impl_lines graph ++ (closure_lines graph ++ body_lines_of graph)) a.1 in
    let c = every_append (LineStands items) (impl_lines graph) (closure_lines graph ++ body_lines_of graph) b.1 in
    let d = every_append (LineStands items) (closure_lines graph) (body_lines_of graph) c.1 in
    record {
      items = record {
        types = types_fit heads items.types read;
        drops = all_from_every (λ (adt : Adt). IfSome adt.drop_body Fits) items.adts (drops_fit items items.adts a.0);
        impls = all_from_every (λ (def : ImplDef). All Fits def.bodies) items.impls (impls_fit items items.impls c.0);
        closures = all_from_every (λ (def : ClosureDef). Fits def.body) items.closures (closures_fit items 0 items.closures d.0);
      };
      bodies = all_from_every BodyFits graph.bodies (bodies_fit items 0 graph.bodies d.1);
    }
