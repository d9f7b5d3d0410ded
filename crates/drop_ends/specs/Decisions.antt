-- How a block ends by what is decided of its drop, and the whole block.
use Rattle.std.specs.Prelude.{◌≡◌, ℕ, List, [], ◌++◌}
use Rattle.mir_ty.specs.ItemTable.{ItemTable}
use Rattle.store_model.specs.Places.Place as plain
use Rattle.cfg_graph.specs.declared.graph.Block.{Block}
use Rattle.cfg_graph.specs.declared.graph.Body.{Body}
use Rattle.cfg_graph.specs.declared.graph.Kind.{Kind}
use Rattle.cfg_graph.specs.declared.place.Place.{Place}
use Rattle.cfg_graph.specs.declared.statement.Stmt.{Stmt}
use Rattle.cfg_graph.specs.declared.terminator.Term.{Term}
use Rattle.cfg_graph.specs.declared.terminator.Unwind.{Unwind}
use Rattle.cfg_graph.specs.Uses.{term_uses}
use Rattle.drop_elaborate.specs.Elaborated.{EdgeTo, LadderTo, cleared, result_flags, next_of, onward_to, flags_of_uses, at_start, with_flags, kind_after}
use Rattle.drop_blocks.specs.View.{plan_in}
use Rattle.drop_ends.specs.declared.decided.Decided.{Decided}

module _ (items : ItemTable) (body : Body) (flagged : List plain.Place) (after : Body) where
  -- the statements before the terminator of a drop, and the terminator
  abbrev pub DropEnds : Decided → Kind → Place → (next : ℕ) → Unwind → List Stmt → Term → Type 0
  DropEnds Decided.Dead kind place next unwind ending term =
      (ending ≡ cleared items body flagged after place) × (term ≡ Term.Goto next)
  DropEnds Decided.Plain kind place next unwind ending term =
      (ending ≡ cleared items body flagged after place) × (term ≡ Term.DropAt place next unwind)
  DropEnds (Decided.Planned plan) kind place next unwind ending term =
      (ending ≡ []) × ((from : ℕ) × (term ≡ Term.Goto from)
      × LadderTo items body flagged after (plan_in plan) kind place from next unwind)

  -- of any other terminator
  abbrev pub TermEnds : Kind → Term → List Stmt → Term → Type 0
  TermEnds kind raw ending term =
      (ending ≡ flags_of_uses items body flagged (term_uses raw)) × ((from : ℕ)
      × (term ≡ onward_to items body flagged after from raw)
      × EdgeTo items body flagged after kind (result_flags items body flagged after raw) from (next_of items body flagged after raw))

  abbrev pub EndsBy : Decided → Kind → Term → List Stmt → Term → Type 0
  EndsBy decided kind (Term.DropAt place next unwind) ending term = DropEnds decided kind place next unwind ending term
  EndsBy decided kind raw ending term = TermEnds kind raw ending term

  -- a block by its number, and the one that it becomes
  pub record IsBlockOf (decided : Decided) (n : ℕ) (block made : Block) : Type 0 where
    pub ending : List Stmt
    pub ends : EndsBy decided (kind_after items body flagged after block.kind) block.term ending made.term
    pub kind_is : made.kind ≡ block.kind
    pub stmts_are : made.stmts ≡ at_start items body flagged n ++ (with_flags items body flagged block.stmts ++ ending)
