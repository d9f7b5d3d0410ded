-- All statements of a block with flags are fine: those of the raw block, and the stores into flags.
use Rattle.std.proofs.Common.{◌≡◌, ◌∷◌, [], ◌++◌, ◌+◌, ◌<◌, ◌≤◌, ℕ, zero, suc, not, Bool, true, false, List, Option, Some, None, length, slice_get, refl, arith, if◌then◌else◌}
use Rattle.mir_ty.specs.declared.ty.Ty.{Ty}
use Rattle.mir_ty.specs.declared.ty.TyId.{TyId}
use Rattle.mir_ty.specs.ItemTable.{ItemTable, type_at}
use Rattle.store_model.specs.Places.Place.{Place}
use Rattle.cfg_graph.specs.declared.graph.Block.{Block}
use Rattle.cfg_graph.specs.declared.graph.Body.{Body}
use Rattle.cfg_graph.specs.declared.graph.Kind.{Kind}
use Rattle.cfg_graph.specs.declared.place.Place as graph
use Rattle.cfg_graph.specs.declared.statement.Stmt.{Stmt}
use Rattle.cfg_graph.specs.declared.terminator.Term.{Term}
use Rattle.cfg_graph.specs.Moves.Gone.{counts, is_at_or_above, is_param, leaves_gone}
use Rattle.cfg_graph.specs.Places.{named}
use Rattle.cfg_graph.specs.Uses.{PlaceUse, Drops, stmt_uses, term_uses}
use Rattle.cfg_graph.specs.WellFormed.LineFaults.{stmt_faults}
use Rattle.drop_elaborate.specs.Elaborated.{set_flag, flags_below, flags_if, flags_of_use, flags_of_uses, with_flags, first_flags, at_start, Ends, result, dead, plain, ladder}
use Rattle.drop_bodies.proofs.EndsKept.{StoresFine, ResumeFine}
use Rattle.drop_bodies.proofs.LinesFine.{of_locals, StmtFine, AllFine, TermFine, Fine, all-fine, stmt-fine, store-fine}

module _ (items : ItemTable) (bodies : ℕ) (body : Body) (flag_ty : TyId) (flag_is : type_at items flag_ty ≡ Some Ty.Bool)
    (flagged : List Place) where
  abbrev pub Stmts : List Stmt → Type 0
  Stmts stmts = AllFine items bodies body.locals flag_ty (length flagged) flag_is stmts

  abbrev pub FineHere : Block → Type 0
  FineHere block = Fine items bodies body.locals flag_ty (length flagged) flag_is block

  set-fine : (n : ℕ) (present : Bool) → n < length flagged →
      StmtFine items bodies body.locals flag_ty (length flagged) flag_is (set_flag items body flagged n present)
  set-fine n present less =
      store-fine items bodies body.locals flag_ty (length flagged) flag_is (length body.locals + n) present
      (record { number = n; less = less; is = refl })

  both : (a b : List Stmt) → Stmts a → Stmts b → Stmts (a ++ b)
  both a b f g = all-fine items bodies body.locals flag_ty (length flagged) flag_is a b f g

  below-fine : (place : Place) (present : Bool) (paths : List Place) (n : ℕ) → n + length paths ≤ length flagged →
      Stmts (flags_below items body flagged place present paths n)
  below-fine place present [] n room = tt
  below-fine place present (path ∷ paths) n room =
      both (if is_at_or_above place path then set_flag items body flagged n present ∷ [] else [])
      (flags_below items body flagged place present paths (suc n))
      (by (is_at_or_above place path)) (below-fine place present paths (suc n) (omega (room, arith)))
    where
      by : (b : Bool) → Stmts (if b then set_flag items body flagged n present ∷ [] else [])
      by true = (set-fine n present (omega (room, arith)), tt)
      by false = tt

  if-fine : (gone : Option Bool) (place : Place) → Stmts (flags_if items body flagged gone place)
  if-fine None place = tt
  if-fine (Some gone) place = below-fine place (not gone) flagged 0 (omega arith)

  use-fine : (made : PlaceUse × graph.Place) → Stmts (flags_of_use items body flagged made)
  use-fine made = by (counts items body (named made.1))
    where
      by : (b : Bool) → Stmts (if b then flags_if items body flagged (leaves_gone made.0) (named made.1) else [])
      by true = if-fine (leaves_gone made.0) (named made.1)
      by false = tt

  pub uses-fine : (uses : List (PlaceUse × graph.Place)) → Stmts (flags_of_uses items body flagged uses)
  uses-fine [] = tt
  uses-fine (made ∷ uses) =
      both (flags_of_use items body flagged made) (flags_of_uses items body flagged uses) (use-fine made) (uses-fine uses)

  first-fine : (paths : List Place) (n : ℕ) → n + length paths ≤ length flagged → Stmts (first_flags items body flagged paths n)
  first-fine [] n room = tt
  first-fine (path ∷ paths) n room =
      (set-fine n (is_param items body path.local) (omega (room, arith)), first-fine paths (suc n) (omega (room, arith)))

  start-fine : (n : ℕ) → Stmts (at_start items body flagged n)
  start-fine zero = first-fine flagged 0 (omega arith)
  start-fine (suc n) = tt

  with-fine : (stmts : List Stmt) →
      ((k : ℕ) (stmt : Stmt) → slice_get stmts k ≡ Some stmt → stmt_faults items bodies (of_locals body.locals) stmt ≡ []) →
      Stmts (with_flags items body flagged stmts)
  with-fine [] none = tt
  with-fine (stmt ∷ stmts) none = (
    stmt-fine items bodies body.locals flag_ty (length flagged) flag_is stmt (none 0 stmt refl),
    both (flags_of_uses items body flagged (stmt_uses stmt)) (with_flags items body flagged stmts)
        (uses-fine (stmt_uses stmt)) (with-fine stmts (λ k other e. none (suc k) other e)),
  )

  ending-fine : (after : Body) (n : ℕ) (kind : Kind) (raw : Term) (ending : List Stmt) (term : Term) →
      Ends items body flagged after n kind raw ending term → Stmts ending
  ending-fine after n kind raw _ _ (result term from no_drop edge) = uses-fine (term_uses term)
  ending-fine after n kind raw _ _ (dead place next unwind is_dead) = uses-fine ((Drops, place) ∷ [])
  ending-fine after n kind raw _ _ (plain place next unwind not_dead is_sure) = uses-fine ((Drops, place) ∷ [])
  ending-fine after n kind raw _ _ (ladder plan place next from unwind planned to) = tt

  -- all statements of a block by its number
  pub stmts-fine : (after : Body) (n : ℕ) (kind : Kind) (stmts : List Stmt) (raw : Term) (ending : List Stmt) (term : Term) →
      ((k : ℕ) (stmt : Stmt) → slice_get stmts k ≡ Some stmt → stmt_faults items bodies (of_locals body.locals) stmt ≡ []) →
      Ends items body flagged after n kind raw ending term →
      Stmts (at_start items body flagged n ++ (with_flags items body flagged stmts ++ ending))
  stmts-fine after n kind stmts raw ending term none ends =
      both (at_start items body flagged n) (with_flags items body flagged stmts ++ ending) (start-fine n)
      (both (with_flags items body flagged stmts) ending (with-fine stmts none)
      (ending-fine after n kind raw ending term ends))

  -- ---- blocks that are made

  goto-fine : (to : ℕ) → TermFine items bodies body.locals flag_ty (length flagged) flag_is (Term.Goto to)
  goto-fine to = record { numbers = refl; exist = refl; typed = refl }

  pub stores-fine : (stmts : List Stmt) → Stmts stmts → StoresFine FineHere stmts
  stores-fine stmts fine kind rank to = (fine, goto-fine to)

  pub resume-fine : ResumeFine FineHere
  resume-fine rank = (tt, record { numbers = refl; exist = refl; typed = refl })
