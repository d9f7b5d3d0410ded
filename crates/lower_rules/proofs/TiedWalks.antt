-- The walk of a graph's body, beside the run of a source that it follows: what ties the two.
use Rattle.std.proofs.Common.{◌≡◌, ℕ, zero, suc, ◌≤◌, Bool, true, false, List, [], ◌∷◌, ◌++◌, length, Option, Some, None, slice_get, if◌then◌else◌, refl, ap}
use Rattle.std.proofs.lemmas.Option.{none-some}
use Rattle.cfg_graph.specs.declared.graph.Block.{Block}
use Rattle.cfg_graph.specs.declared.graph.Kind.{Kind}
use Rattle.cfg_graph.specs.declared.statement.Stmt.{Stmt}
use Rattle.cfg_graph.specs.Edges.{is_turn}
use Rattle.cfg_meaning.specs.Actions.{action_of}
use Rattle.cfg_meaning.specs.Walk.{Next, ◌>>=◌, naming, block_does}
use Rattle.mir_ty.specs.Facts.{needs_drop}
use Rattle.mir_ty.specs.ItemTable.{ItemTable}
use Rattle.store_model.proofs.Effects.Laws.{Laws, Tied}
use Rattle.store_model.specs.Abstract.Effects.{never_at}
use Rattle.store_model.specs.Effects.{Action, Out, Go, Unwind, Halts, Effects, stores_where, DoesNotGoOn}
use Rattle.src_meaning.specs.Forms.{statements, block}
use Rattle.src_meaning.specs.Scopes.{Entry, needing_drop, ◌>>◌}
use Rattle.lower_rules.specs.CodeLaws.{without_place}
use Rattle.lower_rules.specs.Spots.{CodeTarget}

abbrev pub NoUnwind : {W : Type 0} → Out W → Type 0
NoUnwind (Go w) = Unit {0}
NoUnwind (Unwind w) = ⊥
NoUnwind (Halts halt w) = Unit {0}

abbrev pub or_else : {A : Type 0} → A → Option A → A
or_else d None = d
or_else d (Some a) = a

-- ---- lines of a block
abbrev pub skip : ℕ → List Stmt → List Stmt
skip zero stmts = stmts
skip (suc l) [] = []
skip (suc l) (s ∷ stmts) = skip l stmts

pub skip_at : (stmts : List Stmt) (l : ℕ) (s : Stmt) → slice_get stmts l ≡ Some s → skip l stmts ≡ s ∷ skip (suc l) stmts
skip_at [] zero s e = absurd (none-some s e)
skip_at [] (suc l) s e = absurd (none-some s e)
skip_at (x ∷ stmts) zero s e = ap (λ z. z ∷ stmts) (ap (or_else x) e)
skip_at (x ∷ stmts) (suc l) s e = skip_at stmts l s e

pub skip_end : (stmts : List Stmt) → skip (length stmts) stmts ≡ []
skip_end [] = refl
skip_end (s ∷ stmts) = skip_end stmts

-- what is dropped of two lists together
pub needing_drop_append : (items : ItemTable) (es ds : List Entry) → needing_drop items (es ++ ds) ≡ needing_drop items es ++ needing_drop items ds
needing_drop_append items [] ds = refl
needing_drop_append items (e ∷ es) ds = by_need (needs_drop items e.ty) (needing_drop_append items es ds)
  where
    by_need : (b : Bool) → needing_drop items (es ++ ds) ≡ needing_drop items es ++ needing_drop items ds →
        (if b then e ∷ needing_drop items (es ++ ds) else needing_drop items (es ++ ds))
        ≡ (if b then e ∷ needing_drop items es else needing_drop items es) ++ needing_drop items ds
    by_need true h = ap (λ z. e ∷ z) h
    by_need false h = h

-- what the walk of a body does from a block on, by what its block does
pub record Walks {W : Type 0} (t : CodeTarget) (q : Effects W) (size : W → ℕ) (bound : ℕ) (Walk : Next W) : Type 0 where
  pub plain : (n : ℕ) (block : Block) → slice_get t.body.blocks n ≡ Some block → is_turn block ≡ false → (w : W) → size w ≤ bound →
      Walk n w ≡ block_does q (t.node n) block Walk w
  pub turn : (n : ℕ) (block : Block) → slice_get t.body.blocks n ≡ Some block → block.kind ≡ Kind.Turn → (w : W) → size w ≤ bound →
      Walk n w ≡ ◌>>=◌ (q.tick w) (block_does q (t.node n) block Walk)

-- statements do not panic, and no run comes behind an action that stores into a place of type `!`
pub record Settled {W : Type 0} (t : CodeTarget) (q : Effects W) (size : W → ℕ) (bound : ℕ) : Type 0 where
  pub statements : (n : ℕ) (stmt : Stmt) (w : W) → NoUnwind (q.act (action_of n stmt) w)
  pub lasting : (action : Action) (w : W) → size w ≤ bound → stores_where (never_at t.items (slice_get t.body.locals)) action ≡ true → DoesNotGoOn (q.act action w)

-- the walk of a body, beside a run that it is to follow: p is what the run's effects do, q what those of the graph do, and the
-- two are tied while at most `bound` is left
pub record TiedWalk (W : Type 0) : Type 0 where
  pub t : CodeTarget
  pub p : Effects W
  pub q : Effects W
  pub size : W → ℕ
  pub bound : ℕ
  pub laws : Laws q size
  pub tied : Tied (naming without_place p) q size bound
  pub settled : Settled t q size bound
  pub Walk : Next W
  pub walks : Walks t q size bound Walk
