-- Blocks that are made one after another.
use Rattle.std.proofs.Common.{◌≡◌, ◌∷◌, [], ℕ, List, false, length, refl, subst, sym}
use Rattle.std.specs.Prelude.{◌==◌}
use Rattle.std.proofs.lemmas.Bool.{false≢true}
use Rattle.mir_ty.specs.ItemTable.{ItemTable}
use Rattle.mir_ty.proofs.ListLemmas.{slice_get-append_left, slice_get-last}
use Rattle.store_model.specs.Places.Place as plain
use Rattle.cfg_graph.specs.declared.graph.Body.{Body}
use Rattle.cfg_graph.specs.declared.graph.Kind.{Kind}
use Rattle.cfg_graph.specs.declared.statement.Stmt.{Stmt}
use Rattle.cfg_graph.specs.declared.terminator.Term.{Term}
use Rattle.drop_elaborate.specs.Build.{Made, Begun}
use Rattle.drop_elaborate.specs.Elaborated.{BlockIs, EdgeTo}
use Rattle.drop_blocks.specs.Ladders.{with_one}
use Rattle.drop_blocks.proofs.LadderLaws.{stay, grow, holds-less}
use Rattle.drop_ends.specs.Edges.{IsMade, edge_to}

pub nothing-made : (made : Made) (P : Body → Type 0) → ((after : Body) → P after) → IsMade made made P
nothing-made made P holds = record { grows = stay made; holds = λ after h. holds after }

pub then-made : (a b c : Made) (P Q R : Body → Type 0) → ((after : Body) → P after → Q after → R after) →
    IsMade a b P → IsMade b c Q → IsMade a c R
then-made a b c P Q R f g h = record {
  grows = grow a b c g.grows h.grows;
  holds = λ after held. f after (g.holds after (holds-less after b c h.grows held)) (h.holds after held);
}

pub so-made : (a b : Made) (P Q : Body → Type 0) → ((after : Body) → P after → Q after) → IsMade a b P → IsMade a b Q
so-made a b P Q f g = record { grows = g.grows; holds = λ after held. f after (g.holds after held) }

module _ (items : ItemTable) (body : Body) (flagged : List plain.Place) where
  pub one-made : (kind : Kind) (stmts : List Stmt) (term : Term) (made : Made) →
      IsMade made (with_one kind stmts term made).made
      (λ after. BlockIs items body flagged after (with_one kind stmts term made).at kind stmts term)
  one-made kind stmts term made = record {
    grows = record { first = refl; stays = λ i block e. slice_get-append_left made.blocks _ i block e };
    holds = λ after held.
        let it = held (length made.blocks) _ (slice_get-last made.blocks _) in
        record { block = it.0; there = it.1; kind_is = it.2.kind; stmts_are = it.2.stmts; term_is = it.2.term };
  }

  pub edge-made : (kind : Kind) (stmts : List Stmt) (to : ℕ) (made : Made) →
      IsMade made (edge_to kind stmts to made).made
      (λ after. EdgeTo items body flagged after kind stmts (edge_to kind stmts to made).at to)
  edge-made kind [] to made = nothing-made made _ (λ after. refl)
  edge-made kind (stmt ∷ stmts) to made = one-made kind (stmt ∷ stmts) (Term.Goto to) made

  pub block-so : (kind : Kind) (stmts : List Stmt) (term : Term) (made : Made) (b : Begun) → b ≡ with_one kind stmts term made →
      IsMade made b.made (λ after. BlockIs items body flagged after b.at kind stmts term)
  block-so kind stmts term made b is =
      subst (λ (z : Begun). IsMade made z.made (λ after. BlockIs items body flagged after z.at kind stmts term)) (sym is)
      (one-made kind stmts term made)

  pub edge-so : (kind : Kind) (stmts : List Stmt) (to : ℕ) (made : Made) (b : Begun) → b ≡ edge_to kind stmts to made →
      IsMade made b.made (λ after. EdgeTo items body flagged after kind stmts b.at to)
  edge-so kind stmts to made b is =
      subst (λ (z : Begun). IsMade made z.made (λ after. EdgeTo items body flagged after kind stmts z.at to)) (sym is)
      (edge-made kind stmts to made)

  pub edge-is : (after : Body) (kind : Kind) (one other : List Stmt) (from to next : ℕ) → one ≡ other → to ≡ next →
      EdgeTo items body flagged after kind one from to → EdgeTo items body flagged after kind other from next
  edge-is after kind one other from to next same there edge =
      subst (λ (z : List Stmt). EdgeTo items body flagged after kind z from next) same
      (subst (λ (n : ℕ). EdgeTo items body flagged after kind one from n) there edge)

-- of an edge with statements
pub edge-longer : (kind : Kind) (stmts : List Stmt) (to : ℕ) (made : Made) → (length stmts == 0) ≡ false →
    edge_to kind stmts to made ≡ with_one kind stmts (Term.Goto to) made
edge-longer kind [] to made some = absurd (false≢true (sym some))
edge-longer kind (stmt ∷ stmts) to made some = refl
