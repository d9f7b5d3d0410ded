-- A body is elaborated where its blocks become what is decided of them.
use Rattle.std.proofs.Common.{◌≡◌, inl, inr, ◌∙◌, ◌∷◌, [], ◌++◌, ◌+◌, ℕ, zero, suc, false, List, Some, length, slice_get, refl, sym, ap, subst, arith}
use Rattle.std.proofs.lemmas.Option.{none-some, slice_get_within, slice_get_cases}
use Rattle.mir_ty.specs.ItemTable.{ItemTable}
use Rattle.store_model.specs.Places.Place as plain
use Rattle.cfg_graph.specs.declared.graph.Block.{Block}
use Rattle.cfg_graph.specs.declared.graph.Body.{Body}
use Rattle.cfg_graph.specs.declared.graph.Kind.{Kind}
use Rattle.cfg_graph.specs.declared.place.Place.{Place}
use Rattle.cfg_graph.specs.declared.statement.Stmt.{Stmt}
use Rattle.cfg_graph.specs.declared.terminator.Term.{Term}
use Rattle.cfg_graph.specs.declared.terminator.Unwind.{Unwind}
use Rattle.cfg_graph.specs.Places.{named}
use Rattle.cfg_graph.specs.Uses.{term_uses}
use Rattle.move_paths.specs.Forest.{PathForest, IsForest}
use Rattle.drop_values.specs.Plan.{Plan as PlainPlan}
use Rattle.drop_elaborate.specs.Build.{Made}
use Rattle.drop_elaborate.specs.Elaborated as rules
use Rattle.drop_elaborate.specs.Elaborated.{is_drop, IsPlanned, cleared, Ends, result, dead, plain, ladder, kind_after, BlockDone, flags_of_uses}
use Rattle.drop_elaborate.specs.Kinds.{AreFlagged, IsDead, IsSure}
use Rattle.drop_blocks.specs.Standing.{Holds}
use Rattle.drop_blocks.specs.View.{plan_in}
use Rattle.drop_blocks.specs.declared.plan.Plan.{Plan}
use Rattle.drop_ends.specs.Decisions.{DropEnds, TermEnds, EndsBy}
use Rattle.drop_ends.specs.declared.decided.Decided.{Decided}
use Rattle.drop_kinds.specs.Decided.{HasPlan, IsDecided, AreDecided}
use Rattle.drop_laws.proofs.Ranking.{ranked-there}
use Rattle.drop_laws.specs.Ranked.{ranked_with}
use Rattle.drop_bodies.specs.Done.{AreDone}

module _ (items : ItemTable) (body : Body) (flagged : List plain.Place) (after : Body) (n : ℕ) (kind : Kind) where
  abbrev EndsNow : Term → List Stmt → Term → Type 0
  EndsNow raw ending term = Ends items body flagged after n kind raw ending term

  other : (raw : Term) (ending : List Stmt) (term : Term) → is_drop raw ≡ false →
      TermEnds items body flagged after kind raw ending term → EndsNow raw ending term
  other raw ending term no_drop h =
      subst (λ (l : List Stmt). EndsNow raw l term) (sym h.0)
      (subst (EndsNow raw (flags_of_uses items body flagged (term_uses raw))) (sym h.1.1)
      (result raw h.1.0 no_drop h.1.2))

  drop-ends : (how : Decided) (place : Place) (next : ℕ) (unwind : Unwind) (ending : List Stmt) (term : Term) →
      DropEnds items body flagged after how kind place next unwind ending term →
      ((plan : Plan) → how ≡ Decided.Planned plan → IsPlanned items body flagged n (named place) (plan_in plan)) →
      (how ≡ Decided.Dead → IsDead items body n (named place)) →
      (how ≡ Decided.Plain → (IsDead items body n (named place) → ⊥) × IsSure items body n (named place)) →
      EndsNow (Term.DropAt place next unwind) ending term
  drop-ends Decided.Dead place next unwind ending term h planned is_dead is_plain =
      subst (λ (l : List Stmt). EndsNow (Term.DropAt place next unwind) l term) (sym h.0)
      (subst (EndsNow (Term.DropAt place next unwind) (cleared items body flagged after place)) (sym h.1)
      (dead place next unwind (is_dead refl)))
  drop-ends Decided.Plain place next unwind ending term h planned is_dead is_plain =
      let p = is_plain refl in
      subst (λ (l : List Stmt). EndsNow (Term.DropAt place next unwind) l term) (sym h.0)
      (subst (EndsNow (Term.DropAt place next unwind) (cleared items body flagged after place)) (sym h.1)
      (plain place next unwind p.0 p.1))
  drop-ends (Decided.Planned plan) place next unwind ending term h planned is_dead is_plain =
      subst (λ (l : List Stmt). EndsNow (Term.DropAt place next unwind) l term) (sym h.0)
      (subst (EndsNow (Term.DropAt place next unwind) []) (sym h.1.1)
      (ladder (plan_in plan) place next h.1.0 unwind (planned plan refl) h.1.2))

  -- any block's end, by what is decided of it
  ends-so : (how : Decided) (raw : Term) (ending : List Stmt) (term : Term) →
      EndsBy items body flagged after how kind raw ending term →
      ((place : Place) (next : ℕ) (unwind : Unwind) → raw ≡ Term.DropAt place next unwind → (ending : List Stmt) (term : Term) →
      DropEnds items body flagged after how kind place next unwind ending term →
      EndsNow (Term.DropAt place next unwind) ending term) → EndsNow raw ending term
  ends-so how (Term.DropAt place next unwind) ending term h drops = drops place next unwind refl ending term h
  ends-so how others ending term h drops = other others ending term refl h

right-at : {A : Type 0} (xs ys : List A) (i : ℕ) (y : A) → slice_get ys i ≡ Some y → slice_get (xs ++ ys) (length xs + i) ≡ Some y
right-at [] ys i y e = (let z : 0 + i ≡ i = omega arith in ap (slice_get ys) z) ∙ e
right-at (x ∷ xs) ys i y e =
    (let z : suc (length xs) + i ≡ suc (length xs + i) = omega arith in ap (slice_get (x ∷ (xs ++ ys))) z) ∙ right-at xs ys i y e

left-at : {A : Type 0} (xs ys : List A) (i : ℕ) (x : A) → slice_get xs i ≡ Some x → slice_get (xs ++ ys) i ≡ Some x
left-at [] ys i x e = absurd (none-some x e)
left-at (y ∷ xs) ys zero x e = e
left-at (y ∷ xs) ys (suc i) x e = left-at xs ys i x e

-- ---- the whole body

module _ (items : ItemTable) (body : Body) (forest : PathForest) (is : IsForest items body forest) (flagged : List plain.Place)
    (are_flagged : AreFlagged items body forest.paths flagged) (decided : List Decided)
    (are_decided : AreDecided items body forest.paths (rules.flag_of items body flagged forest.paths) (length body.blocks) decided)
    (made : List Block) (new : Made) (done : AreDone items body flagged decided (length body.blocks) made new) (after : Body)
    (ranks : List ℕ) (long : length ranks ≡ length (made ++ new.blocks))
    (blocks_are : after.blocks ≡ ranked_with (made ++ new.blocks) ranks) where
  abbrev IsNow : ℕ → plain.Place → Decided → Type 0
  IsNow n place how = IsDecided items body forest.paths (rules.flag_of items body flagged forest.paths) n place how

  -- a block of those that were made stands there, with a new rank
  there-at : (n : ℕ) (block : Block) → slice_get (made ++ new.blocks) n ≡ Some block →
      (rank : ℕ) × (slice_get after.blocks n ≡ Some (record block { rank = rank }))
  there-at n block at =
      let r = ranked-there (made ++ new.blocks) ranks n block long at in
      (r.0, ap (λ (l : List Block). slice_get l n) blocks_are ∙ r.1)

  held : Holds after new
  held i block at =
      let first = done.first in
      let l = done.long in
      let number : new.first + i ≡ length made + i = omega (first, l, arith) in
      let r = there-at (length made + i) block (right-at made new.blocks i block at) in (
        record block { rank = r.0 },
        ap (slice_get after.blocks) number ∙ r.1,
        record { kind = refl; stmts = refl; term = refl },
      )

  planned-so : (n : ℕ) (place : plain.Place) (plan : PlainPlan) →
      HasPlan items body forest.paths (rules.flag_of items body flagged forest.paths) n place plan →
      IsPlanned items body flagged n place plan
  planned-so n place plan p = record {
    not_dead = p.not_dead;
    not_sure = p.not_sure;
    forest = forest;
    is_forest = is;
    are_flagged = are_flagged;
    tree = p.tree;
    is_tree = p.is_tree;
    id = p.id;
    typed = p.typed;
    facts = p.facts;
    are_facts = p.are_facts;
    plan_is = p.plan_is;
  }

  -- what is decided of the drop of a block
  decided-at : (n : ℕ) (block : Block) → slice_get body.blocks n ≡ Some block →
      (how : Decided) × (slice_get decided n ≡ Some how)
  decided-at n block at = elim ((slice_get_cases decided n).1) [
    | inl it ↦ (it.0, it.2)
    | inr past ↦ (let f = past.0 in let l = are_decided.long in let w = slice_get_within body.blocks n block at in
        absurd (let never : ⊥ = omega (f, l, w, arith) in never))
  ]

  pub blocks-done : (n : ℕ) (block : Block) → slice_get body.blocks n ≡ Some block → BlockDone items body flagged after n block
  blocks-done n block at =
      let how = decided-at n block at in
      let b = done.each after held n block how.0 (slice_get_within body.blocks n block at) at how.1 in
      let there = b.0 in
      let r = there-at n there (left-at made new.blocks n there b.1) in
      let kind = kind_after items body flagged after block.kind in record {
        ending = b.2.ending;
        term = there.term;
        ends = ends-so items body flagged after n kind how.0 block.term b.2.ending there.term b.2.ends
            (λ place next unwind e ending term d.
            let is_decided = are_decided.each n block place how.0 (at, (next, unwind, e)) how.1 in
            drop-ends items body flagged after n kind how.0 place next unwind ending term d
            (λ plan same. planned-so n (named place) (plan_in plan) (subst (IsNow n (named place)) same is_decided))
            (λ same. subst (IsNow n (named place)) same is_decided)
            (λ same. subst (IsNow n (named place)) same is_decided));
        there = record {
          block = record there { rank = r.0 };
          there = r.1;
          kind_is = b.2.kind_is;
          stmts_are = b.2.stmts_are;
          term_is = refl;
        };
      }
