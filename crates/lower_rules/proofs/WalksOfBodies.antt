-- The walk of a ranked body, up to the place of being stuck, is one equation over effects that do not name it.
use Rattle.std.proofs.Common.{◌≡◌, ℕ, suc, ◌<◌, List, [], ◌∷◌, length, Option, true, false, refl, ap, ◌∙◌, arith}
use Rattle.cfg_graph.specs.declared.graph.Block.{Block}
use Rattle.cfg_graph.specs.declared.graph.Kind.{Kind}
use Rattle.cfg_graph.specs.declared.statement.Stmt.{Stmt}
use Rattle.cfg_graph.specs.declared.terminator.Term.{Term}
use Rattle.cfg_graph.specs.declared.terminator.Unwind.{Unwind}
use Rattle.cfg_graph.specs.Edges.{IsRanked, is_turn_kind}
use Rattle.cfg_meaning.proofs.Walks.{walk_on}
use Rattle.cfg_meaning.specs.Actions.{site_of, operand_of, operands_of, action_of, mode_of}
use Rattle.cfg_meaning.specs.Walk.{Next, stuck_in, ◌>>=◌, fork, branch, renamed, renamed_choice, naming, unwinding, stmts_do, acts, term_does, block_does, by_kind, if_there, does_block, does_turn, walk}
use Rattle.store_model.proofs.Effects.Laws.{Laws}
use Rattle.store_model.specs.Effects as effects
use Rattle.store_model.specs.Effects.{Halt, Aborted, Out, Go, Unwind as Unwinds, Halts, Choice, Yes, No, Neither, Effects}
use Rattle.lower_rules.proofs.TiedWalks.{Walks}
use Rattle.lower_rules.specs.CodeLaws.{without_place}
use Rattle.lower_rules.specs.Spots.{CodeTarget}

stuck_without_place : (number block : ℕ) (halt : Halt) → without_place (stuck_in number block halt) ≡ without_place halt
stuck_without_place number block Aborted = refl
stuck_without_place number block others = refl

module _ {W : Type 0} (number at : ℕ) where
  go_renamed : (o : Out W) (f : W → Out W) →
      renamed without_place (◌>>=◌ (renamed (stuck_in number at) o) f) ≡ ◌>>=◌ (renamed without_place o) (λ v. renamed without_place (f v))
  go_renamed (Go v) f = refl
  go_renamed (Unwinds v) f = refl
  go_renamed (Halts halt v) f = ap (λ h. Halts h v) (stuck_without_place number at halt)

  fork_renamed : (o : Out W) (f g : W → Out W) →
      renamed without_place (fork (renamed (stuck_in number at) o) f g) ≡ fork (renamed without_place o) (λ v. renamed without_place (f v)) (λ v. renamed without_place (g v))
  fork_renamed (Go v) f g = refl
  fork_renamed (Unwinds v) f g = refl
  fork_renamed (Halts halt v) f g = ap (λ h. Halts h v) (stuck_without_place number at halt)

  branch_renamed : (o : Choice W) (f g : W → Out W) →
      renamed without_place (branch (renamed_choice (stuck_in number at) o) f g)
      ≡ branch (renamed_choice without_place o) (λ v. renamed without_place (f v)) (λ v. renamed without_place (g v))
  branch_renamed (Yes v) f g = refl
  branch_renamed (No v) f g = refl
  branch_renamed (Neither halt v) f g = ap (λ h. Halts h v) (stuck_without_place number at halt)

  abbrev up_to : Next W → Next W
  up_to next n w = renamed without_place (next n w)

  unwinding_renamed : (u : Unwind) (next : Next W) (w : W) → renamed without_place (unwinding u next w) ≡ unwinding u (up_to next) w
  unwinding_renamed (Unwind.Block n) next w = refl
  unwinding_renamed Unwind.Resume next w = refl
  unwinding_renamed Unwind.Abort next w = refl

  acts_renamed : (o : Out W) (next : Next W) (to : ℕ) (u : Unwind) →
      renamed without_place (acts (renamed (stuck_in number at) o) next to u) ≡ acts (renamed without_place o) (up_to next) to u
  acts_renamed o next to (Unwind.Block n) = fork_renamed o (next to) (next n)
  acts_renamed o next to Unwind.Resume = fork_renamed o (next to) _
  acts_renamed o next to Unwind.Abort = fork_renamed o (next to) _

  given_renamed : (o : Out W) → renamed without_place (renamed (stuck_in number at) o) ≡ renamed without_place o
  given_renamed (Go v) = refl
  given_renamed (Unwinds v) = refl
  given_renamed (Halts halt v) = ap (λ h. Halts h v) (stuck_without_place number at halt)

  module _ (q : Effects W) where
    term_renamed : (node : ℕ) (term : Term) (next : Next W) (w : W) →
        renamed without_place (term_does (naming (stuck_in number at) q) node term next w) ≡ term_does (naming without_place q) node term (up_to next) w
    term_renamed node (Term.Goto block) next w = refl
    term_renamed node (Term.If on y n) next w = branch_renamed (q.choose (effects.IsTrue (operand_of node on)) w) (next y) (next n)
    term_renamed node (Term.Case on variant y n) next w = branch_renamed (q.choose (effects.HasVariant (site_of node on) variant) w) (next y) (next n)
    term_renamed node (Term.Math to op l r onward u) next w = acts_renamed (q.act (effects.Compute (site_of node to) op (operand_of node l) (operand_of node r)) w) next onward u
    term_renamed node (Term.Negate to x onward u) next w = acts_renamed (q.act (effects.Negate (site_of node to) (operand_of node x)) w) next onward u
    term_renamed node (Term.Bounds x count onward u) next w = acts_renamed (q.act (effects.Bounds (operand_of node x) count) w) next onward u
    term_renamed node (Term.Call to f args onward u) next w = acts_renamed (q.act (effects.Call (site_of node to) f (operands_of node args)) w) next onward u
    term_renamed node (Term.Virtual to t m args onward u) next w = acts_renamed (q.act (effects.CallVirtual (site_of node to) t m (operands_of node args)) w) next onward u
    term_renamed node (Term.Ask to onward u) next w = acts_renamed (q.act (effects.Ask (site_of node to)) w) next onward u
    term_renamed node (Term.DropAt place onward u) next w = acts_renamed (q.drop (mode_of u) (site_of node place) w) next onward u
    term_renamed node (Term.Panic why u) next w = unwinding_renamed u next (q.panic why w)
    term_renamed node Term.Return next w = given_renamed (q.give _ w)
    term_renamed node Term.Resume next w = refl

    stmts_renamed : (node : ℕ → ℕ) (line : ℕ) (stmts : List Stmt) (f g : W → Out W) → ((v : W) → renamed without_place (f v) ≡ g v) → (w : W) →
        renamed without_place (stmts_do (naming (stuck_in number at) q) node line stmts f w) ≡ stmts_do (naming without_place q) node line stmts g w
    stmts_renamed node line [] f g e w = e w
    stmts_renamed node line (stmt ∷ stmts) f g e w =
        go_renamed (q.act (action_of (node line) stmt) w) _
        ∙ pointwise (renamed without_place (q.act (action_of (node line) stmt) w)) (λ v. stmts_renamed node (suc line) stmts f g e v)
      where
        pointwise : (o : Out W) →
            ((v : W) → renamed without_place (stmts_do (naming (stuck_in number at) q) node (suc line) stmts f v) ≡ stmts_do (naming without_place q) node (suc line) stmts g v) →
            ◌>>=◌ o (λ v. renamed without_place (stmts_do (naming (stuck_in number at) q) node (suc line) stmts f v)) ≡ ◌>>=◌ o (stmts_do (naming without_place q) node (suc line) stmts g)
        pointwise (Go v) e = e v
        pointwise (Unwinds v) e = refl
        pointwise (Halts halt v) e = refl

    block_renamed : (node : ℕ → ℕ) (block : Block) (next : Next W) (w : W) →
        renamed without_place (block_does (naming (stuck_in number at) q) node block next w) ≡ block_does (naming without_place q) node block (up_to next) w
    block_renamed node block next w =
        stmts_renamed node 0 block.stmts (term_does (naming (stuck_in number at) q) (node (length block.stmts)) block.term next) _
        (λ v. term_renamed (node (length block.stmts)) block.term next v) w

-- what a block does is the same whatever the numbers of its nodes
abbrev pub SameForNodes : {W : Type 0} → Effects W → (node node' : ℕ → ℕ → ℕ) → Type 0
SameForNodes {W} q node node' =
    (n : ℕ) (block : Block) (next : Next W) (w : W) → block_does (naming without_place q) (node n) block next w ≡ block_does (naming without_place q) (node' n) block next w

module _ {W : Type 0} (size : W → ℕ) (q : Effects W) (laws : Laws q size) (number : ℕ) (node : ℕ → ℕ → ℕ) (t : CodeTarget) (same : SameForNodes q node t.node)
    (ranked : IsRanked t.body) (bound fuel : ℕ) (less : bound < fuel) where
  abbrev pub Walk : Next W
  Walk n w = renamed without_place (walk q number node t.body fuel n w)

  tick_renamed : (o : Out W) (f g : W → Out W) → ((v : W) → renamed without_place (f v) ≡ g v) → renamed without_place (◌>>=◌ o f) ≡ ◌>>=◌ (renamed without_place o) g
  tick_renamed (Go v) f g e = e v
  tick_renamed (Unwinds v) f g e = refl
  tick_renamed (Halts halt v) f g e = refl

  abbrev next : Next W
  next = walk q number node t.body fuel

  abbrev there : Option Block → ℕ → W → Out W
  there o n w =
      if_there q number node t.body o n (λ block. by_kind q number node t.body block.kind n block (λ n. does_turn q number node t.body n block next) (λ n. does_block q number node t.body n block next)) w

  kinds_plain : (kind : Kind) (n : ℕ) (block : Block) (w : W) → is_turn_kind kind ≡ false →
      by_kind q number node t.body kind n block (λ n. does_turn q number node t.body n block next) (λ n. does_block q number node t.body n block next) w ≡ does_block q number node t.body n block next w
  kinds_plain Kind.Plain n block w e = refl
  kinds_plain Kind.Turn n block w e = absurd (let never : true ≡ false = e in cc)
  kinds_plain Kind.Cleanup n block w e = refl

  block_same : (n : ℕ) (block : Block) (w : W) → renamed without_place (does_block q number node t.body n block next w) ≡ block_does (naming without_place q) (t.node n) block Walk w
  block_same n block w = block_renamed number n q (node n) block next w ∙ same n block Walk w

  pub walks : Walks t (naming without_place q) size bound Walk
  walks = record {
    plain = λ n block h e w l.
        ap (renamed without_place) (walk_on size q laws number node t.body ranked fuel n w (omega arith) ∙ ap (λ o. there o n w) h ∙ kinds_plain block.kind n block w e)
        ∙ block_same n block w;
    turn = λ n block h e w l.
        ap (renamed without_place) (walk_on size q laws number node t.body ranked fuel n w (omega arith) ∙ ap (λ o. there o n w) h
        ∙ ap (λ k. by_kind q number node t.body k n block (λ n. does_turn q number node t.body n block next) (λ n. does_block q number node t.body n block next) w) e)
        ∙ tick_renamed (q.tick w) _ _ (λ v. block_same n block v);
  }
