-- The blocks of a ladder, made from its end to its beginning, so that each leads to blocks that stand already: the calm
-- chain and its cleanup twin at once, where the twin of what follows a rung is where a panic of the rung goes on.
use Rattle.std.specs.Prelude.{ℕ, suc, ◌+◌, List, [], ◌∷◌, ◌++◌, length, Option, Some, None}
use Rattle.cfg_graph.specs.declared.graph.Block.{Block}
use Rattle.cfg_graph.specs.declared.graph.Kind.{Kind}
use Rattle.cfg_graph.specs.declared.place.Operand.{Operand}
use Rattle.cfg_graph.specs.declared.place.Place.{Place}
use Rattle.cfg_graph.specs.declared.place.Step.{Step}
use Rattle.cfg_graph.specs.declared.statement.Stmt.{Stmt}
use Rattle.cfg_graph.specs.declared.terminator.Term.{Term}
use Rattle.drop_elaborate.specs.Ladder.{Ending, Calmly, Abruptly, unwind_in, place_below, local_place}
use Rattle.drop_values.specs.Plan.{Plan, Nothing, Entire, ByFlag, InParts, OfBox, ByVariant, Plans, no_plan, a_plan, Cases, no_case, a_case}

-- new blocks, the number of the first of them, and the rank that they begin with: each block leads to ones made before
-- it
pub record Made : Type 0 where
  pub first : ℕ
  pub base : ℕ
  pub blocks : List Block

abbrev pub next_number : Made → ℕ
next_number made = made.first + length made.blocks

abbrev pub with_block : Kind → List Stmt → Term → Made → Made
with_block kind stmts term made = record made {
  blocks = made.blocks
      ++ (record { kind = kind; rank = made.base + length made.blocks; stmts = stmts; term = term }) ∷ [];
}

-- where something begins, with the blocks made for it
pub record Begun : Type 0 where
  pub at : ℕ
  pub made : Made

-- the calm chain and its twin
pub record BegunTwice : Type 0 where
  pub calm : ℕ
  pub twin : ℕ
  pub made : Made

abbrev kind_in : Ending → Kind
kind_in (Calmly cleanup) = Kind.Plain
kind_in Abruptly = Kind.Cleanup

abbrev pub one_block : Ending → List Stmt → Term → Made → Begun
one_block ending stmts term made = record { at = next_number made; made = with_block (kind_in ending) stmts term made }

abbrev pub drop_block : Place → ℕ → Ending → Made → Begun
drop_block place to ending made = one_block ending [] (Term.DropAt place to (unwind_in ending)) made

abbrev pub free_block : Place → ℕ → Ending → Made → Begun
free_block place to ending made = one_block ending (Stmt.Free place ∷ []) (Term.Goto to) made

abbrev pub flag_block : ℕ → (there to : ℕ) → Ending → Made → Begun
flag_block flag there to ending made = one_block ending [] (Term.If (Operand.Copied (local_place flag)) there to) made

abbrev pub case_block : Place → ℕ → (there other : ℕ) → Ending → Made → Begun
case_block place variant there other ending made = one_block ending [] (Term.Case place variant there other) made

-- two blocks, one in each chain
abbrev pub twice : (calm twin : Made → Begun) → Made → BegunTwice
twice calm twin made = record {
  calm = (calm made).at;
  twin = (twin (calm made).made).at;
  made =
      (twin (calm made).made).made;
}

-- a box is freed in both chains, where the flag is set, if there is one
abbrev pub free_by : Option ℕ → Place → (to cleanup : ℕ) → Made → BegunTwice
free_by None place to cleanup made = twice (free_block place to (Calmly cleanup)) (free_block place cleanup Abruptly)
    made
free_by (Some flag) place to cleanup made =
    let b = twice (free_block place to (Calmly cleanup)) (free_block place cleanup Abruptly) made in twice
    (flag_block flag b.calm to (Calmly cleanup)) (flag_block flag b.twin cleanup Abruptly) b.made

-- from where the chains go on, to where they begin
abbrev mutual
  pub ladder_of : Plan → Place → (to cleanup : ℕ) → Made → BegunTwice
  ladder_of Nothing place to cleanup made = record { calm = to; twin = cleanup; made = made }
  ladder_of Entire place to cleanup made = twice (drop_block place to (Calmly cleanup))
      (drop_block place cleanup Abruptly) made
  ladder_of (ByFlag flag plan) place to cleanup made =
      let b = ladder_of plan place to cleanup made in twice (flag_block flag b.calm to (Calmly cleanup))
      (flag_block flag b.twin cleanup Abruptly) b.made
  ladder_of (InParts plans) place to cleanup made = parts_of plans Step.Part 0 place to cleanup made
  ladder_of (OfBox guard plan) place to cleanup made =
      let b = free_by guard place to cleanup made in ladder_of plan (place_below place Step.Inside) b.calm b.twin b.made
  ladder_of (ByVariant cases) place to cleanup made = cases_of cases place to cleanup made

  pub parts_of : Plans → (ℕ → Step) → ℕ → Place → (to cleanup : ℕ) → Made → BegunTwice
  parts_of no_plan step n place to cleanup made = record { calm = to; twin = cleanup; made = made }
  parts_of (a_plan plan plans) step n place to cleanup made =
      let b = parts_of plans step (suc n) place to cleanup made in ladder_of plan (place_below place (step n))
      b.calm b.twin b.made

  pub cases_of : Cases → Place → (to cleanup : ℕ) → Made → BegunTwice
  cases_of no_case place to cleanup made = record { calm = to; twin = cleanup; made = made }
  cases_of (a_case variant plans rest) place to cleanup made =
      let b = cases_of rest place to cleanup made in
      let c = parts_of plans (λ n. Step.Field variant n) 0 place to cleanup b.made in
      twice (case_block place variant c.calm b.calm (Calmly cleanup)) (case_block place variant c.twin b.twin Abruptly)
      c.made
