-- The blocks of a ladder, made from its end to its beginning before chains that stand already: a calm chain and its
-- cleanup twin at once, or one chain while a panic unwinds.
use Rattle.std.specs.Prelude.{ℕ, suc, List, [], ◌∷◌, Option, Some, None, unwrap_or}
use Rattle.cfg_graph.specs.declared.graph.Kind.{Kind}
use Rattle.cfg_graph.specs.declared.place.Operand.{Operand}
use Rattle.cfg_graph.specs.declared.place.Place.{Place}
use Rattle.cfg_graph.specs.declared.place.Step.{Step}
use Rattle.cfg_graph.specs.declared.statement.Stmt.{Stmt}
use Rattle.cfg_graph.specs.declared.terminator.Term.{Term}
use Rattle.drop_elaborate.specs.Build.{Made, Begun, next_number, with_block}
use Rattle.drop_elaborate.specs.Ladder.{Ending, Calmly, Abruptly, unwind_in, place_below, local_place}
use Rattle.drop_values.specs.Plan.{Plan, Nothing, Entire, ByFlag, InParts, OfBox, ByVariant, Plans, no_plan, a_plan, Cases, no_case, a_case}
use Rattle.drop_blocks.specs.declared.blocks.NewBlocks.{NewBlocks}
use Rattle.drop_blocks.specs.declared.rungs.Chains.{Chains}

-- new blocks; the rank of each is its number
abbrev pub made_of : NewBlocks → Made
made_of blocks = record { first = blocks.first; base = blocks.first; blocks = blocks.made }

abbrev pub no_block : ℕ → Made
no_block first = record { first = first; base = first; blocks = [] }

abbrev pub begun_of : ℕ → NewBlocks → Begun
begun_of number blocks = record { at = number; made = made_of blocks }

-- a block more
abbrev pub with_one : Kind → List Stmt → Term → Made → Begun
with_one kind stmts term made = record { at = next_number made; made = with_block kind stmts term made }

-- chains, with the blocks so far
pub record Built : Type 0 where
  pub chains : Chains
  pub made : Made

abbrev pub built_of : Chains → NewBlocks → Built
built_of chains blocks = record { chains = chains; made = made_of blocks }

abbrev pub built : (calm : ℕ) → (twin : Option ℕ) → Made → Built
built calm twin made = record { chains = record { calm = calm; twin = twin }; made = made }

-- a chain without a twin is made while a panic unwinds
abbrev pub ending_of : Option ℕ → Ending
ending_of None = Abruptly
ending_of (Some twin) = Calmly twin

-- the step to a part of a value, or of a variant of it
abbrev pub step_of : Option ℕ → ℕ → Step
step_of None part = Step.Part part
step_of (Some variant) part = Step.Field variant part

-- one block of a chain, whose blocks are of a kind: it drops a place, it frees the box of one, or it looks at a flag or
-- at the variant of a value
abbrev pub drop_rung : Place → Kind → (to : ℕ) → Ending → Made → Begun
drop_rung place kind to ending made = with_one kind [] (Term.DropAt place to (unwind_in ending)) made

abbrev pub free_rung : Place → Kind → (to : ℕ) → Ending → Made → Begun
free_rung place kind to ending made = with_one kind (Stmt.Free place ∷ []) (Term.Goto to) made

abbrev pub flag_test : ℕ → Kind → (there to : ℕ) → Ending → Made → Begun
flag_test flag kind there to ending made = with_one kind [] (Term.If (Operand.Copied (local_place flag)) there to) made

abbrev pub case_test : Place → ℕ → Kind → (there other : ℕ) → Ending → Made → Begun
case_test place variant kind there other ending made = with_one kind [] (Term.Case place variant there other) made

-- a rung that was begun, and the twin of it before this block, if there is one
abbrev pub with_twin : (ℕ → Ending → Made → Begun) → Option ℕ → Begun → Built
with_twin twin None calm = built calm.at None calm.made
with_twin twin (Some to) calm =
    built calm.at (Some (twin to Abruptly calm.made).at) (twin to Abruptly calm.made).made

-- the blocks of the calm chain are of this kind, and those of its twin are cleanup blocks
module _ (kind : Kind) where
  -- a rung before chains
  abbrev pub rung_before : (Kind → ℕ → Ending → Made → Begun) → Chains → Made → Built
  rung_before rung rest made =
      with_twin (rung Kind.Cleanup) rest.twin (rung kind rest.calm (ending_of rest.twin) made)

  -- a test, which leads to what is done where it holds, and to the rest
  abbrev pub test_before : (Kind → ℕ → ℕ → Ending → Made → Begun) → (there rest : Chains) → Made → Built
  test_before test there rest made =
      with_twin (λ to. test Kind.Cleanup (unwrap_or there.twin to) to) rest.twin
      (test kind there.calm rest.calm (ending_of rest.twin) made)

  -- a box is freed, where the flag is set, if there is one
  abbrev pub freed_before : Option ℕ → Place → Chains → Made → Built
  freed_before None place rest made = rung_before (free_rung place) rest made
  freed_before (Some flag) place rest made =
      let there = rung_before (free_rung place) rest made in
      test_before (flag_test flag) there.chains rest there.made

  -- from where the chains go on, to where they begin
  abbrev mutual
    pub ladder_of : Plan → Place → Chains → Made → Built
    ladder_of Nothing place rest made = record { chains = rest; made = made }
    ladder_of Entire place rest made = rung_before (drop_rung place) rest made
    ladder_of (ByFlag flag plan) place rest made =
        let there = ladder_of plan place rest made in test_before (flag_test flag) there.chains rest there.made
    ladder_of (InParts plans) place rest made = parts_of plans Step.Part 0 place rest made
    ladder_of (OfBox guard plan) place rest made =
        let behind = freed_before guard place rest made in
        ladder_of plan (place_below place Step.Inside) behind.chains behind.made
    ladder_of (ByVariant cases) place rest made = cases_of cases place rest made

    pub parts_of : Plans → (ℕ → Step) → ℕ → Place → Chains → Made → Built
    parts_of no_plan step n place rest made = record { chains = rest; made = made }
    parts_of (a_plan plan plans) step n place rest made =
        let behind = parts_of plans step (suc n) place rest made in
        ladder_of plan (place_below place (step n)) behind.chains behind.made

    pub cases_of : Cases → Place → Chains → Made → Built
    cases_of no_case place rest made = record { chains = rest; made = made }
    cases_of (a_case variant plans others) place rest made =
        let other = cases_of others place rest made in
        let there = parts_of plans (λ n. Step.Field variant n) 0 place rest other.made in
        test_before (case_test place variant) there.chains other.chains there.made
