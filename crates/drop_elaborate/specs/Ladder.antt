-- Where the ladder of a plan stands in a body: a block for each drop and test, in order, and for each rung that may
-- panic a cleanup twin of the rungs that follow it.
use Rattle.std.specs.Prelude.{◌≡◌, ℕ, suc, false, List, [], ◌∷◌, ◌++◌, Option, Some, None, slice_get}
use Rattle.cfg_graph.specs.declared.graph.Block.{Block}
use Rattle.cfg_graph.specs.declared.graph.Body.{Body}
use Rattle.cfg_graph.specs.declared.place.Operand.{Operand}
use Rattle.cfg_graph.specs.declared.place.Place.{Place}
use Rattle.cfg_graph.specs.declared.place.Step.{Step}
use Rattle.cfg_graph.specs.declared.statement.Stmt.{Stmt}
use Rattle.cfg_graph.specs.declared.terminator.Term.{Term}
use Rattle.cfg_graph.specs.declared.terminator.Unwind.{Unwind}
use Rattle.cfg_graph.specs.Edges.{is_turn}
use Rattle.drop_values.specs.Plan.{Plan, Nothing, Entire, ByFlag, InParts, OfBox, ByVariant, Plans, no_plan, a_plan, Cases, no_case, a_case}
use Rattle.store_model.specs.Effects.{Mode, Normal, Unwinding}

-- a drop before a panic, where a panic goes on in a cleanup block; or one that is made while a panic unwinds
pub data Ending : Type 0 where
  Calmly : (cleanup : ℕ) → Ending
  Abruptly : Ending

abbrev pub mode_in : Ending → Mode
mode_in (Calmly cleanup) = Normal
mode_in Abruptly = Unwinding

abbrev pub unwind_in : Ending → Unwind
unwind_in (Calmly cleanup) = Unwind.Block cleanup
unwind_in Abruptly = Unwind.Abort

abbrev pub place_below : Place → Step → Place
place_below place step = record { local = place.local; steps = place.steps ++ step ∷ [] }

abbrev pub local_place : ℕ → Place
local_place local = record { local = local; steps = [] }

module _ (body : Body) where
  -- a block that is no turn, with these statements and this terminator
  pub record BlockAt (n : ℕ) (stmts : List Stmt) (term : Term) : Type 0 where
    pub block : Block
    pub there : slice_get body.blocks n ≡ Some block
    pub plain : is_turn block ≡ false
    pub stmts_are : block.stmts ≡ stmts
    pub term_is : block.term ≡ term

  -- what follows a rung: its twin, where the rung may panic
  abbrev pub TwinOf : (ℕ → ℕ → Ending → Type 0) → Ending → (Ending → Type 0) → Type 0
  TwinOf follows (Calmly cleanup) P = (twin : ℕ) × (follows twin cleanup Abruptly) × P (Calmly twin)
  TwinOf follows Abruptly P = P Abruptly

  -- the box of a place is freed
  abbrev pub FreedAt : Place → (from to : ℕ) → Ending → Type 0
  FreedAt place from to ending = BlockAt from (Stmt.Free place ∷ []) (Term.Goto to)

  -- it is freed, where the flag is set, if there is one
  abbrev pub FreedBy : Option ℕ → Place → (from to : ℕ) → Ending → Type 0
  FreedBy None place from to ending = FreedAt place from to ending
  FreedBy (Some flag) place from to ending = (yes : ℕ) × BlockAt from []
      (Term.If (Operand.Copied (local_place flag)) yes to) × FreedAt place yes to ending

  abbrev mutual
    -- from a block on, to a block
    pub LadderAt : Plan → Place → (from to : ℕ) → Ending → Type 0
    LadderAt Nothing place from to ending = from ≡ to
    LadderAt Entire place from to ending = BlockAt from [] (Term.DropAt place to (unwind_in ending))
    LadderAt (ByFlag flag plan) place from to ending =
        (yes : ℕ) × BlockAt from [] (Term.If (Operand.Copied (local_place flag)) yes to)
        × LadderAt plan place yes to ending
    LadderAt (InParts plans) place from to ending = PartsAt plans Step.Part 0 place from to ending
    LadderAt (OfBox guard plan) place from to ending =
        (mid : ℕ) × FreedBy guard place mid to ending × TwinOf (FreedBy guard place) ending
        (LadderAt plan (place_below place Step.Inside) from mid)
    LadderAt (ByVariant cases) place from to ending = CasesAt cases place from to ending

    pub PartsAt : Plans → (ℕ → Step) → ℕ → Place → (from to : ℕ) → Ending → Type 0
    PartsAt no_plan step n place from to ending = from ≡ to
    PartsAt (a_plan plan plans) step n place from to ending =
        (mid : ℕ) × PartsAt plans step (suc n) place mid to ending × TwinOf (PartsAt plans step (suc n) place) ending
        (LadderAt plan (place_below place (step n)) from mid)

    pub CasesAt : Cases → Place → (from to : ℕ) → Ending → Type 0
    CasesAt no_case place from to ending = from ≡ to
    CasesAt (a_case variant plans rest) place from to ending =
        (yes no : ℕ) × BlockAt from [] (Term.Case place variant yes no)
        × PartsAt plans (λ n. Step.Field variant n) 0 place yes to ending × CasesAt rest place no to ending
