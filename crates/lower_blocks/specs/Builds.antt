-- What is built of code: what its lowering builds before the rest.
use Rattle.std.specs.Prelude.{ℕ, suc, Bool, true, false, ◌≡◌, ◌++◌, List, Option, Some, None, map, slice_get}
use Rattle.cfg_graph.specs.declared.graph.Kind.{Kind}
use Rattle.cfg_graph.specs.declared.terminator.Term.{Term}
use Rattle.lower_rules.specs.Build as build
use Rattle.lower_rules.specs.Build.{LoweringFrame, Lowers, BlockRest, Building}
use Rattle.lower_rules.specs.Codes.{lowers, built_from, with_guard}
use Rattle.lower_rules.specs.Lower.{LowersArm}
use Rattle.lower_rules.specs.Spots as spots
use Rattle.mir_base.specs.declared.place_in_text.Key.{Key}
use Rattle.src_meaning.specs.Forms.{moved}
use Rattle.src_meaning.specs.Scopes.{Scopes}
use Rattle.lower_code.specs.Code as code
use Rattle.lower_code.specs.Code.{Code, Arms, no_arm, an_arm, Arm, Guard, no_guard, a_guard}
use Rattle.lower_code.specs.Ops as ops
use Rattle.lower_code.specs.View.{op_of}
use Rattle.lower_blocks.specs.Building.{built_of, rest_of, building_of, ways_of}
use Rattle.lower_blocks.specs.declared.blocks.Blocks.{Blocks}
use Rattle.lower_blocks.specs.declared.ways.LoopWay.{LoopWay}
use Rattle.lower_passes.specs.Framed.{frame_of}
use Rattle.lower_passes.specs.Reaching.{AreReaches}
use Rattle.lower_passes.specs.Scoped.{scopes_of}
use Rattle.lower_passes.specs.Spans as spans
use Rattle.lower_passes.specs.declared.marks.CodeMark.{CodeMark}
use Rattle.lower_blocks.specs.declared.arms.ArmSpan.{ArmSpan}
use Rattle.lower_blocks.specs.declared.context.BuildContext.{BuildContext}

abbrev pub frame_at : BuildContext → LoweringFrame
frame_at at = frame_of at.frame

-- code stands among the words of the body
abbrev pub StandsAt : BuildContext → Code → (start end : ℕ) → Type 0
StandsAt at = spans.Stands (frame_at at) (map op_of at.code.words.now) at.code.marks.now

abbrev pub OneAt : BuildContext → Code → (start end : ℕ) → Type 0
OneAt at c = spans.OneBefore (frame_at at) (map op_of at.code.words.now) at.code.marks.now (StandsAt at c)

abbrev pub TwoAt : BuildContext → (one another : Code) → (start end : ℕ) → Type 0
TwoAt at one another =
    spans.TwoBefore (frame_at at) (map op_of at.code.words.now) at.code.marks.now (StandsAt at one)
    (StandsAt at another)

-- what is noted of the words, of how many scopes code may change, holds
abbrev pub IsReached : BuildContext → Type 0
IsReached at = (f : LoweringFrame) → AreReaches f (map op_of at.code.words.now) at.code.marks.now at.reaches.now

-- what is built before a rest
abbrev pub IsBuiltBefore : BuildContext → Lowers → BlockRest → Building → (after : Blocks) → Type 0
IsBuiltBefore at P k s after = built_of after ≡ P.build (ways_of at.ways) (scopes_of at.scopes.now) k s

-- and before what was open
abbrev pub IsBuilt : BuildContext → Code → (before after : Blocks) → Type 0
IsBuilt at c before after =
    IsBuiltBefore at (lowers (frame_at at) c) (rest_of before.rest) (building_of before) after

-- what is built where a block is entered behind it
abbrev pub IsBuiltToward : BuildContext → Code → (to node : ℕ) → (before after : Blocks) → Type 0
IsBuiltToward at c to node before after =
    IsBuiltBefore at (lowers (frame_at at) c) (build.ending (Term.Goto to) node) (building_of before) after

-- what is built of code behind another, if that has an end
abbrev pub behind : Bool → Lowers → Lowers → spots.Ways → Scopes → BlockRest → Building → BlockRest × Building
behind true P Q c S k s = Q.build c (P.after S) k s
behind false P Q c S k s = (k, s)

abbrev pub IsBuiltBehind : BuildContext → Lowers → Lowers → (before after : Blocks) → Type 0
IsBuiltBehind at P Q before after =
    built_of after
    ≡ behind P.has_end P Q (ways_of at.ways) (scopes_of at.scopes.now) (rest_of before.rest) (building_of before)

-- the turn of a loop, whose turn block is given out already
abbrev pub turn_at : BuildContext → LoopWay → Code → Building → BlockRest × Building
turn_at at way turn s =
    (lowers (frame_at at) turn).build
    (spots.ways_in_loop way.id.0 way.base way.exit way.turn way.is_left (ways_of at.ways)) (scopes_of at.scopes.now)
    (build.ending (Term.Goto way.turn) 0) s

abbrev pub IsTurnBuilt : BuildContext → LoopWay → Code → (before after : Blocks) → Type 0
IsTurnBuilt at way turn before after =
    built_of after ≡ (
      build.ending (Term.Goto way.turn) 0,
      build.filled Kind.Turn way.turn (turn_at at way turn (building_of before)).0
          (turn_at at way turn (building_of before)).1,
    )

-- Arms.

-- an arm behind others
abbrev pub arms_then : Arms → Arm → Arms
arms_then no_arm last = an_arm last no_arm
arms_then (an_arm first rest) last = an_arm first (arms_then rest last)

-- the word at which an arm ends
abbrev pub ends_arm : ops.CodeWord → Bool
ends_arm (ops.IsArm tests guard) = true
ends_arm ops.EmptyArm = true
ends_arm word = false

module _ (f : LoweringFrame) (words : List ops.CodeWord) (marks : List CodeMark) where
  -- arms stand behind the word before them
  abbrev pub ArmsStand : Arms → (begin end : ℕ) → Type 0
  ArmsStand arms begin end =
      (slice_get words begin ≡ Some ops.BeforeArms) × spans.StandArms f words marks arms (suc begin) end

  -- the last of arms, or none
  abbrev pub IsLast : Arms → (begin : ℕ) → Option ArmSpan → Type 0
  IsLast arms begin None = arms ≡ no_arm
  IsLast arms begin (Some at) =
      (rest : Arms) × ((last : Arm) × ((arms ≡ arms_then rest last)
      × (spans.StandArms f words marks rest (suc begin) at.start × spans.StandsArm f words marks last at.start at.end)))

  -- an arm that is taken, behind its tests: the key and the code of its guard, if it has one, and its code
  abbrev pub TakenStands : Option Key → Guard → Code → (start end : ℕ) → Type 0
  TakenStands None no_guard inner start end = spans.OneBefore f words marks (spans.Stands f words marks inner) start end
  TakenStands (Some key) (a_guard number asked) inner start end =
      (number ≡ key.0)
      × spans.TwoBefore f words marks (spans.Stands f words marks asked) (spans.Stands f words marks inner) start end
  TakenStands key asked inner start end = ⊥

abbrev pub TakenStandsAt : BuildContext → Option Key → Guard → Code → (start end : ℕ) → Type 0
TakenStandsAt at = TakenStands (frame_at at) (map op_of at.code.words.now) at.code.marks.now

abbrev pub ArmsStandAt : BuildContext → Arms → (begin end : ℕ) → Type 0
ArmsStandAt at = ArmsStand (frame_at at) (map op_of at.code.words.now) at.code.marks.now

abbrev pub ArmStandsAt : BuildContext → Arm → (start end : ℕ) → Type 0
ArmStandsAt at = spans.StandsArm (frame_at at) (map op_of at.code.words.now) at.code.marks.now

-- before arms that are built already, others are
abbrev pub arms_at : BuildContext → (node to : ℕ) → List LowersArm → Building → BlockRest × Building
arms_at at node to arms s =
    built_from (frame_at at) node arms (ways_of at.ways) (scopes_of at.scopes.now) (build.ending (Term.Goto to) node) s

abbrev pub ArmsAreBuilt : BuildContext → (node to : ℕ) → List LowersArm → (before after : Blocks) → Type 0
ArmsAreBuilt at node to arms before after =
    (others : List LowersArm) (s : Building) → built_of before ≡ arms_at at node to others s →
    built_of after ≡ arms_at at node to (arms ++ others) s

abbrev pub ArmIsBuiltBefore : BuildContext → LowersArm → (otherwise : ℕ) → (before after : Blocks) → Type 0
ArmIsBuiltBefore at one otherwise before after =
    built_of after
    ≡ one.build (ways_of at.ways) (scopes_of at.scopes.now) otherwise (rest_of before.rest) (building_of before)

-- an arm with a guard
abbrev pub guarded_by : BuildContext → (key : ℕ) → (guard inner : Code) → LowersArm
guarded_by at key guard inner =
    with_guard (frame_at at) key (lowers (frame_at at) guard) (lowers (frame_at at) inner)

-- what is built behind a guard, if that has an end: the code of the arm, and the test of the guard
abbrev pub behind_guard :
    LoweringFrame → Bool → (key : ℕ) → Lowers → spots.Ways → Scopes → (otherwise : ℕ) → BlockRest → Building →
    BlockRest × Building
behind_guard f true key P c S otherwise k s =
    let yes = build.closing (P.build c S k s) in build.if_true f (moved key key) key yes.0 otherwise yes.1
behind_guard f false key P c S otherwise k s = (k, s)

abbrev pub IsBuiltBehindGuard : BuildContext → (key : ℕ) → (guard inner : Code) → (otherwise : ℕ) → (before after : Blocks) →
    Type 0
IsBuiltBehindGuard at key guard inner otherwise before after =
    built_of after
    ≡ behind_guard (frame_at at) (lowers (frame_at at) guard).has_end key (lowers (frame_at at) inner)
    (ways_of at.ways) (scopes_of at.scopes.now) otherwise (rest_of before.rest) (building_of before)

-- code that is one word
abbrev pub leaf_of : ops.CodeWord → Option Code
leaf_of ops.Nothing = Some code.Nothing
leaf_of (ops.Changes change) = Some (code.Changes change)
leaf_of (ops.Acts node action) = Some (code.Acts node action)
leaf_of ops.Leaves = Some code.Leaves
leaf_of (ops.Exits node exit) = Some (code.Exits node exit)
leaf_of (ops.Panics node why) = Some (code.Panics node why)
leaf_of (ops.Replaces site key) = Some (code.Replaces site key)
leaf_of (ops.Drops key) = Some (code.Drops key)
leaf_of word = None
