-- The blocks that are made of the code of a body: what each of its parts lowers to, by the rules of `Build` and
-- `Lower`.
use Rattle.std.specs.Prelude.{ℕ, Bool, true, false, ◌&&◌, ◌||◌, List, [], ◌∷◌, ◌++◌}
use Rattle.cfg_graph.specs.declared.terminator.Term.{Term}
use Rattle.mir_base.specs.declared.trace.Why.{Why}
use Rattle.src_meaning.specs.Forms.{moved, site_of_key}
use Rattle.src_meaning.specs.Scopes.{Scopes, Exit}
use Rattle.src_meaning.specs.Shape.{PatternTests}
use Rattle.lower_code.specs.Code.{changed_by, Condition, IsTrue, Passes, Code, Nothing, Changes, From, Then, BackIn, Acts, InScope, Leaves, Branches, Loops, Exits, Panics, Replaces, Drops, Matches, Arms, no_arm, an_arm, Arm, Taken, Empty, Guard, no_guard, a_guard}
use Rattle.lower_rules.specs.Build.{LoweringFrame, BlockRest, Building, closing, jumps_if, Lowers, change, nothing, from_changed, back_in, then_lower, joined, branches, looped, panic_drops, unwinding, act, drop_one, leave, in_scope, exits, panics, if_true, tests, replaces}
use Rattle.lower_rules.specs.Lower.{LowersArm, guard_from}
use Rattle.lower_rules.specs.Spots.{Ways}

module _ (f : LoweringFrame) where
  -- the test of a branch
  abbrev pub asked : ℕ → Condition → ℕ → ℕ → Building → BlockRest × Building
  asked node (IsTrue key) y n s = if_true f (moved key key) key y n s
  asked node (Passes all) y n s = tests f all y n s

  abbrev pub without_guard : Lowers → LowersArm
  without_guard P = record { has_end = P.has_end; jumps = P.jumps; build = λ c S otherwise k s. P.build c S k s }

  abbrev pub with_guard : ℕ → Lowers → Lowers → LowersArm
  with_guard key guard P = record {
    has_end = guard.has_end && P.has_end;
    jumps = guard.jumps ++ jumps_if guard.has_end P.jumps;
    build = guard_from f guard.has_end guard key P;
  }

  -- the tests of an arm, and then the arm
  abbrev pub behind_tests : PatternTests → LowersArm → LowersArm
  behind_tests all one = record one {
    build = λ c S otherwise k s.
        let then_do = closing (one.build c S otherwise k s) in tests f all then_do.0 otherwise then_do.1;
  }

  abbrev pub does_nothing : LowersArm
  does_nothing = record { has_end = true; jumps = []; build = λ c S otherwise k s. (k, s) }

  abbrev pub some_end : List LowersArm → Bool
  some_end [] = false
  some_end (one ∷ rest) = one.has_end || some_end rest

  abbrev pub all_jumps : List LowersArm → List Exit
  all_jumps [] = []
  all_jumps (one ∷ rest) = one.jumps ++ all_jumps rest

  -- the last arm is built first; behind it a panic
  abbrev pub built_from : ℕ → List LowersArm → Ways → Scopes → BlockRest → Building → BlockRest × Building
  built_from node [] c S k s = unwinding f (Term.Panic Why.Match) node (panic_drops f S) s
  built_from node (one ∷ rest) c S k s =
      let otherwise = closing (built_from node rest c S k s) in one.build c S otherwise.0 k otherwise.1

  abbrev pub matches : ℕ → List LowersArm → Lowers
  matches node all = record {
    has_end = some_end all;
    jumps = all_jumps all;
    after = λ S. S;
    build = λ c S k s. let join = joined (some_end all) node k s in built_from node all c S join.0 join.1;
  }

  abbrev mutual
    pub lowers : Code → Lowers
    lowers Nothing = nothing
    lowers (Changes c) = change (changed_by c)
    lowers (From c code) = from_changed (changed_by c) (lowers code)
    lowers (Then one another) = then_lower (lowers one) (lowers another)
    lowers (BackIn code) = back_in (lowers code)
    lowers (Acts node action) = act f node action
    lowers (InScope node for_temporaries code) = in_scope f node for_temporaries (lowers code)
    lowers Leaves = leave f
    lowers (Branches node on held otherwise) = branches node (asked node on) (lowers held) (lowers otherwise)
    lowers (Loops id turn) = looped id (lowers turn)
    lowers (Exits node exit) = exits f node exit
    lowers (Panics node why) = panics f node why
    lowers (Replaces site key) = replaces f true site key
    lowers (Drops key) = record nothing { build = λ c S. drop_one f (site_of_key key) (panic_drops f S) }
    lowers (Matches node arms) = matches node (lowers_arms arms)

    pub lowers_arms : Arms → List LowersArm
    lowers_arms no_arm = []
    lowers_arms (an_arm first rest) = lowers_arm first ∷ lowers_arms rest

    pub lowers_arm : Arm → LowersArm
    lowers_arm (Taken all guard code) = behind_tests all (guarded guard (lowers code))
    lowers_arm Empty = does_nothing

    pub guarded : Guard → Lowers → LowersArm
    guarded no_guard P = without_guard P
    guarded (a_guard key code) P = with_guard key (lowers code) P
