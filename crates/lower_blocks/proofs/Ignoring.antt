-- What is built of code without an end does not depend on what is open behind it.
use Rattle.std.proofs.Common.{◌≡◌, ◌∙◌, ◌&&◌, ◌||◌, ℕ, Bool, true, false, List, length, refl, sym, ap}
use Rattle.cfg_graph.specs.declared.graph.Kind.{Kind}
use Rattle.cfg_graph.specs.declared.terminator.Term.{Term}
use Rattle.lower_rules.specs.Spots.{Ways, ways_in_loop}
use Rattle.src_meaning.specs.Scopes.{Scopes, with_scope}
use Rattle.lower_code.specs.Code as code
use Rattle.lower_code.specs.Code.{Code, Arms, no_arm, an_arm, Arm, Taken, Empty, Guard, no_guard, a_guard}
use Rattle.lower_rules.specs.Build.{LoweringFrame, BlockRest, Building, Lowers, Done, closing, joined, then_build, with_exit, act_by, is_last, done_by, leave, ending, next_number, reserved, filled, is_left_by, tests, if_true}
use Rattle.lower_rules.specs.Lower.{LowersArm, guard_from}
use Rattle.lower_rules.specs.Codes.{lowers, lowers_arm, lowers_arms, guarded, some_end, built_from, asked}
use Rattle.src_meaning.specs.Forms.{moved}

abbrev pub Ignores : Lowers → Type 0
Ignores P = (c : Ways) (S : Scopes) (k k' : BlockRest) (s : Building) → P.build c S k s ≡ P.build c S k' s

abbrev pub ArmIgnores : LowersArm → Type 0
ArmIgnores one = (c : Ways) (S : Scopes) (otherwise : ℕ) (k k' : BlockRest) (s : Building) → one.build c S otherwise k s ≡ one.build c S otherwise k' s

pub never : {A : Type 0} → true ≡ false → A
never is = let apart : true ≡ false = is in cc

pub left_false : (b d : Bool) → (b || d) ≡ false → b ≡ false
left_false true d is = never is
left_false false d is = refl

pub right_false : (b d : Bool) → (b || d) ≡ false → d ≡ false
right_false true d is = never is
right_false false d is = is

and_left : (b : Bool) → (b && true) ≡ false → b ≡ false
and_left true is = is
and_left false is = refl

then_by : (h : Bool) (P Q : Lowers) → (h ≡ false → Ignores P) → (Q.has_end ≡ false → Ignores Q) → (h && Q.has_end) ≡ false → (c : Ways) (S : Scopes) (k k' : BlockRest) (s : Building) → then_build h P Q c S k s ≡ then_build h P Q c S k' s
then_by true P Q p q is c S k k' s = ap (λ (r : BlockRest × Building). P.build c S r.0 r.1) (q is c (P.after S) k k' s)
then_by false P Q p q is c S k k' s = p refl c S k k' s

pub joined_none : (j : Bool) (node : ℕ) (k : BlockRest) (s : Building) → j ≡ false → joined j node k s ≡ (k, s)
joined_none true node k s is = never is
joined_none false node k s is = refl

exit_none : (h : Bool) (k k' : BlockRest) (s : Building) → h ≡ false → with_exit h k s ≡ with_exit h k' s
exit_none true k k' s is = never is
exit_none false k k' s is = refl

module _ (f : LoweringFrame) where
  acts_ignore : (last : Bool) (node : ℕ) (by : Done) → (act_by f last node by).has_end ≡ false → Ignores (act_by f last node by)
  acts_ignore true node by is c S k k' s = refl
  acts_ignore false node by is c S k k' s = never is

  abbrev branched : ℕ → (ℕ → ℕ → Building → BlockRest × Building) → Lowers → Lowers → Ways → Scopes → BlockRest × Building → BlockRest × Building
  branched node test P Q c S join =
      let if_false = closing (Q.build c S join.0 join.1) in
      let if_true = closing (P.build c S join.0 if_false.1) in
      test if_true.0 if_false.0 if_true.1

  branches_ignore : (node : ℕ) (test : ℕ → ℕ → Building → BlockRest × Building) (P Q : Lowers) → Ignores P → Ignores Q → (c : Ways) (S : Scopes) (k k' : BlockRest) (s : Building) → branched node test P Q c S (k, s) ≡ branched node test P Q c S (k', s)
  branches_ignore node test P Q p q c S k k' s =
      ap (λ (r : BlockRest × Building). let if_true = closing (P.build c S k (closing r).1) in test if_true.0 (closing r).0 if_true.1) (q c S k k' s)
      ∙ ap (λ (r : BlockRest × Building). test (closing r).0 (closing (Q.build c S k' s)).0 (closing r).1) (p c S k k' (closing (Q.build c S k' s)).1)

  abbrev looped_from : ℕ → Lowers → Ways → Scopes → Building → Building → BlockRest × Building
  looped_from id turn c S s start =
      let again = ending (Term.Goto (next_number start)) 0 in
      let inside = ways_in_loop id (length S) (next_number s) (next_number start) (is_left_by id turn.jumps) c in
      let code = turn.build inside S again (reserved start) in
      (again, filled Kind.Turn (next_number start) code.0 code.1)

  guards_ignore : (h : Bool) (guard P : Lowers) (key : ℕ) → (h ≡ false → Ignores guard) → (P.has_end ≡ false → Ignores P) → (h && P.has_end) ≡ false → (c : Ways) (S : Scopes) (otherwise : ℕ) (k k' : BlockRest) (s : Building) → guard_from f h guard key P c S otherwise k s ≡ guard_from f h guard key P c S otherwise k' s
  guards_ignore true guard P key g p is c S otherwise k k' s =
      ap (λ (r : BlockRest × Building). let then_do = closing r in let asked = if_true f (moved key key) key then_do.0 otherwise then_do.1 in guard.build c S asked.0 asked.1) (p is c S k k' s)
  guards_ignore false guard P key g p is c S otherwise k k' s = g refl c S k k' s

  mutual
    pub ignores : (c : Code) → (lowers f c).has_end ≡ false → Ignores (lowers f c)
    ignores code.Nothing is = never is
    ignores (code.Changes change) is = never is
    ignores (code.From change inner) is = λ c S k k' s. ignores inner is c (code.changed_by change S) k k' s
    ignores (code.Then one another) is =
        then_by (lowers f one).has_end (lowers f one) (lowers f another) (ignores one) (ignores another) is
    ignores (code.BackIn inner) is = ignores inner is
    ignores (code.Acts node action) is = acts_ignore (is_last f action) node (done_by f action) is
    ignores (code.InScope node for_temporaries inner) is = λ c S k k' s.
        then_by (lowers f inner).has_end (lowers f inner) (leave f) (ignores inner) (λ never_is. never never_is) is c
        (with_scope node for_temporaries S) k k' s
    ignores code.Leaves is = never is
    ignores (code.Branches node on held otherwise) is = λ c S k k' s.
        let P : Lowers = lowers f held in
        let Q : Lowers = lowers f otherwise in
        ap (branched node (asked f node on) P Q c S) (joined_none (P.has_end || Q.has_end) node k s is)
        ∙ branches_ignore node (asked f node on) P Q (ignores held (left_false P.has_end Q.has_end is)) (ignores otherwise (right_false P.has_end Q.has_end is)) c S k k' s
        ∙ ap (branched node (asked f node on) P Q c S) (sym (joined_none (P.has_end || Q.has_end) node k' s is))
    ignores (code.Loops id turn) is = λ c S k k' s.
        ap (looped_from id (lowers f turn) c S s) (exit_none (is_left_by id (lowers f turn).jumps) k k' s is)
    ignores (code.Exits node exit) is = λ c S k k' s. refl
    ignores (code.Panics node why) is = λ c S k k' s. refl
    ignores (code.Replaces site key) is = never is
    ignores (code.Drops key) is = never is
    ignores (code.Matches node arms) is = λ c S k k' s.
        let all : List LowersArm = lowers_arms f arms in
        ap (λ (j : BlockRest × Building). built_from f node all c S j.0 j.1) (joined_none (some_end f all) node k s is)
        ∙ arms_ignore node arms is c S k k' s
        ∙ ap (λ (j : BlockRest × Building). built_from f node all c S j.0 j.1) (sym (joined_none (some_end f all) node k' s is))

    pub arms_ignore : (node : ℕ) (arms : Arms) → some_end f (lowers_arms f arms) ≡ false → (c : Ways) (S : Scopes) (k k' : BlockRest) (s : Building) → built_from f node (lowers_arms f arms) c S k s ≡ built_from f node (lowers_arms f arms) c S k' s
    arms_ignore node no_arm is c S k k' s = refl
    arms_ignore node (an_arm first rest) is c S k k' s =
        let one : LowersArm = lowers_arm f first in
        let others : List LowersArm = lowers_arms f rest in
        ap (λ (r : BlockRest × Building). one.build c S (closing r).0 k (closing r).1)
        (arms_ignore node rest (right_false one.has_end (some_end f others) is) c S k k' s)
        ∙ arm_ignores first (left_false one.has_end (some_end f others) is) c S (closing (built_from f node others c S k' s)).0 k k' (closing (built_from f node others c S k' s)).1

    pub arm_ignores : (arm : Arm) → (lowers_arm f arm).has_end ≡ false → ArmIgnores (lowers_arm f arm)
    arm_ignores (Taken all guard inner) is = λ c S otherwise k k' s.
        ap (λ (r : BlockRest × Building). tests f all (closing r).0 otherwise (closing r).1) (guarded_ignores guard inner (ignores inner) is c S otherwise k k' s)
    arm_ignores Empty is = never is

    guarded_ignores : (guard : Guard) (inner : Code) → ((lowers f inner).has_end ≡ false → Ignores (lowers f inner)) → (guarded f guard (lowers f inner)).has_end ≡ false → ArmIgnores (guarded f guard (lowers f inner))
    guarded_ignores no_guard inner ignored is = λ c S otherwise k k' s. ignored is c S k k' s
    guarded_ignores (a_guard key guard) inner ignored is =
        guards_ignore (lowers f guard).has_end (lowers f guard) (lowers f inner) key (ignores guard) ignored is
