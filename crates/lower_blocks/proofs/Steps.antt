-- What is built by the steps of a function is what the lowering builds.
use Rattle.std.proofs.Common.{◌≡◌, ◌∙◌, ◌++◌, ◌||◌, ◌∷◌, ℕ, Bool, true, false, not, List, [], length, map, refl, sym, ap}
use Rattle.cfg_graph.specs.declared.graph.Kind.{Kind}
use Rattle.cfg_graph.specs.declared.terminator.Term.{Term}
use Rattle.mir_base.specs.declared.trace.Why.{Why}
use Rattle.lower_rules.specs.Spots.{Ways, ways_in_loop}
use Rattle.src_meaning.specs.Scopes.{Scopes}
use Rattle.lower_code.specs.Code as code
use Rattle.lower_code.specs.Code.{Code, Arms}
use Rattle.src_meaning.specs.Forms.{moved}
use Rattle.src_meaning.specs.Shape.{PatternTests}
use Rattle.lower_rules.specs.Build as build
use Rattle.lower_rules.specs.Build.{LoweringFrame, BlockRest, Building, Lowers, closing, joined, then_build, with_exit, act_by, Done, ending, next_number, reserved, filled, is_left_by, tests, panic_drops, unwinding}
use Rattle.lower_rules.specs.Lower.{LowersArm, guard_from}
use Rattle.lower_rules.specs.Codes.{lowers, lowers_arms, behind_tests, some_end, built_from, asked}
use Rattle.lower_blocks.specs.Building.{loop_of}
use Rattle.lower_blocks.specs.declared.ways.LoopWay.{LoopWay}
use Rattle.lower_blocks.specs.Builds.{behind, behind_guard}
use Rattle.lower_blocks.proofs.Ignoring.{Ignores, never, left_false, right_false, ignores, arms_ignore}

-- an effect, by whether a run comes behind it

pub by_end : (f : LoweringFrame) (last ends : Bool) (node : ℕ) (by : Done) → ends ≡ (act_by f last node by).has_end → act_by f (not ends) node by ≡ act_by f last node by
by_end f true ends node by is = ap (λ (e : Bool). act_by f (not e) node by) is
by_end f false ends node by is = ap (λ (e : Bool). act_by f (not e) node by) is

-- one before the other

then_is : (h : Bool) (P Q : Lowers) (W : Ways) (S : Scopes) (k : BlockRest) (b : Building) → then_build h P Q W S k b ≡ P.build W S (behind h P Q W S k b).0 (behind h P Q W S k b).1
then_is true P Q W S k b = refl
then_is false P Q W S k b = refl

pub one_after : (P Q : Lowers) (W : Ways) (S : Scopes) (k : BlockRest) (b : Building) (mid new : BlockRest × Building) → mid ≡ behind P.has_end P Q W S k b → new ≡ P.build W S mid.0 mid.1 → new ≡ then_build P.has_end P Q W S k b
one_after P Q W S k b mid new first made =
    made ∙ ap (λ (r : BlockRest × Building). P.build W S r.0 r.1) first ∙ sym (then_is P.has_end P Q W S k b)

pub behind_true : (h : Bool) (P Q : Lowers) (W : Ways) (S : Scopes) (k : BlockRest) (b : Building) → h ≡ true → Q.build W (P.after S) k b ≡ behind h P Q W S k b
behind_true true P Q W S k b is = refl
behind_true false P Q W S k b is = never (sym is)

pub behind_false : (h : Bool) (P Q : Lowers) (W : Ways) (S : Scopes) (k : BlockRest) (b : Building) → h ≡ false → (k, b) ≡ behind h P Q W S k b
behind_false true P Q W S k b is = never is
behind_false false P Q W S k b is = refl

-- a rest to which several codes come

on_rest : (h : Bool) (P : Lowers) (W : Ways) (S : Scopes) (j k : BlockRest) → (h ≡ true → j ≡ k) → (h ≡ false → Ignores P) → (b : Building) → P.build W S k b ≡ P.build W S j b
on_rest true P W S j k same ignored b = ap (λ (r : BlockRest). P.build W S r b) (sym (same refl))
on_rest false P W S j k same ignored b = ignored refl W S k j b

module _ (f : LoweringFrame) (node : ℕ) (on : code.Condition) (one another : Code) (W : Ways) (S : Scopes) (k : BlockRest) (b : Building) where
  abbrev P : Lowers
  P = lowers f one

  abbrev Q : Lowers
  Q = lowers f another

  abbrev joint : BlockRest × Building
  joint = joined (P.has_end || Q.has_end) node k b

  abbrev if_not : BlockRest × Building
  if_not = Q.build W S joint.0 joint.1

  abbrev if_so : BlockRest × Building
  if_so = P.build W S joint.0 (closing if_not).1

  pub branched : (to no yes : ℕ) (after_join b1 b2 : Building) (qs ps new : BlockRest × Building) → after_join ≡ joint.1 → ((P.has_end || Q.has_end) ≡ true → joint.0 ≡ ending (Term.Goto to) node) → qs ≡ Q.build W S (ending (Term.Goto to) node) after_join → no ≡ (closing qs).0 → b1 ≡ (closing qs).1 → ps ≡ P.build W S (ending (Term.Goto to) node) b1 → yes ≡ (closing ps).0 → b2 ≡ (closing ps).1 → new ≡ asked f node on yes no b2 → new ≡ (lowers f (code.Branches node on one another)).build W S k b
  branched to m l after_join b1 b2 qs ps new joins goes q n nb p y yb made =
      let h : Bool = P.has_end || Q.has_end in
      let qs_is : qs ≡ if_not =
      q ∙ ap (λ (s : Building). Q.build W S (ending (Term.Goto to) node) s) joins
      ∙ on_rest h Q W S joint.0 (ending (Term.Goto to) node) goes (λ is. ignores f another (right_false P.has_end Q.has_end is)) joint.1 in
      let b1_is : b1 ≡ (closing if_not).1 = nb ∙ ap (λ (r : BlockRest × Building). (closing r).1) qs_is in
      let ps_is : ps ≡ if_so =
      p ∙ ap (λ (s : Building). P.build W S (ending (Term.Goto to) node) s) b1_is
      ∙ on_rest h P W S joint.0 (ending (Term.Goto to) node) goes (λ is. ignores f one (left_false P.has_end Q.has_end is)) (closing if_not).1 in
      let no_is : m ≡ (closing if_not).0 = n ∙ ap (λ (r : BlockRest × Building). (closing r).0) qs_is in
      let yes_is : l ≡ (closing if_so).0 = y ∙ ap (λ (r : BlockRest × Building). (closing r).0) ps_is in
      let b2_is : b2 ≡ (closing if_so).1 = yb ∙ ap (λ (r : BlockRest × Building). (closing r).1) ps_is in
      made
      ∙ ap (λ (y : ℕ). asked f node on y m b2) yes_is
      ∙ ap (λ (n : ℕ). asked f node on (closing if_so).0 n b2) no_is
      ∙ ap (λ (s : Building). asked f node on (closing if_so).0 (closing if_not).0 s) b2_is

-- loops

module _ (f : LoweringFrame) (id : ℕ) (turn : Code) (W : Ways) (S : Scopes) (k : BlockRest) (b : Building) where
  abbrev is_left : Bool
  is_left = is_left_by id (lowers f turn).jumps

  abbrev begun : Building
  begun = with_exit is_left k b

  abbrev turned : (base exit number : ℕ) (left : Bool) → Building → BlockRest × Building
  turned base exit number left s =
      let code : BlockRest × Building = (lowers f turn).build (ways_in_loop id base exit number left W) S (ending (Term.Goto number) 0) s in
      (ending (Term.Goto number) 0, filled Kind.Turn number code.0 code.1)

  pub looped : (base exit number : ℕ) (left : Bool) (s0 s : Building) (new : BlockRest × Building) → left ≡ is_left → base ≡ length S → exit ≡ next_number b → s0 ≡ with_exit left k b → number ≡ next_number s0 → s ≡ reserved s0 → new ≡ turned base exit number left s → new ≡ (lowers f (code.Loops id turn)).build W S k b
  looped base exit number left s0 s new left_is base_is exit_is s0_is number_is s_is made =
      let begun_is : s0 ≡ begun = s0_is ∙ ap (λ (l : Bool). with_exit l k b) left_is in
      let n_is : number ≡ next_number begun = number_is ∙ ap next_number begun_is in
      let r_is : s ≡ reserved begun = s_is ∙ ap reserved begun_is in
      made
      ∙ ap (λ (n : ℕ). turned n exit number left s) base_is
      ∙ ap (λ (n : ℕ). turned (length S) n number left s) exit_is
      ∙ ap (λ (n : ℕ). turned (length S) (next_number b) n left s) n_is
      ∙ ap (λ (l : Bool). turned (length S) (next_number b) (next_number begun) l s) left_is
      ∙ ap (λ (s' : Building). turned (length S) (next_number b) (next_number begun) is_left s') r_is

-- the ways of a body by its loops
abbrev pub ways_with : ℕ → List LoopWay → Ways
ways_with returns loops = record {
  returns = record { base = 1; block = returns; is_used = true };
  nowhere = record { base = 1; block = returns; is_used = false };
  loops = map loop_of loops;
}

-- matches

append_none : {A : Type 0} (xs : List A) → xs ++ [] ≡ xs
append_none [] = refl
append_none (x ∷ xs) = ap (λ ys. x ∷ ys) (append_none xs)

module _ (f : LoweringFrame) (node : ℕ) (arms : Arms) (W : Ways) (S : Scopes) (k : BlockRest) (b : Building) where
  abbrev all : List LowersArm
  all = lowers_arms f arms

  abbrev met : BlockRest × Building
  met = joined (some_end f all) node k b

  arms_on_rest : (h : Bool) (j r : BlockRest) → (h ≡ true → j ≡ r) → (h ≡ false → some_end f all ≡ false) → (s : Building) → built_from f node all W S r s ≡ built_from f node all W S j s
  arms_on_rest true j r same none s = ap (λ (o : BlockRest). built_from f node all W S o s) (sym (same refl))
  arms_on_rest false j r same none s = arms_ignore f node arms (none refl) W S r j s

  pub matched : (to : ℕ) (left : Bool) (after_join : Building) (start new : BlockRest × Building) → left ≡ some_end f all → after_join ≡ (joined left node k b).1 → (left ≡ true → (joined left node k b).0 ≡ ending (Term.Goto to) node) → start ≡ unwinding f (Term.Panic Why.Match) node (panic_drops f S) after_join → ((others : List LowersArm) (s : Building) → start ≡ built_from f node others W S (ending (Term.Goto to) node) s → new ≡ built_from f node (all ++ others) W S (ending (Term.Goto to) node) s) → new ≡ (lowers f (code.Matches node arms)).build W S k b
  matched to left after_join start new left_is joins goes panicked made =
      let joins_is : after_join ≡ met.1 = joins ∙ ap (λ (l : Bool). (joined l node k b).1) left_is in
      let goes_is : some_end f all ≡ true → met.0 ≡ ending (Term.Goto to) node = λ is. ap (λ (l : Bool). (joined l node k b).0) (sym left_is) ∙ goes (left_is ∙ is) in
      made [] after_join panicked
      ∙ ap (λ (ones : List LowersArm). built_from f node ones W S (ending (Term.Goto to) node) after_join) (append_none all)
      ∙ ap (λ (s : Building). built_from f node all W S (ending (Term.Goto to) node) s) joins_is
      ∙ arms_on_rest (some_end f all) met.0 (ending (Term.Goto to) node) goes_is (λ is. is) met.1

-- an arm before others, given that what is done otherwise is closed first
pub arm_before_others : (f : LoweringFrame) (node otherwise : ℕ) (one : LowersArm) (others : List LowersArm) (W : Ways) (S : Scopes) (k : BlockRest) (s b : Building) (before mid : BlockRest × Building) → before ≡ built_from f node others W S k s → otherwise ≡ (closing before).0 → b ≡ (closing before).1 → mid ≡ one.build W S otherwise k b → mid ≡ built_from f node (one ∷ others) W S k s
arm_before_others f node otherwise one others W S k s b before mid is number closed made =
    let from : BlockRest × Building = built_from f node others W S k s in
    made
    ∙ ap (λ (n : ℕ). one.build W S n k b) (number ∙ ap (λ (r : BlockRest × Building). (closing r).0) is)
    ∙ ap (λ (c : Building). one.build W S (closing from).0 k c) (closed ∙ ap (λ (r : BlockRest × Building). (closing r).1) is)

-- tests before an arm
pub tests_before : (f : LoweringFrame) (all : PatternTests) (one : LowersArm) (W : Ways) (S : Scopes) (otherwise yes : ℕ) (k : BlockRest) (b s : Building) (mid new : BlockRest × Building) → mid ≡ one.build W S otherwise k b → yes ≡ (closing mid).0 → s ≡ (closing mid).1 → new ≡ tests f all yes otherwise s → new ≡ (behind_tests f all one).build W S otherwise k b
tests_before f all one W S otherwise onward k b s mid new is number closed made =
    let made_arm : BlockRest × Building = one.build W S otherwise k b in
    made
    ∙ ap (λ (n : ℕ). tests f all n otherwise s) (number ∙ ap (λ (r : BlockRest × Building). (closing r).0) is)
    ∙ ap (λ (c : Building). tests f all (closing made_arm).0 otherwise c) (closed ∙ ap (λ (r : BlockRest × Building). (closing r).1) is)

-- guards

guard_is : (f : LoweringFrame) (h : Bool) (key : ℕ) (guard P : Lowers) (W : Ways) (S : Scopes) (otherwise : ℕ) (k : BlockRest) (b : Building) → guard_from f h guard key P W S otherwise k b ≡ guard.build W S (behind_guard f h key P W S otherwise k b).0 (behind_guard f h key P W S otherwise k b).1
guard_is f true key guard P W S otherwise k b = refl
guard_is f false key guard P W S otherwise k b = refl

pub guard_after : (f : LoweringFrame) (key : ℕ) (guard P : Lowers) (W : Ways) (S : Scopes) (otherwise : ℕ) (k : BlockRest) (b : Building) (mid new : BlockRest × Building) → mid ≡ behind_guard f guard.has_end key P W S otherwise k b → new ≡ guard.build W S mid.0 mid.1 → new ≡ guard_from f guard.has_end guard key P W S otherwise k b
guard_after f key guard P W S otherwise k b mid new is made =
    made ∙ ap (λ (r : BlockRest × Building). guard.build W S r.0 r.1) is ∙ sym (guard_is f guard.has_end key guard P W S otherwise k b)

pub guard_false : (f : LoweringFrame) (h : Bool) (key : ℕ) (P : Lowers) (W : Ways) (S : Scopes) (otherwise : ℕ) (k : BlockRest) (b : Building) → h ≡ false → (k, b) ≡ behind_guard f h key P W S otherwise k b
guard_false f true key P W S otherwise k b is = never is
guard_false f false key P W S otherwise k b is = refl

pub guard_true : (f : LoweringFrame) (h : Bool) (key : ℕ) (P : Lowers) (W : Ways) (S : Scopes) (otherwise yes : ℕ) (k : BlockRest) (b s : Building) (mid new : BlockRest × Building) → h ≡ true → mid ≡ P.build W S k b → yes ≡ (closing mid).0 → s ≡ (closing mid).1 → new ≡ build.if_true f (moved key key) key yes otherwise s → new ≡ behind_guard f h key P W S otherwise k b
guard_true f false key P W S otherwise onward k b s mid new holds is number closed made = never (sym holds)
guard_true f true key P W S otherwise onward k b s mid new holds is number closed made =
    let from : BlockRest × Building = P.build W S k b in
    made
    ∙ ap (λ (n : ℕ). build.if_true f (moved key key) key n otherwise s) (number ∙ ap (λ (r : BlockRest × Building). (closing r).0) is)
    ∙ ap (λ (c : Building). build.if_true f (moved key key) key (closing from).0 otherwise c) (closed ∙ ap (λ (r : BlockRest × Building). (closing r).1) is)
