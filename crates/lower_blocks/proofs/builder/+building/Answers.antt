use Rattle.std.proofs.Common.{rules, ◌≡◌, ◌∙◌, ◌∷◌, ◌++◌, ℕ, suc, Bool, true, false, List, Some, length, map, slice_get, sym, ap, subst}
use Rattle.std.proofs.lemmas.Option.{none-some}
use Rattle.std.proofs.lemmas.Result.{on_ok_weaker}
use Rattle.lower_rules.specs.Build as build
use Rattle.lower_rules.specs.Build.{LoweringFrame, BlockRest, Building}
use Rattle.lower_rules.specs.Lower.{LowersArm}
use Rattle.lower_rules.specs.Codes.{lowers, lowers_arm, lowers_arms, guarded, built_from}
use Rattle.cfg_graph.specs.declared.graph.Kind.{Kind}
use Rattle.cfg_graph.specs.declared.terminator.Term.{Term}
use Rattle.lower_blocks.specs.Building.{built_of, rest_of, building_of, ways_of}
use Rattle.lower_blocks.specs.declared.ways.LoopWay.{LoopWay}
use Rattle.lower_passes.specs.Scoped.{scopes_of}
use Rattle.lower_passes.proofs.Behind.{before_is, found_first, found_second}
use Rattle.lower_passes.specs.Spans.{Stands}
use Rattle.lower_passes.specs.declared.marks.CodeMark.{CodeMark}
use Rattle.pattern_lower.specs.Seen.{tests_in}
use Rattle.lower_code.specs.Code as plain
use Rattle.lower_code.specs.Ops.{CodeWord}
use Rattle.lower_code.specs.View.{op_of, change_of, condition_of}
use Rattle.lower_code.specs.declared.code.CodeWord as words
use Rattle.src_meaning.specs.Scopes.{Scopes, with_scope}
use Rattle.lower_blocks.specs.Builds.{frame_at, arms_at, turn_at}
use Rattle.lower_blocks.proofs.Reading.{leaf, of_from, of_back, of_scope, of_both, of_branches, of_loop, of_match, arms_behind, word_here, reads_arm, empty_is, taken_alone, taken_guarded}
use Rattle.lower_blocks.proofs.Steps.{one_after, behind_true, behind_false, branched, looped, matched, arm_before_others, tests_before, guard_after, guard_false, guard_true, ways_with}
use Rattle.lower_blocks.proofs.builder.+building.Goals as goal

pub build-returns-in-From : goal.build-returns-in-From
build-returns-in-From t c =
    let f : LoweringFrame = frame_at c.args.at.now in
    let ws : List words.CodeWord = c.args.at.now.code.words.now in
    let at : slice_get (map op_of ws) c.args.end ≡ Some (op_of (words.CodeWord.From c.in-From.by)) =
    word_here ws c.args.end (words.CodeWord.From c.in-From.by) (sym c.in-Some.ensures ∙ ap Some c.in-From.is) in
    on_ok_weaker c.build_from.result
    (λ made code start stands. of_from f (map op_of ws) c.args.at.now.code.marks.now code start c.args.end stands
    (ways_of c.args.at.now.ways) (scopes_of c.args.at.now.scopes.now) (rest_of c.args.blocks.now.rest) (building_of c.args.blocks.now) (built_of c.build_from.new.blocks)
    (change_of c.in-From.by) at (λ inner one. made inner start one)) c.build_from.ensures

pub build-returns-in-Then : goal.build-returns-in-Then
build-returns-in-Then t c =
    let f : LoweringFrame = frame_at c.args.at.now in
    let ws : List words.CodeWord = c.args.at.now.code.words.now in
    let at : slice_get (map op_of ws) c.args.end ≡ Some (op_of words.CodeWord.Then) =
    word_here ws c.args.end words.CodeWord.Then (sym c.in-Some.ensures ∙ ap Some c.in-Then.is) in
    on_ok_weaker c.build_both.result
    (λ made code start stands. of_both f (map op_of ws) c.args.at.now.code.marks.now code start c.args.end stands
    (ways_of c.args.at.now.ways) (scopes_of c.args.at.now.scopes.now) (rest_of c.args.blocks.now.rest) (building_of c.args.blocks.now) (built_of c.build_both.new.blocks)
    at (λ one another two. made one another start two)) c.build_both.ensures

pub build-returns-in-BackIn : goal.build-returns-in-BackIn
build-returns-in-BackIn t c =
    let f : LoweringFrame = frame_at c.args.at.now in
    let ws : List words.CodeWord = c.args.at.now.code.words.now in
    let at : slice_get (map op_of ws) c.args.end ≡ Some (op_of words.CodeWord.BackIn) =
    word_here ws c.args.end words.CodeWord.BackIn (sym c.in-Some.ensures ∙ ap Some c.in-BackIn.is) in
    on_ok_weaker c.build_one.result
    (λ made code start stands. of_back f (map op_of ws) c.args.at.now.code.marks.now code start c.args.end stands
    (ways_of c.args.at.now.ways) (scopes_of c.args.at.now.scopes.now) (rest_of c.args.blocks.now.rest) (building_of c.args.blocks.now) (built_of c.build_one.new.blocks)
    at (λ inner one. made inner start one)) c.build_one.ensures

pub build-returns-in-InScope : goal.build-returns-in-InScope
build-returns-in-InScope t c =
    let f : LoweringFrame = frame_at c.args.at.now in
    let ws : List words.CodeWord = c.args.at.now.code.words.now in
    let at : slice_get (map op_of ws) c.args.end ≡ Some (op_of (words.CodeWord.InScope c.in-InScope.node c.in-InScope.for_temporaries)) =
    word_here ws c.args.end (words.CodeWord.InScope c.in-InScope.node c.in-InScope.for_temporaries) (sym c.in-Some.ensures ∙ ap Some c.in-InScope.is) in
    on_ok_weaker c.build_scope.result
    (λ made code start stands. of_scope f (map op_of ws) c.args.at.now.code.marks.now code start c.args.end stands
    (ways_of c.args.at.now.ways) (scopes_of c.args.at.now.scopes.now) (rest_of c.args.blocks.now.rest) (building_of c.args.blocks.now) (built_of c.build_scope.new.blocks)
    c.in-InScope.node.0 c.in-InScope.for_temporaries at (λ inner one. made inner start one)) c.build_scope.ensures

pub build-returns-in-Branches : goal.build-returns-in-Branches
build-returns-in-Branches t c =
    let f : LoweringFrame = frame_at c.args.at.now in
    let ws : List words.CodeWord = c.args.at.now.code.words.now in
    let at : slice_get (map op_of ws) c.args.end ≡ Some (op_of (words.CodeWord.Branches c.in-Branches.node c.in-Branches.on)) =
    word_here ws c.args.end (words.CodeWord.Branches c.in-Branches.node c.in-Branches.on) (sym c.in-Some.ensures ∙ ap Some c.in-Branches.is) in
    on_ok_weaker c.build_branches.result
    (λ made code start stands. of_branches f (map op_of ws) c.args.at.now.code.marks.now code start c.args.end stands
    (ways_of c.args.at.now.ways) (scopes_of c.args.at.now.scopes.now) (rest_of c.args.blocks.now.rest) (building_of c.args.blocks.now) (built_of c.build_branches.new.blocks)
    c.in-Branches.node.0 (condition_of c.in-Branches.on) at (λ one another two. made one another start two)) c.build_branches.ensures

pub build-returns-in-Loops : goal.build-returns-in-Loops
build-returns-in-Loops t c =
    let f : LoweringFrame = frame_at c.args.at.now in
    let ws : List words.CodeWord = c.args.at.now.code.words.now in
    let at : slice_get (map op_of ws) c.args.end ≡ Some (op_of (words.CodeWord.Loops c.in-Loops.id)) =
    word_here ws c.args.end (words.CodeWord.Loops c.in-Loops.id) (sym c.in-Some.ensures ∙ ap Some c.in-Loops.is) in
    on_ok_weaker c.build_loop.result
    (λ made code start stands. of_loop f (map op_of ws) c.args.at.now.code.marks.now code start c.args.end stands
    (ways_of c.args.at.now.ways) (scopes_of c.args.at.now.scopes.now) (rest_of c.args.blocks.now.rest) (building_of c.args.blocks.now) (built_of c.build_loop.new.blocks)
    c.in-Loops.id.0 at (λ turn it_stands. made turn start it_stands)) c.build_loop.ensures

pub build-returns-in-Matches : goal.build-returns-in-Matches
build-returns-in-Matches t c =
    let f : LoweringFrame = frame_at c.args.at.now in
    let ws : List words.CodeWord = c.args.at.now.code.words.now in
    let at : slice_get (map op_of ws) c.args.end ≡ Some (op_of (words.CodeWord.Matches c.in-Matches.node)) =
    word_here ws c.args.end (words.CodeWord.Matches c.in-Matches.node) (sym c.in-Some.ensures ∙ ap Some c.in-Matches.is) in
    on_ok_weaker c.build_match.result
    (λ made code start stands. of_match f (map op_of ws) c.args.at.now.code.marks.now code start c.args.end stands
    (ways_of c.args.at.now.ways) (scopes_of c.args.at.now.scopes.now) (rest_of c.args.blocks.now.rest) (building_of c.args.blocks.now) (built_of c.build_match.new.blocks)
    c.in-Matches.node.0 at (λ arms they_stand. made arms start they_stand)) c.build_match.ensures

pub build-returns-in_default-word : goal.build-returns-in_default-word
build-returns-in_default-word t c =
    let f : LoweringFrame = frame_at c.args.at.now in
    let ws : List words.CodeWord = c.args.at.now.code.words.now in
    let w : words.CodeWord = c.in-Some.word.now in
    let at : slice_get (map op_of ws) c.args.end ≡ Some (op_of w) = word_here ws c.args.end w (sym c.in-Some.ensures) in
    on_ok_weaker c.build_word.result
    (λ made code start stands. made code (leaf f (map op_of ws) c.args.at.now.code.marks.now code start c.args.end stands w at
    c.in_default-word.not-From c.in_default-word.not-Then c.in_default-word.not-BackIn c.in_default-word.not-InScope
    c.in_default-word.not-Branches c.in_default-word.not-Loops c.in_default-word.not-Matches)
    (c.has_end.ensures f code start stands)) c.build_word.ensures

pub build_one-returns-in-Some : goal.build_one-returns-in-Some
build_one-returns-in-Some t c =
    let f : LoweringFrame = frame_at c.args.at.now in
    let ws : List CodeWord = map op_of c.args.at.now.code.words.now in
    let marks : List CodeMark = c.args.at.now.code.marks.now in
    let ends : c.args.end ≡ suc c.in-Some.inner = search rules in
    on_ok_weaker c.build.result
    (λ made code start one. made code start
    (subst (λ (d : ℕ). Stands f ws marks code start d) (before_is c.args.end one.0 c.in-Some.inner one.1.0 ends) one.1.1)) c.build.ensures

pub build_from-returns : goal.build_from-returns
build_from-returns t c =
    let f : LoweringFrame = frame_at c.args.at.now in
    let changed : scopes_of c.in_ok-scopes.scopes.now ≡ plain.changed_by (change_of c.args.by.now) (scopes_of c.args.at.now.scopes.now) = c.in_ok-scopes.ensures in
    on_ok_weaker c.build_one.result
    (λ made code start one. made code start one
    ∙ ap (λ (S : Scopes). (lowers f code).build (ways_of c.args.at.now.ways) S (rest_of c.args.blocks.now.rest) (building_of c.args.blocks.now)) changed)
    c.build_one.ensures

pub build_behind-returns-then-not-has_end : goal.build_behind-returns-then-not-has_end
build_behind-returns-then-not-has_end t c = λ one another start first second.
    let f : LoweringFrame = frame_at c.args.at.now in
    let never_ends : (lowers f one).has_end ≡ false = sym (c.has_end.ensures f one start first) ∙ search rules in
    behind_false (lowers f one).has_end (lowers f one) (lowers f another) (ways_of c.args.at.now.ways) (scopes_of c.args.at.now.scopes.now)
    (rest_of c.args.blocks.now.rest) (building_of c.args.blocks.now) never_ends

pub build_behind-returns : goal.build_behind-returns
build_behind-returns t c =
    let f : LoweringFrame = frame_at c.args.at.now in
    let holds : c.has_end.result ≡ true = search rules in
    on_ok_weaker c.build.result
    (λ made one another start first second.
    let has_end : (lowers f one).has_end ≡ true = sym (c.has_end.ensures f one start first) ∙ holds in
    let scopes : scopes_of c.in_ok-scopes.scopes.now ≡ (lowers f one).after (scopes_of c.args.at.now.scopes.now) =
    c.in_ok-scopes.ensures f one start first in
    made another (suc c.args.one) second
    ∙ ap (λ (S : Scopes). (lowers f another).build (ways_of c.args.at.now.ways) S (rest_of c.args.blocks.now.rest) (building_of c.args.blocks.now)) scopes
    ∙ behind_true (lowers f one).has_end (lowers f one) (lowers f another) (ways_of c.args.at.now.ways) (scopes_of c.args.at.now.scopes.now)
    (rest_of c.args.blocks.now.rest) (building_of c.args.blocks.now) has_end) c.build.ensures

pub build_both-returns-in-None : goal.build_both-returns-in-None
build_both-returns-in-None t c = λ one another start two.
    let found = c.in-None.ensures.two (frame_at c.args.at.now) one another start two in
    absurd (none-some found.0 found.1.0)

pub build_both-returns-in_ok-build_behind-in-Some : goal.build_both-returns-in_ok-build_behind-in-Some
build_both-returns-in_ok-build_behind-in-Some t c =
    let f : LoweringFrame = frame_at c.args.at.now in
    let ws : List CodeWord = map op_of c.args.at.now.code.words.now in
    let marks : List CodeMark = c.args.at.now.code.marks.now in
    on_ok_weaker c.build.result
    (λ made one another start two.
    let found = c.in-Some.ensures.two f one another start two in
    let first = found_first f ws marks one another start c.in-Some.two found in
    let second = found_second f ws marks one another start c.in-Some.two found in
    one_after (lowers f one) (lowers f another) (ways_of c.args.at.now.ways) (scopes_of c.args.at.now.scopes.now)
    (rest_of c.args.blocks.now.rest) (building_of c.args.blocks.now) (built_of c.build_behind.new.blocks) (built_of c.build.new.blocks)
    (c.in_ok-build_behind-in-Some.ensures one another start first second) (made one start first)) c.build.ensures

pub build_scope-returns : goal.build_scope-returns
build_scope-returns t c =
    let f : LoweringFrame = frame_at c.args.at.now in
    let entered : scopes_of c.in_ok-scopes.scopes.now ≡ with_scope c.args.node.0 c.args.for_temporaries (scopes_of c.args.at.now.scopes.now) = c.in_ok-scopes.ensures in
    on_ok_weaker c.build_one.result
    (λ made code start one.
    let W = ways_of c.args.at.now.ways in
    let S : Scopes = scopes_of c.in_ok-scopes.scopes.now in
    one_after (lowers f code) (build.leave f) W S (rest_of c.args.blocks.now.rest) (building_of c.args.blocks.now)
    (built_of c.leave_behind.new.blocks) (built_of c.build_one.new.blocks) (c.in_ok-leave_behind.ensures code start one) (made code start one)
    ∙ ap (λ (S : Scopes). build.then_build (lowers f code).has_end (lowers f code) (build.leave f) W S (rest_of c.args.blocks.now.rest) (building_of c.args.blocks.now)) entered)
    c.build_one.ensures

pub build_toward-returns : goal.build_toward-returns
build_toward-returns t c =
    let f : LoweringFrame = frame_at c.args.at.now in
    let S : Scopes = scopes_of c.args.at.now.scopes.now in
    on_ok_weaker c.build.result
    (λ made code start stands. made code start stands
    ∙ ap (λ (r : BlockRest × Building). (lowers f code).build (ways_of c.args.at.now.ways) S r.0 r.1) c.end.ensures) c.build.ensures

pub build_branches-returns-in-None : goal.build_branches-returns-in-None
build_branches-returns-in-None t c = λ one another start two.
    let found = c.in-None.ensures.two (frame_at c.args.at.now) one another start two in
    absurd (none-some found.0 found.1.0)

pub build_branches-returns-in_ok-yes-in-Some : goal.build_branches-returns-in_ok-yes-in-Some
build_branches-returns-in_ok-yes-in-Some t c =
    let f : LoweringFrame = frame_at c.args.at.now in
    let ws : List CodeWord = map op_of c.args.at.now.code.words.now in
    let marks : List CodeMark = c.args.at.now.code.marks.now in
    let W = ways_of c.args.at.now.ways in
    let S : Scopes = scopes_of c.args.at.now.scopes.now in
    let k : BlockRest = rest_of c.args.blocks.now.rest in
    let b : Building = building_of c.args.blocks.now in
    let node : ℕ = c.args.node.0 in
    on_ok_weaker c.branch_by.result
    (λ made one another start two.
    let found = c.in-Some.ensures.two f one another start two in
    let first = found_first f ws marks one another start c.in-Some.two found in
    let second = found_second f ws marks one another start c.in-Some.two found in
    let reached = c.one_has_end.ensures one another start first second in
    let joins = c.in_ok-to-in-Some.ensures node in
    branched f node (condition_of c.args.on.now) one another W S k b
    c.in_ok-to-in-Some.to c.in_ok-no-in-Some.no c.in_ok-yes-in-Some.yes
    (building_of c.join.new.blocks) (building_of c.close.new.self) (building_of c.close-in-Some.new.self)
    (built_of c.build_toward.new.blocks) (built_of c.build_toward-in-Some.new.blocks) (built_of c.branch_by.new.blocks)
    (joins.0 ∙ ap (λ (h : Bool). (build.joined h node k b).1) reached)
    (λ is. ap (λ (h : Bool). (build.joined h node k b).0) (sym reached) ∙ joins.1 (reached ∙ is))
    (c.in_ok-build_toward-in-Some.ensures another (suc c.in-Some.two.one) second)
    c.in_ok-no-in-Some.ensures.0 (ap (λ (r : BlockRest × Building). r.1) c.in_ok-no-in-Some.ensures.1)
    (c.in_ok-build_toward-in-Some-2.ensures one start first)
    c.in_ok-yes-in-Some.ensures.0 (ap (λ (r : BlockRest × Building). r.1) c.in_ok-yes-in-Some.ensures.1)
    (made node)) c.branch_by.ensures

pub build_loop-returns : goal.build_loop-returns
build_loop-returns t c =
    let f : LoweringFrame = frame_at c.args.at.now in
    let S : Scopes = scopes_of c.args.at.now.scopes.now in
    let k : BlockRest = rest_of c.args.blocks.now.rest in
    let b : Building = building_of c.args.blocks.now in
    let base : c.in_ok-base.base ≡ length S = c.in_ok-base.ensures in
    on_ok_weaker c.build_turn.result
    (λ made turn start stands.
    looped f c.args.id.0 turn (ways_of c.args.at.now.ways) S k b
    c.in_ok-base.base c.in_ok-exit.exit c.in_ok-turn.turn c.has_end-is_left.result
    (building_of c.close_exit.new.blocks) (building_of c.reserve.new.self) (built_of c.build_turn.new.blocks)
    (c.has_end-is_left.ensures f (plain.Loops c.args.id.0 turn) start stands)
    base c.in_ok-exit.ensures c.in_ok-close_exit.ensures c.in_ok-turn.ensures.0
    (ap (λ (r : BlockRest × Building). r.1) c.in_ok-turn.ensures.1)
    (made turn start stands.1)) c.build_turn.ensures

pub build_turn-returns : goal.build_turn-returns
build_turn-returns t c = λ turn start one.
    let f : LoweringFrame = frame_at c.args.at.now in
    let S : Scopes = scopes_of c.args.at.now.scopes.now in
    let b : Building = building_of c.args.blocks.now in
    let K : BlockRest = build.ending (Term.Goto c.args.way.turn) 0 in
    let loops : c.as_slice.result.now ≡ c.args.way ∷ c.args.at.now.ways.loops.now = search rules in
    let built : built_of c.build_one.new.blocks ≡ turn_at c.args.at.now c.args.way turn b =
    c.in_ok-build_one.ensures turn start one
    ∙ ap (λ (r : BlockRest × Building). (lowers f turn).build (ways_with c.args.at.now.ways.returns c.as_slice.result.now) S r.0 r.1) c.end.ensures
    ∙ ap (λ (ls : List LoopWay). (lowers f turn).build (ways_with c.args.at.now.ways.returns ls) S K b) loops in
    c.end-2.ensures
    ∙ ap (λ (s : Building). (K, s))
    (ap (λ (r : BlockRest × Building). r.1) c.in_ok-fill.ensures
    ∙ ap (λ (r : BlockRest × Building). build.filled Kind.Turn c.args.way.turn r.0 r.1) built)

pub build_match-returns : goal.build_match-returns
build_match-returns t c =
    let f : LoweringFrame = frame_at c.args.at.now in
    let S : Scopes = scopes_of c.args.at.now.scopes.now in
    let k : BlockRest = rest_of c.args.blocks.now.rest in
    let b : Building = building_of c.args.blocks.now in
    let node : ℕ = c.args.node.0 in
    on_ok_weaker c.build_arms.result
    (λ made arms start stands.
    let joins = c.in_ok-to.ensures node in
    matched f node arms (ways_of c.args.at.now.ways) S k b c.in_ok-to.to c.has_end.result
    (building_of c.join.new.blocks) (built_of c.panic.new.blocks) (built_of c.build_arms.new.blocks)
    (c.has_end.ensures f (plain.Matches node arms) start stands)
    joins.0 joins.1 c.in_ok-panic.ensures (made arms start stands.1)) c.build_arms.ensures

pub build_arms-returns-in-None : goal.build_arms-returns-in-None
build_arms-returns-in-None t c = λ arms begin stands others s before.
    let f : LoweringFrame = frame_at c.args.at.now in
    let none : arms ≡ plain.no_arm = c.in-None.ensures.last f arms begin stands in
    before ∙ ap (λ (a : plain.Arms). arms_at c.args.at.now c.args.node.0 c.args.to (lowers_arms f a ++ others) s) (sym none)

pub build_arms-returns-in_ok-build_arm-in-Some : goal.build_arms-returns-in_ok-build_arm-in-Some
build_arms-returns-in_ok-build_arm-in-Some t c =
    let f : LoweringFrame = frame_at c.args.at.now in
    let W = ways_of c.args.at.now.ways in
    let S : Scopes = scopes_of c.args.at.now.scopes.now in
    let node : ℕ = c.args.node.0 in
    let K : BlockRest = build.ending (Term.Goto c.args.to) node in
    let ended : built_of c.end.new.self ≡ (K, building_of c.close.new.self) = c.end.ensures in
    on_ok_weaker c.build_arms.result
    (λ made arms begin stands others s before.
    let found = c.in-Some.ensures.last f arms begin stands in
    let one : LowersArm = lowers_arm f found.1.0 in
    let built = c.in_ok-build_arm-in-Some.ensures found.1.0 c.in-Some.last.start found.1.1.1.1 in
    let mid : built_of c.build_arm.new.blocks ≡ one.build W S c.in_ok-otherwise-in-Some.otherwise K (building_of c.close.new.self) =
    built ∙ ap (λ (r : BlockRest × Building). one.build W S c.in_ok-otherwise-in-Some.otherwise r.0 r.1) ended in
    made found.0 begin (stands.0, found.1.1.1.0) (one ∷ others) s
    (arm_before_others f node c.in_ok-otherwise-in-Some.otherwise one others W S K s (building_of c.close.new.self)
    (built_of c.args.blocks.now) (built_of c.build_arm.new.blocks) before c.in_ok-otherwise-in-Some.ensures.0
    (ap (λ (r : BlockRest × Building). r.1) c.in_ok-otherwise-in-Some.ensures.1) mid)
    ∙ ap (λ (all : List LowersArm). built_from f node all W S K s)
    (sym (arms_behind f found.0 found.1.0 others) ∙ ap (λ (a : plain.Arms). lowers_arms f a ++ others) (sym found.1.1.0)))
    c.build_arms.ensures

pub build_arm-returns-in_default-word : goal.build_arm-returns-in_default-word
build_arm-returns-in_default-word t c = λ one start stands.
    let f : LoweringFrame = frame_at c.args.at.now in
    let ws : List words.CodeWord = c.args.at.now.code.words.now in
    let is : one ≡ plain.Empty =
    empty_is f ws c.args.at.now.code.marks.now one start c.args.end c.in-Some.word.now stands (sym c.in-Some.ensures) c.in_default-word.not-Arm in
    ap (λ (a : plain.Arm). (lowers_arm f a).build (ways_of c.args.at.now.ways) (scopes_of c.args.at.now.scopes.now) c.args.otherwise
    (rest_of c.args.blocks.now.rest) (building_of c.args.blocks.now)) (sym is)

pub build_arm-returns-in_ok-yes-in-Arm : goal.build_arm-returns-in_ok-yes-in-Arm
build_arm-returns-in_ok-yes-in-Arm t c =
    let f : LoweringFrame = frame_at c.args.at.now in
    let ws : List words.CodeWord = c.args.at.now.code.words.now in
    let W = ways_of c.args.at.now.ways in
    let S : Scopes = scopes_of c.args.at.now.scopes.now in
    let k : BlockRest = rest_of c.args.blocks.now.rest in
    let b : Building = building_of c.args.blocks.now in
    let at : slice_get (map op_of ws) c.args.end ≡ Some (op_of (words.CodeWord.Arm c.in-Arm.all c.in-Arm.guard)) =
    word_here ws c.args.end (words.CodeWord.Arm c.in-Arm.all c.in-Arm.guard) (sym c.in-Some.ensures ∙ ap Some c.in-Arm.is) in
    on_ok_weaker c.tests.result
    (λ made one start stands.
    let is = reads_arm f (map op_of ws) c.args.at.now.code.marks.now one (tests_in c.in-Arm.all) c.in-Arm.guard start c.args.end stands at in
    let otherwise : ℕ = c.args.otherwise in
    tests_before f (tests_in c.in-Arm.all) (guarded f is.0 (lowers f is.1.0)) W S otherwise c.in_ok-yes-in-Arm.yes k b
    (building_of c.close.new.self) (built_of c.build_taken.new.blocks) (built_of c.tests.new.blocks)
    (c.in_ok-build_taken-in-Arm.ensures is.0 is.1.0 start is.1.1.1)
    c.in_ok-yes-in-Arm.ensures.0 (ap (λ (r : BlockRest × Building). r.1) c.in_ok-yes-in-Arm.ensures.1)
    (made ∙ ap (λ all. build.tests f (tests_in all) c.in_ok-yes-in-Arm.yes otherwise (building_of c.close.new.self)) c.as_slice.ensures)
    ∙ ap (λ (a : plain.Arm). (lowers_arm f a).build W S otherwise k b) (sym is.1.1.0)) c.tests.ensures

pub build_taken-returns-in-None : goal.build_taken-returns-in-None
build_taken-returns-in-None t c =
    let f : LoweringFrame = frame_at c.args.at.now in
    let ws : List CodeWord = map op_of c.args.at.now.code.words.now in
    on_ok_weaker c.build_one.result
    (λ made asked inner start stands.
    let is = taken_alone f ws c.args.at.now.code.marks.now c.args.guard asked inner start c.args.end c.in-None.is stands in
    made inner start is.1
    ∙ ap (λ (g : plain.Guard). (guarded f g (lowers f inner)).build (ways_of c.args.at.now.ways) (scopes_of c.args.at.now.scopes.now) c.args.otherwise
    (rest_of c.args.blocks.now.rest) (building_of c.args.blocks.now)) (sym is.0)) c.build_one.ensures

pub build_taken-returns-in-Some : goal.build_taken-returns-in-Some
build_taken-returns-in-Some t c =
    let f : LoweringFrame = frame_at c.args.at.now in
    let ws : List CodeWord = map op_of c.args.at.now.code.words.now in
    on_ok_weaker c.build_guarded.result
    (λ made asked inner start stands.
    let is = taken_guarded f ws c.args.at.now.code.marks.now c.args.guard c.in-Some.key asked inner start c.args.end c.in-Some.is stands in
    made is.0 inner start is.1.1
    ∙ ap (λ (g : plain.Guard). (guarded f g (lowers f inner)).build (ways_of c.args.at.now.ways) (scopes_of c.args.at.now.scopes.now) c.args.otherwise
    (rest_of c.args.blocks.now.rest) (building_of c.args.blocks.now)) (sym is.1.0)) c.build_guarded.ensures

pub build_guarded-returns-in-None : goal.build_guarded-returns-in-None
build_guarded-returns-in-None t c = λ one another start two.
    let found = c.in-None.ensures.two (frame_at c.args.at.now) one another start two in
    absurd (none-some found.0 found.1.0)

pub build_guarded-returns-in_ok-build_behind_guard-in-Some : goal.build_guarded-returns-in_ok-build_behind_guard-in-Some
build_guarded-returns-in_ok-build_behind_guard-in-Some t c =
    let f : LoweringFrame = frame_at c.args.at.now in
    let ws : List CodeWord = map op_of c.args.at.now.code.words.now in
    let marks : List CodeMark = c.args.at.now.code.marks.now in
    on_ok_weaker c.build.result
    (λ made guard code start two.
    let found = c.in-Some.ensures.two f guard code start two in
    let first = found_first f ws marks guard code start c.in-Some.two found in
    let second = found_second f ws marks guard code start c.in-Some.two found in
    guard_after f c.args.key.0 (lowers f guard) (lowers f code) (ways_of c.args.at.now.ways) (scopes_of c.args.at.now.scopes.now)
    c.args.otherwise (rest_of c.args.blocks.now.rest) (building_of c.args.blocks.now)
    (built_of c.build_behind_guard.new.blocks) (built_of c.build.new.blocks)
    (c.in_ok-build_behind_guard-in-Some.ensures guard code start first second) (made guard start first)) c.build.ensures

pub build_behind_guard-returns-then-not-has_end : goal.build_behind_guard-returns-then-not-has_end
build_behind_guard-returns-then-not-has_end t c = λ guard code start first second.
    let f : LoweringFrame = frame_at c.args.at.now in
    let never_ends : (lowers f guard).has_end ≡ false = sym (c.has_end.ensures f guard start first) ∙ search rules in
    guard_false f (lowers f guard).has_end c.args.key.0 (lowers f code) (ways_of c.args.at.now.ways) (scopes_of c.args.at.now.scopes.now)
    c.args.otherwise (rest_of c.args.blocks.now.rest) (building_of c.args.blocks.now) never_ends

pub build_behind_guard-returns : goal.build_behind_guard-returns
build_behind_guard-returns t c =
    let f : LoweringFrame = frame_at c.args.at.now in
    let holds : c.has_end.result ≡ true = search rules in
    on_ok_weaker c.if_true.result
    (λ made guard code start first second.
    let has_end : (lowers f guard).has_end ≡ true = sym (c.has_end.ensures f guard start first) ∙ holds in
    guard_true f (lowers f guard).has_end c.args.key.0 (lowers f code) (ways_of c.args.at.now.ways) (scopes_of c.args.at.now.scopes.now)
    c.args.otherwise c.in_ok-yes.yes (rest_of c.args.blocks.now.rest) (building_of c.args.blocks.now) (building_of c.close.new.self)
    (built_of c.build.new.blocks) (built_of c.if_true.new.blocks) has_end (c.in_ok-build.ensures code (suc c.args.one) second)
    c.in_ok-yes.ensures.0 (ap (λ (r : BlockRest × Building). r.1) c.in_ok-yes.ensures.1) made) c.if_true.ensures
