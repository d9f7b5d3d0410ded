use Rattle.std.proofs.Common.{rules, ◌≡◌, ◌∙◌, ℕ, suc, Bool, true, false, List, Option, None, Some, map, slice_get, refl, sym, ap, subst}
use Rattle.std.proofs.lemmas.Option.{none-some}
use Rattle.std.proofs.lemmas.Result.{IfOk-weaker}
use Rattle.lower_rules.specs.Build as build
use Rattle.lower_rules.specs.Codes.{lowers}
use Rattle.lower_code.specs.View.{op_of, change_of, condition_of}
use Rattle.lower_code.specs.Ops.{CodeWord}
use Rattle.lower_code.specs.declared.code.CodeWord as words
use Rattle.cfg_graph.specs.Places.{named}
use Rattle.lower_passes.specs.declared.marks.CodeMark.{CodeMark}
use Rattle.lower_passes.specs.Spans.{Stands}
use Rattle.src_meaning.specs.Scopes.{Scopes}
use Rattle.lower_passes.specs.Scoped.{scopes_of}
use Rattle.lower_passes.specs.declared.scope.Scopes.{Scopes as Held}
use Rattle.std.specs.Borrow.{Bor}
use Rattle.lower_passes.proofs.Behind.{word_at, of_change, of_leave, of_replaced, of_from, of_scope, of_both, of_either, stays, before_is, found_first, found_second}
use Rattle.lower_passes.specs.Reaching.{Keeps, reach_at}
use Rattle.lower_passes.proofs.Reached.{no_word, no_word_of}
use Rattle.lower_passes.proofs.scopes_after.+after.Goals as goal

pub after-returns-then-stays : goal.after-returns-then-stays
after-returns-then-stays t c = λ f code start stands.
    let kept : Keeps (reach_at c.args.reaches.now c.args.end) (lowers f code).after = c.requires f code start c.args.end stands in
    sym (subst (λ (r : Option ℕ). Keeps r (lowers f code).after) (c.if-stays.ensures refl) kept (scopes_of c.args.scopes.now))

pub after-returns-in_default : goal.after-returns-in_default
after-returns-in_default t c = λ f code start stands.
    let none : slice_get (map op_of c.args.code.words.now) c.args.end ≡ None =
    no_word_of c.args.code.words.now c.args.end (sym c.in_default.ensures) in
    absurd (no_word f (map op_of c.args.code.words.now) c.args.code.marks.now code start c.args.end stands none)

pub after-returns-in-Changes : goal.after-returns-in-Changes
after-returns-in-Changes t c =
    let ws : List words.CodeWord = c.args.code.words.now in
    let at : slice_get (map op_of ws) c.args.end ≡ Some (op_of (words.CodeWord.Changes c.in-Changes.by)) =
    word_at ws c.args.end c.in-Some.word.now (words.CodeWord.Changes c.in-Changes.by) (sym c.in-Some.ensures) c.in-Changes.is in
    IfOk-weaker c.change.result _ _
    (λ (behind : Bor Held) made f code start stands. of_change f (map op_of ws) c.args.code.marks.now code start c.args.end stands
    (scopes_of c.args.scopes.now) (scopes_of behind.now) (change_of c.in-Changes.by) at made) c.change.ensures

pub after-returns-in-Leaves : goal.after-returns-in-Leaves
after-returns-in-Leaves t c = λ f code start stands.
    let ws : List words.CodeWord = c.args.code.words.now in
    let at : slice_get (map op_of ws) c.args.end ≡ Some (op_of words.CodeWord.Leaves) =
    word_at ws c.args.end c.in-Some.word.now words.CodeWord.Leaves (sym c.in-Some.ensures) c.in-Leaves.is in
    of_leave f (map op_of ws) c.args.code.marks.now code start c.args.end stands
    (scopes_of c.args.scopes.now) (scopes_of c.leave.result.now) at (c.leave.ensures f)

pub after-returns-in_ok-changed-in-From : goal.after-returns-in_ok-changed-in-From
after-returns-in_ok-changed-in-From t c =
    let ws : List words.CodeWord = c.args.code.words.now in
    let at : slice_get (map op_of ws) c.args.end ≡ Some (op_of (words.CodeWord.From c.in-From.by)) =
    word_at ws c.args.end c.in-Some.word.now (words.CodeWord.From c.in-From.by) (sym c.in-Some.ensures) c.in-From.is in
    IfOk-weaker c.after_one.result _ _
    (λ (behind : Bor Held) made f code start stands. of_from f (map op_of ws) c.args.code.marks.now code start c.args.end stands
    (scopes_of c.args.scopes.now) (scopes_of behind.now) (change_of c.in-From.by) (scopes_of c.in_ok-changed-in-From.changed.now) at
    c.in_ok-changed-in-From.ensures (λ inner one. made f inner start one)) c.after_one.ensures

pub after-returns-in_ok-behind-in-InScope : goal.after-returns-in_ok-behind-in-InScope
after-returns-in_ok-behind-in-InScope t c = λ f code start stands.
    let ws : List words.CodeWord = c.args.code.words.now in
    let at : slice_get (map op_of ws) c.args.end ≡ Some (op_of (words.CodeWord.InScope c.in-InScope.node c.in-InScope.for_temporaries)) =
    word_at ws c.args.end c.in-Some.word.now (words.CodeWord.InScope c.in-InScope.node c.in-InScope.for_temporaries) (sym c.in-Some.ensures) c.in-InScope.is in
    of_scope f (map op_of ws) c.args.code.marks.now code start c.args.end stands
    (scopes_of c.args.scopes.now) (scopes_of c.leave-in-InScope.result.now) c.in-InScope.node.0 c.in-InScope.for_temporaries
    (scopes_of c.in_ok-inner-in-InScope.inner.now) (scopes_of c.in_ok-behind-in-InScope.behind.now) at c.in_ok-inner-in-InScope.ensures
    (λ inner one. c.in_ok-behind-in-InScope.ensures f inner start one) (c.leave-in-InScope.ensures f)

pub after-returns-in-Replaces : goal.after-returns-in-Replaces
after-returns-in-Replaces t c =
    let ws : List words.CodeWord = c.args.code.words.now in
    let at : slice_get (map op_of ws) c.args.end ≡ Some (op_of (words.CodeWord.Replaces c.in-Replaces.node c.in-Replaces.place c.in-Replaces.key)) =
    word_at ws c.args.end c.in-Some.word.now (words.CodeWord.Replaces c.in-Replaces.node c.in-Replaces.place c.in-Replaces.key) (sym c.in-Some.ensures) c.in-Replaces.is in
    IfOk-weaker c.take.result _ _
    (λ (behind : Bor Held) made f code start stands. of_replaced f (map op_of ws) c.args.code.marks.now code start c.args.end stands
    (scopes_of c.args.scopes.now) (scopes_of behind.now) (record { node = c.in-Replaces.node.0; place = named c.in-Replaces.place.value }) c.in-Replaces.key.0 at made) c.take.ensures

pub after-returns-in-Then : goal.after-returns-in-Then
after-returns-in-Then t c =
    let ws : List words.CodeWord = c.args.code.words.now in
    let at : slice_get (map op_of ws) c.args.end ≡ Some (op_of words.CodeWord.Then) =
    word_at ws c.args.end c.in-Some.word.now words.CodeWord.Then (sym c.in-Some.ensures) c.in-Then.is in
    IfOk-weaker c.after_both.result _ _
    (λ (behind : Bor Held) made f code start stands. of_both f (map op_of ws) c.args.code.marks.now code start c.args.end stands
    (scopes_of c.args.scopes.now) (scopes_of behind.now) at (λ one another two. made f one another start two)) c.after_both.ensures

pub after-returns-in-Branches : goal.after-returns-in-Branches
after-returns-in-Branches t c =
    let ws : List words.CodeWord = c.args.code.words.now in
    let at : slice_get (map op_of ws) c.args.end ≡ Some (op_of (words.CodeWord.Branches c.in-Branches.node c.in-Branches.on)) =
    word_at ws c.args.end c.in-Some.word.now (words.CodeWord.Branches c.in-Branches.node c.in-Branches.on) (sym c.in-Some.ensures) c.in-Branches.is in
    IfOk-weaker c.after_either.result _ _
    (λ (behind : Bor Held) made f code start stands. of_either f (map op_of ws) c.args.code.marks.now code start c.args.end stands
    (scopes_of c.args.scopes.now) (scopes_of behind.now) c.in-Branches.node.0 (condition_of c.in-Branches.on) at (λ one another two. made f one another start two)) c.after_either.ensures

pub after-returns-in_default-word : goal.after-returns-in_default-word
after-returns-in_default-word t c = λ f code start stands.
    let ws : List words.CodeWord = c.args.code.words.now in
    let w : words.CodeWord = c.in-Some.word.now in
    let at : slice_get (map op_of ws) c.args.end ≡ Some (op_of w) = word_at ws c.args.end w w (sym c.in-Some.ensures) refl in
    stays f (map op_of ws) c.args.code.marks.now code start c.args.end stands (scopes_of c.args.scopes.now) w at
    c.in_default-word.not-Changes c.in_default-word.not-From c.in_default-word.not-Then c.in_default-word.not-InScope
    c.in_default-word.not-Leaves c.in_default-word.not-Branches c.in_default-word.not-Replaces

pub after_both-returns-in-None : goal.after_both-returns-in-None
after_both-returns-in-None t c = λ f one another start two.
    let found = c.in-None.ensures.two f one another start two in
    absurd (none-some found.0 found.1.0)

pub after_either-returns-in-None : goal.after_either-returns-in-None
after_either-returns-in-None t c = λ f one another start two.
    let found = c.in-None.ensures.two f one another start two in
    absurd (none-some found.0 found.1.0)

pub after_both-returns-in_ok-between-in-Some : goal.after_both-returns-in_ok-between-in-Some
after_both-returns-in_ok-between-in-Some t c =
    let ws : List CodeWord = map op_of c.args.code.words.now in
    let marks : List CodeMark = c.args.code.marks.now in
    IfOk-weaker c.after-in-Some.result _ _
    (λ (behind : Bor Held) made f one another start two.
    let found = c.in-Some.ensures.two f one another start two in
    made f another (suc c.in-Some.two.one) (found_second f ws marks one another start c.in-Some.two found)
    ∙ ap (λ (S : Scopes). (lowers f another).after S)
    (c.in_ok-between-in-Some.ensures f one start (found_first f ws marks one another start c.in-Some.two found))) c.after-in-Some.ensures

pub after_either-returns-then-has_end : goal.after_either-returns-then-has_end
after_either-returns-then-has_end t c =
    let ws : List CodeWord = map op_of c.args.code.words.now in
    let marks : List CodeMark = c.args.code.marks.now in
    IfOk-weaker c.after.result _ _
    (λ (behind : Bor Held) made f one another start two.
    let found = c.in-Some.ensures.two f one another start two in
    let stands : Stands f ws marks one start c.in-Some.two.one = found_first f ws marks one another start c.in-Some.two found in
    let ends : true ≡ (lowers f one).has_end = sym c.if-has_end.true ∙ c.has_end.ensures f one start stands in
    made f one start stands
    ∙ ap (λ (b : Bool). build.after_either b (lowers f one) (lowers f another) (scopes_of c.args.scopes.now)) ends) c.after.ensures

pub after_either-returns-else-has_end : goal.after_either-returns-else-has_end
after_either-returns-else-has_end t c =
    let ws : List CodeWord = map op_of c.args.code.words.now in
    let marks : List CodeMark = c.args.code.marks.now in
    IfOk-weaker c.after-else-has_end.result _ _
    (λ (behind : Bor Held) made f one another start two.
    let found = c.in-Some.ensures.two f one another start two in
    let stands : Stands f ws marks one start c.in-Some.two.one = found_first f ws marks one another start c.in-Some.two found in
    let ends : false ≡ (lowers f one).has_end = sym c.if-has_end.false ∙ c.has_end.ensures f one start stands in
    made f another (suc c.in-Some.two.one) (found_second f ws marks one another start c.in-Some.two found)
    ∙ ap (λ (b : Bool). build.after_either b (lowers f one) (lowers f another) (scopes_of c.args.scopes.now)) ends) c.after-else-has_end.ensures

pub after_one-returns-in-Some : goal.after_one-returns-in-Some
after_one-returns-in-Some t c =
    let ws : List CodeWord = map op_of c.args.code.words.now in
    let marks : List CodeMark = c.args.code.marks.now in
    let ends : c.args.end ≡ suc c.in-Some.inner = search rules in
    IfOk-weaker c.after.result _ _
    (λ (behind : Bor Held) made f code start one. made f code start
    (subst (λ (d : ℕ). Stands f ws marks code start d) (before_is c.args.end one.0 c.in-Some.inner one.1.0 ends) one.1.1)) c.after.ensures
