use Rattle.std.proofs.Common.{◌≡◌, List, Some, map, slice_get, refl, sym}
use Rattle.lower_rules.specs.Codes.{lowers}
use Rattle.lower_passes.specs.declared.marks.CodeMark.{CodeMark}
use Rattle.lower_code.specs.Code.{changed_by}
use Rattle.lower_code.specs.View.{op_of, change_of, condition_of}
use Rattle.lower_code.specs.declared.code.CodeWord as words
use Rattle.lower_passes.proofs.Behind.{word_at, stays}
use Rattle.lower_passes.proofs.Reached.{of_from, of_scope, of_both, of_either}
use Rattle.lower_passes.proofs.reach.reach_of.Goals as goal

pub returns-in-From : goal.returns-in-From
returns-in-From c = λ f code start known stands.
    let ws : List words.CodeWord = c.args.code.words.now in
    let marks : List CodeMark = c.args.code.marks.now in
    let at : slice_get (map op_of ws) c.args.end ≡ Some (op_of (words.CodeWord.From c.in-From.by)) =
    word_at ws c.args.end c.in-Some.word.now (words.CodeWord.From c.in-From.by) (sym c.in-Some.ensures) c.in-From.is in
    of_from f (map op_of ws) marks code start c.args.end stands c.wider.result (change_of c.in-From.by) at
    (c.wider.ensures.one (changed_by (change_of c.in-From.by)) c.reach_of_change-in-From.ensures)
    (λ inner one. c.wider.ensures.another (lowers f inner).after (c.reach_of_one.ensures f (map op_of ws) marks inner start known one))

pub returns-in-InScope : goal.returns-in-InScope
returns-in-InScope c = λ f code start known stands.
    let ws : List words.CodeWord = c.args.code.words.now in
    let marks : List CodeMark = c.args.code.marks.now in
    let at : slice_get (map op_of ws) c.args.end ≡ Some (op_of (words.CodeWord.InScope c.in-InScope.node c.in-InScope.for_temporaries)) =
    word_at ws c.args.end c.in-Some.word.now (words.CodeWord.InScope c.in-InScope.node c.in-InScope.for_temporaries) (sym c.in-Some.ensures) c.in-InScope.is in
    of_scope f (map op_of ws) marks code start c.args.end stands c.around_scope.result c.in-InScope.node.0 c.in-InScope.for_temporaries at
    (λ inner one. c.around_scope.ensures f (lowers f inner).after c.in-InScope.node.0 c.in-InScope.for_temporaries
    (c.reach_of_one-in-InScope.ensures f (map op_of ws) marks inner start known one))

pub returns-in-Then : goal.returns-in-Then
returns-in-Then c = λ f code start known stands.
    let ws : List words.CodeWord = c.args.code.words.now in
    let marks : List CodeMark = c.args.code.marks.now in
    let at : slice_get (map op_of ws) c.args.end ≡ Some (op_of words.CodeWord.Then) =
    word_at ws c.args.end c.in-Some.word.now words.CodeWord.Then (sym c.in-Some.ensures) c.in-Then.is in
    of_both f (map op_of ws) marks code start c.args.end stands c.reach_of_two.result at
    (λ one another two. c.reach_of_two.ensures f one another start known two)

pub returns-in-Branches : goal.returns-in-Branches
returns-in-Branches c = λ f code start known stands.
    let ws : List words.CodeWord = c.args.code.words.now in
    let marks : List CodeMark = c.args.code.marks.now in
    let at : slice_get (map op_of ws) c.args.end ≡ Some (op_of (words.CodeWord.Branches c.in-Branches.node c.in-Branches.on)) =
    word_at ws c.args.end c.in-Some.word.now (words.CodeWord.Branches c.in-Branches.node c.in-Branches.on) (sym c.in-Some.ensures) c.in-Branches.is in
    of_either f (map op_of ws) marks code start c.args.end stands c.reach_of_two-in-Branches.result c.in-Branches.node.0 (condition_of c.in-Branches.on) at
    (λ one another two. c.reach_of_two-in-Branches.ensures f one another start known two)

pub returns-in_default-word : goal.returns-in_default-word
returns-in_default-word c = λ f code start known stands S.
    let ws : List words.CodeWord = c.args.code.words.now in
    let w : words.CodeWord = c.in-Some.word.now in
    let at : slice_get (map op_of ws) c.args.end ≡ Some (op_of w) = word_at ws c.args.end w w (sym c.in-Some.ensures) refl in
    sym (stays f (map op_of ws) c.args.code.marks.now code start c.args.end stands S w at
    c.in_default-word.not-Changes c.in_default-word.not-From c.in_default-word.not-Then c.in_default-word.not-InScope
    c.in_default-word.not-Leaves c.in_default-word.not-Branches c.in_default-word.not-Replaces)
