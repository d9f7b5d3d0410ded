use Rattle.std.proofs.Common.{rules, ◌≡◌, ◌∙◌, ◌-◌, ℕ, List, [], map, reverse, length, sym, ap, subst}
use Rattle.std.proofs.Math.ListN.{drop_of_length-le}
use Rattle.std.proofs.lemmas.List.{length-map}
use Rattle.lower_passes.specs.Framed.{frame_of}
use Rattle.lower_code.specs.Ops.{CodeWord, onto}
use Rattle.lower_code.specs.View.{op_of}
use Rattle.lower_code.specs.declared.code.CodeWord as words
use Rattle.lower_rules.specs.Build.{LoweringFrame}
use Rattle.lower_passes.specs.MarkRules.{Marking, marking_of, all_marked, none_marked}
use Rattle.lower_passes.specs.Spans.{Stands}
use Rattle.lower_passes.proofs.Marked.{all_stand}
use Rattle.lower_passes.proofs.mark_pass.marks_of.Goals as goal

pub returns : goal.returns
returns c = λ code are.
    let items : List words.CodeWord = c.as_slice-word-items.result.now in
    let all : List CodeWord = map op_of items in
    let f : LoweringFrame = frame_of c.args.frame in
    let items_are : items ≡ c.args.code.now.ops = search rules in
    let gone = drop_of_length-le items c.loop-word-test.false in
    let marked : marking_of c.loop-word.marks ≡ all_marked f all none_marked =
    sym (ap (λ rest. all_marked f (map op_of rest) (marking_of c.loop-word.marks)) gone) ∙ c.loop-word.invariant in
    let spelled : reverse all ≡ onto code [] = ap (λ (ws : List words.CodeWord). reverse (map op_of ws)) items_are ∙ are in
    let at : Stands f all c.loop-word.marks.marks code 0 (length all - 1) =
    subst (λ (m : Marking). Stands f all m.marks code 0 (length all - 1)) (sym marked) (all_stand f all code spelled) in
    let counted : Stands f all c.loop-word.marks.marks code 0 (length items - 1) =
    subst (λ (n : ℕ). Stands f all c.loop-word.marks.marks code 0 (n - 1)) (length-map items op_of) at in
    subst (λ (ws : List words.CodeWord). Stands f (map op_of ws) c.loop-word.marks.marks code 0 (length ws - 1)) items_are counted
