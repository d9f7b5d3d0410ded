use Rattle.std.proofs.Common.{rules, ◌≡◌, ◌<◌, ◌+◌, Some, None, [], ◌∷◌, ◌++◌, length, take, slice_get, refl, sym, ap, ◌∙◌, subst, arith, append_assoc, append-nil}
use Rattle.std.proofs.lemmas.List.{length-append}
use Rattle.std.specs.Vec.Iter.{into_iter_items}
use Rattle.src_parse.specs.declared.error.ParseError.TheVariants.{Syntax, TooDeep}
use Rattle.src_parse.specs.Answers.{IsRefused}
use Rattle.src_parse.specs.Bounds.{limit}
use Rattle.src_parse.specs.Counting.{act, close, need_of}
use Rattle.src_parse.specs.View.{frame_of, stack_of}
use Rattle.src_parse.proofs.Handed.{handed, handed_before, handed_with, none_left}
use Rattle.src_parse.proofs.Verdict.{from_start, next_state, syntax_is, deep_is, tree_is, end_none, within_limit}
use Rattle.src_parse.proofs.Numbers.{goes_past}
use Rattle.src_parse.proofs.parser.parse_owned.Goals as goal

pub returns-then-not-branch-clause-refused : goal.returns-then-not-branch-clause-refused
returns-then-not-branch-clause-refused c =
    let ts = c.args.tokens in
    let s = c.in-Some.spanned in
    let ys = c.loop-spanned.yielded in
    let rest = into_iter_items c.next.new.self in
    let f = frame_of c.loop-spanned.top in
    let S = stack_of c.loop-spanned.below in
    let v = c.loop-spanned.invariant in
    let steps : into_iter_items c.loop-spanned.spanned-iterator ≡ s ∷ rest = c.in-Some.ensures.steps.0 in
    let whole : ys ++ s ∷ rest ≡ ts = ap (λ z. ys ++ z) (sym steps) ∙ v.0 in
    let g : slice_get ts (length ys) ≡ Some s = handed ts ys rest s whole in
    let r : from_start (take (length ys) ts) c.args.end ≡ Some (f ∷ S) = ap (λ z. from_start z c.args.end) (handed_before ts ys rest s whole) ∙ v.2 in
    let n : act S f s.token s.at ≡ None = search rules in
    subst (λ z. IsRefused ts c.args.end (Syntax z s.at)) (sym v.4) (syntax_is ts c.args.end (length ys) s f S g r (within_limit (take (length ys) ts) c.args.end f S r v.3) n)

pub returns-then-passes-clause-refused : goal.returns-then-passes-clause-refused
returns-then-passes-clause-refused c =
    let ts = c.args.tokens in
    let s = c.in-Some.spanned in
    let ys = c.loop-spanned.yielded in
    let rest = into_iter_items c.next.new.self in
    let f = frame_of c.loop-spanned.top in
    let S = stack_of c.loop-spanned.below in
    let v = c.loop-spanned.invariant in
    let steps : into_iter_items c.loop-spanned.spanned-iterator ≡ s ∷ rest = c.in-Some.ensures.steps.0 in
    let whole : ys ++ s ∷ rest ≡ ts = ap (λ z. ys ++ z) (sym steps) ∙ v.0 in
    let g : slice_get ts (length ys) ≡ Some s = handed ts ys rest s whole in
    let r : from_start (take (length ys) ts) c.args.end ≡ Some (f ∷ S) = ap (λ z. from_start z c.args.end) (handed_before ts ys rest s whole) ∙ v.2 in
    let f2 = frame_of c.step.new.top in
    let S2 = stack_of c.step.new.below in
    let a : act S f s.token s.at ≡ Some (f2 ∷ S2) = search rules in
    let d : limit < need_of f2 = goes_past f2 (search rules) in
    subst (λ z. IsRefused ts c.args.end (TooDeep z s.at)) (sym v.4) (deep_is ts c.args.end (length ys) s f S f2 S2 g r (within_limit (take (length ys) ts) c.args.end f S r v.3) a d)

pub loop-spanned-preserved : goal.loop-spanned-preserved
loop-spanned-preserved c =
    let ts = c.args.tokens in
    let s = c.in-Some.spanned in
    let ys = c.loop-spanned.yielded in
    let rest = into_iter_items c.next.new.self in
    let f = frame_of c.loop-spanned.top in
    let S = stack_of c.loop-spanned.below in
    let v = c.loop-spanned.invariant in
    let steps : into_iter_items c.loop-spanned.spanned-iterator ≡ s ∷ rest = c.in-Some.ensures.steps.0 in
    let whole : ys ++ s ∷ rest ≡ ts = ap (λ z. ys ++ z) (sym steps) ∙ v.0 in
    let g : slice_get ts (length ys) ≡ Some s = handed ts ys rest s whole in
    let r : from_start (take (length ys) ts) c.args.end ≡ Some (f ∷ S) = ap (λ z. from_start z c.args.end) (handed_before ts ys rest s whole) ∙ v.2 in
    let f2 = frame_of c.step.new.top in
    let S2 = stack_of c.step.new.below in
    let a : act S f s.token s.at ≡ Some (f2 ∷ S2) = search rules in
    let gone = c.in-Some.ensures.steps.1 in
    let short = ap length steps in
    let longer : length (ys ++ s ∷ []) ≡ length ys + 1 = length-append ys (s ∷ []) in (
      append_assoc ys (s ∷ []) rest ∙ whole,
      omega arith,
      ap (λ z. from_start z c.args.end) (sym (handed_with ts ys rest s whole)) ∙ next_state ts c.args.end (length ys) s f S (Some (f2 ∷ S2)) g r a,
      search rules,
      ap (λ z. z + 1) v.4 ∙ sym longer,
    )

pub returns-then-not-branch-2-clause-refused : goal.returns-then-not-branch-2-clause-refused
returns-then-not-branch-2-clause-refused c =
    let ts = c.args.tokens in
    let ys = c.loop-spanned.yielded in
    let f = frame_of c.loop-spanned.top in
    let S = stack_of c.loop-spanned.below in
    let v = c.loop-spanned.invariant in
    let whole : ys ≡ ts = sym (append-nil ys) ∙ ap (λ z. ys ++ z) (sym (none_left _ (sym v.1 ∙ c.in-None.ensures.steps.0))) ∙ v.0 in
    let r : from_start ts c.args.end ≡ Some (f ∷ S) = ap (λ z. from_start z c.args.end) (sym whole) ∙ v.2 in
    let n : close S f ≡ None = search rules in
    subst (λ z. IsRefused ts c.args.end (Syntax z c.args.end)) (sym (v.4 ∙ ap length whole)) (end_none ts c.args.end f S r (within_limit ts c.args.end f S r v.3) n)

pub returns-clause-tree : goal.returns-clause-tree
returns-clause-tree c =
    let ts = c.args.tokens in
    let ys = c.loop-spanned.yielded in
    let f = frame_of c.loop-spanned.top in
    let S = stack_of c.loop-spanned.below in
    let v = c.loop-spanned.invariant in
    let whole : ys ≡ ts = sym (append-nil ys) ∙ ap (λ z. ys ++ z) (sym (none_left _ (sym v.1 ∙ c.in-None.ensures.steps.0))) ∙ v.0 in
    let r : from_start ts c.args.end ≡ Some (f ∷ S) = ap (λ z. from_start z c.args.end) (sym whole) ∙ v.2 in
    let h = frame_of c.close.new.top in
    let n : close S f ≡ Some h = search rules in
    tree_is ts c.args.end f S h (record { items = c.close.new.top.parts; end = c.args.end }) r n (within_limit ts c.args.end f S r v.3) refl refl
