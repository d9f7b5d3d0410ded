use Rattle.std.proofs.Common.{◌≡◌, ℕ, suc, ◌+◌, ◌<◌, List, ◌∷◌, drop, length, Option, Some, if◌then◌else◌, Bool, slice_get, slice_index_or, sym, ap, ◌∙◌, arith}
use Rattle.std.proofs.Math.Seq.{drop-cons}
use Rattle.std.proofs.lemmas.Option.{slice_get-get_or}
use Rattle.cfg_graph.specs.Places.{named}
use Rattle.move_paths.specs.Uses.{use_of}
use Rattle.move_errors.specs.declared.act.Act.{Act}
use Rattle.move_errors.specs.Rows.{left, after, first_by, use_at}
use Rattle.move_errors.specs.Runs.{actions_of, action_of}
use Rattle.move_errors.proofs.Leaving.{used-at, used-local, left-plain, length-left}
use Rattle.move_errors.proofs.bad.first_bad.Goals as goal

act-at : (acts : List Act) (i : ℕ) (act d : Act) → i < length acts → act ≡ slice_index_or acts i d → slice_get acts i ≡ Some act
act-at acts i act d within is = slice_get-get_or acts i d within ∙ ap Some (sym is)

drop-act : (acts : List Act) (i : ℕ) (act d : Act) → i < length acts → act ≡ slice_index_or acts i d → drop i acts ≡ act ∷ drop (i + 1) acts
drop-act acts i act d within is =
    drop-cons acts i d within
    ∙ ap (λ (z : Act). z ∷ drop (suc i) acts) (sym is) ∙ ap (λ (n : ℕ). act ∷ drop n acts) (let e : suc i ≡ i + 1 = omega arith in e)

pub is_bad-requires-clause-local : goal.is_bad-requires-clause-local
is_bad-requires-clause-local c =
    let w = c.args.watch.now in
    let act : Act = c.act-item.result in
    let at = act-at c.args.acts.now c.loop-act.act-index act act c.loop-act-test.true c.act-item.is in
    used-local w.items.now w.body.now w.forest w.below c.requires.watched (use_of act.how) (named act.place.now)
    (used-at w.items.now w.body.now w.forest w.below c.requires.watched c.args.acts.now c.loop-act.act-index act c.requires.used at)

pub apply-requires-clause-used : goal.apply-requires-clause-used
apply-requires-clause-used c =
    let w = c.args.watch.now in
    let act : Act = c.act-item.result in
    let at = act-at c.args.acts.now c.loop-act.act-index act act c.loop-act-test.true c.act-item.is in
    used-at w.items.now w.body.now w.forest w.below c.requires.watched c.args.acts.now c.loop-act.act-index act c.requires.used at

pub returns-then-is_bad-clause-first : goal.returns-then-is_bad-clause-first
returns-then-is_bad-clause-first c = λ n.
    let w = c.args.watch.now in
    let act : Act = c.act-item.result in
    let i : ℕ = c.loop-act.act-index in
    let rest : Option _ = first_by w.items.now w.body.now w.forest.paths (actions_of n (drop (i + 1) c.args.acts.now)) (left w.items.now w.body.now (action_of n act) w.forest.paths c.loop-act.row) in
    sym (c.loop-act.invariant.1 n
    ∙ ap (λ (z : List Act). first_by w.items.now w.body.now w.forest.paths (actions_of n z) c.loop-act.row) (drop-act c.args.acts.now i act act c.loop-act-test.true c.act-item.is)
    ∙ ap (λ (b : Bool). if b then Some (action_of n act) else rest) (sym c.is_bad.ensures ∙ c.if-is_bad.true))

pub loop-act-preserved : goal.loop-act-preserved
loop-act-preserved c =
    let w = c.args.watch.now in
    let act : Act = c.act-item.result in
    let i : ℕ = c.loop-act.act-index in
    let now = c.loop-act.row in
    let next : (n : ℕ) → left w.items.now w.body.now (action_of n act) w.forest.paths now ≡ c.apply.new.row =
    (λ n. left-plain w.items.now w.body.now (use_of act.how) (named act.place.now) n act.line w.forest.paths now ∙ sym c.apply.ensures) in (
      ap length c.apply.ensures ∙ length-left w.items.now w.body.now (use_at (use_of act.how) (named act.place.now)) w.forest.paths now c.loop-act.invariant.0,
      λ n. c.loop-act.invariant.1 n
          ∙ ap (λ (z : List Act). first_by w.items.now w.body.now w.forest.paths (actions_of n z) now) (drop-act c.args.acts.now i act act c.loop-act-test.true c.act-item.is)
          ∙ ap (λ (b : Bool). if b then Some (action_of n act) else first_by w.items.now w.body.now w.forest.paths (actions_of n (drop (i + 1) c.args.acts.now)) (left w.items.now w.body.now (action_of n act) w.forest.paths now)) (sym c.is_bad.ensures ∙ c.if-is_bad.false)
          ∙ ap (first_by w.items.now w.body.now w.forest.paths (actions_of n (drop (i + 1) c.args.acts.now))) (next n),
      λ n. c.loop-act.invariant.2 n
          ∙ ap (λ (z : List Act). after w.items.now w.body.now w.forest.paths (actions_of n z) now) (drop-act c.args.acts.now i act act c.loop-act-test.true c.act-item.is)
          ∙ ap (after w.items.now w.body.now w.forest.paths (actions_of n (drop (i + 1) c.args.acts.now))) (next n),
    )
