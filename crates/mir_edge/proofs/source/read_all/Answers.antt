use Rattle.std.proofs.Common.{◌+◌, ◌≤◌, length, take, vec_len, arith, ◌∙◌}
use Rattle.std.proofs.lemmas.List.{length-take}
use Rattle.mir_edge.specs.Source.{LeavesRest}
use Rattle.mir_edge.specs.Told.{WhereTold}
use Rattle.mir_edge.proofs.SourceLemmas.{HasRead-more, HasRead-all, HasRead-rest, OnErr-from}
use Rattle.mir_edge.proofs.source.read_all.Goals as goal

pub returns-in_err-given-clause-after_refusal : goal.returns-in_err-given-clause-after_refusal
returns-in_err-given-clause-after_refusal g c =
    let small : vec_len c.reading.bytes + length (take c.min-wanted.result c.reading.piece) ≤ c.args.limit + 1 =
    simp length-take (omega (arith, c.min-wanted.ensures)) in
    OnErr-from
    (WhereTold (g.S.Source.left c.args.source.now) (λ bytes. LeavesRest (c.args.limit + 1) bytes (g.S.Source.left c.read_more.new.source)))
    _ (λ left told. HasRead-rest _ _ _ _ left _ _ small (c.reading.invariant.2 left told)
    (c.in_err-given.ensures.after_refusal _ (c.reading.invariant.2 left told).rest))

pub returns-then-given-eq0-clause-whole : goal.returns-then-given-eq0-clause-whole
returns-then-given-eq0-clause-whole g c = λ left told.
    c.from_vec.ensures ∙ (HasRead-all _ _ _ _ left _ _ c.if-given-eq0.true (c.reading.invariant.2 left told)
    (c.in_ok-given.ensures.ok _ (c.reading.invariant.2 left told).rest)).0

pub returns-then-given-eq0-clause-none_left : goal.returns-then-given-eq0-clause-none_left
returns-then-given-eq0-clause-none_left g c = λ left told.
    (HasRead-all _ _ _ _ left _ _ c.if-given-eq0.true (c.reading.invariant.2 left told)
    (c.in_ok-given.ensures.ok _ (c.reading.invariant.2 left told).rest)).1

pub returns-then-given-eq0-clause-exceeds : goal.returns-then-given-eq0-clause-exceeds
returns-then-given-eq0-clause-exceeds g c = λ left told longer.
    let within = (HasRead-all _ _ _ _ left _ _ c.if-given-eq0.true (c.reading.invariant.2 left told)
    (c.in_ok-given.ensures.ok _ (c.reading.invariant.2 left told).rest)).2 in
    absurd (omega arith)

pub reading-preserved : goal.reading-preserved
reading-preserved g c =
    let fits = c.in_ok-given.ensures.grown.0 in
    let len = c.in_ok-given.ensures.grown.1 in (
      omega (arith, c.min-wanted.ensures, simp length-take at fits),
      omega (arith, c.in_ok-given.ensures.counts),
      λ left told. HasRead-more _ _ _ _ _ left _ _ len (c.reading.invariant.2 left told)
          (c.in_ok-given.ensures.ok _ (c.reading.invariant.2 left told).rest),
    )
