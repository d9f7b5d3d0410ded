use Rattle.std.proofs.Common.{◌≡◌, min, replicate, ap, sym, ◌∙◌, arith}
use Rattle.std.proofs.lemmas.List.{length-replicate}
use Rattle.typeck_patterns.proofs.Lists.{few_alike}
use Rattle.typeck_patterns.proofs.parts.element_types.Goals as goal

pub returns-clause-found : goal.returns-clause-found
returns-clause-found c =
    let all : c.loop-n._n ≡ min c.args.given c.args.count = omega (arith, c.lesser-n-end.ensures) in (
      c.loop-n.invariant ∙ ap (λ k. replicate k c.args.element) all ∙ sym (few_alike c.args.given c.args.count c.args.element),
      sym (length-replicate c.args.count c.args.element),
    )
