use Rattle.std.proofs.Common.{◌≡◌, ◌+◌, ◌∷◌, [], ◌++◌, length, slice_get, ap, sym, ◌∙◌}
use Rattle.std.proofs.lemmas.List.{length-append}
use Rattle.typed_tree.specs.View.{tree_of}
use Rattle.typeck_bodies.specs.Whole.{one_param}
use Rattle.typeck_bodies.proofs.Zipped.{one_more, zipped}
use Rattle.typeck_bodies.proofs.whole.params.Goals as goal

pub loop-pattern-preserved : goal.loop-pattern-preserved
loop-pattern-preserved c =
    let seen = c.loop-pattern.yielded in
    let counted : c.loop-pattern.k + 1 ≡ length (seen ++ c.in-Some.pattern ∷ []) =
    ap (λ n. n + 1) c.loop-pattern.invariant.0 ∙ sym (length-append seen (c.in-Some.pattern ∷ [])) in
    let looked : c.copied.result ≡ slice_get c.args.tys.now (length seen) =
    c.copied.ensures ∙ c.get.ensures ∙ ap (slice_get c.args.tys.now) c.loop-pattern.invariant.0 in (
      counted,
      c.in_ok-add_param.ensures.added
          ∙ ap (λ l. l ++ one_param (tree_of c.in-Some.pattern) c.copied.result) c.loop-pattern.invariant.1
          ∙ ap (λ o. zipped seen c.args.tys.now ++ one_param (tree_of c.in-Some.pattern) o) looked
          ∙ sym (one_more seen c.in-Some.pattern c.args.tys.now),
    )
