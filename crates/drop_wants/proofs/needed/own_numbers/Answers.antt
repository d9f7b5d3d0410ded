use Rattle.std.proofs.Common.{◌∙◌, ◌++◌, ◌∷◌, [], Option, List, Some, ap, sym, arith}
use Rattle.std.proofs.lemmas.List.FromFn.{map-range_with_len_more}
use Rattle.drop_wants.proofs.needed.own_numbers.Goals as goal

pub loop-path-preserved : goal.loop-path-preserved
loop-path-preserved c =
    c.in_ok-push.ensures.pushed ∙ ap (λ (l : List (Option _)). l ++ Some c.loop-path.path ∷ []) c.loop-path.invariant
    ∙ sym (map-range_with_len_more Some 0 c.loop-path.path c.loop-path.path (omega arith))
