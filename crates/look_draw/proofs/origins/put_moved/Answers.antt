use Rattle.std.proofs.Common.{◌∙◌, ◌++◌, ℕ, List, ap, append_assoc}
use Rattle.std.proofs.lemmas.Result.{on_ok_weaker}
use Rattle.std.specs.Prelude.{codes}
use Rattle.look_draw.specs.Drawings.{place_words}
use Rattle.look_draw.proofs.origins.put_moved.Goals as goal

pub returns : goal.returns
returns c =
    let words : List ℕ = place_words c.args.site.now.at in
    on_ok_weaker c.put_place.result
    (λ placed.
    placed ∙ ap (λ (l : List ℕ). l ++ words) c.in_ok-put.ensures
    ∙ append_assoc c.args.out.now.items (codes "the value is moved at ") words)
    c.put_place.ensures
