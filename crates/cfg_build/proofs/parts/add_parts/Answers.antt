use Rattle.std.proofs.Common.{◌≡◌, ◌++◌, ◌∷◌, [], ◌∙◌, List, map, sym, ap, append_assoc}
use Rattle.std.proofs.lemmas.List.{map-append}
use Rattle.cfg_build.specs.Lowered.{block_of, line_nodes}
use Rattle.cfg_build.proofs.parts.add_parts.Goals as goal

one_more : {X Y : Type 0} (f : X → Y) (none before new : List Y) (xs : List X) (x : X) → before ≡ none ++ map f xs → new ≡ before ++ f x ∷ [] → new ≡ none ++ map f (xs ++ x ∷ [])
one_more f none before new xs x so_far is_new =
    is_new ∙ ap (λ (l : List _). l ++ f x ∷ []) so_far
    ∙ append_assoc none (map f xs) (f x ∷ [])
    ∙ ap (λ (l : List _). none ++ l) (sym (map-append f xs (x ∷ [])))

pub loop-one-preserved : goal.loop-one-preserved
loop-one-preserved c =
    let added = c.in_ok-add_part.ensures in
    let so_far = c.loop-one.invariant in (
      one_more block_of c.args.blocks.now c.loop-one.blocks c.add_part.new.blocks c.loop-one.yielded c.in-Some.one so_far.0 added.0,
      one_more line_nodes _ _ _ c.loop-one.yielded c.in-Some.one so_far.1 added.1,
      λ all. added.2 (so_far.2 all),
    )
