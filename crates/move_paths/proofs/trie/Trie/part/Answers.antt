use Rattle.std.proofs.Common.{◌≡◌, ℕ, List, ◌-◌, ◌+◌, ◌<◌, length, Option, Some, None, MatchOption, refl, ap, subst, sym, ◌∙◌, arith, slice_get, get_or}
use Rattle.std.specs.Option.{option_copied}
use Rattle.std.proofs.lemmas.Option.{none-some, slice_get-get_or}
use Rattle.store_model.specs.Places.Place.{Place as Named}
use Rattle.cfg_graph.specs.declared.place.Step.{Step}
use Rattle.move_paths.specs.declared.parts.PathPart.{PathPart}
use Rattle.move_paths.specs.Forest.{IsRoot, IsPartOf}
use Rattle.move_paths.specs.Trie.{places}
use Rattle.move_paths.proofs.Growth.{length-all, root-at, part-here}
use Rattle.move_paths.proofs.trie.Trie.part.Goals as goal

pub returns-then-path-self : goal.returns-then-path-self
returns-then-path-self c =
    rw (← c.self.view_is) (root-at c.self.inside.locals c.self.inside.parts c.self.invariant c.args.path c.if-path-self.true)

pub returns : goal.returns
returns c =
    rw (← c.self.view_is) (subst (λ (o : Option PathPart). MatchOption o (IsRoot all c.args.path) (IsPartOf all c.args.path)) (sym c.get.ensures) (by (slice_get c.self.inside.parts at) refl))
  where
    all : List Named
    all = places c.self.inside.locals c.self.inside.parts

    at : ℕ
    at = c.args.path - c.self.inside.locals

    number : c.self.inside.locals + at ≡ c.args.path
    number = let late = c.if-path-self.false in omega (late, arith)

    by : (o : Option PathPart) → slice_get c.self.inside.parts at ≡ o → MatchOption o (IsRoot all c.args.path) (IsPartOf all c.args.path)
    by None none =
        let long = length-all c.self.inside.locals c.self.inside.parts c.self.invariant in
        let within : c.args.path < length all = rw c.self.view_is c.requires in
        let fresh : PathPart = record { of = 0; step = Step.Inside } in
        absurd (none-some (get_or c.self.inside.parts at fresh) (sym none ∙ slice_get-get_or c.self.inside.parts at fresh (omega (long, within, number, arith))))
    by (Some part) here = (
      (let k = c.self.invariant.earlier at part here in omega (k, number, arith)),
      ap (slice_get all) (sym number) ∙ part-here c.self.inside.locals c.self.inside.parts c.self.invariant at part here,
    )
