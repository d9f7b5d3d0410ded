use Rattle.std.proofs.Common.{◌<◌, length, arith}
use Rattle.std.proofs.lemmas.Option.{slice_get_within, slice_get-get_or}
use Rattle.store_model.specs.Places.Place.{whole_local}
use Rattle.move_paths.specs.Forest.{path_at}
use Rattle.move_paths.specs.Trie.{places}
use Rattle.move_paths.proofs.Growth.{part-here, step-known}
use Rattle.move_paths.proofs.trie.Trie.child.Goals as goal

pub overflow_cast-result : goal.overflow_cast-result
overflow_cast-result c = let fits = c.self.invariant.fits in let here = slice_get_within c.self.inside.parts c.in-Some.n _ c.in-Some.ensures.found in omega (fits, here, arith)

pub overflow_add-result : goal.overflow_add-result
overflow_add-result c = let fits = c.self.invariant.fits in let here = slice_get_within c.self.inside.parts c.in-Some.n _ c.in-Some.ensures.found in omega (fits, here, arith)

pub returns-in_default : goal.returns-in_default
returns-in_default c =
    let locals = c.self.inside.locals in
    let parts = c.self.inside.parts in
    let within : c.args.path < length (places locals parts) = rw c.self.view_is c.requires in
    rw (← c.self.view_is) (λ has. c.in_default.ensures.found (step-known locals parts c.self.invariant c.args.path (path_at (places locals parts) c.args.path) c.args.step
    (slice_get-get_or (places locals parts) c.args.path (whole_local 0) within) has))

pub returns : goal.returns
returns c =
    rw (← c.self.view_is) (
      part-here c.self.inside.locals c.self.inside.parts c.self.invariant c.in-Some.n (record { of = c.args.path; step = c.args.step }) c.in-Some.ensures.found,
      c.self.invariant.earlier c.in-Some.n (record { of = c.args.path; step = c.args.step }) c.in-Some.ensures.found,
    )
