use Rattle.std.proofs.Common.{◌≡◌, ◌++◌, replicate, take}
use Rattle.drop_bodies.proofs.locals.locals_with.Given as goal

abbrev pub invariant-loop-ty : goal.invariant-loop-ty
invariant-loop-ty l = l.locals ≡ take l.ty-index l.body.locals

abbrev pub invariant-loop-n : goal.invariant-loop-n
invariant-loop-n l = l.locals ≡ l.body.locals ++ replicate l._n l.flag_ty
