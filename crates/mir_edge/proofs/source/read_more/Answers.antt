use Rattle.std.proofs.Common.{◌≤◌, length, arith}
use Rattle.mir_edge.specs.Source.{LeavesRest}
use Rattle.mir_edge.specs.Told.{WhereTold}
use Rattle.mir_edge.proofs.SourceLemmas.{AppendsFirst-from_moved, LeavesRest-from_moved, OnErr-from}
use Rattle.mir_edge.proofs.source.read_more.Goals as goal

pub returns-in_err-extend_from_slice-clause-after_refusal :
    goal.returns-in_err-extend_from_slice-clause-after_refusal
returns-in_err-extend_from_slice-clause-after_refusal g c =
    let small : c.in_ok-given.given ≤ length c.args.piece.now = omega (arith, c.read.auto.into, c.in_ok-given.ensures.within) in
    OnErr-from
    (WhereTold (g.S.Source.left c.args.source.now) (λ left. LeavesRest (length c.args.piece.now) left (g.S.Source.left c.read.new.self)))
    _ (λ left told. LeavesRest-from_moved left _ c.read.new.into c.in_ok-given.given _
    c.in_ok-given.ensures.within small (c.in_ok-given.ensures.bytes left told))

pub returns-clause-ok : goal.returns-clause-ok
returns-clause-ok g c = λ left told. AppendsFirst-from_moved left _ c.read.new.into _ _ c.in_ok-given.given
    c.in_ok-given.ensures.within (c.in_ok-given.ensures.bytes left told) c.in_ok-extend_from_slice.ensures.items
