use Rattle.std.proofs.Common.{arith}
use Rattle.std.proofs.lemmas.List.{length-take, length-drop}
use Rattle.mir_edge.proofs.SinkLemmas.{taken-more}
use Rattle.mir_edge.proofs.sink.write_whole.Goals as goal

pub loop-written-preserved : goal.loop-written-preserved
loop-written-preserved g c =
    let within = c.in-Ok.ensures.within in (
      omega (arith, simp (length-take, length-drop) at within),
      omega (arith, c.in-Ok.ensures.counts),
      λ taken told. taken-more _ taken c.args.text.now c.loop-written.written c.in-Ok.count
          (c.in-Ok.ensures.bytes _ (c.loop-written.invariant.2 taken told)),
    )
