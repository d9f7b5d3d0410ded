use Rattle.std.proofs.Common.{ap, List, Bool}
use Rattle.init_flow.proofs.HeapLemmas.{popped-was, popped-kept, popped-only, popped-shorter}
use Rattle.std.specs.BinaryHeap.{heap_items}
use Rattle.init_flow.proofs.flow.Flow.take.Goals as goal

pub set-requires : goal.set-requires
set-requires c =
    c.requires _ (popped-was (heap_items c.args.self.now.heap) (heap_items c.pop.new.self) c.in_ok-block.block c.in_ok-block.ensures.permutation)

pub returns-clause-some : goal.returns-clause-some
returns-clause-some c =
    let p = c.in_ok-block.ensures.permutation in
    let old = heap_items c.args.self.now.heap in
    let new = heap_items c.pop.new.self in
    let e = c.in_ok-block.block in
    record {
      state = ap (λ (w : List Bool). record { rows = c.args.self.now.rows; reached = c.args.self.now.reached; waiting = w }) c.set.ensures;
      was = popped-was old new e p;
      kept = popped-kept old new e p;
      only = popped-only old new e p;
      shorter = popped-shorter old new e p;
    }
