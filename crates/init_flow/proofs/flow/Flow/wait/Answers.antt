use Rattle.std.proofs.Common.{ap, List, Bool, inr}
use Rattle.init_flow.proofs.HeapLemmas.{pushed-kept, pushed-only, pushed-there, pushed-longer}
use Rattle.std.specs.BinaryHeap.{heap_items}
use Rattle.init_flow.proofs.flow.Flow.wait.Goals as goal

pub returns-in_ok-push : goal.returns-in_ok-push
returns-in_ok-push c =
    let p = c.in_ok-push.ensures.permutation in
    let old = heap_items c.args.self.now.heap in
    let new = heap_items c.push.new.self in
    let e = c.args.block in
    record {
      state = ap (λ (w : List Bool). record { rows = c.args.self.now.rows; reached = c.args.self.now.reached; waiting = w }) c.set.ensures;
      kept = pushed-kept old new e p;
      only = pushed-only old new e p;
      there = inr (pushed-there old new e p);
      longer = pushed-longer old new e p;
    }
