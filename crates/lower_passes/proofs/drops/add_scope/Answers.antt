use Rattle.std.proofs.Common.{List, map}
use Rattle.std.proofs.lemmas.Result.{on_ok_weaker}
use Rattle.lower_code.specs.View.{entry_of}
use Rattle.src_meaning.specs.Scopes.{Entry}
use Rattle.lower_passes.specs.Scoped.{held}
use Rattle.lower_passes.proofs.Lists.{two_added}
use Rattle.lower_passes.proofs.drops.add_scope.Goals as goal

pub returns : goal.returns
returns c =
    let old : List Entry = map entry_of c.args.drops.now.items in
    let middle : List Entry = map entry_of c.add_needing.new.drops.items in
    let new : List Entry = map entry_of c.add_needing-2.new.drops.items in
    on_ok_weaker c.add_needing-2.result
    (λ second. two_added c.args.items.now (held c.args.scope.now.pending) (held c.args.scope.now.entries) old middle new c.in_ok-add_needing.ensures second)
    c.add_needing-2.ensures
