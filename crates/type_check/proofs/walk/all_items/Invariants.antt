use Rattle.std.proofs.Common.{◌≡◌, [], drop}
use Rattle.src_tree.specs.View.{parts_in}
use Rattle.typeck_checker.specs.Stand.{ChangesNothing, env, state}
use Rattle.typing_rules.specs.Items.{item_syns, items_of}
use Rattle.typing_rules.specs.Program as rules
use Rattle.typeck_items.specs.Had.{had}
use Rattle.type_check.proofs.walk.all_items.Given as goal

abbrev pub invariant-loop-piece : goal.invariant-loop-piece
invariant-loop-piece l =
    record {
      gives : rules.all_items (env l.initial.checker) (record { methods = []; impls = [] }) (item_syns (items_of (parts_in l.pieces))) (state l.initial.checker)
          ≡ rules.all_items (env l.initial.checker) (had l.before) (item_syns (items_of (parts_in (drop l.piece-index l.pieces)))) (state l.checker);
      same : ChangesNothing l.initial.checker l.checker;
    }
