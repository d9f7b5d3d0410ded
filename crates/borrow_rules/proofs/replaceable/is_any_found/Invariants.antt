use Rattle.std.proofs.Common.{◌≡◌, ◌≤◌, ◌-◌, drop, length}
use Rattle.std.specs.List.{list_any}
use Rattle.borrow_rules.specs.Found.{method_found}
use Rattle.borrow_rules.specs.View.{params_in}
use Rattle.borrow_rules.proofs.replaceable.is_any_found.Given as goal

abbrev pub invariant-loop-def : goal.invariant-loop-def
invariant-loop-def l =
    record {
      within : l.n ≤ length l.items.impls;
      left : list_any (method_found (params_in l.found.keys) l.trait_no l.method l.number) (drop l.n l.items.impls)
          ≡ list_any (method_found (params_in l.found.keys) l.trait_no l.method l.number) l.items.impls;
    }

abbrev pub decreases-loop-def : goal.decreases-loop-def
decreases-loop-def l = length l.items.impls - l.n
