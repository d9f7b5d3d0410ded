use Rattle.std.proofs.Common.{sym, subst}
use Rattle.src_tree.specs.View.{parts_in}
use Rattle.typing_rules.specs.Items.{item_syns, items_of}
use Rattle.typeck_checker.specs.Tables.{AreTablesOf}
use Rattle.type_check.proofs.Starting.{begins, none_made}
use Rattle.type_check.proofs.start.checker_of.Goals as goal

pub invariant_of-result : goal.invariant_of-result
invariant_of-result c = record {
  ready = subst (λ i. AreTablesOf i c.in_ok-tables.tables) (sym c.beginning.ensures.items) c.in_ok-tables.ensures.ready;
}

pub returns-clause-place : goal.returns-clause-place
returns-clause-place c =
    begins (item_syns (items_of (parts_in c.args.pieces.now))) c.in_ok-tables.tables c.outside.result c.in_ok-tables.ensures.adts c.in_ok-tables.ensures.traits c.in_ok-tables.ensures.kinds c.in_ok-tables.ensures.methods
    c.outside.ensures.self_adt c.outside.ensures.variables c.outside.ensures.loops c.outside.ensures.answer

pub returns-clause-state : goal.returns-clause-state
returns-clause-state c = c.beginning.ensures.state

pub returns-clause-empty : goal.returns-clause-empty
returns-clause-empty c = none_made c.beginning.result.made c.beginning.ensures.made
