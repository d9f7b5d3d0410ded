use Rattle.std.proofs.Common.{sym, subst}
use Rattle.store_model.specs.Values.Wholeness.{IsWhole}
use Rattle.store_model.proofs.Values.Datum.{datum_of-Parts}
use Rattle.machine_steps.proofs.StepsDone.{all_whole}
use Rattle.machine_steps.proofs.actions.aggregate_of.Goals as goal

pub returns-clause-whole : goal.returns-clause-whole
returns-clause-whole c = subst IsWhole (sym (datum_of-Parts c.args.variant c.args.serial c.args.parts)) (all_whole c.args.parts c.requires)
