-- Tests of a checked run beside those of `Checks`: of actions by what is known, and of places that are dropped.
use Rattle.std.proofs.Common.{◌&&◌, Bool, true}
use Rattle.store_model.specs.Effects.{Action}
use Rattle.store_model.specs.Places.Place.{Place}
use Rattle.soundness_values.proofs.Checked.{Checks}
use Rattle.soundness_values.proofs.Facts.{Facts}

pub record Also : Type 0 where
  pub act : Facts → Action → Bool
  pub drop : Place → Bool

abbrev pub nothing_else : Also
nothing_else = record { act = λ facts action. true; drop = λ place. true }

abbrev pub checks_also : Also → Checks Facts → Checks Facts
checks_also also checks = record {
  act_ok = λ action v facts. also.act facts action && checks.act_ok action v facts;
  act_facts = checks.act_facts;
  unwound_facts = checks.unwound_facts;
  test_ok = checks.test_ok;
  taken_facts = checks.taken_facts;
  declined_facts = checks.declined_facts;
  drop_ok = λ mode site v facts. also.drop site.place && checks.drop_ok mode site v facts;
  drop_facts = checks.drop_facts;
  give_ok = checks.give_ok;
}
