use Rattle.lower_rules.proofs.Bodies.{lowered_runs_as_its_source, lowered_walks_as_it_runs_freely, lowered_is_ranked, lowered_keeps_to_cleanup, lowered_is_prepared, lowered_refills_parts}
use Rattle.lower_rules.proofs.Codes.{bodies}
use Rattle.lower_rules.proofs.FormSites.{lowered_has_sites}
use Rattle.lower_rules.proofs.FormSizes.{lowered_is_small}
use Rattle.lower_rules.proofs.Typed.{well_typed_names_loops}
use Rattle.lower_rules.proofs.laws.law_of_lowering.Goals as goal

pub returns : goal.returns
returns c = record { values = lowered_runs_as_its_source; free = lowered_walks_as_it_runs_freely; ranked = lowered_is_ranked; cleanup = lowered_keeps_to_cleanup; prepared = lowered_is_prepared; refills = lowered_refills_parts; small = lowered_is_small; sites = lowered_has_sites; typed = well_typed_names_loops; codes = bodies }
