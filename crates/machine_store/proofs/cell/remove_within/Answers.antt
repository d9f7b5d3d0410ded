use Rattle.std.proofs.Common.{rules}
use Rattle.std.proofs.lemmas.Fn.{filter_same}
use Rattle.machine_store.proofs.cell.remove_within.Goals as goal

pub returns : goal.returns
returns c = filter_same _ _ _ (λ x b f h. (search rules, search rules)) _ _ c.retain.ensures.filtered
