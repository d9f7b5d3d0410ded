use Rattle.std.proofs.Common.{false, length, sym, ap, ◌∙◌}
use Rattle.std.proofs.lemmas.List.{length-replicate}
use Rattle.move_errors.proofs.search.copy_of.Goals as goal

pub copy_into-requires : goal.copy_into-requires
copy_into-requires c = sym (ap length c.in_ok-copy.ensures ∙ length-replicate c.len.result false ∙ c.len.ensures)
