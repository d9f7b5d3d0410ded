use Rattle.name_table.proofs.finite_size.is_finite.Goals as goal

pub holds_itself-requires : goal.holds_itself-requires
holds_itself-requires c = c.requires _ _ c.in_ok-ty.ensures.answers
