use Rattle.mirdrop_program.proofs.entry.with_source.Goals as goal

pub returns-else-reads_text-clause-answer : goal.returns-else-reads_text-clause-answer
returns-else-reads_text-clause-answer g c words asked =
    let faults = g.S.Source.faults c.args.source.now in
    c.without_text.ensures.answer words (g.S.Source.left c.args.source.now) faults faults asked
