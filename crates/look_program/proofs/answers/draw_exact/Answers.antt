use Rattle.typed_tree.specs.View.{program_of}
use Rattle.mir_pipeline.proofs.Accepted.{has_no_program}
use Rattle.mirdrop_program.proofs.Owing.{all_ok, both_ok, short_graph}
use Rattle.look_program.proofs.Owing.{built_counted, built_refused, dot_built}
use Rattle.look_program.proofs.answers.draw_exact.Goals as goal

pub drawn_with_names-answer-requires : goal.drawn_with_names-answer-requires
drawn_with_names-answer-requires c = short_graph c.args.done.now.graph (built_counted c.args.text.now c.args.done.now c.requires.built)

pub returns-in-Ok : goal.returns-in-Ok
returns-in-Ok c =
    both_ok c.drawn_with_names-answer.result _ _ _
    (λ answer status written. dot_built c.args.text.now answer.status answer.text.items c.args.lowered.now c.requires.lowered
    c.args.done.now c.requires.built (program_of c.in-Ok.typed) c.in-Ok.ensures.typed status written)
    c.drawn_with_names-answer.ensures.status c.drawn_with_names-answer.ensures.text

pub returns-in-Err : goal.returns-in-Err
returns-in-Err c =
    all_ok c.refused_answer.result _ _ _ _
    (λ answer told status written. built_refused c.args.text.now answer.status answer.text.items c.in-Err.refusal (has_no_program c.args.text.now c.in-Err.refusal c.in-Err.ensures.refused) told status written)
    c.refused_answer.ensures.told c.refused_answer.ensures.status c.refused_answer.ensures.text
