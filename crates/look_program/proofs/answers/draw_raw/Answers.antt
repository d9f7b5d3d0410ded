use Rattle.std.proofs.Common.{rules, ◌≡◌}
use Rattle.typed_tree.specs.View.{program_of}
use Rattle.mirdrop_program.proofs.Owing.{all_ok, both_ok, short_graph}
use Rattle.look_program.proofs.Owing.{dot_drawn, dot_refused, lowered_counted}
use Rattle.look_program.proofs.answers.draw_raw.Goals as goal

pub drawn_with_names-answer-requires : goal.drawn_with_names-answer-requires
drawn_with_names-answer-requires c =
    short_graph c.args.lowered.now.graph (lowered_counted c.args.text.now c.args.lowered.now c.requires.lowered)

pub returns-in-Ok : goal.returns-in-Ok
returns-in-Ok c =
    let same : c.as_slice.result.now ≡ c.args.lowered.now.sites = search rules in
    both_ok c.drawn_with_names-answer.result _ _ _
    (λ answer status written. dot_drawn c.args.text.now answer.status answer.text.items c.args.lowered.now c.requires.lowered
    (program_of c.in-Ok.typed) c.in-Ok.ensures.typed c.as_slice.result.now same status written)
    c.drawn_with_names-answer.ensures.status c.drawn_with_names-answer.ensures.text

pub returns-in-Err : goal.returns-in-Err
returns-in-Err c =
    all_ok c.refused_answer.result _ _ _ _
    (λ answer told status written. dot_refused c.args.text.now answer.status answer.text.items c.in-Err.refusal c.in-Err.ensures.refused told status written)
    c.refused_answer.ensures.told c.refused_answer.ensures.status c.refused_answer.ensures.text
