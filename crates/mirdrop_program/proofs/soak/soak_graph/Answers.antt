use Rattle.std.proofs.Common.{◌≡◌, ◌<◌, ◌-◌, ◌^◌, ℕ, List, length, sym, subst, ◌∙◌}
use Rattle.mir_pipeline.specs.Built.{IsBuiltOf}
use Rattle.mir_pipeline.specs.Graphs.{IsNotAccepted}
use Rattle.soak_text.specs.Text.{soak_text}
use Rattle.mirdrop_program.proofs.Soaked.{is_short, refused_for_memory}
use Rattle.mirdrop_program.proofs.soak.soak_graph.Goals as goal

pub build-requires : goal.build-requires
build-requires c =
    subst (λ (text : List ℕ). length text < 2 ^ 32 - 1) (sym (c.as_slice.ensures ∙ c.in_ok-text.ensures))
    (is_short c.args.functions c.requires.some c.requires.few)

pub returns-in-Ok : goal.returns-in-Ok
returns-in-Ok c =
    subst (λ (text : List ℕ). IsBuiltOf text c.in-Ok.done) (c.as_slice.ensures ∙ c.in_ok-text.ensures) c.in-Ok.ensures.built

pub want_of-requires : goal.want_of-requires
want_of-requires c =
    refused_for_memory c.args.functions c.requires.some c.requires.few c.in-Err.refusal
    (subst (λ (text : List ℕ). IsNotAccepted text c.in-Err.refusal) (c.as_slice.ensures ∙ c.in_ok-text.ensures) c.in-Err.ensures.refused)
