use Rattle.std.proofs.Common.{ap, sym, subst, ◌∙◌}
use Rattle.typeck_heads.specs.Answers.{Refuses}
use Rattle.src_ast.specs.Seen.{syn_of}
use Rattle.typeck_checker.specs.Stand.{state}
use Rattle.typeck_heads.specs.Forms.{written_by}
use Rattle.typeck_checker.proofs.Local.{fixed_here, gives_here, local_as, refuses_here}
use Rattle.typeck_checker.proofs.Standing.{names_are, names_in, ready_later}
use Rattle.typeck_checker.proofs.types.resolve_by.Goals as goal

pub invariant_of-checker-in-Ok-1 : goal.invariant_of-checker-in-Ok-1
invariant_of-checker-in-Ok-1 c =
    let before = c.args.checker.now in
    let w = names_in before.tables before.around in
    let x = syn_of c.args.node.now in
    record {
      ready = ready_later before.walk.items c.resolve_written.new.items before.tables (fixed_here (written_by c.args.is_param w x) (local_as c.args.is_param w x) (state before) c.in-Ok.id c.resolve_written.new.items c.in-Ok.ensures.answers) before.ready;
    }

pub returns-in-Ok-clause-gives : goal.returns-in-Ok-clause-gives
returns-in-Ok-clause-gives c =
    let before = c.args.checker.now in
    let w = names_in before.tables before.around in
    let x = syn_of c.args.node.now in
    ap (λ a. written_by c.args.is_param a x (state before)) (sym (names_are before.tables before.around))
    ∙ gives_here (written_by c.args.is_param w x) (local_as c.args.is_param w x) (state before) c.in-Ok.id c.resolve_written.new.items c.in-Ok.ensures.answers

pub returns-in-Err-clause-gives : goal.returns-in-Err-clause-gives
returns-in-Err-clause-gives c =
    let before = c.args.checker.now in
    let w = names_in before.tables before.around in
    let x = syn_of c.args.node.now in
    subst (λ a. Refuses (written_by c.args.is_param a x (state before)) c.in-Err.e) (names_are before.tables before.around)
    (refuses_here (written_by c.args.is_param w x) (local_as c.args.is_param w x) (state before) c.in-Err.e c.in-Err.ensures.answers)
