use Rattle.std.proofs.Common.{ap, sym, subst, ◌∙◌}
use Rattle.std.proofs.lemmas.Result.{IfOk-weaker}
use Rattle.cfg_graph.specs.declared.terminator.Term.{Term}
use Rattle.mir_machine.specs.declared.tasks.Post.{Post}
use Rattle.mir_machine.specs.Tasks.{AtTerm, Keeps, Next}
use Rattle.mir_machine.specs.Ways.{post_of}
use Rattle.mir_machine.proofs.statements.terminate.Goals as goal

pub returns-in-If : goal.returns-in-If
returns-in-If c =
    let graph = c.args.graph.now in
    let tasks = c.args.tasks.now in
    IfOk-weaker c.branch_if.result _ _
    (λ doing k. subst (λ t. Keeps graph c.args.world.now c.branch_if.new.world (AtTerm graph tasks c.args.number c.args.block t) (Next graph tasks doing)) (sym c.in-If.is) (k graph tasks))
    c.branch_if.ensures

pub returns-in-Math : goal.returns-in-Math
returns-in-Math c =
    let graph = c.args.graph.now in
    let tasks = c.args.tasks.now in
    let a = c.in-Math in
    IfOk-weaker c.compute.result _ _
    (λ doing k. subst (λ t. Keeps graph c.args.world.now c.compute.new.world (AtTerm graph tasks c.args.number c.args.block t) (Next graph tasks doing)) (sym a.is)
    (subst (λ (p : Post). Keeps graph c.args.world.now c.compute.new.world (AtTerm graph tasks p.number p.block (Term.Math a.to a.op a.left a.right p.onward p.unwind)) (Next graph tasks doing)) (c.post_at-post.ensures ∙ ap (post_of c.args.number c.args.block) a.is) (k graph tasks)))
    c.compute.ensures

pub returns-in-Negate : goal.returns-in-Negate
returns-in-Negate c =
    let graph = c.args.graph.now in
    let tasks = c.args.tasks.now in
    let a = c.in-Negate in
    IfOk-weaker c.negate.result _ _
    (λ doing k. subst (λ t. Keeps graph c.args.world.now c.negate.new.world (AtTerm graph tasks c.args.number c.args.block t) (Next graph tasks doing)) (sym a.is)
    (subst (λ (p : Post). Keeps graph c.args.world.now c.negate.new.world (AtTerm graph tasks p.number p.block (Term.Negate a.to a.of p.onward p.unwind)) (Next graph tasks doing)) (c.post_at-post.ensures ∙ ap (post_of c.args.number c.args.block) a.is) (k graph tasks)))
    c.negate.ensures

pub returns-in-Bounds : goal.returns-in-Bounds
returns-in-Bounds c =
    let graph = c.args.graph.now in
    let tasks = c.args.tasks.now in
    let a = c.in-Bounds in
    IfOk-weaker c.check_index.result _ _
    (λ doing k. subst (λ t. Keeps graph c.args.world.now c.check_index.new.world (AtTerm graph tasks c.args.number c.args.block t) (Next graph tasks doing)) (sym a.is)
    (subst (λ (p : Post). Keeps graph c.args.world.now c.check_index.new.world (AtTerm graph tasks p.number p.block (Term.Bounds a.index a.length p.onward p.unwind)) (Next graph tasks doing)) (c.post_at-post.ensures ∙ ap (post_of c.args.number c.args.block) a.is) (k graph tasks)))
    c.check_index.ensures

pub returns-in-Ask : goal.returns-in-Ask
returns-in-Ask c =
    let graph = c.args.graph.now in
    let tasks = c.args.tasks.now in
    let a = c.in-Ask in
    IfOk-weaker c.ask.result _ _
    (λ doing k. subst (λ t. Keeps graph c.args.world.now c.ask.new.world (AtTerm graph tasks c.args.number c.args.block t) (Next graph tasks doing)) (sym a.is)
    (subst (λ (p : Post). Keeps graph c.args.world.now c.ask.new.world (AtTerm graph tasks p.number p.block (Term.Ask a.to p.onward p.unwind)) (Next graph tasks doing)) (c.post_at-post.ensures ∙ ap (post_of c.args.number c.args.block) a.is) (k graph tasks)))
    c.ask.ensures

pub returns-in-Panic : goal.returns-in-Panic
returns-in-Panic c =
    let graph = c.args.graph.now in
    let tasks = c.args.tasks.now in
    IfOk-weaker c.panic.result _ _
    (λ doing k. subst (λ t. Keeps graph c.args.world.now c.panic.new.world (AtTerm graph tasks c.args.number c.args.block t) (Next graph tasks doing)) (sym c.in-Panic.is) (k graph tasks))
    c.panic.ensures

pub returns-in-Return : goal.returns-in-Return
returns-in-Return c =
    let graph = c.args.graph.now in
    let tasks = c.args.tasks.now in
    IfOk-weaker c.give.result _ _
    (λ doing k. subst (λ t. Keeps graph c.args.world.now c.give.new.world (AtTerm graph tasks c.args.number c.args.block t) (Next graph tasks doing)) (sym c.in-Return.is) (k graph tasks))
    c.give.ensures

pub returns-in-Resume : goal.returns-in-Resume
returns-in-Resume c =
    let graph = c.args.graph.now in
    let tasks = c.args.tasks.now in
    IfOk-weaker c.resume.result _ _
    (λ doing k. subst (λ t. Keeps graph c.args.world.now c.resume.new.world (AtTerm graph tasks c.args.number c.args.block t) (Next graph tasks doing)) (sym c.in-Resume.is) (k graph tasks))
    c.resume.ensures

pub returns-in-Call : goal.returns-in-Call
returns-in-Call c =
    let graph = c.args.graph.now in
    let tasks = c.args.tasks.now in
    let a = c.in-Call in
    IfOk-weaker c.call.result _ _
    (λ doing k. subst (λ t. Keeps graph c.args.world.now c.call.new.world (AtTerm graph tasks c.args.number c.args.block t) (Next graph c.call.new.tasks doing)) (sym a.is)
    (subst (λ (p : Post). Keeps graph c.args.world.now c.call.new.world (AtTerm graph tasks p.number p.block (Term.Call a.to a.body a.args p.onward p.unwind)) (Next graph c.call.new.tasks doing)) (c.post_at-post.ensures ∙ ap (post_of c.args.number c.args.block) a.is)
    (subst (λ args. Keeps graph c.args.world.now c.call.new.world (AtTerm graph tasks c.post_at-post.result.number c.post_at-post.result.block (Term.Call a.to a.body args c.post_at-post.result.onward c.post_at-post.result.unwind)) (Next graph c.call.new.tasks doing)) c.as_slice.ensures k)))
    c.call.ensures

pub returns-in-Virtual : goal.returns-in-Virtual
returns-in-Virtual c =
    let graph = c.args.graph.now in
    let tasks = c.args.tasks.now in
    let a = c.in-Virtual in
    IfOk-weaker c.call_virtual.result _ _
    (λ doing k. subst (λ t. Keeps graph c.args.world.now c.call_virtual.new.world (AtTerm graph tasks c.args.number c.args.block t) (Next graph c.call_virtual.new.tasks doing)) (sym a.is)
    (subst (λ (p : Post). Keeps graph c.args.world.now c.call_virtual.new.world (AtTerm graph tasks p.number p.block (Term.Virtual a.to a.trait_no a.method a.args p.onward p.unwind)) (Next graph c.call_virtual.new.tasks doing)) (c.post_at-post.ensures ∙ ap (post_of c.args.number c.args.block) a.is)
    (subst (λ args. Keeps graph c.args.world.now c.call_virtual.new.world (AtTerm graph tasks c.post_at-post.result.number c.post_at-post.result.block (Term.Virtual a.to a.trait_no a.method args c.post_at-post.result.onward c.post_at-post.result.unwind)) (Next graph c.call_virtual.new.tasks doing)) c.as_slice-args.ensures k)))
    c.call_virtual.ensures

pub returns-in-DropAt : goal.returns-in-DropAt
returns-in-DropAt c =
    let graph = c.args.graph.now in
    let tasks = c.args.tasks.now in
    let a = c.in-DropAt in
    IfOk-weaker c.drop_place.result _ _
    (λ doing k. subst (λ t. Keeps graph c.args.world.now c.args.world.now (AtTerm graph tasks c.args.number c.args.block t) (Next graph tasks doing)) (sym a.is)
    (subst (λ (p : Post). Keeps graph c.args.world.now c.args.world.now (AtTerm graph tasks p.number p.block (Term.DropAt a.place p.onward p.unwind)) (Next graph tasks doing)) (c.post_at-post.ensures ∙ ap (post_of c.args.number c.args.block) a.is) (k graph tasks)))
    c.drop_place.ensures
