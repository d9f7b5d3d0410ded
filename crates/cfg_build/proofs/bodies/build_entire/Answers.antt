use Rattle.std.proofs.Common.{rules, ◌≡◌, ◌∙◌, ◌-◌, ℕ, length, map, sym, ap, subst}
use Rattle.std.proofs.lemmas.Result.{on_ok_weaker}
use Rattle.lower_rules.specs.Build.{LoweringFrame, BlockRest, Building}
use Rattle.lower_blocks.specs.Building.{built_of}
use Rattle.lower_passes.specs.Framed.{frame_of}
use Rattle.lower_passes.specs.Scoped.{scopes_of}
use Rattle.lower_passes.specs.Spans.{Stands}
use Rattle.lower_code.specs.Forms.{entire_function}
use Rattle.lower_code.specs.View.{op_of}
use Rattle.src_meaning.specs.Locals.OfBody.{answer_key}
use Rattle.typed_tree.specs.Tree.{BodyTree}
use Rattle.typed_tree.specs.declared.node.Form.{the_lemmas}
use Rattle.typed_tree.specs.View.{body_of}
use Rattle.lower_rules.specs.Lower as low
use Rattle.cfg_build.specs.Lowered.{begun}
use Rattle.cfg_build.proofs.Whole.{entire}
use Rattle.cfg_build.proofs.bodies.build_entire.Goals as goal

pub returns : goal.returns
returns c =
    let f : LoweringFrame = frame_of c.args.frame in
    let tree : BodyTree = body_of c.args.body.now in
    let scopes : scopes_of c.in_ok-scopes.scopes.now ≡ low.answer_scope f tree = c.in_ok-scopes.ensures f in
    let key : answer_key tree ≡ c.args.body.now.block.id.0 = search (rules, the_lemmas) in
    let last : length c.args.code.words.now - 1 ≡ c.saturating_sub.result = search rules in
    on_ok_weaker c.fill.result
    (λ filled whole begins. entire f tree (scopes_of c.in_ok-scopes.scopes.now) (built_of c.start.new.blocks) (built_of c.build.new.blocks) (built_of c.fill.new.self)
    scopes (c.in_ok-start.ensures begins ∙ ap begun (sym key)) (c.in_ok-build.ensures (entire_function f.items tree) 0
    (subst (λ (e : ℕ). Stands f (map op_of c.args.code.words.now) c.args.code.marks.now (entire_function f.items tree) 0 e) last whole))
    (ap (λ (r : BlockRest × Building). r.1) filled)) c.fill.ensures
