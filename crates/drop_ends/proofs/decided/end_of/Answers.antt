use Rattle.std.proofs.Common.{◌∙◌, ap, refl, subst, sym}
use Rattle.std.proofs.lemmas.Result.{IfOk-weaker}
use Rattle.cfg_graph.specs.Uses.{term_uses}
use Rattle.cfg_graph.specs.declared.terminator.Term.{Term}
use Rattle.drop_elaborate.specs.Elaborated.{flags_of_uses}
use Rattle.drop_flags.specs.Flags.{paths_of}
use Rattle.drop_blocks.specs.Ladders.{made_of}
use Rattle.drop_ends.specs.Decisions.{EndsBy}
use Rattle.drop_ends.proofs.Ending.{ends-other}
use Rattle.drop_ends.proofs.Making.{so-made}
use Rattle.drop_ends.specs.Ends.{end_by}
use Rattle.drop_ends.proofs.Exact.{end-other}
use Rattle.drop_ends.proofs.decided.end_of.Goals as goal

pub returns-in-DropAt-clause-stands : goal.returns-in-DropAt-clause-stands
returns-in-DropAt-clause-stands c =
    let flagged = paths_of c.args.flags.now in
    IfOk-weaker c.drop_end.result _ _
    (λ end h items body are flat.
    let it = h items body are flat in (
      it.0,
      it.1,
      so-made (made_of c.args.blocks.now) (made_of c.drop_end.new.blocks) _ _
          (λ after ends. subst (λ (t : Term). EndsBy items body flagged after c.args.decided.now c.args.kind t it.0 end) (sym c.in-DropAt.is) ends)
          it.2,
    ))
    c.drop_end.ensures.stands

pub returns-in_ok-add_term-in_default-clause-stands : goal.returns-in_ok-add_term-in_default-clause-stands
returns-in_ok-add_term-in_default-clause-stands c =
    let flagged = paths_of c.args.flags.now in
    let term = c.args.term in
    IfOk-weaker c.term_end.result _ _
    (λ end h items body are flat. (
      flags_of_uses items body flagged (term_uses term),
      c.in_ok-add_term-in_default.ensures items body are,
      so-made (made_of c.args.blocks.now) (made_of c.term_end.new.blocks) _ _
          (λ after ends.
          ends-other items body flagged after c.args.decided.now c.args.kind term (flags_of_uses items body flagged (term_uses term)) end
          c.in_default.not-DropAt (refl, (h.0, ends.0, ends.1)))
          (h.1 items body are),
    ))
    c.term_end.ensures.stands

pub returns-in-DropAt-clause-built : goal.returns-in-DropAt-clause-built
returns-in-DropAt-clause-built c =
    IfOk-weaker c.drop_end.result _ _
    (λ end h items body are. h items body are
    ∙ ap (λ (t : Term). end_by items body (paths_of c.args.flags.now) c.args.decided.now c.args.kind t (made_of c.args.blocks.now))
    (sym c.in-DropAt.is))
    c.drop_end.ensures.built

pub returns-in_ok-add_term-in_default-clause-built : goal.returns-in_ok-add_term-in_default-clause-built
returns-in_ok-add_term-in_default-clause-built c =
    IfOk-weaker c.term_end.result _ _
    (λ end h items body are. h items body are
    ∙ end-other items body (paths_of c.args.flags.now) c.args.decided.now c.args.kind c.args.term (made_of c.args.blocks.now)
    c.in_default.not-DropAt)
    c.term_end.ensures.built
