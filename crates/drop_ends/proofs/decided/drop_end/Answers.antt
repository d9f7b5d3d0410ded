use Rattle.std.proofs.Common.{◌∙◌, ◌∷◌, [], ◌++◌, List, ap, refl, subst, sym, append-nil}
use Rattle.cfg_graph.specs.Uses.{Drops}
use Rattle.cfg_graph.specs.declared.place.Place.{Place}
use Rattle.cfg_graph.specs.declared.statement.Stmt.{Stmt}
use Rattle.cfg_graph.specs.declared.terminator.Term.{Term}
use Rattle.drop_elaborate.specs.Elaborated.{flags_of_use, flags_of_uses}
use Rattle.drop_flags.specs.Flags.{paths_of}
use Rattle.drop_blocks.specs.Ladders.{made_of}
use Rattle.drop_ends.specs.Decisions.{DropEnds}
use Rattle.drop_ends.specs.declared.decided.Decided.{Decided}
use Rattle.drop_ends.proofs.Making.{nothing-made, so-made}
use Rattle.drop_elaborate.specs.Build.{Begun}
use Rattle.drop_ends.specs.Ends.{made_end, drop_end}
use Rattle.drop_ends.proofs.decided.drop_end.Goals as goal

pub returns-in_ok-add_use-in-Dead-clause-stands : goal.returns-in_ok-add_use-in-Dead-clause-stands
returns-in_ok-add_use-in-Dead-clause-stands c items body are flat =
    let flagged = paths_of c.args.flags.now in
    let place = c.args.place in
    let ending : List Stmt = flags_of_uses items body flagged ((Drops, place) ∷ []) in (
      ending,
      c.in_ok-add_use-in-Dead.ensures items body are
          ∙ ap (λ (z : List Stmt). c.args.stmts.now ++ z) (sym (append-nil (flags_of_use items body flagged (Drops, place)))),
      nothing-made (made_of c.args.blocks.now) _
          (λ after. subst (λ (d : Decided). DropEnds items body flagged after d c.args.kind place c.args.next c.args.unwind ending (Term.Goto c.args.next))
          (sym c.in-Dead.is) (refl, refl)),
    )

pub returns-in_ok-add_use-in-Plain-clause-stands : goal.returns-in_ok-add_use-in-Plain-clause-stands
returns-in_ok-add_use-in-Plain-clause-stands c items body are flat =
    let flagged = paths_of c.args.flags.now in
    let place = c.args.place in
    let ending : List Stmt = flags_of_uses items body flagged ((Drops, place) ∷ []) in
    let copy : Place = place in (
      ending,
      c.in_ok-add_use-in-Plain.ensures items body are
          ∙ ap (λ (z : List Stmt). c.args.stmts.now ++ z) (sym (append-nil (flags_of_use items body flagged (Drops, place)))),
      nothing-made (made_of c.args.blocks.now) _
          (λ after. subst (λ (d : Decided). DropEnds items body flagged after d c.args.kind place c.args.next c.args.unwind ending (Term.DropAt copy c.args.next c.args.unwind))
          (sym c.in-Plain.is) (refl, refl)),
    )

pub returns-in_ok-from-in-Planned-clause-stands : goal.returns-in_ok-from-in-Planned-clause-stands
returns-in_ok-from-in-Planned-clause-stands c items body are flat =
    let flagged = paths_of c.args.flags.now in
    let place = c.args.place in
    let from = c.in_ok-from-in-Planned.from in (
      [],
      sym (append-nil c.args.stmts.now),
      so-made (made_of c.args.blocks.now) (made_of c.ladder_end.new.blocks) _ _
          (λ after to. subst (λ (d : Decided). DropEnds items body flagged after d c.args.kind place c.args.next c.args.unwind [] (Term.Goto from))
          (sym c.in-Planned.is) (refl, (from, refl, to)))
          (c.in_ok-from-in-Planned.ensures.stands items body are flat),
    )

pub returns-in_ok-add_use-in-Dead-clause-built : goal.returns-in_ok-add_use-in-Dead-clause-built
returns-in_ok-add_use-in-Dead-clause-built c items body are =
    ap (λ (d : Decided). drop_end items body (paths_of c.args.flags.now) d c.args.kind c.args.place c.args.next
    c.args.unwind (made_of c.args.blocks.now)) (sym c.in-Dead.is)

pub returns-in_ok-add_use-in-Plain-clause-built : goal.returns-in_ok-add_use-in-Plain-clause-built
returns-in_ok-add_use-in-Plain-clause-built c items body are =
    ap (λ (d : Decided). drop_end items body (paths_of c.args.flags.now) d c.args.kind c.args.place c.args.next
    c.args.unwind (made_of c.args.blocks.now)) (sym c.in-Plain.is)

pub returns-in_ok-from-in-Planned-clause-built : goal.returns-in_ok-from-in-Planned-clause-built
returns-in_ok-from-in-Planned-clause-built c items body are =
    ap (λ (b : Begun). made_end (Term.Goto b.at) b.made) (c.in_ok-from-in-Planned.ensures.built items body are)
    ∙ ap (λ (d : Decided). drop_end items body (paths_of c.args.flags.now) d c.args.kind c.args.place c.args.next
    c.args.unwind (made_of c.args.blocks.now)) (sym c.in-Planned.is)
