-- What is made for the end of a block leads back: to what was made earlier, or to where the block led.
use Rattle.std.proofs.Common.{◌≡◌, ◌∷◌, [], ℕ, false, List, Option, Some, map, refl, ap}
use Rattle.mir_ty.specs.ItemTable.{ItemTable}
use Rattle.store_model.specs.Places.Place as plain
use Rattle.cfg_graph.specs.declared.graph.Body.{Body}
use Rattle.cfg_graph.specs.declared.graph.Kind.{Kind}
use Rattle.cfg_graph.specs.declared.place.Place.{Place}
use Rattle.cfg_graph.specs.declared.statement.Stmt.{Stmt}
use Rattle.cfg_graph.specs.declared.terminator.Term.{Term}
use Rattle.cfg_graph.specs.declared.terminator.Unwind.{Unwind}
use Rattle.cfg_graph.specs.Edges.{is_turn_kind}
use Rattle.cfg_graph.specs.Uses.{Stores, stored_by_term}
use Rattle.drop_elaborate.specs.Build.{Made}
use Rattle.drop_elaborate.specs.Elaborated.{cleared, result_flags, next_of, flags_of_uses}
use Rattle.drop_values.specs.Plan.{Plan}
use Rattle.drop_blocks.specs.Ladders.{ladder_of, with_one}
use Rattle.drop_blocks.specs.View.{plan_in}
use Rattle.drop_ends.specs.Edges.{edge_to}
use Rattle.drop_ends.specs.Ends.{twin_of, ladder_end, term_end, drop_end, end_by}
use Rattle.drop_ends.specs.Leads.{LeadsFrom, TwinLeads, TermLeads, ByUnwind, ByDrop, ByTerm}
use Rattle.drop_ends.specs.declared.decided.Decided.{Decided}
use Rattle.drop_ends.proofs.Leading.{led-none}
use Rattle.drop_ends.proofs.LeadingEnds.{edge-leads, twin-block, twin-resume, ladder-leads, goto-leads, dead-leads, plain-leads, drop-leads-so, term-leads}
use Rattle.std.proofs.lemmas.Option.{none-some}

module _ (items : ItemTable) (body : Body) (flagged : List plain.Place) where
  pub end-other : (decided : Decided) (kind : Kind) (raw : Term) (made : Made) →
      ((place : Place) (next : ℕ) (unwind : Unwind) → raw ≡ Term.DropAt place next unwind → ⊥) →
      term_end items body flagged kind raw made ≡ end_by items body flagged decided kind raw made
  end-other decided kind (Term.Goto to) made differs = refl
  end-other decided kind (Term.If on there to) made differs = refl
  end-other decided kind (Term.Case on variant there to) made differs = refl
  end-other decided kind (Term.Math to op left right next unwind) made differs = refl
  end-other decided kind (Term.Negate to of next unwind) made differs = refl
  end-other decided kind (Term.Bounds index count next unwind) made differs = refl
  end-other decided kind (Term.Call to callee args next unwind) made differs = refl
  end-other decided kind (Term.Virtual to trait_no method args next unwind) made differs = refl
  end-other decided kind (Term.Ask to next unwind) made differs = refl
  end-other decided kind (Term.DropAt place next unwind) made differs = absurd (differs place next unwind refl)
  end-other decided kind (Term.Panic why unwind) made differs = refl
  end-other decided kind Term.Return made differs = refl
  end-other decided kind Term.Resume made differs = refl

  twin-leads : (place : Place) (unwind : Unwind) (made : Made) →
      TwinLeads (ByUnwind unwind) made (twin_of items body flagged place unwind made).made
      (twin_of items body flagged place unwind made).twin
  twin-leads place (Unwind.Block block) made =
      let stmts = cleared items body flagged body place in
      twin-block Kind.Cleanup stmts block (Unwind.Block block) made (edge_to Kind.Cleanup stmts block made)
      (Some (edge_to Kind.Cleanup stmts block made).at) refl refl refl refl
  twin-leads place Unwind.Resume made =
      twin-resume Unwind.Resume [] made (with_one Kind.Cleanup [] Term.Resume made)
      (Some (with_one Kind.Cleanup [] Term.Resume made).at) refl refl
  twin-leads place Unwind.Abort made = (led-none (ByUnwind Unwind.Abort) made, λ t e. absurd (none-some t e))

  module _ (kind : Kind) (flat : is_turn_kind kind ≡ false) where
    ladder-end-leads : (plan : Plan) (place : Place) (next : ℕ) (unwind : Unwind) (made : Made) →
        LeadsFrom (ByDrop next unwind) made (ladder_end items body flagged plan kind place next unwind made).made
        (ladder_end items body flagged plan kind place next unwind made).at
    ladder-end-leads plan place next unwind made =
        let stmts = cleared items body flagged body place in
        let calm = edge_to kind stmts next made in
        let over = twin_of items body flagged place unwind calm.made in
        ladder-leads kind flat plan place next unwind made calm.made over.made calm.at over.twin
        (ladder_of kind plan place (record { calm = calm.at; twin = over.twin }) over.made)
        (edge-leads kind stmts next made calm refl flat) (twin-leads place unwind calm.made) refl

    term-end-leads : (term : Term) (made : Made) →
        TermLeads (ByTerm term) made (term_end items body flagged kind term made).made
        (term_end items body flagged kind term made).term
    term-end-leads term made =
        let stmts = result_flags items body flagged body term in
        let edge = edge_to kind stmts (next_of items body flagged body term) made in
        term-leads items body flagged body made edge.made edge.at kind term stmts flat
        (λ none. ap (λ (l : List Place). flags_of_uses items body flagged (map (λ place. (Stores, place)) l)) none) refl

    drop-end-leads : (decided : Decided) (place : Place) (next : ℕ) (unwind : Unwind) (made : Made) →
        TermLeads (ByDrop next unwind) made (drop_end items body flagged decided kind place next unwind made).made
        (drop_end items body flagged decided kind place next unwind made).term
    drop-end-leads Decided.Dead place next unwind made = dead-leads next unwind made
    drop-end-leads Decided.Plain place next unwind made = plain-leads place next unwind made
    drop-end-leads (Decided.Planned plan) place next unwind made =
        let begun = ladder_end items body flagged (plan_in plan) kind place next unwind made in
        goto-leads (ByDrop next unwind) made begun.made begun.at (ladder-end-leads (plan_in plan) place next unwind made)

    pub end-leads : (decided : Decided) (term : Term) (made : Made) →
        TermLeads (ByTerm term) made (end_by items body flagged decided kind term made).made
        (end_by items body flagged decided kind term made).term
    end-leads decided (Term.DropAt place next unwind) made =
        let end = drop_end items body flagged decided kind place next unwind made in
        drop-leads-so place next unwind made end.made end.term (drop-end-leads decided place next unwind made)
    end-leads decided (Term.Goto to) made = term-end-leads (Term.Goto to) made
    end-leads decided (Term.If on there to) made = term-end-leads (Term.If on there to) made
    end-leads decided (Term.Case on variant there to) made = term-end-leads (Term.Case on variant there to) made
    end-leads decided (Term.Math to op left right next unwind) made = term-end-leads (Term.Math to op left right next unwind) made
    end-leads decided (Term.Negate to of next unwind) made = term-end-leads (Term.Negate to of next unwind) made
    end-leads decided (Term.Bounds index count next unwind) made = term-end-leads (Term.Bounds index count next unwind) made
    end-leads decided (Term.Call to callee args next unwind) made = term-end-leads (Term.Call to callee args next unwind) made
    end-leads decided (Term.Virtual to trait_no method args next unwind) made =
        term-end-leads (Term.Virtual to trait_no method args next unwind) made
    end-leads decided (Term.Ask to next unwind) made = term-end-leads (Term.Ask to next unwind) made
    end-leads decided (Term.Panic why unwind) made = term-end-leads (Term.Panic why unwind) made
    end-leads decided Term.Return made = term-end-leads Term.Return made
    end-leads decided Term.Resume made = term-end-leads Term.Resume made
