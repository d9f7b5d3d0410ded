-- What is made for the end of a block, exactly: the blocks of an edge, of a ladder with its ends, and the terminator.
use Rattle.std.specs.Prelude.{ℕ, List, [], Option, Some, None}
use Rattle.mir_ty.specs.ItemTable.{ItemTable}
use Rattle.store_model.specs.Places.Place as plain
use Rattle.cfg_graph.specs.declared.graph.Body.{Body}
use Rattle.cfg_graph.specs.declared.graph.Kind.{Kind}
use Rattle.cfg_graph.specs.declared.place.Place.{Place}
use Rattle.cfg_graph.specs.declared.terminator.Term.{Term}
use Rattle.cfg_graph.specs.declared.terminator.Unwind.{Unwind}
use Rattle.drop_elaborate.specs.Build.{Made, Begun}
use Rattle.drop_elaborate.specs.Elaborated.{cleared, next_of, onward_to, result_flags}
use Rattle.drop_values.specs.Plan.{Plan}
use Rattle.drop_blocks.specs.Ladders.{Built, ladder_of, with_one}
use Rattle.drop_blocks.specs.View.{plan_in}
use Rattle.drop_ends.specs.Edges.{edge_to}
use Rattle.drop_ends.specs.declared.decided.Decided.{Decided}

-- where a panic goes on, if it does, and a terminator, each with the blocks so far
pub record TwinMade : Type 0 where
  pub twin : Option ℕ
  pub made : Made

pub record EndMade : Type 0 where
  pub term : Term
  pub made : Made

abbrev pub made_twin : Option ℕ → Made → TwinMade
made_twin twin made = record { twin = twin; made = made }

abbrev pub made_end : Term → Made → EndMade
made_end term made = record { term = term; made = made }

-- where a ladder begins
abbrev pub begins : Built → Begun
begins built = record { at = built.chains.calm; made = built.made }

module _ (items : ItemTable) (body : Body) (flagged : List plain.Place) where
  -- where a panic in the ladder of a drop goes on
  abbrev pub twin_of : Place → Unwind → Made → TwinMade
  twin_of place (Unwind.Block block) made =
      let edge = edge_to Kind.Cleanup (cleared items body flagged body place) block made in
      made_twin (Some edge.at) edge.made
  twin_of place Unwind.Resume made =
      let one = with_one Kind.Cleanup [] Term.Resume made in made_twin (Some one.at) one.made
  twin_of place Unwind.Abort made = made_twin None made

  -- the ladder of a drop, before its ends
  abbrev pub ladder_end : Plan → Kind → Place → (next : ℕ) → Unwind → Made → Begun
  ladder_end plan kind place next unwind made =
      let calm = edge_to kind (cleared items body flagged body place) next made in
      let over = twin_of place unwind calm.made in
      begins (ladder_of kind plan place (record { calm = calm.at; twin = over.twin }) over.made)

  -- a terminator that is no drop
  abbrev pub term_end : Kind → Term → Made → EndMade
  term_end kind term made =
      let edge = edge_to kind (result_flags items body flagged body term) (next_of items body flagged body term) made in
      made_end (onward_to items body flagged body edge.at term) edge.made

  abbrev pub drop_end : Decided → Kind → Place → (next : ℕ) → Unwind → Made → EndMade
  drop_end Decided.Dead kind place next unwind made = made_end (Term.Goto next) made
  drop_end Decided.Plain kind place next unwind made = made_end (Term.DropAt place next unwind) made
  drop_end (Decided.Planned plan) kind place next unwind made =
      let begun = ladder_end (plan_in plan) kind place next unwind made in made_end (Term.Goto begun.at) begun.made

  -- any terminator, by what is decided of the drop that it is
  abbrev pub end_by : Decided → Kind → Term → Made → EndMade
  end_by decided kind (Term.DropAt place next unwind) made = drop_end decided kind place next unwind made
  end_by decided kind term made = term_end kind term made
