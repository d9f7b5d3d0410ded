-- What is left of the half on places: what is asked of guards. An index leaves the place of its base, since all calls
-- are in order, whatever bindings of guards are around.
use Rattle.std.proofs.Common.{◌≡◌, inl, ℕ, ◌+◌, ◌≤◌, true, false, ◌++◌, Some, refl, sym, ◌∙◌, subst, arith}
use Rattle.std.specs.Prelude.{slice_get}
use Rattle.store_model.specs.Effects.{Effects}
use Rattle.store_model.specs.Places.Place.{Place}
use Rattle.typed_tree.specs.Nodes.{number_of, nodes_of}
use Rattle.typed_tree.specs.Tree.{Node, node, BodyTree, ProgramTree}
use Rattle.typing_rules.specs.Accesses.{told}
use Rattle.src_meaning.specs.Evaluation.{meaning}
use Rattle.src_meaning.specs.Forms.{Into, LoopsAndGuards}
use Rattle.src_meaning.specs.Locals.OfBody.{cells, reached_cells}
use Rattle.src_meaning.specs.Scopes.{Scopes, Value, Breaks, Continues, Returns, Panics, Run, At, Over}
use Rattle.src_meaning.specs.Shape.{shape}
use Rattle.well_typed.specs.Claim.{Holds}
use Rattle.well_typed.specs.Nodes as typing
use Rattle.well_typed.specs.Places.{Base, Taken}
use Rattle.soundness_values.specs.Laws.{IsSound}
use Rattle.soundness_values.proofs.AlsoTests.{Also}
use Rattle.soundness_values.proofs.Checked.{Checking}
use Rattle.soundness_values.proofs.Facts.{Facts}
use Rattle.soundness.proofs.PassAloneFrame.{Stay}
use Rattle.soundness.proofs.PassAloneLeaves.{LeftAbove}
use Rattle.soundness.proofs.PassAloneSteps.{end, left_above}
use Rattle.soundness.proofs.PassCallsAlone as alone
use Rattle.soundness.proofs.PassCallsHold.{all_steps}
use Rattle.soundness_cells.proofs.PassCellItems as cell_items
use Rattle.soundness_cells.proofs.PassCellPatterns.{Told, Has}
use Rattle.soundness_cells.proofs.PassCellPlaces.{Scoped}
use Rattle.soundness_cells.proofs.PassCells.{Above, NodeIn}
use Rattle.soundness_cells.proofs.PassFacts.{Standpoint, context}
use Rattle.soundness_frame.proofs.PassFrameCalls.{Ends}
use Rattle.soundness_values.proofs.PassHeads.{number_is}
use Rattle.soundness.proofs.PassPlacesCalm.{watching, Calm, Stand, Lost, node_so}
use Rattle.soundness.proofs.PassPlacesEffects.{q}
use Rattle.soundness.proofs.PassPlacesHold.{places_hold}
use Rattle.soundness.proofs.PassPlacesIndex as at_index
use Rattle.soundness.proofs.PassPlacesNodes.{Asked, GuardAsked, Outside}
use Rattle.soundness.proofs.PassPlacesReach.{Led}
use Rattle.soundness.proofs.PassPlacesScope as scope
use Rattle.soundness.proofs.PassPlacesScope.{Stood, Bindings}
use Rattle.soundness_cells.proofs.PassRestSplit.{PlacesHold}
use Rattle.soundness_frame.proofs.PassTold.{ids}
use Rattle.soundness_frame.proofs.PassToldBelow.{node_above}
use Rattle.soundness.proofs.PassWatched.{ends_alike}

own_node : (m : Node) → NodeIn (nodes_of m) m
own_node (node id at ty by form) = inl refl

module _ (p : ProgramTree) (sound : IsSound p) where
  abbrev also : ℕ → Also
  also = alone.also p sound

  abbrev known : Told p.items
  known = cell_items.told p sound.typed

  -- all calls are in order
  calls_left : (n fuel : ℕ) (b : BodyTree) (e : slice_get p.bodies n ≡ Some b) (least : ℕ) →
      LeftAbove p sound n fuel b e least
  calls_left n fuel b e least = left_above p sound (all_steps p sound) n fuel b e
      (end p sound (all_steps p sound) n fuel b e) least
      (let enough : end p sound (all_steps p sound) n fuel b e ≤ least + end p sound (all_steps p sound) n fuel b e
      = omega arith in enough)

  module _ (n fuel : ℕ) (b : BodyTree) (e : slice_get p.bodies n ≡ Some b) (bs : Bindings p.items b) where
    abbrev V : Type 0
    V = Checking Facts

    abbrev r : Effects V
    r = watching p.items b (also n) bs.aliases

    abbrev r0 : Effects V
    r0 = q p.items b (also n)

    ends_more : (J K : V → Type 0) → ((w : V) → J w → K w) → (x : Run V) → Ends J x → Ends K x
    ends_more J K f (At Value S v) h = f v h
    ends_more J K f (At (Breaks loop) S v) h = tt
    ends_more J K f (At (Continues loop) S v) h = tt
    ends_more J K f (At Returns S v) h = tt
    ends_more J K f (At Panics S v) h = tt
    ends_more J K f (Over halt v) h = tt

    -- an index leaves the place of its base
    pub index_left : (base index : Node) → scope.Free p.items b bs (told bs.outer index) → (x : Standpoint) →
        Scoped p.items b x → Stood p.items b bs x (nodes_of base ++ nodes_of index) →
        Holds (typing.typed (context p.items x) Base base) → Holds (typing.typed (context p.items x) Taken index) →
        Has p.items b (reached_cells p.items base) → Has p.items b (cells p.items true index) →
        (around : LoopsAndGuards) → Outside p.items b (also n) known fuel bs (ids x) around → (S : Scopes) (v : V) →
        Calm p.items b (also n) bs.aliases v → Led p.items b (also n) bs.aliases ((shape p.items base).place
        bs.aliases) v → Ends (Led p.items b (also n) bs.aliases ((shape p.items base).place bs.aliases))
        ((meaning p.items r fuel index).evaluate around false (Into (meaning p.items r fuel index).head.id) S v)
    index_left base index free x s g hb hi kb ki around na S v c l =
        ends_more (λ w. Stay p.items b (also n) Off v.facts v.free.cells w × Stand p.items b (also n) bs.aliases
        w.facts) (Led p.items b (also n) bs.aliases ((shape p.items base).place bs.aliases))
        (λ w k. at_index.base_known p sound n fuel b e (number_of base) (calls_left n fuel b e (number_of base))
        bs.outer bs.aliases x base index g.here above hb hi free v.facts w.facts k.0.0.0 k.1 l)
        ((meaning p.items r fuel index).evaluate around false (Into (meaning p.items r fuel index).head.id) S v)
        (ends_alike p.items b (also n) (Stand p.items b (also n) bs.aliases) (Lost p.items b (also n) bs.aliases)
        (Stay p.items b (also n) Off v.facts v.free.cells)
        ((meaning p.items r fuel index).evaluate around false (Into (meaning p.items r fuel index).head.id) S v)
        ((meaning p.items r0 fuel index).evaluate around false (Into (meaning p.items r fuel index).head.id) S v)
        (node_so p.items b (also n) bs.aliases fuel index around false (Into (meaning p.items r fuel index).head.id) S v
        c.1.1)
        (subst (λ key. Ends (Stay p.items b (also n) Off v.facts v.free.cells)
        ((meaning p.items r0 fuel index).evaluate around false (Into key) S v))
        (number_is p.items r0 fuel index ∙ sym (number_is p.items r fuel index))
        (at_index.index_stays p sound n fuel b e (number_of base) (calls_left n fuel b e (number_of base)) bs.outer
        bs.aliases x base index g.here above hb hi free around na.0 na.1 S v c.1.0)))
      where
        above : Above (number_of base) (nodes_of index)
        above = node_above (nodes_of base) (nodes_of index) base g.here.rises (own_node base)

        Off : Place → Type 0
        Off = at_index.Off p sound n fuel b e (number_of base) (calls_left n fuel b e (number_of base)) bs.outer
            bs.aliases x base index g.here above hb hi free

    pub asked_by : GuardAsked p.items b (also n) known fuel bs → Asked p.items b (also n) known fuel bs
    asked_by guards = record {
      index = λ base index free x s g hb hi kb ki around na S v c l.
          index_left base index free x s g hb hi kb ki around na S v c l;
      guard = guards;
    }

  -- what is asked of guards, where none is around
  abbrev pub GuardsAsked : Type 0
  GuardsAsked = (n fuel : ℕ) (b : BodyTree) → slice_get p.bodies n ≡ Some b →
      GuardAsked p.items b (also n) known fuel (scope.no_bindings p.items b)

  pub places_left : GuardsAsked → PlacesHold p sound.typed also
  places_left guards = places_hold p sound also
      (λ n fuel b e. asked_by n fuel b e (scope.no_bindings p.items b) (guards n fuel b e))
