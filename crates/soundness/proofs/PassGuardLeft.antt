-- Guards, one inside another: the names of an arm stand for parts of its scrutinee in its guard, and these are known
-- all the while, since a guard leaves its scrutinee. So the pass for the half on places goes through each guard, and
-- all that it asks of guards holds.
use Rattle.std.proofs.Common.{◌≡◌, ◌⊎◌, inl, inr, ℕ, zero, suc, ◌+◌, ◌<◌, ◌≤◌, ◌==◌, Bool, true, false, List, [], ◌∷◌, ◌++◌, Option, Some, None, if◌then◌else◌, refl, ap, sym, subst, arith}
use Rattle.std.specs.Prelude.{slice_get}
use Rattle.store_model.specs.Effects.{Effects}
use Rattle.store_model.specs.Places.Place.{ToPart, ToField, Place}
use Rattle.typed_tree.specs.Nodes.{number_of, nodes_of}
use Rattle.typed_tree.specs.Tree.{Node, node, present, BodyTree, ProgramTree}
use Rattle.src_meaning.specs.Evaluation.{meaning}
use Rattle.src_meaning.specs.Forms as forms
use Rattle.src_meaning.specs.Forms.{Into, LoopsAndGuards}
use Rattle.src_meaning.specs.Shape.{Aliases, place_of_key, BoundName, extended, shape}
use Rattle.typing_rules.specs.Accesses as rules
use Rattle.typing_rules.specs.Accesses.{AccessPlace, told, told_guard, bound, conflicting, against_guard}
use Rattle.std.specs.List.{filter_map}
use Rattle.well_typed.specs.Patterns.{entries_of}
use Rattle.well_typed.specs.Places.{InScope, Taken, entry_with, in_guard}
use Rattle.soundness_values.specs.Laws.{IsSound}
use Rattle.soundness_values.proofs.AlsoTests.{Also}
use Rattle.soundness_values.proofs.Checked.{Checking}
use Rattle.soundness_values.proofs.Facts.{Facts}
use Rattle.soundness.proofs.PassAloneSteps.{end, below_top}
use Rattle.soundness.proofs.PassCallsAlone as alone
use Rattle.soundness.proofs.PassCallsHold.{all_steps}
use Rattle.soundness_cells.proofs.PassCellItems as cell_items
use Rattle.soundness_cells.proofs.PassCellNames.{guard_names}
use Rattle.soundness_cells.proofs.PassCellPatterns.{Told}
use Rattle.soundness_cells.proofs.PassCellScoped as scoped_by
use Rattle.soundness_cells.proofs.PassCellTaken as taken
use Rattle.soundness_cells.proofs.PassCells.{NodeIn, above_in, node_left}
use Rattle.soundness_cells.proofs.PassFacts.{Standpoint, with_names}
use Rattle.soundness_frame.proofs.PassFrameBodies.{any_place}
use Rattle.soundness.proofs.PassGuardParts.{AllTaken, names_taken, fit_known}
use Rattle.soundness.proofs.PassGuardRule.{guards_so}
use Rattle.soundness.proofs.PassKnownTests.{no_way}
use Rattle.soundness.proofs.PassPlacesCalm.{watching, Calm, safe, with_bounds}
use Rattle.soundness.proofs.PassPlacesForms as pass
use Rattle.soundness.proofs.PassPlacesLeft.{GuardsAsked, asked_by}
use Rattle.soundness.proofs.PassPlacesLooked.{Looked, looked_right}
use Rattle.soundness.proofs.PassPlacesNodes.{Asked, GuardAsked}
use Rattle.soundness.proofs.PassPlacesRules as of_rules
use Rattle.soundness.proofs.PassPlacesScope as scope
use Rattle.soundness.proofs.PassPlacesScope.{Of, Stood, Bindings, Unmet}
use Rattle.soundness_cells.proofs.PassRefilled.{not_mark}
use Rattle.soundness_frame.proofs.PassTold as here
use Rattle.soundness_frame.proofs.PassTold.{Here}
use Rattle.soundness_frame.proofs.PassToldAliases.{alias_with}
use Rattle.soundness_frame.proofs.PassToldBelow.{node_above}
use Rattle.soundness_frame.proofs.PassToldParts as told_parts
use Rattle.soundness_frame.proofs.PassToldPatterns.{bound_named, bound_name}
use Rattle.soundness_frame.proofs.PassToldPlaces.{found_in, marked, still_there, name_entry, is_alias}

own_node : (m : Node) → NodeIn (nodes_of m) m
own_node (node id at ty by form) = inl refl

-- ---- the own local of what a name of an arm takes is no index on its way

unmet_part : (q : Place) (n : ℕ) → Unmet q → Unmet (extended (ToPart n) q)
unmet_part q n u = no_way q.local q.steps (ToPart n) u refl

unmet_field : (q : Place) (v n : ℕ) → Unmet q → Unmet (extended (ToField v n) q)
unmet_field q v n u = no_way q.local q.steps (ToField v n) u refl

module _ (p : ProgramTree) (sound : IsSound p) where
  abbrev also : ℕ → Also
  also = alone.also p sound

  abbrev known : Told p.items
  known = cell_items.told p sound.typed

  abbrev AllUnmet : List BoundName → Type 0
  AllUnmet = AllTaken Unmet p.items unmet_part unmet_field

  unmet_with : (bounds : List BoundName) (aliases : Aliases) → AllUnmet bounds →
      ((key : ℕ) → Unmet (place_of_key key aliases)) →
      (key : ℕ) → Unmet (place_of_key key (forms.aliases_with bounds aliases))
  unmet_with [] aliases a u key = u key
  unmet_with (b ∷ bounds) aliases a u key = by (key == b.key) (unmet_with bounds aliases a.1 u key)
    where
      by : (c : Bool) → Unmet (place_of_key key (forms.aliases_with bounds aliases)) →
          Unmet (if c then b.site.place else place_of_key key (forms.aliases_with bounds aliases))
      by true later = a.0
      by false later = later

  module _ (n fuel : ℕ) (b : BodyTree) (e : slice_get p.bodies n ≡ Some b) where
    abbrev last : ℕ
    last = end p sound (all_steps p sound) n fuel b e

    abbrev Asks : Bindings p.items b → Type 0
    Asks bs = GuardAsked p.items b (also n) known fuel bs

    -- ---- the names of an arm in its guard

    module _ (bs : Bindings p.items b) (pattern guard : Node) (sc : Option AccessPlace) (x : Standpoint)
        (g : Stood p.items b bs x (nodes_of pattern ++ nodes_of guard)) (place : Place)
        (look : Looked p.items b bs x (nodes_of pattern ++ nodes_of guard) sc place) where
      abbrev bounds : List BoundName
      bounds = (shape p.items pattern).bindings place

      abbrev outer : rules.Aliases
      outer = rules.aliases_with (bound sc pattern) bs.outer

      abbrev aliases : Aliases
      aliases = forms.aliases_with bounds bs.aliases

      abbrev inner : Standpoint
      inner = with_names (in_guard (entries_of pattern)) x

      behind : Looked p.items b bs x (nodes_of guard) sc place
      behind = looked_right p.items b bs x (nodes_of pattern) (nodes_of guard) sc place look

      inside : Here p.items any_place (Of p.items b) outer aliases inner (nodes_of guard)
      inside = told_parts.here_guard p.items any_place (Of p.items b) scope.nothing bs.outer bs.aliases x pattern sc
          place (nodes_of guard) look.seen look.stands behind.below look.off g.here

      name_marked : (key : ℕ) (y : InScope) → entry_with key inner.entries ≡ Some y → is_alias outer key ≡ true →
          y.is_in_guard ≡ true
      name_marked key y f u = by (alias_with (bound sc pattern) bs.outer key u)
          (found_in key (in_guard (entries_of pattern)) x.entries y f)
        where
          by : (rules.is_bound (Some key) (bound sc pattern) ≡ true) ⊎ (is_alias bs.outer key ≡ true) →
              (entry_with key (in_guard (entries_of pattern)) ≡ Some y)
              ⊎ ((entry_with key (in_guard (entries_of pattern)) ≡ None) × (entry_with key x.entries ≡ Some y)) →
              y.is_in_guard ≡ true
          by a (inl h) = marked key (entries_of pattern) y h
          by (inl a) (inr h) = let t = name_entry (nodes_of pattern) key
              (bound_name (nodes_of pattern) (bound sc pattern) key (bound_named pattern sc) a) in
              absurd (still_there key (entries_of pattern) t.0 t.1 h.0)
          by (inr a) (inr h) = g.marked key y h.1 a

      -- what is told of the guard replaces none of these names
      inner_free : scope.Free p.items b bs (told_guard bs.outer sc (bound sc pattern) (present guard)) →
          here.Told p.items any_place (Of p.items b) outer (told outer guard)
      inner_free free = (
        told_parts.guard_permits p.items any_place (Of p.items b) scope.nothing sc (bound sc pattern) bs.outer
            (told outer guard).accesses
            (told_parts.none_against p.items any_place (Of p.items b) scope.nothing sc (bound sc pattern)
            (told outer guard).accesses
            (here.told_right p.items any_place (Of p.items b) bs.outer (told outer guard)
            (conflicting (filter_map (against_guard sc (bound sc pattern)) (told outer guard).accesses)) free).1) own.0,
        own.1,
      )
        where
          own : here.Told p.items any_place (Of p.items b) bs.outer (told outer guard)
          own = here.told_left p.items any_place (Of p.items b) bs.outer (told outer guard)
              (conflicting (filter_map (against_guard sc (bound sc pattern)) (told outer guard).accesses)) free

    -- what is asked of a guard, where it holds of those inside
    guard_by : (bs : Bindings p.items b) → ((least : ℕ) → bs.least ≤ least → (later : Bindings p.items b) →
        later.least ≡ suc least → least < last → Asks later) → Asks bs
    guard_by bs deeper pattern guard sc free x m want s plain listed g hp hg kp kg place look ok moved lies around na =
        guards_so p sound n fuel b e around x bs.outer pattern guard sc place
        (subst (λ l. Here p.items any_place (Of p.items b) bs.outer l x (nodes_of pattern ++ nodes_of guard)) (sym na.0)
        g.here) hg free look.seen look.stands
        (looked_right p.items b bs x (nodes_of pattern) (nodes_of guard) sc place look).below look.off na.1 bs.aliases
        known
        (λ S v calm fit led. of_rules.alone_kept p.items r1 (not_mark 5)
        (Calm p.items b (also n) later.aliases) (safe p.items b (also n) later.aliases) within
        (meaning p.items r1 fuel guard) (Into (meaning p.items r1 fuel guard).head.id)
        (pass.own_kept p.items b (also n) known fuel later asked guard
        (inner_free bs pattern guard sc x g place look free)
        (with_names (in_guard (entries_of pattern)) x)
        (scoped_by.scoped_guard p.items b known pattern m want x hp (inl plain) listed kp s) stood Taken tt hg kg within
        (ap (forms.aliases_with bounds_) na.0, na.1) true) S v (
          calm.0,
          (
            calm.1.0,
            with_bounds p.items b bounds_ bs.aliases v.facts
                (fit_known p.items b (also n) place bounds_ v.facts fit) calm.1.1,
          ),
        ))
      where
        bounds_ : List BoundName
        bounds_ = (shape p.items pattern).bindings place

        within : LoopsAndGuards
        within = forms.in_guard bounds_ around

        later : Bindings p.items b
        later = record {
          outer = rules.aliases_with (bound sc pattern) bs.outer;
          aliases = forms.aliases_with bounds_ bs.aliases;
          least = suc (number_of pattern);
          names = guard_names p.items b bounds_ bs.aliases
              (taken.taken_placed p.items b bounds_
              (taken.names_taken p.items b known pattern m want hp (λ e. plain) kp place ok)) bs.names;
          unmet = unmet_with bounds_ bs.aliases (names_taken Unmet p.items unmet_part unmet_field pattern place
              look.unmet) bs.unmet;
        }

        asked : Asked p.items b (also n) known fuel later
        asked = asked_by p sound n fuel b e later (deeper (number_of pattern)
            (g.above pattern (node_left (nodes_of pattern) (nodes_of guard) pattern (own_node pattern))) later refl
            (below_top (nodes_of b.block) pattern
            (g.here.all pattern (node_left (nodes_of pattern) (nodes_of guard) pattern (own_node pattern)))))

        r1 : Effects (Checking Facts)
        r1 = watching p.items b (also n) later.aliases

        stood : Stood p.items b later (with_names (in_guard (entries_of pattern)) x) (nodes_of guard)
        stood = record {
          here = inside bs pattern guard sc x g place look;
          marked = name_marked bs pattern guard sc x g place look;
          above = λ j i. let less : number_of pattern < number_of j = above_in (number_of pattern) (nodes_of guard) j
              (node_above (nodes_of pattern) (nodes_of guard) pattern g.here.rises (own_node pattern)) i in
              let enough : suc (number_of pattern) ≤ number_of j = omega (less, arith) in enough;
        }

    -- each guard inside another has higher numbers, and there are but so many
    guards_at : (k : ℕ) (bs : Bindings p.items b) → last ≤ bs.least + k → Asks bs
    guards_at zero bs h = guard_by bs (λ least low later same less.
        let none : last ≤ bs.least + 0 = h in
        let high : bs.least ≤ least = low in
        let small : least < last = less in absurd (let never : ⊥ = omega (none, high, small, arith) in never))
    guards_at (suc k) bs h = guard_by bs (λ least low later same less. guards_at k later
        (let more : last ≤ bs.least + suc k = h in
        let high : bs.least ≤ least = low in
        let next : later.least ≡ suc least = same in
        let enough : last ≤ later.least + k = omega (more, high, next, arith) in enough))

  -- so all guards are kept
  pub guards_kept : GuardsAsked p sound
  guards_kept n fuel b e = guards_at n fuel b e (last n fuel b e) (scope.no_bindings p.items b)
      (let enough : last n fuel b e ≤ 0 + last n fuel b e = omega arith in enough)
