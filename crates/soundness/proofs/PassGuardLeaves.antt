-- A guard leaves the scrutinee of its match: neither its cells nor the places of which the rule of borrows tells that
-- it changes them overlap the scrutinee's place, and none is an index on the way. So while the guard is evaluated
-- only what lies off that place changes, whatever the run watches.
use Rattle.std.proofs.Common.{◌≡◌, inl, inr, ℕ, ◌==◌, ◌&&◌, ◌||◌, Bool, true, false, List, [], ◌∷◌, ◌++◌, map, Option, Some, None, if◌then◌else◌, refl, ap, sym, subst}
use Rattle.std.specs.Prelude.{slice_get}
use Rattle.std.specs.List.{filter_map}
use Rattle.std.proofs.lemmas.Bool.{false≢true}
use Rattle.std.proofs.lemmas.Option.{none-some}
use Rattle.mir_base.specs.declared.place_in_text.Pos.{Pos}
use Rattle.store_model.specs.Places.Place.{Place, Step, whole_local}
use Rattle.typed_tree.specs.Nodes.{number_of, nodes_of}
use Rattle.typed_tree.specs.Tree.{Node, node, Form, present, BodyTree, ProgramTree}
use Rattle.src_meaning.specs.Evaluation.{meaning}
use Rattle.src_meaning.specs.Forms as forms
use Rattle.src_meaning.specs.Forms.{Destination, Into, Coerced, LoopsAndGuards, loop_destination}
use Rattle.src_meaning.specs.Locals.Effects.{place_at, step_at}
use Rattle.src_meaning.specs.Locals.OfBody.{local_of, local_keys}
use Rattle.src_meaning.specs.Scopes.{Scopes}
use Rattle.src_meaning.specs.Shape as shapes
use Rattle.src_meaning.specs.Shape.{shape}
use Rattle.typing_rules.specs.Accesses as rules
use Rattle.typing_rules.specs.Accesses.{AccessPlace, Accessed, CollectedAccesses, told, told_guard, bound, changes, replaces, begin_alike, against_guard, conflicting}
use Rattle.well_typed.specs.Claim.{Holds}
use Rattle.well_typed.specs.Nodes as typing
use Rattle.well_typed.specs.Patterns.{entries_of}
use Rattle.well_typed.specs.Places.{Taken, in_guard}
use Rattle.soundness_values.specs.Laws.{IsSound}
use Rattle.soundness_values.proofs.AlsoTests.{Also}
use Rattle.soundness_values.proofs.Checked.{Checking}
use Rattle.soundness_values.proofs.Facts.{Facts, takes_index}
use Rattle.soundness_values.proofs.Leaving.{Shown}
use Rattle.soundness_values.proofs.NoOverlap.{Seen, SeenIf, is_seen, seen}
use Rattle.soundness.proofs.PassAloneBefore.{SeenOff, within_so}
use Rattle.soundness.proofs.PassAloneFrame.{Stay}
use Rattle.soundness.proofs.PassAloneKeys.{other_keys}
use Rattle.soundness.proofs.PassAloneRun.{I, Of}
use Rattle.soundness.proofs.PassBorrowApart.{no_index}
use Rattle.soundness.proofs.PassCallsHold.{all_above}
use Rattle.soundness.proofs.PassCallsAlone as alone
use Rattle.soundness_cells.proofs.PassCells.{Above, NodeIn}
use Rattle.soundness_frame.proofs.PassConflicts.{EachAccess}
use Rattle.soundness_cells.proofs.PassFacts.{Standpoint, context, with_names}
use Rattle.soundness_frame.proofs.PassFrameActs.{DestSo}
use Rattle.soundness_frame.proofs.PassFrameBodies.{any_place}
use Rattle.soundness_frame.proofs.PassFrameCells.{cells_same}
use Rattle.soundness_frame.proofs.PassFrameRuns.{MayAt}
use Rattle.soundness_frame.proofs.PassKeys.{Keys, KeysIn, keys_in_more}
use Rattle.soundness.proofs.PassPlacesCalm.{watching}
use Rattle.soundness_frame.proofs.PassPlacesApart.{locals_differ, begin_apart}
use Rattle.soundness_frame.proofs.PassStays.{FactsStay, stay_same}
use Rattle.soundness_frame.proofs.PassTold as here
use Rattle.soundness_frame.proofs.PassTold.{ids, Here, IfRoot, Told, RootIf, StandsFor}
use Rattle.soundness_frame.proofs.PassToldBelow.{node_above}
use Rattle.soundness_frame.proofs.PassToldParts as told_parts
use Rattle.soundness_frame.proofs.PassToldParts.{NotAgainst}
use Rattle.soundness_frame.proofs.PassToldPlaces.{AllOwned, MaySeen}
use Rattle.soundness.proofs.PassWatchedFrame.{shown_alone}
use Rattle.soundness_frame.proofs.PassWithin.{Outer, is_among, DestIn, KeysAround, DestsAround}

not_over : (c o r : Bool) (from : Pos) → (if (c && o) || r then Some from else None) ≡ None → c ≡ true → o ≡ false
not_over c false r from e h = refl
not_over true true r from e h = absurd (none-some from (sym e))
not_over false true r from e h = absurd (false≢true h)

own_node : (m : Node) → NodeIn (nodes_of m) m
own_node (node id at ty by form) = inl refl

-- nothing is said of forms
abbrev nothing : shapes.Aliases → Outer → ℕ → Form → Type 0
nothing places loops id form = Unit {0}

-- what does not overlap a place, and is no index on the way
abbrev pub OffOf : (ℕ → ℕ) → Place → Place → Type 0
OffOf local place q = (((place_at local place).local == q.local
    && begin_alike (seen (place_at local place).steps) (seen q.steps)) ≡ false)
    × (takes_index q.local (place_at local place).steps ≡ false)

module _ (p : ProgramTree) (sound : IsSound p) (n fuel : ℕ) (b : BodyTree) (at : slice_get p.bodies n ≡ Some b)
    (around : LoopsAndGuards) (x : Standpoint) (outer : rules.Aliases) (pattern guard : Node)
    (scrutinee : Option AccessPlace) (place : Place)
    (inner : Here p.items any_place (Of p b) outer around.aliases x (nodes_of pattern ++ nodes_of guard))
    (typed : Holds (typing.typed (context p.items (with_names (in_guard (entries_of pattern)) x)) Taken guard))
    (telling : Told p.items any_place (Of p b) outer
    (told_guard outer scrutinee (bound scrutinee pattern) (present guard)))
    (seen_s : SeenIf scrutinee place) (standing : StandsFor (Of p b).root scrutinee place)
    (below : Keys (λ k. Above k (nodes_of guard)) place)
    (off_around : (d : ℕ) → is_among d x.outside ≡ true → Keys (λ k. k ≡ d → ⊥) place)
    (keys : KeysAround around (ids x)) where
  abbrev also : Also
  also = alone.also p sound n

  abbrev local : ℕ → ℕ
  local = local_of p.items b

  abbrev OffPlace : Place → Type 0
  OffPlace = OffOf local place

  -- ---- cells with other keys

  off_key : (key : ℕ) (steps : List Step) → Keys (λ k. k ≡ key → ⊥) place →
      MayAt local OffPlace (record { local = key; steps = steps })
  off_key key steps k = (
    ap (λ c. c && begin_alike (seen (map (step_at local) place.steps)) (seen (map (step_at local) steps)))
        (locals_differ (local_keys p.items b) place.local key (λ e. absurd (k.0 e))),
    no_index (local_keys p.items b) key place.steps k.1,
  )

  cells : (ns : List Node) → ((m : Node) → NodeIn ns m → NodeIn (nodes_of guard) m) →
      AllOwned p.items (MayAt local OffPlace) ns
  cells [] f = tt
  cells (m ∷ ns) f = (
    λ steps. off_key (number_of m) steps (other_keys (nodes_of guard) m place (f m (inl refl)) below),
    cells ns (λ j i. f j (inr i)),
  )

  -- what the rule tells of the guard
  seen_off : (bounds : List (ℕ × Accessed)) (l : List Accessed) → NotAgainst p.items any_place (Of p b) nothing
      scrutinee
      bounds l → EachAccess (SeenOff p sound n fuel b at (MayAt local OffPlace)) l
  seen_off bounds [] k = tt
  seen_off bounds (y ∷ l) k = (λ c. by_place y.place refl c, seen_off bounds l k.1)
    where
      way : (u : Place) → (Of p b).root u.local → KeysIn (λ j. j ≡ u.local → ⊥) place.steps
      way u r = keys_in_more (λ j. (Of p b).root j → ⊥) (λ j. j ≡ u.local → ⊥)
          (λ j none e. none (subst (Of p b).root (sym e) r)) place.steps standing.1

      off : (d : AccessPlace) (u : Place) → Seen d u → (Of p b).root u.local → (o : Option AccessPlace) →
          SeenIf o place → RootIf (Of p b).root o place.local → rules.overlap_if_any o (Some d) ≡ false →
          MayAt local OffPlace u
      off d u t r None f none v = (
        ap (λ c. c && begin_alike (seen (map (step_at local) place.steps)) (seen (map (step_at local) u.steps)))
            (locals_differ (local_keys p.items b) place.local u.local
            (λ same. absurd (none (subst (Of p b).root (sym same) r)))),
        no_index (local_keys p.items b) u.local place.steps (way u r),
      )
      off d u t r (Some a) (is_seen _ _ f) root v = (
        begin_apart (local_keys p.items b) a d place u f t v,
        no_index (local_keys p.items b) u.local place.steps
            (way u r),
      )

      by_place : (o : Option AccessPlace) → y.place ≡ o → changes y.access ≡ true →
          MaySeen p.items (IfRoot p.items (MayAt local OffPlace) (Of p b)) o
      by_place None e c = tt
      by_place (Some d) e c = λ u t r. off d u t r scrutinee seen_s standing.0
          (subst (λ o. rules.overlap_if_any scrutinee o ≡ false) e
          (not_over (changes y.access) (rules.overlap_if_any scrutinee y.place)
          (replaces y.access && rules.is_bound y.root bounds) y.at k.0 c))

  -- ---- the cells around

  dest_around : (to : Destination) → DestIn x.outside to → DestSo (MayAt local OffPlace) (MayAt local OffPlace) to
  dest_around (Into key) k = off_key key [] (off_around key k)
  dest_around (Coerced key trait_no to) k = (off_key key [] (off_around key k.0), off_key to [] (off_around to k.1))

  all_around : DestsAround (MayAt local OffPlace) (MayAt local OffPlace) around (ids x)
  all_around = (
    dest_around around.answer keys.0,
    λ loop i. dest_around (loop_destination loop around.loops) (keys.1 loop i),
  )

  abbrev bounds : List (ℕ × Accessed)
  bounds = bound scrutinee pattern

  abbrev aliases : rules.Aliases
  aliases = rules.aliases_with bounds outer

  -- the names of the arm stand for parts of the scrutinee
  abbrev pub guarding : LoopsAndGuards
  guarding = forms.in_guard ((shape p.items pattern).bindings place) around

  abbrev inner_told : CollectedAccesses
  inner_told = told aliases guard

  against : NotAgainst p.items any_place (Of p b) nothing scrutinee bounds inner_told.accesses
  against = told_parts.none_against p.items any_place (Of p b) nothing scrutinee bounds inner_told.accesses
      (here.told_right p.items any_place (Of p b) outer inner_told
      (conflicting (filter_map (against_guard scrutinee bounds) inner_told.accesses)) telling).1

  own : Told p.items any_place (Of p b) outer inner_told
  own = here.told_left p.items any_place (Of p b) outer inner_told
      (conflicting (filter_map (against_guard scrutinee bounds) inner_told.accesses)) telling

  abbrev least : ℕ
  least = number_of pattern

  above : Above least (nodes_of guard)
  above = node_above (nodes_of pattern) (nodes_of guard) pattern inner.rises (own_node pattern)

  -- its own cell is none of those
  pub guard_cell : MayAt local OffPlace (whole_local (number_of guard))
  guard_cell = off_key (number_of guard) [] (other_keys (nodes_of guard) guard place (own_node guard) below)

  -- whatever is watched and seen: only what lies off the scrutinee may have changed, and what that keeps known is seen
  pub guard_over : (watches : shapes.Aliases) (sees : Facts → Bool) (S : Scopes) (v : Checking Facts) →
      ((f : Facts) → FactsStay OffPlace v.facts f → sees f ≡ true) → I p.items b also v →
      Shown (λ halt w. sees w.facts ≡ true) (λ exit T w. Stay p.items b also OffPlace v.facts v.free.cells w)
      (forms.alone p.items (watching p.items b also watches) guarding
      (meaning p.items (watching p.items b also watches) fuel guard)
      (Into (meaning p.items (watching p.items b also watches) fuel guard).head.id) S v)
  guard_over watches sees S v seen k = shown_alone p sound n fuel b at watches least
      (all_above p sound n fuel b at least) OffPlace v.facts v.free.cells sees seen guard guarding (ids x)
      (all_around, keys)
      (within_so p sound n fuel b at least (MayAt local OffPlace) guard Taken aliases guarding.aliases
      (with_names (in_guard (entries_of pattern)) x) tt
      (told_parts.here_guard p.items any_place (Of p b) nothing outer around.aliases x pattern scrutinee place
      (nodes_of guard) seen_s standing below off_around inner)
      (cells (nodes_of guard) (λ m j. j)) above typed
      (seen_off bounds inner_told.accesses against) (
        told_parts.guard_permits p.items any_place (Of p b) nothing scrutinee bounds outer inner_told.accesses
            against own.0,
        own.1,
      )) S v ((stay_same OffPlace v.facts, cells_same OffPlace v.free.cells), k)
