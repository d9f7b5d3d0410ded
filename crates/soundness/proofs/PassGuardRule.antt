-- An arm behind its guard, for the half on places: where the run that watches the parts for which the names of the arm
-- stand fails for want of nothing in the guard, so does the run without watching, and then these names may be bound
-- where the guard holds, and the scrutinee is known where it does not.
use Rattle.std.proofs.Common.{◌≡◌, inl, inr, ℕ, Bool, true, false, ◌∙◌, List, ◌++◌, Option, Some, refl, sym, subst}
use Rattle.std.specs.Prelude.{slice_get}
use Rattle.std.proofs.lemmas.Bool.{false≢true}
use Rattle.store_model.specs.Effects as effects
use Rattle.store_model.specs.Effects.{Halt, Choice, Yes, No, Neither, Effects}
use Rattle.store_model.specs.Places.Place.{Place, whole_local}
use Rattle.typed_tree.specs.Nodes.{number_of, nodes_of}
use Rattle.typed_tree.specs.Tree.{Node, present, BodyTree, ProgramTree}
use Rattle.src_meaning.specs.Evaluation.{meaning}
use Rattle.src_meaning.specs.Forms as forms
use Rattle.src_meaning.specs.Forms.{Meaning, Into, LoopsAndGuards, moved}
use Rattle.src_meaning.specs.Locals.Effects.{place_at}
use Rattle.src_meaning.specs.Locals.OfBody.{local_of, local_ty}
use Rattle.src_meaning.specs.Scopes.{Exit, Value, Breaks, Continues, Returns, Panics, Scopes, Run, At, Over, Does, on_value, choosing, chosen}
use Rattle.src_meaning.specs.Shape.{Aliases, BoundName, shape}
use Rattle.typing_rules.specs.Accesses as rules
use Rattle.typing_rules.specs.Accesses.{AccessPlace, told_guard, bound}
use Rattle.well_typed.specs.Claim.{Holds}
use Rattle.well_typed.specs.Nodes as typing
use Rattle.well_typed.specs.Patterns.{entries_of}
use Rattle.well_typed.specs.Places.{Taken, in_guard}
use Rattle.soundness_values.specs.Laws.{IsSound}
use Rattle.soundness_values.proofs.AlsoTests.{Also}
use Rattle.soundness_values.proofs.Checked.{Checking}
use Rattle.soundness_values.proofs.CheckedBodies.{is_reference_param}
use Rattle.soundness_values.proofs.Facts.{Facts}
use Rattle.soundness_values.proofs.Leaving.{Shown}
use Rattle.soundness.proofs.PassAloneFrame.{Stay}
use Rattle.soundness.proofs.PassAloneRun.{I, Of}
use Rattle.soundness.proofs.PassCallsHold.{all_above}
use Rattle.soundness.proofs.PassCallsAlone as alone
use Rattle.soundness_cells.proofs.PassCellPatterns as items_told
use Rattle.soundness_values.proofs.NoOverlap.{SeenIf}
use Rattle.soundness_cells.proofs.PassCells.{Above}
use Rattle.soundness_cells.proofs.PassFacts.{Standpoint, context, with_names}
use Rattle.soundness_frame.proofs.PassFrameBodies.{any_place}
use Rattle.soundness_frame.proofs.PassKeys.{Keys}
use Rattle.soundness_frame.proofs.PassTold.{ids, Here, Told, StandsFor}
use Rattle.soundness_frame.proofs.PassFrameActs.{AnsweredSo}
use Rattle.soundness_frame.proofs.PassFrameRuns.{MayAt}
use Rattle.soundness.proofs.PassGuardLeaves.{guard_cell, guard_over}
use Rattle.soundness.proofs.PassGuardParts as parts
use Rattle.soundness_values.proofs.PassHeads.{number_is}
use Rattle.soundness_cells.proofs.PassKept.{Answered}
use Rattle.soundness.proofs.PassKnownStill.{known_clear}
use Rattle.soundness.proofs.PassPlacesCalm.{watching, all_known, bounds_known, without_bounds, lost_bounds, Calm, safe}
use Rattle.soundness.proofs.PassPlacesMatch.{Guards}
use Rattle.soundness.proofs.PassPlacesReach.{Kept, KeepsIf, Led}
use Rattle.soundness_cells.proofs.PassRefilled.{not_mark}
use Rattle.soundness_frame.proofs.PassStays.{FactsStay}
use Rattle.soundness.proofs.PassWatched.{Alike, alone_alike, as_watched}
use Rattle.soundness.proofs.PassWatchedFrame.{keeps}
use Rattle.soundness_frame.proofs.PassWithin.{is_among, KeysAround}

module _ (p : ProgramTree) (sound : IsSound p) (n fuel : ℕ) (b : BodyTree) (at : slice_get p.bodies n ≡ Some b)
    (around : LoopsAndGuards) (x : Standpoint) (outer : rules.Aliases) (pattern guard : Node)
    (scrutinee : Option AccessPlace) (place : Place)
    (inner : Here p.items any_place (Of p b) outer around.aliases x (nodes_of pattern ++ nodes_of guard))
    (typed : Holds (typing.typed (context p.items (with_names (in_guard (entries_of pattern)) x)) Taken guard))
    (telling : Told p.items any_place (Of p b) outer
    (told_guard outer scrutinee (bound scrutinee pattern) (present guard)))
    (seen_s : SeenIf scrutinee place) (standing : StandsFor (Of p b).root scrutinee place)
    (below : Keys (λ k. Above k (nodes_of guard)) place)
    (off_around : (d : ℕ) → is_among d x.outside ≡ true → Keys (λ k. k ≡ d → ⊥) place)
    (keys : KeysAround around (ids x)) (aliases : Aliases) where
  abbrev V : Type 0
  V = Checking Facts

  abbrev also : Also
  also = alone.also p sound n

  abbrev r : Effects V
  r = watching p.items b also aliases

  abbrev bounds : List BoundName
  bounds = (shape p.items pattern).bindings place

  abbrev May : Place → Type 0
  May = parts.May p.items b also place

  abbrev Fit : V → Type 0
  Fit v = parts.Fit p.items b also place bounds v.facts

  -- the guard, where the names of its arm stand for parts
  abbrev within_guard : LoopsAndGuards
  within_guard = forms.in_guard bounds around

  abbrev G : Meaning V
  G = meaning p.items r fuel guard

  abbrev GuardDoes : Does V
  GuardDoes = forms.alone p.items r within_guard G (Into G.head.id)

  abbrev Test : effects.Test
  Test = effects.IsTrue (moved G.head.id G.head.id)

  abbrev least : ℕ
  least = number_of pattern

  own_cell : MayAt (local_of p.items b) May (whole_local G.head.id)
  own_cell = subst (λ k. MayAt (local_of p.items b) May (whole_local k)) (sym (number_is p.items r fuel guard))
      (guard_cell p sound n fuel b at around x outer pattern guard scrutinee place inner typed telling seen_s standing
      below off_around keys)

  -- whatever is watched, only what lies off the scrutinee may have changed
  over_so : (watches : Aliases) (sees : Facts → Bool) (S : Scopes) (v : V) →
      ((f : Facts) → FactsStay May v.facts f → sees f ≡ true) → I p.items b also v →
      Shown (λ halt w. sees w.facts ≡ true) (λ exit T w. Stay p.items b also May v.facts v.free.cells w)
      (forms.alone p.items (watching p.items b also watches) within_guard
      (meaning p.items (watching p.items b also watches) fuel guard)
      (Into (meaning p.items (watching p.items b also watches) fuel guard).head.id) S v)
  over_so = guard_over p sound n fuel b at around x outer pattern guard scrutinee place inner typed telling seen_s
      standing below off_around keys

  -- ---- behind the guard

  module _ (f g : Does V) (takes : KeepsIf p.items b also aliases Fit f)
      (leaves : KeepsIf p.items b also aliases (Led p.items b also aliases place) g) (v : V) (fit : Fit v)
      (led : Led p.items b also aliases place v) where
    abbrev Stays : V → Type 0
    Stays = Stay p.items b also May v.facts v.free.cells

    abbrev any_end : Halt → V → Type 0
    any_end halt w = true ≡ true

    fits : (w : V) → Stays w → Fit w
    fits w k = parts.still_fit p.items b also place bounds v.facts w.facts k.0.0
        (parts.clears p.items b also place pattern) fit

    leads : (w : V) → Stays w → Led p.items b also aliases place w
    leads w k = known_clear p.items (local_ty p.items b) (is_reference_param p.items b) v.facts w.facts
        (place_at (local_of p.items b) place) May k.0.0 (record { apart = λ u m. m.0; way = λ u m. m.1 }) led

    answered : (T : Scopes) (o : Choice V) → Answered (not_mark 5) (Calm p.items b also aliases) o →
        AnsweredSo any_end Stays o → Kept p.items b also aliases (chosen o (f T) (g T))
    answered T (Yes w) c k = takes T w c (fits w k)
    answered T (No w) c k = leaves T w c (leads w k)
    answered T (Neither halt w) c k = c

    behind : (x : Run V) → Kept p.items b also aliases x → Shown any_end (λ exit T w. Stays w) x →
        Kept p.items b also aliases (on_value x (choosing (r.choose Test) f g))
    behind (At Value T w) c k = answered T (r.choose Test w)
        ((safe p.items b also aliases).asks (moved G.head.id G.head.id) w c)
        ((keeps p sound n fuel b at aliases least (all_above p sound n fuel b at least) May v.facts v.free.cells
        (λ f. true) (λ f s. refl)).chooses Test w own_cell k)
    behind (At (Breaks loop) T w) c k = c
    behind (At (Continues loop) T w) c k = c
    behind (At Returns T w) c k = c
    behind (At Panics T w) c k = c
    behind (Over halt w) c k = c

    -- what is asked of a guard, as far as it is asked of what it leaves
    guard_kept : (S : Scopes) → I p.items b also v → Kept p.items b also aliases (GuardDoes S v) →
        Kept p.items b also aliases (forms.condition p.items r within_guard G f g S v)
    guard_kept S k c = behind (GuardDoes S v) c (over_so aliases (λ f. true) S v (λ f s. refl) k)

  -- ---- the guard itself, by the run that watches the names of its arm too

  abbrev inside : Aliases
  inside = forms.aliases_with bounds aliases

  abbrev r1 : Effects V
  r1 = watching p.items b also inside

  abbrev G1 : Meaning V
  G1 = meaning p.items r1 fuel guard

  abbrev Any : Facts → Type 0
  Any facts = Unit {0}

  abbrev Gone : Facts → Type 0
  Gone facts = bounds_known p.items b bounds facts ≡ false

  -- that run does not stop for want of these names, so it ends as the other does
  not_stopped : (x s : Run V) → Alike p.items b also Any Gone x s → Kept p.items b also inside x →
      Shown (λ halt w. bounds_known p.items b bounds w.facts ≡ true) (λ exit T w. Unit {0}) x →
      Kept p.items b also aliases s
  not_stopped (At exit T w) s a k o = subst (Kept p.items b also aliases) (sym a.0)
      (k.0, (k.1.0, without_bounds p.items b bounds aliases w.facts k.1.1))
  not_stopped (Over halt w) s (inl e) k o = subst (Kept p.items b also aliases) (sym e) k
  not_stopped (Over halt w) s (inr l) k o = absurd (false≢true (sym l.1 ∙ o))

  any_shown : (over : Halt → V → Type 0) (post : Exit → Scopes → V → Type 0) (x : Run V) → Shown over post x →
      Shown over (λ exit T w. Unit {0}) x
  any_shown over post (At exit T w) h = tt
  any_shown over post (Over halt w) h = h

  pub kept_inside : (S : Scopes) (v : V) → I p.items b also v → Fit v →
      Kept p.items b also inside (forms.alone p.items r1 within_guard G1 (Into G1.head.id) S v) →
      Kept p.items b also aliases (GuardDoes S v)
  kept_inside S v i fit k = not_stopped (forms.alone p.items r1 within_guard G1 (Into G.head.id) S v) (GuardDoes S v)
      (alone_alike p.items b also (all_known p.items b inside) (all_known p.items b aliases) r
      (as_watched p.items b also (all_known p.items b aliases)) Any Gone (without_bounds p.items b bounds aliases)
      (λ f e. tt) (lost_bounds p.items b bounds aliases) fuel guard within_guard (Into G.head.id) S v tt)
      (subst (λ key. Kept p.items b also inside (forms.alone p.items r1 within_guard G1 (Into key) S v)) same_key k)
      (any_shown (λ halt w. bounds_known p.items b bounds w.facts ≡ true)
      (λ exit T w. Stay p.items b also May v.facts v.free.cells w)
      (forms.alone p.items r1 within_guard G1 (Into G.head.id) S v)
      (subst (λ key. Shown (λ halt w. bounds_known p.items b bounds w.facts ≡ true)
      (λ exit T w. Stay p.items b also May v.facts v.free.cells w)
      (forms.alone p.items r1 within_guard G1 (Into key) S v)) same_key
      (over_so inside (bounds_known p.items b bounds) S v
      (λ f s. parts.fit_known p.items b also place bounds f
      (parts.still_fit p.items b also place bounds v.facts f s (parts.clears p.items b also place pattern) fit)) i)))
    where
      same_key : G1.head.id ≡ G.head.id
      same_key = number_is p.items r1 fuel guard ∙ sym (number_is p.items r fuel guard)

  -- so all that the half on places asks of a guard there is that it is kept, where the names of its arm stand for parts
  pub guards_so : (told : items_told.Told p.items) → ((S : Scopes) (v : V) → Calm p.items b also aliases v → Fit v →
      Led p.items b also aliases place v →
      Kept p.items b also inside (forms.alone p.items r1 within_guard G1 (Into G1.head.id) S v)) →
      Guards p.items b also aliases told around place bounds G
  guards_so told kept f g takes leaves S v calm fit led =
      guard_kept f g takes leaves v fit led S calm.1.0 (kept_inside S v calm.1.0 fit (kept S v calm fit led))
