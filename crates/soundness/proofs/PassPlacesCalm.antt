-- The run for the half on places, where bindings of guards stand for parts of scrutinees: it stops where one of these
-- parts is known no more. So between two effects no place waits, all references were made by borrows of the block, and
-- all these parts are known; effects that touch no place fail for want of nothing.
use Rattle.std.proofs.Common.{◌≡◌, ℕ, ◌==◌, ◌&&◌, Bool, true, false, List, [], ◌∷◌, None, if◌then◌else◌, refl, ap, sym, ◌∙◌}
use Rattle.std.proofs.Math.Path.{fun_ext}
use Rattle.std.proofs.lemmas.Bool.{false≢true}
use Rattle.std.specs.Cmp.Derive.{both_true}
use Rattle.mir_ty.specs.ItemTable.{ItemTable}
use Rattle.store_model.specs.Effects as effects
use Rattle.store_model.specs.Effects.{EffectSite, Action, Test, Mode, Halt, Stuck, Out, Go, Unwind, Halts, Choice, Yes, No, Neither, Effects}
use Rattle.store_model.specs.Places.Place.{Place}
use Rattle.typed_tree.specs.Tree.{Node, BodyTree}
use Rattle.src_meaning.specs.Evaluation.{meaning}
use Rattle.src_meaning.specs.Forms as forms
use Rattle.src_meaning.specs.Forms.{Destination, LoopsAndGuards, aliases_with}
use Rattle.src_meaning.specs.Locals.Effects.{action_at, place_at}
use Rattle.src_meaning.specs.Locals.OfBody.{local_of, local_ty}
use Rattle.src_meaning.specs.Scopes.{Scope, Exit, Value, Breaks, Continues, Returns, Panics, Scopes, Run, At, Over, on_value, entry_site}
use Rattle.src_meaning.specs.Shape.{Aliases, place_of_key, BoundName, PatternTests}
use Rattle.soundness_values.proofs.AlsoTests.{Also}
use Rattle.soundness_values.proofs.Checked.{Checking}
use Rattle.soundness_values.proofs.CheckedBodies.{is_reference_param}
use Rattle.soundness_values.proofs.Facts.{Facts}
use Rattle.soundness_values.proofs.Leaving.{Shown, ShownOut}
use Rattle.soundness.proofs.PassAloneRun.{I, Makes}
use Rattle.soundness_cells.proofs.PassCellTests.{cells_act}
use Rattle.soundness_frame.proofs.PassFrameCalls.{Ends}
use Rattle.soundness_cells.proofs.PassKept.{Answered}
use Rattle.soundness.proofs.PassKnownPlaces.{Known, cell_known}
use Rattle.soundness.proofs.PassPlacesEffects as effects_of
use Rattle.soundness.proofs.PassPlacesEffects.{q, Settled}
use Rattle.soundness.proofs.PassPlacesRules.{Safe, NoValue}
use Rattle.soundness_cells.proofs.PassRefilled.{not_mark}
use Rattle.soundness_cells.proofs.PassRestSplit.{places_act}
use Rattle.soundness_cells.proofs.PassSure.{known_place}
use Rattle.soundness.proofs.PassWatched as watched
use Rattle.soundness.proofs.PassWatched.{Alike, AlikeOut, AlikeChoice}

-- ---- what is watched

module _ (items : ItemTable) (body : BodyTree) where
  abbrev pub is_known : Place → Facts → Bool
  is_known place facts =
      known_place items (local_ty items body) (is_reference_param items body) facts (place_at (local_of items body)
      place)

  -- what all these names stand for is known
  abbrev pub all_known : Aliases → Facts → Bool
  all_known [] facts = true
  all_known (a ∷ aliases) facts = is_known a.1 facts && all_known aliases facts

  -- and what names of a pattern would take
  abbrev pub bounds_known : List BoundName → Facts → Bool
  bounds_known [] facts = true
  bounds_known (b ∷ bounds) facts = is_known b.site.place facts && bounds_known bounds facts

  first : (a b : Bool) → (a && b) ≡ true → a ≡ true
  first true b h = refl
  first false b h = absurd (false≢true h)

  second : (a b : Bool) → (a && b) ≡ true → b ≡ true
  second true b h = h
  second false b h = absurd (false≢true h)

  pub alias_known : (aliases : Aliases) (facts : Facts) → all_known aliases facts ≡ true → (key : ℕ) →
      Known items body facts (place_of_key key aliases)
  alias_known [] facts h key = cell_known items body facts key
  alias_known (a ∷ aliases) facts h key = by (key == a.0)
      (alias_known aliases facts (second (is_known a.1 facts) (all_known aliases facts) h) key)
    where
      by : (b : Bool) → Known items body facts (place_of_key key aliases) →
          Known items body facts (if b then a.1 else place_of_key key aliases)
      by true later = first (is_known a.1 facts) (all_known aliases facts) h
      by false later = later

  pub known_with : (bounds : List BoundName) (aliases : Aliases) (facts : Facts) →
      all_known (aliases_with bounds aliases) facts ≡ (bounds_known bounds facts && all_known aliases facts)
  known_with [] aliases facts = refl
  known_with (b ∷ bounds) aliases facts = by (is_known b.site.place facts) (known_with bounds aliases facts)
    where
      by : (c : Bool) → all_known (aliases_with bounds aliases) facts
          ≡ (bounds_known bounds facts && all_known aliases facts) →
          (c && all_known (aliases_with bounds aliases) facts)
          ≡ ((c && bounds_known bounds facts) && all_known aliases facts)
      by true later = later
      by false later = refl

  pub with_bounds : (bounds : List BoundName) (aliases : Aliases) (facts : Facts) → bounds_known bounds facts ≡ true →
      all_known aliases facts ≡ true → all_known (aliases_with bounds aliases) facts ≡ true
  with_bounds bounds aliases facts h k = known_with bounds aliases facts ∙ both_true h k

  pub without_bounds : (bounds : List BoundName) (aliases : Aliases) (facts : Facts) →
      all_known (aliases_with bounds aliases) facts ≡ true → all_known aliases facts ≡ true
  without_bounds bounds aliases facts h = second (bounds_known bounds facts) (all_known aliases facts)
      (sym (known_with bounds aliases facts) ∙ h)

  pub lost_bounds : (bounds : List BoundName) (aliases : Aliases) (facts : Facts) →
      all_known (aliases_with bounds aliases) facts ≡ false → all_known aliases facts ≡ true →
      bounds_known bounds facts ≡ false
  lost_bounds bounds aliases facts h k = by (bounds_known bounds facts) (sym (known_with bounds aliases facts) ∙ h)
    where
      by : (b : Bool) → (b && all_known aliases facts) ≡ false → b ≡ false
      by true e = sym k ∙ e
      by false e = refl

module _ (items : ItemTable) (body : BodyTree) (also : Also) (aliases : Aliases) where
  abbrev pub V : Type 0
  V = Checking Facts

  abbrev L : ℕ → ℕ
  L = local_of items body

  abbrev pub watching : Effects V
  watching = watched.watched items body also (all_known items body aliases)

  abbrev pub Stand : Facts → Type 0
  Stand facts = all_known items body aliases facts ≡ true

  abbrev pub Lost : Facts → Type 0
  Lost facts = all_known items body aliases facts ≡ false

  -- no place waits for its value, all references were made by borrows of the block, and what names stand for is known
  abbrev pub Calm : V → Type 0
  Calm v = (v.facts.refilled ≡ None) × (I items body also v × Stand v.facts)

  pub settled : (v : V) → Calm v → Settled items body also v
  settled v c = (c.0, c.1.0)

  pub calm_if : (v : V) → Settled items body also v × Stand v.facts → Calm v
  calm_if v c = (c.0.0, (c.0.1, c.1))

  -- ---- beside the run that watches nothing

  less : (f : Facts) → all_known items body aliases f ≡ true → true ≡ true
  less f h = refl

  stands : (f : Facts) → all_known items body aliases f ≡ true → Stand f
  stands f h = h

  stops : (f : Facts) → all_known items body aliases f ≡ false → true ≡ true → Lost f
  stops f h k = h

  module _ (fuel : ℕ) where
    pub node_so : (n : Node) (around : LoopsAndGuards) (own : Bool) (to : Destination) (S : Scopes) (v : V) →
        Stand v.facts → Alike items body also Stand Lost ((meaning items watching fuel n).evaluate around own to S v)
        ((meaning items (q items body also) fuel n).evaluate around own to S v)
    node_so = watched.node_alike items body also (all_known items body aliases) (λ f. true) (q items body also)
        (watched.nothing_watched items body also) Stand Lost less stands stops fuel

    -- whatever is known before
    pub none_so : (n : Node) (around : LoopsAndGuards) (own : Bool) (to : Destination) (S : Scopes) (v : V) →
        NoValue ((meaning items (q items body also) fuel n).evaluate around own to S v) →
        NoValue ((meaning items watching fuel n).evaluate around own to S v)
    none_so n around own to S v h = watched.none_alike items body also (λ f. Unit {0}) (λ f. Unit {0})
        ((meaning items watching fuel n).evaluate around own to S v)
        ((meaning items (q items body also) fuel n).evaluate around own to S v)
        (watched.node_alike items body also (all_known items body aliases) (λ f. true) (q items body also)
        (watched.nothing_watched items body also) (λ f. Unit {0}) (λ f. Unit {0}) less (λ f k. tt) (λ f k j. tt) fuel n
        around own to S v tt) h

    first_of : (J : V → Type 0) (x : Run V) → Ends (λ w. J w × Unit {0}) x → Ends J x
    first_of J (At Value S w) h = h.0
    first_of J (At (Breaks loop) S w) h = tt
    first_of J (At (Continues loop) S w) h = tt
    first_of J (At Returns S w) h = tt
    first_of J (At Panics S w) h = tt
    first_of J (Over halt w) h = tt

    pub ends_so : (J : V → Type 0) (n : Node) (around : LoopsAndGuards) (own : Bool) (to : Destination) (S : Scopes)
        (v : V) → Ends J ((meaning items (q items body also) fuel n).evaluate around own to S v) →
        Ends J ((meaning items watching fuel n).evaluate around own to S v)
    ends_so J n around own to S v h = first_of J ((meaning items watching fuel n).evaluate around own to S v)
        (watched.ends_alike items body also (λ f. Unit {0}) (λ f. Unit {0}) J
        ((meaning items watching fuel n).evaluate around own to S v)
        ((meaning items (q items body also) fuel n).evaluate around own to S v)
        (watched.node_alike items body also (all_known items body aliases) (λ f. true) (q items body also)
        (watched.nothing_watched items body also) (λ f. Unit {0}) (λ f. Unit {0}) less (λ f k. tt) (λ f k j. tt) fuel n
        around own to S v tt) h)

  -- what is shown of the run that watches nothing
  pub shown_so : (post : Exit → Scopes → V → Type 0) (r s : Run V) → Alike items body also Stand Lost r s →
      Shown (not_mark 5) post s → Shown (not_mark 5) (λ exit S w. post exit S w × Stand w.facts) r
  shown_so = watched.shown_alike items body also Stand Lost

  pub act_so : (action : Action) (v : V) → Stand v.facts →
      AlikeOut items body also Stand Lost (watching.act action v) ((q items body also).act action v)
  act_so = watched.act_alike items body also (all_known items body aliases) (λ f. true) (q items body also)
      (watched.nothing_watched items body also) Stand Lost less stands stops

  pub acts_so : (action : Action) (went panicked : V → Type 0) (v : V) → Stand v.facts →
      ShownOut (not_mark 5) went panicked ((q items body also).act action v) →
      ShownOut (not_mark 5) (λ w. went w × Stand w.facts) (λ w. panicked w × Stand w.facts) (watching.act action v)
  acts_so action went panicked v k h = watched.out_shown items body also Stand Lost went panicked
      (watching.act action v) ((q items body also).act action v) (act_so action v k) h

  abbrev Beside : Run V → Run V → Type 0
  Beside = Alike items body also Stand Lost

  abbrev r0 : Effects V
  r0 = q items body also

  pub two_so : (one other : Action) (S : Scopes) (v : V) → Stand v.facts →
      Beside (on_value (forms.acts items watching one S v) (forms.acts items watching other))
      (on_value (forms.acts items r0 one S v) (forms.acts items r0 other))
  two_so = watched.two_alike items body also (all_known items body aliases) (λ f. true) (q items body also)
      (watched.nothing_watched items body also) Stand Lost less stands stops

  pub bind_so : (in_that : (Scope → Scope) → Scopes → Scopes) (bounds : List BoundName) (S : Scopes) (v : V) →
      Stand v.facts →
      Beside (forms.bind items watching in_that bounds S v) (forms.bind items r0 in_that bounds S v)
  bind_so = watched.bind_alike items body also (all_known items body aliases) (λ f. true) (q items body also)
      (watched.nothing_watched items body also) Stand Lost less stands stops

  pub replacing_so : (drops : Bool) (site : EffectSite) (key : ℕ) (S : Scopes) (v : V) → Stand v.facts →
      Beside (forms.replacing items watching drops site key S v) (forms.replacing items r0 drops site key S v)
  replacing_so = watched.replacing_alike items body also (all_known items body aliases) (λ f. true) (q items body also)
      (watched.nothing_watched items body also) Stand Lost less stands stops

  pub all_so : (tests : PatternTests) (v : V) → Stand v.facts → AlikeChoice items body also Stand Lost
      (forms.all_hold items watching tests v) (forms.all_hold items r0 tests v)
  all_so = watched.all_alike items body also (all_known items body aliases) (λ f. true) (q items body also)
      (watched.nothing_watched items body also) Stand Lost less stands stops

  -- ---- effects that touch no place

  out_calm : (o : Out V) → ShownOut (not_mark 5) (Settled items body also) (Settled items body also) o →
      ShownOut (not_mark 5) Calm Calm (watched.out_seen items body also (all_known items body aliases) o)
  out_calm (Go w) h = by (all_known items body aliases w.facts) refl
    where
      by : (b : Bool) → all_known items body aliases w.facts ≡ b →
          ShownOut (not_mark 5) Calm Calm (watched.out_if items body also b w (Go w))
      by true e = (h.0, (h.1, e))
      by false e = tt
  out_calm (Unwind w) h = by (all_known items body aliases w.facts) refl
    where
      by : (b : Bool) → all_known items body aliases w.facts ≡ b →
          ShownOut (not_mark 5) Calm Calm (watched.out_if items body also b w (Unwind w))
      by true e = (h.0, (h.1, e))
      by false e = tt
  out_calm (Halts halt w) h = h

  choice_calm : (o : Choice V) → Answered (not_mark 5) (Settled items body also) o →
      Answered (not_mark 5) Calm (watched.choice_seen items body also (all_known items body aliases) o)
  choice_calm (Yes w) h = by (all_known items body aliases w.facts) refl
    where
      by : (b : Bool) → all_known items body aliases w.facts ≡ b →
          Answered (not_mark 5) Calm (watched.choice_if items body also b w (Yes w))
      by true e = (h.0, (h.1, e))
      by false e = tt
  choice_calm (No w) h = by (all_known items body aliases w.facts) refl
    where
      by : (b : Bool) → all_known items body aliases w.facts ≡ b →
          Answered (not_mark 5) Calm (watched.choice_if items body also b w (No w))
      by true e = (h.0, (h.1, e))
      by false e = tt
  choice_calm (Neither halt w) h = h

  -- an action of which what is asked holds, where its types are right
  pub acts_calm : (action : Action) (v : V) → Makes items body also (action_at L action) → Calm v →
      (cells_act items (local_ty items body) (is_reference_param items body) (action_at L action) ≡ true →
      places_act items body v.facts v.free.cells (action_at L action) ≡ true) →
      ShownOut (not_mark 5) Calm Calm (watching.act action v)
  acts_calm action v m c h = out_calm ((q items body also).act action v)
      (effects_of.acts_settled items body also action v m (settled v c) h)

  abbrev base : Safe (q items body also) (not_mark 5) (Settled items body also)
  base = effects_of.settled_safe items body also

  pub safe : Safe watching (not_mark 5) Calm
  safe = record {
    acts = λ action v t c. out_calm ((q items body also).act action v) (base.acts action v t (settled v c));
    asks = λ operand v c. choice_calm ((q items body also).choose (effects.IsTrue operand) v)
        (base.asks operand v (settled v c));
    drops = λ mode e v c. out_calm ((q items body also).drop mode (entry_site e) v) (base.drops mode e v (settled v c));
    panics = λ why v c. c;
    ticks = λ v c. out_calm ((q items body also).tick v) (base.ticks v (settled v c));
    aborts = λ v. tt;
    lapses = λ v. tt;
    stuck = λ v. tt;
  }

-- ---- outside of guards nothing is watched

module _ (items : ItemTable) (body : BodyTree) (also : Also) where
  abbrev unseen : Effects (Checking Facts)
  unseen = q items body also

  pub watching_none : watching items body also [] ≡ q items body also
  watching_none = six (watching items body also [])
      (fun_ext (λ action. fun_ext (λ v. sym (watched.all_out items body also (unseen.act action v)))))
      (fun_ext (λ test. fun_ext (λ v. sym (watched.all_choice items body also (unseen.choose test v)))))
      (fun_ext (λ mode. fun_ext (λ site. fun_ext (λ v. sym (watched.all_out items body also (unseen.drop mode site
      v)))))) (fun_ext (λ v. sym (watched.all_out items body also (unseen.tick v))))
      (fun_ext (λ site. fun_ext (λ v. sym (watched.all_out items body also (unseen.give site v)))))
    where
      W : Type 0
      W = Checking Facts

      make : (Action → W → Out W) → (Test → W → Choice W) → (Mode → EffectSite → W → Out W) → (W → Out W) →
          (EffectSite → W → Out W) → Effects W
      make a b c d e = record { act = a; choose = b; drop = c; panic = unseen.panic; tick = d; give = e }

      six : (p : Effects W) → p.act ≡ unseen.act → p.choose ≡ unseen.choose → p.drop ≡ unseen.drop → p.tick ≡
          unseen.tick → p.give ≡ unseen.give → make p.act p.choose p.drop p.tick p.give
          ≡ make unseen.act unseen.choose unseen.drop unseen.tick unseen.give
      six p a b c d e = ap (λ (x : Action → W → Out W). make x p.choose p.drop p.tick p.give) a
          ∙ ap (λ (x : Test → W → Choice W). make unseen.act x p.drop p.tick p.give) b
          ∙ ap (λ (x : Mode → EffectSite → W → Out W). make unseen.act unseen.choose x p.tick p.give) c
          ∙ ap (λ (x : W → Out W). make unseen.act unseen.choose unseen.drop x p.give) d
          ∙ ap (λ (x : EffectSite → W → Out W). make unseen.act unseen.choose unseen.drop unseen.tick x) e
