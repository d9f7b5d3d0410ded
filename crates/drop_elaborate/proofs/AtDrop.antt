-- A drop where a path comes to it, in the raw run alone: on which paths it goes on and unwinds, what is known behind
-- it, and what stands at its place where it is dead, or sure.
use Rattle.std.proofs.Common.{◌≡◌, ◌⊎◌, inl, inr, ℕ, Bool, true, false, List, [], ◌∷◌, ◌++◌, map, length, Option, Some, slice_get, Contains, refl, ap, sym, ◌∙◌, subst, append_assoc}
use Rattle.std.specs.Option.{option_map_or}
use Rattle.std.proofs.lemmas.Bool.{false≢true}
use Rattle.mir_ty.proofs.ListLemmas.{Contains-slice_get}
use Rattle.mir_ty.specs.declared.ty.TyId.{TyId}
use Rattle.mir_ty.specs.Facts.{needs_drop}
use Rattle.mir_ty.specs.ItemTable.{ItemTable}
use Rattle.cfg_graph.proofs.AllPresent.{whole_is_all_present}
use Rattle.cfg_graph.proofs.Present.{gone_is_not_present}
use Rattle.cfg_graph.specs.declared.graph.Block.{Block}
use Rattle.cfg_graph.specs.declared.graph.Body.{Body}
use Rattle.cfg_graph.specs.declared.place.Place as graph
use Rattle.cfg_graph.specs.declared.terminator.Term.{Term}
use Rattle.cfg_graph.specs.declared.terminator.Unwind.{Unwind}
use Rattle.cfg_graph.specs.Edges.{onward, unwind_of, targets}
use Rattle.cfg_graph.specs.Moves.Actions.{at_line, stmt_actions, block_actions, actions_on}
use Rattle.cfg_graph.specs.Moves.BadUses.{bad_uses_on}
use Rattle.cfg_graph.specs.Moves.Gone.{PathAction, below, counts, is_gone_after}
use Rattle.cfg_graph.specs.Moves.Paths.{IsPath, needs_dropping}
use Rattle.cfg_graph.specs.Moves.Present.{present_after}
use Rattle.cfg_graph.specs.NamedPlaces.{keeps_named}
use Rattle.cfg_graph.specs.Places.{named, place_id}
use Rattle.cfg_graph.specs.Ready.{may_be_left_gone, refills, refills_after_panic}
use Rattle.cfg_graph.specs.Uses.{Stores, term_uses, stored_by_term}
use Rattle.move_paths.specs.Forest.{is_local, is_path}
use Rattle.store_model.specs.Abstract.Presence.{presence_along, itself_gone}
use Rattle.store_model.specs.declared.address.Addr.{Addr}
use Rattle.store_model.specs.Concrete.Location.{Setting, Located, Reaches, reach}
use Rattle.store_model.specs.Concrete.State.{State}
use Rattle.store_model.specs.Places.Place.{Step, ToElement, Place}
use Rattle.store_model.specs.Values.Datum.{Gone}
use Rattle.store_model.specs.Values.Wholeness.{serials}
use Rattle.drop_values.specs.Like.{raw_setting}
use Rattle.drop_values.specs.Plan.{Quiet}
use Rattle.drop_values.specs.Typed.{IsFull}
use Rattle.drop_values.proofs.Fits.{whole_if_present, present_if_whole}
use Rattle.drop_values.proofs.Knows.{PlainSteps, own_place, own_fits}
use Rattle.drop_values.proofs.Sites.{of-proper, PlaceIs, a_part, an_element, behind, IsOpen, Lands, lands}
use Rattle.drop_values.proofs.Stand.{Changed}
use Rattle.drop_values.proofs.Touched.{AllNameFull}
use Rattle.drop_values.proofs.Within.{nothing-numbered, none-numbered, quiet-as}
use Rattle.drop_elaborate.proofs.Apart.{IsNamed}
use Rattle.drop_elaborate.proofs.BlockPaths as within
use Rattle.drop_elaborate.proofs.DeadDrops.{box-numbered, dyn-numbered, impl-numbered, unneeded-dead, gone-below, behind-unwatched, element-unwatched, behind-there, element-there}
use Rattle.drop_elaborate.proofs.Dropped.{at_drop, DropPlace, drop-place, Standing, own, full, Found, found, after-own, Emptied, RefilledOn, refilled-on}
use Rattle.drop_elaborate.proofs.Held.{Held}
use Rattle.drop_elaborate.proofs.PathFacts.{Follows}
use Rattle.drop_elaborate.proofs.PathGrows.{OnPath}
use Rattle.drop_elaborate.proofs.PathSpares.{unwatched-no-path}
use Rattle.drop_elaborate.proofs.ReadyBody.{BodyIsReady}
use Rattle.drop_elaborate.proofs.SinceMade.{IsLive}
use Rattle.drop_elaborate.proofs.Telling.{presence_along-append}
use Rattle.drop_elaborate.proofs.Ways as way
use Rattle.drop_elaborate.proofs.Ways.{After}
use Rattle.drop_elaborate.specs.Kinds.{before_last, Comes, IsDrop, IsDead, IsSure, is_numbered}

nil : {A : Type 0} (l : List A) → l ++ [] ≡ l
nil [] = refl
nil (x ∷ l) = ap (λ l. x ∷ l) (nil l)

inside-local : (upper : List Step) (step : Step) (rest : List Step) → is_local (upper ++ step ∷ rest) ≡ false
inside-local [] step rest = refl
inside-local (x ∷ upper) step rest = refl

module _ (items : ItemTable) (local_ty : (body local : ℕ) → Option TyId) (number depth bodies : ℕ) (body : Body)
    (addresses : List Addr) (before : State) (given : AllNameFull items local_ty before addresses)
    (locals_are : (k : ℕ) → local_ty number k ≡ slice_get body.locals k) (ready : BodyIsReady items bodies body)
    (bodies_are : (n : ℕ) (block : Block) → slice_get body.blocks n ≡ Some block → (m : ℕ) →
    Contains (targets block.term) m → (found : Block) × (slice_get body.blocks m ≡ Some found))
    (fine : (path : List ℕ) (given : List Bool) → IsPath items body path given → bad_uses_on items body path ≡ [])
    (kept : (path : List ℕ) (given : List Bool) (local : ℕ) → IsPath items body path given →
    keeps_named body (actions_on body path) local ≡ true)
    (n : ℕ) (block : Block) (at : slice_get body.blocks n ≡ Some block) (acts : List PathAction)
    (here : OnPath items body n acts) (place : graph.Place) (next : ℕ) (unwind : Unwind)
    (e : block.term ≡ Term.DropAt place next unwind) where
  abbrev raw : Setting
  raw = raw_setting items local_ty

  abbrev HeldNow : List PathAction → State → Type 0
  HeldNow actions w = Held items local_ty number depth body addresses before given locals_are actions w

  abbrev EmptiedHere : ℕ → List PathAction → State → Type 0
  EmptiedHere m actions w =
      Emptied items local_ty number depth bodies body addresses before given locals_are ready m actions w

  abbrev line : ℕ
  line = length block.stmts

  abbrev stmts_done : List PathAction
  stmts_done = acts ++ stmt_actions n 0 block.stmts

  abbrev used_by : Term → List PathAction
  used_by term = at_line n line (term_uses term)

  abbrev D : Place
  D = named place

  abbrev drop_here : PathAction
  drop_here = at_drop items local_ty number depth bodies body addresses before given locals_are ready n line place

  abbrev pub dropped_now : List PathAction
  dropped_now = stmts_done ++ drop_here ∷ []

  comes_here : Follows items body stmts_done (used_by (Term.DropAt place next unwind) ++ [])
  comes_here =
      subst (λ term. Follows items body stmts_done (used_by term ++ [])) e
      (within.at-term items body bodies ready bodies_are fine kept n block at acts here)

  pub there : DropPlace items local_ty number depth bodies body addresses before given locals_are ready stmts_done place
  there =
      drop-place items local_ty number depth bodies body addresses before given locals_are ready n line block at place
      next
      unwind e stmts_done [] comes_here

  -- ---- where the path goes on

  pub on-path : acts ++ block_actions n block ≡ dropped_now
  on-path =
      sym (within.grouped items body bodies ready bodies_are fine kept n block at acts here)
      ∙ ap (λ term. stmts_done ++ used_by term) e

  pub on-way : After items body n block acts ≡ dropped_now
  on-way =
      ap (λ term. (acts ++ block_actions n block) ++ at_line n line (map (λ place. (Stores, place))
      (stored_by_term term))) e ∙ nil (acts ++ block_actions n block) ∙ on-path

  pub is-drop : IsDrop items body n D
  is-drop = record {
    block = block;
    there = at;
    dropped = place;
    next = next;
    unwind = unwind;
    term_is = e;
    place_is = refl;
  }

  pub comes : Comes items body n stmts_done
  comes = record {
    path = here.path;
    given = here.given;
    is_path = here.is_path;
    before_is = sym (ap before_last (here.done ∙ ap (λ o. acts ++ option_map_or (block_actions n) o []) at ∙ on-path)
        ∙ but-last stmts_done drop_here);
  }
    where
      but-last : (xs : List PathAction) (x : PathAction) → before_last (xs ++ x ∷ []) ≡ xs
      but-last [] x = refl
      but-last (y ∷ []) x = refl
      but-last (y ∷ z ∷ xs) x = ap (λ l. y ∷ l) (but-last (z ∷ xs) x)

  pub onward-there : Contains (targets block.term) next
  onward-there =
      within.in-targets items body bodies ready bodies_are fine kept n block at acts here next
      (subst (λ term. Contains (onward term) next) (sym e) (Contains-slice_get (next ∷ []) 0 next refl))

  pub onward-path : OnPath items body next (After items body n block acts)
  onward-path = way.drop-way items body n block at acts here place next unwind e

  pub unwind-there : (m : ℕ) → unwind ≡ Unwind.Block m → Contains (targets block.term) m
  unwind-there m u =
      within.unwind-target items body bodies ready bodies_are fine kept n block at acts here m
      (subst (λ term. Contains (unwind_of term) (Unwind.Block m)) (sym e)
      (subst (λ y. Contains (y ∷ []) (Unwind.Block m)) (sym u)
      (Contains-slice_get (Unwind.Block m ∷ []) 0 (Unwind.Block m) refl)))

  pub unwind-path : (m : ℕ) → unwind ≡ Unwind.Block m →
      needs_dropping items (place_id items body.locals place) ≡ true →
      OnPath items body m (acts ++ block_actions n block)
  unwind-path m u needs =
      way.drop-panics items body n block at acts here (ready.cleanup n block at) (bodies_are n block at) place next m
      (e ∙ ap (Term.DropAt place next) u) needs

  -- ---- what is known behind it: all of the path, or that the place is stored into at once

  abbrev pub Behind : List PathAction → State → Type 0
  Behind actions w = HeldNow actions w ⊎ ((may_be_left_gone items body place ≡ true → ⊥)
      × ((m : ℕ) → refills items body place m ≡ true → EmptiedHere m actions w))

  refilled-there : (may_be_left_gone items body place ≡ true → ⊥) →
      RefilledOn items local_ty number depth bodies body addresses before given locals_are ready place next unwind
  refilled-there never =
      refilled-on items local_ty number depth bodies body addresses before given locals_are ready n block at place next
      unwind e never

  pub behind-next : (actions : List PathAction) (x : State) → Behind actions x →
      HeldNow actions x ⊎ EmptiedHere next actions x
  behind-next actions x (inl y) = inl y
  behind-next actions x (inr y) = inr (y.1 next (refilled-there y.0).on)

  pub behind-panic : (m : ℕ) → unwind ≡ Unwind.Block m → (actions : List PathAction) (x : State) → Behind actions x →
      HeldNow actions x ⊎ EmptiedHere m actions x
  behind-panic m u actions x (inl y) = inl y
  behind-panic m u actions x (inr y) =
      inr (y.1 m (ap (refills_after_panic items body place) (sym u) ∙ (refilled-there y.0).after_panic))

  pub behind-resume : unwind ≡ Unwind.Resume → (actions : List PathAction) (x : State) → Behind actions x →
      HeldNow actions x
  behind-resume u actions x (inl y) = y
  behind-resume u actions x (inr y) =
      absurd (false≢true (ap (refills_after_panic items body place) (sym u) ∙ (refilled-there y.0).after_panic))

  -- ---- its kind

  -- its type needs dropping, where it is not dead
  pub needed : (IsDead items body n D → ⊥) → needs_dropping items (place_id items body.locals place) ≡ true
  needed not_dead = by (needs_drop items there.id) refl
    where
      by : (b : Bool) → needs_drop items there.id ≡ b → needs_dropping items (place_id items body.locals place) ≡ true
      by true k = ap (needs_dropping items) there.typed ∙ k
      by false k = absurd (not_dead (unneeded-dead items body n D there.id there.typed k))

  -- a place that is a path is a part of a local
  pub record IsPart : Type 0 where
    pub start : TyId
    pub local_is : local_ty number D.local ≡ Some start
    pub flatly : PlainSteps items D.steps start there.id

  pub path-part : is_path items body D ≡ true → IsPart
  path-part path = by there.is
    where
      never : ((more : List Step) → counts items body (below D more) ≡ false) → is_local D.steps ≡ false → ⊥
      never unwatched apart = unwatched-no-path items body D unwatched apart path

      by : PlaceIs items local_ty number D there.id → IsPart
      by (a_part start typed flatly) = record { start = start; local_is = typed; flatly = flatly }
      by (an_element upper rest index start array typed steps_are flatly solid) =
          absurd (never (λ more. ap (λ l. counts items body (record { local = D.local; steps = l }))
          (ap (λ l. l ++ more) steps_are ∙ append_assoc upper (ToElement index ∷ rest) more)
          ∙ element-unwatched items body D start (sym (locals_are D.local) ∙ typed) upper (rest ++ more) index array
          flatly)
          (ap is_local steps_are ∙ inside-local upper (ToElement index) rest))
      by (behind rest start to typed named_it steps_are solid) =
          absurd (never (λ more. ap (λ l. counts items body (record { local = D.local; steps = l ++ more })) steps_are
          ∙ behind-unwatched items body D start (sym (locals_are D.local) ∙ typed) rest to named_it (rest ++ more))
          (ap is_local steps_are))

  -- ---- what stands there

  module _ (v : State) (h : HeldNow stmts_done v) (s : Located) (er : reach raw v D ≡ Reaches s) where
    pub at_it : Found items local_ty number depth bodies body addresses before given locals_are ready stmts_done v place
        there h s
    at_it =
        found items local_ty number depth bodies body addresses before given locals_are ready stmts_done v place there
        h s er

    behind-so : Standing items local_ty number depth bodies body addresses before given locals_are ready stmts_done v
        place there h s → (x : State) → Changed s.address Gone v x → Behind dropped_now x
    behind-so (own start typed flatly led o bodiless) x c =
        inl (after-own items local_ty number depth bodies body addresses before given locals_are ready stmts_done v
        place there h n line s x start typed flatly led o bodiless c)
    behind-so (full all never) x c = inr (
      never,
      λ m again. record {
        acts = stmts_done;
        block = n;
        line = line;
        place = place;
        before_it = v;
        s = s;
        known = h;
        there = there;
        leads = er;
        stood = at_it.stands;
        changed = c;
        done = refl;
        refilled = again;
      },
    )

    pub dropped-Behind : (x : State) → Changed s.address Gone v x → Behind dropped_now x
    dropped-Behind x c = behind-so at_it.standing x c

    l : Lands items local_ty number depth addresses before (IsNamed body) given
        (present_after items body stmts_done) v D s there.id
    l = lands items local_ty number depth addresses before (IsNamed body) given (IsLive body stmts_done)
        (present_after items body stmts_done) v D there.id s there.is h there.opened there.index er

    -- nothing in it needs to be dropped
    pub quiet-unneeded : needs_dropping items (place_id items body.locals place) ≡ false →
        (serials s.value ≡ []) × Quiet items s.value s.dynamic
    quiet-unneeded none =
        quiet-as items s.value s.dynamic there.id l.typed.0 l.as_is
        (ap (needs_dropping items) (sym there.typed) ∙ none) l.typed.1

    -- it is dead
    pub quiet-here : IsDead items body n D → (serials s.value ≡ []) × Quiet items s.value s.dynamic
    quiet-here is_dead = by there.is there.opened
      where
        abbreviated : (steps : List Step) (i : TyId) → PlainSteps items steps there.id i →
            is_numbered items body i ≡ true → is_gone_after items body stmts_done (below D steps) ≡ true
        abbreviated steps i flatly num =
            gone-below items body n D there.id stmts_done is_dead comes there.typed steps i flatly num

        elsewhere : ((steps : List Step) → is_gone_after items body stmts_done (below D steps) ≡ false) →
            (serials s.value ≡ []) × Quiet items s.value s.dynamic
        elsewhere present =
            none-numbered items (is_numbered items body) (box-numbered items body) (dyn-numbered items body)
            (impl-numbered items body) s.value s.dynamic there.id l.typed.0 l.as_is l.proper l.typed.1
            (λ steps i flatly num. absurd (false≢true (sym (present steps) ∙ abbreviated steps i flatly num)))

        by : (is : PlaceIs items local_ty number D there.id) →
            IsOpen items local_ty number depth addresses before (IsNamed body) given (IsLive body stmts_done)
            (present_after items body stmts_done) is → (serials s.value ≡ []) × Quiet items s.value s.dynamic
        by (a_part start typed flatly) o =
            let w = own_place raw number depth (present_after items body stmts_done) v D start there.id s h.knows typed
            flatly er in
            nothing-numbered items (is_numbered items body) (box-numbered items body) (dyn-numbered items body)
            (impl-numbered items body) s.value s.dynamic there.id
            (presence_along D.steps (present_after items body stmts_done D.local)) w.arrives.of
            (own_fits raw number depth (present_after items body stmts_done) v D start there.id s h.knows typed w)
            (λ steps i flatly num. ap itself_gone (sym (presence_along-append D.steps steps
            (present_after items body stmts_done D.local)))
            ∙ gone_is_not_present items body stmts_done (below D steps) ∙ abbreviated steps i flatly num)
        by (an_element upper rest index start array typed steps_are flatly solid) o =
            elsewhere (element-there items body D start (sym (locals_are D.local) ∙ typed) upper rest index stmts_done
            steps_are o)
        by (behind rest start to typed named_it steps_are solid) o =
            elsewhere (behind-there items body D start (sym (locals_are D.local) ∙ typed) rest to stmts_done named_it
            steps_are there.containers_there)

    -- all of it is there
    pub full-here : IsSure items body n D → IsFull items s.dynamic s.value
    full-here sure = by at_it.standing
      where
        by : Standing items local_ty number depth bodies body addresses before given locals_are ready stmts_done v place
            there h s → IsFull items s.dynamic s.value
        by (full all never) = all
        by (own start typed flatly led o bodiless) =
            let fits = own_fits raw number depth (present_after items body stmts_done) v D start there.id s h.knows
            typed
            o in
            let all = (whole_is_all_present items body stmts_done D).1 (sure stmts_done comes) in
            let w = whole_if_present items s.value s.dynamic
            (presence_along D.steps (present_after items body stmts_done D.local)) all fits in (
              of-proper items s.dynamic there.id o.arrives.of,
              present_if_whole items s.value s.dynamic
                  (presence_along D.steps (present_after items body stmts_done D.local)) w fits,
            )
