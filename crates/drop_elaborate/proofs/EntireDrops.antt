-- The drops at the ends of a ladder: of a whole value, of what is gone or has no number, of a box and of a shell.
use Rattle.std.proofs.Common.{◌≡◌, ◌⊎◌, inl, inr, ℕ, ◌≤◌, ◌<◌, true, List, [], ◌∷◌, ◌++◌, Option, Some, None, refl, ap, sym, ◌∙◌, subst, arith}
use Rattle.mir_base.specs.declared.trace.Event.{Event}
use Rattle.mir_ty.specs.declared.ty.TyId.{TyId}
use Rattle.mir_ty.specs.ItemTable.{ItemTable}
use Rattle.cfg_graph.specs.declared.graph.Body.{Body}
use Rattle.cfg_graph.specs.declared.place.Place.{Place}
use Rattle.cfg_graph.specs.declared.statement.Stmt.{Stmt}
use Rattle.cfg_graph.specs.declared.terminator.Term.{Term}
use Rattle.cfg_graph.specs.Places.{named}
use Rattle.cfg_meaning.specs.Actions.{site_of, mode_of}
use Rattle.cfg_meaning.specs.Walk.{Next, ◌>>=◌, renamed, naming, acts}
use Rattle.store_model.specs.Concrete.Effects as acting
use Rattle.store_model.specs.Concrete.Effects.{concrete_effects, dropped_if, nothing_if, freed, if_nothing_numbered}
use Rattle.store_model.specs.Values.Datum.{Datum, Gone, Box}
use Rattle.store_model.specs.Concrete.Drops.{in_mode, still_of, same_if, if_still_typed, Begins, gone_at, freed_there, freed_at, drop_at}
use Rattle.store_model.specs.Effects.{Halt, Aborted, OutOfTicks, Stuck, StuckAt, BadUse, BadStore, NoChoice, Infeasible, Unreachable, Out, Go, Unwind, Halts}
use Rattle.store_model.specs.Concrete.Location.{Setting, OfType, Located, Reaches, on_reached, stored_at}
use Rattle.store_model.specs.Values.Wholeness.{IsWhole, is_whole, serials}
use Rattle.store_model.specs.Concrete.State.{State, with_event, Bodies}
use Rattle.store_model.proofs.Concrete.Effects.{ticks_of, Spending}
use Rattle.store_model.proofs.Values.Wholeness.{is_whole-iff_IsWhole}
use Rattle.drop_elaborate.specs.Ladder.{Ending, Calmly, Abruptly, mode_in, unwind_in, BlockAt, FreedAt}
use Rattle.drop_values.specs.Like.{Flags, Like, Same, SameBodies, MayEnter, IsStuck, SameTold, raw_setting, strict_setting, Extends}
use Rattle.drop_values.specs.Typed.{IsFull}
use Rattle.drop_values.proofs.Fits.{full-whole}
use Rattle.drop_values.specs.Plan.{Quiet}
use Rattle.drop_values.proofs.Stand.{Changed, stored-Changed, same-Changed, with_value, Stands, stands-known}
use Rattle.drop_values.proofs.Frame.{Each, Frames, drop_at-After}
use Rattle.drop_values.proofs.Sound.{Sound}
use Rattle.drop_values.proofs.Fresh.{steady, drop_if}
use Rattle.drop_values.proofs.LikeLaws.{whole-Covers, serials-Covers, there, change-Like}
use Rattle.drop_values.proofs.Names.{Names, reached_there}
use Rattle.drop_values.proofs.Quiet.{QuietOut, drop_at-quiet, NoPanic, drop_at-no_panic}
use Rattle.drop_elaborate.proofs.Walks.{unplaced, Walks}
use Rattle.drop_values.proofs.Whole.{drop_at-Same}
use Rattle.drop_elaborate.proofs.Rungs.{Ends as EndsOf, then_silent}
use Rattle.drop_elaborate.proofs.IdleLadder.{at_block, few'}
use Rattle.drop_elaborate.proofs.TakenParts.{Emptied_of as EmptiedOf}

stuck_or_not : (halt : Halt) → IsStuck halt ⊎ (unplaced halt ≡ halt)
stuck_or_not Stuck = inl tt
stuck_or_not (StuckAt body block) = inl tt
stuck_or_not other = inr refl

module _ (items : ItemTable) (local_ty local_ty' : (body local : ℕ) → Option TyId)
    (extends : Extends local_ty local_ty') (run run' : Bodies)
    (frames : Frames (raw_setting items local_ty) run) (spending : Spending run) (most : ℕ)
    (good : ℕ → List Datum → State → Type 0) (may_enter : MayEnter items local_ty good)
    (tie : SameBodies local_ty good most run run') (bound : ℕ) (great : most < bound)
    (body : Body) (node : ℕ → ℕ → ℕ) (Walk : Next State)
    (walks : Walks (naming unplaced (concrete_effects (strict_setting items local_ty') run' bound))
    ticks_of most body node Walk)
    (flags : Flags) (number depth : ℕ) where
  abbrev raw : Setting
  raw = raw_setting items local_ty

  abbrev strict : Setting
  strict = strict_setting items local_ty'

  abbrev L : State → State → Type 0
  L = Like local_ty flags

  abbrev Ends : (State → Type 0) → ℕ → Ending → Out State → Out State → Type 0
  Ends = EndsOf local_ty flags Walk

  abbrev Emptied_of : Place → Located → State → State → Type 0
  Emptied_of = EmptiedOf items local_ty local_ty' extends most number depth

  -- ---- what is silent
  -- a place is gone where nothing numbered stands; the elaborated run does nothing
  silent : (s : Located) (w v w' : State) → Stands raw w s → serials s.value ≡ [] → L w w' →
      Changed s.address Gone w v → SameTold w v → L v w'
  silent s w v w' st none like c told =
      let t = there items local_ty local_ty' extends flags w w' s.address s like st in
      change-Like items local_ty local_ty' extends flags w w' v w' s.address s Gone t.other like st c
      (same-Changed strict w' (with_value s t.other) t.stands) (serials-Covers s.value t.other t.covers ∙ none)
      (record {
        asked = like.asked ∙ sym told.asked;
        ticks = like.ticks ∙ sym told.ticks;
        serial =
            like.serial ∙ sym told.serial;
        trace = like.trace ∙ sym told.trace;
      })

  pub nothing-ends : (s : Located) (to : ℕ) (ending : Ending) (w w' : State) → Stands raw w s → serials s.value ≡ [] →
      Quiet items s.value s.dynamic → Sound items s.value s.dynamic → L w w' → w.ticks ≤ most →
      Ends (Changed s.address Gone w) to ending (drop_at raw run bound Begins s (mode_in ending) w) (Walk to w')
  nothing-ends s to ending w w' st none quiet sound like l =
      by (drop_at raw run bound Begins s (mode_in ending) w)
      (drop_at-quiet raw run bound s (mode_in ending) w st none quiet (omega arith))
      (drop_at-After raw run frames bound Begins s s.value (mode_in ending) w st sound)
    where
      by : (o : Out State) → QuietOut w o → Each (Changed s.address Gone w) o →
          Ends (Changed s.address Gone w) to ending o (Walk to w')
      by (Go v) h c = (w', c, silent s w v w' st none like c h, refl)
      by (Unwind v) h c = absurd h
      by (Halts halt v) h c = inl h

  -- ---- one drop
  entire-out : (P : State → Type 0) (to : ℕ) (ending : Ending) (o o' : Out State) → Same local_ty L o o' → Each P o →
      (ending ≡ Abruptly → NoPanic raw run o) → Ends P to ending o
      (acts (renamed unplaced o') Walk to (unwind_in ending))
  entire-out P to ending (Go v) o' h p n = (
    h.0,
    p,
    h.2,
    ap (λ x. acts (renamed unplaced x) Walk to (unwind_in ending))
        h.1,
  )
  entire-out P to (Calmly cleanup) (Unwind v) o' h p n =
      (h.0, p, h.2, ap (λ x. acts (renamed unplaced x) Walk to (unwind_in (Calmly cleanup))) h.1)
  entire-out P to Abruptly (Unwind v) o' h p n = absurd (n refl)
  entire-out P to ending (Halts halt v) o' (inl stuck) p n = inl stuck
  entire-out P to ending (Halts halt v) o' (inr h) p n = by (stuck_or_not halt)
    where
      by : IsStuck halt ⊎ (unplaced halt ≡ halt) → IsStuck halt
          ⊎ ((v' : State) × (acts (renamed unplaced o') Walk to (unwind_in ending) ≡ Halts halt v')
          × (v'.trace ≡ v.trace))
      by (inl stuck) = inl stuck
      by (inr e) = inr (
        h.0,
        ap (λ x. acts (renamed unplaced x) Walk to (unwind_in ending)) h.1
            ∙ ap (λ x. Halts x h.0) e,
        h.2,
      )

  mode_of_unwind : (ending : Ending) → mode_of (unwind_in ending) ≡ mode_in ending
  mode_of_unwind (Calmly cleanup) = refl
  mode_of_unwind Abruptly = refl

  pub entire-ends : (place : Place) (s : Located) (from to : ℕ) (ending : Ending) (w w' : State) →
      BlockAt body from [] (Term.DropAt place to (unwind_in ending)) →
      IsFull items s.dynamic s.value → Stands raw w s →
      Names items local_ty local_ty' extends w (named place) s →
      Sound items s.value s.dynamic → L w w' → w.ticks ≤ most → Ends (Changed s.address Gone w) to ending
      (drop_at raw run bound Begins s (mode_in ending) w) (Walk from w')
  entire-ends place s from to ending w w' code h st names sound like l =
      let r = reached_there items local_ty local_ty' extends flags w w' (named place) s like names in
      let same : with_value s r.other ≡ s = ap (with_value s)
      (whole-Covers s.value r.other (full-whole items s.value s.dynamic h) r.covers) in
      let dropped : acting.drop strict run' bound (mode_of (unwind_in ending)) (site_of (node from 0) place)
      w' ≡ drop_at strict run' bound Begins s (mode_in ending) w' =
      ap (λ m. acting.drop strict run' bound m (site_of (node from 0) place) w') (mode_of_unwind ending)
      ∙ ap (λ o. on_reached o (λ s. dropped_if strict run' bound (is_whole s.value) (mode_in ending) s w')
      (nothing_if strict run' true w') (Halts Stuck w')) (r.reaches ∙ ap Reaches same)
      ∙ ap (λ b. dropped_if strict run' bound b (mode_in ending) s w')
      (whole_test s.value (full-whole items s.value s.dynamic h)) in
      subst (Ends (Changed s.address Gone w) to ending (drop_at raw run bound Begins s (mode_in ending) w))
      (sym (at_block items local_ty local_ty' run' most bound body node Walk walks flags number depth from []
      (Term.DropAt place to (unwind_in ending)) w' code (few' items local_ty local_ty' run' most bound body node Walk
      walks flags number depth w w' like l)
      ∙ ap (λ o. acts (renamed unplaced o) Walk to (unwind_in ending)) dropped))
      (entire-out (Changed s.address Gone w) to ending (drop_at raw run bound Begins s (mode_in ending) w)
      (drop_at strict run' bound Begins s (mode_in ending) w')
      (drop_at-Same items local_ty local_ty' extends run run' frames most good may_enter tie flags
      bound Begins s s.value (mode_in ending) w w' st h like l)
      (drop_at-After raw run frames bound Begins s s.value (mode_in ending) w st sound)
      (λ e. subst (λ x. NoPanic raw run (drop_at raw run bound Begins s (mode_in x) w)) (sym e)
      (drop_at-no_panic raw run bound Begins s w)))
    where
      whole_test : (d : Datum) → IsWhole d → is_whole d ≡ true
      whole_test d h = (is_whole-iff_IsWhole d).1 h

  -- ---- a box
  pub freed-ends : (place : Place) (s : Located) (id : TyId) (serial : ℕ) (impl_no : Option ℕ) (from to : ℕ)
      (w0 v v' : State) → FreedAt body place from to (Calmly 0) → s.dynamic ≡ OfType id →
      Stands raw v (with_value s (Box serial impl_no Gone)) →
      Names items local_ty local_ty' extends v (named place) (with_value s (Box serial impl_no Gone)) →
      ((u : State) → Changed s.address Gone v u → Changed s.address Gone w0 u) → L v v' → v.ticks ≤ most →
      (u : State) × (u' : State) × (freed_at raw run s v ≡ Go u) × Changed s.address Gone w0 u × L u u'
      × (Walk from v' ≡ Walk to u')
  freed-ends place s id serial impl_no from to w0 v v' code found_is st names change like l =
      let c : Located = with_value s (Box serial impl_no Gone) in
      let r = reached_there items local_ty local_ty' extends flags v v' (named place) c like names in
      let t = there items local_ty local_ty' extends flags v v' s.address c like st in
      let stored = stored-Changed s.address Gone v (stands-known raw v c st) in
      let stored' = stored-Changed s.address Gone v' (stands-known strict v' (with_value s t.other) t.stands) in
      let gone = change-Like items local_ty local_ty' extends flags v v' (stored_at s.address Gone v)
      (stored_at s.address Gone v') s.address c Gone Gone like st stored stored' refl
      (record { asked = like.asked; ticks = like.ticks; serial = like.serial; trace = like.trace }) in
      let changed = change (stored_at s.address Gone v) stored in (
        with_event (Event.Freed serial) (stored_at s.address Gone v),
        with_event (Event.Freed serial) (stored_at s.address Gone v'),
        ap (λ o. if_still_typed items s.dynamic o (λ s w. freed_there raw run s.value s w) v) st
            ∙ ap (λ b. same_if b (freed_there raw run (Box serial impl_no Gone) c) v)
            (ap (λ f. still_of items f f) found_is ∙ steady items id),
        record {
          less = changed.less;
          count = changed.count;
          bodies = changed.bodies;
          here = changed.here;
          apart =
              changed.apart;
        },
        record {
          asked = gone.asked;
          ticks = gone.ticks;
          serial = gone.serial;
          trace =
              ap (λ t. t ++ Event.Freed serial ∷ []) gone.trace;
          count = gone.count;
          bodies = gone.bodies;
          covers =
              gone.covers;
          flags_are = gone.flags_are;
        },
        at_block items local_ty local_ty' run' most bound body node Walk walks flags number depth from
            (Stmt.Free place ∷ []) (Term.Goto to) v' code (few' items local_ty local_ty' run' most bound body node Walk
            walks flags number depth v v' like l)
            ∙ ap (λ o. ◌>>=◌ (renamed unplaced o) (Walk to))
            (ap (λ o. on_reached o (λ s. freed strict s s.value v') (Halts Stuck v') (Halts Stuck v')) r.reaches
            ∙ ap (λ d. freed strict (with_value s r.other) d v') r.covers.1
            ∙ ap (λ l. if_nothing_numbered strict l (Go (with_event (Event.Freed serial) (stored_at s.address Gone v')))
            v') r.covers.2),
      )

  -- at last the place itself is gone
  pub shell-ends : (place : Place) (s : Located) (id : TyId) (to : ℕ) (ending : Ending) (w0 : State)
      (o out : Out State) →
      s.dynamic ≡ OfType id → Ends (Emptied_of place s w0) to ending o out → Ends (Changed s.address Gone w0) to ending
      (in_mode (mode_in ending) o (λ m. gone_at raw run s)) out
  shell-ends place s id to ending w0 o out found_is h =
      then_silent local_ty flags Walk (Emptied_of place s w0) (Changed s.address Gone w0) to ending o
      (λ m. gone_at raw run s) out h
      (λ m v v' e like.
      let stored = stored-Changed s.address Gone v (stands-known raw v (with_value s e.value) e.stands) in
      inr (
        stored_at s.address Gone v,
        ap (λ o. if_still_typed items s.dynamic o (λ s w. Go (stored_at s.address Gone w)) v) e.stands
            ∙ ap (λ b. same_if b (λ w. Go (stored_at s.address Gone w)) v) (ap (λ f. still_of items f f) found_is
            ∙ steady items id),
        e.change Gone (stored_at s.address Gone v) stored,
        silent (with_value s e.value) v (stored_at s.address Gone v) v' e.stands e.none like stored
            (record { asked = refl; ticks = refl; serial = refl; trace = refl }),
      ))

  pub if_into : (P : State → Type 0) (o : Option Located) (mid : ℕ) (ending : Ending) (w : State) (out : Out State) →
      ((t : Located) → o ≡ Some t → Ends P mid ending (drop_at raw run bound Begins t (mode_in ending) w) out) →
      Ends P mid ending (drop_if raw run frames spending bound o (mode_in ending) w) out
  if_into P None mid ending w out h = inl tt
  if_into P (Some t) mid ending w out h = h t refl

  -- nothing is left to be dropped
  pub gone-ends : (s : Located) (from to : ℕ) (ending : Ending) (w w' : State) → Walk from w' ≡ Walk to w' →
      s.value ≡ Gone → Stands raw w s → L w w' → w.ticks ≤ most →
      Ends (Changed s.address Gone w) to ending (drop_at raw run bound Begins s (mode_in ending) w) (Walk from w')
  gone-ends s from to ending w w' same e st like l =
      subst (Ends (Changed s.address Gone w) to ending (drop_at raw run bound Begins s (mode_in ending) w)) (sym same)
      (nothing-ends s to ending w w' st (ap serials e) (subst (λ d. Quiet items d s.dynamic) (sym e) tt)
      (subst (λ d. Sound items d s.dynamic) (sym e) tt) like l)
