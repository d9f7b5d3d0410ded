-- Effects in a run that marks what is left: a store into the whole of a cell makes it whole, and the drop of another leaves
-- it so.
use Rattle.std.proofs.Common.{◌≡◌, ℕ, ◌==◌, Bool, true, false, List, [], ◌∷◌, Option, Some, None, if◌then◌else◌, ap, sym, ◌∙◌, subst}
use Rattle.std.specs.Option.{option_map_or}
use Rattle.std.proofs.lemmas.Option.{none-some, same_Some}
use Rattle.mir_ty.specs.declared.ty.TyId.{TyId}
use Rattle.mir_ty.specs.Facts.{needs_drop}
use Rattle.mir_ty.specs.ItemTable.{ItemTable}
use Rattle.store_model.specs.Abstract.Effects as free
use Rattle.store_model.specs.Abstract.Effects.{AbstractState, presence, when, operands_used, operand_used, store, panics_by_choice, returns_by_choice, computed_by_choice, acted, acted_on, watched_at, may_use, may_store, never_at, presence_of}
use Rattle.store_model.specs.Abstract.Presence.{all_present}
use Rattle.store_model.specs.Effects as effects
use Rattle.store_model.specs.Effects.{EffectSite, Operand, Action, Mode, Normal, Unwinding, Halt, Aborted, BadUse, BadStore, NoChoice, Infeasible, Unreachable, Out, Go, Unwind, Halts, on_go, halting_if, stores_where, stored_by}
use Rattle.typed_tree.specs.Tree.{BodyTree}
use Rattle.src_meaning.specs.Forms.{site_in}
use Rattle.src_meaning.specs.Locals.Effects.{action_at, site_at}
use Rattle.src_meaning.specs.Locals.OfBody.{local_of, local_ty}
use Rattle.src_meaning.specs.Scopes.{entry_site}
use Rattle.soundness_values.proofs.AlsoTests.{Also}
use Rattle.soundness_values.proofs.Checked.{Checking, with_facts}
use Rattle.soundness_values.proofs.Facts.{Facts}
use Rattle.soundness_values.proofs.Leaving.{ShownOut}
use Rattle.soundness_values.proofs.LocalPresence.{presence_changed, presence_other}
use Rattle.soundness_cells.proofs.PassMarks.{marked}
use Rattle.soundness.proofs.PassPlacesEffects.{q}
use Rattle.soundness.proofs.PassReplacedBy.{other_local}
use Rattle.soundness.proofs.PassResultRules.{KeepsWhole}

abbrev any_way : {V : Type 0} → Halt → V → Type 0
any_way halt v = Unit {0}

module _ (items : ItemTable) (ty_of_local : ℕ → Option TyId) (local : ℕ) where
  abbrev pub FullAt : AbstractState → Type 0
  FullAt w = all_present (presence local w.cells) ≡ true

  abbrev pub whole_at : ℕ → EffectSite
  whole_at n = record { node = n; place = record { local = local; steps = [] } }

  -- where it goes on, the local is whole
  abbrev pub Fills : Out AbstractState → Type 0
  Fills = ShownOut any_way FullAt (λ w. Unit {0})

  when_fills : (b : Bool) (halt : Halt) (next : AbstractState → Out AbstractState) (w : AbstractState) → Fills (next w) →
      Fills (when b halt next w)
  when_fills true halt next w h = h
  when_fills false halt next w h = tt

  go_fills : (o : Out AbstractState) (next : AbstractState → Out AbstractState) → ((w : AbstractState) → Fills (next w)) →
      Fills (on_go o next)
  go_fills (Go w) next f = f w
  go_fills (Unwind w) next f = tt
  go_fills (Halts halt w) next f = tt

  store_fills : (to : EffectSite) (n : ℕ) → to ≡ whole_at n → (w : AbstractState) → Fills (store items ty_of_local to w)
  store_fills to n e w = subst (λ s. Fills (store items ty_of_local s w)) (sym e)
      (when_fills (may_store (watched_at items ty_of_local (whole_at n)) (presence_of items ty_of_local (whole_at n) w))
      (BadStore (whole_at n)) (λ w. Go (free.after items ty_of_local false (whole_at n) w)) w
      (ap all_present (presence_changed local (acted false (watched_at items ty_of_local (whole_at n))) w.cells)))

  operands_fill : (operands : List Operand) (next : AbstractState → Out AbstractState) →
      ((w : AbstractState) → Fills (next w)) → (w : AbstractState) → Fills (operands_used items ty_of_local operands next w)
  operands_fill [] next f w = f w
  operands_fill (operand ∷ operands) next f w = go_fills (operand_used items ty_of_local operand w)
      (operands_used items ty_of_local operands next) (λ v. operands_fill operands next f v)

  choice_fills : (next : AbstractState → Out AbstractState) → ((w : AbstractState) → Fills (next w)) →
      (w : AbstractState) → Fills (panics_by_choice w next)
  choice_fills next f w = by w.choices
    where
      by : (list : List Bool) → Fills (free.next_choice list w next Unwind)
      by [] = tt
      by (false ∷ rest) = f (record w { choices = rest })
      by (true ∷ rest) = tt

  returned_fills : (to : EffectSite) (n : ℕ) → to ≡ whole_at n → (w : AbstractState) →
      Fills (returns_by_choice items ty_of_local to w)
  returned_fills to n e w = choice_fills _ (λ v. by (never_at items ty_of_local to) v) w
    where
      by : (b : Bool) (v : AbstractState) → Fills ((if b then Halts Infeasible else store items ty_of_local to) v)
      by true v = tt
      by false v = store_fills to n e v

  computed_fills : (to : EffectSite) (n : ℕ) → to ≡ whole_at n → (w : AbstractState) →
      Fills (computed_by_choice items ty_of_local to w)
  computed_fills to n e w = choice_fills (store items ty_of_local to) (store_fills to n e) w

  acted_fills : (action : Action) (n : ℕ) → stored_by action ≡ Some (whole_at n) → (w : AbstractState) →
      Fills (acted_on items ty_of_local action w)
  acted_fills (effects.Put to from) n e w =
      operands_fill (from ∷ []) _ (store_fills to n (same_Some to (whole_at n) e)) w
  acted_fills (effects.Compare to operator left right) n e w =
      operands_fill (left ∷ right ∷ []) _ (store_fills to n (same_Some to (whole_at n) e)) w
  acted_fills (effects.Not to operand) n e w =
      operands_fill (operand ∷ []) _ (store_fills to n (same_Some to (whole_at n) e)) w
  acted_fills (effects.Build to kind parts) n e w =
      operands_fill parts _ (store_fills to n (same_Some to (whole_at n) e)) w
  acted_fills (effects.NewBox to content) n e w =
      operands_fill (content ∷ []) _ (store_fills to n (same_Some to (whole_at n) e)) w
  acted_fills (effects.Unsize to trait_no operand) n e w =
      operands_fill (operand ∷ []) _ (store_fills to n (same_Some to (whole_at n) e)) w
  acted_fills (effects.Borrow to unique base) n e w =
      when_fills (may_use (watched_at items ty_of_local base) (presence_of items ty_of_local base w)) (BadUse base)
      (store items ty_of_local to) w (store_fills to n (same_Some to (whole_at n) e) w)
  acted_fills (effects.Touch base) n e w = absurd (none-some (whole_at n) e)
  acted_fills (effects.Print operand) n e w = absurd (none-some (whole_at n) e)
  acted_fills (effects.Forget operand) n e w = absurd (none-some (whole_at n) e)
  acted_fills (effects.Free box) n e w = absurd (none-some (whole_at n) e)
  acted_fills (effects.Compute to operator left right) n e w =
      operands_fill (left ∷ right ∷ []) _ (computed_fills to n (same_Some to (whole_at n) e)) w
  acted_fills (effects.Negate to operand) n e w =
      operands_fill (operand ∷ []) _ (computed_fills to n (same_Some to (whole_at n) e)) w
  acted_fills (effects.Bounds index length) n e w = absurd (none-some (whole_at n) e)
  acted_fills (effects.Call to callee args) n e w =
      operands_fill args _ (returned_fills to n (same_Some to (whole_at n) e)) w
  acted_fills (effects.CallVirtual to trait_no method args) n e w =
      operands_fill args _ (returned_fills to n (same_Some to (whole_at n) e)) w
  acted_fills (effects.Ask to) n e w = computed_fills to n (same_Some to (whole_at n) e) w

  pub halting_fills : (b : Bool) (o : Out AbstractState) → Fills o → Fills (halting_if b Unreachable o)
  halting_fills true (Go w) h = tt
  halting_fills true (Unwind w) h = tt
  halting_fills true (Halts halt w) h = tt
  halting_fills false o h = h

  -- the drop of another local
  abbrev pub Leaves : AbstractState → Out AbstractState → Type 0
  Leaves before = ShownOut any_way (λ w. FullAt before → FullAt w) (λ w. FullAt before → FullAt w)

  pub drop_leaves : (mode : Mode) (site : EffectSite) (w : AbstractState) → (local == site.place.local) ≡ false →
      Leaves w (free.drop items ty_of_local mode site w)
  drop_leaves mode site w other =
      may (may_store (watched_at items ty_of_local site) (presence_of items ty_of_local site w))
    where
      taken : FullAt w → FullAt (free.after items ty_of_local true site w)
      taken h = ap all_present (presence_other site.place.local local
          (acted true (watched_at items ty_of_local site)) w.cells other) ∙ h

      unwound : (mode : Mode) → Leaves w (free.unwound items ty_of_local mode (free.after items ty_of_local true site w))
      unwound Normal = taken
      unwound Unwinding = tt

      chosen : (list : List Bool) → Leaves w (free.next_choice list w (λ w. Go (free.after items ty_of_local true site w))
          (λ w. free.unwound items ty_of_local mode (free.after items ty_of_local true site w)))
      chosen [] = tt
      chosen (false ∷ rest) = taken
      chosen (true ∷ rest) = of_mode mode
        where
          of_mode : (mode : Mode) → Leaves w (free.unwound items ty_of_local mode
              (free.after items ty_of_local true site (record w { choices = rest })))
          of_mode Normal = taken
          of_mode Unwinding = tt

      dropped : (b : Bool) → Leaves w (free.dropped items ty_of_local b mode site w)
      dropped true = chosen w.choices
      dropped false = taken

      may : (b : Bool) → Leaves w (when b (BadStore site)
          (free.dropped items ty_of_local
          (option_map_or (needs_drop items) (free.ty_at items ty_of_local site) false) mode site) w)
      may true = dropped (option_map_or (needs_drop items) (free.ty_at items ty_of_local site) false)
      may false = tt

module _ (items : ItemTable) (body : BodyTree) (also : Also) (z : ℕ) where
  abbrev V : Type 0
  V = Checking Facts

  abbrev L : ℕ → ℕ
  L = local_of items body

  -- the cell of the key is whole
  abbrev pub Full : V → Type 0
  Full v = all_present (presence (L z) v.free.cells) ≡ true

  same_site : (to s : EffectSite) → Some to ≡ Some s → Some (site_at L to) ≡ Some (site_at L s)
  same_site to s e = ap (λ t. Some (site_at L t)) (same_Some to s e)

  stored_at : (action : Action) (s : EffectSite) → stored_by action ≡ Some s →
      stored_by (action_at L action) ≡ Some (site_at L s)
  stored_at (effects.Put to from) s e = same_site to s e
  stored_at (effects.Compare to operator left right) s e = same_site to s e
  stored_at (effects.Not to operand) s e = same_site to s e
  stored_at (effects.Build to kind parts) s e = same_site to s e
  stored_at (effects.NewBox to content) s e = same_site to s e
  stored_at (effects.Unsize to trait_no operand) s e = same_site to s e
  stored_at (effects.Borrow to unique base) s e = same_site to s e
  stored_at (effects.Touch base) s e = absurd (none-some s e)
  stored_at (effects.Print operand) s e = absurd (none-some s e)
  stored_at (effects.Forget operand) s e = absurd (none-some s e)
  stored_at (effects.Free box) s e = absurd (none-some s e)
  stored_at (effects.Compute to operator left right) s e = same_site to s e
  stored_at (effects.Negate to operand) s e = same_site to s e
  stored_at (effects.Bounds index length) s e = absurd (none-some s e)
  stored_at (effects.Call to callee args) s e = same_site to s e
  stored_at (effects.CallVirtual to trait_no method args) s e = same_site to s e
  stored_at (effects.Ask to) s e = same_site to s e

  out_full : (mark : Option ℕ) (v : V) (went unwound : Facts) (o : Out AbstractState) →
      Fills items (local_ty items body) (L z) o →
      ShownOut any_way Full (λ w. Unit {0}) (marked mark v (with_facts went unwound o))
  out_full None v went unwound (Go w) h = h
  out_full None v went unwound (Unwind w) h = tt
  out_full None v went unwound (Halts halt w) h = tt
  out_full (Some m) v went unwound o h = tt

  out_left : (mark : Option ℕ) (v : V) (went unwound : Facts) (o : Out AbstractState) →
      Leaves items (local_ty items body) (L z) v.free o →
      ShownOut any_way (λ w. Full v → Full w) (λ w. Full v → Full w) (marked mark v (with_facts went unwound o))
  out_left None v went unwound (Go w) h = h
  out_left None v went unwound (Unwind w) h = h
  out_left None v went unwound (Halts halt w) h = tt
  out_left (Some m) v went unwound o h = tt

  pub keeps_whole : KeepsWhole (q items body also) z Full
  keeps_whole = record {
    stores = λ action n v e. out_full _ v _ _ _
        (halting_fills items (local_ty items body) (L z)
        (stores_where (never_at items (local_ty items body)) (action_at L action))
        (acted_on items (local_ty items body) (action_at L action) v.free)
        (acted_fills items (local_ty items body) (L z) (action_at L action) n
        (stored_at action (site_in n z) e) v.free));
    drops = λ mode e v differ. out_left _ v _ _ _
        (drop_leaves items (local_ty items body) (L z) mode (site_at L (entry_site e)) v.free
        (other_local items body also z e.key (λ same. differ (sym same))));
  }
