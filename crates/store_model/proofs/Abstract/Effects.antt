-- The effects of a free run give no choice back.
use Rattle.std.proofs.Common.{ℕ, ◌≤◌, Bool, true, false, List, [], ◌∷◌, length, if◌then◌else◌, Option, arith}
use Rattle.std.specs.Option.{option_map_or}
use Rattle.mir_ty.specs.declared.ty.TyId.{TyId}
use Rattle.mir_ty.specs.Facts.{needs_drop}
use Rattle.mir_ty.specs.ItemTable.{ItemTable}
use Rattle.store_model.proofs.Effects.Laws.{NoMore, NoMoreOf, Ticked, Laws, Keeps}
use Rattle.store_model.specs.Effects as effects
use Rattle.store_model.specs.Effects.{EffectSite, Operand, Action, Test, Mode, Normal, Unwinding, Halt, Infeasible, Unreachable, Out, Go, Unwind, Halts, Choice, Effects}
use Rattle.store_model.specs.Places.Place.{place_ty}
use Rattle.store_model.specs.Abstract.Effects.{AbstractState, next_choice, chosen_next, choice_after, when, may_use, may_test, may_store, watched_at, presence_of, after, never_at, using, unless_never, operand_used, operands_used, store, returns_by_choice, computed_by_choice, acted_on, act, choose, unwound, dropped, drop, abstract_effects}

abbrev pub choices_of : AbstractState → ℕ
choices_of w = length w.choices

module _ (m : ℕ) where
  choice_less_one : (list : List Bool) (w : AbstractState) (f h : AbstractState → Out AbstractState) → length list ≤ m → Keeps choices_of m f → Keeps choices_of m h →
      NoMore choices_of m (next_choice list w f h)
  choice_less_one [] w f h l e d = tt
  choice_less_one (false ∷ list) w f h l e d = e (record w { choices = list }) (omega arith)
  choice_less_one (true ∷ list) w f h l e d = d (record w { choices = list }) (omega arith)

  chosen_less : (list : List Bool) (w : AbstractState) → length list ≤ m → NoMoreOf choices_of m (chosen_next list w)
  chosen_less [] w l = tt
  chosen_less (false ∷ list) w l = omega arith
  chosen_less (true ∷ list) w l = omega arith

  choice_less : (o : Out AbstractState) → NoMore choices_of m o → NoMoreOf choices_of m (choice_after o)
  choice_less (Go w) l = chosen_less w.choices w l
  choice_less (Unwind w) l = tt
  choice_less (Halts halt w) l = tt

  when_less : (b : Bool) (halt : Halt) (next : AbstractState → Out AbstractState) → Keeps choices_of m next → Keeps choices_of m (when b halt next)
  when_less true halt next e w l = e w l
  when_less false halt next e w l = tt

  go_less : (o : Out AbstractState) → NoMore choices_of m o → (next : AbstractState → Out AbstractState) → Keeps choices_of m next → NoMore choices_of m (effects.on_go o next)
  go_less (Go w) l next e = e w l
  go_less (Unwind w) l next e = l
  go_less (Halts halt w) l next e = tt

  halting_less : (b : Bool) (halt : Halt) (o : Out AbstractState) → NoMore choices_of m o → NoMore choices_of m (effects.halting_if b halt o)
  halting_less true halt (Go w) l = tt
  halting_less true halt (Unwind w) l = l
  halting_less true halt (Halts other w) l = tt
  halting_less false halt o l = l

  module _ (table : ItemTable) (local_ty : ℕ → Option TyId) where
    never_less : (b : Bool) → Keeps choices_of m (unless_never table local_ty b)
    never_less true w l = tt
    never_less false w l = l

    using_less : (site : EffectSite) (next : AbstractState → Out AbstractState) → Keeps choices_of m next → Keeps choices_of m (using table local_ty site next)
    using_less site next e w l = when_less (may_use (watched_at table local_ty site) (presence_of table local_ty site w)) (effects.BadUse site) next e w l

    operand_less : (operand : Operand) → Keeps choices_of m (operand_used table local_ty operand)
    operand_less (effects.Copied site) w l = using_less site (unless_never table local_ty (never_at table local_ty site)) (never_less (never_at table local_ty site)) w l
    operand_less (effects.Moved site) w l = using_less site (λ w. Go (after table local_ty true site w)) (λ v k. k) w l
    operand_less (effects.Number value kind) w l = l
    operand_less (effects.Truth value) w l = l
    operand_less effects.UnitValue w l = l

    operands_less : (operands : List Operand) (next : AbstractState → Out AbstractState) → Keeps choices_of m next → Keeps choices_of m (operands_used table local_ty operands next)
    operands_less [] next e w l = e w l
    operands_less (operand ∷ operands) next e w l =
        go_less (operand_used table local_ty operand w) (operand_less operand w l) _ (operands_less operands next e)

    store_less : (to : EffectSite) → Keeps choices_of m (store table local_ty to)
    store_less to w l =
        when_less (may_store (watched_at table local_ty to) (presence_of table local_ty to w)) (effects.BadStore to)
        (λ w. Go (after table local_ty false to w)) (λ v k. k) w l

    computed_less : (to : EffectSite) → Keeps choices_of m (computed_by_choice table local_ty to)
    computed_less to w l = choice_less_one w.choices w _ _ l (store_less to) (λ v k. k)

    unless_never_returns : (b : Bool) (to : EffectSite) → Keeps choices_of m (if b then Halts Infeasible else store table local_ty to)
    unless_never_returns true to w l = tt
    unless_never_returns false to w l = store_less to w l

    returns_less : (to : EffectSite) → Keeps choices_of m (returns_by_choice table local_ty to)
    returns_less to w l = choice_less_one w.choices w _ _ l (unless_never_returns (never_at table local_ty to) to) (λ v k. k)

    acted_less : (action : Action) → Keeps choices_of m (acted_on table local_ty action)
    acted_less (effects.Put to from) w l = operands_less (from ∷ []) _ (store_less to) w l
    acted_less (effects.Compare to operator left right) w l = operands_less (left ∷ right ∷ []) _ (store_less to) w l
    acted_less (effects.Not to operand) w l = operands_less (operand ∷ []) _ (store_less to) w l
    acted_less (effects.Build to kind parts) w l = operands_less parts _ (store_less to) w l
    acted_less (effects.NewBox to content) w l = operands_less (content ∷ []) _ (store_less to) w l
    acted_less (effects.Unsize to trait_no operand) w l = operands_less (operand ∷ []) _ (store_less to) w l
    acted_less (effects.Borrow to unique base) w l = using_less base (store table local_ty to) (store_less to) w l
    acted_less (effects.Touch base) w l = using_less base Go (λ v k. k) w l
    acted_less (effects.Print operand) w l = operands_less (operand ∷ []) _ (λ v k. k) w l
    acted_less (effects.Forget operand) w l = operands_less (operand ∷ []) _ (λ v k. k) w l
    acted_less (effects.Free box) w l = l
    acted_less (effects.Compute to operator left right) w l = operands_less (left ∷ right ∷ []) _ (computed_less to) w l
    acted_less (effects.Negate to operand) w l = operands_less (operand ∷ []) _ (computed_less to) w l
    acted_less (effects.Bounds index count) w l = operands_less (index ∷ []) _ (λ v k. choice_less_one v.choices v _ _ k (λ u j. j) (λ u j. j)) w l
    acted_less (effects.Call to body args) w l = operands_less args _ (returns_less to) w l
    acted_less (effects.CallVirtual to trait_no method args) w l = operands_less args _ (returns_less to) w l
    acted_less (effects.Ask to) w l = computed_less to w l

    act_less : (action : Action) → Keeps choices_of m (act table local_ty action)
    act_less action w l =
        halting_less (effects.stores_where (never_at table local_ty) action) Unreachable (acted_on table local_ty action w)
        (acted_less action w l)

    choose_less : (test : Test) (w : AbstractState) → choices_of w ≤ m → NoMoreOf choices_of m (choose table local_ty test w)
    choose_less (effects.IsTrue operand) w l = choice_less (operand_used table local_ty operand w) (operand_less operand w l)
    choose_less (effects.HasVariant site variant) w l =
        choice_less (when (may_test (watched_at table local_ty site) (presence_of table local_ty site w)) (effects.BadUse site) Go w)
        (when_less (may_test (watched_at table local_ty site) (presence_of table local_ty site w)) (effects.BadUse site) Go (λ v k. k) w l)

    abbrev needs_drop_at : EffectSite → Bool
    needs_drop_at site = option_map_or (needs_drop table) (place_ty table local_ty site.place) false

    unwound_less : (mode : Mode) → Keeps choices_of m (unwound table local_ty mode)
    unwound_less Normal w l = l
    unwound_less Unwinding w l = tt

    dropped_less : (b : Bool) (mode : Mode) (site : EffectSite) → Keeps choices_of m (dropped table local_ty b mode site)
    dropped_less true mode site w l = choice_less_one w.choices w _ _ l (λ v k. k) (λ v k. unwound_less mode _ k)
    dropped_less false mode site w l = l

    drop_less : (mode : Mode) (site : EffectSite) → Keeps choices_of m (drop table local_ty mode site)
    drop_less mode site w l =
        when_less (may_store (watched_at table local_ty site) (presence_of table local_ty site w)) (effects.BadStore site)
        (dropped table local_ty (needs_drop_at site) mode site) (dropped_less (needs_drop_at site) mode site) w l

ticked_less : (list : List Bool) (w : AbstractState) → Ticked choices_of (length list) (next_choice list w Go (Halts Infeasible))
ticked_less [] w = tt
ticked_less (false ∷ list) w = omega arith
ticked_less (true ∷ list) w = tt

pub free_laws : (table : ItemTable) (local_ty : ℕ → Option TyId) → Laws (abstract_effects table local_ty) choices_of
free_laws table local_ty = record {
  acting = λ action w. act_less (choices_of w) table local_ty action w (omega arith);
  choosing = λ test w. choose_less (choices_of w) table local_ty test w (omega arith);
  dropping = λ mode site w. drop_less (choices_of w) table local_ty mode site w (omega arith);
  panicking = λ why w. omega arith;
  ticking = λ w. ticked_less w.choices w;
  giving = λ site w. omega arith;
}
