-- The effects of a free run: what is present and gone, without values. A condition may go either way, and what can
-- panic may panic: a list of choices answers, 1 for true and for a panic. Called bodies are not entered. A run ends at
-- the first use of a place that is refused (The Rust Reference, "Moved and copied types"; rustc's error E0382).
use Rattle.std.specs.Prelude.{ℕ, ◌==◌, Bool, true, false, List, [], ◌∷◌, Option, option_and_then, if◌then◌else◌}
use Rattle.std.specs.Option.{option_map_or}
use Rattle.mir_ty.specs.declared.ty.TyId.{TyId}
use Rattle.mir_ty.specs.Facts.{needs_drop}
use Rattle.mir_ty.specs.ItemTable.{ItemTable, type_at}
use Rattle.store_model.specs.Effects as effects
use Rattle.store_model.specs.Effects.{EffectSite, Operand, Action, Test, Mode, Normal, Unwinding, Halt, Aborted, BadUse, BadStore, NoChoice, Infeasible, Unreachable, Out, Go, Unwind, Halts, Choice, Yes, No, Neither, Effects, halting_if}
use Rattle.store_model.specs.Places.Place.{place_ty, Watched, Whole, ThroughReference, ByElement, watched}
use Rattle.store_model.specs.Abstract.Presence.{Presence, is_present, is_gone, after_action, containers_present, is_whole_at, is_there_at}
use Rattle.store_model.specs.Places.TypeForms.{is_never}

-- what is known of the locals of a body, each gone where nothing is named; and the choices that are left
pub record AbstractState : Type 0 where
  pub cells : List (ℕ × Presence)
  pub choices : List Bool

abbrev pub presence : ℕ → List (ℕ × Presence) → Presence
presence key [] = is_gone
presence key (c ∷ cells) = if key == c.0 then c.1 else presence key cells

abbrev pub with_presence : ℕ → (Presence → Presence) → List (ℕ × Presence) → List (ℕ × Presence)
with_presence key change [] = (key, change is_gone) ∷ []
with_presence key change (c ∷ cells) =
    if key == c.0 then (key, change c.1) ∷ cells else c ∷ with_presence key change cells

-- Whether a place may be used: what is behind a reference is not watched, and an element that a local names is
-- watched as its whole array.

-- copied, moved, borrowed or read as a whole: no place at or below it is gone, and no container of it
abbrev pub may_use : Watched → Presence → Bool
may_use w p = elim w.reach [
  | Whole ↦ is_whole_at w.steps p
  | ThroughReference ↦ is_there_at w.steps p
  | ByElement ↦ is_whole_at w.steps p
]

-- tested: neither the place itself is gone nor a container of it
abbrev pub may_test : Watched → Presence → Bool
may_test w p = elim w.reach [
  | Whole ↦ is_there_at w.steps p
  | ThroughReference ↦ is_there_at w.steps p
  | ByElement ↦ is_whole_at w.steps p
]

-- stored into or dropped: no container of the place is gone
abbrev pub may_store : Watched → Presence → Bool
may_store w p = elim w.reach [
  | Whole ↦ containers_present w.steps p
  | ThroughReference ↦ is_there_at w.steps p
  | ByElement ↦ is_whole_at w.steps p
]

-- what is done behind a reference, or at an element that a local names, counts for no place
abbrev pub acted : Bool → Watched → Presence → Presence
acted takes w p = elim w.reach [ Whole ↦ after_action takes w.steps p | ThroughReference ↦ p | ByElement ↦ p ]

-- one choice: 0, 1, or none is left
abbrev pub next_choice : List Bool → AbstractState → (AbstractState → Out AbstractState) →
    (AbstractState → Out AbstractState) → Out AbstractState
next_choice [] w zero_does one_does = Halts NoChoice w
next_choice (false ∷ rest) w zero_does one_does = zero_does (record w { choices = rest })
next_choice (true ∷ rest) w zero_does one_does = one_does (record w { choices = rest })

abbrev pub chosen_next : List Bool → AbstractState → Choice AbstractState
chosen_next [] w = Neither NoChoice w
chosen_next (false ∷ rest) w = No (record w { choices = rest })
chosen_next (true ∷ rest) w = Yes (record w { choices = rest })

abbrev pub choice_after : Out AbstractState → Choice AbstractState
choice_after (Go w) = chosen_next w.choices w
choice_after (Unwind w) = Neither Infeasible w
choice_after (Halts halt w) = Neither halt w

abbrev pub when : Bool → Halt → (AbstractState → Out AbstractState) → AbstractState → Out AbstractState
when true halt next w = next w
when false halt next w = Halts halt w

abbrev pub panics_by_choice : AbstractState → (AbstractState → Out AbstractState) → Out AbstractState
panics_by_choice w next = next_choice w.choices w next Unwind

module _ (table : ItemTable) (local_ty : ℕ → Option TyId) where
  abbrev pub watched_at : EffectSite → Watched
  watched_at site = watched table (local_ty site.place.local) site.place.steps

  abbrev pub ty_at : EffectSite → Option TyId
  ty_at site = place_ty table local_ty site.place

  abbrev pub never_at : EffectSite → Bool
  never_at site = is_never (option_and_then (type_at table) (ty_at site))

  abbrev pub presence_of : EffectSite → AbstractState → Presence
  presence_of site w = presence site.place.local w.cells

  abbrev pub after : Bool → EffectSite → AbstractState → AbstractState
  after takes site w = record w { cells = with_presence site.place.local (acted takes (watched_at site)) w.cells }

  abbrev pub using : EffectSite → (AbstractState → Out AbstractState) → AbstractState → Out AbstractState
  using site next w = when (may_use (watched_at site) (presence_of site w)) (BadUse site) next w

  -- no value of the type `!` is ever made, so past a copy of one there is no run
  abbrev pub unless_never : Bool → AbstractState → Out AbstractState
  unless_never true w = Halts Unreachable w
  unless_never false w = Go w

  abbrev pub operand_used : Operand → AbstractState → Out AbstractState
  operand_used (effects.Copied site) w = using site (unless_never (never_at site)) w
  operand_used (effects.Moved site) w = using site (λ w. Go (after true site w)) w
  operand_used value w = Go w

  abbrev pub operands_used : List Operand → (AbstractState → Out AbstractState) → AbstractState → Out AbstractState
  operands_used [] next w = next w
  operands_used (operand ∷ operands) next w = effects.on_go (operand_used operand w) (operands_used operands next)

  abbrev pub store : EffectSite → AbstractState → Out AbstractState
  store to w = when (may_store (watched_at to) (presence_of to w)) (BadStore to) (λ w. Go (after false to w)) w

  -- a call ends by returning or by a panic; one whose result has type `!` does not return
  abbrev pub returns_by_choice : EffectSite → AbstractState → Out AbstractState
  returns_by_choice to w = panics_by_choice w (if never_at to then Halts Infeasible else store to)

  abbrev pub computed_by_choice : EffectSite → AbstractState → Out AbstractState
  computed_by_choice to w = panics_by_choice w (store to)

  abbrev pub acted_on : Action → AbstractState → Out AbstractState
  acted_on (effects.Put to from) w = operands_used (from ∷ []) (store to) w
  acted_on (effects.Compare to operator left right) w = operands_used (left ∷ right ∷ []) (store to) w
  acted_on (effects.Not to operand) w = operands_used (operand ∷ []) (store to) w
  acted_on (effects.Build to kind parts) w = operands_used parts (store to) w
  acted_on (effects.NewBox to content) w = operands_used (content ∷ []) (store to) w
  acted_on (effects.Unsize to trait_no operand) w = operands_used (operand ∷ []) (store to) w
  acted_on (effects.Borrow to unique base) w = using base (store to) w
  acted_on (effects.Touch base) w = using base Go w
  acted_on (effects.Print operand) w = operands_used (operand ∷ []) Go w
  acted_on (effects.Forget operand) w = operands_used (operand ∷ []) Go w
  acted_on (effects.Free box) w = Go (after true box w)
  acted_on (effects.Compute to operator left right) w = operands_used (left ∷ right ∷ []) (computed_by_choice to) w
  acted_on (effects.Negate to operand) w = operands_used (operand ∷ []) (computed_by_choice to) w
  acted_on (effects.Bounds index length) w = operands_used (index ∷ []) (λ w. panics_by_choice w Go) w
  acted_on (effects.Call to body args) w = operands_used args (returns_by_choice to) w
  acted_on (effects.CallVirtual to trait_no method args) w = operands_used args (returns_by_choice to) w
  acted_on (effects.Ask to) w = computed_by_choice to w

  -- nor is there one past a store of it
  abbrev pub act : Action → AbstractState → Out AbstractState
  act action w = halting_if (effects.stores_where never_at action) Unreachable (acted_on action w)

  abbrev pub choose : Test → AbstractState → Choice AbstractState
  choose (effects.IsTrue operand) w = choice_after (operand_used operand w)
  choose (effects.HasVariant site variant) w =
      choice_after (when (may_test (watched_at site) (presence_of site w)) (BadUse site) Go w)

  abbrev pub unwound : Mode → AbstractState → Out AbstractState
  unwound Normal w = Unwind w
  unwound Unwinding w = Halts Aborted w

  -- what needs dropping takes a choice, whether it is gone or not; it is gone then, also after a panic
  abbrev pub dropped : Bool → Mode → EffectSite → AbstractState → Out AbstractState
  dropped true mode site w =
      next_choice w.choices w (λ w. Go (after true site w)) (λ w. unwound mode (after true site w))
  dropped false mode site w = Go (after true site w)

  abbrev pub drop : Mode → EffectSite → AbstractState → Out AbstractState
  drop mode site w =
      when (may_store (watched_at site) (presence_of site w)) (BadStore site)
      (dropped (option_map_or (needs_drop table) (ty_at site) false) mode site) w

  -- a turn of a loop always takes the choice 0
  abbrev pub tick : AbstractState → Out AbstractState
  tick w = next_choice w.choices w Go (Halts Infeasible)

  abbrev pub abstract_effects : Effects AbstractState
  abstract_effects =
      record { act = act; choose = choose; drop = drop; panic = λ why w. w; tick = tick; give = λ site w. Go w }

abbrev pub params_present : List ℕ → List (ℕ × Presence)
params_present [] = []
params_present (key ∷ keys) = (key, is_present) ∷ params_present keys

-- a free run begins with its parameters
abbrev pub at_start : List ℕ → List Bool → AbstractState
at_start params items = record { cells = params_present params; choices = items }
