-- Three frames of the run of a source under the watch over what the reference in a local names: whatever is done but
-- a call keeps that nothing bad was seen; what takes nothing of what is named keeps it kept; and what is not looked
-- at any more is not.
use Rattle.std.proofs.Common.{◌≡◌, ℕ, true, false, List, [], ◌∷◌, ◌++◌, map, flat_map, Option, refl}
use Rattle.std.proofs.lemmas.Bool.{false≢true}
use Rattle.mir_ty.specs.declared.ty.TyId.{TyId}
use Rattle.mir_ty.specs.ItemTable.{ItemTable}
use Rattle.store_model.specs.Effects as effects
use Rattle.store_model.specs.Effects.{EffectSite, Operand, Action, Test, Effects}
use Rattle.store_model.specs.Places.Place.{Place}
use Rattle.cfg_graph.specs.declared.graph.Body.{Body}
use Rattle.typed_tree.specs.Tree.{Form, BodyTree}
use Rattle.src_meaning.specs.Locals.Effects.{at_locals, place_at, operand_at, action_at, test_at, site_at}
use Rattle.src_meaning.specs.Locals.OfBody.{local_of, local_ty}
use Rattle.src_meaning.specs.Shape.{Aliases}
use Rattle.soundness_values.proofs.Leaving.{ShownOut}
use Rattle.soundness_frame.proofs.PassWithin.{Outer}
use Rattle.soundness_frame.proofs.PassFrameActs.{Takes, AllTake, AllowedSo, AllowedTest, is_plain, KeepingSo}
use Rattle.soundness_frame.proofs.PassFrameBodies.{any_place}
use Rattle.soundness_frame.proofs.PassFrameHeads.{Telling, TellingCalls}
use Rattle.lower_ready.proofs.NamedKept as kept
use Rattle.lower_ready.proofs.NamedKept.{look_clean, unused_clean, KeptSo, AllApart, apart_both, stored_apart, look_kept, passed_kept, LostSo, look_lost, passed_lost}
use Rattle.lower_ready.proofs.NamedLines.{apart, unused}
use Rattle.lower_ready.proofs.NamedWatch.{NamedState}
use Rattle.lower_ready.proofs.Noting.{operand_notes, before, tested, is_call}

module _ (items : ItemTable) (tree : BodyTree) (body : Body) (local : ℕ) (named : Place) where
  abbrev pub lo : ℕ → ℕ
  lo = local_of items tree

  abbrev pub tys : ℕ → Option TyId
  tys = local_ty items tree

  abbrev pub V : Type 0
  V = kept.V items tys body local named

  abbrev pub q : Effects V
  q = at_locals lo (kept.p items tys body local named)

  abbrev pub NotBad : V → Type 0
  NotBad = kept.NotBad items tys body local named

  abbrev pub Armed : V → Type 0
  Armed v = KeptSo body local named v.seen

  abbrev pub over : effects.Halt → V → Type 0
  over = kept.over items tys body local named

  -- a place of which something may be taken: it is apart from what is named, or the reference itself
  abbrev pub MayTake : Place → Type 0
  MayTake place = apart body local named (place_at lo place) ≡ true

  -- a destination that is handed on takes what is coerced out of no cell
  abbrev pub Coerced : Place → Type 0
  Coerced place = ⊥

  -- ---- that nothing bad was seen

  abbrev pub NoCall : Action → Type 0
  NoCall action = is_call (action_at lo action) ≡ true → ⊥

  abbrev pub any_site : EffectSite → Type 0
  any_site site = Unit {0}

  no_call : (action : Action) → is_plain action ≡ true → NoCall action
  no_call (effects.Call to callee args) p c = false≢true p
  no_call (effects.CallVirtual to trait_no method args) p c = false≢true p
  no_call action p c = false≢true c

  abbrev Clean : NamedState → Type 0
  Clean m = m.is_bad ≡ false

  pub acts_clean : (action : Action) → NoCall action → (v : V) → NotBad v →
      ShownOut over NotBad NotBad (q.act action v)
  acts_clean action n v i =
      kept.act_kept items tys body local named Clean (λ m j. j) (λ notes. Unit {0}) (λ xs ys a b. tt) (λ a. tt)
      (λ notes m ok j. look_clean body local named notes m j) (action_at lo action) tt (λ c m j. absurd (n c)) v i

  -- a call that does not pass the reference
  pub acts_unused : (action : Action) → unused body local named (before (action_at lo action)) ≡ true →
      (v : V) → NotBad v →
      ShownOut over NotBad NotBad (q.act action v)
  acts_unused action u v i =
      kept.act_kept items tys body local named Clean (λ m j. j) (λ notes. Unit {0}) (λ xs ys a b. tt) (λ a. tt)
      (λ notes m ok j. look_clean body local named notes m j) (action_at lo action) tt
      (λ c m j. unused_clean body local named (before (action_at lo action)) m u j) v i

  pub outer : KeepingSo q over NoCall any_site any_place Coerced any_place NotBad
  outer = record {
    acts = λ action v a d i. acts_clean action d v i;
    chooses = λ test v t i.
        kept.choose_kept items tys body local named Clean (λ m j. j) (λ notes. Unit {0}) (λ xs ys a b. tt) (λ a. tt)
        (λ notes m ok j. look_clean body local named notes m j) (test_at lo test) tt v i;
    drops = λ mode site v m d i.
        kept.drop_kept items tys body local named Clean (λ m j. j) (λ notes. Unit {0}) (λ xs ys a b. tt) (λ a. tt)
        (λ notes m ok j. look_clean body local named notes m j) mode (site_at lo site) tt v i;
    panics = λ why v i. i;
    ticks = λ v i.
        kept.tick_kept items tys body local named Clean (λ m j. j) (λ notes. Unit {0}) (λ xs ys a b. tt) (λ a. tt)
        (λ notes m ok j. look_clean body local named notes m j) v i;
    plain = λ action e c. no_call action e c;
    whole = λ key. tt;
    stores = λ place m. tt;
    coerces = λ place c. tt;
    aborts = λ v i. i;
    lapses = λ v i. i;
    stuck = λ v i. i;
  }

  -- ---- that what is named is kept

  take_spared : (o : Operand) → Takes MayTake o → AllApart body local named (operand_notes (operand_at lo o))
  take_spared (effects.Copied site) t = (refl, tt)
  take_spared (effects.Moved site) t = (t, tt)
  take_spared (effects.Number value kind) t = tt
  take_spared (effects.Truth value) t = tt
  take_spared effects.UnitValue t = tt

  all_spared : (os : List Operand) → AllTake MayTake os →
      AllApart body local named (flat_map operand_notes (map (operand_at lo) os))
  all_spared [] t = tt
  all_spared (o ∷ os) t = apart_both body local named (operand_notes (operand_at lo o))
      (flat_map operand_notes (map (operand_at lo) os)) (take_spared o t.0) (all_spared os t.1)

  pub operands_spared : (os : List Operand) → AllTake MayTake os →
      AllApart body local named (flat_map operand_notes (map (operand_at lo) os) ++ [])
  operands_spared os t = apart_both body local named (flat_map operand_notes (map (operand_at lo) os)) []
      (all_spared os t) tt

  allowed_spared : (action : Action) → AllowedSo any_place MayTake action →
      AllApart body local named (before (action_at lo action))
  allowed_spared (effects.Put to from) a = operands_spared (from ∷ []) (a.1, tt)
  allowed_spared (effects.Compare to operator left right) a = operands_spared (left ∷ right ∷ []) (a.1.0, (a.1.1, tt))
  allowed_spared (effects.Not to operand) a = operands_spared (operand ∷ []) (a.1, tt)
  allowed_spared (effects.Build to kind parts) a = operands_spared parts a.1
  allowed_spared (effects.NewBox to content) a = operands_spared (content ∷ []) (a.1, tt)
  allowed_spared (effects.Unsize to trait_no operand) a = operands_spared (operand ∷ []) (a.1, tt)
  allowed_spared (effects.Borrow to unique base) a = (refl, tt)
  allowed_spared (effects.Touch base) a = (refl, tt)
  allowed_spared (effects.Print operand) a = operands_spared (operand ∷ []) (a, tt)
  allowed_spared (effects.Forget operand) a = operands_spared (operand ∷ []) (a, tt)
  allowed_spared (effects.Free box) a = (a, tt)
  allowed_spared (effects.Compute to operator left right) a = operands_spared (left ∷ right ∷ []) (a.1.0, (a.1.1, tt))
  allowed_spared (effects.Negate to operand) a = operands_spared (operand ∷ []) (a.1, tt)
  allowed_spared (effects.Bounds index length) a = operands_spared (index ∷ []) (a, tt)
  allowed_spared (effects.Call to callee args) a = operands_spared args a.1
  allowed_spared (effects.CallVirtual to trait_no method args) a = operands_spared args a.1
  allowed_spared (effects.Ask to) a = tt

  tested_spared : (test : Test) → AllowedTest MayTake test → AllApart body local named (tested (test_at lo test))
  tested_spared (effects.IsTrue operand) t = operands_spared (operand ∷ []) (t, tt)
  tested_spared (effects.HasVariant site variant) t = (refl, tt)

  pub acts_armed : (action : Action) → AllApart body local named (before (action_at lo action)) → (v : V) → Armed v →
      ShownOut over Armed Armed (q.act action v)
  acts_armed action a v i =
      kept.act_kept items tys body local named (KeptSo body local named) (λ m j. j.0) (AllApart body local named)
      (apart_both body local named) (stored_apart body local named) (look_kept body local named) (action_at lo action) a
      (λ c m k. passed_kept body local named (action_at lo action) m a k) v i

  abbrev pub any_action : Action → Type 0
  any_action action = Unit {0}

  pub inner : KeepingSo q over any_action any_site any_place Coerced MayTake Armed
  inner = record {
    acts = λ action v a d i. acts_armed action (allowed_spared action a) v i;
    chooses = λ test v t i.
        kept.choose_kept items tys body local named (KeptSo body local named) (λ m j. j.0) (AllApart body local named)
        (apart_both body local named) (stored_apart body local named) (look_kept body local named) (test_at lo test)
        (tested_spared test t) v i;
    drops = λ mode site v m d i.
        kept.drop_kept items tys body local named (KeptSo body local named) (λ m j. j.0) (AllApart body local named)
        (apart_both body local named) (stored_apart body local named) (look_kept body local named) mode
        (site_at lo site) (m, tt) v i;
    panics = λ why v i. i;
    ticks = λ v i.
        kept.tick_kept items tys body local named (KeptSo body local named) (λ m j. j.0) (AllApart body local named)
        (apart_both body local named) (stored_apart body local named) (look_kept body local named) v i;
    plain = λ action e. tt;
    whole = λ key. tt;
    stores = λ place m. tt;
    coerces = λ place c. absurd c;
    aborts = λ v i. i.0;
    lapses = λ v i. i.0;
    stuck = λ v i. i.0;
  }

  -- of later arguments nothing more is said than which places they change
  abbrev pub nothing_said : Aliases → Outer → ℕ → Form → Type 0
  nothing_said aliases loops id form = Unit {0}

  pub inner_told : Telling items any_action any_site nothing_said
  inner_told = record {
    borrows = λ aliases loops id unique base s. tt;
    assigns = λ aliases loops id place value s. tt;
  }

  pub inner_calls : TellingCalls any_action nothing_said
  inner_calls = record {
    calls = λ aliases loops id key callee args s. tt;
    methods = λ aliases loops id key callee receiver args s. tt;
    virtuals = λ aliases loops id key trait_no method receiver args s. tt;
    closures = λ aliases loops id key callee value args s. tt;
  }

  -- ---- that nothing is looked at any more

  abbrev pub Away : V → Type 0
  Away v = LostSo body local named v.seen

  pub acts_away : (action : Action) → (v : V) → Away v → ShownOut over Away Away (q.act action v)
  acts_away action v i =
      kept.act_kept items tys body local named (LostSo body local named) (λ m j. j.0) (λ notes. Unit {0})
      (λ xs ys a b. tt) (λ a. tt) (λ notes m ok j. look_lost body local named notes m j) (action_at lo action) tt
      (λ c m j. passed_lost body local named (before (action_at lo action)) m j) v i

  pub away : KeepingSo q over any_action any_site any_place Coerced any_place Away
  away = record {
    acts = λ action v a d i. acts_away action v i;
    chooses = λ test v t i.
        kept.choose_kept items tys body local named (LostSo body local named) (λ m j. j.0) (λ notes. Unit {0})
        (λ xs ys a b. tt) (λ a. tt) (λ notes m ok j. look_lost body local named notes m j) (test_at lo test) tt v i;
    drops = λ mode site v m d i.
        kept.drop_kept items tys body local named (LostSo body local named) (λ m j. j.0) (λ notes. Unit {0})
        (λ xs ys a b. tt) (λ a. tt) (λ notes m ok j. look_lost body local named notes m j) mode
        (site_at lo site) tt v i;
    panics = λ why v i. i;
    ticks = λ v i.
        kept.tick_kept items tys body local named (LostSo body local named) (λ m j. j.0) (λ notes. Unit {0})
        (λ xs ys a b. tt) (λ a. tt) (λ notes m ok j. look_lost body local named notes m j) v i;
    plain = λ action e. tt;
    whole = λ key. tt;
    stores = λ place m. tt;
    coerces = λ place m. tt;
    aborts = λ v i. i.0;
    lapses = λ v i. i.0;
    stuck = λ v i. i.0;
  }
