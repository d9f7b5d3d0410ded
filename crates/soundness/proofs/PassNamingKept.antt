-- What holds of all references that are known holds of them after each action: these are fewer then, but for the one
-- that a borrow makes.
use Rattle.std.proofs.Common.{ℕ, Bool, true, false, List, [], ◌∷◌, Option}
use Rattle.mir_ty.specs.declared.ty.TyId.{TyId}
use Rattle.mir_ty.specs.ItemTable.{ItemTable}
use Rattle.store_model.specs.Effects as effects
use Rattle.store_model.specs.Effects.{EffectSite, Operand, Action, Test}
use Rattle.store_model.specs.Places.Place.{Place}
use Rattle.soundness_values.proofs.Checks as checks
use Rattle.soundness_values.proofs.Facts.{Naming, Facts, Each, each_kept, without}

module _ (items : ItemTable) (local_ty : ℕ → Option TyId) (is_target : ℕ → Bool) (P : Naming → Type 0) where
  abbrev pub AllNamed : Facts → Type 0
  AllNamed facts = Each P facts.naming

  pub without_named : (place : Place) (facts : Facts) → AllNamed facts → AllNamed (without place facts)
  without_named place facts h = each_kept P P _ facts.naming (λ m e k. k) h

  pub operand_named : (operand : Operand) (facts : Facts) → AllNamed facts →
      AllNamed (checks.after_operand items local_ty is_target operand facts)
  operand_named (effects.Copied site) facts h = h
  operand_named (effects.Moved site) facts h = without_named site.place facts h
  operand_named (effects.Number value kind) facts h = h
  operand_named (effects.Truth value) facts h = h
  operand_named effects.UnitValue facts h = h

  -- after what is taken and what is stored then
  one_stored : (to : EffectSite) (operand : Operand) (facts : Facts) → AllNamed facts →
      AllNamed (without to.place (checks.after_operand items local_ty is_target operand facts))
  one_stored to operand facts h = without_named to.place (checks.after_operand items local_ty is_target operand facts)
      (operand_named operand facts h)

  two_named : (left right : Operand) (facts : Facts) → AllNamed facts → AllNamed
      (checks.after_operand items local_ty is_target right (checks.after_operand items local_ty is_target left facts))
  two_named left right facts h =
      operand_named right (checks.after_operand items local_ty is_target left facts) (operand_named left facts h)

  operands_named : (operands : List Operand) (facts : Facts) → AllNamed facts →
      AllNamed (checks.after_operands items local_ty is_target operands facts)
  operands_named [] facts h = h
  operands_named (operand ∷ operands) facts h = operands_named operands
      (checks.after_operand items local_ty is_target operand facts) (operand_named operand facts h)

  two_stored : (to : EffectSite) (left right : Operand) (facts : Facts) → AllNamed facts → AllNamed (without to.place
      (checks.after_operand items local_ty is_target right (checks.after_operand items local_ty is_target left facts)))
  two_stored to left right facts h = without_named to.place
      (checks.after_operand items local_ty is_target right (checks.after_operand items local_ty is_target left facts))
      (two_named left right facts h)

  all_stored : (to : EffectSite) (operands : List Operand) (facts : Facts) → AllNamed facts →
      AllNamed (without to.place (checks.after_operands items local_ty is_target operands facts))
  all_stored to operands facts h = without_named to.place
      (checks.after_operands items local_ty is_target operands facts) (operands_named operands facts h)

  naming_named : (n : Naming) (facts : Facts) → AllNamed facts →
      AllNamed (checks.after_naming items local_ty is_target n facts)
  naming_named n facts h = by n.unique
    where
      by : (b : Bool) → AllNamed (checks.without_if b n.place facts)
      by true = without_named n.place facts h
      by false = h

  namings_named : (names : List Naming) (facts : Facts) → AllNamed facts →
      AllNamed (checks.after_namings items local_ty is_target names facts)
  namings_named [] facts h = h
  namings_named (n ∷ rest) facts h = namings_named rest (checks.after_naming items local_ty is_target n facts)
      (naming_named n facts h)

  called_named : (to : EffectSite) (args : List Operand) (facts : Facts) → AllNamed facts →
      AllNamed (without to.place (checks.after_namings items local_ty is_target
      (checks.named_by_all items local_ty is_target facts args)
      (checks.after_operands items local_ty is_target args facts)))
  called_named to args facts h = without_named to.place (checks.after_namings items local_ty is_target
      (checks.named_by_all items local_ty is_target facts args)
      (checks.after_operands items local_ty is_target args facts))
      (namings_named (checks.named_by_all items local_ty is_target facts args)
      (checks.after_operands items local_ty is_target args facts) (operands_named args facts h))

  -- of a borrow it has to hold of the reference that it makes
  abbrev pub Makes : Action → Type 0
  Makes (effects.Borrow to unique base) = P (record { local = to.place.local; unique = unique; place = base.place })
  Makes action = Unit {0}

  pub action_named : (action : Action) (facts : Facts) → Makes action → AllNamed facts →
      AllNamed (checks.after_action items local_ty is_target action facts)
  action_named (effects.Put to from) facts m h = one_stored to from facts h
  action_named (effects.Compare to operator left right) facts m h =
      two_stored to left right facts h
  action_named (effects.Not to operand) facts m h = one_stored to operand facts h
  action_named (effects.Build to kind parts) facts m h = all_stored to parts facts h
  action_named (effects.NewBox to content) facts m h = one_stored to content facts h
  action_named (effects.Unsize to trait_no operand) facts m h =
      one_stored to operand facts h
  action_named (effects.Borrow to unique base) facts m h = (m, without_named to.place facts h)
  action_named (effects.Touch base) facts m h = h
  action_named (effects.Print operand) facts m h = operand_named operand facts h
  action_named (effects.Forget operand) facts m h = operand_named operand facts h
  action_named (effects.Free box) facts m h = h
  action_named (effects.Compute to operator left right) facts m h =
      two_stored to left right facts h
  action_named (effects.Negate to operand) facts m h = one_stored to operand facts h
  action_named (effects.Bounds (effects.Copied site) length) facts m h = h
  action_named (effects.Bounds (effects.Moved site) length) facts m h = h
  action_named (effects.Bounds (effects.Number value kind) length) facts m h = h
  action_named (effects.Bounds (effects.Truth value) length) facts m h = h
  action_named (effects.Bounds effects.UnitValue length) facts m h = h
  action_named (effects.Call to callee args) facts m h = called_named to args facts h
  action_named (effects.CallVirtual to trait_no method args) facts m h = called_named to args facts h
  action_named (effects.Ask to) facts m h = without_named to.place facts h

  pub unwound_named : (action : Action) (facts : Facts) → Makes action → AllNamed facts →
      AllNamed (checks.after_unwound items local_ty is_target action facts)
  unwound_named (effects.Bounds index length) facts m h = h
  unwound_named (effects.Touch base) facts m h = h
  unwound_named (effects.Free box) facts m h = h
  unwound_named other facts m h = action_named other facts m h

  pub taken_named : (test : Test) (facts : Facts) → AllNamed facts →
      AllNamed (checks.after_taken items local_ty is_target test facts)
  taken_named (effects.IsTrue operand) facts h = operand_named operand facts h
  taken_named (effects.HasVariant site variant) facts h = h

  pub declined_named : (test : Test) (facts : Facts) → AllNamed facts →
      AllNamed (checks.after_declined items local_ty is_target test facts)
  declined_named (effects.IsTrue operand) facts h = operand_named operand facts h
  declined_named (effects.HasVariant site variant) facts h = h

  pub dropped_named : (place : Place) (facts : Facts) → AllNamed facts →
      AllNamed (checks.after_drop items local_ty is_target place facts)
  dropped_named place facts h = by (checks.no_steps place.steps)
    where
      by : (b : Bool) → AllNamed (checks.refilled_if b place (without place facts))
      by true = without_named place facts h
      by false = without_named place facts h
