-- Boxes as the machine sees them: impls, what is freed, what is forgotten.
use Rattle.std.proofs.Common.{◌≡◌, ℕ, suc, zero, ◌+◌, ◌<◌, ◌≤◌, ◌==◌, ◌&&◌, Bool, true, false, List, [], ◌∷◌, ◌++◌, drop, length, Option, Some, None, refl, ap, sym, ◌∙◌, arith}
use Rattle.std.proofs.lemmas.Iterator.Adapters.{position_from-zero}
use Rattle.std.proofs.Math.Seq.{drop-cons}
use Rattle.std.proofs.lemmas.Option.{slice_get_within, get_or_from_slice_get}
use Rattle.std.specs.Prelude.{slice_get, position}
use Rattle.std.specs.List.{position_from, list_all}
use Rattle.std.specs.Prelude.{map, option_map, option_and_then}
use Rattle.std.specs.Option.{is_some, option_map_or}
use Rattle.std.proofs.lemmas.Bool.{true≢false}
use Rattle.std.proofs.lemmas.List.Folds.{list_all-append}
use Rattle.std.specs.declared.boxed.Box.{Box as TheBox}
use Rattle.std.specs.declared.alloc.Global.{Global}
use Rattle.cfg_graph.specs.declared.place.Operand.{Operand}
use Rattle.cfg_graph.specs.declared.graph.Graph.{Graph}
use Rattle.cfg_meaning.specs.Actions.{site_of, operand_of}
use Rattle.cfg_meaning.specs.Programs.{setting_of}
use Rattle.mir_base.specs.Trace.{Trace}
use Rattle.machine_steps.proofs.Operands.{whole_same}
use Rattle.machine_steps.specs.declared.world.World.{World}
use Rattle.machine_steps.specs.Boxes.{is_none_of, is_numberless, operand_found, with_row, with_lines}
use Rattle.machine_steps.specs.Typed.{adt_in_box}
use Rattle.machine_steps.specs.Worlds.{state_of, run_setting}
use Rattle.machine_store.specs.Standing.{with_activations}
use Rattle.store_model.specs.Concrete.Effects.{acted, forgotten, with_operand, whole_at, put_if}
use Rattle.store_model.specs.Concrete.Location.{Setting, Located, DynamicType}
use Rattle.store_model.specs.Concrete.State.{State, Bodies}
use Rattle.store_model.specs.Effects as actions
use Rattle.store_model.specs.Effects.{EffectSite, Go, Out}
use Rattle.store_model.specs.Values.Datum.{Datum}
use Rattle.store_model.proofs.Values.Datum.{datum_of-Parts, datum_of-Boxed}
use Rattle.store_model.specs.declared.value.Value.{Value}
use Rattle.store_model.specs.declared.value.Value.TheVariants.{Parts, Boxed}
use Rattle.store_model.specs.Values.Datum.{data_from, datum_of}
use Rattle.store_model.specs.Values.Wholeness.{serials, serials_of_all}
use Rattle.mir_ty.specs.declared.def.ImplDef.{ImplDef}
use Rattle.mir_ty.specs.ItemTable.{ItemTable}
use Rattle.store_model.specs.Concrete.Effects.{impl_of}

abbrev pub is_impl : ℕ → ℕ → ImplDef → Bool
is_impl trait_no adt impl = (impl.trait_no == trait_no) && (impl.adt == adt)

-- what is still looked for among the impls from a number on
abbrev pub impl_from : ℕ → ℕ → List ImplDef → ℕ → Option ℕ
impl_from trait_no adt impls n = position_from (is_impl trait_no adt) n (drop n impls)

pub impl_at_first : (items : ItemTable) (trait_no adt : ℕ) → impl_of items trait_no adt ≡ impl_from trait_no adt items.impls 0
impl_at_first items trait_no adt = position_from-zero (is_impl trait_no adt) items.impls

impl_next : (impls : List ImplDef) (n : ℕ) (impl : ImplDef) → slice_get impls n ≡ Some impl → drop n impls ≡ impl ∷ drop (suc n) impls
impl_next impls n impl e = drop-cons impls n impl (slice_get_within impls n impl e) ∙ ap (λ x. x ∷ drop (suc n) impls) (get_or_from_slice_get impls n impl impl e)

module _ (trait_no adt : ℕ) (impls : List ImplDef) (n : ℕ) (impl : ImplDef) (there : slice_get impls n ≡ Some impl) where
  pub impl_found : is_impl trait_no adt impl ≡ true → impl_from trait_no adt impls n ≡ Some n
  impl_found e = ap (position_from (is_impl trait_no adt) n) (impl_next impls n impl there) ∙ rw e refl

  pub impl_passed : is_impl trait_no adt impl ≡ false → impl_from trait_no adt impls n ≡ impl_from trait_no adt impls (n + 1)
  impl_passed e =
      ap (position_from (is_impl trait_no adt) n) (impl_next impls n impl there) ∙ rw e (ap (λ k. position_from (is_impl trait_no adt) (n + 1) (drop k impls)) (let s : suc n ≡ n + 1 = omega arith in s))

past : {A : Type 0} (list : List A) (n : ℕ) → slice_get list n ≡ None → drop n list ≡ []
past [] zero e = refl
past [] (suc n) e = refl
past (x ∷ list) zero e = absurd (cc)
past (x ∷ list) (suc n) e = past list n e

pub no_impl : (trait_no adt : ℕ) (impls : List ImplDef) (n : ℕ) → slice_get impls n ≡ None → impl_from trait_no adt impls n ≡ None
no_impl trait_no adt impls n e = ap (position_from (is_impl trait_no adt) n) (past impls n e)

-- What is to be looked at for numbers.

none_of_both : (a b : List ℕ) → is_none_of (a ++ b) ≡ (is_none_of a && is_none_of b)
none_of_both [] b = refl
none_of_both (n ∷ a) b = refl

parts_numberless : (parts : List Value) → is_none_of (serials_of_all (data_from (map datum_of parts))) ≡ list_all (λ part. is_numberless (datum_of part)) parts
parts_numberless [] = refl
parts_numberless (first ∷ parts) =
    none_of_both (serials (datum_of first)) (serials_of_all (data_from (map datum_of parts))) ∙ ap (λ b. is_numberless (datum_of first) && b) (parts_numberless parts)

pub numberless_parts : (value : Value) (variant : ℕ) (serial : Option ℕ) (parts : List Value) → value ≡ Parts variant serial parts → is_some serial ≡ false → is_numberless (datum_of value) ≡ list_all (λ part. is_numberless (datum_of part)) parts
numberless_parts value variant None parts is none = ap (λ v. is_numberless (datum_of v)) is ∙ ap is_numberless (datum_of-Parts variant None parts) ∙ parts_numberless parts
numberless_parts value variant (Some serial) parts is none = absurd (true≢false none)

pub numbered_parts : (value : Value) (variant : ℕ) (serial : Option ℕ) (parts : List Value) → value ≡ Parts variant serial parts → is_some serial ≡ true → is_numberless (datum_of value) ≡ false
numbered_parts value variant None parts is some = absurd (true≢false (sym some))
numbered_parts value variant (Some serial) parts is some = ap (λ v. is_numberless (datum_of v)) is ∙ ap is_numberless (datum_of-Parts variant (Some serial) parts)

box_numbered : (list : List ℕ) (serial : ℕ) → is_none_of (list ++ serial ∷ []) ≡ false
box_numbered [] serial = refl
box_numbered (n ∷ list) serial = refl

pub numbered_box : (value : Value) (serial : ℕ) (impl_no : Option ℕ) (inside : TheBox Value Global) → value ≡ Boxed serial impl_no inside → is_numberless (datum_of value) ≡ false
numbered_box value serial impl_no inside is =
    ap (λ v. is_numberless (datum_of v)) is ∙ ap is_numberless (datum_of-Boxed serial impl_no inside) ∙ box_numbered (serials (datum_of inside.value)) serial

pub and_false : (a b : Bool) → b ≡ false → (a && b) ≡ false
and_false true b e = e
and_false false b e = refl

pub and_true : (a b : Bool) → b ≡ true → (a && b) ≡ a
and_true true b e = e
and_true false b e = refl

pub popped_all : {A : Type 0} (p : A → Bool) (old rest : List A) (last : A) → old ≡ rest ++ last ∷ [] → list_all p old ≡ (list_all p rest && p last)
popped_all p old rest last e = ap (list_all p) e ∙ list_all-append p rest (last ∷ []) ∙ ap (λ b. list_all p rest && b) (and_true (p last) true refl)

-- What unsizing and forgetting do.

module _ (setting : Setting) (run : Bodies) where
  abbrev pub unsized : EffectSite → ℕ → Option ℕ → Datum → State → Out State
  unsized to trait_no adt value w = put_if setting to (option_and_then (λ n. with_row n value) (option_and_then (impl_of setting.items trait_no) adt)) w

  pub acts_unsizing : (to : EffectSite) (trait_no : ℕ) (from : Operand) (w : State) → acted setting run (actions.Unsize to trait_no (operand_of 0 from)) w
      ≡ with_operand setting (operand_of 0 from) w (unsized to trait_no (adt_in_box setting w from))
  acts_unsizing to trait_no (Operand.Copied place) w = refl
  acts_unsizing to trait_no (Operand.Moved place) w = refl
  acts_unsizing to trait_no (Operand.Number value kind) w = refl
  acts_unsizing to trait_no (Operand.Truth value) w = refl
  acts_unsizing to trait_no Operand.Unit w = refl

  abbrev pub forgets : Option DynamicType → Datum → State → Out State
  forgets found value w = Go (with_lines (option_map_or (forgotten setting.items value) found []) w)

  found_either : (o : Option Located) → option_map_or {U = Option DynamicType} (λ s. Some s.dynamic) o None ≡ option_map (λ s. s.dynamic) o
  found_either None = refl
  found_either (Some s) = refl

  pub acts_forgetting : (operand : Operand) (w : State) → acted setting run (actions.Forget (operand_of 0 operand)) w
      ≡ with_operand setting (operand_of 0 operand) w (forgets (operand_found setting w operand))
  acts_forgetting (Operand.Copied place) w = ap (λ o. with_operand setting (operand_of 0 (Operand.Copied place)) w (forgets o)) (found_either (whole_at setting w (site_of 0 place)))
  acts_forgetting (Operand.Moved place) w = ap (λ o. with_operand setting (operand_of 0 (Operand.Moved place)) w (forgets o)) (found_either (whole_at setting w (site_of 0 place)))
  acts_forgetting (Operand.Number value kind) w = refl
  acts_forgetting (Operand.Truth value) w = refl
  acts_forgetting Operand.Unit w = refl

pub same_adt : (w : World) (before : Trace) (operand : Operand) → adt_in_box (run_setting w) (state_of before w) operand ≡ adt_in_box (run_setting w) (state_of [] w) operand
same_adt w before (Operand.Copied place) = refl
same_adt w before (Operand.Moved place) = refl
same_adt w before (Operand.Number value kind) = refl
same_adt w before (Operand.Truth value) = refl
same_adt w before Operand.Unit = refl

pub same_found : (strict : Bool) (graph : Graph) (w : State) (operand : Operand) → operand_found (setting_of strict graph) w operand ≡ operand_found (setting_of true graph) (with_activations w.activations) operand
same_found strict graph w (Operand.Copied place) = ap (option_map (λ s. s.dynamic)) (whole_same strict graph w (site_of 0 place))
same_found strict graph w (Operand.Moved place) = ap (option_map (λ s. s.dynamic)) (whole_same strict graph w (site_of 0 place))
same_found strict graph w (Operand.Number value kind) = refl
same_found strict graph w (Operand.Truth value) = refl
same_found strict graph w Operand.Unit = refl
