-- What is gone over, one thing after another.
use Rattle.std.proofs.Common.{◌≡◌, ℕ, suc, ◌+◌, ◌<◌, false, drop, length, List, [], ◌∷◌, ◌++◌, map, Option, Some, None, refl, ap, sym, subst, ◌∙◌, append_assoc, arith}
use Rattle.std.proofs.lemmas.List.{map-append, at_drop_more}
use Rattle.std.specs.Prelude.{get_or, option_and_then, slice_get}
use Rattle.machine_steps.proofs.Below.{same_number}
use Rattle.std.specs.declared.alloc.Global.{Global}
use Rattle.std.specs.declared.boxed.Box.{Box as TheBox}
use Rattle.machine_steps.specs.declared.sweep.Sweeps.{Sweeps}
use Rattle.machine_steps.specs.Continuation.{type_of_number, found_of, own_impl}
use Rattle.machine_steps.specs.Swept.{GoneOver, holds_parts, freed, freed_parts, HasType, IsFoundAgain, IsSwept, ArePartsSwept, IsSweptBy, AreSwept, freed_by, freed_before, PutsBefore, GoesOver}
use Rattle.mir_base.specs.declared.trace.Event.{Event}
use Rattle.machine_steps.specs.declared.told.ToldEvents.{ToldEvents}
use Rattle.machine_steps.specs.Worlds.{event_of}
use Rattle.mir_ty.specs.ItemTable.{ItemTable}
use Rattle.mir_ty.specs.Parts.{parts_of}
use Rattle.mir_ty.specs.declared.ty.TyId.{TyId}
use Rattle.store_model.proofs.Values.Datum.{datum_of-Parts, datum_of-Boxed}
use Rattle.store_model.specs.Concrete.Drops.{Stage, Begins, drop_impl}
use Rattle.store_model.specs.Concrete.Location.{DynamicType, OfType, type_of_part, concrete_ty}
use Rattle.store_model.specs.declared.address.At.TheVariants.{Inside}
use Rattle.store_model.specs.declared.value.Value.{Value}
use Rattle.store_model.specs.declared.value.Value.TheVariants.{Parts, Boxed}
use Rattle.store_model.specs.Values.Datum.{Datum, Gone, Number, Truth, UnitValue, Aggregate, Box, Address, a_part, data_from, datum_of}

module _ (items : ItemTable) where
  -- what was added last comes first
  pub swept_pushed : (work : List Sweeps) (last : Sweeps) → AreSwept items (work ++ last ∷ []) → IsSweptBy items last × AreSwept items work
  swept_pushed [] last h = (h.0, tt)
  swept_pushed (first ∷ work) last h = let rest = swept_pushed work last h.1 in (rest.0, (h.0, rest.1))

  pub swept_back : (work : List Sweeps) (last : Sweeps) → IsSweptBy items last → AreSwept items work → AreSwept items (work ++ last ∷ [])
  swept_back [] last h all = (h, tt)
  swept_back (first ∷ work) last h all = (all.0, swept_back work last h all.1)

  pub freed_pushed : (work : List Sweeps) (last : Sweeps) (after : List Event) → freed_before (work ++ last ∷ []) after ≡ freed_by last ++ freed_before work after
  freed_pushed [] last after = refl
  freed_pushed (first ∷ work) last after = freed_pushed work last (freed_by first ++ after)

  -- nothing comes next of a value without parts
  pub nothing_put : (work : List Sweeps) (Holds : Type 0) (events : List Event) → Holds → events ≡ [] → PutsBefore items work Holds events work
  nothing_put work Holds events h e = record { swept = λ all. (h, all); freed = λ after. sym (ap (λ l. l ++ freed_before work after) e) }

  -- the parts of a value come next
  pub parts_put : (stage : Stage) (value : Value) (variant : ℕ) (serial : Option ℕ) (values : List Value) (dynamic : DynamicType) → value ≡ Parts variant serial values → IsFoundAgain items dynamic →
      own_impl stage (drop_impl items (concrete_ty items dynamic)) ≡ None → (old new : List Sweeps) (last : Sweeps) → new ≡ old ++ last ∷ [] →
      (IsSweptBy items last → ArePartsSwept items (data_from (map datum_of values)) dynamic variant 0) → freed_by last ≡ freed_parts (data_from (map datum_of values)) →
      PutsBefore items old (IsSwept items stage (datum_of value) dynamic) (freed (datum_of value)) new
  parts_put stage value variant serial values dynamic is again none old new last pushed swept freeds =
      let is_datum : datum_of value ≡ Aggregate variant serial (data_from (map datum_of values)) = ap datum_of is ∙ datum_of-Parts variant serial values in
      record {
        swept = λ all.
            let h = swept_pushed old last (subst (AreSwept items) pushed all) in
            (subst (λ d. IsSwept items stage d dynamic) (sym is_datum) (again, none, swept h.0), h.1);
        freed = λ after.
            ap (λ w. freed_before w after) pushed ∙ freed_pushed old last after ∙ ap (λ l. l ++ freed_before old after) (freeds ∙ ap freed (sym is_datum));
      }

  typed_part : (dynamic : DynamicType) (variant n : ℕ) (id : TyId) → option_and_then (λ ty. slice_get (parts_of items ty variant) n) (concrete_ty items dynamic) ≡ Some id →
      type_of_number items dynamic variant n ≡ Some (OfType id)
  typed_part dynamic variant n id e = ap found_of e

  -- a value without parts is swept at once
  plain_swept : (d : Datum) (dynamic : DynamicType) → holds_parts d ≡ false → IsFoundAgain items dynamic → IsSwept items Begins d dynamic × (freed d ≡ [])
  plain_swept Gone dynamic e again = (again, refl)
  plain_swept (Number number) dynamic e again = (again, refl)
  plain_swept (Truth truth) dynamic e again = (again, refl)
  plain_swept UnitValue dynamic e again = (again, refl)
  plain_swept (Aggregate variant serial parts) dynamic e again = absurd (cc)
  plain_swept (Box serial impl_no inside) dynamic e again = absurd (cc)
  plain_swept (Address address) dynamic e again = (again, refl)

  -- one more part without parts
  pub plain_more : (parts : List Value) (i next other variant : ℕ) (part : Value) (dynamic : DynamicType) (id : TyId) → i < length parts → part ≡ get_or parts i part → holds_parts (datum_of part) ≡ false →
      option_and_then (λ ty. slice_get (parts_of items ty variant) next) (concrete_ty items dynamic) ≡ Some id → other ≡ next + 1 →
      GoneOver items (data_from (map datum_of (drop (i + 1) parts))) dynamic variant other → GoneOver items (data_from (map datum_of (drop i parts))) dynamic variant next
  plain_more parts i next other variant part dynamic id less is plain typed more later =
      let F = λ (l : List Value). GoneOver items (data_from (map datum_of l)) dynamic variant next in
      let one = plain_swept (datum_of part) (OfType id) plain (same_number id.0) in
      let step : other ≡ suc next = omega (arith, more) in
      subst F (sym (at_drop_more (λ (l : List Value). l) parts i part less))
      (subst (λ p. F (p ∷ drop (i + 1) parts)) is (
        (
          subst (λ o. HasType o (IsSwept items Begins (datum_of part))) (sym (typed_part dynamic variant next id typed)) one.0,
          subst (ArePartsSwept items (data_from (map datum_of (drop (i + 1) parts))) dynamic variant) step later.0,
        ),
        ap (λ l. l ++ freed_parts (data_from (map datum_of (drop (i + 1) parts)))) one.1 ∙ later.1,
      ))

  -- the parts of a value are swept at once
  pub parts_plain : (stage : Stage) (value : Value) (variant : ℕ) (serial : Option ℕ) (values : List Value) (dynamic : DynamicType) (work : List Sweeps) → value ≡ Parts variant serial values → IsFoundAgain items dynamic →
      own_impl stage (drop_impl items (concrete_ty items dynamic)) ≡ None → GoneOver items (data_from (map datum_of values)) dynamic variant 0 →
      PutsBefore items work (IsSwept items stage (datum_of value) dynamic) (freed (datum_of value)) work
  parts_plain stage value variant serial values dynamic work is again none gone =
      let is_datum : datum_of value ≡ Aggregate variant serial (data_from (map datum_of values)) = ap datum_of is ∙ datum_of-Parts variant serial values in
      nothing_put work (IsSwept items stage (datum_of value) dynamic) (freed (datum_of value))
      (subst (λ d. IsSwept items stage d dynamic) (sym is_datum) (again, none, gone.0)) (ap freed is_datum ∙ gone.1)

  -- the content of a box comes next, and then the box
  pub content_put : (stage : Stage) (value : Value) (serial : ℕ) (impl_no : Option ℕ) (inside : TheBox Value Global) (dynamic child : DynamicType) → value ≡ Boxed serial impl_no inside → IsFoundAgain items dynamic →
      type_of_part items Inside (datum_of value) dynamic ≡ Some child → (old mid new : List Sweeps) (last : Sweeps) → mid ≡ old ++ Sweeps.Boxed serial ∷ [] → new ≡ mid ++ last ∷ [] →
      (IsSweptBy items last → IsSwept items Begins (datum_of inside.value) child) → freed_by last ≡ freed (datum_of inside.value) →
      PutsBefore items old (IsSwept items stage (datum_of value) dynamic) (freed (datum_of value)) new
  content_put stage value serial impl_no inside dynamic child is again typed old mid new last pushed_box pushed swept freeds =
      let is_datum : datum_of value ≡ Box serial impl_no (datum_of inside.value) = ap datum_of is ∙ datum_of-Boxed serial impl_no inside in
      let typed' : type_of_part items Inside (Box serial impl_no (datum_of inside.value)) dynamic ≡ Some child = ap (λ d. type_of_part items Inside d dynamic) (sym is_datum) ∙ typed in
      record {
        swept = λ all.
            let h = swept_pushed mid last (subst (AreSwept items) pushed all) in
            let k = swept_pushed old (Sweeps.Boxed serial) (subst (AreSwept items) pushed_box h.1) in
            (subst (λ d. IsSwept items stage d dynamic) (sym is_datum) (again, subst (λ o. HasType o (IsSwept items Begins (datum_of inside.value))) (sym typed') (swept h.0)), k.1);
        freed = λ after.
            ap (λ w. freed_before w after) pushed ∙ freed_pushed mid last after
            ∙ ap (λ l. freed_by last ++ l) (ap (λ w. freed_before w after) pushed_box ∙ freed_pushed old (Sweeps.Boxed serial) after)
            ∙ ap (λ l. l ++ (Event.Freed serial ∷ freed_before old after)) freeds
            ∙ sym (append_assoc (freed (datum_of inside.value)) (Event.Freed serial ∷ []) (freed_before old after))
            ∙ ap (λ l. l ++ freed_before old after) (ap freed (sym is_datum));
      }

  -- the first part comes next, and then the others
  pub part_put : (parts : List Value) (first : Value) (others : List Value) → parts ≡ first ∷ others → (variant n other : ℕ) (dynamic : DynamicType) → other ≡ n + 1 → (id : TyId) →
      option_and_then (λ ty. slice_get (parts_of items ty variant) n) (concrete_ty items dynamic) ≡ Some id → (old mid new : List Sweeps) (rest last : Sweeps) → mid ≡ old ++ rest ∷ [] → new ≡ mid ++ last ∷ [] →
      (IsSweptBy items rest → ArePartsSwept items (data_from (map datum_of others)) dynamic variant other) → freed_by rest ≡ freed_parts (data_from (map datum_of others)) →
      (IsSweptBy items last → IsSwept items Begins (datum_of first) (OfType id)) → freed_by last ≡ freed (datum_of first) →
      PutsBefore items old (ArePartsSwept items (data_from (map datum_of parts)) dynamic variant n) (freed_parts (data_from (map datum_of parts))) new
  part_put parts first others is variant n other dynamic next id typed old mid new rest last pushed_rest pushed rest_swept rest_freed swept freeds =
      let split : data_from (map datum_of parts) ≡ a_part (datum_of first) (data_from (map datum_of others)) = ap (λ l. data_from (map datum_of l)) is in
      let later : other ≡ suc n = omega arith in
      record {
        swept = λ all.
            let h = swept_pushed mid last (subst (AreSwept items) pushed all) in
            let k = swept_pushed old rest (subst (AreSwept items) pushed_rest h.1) in (
              subst (λ d. ArePartsSwept items d dynamic variant n) (sym split) (
                subst (λ o. HasType o (IsSwept items Begins (datum_of first))) (sym (typed_part dynamic variant n id typed)) (swept h.0),
                subst (ArePartsSwept items (data_from (map datum_of others)) dynamic variant) later (rest_swept k.0),
              ),
              k.1,
            );
        freed = λ after.
            ap (λ w. freed_before w after) pushed ∙ freed_pushed mid last after
            ∙ ap (λ l. freed_by last ++ l) (ap (λ w. freed_before w after) pushed_rest ∙ freed_pushed old rest after)
            ∙ ap (λ l. l ++ (freed_by rest ++ freed_before old after)) freeds
            ∙ ap (λ l. freed (datum_of first) ++ (l ++ freed_before old after)) rest_freed
            ∙ sym (append_assoc (freed (datum_of first)) (freed_parts (data_from (map datum_of others))) (freed_before old after))
            ∙ ap (λ d. freed_parts d ++ freed_before old after) (sym split);
      }

  -- one thing was gone over, and nothing was told
  pub goes_over : (told : List Event) (old new : List Sweeps) (one : Sweeps) → PutsBefore items old (IsSweptBy items one) (freed_by one) new → GoesOver items told old one told new
  goes_over told old new one h = record { swept = h.swept; freed = λ after. ap (λ l. told ++ l) (h.freed after) }

  -- a box was freed
  pub box_told : (old told : List ToldEvents) (serial : ℕ) (work : List Sweeps) → told ≡ old ++ ToldEvents.Event (Event.Freed serial) ∷ [] → GoesOver items (map event_of old) work (Sweeps.Boxed serial) (map event_of told) work
  box_told old told serial work e = record {
    swept = λ all. (tt, all);
    freed = λ after.
        ap (λ l. l ++ freed_before work after) (ap (map event_of) e ∙ map-append event_of old (ToldEvents.Event (Event.Freed serial) ∷ []))
        ∙ append_assoc (map event_of old) (Event.Freed serial ∷ []) (freed_before work after);
  }
