-- What forgetting tells, one thing after another.
use Rattle.std.proofs.Common.{◌≡◌, ℕ, suc, ◌+◌, List, [], ◌∷◌, ◌++◌, map, Option, Some, None, refl, ap, sym, ◌∙◌, append_assoc, append-nil, arith}
use Rattle.std.specs.Prelude.{option_map, option_and_then, slice_get}
use Rattle.std.specs.Option.{option_map_or}
use Rattle.std.specs.Borrow.{Bor}
use Rattle.mir_base.specs.declared.trace.Event.{Event}
use Rattle.machine_steps.specs.declared.forget.Forgets.{Forgets}
use Rattle.machine_steps.specs.Forgetting.{lines_of, lines_before, made_lines, parts_found, parts_lines}
use Rattle.mir_ty.specs.ItemTable.{ItemTable}
use Rattle.mir_ty.specs.Parts.{parts_of}
use Rattle.mir_ty.specs.declared.ty.Ty.{Ty}
use Rattle.mir_ty.specs.declared.ty.TyId.{TyId}
use Rattle.std.specs.declared.boxed.Box.{Box as TheBox}
use Rattle.std.specs.declared.alloc.Global.{Global}
use Rattle.store_model.proofs.Values.Datum.{datum_of-Parts, datum_of-Boxed}
use Rattle.store_model.specs.Concrete.Drops.{drop_impl}
use Rattle.store_model.specs.Concrete.Effects.{forgotten, forgotten_parts}
use Rattle.store_model.specs.Concrete.Location.{DynamicType, OfType, type_of_part, concrete_ty}
use Rattle.store_model.specs.declared.address.At.TheVariants.{Part, Inside}
use Rattle.store_model.specs.declared.value.Value.{Value}
use Rattle.store_model.specs.declared.value.Value.TheVariants.{Parts, Boxed}
use Rattle.store_model.specs.Values.Datum.{Datum, Data, Aggregate, Box, a_part, data_from, datum_of}

module _ (items : ItemTable) where
  -- what was added last comes first
  pub lines_pushed : (work : List Forgets) (last : Forgets) (after : List Event) → lines_before items (work ++ last ∷ []) after ≡ lines_of items last ++ lines_before items work after
  lines_pushed [] last after = refl
  lines_pushed (first ∷ work) last after = lines_pushed work last (lines_of items first ++ after)

  of_aggregate : (variant : ℕ) (serial : Option ℕ) (parts : Data) (dynamic : DynamicType) →
      forgotten items (Aggregate variant serial parts) dynamic ≡ made_lines serial (drop_impl items (concrete_ty items dynamic)) ++ forgotten_parts items parts (parts_found items variant dynamic) 0
  of_aggregate variant None parts dynamic = refl
  of_aggregate variant (Some serial) parts dynamic = go (drop_impl items (concrete_ty items dynamic)) refl
    where
      go : (o : Option (ℕ × ℕ)) → drop_impl items (concrete_ty items dynamic) ≡ o →
          forgotten items (Aggregate variant (Some serial) parts) dynamic ≡ made_lines (Some serial) (drop_impl items (concrete_ty items dynamic)) ++ forgotten_parts items parts (parts_found items variant dynamic) 0
      go None e = rw e refl
      go (Some of) e = rw e refl

  of_parts : (value : Value) (variant : ℕ) (serial : Option ℕ) (parts : List Value) (dynamic : DynamicType) → value ≡ Parts variant serial parts →
      forgotten items (datum_of value) dynamic ≡ made_lines serial (drop_impl items (concrete_ty items dynamic)) ++ parts_lines items parts 0 variant dynamic
  of_parts value variant serial parts dynamic is =
      ap (λ v. forgotten items (datum_of v) dynamic) is ∙ ap (λ d. forgotten items d dynamic) (datum_of-Parts variant serial parts)
      ∙ of_aggregate variant serial (data_from (map datum_of parts)) dynamic

  -- the own line of a value is told, and its parts come next
  pub parts_next : (value : Value) (variant : ℕ) (serial : Option ℕ) (parts : List Value) (dynamic : DynamicType) → value ≡ Parts variant serial parts → (old new rest after_work : List Event) →
      new ≡ old ++ made_lines serial (drop_impl items (concrete_ty items dynamic)) → after_work ≡ parts_lines items parts 0 variant dynamic ++ rest →
      new ++ after_work ≡ old ++ (forgotten items (datum_of value) dynamic ++ rest)
  parts_next value variant serial parts dynamic is old new rest after_work told left =
      let own = made_lines serial (drop_impl items (concrete_ty items dynamic)) in
      let others = parts_lines items parts 0 variant dynamic in
      ap (λ l. l ++ after_work) told ∙ ap (λ l. (old ++ own) ++ l) left ∙ append_assoc old own (others ++ rest) ∙ ap (λ l. old ++ l) (sym (append_assoc own others rest))
      ∙ ap (λ l. old ++ (l ++ rest)) (sym (of_parts value variant serial parts dynamic is))

  of_box_found : (serial : ℕ) (impl_no : Option ℕ) (inside : Datum) (dynamic found : DynamicType) → type_of_part items Inside (Box serial impl_no inside) dynamic ≡ Some found →
      forgotten items (Box serial impl_no inside) dynamic ≡ forgotten items inside found ++ Event.ForgotBox serial ∷ []
  of_box_found serial impl_no inside dynamic found e = rw e refl

  of_box_lost : (serial : ℕ) (impl_no : Option ℕ) (inside : Datum) (dynamic : DynamicType) → type_of_part items Inside (Box serial impl_no inside) dynamic ≡ None →
      forgotten items (Box serial impl_no inside) dynamic ≡ Event.ForgotBox serial ∷ []
  of_box_lost serial impl_no inside dynamic e = rw e refl

  module _ (value : Value) (serial : ℕ) (impl_no : Option ℕ) (inside : TheBox Value Global) (dynamic : DynamicType) (is : value ≡ Boxed serial impl_no inside) where
    is_box : datum_of value ≡ Box serial impl_no (datum_of inside.value)
    is_box = ap datum_of is ∙ datum_of-Boxed serial impl_no inside

    -- the content comes next, and then the line of the box
    pub content_next : (found : DynamicType) → type_of_part items Inside (datum_of value) dynamic ≡ Some found → (told rest after_work : List Event) →
        after_work ≡ forgotten items (datum_of inside.value) found ++ (Event.ForgotBox serial ∷ rest) → told ++ after_work ≡ told ++ (forgotten items (datum_of value) dynamic ++ rest)
    content_next found e told rest after_work left =
        let typed = ap (λ d. type_of_part items Inside d dynamic) (sym is_box) ∙ e in
        ap (λ l. told ++ l) (left ∙ sym (append_assoc (forgotten items (datum_of inside.value) found) (Event.ForgotBox serial ∷ []) rest)
        ∙ ap (λ l. l ++ rest) (sym (of_box_found serial impl_no (datum_of inside.value) dynamic found typed) ∙ ap (λ d. forgotten items d dynamic) (sym is_box)))

    pub box_next : type_of_part items Inside (datum_of value) dynamic ≡ None → (told rest after_work : List Event) →
        after_work ≡ Event.ForgotBox serial ∷ rest → told ++ after_work ≡ told ++ (forgotten items (datum_of value) dynamic ++ rest)
    box_next e told rest after_work left =
        let typed = ap (λ d. type_of_part items Inside d dynamic) (sym is_box) ∙ e in
        ap (λ l. told ++ l) (left ∙ ap (λ l. l ++ rest) (sym (of_box_lost serial impl_no (datum_of inside.value) dynamic typed) ∙ ap (λ d. forgotten items d dynamic) (sym is_box)))

  -- as what a part is found, by its type
  pub part_typed : (dynamic : DynamicType) (variant n : ℕ) (id : TyId) → option_and_then (λ ty. slice_get (parts_of items ty variant) n) (concrete_ty items dynamic) ≡ Some id → parts_found items variant dynamic n ≡ Some (OfType id)
  part_typed dynamic variant n id e = go (concrete_ty items dynamic) refl e
    where
      go : (o : Option Ty) → concrete_ty items dynamic ≡ o → option_and_then (λ ty. slice_get (parts_of items ty variant) n) o ≡ Some id → parts_found items variant dynamic n ≡ Some (OfType id)
      go None e h = absurd (cc)
      go (Some ty) e h = rw (e, h) refl

  pub part_untyped : (dynamic : DynamicType) (variant n : ℕ) → option_and_then (λ ty. slice_get (parts_of items ty variant) n) (concrete_ty items dynamic) ≡ None → parts_found items variant dynamic n ≡ None
  part_untyped dynamic variant n e = go (concrete_ty items dynamic) refl e
    where
      go : (o : Option Ty) → concrete_ty items dynamic ≡ o → option_and_then (λ ty. slice_get (parts_of items ty variant) n) o ≡ None → parts_found items variant dynamic n ≡ None
      go None e h = rw e refl
      go (Some ty) e h = rw (e, h) refl

  first_typed : (first : Datum) (rest : Data) (found_at : ℕ → Option DynamicType) (n : ℕ) (found : DynamicType) → found_at n ≡ Some found →
      forgotten_parts items (a_part first rest) found_at n ≡ forgotten items first found ++ forgotten_parts items rest found_at (suc n)
  first_typed first rest found_at n found e = rw e refl

  first_untyped : (first : Datum) (rest : Data) (found_at : ℕ → Option DynamicType) (n : ℕ) → found_at n ≡ None →
      forgotten_parts items (a_part first rest) found_at n ≡ forgotten_parts items rest found_at (suc n)
  first_untyped first rest found_at n e = rw e refl

  module _ (parts : List Value) (first : Value) (others : List Value) (is : parts ≡ first ∷ others) (variant n other : ℕ) (dynamic : DynamicType) (next : other ≡ n + 1) where
    other_lines : parts_lines items others (suc n) variant dynamic ≡ parts_lines items others other variant dynamic
    other_lines = ap (λ k. parts_lines items others k variant dynamic) (let e : suc n ≡ other = omega arith in e)

    -- the first part comes next, and then the others
    pub part_next : (id : TyId) → option_and_then (λ ty. slice_get (parts_of items ty variant) n) (concrete_ty items dynamic) ≡ Some id → (rest after_work : List Event) →
        after_work ≡ forgotten items (datum_of first) (OfType id) ++ (parts_lines items others other variant dynamic ++ rest) → after_work ≡ parts_lines items parts n variant dynamic ++ rest
    part_next id e rest after_work left =
        let typed = part_typed dynamic variant n id e in
        let others_data = data_from (map datum_of others) in
        left ∙ ap (λ l. forgotten items (datum_of first) (OfType id) ++ (l ++ rest)) (sym other_lines)
        ∙ sym (append_assoc (forgotten items (datum_of first) (OfType id)) (parts_lines items others (suc n) variant dynamic) rest)
        ∙ ap (λ l. l ++ rest) (sym (first_typed (datum_of first) others_data (parts_found items variant dynamic) n (OfType id) typed) ∙ ap (λ l. parts_lines items l n variant dynamic) (sym is))

    pub part_left_out : option_and_then (λ ty. slice_get (parts_of items ty variant) n) (concrete_ty items dynamic) ≡ None → (rest after_work : List Event) →
        after_work ≡ parts_lines items others other variant dynamic ++ rest → after_work ≡ parts_lines items parts n variant dynamic ++ rest
    part_left_out e rest after_work left =
        let untyped = part_untyped dynamic variant n e in
        left ∙ ap (λ l. l ++ rest) (sym other_lines ∙ sym (first_untyped (datum_of first) (data_from (map datum_of others)) (parts_found items variant dynamic) n untyped) ∙ ap (λ l. parts_lines items l n variant dynamic) (sym is))
