-- The plain data of values, by their variants, and of the parts of a list, by their numbers.
use Rattle.std.proofs.Common.{◌≡◌, ℕ, List, length, Option, map, sym, ap, ◌∙◌}
use Rattle.std.specs.Prelude.{option_map, slice_get, slice_set}
use Rattle.std.specs.List.{range_with_len}
use Rattle.std.proofs.lemmas.Option.{slice_get-map}
use Rattle.std.proofs.lemmas.List.{length-map, map-set}
use Rattle.std.specs.declared.boxed.Box.{Box as TheBox}
use Rattle.std.specs.declared.alloc.Global.{Global}
use Rattle.store_model.specs.declared.address.At.TheVariants.{Part}
use Rattle.store_model.specs.declared.value.Value.{Value, Value-F, fold-roll-Value}
use Rattle.store_model.specs.declared.value.Value.TheVariants.{Parts, Boxed, rolls-Parts, rolls-Boxed}
use Rattle.store_model.specs.Values.Datum.{Datum, Aggregate, Box, data_from, datum_of, datum_of_layer}
use Rattle.store_model.specs.Values.Parts.{steps_to_parts}
use Rattle.store_model.specs.Values.Access.{part_at, with_part_at}
use Rattle.store_model.proofs.Values.OnePart.{part_at-data_from, with_part_at-data_from, count-data_from}

-- the plain data of an aggregate, and of a box
pub datum_of-Parts : (variant : ℕ) (serial : Option ℕ) (values : List Value) → datum_of (Parts variant serial values) ≡ Aggregate variant serial (data_from (map datum_of values))
datum_of-Parts variant serial values =
    ap datum_of (sym (rolls-Parts variant serial values)) ∙ fold-roll-Value Datum datum_of_layer (Value-F.Parts variant serial values)

pub datum_of-Boxed : (serial : ℕ) (impl_no : Option ℕ) (inside : TheBox Value Global) → datum_of (Boxed serial impl_no inside) ≡ Box serial impl_no (datum_of inside.value)
datum_of-Boxed serial impl_no inside =
    ap datum_of (sym (rolls-Boxed serial impl_no inside)) ∙ fold-roll-Value Datum datum_of_layer (Value-F.Boxed serial impl_no inside)

-- the parts of a list of values, by their numbers
pub part_at-values : (values : List Value) (number : ℕ) → part_at number (data_from (map datum_of values)) ≡ option_map datum_of (slice_get values number)
part_at-values values number = part_at-data_from (map datum_of values) number ∙ slice_get-map datum_of values number

pub with_part_at-values : (values : List Value) (number : ℕ) (new : Value) → with_part_at number (datum_of new) (data_from (map datum_of values)) ≡ data_from (map datum_of (slice_set values number new))
with_part_at-values values number new =
    with_part_at-data_from (map datum_of values) number (datum_of new) ∙ ap data_from (sym (map-set datum_of values number new))

-- the steps to the parts of an aggregate, by the length of its list
pub steps_to_parts-Parts : (value : Value) (variant : ℕ) (serial : Option ℕ) (values : List Value) → value ≡ Parts variant serial values → steps_to_parts (datum_of value) ≡ map Part (range_with_len 0 (length values))
steps_to_parts-Parts value variant serial values is_value =
    ap (λ v. steps_to_parts (datum_of v)) is_value ∙ ap steps_to_parts (datum_of-Parts variant serial values) ∙ ap (λ n. map Part (range_with_len 0 n)) (count-data_from (map datum_of values) ∙ length-map values datum_of)
