-- One step of a path, at a value of the program.
use Rattle.std.proofs.Common.{◌≡◌, ℕ, List, ◌∷◌, Bool, Option, Some, None, MatchBool, refl, sym, ap, ◌∙◌, subst}
use Rattle.std.specs.Prelude.{option_map, slice_get, slice_set}
use Rattle.std.specs.Option.{option_and_then, option_map_or}
use Rattle.std.specs.declared.boxed.Box.{Box as TheBox}
use Rattle.std.specs.declared.alloc.Global.{Global}
use Rattle.store_model.specs.declared.address.At.{At}
use Rattle.store_model.specs.declared.address.At.TheVariants.{Part, Inside}
use Rattle.store_model.specs.declared.value.Value.{Value, Value-F, out-Value, roll-Value, roll-out-Value, map-Value, fold_out-Value}
use Rattle.store_model.specs.declared.value.Value.TheVariants.{Parts, Boxed, rolls-Parts, rolls-Boxed}
use Rattle.store_model.specs.Values.Datum.{Datum, Aggregate, datum_of, datum_of_layer}
use Rattle.store_model.specs.Values.Access.{part, with_part, value_at, replaced}
use Rattle.store_model.proofs.Values.Datum.{datum_of-Parts, datum_of-Boxed, part_at-values, with_part_at-values}

-- a step into an aggregate leads to the element of its list
pub part-Parts : (step : At) (root : Value) (number variant : ℕ) (serial : Option ℕ) (values : List Value) → step ≡ Part number → root ≡ Parts variant serial values →
    part step (datum_of root) ≡ option_map datum_of (slice_get values number)
part-Parts step root number variant serial values is_step is_root =
    ap (λ s. part s (datum_of root)) is_step ∙ ap (λ v. part (Part number) (datum_of v)) is_root ∙ ap (part (Part number)) (datum_of-Parts variant serial values) ∙ part_at-values values number

-- a step into a box leads to its content
pub part-Boxed : (step : At) (root : Value) (serial : ℕ) (impl_no : Option ℕ) (inside : TheBox Value Global) → step ≡ Inside → root ≡ Boxed serial impl_no inside →
    part step (datum_of root) ≡ Some (datum_of inside.value)
part-Boxed step root serial impl_no inside is_step is_root =
    ap (λ s. part s (datum_of root)) is_step ∙ ap (λ v. part Inside (datum_of v)) is_root ∙ ap (part Inside) (datum_of-Boxed serial impl_no inside)

-- an aggregate has no content, and a box no numbered part
pub part-Parts-Inside : (step : At) (root : Value) (variant : ℕ) (serial : Option ℕ) (values : List Value) → step ≡ Inside → root ≡ Parts variant serial values → part step (datum_of root) ≡ None
part-Parts-Inside step root variant serial values is_step is_root =
    ap (λ s. part s (datum_of root)) is_step ∙ ap (λ v. part Inside (datum_of v)) is_root ∙ ap (part Inside) (datum_of-Parts variant serial values)

pub part-Boxed-Part : (step : At) (root : Value) (number serial : ℕ) (impl_no : Option ℕ) (inside : TheBox Value Global) → step ≡ Part number → root ≡ Boxed serial impl_no inside →
    part step (datum_of root) ≡ None
part-Boxed-Part step root number serial impl_no inside is_step is_root =
    ap (λ s. part s (datum_of root)) is_step ∙ ap (λ v. part (Part number) (datum_of v)) is_root ∙ ap (part (Part number)) (datum_of-Boxed serial impl_no inside)

-- no other value has parts
pub part-other : (step : At) (root : Value) → ((variant : ℕ) → (serial : Option ℕ) → (values : List Value) → root ≡ Parts variant serial values → ⊥) →
    ((serial : ℕ) → (impl_no : Option ℕ) → (inside : TheBox Value Global) → root ≡ Boxed serial impl_no inside → ⊥) → part step (datum_of root) ≡ None
part-other step root no_Parts no_Boxed =
    ap (part step) (fold_out-Value Datum datum_of_layer root) ∙ by_layer step (out-Value root) (sym (roll-out-Value root))
  where
    by_layer : (step : At) (layer : Value-F Value) → root ≡ roll-Value layer → part step (datum_of_layer (map-Value Value Datum datum_of layer)) ≡ None
    by_layer step (Value-F.Parts variant serial values) is = absurd (no_Parts variant serial values (is ∙ rolls-Parts variant serial values))
    by_layer step (Value-F.Boxed serial impl_no inside) is = absurd (no_Boxed serial impl_no inside (is ∙ rolls-Boxed serial impl_no inside))
    by_layer (Part number) Value-F.Gone is = refl
    by_layer Inside Value-F.Gone is = refl
    by_layer (Part number) (Value-F.Int n) is = refl
    by_layer Inside (Value-F.Int n) is = refl
    by_layer (Part number) (Value-F.Bool b) is = refl
    by_layer Inside (Value-F.Bool b) is = refl
    by_layer (Part number) Value-F.Unit is = refl
    by_layer Inside Value-F.Unit is = refl
    by_layer (Part number) (Value-F.Address address) is = refl
    by_layer Inside (Value-F.Address address) is = refl

-- what stands below a part stands below the root by one step more
pub found-below : (found : Bool) (path : List At) (step : At) (below : List At) (root inner left given : Datum) → path ≡ step ∷ below → part step root ≡ Some inner →
    MatchBool found (value_at below inner ≡ Some left) ((value_at below inner ≡ None) × (left ≡ given)) →
    MatchBool found (value_at path root ≡ Some left) ((value_at path root ≡ None) × (left ≡ given))
found-below found path step below root inner left given is_path is_part h =
    let stands : value_at path root ≡ value_at below inner = ap (λ p. value_at p root) is_path ∙ ap (option_and_then (value_at below)) is_part in
    subst (λ o. MatchBool found (o ≡ Some left) ((o ≡ None) × (left ≡ given))) (sym stands) h

-- a change below a part is a change below the root by one step more
pub replaced-below : (path : List At) (step : At) (below : List At) (root inner new given : Datum) → path ≡ step ∷ below → part step root ≡ Some inner →
    new ≡ replaced below given inner → with_part step new root ≡ replaced path given root
replaced-below path step below root inner new given is_path is_part h =
    ap (λ x. with_part step x root) h ∙ sym (ap (λ p. replaced p given root) is_path ∙ ap (λ o. option_map_or (λ x. with_part step (replaced below given x) root) o root) is_part)

-- an aggregate whose element was changed below
pub replaced-Parts : (path : List At) (step : At) (below : List At) (number variant : ℕ) (serial : Option ℕ) (values : List Value) (inner new : Value) (given : Datum) → path ≡ step ∷ below → step ≡ Part number →
    slice_get values number ≡ Some inner → datum_of new ≡ replaced below given (datum_of inner) →
    datum_of (Parts variant serial (slice_set values number new)) ≡ replaced path given (datum_of (Parts variant serial values))
replaced-Parts path step below number variant serial values inner new given is_path is_step is_inner h =
    datum_of-Parts variant serial (slice_set values number new) ∙ ap (Aggregate variant serial) (sym (with_part_at-values values number new)) ∙
    ap (with_part (Part number) (datum_of new)) (sym (datum_of-Parts variant serial values)) ∙
    replaced-below path (Part number) below (datum_of (Parts variant serial values)) (datum_of inner) (datum_of new) given (is_path ∙ ap (λ s. s ∷ below) is_step)
    (part-Parts (Part number) (Parts variant serial values) number variant serial values refl refl ∙ ap (option_map datum_of) is_inner) h

-- a box whose content was changed below
pub replaced-Boxed : (path : List At) (step : At) (below : List At) (serial : ℕ) (impl_no : Option ℕ) (inside after : TheBox Value Global) (given : Datum) → path ≡ step ∷ below → step ≡ Inside →
    datum_of after.value ≡ replaced below given (datum_of inside.value) →
    datum_of (Boxed serial impl_no after) ≡ replaced path given (datum_of (Boxed serial impl_no inside))
replaced-Boxed path step below serial impl_no inside after given is_path is_step h =
    datum_of-Boxed serial impl_no after ∙
    ap (with_part Inside (datum_of after.value)) (sym (datum_of-Boxed serial impl_no inside)) ∙
    replaced-below path Inside below (datum_of (Boxed serial impl_no inside)) (datum_of inside.value) (datum_of after.value) given (is_path ∙ ap (λ s. s ∷ below) is_step)
    (part-Boxed Inside (Boxed serial impl_no inside) serial impl_no inside refl refl) h

-- where a step leads to no part, nothing stands and nothing changes
pub absent-below : (path : List At) (step : At) (below : List At) (root : Datum) → path ≡ step ∷ below → part step root ≡ None → value_at path root ≡ None
absent-below path step below root is_path is_part = ap (λ p. value_at p root) is_path ∙ ap (option_and_then (value_at below)) is_part

pub same-below : (path : List At) (step : At) (below : List At) (root given : Datum) → path ≡ step ∷ below → part step root ≡ None → root ≡ replaced path given root
same-below path step below root given is_path is_part =
    sym (ap (λ p. replaced p given root) is_path ∙ ap (λ o. option_map_or (λ x. with_part step (replaced below given x) root) o root) is_part)
