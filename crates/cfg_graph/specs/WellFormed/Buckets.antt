-- Names and impls by buckets: what is equal has one key, so what left no trace in the bucket of its key repeats none.
use Rattle.std.specs.Prelude.{◌≡◌, ◌⊎◌, ℕ, ◌+◌, ◌*◌, ◌/◌, ◌%◌, ◌<◌, false, List, [], ◌∷◌, Some, length, slice_get, take}
use Rattle.std.specs.List.{list_any}
use Rattle.std.specs.Option.{option_map_or}
use Rattle.mir_ty.specs.declared.def.ImplDef.{ImplDef}
use Rattle.mir_ty.specs.declared.def.Sig.{Sig}
use Rattle.cfg_graph.specs.WellFormed.NameFaults.{same_name}

-- the key of a name, by its bytes
abbrev pub key_from : ℕ → List ℕ → ℕ
key_from key [] = key
key_from key (b ∷ bs) = key_from ((key * 5167 + b) % 32899072) bs

abbrev pub name_key : List ℕ → ℕ
name_key name = key_from 0 name

-- the key of an impl, by its trait and its type
abbrev pub impl_key : ImplDef → ℕ
impl_key impl = (impl.trait_no * 81007 + impl.adt) % 32899072

-- the bucket of a key has its mark, or says that it has several
abbrev pub IsMarked : List ℕ → ℕ → Type 0
IsMarked buckets key =
    (slice_get buckets (key % 131072) ≡ Some (key / 131072 + 1)) ⊎ (slice_get buckets (key % 131072) ≡ Some 255)

-- the buckets of the first few are marked
pub record AreMet {X : Type 0} (key_of : X → ℕ) (xs : List X) (n : ℕ) (buckets : List ℕ) : Type 0 where
  pub met : (i : ℕ) (x : X) → i < n → slice_get xs i ≡ Some x → IsMarked buckets (key_of x)
  pub enough : length buckets ≡ 131072

-- the body with a number has the name of none before it
abbrev pub RepeatsNone : List Sig → ℕ → Type 0
RepeatsNone sigs n =
    option_map_or (λ sig. list_any (λ other. same_name sig.name other.name) (take n sigs)) (slice_get sigs n) false
    ≡ false
