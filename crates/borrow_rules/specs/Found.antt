-- Parameters that were found, and what is still missing.
use Rattle.std.specs.Prelude.{[], ◌∷◌, ◌+◌, ◌≡◌, ◌<◌, ◌-◌, ℕ, Bool, true, false, not, ◌==◌, ◌&&◌, ◌||◌, List, Contains, length, slice_get, slice_index_or, IsTrue}
use Rattle.std.specs.List.{list_any}
use Rattle.std.specs.Option.{option_map_or}
use Rattle.mir_ty.specs.declared.def.ImplDef.{ImplDef}
use Rattle.mir_ty.specs.ItemTable.{ItemTable}
use Rattle.typed_tree.specs.Tree.{ProgramTree}
use Rattle.typing_rules.specs.Replaced.{BodyParameter, Facts, Replaceable, is_among, is_param, is_replaced, replaceable}
use Rattle.mir_ty.specs.DropBodies.{is_drop_body}

-- the method that an impl has for one of a trait is found
abbrev pub method_found : List BodyParameter → ℕ → ℕ → ℕ → ImplDef → Bool
method_found params trait_no method number def =
    def.trait_no == trait_no && option_map_or (is_among params number) (slice_get def.bodies method) false

-- what is found shows that a parameter may be replaced
abbrev pub is_shown : ItemTable → List BodyParameter → Facts → Bool
is_shown items params f = f.is_stored || list_any (is_replaced items params) f.passed

-- all that is found is so by the rules
abbrev pub IsSound : ItemTable → List Facts → List BodyParameter → Type 0
IsSound items facts params = (number body : ℕ) → IsTrue (is_among params number body) →
    Replaceable items facts number body

-- a parameter is found, if what is found shows it
abbrev pub IsSettled : ItemTable → List BodyParameter → Facts → Type 0
IsSettled items params f = IsTrue (is_shown items params f) → IsTrue (is_among params f.param.number f.param.body)

abbrev pub is_missing : List BodyParameter → Facts → Bool
is_missing params f = not (is_among params f.param.number f.param.body)

abbrev pub one_if : Bool → ℕ
one_if true = 1
one_if false = 0

abbrev pub count_of : (Facts → Bool) → List Facts → ℕ
count_of test [] = 0
count_of test (f ∷ fs) = one_if (test f) + count_of test fs

-- how many are not found
abbrev pub missing : List Facts → List BodyParameter → ℕ
missing facts params = count_of (is_missing params) facts

-- exactly the parameters that may be replaced are found
abbrev pub IsFound : ProgramTree → List BodyParameter → Type 0
IsFound p params = (number body : ℕ) → is_among params number body ≡ is_among (replaceable p) number body

-- in a turn a parameter is noted that is shown and was not found, or nothing is found
abbrev pub Notes : ItemTable → Facts → List BodyParameter → List BodyParameter → Bool → Type 0
Notes items f old new true =
    IsTrue (is_shown items old f) × (is_among old f.param.number f.param.body ≡ false)
    × ((number body : ℕ) → is_among new number body ≡ (is_among old number body || is_param body number f.param))
Notes items f old new false = (new ≡ old) × IsSettled items old f

abbrev pub index_of : ℕ → ℕ → Bool → ℕ
index_of turn count true = count - 1 - turn
index_of turn count false = turn

abbrev pub IsMore : Bool → ℕ → ℕ → Type 0
IsMore true now before = now < before
IsMore false now before = now ≡ before

abbrev pub AreSettled : Bool → ItemTable → List Facts → List BodyParameter → Type 0
AreSettled true items facts params = Unit {0}
AreSettled false items facts params = (f : Facts) → Contains facts f → IsSettled items params f

-- how far a sweep has come: all that is found is so, and as long as it found none, what was looked at is settled
pub record Swept (items : ItemTable) (facts : List Facts) (start : List BodyParameter) (is_back : Bool) (turn : ℕ)
    (grew : Bool) (now : List BodyParameter) : Type 0 where
  pub sound : IsSound items facts now
  pub grown : IsMore grew (missing facts now) (missing facts start)
  pub steady : grew ≡ false → (k : ℕ) → k < turn → (f : Facts) →
      slice_index_or facts (index_of k (length facts) is_back) f ≡ f → IsSettled items now f

-- the drop bodies are in a list of numbers
abbrev pub HasDropBodies : ItemTable → List ℕ → Type 0
HasDropBodies items numbers = (body : ℕ) → list_any (λ n. n == body) numbers ≡ is_drop_body items body
