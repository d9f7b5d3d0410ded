-- What is known of types by the table's own lists of truth values, one a type.
use Rattle.std.specs.Prelude.{◌≡◌, ◌≢◌, ℕ, Bool, true, false, not, ◌&&◌, List, length, Some, slice_get, slice_index_or}
use Rattle.mir_ty.specs.declared.ty.Ty.{Ty}
use Rattle.mir_ty.specs.declared.ty.TyId.{TyId}
use Rattle.mir_ty.specs.declared.adt.Adt.{Adt}
use Rattle.mir_ty.specs.declared.def.ClosureDef.{ClosureDef}
use Rattle.mir_ty.specs.declared.facts.TypeFact.{TypeFact}
use Rattle.mir_ty.specs.Facts.{Rule, copy_rule, drop_rule, by_rule}

abbrev pub known_by : List Bool → TyId → Bool
known_by known id = slice_index_or known id.0 false

abbrev pub rule_of : TypeFact → List Adt → List ClosureDef → Rule
rule_of TypeFact.IsCopy = copy_rule
rule_of TypeFact.NeedsDrop = drop_rule

-- nothing is known that the rule does not show
abbrev pub IsShown : List Ty → Rule → List Bool → Type 0
IsShown types rule known = (id : TyId) → known_by known id ≡ true → by_rule types rule id ≡ true

-- the rule shows nothing of a type that is not known already
abbrev pub IsSettledAt : List Ty → Rule → List Bool → TyId → Type 0
IsSettledAt types rule known id =
    (ty : Ty) → slice_get types id.0 ≡ Some ty → rule (known_by known) ty ≡ true → known_by known id ≡ true

-- what is known is what the rule shows
abbrev pub IsAllShown : List Ty → Rule → List Bool → Type 0
IsAllShown types rule known = (id : TyId) → known_by known id ≡ by_rule types rule id

-- whether the rule shows of the type with a number what is not known of it
abbrev pub IsNews : List Ty → Rule → List Bool → ℕ → Bool → Type 0
IsNews types rule known n news =
    (ty : Ty) → slice_get types n ≡ Some ty → news ≡ (not (slice_index_or known n false) && rule (known_by known) ty)

-- what is known is as long as the types and nothing of it too early, and the rule shows no more but of one type
pub record IsBehindAt (types : List Ty) (rule : Rule) (known : List Bool) (added : Ty) : Type 0 where
  pub long : length known ≡ length types
  pub shown : IsShown types rule known
  pub settled : (id : TyId) (ty : Ty) → slice_get types id.0 ≡ Some ty → ty ≢ added →
      rule (known_by known) ty ≡ true → known_by known id ≡ true
