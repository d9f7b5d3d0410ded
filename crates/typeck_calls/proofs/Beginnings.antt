-- How calls begin.
use Rattle.std.proofs.Common.{◌≡◌, ℕ, ◌==◌, Bool, List, [], length, slice_get, Option, Some, None, Result, Ok, Err, IfOk, refl, ap, sym, ◌∙◌}
use Rattle.std.specs.Option.{option_map_or}
use Rattle.mir_base.specs.declared.place_in_text.Pos.{Pos}
use Rattle.mir_base.specs.declared.rule.RuleError.{RuleError}
use Rattle.mir_ty.specs.declared.adt.Variant.{Variant}
use Rattle.mir_ty.specs.declared.def.Sig.{Sig}
use Rattle.mir_ty.specs.declared.ty.Ty.{Ty}
use Rattle.mir_ty.specs.declared.ty.TyId.{TyId}
use Rattle.typeck_calls.specs.Calls.{Arguments, GivesCall}
use Rattle.typeck_checker.specs.Stand.{GivesValue, stack, state, top}
use Rattle.typeck_checker.specs.declared.checker.Checker.{Checker}
use Rattle.typed_tree.specs.Tree.{Node}
use Rattle.typing_rules.specs.Check.{Check, TypingState, and_then, ◌>>=◌, interned, number}
use Rattle.typing_rules.specs.Named as named
use Rattle.typing_rules.specs.Named.{function_by}
use Rattle.typing_rules.specs.Typed.{called_by, no_variant}
use Rattle.mir_ty.specs.DropBodies.{is_drop_body}
use Rattle.typeck_calls.specs.Endings.{resolved_end, ending_end}
use Rattle.typeck_calls.specs.declared.resolve.ResolvedCall.{ResolvedCall}
use Rattle.typeck_calls.specs.declared.resolve.CallEnding.{CallEnding}

module _ (at : Pos) (expected : Option TyId) (params : List TyId) (ending : CallEnding) where
  -- a call with this end, once it has a number
  abbrev pub numbered : ℕ → Arguments → Check Node
  numbered count args = number >>= (λ id. args params >>= ending_end id at expected ending (count == length params) count)

  begun_as : (b : ResolvedCall) (last : Node) (count : ℕ) (args : Arguments) (s t : TypingState) → number s ≡ Ok (b.id.0, t) → b.params ≡ params → b.ending ≡ ending →
      numbered count args s ≡ (args b.params >>= resolved_end at expected b last count) t
  begun_as b last count args s t got same is =
      ap (λ r. and_then r (λ id. args params >>= ending_end id at expected ending (count == length params) count)) got
      ∙ sym (λ i. (args (same i) >>= ending_end b.id.0 at expected (is i) (count == length (same i)) count) t)

  pub begins : (check : ℕ → Arguments → Check Node) (s t : TypingState) (r : Result ResolvedCall RuleError) (after : Checker) →
      ((count : ℕ) (args : Arguments) → check count args s ≡ numbered count args t) →
      GivesValue (λ b. b.id.0) (number t) r after → IfOk r (λ b. b.params ≡ params) → IfOk r (λ b. b.ending ≡ ending) →
      GivesCall check s (λ b. b.params) (resolved_end at expected) r after
  begins check s t (Ok b) after check_is got same is = λ count args. check_is count args ∙ begun_as b (top (stack after)) count args t (state after) got same is
  begins check s t (Err (RuleError.Broken rule place)) after check_is got same is = absurd (cc)
  begins check s t (Err RuleError.Memory) after check_is got same is = λ count args. tt

pub function_as : (at : Pos) (expected : Option TyId) (body : ℕ) (head : Sig) (params : List TyId) (is_drop : Bool) (value : Check Node) (s : TypingState) →
    Some head ≡ slice_get s.items.bodies body → params ≡ head.params → is_drop ≡ is_drop_body s.items body → (count : ℕ) (args : Arguments) →
    called_by at count value args (function_by s.items body (slice_get s.items.bodies body)) expected s ≡ numbered at expected params (CallEnding.Function body head.result is_drop) count args s
function_as at expected body head params is_drop value s is same drops count args =
    sym (ap (λ (h : Option Sig). called_by at count value args (function_by s.items body h) expected s) is)
    ∙ sym (λ i. numbered at expected (same i) (CallEnding.Function body head.result (drops i)) count args s)

-- the types of the fields of a variant
pub fields_as : (v : Option Variant) → (option_map_or (λ v. v) v no_variant).fields ≡ option_map_or (λ v. v.fields) v []
fields_as None = refl
fields_as (Some v) = refl

-- a constructor has a type before its number
pub made_as : (at : Pos) (expected : Option TyId) (adt variant : ℕ) (params types : List TyId) (ty : TyId) (value : Check Node) (s t : TypingState) →
    interned (Ty.Adt adt) s ≡ Ok (ty, t) → params ≡ types → (count : ℕ) (args : Arguments) →
    called_by at count value args (named.Constructor adt variant types) expected s ≡ numbered at expected params (CallEnding.Make adt variant ty) count args t
made_as at expected adt variant params types ty value s t got same count args =
    ap (λ r. and_then r (λ ty. numbered at expected types (CallEnding.Make adt variant ty) count args)) got
    ∙ sym (ap (λ (ps : List TyId). numbered at expected ps (CallEnding.Make adt variant ty) count args t) same)
