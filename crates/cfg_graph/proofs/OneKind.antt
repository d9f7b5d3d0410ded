-- Integer types of types.
use Rattle.std.proofs.Common.{◌≡◌, ◌&&◌, ◌||◌, Option, Some, refl, ap}
use Rattle.mir_base.specs.declared.int_kind.IntKind.{IntKind}
use Rattle.mir_ty.specs.declared.ty.Ty.{Ty}
use Rattle.store_model.specs.Places.TypeForms.{is_int, is_bool, same_int, are_compared, int_kind}
use Rattle.cfg_graph.specs.WellFormed.Questions.{same_kinds}

pub kind_of_int : (kind : IntKind) (ty : Option Ty) → is_int kind ty ≡ same_kinds (Some kind) (int_kind ty)
kind_of_int kind (Some (Ty.Int other)) = refl
kind_of_int kind _ = refl

pub kinds_of_two : (left right : Option Ty) → same_int left right ≡ same_kinds (int_kind left) (int_kind right)
kinds_of_two (Some (Ty.Int kind)) right = kind_of_int kind right
kinds_of_two _ right = refl

pub kinds_compared : (left right : Option Ty) → are_compared left right ≡ (same_kinds (int_kind left) (int_kind right) || (is_bool left && is_bool right))
kinds_compared left right = ap (λ b. b || (is_bool left && is_bool right)) (kinds_of_two left right)
