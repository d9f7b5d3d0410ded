-- Where a body stands: without the variables around, and, in its block, without the loops.
use Rattle.std.specs.Prelude.{◌≡◌, List, []}
use Rattle.mir_ty.specs.declared.ty.TyId.{TyId}
use Rattle.typing_rules.specs.Scope.{LabelledLoop, Env}
use Rattle.typeck_checker.specs.declared.body_scope.BodyScope.{BodyScope}

abbrev pub alone : Env → Env
alone env = record env { variables = [] }

abbrev pub with_loops : List LabelledLoop → Env → Env
with_loops loops env = record env { loops = loops }

-- in the block of a body whose result has this type
abbrev pub in_block : TyId → Env → Env
in_block answer env = record env { loops = []; answer = answer }

-- the same, of a place as it stands in Rust
abbrev pub IsAlone : BodyScope → BodyScope → Type 0
IsAlone old new =
    (new.self_adt ≡ old.self_adt) × (new.variables ≡ []) × (new.loops ≡ old.loops) × (new.answer ≡ old.answer)

abbrev pub IsBlock : TyId → BodyScope → BodyScope → Type 0
IsBlock answer old new =
    (new.self_adt ≡ old.self_adt) × (new.variables ≡ old.variables) × (new.loops ≡ []) × (new.answer ≡ answer)

-- all but the loops
abbrev pub IsAside : BodyScope → BodyScope → Type 0
IsAside old aside = (aside.self_adt ≡ old.self_adt) × (aside.variables ≡ old.variables) × (aside.answer ≡ old.answer)
