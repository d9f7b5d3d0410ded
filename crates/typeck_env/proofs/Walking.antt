-- Steps of a walk that look at a part of what is known.
use Rattle.std.proofs.Common.{◌≡◌, ℕ, length, Option, Some, None, Ok, Contains, ◌⊎◌, inl, inr, ap}
use Rattle.std.specs.List.{position as position_of}
use Rattle.mir_ty.specs.AreItems.{AreItems}
use Rattle.mir_ty.specs.ItemTable.{ItemTable, Interns, with_type}
use Rattle.typeck_heads.proofs.Interning.{interned_is}
use Rattle.typeck_env.specs.Walked.{HasOnlyTypes}
use Rattle.mir_ty.specs.declared.ty.Ty.{Ty}
use Rattle.mir_ty.specs.declared.ty.TyId.{TyId}
use Rattle.well_typed.specs.Items.{is_equal}
use Rattle.typing_rules.specs.Check.{TypingState, Broken, interned, interned_at}
use Rattle.typing_rules.specs.Collected.{starting_with}
use Rattle.std.specs.Prelude.{Result}

-- a type gets the same number whatever else is known
interned_lifted : (ty : Ty) (s : TypingState) (after : ItemTable) (id : TyId) (o : Option ℕ) →
    interned_at ty o (starting_with s.items) ≡ Ok (id, starting_with after) → interned_at ty o s ≡ Ok (id, record s { items = after })
interned_lifted ty s after id (Some n) h = ap (λ (r : Result (TyId × TypingState) Broken). lifted r) h
  where
    lifted : Result (TyId × TypingState) Broken → Result (TyId × TypingState) Broken
    lifted (Ok a) = Ok (a.0, record s { items = a.1.items })
    lifted (Result.Err e) = Result.Err e
interned_lifted ty s after id None h = ap (λ (r : Result (TyId × TypingState) Broken). lifted r) h
  where
    lifted : Result (TyId × TypingState) Broken → Result (TyId × TypingState) Broken
    lifted (Ok a) = Ok (a.0, record s { items = a.1.items })
    lifted (Result.Err e) = Result.Err e

pub interned_so : (ty : Ty) (s : TypingState) (after : ItemTable) (id : TyId) → interned ty (starting_with s.items) ≡ Ok (id, starting_with after) →
    interned ty s ≡ Ok (id, record s { items = after })
interned_so ty s after id h = interned_lifted ty s after id (position_of (is_equal ty) s.items.types) h

pub interned_here : (ty : Ty) (s : TypingState) (after : ItemTable) (id : TyId) → AreItems s.items → Interns s.items ty after id →
    interned ty s ≡ Ok (id, record s { items = after })
interned_here ty s after id are interns = interned_so ty s after id (interned_is s.items after ty id are.distinct interns)

pub interns_fixed : (old after : ItemTable) (ty : Ty) (id : TyId) → Interns old ty after id → HasOnlyTypes old after
interns_fixed old after ty id interns = by interns.1
  where
    by : (after ≡ old) ⊎ ((¬ Contains old.types ty) × (id.0 ≡ length old.types) × (after ≡ with_type old ty)) → HasOnlyTypes old after
    by (inl same) =
        (ap (λ (i : ItemTable). i.adts) same, ap (λ (i : ItemTable). i.traits) same, ap (λ (i : ItemTable). i.impls) same, ap (λ (i : ItemTable). i.bodies) same)
    by (inr added) =
        (ap (λ (i : ItemTable). i.adts) added.2, ap (λ (i : ItemTable). i.traits) added.2, ap (λ (i : ItemTable). i.impls) added.2, ap (λ (i : ItemTable). i.bodies) added.2)
