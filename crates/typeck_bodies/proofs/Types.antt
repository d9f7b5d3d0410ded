-- The types of captures, one behind another.
use Rattle.std.proofs.Common.{◌≡◌, ℕ, suc, ◌+◌, List, [], ◌∷◌, ◌++◌, slice_get, Some, take, ap, sym, ◌∙◌, arith}
use Rattle.std.proofs.Math.Seq.{take-suc}
use Rattle.std.proofs.lemmas.Option.{get_or_from_slice_get, slice_get_within}
use Rattle.std.proofs.lemmas.List.{map_push}
use Rattle.mir_ty.specs.declared.ty.TyId.{TyId}
use Rattle.typing_rules.specs.Bodies.{types_of}
use Rattle.typing_rules.specs.Scope.{NamedEntry}

one_more : (xs : List NamedEntry) (n : ℕ) (x : NamedEntry) → slice_get xs n ≡ Some x → take (n + 1) xs ≡ take n xs ++ x ∷ []
one_more xs n x at =
    (let k : n + 1 ≡ suc n = omega arith in ap (λ (m : ℕ). take m xs) k)
    ∙ take-suc xs n x (slice_get_within xs n x at) ∙ ap (λ y. take n xs ++ y ∷ []) (get_or_from_slice_get xs n x x at)

pub one_type : (tys later : List TyId) (xs : List NamedEntry) (n : ℕ) (x : NamedEntry) → slice_get xs n ≡ Some x → tys ≡ types_of (take n xs) →
    later ≡ tys ++ x.ty ∷ [] → later ≡ types_of (take (n + 1) xs)
one_type tys later xs n x at is next =
    next ∙ ap (λ (l : List TyId). l ++ x.ty ∷ []) is
    ∙ sym (map_push (λ (e : NamedEntry). e.ty) (take n xs) x) ∙ ap types_of (sym (one_more xs n x at))
