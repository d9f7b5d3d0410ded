-- `==` of types is equality.
use Rattle.std.proofs.Common.{◌≡◌, true, eqb, Decides, refl, ap, subst}
use Rattle.std.proofs.lemmas.Bool.{false≢true}
use Rattle.std.proofs.lemmas.Bool.Decides.{Decides-eqb}
use Rattle.std.specs.Cmp.{first_so, second_so}
use Rattle.std.specs.Cmp.Lexicographic.{pointwise_decides}
use Rattle.mir_base.specs.declared.int_kind.IntKind.{IntKind}
use Rattle.mir_base.specs.contracts.int_kind.IntKindPartialEq.TheImpl as kind
use Rattle.mir_ty.specs.declared.ty.Ty.{Ty}
use Rattle.mir_ty.specs.declared.ty.TyId.{TyId}
use Rattle.mir_ty.specs.contracts.ty.TyIdPartialEq.TheImpl as id
use Rattle.mir_ty.specs.contracts.ty.TyIdEq.TheImpl.Laws as ids
use Rattle.mir_ty.specs.contracts.ty.TyEq.TheImpl.Laws as tys
use Rattle.mir_ty.specs.contracts.ty.TyPartialEq.TheImpl as ty

same_kind : (a b : IntKind) → kind.ghosts.eq a b ≡ true → a ≡ b
same_kind IntKind.I32 IntKind.I32 h = refl
same_kind IntKind.I32 _ h = absurd (false≢true h)
same_kind IntKind.I64 IntKind.I64 h = refl
same_kind IntKind.I64 _ h = absurd (false≢true h)
same_kind IntKind.U32 IntKind.U32 h = refl
same_kind IntKind.U32 _ h = absurd (false≢true h)
same_kind IntKind.U64 IntKind.U64 h = refl
same_kind IntKind.U64 _ h = absurd (false≢true h)
same_kind IntKind.Usize IntKind.Usize h = refl
same_kind IntKind.Usize _ h = absurd (false≢true h)

same_id : (a b : TyId) → id.ghosts.eq a b ≡ true → a ≡ b
same_id a b h = ap (λ n. record { 0 = n }) ((Decides-eqb a.0 b.0).0 h)

id_Decides : (a b : TyId) → Decides (id.ghosts.eq a b) (a ≡ b)
id_Decides a b = (same_id a b, λ e. subst (λ b. id.ghosts.eq a b ≡ true) e (ids.laws-law.refl a))

same : (a b : Ty) → ty.ghosts.eq a b ≡ true → a ≡ b
same (Ty.Int k) (Ty.Int l) h = ap Ty.Int (same_kind k l h)
same (Ty.Int k) _ h = absurd (false≢true h)
same Ty.Bool Ty.Bool h = refl
same Ty.Bool _ h = absurd (false≢true h)
same Ty.Unit Ty.Unit h = refl
same Ty.Unit _ h = absurd (false≢true h)
same Ty.Never Ty.Never h = refl
same Ty.Never _ h = absurd (false≢true h)
same (Ty.Adt m) (Ty.Adt n) h = ap Ty.Adt ((Decides-eqb m n).0 h)
same (Ty.Adt m) _ h = absurd (false≢true h)
same (Ty.Tuple a) (Ty.Tuple b) h = ap Ty.Tuple ((pointwise_decides id_Decides a b).0 h)
same (Ty.Tuple a) _ h = absurd (false≢true h)
same (Ty.Array a m) (Ty.Array b n) h = λ i. Ty.Array (same_id a b (first_so (id.ghosts.eq a b) (eqb m n) h) i) ((Decides-eqb m n).0 (second_so (id.ghosts.eq a b) (eqb m n) h) i)
same (Ty.Array a m) _ h = absurd (false≢true h)
same (Ty.Boxed a) (Ty.Boxed b) h = ap Ty.Boxed (same_id a b h)
same (Ty.Boxed a) _ h = absurd (false≢true h)
same (Ty.Dyn m) (Ty.Dyn n) h = ap Ty.Dyn ((Decides-eqb m n).0 h)
same (Ty.Dyn m) _ h = absurd (false≢true h)
same (Ty.Shared a) (Ty.Shared b) h = ap Ty.Shared (same_id a b h)
same (Ty.Shared a) _ h = absurd (false≢true h)
same (Ty.Unique a) (Ty.Unique b) h = ap Ty.Unique (same_id a b h)
same (Ty.Unique a) _ h = absurd (false≢true h)
same (Ty.Closure m) (Ty.Closure n) h = ap Ty.Closure ((Decides-eqb m n).0 h)
same (Ty.Closure m) _ h = absurd (false≢true h)

pub ty_eq_Decides : (a b : Ty) → Decides (ty.ghosts.eq a b) (a ≡ b)
ty_eq_Decides a b = (same a b, λ e. subst (λ b. ty.ghosts.eq a b ≡ true) e (tys.laws-law.refl a))
