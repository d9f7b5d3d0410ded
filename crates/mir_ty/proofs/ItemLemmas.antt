-- What is true of all items stays true where one more is added.
use Rattle.std.proofs.Common.{◌≡◌, ℕ, ◌+◌, ◌-◌, ◌^◌, ◌<◌, List, [], ◌∷◌, ◌++◌, length, slice_get, Option, Some, None, All, Contains, ◌⊎◌, inl, inr, refl, sym, ap, subst, ◌∙◌, option_and_then, arith}
use Rattle.std.proofs.lemmas.Bool.{cases_order}
use Rattle.std.proofs.lemmas.List.{length_push}
use Rattle.std.proofs.lemmas.List.Elements.{All-push, All-weaker}
use Rattle.std.proofs.lemmas.Option.{slice_get_past}
use Rattle.mir_ty.specs.declared.ty.Ty.{Ty}
use Rattle.mir_ty.specs.declared.ty.TyId.{TyId}
use Rattle.mir_ty.specs.declared.adt.Adt.{Adt}
use Rattle.mir_ty.specs.declared.adt.Variant.{Variant}
use Rattle.mir_ty.specs.declared.def.TraitDef.{TraitDef}
use Rattle.mir_ty.specs.declared.def.ImplDef.{ImplDef}
use Rattle.mir_ty.specs.declared.def.ClosureDef.{ClosureDef}
use Rattle.mir_ty.specs.declared.def.Sig.{Sig}
use Rattle.mir_ty.specs.ItemTable.{ItemTable, item_count, with_type, with_adt, with_trait, with_impl, with_closure, with_body}
use Rattle.mir_ty.specs.AreItems.{types_in, AreTypes, IsTy, IsVariant, IsAdt, IsSig, IsSelfTy, IsMethod, AreMethods, IsShort, AdtIsShort, TraitIsShort, AreItems}
use Rattle.mir_ty.proofs.ListLemmas.{slice_get-below, slice_get-last, slice_get-append_left}
use Rattle.mir_ty.proofs.TypeLists.{AreDistinct-push}

pub more_body : (items : ItemTable) (sig : Sig) → AreItems items → IsSig items.types sig → IsShort sig.params → length items.bodies + 1 < 2 ^ 32 - 1 → AreItems (with_body items sig)
more_body items sig h is short few = record {
  distinct = h.distinct;
  types = h.types;
  adts = h.adts;
  traits = h.traits;
  closures = h.closures;
  bodies = All-push (IsSig items.types) items.bodies sig h.bodies is;
  short = record {
    types = h.short.types;
    bodies = omega (arith, length_push items.bodies sig);
    others = h.short.others;
    in_types = h.short.in_types;
    in_adts = h.short.in_adts;
    in_traits = h.short.in_traits;
    in_impls = h.short.in_impls;
    in_closures = h.short.in_closures;
    in_bodies = All-push (λ sig. IsShort sig.params) items.bodies sig h.short.in_bodies short;
  };
}

pub more_impl : (items : ItemTable) (def : ImplDef) → AreItems items → IsShort def.bodies → item_count items + 1 < 2 ^ 32 - 1 → AreItems (with_impl items def)
more_impl items def h short few = record {
  distinct = h.distinct;
  types = h.types;
  adts = h.adts;
  traits = h.traits;
  closures = h.closures;
  bodies = h.bodies;
  short = record {
    types = h.short.types;
    bodies = h.short.bodies;
    others = omega (arith, length_push items.impls def);
    in_types = h.short.in_types;
    in_adts = h.short.in_adts;
    in_traits = h.short.in_traits;
    in_impls = All-push (λ def. IsShort def.bodies) items.impls def h.short.in_impls short;
    in_closures = h.short.in_closures;
    in_bodies = h.short.in_bodies;
  };
}

-- the methods of one trait more
methods_more : (types : List Ty) (traits : List TraitDef) (def : TraitDef) → ((n : ℕ) → AreMethods types n (slice_get traits n)) → All (IsMethod types (length traits)) def.methods
    → (n : ℕ) → AreMethods types n (slice_get (traits ++ def ∷ []) n)
methods_more types traits def each here n = by (cases_order n (length traits))
  where
    by : (n ≡ length traits) ⊎ ((n < length traits) ⊎ (length traits < n)) → AreMethods types n (slice_get (traits ++ def ∷ []) n)
    by (inl same) =
        subst (AreMethods types n) (sym (ap (slice_get (traits ++ def ∷ [])) same ∙ slice_get-last traits def)) (subst (λ n. All (IsMethod types n) def.methods) (sym same) here)
    by (inr (inl less)) = subst (AreMethods types n) (sym (slice_get-below traits (def ∷ []) n less)) (each n)
    by (inr (inr more)) = subst (AreMethods types n) (sym (slice_get_past (traits ++ def ∷ []) n (omega (arith, length_push traits def)))) tt

pub more_trait : (items : ItemTable) (def : TraitDef) → AreItems items → All (IsMethod items.types (length items.traits)) def.methods → TraitIsShort def → item_count items + 1 < 2 ^ 32 - 1
    → AreItems (with_trait items def)
more_trait items def h are short few = record {
  distinct = h.distinct;
  types = h.types;
  adts = h.adts;
  traits = methods_more items.types items.traits def h.traits are;
  closures = h.closures;
  bodies = h.bodies;
  short = record {
    types = h.short.types;
    bodies = h.short.bodies;
    others = omega (arith, length_push items.traits def);
    in_types = h.short.in_types;
    in_adts = h.short.in_adts;
    in_traits = All-push TraitIsShort items.traits def h.short.in_traits short;
    in_impls = h.short.in_impls;
    in_closures = h.short.in_closures;
    in_bodies = h.short.in_bodies;
  };
}

pub more_adt : (items : ItemTable) (adt : Adt) → AreItems items → IsAdt items.types adt → AdtIsShort adt → item_count items + 1 < 2 ^ 32 - 1 → AreItems (with_adt items adt)
more_adt items adt h is short few = record {
  distinct = h.distinct;
  types = h.types;
  adts = All-push (IsAdt items.types) items.adts adt h.adts is;
  traits = h.traits;
  closures = h.closures;
  bodies = h.bodies;
  short = record {
    types = h.short.types;
    bodies = h.short.bodies;
    others = omega (arith, length_push items.adts adt);
    in_types = h.short.in_types;
    in_adts = All-push AdtIsShort items.adts adt h.short.in_adts short;
    in_traits = h.short.in_traits;
    in_impls = h.short.in_impls;
    in_closures = h.short.in_closures;
    in_bodies = h.short.in_bodies;
  };
}

pub more_closure : (items : ItemTable) (def : ClosureDef) → AreItems items → AreTypes items.types def.captures → IsShort def.captures → item_count items + 1 < 2 ^ 32 - 1 → AreItems (with_closure items def)
more_closure items def h are short few = record {
  distinct = h.distinct;
  types = h.types;
  adts = h.adts;
  traits = h.traits;
  closures = All-push (λ def. AreTypes items.types def.captures) items.closures def h.closures are;
  bodies = h.bodies;
  short = record {
    types = h.short.types;
    bodies = h.short.bodies;
    others = omega (arith, length_push items.closures def);
    in_types = h.short.in_types;
    in_adts = h.short.in_adts;
    in_traits = h.short.in_traits;
    in_impls = h.short.in_impls;
    in_closures = All-push (λ def. IsShort def.captures) items.closures def h.short.in_closures short;
    in_bodies = h.short.in_bodies;
  };
}

-- with one more type, the types that were in the table are in it still
module _ (types : List Ty) (ty : Ty) where
  abbrev types' : List Ty
  types' = types ++ ty ∷ []

  more_types : (ids : List TyId) → AreTypes types ids → AreTypes types' ids
  more_types = All-weaker (λ id. id.0 < length types) (λ id. id.0 < length types') (λ id below. omega (arith, length_push types ty))

  more_ty : (t : Ty) → IsTy types t → IsTy types' t
  more_ty t h = record { within = more_types (types_in t) h.within; parts = h.parts }

  more_variant : (variant : Variant) → IsVariant types variant → IsVariant types' variant
  more_variant variant h = record { fields = more_types variant.fields h.fields; names = h.names }

  more_in_adt : (adt : Adt) → IsAdt types adt → IsAdt types' adt
  more_in_adt adt h = record { variants = All-weaker (IsVariant types) (IsVariant types') more_variant adt.variants h.variants; of_struct = h.of_struct }

  more_sig : (sig : Sig) → IsSig types sig → IsSig types' sig
  more_sig sig h = record { params = more_types sig.params h.params; answer = omega (arith, length_push types ty, h.answer) }

  self_more : (n : ℕ) (o : Option Ty) → IsSelfTy types n o → IsSelfTy types' n o
  self_more n (Some (Ty.Shared to)) h = slice_get-append_left types (ty ∷ []) to.0 (Ty.Dyn n) h
  self_more n (Some (Ty.Unique to)) h = slice_get-append_left types (ty ∷ []) to.0 (Ty.Dyn n) h
  self_more n _ h = absurd h

  receiver_more : (n : ℕ) (o : Option TyId) → IsSelfTy types n (option_and_then (λ id. slice_get types id.0) o) → IsSelfTy types' n (option_and_then (λ id. slice_get types' id.0) o)
  receiver_more n None h = absurd h
  receiver_more n (Some id) h = by (slice_get types id.0) refl h
    where
      by : (t : Option Ty) → slice_get types id.0 ≡ t → IsSelfTy types n t → IsSelfTy types' n (slice_get types' id.0)
      by None is h = absurd h
      by (Some t) is h = subst (IsSelfTy types' n) (sym (slice_get-append_left types (ty ∷ []) id.0 t is)) (self_more n (Some t) h)

  more_method : (n : ℕ) (sig : Sig) → IsMethod types n sig → IsMethod types' n sig
  more_method n sig h = record { head = more_sig sig h.head; receiver = receiver_more n (slice_get sig.params 0) h.receiver }

  more_methods : (n : ℕ) (o : Option TraitDef) → AreMethods types n o → AreMethods types' n o
  more_methods n None h = h
  more_methods n (Some def) h = All-weaker (IsMethod types n) (IsMethod types' n) (more_method n) def.methods h

pub more_type : (items : ItemTable) (ty : Ty) → AreItems items → ¬ Contains items.types ty → IsTy items.types ty → IsShort (types_in ty) → length items.types + 1 < 2 ^ 32 - 1 → AreItems (with_type items ty)
more_type items ty h absent is short few = record {
  distinct = AreDistinct-push items.types ty h.distinct absent;
  types = All-push (IsTy (items.types ++ ty ∷ [])) items.types ty (All-weaker (IsTy items.types) (IsTy (items.types ++ ty ∷ [])) (more_ty items.types ty) items.types h.types) (more_ty items.types ty ty is);
  adts = All-weaker (IsAdt items.types) (IsAdt (items.types ++ ty ∷ [])) (more_in_adt items.types ty) items.adts h.adts;
  traits = λ n. more_methods items.types ty n (slice_get items.traits n) (h.traits n);
  closures = All-weaker (λ def. AreTypes items.types def.captures) (λ def. AreTypes (items.types ++ ty ∷ []) def.captures) (λ def. more_types items.types ty def.captures) items.closures h.closures;
  bodies = All-weaker (IsSig items.types) (IsSig (items.types ++ ty ∷ [])) (more_sig items.types ty) items.bodies h.bodies;
  short = record {
    types = omega (arith, length_push items.types ty);
    bodies = h.short.bodies;
    others = h.short.others;
    in_types = All-push (λ ty. IsShort (types_in ty)) items.types ty h.short.in_types short;
    in_adts = h.short.in_adts;
    in_traits = h.short.in_traits;
    in_impls = h.short.in_impls;
    in_closures = h.short.in_closures;
    in_bodies = h.short.in_bodies;
  };
}
