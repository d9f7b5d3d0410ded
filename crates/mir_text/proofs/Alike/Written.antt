-- A type that is written as one of a well formed graph exists, where the heads of both graphs are the same.
use Rattle.std.proofs.Common.{◌≡◌, ℕ, zero, suc, ◌^◌, ◌<◌, ◌≤◌, true, false, List, [], ◌∷◌, length, Option, Some, nat_lt, refl, ap, sym, subst, ◌∙◌, arith}
use Rattle.std.specs.List.{list_all}
use Rattle.std.specs.Option.{option_map_or}
use Rattle.std.proofs.lemmas.Bool.{and_from}
use Rattle.std.proofs.lemmas.Option.{same_Some}
use Rattle.mir_ty.specs.declared.def.ClosureDef.{ClosureDef}
use Rattle.mir_ty.specs.declared.ty.Ty.{Ty}
use Rattle.mir_ty.specs.declared.ty.TyId.{TyId}
use Rattle.mir_ty.specs.AreItems.{types_in, HasParts, IsTy}
use Rattle.mir_ty.specs.Facts.{in_rounds}
use Rattle.mir_ty.specs.ItemTable.{ItemTable, type_at}
use Rattle.mir_ty.specs.Named.{adt_name}
use Rattle.cfg_graph.specs.declared.graph.Graph.{Graph}
use Rattle.cfg_graph.specs.WellFormed.TypeFaults.{own_number_exists, existing, ty_exists}
use Rattle.listing_write.specs.Compared.{IsListed}
use Rattle.listing_write.specs.Types.{trait_name, type_text}
use Rattle.listing_write.proofs.Reading.Alike.{TyAlike, ListsAlike, Alike, FormsAlike, adt, tuple, array, boxed, object, shared, unique, closure, forms_alike}
use Rattle.listing_write.proofs.Reading.Basics.{Every}
use Rattle.listing_write.proofs.Reading.Listed.{all_at, are_named, adt_no, trait_no, adts_told, traits_told}
use Rattle.listing_write.proofs.Reading.Parts.{every_from_all}
use Rattle.listing_write.proofs.Reading.Types.{AreNamed, IsShown, known}
use Rattle.mir_text.proofs.Alike.Enough.{enough, text_same, there_exists}
use Rattle.listing_parts.specs.Table.{AreRead}

module _ (left : Graph) (l : IsListed left) (items : ItemTable) (many : List ClosureDef) (read : AreRead items items.types) (much : 2 ^ 32 ≤ length many)
    (parts : (id : TyId) (ty : Ty) → type_at items id ≡ Some ty → HasParts ty) (names : AreNamed (enough items many))
    (adts : length left.items.adts ≡ length items.adts) (traits : length left.items.traits ≡ length items.traits) (closures : length left.items.closures ≡ length items.closures)
    (adt_same : (n : ℕ) → adt_name left.items n ≡ adt_name items n) (trait_same : (n : ℕ) → trait_name left.items n ≡ trait_name items n) where
  abbrev L : ItemTable
  L = left.items

  abbrev E : ItemTable
  E = enough items many

  one_adt : (n m : ℕ) → nat_lt n (length L.adts) ≡ true → nat_lt m (length items.adts) ≡ true → adt_name L n ≡ adt_name items m → n ≡ m
  one_adt n m a b e = sym (adts_told left l n a).1 ∙ ap (adt_no left l) (e ∙ sym (adt_same m)) ∙ (adts_told left l m (ap (nat_lt m) adts ∙ b)).1

  one_trait : (n m : ℕ) → nat_lt n (length L.traits) ≡ true → nat_lt m (length items.traits) ≡ true → trait_name L n ≡ trait_name items m → n ≡ m
  one_trait n m a b e = sym (traits_told left l n a).1 ∙ ap (trait_no left l) (e ∙ sym (trait_same m)) ∙ (traits_told left l m (ap (nat_lt m) traits ∙ b)).1

  forms : (a b : TyId) → TyAlike L E a b → FormsAlike L E a b
  forms = forms_alike L E (are_named left l) names one_adt one_trait (λ id ty is. (all_at (IsTy L.types) L.types id.0 ty l.items.types is).parts) parts

  own_too : (s t : Ty) → Alike L E s t → own_number_exists L s ≡ true → own_number_exists items t ≡ true
  own_too s t (adt n) h = ap (nat_lt n) (sym adts) ∙ h
  own_too s t (object n) h = ap (nat_lt n) (sym traits) ∙ h
  own_too s t (closure n) h = ap (nat_lt n) (sym closures) ∙ h
  own_too s t _ h = refl

  parts_alike : (s t : Ty) → Alike L E s t → ListsAlike L E (types_in s) (types_in t)
  parts_alike s t (tuple h) = h
  parts_alike s t (array h count) = (h, tt)
  parts_alike s t (boxed h) = (h, tt)
  parts_alike s t (shared h) = (h, tt)
  parts_alike s t (unique h) = (h, tt)
  parts_alike s t _ = tt

  shown : (k : ℕ) (a b : TyId) → b.0 < k → b.0 < length items.types → ty_exists L a ≡ true → type_text L a ≡ type_text items b → IsShown items k b
  shown zero a b less there e text = absurd (omega (arith, less))
  shown (suc k) a b less there e text =
      let f = forms a b (record { left_exists = e; right_exists = there_exists items many read much b there; text = text ∙ text_same items many b }) in
      let (s, ks) = known L (are_named left l) a e in
      let same : s ≡ f.s = same_Some s f.s (sym ks.is ∙ f.left_is) in
      let own : own_number_exists L f.s ≡ true = subst (λ (ty : Ty). own_number_exists L ty ≡ true) same ks.own in
      let below = every_from_all (λ (part : TyId). part.0 < b.0) (types_in f.t) (read b.0 f.t f.right_is).below in
      subst (λ (o : Option Ty). option_map_or (existing items (in_rounds items.types (existing items) k)) o false ≡ true) (sym f.right_is)
      (and_from (own_number_exists items f.t) _ (own_too f.s f.t f.alike own) (each (types_in f.s) (types_in f.t) (parts_alike f.s f.t f.alike) below
      (λ x y below x_exists same. shown k x y (omega (arith, below, less)) (omega (arith, below, there)) x_exists same)))
    where
      each : (xs ys : List TyId) → ListsAlike L E xs ys → Every (λ part. part.0 < b.0) ys
          → ((x y : TyId) → y.0 < b.0 → ty_exists L x ≡ true → type_text L x ≡ type_text items y → IsShown items k y) → list_all (in_rounds items.types (existing items) k) ys ≡ true
      each [] [] h low deeper = refl
      each [] (y ∷ ys) h low deeper = absurd h
      each (x ∷ xs) [] h low deeper = absurd h
      each (x ∷ xs) (y ∷ ys) h low deeper =
          and_from (in_rounds items.types (existing items) k y) _ (deeper x y low.0 h.0.left_exists (h.0.text ∙ sym (text_same items many y))) (each xs ys h.1 low.1 deeper)

  pub written_exists : (a b : TyId) → ty_exists L a ≡ true → b.0 < length items.types → type_text L a ≡ type_text items b → ty_exists items b ≡ true
  written_exists a b e there text = shown (length items.types) a b there there e text
