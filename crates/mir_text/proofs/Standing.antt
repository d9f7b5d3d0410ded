-- Types of a table that was read stand as trees, and are written as they were read.
use Rattle.std.proofs.Common.{◌≡◌, ℕ, zero, suc, ◌<◌, true, List, [], ◌∷◌, ◌++◌, map, length, codes, Option, Some, None, All, decimal, slice_get, refl, ap, sym, subst, ◌∙◌, arith}
use Rattle.std.proofs.lemmas.Option.{none-some, slice_get_within, get_or_from_slice_get}
use Rattle.cfg_graph.specs.WellFormed.NameFaults.{is_name, is_adt_name}
use Rattle.mir_ty.specs.declared.adt.Adt.{Adt}
use Rattle.mir_ty.specs.declared.def.TraitDef.{TraitDef}
use Rattle.mir_ty.specs.declared.ty.Ty.{Ty}
use Rattle.mir_ty.specs.declared.ty.TyId.{TyId}
use Rattle.mir_ty.specs.AreItems.{AreItems, HasParts, types_in, IsTy}
use Rattle.mir_ty.specs.ItemTable.{ItemTable, type_at}
use Rattle.mir_ty.specs.Named.{adt_name, name_of_adt}
use Rattle.listing_write.specs.Fields.{TyFits}
use Rattle.listing_write.specs.Lines.{Tree, tree_text, trees_text, trees_of, form_tree, found_tree, tree_within, tree_of, trees}
use Rattle.listing_write.specs.Types.{tuple_text, form_text, found_text, type_within, type_text, deepest, trait_name, name_of_trait}
use Rattle.listing_write.proofs.Reading.Basics.{Every}
use Rattle.mir_text.proofs.Named.{Extends, no_fewer_adts, no_fewer_traits, adt_same, trait_same}
use Rattle.listing_lines.specs.CodeStands.{IsAdtName, IsTraitName, AreNames}
use Rattle.listing_lines.proofs.CodeSound.{is_there}
use Rattle.listing_parts.specs.Numbers.{adt_no}
use Rattle.listing_parts.specs.Table.{AreRead, HasHead, under, text_under}
use Rattle.listing_parts.specs.TypesFound.{Stands, AllStand, EachStands, HasOne}
use Rattle.listing_parts.proofs.Complete.{found_at}
use Rattle.listing_parts.proofs.Depth.{is_a_name}
use Rattle.listing_parts.proofs.Texts.{every_from_all, every_more}

pub all_at : {X : Type 0} (P : X → Type 0) (xs : List X) → All P xs → (n : ℕ) (x : X) → slice_get xs n ≡ Some x → P x
all_at P xs all n x is = subst P (get_or_from_slice_get xs n x x is) (all n x (slice_get_within xs n x is))

-- names of items that can stand in a listing are names of items
module _ (items : ItemTable) (names : AreNames items) where
  pub adt_stands : (n : ℕ) → n < length items.adts → (is_adt_name (adt_name items n) ≡ true) × (adt_no items (adt_name items n) < length items.adts)
  adt_stands n h =
      let (adt, is) = found_at items.adts n h in
      let all = is_there (λ (adt : Adt). adt.name) (λ (adt : Adt). is_adt_name adt.name ≡ true) items.adts n adt (every_from_all (λ (adt : Adt). is_adt_name adt.name ≡ true) items.adts names.adts) is in
      subst (λ (name : List ℕ). (is_adt_name name ≡ true) × (adt_no items name < length items.adts)) (sym (ap name_of_adt is)) all

  pub trait_stands : (n : ℕ) → n < length items.traits → IsTraitName items (trait_name items n)
  trait_stands n h =
      let (def, is) = found_at items.traits n h in
      let all = is_there (λ (def : TraitDef). def.name) (λ (def : TraitDef). is_name def.name ≡ true) items.traits n def (every_from_all (λ (def : TraitDef). is_name def.name ≡ true) items.traits names.traits) is in
      subst (IsTraitName items) (sym (ap name_of_trait is)) all

  pub adt_named : (n : ℕ) → n < length items.adts → IsAdtName items (adt_name items n)
  adt_named n h = let all = adt_stands n h in (is_a_name (adt_name items n) all.0, all.1)

-- a type stands as a tree, where those in it do
module _ (items : ItemTable) (names : AreNames items) where
  all_stand : (inner : TyId → Tree) (ids : List TyId) → Every (λ id. Stands items (inner id)) ids → AllStand items (trees_of inner ids)
  all_stand inner [] h = tt
  all_stand inner (id ∷ ids) h = (h.0, all_stand inner ids h.1)

  has_one : (inner : TyId → Tree) (ids : List TyId) → 0 < length ids → HasOne (trees_of inner ids)
  has_one inner [] h = absurd (omega arith)
  has_one inner (id ∷ ids) h = tt

  pub form_stands : (inner : TyId → Tree) (ty : Ty) → Every (λ id. Stands items (inner id)) (types_in ty) → HasHead items ty → TyFits ty → HasParts ty → Stands items (form_tree items inner ty)
  form_stands inner (Ty.Int kind) h head fits parts = tt
  form_stands inner Ty.Bool h head fits parts = tt
  form_stands inner Ty.Unit h head fits parts = tt
  form_stands inner Ty.Never h head fits parts = tt
  form_stands inner (Ty.Adt n) h head fits parts = adt_stands items names n head
  form_stands inner (Ty.Tuple ids) h head fits parts = (has_one inner ids parts, all_stand inner ids h)
  form_stands inner (Ty.Array element count) h head fits parts = (h.0, fits)
  form_stands inner (Ty.Boxed inside) h head fits parts = h.0
  form_stands inner (Ty.Dyn n) h head fits parts = trait_stands items names n head
  form_stands inner (Ty.Shared to) h head fits parts = h.0
  form_stands inner (Ty.Unique to) h head fits parts = h.0
  form_stands inner (Ty.Closure n) h head fits parts = fits

module _ (heads items : ItemTable) (read : AreRead heads items.types) (x : Extends heads items) where
  parts_below : (id : TyId) (ty : Ty) → type_at items id ≡ Some ty → Every (λ part. part.0 < id.0) (types_in ty)
  parts_below id ty is = every_from_all (λ part. part.0 < id.0) (types_in ty) (read id.0 ty is).below

  -- a tree is written as the type is
  row_words : (inner : TyId → Tree) (f : TyId → List ℕ) → ((id : TyId) → tree_text (inner id) ≡ f id) → (ids : List TyId) → trees_text (trees_of inner ids) ≡ map f ids
  row_words inner f h [] = refl
  row_words inner f h (id ∷ ids) = λ i. h id i ∷ row_words inner f h ids i

  form_word : (inner : TyId → Tree) (f : TyId → List ℕ) → ((id : TyId) → tree_text (inner id) ≡ f id) → (ty : Ty) → HasHead heads ty → tree_text (form_tree items inner ty) ≡ form_text (under heads items) f ty
  form_word inner f h (Ty.Int kind) head = refl
  form_word inner f h Ty.Bool head = refl
  form_word inner f h Ty.Unit head = refl
  form_word inner f h Ty.Never head = refl
  form_word inner f h (Ty.Adt n) head = adt_same heads items x n head
  form_word inner f h (Ty.Tuple parts) head = ap tuple_text (row_words inner f h parts)
  form_word inner f h (Ty.Array element count) head = ap (λ (w : List ℕ). codes "[" ++ w ++ codes "; " ++ decimal count ++ codes "]") (h element)
  form_word inner f h (Ty.Boxed inside) head = ap (λ (w : List ℕ). codes "Box<" ++ w ++ codes ">") (h inside)
  form_word inner f h (Ty.Dyn n) head = ap (λ (w : List ℕ). codes "dyn " ++ w) (trait_same heads items x n head)
  form_word inner f h (Ty.Shared to) head = ap (λ (w : List ℕ). codes "&" ++ w) (h to)
  form_word inner f h (Ty.Unique to) head = ap (λ (w : List ℕ). codes "&mut " ++ w) (h to)
  form_word inner f h (Ty.Closure n) head = refl

  within_word : (d : ℕ) (id : TyId) → tree_text (tree_within items d id) ≡ type_within (under heads items) d id
  within_word zero id = refl
  within_word (suc d) id = by (type_at items id) refl (within_word d)
    where
      by : (o : Option Ty) → type_at items id ≡ o → ((part : TyId) → tree_text (tree_within items d part) ≡ type_within (under heads items) d part) → tree_text (found_tree items (tree_within items d) o) ≡ found_text (under heads items) (type_within (under heads items) d) o
      by None e deeper = refl
      by (Some ty) e deeper = form_word (tree_within items d) (type_within (under heads items) d) deeper ty (read id.0 ty e).head

  pub word_is : (id : TyId) → tree_text (tree_of items id) ≡ text_under heads items id
  unfolding tree_of type_text
  word_is id = within_word deepest id

  pub words_are : (ids : List TyId) → map tree_text (trees items ids) ≡ map (text_under heads items) ids
  words_are [] = refl
  words_are (id ∷ ids) = λ i. word_is id i ∷ words_are ids i

  -- and it stands
  module _ (names : AreNames items) (are : AreItems items) where
    head_up : (ty : Ty) → HasHead heads ty → HasHead items ty
    head_up (Ty.Adt n) head = let most = no_fewer_adts heads items x in omega (arith, head, most)
    head_up (Ty.Dyn n) head = let most = no_fewer_traits heads items x in omega (arith, head, most)
    head_up _ head = tt

    within_stands : (d : ℕ) (id : TyId) → id.0 < d → id.0 < length items.types → Stands items (tree_within items d id)
    within_stands zero id less there = absurd (omega arith)
    within_stands (suc d) id less there = by (type_at items id) refl (λ part below. within_stands d part (omega (arith, below, less)) (omega (arith, below, there)))
      where
        by : (o : Option Ty) → type_at items id ≡ o → ((part : TyId) → part.0 < id.0 → Stands items (tree_within items d part)) → Stands items (found_tree items (tree_within items d) o)
        by None e deeper = let found = found_at items.types id.0 there in absurd (none-some found.0 (sym e ∙ found.1))
        by (Some ty) e deeper =
            let may = read id.0 ty e in
            form_stands items names (tree_within items d) ty (every_more (λ part. part.0 < id.0) (λ part. Stands items (tree_within items d part)) deeper (types_in ty) (parts_below id ty e)) (head_up ty may.head) may.fits
            (all_at (IsTy items.types) items.types are.types id.0 ty e).parts

    pub type_stands : (id : TyId) → id.0 < length items.types → Stands items (tree_of items id)
    unfolding tree_of
    type_stands id there = let short = are.short.types in within_stands deepest id (omega (arith, short, there)) there

    pub types_stand : (ids : List TyId) → Every (λ id. id.0 < length items.types) ids → EachStands items (trees items ids)
    types_stand [] h = tt
    types_stand (id ∷ ids) h = (type_stands id h.0, types_stand ids h.1)
