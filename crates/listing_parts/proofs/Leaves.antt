-- A beginning that is a whole type has no others in it.
use Rattle.std.proofs.Common.{◌≡◌, ℕ, ◌<◌, Bool, true, false, List, [], ◌∷◌, codes, Option, Some, None, slice_get, if◌then◌else◌, All, refl, subst, inl, inr}
use Rattle.std.specs.Prelude.{◌⊎◌, length}
use Rattle.std.proofs.lemmas.List.Elements.{All-nil}
use Rattle.std.proofs.lemmas.Option.{same_Some, none-some, slice_get_within}
use Rattle.mir_base.specs.declared.int_kind.IntKind.{IntKind}
use Rattle.mir_ty.specs.declared.ty.Ty.{Ty}
use Rattle.mir_ty.specs.declared.ty.TyId.{TyId}
use Rattle.mir_ty.specs.ItemTable.{ItemTable}
use Rattle.cfg_graph.specs.WellFormed.NameFaults.{same_name, stands_in_names}
use Rattle.listing_parts.specs.Numbers.{adt_no, trait_no}
use Rattle.listing_write.specs.Fields.{Fits}
use Rattle.listing_write.specs.Reading.Words.{FoundInText, bind, or_else, said, strip, span}
use Rattle.listing_parts.specs.declared.begin.TypeAround.{TypeAround}
use Rattle.listing_parts.specs.declared.begin.Begin.{Begin}
use Rattle.listing_parts.specs.Leaves.{IsLeaf, BeginsLeaf}
use Rattle.listing_parts.specs.TypeReading.{whole_number, word_type, closure_type, adt_type, named_type, type_of_word, unique_mark, reference_from, reference_begin, marked_begin, object_from, object_begin, worded_begin, begin_from, begin_read}
use Rattle.listing_parts.proofs.PlainNumbers.{whole_sound}
use Rattle.listing_parts.proofs.Splits.{split, either, one_of_two}

module _ (heads : ItemTable) where
  no_parts : (n : ℕ) → All (λ (id : TyId). id.0 < n) []
  no_parts n = All-nil (λ (id : TyId). id.0 < n)

  kind_leaf : (kind : IntKind) → IsLeaf heads (Ty.Int kind)
  kind_leaf kind = record { stands = λ n. record { below = no_parts n; head = tt; fits = tt }; parts = tt; written = λ items inner. refl }

  bool_leaf : IsLeaf heads Ty.Bool
  bool_leaf = record { stands = λ n. record { below = no_parts n; head = tt; fits = tt }; parts = tt; written = λ items inner. refl }

  never_leaf : IsLeaf heads Ty.Never
  never_leaf = record { stands = λ n. record { below = no_parts n; head = tt; fits = tt }; parts = tt; written = λ items inner. refl }

  pub unit_leaf : IsLeaf heads Ty.Unit
  unit_leaf = record { stands = λ n. record { below = no_parts n; head = tt; fits = tt }; parts = tt; written = λ items inner. refl }

  adt_leaf : (k : ℕ) → k < length heads.adts → IsLeaf heads (Ty.Adt k)
  adt_leaf k h = record { stands = λ n. record { below = no_parts n; head = h; fits = tt }; parts = tt; written = λ items inner. refl }

  object_leaf : (k : ℕ) → k < length heads.traits → IsLeaf heads (Ty.Dyn k)
  object_leaf k h = record { stands = λ n. record { below = no_parts n; head = h; fits = tt }; parts = tt; written = λ items inner. refl }

  closure_leaf : (k : ℕ) → Fits k → IsLeaf heads (Ty.Closure k)
  closure_leaf k h = record { stands = λ n. record { below = no_parts n; head = tt; fits = h }; parts = tt; written = λ items inner. refl }

  one_word : (t : Bool) (a : Ty) (other : Option Ty) (ty : Ty) → IsLeaf heads a → (other ≡ Some ty → IsLeaf heads ty) → (if t then Some a else other) ≡ Some ty → IsLeaf heads ty
  one_word true a other ty leaf rest h = subst (IsLeaf heads) (same_Some a ty h) leaf
  one_word false a other ty leaf rest h = rest h

  word_leaf : (w : List ℕ) (ty : Ty) → word_type w ≡ Some ty → IsLeaf heads ty
  word_leaf w ty h =
      one_word (same_name w (codes "i32")) (Ty.Int IntKind.I32) _ ty (kind_leaf IntKind.I32)
      (one_word (same_name w (codes "i64")) (Ty.Int IntKind.I64) _ ty (kind_leaf IntKind.I64)
      (one_word (same_name w (codes "u32")) (Ty.Int IntKind.U32) _ ty (kind_leaf IntKind.U32)
      (one_word (same_name w (codes "u64")) (Ty.Int IntKind.U64) _ ty (kind_leaf IntKind.U64)
      (one_word (same_name w (codes "usize")) (Ty.Int IntKind.Usize) _ ty (kind_leaf IntKind.Usize)
      (one_word (same_name w (codes "bool")) Ty.Bool None ty bool_leaf (λ e. absurd (none-some ty e))))))) h

  named_leaf : (w : List ℕ) (ty : Ty) → named_type heads w ≡ Some ty → IsLeaf heads ty
  named_leaf w ty h = by (either (strip (codes "closure#") w) closure_type (adt_type heads w) ty h)
    where
      by : ((u : List ℕ) × (strip (codes "closure#") w ≡ Some u) × (closure_type u ≡ Some ty)) ⊎ ((strip (codes "closure#") w ≡ None) × (adt_type heads w ≡ Some ty)) → IsLeaf heads ty
      by (inl c) =
          let (n, whole, last) = split (whole_number c.0) (λ n. Some (Ty.Closure n)) ty c.2 in
          subst (IsLeaf heads) (same_Some (Ty.Closure n) ty last) (closure_leaf n (whole_sound c.0 n whole).1)
      by (inr a) =
          let (adt, is, last) = split (slice_get heads.adts (adt_no heads w)) (λ adt. Some (Ty.Adt (adt_no heads w))) ty a.1 in
          subst (IsLeaf heads) (same_Some (Ty.Adt (adt_no heads w)) ty last) (adt_leaf (adt_no heads w) (slice_get_within heads.adts (adt_no heads w) adt is))

  one_word_leaf : (w : List ℕ) (ty : Ty) → type_of_word heads w ≡ Some ty → IsLeaf heads ty
  one_word_leaf w ty h = by (one_of_two (word_type w) (named_type heads w) ty h)
    where
      by : (word_type w ≡ Some ty) ⊎ (named_type heads w ≡ Some ty) → IsLeaf heads ty
      by (inl a) = word_leaf w ty a
      by (inr b) = named_leaf w ty b

  -- a beginning that was found
  abbrev Leafy : FoundInText Begin → Type 0
  Leafy o = (b : Begin × List ℕ) → o ≡ Some b → BeginsLeaf heads b.0

  some_leafy : (b : Begin) (r : List ℕ) → BeginsLeaf heads b → Leafy (Some (b, r))
  some_leafy b r leaf c h = subst (λ (d : Begin × List ℕ). BeginsLeaf heads d.0) (same_Some (b, r) c h) leaf

  said_leafy : (word t : List ℕ) (b : Begin) → BeginsLeaf heads b → Leafy (said word b t)
  said_leafy word t b leaf c h = let (u, mark, last) = split (strip word t) (λ r. Some (b, r)) c h in some_leafy b u leaf c last

  or_leafy : (one other : FoundInText Begin) → Leafy one → Leafy other → Leafy (or_else one other)
  or_leafy None other a b = b
  or_leafy (Some x) other a b = a

  reference_leafy : (t : List ℕ) (o : Option (List ℕ)) → BeginsLeaf heads (reference_from t o).0
  reference_leafy t None = tt
  reference_leafy t (Some r) = tt

  marked_leafy : (t : List ℕ) → Leafy (marked_begin t)
  marked_leafy t =
      or_leafy _ _ (said_leafy (codes "(") t Begin.Row tt) (or_leafy _ _ (said_leafy (codes "[") t (Begin.Around TypeAround.Array) tt)
      (or_leafy _ _ (said_leafy (codes "!") t (Begin.Whole Ty.Never) never_leaf) last))
    where
      last : Leafy (bind (strip (codes "&") t) (λ r. Some (reference_begin r)))
      last c h =
          let (u, mark, found) = split (strip (codes "&") t) (λ r. Some (reference_begin r)) c h in
          subst (λ (d : Begin × List ℕ). BeginsLeaf heads d.0) (same_Some (reference_begin u) c found) (reference_leafy u (unique_mark u))

  object_leafy : (t : List ℕ) → Leafy (object_begin heads t)
  object_leafy t c h =
      let (u, blank, named) = split (strip (codes " ") t) (λ t. object_from heads (span stands_in_names t)) c h in
      let n : List ℕ × List ℕ = span stands_in_names u in
      let (def, is, last) = split (slice_get heads.traits (trait_no heads n.0)) (λ def. Some (Begin.Whole (Ty.Dyn (trait_no heads n.0)), n.1)) c named in
      some_leafy (Begin.Whole (Ty.Dyn (trait_no heads n.0))) n.1 (object_leaf (trait_no heads n.0) (slice_get_within heads.traits (trait_no heads n.0) def is)) c last

  if_leafy : (t : Bool) (a b : FoundInText Begin) → Leafy a → Leafy b → Leafy (if t then a else b)
  if_leafy true a b left right = left
  if_leafy false a b left right = right

  worded_leafy : (w r : List ℕ) → Leafy (worded_begin heads w r)
  worded_leafy w r =
      if_leafy (same_name w (codes "Box")) _ _ (said_leafy (codes "<") r (Begin.Around TypeAround.Box) tt)
      (if_leafy (same_name w (codes "dyn")) _ _ (object_leafy r) last)
    where
      last : Leafy (bind (type_of_word heads w) (λ ty. Some (Begin.Whole ty, r)))
      last c h = let (ty, is, found) = split (type_of_word heads w) (λ ty. Some (Begin.Whole ty, r)) c h in some_leafy (Begin.Whole ty) r (one_word_leaf w ty is) c found

  from_leafy : (q : List ℕ × List ℕ) (t : List ℕ) → Leafy (begin_from heads q t)
  from_leafy ([], r) t = marked_leafy t
  from_leafy (b ∷ bs, r) t = worded_leafy (b ∷ bs) r

  pub begin_leaf : (t : List ℕ) (b : Begin) (r : List ℕ) → begin_read heads t ≡ Some (b, r) → BeginsLeaf heads b
  begin_leaf t b r h = from_leafy (span stands_in_names t) t (b, r) h
