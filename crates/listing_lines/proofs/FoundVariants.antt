-- Variants that are read into a table.
use Rattle.std.proofs.Common.{◌≡◌, ℕ, zero, suc, ◌<◌, List, [], ◌∷◌, ◌++◌, All, map, length, Option, Some, None, decimal, refl, ap, sym, subst, ◌∙◌, arith, append_assoc, append-nil, length-append}
use Rattle.std.specs.Prelude.{Bool, false, Ok}
use Rattle.std.specs.Borrow.{Bor}
use Rattle.std.proofs.lemmas.List.Elements.{All-append, All-cons, All-nil}
use Rattle.mir_ty.specs.declared.adt.Adt.{Adt}
use Rattle.mir_ty.specs.declared.adt.Variant.{Variant}
use Rattle.mir_ty.specs.declared.ty.Ty.{Ty}
use Rattle.mir_ty.specs.declared.ty.TyId.{TyId}
use Rattle.mir_ty.specs.AreItems.{AreTypes, IsAdt, IsVariant}
use Rattle.mir_ty.specs.ItemTable.{ItemTable}
use Rattle.listing_write.specs.Compared.{VariantSeen, AdtSeen, variant_seen, adt_seen}
use Rattle.listing_write.specs.Reading.Rows.{many, many_within, comma}
use Rattle.listing_write.specs.Reading.Words.{FoundInText}
use Rattle.listing_parts.specs.Table.{AreRead, Grow, under, text_under}
use Rattle.listing_parts.proofs.FoundRows.{map-append, then_grow, still_types}
use Rattle.listing_parts.proofs.Texts.{every_from_all, texts_grown}
use Rattle.listing_write.proofs.Reading.Basics.{Every}
use Rattle.listing_lines.specs.ItemReading.{first_names}
use Rattle.listing_lines.specs.ItemsRead.{FindsVariant, FindsMore, FindsAdt, variant_of, struct_of}

length-first_names : (k : ℕ) → length (first_names k) ≡ k
length-first_names zero = refl
length-first_names (suc k) = let less = length-first_names k in omega (arith, length-append (first_names k) (decimal k ∷ []))

pub is_variant : (types : List Ty) (name : List ℕ) (fields : List TyId) → AreTypes types fields → IsVariant types (variant_of name fields)
is_variant types name fields within = record { fields = within; names = length-first_names (length fields) }

pub variant_found : (heads old new : ItemTable) (variant : Variant) (rest : Bor (List ℕ)) (name : List ℕ) (fields : List TyId) (found : FoundInText VariantSeen) → variant ≡ variant_of name fields
    → found ≡ Some ((name, map (text_under heads new) fields), rest.now) → AreTypes new.types fields → Grow heads old new → FindsVariant heads old new (Ok (variant, rest)) found
variant_found heads old new variant rest name fields found made is within grow = record {
  there = is ∙ ap (λ (v : Variant). let one : FoundInText VariantSeen = Some (variant_seen (under heads new) v, rest.now) in one) (sym made);
  within = subst (IsVariant new.types) (sym made) (is_variant new.types name fields within);
  missing = λ e. absurd (cc e);
  grow = grow;
}

pub struct_found : (heads old new : ItemTable) (adt : Adt) (rest : Bor (List ℕ)) (name : List ℕ) (fields : List TyId) (copy : Bool) (drop_body : Option ℕ) (found : FoundInText AdtSeen)
    → adt ≡ struct_of name fields copy drop_body
    → found ≡ Some (record { is_enum = false; name = name; variants = (name, map (text_under heads new) fields) ∷ []; copy = copy; drop_body = drop_body }, rest.now)
    → AreTypes new.types fields → Grow heads old new → FindsAdt heads old new (Ok (adt, rest)) found
struct_found heads old new adt rest name fields copy drop_body found made is within grow = record {
  there = is ∙ ap (λ (a : Adt). let one : FoundInText AdtSeen = Some (adt_seen (under heads new) a, rest.now) in one) (sym made);
  within =
      subst (IsAdt new.types) (sym made)
      (record {
        variants = All-cons (IsVariant new.types) (variant_of name fields) [] (is_variant new.types name fields within) (All-nil (IsVariant new.types));
        of_struct = λ h. (variant_of name fields, refl, refl);
      });
  missing = λ e. absurd (cc e);
  grow = grow;
}

-- variants that were there are as they were
still_variant : (heads old new : ItemTable) (variant : Variant) → Grow heads old new → IsVariant old.types variant → IsVariant new.types variant
still_variant heads old new variant grow is = record { fields = still_types heads old new variant.fields grow is.fields; names = is.names }

pub still_variants : (heads old new : ItemTable) (variants : List Variant) → Grow heads old new → All (IsVariant old.types) variants → All (IsVariant new.types) variants
still_variants heads old new variants grow all n d lt = still_variant heads old new _ grow (all n d lt)

seen_grown : (heads old new : ItemTable) → AreRead heads old.types → Grow heads old new → (variants : List Variant) → Every (IsVariant old.types) variants
    → map (variant_seen (under heads new)) variants ≡ map (variant_seen (under heads old)) variants
seen_grown heads old new read grow [] all = refl
seen_grown heads old new read grow (v ∷ vs) all =
    let types = texts_grown heads old new read grow.others v.fields (every_from_all (λ (id : TyId). id.0 < length old.types) v.fields all.0.fields) in
    λ i. (v.name, types i) ∷ seen_grown heads old new read grow vs all.1 i

pub one_more_variant : (types : List Ty) (variants : List Variant) (variant : Variant) → All (IsVariant types) variants → IsVariant types variant → All (IsVariant types) (variants ++ variant ∷ [])
one_more_variant types variants variant all one = All-append (IsVariant types) variants (variant ∷ []) all (All-cons (IsVariant types) variant [] one (All-nil (IsVariant types)))

module _ (heads : ItemTable) (read : List ℕ → FoundInText VariantSeen) where
  abbrev pub so_far : ItemTable → List Variant → List VariantSeen × List ℕ → List VariantSeen × List ℕ
  so_far items variants q = (map (variant_seen (under heads items)) variants ++ q.0, q.1)

  grown_so_far : (old new : ItemTable) (variants : List Variant) (q : List VariantSeen × List ℕ) → All (IsVariant old.types) variants → AreRead heads old.types → Grow heads old new
      → so_far new variants q ≡ so_far old variants q
  grown_so_far old new variants q within types grow =
      ap (λ (ws : List VariantSeen). (ws ++ q.0, q.1)) (seen_grown heads old new types grow variants (every_from_all (IsVariant old.types) variants within))

  none_many : (fuel : ℕ) (t : List ℕ) → read t ≡ None → many_within fuel read t ≡ ([], t)
  none_many zero t h = refl
  none_many (suc k) t h = rw h refl

  pub row_stops : (initial cur new : ItemTable) (fuel : ℕ) (before variants : List Variant) (rest : Bor (List ℕ)) (found : List VariantSeen × List ℕ)
      → so_far cur variants (many_within fuel read rest.now) ≡ so_far initial before found → All (IsVariant cur.types) variants → Grow heads initial cur → Grow heads cur new → read rest.now ≡ None
      → FindsMore heads initial new before variants (Ok rest) found
  row_stops initial cur new fuel before variants rest found left within grow more none =
      let whole : so_far new variants ([], rest.now) ≡ so_far initial before found =
      grown_so_far cur new variants ([], rest.now) within grow.types more ∙ ap (so_far cur variants) (sym (none_many fuel rest.now none)) ∙ left in
      record {
        there = (
          sym (append-nil (map (variant_seen (under heads new)) variants)) ∙ ap (λ (q : List VariantSeen × List ℕ). q.0) whole,
          ap (λ (q : List VariantSeen × List ℕ). q.1) whole,
        );
        within = still_variants heads cur new variants more within;
        grow = then_grow heads initial cur new grow more;
      }

  pub row_goes_on : (initial cur new : ItemTable) (fuel k : ℕ) (before variants after : List Variant) (variant : Variant) (rest behind : List ℕ) (found : List VariantSeen × List ℕ) → fuel ≡ suc k
      → so_far cur variants (many_within fuel read rest) ≡ so_far initial before found → All (IsVariant cur.types) variants → Grow heads initial cur → Grow heads cur new
      → read rest ≡ Some (variant_seen (under heads new) variant, behind) → after ≡ variants ++ variant ∷ []
      → so_far new after (many_within k read behind) ≡ so_far initial before found
  row_goes_on initial cur new fuel k before variants after variant rest behind found e left within grow more is pushed =
      let q : List VariantSeen × List ℕ = many_within k read behind in
      let step : many_within fuel read rest ≡ (variant_seen (under heads new) variant ∷ q.0, q.1) =
      ap (λ (n : ℕ). many_within n read rest) e ∙ ap (λ (f : FoundInText VariantSeen). Rattle.listing_write.specs.Reading.Rows.after f (many_within k read) rest) is in
      ap (λ (vs : List Variant). so_far new vs q) pushed
      ∙ ap (λ (ws : List VariantSeen). (ws ++ q.0, q.1)) (map-append (variant_seen (under heads new)) variants (variant ∷ []))
      ∙ ap (λ (ws : List VariantSeen). (ws, q.1)) (append_assoc (map (variant_seen (under heads new)) variants) (variant_seen (under heads new) variant ∷ []) q.0)
      ∙ grown_so_far cur new variants (variant_seen (under heads new) variant ∷ q.0, q.1) within grow.types more
      ∙ ap (so_far cur variants) (sym step)
      ∙ left
