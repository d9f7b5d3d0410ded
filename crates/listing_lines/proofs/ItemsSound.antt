-- What is found of the line of a struct or enum is the line in front.
use Rattle.std.proofs.Common.{◌≡◌, ℕ, zero, suc, Bool, true, false, not, ◌&&◌, nat_eq, if◌then◌else◌, List, [], ◌∷◌, ◌++◌, map, length, codes, Option, Some, None, IfSome, refl, ap, sym, subst, ◌∙◌, append_assoc, inl, inr}
use Rattle.std.specs.Prelude.{◌⊎◌}
use Rattle.std.specs.Str.{is_utf8}
use Rattle.std.specs.List.{starts_with}
use Rattle.std.proofs.lemmas.Bool.{and_from}
use Rattle.std.proofs.lemmas.Option.{none-some}
use Rattle.mir_ty.specs.ItemTable.{ItemTable}
use Rattle.cfg_graph.specs.WellFormed.NameFaults.{is_among, is_name, is_adt_name, type_words}
use Rattle.listing_write.specs.Compared.{AdtSeen, VariantSeen}
use Rattle.listing_write.specs.Fields.{Fits}
use Rattle.listing_write.specs.Items.{copy_text, drop_text}
use Rattle.listing_write.specs.Lists.{behind_commas, in_braces, in_parentheses, line}
use Rattle.listing_write.specs.Reading.Rows.{many, many_within, comma}
use Rattle.listing_write.specs.Reading.Words.{FoundInText, bind, chosen, as_, strip}
use Rattle.listing_write.proofs.Reading.Basics.{behind3, behind7}
use Rattle.listing_parts.proofs.LineByLine.{strip_sound}
use Rattle.listing_parts.specs.TypeReading.{plain_number, types_read}
use Rattle.listing_parts.proofs.PlainNumbers.{plain_sound}
use Rattle.listing_parts.proofs.Sound.{rows_sound}
use Rattle.listing_parts.proofs.Splits.{split, either, same_found}
use Rattle.listing_lines.specs.LineReading.{name_read}
use Rattle.listing_lines.proofs.Sound.{name_sound, ended_sound, as_sound}
use Rattle.listing_lines.specs.ItemReading.{copy_from, copy_read, drop_read, marks_from, marks_read, blank_behind, adt_named, adt_name_read, blank_name, variant_from, variant_read, with_more, some_variants, closed_braces, variants_behind, variants_read, marked, struct_from, struct_read, enum_from, enum_read}
use Rattle.listing_lines.specs.ItemsFound.{written_variant, written_shape, written_adt, AdtsAreSound}

copy_sound : (t : List ℕ) → t ≡ copy_text (copy_read t).0 ++ (copy_read t).1
copy_sound t = by (strip (codes " copy") t) refl
  where
    by : (o : Option (List ℕ)) → strip (codes " copy") t ≡ o → t ≡ copy_text (copy_from o t).0 ++ (copy_from o t).1
    by None e = refl
    by (Some r) e = strip_sound (codes " copy") t r e

drop_sound : (t : List ℕ) (body : Option ℕ) (r : List ℕ) → drop_read t ≡ Some (body, r) → (t ≡ drop_text body ++ r) × IfSome body Fits
drop_sound t body r h = by (either (strip (codes " drop ") t) (λ t. as_ (λ body. Some body) (plain_number t)) (Some (None, t)) (body, r) h)
  where
    by : ((u : List ℕ) × (strip (codes " drop ") t ≡ Some u) × (as_ (λ (body : ℕ). Some body) (plain_number u) ≡ Some (body, r)))
        ⊎ ((strip (codes " drop ") t ≡ None) × (◌≡◌ {A = FoundInText (Option ℕ)} (Some (None, t)) (Some (body, r)))) → (t ≡ drop_text body ++ r) × IfSome body Fits
    by (inl d) =
        let (n, found, own) = as_sound (λ (body : ℕ). Some body) (plain_number d.0) body r d.2 in
        let (is, fits) = plain_sound d.0 n r found in (
          strip_sound (codes " drop ") t d.0 d.1 ∙ ap (λ (x : List ℕ). codes " drop " ++ x) is ∙ ap (λ (b : Option ℕ). drop_text b ++ r) own,
          subst (λ (b : Option ℕ). IfSome b Fits) own fits,
        )
    by (inr none) =
        let (own, behind) = same_found None t body r none.1 in
        (behind ∙ ap (λ (b : Option ℕ). drop_text b ++ r) own, subst (λ (b : Option ℕ). IfSome b Fits) own tt)

marks_sound : (t : List ℕ) (copy : Bool) (body : Option ℕ) (r : List ℕ) → marks_read t ≡ Some ((copy, body), r) → (t ≡ copy_text copy ++ (drop_text body ++ (10 ∷ r))) × IfSome body Fits
marks_sound t copy body r h =
    let c : Bool × List ℕ = copy_read t in
    let (s, found, feed) = ended_sound (marks_from c) (copy, body) r h in
    let (b, dropped, own) = as_sound {Y = Bool × Option ℕ} (λ (body : Option ℕ). (c.0, body)) (drop_read c.1) (copy, body) s found in
    let (is, fits) = drop_sound c.1 b s dropped in
    let one : c.0 ≡ copy = ap (λ (x : Bool × Option ℕ). x.0) own in
    let two : b ≡ body = ap (λ (x : Bool × Option ℕ). x.1) own in
    (copy_sound t ∙ (λ i. copy_text (one i) ++ (is ∙ (λ j. drop_text (two j) ++ feed j)) i), subst (λ (b : Option ℕ). IfSome b Fits) two fits)

-- names
blank_sound : (t name r : List ℕ) → blank_name t ≡ Some (name, r) → t ≡ name ++ (codes " " ++ r)
blank_sound t name r h =
    let (q, called, more) = split (name_read t) blank_behind (name, r) h in
    let (u, blank, last) = split (strip (codes " ") q.1) (λ r. Some (q.0, r)) (name, r) more in
    let (own, behind) = same_found q.0 u name r last in
    (name_sound t q.0 q.1 called).0 ∙ (λ i. own i ++ (strip_sound (codes " ") q.1 u blank ∙ ap (λ (x : List ℕ). codes " " ++ x) behind) i)

no_start : (w name : List ℕ) → strip w name ≡ None → starts_with nat_eq name w ≡ false
no_start [] name h = absurd (none-some name (sym h))
no_start (c ∷ w) [] h = refl
no_start (c ∷ w) (a ∷ name) h = by (nat_eq c a) refl h (no_start w name)
  where
    by : (v : Bool) → nat_eq c a ≡ v → (if nat_eq c a then strip w name else None) ≡ None → (strip w name ≡ None → starts_with nat_eq name w ≡ false) → (nat_eq c a && starts_with nat_eq name w) ≡ false
    by true e h more = rw e (more (subst (λ (t : Bool). (if t then strip w name else None) ≡ None) e h))
    by false e h more = rw e refl

adt_name_sound : (t name r : List ℕ) → adt_name_read t ≡ Some (name, r) → (t ≡ name ++ (codes " " ++ r)) × (is_adt_name name ≡ true) × (is_utf8 name ≡ true)
adt_name_sound t name r h =
    let (q, called, more) = split (name_read t) adt_named (name, r) h in
    let (is, named, utf) = name_sound t q.0 q.1 called in
    words q is named utf (is_among type_words q.0) refl more
  where
    words : (q : List ℕ × List ℕ) → t ≡ q.0 ++ q.1 → is_name q.0 ≡ true → is_utf8 q.0 ≡ true → (v : Bool) → is_among type_words q.0 ≡ v
        → (if v then None else chosen (strip (codes "closure#") q.0) (λ r. None) (blank_behind q)) ≡ Some (name, r) → (t ≡ name ++ (codes " " ++ r)) × (is_adt_name name ≡ true) × (is_utf8 name ≡ true)
    words q is named utf true e h = absurd (none-some (name, r) h)
    words q is named utf false e h = start (strip (codes "closure#") q.0) refl h
      where
        start : (o : Option (List ℕ)) → strip (codes "closure#") q.0 ≡ o → chosen o (λ r. None) (blank_behind q) ≡ Some (name, r) → (t ≡ name ++ (codes " " ++ r)) × (is_adt_name name ≡ true) × (is_utf8 name ≡ true)
        start (Some u) f h = absurd (none-some (name, r) h)
        start None f h =
            let (u, blank, last) = split (strip (codes " ") q.1) (λ r. Some (q.0, r)) (name, r) h in
            let (own, behind) = same_found q.0 u name r last in
            let whole : is_adt_name q.0 ≡ true =
            and_from (is_name q.0 && not (is_among type_words q.0)) (not (starts_with nat_eq q.0 (codes "closure#"))) (and_from (is_name q.0) (not (is_among type_words q.0)) named (ap not e)) (ap not (no_start (codes "closure#") q.0 f)) in (
              is ∙ (λ i. own i ++ (strip_sound (codes " ") q.1 u blank ∙ ap (λ (x : List ℕ). codes " " ++ x) behind) i),
              subst (λ (x : List ℕ). is_adt_name x ≡ true) own whole,
              subst (λ (x : List ℕ). is_utf8 x ≡ true) own utf,
            )

module _ (heads : ItemTable) where
  variant_sound : (t : List ℕ) (v : VariantSeen) (r : List ℕ) → variant_read heads t ≡ Some (v, r) → t ≡ written_variant v ++ r
  variant_sound t v r h =
      let (q, called, more) = split (blank_name t) (variant_from heads) (v, r) h in
      let (types, found, own) = as_sound {Y = VariantSeen} (λ (types : List (List ℕ)). (q.0, types)) (types_read heads q.1) v r more in
      blank_sound t q.0 q.1 called ∙ ap (λ (x : List ℕ). q.0 ++ (codes " " ++ x)) (rows_sound heads q.1 types r found)
      ∙ sym (behind3 q.0 (codes " ") (in_parentheses types) r) ∙ ap (λ (v : VariantSeen). written_variant v ++ r) own

  more_sound : (k : ℕ) (t : List ℕ) → t ≡ behind_commas (map written_variant (many_within k (comma (variant_read heads)) t).0) ++ (many_within k (comma (variant_read heads)) t).1
  more_sound zero t = refl
  more_sound (suc k) t = by (comma (variant_read heads) t) refl (more_sound k)
    where
      read : List ℕ → FoundInText VariantSeen
      read = comma (variant_read heads)

      by : (o : FoundInText VariantSeen) → read t ≡ o → ((u : List ℕ) → u ≡ behind_commas (map written_variant (many_within k read u).0) ++ (many_within k read u).1)
          → t ≡ behind_commas (map written_variant (many_within (suc k) read t).0) ++ (many_within (suc k) read t).1
      by None e deeper = rw e refl
      by (Some f) e deeper =
          let (u, mark, found) = split (strip (codes ", ") t) (variant_read heads) f e in
          rw e (strip_sound (codes ", ") t u mark ∙ ap (λ (x : List ℕ). codes ", " ++ x) (variant_sound u f.0 f.1 found ∙ ap (λ (x : List ℕ). written_variant f.0 ++ x) (deeper f.1))
          ∙ sym (append_assoc (codes ", " ++ written_variant f.0) (behind_commas (map written_variant (many_within k read f.1).0)) (many_within k read f.1).1))

  braces_sound : (t : List ℕ) (vs : List VariantSeen) (r : List ℕ) → variants_read heads t ≡ Some (vs, r) → t ≡ in_braces (map written_variant vs) ++ r
  braces_sound t vs r h = by (either (strip (codes "{ }") t) (λ r. Some ([], r)) (bind (strip (codes "{ ") t) (variants_behind heads)) (vs, r) h)
    where
      by : ((u : List ℕ) × (strip (codes "{ }") t ≡ Some u) × (◌≡◌ {A = FoundInText (List VariantSeen)} (Some ([], u)) (Some (vs, r))))
          ⊎ ((strip (codes "{ }") t ≡ None) × (bind (strip (codes "{ ") t) (variants_behind heads) ≡ Some (vs, r))) → t ≡ in_braces (map written_variant vs) ++ r
      by (inl none) =
          let (own, behind) = same_found [] none.0 vs r none.2 in
          strip_sound (codes "{ }") t none.0 none.1 ∙ (λ i. in_braces (map written_variant (own i)) ++ behind i)
      by (inr some) =
          let (u, opened, more) = split (strip (codes "{ ") t) (variants_behind heads) (vs, r) some.1 in
          let (q, row, closing) = split (some_variants heads u) (closed_braces heads) (vs, r) more in
          let (f, first, rest) = split (variant_read heads u) (with_more heads) q row in
          let ms : List VariantSeen × List ℕ = many (comma (variant_read heads)) f.1 in
          let (own_row, own_rest) = same_found (f.0 ∷ ms.0) ms.1 q.0 q.1 rest in
          let (v, closed, last) = split (strip (codes " }") q.1) (λ r. Some (q.0, r)) (vs, r) closing in
          let (own, behind) = same_found q.0 v vs r last in
          let close : ms.1 ≡ codes " }" ++ r = own_rest ∙ strip_sound (codes " }") q.1 v closed ∙ ap (λ (x : List ℕ). codes " }" ++ x) behind in
          strip_sound (codes "{ ") t u opened
          ∙ ap (λ (x : List ℕ). codes "{ " ++ x) (variant_sound u f.0 f.1 first
          ∙ ap (λ (x : List ℕ). written_variant f.0 ++ x) (more_sound (length f.1) f.1 ∙ ap (λ (x : List ℕ). behind_commas (map written_variant ms.0) ++ x) close)
          ∙ sym (append_assoc (written_variant f.0) (behind_commas (map written_variant ms.0)) (codes " }" ++ r)))
          ∙ sym (append_assoc (codes "{ " ++ (written_variant f.0 ++ behind_commas (map written_variant ms.0))) (codes " }") r)
          ∙ ap (λ (vs : List VariantSeen). in_braces (map written_variant vs) ++ r) (own_row ∙ own)

  abbrev Sound : List ℕ → AdtSeen → List ℕ → Type 0
  Sound t adt r = (t ≡ written_adt adt ++ r) × (is_adt_name adt.name ≡ true) × (is_utf8 adt.name ≡ true) × IfSome adt.drop_body Fits

  -- what stands behind the name and the parts
  marked_sound : (word t name row s : List ℕ) (is_enum : Bool) (vs : List VariantSeen) (adt : AdtSeen) (r : List ℕ) → written_shape is_enum name vs ≡ word ++ name ++ codes " " ++ row
      → t ≡ word ++ (name ++ (codes " " ++ (row ++ s))) → is_adt_name name ≡ true → is_utf8 name ≡ true → marked heads is_enum name (vs, s) ≡ Some (adt, r) → Sound t adt r
  marked_sound word t name row s is_enum vs adt r shape is named utf h =
      let (marks, found, own) = as_sound {Y = AdtSeen} (λ (marks : Bool × Option ℕ). record { is_enum = is_enum; name = name; variants = vs; copy = marks.0; drop_body = marks.1 }) _ adt r h in
      let (behind, fits) = marks_sound s marks.0 marks.1 r found in
      subst (λ (adt : AdtSeen). Sound t adt r) own (
        is ∙ ap (λ (x : List ℕ). word ++ (name ++ (codes " " ++ (row ++ x)))) behind
            ∙ sym (behind7 word name (codes " ") row (copy_text marks.0) (drop_text marks.1) (10 ∷ []) r)
            ∙ ap (λ (x : List ℕ). line (x ++ copy_text marks.0 ++ drop_text marks.1) ++ r) (sym shape),
        named,
        utf,
        fits,
      )

  struct_sound : (t : List ℕ) (adt : AdtSeen) (r : List ℕ) → struct_read heads t ≡ Some (adt, r) → Sound (codes "struct " ++ t) adt r
  struct_sound t adt r h =
      let (q, called, more) = split (adt_name_read t) (struct_from heads) (adt, r) h in
      let (is, named, utf) = adt_name_sound t q.0 q.1 called in
      let (fields, row, marks) = split (types_read heads q.1) (λ fields. marked heads false q.0 ((q.0, fields.0) ∷ [], fields.1)) (adt, r) more in
      marked_sound (codes "struct ") (codes "struct " ++ t) q.0 (in_parentheses fields.0) fields.1 false ((q.0, fields.0) ∷ []) adt r refl
      (ap (λ (x : List ℕ). codes "struct " ++ x) (is ∙ ap (λ (x : List ℕ). q.0 ++ (codes " " ++ x)) (rows_sound heads q.1 fields.0 fields.1 row))) named utf marks

  enum_sound : (t : List ℕ) (adt : AdtSeen) (r : List ℕ) → enum_read heads t ≡ Some (adt, r) → Sound (codes "enum " ++ t) adt r
  enum_sound t adt r h =
      let (q, called, more) = split (adt_name_read t) (enum_from heads) (adt, r) h in
      let (is, named, utf) = adt_name_sound t q.0 q.1 called in
      let (vs, row, marks) = split (variants_read heads q.1) (marked heads true q.0) (adt, r) more in
      marked_sound (codes "enum ") (codes "enum " ++ t) q.0 (in_braces (map written_variant vs.0)) vs.1 true vs.0 adt r refl
      (ap (λ (x : List ℕ). codes "enum " ++ x) (is ∙ ap (λ (x : List ℕ). q.0 ++ (codes " " ++ x)) (braces_sound q.1 vs.0 vs.1 row))) named utf marks

pub adts_sound : AdtsAreSound
adts_sound heads t adt r h = by (either (strip (codes "struct ") t) (struct_read heads) (bind (strip (codes "enum ") t) (enum_read heads)) (adt, r) h)
  where
    by : ((u : List ℕ) × (strip (codes "struct ") t ≡ Some u) × (struct_read heads u ≡ Some (adt, r))) ⊎ ((strip (codes "struct ") t ≡ None) × (bind (strip (codes "enum ") t) (enum_read heads) ≡ Some (adt, r)))
        → (t ≡ written_adt adt ++ r) × (is_adt_name adt.name ≡ true) × (is_utf8 adt.name ≡ true) × IfSome adt.drop_body Fits
    by (inl s) = let whole = struct_sound heads s.0 adt r s.2 in (strip_sound (codes "struct ") t s.0 s.1 ∙ whole.0, whole.1, whole.2, whole.3)
    by (inr e) =
        let (u, mark, found) = split (strip (codes "enum ") t) (enum_read heads) (adt, r) e.1 in
        let whole = enum_sound heads u adt r found in
        (strip_sound (codes "enum ") t u mark ∙ whole.0, whole.1, whole.2, whole.3)
