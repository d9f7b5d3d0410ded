-- Each line of a struct or enum that may stand is found.
use Rattle.std.proofs.Common.{◌≡◌, ℕ, zero, suc, ◌≤◌, Bool, true, false, not, ◌&&◌, nat_eq, if◌then◌else◌, List, [], ◌∷◌, ◌++◌, map, length, codes, Option, Some, None, IfSome, refl, ap, sym, subst, ◌∙◌, arith, append_assoc, length-append, eqb-true}
use Rattle.std.specs.Str.{is_utf8}
use Rattle.std.specs.List.{starts_with}
use Rattle.std.proofs.lemmas.Bool.{and_parts, false≢true}
use Rattle.mir_ty.specs.ItemTable.{ItemTable}
use Rattle.cfg_graph.specs.WellFormed.NameFaults.{stands_in_names, is_among, is_name, is_adt_name, type_words}
use Rattle.listing_write.specs.Compared.{AdtSeen, VariantSeen}
use Rattle.listing_write.specs.Fields.{Fits}
use Rattle.listing_write.specs.Items.{copy_text, drop_text}
use Rattle.listing_write.specs.Lines.{Tree, tree_text, trees_in_row, variant_words}
use Rattle.listing_write.specs.Lists.{behind_commas, in_braces}
use Rattle.listing_write.specs.Reading.Lines.{ended}
use Rattle.listing_write.specs.Reading.Rows.{many_within, after, comma}
use Rattle.listing_write.specs.Reading.Words.{FoundInText, bind, chosen, as_, strip}
use Rattle.listing_write.proofs.Reading.Basics.{behind3, behind7}
use Rattle.listing_parts.specs.TypesFound.{EachStands}
use Rattle.listing_parts.proofs.Complete.{rows_read, not_true, name_all}
use Rattle.listing_parts.proofs.Depth.{is_a_name, some_name}
use Rattle.listing_parts.proofs.PlainNumbers.{plain_read}
use Rattle.listing_lines.proofs.Complete.{name_reads}
use Rattle.listing_lines.specs.ItemReading.{copy_read, drop_read, marks_from, marks_read, blank_behind, adt_named, adt_name_read, blank_name, variant_from, variant_read, with_more, closed_braces, variants_behind, variants_read, marked, struct_from, struct_read, enum_from, adt_read}
use Rattle.listing_lines.specs.ItemsFound.{VariantsStand, found_variant, StructsAreRead, EnumsAreRead}

-- the marks that end a line
copy_reads : (copy : Bool) (drop_body : Option ℕ) (r : List ℕ) → copy_read (copy_text copy ++ (drop_text drop_body ++ (10 ∷ r))) ≡ (copy, drop_text drop_body ++ (10 ∷ r))
copy_reads true drop_body r = refl
copy_reads false None r = refl
copy_reads false (Some body) r = refl

drop_reads : (drop_body : Option ℕ) → IfSome drop_body Fits → (r : List ℕ) → drop_read (drop_text drop_body ++ (10 ∷ r)) ≡ Some (drop_body, 10 ∷ r)
drop_reads None fits r = refl
drop_reads (Some body) fits r = ap (λ (f : FoundInText ℕ). as_ (λ (b : ℕ). Some b) f) (plain_read body (10 ∷ r) fits refl)

marks_reads : (copy : Bool) (drop_body : Option ℕ) → IfSome drop_body Fits → (r : List ℕ) → marks_read (copy_text copy ++ (drop_text drop_body ++ (10 ∷ r))) ≡ Some ((copy, drop_body), r)
marks_reads copy drop_body fits r =
    ap (λ (c : Bool × List ℕ). ended (marks_from c)) (copy_reads copy drop_body r)
    ∙ ap (λ (f : FoundInText (Option ℕ)). ended (as_ {Y = Bool × Option ℕ} (λ body. (copy, body)) f)) (drop_reads drop_body fits r)

-- names
no_closure : (w name : List ℕ) → starts_with nat_eq name w ≡ false → strip w name ≡ None
no_closure [] name h = absurd (false≢true (sym h))
no_closure (c ∷ w) [] h = refl
no_closure (c ∷ w) (a ∷ name) h = by (nat_eq c a) refl h (no_closure w name)
  where
    by : (v : Bool) → nat_eq c a ≡ v → (nat_eq c a && starts_with nat_eq name w) ≡ false → (starts_with nat_eq name w ≡ false → strip w name ≡ None) → strip (c ∷ w) (a ∷ name) ≡ None
    by true e h more = rw e (more (subst (λ (t : Bool). (t && starts_with nat_eq name w) ≡ false) e h))
    by false e h more = rw e refl

adt_name_reads : (name r : List ℕ) → is_adt_name name ≡ true → is_utf8 name ≡ true → adt_name_read (name ++ (codes " " ++ r)) ≡ Some (name, r)
adt_name_reads name r named utf =
    let (front, no_start) = and_parts (is_name name && not (is_among type_words name)) _ named in
    let no_word = not_true (is_among type_words name) (and_parts (is_name name) _ front).1 in
    let no_mark = no_closure (codes "closure#") name (not_true (starts_with nat_eq name (codes "closure#")) no_start) in
    ap (λ (f : FoundInText (List ℕ)). bind f adt_named) (name_reads name r (is_a_name name named) utf)
    ∙ ap (λ (t : Bool). if t then None else chosen (strip (codes "closure#") name) (λ r. None) (blank_behind (name, codes " " ++ r))) no_word
    ∙ ap (λ (o : Option (List ℕ)). chosen o (λ r. None) (blank_behind (name, codes " " ++ r))) no_mark

blank_name_reads : (name r : List ℕ) → is_name name ≡ true → is_utf8 name ≡ true → blank_name (name ++ (codes " " ++ r)) ≡ Some (name, r)
blank_name_reads name r is utf = ap (λ (f : FoundInText (List ℕ)). bind f blank_behind) (name_reads name r is utf)

-- a struct
struct_reads : (heads : ItemTable) (name : List ℕ) (fields : List Tree) (copy : Bool) (drop_body : Option ℕ) (r : List ℕ) → is_adt_name name ≡ true → is_utf8 name ≡ true → EachStands heads fields → IfSome drop_body Fits
    → struct_read heads (name ++ (codes " " ++ (trees_in_row fields ++ (copy_text copy ++ (drop_text drop_body ++ (10 ∷ r))))))
    ≡ Some (record { is_enum = false; name = name; variants = (name, map tree_text fields) ∷ []; copy = copy; drop_body = drop_body }, r)
struct_reads heads name fields copy drop_body r named utf stand fits =
    let at_marks : List ℕ = copy_text copy ++ (drop_text drop_body ++ (10 ∷ r)) in
    ap (λ (f : FoundInText (List ℕ)). bind f (struct_from heads)) (adt_name_reads name (trees_in_row fields ++ at_marks) named utf)
    ∙ ap (λ (f : FoundInText (List (List ℕ))). bind f (λ fields. marked heads false name ((name, fields.0) ∷ [], fields.1))) (rows_read heads fields stand at_marks)
    ∙ ap (as_ {Y = AdtSeen} (λ (marks : Bool × Option ℕ). record { is_enum = false; name = name; variants = (name, map tree_text fields) ∷ []; copy = marks.0; drop_body = marks.1 })) (marks_reads copy drop_body fits r)

pub structs_read : StructsAreRead
structs_read heads name fields copy drop_body r named utf stand fits =
    let row : List ℕ = trees_in_row fields in
    let rest : List ℕ = copy_text copy ++ (drop_text drop_body ++ (10 ∷ r)) in
    ap (adt_read heads) (behind7 (codes "struct ") name (codes " ") row (copy_text copy) (drop_text drop_body) (10 ∷ []) r)
    ∙ struct_reads heads name fields copy drop_body r named utf stand fits

-- variants
module _ (heads : ItemTable) where
  abbrev Fine : List ℕ × List Tree → Type 0
  Fine v = (is_name v.0 ≡ true) × (is_utf8 v.0 ≡ true) × EachStands heads v.1

  variant_reads : (v : List ℕ × List Tree) → Fine v → (r : List ℕ) → variant_read heads (variant_words v ++ r) ≡ Some (found_variant v, r)
  variant_reads v fine r =
      ap (variant_read heads) (behind3 v.0 (codes " ") (trees_in_row v.1) r)
      ∙ ap (λ (f : FoundInText (List ℕ)). bind f (variant_from heads)) (blank_name_reads v.0 (trees_in_row v.1 ++ r) fine.0 fine.1)
      ∙ ap (as_ {Y = VariantSeen} (λ (types : List (List ℕ)). (v.0, types))) (rows_read heads v.1 fine.2 r)

  more_read : (vs : List (List ℕ × List Tree)) → VariantsStand heads vs → (fuel : ℕ) (r : List ℕ) → length (behind_commas (map variant_words vs) ++ (codes " }" ++ r)) ≤ fuel
      → many_within fuel (comma (variant_read heads)) (behind_commas (map variant_words vs) ++ (codes " }" ++ r)) ≡ (map found_variant vs, codes " }" ++ r)
  more_read [] fine zero r le = refl
  more_read [] fine (suc fuel) r le = refl
  more_read (v ∷ vs) fine zero r le = absurd (omega arith)
  more_read (v ∷ vs) fine (suc fuel) r le =
      let w : List ℕ = variant_words v in
      let more : List ℕ = behind_commas (map variant_words vs) in
      let rest : List ℕ = more ++ (codes " }" ++ r) in
      let split : ((codes ", " ++ w) ++ more) ++ (codes " }" ++ r) ≡ codes ", " ++ (w ++ rest) = append_assoc (codes ", " ++ w) more (codes " }" ++ r) in
      ap (many_within (suc fuel) (comma (variant_read heads))) split
      ∙ ap (λ (f : FoundInText VariantSeen). after f (many_within fuel (comma (variant_read heads))) (codes ", " ++ (w ++ rest))) (variant_reads v fine.0 rest)
      ∙ ap (λ (q : List VariantSeen × List ℕ). (found_variant v ∷ q.0, q.1)) (more_read vs fine.1 fuel r (omega (arith, le, ap length split, length-append w rest)))

  braces_read : (vs : List (List ℕ × List Tree)) → VariantsStand heads vs → (r : List ℕ) → variants_read heads (in_braces (map variant_words vs) ++ r) ≡ Some (map found_variant vs, r)
  braces_read [] fine r = refl
  braces_read (v ∷ vs) fine r =
      let w : List ℕ = variant_words v in
      let more : List ℕ = behind_commas (map variant_words vs) in
      let rest : List ℕ = more ++ (codes " }" ++ r) in
      let split : (codes "{ " ++ (w ++ more) ++ codes " }") ++ r ≡ codes "{ " ++ (w ++ rest) =
      append_assoc (codes "{ " ++ (w ++ more)) (codes " }") r ∙ ap (λ (x : List ℕ). codes "{ " ++ x) (append_assoc w more (codes " }" ++ r)) in
      ap (variants_read heads) split
      ∙ ap (λ (o : Option (List ℕ)). chosen o (λ r. Some ([], r)) (variants_behind heads (w ++ rest))) (no_brace v.0 v.1 fine.0.0 rest)
      ∙ ap (λ (f : FoundInText VariantSeen). bind (bind f (with_more heads)) closed_braces_) (variant_reads v fine.0 rest)
      ∙ ap (λ (q : List VariantSeen × List ℕ). closed_braces_ (found_variant v ∷ q.0, q.1)) (more_read vs fine.1 (length rest) r (omega arith))
    where
      closed_braces_ : List VariantSeen × List ℕ → FoundInText (List VariantSeen)
      closed_braces_ = closed_braces heads

      no_brace : (name : List ℕ) (types : List Tree) → is_name name ≡ true → (t : List ℕ) → strip (codes "{ }") (codes "{ " ++ (variant_words (name, types) ++ t)) ≡ None
      no_brace [] types is t = absurd (let some = some_name [] is in omega arith)
      no_brace (b ∷ bs) types is t = by (nat_eq 125 b) refl
        where
          by : (v : Bool) → nat_eq 125 b ≡ v → strip (codes "}") (b ∷ (bs ++ codes " " ++ trees_in_row types ++ t)) ≡ None
          by true e = absurd (false≢true (subst (λ (c : ℕ). stands_in_names c ≡ true) (sym (eqb-true 125 b e)) (and_parts (stands_in_names b) _ (name_all (b ∷ bs) is)).0))
          by false e = rw e refl

pub enums_read : EnumsAreRead
enums_read heads name variants copy drop_body r named utf stand fits =
    let row : List ℕ = in_braces (map variant_words variants) in
    let at_marks : List ℕ = copy_text copy ++ (drop_text drop_body ++ (10 ∷ r)) in
    ap (adt_read heads) (behind7 (codes "enum ") name (codes " ") row (copy_text copy) (drop_text drop_body) (10 ∷ []) r)
    ∙ ap (λ (f : FoundInText (List ℕ)). bind f (enum_from heads)) (adt_name_reads name (row ++ at_marks) named utf)
    ∙ ap (λ (f : FoundInText (List VariantSeen)). bind f (marked heads true name)) (braces_read heads variants stand at_marks)
    ∙ ap (as_ {Y = AdtSeen} (λ (marks : Bool × Option ℕ). record { is_enum = true; name = name; variants = map found_variant variants; copy = marks.0; drop_body = marks.1 })) (marks_reads copy drop_body fits r)
