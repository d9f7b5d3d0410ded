-- What is found of a line has names that can stand in it, and numbers that fit.
use Rattle.std.proofs.Common.{◌≡◌, ℕ, ◌<◌, Bool, true, false, if◌then◌else◌, nat_eq, List, [], ◌∷◌, All, length, codes, Some, None, slice_get, refl, subst, eqb-true}
use Rattle.std.specs.Str.{is_utf8}
use Rattle.std.proofs.lemmas.Bool.{false≢true}
use Rattle.std.proofs.lemmas.List.Elements.{All-cons, All-nil}
use Rattle.std.proofs.lemmas.Option.{none-some, slice_get_within}
use Rattle.cfg_graph.specs.WellFormed.NameFaults.{is_name, same_name, stands_in_names}
use Rattle.cfg_graph.specs.declared.graph.Kind.{Kind}
use Rattle.mir_ty.specs.declared.def.ImplDef.{ImplDef}
use Rattle.mir_ty.specs.ItemTable.{ItemTable}
use Rattle.listing_write.specs.Compared.{AdtSeen, VariantSeen, SigSeen}
use Rattle.listing_write.specs.Fields.{Fits}
use Rattle.listing_write.specs.Reading.Lines.{ended}
use Rattle.listing_write.specs.Reading.Rows.{many, comma}
use Rattle.listing_write.specs.Reading.Words.{FoundInText, bind, as_, strip, span}
use Rattle.listing_lines.proofs.Fitting.{Gives, binds, chooses, somes, ases, manies, commas}
use Rattle.listing_lines.specs.ItemReading.{blank_name, blank_behind, variant_from, variant_read, with_more, some_variants, closed_braces, variants_behind, variants_read, marked, struct_from, struct_read, enum_from, enum_read, adt_name_read, marks_read, adt_read}
use Rattle.listing_lines.specs.LineReading as lines
use Rattle.listing_lines.specs.LineReading.{due_number, name_read, params_from, local_head, kind_read, rank_from, closure_head, last_number, captures_from, blank_number, known_adt_read, known_trait_read, for_adt, impl_head}
use Rattle.listing_lines.proofs.Sound.{name_sound}
use Rattle.listing_parts.specs.Numbers.{adt_no, trait_no}
use Rattle.listing_lines.specs.TraitReading as traits
use Rattle.listing_lines.specs.TraitReading.{self_text, self_read, params_read, method_from, method_read, some_methods, methods_behind, methods_read, trait_from, own_head, own_head_from, trait_read, result_from}
use Rattle.listing_parts.specs.TypeReading.{plain_number, type_read, types_read, more_types}
use Rattle.listing_parts.proofs.PlainNumbers.{plain_sound}
use Rattle.listing_parts.proofs.Splits.{split}

-- a name in UTF-8
abbrev pub IsNamed : List ℕ → Type 0
IsNamed name = (is_name name ≡ true) × (is_utf8 name ≡ true)

gives_named : (t : List ℕ) → Gives IsNamed (name_read t)
gives_named t name r e = let all = name_sound t name r e in (all.1, all.2)

gives_blank : (t : List ℕ) → Gives IsNamed (blank_name t)
gives_blank t =
    binds IsNamed (name_read t) blank_behind (λ q e. binds IsNamed (strip (codes " ") q.1) (λ r. Some (q.0, r)) (λ r f. somes IsNamed q.0 r (gives_named t q.0 q.1 e)))

ifs : {X : Type 0} (P : X → Type 0) (v : Bool) (a b : FoundInText X) → Gives P a → Gives P b → Gives P (if v then a else b)
ifs P true a b h k = h
ifs P false a b h k = k

nones : {X : Type 0} (P : X → Type 0) → Gives P None
nones P x r e = absurd (none-some (x, r) e)

endeds : {X : Type 0} (P : X → Type 0) (f : FoundInText X) → Gives P f → Gives P (ended f)
endeds P f h = binds P f (λ f. bind (strip (10 ∷ []) f.1) (λ r. Some (f.0, r))) (λ q e. binds P (strip (10 ∷ []) q.1) (λ r. Some (q.0, r)) (λ r g. somes P q.0 r (h q.0 q.1 e)))

-- variants
module _ (heads : ItemTable) where
  abbrev VariantNamed : VariantSeen → Type 0
  VariantNamed variant = IsNamed variant.0

  gives_variant : (t : List ℕ) → Gives VariantNamed (variant_read heads t)
  gives_variant t =
      binds VariantNamed (blank_name t) (variant_from heads) (λ name e. ases VariantNamed (λ types. (name.0, types)) (types_read heads name.1) (λ types r f. gives_blank t name.0 name.1 e))

  gives_some : (t : List ℕ) → Gives (All VariantNamed) (some_variants heads t)
  gives_some t =
      binds (All VariantNamed) (variant_read heads t) (with_more heads) (λ first e. somes (All VariantNamed) (first.0 ∷ (many (comma (variant_read heads)) first.1).0) (many (comma (variant_read heads)) first.1).1
      (All-cons VariantNamed first.0 (many (comma (variant_read heads)) first.1).0 (gives_variant t first.0 first.1 e)
      (manies VariantNamed (comma (variant_read heads)) (commas VariantNamed (variant_read heads) gives_variant) (length first.1) first.1)))

  gives_behind : (t : List ℕ) → Gives (All VariantNamed) (variants_behind heads t)
  gives_behind t =
      binds (All VariantNamed) (some_variants heads t) (closed_braces heads)
      (λ q e. binds (All VariantNamed) (strip (codes " }") q.1) (λ r. Some (q.0, r)) (λ r f. somes (All VariantNamed) q.0 r (gives_some t q.0 q.1 e)))

  gives_variants : (t : List ℕ) → Gives (All VariantNamed) (variants_read heads t)
  gives_variants t =
      chooses (All VariantNamed) (strip (codes "{ }") t) (λ r. Some ([], r)) (bind (strip (codes "{ ") t) (variants_behind heads))
      (λ r e. somes (All VariantNamed) [] r (All-nil VariantNamed))
      (binds (All VariantNamed) (strip (codes "{ ") t) (variants_behind heads) (λ u e. gives_behind u))

  -- an enum has variants of such names
  abbrev pub EnumNamed : AdtSeen → Type 0
  EnumNamed adt = adt.is_enum ≡ true → All VariantNamed adt.variants

  gives_marked : (is_enum : Bool) (name : List ℕ) (variants : List VariantSeen × List ℕ) → (is_enum ≡ true → All VariantNamed variants.0) → Gives EnumNamed (marked heads is_enum name variants)
  gives_marked is_enum name variants h =
      ases EnumNamed (λ marks. record { is_enum = is_enum; name = name; variants = variants.0; copy = marks.0; drop_body = marks.1 }) (marks_read variants.1) (λ marks r f. h)

  gives_struct : (t : List ℕ) → Gives EnumNamed (struct_read heads t)
  gives_struct t =
      binds EnumNamed (adt_name_read t) (struct_from heads) (λ name e. binds EnumNamed (types_read heads name.1) (λ fields. marked heads false name.0 ((name.0, fields.0) ∷ [], fields.1))
      (λ fields f. gives_marked false name.0 ((name.0, fields.0) ∷ [], fields.1) (λ g. absurd (false≢true g))))

  gives_enum : (t : List ℕ) → Gives EnumNamed (enum_read heads t)
  gives_enum t =
      binds EnumNamed (adt_name_read t) (enum_from heads) (λ name e. binds EnumNamed (variants_read heads name.1) (marked heads true name.0) (λ variants f. gives_marked true name.0 variants (λ g. gives_variants name.1 variants.0 variants.1 f)))

  pub gives_adt : (t : List ℕ) → Gives EnumNamed (adt_read heads t)
  gives_adt t =
      chooses EnumNamed (strip (codes "struct ") t) (struct_read heads) (bind (strip (codes "enum ") t) (enum_read heads)) (λ u e. gives_struct u)
      (binds EnumNamed (strip (codes "enum ") t) (enum_read heads) (λ u e. gives_enum u))

-- methods
abbrev pub BeginsWithSelf : List ℕ → List (List ℕ) → Type 0
BeginsWithSelf name words = (unique : Bool) × (rest : List (List ℕ)) × (words ≡ self_text unique name ∷ rest)

abbrev pub MethodNamed : List ℕ → SigSeen → Type 0
MethodNamed name method = IsNamed method.0 × BeginsWithSelf name method.1

module _ (heads : ItemTable) (name : List ℕ) where
  gives_params : (t : List ℕ) → Gives (BeginsWithSelf name) (params_read heads name t)
  gives_params t =
      binds (BeginsWithSelf name) (strip (codes "(") t) (λ t. bind (self_read name t) (traits.params_from heads name)) (λ u e. binds (BeginsWithSelf name) (self_read name u) (traits.params_from heads name)
      (λ mark f. binds (BeginsWithSelf name) (strip (codes ")") (more_types heads mark.1).1) (λ r. Some (self_text mark.0 name ∷ (more_types heads mark.1).0, r))
      (λ r g. somes (BeginsWithSelf name) (self_text mark.0 name ∷ (more_types heads mark.1).0) r (mark.0, (more_types heads mark.1).0, refl))))

  gives_method : (t : List ℕ) → Gives (MethodNamed name) (method_read heads name t)
  gives_method t =
      binds (MethodNamed name) (blank_name t) (method_from heads name) (λ q e. binds (MethodNamed name) (params_read heads name q.1) (result_from heads q.0)
      (λ ps f. binds (MethodNamed name) (strip (codes " ") ps.1) (λ t. as_ {Y = SigSeen} (λ result. (q.0, ps.0, result)) (type_read heads t))
      (λ u g. ases (MethodNamed name) (λ result. (q.0, ps.0, result)) (type_read heads u) (λ result r k. (gives_blank t q.0 q.1 e, gives_params q.1 ps.0 ps.1 f)))))

  gives_some_methods : (t : List ℕ) → Gives (All (MethodNamed name)) (some_methods heads name t)
  gives_some_methods t =
      binds (All (MethodNamed name)) (method_read heads name t) (traits.with_more heads name) (λ first e. somes (All (MethodNamed name)) (first.0 ∷ (many (comma (method_read heads name)) first.1).0) (many (comma (method_read heads name)) first.1).1
      (All-cons (MethodNamed name) first.0 (many (comma (method_read heads name)) first.1).0 (gives_method t first.0 first.1 e)
      (manies (MethodNamed name) (comma (method_read heads name)) (commas (MethodNamed name) (method_read heads name) gives_method) (length first.1) first.1)))

  gives_methods_behind : (t : List ℕ) → Gives (All (MethodNamed name)) (methods_behind heads name t)
  gives_methods_behind t =
      binds (All (MethodNamed name)) (some_methods heads name t) (traits.closed_braces heads name)
      (λ q e. binds (All (MethodNamed name)) (strip (codes " }") q.1) (λ r. Some (q.0, r)) (λ r f. somes (All (MethodNamed name)) q.0 r (gives_some_methods t q.0 q.1 e)))

  gives_methods : (t : List ℕ) → Gives (All (MethodNamed name)) (methods_read heads name t)
  gives_methods t =
      chooses (All (MethodNamed name)) (strip (codes "{ }") t) (λ r. Some ([], r)) (bind (strip (codes "{ ") t) (methods_behind heads name))
      (λ r e. somes (All (MethodNamed name)) [] r (All-nil (MethodNamed name)))
      (binds (All (MethodNamed name)) (strip (codes "{ ") t) (methods_behind heads name) (λ u e. gives_methods_behind u))

abbrev pub TraitNamed : List ℕ × List SigSeen → Type 0
TraitNamed def = IsNamed def.0 × All (MethodNamed def.0) def.1

pub gives_trait : (heads : ItemTable) (n : ℕ) (t : List ℕ) → Gives TraitNamed (trait_read heads n t)
gives_trait heads n t =
    binds TraitNamed (own_head heads n t) (λ name. trait_from heads name.0 name.1)
    (λ name e. ases TraitNamed (λ methods. (name.0, methods)) (ended (methods_read heads name.0 name.1))
    (λ methods r f. (gives_own name.0 name.1 e, endeds (All (MethodNamed name.0)) (methods_read heads name.0 name.1) (gives_methods heads name.0 name.1) methods r f)))
  where
    gives_own : Gives IsNamed (own_head heads n t)
    gives_own =
        binds IsNamed (strip (codes "trait ") t) (λ t. bind (blank_name t) (own_head_from heads n)) (λ u e. binds IsNamed (blank_name u) (own_head_from heads n)
        (λ q f. binds IsNamed (slice_get heads.traits n) (λ def. if same_name q.0 def.name then Some q else None)
        (λ def g. ifs IsNamed (same_name q.0 def.name) (Some q) None (somes IsNamed q.0 q.1 (gives_blank u q.0 q.1 f)) (nones IsNamed))))

-- numbers
due_fits : (n : ℕ) (t r : List ℕ) → due_number n t ≡ Some r → Fits n
due_fits n t r h =
    let (k, found, same) = split (plain_number t) (λ k. if nat_eq k.0 n then Some k.1 else None) r h in
    by k.0 k.1 found same
  where
    by : (m : ℕ) (s : List ℕ) → plain_number t ≡ Some (m, s) → (if nat_eq m n then Some s else None) ≡ Some r → Fits n
    by m s found same = at (nat_eq m n) refl same
      where
        at : (v : Bool) → nat_eq m n ≡ v → (if v then Some s else None) ≡ Some r → Fits n
        at true e h = subst Fits (eqb-true m n e) (plain_sound t m s found).1
        at false e h = absurd (none-some r h)

gives_plain : (t : List ℕ) → Gives Fits (plain_number t)
gives_plain t n r e = (plain_sound t n r e).1

pub body_fits : (n : ℕ) (t name : List ℕ) (params : ℕ) (r : List ℕ) → lines.body_read n t ≡ Some ((name, params), r) → Fits n × Fits params
body_fits n t name params r h =
    let (t1, word, more1) = split (strip (codes "body ") t) _ ((name, params), r) h in
    let (t2, number, more2) = split (due_number n t1) _ ((name, params), r) more1 in (
      due_fits n t1 t2 number,
      binds (λ (q : List ℕ × ℕ). Fits q.1) (strip (codes " ") t2) (λ t. bind (name_read t) (λ name. ended (params_from name)))
          (λ t3 e. binds (λ (q : List ℕ × ℕ). Fits q.1) (name_read t3) (λ name. ended (params_from name)) (λ name f. endeds (λ (q : List ℕ × ℕ). Fits q.1) (params_from name)
          (binds (λ (q : List ℕ × ℕ). Fits q.1) (strip (codes " ") name.1) (λ t. as_ (λ params. (name.0, params)) (plain_number t)) (λ t4 g. ases (λ (q : List ℕ × ℕ). Fits q.1) (λ params. (name.0, params)) (plain_number t4) (gives_plain t4)))))
          (name, params) r more2,
    )

pub local_fits : (heads : ItemTable) (n : ℕ) (t word r : List ℕ) → lines.local_read heads n t ≡ Some (word, r) → Fits n
local_fits heads n t word r h =
    let (t3, head, more) = split (local_head n t) (λ t. ended (type_read heads t)) (word, r) h in
    let (t1, mark, more1) = split (strip (codes "local ") t) _ t3 head in
    let (t2, number, blank) = split (due_number n t1) (strip (codes " ")) t3 more1 in
    due_fits n t1 t2 number

pub block_fits : (n : ℕ) (t : List ℕ) (kind : Kind) (rank : ℕ) (r : List ℕ) → lines.block_read n t ≡ Some ((kind, rank), r) → Fits n × Fits rank
block_fits n t kind rank r h =
    let (t1, word, more1) = split (strip (codes "block ") t) _ ((kind, rank), r) h in
    let (t2, number, more2) = split (due_number n t1) _ ((kind, rank), r) more1 in (
      due_fits n t1 t2 number,
      binds (λ (q : Kind × ℕ). Fits q.1) (strip (codes " ") t2) (λ t. bind (kind_read t) (λ kind. ended (rank_from kind)))
          (λ t3 e. binds (λ (q : Kind × ℕ). Fits q.1) (kind_read t3) (λ kind. ended (rank_from kind)) (λ kind f. endeds (λ (q : Kind × ℕ). Fits q.1) (rank_from kind)
          (binds (λ (q : Kind × ℕ). Fits q.1) (strip (codes " rank ") kind.1) (λ t. as_ (λ rank. (kind.0, rank)) (plain_number t)) (λ t4 g. ases (λ (q : Kind × ℕ). Fits q.1) (λ rank. (kind.0, rank)) (plain_number t4) (gives_plain t4)))))
          (kind, rank) r more2,
    )

pub closure_fits : (heads : ItemTable) (n : ℕ) (t : List ℕ) (captures : List (List ℕ)) (body : ℕ) (r : List ℕ) → lines.closure_read heads n t ≡ Some ((captures, body), r) → Fits n × Fits body
closure_fits heads n t captures body r h =
    let (t3, head, more) = split (closure_head n t) (λ t. bind (types_read heads t) captures_from) ((captures, body), r) h in
    let (t1, word, more1) = split (strip (codes "closure ") t) _ t3 head in
    let (t2, number, blank) = split (due_number n t1) (strip (codes " ")) t3 more1 in (
      due_fits n t1 t2 number,
      binds (λ (q : List (List ℕ) × ℕ). Fits q.1) (types_read heads t3) captures_from (λ q e. ases (λ (q : List (List ℕ) × ℕ). Fits q.1) (λ body. (q.0, body)) (last_number q.1)
          (binds Fits (strip (codes " ") q.1) (λ t. ended (plain_number t)) (λ t4 f. endeds Fits (plain_number t4) (gives_plain t4))))
          (captures, body) r more,
    )

-- an impl names a trait and a type that are there
pub record ImplValid (heads : ItemTable) (def : ImplDef) : Type 0 where
  pub trait : def.trait_no < length heads.traits
  pub adt : def.adt < length heads.adts
  pub bodies : All Fits def.bodies

module _ (heads : ItemTable) where
  gives_adt_no : (t : List ℕ) → Gives (λ n. n < length heads.adts) (known_adt_read heads t)
  gives_adt_no t =
      let q : List ℕ × List ℕ = span stands_in_names t in
      binds (λ n. n < length heads.adts) (slice_get heads.adts (adt_no heads q.0)) (λ adt. Some (adt_no heads q.0, q.1)) (λ adt e. somes (λ n. n < length heads.adts) (adt_no heads q.0) q.1 (slice_get_within heads.adts (adt_no heads q.0) adt e))

  gives_trait_no : (t : List ℕ) → Gives (λ n. n < length heads.traits) (known_trait_read heads t)
  gives_trait_no t =
      let q : List ℕ × List ℕ = span stands_in_names t in
      binds (λ n. n < length heads.traits) (slice_get heads.traits (trait_no heads q.0)) (λ def. Some (trait_no heads q.0, q.1))
      (λ def e. somes (λ n. n < length heads.traits) (trait_no heads q.0) q.1 (slice_get_within heads.traits (trait_no heads q.0) def e))

  gives_number : (t : List ℕ) → Gives Fits (blank_number t)
  gives_number t = binds Fits (strip (codes " ") t) plain_number (λ u e. gives_plain u)

  abbrev Both : ℕ × ℕ → Type 0
  Both q = (q.0 < length heads.traits) × (q.1 < length heads.adts)

  gives_head : (t : List ℕ) → Gives Both (impl_head heads t)
  gives_head t =
      binds Both (strip (codes "impl ") t) (λ t. bind (known_trait_read heads t) (for_adt heads)) (λ u e. binds Both (known_trait_read heads u) (for_adt heads)
      (λ a f. binds Both (strip (codes " for ") a.1) (λ t. as_ (λ adt. (a.0, adt)) (known_adt_read heads t)) (λ v g. ases Both (λ adt. (a.0, adt)) (known_adt_read heads v) (λ n r k. (gives_trait_no u a.0 a.1 f, gives_adt_no v n r k)))))

  pub gives_impl : (t : List ℕ) → Gives (ImplValid heads) (lines.impl_read heads t)
  gives_impl t =
      binds (ImplValid heads) (impl_head heads t) (λ q. lines.bodies_read q.0.0 q.0.1 q.1)
      (λ q e. endeds (ImplValid heads) (Some (record { trait_no = q.0.0; adt = q.0.1; bodies = (many blank_number q.1).0 }, (many blank_number q.1).1))
      (somes (ImplValid heads) (record { trait_no = q.0.0; adt = q.0.1; bodies = (many blank_number q.1).0 }) (many blank_number q.1).1
      (record { trait = (gives_head t q.0 q.1 e).0; adt = (gives_head t q.0 q.1 e).1; bodies = manies Fits blank_number gives_number (length q.1) q.1 })))
