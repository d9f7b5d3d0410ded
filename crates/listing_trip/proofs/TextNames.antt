-- The names that a listing in UTF-8 has are in UTF-8.
use Rattle.std.proofs.Common.{◌≡◌, ℕ, zero, suc, ◌+◌, ◌<◌, Bool, true, false, List, [], ◌∷◌, ◌++◌, map, flat_map, length, codes, decimal, Option, Some, None, All, IsFalse, refl, sym, subst, arith, append-nil, append_assoc}
use Rattle.std.specs.Str.{IsUtf8, is_utf8}
use Rattle.std.proofs.lemmas.Option.{slice_get_within}
use Rattle.std.proofs.lemmas.Str.{is_utf8-from_IsUtf8}
use Rattle.mir_ty.specs.declared.adt.Adt.{Adt}
use Rattle.mir_ty.specs.declared.adt.Variant.{Variant}
use Rattle.mir_ty.specs.declared.def.Sig.{Sig}
use Rattle.mir_ty.specs.declared.def.TraitDef.{TraitDef}
use Rattle.mir_ty.specs.AreItems.{AreItems, HasOneVariant, IsAdt}
use Rattle.mir_ty.specs.ItemTable.{ItemTable}
use Rattle.mir_ty.specs.Named.{body_name, sig_name}
use Rattle.cfg_graph.specs.declared.graph.Body.{Body}
use Rattle.cfg_graph.specs.declared.graph.Graph.{Graph}
use Rattle.listing_write.specs.Compared.{numbered}
use Rattle.listing_write.specs.Items.{copy_text, drop_text}
use Rattle.listing_write.specs.Lines.{Line, BodyLine, EndLine, adt_in_line, line_of_adt, line_of_local, line_of_trait, line_text, lines_each, lines_of, lines_of_block, lines_of_body, method_of, method_words, tree_of, tree_text, trees, variant_of, variant_words}
use Rattle.listing_write.specs.Listing.{listing}
use Rattle.listing_write.specs.Lists.{in_braces, in_parentheses, line}
use Rattle.listing_write.proofs.InLines.{listing-lines}
use Rattle.listing_write.proofs.Reading.Basics.{Every}
use Rattle.mir_text.specs.Laws.{AreInUtf8}
use Rattle.mir_text.proofs.Longest.{adt_lines, body_lines_of, closure_lines, impl_lines, lines_are, trait_lines}
use Rattle.mir_text.proofs.Sections.{every_append}
use Rattle.mir_text.proofs.Told.{all_from_every}
use Rattle.mir_text.proofs.Whole.{are_between, lines_between}
use Rattle.listing_trip.proofs.Fitted.{all_by}
use Rattle.listing_trip.proofs.Utf8.{at_blank, before, before_blank, before_braces, before_row, behind}

abbrev InText : List ℕ → Type 0
InText name = is_utf8 name ≡ true

abbrev LineInText : Line → Type 0
LineInText one = IsUtf8 (line_text one)

-- each line of a text
each_line : (ls : List Line) → IsUtf8 (flat_map (λ one. line (line_text one)) ls) → Every LineInText ls
each_line [] h = tt
each_line (l ∷ ls) h =
    let rest : List ℕ = flat_map (λ one. line (line_text one)) ls in
    let whole = subst IsUtf8 (append_assoc (line_text l) (10 ∷ []) rest) h in
    (before (line_text l) rest 10 (omega arith) whole, each_line ls (behind (line_text l) rest 10 (omega arith) whole))

-- what stands before the words behind a struct or enum
before_drop : (w : List ℕ) (body : Option ℕ) → IsUtf8 (w ++ drop_text body) → IsUtf8 w
before_drop w None h = subst IsUtf8 (append-nil w) h
before_drop w (Some body) h = before w (codes "drop " ++ decimal body) 32 (omega arith) h

before_copy : (w : List ℕ) (copy : Bool) → IsUtf8 (w ++ copy_text copy) → IsUtf8 w
before_copy w false h = subst IsUtf8 (append-nil w) h
before_copy w true h = before w (codes "copy") 32 (omega arith) h

module _ (items : ItemTable) where
  -- variants and methods
  variant_names : (variants : List Variant) → Every IsUtf8 (map variant_words (map (variant_of items) variants)) →
      Every (λ variant. InText variant.name) variants
  variant_names [] h = tt
  variant_names (v ∷ vs) h = (
    is_utf8-from_IsUtf8 v.name (before_blank v.name (before_row (v.name ++ codes " ")
        (map tree_text (trees items v.fields)) h.0)),
    variant_names vs h.1,
  )

  method_names : (methods : List Sig) → Every IsUtf8 (map method_words (map (method_of items) methods)) →
      Every (λ sig. InText sig.name) methods
  method_names [] h = tt
  method_names (m ∷ ms) h =
      let row : List ℕ = in_parentheses (map tree_text (trees items m.params)) in
      let front = (at_blank ((m.name ++ codes " ") ++ row) (tree_text (tree_of items m.result)) h.0).0 in (
        is_utf8-from_IsUtf8 m.name (before_blank m.name (before_row (m.name ++ codes " ")
            (map tree_text (trees items m.params)) front)),
        method_names ms h.1,
      )

  -- a struct or enum
  abbrev AdtNames : Adt → Type 0
  AdtNames adt = InText adt.name × Every (λ variant. InText variant.name) adt.variants

  enum_names : (adt : Adt) → IsUtf8 (line_text (adt_in_line items true adt)) → AdtNames adt
  enum_names adt h =
      let head : List ℕ = (codes "enum " ++ adt.name) ++ codes " " in
      let words : List (List ℕ) = map variant_words (map (variant_of items) adt.variants) in
      let shape = before_copy (head ++ in_braces words) adt.copy
      (before_drop ((head ++ in_braces words) ++ copy_text adt.copy) adt.drop_body h) in
      let (front, inside) = before_braces head words shape in
      let named = before_blank (codes "enum " ++ adt.name) front in (
        is_utf8-from_IsUtf8 adt.name (behind (codes "enum") adt.name 32 (omega arith) named),
        variant_names
            adt.variants inside,
      )

  struct_names : (adt : Adt) → HasOneVariant adt → IsUtf8 (line_text (adt_in_line items false adt)) → AdtNames adt
  struct_names adt (variant, one, same) h =
      let head : List ℕ = (codes "struct " ++ adt.name) ++ codes " " in
      let fields : List (List ℕ) = map tree_text _ in
      let shape = before_copy (head ++ in_parentheses fields) adt.copy
      (before_drop ((head ++ in_parentheses fields) ++ copy_text adt.copy) adt.drop_body h) in
      let named = before_blank (codes "struct " ++ adt.name) (before_row head fields shape) in
      let own = is_utf8-from_IsUtf8 adt.name (behind (codes "struct") adt.name 32 (omega arith) named) in
      (own, subst (λ vs. Every (λ v. InText v.name) vs) (sym one) (subst InText (sym same) own, tt))

  adt_names : (adt : Adt) (enum : Bool) → adt.is_enum ≡ enum → IsAdt items.types adt → IsUtf8
      (line_text (adt_in_line items enum adt)) → AdtNames adt
  adt_names adt true e is h = enum_names adt h
  adt_names adt false e is h = struct_names adt (is.of_struct (subst IsFalse (sym e) refl)) h

  trait_names : (def : TraitDef) → IsUtf8 (line_text (line_of_trait items def)) → InText def.name × Every
      (λ sig. InText sig.name) def.methods
  trait_names def h =
      let head : List ℕ = (codes "trait " ++ def.name) ++ codes " " in
      let (front, inside) = before_braces head (map method_words (map (method_of items) def.methods)) h in (
        is_utf8-from_IsUtf8 def.name (behind (codes "trait") def.name 32 (omega arith)
            (before_blank (codes "trait " ++ def.name) front)),
        method_names def.methods inside,
      )

  -- a body
  body_named : (n params : ℕ) (name : List ℕ) → IsUtf8 (line_text (BodyLine n name params)) → InText name
  body_named n params name h =
      let front = (at_blank (((codes "body " ++ decimal n) ++ codes " ") ++ name) (decimal params) h).0 in
      is_utf8-from_IsUtf8 name (at_blank (codes "body " ++ decimal n) name front).1

  bodies_named : (k : ℕ) (bodies : List Body) → Every LineInText (lines_each (lines_of_body items) k bodies) →
      (n : ℕ) → n < length bodies → InText (body_name items (k + n))
  bodies_named k [] h n less = absurd (omega (arith, less))
  bodies_named k (body ∷ bodies) h zero less =
      let e : k ≡ k + 0 = omega arith in
      subst (λ m. InText (body_name items m)) e (body_named k body.params (body_name items k) h.0)
  bodies_named k (body ∷ bodies) h (suc n) less =
      let e : suc k + n ≡ k + suc n = omega arith in
      let rest = every_append LineInText (numbered (line_of_local items) 0 body.locals ++ lines_each
      (lines_of_block items) 0 body.blocks) (lines_each (lines_of_body items) (suc k) bodies) h.1 in
      subst (λ m. InText (body_name items m)) e (bodies_named (suc k) bodies rest.1 n (omega (arith, less)))

  adts_named : (adts : List Adt) → Every (IsAdt items.types) adts → Every LineInText (map (line_of_adt items) adts) →
      Every AdtNames adts
  adts_named [] are h = tt
  adts_named (adt ∷ adts) are h = (adt_names adt adt.is_enum refl are.0 h.0, adts_named adts are.1 h.1)

  traits_named : (traits : List TraitDef) → Every LineInText (map (line_of_trait items) traits) →
      Every (λ def. InText def.name × Every (λ sig. InText sig.name) def.methods) traits
  traits_named [] h = tt
  traits_named (def ∷ traits) h = (trait_names def h.0, traits_named traits h.1)

every_first : {X : Type 0} (P : X → Type 0) (Q : X → Type 0) (xs : List X) → ((x : X) → P x → Q x) → Every P xs → All
    Q xs
every_first P Q xs f h = all_from_every Q xs (on xs h)
  where
    on : (ys : List _) → Every P ys → Every Q ys
    on [] h = tt
    on (y ∷ ys) h = (f y h.0, on ys h.1)

every_all : {X : Type 0} (P : X → Type 0) (xs : List X) → All P xs → Every P xs
every_all P [] h = tt
every_all P (x ∷ xs) h = (h 0 x (omega arith), every_all P xs (λ k d less. h (suc k) d (omega (arith, less))))

pub names_in_text : (graph : Graph) → AreItems graph.items → length graph.items.bodies ≡ length graph.bodies →
    IsUtf8 (listing graph) → AreInUtf8 graph.items
names_in_text graph are same h =
    let items : ItemTable = graph.items in
    let lines = each_line (lines_of graph) (subst IsUtf8 (listing-lines graph) h) in
    let between = (subst (Every LineInText) (lines_are graph) lines).1 in
    let inner = (every_append LineInText (lines_between graph) (EndLine ∷ [])
    (subst (Every LineInText) (are_between graph) between)).0 in
    let a = every_append LineInText (adt_lines graph) (trait_lines graph ++
    (impl_lines graph ++ (closure_lines graph ++ body_lines_of graph))) inner in
    let b = every_append LineInText (trait_lines graph) (impl_lines graph ++
    (closure_lines graph ++ body_lines_of graph)) a.1 in
    let c = every_append LineInText (impl_lines graph) (closure_lines graph ++ body_lines_of graph) b.1 in
    let d = every_append LineInText (closure_lines graph) (body_lines_of graph) c.1 in
    let adts = adts_named items items.adts (every_all (IsAdt items.types) items.adts are.adts) a.0 in
    let traits = traits_named items items.traits b.0 in
    record {
      adts = every_first (AdtNames items) (λ adt. InText adt.name) items.adts (λ adt h. h.0) adts;
      variants = every_first (AdtNames items) (λ adt. All (λ variant. InText variant.name) adt.variants) items.adts
          (λ adt h. all_from_every (λ (variant : Variant). InText variant.name) adt.variants h.1) adts;
      traits = every_first (λ def. InText def.name × Every (λ sig. InText sig.name) def.methods)
          (λ def. InText def.name) items.traits (λ def h. h.0) traits;
      methods = every_first (λ def. InText def.name × Every (λ sig. InText sig.name) def.methods)
          (λ def. All (λ sig. InText sig.name) def.methods) items.traits
          (λ def h. all_from_every (λ (sig : Sig). InText sig.name) def.methods h.1) traits;
      bodies = all_by (λ (sig : Sig). InText sig.name) items.bodies (λ n sig is.
          let there = slice_get_within items.bodies n sig is in
          let e : 0 + n ≡ n = omega arith in
          subst (λ o. InText (sig_name o)) is (subst (λ m. InText (body_name items m)) e
          (bodies_named items 0 graph.bodies d.1 n (let s = sym same in omega (arith, there, s)))));
    }
