-- The items that a text tells: what stands in front of it, their names, and the heads that they were read under.
use Rattle.std.proofs.Common.{◌≡◌, ℕ, zero, suc, ◌≤◌, Bool, true, false, ◌||◌, if◌then◌else◌, nat_lt, min, List, [], ◌∷◌, ◌++◌, map, length, codes, Option, Some, None, All, IfSome, decimal, refl, ap, sym, subst, ◌∙◌, arith, append_assoc}
use Rattle.std.specs.Str.{is_utf8}
use Rattle.std.proofs.lemmas.List.{map-append}
use Rattle.std.proofs.lemmas.Option.{none-some}
use Rattle.std.proofs.lemmas.Bool.{ltb-false}
use Rattle.cfg_graph.specs.WellFormed.NameFaults.{is_name, is_adt_name}
use Rattle.mir_ty.specs.declared.adt.Adt.{Adt}
use Rattle.mir_ty.specs.declared.adt.Variant.{Variant}
use Rattle.mir_ty.specs.declared.def.ImplDef.{ImplDef}
use Rattle.mir_ty.specs.declared.def.Sig.{Sig}
use Rattle.mir_ty.specs.declared.def.TraitDef.{TraitDef}
use Rattle.mir_ty.specs.ItemTable.{ItemTable, no_items, with_adt, with_trait}
use Rattle.mir_ty.specs.Named.{adt_name}
use Rattle.listing_write.specs.Compared.{AdtSeen, VariantSeen, SigSeen, Written, adt_seen, variant_seen, trait_seen, sig_seen, closure_seen}
use Rattle.listing_write.specs.Fields.{Fits}
use Rattle.listing_write.specs.Items.{counted, copy_text, drop_text}
use Rattle.listing_write.specs.Lines.{line_text, ImplLine}
use Rattle.listing_write.specs.Lists.{line, in_braces, in_parentheses}
use Rattle.listing_write.specs.Reading.Words.{FoundInText, bind}
use Rattle.listing_write.specs.Types.{trait_name}
use Rattle.listing_write.proofs.Reading.Basics.{Every}
use Rattle.mir_text.proofs.Aligned.{HaveFree, heads_free, word_free, words_free, first_of_all}
use Rattle.mir_text.proofs.Free.{AllFree, both_free, name_free, row_free, braces_free}
use Rattle.mir_text.proofs.HeadLines.{adt_line_named, trait_line_named}
use Rattle.mir_text.proofs.ListedHeads.{after_adts, after_traits, after_impls, adts_stay, traits_stay}
use Rattle.mir_text.proofs.InFront.{EachFrom, IsOne, StandInFront, in_front}
use Rattle.mir_text.proofs.Named.{Extends, adt_names, trait_names, length_map}
use Rattle.mir_text.proofs.Valid.{IsNamed, EnumNamed, gives_adt, MethodNamed, TraitNamed, gives_trait, closure_fits, ImplValid, gives_impl}
use Rattle.listing_lines.specs.CodeStands.{AreNames}
use Rattle.listing_lines.specs.ItemReading.{adt_read}
use Rattle.listing_lines.specs.ItemsFound.{written_variant, own_fields, written_shape, written_adt}
use Rattle.listing_lines.proofs.ItemsSound.{adts_sound}
use Rattle.listing_lines.specs.LineReading.{impl_read, closure_read}
use Rattle.listing_lines.proofs.Sound.{closures_sound, impls_sound}
use Rattle.mir_text.specs.GraphReading.{none_seen, items_under, fewer, fewer_of, again, heads_after, AreSettled}
use Rattle.mir_text.specs.HeadReading.{adt_of, trait_of, one_adt_head, one_trait_head, heads_within}
use Rattle.mir_text.proofs.Settling.{adt_more, trait_more}
use Rattle.mir_text.specs.SectionReading.{ItemsSeen, on_within, one_adt, one_trait, one_impl, one_closure}
use Rattle.mir_text.specs.SectionsRead.{items_seen}
use Rattle.mir_text.proofs.Kept.{adts_keep_traits, adts_keep, traits_keep, impls_keep}
use Rattle.mir_text.proofs.Onward.{no_more, keeps}
use Rattle.listing_lines.specs.TraitReading.{trait_read}
use Rattle.listing_lines.specs.TraitsFound.{written_method}
use Rattle.listing_lines.proofs.TraitsSound.{traits_sound}
use Rattle.listing_parts.specs.Table.{under, text_under}
use Rattle.listing_parts.proofs.Complete.{name_all}
use Rattle.listing_parts.proofs.Depth.{is_a_name}
use Rattle.listing_parts.proofs.Splits.{split, same_found}
use Rattle.listing_parts.proofs.Texts.{every_from_all, every_more}

pub all_from_every : {X : Type 0} (P : X → Type 0) (xs : List X) → Every P xs → All P xs
all_from_every P [] h k d less = absurd (omega arith)
all_from_every P (x ∷ xs) h zero d less = h.0
all_from_every P (x ∷ xs) h (suc k) d less = all_from_every P xs h.1 k d (omega (arith, less))

-- what is read of each line
abbrev pub AdtValid : ItemTable → AdtSeen → Type 0
AdtValid heads x = (is_adt_name x.name ≡ true) × (is_utf8 x.name ≡ true) × IfSome x.drop_body Fits × EnumNamed heads x

abbrev pub TraitValid : ItemTable → ℕ → List ℕ × List SigSeen → Type 0
TraitValid heads n x = (x.0 ≡ trait_name heads n) × TraitNamed x

abbrev pub ClosureValid : ℕ → List Written × ℕ → Type 0
ClosureValid n x = Fits n × Fits x.1

abbrev pub trait_text : List ℕ × List SigSeen → List ℕ
trait_text x = line (codes "trait " ++ x.0 ++ codes " " ++ in_braces (map written_method x.1))

abbrev pub impl_text : ItemTable → ImplDef → List ℕ
impl_text heads def = line (line_text (ImplLine (trait_name heads def.trait_no) (adt_name heads def.adt) def.bodies))

abbrev pub closure_text : ℕ → List Written × ℕ → List ℕ
closure_text n x = line (codes "closure " ++ decimal n ++ codes " " ++ in_parentheses x.0 ++ codes " " ++ decimal x.1)

module _ (heads : ItemTable) where
  adt_one : (s u : ItemsSeen) (t r : List ℕ) → one_adt heads s t ≡ Some (u, r) → IsOne (one_adt heads) (λ (s : ItemsSeen). s.adts) (λ n. written_adt) (λ n. AdtValid heads) s u t r
  adt_one s u t r h =
      let (f, found, last) = split (adt_read heads t) (λ f. Some (record s { adts = s.adts ++ f.0 ∷ [] }, f.1)) (u, r) h in
      let (own, behind) = same_found (record s { adts = s.adts ++ f.0 ∷ [] }) f.1 u r last in
      let sound = adts_sound heads t f.0 f.1 found in
      record {
        thing = f.0;
        more = ap (λ (x : ItemsSeen). x.adts) (sym own);
        is = sound.0 ∙ ap (λ (w : List ℕ). written_adt f.0 ++ w) behind;
        valid = (sound.1, sound.2, sound.3, gives_adt heads t f.0 f.1 found);
      }

  trait_one : (s u : ItemsSeen) (t r : List ℕ) → one_trait heads s t ≡ Some (u, r) → IsOne (one_trait heads) (λ (s : ItemsSeen). s.traits) (λ n. trait_text) (TraitValid heads) s u t r
  trait_one s u t r h =
      let (f, found, last) = split (trait_read heads (length s.traits) t) (λ f. Some (record s { traits = s.traits ++ f.0 ∷ [] }, f.1)) (u, r) h in
      let (own, behind) = same_found (record s { traits = s.traits ++ f.0 ∷ [] }) f.1 u r last in
      let sound = traits_sound heads (length s.traits) t f.0.0 f.0.1 f.1 found in
      record {
        thing = f.0;
        more = ap (λ (x : ItemsSeen). x.traits) (sym own);
        is = sound.0 ∙ ap (λ (w : List ℕ). trait_text f.0 ++ w) behind;
        valid = (sound.1, gives_trait heads (length s.traits) t f.0 f.1 found);
      }

  impl_one : (s u : ItemsSeen) (t r : List ℕ) → one_impl heads s t ≡ Some (u, r) → IsOne (one_impl heads) (λ (s : ItemsSeen). s.impls) (λ n. impl_text heads) (λ n. ImplValid heads) s u t r
  impl_one s u t r h =
      let (f, found, last) = split (impl_read heads t) (λ f. Some (record s { impls = s.impls ++ f.0 ∷ [] }, f.1)) (u, r) h in
      let (own, behind) = same_found (record s { impls = s.impls ++ f.0 ∷ [] }) f.1 u r last in
      record {
        thing = f.0;
        more = ap (λ (x : ItemsSeen). x.impls) (sym own);
        is = impls_sound heads t f.0 f.1 found ∙ ap (λ (w : List ℕ). impl_text heads f.0 ++ w) behind;
        valid = gives_impl heads t f.0 f.1 found;
      }

  closure_one : (s u : ItemsSeen) (t r : List ℕ) → one_closure heads s t ≡ Some (u, r) → IsOne (one_closure heads) (λ (s : ItemsSeen). s.closures) closure_text ClosureValid s u t r
  closure_one s u t r h =
      let (f, found, last) = split (closure_read heads (length s.closures) t) (λ f. Some (record s { closures = s.closures ++ f.0 ∷ [] }, f.1)) (u, r) h in
      let (own, behind) = same_found (record s { closures = s.closures ++ f.0 ∷ [] }) f.1 u r last in
      record {
        thing = f.0;
        more = ap (λ (x : ItemsSeen). x.closures) (sym own);
        is = closures_sound heads (length s.closures) t f.0.0 f.0.1 f.1 found ∙ ap (λ (w : List ℕ). closure_text (length s.closures) f.0 ++ w) behind;
        valid = closure_fits heads (length s.closures) t f.0.0 f.0.1 f.1 found;
      }

  -- the impls before their section
  adt_no_impls : (s u : ItemsSeen) (t r : List ℕ) → one_adt heads s t ≡ Some (u, r) → u.impls ≡ s.impls
  adt_no_impls s u t r h =
      let (f, found, last) = split (adt_read heads t) (λ f. Some (record s { adts = s.adts ++ f.0 ∷ [] }, f.1)) (u, r) h in
      ap (λ (x : ItemsSeen). x.impls) (sym (same_found (record s { adts = s.adts ++ f.0 ∷ [] }) f.1 u r last).0)

  trait_no_impls : (s u : ItemsSeen) (t r : List ℕ) → one_trait heads s t ≡ Some (u, r) → u.impls ≡ s.impls
  trait_no_impls s u t r h =
      let (f, found, last) = split (trait_read heads (length s.traits) t) (λ f. Some (record s { traits = s.traits ++ f.0 ∷ [] }, f.1)) (u, r) h in
      ap (λ (x : ItemsSeen). x.impls) (sym (same_found (record s { traits = s.traits ++ f.0 ∷ [] }) f.1 u r last).0)

  closure_no_impls : (s u : ItemsSeen) (t r : List ℕ) → one_closure heads s t ≡ Some (u, r) → u.impls ≡ s.impls
  closure_no_impls s u t r h =
      let (f, found, last) = split (closure_read heads (length s.closures) t) (λ f. Some (record s { closures = s.closures ++ f.0 ∷ [] }, f.1)) (u, r) h in
      ap (λ (x : ItemsSeen). x.impls) (sym (same_found (record s { closures = s.closures ++ f.0 ∷ [] }) f.1 u r last).0)

-- the items stand in front
pub record ItemsFront (heads items : ItemTable) (t : List ℕ) : Type 0 where
  pub adts : t ≡ counted (λ n. written_adt) 0 (map (adt_seen (under heads items)) items.adts) ++ (after_adts heads t).1
  pub adts_valid : EachFrom (λ n. AdtValid heads) 0 (map (adt_seen (under heads items)) items.adts)
  pub traits : (after_adts heads t).1 ≡ counted (λ n. trait_text) 0 (map (trait_seen (under heads items)) items.traits) ++ (after_traits heads t).1
  pub traits_valid : EachFrom (TraitValid heads) 0 (map (trait_seen (under heads items)) items.traits)
  pub impls : (after_traits heads t).1 ≡ counted (λ n. impl_text heads) 0 items.impls ++ (after_impls heads t).1
  pub impls_valid : EachFrom (λ n. ImplValid heads) 0 items.impls
  pub closures : (after_impls heads t).1 ≡ counted closure_text 0 (map (closure_seen (under heads items)) items.closures) ++ (items_under heads t).1
  pub closures_valid : EachFrom ClosureValid 0 (map (closure_seen (under heads items)) items.closures)

section_front : {S X : Type 0} (step : S → List ℕ → FoundInText S) (part : S → List X) (text : ℕ → X → List ℕ) (V : ℕ → X → Type 0) (s : S) (t : List ℕ) (q : S × List ℕ) (xs : List X) → part s ≡ [] → part q.0 ≡ xs → StandInFront step part text V s t q
    → (t ≡ counted text 0 xs ++ q.1) × EachFrom V 0 xs
section_front step part text V s t q xs none are f =
    let things : f.things ≡ xs = ap (λ (ys : List _). ys ++ f.things) (sym none) ∙ sym f.more ∙ are in
    (f.is ∙ (λ i. counted text (length (none i)) (things i) ++ q.1), subst (EachFrom V 0) things (subst (λ (n : ℕ). EachFrom V n f.things) (ap length none) f.valid))

pub items_front : (heads items : ItemTable) (t : List ℕ) → items_seen heads items ≡ (items_under heads t).0 → ItemsFront heads items t
items_front heads items t told =
    let a = in_front (one_adt heads) (λ (s : ItemsSeen). s.adts) (λ n. written_adt) (λ n. AdtValid heads) (adt_one heads) (length t) none_seen t in
    let q1 : ItemsSeen × List ℕ = after_adts heads t in
    let b = in_front (one_trait heads) (λ (s : ItemsSeen). s.traits) (λ n. trait_text) (TraitValid heads) (trait_one heads) (length q1.1) q1.0 q1.1 in
    let q2 : ItemsSeen × List ℕ = after_traits heads t in
    let c = in_front (one_impl heads) (λ (s : ItemsSeen). s.impls) (λ n. impl_text heads) (λ n. ImplValid heads) (impl_one heads) (length q2.1) q2.0 q2.1 in
    let q3 : ItemsSeen × List ℕ = after_impls heads t in
    let d = in_front (one_closure heads) (λ (s : ItemsSeen). s.closures) closure_text ClosureValid (closure_one heads) (length q3.1) q3.0 q3.1 in
    let no_impls : q2.0.impls ≡ [] =
    keeps (one_trait heads) (λ (x : ItemsSeen). x.impls) (trait_no_impls heads) (length q1.1) q1.0 q1.1 ∙ keeps (one_adt heads) (λ (x : ItemsSeen). x.impls) (adt_no_impls heads) (length t) none_seen t in
    let no_closures : q3.0.closures ≡ [] = impls_keep heads q2.0 q2.1 ∙ traits_keep heads q1.0 q1.1 ∙ adts_keep heads none_seen t in
    let own_adts = section_front (one_adt heads) (λ (s : ItemsSeen). s.adts) (λ n. written_adt) (λ n. AdtValid heads) none_seen t q1 (map (adt_seen (under heads items)) items.adts) refl
    (sym (adts_stay heads t) ∙ ap (λ (x : ItemsSeen). x.adts) (sym told)) a in
    let own_traits = section_front (one_trait heads) (λ (s : ItemsSeen). s.traits) (λ n. trait_text) (TraitValid heads) q1.0 q1.1 q2 (map (trait_seen (under heads items)) items.traits) (adts_keep_traits heads none_seen t)
    (sym (traits_stay heads t) ∙ ap (λ (x : ItemsSeen). x.traits) (sym told)) b in
    let own_impls = section_front (one_impl heads) (λ (s : ItemsSeen). s.impls) (λ n. impl_text heads) (λ n. ImplValid heads) q2.0 q2.1 q3 items.impls no_impls
    (sym (keeps (one_closure heads) (λ (x : ItemsSeen). x.impls) (closure_no_impls heads) (length q3.1) q3.0 q3.1) ∙ ap (λ (x : ItemsSeen). x.impls) (sym told)) c in
    let own_closures = section_front (one_closure heads) (λ (s : ItemsSeen). s.closures) closure_text ClosureValid q3.0 q3.1 (items_under heads t) (map (closure_seen (under heads items)) items.closures) no_closures
    (ap (λ (x : ItemsSeen). x.closures) (sym told)) d in
    record {
      adts = own_adts.0;
      adts_valid = own_adts.1;
      traits = own_traits.0;
      traits_valid = own_traits.1;
      impls = own_impls.0;
      impls_valid = own_impls.1;
      closures = own_closures.0;
      closures_valid = own_closures.1;
    }

module _ (heads items : ItemTable) (t : List ℕ) (front : ItemsFront heads items t) where
  -- names
  adts_named : (n : ℕ) (adts : List Adt) → EachFrom (λ n. AdtValid heads) n (map (adt_seen (under heads items)) adts) → Every (λ (adt : Adt). is_adt_name adt.name ≡ true) adts
  adts_named n [] h = tt
  adts_named n (adt ∷ adts) h = (h.0.0, adts_named (suc n) adts h.1)

  traits_named : (n : ℕ) (traits : List TraitDef) → EachFrom (TraitValid heads) n (map (trait_seen (under heads items)) traits) → Every (λ (def : TraitDef). is_name def.name ≡ true) traits
  traits_named n [] h = tt
  traits_named n (def ∷ traits) h = (h.0.1.0.0, traits_named (suc n) traits h.1)

  pub are_names : AreNames items
  are_names = record {
    adts = all_from_every (λ (adt : Adt). is_adt_name adt.name ≡ true) items.adts (adts_named 0 items.adts front.adts_valid);
    traits = all_from_every (λ (def : TraitDef). is_name def.name ≡ true) items.traits (traits_named 0 items.traits front.traits_valid);
  }

  -- rows without line feeds
  module _ (free : HaveFree heads) where
    variants_free : (vs : List Variant) → Every (λ v. IsNamed v.0) (map (variant_seen (under heads items)) vs) → AllFree (map written_variant (map (variant_seen (under heads items)) vs))
    variants_free [] h = tt
    variants_free (v ∷ vs) h = (
      both_free (v.name ++ codes " ") (in_parentheses (map (text_under heads items) v.fields)) (both_free v.name (codes " ") (name_free v.name (name_all v.name h.0.0)) refl) (row_free (map (text_under heads items) v.fields) (words_free heads items free v.fields)),
      variants_free vs h.1,
    )

    fields_free : (vs : List Variant) → AllFree (own_fields (map (variant_seen (under heads items)) vs))
    fields_free [] = tt
    fields_free (v ∷ vs) = words_free heads items free v.fields

    methods_free : (sigs : List Sig) → Every (λ m. IsNamed m.0) (map (sig_seen (under heads items)) sigs) → AllFree (map written_method (map (sig_seen (under heads items)) sigs))
    methods_free [] h = tt
    methods_free (sig ∷ sigs) h = (
      both_free (sig.name ++ codes " " ++ in_parentheses (map (text_under heads items) sig.params) ++ codes " ") (text_under heads items sig.result)
          (both_free (sig.name ++ codes " " ++ in_parentheses (map (text_under heads items) sig.params)) (codes " ")
          (both_free (sig.name ++ codes " ") (in_parentheses (map (text_under heads items) sig.params)) (both_free sig.name (codes " ") (name_free sig.name (name_all sig.name h.0.0)) refl)
          (row_free (map (text_under heads items) sig.params) (words_free heads items free sig.params))) refl)
          (word_free heads items free sig.result),
      methods_free sigs h.1,
    )

    -- heads stand in the lines
    abbrev AdtHead : AdtSeen → Type 0
    AdtHead x = (s : ItemTable) (r : List ℕ) → one_adt_head s (written_adt x ++ r) ≡ Some (with_adt s (adt_of x.name), r)

    abbrev TraitHead : List ℕ × List SigSeen → Type 0
    TraitHead x = (s : ItemTable) (r : List ℕ) → one_trait_head s (trait_text x ++ r) ≡ Some (with_trait s (trait_of x.0), r)

    adt_head_in : (is_enum : Bool) (adt : Adt) → is_name adt.name ≡ true → is_utf8 adt.name ≡ true → (is_enum ≡ true → Every (λ v. IsNamed v.0) (map (variant_seen (under heads items)) adt.variants)) → (s : ItemTable) (r : List ℕ)
        → one_adt_head s (line (written_shape is_enum adt.name (map (variant_seen (under heads items)) adt.variants) ++ copy_text adt.copy ++ drop_text adt.drop_body) ++ r) ≡ Some (with_adt s (adt_of adt.name), r)
    adt_head_in true adt is utf named s r =
        ap (λ (f : FoundInText (List ℕ)). bind f (λ f. Some (with_adt s (adt_of f.0), f.1)))
        (adt_line_named (codes "enum ") adt.name (in_braces (map written_variant (map (variant_seen (under heads items)) adt.variants))) adt.copy adt.drop_body r refl is utf
        (braces_free (map written_variant (map (variant_seen (under heads items)) adt.variants)) (variants_free adt.variants (named refl))))
    adt_head_in false adt is utf named s r =
        ap (λ (f : FoundInText (List ℕ)). bind f (λ f. Some (with_adt s (adt_of f.0), f.1)))
        (adt_line_named (codes "struct ") adt.name (in_parentheses (own_fields (map (variant_seen (under heads items)) adt.variants))) adt.copy adt.drop_body r refl is utf
        (row_free (own_fields (map (variant_seen (under heads items)) adt.variants)) (fields_free adt.variants)))

    adt_heads : (n : ℕ) (adts : List Adt) → EachFrom (λ n. AdtValid heads) n (map (adt_seen (under heads items)) adts) → Every AdtHead (map (adt_seen (under heads items)) adts)
    adt_heads n [] h = tt
    adt_heads n (adt ∷ adts) h = (
      adt_head_in adt.is_enum adt (is_a_name adt.name h.0.0) h.0.1 (λ e. every_from_all (λ (v : VariantSeen). IsNamed v.0) (map (variant_seen (under heads items)) adt.variants) (h.0.3 e)),
      adt_heads (suc n) adts h.1,
    )

    trait_heads : (n : ℕ) (traits : List TraitDef) → EachFrom (TraitValid heads) n (map (trait_seen (under heads items)) traits) → Every TraitHead (map (trait_seen (under heads items)) traits)
    trait_heads n [] h = tt
    trait_heads n (def ∷ traits) h = (
      λ s r. ap (λ (f : FoundInText (List ℕ)). bind f (λ f. Some (with_trait s (trait_of f.0), f.1)))
          (trait_line_named def.name (in_braces (map written_method (map (sig_seen (under heads items)) def.methods))) r h.0.1.0.0 h.0.1.0.1
          (braces_free (map written_method (map (sig_seen (under heads items)) def.methods))
          (methods_free def.methods (every_more (λ (m : SigSeen). MethodNamed def.name m) (λ (m : SigSeen). IsNamed m.0) (λ m k. k.0) (map (sig_seen (under heads items)) def.methods)
          (every_from_all (MethodNamed def.name) (map (sig_seen (under heads items)) def.methods) h.0.1.1))))),
      trait_heads (suc n) traits h.1,
    )

    adt_names_are : (adts : List Adt) → map (λ (x : AdtSeen). x.name) (map (adt_seen (under heads items)) adts) ≡ map (λ (adt : Adt). adt.name) adts
    adt_names_are [] = refl
    adt_names_are (adt ∷ adts) = ap (λ (xs : List (List ℕ)). adt.name ∷ xs) (adt_names_are adts)

    trait_names_are : (traits : List TraitDef) → map (λ (x : List ℕ × List SigSeen). x.0) (map (trait_seen (under heads items)) traits) ≡ map (λ (def : TraitDef). def.name) traits
    trait_names_are [] = refl
    trait_names_are (def ∷ traits) = ap (λ (xs : List (List ℕ)). def.name ∷ xs) (trait_names_are traits)

    -- heads that are all read
    pub extends : (a b : ℕ) → heads ≡ heads_within a b t → length heads.adts ≤ length items.adts → length heads.traits ≤ length items.traits → Extends heads items
    extends a b are few_adts few_traits =
        let xs : List AdtSeen = map (adt_seen (under heads items)) items.adts in
        let q : ItemTable × List ℕ = on_within a one_adt_head no_items t in
        let kept : heads.adts ≡ q.0.adts = ap (λ (x : ItemTable). x.adts) are ∙ keeps one_trait_head (λ (x : ItemTable). x.adts) (λ s u t r h. (trait_more s u t r h).1) b q.0 q.1 in
        let none : q.0.traits ≡ [] = keeps one_adt_head (λ (x : ItemTable). x.traits) (λ s u t r h. (adt_more s u t r h).1) a no_items t in
        let count = length_map (adt_seen (under heads items)) items.adts in
        let own = length_map (λ (adt : Adt). adt.name) q.0.adts in
        let same = ap length kept in
        let some = first_of_all one_adt_head adt_names written_adt (λ (x : AdtSeen). x.name) AdtHead
        (λ s x r v. (with_adt s (adt_of x.name), v s r, map-append (λ (adt : Adt). adt.name) s.adts (adt_of x.name ∷ [])))
        (λ s u t r h. (let one = (adt_more s u t r h).0 in let left = length_map (λ (adt : Adt). adt.name) u.adts in let right = length_map (λ (adt : Adt). adt.name) s.adts in omega (arith, one, left, right)))
        xs a no_items t (after_adts heads t).1 (adt_heads 0 items.adts front.adts_valid) front.adts (omega (arith, count, own, same, few_adts)) in
        by q none kept some.first some.others some.are some.named some.rest refl
      where
        heads_are : heads ≡ heads_within a b t
        heads_are = are

        adts_so : (q : ItemTable × List ℕ) → heads.adts ≡ q.0.adts → (first others : List AdtSeen) → map (adt_seen (under heads items)) items.adts ≡ first ++ others → adt_names q.0 ≡ [] ++ map (λ (x : AdtSeen). x.name) first
            → adt_names items ≡ adt_names heads ++ map (λ (x : AdtSeen). x.name) others
        adts_so q kept first others are named =
            sym (adt_names_are items.adts) ∙ ap (map (λ (x : AdtSeen). x.name)) are ∙ map-append (λ (x : AdtSeen). x.name) first others
            ∙ ap (λ (ns : List (List ℕ)). ns ++ map (λ (x : AdtSeen). x.name) others) (sym named ∙ ap (map (λ (adt : Adt). adt.name)) (sym kept))

        no_trait_head : (is_enum : Bool) (name : List ℕ) (vs : List VariantSeen) (copy : Bool) (body : Option ℕ) (s : ItemTable) (r : List ℕ)
            → one_trait_head s (line (written_shape is_enum name vs ++ copy_text copy ++ drop_text body) ++ r) ≡ None
        no_trait_head true name vs copy body s r = refl
        no_trait_head false name vs copy body s r = refl

        by : (q : ItemTable × List ℕ) → q.0.traits ≡ [] → heads.adts ≡ q.0.adts → (first others : List AdtSeen) → map (adt_seen (under heads items)) items.adts ≡ first ++ others
            → adt_names q.0 ≡ [] ++ map (λ (x : AdtSeen). x.name) first → q.1 ≡ counted (λ n. written_adt) 0 others ++ (after_adts heads t).1 → q ≡ on_within a one_adt_head no_items t → Extends heads items
        by q none kept first [] are named rest is =
            let ys : List (List ℕ × List SigSeen) = map (trait_seen (under heads items)) items.traits in
            let p : ItemTable × List ℕ = on_within b one_trait_head q.0 q.1 in
            let found : heads ≡ p.0 = heads_are ∙ ap (λ (q : ItemTable × List ℕ). (on_within b one_trait_head q.0 q.1).0) (sym is) in
            let count = length_map (trait_seen (under heads items)) items.traits in
            let own = length_map (λ (def : TraitDef). def.name) p.0.traits in
            let same = ap (λ (x : ItemTable). length x.traits) found in
            let start = ap length none in
            let names_start = length_map (λ (def : TraitDef). def.name) q.0.traits in
            let some = first_of_all one_trait_head trait_names trait_text (λ (x : List ℕ × List SigSeen). x.0) TraitHead
            (λ s x r v. (with_trait s (trait_of x.0), v s r, map-append (λ (def : TraitDef). def.name) s.traits (trait_of x.0 ∷ [])))
            (λ s u t r h. (let one = (trait_more s u t r h).0 in let left = length_map (λ (def : TraitDef). def.name) u.traits in let right = length_map (λ (def : TraitDef). def.name) s.traits in omega (arith, one, left, right)))
            ys b q.0 q.1 (after_traits heads t).1 (trait_heads 0 items.traits front.traits_valid) (rest ∙ front.traits) (omega (arith, count, own, same, start, names_start, few_traits)) in
            record {
              adts = map (λ (x : AdtSeen). x.name) [];
              adts_are = adts_so q kept first [] are named;
              traits = map (λ (x : List ℕ × List SigSeen). x.0) some.others;
              traits_are =
                  sym (trait_names_are items.traits) ∙ ap (map (λ (x : List ℕ × List SigSeen). x.0)) some.are ∙ map-append (λ (x : List ℕ × List SigSeen). x.0) some.first some.others
                  ∙ ap (λ (ns : List (List ℕ)). ns ++ map (λ (x : List ℕ × List SigSeen). x.0) some.others)
                  (ap (λ (ds : List TraitDef). map (λ (def : TraitDef). def.name) ds ++ map (λ (x : List ℕ × List SigSeen). x.0) some.first) (sym none) ∙ sym some.named ∙ ap trait_names (sym found));
            }
        by q none kept first (z ∷ others) are named rest is =
            let stop : one_trait_head q.0 q.1 ≡ None =
            ap (one_trait_head q.0) (rest ∙ append_assoc (written_adt z) (counted (λ (n : ℕ). written_adt) 1 others) (after_adts heads t).1)
            ∙ no_trait_head z.is_enum z.name z.variants z.copy z.drop_body q.0 (counted (λ (n : ℕ). written_adt) 1 others ++ (after_adts heads t).1) in
            let found : heads ≡ (on_within b one_trait_head q.0 q.1).0 = heads_are ∙ ap (λ (q : ItemTable × List ℕ). (on_within b one_trait_head q.0 q.1).0) (sym is) in
            let same : heads.traits ≡ [] = ap (λ (x : ItemTable). x.traits) found ∙ ap (λ (q : ItemTable × List ℕ). q.0.traits) (no_more one_trait_head b q.0 q.1 stop) ∙ none in
            record {
              adts = map (λ (x : AdtSeen). x.name) (z ∷ others);
              adts_are = adts_so q kept first (z ∷ others) are named;
              traits = trait_names items;
              traits_are = ap (λ (ds : List TraitDef). map (λ (def : TraitDef). def.name) ds ++ trait_names items) (sym same);
            }

none_fewer : (a most_a b most_b : ℕ) → fewer_of a most_a b most_b ≡ None → (most_a ≤ a) × (most_b ≤ b)
none_fewer a most_a b most_b h = by (nat_lt a most_a) refl h
  where
    counts : ℕ × ℕ
    counts = (min a most_a, min b most_b)

    by : (v : Bool) → nat_lt a most_a ≡ v → (if v || nat_lt b most_b then Some counts else None) ≡ None → (most_a ≤ a) × (most_b ≤ b)
    by true e h = absurd (none-some counts (sym h))
    by false e h = also (nat_lt b most_b) refl h
      where
        also : (w : Bool) → nat_lt b most_b ≡ w → (if w then Some counts else None) ≡ None → (most_a ≤ a) × (most_b ≤ b)
        also true f h = absurd (none-some counts (sym h))
        also false f h = (ltb-false a most_a e, ltb-false b most_b f)

-- settled heads are heads within some numbers
are_within : (n : ℕ) (t : List ℕ) → (a : ℕ) × (b : ℕ) × (heads_after n t ≡ heads_within a b t)
are_within zero t = (length t, length t, refl)
are_within (suc n) t = by (fewer (heads_after n t) (items_under (heads_after n t) t).0) (are_within n t)
  where
    by : (o : Option (ℕ × ℕ)) → (a : ℕ) × (b : ℕ) × (heads_after n t ≡ heads_within a b t) → (a : ℕ) × (b : ℕ) × (again t (heads_after n t) o ≡ heads_within a b t)
    by None q = q
    by (Some counts) q = (counts.0, counts.1, refl)

pub settled_extends : (heads items : ItemTable) (t : List ℕ) → AreSettled t heads → items_seen heads items ≡ (items_under heads t).0 → Extends heads items
settled_extends heads items t settled told =
    let (a, b, within) = are_within settled.rounds t in
    let are : heads ≡ heads_within a b t = settled.are ∙ within in
    let seen : ItemsSeen = (items_under heads t).0 in
    let (adts, traits) = none_fewer (length seen.adts) (length heads.adts) (length seen.traits) (length heads.traits) settled.all_read in
    let own_adts = ap (λ (s : ItemsSeen). length s.adts) told in
    let own_traits = ap (λ (s : ItemsSeen). length s.traits) told in
    let count_adts = length_map (adt_seen (under heads items)) items.adts in
    let count_traits = length_map (trait_seen (under heads items)) items.traits in
    let free : HaveFree heads = subst HaveFree (sym are) (heads_free a b t) in
    extends heads items t (items_front heads items t told) free a b are (omega (arith, adts, own_adts, count_adts)) (omega (arith, traits, own_traits, count_traits))
