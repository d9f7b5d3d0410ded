-- Items that were read stay as they are while the table of types grows, and get one more.
use Rattle.std.proofs.Common.{◌≡◌, ℕ, suc, ◌+◌, ◌<◌, List, [], ◌∷◌, ◌++◌, All, map, length, Some, None, refl, ap, sym, subst, ◌∙◌, arith}
use Rattle.std.specs.Prelude.{Result, Ok, Err}
use Rattle.std.specs.Borrow.{Bor}
use Rattle.std.proofs.lemmas.List.{length-append}
use Rattle.std.proofs.lemmas.List.Elements.{All-append, All-cons, All-nil}
use Rattle.mir_ty.specs.declared.adt.Adt.{Adt}
use Rattle.mir_ty.specs.declared.adt.Variant.{Variant}
use Rattle.mir_ty.specs.declared.def.Sig.{Sig}
use Rattle.mir_ty.specs.declared.def.TraitDef.{TraitDef}
use Rattle.mir_ty.specs.declared.def.ImplDef.{ImplDef}
use Rattle.mir_ty.specs.declared.def.ClosureDef.{ClosureDef}
use Rattle.mir_ty.specs.declared.ty.TyId.{TyId}
use Rattle.mir_ty.specs.AreItems.{AreTypes, IsAdt, IsVariant, IsSig, IsMethod}
use Rattle.mir_ty.specs.ItemTable.{ItemTable, with_adt, with_trait, with_impl, with_closure}
use Rattle.listing_write.specs.Compared.{AdtSeen, SigSeen, Written, adt_seen, variant_seen, sig_seen, trait_seen, closure_seen}
use Rattle.listing_write.specs.Reading.Words.{FoundInText, bind}
use Rattle.listing_write.proofs.Reading.Basics.{Every}
use Rattle.listing_lines.specs.ItemReading.{adt_read}
use Rattle.listing_lines.proofs.FoundVariants.{still_variants}
use Rattle.listing_lines.specs.LineReading.{impl_read, closure_read}
use Rattle.listing_parts.specs.declared.error.ReadError.{ReadError}
use Rattle.listing_lines.specs.TraitReading.{trait_read}
use Rattle.listing_parts.specs.Table.{AreRead, Grow, under, text_under}
use Rattle.listing_parts.proofs.FoundRows.{map-append, still_types}
use Rattle.listing_parts.proofs.Splits.{split, same_found}
use Rattle.listing_parts.proofs.Texts.{every_from_all, texts_grown, text_grown, no_less}
use Rattle.mir_text.specs.SectionReading.{ItemsSeen, one_adt, one_trait, one_impl, one_closure, on_within, as_long_as}
use Rattle.mir_text.specs.SectionsRead.{items_seen, Drafted, FindsItem, FindsSection}
use Rattle.mir_text.proofs.Onward.{one_more, no_more, all_gone}

map_each : {X Z : Type 0} (f g : X → Z) (xs : List X) → Every (λ x. f x ≡ g x) xs → map f xs ≡ map g xs
map_each f g [] h = refl
map_each f g (x ∷ xs) h = λ i. h.0 i ∷ map_each f g xs h.1 i

length_map : {X Z : Type 0} (f : X → Z) (xs : List X) → length (map f xs) ≡ length xs
length_map f [] = refl
length_map f (x ∷ xs) = ap suc (length_map f xs)

one_more_all : {X : Type 0} (P : X → Type 0) (xs : List X) (x : X) → All P xs → P x → All P (xs ++ x ∷ [])
one_more_all P xs x all one = All-append P xs (x ∷ []) all (All-cons P x [] one (All-nil P))

module _ (heads old new : ItemTable) (read : AreRead heads old.types) (grow : Grow heads old new) where
  ids_grown : (ids : List TyId) → AreTypes old.types ids → map (text_under heads new) ids ≡ map (text_under heads old) ids
  ids_grown ids within = texts_grown heads old new read grow.others ids (every_from_all (λ (id : TyId). id.0 < length old.types) ids within)

  variant_grown : (variant : Variant) → IsVariant old.types variant → variant_seen (under heads new) variant ≡ variant_seen (under heads old) variant
  variant_grown variant is = λ i. (variant.name, ids_grown variant.fields is.fields i)

  variants_grown : (variants : List Variant) → Every (IsVariant old.types) variants → map (variant_seen (under heads new)) variants ≡ map (variant_seen (under heads old)) variants
  variants_grown [] all = refl
  variants_grown (v ∷ vs) all = λ i. variant_grown v all.0 i ∷ variants_grown vs all.1 i

  adts_grown : (adts : List Adt) → Every (IsAdt old.types) adts → map (adt_seen (under heads new)) adts ≡ map (adt_seen (under heads old)) adts
  adts_grown [] all = refl
  adts_grown (adt ∷ adts) all = λ i.
      record {
        is_enum = adt.is_enum;
        name = adt.name;
        variants = variants_grown adt.variants (every_from_all (IsVariant old.types) adt.variants all.0.variants) i;
        copy = adt.copy;
        drop_body = adt.drop_body;
      } ∷ adts_grown adts all.1 i

  sigs_grown : (sigs : List Sig) → Every (IsSig old.types) sigs → map (sig_seen (under heads new)) sigs ≡ map (sig_seen (under heads old)) sigs
  sigs_grown [] all = refl
  sigs_grown (sig ∷ sigs) all = λ i.
      (sig.name, ids_grown sig.params all.0.params i, text_grown heads old new read grow.others sig.result all.0.answer i) ∷ sigs_grown sigs all.1 i

  traits_grown : (traits : List TraitDef) → Every (λ def. All (IsSig old.types) def.methods) traits → map (trait_seen (under heads new)) traits ≡ map (trait_seen (under heads old)) traits
  traits_grown [] all = refl
  traits_grown (def ∷ traits) all = λ i. (def.name, sigs_grown def.methods (every_from_all (IsSig old.types) def.methods all.0) i) ∷ traits_grown traits all.1 i

  closures_grown : (closures : List ClosureDef) → Every (λ def. AreTypes old.types def.captures) closures → map (closure_seen (under heads new)) closures ≡ map (closure_seen (under heads old)) closures
  closures_grown [] all = refl
  closures_grown (def ∷ closures) all = λ i. (ids_grown def.captures all.0 i, def.body) ∷ closures_grown closures all.1 i

  still_sig : (sig : Sig) → IsSig old.types sig → IsSig new.types sig
  still_sig sig is = record {
    params = still_types heads old new sig.params grow is.params;
    answer = let less = no_less old new grow.others in let own = is.answer in omega arith;
  }

  still_adt : (adt : Adt) → IsAdt old.types adt → IsAdt new.types adt
  still_adt adt is = record { variants = still_variants heads old new adt.variants grow is.variants; of_struct = is.of_struct }

module _ (heads old new : ItemTable) (d : Drafted heads old) (grow : Grow heads old new) where
  same_adts : new.adts ≡ old.adts
  same_adts = ap (λ (x : ItemTable). x.adts) grow.others.is

  same_traits : new.traits ≡ old.traits
  same_traits = ap (λ (x : ItemTable). x.traits) grow.others.is

  same_impls : new.impls ≡ old.impls
  same_impls = ap (λ (x : ItemTable). x.impls) grow.others.is

  same_closures : new.closures ≡ old.closures
  same_closures = ap (λ (x : ItemTable). x.closures) grow.others.is

  pub same_bodies : new.bodies ≡ old.bodies
  same_bodies = ap (λ (x : ItemTable). x.bodies) grow.others.is

  pub seen_grown : items_seen heads new ≡ items_seen heads old
  seen_grown = λ i. record {
    adts = (ap (map (adt_seen (under heads new))) same_adts ∙ adts_grown heads old new d.types grow old.adts (every_from_all (IsAdt old.types) old.adts d.adts)) i;
    traits = (ap (map (trait_seen (under heads new))) same_traits ∙ traits_grown heads old new d.types grow old.traits (every_from_all (λ (def : TraitDef). All (IsSig old.types) def.methods) old.traits d.traits)) i;
    impls = same_impls i;
    closures = (ap (map (closure_seen (under heads new))) same_closures ∙ closures_grown heads old new d.types grow old.closures (every_from_all (λ (def : ClosureDef). AreTypes old.types def.captures) old.closures d.closures)) i;
  }

  pub drafted_grown : Drafted heads new
  drafted_grown = record {
    types = grow.types;
    adts = subst (λ (xs : List Adt). All (IsAdt new.types) xs) (sym same_adts) (λ k x lt. still_adt heads old new d.types grow _ (d.adts k x lt));
    traits = subst (λ (xs : List TraitDef). All (λ def. All (IsSig new.types) def.methods) xs) (sym same_traits) (λ k x lt. λ j y less. still_sig heads old new d.types grow _ (d.traits k x lt j y less));
    closures = subst (λ (xs : List ClosureDef). All (λ def. AreTypes new.types def.captures) xs) (sym same_closures) (λ k x lt. still_types heads old new _ grow (d.closures k x lt));
  }

  pub err_item : (last : ItemTable) (e : ReadError) (found : FoundInText ItemsSeen) → last ≡ new → (◌≡◌ {A = Result (Bor (List ℕ)) ReadError} (Err e) (Err ReadError.Unreadable) → found ≡ None) → FindsItem heads old last (Err e) found
  err_item last e found same none = record {
    there = tt;
    missing = λ h. (none h, ap (items_seen heads) same ∙ seen_grown);
    drafted = subst (Drafted heads) (sym same) drafted_grown;
    bodies = ap (λ (x : ItemTable). x.bodies) same ∙ same_bodies;
  }

  pub adt_added : (last : ItemTable) (adt : Adt) (rest : Bor (List ℕ)) (t : List ℕ) → IsAdt new.types adt → adt_read heads t ≡ Some (adt_seen (under heads new) adt, rest.now) → last ≡ with_adt new adt
      → FindsItem heads old last (Ok rest) (one_adt heads (items_seen heads old) t)
  adt_added last adt rest t is found added = record {
    there =
        ap (λ (f : FoundInText AdtSeen). bind f (λ f. Some (record (items_seen heads old) { adts = (items_seen heads old).adts ++ f.0 ∷ [] }, f.1))) found
        ∙ (λ i. Some (record (sym seen_grown i) { adts = (sym seen_grown i).adts ++ adt_seen (under heads new) adt ∷ [] }, rest.now))
        ∙ (λ i. Some (record (items_seen heads new) { adts = sym (map-append (adt_seen (under heads new)) new.adts (adt ∷ [])) i }, rest.now))
        ∙ ap (λ (x : ItemTable). Some (items_seen heads x, rest.now)) (sym added);
    missing = λ h. absurd (cc h);
    drafted =
        subst (Drafted heads) (sym added)
        (record { types = drafted_grown.types; adts = one_more_all (IsAdt new.types) new.adts adt drafted_grown.adts is; traits = drafted_grown.traits; closures = drafted_grown.closures });
    bodies = ap (λ (x : ItemTable). x.bodies) added ∙ same_bodies;
  }

  pub trait_added : (last : ItemTable) (n : ℕ) (def : TraitDef) (rest : Bor (List ℕ)) (t : List ℕ) → n ≡ length old.traits → All (IsMethod new.types n) def.methods
      → trait_read heads n t ≡ Some (trait_seen (under heads new) def, rest.now) → last ≡ with_trait new def
      → FindsItem heads old last (Ok rest) (one_trait heads (items_seen heads old) t)
  trait_added last n def rest t due is found added = record {
    there =
        ap (λ (k : ℕ). bind (trait_read heads k t) (λ f. Some (record (items_seen heads old) { traits = (items_seen heads old).traits ++ f.0 ∷ [] }, f.1)))
        (length_map (trait_seen (under heads old)) old.traits ∙ sym due)
        ∙ ap (λ (f : FoundInText (List ℕ × List SigSeen)). bind f (λ f. Some (record (items_seen heads old) { traits = (items_seen heads old).traits ++ f.0 ∷ [] }, f.1))) found
        ∙ (λ i. Some (record (sym seen_grown i) { traits = (sym seen_grown i).traits ++ trait_seen (under heads new) def ∷ [] }, rest.now))
        ∙ (λ i. Some (record (items_seen heads new) { traits = sym (map-append (trait_seen (under heads new)) new.traits (def ∷ [])) i }, rest.now))
        ∙ ap (λ (x : ItemTable). Some (items_seen heads x, rest.now)) (sym added);
    missing = λ h. absurd (cc h);
    drafted =
        subst (Drafted heads) (sym added)
        (record {
          types = drafted_grown.types;
          adts = drafted_grown.adts;
          traits = one_more_all (λ def. All (IsSig new.types) def.methods) new.traits def drafted_grown.traits (λ j y less. (is j y less).head);
          closures = drafted_grown.closures;
        });
    bodies = ap (λ (x : ItemTable). x.bodies) added ∙ same_bodies;
  }

  pub closure_added : (last : ItemTable) (n : ℕ) (def : ClosureDef) (rest : Bor (List ℕ)) (t : List ℕ) → n ≡ length old.closures → AreTypes new.types def.captures
      → closure_read heads n t ≡ Some (closure_seen (under heads new) def, rest.now) → last ≡ with_closure new def
      → FindsItem heads old last (Ok rest) (one_closure heads (items_seen heads old) t)
  closure_added last n def rest t due is found added = record {
    there =
        ap (λ (k : ℕ). bind (closure_read heads k t) (λ f. Some (record (items_seen heads old) { closures = (items_seen heads old).closures ++ f.0 ∷ [] }, f.1)))
        (length_map (closure_seen (under heads old)) old.closures ∙ sym due)
        ∙ ap (λ (f : FoundInText (List Written × ℕ)). bind f (λ f. Some (record (items_seen heads old) { closures = (items_seen heads old).closures ++ f.0 ∷ [] }, f.1))) found
        ∙ (λ i. Some (record (sym seen_grown i) { closures = (sym seen_grown i).closures ++ closure_seen (under heads new) def ∷ [] }, rest.now))
        ∙ (λ i. Some (record (items_seen heads new) { closures = sym (map-append (closure_seen (under heads new)) new.closures (def ∷ [])) i }, rest.now))
        ∙ ap (λ (x : ItemTable). Some (items_seen heads x, rest.now)) (sym added);
    missing = λ h. absurd (cc h);
    drafted =
        subst (Drafted heads) (sym added)
        (record {
          types = drafted_grown.types;
          adts = drafted_grown.adts;
          traits = drafted_grown.traits;
          closures = one_more_all (λ def. AreTypes new.types def.captures) new.closures def drafted_grown.closures is;
        });
    bodies = ap (λ (x : ItemTable). x.bodies) added ∙ same_bodies;
  }

-- an impl has no types
pub impl_added : (heads old last : ItemTable) (def : ImplDef) (rest : Bor (List ℕ)) (t : List ℕ) → Drafted heads old → impl_read heads t ≡ Some (def, rest.now) → last ≡ with_impl old def
    → FindsItem heads old last (Ok rest) (one_impl heads (items_seen heads old) t)
impl_added heads old last def rest t d found added = record {
  there =
      ap (λ (f : FoundInText ImplDef). bind f (λ f. Some (record (items_seen heads old) { impls = old.impls ++ f.0 ∷ [] }, f.1))) found
      ∙ ap (λ (x : ItemTable). Some (items_seen heads x, rest.now)) (sym added);
  missing = λ h. absurd (cc h);
  drafted = subst (Drafted heads) (sym added) (record { types = d.types; adts = d.adts; traits = d.traits; closures = d.closures });
  bodies = ap (λ (x : ItemTable). x.bodies) added;
}

pub no_impl : (heads old last : ItemTable) (e : ReadError) (found : FoundInText ItemsSeen) → Drafted heads old → last ≡ old → (◌≡◌ {A = Result (Bor (List ℕ)) ReadError} (Err e) (Err ReadError.Unreadable) → found ≡ None)
    → FindsItem heads old last (Err e) found
no_impl heads old last e found d same none = record {
  there = tt;
  missing = λ h. (none h, ap (items_seen heads) same);
  drafted = subst (Drafted heads) (sym same) d;
  bodies = ap (λ (x : ItemTable). x.bodies) same;
}

-- what stands before, and what is still read
module _ (heads : ItemTable) (step : ItemsSeen → List ℕ → FoundInText ItemsSeen) where
  pub record SoFar (initial cur : ItemTable) (fuel : ℕ) (text rest : List ℕ) : Type 0 where
    pub left : as_long_as step (items_seen heads initial) text ≡ on_within fuel step (items_seen heads cur) rest
    pub drafted : Drafted heads cur
    pub bodies : cur.bodies ≡ initial.bodies

  pub begins : (initial : ItemTable) (text : List ℕ) (fuel : ℕ) → fuel ≡ length text → Drafted heads initial → SoFar initial initial fuel text text
  begins initial text fuel e d = record { left = ap (λ (k : ℕ). on_within k step (items_seen heads initial) text) (sym e); drafted = d; bodies = refl }

  pub goes_on : (initial cur new : ItemTable) (fuel k : ℕ) (text rest : List ℕ) (behind : Bor (List ℕ)) → fuel ≡ suc k → SoFar initial cur fuel text rest → FindsItem heads cur new (Ok behind) (step (items_seen heads cur) rest)
      → SoFar initial new k text behind.now
  goes_on initial cur new fuel k text rest behind e s one = record {
    left = s.left ∙ one_more step fuel k (items_seen heads cur) (items_seen heads new) rest behind.now e one.there;
    drafted = one.drafted;
    bodies = one.bodies ∙ s.bodies;
  }

  pub stops : (initial cur new : ItemTable) (fuel : ℕ) (text : List ℕ) (rest : Bor (List ℕ)) → SoFar initial cur fuel text rest.now
      → FindsItem heads cur new (Err ReadError.Unreadable) (step (items_seen heads cur) rest.now)
      → FindsSection heads initial new (Ok rest) (as_long_as step (items_seen heads initial) text)
  stops initial cur new fuel text rest s one =
      let (none, same) = one.missing refl in
      let whole : as_long_as step (items_seen heads initial) text ≡ (items_seen heads cur, rest.now) = s.left ∙ no_more step fuel (items_seen heads cur) rest.now none in
      record {
        there = (same ∙ ap (λ (q : ItemsSeen × List ℕ). q.0) (sym whole), ap (λ (q : ItemsSeen × List ℕ). q.1) (sym whole));
        drafted = one.drafted;
        bodies = one.bodies ∙ s.bodies;
      }

  pub fails : (initial cur new : ItemTable) (fuel : ℕ) (text rest : List ℕ) (result : Result (Bor (List ℕ)) ReadError) → SoFar initial cur fuel text rest
      → FindsItem heads cur new result (step (items_seen heads cur) rest)
      → FindsSection heads initial new (Err (record {})) (as_long_as step (items_seen heads initial) text)
  fails initial cur new fuel text rest result s one = record { there = tt; drafted = one.drafted; bodies = one.bodies ∙ s.bodies }

  pub ends : (initial cur : ItemTable) (fuel : ℕ) (text : List ℕ) (rest : Bor (List ℕ)) → fuel ≡ 0 → SoFar initial cur fuel text rest.now
      → FindsSection heads initial cur (Ok rest) (as_long_as step (items_seen heads initial) text)
  ends initial cur fuel text rest e s =
      let whole : as_long_as step (items_seen heads initial) text ≡ (items_seen heads cur, rest.now) = s.left ∙ all_gone step fuel (items_seen heads cur) rest.now e in
      record {
        there = (ap (λ (q : ItemsSeen × List ℕ). q.0) (sym whole), ap (λ (q : ItemsSeen × List ℕ). q.1) (sym whole));
        drafted = s.drafted;
        bodies = s.bodies;
      }

-- how many there are
pub trait_count : (heads cur new : ItemTable) (t r : List ℕ) → one_trait heads (items_seen heads cur) t ≡ Some (items_seen heads new, r) → length new.traits ≡ length cur.traits + 1
trait_count heads cur new t r h =
    let (f, found, same) = split (trait_read heads (length (items_seen heads cur).traits) t) (λ f. Some (record (items_seen heads cur) { traits = (items_seen heads cur).traits ++ f.0 ∷ [] }, f.1)) (items_seen heads new, r) h in
    let (own, back) = same_found (record (items_seen heads cur) { traits = (items_seen heads cur).traits ++ f.0 ∷ [] }) f.1 (items_seen heads new) r same in
    let grown = ap (λ (s : ItemsSeen). length s.traits) own in
    let count = length-append (items_seen heads cur).traits (f.0 ∷ []) in
    let before = length_map (trait_seen (under heads cur)) cur.traits in
    let after = length_map (trait_seen (under heads new)) new.traits in
    omega (arith, grown, count, before, after)

pub closure_count : (heads cur new : ItemTable) (t r : List ℕ) → one_closure heads (items_seen heads cur) t ≡ Some (items_seen heads new, r) → length new.closures ≡ length cur.closures + 1
closure_count heads cur new t r h =
    let (f, found, same) = split (closure_read heads (length (items_seen heads cur).closures) t) (λ f. Some (record (items_seen heads cur) { closures = (items_seen heads cur).closures ++ f.0 ∷ [] }, f.1)) (items_seen heads new, r) h in
    let (own, back) = same_found (record (items_seen heads cur) { closures = (items_seen heads cur).closures ++ f.0 ∷ [] }) f.1 (items_seen heads new) r same in
    let grown = ap (λ (s : ItemsSeen). length s.closures) own in
    let count = length-append (items_seen heads cur).closures (f.0 ∷ []) in
    let before = length_map (closure_seen (under heads cur)) cur.closures in
    let after = length_map (closure_seen (under heads new)) new.closures in
    omega (arith, grown, count, before, after)

-- no such item
abbrev err_of : {A : Type 0} → ReadError → Result A ReadError → ReadError
err_of d (Ok x) = d
err_of d (Err e) = e

pub missed : {A B : Type 0} (r : Result A ReadError) (e : ReadError) → r ≡ Err e → ◌≡◌ {A = Result B ReadError} (Err e) (Err ReadError.Unreadable) → r ≡ Err ReadError.Unreadable
missed r e is h = is ∙ ap (λ (x : ReadError). Err x) (ap (err_of e) h)

pub no_adt : (heads : ItemTable) (s : ItemsSeen) (t : List ℕ) → adt_read heads t ≡ None → one_adt heads s t ≡ None
no_adt heads s t h = ap (λ (f : FoundInText AdtSeen). bind f (λ f. Some (record s { adts = s.adts ++ f.0 ∷ [] }, f.1))) h

pub no_trait : (heads old : ItemTable) (n : ℕ) (t : List ℕ) → n ≡ length old.traits → trait_read heads n t ≡ None → one_trait heads (items_seen heads old) t ≡ None
no_trait heads old n t due h =
    ap (λ (f : FoundInText (List ℕ × List SigSeen)). bind f (λ f. Some (record (items_seen heads old) { traits = (items_seen heads old).traits ++ f.0 ∷ [] }, f.1)))
    (ap (λ (k : ℕ). trait_read heads k t) (length_map (trait_seen (under heads old)) old.traits ∙ sym due) ∙ h)

pub no_impl_read : (heads : ItemTable) (s : ItemsSeen) (t : List ℕ) → impl_read heads t ≡ None → one_impl heads s t ≡ None
no_impl_read heads s t h = ap (λ (f : FoundInText ImplDef). bind f (λ f. Some (record s { impls = s.impls ++ f.0 ∷ [] }, f.1))) h

pub no_closure : (heads old : ItemTable) (n : ℕ) (t : List ℕ) → n ≡ length old.closures → closure_read heads n t ≡ None → one_closure heads (items_seen heads old) t ≡ None
no_closure heads old n t due h =
    ap (λ (f : FoundInText (List Written × ℕ)). bind f (λ f. Some (record (items_seen heads old) { closures = (items_seen heads old).closures ++ f.0 ∷ [] }, f.1)))
    (ap (λ (k : ℕ). closure_read heads k t) (length_map (closure_seen (under heads old)) old.closures ∙ sym due) ∙ h)
