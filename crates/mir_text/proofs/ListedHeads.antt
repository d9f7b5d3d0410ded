-- The heads that a text is read under have the names of the items of each of its beginnings at their front.
use Rattle.std.proofs.Common.{◌≡◌, ℕ, zero, suc, ◌+◌, ◌≤◌, Bool, true, false, List, [], ◌∷◌, ◌++◌, map, length, Option, Some, None, refl, ap, sym, ◌∙◌, arith, append_assoc, append-nil, length-append}
use Rattle.std.proofs.lemmas.List.{map-append}
use Rattle.mir_ty.specs.declared.adt.Adt.{Adt}
use Rattle.mir_ty.specs.declared.def.TraitDef.{TraitDef}
use Rattle.mir_ty.specs.declared.def.ImplDef.{ImplDef}
use Rattle.mir_ty.specs.ItemTable.{ItemTable, no_items, with_adt, with_trait}
use Rattle.listing_write.specs.Compared.{AdtSeen, SigSeen, Written}
use Rattle.listing_write.specs.Lines.{line_text, adt_in_line, line_of_adt, line_of_trait}
use Rattle.listing_write.specs.Lists.{line}
use Rattle.listing_write.specs.Reading.Words.{FoundInText, bind}
use Rattle.listing_write.proofs.Reading.Basics.{Every}
use Rattle.mir_text.specs.Beginning.{LineStands, texts}
use Rattle.mir_text.proofs.HeadLines.{adt_in, IsAdtLine, adt_head_of, trait_head_of}
use Rattle.mir_text.proofs.Named.{Extends, length_map, adt_names, trait_names, no_fewer_adts, no_fewer_traits}
use Rattle.mir_text.proofs.Passing.{adts_pass, adts_grow, traits_pass, traits_grow, no_adt_at, no_adt_head_at}
use Rattle.mir_text.proofs.Sections.{Passes, through, counted_so, never_less, texts_long}
use Rattle.listing_lines.specs.LineReading.{impl_read, closure_read}
use Rattle.mir_text.specs.GraphReading.{none_seen, items_under, fewer, again, heads_after}
use Rattle.mir_text.specs.HeadReading.{adt_head, trait_head, adt_of, trait_of, one_adt_head, one_trait_head, heads_within}
use Rattle.mir_text.proofs.Settling.{trait_more, are_fewer}
use Rattle.mir_text.specs.SectionReading.{ItemsSeen, onward, on_within, as_long_as, one_adt, one_trait, one_impl, one_closure, then_section}
use Rattle.mir_text.proofs.Onward.{no_more, keeps}
use Rattle.listing_lines.specs.TraitReading.{trait_read}
use Rattle.listing_parts.proofs.Splits.{split, same_found}

-- the lines of structs, enums and traits stand in front
pub record Front (items : ItemTable) (t : List ℕ) : Type 0 where
  pub rest : List ℕ
  pub is : t ≡ texts (map (line_of_adt items) items.adts) ++ (texts (map (line_of_trait items) items.traits) ++ rest)
  pub adts : Every (LineStands items) (map (line_of_adt items) items.adts)
  pub traits : Every (LineStands items) (map (line_of_trait items) items.traits)

pub spare : (a b : ℕ) → a ≤ b → (k : ℕ) × (b ≡ a + k)
spare zero b h = (b, omega arith)
spare (suc a) zero h = absurd (omega arith)
spare (suc a) (suc b) h = let deeper = spare a b (omega arith) in let same = deeper.1 in (deeper.0, omega (arith, same))

-- steps add names behind those that are there
appends : {S : Type 0} (step : S → List ℕ → FoundInText S) (names : S → List (List ℕ)) → ((s u : S) (t r : List ℕ) → step s t ≡ Some (u, r) → (more : List (List ℕ)) × (names u ≡ names s ++ more)) → (k : ℕ) (s : S) (t : List ℕ)
    → (more : List (List ℕ)) × (names (on_within k step s t).0 ≡ names s ++ more)
appends step names each zero s t = ([], sym (append-nil (names s)))
appends step names each (suc k) s t = by (step s t) refl (appends step names each k)
  where
    by : (o : FoundInText _) → step s t ≡ o → ((u : _) (r : List ℕ) → (more : List (List ℕ)) × (names (on_within k step u r).0 ≡ names u ++ more)) → (more : List (List ℕ)) × (names (onward o (on_within k step) s t).0 ≡ names s ++ more)
    by None e deeper = ([], sym (append-nil (names s)))
    by (Some f) e deeper =
        let (some, one) = each s f.0 t f.1 e in
        let (more, all) = deeper f.0 f.1 in
        (some ++ more, all ∙ ap (λ (xs : List (List ℕ)). xs ++ more) one ∙ append_assoc (names s) some more)

adt_appends : (s u : ItemTable) (t r : List ℕ) → one_adt_head s t ≡ Some (u, r) → (more : List (List ℕ)) × (adt_names u ≡ adt_names s ++ more)
adt_appends s u t r h =
    let (f, found, last) = split (adt_head t) (λ f. Some (with_adt s (adt_of f.0), f.1)) (u, r) h in
    let (own, behind) = same_found (with_adt s (adt_of f.0)) f.1 u r last in
    (f.0 ∷ [], ap adt_names (sym own) ∙ map-append (λ (adt : Adt). adt.name) s.adts (adt_of f.0 ∷ []))

trait_appends : (s u : ItemTable) (t r : List ℕ) → one_trait_head s t ≡ Some (u, r) → (more : List (List ℕ)) × (trait_names u ≡ trait_names s ++ more)
trait_appends s u t r h =
    let (f, found, last) = split (trait_head t) (λ f. Some (with_trait s (trait_of f.0), f.1)) (u, r) h in
    let (own, behind) = same_found (with_trait s (trait_of f.0)) f.1 u r last in
    (f.0 ∷ [], ap trait_names (sym own) ∙ map-append (λ (def : TraitDef). def.name) s.traits (trait_of f.0 ∷ []))

module _ (items : ItemTable) where
  own_name : (is_enum : Bool) (adt : Adt) → adt_in (adt_in_line items is_enum adt) ≡ adt.name
  own_name true adt = refl
  own_name false adt = refl

  is_own : (is_enum : Bool) (adt : Adt) → IsAdtLine (adt_in_line items is_enum adt)
  is_own true adt = tt
  is_own false adt = tt

  pub adt_heads_pass : (adts : List Adt) (s : ItemTable) → (u : ItemTable) × Passes one_adt_head (λ (x : ItemTable). length x.adts) (LineStands items) s (map (line_of_adt items) adts) u
      × (adt_names u ≡ adt_names s ++ map (λ adt. adt.name) adts) × (u.traits ≡ s.traits)
  adt_heads_pass [] s = (s, refl, sym (append-nil (adt_names s)), refl)
  adt_heads_pass (adt ∷ adts) s =
      let next : ItemTable = with_adt s (adt_of adt.name) in
      let deeper = adt_heads_pass adts next in
      let sum = length-append s.adts (adt_of adt.name ∷ []) in (
        deeper.0,
        (
          next,
          λ stands r. ap (λ (f : FoundInText (List ℕ)). bind f (λ f. Some (with_adt s (adt_of f.0), f.1)))
              (adt_head_of items (line_of_adt items adt) r (is_own adt.is_enum adt) stands ∙ ap (λ (name : List ℕ). Some (name, r)) (own_name adt.is_enum adt)),
          (let one : length next.adts ≡ suc (length s.adts) = omega (arith, sum) in one),
          deeper.1,
        ),
        deeper.2 ∙ ap (λ (xs : List (List ℕ)). xs ++ map (λ adt. adt.name) adts) (map-append (λ (adt : Adt). adt.name) s.adts (adt_of adt.name ∷ []))
            ∙ append_assoc (adt_names s) (adt.name ∷ []) (map (λ adt. adt.name) adts),
        deeper.3,
      )

  pub trait_heads_pass : (traits : List TraitDef) (s : ItemTable) → (u : ItemTable) × Passes one_trait_head (λ (x : ItemTable). length x.traits) (LineStands items) s (map (line_of_trait items) traits) u
      × (trait_names u ≡ trait_names s ++ map (λ def. def.name) traits) × (u.adts ≡ s.adts)
  trait_heads_pass [] s = (s, refl, sym (append-nil (trait_names s)), refl)
  trait_heads_pass (def ∷ traits) s =
      let next : ItemTable = with_trait s (trait_of def.name) in
      let deeper = trait_heads_pass traits next in
      let sum = length-append s.traits (trait_of def.name ∷ []) in (
        deeper.0,
        (
          next,
          λ stands r. ap (λ (f : FoundInText (List ℕ)). bind f (λ f. Some (with_trait s (trait_of f.0), f.1))) (trait_head_of items def.name _ r stands),
          (let one : length next.traits ≡ suc (length s.traits) = omega (arith, sum) in one),
          deeper.1,
        ),
        deeper.2 ∙ ap (λ (xs : List (List ℕ)). xs ++ map (λ def. def.name) traits) (map-append (λ (def : TraitDef). def.name) s.traits (trait_of def.name ∷ []))
            ∙ append_assoc (trait_names s) (def.name ∷ []) (map (λ def. def.name) traits),
        deeper.3,
      )

  -- heads, no more than at least as many as there are
  pub heads_extend : (a b : ℕ) (t : List ℕ) → Front items t → length items.adts ≤ a → length items.traits ≤ b → Extends items (heads_within a b t)
  heads_extend a b t front enough_adts enough_traits =
      let passes = adt_heads_pass items.adts no_items in
      let count = length_map (line_of_adt items) items.adts in
      let room = spare (length (map (line_of_adt items) items.adts)) a (omega (arith, count, enough_adts)) in
      let behind : List ℕ = texts (map (line_of_trait items) items.traits) ++ front.rest in
      let first : on_within a one_adt_head no_items t ≡ on_within room.0 one_adt_head passes.0 behind =
      ap (on_within a one_adt_head no_items) front.is
      ∙ through one_adt_head (λ (x : ItemTable). length x.adts) (LineStands items) (map (line_of_adt items) items.adts) no_items passes.0 a room.0 behind front.adts room.1 passes.1 in
      by room.0 passes.0 passes.2 passes.3 first items.traits refl
    where
      by : (k : ℕ) (u : ItemTable) → adt_names u ≡ [] ++ map (λ (adt : Adt). adt.name) items.adts → u.traits ≡ []
          → on_within a one_adt_head no_items t ≡ on_within k one_adt_head u (texts (map (line_of_trait items) items.traits) ++ front.rest)
          → (traits : List TraitDef) → items.traits ≡ traits → Extends items (heads_within a b t)
      by k u names none first [] same =
          let q : ItemTable × List ℕ = on_within a one_adt_head no_items t in
          let (more, all) = appends one_adt_head adt_names adt_appends k u (texts (map (line_of_trait items) items.traits) ++ front.rest) in
          let kept = keeps one_trait_head (λ (x : ItemTable). x.adts) (λ s u t r h. (trait_more s u t r h).1) b q.0 q.1 in
          record {
            adts = more;
            adts_are = ap (map (λ (adt : Adt). adt.name)) kept ∙ ap (λ (q : ItemTable × List ℕ). adt_names q.0) first ∙ all ∙ ap (λ (xs : List (List ℕ)). xs ++ more) names;
            traits = trait_names (heads_within a b t);
            traits_are = ap (λ (ds : List TraitDef). map (λ (def : TraitDef). def.name) ds ++ trait_names (heads_within a b t)) (sym same);
          }
      by k u names none first (def ∷ traits) same =
          let behind : List ℕ = texts (map (line_of_trait items) items.traits) ++ front.rest in
          let at : behind ≡ line (line_text (line_of_trait items def)) ++ (texts (map (line_of_trait items) traits) ++ front.rest) =
          ap (λ (ds : List TraitDef). texts (map (line_of_trait items) ds) ++ front.rest) same
          ∙ append_assoc (line (line_text (line_of_trait items def))) (texts (map (line_of_trait items) traits)) front.rest in
          let stop : one_adt_head u behind ≡ None =
          ap (λ (f : FoundInText (List ℕ)). bind f (λ f. Some (with_adt u (adt_of f.0), f.1))) (ap adt_head at ∙ no_adt_head_at (line_of_trait items def) tt (texts (map (line_of_trait items) traits) ++ front.rest)) in
          let ended : on_within a one_adt_head no_items t ≡ (u, behind) = first ∙ no_more one_adt_head k u behind stop in
          let passes = trait_heads_pass items.traits u in
          let count = length_map (line_of_trait items) items.traits in
          let room = spare (length (map (line_of_trait items) items.traits)) b (omega (arith, count, enough_traits)) in
          let heads_are : heads_within a b t ≡ (on_within room.0 one_trait_head passes.0 front.rest).0 =
          ap (λ (q : ItemTable × List ℕ). (on_within b one_trait_head q.0 q.1).0) ended
          ∙ ap (λ (q : ItemTable × List ℕ). q.0) (through one_trait_head (λ (x : ItemTable). length x.traits) (LineStands items) (map (line_of_trait items) items.traits) u passes.0 b room.0 front.rest front.traits room.1 passes.1) in
          let (more, all) = appends one_trait_head trait_names trait_appends room.0 passes.0 front.rest in
          let kept = keeps one_trait_head (λ (x : ItemTable). x.adts) (λ s u t r h. (trait_more s u t r h).1) room.0 passes.0 front.rest in
          record {
            adts = [];
            adts_are =
                ap adt_names heads_are ∙ ap (map (λ (adt : Adt). adt.name)) (kept ∙ passes.3) ∙ names ∙ sym (append-nil (adt_names items));
            traits = more;
            traits_are =
                ap trait_names heads_are ∙ all
                ∙ ap (λ (xs : List (List ℕ)). xs ++ more) (passes.2 ∙ ap (λ (ds : List TraitDef). map (λ (def : TraitDef). def.name) ds ++ trait_names items) none);
          }

-- a section leaves the others as they are
trait_leaves : (heads : ItemTable) (s u : ItemsSeen) (t r : List ℕ) → one_trait heads s t ≡ Some (u, r) → u.adts ≡ s.adts
trait_leaves heads s u t r h =
    let (f, found, last) = split (trait_read heads (length s.traits) t) (λ f. Some (record s { traits = s.traits ++ f.0 ∷ [] }, f.1)) (u, r) h in
    ap (λ (x : ItemsSeen). x.adts) (sym (same_found (record s { traits = s.traits ++ f.0 ∷ [] }) f.1 u r last).0)

impl_leaves : {X : Type 0} (part : ItemsSeen → X) → ((s : ItemsSeen) (ys : List ImplDef) → part (record s { impls = ys }) ≡ part s) → (heads : ItemTable) (s u : ItemsSeen) (t r : List ℕ) → one_impl heads s t ≡ Some (u, r) → part u ≡ part s
impl_leaves part same heads s u t r h =
    let (f, found, last) = split (impl_read heads t) (λ f. Some (record s { impls = s.impls ++ f.0 ∷ [] }, f.1)) (u, r) h in
    ap part (sym (same_found (record s { impls = s.impls ++ f.0 ∷ [] }) f.1 u r last).0) ∙ same s (s.impls ++ f.0 ∷ [])

closure_leaves : {X : Type 0} (part : ItemsSeen → X) → ((s : ItemsSeen) (ys : List (List Written × ℕ)) → part (record s { closures = ys }) ≡ part s) → (heads : ItemTable) (s u : ItemsSeen) (t r : List ℕ) → one_closure heads s t ≡ Some (u, r) → part u ≡ part s
closure_leaves part same heads s u t r h =
    let (f, found, last) = split (closure_read heads (length s.closures) t) (λ f. Some (record s { closures = s.closures ++ f.0 ∷ [] }, f.1)) (u, r) h in
    ap part (sym (same_found (record s { closures = s.closures ++ f.0 ∷ [] }) f.1 u r last).0) ∙ same s (s.closures ++ f.0 ∷ [])

module _ (heads : ItemTable) (t : List ℕ) where
  abbrev pub after_adts : ItemsSeen × List ℕ
  after_adts = then_section heads (one_adt heads) (none_seen, t)

  abbrev pub after_traits : ItemsSeen × List ℕ
  after_traits = then_section heads (one_trait heads) after_adts

  abbrev pub after_impls : ItemsSeen × List ℕ
  after_impls = then_section heads (one_impl heads) after_traits

  pub adts_stay : (items_under heads t).0.adts ≡ after_adts.0.adts
  adts_stay =
      keeps (one_closure heads) (λ (x : ItemsSeen). x.adts) (closure_leaves (λ (x : ItemsSeen). x.adts) (λ s ys. refl) heads) (length after_impls.1) after_impls.0 after_impls.1
      ∙ keeps (one_impl heads) (λ (x : ItemsSeen). x.adts) (impl_leaves (λ (x : ItemsSeen). x.adts) (λ s ys. refl) heads) (length after_traits.1) after_traits.0 after_traits.1
      ∙ keeps (one_trait heads) (λ (x : ItemsSeen). x.adts) (trait_leaves heads) (length after_adts.1) after_adts.0 after_adts.1

  pub traits_stay : (items_under heads t).0.traits ≡ after_traits.0.traits
  traits_stay =
      keeps (one_closure heads) (λ (x : ItemsSeen). x.traits) (closure_leaves (λ (x : ItemsSeen). x.traits) (λ s ys. refl) heads) (length after_impls.1) after_impls.0 after_impls.1
      ∙ keeps (one_impl heads) (λ (x : ItemsSeen). x.traits) (impl_leaves (λ (x : ItemsSeen). x.traits) (λ s ys. refl) heads) (length after_traits.1) after_traits.0 after_traits.1

-- under such heads as many are read
module _ (items heads : ItemTable) (x : Extends items heads) (t : List ℕ) (front : Front items t) where
  abbrev count_adts : ItemsSeen → ℕ
  count_adts s = length s.adts

  abbrev count_traits : ItemsSeen → ℕ
  count_traits s = length s.traits

  adds_adt : (s : ItemsSeen) (y : AdtSeen) → count_adts (record s { adts = s.adts ++ y ∷ [] }) ≡ suc (count_adts s)
  adds_adt s y = let sum = length-append s.adts (y ∷ []) in omega (arith, sum)

  adds_trait : (s : ItemsSeen) (y : List ℕ × List SigSeen) → count_traits (record s { traits = s.traits ++ y ∷ [] }) ≡ suc (count_traits s)
  adds_trait s y = let sum = length-append s.traits (y ∷ []) in omega (arith, sum)

  behind : List ℕ
  behind = texts (map (line_of_trait items) items.traits) ++ front.rest

  room_adts : length (map (line_of_adt items) items.adts) ≤ length t
  room_adts =
      let long = texts_long (map (line_of_adt items) items.adts) in
      let sum = ap length front.is ∙ length-append (texts (map (line_of_adt items) items.adts)) (texts (map (line_of_trait items) items.traits) ++ front.rest) in
      omega (arith, long, sum)

  pub adts_enough : length items.adts ≤ length (items_under heads t).0.adts
  adts_enough =
      let passes = adts_pass items heads x count_adts adds_adt items.adts none_seen in
      let rest = spare (length (map (line_of_adt items) items.adts)) (length t) room_adts in
      let u : List ℕ = texts (map (line_of_trait items) items.traits) ++ front.rest in
      let read : after_adts heads t ≡ on_within rest.0 (one_adt heads) passes.0 u =
      ap (on_within (length t) (one_adt heads) none_seen) front.is
      ∙ through (one_adt heads) count_adts (LineStands items) (map (line_of_adt items) items.adts) none_seen passes.0 (length t) rest.0 u front.adts rest.1 passes.1 in
      let own = counted_so (one_adt heads) count_adts (LineStands items) (map (line_of_adt items) items.adts) none_seen passes.0 passes.1 in
      let least = never_less (one_adt heads) count_adts (LineStands items) (adts_grow items heads x count_adts adds_adt) rest.0 passes.0 u in
      let same = ap (λ (q : ItemsSeen × List ℕ). length q.0.adts) read in
      let stay = ap length (adts_stay heads t) in
      let count = length_map (line_of_adt items) items.adts in
      omega (arith, own, least, same, stay, count)

  pub traits_enough : length items.traits ≤ length (items_under heads t).0.traits
  traits_enough = by items.traits refl
    where
      by : (traits : List TraitDef) → items.traits ≡ traits → length items.traits ≤ length (items_under heads t).0.traits
      by [] same = let none = ap length same in omega (arith, none)
      by (def ∷ traits) same =
          let passes = adts_pass items heads x count_adts adds_adt items.adts none_seen in
          let rest = spare (length (map (line_of_adt items) items.adts)) (length t) room_adts in
          let u : List ℕ = texts (map (line_of_trait items) items.traits) ++ front.rest in
          let at : u ≡ line (line_text (line_of_trait items def)) ++ (texts (map (line_of_trait items) traits) ++ front.rest) =
          ap (λ (ds : List TraitDef). texts (map (line_of_trait items) ds) ++ front.rest) same
          ∙ append_assoc (line (line_text (line_of_trait items def))) (texts (map (line_of_trait items) traits)) front.rest in
          let stop : one_adt heads passes.0 u ≡ None = ap (one_adt heads passes.0) at ∙ no_adt_at heads (line_of_trait items def) tt passes.0 (texts (map (line_of_trait items) traits) ++ front.rest) in
          let read : after_adts heads t ≡ (passes.0, u) =
          ap (on_within (length t) (one_adt heads) none_seen) front.is
          ∙ through (one_adt heads) count_adts (LineStands items) (map (line_of_adt items) items.adts) none_seen passes.0 (length t) rest.0 u front.adts rest.1 passes.1
          ∙ no_more (one_adt heads) rest.0 passes.0 u stop in
          let due : 0 ≡ length passes.0.traits = sym (ap length passes.2) in
          let next = traits_pass items heads x count_traits adds_trait items.traits [] passes.0 refl due in
          let long = texts_long (map (line_of_trait items) items.traits) in
          let sum = length-append (texts (map (line_of_trait items) items.traits)) front.rest in
          let more = spare (length (map (line_of_trait items) items.traits)) (length u) (omega (arith, long, sum)) in
          let second : after_traits heads t ≡ on_within more.0 (one_trait heads) next.0 front.rest =
          ap (λ (q : ItemsSeen × List ℕ). as_long_as (one_trait heads) q.0 q.1) read
          ∙ through (one_trait heads) count_traits (LineStands items) (map (line_of_trait items) items.traits) passes.0 next.0 (length u) more.0 front.rest front.traits more.1 next.1 in
          let own = counted_so (one_trait heads) count_traits (LineStands items) (map (line_of_trait items) items.traits) passes.0 next.0 next.1 in
          let least = never_less (one_trait heads) count_traits (LineStands items) (traits_grow items heads x count_traits adds_trait) more.0 next.0 front.rest in
          let same_count = ap (λ (q : ItemsSeen × List ℕ). length q.0.traits) second in
          let stay = ap length (traits_stay heads t) in
          let count = length_map (line_of_trait items) items.traits in
          omega (arith, own, least, same_count, stay, count)

-- each round
pub rounds_extend : (items : ItemTable) (t : List ℕ) → Front items t → (n : ℕ) → Extends items (heads_after n t)
rounds_extend items t front zero =
    let adts = texts_long (map (line_of_adt items) items.adts) in
    let traits = texts_long (map (line_of_trait items) items.traits) in
    let count = length_map (line_of_adt items) items.adts in
    let count_more = length_map (line_of_trait items) items.traits in
    let sum = ap length front.is ∙ length-append (texts (map (line_of_adt items) items.adts)) (texts (map (line_of_trait items) items.traits) ++ front.rest) in
    let sum_more = length-append (texts (map (line_of_trait items) items.traits)) front.rest in
    heads_extend items (length t) (length t) t front (omega (arith, adts, count, sum)) (omega (arith, traits, count_more, sum, sum_more))
rounds_extend items t front (suc n) = by (fewer (heads_after n t) (items_under (heads_after n t) t).0) refl (rounds_extend items t front n)
  where
    by : (o : Option (ℕ × ℕ)) → fewer (heads_after n t) (items_under (heads_after n t) t).0 ≡ o → Extends items (heads_after n t) → Extends items (again t (heads_after n t) o)
    by None e x = x
    by (Some counts) e x =
        let heads : ItemTable = heads_after n t in
        let seen : ItemsSeen = (items_under heads t).0 in
        let (less, adts, traits) = are_fewer (length seen.adts) (length heads.adts) (length seen.traits) (length heads.traits) counts e in
        let own_adts = no_fewer_adts items heads x in
        let own_traits = no_fewer_traits items heads x in
        let seen_adts = adts_enough items heads x t front in
        let seen_traits = traits_enough items heads x t front in
        heads_extend items counts.0 counts.1 t front (omega (arith, adts, own_adts, seen_adts)) (omega (arith, traits, own_traits, seen_traits))
