-- The items that are read under settled heads have the names of these at their front.
use Rattle.std.proofs.Common.{◌≡◌, ℕ, zero, suc, ◌+◌, ◌≤◌, true, List, [], ◌∷◌, ◌++◌, map, length, codes, Option, Some, None, decimal, slice_get, refl, ap, sym, subst, ◌∙◌, arith, append_assoc, append-nil, length-append, inl, inr}
use Rattle.std.specs.Prelude.{◌⊎◌}
use Rattle.std.proofs.lemmas.List.{map-append}
use Rattle.std.proofs.lemmas.Option.{same_Some, none-some}
use Rattle.mir_ty.specs.declared.adt.Adt.{Adt}
use Rattle.mir_ty.specs.declared.def.TraitDef.{TraitDef}
use Rattle.mir_ty.specs.declared.ty.Ty.{Ty}
use Rattle.mir_ty.specs.declared.ty.TyId.{TyId}
use Rattle.mir_ty.specs.ItemTable.{ItemTable, no_items, type_at, with_adt, with_trait}
use Rattle.mir_ty.specs.Named.{adt_name, name_of_adt}
use Rattle.listing_write.specs.Items.{counted}
use Rattle.listing_write.specs.Reading.Words.{FoundInText, or_else, strip}
use Rattle.listing_write.specs.Types.{form_text, found_text, type_within, type_text, deepest, trait_name, name_of_trait}
use Rattle.listing_write.proofs.Reading.Basics.{Every}
use Rattle.mir_text.proofs.Free.{feedless, AllFree, both_free, name_free, decimal_free, tuple_free, kind_free, array_free, box_free}
use Rattle.mir_text.proofs.Named.{adt_names, trait_names, length_map}
use Rattle.mir_text.proofs.Sections.{every_joined}
use Rattle.listing_lines.specs.ItemReading.{blank_name, blank_behind}
use Rattle.listing_lines.specs.LineReading.{name_read}
use Rattle.listing_lines.proofs.Sound.{name_sound}
use Rattle.mir_text.specs.HeadReading.{behind_feed, named_line, adt_head, trait_head, adt_of, trait_of, one_adt_head, one_trait_head, heads_within}
use Rattle.mir_text.specs.SectionReading.{onward, on_within}
use Rattle.mir_text.proofs.Onward.{one_more, keeps}
use Rattle.mir_text.proofs.Settling.{adt_more, trait_more}
use Rattle.listing_parts.specs.Table.{under, text_under}
use Rattle.listing_parts.proofs.Complete.{name_all}
use Rattle.listing_parts.proofs.Splits.{split, same_found}

-- the names of heads have no line feed
line_name : (t name r : List ℕ) → named_line t ≡ Some (name, r) → feedless name ≡ true
line_name t name r h =
    let (f, found, last) = split (blank_name t) (λ f. Some (f.0, behind_feed f.1)) (name, r) h in
    let (q, called, more) = split (name_read t) blank_behind f found in
    let (u, blank, made) = split (strip (codes " ") q.1) (λ r. Some (q.0, r)) f more in
    let one : q.0 ≡ f.0 = ap (λ (f : List ℕ × List ℕ). f.0) (same_pair (q.0, u) f made) in
    let two : f.0 ≡ name = (same_found f.0 (behind_feed f.1) name r last).0 in
    let (is, named, utf) = name_sound t q.0 q.1 called in
    subst (λ (w : List ℕ). feedless w ≡ true) (one ∙ two) (name_free q.0 (name_all q.0 named))
  where
    same_pair : (a b : List ℕ × List ℕ) → ◌≡◌ {A = FoundInText (List ℕ)} (Some a) (Some b) → a ≡ b
    same_pair a b e = same_Some a b e

steps_free : (step : ItemTable → List ℕ → FoundInText ItemTable) (names : ItemTable → List (List ℕ)) → ((s u : ItemTable) (t r : List ℕ) → step s t ≡ Some (u, r) → AllFree (names s) → AllFree (names u)) → (k : ℕ) (s : ItemTable) (t : List ℕ)
    → AllFree (names s) → AllFree (names (on_within k step s t).0)
steps_free step names each zero s t h = h
steps_free step names each (suc k) s t h = by (step s t) refl (steps_free step names each k)
  where
    by : (o : FoundInText ItemTable) → step s t ≡ o → ((u : ItemTable) (r : List ℕ) → AllFree (names u) → AllFree (names (on_within k step u r).0)) → AllFree (names (onward o (on_within k step) s t).0)
    by None e deeper = h
    by (Some f) e deeper = deeper f.0 f.1 (each s f.0 t f.1 e h)

adt_step_free : (s u : ItemTable) (t r : List ℕ) → one_adt_head s t ≡ Some (u, r) → AllFree (adt_names s) → AllFree (adt_names u)
adt_step_free s u t r h free =
    let (f, found, last) = split (adt_head t) (λ f. Some (with_adt s (adt_of f.0), f.1)) (u, r) h in
    let (v, word, line_at) = split (or_else (strip (codes "struct ") t) (strip (codes "enum ") t)) named_line f found in
    let (own, behind) = same_found (with_adt s (adt_of f.0)) f.1 u r last in
    subst (λ (x : ItemTable). AllFree (adt_names x)) own
    (subst AllFree (sym (map-append (λ (adt : Adt). adt.name) s.adts (adt_of f.0 ∷ []))) (every_joined (λ w. feedless w ≡ true) (adt_names s) (f.0 ∷ []) free (line_name v f.0 f.1 line_at, tt)))

trait_step_free : (s u : ItemTable) (t r : List ℕ) → one_trait_head s t ≡ Some (u, r) → AllFree (trait_names s) → AllFree (trait_names u)
trait_step_free s u t r h free =
    let (f, found, last) = split (trait_head t) (λ f. Some (with_trait s (trait_of f.0), f.1)) (u, r) h in
    let (v, word, line_at) = split (strip (codes "trait ") t) named_line f found in
    let (own, behind) = same_found (with_trait s (trait_of f.0)) f.1 u r last in
    subst (λ (x : ItemTable). AllFree (trait_names x)) own
    (subst AllFree (sym (map-append (λ (def : TraitDef). def.name) s.traits (trait_of f.0 ∷ []))) (every_joined (λ w. feedless w ≡ true) (trait_names s) (f.0 ∷ []) free (line_name v f.0 f.1 line_at, tt)))

pub record HaveFree (heads : ItemTable) : Type 0 where
  pub adts : AllFree (adt_names heads)
  pub traits : AllFree (trait_names heads)

pub heads_free : (a b : ℕ) (t : List ℕ) → HaveFree (heads_within a b t)
heads_free a b t =
    let q : ItemTable × List ℕ = on_within a one_adt_head no_items t in
    let kept = keeps one_trait_head (λ (x : ItemTable). x.adts) (λ s u t r h. (trait_more s u t r h).1) b q.0 q.1 in
    let none : q.0.traits ≡ [] = keeps one_adt_head (λ (x : ItemTable). x.traits) (λ s u t r h. (adt_more s u t r h).1) a no_items t in
    record {
      adts = subst (λ (ads : List Adt). AllFree (map (λ (adt : Adt). adt.name) ads)) (sym kept) (steps_free one_adt_head adt_names adt_step_free a no_items t tt);
      traits = steps_free one_trait_head trait_names trait_step_free b q.0 q.1 (subst (λ (ds : List TraitDef). AllFree (map (λ (def : TraitDef). def.name) ds)) (sym none) tt);
    }

name_at : {X : Type 0} (f : X → List ℕ) (xs : List X) (n : ℕ) → AllFree (map f xs) → (o : Option X) → slice_get xs n ≡ o → (name : Option X → List ℕ) → name None ≡ [] → ((x : X) → name (Some x) ≡ f x) → feedless (name o) ≡ true
name_at f xs n free None e name none some = ap feedless none
name_at f [] n free (Some x) e name none some = absurd (none-some x e)
name_at f (y ∷ xs) zero free (Some x) e name none some = ap feedless (some x ∙ ap f (sym (same_Some y x e))) ∙ free.0
name_at f (y ∷ xs) (suc n) free (Some x) e name none some = name_at f xs n free.1 (Some x) e name none some

-- so the types that are written under them have none
module _ (heads items : ItemTable) (h : HaveFree heads) where
  adt_free : (n : ℕ) → feedless (adt_name heads n) ≡ true
  adt_free n = name_at (λ (adt : Adt). adt.name) heads.adts n h.adts (slice_get heads.adts n) refl name_of_adt refl (λ x. refl)

  trait_free : (n : ℕ) → feedless (trait_name heads n) ≡ true
  trait_free n = name_at (λ (def : TraitDef). def.name) heads.traits n h.traits (slice_get heads.traits n) refl name_of_trait refl (λ x. refl)

  parts_free : (inner : TyId → List ℕ) → ((id : TyId) → feedless (inner id) ≡ true) → (ids : List TyId) → AllFree (map inner ids)
  parts_free inner all [] = tt
  parts_free inner all (id ∷ ids) = (all id, parts_free inner all ids)

  form_free : (inner : TyId → List ℕ) → ((id : TyId) → feedless (inner id) ≡ true) → (ty : Ty) → feedless (form_text (under heads items) inner ty) ≡ true
  form_free inner all (Ty.Int kind) = kind_free kind
  form_free inner all Ty.Bool = refl
  form_free inner all Ty.Unit = refl
  form_free inner all Ty.Never = refl
  form_free inner all (Ty.Adt n) = adt_free n
  form_free inner all (Ty.Tuple parts) = tuple_free (map inner parts) (parts_free inner all parts)
  form_free inner all (Ty.Array element count) = array_free (inner element) count (all element)
  form_free inner all (Ty.Boxed inside) = box_free (inner inside) (all inside)
  form_free inner all (Ty.Dyn n) = both_free (codes "dyn ") (trait_name heads n) refl (trait_free n)
  form_free inner all (Ty.Shared to) = both_free (codes "&") (inner to) refl (all to)
  form_free inner all (Ty.Unique to) = both_free (codes "&mut ") (inner to) refl (all to)
  form_free inner all (Ty.Closure n) = both_free (codes "closure#") (decimal n) refl (decimal_free n)

  within_free : (d : ℕ) (id : TyId) → feedless (type_within (under heads items) d id) ≡ true
  within_free zero id = refl
  within_free (suc d) id = by (type_at items id) (within_free d)
    where
      by : (o : Option Ty) → ((part : TyId) → feedless (type_within (under heads items) d part) ≡ true) → feedless (found_text (under heads items) (type_within (under heads items) d) o) ≡ true
      by None deeper = refl
      by (Some ty) deeper = form_free (type_within (under heads items) d) deeper ty

  pub word_free : (id : TyId) → feedless (text_under heads items id) ≡ true
  unfolding type_text
  word_free id = within_free deepest id

  pub words_free : (ids : List TyId) → AllFree (map (text_under heads items) ids)
  words_free [] = tt
  words_free (id ∷ ids) = (word_free id, words_free ids)

-- heads that are found in lines that were read
module _ {X : Type 0} (step : ItemTable → List ℕ → FoundInText ItemTable) (names : ItemTable → List (List ℕ)) (text : X → List ℕ) (name : X → List ℕ) (V : X → Type 0)
    (found : (s : ItemTable) (x : X) (r : List ℕ) → V x → (u : ItemTable) × (step s (text x ++ r) ≡ Some (u, r)) × (names u ≡ names s ++ name x ∷ []))
    (each : (s u : ItemTable) (t r : List ℕ) → step s t ≡ Some (u, r) → length (names u) ≡ length (names s) + 1) where
  abbrev all_text : List X → List ℕ
  all_text xs = counted (λ n. text) 0 xs

  text_from : (n m : ℕ) (xs : List X) → counted (λ (n : ℕ). text) n xs ≡ counted (λ (n : ℕ). text) m xs
  text_from n m [] = refl
  text_from n m (x ∷ xs) = ap (λ (w : List ℕ). text x ++ w) (text_from (suc n) (suc m) xs)

  -- the heads are the first of these, or all of them, and more behind
  pub record SomeOf (s : ItemTable) (xs : List X) (r : List ℕ) (q : ItemTable × List ℕ) : Type 0 where
    pub first : List X
    pub others : List X
    pub are : xs ≡ first ++ others
    pub named : names q.0 ≡ names s ++ map name first
    pub rest : q.1 ≡ counted (λ n. text) 0 others ++ r

  pub record AllOf (s : ItemTable) (xs : List X) (r : List ℕ) (q : ItemTable × List ℕ) : Type 0 where
    pub heads : ItemTable
    pub fuel : ℕ
    pub named : names heads ≡ names s ++ map name xs
    pub more : Path (ItemTable × List ℕ) q (on_within fuel step heads r)

  pub align : (xs : List X) (a : ℕ) (s : ItemTable) (t r : List ℕ) → Every V xs → t ≡ counted (λ n. text) 0 xs ++ r → SomeOf s xs r (on_within a step s t) ⊎ AllOf s xs r (on_within a step s t)
  align xs zero s t r valid is = inl (record { first = []; others = xs; are = refl; named = sym (append-nil (names s)); rest = is })
  align [] (suc a) s t r valid is = inr (record { heads = s; fuel = suc a; named = sym (append-nil (names s)); more = ap (on_within (suc a) step s) is })
  align (x ∷ xs) (suc a) s t r valid is =
      let (u, one, added) = found s x (counted (λ (n : ℕ). text) 0 xs ++ r) valid.0 in
      let split : t ≡ text x ++ (counted (λ (n : ℕ). text) 0 xs ++ r) = is ∙ append_assoc (text x) (counted (λ (n : ℕ). text) 1 xs) r ∙ ap (λ (w : List ℕ). text x ++ (w ++ r)) (text_from 1 0 xs) in
      let next : on_within (suc a) step s t ≡ on_within a step u (counted (λ (n : ℕ). text) 0 xs ++ r) = one_more step (suc a) a s u t (counted (λ (n : ℕ). text) 0 xs ++ r) refl (ap (step s) split ∙ one) in
      let grown : (ws : List (List ℕ)) → names u ++ ws ≡ names s ++ (name x ∷ ws) = λ ws. ap (λ (ns : List (List ℕ)). ns ++ ws) added ∙ append_assoc (names s) (name x ∷ []) ws in
      by (on_within (suc a) step s t) (on_within a step u (counted (λ (n : ℕ). text) 0 xs ++ r)) next grown (align xs a u (counted (λ (n : ℕ). text) 0 xs ++ r) r valid.1 refl)
    where
      by : {u : ItemTable} (p q : ItemTable × List ℕ) → p ≡ q → ((ws : List (List ℕ)) → names u ++ ws ≡ names s ++ (name x ∷ ws)) → SomeOf u xs r q ⊎ AllOf u xs r q → SomeOf s (x ∷ xs) r p ⊎ AllOf s (x ∷ xs) r p
      by p q e grown (inl h) = inl (record {
        first = x ∷ h.first;
        others = h.others;
        are = ap (λ (ys : List X). x ∷ ys) h.are;
        named = ap (λ (q : ItemTable × List ℕ). names q.0) e ∙ h.named ∙ grown (map name h.first);
        rest = ap (λ (q : ItemTable × List ℕ). q.1) e ∙ h.rest;
      })
      by p q e grown (inr h) = inr (record { heads = h.heads; fuel = h.fuel; named = h.named ∙ grown (map name xs); more = e ∙ h.more })

  -- no more heads
  no_less : (k : ℕ) (s : ItemTable) (t : List ℕ) → length (names s) ≤ length (names (on_within k step s t).0)
  no_less zero s t = omega arith
  no_less (suc k) s t = by (step s t) refl (no_less k)
    where
      by : (o : FoundInText ItemTable) → step s t ≡ o → ((u : ItemTable) (r : List ℕ) → length (names u) ≤ length (names (on_within k step u r).0)) → length (names s) ≤ length (names (onward o (on_within k step) s t).0)
      by None e deeper = omega arith
      by (Some f) e deeper = let one = each s f.0 t f.1 e in let more = deeper f.0 f.1 in omega (arith, one, more)

  stays : (k : ℕ) (s : ItemTable) (t : List ℕ) → length (names (on_within k step s t).0) ≤ length (names s) → Path (ItemTable × List ℕ) (on_within k step s t) (s, t)
  stays zero s t h = refl
  stays (suc k) s t h = by (step s t) refl h
    where
      by : (o : FoundInText ItemTable) → step s t ≡ o → length (names (onward o (on_within k step) s t).0) ≤ length (names s) → Path (ItemTable × List ℕ) (onward o (on_within k step) s t) (s, t)
      by None e h = refl
      by (Some f) e h = let one = each s f.0 t f.1 e in let more = no_less k f.0 f.1 in absurd (omega (arith, one, more, h))

  -- no more than there are: then they are the first of them
  pub first_of_all : (xs : List X) (a : ℕ) (s : ItemTable) (t r : List ℕ) → Every V xs → t ≡ counted (λ n. text) 0 xs ++ r → length (names (on_within a step s t).0) ≤ length (names s) + length xs → SomeOf s xs r (on_within a step s t)
  first_of_all xs a s t r valid is few = by (align xs a s t r valid is)
    where
      by : SomeOf s xs r (on_within a step s t) ⊎ AllOf s xs r (on_within a step s t) → SomeOf s xs r (on_within a step s t)
      by (inl h) = h
      by (inr h) =
          let count = ap length h.named ∙ length-append (names s) (map name xs) in
          let own = length_map name xs in
          let same = ap (λ (q : ItemTable × List ℕ). length (names q.0)) h.more in
          let end = h.more ∙ stays h.fuel h.heads r (omega (arith, count, own, same, few)) in
          record {
            first = xs;
            others = [];
            are = sym (append-nil xs);
            named = ap (λ (q : ItemTable × List ℕ). names q.0) end ∙ h.named;
            rest = ap (λ (q : ItemTable × List ℕ). q.1) end;
          }
