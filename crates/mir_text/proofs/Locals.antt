-- Locals that are read into the table.
use Rattle.std.proofs.Common.{◌≡◌, ℕ, suc, ◌<◌, List, [], ◌∷◌, ◌++◌, map, length, Some, None, refl, ap, sym, subst, ◌∙◌, arith}
use Rattle.std.specs.Prelude.{Ok, Err}
use Rattle.std.specs.Borrow.{Bor}
use Rattle.std.proofs.lemmas.List.{length-append}
use Rattle.mir_ty.specs.declared.ty.TyId.{TyId}
use Rattle.mir_ty.specs.AreItems.{AreTypes}
use Rattle.mir_ty.specs.ItemTable.{ItemTable}
use Rattle.listing_write.specs.Compared.{Written}
use Rattle.listing_write.specs.Reading.Words.{FoundInText, bind}
use Rattle.listing_lines.specs.LineReading.{local_read}
use Rattle.listing_parts.specs.Table.{AreRead, Grow, text_under}
use Rattle.listing_parts.proofs.FoundRows.{map-append, still_types, then_grow, one_more_type}
use Rattle.listing_parts.proofs.Texts.{every_from_all, texts_grown, same_types}
use Rattle.mir_text.specs.BodyReading.{one_local, locals_read}
use Rattle.mir_text.specs.BodiesRead.{FindsLocals}
use Rattle.mir_text.specs.SectionReading.{on_within}
use Rattle.mir_text.proofs.Onward.{one_more, no_more, all_gone}

length_map : {X Z : Type 0} (f : X → Z) (xs : List X) → length (map f xs) ≡ length xs
length_map f [] = refl
length_map f (x ∷ xs) = ap suc (length_map f xs)

module _ (heads : ItemTable) where
  pub record SoFar (initial cur : ItemTable) (n fuel : ℕ) (locals : List TyId) (text rest : List ℕ) : Type 0 where
    pub left : locals_read heads text ≡ on_within fuel (one_local heads) (map (text_under heads cur) locals) rest
    pub within : AreTypes cur.types locals
    pub grow : Grow heads initial cur
    pub due : n ≡ length locals

  pub begins : (initial : ItemTable) (text : List ℕ) (fuel : ℕ) (locals : List TyId) → locals ≡ [] → fuel ≡ length text → AreRead heads initial.types → SoFar initial initial 0 fuel locals text text
  begins initial text fuel locals none e read = record {
    left = (λ i. on_within (sym e i) (one_local heads) (map (text_under heads initial) (sym none i)) text);
    within = subst (AreTypes initial.types) (sym none) (λ k x lt. absurd (omega arith));
    grow = record { types = read; others = same_types initial };
    due = sym (ap length none);
  }

  module _ (cur new : ItemTable) (locals : List TyId) (within : AreTypes cur.types locals) (read : AreRead heads cur.types) (grow : Grow heads cur new) where
    pub texts_stay : map (text_under heads new) locals ≡ map (text_under heads cur) locals
    texts_stay = texts_grown heads cur new read grow.others locals (every_from_all (λ (id : TyId). id.0 < length cur.types) locals within)

  one_found : (s : List Written) (n : ℕ) (t : List ℕ) (w r : List ℕ) → n ≡ length s → local_read heads n t ≡ Some (w, r) → one_local heads s t ≡ Some (s ++ w ∷ [], r)
  one_found s n t w r due h =
      ap (λ (f : FoundInText (List ℕ)). bind f (λ f. Some (s ++ f.0 ∷ [], f.1))) (ap (λ (k : ℕ). local_read heads k t) (sym due) ∙ h)

  none_found : (s : List Written) (n : ℕ) (t : List ℕ) → n ≡ length s → local_read heads n t ≡ None → one_local heads s t ≡ None
  none_found s n t due h =
      ap (λ (f : FoundInText (List ℕ)). bind f (λ f. Some (s ++ f.0 ∷ [], f.1))) (ap (λ (k : ℕ). local_read heads k t) (sym due) ∙ h)

  pub goes_on : (initial cur new : ItemTable) (n m fuel k : ℕ) (locals more : List TyId) (id : TyId) (text rest behind : List ℕ) → fuel ≡ suc k → m ≡ suc n → SoFar initial cur n fuel locals text rest
      → Grow heads cur new → id.0 < length new.types → local_read heads n rest ≡ Some (text_under heads new id, behind) → more ≡ locals ++ id ∷ []
      → SoFar initial new m k more text behind
  goes_on initial cur new n m fuel k locals more id text rest behind e next s grow there found pushed =
      let s_cur : List Written = map (text_under heads cur) locals in
      let due : n ≡ length s_cur = s.due ∙ sym (length_map (text_under heads cur) locals) in
      let step = one_more (one_local heads) fuel k s_cur (s_cur ++ text_under heads new id ∷ []) rest behind e (one_found s_cur n rest (text_under heads new id) behind due found) in
      let same : s_cur ++ text_under heads new id ∷ [] ≡ map (text_under heads new) more =
      ap (λ (ws : List Written). ws ++ text_under heads new id ∷ []) (sym (texts_stay cur new locals s.within s.grow.types grow))
      ∙ sym (map-append (text_under heads new) locals (id ∷ [])) ∙ ap (map (text_under heads new)) (sym pushed) in
      record {
        left = s.left ∙ step ∙ ap (λ (ws : List Written). on_within k (one_local heads) ws behind) same;
        within = subst (AreTypes new.types) (sym pushed) (one_more_type new.types locals id (still_types heads cur new locals grow s.within) there);
        grow = then_grow heads initial cur new s.grow grow;
        due = let count = length-append locals (id ∷ []) in let all = ap length pushed in let own = s.due in omega (arith, count, all, own, next);
      }

  pub stops : (initial cur new : ItemTable) (n fuel : ℕ) (locals : List TyId) (text : List ℕ) (rest : Bor (List ℕ)) → SoFar initial cur n fuel locals text rest.now → Grow heads cur new → local_read heads n rest.now ≡ None
      → FindsLocals heads initial new (Ok (locals, rest)) (locals_read heads text)
  stops initial cur new n fuel locals text rest s grow none =
      let s_cur : List Written = map (text_under heads cur) locals in
      let due : n ≡ length s_cur = s.due ∙ sym (length_map (text_under heads cur) locals) in
      let whole : locals_read heads text ≡ (s_cur, rest.now) = s.left ∙ no_more (one_local heads) fuel s_cur rest.now (none_found s_cur n rest.now due none) in
      record {
        there = (texts_stay cur new locals s.within s.grow.types grow ∙ ap (λ (q : List Written × List ℕ). q.0) (sym whole), ap (λ (q : List Written × List ℕ). q.1) (sym whole));
        within = still_types heads cur new locals grow s.within;
        grow = then_grow heads initial cur new s.grow grow;
      }

  pub ends : (initial cur : ItemTable) (n fuel : ℕ) (locals : List TyId) (text : List ℕ) (rest : Bor (List ℕ)) → fuel ≡ 0 → SoFar initial cur n fuel locals text rest.now
      → FindsLocals heads initial cur (Ok (locals, rest)) (locals_read heads text)
  ends initial cur n fuel locals text rest e s =
      let s_cur : List Written = map (text_under heads cur) locals in
      let whole : locals_read heads text ≡ (s_cur, rest.now) = s.left ∙ all_gone (one_local heads) fuel s_cur rest.now e in
      record {
        there = (ap (λ (q : List Written × List ℕ). q.0) (sym whole), ap (λ (q : List Written × List ℕ). q.1) (sym whole));
        within = s.within;
        grow = s.grow;
      }

  pub fails : (initial cur new : ItemTable) (n fuel : ℕ) (locals : List TyId) (text rest : List ℕ) → SoFar initial cur n fuel locals text rest → Grow heads cur new
      → FindsLocals heads initial new (Err (record {})) (locals_read heads text)
  fails initial cur new n fuel locals text rest s grow = record { there = tt; within = tt; grow = then_grow heads initial cur new s.grow grow }
