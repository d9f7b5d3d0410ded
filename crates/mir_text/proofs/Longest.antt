-- No beginning of a text is longer than what is read of it.
use Rattle.std.proofs.Common.{◌≡◌, ℕ, suc, ◌+◌, ◌<◌, ◌≤◌, Bool, true, List, [], ◌∷◌, ◌++◌, map, take, length, refl, ap, sym, subst, ◌∙◌, arith, append_assoc, length-append, inl, inr}
use Rattle.std.specs.Prelude.{◌⊎◌}
use Rattle.cfg_graph.specs.declared.graph.Graph.{Graph}
use Rattle.mir_ty.specs.declared.def.ImplDef.{ImplDef}
use Rattle.mir_ty.specs.ItemTable.{ItemTable}
use Rattle.listing_write.specs.Compared.{AdtSeen, SigSeen, Written, numbered}
use Rattle.listing_write.specs.Lines.{Line, HeadLine, EndLine, lines_of, line_of_adt, line_of_trait, line_of_impl, line_of_closure, lines_each, lines_of_body}
use Rattle.listing_write.proofs.Reading.Basics.{Every}
use Rattle.mir_text.specs.Beginning.{LineStands, texts}
use Rattle.mir_text.proofs.CodeThrough.{told_full, EndsBody, EndsAll, bodies_through, bodies_broken}
use Rattle.mir_text.proofs.ListedHeads.{after_adts, after_traits, after_impls}
use Rattle.mir_text.proofs.Named.{Extends}
use Rattle.mir_text.proofs.Passing.{count_seen, adts_pass, adts_grow, traits_pass, traits_grow, impls_pass, impls_grow, closures_pass, closures_grow, BehindAdts, BehindTraits, BehindImpls, BehindClosures, behind_adts, behind_traits, behind_impls, behind_closures, no_adt_at, no_trait_at, no_impl_at, no_closure_at}
use Rattle.mir_text.proofs.Sections.{Read, section, counted_so, never_less, stand_behind}
use Rattle.mir_text.proofs.Until.{PartlyAll, WhollyAll, total, missing, begin_up}
use Rattle.mir_text.specs.GraphReading.{none_seen, items_under}
use Rattle.mir_text.specs.BodyReading.{BodyTold, body_read, bodies_read}
use Rattle.mir_text.specs.SectionReading.{ItemsSeen, then_section, one_adt, one_trait, one_impl, one_closure}

-- the lines of bodies that were read
abbrev pub tolds_full : List BodyTold → ℕ
tolds_full [] = 0
tolds_full (told ∷ tolds) = told_full told + tolds_full tolds

adds_adt : (s : ItemsSeen) (y : AdtSeen) → count_seen (record s { adts = s.adts ++ y ∷ [] }) ≡ suc (count_seen s)
adds_adt s y = let sum = length-append s.adts (y ∷ []) in omega (arith, sum)

adds_trait : (s : ItemsSeen) (y : List ℕ × List SigSeen) → count_seen (record s { traits = s.traits ++ y ∷ [] }) ≡ suc (count_seen s)
adds_trait s y = let sum = length-append s.traits (y ∷ []) in omega (arith, sum)

adds_impl : (s : ItemsSeen) (y : ImplDef) → count_seen (record s { impls = s.impls ++ y ∷ [] }) ≡ suc (count_seen s)
adds_impl s y = let sum = length-append s.impls (y ∷ []) in omega (arith, sum)

adds_closure : (s : ItemsSeen) (y : List Written × ℕ) → count_seen (record s { closures = s.closures ++ y ∷ [] }) ≡ suc (count_seen s)
adds_closure s y = let sum = length-append s.closures (y ∷ []) in omega (arith, sum)

-- what was read of a text under heads: the lines of items and of bodies, whether the last block was whole, and what is left
module _ (heads : ItemTable) (t : List ℕ) where
  abbrev pub seen_count : ℕ
  seen_count = count_seen (items_under heads t).0

  abbrev pub tolds : List BodyTold
  tolds = (bodies_read heads (items_under heads t).1).0.0

  abbrev pub is_whole : Bool
  is_whole = (bodies_read heads (items_under heads t).1).0.1

  abbrev pub left : List ℕ
  left = (bodies_read heads (items_under heads t).1).1

-- so many lines were read, or these and the last of a listing
abbrev pub Bounded : (size : ℕ) → ItemTable → List ℕ → ℕ → List ℕ → Type 0
Bounded size heads t c behind =
    ((c < size) × (c + missing (is_whole heads t) ≤ seen_count heads t + tolds_full (tolds heads t))) ⊎
    ((is_whole heads t ≡ true) × (c ≡ suc (seen_count heads t + tolds_full (tolds heads t))) × (left heads t ≡ texts (EndLine ∷ []) ++ behind))

module _ (graph : Graph) where
  abbrev pub adt_lines : List Line
  adt_lines = map (line_of_adt graph.items) graph.items.adts

  abbrev pub trait_lines : List Line
  trait_lines = map (line_of_trait graph.items) graph.items.traits

  abbrev pub impl_lines : List Line
  impl_lines = map (line_of_impl graph.items) graph.items.impls

  abbrev pub closure_lines : List Line
  closure_lines = numbered (line_of_closure graph.items) 0 graph.items.closures

  abbrev pub body_lines_of : List Line
  body_lines_of = lines_each (lines_of_body graph.items) 0 graph.bodies

  abbrev pub from_bodies : List Line
  from_bodies = body_lines_of ++ EndLine ∷ []

  abbrev pub from_closures : List Line
  from_closures = closure_lines ++ from_bodies

  abbrev pub from_impls : List Line
  from_impls = impl_lines ++ from_closures

  abbrev pub from_traits : List Line
  from_traits = trait_lines ++ from_impls

  abbrev pub from_adts : List Line
  from_adts = adt_lines ++ from_traits

  pub lines_are : lines_of graph ≡ HeadLine ∷ from_adts
  lines_are =
      ap (λ (ls : List Line). HeadLine ∷ ls)
      (append_assoc (adt_lines ++ trait_lines ++ impl_lines ++ closure_lines) body_lines_of (EndLine ∷ [])
      ∙ append_assoc (adt_lines ++ trait_lines ++ impl_lines) closure_lines from_bodies
      ∙ append_assoc (adt_lines ++ trait_lines) impl_lines from_closures
      ∙ append_assoc adt_lines trait_lines from_impls)

module _ (graph : Graph) (heads : ItemTable) (x : Extends graph.items heads) (t : List ℕ) where
  items : ItemTable
  items = graph.items

  full_is : (ts : List BodyTold) → total (body_read heads) (lines_of_body graph.items) told_full (LineStands graph.items) EndsBody EndsAll ts ≡ tolds_full ts
  full_is [] = refl
  full_is (told ∷ ts) = ap (λ (n : ℕ). told_full told + n) (full_is ts)

  -- so many items are enough
  few : (c : ℕ) (behind : List ℕ) → c < length (from_adts graph) → c ≤ seen_count heads t → Bounded (length (from_adts graph)) heads t c behind
  few c behind part h =
      let least = bodies_broken graph.items heads x (items_under heads t).1 in
      let full = full_is (tolds heads t) in
      inl (part, omega (arith, h, least, full))

  -- there is a last line behind each section
  some_bodies : 0 < length (from_bodies graph)
  some_bodies = let sum = length-append (body_lines_of graph) (EndLine ∷ []) in omega (arith, sum)

  some_closures : 0 < length (from_closures graph)
  some_closures = let sum = length-append (closure_lines graph) (from_bodies graph) in let more = some_bodies in omega (arith, sum, more)

  some_impls : 0 < length (from_impls graph)
  some_impls = let sum = length-append (impl_lines graph) (from_closures graph) in let more = some_closures in omega (arith, sum, more)

  some_traits : 0 < length (from_traits graph)
  some_traits = let sum = length-append (trait_lines graph) (from_impls graph) in let more = some_impls in omega (arith, sum, more)

  after_closures : ItemsSeen × List ℕ
  after_closures = items_under heads t

  from_2 : count_seen (after_adts heads t).0 ≤ count_seen (after_traits heads t).0
  from_2 = never_less (one_trait heads) count_seen (LineStands graph.items) (traits_grow graph.items heads x count_seen adds_trait) (length (after_adts heads t).1) (after_adts heads t).0 (after_adts heads t).1

  from_3 : count_seen (after_traits heads t).0 ≤ count_seen (after_impls heads t).0
  from_3 = never_less (one_impl heads) count_seen (LineStands graph.items) (impls_grow graph.items heads x count_seen adds_impl) (length (after_traits heads t).1) (after_traits heads t).0 (after_traits heads t).1

  from_4 : count_seen (after_impls heads t).0 ≤ seen_count heads t
  from_4 = never_less (one_closure heads) count_seen (LineStands graph.items) (closures_grow graph.items heads x count_seen adds_closure) (length (after_impls heads t).1) (after_impls heads t).0 (after_impls heads t).1

  same_at : (q : ItemsSeen × List ℕ) (u : ItemsSeen) (r : List ℕ) → q.0 ≡ u → q.1 ≡ r → Path (ItemsSeen × List ℕ) q (u, r)
  same_at q u r a b = λ i. (a i, b i)

  -- the bodies, and the last line
  bodies_bounded : (c d : ℕ) (behind : List ℕ) → c ≡ seen_count heads t + suc d → length (from_adts graph) ≡ seen_count heads t + length (from_bodies graph) → suc d ≤ length (from_bodies graph) → Every (LineStands graph.items) (take (suc d) (from_bodies graph))
      → (items_under heads t).1 ≡ texts (take (suc d) (from_bodies graph)) ++ behind → Bounded (length (from_adts graph)) heads t c behind
  bodies_bounded c d behind many size enough stand rest =
      by (bodies_through graph.items heads x graph.bodies (suc d) (items_under heads t).1 behind (EndLine ∷ []) tt stand rest)
    where
      by : PartlyAll (body_read heads) (lines_of_body graph.items) told_full (LineStands graph.items) EndsBody EndsAll (length (body_lines_of graph)) (suc d) (bodies_read heads (items_under heads t).1)
          ⊎ WhollyAll (body_read heads) (lines_of_body graph.items) told_full (LineStands graph.items) EndsBody EndsAll (length (body_lines_of graph)) (suc d) (EndLine ∷ []) behind (bodies_read heads (items_under heads t).1)
          → Bounded (length (from_adts graph)) heads t c behind
      by (inl p) =
          let some = p.some in
          let these = p.few in
          let full = full_is (tolds heads t) in
          let sum = length-append (body_lines_of graph) (EndLine ∷ []) in
          inl (omega (arith, size, many, these, sum), omega (arith, some, full, many))
      by (inr w) =
          let these = w.many in
          let all = w.all in
          let full = full_is (tolds heads t) in
          let sum = length-append (body_lines_of graph) (EndLine ∷ []) in
          let none : w.more ≡ 0 = omega (arith, these, sum, enough) in
          inr (w.whole, omega (arith, these, all, full, many, none), w.rest ∙ ap (λ (n : ℕ). texts (take (suc n) (EndLine ∷ [])) ++ behind) none)

  pub bounded : (c : ℕ) (behind : List ℕ) → c ≤ length (from_adts graph) → Every (LineStands graph.items) (take c (from_adts graph)) → t ≡ texts (take c (from_adts graph)) ++ behind → Bounded (length (from_adts graph)) heads t c behind
  bounded c behind enough stand is =
      let p1 = adts_pass graph.items heads x count_seen adds_adt graph.items.adts none_seen in
      let c1 = counted_so (one_adt heads) count_seen (LineStands graph.items) (adt_lines graph) none_seen p1.0 p1.1 in
      one p1.0 p1.2 p1.3 c1
      (section (one_adt heads) count_seen (LineStands graph.items) (adt_lines graph) (from_traits graph) none_seen p1.0 c t behind (adts_grow graph.items heads x count_seen adds_adt) p1.1
      (begin_up BehindAdts _ (λ l h s r. no_adt_at heads l h s r) (from_traits graph) (behind_adts graph.items graph.items.traits (from_impls graph)
      (behind_traits graph.items graph.items.impls (from_closures graph) (behind_impls graph.items 0 graph.items.closures (from_bodies graph) (behind_closures graph.items 0 graph.bodies))))) stand is)
    where
      four : (u3 : ItemsSeen) (d3 : ℕ) → u3.closures ≡ [] → c ≡ count_seen u3 + suc d3 → length (from_adts graph) ≡ count_seen u3 + length (from_closures graph) → suc d3 ≤ length (from_closures graph) → Every (LineStands graph.items) (take (suc d3) (from_closures graph))
          → (after_impls heads t).0 ≡ u3 → (after_impls heads t).1 ≡ texts (take (suc d3) (from_closures graph)) ++ behind → Bounded (length (from_adts graph)) heads t c behind
      four u3 d3 none many size enough stand at rest =
          let p = closures_pass graph.items heads x count_seen adds_closure graph.items.closures 0 u3 (sym (ap length none)) in
          let own = counted_so (one_closure heads) count_seen (LineStands graph.items) (closure_lines graph) u3 p.0 p.1 in
          let v : List ℕ = texts (take (suc d3) (from_closures graph)) ++ behind in
          by p.0 own (subst (λ (q : ItemsSeen × List ℕ). Read (one_closure heads) count_seen (LineStands graph.items) (closure_lines graph) (from_bodies graph) u3 p.0 (suc d3) behind (then_section heads (one_closure heads) q))
          (sym (same_at (after_impls heads t) u3 v at rest))
          (section (one_closure heads) count_seen (LineStands graph.items) (closure_lines graph) (from_bodies graph) u3 p.0 (suc d3) v behind (closures_grow graph.items heads x count_seen adds_closure) p.1
          (begin_up BehindClosures _ (λ l h s r. no_closure_at heads l h s r) (from_bodies graph) (behind_closures graph.items 0 graph.bodies)) stand refl))
        where
          by : (u : ItemsSeen) → count_seen u ≡ count_seen u3 + length (closure_lines graph)
              → Read (one_closure heads) count_seen (LineStands graph.items) (closure_lines graph) (from_bodies graph) u3 u (suc d3) behind (items_under heads t) → Bounded (length (from_adts graph)) heads t c behind
          by u own (inl h) = let these = h.0 in let got = h.1 in let sum = length-append (closure_lines graph) (from_bodies graph) in let some = some_bodies in few c behind (omega (arith, size, many, these, sum, some)) (omega (arith, got, many))
          by u own (inr h) =
              let these = h.1 in
              let same = ap count_seen h.2 in
              let sum = length-append (closure_lines graph) (from_bodies graph) in
              bodies_bounded c h.0 behind (omega (arith, these, same, own, many)) (omega (arith, size, same, own, sum)) (omega (arith, these, sum, enough)) (stand_behind (LineStands graph.items) (closure_lines graph) (from_bodies graph) (suc d3) stand h.0 these) h.3

      three : (u2 : ItemsSeen) (d2 : ℕ) → u2.closures ≡ [] → c ≡ count_seen u2 + suc d2 → length (from_adts graph) ≡ count_seen u2 + length (from_impls graph) → suc d2 ≤ length (from_impls graph) → Every (LineStands graph.items) (take (suc d2) (from_impls graph))
          → (after_traits heads t).0 ≡ u2 → (after_traits heads t).1 ≡ texts (take (suc d2) (from_impls graph)) ++ behind → Bounded (length (from_adts graph)) heads t c behind
      three u2 d2 none many size enough stand at rest =
          let p = impls_pass graph.items heads x count_seen adds_impl graph.items.impls u2 in
          let own = counted_so (one_impl heads) count_seen (LineStands graph.items) (impl_lines graph) u2 p.0 p.1 in
          let v : List ℕ = texts (take (suc d2) (from_impls graph)) ++ behind in
          by p.0 (p.2 ∙ none) own (subst (λ (q : ItemsSeen × List ℕ). Read (one_impl heads) count_seen (LineStands graph.items) (impl_lines graph) (from_closures graph) u2 p.0 (suc d2) behind (then_section heads (one_impl heads) q))
          (sym (same_at (after_traits heads t) u2 v at rest))
          (section (one_impl heads) count_seen (LineStands graph.items) (impl_lines graph) (from_closures graph) u2 p.0 (suc d2) v behind (impls_grow graph.items heads x count_seen adds_impl) p.1
          (begin_up BehindImpls _ (λ l h s r. no_impl_at heads l h s r) (from_closures graph) (behind_impls graph.items 0 graph.items.closures (from_bodies graph) (behind_closures graph.items 0 graph.bodies))) stand refl))
        where
          by : (u : ItemsSeen) → u.closures ≡ [] → count_seen u ≡ count_seen u2 + length (impl_lines graph)
              → Read (one_impl heads) count_seen (LineStands graph.items) (impl_lines graph) (from_closures graph) u2 u (suc d2) behind (after_impls heads t) → Bounded (length (from_adts graph)) heads t c behind
          by u none own (inl h) = let these = h.0 in let got = h.1 in let sum = length-append (impl_lines graph) (from_closures graph) in let some = some_closures in let up = from_4 in few c behind (omega (arith, size, many, these, sum, some)) (omega (arith, got, many, up))
          by u none own (inr h) =
              let these = h.1 in
              let sum = length-append (impl_lines graph) (from_closures graph) in
              four u h.0 none (omega (arith, these, own, many)) (omega (arith, size, own, sum)) (omega (arith, these, sum, enough)) (stand_behind (LineStands graph.items) (impl_lines graph) (from_closures graph) (suc d2) stand h.0 these) h.2 h.3

      two : (u1 : ItemsSeen) (d1 : ℕ) → u1.traits ≡ [] → u1.closures ≡ [] → c ≡ count_seen u1 + suc d1 → length (from_adts graph) ≡ count_seen u1 + length (from_traits graph) → suc d1 ≤ length (from_traits graph) → Every (LineStands graph.items) (take (suc d1) (from_traits graph))
          → (after_adts heads t).0 ≡ u1 → (after_adts heads t).1 ≡ texts (take (suc d1) (from_traits graph)) ++ behind → Bounded (length (from_adts graph)) heads t c behind
      two u1 d1 no_traits none many size enough stand at rest =
          let p = traits_pass graph.items heads x count_seen adds_trait graph.items.traits [] u1 refl (sym (ap length no_traits)) in
          let own = counted_so (one_trait heads) count_seen (LineStands graph.items) (trait_lines graph) u1 p.0 p.1 in
          let v : List ℕ = texts (take (suc d1) (from_traits graph)) ++ behind in
          by p.0 (p.2 ∙ none) own (subst (λ (q : ItemsSeen × List ℕ). Read (one_trait heads) count_seen (LineStands graph.items) (trait_lines graph) (from_impls graph) u1 p.0 (suc d1) behind (then_section heads (one_trait heads) q))
          (sym (same_at (after_adts heads t) u1 v at rest))
          (section (one_trait heads) count_seen (LineStands graph.items) (trait_lines graph) (from_impls graph) u1 p.0 (suc d1) v behind (traits_grow graph.items heads x count_seen adds_trait) p.1
          (begin_up BehindTraits _ (λ l h s r. no_trait_at heads l h s r) (from_impls graph) (behind_traits graph.items graph.items.impls (from_closures graph)
          (behind_impls graph.items 0 graph.items.closures (from_bodies graph) (behind_closures graph.items 0 graph.bodies)))) stand refl))
        where
          by : (u : ItemsSeen) → u.closures ≡ [] → count_seen u ≡ count_seen u1 + length (trait_lines graph)
              → Read (one_trait heads) count_seen (LineStands graph.items) (trait_lines graph) (from_impls graph) u1 u (suc d1) behind (after_traits heads t) → Bounded (length (from_adts graph)) heads t c behind
          by u none own (inl h) = let these = h.0 in let got = h.1 in let sum = length-append (trait_lines graph) (from_impls graph) in let some = some_impls in let up3 = from_3 in let up4 = from_4 in few c behind (omega (arith, size, many, these, sum, some)) (omega (arith, got, many, up3, up4))
          by u none own (inr h) =
              let these = h.1 in
              let sum = length-append (trait_lines graph) (from_impls graph) in
              three u h.0 none (omega (arith, these, own, many)) (omega (arith, size, own, sum)) (omega (arith, these, sum, enough)) (stand_behind (LineStands graph.items) (trait_lines graph) (from_impls graph) (suc d1) stand h.0 these) h.2 h.3

      one : (u : ItemsSeen) → u.traits ≡ [] → u.closures ≡ [] → count_seen u ≡ count_seen none_seen + length (adt_lines graph)
          → Read (one_adt heads) count_seen (LineStands graph.items) (adt_lines graph) (from_traits graph) none_seen u c behind (after_adts heads t) → Bounded (length (from_adts graph)) heads t c behind
      one u no_traits none own (inl h) = let these = h.0 in let got = h.1 in let sum = length-append (adt_lines graph) (from_traits graph) in let some = some_traits in let up2 = from_2 in let up3 = from_3 in let up4 = from_4 in few c behind (omega (arith, these, sum, some)) (omega (arith, got, up2, up3, up4))
      one u no_traits none own (inr h) =
          let these = h.1 in
          let sum = length-append (adt_lines graph) (from_traits graph) in
          two u h.0 no_traits none (omega (arith, these, own)) (omega (arith, own, sum)) (omega (arith, these, sum, enough)) (stand_behind (LineStands graph.items) (adt_lines graph) (from_traits graph) c stand h.0 these) h.2 h.3
