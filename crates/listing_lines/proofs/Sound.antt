-- What is found of a line is the line in front.
use Rattle.std.proofs.Common.{◌≡◌, ℕ, suc, zero, Bool, true, false, ◌&&◌, nat_eq, nat_lt, if◌then◌else◌, List, [], ◌∷◌, ◌++◌, flat_map, length, codes, Some, None, decimal, slice_get, refl, ap, sym, subst, ◌∙◌, append_assoc, eqb-true, inl, inr}
use Rattle.std.specs.Prelude.{◌⊎◌}
use Rattle.std.specs.Str.{is_utf8}
use Rattle.std.specs.List.{list_all}
use Rattle.std.proofs.lemmas.Bool.{and_parts, and_from}
use Rattle.std.proofs.lemmas.Option.{same_Some, none-some}
use Rattle.mir_ty.specs.declared.adt.Adt.{Adt}
use Rattle.mir_ty.specs.declared.def.ImplDef.{ImplDef}
use Rattle.mir_ty.specs.declared.def.TraitDef.{TraitDef}
use Rattle.mir_ty.specs.ItemTable.{ItemTable}
use Rattle.mir_ty.specs.Named.{adt_name, name_of_adt}
use Rattle.cfg_graph.specs.declared.graph.Kind.{Kind}
use Rattle.cfg_graph.specs.WellFormed.NameFaults.{stands_in_names, is_name}
use Rattle.listing_write.specs.Lists.{in_parentheses}
use Rattle.listing_write.specs.Listing.{kind_word}
use Rattle.listing_write.specs.Reading.Lines.{ended}
use Rattle.listing_write.specs.Reading.Rows.{many, many_within}
use Rattle.listing_write.specs.Reading.Words.{FoundInText, bind, or_else, as_, said, strip, span}
use Rattle.listing_write.specs.Types.{trait_name, name_of_trait}
use Rattle.listing_write.proofs.Reading.Basics.{behind7}
use Rattle.listing_parts.specs.Numbers.{adt_no, trait_no}
use Rattle.listing_parts.proofs.LineByLine.{strip_sound}
use Rattle.listing_parts.proofs.Spans.{span_all}
use Rattle.listing_parts.specs.TypeReading.{plain_number, type_read, types_read}
use Rattle.listing_parts.proofs.PlainNumbers.{plain_sound}
use Rattle.listing_parts.proofs.Sound.{type_sound, rows_sound, placed_name}
use Rattle.listing_parts.proofs.Splits.{split, one_of_two, same_found, span_parts}
use Rattle.listing_lines.specs.LineReading.{due_number, named, name_read, params_from, local_head, kind_read, rank_from, closure_head, last_number, captures_from, blank_number, bodies_read, known_adt_read, known_trait_read, for_adt, impl_head}
use Rattle.listing_lines.specs.LinesFound.{BodiesAreSound, LocalsAreSound, BlocksAreSound, ClosuresAreSound, ImplsAreSound}

due_sound : (n : ℕ) (t r : List ℕ) → due_number n t ≡ Some r → t ≡ decimal n ++ r
due_sound n t r h =
    let (k, found, same) = split (plain_number t) (λ k. if nat_eq k.0 n then Some k.1 else None) r h in
    by k.0 k.1 found same
  where
    by : (m : ℕ) (s : List ℕ) → plain_number t ≡ Some (m, s) → (if nat_eq m n then Some s else None) ≡ Some r → t ≡ decimal n ++ r
    by m s found same = at (nat_eq m n) refl same
      where
        at : (v : Bool) → nat_eq m n ≡ v → (if v then Some s else None) ≡ Some r → t ≡ decimal n ++ r
        at true e h = (plain_sound t m s found).0 ∙ (λ i. decimal (eqb-true m n e i) ++ same_Some s r h i)
        at false e h = absurd (none-some r h)

pub ended_sound : {X : Type 0} (f : FoundInText X) (x : X) (r : List ℕ) → ended f ≡ Some (x, r) → (s : List ℕ) × (f ≡ Some (x, s)) × (s ≡ 10 ∷ r)
ended_sound f x r h =
    let (g, found, more) = split f (λ f. bind (strip (10 ∷ []) f.1) (λ r. Some (f.0, r))) (x, r) h in
    let (u, feed, last) = split (strip (10 ∷ []) g.1) (λ r. Some (g.0, r)) (x, r) more in
    let (own, behind) = same_found g.0 u x r last in
    (g.1, found ∙ (λ i. Some (own i, g.1)), strip_sound (10 ∷ []) g.1 u feed ∙ ap (λ (y : List ℕ). 10 ∷ y) behind)

pub as_sound : {X Y : Type 0} (make : X → Y) (f : FoundInText X) (y : Y) (r : List ℕ) → as_ make f ≡ Some (y, r) → (x : X) × (f ≡ Some (x, r)) × (make x ≡ y)
as_sound make f y r h =
    let (g, found, last) = split f (λ f. Some (make f.0, f.1)) (y, r) h in
    let (own, behind) = same_found (make g.0) g.1 y r last in
    (g.0, found ∙ (λ i. Some (g.0, behind i)), own)

pub name_sound : (t name r : List ℕ) → name_read t ≡ Some (name, r) → (t ≡ name ++ r) × (is_name name ≡ true) × (is_utf8 name ≡ true)
name_sound t name r h = by (span stands_in_names t) (span_parts stands_in_names t) (span_all stands_in_names t) h
  where
    by : (q : List ℕ × List ℕ) → t ≡ q.0 ++ q.1 → list_all stands_in_names q.0 ≡ true → named q ≡ Some (name, r) → (t ≡ name ++ r) × (is_name name ≡ true) × (is_utf8 name ≡ true)
    by (w, s) parts all h = at (nat_lt 0 (length w) && is_utf8 w) refl h
      where
        whole : FoundInText (List ℕ)
        whole = Some (w, s)

        at : (v : Bool) → (nat_lt 0 (length w) && is_utf8 w) ≡ v → (if v then whole else None) ≡ Some (name, r) → (t ≡ name ++ r) × (is_name name ≡ true) × (is_utf8 name ≡ true)
        at true e h =
            let (own, behind) = same_found w s name r h in
            let (some, utf) = and_parts (nat_lt 0 (length w)) (is_utf8 w) e in (
              parts ∙ (λ i. own i ++ behind i),
              subst (λ (x : List ℕ). is_name x ≡ true) own (and_from (nat_lt 0 (length w)) (list_all stands_in_names w) some all),
              subst (λ (x : List ℕ). is_utf8 x ≡ true) own utf,
            )
        at false e h = absurd (none-some (name, r) h)

pub bodies_sound : BodiesAreSound
bodies_sound n t name params r h =
    let (t1, word, more1) = split (strip (codes "body ") t) _ ((name, params), r) h in
    let (t2, number, more2) = split (due_number n t1) _ ((name, params), r) more1 in
    let (t3, blank, more3) = split (strip (codes " ") t2) _ ((name, params), r) more2 in
    let (q, called, more4) = split (name_read t3) (λ name. ended (params_from name)) ((name, params), r) more3 in
    let (s, found, feed) = ended_sound (params_from q) (name, params) r more4 in
    let (t4, blank2, more5) = split (strip (codes " ") q.1) (λ t. as_ (λ params. (q.0, params)) (plain_number t)) ((name, params), s) found in
    let (p, last, own) = as_sound (λ params. (q.0, params)) (plain_number t4) (name, params) s more5 in
    let same : q.0 ≡ name = ap (λ (x : List ℕ × ℕ). x.0) own in
    let count : p ≡ params = ap (λ (x : List ℕ × ℕ). x.1) own in
    let (at_name, is, utf) = name_sound t3 q.0 q.1 called in (
      strip_sound (codes "body ") t t1 word
          ∙ ap (λ (x : List ℕ). codes "body " ++ x) (due_sound n t1 t2 number
          ∙ ap (λ (x : List ℕ). decimal n ++ x) (strip_sound (codes " ") t2 t3 blank
          ∙ ap (λ (x : List ℕ). codes " " ++ x) (at_name
          ∙ (λ i. same i ++ (strip_sound (codes " ") q.1 t4 blank2
          ∙ ap (λ (x : List ℕ). codes " " ++ x) ((plain_sound t4 p s last).0 ∙ (λ j. decimal (count j) ++ feed j))) i))))
          ∙ simp append_assoc refl,
      subst (λ (x : List ℕ). is_name x ≡ true) same is,
      subst (λ (x : List ℕ). is_utf8 x ≡ true) same utf,
    )

pub locals_sound : LocalsAreSound
locals_sound heads n t w r h =
    let (t3, head, more) = split (local_head n t) (λ t. ended (type_read heads t)) (w, r) h in
    let (t1, word, more1) = split (strip (codes "local ") t) _ t3 head in
    let (t2, number, blank) = split (due_number n t1) (strip (codes " ")) t3 more1 in
    let (s, found, feed) = ended_sound (type_read heads t3) w r more in
    strip_sound (codes "local ") t t1 word
    ∙ ap (λ (x : List ℕ). codes "local " ++ x) (due_sound n t1 t2 number
    ∙ ap (λ (x : List ℕ). decimal n ++ x) (strip_sound (codes " ") t2 t3 blank
    ∙ ap (λ (x : List ℕ). codes " " ++ x) (type_sound heads t3 w s found ∙ ap (λ (x : List ℕ). w ++ x) feed)))
    ∙ simp append_assoc refl

kind_sound : (t : List ℕ) (kind : Kind) (r : List ℕ) → kind_read t ≡ Some (kind, r) → t ≡ kind_word kind ++ r
kind_sound t kind r h = by (one_of_two (said (codes "plain") Kind.Plain t) _ (kind, r) h)
  where
    one : (word : List ℕ) (k : Kind) → word ≡ kind_word k → said word k t ≡ Some (kind, r) → t ≡ kind_word kind ++ r
    one word k same h =
        let (u, found, last) = split (strip word t) (λ r. Some (k, r)) (kind, r) h in
        let (own, behind) = same_found k u kind r last in
        strip_sound word t u found ∙ (λ i. (same ∙ ap kind_word own) i ++ behind i)

    last : (said (codes "turn") Kind.Turn t ≡ Some (kind, r)) ⊎ (said (codes "cleanup") Kind.Cleanup t ≡ Some (kind, r)) → t ≡ kind_word kind ++ r
    last (inl a) = one (codes "turn") Kind.Turn refl a
    last (inr b) = one (codes "cleanup") Kind.Cleanup refl b

    by : (said (codes "plain") Kind.Plain t ≡ Some (kind, r)) ⊎ (or_else (said (codes "turn") Kind.Turn t) (said (codes "cleanup") Kind.Cleanup t) ≡ Some (kind, r)) → t ≡ kind_word kind ++ r
    by (inl a) = one (codes "plain") Kind.Plain refl a
    by (inr b) = last (one_of_two (said (codes "turn") Kind.Turn t) (said (codes "cleanup") Kind.Cleanup t) (kind, r) b)

pub blocks_sound : BlocksAreSound
blocks_sound n t kind rank r h =
    let (t1, word, more1) = split (strip (codes "block ") t) _ ((kind, rank), r) h in
    let (t2, number, more2) = split (due_number n t1) _ ((kind, rank), r) more1 in
    let (t3, blank, more3) = split (strip (codes " ") t2) _ ((kind, rank), r) more2 in
    let (q, is, more4) = split (kind_read t3) (λ kind. ended (rank_from kind)) ((kind, rank), r) more3 in
    let (s, found, feed) = ended_sound (rank_from q) (kind, rank) r more4 in
    let (t4, mark, more5) = split (strip (codes " rank ") q.1) (λ t. as_ (λ rank. (q.0, rank)) (plain_number t)) ((kind, rank), s) found in
    let (p, last, own) = as_sound (λ rank. (q.0, rank)) (plain_number t4) (kind, rank) s more5 in
    let same : q.0 ≡ kind = ap (λ (x : Kind × ℕ). x.0) own in
    let count : p ≡ rank = ap (λ (x : Kind × ℕ). x.1) own in
    strip_sound (codes "block ") t t1 word
    ∙ ap (λ (x : List ℕ). codes "block " ++ x) (due_sound n t1 t2 number
    ∙ ap (λ (x : List ℕ). decimal n ++ x) (strip_sound (codes " ") t2 t3 blank
    ∙ ap (λ (x : List ℕ). codes " " ++ x) (kind_sound t3 q.0 q.1 is
    ∙ (λ i. kind_word (same i) ++ (strip_sound (codes " rank ") q.1 t4 mark
    ∙ ap (λ (x : List ℕ). codes " rank " ++ x) ((plain_sound t4 p s last).0 ∙ (λ j. decimal (count j) ++ feed j))) i))))
    ∙ simp append_assoc refl

pub closures_sound : ClosuresAreSound
closures_sound heads n t captures body r h =
    let (t3, head, more) = split (closure_head n t) (λ t. bind (types_read heads t) captures_from) ((captures, body), r) h in
    let (t1, word, more1) = split (strip (codes "closure ") t) _ t3 head in
    let (t2, number, blank) = split (due_number n t1) (strip (codes " ")) t3 more1 in
    let (q, row, more2) = split (types_read heads t3) captures_from ((captures, body), r) more in
    let (p, last, own) = as_sound (λ body. (q.0, body)) (last_number q.1) (captures, body) r more2 in
    let (t4, blank2, more3) = split (strip (codes " ") q.1) (λ t. ended (plain_number t)) (p, r) last in
    let (s, found, feed) = ended_sound (plain_number t4) p r more3 in
    let same : q.0 ≡ captures = ap (λ (x : List (List ℕ) × ℕ). x.0) own in
    let count : p ≡ body = ap (λ (x : List (List ℕ) × ℕ). x.1) own in
    strip_sound (codes "closure ") t t1 word
    ∙ ap (λ (x : List ℕ). codes "closure " ++ x) (due_sound n t1 t2 number
    ∙ ap (λ (x : List ℕ). decimal n ++ x) (strip_sound (codes " ") t2 t3 blank
    ∙ ap (λ (x : List ℕ). codes " " ++ x) (rows_sound heads t3 q.0 q.1 row
    ∙ (λ i. in_parentheses (same i) ++ (strip_sound (codes " ") q.1 t4 blank2
    ∙ ap (λ (x : List ℕ). codes " " ++ x) ((plain_sound t4 p s found).0 ∙ (λ j. decimal (count j) ++ feed j))) i))))
    ∙ sym (behind7 (codes "closure ") (decimal n) (codes " ") (in_parentheses captures) (codes " ") (decimal body) (10 ∷ []) r)

numbers_sound : (k : ℕ) (t : List ℕ) → t ≡ flat_map (λ n. codes " " ++ decimal n) (many_within k blank_number t).0 ++ (many_within k blank_number t).1
numbers_sound zero t = refl
numbers_sound (suc k) t = by (blank_number t) refl (numbers_sound k)
  where
    by : (o : FoundInText ℕ) → blank_number t ≡ o → ((u : List ℕ) → u ≡ flat_map (λ n. codes " " ++ decimal n) (many_within k blank_number u).0 ++ (many_within k blank_number u).1)
        → t ≡ flat_map (λ n. codes " " ++ decimal n) (many_within (suc k) blank_number t).0 ++ (many_within (suc k) blank_number t).1
    by None e deeper = rw e refl
    by (Some f) e deeper =
        let (u, mark, found) = split (strip (codes " ") t) plain_number f e in
        rw e (strip_sound (codes " ") t u mark ∙ ap (λ (x : List ℕ). codes " " ++ x) ((plain_sound u f.0 f.1 found).0 ∙ ap (λ (x : List ℕ). decimal f.0 ++ x) (deeper f.1))
        ∙ sym (append_assoc (codes " " ++ decimal f.0) (flat_map (λ n. codes " " ++ decimal n) (many_within k blank_number f.1).0) (many_within k blank_number f.1).1))

adt_found : (heads : ItemTable) (t : List ℕ) (n : ℕ) (r : List ℕ) → known_adt_read heads t ≡ Some (n, r) → t ≡ adt_name heads n ++ r
adt_found heads t n r h =
    let q : List ℕ × List ℕ = span stands_in_names t in
    let (adt, is, last) = split (slice_get heads.adts (adt_no heads q.0)) (λ adt. Some (adt_no heads q.0, q.1)) (n, r) h in
    let (own, behind) = same_found (adt_no heads q.0) q.1 n r last in
    let named : q.0 ≡ adt_name heads n = placed_name (λ (adt : Adt). adt.name) heads.adts q.0 adt is ∙ ap name_of_adt (sym is) ∙ ap (adt_name heads) own in
    span_parts stands_in_names t ∙ (λ i. named i ++ behind i)

trait_found : (heads : ItemTable) (t : List ℕ) (n : ℕ) (r : List ℕ) → known_trait_read heads t ≡ Some (n, r) → t ≡ trait_name heads n ++ r
trait_found heads t n r h =
    let q : List ℕ × List ℕ = span stands_in_names t in
    let (def, is, last) = split (slice_get heads.traits (trait_no heads q.0)) (λ def. Some (trait_no heads q.0, q.1)) (n, r) h in
    let (own, behind) = same_found (trait_no heads q.0) q.1 n r last in
    let named : q.0 ≡ trait_name heads n = placed_name (λ (def : TraitDef). def.name) heads.traits q.0 def is ∙ ap name_of_trait (sym is) ∙ ap (trait_name heads) own in
    span_parts stands_in_names t ∙ (λ i. named i ++ behind i)

pub impls_sound : ImplsAreSound
impls_sound heads t def r h =
    let (q, head, more) = split (impl_head heads t) (λ q. bodies_read q.0.0 q.0.1 q.1) (def, r) h in
    let (t1, word, more1) = split (strip (codes "impl ") t) _ q head in
    let (a, called, more2) = split (known_trait_read heads t1) (for_adt heads) q more1 in
    let (t2, mark, more3) = split (strip (codes " for ") a.1) (λ t. as_ (λ adt. (a.0, adt)) (known_adt_read heads t)) q more2 in
    let (b, of, own) = as_sound (λ adt. (a.0, adt)) (known_adt_read heads t2) q.0 q.1 more3 in
    let numbers : List ℕ × List ℕ = many blank_number q.1 in
    let (s, found, feed) = ended_sound (Some (record { trait_no = q.0.0; adt = q.0.1; bodies = numbers.0 }, numbers.1)) def r more in
    let (same, behind) = same_found (record { trait_no = q.0.0; adt = q.0.1; bodies = numbers.0 }) numbers.1 def s found in
    let one : a.0 ≡ def.trait_no = ap (λ (x : ℕ × ℕ). x.0) own ∙ ap (λ (d : ImplDef). d.trait_no) same in
    let two : b ≡ def.adt = ap (λ (x : ℕ × ℕ). x.1) own ∙ ap (λ (d : ImplDef). d.adt) same in
    let bodies : numbers.0 ≡ def.bodies = ap (λ (d : ImplDef). d.bodies) same in
    strip_sound (codes "impl ") t t1 word
    ∙ ap (λ (x : List ℕ). codes "impl " ++ x) (trait_found heads t1 a.0 a.1 called
    ∙ (λ i. trait_name heads (one i) ++ (strip_sound (codes " for ") a.1 t2 mark
    ∙ ap (λ (x : List ℕ). codes " for " ++ x) (adt_found heads t2 b q.1 of
    ∙ (λ j. adt_name heads (two j) ++ (numbers_sound (length q.1) q.1 ∙ (λ k. flat_map (λ n. codes " " ++ decimal n) (bodies k) ++ (behind ∙ feed) k)) j))) i))
    ∙ simp append_assoc refl
