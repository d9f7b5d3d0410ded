-- A type is read alike by each depth that is no less than its text has bytes; so it is read by itself, part by part.
use Rattle.std.proofs.Common.{◌≡◌, ℕ, zero, suc, ◌+◌, ◌<◌, ◌≤◌, List, [], ◌∷◌, ◌++◌, length, codes, Option, Some, None, refl, ap, ◌∙◌, arith, length-append, inl, inr}
use Rattle.std.specs.Prelude.{slice_get}
use Rattle.std.proofs.lemmas.Option.{same_Some, none-some}
use Rattle.mir_ty.specs.declared.def.TraitDef.{TraitDef}
use Rattle.mir_ty.specs.declared.ty.Ty.{Ty}
use Rattle.mir_ty.specs.ItemTable.{ItemTable}
use Rattle.cfg_graph.specs.WellFormed.NameFaults.{same_name, stands_in_names}
use Rattle.listing_write.specs.Reading.Rows.{many, many_within, after, comma, row, row_from}
use Rattle.listing_write.specs.Reading.Words.{FoundInText, as_, bind, chosen, said, span, strip}
use Rattle.listing_parts.specs.Numbers.{trait_no}
use Rattle.listing_parts.specs.TypeReading.{around_end, around_text, begin_from, begin_read, marked_begin, object_begin, object_from, reference_begin, reference_from, rest_read, tuple_from, type_of_word, type_read, type_within, unique_mark, worded_begin}
use Rattle.listing_parts.specs.declared.begin.Begin.{Begin}
use Rattle.listing_parts.specs.declared.begin.TypeAround.{TypeAround}
use Rattle.listing_parts.proofs.LineByLine.{strip_sound}
use Rattle.listing_parts.proofs.Sound.{within_sound}
use Rattle.listing_parts.proofs.Splits.{either, one_of_two, span_parts, split, tested}

-- ---- what is left is shorter
pub stripped : (w t r : List ℕ) → strip w t ≡ Some r → length t ≡ length w + length r
stripped w t r h = ap length (strip_sound w t r h) ∙ length-append w r

-- what stands behind a word that says something
pub said_left : {X : Type 0} (word : List ℕ) (x : X) (t : List ℕ) (found : X × List ℕ) → said word x t ≡ Some found → length t ≡ length word + length found.1
said_left word x t found h =
    let (u, mark, last) = split (strip word t) (λ r. Some (x, r)) found h in
    stripped word t u mark ∙ ap (λ (q : _ × List ℕ). length word + length q.1) (same_Some (x, u) found last)

no_more : (n m : ℕ) → n ≡ m → n ≤ m
no_more n m e = omega (arith, e)

reference_left : (t : List ℕ) → length (reference_begin t).1 ≤ length t
reference_left t = by (unique_mark t) refl
  where
    by : (o : Option (List ℕ)) → unique_mark t ≡ o → length (reference_from t o).1 ≤ length t
    by None e = omega arith
    by (Some r) e =
        let (u, mark, rest) = split (strip (codes "mut ") t) (λ r. chosen (strip (codes "}") r) (λ s. None) (Some r)) r e in
        elim (either (strip (codes "}") u) (λ s. None) (Some u) r rest) [
          | inl brace ↦ absurd (none-some r brace.2)
          | inr plain ↦ (let e = stripped (codes "mut ") t u mark in let k = ap length (same_Some u r plain.1) in omega (arith, e, k))
        ]

-- the beginning of a type has a byte
pub begin_left : (heads : ItemTable) (t : List ℕ) (b : Begin × List ℕ) → begin_read heads t ≡ Some b → length b.1 < length t
begin_left heads t b h = by (span stands_in_names t) (span_parts stands_in_names t) h
  where
    marked : marked_begin t ≡ Some b → length b.1 < length t
    marked h = elim (one_of_two (said (codes "(") Begin.Row t) _ b h) [
      | inl row ↦ (let e = said_left (codes "(") Begin.Row t b row in omega (arith, e))
      | inr h ↦ elim (one_of_two (said (codes "[") (Begin.Around TypeAround.Array) t) _ b h) [
        | inl array ↦ (let e = said_left (codes "[") (Begin.Around TypeAround.Array) t b array in omega (arith, e))
        | inr h ↦ elim (one_of_two (said (codes "!") (Begin.Whole Ty.Never) t) _ b h) [
          | inl never ↦ (let e = said_left (codes "!") (Begin.Whole Ty.Never) t b never in omega (arith, e))
          | inr h ↦ reference (split (strip (codes "&") t) (λ r. Some (reference_begin r)) b h)
        ]
      ]
    ]
      where
        reference : (u : List ℕ) × (strip (codes "&") t ≡ Some u) × (Some (reference_begin u) ≡ Some b) → length b.1 < length t
        reference (u, mark, last) =
            let e = stripped (codes "&") t u mark in
            let l = reference_left u in
            let k = ap (λ (q : Begin × List ℕ). length q.1) (same_Some (reference_begin u) b last) in
            omega (arith, e, l, k)

    worded : (w r : List ℕ) → worded_begin heads w r ≡ Some b → length b.1 ≤ length r
    worded w r h = elim (tested (same_name w (codes "Box")) (said (codes "<") (Begin.Around TypeAround.Box) r) _ b h) [
      | inl boxed ↦ (let e = said_left (codes "<") (Begin.Around TypeAround.Box) r b boxed.1 in omega (arith, e))
      | inr h ↦ elim (tested (same_name w (codes "dyn")) (object_begin heads r) _ b h.1) [
        | inl object ↦ of_object (split (strip (codes " ") r) (λ t. object_from heads (span stands_in_names t)) b object.1)
        | inr h ↦ alone (split (type_of_word heads w) (λ ty. Some (Begin.Whole ty, r)) b h.1)
      ]
    ]
      where
        of_object : (u : List ℕ) × (strip (codes " ") r ≡ Some u) × (object_from heads (span stands_in_names u) ≡ Some b) → length b.1 ≤ length r
        of_object (u, mark, found) =
            let (def, there, last) = split (slice_get heads.traits (trait_no heads (span stands_in_names u).0)) (λ (def : TraitDef). Some (Begin.Whole (Ty.Dyn (trait_no heads (span stands_in_names u).0)), (span stands_in_names u).1)) b found in
            let e = stripped (codes " ") r u mark in
            let l = ap length (span_parts stands_in_names u) ∙ length-append (span stands_in_names u).0 (span stands_in_names u).1 in
            let k = ap (λ (q : Begin × List ℕ). length q.1) (same_Some (Begin.Whole (Ty.Dyn (trait_no heads (span stands_in_names u).0)), (span stands_in_names u).1) b last) in
            omega (arith, e, l, k)

        alone : (ty : Ty) × (type_of_word heads w ≡ Some ty) × (Some (Begin.Whole ty, r) ≡ Some b) → length b.1 ≤ length r
        alone (ty, is, last) = let k = ap (λ (q : Begin × List ℕ). length q.1) (same_Some (Begin.Whole ty, r) b last) in omega (arith, k)

    by : (q : List ℕ × List ℕ) → t ≡ q.0 ++ q.1 → begin_from heads q t ≡ Some b → length b.1 < length t
    by ([], r) is h = marked h
    by (c ∷ cs, r) is h =
        let l = worded (c ∷ cs) r h in
        let e = ap length is ∙ length-append (c ∷ cs) r in
        omega (arith, l, e)

-- ---- readers that agree on short texts
abbrev pub Agree : ℕ → (List ℕ → FoundInText (List ℕ)) → (List ℕ → FoundInText (List ℕ)) → Type 0
Agree n one other = (t : List ℕ) → length t ≤ n → one t ≡ other t

-- what is left is no longer
abbrev pub Shrinks : (List ℕ → FoundInText (List ℕ)) → Type 0
Shrinks read = (t : List ℕ) (f : List ℕ × List ℕ) → read t ≡ Some f → length f.1 ≤ length t

pub within_shrinks : (heads : ItemTable) (depth : ℕ) → Shrinks (type_within heads depth)
within_shrinks heads depth t f h =
    let e = ap length (within_sound heads depth t f.0 f.1 h) ∙ length-append f.0 f.1 in
    omega (arith, e)

pub comma_left : (read : List ℕ → FoundInText (List ℕ)) → Shrinks read → (t : List ℕ) (f : List ℕ × List ℕ) → comma read t ≡ Some f → length f.1 < length t
comma_left read shrinks t f h =
    let (u, mark, found) = split (strip (codes ", ") t) read f h in
    let e = stripped (codes ", ") t u mark in
    let l = shrinks u f found in
    omega (arith, e, l)

module _ (n : ℕ) (one other : List ℕ → FoundInText (List ℕ)) (agree : Agree n one other) (shrinks : Shrinks one) where
  comma_agree : (t : List ℕ) → length t ≤ n → comma one t ≡ comma other t
  comma_agree t short = by (strip (codes ", ") t) refl
    where
      by : (o : Option (List ℕ)) → strip (codes ", ") t ≡ o → bind o one ≡ bind o other
      by None e = refl
      by (Some u) e = agree u (let k = stripped (codes ", ") t u e in omega (arith, k, short))

  pub many_agree : (k : ℕ) (t : List ℕ) → length t ≤ n → many_within k (comma one) t ≡ many_within k (comma other) t
  many_agree zero t short = refl
  many_agree (suc k) t short = by (comma one t) refl (many_agree k) ∙ ap (λ (f : FoundInText (List ℕ)). after f (many_within k (comma other)) t) (comma_agree t short)
    where
      by : (o : FoundInText (List ℕ)) → comma one t ≡ o → ((u : List ℕ) → length u ≤ n → many_within k (comma one) u ≡ many_within k (comma other) u) →
          after (comma one t) (many_within k (comma one)) t ≡ after (comma one t) (many_within k (comma other)) t
      by None e deeper = rw e refl
      by (Some f) e deeper =
          let shorter = comma_left one shrinks t f e in
          let same = deeper f.1 (omega (arith, shorter, short)) in
          rw e (λ i. (f.0 ∷ (same i).0, (same i).1))

  pub row_agree : (t : List ℕ) → length t ≤ n → row one t ≡ row other t
  row_agree t short = by (one t) refl ∙ ap (λ (f : FoundInText (List ℕ)). row_from other f t) (agree t short)
    where
      by : (o : FoundInText (List ℕ)) → one t ≡ o → row_from one (one t) t ≡ row_from other (one t) t
      by None e = rw e refl
      by (Some f) e =
          let shorter = shrinks t f e in
          let same = many_agree (length f.1) f.1 (omega (arith, shorter, short)) in
          rw e (λ i. (f.0 ∷ (same i).0, (same i).1))

  pub rest_agree : (heads : ItemTable) (b : Begin × List ℕ) → length b.1 ≤ n → rest_read one heads b ≡ rest_read other heads b
  rest_agree heads (Begin.Whole ty, t) short = refl
  rest_agree heads (Begin.Around around, t) short = ap (λ (f : FoundInText (List ℕ)). bind f (λ f. as_ (around_text around f.0) (around_end around f.1))) (agree t short)
  rest_agree heads (Begin.Row, t) short = ap (tuple_from other) (row_agree t short)

-- as many as there are, by any number that is no less than there are bytes
module _ (read : List ℕ → FoundInText (List ℕ)) (shrinks : Shrinks read) where
  pub many_enough : (k m : ℕ) (t : List ℕ) → length t ≤ k → length t ≤ m → many_within k (comma read) t ≡ many_within m (comma read) t
  many_enough zero zero t a b = refl
  many_enough zero (suc m) [] a b = refl
  many_enough zero (suc m) (c ∷ cs) a b = absurd (omega arith)
  many_enough (suc k) zero [] a b = refl
  many_enough (suc k) zero (c ∷ cs) a b = absurd (omega arith)
  many_enough (suc k) (suc m) t a b = by (comma read t) refl (λ u l h. many_enough k m u l h)
    where
      by : (o : FoundInText (List ℕ)) → comma read t ≡ o → ((u : List ℕ) → length u ≤ k → length u ≤ m → many_within k (comma read) u ≡ many_within m (comma read) u) →
          after (comma read t) (many_within k (comma read)) t ≡ after (comma read t) (many_within m (comma read)) t
      by None e deeper = rw e refl
      by (Some f) e deeper =
          let shorter = comma_left read shrinks t f e in
          let same = deeper f.1 (omega (arith, shorter, a)) (omega (arith, shorter, b)) in
          rw e (λ i. (f.0 ∷ (same i).0, (same i).1))

-- ---- a type by itself
module _ (heads : ItemTable) where
  pub depth_free : (d e : ℕ) (t : List ℕ) → length t ≤ d → length t ≤ e → type_within heads d t ≡ type_within heads e t
  depth_free zero zero t a b = refl
  depth_free zero (suc e) [] a b = refl
  depth_free zero (suc e) (c ∷ cs) a b = absurd (omega arith)
  depth_free (suc d) zero [] a b = refl
  depth_free (suc d) zero (c ∷ cs) a b = absurd (omega arith)
  depth_free (suc d) (suc e) t a b = by (begin_read heads t) refl (λ u l h. depth_free d e u l h)
    where
      by : (o : FoundInText Begin) → begin_read heads t ≡ o →
          ((u : List ℕ) → length u ≤ d → length u ≤ e → type_within heads d u ≡ type_within heads e u) →
          bind (begin_read heads t) (rest_read (type_within heads d) heads) ≡ bind (begin_read heads t) (rest_read (type_within heads e) heads)
      by None is deeper = rw is refl
      by (Some f) is deeper =
          let shorter = begin_left heads t f is in
          rw is (rest_agree (length f.1) (type_within heads d) (type_within heads e) (λ u short. deeper u (omega (arith, shorter, short, a)) (omega (arith, shorter, short, b)))
          (within_shrinks heads d) heads f (omega arith))

  pub read_shrinks : Shrinks (type_read heads)
  read_shrinks t f h = within_shrinks heads (length t) t f h

  -- each depth that is enough reads as the type is read by itself
  pub by_itself : (d : ℕ) → Agree d (type_within heads d) (type_read heads)
  by_itself d t short = depth_free d (length t) t short (omega arith)

  -- how a type begins, and what is read behind that
  pub read_unfolds : (t : List ℕ) → type_read heads t ≡ bind (begin_read heads t) (rest_read (type_read heads) heads)
  read_unfolds [] = refl
  read_unfolds (c ∷ cs) = by (begin_read heads (c ∷ cs)) refl
    where
      by : (o : FoundInText Begin) → begin_read heads (c ∷ cs) ≡ o →
          bind (begin_read heads (c ∷ cs)) (rest_read (type_within heads (length cs)) heads) ≡ bind (begin_read heads (c ∷ cs)) (rest_read (type_read heads) heads)
      by None is = rw is refl
      by (Some f) is =
          let shorter = begin_left heads (c ∷ cs) f is in
          rw is (rest_agree (length cs) (type_within heads (length cs)) (type_read heads) (by_itself (length cs)) (within_shrinks heads (length cs)) heads f (omega (arith, shorter)))

  -- rows of types, each read by itself
  pub more_by_itself : (t : List ℕ) → many (comma (type_within heads (length t))) t ≡ many (comma (type_read heads)) t
  more_by_itself t = many_agree (length t) (type_within heads (length t)) (type_read heads) (by_itself (length t)) (within_shrinks heads (length t)) (length t) t (omega arith)

  pub row_by_itself : (t : List ℕ) → row (type_within heads (length t)) t ≡ row (type_read heads) t
  row_by_itself t = row_agree (length t) (type_within heads (length t)) (type_read heads) (by_itself (length t)) (within_shrinks heads (length t)) t (omega arith)

  -- nothing begins at the end of a text
  pub nothing_read : (t : List ℕ) → length t ≤ 0 → type_read heads t ≡ None
  nothing_read [] short = refl
  nothing_read (c ∷ cs) short = absurd (omega (arith, short))
