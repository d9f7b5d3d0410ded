-- Things with numbers are read through, as far as a text has their lines, until one is broken off.
use Rattle.std.proofs.Common.{◌≡◌, ℕ, zero, suc, ◌+◌, ◌<◌, ◌≤◌, Bool, true, false, List, [], ◌∷◌, ◌++◌, take, length, Some, None, refl, ap, subst, ◌∙◌, arith, append_assoc, length-append, inl, inr}
use Rattle.std.specs.Prelude.{◌⊎◌}
use Rattle.std.proofs.Math.Seq.{take-append-add}
use Rattle.listing_write.specs.Lines.{Line, line_text, lines_each}
use Rattle.listing_write.specs.Lists.{line}
use Rattle.listing_write.specs.Reading.Rows.{after, many_within}
use Rattle.listing_write.specs.Reading.Words.{FoundInText}
use Rattle.listing_write.proofs.Reading.Basics.{Every}
use Rattle.listing_lines.specs.CodeReading.{goes_on, until_within}
use Rattle.mir_text.specs.Beginning.{texts}
use Rattle.mir_text.proofs.Sections.{Begin, texts-append, texts_long, every_append}

pub begin_some : (P : Line → Type 0) (ls : List Line) → Begin P ls → 0 < length ls
begin_some P [] h = absurd h
begin_some P (l ∷ ls) h = omega arith

begin_more : (P : Line → Type 0) (ls more : List Line) → Begin P ls → Begin P (ls ++ more)
begin_more P [] more h = absurd h
begin_more P (l ∷ ls) more h = h

pub begin_up : (P Q : Line → Type 0) → ((l : Line) → P l → Q l) → (ls : List Line) → Begin P ls → Begin Q ls
begin_up P Q up [] h = absurd h
begin_up P Q up (l ∷ ls) h = up l h

-- a text that begins with a line has a byte
some_bytes : (P : Line → Type 0) (ls : List Line) (c : ℕ) (behind : List ℕ) → Begin P ls → 0 < length (texts (take (suc c) ls) ++ behind)
some_bytes P [] c behind h = absurd h
some_bytes P (l ∷ ls) c behind h =
    let long = texts_long (take (suc c) (l ∷ ls)) in
    let sum = length-append (texts (take (suc c) (l ∷ ls))) behind in
    omega (arith, long, sum)

-- rows of things of one line each
module _ {Y : Type 0} (read : List ℕ → FoundInText Y) (P : Line → Type 0) where
  abbrev pub Founds : List Line → Type 0
  Founds ls = Every (λ l. (y : Y) × (P l → (r : List ℕ) → read (line (line_text l) ++ r) ≡ Some (y, r))) ls

  abbrev pub Rows : List Line → List Line → ℕ → List ℕ → List Y × List ℕ → Type 0
  Rows ls rest c behind q =
      ((c ≤ length ls) × (c ≤ length q.0)) ⊎
      ((d : ℕ) × (c ≡ length ls + suc d) × (length q.0 ≡ length ls) × (q.1 ≡ texts (take (suc d) rest) ++ behind))

  pub rows_through : (ls rest : List Line) (fuel c : ℕ) (t behind : List ℕ) → Founds ls → Begin (λ l. P l → (r : List ℕ) → read (line (line_text l) ++ r) ≡ None) rest
      → Every P (take c (ls ++ rest)) → t ≡ texts (take c (ls ++ rest)) ++ behind → length t ≤ fuel → Rows ls rest c behind (many_within fuel read t)
  rows_through ls rest fuel zero t behind founds ends stand is room = inl (omega arith, omega arith)
  rows_through [] [] fuel (suc c) t behind founds ends stand is room = absurd ends
  rows_through [] (b ∷ rest) fuel (suc c) t behind founds ends stand is room = by fuel
    where
      none : read t ≡ None
      none = ap read (is ∙ append_assoc (line (line_text b)) (texts (take c rest)) behind) ∙ ends stand.0 (texts (take c rest) ++ behind)

      by : (fuel : ℕ) → Rows [] (b ∷ rest) (suc c) behind (many_within fuel read t)
      by zero = inr (c, omega arith, refl, is)
      by (suc fuel) =
          let result : many_within (suc fuel) read t ≡ ([], t) = ap (λ (f : FoundInText Y). after f (many_within fuel read) t) none in
          inr (c, omega arith, ap (λ (q : List Y × List ℕ). length q.0) result, ap (λ (q : List Y × List ℕ). q.1) result ∙ is)
  rows_through (l ∷ ls) rest zero (suc c) t behind founds ends stand is room =
      let some = some_bytes (λ l. Unit {0}) (l ∷ (ls ++ rest)) c behind tt in
      let same = ap length is in
      absurd (omega (arith, some, same, room))
  rows_through (l ∷ ls) rest (suc fuel) (suc c) t behind founds ends stand is room =
      let u : List ℕ = texts (take c (ls ++ rest)) ++ behind in
      let split : t ≡ line (line_text l) ++ u = is ∙ append_assoc (line (line_text l)) (texts (take c (ls ++ rest))) behind in
      let found : read t ≡ Some (founds.0.0, u) = ap read split ∙ founds.0.1 stand.0 u in
      let result : many_within (suc fuel) read t ≡ (founds.0.0 ∷ (many_within fuel read u).0, (many_within fuel read u).1) = ap (λ (f : FoundInText Y). after f (many_within fuel read) t) found in
      let one = length-append (line_text l) (10 ∷ []) in
      let sum = ap length split ∙ length-append (line (line_text l)) u in
      by (many_within (suc fuel) read t) result (rows_through ls rest fuel c u behind founds.1 ends stand.1 refl (omega (arith, one, sum, room)))
    where
      by : (q : List Y × List ℕ) → q ≡ (founds.0.0 ∷ (many_within fuel read (texts (take c (ls ++ rest)) ++ behind)).0, (many_within fuel read (texts (take c (ls ++ rest)) ++ behind)).1)
          → Rows ls rest c behind (many_within fuel read (texts (take c (ls ++ rest)) ++ behind)) → Rows (l ∷ ls) rest (suc c) behind q
      by q same (inl h) = let count = ap (λ (q : List Y × List ℕ). length q.0) same in let few = h.0 in let got = h.1 in inl (omega (arith, few), omega (arith, count, got))
      by q same (inr h) =
          let count = ap (λ (q : List Y × List ℕ). length q.0) same in
          let many = h.1 in
          let own = h.2 in
          inr (h.0, omega (arith, many), omega (arith, count, own), ap (λ (q : List Y × List ℕ). q.1) same ∙ h.3)

-- the line that is missing of what is broken off
abbrev pub missing : Bool → ℕ
missing true = 0
missing false = 1

module _ {X Y : Type 0} (read : ℕ → List ℕ → FoundInText (Y × Bool)) (lines : ℕ → X → List Line) (full : Y → ℕ) (P Q E : Line → Type 0) where
  abbrev pub total : List Y → ℕ
  total [] = 0
  total (y ∷ ys) = full y + total ys

  -- what is read of a thing whose lines a text has in part, or all of them and some behind them
  pub record Partly (size c : ℕ) (found : FoundInText (Y × Bool)) : Type 0 where
    pub few : c ≤ size
    pub thing : Y
    pub whole : Bool
    pub rest : List ℕ
    pub is : found ≡ Some ((thing, whole), rest)
    pub some : c + missing whole ≤ full thing

  pub record Wholly (size c : ℕ) (after : List Line) (behind : List ℕ) (found : FoundInText (Y × Bool)) : Type 0 where
    pub more : ℕ
    pub many : c ≡ size + suc more
    pub thing : Y
    pub is : found ≡ Some ((thing, true), texts (take (suc more) after) ++ behind)
    pub all : full thing ≡ size

  abbrev pub OneByOne : Type 0
  OneByOne =
      (n : ℕ) (x : X) (after : List Line) (c : ℕ) (t behind : List ℕ) → Begin Q after → Every P (take (suc c) (lines n x ++ after)) → t ≡ texts (take (suc c) (lines n x ++ after)) ++ behind
      → Partly (length (lines n x)) (suc c) (read n t) ⊎ Wholly (length (lines n x)) (suc c) after behind (read n t)

  -- and of many
  pub record PartlyAll (size c : ℕ) (q : (List Y × Bool) × List ℕ) : Type 0 where
    pub few : c ≤ size
    pub some : c + missing q.0.1 ≤ total q.0.0

  pub record WhollyAll (size c : ℕ) (after : List Line) (behind : List ℕ) (q : (List Y × Bool) × List ℕ) : Type 0 where
    pub more : ℕ
    pub many : c ≡ size + suc more
    pub whole : q.0.1 ≡ true
    pub rest : q.1 ≡ texts (take (suc more) after) ++ behind
    pub all : total q.0.0 ≡ size

  module _ (some : (y : Y) → 0 < full y) where
    pub broken_some : (k n : ℕ) (t : List ℕ) → missing (until_within k read n t).0.1 ≤ total (until_within k read n t).0.0
    broken_some zero n t = omega arith
    broken_some (suc k) n t = by (read n t) (broken_some k (suc n))
      where
        by : (o : FoundInText (Y × Bool)) → ((u : List ℕ) → missing (until_within k read (suc n) u).0.1 ≤ total (until_within k read (suc n) u).0.0)
            → missing (goes_on o (until_within k read (suc n)) t).0.1 ≤ total (goes_on o (until_within k read (suc n)) t).0.0
        by None deeper = omega arith
        by (Some ((y, false), r)) deeper = let one = some y in omega (arith, one)
        by (Some ((y, true), r)) deeper = let others = deeper r in omega (arith, others)

    module _ (one : OneByOne) (first : (n : ℕ) (x : X) → Begin Q (lines n x)) (up : (l : Line) → E l → Q l) (ends : (n : ℕ) (l : Line) (r : List ℕ) → E l → read n (line (line_text l) ++ r) ≡ None) where
      abbrev Until : List X → ℕ → List Line → ℕ → List ℕ → (List Y × Bool) × List ℕ → Type 0
      Until xs n after c behind q = PartlyAll (length (lines_each lines n xs)) c q ⊎ WhollyAll (length (lines_each lines n xs)) c after behind q

      next_begins : (xs : List X) (n : ℕ) (after : List Line) → Begin E after → Begin Q (lines_each lines n xs ++ after)
      next_begins [] n after h = begin_up E Q up after h
      next_begins (x ∷ xs) n after h = begin_more Q (lines n x ++ lines_each lines (suc n) xs) after (begin_more Q (lines n x) (lines_each lines (suc n) xs) (first n x))

      pub until : (xs : List X) (n fuel c : ℕ) (t behind : List ℕ) (after : List Line) → Begin E after → Every P (take c (lines_each lines n xs ++ after)) → t ≡ texts (take c (lines_each lines n xs ++ after)) ++ behind
          → length t ≤ fuel → Until xs n after c behind (until_within fuel read n t)
      until xs n fuel zero t behind after e stand is room = let least = broken_some fuel n t in inl (record { few = omega arith; some = omega (arith, least) })
      until xs n zero (suc c) t behind after e stand is room =
          let bytes = some_bytes Q (lines_each lines n xs ++ after) c behind (next_begins xs n after e) in
          let same = ap length is in
          absurd (omega (arith, bytes, same, room))
      until [] n (suc fuel) (suc c) t behind [] e stand is room = absurd e
      until [] n (suc fuel) (suc c) t behind (l ∷ ls) e stand is room =
          let none : read n t ≡ None = ap (read n) (is ∙ append_assoc (line (line_text l)) (texts (take c ls)) behind) ∙ ends n l (texts (take c ls) ++ behind) e in
          let result : until_within (suc fuel) read n t ≡ (([], true), t) = ap (λ (f : FoundInText (Y × Bool)). goes_on f (until_within fuel read (suc n)) t) none in
          inr (record {
            more = c;
            many = omega arith;
            whole = ap (λ (q : (List Y × Bool) × List ℕ). q.0.1) result;
            rest = ap (λ (q : (List Y × Bool) × List ℕ). q.1) result ∙ is;
            all = ap (λ (q : (List Y × Bool) × List ℕ). total q.0.0) result;
          })
      until (x ∷ xs) n (suc fuel) (suc c) t behind after e stand is room =
          let others : List Line = lines_each lines (suc n) xs ++ after in
          let same : (lines n x ++ lines_each lines (suc n) xs) ++ after ≡ lines n x ++ others = append_assoc (lines n x) (lines_each lines (suc n) xs) after in
          let stands : Every P (take (suc c) (lines n x ++ others)) = subst (λ (ls : List Line). Every P (take (suc c) ls)) same stand in
          let whole : t ≡ texts (take (suc c) (lines n x ++ others)) ++ behind = is ∙ ap (λ (ls : List Line). texts (take (suc c) ls) ++ behind) same in
          by (one n x others c t behind (next_begins xs (suc n) after e) stands whole) stands whole (λ d u. until xs (suc n) fuel (suc d) u behind after e)
        where
          rest : List Line
          rest = lines_each lines (suc n) xs ++ after

          by : Partly (length (lines n x)) (suc c) (read n t) ⊎ Wholly (length (lines n x)) (suc c) rest behind (read n t) → Every P (take (suc c) (lines n x ++ rest))
              → t ≡ texts (take (suc c) (lines n x ++ rest)) ++ behind
              → ((d : ℕ) (u : List ℕ) → Every P (take (suc d) rest) → u ≡ texts (take (suc d) rest) ++ behind → length u ≤ fuel → Until xs (suc n) after (suc d) behind (until_within fuel read (suc n) u))
              → Until (x ∷ xs) n after (suc c) behind (until_within (suc fuel) read n t)
          by (inl p) stands whole deeper = inl (record { few = (let few = p.few in let sum = length-append (lines n x) (lines_each lines (suc n) xs) in omega (arith, few, sum)); some = at p.whole p.is p.some })
            where
              at : (w : Bool) → read n t ≡ Some ((p.thing, w), p.rest) → suc c + missing w ≤ full p.thing → suc c + missing (until_within (suc fuel) read n t).0.1 ≤ total (until_within (suc fuel) read n t).0.0
              at true found some =
                  let q : (List Y × Bool) × List ℕ = until_within fuel read (suc n) p.rest in
                  let result : until_within (suc fuel) read n t ≡ ((p.thing ∷ q.0.0, q.0.1), q.1) = ap (λ (f : FoundInText (Y × Bool)). goes_on f (until_within fuel read (suc n)) t) found in
                  let least = broken_some fuel (suc n) p.rest in
                  let flag = ap (λ (q : (List Y × Bool) × List ℕ). missing q.0.1) result in
                  let count = ap (λ (q : (List Y × Bool) × List ℕ). total q.0.0) result in
                  omega (arith, some, least, flag, count)
              at false found some =
                  let result : until_within (suc fuel) read n t ≡ ((p.thing ∷ [], false), p.rest) = ap (λ (f : FoundInText (Y × Bool)). goes_on f (until_within fuel read (suc n)) t) found in
                  let flag = ap (λ (q : (List Y × Bool) × List ℕ). missing q.0.1) result in
                  let count = ap (λ (q : (List Y × Bool) × List ℕ). total q.0.0) result in
                  omega (arith, some, flag, count)
          by (inr w) stands whole deeper =
              let own : List Line = lines n x in
              let u : List ℕ = texts (take (suc w.more) rest) ++ behind in
              let taken : take (suc c) (own ++ rest) ≡ own ++ take (suc w.more) rest = ap (λ (k : ℕ). take k (own ++ rest)) w.many ∙ take-append-add own rest (suc w.more) in
              let split : t ≡ texts own ++ u =
              whole ∙ ap (λ (ls : List Line). texts ls ++ behind) taken ∙ ap (λ (v : List ℕ). v ++ behind) (texts-append own (take (suc w.more) rest)) ∙ append_assoc (texts own) (texts (take (suc w.more) rest)) behind in
              let bytes = texts_long own in
              let some_lines = begin_some Q own (first n x) in
              let sum = ap length split ∙ length-append (texts own) u in
              let stands_behind : Every P (take (suc w.more) rest) = (every_append P own (take (suc w.more) rest) (subst (Every P) taken stands)).1 in
              let q : (List Y × Bool) × List ℕ = until_within fuel read (suc n) u in
              let result : until_within (suc fuel) read n t ≡ ((w.thing ∷ q.0.0, q.0.1), q.1) = ap (λ (f : FoundInText (Y × Bool)). goes_on f (until_within fuel read (suc n)) t) w.is in
              at (until_within (suc fuel) read n t) q result (deeper w.more u stands_behind refl (omega (arith, bytes, some_lines, sum, room)))
            where
              at : (p q : (List Y × Bool) × List ℕ) → p ≡ ((w.thing ∷ q.0.0, q.0.1), q.1) → Until xs (suc n) after (suc w.more) behind q → Until (x ∷ xs) n after (suc c) behind p
              at p q result (inl h) =
                  let flag = ap (λ (q : (List Y × Bool) × List ℕ). missing q.0.1) result in
                  let count = ap (λ (q : (List Y × Bool) × List ℕ). total q.0.0) result in
                  let size = length-append (lines n x) (lines_each lines (suc n) xs) in
                  let few = h.few in
                  let some = h.some in
                  let many = w.many in
                  let all = w.all in
                  inl (record { few = omega (arith, size, few, many); some = omega (arith, flag, count, some, many, all) })
              at p q result (inr h) =
                  let count = ap (λ (q : (List Y × Bool) × List ℕ). total q.0.0) result in
                  let size = length-append (lines n x) (lines_each lines (suc n) xs) in
                  let these = h.many in
                  let many = w.many in
                  let all = w.all in
                  let others = h.all in
                  inr (record {
                    more = h.more;
                    many = omega (arith, size, these, many);
                    whole = ap (λ (q : (List Y × Bool) × List ℕ). q.0.1) result ∙ h.whole;
                    rest = ap (λ (q : (List Y × Bool) × List ℕ). q.1) result ∙ h.rest;
                    all = omega (arith, size, count, all, others);
                  })
