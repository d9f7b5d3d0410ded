-- A section that is read passes through its lines, as far as a text has them.
use Rattle.std.proofs.Common.{◌≡◌, ℕ, zero, suc, ◌+◌, ◌<◌, ◌≤◌, List, [], ◌∷◌, ◌++◌, take, length, Some, None, refl, ap, subst, ◌∙◌, arith, append_assoc, length-append, inl, inr}
use Rattle.std.specs.Prelude.{◌⊎◌}
use Rattle.std.proofs.lemmas.Bool.{cases_lt}
use Rattle.std.proofs.lemmas.List.{take-append-le, length-take-le}
use Rattle.std.proofs.lemmas.List.Concat.{flat_map-append}
use Rattle.std.proofs.Math.Seq.{take-append-add}
use Rattle.listing_write.specs.Lines.{Line, line_text}
use Rattle.listing_write.specs.Lists.{line}
use Rattle.listing_write.specs.Reading.Words.{FoundInText}
use Rattle.listing_write.proofs.Reading.Basics.{Every}
use Rattle.mir_text.specs.SectionReading.{onward, on_within}
use Rattle.mir_text.proofs.Onward.{one_more, no_more}
use Rattle.mir_text.specs.Beginning.{texts}

-- the first line is such
abbrev pub Begin : (Line → Type 0) → List Line → Type 0
Begin P [] = ⊥
Begin P (l ∷ ls) = P l

pub texts-append : (xs ys : List Line) → texts (xs ++ ys) ≡ texts xs ++ texts ys
texts-append xs ys = flat_map-append (λ (one : Line). line (line_text one)) xs ys

-- each line has a byte
pub texts_long : (ls : List Line) → length ls ≤ length (texts ls)
texts_long [] = omega arith
texts_long (l ∷ ls) =
    let more = texts_long ls in
    let one = length-append (line_text l) (10 ∷ []) in
    let all = length-append (line (line_text l)) (texts ls) in
    omega (arith, more, one, all)

pub every_append : {X : Type 0} (P : X → Type 0) (xs ys : List X) → Every P (xs ++ ys) → Every P xs × Every P ys
every_append P [] ys h = (tt, h)
every_append P (x ∷ xs) ys h = let deeper = every_append P xs ys h.1 in ((h.0, deeper.0), deeper.1)

pub every_joined : {X : Type 0} (P : X → Type 0) (xs ys : List X) → Every P xs → Every P ys → Every P (xs ++ ys)
every_joined P [] ys a b = b
every_joined P (x ∷ xs) ys a b = (a.0, every_joined P xs ys a.1 b)

-- the first lines of some lines and of those behind them: they end among the first, or go on behind
pub record Within (A B : List Line) (c : ℕ) : Type 0 where
  pub few : c ≤ length A
  pub are : take c (A ++ B) ≡ take c A

pub record Beyond (A B : List Line) (c : ℕ) : Type 0 where
  pub more : ℕ
  pub many : c ≡ length A + suc more
  pub are : take c (A ++ B) ≡ A ++ take (suc more) B

pub ends_where : (A B : List Line) (c : ℕ) → Within A B c ⊎ Beyond A B c
ends_where A B c = by (cases_lt (length A) c)
  where
    by : (length A < c) ⊎ (c ≤ length A) → Within A B c ⊎ Beyond A B c
    by (inl h) = at (excess (length A) c h)
      where
        excess : (a c : ℕ) → a < c → (d : ℕ) × (c ≡ a + suc d)
        excess zero zero h = absurd (omega arith)
        excess zero (suc c) h = (c, omega arith)
        excess (suc a) zero h = absurd (omega arith)
        excess (suc a) (suc c) h = let deeper = excess a c (omega arith) in let same = deeper.1 in (deeper.0, omega (arith, same))

        at : (d : ℕ) × (c ≡ length A + suc d) → Within A B c ⊎ Beyond A B c
        at q = inr (record { more = q.0; many = q.1; are = ap (λ (n : ℕ). take n (A ++ B)) q.1 ∙ take-append-add A B (suc q.0) })
    by (inr h) = inl (record { few = h; are = take-append-le c A B h })

module _ {S : Type 0} (step : S → List ℕ → FoundInText S) (count : S → ℕ) (P : Line → Type 0) where
  -- each line that stands is found, and counts
  abbrev pub Passes : S → List Line → S → Type 0
  Passes s [] u = s ≡ u
  Passes s (l ∷ ls) u =
      (v : S) × (P l → (r : List ℕ) → step s (line (line_text l) ++ r) ≡ Some (v, r)) × (count v ≡ suc (count s)) × Passes v ls u

  pub through : (ls : List Line) (s u : S) (fuel k : ℕ) (r : List ℕ) → Every P ls → fuel ≡ length ls + k → Passes s ls u → on_within fuel step s (texts ls ++ r) ≡ on_within k step u r
  through [] s u fuel k r stand e p = let same : fuel ≡ k = omega arith in λ i. on_within (same i) step (p i) r
  through (l ∷ ls) s u fuel k r stand e p =
      let found : step s (texts (l ∷ ls) ++ r) ≡ Some (p.0, texts ls ++ r) = ap (step s) (append_assoc (line (line_text l)) (texts ls) r) ∙ p.1 stand.0 (texts ls ++ r) in
      let next : fuel ≡ suc (length ls + k) = omega arith in
      one_more step fuel (length ls + k) s p.0 (texts (l ∷ ls) ++ r) (texts ls ++ r) next found
      ∙ through ls p.0 u (length ls + k) k r stand.1 refl p.3

  -- the first of the lines
  pub first_of_them : (ls : List Line) (s u : S) (c : ℕ) → Passes s ls u → (v : S) × Passes s (take c ls) v
  first_of_them ls s u zero p = (s, refl)
  first_of_them [] s u (suc c) p = (s, refl)
  first_of_them (l ∷ ls) s u (suc c) p =
      let deeper = first_of_them ls p.0 u c p.3 in
      (deeper.0, (p.0, p.1, p.2, deeper.1))

  pub counted_so : (ls : List Line) (s u : S) → Passes s ls u → count u ≡ count s + length ls
  counted_so [] s u p = let same = ap count p in omega (arith, same)
  counted_so (l ∷ ls) s u p =
      let deeper = counted_so ls p.0 u p.3 in
      let one = p.2 in
      omega (arith, deeper, one)

  abbrev pub Grows : Type 0
  Grows = (s u : S) (t r : List ℕ) → step s t ≡ Some (u, r) → count s ≤ count u

  pub never_less : Grows → (k : ℕ) (s : S) (t : List ℕ) → count s ≤ count (on_within k step s t).0
  never_less each zero s t = omega arith
  never_less each (suc k) s t = by (step s t) refl (never_less each k)
    where
      by : (o : FoundInText S) → step s t ≡ o → ((u : S) (r : List ℕ) → count u ≤ count (on_within k step u r).0) → count s ≤ count (onward o (on_within k step) s t).0
      by None e deeper = omega arith
      by (Some f) e deeper = let one = each s f.0 t f.1 e in let more = deeper f.0 f.1 in omega (arith, one, more)

  -- a section reads all lines of its own that a text begins with; where it has one behind them, it ends there
  abbrev pub Read : List Line → List Line → S → S → ℕ → List ℕ → S × List ℕ → Type 0
  Read A B s u c behind q =
      ((c ≤ length A) × (count s + c ≤ count q.0)) ⊎
      ((d : ℕ) × (c ≡ length A + suc d) × (q.0 ≡ u) × (q.1 ≡ texts (take (suc d) B) ++ behind))

  pub section : (A B : List Line) (s u : S) (c : ℕ) (t behind : List ℕ) → Grows → Passes s A u → Begin (λ l. (s : S) (r : List ℕ) → step s (line (line_text l) ++ r) ≡ None) B
      → Every P (take c (A ++ B)) → t ≡ texts (take c (A ++ B)) ++ behind → Read A B s u c behind (on_within (length t) step s t)
  section A B s u c t behind grows passes ends stand is = by (ends_where A B c)
    where
      stopped : (B : List Line) (d : ℕ) → Begin (λ l. (s : S) (r : List ℕ) → step s (line (line_text l) ++ r) ≡ None) B → step u (texts (take (suc d) B) ++ behind) ≡ None
      stopped [] d h = absurd h
      stopped (l ∷ ls) d h = ap (step u) (append_assoc (line (line_text l)) (texts (take d ls)) behind) ∙ h u (texts (take d ls) ++ behind)

      by : Within A B c ⊎ Beyond A B c → Read A B s u c behind (on_within (length t) step s t)
      by (inl w) =
          let own : List Line = take c A in
          let split = first_of_them A s u c passes in
          let stands : Every P own = subst (Every P) w.are stand in
          let whole : t ≡ texts own ++ behind = is ∙ ap (λ (ls : List Line). texts ls ++ behind) w.are in
          let long : length own ≡ c = length-take-le c A w.few in
          let room : length own ≤ length t = (let bytes = texts_long own in let sum = ap length whole ∙ length-append (texts own) behind in omega (arith, bytes, sum)) in
          let rest = spare (length own) (length t) room in
          let result : on_within (length t) step s t ≡ on_within rest.0 step split.0 behind =
          ap (on_within (length t) step s) whole ∙ through own s split.0 (length t) rest.0 behind stands rest.1 split.1 in
          let counts = counted_so own s split.0 split.1 in
          let least = never_less grows rest.0 split.0 behind in
          let same = ap (λ (q : S × List ℕ). count q.0) result in
          inl (w.few, omega (arith, counts, least, same, long))
        where
          spare : (a b : ℕ) → a ≤ b → (k : ℕ) × (b ≡ a + k)
          spare zero b h = (b, omega arith)
          spare (suc a) zero h = absurd (omega arith)
          spare (suc a) (suc b) h = let deeper = spare a b (omega arith) in let same = deeper.1 in (deeper.0, omega (arith, same))
      by (inr w) =
          let others : List Line = take (suc w.more) B in
          let stands : Every P A = (every_append P A others (subst (Every P) w.are stand)).0 in
          let whole : t ≡ texts A ++ (texts others ++ behind) =
          is ∙ ap (λ (ls : List Line). texts ls ++ behind) w.are ∙ ap (λ (x : List ℕ). x ++ behind) (texts-append A others) ∙ append_assoc (texts A) (texts others) behind in
          let room : length A ≤ length t = (let bytes = texts_long A in let sum = ap length whole ∙ length-append (texts A) (texts others ++ behind) in omega (arith, bytes, sum)) in
          let rest = spare (length A) (length t) room in
          let result : on_within (length t) step s t ≡ (u, texts others ++ behind) =
          ap (on_within (length t) step s) whole ∙ through A s u (length t) rest.0 (texts others ++ behind) stands rest.1 passes
          ∙ no_more step rest.0 u (texts others ++ behind) (stopped B w.more ends) in
          inr (w.more, w.many, ap (λ (q : S × List ℕ). q.0) result, ap (λ (q : S × List ℕ). q.1) result)
        where
          spare : (a b : ℕ) → a ≤ b → (k : ℕ) × (b ≡ a + k)
          spare zero b h = (b, omega arith)
          spare (suc a) zero h = absurd (omega arith)
          spare (suc a) (suc b) h = let deeper = spare a b (omega arith) in let same = deeper.1 in (deeper.0, omega (arith, same))

-- the lines behind those of a section stand
pub stand_behind : (P : Line → Type 0) (A B : List Line) (c : ℕ) → Every P (take c (A ++ B)) → (d : ℕ) → c ≡ length A + suc d → Every P (take (suc d) B)
stand_behind P [] B c h d e = subst (λ (k : ℕ). Every P (take k B)) (let same : c ≡ suc d = omega arith in same) h
stand_behind P (l ∷ A) B zero h d e = absurd (omega arith)
stand_behind P (l ∷ A) B (suc c) h d e = stand_behind P A B c h.1 d (omega arith)
