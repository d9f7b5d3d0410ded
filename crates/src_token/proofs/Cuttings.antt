-- Each text has one cutting.
use Rattle.std.proofs.Common.{◌≡◌, ℕ, zero, suc, true, ◌≤◌, List, [], ◌∷◌, ◌++◌, length, take, drop, refl, ap, sym, ◌∙◌, subst, arith, length-drop}
use Rattle.std.proofs.lemmas.List.{take-append-drop, length-take-le, append_cancel_right}
use Rattle.src_token.specs.declared.piece.Beginning.{Beginning}
use Rattle.src_token.specs.declared.piece.Beginning.TheVariants.{Blank, Digit, Quote, DoubleQuote, Slash, Sign, Letter, Other}
use Rattle.src_token.specs.declared.piece.TokenPiece.{TokenPiece}
use Rattle.src_token.specs.declared.piece.Reading.{Reading}
use Rattle.src_token.specs.declared.mark.Mark.{Mark}
use Rattle.src_token.specs.declared.piece.Reading.TheVariants.{Reads}
use Rattle.src_token.specs.declared.token.Token.{Token}
use Rattle.src_token.specs.Beginnings.{beginning_of, is_identifier}
use Rattle.src_token.specs.Comments.{EndsComment}
use Rattle.src_token.specs.Rows.{TokenRow, text_reading}
use Rattle.src_token.specs.Scanning.{next_piece}
use Rattle.src_token.specs.Tokens.{Cut, Begins, Cutting, OneCutting}
use Rattle.src_token.proofs.Described.{Described, IsDescribed, row_described, LabelRow, none, named, TextRow, open_one, whole, SlashRow, alone, to_line_end, to_nowhere, to_end}
use Rattle.src_token.proofs.Comments.{ends_nonempty}
use Rattle.src_token.proofs.Longest.{Next, next_is, same_heads}

-- a piece of a text as a cut
abbrev pub cut_of : List ℕ → TokenPiece → Cut
cut_of text p = record { piece = take p.length text; reading = p.reading }

module _ (c : ℕ) (cs : List ℕ) (b : Beginning) (is : beginning_of c ≡ b) (p : TokenPiece) (next : Next c cs b p) where
  taken : take p.length (c ∷ cs) ≡ c ∷ take next.count cs
  taken = rw next.counted refl

  taken_length : length (take p.length (c ∷ cs)) ≡ suc next.count
  taken_length = rw taken (ap suc (length-take-le next.count cs next.good.within))

  longest_here : (longer others : List ℕ) (reading : Reading) → c ∷ cs ≡ longer ++ others → IsDescribed longer reading → length longer ≤ suc next.count
  longest_here [] others reading same h = absurd h
  longest_here (d ∷ ds) others reading same h =
      let (head, tail) = same_heads c d cs (ds ++ others) same in
      let kind : beginning_of d ≡ b = rw (← head) is in
      let described : Described b d ds reading = subst (λ (k : Beginning). Described k d ds reading) kind h in
      let here : Described b c ds reading = subst (λ (f : ℕ). Described b f ds reading) (sym head) described in
      let short = next.good.longest ds others reading tail here in
      omega arith

  begins_next : Begins (c ∷ cs) (cut_of (c ∷ cs) p) (drop p.length (c ∷ cs))
  begins_next = record {
    joined = sym (take-append-drop p.length (c ∷ cs));
    described = subst (λ (w : List ℕ). TokenRow w p.reading) (sym taken) next.good.row;
    longest = λ longer others reading same row.
        rw taken_length (longest_here longer others reading same (row_described longer reading row));
  }

pub begins_at : (c : ℕ) (cs : List ℕ) → Begins (c ∷ cs) (cut_of (c ∷ cs) (next_piece (c ∷ cs))) (drop (next_piece (c ∷ cs)).length (c ∷ cs))
begins_at c cs = begins_next c cs (beginning_of c) refl (next_piece (c ∷ cs)) (next_is c cs)

-- a cutting of a text of no more than so many characters
some_cutting : (n : ℕ) (text : List ℕ) → length text ≤ n → (cuts : List Cut) × Cutting text cuts
some_cutting n [] short = ([], refl)
some_cutting zero (c ∷ cs) short = absurd (omega arith)
some_cutting (suc n) (c ∷ cs) short =
    let p = next_piece (c ∷ cs) in
    let counted = (next_is c cs).counted in
    let rest : length (drop (next_piece (c ∷ cs)).length (c ∷ cs)) ≤ n = rw length-drop (omega arith) in
    let (cuts, cutting) = some_cutting n (drop (next_piece (c ∷ cs)).length (c ∷ cs)) rest in
    (cut_of (c ∷ cs) (next_piece (c ∷ cs)) ∷ cuts, (drop (next_piece (c ∷ cs)).length (c ∷ cs), begins_at c cs, cutting))

-- what a row says of a piece is one thing
one_label : (cs : List ℕ) (r s : Reading) → LabelRow cs r → LabelRow cs s → r ≡ s
one_label cs r s (none e p) (none f q) = p ∙ sym q
one_label cs r s (none e p) (named f q) = let t : is_identifier [] ≡ true = subst (λ (w : List ℕ). is_identifier w ≡ true) e f in absurd (cc)
one_label cs r s (named e p) (none f q) = let t : is_identifier [] ≡ true = subst (λ (w : List ℕ). is_identifier w ≡ true) f e in absurd (cc)
one_label cs r s (named e p) (named f q) = p ∙ sym q

not_empty : (inside : List ℕ) (x : ℕ) → [] ≡ inside ++ x ∷ [] → ⊥
not_empty [] x h = cc
not_empty (y ∷ ys) x h = cc

one_text : (cs : List ℕ) (r s : Reading) → TextRow cs r → TextRow cs s → r ≡ s
one_text cs r s (open_one e p) (open_one f q) = p ∙ sym q
one_text cs r s (open_one e p) (whole inside f h q) = absurd (not_empty inside 34 (sym e ∙ f))
one_text cs r s (whole inside e h p) (open_one f q) = absurd (not_empty inside 34 (sym f ∙ e))
one_text cs r s (whole inside e h p) (whole others f k q) = p ∙ ap text_reading (append_cancel_right inside others (34 ∷ []) (sym e ∙ f)) ∙ sym q

ended : (inside : List ℕ) → EndsComment inside → inside ≡ [] → ⊥
ended inside h e = let (c, cs, is) = ends_nonempty inside h in cc

one_slash : (cs : List ℕ) (r s : Reading) → SlashRow cs r → SlashRow cs s → r ≡ s
one_slash cs r s (alone e p) (alone f q) = p ∙ sym q
one_slash cs r s (alone e p) (to_line_end line f h q) = absurd (cc)
one_slash cs r s (alone e p) (to_nowhere f q) = absurd (cc)
one_slash cs r s (alone e p) (to_end inside f h q) = absurd (cc)
one_slash cs r s (to_line_end line e h p) (alone f q) = absurd (cc)
one_slash cs r s (to_line_end line e h p) (to_line_end others f k q) = p ∙ sym q
one_slash cs r s (to_line_end line e h p) (to_nowhere f q) = let t = same_heads 47 42 line [] (sym e ∙ f) in absurd (omega (arith, t.0))
one_slash cs r s (to_line_end line e h p) (to_end inside f k q) = let t = same_heads 47 42 line inside (sym e ∙ f) in absurd (omega (arith, t.0))
one_slash cs r s (to_nowhere e p) (alone f q) = absurd (cc)
one_slash cs r s (to_nowhere e p) (to_line_end line f h q) = let t = same_heads 42 47 [] line (sym e ∙ f) in absurd (omega (arith, t.0))
one_slash cs r s (to_nowhere e p) (to_nowhere f q) = p ∙ sym q
one_slash cs r s (to_nowhere e p) (to_end inside f h q) = absurd (ended inside h (sym (same_heads 42 42 [] inside (sym e ∙ f)).1))
one_slash cs r s (to_end inside e h p) (alone f q) = absurd (cc)
one_slash cs r s (to_end inside e h p) (to_line_end line f k q) = let t = same_heads 42 47 inside line (sym e ∙ f) in absurd (omega (arith, t.0))
one_slash cs r s (to_end inside e h p) (to_nowhere f q) = absurd (ended inside h (same_heads 42 42 inside [] (sym e ∙ f)).1)
one_slash cs r s (to_end inside e h p) (to_end others f k q) = p ∙ sym q

one_reading : (b : Beginning) (c : ℕ) (cs : List ℕ) (r s : Reading) → Described b c cs r → Described b c cs s → r ≡ s
one_reading Blank c cs r s h k = h.1 ∙ sym k.1
one_reading Digit c cs r s h k = h.1 ∙ sym k.1
one_reading Quote c cs r s h k = one_label cs r s h k
one_reading DoubleQuote c cs r s h k = one_text cs r s h k
one_reading Slash c cs r s h k = one_slash cs r s h k
one_reading Sign c cs r s (m, h, p) (n, k, q) = let same : m ≡ n = cc in p ∙ ap (λ (m : Mark). Reads (Token.Mark m)) same ∙ sym q
one_reading Letter c cs r s h k = h.1 ∙ sym k.1
one_reading Other c cs r s h k = h.1 ∙ sym k.1

rows_agree : (piece : List ℕ) (r s : Reading) → TokenRow piece r → TokenRow piece s → r ≡ s
rows_agree [] r s h k = absurd (row_described [] r h)
rows_agree (c ∷ cs) r s h k = one_reading (beginning_of c) c cs r s (row_described (c ∷ cs) r h) (row_described (c ∷ cs) s k)

-- two beginnings of one list that are equally long
same_front : (xs ys rest others : List ℕ) → xs ++ rest ≡ ys ++ others → length xs ≡ length ys → (xs ≡ ys) × (rest ≡ others)
same_front [] [] rest others h k = (refl, h)
same_front [] (y ∷ ys) rest others h k = absurd (omega arith)
same_front (x ∷ xs) [] rest others h k = absurd (omega arith)
same_front (x ∷ xs) (y ∷ ys) rest others h k =
    let (head, tail) = same_heads x y (xs ++ rest) (ys ++ others) h in
    let (fronts, rests) = same_front xs ys rest others tail (omega arith) in
    (cc, rests)

no_piece : (cut : Cut) (rest : List ℕ) → Begins [] cut rest → ⊥
no_piece cut rest begins = nothing_described cut.piece rest cut.reading begins.joined begins.described
  where
    nothing_described : (piece rest : List ℕ) (r : Reading) → [] ≡ piece ++ rest → TokenRow piece r → ⊥
    nothing_described [] rest r h row = row_described [] r row
    nothing_described (c ∷ cs) rest r h row = cc

same_cut : (p q : List ℕ) (r s : Reading) → p ≡ q → r ≡ s → ◌≡◌ {A = Cut} (record { piece = p; reading = r }) (record { piece = q; reading = s })
same_cut p q r s e f = cc

same_begin : (text : List ℕ) (a b : Cut) (rest others : List ℕ) → Begins text a rest → Begins text b others → (a ≡ b) × (rest ≡ others)
same_begin text a b rest others x y =
    let long = x.longest b.piece others b.reading y.joined y.described in
    let long_too = y.longest a.piece rest a.reading x.joined x.described in
    let (pieces, rests) = same_front a.piece b.piece rest others (sym x.joined ∙ y.joined) (omega arith) in
    let readings = rows_agree b.piece a.reading b.reading (subst (λ (w : List ℕ). TokenRow w a.reading) pieces x.described) y.described in
    (same_cut a.piece b.piece a.reading b.reading pieces readings, rests)

pub same_cutting : (text : List ℕ) (xs ys : List Cut) → Cutting text xs → Cutting text ys → xs ≡ ys
same_cutting text [] [] h k = refl
same_cutting text [] (b ∷ ys) h (rest, begins, cutting) = absurd (no_piece b rest (subst (λ (t : List ℕ). Begins t b rest) h begins))
same_cutting text (a ∷ xs) [] (rest, begins, cutting) k = absurd (no_piece a rest (subst (λ (t : List ℕ). Begins t a rest) k begins))
same_cutting text (a ∷ xs) (b ∷ ys) (rest, begins, cutting) (others, begins_too, cutting_too) =
    let (heads, rests) = same_begin text a b rest others begins begins_too in
    let tails = same_cutting rest xs ys cutting (subst (λ (t : List ℕ). Cutting t ys) (sym rests) cutting_too) in
    cc

pub the_cuts : List ℕ → List Cut
the_cuts text = (some_cutting (length text) text (omega arith)).0

pub the_cutting : (text : List ℕ) → Cutting text (the_cuts text)
unfolding the_cuts
the_cutting text = (some_cutting (length text) text (omega arith)).1

pub one_cutting : (text : List ℕ) → OneCutting text
one_cutting text = record { cuts = the_cuts text; cutting = the_cutting text; unique = λ others cutting. same_cutting text others (the_cuts text) cutting (the_cutting text) }

-- the cuts of a text are its first piece and the cuts of the rest
pub cuts_step : (text : List ℕ) (cut : Cut) (rest : List ℕ) → Begins text cut rest → the_cuts text ≡ cut ∷ the_cuts rest
cuts_step text cut rest begins = same_cutting text (the_cuts text) (cut ∷ the_cuts rest) (the_cutting text) (rest, begins, the_cutting rest)

pub cuts_none : the_cuts [] ≡ []
cuts_none = same_cutting [] (the_cuts []) [] (the_cutting []) refl
