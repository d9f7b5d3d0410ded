-- The next piece is the longest that a row describes.
use Rattle.std.proofs.Common.{◌≡◌, ℕ, zero, suc, ◌+◌, ◌<◌, ◌≤◌, Bool, true, false, ◌||◌, List, [], ◌∷◌, ◌++◌, length, take, get_or, Option, Some, None, refl, ap, sym, ◌∙◌, subst, arith, eqb, length-append, length-take, append_assoc}
use Rattle.std.specs.Prelude.{is_some, slice_index, position}
use Rattle.std.specs.List.{list_all, prefix_len}
use Rattle.std.specs.Str.{encode_utf8_all}
use Rattle.std.proofs.lemmas.Bool.{eqb-true, eq-eqb, and_parts, and_from}
use Rattle.std.proofs.lemmas.List.{get_or_at}
use Rattle.std.proofs.lemmas.List.Quantifiers.{position-Some}
use Rattle.std.proofs.Math.Bool.{and-false}
use Rattle.std.proofs.Math.Seq.{take-suc}
use Rattle.unicode_ident.specs.Ident.{is_xid_start, is_xid_continue}
use Rattle.unicode_ident.proofs.IdentLemmas.{is_xid_start-is_xid_continue, is_xid_continue-ascii}
use Rattle.mir_base.specs.declared.int_kind.IntKind.{IntKind}
use Rattle.src_token.specs.declared.mark.Mark.{Mark}
use Rattle.src_token.specs.declared.piece.Beginning.{Beginning}
use Rattle.src_token.specs.declared.piece.Beginning.TheVariants.{Blank, Digit, Quote, DoubleQuote, Slash, Sign, Letter, Other}
use Rattle.src_token.specs.declared.piece.TokenFault.{TokenFault}
use Rattle.src_token.specs.declared.piece.TokenPiece.{TokenPiece}
use Rattle.src_token.specs.declared.piece.Reading.{Reading}
use Rattle.src_token.specs.declared.piece.Reading.TheVariants.{Skipped, Reads, Fails}
use Rattle.src_token.specs.declared.token.Token.{Token}
use Rattle.src_token.specs.Beginnings.{beginning_of, is_identifier}
use Rattle.src_token.specs.Comments.{EndsComment}
use Rattle.src_token.specs.Marks.{one_mark, two_mark}
use Rattle.src_token.specs.Numbers.{number_reading, number_of}
use Rattle.src_token.specs.Rows.{TokenRow, blank, line_comment, comment, open_comment, slash, mark, word, number, label, no_label, text, open_text, other, is_inside_text, is_inside_line, is_backslash, text_reading, text_with}
use Rattle.src_token.specs.Scanning.{piece, piece_by, next_piece, number_piece, word_piece, label_piece, text_piece, slash_piece, comment_piece, closing, sign_piece, two_signs, one_sign, Near, Stands}
use Rattle.src_token.proofs.Comments.{by_test, scan_ends, scan_is_comment}
use Rattle.src_token.proofs.Described.{Described, LabelRow, none, named, TextRow, open_one, whole, SlashRow, alone, to_line_end, to_nowhere, to_end}
use Rattle.src_token.proofs.FirstCharacters.{quote_is, double_quote_is, slash_is, sign_is}
use Rattle.src_token.proofs.Runs.{run_passes, run_within, passing_within, run_to}

-- behind a character the piece goes on for n characters, which a row describes, and for no more
pub record Good (c : ℕ) (cs : List ℕ) (b : Beginning) (n : ℕ) (r : Reading) : Type 0 where
  pub row : TokenRow (c ∷ take n cs) r
  pub within : n ≤ length cs
  pub near : Near n r
  pub longest : (ds later : List ℕ) (s : Reading) → cs ≡ ds ++ later → Described b c ds s → length ds ≤ n

pub record Next (c : ℕ) (cs : List ℕ) (b : Beginning) (p : TokenPiece) : Type 0 where
  pub count : ℕ
  pub counted : p.length ≡ suc count
  pub good : Good c cs b count p.reading

one_more : (n : ℕ) → 1 + n ≡ suc n
one_more n = omega arith

none_longer : (ds : List ℕ) → ds ≡ [] → length ds ≤ 0
none_longer ds e = rw e (omega arith)

module _ (c : ℕ) (cs : List ℕ) where
  next_blank : beginning_of c ≡ Blank → Next c cs Blank (piece 1 Skipped)
  next_blank e = record {
    count = 0;
    counted = refl;
    good = record { row = blank c e; within = omega arith; near = tt; longest = λ ds later s is h. none_longer ds h.0 };
  }

  next_other : beginning_of c ≡ Other → Next c cs Other (piece 1 (Fails TokenFault.BadChar 0))
  next_other e = record {
    count = 0;
    counted = refl;
    good = record { row = other c e; within = omega arith; near = omega arith; longest = λ ds later s is h. none_longer ds h.0 };
  }

  run_longest : (ds later : List ℕ) → cs ≡ ds ++ later → list_all is_xid_continue ds ≡ true → length ds ≤ prefix_len is_xid_continue cs
  run_longest ds later is h = rw is (passing_within is_xid_continue ds later h)

number_of_near : (n : ℕ) (value : Option ℕ) (suffix : Option (Option IntKind)) → Near n (number_of value suffix)
number_of_near n None suffix = omega arith
number_of_near n (Some value) None = omega arith
number_of_near n (Some value) (Some suffix) = tt

number_near : (run : List ℕ) (n : ℕ) → Near n (number_reading run)
unfolding number_reading
number_near run n = number_of_near n _ _

-- a number or a word
module _ (c : ℕ) (cs : List ℕ) where
  next_digit : beginning_of c ≡ Digit → Next c cs Digit (number_piece (c ∷ cs))
  next_digit e = record {
    count = prefix_len is_xid_continue cs;
    counted = one_more _;
    good = rw (one_more (prefix_len is_xid_continue cs)) (record {
      row = number c (take (prefix_len is_xid_continue cs) cs) e (run_passes is_xid_continue cs);
      within = run_within is_xid_continue cs;
      near = number_near (c ∷ take (prefix_len is_xid_continue cs) cs) (prefix_len is_xid_continue cs);
      longest = λ ds later s is h. run_longest c cs ds later is h.0;
    });
  }

  next_letter : beginning_of c ≡ Letter → Next c cs Letter (word_piece (c ∷ cs))
  next_letter e = record {
    count = prefix_len is_xid_continue cs;
    counted = one_more _;
    good = rw (one_more (prefix_len is_xid_continue cs)) (record {
      row = word c (take (prefix_len is_xid_continue cs) cs) e (run_passes is_xid_continue cs);
      within = run_within is_xid_continue cs;
      near = tt;
      longest = λ ds later s is h. run_longest c cs ds later is h.0;
    });
  }

-- an identifier
line_continues : is_xid_continue 95 ≡ true
line_continues = is_xid_continue-ascii 95 (omega arith)

begins_continue : (c : ℕ) → (is_xid_start c || eqb c 95) ≡ true → is_xid_continue c ≡ true
begins_continue c h =
    by_test (is_xid_start c) (λ k. is_xid_start-is_xid_continue c k)
    (λ k. let same : c ≡ 95 = eqb-true c 95 (sym (ap (λ (b : Bool). b || eqb c 95) k) ∙ h) in rw same line_continues)

identifier_continues : (ds : List ℕ) → is_identifier ds ≡ true → list_all is_xid_continue ds ≡ true
identifier_continues [] h = absurd (cc)
identifier_continues (c ∷ []) h = and_from _ _ (is_xid_start-is_xid_continue c h) refl
identifier_continues (c ∷ d ∷ ds) h =
    let (first, others) = and_parts _ _ h in and_from _ _ (begins_continue c first) others

begun : (c : ℕ) (xs : List ℕ) → is_xid_start c ≡ true → list_all is_xid_continue xs ≡ true → is_identifier (c ∷ xs) ≡ true
begun c [] h k = h
begun c (d ∷ xs) h k = and_from _ _ (ap (λ (b : Bool). b || eqb c 95) h) k

run_of : List ℕ → List ℕ
run_of xs = take (prefix_len is_xid_continue xs) xs

run_on : (c : ℕ) (xs : List ℕ) → is_xid_continue c ≡ true → take (prefix_len is_xid_continue (c ∷ xs)) (c ∷ xs) ≡ c ∷ take (prefix_len is_xid_continue xs) xs
run_on c xs h = rw (h, one_more (prefix_len is_xid_continue xs)) refl

identifier_run : (ds later : List ℕ) → is_identifier ds ≡ true → is_identifier (take (prefix_len is_xid_continue (ds ++ later)) (ds ++ later)) ≡ true
identifier_run [] later h = absurd (cc)
identifier_run (c ∷ []) later h =
    rw (run_on c later (is_xid_start-is_xid_continue c h)) (begun c _ h (run_passes is_xid_continue later))
identifier_run (c ∷ d ∷ ds) later h =
    let (first, others) = and_parts _ _ h in
    let (this, more) = and_parts (is_xid_continue d) _ others in
    rw (run_on c (d ∷ (ds ++ later)) (begins_continue c first), run_on d (ds ++ later) this)
    (and_from _ _ first (and_from _ _ this (run_passes is_xid_continue (ds ++ later))))

module _ (c : ℕ) (cs : List ℕ) (e : beginning_of c ≡ Quote) where
  label_row : (name : List ℕ) → is_identifier name ≡ true → TokenRow (c ∷ name) (Reads (Token.Label (encode_utf8_all name)))
  label_row name h = subst (λ (d : ℕ). TokenRow (d ∷ name) (Reads (Token.Label (encode_utf8_all name)))) (sym (quote_is c e)) (label name h)

  lone_row : TokenRow (c ∷ []) (Fails TokenFault.BadChar 0)
  lone_row = subst (λ (d : ℕ). TokenRow (d ∷ []) (Fails TokenFault.BadChar 0)) (sym (quote_is c e)) no_label

  label_longest : (ds later : List ℕ) (s : Reading) → cs ≡ ds ++ later → LabelRow ds s → length ds ≤ prefix_len is_xid_continue cs
  label_longest ds later s is (none empty r) = rw empty (omega arith)
  label_longest ds later s is (named h r) = run_longest c cs ds later is (identifier_continues ds h)

  lone_longest : is_identifier (take (prefix_len is_xid_continue cs) cs) ≡ false → (ds later : List ℕ) (s : Reading) → cs ≡ ds ++ later → LabelRow ds s → length ds ≤ 0
  lone_longest k ds later s is (none empty r) = none_longer ds empty
  lone_longest k ds later s is (named h r) =
      let run = identifier_run ds later h in
      let here : is_identifier (take (prefix_len is_xid_continue cs) cs) ≡ true = rw is run in
      absurd (cc)

  next_label : Next c cs Quote (label_piece (c ∷ cs))
  next_label =
      by_test (is_identifier (take (prefix_len is_xid_continue cs) cs))
      (λ h. rw h (record {
        count = prefix_len is_xid_continue cs;
        counted = one_more _;
        good = record {
          row = label_row _ h;
          within = run_within is_xid_continue cs;
          near = tt;
          longest = label_longest;
        };
      }))
      (λ h. rw h (record {
        count = 0;
        counted = refl;
        good = record { row = lone_row; within = omega arith; near = omega arith; longest = lone_longest h };
      }))

length-take-le-first : (k : ℕ) (xs : List ℕ) → length (take k xs) ≤ k
length-take-le-first k xs = rw length-take (omega arith)

-- a text
is_quote_at : (cs : List ℕ) (k : ℕ) → get_or cs k 0 ≡ 34 → k < length cs
is_quote_at [] k h = absurd (cc)
is_quote_at (c ∷ cs) zero h = omega arith
is_quote_at (c ∷ cs) (suc k) h = let ih = is_quote_at cs k h in omega arith

text_with_near : (inside : List ℕ) (n : ℕ) (before : Option ℕ) → position is_backslash inside ≡ before → length inside ≤ n → Near (suc n) (text_with inside before)
text_with_near inside n None h short = tt
text_with_near inside n (Some b) h short = let found = (position-Some is_backslash inside b 0 h).0 in omega arith

module _ (c : ℕ) (cs : List ℕ) (e : beginning_of c ≡ DoubleQuote) where
  text_row : (inside : List ℕ) → list_all is_inside_text inside ≡ true → TokenRow (c ∷ (inside ++ 34 ∷ [])) (text_reading inside)
  text_row inside h = subst (λ (d : ℕ). TokenRow (d ∷ (inside ++ 34 ∷ [])) (text_reading inside)) (sym (double_quote_is c e)) (text inside h)

  quote_row : TokenRow (c ∷ []) (Fails TokenFault.OpenText 0)
  quote_row = subst (λ (d : ℕ). TokenRow (d ∷ []) (Fails TokenFault.OpenText 0)) (sym (double_quote_is c e)) open_text

  length_of_text : (ds later inside : List ℕ) → cs ≡ ds ++ later → ds ≡ inside ++ 34 ∷ [] → list_all is_inside_text inside ≡ true → prefix_len is_inside_text cs ≡ length inside
  length_of_text ds later inside is parts h =
      let all : cs ≡ inside ++ 34 ∷ later = is ∙ ap (λ (w : List ℕ). w ++ later) parts ∙ append_assoc inside (34 ∷ []) later in
      rw all (run_to is_inside_text inside 34 later h refl)

  text_longest : (ds later : List ℕ) (s : Reading) → cs ≡ ds ++ later → TextRow ds s → length ds ≤ suc (prefix_len is_inside_text cs)
  text_longest ds later s is (open_one empty r) = rw empty (omega arith)
  text_longest ds later s is (whole inside parts h r) =
      let same = length_of_text ds later inside is parts h in
      let long : length ds ≡ length inside + 1 = rw (parts, length-append) refl in
      omega arith

  open_longest : (get_or cs (prefix_len is_inside_text cs) 0 ≡ 34 → ⊥) → (ds later : List ℕ) (s : Reading) → cs ≡ ds ++ later → TextRow ds s → length ds ≤ 0
  open_longest k ds later s is (open_one empty r) = none_longer ds empty
  open_longest k ds later s is (whole inside parts h r) =
      let same = length_of_text ds later inside is parts h in
      let all : cs ≡ inside ++ 34 ∷ later = is ∙ ap (λ (w : List ℕ). w ++ later) parts ∙ append_assoc inside (34 ∷ []) later in
      absurd (k (rw (same, all) (get_or_at inside 34 later 0 (length inside) refl)))

  at_quote : slice_index (c ∷ cs) (1 + prefix_len is_inside_text cs) ≡ get_or cs (prefix_len is_inside_text cs) 0
  at_quote = rw (one_more (prefix_len is_inside_text cs)) refl

  next_text : Next c cs DoubleQuote (text_piece (c ∷ cs))
  next_text =
      by_test (eqb (slice_index (c ∷ cs) (1 + prefix_len is_inside_text cs)) 34)
      (λ h.
      let here : get_or cs (prefix_len is_inside_text cs) 0 ≡ 34 = sym at_quote ∙ eqb-true _ 34 h in
      let within : prefix_len is_inside_text cs < length cs = is_quote_at cs _ here in
      let shape : take (suc (prefix_len is_inside_text cs)) cs ≡ take (prefix_len is_inside_text cs) cs ++ 34 ∷ [] =
      take-suc cs (prefix_len is_inside_text cs) 0 within ∙ ap (λ (q : ℕ). take (prefix_len is_inside_text cs) cs ++ q ∷ []) here in
      rw h (record {
        count = suc (prefix_len is_inside_text cs);
        counted = omega arith;
        good = record {
          row = rw shape (text_row (take (prefix_len is_inside_text cs) cs) (run_passes is_inside_text cs));
          within = omega arith;
          near = text_with_near (take (prefix_len is_inside_text cs) cs) (prefix_len is_inside_text cs) _ refl (length-take-le-first _ cs);
          longest = text_longest;
        };
      }))
      (λ h. rw h (record {
        count = 0;
        counted = refl;
        good = record {
          row = quote_row;
          within = omega arith;
          near = omega arith;
          longest = open_longest (λ k. let same : eqb (slice_index (c ∷ cs) (1 + prefix_len is_inside_text cs)) 34 ≡ true = eq-eqb _ 34 (at_quote ∙ k) in absurd (cc));
        };
      }))

-- a comment, or `/`
pub same_heads : (d e : ℕ) (ds es : List ℕ) → d ∷ ds ≡ e ∷ es → (d ≡ e) × (ds ≡ es)
same_heads d e ds es h = (cc, cc)

at_slash : (c : ℕ) (cs : List ℕ) (r : Reading) → beginning_of c ≡ Slash → TokenRow (47 ∷ cs) r → TokenRow (c ∷ cs) r
at_slash c cs r e h = subst (λ (d : ℕ). TokenRow (d ∷ cs) r) (sym (slash_is c e)) h

-- `/` at the end, and before what ends no mark
slash_ends : (ds later : List ℕ) (s : Reading) → [] ≡ ds ++ later → length ds ≤ 0
slash_ends [] later s is = omega arith
slash_ends (d ∷ ds) later s is = absurd (cc)

module _ (c d : ℕ) (ds : List ℕ) (e : beginning_of c ≡ Slash) where
  slash_longest : (d ≡ 47 → ⊥) → (d ≡ 42 → ⊥) → (es later : List ℕ) (s : Reading) → d ∷ ds ≡ es ++ later → SlashRow es s → length es ≤ 0
  slash_longest j k es later s is (alone empty r) = none_longer es empty
  slash_longest j k es later s is (to_line_end line parts h r) = absurd (j (same_heads d 47 ds (line ++ later) (is ∙ ap (λ (w : List ℕ). w ++ later) parts)).0)
  slash_longest j k es later s is (to_nowhere parts r) = absurd (k (same_heads d 42 ds later (is ∙ ap (λ (w : List ℕ). w ++ later) parts)).0)
  slash_longest j k es later s is (to_end inside parts h r) = absurd (k (same_heads d 42 ds (inside ++ later) (is ∙ ap (λ (w : List ℕ). w ++ later) parts)).0)

  line_longest : d ≡ 47 → (es later : List ℕ) (s : Reading) → d ∷ ds ≡ es ++ later → SlashRow es s → length es ≤ suc (prefix_len is_inside_line ds)
  line_longest j es later s is (alone empty r) = rw empty (omega arith)
  line_longest j es later s is (to_line_end line parts h r) =
      let rest : ds ≡ line ++ later = (same_heads d 47 ds (line ++ later) (is ∙ ap (λ (w : List ℕ). w ++ later) parts)).1 in
      let short : length line ≤ prefix_len is_inside_line ds = rw rest (passing_within is_inside_line line later h) in
      rw parts (omega arith)
  line_longest j es later s is (to_nowhere parts r) = rw parts (omega arith)
  line_longest j es later s is (to_end inside parts h r) =
      let star : d ≡ 42 = (same_heads d 42 ds (inside ++ later) (is ∙ ap (λ (w : List ℕ). w ++ later) parts)).0 in
      absurd (omega arith)

  found_inside : (es later inside : List ℕ) → d ∷ ds ≡ es ++ later → es ≡ 42 ∷ inside → EndsComment inside → closing 0 false ds ≡ Some (length inside + 0)
  found_inside es later inside is parts h =
      let rest : ds ≡ inside ++ later = (same_heads d 42 ds (inside ++ later) (is ∙ ap (λ (w : List ℕ). w ++ later) parts)).1 in
      rw rest (scan_ends inside h 0 later)

  comment_longest : (n : ℕ) → closing 0 false ds ≡ Some n → d ≡ 42 → (es later : List ℕ) (s : Reading) → d ∷ ds ≡ es ++ later → SlashRow es s → length es ≤ suc n
  comment_longest n k j es later s is (alone empty r) = rw empty (omega arith)
  comment_longest n k j es later s is (to_line_end line parts h r) =
      let slash_too : d ≡ 47 = (same_heads d 47 ds (line ++ later) (is ∙ ap (λ (w : List ℕ). w ++ later) parts)).0 in
      absurd (omega arith)
  comment_longest n k j es later s is (to_nowhere parts r) = rw parts (omega arith)
  comment_longest n k j es later s is (to_end inside parts h r) =
      let found = found_inside es later inside is parts h in
      let same : n ≡ length inside + 0 = cc in
      rw parts (omega arith)

  open_comment_longest : closing 0 false ds ≡ None → d ≡ 42 → (es later : List ℕ) (s : Reading) → d ∷ ds ≡ es ++ later → SlashRow es s → length es ≤ 1
  open_comment_longest k j es later s is (alone empty r) = rw empty (omega arith)
  open_comment_longest k j es later s is (to_line_end line parts h r) =
      let slash_too : d ≡ 47 = (same_heads d 47 ds (line ++ later) (is ∙ ap (λ (w : List ℕ). w ++ later) parts)).0 in
      absurd (omega arith)
  open_comment_longest k j es later s is (to_nowhere parts r) = rw parts (omega arith)
  open_comment_longest k j es later s is (to_end inside parts h r) =
      let found = found_inside es later inside is parts h in
      absurd (cc)

  line_piece_length : c ≡ 47 → d ≡ 47 → prefix_len is_inside_line (c ∷ d ∷ ds) ≡ suc (suc (prefix_len is_inside_line ds))
  line_piece_length i j = rw (i, j) (omega arith)

  next_line : d ≡ 47 → Next c (d ∷ ds) Slash (piece (prefix_len is_inside_line (c ∷ d ∷ ds)) Skipped)
  next_line j = record {
    count = suc (prefix_len is_inside_line ds);
    counted = line_piece_length (slash_is c e) j;
    good = record {
      row = at_slash c _ _ e (rw j (line_comment (take (prefix_len is_inside_line ds) ds) (run_passes is_inside_line ds)));
      within = let short = run_within is_inside_line ds in omega arith;
      near = tt;
      longest = line_longest j;
    };
  }

  next_comment : d ≡ 42 → (o : Option ℕ) → closing 0 false ds ≡ o → Next c (d ∷ ds) Slash (comment_piece o)
  next_comment j None k = record {
    count = 1;
    counted = refl;
    good = record {
      row = at_slash c _ _ e (rw j open_comment);
      within = omega arith;
      near = omega arith;
      longest = open_comment_longest k j;
    };
  }
  next_comment j (Some n) k = record {
    count = suc n;
    counted = omega arith;
    good = record {
      row = at_slash c _ _ e (rw j (comment (take n ds) (scan_is_comment ds n k).1));
      within = let short = (scan_is_comment ds n k).0 in omega arith;
      near = tt;
      longest = comment_longest n k j;
    };
  }

  next_slash_mark : (d ≡ 47 → ⊥) → (d ≡ 42 → ⊥) → Next c (d ∷ ds) Slash (piece 1 (Reads (Token.Mark Mark.Slash)))
  next_slash_mark j k = record {
    count = 0;
    counted = refl;
    good = record { row = at_slash c _ _ e slash; within = omega arith; near = tt; longest = slash_longest j k };
  }

  not_equal : (a b : ℕ) → eqb a b ≡ false → a ≡ b → ⊥
  not_equal a b h e = let t = eq-eqb a b e in cc

  next_slash : Next c (d ∷ ds) Slash (slash_piece (c ∷ d ∷ ds))
  next_slash =
      by_test (eqb d 47) (λ h. rw h (next_line (eqb-true d 47 h)))
      (λ h. by_test (eqb d 42) (λ k. rw (h, k) (next_comment (eqb-true d 42 k) _ refl)) (λ k. rw (h, k) (next_slash_mark (not_equal d 47 h) (not_equal d 42 k))))

next_slash_at : (c : ℕ) (cs : List ℕ) → beginning_of c ≡ Slash → Next c cs Slash (slash_piece (c ∷ cs))
next_slash_at c [] e = record {
  count = 0;
  counted = refl;
  good = record { row = at_slash c _ _ e slash; within = omega arith; near = tt; longest = λ ds later s is h. slash_ends ds later s is };
}
next_slash_at c (d ∷ ds) e = next_slash c d ds e

-- a mark
two_mark_zero : (c : ℕ) → two_mark c 0 ≡ None
two_mark_zero c = simp and-false refl

one_from : (o : Option Mark) → is_some o ≡ true → (m : Mark) × (o ≡ Some m)
one_from None h = absurd (cc)
one_from (Some m) h = (m, refl)

module _ (c : ℕ) (e : beginning_of c ≡ Sign) where
  last_longest : (ds later : List ℕ) (s : Reading) → [] ≡ ds ++ later → length ds ≤ 0
  last_longest ds later s is = slash_ends ds later s is

  one_longest : (d : ℕ) (ds : List ℕ) → two_mark c d ≡ None → (es later : List ℕ) (s : Reading) → d ∷ ds ≡ es ++ later → Described Sign c es s → length es ≤ 0
  one_longest d ds k [] later s is h = omega arith
  one_longest d ds k (f ∷ []) later s is (m, marked, r) =
      let same : d ≡ f = (same_heads d f ds later is).0 in
      let here : two_mark c d ≡ Some m = rw same marked in
      absurd (cc)
  one_longest d ds k (f ∷ g ∷ es) later s is (m, marked, r) = absurd (cc)

  two_longest : (d : ℕ) (ds es later : List ℕ) (s : Reading) → d ∷ ds ≡ es ++ later → Described Sign c es s → length es ≤ 1
  two_longest d ds [] later s is h = omega arith
  two_longest d ds (f ∷ []) later s is h = omega arith
  two_longest d ds (f ∷ g ∷ es) later s is (m, marked, r) = absurd (cc)

  next_one : (cs : List ℕ) → ((ds later : List ℕ) (s : Reading) → cs ≡ ds ++ later → Described Sign c ds s → length ds ≤ 0) → (o : Option Mark) → one_mark c ≡ o → is_some o ≡ true → Next c cs Sign (one_sign o)
  next_one cs short None is some = absurd (cc)
  next_one cs short (Some m) is some = record {
    count = 0;
    counted = refl;
    good = record { row = mark c [] m e is; within = omega arith; near = tt; longest = short };
  }

  next_two : (d : ℕ) (ds : List ℕ) (o : Option Mark) → two_mark c d ≡ o → Next c (d ∷ ds) Sign (two_signs o c)
  next_two d ds None is = next_one (d ∷ ds) (one_longest d ds is) (one_mark c) refl (sign_is c e)
  next_two d ds (Some m) is = record {
    count = 1;
    counted = refl;
    good = record { row = mark c (d ∷ []) m e is; within = omega arith; near = tt; longest = λ es later s same h. two_longest d ds es later s same h };
  }

next_sign : (c : ℕ) (cs : List ℕ) → beginning_of c ≡ Sign → Next c cs Sign (sign_piece (c ∷ cs))
next_sign c [] e =
    let nothing = two_mark_zero c in
    rw nothing (next_one c e [] (λ ds later s is h. slash_ends ds later s is) (one_mark c) refl (sign_is c e))
next_sign c (d ∷ ds) e = next_two c e d ds (two_mark c d) refl

next_by : (c : ℕ) (cs : List ℕ) (b : Beginning) → beginning_of c ≡ b → Next c cs b (piece_by b (c ∷ cs))
next_by c cs Blank e = next_blank c cs e
next_by c cs Digit e = next_digit c cs e
next_by c cs Quote e = next_label c cs e
next_by c cs DoubleQuote e = next_text c cs e
next_by c cs Slash e = next_slash_at c cs e
next_by c cs Sign e = next_sign c cs e
next_by c cs Letter e = next_letter c cs e
next_by c cs Other e = next_other c cs e

pub next_is : (c : ℕ) (cs : List ℕ) → Next c cs (beginning_of c) (next_piece (c ∷ cs))
next_is c cs = next_by c cs (beginning_of c) refl

near_more : (n : ℕ) (r : Reading) → Near n r → Near (suc n) r
near_more n Skipped h = tt
near_more n (Reads token) h = tt
near_more n (Fails fault passed) h = omega arith

stands_at : (c : ℕ) (cs : List ℕ) → Stands (c ∷ cs) (next_piece (c ∷ cs))
stands_at c cs =
    let next = next_is c cs in
    let counted = next.counted in
    let within = next.good.within in
    record {
      some = omega arith;
      within = omega arith;
      near = rw counted (near_more next.count _ next.good.near);
    }

pub stands : (rest : List ℕ) → 0 < length rest → Stands rest (next_piece rest)
stands [] h = absurd (omega arith)
stands (c ∷ cs) h = stands_at c cs
