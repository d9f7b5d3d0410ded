-- One turn of the lexer's loop.
use Rattle.std.proofs.Common.{◌≡◌, ℕ, zero, suc, ◌+◌, ◌<◌, ◌≤◌, List, [], ◌∷◌, ◌++◌, length, take, drop, get_or, Some, refl, ap, sym, ◌∙◌, arith, append_assoc}
use Rattle.std.proofs.lemmas.List.{drop_more, drop-drop, take-take, drop_all, append-nil}
use Rattle.mir_base.specs.declared.place_in_text.Pos.{Pos}
use Rattle.src_token.specs.declared.cursor.Cursor.{Cursor}
use Rattle.src_token.specs.declared.piece.TokenFault.{TokenFault}
use Rattle.src_token.specs.declared.piece.TokenPiece.{TokenPiece}
use Rattle.src_token.specs.declared.piece.Reading.{Reading}
use Rattle.src_token.specs.declared.piece.Reading.TheVariants.{Skipped, Reads, Fails}
use Rattle.src_token.specs.declared.token.LexError.{LexError}
use Rattle.src_token.specs.declared.token.Spanned.{Spanned}
use Rattle.src_token.specs.declared.token.Token.{Token}
use Rattle.src_token.specs.Cursors.{cursor_after}
use Rattle.src_token.specs.Scanning.{next_piece}
use Rattle.src_token.specs.Tokens.{Begins, CutTokens, CutError, CutRefused, tokens_of, token_of, first_error, error_or, error_at}
use Rattle.src_token.proofs.Cuttings.{the_cuts, the_cutting, cuts_step, cuts_none, begins_at, cut_of}

take_on : (xs : List ℕ) (i n : ℕ) → take i xs ++ take n (drop i xs) ≡ take (i + n) xs
take_on xs zero n = ap (λ (k : ℕ). take k xs) (omega arith)
take_on [] (suc i) zero = let e : suc i + 0 ≡ suc (i + 0) = omega arith in rw e refl
take_on [] (suc i) (suc n) = let e : suc i + suc n ≡ suc (i + suc n) = omega arith in rw e refl
take_on (x ∷ xs) (suc i) n = let e : suc i + n ≡ suc (i + n) = omega arith in rw e (ap (λ (w : List ℕ). x ∷ w) (take_on xs i n))

module _ (xs : List ℕ) (i : ℕ) (p : TokenPiece) (within : i < length xs) (is : p ≡ next_piece (drop i xs)) where
  cuts_at : the_cuts (drop i xs) ≡ cut_of (drop i xs) p ∷ the_cuts (drop (i + p.length) xs)
  cuts_at =
      let shape = drop_more xs i 0 within in
      let begins : Begins (drop i xs) (cut_of (drop i xs) (next_piece (drop i xs))) (drop (next_piece (drop i xs)).length (drop i xs)) =
      rw shape (begins_at (get_or xs i 0) (drop (i + 1) xs)) in
      let here : Begins (drop i xs) (cut_of (drop i xs) p) (drop p.length (drop i xs)) = rw is begins in
      cuts_step (drop i xs) (cut_of (drop i xs) p) (drop p.length (drop i xs)) here
      ∙ ap (λ (w : List ℕ). cut_of (drop i xs) p ∷ the_cuts w) (drop-drop p.length i xs)

  pub told_step : tokens_of (take i xs) (the_cuts (drop i xs))
      ≡ token_of (take i xs) (take p.length (drop i xs)) p.reading ++ tokens_of (take (i + p.length) xs) (the_cuts (drop (i + p.length) xs))
  told_step = rw (cuts_at, take_on xs i p.length) refl

  pub fails_step : first_error (take i xs) (the_cuts (drop i xs))
      ≡ error_or (take i xs) (take p.length (drop i xs)) p.reading (first_error (take (i + p.length) xs) (the_cuts (drop (i + p.length) xs)))
  fails_step = rw (cuts_at, take_on xs i p.length) refl

module _ (xs : List ℕ) (i : ℕ) (cursor after : Cursor) (p : TokenPiece) (within : i < length xs) (is : p ≡ next_piece (drop i xs))
    (at : cursor ≡ cursor_after (take i xs)) (past : after ≡ cursor_after (take (i + p.length) xs)) where
  spanned : Token → Spanned
  spanned token = record { token = token; at = cursor.at; start = cursor.bytes; end = after.bytes }

  token_here : (token : Token) → token_of (take i xs) (take p.length (drop i xs)) (Reads token) ≡ spanned token ∷ []
  unfolding cursor_after spanned
  token_here token = rw (at, past, take_on xs i p.length) refl

  pub told_skipped : (tokens : List Spanned) → p.reading ≡ Skipped
      → tokens_of [] (the_cuts xs) ≡ tokens ++ tokens_of (take i xs) (the_cuts (drop i xs))
      → tokens_of [] (the_cuts xs) ≡ tokens ++ tokens_of (take (i + p.length) xs) (the_cuts (drop (i + p.length) xs))
  told_skipped tokens skipped told = told ∙ ap (λ (ts : List Spanned). tokens ++ ts) (told_step xs i p within is ∙ rw skipped refl)

  pub told_token : (tokens more : List Spanned) (token : Token) → p.reading ≡ Reads token
      → more ≡ tokens ++ record { token = token; at = cursor.at; start = cursor.bytes; end = after.bytes } ∷ []
      → tokens_of [] (the_cuts xs) ≡ tokens ++ tokens_of (take i xs) (the_cuts (drop i xs))
      → tokens_of [] (the_cuts xs) ≡ more ++ tokens_of (take (i + p.length) xs) (the_cuts (drop (i + p.length) xs))
  unfolding spanned
  told_token tokens more token reads pushed told =
      let this : tokens_of (take i xs) (the_cuts (drop i xs)) ≡ (spanned token ∷ []) ++ tokens_of (take (i + p.length) xs) (the_cuts (drop (i + p.length) xs)) =
      told_step xs i p within is ∙ ap (λ (r : Reading). token_of (take i xs) (take p.length (drop i xs)) r ++ tokens_of (take (i + p.length) xs) (the_cuts (drop (i + p.length) xs))) reads
      ∙ ap (λ (ts : List Spanned). ts ++ tokens_of (take (i + p.length) xs) (the_cuts (drop (i + p.length) xs))) (token_here token) in
      told ∙ ap (λ (ts : List Spanned). tokens ++ ts) this ∙ sym (append_assoc tokens (spanned token ∷ []) _)
      ∙ ap (λ (ts : List Spanned). ts ++ tokens_of (take (i + p.length) xs) (the_cuts (drop (i + p.length) xs))) (sym pushed)

  pub none_skipped : p.reading ≡ Skipped → first_error [] (the_cuts xs) ≡ first_error (take i xs) (the_cuts (drop i xs))
      → first_error [] (the_cuts xs) ≡ first_error (take (i + p.length) xs) (the_cuts (drop (i + p.length) xs))
  none_skipped skipped fails = fails ∙ fails_step xs i p within is ∙ rw skipped refl

  pub none_token : (token : Token) → p.reading ≡ Reads token → first_error [] (the_cuts xs) ≡ first_error (take i xs) (the_cuts (drop i xs))
      → first_error [] (the_cuts xs) ≡ first_error (take (i + p.length) xs) (the_cuts (drop (i + p.length) xs))
  none_token token reads fails = fails ∙ fails_step xs i p within is ∙ rw reads refl

fault_refused : (xs : List ℕ) (fault : TokenFault) (at : Pos) → CutError xs (error_at fault at) → CutRefused xs (error_at fault at)
fault_refused xs TokenFault.BadChar at h = h
fault_refused xs TokenFault.BadNumber at h = h
fault_refused xs TokenFault.OpenComment at h = h
fault_refused xs TokenFault.OpenText at h = h

pub fails_here : (xs : List ℕ) (i : ℕ) (p : TokenPiece) (within : i < length xs) (is : p ≡ next_piece (drop i xs)) (fault : TokenFault) (before : ℕ) (place : Cursor) (error : LexError)
    → p.reading ≡ Fails fault before → before ≤ p.length → place ≡ cursor_after (take (i + before) xs) → error ≡ error_at fault place.at
    → first_error [] (the_cuts xs) ≡ first_error (take i xs) (the_cuts (drop i xs))
    → CutRefused xs error
unfolding cursor_after
fails_here xs i p within is fault before place error reads near at e fails =
    let prefix : take i xs ++ take before (take p.length (drop i xs)) ≡ take (i + before) xs =
    ap (λ (w : List ℕ). take i xs ++ w) (take-take before p.length (drop i xs) near) ∙ take_on xs i before in
    let first : first_error [] (the_cuts xs) ≡ Some (error_at fault place.at) =
    fails ∙ fails_step xs i p within is ∙ rw (reads, prefix, at) refl in
    rw e (fault_refused xs fault place.at (record { cuts = the_cuts xs; cutting = the_cutting xs; first = first }))

pub all_told : (xs : List ℕ) (i : ℕ) (tokens : List Spanned) → length xs ≤ i
    → tokens_of [] (the_cuts xs) ≡ tokens ++ tokens_of (take i xs) (the_cuts (drop i xs))
    → first_error [] (the_cuts xs) ≡ first_error (take i xs) (the_cuts (drop i xs))
    → CutTokens xs tokens
all_told xs i tokens over told fails =
    let nothing : the_cuts (drop i xs) ≡ [] = ap the_cuts (drop_all i xs over) ∙ cuts_none in
    record {
      cuts = the_cuts xs;
      cutting = the_cutting xs;
      no_error = fails ∙ rw nothing refl;
      told = sym (told ∙ rw (nothing, append-nil) refl);
    }
