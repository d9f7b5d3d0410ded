-- A tree gets its places: each node that of its first token, by the token's number.
use Rattle.std.proofs.Common.{◌≡◌, ℕ, zero, suc, ◌+◌, ◌-◌, ◌<◌, ◌≤◌, Bool, true, false, ◌&&◌, max, List, [], ◌∷◌, ◌++◌, length, drop, Option, Some, None, slice_get, refl, ap, sym, subst, ◌∙◌, arith, length-drop, length-append, append_assoc}
use Rattle.std.proofs.lemmas.Bool.{and_parts}
use Rattle.mir_base.specs.declared.place_in_text.Pos.{Pos}
use Rattle.src_token.specs.declared.token.Token.{Token}
use Rattle.src_tree.specs.declared.row.GrammarRow.{GrammarRow}
use Rattle.src_tree.specs.declared.place.GrammarPlace.{GrammarPlace}
use Rattle.src_tree.specs.declared.place.Seen.{Seen}
use Rattle.src_tree.specs.Grammar.{counts, GrammarRest, move, behind, seen}
use Rattle.src_tree.specs.Layout.{SyntaxNode, node, Parts, end, tok, sub, spell, spell_parts, depth, parts_depth, row_of, due_place, entry_rest, joined_place, joined_rest, Levelled, Begun, Follows}
use Rattle.src_parse.specs.Answers.{Placed, PartsPlaced}

abbrev pub Places : Type 0
Places = ℕ → Pos

-- the places from the n-th on
abbrev pub from : ℕ → Places → Places
from n f = λ m. f (n + m)

abbrev mutual
  pub placed : SyntaxNode (Unit {0}) → Places → SyntaxNode Pos
  placed (node at row parts) f = node (f 0) row (placed_parts parts f)

  pub placed_parts : Parts (Unit {0}) → Places → Parts Pos
  placed_parts end f = end
  placed_parts (tok t rest) f = tok t (placed_parts rest (from 1 f))
  placed_parts (sub g rest) f = sub (placed g f) (placed_parts rest (from (length (spell g [])) f))

-- ---- places change neither spelling nor depth nor level

mutual
  pub same_spelling : (g : SyntaxNode (Unit {0})) (f : Places) (k : List Token) → spell (placed g f) k ≡ spell g k
  same_spelling (node at row parts) f k = same_spellings parts f k

  pub same_spellings : (ps : Parts (Unit {0})) (f : Places) (k : List Token) →
      spell_parts (placed_parts ps f) k ≡ spell_parts ps k
  same_spellings end f k = refl
  same_spellings (tok t rest) f k = ap (λ ts. t ∷ ts) (same_spellings rest (from 1 f) k)
  same_spellings (sub g rest) f k =
      same_spelling g f _ ∙ ap (spell g) (same_spellings rest (from (length (spell g [])) f) k)

mutual
  pub same_depth : (g : SyntaxNode (Unit {0})) (f : Places) → depth (placed g f) ≡ depth g
  same_depth (node at row parts) f = ap (λ n. counts row + n) (same_depths parts f)

  pub same_depths : (ps : Parts (Unit {0})) (f : Places) → parts_depth (placed_parts ps f) ≡ parts_depth ps
  same_depths end f = refl
  same_depths (tok t rest) f = same_depths rest (from 1 f)
  same_depths (sub g rest) f =
      ap (λ n. max n (parts_depth (placed_parts rest (from (length (spell g [])) f)))) (same_depth g f)
      ∙ ap (λ n. max (depth g) n) (same_depths rest (from (length (spell g [])) f))

same_row : (g : SyntaxNode (Unit {0})) (f : Places) → row_of (placed g f) ≡ row_of g
same_row (node at row parts) f = refl

mutual
  levelled_too : (g : SyntaxNode (Unit {0})) (f : Places) (o : Option GrammarPlace) → Levelled o g →
      Levelled o (placed g f)
  levelled_too (node at row parts) f None l = absurd l
  levelled_too (node at row parts) f (Some c) l = (l.0, begun_too parts f (seen c) row l.1)

  begun_too : (ps : Parts (Unit {0})) (f : Places) (s : Seen) (r : GrammarRow) → Begun s r ps →
      Begun s r (placed_parts ps f)
  begun_too end f s r b = absurd b
  begun_too (tok t rest) f s r b = follows_too rest (from 1 f) s.head (entry_rest s t) r b
  begun_too (sub g end) f s r b = absurd b
  begun_too (sub g (sub h rest)) f s r b = absurd b
  begun_too (sub g (tok t rest)) f s r b =
      (levelled_too g f (joined_place s t) b.0, follows_too rest _ s.head (joined_rest s t) r b.1)

  pub follows_too : (ps : Parts (Unit {0})) (f : Places) (head : Bool) (o : Option GrammarRest) (r : GrammarRow) →
      Follows head o r ps → Follows head o r (placed_parts ps f)
  follows_too end f head None r l = absurd l
  follows_too end f head (Some q) r l = l
  follows_too (tok t rest) f head None r l = absurd l
  follows_too (tok t rest) f head (Some q) r l = follows_too rest (from 1 f) head (move q t) r l
  follows_too (sub g rest) f head None r l = absurd l
  follows_too (sub g rest) f head (Some q) r l = (
    levelled_too g f (due_place head q) l.0,
    subst (λ row. Follows head (Some (behind q row)) r (placed_parts rest (from (length (spell g [])) f)))
        (sym (same_row g f))
        (follows_too rest (from (length (spell g [])) f) head (Some (behind q (row_of g))) r l.1),
  )

-- ---- the places of a list

abbrev pub AreAt : Places → List Pos → Type 0
AreAt f ps = (n : ℕ) → n < length ps → slice_get ps n ≡ Some (f n)

get_drop : (ps : List Pos) (n m : ℕ) → slice_get (drop n ps) m ≡ slice_get ps (n + m)
get_drop ps zero m = let e : 0 + m ≡ m = omega arith in rw e refl
get_drop [] (suc n) m = refl
get_drop (x ∷ xs) (suc n) m = let e : suc n + m ≡ suc (n + m) = omega arith in rw e (get_drop xs n m)

at_from : (f : Places) (ps : List Pos) (n : ℕ) → AreAt f ps → AreAt (from n f) (drop n ps)
at_from f ps n at m l =
    let counted : length (drop n ps) ≡ length ps - n = length-drop n ps in
    let short : n + m < length ps = omega (arith, l, counted) in
    get_drop ps n m ∙ at (n + m) short

mutual
  spelled_onto : (g : SyntaxNode (Unit {0})) (k : List Token) → spell g k ≡ spell g [] ++ k
  spelled_onto (node at row parts) k = all_spelled_onto parts k

  all_spelled_onto : (ps : Parts (Unit {0})) (k : List Token) → spell_parts ps k ≡ spell_parts ps [] ++ k
  all_spelled_onto end k = refl
  all_spelled_onto (tok t rest) k = ap (λ ts. t ∷ ts) (all_spelled_onto rest k)
  all_spelled_onto (sub g rest) k =
      spelled_onto g (spell_parts rest k) ∙ ap (λ ts. spell g [] ++ ts) (all_spelled_onto rest k)
      ∙ sym (append_assoc (spell g []) (spell_parts rest []) k)
      ∙ ap (λ ts. ts ++ k) (sym (spelled_onto g (spell_parts rest [])))

-- each node has a token
abbrev is_filled : List Token → Bool
is_filled [] = false
is_filled (t ∷ ts) = true

abbrev mutual
  pub filled : SyntaxNode (Unit {0}) → Bool
  filled (node at row parts) = is_filled (spell_parts parts []) && all_filled parts

  pub all_filled : Parts (Unit {0}) → Bool
  all_filled end = true
  all_filled (tok t rest) = all_filled rest
  all_filled (sub g rest) = filled g && all_filled rest

counted : (g : SyntaxNode (Unit {0})) (rest : Parts (Unit {0})) →
    length (spell g (spell_parts rest [])) ≡ length (spell g []) + length (spell_parts rest [])
counted g rest = ap (λ ts. length ts) (spelled_onto g (spell_parts rest []))
    ∙ length-append (spell g []) (spell_parts rest [])

some_token : (ts : List Token) → is_filled ts ≡ true → 0 < length ts
some_token [] h = cc
some_token (t ∷ ts) h = omega arith

mutual
  node_stands : (g : SyntaxNode (Unit {0})) (f : Places) (ps : List Pos) → AreAt f ps →
      length (spell g []) ≤ length ps →
      filled g ≡ true → Placed (placed g f) ps
  node_stands (node at row parts) f ps are long full =
      let k = and_parts (is_filled (spell_parts parts [])) _ full in
      let some = some_token (spell_parts parts []) k.0 in
      (are 0 (omega (arith, some, long)), parts_stand parts f ps are long k.1)

  pub parts_stand : (qs : Parts (Unit {0})) (f : Places) (ps : List Pos) → AreAt f ps →
      length (spell_parts qs []) ≤ length ps →
      all_filled qs ≡ true → PartsPlaced (placed_parts qs f) ps
  parts_stand end f ps are long full = tt
  parts_stand (tok t rest) f ps are long full =
      parts_stand rest (from 1 f) (drop 1 ps) (at_from f ps 1 are)
      (let dropped : length (drop 1 ps) ≡ length ps - 1 = length-drop 1 ps in omega (arith, dropped, long)) full
  parts_stand (sub g rest) f ps are long full =
      let k = and_parts (filled g) _ full in
      let sum = counted g rest in
      let same : length (spell (placed g f) []) ≡ length (spell g []) = ap (λ ts. length ts) (same_spelling g f []) in
      let dropped : length (drop (length (spell g [])) ps) ≡ length ps - length (spell g []) =
      length-drop (length (spell g [])) ps in (
        node_stands g f ps are (omega (arith, sum, long)) k.0,
        subst (λ n. PartsPlaced (placed_parts rest (from (length (spell g [])) f)) (drop n ps)) (sym same)
            (parts_stand rest (from (length (spell g [])) f) (drop (length (spell g [])) ps)
            (at_from f ps (length (spell g [])) are)
            (omega (arith, sum, long, dropped)) k.1),
      )
