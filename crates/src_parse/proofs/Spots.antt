-- Each node of the frames has the place of its first token.
use Rattle.std.proofs.Common.{◌≡◌, ℕ, ◌+◌, Bool, true, false, Option, Some, None, option_map, List, [], ◌∷◌, length, drop, slice_get, refl, sym, ap, ◌∙◌, subst, arith}
use Rattle.std.proofs.lemmas.List.{length-append, drop-drop}
use Rattle.mir_base.specs.declared.place_in_text.Pos.{Pos}
use Rattle.src_token.specs.declared.token.Token.{Token}
use Rattle.src_tree.specs.declared.row.GrammarRow.{GrammarRow}
use Rattle.src_tree.specs.declared.place.GrammarPlace.{GrammarPlace}
use Rattle.src_tree.specs.Grammar.{GrammarRest, allowed, move, made}
use Rattle.src_tree.specs.Layout.{SyntaxNode, node, Parts, end, tok, sub, spell, spell_parts}
use Rattle.src_tree.specs.Reading.{or_else, and_then, only_if, opens, joins, with_tok, with_sub, file_place}
use Rattle.src_tree.proofs.Spells.{spell_behind}
use Rattle.src_parse.specs.Answers.{Placed, PartsPlaced}
use Rattle.src_parse.specs.Counting.{Counted, taken, inside, began, with_node, goes_on, is_joined, act, close}

drop_more : {X : Type 0} (a b : ℕ) (xs : List X) → drop (a + b) xs ≡ drop b (drop a xs)
drop_more a b xs = sym (drop-drop b a xs)

abbrev pub size_of : Parts Pos → ℕ
size_of ps = length (spell_parts ps [])

abbrev node_size : SyntaxNode Pos → ℕ
node_size g = length (spell g [])

sub_size : (g : SyntaxNode Pos) (rest : Parts Pos) → size_of (sub g rest) ≡ node_size g + size_of rest
sub_size g rest = ap length (spell_behind g (spell_parts rest [])) ∙ length-append (spell g []) (spell_parts rest [])

size_with_tok : (ps : Parts Pos) (t : Token) → size_of (with_tok ps t) ≡ size_of ps + 1
size_with_tok end t = refl
size_with_tok (tok u rest) t = let e = size_with_tok rest t in omega arith
size_with_tok (sub g rest) t = let e = size_with_tok rest t in sub_size g (with_tok rest t) ∙ ap (λ z. node_size g + z) e ∙ (let s = sub_size g rest in omega arith)

size_with_sub : (ps : Parts Pos) (h : SyntaxNode Pos) → size_of (with_sub ps h) ≡ size_of ps + node_size h
size_with_sub end h = sub_size h end ∙ omega arith
size_with_sub (tok u rest) h = let e = size_with_sub rest h in omega arith
size_with_sub (sub g rest) h = let e = size_with_sub rest h in sub_size g (with_sub rest h) ∙ ap (λ z. node_size g + z) e ∙ (let s = sub_size g rest in omega arith)

placed_tok : (ps : Parts Pos) (t : Token) (ls : List Pos) → PartsPlaced ps ls → PartsPlaced (with_tok ps t) ls
placed_tok end t ls p = tt
placed_tok (tok u rest) t ls p = placed_tok rest t (drop 1 ls) p
placed_tok (sub g rest) t ls p = (p.0, placed_tok rest t (drop (node_size g) ls) p.1)

placed_sub : (ps : Parts Pos) (h : SyntaxNode Pos) (ls : List Pos) → PartsPlaced ps ls → Placed h (drop (size_of ps) ls) → PartsPlaced (with_sub ps h) ls
placed_sub end h ls p q = (q, tt)
placed_sub (tok u rest) h ls p q =
    placed_sub rest h (drop 1 ls) p (subst (λ z. Placed h z) (ap (λ n. drop n ls) (let e : size_of (tok u rest) ≡ 1 + size_of rest = omega arith in e) ∙ drop_more 1 (size_of rest) ls) q)
placed_sub (sub g rest) h ls p q =
    (p.0, placed_sub rest h (drop (node_size g) ls) p.1 (subst (λ z. Placed h z) (ap (λ n. drop n ls) (sub_size g rest) ∙ drop_more (node_size g) (size_of rest) ls) q))

-- the places behind the tokens of the frames
abbrev pub left : List Counted → List Pos → List Pos
left [] ls = ls
left (f ∷ S) ls = drop (size_of f.parts) (left S ls)

abbrev pub InPlace : List Counted → List Pos → Type 0
InPlace [] ls = Unit {0}
InPlace (f ∷ []) ls = (f.place ≡ file_place) × PartsPlaced f.parts ls
InPlace (f ∷ g ∷ S) ls = (slice_get (left (g ∷ S) ls) 0 ≡ Some f.at) × PartsPlaced f.parts (left (g ∷ S) ls) × InPlace (g ∷ S) ls

abbrev pub At : List Counted → List Pos → List Pos → Type 0
At S ls rest = InPlace S ls × (left S ls ≡ rest)

abbrev pub AtIf : Option (List Counted) → List Pos → List Pos → Type 0
AtIf None ls rest = Unit {0}
AtIf (Some S) ls rest = At S ls rest

or_at : (a b : Option (List Counted)) (ls rest : List Pos) → AtIf a ls rest → AtIf b ls rest → AtIf (or_else a b) ls rest
or_at None b ls rest h k = k
or_at (Some x) b ls rest h k = h

parts_in_place : (f : Counted) (S : List Counted) (ls : List Pos) → InPlace (f ∷ S) ls → PartsPlaced f.parts (left S ls)
parts_in_place f [] ls h = h.1
parts_in_place f (g ∷ S) ls h = h.1

-- the same node with other parts
in_place_with : (f h : Counted) (S : List Counted) (ls : List Pos) → h.place ≡ f.place → h.at ≡ f.at → InPlace (f ∷ S) ls → PartsPlaced h.parts (left S ls) → InPlace (h ∷ S) ls
in_place_with f h [] ls c a i p = (c ∙ i.0, p)
in_place_with f h (g ∷ S) ls c a i p = (i.0 ∙ ap (λ z. Some z) (sym a), p, i.2)

goes_at : (f : Counted) (S : List Counted) (t : Token) (at : Pos) (ls rest : List Pos) → At (f ∷ S) ls (at ∷ rest) → AtIf (goes_on f S t at) ls rest
goes_at f S t at ls rest h = go (move f.rest t) (opens f.place.head f.rest t)
  where
    behind_one : drop 1 (left (f ∷ S) ls) ≡ rest
    behind_one = ap (drop 1) h.1

    go : (m : Option GrammarRest) (o : Option (GrammarPlace × GrammarRest)) → AtIf (or_else (option_map (λ q. taken f q t ∷ S) m) (option_map (λ e. inside f e.0 e.1 at t ∷ f ∷ S) o)) ls rest
    go (Some q) o = (
      in_place_with f (taken f q t) S ls refl refl h.0 (placed_tok f.parts t (left S ls) (parts_in_place f S ls h.0)),
      ap (λ n. drop n (left S ls)) (size_with_tok f.parts t) ∙ drop_more (size_of f.parts) 1 (left S ls) ∙ behind_one,
    )
    go None (Some e) = ((ap (λ z. slice_get z 0) h.1, tt, h.0), behind_one)
    go None None = tt

joined_at : (f : Counted) (S : List Counted) (t : Token) (at : Pos) (r : GrammarRow) (ls rest : List Pos) → At (f ∷ S) ls (at ∷ rest) → AtIf (is_joined f S t r) ls rest
joined_at f [] t at r ls rest h = let e : joins f.place r t ≡ None = ap (λ z. joins z r t) h.0.0 in subst (λ o. AtIf (option_map (λ q. began f r q t ∷ []) o) ls rest) (sym e) tt
joined_at f (g ∷ S) t at r ls rest h = go (joins f.place r t)
  where
    size_is : (q : GrammarRest) → size_of (sub (node f.at r f.parts) (tok t end)) ≡ size_of f.parts + 1
    size_is q = sub_size (node f.at r f.parts) (tok t end)

    go : (o : Option GrammarRest) → AtIf (option_map (λ q. began f r q t ∷ g ∷ S) o) ls rest
    go None = tt
    go (Some q) = (
      in_place_with f (began f r q t) (g ∷ S) ls refl refl h.0 ((h.0.0, h.0.1), tt),
      ap (λ n. drop n (left (g ∷ S) ls)) (size_is q) ∙ drop_more (size_of f.parts) 1 (left (g ∷ S) ls) ∙ ap (drop 1) h.1,
    )

pub node_at_ : (g f : Counted) (S : List Counted) (r : GrammarRow) (ls rest : List Pos) → At (f ∷ g ∷ S) ls rest → At (with_node g f r ∷ S) ls rest
node_at_ g f S r ls rest h = (
  in_place_with g (with_node g f r) S ls refl refl h.0.2 (placed_sub g.parts (node f.at r f.parts) (left S ls) (parts_in_place g S ls h.0.2) (h.0.0, h.0.1)),
  ap (λ n. drop n (left S ls)) (size_with_sub g.parts (node f.at r f.parts)) ∙ drop_more (size_of g.parts) (size_of f.parts) (left S ls) ∙ h.1,
)

pub act_at : (S : List Counted) (f : Counted) (t : Token) (at : Pos) (ls rest : List Pos) → At (f ∷ S) ls (at ∷ rest) → AtIf (act S f t at) ls rest
act_at [] f t at ls rest h = or_at (goes_on f [] t at) (and_then (made f.rest) (λ r. is_joined f [] t r)) ls rest (goes_at f [] t at ls rest h) (go (made f.rest))
  where
    go : (m : Option GrammarRow) → AtIf (and_then m (λ r. is_joined f [] t r)) ls rest
    go None = tt
    go (Some r) = joined_at f [] t at r ls rest h
act_at (g ∷ S) f t at ls rest h =
    or_at (goes_on f (g ∷ S) t at) (and_then (made f.rest) (λ r. or_else (is_joined f (g ∷ S) t r) (only_if (allowed f.place r) (act S (with_node g f r) t at)))) ls rest (goes_at f (g ∷ S) t at ls rest h)
    (go (made f.rest) (λ r. act_at S (with_node g f r) t at ls rest))
  where
    only : (r : GrammarRow) → (At (with_node g f r ∷ S) ls (at ∷ rest) → AtIf (act S (with_node g f r) t at) ls rest) → (a : Bool) → AtIf (only_if a (act S (with_node g f r) t at)) ls rest
    only r ih true = ih (node_at_ g f S r ls (at ∷ rest) h)
    only r ih false = tt

    go : (m : Option GrammarRow) → ((r : GrammarRow) → At (with_node g f r ∷ S) ls (at ∷ rest) → AtIf (act S (with_node g f r) t at) ls rest)
        → AtIf (and_then m (λ r. or_else (is_joined f (g ∷ S) t r) (only_if (allowed f.place r) (act S (with_node g f r) t at)))) ls rest
    go None ih = tt
    go (Some r) ih = or_at (is_joined f (g ∷ S) t r) (only_if (allowed f.place r) (act S (with_node g f r) t at)) ls rest (joined_at f (g ∷ S) t at r ls rest h) (only r (ih r) (allowed f.place r))

-- and at the end
abbrev pub EndPlaced : Option Counted → List Pos → Type 0
EndPlaced None ls = Unit {0}
EndPlaced (Some h) ls = PartsPlaced h.parts ls

pub close_at : (S : List Counted) (f : Counted) (ls rest : List Pos) → At (f ∷ S) ls rest → EndPlaced (close S f) ls
close_at [] f ls rest h = go (made f.rest)
  where
    go : (m : Option GrammarRow) → EndPlaced (option_map (λ r. f) m) ls
    go None = tt
    go (Some r) = h.0.1
close_at (g ∷ S) f ls rest h = go (made f.rest) (λ r. close_at S (with_node g f r) ls rest)
  where
    only : (r : GrammarRow) → (At (with_node g f r ∷ S) ls rest → EndPlaced (close S (with_node g f r)) ls) → (a : Bool) → EndPlaced (only_if a (close S (with_node g f r))) ls
    only r ih true = ih (node_at_ g f S r ls rest h)
    only r ih false = tt

    go : (m : Option GrammarRow) → ((r : GrammarRow) → At (with_node g f r ∷ S) ls rest → EndPlaced (close S (with_node g f r)) ls) → EndPlaced (and_then m (λ r. only_if (allowed f.place r) (close S (with_node g f r)))) ls
    go None ih = tt
    go (Some r) ih = only r (ih r) (allowed f.place r)
