-- What the frames answer is the tree of the tokens, or the first bad token.
use Rattle.std.proofs.Common.{◌≡◌, ℕ, zero, suc, ◌<◌, ◌≤◌, Bool, true, false, Option, Some, None, option_map, List, [], ◌∷◌, ◌++◌, length, take, slice_get, refl, sym, ap, ◌∙◌, subst, arith, append-nil}
use Rattle.std.proofs.lemmas.List.{take-map}
use Rattle.std.proofs.lemmas.Option.{slice_get_within, slice_get_past}
use Rattle.mir_base.specs.declared.place_in_text.Pos.{Pos}
use Rattle.src_token.specs.declared.token.Token.{Token}
use Rattle.src_token.specs.declared.token.Spanned.{Spanned}
use Rattle.src_tree.specs.declared.node.Tree as tree
use Rattle.src_tree.specs.declared.row.GrammarRow.{GrammarRow}
use Rattle.src_tree.specs.Grammar.{allowed, made}
use Rattle.src_tree.specs.Layout.{node, parts_depth, spell_parts, ItemsLevelled}
use Rattle.src_tree.specs.Laws.{unplaced_parts}
use Rattle.src_tree.specs.Reading.{and_then, only_if, whole}
use Rattle.src_tree.specs.View.{items_of}
use Rattle.src_tree.proofs.Places.{spell_unplaced_parts}
use Rattle.src_tree.proofs.Complete.{Stack, complete}
use Rattle.src_parse.specs.declared.error.ParseError.TheVariants.{Syntax, TooDeep}
use Rattle.src_parse.specs.Reads.{Items, IsItems, Begins}
use Rattle.src_parse.specs.Bounds.{limit}
use Rattle.src_parse.specs.Answers.{tokens_in, places_in, PartsPlaced, IsTree, BeginsWithin, IsBad, place_or, place_at, IsRefused}
use Rattle.src_parse.specs.Counting.{Counted, start, need_of, passes, with_node, act, step, read, close}
use Rattle.src_parse.proofs.Depth.{need}
use Rattle.src_parse.proofs.Answer.{started, begins, no_more, sound}
use Rattle.src_parse.proofs.Limit.{reached, at_least, no_deeper, NoDeeper, whole_within}
use Rattle.src_parse.proofs.Bare.{erase, read_bare, close_bare, depth_unplaced_parts, items_placed}
use Rattle.src_parse.proofs.Numbers.{cap, needed, Holds, need_counted, need_is, act_holds, node_holds, stays_within, goes_past}
use Rattle.src_parse.proofs.Spots.{InPlace, left, At, act_at, close_at, EndPlaced}

abbrev pub from_start : List Spanned → Pos → Option (List Counted)
from_start ss e = read ss (Some (start e ∷ []))

-- one more token
pub read_next : (ss : List Spanned) (i : ℕ) (s : Spanned) (o : Option (List Counted)) → slice_get ss i ≡ Some s → read (take (suc i) ss) o ≡ and_then (read (take i ss) o) (λ S. step S s.token s.at)
read_next [] i s o e = absurd (nothing i e)
  where
    nothing : (i : ℕ) → slice_get {X = Spanned} [] i ≡ Some s → ⊥
    nothing zero e = cc
    nothing (suc i) e = cc
read_next (x ∷ ss) zero s o e = let h : x ≡ s = cc in ap (λ z. and_then o (λ S. step S z.token z.at)) h
read_next (x ∷ ss) (suc i) s o e = read_next ss i s (and_then o (λ S. step S x.token x.at)) e

abbrev KeptIf : Option (List Counted) → List Pos → List Pos → Type 0
KeptIf None ls more = Unit {0}
KeptIf (Some S) ls more = Holds S × At S ls more

read_none : (ss : List Spanned) → read ss None ≡ None
read_none [] = refl
read_none (s ∷ ss) = read_none ss

read_kept : (ss : List Spanned) (S : List Counted) (ls more : List Pos) → Holds S → At S ls (places_in ss ++ more) → KeptIf (read ss (Some S)) ls more
read_kept [] S ls more h a = (h, a)
read_kept (s ∷ ss) [] ls more h a = subst (λ o. KeptIf o ls more) (sym (read_none ss)) tt
read_kept (s ∷ ss) (f ∷ S) ls more h a = go (act S f s.token s.at) (read_kept ss) (act_holds S f s.token s.at h) (act_at S f s.token s.at ls (places_in ss ++ more) a)
  where
    go : (o : Option (List Counted)) → ((S : List Counted) (ls more : List Pos) → Holds S → At S ls (places_in ss ++ more) → KeptIf (read ss (Some S)) ls more)
        → Rattle.src_parse.proofs.Numbers.HoldsIf o → Rattle.src_parse.proofs.Spots.AtIf o ls (places_in ss ++ more) → KeptIf (read ss o) ls more
    go None ih h a = subst (λ o. KeptIf o ls more) (sym (read_none ss)) tt
    go (Some S2) ih h a = ih S2 ls more h a

kept : (ss : List Spanned) (e : Pos) (S : List Counted) → from_start ss e ≡ Some S → Holds S × At S (places_in ss) []
kept ss e S r =
    subst (λ o. KeptIf o (places_in ss) []) r
    (read_kept ss (start e ∷ []) (places_in ss) [] (omega arith, omega arith, omega arith, tt) ((refl, tt), sym (append-nil (places_in ss))))

plain_state : (ss : List Spanned) (e : Pos) (o : Option (List Counted)) → from_start ss e ≡ o → started (tokens_in ss) ≡ option_map erase o
plain_state ss e o r = read_bare ss (Some (start e ∷ [])) ∙ ap (option_map erase) r

plain_prefix : (ss : List Spanned) (i : ℕ) (e : Pos) (o : Option (List Counted)) → from_start (take i ss) e ≡ o → started (take i (tokens_in ss)) ≡ option_map erase o
plain_prefix ss i e o r = ap (λ z. started z) (take-map (λ s. s.token) i ss) ∙ plain_state (take i ss) e o r

-- the number that is compared with the limit
need_read : (ss : List Spanned) (e : Pos) (f : Counted) (S : List Counted) → from_start ss e ≡ Some (f ∷ S) → need_of f ≡ cap (need (erase (f ∷ S)))
need_read ss e f S r =
    let g = reached (tokens_in ss) (erase (f ∷ S)) (plain_state ss e (Some (f ∷ S)) r) in
    need_counted f S (kept ss e (f ∷ S) r).0 ∙ ap cap (sym (need_is f S g.0 g.1))

pub within_limit : (ss : List Spanned) (e : Pos) (f : Counted) (S : List Counted) → from_start ss e ≡ Some (f ∷ S) → passes f ≡ false → need_of f ≤ limit
within_limit ss e f S r p = let g = reached (tokens_in ss) (erase (f ∷ S)) (plain_state ss e (Some (f ∷ S)) r) in stays_within f S g.0 g.1 p

before_is : (ss : List Spanned) (i : ℕ) (e : Pos) (f : Counted) (S : List Counted) → from_start (take i ss) e ≡ Some (f ∷ S) → need_of f ≤ limit → BeginsWithin (take i (tokens_in ss))
before_is ss i e f S r h =
    let n = need_read (take i ss) e f S r in
    let (g, rest, is, d) = no_deeper (take i (tokens_in ss)) (erase (f ∷ S)) (plain_prefix ss i e (Some (f ∷ S)) r) in
    (g, rest, is, omega arith)

none_begins : (ts : List Token) → started ts ≡ None → Begins ts → ⊥
none_begins ts a (g, rest, h) = no_more ts a (g, rest, h.0, h.1)

some_begins : (ts : List Token) (s : Stack) → started ts ≡ Some s → Begins ts
some_begins ts s a = let (g, rest, l, e) = begins ts s a in (g, rest, (l, e))

bad_at : (ss : List Spanned) (e : Pos) (i : ℕ) (s : Spanned) (f : Counted) (S : List Counted) → slice_get ss i ≡ Some s → from_start (take i ss) e ≡ Some (f ∷ S) → need_of f ≤ limit
    → (BeginsWithin (take (suc i) (tokens_in ss)) → ⊥) → IsBad ss i
bad_at ss e i s f S g r n never =
    let w = slice_get_within ss i s g in record {
      known = omega arith;
      before = before_is ss i e f S r n;
      not_with = λ l. never;
      not_all = λ x. absurd (omega arith);
    }

place_is : (ss : List Spanned) (e : Pos) (i : ℕ) (s : Spanned) → slice_get ss i ≡ Some s → s.at ≡ place_at ss e i
place_is ss e i s g = ap (λ o. place_or o e) (sym g)

pub next_state : (ss : List Spanned) (e : Pos) (i : ℕ) (s : Spanned) (f : Counted) (S : List Counted) (o : Option (List Counted)) → slice_get ss i ≡ Some s → from_start (take i ss) e ≡ Some (f ∷ S) → act S f s.token s.at ≡ o → from_start (take (suc i) ss) e ≡ o
next_state ss e i s f S o g r a = read_next ss i s (Some (start e ∷ [])) g ∙ ap (λ o. and_then o (λ S. step S s.token s.at)) r ∙ a

pub syntax_is : (ss : List Spanned) (e : Pos) (i : ℕ) (s : Spanned) (f : Counted) (S : List Counted) → slice_get ss i ≡ Some s → from_start (take i ss) e ≡ Some (f ∷ S) → need_of f ≤ limit → act S f s.token s.at ≡ None
    → IsRefused ss e (Syntax i s.at)
syntax_is ss e i s f S g r n a =
    let stop = plain_prefix ss (suc i) e None (next_state ss e i s f S None g r a) in
    let never = none_begins (take (suc i) (tokens_in ss)) stop in
    (bad_at ss e i s f S g r n (λ b. never (b.0, b.1, b.2)), place_is ss e i s g, λ l. never)

pub deep_is : (ss : List Spanned) (e : Pos) (i : ℕ) (s : Spanned) (f : Counted) (S : List Counted) (f2 : Counted) (S2 : List Counted) → slice_get ss i ≡ Some s → from_start (take i ss) e ≡ Some (f ∷ S) → need_of f ≤ limit
    → act S f s.token s.at ≡ Some (f2 ∷ S2) → limit < need_of f2 → IsRefused ss e (TooDeep i s.at)
deep_is ss e i s f S f2 S2 g r n a d =
    let next = next_state ss e i s f S (Some (f2 ∷ S2)) g r a in
    let state = plain_prefix ss (suc i) e (Some (f2 ∷ S2)) next in
    let more = need_read (take (suc i) ss) e f2 S2 next in (
      bad_at ss e i s f S g r n (λ b. (let l = at_least (take (suc i) (tokens_in ss)) b.1 (erase (f2 ∷ S2)) b.0 state b.2 in let w = b.3 in omega arith)),
      place_is ss e i s g,
      slice_get_within ss i s g,
      some_begins (take (suc i) (tokens_in ss)) (erase (f2 ∷ S2)) state,
    )

-- The end.

abbrev EndMade : Option Counted → Type 0
EndMade None = Unit {0}
EndMade (Some h) = (r : GrammarRow) × (made h.rest ≡ Some r)

close_made : (S : List Counted) (f : Counted) → EndMade (close S f)
close_made [] f = go (made f.rest) refl
  where
    go : (m : Option GrammarRow) → made f.rest ≡ m → EndMade (option_map (λ r. f) m)
    go None e = tt
    go (Some r) e = (r, e)
close_made (g ∷ S) f = go (made f.rest) (λ r. close_made S (with_node g f r))
  where
    only : (r : GrammarRow) → EndMade (close S (with_node g f r)) → (a : Bool) → EndMade (only_if a (close S (with_node g f r)))
    only r ih true = ih
    only r ih false = tt

    go : (m : Option GrammarRow) → ((r : GrammarRow) → EndMade (close S (with_node g f r))) → EndMade (and_then m (λ r. only_if (allowed f.place r) (close S (with_node g f r))))
    go None ih = tt
    go (Some r) ih = only r (ih r) (allowed f.place r)

pub tree_is : (ss : List Spanned) (e : Pos) (f : Counted) (S : List Counted) (h : Counted) (t : tree.Tree) → from_start ss e ≡ Some (f ∷ S) → close S f ≡ Some h → need_of f ≤ limit → items_of t ≡ h.parts → t.end ≡ e → IsTree ss e t
tree_is ss e f S h t r c d i x =
    let k = kept ss e (f ∷ S) r in
    let n = need_read ss e f S r in
    let p = subst (λ o. EndPlaced o (places_in ss)) c (close_at S f (places_in ss) [] k.1) in
    let (row, m) = subst EndMade c (close_made S f) in
    let w : and_then (started (tokens_in ss)) (λ s. whole s) ≡ Some (node tt row (unplaced_parts h.parts)) =
    ap (λ o. and_then o (λ s. whole s)) (plain_state ss e (Some (f ∷ S)) r) ∙ close_bare S f ∙ ap (λ o. and_then o (λ h. option_map (λ r. node tt r (unplaced_parts h.parts)) (made h.rest))) c ∙ ap (λ o. option_map (λ r. node tt r (unplaced_parts h.parts)) o) m in
    let w2 : whole (erase (f ∷ S)) ≡ Some (node tt row (unplaced_parts h.parts)) = ap (λ o. and_then o (λ s. whole s)) (sym (plain_state ss e (Some (f ∷ S)) r)) ∙ w in
    let g = reached (tokens_in ss) (erase (f ∷ S)) (plain_state ss e (Some (f ∷ S)) r) in
    let no_deep : NoDeeper (erase (f ∷ S)) (Some (node tt row (unplaced_parts h.parts))) = subst (NoDeeper (erase (f ∷ S))) w2 (whole_within (erase (f ∷ S)) g.0 g.1) in
    let u = depth_unplaced_parts h.parts in
    let so = sound (tokens_in ss) (node tt row (unplaced_parts h.parts)) w in record {
      levelled = subst (λ z. ItemsLevelled z) (sym i) (items_placed h.parts so.1);
      within = subst (λ z. parts_depth z ≤ limit) (sym i) (omega arith);
      spelled = ap (λ z. spell_parts z []) i ∙ sym (spell_unplaced_parts h.parts []) ∙ so.2;
      placed = subst (λ z. PartsPlaced z (places_in ss)) (sym i) p;
      ended = x;
    }

-- tokens that spell a tree end in it
end_of : (ss : List Spanned) (e : Pos) (f : Counted) (S : List Counted) (g : Items) → from_start ss e ≡ Some (f ∷ S) → IsItems (tokens_in ss) g
    → and_then (close S f) (λ h. option_map (λ r. node tt r (unplaced_parts h.parts)) (made h.rest)) ≡ Some (node tt GrammarRow.File g)
end_of ss e f S g r h =
    sym (close_bare S f) ∙ ap (λ o. and_then o (λ s. whole s)) (sym (plain_state ss e (Some (f ∷ S)) r)) ∙ ap (λ z. and_then (started z) (λ s. whole s)) (sym h.1) ∙ complete g h.0

pub take_all : {X : Type 0} (xs : List X) → take (length xs) xs ≡ xs
take_all [] = refl
take_all (x ∷ xs) = ap (λ z. x ∷ z) (take_all xs)

length_tokens : (ss : List Spanned) → length (tokens_in ss) ≡ length ss
length_tokens [] = refl
length_tokens (s ∷ ss) = ap suc (length_tokens ss)

end_bad : (ss : List Spanned) (e : Pos) (f : Counted) (S : List Counted) → from_start ss e ≡ Some (f ∷ S) → need_of f ≤ limit → ((g : Items) → IsItems (tokens_in ss) g → parts_depth g ≤ limit → ⊥) → IsRefused ss e (Syntax (length ss) e)
end_bad ss e f S r n never = (
  record {
    known = omega arith;
    before = before_is ss (length ss) e f S (ap (λ z. from_start z e) (take_all ss) ∙ r) n;
    not_with = λ l. absurd (omega arith);
    not_all = λ x. never;
  },
  ap (λ o. place_or o e) (sym (slice_get_past ss (length ss) (omega arith))),
  λ l. absurd (omega arith),
)

pub end_none : (ss : List Spanned) (e : Pos) (f : Counted) (S : List Counted) → from_start ss e ≡ Some (f ∷ S) → need_of f ≤ limit → close S f ≡ None → IsRefused ss e (Syntax (length ss) e)
end_none ss e f S r n c =
    end_bad ss e f S r n
    (λ g is w. let x : None ≡ Some (node tt GrammarRow.File g) = ap (λ o. and_then o (λ h. option_map (λ r. node tt r (unplaced_parts h.parts)) (made h.rest))) (sym c) ∙ end_of ss e f S g r is in absurd (cc))
