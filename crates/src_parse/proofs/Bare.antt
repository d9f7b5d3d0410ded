-- The parser with numbers and places does what the one without them does.
use Rattle.std.proofs.Common.{◌≡◌, ◌+◌, Bool, true, false, Option, Some, None, option_map, List, [], ◌∷◌, refl, sym, ap, ◌∙◌, subst, arith}
use Rattle.mir_base.specs.declared.place_in_text.Pos.{Pos}
use Rattle.src_token.specs.declared.token.Token.{Token}
use Rattle.src_token.specs.declared.token.Spanned.{Spanned}
use Rattle.src_tree.specs.declared.row.GrammarRow.{GrammarRow}
use Rattle.src_tree.specs.declared.place.GrammarPlace.{GrammarPlace}
use Rattle.src_tree.specs.declared.place.Seen.{Seen}
use Rattle.src_tree.specs.Grammar.{GrammarRest, items, seen, allowed, move, made, behind, counts}
use Rattle.src_tree.specs.Layout.{SyntaxNode, node, Parts, end, tok, sub, row_of, depth, parts_depth, due_place, entry_rest, joined_place, joined_rest, Levelled, Begun, Follows, ItemsLevelled}
use Rattle.src_tree.specs.Laws.{unplaced, unplaced_parts}
use Rattle.src_tree.specs.Reading.{or_else, and_then, only_if, opens, joins, with_tok, with_sub, ParserFrame, frame, goes_on, is_joined, act, step, close_all}
use Rattle.src_tree.proofs.Places.{row_unplaced}
use Rattle.src_tree.proofs.Complete.{Tree, Stack, run}
use Rattle.src_parse.specs.Answers.{tokens_in}
use Rattle.src_parse.specs.Counting as counting
use Rattle.src_parse.specs.Counting.{Counted, taken, inside, began, with_node}

module _ {L : Type 0} where
  pub tok_unplaced : (ps : Parts L) (t : Token) → unplaced_parts (with_tok ps t) ≡ with_tok (unplaced_parts ps) t
  tok_unplaced end t = refl
  tok_unplaced (tok u rest) t = ap (λ z. tok u z) (tok_unplaced rest t)
  tok_unplaced (sub g rest) t = ap (λ z. sub (unplaced g) z) (tok_unplaced rest t)

  pub sub_unplaced : (ps : Parts L) (h : SyntaxNode L) → unplaced_parts (with_sub ps h) ≡ with_sub (unplaced_parts ps) (unplaced h)
  sub_unplaced end h = refl
  sub_unplaced (tok u rest) h = ap (λ z. tok u z) (sub_unplaced rest h)
  sub_unplaced (sub g rest) h = ap (λ z. sub (unplaced g) z) (sub_unplaced rest h)

  mutual
    pub depth_unplaced : (g : SyntaxNode L) → depth (unplaced g) ≡ depth g
    depth_unplaced (node at row ps) = ap (λ z. counts row + z) (depth_unplaced_parts ps)

    pub depth_unplaced_parts : (ps : Parts L) → parts_depth (unplaced_parts ps) ≡ parts_depth ps
    depth_unplaced_parts end = refl
    depth_unplaced_parts (tok t rest) = depth_unplaced_parts rest
    depth_unplaced_parts (sub g rest) = let a = depth_unplaced g in let b = depth_unplaced_parts rest in omega arith

  mutual
    placed_levelled : (g : SyntaxNode L) (o : Option GrammarPlace) → Levelled o (unplaced g) → Levelled o g
    placed_levelled (node at row ps) None l = l
    placed_levelled (node at row ps) (Some c) l = (l.0, placed_begun ps (seen c) row l.1)

    placed_begun : (ps : Parts L) (s : Seen) (r : GrammarRow) → Begun s r (unplaced_parts ps) → Begun s r ps
    placed_begun end s r b = b
    placed_begun (tok t rest) s r b = placed_follows rest s.head (entry_rest s t) r b
    placed_begun (sub g end) s r b = b
    placed_begun (sub g (sub h rest)) s r b = absurd b
    placed_begun (sub g (tok t rest)) s r b = (placed_levelled g (joined_place s t) b.0, placed_follows rest s.head (joined_rest s t) r b.1)

    pub placed_follows : (ps : Parts L) (h : Bool) (o : Option GrammarRest) (r : GrammarRow) → Follows h o r (unplaced_parts ps) → Follows h o r ps
    placed_follows end h None r f = f
    placed_follows end h (Some q) r f = f
    placed_follows (tok t rest) h None r f = f
    placed_follows (tok t rest) h (Some q) r f = placed_follows rest h (move q t) r f
    placed_follows (sub g rest) h None r f = f
    placed_follows (sub g rest) h (Some q) r f =
        (placed_levelled g (due_place h q) f.0, placed_follows rest h (Some (behind q (row_of g))) r (subst (λ x. Follows h (Some (behind q x)) r (unplaced_parts rest)) (row_unplaced g) f.1))

pub items_placed : (ps : Parts Pos) → ItemsLevelled (unplaced_parts ps) → ItemsLevelled ps
items_placed ps l = placed_follows ps false (Some items) GrammarRow.File l

abbrev pub bare : Counted → ParserFrame (Unit {0})
bare f = frame f.place f.rest tt (unplaced_parts f.parts)

abbrev pub erase : List Counted → Stack
erase [] = []
erase (f ∷ S) = bare f ∷ erase S

or_both : (a b : Option Stack) (x y : Option (List Counted)) → a ≡ option_map erase x → b ≡ option_map erase y → or_else a b ≡ option_map erase (or_else x y)
or_both a b x y p q = ap (λ z. or_else z b) p ∙ ap (λ z. or_else (option_map erase x) z) q ∙ go x
  where
    go : (x : Option (List Counted)) → or_else (option_map erase x) (option_map erase y) ≡ option_map erase (or_else x y)
    go None = refl
    go (Some s) = refl

goes_bare : (f : Counted) (S : List Counted) (t : Token) (at : Pos) → goes_on f.place f.rest tt (unplaced_parts f.parts) (erase S) t tt ≡ option_map erase (counting.goes_on f S t at)
goes_bare f S t at = go (move f.rest t) (opens f.place.head f.rest t)
  where
    go : (m : Option GrammarRest) (o : Option (GrammarPlace × GrammarRest))
        → or_else (option_map (λ r. frame f.place r tt (with_tok (unplaced_parts f.parts) t) ∷ erase S) m) (option_map {T = GrammarPlace × GrammarRest} (λ e. frame e.0 e.1 tt (tok t end) ∷ frame f.place f.rest tt (unplaced_parts f.parts) ∷ erase S) o)
        ≡ option_map erase (or_else (option_map (λ q. taken f q t ∷ S) m) (option_map (λ e. inside f e.0 e.1 at t ∷ f ∷ S) o))
    go (Some q) o = ap (λ z. Some (frame f.place q tt z ∷ erase S)) (sym (tok_unplaced f.parts t))
    go None (Some e) = refl
    go None None = refl

joined_bare : (f : Counted) (S : List Counted) (t : Token) (r : GrammarRow) → is_joined f.place tt (unplaced_parts f.parts) (erase S) t r ≡ option_map erase (counting.is_joined f S t r)
joined_bare f S t r = go (joins f.place r t)
  where
    go : (o : Option GrammarRest) → option_map (λ q. frame f.place q tt (sub (node tt r (unplaced_parts f.parts)) (tok t end)) ∷ erase S) o ≡ option_map erase (option_map (λ q. began f r q t ∷ S) o)
    go None = refl
    go (Some q) = refl

pub act_bare : (S : List Counted) (f : Counted) (t : Token) (at : Pos) → act (erase S) f.place f.rest tt (unplaced_parts f.parts) t tt ≡ option_map erase (counting.act S f t at)
act_bare [] f t at =
    or_both (goes_on f.place f.rest tt (unplaced_parts f.parts) [] t tt) (and_then (made f.rest) (λ r. is_joined f.place tt (unplaced_parts f.parts) [] t r)) (counting.goes_on f [] t at) (and_then (made f.rest) (λ r. counting.is_joined f [] t r))
    (goes_bare f [] t at) (go (made f.rest))
  where
    go : (m : Option GrammarRow) → and_then m (λ r. is_joined f.place tt (unplaced_parts f.parts) [] t r) ≡ option_map erase (and_then m (λ r. counting.is_joined f [] t r))
    go None = refl
    go (Some r) = joined_bare f [] t r
act_bare (g ∷ S) f t at = go (made f.rest) (λ r. act_bare S (with_node g f r) t at)
  where
    handed : (r : GrammarRow) → act (erase S) g.place (behind g.rest r) tt (unplaced_parts (with_sub g.parts (node f.at r f.parts))) t tt ≡ option_map erase (counting.act S (with_node g f r) t at)
        → (a : Bool) → only_if a (act (erase S) g.place (behind g.rest r) tt (with_sub (unplaced_parts g.parts) (node tt r (unplaced_parts f.parts))) t tt) ≡ option_map erase (only_if a (counting.act S (with_node g f r) t at))
    handed r ih true = ap (λ z. act (erase S) g.place (behind g.rest r) tt z t tt) (sym (sub_unplaced g.parts (node f.at r f.parts))) ∙ ih
    handed r ih false = refl

    ends_ : (m : Option GrammarRow) → ((r : GrammarRow) → act (erase S) g.place (behind g.rest r) tt (unplaced_parts (with_sub g.parts (node f.at r f.parts))) t tt ≡ option_map erase (counting.act S (with_node g f r) t at))
        → and_then m (λ r. or_else (is_joined f.place tt (unplaced_parts f.parts) (bare g ∷ erase S) t r) (only_if (allowed f.place r) (act (erase S) g.place (behind g.rest r) tt (with_sub (unplaced_parts g.parts) (node tt r (unplaced_parts f.parts))) t tt)))
        ≡ option_map erase (and_then m (λ r. or_else (counting.is_joined f (g ∷ S) t r) (only_if (allowed f.place r) (counting.act S (with_node g f r) t at))))
    ends_ None ih = refl
    ends_ (Some r) ih = or_both _ _ (counting.is_joined f (g ∷ S) t r) (only_if (allowed f.place r) (counting.act S (with_node g f r) t at)) (joined_bare f (g ∷ S) t r) (handed r (ih r) (allowed f.place r))

    go : (m : Option GrammarRow) → ((r : GrammarRow) → act (erase S) g.place (behind g.rest r) tt (unplaced_parts (with_sub g.parts (node f.at r f.parts))) t tt ≡ option_map erase (counting.act S (with_node g f r) t at))
        → or_else (goes_on f.place f.rest tt (unplaced_parts f.parts) (bare g ∷ erase S) t tt)
        (and_then m (λ r. or_else (is_joined f.place tt (unplaced_parts f.parts) (bare g ∷ erase S) t r) (only_if (allowed f.place r) (act (erase S) g.place (behind g.rest r) tt (with_sub (unplaced_parts g.parts) (node tt r (unplaced_parts f.parts))) t tt))))
        ≡ option_map erase (or_else (counting.goes_on f (g ∷ S) t at) (and_then m (λ r. or_else (counting.is_joined f (g ∷ S) t r) (only_if (allowed f.place r) (counting.act S (with_node g f r) t at)))))
    go m ih = or_both _ _ (counting.goes_on f (g ∷ S) t at) (and_then m (λ r. or_else (counting.is_joined f (g ∷ S) t r) (only_if (allowed f.place r) (counting.act S (with_node g f r) t at)))) (goes_bare f (g ∷ S) t at) (ends_ m ih)

pub step_bare : (S : List Counted) (t : Token) (at : Pos) → step (erase S) t tt ≡ option_map erase (counting.step S t at)
step_bare [] t at = refl
step_bare (f ∷ S) t at = act_bare S f t at

pub read_bare : (ss : List Spanned) (o : Option (List Counted)) → run (tokens_in ss) (option_map erase o) ≡ option_map erase (counting.read ss o)
read_bare [] o = refl
read_bare (s ∷ ss) None = read_bare ss None
read_bare (s ∷ ss) (Some S) = ap (run (tokens_in ss)) (step_bare S s.token s.at) ∙ read_bare ss (counting.step S s.token s.at)

-- the end
abbrev ended_as : Counted → Option Tree
ended_as h = option_map (λ r. node tt r (unplaced_parts h.parts)) (made h.rest)

pub close_bare : (S : List Counted) (f : Counted) → close_all (erase S) f.place f.rest tt (unplaced_parts f.parts) ≡ and_then (counting.close S f) ended_as
close_bare [] f = go (made f.rest) refl
  where
    go : (m : Option GrammarRow) → made f.rest ≡ m → option_map (λ r. node tt r (unplaced_parts f.parts)) m ≡ and_then (option_map (λ r. f) m) ended_as
    go None e = refl
    go (Some r) e = ap (λ z. option_map (λ r. node tt r (unplaced_parts f.parts)) z) (sym e)
close_bare (g ∷ S) f = go (made f.rest) (λ r. close_bare S (with_node g f r))
  where
    handed : (r : GrammarRow) → close_all (erase S) g.place (behind g.rest r) tt (unplaced_parts (with_sub g.parts (node f.at r f.parts))) ≡ and_then (counting.close S (with_node g f r)) ended_as
        → (a : Bool) → only_if a (close_all (erase S) g.place (behind g.rest r) tt (with_sub (unplaced_parts g.parts) (node tt r (unplaced_parts f.parts)))) ≡ and_then (only_if a (counting.close S (with_node g f r))) ended_as
    handed r ih true = ap (λ z. close_all (erase S) g.place (behind g.rest r) tt z) (sym (sub_unplaced g.parts (node f.at r f.parts))) ∙ ih
    handed r ih false = refl

    go : (m : Option GrammarRow) → ((r : GrammarRow) → close_all (erase S) g.place (behind g.rest r) tt (unplaced_parts (with_sub g.parts (node f.at r f.parts))) ≡ and_then (counting.close S (with_node g f r)) ended_as)
        → and_then m (λ r. only_if (allowed f.place r) (close_all (erase S) g.place (behind g.rest r) tt (with_sub (unplaced_parts g.parts) (node tt r (unplaced_parts f.parts)))))
        ≡ and_then (and_then m (λ r. only_if (allowed f.place r) (counting.close S (with_node g f r)))) ended_as
    go None ih = refl
    go (Some r) ih = handed r (ih r) (allowed f.place r)
