-- The test of a tree says whether it is levelled.
use Rattle.std.proofs.Common.{◌≡◌, ◌↔◌, Bool, true, false, ◌&&◌, IsTrue, Option, Some, None, option_map, List, ◌∷◌, refl, sym, ap, ◌∙◌, subst}
use Rattle.std.proofs.lemmas.Bool.{and_parts, and_from, eqb-true, eq-eqb}
use Rattle.mir_base.specs.declared.place_in_text.Pos.{Pos}
use Rattle.src_token.specs.declared.token.Token.{Token}
use Rattle.src_tree.specs.declared.row.GrammarRow.{GrammarRow}
use Rattle.src_tree.specs.declared.place.GrammarPlace.{GrammarPlace}
use Rattle.src_tree.specs.declared.place.Seen.{Seen}
use Rattle.src_tree.specs.Grammar.{GrammarRest, items, move, behind, made, seen, allowed}
use Rattle.src_tree.specs.Layout.{SyntaxNode, node, Parts, end, tok, sub, row_of, due_place, entry_rest, joined_place, joined_rest, Levelled, Begun, Follows, ItemsLevelled}
use Rattle.src_tree.specs.Reading.{only_if}
use Rattle.src_tree.specs.View.{Single, a_token, a_node, parts_from}
use Rattle.src_tree.specs.Checking.{row_number, is_row, makes, levels, begun, follows, past}
use Rattle.src_tree.specs.declared.table.JoinedBeginning.{JoinedBeginning as TableBegun}
use Rattle.src_tree.specs.Grammar.{joined}
use Rattle.src_tree.specs.Table.{joined_of, rest_at}
use Rattle.src_tree.proofs.Samples.{rows, nth}

-- rows with one number are one row
there : (r : GrammarRow) → nth (row_number r) rows ≡ Some r
there GrammarRow.File = refl
there _ = refl

pub same_row : (r x : GrammarRow) → is_row r x ≡ true → r ≡ x
same_row r x e =
    let n : nth (row_number r) rows ≡ nth (row_number x) rows = ap (λ z. nth z rows) (eqb-true (row_number r) (row_number x) e) in
    let s : Some r ≡ Some x = sym (there r) ∙ n ∙ there x in cc

pub row_itself : (r : GrammarRow) → is_row r r ≡ true
row_itself r = eq-eqb (row_number r) (row_number r) refl

made_to : (o : Option GrammarRow) (r : GrammarRow) → makes o r ≡ true → o ≡ Some r
made_to None r h = absurd (cc)
made_to (Some x) r h = ap (λ z. Some z) (same_row x r h)

made_from : (o : Option GrammarRow) (r : GrammarRow) → o ≡ Some r → makes o r ≡ true
made_from o r e = subst (λ z. makes z r ≡ true) (sym e) (row_itself r)

module _ {L : Type 0} where
  pub follows_none : (head : Bool) (r : GrammarRow) (ps : Parts L) → follows head None r ps ≡ false
  follows_none head r end = refl
  follows_none head r (tok t rest) = refl
  follows_none head r (sub g rest) = refl

  mutual
    levels_to : (g : SyntaxNode L) (o : Option GrammarPlace) → levels o g ≡ true → Levelled o g
    levels_to (node at row ps) None h = absurd (cc)
    levels_to (node at row ps) (Some c) h = let p = and_parts (allowed c row) (begun (seen c) row ps) h in (p.0, begun_to ps (seen c) row p.1)

    begun_to : (ps : Parts L) (s : Seen) (r : GrammarRow) → begun s r ps ≡ true → Begun s r ps
    begun_to end s r h = absurd (cc)
    begun_to (tok t rest) s r h = follows_to rest s.head (entry_rest s t) r h
    begun_to (sub g end) s r h = absurd (cc)
    begun_to (sub g (sub x rest)) s r h = absurd (cc)
    begun_to (sub g (tok t rest)) s r h =
        let p = and_parts (levels (joined_place s t) g) (follows s.head (joined_rest s t) r rest) h in
        (levels_to g (joined_place s t) p.0, follows_to rest s.head (joined_rest s t) r p.1)

    follows_to : (ps : Parts L) (h : Bool) (o : Option GrammarRest) (r : GrammarRow) → follows h o r ps ≡ true → Follows h o r ps
    follows_to end h None r e = absurd (cc)
    follows_to end h (Some q) r e = made_to (made q) r e
    follows_to (tok t rest) h None r e = absurd (cc)
    follows_to (tok t rest) h (Some q) r e = follows_to rest h (move q t) r e
    follows_to (sub g rest) h None r e = absurd (cc)
    follows_to (sub g rest) h (Some q) r e =
        let p = and_parts (levels (due_place h q) g) (follows h (Some (behind q (row_of g))) r rest) e in
        (levels_to g (due_place h q) p.0, follows_to rest h (Some (behind q (row_of g))) r p.1)

  mutual
    levels_from : (g : SyntaxNode L) (o : Option GrammarPlace) → Levelled o g → levels o g ≡ true
    levels_from (node at row ps) None l = absurd l
    levels_from (node at row ps) (Some c) l = and_from (allowed c row) (begun (seen c) row ps) l.0 (begun_from ps (seen c) row l.1)

    begun_from : (ps : Parts L) (s : Seen) (r : GrammarRow) → Begun s r ps → begun s r ps ≡ true
    begun_from end s r b = absurd b
    begun_from (tok t rest) s r b = follows_from rest s.head (entry_rest s t) r b
    begun_from (sub g end) s r b = absurd b
    begun_from (sub g (sub x rest)) s r b = absurd b
    begun_from (sub g (tok t rest)) s r b =
        and_from (levels (joined_place s t) g) (follows s.head (joined_rest s t) r rest) (levels_from g (joined_place s t) b.0) (follows_from rest s.head (joined_rest s t) r b.1)

    follows_from : (ps : Parts L) (h : Bool) (o : Option GrammarRest) (r : GrammarRow) → Follows h o r ps → follows h o r ps ≡ true
    follows_from end h None r f = absurd f
    follows_from end h (Some q) r f = made_from (made q) r f
    follows_from (tok t rest) h None r f = absurd f
    follows_from (tok t rest) h (Some q) r f = follows_from rest h (move q t) r f
    follows_from (sub g rest) h None r f = absurd f
    follows_from (sub g rest) h (Some q) r f =
        and_from (levels (due_place h q) g) (follows h (Some (behind q (row_of g))) r rest) (levels_from g (due_place h q) f.0) (follows_from rest h (Some (behind q (row_of g))) r f.1)

-- a node that begins with a part, by what is joined to it
pub joined_on : {L : Type 0} (s : Seen) (r : GrammarRow) (g : SyntaxNode L) (t : Token) (ps : Parts L) (a b : Bool) (j : TableBegun) → Some (joined_of j) ≡ joined s t
    → a ≡ levels (Some j.place) g → b ≡ follows s.head (Some (rest_at j.at)) r ps → (a && b) ≡ begun s r (sub g (tok t ps))
joined_on s r g t ps a b j e h k =
    ap (λ z. z && b) h ∙ ap (λ z. levels (Some j.place) g && z) k
    ∙ ap (λ o. levels (option_map (λ j. j.place) o) g && follows s.head (option_map (λ j. j.rest) o) r ps) e

pub not_joined : {L : Type 0} (s : Seen) (r : GrammarRow) (g : SyntaxNode L) (t : Token) (ps : Parts L) → None ≡ joined s t → false ≡ begun s r (sub g (tok t ps))
not_joined {L = L} s r g t ps e = none g ∙ ap (λ o. levels (option_map (λ j. j.place) o) g && follows s.head (option_map (λ j. j.rest) o) r ps) e
  where
    none : (g : SyntaxNode L) → false ≡ (levels None g && follows s.head None r ps)
    none (node at row parts) = refl

-- one part after the other
pub past_first : (head : Bool) (q : GrammarRest) (r : GrammarRow) (x : Single) (xs : List Single) → follows head (Some q) r (parts_from (x ∷ xs)) ≡ follows head (past head q x) r (parts_from xs)
past_first head q r (a_token t) xs = refl
past_first head q r (a_node g) xs = go (levels (due_place head q) g)
  where
    go : (b : Bool) → (b && follows head (Some (behind q (row_of g))) r (parts_from xs)) ≡ follows head (only_if b (Some (behind q (row_of g)))) r (parts_from xs)
    go true = refl
    go false = sym (follows_none head r (parts_from xs))

pub levels_are : (b : Bool) (ps : Parts Pos) → b ≡ follows false (Some items) GrammarRow.File ps → IsTrue b ↔ ItemsLevelled ps
levels_are b ps e = (
  λ h. follows_to ps false (Some items) GrammarRow.File (sym e ∙ h),
  λ l. e ∙ follows_from ps false (Some items) GrammarRow.File l,
)
