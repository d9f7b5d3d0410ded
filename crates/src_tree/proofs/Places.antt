-- A tree without its places is spelled as it is, and is levelled where it is.
use Rattle.std.proofs.Common.{◌≡◌, Option, Some, None, List, [], ◌∷◌, refl, sym, ap, ◌∙◌, subst, Bool, false}
use Rattle.src_token.specs.declared.token.Token.{Token}
use Rattle.src_tree.specs.declared.row.GrammarRow.{GrammarRow}
use Rattle.src_tree.specs.declared.place.GrammarPlace.{GrammarPlace}
use Rattle.src_tree.specs.declared.place.Seen.{Seen}
use Rattle.src_tree.specs.Grammar.{GrammarRest, move, behind, seen, items}
use Rattle.src_tree.specs.Layout.{SyntaxNode, node, Parts, end, tok, sub, row_of, spell, spell_parts, due_place, entry_rest, joined_place, joined_rest, Levelled, Begun, Follows}
use Rattle.src_tree.specs.Laws.{unplaced, unplaced_parts, SpelledOnce}
use Rattle.src_tree.proofs.Complete.{unique}

module _ {L : Type 0} where
  mutual
    pub spell_unplaced : (g : SyntaxNode L) (k : List Token) → spell (unplaced g) k ≡ spell g k
    spell_unplaced (node at row parts) k = spell_unplaced_parts parts k

    pub spell_unplaced_parts : (ps : Parts L) (k : List Token) → spell_parts (unplaced_parts ps) k ≡ spell_parts ps k
    spell_unplaced_parts end k = refl
    spell_unplaced_parts (tok t rest) k = ap (λ z. t ∷ z) (spell_unplaced_parts rest k)
    spell_unplaced_parts (sub g rest) k = spell_unplaced g (spell_parts (unplaced_parts rest) k) ∙ ap (spell g) (spell_unplaced_parts rest k)

  pub row_unplaced : (g : SyntaxNode L) → row_of (unplaced g) ≡ row_of g
  row_unplaced (node at row parts) = refl

  mutual
    pub levelled_unplaced : (g : SyntaxNode L) (o : Option GrammarPlace) → Levelled o g → Levelled o (unplaced g)
    levelled_unplaced (node at row parts) None l = l
    levelled_unplaced (node at row parts) (Some c) l = (l.0, begun_unplaced parts (seen c) row l.1)

    pub begun_unplaced : (ps : Parts L) (s : Seen) (r : GrammarRow) → Begun s r ps → Begun s r (unplaced_parts ps)
    begun_unplaced end s r b = b
    begun_unplaced (tok t rest) s r b = follows_unplaced rest s.head (entry_rest s t) r b
    begun_unplaced (sub g end) s r b = b
    begun_unplaced (sub g (sub h rest)) s r b = absurd b
    begun_unplaced (sub g (tok t rest)) s r b = (levelled_unplaced g (joined_place s t) b.0, follows_unplaced rest s.head (joined_rest s t) r b.1)

    pub follows_unplaced : (ps : Parts L) (h : Bool) (o : Option GrammarRest) (r : GrammarRow) → Follows h o r ps → Follows h o r (unplaced_parts ps)
    follows_unplaced end h None r f = f
    follows_unplaced end h (Some q) r f = f
    follows_unplaced (tok t rest) h None r f = f
    follows_unplaced (tok t rest) h (Some q) r f = follows_unplaced rest h (move q t) r f
    follows_unplaced (sub g rest) h None r f = f
    follows_unplaced (sub g rest) h (Some q) r f =
        (levelled_unplaced g (due_place h q) f.0, subst (λ x. Follows h (Some (behind q x)) r (unplaced_parts rest)) (sym (row_unplaced g)) (follows_unplaced rest h (Some (behind q (row_of g))) r f.1))

pub spelled_once : SpelledOnce
spelled_once a b l m e =
    unique (unplaced_parts a) (unplaced_parts b) (follows_unplaced a false (Some items) GrammarRow.File l) (follows_unplaced b false (Some items) GrammarRow.File m)
    (spell_unplaced_parts a [] ∙ e ∙ sym (spell_unplaced_parts b []))
