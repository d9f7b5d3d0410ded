-- A tree as its rows and their parts: what all its definitions go by. Each node has the place of its first token.
use Rattle.std.specs.Prelude.{◌≡◌, ℕ, ◌+◌, max, Bool, true, false, Option, Some, None, option_map, List, ◌∷◌}
use Rattle.src_token.specs.declared.token.Token.{Token}
use Rattle.src_tree.specs.declared.row.GrammarRow.{GrammarRow}
use Rattle.src_tree.specs.declared.place.GrammarPlace.{GrammarPlace}
use Rattle.src_tree.specs.declared.place.Seen.{Seen}
use Rattle.src_tree.specs.Grammar.{counts, seen, allowed, place_of, GrammarRest, items, move, due, behind, made, entry, joined}

mutual
  pub data SyntaxNode (L : Type 0) : Type 0 where
    node : (at : L) (row : GrammarRow) (parts : Parts L) → SyntaxNode L

  pub data Parts (L : Type 0) : Type 0 where
    end : Parts L
    tok : (t : Token) (rest : Parts L) → Parts L
    sub : (g : SyntaxNode L) (rest : Parts L) → Parts L

module _ {L : Type 0} where
  abbrev pub row_of : SyntaxNode L → GrammarRow
  row_of (node at row parts) = row

  abbrev pub place_of_node : SyntaxNode L → L
  place_of_node (node at row parts) = at

  abbrev pub parts_of : SyntaxNode L → Parts L
  parts_of (node at row parts) = parts

  -- the tokens of a tree, and then k
  abbrev mutual
    pub spell : SyntaxNode L → List Token → List Token
    spell (node at row parts) k = spell_parts parts k

    pub spell_parts : Parts L → List Token → List Token
    spell_parts end k = k
    spell_parts (tok t rest) k = t ∷ spell_parts rest k
    spell_parts (sub g rest) k = spell g (spell_parts rest k)

  -- how deep it nests
  abbrev mutual
    pub depth : SyntaxNode L → ℕ
    depth (node at row parts) = counts row + parts_depth parts

    pub parts_depth : Parts L → ℕ
    parts_depth end = 0
    parts_depth (tok t rest) = parts_depth rest
    parts_depth (sub g rest) = max (depth g) (parts_depth rest)

abbrev pub due_place : Bool → GrammarRest → Option GrammarPlace
due_place head q = option_map (place_of head) (due q)

abbrev pub entry_rest : Seen → Token → Option GrammarRest
entry_rest s t = option_map (λ e. e.rest) (entry s t)

abbrev pub joined_place : Seen → Token → Option GrammarPlace
joined_place s t = option_map (λ j. j.place) (joined s t)

abbrev pub joined_rest : Seen → Token → Option GrammarRest
joined_rest s t = option_map (λ j. j.rest) (joined s t)

module _ {L : Type 0} where
  abbrev mutual
    -- it may stand there, and each of its parts may stand where it does
    pub Levelled : Option GrammarPlace → SyntaxNode L → Type 0
    Levelled None (node at row parts) = ⊥
    Levelled (Some c) (node at row parts) = (allowed c row ≡ true) × Begun (seen c) row parts

    -- these parts make this row
    pub Begun : Seen → GrammarRow → Parts L → Type 0
    Begun s r end = ⊥
    Begun s r (tok t rest) = Follows s.head (entry_rest s t) r rest
    Begun s r (sub g end) = ⊥
    Begun s r (sub g (sub h rest)) = ⊥
    Begun s r (sub g (tok t rest)) = Levelled (joined_place s t) g × Follows s.head (joined_rest s t) r rest

    -- what is due, these parts are
    pub Follows : Bool → Option GrammarRest → GrammarRow → Parts L → Type 0
    Follows head None r parts = ⊥
    Follows head (Some q) r end = made q ≡ Some r
    Follows head (Some q) r (tok t rest) = Follows head (move q t) r rest
    Follows head (Some q) r (sub g rest) =
        Levelled (due_place head q) g × Follows head (Some (behind q (row_of g))) r rest

  -- the items of a text
  abbrev pub ItemsLevelled : Parts L → Type 0
  ItemsLevelled parts = Follows false (Some items) GrammarRow.File parts
