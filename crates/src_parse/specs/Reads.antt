-- What the parser of `src_tree` reads, one token after the other, and what its answers are to be.
use Rattle.std.specs.Prelude.{◌≡◌, ◌↔◌, Option, Some, List, [], ◌∷◌, ◌++◌, is_some, true}
use Rattle.src_token.specs.declared.token.Token.{Token}
use Rattle.src_tree.specs.declared.row.GrammarRow.{GrammarRow}
use Rattle.src_tree.specs.Layout.{node, Parts, spell_parts, ItemsLevelled}
use Rattle.src_tree.specs.Reading.{and_then, ParserState, step, whole, start}

-- trees without places
abbrev pub Items : Type 0
Items = Parts (Unit {0})

-- the state behind tokens, if there is one
abbrev pub read : List Token → Option (ParserState (Unit {0})) → Option (ParserState (Unit {0}))
read [] o = o
read (t ∷ ts) o = read ts (and_then o (λ s. step s t tt))

abbrev pub state_behind : List Token → Option (ParserState (Unit {0}))
state_behind ts = read ts (Some (start tt))

-- the items of a levelled tree are spelled so, and the spelling of one begins so
abbrev pub IsItems : List Token → Items → Type 0
IsItems ts g = ItemsLevelled g × (spell_parts g [] ≡ ts)

abbrev pub Begins : List Token → Type 0
Begins ts = (g : Items) × (rest : List Token) × IsItems (ts ++ rest) g

-- The parser goes on exactly where some levelled tree does, so the first token at which it stops is the first behind
-- which there is none; and at the end it has exactly the tree.
abbrev pub ReadsBeginnings : Type 0
ReadsBeginnings = (ts : List Token) → (is_some (state_behind ts) ≡ true) ↔ Begins ts

abbrev pub ReadsTrees : Type 0
ReadsTrees = (ts : List Token) (g : Items) → (and_then (state_behind ts) (λ s. whole s) ≡
    Some (node tt GrammarRow.File g)) ↔
    IsItems ts g
