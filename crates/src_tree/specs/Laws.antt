-- The law of spelling.
use Rattle.std.specs.Prelude.{◌≡◌, []}
use Rattle.mir_base.specs.declared.place_in_text.Pos.{Pos}
use Rattle.src_tree.specs.Layout.{SyntaxNode, node, Parts, end, tok, sub, spell_parts, ItemsLevelled}

-- a tree without its places
module _ {L : Type 0} where
  abbrev mutual
    pub unplaced : SyntaxNode L → SyntaxNode (Unit {0})
    unplaced (node at row parts) = node tt row (unplaced_parts parts)

    pub unplaced_parts : Parts L → Parts (Unit {0})
    unplaced_parts end = end
    unplaced_parts (tok t rest) = tok t (unplaced_parts rest)
    unplaced_parts (sub g rest) = sub (unplaced g) (unplaced_parts rest)

-- levelled trees with one spelling are one tree but for the places
abbrev pub SpelledOnce : Type 0
SpelledOnce = (a b : Parts Pos) → ItemsLevelled a → ItemsLevelled b → spell_parts a [] ≡ spell_parts b [] →
    unplaced_parts a ≡ unplaced_parts b
