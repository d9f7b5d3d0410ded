-- A text has one list of tokens, and that one tree: its spelling tells the tree, and its tokens tell the places.
use Rattle.std.proofs.Common.{◌≡◌, ℕ, List, [], length, drop, Some, refl, ap, sym, subst, ◌∙◌}
use Rattle.mir_base.specs.declared.place_in_text.Pos.{Pos}
use Rattle.src_token.specs.declared.token.Spanned.{Spanned}
use Rattle.src_token.specs.Tokens.{CutTokens, Tokens, tokens_of}
use Rattle.src_token.proofs.Cuttings.{same_cutting}
use Rattle.src_tree.specs.declared.node.Tree.{Tree}
use Rattle.src_tree.specs.Laws.{unplaced, unplaced_parts}
use Rattle.src_tree.specs.Layout.{SyntaxNode, node, Parts, end, tok, sub, spell, parts_of, row_of}
use Rattle.src_tree.specs.View.{items_of}
use Rattle.src_tree.proofs.Places.{spelled_once}
use Rattle.src_parse.specs.Answers.{IsTree, Placed, PartsPlaced, places_in}

-- ---- tokens

pub one_cut : (cs : List ℕ) (a b : List Spanned) → CutTokens cs a → CutTokens cs b → a ≡ b
one_cut cs a b x y = x.told ∙ ap (tokens_of []) (same_cutting cs x.cuts y.cuts x.cutting y.cutting) ∙ sym y.told

pub one_list : (text : List ℕ) (a b : List Spanned) → Tokens text a → Tokens text b → a ≡ b
one_list text a b x y = one_cut _ a b x.1 y.1

-- ---- places

mutual
  same_node : (a b : SyntaxNode Pos) (ps : List Pos) → Placed a ps → Placed b ps → unplaced a ≡ unplaced b → a ≡ b
  same_node (node at row parts) (node place other others) ps x y same =
      let rows : row ≡ other = ap row_of same in
      let inside : parts ≡ others = same_parts parts others ps x.1 y.1 (ap parts_of same) in
      let there : Some at ≡ Some place = sym x.0 ∙ y.0 in
      cc

  pub same_parts : (a b : Parts Pos) (ps : List Pos) → PartsPlaced a ps → PartsPlaced b ps →
      unplaced_parts a ≡ unplaced_parts b → a ≡ b
  same_parts end end ps x y same = refl
  same_parts end (tok t rest) ps x y same = absurd (cc)
  same_parts end (sub g rest) ps x y same = absurd (cc)
  same_parts (tok t rest) end ps x y same = absurd (cc)
  same_parts (tok t rest) (sub g others) ps x y same = absurd (cc)
  same_parts (sub g rest) end ps x y same = absurd (cc)
  same_parts (sub g rest) (tok t others) ps x y same = absurd (cc)
  same_parts (tok t rest) (tok u others) ps x y same =
      let first : t ≡ u = cc in
      let behind : unplaced_parts rest ≡ unplaced_parts others = cc in
      let parts : rest ≡ others = same_parts rest others (drop 1 ps) x y behind in
      cc
  same_parts (sub g rest) (sub h others) ps x y same =
      let first : unplaced g ≡ unplaced h = cc in
      let behind : unplaced_parts rest ≡ unplaced_parts others = cc in
      let nodes : g ≡ h = same_node g h ps x.0 y.0 first in
      let placed : PartsPlaced others (drop (length (spell g [])) ps) =
      subst (λ k. PartsPlaced others (drop (length (spell k [])) ps)) (sym nodes) y.1 in
      let parts : rest ≡ others = same_parts rest others (drop (length (spell g [])) ps) x.1 placed behind in
      cc

-- ---- trees

pub one_tree : (tokens : List Spanned) (end_ : Pos) (a b : Tree) → IsTree tokens end_ a → IsTree tokens end_ b →
    items_of a ≡ items_of b
one_tree tokens end_ a b x y =
    same_parts (items_of a) (items_of b) (places_in tokens) x.placed y.placed
    (spelled_once (items_of a) (items_of b) x.levelled y.levelled (x.spelled ∙ sym y.spelled))
