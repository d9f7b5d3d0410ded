-- What a parser answers: the tree of the tokens, or the first token with which no tree goes on.
use Rattle.std.specs.Prelude.{◌≡◌, ℕ, suc, ◌<◌, ◌≤◌, Option, Some, None, List, [], ◌++◌, length, map, take, drop, slice_get}
use Rattle.mir_base.specs.declared.place_in_text.Pos.{Pos}
use Rattle.src_token.specs.declared.token.Token.{Token}
use Rattle.src_token.specs.declared.token.Spanned.{Spanned}
use Rattle.src_tree.specs.declared.node.Tree.{Tree}
use Rattle.src_tree.specs.Layout.{SyntaxNode, node, Parts, end, tok, sub, spell, spell_parts, parts_depth, ItemsLevelled}
use Rattle.src_tree.specs.View.{items_of}
use Rattle.src_parse.specs.declared.error.ParseError.{ParseError}
use Rattle.src_parse.specs.declared.error.ParseError.TheVariants.{Syntax, TooDeep, Memory}
use Rattle.src_parse.specs.Reads.{Items, IsItems, Begins}
use Rattle.src_parse.specs.Bounds.{limit}

abbrev pub tokens_in : List Spanned → List Token
tokens_in ss = map (λ s. s.token) ss

abbrev pub places_in : List Spanned → List Pos
places_in ss = map (λ s. s.at) ss

module _ {L : Type 0} where
  -- each node has the place of its first token, where its tokens and those behind them have these places
  abbrev mutual
    pub Placed : SyntaxNode L → List L → Type 0
    Placed (node at row parts) places = (slice_get places 0 ≡ Some at) × PartsPlaced parts places

    pub PartsPlaced : Parts L → List L → Type 0
    PartsPlaced end places = Unit {0}
    PartsPlaced (tok t rest) places = PartsPlaced rest (drop 1 places)
    PartsPlaced (sub g rest) places = Placed g places × PartsPlaced rest (drop (length (spell g [])) places)

-- the tree of the tokens of a text that ends there
pub record IsTree (tokens : List Spanned) (end_ : Pos) (tree : Tree) : Type 0 where
  pub levelled : ItemsLevelled (items_of tree)
  pub within : parts_depth (items_of tree) ≤ limit
  pub spelled : spell_parts (items_of tree) [] ≡ tokens_in tokens
  pub placed : PartsPlaced (items_of tree) (places_in tokens)
  pub ended : tree.end ≡ end_

-- the spelling of a levelled tree within the limit begins so
abbrev pub BeginsWithin : List Token → Type 0
BeginsWithin ts = (g : Items) × (rest : List Token) × IsItems (ts ++ rest) g × (parts_depth g ≤ limit)

-- The tokens before the bad one begin a tree within the limit, and with it they do not. Where there is no such token,
-- all tokens are no tree: then the bad one is the end.
pub record IsBad (tokens : List Spanned) (at : ℕ) : Type 0 where
  pub known : at ≤ length tokens
  pub before : BeginsWithin (take at (tokens_in tokens))
  pub not_with : at < length tokens → BeginsWithin (take (suc at) (tokens_in tokens)) → ⊥
  pub not_all : at ≡ length tokens → (g : Items) → IsItems (tokens_in tokens) g → parts_depth g ≤ limit → ⊥

abbrev pub place_or : Option Spanned → Pos → Pos
place_or None end_ = end_
place_or (Some s) end_ = s.at

-- where the token of a number stands, or the end
abbrev pub place_at : List Spanned → Pos → ℕ → Pos
place_at tokens end_ at = place_or (slice_get tokens at) end_

-- the tokens have no tree, for this reason; want of memory says nothing of them
abbrev pub IsRefused : List Spanned → Pos → ParseError → Type 0
IsRefused tokens end_ (Syntax at pos) =
    IsBad tokens at × (pos ≡ place_at tokens end_ at)
    × (at < length tokens → Begins (take (suc at) (tokens_in tokens)) → ⊥)
IsRefused tokens end_ (TooDeep at pos) =
    IsBad tokens at × (pos ≡ place_at tokens end_ at) × (at < length tokens) × Begins (take (suc at) (tokens_in tokens))
IsRefused tokens end_ Memory = Unit {0}
