-- What has tokens and a tree is not refused for want of either.
use Rattle.std.proofs.Common.{◌≡◌, ℕ, suc, ◌≤◌, nat_lt, Bool, true, false, List, [], length, take, drop, Some, None, refl, ap, sym, subst, ◌∙◌, arith}
use Rattle.std.specs.Str.{IsUtf8}
use Rattle.std.proofs.lemmas.Bool.{ltb-true, ltb-false}
use Rattle.std.proofs.lemmas.List.{take-append-drop}
use Rattle.std.proofs.Math.Seq.{take-length}
use Rattle.mir_base.specs.declared.place_in_text.Pos.{Pos}
use Rattle.src_token.specs.declared.token.LexError.{LexError}
use Rattle.src_token.specs.declared.token.Spanned.{Spanned}
use Rattle.src_token.specs.Tokens.{CutError, CutTokens, EndsBefore, Refused, Tokens, first_error}
use Rattle.src_token.proofs.Cuttings.{same_cutting}
use Rattle.src_tree.specs.declared.node.Tree.{Tree}
use Rattle.src_tree.specs.declared.row.GrammarRow.{GrammarRow}
use Rattle.src_tree.specs.Grammar.{items}
use Rattle.src_tree.specs.Laws.{unplaced_parts}
use Rattle.src_tree.specs.Layout.{parts_depth, spell_parts}
use Rattle.src_tree.specs.View.{items_of}
use Rattle.src_tree.proofs.Places.{follows_unplaced, spell_unplaced_parts}
use Rattle.src_parse.specs.declared.error.ParseError.{ParseError}
use Rattle.src_parse.specs.Answers.{BeginsWithin, IsBad, IsRefused, IsTree, tokens_in}
use Rattle.src_parse.specs.Bounds.{limit}
use Rattle.src_parse.specs.Reads.{IsItems, Items}
use Rattle.src_parse.proofs.Bare.{depth_unplaced_parts}

-- ---- tokens

no_cut_error : (cs : List ℕ) (tokens : List Spanned) (error : LexError) → CutTokens cs tokens → CutError cs error → ⊥
no_cut_error cs tokens error x y =
    let same = same_cutting cs y.cuts x.cuts y.cutting x.cutting in
    let none : Some error ≡ None = sym y.first ∙ ap (first_error []) same ∙ x.no_error in
    cc

valid_whole : (bytes : List ℕ) (at : Pos) → IsUtf8 bytes → EndsBefore bytes at → ⊥
valid_whole bytes at valid ends =
    ends.valid.longest (length bytes) ends.valid.short (subst (λ bs. IsUtf8 bs) (sym (take-length bytes)) valid)

pub has_tokens : (text : List ℕ) (tokens : List Spanned) (error : LexError) → Tokens text tokens → Refused text error →
    error ≡ LexError.Memory
has_tokens text tokens (LexError.BadChar at) x y = absurd (no_cut_error _ tokens _ x.1 y.1)
has_tokens text tokens (LexError.BadNumber at) x y = absurd (no_cut_error _ tokens _ x.1 y.1)
has_tokens text tokens (LexError.OpenComment at) x y = absurd (no_cut_error _ tokens _ x.1 y.1)
has_tokens text tokens (LexError.OpenText at) x y = absurd (no_cut_error _ tokens _ x.1 y.1)
has_tokens text tokens (LexError.NotUtf8 at) x y = absurd (valid_whole text at x.0 y)
has_tokens text tokens LexError.Memory x y = refl

-- ---- a tree

module _ (tokens : List Spanned) (end_ : Pos) (tree : Tree) (is : IsTree tokens end_ tree) where
  abbrev bare : Items
  bare = unplaced_parts (items_of tree)

  within : parts_depth bare ≤ limit
  within = subst (λ n. n ≤ limit) (sym (depth_unplaced_parts (items_of tree))) is.within

  bare_spelled : spell_parts bare [] ≡ tokens_in tokens
  bare_spelled = spell_unplaced_parts (items_of tree) [] ∙ is.spelled

  are_items : IsItems (tokens_in tokens) bare
  are_items = (follows_unplaced (items_of tree) false (Some items) GrammarRow.File is.levelled, bare_spelled)

  begins : (n : ℕ) → BeginsWithin (take n (tokens_in tokens))
  begins n =
      let joined = take-append-drop n (tokens_in tokens) in
      (bare, drop n (tokens_in tokens), (are_items.0, bare_spelled ∙ sym joined), within)

  pub none_is_bad : (at : ℕ) → IsBad tokens at → ⊥
  none_is_bad at bad = by (nat_lt at (length tokens)) refl
    where
      by : (b : Bool) → nat_lt at (length tokens) ≡ b → ⊥
      by true e = bad.not_with (ltb-true at (length tokens) e) (begins (suc at))
      by false e =
          let past = ltb-false at (length tokens) e in
          let known = bad.known in
          bad.not_all (omega (arith, past, known)) bare are_items within

pub has_tree : (tokens : List Spanned) (end_ : Pos) (tree : Tree) (error : ParseError) → IsTree tokens end_ tree →
    IsRefused tokens end_ error → error ≡ ParseError.Memory
has_tree tokens end_ tree (ParseError.Syntax at pos) is bad = absurd (none_is_bad tokens end_ tree is at bad.0)
has_tree tokens end_ tree (ParseError.TooDeep at pos) is bad = absurd (none_is_bad tokens end_ tree is at bad.0)
has_tree tokens end_ tree ParseError.Memory is bad = refl
