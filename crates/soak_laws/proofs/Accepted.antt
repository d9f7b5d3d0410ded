-- The text of the program that `soak` runs is that of an accepted program.
use Rattle.std.proofs.Common.{◌≡◌, ℕ, zero, suc, ◌-◌, ◌<◌, ◌≤◌, ◌^◌, false, List, [], ◌∷◌, length, Option, Some, None, slice_get, refl, ap, sym, subst, ◌∙◌, arith}
use Rattle.std.specs.Str.{chars}
use Rattle.std.proofs.lemmas.List.{length-map}
use Rattle.std.proofs.lemmas.Str.{chars-IsAscii, IsUtf8-from_ascii}
use Rattle.mir_base.specs.declared.place_in_text.Pos.{Pos}
use Rattle.src_token.specs.declared.token.Spanned.{Spanned}
use Rattle.src_token.specs.Places.{place_after}
use Rattle.src_token.specs.Tokens.{CutTokens, Tokens, tokens_of}
use Rattle.src_tree.specs.declared.node.Tree.{Tree}
use Rattle.src_tree.specs.declared.row.GrammarRow.{GrammarRow}
use Rattle.src_tree.specs.Grammar.{items}
use Rattle.src_tree.specs.Layout.{Parts, ItemsLevelled, parts_depth, spell_parts}
use Rattle.src_tree.specs.View.{items_of}
use Rattle.src_parse.specs.Answers.{IsTree, PartsPlaced, places_in, tokens_in}
use Rattle.src_parse.specs.Bounds.{limit}
use Rattle.typing_rules.specs.Borrows.{read_typed}
use Rattle.soak_text.specs.Text.{soak_text}
use Rattle.soak_laws.specs.Laws.{IsAcceptedProgramOf, SoakIsAccepted, SoakIsShort}
use Rattle.soak_laws.proofs.Accept.{soak_accepted}
use Rattle.soak_laws.proofs.Placing.{AreAt, Places, placed_parts, parts_stand, follows_too, same_depths, same_spellings}
use Rattle.soak_laws.proofs.Program.{soak_read}
use Rattle.soak_laws.proofs.RustTrees.{pieces, pieces_are}
use Rattle.soak_laws.proofs.TextFacts.{soak_is_ascii, soak_length}
use Rattle.soak_laws.proofs.TextTokens.{soak_cuts, soak_cutting, soak_fine, soak_spelled, tokens_are}
use Rattle.soak_laws.proofs.TreeFacts.{soak_depth, soak_filled, soak_levelled}
use Rattle.soak_laws.proofs.Trees.{soak_items}
use Rattle.soak_laws.proofs.TypedTrees.{soak_program}

-- ---- places of a list, by their numbers

abbrev or_start : Option Pos → Pos
or_start None = record { line = 1; col = 1 }
or_start (Some at) = at

abbrev numbered : List Pos → Places
numbered ps n = or_start (slice_get ps n)

are_numbered : (ps : List Pos) → AreAt (numbered ps) ps
are_numbered [] n l = absurd (omega (arith, l))
are_numbered (p ∷ ps) zero l = refl
are_numbered (p ∷ ps) (suc n) l = are_numbered ps n (omega (arith, l))

-- ---- tokens and tree

module _ (last : ℕ) (small : last < 2 ^ 31 - 1) where
  abbrev text : List ℕ
  text = soak_text (suc last)

  abbrev tokens : List Spanned
  tokens = tokens_of [] (soak_cuts last)

  characters : chars text ≡ text
  characters = chars-IsAscii text (soak_is_ascii (suc last) (omega (arith, small)))

  cut : CutTokens text tokens
  cut = record {
    cuts = soak_cuts last;
    cutting = soak_cutting last (omega (arith, small));
    no_error = soak_fine last;
    told = refl;
  }

  are_tokens : Tokens text tokens
  are_tokens = (
    IsUtf8-from_ascii text (soak_is_ascii (suc last) (omega (arith, small))),
    subst (λ cs. CutTokens cs tokens) (sym characters) cut,
  )

  places : List Pos
  places = places_in tokens

  abbrev f : Places
  f = numbered places

  abbrev parts : Parts Pos
  parts = placed_parts (soak_items last) f

  abbrev end_ : Pos
  end_ = place_after (chars text)

  abbrev tree : Tree
  tree = record { items = pieces parts; end = end_ }

  items_are : items_of tree ≡ parts
  items_are = pieces_are parts

  spelled : spell_parts (soak_items last) [] ≡ tokens_in tokens
  spelled = soak_spelled last ∙ sym (tokens_are [] (soak_cuts last))

  counted : length (spell_parts (soak_items last) []) ≡ length places
  unfolding places
  counted =
      ap (λ ts. length ts) spelled ∙ length-map tokens (λ (s : Spanned). s.token)
      ∙ sym (length-map tokens (λ (s : Spanned). s.at))

  stand : PartsPlaced parts (places_in tokens)
  unfolding places
  stand =
      parts_stand (soak_items last) f places (are_numbered places) (let n = counted in omega (arith, n))
      (soak_filled last)

  is_tree : IsTree tokens end_ tree
  is_tree = record {
    levelled = subst (λ ps. ItemsLevelled ps) (sym items_are)
        (follows_too (soak_items last) f false (Some items) GrammarRow.File (soak_levelled last));
    within =
        subst (λ ps. parts_depth ps ≤ limit) (sym items_are)
        (subst (λ n. n ≤ limit) (sym (same_depths (soak_items last) f)) (soak_depth last));
    spelled = ap (λ ps. spell_parts ps []) items_are ∙ same_spellings (soak_items last) f [] ∙ spelled;
    placed = subst (λ ps. PartsPlaced ps (places_in tokens)) (sym items_are) stand;
    ended = refl;
  }

  accepted_text : IsAcceptedProgramOf text (soak_program f last)
  accepted_text = record {
    tokens = tokens;
    cut = are_tokens;
    tree = tree;
    is_tree = is_tree;
    typed = ap (λ ps. read_typed ps end_) items_are ∙ soak_read f last small end_;
    accepted = soak_accepted f last;
  }

pub soak_is_accepted : SoakIsAccepted
soak_is_accepted zero some few = absurd (omega (arith, some))
soak_is_accepted (suc last) some few = (_, accepted_text last (omega (arith, few)))

pub soak_is_short : SoakIsShort
soak_is_short k some few = soak_length k few
