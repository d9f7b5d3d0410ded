-- The program that `soak` runs is accepted, whatever the number of its functions.
use Rattle.std.specs.Prelude.{◌≡◌, ◌≤◌, ℕ, List, Ok, length}
use Rattle.std.specs.Str.{chars}
use Rattle.mir_base.specs.declared.limits.TheConstants.{MAX_TEXT_BYTES}
use Rattle.src_token.specs.declared.token.Spanned.{Spanned}
use Rattle.src_token.specs.Places.{place_after}
use Rattle.src_token.specs.Tokens.{Tokens}
use Rattle.src_tree.specs.declared.node.Tree.{Tree}
use Rattle.src_tree.specs.View.{items_of}
use Rattle.src_parse.specs.Answers.{IsTree}
use Rattle.src_meaning.specs.Programs.{IsAccepted}
use Rattle.soak_text.specs.Text.{soak_text}
use Rattle.typed_tree.specs.Tree.{ProgramTree}
use Rattle.typing_rules.specs.Borrows.{read_typed}

-- The text has tokens, they have a tree, the tree breaks no rule of items, bodies and borrows, and this is its typed
-- program; and no list of choices reaches a refused use in any of its bodies.
pub record IsAcceptedProgramOf (text : List ℕ) (program : ProgramTree) : Type 0 where
  pub tokens : List Spanned
  pub cut : Tokens text tokens
  pub tree : Tree
  pub is_tree : IsTree tokens (place_after (chars text)) tree
  pub typed : read_typed (items_of tree) tree.end ≡ Ok program
  pub accepted : IsAccepted program

-- the text of so many functions is short enough
abbrev pub SoakIsShort : Type 0
SoakIsShort = (k : ℕ) → 1 ≤ k → k ≤ 1500 → length (soak_text k) ≤ MAX_TEXT_BYTES

-- and it is the text of an accepted program
abbrev pub SoakIsAccepted : Type 0
SoakIsAccepted = (k : ℕ) → 1 ≤ k → k ≤ 1500 → (program : ProgramTree) × IsAcceptedProgramOf (soak_text k) program
