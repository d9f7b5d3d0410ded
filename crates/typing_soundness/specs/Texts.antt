-- What is proved of the trees of texts, and of the texts that are accepted.
use Rattle.std.specs.Prelude.{◌≡◌, ℕ, List, Ok}
use Rattle.mir_base.specs.declared.place_in_text.Pos.{Pos}
use Rattle.src_token.specs.declared.token.Spanned.{Spanned}
use Rattle.src_token.specs.Tokens.{Tokens}
use Rattle.src_tree.specs.declared.node.Tree.{Tree}
use Rattle.src_tree.specs.View.{items_of}
use Rattle.src_parse.specs.Answers.{IsTree}
use Rattle.typed_tree.specs.Tree.{ProgramTree}
use Rattle.well_typed.specs.Program.{WellTyped}
use Rattle.typing_rules.specs.Borrows.{read_typed}
use Rattle.typing_rules.specs.Program.{typed_program}
use Rattle.typing_rules.specs.Promises.{AreReady, AreClosures}
use Rattle.typing_soundness.specs.Named.{HasNames}
use Rattle.typing_soundness.specs.Program.{IsOfText, HaveHeads}

-- The tree of a text is one as the laws of typing ask.
abbrev pub AreTreesOfText : Type 0
AreTreesOfText = (text : List ℕ) (tokens : List Spanned) (end_ : Pos) (tree : Tree) → Tokens text tokens → IsTree tokens
    end_ tree → IsOfText (items_of tree)

-- a text that keeps all rules of items and bodies, with its typed program
pub record IsAcceptedText (text : List ℕ) (p : ProgramTree) : Type 0 where
  pub tokens : List Spanned
  pub cut : Tokens text tokens
  pub end_ : Pos
  pub tree : Tree
  pub is_tree : IsTree tokens end_ tree
  pub typed : typed_program (items_of tree) tree.end ≡ Ok p

-- A program that is well typed, among items that are ready; each body has its head and each closure its body, and names
-- of structs, enums, variants and methods are words.
pub record IsTypedProgram (p : ProgramTree) : Type 0 where
  pub heads : HaveHeads p.items.bodies p.bodies
  pub closures : AreClosures p.items
  pub ready : AreReady p.items
  pub names : HasNames p.items
  pub well_typed : WellTyped p

-- The program of an accepted text is such a program.
abbrev pub ProgramsAreTyped : Type 0
ProgramsAreTyped = (text : List ℕ) (p : ProgramTree) → IsAcceptedText text p → IsTypedProgram p

-- So is what is read of a text that breaks no rule of items, bodies and borrows.
abbrev pub ReadTyped : Type 0
ReadTyped = (text : List ℕ) (tokens : List Spanned) (end_ : Pos) (tree : Tree) (p : ProgramTree) → Tokens text tokens →
    IsTree tokens end_ tree → read_typed (items_of tree) tree.end ≡ Ok p → IsTypedProgram p
