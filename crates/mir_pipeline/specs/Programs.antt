-- The typed program of a text, and why a text has none.
use Rattle.std.specs.Prelude.{◌≡◌, List, Result, Ok, Err, ℕ}
use Rattle.mir_base.specs.declared.place_in_text.Pos.{Pos}
use Rattle.mir_base.specs.declared.rule.Rule.{Rule}
use Rattle.src_meaning.specs.Programs.{IsAccepted}
use Rattle.src_tree.specs.declared.node.Tree.{Tree}
use Rattle.src_tree.specs.View.{items_of}
use Rattle.typed_tree.specs.Tree.{ProgramTree}
use Rattle.typing_rules.specs.Borrows as rules
use Rattle.typing_rules.specs.Check as check
use Rattle.mir_pipeline.specs.Trees.{IsTreeOf, IsRefused}
use Rattle.mir_pipeline.specs.declared.refusal.Refusal.{Refusal}
use Rattle.mir_pipeline.specs.declared.refusal.Refusal.TheVariants.{Broken}

abbrev pub program_in : Tree → Result ProgramTree check.Broken
program_in tree = rules.read_typed (items_of tree) tree.end

-- the text has a tree that breaks no rule, and this is its typed program
abbrev pub IsProgramOf : List ℕ → ProgramTree → Type 0
IsProgramOf text program = (tree : Tree) × IsTreeOf text tree × (program_in tree ≡ Ok program)

-- it has one that is accepted
abbrev pub HasAcceptedProgram : List ℕ → Type 0
HasAcceptedProgram text = (program : ProgramTree) × IsProgramOf text program × IsAccepted program

-- the text has a tree, and this is the first rule that it breaks
abbrev pub IsBroken : List ℕ → Rule → Pos → Type 0
IsBroken text rule at = (tree : Tree) × IsTreeOf text tree × (program_in tree ≡ Err (record { rule = rule; at = at }))

-- the text has no typed program, for this reason; want of memory says nothing of it
abbrev pub HasNoProgram : List ℕ → Refusal → Type 0
HasNoProgram text (Broken rule at) = IsBroken text rule at
HasNoProgram text other = IsRefused text other
