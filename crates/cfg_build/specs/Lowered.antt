-- What contracts see of a body that is lowered.
use Rattle.std.specs.Prelude.{ℕ, ◌-◌, ◌<◌, ◌^◌, List, [], Option, length, map, option_map}
use Rattle.std.specs.Option.{unwrap_or}
use Rattle.cfg_graph.specs.declared.graph.Block.{Block}
use Rattle.cfg_graph.specs.declared.graph.Kind.{Kind}
use Rattle.cfg_graph.specs.declared.terminator.Term.{Term}
use Rattle.typed_tree.specs.Tree.{BodyTree}
use Rattle.lower_code.specs.Forms.{entire_function}
use Rattle.lower_code.specs.View.{op_of}
use Rattle.lower_rules.specs.Build.{LoweringFrame, BlockRest, Building, ending, closed, reserved}
use Rattle.lower_rules.specs.Lower.{unmade}
use Rattle.lower_blocks.specs.Building.{made_of}
use Rattle.lower_blocks.specs.declared.blocks.MadeBlock.{MadeBlock}
use Rattle.lower_passes.specs.Spans.{Stands}
use Rattle.lower_passes.specs.declared.spans.Spans.{Spans}

-- so few lines that a number of 32 bits counts them and one more
abbrev pub HasFewLines : Block → Type 0
HasFewLines block = length block.stmts < 2 ^ 32 - 1

-- a body of which nothing is built, and one whose block 0 is given out, and whose block 1 returns
abbrev pub unbuilt : ℕ → BlockRest × Building
unbuilt id = (ending Term.Return id, record { blocks = []; shared = λ i. [] })

abbrev pub begun : ℕ → BlockRest × Building
begun id = (
  ending (Term.Goto 1) 0,
  closed Kind.Plain (ending Term.Return id)
      (reserved (record { blocks = []; shared = λ i. [] })),
)

-- the code of the body stands at all words
abbrev pub IsWhole : LoweringFrame → BodyTree → Spans → Type 0
IsWhole f tree code =
    Stands f (map op_of code.words.now) code.marks.now (entire_function f.items tree) 0 (length code.words.now - 1)

-- a block that is made, and the nodes of its lines
abbrev pub block_of : Option MadeBlock → Block
block_of made = (unwrap_or (option_map made_of made) unmade).block

abbrev pub line_nodes : Option MadeBlock → List ℕ
line_nodes made = (unwrap_or (option_map made_of made) unmade).nodes
