-- What has no tree has no typed program, and a broken rule is the reason of a text.
use Rattle.std.proofs.Common.{ℕ, List}
use Rattle.mir_base.specs.declared.rule.RuleError.{RuleError}
use Rattle.typeck_heads.specs.Answers.{Refuses}
use Rattle.src_tree.specs.declared.node.Tree.{Tree}
use Rattle.mir_pipeline.specs.Programs.{program_in, HasNoProgram}
use Rattle.mir_pipeline.specs.Trees.{IsTreeOf, IsRefused, of_rule}
use Rattle.mir_pipeline.specs.declared.refusal.Refusal.{Refusal}
use Rattle.mir_pipeline.specs.declared.refusal.Refusal.TheVariants.{Lex, Syntax, TooDeep, Broken, U1, U2, Memory}

pub no_program : (text : List ℕ) (r : Refusal) → IsRefused text r → HasNoProgram text r
no_program text (Lex code at) h = h
no_program text (Syntax at pos) h = h
no_program text (TooDeep at pos) h = h
no_program text (Broken rule at) h = absurd h
no_program text (U1 bad site) h = absurd h
no_program text (U2 bad site) h = absurd h
no_program text Memory h = tt

pub broken_rule : (text : List ℕ) (tree : Tree) (e : RuleError) → IsTreeOf text tree → Refuses (program_in tree) e →
    HasNoProgram text (of_rule e)
broken_rule text tree (RuleError.Broken rule at) t h = (tree, t, h)
broken_rule text tree RuleError.Memory t h = tt
