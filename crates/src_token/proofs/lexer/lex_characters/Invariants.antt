use Rattle.std.proofs.Common.{◌≡◌, ◌++◌, ◌≤◌, ◌-◌, [], take, drop, length}
use Rattle.src_token.specs.Cursors.{cursor_after}
use Rattle.src_token.specs.Tokens.{tokens_of, first_error}
use Rattle.src_token.proofs.Cuttings.{the_cuts}
use Rattle.src_token.proofs.lexer.lex_characters.Given as goal

-- what was told and what is still to be told are all
abbrev pub invariant-loop-passed : goal.invariant-loop-passed
invariant-loop-passed l = record {
  at : l.cursor ≡ cursor_after (take l.passed l.characters);
  within : l.passed ≤ length l.characters;
  told : tokens_of [] (the_cuts l.characters) ≡ l.tokens ++ tokens_of (take l.passed l.characters) (the_cuts (drop l.passed l.characters));
  fails : first_error [] (the_cuts l.characters) ≡ first_error (take l.passed l.characters) (the_cuts (drop l.passed l.characters));
}

abbrev pub decreases-loop-passed : goal.decreases-loop-passed
decreases-loop-passed l = length l.characters - l.passed
