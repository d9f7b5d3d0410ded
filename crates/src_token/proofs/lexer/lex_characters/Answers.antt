-- What is told of a piece is what its cut tells, and a piece that fails is the first that does.
use Rattle.std.proofs.Common.{◌++◌, ◌∙◌, ap, arith, sym, subst, ◌≤◌, ◌+◌, List, ℕ, length, take, drop, length-drop}
use Rattle.std.proofs.lemmas.List.{take_rest}
use Rattle.src_token.specs.declared.piece.Reading.{Reading}
use Rattle.src_token.specs.declared.token.Spanned.{Spanned}
use Rattle.src_token.specs.Scanning.{next_piece, Near}
use Rattle.src_token.specs.Tokens.{tokens_of}
use Rattle.src_token.proofs.Cuttings.{the_cuts}
use Rattle.src_token.proofs.Lexing.{all_told, fails_here, told_skipped, told_token, none_skipped, none_token}
use Rattle.src_token.proofs.lexer.lex_characters.Goals as goal
use Rattle.src_token.proofs.lexer.lex_characters.Goals.{in-Skipped, in-Reads+in_ok-push-in-Reads}

pub returns-clause-tokens : goal.returns-clause-tokens
returns-clause-tokens c =
    all_told c.args.characters.now c.loop-passed.passed c.loop-passed.tokens c.loop-passed-test.false c.loop-passed.invariant.told c.loop-passed.invariant.fails

pub returns-in-Fails-clause-refused : goal.returns-in-Fails-clause-refused
returns-in-Fails-clause-refused c =
    fails_here c.args.characters.now c.loop-passed.passed c.in_ok-length.field-0 c.loop-passed-test.true
    (c.in_ok-length.ensures.value ∙ ap next_piece (take_rest c.args.characters.now c.loop-passed.passed))
    c.in-Fails.fault c.in-Fails.before c.advance-place.result c.error.result c.in-Fails.is
    (subst (λ (r : Reading). Near c.in_ok-length.field-0.length r) c.in-Fails.is c.in_ok-length.ensures.fits.near)
    c.advance-place.ensures c.error.ensures c.loop-passed.invariant.fails

pub loop-passed-preserved : goal.loop-passed-preserved
loop-passed-preserved c =
    let found = c.in_ok-length.ensures.value ∙ ap next_piece (take_rest c.args.characters.now c.loop-passed.passed) in
    let short : c.in_ok-length.field-0.length ≤ length (drop c.loop-passed.passed c.args.characters.now) =
    subst (λ (w : List ℕ). c.in_ok-length.field-0.length ≤ length w) (take_rest c.args.characters.now c.loop-passed.passed) c.in_ok-length.ensures.fits.within in
    record {
      at = c.advance-after.ensures;
      within = omega (arith, short, length-drop c.loop-passed.passed c.args.characters.now);
      told =
          elim c.match-reading.branch [
            | in-Skipped w ↦
                told_skipped c.args.characters.now c.loop-passed.passed c.loop-passed.cursor c.advance-after.result c.in_ok-length.field-0 c.loop-passed-test.true found
                c.loop-passed.invariant.at c.advance-after.ensures c.loop-passed.tokens w.in-Skipped.is c.loop-passed.invariant.told
                ∙ ap (λ (ts : List Spanned). ts ++ tokens_of (take (c.loop-passed.passed + c.in_ok-length.field-0.length) c.args.characters.now) (the_cuts (drop (c.loop-passed.passed + c.in_ok-length.field-0.length) c.args.characters.now))) (sym w.tokens-is)
            | in-Reads+in_ok-push-in-Reads w ↦
                told_token c.args.characters.now c.loop-passed.passed c.loop-passed.cursor c.advance-after.result c.in_ok-length.field-0 c.loop-passed-test.true found
                c.loop-passed.invariant.at c.advance-after.ensures c.loop-passed.tokens c.match-reading.tokens w.in-Reads.token w.in-Reads.is (w.tokens-is ∙ w.in_ok-push-in-Reads.ensures.pushed) c.loop-passed.invariant.told
          ];
      fails =
          elim c.match-reading.branch [
            | in-Skipped w ↦
                none_skipped c.args.characters.now c.loop-passed.passed c.loop-passed.cursor c.advance-after.result c.in_ok-length.field-0 c.loop-passed-test.true found
                c.loop-passed.invariant.at c.advance-after.ensures w.in-Skipped.is c.loop-passed.invariant.fails
            | in-Reads+in_ok-push-in-Reads w ↦
                none_token c.args.characters.now c.loop-passed.passed c.loop-passed.cursor c.advance-after.result c.in_ok-length.field-0 c.loop-passed-test.true found
                c.loop-passed.invariant.at c.advance-after.ensures w.in-Reads.token w.in-Reads.is c.loop-passed.invariant.fails
          ];
    }
