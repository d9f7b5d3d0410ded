use Rattle.std.proofs.Common.{◌≡◌, ◌∙◌, ap, subst, map, string_bytes, []}
use Rattle.clap.specs.Words.{App, HasKind, fault_of, is_simple, is_simple_and_free, matches_of}
use Rattle.mirdrop_program.specs.Words.{command_line}
use Rattle.mirdrop_program.proofs.CommandLine.{is_a_simple_line, is_a_free_line, none_is_taken, refused_parses}
use Rattle.mirdrop_program.proofs.words.parse_words.Goals as goal

pub returns-in-Ok-try_get_matches_from : goal.returns-in-Ok-try_get_matches_from
returns-in-Ok-try_get_matches_from c =
    let line : _ ≡ command_line = c.in-Ok.ensures in
    let found = c.in-Ok-try_get_matches_from in (
      none_is_taken _ (subst (λ (a : App). fault_of a (map string_bytes c.args.words.now) ≡ []) line (found.ensures.kinds (ap is_simple_and_free line ∙ is_a_free_line))),
      (found.ensures.matches (ap is_simple line ∙ is_a_simple_line)).0 ∙ ap (λ a. matches_of a (map string_bytes c.args.words.now)) line,
    )

pub returns-in-Err : goal.returns-in-Err
returns-in-Err c =
    let line : _ ≡ command_line = c.in-Ok.ensures in
    let failed = c.in-Err.ensures.kinds (ap is_simple_and_free line ∙ is_a_free_line) in
    refused_parses _ c.in-Err.error c.refusal.result (subst (λ (a : App). HasKind (fault_of a (map string_bytes c.args.words.now)) c.in-Err.error) line failed) (rw c.kind.ensures at c.refusal.ensures)
