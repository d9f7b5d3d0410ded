use Rattle.std.proofs.Common.{ap, ◌∙◌}
use Rattle.std.specs.Prelude.{fold}
use Rattle.std.proofs.lemmas.List.{take_all}
use Rattle.mir_base.specs.declared.place_in_text.Pos.{Pos}
use Rattle.src_token.specs.Cursors.{place_past_byte}
use Rattle.src_token.proofs.Bytes.{all_bytes}
use Rattle.src_token.proofs.lexer.end_of.Goals as goal

abbrev beginning : Pos
beginning = record { line = 1; col = 1 }

pub returns : goal.returns
returns c = λ text.
    c.loop-byte.invariant.at ∙ ap (fold place_past_byte beginning) (take_all c.loop-byte.byte-index c.args.text.now c.loop-byte-test.false)
    ∙ all_bytes c.args.text.now text
