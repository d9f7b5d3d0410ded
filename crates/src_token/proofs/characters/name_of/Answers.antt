use Rattle.std.proofs.Common.{◌≡◌, ℕ, ◌+◌, List, ◌++◌, length, take, get_or, ◌∙◌, refl, ◌<◌}
use Rattle.std.proofs.lemmas.List.{take_more, append-nil}
use Rattle.std.proofs.lemmas.Str.{encodes-append}
use Rattle.std.specs.Char.{encode_utf8}
use Rattle.std.specs.Str.{encode_utf8_all}
use Rattle.src_token.proofs.characters.name_of.Goals as goal

encodes_more : (text piece : List ℕ) (i c : ℕ) → i < length piece → text ≡ encode_utf8_all (take i piece) → c ≡ get_or piece i c
    → text ++ encode_utf8 c ≡ encode_utf8_all (take (i + 1) piece)
encodes_more text piece i c within e same =
    rw (take_more piece i c within, encodes-append, e, ← same, append-nil) refl

pub loop-c-preserved : goal.loop-c-preserved
loop-c-preserved c =
    c.in_ok-push.ensures.bytes ∙ encodes_more _ c.args.piece.now c.loop-c.c-index _ c.loop-c-test.true c.loop-c.invariant c.c-item.is
