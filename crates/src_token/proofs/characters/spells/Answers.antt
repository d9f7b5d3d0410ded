-- The loop has compared all bytes, of which there are as many as characters.
use Rattle.std.proofs.Common.{◌≡◌, ℕ, ◌<◌, length, get_or, sym, arith}
use Rattle.std.proofs.lemmas.List.{ext_get_or}
use Rattle.std.proofs.lemmas.Slice.Eq.{bytes_eq-Decides}
use Rattle.src_token.proofs.characters.spells.Goals as goal

pub returns : goal.returns
returns c =
    let same_length : length c.args.text.now ≡ length c.args.piece.now = grind arith in
    let same : (i : ℕ) → i < length c.args.text.now → get_or c.args.text.now i 0 ≡ get_or c.args.piece.now i 0 =
    λ i within. let read : get_or c.args.piece.now i 0 ≡ get_or c.as_bytes-bytes.result.now i 0 = c.loop-i.invariant i (grind arith) in grind arith in
    sym ((bytes_eq-Decides c.args.text.now c.args.piece.now).1 (ext_get_or 0 _ _ same_length same))
