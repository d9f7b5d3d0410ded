-- One block more, a last one, and no more blocks.
use Rattle.std.proofs.Common.{rules, ◌≡◌, ◌-◌, ◌+◌, Bool, List, [], ◌∷◌, ◌++◌, ℕ, length, Some, None, true, false, ap, sym, ◌∙◌, arith}
use Rattle.cfg_graph.specs.declared.graph.Block.{Block}
use Rattle.listing_write.specs.Reading.Words.{FoundInText}
use Rattle.listing_lines.specs.CodeReading.{code_read}
use Rattle.listing_lines.proofs.Until.{one_more, last_one, no_more, so_far}
use Rattle.listing_lines.proofs.blocks.read_blocks.Goals as goal

pub returns-then-not-whole : goal.returns-then-not-whole
returns-then-not-whole c =
    let read = code_read c.args.heads.now in
    let n = c.loop-n.n in
    let fuel = length c.args.text.now - n in
    let number : c.in-Ok.number ≡ n = search rules in
    let found : read c.in-Ok.number c.loop-n.rest.now ≡ Some (c.in-Ok-block.found, c.in-Ok-block.behind.now) = search rules in
    let pushed : c.push_block.new.blocks ≡ c.loop-n.blocks ++ c.in-Ok-block.found.0 ∷ [] = search rules in
    let is : c.in_ok-whole-in-Ok-block.whole ≡ c.in-Ok-block.found.1 = search rules in
    let broken : c.in_ok-whole-in-Ok-block.whole ≡ false = search rules in
    let at : read n c.loop-n.rest.now ≡ Some ((c.in-Ok-block.found.0, false), c.in-Ok-block.behind.now) =
    ap (λ (k : ℕ). read k c.loop-n.rest.now) (sym number) ∙ found ∙ ap (λ (v : Bool). let f : FoundInText (Block × Bool) = Some ((c.in-Ok-block.found.0, v), c.in-Ok-block.behind.now) in f) (sym is ∙ broken) in
    sym (c.loop-n.invariant
    ∙ last_one read fuel (length c.args.text.now - (n + 1)) n c.loop-n.blocks c.in-Ok-block.found.0 c.loop-n.rest.now c.in-Ok-block.behind.now (omega arith) at
    ∙ ap (λ (bs : List Block). let q : (List Block × Bool) × List ℕ = ((bs, false), c.in-Ok-block.behind.now) in q) (sym pushed))

pub returns-in-Err-Unreadable : goal.returns-in-Err-Unreadable
returns-in-Err-Unreadable c =
    let read = code_read c.args.heads.now in
    let n = c.loop-n.n in
    let number : c.in-Ok.number ≡ n = search rules in
    let none : read c.in-Ok.number c.loop-n.rest.now ≡ None = search rules in
    sym (c.loop-n.invariant
    ∙ no_more read (length c.args.text.now - n) n c.loop-n.blocks c.loop-n.rest.now (ap (λ (k : ℕ). read k c.loop-n.rest.now) (sym number) ∙ none))

pub loop-n-preserved : goal.loop-n-preserved
loop-n-preserved c =
    let read = code_read c.args.heads.now in
    let n = c.loop-n.n in
    let fuel = length c.args.text.now - n in
    let number : c.in-Ok.number ≡ n = search rules in
    let found : read c.in-Ok.number c.loop-n.rest.now ≡ Some (c.in-Ok-block.found, c.in-Ok-block.behind.now) = search rules in
    let pushed : c.push_block.new.blocks ≡ c.loop-n.blocks ++ c.in-Ok-block.found.0 ∷ [] = search rules in
    let is : c.in_ok-whole-in-Ok-block.whole ≡ c.in-Ok-block.found.1 = search rules in
    let whole : c.in_ok-whole-in-Ok-block.whole ≡ true = search rules in
    let at : read n c.loop-n.rest.now ≡ Some ((c.in-Ok-block.found.0, true), c.in-Ok-block.behind.now) =
    ap (λ (k : ℕ). read k c.loop-n.rest.now) (sym number) ∙ found ∙ ap (λ (v : Bool). let f : FoundInText (Block × Bool) = Some ((c.in-Ok-block.found.0, v), c.in-Ok-block.behind.now) in f) (sym is ∙ whole) in
    c.loop-n.invariant
    ∙ one_more read fuel (length c.args.text.now - (n + 1)) n (n + 1) c.loop-n.blocks c.in-Ok-block.found.0 c.loop-n.rest.now c.in-Ok-block.behind.now (omega arith) (omega arith) at
    ∙ ap (λ (bs : List Block). so_far read (length c.args.text.now - (n + 1)) (n + 1) bs c.in-Ok-block.behind.now) (sym pushed)
