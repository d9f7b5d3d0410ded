-- One body more, a broken one, and no more bodies.
use Rattle.std.proofs.Common.{rules, ◌≡◌, ◌-◌, ◌+◌, true, false, ℕ, Ok, Err, length, subst, arith}
use Rattle.listing_parts.specs.declared.error.ReadError.{ReadError}
use Rattle.mir_text.specs.BodyReading.{body_read}
use Rattle.mir_text.specs.BodiesRead.{AddsBody}
use Rattle.mir_text.proofs.BodyByBody.{begins, goes_on, breaks, stops, ends}
use Rattle.mir_text.proofs.bodies.read_bodies.Goals as goal

pub loop-n-init : goal.loop-n-init
loop-n-init c = begins c.args.heads.now c.args.items.now c.args.text.now (length c.args.text.now - 0) _ c.requires.none (search rules) (omega arith) c.requires.drafted

pub loop-n-preserved : goal.loop-n-preserved
loop-n-preserved c =
    let heads = c.args.heads.now in
    let text = c.args.text.now in
    let n = c.loop-n.n in
    let number : c.in-Ok.number ≡ n = search rules in
    let whole : c.in-Ok-add_body.whole ≡ true = search rules in
    let one : AddsBody heads c.loop-n.items c.add_body.new.items c.loop-n.bodies c.add_body.new.bodies (Ok (c.in-Ok-add_body.whole, c.in-Ok-add_body.behind)) (body_read heads c.in-Ok.number c.loop-n.rest.now) = search rules in
    goes_on heads c.args.items.now c.loop-n.items c.add_body.new.items n c.loop-n.bodies c.add_body.new.bodies text (n + 1) (length text - n) (length text - (n + 1)) c.loop-n.rest.now c.in-Ok-add_body.whole c.in-Ok-add_body.behind
    (omega arith) (omega arith) whole c.loop-n.invariant
    (subst (λ (k : ℕ). AddsBody heads c.loop-n.items c.add_body.new.items c.loop-n.bodies c.add_body.new.bodies (Ok (c.in-Ok-add_body.whole, c.in-Ok-add_body.behind)) (body_read heads k c.loop-n.rest.now)) number one)

pub returns-then-not-whole : goal.returns-then-not-whole
returns-then-not-whole c =
    let heads = c.args.heads.now in
    let text = c.args.text.now in
    let n = c.loop-n.n in
    let number : c.in-Ok.number ≡ n = search rules in
    let broken : c.in-Ok-add_body.whole ≡ false = search rules in
    let one : AddsBody heads c.loop-n.items c.add_body.new.items c.loop-n.bodies c.add_body.new.bodies (Ok (c.in-Ok-add_body.whole, c.in-Ok-add_body.behind)) (body_read heads c.in-Ok.number c.loop-n.rest.now) = search rules in
    breaks heads c.args.items.now c.loop-n.items c.add_body.new.items n c.loop-n.bodies c.add_body.new.bodies text (length text - n) (length text - (n + 1)) c.loop-n.rest.now c.in-Ok-add_body.whole c.in-Ok-add_body.behind
    (omega arith) broken c.loop-n.invariant
    (subst (λ (k : ℕ). AddsBody heads c.loop-n.items c.add_body.new.items c.loop-n.bodies c.add_body.new.bodies (Ok (c.in-Ok-add_body.whole, c.in-Ok-add_body.behind)) (body_read heads k c.loop-n.rest.now)) number one)

pub returns-in-Err-Unreadable : goal.returns-in-Err-Unreadable
returns-in-Err-Unreadable c =
    let heads = c.args.heads.now in
    let n = c.loop-n.n in
    let number : c.in-Ok.number ≡ n = search rules in
    let one : AddsBody heads c.loop-n.items c.add_body.new.items c.loop-n.bodies c.add_body.new.bodies (Err ReadError.Unreadable) (body_read heads c.in-Ok.number c.loop-n.rest.now) = search rules in
    stops heads c.args.items.now c.loop-n.items c.add_body.new.items n c.loop-n.bodies c.add_body.new.bodies c.args.text.now (length c.args.text.now - n) c.loop-n.rest c.loop-n.invariant
    (subst (λ (k : ℕ). AddsBody heads c.loop-n.items c.add_body.new.items c.loop-n.bodies c.add_body.new.bodies (Err ReadError.Unreadable) (body_read heads k c.loop-n.rest.now)) number one)

pub returns : goal.returns
returns c = ends c.args.heads.now c.args.items.now c.loop-n.items c.loop-n.n (length c.args.text.now - c.loop-n.n) c.loop-n.bodies c.args.text.now c.loop-n.rest (omega arith) c.loop-n.invariant
