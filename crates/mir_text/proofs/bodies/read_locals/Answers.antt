-- One local more, and no more locals.
use Rattle.std.proofs.Common.{rules, ◌≡◌, ◌-◌, ◌+◌, ◌<◌, ◌++◌, ◌∷◌, [], ℕ, Some, None, length, ap, sym, ◌∙◌, arith}
use Rattle.listing_lines.specs.LineReading.{local_read}
use Rattle.listing_parts.specs.Table.{text_under}
use Rattle.mir_text.proofs.Locals.{begins, goes_on, stops, fails, ends}
use Rattle.mir_text.proofs.bodies.read_locals.Goals as goal

pub loop-n-init : goal.loop-n-init
loop-n-init c = begins c.args.heads.now c.args.items.now c.args.text.now (length c.args.text.now - 0) _ (search rules) (omega arith) c.requires

pub loop-n-preserved : goal.loop-n-preserved
loop-n-preserved c =
    let heads = c.args.heads.now in
    let text = c.args.text.now in
    let n = c.loop-n.n in
    let new = c.local_line.new.items in
    let number : c.in-Ok.number ≡ n = search rules in
    let found : local_read heads c.in-Ok.number c.loop-n.rest.now ≡ Some (text_under heads new c.in-Ok-local_line.id, c.in-Ok-local_line.behind.now) = search rules in
    let there : c.in-Ok-local_line.id.0 < length new.types = search rules in
    let pushed : c.push.new.self ≡ c.loop-n.locals ++ c.in-Ok-local_line.id ∷ [] = search rules in
    goes_on heads c.args.items.now c.loop-n.items new n (n + 1) (length text - n) (length text - (n + 1)) c.loop-n.locals c.push.new.self c.in-Ok-local_line.id text c.loop-n.rest.now c.in-Ok-local_line.behind.now
    (omega arith) (omega arith) c.loop-n.invariant c.local_line.ensures.grow there (ap (λ (k : ℕ). local_read heads k c.loop-n.rest.now) (sym number) ∙ found) pushed

pub returns-in-Err-Unreadable : goal.returns-in-Err-Unreadable
returns-in-Err-Unreadable c =
    let heads = c.args.heads.now in
    let n = c.loop-n.n in
    let number : c.in-Ok.number ≡ n = search rules in
    let none : local_read heads c.in-Ok.number c.loop-n.rest.now ≡ None = search rules in
    stops heads c.args.items.now c.loop-n.items c.local_line.new.items n (length c.args.text.now - n) c.loop-n.locals c.args.text.now c.loop-n.rest c.loop-n.invariant c.local_line.ensures.grow
    (ap (λ (k : ℕ). local_read heads k c.loop-n.rest.now) (sym number) ∙ none)

pub returns-in-Err-NoMemory : goal.returns-in-Err-NoMemory
returns-in-Err-NoMemory c =
    fails c.args.heads.now c.args.items.now c.loop-n.items c.local_line.new.items c.loop-n.n (length c.args.text.now - c.loop-n.n) c.loop-n.locals c.args.text.now c.loop-n.rest.now c.loop-n.invariant c.local_line.ensures.grow

pub returns : goal.returns
returns c = ends c.args.heads.now c.args.items.now c.loop-n.items c.loop-n.n (length c.args.text.now - c.loop-n.n) c.loop-n.locals c.args.text.now c.loop-n.rest (omega arith) c.loop-n.invariant
