-- One body more, and none.
use Rattle.std.proofs.Common.{rules, Bool, List, ℕ, Ok, subst}
use Rattle.std.specs.Borrow.{Bor}
use Rattle.mir_text.specs.BodyReading.{body_read}
use Rattle.mir_text.specs.BodiesRead.{AddsBody, FindsBody, FindsSig}
use Rattle.mir_text.proofs.BodyByBody.{body_added, body_missing}
use Rattle.mir_text.proofs.bodies.add_body.Goals as goal

pub returns-in-Ok-push_body : goal.returns-in-Ok-push_body
returns-in-Ok-push_body c =
    let heads = c.args.heads.now in
    let found = body_read heads c.args.n c.args.text.now in
    let read : FindsBody heads c.args.items.now c.read_body.new.items (Ok (((c.in-Ok.name, c.in-Ok.body), c.in-Ok.whole), c.in-Ok.rest)) found = search rules in
    let signed : FindsSig heads c.read_body.new.items c.signature.new.items c.in-Ok.name.now c.in-Ok.body (Ok c.in-Ok-signature.sig) = search rules in
    let one : AddsBody heads c.args.items.now c.push_body.new.items c.args.bodies.now c.push_body.new.bodies (Ok (c.in-Ok.whole, c.in-Ok.rest)) found =
    body_added heads c.args.items.now c.read_body.new.items c.signature.new.items c.push_body.new.items c.args.bodies.now c.push_body.new.bodies c.in-Ok.name c.in-Ok.body c.in-Ok.whole c.in-Ok.rest c.in-Ok-signature.sig found
    c.requires read signed (search rules) (search rules) in
    subst (λ (q : Bool × Bor (List ℕ)). AddsBody heads c.args.items.now c.push_body.new.items c.args.bodies.now c.push_body.new.bodies (Ok q) found) (search rules) one

pub returns : goal.returns
returns c =
    let heads = c.args.heads.now in
    body_missing heads c.args.items.now c.read_body.new.items c.args.bodies.now c.read_body.result c.in-Err.error (body_read heads c.args.n c.args.text.now) c.requires c.read_body.ensures c.in-Err.is
