-- One method more, and no more methods.
use Rattle.std.proofs.Common.{rules, ◌≡◌, ◌-◌, ◌+◌, All, List, refl, length, Some, None, sym, subst, arith}
use Rattle.mir_ty.specs.AreItems.{IsMethod}
use Rattle.mir_ty.specs.declared.def.Sig.{Sig}
use Rattle.listing_lines.specs.TraitsRead.{FindsMore}
use Rattle.listing_write.specs.Compared.{sig_seen}
use Rattle.listing_write.specs.Reading.Rows.{comma, many}
use Rattle.listing_parts.specs.Table.{under}
use Rattle.listing_parts.proofs.FoundRows.{then_grow}
use Rattle.listing_lines.specs.TraitReading.{method_read}
use Rattle.listing_lines.proofs.FoundMethods.{row_fails, row_stops, row_goes_on, still_methods, one_more_method}
use Rattle.listing_lines.proofs.methods.more_methods.Goals as goal

pub returns-in-Err-Unreadable : goal.returns-in-Err-Unreadable
returns-in-Err-Unreadable c =
    let heads = c.args.heads.now in
    let read = comma (method_read heads c.args.own.now) in
    let none : read c.loop.rest.now ≡ None = search rules in
    row_stops heads c.args.n read c.args.items.now c.loop.items c.method_behind_comma.new.items (length c.args.text.now - c.loop.counter) c.args.methods.now c.loop.methods c.loop.rest (many read c.args.text.now)
    c.loop.invariant.left c.loop.invariant.within c.loop.invariant.grow c.method_behind_comma.ensures.grow none

pub loop-preserved : goal.loop-preserved
loop-preserved c =
    let heads = c.args.heads.now in
    let read = comma (method_read heads c.args.own.now) in
    let new = c.method_behind_comma.new.items in
    let fuel = length c.args.text.now - (c.loop.counter + 1) in
    let grow = c.method_behind_comma.ensures.grow in
    let is : read c.loop.rest.now ≡ Some (sig_seen (under heads new) c.in-Ok.method, c.in-Ok.behind.now) = search rules in
    let within : IsMethod new.types c.args.n c.in-Ok.method = search rules in
    let pushed = c.in_ok-push-in-Ok.ensures.pushed in
    record {
      left =
          row_goes_on heads c.args.n read c.args.items.now c.loop.items new (length c.args.text.now - c.loop.counter) fuel c.args.methods.now c.loop.methods c.push.new.self c.in-Ok.method c.loop.rest.now c.in-Ok.behind.now
          (many read c.args.text.now) (omega arith) c.loop.invariant.left c.loop.invariant.within c.loop.invariant.grow grow is pushed;
      within = subst (All (IsMethod new.types c.args.n)) (sym pushed) (one_more_method new.types c.args.n c.loop.methods c.in-Ok.method (still_methods heads c.loop.items new c.args.n c.loop.methods grow c.loop.invariant.within) within);
      grow = then_grow heads c.args.items.now c.loop.items new c.loop.invariant.grow grow;
    }

pub returns-in_err-push-in-Ok : goal.returns-in_err-push-in-Ok
returns-in_err-push-in-Ok c =
    let heads = c.args.heads.now in
    subst (λ (after : List Sig). FindsMore heads c.args.items.now c.method_behind_comma.new.items c.args.n c.args.methods.now after c.from_residual.result (many (comma (method_read heads c.args.own.now)) c.args.text.now)) (sym c.in_err-push-in-Ok.ensures.refused)
    (row_fails heads c.args.items.now c.loop.items c.method_behind_comma.new.items c.args.n c.args.methods.now c.loop.methods c.from_residual.result (many (comma (method_read heads c.args.own.now)) c.args.text.now)
    c.from_residual.ensures.0 c.loop.invariant.within c.loop.invariant.grow c.method_behind_comma.ensures.grow)

pub returns-in-Err-NoMemory : goal.returns-in-Err-NoMemory
returns-in-Err-NoMemory c =
    let heads = c.args.heads.now in
    row_fails heads c.args.items.now c.loop.items c.method_behind_comma.new.items c.args.n c.args.methods.now c.loop.methods _ (many (comma (method_read heads c.args.own.now)) c.args.text.now)
    refl c.loop.invariant.within c.loop.invariant.grow c.method_behind_comma.ensures.grow
