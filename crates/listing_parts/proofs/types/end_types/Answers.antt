use Rattle.std.proofs.Common.{rules, ◌≡◌, ◌++◌, ◌∷◌, [], Ok, Err, length, subst, ◌∙◌, arith}
use Rattle.listing_parts.specs.OpenTypes.{Ends, end_of_open}
use Rattle.listing_parts.specs.Table.{text_under}
use Rattle.listing_parts.specs.declared.types.Ended.{Ended}
use Rattle.listing_parts.proofs.FoundRows.{then_grow}
use Rattle.listing_parts.proofs.OpenSteps.{ended_there, fails_there, goes_on_there, outer_is_open, then_steps}
use Rattle.listing_parts.proofs.types.end_types.Goals as goal

pub end_in-requires-clause-opens : goal.end_in-requires-clause-opens
end_in-requires-clause-opens c =
    let items = c.loop-around.items in
    let popped : c.loop-around.opens ≡ c.pop.new.self ++ c.in-Some.around ∷ [] = search rules in
    outer_is_open c.args.heads.now items items c.loop-around.opens c.pop.new.self c.in-Some.around [] [] c.loop-around.invariant.grow.types c.loop-around.invariant.all_open popped

pub loop-around-preserved : goal.loop-around-preserved
loop-around-preserved c =
    let heads = c.args.heads.now in
    let items = c.loop-around.items in
    let new = c.end_in.new.items in
    let popped : c.loop-around.opens ≡ c.pop.new.self ++ c.in-Some.around ∷ [] = search rules in
    let e : Ends heads items new (Ok (Ended.Whole c.in-Ok-Whole.next c.in-Ok-Whole.behind)) (end_of_open heads items c.in-Some.around (text_under heads items c.loop-around.id, c.loop-around.rest.now)) (length c.loop-around.rest.now) =
    subst (λ s. Ends heads items new (Ok s) (end_of_open heads items c.in-Some.around (text_under heads items c.loop-around.id, c.loop-around.rest.now)) (length c.loop-around.rest.now)) c.in-Ok-Whole.field-0-is c.in-Ok-Whole.ensures in
    let so = ended_there heads items new c.loop-around.opens c.pop.new.self c.in-Some.around (text_under heads items c.loop-around.id) c.loop-around.rest.now c.loop-around.invariant.grow.types c.loop-around.invariant.all_open popped
    (length c.loop-around.rest.now) c.in-Ok-Whole.next c.in-Ok-Whole.behind e in
    let short = e.shorter in
    let shorter = c.loop-around.invariant.shorter in
    record {
      there = c.loop-around.invariant.there ∙ so.0;
      within = e.within;
      all_open = so.1;
      shorter = omega (arith, short, shorter);
      grow = then_grow heads c.args.items.now items new c.loop-around.invariant.grow e.grow;
    }

pub returns-in-Ok-More-clause-steps : goal.returns-in-Ok-More-clause-steps
returns-in-Ok-More-clause-steps c =
    let heads = c.args.heads.now in
    let items = c.loop-around.items in
    let new = c.end_in.new.items in
    let popped : c.loop-around.opens ≡ c.pop.new.self ++ c.in-Some.around ∷ [] = search rules in
    let e : Ends heads items new (Ok (Ended.More c.in-Ok-More.around c.in-Ok-More.behind)) (end_of_open heads items c.in-Some.around (text_under heads items c.loop-around.id, c.loop-around.rest.now)) (length c.loop-around.rest.now) =
    subst (λ s. Ends heads items new (Ok s) (end_of_open heads items c.in-Some.around (text_under heads items c.loop-around.id, c.loop-around.rest.now)) (length c.loop-around.rest.now)) c.in-Ok-More.field-0-is c.in-Ok-More.ensures in
    then_steps heads c.args.items.now new new c.put_open.new.opens c.put_open.result _ _ (length c.loop-around.rest.now) (length c.args.text.now)
    c.loop-around.invariant.there c.loop-around.invariant.shorter (then_grow heads c.args.items.now items new c.loop-around.invariant.grow e.grow)
    (goes_on_there heads items new c.loop-around.opens c.pop.new.self c.in-Some.around (text_under heads items c.loop-around.id) c.loop-around.rest.now c.loop-around.invariant.grow.types c.loop-around.invariant.all_open popped
    (length c.loop-around.rest.now) c.put_open.new.opens c.in-Ok-More.around c.in-Ok-More.behind c.put_open.result e c.put_open.ensures.opened c.put_open.ensures.refused)

pub returns-in-Err-clause-steps : goal.returns-in-Err-clause-steps
returns-in-Err-clause-steps c =
    let heads = c.args.heads.now in
    let items = c.loop-around.items in
    let new = c.end_in.new.items in
    let popped : c.loop-around.opens ≡ c.pop.new.self ++ c.in-Some.around ∷ [] = search rules in
    then_steps heads c.args.items.now items new c.pop.new.self (Err c.in-Err.error) _ _ (length c.loop-around.rest.now) (length c.args.text.now)
    c.loop-around.invariant.there c.loop-around.invariant.shorter c.loop-around.invariant.grow
    (fails_there heads items new c.loop-around.opens c.pop.new.self c.in-Some.around (text_under heads items c.loop-around.id) c.loop-around.rest.now c.loop-around.invariant.grow.types c.loop-around.invariant.all_open popped
    (length c.loop-around.rest.now) c.in-Err.error c.in-Err.ensures)
