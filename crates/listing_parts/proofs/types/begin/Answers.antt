use Rattle.std.proofs.Common.{Some, Ok, [], length, ap, subst, sym, arith, refl}
use Rattle.listing_write.specs.Types.{form_text}
use Rattle.listing_parts.specs.Leaves.{BeginsLeaf, IsLeaf}
use Rattle.listing_parts.specs.OpenTypes.{Steps, goes_on}
use Rattle.listing_parts.specs.Table.{text_under, under}
use Rattle.listing_parts.specs.TypeReading.{rest_read, type_read}
use Rattle.listing_parts.specs.declared.types.Open.{Open}
use Rattle.listing_parts.specs.declared.types.Step.{Step}
use Rattle.listing_parts.proofs.OpenSteps.{opened_steps, refused_steps, whole_steps}
use Rattle.listing_parts.proofs.types.begin.Goals as goal

pub read_interned-requires-clause-stands : goal.read_interned-requires-clause-stands
read_interned-requires-clause-stands c = (subst (BeginsLeaf c.args.heads.now) c.in-Whole.is c.requires.leaf).stands (length c.args.items.now.types)

pub returns-in-Ok : goal.returns-in-Ok
returns-in-Ok c =
    let heads = c.args.heads.now in
    let old = c.args.items.now in
    let leaf : IsLeaf heads c.in-Whole.ty = subst (BeginsLeaf heads) c.in-Whole.is c.requires.leaf in
    subst (λ b. Steps heads old c.read_interned.new.items c.args.opens.now (Ok (Step.Whole c.in-Ok.id c.in-Ok.rest)) (goes_on heads old c.args.opens.now (rest_read (type_read heads) heads (b, c.args.text.now))) (length c.args.text.now)) (sym c.in-Whole.is)
    (whole_steps heads old c.read_interned.new.items c.args.opens.now (form_text (under heads old) (text_under heads old) c.in-Whole.ty) c.args.text.now (length c.args.text.now)
    (Some (form_text heads (λ id. []) c.in-Whole.ty, c.args.text.now)) c.in-Ok.id c.in-Ok.rest
    c.requires.read c.requires.opens (ap (λ w. Some (w, c.args.text.now)) (sym (leaf.written old (text_under heads old)))) (omega arith) c.in-Ok.ensures)

pub returns-in-Err : goal.returns-in-Err
returns-in-Err c =
    refused_steps c.args.heads.now c.args.items.now c.read_interned.new.items c.args.opens.now _ c.args.text.now (length c.args.text.now) _ c.in-Err.error
    c.requires.read c.requires.opens c.in-Err.ensures

pub returns-in-Around : goal.returns-in-Around
returns-in-Around c =
    let heads = c.args.heads.now in
    let items = c.args.items.now in
    let step = opened_steps heads items c.args.opens.now c.put_open.new.opens (Open.Around c.in-Around.around) c.args.text.now (length c.args.text.now) _ c.put_open.result
    c.requires.read c.requires.opens tt refl (omega arith) c.put_open.ensures.opened c.put_open.ensures.refused in
    subst (λ b. Steps heads items items c.put_open.new.opens c.put_open.result (goes_on heads items c.args.opens.now (rest_read (type_read heads) heads (b, c.args.text.now))) (length c.args.text.now)) (sym c.in-Around.is) step
