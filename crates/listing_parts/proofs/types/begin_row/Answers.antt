use Rattle.std.proofs.Common.{rules, ◌≡◌, ◌<◌, ◌∙◌, Some, None, [], length, codes, ap, subst, sym, arith}
use Rattle.std.proofs.lemmas.List.Elements.{All-nil}
use Rattle.mir_ty.specs.AreItems.{AreTypes}
use Rattle.mir_ty.specs.declared.ty.TyId.{TyId}
use Rattle.listing_write.specs.Reading.Words.{bind, strip}
use Rattle.listing_parts.specs.OpenTypes.{end_of_open}
use Rattle.listing_parts.specs.TypeReading.{type_read}
use Rattle.listing_parts.proofs.DepthFree.{stripped}
use Rattle.listing_parts.proofs.OpenSteps.{opened_steps, refused_steps, whole_steps}
use Rattle.listing_parts.proofs.OpenTypes.{row_begins, row_is_empty}
use Rattle.listing_parts.specs.declared.types.Open.{Open}
use Rattle.listing_parts.proofs.types.begin_row.Goals as goal

pub returns-in-Ok : goal.returns-in-Ok
returns-in-Ok c =
    let heads = c.args.heads.now in
    let found : strip (codes ")") c.args.text.now ≡ Some c.in-Some.rest.now = search rules in
    let left = stripped (codes ")") c.args.text.now c.in-Some.rest.now found in
    whole_steps heads c.args.items.now c.read_interned.new.items c.args.opens.now (codes "()") c.in-Some.rest.now (length c.args.text.now) _ c.in-Ok.id c.in-Ok.rest
    c.requires.read c.requires.opens (row_is_empty heads c.args.text.now c.in-Some.rest.now found) (omega (arith, left)) c.in-Ok.ensures

pub returns-in-Err : goal.returns-in-Err
returns-in-Err c =
    refused_steps c.args.heads.now c.args.items.now c.read_interned.new.items c.args.opens.now (codes "()") c.in-Some.rest.now (length c.args.text.now) _ c.in-Err.error
    c.requires.read c.requires.opens c.in-Err.ensures

pub returns-in-None : goal.returns-in-None
returns-in-None c =
    let heads = c.args.heads.now in
    let items = c.args.items.now in
    let found : strip (codes ")") c.args.text.now ≡ None = search rules in
    let no_parts : c.new.result ≡ [] = search rules in
    opened_steps heads items c.args.opens.now c.put_open.new.opens (Open.Row c.new.result) c.args.text.now (length c.args.text.now) _ c.put_open.result
    c.requires.read c.requires.opens (subst (AreTypes items.types) (sym no_parts) (All-nil (λ (id : TyId). id.0 < length items.types)))
    (row_begins heads c.args.text.now found ∙ ap (λ ids. bind (type_read heads c.args.text.now) (end_of_open heads items (Open.Row ids))) (sym no_parts))
    (omega arith) c.put_open.ensures.opened c.put_open.ensures.refused
