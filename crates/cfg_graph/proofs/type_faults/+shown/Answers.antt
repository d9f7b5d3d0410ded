use Rattle.mir_ty.specs.Known.{known_by}
use Rattle.cfg_graph.specs.WellFormed.Questions.{rule_for, shown_from}
use Rattle.cfg_graph.proofs.AskedOfLists.{any_held_by_adt, all_held_by_adt}
use Rattle.cfg_graph.proofs.type_faults.+shown.Goals as goal

pub any_held-returns-in-Some : goal.any_held-returns-in-Some
any_held-returns-in-Some t c =
    any_held_by_adt c.args.items.now
    (shown_from (known_by c.args.known.now) c.args.items.now.types (rule_for c.args.items.now c.args.question) c.args.rounds)
    c.in-Adt.n c.args.ty.now c.in-Some.adt.now c.as_slice.result.now c.any_field.result c.in-Adt.is c.in-Some.ensures.value c.as_slice.ensures c.any_field.ensures

pub all_held-returns-in-Some : goal.all_held-returns-in-Some
all_held-returns-in-Some t c =
    all_held_by_adt c.args.items.now
    (shown_from (known_by c.args.known.now) c.args.items.now.types (rule_for c.args.items.now c.args.question) c.args.rounds)
    c.in-Adt.n c.args.ty.now c.in-Some.adt.now c.as_slice.result.now c.all_fields.result c.in-Adt.is c.in-Some.ensures.value c.as_slice.ensures c.all_fields.ensures
