use Rattle.std.proofs.Common.{Ok, arith, refl, rules}
use Rattle.typing_rules.specs.Collected.{starting_with}
use Rattle.typing_rules.specs.Places.{never}
use Rattle.typeck_heads.specs.Forms.{around_of}
use Rattle.typeck_heads.proofs.Shapes.{part_falls}
use Rattle.typeck_heads.proofs.Types.{all_behind, ids_behind, written_answers, refused_answers}
use Rattle.typeck_heads.proofs.written_types.+types.Goals as goal

pub all_written-loop-split-preserved : goal.all_written-loop-split-preserved
all_written-loop-split-preserved t c =
    record {
      answers = all_behind _ _ _ _ _ _ _ _ _ _ c.loop-split.invariant.answers c.in-Some.ensures c.in_ok-id.ensures.answers c.in_ok-push_to.ensures.pushed;
      grows = omega arith;
      known = ids_behind _ _ _ _ _ c.loop-split.invariant.known c.resolve_type.ensures.grows c.in_ok-id.ensures.known c.in_ok-push_to.ensures.pushed;
      smaller = search rules;
    }

pub resolve_type-returns-in-Name-clause-answers : goal.resolve_type-returns-in-Name-clause-answers
resolve_type-returns-in-Name-clause-answers t c =
    written_answers (around_of c.args.scope.now) c.args.node.now (starting_with c.args.items.now) _ _ _ _
    c.in-Name.is c.type_form.ensures c.named_type.ensures.answers

pub resolve_type-returns-in-Generic-clause-answers : goal.resolve_type-returns-in-Generic-clause-answers
resolve_type-returns-in-Generic-clause-answers t c =
    written_answers (around_of c.args.scope.now) c.args.node.now (starting_with c.args.items.now) _ _ _ _
    c.in-Generic.is c.type_form.ensures c.generic.ensures.answers

pub resolve_type-returns-in-Dyn-clause-answers : goal.resolve_type-returns-in-Dyn-clause-answers
resolve_type-returns-in-Dyn-clause-answers t c =
    written_answers (around_of c.args.scope.now) c.args.node.now (starting_with c.args.items.now) _ _ _ _
    c.in-Dyn.is c.type_form.ensures c.object.ensures.answers

pub resolve_type-returns-in-SelfType-clause-answers : goal.resolve_type-returns-in-SelfType-clause-answers
resolve_type-returns-in-SelfType-clause-answers t c =
    written_answers (around_of c.args.scope.now) c.args.node.now (starting_with c.args.items.now) _ _ _ _
    c.in-SelfType.is c.type_form.ensures c.self_type.ensures.answers

pub resolve_type-returns-in-Parens-clause-answers : goal.resolve_type-returns-in-Parens-clause-answers
resolve_type-returns-in-Parens-clause-answers t c =
    written_answers (around_of c.args.scope.now) c.args.node.now (starting_with c.args.items.now) _ _ _ _
    c.in-Parens.is c.type_form.ensures c.resolve_type.ensures.answers

pub resolve_type-returns-in-Tuple-clause-answers : goal.resolve_type-returns-in-Tuple-clause-answers
resolve_type-returns-in-Tuple-clause-answers t c =
    written_answers (around_of c.args.scope.now) c.args.node.now (starting_with c.args.items.now) _ _ _ _
    c.in-Tuple.is c.type_form.ensures c.tuple.ensures.answers

pub resolve_type-returns-in-Array-clause-answers : goal.resolve_type-returns-in-Array-clause-answers
resolve_type-returns-in-Array-clause-answers t c =
    written_answers (around_of c.args.scope.now) c.args.node.now (starting_with c.args.items.now) _ _ _ _
    c.in-Array.is c.type_form.ensures c.array.ensures.answers

pub resolve_type-returns-in-Reference-clause-answers : goal.resolve_type-returns-in-Reference-clause-answers
resolve_type-returns-in-Reference-clause-answers t c =
    written_answers (around_of c.args.scope.now) c.args.node.now (starting_with c.args.items.now) _ _ _ _
    c.in-Reference.is c.type_form.ensures c.reference.ensures.answers

pub resolve_type-returns-in-Other-clause-answers : goal.resolve_type-returns-in-Other-clause-answers
resolve_type-returns-in-Other-clause-answers t c =
    refused_answers (around_of c.args.scope.now) c.args.node.now (starting_with c.args.items.now) _ c.args.items.now _
    c.in-Other.is c.type_form.ensures c.broken_rule.ensures

pub resolve_type-returns-in-Never-clause-answers : goal.resolve_type-returns-in-Never-clause-answers
resolve_type-returns-in-Never-clause-answers t c =
    written_answers (around_of c.args.scope.now) c.args.node.now (starting_with c.args.items.now) (Ok never) c.args.items.now _ _
    c.in-Never.is c.type_form.ensures refl

-- ---- a part is smaller than the whole

pub resolve_type-generic-requires : goal.resolve_type-generic-requires
resolve_type-generic-requires t c = (part_falls c.args.node.now _ _ t _ c.decreases c.in-Generic.is c.type_form.ensures (omega arith), c.requires)

pub resolve_type-resolve_type-requires : goal.resolve_type-resolve_type-requires
resolve_type-resolve_type-requires t c = (part_falls c.args.node.now _ _ t _ c.decreases c.in-Parens.is c.type_form.ensures (omega arith), c.requires)

pub resolve_type-tuple-requires : goal.resolve_type-tuple-requires
resolve_type-tuple-requires t c = (part_falls c.args.node.now _ _ t _ c.decreases c.in-Tuple.is c.type_form.ensures (omega arith), c.requires)

pub resolve_type-array-requires : goal.resolve_type-array-requires
resolve_type-array-requires t c = (part_falls c.args.node.now _ _ t _ c.decreases c.in-Array.is c.type_form.ensures (omega arith), c.requires)

pub resolve_type-reference-requires : goal.resolve_type-reference-requires
resolve_type-reference-requires t c = (part_falls c.args.node.now _ _ t _ c.decreases c.in-Reference.is c.type_form.ensures (omega arith), c.requires)
