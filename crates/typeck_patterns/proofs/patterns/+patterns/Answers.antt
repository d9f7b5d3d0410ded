use Rattle.std.proofs.Common.{ℕ, List, ◌+◌, ap, arith, drop, refl, get_or, length, map, replicate, reverse, sym, subst, take, ◌∙◌, rules}
use Rattle.std.specs.Option.{option_map}
use Rattle.std.proofs.lemmas.List.{length-replicate}
use Rattle.typeck_checker.specs.Lists.{last_nodes, many_form}
use Rattle.typeck_heads.specs.Answers.{Refuses}
use Rattle.mir_base.specs.declared.rule.RuleError.{RuleError}
use Rattle.mir_ty.specs.declared.ty.TyId.{TyId}
use Rattle.typeck_patterns.specs.PatternContext.{GivesBound, pattern_context_of}
use Rattle.typeck_patterns.specs.Fields.{below_given}
use Rattle.typeck_patterns.specs.Members.{part_of, variant_of}
use Rattle.typeck_patterns.specs.Targets.{target_of}
use Rattle.typeck_patterns.proofs.Units.{beside}
use Rattle.src_ast.specs.Seen.{nodes_of, syn_of}
use Rattle.typeck_checker.specs.Stand.{env, stack, state}
use Rattle.typed_tree.specs.Tree as tree
use Rattle.typing_rules.specs.Patterns as patterns
use Rattle.typing_rules.specs.Rows.{Given}
use Rattle.typeck_patterns.specs.Answers.{GivesField, GivesNodes}
use Rattle.typeck_patterns.proofs.Closings.{array_is, fields_close, first_if, first_parts, or_is, order_close, parts_close, after_begun, tuple_is}
use Rattle.typeck_patterns.proofs.PartLists.{drop_next, each_step, fields_behind, none_before, nothing_before, one_under, part_step, part_stop}
use Rattle.typeck_patterns.proofs.Shapes.{field_none, field_some, pattern_falls, seen_by}
use Rattle.typeck_patterns.proofs.patterns.+patterns.Goals as goal
use Rattle.typing_rules.specs.Patterns.{alternatives_end, count_of, each_pattern, is_tuple_count, part_patterns, parts_by_name, parts_in_order, sequence_end, target_end, wildcard}

pub pattern-returns-in-Wild-clause-gives : goal.pattern-returns-in-Wild-clause-gives
pattern-returns-in-Wild-clause-gives t c =
    subst (λ o. GivesBound o c.wildcard.result c.args.bound.now c.wildcard.new.checker)
    (sym (seen_by (env c.args.checker.now) (pattern_context_of c.args.e) c.args.ty c.args.node.now (reverse c.args.bound.now) (state c.args.checker.now) c.pattern_form.result _ c.pattern_form.ensures c.in-Wild.is))
    (beside (wildcard c.args.node.now.at c.args.ty (state c.args.checker.now)) c.wildcard.result (reverse c.args.bound.now) c.wildcard.new.checker c.wildcard.ensures.gives)

pub pattern-returns-in-Bind-clause-gives : goal.pattern-returns-in-Bind-clause-gives
pattern-returns-in-Bind-clause-gives t c =
    subst (λ o. GivesBound o c.lone_name.result c.lone_name.new.bound c.lone_name.new.checker)
    (sym (seen_by (env c.args.checker.now) (pattern_context_of c.args.e) c.args.ty c.args.node.now (reverse c.args.bound.now) (state c.args.checker.now) c.pattern_form.result _ c.pattern_form.ensures c.in-Bind.is))
    c.lone_name.ensures.gives

pub pattern-returns-in-Literal-clause-gives : goal.pattern-returns-in-Literal-clause-gives
pattern-returns-in-Literal-clause-gives t c =
    subst (λ o. GivesBound o c.literal_pattern.result c.args.bound.now c.literal_pattern.new.checker)
    (sym (seen_by (env c.args.checker.now) (pattern_context_of c.args.e) c.args.ty c.args.node.now (reverse c.args.bound.now) (state c.args.checker.now) c.pattern_form.result _ c.pattern_form.ensures c.in-Literal.is))
    (beside (patterns.literal_pattern c.args.node.now.at (pattern_context_of c.args.e) c.args.ty c.in-Literal.is_negative c.in-Literal.value c.in-Literal.suffix (state c.args.checker.now)) c.literal_pattern.result (reverse c.args.bound.now) c.literal_pattern.new.checker c.literal_pattern.ensures.gives)

pub pattern-returns-in-Truth-clause-gives : goal.pattern-returns-in-Truth-clause-gives
pattern-returns-in-Truth-clause-gives t c =
    subst (λ o. GivesBound o c.truth_pattern.result c.args.bound.now c.truth_pattern.new.checker)
    (sym (seen_by (env c.args.checker.now) (pattern_context_of c.args.e) c.args.ty c.args.node.now (reverse c.args.bound.now) (state c.args.checker.now) c.pattern_form.result _ c.pattern_form.ensures c.in-Truth.is))
    (beside (patterns.truth_pattern c.args.node.now.at (pattern_context_of c.args.e) c.args.ty c.in-Truth.value (state c.args.checker.now)) c.truth_pattern.result (reverse c.args.bound.now) c.truth_pattern.new.checker c.truth_pattern.ensures.gives)

pub pattern-returns-in-Path-clause-gives : goal.pattern-returns-in-Path-clause-gives
pattern-returns-in-Path-clause-gives t c =
    subst (λ o. GivesBound o c.path_alone.result c.args.bound.now c.path_alone.new.checker)
    (sym (seen_by (env c.args.checker.now) (pattern_context_of c.args.e) c.args.ty c.args.node.now (reverse c.args.bound.now) (state c.args.checker.now) c.pattern_form.result _ c.pattern_form.ensures c.in-Path.is))
    (c.path_alone.ensures.gives (reverse c.args.bound.now))

pub pattern-returns-in-Parts-clause-gives : goal.pattern-returns-in-Parts-clause-gives
pattern-returns-in-Parts-clause-gives t c =
    subst (λ o. GivesBound o c.parts_pattern.result c.parts_pattern.new.bound c.parts_pattern.new.checker)
    (sym (seen_by (env c.args.checker.now) (pattern_context_of c.args.e) c.args.ty c.args.node.now (reverse c.args.bound.now) (state c.args.checker.now) c.pattern_form.result _ c.pattern_form.ensures c.in-Parts.is))
    c.parts_pattern.ensures.gives

pub pattern-returns-in-Fields-clause-gives : goal.pattern-returns-in-Fields-clause-gives
pattern-returns-in-Fields-clause-gives t c =
    subst (λ o. GivesBound o c.fields_pattern.result c.fields_pattern.new.bound c.fields_pattern.new.checker)
    (sym (seen_by (env c.args.checker.now) (pattern_context_of c.args.e) c.args.ty c.args.node.now (reverse c.args.bound.now) (state c.args.checker.now) c.pattern_form.result _ c.pattern_form.ensures c.in-Fields.is))
    c.fields_pattern.ensures.gives

pub pattern-returns-in-Parens-clause-gives : goal.pattern-returns-in-Parens-clause-gives
pattern-returns-in-Parens-clause-gives t c =
    subst (λ o. GivesBound o c.pattern.result c.pattern.new.bound c.pattern.new.checker)
    (sym (seen_by (env c.args.checker.now) (pattern_context_of c.args.e) c.args.ty c.args.node.now (reverse c.args.bound.now) (state c.args.checker.now) c.pattern_form.result _ c.pattern_form.ensures c.in-Parens.is))
    c.pattern.ensures.gives

pub pattern-returns-in-Tuple-clause-gives : goal.pattern-returns-in-Tuple-clause-gives
pattern-returns-in-Tuple-clause-gives t c =
    subst (λ o. GivesBound o c.tuple_pattern.result c.tuple_pattern.new.bound c.tuple_pattern.new.checker)
    (sym (seen_by (env c.args.checker.now) (pattern_context_of c.args.e) c.args.ty c.args.node.now (reverse c.args.bound.now) (state c.args.checker.now) c.pattern_form.result _ c.pattern_form.ensures c.in-Tuple.is))
    c.tuple_pattern.ensures.gives

pub pattern-returns-in-Array-clause-gives : goal.pattern-returns-in-Array-clause-gives
pattern-returns-in-Array-clause-gives t c =
    subst (λ o. GivesBound o c.array_pattern.result c.array_pattern.new.bound c.array_pattern.new.checker)
    (sym (seen_by (env c.args.checker.now) (pattern_context_of c.args.e) c.args.ty c.args.node.now (reverse c.args.bound.now) (state c.args.checker.now) c.pattern_form.result _ c.pattern_form.ensures c.in-Array.is))
    c.array_pattern.ensures.gives

pub pattern-returns-in-Or-clause-gives : goal.pattern-returns-in-Or-clause-gives
pattern-returns-in-Or-clause-gives t c =
    subst (λ o. GivesBound o c.or_pattern.result c.or_pattern.new.bound c.or_pattern.new.checker)
    (sym (seen_by (env c.args.checker.now) (pattern_context_of c.args.e) c.args.ty c.args.node.now (reverse c.args.bound.now) (state c.args.checker.now) c.pattern_form.result _ c.pattern_form.ensures c.in-Or.is))
    c.or_pattern.ensures.gives

pub pattern-returns-in-Other-clause-gives : goal.pattern-returns-in-Other-clause-gives
pattern-returns-in-Other-clause-gives t c =
    let w = env c.args.checker.now in
    let xs = reverse c.args.bound.now in
    subst (λ (e : RuleError). Refuses (patterns.pattern w (pattern_context_of c.args.e) c.args.ty (syn_of c.args.node.now) xs (state c.args.checker.now)) e) (sym c.broken_rule.ensures)
    (seen_by w (pattern_context_of c.args.e) c.args.ty c.args.node.now xs (state c.args.checker.now) c.pattern_form.result _ c.pattern_form.ensures c.in-Other.is)

pub field_pattern-returns-in-Some-clause-gives : goal.field_pattern-returns-in-Some-clause-gives
field_pattern-returns-in-Some-clause-gives t c =
    λ v h.
    subst (λ o. GivesField o c.known_field.result c.known_field.new.bound c.known_field.new.checker)
    (sym (field_some (env c.args.checker.now) (pattern_context_of c.args.e) v c.args.node.now (reverse c.args.bound.now) (state c.args.checker.now) c.field_pattern_form.result c.in-Some.form _ c.field_pattern_form.ensures c.in-Some.is h))
    c.known_field.ensures.gives

pub field_pattern-returns-in-None-clause-gives : goal.field_pattern-returns-in-None-clause-gives
field_pattern-returns-in-None-clause-gives t c =
    λ v h.
    let w = env c.args.checker.now in
    let xs = reverse c.args.bound.now in
    subst (λ (e : RuleError). Refuses (patterns.field_pattern w (pattern_context_of c.args.e) v (syn_of c.args.node.now) xs (state c.args.checker.now)) e) (sym c.broken_rule.ensures)
    (field_none w (pattern_context_of c.args.e) v c.args.node.now xs (state c.args.checker.now) c.field_pattern_form.result c.field_pattern_form.ensures c.in-None.is)

pub part_patterns-loop-ty-preserved : goal.part_patterns-loop-ty-preserved
part_patterns-loop-ty-preserved t c =
    let before = c.loop-ty.invariant in
    let nothing : TyId = record { 0 = 0 } in
    let ty = get_or c.args.types.now c.loop-ty.ty-index nothing in
    let after = c.in_ok-pattern.ensures.kept in
    let here = ap (λ w. patterns.pattern w (pattern_context_of c.args.e) ty (syn_of c.in-Some.split.first.now) (reverse c.loop-ty.bound) (state c.loop-ty.checker)) (sym before.place.0) ∙ c.in_ok-pattern.ensures.gives in
    record {
      gives =
          part_step (env c.args.checker.now) (pattern_context_of c.args.e) _ c.loop-ty.count c.in_ok-count.count (stack c.loop-ty.checker) (stack c.pattern.new.checker) (drop c.loop-ty.ty-index c.args.types.now) (drop (c.loop-ty.ty-index + 1) c.args.types.now) ty (nodes_of c.loop-ty.rest)
          (syn_of c.in-Some.split.first.now) (nodes_of c.in-Some.split.rest) (reverse c.loop-ty.bound) (reverse c.pattern.new.bound) (state c.loop-ty.checker) (state c.pattern.new.checker)
          before.gives (drop_next c.args.types.now c.loop-ty.ty-index nothing c.loop-ty-test.true) c.in-Some.ensures here after.0 c.in_ok-count.ensures.more;
      under = one_under c.loop-ty.count c.in_ok-count.count (stack c.loop-ty.checker) (stack c.pattern.new.checker) (stack c.args.checker.now) before.under after.0 c.in_ok-count.ensures.more;
      place = (after.1.0 ∙ before.place.0, after.1.1 ∙ before.place.1);
      smaller = search rules;
    }

pub each_pattern-loop-split-preserved : goal.each_pattern-loop-split-preserved
each_pattern-loop-split-preserved t c =
    let before = c.loop-split.invariant in
    let after = c.in_ok-pattern.ensures.kept in
    let here = ap (λ w. patterns.pattern w (pattern_context_of c.args.e) c.args.ty (syn_of c.in-Some.split.first.now) (reverse c.loop-split.bound) (state c.loop-split.checker)) (sym before.place.0) ∙ c.in_ok-pattern.ensures.gives in
    record {
      gives =
          each_step (env c.args.checker.now) (pattern_context_of c.args.e) c.args.ty _ c.loop-split.count c.in_ok-count.count (stack c.loop-split.checker) (stack c.pattern.new.checker) (nodes_of c.loop-split.rest)
          (syn_of c.in-Some.split.first.now) (nodes_of c.in-Some.split.rest) (reverse c.loop-split.bound) (reverse c.pattern.new.bound) (state c.loop-split.checker) (state c.pattern.new.checker)
          before.gives c.in-Some.ensures here after.0 c.in_ok-count.ensures.more;
      under = one_under c.loop-split.count c.in_ok-count.count (stack c.loop-split.checker) (stack c.pattern.new.checker) (stack c.args.checker.now) before.under after.0 c.in_ok-count.ensures.more;
      place = (after.1.0 ∙ before.place.0, after.1.1 ∙ before.place.1);
      smaller = search rules;
    }

pub named_parts-returns-clause-gives : goal.named_parts-returns-clause-gives
named_parts-returns-clause-gives t c =
    λ v h.
    let before = c.args.checker.now in
    let w = env before in
    let xs = reverse c.args.bound.now in
    fields_close w c.args.id.0 c.args.at (pattern_context_of c.args.e) c.args.ty (target_of c.args.target) v (nodes_of c.args.fields) c.args.dots xs (reverse c.field_patterns.new.bound) (state before) (state c.field_patterns.new.checker)
    c.in_ok-given.given (stack c.field_patterns.new.checker) c.field_count-count.result c.named_end.result c.named_end.new.checker
    (ap (λ e. patterns.field_patterns w e v (nodes_of c.args.fields) xs (state before)) (sym c.inside_of-inside.ensures) ∙ c.in_ok-given.ensures.gives v h)
    c.field_count-count.ensures c.named_end.ensures.gives

pub fields_of_target-returns-clause-gives : goal.fields_of_target-returns-clause-gives
fields_of_target-returns-clause-gives t c =
    let before = c.args.checker.now in
    let xs = reverse c.args.bound.now in
    let v = variant_of before.walk.items c.args.target in
    subst (λ o. GivesBound o c.named_parts.result c.named_parts.new.bound c.named_parts.new.checker)
    (sym (after_begun (env before) c.in_ok-id.id.0 c.args.at (pattern_context_of c.args.e) c.args.ty (target_of c.args.target) (parts_by_name (env before) v (nodes_of c.args.fields) c.args.dots xs) (state before) (state c.target_begin.new.checker) c.in_ok-id.ensures.gives))
    (subst (λ w. GivesBound (target_end c.in_ok-id.id.0 c.args.at (pattern_context_of c.args.e) c.args.ty (target_of c.args.target) (parts_by_name w v (nodes_of c.args.fields) c.args.dots xs) (state c.target_begin.new.checker)) c.named_parts.result c.named_parts.new.bound c.named_parts.new.checker)
    c.in_ok-id.ensures.same.1.0
    (c.named_parts.ensures.gives v (ap (map (option_map part_of)) c.as_slice.ensures ∙ c.in_ok-parts.ensures.named)))

pub parts_of_target-returns-clause-gives : goal.parts_of_target-returns-clause-gives
parts_of_target-returns-clause-gives t c =
    let before = c.args.checker.now in
    let xs = reverse c.args.bound.now in
    subst (λ o. GivesBound o c.parts_behind.result c.parts_behind.new.bound c.parts_behind.new.checker)
    (sym (after_begun (env before) c.in_ok-id.id.0 c.args.at (pattern_context_of c.args.e) c.args.ty (target_of c.args.target) (parts_in_order (env before) (target_of c.args.target) (nodes_of c.args.parts) c.args.dots xs) (state before) (state c.target_begin.new.checker) c.in_ok-id.ensures.gives))
    (subst (λ w. GivesBound (target_end c.in_ok-id.id.0 c.args.at (pattern_context_of c.args.e) c.args.ty (target_of c.args.target) (parts_in_order w (target_of c.args.target) (nodes_of c.args.parts) c.args.dots xs) (state c.target_begin.new.checker)) c.parts_behind.result c.parts_behind.new.bound c.parts_behind.new.checker)
    c.in_ok-id.ensures.same.1.0
    c.parts_behind.ensures.gives)

pub first_patterns-returns-clause-gives : goal.first_patterns-returns-clause-gives
first_patterns-returns-clause-gives t c =
    λ tys first.
    let w = env c.args.checker.now in
    let xs = reverse c.args.bound.now in
    let s = state c.args.checker.now in
    let ps = nodes_of c.args.parts in
    subst (λ o. GivesNodes o c.part_patterns.result c.part_patterns.new.bound c.part_patterns.new.checker)
    (ap (λ l. patterns.part_patterns w (pattern_context_of c.args.e) l ps xs s) (c.as_slice.ensures ∙ first.0 ∙ ap (λ (n : ℕ). take n tys) c.requires) ∙ first_parts w (pattern_context_of c.args.e) tys ps xs s)
    c.part_patterns.ensures.gives

pub in_order-returns-clause-gives : goal.in_order-returns-clause-gives
in_order-returns-clause-gives t c =
    λ tys first.
    order_close (env c.args.checker.now) c.args.id.0 c.args.at (pattern_context_of c.args.e) c.args.ty tys (length tys) (many_form c.args.many) (nodes_of c.args.parts) c.args.dots (reverse c.args.bound.now) (reverse c.first_patterns.new.bound)
    (state c.args.checker.now) (state c.first_patterns.new.checker) (last_nodes c.in_ok-count.count (stack c.first_patterns.new.checker)) c.is_count-is_count.result c.counted_end.result c.counted_end.new.checker
    (c.in_ok-count.ensures.gives tys first)
    (c.is_count-is_count.ensures ∙ ap (λ (n : ℕ). patterns.is_count c.args.dots n c.args.types.now.count) c.requires ∙ ap (patterns.is_count c.args.dots (patterns.count_of (nodes_of c.args.parts))) first.1)
    c.counted_end.ensures.gives

pub ordered_parts-returns-clause-gives : goal.ordered_parts-returns-clause-gives
ordered_parts-returns-clause-gives t c =
    let before = c.args.checker.now in
    let w = env before in
    let xs = reverse c.args.bound.now in
    let tg = target_of c.args.target in
    let tys = patterns.fields_of before.walk.items tg in
    parts_close w c.args.id.0 c.args.at (pattern_context_of c.args.e) c.args.ty tg (nodes_of c.args.parts) c.args.dots xs (reverse c.first_patterns.new.bound) (state before) (state c.first_patterns.new.checker)
    c.in_ok-count.count (stack c.first_patterns.new.checker) c.is_tuple_count-is_count.result c.ordered_end.result c.ordered_end.new.checker
    (ap (λ e. patterns.part_patterns w e tys (nodes_of c.args.parts) xs (state before)) (sym c.inside_of-inside.ensures) ∙ c.in_ok-count.ensures.gives tys c.requires.types)
    (c.is_tuple_count-is_count.ensures ∙ ap (λ (n : ℕ). is_tuple_count w tg n c.args.types.now.count c.args.dots) c.requires.given ∙ ap (λ (n : ℕ). is_tuple_count w tg (patterns.count_of (nodes_of c.args.parts)) n c.args.dots) c.requires.types.1)
    c.ordered_end.ensures.gives

pub elements_pattern-returns-clause-gives : goal.elements_pattern-returns-clause-gives
elements_pattern-returns-clause-gives t c =
    let tys = replicate c.args.count c.args.element in
    subst (λ (n : ℕ). GivesBound (sequence_end c.args.id.0 c.args.at c.args.ty (λ x. tree.ArrayPattern x) c.args.dots (count_of (nodes_of c.args.elements)) n (part_patterns (env c.args.checker.now) (pattern_context_of c.args.e) tys (nodes_of c.args.elements) (reverse c.args.bound.now)) (state c.args.checker.now)) c.in_order.result c.in_order.new.bound c.in_order.new.checker)
    (length-replicate c.args.count c.args.element)
    (c.in_order.ensures.gives tys c.in_ok-types.ensures.found)

pub tuple_pattern-returns-in-Some-clause-gives : goal.tuple_pattern-returns-in-Some-clause-gives
tuple_pattern-returns-in-Some-clause-gives t c =
    let before = c.args.checker.now in
    let later = c.number.new.self in
    let xs = reverse c.args.bound.now in
    let found = first_if c.in_ok-given.given (patterns.tuple_types later.walk.items c.args.ty c.in_ok-given.given c.args.dots) c.in_ok-types.field-0 c.in-Some.types c.in_ok-types.ensures.found c.in-Some.is in
    subst (λ o. GivesBound o c.in_order.result c.in_order.new.bound c.in_order.new.checker)
    (sym (tuple_is (env before) c.args.at (pattern_context_of c.args.e) c.args.ty (nodes_of c.args.parts) c.args.dots xs (state before) (state later) c.in_ok-id.id.0 found.0 c.in_ok-id.ensures.number
    (ap (λ (n : ℕ). patterns.tuple_types later.walk.items c.args.ty n c.args.dots) (sym c.in_ok-given.ensures.counted) ∙ found.1)))
    (subst (λ w. GivesBound (sequence_end c.in_ok-id.id.0 c.args.at c.args.ty tree.TuplePattern c.args.dots (count_of (nodes_of c.args.parts)) (length found.0) (part_patterns w (pattern_context_of c.args.e) found.0 (nodes_of c.args.parts) xs) (state later)) c.in_order.result c.in_order.new.bound c.in_order.new.checker)
    c.in_ok-id.ensures.same.1.0
    (c.in_order.ensures.gives found.0 found.2))

pub array_pattern-returns-in-Some-clause-gives : goal.array_pattern-returns-in-Some-clause-gives
array_pattern-returns-in-Some-clause-gives t c =
    let before = c.args.checker.now in
    let later = c.number.new.self in
    let xs = reverse c.args.bound.now in
    let element = c.in-Some.element in
    let count = c.in-Some.count in
    subst (λ o. GivesBound o c.elements_pattern.result c.elements_pattern.new.bound c.elements_pattern.new.checker)
    (sym (array_is (env before) c.args.at (pattern_context_of c.args.e) c.args.ty (nodes_of c.args.elements) c.args.dots xs (state before) (state later) c.in_ok-id.id.0 element count c.in_ok-id.ensures.number (sym c.array_of.ensures ∙ c.in-Some.is)))
    (subst (λ w. GivesBound (sequence_end c.in_ok-id.id.0 c.args.at c.args.ty tree.ArrayPattern c.args.dots (count_of (nodes_of c.args.elements)) count (part_patterns w (pattern_context_of c.args.e) (replicate count element) (nodes_of c.args.elements) xs) (state later)) c.elements_pattern.result c.elements_pattern.new.bound c.elements_pattern.new.checker)
    c.in_ok-id.ensures.same.1.0
    c.elements_pattern.ensures.gives)

pub or_pattern-returns-clause-gives : goal.or_pattern-returns-clause-gives
or_pattern-returns-clause-gives t c =
    let before = c.args.checker.now in
    let later = c.number.new.self in
    let xs = reverse c.args.bound.now in
    subst (λ o. GivesBound o c.alternatives.result c.alternatives.new.bound c.alternatives.new.checker)
    (sym (or_is (env before) c.args.at (pattern_context_of c.args.e) c.args.ty (nodes_of c.args.patterns) xs (state before) (state later) c.in_ok-id.id.0 c.in_ok-id.ensures.number (sym c.are_several.ensures ∙ c.in_ok-obeys.ensures.holds)))
    (subst (λ w. GivesBound (alternatives_end c.in_ok-id.id.0 c.args.at c.args.ty xs (each_pattern w (pattern_context_of c.args.e) c.args.ty (nodes_of c.args.patterns) xs) (state later)) c.alternatives.result c.alternatives.new.bound c.alternatives.new.checker)
    c.in_ok-id.ensures.same.1.0
    c.alternatives.ensures.gives)

pub field_patterns-loop-part-init : goal.field_patterns-loop-part-init
field_patterns-loop-part-init t c =
    let before = c.args.checker.now in
    let xs = reverse c.args.bound.now in
    record {
      gives =
          λ v h.
          let all = patterns.field_patterns (env before) (pattern_context_of c.args.e) v (nodes_of c.args.fields) xs (state before) in
          (none_before (stack before) all ∙ ap (λ (l : Given). fields_behind l (stack before) all) (sym c.new-given.ensures), h);
      under = ap (λ (l : Given). below_given l (stack before)) c.new-given.ensures;
      place = (refl, refl);
      smaller = omega arith;
    }

pub each_pattern-loop-split-init : goal.each_pattern-loop-split-init
each_pattern-loop-split-init t c =
    let before = c.args.checker.now in
    record {
      gives = nothing_before (stack before) (patterns.each_pattern (env before) (pattern_context_of c.args.e) c.args.ty (nodes_of c.args.patterns) (reverse c.args.bound.now) (state before));
      under = refl;
      place = (refl, refl);
      smaller = omega arith;
    }

pub part_patterns-loop-ty-init : goal.part_patterns-loop-ty-init
part_patterns-loop-ty-init t c =
    let before = c.args.checker.now in
    record {
      gives = nothing_before (stack before) (patterns.part_patterns (env before) (pattern_context_of c.args.e) c.args.types.now (nodes_of c.args.parts) (reverse c.args.bound.now) (state before));
      under = refl;
      place = (refl, refl);
      smaller = omega arith;
    }

pub part_patterns-returns-in_err-pattern-clause-gives : goal.part_patterns-returns-in_err-pattern-clause-gives
part_patterns-returns-in_err-pattern-clause-gives t c =
    let before = c.loop-ty.invariant in
    let nothing : TyId = record { 0 = 0 } in
    let types = c.args.types.now in
    let ty = get_or types c.loop-ty.ty-index nothing in
    let w = env c.args.checker.now in
    let e = pattern_context_of c.args.e in
    let err = c.in_err-pattern.field-0.0 in
    let first = syn_of c.in-Some.split.first.now in
    let here : Refuses (patterns.pattern w e ty first (reverse c.loop-ty.bound) (state c.loop-ty.checker)) err =
    subst (λ v. Refuses (patterns.pattern v e ty first (reverse c.loop-ty.bound) (state c.loop-ty.checker)) err) before.place.0 c.in_err-pattern.ensures.gives in
    let refused : Refuses (patterns.part_patterns w e types (nodes_of c.args.parts) (reverse c.args.bound.now) (state c.args.checker.now)) err =
    part_stop w e _ c.loop-ty.count (stack c.loop-ty.checker) (drop c.loop-ty.ty-index types) (drop (c.loop-ty.ty-index + 1) types) ty (nodes_of c.loop-ty.rest)
    first (nodes_of c.in-Some.split.rest) (reverse c.loop-ty.bound) (state c.loop-ty.checker) err
    before.gives (drop_next types c.loop-ty.ty-index nothing c.loop-ty-test.true) c.in-Some.ensures here in
    grind (arith, refused)

-- ---- a part is smaller than the whole

pub pattern-parts_pattern-requires : goal.pattern-parts_pattern-requires
pattern-parts_pattern-requires t c = (pattern_falls c.args.node.now _ _ t _ c.decreases c.in-Parts.is c.pattern_form.ensures (omega arith), tt)

pub pattern-fields_pattern-requires : goal.pattern-fields_pattern-requires
pattern-fields_pattern-requires t c = (pattern_falls c.args.node.now _ _ t _ c.decreases c.in-Fields.is c.pattern_form.ensures (omega arith), tt)

pub pattern-pattern-requires : goal.pattern-pattern-requires
pattern-pattern-requires t c = (pattern_falls c.args.node.now _ _ t _ c.decreases c.in-Parens.is c.pattern_form.ensures (omega arith), tt)

pub pattern-tuple_pattern-requires : goal.pattern-tuple_pattern-requires
pattern-tuple_pattern-requires t c = (pattern_falls c.args.node.now _ _ t _ c.decreases c.in-Tuple.is c.pattern_form.ensures (omega arith), tt)

pub pattern-array_pattern-requires : goal.pattern-array_pattern-requires
pattern-array_pattern-requires t c = (pattern_falls c.args.node.now _ _ t _ c.decreases c.in-Array.is c.pattern_form.ensures (omega arith), tt)

pub pattern-or_pattern-requires : goal.pattern-or_pattern-requires
pattern-or_pattern-requires t c = (pattern_falls c.args.node.now _ _ t _ c.decreases c.in-Or.is c.pattern_form.ensures (omega arith), tt)
