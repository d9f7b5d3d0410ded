use Rattle.std.proofs.Common.{◌≡◌, ℕ, Bool, ◌||◌, List, [], ◌∷◌, length, length-append, map, reverse, false, Option, None, Some, Result, Ok, slice_get, arith, refl, ap, sym, subst, ◌∙◌}
use Rattle.std.specs.Prelude.{option_map}
use Rattle.std.specs.Borrow.{Bor}
use Rattle.typeck_checker.specs.Lists.{below_all, last_nodes}
use Rattle.typeck_calls.specs.Callees.{callee_seen}
use Rattle.typeck_calls.specs.Closures.{callee_end}
use Rattle.typeck_calls.specs.Endings.{resolved_end}
use Rattle.typeck_calls.specs.Calls.{Arguments}
use Rattle.typeck_calls.specs.Methods.{received_end}
use Rattle.typeck_patterns.specs.LetAnswers.{value_if}
use Rattle.typeck_walk.proofs.Lets.{brings, let_done, let_refused}
use Rattle.typeck_walk.proofs.Inits.{behind_fields, by_tables, named_init, none_given, refused_fields, refused_value}
use Rattle.typeck_bodies.proofs.Bodies.{block_given, block_refused, returned_if}
use Rattle.typeck_bodies.proofs.Rows.{closure_done, closure_refused, start_refused}
use Rattle.typeck_bodies.specs.Closures.{start_of}
use Rattle.typeck_bodies.specs.Heads.{unvalued}
use Rattle.src_ast.specs.View.{idents, syns_of}
use Rattle.mir_base.specs.declared.rule.Rule.{Rule}
use Rattle.typing_rules.specs.Bodies as bodies_of
use Rattle.typing_rules.specs.Places.{a_node_of, wanted}
use Rattle.typeck_calls.proofs.InitForms.{init_seen}
use Rattle.typeck_calls.proofs.Turns.{below_more, field_refused, no_more, one_field}
use Rattle.typeck_calls.specs.Inits.{GivesInit, behind_inits, init_by, one_init, variant_by}
use Rattle.typeck_calls.specs.StructFields.{numbered_by, variant_of}
use Rattle.mir_ty.specs.declared.adt.Variant.{Variant}
use Rattle.src_ast.specs.Syntax.{Word, Shape}
use Rattle.typed_tree.specs.Tree.{Fields}
use Rattle.typing_rules.specs.Rows as rows_of
use Rattle.typing_rules.specs.Rows.{closure_end, Given, method_end, store_end, struct_end}
use Rattle.typeck_checker.specs.declared.tables.Tables.{Tables}
use Rattle.typeck_walk.proofs.Begun.{of_form, value_falls, no_nodes_yet}
use Rattle.typeck_walk.proofs.Arms.{if_let_looked, if_let_refused, matched, none_yet, one_arm, refused_arm, while_let_looked}
use Rattle.typing_rules.specs.Rows.{loop_around, scrutinised}
use Rattle.typeck_walk.specs.Matches.{arm_of_syn}
use Rattle.typeck_patterns.specs.PatternContext.{pattern_context_of}
use Rattle.typeck_walk.proofs.CallSteps.{behind_args, closure_called, method_called, refused_args}
use Rattle.mir_base.specs.declared.place_in_text.Pos.{Pos}
use Rattle.typing_rules.specs.Named.{Callee, method_named, place_inside}
use Rattle.typeck_walk.proofs.Statements.{below_statement, block_left, grown_length, grows_on, one_statement, scope_left, scoped_grows, statement_by}
use Rattle.typeck_walk.proofs.Stores.{borrowed, calculated, compared, stored}
use Rattle.typeck_walk.proofs.Jumps.{broken_out, returned_alone}
use Rattle.typeck_walk.specs.Bases.{plain_base}
use Rattle.typeck_walk.specs.Blocks.{GivesStatement}
use Rattle.typeck_exprs.specs.Jumps.{target_of, unlabelled}
use Rattle.mir_ty.specs.declared.ty.TyId.{TyId}
use Rattle.typeck_env.specs.Scope.{word_in}
use Rattle.typed_tree.specs.Tree as tree
use Rattle.well_typed.specs.Places.{ty_of}
use Rattle.typeck_exprs.specs.Forms.{place_by, value_as}
use Rattle.typeck_exprs.specs.declared.place_forms.PlaceForm.{PlaceForm}
use Rattle.typeck_exprs.specs.Sizes.{sizes}
use Rattle.typeck_heads.specs.Answers.{Refuses}
use Rattle.typeck_exprs.proofs.Lists.{below_next, below_part, one_argument, one_element, one_part, refused_argument, refused_part}
use Rattle.typeck_exprs.specs.Pairs.{left_of, right_of}
use Rattle.typeck_exprs.specs.Lists.{argument_at}
use Rattle.src_ast.specs.Expressions.{expression_of, init_of}
use Rattle.src_ast.specs.Seen.{maybe_of, nodes_of, syn_of, word_of}
use Rattle.src_ast.specs.Syntax.{BreakOf, IfElse, IfLetElse, LetOf, MoveOf}
use Rattle.src_ast.specs.declared.expression.ExpressionForm.{ExpressionForm}
use Rattle.src_ast.specs.declared.expression.InitForm.{InitForm}
use Rattle.src_tree.specs.declared.node.SyntaxNode.{SyntaxNode}
use Rattle.typeck_checker.specs.Stand.{Gives, GivesValue, env, stack, state, top, below}
use Rattle.typing_rules.specs.Patterns.{count_of}
use Rattle.typing_rules.specs.Scope.{Env, in_guard, jumps_to, with_variables, within_loop}
use Rattle.typing_rules.specs.Check.{Check, TypingState, Broken}
use Rattle.typing_rules.specs.Typed as rules_of
use Rattle.typeck_walk.proofs.+check_expr.Goals as goal

-- ---- lists

pub aggregates::check_elements-loop-split-preserved : goal.aggregates::check_elements-loop-split-preserved
aggregates::check_elements-loop-split-preserved t c =
    let before = c.loop-split.checker in
    let after = c.check_expr.new.checker in
    let e = env c.args.checker.now in
    let here : rules_of.typed e (syn_of c.in-Some.split.first.now) c.args.expected (state before) ≡ Ok (top (stack after), state after) =
    ap (λ (f : Env). rules_of.typed f (syn_of c.in-Some.split.first.now) c.args.expected (state before)) (sym c.loop-split.invariant.place.0) ∙ c.in_ok-check_expr.ensures.gives in
    record {
      gives =
          one_element e _ c.loop-split.count c.in_ok-count.count (stack before) (stack after) c.args.expected _ _ _ (state before) (state after)
          c.loop-split.invariant.gives c.in-Some.ensures here c.in_ok-check_expr.ensures.kept.0 c.in_ok-count.ensures.counted;
      below = below_next c.loop-split.count c.in_ok-count.count (stack before) (stack after) _ c.loop-split.invariant.below c.in_ok-check_expr.ensures.kept.0 c.in_ok-count.ensures.counted;
      place = (c.in_ok-check_expr.ensures.kept.1.0 ∙ c.loop-split.invariant.place.0, c.in_ok-check_expr.ensures.kept.1.1 ∙ c.loop-split.invariant.place.1);
      counted = omega (arith, ap count_of c.in-Some.ensures, c.in_ok-count.ensures.counted);
      smaller = omega (arith, ap sizes c.in-Some.ensures);
    }

pub aggregates::check_parts-returns-in_err-check_expr-clause-gives : goal.aggregates::check_parts-returns-in_err-check_expr-clause-gives
aggregates::check_parts-returns-in_err-check_expr-clause-gives t c =
    let before = c.loop-split.checker in
    let e = env c.args.checker.now in
    let here : Refuses (rules_of.typed e (syn_of c.in-Some.split.first.now) c.wanted_at-expected.result (state before)) c.in_err-check_expr.field-0.0 =
    subst (λ (f : Env). Refuses (rules_of.typed f (syn_of c.in-Some.split.first.now) c.wanted_at-expected.result (state before)) c.in_err-check_expr.field-0.0) c.loop-split.invariant.place.0 c.in_err-check_expr.ensures.gives in
    let refused : Refuses (rules_of.typed_parts e (map Some c.args.wants.now) (nodes_of c.args.parts) (state c.args.checker.now)) c.in_err-check_expr.field-0.0 =
    refused_part e _ c.loop-split.types (stack before) c.args.wants.now c.wanted_at-expected.result _ _ _ (state before) c.in_err-check_expr.field-0.0
    c.loop-split.invariant.gives c.in-Some.ensures (c.wanted_at-expected.ensures ∙ ap (λ (n : ℕ). slice_get c.args.wants.now n) c.len.ensures) here in
    grind (arith, refused)

pub aggregates::check_parts-loop-split-preserved : goal.aggregates::check_parts-loop-split-preserved
aggregates::check_parts-loop-split-preserved t c =
    let before = c.loop-split.checker in
    let after = c.check_expr.new.checker in
    let e = env c.args.checker.now in
    let here : rules_of.typed e (syn_of c.in-Some.split.first.now) c.wanted_at-expected.result (state before) ≡ Ok (top (stack after), state after) =
    ap (λ (f : Env). rules_of.typed f (syn_of c.in-Some.split.first.now) c.wanted_at-expected.result (state before)) (sym c.loop-split.invariant.place.0) ∙ c.in_ok-check_expr.ensures.gives in
    record {
      gives =
          one_part e _ c.loop-split.types c.push_to.new.list c.part_ty.result (stack before) (stack after) c.args.wants.now c.wanted_at-expected.result _ _ _ (state before) (state after)
          c.loop-split.invariant.gives c.in-Some.ensures (c.wanted_at-expected.ensures ∙ ap (λ (n : ℕ). slice_get c.args.wants.now n) c.len.ensures) here c.in_ok-check_expr.ensures.kept.0 c.part_ty.ensures c.in_ok-push_to.ensures.pushed;
      below = below_part c.loop-split.types c.push_to.new.list c.part_ty.result (stack before) (stack after) _ c.loop-split.invariant.below c.in_ok-check_expr.ensures.kept.0 c.in_ok-push_to.ensures.pushed;
      place = (c.in_ok-check_expr.ensures.kept.1.0 ∙ c.loop-split.invariant.place.0, c.in_ok-check_expr.ensures.kept.1.1 ∙ c.loop-split.invariant.place.1);
      counted = omega (arith, ap count_of c.in-Some.ensures, ap length c.in_ok-push_to.ensures.pushed, length-append c.loop-split.types (c.part_ty.result ∷ []));
      smaller = omega (arith, ap sizes c.in-Some.ensures);
    }

pub arguments::check_arguments-returns-in_err-check_argument_if-clause-gives : goal.arguments::check_arguments-returns-in_err-check_argument_if-clause-gives
arguments::check_arguments-returns-in_err-check_argument_if-clause-gives t c =
    let before = c.loop-split.checker in
    let e = env c.args.checker.now in
    let here : Refuses (argument_at e c.wanted_at.result (syn_of c.in-Some.split.first.now) (state before)) c.in_err-check_argument_if.field-0.0 =
    subst (λ (f : Env). Refuses (argument_at f c.wanted_at.result (syn_of c.in-Some.split.first.now) (state before)) c.in_err-check_argument_if.field-0.0) c.loop-split.invariant.place.0 c.in_err-check_argument_if.ensures.gives in
    let refused : Refuses (rules_of.typed_args e c.args.params.now (nodes_of c.args.args) (state c.args.checker.now)) c.in_err-check_argument_if.field-0.0 =
    refused_argument e _ c.loop-split.count (stack before) c.args.params.now c.wanted_at.result _ _ _ (state before) c.in_err-check_argument_if.field-0.0
    c.loop-split.invariant.gives c.in-Some.ensures c.wanted_at.ensures here in
    grind (arith, refused)

pub arguments::check_arguments-loop-split-preserved : goal.arguments::check_arguments-loop-split-preserved
arguments::check_arguments-loop-split-preserved t c =
    let before = c.loop-split.checker in
    let after = c.check_argument_if.new.checker in
    let e = env c.args.checker.now in
    let here : argument_at e c.wanted_at.result (syn_of c.in-Some.split.first.now) (state before) ≡ Ok (top (stack after), state after) =
    ap (λ (f : Env). argument_at f c.wanted_at.result (syn_of c.in-Some.split.first.now) (state before)) (sym c.loop-split.invariant.place.0) ∙ c.in_ok-check_argument_if.ensures.gives in
    record {
      gives =
          one_argument e _ c.loop-split.count c.in_ok-count.count (stack before) (stack after) c.args.params.now c.wanted_at.result _ _ _ (state before) (state after)
          c.loop-split.invariant.gives c.in-Some.ensures c.wanted_at.ensures here c.in_ok-check_argument_if.ensures.kept.0 c.in_ok-count.ensures.counted;
      below = below_next c.loop-split.count c.in_ok-count.count (stack before) (stack after) _ c.loop-split.invariant.below c.in_ok-check_argument_if.ensures.kept.0 c.in_ok-count.ensures.counted;
      place = (c.in_ok-check_argument_if.ensures.kept.1.0 ∙ c.loop-split.invariant.place.0, c.in_ok-check_argument_if.ensures.kept.1.1 ∙ c.loop-split.invariant.place.1);
      counted = omega (arith, ap count_of c.in-Some.ensures, c.in_ok-count.ensures.counted);
      smaller = omega (arith, ap sizes c.in-Some.ensures);
    }

-- ---- blocks

pub blocks::check_block-leave-requires : goal.blocks::check_block-leave-requires
blocks::check_block-leave-requires t c =
    omega (arith, c.count-outer.ensures, grown_length c.args.checker.now c.block_inside.new.checker c.in_ok-block_inside.ensures.kept.1)

pub blocks::check_block-returns-clause-kept : goal.blocks::check_block-returns-clause-kept
blocks::check_block-returns-clause-kept t c =
    block_left c.args.checker.now c.block_inside.new.checker c.leave.new.checker c.count-outer.result c.leave.ensures.others c.count-outer.ensures c.leave.ensures.left
    c.in_ok-block_inside.ensures.kept.0 c.in_ok-block_inside.ensures.kept.1

pub blocks::check_statements-loop-split-preserved : goal.blocks::check_statements-loop-split-preserved
blocks::check_statements-loop-split-preserved t c =
    let before = c.loop-split.checker in
    let after = c.check_statement.new.checker in
    let one = c.in_ok-one.one in
    record {
      gives =
          one_statement (env before) (env after) _ c.loop-split.count c.in_ok-count.count one.is_made one.ends c.loop-split.ends (c.loop-split.ends || one.ends) (stack before) (stack after) _ _ _ (state before) (state after)
          c.loop-split.invariant.gives c.in-Some.ensures c.in_ok-one.ensures.gives c.in_ok-one.ensures.kept.0 c.in_ok-count.ensures.counted refl;
      below = below_statement c.loop-split.count c.in_ok-count.count one.is_made (stack before) (stack after) _ c.loop-split.invariant.below c.in_ok-one.ensures.kept.0 c.in_ok-count.ensures.counted;
      place = grows_on c.args.checker.now before after c.loop-split.invariant.place c.in_ok-one.ensures.kept.1;
      smaller = omega (arith, ap sizes c.in-Some.ensures);
    }

-- ---- forms

pub branches::check_if-returns-in-Some-clause-gives : goal.branches::check_if-returns-in-Some-clause-gives
branches::check_if-returns-in-Some-clause-gives t c =
    subst (λ (o : Option (Bor SyntaxNode)). Gives (rules_of.value (env c.args.checker.now) c.args.at (IfElse (syn_of c.args.condition.now) (syn_of c.args.body.now) (maybe_of o)) c.args.expected (state c.args.checker.now)) c.if_else.result c.if_else.new.checker)
    (sym c.in-Some.is) c.if_else.ensures.gives

pub branches::check_if-returns-in-None-clause-gives : goal.branches::check_if-returns-in-None-clause-gives
branches::check_if-returns-in-None-clause-gives t c =
    subst (λ (o : Option (Bor SyntaxNode)). Gives (rules_of.value (env c.args.checker.now) c.args.at (IfElse (syn_of c.args.condition.now) (syn_of c.args.body.now) (maybe_of o)) c.args.expected (state c.args.checker.now)) c.if_alone.result c.if_alone.new.checker)
    (sym c.in-None.is) c.if_alone.ensures.gives

pub expressions::check_value-returns-in-Math-clause-gives : goal.expressions::check_value-returns-in-Math-clause-gives
expressions::check_value-returns-in-Math-clause-gives t c =
    subst (λ (f : ExpressionForm). Gives (value_as (env c.args.checker.now) c.args.at (expression_of f) c.args.expected (state c.args.checker.now)) c.check_arithmetic.result c.check_arithmetic.new.checker)
    (sym c.in-Math.is) c.check_arithmetic.ensures.gives

pub expressions::check_value-returns-in-Compare-clause-gives : goal.expressions::check_value-returns-in-Compare-clause-gives
expressions::check_value-returns-in-Compare-clause-gives t c =
    subst (λ (f : ExpressionForm). Gives (value_as (env c.args.checker.now) c.args.at (expression_of f) c.args.expected (state c.args.checker.now)) c.check_comparison.result c.check_comparison.new.checker)
    (sym c.in-Compare.is) c.check_comparison.ensures.gives

pub expressions::check_value-returns-in-Block-clause-gives : goal.expressions::check_value-returns-in-Block-clause-gives
expressions::check_value-returns-in-Block-clause-gives t c =
    subst (λ (f : ExpressionForm). Gives (value_as (env c.args.checker.now) c.args.at (expression_of f) c.args.expected (state c.args.checker.now)) c.check_block.result c.check_block.new.checker)
    (sym c.in-Block.is) c.check_block.ensures.gives

pub expressions::check_place-returns-in-Element-clause-gives : goal.expressions::check_place-returns-in-Element-clause-gives
expressions::check_place-returns-in-Element-clause-gives t c =
    subst (λ (f : PlaceForm). Gives (place_by (env c.args.checker.now) f (state c.args.checker.now)) c.check_index.result c.check_index.new.checker)
    (sym c.in-Element.is) c.check_index.ensures.gives

pub blocks::check_statement-returns-in-Let-clause-gives : goal.blocks::check_statement-returns-in-Let-clause-gives
blocks::check_statement-returns-in-Let-clause-gives t c =
    let before = c.args.checker.now in
    subst (λ o. GivesStatement o c.check_let.result c.check_let.new.checker)
    (sym (statement_by (env before) c.args.node.now (state before) c.statement_form.result _ c.statement_form.ensures c.in-Let.is))
    c.check_let.ensures.gives

pub blocks::check_statement-returns-in-Semi-clause-gives : goal.blocks::check_statement-returns-in-Semi-clause-gives
blocks::check_statement-returns-in-Semi-clause-gives t c =
    let before = c.args.checker.now in
    subst (λ o. GivesStatement o c.evaluate.result c.evaluate.new.checker)
    (sym (statement_by (env before) c.args.node.now (state before) c.statement_form.result _ c.statement_form.ensures c.in-Semi.is))
    c.evaluate.ensures.gives

pub blocks::check_statement-returns-in-Other-clause-gives : goal.blocks::check_statement-returns-in-Other-clause-gives
blocks::check_statement-returns-in-Other-clause-gives t c =
    let before = c.args.checker.now in
    subst (λ o. GivesStatement o c.evaluate-in-Other.result c.evaluate-in-Other.new.checker)
    (sym (statement_by (env before) c.args.node.now (state before) c.statement_form.result _ c.statement_form.ensures c.in-Other.is))
    c.evaluate-in-Other.ensures.gives

pub loops::check_return-returns-in-None-clause-gives : goal.loops::check_return-returns-in-None-clause-gives
loops::check_return-returns-in-None-clause-gives t c =
    let before = c.args.checker.now in
    let middle = c.number.new.self in
    subst (λ (o : Result (tree.Node × TypingState) Broken). Gives o c.return_alone_end.result c.return_alone_end.new.checker)
    (sym (returned_alone (env before) (env middle) c.args.at c.args.value c.args.expected c.in_ok-id.id.0 (state before) (state middle) c.in-None.is c.in_ok-id.ensures.number c.in_ok-id.ensures.same.1.0))
    c.return_alone_end.ensures.gives

pub loops::check_break-returns-in_ok-check_expr-in-Some-clause-gives : goal.loops::check_break-returns-in_ok-check_expr-in-Some-clause-gives
loops::check_break-returns-in_ok-check_expr-in-Some-clause-gives t c =
    let before = c.args.checker.now in
    let after = c.check_expr.new.checker in
    let e = env before in
    let same : env c.number.new.self ≡ e = c.in_ok-id.ensures.same.1.0 in
    let is : option_map target_of c.jump_target-target.result ≡ option_map unlabelled (jumps_to e.loops (word_in c.args.label)) =
    c.jump_target-target.ensures ∙ ap (λ (f : Env). option_map unlabelled (jumps_to f.loops (word_in c.args.label))) same in
    let here : rules_of.typed e (syn_of c.in-Some.value.now) c.carried_type.result (state c.number.new.self) ≡ Ok (top (stack after), state after) =
    ap (λ (f : Env). rules_of.typed f (syn_of c.in-Some.value.now) c.carried_type.result (state c.number.new.self)) (sym same) ∙ c.in_ok-check_expr-in-Some.ensures.gives in
    subst (λ (o : Option (Bor SyntaxNode)). Gives (rules_of.value e c.args.at (BreakOf (word_of c.args.label) (maybe_of o)) c.args.expected (state before)) c.break_end.result c.break_end.new.checker)
    (sym c.in-Some.is)
    (subst (λ (o : Result (tree.Node × TypingState) Broken). Gives o c.break_end.result c.break_end.new.checker)
    (sym (broken_out e c.args.at c.args.label (syn_of c.in-Some.value.now) c.args.expected c.carried_type.result c.in_ok-id.id.0 (top (stack after)) (option_map target_of c.jump_target-target.result)
    (state before) (state c.number.new.self) (state after) c.in_ok-id.ensures.number is c.carried_type.ensures here))
    c.break_end.ensures.gives)

pub operators::check_assignment-returns-clause-gives : goal.operators::check_assignment-returns-clause-gives
operators::check_assignment-returns-clause-gives t c =
    let before = c.args.checker.now in
    let middle = c.check_plain_base.new.checker in
    let after = c.check_expr.new.checker in
    let e = env before in
    let first : env c.number.new.self ≡ e = c.in_ok-id.ensures.same.1.0 in
    let second : env middle ≡ e = c.in_ok-check_plain_base.ensures.kept.1.0 ∙ first in
    let third : env after ≡ e = c.in_ok-check_expr.ensures.kept.1.0 ∙ second in
    let place : plain_base e (syn_of c.args.place.now) (state c.number.new.self) ≡ Ok (top (stack middle), state middle) =
    ap (λ (f : Env). plain_base f (syn_of c.args.place.now) (state c.number.new.self)) (sym first) ∙ c.in_ok-check_plain_base.ensures.gives in
    let value : rules_of.typed e (syn_of c.args.value.now) (Some (ty_of (top (stack middle)))) (state middle) ≡ Ok (top (stack after), state after) =
    ap (λ (f : Env). rules_of.typed f (syn_of c.args.value.now) (Some (ty_of (top (stack middle)))) (state middle)) (sym second)
    ∙ ap (λ (ty : TyId). rules_of.typed (env middle) (syn_of c.args.value.now) (Some ty) (state middle)) (sym c.last_ty-ty.ensures) ∙ c.in_ok-check_expr.ensures.gives in
    let under : below (stack after) ≡ stack middle = c.in_ok-check_expr.ensures.kept.0 in
    subst (λ (o : Result (tree.Node × TypingState) Broken). Gives o c.store_end.result c.store_end.new.checker)
    (sym (stored e (env after) c.args.at (rules_of.base_of e (syn_of c.args.place.now)) (rules_of.typed e (syn_of c.args.value.now)) c.args.expected c.in_ok-id.id.0 (top (stack middle)) (top (stack after))
    (state before) (state c.number.new.self) (state middle) (state after) c.in_ok-id.ensures.number place value third
    ∙ ap (λ (ns : List tree.Node). store_end (env after) c.in_ok-id.id.0 c.args.at c.args.expected (top ns) (top (stack after)) (state after)) (sym under)))
    c.store_end.ensures.gives

-- ---- references

pub arguments::borrow-returns-clause-gives : goal.arguments::borrow-returns-clause-gives
arguments::borrow-returns-clause-gives t c =
    let before = c.args.checker.now in
    let after = c.check_plain_base.new.checker in
    let e = env before in
    let same : env c.number.new.self ≡ e = c.in_ok-id.ensures.same.1.0 in
    let base : plain_base e (syn_of c.args.base.now) (state c.number.new.self) ≡ Ok (top (stack after), state after) =
    ap (λ (f : Env). plain_base f (syn_of c.args.base.now) (state c.number.new.self)) (sym same) ∙ c.in_ok-check_plain_base.ensures.gives in
    subst (λ (o : Result (tree.Node × TypingState) Broken). Gives o c.borrow_end.result c.borrow_end.new.checker)
    (sym (borrowed c.args.at c.args.unique (rules_of.base_of e (syn_of c.args.base.now)) c.args.is_unique c.args.to c.in_ok-id.id.0 (top (stack after))
    (state before) (state c.number.new.self) (state after) c.in_ok-id.ensures.number base))
    c.borrow_end.ensures.gives

-- ---- calls

pub calls::call_of-returns-clause-gives : goal.calls::call_of-returns-clause-gives
calls::call_of-returns-clause-gives t c =
    λ value.
    let before = c.args.checker.now in
    let middle = c.begin.new.checker in
    let after = c.check_arguments.new.checker in
    let begun = c.in_ok-begun.begun in
    let count = count_of (nodes_of c.args.args) in
    let arguments : Arguments = λ params. rules_of.typed_args (env before) params (nodes_of c.args.args) in
    let check : ℕ → Arguments → Check tree.Node = λ n a. rules_of.called_by c.args.at n value a (callee_seen before.walk.items c.args.callee) c.args.expected in
    let here : arguments begun.params (state middle) ≡ Ok (last_nodes c.in_ok-count.count (stack after), state after) =
    ap (λ (f : Env). rules_of.typed_args f begun.params (nodes_of c.args.args) (state middle)) (sym c.in_ok-begun.ensures.same.1.0)
    ∙ ap (λ (ps : List TyId). rules_of.typed_args (env middle) ps (nodes_of c.args.args) (state middle)) (sym c.as_slice.ensures) ∙ c.in_ok-count.ensures.gives in
    subst (λ (o : Result (tree.Node × TypingState) Broken). Gives o c.call_end.result c.call_end.new.checker)
    (sym (behind_args check arguments begun.params (resolved_end c.args.at c.args.expected begun) (top (stack middle)) count c.in_ok-count.count (last_nodes c.in_ok-count.count (stack after))
    (state before) (state middle) (state after) (c.in_ok-begun.ensures.gives value count arguments) here c.in_ok-count.ensures.counted))
    (c.call_end.ensures.gives (top (stack middle)))

pub calls::closure_behind-returns-clause-gives : goal.calls::closure_behind-returns-clause-gives
calls::closure_behind-returns-clause-gives t c =
    let before = c.args.checker.now in
    let after = c.check_arguments.new.checker in
    let callee = c.in_ok-callee.callee in
    let count = count_of (nodes_of c.args.args) in
    let arguments : Arguments = λ params. rules_of.typed_args (env before) params (nodes_of c.args.args) in
    let here : arguments callee.params (state before) ≡ Ok (last_nodes c.in_ok-count.count (stack after), state after) =
    ap (λ (ps : List TyId). rules_of.typed_args (env before) ps (nodes_of c.args.args) (state before)) (sym c.as_slice.ensures) ∙ c.in_ok-count.ensures.gives in
    subst (λ (o : Result (tree.Node × TypingState) Broken). Gives o c.closure_end.result c.closure_end.new.checker)
    (sym (behind_args (closure_end c.args.id.0 c.args.at c.args.expected (top (stack before))) arguments callee.params (callee_end c.args.id.0 c.args.at c.args.expected callee) (top (stack before)) count c.in_ok-count.count (last_nodes c.in_ok-count.count (stack after))
    (state before) (state before) (state after) (c.in_ok-callee.ensures.gives c.args.id.0 c.args.at c.args.expected count arguments) here c.in_ok-count.ensures.counted
    ∙ ap (λ (ns : List tree.Node). callee_end c.args.id.0 c.args.at c.args.expected callee (top ns) c.in_ok-count.count (last_nodes c.in_ok-count.count (stack after)) (state after)) (sym c.in_ok-count.ensures.kept.0)))
    c.closure_end.ensures.gives

pub calls::closure_call-returns-clause-gives : goal.calls::closure_call-returns-clause-gives
calls::closure_call-returns-clause-gives t c =
    let before = c.args.checker.now in
    let middle = c.number.new.self in
    let after = c.check_expr.new.checker in
    let same : env middle ≡ env before = c.in_ok-id.ensures.same.1.0 in
    let arguments : Env → Arguments = λ e. λ params. rules_of.typed_args e params (nodes_of c.args.args) in
    let value : rules_of.typed (env before) (syn_of c.args.callee.now) None (state middle) ≡ Ok (top (stack after), state after) =
    ap (λ (f : Env). rules_of.typed f (syn_of c.args.callee.now) None (state middle)) (sym same) ∙ c.in_ok-check_expr.ensures.gives in
    subst (λ (o : Result (tree.Node × TypingState) Broken). Gives o c.closure_behind.result c.closure_behind.new.checker)
    (sym (closure_called c.args.at (count_of (nodes_of c.args.args)) (rules_of.typed (env before) (syn_of c.args.callee.now) None) (arguments (env before)) c.args.expected c.in_ok-id.id.0 (top (stack after))
    (state before) (state middle) (state after) c.in_ok-id.ensures.number value
    ∙ ap (λ (f : Env). closure_end c.in_ok-id.id.0 c.args.at c.args.expected (top (stack after)) (count_of (nodes_of c.args.args)) (arguments f) (state after)) (sym (c.in_ok-check_expr.ensures.kept.1.0 ∙ same))))
    c.closure_behind.ensures.gives

pub calls::method_behind-returns-clause-gives : goal.calls::method_behind-returns-clause-gives
calls::method_behind-returns-clause-gives t c =
    let before = c.args.checker.now in
    let middle = c.method_receiver.new.checker in
    let after = c.check_arguments.new.checker in
    let receiver = c.in_ok-receiver.receiver in
    let count = count_of (nodes_of c.args.args) in
    let arguments : Arguments = λ params. rules_of.typed_args (env before) params (nodes_of c.args.args) in
    let here : arguments receiver.params (state middle) ≡ Ok (last_nodes c.in_ok-count.count (stack after), state after) =
    ap (λ (f : Env). rules_of.typed_args f receiver.params (nodes_of c.args.args) (state middle)) (sym c.in_ok-receiver.ensures.kept.1.0)
    ∙ ap (λ (ps : List TyId). rules_of.typed_args (env middle) ps (nodes_of c.args.args) (state middle)) (sym c.as_slice.ensures) ∙ c.in_ok-count.ensures.gives in
    subst (λ (o : Result (tree.Node × TypingState) Broken). Gives o c.method_end.result c.method_end.new.checker)
    (sym (behind_args (method_end (env before) c.args.id.0 c.args.at (method_named c.args.name.now) c.args.expected (top (stack before))) arguments receiver.params (received_end c.args.id.0 c.args.at c.args.expected receiver) (top (stack middle)) count c.in_ok-count.count (last_nodes c.in_ok-count.count (stack after))
    (state before) (state middle) (state after) (c.in_ok-receiver.ensures.gives c.args.id.0 c.args.at c.args.expected count arguments) here c.in_ok-count.ensures.counted
    ∙ ap (λ (ns : List tree.Node). received_end c.args.id.0 c.args.at c.args.expected receiver (top ns) c.in_ok-count.count (last_nodes c.in_ok-count.count (stack after)) (state after)) (sym c.in_ok-count.ensures.kept.0)))
    c.method_end.ensures.gives

pub calls::check_call-returns-clause-gives : goal.calls::check_call-returns-clause-gives
calls::check_call-returns-clause-gives t c =
    let before = c.args.checker.now in
    let items = before.walk.items in
    let node = syn_of c.args.callee.now in
    let value : Check tree.Node = rules_of.typed (env before) node None in
    let arguments : Arguments = λ params. rules_of.typed_args (env before) params (nodes_of c.args.args) in
    let called : Pos → Callee → Result (tree.Node × TypingState) Broken = λ place callee. rules_of.called_by place (count_of (nodes_of c.args.args)) value arguments callee c.args.expected (state before) in
    subst (λ (o : Result (tree.Node × TypingState) Broken). Gives o c.found_call.result c.found_call.new.checker)
    (ap (λ (p : Pos). called p (callee_seen items c.in_ok-found.found)) (c.call_place-at.ensures items)
    ∙ ap (λ (x : Callee). called (rules_of.call_place c.args.at (place_inside node) x) x) c.in_ok-found.ensures.found)
    c.found_call.ensures.gives

pub calls::check_method_call-returns-clause-gives : goal.calls::check_method_call-returns-clause-gives
calls::check_method_call-returns-clause-gives t c =
    let before = c.args.checker.now in
    let middle = c.number.new.self in
    let after = c.check_place_base.new.checker in
    let e = env before in
    let same : env middle ≡ e = c.in_ok-id.ensures.same.1.0 in
    let arguments : Env → Arguments = λ f. λ params. rules_of.typed_args f params (nodes_of c.args.args) in
    let base : rules_of.base_of e (syn_of c.args.receiver.now) (state middle) ≡ Ok (top (stack after), state after) =
    ap (λ (f : Env). rules_of.base_of f (syn_of c.args.receiver.now) (state middle)) (sym same) ∙ c.in_ok-check_place_base.ensures.gives in
    subst (λ (o : Result (tree.Node × TypingState) Broken). Gives o c.method_behind.result c.method_behind.new.checker)
    (sym (method_called e (env after) c.args.at (method_named c.args.name.now) (count_of (nodes_of c.args.args)) (rules_of.base_of e (syn_of c.args.receiver.now)) (arguments e) c.args.expected c.in_ok-id.id.0 (top (stack after))
    (state before) (state middle) (state after) c.in_ok-id.ensures.number base (c.in_ok-check_place_base.ensures.kept.1.0 ∙ same)
    ∙ ap (λ (f : Env). method_end (env after) c.in_ok-id.id.0 c.args.at (method_named c.args.name.now) c.args.expected (top (stack after)) (count_of (nodes_of c.args.args)) (arguments f) (state after)) (sym (c.in_ok-check_place_base.ensures.kept.1.0 ∙ same))))
    c.method_behind.ensures.gives

pub calls::call_of-returns-in_err-begun-clause-gives : goal.calls::call_of-returns-in_err-begun-clause-gives
calls::call_of-returns-in_err-begun-clause-gives t c =
    λ value.
    let before = c.args.checker.now in
    let arguments : Arguments = λ params. rules_of.typed_args (env before) params (nodes_of c.args.args) in
    let refused : Refuses (rules_of.called_by c.args.at (count_of (nodes_of c.args.args)) value arguments (callee_seen before.walk.items c.args.callee) c.args.expected (state before)) c.in_err-begun.field-0.0 =
    c.in_err-begun.ensures.gives value (count_of (nodes_of c.args.args)) arguments in
    grind (arith, refused)

pub calls::closure_behind-returns-in_err-callee-clause-gives : goal.calls::closure_behind-returns-in_err-callee-clause-gives
calls::closure_behind-returns-in_err-callee-clause-gives t c =
    let before = c.args.checker.now in
    let arguments : Arguments = λ params. rules_of.typed_args (env before) params (nodes_of c.args.args) in
    let refused : Refuses (closure_end c.args.id.0 c.args.at c.args.expected (top (stack before)) (count_of (nodes_of c.args.args)) arguments (state before)) c.in_err-callee.field-0.0 =
    c.in_err-callee.ensures.gives c.args.id.0 c.args.at c.args.expected (count_of (nodes_of c.args.args)) arguments in
    grind (arith, refused)

pub calls::closure_behind-returns-in_err-count-clause-gives : goal.calls::closure_behind-returns-in_err-count-clause-gives
calls::closure_behind-returns-in_err-count-clause-gives t c =
    let before = c.args.checker.now in
    let callee = c.in_ok-callee.callee in
    let count = count_of (nodes_of c.args.args) in
    let arguments : Arguments = λ params. rules_of.typed_args (env before) params (nodes_of c.args.args) in
    let here : Refuses (arguments callee.params (state before)) c.in_err-count.field-0.0 =
    subst (λ (ps : List TyId). Refuses (rules_of.typed_args (env before) ps (nodes_of c.args.args) (state before)) c.in_err-count.field-0.0) c.as_slice.ensures c.in_err-count.ensures.gives in
    let refused : Refuses (closure_end c.args.id.0 c.args.at c.args.expected (top (stack before)) count arguments (state before)) c.in_err-count.field-0.0 =
    refused_args (closure_end c.args.id.0 c.args.at c.args.expected (top (stack before))) arguments callee.params (callee_end c.args.id.0 c.args.at c.args.expected callee) (top (stack before)) count
    (state before) (state before) c.in_err-count.field-0.0 (c.in_ok-callee.ensures.gives c.args.id.0 c.args.at c.args.expected count arguments) here in
    grind (arith, refused)

pub calls::method_behind-returns-in_err-receiver-clause-gives : goal.calls::method_behind-returns-in_err-receiver-clause-gives
calls::method_behind-returns-in_err-receiver-clause-gives t c =
    let before = c.args.checker.now in
    let arguments : Arguments = λ params. rules_of.typed_args (env before) params (nodes_of c.args.args) in
    let refused : Refuses (method_end (env before) c.args.id.0 c.args.at (method_named c.args.name.now) c.args.expected (top (stack before)) (count_of (nodes_of c.args.args)) arguments (state before)) c.in_err-receiver.field-0.0 =
    c.in_err-receiver.ensures.gives c.args.id.0 c.args.at c.args.expected (count_of (nodes_of c.args.args)) arguments in
    grind (arith, refused)

pub calls::found_call-returns-in_default : goal.calls::found_call-returns-in_default
calls::found_call-returns-in_default t c =
    record {
      gives = c.call_of.ensures.gives (rules_of.typed (env c.args.checker.now) (syn_of c.args.callee.now) None);
      kept = c.call_of.ensures.kept;
    }

pub expressions::check_value-returns-in-Call-clause-gives : goal.expressions::check_value-returns-in-Call-clause-gives
expressions::check_value-returns-in-Call-clause-gives t c =
    subst (λ (f : ExpressionForm). Gives (value_as (env c.args.checker.now) c.args.at (expression_of f) c.args.expected (state c.args.checker.now)) c.check_call.result c.check_call.new.checker)
    (sym c.in-Call.is) c.check_call.ensures.gives

pub expressions::check_value-returns-in-MethodCall-clause-gives : goal.expressions::check_value-returns-in-MethodCall-clause-gives
expressions::check_value-returns-in-MethodCall-clause-gives t c =
    subst (λ (f : ExpressionForm). Gives (value_as (env c.args.checker.now) c.args.at (expression_of f) c.args.expected (state c.args.checker.now)) c.check_method_call.result c.check_method_call.new.checker)
    (sym c.in-MethodCall.is) c.check_method_call.ensures.gives

-- ---- patterns

pub matches::check_each_arm-loop-split-preserved : goal.matches::check_each_arm-loop-split-preserved
matches::check_each_arm-loop-split-preserved t c =
    let before = c.loop-split.checker in
    let after = c.arm_of_node.new.checker in
    let e = env c.args.checker.now in
    let here : arm_of_syn e (pattern_context_of c.args.e) c.args.ty c.args.expected (syn_of c.in-Some.split.first.now) (state before) ≡ Ok (top (stack after), state after) =
    ap (λ (f : Env). arm_of_syn f (pattern_context_of c.args.e) c.args.ty c.args.expected (syn_of c.in-Some.split.first.now) (state before)) (sym c.loop-split.invariant.place.0) ∙ c.in_ok-arm_of_node.ensures.gives in
    record {
      gives =
          one_arm e (pattern_context_of c.args.e) c.args.ty c.args.expected _ c.loop-split.count c.in_ok-count.count (stack before) (stack after) _ _ _ (state before) (state after)
          c.loop-split.invariant.gives c.in-Some.ensures here c.in_ok-arm_of_node.ensures.kept.0 c.in_ok-count.ensures.counted;
      below = below_next c.loop-split.count c.in_ok-count.count (stack before) (stack after) _ c.loop-split.invariant.below c.in_ok-arm_of_node.ensures.kept.0 c.in_ok-count.ensures.counted;
      place = (c.in_ok-arm_of_node.ensures.kept.1.0 ∙ c.loop-split.invariant.place.0, c.in_ok-arm_of_node.ensures.kept.1.1 ∙ c.loop-split.invariant.place.1);
      smaller = omega (arith, ap sizes c.in-Some.ensures);
    }

pub matches::check_each_arm-loop-split-init : goal.matches::check_each_arm-loop-split-init
matches::check_each_arm-loop-split-init t c =
    let before = c.args.checker.now in
    record {
      gives = none_yet (stack before) (rules_of.typed_arms (env before) (pattern_context_of c.args.e) c.args.ty c.args.expected (nodes_of c.args.arms) (state before));
      below = refl;
      place = (refl, refl);
      smaller = omega arith;
    }

pub matches::check_each_arm-returns-in_err-arm_of_node-clause-gives : goal.matches::check_each_arm-returns-in_err-arm_of_node-clause-gives
matches::check_each_arm-returns-in_err-arm_of_node-clause-gives t c =
    let before = c.loop-split.checker in
    let e = env c.args.checker.now in
    let here : Refuses (arm_of_syn e (pattern_context_of c.args.e) c.args.ty c.args.expected (syn_of c.in-Some.split.first.now) (state before)) c.in_err-arm_of_node.field-0.0 =
    subst (λ (f : Env). Refuses (arm_of_syn f (pattern_context_of c.args.e) c.args.ty c.args.expected (syn_of c.in-Some.split.first.now) (state before)) c.in_err-arm_of_node.field-0.0) c.loop-split.invariant.place.0 c.in_err-arm_of_node.ensures.gives in
    let refused : Refuses (rules_of.typed_arms e (pattern_context_of c.args.e) c.args.ty c.args.expected (nodes_of c.args.arms) (state c.args.checker.now)) c.in_err-arm_of_node.field-0.0 =
    refused_arm e (pattern_context_of c.args.e) c.args.ty c.args.expected _ c.loop-split.count (stack before) _ _ _ (state before) c.in_err-arm_of_node.field-0.0 c.loop-split.invariant.gives c.in-Some.ensures here in
    grind (arith, refused)

pub matches::inside_scope-leave-requires : goal.matches::inside_scope-leave-requires
matches::inside_scope-leave-requires t c =
    omega (
      arith,
      c.count-outer.ensures,
      grown_length c.args.checker.now c.check_expr.new.checker (scoped_grows c.args.checker.now c.enter_bound.new.checker c.check_expr.new.checker (reverse c.args.bound.now) c.in_ok-enter_bound.ensures.entered c.in_ok-enter_bound.ensures.others c.in_ok-check_expr.ensures.kept.1),
    )

pub matches::inside_scope-returns-clause-kept : goal.matches::inside_scope-returns-clause-kept
matches::inside_scope-returns-clause-kept t c =
    scope_left c.args.checker.now c.enter_bound.new.checker c.check_expr.new.checker c.leave.new.checker c.count-outer.result (reverse c.args.bound.now) c.in_ok-enter_bound.ensures.entered c.in_ok-enter_bound.ensures.others
    c.in_ok-check_expr.ensures.kept.0 c.in_ok-check_expr.ensures.kept.1 c.leave.ensures.others c.count-outer.ensures c.leave.ensures.left

pub matches::inside_guard-leave-requires : goal.matches::inside_guard-leave-requires
matches::inside_guard-leave-requires t c =
    omega (
      arith,
      c.count-outer.ensures,
      grown_length c.args.checker.now c.check_expr.new.checker (scoped_grows c.args.checker.now c.enter_guard.new.checker c.check_expr.new.checker (in_guard (reverse c.args.bound.now)) c.in_ok-enter_guard.ensures.entered c.in_ok-enter_guard.ensures.others c.in_ok-check_expr.ensures.kept.1),
    )

pub matches::inside_guard-returns-clause-kept : goal.matches::inside_guard-returns-clause-kept
matches::inside_guard-returns-clause-kept t c =
    scope_left c.args.checker.now c.enter_guard.new.checker c.check_expr.new.checker c.leave.new.checker c.count-outer.result (in_guard (reverse c.args.bound.now)) c.in_ok-enter_guard.ensures.entered c.in_ok-enter_guard.ensures.others
    c.in_ok-check_expr.ensures.kept.0 c.in_ok-check_expr.ensures.kept.1 c.leave.ensures.others c.count-outer.ensures c.leave.ensures.left

pub matches::check_match_parts-returns-clause-gives : goal.matches::check_match_parts-returns-clause-gives
matches::check_match_parts-returns-clause-gives t c =
    let before = c.args.checker.now in
    let middle = c.number.new.self in
    let after = c.check_scrutinee.new.checker in
    let e = env before in
    let same : env middle ≡ e = c.in_ok-id.ensures.same.1.0 in
    let looked : scrutinised (rules_of.base_of e (syn_of c.args.scrutinee.now)) (state middle) ≡ Ok (top (stack after), state after) =
    ap (λ (f : Env). scrutinised (rules_of.base_of f (syn_of c.args.scrutinee.now)) (state middle)) (sym same) ∙ c.in_ok-check_scrutinee.ensures.gives in
    subst (λ (o : Result (tree.Node × TypingState) Broken). Gives o c.check_arms.result c.check_arms.new.checker)
    (sym (matched e (env after) c.args.at (rules_of.base_of e (syn_of c.args.scrutinee.now)) (nodes_of c.args.arms) c.args.expected c.in_ok-id.id.0 (top (stack after))
    (state before) (state middle) (state after) c.in_ok-id.ensures.number looked (c.in_ok-check_scrutinee.ensures.kept.1.0 ∙ same)))
    c.check_arms.ensures.gives

pub matches::check_if_let-returns-clause-gives : goal.matches::check_if_let-returns-clause-gives
matches::check_if_let-returns-clause-gives t c =
    let before = c.args.checker.now in
    let middle = c.number.new.self in
    let after = c.check_scrutinee.new.checker in
    let e = env before in
    let same : env middle ≡ e = c.in_ok-id.ensures.same.1.0 in
    let looked : scrutinised (rules_of.base_of e (syn_of c.args.scrutinee.now)) (state middle) ≡ Ok (top (stack after), state after) =
    ap (λ (f : Env). scrutinised (rules_of.base_of f (syn_of c.args.scrutinee.now)) (state middle)) (sym same) ∙ c.in_ok-check_scrutinee.ensures.gives in
    subst (λ (o : Result (tree.Node × TypingState) Broken). Gives o c.if_let_behind.result c.if_let_behind.new.checker)
    (sym (if_let_looked e (env after) c.args.at (syn_of c.args.pattern.now) (syn_of c.args.scrutinee.now) (syn_of c.args.body.now) (maybe_of c.args.otherwise) c.args.expected c.in_ok-id.id.0 (top (stack after))
    (state before) (state middle) (state after) c.in_ok-id.ensures.number looked (c.in_ok-check_scrutinee.ensures.kept.1.0 ∙ same)))
    c.if_let_behind.ensures.gives

pub matches::check_if_let-returns-in_err-check_scrutinee-clause-gives : goal.matches::check_if_let-returns-in_err-check_scrutinee-clause-gives
matches::check_if_let-returns-in_err-check_scrutinee-clause-gives t c =
    let before = c.args.checker.now in
    let middle = c.number.new.self in
    let e = env before in
    let here : Refuses (scrutinised (rules_of.base_of e (syn_of c.args.scrutinee.now)) (state middle)) c.in_err-check_scrutinee.field-0.0 =
    subst (λ (f : Env). Refuses (scrutinised (rules_of.base_of f (syn_of c.args.scrutinee.now)) (state middle)) c.in_err-check_scrutinee.field-0.0) c.in_ok-id.ensures.same.1.0 c.in_err-check_scrutinee.ensures.gives in
    let refused : Refuses (rules_of.value e c.args.at (IfLetElse (syn_of c.args.pattern.now) (syn_of c.args.scrutinee.now) (syn_of c.args.body.now) (maybe_of c.args.otherwise)) c.args.expected (state before)) c.in_err-check_scrutinee.field-0.0 =
    if_let_refused e c.args.at (syn_of c.args.pattern.now) (syn_of c.args.scrutinee.now) (syn_of c.args.body.now) (maybe_of c.args.otherwise) c.args.expected c.in_ok-id.id.0 (state before) (state middle) c.in_err-check_scrutinee.field-0.0 c.in_ok-id.ensures.number here in
    grind (arith, refused)

pub matches::check_while_let-returns-clause-gives : goal.matches::check_while_let-returns-clause-gives
matches::check_while_let-returns-clause-gives t c =
    let before = c.args.checker.now in
    let middle = c.number.new.self in
    let looked = c.base_inside_loop.new.checker in
    let after = c.finish_scrutinee.new.checker in
    let e = env before in
    let same : env middle ≡ e = c.in_ok-id.ensures.same.1.0 in
    let base : rules_of.base_of (within_loop (loop_around (word_in c.args.label) c.in_ok-id.id.0 false None) e) (syn_of c.args.scrutinee.now) (state middle) ≡ Ok (top (stack looked), state looked) =
    ap (λ (f : Env). rules_of.base_of (within_loop (loop_around (word_in c.args.label) c.in_ok-id.id.0 false None) f) (syn_of c.args.scrutinee.now) (state middle)) (sym same) ∙ c.in_ok-base_inside_loop.ensures.gives in
    subst (λ (o : Result (tree.Node × TypingState) Broken). Gives o c.while_let_behind.result c.while_let_behind.new.checker)
    (sym (while_let_looked e (env after) c.args.at c.args.label (syn_of c.args.pattern.now) (syn_of c.args.scrutinee.now) (syn_of c.args.body.now) c.args.expected c.in_ok-id.id.0 (top (stack looked)) (top (stack after))
    (state before) (state middle) (state looked) (state after) c.in_ok-id.ensures.number base c.in_ok-finish_scrutinee.ensures.gives (c.in_ok-finish_scrutinee.ensures.kept.1.0 ∙ c.in_ok-base_inside_loop.ensures.kept.1.0 ∙ same)))
    c.while_let_behind.ensures.gives

pub expressions::check_value-returns-in-WhileLet-clause-gives : goal.expressions::check_value-returns-in-WhileLet-clause-gives
expressions::check_value-returns-in-WhileLet-clause-gives t c =
    subst (λ (f : ExpressionForm). Gives (value_as (env c.args.checker.now) c.args.at (expression_of f) c.args.expected (state c.args.checker.now)) c.check_while_let.result c.check_while_let.new.checker)
    (sym c.in-WhileLet.is) c.check_while_let.ensures.gives

-- ---- `let`

pub blocks::check_let-returns-clause-gives : goal.blocks::check_let-returns-clause-gives
blocks::check_let-returns-clause-gives t c =
    let before = c.args.checker.now in
    let first = c.number.new.self in
    let second = c.resolve_type_if.new.checker in
    let third = c.check_let_value.new.checker in
    let e = env before in
    let p = syn_of c.args.pattern.now in
    let has = c.in_ok-has_value.has_value in
    let first_same : env first ≡ e = c.in_ok-id.ensures.same.1.0 in
    let second_same : env second ≡ e = c.in_ok-declared.ensures.same.1.0 ∙ first_same in
    let third_same : env third ≡ e = c.in_ok-has_value.ensures.kept.1.0 ∙ second_same in
    let written : rules_of.declared e (maybe_of c.args.ty) (state first) ≡ Ok (c.in_ok-declared.declared, state second) =
    ap (λ (f : Env). rules_of.declared f (maybe_of c.args.ty) (state first)) (sym first_same) ∙ c.in_ok-declared.ensures.gives in
    let init : rules_of.initialised e c.is_one_name-is_one.result (rules_of.takes_any p) (maybe_of c.args.value) c.in_ok-declared.declared (state second) ≡ Ok (value_if has (stack third), state third) =
    ap (λ (b : Bool). rules_of.initialised e c.is_one_name-is_one.result b (maybe_of c.args.value) c.in_ok-declared.declared (state second)) (sym c.takes_any-any.ensures)
    ∙ ap (λ (f : Env). rules_of.initialised f c.is_one_name-is_one.result c.takes_any-any.result (maybe_of c.args.value) c.in_ok-declared.declared (state second)) (sym second_same) ∙ c.in_ok-has_value.ensures.gives in
    let done = c.let_end.new.checker in
    let_done e (env third) e c.args.at p (maybe_of c.args.ty) (maybe_of c.args.value) c.is_one_name-is_one.result c.in_ok-id.id.0 c.in_ok-declared.declared (value_if has (stack third)) (value_if has (stack third))
    (top (stack done), c.in_ok-ends.ends, env done) (state before) (state first) (state second) (state third) (state done)
    c.is_one_name-is_one.ensures c.in_ok-id.ensures.number written init third_same c.in_ok-ends.ensures.gives

pub blocks::check_let-returns-in_err-ends-clause-gives : goal.blocks::check_let-returns-in_err-ends-clause-gives
blocks::check_let-returns-in_err-ends-clause-gives t c =
    let before = c.args.checker.now in
    let first = c.number.new.self in
    let second = c.resolve_type_if.new.checker in
    let third = c.check_let_value.new.checker in
    let e = env before in
    let p = syn_of c.args.pattern.now in
    let has = c.in_ok-has_value.has_value in
    let first_same : env first ≡ e = c.in_ok-id.ensures.same.1.0 in
    let second_same : env second ≡ e = c.in_ok-declared.ensures.same.1.0 ∙ first_same in
    let third_same : env third ≡ e = c.in_ok-has_value.ensures.kept.1.0 ∙ second_same in
    let written : rules_of.declared e (maybe_of c.args.ty) (state first) ≡ Ok (c.in_ok-declared.declared, state second) =
    ap (λ (f : Env). rules_of.declared f (maybe_of c.args.ty) (state first)) (sym first_same) ∙ c.in_ok-declared.ensures.gives in
    let init : rules_of.initialised e c.is_one_name-is_one.result (rules_of.takes_any p) (maybe_of c.args.value) c.in_ok-declared.declared (state second) ≡ Ok (value_if has (stack third), state third) =
    ap (λ (b : Bool). rules_of.initialised e c.is_one_name-is_one.result b (maybe_of c.args.value) c.in_ok-declared.declared (state second)) (sym c.takes_any-any.ensures)
    ∙ ap (λ (f : Env). rules_of.initialised f c.is_one_name-is_one.result c.takes_any-any.result (maybe_of c.args.value) c.in_ok-declared.declared (state second)) (sym second_same) ∙ c.in_ok-has_value.ensures.gives in
    let refused : Refuses (rules_of.other_statement e c.args.at (LetOf p (maybe_of c.args.ty) (maybe_of c.args.value)) (state before)) c.in_err-ends.field-0.0 =
    let_refused e (env third) e c.args.at p (maybe_of c.args.ty) (maybe_of c.args.value) c.is_one_name-is_one.result c.in_ok-id.id.0 c.in_ok-declared.declared (value_if has (stack third))
    (state before) (state first) (state second) (state third) c.in_err-ends.field-0.0 c.is_one_name-is_one.ensures c.in_ok-id.ensures.number written init third_same c.in_err-ends.ensures.gives in
    grind (arith, refused)

pub blocks::check_let-returns-clause-kept : goal.blocks::check_let-returns-clause-kept
blocks::check_let-returns-clause-kept t c =
    let before = c.args.checker.now in
    let third = c.check_let_value.new.checker in
    let done = c.let_end.new.checker in
    let same : env third ≡ env before = c.in_ok-has_value.ensures.kept.1.0 ∙ (c.in_ok-declared.ensures.same.1.0 ∙ c.in_ok-id.ensures.same.1.0) in
    let new = brings (env third) (env done) c.in_ok-id.id.0 c.args.at c.is_one_name-is_one.result c.in_ok-declared.declared (value_if c.in_ok-has_value.has_value (stack third)) (syn_of c.args.pattern.now)
    (top (stack done)) c.in_ok-ends.ends (state third) (state done) c.in_ok-ends.ensures.gives in (
      c.in_ok-ends.ensures.kept.0 ∙ (c.in_ok-has_value.ensures.kept.0 ∙ (c.in_ok-declared.ensures.same.0 ∙ c.in_ok-id.ensures.same.0)),
      ((new.0, new.1 ∙ ap (with_variables new.0) same), c.in_ok-ends.ensures.kept.1 ∙ (c.in_ok-has_value.ensures.kept.1.1 ∙ (c.in_ok-declared.ensures.same.1.1 ∙ c.in_ok-id.ensures.same.1.1))),
    )

-- ---- struct expressions

pub structs::numbered_init-returns-clause-gives : goal.structs::numbered_init-returns-clause-gives
structs::numbered_init-returns-clause-gives t c =
    λ own.
    let before = c.args.checker.now in
    named_init (env before) (variant_by own before.tables c.args.adt c.args.variant c.args.types.now) c.args.at c.args.form.name.now (maybe_of c.args.form.value) _ _ _ (state before) _
    (c.field_wanted-wanted.ensures.number own) (c.field_wanted-wanted.ensures.expected own) c.in_ok-init_value.ensures.gives

pub structs::numbered_init-returns-in_err-init_value-clause-gives : goal.structs::numbered_init-returns-in_err-init_value-clause-gives
structs::numbered_init-returns-in_err-init_value-clause-gives t c =
    λ own.
    let before = c.args.checker.now in
    let v = variant_by own before.tables c.args.adt c.args.variant c.args.types.now in
    let refused : Refuses (init_by (env before) v c.args.at (Some (init_of c.args.form)) (state before)) c.in_err-init_value.field-0.0 =
    refused_value (env before) v c.args.at c.args.form.name.now (maybe_of c.args.form.value) _ _ (state before) c.in_err-init_value.field-0.0
    (c.field_wanted-wanted.ensures.number own) (c.field_wanted-wanted.ensures.expected own) c.in_err-init_value.ensures.gives in
    grind (arith, refused)

pub structs::init_of_node-returns-in-Some-clause-gives : goal.structs::init_of_node-returns-in-Some-clause-gives
structs::init_of_node-returns-in-Some-clause-gives t c =
    λ own.
    let before = c.args.checker.now in
    let v = variant_by own before.tables c.args.adt c.args.variant c.args.types.now in
    subst (λ (o : Result ((Option ℕ × tree.Node) × TypingState) Broken). GivesInit o c.numbered_init.result c.numbered_init.new.checker)
    (sym (init_seen (env before) v c.args.node.now (state before) ∙ ap (λ (form : Option Shape). init_by (env before) v c.args.node.now.at form (state before)) (sym c.init_form.ensures)
    ∙ ap (λ (form : Option InitForm). init_by (env before) v c.args.node.now.at (option_map init_of form) (state before)) c.in-Some.is))
    (c.numbered_init.ensures.gives own)

pub structs::check_inits-loop-split-init : goal.structs::check_inits-loop-split-init
structs::check_inits-loop-split-init t c =
    let before = c.args.checker.now in
    record {
      gives =
          λ own.
          let all = rules_of.typed_inits (env before) (variant_by own before.tables c.args.adt c.args.variant c.args.types.now) (nodes_of c.args.inits) (state before) in
          none_given (stack before) all ∙ ap (λ (l : Given). behind_inits l (stack before) all) (sym c.new-given.ensures);
      below = ap (λ (l : Given). below_all (length l) (stack before)) c.new-given.ensures;
      place = (refl, refl);
      smaller = omega arith;
    }

pub structs::check_inits-loop-split-preserved : goal.structs::check_inits-loop-split-preserved
structs::check_inits-loop-split-preserved t c =
    let before = c.loop-split.checker in
    let after = c.init_of_node.new.checker in
    let origin = c.args.checker.now in
    let e = env origin in
    let v : Word → Variant = λ own. variant_by own origin.tables c.args.adt c.args.variant c.args.types.now in
    let given = c.loop-split.given in
    let number = c.in_ok-number.number in
    record {
      gives =
          λ own.
          subst (λ (l : Given). rules_of.typed_inits e (v own) (nodes_of c.args.inits) (state origin) ≡ behind_inits l (stack after) (rules_of.typed_inits e (v own) (nodes_of c.in-Some.split.rest) (state after))) (sym c.in_ok-push_to.ensures.pushed)
          (one_field e (v own) _ given number (stack before) (stack after) _ _ _ (state before) (state after)
          (c.loop-split.invariant.gives own) c.in-Some.ensures
          (ap (λ (f : Env). one_init f (v own) (syn_of c.in-Some.split.first.now) (state before)) (sym c.loop-split.invariant.place.0)
          ∙ ap (λ (tables : Tables). one_init (env before) (variant_by own tables c.args.adt c.args.variant c.args.types.now) (syn_of c.in-Some.split.first.now) (state before)) (sym c.loop-split.invariant.place.1)
          ∙ c.in_ok-number.ensures.gives own)
          c.in_ok-number.ensures.kept.0);
      below =
          ap (λ (l : Given). below_all (length l) (stack after)) c.in_ok-push_to.ensures.pushed ∙ below_more given number (stack after)
          ∙ ap (below_all (length given)) c.in_ok-number.ensures.kept.0 ∙ c.loop-split.invariant.below;
      place = (c.in_ok-number.ensures.kept.1.0 ∙ c.loop-split.invariant.place.0, c.in_ok-number.ensures.kept.1.1 ∙ c.loop-split.invariant.place.1);
      smaller = omega (arith, ap sizes c.in-Some.ensures);
    }

pub structs::check_inits-returns-clause-gives : goal.structs::check_inits-returns-clause-gives
structs::check_inits-returns-clause-gives t c =
    λ own.
    let origin = c.args.checker.now in
    no_more (env origin) (variant_by own origin.tables c.args.adt c.args.variant c.args.types.now) _ c.loop-split.given (stack c.loop-split.checker) _ (state c.loop-split.checker)
    (c.loop-split.invariant.gives own) c.in_default.ensures

pub structs::check_inits-returns-in_err-number-clause-gives : goal.structs::check_inits-returns-in_err-number-clause-gives
structs::check_inits-returns-in_err-number-clause-gives t c =
    λ own.
    let origin = c.args.checker.now in
    let before = c.loop-split.checker in
    let e = env origin in
    let v = variant_by own origin.tables c.args.adt c.args.variant c.args.types.now in
    let at_tables : Refuses (one_init (env before) (variant_by own origin.tables c.args.adt c.args.variant c.args.types.now) (syn_of c.in-Some.split.first.now) (state before)) c.in_err-number.field-0.0 =
    subst (λ (tables : Tables). Refuses (one_init (env before) (variant_by own tables c.args.adt c.args.variant c.args.types.now) (syn_of c.in-Some.split.first.now) (state before)) c.in_err-number.field-0.0) c.loop-split.invariant.place.1 (c.in_err-number.ensures.gives own) in
    let here : Refuses (one_init e v (syn_of c.in-Some.split.first.now) (state before)) c.in_err-number.field-0.0 =
    subst (λ (f : Env). Refuses (one_init f v (syn_of c.in-Some.split.first.now) (state before)) c.in_err-number.field-0.0) c.loop-split.invariant.place.0 at_tables in
    let refused : Refuses (rules_of.typed_inits e v (nodes_of c.args.inits) (state origin)) c.in_err-number.field-0.0 =
    field_refused e v _ c.loop-split.given (stack before) _ _ _ (state before) c.in_err-number.field-0.0 (c.loop-split.invariant.gives own) c.in-Some.ensures here in
    grind (arith, refused)

pub structs::struct_row-returns-clause-gives : goal.structs::struct_row-returns-clause-gives
structs::struct_row-returns-clause-gives t c =
    let before = c.args.checker.now in
    let middle = c.struct_begin.new.checker in
    let after = c.check_inits.new.checker in
    let begun = c.in_ok-begun.begun in
    let given = c.in_ok-given.given in
    let items = before.walk.items in
    let made = variant_of items c.args.adt c.args.variant in
    let fields : Check (Fields × Given) = rules_of.typed_inits (env before) made (nodes_of c.args.inits) in
    let here : fields (state middle) ≡ Ok ((numbered_by given (last_nodes (length given) (stack after)), given), state after) =
    by_tables items before.tables middle.tables c.args.adt c.args.variant begun.types (env before) (env middle) (nodes_of c.args.inits) (state middle) before.ready c.in_ok-begun.ensures.same.1.1 c.in_ok-begun.ensures.types c.in_ok-begun.ensures.same.1.0
    ∙ ap (λ (types : List TyId). rules_of.typed_inits (env middle) (variant_by made.name middle.tables c.args.adt c.args.variant types) (nodes_of c.args.inits) (state middle)) (sym c.as_slice.ensures)
    ∙ c.in_ok-given.ensures.gives made.name in
    subst (λ (o : Result (tree.Node × TypingState) Broken). Gives o c.struct_end.result c.struct_end.new.checker)
    (sym (behind_fields (λ fs. rows_of.struct_row c.args.at c.args.adt c.args.variant made.fields fs c.args.expected) (struct_end begun.id.0 c.args.at c.args.adt c.args.variant begun.ty (length begun.types) c.args.expected) fields _ (state before) (state middle) (state after)
    (c.in_ok-begun.ensures.gives c.args.at c.args.expected fields) here
    ∙ ap (λ (l : Given). struct_end begun.id.0 c.args.at c.args.adt c.args.variant begun.ty (length begun.types) c.args.expected (numbered_by l (last_nodes (length l) (stack after)), l) (state after)) (sym c.as_slice-2.ensures)))
    c.struct_end.ensures.gives

pub structs::struct_row-returns-in_err-begun-clause-gives : goal.structs::struct_row-returns-in_err-begun-clause-gives
structs::struct_row-returns-in_err-begun-clause-gives t c =
    let before = c.args.checker.now in
    let made = variant_of before.walk.items c.args.adt c.args.variant in
    let fields : Check (Fields × Given) = rules_of.typed_inits (env before) made (nodes_of c.args.inits) in
    let refused : Refuses (rows_of.struct_row c.args.at c.args.adt c.args.variant made.fields fields c.args.expected (state before)) c.in_err-begun.field-0.0 =
    c.in_err-begun.ensures.gives c.args.at c.args.expected fields in
    grind (arith, refused)

pub structs::struct_row-returns-in_err-given-clause-gives : goal.structs::struct_row-returns-in_err-given-clause-gives
structs::struct_row-returns-in_err-given-clause-gives t c =
    let before = c.args.checker.now in
    let middle = c.struct_begin.new.checker in
    let begun = c.in_ok-begun.begun in
    let items = before.walk.items in
    let made = variant_of items c.args.adt c.args.variant in
    let fields : Check (Fields × Given) = rules_of.typed_inits (env before) made (nodes_of c.args.inits) in
    let same : rules_of.typed_inits (env middle) (variant_by made.name middle.tables c.args.adt c.args.variant c.as_slice.result.now) (nodes_of c.args.inits) (state middle) ≡ fields (state middle) =
    sym (by_tables items before.tables middle.tables c.args.adt c.args.variant begun.types (env before) (env middle) (nodes_of c.args.inits) (state middle) before.ready c.in_ok-begun.ensures.same.1.1 c.in_ok-begun.ensures.types c.in_ok-begun.ensures.same.1.0
    ∙ ap (λ (types : List TyId). rules_of.typed_inits (env middle) (variant_by made.name middle.tables c.args.adt c.args.variant types) (nodes_of c.args.inits) (state middle)) (sym c.as_slice.ensures)) in
    let here : Refuses (fields (state middle)) c.in_err-given.field-0.0 =
    subst (λ (o : Result ((Fields × Given) × TypingState) Broken). Refuses o c.in_err-given.field-0.0) same (c.in_err-given.ensures.gives made.name) in
    let refused : Refuses (rows_of.struct_row c.args.at c.args.adt c.args.variant made.fields fields c.args.expected (state before)) c.in_err-given.field-0.0 =
    refused_fields (λ fs. rows_of.struct_row c.args.at c.args.adt c.args.variant made.fields fs c.args.expected) (struct_end begun.id.0 c.args.at c.args.adt c.args.variant begun.ty (length begun.types) c.args.expected) fields (state before) (state middle) c.in_err-given.field-0.0
    (c.in_ok-begun.ensures.gives c.args.at c.args.expected fields) here in
    grind (arith, refused)

-- ---- closures

pub closures::check_closure_body-returns-clause-gives : goal.closures::check_closure_body-returns-clause-gives
closures::check_closure_body-returns-clause-gives t c =
    let before = c.args.checker.now in
    let middle = c.closure_head.new.checker in
    let after = c.check_expr.new.checker in
    let head = c.in_ok-head.head in
    let block : Env → Option TyId → Check tree.Node = λ inner. rules_of.typed inner (syn_of c.args.block.now) in
    subst (λ (o : Result (Unit {0} × TypingState) Broken). GivesValue (λ u. u) o c.body_end.result c.body_end.new.checker)
    (sym (block_given head _ block (env middle) (stack middle) (stack after) (state middle) (state after) (c.in_ok-head.ensures.gives block) c.in_ok-check_expr.ensures.gives c.in_ok-check_expr.ensures.kept.0))
    c.body_end.ensures.gives

pub closures::check_closure_body-returns-in_err-head-clause-gives : goal.closures::check_closure_body-returns-in_err-head-clause-gives
closures::check_closure_body-returns-in_err-head-clause-gives t c =
    let before = c.args.checker.now in
    let block : Env → Option TyId → Check tree.Node = λ inner. rules_of.typed inner (syn_of c.args.block.now) in
    let refused : Refuses (unvalued (bodies_of.closure_body (env before) c.args.too_many c.args.at c.args.begun.now.body c.args.begun.now.ty (reverse c.args.begun.now.captures) (nodes_of c.args.params) (maybe_of c.args.answer) block) (state before)) c.in_err-head.field-0.0 =
    c.in_err-head.ensures.gives block in
    grind (arith, refused)

pub closures::check_closure_body-returns-in_err-check_expr-clause-gives : goal.closures::check_closure_body-returns-in_err-check_expr-clause-gives
closures::check_closure_body-returns-in_err-check_expr-clause-gives t c =
    let before = c.args.checker.now in
    let middle = c.closure_head.new.checker in
    let head = c.in_ok-head.head in
    let block : Env → Option TyId → Check tree.Node = λ inner. rules_of.typed inner (syn_of c.args.block.now) in
    let refused : Refuses (unvalued (bodies_of.closure_body (env before) c.args.too_many c.args.at c.args.begun.now.body c.args.begun.now.ty (reverse c.args.begun.now.captures) (nodes_of c.args.params) (maybe_of c.args.answer) block) (state before)) c.in_err-check_expr.field-0.0 =
    block_refused head _ block (env middle) (stack middle) (state middle) c.in_err-check_expr.field-0.0 (c.in_ok-head.ensures.gives block) c.in_err-check_expr.ensures.gives in
    grind (arith, refused)

pub closures::check_closure-returns-clause-gives : goal.closures::check_closure-returns-clause-gives
closures::check_closure-returns-clause-gives t c =
    let before = c.args.checker.now in
    let middle = c.closure_begin.new.checker in
    let after = c.check_closure_body.new.checker in
    let begun = c.in_ok-begun.begun in
    let block : Env → Option TyId → Check tree.Node = λ inner. rules_of.typed inner (syn_of c.args.block.now) in
    let body : Rule → Result (Unit {0} × TypingState) Broken = λ rule. unvalued (bodies_of.closure_body (env middle) rule c.args.at begun.body begun.ty (reverse begun.captures) (nodes_of c.args.params) (maybe_of c.args.answer) block) (state middle) in
    subst (λ (o : Result (tree.Node × TypingState) Broken). Gives o c.closure_end.result c.closure_end.new.checker)
    (sym (closure_done (env before) (env middle) c.args.at (syns_of (idents (nodes_of c.args.captures))) (nodes_of c.args.params) (maybe_of c.args.answer) block c.args.expected (start_of begun (stack middle)) (state before) (state middle) (state after)
    c.in_ok-begun.ensures.gives c.in_ok-begun.ensures.kept.1.0 (ap body (sym c.too_many_rule-too_many.ensures) ∙ c.in_ok-check_closure_body.ensures.gives)
    ∙ ap (λ (ns : List tree.Node). rows_of.fitted c.args.expected (a_node_of begun.id.0 c.args.at begun.ty (tree.Closure begun.closure (last_nodes begun.count ns))) (state after)) (sym c.in_ok-check_closure_body.ensures.same.0)))
    c.closure_end.ensures.gives

pub closures::check_closure-returns-in_err-begun-clause-gives : goal.closures::check_closure-returns-in_err-begun-clause-gives
closures::check_closure-returns-in_err-begun-clause-gives t c =
    let before = c.args.checker.now in
    let block : Env → Option TyId → Check tree.Node = λ inner. rules_of.typed inner (syn_of c.args.block.now) in
    let refused : Refuses (rules_of.value (env before) c.args.at (MoveOf (syns_of (idents (nodes_of c.args.captures))) (nodes_of c.args.params) (maybe_of c.args.answer) (syn_of c.args.block.now)) c.args.expected (state before)) c.in_err-begun.field-0.0 =
    start_refused (env before) c.args.at (syns_of (idents (nodes_of c.args.captures))) (nodes_of c.args.params) (maybe_of c.args.answer) block c.args.expected (state before) c.in_err-begun.field-0.0 c.in_err-begun.ensures.gives in
    grind (arith, refused)

pub closures::check_closure-returns-in_err-check_closure_body-clause-gives : goal.closures::check_closure-returns-in_err-check_closure_body-clause-gives
closures::check_closure-returns-in_err-check_closure_body-clause-gives t c =
    let before = c.args.checker.now in
    let middle = c.closure_begin.new.checker in
    let begun = c.in_ok-begun.begun in
    let err = c.in_err-check_closure_body.field-0.0 in
    let block : Env → Option TyId → Check tree.Node = λ inner. rules_of.typed inner (syn_of c.args.block.now) in
    let body : Rule → Result (Unit {0} × TypingState) Broken = λ rule. unvalued (bodies_of.closure_body (env middle) rule c.args.at begun.body begun.ty (reverse begun.captures) (nodes_of c.args.params) (maybe_of c.args.answer) block) (state middle) in
    let refused : Refuses (rules_of.value (env before) c.args.at (MoveOf (syns_of (idents (nodes_of c.args.captures))) (nodes_of c.args.params) (maybe_of c.args.answer) (syn_of c.args.block.now)) c.args.expected (state before)) c.in_err-check_closure_body.field-0.0 =
    closure_refused (env before) (env middle) c.args.at (syns_of (idents (nodes_of c.args.captures))) (nodes_of c.args.params) (maybe_of c.args.answer) block c.args.expected (start_of begun (stack middle)) (state before) (state middle) c.in_err-check_closure_body.field-0.0
    c.in_ok-begun.ensures.gives c.in_ok-begun.ensures.kept.1.0 (subst (λ (r : Rule). Refuses (body r) err) c.too_many_rule-too_many.ensures c.in_err-check_closure_body.ensures.gives) in
    grind (arith, refused)

pub closures::check_closure_body-returns-clause-same : goal.closures::check_closure_body-returns-clause-same
closures::check_closure_body-returns-clause-same t c =
    returned_if c.in_ok-head.head c.args.checker.now c.closure_head.new.checker c.check_expr.new.checker c.body_end.new.checker c.body_end.result c.in_ok-head.ensures.kept c.in_ok-check_expr.ensures.kept.0 c.in_ok-check_expr.ensures.kept.1 c.body_end.ensures.kept

pub expressions::check_value-returns-in-Match-clause-gives : goal.expressions::check_value-returns-in-Match-clause-gives
expressions::check_value-returns-in-Match-clause-gives t c = of_form c.args.checker.now c.args.at c.args.expected c.args.form _ _ _ c.in-Match.is c.check_match.ensures.gives

pub expressions::check_value-returns-in-While-clause-gives : goal.expressions::check_value-returns-in-While-clause-gives
expressions::check_value-returns-in-While-clause-gives t c = of_form c.args.checker.now c.args.at c.args.expected c.args.form _ _ _ c.in-While.is c.check_while.ensures.gives

pub expressions::check_value-returns-in-Closure-clause-gives : goal.expressions::check_value-returns-in-Closure-clause-gives
expressions::check_value-returns-in-Closure-clause-gives t c = of_form c.args.checker.now c.args.at c.args.expected c.args.form _ _ _ c.in-Closure.is c.check_closure.ensures.gives

pub expressions::check_value-returns-in-Break-clause-gives : goal.expressions::check_value-returns-in-Break-clause-gives
expressions::check_value-returns-in-Break-clause-gives t c = of_form c.args.checker.now c.args.at c.args.expected c.args.form _ _ _ c.in-Break.is c.check_break.ensures.gives

pub expressions::check_value-returns-in-Loop-clause-gives : goal.expressions::check_value-returns-in-Loop-clause-gives
expressions::check_value-returns-in-Loop-clause-gives t c = of_form c.args.checker.now c.args.at c.args.expected c.args.form _ _ _ c.in-Loop.is c.check_loop.ensures.gives

pub expressions::check_value-returns-in-Assign-clause-gives : goal.expressions::check_value-returns-in-Assign-clause-gives
expressions::check_value-returns-in-Assign-clause-gives t c = of_form c.args.checker.now c.args.at c.args.expected c.args.form _ _ _ c.in-Assign.is c.check_assignment.ensures.gives

pub expressions::check_value-returns-in-And-clause-gives : goal.expressions::check_value-returns-in-And-clause-gives
expressions::check_value-returns-in-And-clause-gives t c = of_form c.args.checker.now c.args.at c.args.expected c.args.form _ _ _ c.in-And.is c.check_logic.ensures.gives

pub expressions::check_value-returns-in-Or-clause-gives : goal.expressions::check_value-returns-in-Or-clause-gives
expressions::check_value-returns-in-Or-clause-gives t c = of_form c.args.checker.now c.args.at c.args.expected c.args.form _ _ _ c.in-Or.is c.check_logic-in-Or.ensures.gives

pub expressions::check_expr-check_value-requires : goal.expressions::check_expr-check_value-requires
expressions::check_expr-check_value-requires t c = (value_falls c.args.node.now _ t c.decreases c.expression_form.ensures, tt)

pub expressions::check_for_parts-check_value-requires : goal.expressions::check_for_parts-check_value-requires
expressions::check_for_parts-check_value-requires t c = (value_falls c.args.node.now _ t c.decreases c.expression_form.ensures, tt)

pub expressions::check_place_base-check_value-requires : goal.expressions::check_place_base-check_value-requires
expressions::check_place_base-check_value-requires t c = (value_falls c.args.node.now _ t c.decreases c.expression_form.ensures, tt)

pub arguments::check_arguments-loop-split-init : goal.arguments::check_arguments-loop-split-init
arguments::check_arguments-loop-split-init t c =
    let before = c.args.checker.now in
    record {
      gives = no_nodes_yet (stack before) (rules_of.typed_args (env before) c.args.params.now (nodes_of c.args.args) (state before));
      below = refl;
      place = (refl, refl);
      counted = omega arith;
      smaller = omega arith;
    }

pub aggregates::check_elements-loop-split-init : goal.aggregates::check_elements-loop-split-init
aggregates::check_elements-loop-split-init t c =
    let before = c.args.checker.now in
    record {
      gives = none_yet (stack before) (rules_of.typed_elements (env before) c.args.expected (nodes_of c.args.elements) (state before));
      below = refl;
      place = (refl, refl);
      counted = omega arith;
      smaller = omega arith;
    }

pub operators::check_arithmetic-returns-clause-gives : goal.operators::check_arithmetic-returns-clause-gives
operators::check_arithmetic-returns-clause-gives t c =
    let before = c.args.checker.now in
    let later = c.number.new.self in
    let after = c.check_operands.new.checker in
    let e = env before in
    let literal = rules_of.is_plain (syn_of c.args.left.now) in
    let both : rows_of.operands literal (wanted rows_of.if_int later.walk.items c.args.expected) (rules_of.typed e (syn_of c.args.left.now)) (rules_of.typed e (syn_of c.args.right.now)) (state later)
    ≡ Ok ((left_of c.in_ok-swapped.swapped (stack after), right_of c.in_ok-swapped.swapped (stack after)), state after) =
    ap (λ (ty : Option TyId). rows_of.operands literal ty (rules_of.typed e (syn_of c.args.left.now)) (rules_of.typed e (syn_of c.args.right.now)) (state later)) (sym c.wanted_int-inner.ensures)
    ∙ ap (λ (f : Env). rows_of.operands literal c.wanted_int-inner.result (rules_of.typed f (syn_of c.args.left.now)) (rules_of.typed f (syn_of c.args.right.now)) (state later)) (sym c.in_ok-id.ensures.same.1.0)
    ∙ c.in_ok-swapped.ensures.gives in
    subst (λ (o : Result (tree.Node × TypingState) Broken). Gives o c.arithmetic_of.result c.arithmetic_of.new.checker)
    (sym (calculated c.args.at c.args.operator literal (rules_of.typed e (syn_of c.args.left.now)) (rules_of.typed e (syn_of c.args.right.now)) c.args.expected c.in_ok-id.id.0
    (left_of c.in_ok-swapped.swapped (stack after)) (right_of c.in_ok-swapped.swapped (stack after)) (state before) (state later) (state after) c.in_ok-id.ensures.number both))
    c.arithmetic_of.ensures.gives

pub operators::check_comparison-returns-clause-gives : goal.operators::check_comparison-returns-clause-gives
operators::check_comparison-returns-clause-gives t c =
    let before = c.args.checker.now in
    let later = c.number.new.self in
    let after = c.check_operands.new.checker in
    let e = env before in
    let literal = rules_of.is_plain (syn_of c.args.left.now) in
    let both : rows_of.operands literal None (rules_of.typed e (syn_of c.args.left.now)) (rules_of.typed e (syn_of c.args.right.now)) (state later)
    ≡ Ok ((left_of c.in_ok-swapped.swapped (stack after), right_of c.in_ok-swapped.swapped (stack after)), state after) =
    ap (λ (f : Env). rows_of.operands literal None (rules_of.typed f (syn_of c.args.left.now)) (rules_of.typed f (syn_of c.args.right.now)) (state later)) (sym c.in_ok-id.ensures.same.1.0)
    ∙ c.in_ok-swapped.ensures.gives in
    subst (λ (o : Result (tree.Node × TypingState) Broken). Gives o c.comparison_of.result c.comparison_of.new.checker)
    (sym (compared c.args.at c.args.operator literal (rules_of.typed e (syn_of c.args.left.now)) (rules_of.typed e (syn_of c.args.right.now)) c.args.expected c.in_ok-id.id.0
    (left_of c.in_ok-swapped.swapped (stack after)) (right_of c.in_ok-swapped.swapped (stack after)) (state before) (state later) (state after) c.in_ok-id.ensures.number both))
    c.comparison_of.ensures.gives
