use Rattle.std.proofs.Common.{◌≡◌, ◌≤◌, ◌+◌, ◌*◌, Some, drop, length, map}
use Rattle.src_ast.specs.Expressions.{arm_of, expression_of, init_of}
use Rattle.src_ast.specs.Seen.{maybe_of, nodes_of, syn_of}
use Rattle.typeck_checker.specs.Lists.{below_all}
use Rattle.typeck_calls.specs.Inits.{behind_inits, variant_by}
use Rattle.src_ast.specs.Syntax.{Word}
use Rattle.typeck_patterns.specs.PatternContext.{pattern_context_of}
use Rattle.typeck_checker.specs.Stand.{Stays, env, stack, state}
use Rattle.typing_rules.specs.Patterns.{count_of}
use Rattle.typing_rules.specs.Typed as rules
use Rattle.typeck_exprs.specs.Forms.{argument_size, place_size}
use Rattle.typeck_exprs.specs.Sizes.{form_size, seen_size, size, size_if_any, sizes}
use Rattle.typeck_exprs.specs.Lists.{behind_nodes, behind_parts, behind_typed}
use Rattle.typeck_walk.specs.Blocks.{Grows, behind_statements}
use Rattle.typeck_walk.proofs.+check_expr.Given as goal

-- ---- lists

abbrev pub invariant-arguments::check_arguments-loop-split : goal.invariant-arguments::check_arguments-loop-split
invariant-arguments::check_arguments-loop-split l =
    record {
      gives : rules.typed_args (env l.initial.checker) l.params (nodes_of l.initial.rest) (state l.initial.checker)
          ≡ behind_nodes l.count (stack l.checker) (rules.typed_args (env l.initial.checker) (drop l.count l.params) (nodes_of l.rest) (state l.checker));
      below : below_all l.count (stack l.checker) ≡ stack l.initial.checker;
      place : Stays l.initial.checker l.checker;
      counted : l.count + count_of (nodes_of l.rest) ≡ count_of (nodes_of l.initial.rest);
      smaller : sizes (nodes_of l.rest) ≤ sizes (nodes_of l.initial.rest);
    }

abbrev pub decreases-arguments::check_arguments-loop-split : goal.decreases-arguments::check_arguments-loop-split
decreases-arguments::check_arguments-loop-split l = count_of (nodes_of l.rest)

abbrev pub invariant-aggregates::check_parts-loop-split : goal.invariant-aggregates::check_parts-loop-split
invariant-aggregates::check_parts-loop-split l =
    record {
      gives : rules.typed_parts (env l.initial.checker) (map Some l.wants) (nodes_of l.initial.rest) (state l.initial.checker)
          ≡ behind_parts l.types (stack l.checker) (rules.typed_parts (env l.initial.checker) (drop (length l.types) (map Some l.wants)) (nodes_of l.rest) (state l.checker));
      below : below_all (length l.types) (stack l.checker) ≡ stack l.initial.checker;
      place : Stays l.initial.checker l.checker;
      counted : length l.types + count_of (nodes_of l.rest) ≡ count_of (nodes_of l.initial.rest);
      smaller : sizes (nodes_of l.rest) ≤ sizes (nodes_of l.initial.rest);
    }

abbrev pub decreases-aggregates::check_parts-loop-split : goal.decreases-aggregates::check_parts-loop-split
decreases-aggregates::check_parts-loop-split l = count_of (nodes_of l.rest)

abbrev pub invariant-aggregates::check_elements-loop-split : goal.invariant-aggregates::check_elements-loop-split
invariant-aggregates::check_elements-loop-split l =
    record {
      gives : rules.typed_elements (env l.initial.checker) l.expected (nodes_of l.initial.rest) (state l.initial.checker)
          ≡ behind_typed l.count (stack l.checker) (rules.typed_elements (env l.initial.checker) l.expected (nodes_of l.rest) (state l.checker));
      below : below_all l.count (stack l.checker) ≡ stack l.initial.checker;
      place : Stays l.initial.checker l.checker;
      counted : l.count + count_of (nodes_of l.rest) ≡ count_of (nodes_of l.initial.rest);
      smaller : sizes (nodes_of l.rest) ≤ sizes (nodes_of l.initial.rest);
    }

abbrev pub decreases-aggregates::check_elements-loop-split : goal.decreases-aggregates::check_elements-loop-split
decreases-aggregates::check_elements-loop-split l = count_of (nodes_of l.rest)

abbrev pub invariant-blocks::check_statements-loop-split : goal.invariant-blocks::check_statements-loop-split
invariant-blocks::check_statements-loop-split l =
    record {
      gives : rules.typed_all (env l.initial.checker) (nodes_of l.initial.rest) (state l.initial.checker)
          ≡ behind_statements l.count l.ends (stack l.checker) (rules.typed_all (env l.checker) (nodes_of l.rest) (state l.checker));
      below : below_all l.count (stack l.checker) ≡ stack l.initial.checker;
      place : Grows l.initial.checker l.checker;
      smaller : sizes (nodes_of l.rest) ≤ sizes (nodes_of l.initial.rest);
    }

abbrev pub decreases-blocks::check_statements-loop-split : goal.decreases-blocks::check_statements-loop-split
decreases-blocks::check_statements-loop-split l = count_of (nodes_of l.rest)

abbrev pub invariant-matches::check_each_arm-loop-split : goal.invariant-matches::check_each_arm-loop-split
invariant-matches::check_each_arm-loop-split l =
    record {
      gives : rules.typed_arms (env l.initial.checker) (pattern_context_of l.e) l.ty l.expected (nodes_of l.initial.rest) (state l.initial.checker)
          ≡ behind_typed l.count (stack l.checker) (rules.typed_arms (env l.initial.checker) (pattern_context_of l.e) l.ty l.expected (nodes_of l.rest) (state l.checker));
      below : below_all l.count (stack l.checker) ≡ stack l.initial.checker;
      place : Stays l.initial.checker l.checker;
      smaller : sizes (nodes_of l.rest) ≤ sizes (nodes_of l.initial.rest);
    }

abbrev pub decreases-matches::check_each_arm-loop-split : goal.decreases-matches::check_each_arm-loop-split
decreases-matches::check_each_arm-loop-split l = count_of (nodes_of l.rest)

abbrev pub invariant-structs::check_inits-loop-split : goal.invariant-structs::check_inits-loop-split
invariant-structs::check_inits-loop-split l =
    record {
      gives : (own : Word) → rules.typed_inits (env l.initial.checker) (variant_by own l.initial.checker.tables l.adt l.variant l.types) (nodes_of l.initial.rest) (state l.initial.checker)
          ≡ behind_inits l.given (stack l.checker) (rules.typed_inits (env l.initial.checker) (variant_by own l.initial.checker.tables l.adt l.variant l.types) (nodes_of l.rest) (state l.checker));
      below : below_all (length l.given) (stack l.checker) ≡ stack l.initial.checker;
      place : Stays l.initial.checker l.checker;
      smaller : sizes (nodes_of l.rest) ≤ sizes (nodes_of l.initial.rest);
    }

abbrev pub decreases-structs::check_inits-loop-split : goal.decreases-structs::check_inits-loop-split
decreases-structs::check_inits-loop-split l = count_of (nodes_of l.rest)

-- ---- how large what is checked is

abbrev pub decreases-aggregates::check_array : goal.decreases-aggregates::check_array
decreases-aggregates::check_array l = 16 * sizes (nodes_of l.elements) + 10

abbrev pub decreases-aggregates::check_tuple : goal.decreases-aggregates::check_tuple
decreases-aggregates::check_tuple l = 16 * sizes (nodes_of l.parts) + 10

abbrev pub decreases-aggregates::tuple_row : goal.decreases-aggregates::tuple_row
decreases-aggregates::tuple_row l = 16 * sizes (nodes_of l.parts) + 9

abbrev pub decreases-aggregates::check_elements : goal.decreases-aggregates::check_elements
decreases-aggregates::check_elements l = 16 * sizes (nodes_of l.elements) + 8

abbrev pub decreases-aggregates::check_parts : goal.decreases-aggregates::check_parts
decreases-aggregates::check_parts l = 16 * sizes (nodes_of l.parts) + 8

abbrev pub decreases-arguments::borrow : goal.decreases-arguments::borrow
decreases-arguments::borrow l = 16 * size (syn_of l.base.now) + 2

abbrev pub decreases-arguments::check_reference : goal.decreases-arguments::check_reference
decreases-arguments::check_reference l = 16 * argument_size l.form + 3

abbrev pub decreases-arguments::by_reference : goal.decreases-arguments::by_reference
decreases-arguments::by_reference l = 16 * size (syn_of l.node.now) + 4

abbrev pub decreases-arguments::check_argument : goal.decreases-arguments::check_argument
decreases-arguments::check_argument l = 16 * size (syn_of l.node.now) + 5

abbrev pub decreases-arguments::check_argument_if : goal.decreases-arguments::check_argument_if
decreases-arguments::check_argument_if l = 16 * size (syn_of l.node.now) + 6

abbrev pub decreases-arguments::check_arguments : goal.decreases-arguments::check_arguments
decreases-arguments::check_arguments l = 16 * sizes (nodes_of l.args) + 8

abbrev pub decreases-blocks::check_block : goal.decreases-blocks::check_block
decreases-blocks::check_block l = 16 * (sizes (nodes_of l.statements) + size_if_any (maybe_of l.tail)) + 11

abbrev pub decreases-blocks::block_inside : goal.decreases-blocks::block_inside
decreases-blocks::block_inside l = 16 * (sizes (nodes_of l.statements) + size_if_any (maybe_of l.tail)) + 10

abbrev pub decreases-blocks::block_behind : goal.decreases-blocks::block_behind
decreases-blocks::block_behind l = 16 * size_if_any (maybe_of l.tail) + 2

abbrev pub decreases-blocks::evaluate : goal.decreases-blocks::evaluate
decreases-blocks::evaluate l = 16 * size (syn_of l.expression.now) + 1

abbrev pub decreases-blocks::check_statement : goal.decreases-blocks::check_statement
decreases-blocks::check_statement l = 16 * size (syn_of l.node.now) + 2

abbrev pub decreases-blocks::check_statements : goal.decreases-blocks::check_statements
decreases-blocks::check_statements l = 16 * sizes (nodes_of l.statements) + 8

abbrev pub decreases-branches::if_alone : goal.decreases-branches::if_alone
decreases-branches::if_alone l = 16 * (size (syn_of l.condition.now) + size (syn_of l.body.now)) + 1

abbrev pub decreases-branches::if_else : goal.decreases-branches::if_else
decreases-branches::if_else l = 16 * (size (syn_of l.condition.now) + (size (syn_of l.body.now) + size (syn_of l.otherwise.now))) + 1

abbrev pub decreases-branches::check_if : goal.decreases-branches::check_if
decreases-branches::check_if l = 16 * (size (syn_of l.condition.now) + (size (syn_of l.body.now) + size_if_any (maybe_of l.otherwise))) + 2

abbrev pub decreases-calls::check_call : goal.decreases-calls::check_call
decreases-calls::check_call l = 16 * (size (syn_of l.callee.now) + sizes (nodes_of l.args)) + 12

abbrev pub decreases-expressions::check_place_base : goal.decreases-expressions::check_place_base
decreases-expressions::check_place_base l = 16 * size (syn_of l.node.now)

abbrev pub decreases-expressions::check_plain_base : goal.decreases-expressions::check_plain_base
decreases-expressions::check_plain_base l = 16 * size (syn_of l.node.now) + 1

abbrev pub decreases-expressions::check_expr : goal.decreases-expressions::check_expr
decreases-expressions::check_expr l = 16 * size (syn_of l.node.now)

abbrev pub decreases-expressions::check_place : goal.decreases-expressions::check_place
decreases-expressions::check_place l = 16 * place_size l.form + 15

abbrev pub decreases-expressions::check_value : goal.decreases-expressions::check_value
decreases-expressions::check_value l = 16 * seen_size (expression_of l.form) + 15

abbrev pub decreases-loops::inside_loop : goal.decreases-loops::inside_loop
decreases-loops::inside_loop l = 16 * size (syn_of l.node.now) + 1

abbrev pub decreases-loops::check_loop : goal.decreases-loops::check_loop
decreases-loops::check_loop l = 16 * size (syn_of l.body.now) + 2

abbrev pub decreases-loops::check_while : goal.decreases-loops::check_while
decreases-loops::check_while l = 16 * (size (syn_of l.condition.now) + size (syn_of l.body.now)) + 2

abbrev pub decreases-loops::check_break : goal.decreases-loops::check_break
decreases-loops::check_break l = 16 * size_if_any (maybe_of l.value) + 2

abbrev pub decreases-loops::check_return : goal.decreases-loops::check_return
decreases-loops::check_return l = 16 * size_if_any (maybe_of l.value) + 2

abbrev pub decreases-operators::check_not : goal.decreases-operators::check_not
decreases-operators::check_not l = 16 * size (syn_of l.operand.now) + 1

abbrev pub decreases-operators::negate : goal.decreases-operators::negate
decreases-operators::negate l = 16 * size (syn_of l.operand.now) + 1

abbrev pub decreases-operators::check_minus : goal.decreases-operators::check_minus
decreases-operators::check_minus l = 16 * size (syn_of l.operand.now) + 2

abbrev pub decreases-operators::left_first : goal.decreases-operators::left_first
decreases-operators::left_first l = 16 * (size (syn_of l.left.now) + size (syn_of l.right.now)) + 1

abbrev pub decreases-operators::left_last : goal.decreases-operators::left_last
decreases-operators::left_last l = 16 * (size (syn_of l.left.now) + size (syn_of l.right.now)) + 1

abbrev pub decreases-operators::plain_operands : goal.decreases-operators::plain_operands
decreases-operators::plain_operands l = 16 * (size (syn_of l.left.now) + size (syn_of l.right.now)) + 2

abbrev pub decreases-operators::swapped_operands : goal.decreases-operators::swapped_operands
decreases-operators::swapped_operands l = 16 * (size (syn_of l.left.now) + size (syn_of l.right.now)) + 2

abbrev pub decreases-operators::check_operands : goal.decreases-operators::check_operands
decreases-operators::check_operands l = 16 * (size (syn_of l.left.now) + size (syn_of l.right.now)) + 3

abbrev pub decreases-operators::check_arithmetic : goal.decreases-operators::check_arithmetic
decreases-operators::check_arithmetic l = 16 * (size (syn_of l.left.now) + size (syn_of l.right.now)) + 4

abbrev pub decreases-operators::check_comparison : goal.decreases-operators::check_comparison
decreases-operators::check_comparison l = 16 * (size (syn_of l.left.now) + size (syn_of l.right.now)) + 4

abbrev pub decreases-operators::check_logic : goal.decreases-operators::check_logic
decreases-operators::check_logic l = 16 * (size (syn_of l.left.now) + size (syn_of l.right.now)) + 1

abbrev pub decreases-operators::check_assignment : goal.decreases-operators::check_assignment
decreases-operators::check_assignment l = 16 * (size (syn_of l.place.now) + size (syn_of l.value.now)) + 2

abbrev pub decreases-places::check_index : goal.decreases-places::check_index
decreases-places::check_index l = 16 * (size (syn_of l.base.now) + size (syn_of l.index.now)) + 2

abbrev pub decreases-places::check_deref : goal.decreases-places::check_deref
decreases-places::check_deref l = 16 * size (syn_of l.base.now) + 1

abbrev pub decreases-places::check_borrow : goal.decreases-places::check_borrow
decreases-places::check_borrow l = 16 * size (syn_of l.operand.now) + 2

abbrev pub decreases-calls::call_of : goal.decreases-calls::call_of
decreases-calls::call_of l = 16 * sizes (nodes_of l.args) + 9

abbrev pub decreases-calls::closure_behind : goal.decreases-calls::closure_behind
decreases-calls::closure_behind l = 16 * sizes (nodes_of l.args) + 9

abbrev pub decreases-calls::closure_call : goal.decreases-calls::closure_call
decreases-calls::closure_call l = 16 * (size (syn_of l.callee.now) + sizes (nodes_of l.args)) + 10

abbrev pub decreases-calls::found_call : goal.decreases-calls::found_call
decreases-calls::found_call l = 16 * (size (syn_of l.callee.now) + sizes (nodes_of l.args)) + 11

abbrev pub decreases-calls::method_behind : goal.decreases-calls::method_behind
decreases-calls::method_behind l = 16 * sizes (nodes_of l.args) + 9

abbrev pub decreases-calls::check_method_call : goal.decreases-calls::check_method_call
decreases-calls::check_method_call l = 16 * (size (syn_of l.receiver.now) + sizes (nodes_of l.args)) + 10

abbrev pub decreases-places::check_field : goal.decreases-places::check_field
decreases-places::check_field l = 16 * size (syn_of l.base.now) + 1

abbrev pub decreases-places::check_part : goal.decreases-places::check_part
decreases-places::check_part l = 16 * size (syn_of l.base.now) + 1

abbrev pub decreases-expressions::check_for_parts : goal.decreases-expressions::check_for_parts
decreases-expressions::check_for_parts l = 16 * size (syn_of l.node.now)

abbrev pub decreases-blocks::initialiser : goal.decreases-blocks::initialiser
decreases-blocks::initialiser l = 16 * size (syn_of l.value.now) + 1

abbrev pub decreases-blocks::check_let_value : goal.decreases-blocks::check_let_value
decreases-blocks::check_let_value l = 16 * size_if_any (maybe_of l.value) + 2

abbrev pub decreases-blocks::check_let : goal.decreases-blocks::check_let
decreases-blocks::check_let l = 16 * size_if_any (maybe_of l.value) + 3

abbrev pub decreases-matches::inside_scope : goal.decreases-matches::inside_scope
decreases-matches::inside_scope l = 16 * size (syn_of l.node.now) + 1

abbrev pub decreases-matches::inside_guard : goal.decreases-matches::inside_guard
decreases-matches::inside_guard l = 16 * size (syn_of l.guard.now) + 1

abbrev pub decreases-matches::check_arm_body : goal.decreases-matches::check_arm_body
decreases-matches::check_arm_body l = 16 * (size_if_any (maybe_of l.guard) + size (syn_of l.body.now)) + 2

abbrev pub decreases-matches::check_arm : goal.decreases-matches::check_arm
decreases-matches::check_arm l = 16 * form_size (arm_of l.form) + 3

abbrev pub decreases-matches::arm_of_node : goal.decreases-matches::arm_of_node
decreases-matches::arm_of_node l = 16 * size (syn_of l.node.now) + 1

abbrev pub decreases-matches::check_each_arm : goal.decreases-matches::check_each_arm
decreases-matches::check_each_arm l = 16 * sizes (nodes_of l.arms) + 7

abbrev pub decreases-matches::check_arms : goal.decreases-matches::check_arms
decreases-matches::check_arms l = 16 * sizes (nodes_of l.arms) + 8

abbrev pub decreases-matches::check_scrutinee : goal.decreases-matches::check_scrutinee
decreases-matches::check_scrutinee l = 16 * size (syn_of l.scrutinee.now) + 1

abbrev pub decreases-matches::check_match_parts : goal.decreases-matches::check_match_parts
decreases-matches::check_match_parts l = 16 * (size (syn_of l.scrutinee.now) + sizes (nodes_of l.arms)) + 9

abbrev pub decreases-matches::check_match : goal.decreases-matches::check_match
decreases-matches::check_match l = 16 * (size (syn_of l.scrutinee.now) + sizes (nodes_of l.arms)) + 10

abbrev pub decreases-matches::if_let_branches : goal.decreases-matches::if_let_branches
decreases-matches::if_let_branches l = 16 * (size (syn_of l.body.now) + size_if_any (maybe_of l.otherwise)) + 3

abbrev pub decreases-matches::if_let_behind : goal.decreases-matches::if_let_behind
decreases-matches::if_let_behind l = 16 * (size (syn_of l.body.now) + size_if_any (maybe_of l.otherwise)) + 4

abbrev pub decreases-matches::check_if_let : goal.decreases-matches::check_if_let
decreases-matches::check_if_let l = 16 * (size (syn_of l.scrutinee.now) + (size (syn_of l.body.now) + size_if_any (maybe_of l.otherwise))) + 5

abbrev pub decreases-matches::body_inside_loop : goal.decreases-matches::body_inside_loop
decreases-matches::body_inside_loop l = 16 * size (syn_of l.body.now) + 2

abbrev pub decreases-matches::base_inside_loop : goal.decreases-matches::base_inside_loop
decreases-matches::base_inside_loop l = 16 * size (syn_of l.scrutinee.now) + 1

abbrev pub decreases-matches::while_let_behind : goal.decreases-matches::while_let_behind
decreases-matches::while_let_behind l = 16 * size (syn_of l.body.now) + 3

abbrev pub decreases-matches::check_while_let : goal.decreases-matches::check_while_let
decreases-matches::check_while_let l = 16 * (size (syn_of l.scrutinee.now) + size (syn_of l.body.now)) + 4

abbrev pub decreases-structs::init_value : goal.decreases-structs::init_value
decreases-structs::init_value l = 16 * size_if_any (maybe_of l.value) + 1

abbrev pub decreases-structs::numbered_init : goal.decreases-structs::numbered_init
decreases-structs::numbered_init l = 16 * form_size (init_of l.form) + 2

abbrev pub decreases-structs::init_of_node : goal.decreases-structs::init_of_node
decreases-structs::init_of_node l = 16 * size (syn_of l.node.now) + 1

abbrev pub decreases-structs::check_inits : goal.decreases-structs::check_inits
decreases-structs::check_inits l = 16 * sizes (nodes_of l.inits) + 7

abbrev pub decreases-structs::struct_row : goal.decreases-structs::struct_row
decreases-structs::struct_row l = 16 * sizes (nodes_of l.inits) + 8

abbrev pub decreases-structs::check_struct : goal.decreases-structs::check_struct
decreases-structs::check_struct l = 16 * sizes (nodes_of l.inits) + 9

abbrev pub decreases-closures::check_closure_body : goal.decreases-closures::check_closure_body
decreases-closures::check_closure_body l = 16 * size (syn_of l.block.now) + 1

abbrev pub decreases-closures::check_closure : goal.decreases-closures::check_closure
decreases-closures::check_closure l = 16 * size (syn_of l.block.now) + 2
