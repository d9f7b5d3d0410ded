use Rattle.std.proofs.Common.{◌≡◌, ◌≤◌, ◌+◌, ◌*◌, drop, map, reverse}
use Rattle.std.specs.Option.{option_map}
use Rattle.typeck_checker.specs.Lists.{below_all}
use Rattle.mir_ty.specs.declared.adt.Variant.{Variant}
use Rattle.typeck_patterns.specs.PatternContext.{pattern_context_of}
use Rattle.typeck_patterns.specs.Fields.{below_given}
use Rattle.typeck_patterns.specs.Members.{part_of, parts_named}
use Rattle.src_ast.specs.Seen.{maybe_of, nodes_of, syn_of}
use Rattle.typeck_checker.specs.Stand.{Stays, env, stack, state}
use Rattle.typing_rules.specs.Patterns as rules
use Rattle.typeck_patterns.specs.Sizes.{maybe_size, size, sizes}
use Rattle.typeck_patterns.proofs.PartLists.{behind, fields_behind}
use Rattle.typeck_patterns.proofs.patterns.+patterns.Given as goal

abbrev pub invariant-part_patterns-loop-ty : goal.invariant-part_patterns-loop-ty
invariant-part_patterns-loop-ty l =
    record {
      gives : rules.part_patterns (env l.initial.checker) (pattern_context_of l.e) l.types (nodes_of l.initial.rest) (reverse l.initial.bound) (state l.initial.checker)
          ≡ behind l.count (stack l.checker) (rules.part_patterns (env l.initial.checker) (pattern_context_of l.e) (drop l.ty-index l.types) (nodes_of l.rest) (reverse l.bound) (state l.checker));
      under : below_all l.count (stack l.checker) ≡ stack l.initial.checker;
      place : Stays l.initial.checker l.checker;
      smaller : sizes (nodes_of l.rest) ≤ sizes (nodes_of l.initial.rest);
    }

abbrev pub invariant-each_pattern-loop-split : goal.invariant-each_pattern-loop-split
invariant-each_pattern-loop-split l =
    record {
      gives : rules.each_pattern (env l.initial.checker) (pattern_context_of l.e) l.ty (nodes_of l.initial.rest) (reverse l.initial.bound) (state l.initial.checker)
          ≡ behind l.count (stack l.checker) (rules.each_pattern (env l.initial.checker) (pattern_context_of l.e) l.ty (nodes_of l.rest) (reverse l.bound) (state l.checker));
      under : below_all l.count (stack l.checker) ≡ stack l.initial.checker;
      place : Stays l.initial.checker l.checker;
      smaller : sizes (nodes_of l.rest) ≤ sizes (nodes_of l.initial.rest);
    }

abbrev pub invariant-field_patterns-loop-part : goal.invariant-field_patterns-loop-part
invariant-field_patterns-loop-part l =
    record {
      gives : (v : Variant) → map (option_map part_of) l.parts ≡ parts_named v (nodes_of l.initial.rest) →
          (rules.field_patterns (env l.initial.checker) (pattern_context_of l.e) v (nodes_of l.initial.rest) (reverse l.initial.bound) (state l.initial.checker)
          ≡ fields_behind l.given (stack l.checker) (rules.field_patterns (env l.initial.checker) (pattern_context_of l.e) v (nodes_of l.rest) (reverse l.bound) (state l.checker)))
          × (map (option_map part_of) (drop l.part-index l.parts) ≡ parts_named v (nodes_of l.rest));
      under : below_given l.given (stack l.checker) ≡ stack l.initial.checker;
      place : Stays l.initial.checker l.checker;
      smaller : sizes (nodes_of l.rest) ≤ sizes (nodes_of l.initial.rest);
    }

abbrev pub decreases-each_pattern-loop-split : goal.decreases-each_pattern-loop-split
decreases-each_pattern-loop-split l = sizes (nodes_of l.rest)

abbrev pub decreases-pattern : goal.decreases-pattern
decreases-pattern l = 8 * size (syn_of l.node.now)

abbrev pub decreases-part_patterns : goal.decreases-part_patterns
decreases-part_patterns l = 8 * sizes (nodes_of l.parts) + 1

abbrev pub decreases-each_pattern : goal.decreases-each_pattern
decreases-each_pattern l = 8 * sizes (nodes_of l.patterns) + 1

abbrev pub decreases-inside_field : goal.decreases-inside_field
decreases-inside_field l = 8 * maybe_size (maybe_of l.inside) + 1

abbrev pub decreases-known_field : goal.decreases-known_field
decreases-known_field l = 8 * maybe_size (maybe_of l.inside) + 3

abbrev pub decreases-field_pattern : goal.decreases-field_pattern
decreases-field_pattern l = 8 * size (syn_of l.node.now)

abbrev pub decreases-field_patterns : goal.decreases-field_patterns
decreases-field_patterns l = 8 * sizes (nodes_of l.fields) + 1

abbrev pub decreases-in_order : goal.decreases-in_order
decreases-in_order l = 8 * sizes (nodes_of l.parts) + 3

abbrev pub decreases-tuple_pattern : goal.decreases-tuple_pattern
decreases-tuple_pattern l = 8 * sizes (nodes_of l.parts) + 7

abbrev pub decreases-elements_pattern : goal.decreases-elements_pattern
decreases-elements_pattern l = 8 * sizes (nodes_of l.elements) + 5

abbrev pub decreases-array_pattern : goal.decreases-array_pattern
decreases-array_pattern l = 8 * sizes (nodes_of l.elements) + 7

abbrev pub decreases-alternatives : goal.decreases-alternatives
decreases-alternatives l = 8 * sizes (nodes_of l.patterns) + 4

abbrev pub decreases-or_pattern : goal.decreases-or_pattern
decreases-or_pattern l = 8 * sizes (nodes_of l.patterns) + 7

abbrev pub decreases-ordered_parts : goal.decreases-ordered_parts
decreases-ordered_parts l = 8 * sizes (nodes_of l.parts) + 4

abbrev pub decreases-parts_behind : goal.decreases-parts_behind
decreases-parts_behind l = 8 * sizes (nodes_of l.parts) + 5

abbrev pub decreases-parts_of_target : goal.decreases-parts_of_target
decreases-parts_of_target l = 8 * sizes (nodes_of l.parts) + 6

abbrev pub decreases-parts_pattern : goal.decreases-parts_pattern
decreases-parts_pattern l = 8 * sizes (nodes_of l.parts) + 7

abbrev pub decreases-named_parts : goal.decreases-named_parts
decreases-named_parts l = 8 * sizes (nodes_of l.fields) + 5

abbrev pub decreases-fields_of_target : goal.decreases-fields_of_target
decreases-fields_of_target l = 8 * sizes (nodes_of l.fields) + 6

abbrev pub decreases-fields_pattern : goal.decreases-fields_pattern
decreases-fields_pattern l = 8 * sizes (nodes_of l.fields) + 7

abbrev pub decreases-first_patterns : goal.decreases-first_patterns
decreases-first_patterns l = 8 * sizes (nodes_of l.parts) + 2
