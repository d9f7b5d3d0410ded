use Rattle.typing_rules.proofs.Sound.OneName.{one_pattern_sound}
use Rattle.typing_rules.proofs.Sound.Written.{written_sound}
use Rattle.typing_rules.proofs.Sound.Lets.{let_sound, in_parts_sound}
use Rattle.typing_rules.proofs.Sound.Structs.{struct_sound}
use Rattle.typing_rules.proofs.Sound.AllPatterns.{matcher_sound}
use Rattle.typing_rules.proofs.Sound.Literals.{literal_sound}
use Rattle.typing_rules.proofs.Sound.Matching.{if_let_alone_sound, if_let_else_sound, while_let_sound, arm_sound, match_sound}
use Rattle.typing_rules.proofs.Sound.Methods.{methods_found, method_sound, closure_call_sound}
use Rattle.typing_rules.proofs.Sound.Named.{ask_sound, function_sound, constructor_sound, unit_struct_sound}
use Rattle.typing_rules.proofs.Sound.Arguments.{element_sound, store_sound, argument_sound}
use Rattle.typing_rules.proofs.Sound.Blocks.{block_sound, evaluate_sound}
use Rattle.typing_rules.proofs.Sound.Branches.{if_alone_sound, if_else_sound}
use Rattle.typing_rules.proofs.Sound.Calls.{truth_sound, unit_sound, panic_sound, print_sound, drop_sound, forget_sound}
use Rattle.typing_rules.proofs.Sound.Constructors.{new_box_sound, tuple_sound, array_sound}
use Rattle.typing_rules.proofs.Sound.Interned.{interned_sound}
use Rattle.typing_rules.proofs.Sound.Jumps.{continue_sound, return_sound, break_sound, while_sound}
use Rattle.typing_rules.proofs.Sound.Operators.{not_sound, negate_sound, arithmetic_sound, comparison_sound, and_sound, or_sound}
use Rattle.typing_rules.proofs.Sound.Parts.{field_sound, struct_member, part_member}
use Rattle.typing_rules.proofs.Sound.Places.{variable_sound, deref_sound, taken_sound}
use Rattle.typing_rules.proofs.Sound.References.{borrow_sound, passed_on_sound}
use Rattle.typing_rules.specs.Places.{struct_field, numbered_part}
use Rattle.typing_rules.proofs.law.law_of_rows.Goals as goal

pub returns-clause-types : goal.returns-clause-types
returns-clause-types c = interned_sound

pub returns-clause-leaves : goal.returns-clause-leaves
returns-clause-leaves c = record {
  truth = truth_sound;
  unit_value = unit_sound;
  number = literal_sound;
  panic =
      panic_sound;
}

pub returns-clause-operators : goal.returns-clause-operators
returns-clause-operators c =
    record {
      negation = not_sound;
      minus = negate_sound;
      calculation = arithmetic_sound;
      compared = comparison_sound;
      and_also = and_sound;
      or_else = or_sound;
      assignment = store_sound;
    }

pub returns-clause-places : goal.returns-clause-places
returns-clause-places c =
    record {
      variable = variable_sound;
      named_field = λ env at name base good s k. field_sound env at (struct_field name) (struct_member name) base good
          s k;
      numbered_field = λ env at n base good s k. field_sound env at (numbered_part n) (part_member n) base good s k;
      dereferenced = deref_sound;
      indexed = element_sound;
      is_taken = taken_sound;
    }

pub returns-clause-arguments : goal.returns-clause-arguments
returns-clause-arguments c =
    record { by_borrow = borrow_sound; by_passing_on = passed_on_sound; either = argument_sound }

pub returns-clause-built_ins : goal.returns-clause-built_ins
returns-clause-built_ins c =
    record {
      print = print_sound;
      ask = ask_sound;
      drop_value = drop_sound;
      forget = forget_sound;
      boxed =
          new_box_sound;
    }

pub returns-clause-aggregates : goal.returns-clause-aggregates
returns-clause-aggregates c = record { tuples = tuple_sound; structs = struct_sound; arrays = array_sound }

pub returns-clause-branches : goal.returns-clause-branches
returns-clause-branches c = record { alone = if_alone_sound; with_else = if_else_sound; while_loop = while_sound }

pub returns-clause-jumps : goal.returns-clause-jumps
returns-clause-jumps c = record { breaking = break_sound; continuing = continue_sound; returning = return_sound }

pub returns-clause-blocks : goal.returns-clause-blocks
returns-clause-blocks c = record {
  evaluated = evaluate_sound;
  declared = let_sound;
  in_parts = in_parts_sound;
  braces
      = block_sound;
}

pub returns-clause-patterns : goal.returns-clause-patterns
returns-clause-patterns c = record { well_typed = matcher_sound; one_name = one_pattern_sound }

pub returns-clause-written : goal.returns-clause-written
returns-clause-written c = written_sound

pub returns-clause-matches : goal.returns-clause-matches
returns-clause-matches c =
    record {
      if_let = if_let_alone_sound;
      if_let_or_else = if_let_else_sound;
      while_let = while_let_sound;
      arms = arm_sound;
      matches = match_sound;
    }

pub returns-clause-calls : goal.returns-clause-calls
returns-clause-calls c =
    record {
      function = function_sound;
      method = method_sound;
      methods = methods_found;
      closure = closure_call_sound;
      constructor = constructor_sound;
      unit_struct = unit_struct_sound;
    }
