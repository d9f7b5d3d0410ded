-- What the test of a literal gives has the type `bool`, and stands in a cell of its own.
use Rattle.std.proofs.Common.{◌≡◌, refl, [], ◌∷◌, pos, arith}
use Rattle.std.specs.Prelude.{List, codes}
use Rattle.mir_base.specs.declared.int_kind.IntKind.{IntKind}
use Rattle.mir_base.specs.declared.trace.End.{End}
use Rattle.mir_base.specs.declared.trace.Event.TheVariants.{Call as call, Return as return, Printed as print}
use Rattle.mir_ty.specs.declared.ty.Ty.{Ty}
use Rattle.mir_ty.specs.ItemTable.{ItemTable}
use Rattle.typed_tree.specs.declared.node.Use.{Use}
use Rattle.typed_tree.specs.Tree.{no_node, absent, present, Number, Print, Block, Match, Arm, Wildcard, NumberPattern, BodyTree, ProgramTree, IsProgram}
use Rattle.src_meaning.specs.Locals.OfBody.{local_keys, local_tys}
use Rattle.src_meaning.specs.Programs.{source}
use Rattle.src_meaning.proofs.Examples.Words.{i32, unit, bool, n, used, nodes, body, scalars, head}

abbrev items_with : List Ty → ItemTable
items_with types = record {
  types = types;
  adts = [];
  traits = [];
  impls = [];
  closures = [];
  bodies = head (codes "main") [] unit ∷ [];
}

-- fn main() { match 1 { 1 => print(7), _ => {} } }
abbrev main : BodyTree
main = body 0 [] unit
    (n 0 unit (Block no_node (present (n 1 unit (Match (n 2 i32 (Number (pos 1))) (nodes (
    (n 3 unit (Arm (used 4 i32 Use.Test (NumberPattern (pos 1))) absent
    (n 5 unit (Print (n 6 i32 (Number (pos 7)))))))
    ∷ (n 7 unit (Arm (n 8 i32 Wildcard) absent (n 9 unit (Block no_node absent))))
    ∷ [])))))))

abbrev pub literal : ProgramTree
literal = record { items = items_with scalars; bodies = main ∷ [] }

is_a_program : IsProgram literal
is_a_program = record { has_bool = (2, omega arith, refl); has_unit = (1, omega arith, refl) }

a_literal_is_tested : source literal [] 100 ≡ (call 0 ∷ print (pos 7) ∷ return 0 ∷ [], End.Returned)
a_literal_is_tested = refl

-- Nothing but the literal's test needs `bool` here: without it among the types the test still has its cell.
without_bool : source (record { items = items_with (Ty.Int IntKind.I32 ∷ Ty.Unit ∷ []); bodies = main ∷ [] }) [] 100
    ≡ (call 0 ∷ print (pos 7) ∷ return 0 ∷ [], End.Returned)
without_bool = refl

-- the result, the scrutinee, the test of `1`, and the operand of `print`
the_locals : local_keys literal.items main ≡ 0 ∷ 2 ∷ 4 ∷ 6 ∷ []
the_locals = refl

their_types : local_tys literal.items main ≡ unit ∷ i32 ∷ bool ∷ i32 ∷ []
their_types = refl
