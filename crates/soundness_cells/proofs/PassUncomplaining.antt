-- No checked run of accepted texts complains, by whatever choices up to a depth, by computation: what `Owing` asks of
-- the pass over the forms, in worked texts of each form.
use Rattle.std.proofs.Common.{◌≡◌, ℕ, zero, suc, Bool, true, false, List, [], ◌∷◌, ◌++◌, length, refl}
use Rattle.std.specs.Prelude.{codes}
use Rattle.std.specs.List.{range_with_len}
use Rattle.mir_ty.specs.ItemTable.{ItemTable}
use Rattle.store_model.specs.Abstract.Effects.{at_start, abstract_effects}
use Rattle.store_model.specs.Effects.{Stuck, StuckAt, BadUse, BadStore, NoChoice, Out, Halts}
use Rattle.src_meaning.specs.Locals.Effects.{at_locals}
use Rattle.src_meaning.specs.Locals.OfBody.{local_of, local_ty}
use Rattle.src_meaning.specs.Programs.{activation}
use Rattle.typed_tree.specs.Tree.{BodyTree}
use Rattle.typing_rules.proofs.Words.{lines, outcome, Outcome, Typed}
use Rattle.typing_rules.proofs.Accepted as texts
use Rattle.soundness_values.proofs.Checked.{Checking, checked_effects}
use Rattle.soundness_values.proofs.CheckedBodies.{checks_of}
use Rattle.soundness_values.proofs.Facts.{Facts, no_facts}

abbrev plain : ItemTable → BodyTree → List Bool → Out (Checking Facts)
plain items body list = activation items
    (at_locals (local_of items body) (checked_effects (checks_of items body)
    (abstract_effects items (local_ty items body))))
    (suc (length list)) body
    (record { free = at_start (range_with_len 1 (length body.params)) list; facts = no_facts; lost = false })

abbrev of_run : List Bool → Out (Checking Facts) → (List Bool → List (ℕ × List Bool)) → List (ℕ × List Bool)
of_run list (Halts NoChoice v) rest = rest (list ++ false ∷ []) ++ rest (list ++ true ∷ [])
of_run list (Halts Stuck v) rest = (0, list) ∷ []
of_run list (Halts (StuckAt b c) v) rest = (1, list) ∷ []
of_run list (Halts (BadUse site) v) rest = (100, list) ∷ []
of_run list (Halts (BadStore site) v) rest = (101, list) ∷ []
of_run list o rest = []

abbrev complaints : ItemTable → BodyTree → ℕ → List Bool → List (ℕ × List Bool)
complaints items body zero list = []
complaints items body (suc n) list = of_run list (plain items body list) (complaints items body n)

abbrev in_all : ℕ → ItemTable → List BodyTree → List (ℕ × List Bool)
in_all n items [] = []
in_all n items (body ∷ bodies) = complaints items body n [] ++ in_all n items bodies

abbrev in_program : ℕ → Outcome → List (ℕ × List Bool)
in_program n (Typed p) = in_all n p.items p.bodies
in_program n other = (200, []) ∷ []

abbrev pub no_complaint : List ℕ → Type 0
no_complaint text = in_program 5 (outcome text) ≡ []

tail_checked : no_complaint texts.tail
tail_checked = refl

params_checked : no_complaint texts.params
params_checked = refl

let_parts_checked : no_complaint texts.let_parts
let_parts_checked = refl

part_of_a_box_checked : no_complaint texts.part_of_a_box
part_of_a_box_checked = refl

struct_fields_checked : no_complaint texts.struct_fields
struct_fields_checked = refl

trait_objects_checked : no_complaint texts.trait_objects
trait_objects_checked = refl

part_of_self_checked : no_complaint texts.part_of_self
part_of_self_checked = refl

assigned_checked : no_complaint texts.assigned
assigned_checked = refl

result_checked : no_complaint texts.result
result_checked = refl

closure_checked : no_complaint texts.closure
closure_checked = refl

forgotten_checked : no_complaint texts.forgotten
forgotten_checked = refl

sum__checked : no_complaint texts.sum_
sum__checked = refl

calls_itself_checked : no_complaint texts.calls_itself
calls_itself_checked = refl

references_checked : no_complaint texts.references
references_checked = refl

methods_checked : no_complaint texts.methods
methods_checked = refl

patterns_checked : no_complaint texts.patterns
patterns_checked = refl

hiding_checked : no_complaint texts.hiding
hiding_checked = refl

literals_checked : no_complaint texts.literals
literals_checked = refl

nested_closures_checked : no_complaint texts.nested_closures
nested_closures_checked = refl

abbrev one_variant_text : List ℕ
one_variant_text = lines (
    codes "enum E { A(i32) }" ∷
    codes "fn main() { let e = E::A(1); match e { E::A(x) => print(x) } }" ∷
    [])

one_variant_checked : no_complaint one_variant_text
one_variant_checked = refl

abbrev one_variant_let_text : List ℕ
one_variant_let_text = lines (
    codes "enum E { A(i32, i32) }" ∷
    codes "fn main() { let e = E::A(1, 2); let E::A(x, y) = e; print(x); }" ∷
    [])

one_variant_let_checked : no_complaint one_variant_let_text
one_variant_let_checked = refl

abbrev let_unit_text : List ℕ
let_unit_text = lines (
    codes "fn main() { let x: i32; x = 3; print(x); }" ∷
    [])

let_unit_checked : no_complaint let_unit_text
let_unit_checked = refl

abbrev let_drop_text : List ℕ
let_drop_text = lines (
    codes "struct D(i32);" ∷
    codes "impl Drop for D { fn drop(&mut self) {} }" ∷
    codes "fn main() { let x: D; if ask() == 0 { x = D(1); } }" ∷
    [])

let_drop_checked : no_complaint let_drop_text
let_drop_checked = refl

abbrev box_assign_text : List ℕ
box_assign_text = lines (
    codes "struct D(i32);" ∷
    codes "impl Drop for D { fn drop(&mut self) {} }" ∷
    codes "fn main() { let mut b = Box::new(D(1)); *b = D(2); }" ∷
    [])

box_assign_checked : no_complaint box_assign_text
box_assign_checked = refl

abbrev box_move_text : List ℕ
box_move_text = lines (
    codes "struct D(i32);" ∷
    codes "impl Drop for D { fn drop(&mut self) {} }" ∷
    codes "fn main() { let b = Box::new(D(1)); let d = *b; }" ∷
    [])

box_move_checked : no_complaint box_move_text
box_move_checked = refl

abbrev box_refill_text : List ℕ
box_refill_text = lines (
    codes "struct D(i32);" ∷
    codes "impl Drop for D { fn drop(&mut self) {} }" ∷
    codes "fn main() { let mut b = Box::new(D(1)); let d = *b; *b = D(3); }" ∷
    [])

box_refill_checked : no_complaint box_refill_text
box_refill_checked = refl

abbrev field_refill_text : List ℕ
field_refill_text = lines (
    codes "struct D(i32);" ∷
    codes "impl Drop for D { fn drop(&mut self) {} }" ∷
    codes "struct S { a: D, b: D }" ∷
    codes "fn main() { let mut s = S { a: D(1), b: D(2) }; let d = s.a; s.a = D(3); }" ∷
    [])

field_refill_checked : no_complaint field_refill_text
field_refill_checked = refl

abbrev array_assign_text : List ℕ
array_assign_text = lines (
    codes "struct D(i32);" ∷
    codes "impl Drop for D { fn drop(&mut self) {} }" ∷
    codes "fn main() { let mut a = [D(1), D(2)]; let i: usize = 1; a[i] = D(3); }" ∷
    [])

array_assign_checked : no_complaint array_assign_text
array_assign_checked = refl

abbrev array_two_text : List ℕ
array_two_text = lines (
    codes "fn main() { let mut a = [[1, 2], [3, 4]]; let i: usize = 1; a[i][i] = a[0][i]; print(a[i][i]); }" ∷
    [])

array_two_checked : no_complaint array_two_text
array_two_checked = refl

abbrev enum_nested_text : List ℕ
enum_nested_text = lines (
    codes "enum O { N, S(i32) }" ∷
    codes "fn main() { let o = (O::S(1), O::S(2)); match o { (O::S(a), O::S(b)) => print(a), _ => {} } }" ∷
    [])

enum_nested_checked : no_complaint enum_nested_text
enum_nested_checked = refl

abbrev enum_or_text : List ℕ
enum_or_text = lines (
    codes "enum O { A(i32), B(i32), C }" ∷
    codes "fn main() { let o = O::A(1); match o { O::C | O::B(_) => print(1), O::A(x) => print(x) } }" ∷
    [])

enum_or_checked : no_complaint enum_or_text
enum_or_checked = refl

abbrev if_let_text : List ℕ
if_let_text = lines (
    codes "enum O { N, S(i32) }" ∷
    codes "fn f(o: &mut O) { if let O::S(x) = *o { print(3); } }" ∷
    codes "fn main() { let mut o = O::S(1); f(&mut o); }" ∷
    [])

if_let_checked : no_complaint if_let_text
if_let_checked = refl

abbrev while_let_text : List ℕ
while_let_text = lines (
    codes "enum O { N, S(i32) }" ∷
    codes "fn main() { let mut o = O::S(1); while let O::S(x) = o { o = O::N; } }" ∷
    [])

while_let_checked : no_complaint while_let_text
while_let_checked = refl

abbrev guard_moves_text : List ℕ
guard_moves_text = lines (
    codes "struct D(i32);" ∷
    codes "impl Drop for D { fn drop(&mut self) {} }" ∷
    codes "enum O { N, S(D) }" ∷
    codes "fn t(d: &D) -> bool { true }" ∷
    codes "fn main() { let o = O::S(D(1)); match o { O::S(d) if t(&d) => {}, O::S(e) => {}, _ => {} } }" ∷
    [])

guard_moves_checked : no_complaint guard_moves_text
guard_moves_checked = refl

abbrev by_ref_text : List ℕ
by_ref_text = lines (
    codes "struct D(i32);" ∷
    codes "fn s(d: &mut D, n: i32) { d.0 = n; }" ∷
    codes "fn main() { let mut d = D(1); let e = D(2); s(&mut d, e.0); s(&mut d, 4); print(d.0); }" ∷
    [])

by_ref_checked : no_complaint by_ref_text
by_ref_checked = refl

abbrev and_or_text : List ℕ
and_or_text = lines (
    codes "fn main() { let mut x = true; x = x && ask() == 1 || false; if x { print(1); } }" ∷
    [])

and_or_checked : no_complaint and_or_text
and_or_checked = refl

abbrev assign_value_moves_text : List ℕ
assign_value_moves_text = lines (
    codes "struct D(i32);" ∷
    codes "impl Drop for D { fn drop(&mut self) {} }" ∷
    codes "fn f(d: D) -> D { d }" ∷
    codes "fn main() { let mut d = D(1); d = f(d); }" ∷
    [])

assign_value_moves_checked : no_complaint assign_value_moves_text
assign_value_moves_checked = refl

abbrev assign_self_part_text : List ℕ
assign_self_part_text = lines (
    codes "struct D(i32);" ∷
    codes "impl Drop for D { fn drop(&mut self) {} }" ∷
    codes "struct P { a: D, b: D }" ∷
    codes "fn main() { let mut p = P { a: D(1), b: D(2) }; p.a = p.b; }" ∷
    [])

assign_self_part_checked : no_complaint assign_self_part_text
assign_self_part_checked = refl

abbrev deref_mut_text : List ℕ
deref_mut_text = lines (
    codes "struct D(i32);" ∷
    codes "impl Drop for D { fn drop(&mut self) {} }" ∷
    codes "fn f(d: &mut D) { *d = D(4); }" ∷
    codes "fn main() { let mut d = D(1); f(&mut d); }" ∷
    [])

deref_mut_checked : no_complaint deref_mut_text
deref_mut_checked = refl

abbrev reborrow_text : List ℕ
reborrow_text = lines (
    codes "struct D(i32);" ∷
    codes "impl Drop for D { fn drop(&mut self) {} }" ∷
    codes "fn g(d: &mut D) { d.0 = 1; }" ∷
    codes "fn f(d: &mut D) { g(d); g(d); }" ∷
    codes "fn main() { let mut d = D(1); f(&mut d); }" ∷
    [])

reborrow_checked : no_complaint reborrow_text
reborrow_checked = refl

abbrev zero_array_text : List ℕ
zero_array_text = lines (
    codes "struct D(i32);" ∷
    codes "impl Drop for D { fn drop(&mut self) {} }" ∷
    codes "fn main() { let a = [(D(1), 2)]; let [(d, n)] = a; }" ∷
    [])

zero_array_checked : no_complaint zero_array_text
zero_array_checked = refl

abbrev never_let_text : List ℕ
never_let_text = lines (
    codes "fn main() { let x: i32 = loop {}; print(x); }" ∷
    [])

never_let_checked : no_complaint never_let_text
never_let_checked = refl

abbrev never_arg_text : List ℕ
never_arg_text = lines (
    codes "fn f(a: &i32, b: i32) {}" ∷
    codes "fn main() { let x = 1; f(&x, return); }" ∷
    [])

never_arg_checked : no_complaint never_arg_text
never_arg_checked = refl

abbrev unused_place_text : List ℕ
unused_place_text = lines (
    codes "struct D(i32);" ∷
    codes "impl Drop for D { fn drop(&mut self) {} }" ∷
    codes "fn main() { let d = (D(1), D(2)); let _ = d; let (a, _) = d; }" ∷
    [])

unused_place_checked : no_complaint unused_place_text
unused_place_checked = refl

two_locals_checked : no_complaint texts.two_locals
two_locals_checked = refl

break_in_operands_checked : no_complaint texts.break_in_operands
break_in_operands_checked = refl

panic_in_operands_checked : no_complaint texts.panic_in_operands
panic_in_operands_checked = refl

moved_if_checked : no_complaint texts.moved_if
moved_if_checked = refl

assigned_again_checked : no_complaint texts.assigned_again
assigned_again_checked = refl

guarded_match_checked : no_complaint texts.guarded_match
guarded_match_checked = refl

element_checked : no_complaint texts.element
element_checked = refl

loops_checked : no_complaint texts.loops
loops_checked = refl

never_checked : no_complaint texts.never
never_checked = refl

job_queue_checked : no_complaint texts.job_queue
job_queue_checked = refl

soak_checked : no_complaint texts.soak
soak_checked = refl
