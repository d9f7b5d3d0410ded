-- Worked examples, by computation: in the bodies of accepted texts a checked run never complains, by whatever
-- choices, and comes to no refused use.
use Rattle.std.proofs.Common.{◌≡◌, ℕ, zero, suc, ◌&&◌, Bool, true, false, List, [], ◌∷◌, ◌++◌, length, refl}
use Rattle.std.specs.Prelude.{codes}
use Rattle.std.specs.List.{range_with_len}
use Rattle.mir_ty.specs.ItemTable.{ItemTable}
use Rattle.store_model.specs.Abstract.Effects.{AbstractState, at_start, abstract_effects}
use Rattle.store_model.specs.Effects.{Halt, Aborted, OutOfTicks, Stuck, StuckAt, BadUse, BadStore, NoChoice, Infeasible, Unreachable, Out, Go, Unwind, Halts}
use Rattle.src_meaning.specs.Locals.Effects.{at_locals}
use Rattle.src_meaning.specs.Locals.OfBody.{local_of, local_ty}
use Rattle.src_meaning.specs.Programs.{activation}
use Rattle.typed_tree.specs.Tree.{BodyTree, ProgramTree}
use Rattle.typing_rules.proofs.Accepted as texts
use Rattle.typing_rules.proofs.Words.{Outcome, Typed, outcome, lines}
use Rattle.soundness_values.proofs.Checked.{Checking, checked_effects}
use Rattle.soundness_values.proofs.CheckedBodies.{checks_of}
use Rattle.soundness_values.proofs.Facts.{Facts, no_facts}

module _ (items : ItemTable) (body : BodyTree) where
  abbrev run : List Bool → Out (Checking Facts)
  run list = activation items
      (at_locals (local_of items body)
      (checked_effects (checks_of items body) (abstract_effects items (local_ty items body))))
      (suc (length list)) body
      (record { free = at_start (range_with_len 1 (length body.params)) list; facts = no_facts; lost = false })

  -- with so many choices at most
  abbrev is_fine : ℕ → List Bool → Out (Checking Facts) → (List Bool → Bool) → Bool
  is_fine n list (Go v) rest = true
  is_fine n list (Unwind v) rest = true
  is_fine n list (Halts NoChoice v) rest = rest (list ++ false ∷ []) && rest (list ++ true ∷ [])
  is_fine n list (Halts Stuck v) rest = false
  is_fine n list (Halts (StuckAt b c) v) rest = false
  is_fine n list (Halts (BadUse site) v) rest = false
  is_fine n list (Halts (BadStore site) v) rest = false
  is_fine n list (Halts halt v) rest = true

  abbrev never_complains : ℕ → List Bool → Bool
  never_complains zero list = true
  never_complains (suc n) list = is_fine n list (run list) (never_complains n)

abbrev all_bodies : ℕ → ItemTable → List BodyTree → Bool
all_bodies n items [] = true
all_bodies n items (body ∷ bodies) = never_complains items body n [] && all_bodies n items bodies

abbrev program_fine : ℕ → Outcome → Bool
program_fine n (Typed p) = all_bodies n p.items p.bodies
program_fine n other = false

abbrev text_fine : ℕ → List ℕ → Bool
text_fine n text = program_fine n (outcome text)

empty_main_fine : text_fine 7 texts.empty_main ≡ true
empty_main_fine = refl

two_locals_fine : text_fine 7 texts.two_locals ≡ true
two_locals_fine = refl

break_in_operands_fine : text_fine 7 texts.break_in_operands ≡ true
break_in_operands_fine = refl

panic_in_operands_fine : text_fine 7 texts.panic_in_operands ≡ true
panic_in_operands_fine = refl

tail_fine : text_fine 7 texts.tail ≡ true
tail_fine = refl

params_fine : text_fine 7 texts.params ≡ true
params_fine = refl

let_parts_fine : text_fine 7 texts.let_parts ≡ true
let_parts_fine = refl

moved_if_fine : text_fine 7 texts.moved_if ≡ true
moved_if_fine = refl

assigned_again_fine : text_fine 7 texts.assigned_again ≡ true
assigned_again_fine = refl

part_of_a_box_fine : text_fine 7 texts.part_of_a_box ≡ true
part_of_a_box_fine = refl

struct_fields_fine : text_fine 7 texts.struct_fields ≡ true
struct_fields_fine = refl

trait_objects_fine : text_fine 7 texts.trait_objects ≡ true
trait_objects_fine = refl

guarded_match_fine : text_fine 7 texts.guarded_match ≡ true
guarded_match_fine = refl

part_of_self_fine : text_fine 7 texts.part_of_self ≡ true
part_of_self_fine = refl

job_queue_fine : text_fine 7 texts.job_queue ≡ true
job_queue_fine = refl

element_fine : text_fine 7 texts.element ≡ true
element_fine = refl

assigned_fine : text_fine 7 texts.assigned ≡ true
assigned_fine = refl

result_fine : text_fine 7 texts.result ≡ true
result_fine = refl

closure_fine : text_fine 7 texts.closure ≡ true
closure_fine = refl

forgotten_fine : text_fine 7 texts.forgotten ≡ true
forgotten_fine = refl

sum_fine : text_fine 7 texts.sum_ ≡ true
sum_fine = refl

soak_fine : text_fine 7 texts.soak ≡ true
soak_fine = refl

calls_itself_fine : text_fine 7 texts.calls_itself ≡ true
calls_itself_fine = refl

references_fine : text_fine 7 texts.references ≡ true
references_fine = refl

methods_fine : text_fine 7 texts.methods ≡ true
methods_fine = refl

loops_fine : text_fine 7 texts.loops ≡ true
loops_fine = refl

patterns_fine : text_fine 7 texts.patterns ≡ true
patterns_fine = refl

hiding_fine : text_fine 7 texts.hiding ≡ true
hiding_fine = refl

literals_fine : text_fine 7 texts.literals ≡ true
literals_fine = refl

never_fine : text_fine 7 texts.never ≡ true
never_fine = refl

nested_closures_fine : text_fine 7 texts.nested_closures ≡ true
nested_closures_fine = refl

abbrev elements_in_loops : List ℕ
elements_in_loops = lines (
    codes "fn main() { let mut a = [1, 2, 3]; let mut i: usize = 0;" ∷
    codes "while i < 3 { a[i] = a[i] + 1; i = i + 1; } print(a[0]); }" ∷
    [])

elements_in_loops_fine : text_fine 6 elements_in_loops ≡ true
elements_in_loops_fine = refl

abbrev element_with_drop : List ℕ
element_with_drop = lines (
    codes "struct D(i32);" ∷
    codes "impl Drop for D { fn drop(&mut self) {} }" ∷
    codes "fn main() { let mut a = [D(1), D(2)]; let i: usize = 1; a[i] = D(3); }" ∷
    [])

element_with_drop_fine : text_fine 6 element_with_drop ≡ true
element_with_drop_fine = refl

abbrev behind_unique : List ℕ
behind_unique = lines (
    codes "struct D(i32);" ∷
    codes "impl Drop for D { fn drop(&mut self) {} }" ∷
    codes "fn set(r: &mut D) { *r = D(2); }" ∷
    codes "fn pass(r: &mut D) { set(r); r.0 = 5; }" ∷
    codes "fn main() { let mut d = D(1); pass(&mut d); print(d.0); }" ∷
    [])

behind_unique_fine : text_fine 6 behind_unique ≡ true
behind_unique_fine = refl

abbrev variants_in_guards : List ℕ
variants_in_guards = lines (
    codes "enum E { A(i32), B(i32, i32) }" ∷
    codes "fn odd(n: i32) -> bool { n % 2 == 1 }" ∷
    codes "fn main() { let mut k = 0; let e = E::B(3, 4);" ∷
    codes "match e { E::A(n) if odd(n) => { print(n); }" ∷
    codes "E::B(n, m) if { k = k + 1; n < m } => { print(m); } _ => { print(k); } } }" ∷
    [])

variants_in_guards_fine : text_fine 6 variants_in_guards ≡ true
variants_in_guards_fine = refl

abbrev boxes_in_variants : List ℕ
boxes_in_variants = lines (
    codes "enum L { Nil, Cons(i32, Box<L>) }" ∷
    codes "fn sum(l: L) -> i32 { match l { L::Nil => { 0 } L::Cons(n, rest) => { n + sum(*rest) } } }" ∷
    codes "fn main() { print(sum(L::Cons(1, Box::new(L::Nil)))); }" ∷
    [])

boxes_in_variants_fine : text_fine 6 boxes_in_variants ≡ true
boxes_in_variants_fine = refl

abbrev parts_of_self : List ℕ
parts_of_self = lines (
    codes "struct D(i32);" ∷
    codes "impl Drop for D { fn drop(&mut self) {} }" ∷
    codes "struct P { d: D, n: i32 }" ∷
    codes "impl Drop for P { fn drop(&mut self) { self.d = D(9); self.n = 1; } }" ∷
    codes "fn main() { let p = P { d: D(1), n: 2 }; }" ∷
    [])

parts_of_self_fine : text_fine 6 parts_of_self ≡ true
parts_of_self_fine = refl

abbrev objects_in_boxes : List ℕ
objects_in_boxes = lines (
    codes "trait T { fn n(&self) -> i32; }" ∷
    codes "struct S(i32);" ∷
    codes "impl T for S { fn n(&self) -> i32 { self.0 } }" ∷
    codes "fn main() { let b: Box<dyn T> = Box::new(S(3)); print(b.n()); }" ∷
    [])

objects_in_boxes_fine : text_fine 6 objects_in_boxes ≡ true
objects_in_boxes_fine = refl

abbrev shared_twice : List ℕ
shared_twice = lines (
    codes "fn add(a: &i32, b: &i32) -> i32 { *a + *b }" ∷
    codes "fn main() { let x = (1, 2); print(add(&x.0, &x.0)); print(add(&7, &x.1)); }" ∷
    [])

shared_twice_fine : text_fine 6 shared_twice ≡ true
shared_twice_fine = refl

abbrev while_some : List ℕ
while_some = lines (
    codes "enum O { N, S(i32) }" ∷
    codes "fn next(n: i32) -> O { if n < 2 { O::S(n) } else { O::N } }" ∷
    codes "fn main() { let mut n = 0; while let O::S(k) = next(n) { n = k + 1; } }" ∷
    [])

while_some_fine : text_fine 6 while_some ≡ true
while_some_fine = refl

abbrev element_of_reference : List ℕ
element_of_reference = lines (
    codes "fn at(a: &[i32; 3], i: usize) -> i32 { (*a)[i] }" ∷
    codes "fn set(a: &mut [i32; 3], i: usize) { (*a)[i] = 4; }" ∷
    codes "fn main() { let mut a = [1, 2, 3]; set(&mut a, 1); print(at(&a, 1)); }" ∷
    [])

element_of_reference_fine : text_fine 6 element_of_reference ≡ true
element_of_reference_fine = refl
