-- Worked examples, by computation, of the statement that all laws ask of the pass: in the bodies of accepted texts a
-- checked run with the tests of protected parameters never complains; where it returns its result is whole and its other
-- locals are clear, and where it panics all are. And texts that it has to refuse.
use Rattle.std.proofs.Common.{◌≡◌, ℕ, zero, suc, ◌&&◌, ◌||◌, not, Bool, true, false, List, [], ◌∷◌, ◌++◌, length, refl}
use Rattle.std.specs.Prelude.{codes}
use Rattle.std.specs.List.{range_with_len, list_all}
use Rattle.std.specs.Option.{option_map_or}
use Rattle.mir_ty.specs.Facts.{needs_drop}
use Rattle.mir_ty.specs.ItemTable.{ItemTable}
use Rattle.store_model.specs.Abstract.Effects.{presence, at_start, abstract_effects}
use Rattle.store_model.specs.Abstract.Presence.{all_present, itself_gone}
use Rattle.store_model.specs.Effects.{Stuck, StuckAt, BadUse, BadStore, NoChoice, Out, Go, Unwind, Halts}
use Rattle.src_meaning.specs.Locals.Effects.{at_locals}
use Rattle.src_meaning.specs.Locals.OfBody.{local_of, local_ty, local_tys}
use Rattle.src_meaning.specs.Programs.{activation}
use Rattle.typed_tree.specs.Tree.{BodyTree, ProgramTree}
use Rattle.typing_rules.proofs.Accepted as texts
use Rattle.typing_rules.proofs.Words.{Outcome, Typed, outcome, lines}
use Rattle.soundness_values.proofs.AlsoTests.{Also, checks_also}
use Rattle.soundness_values.proofs.Checked.{Checking, checked_effects}
use Rattle.soundness_values.proofs.CheckedBodies.{checks_of}
use Rattle.soundness_values.proofs.Checks.{is_none}
use Rattle.soundness_values.proofs.Facts.{Facts, no_facts}
use Rattle.soundness_values.proofs.OnceByPass.{protected}
use Rattle.soundness_values.proofs.ProtectTests.{protect_tests}

module _ (items : ItemTable) (also : Also) (body : BodyTree) where
  abbrev run : List Bool → Out (Checking Facts)
  run list = activation items
      (at_locals (local_of items body)
      (checked_effects (checks_also also (checks_of items body)) (abstract_effects items (local_ty items body))))
      (suc (length list)) body
      (record { free = at_start (range_with_len 1 (length body.params)) list; facts = no_facts; lost = false })

  abbrev is_clear : Checking Facts → ℕ → Bool
  is_clear v local = itself_gone (presence local v.free.cells)
      || not (option_map_or (needs_drop items) (local_ty items body local) false)

  abbrev all_clear : ℕ → Checking Facts → Bool
  all_clear from v = is_none v.facts.refilled
      && list_all (is_clear v) (range_with_len from (length (local_tys items body)))

  -- with so many choices at most
  abbrev is_fine : ℕ → List Bool → Out (Checking Facts) → (List Bool → Bool) → Bool
  is_fine n list (Go v) rest = all_present (presence 0 v.free.cells) && all_clear 1 v
  is_fine n list (Unwind v) rest = all_clear 0 v
  is_fine n list (Halts NoChoice v) rest = rest (list ++ false ∷ []) && rest (list ++ true ∷ [])
  is_fine n list (Halts Stuck v) rest = false
  is_fine n list (Halts (StuckAt b c) v) rest = false
  is_fine n list (Halts (BadUse site) v) rest = false
  is_fine n list (Halts (BadStore site) v) rest = false
  is_fine n list (Halts halt v) rest = true

  abbrev shows_all : ℕ → List Bool → Bool
  shows_all zero list = true
  shows_all (suc n) list = is_fine n list (run list) (shows_all n)

abbrev bodies_from : ℕ → ItemTable → (ℕ → Also) → ℕ → List BodyTree → Bool
bodies_from n items also k [] = true
bodies_from n items also k (body ∷ bodies) =
    shows_all items (also k) body n [] && bodies_from n items also (suc k) bodies

abbrev program_shows : ℕ → (ProgramTree → ℕ → ℕ → Bool) → Outcome → Bool
program_shows n protects (Typed p) = bodies_from n p.items (protect_tests p.items (protects p)) 0 p.bodies
program_shows n protects other = false

abbrev text_shows : ℕ → List ℕ → Bool
text_shows n text = program_shows n protected (outcome text)

empty_main_shows : text_shows 6 texts.empty_main ≡ true
empty_main_shows = refl

two_locals_shows : text_shows 6 texts.two_locals ≡ true
two_locals_shows = refl

break_in_operands_shows : text_shows 6 texts.break_in_operands ≡ true
break_in_operands_shows = refl

panic_in_operands_shows : text_shows 6 texts.panic_in_operands ≡ true
panic_in_operands_shows = refl

tail_shows : text_shows 6 texts.tail ≡ true
tail_shows = refl

params_shows : text_shows 6 texts.params ≡ true
params_shows = refl

let_parts_shows : text_shows 6 texts.let_parts ≡ true
let_parts_shows = refl

moved_if_shows : text_shows 6 texts.moved_if ≡ true
moved_if_shows = refl

assigned_again_shows : text_shows 6 texts.assigned_again ≡ true
assigned_again_shows = refl

part_of_a_box_shows : text_shows 6 texts.part_of_a_box ≡ true
part_of_a_box_shows = refl

struct_fields_shows : text_shows 6 texts.struct_fields ≡ true
struct_fields_shows = refl

trait_objects_shows : text_shows 6 texts.trait_objects ≡ true
trait_objects_shows = refl

guarded_match_shows : text_shows 6 texts.guarded_match ≡ true
guarded_match_shows = refl

part_of_self_shows : text_shows 6 texts.part_of_self ≡ true
part_of_self_shows = refl

job_queue_shows : text_shows 6 texts.job_queue ≡ true
job_queue_shows = refl

element_shows : text_shows 6 texts.element ≡ true
element_shows = refl

assigned_shows : text_shows 6 texts.assigned ≡ true
assigned_shows = refl

result_shows : text_shows 6 texts.result ≡ true
result_shows = refl

closure_shows : text_shows 6 texts.closure ≡ true
closure_shows = refl

forgotten_shows : text_shows 6 texts.forgotten ≡ true
forgotten_shows = refl

sum__shows : text_shows 6 texts.sum_ ≡ true
sum__shows = refl

soak_shows : text_shows 6 texts.soak ≡ true
soak_shows = refl

calls_itself_shows : text_shows 6 texts.calls_itself ≡ true
calls_itself_shows = refl

references_shows : text_shows 6 texts.references ≡ true
references_shows = refl

methods_shows : text_shows 6 texts.methods ≡ true
methods_shows = refl

loops_shows : text_shows 6 texts.loops ≡ true
loops_shows = refl

patterns_shows : text_shows 6 texts.patterns ≡ true
patterns_shows = refl

hiding_shows : text_shows 6 texts.hiding ≡ true
hiding_shows = refl

literals_shows : text_shows 6 texts.literals ≡ true
literals_shows = refl

never_shows : text_shows 6 texts.never ≡ true
never_shows = refl

nested_closures_shows : text_shows 6 texts.nested_closures ≡ true
nested_closures_shows = refl

abbrev elements_in_loops : List ℕ
elements_in_loops = lines (
    codes "fn main() { let mut a = [1, 2, 3]; let mut i: usize = 0;" ∷
    codes "while i < 3 { a[i] = a[i] + 1; i = i + 1; } print(a[0]); }" ∷
    [])

elements_in_loops_shows : text_shows 6 elements_in_loops ≡ true
elements_in_loops_shows = refl

abbrev element_with_drop : List ℕ
element_with_drop = lines (
    codes "struct D(i32);" ∷
    codes "impl Drop for D { fn drop(&mut self) {} }" ∷
    codes "fn main() { let mut a = [D(1), D(2)]; let i: usize = 1; a[i] = D(3); }" ∷
    [])

element_with_drop_shows : text_shows 6 element_with_drop ≡ true
element_with_drop_shows = refl

abbrev behind_unique : List ℕ
behind_unique = lines (
    codes "struct D(i32);" ∷
    codes "impl Drop for D { fn drop(&mut self) {} }" ∷
    codes "fn set(r: &mut D) { *r = D(2); }" ∷
    codes "fn pass(r: &mut D) { set(r); r.0 = 5; }" ∷
    codes "fn main() { let mut d = D(1); pass(&mut d); print(d.0); }" ∷
    [])

behind_unique_shows : text_shows 6 behind_unique ≡ true
behind_unique_shows = refl

abbrev variants_in_guards : List ℕ
variants_in_guards = lines (
    codes "enum E { A(i32), B(i32, i32) }" ∷
    codes "fn odd(n: i32) -> bool { n % 2 == 1 }" ∷
    codes "fn main() { let mut k = 0; let e = E::B(3, 4);" ∷
    codes "match e { E::A(n) if odd(n) => { print(n); }" ∷
    codes "E::B(n, m) if { k = k + 1; n < m } => { print(m); } _ => { print(k); } } }" ∷
    [])

variants_in_guards_shows : text_shows 6 variants_in_guards ≡ true
variants_in_guards_shows = refl

abbrev boxes_in_variants : List ℕ
boxes_in_variants = lines (
    codes "enum L { Nil, Cons(i32, Box<L>) }" ∷
    codes "fn sum(l: L) -> i32 { match l { L::Nil => { 0 } L::Cons(n, rest) => { n + sum(*rest) } } }" ∷
    codes "fn main() { print(sum(L::Cons(1, Box::new(L::Nil)))); }" ∷
    [])

boxes_in_variants_shows : text_shows 6 boxes_in_variants ≡ true
boxes_in_variants_shows = refl

abbrev parts_of_self : List ℕ
parts_of_self = lines (
    codes "struct D(i32);" ∷
    codes "impl Drop for D { fn drop(&mut self) {} }" ∷
    codes "struct P { d: D, n: i32 }" ∷
    codes "impl Drop for P { fn drop(&mut self) { self.d = D(9); self.n = 1; } }" ∷
    codes "fn main() { let p = P { d: D(1), n: 2 }; }" ∷
    [])

parts_of_self_shows : text_shows 6 parts_of_self ≡ true
parts_of_self_shows = refl

abbrev objects_in_boxes : List ℕ
objects_in_boxes = lines (
    codes "trait T { fn n(&self) -> i32; }" ∷
    codes "struct S(i32);" ∷
    codes "impl T for S { fn n(&self) -> i32 { self.0 } }" ∷
    codes "fn main() { let b: Box<dyn T> = Box::new(S(3)); print(b.n()); }" ∷
    [])

objects_in_boxes_shows : text_shows 6 objects_in_boxes ≡ true
objects_in_boxes_shows = refl

abbrev shared_twice : List ℕ
shared_twice = lines (
    codes "fn add(a: &i32, b: &i32) -> i32 { *a + *b }" ∷
    codes "fn main() { let x = (1, 2); print(add(&x.0, &x.0)); print(add(&7, &x.1)); }" ∷
    [])

shared_twice_shows : text_shows 6 shared_twice ≡ true
shared_twice_shows = refl

abbrev while_some : List ℕ
while_some = lines (
    codes "enum O { N, S(i32) }" ∷
    codes "fn next(n: i32) -> O { if n < 2 { O::S(n) } else { O::N } }" ∷
    codes "fn main() { let mut n = 0; while let O::S(k) = next(n) { n = k + 1; } }" ∷
    [])

while_some_shows : text_shows 6 while_some ≡ true
while_some_shows = refl

abbrev element_of_reference : List ℕ
element_of_reference = lines (
    codes "fn at(a: &[i32; 3], i: usize) -> i32 { (*a)[i] }" ∷
    codes "fn set(a: &mut [i32; 3], i: usize) { (*a)[i] = 4; }" ∷
    codes "fn main() { let mut a = [1, 2, 3]; set(&mut a, 1); print(at(&a, 1)); }" ∷
    [])

element_of_reference_shows : text_shows 6 element_of_reference ≡ true
element_of_reference_shows = refl

-- `self` is passed on for a parameter that is not replaced, in a `Drop` body
abbrev self_passed_on : List ℕ
self_passed_on = lines (
    codes "struct D(i32);" ∷
    codes "impl Drop for D { fn drop(&mut self) { touch(self); touch(&mut *self); } }" ∷
    codes "fn touch(r: &mut D) { r.0 = 5; again(r, 1); }" ∷
    codes "fn again(r: &mut D, n: i32) { if n < 2 { r.0 = n; } else { again(r, n - 1); } }" ∷
    codes "fn main() { let mut d = D(1); touch(&mut d); print(d.0); }" ∷
    [])

self_passed_on_shows : text_shows 6 self_passed_on ≡ true
self_passed_on_shows = refl

-- were all parameters protected, this text would be refused: `set` drops exactly what `r` names
abbrev all_protected : ProgramTree → ℕ → ℕ → Bool
all_protected p n local = true

behind_unique_refused : program_shows 6 all_protected (outcome behind_unique) ≡ false
behind_unique_refused = refl

-- were those of `set` alone not protected, `pass` would pass on what it may not
abbrev but_of_first : ProgramTree → ℕ → ℕ → Bool
but_of_first p zero local = true
but_of_first p (suc zero) local = false
but_of_first p n local = true

behind_unique_passed : program_shows 6 but_of_first (outcome behind_unique) ≡ false
behind_unique_passed = refl

-- the content of a box that stands in a local is replaced, by the body and by what it calls
abbrev boxes : List ℕ
boxes = lines (
    codes "fn main() { let mut b = Box::new(Box::new(1)); *b = Box::new(2); }" ∷
    [])

boxes_show : text_shows 8 boxes ≡ true
boxes_show = refl

abbrev boxes_passed : List ℕ
boxes_passed = lines (
    codes "fn set(r: &mut Box<i32>) { *r = Box::new(3); }" ∷
    codes "fn main() { let mut b = Box::new(Box::new(1)); set(&mut *b); }" ∷
    [])

boxes_passed_show : text_shows 8 boxes_passed ≡ true
boxes_passed_show = refl

-- but what `self` of a `Drop` body names is protected
abbrev first_body : Outcome → Bool
first_body (Typed p) = protected p 0 1
first_body other = false

self_protected : first_body (outcome self_passed_on) ≡ true
self_protected = refl
