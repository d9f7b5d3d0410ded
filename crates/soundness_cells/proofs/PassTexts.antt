-- More texts of which no checked run complains, by computation: a place that changes while a value for it is evaluated,
-- boxes and parts that are moved out of and filled again, names of guards, jumps out of scopes, locals without a value.
use Rattle.std.proofs.Common.{ℕ, List, [], ◌∷◌, refl}
use Rattle.std.specs.Prelude.{codes}
use Rattle.typing_rules.proofs.Words.{lines}
use Rattle.soundness_cells.proofs.PassUncomplaining.{no_complaint}

abbrev index_changed_text : List ℕ
index_changed_text = lines (
    codes "fn main() { let mut a = [1, 2]; let mut i: usize = 1; a[i] = { i = 0; 3 }; print(a[i]); }" ∷
    [])

index_changed_checked : no_complaint index_changed_text
index_changed_checked = refl

abbrev index_borrowed_text : List ℕ
index_borrowed_text = lines (
    codes "fn g(i: &mut usize) -> i32 { 4 }" ∷
    codes "fn main() { let mut a = [1, 2]; let mut i: usize = 1; a[i] = g(&mut i); print(a[0]); }" ∷
    [])

index_borrowed_checked : no_complaint index_borrowed_text
index_borrowed_checked = refl

abbrev assign_inner_text : List ℕ
assign_inner_text = lines (
    codes "struct D(i32);" ∷
    codes "impl Drop for D { fn drop(&mut self) {} }" ∷
    codes "fn main() { let mut b = (D(1), D(2)); b.0 = { b = (D(3), D(4)); D(5) }; }" ∷
    [])

assign_inner_checked : no_complaint assign_inner_text
assign_inner_checked = refl

abbrev assign_inner_field_text : List ℕ
assign_inner_field_text = lines (
    codes "struct D(i32);" ∷
    codes "impl Drop for D { fn drop(&mut self) {} }" ∷
    codes "fn main() { let mut b = (D(1), D(2)); b.0 = { b.0 = D(3); D(5) }; }" ∷
    [])

assign_inner_field_checked : no_complaint assign_inner_field_text
assign_inner_field_checked = refl

abbrev box_inner_text : List ℕ
box_inner_text = lines (
    codes "struct D(i32);" ∷
    codes "impl Drop for D { fn drop(&mut self) {} }" ∷
    codes "fn main() { let mut b = Box::new(D(1)); *b = { b = Box::new(D(4)); D(5) }; }" ∷
    [])

box_inner_checked : no_complaint box_inner_text
box_inner_checked = refl

abbrev box_self_text : List ℕ
box_self_text = lines (
    codes "struct D(i32);" ∷
    codes "impl Drop for D { fn drop(&mut self) {} }" ∷
    codes "struct P { l: Box<D>, r: D }" ∷
    codes "fn main() { let mut p = P { l: Box::new(D(1)), r: D(2) }; *p.l = p.r; p.r = D(3); }" ∷
    [])

box_self_checked : no_complaint box_self_text
box_self_checked = refl

abbrev box_box_text : List ℕ
box_box_text = lines (
    codes "struct D(i32);" ∷
    codes "impl Drop for D { fn drop(&mut self) {} }" ∷
    codes "fn main() { let mut b = Box::new(Box::new(D(1))); let d = **b; **b = D(2); *b = Box::new(D(3)); }" ∷
    [])

box_box_checked : no_complaint box_box_text
box_box_checked = refl

abbrev loop_value_text : List ℕ
loop_value_text = lines (
    codes "struct D(i32);" ∷
    codes "impl Drop for D { fn drop(&mut self) {} }" ∷
    codes "fn main() { let d = loop { let x = D(1); if ask() == 0 { break x; } }; }" ∷
    [])

loop_value_checked : no_complaint loop_value_text
loop_value_checked = refl

abbrev nested_loops_text : List ℕ
nested_loops_text = lines (
    codes "struct D(i32);" ∷
    codes "impl Drop for D { fn drop(&mut self) {} }" ∷
    codes "fn main() { 'a: loop { let x = D(1); loop { let y = D(2); if ask() == 0 { break 'a; }" ∷
    codes "    if ask() == 1 { continue 'a; } break; } } }" ∷
    [])

nested_loops_checked : no_complaint nested_loops_text
nested_loops_checked = refl

abbrev return_in_text : List ℕ
return_in_text = lines (
    codes "struct D(i32);" ∷
    codes "impl Drop for D { fn drop(&mut self) {} }" ∷
    codes "fn f() -> D { let x = D(1); let y = (D(2), return x); y.0 }" ∷
    codes "fn main() { f(); }" ∷
    [])

return_in_checked : no_complaint return_in_text
return_in_checked = refl

abbrev enum_assign_text : List ℕ
enum_assign_text = lines (
    codes "struct D(i32);" ∷
    codes "impl Drop for D { fn drop(&mut self) {} }" ∷
    codes "enum O { N, S(D) }" ∷
    codes "fn main() { let mut o = O::S(D(1)); match o { O::S(d) => { o = O::N; } O::N => { o = O::S(D(2)); } } }" ∷
    [])

enum_assign_checked : no_complaint enum_assign_text
enum_assign_checked = refl

abbrev enum_field_text : List ℕ
enum_field_text = lines (
    codes "struct D(i32);" ∷
    codes "impl Drop for D { fn drop(&mut self) {} }" ∷
    codes "enum O { N, S(D, i32) }" ∷
    codes "fn main() { let mut o = O::S(D(1), 2); if let O::S(d, n) = o { o = O::S(d, n); } match o {" ∷
    codes "    O::S(_, n) => print(n), _ => {} } }" ∷
    [])

enum_field_checked : no_complaint enum_field_text
enum_field_checked = refl

abbrev enum_behind_text : List ℕ
enum_behind_text = lines (
    codes "enum O { N, S(i32) }" ∷
    codes "impl O { fn f(&mut self) -> i32 { match *self { O::S(n) => { *self = O::N; n } O::N => 0 } } }" ∷
    codes "fn main() { let mut o = O::S(1); print(o.f()); }" ∷
    [])

enum_behind_checked : no_complaint enum_behind_text
enum_behind_checked = refl

abbrev array_loop_text : List ℕ
array_loop_text = lines (
    codes "fn main() { let a = [1, 2, 3]; let mut i: usize = 0; while i < 3 { print(a[i]); i = i + 1; } }" ∷
    [])

array_loop_checked : no_complaint array_loop_text
array_loop_checked = refl

abbrev dropped_in_loop_text : List ℕ
dropped_in_loop_text = lines (
    codes "struct D(i32);" ∷
    codes "impl Drop for D { fn drop(&mut self) {} }" ∷
    codes "fn main() { let mut a = [D(1), D(2)]; let mut i: usize = 0; while i < 2 { a[i] = D(7); i = i + 1; } }" ∷
    [])

dropped_in_loop_checked : no_complaint dropped_in_loop_text
dropped_in_loop_checked = refl

abbrev shadow_text : List ℕ
shadow_text = lines (
    codes "struct D(i32);" ∷
    codes "impl Drop for D { fn drop(&mut self) {} }" ∷
    codes "fn main() { let x = D(1); let x = (x, D(2)); let x = x.1; }" ∷
    [])

shadow_checked : no_complaint shadow_text
shadow_checked = refl

abbrev guard_alias_text : List ℕ
guard_alias_text = lines (
    codes "struct D(i32);" ∷
    codes "impl Drop for D { fn drop(&mut self) {} }" ∷
    codes "enum O { N, S(D, D) }" ∷
    codes "fn t(d: &D, e: &D) -> bool { d.0 == e.0 }" ∷
    codes "fn main() { let o = (O::S(D(1), D(2)), 3); match o {" ∷
    codes "    (O::S(d, e), n) if t(&d, &e) && n == 3 => {}, (O::S(_, e), _) => {}, _ => {} } }" ∷
    [])

guard_alias_checked : no_complaint guard_alias_text
guard_alias_checked = refl

abbrev moved_by_branch_text : List ℕ
moved_by_branch_text = lines (
    codes "struct D(i32);" ∷
    codes "impl Drop for D { fn drop(&mut self) {} }" ∷
    codes "fn main() { let a = D(1); let b = D(2); let c = if ask() == 0 { a } else { b }; }" ∷
    [])

moved_by_branch_checked : no_complaint moved_by_branch_text
moved_by_branch_checked = refl

abbrev field_moved_by_branch_text : List ℕ
field_moved_by_branch_text = lines (
    codes "struct D(i32);" ∷
    codes "impl Drop for D { fn drop(&mut self) {} }" ∷
    codes "fn main() { let mut p = (D(1), D(2)); if ask() == 0 { let x = p.0; } p.0 = D(3); let q = p; }" ∷
    [])

field_moved_by_branch_checked : no_complaint field_moved_by_branch_text
field_moved_by_branch_checked = refl

abbrev let_uninit_text : List ℕ
let_uninit_text = lines (
    codes "struct D(i32);" ∷
    codes "impl Drop for D { fn drop(&mut self) {} }" ∷
    codes "fn main() { let a: D; let b: (D, D); if ask() == 0 { a = D(1); } else { b = (D(2), D(3)); } }" ∷
    [])

let_uninit_checked : no_complaint let_uninit_text
let_uninit_checked = refl

abbrev let_uninit_loop_text : List ℕ
let_uninit_loop_text = lines (
    codes "struct D(i32);" ∷
    codes "impl Drop for D { fn drop(&mut self) {} }" ∷
    codes "fn main() { let mut n = 0; while n < 2 { let a: D; let k: i32; if n == 1 { a = D(1); k = 2;" ∷
    codes "    print(k); } n = n + 1; } }" ∷
    [])

let_uninit_loop_checked : no_complaint let_uninit_loop_text
let_uninit_loop_checked = refl

abbrev parts_borrowed_text : List ℕ
parts_borrowed_text = lines (
    codes "struct D(i32);" ∷
    codes "impl Drop for D { fn drop(&mut self) {} }" ∷
    codes "fn f(a: &mut D, b: &D, n: i32) { a.0 = b.0 + n; }" ∷
    codes "fn main() { let mut p = (D(1), D(2)); f(&mut p.0, &p.1, p.1.0); }" ∷
    [])

parts_borrowed_checked : no_complaint parts_borrowed_text
parts_borrowed_checked = refl

abbrev element_borrowed_text : List ℕ
element_borrowed_text = lines (
    codes "fn f(a: &mut i32, b: &i32) { *a = *b; }" ∷
    codes "fn main() { let mut a = [1, 2]; let b = 3; let i: usize = 1; f(&mut a[i], &b); }" ∷
    [])

element_borrowed_checked : no_complaint element_borrowed_text
element_borrowed_checked = refl

abbrev forgotten_parts_text : List ℕ
forgotten_parts_text = lines (
    codes "struct D(i32);" ∷
    codes "impl Drop for D { fn drop(&mut self) {} }" ∷
    codes "fn main() { let d = (D(1), D(2)); forget(d.0); forget(D(4)); }" ∷
    [])

forgotten_parts_checked : no_complaint forgotten_parts_text
forgotten_parts_checked = refl

abbrev let_parts_box_text : List ℕ
let_parts_box_text = lines (
    codes "struct D(i32);" ∷
    codes "impl Drop for D { fn drop(&mut self) {} }" ∷
    codes "fn main() { let b = Box::new((D(1), D(2))); let (x, _) = *b; }" ∷
    [])

let_parts_box_checked : no_complaint let_parts_box_text
let_parts_box_checked = refl

abbrev moved_by_and_text : List ℕ
moved_by_and_text = lines (
    codes "struct D(i32);" ∷
    codes "impl Drop for D { fn drop(&mut self) {} }" ∷
    codes "fn t(d: D) -> bool { true }" ∷
    codes "fn main() { let a = D(1); let b = D(2); if t(a) && t(b) { print(1); } }" ∷
    [])

moved_by_and_checked : no_complaint moved_by_and_text
moved_by_and_checked = refl
