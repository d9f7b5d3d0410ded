-- For each rule texts that break it, with the place, each beside the nearest text that stands, where there is one. Each
-- is proved by computation, where it stands.
use Rattle.std.proofs.Common.{[], ◌∷◌, List, refl}
use Rattle.mir_base.specs.declared.rule.Rule.{Rule}
use Rattle.typing_rules.proofs.Cases.{Case, at, at_in, fine, fine_in}

t01 : List (Case Rule.T01)
t01 =
    at 1 1 "" refl ∷ fine "fn main() {}" refl ∷
    at 2 1 "fn f() {}\n" refl ∷ fine "fn f() {}\nfn main() {}" refl ∷
    at 1 9 "fn f(x: E) {} fn main() {}" refl ∷ fine "struct E; fn f(x: E) {} fn main() {}" refl ∷
    at 1 10 "struct S(E); fn main() {}" refl ∷ fine "struct S(E); struct E; fn main() {}" refl ∷
    at 1 19 "struct S { a: Box<E> } fn main() {}" refl ∷ fine "struct S { a: Box<S> } fn main() {}" refl ∷
    at 1 11 "fn f() -> E { } fn main() {}" refl ∷
    at 1 10 "#[derive(Eq)] struct S; fn main() {}" refl ∷ fine "#[derive(Debug)] struct S; fn main() {}" refl ∷
    at 1 6 "impl S {} fn main() {}" refl ∷ fine "struct S; impl S {} fn main() {}" refl ∷
    at 1 16 "struct S; impl Tr for S {} fn main() {}" refl ∷
    fine "struct S; trait Tr {} impl Tr for S {} fn main() {}" refl ∷
    at 1 25 "trait Tr {} impl Tr for S {} fn main() {}" refl ∷
    at 1 17 "fn f(b: Box<dyn Tr>) {} fn main() {}" refl ∷
    fine "trait Tr {} fn f(b: Box<dyn Tr>) {} fn main() {}" refl ∷
    at 1 9 "fn f(b: Vec<i32>) {} fn main() {}" refl ∷ fine "fn f(b: Box<i32>) {} fn main() {}" refl ∷
    at 1 9 "fn f(b: Box) {} fn main() {}" refl ∷
    at 1 9 "fn f(b: Self) {} fn main() {}" refl ∷ fine "struct S; impl S { fn f(b: Self) {} } fn main() {}" refl ∷
    at 1 27 "trait Tr { fn m(&self, x: Self); } fn main() {}" refl ∷
    fine "trait Tr { fn m(&self, x: i32); } fn main() {}" refl ∷
    at 1 13 "fn main() { x; }" refl ∷ fine "fn main() { let x = 1; x; }" refl ∷
    at 1 34 "fn main() { { let x = 1; } print(x); }" refl ∷
    fine "fn main() { let x = 1; { let x = true; } print(x); }" refl ∷
    at 1 13 "fn main() { f(); }" refl ∷ fine "fn f() {} fn main() { f(); }" refl ∷
    at 1 21 "fn main() { let x = S; }" refl ∷ fine "struct S; fn main() { let x = S; }" refl ∷
    at 1 34 "enum E { V } fn main() { let x = E; }" refl ∷ fine "enum E { V } fn main() { let x = E::V; }" refl ∷
    at 1 33 "trait Tr {} fn main() { let x = Tr; }" refl ∷
    at 1 34 "enum E { V } fn main() { let x = E::W; }" refl ∷
    at 1 21 "fn main() { let x = S { a: 1 }; }" refl ∷
    fine "struct S { a: i32 } fn main() { let x = S { a: 1 }; }" refl ∷
    at 1 20 "fn main() { let x: E = 1; }" refl ∷ fine "fn main() { let x: i32 = 1; }" refl ∷
    at 1 39 "enum E { V } fn main() { match E::V { E::W => {} _ => {} } }" refl ∷
    fine "enum E { V } fn main() { match E::V { E::V => {} _ => {} } }" refl ∷
    at 1 27 "fn main() { let c = move [x] || {}; }" refl ∷
    fine "fn main() { let x = 1; let c = move [x] || {}; }" refl ∷
    at 1 51 "fn main() { let x = 1; let c = move [] || { print(x); }; }" refl ∷
    fine "fn main() { let x = 1; let c = move [x] || { print(x); }; }" refl ∷
    at 1 13 "fn main() { f(y); }" refl ∷
    at 1 33 "fn main() { let c = move [] |n: E| {}; }" refl ∷
    fine "fn main() { let c = move [] |n: i32| {}; }" refl ∷
    at 1 10 "fn f() { self; } fn main() {}" refl ∷
    fine "struct S; impl S { fn f(self) { self; } } fn main() {}" refl ∷
    at 1 27 "struct S { a: S } fn f(x: E) {} fn main() {}" refl ∷
    at 1 10 "fn f() { x; } fn main() { let y: i32 = true; }" refl ∷
    at 1 28 "fn main() { let x = true + y; }" refl ∷
    at 1 32 "struct S(i32); fn main() { let S::S(x) = S(1); }" refl ∷
    fine "struct S(i32); fn main() { let S(x) = S(1); }" refl ∷
    at 1 33 "struct S { a: i32 } fn main() { S::S { a: 1 }; }" refl ∷
    fine "struct S { a: i32 } fn main() { S { a: 1 }; }" refl ∷
    at 1 14 "fn main() { (f)(); }" refl ∷ fine "fn f() {} fn main() { (f)(); }" refl ∷
    at 1 21 "fn main() { let x = Box; }" refl ∷ fine "fn main() { let x = Box::new(1); }" refl ∷
    at 1 13 "fn main() { Box(1); }" refl ∷ fine "fn main() { Box::new(1); }" refl ∷
    []

t02 : List (Case Rule.T02)
t02 =
    at 1 14 "struct S; fn S() {} fn main() {}" refl ∷ fine "struct S; fn s() {} fn main() {}" refl ∷
    at 1 17 "fn main() {} fn main() {}" refl ∷
    at 1 8 "struct Box; fn main() {}" refl ∷
    at 1 4 "fn drop() {} fn main() {}" refl ∷
    fine "struct S; impl Drop for S { fn drop(&mut self) {} } fn main() {}" refl ∷
    at 1 20 "struct S { a: i32, a: i32 } fn main() {}" refl ∷ fine "struct S { a: i32, b: i32 } fn main() {}" refl ∷
    at 1 13 "enum E { V, V } fn main() {}" refl ∷ fine "enum E { V, W } fn main() {}" refl ∷
    at 1 22 "enum E { V { x: i32, x: i32 } } fn main() {}" refl ∷
    fine "enum E { V { x: i32 }, W { x: i32 } } fn main() {}" refl ∷
    at 1 33 "struct S; impl S { fn f() {} fn f() {} } fn main() {}" refl ∷
    fine "struct S; struct T; impl S { fn f() {} } impl T { fn f() {} } fn main() {}" refl ∷
    at 1 44 "struct S; impl S { fn f() {} } impl S { fn f() {} } fn main() {}" refl ∷
    at_in 2 1 ("trait Tr { fn f(&self); } struct S; impl Tr for S { fn f(&self) {} } impl S { fn" ∷
    "f(&self) {} } fn main() {}" ∷ []) refl ∷
    at 1 14 "fn f(a: i32, a: i32) {} fn main() {}" refl ∷ fine "fn f(a: i32, _: i32) {} fn main() {}" refl ∷
    at 1 26 "fn f((a, b): (i32, i32), b: i32) {} fn main() {}" refl ∷
    fine "fn f((a, b): (i32, i32), c: i32) {} fn main() {}" refl ∷
    at 1 21 "fn main() { let (a, a) = (1, 2); }" refl ∷ fine "fn main() { let (a, b) = (1, 2); let a = 3; }" refl ∷
    at 1 32 "fn main() { match (1, 2) { (a, a) => {} } }" refl ∷
    fine "fn main() { match (1, 2) { (a, b) => {} } }" refl ∷
    at 1 41 "fn main() { let x = 1; let c = move [x, x] || {}; }" refl ∷
    fine "fn main() { let x = 1; let y = 2; let c = move [x, y] || {}; }" refl ∷
    at 1 38 "fn main() { let c = move [] |a: i32, a: i32| {}; }" refl ∷
    fine "fn main() { let a = 1; let c = move [a] |a: i32| { print(a); }; }" refl ∷
    at 1 28 "trait Tr { fn f(&self); fn f(&self); } fn main() {}" refl ∷
    fine "trait Tr { fn f(&self); fn g(&self); } fn main() {}" refl ∷
    at 1 18 "fn f(x: E) {} fn f() {} fn main() {}" refl ∷
    []

t03 : List (Case Rule.T03)
t03 =
    at 1 26 "fn main() { let x: i32 = true; }" refl ∷ fine "fn main() { let x: i32 = 1; }" refl ∷
    at 1 31 "fn f(x: i32) {} fn main() { f(true); }" refl ∷ fine "fn f(x: i32) {} fn main() { f(1); }" refl ∷
    at 1 19 "fn main() { print(1_i64); }" refl ∷ fine "fn main() { print(1); }" refl ∷
    at 1 21 "fn main() { let x = 1 + true; }" refl ∷ fine "fn main() { let x = 1 + 2; }" refl ∷
    at 1 29 "fn main() { let x = 1_i32 + 2_i64; }" refl ∷ fine "fn main() { let x = 1 + 2_i64; }" refl ∷
    at 1 30 "fn main() { let x: i64 = 1 + 2_i32; }" refl ∷ fine "fn main() { let x: i64 = 1 + 2; }" refl ∷
    at 1 21 "fn main() { let x = true < 1; }" refl ∷ fine "fn main() { let x = true < false; }" refl ∷
    at 1 21 "fn main() { let x = !1; }" refl ∷ fine "fn main() { let x = !true; }" refl ∷
    at 1 21 "fn main() { let x = -true; }" refl ∷ fine "fn main() { let x = -1; }" refl ∷
    at 1 36 "fn main() { let x = 1_u32; let y = -x; }" refl ∷ fine "fn main() { let x = 1_i64; let y = -x; }" refl ∷
    at 1 21 "fn main() { let x = -1_u32; }" refl ∷ fine "fn main() { let x = -1_i64; }" refl ∷
    at 1 26 "fn main() { let x: u32 = -1; }" refl ∷ fine "fn main() { let x: i64 = -1; }" refl ∷
    at 1 39 "fn f(x: !) { let (a, b): (i32, i32) = x; } fn main() {}" refl ∷
    fine "fn f(x: !) { let a: (i32, i32) = x; } fn main() {}" refl ∷
    at 1 21 "fn main() { let x = true && 1; }" refl ∷ fine "fn main() { let x = true && false; }" refl ∷
    at 1 16 "fn main() { if 1 {} }" refl ∷ fine "fn main() { if true {} }" refl ∷
    at 1 19 "fn main() { while 1 {} }" refl ∷ fine "fn main() { while false {} }" refl ∷
    at 1 28 "fn main() { match 1 { _ if 2 => {} _ => {} } }" refl ∷
    fine "fn main() { match 1 { _ if true => {} _ => {} } }" refl ∷
    at 1 21 "fn main() { let x = if true { 1 } else { false }; }" refl ∷
    fine "fn main() { let x = if true { 1 } else { panic!() }; }" refl ∷
    at 1 23 "fn main() { if true { 1 } }" refl ∷ fine "fn main() { if true { print(1) } }" refl ∷
    at 1 21 "fn main() { let x = match 1 { 1 => 2, _ => true }; }" refl ∷
    fine "fn main() { let x = match 1 { 1 => 2, _ => 3 }; }" refl ∷
    at 1 49 "fn main() { let x: i32 = match 1 { 1 => 2, _ => true }; }" refl ∷
    at 1 21 "fn main() { let x = loop { if true { break 1; } break true; }; }" refl ∷
    fine "fn main() { let x = loop { if true { break 1; } break 2; }; }" refl ∷
    at 1 26 "fn main() { let x: i32 = loop { break; }; }" refl ∷
    fine "fn main() { let x: () = loop { break; }; }" refl ∷
    at 1 20 "fn main() { loop { 1 } }" refl ∷ fine "fn main() { loop { break } }" refl ∷
    at 1 32 "fn main() { let mut x = 1; x = true; }" refl ∷ fine "fn main() { let mut x = 1; x = 2; }" refl ∷
    at 1 17 "fn f() -> i32 { true } fn main() {}" refl ∷ fine "fn f() -> i32 { 1 } fn main() {}" refl ∷
    at 1 15 "fn f() -> i32 { 1; } fn main() {}" refl ∷ fine "fn f() -> i32 { return 1; } fn main() {}" refl ∷
    at 1 24 "fn f() -> i32 { return true; } fn main() {}" refl ∷
    at 1 17 "fn f() -> i32 { return; } fn main() {}" refl ∷ fine "fn f() { return; } fn main() {}" refl ∷
    at 1 42 "fn main() { let x = [1, 2]; let i = 0; x[i]; }" refl ∷
    fine "fn main() { let x = [1, 2]; let i: usize = 0; x[i]; }" refl ∷
    at 1 36 "fn main() { let b = Box::new([1]); b[0]; }" refl ∷
    fine "fn main() { let b = Box::new([1]); (*b)[0]; }" refl ∷
    at 1 24 "fn main() { let x = 1; *x; }" refl ∷ fine "fn main() { let x = Box::new(1); *x; }" refl ∷
    at 1 21 "fn main() { let x = [1, true]; }" refl ∷ fine "fn main() { let x = [1, 2]; }" refl ∷
    at 1 31 "fn main() { let x: [i32; 2] = [1, 2, 3]; }" refl ∷
    fine "fn main() { let x: [i32; 3] = [1, 2, 3]; }" refl ∷
    at 1 35 "fn main() { let x: [i32; 2] = [1, true]; }" refl ∷
    at 1 38 "fn main() { let x: (i32, bool) = (1, 2); }" refl ∷
    fine "fn main() { let x: (i32, bool) = (1, true); }" refl ∷
    at 1 34 "fn main() { let x: (i32, bool) = (1, true, 2); }" refl ∷
    at 1 20 "fn main() { let x: [i32; 2_i32] = [1, 2]; }" refl ∷
    fine "fn main() { let x: [i32; 2_usize] = [1, 2]; }" refl ∷
    at 1 13 "fn main() { { 1 } print(2); }" refl ∷ fine "fn main() { { 1 }; print(2); }" refl ∷
    at 1 13 "fn main() { if true { 1 } else { 2 } print(3); }" refl ∷
    fine "fn main() { if true { 1 } else { 2 }; print(3); }" refl ∷
    at 1 1 "fn main(x: i32) {}" refl ∷
    at 1 1 "fn main() -> i32 { 1 }" refl ∷ fine "fn main() -> () { }" refl ∷
    at_in 2 1 ("trait Tr {} struct S; struct T; impl Tr for S {} fn main() { let b: Box<dyn Tr> =" ∷
    "Box::new(T); }" ∷ []) refl ∷
    fine "trait Tr {} struct S; impl Tr for S {} fn main() { let b: Box<dyn Tr> = Box::new(S); }" refl ∷
    at 1 57 "struct S { a: i32 } struct T { a: i32 } fn main() { let S { a } = (T { a: 1 }); }" refl ∷
    fine "struct S { a: i32 } fn main() { let S { a } = (S { a: 1 }); }" refl ∷
    at 1 23 "fn main() { match 1 { true => {} _ => {} } }" refl ∷
    fine "fn main() { match 1 { 1 => {} _ => {} } }" refl ∷
    at 1 23 "fn main() { match 1 { 1_i64 => {} _ => {} } }" refl ∷
    fine "fn main() { match 1 { 1_i32 => {} _ => {} } }" refl ∷
    at 1 23 "fn main() { match 1 { (a, b) => {} } }" refl ∷
    fine "fn main() { match (1, 2) { (a, b) => {} } }" refl ∷
    at 1 25 "fn main() { match [1] { (a, ..) => {} } }" refl ∷
    fine "fn main() { match [1] { [a, ..] => {} } }" refl ∷
    at_in 3 18 ("struct D(i32); impl Drop for D { fn drop(&mut self) {} } fn take(x: D) {} fn look(r:" ∷
    "&D) {} fn change(r: &mut D) {}" ∷ "fn main() { look(&1); }" ∷ []) refl ∷
    fine_in ("struct D(i32); impl Drop for D { fn drop(&mut self) {} } fn take(x: D) {} fn look(r:" ∷
    "&D) {} fn change(r: &mut D) {}" ∷ "fn main() { look(&D(1)); }" ∷ []) refl ∷
    at_in 3 18 ("struct D(i32); impl Drop for D { fn drop(&mut self) {} } fn take(x: D) {} fn look(r:" ∷
    "&D) {} fn change(r: &mut D) {}" ∷ "fn main() { look(&mut D(1)); }" ∷ []) refl ∷
    fine_in ("struct D(i32); impl Drop for D { fn drop(&mut self) {} } fn take(x: D) {} fn look(r:" ∷
    "&D) {} fn change(r: &mut D) {}" ∷ "fn main() { change(&mut D(1)); }" ∷ []) refl ∷
    at_in 3 20 ("struct D(i32); impl Drop for D { fn drop(&mut self) {} } fn take(x: D) {} fn look(r:" ∷
    "&D) {} fn change(r: &mut D) {}" ∷ "fn main() { change(&D(1)); }" ∷ []) refl ∷
    at_in 3 22 ("struct D(i32); impl Drop for D { fn drop(&mut self) {} } fn take(x: D) {} fn look(r:" ∷
    "&D) {} fn change(r: &mut D) {}" ∷ "fn f(r: &D) { change(r); } fn main() {}" ∷ []) refl ∷
    fine_in ("struct D(i32); impl Drop for D { fn drop(&mut self) {} } fn take(x: D) {} fn look(r:" ∷
    "&D) {} fn change(r: &mut D) {}" ∷ "fn f(r: &mut D) { change(r); look(r); } fn main() {}" ∷ []) refl ∷
    at 1 44 "fn main() { let c = move [] |n: i32| {}; c(true); }" refl ∷
    fine "fn main() { let c = move [] |n: i32| {}; c(1); }" refl ∷
    at 1 34 "fn main() { let c = move [] || { 1 }; }" refl ∷
    fine "fn main() { let c = move [] || -> i32 { 1 }; }" refl ∷
    at_in 3 32 ("struct D(i32); impl Drop for D { fn drop(&mut self) {} } fn take(x: D) {} fn look(r:" ∷
    "&D) {} fn change(r: &mut D) {}" ∷ "fn main() { let d = D(1); look(d); }" ∷ []) refl ∷
    fine_in ("struct D(i32); impl Drop for D { fn drop(&mut self) {} } fn take(x: D) {} fn look(r:" ∷
    "&D) {} fn change(r: &mut D) {}" ∷ "fn main() { let d = D(1); look(&d); look(panic!()); }" ∷ []) refl ∷
    at_in 3 18 ("struct D(i32); impl Drop for D { fn drop(&mut self) {} } fn take(x: D) {} fn look(r:" ∷
    "&D) {} fn change(r: &mut D) {}" ∷ "fn main() { look(1); }" ∷ []) refl ∷
    at_in 3 20 ("struct D(i32); impl Drop for D { fn drop(&mut self) {} } fn take(x: D) {} fn look(r:" ∷
    "&D) {} fn change(r: &mut D) {}" ∷ "fn main() { change(D(1)); }" ∷ []) refl ∷
    at_in 3 20 ("struct D(i32); impl Drop for D { fn drop(&mut self) {} } fn take(x: D) {} fn look(r:" ∷
    "&D) {} fn change(r: &mut D) {}" ∷ "fn f(r: &D) { take(r); } fn main() {}" ∷ []) refl ∷
    fine_in ("struct D(i32); impl Drop for D { fn drop(&mut self) {} } fn take(x: D) {} fn look(r:" ∷
    "&D) {} fn change(r: &mut D) {}" ∷ "fn f(r: &D) { look(r); } fn main() {}" ∷ []) refl ∷
    at 1 24 "fn main() { let x = if 1 { y } else { 2 }; }" refl ∷
    at 1 31 "fn f(x: i32) {} fn main() { f(true, 2); }" refl ∷
    at 1 23 "fn f() { let x: i32 = true; } struct S { a: i32, a: i32 } fn main() {}" refl ∷
    at 1 26 "fn main() { let x: i32 = []; }" refl ∷ fine "fn main() { let x: [i32; 0] = []; }" refl ∷
    at 1 42 "fn f(a: i32) {} fn main() { let x = 1; f(&x); }" refl ∷
    fine "fn f(a: &i32) {} fn main() { let x = 1; f(&x); }" refl ∷
    at 1 24 "fn main() { let x = 1; &x }" refl ∷
    []

t04 : List (Case Rule.T04)
t04 =
    at 1 29 "fn f(x: i32) {} fn main() { f(); }" refl ∷ fine "fn f(x: i32) {} fn main() { f(1); }" refl ∷
    at 1 29 "fn f(x: i32) {} fn main() { f(1, 2); }" refl ∷
    at 1 13 "fn main() { print(); }" refl ∷ fine "fn main() { print(1); }" refl ∷
    at 1 13 "fn main() { ask(1); }" refl ∷ fine "fn main() { ask(); }" refl ∷
    at 1 13 "fn main() { drop(); }" refl ∷ fine "fn main() { drop(1); }" refl ∷
    at 1 21 "fn main() { let b = Box::new(); }" refl ∷ fine "fn main() { let b = Box::new(1); }" refl ∷
    at 1 41 "struct S(i32, i32); fn main() { let x = S(1); }" refl ∷
    fine "struct S(i32, i32); fn main() { let x = S(1, 2); }" refl ∷
    at 1 49 "struct S { a: i32, b: i32 } fn main() { let x = S { a: 1 }; }" refl ∷
    fine "struct S { a: i32, b: i32 } fn main() { let x = S { b: 2, a: 1 }; }" refl ∷
    at 1 49 "struct S { a: i32, b: i32 } fn main() { let x = S { a: 1, a: 1 }; }" refl ∷
    at 1 57 "struct S; impl S { fn f(&self, x: i32) {} } fn main() { S.f(); }" refl ∷
    fine "struct S; impl S { fn f(&self, x: i32) {} } fn main() { S.f(1); }" refl ∷
    at 1 17 "fn main() { let (a, b) = (1, 2, 3); }" refl ∷ fine "fn main() { let (a, b, ..) = (1, 2, 3); }" refl ∷
    at 1 17 "fn main() { let [a, b] = [1]; }" refl ∷ fine "fn main() { let [a] = [1]; }" refl ∷
    at 1 40 "enum E { V(i32, i32) } fn main() { let E::V(a) = E::V(1, 2); }" refl ∷
    fine "enum E { V(i32, i32) } fn main() { let E::V(a, ..) = E::V(1, 2); }" refl ∷
    at 1 45 "struct S { a: i32, b: i32 } fn main() { let S { a } = (S { a: 1, b: 2 }); }" refl ∷
    fine "struct S { a: i32, b: i32 } fn main() { let S { a, .. } = (S { a: 1, b: 2 }); }" refl ∷
    at 1 36 "fn main() { let c = move [] || {}; c(1); }" refl ∷
    fine "fn main() { let c = move [] || {}; c(); }" refl ∷
    []

t05 : List (Case Rule.T05)
t05 =
    at 1 13 "fn main() { 1 = 2; }" refl ∷ fine "fn main() { let mut x = 1; x = 2; }" refl ∷
    at 1 33 "fn f() -> i32 { 1 } fn main() { f() = 2; }" refl ∷
    at 1 30 "fn main() { match 1 { x if { x = 2; true } => {} _ => {} } }" refl ∷
    fine "fn main() { match 1 { x => { x = 2; } } }" refl ∷
    []

t06 : List (Case Rule.T06)
t06 =
    at 1 13 "fn main() { break; }" refl ∷ fine "fn main() { loop { break; } }" refl ∷
    at 1 13 "fn main() { continue; }" refl ∷ fine "fn main() { loop { continue; } }" refl ∷
    at 1 24 "fn main() { 'a: loop { break 'b; } }" refl ∷ fine "fn main() { 'a: loop { break 'a; } }" refl ∷
    at 1 26 "fn main() { while true { break 1; } }" refl ∷ fine "fn main() { while true { break; } }" refl ∷
    at 1 45 "fn main() { 'a: loop { let c = move [] || { break 'a; }; } }" refl ∷
    fine "fn main() { 'a: loop { let c = move [] || { 'a: loop { break 'a; } }; break; } }" refl ∷
    at 1 16 "fn main() { if break {} }" refl ∷ fine "fn main() { while break {} }" refl ∷
    []

t07 : List (Case Rule.T07)
t07 =
    at_in 4 6 ("struct D(i32); impl Drop for D { fn drop(&mut self) {} } fn take(x: D) {} fn look(r:" ∷
    "&D) {} fn change(r: &mut D) {}" ∷
    "struct H(D); impl Drop for H { fn drop(&mut self) {} } fn main() { let h = H(D(1));" ∷
    "take(h.0); }" ∷ []) refl ∷
    fine_in ("struct D(i32); impl Drop for D { fn drop(&mut self) {} } fn take(x: D) {} fn look(r:" ∷
    "&D) {} fn change(r: &mut D) {}" ∷ "struct H(D); fn main() { let h = H(D(1)); take(h.0); }" ∷ []) refl ∷
    at_in 3 74 ("struct D(i32); impl Drop for D { fn drop(&mut self) {} } fn take(x: D) {} fn look(r:" ∷
    "&D) {} fn change(r: &mut D) {}" ∷
    "struct H(D); impl Drop for H { fn drop(&mut self) {} } fn main() { let H(d) =" ∷ "H(D(1)); }" ∷ []) refl ∷
    fine_in ("struct D(i32); impl Drop for D { fn drop(&mut self) {} } fn take(x: D) {} fn look(r:" ∷
    "&D) {} fn change(r: &mut D) {}" ∷
    "struct H(D); impl Drop for H { fn drop(&mut self) {} } fn main() { let H(_) =" ∷ "H(D(1)); }" ∷ []) refl ∷
    at_in 3 27 ("struct D(i32); impl Drop for D { fn drop(&mut self) {} } fn take(x: D) {} fn look(r:" ∷
    "&D) {} fn change(r: &mut D) {}" ∷ "fn f(r: &(D, i32)) { take(r.0); } fn main() {}" ∷ []) refl ∷
    fine_in ("struct D(i32); impl Drop for D { fn drop(&mut self) {} } fn take(x: D) {} fn look(r:" ∷
    "&D) {} fn change(r: &mut D) {}" ∷ "fn f(r: &(D, i32)) { print(r.1); } fn main() {}" ∷ []) refl ∷
    at_in 3 24 ("struct D(i32); impl Drop for D { fn drop(&mut self) {} } fn take(x: D) {} fn look(r:" ∷
    "&D) {} fn change(r: &mut D) {}" ∷ "fn f(r: &mut D) { take(*r); } fn main() {}" ∷ []) refl ∷
    fine_in ("struct D(i32); impl Drop for D { fn drop(&mut self) {} } fn take(x: D) {} fn look(r:" ∷
    "&D) {} fn change(r: &mut D) {}" ∷ "fn f(r: &mut D) { *r = D(1); } fn main() {}" ∷ []) refl ∷
    at_in 3 34 ("struct D(i32); impl Drop for D { fn drop(&mut self) {} } fn take(x: D) {} fn look(r:" ∷
    "&D) {} fn change(r: &mut D) {}" ∷ "fn main() { let a = [D(1)]; take(a[0]); }" ∷ []) refl ∷
    fine_in ("struct D(i32); impl Drop for D { fn drop(&mut self) {} } fn take(x: D) {} fn look(r:" ∷
    "&D) {} fn change(r: &mut D) {}" ∷ "fn main() { let a = [D(1)]; let [d] = a; take(d); }" ∷ []) refl ∷
    at 2 1 "trait Tr {} struct S; impl Tr for S {} fn main() { let b: Box<dyn Tr> = Box::new(S);\n*b; }" refl ∷
    fine "trait Tr {} struct S; impl Tr for S {} fn main() { let b: Box<dyn Tr> = Box::new(S);\nb; }" refl ∷
    at_in 3 38 ("struct D(i32); impl Drop for D { fn drop(&mut self) {} } fn take(x: D) {} fn look(r:" ∷
    "&D) {} fn change(r: &mut D) {}" ∷
    "fn main() { match D(1) { d if { take(d); true } => {} _ => {} } }" ∷ []) refl ∷
    fine_in ("struct D(i32); impl Drop for D { fn drop(&mut self) {} } fn take(x: D) {} fn look(r:" ∷
    "&D) {} fn change(r: &mut D) {}" ∷
    "fn main() { match D(1) { d if { look(&d); true } => take(d), _ => {} } }" ∷ []) refl ∷
    at_in 3 27 ("struct D(i32); impl Drop for D { fn drop(&mut self) {} } fn take(x: D) {} fn look(r:" ∷
    "&D) {} fn change(r: &mut D) {}" ∷ "fn f(r: &(D, i32)) { let (d, n) = *r; } fn main() {}" ∷ []) refl ∷
    fine_in ("struct D(i32); impl Drop for D { fn drop(&mut self) {} } fn take(x: D) {} fn look(r:" ∷
    "&D) {} fn change(r: &mut D) {}" ∷ "fn f(r: &(D, i32)) { let (_, n) = *r; } fn main() {}" ∷ []) refl ∷
    at_in 6 35 ("struct D(i32);" ∷ "impl Drop for D { fn drop(&mut self) {} }" ∷ "fn take(x: D) {}" ∷
    "struct H(D);" ∷ "impl Drop for H { fn drop(&mut self) {} }" ∷
    "fn main() { let h = H(D(1)); take(h.0); }" ∷ []) refl ∷
    []

t08 : List (Case Rule.T08)
t08 =
    at 1 10 "struct S(&i32); fn main() {}" refl ∷ fine "struct S(i32); fn main() {}" refl ∷
    at 1 11 "fn f() -> &i32 { panic!() } fn main() {}" refl ∷ fine "fn f(r: &i32) {} fn main() {}" refl ∷
    at 1 15 "fn f(x: (i32, &i32)) {} fn main() {}" refl ∷
    at 1 11 "fn f(x: & &i32) {} fn main() {}" refl ∷
    at 1 13 "fn f(x: Box<&i32>) {} fn main() {}" refl ∷
    at_in 3 21 ("struct D(i32); impl Drop for D { fn drop(&mut self) {} } fn take(x: D) {} fn look(r:" ∷
    "&D) {} fn change(r: &mut D) {}" ∷ "fn main() { let r = &D(1); }" ∷ []) refl ∷
    fine_in ("struct D(i32); impl Drop for D { fn drop(&mut self) {} } fn take(x: D) {} fn look(r:" ∷
    "&D) {} fn change(r: &mut D) {}" ∷ "fn main() { look(&D(1)); }" ∷ []) refl ∷
    at_in 3 15 ("struct D(i32); impl Drop for D { fn drop(&mut self) {} } fn take(x: D) {} fn look(r:" ∷
    "&D) {} fn change(r: &mut D) {}" ∷ "fn f(r: &D) { r; } fn main() {}" ∷ []) refl ∷
    fine_in ("struct D(i32); impl Drop for D { fn drop(&mut self) {} } fn take(x: D) {} fn look(r:" ∷
    "&D) {} fn change(r: &mut D) {}" ∷ "fn f(r: &D) { print(r.0); } fn main() {}" ∷ []) refl ∷
    at_in 3 23 ("struct D(i32); impl Drop for D { fn drop(&mut self) {} } fn take(x: D) {} fn look(r:" ∷
    "&D) {} fn change(r: &mut D) {}" ∷ "fn f(r: &D) { let s = r; } fn main() {}" ∷ []) refl ∷
    at_in 3 21 ("struct D(i32); impl Drop for D { fn drop(&mut self) {} } fn take(x: D) {} fn look(r:" ∷
    "&D) {} fn change(r: &mut D) {}" ∷ "fn f(r: &D) { match r { _ => {} } } fn main() {}" ∷ []) refl ∷
    fine_in ("struct D(i32); impl Drop for D { fn drop(&mut self) {} } fn take(x: D) {} fn look(r:" ∷
    "&D) {} fn change(r: &mut D) {}" ∷ "fn f(r: &D) { match *r { _ => {} } } fn main() {}" ∷ []) refl ∷
    at_in 3 23 ("struct D(i32); impl Drop for D { fn drop(&mut self) {} } fn take(x: D) {} fn look(r:" ∷
    "&D) {} fn change(r: &mut D) {}" ∷ "fn f(r: &D) { let _ = r; } fn main() {}" ∷ []) refl ∷
    fine_in ("struct D(i32); impl Drop for D { fn drop(&mut self) {} } fn take(x: D) {} fn look(r:" ∷
    "&D) {} fn change(r: &mut D) {}" ∷ "fn f(r: &D) { let _ = *r; } fn main() {}" ∷ []) refl ∷
    at 1 22 "fn f(r: &[i32; 1]) { r[0]; } fn main() {}" refl ∷
    fine "fn f(r: &[i32; 1]) { (*r)[0]; } fn main() {}" refl ∷
    at 1 6 "fn f((a, b): &(i32, i32)) {} fn main() {}" refl ∷ fine "fn f(_: &(i32, i32)) {} fn main() {}" refl ∷
    at_in 3 29 ("struct D(i32); impl Drop for D { fn drop(&mut self) {} } fn take(x: D) {} fn look(r:" ∷
    "&D) {} fn change(r: &mut D) {}" ∷ "fn f(r: &D) { let c = move [r] || {}; } fn main() {}" ∷ []) refl ∷
    fine_in ("struct D(i32); impl Drop for D { fn drop(&mut self) {} } fn take(x: D) {} fn look(r:" ∷
    "&D) {} fn change(r: &mut D) {}" ∷
    "fn f(r: &D) { let n = r.0; let c = move [n] || {}; } fn main() {}" ∷ []) refl ∷
    at_in 3 15 ("struct D(i32); impl Drop for D { fn drop(&mut self) {} } fn take(x: D) {} fn look(r:" ∷
    "&D) {} fn change(r: &mut D) {}" ∷ "fn f(r: &D) { r.0 = 1; } fn main() {}" ∷ []) refl ∷
    fine_in ("struct D(i32); impl Drop for D { fn drop(&mut self) {} } fn take(x: D) {} fn look(r:" ∷
    "&D) {} fn change(r: &mut D) {}" ∷ "fn f(r: &mut D) { r.0 = 1; } fn main() {}" ∷ []) refl ∷
    at_in 3 34 ("struct D(i32); impl Drop for D { fn drop(&mut self) {} } fn take(x: D) {} fn look(r:" ∷
    "&D) {} fn change(r: &mut D) {}" ∷ "fn f(r: &(D, i32)) { change(&mut r.0); } fn main() {}" ∷ []) refl ∷
    fine_in ("struct D(i32); impl Drop for D { fn drop(&mut self) {} } fn take(x: D) {} fn look(r:" ∷
    "&D) {} fn change(r: &mut D) {}" ∷ "fn f(r: &mut (D, i32)) { change(&mut r.0); } fn main() {}" ∷ []) refl ∷
    at 1 34 "struct S; impl S { fn f(&self) { self.g(); } fn g(&mut self) {} } fn main() {}" refl ∷
    fine "struct S; impl S { fn f(&mut self) { self.g(); } fn g(&mut self) {} } fn main() {}" refl ∷
    at 1 39 "struct S(i32); impl S { fn f(&self) { self.0 = 1; } } fn main() {}" refl ∷
    at 1 33 "fn main() { let c = move [] |r: &i32| {}; }" refl ∷
    at 1 20 "fn main() { let x: &i32 = 1; }" refl ∷
    at_in 4 15 ("struct D(i32);" ∷ "impl Drop for D { fn drop(&mut self) {} }" ∷ "fn take(x: D) {}" ∷
    "fn f(r: &D) { r.0 = 1; } fn main() {}" ∷ []) refl ∷
    at 1 56 "struct S; impl S { fn m(&mut self) {} } fn f(r: &S) { (*r).m(); } fn main() {}" refl ∷
    fine "struct S; impl S { fn m(&mut self) {} } fn f(r: &mut S) { (*r).m(); } fn main() {}" refl ∷
    []

t09 : List (Case Rule.T09)
t09 =
    at 1 1 "struct S { a: S } fn main() {}" refl ∷ fine "struct S { a: Box<S> } fn main() {}" refl ∷
    at 1 14 "struct A(B); struct B(i32, [B; 0]); fn main() {}" refl ∷
    fine "struct A(B); struct B(i32); fn main() {}" refl ∷
    at 1 1 "enum E { V(F) } struct F(E); fn main() {}" refl ∷
    at 1 1 "struct S((i32, S)); fn main() {}" refl ∷
    at 1 27 "#[derive(Copy)] struct T; struct S { a: S } fn main() {}" refl ∷
    []

t10 : List (Case Rule.T10)
t10 =
    at 1 1 "#[derive(Copy)] struct S; fn main() {}" refl ∷
    fine "#[derive(Copy, Clone)] struct S; fn main() {}" refl ∷
    at 1 11 "struct D; #[derive(Clone, Copy)] struct S(D); fn main() {}" refl ∷
    fine "#[derive(Clone, Copy)] struct D; #[derive(Clone, Copy)] struct S(D); fn main() {}" refl ∷
    at 1 1 "#[derive(Clone, Copy)] struct S(Box<i32>); fn main() {}" refl ∷
    at 1 1 "#[derive(Clone, Copy)] struct S; impl Drop for S { fn drop(&mut self) {} } fn main()\n{}" refl ∷
    at 1 1 "#[derive(Copy)] struct T; fn f() { x; }" refl ∷
    []

t11 : List (Case Rule.T11)
t11 =
    at_in 2 25 ("trait Tr { fn f(&self, n: i32) -> bool; } struct S; impl Tr for S { fn f(&self, n:" ∷
    "i32) -> bool { true } } impl Tr for S {} fn main() {}" ∷ []) refl ∷
    fine_in ("trait Tr { fn f(&self, n: i32) -> bool; } struct S; impl Tr for S { fn f(&self, n:" ∷
    "i32) -> bool { true } } fn main() {}" ∷ []) refl ∷
    at 1 53 "trait Tr { fn f(&self, n: i32) -> bool; } struct S; impl Tr for S {} fn main() {}" refl ∷
    at_in 2 23 ("trait Tr { fn f(&self, n: i32) -> bool; } struct S; impl Tr for S { fn f(&self, n:" ∷
    "i32) -> bool { true } fn g(&self) {} } fn main() {}" ∷ []) refl ∷
    at_in 1 69 ("trait Tr { fn f(&self, n: i32) -> bool; } struct S; impl Tr for S { fn f(&mut self," ∷
    "n: i32) -> bool { true } } fn main() {}" ∷ []) refl ∷
    at_in 1 69 ("trait Tr { fn f(&self, n: i32) -> bool; } struct S; impl Tr for S { fn f(&self, n:" ∷
    "i64) -> bool { true } } fn main() {}" ∷ []) refl ∷
    at_in 1 69 ("trait Tr { fn f(&self, n: i32) -> bool; } struct S; impl Tr for S { fn f(&self, n:" ∷
    "i32) {} } fn main() {}" ∷ []) refl ∷
    at 1 12 "trait Tr { fn f(self); } fn main() {}" refl ∷ fine "trait Tr { fn f(&self); } fn main() {}" refl ∷
    at 1 12 "trait Tr { fn f(n: i32); } fn main() {}" refl ∷
    at 1 12 "trait Tr { fn drop(&mut self); } fn main() {}" refl ∷
    at 1 20 "struct S; impl S { fn drop(&mut self) {} } fn main() {}" refl ∷
    fine "struct S; impl Drop for S { fn drop(&mut self) {} } fn main() {}" refl ∷
    at 1 29 "struct S; impl Drop for S { fn drop(&self) {} } fn main() {}" refl ∷
    at 1 11 "struct S; impl Drop for S {} fn main() {}" refl ∷
    at 1 51 "struct S; impl Drop for S { fn drop(&mut self) {} fn f(&self) {} } fn main() {}" refl ∷
    at 1 29 "struct S; impl Drop for S { fn drop(&mut self, n: i32) {} } fn main() {}" refl ∷
    []

t12 : List (Case Rule.T12)
t12 =
    at 1 34 "struct S { a: i32 } fn f(s: S) { s.b; } fn main() {}" refl ∷
    fine "struct S { a: i32 } fn f(s: S) { s.a; } fn main() {}" refl ∷
    at 1 29 "fn main() { let t = (1, 2); t.2; }" refl ∷ fine "fn main() { let t = (1, 2); t.1; }" refl ∷
    at 1 24 "fn main() { let x = 1; x.f(); }" refl ∷
    at 1 23 "struct S; fn main() { S.f(); }" refl ∷
    fine "struct S; impl S { fn f(&self) {} } fn main() { S.f(); }" refl ∷
    at 1 44 "struct S; impl S { fn f() {} } fn main() { S.f(); }" refl ∷
    fine "struct S; impl S { fn f() {} } fn main() { S::f(); }" refl ∷
    at 1 23 "struct S; fn main() { S::f(); }" refl ∷
    at 1 13 "fn main() { Box::f(1); }" refl ∷
    at 1 38 "struct S { a: i32 } fn f(s: S) { let S { b, .. } = s; } fn main() {}" refl ∷
    fine "struct S { a: i32 } fn f(s: S) { let S { a, .. } = s; } fn main() {}" refl ∷
    at 1 50 "trait Tr { fn f(&self); } fn g(b: Box<dyn Tr>) { b.h(); } fn main() {}" refl ∷
    fine "trait Tr { fn f(&self); } fn g(b: Box<dyn Tr>) { b.f(); } fn main() {}" refl ∷
    at_in 2 7 ("struct S(i32); impl S { fn get(x: &S) -> i32 { x.0 } } fn main() { let s = S(1);" ∷
    "print(s.get()); }" ∷ []) refl ∷
    fine_in ("struct S(i32); impl S { fn get(x: &S) -> i32 { x.0 } } fn main() { let s = S(1);" ∷
    "print(S::get(&s)); }" ∷ []) refl ∷
    fine_in ("struct S(i32); impl S { fn get(&self) -> i32 { self.0 } } fn main() { let s = S(1);" ∷
    "print(s.get()); }" ∷ []) refl ∷
    []

t13 : List (Case Rule.T13)
t13 =
    at 1 24 "fn main() { let x = 1; x(); }" refl ∷
    at 1 23 "struct S; fn main() { S(); }" refl ∷ fine "struct S(); fn main() { S(); }" refl ∷
    at 1 33 "struct S { a: i32 } fn main() { S(1); }" refl ∷ fine "struct S(i32); fn main() { S(1); }" refl ∷
    at 1 26 "enum E { V } fn main() { E::V(); }" refl ∷ fine "enum E { V() } fn main() { E::V(); }" refl ∷
    at_in 3 27 ("struct D(i32); impl Drop for D { fn drop(&mut self) {} } fn take(x: D) {} fn look(r:" ∷
    "&D) {} fn change(r: &mut D) {}" ∷ "fn main() { let d = D(1); d.drop(); }" ∷ []) refl ∷
    at_in 3 27 ("struct D(i32); impl Drop for D { fn drop(&mut self) {} } fn take(x: D) {} fn look(r:" ∷
    "&D) {} fn change(r: &mut D) {}" ∷ "fn main() { let d = D(1); D::drop(&mut d); }" ∷ []) refl ∷
    at 1 31 "fn f() {} fn main() { let x = f; }" refl ∷
    at 1 36 "struct S(i32); fn main() { let x = S; }" refl ∷ fine "struct S; fn main() { let x = S; }" refl ∷
    at 1 33 "struct S {} fn main() { let x = S; }" refl ∷ fine "struct S {} fn main() { let x = S {}; }" refl ∷
    at 1 21 "fn main() { let x = print; }" refl ∷
    at 1 21 "fn main() { let x = Box::new; }" refl ∷
    at 1 13 "fn main() { 1(2); }" refl ∷
    at 1 13 "fn main() { (1 + 2)(3); }" refl ∷ fine "fn main() { let t = (move [] || {}, 1); (t.0)(); }" refl ∷
    []

t14 : List (Case Rule.T14)
t14 =
    at_in 5 43 ("struct D(i32); impl Drop for D { fn drop(&mut self) {} } fn take(x: D) {} fn look(r:" ∷
    "&D) {} fn change(r: &mut D) {}" ∷
    "fn two(a: &mut D, b: &D) {} fn both(a: &D, b: &D) {} fn three(a: &D, b: &mut D) {} fn" ∷
    "with(a: &D, n: i32) {} fn wmut(a: &mut D, n: i32) {} fn mv(a: &D, d: D) {}" ∷
    "fn main() { let mut x = D(1); two(&mut x, &x); }" ∷ []) refl ∷
    fine_in ("struct D(i32); impl Drop for D { fn drop(&mut self) {} } fn take(x: D) {} fn look(r:" ∷
    "&D) {} fn change(r: &mut D) {}" ∷
    "fn two(a: &mut D, b: &D) {} fn both(a: &D, b: &D) {} fn three(a: &D, b: &mut D) {} fn" ∷
    "with(a: &D, n: i32) {} fn wmut(a: &mut D, n: i32) {} fn mv(a: &D, d: D) {}" ∷
    "fn main() { let mut x = D(1); both(&x, &x); }" ∷ []) refl ∷
    at_in 5 41 ("struct D(i32); impl Drop for D { fn drop(&mut self) {} } fn take(x: D) {} fn look(r:" ∷
    "&D) {} fn change(r: &mut D) {}" ∷
    "fn two(a: &mut D, b: &D) {} fn both(a: &D, b: &D) {} fn three(a: &D, b: &mut D) {} fn" ∷
    "with(a: &D, n: i32) {} fn wmut(a: &mut D, n: i32) {} fn mv(a: &D, d: D) {}" ∷
    "fn main() { let mut x = D(1); three(&x, &mut x); }" ∷ []) refl ∷
    fine_in ("struct D(i32); impl Drop for D { fn drop(&mut self) {} } fn take(x: D) {} fn look(r:" ∷
    "&D) {} fn change(r: &mut D) {}" ∷
    "fn two(a: &mut D, b: &D) {} fn both(a: &D, b: &D) {} fn three(a: &D, b: &mut D) {} fn" ∷
    "with(a: &D, n: i32) {} fn wmut(a: &mut D, n: i32) {} fn mv(a: &D, d: D) {}" ∷
    "fn main() { let mut x = D(1); let y = D(2); three(&y, &mut x); }" ∷ []) refl ∷
    at_in 5 34 ("struct D(i32); impl Drop for D { fn drop(&mut self) {} } fn take(x: D) {} fn look(r:" ∷
    "&D) {} fn change(r: &mut D) {}" ∷
    "fn two(a: &mut D, b: &D) {} fn both(a: &D, b: &D) {} fn three(a: &D, b: &mut D) {} fn" ∷
    "with(a: &D, n: i32) {} fn wmut(a: &mut D, n: i32) {} fn mv(a: &D, d: D) {}" ∷
    "fn main() { let x = D(1); mv(&x, x); }" ∷ []) refl ∷
    fine_in ("struct D(i32); impl Drop for D { fn drop(&mut self) {} } fn take(x: D) {} fn look(r:" ∷
    "&D) {} fn change(r: &mut D) {}" ∷
    "fn two(a: &mut D, b: &D) {} fn both(a: &D, b: &D) {} fn three(a: &D, b: &mut D) {} fn" ∷
    "with(a: &D, n: i32) {} fn wmut(a: &mut D, n: i32) {} fn mv(a: &D, d: D) {}" ∷
    "fn main() { let x = D(1); mv(&x, D(2)); }" ∷ []) refl ∷
    at_in 5 42 ("struct D(i32); impl Drop for D { fn drop(&mut self) {} } fn take(x: D) {} fn look(r:" ∷
    "&D) {} fn change(r: &mut D) {}" ∷
    "fn two(a: &mut D, b: &D) {} fn both(a: &D, b: &D) {} fn three(a: &D, b: &mut D) {} fn" ∷
    "with(a: &D, n: i32) {} fn wmut(a: &mut D, n: i32) {} fn mv(a: &D, d: D) {}" ∷
    "fn main() { let mut x = D(1); with(&x, { x = D(2); 1 }); }" ∷ []) refl ∷
    fine_in ("struct D(i32); impl Drop for D { fn drop(&mut self) {} } fn take(x: D) {} fn look(r:" ∷
    "&D) {} fn change(r: &mut D) {}" ∷
    "fn two(a: &mut D, b: &D) {} fn both(a: &D, b: &D) {} fn three(a: &D, b: &mut D) {} fn" ∷
    "with(a: &D, n: i32) {} fn wmut(a: &mut D, n: i32) {} fn mv(a: &D, d: D) {}" ∷
    "fn main() { let mut x = D(1); let mut y = 1; with(&x, { y = 2; 1 }); }" ∷ []) refl ∷
    at_in 5 44 ("struct D(i32); impl Drop for D { fn drop(&mut self) {} } fn take(x: D) {} fn look(r:" ∷
    "&D) {} fn change(r: &mut D) {}" ∷
    "fn two(a: &mut D, b: &D) {} fn both(a: &D, b: &D) {} fn three(a: &D, b: &mut D) {} fn" ∷
    "with(a: &D, n: i32) {} fn wmut(a: &mut D, n: i32) {} fn mv(a: &D, d: D) {}" ∷
    "fn main() { let mut x = D(1); wmut(&mut x, x.0); }" ∷ []) refl ∷
    fine_in ("struct D(i32); impl Drop for D { fn drop(&mut self) {} } fn take(x: D) {} fn look(r:" ∷
    "&D) {} fn change(r: &mut D) {}" ∷
    "fn two(a: &mut D, b: &D) {} fn both(a: &D, b: &D) {} fn three(a: &D, b: &mut D) {} fn" ∷
    "with(a: &D, n: i32) {} fn wmut(a: &mut D, n: i32) {} fn mv(a: &D, d: D) {}" ∷
    "fn main() { let mut x = D(1); with(&x, x.0); }" ∷ []) refl ∷
    at_in 5 51 ("struct D(i32); impl Drop for D { fn drop(&mut self) {} } fn take(x: D) {} fn look(r:" ∷
    "&D) {} fn change(r: &mut D) {}" ∷
    "fn two(a: &mut D, b: &D) {} fn both(a: &D, b: &D) {} fn three(a: &D, b: &mut D) {} fn" ∷
    "with(a: &D, n: i32) {} fn wmut(a: &mut D, n: i32) {} fn mv(a: &D, d: D) {}" ∷
    "fn main() { let mut x = D(1); wmut(&mut x, { look(&x); 1 }); }" ∷ []) refl ∷
    fine_in ("struct D(i32); impl Drop for D { fn drop(&mut self) {} } fn take(x: D) {} fn look(r:" ∷
    "&D) {} fn change(r: &mut D) {}" ∷
    "fn two(a: &mut D, b: &D) {} fn both(a: &D, b: &D) {} fn three(a: &D, b: &mut D) {} fn" ∷
    "with(a: &D, n: i32) {} fn wmut(a: &mut D, n: i32) {} fn mv(a: &D, d: D) {}" ∷
    "fn main() { let mut x = D(1); with(&x, { look(&x); 1 }); }" ∷ []) refl ∷
    at_in 5 50 ("struct D(i32); impl Drop for D { fn drop(&mut self) {} } fn take(x: D) {} fn look(r:" ∷
    "&D) {} fn change(r: &mut D) {}" ∷
    "fn two(a: &mut D, b: &D) {} fn both(a: &D, b: &D) {} fn three(a: &D, b: &mut D) {} fn" ∷
    "with(a: &D, n: i32) {} fn wmut(a: &mut D, n: i32) {} fn mv(a: &D, d: D) {}" ∷
    "fn main() { let mut x = D(1); wmut(&mut x, match x { _ => 1 }); }" ∷ []) refl ∷
    fine_in ("struct D(i32); impl Drop for D { fn drop(&mut self) {} } fn take(x: D) {} fn look(r:" ∷
    "&D) {} fn change(r: &mut D) {}" ∷
    "fn two(a: &mut D, b: &D) {} fn both(a: &D, b: &D) {} fn three(a: &D, b: &mut D) {} fn" ∷
    "with(a: &D, n: i32) {} fn wmut(a: &mut D, n: i32) {} fn mv(a: &D, d: D) {}" ∷
    "fn main() { let mut x = D(1); with(&x, match x { _ => 1 }); }" ∷ []) refl ∷
    at_in 5 53 ("struct D(i32); impl Drop for D { fn drop(&mut self) {} } fn take(x: D) {} fn look(r:" ∷
    "&D) {} fn change(r: &mut D) {}" ∷
    "fn two(a: &mut D, b: &D) {} fn both(a: &D, b: &D) {} fn three(a: &D, b: &mut D) {} fn" ∷
    "with(a: &D, n: i32) {} fn wmut(a: &mut D, n: i32) {} fn mv(a: &D, d: D) {}" ∷
    "fn main() { let mut t = (D(1), D(2)); two(&mut t.0, &t.0); }" ∷ []) refl ∷
    fine_in ("struct D(i32); impl Drop for D { fn drop(&mut self) {} } fn take(x: D) {} fn look(r:" ∷
    "&D) {} fn change(r: &mut D) {}" ∷
    "fn two(a: &mut D, b: &D) {} fn both(a: &D, b: &D) {} fn three(a: &D, b: &mut D) {} fn" ∷
    "with(a: &D, n: i32) {} fn wmut(a: &mut D, n: i32) {} fn mv(a: &D, d: D) {}" ∷
    "fn main() { let mut t = (D(1), D(2)); two(&mut t.0, &t.1); }" ∷ []) refl ∷
    at_in 5 54 ("struct D(i32); impl Drop for D { fn drop(&mut self) {} } fn take(x: D) {} fn look(r:" ∷
    "&D) {} fn change(r: &mut D) {}" ∷
    "fn two(a: &mut D, b: &D) {} fn both(a: &D, b: &D) {} fn three(a: &D, b: &mut D) {} fn" ∷
    "with(a: &D, n: i32) {} fn wmut(a: &mut D, n: i32) {} fn mv(a: &D, d: D) {}" ∷
    "fn main() { let mut a = [D(1), D(2)]; two(&mut a[0], &a[1]); }" ∷ []) refl ∷
    fine_in ("struct D(i32); impl Drop for D { fn drop(&mut self) {} } fn take(x: D) {} fn look(r:" ∷
    "&D) {} fn change(r: &mut D) {}" ∷
    "fn two(a: &mut D, b: &D) {} fn both(a: &D, b: &D) {} fn three(a: &D, b: &mut D) {} fn" ∷
    "with(a: &D, n: i32) {} fn wmut(a: &mut D, n: i32) {} fn mv(a: &D, d: D) {}" ∷
    "fn main() { let mut a = [D(1)]; let b = [D(2)]; two(&mut a[0], &b[0]); }" ∷ []) refl ∷
    at_in 5 26 ("struct D(i32); impl Drop for D { fn drop(&mut self) {} } fn take(x: D) {} fn look(r:" ∷
    "&D) {} fn change(r: &mut D) {}" ∷
    "fn two(a: &mut D, b: &D) {} fn both(a: &D, b: &D) {} fn three(a: &D, b: &mut D) {} fn" ∷
    "with(a: &D, n: i32) {} fn wmut(a: &mut D, n: i32) {} fn mv(a: &D, d: D) {}" ∷
    "fn f(r: &mut D) { two(r, r); } fn main() {}" ∷ []) refl ∷
    fine_in ("struct D(i32); impl Drop for D { fn drop(&mut self) {} } fn take(x: D) {} fn look(r:" ∷
    "&D) {} fn change(r: &mut D) {}" ∷
    "fn two(a: &mut D, b: &D) {} fn both(a: &D, b: &D) {} fn three(a: &D, b: &mut D) {} fn" ∷
    "with(a: &D, n: i32) {} fn wmut(a: &mut D, n: i32) {} fn mv(a: &D, d: D) {}" ∷
    "fn f(r: &mut D, s: &D) { two(r, s); both(r, r); } fn main() {}" ∷ []) refl ∷
    at_in 5 27 ("struct D(i32); impl Drop for D { fn drop(&mut self) {} } fn take(x: D) {} fn look(r:" ∷
    "&D) {} fn change(r: &mut D) {}" ∷
    "fn two(a: &mut D, b: &D) {} fn both(a: &D, b: &D) {} fn three(a: &D, b: &mut D) {} fn" ∷
    "with(a: &D, n: i32) {} fn wmut(a: &mut D, n: i32) {} fn mv(a: &D, d: D) {}" ∷
    "fn f(r: &mut D) { wmut(r, r.0); } fn main() {}" ∷ []) refl ∷
    fine_in ("struct D(i32); impl Drop for D { fn drop(&mut self) {} } fn take(x: D) {} fn look(r:" ∷
    "&D) {} fn change(r: &mut D) {}" ∷
    "fn two(a: &mut D, b: &D) {} fn both(a: &D, b: &D) {} fn three(a: &D, b: &mut D) {} fn" ∷
    "with(a: &D, n: i32) {} fn wmut(a: &mut D, n: i32) {} fn mv(a: &D, d: D) {}" ∷
    "fn f(r: &mut D) { with(r, r.0); } fn main() {}" ∷ []) refl ∷
    at_in 3 37 ("struct P(i32); impl P { fn add(&mut self, n: i32) {} fn get(&self) -> i32 { self.0 }" ∷
    "fn set(&mut self) -> i32 { 1 } fn eat(&mut self, p: &P) {} }" ∷
    "fn main() { let mut p = P(1); p.add(p.set()); }" ∷ []) refl ∷
    fine_in ("struct P(i32); impl P { fn add(&mut self, n: i32) {} fn get(&self) -> i32 { self.0 }" ∷
    "fn set(&mut self) -> i32 { 1 } fn eat(&mut self, p: &P) {} }" ∷
    "fn main() { let mut p = P(1); p.add(p.get()); }" ∷ []) refl ∷
    at_in 3 39 ("struct P(i32); impl P { fn add(&mut self, n: i32) {} fn get(&self) -> i32 { self.0 }" ∷
    "fn set(&mut self) -> i32 { 1 } fn eat(&mut self, p: &P) {} }" ∷
    "fn main() { let mut p = P(1); p.add({ p = P(2); 1 }); }" ∷ []) refl ∷
    fine_in ("struct P(i32); impl P { fn add(&mut self, n: i32) {} fn get(&self) -> i32 { self.0 }" ∷
    "fn set(&mut self) -> i32 { 1 } fn eat(&mut self, p: &P) {} }" ∷
    "fn main() { let mut p = P(1); let mut q = P(1); p.add({ q = P(2); 1 }); }" ∷ []) refl ∷
    at_in 3 46 ("struct P(i32); impl P { fn add(&mut self, n: i32) {} fn get(&self) -> i32 { self.0 }" ∷
    "fn set(&mut self) -> i32 { 1 } fn eat(&mut self, p: &P) {} }" ∷
    "fn main() { let mut p = P(1); P::add(&mut p, p.get()); }" ∷ []) refl ∷
    fine_in ("struct P(i32); impl P { fn add(&mut self, n: i32) {} fn get(&self) -> i32 { self.0 }" ∷
    "fn set(&mut self) -> i32 { 1 } fn eat(&mut self, p: &P) {} }" ∷
    "fn main() { let mut p = P(1); P::add(&mut p, 2); }" ∷ []) refl ∷
    at_in 3 37 ("struct P(i32); impl P { fn add(&mut self, n: i32) {} fn get(&self) -> i32 { self.0 }" ∷
    "fn set(&mut self) -> i32 { 1 } fn eat(&mut self, p: &P) {} }" ∷
    "fn main() { let mut p = P(1); p.eat(&p); }" ∷ []) refl ∷
    fine_in ("struct P(i32); impl P { fn add(&mut self, n: i32) {} fn get(&self) -> i32 { self.0 }" ∷
    "fn set(&mut self) -> i32 { 1 } fn eat(&mut self, p: &P) {} }" ∷
    "fn main() { let mut p = P(1); let q = P(2); p.eat(&q); }" ∷ []) refl ∷
    at_in 3 51 ("struct D(i32); impl Drop for D { fn drop(&mut self) {} } fn take(x: D) {} fn look(r:" ∷
    "&D) {} fn change(r: &mut D) {}" ∷
    "fn main() { let mut x = D(1); match x { D(n) if { x = D(2); true } => {} _ => {} } }" ∷ []) refl ∷
    fine_in ("struct D(i32); impl Drop for D { fn drop(&mut self) {} } fn take(x: D) {} fn look(r:" ∷
    "&D) {} fn change(r: &mut D) {}" ∷
    "fn main() { let mut x = D(1); let mut y = 1; match x { D(n) if { y = n; true } => {}" ∷
    "_ => {} } }" ∷ []) refl ∷
    at_in 3 58 ("struct D(i32); impl Drop for D { fn drop(&mut self) {} } fn take(x: D) {} fn look(r:" ∷
    "&D) {} fn change(r: &mut D) {}" ∷
    "fn main() { let mut x = D(1); match x { D(n) if { change(&mut x); true } => {} _ =>" ∷ "{} } }" ∷ []) refl ∷
    fine_in ("struct D(i32); impl Drop for D { fn drop(&mut self) {} } fn take(x: D) {} fn look(r:" ∷
    "&D) {} fn change(r: &mut D) {}" ∷
    "fn main() { let mut x = D(1); match x { D(n) if { look(&x); true } => {} _ => {} } }" ∷ []) refl ∷
    at_in 3 52 ("struct D(i32); impl Drop for D { fn drop(&mut self) {} } fn take(x: D) {} fn look(r:" ∷
    "&D) {} fn change(r: &mut D) {}" ∷
    "fn main() { let x = D(1); match x { D(n) if { take(x); true } => {} _ => {} } }" ∷ []) refl ∷
    fine_in ("struct D(i32); impl Drop for D { fn drop(&mut self) {} } fn take(x: D) {} fn look(r:" ∷
    "&D) {} fn change(r: &mut D) {}" ∷ "fn main() { let x = D(1); match x { D(n) => { take(x); } } }" ∷ []) refl ∷
    at_in 3 40 ("struct D(i32); impl Drop for D { fn drop(&mut self) {} } fn take(x: D) {} fn look(r:" ∷
    "&D) {} fn change(r: &mut D) {}" ∷
    "fn main() { match D(1) { d if { change(&mut d); true } => {} _ => {} } }" ∷ []) refl ∷
    fine_in ("struct D(i32); impl Drop for D { fn drop(&mut self) {} } fn take(x: D) {} fn look(r:" ∷
    "&D) {} fn change(r: &mut D) {}" ∷
    "fn main() { match D(1) { d if { look(&d); true } => {} _ => {} } }" ∷ []) refl ∷
    at_in 3 33 ("struct D(i32); impl Drop for D { fn drop(&mut self) {} } fn take(x: D) {} fn look(r:" ∷
    "&D) {} fn change(r: &mut D) {}" ∷
    "fn main() { match D(1) { d if { d.0 = 2; true } => {} _ => {} } }" ∷ []) refl ∷
    at_in 3 62 ("struct D(i32); impl Drop for D { fn drop(&mut self) {} } fn take(x: D) {} fn look(r:" ∷
    "&D) {} fn change(r: &mut D) {}" ∷
    "fn main() { let mut t = (D(1), 2); match t.0 { d if { change(&mut t.0); true } => {}" ∷
    "_ => {} } }" ∷ []) refl ∷
    fine_in ("struct D(i32); impl Drop for D { fn drop(&mut self) {} } fn take(x: D) {} fn look(r:" ∷
    "&D) {} fn change(r: &mut D) {}" ∷
    "fn main() { let mut t = (D(1), D(2)); match t.0 { d if { change(&mut t.1); true } =>" ∷
    "{} _ => {} } }" ∷ []) refl ∷
    at_in 5 1 ("struct T(i32); fn rep(r: &mut T) { *r = T(0); } fn pass(r: &mut T) { rep(r); } fn" ∷
    "keep(r: &mut T) { r.0 = 1; } impl T { fn set(&mut self) { *self = T(1); } fn get(&mut" ∷ "self) { } }" ∷
    "fn two(a: &mut T, b: &mut T) {} impl Drop for T { fn drop(&mut self) { two(self," ∷
    "self); rep(self); } } fn main() {}" ∷ []) refl ∷
    at_in 5 43 ("struct D(i32);" ∷ "impl Drop for D { fn drop(&mut self) {} }" ∷ "fn take(x: D) {}" ∷
    "fn two(a: &mut D, b: &D) {}" ∷ "fn main() { let mut x = D(1); two(&mut x, &x); }" ∷ []) refl ∷
    []

t15 : List (Case Rule.T15)
t15 =
    at 2 40 "struct T(i32);\nimpl Drop for T { fn drop(&mut self) { *self = T(0); } }\nfn main() {}" refl ∷
    fine "struct T(i32);\nimpl Drop for T { fn drop(&mut self) { self.0 = 0; } }\nfn main() {}" refl ∷
    at_in 4 40 ("struct T(i32); fn rep(r: &mut T) { *r = T(0); } fn pass(r: &mut T) { rep(r); } fn" ∷
    "keep(r: &mut T) { r.0 = 1; } impl T { fn set(&mut self) { *self = T(1); } fn get(&mut" ∷ "self) { } }" ∷
    "impl Drop for T { fn drop(&mut self) { rep(self); } } fn main() {}" ∷ []) refl ∷
    fine_in ("struct T(i32); fn rep(r: &mut T) { *r = T(0); } fn pass(r: &mut T) { rep(r); } fn" ∷
    "keep(r: &mut T) { r.0 = 1; } impl T { fn set(&mut self) { *self = T(1); } fn get(&mut" ∷ "self) { } }" ∷
    "impl Drop for T { fn drop(&mut self) { keep(self); } } fn main() {}" ∷ []) refl ∷
    at_in 4 40 ("struct T(i32); fn rep(r: &mut T) { *r = T(0); } fn pass(r: &mut T) { rep(r); } fn" ∷
    "keep(r: &mut T) { r.0 = 1; } impl T { fn set(&mut self) { *self = T(1); } fn get(&mut" ∷ "self) { } }" ∷
    "impl Drop for T { fn drop(&mut self) { pass(&mut *self); } } fn main() {}" ∷ []) refl ∷
    at_in 4 40 ("struct T(i32); fn rep(r: &mut T) { *r = T(0); } fn pass(r: &mut T) { rep(r); } fn" ∷
    "keep(r: &mut T) { r.0 = 1; } impl T { fn set(&mut self) { *self = T(1); } fn get(&mut" ∷ "self) { } }" ∷
    "impl Drop for T { fn drop(&mut self) { self.set(); } } fn main() {}" ∷ []) refl ∷
    fine_in ("struct T(i32); fn rep(r: &mut T) { *r = T(0); } fn pass(r: &mut T) { rep(r); } fn" ∷
    "keep(r: &mut T) { r.0 = 1; } impl T { fn set(&mut self) { *self = T(1); } fn get(&mut" ∷ "self) { } }" ∷
    "impl Drop for T { fn drop(&mut self) { self.get(); } } fn main() {}" ∷ []) refl ∷
    at_in 3 40 ("struct T(i32); fn a(r: &mut T) { b(r); } fn b(r: &mut T) { a(r); if true { *r = T(0);" ∷ "} }" ∷
    "impl Drop for T { fn drop(&mut self) { a(self); } } fn main() {}" ∷ []) refl ∷
    fine_in ("struct T(i32); fn a(r: &mut T) { b(r); } fn b(r: &mut T) { a(r); }" ∷
    "impl Drop for T { fn drop(&mut self) { a(self); } } fn main() {}" ∷ []) refl ∷
    at_in 4 1 ("struct T(i32); struct U; trait Tr { fn m(&mut self, t: &mut T); } impl Tr for U { fn" ∷
    "m(&mut self, t: &mut T) { *t = T(0); } }" ∷
    "impl Drop for T { fn drop(&mut self) { let mut b: Box<dyn Tr> = Box::new(U);" ∷
    "b.m(self); } } fn main() {}" ∷ []) refl ∷
    fine_in ("struct T(i32); struct U; trait Tr { fn m(&mut self, t: &mut T); } impl Tr for U { fn" ∷
    "m(&mut self, t: &mut T) { } }" ∷
    "impl Drop for T { fn drop(&mut self) { let mut b: Box<dyn Tr> = Box::new(U);" ∷
    "b.m(self); } } fn main() {}" ∷ []) refl ∷
    at_in 4 72 ("struct T(i32); fn rep(r: &mut T) { *r = T(0); } fn pass(r: &mut T) { rep(r); } fn" ∷
    "keep(r: &mut T) { r.0 = 1; } impl T { fn set(&mut self) { *self = T(1); } fn get(&mut" ∷ "self) { } }" ∷
    "fn two(a: &mut T, b: &mut T) {} impl Drop for T { fn drop(&mut self) { rep(self);" ∷
    "two(self, self); } } fn main() {}" ∷ []) refl ∷
    []

t16 : List (Case Rule.T16)
t16 =
    at 1 13 "fn main() { let x; }" refl ∷ fine "fn main() { let x: i32; }" refl ∷
    at 1 21 "fn main() { let x = []; }" refl ∷ fine "fn main() { let x: [i32; 0] = []; }" refl ∷
    []

t17 : List (Case Rule.T17)
t17 =
    at 1 21 "fn main() { let x = 2147483648; }" refl ∷ fine "fn main() { let x = 2147483647; }" refl ∷
    at 1 21 "fn main() { let x = -2147483649; }" refl ∷ fine "fn main() { let x = -2147483648; }" refl ∷
    at 1 21 "fn main() { let x = 4294967296_u32; }" refl ∷ fine "fn main() { let x = 4294967295_u32; }" refl ∷
    at 1 26 "fn main() { let x: i64 = 9223372036854775808; }" refl ∷
    fine "fn main() { let x: i64 = -9223372036854775808; }" refl ∷
    at 1 23 "fn main() { match 1 { 2147483648 => {} _ => {} } }" refl ∷
    fine "fn main() { match 1 { -2147483648 => {} _ => {} } }" refl ∷
    []

t18 : List (Case Rule.T18)
t18 =
    at 1 17 "fn main() { let 1 = 1; }" refl ∷ fine "fn main() { let _ = 1; }" refl ∷
    at 1 21 "fn main() { let (a, true) = (1, true); }" refl ∷ fine "fn main() { let (a, b) = (1, true); }" refl ∷
    at 1 33 "enum E { V, W } fn main() { let E::V = E::V; }" refl ∷
    fine "enum E { V } fn main() { let E::V = E::V; }" refl ∷
    at 1 6 "fn f(1: i32) {} fn main() {}" refl ∷ fine "fn f(_: i32) {} fn main() {}" refl ∷
    at 1 23 "fn main() { match 1 { x | 2 => {} _ => {} } }" refl ∷
    fine "fn main() { match 1 { 1 | 2 => {} _ => {} } }" refl ∷
    at 1 44 "struct S { a: i32 } fn f(s: S) { match s { S => {} } } fn main() {}" refl ∷
    fine "struct S; fn f(s: S) { match s { S => {} } } fn main() {}" refl ∷
    at 1 30 "struct S {} fn f(s: S) { let S = s; } fn main() {}" refl ∷
    fine "struct S {} fn f(s: S) { let S {} = s; } fn main() {}" refl ∷
    []

t19 : List (Case Rule.T19)
t19 =
    at 1 20 "fn main() { let x: [i32; 33]; }" refl ∷ fine "fn main() { let x: [i32; 32]; }" refl ∷
    at 1 9 "fn f(x: [i32; 33]) {} fn main() {}" refl ∷ fine "fn f(x: [i32; 32]) {} fn main() {}" refl ∷
    at 1 20 "fn main() { let x: (i32, i32, i32, i32, i32, i32, i32, i32, i32, i32, i32, i32,\ni32); }" refl ∷
    fine "fn main() { let x: (i32, i32, i32, i32, i32, i32, i32, i32, i32, i32, i32, i32); }" refl ∷
    at 1 13 "fn main() { (1, 1, 1, 1, 1, 1, 1, 1, 1, 1, 1, 1, 1); }" refl ∷
    fine "fn main() { (1, 1, 1, 1, 1, 1, 1, 1, 1, 1, 1, 1); }" refl ∷
    at_in 1 13 ("fn main() { [1, 1, 1, 1, 1, 1, 1, 1, 1, 1, 1, 1, 1, 1, 1, 1, 1, 1, 1, 1, 1, 1, 1, 1," ∷
    "1, 1, 1, 1, 1, 1, 1, 1, 1]; }" ∷ []) refl ∷
    fine_in ("fn main() { [1, 1, 1, 1, 1, 1, 1, 1, 1, 1, 1, 1, 1, 1, 1, 1, 1, 1, 1, 1, 1, 1, 1, 1," ∷
    "1, 1, 1, 1, 1, 1, 1, 1]; }" ∷ []) refl ∷
    at_in 1 1 ("struct S(i32, i32, i32, i32, i32, i32, i32, i32, i32, i32, i32, i32, i32, i32, i32," ∷
    "i32, i32, i32, i32, i32, i32, i32, i32, i32, i32, i32, i32, i32, i32, i32, i32, i32," ∷
    "i32); fn main() {}" ∷ []) refl ∷
    fine_in ("struct S(i32, i32, i32, i32, i32, i32, i32, i32, i32, i32, i32, i32, i32, i32, i32," ∷
    "i32, i32, i32, i32, i32, i32, i32, i32, i32, i32, i32, i32, i32, i32, i32, i32, i32);" ∷
    "fn main() {}" ∷ []) refl ∷
    at_in 1 10 ("enum E { V(i32, i32, i32, i32, i32, i32, i32, i32, i32, i32, i32, i32, i32, i32," ∷
    "i32, i32, i32, i32, i32, i32, i32, i32, i32, i32, i32, i32, i32, i32, i32, i32, i32," ∷
    "i32, i32) } fn main() {}" ∷ []) refl ∷
    at_in 1 1 ("enum E { V0, V1, V2, V3, V4, V5, V6, V7, V8, V9, V10, V11, V12, V13, V14, V15, V16," ∷
    "V17, V18, V19, V20, V21, V22, V23, V24, V25, V26, V27, V28, V29, V30, V31, V32, V33," ∷
    "V34, V35, V36, V37, V38, V39, V40, V41, V42, V43, V44, V45, V46, V47, V48, V49, V50," ∷
    "V51, V52, V53, V54, V55, V56, V57, V58, V59, V60, V61, V62, V63, V64 } fn main() {}" ∷ []) refl ∷
    fine_in ("enum E { V0, V1, V2, V3, V4, V5, V6, V7, V8, V9, V10, V11, V12, V13, V14, V15, V16," ∷
    "V17, V18, V19, V20, V21, V22, V23, V24, V25, V26, V27, V28, V29, V30, V31, V32, V33," ∷
    "V34, V35, V36, V37, V38, V39, V40, V41, V42, V43, V44, V45, V46, V47, V48, V49, V50," ∷
    "V51, V52, V53, V54, V55, V56, V57, V58, V59, V60, V61, V62, V63 } fn main() {}" ∷ []) refl ∷
    []
