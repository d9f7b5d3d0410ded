-- More texts that are typed, and whose typed programs are well typed, by computation: each form at least once.
use Rattle.std.proofs.Common.{◌≡◌, true, [], ◌∷◌, refl}
use Rattle.std.specs.Prelude.{codes}
use Rattle.typing_rules.proofs.Words.{lines, stands}

unit_values : stands (lines (
    codes "fn f(u: ()) -> () { () }" ∷
    codes "fn main() { let u = (); let v: () = f(u); f(()); let () = v; let (..) = (); }" ∷
    [])) ≡ true
unit_values = refl

one_tuples : stands (lines (
    codes "fn main() { let t = (1,); let (a,) = t; let x: (i32,) = (2,); let (b) = (3); print(a + b +" ∷
    codes "x.0); }" ∷
    [])) ≡ true
one_tuples = refl

self_paths : stands (lines (
    codes "enum E { V, W(i32) }" ∷
    codes "impl E { fn new() -> Self { Self::W(1) } fn is(&self) -> bool { match *self { Self::V =>" ∷
    codes "true, Self::W(_) => false } } }" ∷
    codes "struct S(i32);" ∷
    codes "impl S { fn new() -> Self { Self(1) } fn get(self) -> i32 { let Self(n) = self; n } }" ∷
    codes "struct P { a: i32 }" ∷
    codes "impl P { fn new() -> Self { Self { a: 1 } } }" ∷
    codes "struct U;" ∷
    codes "impl U { fn new() -> Self { Self } fn f(self) { let Self = self; } }" ∷
    codes "fn main() { E::new().is(); S::new().get(); P::new().a; U::new().f(); }" ∷
    [])) ≡ true
self_paths = refl

through : stands (lines (
    codes "struct D(i32);" ∷
    codes "impl Drop for D { fn drop(&mut self) {} }" ∷
    codes "fn take(x: D) {}" ∷
    codes "fn look(r: &D) -> i32 { r.0 }" ∷
    codes "fn change(r: &mut D) {}" ∷
    codes "struct B { d: Box<(D, i32)> }" ∷
    codes "fn f(b: &B) -> i32 { b.d.1 + (*b.d).0.0 + look(&b.d.0) }" ∷
    codes "fn g(b: &mut B) { b.d.1 = 2; change(&mut b.d.0); b.d.0 = D(1); *b.d = (D(2), 3); }" ∷
    codes "fn main() { let mut b = B { d: Box::new((D(1), 2)) }; g(&mut b); print(f(&b)); take(b.d.0);" ∷
    codes "}" ∷
    [])) ≡ true
through = refl

arrays : stands (lines (
    codes "fn main() { let mut a = [[1, 2], [3, 4]]; let i: usize = 1; a[0][i] = a[i][0] + 5; let b:" ∷
    codes "[[u32; 1]; 2] = [[1], [2]]; let [[c], _] = b; let e: [i32; 0] = []; let [x, ..] = [D(1)," ∷
    codes "D(2)]; }" ∷
    codes "struct D(i32);" ∷
    [])) ≡ true
arrays = refl

shadowed_function : stands (lines (
    codes "fn f(n: i32) -> i32 { n }" ∷
    codes "fn main() { let f = move [] |n: i32| -> bool { n == 1 }; let b: bool = f(2); }" ∷
    [])) ≡ true
shadowed_function = refl

passed_over_variable : stands (lines (
    codes "fn f(n: i32) -> i32 { n }" ∷
    codes "fn main() { let f = 1; print(f(f)); }" ∷
    [])) ≡ true
passed_over_variable = refl

copies : stands (lines (
    codes "#[derive(Clone, Copy)]" ∷
    codes "struct P(i32, bool);" ∷
    codes "#[derive(Copy, Clone, Debug)]" ∷
    codes "enum E { V(P), W }" ∷
    codes "fn f(p: P) -> P { p }" ∷
    codes "fn main() { let p = P(1, true); f(p); f(p); let e = E::V(p); let g = e; let c = move [p] ||" ∷
    codes "-> i32 { p.0 }; c(); c(); let t = (p, 1); t; t.0; let a = [p]; a[0]; a; print(c()); match e" ∷
    codes "{ E::V(q) => { q; } E::W => {} } e; g; }" ∷
    [])) ≡ true
copies = refl

virtual_methods : stands (lines (
    codes "trait Tr { fn get(&self) -> i32; fn set(&mut self, n: i32); }" ∷
    codes "struct S(i32);" ∷
    codes "impl Tr for S { fn get(&self) -> i32 { self.0 } fn set(&mut self, n: i32) { self.0 = n; } }" ∷
    codes "struct H { b: Box<dyn Tr>, c: Box<Box<dyn Tr>> }" ∷
    codes "fn make() -> Box<dyn Tr> { let s = Box::new(S(1)); s }" ∷
    codes "fn main() { let mut h = H { b: Box::new(S(2)), c: Box::new(make()) }; h.b.set(3);" ∷
    codes "h.c.set(h.b.get()); let _: Box<dyn Tr> = Box::new(S(4)); let d: Box<dyn Tr> = if h.b.get()" ∷
    codes "== 1 { make() } else { h.b }; print(d.get()); S(1).set(2); }" ∷
    [])) ≡ true
virtual_methods = refl

coerced_parts : stands (lines (
    codes "trait Tr {}" ∷
    codes "struct S;" ∷
    codes "impl Tr for S {}" ∷
    codes "enum E { V(Box<dyn Tr>) }" ∷
    codes "fn f(b: Box<dyn Tr>) -> Box<dyn Tr> { return b; }" ∷
    codes "fn main() { f(Box::new(S)); let e = E::V(Box::new(S)); let t: (Box<dyn Tr>, i32) =" ∷
    codes "(Box::new(S), 1); let a: [Box<dyn Tr>; 1] = [Box::new(S)]; let mut x: Box<dyn Tr> =" ∷
    codes "Box::new(S); x = Box::new(S); let l: Box<dyn Tr> = loop { break Box::new(S); }; let m:" ∷
    codes "Box<dyn Tr> = match 1 { 1 => Box::new(S), _ => { Box::new(S) } }; }" ∷
    [])) ≡ true
coerced_parts = refl

never_values : stands (lines (
    codes "fn stop() -> ! { panic!() }" ∷
    codes "fn f(b: bool) -> i32 { if b { return 1 } else { stop() } }" ∷
    codes "fn g() -> i32 { loop { if ask() == 0 { break 2; } } }" ∷
    codes "fn h(n: i32) -> bool { match n { 0 => return false, 1 => stop(), _ => true } }" ∷
    codes "fn i() -> i32 { stop(); }" ∷
    codes "fn j() { let x: i32 = return; }" ∷
    codes "fn k() -> bool { true && (return false) }" ∷
    codes "fn main() { let x = 1 + f(true); while ask() == 1 { continue; } let y = g() < 3; let s: i32" ∷
    codes "= stop(); if stop() {} print(stop()); drop(stop()); [1, stop()]; (stop(), 2); }" ∷
    [])) ≡ true
never_values = refl

loops_and_labels : stands (lines (
    codes "fn main() { let mut n = 0; 'a: while n < 3 { 'b: loop { n = n + 1; if n == 1 { continue 'a;" ∷
    codes "} break 'b; } } let x = 'c: loop { let y = loop { break 'c 1; }; }; 'd: while let 0 = n {" ∷
    codes "break 'd; } while { n == 7 } { break; } let z: u64 = loop { break 5; }; }" ∷
    [])) ≡ true
loops_and_labels = refl

or_patterns : stands (lines (
    codes "enum E { A(i32, bool), B { x: i32 }, C }" ∷
    codes "fn f(e: E) -> i32 { if let E::A(1, _) | E::B { x: 2 } = e { return 1; } match e { E::A(..)" ∷
    codes "| E::C => 2, E::B { .. } => 3 } }" ∷
    codes "fn g(t: (i32, bool)) { match t { (1 | 2, true | false) => {} (_, _) => {} } }" ∷
    codes "fn main() { f(E::C); g((1, true)); }" ∷
    [])) ≡ true
or_patterns = refl

let_without_value : stands (lines (
    codes "struct D;" ∷
    codes "fn main() { let x: i32; x = 1; let d: D; let (a, b): (i32, D); let _: i32; }" ∷
    [])) ≡ true
let_without_value = refl

one_variant : stands (lines (
    codes "enum E { V { a: i32, b: bool } }" ∷
    codes "fn f(E::V { a, .. }: E) -> i32 { a }" ∷
    codes "fn main() { let E::V { a: x, b } = (E::V { b: true, a: 1 }); print(f(E::V { a: x, b })); }" ∷
    [])) ≡ true
one_variant = refl

closures_with_parts : stands (lines (
    codes "struct D(i32);" ∷
    codes "fn main() { let k = 2; let c = move [k] |(a, b): (i32, D), _: bool| -> i32 { let D(n) = b;" ∷
    codes "a + n + k }; print(c((1, D(2)), true)); let d = move [] || { return; }; d(); let e = move" ∷
    codes "[c] |k: i32| -> i32 { c((k, D(1)), false) }; print(e(3)); }" ∷
    [])) ≡ true
closures_with_parts = refl

numbers : stands (lines (
    codes "fn f(a: u64, b: i64) -> usize { 1 }" ∷
    codes "fn main() { f(1, -2); let x: u32 = 1 + 2 * (3 - 4) / 5 % 6; let y = -(-1) - -1; let z = 1 <" ∷
    codes "2_u64 && 3_i64 >= -4; let w = 0 - 2147483648_i64; let v: i64 = (1 + 1) * 2_i64; let t =" ∷
    codes "007; let s = 1_000_u32; }" ∷
    [])) ≡ true
numbers = refl

statements : stands (lines (
    codes "struct D;" ∷
    codes "fn main() { ;; {} if true {} else {} match 1 { _ => {} } loop { break; } { D } ; (D); D;" ∷
    codes "while false {} if let 1 = 2 {} ; }" ∷
    [])) ≡ true
statements = refl

moves_of_parts : stands (lines (
    codes "struct D(i32);" ∷
    codes "struct P { a: D, b: D }" ∷
    codes "fn take(d: D) {}" ∷
    codes "fn f(p: P) { take(p.a); take(p.b); }" ∷
    codes "fn g(b: Box<P>) { take(b.a); let P { b, .. } = *b; take(b); }" ∷
    codes "fn h(t: (D, (D, D))) { let (a, (_, c)) = t; take(a); take(c); }" ∷
    codes "fn main() {}" ∷
    [])) ≡ true
moves_of_parts = refl

borrowed_temporaries : stands (lines (
    codes "struct D(i32);" ∷
    codes "impl Drop for D { fn drop(&mut self) {} }" ∷
    codes "fn take(x: D) {}" ∷
    codes "fn look(r: &D) -> i32 { r.0 }" ∷
    codes "fn change(r: &mut D) {}" ∷
    codes "struct S;" ∷
    codes "impl S { fn m(&self) -> i32 { 1 } fn n(&mut self) {} }" ∷
    codes "fn main() { look(&D(1)); change(&mut D(2)); S.m(); S.n(); Box::new(S).m(); (S).m();" ∷
    codes "look(&(D(1), 2).0); match look(&D(3)) { _ => {} } }" ∷
    [])) ≡ true
borrowed_temporaries = refl

receivers : stands (lines (
    codes "struct S(i32);" ∷
    codes "impl S { fn a(self) -> i32 { self.0 } fn b(&self) -> i32 { self.0 } fn c(&mut self, s: &S)" ∷
    codes "{ self.0 = s.b(); } fn d(&self) -> i32 { S::b(self) + self.b() } fn e(&mut self) -> i32 {" ∷
    codes "self.b() + S::b(self) } fn f() -> S { S(1) } }" ∷
    codes "fn g(s: &S, t: &mut S) { t.c(s); t.c(&S(1)); s.d(); t.e(); S::c(t, s); }" ∷
    codes "fn main() { let mut s = S::f(); s.c(&S(2)); g(&S(3), &mut s); print(S::a(s)); }" ∷
    [])) ≡ true
receivers = refl

own_type_in_a_box : stands (lines (
    codes "struct L { next: Box<Self>, end: bool }" ∷
    codes "enum N { Nil, Cons(i32, Box<N>) }" ∷
    codes "fn len(n: &N) -> i32 { match *n { N::Nil => 0, N::Cons(_, ..) => 1 } }" ∷
    codes "fn main() { let n = N::Cons(1, Box::new(N::Nil)); print(len(&n)); match n { N::Cons(x," ∷
    codes "rest) => { print(x); len(&*rest); } N::Nil => {} } }" ∷
    [])) ≡ true
own_type_in_a_box = refl

built_in_names_as_variables : stands (lines (
    codes "fn main() { let print = 1; let drop = 2; let ask = 3; print(print + drop + ask); let main =" ∷
    codes "ask(); let x = main; }" ∷
    [])) ≡ true
built_in_names_as_variables = refl

types_named_like_variables : stands (lines (
    codes "struct S { s: i32 }" ∷
    codes "fn s(s: S) -> i32 { s.s }" ∷
    codes "fn main() { let s_ = S { s: 1 }; print(s(s_)); }" ∷
    [])) ≡ true
types_named_like_variables = refl

binding_named_like_an_enum : stands (lines (
    codes "struct D;" ∷
    codes "enum E { A(D) }" ∷
    codes "trait Tr {}" ∷
    codes "fn main() { let x = E::A(D); let E = x; let Tr = 1; match E { E::A(_) => {} } let (main) =" ∷
    codes "E; }" ∷
    [])) ≡ true
binding_named_like_an_enum = refl

unit_struct_patterns : stands (lines (
    codes "struct U;" ∷
    codes "fn f(u: U, t: (U, i32)) { let U = u; match t { (U, n) => print(n) } }" ∷
    codes "fn main() { f(U, (U {}, 1)); }" ∷
    [])) ≡ true
unit_struct_patterns = refl
