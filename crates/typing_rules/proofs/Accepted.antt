-- Texts that are typed, and whose typed programs are well typed, by computation.
use Rattle.std.proofs.Common.{◌≡◌, true, List, [], ◌∷◌, ℕ, refl}
use Rattle.std.specs.Prelude.{codes}
use Rattle.typing_rules.proofs.Words.{lines, stands}

abbrev pub empty_main : List ℕ
empty_main = lines (
    codes "fn main() {}" ∷
    [])

empty_main_stands : stands empty_main ≡ true
empty_main_stands = refl

abbrev pub two_locals : List ℕ
two_locals = lines (
    codes "struct D(i32);" ∷
    codes "impl Drop for D { fn drop(&mut self) {} }" ∷
    codes "fn take(x: D) {}" ∷
    codes "fn main() { let a = D(1); let b = D(2); }" ∷
    [])

two_locals_stands : stands two_locals ≡ true
two_locals_stands = refl

abbrev pub break_in_operands : List ℕ
break_in_operands = lines (
    codes "struct D(i32);" ∷
    codes "impl Drop for D { fn drop(&mut self) {} }" ∷
    codes "fn take(x: D) {}" ∷
    codes "fn main() { loop { (D(1), D(2), (D(3), D(4), break), D(5)); } }" ∷
    [])

break_in_operands_stands : stands break_in_operands ≡ true
break_in_operands_stands = refl

abbrev pub panic_in_operands : List ℕ
panic_in_operands = lines (
    codes "struct D(i32);" ∷
    codes "impl Drop for D { fn drop(&mut self) {} }" ∷
    codes "fn take(x: D) {}" ∷
    codes "fn a() -> D { D(1) }" ∷
    codes "fn t() -> D { D(2) }" ∷
    codes "fn g(r: &D) -> D { D(3) }" ∷
    codes "fn f(x: D, y: D, z: D) {}" ∷
    codes "fn main() { f(a(), g(&t()), panic!()); }" ∷
    [])

panic_in_operands_stands : stands panic_in_operands ≡ true
panic_in_operands_stands = refl

abbrev pub tail : List ℕ
tail = lines (
    codes "struct D(i32);" ∷
    codes "impl Drop for D { fn drop(&mut self) {} }" ∷
    codes "fn take(x: D) {}" ∷
    codes "fn g(r: &D) -> i32 { 5 }" ∷
    codes "fn h() -> i32 { let x = D(1); g(&D(2)) }" ∷
    codes "fn main() { print(h()); }" ∷
    [])

tail_stands : stands tail ≡ true
tail_stands = refl

abbrev pub params : List ℕ
params = lines (
    codes "struct D(i32);" ∷
    codes "impl Drop for D { fn drop(&mut self) {} }" ∷
    codes "fn take(x: D) {}" ∷
    codes "fn p((x, _): (D, D), (_, y): (D, D)) {}" ∷
    codes "fn main() { p((D(1), D(2)), (D(3), D(4))); }" ∷
    [])

params_stands : stands params ≡ true
params_stands = refl

abbrev pub let_parts : List ℕ
let_parts = lines (
    codes "struct D(i32);" ∷
    codes "impl Drop for D { fn drop(&mut self) {} }" ∷
    codes "fn take(x: D) {}" ∷
    codes "fn pair() -> (D, D) { (D(1), D(2)) }" ∷
    codes "fn main() { let (a, _) = pair(); print(7); }" ∷
    [])

let_parts_stands : stands let_parts ≡ true
let_parts_stands = refl

abbrev pub moved_if : List ℕ
moved_if = lines (
    codes "struct D(i32);" ∷
    codes "impl Drop for D { fn drop(&mut self) {} }" ∷
    codes "fn take(x: D) {}" ∷
    codes "fn main() { let x = D(1); if ask() == 0 { take(x); } }" ∷
    [])

moved_if_stands : stands moved_if ≡ true
moved_if_stands = refl

abbrev pub moved_again : List ℕ
moved_again = lines (
    codes "struct D(i32);" ∷
    codes "impl Drop for D { fn drop(&mut self) {} }" ∷
    codes "fn take(x: D) {}" ∷
    codes "fn main() { let x = D(1); loop { take(x); } }" ∷
    [])

moved_again_stands : stands moved_again ≡ true
moved_again_stands = refl

abbrev pub assigned_again : List ℕ
assigned_again = lines (
    codes "struct D(i32);" ∷
    codes "impl Drop for D { fn drop(&mut self) {} }" ∷
    codes "fn take(x: D) {}" ∷
    codes "fn main() { let mut x = D(1); take(x); x = D(2); take(x); }" ∷
    [])

assigned_again_stands : stands assigned_again ≡ true
assigned_again_stands = refl

abbrev pub part_of_a_box : List ℕ
part_of_a_box = lines (
    codes "struct D(i32);" ∷
    codes "impl Drop for D { fn drop(&mut self) {} }" ∷
    codes "fn take(x: D) {}" ∷
    codes "fn main() { let b = Box::new((D(1), D(2))); take(b.0); }" ∷
    [])

part_of_a_box_stands : stands part_of_a_box ≡ true
part_of_a_box_stands = refl

abbrev pub struct_fields : List ℕ
struct_fields = lines (
    codes "struct N(i32);" ∷
    codes "impl Drop for N { fn drop(&mut self) { if self.0 < 0 { panic!() } } }" ∷
    codes "struct S { a: N, b: N, c: N }" ∷
    codes "fn main() { let s = S { a: N(-1), b: N(2), c: N(3) }; }" ∷
    [])

struct_fields_stands : stands struct_fields ≡ true
struct_fields_stands = refl

abbrev pub trait_objects : List ℕ
trait_objects = lines (
    codes "struct D(i32);" ∷
    codes "impl Drop for D { fn drop(&mut self) {} }" ∷
    codes "fn take(x: D) {}" ∷
    codes "struct E(i32);" ∷
    codes "impl Drop for E { fn drop(&mut self) {} }" ∷
    codes "trait Show { fn show(&self); }" ∷
    codes "impl Show for D { fn show(&self) { print(self.0); } }" ∷
    codes "impl Show for E { fn show(&self) { print(9); } }" ∷
    codes "fn pick() -> Box<dyn Show> { if ask() == 0 { Box::new(D(1)) } else { Box::new(E(2)) } }" ∷
    codes "fn run(b: Box<dyn Show>) { b.show(); panic!(); }" ∷
    codes "fn main() { run(pick()); }" ∷
    [])

trait_objects_stands : stands trait_objects ≡ true
trait_objects_stands = refl

abbrev pub guarded_match : List ℕ
guarded_match = lines (
    codes "struct D(i32);" ∷
    codes "impl Drop for D { fn drop(&mut self) {} }" ∷
    codes "fn take(x: D) {}" ∷
    codes "enum J { None, One(D, i32) }" ∷
    codes "fn main() { let j = J::One(D(1), 4); match j { J::One(d, n) if n == ask() => take(d)," ∷
    codes "J::One(_, n) => print(n), J::None => {} } }" ∷
    [])

guarded_match_stands : stands guarded_match ≡ true
guarded_match_stands = refl

abbrev pub part_of_self : List ℕ
part_of_self = lines (
    codes "struct T(i32);" ∷
    codes "impl Drop for T { fn drop(&mut self) { self.0 = 0; } }" ∷
    codes "fn main() {}" ∷
    [])

part_of_self_stands : stands part_of_self ≡ true
part_of_self_stands = refl

abbrev pub job_queue : List ℕ
job_queue = lines (
    codes "struct Buf(i32);" ∷
    codes "impl Drop for Buf {" ∷
    codes "    fn drop(&mut self) { print(self.0); }" ∷
    codes "}" ∷
    codes "trait Job {" ∷
    codes "    fn cost(&self) -> i32;" ∷
    codes "    fn run(&mut self, turn: i32) -> bool;" ∷
    codes "}" ∷
    codes "struct Send { head: Buf, body: Buf, sent: i32 }" ∷
    codes "struct Fail(Buf);" ∷
    codes "impl Send {" ∷
    codes "    fn new(n: i32) -> Self {" ∷
    codes "        Send { head: Buf(n), body: Buf(n + 1), sent: 0 }" ∷
    codes "    }" ∷
    codes "}" ∷
    codes "impl Job for Send {" ∷
    codes "    fn cost(&self) -> i32 { 2 - self.sent }" ∷
    codes "    fn run(&mut self, turn: i32) -> bool {" ∷
    codes "        self.sent = self.sent + 1;" ∷
    codes "        if self.sent == 1 {" ∷
    codes "            self.body = Buf(turn);" ∷
    codes "            return false;" ∷
    codes "        }" ∷
    codes "        true" ∷
    codes "    }" ∷
    codes "}" ∷
    codes "impl Job for Fail {" ∷
    codes "    fn cost(&self) -> i32 { 1 }" ∷
    codes "    fn run(&mut self, turn: i32) -> bool {" ∷
    codes "        if turn > 2 { panic!() }" ∷
    codes "        true" ∷
    codes "    }" ∷
    codes "}" ∷
    codes "enum Slot { Free, Ready(Box<dyn Job>), Done(i32) }" ∷
    codes "struct Queue { a: Slot, b: Slot }" ∷
    codes "fn step(slot: Slot, turn: i32) -> Slot {" ∷
    codes "    match slot {" ∷
    codes "        Slot::Ready(mut job) => {" ∷
    codes "            if job.cost() > 3 {" ∷
    codes "                return Slot::Free;" ∷
    codes "            }" ∷
    codes "            if job.run(turn) {" ∷
    codes "                return Slot::Done(turn);" ∷
    codes "            }" ∷
    codes "            Slot::Ready(job)" ∷
    codes "        }" ∷
    codes "        other => other," ∷
    codes "    }" ∷
    codes "}" ∷
    codes "fn is_done(slot: &Slot) -> bool {" ∷
    codes "    match *slot {" ∷
    codes "        Slot::Done(_) => true," ∷
    codes "        _ => false," ∷
    codes "    }" ∷
    codes "}" ∷
    codes "fn main() {" ∷
    codes "    let mut q = Queue {" ∷
    codes "        a: Slot::Ready(Box::new(Send::new(10)))," ∷
    codes "        b: Slot::Ready(Box::new(Fail(Buf(20))))," ∷
    codes "    };" ∷
    codes "    let mut turn = ask();" ∷
    codes "    while !(is_done(&q.a) && is_done(&q.b)) {" ∷
    codes "        q.a = step(q.a, turn);" ∷
    codes "        q.b = step(q.b, turn);" ∷
    codes "        turn = turn + 1;" ∷
    codes "    }" ∷
    codes "    print(turn);" ∷
    codes "}" ∷
    [])

job_queue_stands : stands job_queue ≡ true
job_queue_stands = refl

abbrev pub element : List ℕ
element = lines (
    codes "struct D(i32);" ∷
    codes "impl Drop for D { fn drop(&mut self) {} }" ∷
    codes "fn take(x: D) {}" ∷
    codes "fn main() { let a = [D(5), D(6)]; let i: usize = 2; print(a[i].0); }" ∷
    [])

element_stands : stands element ≡ true
element_stands = refl

abbrev pub assigned : List ℕ
assigned = lines (
    codes "struct N(i32);" ∷
    codes "impl Drop for N { fn drop(&mut self) { if self.0 < 0 { panic!() } } }" ∷
    codes "fn main() { let mut x = N(-1); x = N(2); }" ∷
    [])

assigned_stands : stands assigned ≡ true
assigned_stands = refl

abbrev pub result : List ℕ
result = lines (
    codes "struct N(i32);" ∷
    codes "impl Drop for N { fn drop(&mut self) { if self.0 < 0 { panic!() } } }" ∷
    codes "fn h(p: N) -> N { N(5) }" ∷
    codes "fn main() { h(N(-1)); }" ∷
    [])

result_stands : stands result ≡ true
result_stands = refl

abbrev pub closure : List ℕ
closure = lines (
    codes "struct D(i32);" ∷
    codes "impl Drop for D { fn drop(&mut self) {} }" ∷
    codes "fn take(x: D) {}" ∷
    codes "fn main() { let a = D(1); let b = D(2); let c = move [b, a] |n: i32| { print(n); take(a);" ∷
    codes "}; c(4); }" ∷
    [])

closure_stands : stands closure ≡ true
closure_stands = refl

abbrev pub forgotten : List ℕ
forgotten = lines (
    codes "struct D(i32);" ∷
    codes "impl Drop for D { fn drop(&mut self) {} }" ∷
    codes "fn take(x: D) {}" ∷
    codes "fn main() { forget((D(1), Box::new(D(2)))); }" ∷
    [])

forgotten_stands : stands forgotten ≡ true
forgotten_stands = refl

abbrev pub sum_ : List ℕ
sum_ = lines (
    codes "fn main() { print(2147483647 + ask()); }" ∷
    [])

sum_stands : stands sum_ ≡ true
sum_stands = refl

abbrev pub into_a_part : List ℕ
into_a_part = lines (
    codes "struct D(i32);" ∷
    codes "impl Drop for D { fn drop(&mut self) {} }" ∷
    codes "fn take(x: D) {}" ∷
    codes "fn main() { let t = (D(1), D(2)); let s = t; t.0 = D(3); }" ∷
    [])

into_a_part_stands : stands into_a_part ≡ true
into_a_part_stands = refl

abbrev pub soak : List ℕ
soak = lines (
    codes "struct D(i32);" ∷
    codes "impl Drop for D { fn drop(&mut self) { print(self.0); } }" ∷
    codes "fn f0(x: D) { let y = D(0); if ask() == 0 { drop(x); } }" ∷
    codes "fn f1(x: D) { let y = D(1); if ask() == 0 { f0(x); } }" ∷
    codes "fn main() { f1(D(2)); }" ∷
    [])

soak_stands : stands soak ≡ true
soak_stands = refl

abbrev pub calls_itself : List ℕ
calls_itself = lines (
    codes "fn main() { main(); }" ∷
    [])

calls_itself_stands : stands calls_itself ≡ true
calls_itself_stands = refl

abbrev pub references : List ℕ
references = lines (
    codes "struct D(i32);" ∷
    codes "impl Drop for D { fn drop(&mut self) {} }" ∷
    codes "fn take(x: D) {}" ∷
    codes "fn change(r: &mut D) { r.0 = 1; look(r); *r = D(2); }" ∷
    codes "fn look(r: &D) -> i32 { r.0 }" ∷
    codes "fn main() { let mut d = D(1); change(&mut d); print(look(&d)); }" ∷
    [])

references_stands : stands references ≡ true
references_stands = refl

abbrev pub methods : List ℕ
methods = lines (
    codes "struct P { a: i32 }" ∷
    codes "impl P {" ∷
    codes " fn new(a: i32) -> Self { P { a } }" ∷
    codes " fn add(&mut self, n: i32) { self.a = self.a + n; }" ∷
    codes " fn get(&self) -> i32 { self.a }" ∷
    codes " fn into(self) -> i32 { self.a }" ∷
    codes "}" ∷
    codes "fn main() { let mut p = P::new(1); p.add(2); let b = Box::new(P::new(3)); print(b.get() +" ∷
    codes "P::get(&p)); print(p.into()); }" ∷
    [])

methods_stands : stands methods ≡ true
methods_stands = refl

abbrev pub loops : List ℕ
loops = lines (
    codes "fn main() { let mut n = 0; let k: i64 = 'a: loop { loop { break 'a 7; } }; while n < 3 { n" ∷
    codes "= n + 1; if n == 2 { continue; } } 'b: while true { break 'b; } }" ∷
    [])

loops_stands : stands loops ≡ true
loops_stands = refl

abbrev pub patterns : List ℕ
patterns = lines (
    codes "enum E { A, B(i32, bool), C { x: i32 } }" ∷
    codes "#[derive(Clone, Copy)]" ∷
    codes "struct U;" ∷
    codes "fn f(e: E) -> i32 { match e { E::A => 0, E::B(1, _) | E::B(2, true) => 1, E::B(n, ..) => n," ∷
    codes "E::C { x } => x } }" ∷
    codes "fn main() { let U = U; let (a, (b, ..)): (i32, (bool, i64)) = (1, (true, 2)); let [x, _] =" ∷
    codes "[3, 4]; if let E::C { x: y } = (E::C { x: 5 }) { print(y); } while let E::A = E::A { break;" ∷
    codes "} print(f(E::B(-1, !b)) + a + x); }" ∷
    [])

patterns_stands : stands patterns ≡ true
patterns_stands = refl

abbrev pub hiding : List ℕ
hiding = lines (
    codes "fn main() { let x = 1; let x = true; { let x = 2; print(x); } if x { } }" ∷
    [])

hiding_stands : stands hiding ≡ true
hiding_stands = refl

abbrev pub literals : List ℕ
literals = lines (
    codes "fn main() { let a: u64 = 18446744073709551615; let b = -2147483648; let c: usize = 1 + 2 *" ∷
    codes "3; let d = 1 < 2_i64; let e = -(5); let f: i64 = -9223372036854775808; let g = (1) + 2_u32;" ∷
    codes "}" ∷
    [])

literals_stands : stands literals ≡ true
literals_stands = refl

abbrev pub never : List ℕ
never = lines (
    codes "fn f() -> i32 { return 1; }" ∷
    codes "fn g() -> ! { loop {} }" ∷
    codes "fn h(b: bool) -> i32 { if b { g() } else { 2 } }" ∷
    codes "fn main() { let t: (i32, bool) = (panic!(), true); let x = h(true) + f(); match g() { _ =>" ∷
    codes "{} } }" ∷
    [])

never_stands : stands never ≡ true
never_stands = refl

abbrev pub nested_closures : List ℕ
nested_closures = lines (
    codes "struct D(i32);" ∷
    codes "impl Drop for D { fn drop(&mut self) {} }" ∷
    codes "fn take(x: D) {}" ∷
    codes "fn main() { let d = D(1); let n = 2; let f = move [d, n] || -> i32 { let g = move [n] |k:" ∷
    codes "i32| -> i32 { n + k }; take(d); g(3) }; print(f()); }" ∷
    [])

nested_closures_stands : stands nested_closures ≡ true
nested_closures_stands = refl
