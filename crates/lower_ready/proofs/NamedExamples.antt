-- Worked examples, by computation: in the raw bodies of accepted texts what references name stays on all paths of so
-- many blocks, and the watch finds nothing bad in the runs of the source; where something of it is taken between the
-- making and a use, the definition says so.
use Rattle.std.proofs.Common.{◌≡◌, ℕ, zero, suc, ◌+◌, ◌==◌, ◌&&◌, not, Bool, true, false, List, [], ◌∷◌, ◌++◌, map, flat_map, length, slice_get, refl}
use Rattle.std.specs.Prelude.{codes}
use Rattle.std.specs.List.{list_all}
use Rattle.std.specs.Option.{option_map_or}
use Rattle.mir_ty.specs.ItemTable.{ItemTable}
use Rattle.store_model.specs.Places.Place.{Place, whole_local}
use Rattle.cfg_graph.specs.declared.graph.Body.{Body}
use Rattle.cfg_graph.specs.Edges.{ToBlock, LeavesBody}
use Rattle.cfg_graph.specs.Moves.Actions.{actions_on}
use Rattle.cfg_graph.specs.Moves.Gone.{PathAction}
use Rattle.cfg_graph.specs.Moves.Paths.{PathWay, ways}
use Rattle.cfg_graph.specs.NamedPlaces.{references_made, keeps_named}
use Rattle.cfg_graph.specs.Uses.{PlaceUse, Moves, Stores, Drops}
use Rattle.typed_tree.specs.Tree.{BodyTree}
use Rattle.typing_rules.proofs.Words.{Outcome, Typed, outcome, lines}
use Rattle.store_model.specs.Effects.{NoChoice, Out, Go, Unwind, Halts}
use Rattle.src_meaning.specs.Locals.Effects.{at_locals}
use Rattle.src_meaning.specs.Locals.OfBody.{local_of, local_ty}
use Rattle.src_meaning.specs.Programs.{activation}
use Rattle.lower_rules.specs.Lower.{body_of}
use Rattle.lower_ready.proofs.NamedByRuns.{at_first}
use Rattle.lower_ready.proofs.NamedWatch.{NamedState, see}
use Rattle.lower_ready.proofs.Noting.{Watched, watching}

module _ (items : ItemTable) (body : Body) where
  abbrev exits : PathWay → List ℕ
  exits way = elim way.exit [ ToBlock n ↦ n ∷ [] | LeavesBody ↦ [] ]

  abbrev next : ℕ → List ℕ
  next n = option_map_or (λ block. flat_map exits (ways items body block.term)) (slice_get body.blocks n) []

  -- a block, and the paths from the next ones on
  abbrev before_each : ℕ → List (List ℕ) → List (List ℕ)
  before_each n [] = (n ∷ []) ∷ []
  before_each n (path ∷ paths) = map (λ p. n ∷ p) (path ∷ paths)

  -- so many blocks long, or until the body is left
  abbrev paths : ℕ → ℕ → List (List ℕ)
  paths zero n = (n ∷ []) ∷ []
  paths (suc k) n = before_each n (flat_map (paths k) (next n))

  abbrev stays_on : List (ℕ × Place) → List ℕ → Bool
  stays_on made path = list_all (λ one. keeps_named body (actions_on body path) one.0) made

  abbrev stays : ℕ → Bool
  stays k = list_all (stays_on (references_made body)) (paths k 0)

  -- a reference is made, and its place or a place around it is taken, before a use or after the last one
  abbrev acted : PlaceUse → Place → ℕ → PathAction
  acted how place line = record { how = how; place = place; block = 0; line = line }

  abbrev whole_of : Place → Place
  whole_of place = whole_local place.local

  abbrev made_so : ℕ → PathAction
  made_so local = acted Stores (whole_local local) 0

  abbrev used_so : ℕ → ℕ → PathAction
  used_so local line = acted Moves (whole_local local) line

  abbrev taken_is_told : ℕ × Place → Bool
  taken_is_told one =
      not (keeps_named body (made_so one.0 ∷ acted Moves one.1 1 ∷ used_so one.0 2 ∷ []) one.0)
      && not (keeps_named body (made_so one.0 ∷ acted Drops (whole_of one.1) 1 ∷ used_so one.0 2 ∷ []) one.0)
      && keeps_named body (made_so one.0 ∷ used_so one.0 1 ∷ acted Drops one.1 2 ∷ []) one.0
      && keeps_named body (made_so one.0 ∷ acted Drops one.1 1 ∷ made_so one.0 ∷ used_so one.0 2 ∷ []) one.0

  abbrev all_told : Bool
  all_told = list_all taken_is_told (references_made body)

-- nor does the watch find anything bad in the runs of the source, by whatever choices, so many at most
module _ (items : ItemTable) (tree : BodyTree) (local : ℕ) where
  abbrev watched : List Bool → Out (Watched NamedState)
  watched list =
      activation items
      (at_locals (local_of items tree) (watching items (local_ty items tree) (λ call. see (body_of items tree) local)))
      (suc (length list)) tree (record { seen = at_first; choices = list })

  abbrev is_fine : List Bool → Out (Watched NamedState) → (List Bool → Bool) → Bool
  is_fine list (Go w) rest = not w.seen.is_bad
  is_fine list (Unwind w) rest = not w.seen.is_bad
  is_fine list (Halts NoChoice w) rest =
      not w.seen.is_bad && rest (list ++ false ∷ []) && rest (list ++ true ∷ [])
  is_fine list (Halts halt w) rest = not w.seen.is_bad

  abbrev none_bad : ℕ → List Bool → Bool
  none_bad zero list = true
  none_bad (suc n) list = is_fine list (watched list) (none_bad n)

abbrev runs_fine : ItemTable → BodyTree → Bool
runs_fine items tree =
    list_all (λ one. none_bad items tree one.0 7 []) (references_made (body_of items tree))

-- how many references the bodies of a text make
abbrev made_in : ItemTable → List BodyTree → ℕ
made_in items [] = 0
made_in items (tree ∷ trees) = length (references_made (body_of items tree)) + made_in items trees

abbrev all_stay : ℕ → ItemTable → List BodyTree → Bool
all_stay k items [] = true
all_stay k items (tree ∷ trees) =
    stays items (body_of items tree) k && all_told items (body_of items tree) && runs_fine items tree
    && all_stay k items trees

abbrev program_stays : ℕ → ℕ → Outcome → Bool
program_stays k made (Typed p) = all_stay k p.items p.bodies && (made_in p.items p.bodies == made)
program_stays k made other = false

-- so many references are made, and what each of them names stays
abbrev text_stays : ℕ → ℕ → List ℕ → Bool
text_stays k made text = program_stays k made (outcome text)

-- a value is copied while a reference to it waits
copied : text_stays 9 1 (lines (
    codes "fn h(a: &i32, b: i32) {}" ∷
    codes "fn main() { let x = 1; h(&x, x); }" ∷
    [])) ≡ true
copied = refl

-- another local is moved
other_moved : text_stays 9 1 (lines (
    codes "struct S(i32);" ∷
    codes "fn g(a: &S, b: S) {}" ∷
    codes "fn main() { let s = S(1); let t = S(2); g(&s, t); }" ∷
    [])) ≡ true
other_moved = refl

-- a part is moved beside the one that is named
parts_apart : text_stays 9 1 (lines (
    codes "struct S(i32);" ∷
    codes "struct P { a: S, b: S }" ∷
    codes "fn g(a: &S, b: S) {}" ∷
    codes "fn main() { let p = P { a: S(1), b: S(2) }; g(&p.a, p.b); }" ∷
    [])) ≡ true
parts_apart = refl

-- a part is dropped and stored into beside it
part_assigned : text_stays 9 1 (lines (
    codes "struct S(i32);" ∷
    codes "impl Drop for S { fn drop(&mut self) {} }" ∷
    codes "struct P { a: S, b: S }" ∷
    codes "fn f(a: &S, b: i32) {}" ∷
    codes "fn main() { let mut p = P { a: S(1), b: S(2) }; f(&p.a, { p.b = S(3); 4 }); }" ∷
    [])) ≡ true
part_assigned = refl

-- a temporary is named, and another is made
temporaries : text_stays 9 1 (lines (
    codes "struct S(i32);" ∷
    codes "impl Drop for S { fn drop(&mut self) {} }" ∷
    codes "fn mk() -> S { S(1) }" ∷
    codes "fn g(a: &S, b: S) {}" ∷
    codes "fn main() { g(&mk(), mk()); }" ∷
    [])) ≡ true
temporaries = refl

-- a jump out of a later argument
break_between : text_stays 12 1 (lines (
    codes "struct S(i32);" ∷
    codes "impl Drop for S { fn drop(&mut self) {} }" ∷
    codes "fn f(a: &S, b: i32) {}" ∷
    codes "fn main() { let s = S(1); loop { f(&s, { if ask() == 1 { break; } 2 }); } }" ∷
    [])) ≡ true
break_between = refl

-- a jump that drops what is named
continue_between : text_stays 12 1 (lines (
    codes "struct S(i32);" ∷
    codes "impl Drop for S { fn drop(&mut self) {} }" ∷
    codes "fn f(a: &S, b: i32) {}" ∷
    codes "fn main() { loop { let s = S(1); f(&s, { if ask() == 1 { continue; } 2 }); } }" ∷
    [])) ≡ true
continue_between = refl

-- a later argument never has a value
return_between : text_stays 9 1 (lines (
    codes "struct S(i32);" ∷
    codes "impl Drop for S { fn drop(&mut self) {} }" ∷
    codes "fn f(a: &S, b: i32) {}" ∷
    codes "fn main() { let s = S(1); f(&s, return); }" ∷
    [])) ≡ true
return_between = refl

-- or panics
panic_between : text_stays 9 1 (lines (
    codes "struct S(i32);" ∷
    codes "impl Drop for S { fn drop(&mut self) {} }" ∷
    codes "fn f(a: &S, b: i32) {}" ∷
    codes "fn main() { let s = S(1); f(&s, panic!()); }" ∷
    [])) ≡ true
panic_between = refl

-- or is of the type `!`
never_between : text_stays 9 1 (lines (
    codes "struct S(i32);" ∷
    codes "impl Drop for S { fn drop(&mut self) {} }" ∷
    codes "fn f(a: &S, b: i32) {}" ∷
    codes "fn main() { let s = S(1); f(&s, { let x: ! = panic!(); x }); }" ∷
    [])) ≡ true
never_between = refl

-- in each turn of a loop
again : text_stays 12 1 (lines (
    codes "struct S(i32);" ∷
    codes "impl Drop for S { fn drop(&mut self) {} }" ∷
    codes "fn f(a: &S, b: i32) {}" ∷
    codes "fn main() { let s = S(1); while ask() == 1 { f(&s, 1); } }" ∷
    [])) ≡ true
again = refl

-- a part of an enum, named in a guard
guarded : text_stays 10 1 (lines (
    codes "struct S(i32);" ∷
    codes "enum E { A(S), B(S) }" ∷
    codes "fn h(a: &S, b: i32) -> bool { true }" ∷
    codes "fn main() { let e = E::A(S(1)); match e { E::A(x) if h(&x, 1) => {} _ => {} } }" ∷
    [])) ≡ true
guarded = refl

-- and of a temporary
guarded_temporary : text_stays 10 1 (lines (
    codes "struct S(i32);" ∷
    codes "fn mk() -> S { S(1) }" ∷
    codes "fn h(a: &i32, b: i32) -> bool { true }" ∷
    codes "fn main() { match mk() { S(x) if h(&x, 1) => {} _ => {} } }" ∷
    [])) ≡ true
guarded_temporary = refl

-- an element by a local
element : text_stays 9 1 (lines (
    codes "fn h(a: &i32, b: i32) {}" ∷
    codes "fn main() { let a = [1, 2]; let i: usize = 0; h(&a[i], a[1]); }" ∷
    [])) ≡ true
element = refl

-- the content of a box
boxed : text_stays 9 1 (lines (
    codes "struct S(i32);" ∷
    codes "impl Drop for S { fn drop(&mut self) {} }" ∷
    codes "fn f(a: &S, b: i32) {}" ∷
    codes "fn main() { let b = Box::new(S(1)); f(&*b, 1); }" ∷
    [])) ≡ true
boxed = refl

-- two by `&mut`, apart
two_unique : text_stays 9 2 (lines (
    codes "struct S(i32);" ∷
    codes "struct P { a: S, b: S }" ∷
    codes "fn h(a: &mut S, b: &mut S) {}" ∷
    codes "fn main() { let mut p = P { a: S(1), b: S(2) }; h(&mut p.a, &mut p.b); }" ∷
    [])) ≡ true
two_unique = refl

-- a receiver that is borrowed
receiver : text_stays 9 1 (lines (
    codes "struct S(i32);" ∷
    codes "impl Drop for S { fn drop(&mut self) {} }" ∷
    codes "impl S { fn m(&self, b: S) {} }" ∷
    codes "fn main() { let s = S(1); s.m(S(2)); }" ∷
    [])) ≡ true
receiver = refl

-- a part behind a reference
behind_a_parameter : text_stays 9 1 (lines (
    codes "struct S(i32);" ∷
    codes "struct P { a: S, b: S }" ∷
    codes "fn f(a: &S, b: i32) {}" ∷
    codes "fn k(r: &P) { f(&(*r).a, 1); }" ∷
    codes "fn main() {  }" ∷
    [])) ≡ true
behind_a_parameter = refl

-- a local without a value in a later argument
emptied : text_stays 9 1 (lines (
    codes "struct S(i32);" ∷
    codes "impl Drop for S { fn drop(&mut self) {} }" ∷
    codes "fn f(a: &S, b: i32) {}" ∷
    codes "fn main() { let s = S(1); f(&s, { let x: i32; x = 1; x }); }" ∷
    [])) ≡ true
emptied = refl

-- calls within calls
nested : text_stays 10 2 (lines (
    codes "struct S(i32);" ∷
    codes "impl Drop for S { fn drop(&mut self) {} }" ∷
    codes "fn h(a: &S, b: i32) -> i32 { b }" ∷
    codes "fn main() { let s = S(1); let t = S(2); h(&s, h(&t, 1)); }" ∷
    [])) ≡ true
nested = refl
