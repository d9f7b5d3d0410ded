-- Lemmas on what reads do to the bytes that a source has left.
use Rattle.std.proofs.Common.{◌≡◌, ℕ, ◌+◌, ◌-◌, ◌≤◌, List, [], ◌++◌, length, take, drop, Option, Some, Result, Ok, Err, OnErr, ap, sym, ◌∙◌, arith, min, append-nil, take-append-drop}
use Rattle.std.proofs.Math.Seq.{take-add, drop-nil}
use Rattle.std.proofs.lemmas.List.{length-take, length-take-le, length-drop, drop-drop}
use Rattle.mir_edge.specs.Source.{MovesFirst, AppendsFirst, LeavesRest}

-- no more bytes are moved than are left
pub MovesFirst-within : (left : List ℕ) (now : Option (List ℕ)) (piece : List ℕ) (n : ℕ) →
    n ≤ length piece → MovesFirst left now piece n → n ≤ length left
MovesFirst-within left now piece n fits moves =
    let whole : length (take n piece) ≡ n = length-take-le n piece fits in
    let same : length (take n piece) ≡ length (take n left) = ap length moves.moved in
    let cut : length (take n left) ≡ min n (length left) = length-take n left in
    omega arith

-- what a read moved, put behind what was there
pub AppendsFirst-from_moved : (left : List ℕ) (now : Option (List ℕ)) (piece before after : List ℕ) (n : ℕ) →
    n ≤ length piece → MovesFirst left now piece n → after ≡ before ++ take n piece → AppendsFirst left now before after n
AppendsFirst-from_moved left now piece before after n fits moves e = record {
  within = MovesFirst-within left now piece n fits moves;
  appended = e ∙ ap (λ l. before ++ l) moves.moved;
  rest = moves.rest;
  end = moves.end;
}

-- what a read moved is lost, and the others are left
pub LeavesRest-from_moved : (left : List ℕ) (now : Option (List ℕ)) (piece : List ℕ) (n most : ℕ) →
    n ≤ length piece → n ≤ most → MovesFirst left now piece n → LeavesRest most left now
LeavesRest-from_moved left now piece n most fits small moves =
    (n, small, MovesFirst-within left now piece n fits moves, moves.rest)

-- a source that told `left` has given its first `len` bytes, which are held, and has the others left
pub record HasRead (len : ℕ) (held left : List ℕ) (now : Option (List ℕ)) : Type 0 where
  pub within : len ≤ length left
  pub front : held ≡ take len left
  pub rest : now ≡ Some (drop len left)

pub HasRead-none : (held left : List ℕ) (now : Option (List ℕ)) → held ≡ [] → now ≡ Some left → HasRead 0 held left now
HasRead-none held left now e told = record { within = omega arith; front = e; rest = told }

-- one read more
pub HasRead-more : (len n len' : ℕ) (held held' left : List ℕ) (old now : Option (List ℕ)) → len' ≡ len + n →
    HasRead len held left old → AppendsFirst (drop len left) now held held' n → HasRead len' held' left now
HasRead-more len n len' held held' left old now sum read more = record {
  within = let fits = more.within in let before = read.within in omega (arith, simp length-drop at fits);
  front = more.appended ∙ ap (λ l. l ++ take n (drop len left)) read.front ∙ sym (take-add len n left)
      ∙ ap (λ k. take k left) (sym sum);
  rest = more.rest ∙ ap Some (drop-drop n len left ∙ ap (λ k. drop k left) (sym sum));
}

-- a read that gave nothing was the end
pub HasRead-all : (len n : ℕ) (held held' left : List ℕ) (old now : Option (List ℕ)) → n ≡ 0 →
    HasRead len held left old → AppendsFirst (drop len left) now held held' n →
    (held' ≡ left) × (now ≡ Some []) × (length left ≤ len)
HasRead-all len n held held' left old now none read more =
    let over : drop len left ≡ [] = more.end.0 none in
    let gap : length left - len ≡ 0 = sym (length-drop len left) ∙ ap length over in
    let same : held' ≡ held = more.appended ∙ ap (λ k. held ++ take k (drop len left)) none ∙ append-nil held in
    let whole : left ≡ take len left = sym (take-append-drop len left) ∙ ap (λ l. take len left ++ l) over ∙ append-nil _ in
    let gone : drop n (drop len left) ≡ [] = ap (drop n) over ∙ drop-nil n in
    (same ∙ read.front ∙ sym whole, more.rest ∙ ap Some gone, omega arith)

-- a read that was refused took at most so many bytes more
pub HasRead-rest : (len more most : ℕ) (held left : List ℕ) (old now : Option (List ℕ)) → len + more ≤ most →
    HasRead len held left old → LeavesRest more (drop len left) now → LeavesRest most left now
HasRead-rest len more most held left old now small read (n, at_most, within, rest) =
    let before = read.within in
    (len + n, omega arith, omega (arith, simp length-drop at within), rest ∙ ap Some (drop-drop n len left))

pub OnErr-from : {T E : Type 0} (P : Type 0) (r : Result T E) → P → OnErr r P
OnErr-from P (Ok x) p = tt
OnErr-from P (Err e) p = p
