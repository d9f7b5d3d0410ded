-- Texts that the grammar has and texts that it does not have, read by computation.
use Rattle.std.proofs.Common.{◌≡◌, Bool, true, false, Option, Some, None, List, [], ◌∷◌, refl}
use Rattle.mir_base.specs.declared.int_kind.IntKind.{IntKind}
use Rattle.src_token.specs.declared.token.Token.{Token}
use Rattle.src_token.specs.declared.word.Word.{Word}
use Rattle.src_token.specs.declared.mark.Mark.{Mark}
use Rattle.src_tree.specs.Reading.{and_then, whole, start}
use Rattle.src_tree.proofs.Complete.{run}

abbrev m : Mark → Token
m x = Token.Mark x

abbrev w : Word → Token
w x = Token.Word x

abbrev is_some : {X : Type 0} → Option X → Bool
is_some None = false
is_some (Some x) = true

abbrev accepts : List Token → Bool
accepts ts = is_some (and_then (run ts (Some (start tt))) (λ s. whole s))

-- fn main() {}
accepted_0 : accepts (w Word.Fn ∷ Token.Name (109 ∷ 97 ∷ 105 ∷ 110 ∷ []) ∷ m Mark.OpenParenthesis ∷ m Mark.CloseParenthesis ∷ m Mark.OpenBrace ∷ m Mark.CloseBrace ∷ []) ≡ true
accepted_0 = refl

--
accepted_1 : accepts ([]) ≡ true
accepted_1 = refl

-- struct S; struct T(i32, S); struct U { a: i32, b: Box<dyn Show>, }
accepted_2 : accepts (w Word.Struct ∷ Token.Name (83 ∷ []) ∷ m Mark.Semi ∷ w Word.Struct ∷ Token.Name (84 ∷ []) ∷ m Mark.OpenParenthesis ∷ Token.Name (105 ∷ 51 ∷ 50 ∷ []) ∷ m Mark.Comma ∷ Token.Name (83 ∷ []) ∷ m Mark.CloseParenthesis ∷ m Mark.Semi ∷ w Word.Struct ∷ Token.Name (85 ∷ []) ∷ m Mark.OpenBrace ∷ Token.Name (97 ∷ []) ∷ m Mark.Colon ∷ Token.Name (105 ∷ 51 ∷ 50 ∷ []) ∷ m Mark.Comma ∷ Token.Name (98 ∷ []) ∷ m Mark.Colon ∷ Token.Name (66 ∷ 111 ∷ 120 ∷ []) ∷ m Mark.Lt ∷ w Word.Dyn ∷ Token.Name (83 ∷ 104 ∷ 111 ∷ 119 ∷ []) ∷ m Mark.Gt ∷ m Mark.Comma ∷ m Mark.CloseBrace ∷ []) ≡ true
accepted_2 = refl

-- #[derive(Copy, Clone)] enum E { A, B(i32), C { x: S } }
accepted_3 : accepts (m Mark.Pound ∷ m Mark.OpenBracket ∷ Token.Name (100 ∷ 101 ∷ 114 ∷ 105 ∷ 118 ∷ 101 ∷ []) ∷ m Mark.OpenParenthesis ∷ Token.Name (67 ∷ 111 ∷ 112 ∷ 121 ∷ []) ∷ m Mark.Comma ∷ Token.Name (67 ∷ 108 ∷ 111 ∷ 110 ∷ 101 ∷ []) ∷ m Mark.CloseParenthesis ∷ m Mark.CloseBracket ∷ w Word.Enum ∷ Token.Name (69 ∷ []) ∷ m Mark.OpenBrace ∷ Token.Name (65 ∷ []) ∷ m Mark.Comma ∷ Token.Name (66 ∷ []) ∷ m Mark.OpenParenthesis ∷ Token.Name (105 ∷ 51 ∷ 50 ∷ []) ∷ m Mark.CloseParenthesis ∷ m Mark.Comma ∷ Token.Name (67 ∷ []) ∷ m Mark.OpenBrace ∷ Token.Name (120 ∷ []) ∷ m Mark.Colon ∷ Token.Name (83 ∷ []) ∷ m Mark.CloseBrace ∷ m Mark.CloseBrace ∷ []) ≡ true
accepted_3 = refl

-- trait Tr { fn a(&self) -> i32; fn b(&mut self, n: i32); fn c(self); fn d(mut self, x: u8,); }
accepted_4 : accepts (w Word.Trait ∷ Token.Name (84 ∷ 114 ∷ []) ∷ m Mark.OpenBrace ∷ w Word.Fn ∷ Token.Name (97 ∷ []) ∷ m Mark.OpenParenthesis ∷ m Mark.And ∷ w Word.SelfValue ∷ m Mark.CloseParenthesis ∷ m Mark.RArrow ∷ Token.Name (105 ∷ 51 ∷ 50 ∷ []) ∷ m Mark.Semi ∷ w Word.Fn ∷ Token.Name (98 ∷ []) ∷ m Mark.OpenParenthesis ∷ m Mark.And ∷ w Word.Mut ∷ w Word.SelfValue ∷ m Mark.Comma ∷ Token.Name (110 ∷ []) ∷ m Mark.Colon ∷ Token.Name (105 ∷ 51 ∷ 50 ∷ []) ∷ m Mark.CloseParenthesis ∷ m Mark.Semi ∷ w Word.Fn ∷ Token.Name (99 ∷ []) ∷ m Mark.OpenParenthesis ∷ w Word.SelfValue ∷ m Mark.CloseParenthesis ∷ m Mark.Semi ∷ w Word.Fn ∷ Token.Name (100 ∷ []) ∷ m Mark.OpenParenthesis ∷ w Word.Mut ∷ w Word.SelfValue ∷ m Mark.Comma ∷ Token.Name (120 ∷ []) ∷ m Mark.Colon ∷ Token.Name (117 ∷ 56 ∷ []) ∷ m Mark.Comma ∷ m Mark.CloseParenthesis ∷ m Mark.Semi ∷ m Mark.CloseBrace ∷ []) ≡ true
accepted_4 = refl

-- impl S { fn new(n: i32) -> Self { S(n) } } impl Tr for S { fn f(&self) {} }
accepted_5 : accepts (w Word.Impl ∷ Token.Name (83 ∷ []) ∷ m Mark.OpenBrace ∷ w Word.Fn ∷ Token.Name (110 ∷ 101 ∷ 119 ∷ []) ∷ m Mark.OpenParenthesis ∷ Token.Name (110 ∷ []) ∷ m Mark.Colon ∷ Token.Name (105 ∷ 51 ∷ 50 ∷ []) ∷ m Mark.CloseParenthesis ∷ m Mark.RArrow ∷ w Word.SelfType ∷ m Mark.OpenBrace ∷ Token.Name (83 ∷ []) ∷ m Mark.OpenParenthesis ∷ Token.Name (110 ∷ []) ∷ m Mark.CloseParenthesis ∷ m Mark.CloseBrace ∷ m Mark.CloseBrace ∷ w Word.Impl ∷ Token.Name (84 ∷ 114 ∷ []) ∷ w Word.For ∷ Token.Name (83 ∷ []) ∷ m Mark.OpenBrace ∷ w Word.Fn ∷ Token.Name (102 ∷ []) ∷ m Mark.OpenParenthesis ∷ m Mark.And ∷ w Word.SelfValue ∷ m Mark.CloseParenthesis ∷ m Mark.OpenBrace ∷ m Mark.CloseBrace ∷ m Mark.CloseBrace ∷ []) ≡ true
accepted_5 = refl

-- fn f(a: (i32, i32), [b, ..]: [i32; 3], _: &mut S, mut c: !) -> () {}
accepted_6 : accepts (w Word.Fn ∷ Token.Name (102 ∷ []) ∷ m Mark.OpenParenthesis ∷ Token.Name (97 ∷ []) ∷ m Mark.Colon ∷ m Mark.OpenParenthesis ∷ Token.Name (105 ∷ 51 ∷ 50 ∷ []) ∷ m Mark.Comma ∷ Token.Name (105 ∷ 51 ∷ 50 ∷ []) ∷ m Mark.CloseParenthesis ∷ m Mark.Comma ∷ m Mark.OpenBracket ∷ Token.Name (98 ∷ []) ∷ m Mark.Comma ∷ m Mark.DotDot ∷ m Mark.CloseBracket ∷ m Mark.Colon ∷ m Mark.OpenBracket ∷ Token.Name (105 ∷ 51 ∷ 50 ∷ []) ∷ m Mark.Semi ∷ Token.Number 3 None ∷ m Mark.CloseBracket ∷ m Mark.Comma ∷ m Mark.Underscore ∷ m Mark.Colon ∷ m Mark.And ∷ w Word.Mut ∷ Token.Name (83 ∷ []) ∷ m Mark.Comma ∷ w Word.Mut ∷ Token.Name (99 ∷ []) ∷ m Mark.Colon ∷ m Mark.Not ∷ m Mark.CloseParenthesis ∷ m Mark.RArrow ∷ m Mark.OpenParenthesis ∷ m Mark.CloseParenthesis ∷ m Mark.OpenBrace ∷ m Mark.CloseBrace ∷ []) ≡ true
accepted_6 = refl

-- fn main() { a - b - c; a == b && c < d || !e; -x * &mut y; }
accepted_7 : accepts (w Word.Fn ∷ Token.Name (109 ∷ 97 ∷ 105 ∷ 110 ∷ []) ∷ m Mark.OpenParenthesis ∷ m Mark.CloseParenthesis ∷ m Mark.OpenBrace ∷ Token.Name (97 ∷ []) ∷ m Mark.Minus ∷ Token.Name (98 ∷ []) ∷ m Mark.Minus ∷ Token.Name (99 ∷ []) ∷ m Mark.Semi ∷ Token.Name (97 ∷ []) ∷ m Mark.EqEq ∷ Token.Name (98 ∷ []) ∷ m Mark.AndAnd ∷ Token.Name (99 ∷ []) ∷ m Mark.Lt ∷ Token.Name (100 ∷ []) ∷ m Mark.OrOr ∷ m Mark.Not ∷ Token.Name (101 ∷ []) ∷ m Mark.Semi ∷ m Mark.Minus ∷ Token.Name (120 ∷ []) ∷ m Mark.Star ∷ m Mark.And ∷ w Word.Mut ∷ Token.Name (121 ∷ []) ∷ m Mark.Semi ∷ m Mark.CloseBrace ∷ []) ≡ true
accepted_7 = refl

-- fn main() { a = b = c; x.y.0.z(1,)(2)[3]; (1); (1,); (); [1, 2]; [] }
accepted_8 : accepts (w Word.Fn ∷ Token.Name (109 ∷ 97 ∷ 105 ∷ 110 ∷ []) ∷ m Mark.OpenParenthesis ∷ m Mark.CloseParenthesis ∷ m Mark.OpenBrace ∷ Token.Name (97 ∷ []) ∷ m Mark.Eq ∷ Token.Name (98 ∷ []) ∷ m Mark.Eq ∷ Token.Name (99 ∷ []) ∷ m Mark.Semi ∷ Token.Name (120 ∷ []) ∷ m Mark.Dot ∷ Token.Name (121 ∷ []) ∷ m Mark.Dot ∷ Token.Number 0 None ∷ m Mark.Dot ∷ Token.Name (122 ∷ []) ∷ m Mark.OpenParenthesis ∷ Token.Number 1 None ∷ m Mark.Comma ∷ m Mark.CloseParenthesis ∷ m Mark.OpenParenthesis ∷ Token.Number 2 None ∷ m Mark.CloseParenthesis ∷ m Mark.OpenBracket ∷ Token.Number 3 None ∷ m Mark.CloseBracket ∷ m Mark.Semi ∷ m Mark.OpenParenthesis ∷ Token.Number 1 None ∷ m Mark.CloseParenthesis ∷ m Mark.Semi ∷ m Mark.OpenParenthesis ∷ Token.Number 1 None ∷ m Mark.Comma ∷ m Mark.CloseParenthesis ∷ m Mark.Semi ∷ m Mark.OpenParenthesis ∷ m Mark.CloseParenthesis ∷ m Mark.Semi ∷ m Mark.OpenBracket ∷ Token.Number 1 None ∷ m Mark.Comma ∷ Token.Number 2 None ∷ m Mark.CloseBracket ∷ m Mark.Semi ∷ m Mark.OpenBracket ∷ m Mark.CloseBracket ∷ m Mark.CloseBrace ∷ []) ≡ true
accepted_8 = refl

-- fn main() { if a { } else if let Some(x) = b { 1 } else { 2 } }
accepted_9 : accepts (w Word.Fn ∷ Token.Name (109 ∷ 97 ∷ 105 ∷ 110 ∷ []) ∷ m Mark.OpenParenthesis ∷ m Mark.CloseParenthesis ∷ m Mark.OpenBrace ∷ w Word.If ∷ Token.Name (97 ∷ []) ∷ m Mark.OpenBrace ∷ m Mark.CloseBrace ∷ w Word.Else ∷ w Word.If ∷ w Word.Let ∷ Token.Name (83 ∷ 111 ∷ 109 ∷ 101 ∷ []) ∷ m Mark.OpenParenthesis ∷ Token.Name (120 ∷ []) ∷ m Mark.CloseParenthesis ∷ m Mark.Eq ∷ Token.Name (98 ∷ []) ∷ m Mark.OpenBrace ∷ Token.Number 1 None ∷ m Mark.CloseBrace ∷ w Word.Else ∷ m Mark.OpenBrace ∷ Token.Number 2 None ∷ m Mark.CloseBrace ∷ m Mark.CloseBrace ∷ []) ≡ true
accepted_9 = refl

-- fn main() { match x { A | B if c => 1, S { a, mut b, c: 1, .. } => {} (a, ..) => {}, (..) => {} -1 => 2 } }
accepted_10 : accepts (w Word.Fn ∷ Token.Name (109 ∷ 97 ∷ 105 ∷ 110 ∷ []) ∷ m Mark.OpenParenthesis ∷ m Mark.CloseParenthesis ∷ m Mark.OpenBrace ∷ w Word.Match ∷ Token.Name (120 ∷ []) ∷ m Mark.OpenBrace ∷ Token.Name (65 ∷ []) ∷ m Mark.Or ∷ Token.Name (66 ∷ []) ∷ w Word.If ∷ Token.Name (99 ∷ []) ∷ m Mark.FatArrow ∷ Token.Number 1 None ∷ m Mark.Comma ∷ Token.Name (83 ∷ []) ∷ m Mark.OpenBrace ∷ Token.Name (97 ∷ []) ∷ m Mark.Comma ∷ w Word.Mut ∷ Token.Name (98 ∷ []) ∷ m Mark.Comma ∷ Token.Name (99 ∷ []) ∷ m Mark.Colon ∷ Token.Number 1 None ∷ m Mark.Comma ∷ m Mark.DotDot ∷ m Mark.CloseBrace ∷ m Mark.FatArrow ∷ m Mark.OpenBrace ∷ m Mark.CloseBrace ∷ m Mark.OpenParenthesis ∷ Token.Name (97 ∷ []) ∷ m Mark.Comma ∷ m Mark.DotDot ∷ m Mark.CloseParenthesis ∷ m Mark.FatArrow ∷ m Mark.OpenBrace ∷ m Mark.CloseBrace ∷ m Mark.Comma ∷ m Mark.OpenParenthesis ∷ m Mark.DotDot ∷ m Mark.CloseParenthesis ∷ m Mark.FatArrow ∷ m Mark.OpenBrace ∷ m Mark.CloseBrace ∷ m Mark.Minus ∷ Token.Number 1 None ∷ m Mark.FatArrow ∷ Token.Number 2 None ∷ m Mark.CloseBrace ∷ m Mark.CloseBrace ∷ []) ≡ true
accepted_10 = refl

-- fn main() { 'a: loop { break 'a 1; } while let A(x) = y { continue 'a; } while a && b {} }
accepted_11 : accepts (w Word.Fn ∷ Token.Name (109 ∷ 97 ∷ 105 ∷ 110 ∷ []) ∷ m Mark.OpenParenthesis ∷ m Mark.CloseParenthesis ∷ m Mark.OpenBrace ∷ Token.Label (97 ∷ []) ∷ m Mark.Colon ∷ w Word.Loop ∷ m Mark.OpenBrace ∷ w Word.Break ∷ Token.Label (97 ∷ []) ∷ Token.Number 1 None ∷ m Mark.Semi ∷ m Mark.CloseBrace ∷ w Word.While ∷ w Word.Let ∷ Token.Name (65 ∷ []) ∷ m Mark.OpenParenthesis ∷ Token.Name (120 ∷ []) ∷ m Mark.CloseParenthesis ∷ m Mark.Eq ∷ Token.Name (121 ∷ []) ∷ m Mark.OpenBrace ∷ w Word.Continue ∷ Token.Label (97 ∷ []) ∷ m Mark.Semi ∷ m Mark.CloseBrace ∷ w Word.While ∷ Token.Name (97 ∷ []) ∷ m Mark.AndAnd ∷ Token.Name (98 ∷ []) ∷ m Mark.OpenBrace ∷ m Mark.CloseBrace ∷ m Mark.CloseBrace ∷ []) ≡ true
accepted_11 = refl

-- fn main() { break 'a: loop {} }
accepted_12 : accepts (w Word.Fn ∷ Token.Name (109 ∷ 97 ∷ 105 ∷ 110 ∷ []) ∷ m Mark.OpenParenthesis ∷ m Mark.CloseParenthesis ∷ m Mark.OpenBrace ∷ w Word.Break ∷ Token.Label (97 ∷ []) ∷ m Mark.Colon ∷ w Word.Loop ∷ m Mark.OpenBrace ∷ m Mark.CloseBrace ∷ m Mark.CloseBrace ∷ []) ≡ true
accepted_12 = refl

-- fn main() { break 'a 'b: loop {} }
accepted_13 : accepts (w Word.Fn ∷ Token.Name (109 ∷ 97 ∷ 105 ∷ 110 ∷ []) ∷ m Mark.OpenParenthesis ∷ m Mark.CloseParenthesis ∷ m Mark.OpenBrace ∷ w Word.Break ∷ Token.Label (97 ∷ []) ∷ Token.Label (97 ∷ []) ∷ m Mark.Colon ∷ w Word.Loop ∷ m Mark.OpenBrace ∷ m Mark.CloseBrace ∷ m Mark.CloseBrace ∷ []) ≡ true
accepted_13 = refl

-- fn main() { let x; let y: i32 = 3; let (a, b): (D, D) = z; }
accepted_14 : accepts (w Word.Fn ∷ Token.Name (109 ∷ 97 ∷ 105 ∷ 110 ∷ []) ∷ m Mark.OpenParenthesis ∷ m Mark.CloseParenthesis ∷ m Mark.OpenBrace ∷ w Word.Let ∷ Token.Name (120 ∷ []) ∷ m Mark.Semi ∷ w Word.Let ∷ Token.Name (121 ∷ []) ∷ m Mark.Colon ∷ Token.Name (105 ∷ 51 ∷ 50 ∷ []) ∷ m Mark.Eq ∷ Token.Number 3 None ∷ m Mark.Semi ∷ w Word.Let ∷ m Mark.OpenParenthesis ∷ Token.Name (97 ∷ []) ∷ m Mark.Comma ∷ Token.Name (98 ∷ []) ∷ m Mark.CloseParenthesis ∷ m Mark.Colon ∷ m Mark.OpenParenthesis ∷ Token.Name (68 ∷ []) ∷ m Mark.Comma ∷ Token.Name (68 ∷ []) ∷ m Mark.CloseParenthesis ∷ m Mark.Eq ∷ Token.Name (122 ∷ []) ∷ m Mark.Semi ∷ m Mark.CloseBrace ∷ []) ≡ true
accepted_14 = refl

-- fn main() { {} - 1; match x { _ => {} } (1); if a {} [1]; }
accepted_15 : accepts (w Word.Fn ∷ Token.Name (109 ∷ 97 ∷ 105 ∷ 110 ∷ []) ∷ m Mark.OpenParenthesis ∷ m Mark.CloseParenthesis ∷ m Mark.OpenBrace ∷ m Mark.OpenBrace ∷ m Mark.CloseBrace ∷ m Mark.Minus ∷ Token.Number 1 None ∷ m Mark.Semi ∷ w Word.Match ∷ Token.Name (120 ∷ []) ∷ m Mark.OpenBrace ∷ m Mark.Underscore ∷ m Mark.FatArrow ∷ m Mark.OpenBrace ∷ m Mark.CloseBrace ∷ m Mark.CloseBrace ∷ m Mark.OpenParenthesis ∷ Token.Number 1 None ∷ m Mark.CloseParenthesis ∷ m Mark.Semi ∷ w Word.If ∷ Token.Name (97 ∷ []) ∷ m Mark.OpenBrace ∷ m Mark.CloseBrace ∷ m Mark.OpenBracket ∷ Token.Number 1 None ∷ m Mark.CloseBracket ∷ m Mark.Semi ∷ m Mark.CloseBrace ∷ []) ≡ true
accepted_15 = refl

-- fn main() { move [a, b] |x: i32, (y, z): D| -> i32 { x }; move [] || {} }
accepted_16 : accepts (w Word.Fn ∷ Token.Name (109 ∷ 97 ∷ 105 ∷ 110 ∷ []) ∷ m Mark.OpenParenthesis ∷ m Mark.CloseParenthesis ∷ m Mark.OpenBrace ∷ w Word.Move ∷ m Mark.OpenBracket ∷ Token.Name (97 ∷ []) ∷ m Mark.Comma ∷ Token.Name (98 ∷ []) ∷ m Mark.CloseBracket ∷ m Mark.Or ∷ Token.Name (120 ∷ []) ∷ m Mark.Colon ∷ Token.Name (105 ∷ 51 ∷ 50 ∷ []) ∷ m Mark.Comma ∷ m Mark.OpenParenthesis ∷ Token.Name (121 ∷ []) ∷ m Mark.Comma ∷ Token.Name (122 ∷ []) ∷ m Mark.CloseParenthesis ∷ m Mark.Colon ∷ Token.Name (68 ∷ []) ∷ m Mark.Or ∷ m Mark.RArrow ∷ Token.Name (105 ∷ 51 ∷ 50 ∷ []) ∷ m Mark.OpenBrace ∷ Token.Name (120 ∷ []) ∷ m Mark.CloseBrace ∷ m Mark.Semi ∷ w Word.Move ∷ m Mark.OpenBracket ∷ m Mark.CloseBracket ∷ m Mark.OrOr ∷ m Mark.OpenBrace ∷ m Mark.CloseBrace ∷ m Mark.CloseBrace ∷ []) ≡ true
accepted_16 = refl

-- fn main() { panic!(); panic!("x"); panic; panic == x }
accepted_17 : accepts (w Word.Fn ∷ Token.Name (109 ∷ 97 ∷ 105 ∷ 110 ∷ []) ∷ m Mark.OpenParenthesis ∷ m Mark.CloseParenthesis ∷ m Mark.OpenBrace ∷ Token.Name (112 ∷ 97 ∷ 110 ∷ 105 ∷ 99 ∷ []) ∷ m Mark.Not ∷ m Mark.OpenParenthesis ∷ m Mark.CloseParenthesis ∷ m Mark.Semi ∷ Token.Name (112 ∷ 97 ∷ 110 ∷ 105 ∷ 99 ∷ []) ∷ m Mark.Not ∷ m Mark.OpenParenthesis ∷ Token.Text [] ∷ m Mark.CloseParenthesis ∷ m Mark.Semi ∷ Token.Name (112 ∷ 97 ∷ 110 ∷ 105 ∷ 99 ∷ []) ∷ m Mark.Semi ∷ Token.Name (112 ∷ 97 ∷ 110 ∷ 105 ∷ 99 ∷ []) ∷ m Mark.EqEq ∷ Token.Name (120 ∷ []) ∷ m Mark.CloseBrace ∷ []) ≡ true
accepted_17 = refl

-- fn main() { if (S { a: 1 }).b {} if x == [S { a }][0] {} }
accepted_18 : accepts (w Word.Fn ∷ Token.Name (109 ∷ 97 ∷ 105 ∷ 110 ∷ []) ∷ m Mark.OpenParenthesis ∷ m Mark.CloseParenthesis ∷ m Mark.OpenBrace ∷ w Word.If ∷ m Mark.OpenParenthesis ∷ Token.Name (83 ∷ []) ∷ m Mark.OpenBrace ∷ Token.Name (97 ∷ []) ∷ m Mark.Colon ∷ Token.Number 1 None ∷ m Mark.CloseBrace ∷ m Mark.CloseParenthesis ∷ m Mark.Dot ∷ Token.Name (98 ∷ []) ∷ m Mark.OpenBrace ∷ m Mark.CloseBrace ∷ w Word.If ∷ Token.Name (120 ∷ []) ∷ m Mark.EqEq ∷ m Mark.OpenBracket ∷ Token.Name (83 ∷ []) ∷ m Mark.OpenBrace ∷ Token.Name (97 ∷ []) ∷ m Mark.CloseBrace ∷ m Mark.CloseBracket ∷ m Mark.OpenBracket ∷ Token.Number 0 None ∷ m Mark.CloseBracket ∷ m Mark.OpenBrace ∷ m Mark.CloseBrace ∷ m Mark.CloseBrace ∷ []) ≡ true
accepted_18 = refl

-- fn main() { if return {} if break {} loop { return S { a: 1 } } }
accepted_19 : accepts (w Word.Fn ∷ Token.Name (109 ∷ 97 ∷ 105 ∷ 110 ∷ []) ∷ m Mark.OpenParenthesis ∷ m Mark.CloseParenthesis ∷ m Mark.OpenBrace ∷ w Word.If ∷ w Word.Return ∷ m Mark.OpenBrace ∷ m Mark.CloseBrace ∷ w Word.If ∷ w Word.Break ∷ m Mark.OpenBrace ∷ m Mark.CloseBrace ∷ w Word.Loop ∷ m Mark.OpenBrace ∷ w Word.Return ∷ Token.Name (83 ∷ []) ∷ m Mark.OpenBrace ∷ Token.Name (97 ∷ []) ∷ m Mark.Colon ∷ Token.Number 1 None ∷ m Mark.CloseBrace ∷ m Mark.CloseBrace ∷ m Mark.CloseBrace ∷ []) ≡ true
accepted_19 = refl

-- fn main() { match x { 0 => { 1 } -1 => if a {} else {} - 1, _ => return } }
accepted_20 : accepts (w Word.Fn ∷ Token.Name (109 ∷ 97 ∷ 105 ∷ 110 ∷ []) ∷ m Mark.OpenParenthesis ∷ m Mark.CloseParenthesis ∷ m Mark.OpenBrace ∷ w Word.Match ∷ Token.Name (120 ∷ []) ∷ m Mark.OpenBrace ∷ Token.Number 0 None ∷ m Mark.FatArrow ∷ m Mark.OpenBrace ∷ Token.Number 1 None ∷ m Mark.CloseBrace ∷ m Mark.Minus ∷ Token.Number 1 None ∷ m Mark.FatArrow ∷ w Word.If ∷ Token.Name (97 ∷ []) ∷ m Mark.OpenBrace ∷ m Mark.CloseBrace ∷ w Word.Else ∷ m Mark.OpenBrace ∷ m Mark.CloseBrace ∷ m Mark.Minus ∷ Token.Number 1 None ∷ m Mark.Comma ∷ m Mark.Underscore ∷ m Mark.FatArrow ∷ w Word.Return ∷ m Mark.CloseBrace ∷ m Mark.CloseBrace ∷ []) ≡ true
accepted_20 = refl

-- fn main() { ;;; S { x, y: 1 }; a.b = c; (a.b)(1); }
accepted_21 : accepts (w Word.Fn ∷ Token.Name (109 ∷ 97 ∷ 105 ∷ 110 ∷ []) ∷ m Mark.OpenParenthesis ∷ m Mark.CloseParenthesis ∷ m Mark.OpenBrace ∷ m Mark.Semi ∷ m Mark.Semi ∷ m Mark.Semi ∷ Token.Name (83 ∷ []) ∷ m Mark.OpenBrace ∷ Token.Name (120 ∷ []) ∷ m Mark.Comma ∷ Token.Name (121 ∷ []) ∷ m Mark.Colon ∷ Token.Number 1 None ∷ m Mark.CloseBrace ∷ m Mark.Semi ∷ Token.Name (97 ∷ []) ∷ m Mark.Dot ∷ Token.Name (98 ∷ []) ∷ m Mark.Eq ∷ Token.Name (99 ∷ []) ∷ m Mark.Semi ∷ m Mark.OpenParenthesis ∷ Token.Name (97 ∷ []) ∷ m Mark.Dot ∷ Token.Name (98 ∷ []) ∷ m Mark.CloseParenthesis ∷ m Mark.OpenParenthesis ∷ Token.Number 1 None ∷ m Mark.CloseParenthesis ∷ m Mark.Semi ∷ m Mark.CloseBrace ∷ []) ≡ true
accepted_21 = refl

-- fn main() { S {} }
accepted_22 : accepts (w Word.Fn ∷ Token.Name (109 ∷ 97 ∷ 105 ∷ 110 ∷ []) ∷ m Mark.OpenParenthesis ∷ m Mark.CloseParenthesis ∷ m Mark.OpenBrace ∷ Token.Name (83 ∷ []) ∷ m Mark.OpenBrace ∷ m Mark.CloseBrace ∷ m Mark.CloseBrace ∷ []) ≡ true
accepted_22 = refl

-- fn main() { a.b(1).0(2) }
accepted_23 : accepts (w Word.Fn ∷ Token.Name (109 ∷ 97 ∷ 105 ∷ 110 ∷ []) ∷ m Mark.OpenParenthesis ∷ m Mark.CloseParenthesis ∷ m Mark.OpenBrace ∷ Token.Name (97 ∷ []) ∷ m Mark.Dot ∷ Token.Name (98 ∷ []) ∷ m Mark.OpenParenthesis ∷ Token.Number 1 None ∷ m Mark.CloseParenthesis ∷ m Mark.Dot ∷ Token.Number 0 None ∷ m Mark.OpenParenthesis ∷ Token.Number 2 None ∷ m Mark.CloseParenthesis ∷ m Mark.CloseBrace ∷ []) ≡ true
accepted_23 = refl

-- fn main( {}
refused_0 : accepts (w Word.Fn ∷ Token.Name (109 ∷ 97 ∷ 105 ∷ 110 ∷ []) ∷ m Mark.OpenParenthesis ∷ m Mark.OpenBrace ∷ m Mark.CloseBrace ∷ []) ≡ false
refused_0 = refl

-- fn main() {
refused_1 : accepts (w Word.Fn ∷ Token.Name (109 ∷ 97 ∷ 105 ∷ 110 ∷ []) ∷ m Mark.OpenParenthesis ∷ m Mark.CloseParenthesis ∷ m Mark.OpenBrace ∷ []) ≡ false
refused_1 = refl

-- fn main() { a == b == c }
refused_2 : accepts (w Word.Fn ∷ Token.Name (109 ∷ 97 ∷ 105 ∷ 110 ∷ []) ∷ m Mark.OpenParenthesis ∷ m Mark.CloseParenthesis ∷ m Mark.OpenBrace ∷ Token.Name (97 ∷ []) ∷ m Mark.EqEq ∷ Token.Name (98 ∷ []) ∷ m Mark.EqEq ∷ Token.Name (99 ∷ []) ∷ m Mark.CloseBrace ∷ []) ≡ false
refused_2 = refl

-- fn main() { if S { a: 1 } {} }
refused_3 : accepts (w Word.Fn ∷ Token.Name (109 ∷ 97 ∷ 105 ∷ 110 ∷ []) ∷ m Mark.OpenParenthesis ∷ m Mark.CloseParenthesis ∷ m Mark.OpenBrace ∷ w Word.If ∷ Token.Name (83 ∷ []) ∷ m Mark.OpenBrace ∷ Token.Name (97 ∷ []) ∷ m Mark.Colon ∷ Token.Number 1 None ∷ m Mark.CloseBrace ∷ m Mark.OpenBrace ∷ m Mark.CloseBrace ∷ m Mark.CloseBrace ∷ []) ≡ false
refused_3 = refl

-- fn main() { {}.x }
refused_4 : accepts (w Word.Fn ∷ Token.Name (109 ∷ 97 ∷ 105 ∷ 110 ∷ []) ∷ m Mark.OpenParenthesis ∷ m Mark.CloseParenthesis ∷ m Mark.OpenBrace ∷ m Mark.OpenBrace ∷ m Mark.CloseBrace ∷ m Mark.Dot ∷ Token.Name (120 ∷ []) ∷ m Mark.CloseBrace ∷ []) ≡ false
refused_4 = refl

-- fn main() { let x: i32 = }
refused_5 : accepts (w Word.Fn ∷ Token.Name (109 ∷ 97 ∷ 105 ∷ 110 ∷ []) ∷ m Mark.OpenParenthesis ∷ m Mark.CloseParenthesis ∷ m Mark.OpenBrace ∷ w Word.Let ∷ Token.Name (120 ∷ []) ∷ m Mark.Colon ∷ Token.Name (105 ∷ 51 ∷ 50 ∷ []) ∷ m Mark.Eq ∷ m Mark.CloseBrace ∷ []) ≡ false
refused_5 = refl

-- fn main() { match x { 0 => {1} - 1, } }
refused_6 : accepts (w Word.Fn ∷ Token.Name (109 ∷ 97 ∷ 105 ∷ 110 ∷ []) ∷ m Mark.OpenParenthesis ∷ m Mark.CloseParenthesis ∷ m Mark.OpenBrace ∷ w Word.Match ∷ Token.Name (120 ∷ []) ∷ m Mark.OpenBrace ∷ Token.Number 0 None ∷ m Mark.FatArrow ∷ m Mark.OpenBrace ∷ Token.Number 1 None ∷ m Mark.CloseBrace ∷ m Mark.Minus ∷ Token.Number 1 None ∷ m Mark.Comma ∷ m Mark.CloseBrace ∷ m Mark.CloseBrace ∷ []) ≡ false
refused_6 = refl

-- fn main() { match x { 0 => {1} - x } }
refused_7 : accepts (w Word.Fn ∷ Token.Name (109 ∷ 97 ∷ 105 ∷ 110 ∷ []) ∷ m Mark.OpenParenthesis ∷ m Mark.CloseParenthesis ∷ m Mark.OpenBrace ∷ w Word.Match ∷ Token.Name (120 ∷ []) ∷ m Mark.OpenBrace ∷ Token.Number 0 None ∷ m Mark.FatArrow ∷ m Mark.OpenBrace ∷ Token.Number 1 None ∷ m Mark.CloseBrace ∷ m Mark.Minus ∷ Token.Name (120 ∷ []) ∷ m Mark.CloseBrace ∷ m Mark.CloseBrace ∷ []) ≡ false
refused_7 = refl

-- fn main() { match x { 0 => 1 2 => 3 } }
refused_8 : accepts (w Word.Fn ∷ Token.Name (109 ∷ 97 ∷ 105 ∷ 110 ∷ []) ∷ m Mark.OpenParenthesis ∷ m Mark.CloseParenthesis ∷ m Mark.OpenBrace ∷ w Word.Match ∷ Token.Name (120 ∷ []) ∷ m Mark.OpenBrace ∷ Token.Number 0 None ∷ m Mark.FatArrow ∷ Token.Number 1 None ∷ Token.Number 2 None ∷ m Mark.FatArrow ∷ Token.Number 3 None ∷ m Mark.CloseBrace ∷ m Mark.CloseBrace ∷ []) ≡ false
refused_8 = refl

-- fn main() { match x {} }
refused_9 : accepts (w Word.Fn ∷ Token.Name (109 ∷ 97 ∷ 105 ∷ 110 ∷ []) ∷ m Mark.OpenParenthesis ∷ m Mark.CloseParenthesis ∷ m Mark.OpenBrace ∷ w Word.Match ∷ Token.Name (120 ∷ []) ∷ m Mark.OpenBrace ∷ m Mark.CloseBrace ∷ m Mark.CloseBrace ∷ []) ≡ false
refused_9 = refl

-- fn f(self) {}
refused_10 : accepts (w Word.Fn ∷ Token.Name (102 ∷ []) ∷ m Mark.OpenParenthesis ∷ w Word.SelfValue ∷ m Mark.CloseParenthesis ∷ m Mark.OpenBrace ∷ m Mark.CloseBrace ∷ []) ≡ false
refused_10 = refl

-- impl S { fn f(a: i32, self) {} }
refused_11 : accepts (w Word.Impl ∷ Token.Name (83 ∷ []) ∷ m Mark.OpenBrace ∷ w Word.Fn ∷ Token.Name (102 ∷ []) ∷ m Mark.OpenParenthesis ∷ Token.Name (97 ∷ []) ∷ m Mark.Colon ∷ Token.Name (105 ∷ 51 ∷ 50 ∷ []) ∷ m Mark.Comma ∷ w Word.SelfValue ∷ m Mark.CloseParenthesis ∷ m Mark.OpenBrace ∷ m Mark.CloseBrace ∷ m Mark.CloseBrace ∷ []) ≡ false
refused_11 = refl

-- fn main() { a + return }
refused_12 : accepts (w Word.Fn ∷ Token.Name (109 ∷ 97 ∷ 105 ∷ 110 ∷ []) ∷ m Mark.OpenParenthesis ∷ m Mark.CloseParenthesis ∷ m Mark.OpenBrace ∷ Token.Name (97 ∷ []) ∷ m Mark.Plus ∷ w Word.Return ∷ m Mark.CloseBrace ∷ []) ≡ false
refused_12 = refl

-- fn main() { let mut self = 1; }
refused_13 : accepts (w Word.Fn ∷ Token.Name (109 ∷ 97 ∷ 105 ∷ 110 ∷ []) ∷ m Mark.OpenParenthesis ∷ m Mark.CloseParenthesis ∷ m Mark.OpenBrace ∷ w Word.Let ∷ w Word.Mut ∷ w Word.SelfValue ∷ m Mark.Eq ∷ Token.Number 1 None ∷ m Mark.Semi ∷ m Mark.CloseBrace ∷ []) ≡ false
refused_13 = refl

-- fn main() { continue 'a: loop {} }
refused_14 : accepts (w Word.Fn ∷ Token.Name (109 ∷ 97 ∷ 105 ∷ 110 ∷ []) ∷ m Mark.OpenParenthesis ∷ m Mark.CloseParenthesis ∷ m Mark.OpenBrace ∷ w Word.Continue ∷ Token.Label (97 ∷ []) ∷ m Mark.Colon ∷ w Word.Loop ∷ m Mark.OpenBrace ∷ m Mark.CloseBrace ∷ m Mark.CloseBrace ∷ []) ≡ false
refused_14 = refl

-- fn main() { (,) }
refused_15 : accepts (w Word.Fn ∷ Token.Name (109 ∷ 97 ∷ 105 ∷ 110 ∷ []) ∷ m Mark.OpenParenthesis ∷ m Mark.CloseParenthesis ∷ m Mark.OpenBrace ∷ m Mark.OpenParenthesis ∷ m Mark.Comma ∷ m Mark.CloseParenthesis ∷ m Mark.CloseBrace ∷ []) ≡ false
refused_15 = refl

-- fn main() { f(, 1) }
refused_16 : accepts (w Word.Fn ∷ Token.Name (109 ∷ 97 ∷ 105 ∷ 110 ∷ []) ∷ m Mark.OpenParenthesis ∷ m Mark.CloseParenthesis ∷ m Mark.OpenBrace ∷ Token.Name (102 ∷ []) ∷ m Mark.OpenParenthesis ∷ m Mark.Comma ∷ Token.Number 1 None ∷ m Mark.CloseParenthesis ∷ m Mark.CloseBrace ∷ []) ≡ false
refused_16 = refl

-- fn main() { else {} }
refused_17 : accepts (w Word.Fn ∷ Token.Name (109 ∷ 97 ∷ 105 ∷ 110 ∷ []) ∷ m Mark.OpenParenthesis ∷ m Mark.CloseParenthesis ∷ m Mark.OpenBrace ∷ w Word.Else ∷ m Mark.OpenBrace ∷ m Mark.CloseBrace ∷ m Mark.CloseBrace ∷ []) ≡ false
refused_17 = refl

-- struct S
refused_18 : accepts (w Word.Struct ∷ Token.Name (83 ∷ []) ∷ []) ≡ false
refused_18 = refl

-- fn main() { x.1i32 }
refused_19 : accepts (w Word.Fn ∷ Token.Name (109 ∷ 97 ∷ 105 ∷ 110 ∷ []) ∷ m Mark.OpenParenthesis ∷ m Mark.CloseParenthesis ∷ m Mark.OpenBrace ∷ Token.Name (120 ∷ []) ∷ m Mark.Dot ∷ Token.Number 1 (Some IntKind.I32) ∷ m Mark.CloseBrace ∷ []) ≡ false
refused_19 = refl

-- fn main() { &&x }
refused_20 : accepts (w Word.Fn ∷ Token.Name (109 ∷ 97 ∷ 105 ∷ 110 ∷ []) ∷ m Mark.OpenParenthesis ∷ m Mark.CloseParenthesis ∷ m Mark.OpenBrace ∷ m Mark.AndAnd ∷ Token.Name (120 ∷ []) ∷ m Mark.CloseBrace ∷ []) ≡ false
refused_20 = refl

-- fn main() { if a { 1 } else 2 }
refused_21 : accepts (w Word.Fn ∷ Token.Name (109 ∷ 97 ∷ 105 ∷ 110 ∷ []) ∷ m Mark.OpenParenthesis ∷ m Mark.CloseParenthesis ∷ m Mark.OpenBrace ∷ w Word.If ∷ Token.Name (97 ∷ []) ∷ m Mark.OpenBrace ∷ Token.Number 1 None ∷ m Mark.CloseBrace ∷ w Word.Else ∷ Token.Number 2 None ∷ m Mark.CloseBrace ∷ []) ≡ false
refused_21 = refl

-- fn main() { match x { (.., a) => 1 } }
refused_22 : accepts (w Word.Fn ∷ Token.Name (109 ∷ 97 ∷ 105 ∷ 110 ∷ []) ∷ m Mark.OpenParenthesis ∷ m Mark.CloseParenthesis ∷ m Mark.OpenBrace ∷ w Word.Match ∷ Token.Name (120 ∷ []) ∷ m Mark.OpenBrace ∷ m Mark.OpenParenthesis ∷ m Mark.DotDot ∷ m Mark.Comma ∷ Token.Name (97 ∷ []) ∷ m Mark.CloseParenthesis ∷ m Mark.FatArrow ∷ Token.Number 1 None ∷ m Mark.CloseBrace ∷ m Mark.CloseBrace ∷ []) ≡ false
refused_22 = refl

-- fn main() { match x { (a ..) => 1 } }
refused_23 : accepts (w Word.Fn ∷ Token.Name (109 ∷ 97 ∷ 105 ∷ 110 ∷ []) ∷ m Mark.OpenParenthesis ∷ m Mark.CloseParenthesis ∷ m Mark.OpenBrace ∷ w Word.Match ∷ Token.Name (120 ∷ []) ∷ m Mark.OpenBrace ∷ m Mark.OpenParenthesis ∷ Token.Name (97 ∷ []) ∷ m Mark.DotDot ∷ m Mark.CloseParenthesis ∷ m Mark.FatArrow ∷ Token.Number 1 None ∷ m Mark.CloseBrace ∷ m Mark.CloseBrace ∷ []) ≡ false
refused_23 = refl

-- fn main() { 1 2 }
refused_24 : accepts (w Word.Fn ∷ Token.Name (109 ∷ 97 ∷ 105 ∷ 110 ∷ []) ∷ m Mark.OpenParenthesis ∷ m Mark.CloseParenthesis ∷ m Mark.OpenBrace ∷ Token.Number 1 None ∷ Token.Number 2 None ∷ m Mark.CloseBrace ∷ []) ≡ false
refused_24 = refl

-- fn main() { let a | b = c; }
refused_25 : accepts (w Word.Fn ∷ Token.Name (109 ∷ 97 ∷ 105 ∷ 110 ∷ []) ∷ m Mark.OpenParenthesis ∷ m Mark.CloseParenthesis ∷ m Mark.OpenBrace ∷ w Word.Let ∷ Token.Name (97 ∷ []) ∷ m Mark.Or ∷ Token.Name (98 ∷ []) ∷ m Mark.Eq ∷ Token.Name (99 ∷ []) ∷ m Mark.Semi ∷ m Mark.CloseBrace ∷ []) ≡ false
refused_25 = refl

-- trait T { fn f() {} }
refused_26 : accepts (w Word.Trait ∷ Token.Name (84 ∷ []) ∷ m Mark.OpenBrace ∷ w Word.Fn ∷ Token.Name (102 ∷ []) ∷ m Mark.OpenParenthesis ∷ m Mark.CloseParenthesis ∷ m Mark.OpenBrace ∷ m Mark.CloseBrace ∷ m Mark.CloseBrace ∷ []) ≡ false
refused_26 = refl

-- #[derive(Copy)] fn f() {}
refused_27 : accepts (m Mark.Pound ∷ m Mark.OpenBracket ∷ Token.Name (100 ∷ 101 ∷ 114 ∷ 105 ∷ 118 ∷ 101 ∷ []) ∷ m Mark.OpenParenthesis ∷ Token.Name (67 ∷ 111 ∷ 112 ∷ 121 ∷ []) ∷ m Mark.CloseParenthesis ∷ m Mark.CloseBracket ∷ w Word.Fn ∷ Token.Name (102 ∷ []) ∷ m Mark.OpenParenthesis ∷ m Mark.CloseParenthesis ∷ m Mark.OpenBrace ∷ m Mark.CloseBrace ∷ []) ≡ false
refused_27 = refl

-- #[derive(Copy)] trait T {}
refused_28 : accepts (m Mark.Pound ∷ m Mark.OpenBracket ∷ Token.Name (100 ∷ 101 ∷ 114 ∷ 105 ∷ 118 ∷ 101 ∷ []) ∷ m Mark.OpenParenthesis ∷ Token.Name (67 ∷ 111 ∷ 112 ∷ 121 ∷ []) ∷ m Mark.CloseParenthesis ∷ m Mark.CloseBracket ∷ w Word.Trait ∷ Token.Name (84 ∷ []) ∷ m Mark.OpenBrace ∷ m Mark.CloseBrace ∷ []) ≡ false
refused_28 = refl

-- fn main() { if break {} {} - }
refused_29 : accepts (w Word.Fn ∷ Token.Name (109 ∷ 97 ∷ 105 ∷ 110 ∷ []) ∷ m Mark.OpenParenthesis ∷ m Mark.CloseParenthesis ∷ m Mark.OpenBrace ∷ w Word.If ∷ w Word.Break ∷ m Mark.OpenBrace ∷ m Mark.CloseBrace ∷ m Mark.OpenBrace ∷ m Mark.CloseBrace ∷ m Mark.Minus ∷ m Mark.CloseBrace ∷ []) ≡ false
refused_29 = refl

-- fn main() { move || {} }
refused_30 : accepts (w Word.Fn ∷ Token.Name (109 ∷ 97 ∷ 105 ∷ 110 ∷ []) ∷ m Mark.OpenParenthesis ∷ m Mark.CloseParenthesis ∷ m Mark.OpenBrace ∷ w Word.Move ∷ m Mark.OrOr ∷ m Mark.OpenBrace ∷ m Mark.CloseBrace ∷ m Mark.CloseBrace ∷ []) ≡ false
refused_30 = refl

-- fn main() { print!(1) }
refused_31 : accepts (w Word.Fn ∷ Token.Name (109 ∷ 97 ∷ 105 ∷ 110 ∷ []) ∷ m Mark.OpenParenthesis ∷ m Mark.CloseParenthesis ∷ m Mark.OpenBrace ∷ Token.Name (112 ∷ 114 ∷ 105 ∷ 110 ∷ 116 ∷ []) ∷ m Mark.Not ∷ m Mark.OpenParenthesis ∷ Token.Number 1 None ∷ m Mark.CloseParenthesis ∷ m Mark.CloseBrace ∷ []) ≡ false
refused_31 = refl

-- fn main() { a = b; = c }
refused_32 : accepts (w Word.Fn ∷ Token.Name (109 ∷ 97 ∷ 105 ∷ 110 ∷ []) ∷ m Mark.OpenParenthesis ∷ m Mark.CloseParenthesis ∷ m Mark.OpenBrace ∷ Token.Name (97 ∷ []) ∷ m Mark.Eq ∷ Token.Name (98 ∷ []) ∷ m Mark.Semi ∷ m Mark.Eq ∷ Token.Name (99 ∷ []) ∷ m Mark.CloseBrace ∷ []) ≡ false
refused_32 = refl

-- Box<T>= x
refused_33 : accepts (Token.Name (66 ∷ 111 ∷ 120 ∷ []) ∷ m Mark.Lt ∷ Token.Name (84 ∷ []) ∷ m Mark.Ge ∷ Token.Name (120 ∷ []) ∷ []) ≡ false
refused_33 = refl
