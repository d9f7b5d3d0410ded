-- Each row gives forms of its own sort, or none, whatever its parts.
use Rattle.std.proofs.Common.{◌≡◌, ◌⊎◌, inl, inr, ℕ, Bool, true, false, ◌||◌, List, [], ◌∷◌, Option, Some, None, eqb, refl, ap, ◌∙◌, if◌then◌else◌}
use Rattle.src_token.specs.declared.mark.Mark.{Mark}
use Rattle.src_token.specs.declared.token.Token.{Token}
use Rattle.src_token.specs.declared.word.Word.{Word as Keyword}
use Rattle.src_tree.specs.Grammar.{is}
use Rattle.src_tree.specs.declared.kind.TokenKind.{TokenKind}
use Rattle.src_tree.specs.declared.row.GrammarRow.{GrammarRow}
use Rattle.src_ast.specs.Syntax.{Word, Named, Syn, Shape, AName, ALabel, AnExpression, AStatement, APattern, AType, AnItem, AParam, AField, AVariant, AnInit, AFieldPattern, AnArm, Odd, Minus, Bang, Star, Ampersand, MoveOf, ImplItem, FnItem, Syns, no_syn, a_syn, MaybeSyn, nothing, just}
use Rattle.src_ast.specs.View.{has_mark, has_word, first_that, cmp_in, math_in, a_label, with_first, with_two, with_three, made_by, from_just, idents, behind_idents, with_last_name, last_of, but_last, named, syns_of, is_statement, block_by, round, prefix, if_row, while_row, arm_row, behind_params, fn_row, impl_row, let_row, made}

-- the sorts of forms
pub data Sort : Type 0 where
  OfName : Sort
  OfLabel : Sort
  OfExpression : Sort
  OfStatement : Sort
  OfPattern : Sort
  OfType : Sort
  OfItem : Sort
  OfParam : Sort
  OfField : Sort
  OfVariant : Sort
  OfInit : Sort
  OfFieldPattern : Sort
  OfArm : Sort
  OfNone : Sort

abbrev pub sort_of : Shape → Sort
sort_of (AName name) = OfName
sort_of (ALabel name) = OfLabel
sort_of (AnExpression e) = OfExpression
sort_of (AStatement s) = OfStatement
sort_of (APattern p) = OfPattern
sort_of (AType t) = OfType
sort_of (AnItem i) = OfItem
sort_of (AParam p) = OfParam
sort_of (AField name ty) = OfField
sort_of (AVariant name kind fields) = OfVariant
sort_of (AnInit name value) = OfInit
sort_of (AFieldPattern name pattern) = OfFieldPattern
sort_of (AnArm pattern guard body) = OfArm
sort_of Odd = OfNone

-- the sort of the forms that a row gives
abbrev pub sort_of_row : GrammarRow → Sort
sort_of_row GrammarRow.Struct = OfItem
sort_of_row GrammarRow.Enum = OfItem
sort_of_row GrammarRow.Trait = OfItem
sort_of_row GrammarRow.Impl = OfItem
sort_of_row GrammarRow.Fn = OfItem
sort_of_row GrammarRow.Method = OfItem
sort_of_row GrammarRow.Head = OfItem
sort_of_row GrammarRow.Field = OfField
sort_of_row GrammarRow.Variant = OfVariant
sort_of_row GrammarRow.Ident = OfName
sort_of_row GrammarRow.NamedType = OfType
sort_of_row GrammarRow.GenericType = OfType
sort_of_row GrammarRow.DynType = OfType
sort_of_row GrammarRow.SelfType = OfType
sort_of_row GrammarRow.TupleType = OfType
sort_of_row GrammarRow.ArrayType = OfType
sort_of_row GrammarRow.NeverType = OfType
sort_of_row GrammarRow.RefType = OfType
sort_of_row GrammarRow.WildPattern = OfPattern
sort_of_row GrammarRow.BindPattern = OfPattern
sort_of_row GrammarRow.NumberPattern = OfPattern
sort_of_row GrammarRow.BoolPattern = OfPattern
sort_of_row GrammarRow.PathPattern = OfPattern
sort_of_row GrammarRow.CallPattern = OfPattern
sort_of_row GrammarRow.StructPattern = OfPattern
sort_of_row GrammarRow.TuplePattern = OfPattern
sort_of_row GrammarRow.ArrayPattern = OfPattern
sort_of_row GrammarRow.OrPattern = OfPattern
sort_of_row GrammarRow.FieldPattern = OfFieldPattern
sort_of_row GrammarRow.Param = OfParam
sort_of_row GrammarRow.SelfParam = OfParam
sort_of_row GrammarRow.Let = OfStatement
sort_of_row GrammarRow.Empty = OfStatement
sort_of_row GrammarRow.Semi = OfStatement
sort_of_row GrammarRow.Block = OfExpression
sort_of_row GrammarRow.If = OfExpression
sort_of_row GrammarRow.Match = OfExpression
sort_of_row GrammarRow.Arm = OfArm
sort_of_row GrammarRow.LastArm = OfArm
sort_of_row GrammarRow.Loop = OfExpression
sort_of_row GrammarRow.While = OfExpression
sort_of_row GrammarRow.Return = OfExpression
sort_of_row GrammarRow.Break = OfExpression
sort_of_row GrammarRow.Continue = OfExpression
sort_of_row GrammarRow.LabelName = OfLabel
sort_of_row GrammarRow.Closure = OfExpression
sort_of_row GrammarRow.Panic = OfExpression
sort_of_row GrammarRow.Assign = OfExpression
sort_of_row GrammarRow.Or = OfExpression
sort_of_row GrammarRow.And = OfExpression
sort_of_row GrammarRow.Compare = OfExpression
sort_of_row GrammarRow.Sum = OfExpression
sort_of_row GrammarRow.Product = OfExpression
sort_of_row GrammarRow.Prefix = OfExpression
sort_of_row GrammarRow.FieldAccess = OfExpression
sort_of_row GrammarRow.MethodCall = OfExpression
sort_of_row GrammarRow.TupleField = OfExpression
sort_of_row GrammarRow.Call = OfExpression
sort_of_row GrammarRow.Index = OfExpression
sort_of_row GrammarRow.Number = OfExpression
sort_of_row GrammarRow.Truth = OfExpression
sort_of_row GrammarRow.SelfValue = OfExpression
sort_of_row GrammarRow.Path = OfExpression
sort_of_row GrammarRow.StructExpr = OfExpression
sort_of_row GrammarRow.FieldInit = OfInit
sort_of_row GrammarRow.Round = OfExpression
sort_of_row GrammarRow.Square = OfExpression
sort_of_row GrammarRow.File = OfNone

abbrev pub is_same : Sort → Sort → Bool
is_same OfName OfName = true
is_same OfLabel OfLabel = true
is_same OfExpression OfExpression = true
is_same OfStatement OfStatement = true
is_same OfPattern OfPattern = true
is_same OfType OfType = true
is_same OfItem OfItem = true
is_same OfParam OfParam = true
is_same OfField OfField = true
is_same OfVariant OfVariant = true
is_same OfInit OfInit = true
is_same OfFieldPattern OfFieldPattern = true
is_same OfArm OfArm = true
is_same OfNone OfNone = true
is_same _ _ = false

one_of : (P : Shape → Type 0) (b : Bool) (x y : Shape) → P x → P y → P (if b then x else y)
one_of P true x y h k = h
one_of P false x y h k = k

module _ (P : Shape → Type 0) (O : P Odd) where
  one_part : (f : Syn → Syns → Shape) → ((a : Syn) (rest : Syns) → P (f a rest)) → (ss : Syns) → P (with_first f ss)
  one_part f h no_syn = O
  one_part f h (a_syn a rest) = h a rest

  two_parts : (f : Syn → Syn → Syns → Shape) → ((a b : Syn) (rest : Syns) → P (f a b rest)) → (ss : Syns) → P (with_two f ss)
  two_parts f h ss = one_part _ (λ a rest. one_part _ (h a) rest) ss

  three_parts : (f : Syn → Syn → Syn → Syns → Shape) → ((a b c : Syn) (rest : Syns) → P (f a b c rest)) → (ss : Syns) → P (with_three f ss)
  three_parts f h ss = one_part _ (λ a rest. two_parts _ (h a) rest) ss

  by_operator : {A : Type 0} (f : A → Shape) → ((a : A) → P (f a)) → (o : Option A) → P (made_by f o)
  by_operator f h None = O
  by_operator f h (Some a) = h a

  last_name : (f : List Named → Named → Shape) → ((ds : List Named) (n : Named) → P (f ds n)) → (ns : List Named) → P (with_last_name f ns)
  last_name f h [] = O
  last_name f h (n ∷ []) = h [] n
  last_name f h (n ∷ m ∷ ns) = last_name (λ earlier. f (n ∷ earlier)) (λ ds k. h (n ∷ ds) k) (m ∷ ns)

  impl_part : ((t : Option Named) (n : Named) (ms : Syns) → P (AnItem (ImplItem t n ms))) → (b : Bool) (ns : List Named) (ms : Syns) → P (impl_row b ns ms)
  impl_part h true [] ms = O
  impl_part h true (a ∷ []) ms = O
  impl_part h true (a ∷ b ∷ []) ms = h (Some a) b ms
  impl_part h true (a ∷ b ∷ c ∷ ns) ms = O
  impl_part h false [] ms = O
  impl_part h false (a ∷ []) ms = h None a ms
  impl_part h false (a ∷ b ∷ ns) ms = O

  params_part : (b : Bool) (f : Syns → MaybeSyn → Syn → Shape) → ((ps : Syns) (r : MaybeSyn) (block : Syn) → P (f ps r block)) → (ss : Syns) → P (behind_params b f ss)
  params_part b f h ss = go (last_of ss)
    where
      go : (m : MaybeSyn) → P (from_just (λ block. if b then f (but_last (but_last ss)) (last_of (but_last ss)) block else f (but_last ss) nothing block) m)
      go nothing = O
      go (just block) = one_of P b _ _ (h _ _ block) (h _ nothing block)

  prefix_part : (ts : List Token) (e : Syn) → P (AnExpression (Minus e)) → P (AnExpression (Bang e)) → P (AnExpression (Star e)) → ((u : Bool) → P (AnExpression (Ampersand u e))) → P (prefix ts e)
  prefix_part [] e m b s a = O
  prefix_part (t ∷ ts) e m b s a =
      one_of P (is (TokenKind.Mark Mark.Minus) t) _ _ m
      (one_of P (is (TokenKind.Mark Mark.Not) t) _ _ b (one_of P (is (TokenKind.Mark Mark.Star) t) _ _ s (a _)))

-- none, or of this sort
abbrev pub Sorted : Sort → Shape → Type 0
Sorted k s = (s ≡ Odd) ⊎ (sort_of s ≡ k)

fn_part : (b c : Bool) (ss : Syns) → Sorted OfItem (fn_row b c ss)
fn_part b true ss =
    one_part (Sorted OfItem) (inl refl) _ (λ name rest. params_part (Sorted OfItem) (inl refl) b (λ params answer block. AnItem (FnItem (named name) params answer (just block))) (λ ps r block. inr refl) rest) ss
fn_part true false ss = one_part (Sorted OfItem) (inl refl) _ (λ name rest. inr refl) ss
fn_part false false ss = one_part (Sorted OfItem) (inl refl) _ (λ name rest. inr refl) ss

let_part : (b c : Bool) (a : Syn) (rest : Syns) → Sorted OfStatement (let_row b c a rest)
let_part true c a rest = one_part (Sorted OfStatement) (inl refl) _ (λ t others. inr refl) rest
let_part false c a rest = inr refl

if_part : (b : Bool) (ss : Syns) → Sorted OfExpression (if_row b ss)
if_part true ss = three_parts (Sorted OfExpression) (inl refl) _ (λ a b c rest. inr refl) ss
if_part false ss = two_parts (Sorted OfExpression) (inl refl) _ (λ a b rest. inr refl) ss

while_part : (b : Bool) (l : Option Word) (ss : Syns) → Sorted OfExpression (while_row b l ss)
while_part true l ss = three_parts (Sorted OfExpression) (inl refl) _ (λ a b c rest. inr refl) ss
while_part false l ss = two_parts (Sorted OfExpression) (inl refl) _ (λ a b rest. inr refl) ss

arm_part : (b : Bool) (ss : Syns) → Sorted OfArm (arm_row b ss)
arm_part true ss = three_parts (Sorted OfArm) (inl refl) _ (λ a b c rest. inr refl) ss
arm_part false ss = two_parts (Sorted OfArm) (inl refl) _ (λ a b rest. inr refl) ss

pub sorted : (r : GrammarRow) (ts : List Token) (ss : Syns) → Sorted (sort_of_row r) (made r ts ss)
sorted GrammarRow.File ts ss = inl refl
sorted GrammarRow.Struct ts ss = last_name (Sorted OfItem) (inl refl) _ (λ ds n. inr refl) (idents ss)
sorted GrammarRow.Enum ts ss = last_name (Sorted OfItem) (inl refl) _ (λ ds n. inr refl) (idents ss)
sorted GrammarRow.Trait ts ss = one_part (Sorted OfItem) (inl refl) _ (λ a rest. inr refl) ss
sorted GrammarRow.Impl ts ss = impl_part (Sorted OfItem) (inl refl) (λ t n ms. inr refl) (has_word Keyword.For ts) (idents ss) (behind_idents ss)
sorted GrammarRow.Fn ts ss = fn_part (has_mark Mark.RArrow ts) true ss
sorted GrammarRow.Method ts ss = fn_part (has_mark Mark.RArrow ts) true ss
sorted GrammarRow.Head ts ss = fn_part (has_mark Mark.RArrow ts) false ss
sorted GrammarRow.Field ts ss = one_part (Sorted OfField) (inl refl) _ (λ a rest. inr refl) ss
sorted GrammarRow.GenericType ts ss = one_part (Sorted OfType) (inl refl) _ (λ a rest. inr refl) ss
sorted GrammarRow.DynType ts ss = one_part (Sorted OfType) (inl refl) _ (λ a rest. inr refl) ss
sorted GrammarRow.ArrayType ts ss = one_part (Sorted OfType) (inl refl) _ (λ a rest. inr refl) ss
sorted GrammarRow.RefType ts ss = one_part (Sorted OfType) (inl refl) _ (λ a rest. inr refl) ss
sorted GrammarRow.Param ts ss = two_parts (Sorted OfParam) (inl refl) _ (λ a b rest. inr refl) ss
sorted GrammarRow.Let ts ss = one_part (Sorted OfStatement) (inl refl) _ (let_part (has_mark Mark.Colon ts) (has_mark Mark.Eq ts)) ss
sorted GrammarRow.Semi ts ss = one_part (Sorted OfStatement) (inl refl) _ (λ a rest. inr refl) ss
sorted GrammarRow.If ts ss = if_part (has_word Keyword.Let ts) ss
sorted GrammarRow.Match ts ss = one_part (Sorted OfExpression) (inl refl) _ (λ a rest. inr refl) ss
sorted GrammarRow.Arm ts ss = arm_part (has_word Keyword.If ts) ss
sorted GrammarRow.LastArm ts ss = arm_part (has_word Keyword.If ts) ss
sorted GrammarRow.Loop ts ss = one_part (Sorted OfExpression) (inl refl) _ (λ a rest. inr refl) ss
sorted GrammarRow.While ts ss = while_part (has_word Keyword.Let ts) (a_label ts) ss
sorted GrammarRow.Closure ts ss = params_part (Sorted OfExpression) (inl refl) (has_mark Mark.RArrow ts) (λ params answer block. AnExpression (MoveOf (syns_of (idents ss)) params answer block)) (λ ps r b. inr refl) (behind_idents ss)
sorted GrammarRow.Assign ts ss = two_parts (Sorted OfExpression) (inl refl) _ (λ a b rest. inr refl) ss
sorted GrammarRow.Or ts ss = two_parts (Sorted OfExpression) (inl refl) _ (λ a b rest. inr refl) ss
sorted GrammarRow.And ts ss = two_parts (Sorted OfExpression) (inl refl) _ (λ a b rest. inr refl) ss
sorted GrammarRow.Compare ts ss = by_operator (Sorted OfExpression) (inl refl) _ (λ op. two_parts (Sorted OfExpression) (inl refl) _ (λ a b rest. inr refl) ss) (first_that cmp_in ts)
sorted GrammarRow.Sum ts ss = by_operator (Sorted OfExpression) (inl refl) _ (λ op. two_parts (Sorted OfExpression) (inl refl) _ (λ a b rest. inr refl) ss) (first_that math_in ts)
sorted GrammarRow.Product ts ss = by_operator (Sorted OfExpression) (inl refl) _ (λ op. two_parts (Sorted OfExpression) (inl refl) _ (λ a b rest. inr refl) ss) (first_that math_in ts)
sorted GrammarRow.Prefix ts ss = one_part (Sorted OfExpression) (inl refl) _ (λ a rest. prefix_part (Sorted OfExpression) (inl refl) ts a (inr refl) (inr refl) (inr refl) (λ u. inr refl)) ss
sorted GrammarRow.FieldAccess ts ss = one_part (Sorted OfExpression) (inl refl) _ (λ a rest. inr refl) ss
sorted GrammarRow.MethodCall ts ss = one_part (Sorted OfExpression) (inl refl) _ (λ a rest. inr refl) ss
sorted GrammarRow.TupleField ts ss = one_part (Sorted OfExpression) (inl refl) _ (λ a rest. inr refl) ss
sorted GrammarRow.Call ts ss = one_part (Sorted OfExpression) (inl refl) _ (λ a rest. inr refl) ss
sorted GrammarRow.Index ts ss = two_parts (Sorted OfExpression) (inl refl) _ (λ a b rest. inr refl) ss
sorted other ts ss = inr refl

-- a row gives no form of another sort
pub other_sort : (k : Sort) (r : GrammarRow) (ts : List Token) (ss : Syns) → is_same OfNone k ≡ false → is_same (sort_of_row r) k ≡ false →
    is_same (sort_of (made r ts ss)) k ≡ false
other_sort k r ts ss none_not row_not = by (sorted r ts ss)
  where
    by : Sorted (sort_of_row r) (made r ts ss) → is_same (sort_of (made r ts ss)) k ≡ false
    by (inl e) = ap (λ z. is_same (sort_of z) k) e ∙ none_not
    by (inr e) = ap (λ z. is_same z k) e ∙ row_not
