-- `Levelled` as a test, for the functions that compute it; nothing that a reader must believe rests on it.
use Rattle.std.specs.Prelude.{ℕ, Bool, false, ◌&&◌, nat_eq, Option, Some, None}
use Rattle.src_tree.specs.declared.row.GrammarRow.{GrammarRow}
use Rattle.src_tree.specs.declared.place.GrammarPlace.{GrammarPlace}
use Rattle.src_tree.specs.declared.place.Seen.{Seen}
use Rattle.src_tree.specs.Grammar.{seen, allowed, GrammarRest, move, behind, made}
use Rattle.src_tree.specs.View.{Single, a_token, a_node}
use Rattle.src_tree.specs.Reading.{only_if}
use Rattle.src_tree.specs.Layout.{SyntaxNode, node, Parts, end, tok, sub, row_of, due_place, entry_rest, joined_place, joined_rest}

-- by which rows are told apart
abbrev pub row_number : GrammarRow → ℕ
row_number GrammarRow.File = 0
row_number GrammarRow.Struct = 1
row_number GrammarRow.Enum = 2
row_number GrammarRow.Trait = 3
row_number GrammarRow.Impl = 4
row_number GrammarRow.Fn = 5
row_number GrammarRow.Method = 6
row_number GrammarRow.Head = 7
row_number GrammarRow.Field = 8
row_number GrammarRow.Variant = 9
row_number GrammarRow.Ident = 10
row_number GrammarRow.NamedType = 11
row_number GrammarRow.GenericType = 12
row_number GrammarRow.DynType = 13
row_number GrammarRow.SelfType = 14
row_number GrammarRow.TupleType = 15
row_number GrammarRow.ArrayType = 16
row_number GrammarRow.NeverType = 17
row_number GrammarRow.RefType = 18
row_number GrammarRow.WildPattern = 19
row_number GrammarRow.BindPattern = 20
row_number GrammarRow.NumberPattern = 21
row_number GrammarRow.BoolPattern = 22
row_number GrammarRow.PathPattern = 23
row_number GrammarRow.CallPattern = 24
row_number GrammarRow.StructPattern = 25
row_number GrammarRow.TuplePattern = 26
row_number GrammarRow.ArrayPattern = 27
row_number GrammarRow.OrPattern = 28
row_number GrammarRow.FieldPattern = 29
row_number GrammarRow.Param = 30
row_number GrammarRow.SelfParam = 31
row_number GrammarRow.Let = 32
row_number GrammarRow.Empty = 33
row_number GrammarRow.Semi = 34
row_number GrammarRow.Block = 35
row_number GrammarRow.If = 36
row_number GrammarRow.Match = 37
row_number GrammarRow.Arm = 38
row_number GrammarRow.LastArm = 39
row_number GrammarRow.Loop = 40
row_number GrammarRow.While = 41
row_number GrammarRow.Return = 42
row_number GrammarRow.Break = 43
row_number GrammarRow.Continue = 44
row_number GrammarRow.LabelName = 45
row_number GrammarRow.Closure = 46
row_number GrammarRow.Panic = 47
row_number GrammarRow.Assign = 48
row_number GrammarRow.Or = 49
row_number GrammarRow.And = 50
row_number GrammarRow.Compare = 51
row_number GrammarRow.Sum = 52
row_number GrammarRow.Product = 53
row_number GrammarRow.Prefix = 54
row_number GrammarRow.FieldAccess = 55
row_number GrammarRow.MethodCall = 56
row_number GrammarRow.TupleField = 57
row_number GrammarRow.Call = 58
row_number GrammarRow.Index = 59
row_number GrammarRow.Number = 60
row_number GrammarRow.Truth = 61
row_number GrammarRow.SelfValue = 62
row_number GrammarRow.Path = 63
row_number GrammarRow.StructExpr = 64
row_number GrammarRow.FieldInit = 65
row_number GrammarRow.Round = 66
row_number GrammarRow.Square = 67

abbrev pub is_row : GrammarRow → GrammarRow → Bool
is_row r x = nat_eq (row_number r) (row_number x)

abbrev pub makes : Option GrammarRow → GrammarRow → Bool
makes None r = false
makes (Some x) r = is_row x r

module _ {L : Type 0} where
  abbrev mutual
    pub levels : Option GrammarPlace → SyntaxNode L → Bool
    levels None (node at row parts) = false
    levels (Some c) (node at row parts) = allowed c row && begun (seen c) row parts

    pub begun : Seen → GrammarRow → Parts L → Bool
    begun s r end = false
    begun s r (tok t rest) = follows s.head (entry_rest s t) r rest
    begun s r (sub g end) = false
    begun s r (sub g (sub h rest)) = false
    begun s r (sub g (tok t rest)) = levels (joined_place s t) g && follows s.head (joined_rest s t) r rest

    pub follows : Bool → Option GrammarRest → GrammarRow → Parts L → Bool
    follows head None r parts = false
    follows head (Some q) r end = makes (made q) r
    follows head (Some q) r (tok t rest) = follows head (move q t) r rest
    follows head (Some q) r (sub g rest) =
        levels (due_place head q) g && follows head (Some (behind q (row_of g))) r rest

-- what is due behind a part
abbrev pub past : Bool → GrammarRest → Single → Option GrammarRest
past head q (a_token t) = move q t
past head q (a_node g) = only_if (levels (due_place head q) g) (Some (behind q (row_of g)))
