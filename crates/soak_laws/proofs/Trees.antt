-- The tree of the program that `soak` runs, without its places.
use Rattle.std.specs.Prelude.{ℕ, zero, suc, List, ◌∷◌, None, codes}
use Rattle.std.specs.Fmt.{decimal}
use Rattle.src_token.specs.declared.mark.Mark.{Mark}
use Rattle.src_token.specs.declared.token.Token.{Token}
use Rattle.src_token.specs.declared.word.Word.{Word as Keyword}
use Rattle.src_tree.specs.declared.row.GrammarRow.{GrammarRow as row}
use Rattle.src_tree.specs.Layout.{SyntaxNode, node, Parts, end, tok, sub}

abbrev Node : Type 0
Node = SyntaxNode (Unit {0})

abbrev pub Items : Type 0
Items = Parts (Unit {0})

abbrev of_row : row → Items → Node
of_row r parts = node tt r parts

abbrev pub mark : Mark → Token
mark m = Token.Mark m

abbrev pub word : Keyword → Token
word w = Token.Word w

abbrev pub name : List ℕ → Token
name n = Token.Name n

abbrev pub number : ℕ → Token
number n = Token.Number n None

-- ---- parts

abbrev ident : List ℕ → Node
ident n = of_row row.Ident (tok (name n) end)

abbrev named_type : List ℕ → Node
named_type n = of_row row.NamedType (tok (name n) end)

abbrev binding : List ℕ → Node
binding n = of_row row.BindPattern (tok (name n) end)

abbrev path : List ℕ → Node
path n = of_row row.Path (tok (name n) end)

abbrev literal : ℕ → Node
literal n = of_row row.Number (tok (number n) end)

-- a call with one argument, and one without
abbrev call : List ℕ → Node → Node
call callee argument = of_row row.Call (
    sub (path callee) (tok (mark Mark.OpenParenthesis) (sub argument (tok (mark Mark.CloseParenthesis) end))))

abbrev call_alone : List ℕ → Node
call_alone callee = of_row row.Call (
    sub (path callee) (tok (mark Mark.OpenParenthesis) (tok (mark Mark.CloseParenthesis) end)))

abbrev semi : Node → Node
semi expression = of_row row.Semi (sub expression (tok (mark Mark.Semi) end))

abbrev closing : Items
closing = tok (mark Mark.CloseBrace) end

-- ---- items

abbrev pub d_word : List ℕ
d_word = codes "D"

abbrev pub struct_node : Node
struct_node = of_row row.Struct (
    tok (word Keyword.Struct) (sub (ident d_word) (tok (mark Mark.OpenParenthesis) (sub (named_type (codes "i32"))
    (tok (mark Mark.CloseParenthesis) (tok (mark Mark.Semi) end))))))

abbrev self_field : Node
self_field = of_row row.TupleField (
    sub (of_row row.SelfValue (tok (word Keyword.SelfValue) end)) (tok (mark Mark.Dot) (tok (number 0) end)))

abbrev drop_method : Node
drop_method = of_row row.Method (
    tok (word Keyword.Fn) (sub (ident (codes "drop")) (tok (mark Mark.OpenParenthesis)
    (sub (of_row row.SelfParam (tok (mark Mark.And) (tok (word Keyword.Mut) (tok (word Keyword.SelfValue) end))))
    (tok (mark Mark.CloseParenthesis) (sub (of_row row.Block (
    tok (mark Mark.OpenBrace) (sub (semi (call (codes "print") self_field)) closing))) end))))))

abbrev pub impl_node : Node
impl_node = of_row row.Impl (
    tok (word Keyword.Impl) (sub (ident (codes "Drop")) (tok (word Keyword.For) (sub (ident d_word)
    (tok (mark Mark.OpenBrace) (sub drop_method closing))))))

abbrev parameter : Node
parameter = of_row row.Param (sub (binding (codes "x")) (tok (mark Mark.Colon) (sub (named_type d_word) end)))

-- `let y = D(n);`
abbrev own_value : ℕ → Node
own_value n = of_row row.Let (
    tok (word Keyword.Let) (sub (binding (codes "y")) (tok (mark Mark.Eq) (sub (call d_word (literal n))
    (tok (mark Mark.Semi) end)))))

-- `if ask() == 0 { callee(x); }`
abbrev asking : List ℕ → Node
asking callee = of_row row.If (
    tok (word Keyword.If) (sub (of_row row.Compare (
    sub (call_alone (codes "ask")) (tok (mark Mark.EqEq) (sub (literal 0) end))))
    (sub (of_row row.Block (
    tok (mark Mark.OpenBrace) (sub (semi (call callee (path (codes "x")))) closing))) end)))

-- a function by its name, the number of its own value, and what it calls
abbrev pub function_node : List ℕ → ℕ → List ℕ → Node
function_node own n callee = of_row row.Fn (
    tok (word Keyword.Fn) (sub (ident own) (tok (mark Mark.OpenParenthesis) (sub parameter
    (tok (mark Mark.CloseParenthesis) (sub (of_row row.Block (
    tok (mark Mark.OpenBrace) (sub (own_value n) (sub (asking callee) closing)))) end))))))

abbrev pub main_node : List ℕ → ℕ → Node
main_node last n = of_row row.Fn (
    tok (word Keyword.Fn) (sub (ident (codes "main")) (tok (mark Mark.OpenParenthesis)
    (tok (mark Mark.CloseParenthesis) (sub (of_row row.Block (
    tok (mark Mark.OpenBrace) (sub (semi (call last (call d_word (literal n)))) closing))) end)))))

-- ---- the whole

-- the name of a function, and what it calls
abbrev pub f_word : ℕ → List ℕ
f_word i = 102 ∷ decimal i

abbrev pub callee_word : ℕ → List ℕ
callee_word zero = codes "drop"
callee_word (suc i) = f_word i

-- so many functions, before what follows
abbrev pub functions_before : ℕ → Items → Items
functions_before zero rest = rest
functions_before (suc i) rest = functions_before i (sub (function_node (f_word i) i (callee_word i)) rest)

-- one function more than the number of the last
abbrev pub soak_items : ℕ → Items
soak_items last =
    sub struct_node (sub impl_node (functions_before (suc last) (sub (main_node (f_word last) (suc last)) end)))
