-- The functions and methods among the bodies that a text lists are those of its items.
use Rattle.std.proofs.Common.{◌≡◌, List, [], ◌∷◌, ◌++◌, map, Option, Some, None, refl, ap, sym, ◌∙◌}
use Rattle.typing_rules.specs.Items.{ItemSyn, item_syns, impl_owner, full_name}
use Rattle.typing_rules.specs.Written.{WrittenScope}
use Rattle.src_ast.specs.Syntax.{Word, Syn, syn, Shape, AnExpression, AStatement, AnItem, AnInit, AnArm, Expression, Minus, Bang, Star, Ampersand, Calculate, Compare, Both, Either, Store, CallOf, MethodOf, FieldOf, PartOf, ElementOf, StructOf, Parens, TupleOf, ArrayOf, Braces, IfElse, IfLetElse, MatchOn, LoopOf, WhileOf, WhileLetOf, BreakOf, ReturnOf, MoveOf, LetOf, Semi, ImplItem, FnItem, Syns, no_syn, a_syn, list_of, MaybeSyn, nothing, just}
use Rattle.typing_soundness.specs.Closures.{BodySyn, Function, Closure, closures_of, closures_in, closures_in_expression, closures_among, closures_if_any, functions_text}
use Rattle.typing_soundness.specs.Heads.{bodies_text, inner_text, TellBodies}
use Rattle.typing_soundness.proofs.Items.Called.{bodies_called, all_called}
use Rattle.typing_soundness.proofs.Items.Distinct.{functions}
use Rattle.typing_soundness.proofs.Items.Methods.{pairs_of, pairs_in, pair_name}

-- the whole names of functions and methods, without closures
abbrev names_in : Option Word → List BodySyn → List Word
names_in owner [] = []
names_in owner (Function head ∷ rest) = full_name owner head.name ∷ names_in owner rest
names_in owner (Closure head ∷ rest) = names_in owner rest

-- of an item
abbrev pub functions_in : Syn → List Word
functions_in (syn at (AnItem (FnItem name params answer block))) = name.1 ∷ []
functions_in item = map pair_name (pairs_in item)

abbrev pub all_functions : List Syn → List Word
all_functions [] = []
all_functions (i ∷ is) = functions_in i ++ all_functions is

-- an expression has closures alone
module _ (owner : Option Word) (around : WrittenScope) where
  mutual
    silent : (e : Syn) (rest : List BodySyn) → names_in owner (closures_of around e rest) ≡ names_in owner rest
    silent (syn at form) rest = silent_form form rest

    silent_form : (form : Shape) (rest : List BodySyn) → names_in owner (closures_in around form rest) ≡ names_in owner rest
    silent_form (AnExpression e) rest = silent_expression e rest
    silent_form (AnInit name value) rest = silent_if_any value rest
    silent_form (AnArm pattern guard body) rest = silent_if_any guard _ ∙ silent body rest
    silent_form (AStatement (LetOf pattern ty value)) rest = silent_if_any value rest
    silent_form (AStatement (Semi expression)) rest = silent expression rest
    silent_form _ rest = refl

    silent_expression : (form : Expression) (rest : List BodySyn) → names_in owner (closures_in_expression around form rest) ≡ names_in owner rest
    silent_expression (Minus operand) rest = silent operand rest
    silent_expression (Bang operand) rest = silent operand rest
    silent_expression (Star operand) rest = silent operand rest
    silent_expression (Ampersand unique operand) rest = silent operand rest
    silent_expression (Calculate operator left right) rest = silent left _ ∙ silent right rest
    silent_expression (Compare operator left right) rest = silent left _ ∙ silent right rest
    silent_expression (Both left right) rest = silent left _ ∙ silent right rest
    silent_expression (Either left right) rest = silent left _ ∙ silent right rest
    silent_expression (Store place value) rest = silent place _ ∙ silent value rest
    silent_expression (CallOf callee args) rest = silent callee _ ∙ silent_among args rest
    silent_expression (MethodOf receiver name args) rest = silent receiver _ ∙ silent_among args rest
    silent_expression (FieldOf base name) rest = silent base rest
    silent_expression (PartOf base number) rest = silent base rest
    silent_expression (ElementOf base index) rest = silent base _ ∙ silent index rest
    silent_expression (StructOf first second inits) rest = silent_among inits rest
    silent_expression (Parens inside) rest = silent inside rest
    silent_expression (TupleOf parts) rest = silent_among parts rest
    silent_expression (ArrayOf elements) rest = silent_among elements rest
    silent_expression (Braces statements tail) rest = silent_among statements _ ∙ silent_if_any tail rest
    silent_expression (IfElse condition body otherwise) rest = silent condition _ ∙ silent body _ ∙ silent_if_any otherwise rest
    silent_expression (IfLetElse pattern scrutinee body otherwise) rest =
        silent scrutinee _ ∙ silent body _ ∙ silent_if_any otherwise rest
    silent_expression (MatchOn scrutinee arms) rest = silent scrutinee _ ∙ silent_among arms rest
    silent_expression (LoopOf label body) rest = silent body rest
    silent_expression (WhileOf label condition body) rest = silent condition _ ∙ silent body rest
    silent_expression (WhileLetOf label pattern scrutinee body) rest = silent scrutinee _ ∙ silent body rest
    silent_expression (BreakOf label value) rest = silent_if_any value rest
    silent_expression (ReturnOf value) rest = silent_if_any value rest
    silent_expression (MoveOf captures params answer body) rest = silent body rest
    silent_expression _ rest = refl

    silent_among : (es : Syns) (rest : List BodySyn) → names_in owner (closures_among around es rest) ≡ names_in owner rest
    silent_among no_syn rest = refl
    silent_among (a_syn first others) rest = silent first _ ∙ silent_among others rest

    silent_if_any : (e : MaybeSyn) (rest : List BodySyn) → names_in owner (closures_if_any around e rest) ≡ names_in owner rest
    silent_if_any nothing rest = refl
    silent_if_any (just value) rest = silent value rest

  called_are : (bs : List Syn) → names_in owner (bodies_text around bs []) ≡ functions (bodies_called owner bs)
  called_are [] = refl
  called_are (syn at (AnItem (FnItem name params answer block)) ∷ bs) = ap (λ ws. full_name owner name.1 ∷ ws) (called_are bs)
  called_are (syn at (AnExpression (MoveOf captures params answer body)) ∷ bs) = called_are bs
  called_are (syn at _ ∷ bs) = called_are bs

methods_are : (around : WrittenScope) (owner : Word) (ms : List Syn) → names_in (Some owner) (functions_text around ms []) ≡ map
    pair_name (pairs_of owner ms)
methods_are around owner [] = refl
methods_are around owner (syn at (AnItem (FnItem name params answer block)) ∷ ms) =
    ap (λ ws. full_name (Some owner) name.1 ∷ ws) (silent_if_any (Some owner) around block (functions_text around ms []) ∙
    methods_are around owner ms)
methods_are around owner (syn at _ ∷ ms) = methods_are around owner ms

inner_are : (around : WrittenScope) (i : Syn) → names_in (impl_owner i) (inner_text around i []) ≡ functions_in i
inner_are around (syn at (AnItem (ImplItem trait_ name methods))) = methods_are around name.1 (list_of methods)
inner_are around (syn at (AnItem (FnItem name params answer block))) =
    ap (λ ws. name.1 ∷ ws) (silent_if_any None around block [])
inner_are around (syn at _) = refl

functions_join : (fs gs : List (Option Word)) → functions (fs ++ gs) ≡ functions fs ++ functions gs
functions_join [] gs = refl
functions_join (Some f ∷ fs) gs = ap (λ ws. f ∷ ws) (functions_join fs gs)
functions_join (None ∷ fs) gs = functions_join fs gs

pub functions_are : (around : WrittenScope) (is : List ItemSyn) → TellBodies is → functions (all_called is) ≡ all_functions (item_syns
    is)
functions_are around [] h = refl
functions_are around (i ∷ is) h =
    functions_join (bodies_called (impl_owner i.item) i.bodies) (all_called is) ∙ (λ j. item j ++ functions_are around is h.1 j)
  where
    item : functions (bodies_called (impl_owner i.item) i.bodies) ≡ functions_in i.item
    item =
        sym (called_are (impl_owner i.item) around i.bodies) ∙ (ap (λ f. names_in (impl_owner i.item) (f [])) (h.0 around) ∙
        inner_are around i.item)
