-- One more field is checked: what a check gives of all is what it gives of the rest, behind the first ones.
use Rattle.std.proofs.Common.{◌≡◌, ℕ, zero, suc, ◌+◌, List, [], ◌∷◌, ◌++◌, append_assoc, length, Option, Result, Ok, Err, refl, ap, sym, subst, ◌∙◌, arith}
use Rattle.std.proofs.lemmas.List.{append-nil}
use Rattle.mir_base.specs.declared.place_in_text.Pos.{Pos}
use Rattle.mir_base.specs.declared.rule.RuleError.{RuleError}
use Rattle.mir_ty.specs.declared.adt.Variant.{Variant}
use Rattle.typeck_heads.specs.Answers.{Refuses}
use Rattle.typeck_checker.specs.Lists.{below_all, last_nodes, nodes_on}
use Rattle.src_ast.specs.Syntax.{Syn, syn, Shape, AnInit, Syns, no_syn, a_syn}
use Rattle.typeck_calls.specs.StructFields.{numbered_by}
use Rattle.typeck_checker.specs.Stand.{below, top}
use Rattle.typed_tree.specs.Tree.{Node, Nodes, no_node, a_node, Fields, no_field, a_field}
use Rattle.typing_rules.specs.Check.{Broken, Check, TypingState, and_then, pure}
use Rattle.typing_rules.specs.Rows.{Given}
use Rattle.typing_rules.specs.Scope.{Env, field_named}
use Rattle.typing_rules.specs.Typed.{field_want, init_value, or_zero, typed_inits}
use Rattle.typeck_calls.specs.Inits.{behind_inits, fields_before, one_init}

-- ---- nodes behind nodes

append : Nodes → Nodes → Nodes
append no_node others = others
append (a_node first rest) others = a_node first (append rest others)

append_all : (xs ys zs : Nodes) → append (append xs ys) zs ≡ append xs (append ys zs)
unfolding append
append_all no_node ys zs = refl
append_all (a_node x xs) ys zs = ap (a_node x) (append_all xs ys zs)

size : Nodes → ℕ
size no_node = 0
size (a_node first rest) = suc (size rest)

appended : (k : ℕ) (ns : List Node) (others : Nodes) → nodes_on k ns others ≡ append (last_nodes k ns) others
unfolding append
appended zero ns others = refl
appended (suc k) ns others =
    appended k (below ns) (a_node (top ns) others)
    ∙ sym (append_all (last_nodes k (below ns)) (a_node (top ns) no_node) others)
    ∙ ap (λ xs. append xs others) (sym (appended k (below ns) (a_node (top ns) no_node)))

size_on : (k : ℕ) (ns : List Node) (others : Nodes) → size (nodes_on k ns others) ≡ k + size others
unfolding size
size_on zero ns others = let same : size others ≡ 0 + size others = omega arith in same
size_on (suc k) ns others = size_on k (below ns) (a_node (top ns) others) ∙ (let same : k + suc (size others) ≡ suc k + size others = omega arith in same)

-- ---- fields behind fields

one_before : (given : Given) (xs : Nodes) (number : Option ℕ) (n : Node) (others : Fields) → size xs ≡ length given →
    fields_before (given ++ number ∷ []) (append xs (a_node n no_node)) others ≡ fields_before given xs (a_field (or_zero number) n others)
unfolding append size
one_before [] no_node number n others e = refl
one_before [] (a_node x xs) number n others e = absurd (omega arith)
one_before (g ∷ given) no_node number n others e = absurd (omega arith)
one_before (g ∷ given) (a_node x xs) number n others e =
    ap (a_field (or_zero g) x) (one_before given xs number n others (let less : size xs ≡ length given = omega arith in less))

one_longer : (given : Given) (number : Option ℕ) → length (given ++ number ∷ []) ≡ suc (length given)
one_longer [] number = refl
one_longer (g ∷ given) number = ap suc (one_longer given number)

more : (given : Given) (number : Option ℕ) (ns : List Node) (others : Fields) →
    fields_before (given ++ number ∷ []) (last_nodes (length (given ++ number ∷ [])) ns) others
    ≡ fields_before given (last_nodes (length given) (below ns)) (a_field (or_zero number) (top ns) others)
unfolding size
more given number ns others =
    (let many : length (given ++ number ∷ []) ≡ suc (length given) = one_longer given number in
    ap (λ k. fields_before (given ++ number ∷ []) (last_nodes k ns) others) many)
    ∙ ap (λ xs. fields_before (given ++ number ∷ []) xs others) (appended (length given) (below ns) (a_node (top ns) no_node))
    ∙ one_before given (last_nodes (length given) (below ns)) number (top ns) others
    (size_on (length given) (below ns) no_node ∙ (let same : length given + 0 ≡ length given = omega arith in same))

all_before : (given : Given) (xs : Nodes) → fields_before given xs no_field ≡ numbered_by given xs
all_before [] xs = refl
all_before (g ∷ given) no_node = refl
all_before (g ∷ given) (a_node x xs) = ap (a_field (or_zero g) x) (all_before given xs)

-- ---- a field and those behind it

abbrev with_rest : Env → Variant → Syns → Option ℕ × Node → Check (Fields × Given)
with_rest env v rest n = λ t. and_then (typed_inits env v rest t) (λ fs. pure (a_field (or_zero n.0) n.1 fs.0, n.0 ∷ fs.1))

named_first : (k : Option ℕ) (f : Option ℕ × Node → Check (Fields × Given)) (o : Result (Node × TypingState) Broken) →
    and_then o (λ n. f (k, n)) ≡ and_then (and_then o (λ n. pure (k, n))) f
named_first k f (Ok n) = refl
named_first k f (Err e) = refl

with_form : (env : Env) (v : Variant) (at : Pos) (form : Shape) (rest : Syns) (s : TypingState) →
    typed_inits env v (a_syn (syn at form) rest) s ≡ and_then (one_init env v (syn at form) s) (with_rest env v rest)
with_form env v at (AnInit a b) rest s =
    named_first (field_named v a) (with_rest env v rest) (init_value env at a b (field_want v (field_named v a)) s)
with_form env v at _ rest s = refl

with_init : (env : Env) (v : Variant) (x : Syn) (rest : Syns) (s : TypingState) →
    typed_inits env v (a_syn x rest) s ≡ and_then (one_init env v x s) (with_rest env v rest)
with_init env v (syn at form) rest s = with_form env v at form rest s

one_behind : (given : Given) (number : Option ℕ) (ns ms : List Node) (o : Result ((Fields × Given) × TypingState) Broken) → below ms ≡ ns →
    behind_inits given ns (and_then o (λ fs. pure (a_field (or_zero number) (top ms) fs.0, number ∷ fs.1))) ≡ behind_inits (given ++ number ∷ []) ms o
one_behind given number ns ms (Ok a) h =
    ap (λ (l : List Node). Ok ((fields_before given (last_nodes (length given) l) (a_field (or_zero number) (top ms) a.0.0), given ++ number ∷ a.0.1), a.1)) (sym h)
    ∙ sym (λ i. Ok ((more given number ms a.0.0 i, append_assoc given (number ∷ []) a.0.1 i), a.1))
one_behind given number ns ms (Err e) h = refl

-- one more field
pub one_field : (env : Env) (v : Variant) (whole : Result ((Fields × Given) × TypingState) Broken) (given : Given) (number : Option ℕ) (ns ms : List Node) (ss : Syns) (x : Syn) (xs : Syns) (s t : TypingState) →
    whole ≡ behind_inits given ns (typed_inits env v ss s) → a_syn x xs ≡ ss → one_init env v x s ≡ Ok ((number, top ms), t) → below ms ≡ ns →
    whole ≡ behind_inits (given ++ number ∷ []) ms (typed_inits env v xs t)
one_field env v whole given number ns ms ss x xs s t h split here under =
    h ∙ ap (λ z. behind_inits given ns (typed_inits env v z s)) (sym split)
    ∙ ap (behind_inits given ns) (with_init env v x xs s)
    ∙ ap (λ o. behind_inits given ns (and_then o (with_rest env v xs))) here
    ∙ one_behind given number ns ms (typed_inits env v xs t) under

-- no more fields
pub no_more : (env : Env) (v : Variant) (whole : Result ((Fields × Given) × TypingState) Broken) (given : Given) (ns : List Node) (ss : Syns) (s : TypingState) →
    whole ≡ behind_inits given ns (typed_inits env v ss s) → no_syn ≡ ss → whole ≡ Ok ((numbered_by given (last_nodes (length given) ns), given), s)
no_more env v whole given ns ss s h is =
    h ∙ ap (λ z. behind_inits given ns (typed_inits env v z s)) (sym is)
    ∙ (λ i. Ok ((all_before given (last_nodes (length given) ns) i, append-nil given i), s))

-- what stands below one field more
pub below_more : (given : Given) (number : Option ℕ) (ms : List Node) → below_all (length (given ++ number ∷ [])) ms ≡ below_all (length given) (below ms)
below_more given number ms = ap (λ k. below_all k ms) (one_longer given number)

-- a field that is refused
refuses_behind : (given : Given) (ns : List Node) (o : Result ((Option ℕ × Node) × TypingState) Broken) (f : Option ℕ × Node → Check (Fields × Given)) (e : RuleError) → Refuses o e →
    Refuses (behind_inits given ns (and_then o f)) e
refuses_behind given ns o f (RuleError.Broken rule at) h = ap (λ r. behind_inits given ns (and_then r f)) h
refuses_behind given ns o f RuleError.Memory h = tt

pub field_refused : (env : Env) (v : Variant) (whole : Result ((Fields × Given) × TypingState) Broken) (given : Given) (ns : List Node) (ss : Syns) (x : Syn) (xs : Syns) (s : TypingState) (e : RuleError) →
    whole ≡ behind_inits given ns (typed_inits env v ss s) → a_syn x xs ≡ ss → Refuses (one_init env v x s) e → Refuses whole e
field_refused env v whole given ns ss x xs s e h split refused =
    subst (λ (o : Result ((Fields × Given) × TypingState) Broken). Refuses o e)
    (sym (h ∙ ap (λ z. behind_inits given ns (typed_inits env v z s)) (sym split) ∙ ap (behind_inits given ns) (with_init env v x xs s)))
    (refuses_behind given ns (one_init env v x s) (with_rest env v xs) e refused)
