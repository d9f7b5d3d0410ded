-- `let`, once its parts are checked.
use Rattle.std.proofs.Common.{◌≡◌, ℕ, Bool, true, false, if◌then◌else◌, List, [], Option, Some, None, Result, Ok, Err, refl, ap, sym, subst, ◌∙◌}
use Rattle.std.proofs.lemmas.Bool.{false≢true}
use Rattle.mir_base.specs.declared.place_in_text.Pos.{Pos}
use Rattle.typeck_heads.proofs.Sequences.{stopped}
use Rattle.typeck_heads.specs.Answers.{Refuses}
use Rattle.mir_base.specs.declared.rule.Rule.{Rule}
use Rattle.mir_base.specs.declared.rule.RuleError.{RuleError}
use Rattle.mir_ty.specs.declared.ty.TyId.{TyId}
use Rattle.src_tree.specs.declared.node.SyntaxNode.{SyntaxNode}
use Rattle.src_ast.specs.Seen.{syn_of}
use Rattle.src_ast.specs.Sorts.{expression_part}
use Rattle.src_ast.specs.Syntax.{Syn, syn, shape_of, AnExpression, LetOf, MaybeSyn}
use Rattle.typed_tree.specs.Tree as tree
use Rattle.typed_tree.specs.Tree.{MaybeNode}
use Rattle.typing_rules.specs.Check.{Check, TypingState, Broken, ◌>>=◌, and_then, known, number, pure, the_items}
use Rattle.typing_rules.specs.Places.{a_node_of, unit}
use Rattle.typing_rules.specs.Patterns.{BoundPattern, pattern}
use Rattle.typing_rules.specs.Rows.{ends_by, let_end, let_of_type, let_ty, of_value, place_for_parts, taken}
use Rattle.typing_rules.specs.Scope.{Env, NamedEntry, with_variables}
use Rattle.typing_rules.specs.Typed.{a_statement, base_of, declared, for_parts, initialised, is_one_name, is_place, is_place_syn, matcher, other_statement, place, takes_any, typed, value}
use Rattle.typeck_exprs.specs.Forms.{value_as}
use Rattle.typeck_exprs.proofs.Shapes.{typed_value}

-- ---- the initialiser of a pattern with parts

pub parts_of_place : (e : Env) (any : Bool) (x : Syn) (expected : Option TyId) → is_place_syn e x ≡ true → for_parts e any expected x ≡ (base_of e x >>= place_for_parts e any expected)
parts_of_place e any (syn at (AnExpression form)) expected is = by (is_place e form) is
  where
    by : (b : Bool) → b ≡ true →
        (if b then place e at form >>= place_for_parts e any expected else value e at form expected) ≡ ((if b then place e at form else value e at form None) >>= place_for_parts e any expected)
    by true h = refl
    by false h = absurd (false≢true h)
parts_of_place e any _ expected is = absurd (false≢true is)

as_typed : (e : Env) (any : Bool) (x : Syn) (expected : Option TyId) → is_place_syn e x ≡ false → for_parts e any expected x ≡ typed e x expected
as_typed e any (syn at (AnExpression form)) expected is = by (is_place e form) is
  where
    by : (b : Bool) → b ≡ false →
        (if b then place e at form >>= place_for_parts e any expected else value e at form expected) ≡ (if b then place e at form >>= taken e expected else value e at form expected)
    by true h = absurd (false≢true (sym h))
    by false h = refl
as_typed e any _ expected is = refl

pub parts_of_value : (e : Env) (any : Bool) (n : SyntaxNode) (expected : Option TyId) → is_place_syn e (syn_of n) ≡ false →
    for_parts e any expected (syn_of n) ≡ value_as e n.at (expression_part (shape_of (syn_of n))) expected
parts_of_value e any n expected is = as_typed e any (syn_of n) expected is ∙ typed_value e n expected is

-- ---- a `let` as a whole

-- once its written type and its initialiser are checked
abbrev pub ending : Env → ℕ → Pos → Bool → Option TyId → MaybeNode → Syn → Check (tree.Node × Bool × Env)
ending e id at one d v p = let_end id at e one d v (matcher e p) (λ xs. with_variables xs e)

pub stated : (e f g : Env) (at : Pos) (p : Syn) (ty init : MaybeSyn) (one : Bool) (id : ℕ) (d : Option TyId) (v : MaybeNode)
    (s s1 s2 s3 : TypingState) → one ≡ is_one_name s.items p → number s ≡ Ok (id, s1) → declared e ty s1 ≡ Ok (d, s2) →
    initialised e one (takes_any p) init d s2 ≡ Ok (v, s3) → f ≡ e →
    other_statement e at (LetOf p ty init) s ≡ and_then (ending f id at one d v p s3) (λ n. λ t. Ok (a_statement n, t))
stated e f g at p ty init one id d v s s1 s2 s3 is h1 h2 h3 same =
    ap (λ (b : Bool). and_then (and_then (number s) (λ i. declared e ty >>= (λ d. initialised e b (takes_any p) init d >>= (λ v. ending e i at b d v p)))) (λ n. λ t. Ok (a_statement n, t))) (sym is)
    ∙ ap (λ o. and_then (and_then o (λ i. declared e ty >>= (λ d. initialised e one (takes_any p) init d >>= (λ v. ending e i at one d v p)))) (λ n. λ t. Ok (a_statement n, t))) h1
    ∙ ap (λ o. and_then (and_then o (λ d. initialised e one (takes_any p) init d >>= (λ v. ending e id at one d v p))) (λ n. λ t. Ok (a_statement n, t))) h2
    ∙ ap (λ o. and_then (and_then o (λ v. ending e id at one d v p)) (λ n. λ t. Ok (a_statement n, t))) h3
    ∙ ap (λ (k : Env). and_then (ending k id at one d v p s3) (λ n. λ t. Ok (a_statement n, t))) (sym same)

abbrev bound_rest : Env → ℕ → Pos → MaybeNode → BoundPattern → Check (tree.Node × Bool × Env)
bound_rest e id at v m = the_items >>= (λ after. pure (a_node_of id at unit (tree.Let m.0 v), ends_by after v, with_variables m.1 e))

-- what it brings into scope
by_pattern : (e f : Env) (id : ℕ) (at : Pos) (v : MaybeNode) (n : tree.Node) (b : Bool) (t : TypingState) (o : Result (BoundPattern × TypingState) Broken) →
    and_then o (bound_rest e id at v) ≡ Ok ((n, b, f), t) →
    (xs : List NamedEntry) × (f ≡ with_variables xs e)
by_pattern e f id at v n b t (Ok m) h =
    let inner : ◌≡◌ {A = (tree.Node × Bool × Env) × TypingState} ((a_node_of id at unit (tree.Let m.0.0 v), ends_by m.1.items v, with_variables m.0.1 e), m.1) ((n, b, f), t) = cc in
    (m.0.1, sym (ap (λ (q : (tree.Node × Bool × Env) × TypingState). q.0.2) inner))
by_pattern e f id at v n b t (Err r) h = absurd (cc)

by_type : (e f : Env) (id : ℕ) (at : Pos) (one : Bool) (v : MaybeNode) (p : Syn) (n : tree.Node) (b : Bool) (s t : TypingState) (o : Option TyId) →
    (known Rule.T16 at o >>= (λ ty. the_items >>= (λ items. let_of_type id at (of_value e one v items) ty v (matcher e p) (λ xs. with_variables xs e)))) s ≡ Ok ((n, b, f), t) →
    (xs : List NamedEntry) × (f ≡ with_variables xs e)
by_type e f id at one v p n b s t None h = absurd (cc)
by_type e f id at one v p n b s t (Some ty) h = by_pattern e f id at v n b t (pattern e (of_value e one v s.items) ty p [] s) h

pub brings : (e f : Env) (id : ℕ) (at : Pos) (one : Bool) (d : Option TyId) (v : MaybeNode) (p : Syn) (n : tree.Node) (b : Bool) (s t : TypingState) →
    ending e id at one d v p s ≡ Ok ((n, b, f), t) → (xs : List NamedEntry) × (f ≡ with_variables xs e)
brings e f id at one d v p n b s t h = by_type e f id at one v p n b s t (let_ty d v) h

-- a `let` that was checked
pub let_done : (e f g : Env) (at : Pos) (p : Syn) (ty init : MaybeSyn) (one : Bool) (id : ℕ) (d : Option TyId) (v w : MaybeNode) (n : tree.Node × Bool × Env)
    (s s1 s2 s3 t : TypingState) → one ≡ is_one_name s.items p → number s ≡ Ok (id, s1) → declared e ty s1 ≡ Ok (d, s2) →
    initialised e one (takes_any p) init d s2 ≡ Ok (v, s3) → f ≡ e → ending f id at one d v p s3 ≡ Ok (n, t) →
    other_statement e at (LetOf p ty init) s ≡ Ok (a_statement n, t)
let_done e f g at p ty init one id d v w n s s1 s2 s3 t is h1 h2 h3 same here =
    stated e f g at p ty init one id d v s s1 s2 s3 is h1 h2 h3 same ∙ ap (λ o. and_then o (λ n. λ t. Ok (a_statement n, t))) here

pub let_refused : (e f g : Env) (at : Pos) (p : Syn) (ty init : MaybeSyn) (one : Bool) (id : ℕ) (d : Option TyId) (v : MaybeNode)
    (s s1 s2 s3 : TypingState) (err : RuleError) → one ≡ is_one_name s.items p → number s ≡ Ok (id, s1) → declared e ty s1 ≡ Ok (d, s2) →
    initialised e one (takes_any p) init d s2 ≡ Ok (v, s3) → f ≡ e → Refuses (ending f id at one d v p s3) err →
    Refuses (other_statement e at (LetOf p ty init) s) err
let_refused e f g at p ty init one id d v s s1 s2 s3 err is h1 h2 h3 same here =
    subst (λ (o : Result ((Option tree.Node × Bool × Env) × TypingState) Broken). Refuses o err) (sym (stated e f g at p ty init one id d v s s1 s2 s3 is h1 h2 h3 same))
    (stopped (ending f id at one d v p s3) (λ n. λ t. Ok (a_statement n, t)) err here)
