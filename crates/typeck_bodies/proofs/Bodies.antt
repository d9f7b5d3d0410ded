-- Bodies up to their blocks.
use Rattle.std.proofs.Common.{◌≡◌, ℕ, zero, suc, true, false, List, [], ◌∷◌, length, map, Some, Result, Ok, Err, refl, ap, sym, subst, ◌∙◌}
use Rattle.std.specs.Prelude.{OnOk}
use Rattle.mir_base.specs.declared.place_in_text.Pos.{Pos}
use Rattle.mir_base.specs.declared.rule.Rule.{Rule}
use Rattle.mir_base.specs.declared.rule.RuleError.{RuleError}
use Rattle.mir_ty.specs.declared.ty.TyId.{TyId}
use Rattle.src_ast.specs.Syntax.{MaybeSyn, nothing, just, Syns}
use Rattle.typed_tree.specs.Tree.{BodyTree, Node, Nodes, no_node, a_node, ParamTree}
use Rattle.typed_tree.specs.View.{body_of as tree_of_body}
use Rattle.typing_rules.specs.Bodies.{all_rules, answer_of, body_of, closure_body, fn_body, inside, inside_closure, name_param, params_of, within_limit}
use Rattle.typing_rules.specs.Check.{Broken, Check, TypingState, ◌>>=◌, and_then, body_number, in_new_body, pure, put_before, with_body, within_body}
use Rattle.typing_rules.specs.Rows.{Typer}
use Rattle.typing_rules.specs.Scope.{NamedEntry, Env, with_variables}
use Rattle.typing_rules.specs.Written as types_
use Rattle.typing_rules.specs.Written.{written}
use Rattle.typeck_bodies.specs.Around.{in_body, with_outer}
use Rattle.typeck_bodies.specs.Whole.{params_from}
use Rattle.typeck_bodies.specs.declared.nested_bodies.Outer.{Outer}
use Rattle.typeck_checker.specs.Lists.{below_all, nodes_on}
use Rattle.typeck_heads.proofs.Sequences.{stopped}
use Rattle.typeck_heads.specs.Answers.{Refuses}
use Rattle.typeck_bodies.specs.ParamAnswers.{last_param, last_params}
use Rattle.typeck_bodies.specs.ParamForms.{type_by}
use Rattle.typeck_checker.specs.Stand.{ChangesNothing, Stays, below, env_in, stack, top}
use Rattle.typeck_checker.specs.declared.checker.Checker.{Checker}
use Rattle.typeck_checker.specs.declared.tables.Tables.{Tables}
use Rattle.typeck_bodies.specs.Aside.{alone, in_block}
use Rattle.typeck_bodies.specs.Heads.{KeepsHead, Returns, answered, block_rest, closed, closure_inside, ended, fn_inside, numbered_fn, unvalued}
use Rattle.typeck_bodies.specs.declared.scopes.BodyHead.{BodyHead}

-- ---- a body within the walk around it

at_outer : (outer : Outer) (s : TypingState) (o : Result (BodyTree × TypingState) Broken) →
    and_then (put_before (map tree_of_body outer.bodies) (λ b. b) (within_body (record (with_outer outer s) { bodies = [] }) o)) (λ b. pure tt)
    ≡ closed outer o
at_outer outer s (Ok b) = refl
at_outer outer s (Err e) = refl

pub closed_by : (outer : Outer) (s s1 : TypingState) (check : Check BodyTree) → with_outer outer s1 ≡ s → s1 ≡ in_body s →
    unvalued (with_body (λ b. b) (in_new_body check)) s ≡ closed outer (check s1)
closed_by outer s s1 check h is =
    ap (unvalued (with_body (λ b. b) (in_new_body check))) (sym h)
    ∙ at_outer outer s1 (check (in_body s1))
    ∙ ap (λ (z : TypingState). closed outer (check z)) (ap in_body h ∙ sym is)

pub refused_closed : (outer : Outer) (o : Result (BodyTree × TypingState) Broken) (e : RuleError) → Refuses o e → Refuses (closed outer o) e
refused_closed outer o (RuleError.Broken rule at) h = ap (closed outer) h
refused_closed outer o RuleError.Memory h = tt

-- ---- the type of the result

abbrev behind_answer : Rule → Pos → ℕ → List ParamTree → Env → List NamedEntry → (Env → Typer) → TyId → Check BodyTree
behind_answer too_many at n params env entries block t = block (inside env t entries) (Some t) >>= (λ b. within_limit too_many at (body_of n params t b))

pub scope_given : (too_many : Rule) (at : Pos) (n : ℕ) (params : List ParamTree) (e e1 e2 e3 : Env) (a : MaybeSyn) (entries : List NamedEntry) (block : Env → Typer) (t : TyId) (s s1 s3 : TypingState) →
    answer_of e a s ≡ Ok (t, s1) → e1 ≡ e → e2 ≡ in_block t e1 → e3 ≡ with_variables entries e2 → s3 ≡ s1 →
    answered too_many at n params e a entries block s ≡ block_rest too_many at n params t block e3 s3
scope_given too_many at n params e e1 e2 e3 a entries block t s s1 s3 h same in_ entered stays =
    ap (λ o. and_then o (behind_answer too_many at n params e entries block)) h
    ∙ ap (λ (z : Env). block_rest too_many at n params t block z s1) (sym (entered ∙ ap (with_variables entries) (in_ ∙ ap (in_block t) same)))
    ∙ ap (block_rest too_many at n params t block e3) (sym stays)

pub scope_refused : (too_many : Rule) (at : Pos) (n : ℕ) (params : List ParamTree) (e : Env) (a : MaybeSyn) (entries : List NamedEntry) (block : Env → Typer) (s : TypingState) (err : RuleError) →
    Refuses (answer_of e a s) err → Refuses (answered too_many at n params e a entries block s) err
scope_refused too_many at n params e a entries block s err h = stopped (answer_of e a s) (behind_answer too_many at n params e entries block) err h

-- ---- functions

abbrev behind_params : Pos → ℕ → Env → MaybeSyn → (Env → Typer) → List ParamTree × List NamedEntry → Check BodyTree
behind_params at n env answer block ps = answered Rule.T19 at n ps.0 env answer ps.1 block

pub params_given : (at : Pos) (n : ℕ) (e e1 : Env) (ps : Syns) (a : MaybeSyn) (block : Env → Typer) (params : List ParamTree) (entries : List NamedEntry) (s s1 : TypingState) →
    params_of e (type_by e true) ps [] s ≡ Ok ((params, entries), s1) → e1 ≡ e →
    fn_inside at n e ps a block s ≡ answered Rule.T19 at n params e1 a entries block s1
params_given at n e e1 ps a block params entries s s1 h same =
    ap (λ o. and_then o (behind_params at n e a block)) h ∙ ap (λ (z : Env). answered Rule.T19 at n params z a entries block s1) (sym same)

pub params_refused : (at : Pos) (n : ℕ) (e : Env) (ps : Syns) (a : MaybeSyn) (block : Env → Typer) (s : TypingState) (err : RuleError) →
    Refuses (params_of e (type_by e true) ps [] s) err → Refuses (fn_inside at n e ps a block s) err
params_refused at n e ps a block s err h = stopped (params_of e (type_by e true) ps [] s) (behind_params at n e a block) err h

abbrev numbered_then : Pos → Env → Syns → MaybeSyn → (Env → Typer) → ℕ → Check BodyTree
numbered_then at e ps a block n = numbered_fn at n e ps a block

pub fn_numbered : (at : Pos) (n : ℕ) (e e1 : Env) (ps : Syns) (a : MaybeSyn) (block : Env → Typer) (s s1 : TypingState) → body_number s ≡ Ok (n, s1) → e1 ≡ e →
    unvalued (fn_body (alone e) at ps a block) s ≡ unvalued (numbered_fn at n (alone e1) ps a block) s1
fn_numbered at n e e1 ps a block s s1 h same =
    ap (λ (o : Result (ℕ × TypingState) Broken). and_then (and_then o (numbered_then at (alone e) ps a block)) (λ b. pure tt)) h
    ∙ ap (λ (z : Env). unvalued (numbered_fn at n (alone z) ps a block) s1) (sym same)

-- ---- closures

answer_alike : (e f : Env) (a : MaybeSyn) → all_rules e ≡ all_rules f → answer_of e a ≡ answer_of f a
answer_alike e f nothing same = refl
answer_alike e f (just ty) same = ap (λ (r : types_.WrittenScope). written r ty) same

-- the captures in scope, the type of the result is read as outside
pub within_captures : (too_many : Rule) (at : Pos) (n : ℕ) (ty : TyId) (e : Env) (captures : List NamedEntry) (ps : Syns) (a : MaybeSyn) (block : Env → Typer) →
    closure_body e too_many at n ty captures ps a block
    ≡ with_body (λ b. b) (in_new_body (closure_inside too_many at n ty (inside_closure e captures) ps a block))
within_captures too_many at n ty e captures ps a block =
    ap (λ (answer : Check TyId). with_body (λ b. b) (in_new_body (name_param at [] ty >>= (λ self.
    params_of (inside_closure e captures) (type_by (inside_closure e captures) false) ps [] >>= (λ qs. answer >>= (λ t.
    block (inside (inside_closure e captures) t qs.1) (Some t) >>= (λ b. within_limit too_many at (body_of n (self.0 ∷ qs.0) t b))))))))
    (answer_alike e (inside_closure e captures) a refl)

one_node : (k : ℕ) (ns : List Node) (others : Nodes) → nodes_on (suc k) ns others ≡ a_node (top (below_all k ns)) (nodes_on k ns others)
one_node zero ns others = refl
one_node (suc k) ns others = one_node k (below ns) (a_node (top ns) others)

one_below : (k : ℕ) (ns : List Node) → below_all (suc k) ns ≡ below (below_all k ns)
one_below zero ns = refl
one_below (suc k) ns = one_below k (below ns)

-- a parameter before others
pub first_param : (ty : TyId) (tys all : List TyId) (ns ms : List Node) → below_all (length tys) ms ≡ ns → all ≡ ty ∷ tys →
    last_params all ms ≡ last_param ty ns ∷ last_params tys ms
first_param ty tys all ns ms under is =
    ap (λ (l : List TyId). last_params l ms) is
    ∙ ap (λ (z : Nodes). params_from z (ty ∷ tys)) (one_node (length tys) ms no_node)
    ∙ ap (λ (z : List Node). last_param ty z ∷ last_params tys ms) under

pub below_first : (ty : TyId) (tys all : List TyId) (ns ms others : List Node) → below_all (length tys) ms ≡ ns → below ns ≡ others → all ≡ ty ∷ tys →
    below_all (length all) ms ≡ others
below_first ty tys all ns ms others under first is =
    ap (λ (l : List TyId). below_all (length l) ms) is ∙ one_below (length tys) ms ∙ ap below under ∙ first

abbrev behind_self : Rule → Pos → ℕ → TyId → Env → Syns → MaybeSyn → (Env → Typer) → ParamTree × NamedEntry → Check BodyTree
behind_self too_many at n ty env params answer block self =
    params_of env (type_by env false) params [] >>= (λ ps. answered too_many at n (self.0 ∷ ps.0) env answer ps.1 block)

abbrev behind_self_params : Rule → Pos → ℕ → Env → MaybeSyn → (Env → Typer) → ParamTree → List ParamTree × List NamedEntry → Check BodyTree
behind_self_params too_many at n env answer block self ps = answered too_many at n (self ∷ ps.0) env answer ps.1 block

pub self_given : (too_many : Rule) (at : Pos) (n : ℕ) (ty : TyId) (e e1 e2 : Env) (ps : Syns) (a : MaybeSyn) (block : Env → Typer) (self : ParamTree) (own : NamedEntry) (params : List ParamTree)
    (entries : List NamedEntry) (s s1 s2 : TypingState) → name_param at [] ty s ≡ Ok ((self, own), s1) → e1 ≡ e →
    params_of e1 (type_by e1 false) ps [] s1 ≡ Ok ((params, entries), s2) → e2 ≡ e1 →
    closure_inside too_many at n ty e ps a block s ≡ answered too_many at n (self ∷ params) e2 a entries block s2
self_given too_many at n ty e e1 e2 ps a block self own params entries s s1 s2 named first here second =
    ap (λ o. and_then o (behind_self too_many at n ty e ps a block)) named
    ∙ ap (λ (z : Env). and_then (params_of z (type_by z false) ps [] s1) (behind_self_params too_many at n z a block self)) (sym first)
    ∙ ap (λ o. and_then o (behind_self_params too_many at n e1 a block self)) here
    ∙ ap (λ (z : Env). answered too_many at n (self ∷ params) z a entries block s2) (sym second)

pub self_refused : (too_many : Rule) (at : Pos) (n : ℕ) (ty : TyId) (e : Env) (ps : Syns) (a : MaybeSyn) (block : Env → Typer) (s : TypingState) (err : RuleError) →
    Refuses (name_param at [] ty s) err → Refuses (closure_inside too_many at n ty e ps a block s) err
self_refused too_many at n ty e ps a block s err h = stopped (name_param at [] ty s) (behind_self too_many at n ty e ps a block) err h

pub self_params_refused : (too_many : Rule) (at : Pos) (n : ℕ) (ty : TyId) (e e1 : Env) (ps : Syns) (a : MaybeSyn) (block : Env → Typer) (self : ParamTree) (own : NamedEntry) (s s1 : TypingState) (err : RuleError) →
    name_param at [] ty s ≡ Ok ((self, own), s1) → e1 ≡ e → Refuses (params_of e1 (type_by e1 false) ps [] s1) err →
    Refuses (closure_inside too_many at n ty e ps a block s) err
self_params_refused too_many at n ty e e1 ps a block self own s s1 err named first h =
    subst (λ (o : Result (BodyTree × TypingState) Broken). Refuses o err)
    (sym (ap (λ o. and_then o (behind_self too_many at n ty e ps a block)) named
    ∙ ap (λ (z : Env). and_then (params_of z (type_by z false) ps [] s1) (behind_self_params too_many at n z a block self)) (sym first)))
    (stopped (params_of e1 (type_by e1 false) ps [] s1) (behind_self_params too_many at n e1 a block self) err h)

-- ---- behind the block

abbrev behind_block : BodyHead → List Node → Node → Check BodyTree
behind_block head ns b = within_limit head.too_many head.at (body_of head.number (last_params head.params ns) head.answer b)

pub block_given : (head : BodyHead) (whole : Result (Unit {0} × TypingState) Broken) (block : Env → Typer) (e1 : Env) (ns1 ns2 : List Node) (s1 s2 : TypingState) →
    whole ≡ closed head.outer (block_rest head.too_many head.at head.number (last_params head.params ns1) head.answer block e1 s1) →
    block e1 (Some head.answer) s1 ≡ Ok (top ns2, s2) → below ns2 ≡ ns1 → whole ≡ ended head ns2 s2
block_given head whole block e1 ns1 ns2 s1 s2 h here under =
    h ∙ ap (λ o. closed head.outer (and_then o (behind_block head ns1))) here
    ∙ ap (λ (ns : List Node). closed head.outer (behind_block head ns (top ns2) s2)) (sym under)

pub block_refused : (head : BodyHead) (whole : Result (Unit {0} × TypingState) Broken) (block : Env → Typer) (e1 : Env) (ns1 : List Node) (s1 : TypingState) (err : RuleError) →
    whole ≡ closed head.outer (block_rest head.too_many head.at head.number (last_params head.params ns1) head.answer block e1 s1) →
    Refuses (block e1 (Some head.answer) s1) err → Refuses whole err
block_refused head whole block e1 ns1 s1 err h here =
    subst (λ (o : Result (Unit {0} × TypingState) Broken). Refuses o err) (sym h)
    (refused_closed head.outer (block_rest head.too_many head.at head.number (last_params head.params ns1) head.answer block e1 s1) err
    (stopped (block e1 (Some head.answer) s1) (behind_block head ns1) err here))

-- the walk stands where it stood before the body
pub returned : (head : BodyHead) (c0 c1 c2 c3 : Checker) → KeepsHead c0 (Ok head) c1 → below (stack c2) ≡ stack c1 → Stays c1 c2 → Returns head c2 c3 → ChangesNothing c0 c3
returned head c0 c1 c2 c3 kept under stays back = (
  back.0 ∙ ap (below_all (length head.params)) under ∙ kept.0,
  (back.1 ∙ ap (λ (t : Tables). env_in t head.aside) (stays.1 ∙ kept.2) ∙ kept.1, back.2 ∙ stays.1 ∙ kept.2),
)

pub returned_if : (head : BodyHead) (c0 c1 c2 c3 : Checker) (r : Result (Unit {0}) RuleError) → KeepsHead c0 (Ok head) c1 → below (stack c2) ≡ stack c1 → Stays c1 c2 →
    OnOk r (Returns head c2 c3) → OnOk r (ChangesNothing c0 c3)
returned_if head c0 c1 c2 c3 (Ok u) kept under stays back = returned head c0 c1 c2 c3 kept under stays back
returned_if head c0 c1 c2 c3 (Err e) kept under stays back = tt
