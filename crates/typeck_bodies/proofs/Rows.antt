-- The row of a closure, by its beginning and its rest.
use Rattle.std.proofs.Common.{◌≡◌, ℕ, suc, List, [], length, Option, Result, Ok, Err, refl, ap, sym, subst, ◌∙◌}
use Rattle.typeck_heads.proofs.Sequences.{stopped}
use Rattle.typeck_heads.specs.Answers.{Refuses}
use Rattle.mir_base.specs.declared.place_in_text.Pos.{Pos}
use Rattle.mir_base.specs.declared.rule.RuleError.{RuleError}
use Rattle.mir_ty.specs.ItemTable.{ItemTable, with_closure}
use Rattle.mir_ty.specs.declared.ty.Ty.{Ty}
use Rattle.mir_ty.specs.declared.ty.TyId.{TyId}
use Rattle.src_ast.specs.Syntax.{MaybeSyn, Syns}
use Rattle.typed_tree.specs.Tree as tree
use Rattle.typed_tree.specs.Tree.{BodyTree, Node, Nodes}
use Rattle.typing_rules.specs.Bodies.{captured, closure, closure_body, too_many_rule, types_of}
use Rattle.typing_rules.specs.Check.{Broken, Check, TypingState, ◌>>=◌, and_then, closure_added, interned, pure, the_items}
use Rattle.typing_rules.specs.Places.{a_node_of}
use Rattle.typing_rules.specs.Rows.{Typer, fitted}
use Rattle.typing_rules.specs.Scope.{NamedEntry, Env}
use Rattle.typeck_bodies.specs.Closures.{Start, closure_rest, closure_ty, started}
use Rattle.typeck_bodies.specs.Heads.{unvalued}

-- the state behind the numbers of a closure's node and body
abbrev numbered_state : TypingState → TypingState
numbered_state s = record s { next_node = suc s.next_node; next_body = suc s.next_body }

-- and with the closure among the items
abbrev closures_with : ℕ → List NamedEntry → TypingState → TypingState
closures_with n captures s = record s { items = with_closure s.items (record { captures = types_of captures; body = n }) }

module _ (e : Env) (at : Pos) (ps : Syns) (a : MaybeSyn) (block : Env → Typer) (expected : Option TyId) (id n : ℕ) where
  abbrev start_with : Nodes × List NamedEntry → ℕ → TyId → Start
  start_with caps k ty = record { id = id; body = n; captures = caps.0; entries = caps.1; closure = k; ty = ty }

  abbrev behind_ty : Nodes × List NamedEntry → ℕ → TyId → Check Node
  behind_ty caps k ty = the_items >>= (λ items. closure_body e (too_many_rule items expected ty) at n ty caps.1 ps a block >>= (λ b. fitted expected (a_node_of id at ty (tree.Closure k caps.0))))

  abbrev behind_captures : Nodes × List NamedEntry → Check Node
  behind_captures caps = closure_added (types_of caps.1) n >>= (λ k. interned (Ty.Closure k) >>= behind_ty caps k)

  abbrev start_behind : Nodes × List NamedEntry → Check Start
  start_behind caps = closure_ty caps.1 n >>= (λ c. pure (start_with caps c.0 c.1))

  by_ty : (caps : Nodes × List NamedEntry) (k : ℕ) (o : Result (TyId × TypingState) Broken) →
      and_then o (behind_ty caps k)
      ≡ and_then (and_then (and_then {B = ℕ × TyId} o (λ ty. pure (k, ty))) (λ c. pure (start_with caps c.0 c.1))) (λ b. closure_rest e at b ps a block expected)
  by_ty caps k (Ok p) = refl
  by_ty caps k (Err err) = refl

  by_captures : (o : Result ((Nodes × List NamedEntry) × TypingState) Broken) →
      and_then o behind_captures ≡ and_then (and_then o start_behind) (λ b. closure_rest e at b ps a block expected)
  by_captures (Ok p) = by_ty p.0 (length p.1.items.closures) (interned (Ty.Closure (length p.1.items.closures)) (closures_with n p.0.1 p.1))
  by_captures (Err err) = refl

pub row_begins : (e : Env) (at : Pos) (cs ps : Syns) (a : MaybeSyn) (block : Env → Typer) (expected : Option TyId) (s : TypingState) →
    closure e at cs ps a block expected s ≡ and_then (started e cs s) (λ b. closure_rest e at b ps a block expected)
row_begins e at cs ps a block expected s =
    by_captures e at ps a block expected s.next_node s.next_body (captured e 0 cs [] (numbered_state s))

-- the tree of the body stands among the bodies, and is not looked at
pub body_unlooked : (body : Check BodyTree) (rest : Check Node) (s : TypingState) → (body >>= (λ b. rest)) s ≡ and_then (unvalued body s) (λ u. rest)
body_unlooked body rest s = by (body s)
  where
    by : (o : Result (BodyTree × TypingState) Broken) → and_then o (λ b. rest) ≡ and_then (and_then o (λ b. pure {A = Unit {0}} tt)) (λ u. rest)
    by (Ok p) = refl
    by (Err err) = refl

-- ---- the row, once its parts are checked

abbrev rest_of : Env → Pos → Syns → MaybeSyn → (Env → Typer) → Option TyId → Start → Check Node
rest_of e at ps a block expected b = closure_rest e at b ps a block expected

abbrev body_in : Env → Option TyId → ItemTable → Pos → Start → Syns → MaybeSyn → (Env → Typer) → Check BodyTree
body_in e expected items at b ps a block = closure_body e (too_many_rule items expected b.ty) at b.body b.ty b.entries ps a block

abbrev made : Pos → Option TyId → Start → Check Node
made at expected b = fitted expected (a_node_of b.id at b.ty (tree.Closure b.closure b.captures))

begun_row : (e e1 : Env) (at : Pos) (cs ps : Syns) (a : MaybeSyn) (block : Env → Typer) (expected : Option TyId) (b : Start) (s s1 : TypingState) →
    started e cs s ≡ Ok (b, s1) → e1 ≡ e → closure e at cs ps a block expected s ≡ and_then (unvalued (body_in e1 expected s1.items at b ps a block) s1) (λ u. made at expected b)
begun_row e e1 at cs ps a block expected b s s1 h same =
    row_begins e at cs ps a block expected s ∙ ap (λ o. and_then o (rest_of e at ps a block expected)) h
    ∙ body_unlooked (body_in e expected s1.items at b ps a block) (made at expected b) s1
    ∙ ap (λ (z : Env). and_then (unvalued (body_in z expected s1.items at b ps a block) s1) (λ u. made at expected b)) (sym same)

pub closure_done : (e e1 : Env) (at : Pos) (cs ps : Syns) (a : MaybeSyn) (block : Env → Typer) (expected : Option TyId) (b : Start) (s s1 s2 : TypingState) →
    started e cs s ≡ Ok (b, s1) → e1 ≡ e → unvalued (body_in e1 expected s1.items at b ps a block) s1 ≡ Ok (tt, s2) → closure e at cs ps a block expected s ≡ made at expected b s2
closure_done e e1 at cs ps a block expected b s s1 s2 h same here =
    begun_row e e1 at cs ps a block expected b s s1 h same ∙ ap (λ o. and_then o (λ u. made at expected b)) here

pub closure_refused : (e e1 : Env) (at : Pos) (cs ps : Syns) (a : MaybeSyn) (block : Env → Typer) (expected : Option TyId) (b : Start) (s s1 : TypingState) (err : RuleError) →
    started e cs s ≡ Ok (b, s1) → e1 ≡ e → Refuses (unvalued (body_in e1 expected s1.items at b ps a block) s1) err → Refuses (closure e at cs ps a block expected s) err
closure_refused e e1 at cs ps a block expected b s s1 err h same here =
    subst (λ (o : Result (Node × TypingState) Broken). Refuses o err) (sym (begun_row e e1 at cs ps a block expected b s s1 h same))
    (stopped (unvalued (body_in e1 expected s1.items at b ps a block) s1) (λ u. made at expected b) err here)

pub start_refused : (e : Env) (at : Pos) (cs ps : Syns) (a : MaybeSyn) (block : Env → Typer) (expected : Option TyId) (s : TypingState) (err : RuleError) →
    Refuses (started e cs s) err → Refuses (closure e at cs ps a block expected s) err
start_refused e at cs ps a block expected s err here =
    subst (λ (o : Result (Node × TypingState) Broken). Refuses o err) (sym (row_begins e at cs ps a block expected s))
    (stopped (started e cs s) (rest_of e at ps a block expected) err here)
