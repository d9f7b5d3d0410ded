-- Arms by the forms that are borrowed from them, and one after another.
use Rattle.std.proofs.Common.{◌≡◌, ℕ, suc, ◌+◌, true, false, List, ◌∷◌, Option, None, Result, Ok, Err, refl, ap, sym, subst, ◌∙◌, add-one}
use Rattle.mir_base.specs.declared.place_in_text.Pos.{Pos}
use Rattle.mir_base.specs.declared.rule.Rule.{Rule}
use Rattle.mir_ty.specs.declared.ty.TyId.{TyId}
use Rattle.src_tree.specs.declared.node.SyntaxNode.{SyntaxNode}
use Rattle.src_ast.specs.Seen.{is_none, syn_of, word_of}
use Rattle.src_ast.specs.Sorts.{arm_part}
use Rattle.src_ast.specs.Syntax.{Syn, syn, at_of, shape_of, AnArm, IfLetElse, MatchOn, WhileLetOf, Syns, no_syn, a_syn, MaybeSyn, nothing, just}
use Rattle.src_ast.proofs.Named.{seen_as}
use Rattle.typed_tree.specs.Tree as tree
use Rattle.typed_tree.specs.Tree.{Nodes, a_node}
use Rattle.typing_rules.specs.Check.{Check, ◌<$>◌, TypingState, Broken, ◌>>=◌, and_then, breaks, number, pure}
use Rattle.typing_rules.specs.Rows.{PatternContext, loop_around, match_row, no_reference, scrutinised, used_if_place}
use Rattle.typing_rules.specs.Scope.{Env, within_loop}
use Rattle.typing_rules.specs.Typed.{base_of, typed_arms, value}
use Rattle.well_typed.specs.Places.{ty_of}
use Rattle.typeck_exprs.specs.Lists.{behind_typed}
use Rattle.typeck_checker.specs.Lists.{nodes_on, types_on}
use Rattle.typeck_checker.specs.Stand.{below, top}
use Rattle.typeck_walk.specs.Matches.{arm_check, arm_of_syn, arms_rest, if_let_rest, while_let_rest}
use Rattle.typeck_walk.proofs.Jumps.{words_are}
use Rattle.typeck_heads.proofs.Sequences.{stopped}
use Rattle.typeck_heads.specs.Answers.{Refuses}
use Rattle.mir_base.specs.declared.rule.RuleError.{RuleError}
use Rattle.std.specs.Borrow.{Bor}
use Rattle.typeck_env.specs.Scope.{word_in}
use Rattle.typed_tree.specs.declared.node.Use.{Use}

pub arm_seen : (e : Env) (w : PatternContext) (ty : TyId) (expected : Option TyId) (n : SyntaxNode) →
    arm_of_syn e w ty expected (syn_of n) ≡ arm_check e w ty expected n.at (arm_part (shape_of (syn_of n)))
arm_seen e w ty expected n =
    of_syn (syn_of n) ∙ ap (λ (x : Syn). arm_check e w ty expected (at_of x) (arm_part (shape_of (syn_of n)))) (seen_as n)
  where
    of_syn : (x : Syn) → arm_of_syn e w ty expected x ≡ arm_check e w ty expected (at_of x) (arm_part (shape_of x))
    of_syn (syn at (AnArm a b c)) = refl
    of_syn (syn at _) = refl

with_arm : (e : Env) (w : PatternContext) (ty : TyId) (expected : Option TyId) (x : Syn) (xs : Syns) (s : TypingState) →
    typed_arms e w ty expected (a_syn x xs) s
    ≡ and_then (arm_of_syn e w ty expected x s) (λ n. λ t. and_then (typed_arms e w ty expected xs t) (λ ns. pure (a_node n ns.0, ty_of n ∷ ns.1)))
with_arm e w ty expected (syn at (AnArm a b c)) xs s = refl
with_arm e w ty expected (syn at _) xs s = refl

one_typed : (k : ℕ) (ns ms : List tree.Node) (o : Result ((Nodes × List TyId) × TypingState) Broken) → below ms ≡ ns →
    behind_typed k ns (and_then o (λ more. pure (a_node (top ms) more.0, ty_of (top ms) ∷ more.1))) ≡ behind_typed (suc k) ms o
one_typed k ns ms (Ok p) h =
    ap (λ (l : List tree.Node). Ok ((nodes_on k l (a_node (top ms) p.0.0), types_on k l (ty_of (top ms) ∷ p.0.1)), p.1)) (sym h)
one_typed k ns ms (Err e) h = refl

pub one_arm : (e : Env) (w : PatternContext) (ty : TyId) (expected : Option TyId) (whole : Result ((Nodes × List TyId) × TypingState) Broken) (k m : ℕ)
    (ns ms : List tree.Node) (ss : Syns) (x : Syn) (xs : Syns) (s t : TypingState) →
    whole ≡ behind_typed k ns (typed_arms e w ty expected ss s) → a_syn x xs ≡ ss →
    arm_of_syn e w ty expected x s ≡ Ok (top ms, t) → below ms ≡ ns → m ≡ k + 1 →
    whole ≡ behind_typed m ms (typed_arms e w ty expected xs t)
one_arm e w ty expected whole k m ns ms ss x xs s t h split here under next =
    h ∙ ap (λ z. behind_typed k ns (typed_arms e w ty expected z s)) (sym split)
    ∙ ap (behind_typed k ns) (with_arm e w ty expected x xs s)
    ∙ ap (λ o. behind_typed k ns (and_then o (λ n. λ u. and_then (typed_arms e w ty expected xs u) (λ more. pure (a_node n more.0, ty_of n ∷ more.1))))) here
    ∙ one_typed k ns ms (typed_arms e w ty expected xs t) under
    ∙ ap (λ (n : ℕ). behind_typed n ms (typed_arms e w ty expected xs t)) (sym (next ∙ add-one k))

pub no_arms : (e : Env) (at : Pos) (x : Syn) (ss : Syns) (expected : Option TyId) (s : TypingState) → is_none ss ≡ true →
    value e at (MatchOn x ss) expected s ≡ breaks Rule.T20 at s
no_arms e at x no_syn expected s h = refl
no_arms e at x (a_syn y ys) expected s h = absurd (cc)

pub some_arms : (e : Env) (at : Pos) (x : Syn) (ss : Syns) (expected : Option TyId) (s : TypingState) → is_none ss ≡ false →
    value e at (MatchOn x ss) expected s ≡ match_row e at (base_of e x) (λ w ty expected. typed_arms e w ty expected ss) expected s
some_arms e at x no_syn expected s h = absurd (cc)
some_arms e at x (a_syn y ys) expected s h = refl

refuses_behind : (k : ℕ) (ns : List tree.Node) (o : Result (tree.Node × TypingState) Broken) (f : tree.Node → Check (Nodes × List TyId)) (err : RuleError) → Refuses o err →
    Refuses (behind_typed k ns (and_then o f)) err
refuses_behind k ns o f (RuleError.Broken rule at) h = ap (λ r. behind_typed k ns (and_then r f)) h
refuses_behind k ns o f RuleError.Memory h = tt

-- an arm that is refused
pub refused_arm : (e : Env) (w : PatternContext) (ty : TyId) (expected : Option TyId) (whole : Result ((Nodes × List TyId) × TypingState) Broken) (k : ℕ)
    (ns : List tree.Node) (ss : Syns) (x : Syn) (xs : Syns) (s : TypingState) (err : RuleError) →
    whole ≡ behind_typed k ns (typed_arms e w ty expected ss s) → a_syn x xs ≡ ss → Refuses (arm_of_syn e w ty expected x s) err → Refuses whole err
refused_arm e w ty expected whole k ns ss x xs s err h split here =
    subst (λ (o : Result ((Nodes × List TyId) × TypingState) Broken). Refuses o err)
    (sym (h ∙ ap (λ z. behind_typed k ns (typed_arms e w ty expected z s)) (sym split) ∙ ap (behind_typed k ns) (with_arm e w ty expected x xs s)))
    (refuses_behind k ns (arm_of_syn e w ty expected x s) (λ n. λ t. and_then (typed_arms e w ty expected xs t) (λ ns. pure (a_node n ns.0, ty_of n ∷ ns.1))) err here)

-- before the first
pub none_yet : (ns : List tree.Node) (o : Result ((Nodes × List TyId) × TypingState) Broken) → o ≡ behind_typed 0 ns o
none_yet ns (Ok p) = refl
none_yet ns (Err e) = refl

-- ---- what was looked at

pub matched : (e f : Env) (at : Pos) (sc : Check tree.Node) (ss : Syns) (expected : Option TyId) (id : ℕ) (n : tree.Node) (s s1 s2 : TypingState) →
    number s ≡ Ok (id, s1) → scrutinised sc s1 ≡ Ok (n, s2) → f ≡ e →
    match_row e at sc (λ w ty expected. typed_arms e w ty expected ss) expected s ≡ arms_rest f id at n ss expected s2
matched e f at sc ss expected id n s s1 s2 h1 h2 same =
    ap (λ o. and_then o (λ i. scrutinised sc >>= (λ n. arms_rest e i at n ss expected))) h1
    ∙ ap (λ o. and_then o (λ n. arms_rest e id at n ss expected)) h2
    ∙ ap (λ (g : Env). arms_rest g id at n ss expected s2) (sym same)

abbrev if_let_from : Env → Pos → Syn → Syn → Syn → MaybeSyn → Option TyId → Check tree.Node
if_let_from e at p x b o expected = number >>= (λ i. scrutinised (base_of e x) >>= (λ n. if_let_rest e i at n p b o expected))

if_let_is : (e : Env) (at : Pos) (p x b : Syn) (o : MaybeSyn) (expected : Option TyId) (s : TypingState) →
    value e at (IfLetElse p x b o) expected s ≡ if_let_from e at p x b o expected s
if_let_is e at p x b nothing expected s = refl
if_let_is e at p x b (just y) expected s = refl

pub if_let_looked : (e f : Env) (at : Pos) (p x b : Syn) (o : MaybeSyn) (expected : Option TyId) (id : ℕ) (n : tree.Node) (s s1 s2 : TypingState) →
    number s ≡ Ok (id, s1) → scrutinised (base_of e x) s1 ≡ Ok (n, s2) → f ≡ e →
    value e at (IfLetElse p x b o) expected s ≡ if_let_rest f id at n p b o expected s2
if_let_looked e f at p x b o expected id n s s1 s2 h1 h2 same =
    if_let_is e at p x b o expected s
    ∙ ap (λ r. and_then r (λ i. scrutinised (base_of e x) >>= (λ n. if_let_rest e i at n p b o expected))) h1
    ∙ ap (λ r. and_then r (λ n. if_let_rest e id at n p b o expected)) h2
    ∙ ap (λ (g : Env). if_let_rest g id at n p b o expected s2) (sym same)

pub if_let_refused : (e : Env) (at : Pos) (p x b : Syn) (o : MaybeSyn) (expected : Option TyId) (id : ℕ) (s s1 : TypingState) (err : RuleError) →
    number s ≡ Ok (id, s1) → Refuses (scrutinised (base_of e x) s1) err → Refuses (value e at (IfLetElse p x b o) expected s) err
if_let_refused e at p x b o expected id s s1 err h1 here =
    subst (λ (r : Result (tree.Node × TypingState) Broken). Refuses r err)
    (sym (if_let_is e at p x b o expected s ∙ ap (λ r. and_then r (λ i. scrutinised (base_of e x) >>= (λ n. if_let_rest e i at n p b o expected))) h1))
    (stopped (scrutinised (base_of e x) s1) (λ n. if_let_rest e id at n p b o expected) err here)

pub while_let_looked : (e f : Env) (at : Pos) (label : Option (Bor (List ℕ))) (p x b : Syn) (expected : Option TyId) (id : ℕ) (n m : tree.Node) (s s1 s2 s3 : TypingState) →
    number s ≡ Ok (id, s1) → base_of (within_loop (loop_around (word_in label) id false None) e) x s1 ≡ Ok (n, s2) →
    (used_if_place Use.Borrow <$> no_reference n) s2 ≡ Ok (m, s3) → f ≡ e →
    value e at (WhileLetOf (word_of label) p x b) expected s ≡ while_let_rest f id at (word_in label) m p b expected s3
while_let_looked e f at label p x b expected id n m s s1 s2 s3 h1 h2 h3 same =
    ap (λ l. value e at (WhileLetOf l p x b) expected s) (words_are label)
    ∙ ap (λ r. and_then r (λ i. scrutinised (base_of (within_loop (loop_around (word_in label) i false None) e) x) >>= (λ m. while_let_rest e i at (word_in label) m p b expected))) h1
    ∙ ap (λ r. and_then (and_then (and_then r no_reference) (λ a. pure (used_if_place Use.Borrow a))) (λ m. while_let_rest e id at (word_in label) m p b expected)) h2
    ∙ ap (λ r. and_then r (λ m. while_let_rest e id at (word_in label) m p b expected)) h3
    ∙ ap (λ (g : Env). while_let_rest g id at (word_in label) m p b expected s3) (sym same)
