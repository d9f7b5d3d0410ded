-- One more of a list is checked: what a check gives of all is what it gives of the rest, behind the nodes of the first
-- ones.
use Rattle.std.proofs.Common.{◌≡◌, ℕ, zero, suc, ◌+◌, List, [], ◌∷◌, ◌++◌, append_assoc, length, length-append, map, drop, Option, Some, Result, Ok, Err, slice_get, refl, ap, sym, subst, ◌∙◌, arith, rules, add-one}
use Rattle.mir_ty.specs.declared.ty.TyId.{TyId}
use Rattle.src_ast.specs.Syntax.{Syn, Syns, a_syn}
use Rattle.typed_tree.specs.Tree.{Node, Nodes, a_node}
use Rattle.mir_base.specs.declared.rule.RuleError.{RuleError}
use Rattle.typeck_heads.specs.Answers.{Refuses}
use Rattle.typing_rules.specs.Check.{Check, TypingState, Broken, and_then, pure}
use Rattle.typing_rules.specs.Scope.{Env}
use Rattle.typing_rules.specs.Typed.{first_want, other_wants, part_ty, typed, typed_args, typed_elements, typed_parts}
use Rattle.well_typed.specs.Places.{ty_of}
use Rattle.typeck_checker.specs.Lists.{below_all, nodes_on, types_on}
use Rattle.typeck_checker.specs.Stand.{below, top}
use Rattle.typeck_env.proofs.Slots.{one_more_left}
use Rattle.typeck_exprs.specs.Lists.{argument_at, behind_nodes, behind_parts, behind_typed}

-- ---- nodes

one_behind : (k : ℕ) (ns ms : List Node) (o : Result (Nodes × TypingState) Broken) → below ms ≡ ns →
    behind_nodes k ns (and_then o (λ more. pure (a_node (top ms) more))) ≡ behind_nodes (suc k) ms o
one_behind k ns ms (Ok p) h = ap (λ (l : List Node). Ok (nodes_on k l (a_node (top ms) p.0), p.1)) (sym h)
one_behind k ns ms (Err e) h = refl

with_argument : (e : Env) (params : List TyId) (x : Syn) (xs : Syns) (s : TypingState) →
    typed_args e params (a_syn x xs) s
    ≡ and_then (argument_at e (slice_get params 0) x s) (λ n. λ t. and_then (typed_args e (drop 1 params) xs t) (λ more. pure (a_node n more)))
with_argument e [] x xs s = refl
with_argument e (p ∷ ps) x xs s = refl

drop_more : {A : Type 0} (k : ℕ) (xs : List A) → drop 1 (drop k xs) ≡ drop (k + 1) xs
drop_more k xs = one_more_left k xs ∙ ap (λ (n : ℕ). drop n xs) (sym (add-one k))

first_dropped : {A : Type 0} (k : ℕ) (xs : List A) → slice_get (drop k xs) 0 ≡ slice_get xs k
first_dropped zero [] = search rules
first_dropped (suc k) [] = search rules
first_dropped zero (x ∷ xs) = refl
first_dropped (suc k) (x ∷ xs) = first_dropped k xs

pub one_argument : (e : Env) (whole : Result (Nodes × TypingState) Broken) (k m : ℕ) (ns ms : List Node) (params : List TyId)
    (expected : Option TyId) (ss : Syns) (x : Syn) (xs : Syns) (s t : TypingState) →
    whole ≡ behind_nodes k ns (typed_args e (drop k params) ss s) → a_syn x xs ≡ ss → expected ≡ slice_get params k →
    argument_at e expected x s ≡ Ok (top ms, t) → below ms ≡ ns → m ≡ k + 1 →
    whole ≡ behind_nodes m ms (typed_args e (drop m params) xs t)
one_argument e whole k m ns ms params expected ss x xs s t h split wanted here under next =
    h ∙ ap (λ z. behind_nodes k ns (typed_args e (drop k params) z s)) (sym split)
    ∙ ap (behind_nodes k ns) (with_argument e (drop k params) x xs s)
    ∙ ap (λ w. behind_nodes k ns (and_then (argument_at e w x s) (λ n. λ u. and_then (typed_args e (drop 1 (drop k params)) xs u) (λ more. pure (a_node n more))))) (first_dropped k params ∙ sym wanted)
    ∙ ap (λ o. behind_nodes k ns (and_then o (λ n. λ u. and_then (typed_args e (drop 1 (drop k params)) xs u) (λ more. pure (a_node n more))))) here
    ∙ one_behind k ns ms (typed_args e (drop 1 (drop k params)) xs t) under
    ∙ ap (λ ps. behind_nodes (suc k) ms (typed_args e ps xs t)) (drop_more k params)
    ∙ ap (λ (n : ℕ). behind_nodes n ms (typed_args e (drop (k + 1) params) xs t)) (sym (add-one k))
    ∙ ap (λ (n : ℕ). behind_nodes n ms (typed_args e (drop n params) xs t)) (sym next)

refuses_behind : (k : ℕ) (ns : List Node) (o : Result (Node × TypingState) Broken) (f : Node → Check Nodes) (err : RuleError) → Refuses o err →
    Refuses (behind_nodes k ns (and_then o f)) err
refuses_behind k ns o f (RuleError.Broken rule at) h = ap (λ r. behind_nodes k ns (and_then r f)) h
refuses_behind k ns o f RuleError.Memory h = tt

-- an argument that is refused
pub refused_argument : (e : Env) (whole : Result (Nodes × TypingState) Broken) (k : ℕ) (ns : List Node) (params : List TyId)
    (expected : Option TyId) (ss : Syns) (x : Syn) (xs : Syns) (s : TypingState) (err : RuleError) →
    whole ≡ behind_nodes k ns (typed_args e (drop k params) ss s) → a_syn x xs ≡ ss → expected ≡ slice_get params k →
    Refuses (argument_at e expected x s) err → Refuses whole err
refused_argument e whole k ns params expected ss x xs s err h split wanted here =
    subst (λ (o : Result (Nodes × TypingState) Broken). Refuses o err)
    (sym (h ∙ ap (λ z. behind_nodes k ns (typed_args e (drop k params) z s)) (sym split)
    ∙ ap (behind_nodes k ns) (with_argument e (drop k params) x xs s)
    ∙ ap (λ w. behind_nodes k ns (and_then (argument_at e w x s) (λ n. λ u. and_then (typed_args e (drop 1 (drop k params)) xs u) (λ more. pure (a_node n more))))) (first_dropped k params ∙ sym wanted)))
    (refuses_behind k ns (argument_at e expected x s) (λ n. λ u. and_then (typed_args e (drop 1 (drop k params)) xs u) (λ more. pure (a_node n more))) err here)

-- what stands below one node more
pub below_next : (k m : ℕ) (ns ms others : List Node) → below_all k ns ≡ others → below ms ≡ ns → m ≡ k + 1 → below_all m ms ≡ others
below_next k m ns ms others h under next =
    ap (λ (n : ℕ). below_all n ms) (next ∙ add-one k) ∙ ap (below_all k) under ∙ h

-- ---- elements

one_typed : (k : ℕ) (ns ms : List Node) (o : Result ((Nodes × List TyId) × TypingState) Broken) → below ms ≡ ns →
    behind_typed k ns (and_then o (λ more. pure (a_node (top ms) more.0, ty_of (top ms) ∷ more.1))) ≡ behind_typed (suc k) ms o
one_typed k ns ms (Ok p) h =
    ap (λ (l : List Node). Ok ((nodes_on k l (a_node (top ms) p.0.0), types_on k l (ty_of (top ms) ∷ p.0.1)), p.1)) (sym h)
one_typed k ns ms (Err e) h = refl

pub one_element : (e : Env) (whole : Result ((Nodes × List TyId) × TypingState) Broken) (k m : ℕ) (ns ms : List Node)
    (expected : Option TyId) (ss : Syns) (x : Syn) (xs : Syns) (s t : TypingState) →
    whole ≡ behind_typed k ns (typed_elements e expected ss s) → a_syn x xs ≡ ss →
    typed e x expected s ≡ Ok (top ms, t) → below ms ≡ ns → m ≡ k + 1 →
    whole ≡ behind_typed m ms (typed_elements e expected xs t)
one_element e whole k m ns ms expected ss x xs s t h split here under next =
    h ∙ ap (λ z. behind_typed k ns (typed_elements e expected z s)) (sym split)
    ∙ ap (λ o. behind_typed k ns (and_then o (λ n. λ u. and_then (typed_elements e expected xs u) (λ more. pure (a_node n more.0, ty_of n ∷ more.1))))) here
    ∙ one_typed k ns ms (typed_elements e expected xs t) under
    ∙ ap (λ (n : ℕ). behind_typed n ms (typed_elements e expected xs t)) (sym (next ∙ add-one k))

-- ---- parts

one_part_behind : (tys more : List TyId) (ty : TyId) (ns ms : List Node) (o : Result ((Nodes × List TyId) × TypingState) Broken) →
    below ms ≡ ns → more ≡ tys ++ ty ∷ [] →
    behind_parts tys ns (and_then o (λ rest. pure (a_node (top ms) rest.0, ty ∷ rest.1))) ≡ behind_parts more ms o
one_part_behind tys more ty ns ms (Ok p) h pushed =
    ap (λ (l : List Node). Ok ((nodes_on (length tys) l (a_node (top ms) p.0.0), tys ++ ty ∷ p.0.1), p.1)) (sym h)
    ∙ ap (λ (k : ℕ). Ok ((nodes_on k ms p.0.0, tys ++ ty ∷ p.0.1), p.1)) (let k : suc (length tys) ≡ length (tys ++ ty ∷ []) = omega (arith, length-append tys (ty ∷ [])) in k)
    ∙ ap (λ (l : List TyId). Ok ((nodes_on (length (tys ++ ty ∷ [])) ms p.0.0, l), p.1)) (sym (append_assoc tys (ty ∷ []) p.0.1))
    ∙ ap (λ (l : List TyId). behind_parts l ms (Ok p)) (sym pushed)
one_part_behind tys more ty ns ms (Err e) h pushed = refl

wants_at : (k : ℕ) (wants : List TyId) → first_want (drop k (map Some wants)) ≡ slice_get wants k
wants_at zero [] = search rules
wants_at (suc k) [] = search rules
wants_at zero (x ∷ xs) = refl
wants_at (suc k) (x ∷ xs) = wants_at k xs

wants_behind : (wants : List (Option TyId)) → other_wants wants ≡ drop 1 wants
wants_behind [] = cc
wants_behind (w ∷ ws) = cc

pub one_part : (e : Env) (whole : Result ((Nodes × List TyId) × TypingState) Broken) (tys more : List TyId) (ty : TyId) (ns ms : List Node)
    (wants : List TyId) (expected : Option TyId) (ss : Syns) (x : Syn) (xs : Syns) (s t : TypingState) →
    whole ≡ behind_parts tys ns (typed_parts e (drop (length tys) (map Some wants)) ss s) → a_syn x xs ≡ ss →
    expected ≡ slice_get wants (length tys) → typed e x expected s ≡ Ok (top ms, t) → below ms ≡ ns →
    ty ≡ part_ty expected (top ms) → more ≡ tys ++ ty ∷ [] →
    whole ≡ behind_parts more ms (typed_parts e (drop (length more) (map Some wants)) xs t)
one_part e whole tys more ty ns ms wants expected ss x xs s t h split wanted here under is pushed =
    h ∙ ap (λ z. behind_parts tys ns (typed_parts e (drop (length tys) (map Some wants)) z s)) (sym split)
    ∙ ap (λ (w : Option TyId). behind_parts tys ns (and_then (typed e x w s) (λ n. λ u. and_then (typed_parts e (other_wants (drop (length tys) (map Some wants))) xs u) (λ rest. pure (a_node n rest.0, part_ty w n ∷ rest.1))))) (wants_at (length tys) wants ∙ sym wanted)
    ∙ ap (λ o. behind_parts tys ns (and_then o (λ n. λ u. and_then (typed_parts e (other_wants (drop (length tys) (map Some wants))) xs u) (λ rest. pure (a_node n rest.0, part_ty expected n ∷ rest.1))))) here
    ∙ ap (λ (y : TyId). behind_parts tys ns (and_then (typed_parts e (other_wants (drop (length tys) (map Some wants))) xs t) (λ rest. pure (a_node (top ms) rest.0, y ∷ rest.1)))) (sym is)
    ∙ one_part_behind tys more ty ns ms (typed_parts e (other_wants (drop (length tys) (map Some wants))) xs t) under pushed
    ∙ ap (λ ws. behind_parts more ms (typed_parts e ws xs t)) (wants_behind (drop (length tys) (map Some wants)) ∙ drop_more (length tys) (map Some wants))
    ∙ ap (λ (n : ℕ). behind_parts more ms (typed_parts e (drop n (map Some wants)) xs t)) (let j : length tys + 1 ≡ length more = omega (arith, length-append tys (ty ∷ []), ap length pushed) in j)

refuses_parts : (tys : List TyId) (ns : List Node) (o : Result (Node × TypingState) Broken) (f : Node → Check (Nodes × List TyId)) (err : RuleError) →
    Refuses o err → Refuses (behind_parts tys ns (and_then o f)) err
refuses_parts tys ns o f (RuleError.Broken rule at) h = ap (λ r. behind_parts tys ns (and_then r f)) h
refuses_parts tys ns o f RuleError.Memory h = tt

-- a part that is refused
pub refused_part : (e : Env) (whole : Result ((Nodes × List TyId) × TypingState) Broken) (tys : List TyId) (ns : List Node)
    (wants : List TyId) (expected : Option TyId) (ss : Syns) (x : Syn) (xs : Syns) (s : TypingState) (err : RuleError) →
    whole ≡ behind_parts tys ns (typed_parts e (drop (length tys) (map Some wants)) ss s) → a_syn x xs ≡ ss →
    expected ≡ slice_get wants (length tys) → Refuses (typed e x expected s) err → Refuses whole err
refused_part e whole tys ns wants expected ss x xs s err h split wanted here =
    subst (λ (o : Result ((Nodes × List TyId) × TypingState) Broken). Refuses o err)
    (sym (h ∙ ap (λ z. behind_parts tys ns (typed_parts e (drop (length tys) (map Some wants)) z s)) (sym split)
    ∙ ap (λ (w : Option TyId). behind_parts tys ns (and_then (typed e x w s) (λ n. λ u. and_then (typed_parts e (other_wants (drop (length tys) (map Some wants))) xs u) (λ rest. pure (a_node n rest.0, part_ty w n ∷ rest.1))))) (wants_at (length tys) wants ∙ sym wanted)))
    (refuses_parts tys ns (typed e x expected s) (λ n. λ u. and_then (typed_parts e (other_wants (drop (length tys) (map Some wants))) xs u) (λ rest. pure (a_node n rest.0, part_ty expected n ∷ rest.1))) err here)

-- what stands below one part more
pub below_part : (tys more : List TyId) (ty : TyId) (ns ms others : List Node) → below_all (length tys) ns ≡ others → below ms ≡ ns →
    more ≡ tys ++ ty ∷ [] → below_all (length more) ms ≡ others
below_part tys more ty ns ms others h under pushed =
    below_next (length tys) (length more) ns ms others h under (omega (arith, length-append tys (ty ∷ []), ap length pushed))
