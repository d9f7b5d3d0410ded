-- Parameters one behind another.
use Rattle.std.proofs.Common.{◌≡◌, ℕ, zero, suc, List, [], ◌∷◌, ◌++◌, append_assoc, length, Result, Ok, Err, refl, ap, sym, ◌∙◌}
use Rattle.mir_ty.specs.declared.ty.TyId.{TyId}
use Rattle.src_ast.specs.Syntax.{Syn, Syns, a_syn}
use Rattle.typeck_checker.specs.Lists.{below_all, nodes_on}
use Rattle.typeck_checker.specs.Stand.{below, top}
use Rattle.typed_tree.specs.Tree.{Node, Nodes, no_node, a_node, ParamTree}
use Rattle.typing_rules.specs.Bodies.{param, params_of}
use Rattle.typing_rules.specs.Check.{Check, TypingState, Broken, and_then, pure}
use Rattle.typing_rules.specs.Scope.{Env, NamedEntry}
use Rattle.typeck_bodies.specs.Whole.{params_from}
use Rattle.typeck_bodies.specs.ParamAnswers.{last_param, last_params}

-- ---- the last nodes as patterns of parameters

one_node : (k : ℕ) (ns : List Node) (others : Nodes) → nodes_on (suc k) ns others ≡ a_node (top (below_all k ns)) (nodes_on k ns others)
one_node zero ns others = refl
one_node (suc k) ns others = one_node k (below ns) (a_node (top ns) others)

joined : (tys more : List TyId) (ns : List Node) (others : Nodes) →
    params_from (nodes_on (length tys) ns others) (tys ++ more) ≡ params_from (nodes_on (length tys) ns no_node) tys ++ params_from others more
joined [] more ns others = refl
joined (ty ∷ tys) more ns others =
    ap (λ (z : Nodes). params_from z (ty ∷ (tys ++ more))) (one_node (length tys) ns others)
    ∙ ap (λ (l : List ParamTree). record { pattern = top (below_all (length tys) ns); ty = ty } ∷ l) (joined tys more ns others)
    ∙ ap (λ (z : Nodes). params_from z (ty ∷ tys) ++ params_from others more) (sym (one_node (length tys) ns no_node))

next_length : (tys : List TyId) (ty : TyId) → length (tys ++ ty ∷ []) ≡ suc (length tys)
next_length [] ty = refl
next_length (t ∷ tys) ty = ap suc (next_length tys ty)

-- a parameter more, whose pattern is the last node
one_param : (tys : List TyId) (ty : TyId) (ns : List Node) → last_params (tys ++ ty ∷ []) ns ≡ last_params tys (below ns) ++ last_param ty ns ∷ []
one_param tys ty ns =
    ap (λ (n : ℕ). params_from (nodes_on n ns no_node) (tys ++ ty ∷ [])) (next_length tys ty)
    ∙ joined tys (ty ∷ []) (below ns) (a_node (top ns) no_node)

pub under_one : (tys later : List TyId) (ty : TyId) (ns more origin : List Node) → below_all (length tys) ns ≡ origin → below more ≡ ns →
    later ≡ tys ++ ty ∷ [] → below_all (length later) more ≡ origin
under_one tys later ty ns more origin h under next =
    ap (λ (l : List TyId). below_all (length l) more) next ∙ ap (λ (n : ℕ). below_all n more) (next_length tys ty)
    ∙ ap (below_all (length tys)) under ∙ h

-- ---- their check

abbrev pub Listed : Type 0
Listed = Result ((List ParamTree × List NamedEntry) × TypingState) Broken

-- behind those that were checked
abbrev pub behind : List ParamTree → Listed → Listed
behind made (Ok p) = Ok ((made ++ p.0.0, p.0.1), p.1)
behind made (Err e) = Err e

one_behind : (made : List ParamTree) (p : ParamTree) (o : Listed) →
    behind made (and_then o (λ ps. pure (p ∷ ps.0, ps.1))) ≡ behind (made ++ p ∷ []) o
one_behind made p (Ok q) = ap (λ (l : List ParamTree). Ok ((l, q.0.1), q.1)) (sym (append_assoc made (p ∷ []) q.0.0))
one_behind made p (Err e) = refl

pub params_step : (w : Env) (f : Syn → Check TyId) (whole : Listed) (tys later : List TyId) (ty : TyId) (ns more : List Node) (ss : Syns) (first : Syn) (rest : Syns)
    (xs ys : List NamedEntry) (s t : TypingState) → whole ≡ behind (last_params tys ns) (params_of w f ss xs s) → a_syn first rest ≡ ss →
    param w f first xs s ≡ Ok ((last_param ty more, ys), t) → below more ≡ ns → later ≡ tys ++ ty ∷ [] →
    whole ≡ behind (last_params later more) (params_of w f rest ys t)
params_step w f whole tys later ty ns more ss first rest xs ys s t h split here under next =
    h ∙ ap (λ z. behind (last_params tys ns) (params_of w f z xs s)) (sym split)
    ∙ ap (λ o. behind (last_params tys ns) (and_then o (λ q. λ u. and_then (params_of w f rest q.1 u) (λ ps. pure (q.0 ∷ ps.0, ps.1))))) here
    ∙ one_behind (last_params tys ns) (last_param ty more) (params_of w f rest ys t)
    ∙ ap (λ (l : List ParamTree). behind l (params_of w f rest ys t))
    (ap (λ (z : List Node). last_params tys z ++ last_param ty more ∷ []) (sym under) ∙ sym (one_param tys ty more)
    ∙ ap (λ (l : List TyId). last_params l more) (sym next))
