-- A body whose parts are well typed under the numbers by which they were met is well typed in the order of the text.
use Rattle.std.proofs.Common.{◌≡◌, ℕ, suc, ◌≤◌, Bool, true, false, not, nat_le, List, [], ◌∷◌, ◌++◌, map, length, Option, Some, None, IsTrue, Contains, ◌⊎◌, inl, inr, refl, ap, sym, subst, ◌∙◌, arith}
use Rattle.std.specs.List.{flat_map}
use Rattle.std.proofs.lemmas.List.{map-append}
use Rattle.std.proofs.lemmas.List.Elements.{Contains-append_left, Contains-append_right, Contains-append_cases}
use Rattle.std.proofs.lemmas.Option.{none-some, same_Some}
use Rattle.mir_ty.specs.declared.def.ClosureDef.{ClosureDef}
use Rattle.mir_ty.specs.declared.def.Sig.{Sig}
use Rattle.mir_ty.specs.declared.ty.TyId.{TyId}
use Rattle.mir_ty.specs.ItemTable.{ItemTable}
use Rattle.typed_tree.specs.Nodes.{number_of, nodes_of, param_nodes, body_nodes, numbers_of}
use Rattle.typed_tree.specs.Tree.{Node, node, Nodes, MaybeNode, UnitValue, Wildcard, Binding, Block, ParamTree, BodyTree}
use Rattle.well_typed.specs.Claim.{Claim, Holds, fact, both}
use Rattle.well_typed.specs.Names.{are_distinct}
use Rattle.well_typed.specs.Nodes.{typed}
use Rattle.well_typed.specs.Patterns.{pattern, names_of, entries_of}
use Rattle.well_typed.specs.Places.{InScope, Context, Wanted, form_of}
use Rattle.well_typed.specs.Program.{closure_with, is_body, is_inside}
use Rattle.well_typed.specs.Types.{is_reference, is_same}
use Rattle.typing_rules.specs.Numbered.{renumbered, form_renumbered, place_among, param_renumbered, in_text_order}
use Rattle.typing_rules.specs.Places.{unit}
use Rattle.typing_rules.proofs.Sound.Fitted.{same_self, or_right}
use Rattle.typing_rules.proofs.Sound.Gives.{◌⋆◌}
use Rattle.typing_rules.proofs.Sound.Places.{contains_cases}
use Rattle.typing_soundness.specs.Numbers.{entry_on, option_on, AllAmong}
use Rattle.typing_soundness.specs.Walks.{occurs}
use Rattle.typing_soundness.proofs.Numbers.Nodes.{names_on, entries_on, pattern_on}
use Rattle.typing_soundness.proofs.Numbers.Order.{place_one_to_one, body_rises}
use Rattle.typing_soundness.proofs.Numbers.Rows.{typed_on, entries_in}

-- ---- parts of a claim

abbrev first_claim : Claim → Claim
first_claim (both a b) = a
first_claim (fact test) = fact test

abbrev rest_claim : Claim → Claim
rest_claim (both a b) = b
rest_claim (fact test) = fact test

abbrev test_of : Claim → Bool
test_of (fact test) = test
test_of (both a b) = true

abbrev no_block : Node
no_block = node 0 (record { line = 0; col = 0 }) unit None UnitValue

abbrev a_head : List TyId → Sig
a_head tys = record { name = []; params = tys; result = unit }

abbrev a_body : List ParamTree → Node → BodyTree
a_body params block = record { number = 0; params = params; answer = unit; block = block }

-- what is claimed of parameters, of one that is a name or `_`, and of a block, in the claim of a body
abbrev the_params : ItemTable → List TyId → List ParamTree → Claim
the_params items tys params =
    first_claim (rest_claim (rest_claim (is_body items 0 (a_head tys) (a_body params no_block))))

abbrev is_simple : ItemTable → TyId → ParamTree → Bool
is_simple items ty param = test_of (rest_claim (rest_claim (first_claim (the_params items (ty ∷ []) (param ∷ [])))))

abbrev is_a_block : ItemTable → Node → Bool
is_a_block items block =
    test_of (first_claim (rest_claim (rest_claim (rest_claim (rest_claim (rest_claim (is_body items 0 (a_head []) (a_body
    [] block))))))))

-- ---- parameters

-- a reference has a name or `_` for its pattern
abbrev pub IsSimple : ItemTable → TyId → Node → Type 0
IsSimple items ty p =
    IsTrue (not (is_reference items ty)) ⊎ ((form_of p ≡ Wildcard) ⊎ ((name : List ℕ) × (form_of p ≡ Binding name)))

abbrev pub AreParams : ItemTable → List ParamTree → Type 0
AreParams items [] = Unit {0}
AreParams items (p ∷ ps) =
    (Holds (pattern items (record { takes_all = true; may_move = true }) p.ty p.pattern) × IsSimple items p.ty
    p.pattern) × AreParams items ps

simple_on : (f : ℕ → ℕ) (items : ItemTable) (ty : TyId) (p : Node) → IsSimple items ty p → IsTrue (is_simple items ty
    (record { pattern = renumbered f p; ty = ty }))
simple_on f items ty (node id at t by form) (inl plain) = or_right _ (not (is_reference items ty)) plain
simple_on f items ty (node id at t by form) (inr (inl is)) =
    subst (λ g. IsTrue (is_simple items ty (record { pattern = node (f id) at t by (form_renumbered f g); ty = ty })))
    (sym is) refl
simple_on f items ty (node id at t by form) (inr (inr is)) =
    subst (λ g. IsTrue (is_simple items ty (record { pattern = node (f id) at t by (form_renumbered f g); ty = ty })))
    (sym is.1) refl

params_on : (f : ℕ → ℕ) (items : ItemTable) (ps : List ParamTree) → AreParams items ps → Holds (the_params items (map
    (λ p. p.ty) ps) (map (param_renumbered f) ps))
params_on f items [] h = refl
params_on f items (p ∷ ps) h = (
  same_self p.ty.0 ⋆ subst Holds (sym (pattern_on f items (record { takes_all = true; may_move = true }) p.ty
      p.pattern)) h.0.0 ⋆ simple_on f items p.ty p.pattern h.0.1,
  params_on f items ps h.1,
)

block_on : (f : ℕ → ℕ) (items : ItemTable) (b : Node) → ((statements : Nodes) × (tail : MaybeNode) × (form_of b ≡ Block
    statements tail)) → IsTrue (is_a_block items (renumbered f b))
block_on f items (node id at ty by form) is =
    subst (λ g. IsTrue (is_a_block items (node (f id) at ty by (form_renumbered f g)))) (sym is.2) refl

-- ---- names and entries of all parameters

abbrev pub names_in : List ParamTree → List (List ℕ)
names_in params = flat_map (λ p. names_of p.pattern) params

abbrev pub entries_of_params : List ParamTree → List InScope
entries_of_params params = flat_map (λ p. entries_of p.pattern) params

module _ (f : ℕ → ℕ) where
  names_same : (ps : List ParamTree) → names_in (map (param_renumbered f) ps) ≡ names_in ps
  names_same [] = refl
  names_same (p ∷ ps) = λ i. names_on f p.pattern i ++ names_same ps i

  entries_same : (ps : List ParamTree) → entries_of_params (map (param_renumbered f) ps) ≡ map (entry_on f)
      (entries_of_params ps)
  entries_same [] = refl
  entries_same (p ∷ ps) =
      (λ i. entries_on f p.pattern i ++ entries_same ps i) ∙ sym (map-append (entry_on f) (entries_of p.pattern)
      (entries_of_params ps))

contains_map : {A B : Type 0} (g : A → B) (xs : List A) (x : A) → Contains xs x → Contains (map g xs) (g x)
contains_map g [] x has = absurd (omega (arith, has.1))
contains_map g (y ∷ ys) x has = by (contains_cases y ys x has) (λ more. contains_map g ys x more)
  where
    by : (y ≡ x) ⊎ Contains ys x → (Contains ys x → Contains (map g ys) (g x)) → Contains (g y ∷ map g ys) (g x)
    by (inl same) on = (0, omega arith, ap g same)
    by (inr more) on = let c = on more in (suc c.0, omega (arith, c.1), c.2)

-- ---- the body

-- where the block of a body stands
abbrev pub body_context : ItemTable → Option InScope → List ParamTree → TyId → Context
body_context items closure params answer =
    record { items = items; entries = entries_of_params params; closure = closure; loops = []; answer = answer }

-- the value of the closure, by its parameter
abbrev pub value_of : ParamTree → InScope
value_of param = record { key = number_of param.pattern; ty = param.ty; is_in_guard = false }

-- a body under the numbers by which its nodes were met
pub record IsRaw (items : ItemTable) (body : BodyTree) : Type 0 where
  pub params : AreParams items body.params
  pub once : (k : ℕ) → occurs k (body_nodes body) ≤ 1
  pub few : IsTrue (nat_le (length (numbers_of (in_text_order body))) 2048)
  pub block : (statements : Nodes) × (tail : MaybeNode) × (form_of body.block ≡ Block statements tail)

module _ (items : ItemTable) (body : BodyTree) (raw : IsRaw items body) where
  abbrev f : ℕ → ℕ
  f = place_among (numbers_of body)

  one : (a b : ℕ) → Contains (numbers_of body) a → Contains (numbers_of body) b → f a ≡ f b → a ≡ b
  one = place_one_to_one (numbers_of body)

  nodes_all : AllAmong (numbers_of body) (body_nodes body)
  nodes_all n has = contains_map number_of (body_nodes body) n has

  block_all : AllAmong (numbers_of body) (nodes_of body.block)
  block_all n has = nodes_all n (Contains-append_right (param_nodes body.params) (nodes_of body.block) n has)

  params_all : AllAmong (numbers_of body) (param_nodes body.params)
  params_all n has = nodes_all n (Contains-append_left (param_nodes body.params) (nodes_of body.block) n has)

  entries_all : (ps : List ParamTree) → AllAmong (numbers_of body) (param_nodes ps) → (x : InScope) → Contains
      (entries_of_params ps) x → Contains (numbers_of body) x.key
  entries_all [] w x has = absurd (omega (arith, has.1))
  entries_all (p ∷ ps) w x has =
      by (Contains-append_cases (entries_of p.pattern) (entries_of_params ps) x has) (λ more. entries_all ps (λ n h. w n
      (Contains-append_right (nodes_of p.pattern) (param_nodes ps) n h)) x more)
    where
      by : Contains (entries_of p.pattern) x ⊎ Contains (entries_of_params ps) x → (Contains (entries_of_params ps) x →
          Contains (numbers_of body) x.key) → Contains (numbers_of body) x.key
      by (inl h) on =
          entries_in f (numbers_of body) one p.pattern (λ n h. w n (Contains-append_left (nodes_of p.pattern)
          (param_nodes ps) n h)) x h
      by (inr more) on = on more

  -- what is claimed of the block, in the order of the text
  block_typed : (closure : Option InScope) (ps : List ParamTree) → ((x : InScope) → closure ≡ Some x → Contains
      (numbers_of body) x.key) → AllAmong (numbers_of body) (param_nodes ps) → Holds (typed (body_context items
      closure ps body.answer) (Wanted body.answer) body.block) → Holds (typed (body_context items (option_on f closure)
      (map (param_renumbered f) ps) body.answer) (Wanted body.answer) (renumbered f body.block))
  block_typed closure ps has w h =
      subst (λ es. Holds (typed (record {
        items = items;
        entries = es;
        closure = option_on f closure;
        loops = [];
        answer = body.answer;
      }) (Wanted body.answer) (renumbered f body.block))) (sym (entries_same f ps)) (typed_on f (numbers_of body) one
      (body_context items closure ps body.answer) (record {
        entries = entries_all ps w;
        closure = has;
        loops = λ l none. absurd (omega (arith, none.1));
      }) (Wanted body.answer) body.block block_all h)

  whole : (head : Sig) → head.params ≡ map (λ p. p.ty) body.params → head.result ≡ body.answer → Holds (is_inside items
      (closure_with items body.number) (in_text_order body) (map (param_renumbered f) body.params)) → Holds (is_body
      items body.number head (in_text_order body))
  whole head params result inside =
      same_self body.number ⋆ subst (λ t. IsTrue (is_same body.answer t)) (sym result) (same_self body.answer.0) ⋆ subst
      (λ tys. Holds (the_params items tys (map (param_renumbered f) body.params))) (sym params) (params_on f items
      body.params raw.params) ⋆ body_rises body raw.once ⋆ raw.few ⋆ block_on f items body.block raw.block ⋆ inside

  -- the body of a function
  pub function_whole : closure_with items body.number ≡ None → IsTrue (are_distinct (names_in body.params)) → Holds
      (typed (body_context items None body.params body.answer) (Wanted body.answer) body.block) → (head : Sig) →
      head.params ≡ map (λ p. p.ty) body.params → head.result ≡ body.answer → Holds (is_body items body.number head
      (in_text_order body))
  function_whole none names block head params result =
      whole head params result (subst (λ o. Holds (is_inside items o (in_text_order body) (map (param_renumbered f)
      body.params))) (sym none) (
        block_typed None body.params (λ x is. absurd (none-some x is)) params_all block,
        subst (λ ws. IsTrue (are_distinct ws)) (sym (names_same f body.params)) names,
      ))

-- the body of a closure, whose value is its first parameter
module _ (items : ItemTable) (number : ℕ) (p : Node) (ty : TyId) (params : List ParamTree) (answer : TyId) (block : Node)
  where
    abbrev pub closure_body : BodyTree
    closure_body = record {
      number = number;
      params = record { pattern = p; ty = ty } ∷ params;
      answer = answer;
      block = block;
    }

    abbrev g : ℕ → ℕ
    g = place_among (numbers_of closure_body)

    inside : (word : List ℕ) (def : ClosureDef) (q : Node) → form_of q ≡ Binding word → Holds (typed (body_context items
        (option_on g (Some (value_of (record { pattern = q; ty = ty })))) (map (param_renumbered g) params) answer) (Wanted
        answer) (renumbered g block)) → IsTrue (are_distinct (names_in (map (param_renumbered g) params))) → Holds
        (is_inside items (Some def) (in_text_order closure_body) (record { pattern = renumbered g q; ty = ty } ∷ map
        (param_renumbered g) params))
    inside word def (node id at t by form) e h names =
        subst (λ x. Holds (is_inside items (Some def) (in_text_order closure_body) (record {
          pattern = node (g id) at t by (form_renumbered g x);
          ty = ty;
        } ∷ map (param_renumbered g) params))) (sym e) (h ⋆ refl ⋆ names)

    self_number : Contains (numbers_of closure_body) (number_of p)
    self_number =
        contains_map number_of (body_nodes closure_body) p (Contains-append_left (param_nodes closure_body.params)
        (nodes_of block) p (Contains-append_left (nodes_of p) (param_nodes params) p (first p)))
      where
        first : (q : Node) → Contains (nodes_of q) q
        first (node id at t by form) = (0, omega arith, refl)

    pub closure_whole : (word : List ℕ) (def : ClosureDef) → IsRaw items closure_body → closure_with items number ≡ Some
        def → form_of p ≡ Binding word → IsTrue (are_distinct (names_in params)) → Holds (typed (body_context items (Some
        (value_of (record { pattern = p; ty = ty }))) params answer) (Wanted answer) block) → (head : Sig) → head.params ≡
        map (λ q. q.ty) closure_body.params → head.result ≡ answer → Holds (is_body items number head (in_text_order
        closure_body))
    closure_whole word def raw is name names holds head tys result =
        whole items closure_body raw head tys result (subst (λ o. Holds (is_inside items o (in_text_order closure_body)
        (map (param_renumbered g) closure_body.params))) (sym is) (inside word def p name (block_typed items closure_body
        raw (Some (value_of (record { pattern = p; ty = ty }))) params (λ x e. subst (λ (y : InScope). Contains
        (numbers_of closure_body) y.key) (same_Some _ x e) self_number) (λ n has. params_all items closure_body raw n
        (Contains-append_right (nodes_of p) (param_nodes params) n has)) holds) (subst (λ ws. IsTrue (are_distinct ws))
        (sym (names_same g params)) names)))
