-- Which `&mut` parameters a call may replace as a whole: the least set such that a parameter is in it where its body
-- stores into exactly `*p`, or passes p on for a parameter in the set. A method of a trait stands for all its impls.
use Rattle.std.specs.Prelude.{ℕ, zero, suc, Bool, true, false, ◌==◌, ◌&&◌, ◌||◌, List, [], ◌∷◌, map, length, Option, Some, None, slice_get, if◌then◌else◌, IsTrue, Contains, ◌↔◌}
use Rattle.std.specs.List.{filter_map, filter, flat_map, list_any}
use Rattle.mir_base.specs.declared.place_in_text.Pos.{Pos}
use Rattle.mir_ty.specs.declared.def.ImplDef.{ImplDef}
use Rattle.mir_ty.specs.ItemTable.{ItemTable}
use Rattle.typed_tree.specs.Nodes.{nodes_of, number_of}
use Rattle.typed_tree.specs.Tree.{Node, node, Nodes, no_node, a_node, Variable, Deref, Borrow, Assign, Call, MethodCall, VirtualCall, ParamTree, BodyTree, ProgramTree}

-- a parameter by its body and its number there
pub record BodyParameter : Type 0 where
  pub body : ℕ
  pub number : ℕ

-- what is called: a body, or a method of a trait
pub data CalledBody : Type 0 where
  OfBody : (body : ℕ) → CalledBody
  OfTrait : (trait_no method : ℕ) → CalledBody

-- exactly what a variable names
abbrev pub content_of : Node → Option ℕ
content_of (node id at ty by (Deref (node id' at' ty' by' (Variable key)))) = Some key
content_of _ = None

-- `&mut *p`, which a `&mut` variable that is passed on is too
abbrev pub passes_key : Node → Option ℕ
passes_key (node id at ty by (Borrow true base)) = content_of base
passes_key _ = None

abbrev pub is_key : ℕ → Option ℕ → Bool
is_key key None = false
is_key key (Some other) = key == other

-- a store into exactly `*p`, by where it stands
abbrev pub store_of : ℕ → Node → Option Pos
store_of key (node id at ty by (Assign place value)) = if is_key key (content_of place) then Some at else None
store_of key _ = None

abbrev pub stores : ℕ → BodyTree → List Pos
stores key body = filter_map (store_of key) (nodes_of body.block)

-- the numbers of the parameters for which a variable is passed
abbrev pub numbers_for : ℕ → ℕ → Nodes → List ℕ
numbers_for key k no_node = []
numbers_for key k (a_node first rest) =
    if is_key key (passes_key first) then k ∷ numbers_for key (suc k) rest else numbers_for key (suc k) rest

pub record Passing : Type 0 where
  pub at : Pos
  pub callee : CalledBody
  pub number : ℕ

abbrev pub passing : Pos → CalledBody → ℕ → Passing
passing at callee number = record { at = at; callee = callee; number = number }

abbrev pub passings_of : ℕ → Node → List Passing
passings_of key (node id at ty by (Call body args)) = map (passing at (OfBody body)) (numbers_for key 0 args)
passings_of key (node id at ty by (MethodCall body receiver args)) =
    map (passing at (OfBody body)) (numbers_for key 0 (a_node receiver args))
passings_of key (node id at ty by (VirtualCall trait_no method receiver args)) =
    map (passing at (OfTrait trait_no method)) (numbers_for key 0 (a_node receiver args))
passings_of key _ = []

abbrev pub passings : ℕ → BodyTree → List Passing
passings key body = flat_map (passings_of key) (nodes_of body.block)

-- ---- the set, in rounds

-- a parameter with its key, what its body stores into it, and for what it is passed on
pub record Facts : Type 0 where
  pub param : BodyParameter
  pub is_stored : Bool
  pub passed : List Passing

abbrev pub is_some_pos : List Pos → Bool
is_some_pos [] = false
is_some_pos (at ∷ rest) = true

abbrev pub facts_of : BodyTree → ℕ → ParamTree → Facts
facts_of body k param = record {
  param = record { body = body.number; number = k };
  is_stored = is_some_pos (stores (number_of param.pattern) body);
  passed = passings (number_of param.pattern) body;
}

abbrev pub facts_from : BodyTree → ℕ → List ParamTree → List Facts
facts_from body k [] = []
facts_from body k (param ∷ params) = facts_of body k param ∷ facts_from body (suc k) params

abbrev pub all_facts : List BodyTree → List Facts
all_facts bodies = flat_map (λ body. facts_from body 0 body.params) bodies

abbrev pub is_param : ℕ → ℕ → BodyParameter → Bool
is_param body number p = p.body == body && p.number == number

abbrev pub is_among : List BodyParameter → ℕ → ℕ → Bool
is_among params number body = list_any (is_param body number) params

-- the bodies that are called
abbrev pub method_in : ℕ → ℕ → ImplDef → Option ℕ
method_in trait_no method def = if def.trait_no == trait_no then slice_get def.bodies method else None

abbrev pub bodies_of : ItemTable → CalledBody → List ℕ
bodies_of items (OfBody body) = body ∷ []
bodies_of items (OfTrait trait_no method) = filter_map (method_in trait_no method) items.impls

abbrev pub is_replaced : ItemTable → List BodyParameter → Passing → Bool
is_replaced items params p = list_any (is_among params p.number) (bodies_of items p.callee)

abbrev pub param_of : Facts → BodyParameter
param_of f = f.param

abbrev pub next : ItemTable → List Facts → List BodyParameter → List BodyParameter
next items facts params =
    map param_of (filter (λ (f : Facts). f.is_stored || list_any (is_replaced items params) f.passed) facts)

-- each round but the last finds one parameter more
abbrev pub after : ℕ → ItemTable → List Facts → List BodyParameter
after zero items facts = []
after (suc n) items facts = next items facts (after n items facts)

abbrev pub replaceable : ProgramTree → List BodyParameter
replaceable p = let facts = all_facts p.bodies in after (suc (length facts)) p.items facts

-- ---- the set by its rules

-- the parameter with a number of a body is replaceable among parameters of which these facts are known
pub data Replaceable (items : ItemTable) (facts : List Facts) : ℕ → ℕ → Type 0 where
  by_store : (f : Facts) → Contains facts f → IsTrue f.is_stored →
      Replaceable items facts f.param.number f.param.body
  by_call : (f : Facts) (p : Passing) (body : ℕ) → Contains facts f → Contains f.passed p →
      Contains (bodies_of items p.callee) body → Replaceable items facts p.number body →
      Replaceable items facts f.param.number f.param.body

-- the rounds find exactly the least set
abbrev pub RoundsFindTheLeast : Type 0
RoundsFindTheLeast = (p : ProgramTree) (number body : ℕ) →
    IsTrue (is_among (replaceable p) number body) ↔ Replaceable p.items (all_facts p.bodies) number body
