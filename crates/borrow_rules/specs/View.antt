-- Nodes, parameters and what is known of them in Rust, as the rules of borrows see them.
use Rattle.std.specs.Prelude.{ℕ, List, [], ◌++◌, Option, Some, None, map, option_map}
use Rattle.std.specs.Borrow.{Bor}
use Rattle.std.specs.List.{filter_map, flat_map}
use Rattle.mir_base.specs.declared.place_in_text.Key.{Key}
use Rattle.typed_tree.specs.declared.node.Node.{Node}
use Rattle.typed_tree.specs.Nodes.{nodes_of, nodes_if_any, number_of}
use Rattle.typed_tree.specs.Tree as tree
use Rattle.typed_tree.specs.Tree.{Form, If, IfLet, Arm, WhileLet, node, Variable, ParamTree}
use Rattle.typed_tree.specs.View.{tree_of}
use Rattle.typing_rules.specs.Replaced as rules
use Rattle.typing_rules.specs.Replaced.{OfBody, OfTrait, is_some_pos, store_of, passings_of}
use Rattle.borrow_rules.specs.declared.facts.ParameterFact.{ParameterFact}
use Rattle.borrow_rules.specs.declared.facts.ParamNo.{ParamNo}
use Rattle.borrow_rules.specs.declared.passings.CalledBody as rust
use Rattle.borrow_rules.specs.declared.passings.Passing.{Passing}

abbrev pub tree_in : Bor Node → tree.Node
tree_in n = tree_of n.now

abbrev pub key_no : Key → ℕ
key_no key = key.0

abbrev pub key_if_any : Option Key → Option ℕ
key_if_any key = option_map key_no key

-- the key of a node that is a variable
abbrev pub variable_key : tree.Node → Option ℕ
variable_key (node id at ty by (Variable key)) = Some key
variable_key _ = None

abbrev pub callee_in : rust.CalledBody → rules.CalledBody
callee_in (rust.CalledBody.OfBody body) = OfBody body
callee_in (rust.CalledBody.OfTrait trait_no method) = OfTrait trait_no method

abbrev pub passing_in : Passing → rules.Passing
passing_in p = record { at = p.at; callee = callee_in p.callee; number = p.number }

abbrev pub param_in : ParamNo → rules.BodyParameter
param_in p = record { body = p.body; number = p.number }

abbrev pub params_in : List ParamNo → List rules.BodyParameter
params_in params = map param_in params

abbrev pub fact_in : ParameterFact → rules.Facts
fact_in f = record { param = param_in f.param; is_stored = f.is_stored; passed = map passing_in f.passed }

-- what is known of a parameter, by the nodes of its body
abbrev pub facts_with : List tree.Node → ℕ → ℕ → ParamTree → rules.Facts
facts_with nodes body number param =
    record {
      param = record { body = body; number = number };
      is_stored = is_some_pos (filter_map (store_of (number_of param.pattern)) nodes);
      passed = flat_map (passings_of (number_of param.pattern)) nodes;
    }
