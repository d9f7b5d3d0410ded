-- That each jump names a loop around it (The Rust Reference, "Loop expressions", "Loop labels"): by cases on the form.
use Rattle.std.specs.Prelude.{ℕ, ◌==◌, Bool, true, false, ◌&&◌, ◌||◌, List, [], ◌∷◌}
use Rattle.typed_tree.specs.Tree as tree
use Rattle.typed_tree.specs.Tree.{Node, node, Form, Nodes, no_node, a_node, Fields, no_field, a_field, MaybeNode, absent, present, BodyTree}

abbrev pub has_loop : ℕ → List ℕ → Bool
has_loop loop [] = false
has_loop loop (id ∷ loops) = (id == loop) || has_loop loop loops

abbrev mutual
  -- the jumps of a node name these loops, or loops in the node
  pub names_loops : List ℕ → Node → Bool
  names_loops loops (node id at ty by form) = names_loops_in loops id form

  -- the form of a node with a number, which is that of a loop
  pub names_loops_in : List ℕ → ℕ → Form → Bool
  names_loops_in loops id (tree.Field base part) = names_loops loops base
  names_loops_in loops id (tree.Index base index length) = names_loops loops base && names_loops loops index
  names_loops_in loops id (tree.Deref base) = names_loops loops base
  names_loops_in loops id (tree.Not operand) = names_loops loops operand
  names_loops_in loops id (tree.Negate operand) = names_loops loops operand
  names_loops_in loops id (tree.Arithmetic operator left right) = names_loops loops left && names_loops loops right
  names_loops_in loops id (tree.Comparison operator left right) = names_loops loops left && names_loops loops right
  names_loops_in loops id (tree.And left right) = names_loops loops left && names_loops loops right
  names_loops_in loops id (tree.Or left right) = names_loops loops left && names_loops loops right
  names_loops_in loops id (tree.Assign place value) = names_loops loops place && names_loops loops value
  names_loops_in loops id (tree.Call body args) = all_name_loops loops args
  names_loops_in loops id (tree.MethodCall body receiver args) =
      names_loops loops receiver && all_name_loops loops args
  names_loops_in loops id (tree.VirtualCall trait_no method receiver args) =
      names_loops loops receiver && all_name_loops loops args
  names_loops_in loops id (tree.ClosureCall body callee args) = names_loops loops callee && all_name_loops loops args
  names_loops_in loops id (tree.Make adt variant fields) = fields_name_loops loops fields
  names_loops_in loops id (tree.Tuple parts) = all_name_loops loops parts
  names_loops_in loops id (tree.Array elements) = all_name_loops loops elements
  names_loops_in loops id (tree.Closure closure captures) = all_name_loops loops captures
  names_loops_in loops id (tree.NewBox content) = names_loops loops content
  names_loops_in loops id (tree.Print operand) = names_loops loops operand
  names_loops_in loops id (tree.DropValue operand) = names_loops loops operand
  names_loops_in loops id (tree.Forget operand) = names_loops loops operand
  names_loops_in loops id (tree.Borrow unique base) = names_loops loops base
  names_loops_in loops id (tree.Unsize trait_no operand) = names_loops loops operand
  names_loops_in loops id (tree.Block statements tail) = all_name_loops loops statements && if_any_names loops tail
  names_loops_in loops id (tree.Let pattern initialiser) = if_any_names loops initialiser
  names_loops_in loops id (tree.Evaluate expression) = names_loops loops expression
  names_loops_in loops id (tree.If c consequent otherwise) =
      names_loops loops c && (names_loops loops consequent && if_any_names loops otherwise)
  names_loops_in loops id (tree.IfLet pattern scrutinee consequent otherwise) =
      names_loops loops scrutinee && (names_loops loops consequent && if_any_names loops otherwise)
  names_loops_in loops id (tree.Match scrutinee arms) = names_loops loops scrutinee && all_name_loops loops arms
  names_loops_in loops id (tree.Arm pattern guard body) = if_any_names loops guard && names_loops loops body
  names_loops_in loops id (tree.Loop body) = names_loops (id ∷ loops) body
  names_loops_in loops id (tree.While c body) = names_loops (id ∷ loops) c && names_loops (id ∷ loops) body
  names_loops_in loops id (tree.WhileLet pattern scrutinee body) =
      names_loops (id ∷ loops) scrutinee && names_loops (id ∷ loops) body
  names_loops_in loops id (tree.Break loop value) = has_loop loop loops && if_any_names loops value
  names_loops_in loops id (tree.Continue loop) = has_loop loop loops
  names_loops_in loops id (tree.Return value) = if_any_names loops value
  names_loops_in loops id form = true

  pub all_name_loops : List ℕ → Nodes → Bool
  all_name_loops loops no_node = true
  all_name_loops loops (a_node first rest) = names_loops loops first && all_name_loops loops rest

  pub fields_name_loops : List ℕ → Fields → Bool
  fields_name_loops loops no_field = true
  fields_name_loops loops (a_field number value rest) = names_loops loops value && fields_name_loops loops rest

  pub if_any_names : List ℕ → MaybeNode → Bool
  if_any_names loops absent = true
  if_any_names loops (present value) = names_loops loops value

-- the block of a body has no loop around it
abbrev pub names_its_loops : BodyTree → Bool
names_its_loops tree = names_loops [] tree.block
