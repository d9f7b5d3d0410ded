-- The cells of all forms, walked once: what holds of a node's own cell and of two lists together holds of the cells of
-- each form.
use Rattle.std.proofs.Common.{ℕ, Bool, true, false, List, [], ◌∷◌, ◌++◌, Option}
use Rattle.mir_base.specs.declared.place_in_text.Pos.{Pos}
use Rattle.mir_ty.specs.declared.ty.TyId.{TyId}
use Rattle.mir_ty.specs.ItemTable.{ItemTable}
use Rattle.typed_tree.specs.declared.node.Use.{Use}
use Rattle.typed_tree.specs.Nodes.{nodes_of, nodes_in, nodes_among, nodes_of_fields, nodes_if_any}
use Rattle.typed_tree.specs.Tree as tree
use Rattle.typed_tree.specs.Tree.{Node, node, Form, Nodes, no_node, a_node, Fields, no_field, a_field, MaybeNode, absent, present}
use Rattle.src_meaning.specs.Locals.OfBody.{cells, reached_cells, cells_in, all_cells, cells_of_fields, cells_if_any, initial_cells}
use Rattle.src_meaning.specs.Scopes.{Entry}

-- what has to hold of nodes and of cells, so that it holds of the cells of each form
pub record CellSteps (items : ItemTable) (P : List Node → List Entry → Type 0) : Type 0 where
  pub none : P [] []
  pub both : (a b : List Node) (es fs : List Entry) → P a es → P b fs → P (a ++ b) (es ++ fs)
  pub own : (own : Bool) (id : ℕ) (at : Pos) (ty : TyId) (by : Option Use) (form : Form) →
      P (nodes_in form) (cells_in items form) →
      P (node id at ty by form ∷ nodes_in form) (cells items own (node id at ty by form))
  pub reached : (id : ℕ) (at : Pos) (ty : TyId) (by : Option Use) (form : Form) →
      P (nodes_in form) (cells_in items form) →
      P (node id at ty by form ∷ nodes_in form) (reached_cells items (node id at ty by form))

module _ (items : ItemTable) (P : List Node → List Entry → Type 0) (steps : CellSteps items P) where
  mutual
    pub cells_are : (own : Bool) (n : Node) → P (nodes_of n) (cells items own n)
    cells_are own (node id at ty by form) = steps.own own id at ty by form (in_are form)

    pub reached_are : (n : Node) → P (nodes_of n) (reached_cells items n)
    reached_are (node id at ty by form) = steps.reached id at ty by form (in_are form)

    -- the cells of what is in a node
    pub in_are : (form : Form) → P (nodes_in form) (cells_in items form)
    in_are (tree.Field base part) = reached_are base
    in_are (tree.Index base index length) = steps.both (nodes_of base) (nodes_of index) (reached_cells items base)
        (cells items true index) (reached_are base) (cells_are true index)
    in_are (tree.Deref base) = reached_are base
    in_are (tree.Not operand) = cells_are true operand
    in_are (tree.Negate operand) = cells_are true operand
    in_are (tree.Arithmetic operator left right) = steps.both (nodes_of left) (nodes_of right) (cells items true left)
        (cells items true right) (cells_are true left) (cells_are true right)
    in_are (tree.Comparison operator left right) = steps.both (nodes_of left) (nodes_of right) (cells items true left)
        (cells items true right) (cells_are true left) (cells_are true right)
    in_are (tree.And left right) = steps.both (nodes_of left) (nodes_of right) (cells items true left)
        (cells items false right) (cells_are true left) (cells_are false right)
    in_are (tree.Or left right) = steps.both (nodes_of left) (nodes_of right) (cells items true left)
        (cells items false right) (cells_are true left) (cells_are false right)
    in_are (tree.Assign target value) = steps.both (nodes_of target) (nodes_of value) (reached_cells items target)
        (cells items true value) (reached_are target) (cells_are true value)
    in_are (tree.Call body args) = all_are args
    in_are (tree.MethodCall body receiver args) = steps.both (nodes_of receiver) (nodes_among args)
        (cells items true receiver) (all_cells items args) (cells_are true receiver) (all_are args)
    in_are (tree.VirtualCall trait_no method receiver args) = steps.both (nodes_of receiver) (nodes_among args)
        (cells items true receiver) (all_cells items args) (cells_are true receiver) (all_are args)
    in_are (tree.ClosureCall body callee args) = steps.both (nodes_of callee) (nodes_among args)
        (cells items true callee) (all_cells items args) (cells_are true callee) (all_are args)
    in_are (tree.Make adt variant fields) = fields_are fields
    in_are (tree.Tuple parts) = all_are parts
    in_are (tree.Array elements) = all_are elements
    in_are (tree.Closure closure captures) = all_are captures
    in_are (tree.NewBox content) = cells_are true content
    in_are (tree.Print operand) = cells_are true operand
    in_are (tree.DropValue operand) = cells_are true operand
    in_are (tree.Forget operand) = cells_are true operand
    in_are (tree.Borrow unique base) = reached_are base
    in_are (tree.Unsize trait_no operand) = cells_are true operand
    in_are (tree.Block statements tail) = steps.both (nodes_among statements) (nodes_if_any tail)
        (all_cells items statements) (cells_if_any items false tail) (all_are statements) (any_are false tail)
    in_are (tree.Let pattern initialiser) = steps.both (nodes_of pattern) (nodes_if_any initialiser)
        (cells items true pattern) (initial_cells items pattern initialiser) (cells_are true pattern)
        (initial_are pattern initialiser)
    in_are (tree.Evaluate expression) = cells_are true expression
    in_are (tree.If condition consequent otherwise) = steps.both (nodes_of condition ++ nodes_of consequent)
        (nodes_if_any otherwise) (cells items true condition ++ cells items false consequent)
        (cells_if_any items false otherwise)
        (steps.both (nodes_of condition) (nodes_of consequent) (cells items true condition)
        (cells items false consequent) (cells_are true condition) (cells_are false consequent))
        (any_are false otherwise)
    in_are (tree.IfLet pattern scrutinee consequent otherwise) =
        steps.both ((nodes_of pattern ++ nodes_of scrutinee) ++ nodes_of consequent) (nodes_if_any otherwise)
        ((cells items true pattern ++ reached_cells items scrutinee) ++ cells items false consequent)
        (cells_if_any items false otherwise)
        (steps.both (nodes_of pattern ++ nodes_of scrutinee) (nodes_of consequent)
        (cells items true pattern ++ reached_cells items scrutinee) (cells items false consequent)
        (steps.both (nodes_of pattern) (nodes_of scrutinee) (cells items true pattern) (reached_cells items scrutinee)
        (cells_are true pattern) (reached_are scrutinee)) (cells_are false consequent)) (any_are false otherwise)
    in_are (tree.Match scrutinee arms) = steps.both (nodes_of scrutinee) (nodes_among arms)
        (reached_cells items scrutinee) (all_cells items arms) (reached_are scrutinee) (all_are arms)
    in_are (tree.Arm pattern guard body) = steps.both (nodes_of pattern ++ nodes_if_any guard) (nodes_of body)
        (cells items true pattern ++ cells_if_any items true guard) (cells items false body)
        (steps.both (nodes_of pattern) (nodes_if_any guard) (cells items true pattern) (cells_if_any items true guard)
        (cells_are true pattern) (any_are true guard)) (cells_are false body)
    in_are (tree.Loop body) = cells_are true body
    in_are (tree.While condition body) = steps.both (nodes_of condition) (nodes_of body) (cells items true condition)
        (cells items true body) (cells_are true condition) (cells_are true body)
    in_are (tree.WhileLet pattern scrutinee body) = steps.both (nodes_of pattern ++ nodes_of scrutinee) (nodes_of body)
        (cells items true pattern ++ reached_cells items scrutinee) (cells items true body)
        (steps.both (nodes_of pattern) (nodes_of scrutinee) (cells items true pattern) (reached_cells items scrutinee)
        (cells_are true pattern) (reached_are scrutinee)) (cells_are true body)
    in_are (tree.Break loop value) = any_are false value
    in_are (tree.Return value) = any_are false value
    in_are (tree.StructPattern fields) = fields_are fields
    in_are (tree.VariantPattern variant is_test fields) = fields_are fields
    in_are (tree.TuplePattern parts) = all_are parts
    in_are (tree.ArrayPattern elements) = all_are elements
    in_are (tree.OrPattern alternatives) = all_are alternatives
    in_are other = steps.none

    all_are : (ns : Nodes) → P (nodes_among ns) (all_cells items ns)
    all_are no_node = steps.none
    all_are (a_node first rest) = steps.both (nodes_of first) (nodes_among rest) (cells items true first)
        (all_cells items rest) (cells_are true first) (all_are rest)

    fields_are : (fs : Fields) → P (nodes_of_fields fs) (cells_of_fields items fs)
    fields_are no_field = steps.none
    fields_are (a_field number value rest) = steps.both (nodes_of value) (nodes_of_fields rest) (cells items true value)
        (cells_of_fields items rest) (cells_are true value) (fields_are rest)

    any_are : (own : Bool) (m : MaybeNode) → P (nodes_if_any m) (cells_if_any items own m)
    any_are own absent = steps.none
    any_are own (present value) = cells_are own value

    initial_are : (p : Node) (m : MaybeNode) → P (nodes_if_any m) (initial_cells items p m)
    initial_are (node id at ty by (tree.Binding name)) absent = steps.none
    initial_are (node id at ty by form) absent = steps.none
    initial_are (node id at ty by (tree.Binding name)) (present value) = cells_are false value
    initial_are (node id at ty by form) (present value) = reached_are value
