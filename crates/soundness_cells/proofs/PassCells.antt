-- The locals of a body by its nodes: each entry is the cell of one node, of the type of the node; and where numbers
-- rise two nodes with one number are one.
use Rattle.std.proofs.Common.{◌≡◌, ◌⊎◌, inl, inr, ℕ, ◌<◌, ◌&&◌, Bool, true, false, List, [], ◌∷◌, ◌++◌, map, Option, nat_lt, refl, ap, sym, ◌∙◌, subst, arith}
use Rattle.std.proofs.lemmas.Bool.{false≢true, ltb-true}
use Rattle.std.proofs.lemmas.List.{append_cancel_left, append_cancel_right}
use Rattle.mir_base.specs.declared.place_in_text.Pos.{Pos}
use Rattle.mir_ty.specs.declared.ty.TyId.{TyId}
use Rattle.mir_ty.specs.ItemTable.{ItemTable}
use Rattle.typed_tree.specs.declared.node.Use.{Use}
use Rattle.typed_tree.specs.Nodes.{number_of, nodes_of, nodes_in}
use Rattle.typed_tree.specs.Tree as tree
use Rattle.typed_tree.specs.Tree.{Node, node, Form, ParamTree, BodyTree}
use Rattle.src_meaning.specs.Locals.OfBody as of_body
use Rattle.src_meaning.specs.Locals.OfBody.{cells, reached_cells, cells_in, bool_ty}
use Rattle.src_meaning.specs.Scopes.{Entry}
use Rattle.well_typed.specs.Names.{do_rise}
use Rattle.well_typed.specs.Places.{form_of, ty_of}
use Rattle.soundness_values.proofs.Leaving.{AllOf, all_append}
use Rattle.soundness_cells.proofs.PassCellWalk as walk
use Rattle.soundness_cells.proofs.PassCellWalk.{CellSteps}

-- ---- nodes with numbers that rise

-- a node is among some
abbrev pub NodeIn : List Node → Node → Type 0
NodeIn [] n = ⊥
NodeIn (m ∷ ms) n = (m ≡ n) ⊎ NodeIn ms n

pub node_left : (a b : List Node) (n : Node) → NodeIn a n → NodeIn (a ++ b) n
node_left [] b n i = absurd i
node_left (m ∷ a) b n (inl e) = inl e
node_left (m ∷ a) b n (inr i) = inr (node_left a b n i)

pub node_right : (a b : List Node) (n : Node) → NodeIn b n → NodeIn (a ++ b) n
node_right [] b n i = i
node_right (m ∷ a) b n i = inr (node_right a b n i)

-- all numbers are above this one
abbrev pub Above : ℕ → List Node → Type 0
Above k [] = Unit {0}
Above k (m ∷ ms) = (k < number_of m) × Above k ms

above_less : (k l : ℕ) (ns : List Node) → k < l → Above l ns → Above k ns
above_less k l [] less h = tt
above_less k l (n ∷ ns) less h =
    let next : l < number_of n = h.0 in
    let both : k < number_of n = omega (less, next, arith) in (both, above_less k l ns less h.1)

pub above_in : (k : ℕ) (ns : List Node) (n : Node) → Above k ns → NodeIn ns n → k < number_of n
above_in k [] n h i = absurd i
above_in k (m ∷ ms) n h (inl e) = subst (λ (x : Node). k < number_of x) e h.0
above_in k (m ∷ ms) n h (inr i) = above_in k ms n h.1 i

pub and_left : (a b : Bool) → (a && b) ≡ true → a ≡ true
and_left true b e = refl
and_left false b e = absurd (false≢true e)

pub and_right : (a b : Bool) → (a && b) ≡ true → b ≡ true
and_right true b e = e
and_right false b e = absurd (false≢true e)

pub rising : (n : Node) (ns : List Node) → do_rise (map number_of (n ∷ ns)) ≡ true →
    Above (number_of n) ns × (do_rise (map number_of ns) ≡ true)
rising n [] h = (tt, refl)
rising n (m ∷ ns) h =
    let first : number_of n < number_of m = ltb-true (number_of n) (number_of m)
    (and_left (nat_lt (number_of n) (number_of m)) (do_rise (map number_of (m ∷ ns))) h) in
    let rest = and_right (nat_lt (number_of n) (number_of m)) (do_rise (map number_of (m ∷ ns))) h in
    ((first, above_less (number_of n) (number_of m) ns first (rising m ns rest).0), rest)

-- two nodes with one number are one
pub one_node : (ns : List Node) → do_rise (map number_of ns) ≡ true → (a b : Node) → NodeIn ns a → NodeIn ns b →
    number_of a ≡ number_of b → a ≡ b
one_node [] r a b i j e = absurd i
one_node (n ∷ ns) r a b (inl x) (inl y) e = sym x ∙ y
one_node (n ∷ ns) r a b (inl x) (inr y) e =
    let less : number_of n < number_of b = above_in (number_of n) ns b (rising n ns r).0 y in
    let same : number_of n ≡ number_of b = ap number_of x ∙ e in
    absurd (let never : ⊥ = omega (less, same, arith) in never)
one_node (n ∷ ns) r a b (inr x) (inl y) e =
    let less : number_of n < number_of a = above_in (number_of n) ns a (rising n ns r).0 x in
    let same : number_of n ≡ number_of a = ap number_of y ∙ sym e in
    absurd (let never : ⊥ = omega (less, same, arith) in never)
one_node (n ∷ ns) r a b (inr x) (inr y) e = one_node ns (rising n ns r).1 a b x y e

-- what stands before a node and behind it has other numbers
pub apart_from : (before : List Node) (m : Node) (behind : List Node) →
    do_rise (map number_of (before ++ (m ∷ behind))) ≡ true → (n : Node) → NodeIn (before ++ behind) n →
    number_of n ≡ number_of m → ⊥
apart_from [] m behind r n i e =
    let less : number_of m < number_of n = above_in (number_of m) behind n (rising m behind r).0 i in
    let same : number_of n ≡ number_of m = e in omega (less, same, arith)
apart_from (x ∷ before) m behind r n (inl first) e =
    let less : number_of x < number_of m = above_in (number_of x) (before ++ (m ∷ behind)) m
    (rising x (before ++ (m ∷ behind)) r).0 (node_right before (m ∷ behind) m (inl refl)) in
    let same : number_of x ≡ number_of m = ap number_of first ∙ e in omega (less, same, arith)
apart_from (x ∷ before) m behind r n (inr i) e =
    apart_from before m behind (rising x (before ++ (m ∷ behind)) r).1 n i e

pub without_middle : (before : List Node) (m : Node) (behind : List Node) (n : Node) → NodeIn (before ++ behind) n →
    NodeIn (before ++ (m ∷ behind)) n
without_middle [] m behind n i = inr i
without_middle (x ∷ before) m behind n (inl e) = inl e
without_middle (x ∷ before) m behind n (inr i) = inr (without_middle before m behind n i)

-- ---- the cells of nodes

-- the test of a literal pattern stands in its cell
abbrev pub is_literal : Form → Bool
is_literal (tree.NumberPattern value) = true
is_literal (tree.TruthPattern value) = true
is_literal form = false

module _ (items : ItemTable) where
  abbrev pub made_ty : Bool → TyId → TyId
  made_ty true ty = bool_ty items
  made_ty false ty = ty

  -- the type of a node's cell
  abbrev pub made_in : Node → TyId
  made_in n = made_ty (is_literal (form_of n)) (ty_of n)

  -- an entry is the cell of a node among some
  abbrev pub CellOf : List Node → Entry → Type 0
  CellOf ns e = (n : Node) × (NodeIn ns n × ((number_of n ≡ e.key) × (made_in n ≡ e.ty)))

  abbrev pub AreCells : List Node → List Entry → Type 0
  AreCells ns es = AllOf (CellOf ns) es

  pub wider : (a b : List Node) → ((n : Node) → NodeIn a n → NodeIn b n) → (es : List Entry) → AreCells a es →
      AreCells b es
  wider a b f [] h = tt
  wider a b f (e ∷ es) h = ((h.0.0, (f h.0.0 h.0.1.0, h.0.1.1)), wider a b f es h.1)

  pub together : (a b : List Node) (es fs : List Entry) → AreCells a es → AreCells b fs → AreCells (a ++ b) (es ++ fs)
  together a b es fs h k = all_append (CellOf (a ++ b)) es fs (wider a (a ++ b) (node_left a b) es h)
      (wider b (a ++ b) (node_right a b) fs k)

  abbrev made_if : Bool → Entry → List Entry
  made_if true e = e ∷ []
  made_if false e = []

  own_cell : (made : Bool) (id : ℕ) (at : Pos) (ty : TyId) (by : Option Use) (form : Form) (es : List Entry) →
      AreCells (nodes_in form) es →
      AreCells (node id at ty by form ∷ nodes_in form)
      (made_if made (record { key = id; ty = made_ty (is_literal form) ty }) ++ es)
  own_cell true id at ty by form es h = (
    (node id at ty by form, (inl refl, (refl, refl))),
    wider (nodes_in form) (node id at ty by form ∷ nodes_in form) (λ n i. inr i) es h,
  )
  own_cell false id at ty by form es h =
      wider (nodes_in form) (node id at ty by form ∷ nodes_in form) (λ n i. inr i) es h

  cell_steps : CellSteps items AreCells
  cell_steps = record {
    none = tt;
    both = together;
    own = λ own id at ty by form h. own_cell _ id at ty by form (cells_in items form) h;
    reached = λ id at ty by form h. own_cell _ id at ty by form (cells_in items form) h;
  }

  pub cells_are : (own : Bool) (n : Node) → AreCells (nodes_of n) (cells items own n)
  cells_are = walk.cells_are items AreCells cell_steps

  pub reached_are : (n : Node) → AreCells (nodes_of n) (reached_cells items n)
  reached_are = walk.reached_are items AreCells cell_steps

  -- the cells of what is in a node
  pub in_are : (form : Form) → AreCells (nodes_in form) (cells_in items form)
  in_are = walk.in_are items AreCells cell_steps

  -- ---- the locals of a body

  abbrev pub param_entry : ParamTree → Entry
  param_entry param = record { key = number_of param.pattern; ty = param.ty }

  abbrev pub inside : Node → List Entry
  inside n = cells_in items (form_of n)

  abbrev pub inside_params : List ParamTree → List Entry
  inside_params [] = []
  inside_params (param ∷ params) = inside param.pattern ++ inside_params params

  abbrev pub parts : List ParamTree → TyId → Node → List Entry
  parts params answer block =
      (record { key = number_of block; ty = answer })
      ∷ map param_entry params ++ inside_params params ++ inside block

  abbrev with_params : ℕ → List ParamTree → TyId → Node → BodyTree
  with_params number params answer block =
      record { number = number; params = params; answer = answer; block = block }

  one_more_param : (number : ℕ) (pattern : Node) (ty : TyId) (params : List ParamTree) (answer : TyId) (block : Node) →
      of_body.locals items (with_params number params answer block) ≡ parts params answer block →
      of_body.locals items (with_params number ((record { pattern = pattern; ty = ty }) ∷ params) answer block)
      ≡ parts ((record { pattern = pattern; ty = ty }) ∷ params) answer block
  one_more_param number (node p p_at p_ty p_by p_form) ty params answer (node id at b_ty by form) same =
      let first = (record { key = id; ty = answer }) ∷ map param_entry params in
      let both = (record { key = id; ty = answer }) ∷ (record { key = p; ty = ty }) ∷ map param_entry params in
      ap (λ rest. both ++ (cells_in items p_form ++ rest) ++ cells_in items form)
      (append_cancel_left first _ _ (append_cancel_right _ _ (cells_in items form) same))

  in_params : (number : ℕ) (params : List ParamTree) (answer : TyId) (block : Node) →
      of_body.locals items (with_params number params answer block) ≡ parts params answer block
  in_params number [] answer (node id at ty by form) = refl
  in_params number (param ∷ params) answer block =
      one_more_param number param.pattern param.ty params answer block (in_params number params answer block)

  pub locals_are : (body : BodyTree) → of_body.locals items body ≡ parts body.params body.answer body.block
  locals_are body = in_params body.number body.params body.answer body.block
