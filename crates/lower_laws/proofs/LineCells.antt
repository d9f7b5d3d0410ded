-- The cells of a body have keys of their own, so each key finds its cell.
use Rattle.std.proofs.Common.{◌≡◌, ℕ, zero, suc, ◌+◌, ◌==◌, not, nat_lt, Bool, true, false, List, [], ◌∷◌, ◌++◌, length, map, Some, None, slice_get, cond, if◌then◌else◌, ap, subst, ◌∙◌, arith}
use Rattle.std.proofs.lemmas.Bool.{lt-ltb}
use Rattle.std.proofs.lemmas.Option.{none-some, same_Some, slice_get_within, slice_get-map}
use Rattle.std.specs.Prelude.{option_map}
use Rattle.std.specs.List.{position_or_len}
use Rattle.std.specs.Option.{option_map_or}
use Rattle.typed_tree.specs.Nodes.{number_of, nodes_of, nodes_in, nodes_among, nodes_of_fields, nodes_if_any, param_nodes, body_nodes}
use Rattle.typed_tree.specs.Tree as tree
use Rattle.typed_tree.specs.Tree.{Node, Form, Nodes, no_node, a_node, Fields, no_field, a_field, MaybeNode, absent, present, ParamTree, BodyTree}
use Rattle.src_meaning.specs.Locals.OfBody.{cells, reached_cells, cells_in, all_cells, cells_of_fields, cells_if_any, initial_cells, local_among, locals, param_key}
use Rattle.src_meaning.specs.Scopes.{Entry}
use Rattle.well_typed.specs.Places.{form_of}
use Rattle.lower_laws.proofs.Base as base
use Rattle.lower_laws.proofs.Base.{Ground}
use Rattle.lower_laws.proofs.Names as names
use Rattle.lower_laws.proofs.Names.{OfNodes}

-- something holds of the keys of cells
abbrev pub OfKeys : (ℕ → Type 0) → List Entry → Type 0
OfKeys P [] = Unit {0}
OfKeys P (e ∷ es) = P e.key × OfKeys P es

keys_append : (P : ℕ → Type 0) (xs ys : List Entry) → OfKeys P xs → OfKeys P ys → OfKeys P (xs ++ ys)
keys_append P [] ys h k = k
keys_append P (x ∷ xs) ys h k = (h.0, keys_append P xs ys h.1 k)

pub nodes_first : (P : ℕ → Type 0) (xs ys : List Node) → OfNodes P (xs ++ ys) → OfNodes P xs
nodes_first P [] ys h = tt
nodes_first P (x ∷ xs) ys h = (h.0, nodes_first P xs ys h.1)

pub nodes_second : (P : ℕ → Type 0) (xs ys : List Node) → OfNodes P (xs ++ ys) → OfNodes P ys
nodes_second P [] ys h = h
nodes_second P (x ∷ xs) ys h = nodes_second P xs ys h.1

abbrev pub Distinct : List Entry → Type 0
Distinct [] = Unit {0}
Distinct (e ∷ es) = OfKeys (λ k. (e.key == k) ≡ false) es × Distinct es

keys_joined : (n : ℕ) (xs ys : List Entry) → OfKeys (λ k. (n == k) ≡ false) xs → OfKeys (λ k. (n == k) ≡ false) ys → OfKeys (λ k. (n == k) ≡ false) (xs ++ ys)
keys_joined n xs ys h k = keys_append (λ k. (n == k) ≡ false) xs ys h k

pub distinct_append : (xs ys : List Entry) (ns : List Node) → Distinct xs → Distinct ys → OfKeys (λ k. OfNodes (λ m. (k == m) ≡ false) ns) xs → ((k : ℕ) → OfNodes (λ m. (k == m) ≡ false) ns → OfKeys (λ m. (k == m) ≡ false) ys) → Distinct (xs ++ ys)
distinct_append [] ys ns h k below all = k
distinct_append (x ∷ xs) ys ns h k below all = (keys_joined x.key xs ys h.0 (all x.key below.0), distinct_append xs ys ns h.1 k below.1 all)

module _ (g : Ground) where
  over_apart : (n : ℕ) (ns : List Node) → base.Over g n ns → OfNodes (λ m. (n == m) ≡ false) ns
  over_apart n [] h = tt
  over_apart n (m ∷ ns) h = (names.apart_under n (number_of m) h.0, over_apart n ns h.1)

  pub below_apart : (xs ys : List Node) → base.Below g xs ys → OfNodes (λ k. OfNodes (λ m. (k == m) ≡ false) ys) xs
  below_apart [] ys h = tt
  below_apart (x ∷ xs) ys h = (over_apart (number_of x) ys h.0, below_apart xs ys h.1)

  -- a cell or none, and others
  abbrev made_if : Bool → Entry → List Entry
  made_if true e = e ∷ []
  made_if false e = []

  keys_made : (b : Bool) (e : Entry) (es : List Entry) (P : ℕ → Type 0) → P e.key → OfKeys P es → OfKeys P (made_if b e ++ es)
  keys_made true e es P h k = (h, k)
  keys_made false e es P h k = k

  distinct_made : (b : Bool) (e : Entry) (es : List Entry) → OfKeys (λ k. (e.key == k) ≡ false) es → Distinct es → Distinct (made_if b e ++ es)
  distinct_made true e es h k = (h, k)
  distinct_made false e es h k = k

  -- ---- keys of cells are numbers of nodes
  mutual
    pub keys_cells : (own : Bool) (n : Node) (P : ℕ → Type 0) → OfNodes P (nodes_of n) → OfKeys P (cells g.items own n)
    keys_cells own (tree.node id at ty by form) P h = keys_made _ _ (cells_in g.items form) P h.0 (keys_in form P h.1)

    keys_reached : (n : Node) (P : ℕ → Type 0) → OfNodes P (nodes_of n) → OfKeys P (reached_cells g.items n)
    keys_reached (tree.node id at ty by form) P h = keys_made _ _ (cells_in g.items form) P h.0 (keys_in form P h.1)

    pub keys_in : (form : Form) (P : ℕ → Type 0) → OfNodes P (nodes_in form) → OfKeys P (cells_in g.items form)
    keys_in (tree.Field inner part) P h = keys_reached inner P h
    keys_in (tree.Index inner index length) P h = keys_append P _ _ (keys_reached inner P (nodes_first P (nodes_of inner) (nodes_of index) h)) (keys_cells true index P (nodes_second P (nodes_of inner) (nodes_of index) h))
    keys_in (tree.Deref inner) P h = keys_reached inner P h
    keys_in (tree.Not operand) P h = keys_cells true operand P h
    keys_in (tree.Negate operand) P h = keys_cells true operand P h
    keys_in (tree.Arithmetic operator left right) P h = keys_append P _ _ (keys_cells true left P (nodes_first P (nodes_of left) (nodes_of right) h)) (keys_cells true right P (nodes_second P (nodes_of left) (nodes_of right) h))
    keys_in (tree.Comparison operator left right) P h = keys_append P _ _ (keys_cells true left P (nodes_first P (nodes_of left) (nodes_of right) h)) (keys_cells true right P (nodes_second P (nodes_of left) (nodes_of right) h))
    keys_in (tree.And left right) P h = keys_append P _ _ (keys_cells true left P (nodes_first P (nodes_of left) (nodes_of right) h)) (keys_cells false right P (nodes_second P (nodes_of left) (nodes_of right) h))
    keys_in (tree.Or left right) P h = keys_append P _ _ (keys_cells true left P (nodes_first P (nodes_of left) (nodes_of right) h)) (keys_cells false right P (nodes_second P (nodes_of left) (nodes_of right) h))
    keys_in (tree.Assign target value_) P h = keys_append P _ _ (keys_reached target P (nodes_first P (nodes_of target) (nodes_of value_) h)) (keys_cells true value_ P (nodes_second P (nodes_of target) (nodes_of value_) h))
    keys_in (tree.Call called args) P h = keys_all args P h
    keys_in (tree.MethodCall called receiver args) P h = keys_append P _ _ (keys_cells true receiver P (nodes_first P (nodes_of receiver) (nodes_among args) h)) (keys_all args P (nodes_second P (nodes_of receiver) (nodes_among args) h))
    keys_in (tree.VirtualCall trait_no method receiver args) P h = keys_append P _ _ (keys_cells true receiver P (nodes_first P (nodes_of receiver) (nodes_among args) h)) (keys_all args P (nodes_second P (nodes_of receiver) (nodes_among args) h))
    keys_in (tree.ClosureCall called callee args) P h = keys_append P _ _ (keys_cells true callee P (nodes_first P (nodes_of callee) (nodes_among args) h)) (keys_all args P (nodes_second P (nodes_of callee) (nodes_among args) h))
    keys_in (tree.Make adt variant fields) P h = keys_fields fields P h
    keys_in (tree.Tuple parts) P h = keys_all parts P h
    keys_in (tree.Array elements) P h = keys_all elements P h
    keys_in (tree.Closure closure captures) P h = keys_all captures P h
    keys_in (tree.NewBox content) P h = keys_cells true content P h
    keys_in (tree.Print operand) P h = keys_cells true operand P h
    keys_in (tree.DropValue operand) P h = keys_cells true operand P h
    keys_in (tree.Forget operand) P h = keys_cells true operand P h
    keys_in (tree.Borrow unique inner) P h = keys_reached inner P h
    keys_in (tree.Unsize trait_no operand) P h = keys_cells true operand P h
    keys_in (tree.Block statements tail) P h = keys_append P _ _ (keys_all statements P (nodes_first P (nodes_among statements) (nodes_if_any tail) h)) (keys_any false tail P (nodes_second P (nodes_among statements) (nodes_if_any tail) h))
    keys_in (tree.Let p initialiser) P h = keys_append P _ _ (keys_cells true p P (nodes_first P (nodes_of p) (nodes_if_any initialiser) h)) (keys_init p initialiser P (nodes_second P (nodes_of p) (nodes_if_any initialiser) h))
    keys_in (tree.Evaluate expression) P h = keys_cells true expression P h
    keys_in (tree.If condition consequent otherwise) P h = keys_append P _ _ (keys_append P _ _ (keys_cells true condition P (nodes_first P (nodes_of condition) (nodes_of consequent) (nodes_first P (nodes_of condition ++ nodes_of consequent) (nodes_if_any otherwise) h))) (keys_cells false consequent P (nodes_second P (nodes_of condition) (nodes_of consequent) (nodes_first P (nodes_of condition ++ nodes_of consequent) (nodes_if_any otherwise) h)))) (keys_any false otherwise P (nodes_second P (nodes_of condition ++ nodes_of consequent) (nodes_if_any otherwise) h))
    keys_in (tree.IfLet p scrutinee consequent otherwise) P h = keys_append P _ _ (keys_append P _ _ (keys_append P _ _ (keys_cells true p P (nodes_first P (nodes_of p) (nodes_of scrutinee) (nodes_first P (nodes_of p ++ nodes_of scrutinee) (nodes_of consequent) (nodes_first P (nodes_of p ++ nodes_of scrutinee ++ nodes_of consequent) (nodes_if_any otherwise) h)))) (keys_reached scrutinee P (nodes_second P (nodes_of p) (nodes_of scrutinee) (nodes_first P (nodes_of p ++ nodes_of scrutinee) (nodes_of consequent) (nodes_first P (nodes_of p ++ nodes_of scrutinee ++ nodes_of consequent) (nodes_if_any otherwise) h))))) (keys_cells false consequent P (nodes_second P (nodes_of p ++ nodes_of scrutinee) (nodes_of consequent) (nodes_first P (nodes_of p ++ nodes_of scrutinee ++ nodes_of consequent) (nodes_if_any otherwise) h)))) (keys_any false otherwise P (nodes_second P (nodes_of p ++ nodes_of scrutinee ++ nodes_of consequent) (nodes_if_any otherwise) h))
    keys_in (tree.Match scrutinee arms) P h = keys_append P _ _ (keys_reached scrutinee P (nodes_first P (nodes_of scrutinee) (nodes_among arms) h)) (keys_all arms P (nodes_second P (nodes_of scrutinee) (nodes_among arms) h))
    keys_in (tree.Arm p guard inner) P h = keys_append P _ _ (keys_append P _ _ (keys_cells true p P (nodes_first P (nodes_of p) (nodes_if_any guard) (nodes_first P (nodes_of p ++ nodes_if_any guard) (nodes_of inner) h))) (keys_any true guard P (nodes_second P (nodes_of p) (nodes_if_any guard) (nodes_first P (nodes_of p ++ nodes_if_any guard) (nodes_of inner) h)))) (keys_cells false inner P (nodes_second P (nodes_of p ++ nodes_if_any guard) (nodes_of inner) h))
    keys_in (tree.Loop inner) P h = keys_cells true inner P h
    keys_in (tree.While condition inner) P h = keys_append P _ _ (keys_cells true condition P (nodes_first P (nodes_of condition) (nodes_of inner) h)) (keys_cells true inner P (nodes_second P (nodes_of condition) (nodes_of inner) h))
    keys_in (tree.WhileLet p scrutinee inner) P h = keys_append P _ _ (keys_append P _ _ (keys_cells true p P (nodes_first P (nodes_of p) (nodes_of scrutinee) (nodes_first P (nodes_of p ++ nodes_of scrutinee) (nodes_of inner) h))) (keys_reached scrutinee P (nodes_second P (nodes_of p) (nodes_of scrutinee) (nodes_first P (nodes_of p ++ nodes_of scrutinee) (nodes_of inner) h)))) (keys_cells true inner P (nodes_second P (nodes_of p ++ nodes_of scrutinee) (nodes_of inner) h))
    keys_in (tree.Break loop value_) P h = keys_any false value_ P h
    keys_in (tree.Return value_) P h = keys_any false value_ P h
    keys_in (tree.StructPattern fields) P h = keys_fields fields P h
    keys_in (tree.VariantPattern variant is_test fields) P h = keys_fields fields P h
    keys_in (tree.TuplePattern parts) P h = keys_all parts P h
    keys_in (tree.ArrayPattern elements) P h = keys_all elements P h
    keys_in (tree.OrPattern alternatives) P h = keys_all alternatives P h
    keys_in other P h = tt

    keys_all : (ns : Nodes) (P : ℕ → Type 0) → OfNodes P (nodes_among ns) → OfKeys P (all_cells g.items ns)
    keys_all no_node P h = tt
    keys_all (a_node first rest) P h = keys_append P _ _ (keys_cells true first P (nodes_first P (nodes_of first) (nodes_among rest) h)) (keys_all rest P (nodes_second P (nodes_of first) (nodes_among rest) h))

    keys_fields : (fs : Fields) (P : ℕ → Type 0) → OfNodes P (nodes_of_fields fs) → OfKeys P (cells_of_fields g.items fs)
    keys_fields no_field P h = tt
    keys_fields (a_field number value rest) P h = keys_append P _ _ (keys_cells true value P (nodes_first P (nodes_of value) (nodes_of_fields rest) h)) (keys_fields rest P (nodes_second P (nodes_of value) (nodes_of_fields rest) h))

    keys_any : (own : Bool) (n : MaybeNode) (P : ℕ → Type 0) → OfNodes P (nodes_if_any n) → OfKeys P (cells_if_any g.items own n)
    keys_any own absent P h = tt
    keys_any own (present value) P h = keys_cells own value P h

    keys_init : (p : Node) (n : MaybeNode) (P : ℕ → Type 0) → OfNodes P (nodes_if_any n) → OfKeys P (initial_cells g.items p n)
    keys_init p absent P h = tt
    keys_init (tree.node id at ty by (tree.Binding name)) (present value_) P h = keys_cells false value_ P h
    keys_init (tree.node id at ty by other) (present value_) P h = keys_reached value_ P h

  -- ---- and no two are the same
  mutual
    pub apart_cells : (own : Bool) (n : Node) → base.Rise g (nodes_of n) → Distinct (cells g.items own n)
    apart_cells own (tree.node id at ty by form) r = distinct_made _ _ (cells_in g.items form) (keys_in form (λ k. (id == k) ≡ false) (over_apart id (nodes_in form) r.0)) (apart_in form r.1)

    apart_reached : (n : Node) → base.Rise g (nodes_of n) → Distinct (reached_cells g.items n)
    apart_reached (tree.node id at ty by form) r = distinct_made _ _ (cells_in g.items form) (keys_in form (λ k. (id == k) ≡ false) (over_apart id (nodes_in form) r.0)) (apart_in form r.1)

    pub apart_in : (form : Form) → base.Rise g (nodes_in form) → Distinct (cells_in g.items form)
    apart_in (tree.Field inner part) r = apart_reached inner r
    apart_in (tree.Index inner index length) r = distinct_append (reached_cells g.items inner) (cells g.items true index) (nodes_of index) (apart_reached inner (base.rise_first g (nodes_of inner) (nodes_of index) r)) (apart_cells true index (base.rise_second g (nodes_of inner) (nodes_of index) r)) (keys_reached inner (λ (k : ℕ). OfNodes (λ m. (k == m) ≡ false) (nodes_of index)) (below_apart (nodes_of inner) (nodes_of index) (base.rise_across g (nodes_of inner) (nodes_of index) r))) (λ k q. keys_cells true index (λ m. (k == m) ≡ false) q)
    apart_in (tree.Deref inner) r = apart_reached inner r
    apart_in (tree.Not operand) r = apart_cells true operand r
    apart_in (tree.Negate operand) r = apart_cells true operand r
    apart_in (tree.Arithmetic operator left right) r = distinct_append (cells g.items true left) (cells g.items true right) (nodes_of right) (apart_cells true left (base.rise_first g (nodes_of left) (nodes_of right) r)) (apart_cells true right (base.rise_second g (nodes_of left) (nodes_of right) r)) (keys_cells true left (λ (k : ℕ). OfNodes (λ m. (k == m) ≡ false) (nodes_of right)) (below_apart (nodes_of left) (nodes_of right) (base.rise_across g (nodes_of left) (nodes_of right) r))) (λ k q. keys_cells true right (λ m. (k == m) ≡ false) q)
    apart_in (tree.Comparison operator left right) r = distinct_append (cells g.items true left) (cells g.items true right) (nodes_of right) (apart_cells true left (base.rise_first g (nodes_of left) (nodes_of right) r)) (apart_cells true right (base.rise_second g (nodes_of left) (nodes_of right) r)) (keys_cells true left (λ (k : ℕ). OfNodes (λ m. (k == m) ≡ false) (nodes_of right)) (below_apart (nodes_of left) (nodes_of right) (base.rise_across g (nodes_of left) (nodes_of right) r))) (λ k q. keys_cells true right (λ m. (k == m) ≡ false) q)
    apart_in (tree.And left right) r = distinct_append (cells g.items true left) (cells g.items false right) (nodes_of right) (apart_cells true left (base.rise_first g (nodes_of left) (nodes_of right) r)) (apart_cells false right (base.rise_second g (nodes_of left) (nodes_of right) r)) (keys_cells true left (λ (k : ℕ). OfNodes (λ m. (k == m) ≡ false) (nodes_of right)) (below_apart (nodes_of left) (nodes_of right) (base.rise_across g (nodes_of left) (nodes_of right) r))) (λ k q. keys_cells false right (λ m. (k == m) ≡ false) q)
    apart_in (tree.Or left right) r = distinct_append (cells g.items true left) (cells g.items false right) (nodes_of right) (apart_cells true left (base.rise_first g (nodes_of left) (nodes_of right) r)) (apart_cells false right (base.rise_second g (nodes_of left) (nodes_of right) r)) (keys_cells true left (λ (k : ℕ). OfNodes (λ m. (k == m) ≡ false) (nodes_of right)) (below_apart (nodes_of left) (nodes_of right) (base.rise_across g (nodes_of left) (nodes_of right) r))) (λ k q. keys_cells false right (λ m. (k == m) ≡ false) q)
    apart_in (tree.Assign target value_) r = distinct_append (reached_cells g.items target) (cells g.items true value_) (nodes_of value_) (apart_reached target (base.rise_first g (nodes_of target) (nodes_of value_) r)) (apart_cells true value_ (base.rise_second g (nodes_of target) (nodes_of value_) r)) (keys_reached target (λ (k : ℕ). OfNodes (λ m. (k == m) ≡ false) (nodes_of value_)) (below_apart (nodes_of target) (nodes_of value_) (base.rise_across g (nodes_of target) (nodes_of value_) r))) (λ k q. keys_cells true value_ (λ m. (k == m) ≡ false) q)
    apart_in (tree.Call called args) r = apart_all args r
    apart_in (tree.MethodCall called receiver args) r = distinct_append (cells g.items true receiver) (all_cells g.items args) (nodes_among args) (apart_cells true receiver (base.rise_first g (nodes_of receiver) (nodes_among args) r)) (apart_all args (base.rise_second g (nodes_of receiver) (nodes_among args) r)) (keys_cells true receiver (λ (k : ℕ). OfNodes (λ m. (k == m) ≡ false) (nodes_among args)) (below_apart (nodes_of receiver) (nodes_among args) (base.rise_across g (nodes_of receiver) (nodes_among args) r))) (λ k q. keys_all args (λ m. (k == m) ≡ false) q)
    apart_in (tree.VirtualCall trait_no method receiver args) r = distinct_append (cells g.items true receiver) (all_cells g.items args) (nodes_among args) (apart_cells true receiver (base.rise_first g (nodes_of receiver) (nodes_among args) r)) (apart_all args (base.rise_second g (nodes_of receiver) (nodes_among args) r)) (keys_cells true receiver (λ (k : ℕ). OfNodes (λ m. (k == m) ≡ false) (nodes_among args)) (below_apart (nodes_of receiver) (nodes_among args) (base.rise_across g (nodes_of receiver) (nodes_among args) r))) (λ k q. keys_all args (λ m. (k == m) ≡ false) q)
    apart_in (tree.ClosureCall called callee args) r = distinct_append (cells g.items true callee) (all_cells g.items args) (nodes_among args) (apart_cells true callee (base.rise_first g (nodes_of callee) (nodes_among args) r)) (apart_all args (base.rise_second g (nodes_of callee) (nodes_among args) r)) (keys_cells true callee (λ (k : ℕ). OfNodes (λ m. (k == m) ≡ false) (nodes_among args)) (below_apart (nodes_of callee) (nodes_among args) (base.rise_across g (nodes_of callee) (nodes_among args) r))) (λ k q. keys_all args (λ m. (k == m) ≡ false) q)
    apart_in (tree.Make adt variant fields) r = apart_fields fields r
    apart_in (tree.Tuple parts) r = apart_all parts r
    apart_in (tree.Array elements) r = apart_all elements r
    apart_in (tree.Closure closure captures) r = apart_all captures r
    apart_in (tree.NewBox content) r = apart_cells true content r
    apart_in (tree.Print operand) r = apart_cells true operand r
    apart_in (tree.DropValue operand) r = apart_cells true operand r
    apart_in (tree.Forget operand) r = apart_cells true operand r
    apart_in (tree.Borrow unique inner) r = apart_reached inner r
    apart_in (tree.Unsize trait_no operand) r = apart_cells true operand r
    apart_in (tree.Block statements tail) r = distinct_append (all_cells g.items statements) (cells_if_any g.items false tail) (nodes_if_any tail) (apart_all statements (base.rise_first g (nodes_among statements) (nodes_if_any tail) r)) (apart_any false tail (base.rise_second g (nodes_among statements) (nodes_if_any tail) r)) (keys_all statements (λ (k : ℕ). OfNodes (λ m. (k == m) ≡ false) (nodes_if_any tail)) (below_apart (nodes_among statements) (nodes_if_any tail) (base.rise_across g (nodes_among statements) (nodes_if_any tail) r))) (λ k q. keys_any false tail (λ m. (k == m) ≡ false) q)
    apart_in (tree.Let p initialiser) r = distinct_append (cells g.items true p) (initial_cells g.items p initialiser) (nodes_if_any initialiser) (apart_cells true p (base.rise_first g (nodes_of p) (nodes_if_any initialiser) r)) (apart_init p initialiser (base.rise_second g (nodes_of p) (nodes_if_any initialiser) r)) (keys_cells true p (λ (k : ℕ). OfNodes (λ m. (k == m) ≡ false) (nodes_if_any initialiser)) (below_apart (nodes_of p) (nodes_if_any initialiser) (base.rise_across g (nodes_of p) (nodes_if_any initialiser) r))) (λ k q. keys_init p initialiser (λ m. (k == m) ≡ false) q)
    apart_in (tree.Evaluate expression) r = apart_cells true expression r
    apart_in (tree.If condition consequent otherwise) r = distinct_append (cells g.items true condition ++ cells g.items false consequent) (cells_if_any g.items false otherwise) (nodes_if_any otherwise) (distinct_append (cells g.items true condition) (cells g.items false consequent) (nodes_of consequent) (apart_cells true condition (base.rise_first g (nodes_of condition) (nodes_of consequent) (base.rise_first g (nodes_of condition ++ nodes_of consequent) (nodes_if_any otherwise) r))) (apart_cells false consequent (base.rise_second g (nodes_of condition) (nodes_of consequent) (base.rise_first g (nodes_of condition ++ nodes_of consequent) (nodes_if_any otherwise) r))) (keys_cells true condition (λ (k : ℕ). OfNodes (λ m. (k == m) ≡ false) (nodes_of consequent)) (below_apart (nodes_of condition) (nodes_of consequent) (base.rise_across g (nodes_of condition) (nodes_of consequent) (base.rise_first g (nodes_of condition ++ nodes_of consequent) (nodes_if_any otherwise) r)))) (λ k q. keys_cells false consequent (λ m. (k == m) ≡ false) q)) (apart_any false otherwise (base.rise_second g (nodes_of condition ++ nodes_of consequent) (nodes_if_any otherwise) r)) (keys_append (λ (k : ℕ). OfNodes (λ m. (k == m) ≡ false) (nodes_if_any otherwise)) _ _ (keys_cells true condition (λ (k : ℕ). OfNodes (λ m. (k == m) ≡ false) (nodes_if_any otherwise)) (nodes_first (λ (k : ℕ). OfNodes (λ m. (k == m) ≡ false) (nodes_if_any otherwise)) (nodes_of condition) (nodes_of consequent) (below_apart (nodes_of condition ++ nodes_of consequent) (nodes_if_any otherwise) (base.rise_across g (nodes_of condition ++ nodes_of consequent) (nodes_if_any otherwise) r)))) (keys_cells false consequent (λ (k : ℕ). OfNodes (λ m. (k == m) ≡ false) (nodes_if_any otherwise)) (nodes_second (λ (k : ℕ). OfNodes (λ m. (k == m) ≡ false) (nodes_if_any otherwise)) (nodes_of condition) (nodes_of consequent) (below_apart (nodes_of condition ++ nodes_of consequent) (nodes_if_any otherwise) (base.rise_across g (nodes_of condition ++ nodes_of consequent) (nodes_if_any otherwise) r))))) (λ k q. keys_any false otherwise (λ m. (k == m) ≡ false) q)
    apart_in (tree.IfLet p scrutinee consequent otherwise) r = distinct_append (cells g.items true p ++ reached_cells g.items scrutinee ++ cells g.items false consequent) (cells_if_any g.items false otherwise) (nodes_if_any otherwise) (distinct_append (cells g.items true p ++ reached_cells g.items scrutinee) (cells g.items false consequent) (nodes_of consequent) (distinct_append (cells g.items true p) (reached_cells g.items scrutinee) (nodes_of scrutinee) (apart_cells true p (base.rise_first g (nodes_of p) (nodes_of scrutinee) (base.rise_first g (nodes_of p ++ nodes_of scrutinee) (nodes_of consequent) (base.rise_first g (nodes_of p ++ nodes_of scrutinee ++ nodes_of consequent) (nodes_if_any otherwise) r)))) (apart_reached scrutinee (base.rise_second g (nodes_of p) (nodes_of scrutinee) (base.rise_first g (nodes_of p ++ nodes_of scrutinee) (nodes_of consequent) (base.rise_first g (nodes_of p ++ nodes_of scrutinee ++ nodes_of consequent) (nodes_if_any otherwise) r)))) (keys_cells true p (λ (k : ℕ). OfNodes (λ m. (k == m) ≡ false) (nodes_of scrutinee)) (below_apart (nodes_of p) (nodes_of scrutinee) (base.rise_across g (nodes_of p) (nodes_of scrutinee) (base.rise_first g (nodes_of p ++ nodes_of scrutinee) (nodes_of consequent) (base.rise_first g (nodes_of p ++ nodes_of scrutinee ++ nodes_of consequent) (nodes_if_any otherwise) r))))) (λ k q. keys_reached scrutinee (λ m. (k == m) ≡ false) q)) (apart_cells false consequent (base.rise_second g (nodes_of p ++ nodes_of scrutinee) (nodes_of consequent) (base.rise_first g (nodes_of p ++ nodes_of scrutinee ++ nodes_of consequent) (nodes_if_any otherwise) r))) (keys_append (λ (k : ℕ). OfNodes (λ m. (k == m) ≡ false) (nodes_of consequent)) _ _ (keys_cells true p (λ (k : ℕ). OfNodes (λ m. (k == m) ≡ false) (nodes_of consequent)) (nodes_first (λ (k : ℕ). OfNodes (λ m. (k == m) ≡ false) (nodes_of consequent)) (nodes_of p) (nodes_of scrutinee) (below_apart (nodes_of p ++ nodes_of scrutinee) (nodes_of consequent) (base.rise_across g (nodes_of p ++ nodes_of scrutinee) (nodes_of consequent) (base.rise_first g (nodes_of p ++ nodes_of scrutinee ++ nodes_of consequent) (nodes_if_any otherwise) r))))) (keys_reached scrutinee (λ (k : ℕ). OfNodes (λ m. (k == m) ≡ false) (nodes_of consequent)) (nodes_second (λ (k : ℕ). OfNodes (λ m. (k == m) ≡ false) (nodes_of consequent)) (nodes_of p) (nodes_of scrutinee) (below_apart (nodes_of p ++ nodes_of scrutinee) (nodes_of consequent) (base.rise_across g (nodes_of p ++ nodes_of scrutinee) (nodes_of consequent) (base.rise_first g (nodes_of p ++ nodes_of scrutinee ++ nodes_of consequent) (nodes_if_any otherwise) r)))))) (λ k q. keys_cells false consequent (λ m. (k == m) ≡ false) q)) (apart_any false otherwise (base.rise_second g (nodes_of p ++ nodes_of scrutinee ++ nodes_of consequent) (nodes_if_any otherwise) r)) (keys_append (λ (k : ℕ). OfNodes (λ m. (k == m) ≡ false) (nodes_if_any otherwise)) _ _ (keys_append (λ (k : ℕ). OfNodes (λ m. (k == m) ≡ false) (nodes_if_any otherwise)) _ _ (keys_cells true p (λ (k : ℕ). OfNodes (λ m. (k == m) ≡ false) (nodes_if_any otherwise)) (nodes_first (λ (k : ℕ). OfNodes (λ m. (k == m) ≡ false) (nodes_if_any otherwise)) (nodes_of p) (nodes_of scrutinee) (nodes_first (λ (k : ℕ). OfNodes (λ m. (k == m) ≡ false) (nodes_if_any otherwise)) (nodes_of p ++ nodes_of scrutinee) (nodes_of consequent) (below_apart (nodes_of p ++ nodes_of scrutinee ++ nodes_of consequent) (nodes_if_any otherwise) (base.rise_across g (nodes_of p ++ nodes_of scrutinee ++ nodes_of consequent) (nodes_if_any otherwise) r))))) (keys_reached scrutinee (λ (k : ℕ). OfNodes (λ m. (k == m) ≡ false) (nodes_if_any otherwise)) (nodes_second (λ (k : ℕ). OfNodes (λ m. (k == m) ≡ false) (nodes_if_any otherwise)) (nodes_of p) (nodes_of scrutinee) (nodes_first (λ (k : ℕ). OfNodes (λ m. (k == m) ≡ false) (nodes_if_any otherwise)) (nodes_of p ++ nodes_of scrutinee) (nodes_of consequent) (below_apart (nodes_of p ++ nodes_of scrutinee ++ nodes_of consequent) (nodes_if_any otherwise) (base.rise_across g (nodes_of p ++ nodes_of scrutinee ++ nodes_of consequent) (nodes_if_any otherwise) r)))))) (keys_cells false consequent (λ (k : ℕ). OfNodes (λ m. (k == m) ≡ false) (nodes_if_any otherwise)) (nodes_second (λ (k : ℕ). OfNodes (λ m. (k == m) ≡ false) (nodes_if_any otherwise)) (nodes_of p ++ nodes_of scrutinee) (nodes_of consequent) (below_apart (nodes_of p ++ nodes_of scrutinee ++ nodes_of consequent) (nodes_if_any otherwise) (base.rise_across g (nodes_of p ++ nodes_of scrutinee ++ nodes_of consequent) (nodes_if_any otherwise) r))))) (λ k q. keys_any false otherwise (λ m. (k == m) ≡ false) q)
    apart_in (tree.Match scrutinee arms) r = distinct_append (reached_cells g.items scrutinee) (all_cells g.items arms) (nodes_among arms) (apart_reached scrutinee (base.rise_first g (nodes_of scrutinee) (nodes_among arms) r)) (apart_all arms (base.rise_second g (nodes_of scrutinee) (nodes_among arms) r)) (keys_reached scrutinee (λ (k : ℕ). OfNodes (λ m. (k == m) ≡ false) (nodes_among arms)) (below_apart (nodes_of scrutinee) (nodes_among arms) (base.rise_across g (nodes_of scrutinee) (nodes_among arms) r))) (λ k q. keys_all arms (λ m. (k == m) ≡ false) q)
    apart_in (tree.Arm p guard inner) r = distinct_append (cells g.items true p ++ cells_if_any g.items true guard) (cells g.items false inner) (nodes_of inner) (distinct_append (cells g.items true p) (cells_if_any g.items true guard) (nodes_if_any guard) (apart_cells true p (base.rise_first g (nodes_of p) (nodes_if_any guard) (base.rise_first g (nodes_of p ++ nodes_if_any guard) (nodes_of inner) r))) (apart_any true guard (base.rise_second g (nodes_of p) (nodes_if_any guard) (base.rise_first g (nodes_of p ++ nodes_if_any guard) (nodes_of inner) r))) (keys_cells true p (λ (k : ℕ). OfNodes (λ m. (k == m) ≡ false) (nodes_if_any guard)) (below_apart (nodes_of p) (nodes_if_any guard) (base.rise_across g (nodes_of p) (nodes_if_any guard) (base.rise_first g (nodes_of p ++ nodes_if_any guard) (nodes_of inner) r)))) (λ k q. keys_any true guard (λ m. (k == m) ≡ false) q)) (apart_cells false inner (base.rise_second g (nodes_of p ++ nodes_if_any guard) (nodes_of inner) r)) (keys_append (λ (k : ℕ). OfNodes (λ m. (k == m) ≡ false) (nodes_of inner)) _ _ (keys_cells true p (λ (k : ℕ). OfNodes (λ m. (k == m) ≡ false) (nodes_of inner)) (nodes_first (λ (k : ℕ). OfNodes (λ m. (k == m) ≡ false) (nodes_of inner)) (nodes_of p) (nodes_if_any guard) (below_apart (nodes_of p ++ nodes_if_any guard) (nodes_of inner) (base.rise_across g (nodes_of p ++ nodes_if_any guard) (nodes_of inner) r)))) (keys_any true guard (λ (k : ℕ). OfNodes (λ m. (k == m) ≡ false) (nodes_of inner)) (nodes_second (λ (k : ℕ). OfNodes (λ m. (k == m) ≡ false) (nodes_of inner)) (nodes_of p) (nodes_if_any guard) (below_apart (nodes_of p ++ nodes_if_any guard) (nodes_of inner) (base.rise_across g (nodes_of p ++ nodes_if_any guard) (nodes_of inner) r))))) (λ k q. keys_cells false inner (λ m. (k == m) ≡ false) q)
    apart_in (tree.Loop inner) r = apart_cells true inner r
    apart_in (tree.While condition inner) r = distinct_append (cells g.items true condition) (cells g.items true inner) (nodes_of inner) (apart_cells true condition (base.rise_first g (nodes_of condition) (nodes_of inner) r)) (apart_cells true inner (base.rise_second g (nodes_of condition) (nodes_of inner) r)) (keys_cells true condition (λ (k : ℕ). OfNodes (λ m. (k == m) ≡ false) (nodes_of inner)) (below_apart (nodes_of condition) (nodes_of inner) (base.rise_across g (nodes_of condition) (nodes_of inner) r))) (λ k q. keys_cells true inner (λ m. (k == m) ≡ false) q)
    apart_in (tree.WhileLet p scrutinee inner) r = distinct_append (cells g.items true p ++ reached_cells g.items scrutinee) (cells g.items true inner) (nodes_of inner) (distinct_append (cells g.items true p) (reached_cells g.items scrutinee) (nodes_of scrutinee) (apart_cells true p (base.rise_first g (nodes_of p) (nodes_of scrutinee) (base.rise_first g (nodes_of p ++ nodes_of scrutinee) (nodes_of inner) r))) (apart_reached scrutinee (base.rise_second g (nodes_of p) (nodes_of scrutinee) (base.rise_first g (nodes_of p ++ nodes_of scrutinee) (nodes_of inner) r))) (keys_cells true p (λ (k : ℕ). OfNodes (λ m. (k == m) ≡ false) (nodes_of scrutinee)) (below_apart (nodes_of p) (nodes_of scrutinee) (base.rise_across g (nodes_of p) (nodes_of scrutinee) (base.rise_first g (nodes_of p ++ nodes_of scrutinee) (nodes_of inner) r)))) (λ k q. keys_reached scrutinee (λ m. (k == m) ≡ false) q)) (apart_cells true inner (base.rise_second g (nodes_of p ++ nodes_of scrutinee) (nodes_of inner) r)) (keys_append (λ (k : ℕ). OfNodes (λ m. (k == m) ≡ false) (nodes_of inner)) _ _ (keys_cells true p (λ (k : ℕ). OfNodes (λ m. (k == m) ≡ false) (nodes_of inner)) (nodes_first (λ (k : ℕ). OfNodes (λ m. (k == m) ≡ false) (nodes_of inner)) (nodes_of p) (nodes_of scrutinee) (below_apart (nodes_of p ++ nodes_of scrutinee) (nodes_of inner) (base.rise_across g (nodes_of p ++ nodes_of scrutinee) (nodes_of inner) r)))) (keys_reached scrutinee (λ (k : ℕ). OfNodes (λ m. (k == m) ≡ false) (nodes_of inner)) (nodes_second (λ (k : ℕ). OfNodes (λ m. (k == m) ≡ false) (nodes_of inner)) (nodes_of p) (nodes_of scrutinee) (below_apart (nodes_of p ++ nodes_of scrutinee) (nodes_of inner) (base.rise_across g (nodes_of p ++ nodes_of scrutinee) (nodes_of inner) r))))) (λ k q. keys_cells true inner (λ m. (k == m) ≡ false) q)
    apart_in (tree.Break loop value_) r = apart_any false value_ r
    apart_in (tree.Return value_) r = apart_any false value_ r
    apart_in (tree.StructPattern fields) r = apart_fields fields r
    apart_in (tree.VariantPattern variant is_test fields) r = apart_fields fields r
    apart_in (tree.TuplePattern parts) r = apart_all parts r
    apart_in (tree.ArrayPattern elements) r = apart_all elements r
    apart_in (tree.OrPattern alternatives) r = apart_all alternatives r
    apart_in other r = tt

    apart_all : (ns : Nodes) → base.Rise g (nodes_among ns) → Distinct (all_cells g.items ns)
    apart_all no_node r = tt
    apart_all (a_node first rest) r =
        distinct_append (cells g.items true first) (all_cells g.items rest) (nodes_among rest) (apart_cells true first (base.rise_first g (nodes_of first) (nodes_among rest) r)) (apart_all rest (base.rise_second g (nodes_of first) (nodes_among rest) r))
        (keys_cells true first (λ k. OfNodes (λ m. (k == m) ≡ false) (nodes_among rest)) (below_apart (nodes_of first) (nodes_among rest) (base.rise_across g (nodes_of first) (nodes_among rest) r))) (λ k q. keys_all rest (λ m. (k == m) ≡ false) q)

    apart_fields : (fs : Fields) → base.Rise g (nodes_of_fields fs) → Distinct (cells_of_fields g.items fs)
    apart_fields no_field r = tt
    apart_fields (a_field number value rest) r =
        distinct_append (cells g.items true value) (cells_of_fields g.items rest) (nodes_of_fields rest) (apart_cells true value (base.rise_first g (nodes_of value) (nodes_of_fields rest) r)) (apart_fields rest (base.rise_second g (nodes_of value) (nodes_of_fields rest) r))
        (keys_cells true value (λ k. OfNodes (λ m. (k == m) ≡ false) (nodes_of_fields rest)) (below_apart (nodes_of value) (nodes_of_fields rest) (base.rise_across g (nodes_of value) (nodes_of_fields rest) r))) (λ k q. keys_fields rest (λ m. (k == m) ≡ false) q)

    apart_any : (own : Bool) (n : MaybeNode) → base.Rise g (nodes_if_any n) → Distinct (cells_if_any g.items own n)
    apart_any own absent r = tt
    apart_any own (present value) r = apart_cells own value r

    apart_init : (p : Node) (n : MaybeNode) → base.Rise g (nodes_if_any n) → Distinct (initial_cells g.items p n)
    apart_init p absent r = tt
    apart_init (tree.node id at ty by (tree.Binding name)) (present value_) r = apart_cells false value_ r
    apart_init (tree.node id at ty by other) (present value_) r = apart_reached value_ r

  -- ---- parameters
  abbrev entry_of_param : ParamTree → Entry
  entry_of_param param = record { key = param_key param; ty = param.ty }

  abbrev cells_of_params : List ParamTree → List Entry
  cells_of_params [] = []
  cells_of_params (param ∷ params) = cells_in g.items (form_of param.pattern) ++ cells_of_params params

  in_pattern : (p : Node) (P : ℕ → Type 0) → OfNodes P (nodes_of p) → P (number_of p) × OfKeys P (cells_in g.items (form_of p))
  in_pattern (tree.node id at ty by form) P h = (h.0, keys_in form P h.1)

  inside : (p : Node) → base.Rise g (nodes_of p) → OfKeys (λ k. (number_of p == k) ≡ false) (cells_in g.items (form_of p)) × Distinct (cells_in g.items (form_of p))
  inside (tree.node id at ty by form) r = (keys_in form (λ k. (id == k) ≡ false) (over_apart id (nodes_in form) r.0), apart_in form r.1)

  keys_of_params : (params : List ParamTree) (P : ℕ → Type 0) → OfNodes P (param_nodes params) → OfKeys P (map entry_of_param params) × OfKeys P (cells_of_params params)
  keys_of_params [] P h = (tt, tt)
  keys_of_params (param ∷ params) P h =
      let one = in_pattern param.pattern P (nodes_first P (nodes_of param.pattern) (param_nodes params) h) in
      let more = keys_of_params params P (nodes_second P (nodes_of param.pattern) (param_nodes params) h) in
      ((one.0, more.0), keys_append P _ _ one.1 more.1)

  flipped : (es : List Entry) (k : ℕ) → OfKeys (λ m. (m == k) ≡ false) es → OfKeys (λ m. (k == m) ≡ false) es
  flipped [] k h = tt
  flipped (e ∷ es) k h = (names.differ_too e.key k h.0, flipped es k h.1)

  -- each key of some entries is apart from those of others
  abbrev AllApart : List Entry → List Entry → Type 0
  AllApart [] ys = Unit {0}
  AllApart (x ∷ xs) ys = OfKeys (λ k. (x.key == k) ≡ false) ys × AllApart xs ys

  joined_apart : (xs ys : List Entry) → Distinct xs → Distinct ys → AllApart xs ys → Distinct (xs ++ ys)
  joined_apart [] ys h k a = k
  joined_apart (x ∷ xs) ys h k a = (keys_joined x.key xs ys h.0 a.0, joined_apart xs ys h.1 k a.1)

  apart_both : (xs ys zs : List Entry) → AllApart xs ys → AllApart xs zs → AllApart xs (ys ++ zs)
  apart_both [] ys zs a b = tt
  apart_both (x ∷ xs) ys zs a b = (keys_joined x.key ys zs a.0 b.0, apart_both xs ys zs a.1 b.1)

  -- the keys of some are apart from each number of nodes that others have
  apart_nodes : (xs : List Entry) (ns : List Node) (ys : List Entry) → OfKeys (λ k. OfNodes (λ m. (k == m) ≡ false) ns) xs → ((k : ℕ) → OfNodes (λ m. (k == m) ≡ false) ns → OfKeys (λ m. (k == m) ≡ false) ys) → AllApart xs ys
  apart_nodes [] ns ys h all = tt
  apart_nodes (x ∷ xs) ns ys h all = (all x.key h.0, apart_nodes xs ns ys h.1 all)

  turned : (xs ys : List Entry) → AllApart xs ys → AllApart ys xs
  turned xs [] a = tt
  turned xs (y ∷ ys) a = (one xs a, turned xs ys (rest xs a))
    where
      one : (xs : List Entry) → AllApart xs (y ∷ ys) → OfKeys (λ k. (y.key == k) ≡ false) xs
      one [] a = tt
      one (x ∷ xs) a = (names.differ_too x.key y.key a.0.0, one xs a.1)

      rest : (xs : List Entry) → AllApart xs (y ∷ ys) → AllApart xs ys
      rest [] a = tt
      rest (x ∷ xs) a = (a.0.1, rest xs a.1)

  params_distinct : (params : List ParamTree) → base.Rise g (param_nodes params) → Distinct (map entry_of_param params) × Distinct (cells_of_params params) × AllApart (map entry_of_param params) (cells_of_params params)
  params_distinct [] r = (tt, tt, tt)
  params_distinct (param ∷ params) r =
      let p = param.pattern in
      let here = inside p (base.rise_first g (nodes_of p) (param_nodes params) r) in
      let more = params_distinct params (base.rise_second g (nodes_of p) (param_nodes params) r) in
      let across = in_pattern p (λ k. OfNodes (λ m. (k == m) ≡ false) (param_nodes params)) (below_apart (nodes_of p) (param_nodes params) (base.rise_across g (nodes_of p) (param_nodes params) r)) in
      let others = λ (k : ℕ) (q : OfNodes (λ m. (k == m) ≡ false) (param_nodes params)). keys_of_params params (λ m. (k == m) ≡ false) q in
      let in_others = apart_nodes (cells_in g.items (form_of p)) (param_nodes params) (cells_of_params params) across.1 (λ k q. (others k q).1) in
      let of_others = apart_nodes (cells_in g.items (form_of p)) (param_nodes params) (map entry_of_param params) across.1 (λ k q. (others k q).0) in (
        ((others (number_of p) across.0).0, more.0),
        joined_apart (cells_in g.items (form_of p)) (cells_of_params params) here.1 more.1 in_others,
        (
          keys_joined (number_of p) (cells_in g.items (form_of p)) (cells_of_params params) here.0 (others (number_of p) across.0).1,
          apart_both (map entry_of_param params) (cells_in g.items (form_of p)) (cells_of_params params) (turned (cells_in g.items (form_of p)) (map entry_of_param params) of_others) more.2,
        ),
      )

  pub all_distinct : (body : BodyTree) → base.Rise g (body_nodes body) → Distinct (locals g.items body)
  all_distinct body r = of_block body.block (base.rise_first g (param_nodes body.params) (nodes_of body.block) r) (base.rise_second g (param_nodes body.params) (nodes_of body.block) r) (base.rise_across g (param_nodes body.params) (nodes_of body.block) r)
    where
      of_block : (block : Node) → base.Rise g (param_nodes body.params) → base.Rise g (nodes_of block) → base.Below g (param_nodes body.params) (nodes_of block) → Distinct ((record { key = number_of block; ty = body.answer }) ∷ (map entry_of_param body.params ++ cells_of_params body.params) ++ cells_in g.items (form_of block))
      of_block (tree.node id at ty by form) rp rb across =
          let ps = params_distinct body.params rp in
          let n = tree.node id at ty by form in
          let P = λ (k : ℕ). OfNodes (λ m. (k == m) ≡ false) (nodes_of n) in
          let away = keys_of_params body.params P (below_apart (param_nodes body.params) (nodes_of n) across) in
          let outer = map entry_of_param body.params ++ cells_of_params body.params in
          let keys = keys_append P (map entry_of_param body.params) (cells_of_params body.params) away.0 away.1 in (
            keys_joined id outer (cells_in g.items form) (flipped outer id (heads outer keys)) (keys_in form (λ k. (id == k) ≡ false) (over_apart id (nodes_in form) rb.0)),
            joined_apart outer (cells_in g.items form) (joined_apart (map entry_of_param body.params) (cells_of_params body.params) ps.0 ps.1 ps.2) (apart_in form rb.1)
                (apart_nodes outer (nodes_of n) (cells_in g.items form) keys (λ k q. keys_in form (λ m. (k == m) ≡ false) q.1)),
          )
        where
          heads : (es : List Entry) → OfKeys (λ k. OfNodes (λ m. (k == m) ≡ false) (tree.node id at ty by form ∷ nodes_in form)) es → OfKeys (λ m. (m == id) ≡ false) es
          heads [] h = tt
          heads (e ∷ es) h = (h.0.0, heads es h.1)

-- ---- a key finds its cell
found_at : (P : ℕ → Type 0) (es : List Entry) (i : ℕ) (e : Entry) → slice_get es i ≡ Some e → OfKeys P es → P e.key
found_at P [] i e is h = absurd (none-some e is)
found_at P (x ∷ es) zero e is h = subst (λ (z : Entry). P z.key) (same_Some x e is) h.0
found_at P (x ∷ es) (suc i) e is h = found_at P es i e is h.1

slot : (es : List Entry) (i : ℕ) (e : Entry) → slice_get es i ≡ Some e → Distinct es → position_or_len (λ k. k == e.key) (map (λ e. e.key) es) ≡ i
slot [] i e is d = absurd (none-some e is)
slot (x ∷ es) zero e is d = ap (λ (b : Bool). cond (not b) (1 + position_or_len (λ k. k == e.key) (map (λ e. e.key) es)) 0) (names.equal_too x.key e.key (ap (λ (z : Entry). z.key) (same_Some x e is)))
slot (x ∷ es) (suc i) e is d =
    ap (λ (b : Bool). cond (not b) (1 + position_or_len (λ k. k == e.key) (map (λ e. e.key) es)) 0) (found_at (λ k. (x.key == k) ≡ false) es i e is d.0)
    ∙ (let again = slot es i e is d.1 in let on : 1 + position_or_len (λ k. k == e.key) (map (λ e. e.key) es) ≡ suc i = omega (again, arith) in on)

pub finds : (es : List Entry) (i : ℕ) (e : Entry) → slice_get es i ≡ Some e → Distinct es → slice_get (map (λ e. e.ty) es) (local_among (map (λ e. e.key) es) e.key) ≡ Some e.ty
finds es i e is d =
    let within = lt-ltb i (length (map (λ e. e.key) es)) (slice_get_within (map (λ e. e.key) es) i e.key (slice_get-map (λ e. e.key) es i ∙ ap (option_map (λ (e : Entry). e.key)) is)) in
    ap (λ (k : ℕ). slice_get (map (λ e. e.ty) es) (option_map_or (λ n. n) (if nat_lt k (length (map (λ e. e.key) es)) then Some k else None) (length (map (λ e. e.key) es) + e.key))) (slot es i e is d)
    ∙ ap (λ (b : Bool). slice_get (map (λ e. e.ty) es) (option_map_or (λ n. n) (if b then Some i else None) (length (map (λ e. e.key) es) + e.key))) within
    ∙ slice_get-map (λ e. e.ty) es i ∙ ap (option_map (λ (e : Entry). e.ty)) is
