-- Calls, and the making of tuples, arrays, structs, variants, closures and boxes, do with cells what is well, given
-- that the nodes inside do.
use Rattle.std.proofs.Common.{◌≡◌, ℕ, ◌==◌, not, true, List, [], ◌∷◌, Option, slice_get, refl, sym, ◌∙◌, subst, ◌&&◌, length}
use Rattle.std.specs.Prelude.{replicate}
use Rattle.std.proofs.lemmas.Bool.Decides.{Decides-eqb}
use Rattle.mir_ty.specs.declared.ty.TyId.{TyId}
use Rattle.mir_ty.specs.ItemTable.{ItemTable, type_at}
use Rattle.store_model.specs.Effects as effects
use Rattle.store_model.specs.Effects.{OfTuple, OfArray, OfVariant, OfClosure}
use Rattle.typed_tree.specs.declared.node.Use.{Use}
use Rattle.typed_tree.specs.Tree as tree
use Rattle.typed_tree.specs.Tree.{Node, Form, Nodes, a_node, Fields, BodyTree}
use Rattle.src_meaning.specs.Evaluation.{meaning, meaning_of, meanings, fields_of, values_of, in_number_order}
use Rattle.src_meaning.specs.Forms.{Meaning, moved, all_moved, is_never}
use Rattle.src_meaning.specs.Locals.OfBody.{cells, cells_in, all_cells}
use Rattle.src_meaning.specs.Scopes.{Entry}
use Rattle.src_meaning.specs.Shape.{head, shape_of}
use Rattle.well_typed.specs.Claim.{Holds, fact, both, some}
use Rattle.well_typed.specs.Nodes as typing
use Rattle.well_typed.specs.Patterns as patterns
use Rattle.well_typed.specs.Places.{Context, Wanted, Passed}
use Rattle.well_typed.specs.Types as types
use Rattle.soundness_values.proofs.Checked.{Checking}
use Rattle.soundness_values.proofs.Facts.{Facts}
use Rattle.soundness_cells.proofs.PassCellActs as acts
use Rattle.soundness_cells.proofs.PassCellActs.{Cell}
use Rattle.soundness_cells.proofs.PassCellEffects.{marked_run}
use Rattle.soundness_cells.proofs.PassCellNodes as nodes
use Rattle.soundness_cells.proofs.PassCellNodes.{Well, Own, AllOwn}
use Rattle.soundness_cells.proofs.PassCellPatterns.{Told, Has, made_of_never}
use Rattle.soundness_cells.proofs.PassCellTypes as facts
use Rattle.soundness_cells.proofs.PassFacts.{Standpoint, context}
use Rattle.soundness_values.proofs.PlaceTypes.{some_holds, same_type}
use Rattle.soundness_cells.proofs.PassCellStands as stand
use Rattle.soundness_cells.proofs.PassCellParts as at_nodes
use Rattle.well_typed.specs.Names.{are_distinct_numbers}
use Rattle.well_typed.specs.Patterns.{field_numbers}

module _ (items : ItemTable) (body : BodyTree) (told : Told items) (fuel : ℕ) where
  abbrev V : Type 0
  V = Checking Facts

  abbrev K : Standpoint → Context
  K = context items

  abbrev M : Node → Meaning V
  M = meaning items (marked_run items body) fuel

  abbrev Ms : Nodes → List (Meaning V)
  Ms = meanings items (marked_run items body) fuel

  abbrev Mf : Fields → List (ℕ × Meaning V)
  Mf = fields_of items (marked_run items body) fuel

  abbrev Of : Form → ℕ → TyId → Option Use → Meaning V
  Of form id ty by =
      meaning_of items (marked_run items body) fuel form (head id ty by) (shape_of items form (head id ty by))

  abbrev H : List Entry → Type 0
  H = Has items body

  abbrev W : Standpoint → Meaning V → Type 0
  W x = Well items body (K x)

  pub call_well : (callee : ℕ) (args : Nodes) (x : Standpoint) (id : ℕ) (ty : TyId) (by : Option Use) →
      Holds (typing.row (K x) id ty (tree.Call callee args)) →
      H (cells_in items (tree.Call callee args)) →
      (is_never items ty ≡ true → made_of_never (tree.Call callee args) ≡ true → Cell items body id ty) →
      AllOwn items body (K x) (Ms args) →
      W x (Of (tree.Call callee args) id ty by)
  call_well callee args x id ty by h k nv all_own =
      let t = some_holds (slice_get items.bodies callee)
      (λ sig. both (fact (types.is_same ty sig.result)) (typing.arguments (K x) sig.params args)) h.0 in
      let same = same_type ty t.0.result t.1.1.0 in
      nodes.operands_well items body fuel (K x) (head id ty by) (shape_of items (tree.Call callee args) (head id ty by))
      (Ms args)
      (λ site. effects.Call site callee (all_moved id (Ms args))) all_own
      (λ to g made. at_nodes.called_delivers items body told fuel (head id ty by)
      (λ site. effects.Call site callee (all_moved id (Ms args))) (λ n. nv n refl)
      (λ key c. acts.call_acts items body id key callee t.0 (Ms args) t.1.0 (subst (Cell items body key) same c)
      (told.results callee t.0 t.1.0) (stand.args_for items body told fuel t.0.params args x t.1.1.1 k
      (told.params callee t.0 t.1.0) made))
      (λ key m. m) to g)

  pub method_call_well : (callee : ℕ) (receiver : Node) (args : Nodes) (x : Standpoint) (id : ℕ) (ty : TyId)
      (by : Option Use) →
      Holds (typing.row (K x) id ty (tree.MethodCall callee receiver args)) →
      H (cells_in items (tree.MethodCall callee receiver args)) →
      (is_never items ty ≡ true → made_of_never (tree.MethodCall callee receiver args) ≡ true → Cell items body id ty) →
      ((want : TyId) → Holds (typing.typed (K x) (Passed want) receiver) → Own items body (K x) (M receiver)) →
      ((tys : List TyId) → Holds (typing.arguments (K x) tys args) → AllOwn items body (K x) (Ms args)) →
      W x (Of (tree.MethodCall callee receiver args) id ty by)
  method_call_well callee receiver args x id ty by h k nv own_receiver all_own =
      let t = some_holds (slice_get items.bodies callee)
      (λ sig. both (fact (types.is_same ty sig.result))
      (typing.first_and_rest (λ t. typing.typed (K x) (Passed t) receiver) (λ ts. typing.arguments (K x) ts args)
      sig.params)) h.0 in
      let same = same_type ty t.0.result t.1.1.0 in
      nodes.operands_well items body fuel (K x) (head id ty by)
      (shape_of items (tree.MethodCall callee receiver args) (head id ty by)) (M receiver ∷ Ms args)
      (λ site. effects.Call site callee (all_moved id (M receiver ∷ Ms args)))
      (stand.receiver_own items body told fuel t.0.params receiver args x t.1.1.1
      own_receiver
      all_own)
      (λ to g made. at_nodes.called_delivers items body told fuel (head id ty by)
      (λ site. effects.Call site callee (all_moved id (M receiver ∷ Ms args))) (λ n. nv n refl)
      (λ key c. acts.call_acts items body id key callee t.0 (M receiver ∷ Ms args) t.1.0
      (subst (Cell items body key) same c)
      (told.results callee t.0 t.1.0)
      (stand.args_for items body told fuel t.0.params (a_node receiver args) x
      (stand.with_receiver items body told fuel t.0.params receiver args x t.1.1.1) k
      (told.params callee t.0 t.1.0) made)) (λ key m. m) to g)

  pub virtual_call_well : (trait_no : ℕ) (method : ℕ) (receiver : Node) (args : Nodes) (x : Standpoint) (id : ℕ)
      (ty : TyId) (by : Option Use) →
      Holds (typing.row (K x) id ty (tree.VirtualCall trait_no method receiver args)) →
      H (cells_in items (tree.VirtualCall trait_no method receiver args)) →
      (is_never items ty ≡ true → made_of_never (tree.VirtualCall trait_no method receiver args) ≡ true →
      Cell items body id ty) →
      ((want : TyId) → Holds (typing.typed (K x) (Passed want) receiver) → Own items body (K x) (M receiver)) →
      ((tys : List TyId) → Holds (typing.arguments (K x) tys args) → AllOwn items body (K x) (Ms args)) →
      W x (Of (tree.VirtualCall trait_no method receiver args) id ty by)
  virtual_call_well trait_no method receiver args x id ty by h k nv own_receiver all_own =
      let d = some_holds (slice_get items.traits trait_no)
      (λ def. some (slice_get def.methods method)
      (λ sig. both (fact (types.is_same ty sig.result))
      (typing.first_and_rest (λ t. typing.typed (K x) (Passed t) receiver) (λ ts. typing.arguments (K x) ts args)
      sig.params))) h in
      let t = some_holds (slice_get d.0.methods method)
      (λ sig. both (fact (types.is_same ty sig.result))
      (typing.first_and_rest (λ t. typing.typed (K x) (Passed t) receiver) (λ ts. typing.arguments (K x) ts args)
      sig.params)) d.1.1 in
      let same = same_type ty t.0.result t.1.1.0 in
      let m = told.methods trait_no method d.0 t.0 d.1.0 t.1.0 in
      nodes.operands_well items body fuel (K x) (head id ty by)
      (shape_of items (tree.VirtualCall trait_no method receiver args) (head id ty by)) (M receiver ∷ Ms args)
      (λ site. effects.CallVirtual site trait_no method (all_moved id (M receiver ∷ Ms args)))
      (stand.receiver_own items body told fuel t.0.params receiver args x t.1.1.1
      own_receiver
      all_own)
      (λ to g made. at_nodes.called_delivers items body told fuel (head id ty by)
      (λ site. effects.CallVirtual site trait_no method (all_moved id (M receiver ∷ Ms args))) (λ n. nv n refl)
      (λ key c. acts.virtual_acts items body id key trait_no method d.0 t.0 (M receiver ∷ Ms args) d.1.0 t.1.0
      (subst (Cell items body key) same c) m.0
      (stand.args_for items body told fuel t.0.params (a_node receiver args) x
      (stand.with_receiver items body told fuel t.0.params receiver args x t.1.1.1) k m.1 made))
      (λ key m. m) to g)

  pub closure_call_well : (callee : ℕ) (inside : Node) (args : Nodes) (x : Standpoint) (id : ℕ) (ty : TyId)
      (by : Option Use) →
      Holds (typing.row (K x) id ty (tree.ClosureCall callee inside args)) →
      H (cells_in items (tree.ClosureCall callee inside args)) →
      (is_never items ty ≡ true → made_of_never (tree.ClosureCall callee inside args) ≡ true → Cell items body id ty) →
      ((want : TyId) → Holds (typing.typed (K x) (Passed want) inside) → Own items body (K x) (M inside)) →
      ((tys : List TyId) → Holds (typing.arguments (K x) tys args) → AllOwn items body (K x) (Ms args)) →
      W x (Of (tree.ClosureCall callee inside args) id ty by)
  closure_call_well callee inside args x id ty by h k nv own_inside all_own =
      let t = some_holds (slice_get items.bodies callee)
      (λ sig. both (fact (types.is_same ty sig.result))
      (typing.first_and_rest (λ t. typing.typed (K x) (Passed t) inside) (λ ts. typing.arguments (K x) ts args)
      sig.params)) h.0 in
      let same = same_type ty t.0.result t.1.1.0 in
      nodes.operands_well items body fuel (K x) (head id ty by)
      (shape_of items (tree.ClosureCall callee inside args) (head id ty by)) (M inside ∷ Ms args)
      (λ site. effects.Call site callee (all_moved id (M inside ∷ Ms args)))
      (stand.receiver_own items body told fuel t.0.params inside args x t.1.1.1
      own_inside
      all_own)
      (λ to g made. at_nodes.called_delivers items body told fuel (head id ty by)
      (λ site. effects.Call site callee (all_moved id (M inside ∷ Ms args))) (λ n. nv n refl)
      (λ key c. acts.call_acts items body id key callee t.0 (M inside ∷ Ms args) t.1.0
      (subst (Cell items body key) same c)
      (told.results callee t.0 t.1.0)
      (stand.args_for items body told fuel t.0.params (a_node inside args) x
      (stand.with_receiver items body told fuel t.0.params inside args x t.1.1.1) k
      (told.params callee t.0 t.1.0) made)) (λ key m. m) to g)

  pub make_well : (adt : ℕ) (variant : ℕ) (fields : Fields) (x : Standpoint) (id : ℕ) (ty : TyId) (by : Option Use) →
      Holds (typing.row (K x) id ty (tree.Make adt variant fields)) →
      H (cells_in items (tree.Make adt variant fields)) → AllOwn items body (K x) (values_of (Mf fields)) →
      W x (Of (tree.Make adt variant fields) id ty by)
  make_well adt variant fields x id ty by h k all_own =
      let a = facts.adt_by (type_at items ty) adt h.0 in
      let t = some_holds (types.variant_at items adt variant) (λ v. both
      (fact (are_distinct_numbers (field_numbers fields) && length (field_numbers fields) == length v.fields))
      (typing.made_fields (K x) v.fields fields)) h.1 in
      let v = told.variants adt variant t.0 t.1.0 in
      nodes.operands_well items body fuel (K x) (head id ty by)
      (shape_of items (tree.Make adt variant fields) (head id ty by)) (values_of (Mf fields))
      (λ site. effects.Build site (OfVariant adt variant) (all_moved id (values_of (in_number_order (Mf fields)))))
      all_own
      (λ to g made. at_nodes.sorted_delivers items body told fuel (head id ty by)
      (λ site. effects.Build site (OfVariant adt variant) (all_moved id (values_of (in_number_order (Mf fields))))) a.1
      (λ key c. acts.variant_acts items body id key adt variant ty t.0.fields
      (all_moved id (values_of (in_number_order (Mf fields)))) c a.1.0 a.0 v.0 v.1.0
      (acts.all_cells items body id t.0.fields (values_of (in_number_order (Mf fields)))
      (stand.ordered_in items body told fuel t.0.fields fields x t.1.1.0 t.1.1.1 k v.1.1 made))) (λ key m. m) to g)

  pub tuple_well : (parts : Nodes) (x : Standpoint) (id : ℕ) (ty : TyId) (by : Option Use) →
      Holds (typing.row (K x) id ty (tree.Tuple parts)) →
      H (cells_in items (tree.Tuple parts)) →
      AllOwn items body (K x) (Ms parts) →
      W x (Of (tree.Tuple parts) id ty by)
  tuple_well parts x id ty by h k all_own =
      let t = some_holds (types.tuple_of items ty) (λ tys. typing.made_parts (K x) tys parts) h in
      let s = facts.tuple_by (type_at items ty) t.0 t.1.0 in
      nodes.operands_well items body fuel (K x) (head id ty by) (shape_of items (tree.Tuple parts) (head id ty by))
      (Ms parts)
      (λ site. effects.Build site OfTuple (all_moved id (Ms parts))) all_own
      (λ to g made. at_nodes.sorted_delivers items body told fuel (head id ty by)
      (λ site. effects.Build site OfTuple (all_moved id (Ms parts))) s.1
      (λ key c. acts.tuple_acts items body id key ty t.0 (all_moved id (Ms parts)) c s.1.0 s.0
      (acts.all_cells items body id t.0 (Ms parts)
      (stand.parts_in items body told fuel t.0 parts x t.1.1 k (told.tuples ty t.0 t.1.0) made)))
      (λ key m. m) to g)

  pub array_well : (elements : Nodes) (x : Standpoint) (id : ℕ) (ty : TyId) (by : Option Use) →
      Holds (typing.row (K x) id ty (tree.Array elements)) →
      H (cells_in items (tree.Array elements)) →
      AllOwn items body (K x) (Ms elements) →
      W x (Of (tree.Array elements) id ty by)
  array_well elements x id ty by h k all_own =
      let t = some_holds (types.array_of items ty) (λ a. both
      (fact (patterns.count_of elements == a.1)) (typing.elements_of (K x) a.0 elements)) h in
      let s = facts.array_by (type_at items ty) t.0 t.1.0 in
      let n = (Decides-eqb (patterns.count_of elements) t.0.1).0 t.1.1.0 in
      nodes.operands_well items body fuel (K x) (head id ty by) (shape_of items (tree.Array elements) (head id ty by))
      (Ms elements)
      (λ site. effects.Build site OfArray (all_moved id (Ms elements))) all_own
      (λ to g made. at_nodes.sorted_delivers items body told fuel (head id ty by)
      (λ site. effects.Build site OfArray (all_moved id (Ms elements))) s.1
      (λ key c. acts.array_acts items body id key ty t.0.0 t.0.1 (all_moved id (Ms elements)) c s.1.0 s.0
      (acts.all_cells items body id (replicate t.0.1 t.0.0) (Ms elements)
      (subst (λ n. acts.InCells items body (replicate n t.0.0) (Ms elements)) n
      (stand.elements_in items body told fuel t.0.0 elements x t.1.1.1 k (told.arrays ty t.0 t.1.0) made))))
      (λ key m. m) to g)

  pub closure_well : (closure : ℕ) (captures : Nodes) (x : Standpoint) (id : ℕ) (ty : TyId) (by : Option Use) →
      Holds (typing.row (K x) id ty (tree.Closure closure captures)) →
      H (cells_in items (tree.Closure closure captures)) →
      AllOwn items body (K x) (Ms captures) →
      W x (Of (tree.Closure closure captures) id ty by)
  closure_well closure captures x id ty by h k all_own =
      let t = some_holds (slice_get items.closures closure) (λ def. typing.captured (K x) def.captures captures) h.1 in
      let s = facts.closure_by (type_at items ty) closure h.0 in
      nodes.operands_well items body fuel (K x) (head id ty by)
      (shape_of items (tree.Closure closure captures) (head id ty by)) (Ms captures)
      (λ site. effects.Build site (OfClosure closure) (all_moved id (Ms captures)))
      all_own
      (λ to g made. at_nodes.sorted_delivers items body told fuel (head id ty by)
      (λ site. effects.Build site (OfClosure closure) (all_moved id (Ms captures))) s.1
      (λ key c. acts.closure_acts items body id key ty closure t.0 (all_moved id (Ms captures)) c s.1.0 s.0 t.1.0
      (acts.all_cells items body id t.0.captures (Ms captures)
      (stand.captures_in items body told fuel t.0.captures captures x t.1.1 k (told.captures closure t.0 t.1.0) made)))
      (λ key m. m) to g)

  pub new_box_well : (content : Node) (x : Standpoint) (id : ℕ) (ty : TyId) (by : Option Use) →
      Holds (typing.row (K x) id ty (tree.NewBox content)) →
      H (cells_in items (tree.NewBox content)) →
      Own items body (K x) (M content) →
      W x (Of (tree.NewBox content) id ty by)
  new_box_well content x id ty by h k own_content =
      let t = some_holds (types.boxed_of items ty)
      (λ inside. both (typing.typed (K x) (Wanted inside) content) (fact (not (types.is_dyn items inside)))) h in
      let s = facts.boxed_by (type_at items ty) t.0 t.1.0 in
      let d = stand.own_dest items body told fuel content x (Wanted t.0) t.1.1.0 k in
      nodes.operands_well items body fuel (K x) (head id ty by) (shape_of items (tree.NewBox content) (head id ty by))
      (M content ∷ [])
      (λ site. effects.NewBox site (moved id (M content).head.id)) (own_content, tt)
      (λ to g made. let e = facts.is_false (types.is_dyn items t.0) t.1.1.1 in
      at_nodes.sorted_delivers items body told fuel (head id ty by)
      (λ site. effects.NewBox site (moved id (M content).head.id)) s.1
      (λ key c. acts.new_box_acts items body id key (M content).head.id ty t.0 c
      (stand.fitting_cell items body told fuel content t.0 d made.0
      (stand.wanted_fits items body told fuel x t.0 content t.1.1.0)) s.1.0
      (facts.neither_alone items t.0 (told.boxes ty t.0 t.1.0) e) (sym (facts.dyn_by (type_at items t.0)) ∙ e) s.0)
      (λ key m. m) to g)
