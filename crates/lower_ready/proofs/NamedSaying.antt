-- What is to be known of each call of a body whose program is well typed and breaks no rule of borrows, from what the
-- rules of typing say of the argument that makes the reference.
use Rattle.std.proofs.Common.{◌≡◌, ◌⊎◌, inl, inr, ℕ, ◌==◌, true, false, List, [], ◌∷◌, ◌++◌, Option, slice_get, refl}
use Rattle.std.proofs.lemmas.Bool.{false≢true}
use Rattle.mir_ty.specs.declared.def.Sig.{Sig}
use Rattle.mir_ty.specs.declared.def.TraitDef.{TraitDef}
use Rattle.mir_ty.specs.declared.ty.TyId.{TyId}
use Rattle.mir_ty.specs.ItemTable.{ItemTable}
use Rattle.store_model.specs.Places.Place.{Place}
use Rattle.cfg_graph.specs.declared.graph.Body.{Body}
use Rattle.typed_tree.specs.Nodes.{number_of, nodes_of, nodes_among}
use Rattle.typed_tree.specs.Tree as tree
use Rattle.typed_tree.specs.Tree.{Node, node, Nodes, no_node, a_node, BodyTree}
use Rattle.src_meaning.specs.Locals.Effects.{place_at}
use Rattle.src_meaning.specs.Locals.OfBody.{local_of}
use Rattle.src_meaning.specs.Shape as shapes
use Rattle.typing_rules.specs.Accesses as rules
use Rattle.typing_rules.specs.Accesses.{Argument, all_told, arguments, argument, receiver_of, told, conflicting, conflicts_among, ◌⊕◌}
use Rattle.well_typed.specs.Claim.{Holds, fact, both, some}
use Rattle.well_typed.specs.Nodes as typing
use Rattle.well_typed.specs.Places.{Passed, form_of, is_borrow}
use Rattle.well_typed.specs.Types as types
use Rattle.soundness_cells.proofs.PassCells.{NodeIn, node_left, node_right}
use Rattle.soundness_frame.proofs.PassConflicts.{rest_apart}
use Rattle.soundness_cells.proofs.PassFacts.{Standpoint, context, beside}
use Rattle.soundness_frame.proofs.PassFrameBodies.{any_place}
use Rattle.soundness_frame.proofs.PassTold as told_here
use Rattle.soundness_frame.proofs.PassTold.{ids, KnownOf, Here, Told}
use Rattle.soundness_frame.proofs.PassToldBelow.{Saying}
use Rattle.soundness_values.proofs.PlaceTypes.{some_holds}
use Rattle.lower_ready.proofs.NamedArgs as args_of
use Rattle.lower_ready.proofs.NamedArgs.{own_node}
use Rattle.lower_ready.proofs.NamedPassing as passing

module _ (items : ItemTable) (body_tree : BodyTree) (body : Body) (local : ℕ) (named : Place)
    (Of : KnownOf) where
  abbrev lo : ℕ → ℕ
  lo = local_of items body_tree

  -- what is asked of the tree
  pub record CallFacts : Type 0 where
    -- what is passed in the local is a borrow
    pub borrows : (x : Standpoint) (first : Node) (ty : TyId) → Of.node first →
        Holds (typing.typed (context items x) (Passed ty) first) → (lo (number_of first) == local) ≡ true →
        is_borrow (form_of first) ≡ true
    -- the callee of a closure is not made there
    pub callees : (x : Standpoint) (id : ℕ) (ty : TyId) (callee : ℕ) (value : Node) (args : Nodes) → Of.node value →
        Holds (typing.row (context items x) id ty (tree.ClosureCall callee value args)) →
        (lo (number_of value) == local) ≡ false

  module _ (facts : CallFacts) (aliases : rules.Aliases) (places : shapes.Aliases) (x : Standpoint)
      (whole : List Node) (around : Here items any_place Of aliases places x whole) where
    abbrev AllSeen : Nodes → Type 0
    AllSeen = args_of.AllSeen items body_tree body local named Of aliases places x whole around

    abbrev Unpassed : Nodes → Type 0
    Unpassed = passing.Unpassed items body_tree body local named

    abbrev Found : Nodes → Type 0
    Found = args_of.Found items body_tree body local named Of aliases places x whole around

    abbrev Inside : Nodes → Type 0
    Inside args = (m : Node) → NodeIn (nodes_among args) m → NodeIn whole m

    abbrev refers_of : Node → Option rules.Referring
    refers_of = args_of.refers_of items body_tree body local named Of aliases places x whole around

    refers_so : (first : Node) → (argument aliases first).refers ≡ refers_of first
    refers_so (node id at ty by form) = refl

    receiver_so : (first : Node) (c : rules.CollectedAccesses) → (receiver_of aliases first c).refers ≡ refers_of first
    receiver_so (node id at ty by form) c = refl

    seen_args : (args : Nodes) (tys : List TyId) → Here items any_place Of aliases places x (nodes_among args) →
        Inside args → Holds (typing.arguments (context items x) tys args) →
        Told items any_place Of aliases (all_told (arguments aliases args)) →
        conflicts_among (arguments aliases args) ≡ [] → AllSeen args
    seen_args no_node tys here inside typed t none = tt
    seen_args (a_node first rest) [] here inside typed t none = absurd (false≢true typed)
    seen_args (a_node first rest) (ty ∷ tys) here inside typed t none = (
      λ e. facts.borrows x first ty (around.all first (inside first
          (node_left (nodes_of first) (nodes_among rest) first (own_node first)))) typed.0 e,
      seen_args rest tys
          (told_here.here_right items any_place Of aliases places x (nodes_of first) (nodes_among rest) here)
          (λ m i. inside m (node_right (nodes_of first) (nodes_among rest) m i)) typed.1
          (told_here.told_right items any_place Of aliases (argument aliases first).told
          (all_told (arguments aliases rest)) t)
          (rest_apart (argument aliases first) (arguments aliases rest) none),
    )

    said : (args : Nodes) → Inside args → Unpassed args ⊎ Found args →
        Unpassed args ⊎ passing.Passed items body_tree body local named places (ids x) args
    said args inside (inl u) = inl u
    said args inside (inr f) = inr (place_at lo f.from, f.passed)

    args_say : (args : Nodes) (tys : List TyId) → Here items any_place Of aliases places x (nodes_among args) →
        Inside args → Holds (typing.arguments (context items x) tys args) →
        Told items any_place Of aliases (all_told (arguments aliases args)) →
        conflicts_among (arguments aliases args) ≡ [] → Unpassed args ⊎ Found args
    args_say args tys here inside typed t none =
        args_of.found items body_tree body local named Of aliases places x whole around args tys here inside
        typed t none
        (seen_args args tys here inside typed t none)

    -- with a receiver
    receiver_says : (receiver : Node) (args : Nodes) (tys : List TyId) (ty : TyId) →
        Here items any_place Of aliases places x (nodes_of receiver ++ nodes_among args) →
        Inside (a_node receiver args) → Holds (typing.typed (context items x) (Passed ty) receiver) →
        Holds (typing.arguments (context items x) tys args) → (own : Argument) → own.refers ≡ refers_of receiver →
        Told items any_place Of aliases (all_told (arguments aliases args)) →
        conflicts_among (own ∷ arguments aliases args) ≡ [] → Unpassed (a_node receiver args) ⊎ Found
        (a_node receiver args)
    receiver_says receiver args tys ty here inside typed others own refers t none =
        let rest_here = told_here.here_right items any_place Of aliases places x (nodes_of receiver)
        (nodes_among args) here
        in
        let rest_inside : Inside args = λ m i. inside m (node_right (nodes_of receiver) (nodes_among args) m i) in
        let rest_none = rest_apart own (arguments aliases args) none in
        let seen = seen_args args tys rest_here rest_inside others t rest_none in
        args_of.found_first items body_tree body local named Of aliases places x whole around own receiver args
        tys ty
        here inside typed others t refers none (
          λ e. facts.borrows x receiver ty (around.all receiver (inside receiver
              (node_left (nodes_of receiver) (nodes_among args) receiver (own_node receiver)))) typed e,
          seen,
        ) (args_say args tys rest_here rest_inside others t rest_none)

    -- the callee of a closure, which is no reference
    callee_says : (callee : Node) (args : Nodes) →
        Here items any_place Of aliases places x (nodes_of callee ++ nodes_among args) →
        Inside (a_node callee args) → (lo (number_of callee) == local) ≡ false →
        Unpassed args ⊎ Found args → Unpassed (a_node callee args) ⊎ Found (a_node callee args)
    callee_says callee args here inside other (inl u) = inl (other, u)
    callee_says callee args here inside other (inr f) =
        inr (args_of.found_behind items body_tree body local named Of aliases places x whole around callee args
        here inside f)

  -- ---- the forms

  module _ (facts : CallFacts) where
    by_params : (aliases : rules.Aliases) (places : shapes.Aliases) (x : Standpoint) (receiver : Node) (args : Nodes)
        (params : List TyId) →
        Holds (typing.first_and_rest (λ t. typing.typed (context items x) (Passed t) receiver)
        (λ ts. typing.arguments (context items x) ts args) params) →
        (ty : TyId) × ((tys : List TyId) × (Holds (typing.typed (context items x) (Passed ty) receiver)
        × Holds (typing.arguments (context items x) tys args)))
    by_params aliases places x receiver args [] h = absurd (false≢true h)
    by_params aliases places x receiver args (ty ∷ tys) h = (ty, (tys, h))

    -- of a receiver and arguments
    of_receiver : (receiver : Node) (args : Nodes) (params : List TyId) (aliases : rules.Aliases)
        (places : shapes.Aliases) (x : Standpoint)
        (g : Here items any_place Of aliases places x (nodes_of receiver ++ nodes_among args)) →
        Holds (typing.first_and_rest (λ t. typing.typed (context items x) (Passed t) receiver)
        (λ ts. typing.arguments (context items x) ts args) params) →
        Told items any_place Of aliases (rules.passed_together
        (receiver_of aliases receiver (told aliases receiver) ∷ arguments aliases args)) →
        passing.Unpassed items body_tree body local named (a_node receiver args)
        ⊎ passing.Passed items body_tree body local named places (ids x) (a_node receiver args)
    of_receiver receiver args params aliases places x g h t =
        let k = by_params aliases places x receiver args params h in
        let own = receiver_of aliases receiver (told aliases receiver) in
        let u = told_here.told_left items any_place Of aliases (all_told (own ∷ arguments aliases args))
        (conflicting (conflicts_among (own ∷ arguments aliases args))) t in
        let v = told_here.told_right items any_place Of aliases (all_told (own ∷ arguments aliases args))
        (conflicting (conflicts_among (own ∷ arguments aliases args))) t in
        said facts aliases places x (nodes_of receiver ++ nodes_among args) g (a_node receiver args) (λ m i. i)
        (receiver_says facts aliases places x (nodes_of receiver ++ nodes_among args) g receiver args k.1.0 k.0 g
        (λ m i. i) k.1.1.0 k.1.1.1 own
        (receiver_so facts aliases places x (nodes_of receiver ++ nodes_among args) g receiver (told aliases receiver))
        (told_here.told_right items any_place Of aliases own.told (all_told (arguments aliases args)) u) v.1)

    pub says : Saying items any_place Of (passing.Says items body_tree body local named)
    says (tree.Call callee args) id at ty by aliases places x o g h t =
        let inner = told_here.here_beside items any_place Of aliases places x
        (node id at ty by (tree.Call callee args)) (nodes_among args) o in
        let s = some_holds (slice_get items.bodies callee)
        (λ (sig : Sig). both (fact (types.is_same ty sig.result)) (typing.arguments
        (context items (beside id x)) sig.params args)) h.0 in
        let u = told_here.told_left items any_place Of aliases (all_told (arguments aliases args))
        (conflicting (conflicts_among (arguments aliases args))) t in
        let v = told_here.told_right items any_place Of aliases (all_told (arguments aliases args))
        (conflicting (conflicts_among (arguments aliases args))) t in
        said facts aliases places (beside id x) (nodes_among args) inner args (λ m i. i)
        (args_say facts aliases places (beside id x) (nodes_among args) inner args s.0.params inner (λ m i. i) s.1.1.1 u
        v.1)
    says (tree.MethodCall callee receiver args) id at ty by aliases places x o g h t =
        let inner = told_here.here_beside items any_place Of aliases places x
        (node id at ty by (tree.MethodCall callee receiver args)) (nodes_of receiver ++ nodes_among args) o in
        let s = some_holds (slice_get items.bodies callee) (λ (sig : Sig). both (fact (types.is_same ty sig.result))
        (typing.first_and_rest (λ t. typing.typed (context items (beside id x)) (Passed t) receiver)
        (λ ts. typing.arguments (context items (beside id x)) ts args) sig.params)) h.0 in
        of_receiver receiver args s.0.params aliases places (beside id x) inner s.1.1.1 t
    says (tree.VirtualCall trait_no method receiver args) id at ty by aliases places x o g h t =
        let inner = told_here.here_beside items any_place Of aliases places x
        (node id at ty by (tree.VirtualCall trait_no method receiver args)) (nodes_of receiver ++ nodes_among args) o in
        let d = some_holds (slice_get items.traits trait_no) (λ (def : TraitDef). some (slice_get def.methods method)
        (λ (sig : Sig). both (fact (types.is_same ty sig.result))
        (typing.first_and_rest (λ t. typing.typed (context items (beside id x)) (Passed t) receiver)
        (λ ts. typing.arguments (context items (beside id x)) ts args) sig.params))) h in
        let s = some_holds (slice_get d.0.methods method) (λ (sig : Sig). both (fact (types.is_same ty sig.result))
        (typing.first_and_rest (λ t. typing.typed (context items (beside id x)) (Passed t) receiver)
        (λ ts. typing.arguments (context items (beside id x)) ts args) sig.params)) d.1.1 in
        of_receiver receiver args s.0.params aliases places (beside id x) inner s.1.1.1 t
    says (tree.ClosureCall callee value args) id at ty by aliases places x o g h t =
        let inner = told_here.here_beside items any_place Of aliases places x
        (node id at ty by (tree.ClosureCall callee value args)) (nodes_of value ++ nodes_among args) o in
        let s = some_holds (slice_get items.bodies callee) (λ (sig : Sig). both (fact (types.is_same ty sig.result))
        (typing.first_and_rest (λ t. typing.typed (context items (beside id x)) (Passed t) value)
        (λ ts. typing.arguments (context items (beside id x)) ts args) sig.params)) h.0 in
        let k = by_params aliases places (beside id x) value args s.0.params s.1.1.1 in
        let passed = all_told (arguments aliases args) ⊕ conflicting (conflicts_among (arguments aliases args)) in
        let w = told_here.told_right items any_place Of aliases (told aliases value) passed t in
        let u = told_here.told_left items any_place Of aliases (all_told (arguments aliases args))
        (conflicting (conflicts_among (arguments aliases args))) w in
        let v = told_here.told_right items any_place Of aliases (all_told (arguments aliases args))
        (conflicting (conflicts_among (arguments aliases args))) w in
        let whole = nodes_of value ++ nodes_among args in
        said facts aliases places (beside id x) whole inner (a_node value args) (λ m i. i)
        (callee_says facts aliases places (beside id x) whole inner value args inner (λ m i. i)
        (facts.callees (beside id x) id ty callee value args (inner.all value (node_left (nodes_of value) (nodes_among
        args) value
        (own_node value))) h)
        (args_say facts aliases places (beside id x) whole inner args k.1.0
        (told_here.here_right items any_place Of aliases places (beside id x) (nodes_of value) (nodes_among args) inner)
        (λ m i. node_right (nodes_of value) (nodes_among args) m i) k.1.1.1 u v.1))
    says form id at ty by aliases places x o g h t = tt
