-- Heads, places and destinations of nodes beside what may be changed, and what is said of calls.
use Rattle.std.proofs.Common.{◌≡◌, ℕ, ◌==◌, ◌||◌, Bool, true, false, List, [], ◌∷◌, Option, if◌then◌else◌, refl, ap, sym, ◌∙◌, subst}
use Rattle.std.proofs.lemmas.Bool.Decides.{Decides-eqb}
use Rattle.mir_ty.specs.declared.ty.TyId.{TyId}
use Rattle.mir_ty.specs.ItemTable.{ItemTable}
use Rattle.store_model.specs.Effects as effects
use Rattle.store_model.specs.Effects.{EffectSite, Operand, Action, Halt, Effects}
use Rattle.store_model.specs.Places.Place.{Place, whole_local}
use Rattle.typed_tree.specs.declared.node.Use.{Use}
use Rattle.typed_tree.specs.Nodes.{number_of}
use Rattle.typed_tree.specs.Tree as tree
use Rattle.typed_tree.specs.Tree.{Node, node, Form, Nodes, no_node, a_node, Fields, MaybeNode}
use Rattle.src_meaning.specs.Evaluation.{meaning, meaning_of, meanings, fields_of, meaning_if_any, to_own_key}
use Rattle.src_meaning.specs.Forms.{Destination, Into, Coerced, coerced, LoopsAndGuards, Meaning, in_loop, loop_destination, moved, all_moved, place_of, site_of, site_in}
use Rattle.src_meaning.specs.Scopes.{Does}
use Rattle.src_meaning.specs.Shape.{Aliases, head, Shape, shape, shape_of}
use Rattle.soundness_frame.proofs.PassFrame as frame
use Rattle.soundness_frame.proofs.PassFrameActs.{KeepingSo, TestsOwn, BoundsMay, DestSo}
use Rattle.soundness_values.proofs.PassHeads as heads
use Rattle.soundness_frame.proofs.PassWithin as within
use Rattle.soundness_frame.proofs.PassWithin.{is_among, Outer, passing, looping, DestIn, further}

-- the operands of a call, by the numbers of its arguments
abbrev pub moved_nodes : ℕ → Nodes → List Operand
moved_nodes at_node no_node = []
moved_nodes at_node (a_node first rest) = moved at_node (number_of first) ∷ moved_nodes at_node rest

-- the place of a node, seen from there
abbrev pub node_site : ItemTable → Aliases → Node → EffectSite
node_site items aliases n = record { node = number_of n; place = (shape items n).place aliases }

-- a form that calls, its arguments and the action
pub data Calls : Form → Nodes → (EffectSite → List Operand → Action) → Type 0 where
  a_call : (body : ℕ) (args : Nodes) → Calls (tree.Call body args) args (λ site. effects.Call site body)
  a_method : (body : ℕ) (receiver : Node) (args : Nodes) →
      Calls (tree.MethodCall body receiver args) (a_node receiver args) (λ site. effects.Call site body)
  a_virtual : (trait_no method : ℕ) (receiver : Node) (args : Nodes) →
      Calls (tree.VirtualCall trait_no method receiver args) (a_node receiver args)
      (λ site. effects.CallVirtual site trait_no method)
  a_closure : (body : ℕ) (callee : Node) (args : Nodes) →
      Calls (tree.ClosureCall body callee args) (a_node callee args) (λ site. effects.Call site body)

-- what is said of the text is known of the actions of borrows, and of the places of assignments
pub record Telling (items : ItemTable) (Does_ : Action → Type 0) (Drops : EffectSite → Type 0)
    (Says : Aliases → Outer → ℕ → Form → Type 0) : Type 0 where
  pub borrows : (aliases : Aliases) (loops : Outer) (id : ℕ) (unique : Bool) (base : Node) →
      Says aliases loops id (tree.Borrow unique base) →
      Does_ (effects.Borrow (site_in (number_of base) id) unique (node_site items aliases base))
  pub assigns : (aliases : Aliases) (loops : Outer) (id : ℕ) (place value : Node) → Says aliases loops id
      (tree.Assign place value) →
      Drops (node_site items aliases place)

-- what is said of a call is known of its action
pub record TellingCalls (Does_ : Action → Type 0) (Says : Aliases → Outer → ℕ → Form → Type 0) : Type 0 where
  pub calls : (aliases : Aliases) (loops : Outer) (id key body : ℕ) (args : Nodes) → Says aliases loops id
      (tree.Call body args) →
      Does_ (effects.Call (site_in id key) body (moved_nodes id args))
  pub methods : (aliases : Aliases) (loops : Outer) (id key body : ℕ) (receiver : Node) (args : Nodes) →
      Says aliases loops id (tree.MethodCall body receiver args) →
      Does_ (effects.Call (site_in id key) body (moved_nodes id (a_node receiver args)))
  pub virtuals : (aliases : Aliases) (loops : Outer) (id key trait_no method : ℕ) (receiver : Node) (args : Nodes) →
      Says aliases loops id (tree.VirtualCall trait_no method receiver args) →
      Does_ (effects.CallVirtual (site_in id key) trait_no method (moved_nodes id (a_node receiver args)))
  pub closures : (aliases : Aliases) (loops : Outer) (id key body : ℕ) (callee : Node) (args : Nodes) →
      Says aliases loops id (tree.ClosureCall body callee args) →
      Does_ (effects.Call (site_in id key) body (moved_nodes id (a_node callee args)))

module _ {V : Type 0} (items : ItemTable) (q : Effects V) (over : Halt → V → Type 0) (Does_ : Action → Type 0)
    (Drops : EffectSite → Type 0) (Store Coerce May : Place → Type 0) (I : V → Type 0)
    (keeping : KeepingSo q over Does_ Drops Store Coerce May I) (Says : Aliases → Outer → ℕ → Form → Type 0)
    (fuel : ℕ) where
  abbrev M : Node → Meaning V
  M = meaning items q fuel

  abbrev Ms : Nodes → List (Meaning V)
  Ms = meanings items q fuel

  abbrev Mf : Fields → List (ℕ × Meaning V)
  Mf = fields_of items q fuel

  abbrev Mi : MaybeNode → Option (Meaning V)
  Mi = meaning_if_any items q fuel

  abbrev Of : Form → ℕ → TyId → Option Use → Meaning V
  Of form id ty by = meaning_of items q fuel form (head id ty by) (shape_of items form (head id ty by))

  abbrev Keeps : Does V → Type 0
  Keeps = frame.Keeps items q over Does_ Drops Store Coerce May I keeping

  abbrev Cell : ℕ → Type 0
  Cell key = May (whole_local key)

  abbrev Own : ℕ → Type 0
  Own key = Store (whole_local key)

  abbrev Within : Aliases → Outer → Node → Type 0
  Within = within.Within items May Says

  abbrev Reaching : Aliases → Outer → Node → Type 0
  Reaching = within.Reaching items May Says

  abbrev WithinIn : Aliases → Outer → ℕ → Form → Type 0
  WithinIn = within.WithinIn items May Says

  abbrev Around : LoopsAndGuards → Outer → Type 0
  Around = within.AroundSo Store Coerce

  -- ---- heads, shapes, destinations

  pub cell_of : (n : Node) → Cell (number_of n) → Cell (M n).head.id
  cell_of n c = subst Cell (sym (heads.number_is items q fuel n)) c

  pub within_cell : (n : Node) (aliases : Aliases) (loops : Outer) → Within aliases loops n → Cell (M n).head.id
  within_cell (node id at ty by form) aliases loops w = cell_of (node id at ty by form) w.0

  value_cell : (n : Node) (aliases : Aliases) (loops : Outer) → Within aliases loops n → Cell (number_of n)
  value_cell (node id at ty by form) aliases loops w = w.0

  pub reaching_cell : (n : Node) (aliases : Aliases) (loops : Outer) → Reaching aliases loops n → Cell (M n).head.id
  reaching_cell (node id at ty by form) aliases loops w = cell_of (node id at ty by form) w.0

  pub may_place : (n : Node) (around : LoopsAndGuards) → May ((shape items n).place around.aliases) →
      May (place_of (M n) around)
  may_place n around m =
      subst (λ (s : Shape). May (s.place around.aliases)) (sym (heads.shape_is items q fuel n)) m

  -- sites and operands by the numbers of nodes
  pub node_site_of : (n : Node) (around : LoopsAndGuards) → site_of (M n) around ≡ node_site items around.aliases n
  node_site_of n around = ap (λ k. record { node = k; place = place_of (M n) around }) (heads.number_is items q fuel n)
      ∙ ap (λ (s : Shape). record { node = number_of n; place = s.place around.aliases })
      (heads.shape_is items q fuel n)

  pub all_by_number : (at_node : ℕ) (ns : Nodes) → all_moved at_node (Ms ns) ≡ moved_nodes at_node ns
  all_by_number at_node no_node = refl
  all_by_number at_node (a_node first rest) =
      ap (λ k. moved at_node k ∷ all_moved at_node (Ms rest)) (heads.number_is items q fuel first)
      ∙ ap (λ l. moved at_node (number_of first) ∷ l) (all_by_number at_node rest)

  pub borrowed : (key : ℕ) (unique : Bool) (base : Node) (around : LoopsAndGuards) →
      Does_ (effects.Borrow (site_in (number_of base) key) unique (node_site items around.aliases base)) →
      Does_ (effects.Borrow (site_in (M base).head.id key) unique (site_of (M base) around))
  borrowed key unique base around d =
      subst (λ k. Does_ (effects.Borrow (site_in k key) unique (site_of (M base) around)))
      (sym (heads.number_is items q fuel base))
      (subst (λ site. Does_ (effects.Borrow (site_in (number_of base) key) unique site))
      (sym (node_site_of base around)) d)

  pub called : (at_node : ℕ) (ns : Nodes) (action : List Operand → Action) → Does_ (action (moved_nodes at_node ns)) →
      Does_ (action (all_moved at_node (Ms ns)))
  called at_node ns action d = subst (λ l. Does_ (action l)) (sym (all_by_number at_node ns)) d

  pub own_key : (b : Bool) (id : ℕ) (to : Destination) → to ≡ Into id → to_own_key b id to ≡ Into id
  own_key true id to e = refl
  own_key false id to e = e

  pub own_dest : (b : Bool) (id : ℕ) (to : Destination) → Cell id → DestSo Store May to → DestSo Store May
      (to_own_key b id to)
  own_dest true id to c d = keeping.stores (whole_local id) c
  own_dest false id to c d = d

  pub carried : (to : Destination) → DestSo Store Coerce to → DestSo Store May to
  carried (Into to) d = d
  carried (Coerced key trait_no to) d = (keeping.coerces (whole_local key) d.0, d.1)

  pub coerced_dest : (key trait_no : ℕ) (to : Destination) → Cell key → DestSo Store May to →
      DestSo Store May (coerced key trait_no to)
  coerced_dest key trait_no (Into to) c d = (c, d)
  coerced_dest key trait_no (Coerced other another to) c d = (c, d.1)

  -- a destination that may be handed on, in the cells of forms around
  abbrev Dest : Outer → Destination → Type 0
  Dest loops to = DestSo Store Coerce to × DestIn loops.keys to

  pub own_in : (id : ℕ) (keys : List ℕ) → is_among id (id ∷ keys) ≡ true
  own_in id keys = ap (λ b. b || is_among id keys) ((Decides-eqb id id).1 refl)

  pub own_key_in : (b : Bool) (id : ℕ) (loops : Outer) (to : Destination) → DestIn (id ∷ loops.keys) to →
      DestIn (id ∷ loops.keys) (to_own_key b id to)
  own_key_in true id loops to k = own_in id loops.keys
  own_key_in false id loops to k = k

  pub own_to : (b : Bool) (id : ℕ) (loops : Outer) (to : Destination) → Cell id → Dest (passing id loops) to →
      Dest (passing id loops) (to_own_key b id to)
  own_to true id loops to c d = (keeping.stores (whole_local id) c, own_in id loops.keys)
  own_to false id loops to c d = d

  pub inside : (id : ℕ) (around : LoopsAndGuards) (loops : Outer) → Around around loops → Around around (passing id loops)
  inside id around loops a = further Store Coerce around loops id a

  pub looped : (id : ℕ) (to : Destination) (around : LoopsAndGuards) (loops : Outer) → Around around loops →
      Dest loops to → Around (in_loop id to around) (looping id loops)
  looped id to around loops a d = (
    (a.0.0, λ loop e. stored loop (loop == id) e),
    (a.1.0, λ loop e. keyed loop (loop == id) e),
  )
    where
      stored : (loop : ℕ) (b : Bool) → (b || is_among loop loops.loops) ≡ true →
          DestSo Store Coerce (if b then to else loop_destination loop around.loops)
      stored loop true e = d.0
      stored loop false e = a.0.1 loop e

      keyed : (loop : ℕ) (b : Bool) → (b || is_among loop loops.loops) ≡ true →
          DestIn loops.keys (if b then to else loop_destination loop around.loops)
      keyed loop true e = d.1
      keyed loop false e = a.1.1 loop e

  -- what a pattern does at the place of a node
  pub matched_at : (pattern : Node) (place : Place) → within.Matches items May Says pattern place →
      TestsOwn May ((M pattern).shape.tests place) × BoundsMay May ((M pattern).shape.bindings place)
  matched_at pattern place m =
      subst (λ (s : Shape). TestsOwn May (s.tests place) × BoundsMay May (s.bindings place))
      (sym (heads.shape_is items q fuel pattern)) m

  pub matched_with : (pattern scrutinee : Node) (around : LoopsAndGuards) →
      within.Matches items May Says pattern ((shape items scrutinee).place around.aliases) →
      TestsOwn May ((M pattern).shape.tests (place_of (M scrutinee) around))
      × BoundsMay May ((M pattern).shape.bindings (place_of (M scrutinee) around))
  matched_with pattern scrutinee around m =
      subst (λ (s : Shape). TestsOwn May ((M pattern).shape.tests (s.place around.aliases))
      × BoundsMay May ((M pattern).shape.bindings (s.place around.aliases)))
      (sym (heads.shape_is items q fuel scrutinee))
      (matched_at pattern ((shape items scrutinee).place around.aliases) m)

  pub bound_with : (pattern value : Node) (around : LoopsAndGuards) →
      BoundsMay May ((shape items pattern).bindings ((shape items value).place around.aliases)) →
      BoundsMay May ((M pattern).shape.bindings (place_of (M value) around))
  bound_with pattern value around b =
      subst (λ (s : Shape). BoundsMay May ((M pattern).shape.bindings (s.place around.aliases)))
      (sym (heads.shape_is items q fuel value))
      (subst (λ (s : Shape). BoundsMay May (s.bindings ((shape items value).place around.aliases)))
      (sym (heads.shape_is items q fuel pattern)) b)
