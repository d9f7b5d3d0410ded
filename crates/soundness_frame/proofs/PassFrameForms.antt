-- The evaluation of a node keeps what is kept by all effects that change only what may be changed, if what the node
-- changes lies within that. One line a form.
use Rattle.std.proofs.Common.{◌≡◌, ℕ, Bool, true, false, List, [], ◌∷◌, Option, refl, sym, subst}
use Rattle.std.proofs.lemmas.Bool.{false≢true}
use Rattle.mir_base.specs.declared.place_in_text.Pos.{Pos}
use Rattle.mir_base.specs.declared.trace.Why.{Why}
use Rattle.mir_ty.specs.declared.ty.TyId.{TyId}
use Rattle.mir_ty.specs.ItemTable.{ItemTable}
use Rattle.store_model.specs.Effects as effects
use Rattle.store_model.specs.Effects.{EffectSite, Action, Halt, Effects}
use Rattle.store_model.specs.Places.Place.{Place, whole_local}
use Rattle.typed_tree.specs.declared.node.Use.{Use}
use Rattle.typed_tree.specs.Nodes.{number_of}
use Rattle.typed_tree.specs.Tree as tree
use Rattle.typed_tree.specs.Tree.{Node, node, Form, Nodes, no_node, a_node, Fields, no_field, a_field, MaybeNode, absent, present}
use Rattle.src_meaning.specs.Evaluation.{meaning, meaning_of, meanings, fields_of, meaning_if_any, values_of, in_number_order, to_own_key}
use Rattle.src_meaning.specs.Forms as forms
use Rattle.src_meaning.specs.Forms.{site_of, Destination, Into, LoopsAndGuards, Meaning, in_loop, in_guard, is_never, moved, all_moved, place_of, site_in}
use Rattle.src_meaning.specs.Locals.OfBody.{is_place_form}
use Rattle.src_meaning.specs.Scopes.{Value, Breaks, Continues, Returns, Does}
use Rattle.src_meaning.specs.Shape.{Aliases, NodeHead, kind_of, head, Shape, shape, shape_of, operand_at}
use Rattle.well_typed.specs.Places.{is_borrow}
use Rattle.soundness_frame.proofs.PassFrame as frame
use Rattle.soundness_frame.proofs.PassFrameActs.{Takes, KeepingSo, AllCells, DestSo}
use Rattle.soundness_values.proofs.PassHeads as heads
use Rattle.soundness_frame.proofs.PassWithin as within
use Rattle.soundness_frame.proofs.PassWithin.{if_place, carries, Outer, passing, looping, DestIn, further_in}
use Rattle.soundness_frame.proofs.PassFrameOperands as pass_frame_operands
use Rattle.soundness_frame.proofs.PassFrameHeads.{Telling, node_site_of, a_call, a_method, a_virtual, a_closure, node_site, within_cell, may_place, borrowed, own_key, own_dest, carried, coerced_dest, own_key_in, own_to, inside, looped, matched_at, matched_with}
use Rattle.soundness_frame.proofs.PassFrameOperands.{field_cells, ordered, fields_taken, operands_kept, effect_kept, gives_unit_kept, place_kept, loose_goes, coerced_goes, operand_from, alone_from, body_from, condition_from, by_place, on_all, let_from}

module _ {V : Type 0} (items : ItemTable) (q : Effects V) (over : Halt → V → Type 0) (Does_ : Action → Type 0)
    (Drops : EffectSite → Type 0) (Store Coerce May : Place → Type 0) (I : V → Type 0)
    (keeping : KeepingSo q over Does_ Drops Store Coerce May I) (Says : Aliases → Outer → ℕ → Form → Type 0)
    (fuel : ℕ) where
  abbrev M : Node → Meaning V
  M = meaning items q fuel

  abbrev Ms : Nodes → List (Meaning V)
  Ms = meanings items q fuel

  abbrev Mf : Fields → List (ℕ × Meaning V)
  Mf = fields_of items q fuel

  abbrev Mi : MaybeNode → Option (Meaning V)
  Mi = meaning_if_any items q fuel

  abbrev Of : Form → ℕ → TyId → Option Use → Meaning V
  Of form id ty by = meaning_of items q fuel form (head id ty by) (shape_of items form (head id ty by))

  abbrev Keeps : Does V → Type 0
  Keeps = frame.Keeps items q over Does_ Drops Store Coerce May I keeping

  abbrev Cell : ℕ → Type 0
  Cell key = May (whole_local key)

  abbrev Within : Aliases → Outer → Node → Type 0
  Within = within.Within items May Says

  abbrev Reaching : Aliases → Outer → Node → Type 0
  Reaching = within.Reaching items May Says

  abbrev WithinIn : Aliases → Outer → ℕ → Form → Type 0
  WithinIn = within.WithinIn items May Says

  abbrev Around : LoopsAndGuards → Outer → Type 0
  Around = within.AroundSo Store Coerce

  abbrev Dest : Outer → Destination → Type 0
  Dest loops to = DestSo Store Coerce to × DestIn loops.keys to

  abbrev Goes : Node → Outer → Destination → Type 0
  Goes = pass_frame_operands.Goes items q over Does_ Drops Store Coerce May I keeping Says fuel

  abbrev AtCalls : Type 0
  AtCalls = pass_frame_operands.AtCalls items q over Does_ Drops Store Coerce May I keeping Says fuel

  module _ (telling : Telling items Does_ Drops Says) (at_calls : AtCalls) where
    assigned : (loops : Outer) (id : ℕ) (place value : Node) (around : LoopsAndGuards) →
        Says around.aliases loops id (tree.Assign place value) → Drops (site_of (M place) around)
    assigned loops id place value around s =
        subst Drops (sym (node_site_of items q over Does_ Drops Store Coerce May I keeping Says fuel place around)) (telling.assigns around.aliases loops id place value s)

    -- ---- the forms

    mutual
      pub evaluated : (n : Node) (around : LoopsAndGuards) (loops : Outer) → Around around loops →
          Within around.aliases loops n → (own : Bool) (to : Destination) → Goes n loops to →
          Keeps ((M n).evaluate around own to)
      evaluated (node id at ty by form) around loops a w own to d =
          form_kept form id ty by around loops (inside items q over Does_ Drops Store Coerce May I keeping Says fuel id around loops a) w.0 w.1.0 w.1.1 own to d.0 d.1.0 d.1.1

      -- one that is around all others
      pub evaluated_first : (n : Node) (around : LoopsAndGuards) (loops : Outer) →
          Around around (passing (number_of n) loops) → Within around.aliases loops n → (own : Bool)
          (to : Destination) → Goes n loops to → Keeps ((M n).evaluate around own to)
      evaluated_first (node id at ty by form) around loops a w own to d =
          form_kept form id ty by around loops a w.0 w.1.0 w.1.1 own to d.0 d.1.0 d.1.1

      pub reached : (n : Node) (around : LoopsAndGuards) (loops : Outer) → Around around loops →
          Reaching around.aliases loops n → Keeps ((M n).reach around)
      reached (node id at ty by form) around loops a w =
          by_place items q over Does_ Drops Store Coerce May I keeping Says fuel form id at ty by around loops w.0 (is_place_form form) refl
          (λ p. place_reached form id ty by around loops (inside items q over Does_ Drops Store Coerce May I keeping Says fuel id around loops a) w.1 p)
          (λ u to d. form_kept form id ty by around loops (inside items q over Does_ Drops Store Coerce May I keeping Says fuel id around loops a) w.0 u w.1 false to d.0 d.1.0 d.1.1)

      place_reached : (form : Form) (id : ℕ) (ty : TyId) (by : Option Use) (around : LoopsAndGuards) (loops : Outer) →
          Around around (passing id loops) → WithinIn around.aliases loops id form → is_place_form form ≡ true →
          Keeps ((Of form id ty by).reach around)
      place_reached (tree.Variable key) id ty by around loops a w p =
          frame.at_exit items q over Does_ Drops Store Coerce May I keeping Value
      place_reached (tree.Captured closure part name) id ty by around loops a w p =
          frame.at_exit items q over Does_ Drops Store Coerce May I keeping Value
      place_reached (tree.Field base part) id ty by around loops a w p = reached base around (passing id loops) a w
      place_reached (tree.Index base index length) id ty by around loops a w p =
          frame.element_kept items q over Does_ Drops Store Coerce May I keeping (head id ty by)
          (shape_of items (tree.Index base index length) (head id ty by)) (M base) (M index) length around
          (reached base around (passing id loops) a w.0) (operand_from items q over Does_ Drops Store Coerce May I keeping Says fuel index around (passing id loops) w.1 (evaluated
          index around (passing id loops) a w.1)).0
      place_reached (tree.Deref base) id ty by around loops a w p = reached base around (passing id loops) a w
      place_reached form id ty by around loops a w p = absurd (false≢true p)

      pub operands : (ns : Nodes) (around : LoopsAndGuards) (loops : Outer) → Around around loops →
          within.AllWithin items May Says around.aliases loops ns →
          frame.AllEvaluated items q over Does_ Drops Store Coerce May I keeping around (Ms ns)
      operands no_node around loops a w = tt
      operands (a_node first rest) around loops a w =
          (operand_from items q over Does_ Drops Store Coerce May I keeping Says fuel first around loops w.0 (evaluated first around loops a w.0), operands rest around loops a w.1)

      field_operands : (fields : Fields) (around : LoopsAndGuards) (loops : Outer) → Around around loops →
          within.FieldsWithin items May Says around.aliases loops fields →
          frame.AllEvaluated items q over Does_ Drops Store Coerce May I keeping around (values_of (Mf fields))
      field_operands no_field around loops a w = tt
      field_operands (a_field number value rest) around loops a w = (
        operand_from items q over Does_ Drops Store Coerce May I keeping Says fuel value around loops w.0 (evaluated value around loops a w.0),
        field_operands rest around loops a w.1,
      )

      done : (ns : Nodes) (around : LoopsAndGuards) (loops : Outer) → Around around loops →
          within.AllWithin items May Says around.aliases loops ns →
          frame.AllDone items q over Does_ Drops Store Coerce May I keeping around (Ms ns)
      done no_node around loops a w = tt
      done (a_node first rest) around loops a w =
          ((operand_from items q over Does_ Drops Store Coerce May I keeping Says fuel first around loops w.0 (evaluated first around loops a w.0)).0, done rest around loops a w.1)

      -- a branch, or what is done where there is none
      branched : (value : MaybeNode) (around : LoopsAndGuards) (loops : Outer) → Around around loops →
          within.LooseIfAny items May Says around.aliases loops value → (to : Destination) → Dest loops to →
          (without : Does V) → Keeps without → Keeps (forms.branch items q around to (Mi value) without)
      branched absent around loops a w to d without o = o
      branched (present value) around loops a w to d without o =
          frame.alone_kept items q over Does_ Drops Store Coerce May I keeping around (M value) to
          (evaluated value around loops a w.1 true to (loose_goes items q over Does_ Drops Store Coerce May I keeping Says fuel value loops to w.0 d))

      jump : (value : MaybeNode) (h : NodeHead) (around : LoopsAndGuards) (loops : Outer) → Around around loops →
          within.LooseIfAny items May Says around.aliases loops value → (to : Destination) → Dest loops to →
          Keeps (forms.value_of_jump items q h (Mi value) around to)
      jump absent h around loops a w to d = frame.unit_kept items q over Does_ Drops Store Coerce May I keeping h to
          (carried items q over Does_ Drops Store Coerce May I keeping Says fuel to d.0)
      jump (present value) h around loops a w to d =
          evaluated value around loops a w.1 false to (loose_goes items q over Does_ Drops Store Coerce May I keeping Says fuel value loops to w.0 d)

      tail : (value : MaybeNode) (h : NodeHead) (around : LoopsAndGuards) (loops : Outer) → Around around loops →
          within.LooseIfAny items May Says around.aliases loops value → (to : Destination) → Dest loops to →
          Keeps (forms.tail_of items q h (Mi value) around to)
      tail absent h around loops a w to d = frame.unit_if_kept items q over Does_ Drops Store Coerce May I keeping
          (is_never items h.ty) h to (carried items q over Does_ Drops Store Coerce May I keeping Says fuel to d.0)
      tail (present value) h around loops a w to d =
          alone_from items q over Does_ Drops Store Coerce May I keeping Says fuel value around loops (evaluated value around loops a w.1) to (loose_goes items q over Does_ Drops Store Coerce May I keeping Says fuel value loops to w.0 d)

      arms : (ns : Nodes) (matched : Place) (around : LoopsAndGuards) (loops : Outer) → Around around loops →
          within.ArmsWithin items May Says around.aliases loops matched ns →
          (to : Destination) → Dest loops to →
          frame.AllArms items q over Does_ Drops Store Coerce May I keeping around matched to (Ms ns)
      arms no_node matched around loops a w to d = tt
      arms (a_node (node id at ty by form) rest) matched around loops a w to d = (
        λ otherwise o. arm form id at ty by matched around loops a w.0 to d otherwise o,
        arms rest matched around loops a w.1 to d,
      )

      arm : (form : Form) (id : ℕ) (at : Pos) (ty : TyId) (by : Option Use) (matched : Place) (around : LoopsAndGuards)
          (loops : Outer) → Around around loops →
          within.ArmWithin items May Says around.aliases loops matched (node id at ty by form) → (to : Destination) →
          Dest loops to → (otherwise : Does V) → Keeps otherwise →
          Keeps ((Of form id ty by).arm matched otherwise around to)
      arm (tree.Arm pattern guard body) id at ty by matched around loops a w to d otherwise o =
          let m = matched_at items q over Does_ Drops Store Coerce May I keeping Says fuel pattern matched w.0 in
          let taken = frame.taken_kept items q over Does_ Drops Store Coerce May I keeping (head id ty by) around
          ((M pattern).shape.bindings matched) (M body) to m.1
          (evaluated body around loops a w.1.1.1 true to (loose_goes items q over Does_ Drops Store Coerce May I keeping Says fuel body loops to w.1.1.0 d)) in
          frame.choosing_kept items q over Does_ Drops Store Coerce May I keeping _ _ _
          (frame.all_kept items q over Does_ Drops Store Coerce May I keeping ((M pattern).shape.tests matched) m.0)
          (guarded pattern guard matched around loops a w.1.0 _ otherwise taken o) o
      arm form id at ty by matched around loops a w to d otherwise o =
          frame.at_exit items q over Does_ Drops Store Coerce May I keeping Value

      guarded : (pattern : Node) (guard : MaybeNode) (matched : Place) (around : LoopsAndGuards) (loops : Outer) →
          Around around loops →
          within.WithinIfAny items May Says (forms.aliases_with ((shape items pattern).bindings matched) around.aliases)
          loops
          guard → (taken otherwise : Does V) → Keeps taken → Keeps otherwise →
          Keeps (forms.guarded items q around ((M pattern).shape.bindings matched) (Mi guard) taken otherwise)
      guarded pattern absent matched around loops a w taken otherwise t o = t
      guarded pattern (present guard) matched around loops a w taken otherwise t o =
          let g = subst (λ (s : Shape). Within (forms.aliases_with (s.bindings matched) around.aliases) loops guard)
          (sym (heads.shape_is items q fuel pattern)) w in
          condition_from items q over Does_ Drops Store Coerce May I keeping Says fuel guard (in_guard ((M pattern).shape.bindings matched) around) loops g
          (evaluated guard (in_guard ((M pattern).shape.bindings matched) around) loops a g) taken otherwise t o

      form_kept : (form : Form) (id : ℕ) (ty : TyId) (by : Option Use) (around : LoopsAndGuards) (loops : Outer) →
          Around around (passing id loops) → Cell id →
          if_place (is_place_form form)
          (Takes May (operand_at (head id ty by) ((shape_of items form (head id ty by)).place around.aliases))) →
          WithinIn around.aliases loops id form → (own : Bool) (to : Destination) →
          DestSo Store May to × DestIn (id ∷ loops.keys) to → (is_borrow form ≡ true → to ≡ Into id) →
          (carries form ≡ true → DestSo Store Coerce to) → Keeps ((Of form id ty by).evaluate around own to)
      form_kept (tree.Number value) id ty by around loops a c u w own to d g h =
          effect_kept items q over Does_ Drops Store Coerce May I keeping Says fuel (head id ty by) (shape_of items (tree.Number value) (head id ty by))
          (λ site. effects.Put site (effects.Number value (kind_of items ty))) around own to (λ site. refl)
          (λ key x. (x, tt)) c d.0
      form_kept (tree.Truth value) id ty by around loops a c u w own to d g h =
          effect_kept items q over Does_ Drops Store Coerce May I keeping Says fuel (head id ty by) (shape_of items (tree.Truth value) (head id ty by))
          (λ site. effects.Put site (effects.Truth value)) around own to (λ site. refl) (λ key x. (x, tt)) c d.0
      form_kept tree.UnitValue id ty by around loops a c u w own to d g h =
          effect_kept items q over Does_ Drops Store Coerce May I keeping Says fuel (head id ty by) (shape_of items tree.UnitValue (head id ty by))
          (λ site. effects.Put site effects.UnitValue) around own to (λ site. refl) (λ key x. (x, tt)) c d.0
      form_kept (tree.Variable key) id ty by around loops a c u w own to d g h =
          place_kept items q over Does_ Drops Store Coerce May I keeping Says fuel (head id ty by) (shape_of items (tree.Variable key) (head id ty by))
          (Of (tree.Variable key) id ty by).reach around own to
          (frame.at_exit items q over Does_ Drops Store Coerce May I keeping Value)
          u c d.0
      form_kept (tree.Captured closure part name) id ty by around loops a c u w own to d g h =
          place_kept items q over Does_ Drops Store Coerce May I keeping Says fuel (head id ty by) (shape_of items (tree.Captured closure part name) (head id ty by))
          (Of (tree.Captured closure part name) id ty by).reach around own to
          (frame.at_exit items q over Does_ Drops Store Coerce May I keeping Value) u c d.0
      form_kept (tree.Field base part) id ty by around loops a c u w own to d g h =
          place_kept items q over Does_ Drops Store Coerce May I keeping Says fuel (head id ty by) (shape_of items (tree.Field base part) (head id ty by))
          (Of (tree.Field base part) id ty by).reach around own to (reached base around (passing id loops) a w)
          u c d.0
      form_kept (tree.Index base index length) id ty by around loops a c u w own to d g h =
          place_kept items q over Does_ Drops Store Coerce May I keeping Says fuel (head id ty by) (shape_of items (tree.Index base index length) (head id ty by))
          (Of (tree.Index base index length) id ty by).reach around own to
          (frame.element_kept items q over Does_ Drops Store Coerce May I keeping (head id ty by)
          (shape_of items (tree.Index base index length) (head id ty by)) (M base) (M index) length around
          (reached base around (passing id loops) a w.0)
          (operand_from items q over Does_ Drops Store Coerce May I keeping Says fuel index around (passing id loops) w.1 (evaluated index around (passing id loops) a w.1)).0) u c
          d.0
      form_kept (tree.Deref base) id ty by around loops a c u w own to d g h =
          place_kept items q over Does_ Drops Store Coerce May I keeping Says fuel (head id ty by) (shape_of items (tree.Deref base) (head id ty by))
          (Of (tree.Deref base) id ty by).reach around own to (reached base around (passing id loops) a w)
          u c d.0
      form_kept (tree.Not value) id ty by around loops a c u w own to d g h =
          let e = operand_from items q over Does_ Drops Store Coerce May I keeping Says fuel value around (passing id loops) w (evaluated value around (passing id loops) a w) in
          operands_kept items q over Does_ Drops Store Coerce May I keeping Says fuel (head id ty by) (shape_of items (tree.Not value) (head id ty by))
          (M value ∷ []) (λ site. effects.Not site (moved id (M value).head.id)) around own to (e, tt) (λ site. refl)
          (λ key x. (x, e.1)) c d.0
      form_kept (tree.Negate value) id ty by around loops a c u w own to d g h =
          let e = operand_from items q over Does_ Drops Store Coerce May I keeping Says fuel value around (passing id loops) w (evaluated value around (passing id loops) a w) in
          operands_kept items q over Does_ Drops Store Coerce May I keeping Says fuel (head id ty by) (shape_of items (tree.Negate value) (head id ty by))
          (M value ∷ []) (λ site. effects.Negate site (moved id (M value).head.id)) around own to (e, tt) (λ site. refl)
          (λ key x. (x, e.1)) c d.0
      form_kept (tree.Arithmetic operator left right) id ty by around loops a c u w own to d g h =
          let e = operand_from items q over Does_ Drops Store Coerce May I keeping Says fuel left around (passing id loops) w.0 (evaluated left around (passing id loops) a w.0) in
          let f = operand_from items q over Does_ Drops Store Coerce May I keeping Says fuel right around (passing id loops) w.1 (evaluated right around (passing id loops) a w.1) in
          operands_kept items q over Does_ Drops Store Coerce May I keeping Says fuel (head id ty by) (shape_of items (tree.Arithmetic operator left right) (head id ty by))
          (M left ∷ M right ∷ []) (λ site. effects.Compute site operator (moved id (M left).head.id)
          (moved id (M right).head.id)) around own to (e, (f, tt)) (λ site. refl) (λ key x. (x, (e.1, f.1))) c
          d.0
      form_kept (tree.Comparison operator left right) id ty by around loops a c u w own to d g h =
          let e = operand_from items q over Does_ Drops Store Coerce May I keeping Says fuel left around (passing id loops) w.0 (evaluated left around (passing id loops) a w.0) in
          let f = operand_from items q over Does_ Drops Store Coerce May I keeping Says fuel right around (passing id loops) w.1 (evaluated right around (passing id loops) a w.1) in
          operands_kept items q over Does_ Drops Store Coerce May I keeping Says fuel (head id ty by) (shape_of items (tree.Comparison operator left right) (head id ty by))
          (M left ∷ M right ∷ []) (λ site. effects.Compare site operator (moved id (M left).head.id)
          (moved id (M right).head.id)) around own to (e, (f, tt)) (λ site. refl) (λ key x. (x, (e.1, f.1))) c
          d.0
      form_kept (tree.And left right) id ty by around loops a c u w own to d g h =
          let k = own_to items q over Does_ Drops Store Coerce May I keeping Says fuel (is_never items ty) id loops to c (h refl, d.1) in
          frame.own_kept items q over Does_ Drops Store Coerce May I keeping (head id ty by) own _
          (condition_from items q over Does_ Drops Store Coerce May I keeping Says fuel left around (passing id loops) w.0 (evaluated left around (passing id loops) a w.0) _ _
          (alone_from items q over Does_ Drops Store Coerce May I keeping Says fuel right around (passing id loops) (evaluated right around (passing id loops) a w.1.1) (to_own_key
          (is_never items ty) id to)
          (loose_goes items q over Does_ Drops Store Coerce May I keeping Says fuel right (passing id loops) _ w.1.0 k))
          (frame.deliver_kept items q over Does_ Drops Store Coerce May I keeping (head id ty by)
          (λ site. effects.Put site (effects.Truth false))
          (to_own_key (is_never items ty) id to) (frame.plainly items q over Does_ Drops Store Coerce May I keeping
          (head id ty by)
          (λ site. effects.Put site (effects.Truth false)) (λ site. refl) (λ key x. (x, tt)))
          (own_dest items q over Does_ Drops Store Coerce May I keeping Says fuel (is_never items ty) id to c d.0)))
      form_kept (tree.Or left right) id ty by around loops a c u w own to d g h =
          let k = own_to items q over Does_ Drops Store Coerce May I keeping Says fuel (is_never items ty) id loops to c (h refl, d.1) in
          frame.own_kept items q over Does_ Drops Store Coerce May I keeping (head id ty by) own _
          (condition_from items q over Does_ Drops Store Coerce May I keeping Says fuel left around (passing id loops) w.0 (evaluated left around (passing id loops) a w.0) _ _
          (frame.deliver_kept items q over Does_ Drops Store Coerce May I keeping (head id ty by)
          (λ site. effects.Put site (effects.Truth true))
          (to_own_key (is_never items ty) id to) (frame.plainly items q over Does_ Drops Store Coerce May I keeping
          (head id ty by)
          (λ site. effects.Put site (effects.Truth true)) (λ site. refl) (λ key x. (x, tt)))
          (own_dest items q over Does_ Drops Store Coerce May I keeping Says fuel (is_never items ty) id to c d.0))
          (alone_from items q over Does_ Drops Store Coerce May I keeping Says fuel right around (passing id loops) (evaluated right around (passing id loops) a w.1.1) (to_own_key
          (is_never items ty) id to)
          (loose_goes items q over Does_ Drops Store Coerce May I keeping Says fuel right (passing id loops) _ w.1.0 k)))
      form_kept (tree.Assign place value) id ty by around loops a c u w own to d g h =
          frame.assigning_kept items q over Does_ Drops Store Coerce May I keeping (head id ty by) (M place)
          (M value) around own _
          (operand_from items q over Does_ Drops Store Coerce May I keeping Says fuel value around (passing id loops) w.0.0 (evaluated value around (passing id loops) a w.0.0))
          (reached place around (passing id loops) a w.0.1.0) (may_place items q over Does_ Drops Store Coerce May I keeping Says fuel place around w.0.1.1)
          (assigned loops id place value around w.1)
          (own_dest items q over Does_ Drops Store Coerce May I keeping Says fuel (is_never items ty) id to c d.0)
      form_kept (tree.Call body args) id ty by around loops a c u w own to d g h =
          at_calls.called_kept _ _ _ (a_call body args) id ty by (shape_of items (tree.Call body args) (head id ty by))
          around loops a w.0 w.1 (operands args around (passing id loops) a w.0) c own to d.0
      form_kept (tree.MethodCall body receiver args) id ty by around loops a c u w own to d g h =
          at_calls.called_kept _ _ _ (a_method body receiver args) id ty by
          (shape_of items (tree.MethodCall body receiver args) (head id ty by)) around loops a w.0 w.1 (
            operand_from items q over Does_ Drops Store Coerce May I keeping Says fuel receiver around (passing id loops) w.0.0 (evaluated receiver around (passing id loops) a
                w.0.0),
            operands args around (passing id loops) a w.0.1,
          ) c own to d.0
      form_kept (tree.VirtualCall trait_no method receiver args) id ty by around loops a c u w own to d g h =
          at_calls.called_kept _ _ _ (a_virtual trait_no method receiver args) id ty by
          (shape_of items (tree.VirtualCall trait_no method receiver args) (head id ty by)) around loops a w.0 w.1 (
            operand_from items q over Does_ Drops Store Coerce May I keeping Says fuel receiver around (passing id loops) w.0.0 (evaluated receiver around (passing id loops) a
                w.0.0),
            operands args around (passing id loops) a w.0.1,
          ) c own to d.0
      form_kept (tree.ClosureCall body callee args) id ty by around loops a c u w own to d g h =
          at_calls.called_kept _ _ _ (a_closure body callee args) id ty by
          (shape_of items (tree.ClosureCall body callee args) (head id ty by)) around loops a w.0 w.1 (
            operand_from items q over Does_ Drops Store Coerce May I keeping Says fuel callee around (passing id loops) w.0.0 (evaluated callee around (passing id loops) a w.0.0),
            operands args around (passing id loops) a w.0.1,
          ) c own to d.0
      form_kept (tree.Make adt variant fields) id ty by around loops a c u w own to d g h =
          let e = field_operands fields around (passing id loops) a w in
          operands_kept items q over Does_ Drops Store Coerce May I keeping Says fuel (head id ty by) (shape_of items (tree.Make adt variant fields) (head id ty by))
          (values_of (Mf fields)) (λ site. effects.Build site (effects.OfVariant adt variant)
          (all_moved id (values_of (in_number_order (Mf fields))))) around own to e (λ site. refl)
          (λ key x. (
            x,
            fields_taken items q over Does_ Drops Store Coerce May I keeping Says fuel id (in_number_order (Mf fields))
                (ordered items q over Does_ Drops Store Coerce May I keeping Says fuel (Mf fields) (field_cells items q over Does_ Drops Store Coerce May I keeping Says fuel around (Mf fields) e)),
          ))
          c d.0
      form_kept (tree.Tuple parts) id ty by around loops a c u w own to d g h =
          on_all items q over Does_ Drops Store Coerce May I keeping Says fuel id ty by (shape_of items (tree.Tuple parts) (head id ty by)) (Ms parts)
          (λ site. effects.Build site effects.OfTuple) around own to
          (operands parts around (passing id loops) a w) (λ key x t. (x, t))
          (λ key. keeping.plain (effects.Build (site_in id key) effects.OfTuple (all_moved id (Ms parts))) refl) c d.0
      form_kept (tree.Array elements) id ty by around loops a c u w own to d g h =
          on_all items q over Does_ Drops Store Coerce May I keeping Says fuel id ty by (shape_of items (tree.Array elements) (head id ty by)) (Ms elements)
          (λ site. effects.Build site effects.OfArray) around own to
          (operands elements around (passing id loops) a w) (λ key x t. (x, t))
          (λ key. keeping.plain (effects.Build (site_in id key) effects.OfArray (all_moved id (Ms elements))) refl) c
          d.0
      form_kept (tree.Closure closure captures) id ty by around loops a c u w own to d g h =
          on_all items q over Does_ Drops Store Coerce May I keeping Says fuel id ty by (shape_of items (tree.Closure closure captures) (head id ty by)) (Ms captures)
          (λ site. effects.Build site (effects.OfClosure closure)) around own to
          (operands captures around (passing id loops) a w) (λ key x t. (x, t))
          (λ key. keeping.plain (effects.Build (site_in id key) (effects.OfClosure closure)
          (all_moved id (Ms captures))) refl) c d.0
      form_kept (tree.NewBox content) id ty by around loops a c u w own to d g h =
          let e = operand_from items q over Does_ Drops Store Coerce May I keeping Says fuel content around (passing id loops) w (evaluated content around (passing id loops) a w) in
          operands_kept items q over Does_ Drops Store Coerce May I keeping Says fuel (head id ty by) (shape_of items (tree.NewBox content) (head id ty by))
          (M content ∷ []) (λ site. effects.NewBox site (moved id (M content).head.id)) around own to (e, tt)
          (λ site. refl) (λ key x. (x, e.1)) c d.0
      form_kept (tree.Print value) id ty by around loops a c u w own to d g h =
          let e = operand_from items q over Does_ Drops Store Coerce May I keeping Says fuel value around (passing id loops) w (evaluated value around (passing id loops) a w) in
          gives_unit_kept items q over Does_ Drops Store Coerce May I keeping Says fuel (head id ty by) (shape_of items (tree.Print value) (head id ty by))
          (M value) effects.Print around own to e e.1 refl c d.0
      form_kept tree.Ask id ty by around loops a c u w own to d g h =
          effect_kept items q over Does_ Drops Store Coerce May I keeping Says fuel (head id ty by) (shape_of items tree.Ask (head id ty by)) effects.Ask around own to (λ site. refl)
          (λ key x. x) c d.0
      form_kept (tree.DropValue value) id ty by around loops a c u w own to d g h =
          let e = operand_from items q over Does_ Drops Store Coerce May I keeping Says fuel value around (passing id loops) w (evaluated value around (passing id loops) a w) in
          frame.dropping_kept items q over Does_ Drops Store Coerce May I keeping (head id ty by) around own
          (M value) _ e
          (frame.unit_kept items q over Does_ Drops Store Coerce May I keeping (head id ty by) _
          (own_dest items q over Does_ Drops Store Coerce May I keeping Says fuel (is_never items ty) id to c d.0))
      form_kept (tree.Forget value) id ty by around loops a c u w own to d g h =
          let e = operand_from items q over Does_ Drops Store Coerce May I keeping Says fuel value around (passing id loops) w (evaluated value around (passing id loops) a w) in
          gives_unit_kept items q over Does_ Drops Store Coerce May I keeping Says fuel (head id ty by) (shape_of items (tree.Forget value) (head id ty by))
          (M value) effects.Forget around own to e e.1 refl c d.0
      form_kept tree.Panic id ty by around loops a c u w own to d g h =
          frame.panics_kept items q over Does_ Drops Store Coerce May I keeping Why.Explicit
      form_kept (tree.Borrow unique base) id ty by around loops a c u w own to d g h =
          subst (λ (x : Destination). Keeps (forms.borrowing items q (head id ty by) unique (M base) around own x))
          (sym (own_key items q over Does_ Drops Store Coerce May I keeping Says fuel (is_never items ty) id to (g refl)))
          (frame.borrowing_kept items q over Does_ Drops Store Coerce May I keeping (head id ty by) unique
          (M base) around own id
          (reached base around (passing id loops) a w.0.0) (λ e. may_place items q over Does_ Drops Store Coerce May I keeping Says fuel base around (w.0.1 e)) (borrowed items q over Does_ Drops Store Coerce May I keeping Says fuel id unique
          base around
          (telling.borrows around.aliases loops id unique base w.1)) c)
      form_kept (tree.Unsize trait_no value) id ty by around loops a c u w own to d g h =
          evaluated value around (passing id loops) a w.0.1 own _
          (coerced_goes items q over Does_ Drops Store Coerce May I keeping Says fuel value (passing id loops) trait_no (to_own_key (is_never items ty) id to) w.0.0 w.1
          (coerced_dest items q over Does_ Drops Store Coerce May I keeping Says fuel (M value).head.id trait_no (to_own_key (is_never items ty) id to)
          (within_cell items q over Does_ Drops Store Coerce May I keeping Says fuel value around.aliases (passing id loops) w.0.1) (own_dest items q over Does_ Drops Store Coerce May I keeping Says fuel (is_never items ty) id to c d.0))
          (further_in (number_of value) (id ∷ loops.keys) _ (own_key_in items q over Does_ Drops Store Coerce May I keeping Says fuel (is_never items ty) id loops to d.1)))
      form_kept (tree.Block statements value) id ty by around loops a c u w own to d g h =
          frame.block_kept items q over Does_ Drops Store Coerce May I keeping (head id ty by) (Ms statements)
          (Mi value) around own _
          (done statements around (passing id loops) a w.0)
          (tail value (head id ty by) around (passing id loops) a w.1 _ (own_to items q over Does_ Drops Store Coerce May I keeping Says fuel (is_never items ty) id loops to c (
            h
                refl,
            d.1,
          )))
      form_kept (tree.Let pattern absent) id ty by around loops a c u w own to d g h =
          frame.declared_kept items q over Does_ Drops Store Coerce May I keeping ((M pattern).shape.bindings
          (whole_local 0))
          (subst (λ (s : Shape). AllCells May (s.bindings (whole_local 0))) (sym
          (heads.shape_is items q fuel pattern)) w)
      form_kept (tree.Let (node pid pat pty pby pform) (present value)) id ty by around loops a c u w own to d g h =
          let_from items q over Does_ Drops Store Coerce May I keeping Says fuel pform pid pat pty pby value id ty by around loops w
          (λ x. evaluated value around (passing pid (passing id loops)) (inside items q over Does_ Drops Store Coerce May I keeping Says fuel pid around (passing id loops) a) x)
          (λ x. reached value around (passing id loops) a x)
      form_kept (tree.Evaluate expression) id ty by around loops a c u w own to d g h =
          frame.evaluating_kept items q over Does_ Drops Store Coerce May I keeping (head id ty by)
          (M expression) around
          (operand_from items q over Does_ Drops Store Coerce May I keeping Says fuel expression around (passing id loops) w (evaluated expression around (passing id loops) a w))
      form_kept (tree.If test body otherwise) id ty by around loops a c u w own to d g h =
          let k = own_to items q over Does_ Drops Store Coerce May I keeping Says fuel (is_never items ty) id loops to c (h refl, d.1) in
          frame.own_kept items q over Does_ Drops Store Coerce May I keeping (head id ty by) own _
          (condition_from items q over Does_ Drops Store Coerce May I keeping Says fuel test around (passing id loops) w.0 (evaluated test around (passing id loops) a w.0) _ _
          (alone_from items q over Does_ Drops Store Coerce May I keeping Says fuel body around (passing id loops) (evaluated body around (passing id loops) a w.1.0.1) _
          (loose_goes items q over Does_ Drops Store Coerce May I keeping Says fuel body (passing id loops) _ w.1.0.0 k))
          (branched otherwise around (passing id loops) a w.1.1 _ k _ (frame.unit_kept items q over Does_ Drops Store
          Coerce May I
          keeping
          (head id ty by) _ (own_dest items q over Does_ Drops Store Coerce May I keeping Says fuel (is_never items ty) id to c d.0))))
      form_kept (tree.IfLet pattern scrutinee body otherwise) id ty by around loops a c u w own to d g h =
          let k = own_to items q over Does_ Drops Store Coerce May I keeping Says fuel (is_never items ty) id loops to c (h refl, d.1) in
          let m = matched_with items q over Does_ Drops Store Coerce May I keeping Says fuel pattern scrutinee around w.0.1 in
          frame.own_kept items q over Does_ Drops Store Coerce May I keeping (head id ty by) own _
          (frame.if_taken_kept items q over Does_ Drops Store Coerce May I keeping (head id ty by) around (M pattern)
          (M scrutinee) _ _
          (reached scrutinee around (passing id loops) a w.0.0) m.0 m.1 (alone_from items q over Does_ Drops Store Coerce May I keeping Says fuel body around (passing id loops)
          (evaluated body around (passing id loops) a w.1.0.1) _
          (loose_goes items q over Does_ Drops Store Coerce May I keeping Says fuel body (passing id loops) _ w.1.0.0 k))
          (branched otherwise around (passing id loops) a w.1.1 _ k _ (frame.unit_kept items q over Does_ Drops Store
          Coerce May I
          keeping
          (head id ty by) _ (own_dest items q over Does_ Drops Store Coerce May I keeping Says fuel (is_never items ty) id to c d.0))))
      form_kept (tree.Match scrutinee ns) id ty by around loops a c u w own to d g h =
          frame.matching_kept items q over Does_ Drops Store Coerce May I keeping (head id ty by) (M scrutinee)
          (Ms ns) around own _
          (reached scrutinee around (passing id loops) a w.0)
          (arms ns (place_of (M scrutinee) around) around (passing id loops) a
          (subst (λ (s : Shape). within.ArmsWithin items May Says around.aliases (passing id loops) (s.place
          around.aliases) ns)
          (sym (heads.shape_is items q fuel scrutinee)) w.1) _ (own_to items q over Does_ Drops Store Coerce May I keeping Says fuel (is_never items ty) id loops to c (h refl, d.1)))
      form_kept (tree.Loop body) id ty by around loops a c u w own to d g h =
          let k = own_to items q over Does_ Drops Store Coerce May I keeping Says fuel (is_never items ty) id loops to c (h refl, d.1) in
          frame.own_kept items q over Does_ Drops Store Coerce May I keeping (head id ty by) own _
          (frame.turns_kept items q over Does_ Drops Store Coerce May I keeping fuel id _
          (body_from items q over Does_ Drops Store Coerce May I keeping Says fuel body (in_loop id (to_own_key (is_never items ty) id to) around) (looping id (passing id loops)) w
          (evaluated body (in_loop id (to_own_key (is_never items ty) id to) around) (looping id (passing id loops))
          (looped items q over Does_ Drops Store Coerce May I keeping Says fuel id _ around (passing id loops) a k) w)))
      form_kept (tree.While test body) id ty by around loops a c u w own to d g h =
          let k = own_to items q over Does_ Drops Store Coerce May I keeping Says fuel (is_never items ty) id loops to c (h refl, d.1) in
          let inner = in_loop id (to_own_key (is_never items ty) id to) around in
          let b = looped items q over Does_ Drops Store Coerce May I keeping Says fuel id (to_own_key (is_never items ty) id to) around (passing id loops) a k in
          frame.own_kept items q over Does_ Drops Store Coerce May I keeping (head id ty by) own _
          (frame.turns_kept items q over Does_ Drops Store Coerce May I keeping fuel id _
          (condition_from items q over Does_ Drops Store Coerce May I keeping Says fuel test inner (looping id (passing id loops)) w.0 (evaluated test inner (looping id (passing id
          loops)) b w.0) _ _
          (body_from items q over Does_ Drops Store Coerce May I keeping Says fuel body inner (looping id (passing id loops)) w.1 (evaluated body inner (looping id (passing id
          loops)) b w.1))
          (frame.ends_kept items q over Does_ Drops Store Coerce May I keeping (head id ty by) _
          (own_dest items q over Does_ Drops Store Coerce May I keeping Says fuel (is_never items ty) id to c d.0))))
      form_kept (tree.WhileLet pattern scrutinee body) id ty by around loops a c u w own to d g h =
          let k = own_to items q over Does_ Drops Store Coerce May I keeping Says fuel (is_never items ty) id loops to c (h refl, d.1) in
          let inner = in_loop id (to_own_key (is_never items ty) id to) around in
          let b = looped items q over Does_ Drops Store Coerce May I keeping Says fuel id (to_own_key (is_never items ty) id to) around (passing id loops) a k in
          let m = matched_with items q over Does_ Drops Store Coerce May I keeping Says fuel pattern scrutinee inner w.0.1 in
          frame.own_kept items q over Does_ Drops Store Coerce May I keeping (head id ty by) own _
          (frame.turns_kept items q over Does_ Drops Store Coerce May I keeping fuel id _
          (frame.if_taken_kept items q over Does_ Drops Store Coerce May I keeping (head id ty by) inner (M pattern)
          (M scrutinee) _ _
          (reached scrutinee inner (looping id (passing id loops)) b w.0.0) m.0 m.1
          (body_from items q over Does_ Drops Store Coerce May I keeping Says fuel body inner (looping id (passing id loops)) w.1 (evaluated body inner (looping id (passing id
          loops)) b w.1))
          (frame.ends_kept items q over Does_ Drops Store Coerce May I keeping (head id ty by) _
          (own_dest items q over Does_ Drops Store Coerce May I keeping Says fuel (is_never items ty) id to c d.0))))
      form_kept (tree.Break loop value) id ty by around loops a c u w own to d g h =
          frame.own_kept items q over Does_ Drops Store Coerce May I keeping (head id ty by) own _
          (frame.jumping_kept items q over Does_ Drops Store Coerce May I keeping (Breaks loop) (head id ty by)
          (Mi value) around _
          (jump value (head id ty by) around (passing id loops) a w.1 _ (a.0.1 loop w.0, a.1.1 loop w.0)))
      form_kept (tree.Continue loop) id ty by around loops a c u w own to d g h =
          frame.at_exit items q over Does_ Drops Store Coerce May I keeping (Continues loop)
      form_kept (tree.Return value) id ty by around loops a c u w own to d g h =
          frame.own_kept items q over Does_ Drops Store Coerce May I keeping (head id ty by) own _
          (frame.jumping_kept items q over Does_ Drops Store Coerce May I keeping Returns (head id ty by)
          (Mi value) around _
          (jump value (head id ty by) around (passing id loops) a w _ (a.0.0, a.1.0)))
      form_kept form id ty by around loops a c u w own to d g h = frame.at_exit items q over Does_ Drops Store Coerce
          May I keeping Value

    -- a borrow may go anywhere too, where that is known of it
    pub anywhere : ((aliases : Aliases) (loops : Outer) (id key : ℕ) (unique : Bool) (base : Node) →
        Says aliases loops id (tree.Borrow unique base) →
        Does_ (effects.Borrow (site_in (number_of base) key) unique (node_site items aliases base))) → (n : Node)
        (around : LoopsAndGuards) (loops : Outer) → Around around loops → Within around.aliases loops n → (own : Bool)
        (to : Destination) → Dest (passing (number_of n) loops) to → Keeps ((M n).evaluate around own to)
    anywhere f (node id at ty by (tree.Borrow unique base)) around loops a w own to d =
        frame.borrowing_anywhere items q over Does_ Drops Store Coerce May I keeping (head id ty by) unique
        (M base) around own _
        (reached base around (passing id loops) (inside items q over Does_ Drops Store Coerce May I keeping Says fuel id around loops a) w.1.1.0.0) (λ e. may_place items q over Does_ Drops Store Coerce May I keeping Says fuel base around
        (w.1.1.0.1 e))
        (λ key. borrowed items q over Does_ Drops Store Coerce May I keeping Says fuel key unique base around (f around.aliases loops id key unique base w.1.1.1))
        (own_dest items q over Does_ Drops Store Coerce May I keeping Says fuel (is_never items ty) id to w.0 (carried items q over Does_ Drops Store Coerce May I keeping Says fuel to d.0))
    anywhere f (node id at ty by form) around loops a w own to d =
        evaluated (node id at ty by form) around loops a w own to
        ((carried items q over Does_ Drops Store Coerce May I keeping Says fuel to d.0, d.1), (λ b. absurd (false≢true b), λ h. d.0))
