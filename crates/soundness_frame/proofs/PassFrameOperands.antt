-- Operands, places and calls change only what may be changed, if what the node is told to do is allowed.
use Rattle.std.proofs.Common.{◌≡◌, ℕ, Bool, true, false, List, [], ◌∷◌, Option, Some, nat_lt, if◌then◌else◌, refl, ap, sym, ◌∙◌, subst}
use Rattle.std.proofs.lemmas.Bool.{false≢true}
use Rattle.mir_base.specs.declared.place_in_text.Pos.{Pos}
use Rattle.mir_ty.specs.declared.ty.TyId.{TyId}
use Rattle.mir_ty.specs.ItemTable.{ItemTable}
use Rattle.store_model.specs.Effects.{EffectSite, Operand, Action, Halt, Effects}
use Rattle.store_model.specs.Places.Place.{Place, whole_local}
use Rattle.typed_tree.specs.declared.node.Use.{Use}
use Rattle.typed_tree.specs.Nodes.{number_of}
use Rattle.typed_tree.specs.Tree as tree
use Rattle.typed_tree.specs.Tree.{Node, node, Form, Nodes, present}
use Rattle.src_meaning.specs.Evaluation as evaluation
use Rattle.src_meaning.specs.Evaluation.{meaning, meaning_of, meanings, values_of, insert_field, in_number_order, to_own_key}
use Rattle.src_meaning.specs.Forms as forms
use Rattle.src_meaning.specs.Forms.{Destination, Into, Coerced, coerced, LoopsAndGuards, Meaning, is_never, moved, all_moved, site_of, site_in}
use Rattle.src_meaning.specs.Locals.OfBody.{is_place_form}
use Rattle.src_meaning.specs.Scopes.{Does}
use Rattle.src_meaning.specs.Shape.{Aliases, NodeHead, head, Shape, shape_of, operand_at}
use Rattle.well_typed.specs.Places.{form_of, is_borrow}
use Rattle.soundness_frame.proofs.PassFrame as frame
use Rattle.soundness_frame.proofs.PassFrameActs.{is_plain, AllTake, Takes, AllowedSo, KeepingSo, DestSo}
use Rattle.soundness_values.proofs.PassHeads as heads
use Rattle.soundness_frame.proofs.PassWithin as within
use Rattle.soundness_frame.proofs.PassWithin.{is_among, if_place, Loose, carries, Outer, passing, DestIn, further_in}
use Rattle.soundness_frame.proofs.PassFrameHeads.{a_call, a_method, a_virtual, a_closure, moved_nodes, Calls, Telling, TellingCalls, cell_of, within_cell, reaching_cell, node_site_of, called, own_dest, carried, own_in, bound_with}

module _ {V : Type 0} (items : ItemTable) (q : Effects V) (over : Halt → V → Type 0) (Does_ : Action → Type 0)
    (Drops : EffectSite → Type 0) (Store Coerce May : Place → Type 0) (I : V → Type 0)
    (keeping : KeepingSo q over Does_ Drops Store Coerce May I) (Says : Aliases → Outer → ℕ → Form → Type 0)
    (fuel : ℕ) where
  abbrev M : Node → Meaning V
  M = meaning items q fuel

  abbrev Ms : Nodes → List (Meaning V)
  Ms = meanings items q fuel

  abbrev Of : Form → ℕ → TyId → Option Use → Meaning V
  Of form id ty by = meaning_of items q fuel form (head id ty by) (shape_of items form (head id ty by))

  abbrev Keeps : Does V → Type 0
  Keeps = frame.Keeps items q over Does_ Drops Store Coerce May I keeping

  abbrev Cell : ℕ → Type 0
  Cell key = May (whole_local key)

  abbrev Own : ℕ → Type 0
  Own key = Store (whole_local key)

  abbrev Within : Aliases → Outer → Node → Type 0
  Within = within.Within items May Says

  abbrev Reaching : Aliases → Outer → Node → Type 0
  Reaching = within.Reaching items May Says

  abbrev WithinIn : Aliases → Outer → ℕ → Form → Type 0
  WithinIn = within.WithinIn items May Says

  abbrev Around : LoopsAndGuards → Outer → Type 0
  Around = within.AroundSo Store Coerce

  abbrev Dest : Outer → Destination → Type 0
  Dest loops to = DestSo Store Coerce to × DestIn loops.keys to

  -- ---- operands

  pub all_taken : (at_node : ℕ) (around : LoopsAndGuards) (ms : List (Meaning V)) →
      frame.AllEvaluated items q over Does_ Drops Store Coerce May I keeping around ms → AllTake May
      (all_moved at_node ms)
  all_taken at_node around [] e = tt
  all_taken at_node around (m ∷ ms) e = (e.0.1, all_taken at_node around ms e.1)

  abbrev FieldCells : List (ℕ × Meaning V) → Type 0
  FieldCells [] = Unit {0}
  FieldCells (f ∷ fs) = Cell f.1.head.id × FieldCells fs

  pub field_cells : (around : LoopsAndGuards) (fs : List (ℕ × Meaning V)) →
      frame.AllEvaluated items q over Does_ Drops Store Coerce May I keeping around (values_of fs) → FieldCells fs
  field_cells around [] e = tt
  field_cells around (f ∷ fs) e = (e.0.1, field_cells around fs e.1)

  inserted : (n : ℕ) (m : Meaning V) (fs : List (ℕ × Meaning V)) → Cell m.head.id → FieldCells fs →
      FieldCells (insert_field n m fs)
  inserted n m [] c d = (c, tt)
  inserted n m (f ∷ fs) c d = by (nat_lt n f.0) (inserted n m fs c d.1)
    where
      by : (b : Bool) → FieldCells (insert_field n m fs) →
          FieldCells (if b then (n, m) ∷ f ∷ fs else f ∷ insert_field n m fs)
      by true e = (c, d)
      by false e = (d.0, e)

  pub ordered : (fs : List (ℕ × Meaning V)) → FieldCells fs → FieldCells (in_number_order fs)
  ordered [] d = tt
  ordered (f ∷ fs) d = inserted f.0 f.1 (in_number_order fs) d.0 (ordered fs d.1)

  pub fields_taken : (at_node : ℕ) (fs : List (ℕ × Meaning V)) → FieldCells fs →
      AllTake May (all_moved at_node (values_of fs))
  fields_taken at_node [] d = tt
  fields_taken at_node (f ∷ fs) d = (d.0, fields_taken at_node fs d.1)

  -- an effect after its operands
  delivered_kept : (h : NodeHead) (s : Shape) (ms : List (Meaning V)) (action : EffectSite → Action)
      (around : LoopsAndGuards) (own : Bool) (to : Destination) →
      frame.AllEvaluated items q over Does_ Drops Store Coerce May I keeping around ms →
      frame.Delivers items q over Does_ Drops Store Coerce May I keeping h action → Cell h.id → DestSo Store May to →
      Keeps ((evaluation.on_operands items q fuel h s ms action).evaluate around own to)
  delivered_kept h s ms action around own to e d c k =
      frame.acting_kept items q over Does_ Drops Store Coerce May I keeping h around own ms _ e
      (frame.deliver_kept items q over Does_ Drops Store Coerce May I keeping h action (to_own_key
      (is_never items h.ty) h.id to) d
      (own_dest items q over Does_ Drops Store Coerce May I keeping Says fuel (is_never items h.ty) h.id to c k))

  pub operands_kept : (h : NodeHead) (s : Shape) (ms : List (Meaning V)) (action : EffectSite → Action)
      (around : LoopsAndGuards) (own : Bool) (to : Destination) →
      frame.AllEvaluated items q over Does_ Drops Store Coerce May I keeping around ms →
      ((site : EffectSite) → is_plain (action site) ≡ true) →
      ((key : ℕ) → Own key → AllowedSo Store May (action (site_in h.id key))) → Cell h.id → DestSo Store May to →
      Keeps ((evaluation.on_operands items q fuel h s ms action).evaluate around own to)
  operands_kept h s ms action around own to e p d c k = delivered_kept h s ms action around own to e
      (frame.plainly items q over Does_ Drops Store Coerce May I keeping h action p d) c k

  pub effect_kept : (h : NodeHead) (s : Shape) (action : EffectSite → Action) (around : LoopsAndGuards) (own : Bool)
      (to : Destination) → ((site : EffectSite) → is_plain (action site) ≡ true) →
      ((key : ℕ) → Own key → AllowedSo Store May (action (site_in h.id key))) → Cell h.id →
      DestSo Store May to → Keeps ((evaluation.effect items q fuel h s action).evaluate around own to)
  effect_kept h s action around own to p d c k = frame.own_kept items q over Does_ Drops Store Coerce May I keeping h
      own _
      (frame.deliver_kept items q over Does_ Drops Store Coerce May I keeping h action (to_own_key
      (is_never items h.ty) h.id to)
      (frame.plainly items q over Does_ Drops Store Coerce May I keeping h action p d)
      (own_dest items q over Does_ Drops Store Coerce May I keeping Says fuel (is_never items h.ty) h.id to c k))

  pub gives_unit_kept : (h : NodeHead) (s : Shape) (m : Meaning V) (action : Operand → Action) (around : LoopsAndGuards)
      (own : Bool) (to : Destination) → frame.Evaluated items q over Does_ Drops Store Coerce May I keeping around m →
      AllowedSo Store May (action (moved h.id m.head.id)) → is_plain (action
      (moved h.id m.head.id)) ≡ true → Cell h.id →
      DestSo Store May to → Keeps ((evaluation.gives_unit items q fuel h s m action).evaluate around own to)
  gives_unit_kept h s m action around own to e a p c k =
      frame.acting_kept items q over Does_ Drops Store Coerce May I keeping h around own (m ∷ []) _ (e, tt)
      (frame.one_then items q over Does_ Drops Store Coerce May I keeping _ _
      (frame.acts_kept items q over Does_ Drops Store Coerce May I keeping (action (moved h.id m.head.id)) a p)
      (frame.unit_kept items q over Does_ Drops Store Coerce May I keeping h (to_own_key (is_never items h.ty) h.id to)
      (own_dest items q over Does_ Drops Store Coerce May I keeping Says fuel (is_never items h.ty) h.id to c k)))

  pub place_kept : (h : NodeHead) (s : Shape) (reach : LoopsAndGuards → Does V) (around : LoopsAndGuards) (own : Bool)
      (to : Destination) → Keeps (reach around) → Takes May (operand_at h (s.place around.aliases)) → Cell h.id →
      DestSo Store May to → Keeps ((evaluation.a_place items q fuel h s reach).evaluate around own to)
  place_kept h s reach around own to d t c k = frame.use_kept items q over Does_ Drops Store Coerce May I keeping h s
      reach around
      own
      (to_own_key (is_never items h.ty) h.id to) d t (own_dest items q over Does_ Drops Store Coerce May I keeping Says fuel (is_never items h.ty) h.id to c k)

  -- a value that is reached as a place is a temporary
  temporary_meant : (form : Form) (id : ℕ) (ty : TyId) (by : Option Use) → is_place_form form ≡ false →
      (Of form id ty by).reach
      ≡ forms.temporary items q (Of form id ty by).head (Of form id ty by).shape (Of form id ty by).evaluate
  temporary_meant (tree.Variable key) id ty by e = absurd (false≢true (sym e))
  temporary_meant (tree.Captured closure part name) id ty by e = absurd (false≢true (sym e))
  temporary_meant (tree.Field base part) id ty by e = absurd (false≢true (sym e))
  temporary_meant (tree.Index base index length) id ty by e = absurd (false≢true (sym e))
  temporary_meant (tree.Deref base) id ty by e = absurd (false≢true (sym e))
  temporary_meant form id ty by e = refl

  -- ---- a node inside, by what is known of its evaluation

  -- a borrow goes to its own cell; what hands its destination on has one that may be handed on
  abbrev pub Goes : Node → Outer → Destination → Type 0
  Goes n loops to = (DestSo Store May to × DestIn (number_of n ∷ loops.keys) to)
      × ((is_borrow (form_of n) ≡ true → to ≡ Into (number_of n)) × (carries (form_of n) ≡ true → DestSo Store Coerce
      to))

  own_among : (n : Node) (loops : Outer) → is_among (M n).head.id (number_of n ∷ loops.keys) ≡ true
  own_among n loops = subst (λ k. is_among k (number_of n ∷ loops.keys) ≡ true) (sym (heads.number_is items q fuel n))
      (own_in items q over Does_ Drops Store Coerce May I keeping Says fuel (number_of n) loops.keys)

  own_goes : (n : Node) (loops : Outer) → Cell (M n).head.id → Goes n loops (Into (M n).head.id)
  own_goes n loops c = (
    (keeping.stores (whole_local (M n).head.id) c, own_among n loops),
    (λ b. ap Into (heads.number_is items q fuel n), λ h. keeping.stores (whole_local (M n).head.id) c),
  )

  pub loose_goes : (n : Node) (loops : Outer) (to : Destination) → Loose n → Dest loops to → Goes n loops to
  loose_goes n loops to l d = (
    (carried items q over Does_ Drops Store Coerce May I keeping Says fuel to d.0, further_in (number_of n) loops.keys to d.1),
    (λ b. absurd (false≢true (sym l ∙ b)), λ h. d.0),
  )

  -- what is coerced is made in its own cell
  pub coerced_goes : (n : Node) (loops : Outer) (trait_no : ℕ) (to : Destination) → Loose n → carries (form_of n) ≡ false →
      DestSo Store May (coerced (M n).head.id trait_no to) → DestIn (number_of n ∷ loops.keys) to →
      Goes n loops (coerced (M n).head.id trait_no to)
  coerced_goes n loops trait_no to l w d k = (
    (d, keyed to k),
    (λ b. absurd (false≢true (sym l ∙ b)), λ h. absurd (false≢true (sym w ∙ h))),
  )
    where
      keyed : (to : Destination) → DestIn (number_of n ∷ loops.keys) to →
          DestIn (number_of n ∷ loops.keys) (coerced (M n).head.id trait_no to)
      keyed (Into key) e = (own_among n loops, e)
      keyed (Coerced key other to) e = (own_among n loops, e.1)

  abbrev Evaluates : Node → LoopsAndGuards → Outer → Type 0
  Evaluates n around loops =
      (own : Bool) (to : Destination) → Goes n loops to → Keeps ((M n).evaluate around own to)

  -- one whose value is made in a cell of its own
  pub operand_from : (n : Node) (around : LoopsAndGuards) (loops : Outer) → Within around.aliases loops n →
      Evaluates n around loops → frame.Evaluated items q over Does_ Drops Store Coerce May I keeping around (M n)
  operand_from n around loops w e =
      let c = within_cell items q over Does_ Drops Store Coerce May I keeping Says fuel n around.aliases loops w in (e false (Into (M n).head.id) (own_goes n loops c), c)

  pub alone_from : (n : Node) (around : LoopsAndGuards) (loops : Outer) → Evaluates n around loops → (to : Destination) →
      Goes n loops to → Keeps (forms.alone items q around (M n) to)
  alone_from n around loops e to d = frame.alone_kept items q over Does_ Drops Store Coerce May I keeping around (M n)
      to
      (e true to d)

  pub body_from : (n : Node) (around : LoopsAndGuards) (loops : Outer) → Within around.aliases loops n →
      Evaluates n around loops → Keeps (evaluation.body_in items q fuel (M n) around)
  body_from n around loops w e =
      alone_from n around loops e (Into (M n).head.id) (own_goes n loops (within_cell items q over Does_ Drops Store Coerce May I keeping Says fuel n around.aliases loops w))

  pub condition_from : (n : Node) (around : LoopsAndGuards) (loops : Outer) → Within around.aliases loops n →
      Evaluates n around loops → (f g : Does V) → Keeps f → Keeps g → Keeps (forms.condition items q around (M n) f g)
  condition_from n around loops w e f g x y =
      let c = within_cell items q over Does_ Drops Store Coerce May I keeping Says fuel n around.aliases loops w in
      frame.condition_kept items q over Does_ Drops Store Coerce May I keeping around (M n) f g
      (e true (Into (M n).head.id) (own_goes n loops c)) c x y

  pub by_place : (form : Form) (id : ℕ) (at : Pos) (ty : TyId) (by : Option Use) (around : LoopsAndGuards)
      (loops : Outer) → Cell id → (b : Bool) → is_place_form form ≡ b →
      (is_place_form form ≡ true → Keeps ((Of form id ty by).reach around)) →
      (if_place (is_place_form form)
      (Takes May (operand_at (head id ty by) ((shape_of items form (head id ty by)).place around.aliases))) →
      (to : Destination) → Goes (node id at ty by form) loops to → Keeps ((Of form id ty by).evaluate around false to))
      →
      Keeps ((Of form id ty by).reach around)
  by_place form id at ty by around loops own true p place value = place p
  by_place form id at ty by around loops own false p place value =
      let c = cell_of items q over Does_ Drops Store Coerce May I keeping Says fuel (node id at ty by form) own in
      subst (λ (r : LoopsAndGuards → Does V). Keeps (r around)) (sym (temporary_meant form id ty by p))
      (frame.temporary_kept items q over Does_ Drops Store Coerce May I keeping (Of form id ty by).head
      (Of form id ty by).shape
      (Of form id ty by).evaluate around
      (value (subst (λ b. if_place b
      (Takes May (operand_at (head id ty by) ((shape_of items form (head id ty by)).place around.aliases)))) (sym p) tt)
      (Into (Of form id ty by).head.id) (own_goes (node id at ty by form) loops c)) c)

  pub on_all : (id : ℕ) (ty : TyId) (by : Option Use) (s : Shape) (ms : List (Meaning V))
      (action : EffectSite → List Operand → Action) (around : LoopsAndGuards) (own : Bool) (to : Destination) →
      frame.AllEvaluated items q over Does_ Drops Store Coerce May I keeping around ms →
      ((key : ℕ) → Own key → AllTake May (all_moved id ms) →
      AllowedSo Store May (action (site_in id key) (all_moved id ms))) →
      ((key : ℕ) → Does_ (action (site_in id key) (all_moved id ms))) → Cell id → DestSo Store May to →
      Keeps ((evaluation.on_all items q fuel (head id ty by) s ms action).evaluate around own to)
  on_all id ty by s ms action around own to e d does c k =
      delivered_kept (head id ty by) s ms (λ site. action site (all_moved id ms)) around own to e
      (λ key x. (d key x (all_taken id around ms e), does key)) c k

  pub let_from : (form : Form) (pid : ℕ) (pat : Pos) (pty : TyId) (pby : Option Use) (value : Node) (id : ℕ) (ty : TyId)
      (by : Option Use) (around : LoopsAndGuards) (loops : Outer) →
      WithinIn around.aliases loops id (tree.Let (node pid pat pty pby form) (present value)) →
      (Within around.aliases (passing pid (passing id loops)) value →
      Evaluates value around (passing pid (passing id loops))) →
      (Reaching around.aliases (passing id loops) value → Keeps ((M value).reach around)) →
      Keeps (forms.letting items q (head id ty by) (M (node pid pat pty pby form)) (Some (M value)) around)
  let_from (tree.Binding name) pid pat pty pby value id ty by around loops w e r =
      frame.let_name_kept items q over Does_ Drops Store Coerce May I keeping (head id ty by) (head pid pty pby)
      (M value) around
      (e w.1.1 false (Into pid) (loose_goes value (passing pid (passing id loops)) (Into pid) w.1.0
      (keeping.stores (whole_local pid) w.0, own_in items q over Does_ Drops Store Coerce May I keeping Says fuel pid (passing id loops).keys))) w.0
  let_from form pid pat pty pby value id ty by around loops w e r =
      frame.let_parts_kept items q over Does_ Drops Store Coerce May I keeping (head id ty by) (M
      (node pid pat pty pby form))
      (M value) around
      (r w.0) (reaching_cell items q over Does_ Drops Store Coerce May I keeping Says fuel value around.aliases (passing id loops) w.0) (bound_with items q over Does_ Drops Store Coerce May I keeping Says fuel (node pid pat pty pby form) value
      around w.1)

  -- ---- calls

  -- what is known of each form that calls, once its arguments keep it
  pub record AtCalls : Type 0 where
    pub called_kept : (form : Form) (ns : Nodes) (action : EffectSite → List Operand → Action) → Calls form ns action →
        (id : ℕ) (ty : TyId) (by : Option Use) (s : Shape) (around : LoopsAndGuards) (loops : Outer) →
        Around around (passing id loops) → within.AllWithin items May Says around.aliases (passing id loops) ns →
        Says around.aliases loops id form →
        frame.AllEvaluated items q over Does_ Drops Store Coerce May I keeping around (Ms ns) → Cell id → (own : Bool)
        (to : Destination) → DestSo Store May to →
        Keeps ((evaluation.on_all items q fuel (head id ty by) s (Ms ns) action).evaluate around own to)

  pub called_allowed : (form : Form) (ns : Nodes) (action : EffectSite → List Operand → Action) → Calls form ns action →
      (id key : ℕ) (args : List Operand) → Own key → AllTake May args → AllowedSo Store May
      (action (site_in id key) args)
  called_allowed _ _ _ (a_call body args) id key operands c t = (c, t)
  called_allowed _ _ _ (a_method body receiver args) id key operands c t = (c, t)
  called_allowed _ _ _ (a_virtual trait_no method receiver args) id key operands c t = (c, t)
  called_allowed _ _ _ (a_closure body callee args) id key operands c t = (c, t)

  told_of : TellingCalls Does_ Says → (form : Form) (ns : Nodes)
      (action : EffectSite → List Operand → Action) → Calls form ns action → (aliases : Aliases) (loops : Outer)
      (id key : ℕ) → Says aliases loops id form → Does_ (action (site_in id key) (moved_nodes id ns))
  told_of known _ _ _ (a_call body args) aliases loops id key s = known.calls aliases loops id key body args s
  told_of known _ _ _ (a_method body receiver args) aliases loops id key s =
      known.methods aliases loops id key body receiver args s
  told_of known _ _ _ (a_virtual trait_no method receiver args) aliases loops id key s =
      known.virtuals aliases loops id key trait_no method receiver args s
  told_of known _ _ _ (a_closure body callee args) aliases loops id key s =
      known.closures aliases loops id key body callee args s

  -- by what the text tells of calls alone
  pub by_telling : TellingCalls Does_ Says → AtCalls
  by_telling known = record {
    called_kept = λ form ns action c id ty by s around loops a w says e own_cell own to d.
        on_all id ty by s (Ms ns) action around own to e
        (λ key x t. called_allowed form ns action c id key (all_moved id (Ms ns)) x t)
        (λ key. called items q over Does_ Drops Store Coerce May I keeping Says fuel id ns (action (site_in id key))
        (told_of known form ns action c around.aliases loops id key says)) own_cell d;
  }
