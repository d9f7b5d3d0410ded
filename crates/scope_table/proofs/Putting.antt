-- Each form puts entries where the table says, if its parts do.
use Rattle.std.proofs.Common.{◌≡◌, ◌∙◌, ℕ, Bool, true, false, not, ◌||◌, List, [], ◌∷◌, ◌++◌, map, length, Option, Some, None, refl, sym, ap, subst}
use Rattle.std.proofs.lemmas.Bool.{false≢true}
use Rattle.mir_base.specs.declared.place_in_text.NodeId.{NodeId}
use Rattle.mir_base.specs.declared.place_in_text.Pos.{Pos}
use Rattle.mir_base.specs.declared.trace.Why.{Why}
use Rattle.mir_ty.specs.declared.ty.TyId.{TyId}
use Rattle.mir_ty.specs.ItemTable.{ItemTable}
use Rattle.scope_table.proofs.Entering.{entered_append, entered_missing, Missing}
use Rattle.scope_table.proofs.Naming.{named_in, names}
use Rattle.scope_table.proofs.Passing.{of_reached, in_node, in_form, of_alone, arms_in}
use Rattle.scope_table.proofs.Rules.{innermost_keeps, around_puts, innermost_apart, stands_inside, stands_alone, ends_with, Nothing, acts_nothing, panics_nothing, both_nothing, deliver_nothing, unit_nothing, unit_if_nothing, alone_nothing, pending_nothing, pending_nearest, complete_enters, complete_nearest, acting_enters, dropping_enters, assigning_enters, condition_nothing, branch_nothing, bind_enters, put_innermost, declared_enters, touched_nothing, arm_nothing, taken_enters, then_stops, ends_nothing, turns_nothing}
use Rattle.scope_table.proofs.Runs.{then_enters, then_nothing, alike, of_missing, at_value, changing_enters, around_of, scope_enters}
use Rattle.scope_table.specs.declared.row.MadeAround.{MadeAround}
use Rattle.scope_table.specs.declared.row.ScopeRow.{ScopeRow}
use Rattle.scope_table.specs.declared.row.Within.{Within}
use Rattle.scope_table.specs.Law.{ScopeHead, head_of, Held, held, enter, enter_if_any, entered, waiting, IsInnermost, IsNearest, StandsIn, IsNew, Enters, made_in, Puts}
use Rattle.scope_table.specs.Table.{nothing, named, both_in, inner, row, entry_in, made_if_value, reached_in, pending_in, temporary_of, alone, is_idle, has_destination, pattern_rows, name_in, let_name, pending_if_value, initial, rows, rows_in, alone_if_any, operand_rows, field_rows, statement_rows, rows_if_any, let_rows, rows_of_arms, form_of}
use Rattle.src_meaning.specs.Evaluation as evaluation
use Rattle.src_meaning.specs.Evaluation.{Evaluates, values_of, in_number_order, to_own_key, a_value, a_place, drops, otherwise_unit, body_in, coerce, meaning, meaning_of, meanings, fields_of, meaning_if_any}
use Rattle.src_meaning.specs.Forms as forms
use Rattle.src_meaning.specs.Forms.{Destination, Into, coerced, LoopsAndGuards, in_loop, loop_destination, Meaning, entry_of, bound_entry, site_of_key, moved, all_moved, pending_if, complete, operand, operands, acts, deliver, scrutinised, touched, arms_in_order, statements, tail_of, is_never, place_of, site_of}
use Rattle.src_meaning.specs.Locals.OfBody.{is_place_form}
use Rattle.src_meaning.specs.Scopes.{Entry, Scopes, innermost, around_innermost, nearest_temporary, with_entry, with_pending, without_pending, Value, Breaks, Returns, At, Does, ◌>>◌, changing}
use Rattle.src_meaning.specs.Shape.{NodeHead, head, Shape, site_at, kind_of, operand_at, shape, shape_of}
use Rattle.store_model.specs.Effects as effects
use Rattle.store_model.specs.Effects.{EffectSite, Action, Effects}
use Rattle.store_model.specs.Places.Place.{Place, whole_local}
use Rattle.typed_tree.specs.declared.node.Use.{Use}
use Rattle.typed_tree.specs.Nodes.{number_of, nodes_of, nodes_in, nodes_among, nodes_of_fields, nodes_if_any}
use Rattle.typed_tree.specs.Tree.{Node, node, Form, Nodes, no_node, a_node, Fields, no_field, a_field, MaybeNode, absent, present, Number, Truth, UnitValue, Variable, Captured, Field, Index, Deref, Not, Negate, Arithmetic, Comparison, And, Or, Assign, Call, MethodCall, VirtualCall, ClosureCall, Make, Tuple, Array, Closure, NewBox, Print, Ask, DropValue, Forget, Panic, Borrow, Unsize, Block, Let, Evaluate, If, IfLet, Match, Arm, Loop, While, WhileLet, Break, Continue, Return, Wildcard, Binding, NumberPattern, TruthPattern, StructPattern, VariantPattern, TuplePattern, ArrayPattern, OrPattern}
use Rattle.scope_table.proofs.Fresh.{Differs, Fresh, fresh_left, fresh_right, fresh_missing, fresh_inside, fresh_of}
use Rattle.scope_table.proofs.OneName.{Kind, one_name, no_name, kind_in, destination_same}
use Rattle.scope_table.proofs.Waiting.{innermost_is, nearest_is, waits, entry_either}

module _ {W : Type 0} (items : ItemTable) (p : Effects W) (fuel : ℕ) where
  -- what a node does with the entries of scopes, in each of its roles
  pub record Placed (n : Node) (m : Meaning W) : Type 0 where
    pub number : m.head.id ≡ number_of n
    pub shaped : m.shape ≡ shape items n
    pub evaluated : (heads : List ScopeHead) (w : Within) → StandsIn w heads → Fresh heads (nodes_of n) → (around : LoopsAndGuards) (to : Destination) →
        Enters heads (rows w nothing n) (m.evaluate around false to)
    pub completed : (heads : List ScopeHead) (w : Within) → StandsIn w heads → Fresh heads (nodes_of n) → (made : MadeAround) → made.entry ≡ Some w.innermost → (b : Bool) (around : LoopsAndGuards) →
        Enters heads (rows w made n) (pending_if items p b innermost m.head >> (m.evaluate around false (Into m.head.id) >> complete items p innermost m.head))
    pub reached : (heads : List ScopeHead) (w : Within) → StandsIn w heads → Fresh heads (nodes_of n) → (made : MadeAround) → made.entry ≡ (reached_in w.temporary n).entry → (around : LoopsAndGuards) →
        Enters heads (rows w made n) (m.reach around)
    pub waited : is_place_form (form_of n) ≡ false → m.reach ≡ forms.temporary items p m.head m.shape m.evaluate
    pub taken : (matched : Place) (otherwise : Does W) → Nothing items p otherwise → (around : LoopsAndGuards) (to : Destination) → Nothing items p (m.arm matched otherwise around to)

  -- The roles of a node, by what is in it.

  module _ (id : ℕ) (at : Pos) (ty : TyId) (by : Option Use) (form : Form) where
    -- what is in the node makes the entries of its rows
    abbrev Inside : (LoopsAndGuards → Does W) → Type 0
    Inside f = (heads : List ScopeHead) (w : Within) → StandsIn w heads → Fresh heads (nodes_of (node id at ty by form)) → (around : LoopsAndGuards) → Enters heads (rows_in w (named id) form) (f around)

    with_own : (heads : List ScopeHead) (w : Within) (made : MadeAround) (f : Does W) → Enters heads (rows_in w (named id) form ++ row (named id) (temporary_of (named id) form w.temporary) made ∷ []) f → Enters heads (rows w made (node id at ty by form)) f
    with_own heads w made f enters =
        let own = row (named id) (temporary_of (named id) form w.temporary) made in
        alike heads (rows_in w (named id) form ++ own ∷ []) (rows w made (node id at ty by form)) f
        (λ H is. entered_append (rows_in w (named id) form) (own ∷ []) H ∙ sym (ends_with (rows_in w (named id) form) (is_idle form) w.temporary (nodes_in form) own H)) enters

    without_own : (heads : List ScopeHead) (w : Within) (made : MadeAround) (f : Does W) → made.entry ≡ None → Enters heads (rows_in w (named id) form) f → Enters heads (rows w made (node id at ty by form)) f
    without_own heads w made f none enters =
        let own = row (named id) (temporary_of (named id) form w.temporary) made in
        alike heads (rows_in w (named id) form) (rows w made (node id at ty by form)) f
        (λ H is. sym (ends_with (rows_in w (named id) form) (is_idle form) w.temporary (nodes_in form) own H ∙ ap (λ (o : Option NodeId). enter_if_any o (named id) (entered (rows_in w (named id) form) H)) none)) enters

    completes : (e : Evaluates items p fuel) → ((to : Destination) → Inside (λ around. e around false to)) → (heads : List ScopeHead) (w : Within) → StandsIn w heads → Fresh heads (nodes_of (node id at ty by form)) → (made : MadeAround) → made.entry ≡ Some w.innermost → (b : Bool) (around : LoopsAndGuards) →
        Enters heads (rows w made (node id at ty by form)) (pending_if items p b innermost (head id ty by) >> (e around false (Into id) >> complete items p innermost (head id ty by)))
    completes e inside heads w st g made is b around =
        let h = head id ty by in
        let own = row (named id) (temporary_of (named id) form w.temporary) made in
        let A = rows_in w (named id) form in
        with_own heads w made _
        (then_enters heads [] (A ++ own ∷ []) (pending_if items p b innermost h) (e around false (Into id) >> complete items p innermost h) (pending_nothing items p b h heads)
        (then_enters heads A (own ∷ []) (e around false (Into id)) (complete items p innermost h) (inside (Into id) heads w st g around)
        (complete_enters items p heads w.innermost own h st.innermost is refl)))

    abbrev own_meaning : Meaning W
    own_meaning = meaning_of items p fuel form (head id ty by) (shape_of items form (head id ty by))

    abbrev TakenAsArm : Type 0
    TakenAsArm = (matched : Place) (otherwise : Does W) → Nothing items p otherwise → (around : LoopsAndGuards) (to : Destination) → Nothing items p (own_meaning.arm matched otherwise around to)

    all_roles : own_meaning.head ≡ head id ty by → own_meaning.shape ≡ shape_of items form (head id ty by) → TakenAsArm → ((to : Destination) → Inside (λ around. own_meaning.evaluate around false to)) →
        ((heads : List ScopeHead) (w : Within) → StandsIn w heads → Fresh heads (nodes_of (node id at ty by form)) → (made : MadeAround) → made.entry ≡ (reached_in w.temporary (node id at ty by form)).entry → (around : LoopsAndGuards) → Enters heads (rows w made (node id at ty by form)) (own_meaning.reach around)) →
        (is_place_form form ≡ false → own_meaning.reach ≡ forms.temporary items p own_meaning.head own_meaning.shape own_meaning.evaluate) →
        Placed (node id at ty by form) own_meaning
    all_roles is_head shaped arms inside reach waited = record {
      number = ap (λ (h : NodeHead). h.id) is_head;
      shaped = shaped;
      evaluated = λ heads w st g around to. without_own heads w nothing (own_meaning.evaluate around false to) refl (inside to heads w st g around);
      completed = λ heads w st g made is b around.
          subst (λ (h : NodeHead). Enters heads (rows w made (node id at ty by form)) (pending_if items p b innermost h >> (own_meaning.evaluate around false (Into h.id) >> complete items p innermost h)))
          (sym is_head) (completes own_meaning.evaluate inside heads w st g made is b around);
      reached = reach;
      waited = waited;
      taken = arms;
    }

    -- a value, whose place is a temporary
    of_value : own_meaning.head ≡ head id ty by → own_meaning.shape ≡ shape_of items form (head id ty by) → own_meaning.reach ≡ forms.temporary items p (head id ty by) own_meaning.shape own_meaning.evaluate → is_place_form form ≡ false → TakenAsArm →
        ((to : Destination) → Inside (λ around. own_meaning.evaluate around false to)) → Placed (node id at ty by form) own_meaning
    of_value is_head shaped is_reach no_place arms inside =
        all_roles is_head shaped arms inside
        (λ heads w st g made is around.
        let h = head id ty by in
        let e = own_meaning.evaluate in
        let b = own_meaning.shape.in_destination in
        let own = row (named id) (temporary_of (named id) form w.temporary) made in
        let A = rows_in w (named id) form in
        let entry : made.entry ≡ Some w.temporary = is ∙ ap (λ (b : Bool). (made_if_value b (entry_in w.temporary (node id at ty by form))).entry) no_place in
        subst (λ (r : LoopsAndGuards → Does W). Enters heads (rows w made (node id at ty by form)) (r around)) (sym is_reach)
        (with_own heads w made (pending_if items p b nearest_temporary h >> (e around false (Into id) >> complete items p nearest_temporary h))
        (then_enters heads [] (A ++ own ∷ []) (pending_if items p b nearest_temporary h) (e around false (Into id) >> complete items p nearest_temporary h) (pending_nearest items p b h heads)
        (then_enters heads A (own ∷ []) (e around false (Into id)) (complete items p nearest_temporary h) (inside (Into id) heads w st g around)
        (complete_nearest items p heads w.temporary own h st.nearest entry refl)))))
        (λ no_place. is_reach ∙ ap (λ (h : NodeHead). forms.temporary items p h own_meaning.shape own_meaning.evaluate) (sym is_head))

    of_place : own_meaning.head ≡ head id ty by → own_meaning.shape ≡ shape_of items form (head id ty by) →
        own_meaning.evaluate ≡ evaluation.made_in items p fuel (head id ty by) (forms.use_of_place items p (head id ty by) own_meaning.shape own_meaning.reach) → is_place_form form ≡ true → TakenAsArm → Inside own_meaning.reach →
        Placed (node id at ty by form) own_meaning
    of_place is_head shaped is_use is_place arms inside =
        all_roles is_head shaped arms
        (λ to heads w st g around.
        let last = to_own_key (is_never items ty) id to in
        let used = λ (around : LoopsAndGuards) (site : EffectSite). effects.Put site (operand_at (head id ty by) (own_meaning.shape.place around.aliases)) in
        subst (λ (e : Evaluates items p fuel). Enters heads (rows_in w (named id) form) (e around false to)) (sym is_use)
        (then_nothing heads (rows_in w (named id) form) (own_meaning.reach around) (deliver items p (head id ty by) (used around) last) (inside heads w st g around) (deliver_nothing items p (head id ty by) (used around) last heads)))
        (λ heads w st g made is around.
        without_own heads w made (own_meaning.reach around) (is ∙ ap (λ (b : Bool). (made_if_value b (entry_in w.temporary (node id at ty by form))).entry) is_place) (inside heads w st g around))
        (λ no_place. absurd (false≢true (sym no_place ∙ is_place)))

    -- what leaves the scopes around it as they were: what it makes goes into scopes of its own
    of_closed : (f : LoopsAndGuards → Does W) → ((heads : List ScopeHead) → Missing heads id × (Differs id (nodes_in form) × Fresh heads (nodes_in form)) → (around : LoopsAndGuards) → Enters heads [] (f around)) →
        ((w : Within) → rows_in w (named id) form ≡ rows_in (both_in (named id)) (named id) form) → Inside f
    of_closed f made same heads w st g around =
        subst (λ (A : List ScopeRow). Enters heads A (f around)) (sym (same w))
        (of_missing heads (rows_in (both_in (named id)) (named id) form) (f around)
        (in_form (Missing heads) (both_in (named id)) id form g.0 g.0 g.0 (fresh_missing heads (nodes_in form) g.1.1))
        (made heads g around))

  -- Parts in their roles.

  abbrev mean : Node → Meaning W
  mean n = meaning items p fuel n

  abbrev means : Nodes → List (Meaning W)
  means nodes = meanings items p fuel nodes

  abbrev any : MaybeNode → Option (Meaning W)
  any o = meaning_if_any items p fuel o

  operand_in : (n : Node) (m : Meaning W) → Placed n m → (heads : List ScopeHead) (w : Within) → StandsIn w heads → Fresh heads (nodes_of n) → (around : LoopsAndGuards) → Enters heads (rows w (entry_in w.innermost n) n) (operand items p around m)
  operand_in n m placed heads w st g around = placed.completed heads w st g (entry_in w.innermost n) refl m.shape.in_destination around

  one_operand : (n : Node) (m : Meaning W) → Placed n m → (heads : List ScopeHead) (w : Within) → StandsIn w heads → Fresh heads (nodes_of n) → (around : LoopsAndGuards) → Enters heads (rows w (entry_in w.innermost n) n) (operands items p around (m ∷ []))
  one_operand n m placed heads w st g around =
      then_nothing heads (rows w (entry_in w.innermost n) n) (operand items p around m) (At Value) (operand_in n m placed heads w st g around) (at_value heads)

  pub scrutinised_in : (n : Node) (m : Meaning W) → Placed n m → (heads : List ScopeHead) (w : Within) → StandsIn w heads → Fresh heads (nodes_of n) → (around : LoopsAndGuards) → Enters heads (rows w (reached_in w.temporary n) n) (scrutinised items p around m)
  scrutinised_in n m placed heads w st g around =
      then_nothing heads (rows w (reached_in w.temporary n) n) (m.reach around) (touched items p m.shape.is_place (site_of m around)) (placed.reached heads w st g (reached_in w.temporary n) refl around)
      (touched_nothing items p m.shape.is_place (site_of m around) heads)

  taken_closed : (h : NodeHead) (n : Node) (m : Meaning W) → Placed n m → (pattern : Meaning W) (body otherwise : Does W) → Nothing items p body → Nothing items p otherwise → (heads : List ScopeHead) → Missing heads h.id → Fresh heads (nodes_of n) → Fresh (record { node = h.id; for_temporaries = true } ∷ heads) (nodes_of n) → (around : LoopsAndGuards) → Enters heads [] (forms.if_taken items p h around pattern m body otherwise)
  taken_closed h n m placed pattern body otherwise one another heads missing g inner_g around =
      let own = named h.id in
      let A = rows (both_in own) (reached_in own n) n in
      alike heads A [] (forms.if_taken items p h around pattern m body otherwise)
      (λ H is. entered_missing heads A H is (in_node (Missing heads) (both_in own) (reached_in own n) n missing missing (of_reached (Missing heads) own n missing) (fresh_missing heads (nodes_of n) g)))
      (taken_enters items p heads A h around pattern m body otherwise missing
      (placed.reached (record { node = h.id; for_temporaries = true } ∷ heads) (both_in own) (stands_alone heads h.id) inner_g (reached_in own n) refl around) one another)

  tail_in : (h : NodeHead) (o : MaybeNode) (heads : List ScopeHead) → Fresh heads (nodes_if_any o) → (around : LoopsAndGuards) (to : Destination) → Enters heads (alone_if_any o) (tail_of items p h (any o) around to)
  tail_in h absent heads g around to = unit_if_nothing items p (is_never items h.ty) h to heads
  tail_in h (present n) heads g around to =
      of_missing heads (rows (alone n) nothing n) (forms.alone items p around (mean n) to) (of_alone (Missing heads) n (fresh_missing heads (nodes_of n) g)) (alone_nothing items p around (mean n) to heads)

  -- Names.

  abbrev first_node : List ScopeHead → ℕ
  first_node [] = 0
  first_node (h ∷ heads) = h.node

  abbrev later : List ScopeHead → List ScopeHead
  later [] = []
  later (h ∷ heads) = heads

  put_around : (heads : List ScopeHead) (i : NodeId) (id : ℕ) → IsInnermost i heads → Missing heads id → (b : Entry) (S : Scopes) → map head_of S ≡ record { node = id; for_temporaries = true } ∷ heads → held (around_innermost (with_entry b) S) ≡ enter i.0 b.key (held S)
  put_around heads i id in_i missing b [] is = absurd (let never : [] ≡ record { node = id; for_temporaries = true } ∷ heads = is in cc)
  put_around heads i id in_i missing b (s ∷ S) is =
      around_puts (with_entry b) b.key (λ s. refl) i s S
      (λ same. innermost_apart i id heads in_i missing (sym (ap first_node is) ∙ same))
      (subst (IsInnermost i) (sym (ap later is)) in_i)

  pub names_of : (t : NodeId) (name : MadeAround) (scope : NodeId) → name.entry ≡ Some scope → (n : Node) (m : Meaning W) → m.shape ≡ shape items n → (place : Place) (H : Held) → entered (pattern_rows t name n) H ≡ named_in scope.0 (m.shape.bindings place) H
  names_of t name scope is n m shaped place H =
      names items t name scope is n place H ∙ ap (λ (s : Shape). named_in scope.0 (s.bindings place) H) (sym shaped)

  module _ (h : NodeHead) (value : Node) (pm m : Meaning W) (placed : Placed value m) (heads : List ScopeHead) (w : Within) (st : StandsIn w heads) (missing : Missing heads h.id) (g : Fresh (record { node = h.id; for_temporaries = true } ∷ heads) (nodes_of value)) (around : LoopsAndGuards) where
    abbrev within_let : List ScopeHead
    within_let = record { node = h.id; for_temporaries = true } ∷ heads

    let_one : (pid : ℕ) (pat : Pos) (pty : TyId) (pby : Option Use) (text : List ℕ) → pm.head.id ≡ pid → Enters heads (let_rows (named h.id) w.innermost (node pid pat pty pby (Binding text)) (present value)) (forms.let_name items p h pm.head m around)
    let_one pid pat pty pby text number =
        let own = named h.id in
        let x = pm.head in
        let A = rows (both_in own) nothing value in
        let B = pattern_rows own (let_name own w.innermost (Binding text)) (node pid pat pty pby (Binding text)) in
        let last : Does W = changing (around_innermost (with_entry (entry_of x))) in
        let gone : Does W = changing (innermost (without_pending (entry_of x))) in
        scope_enters items p heads (A ++ B) h.id true _ missing
        (around_of within_let (A ++ B) (pending_if items p true innermost x >> (m.evaluate around false (Into x.id) >> (gone >> last)))
        (then_enters within_let [] (A ++ B) (pending_if items p true innermost x) (m.evaluate around false (Into x.id) >> (gone >> last)) (pending_nothing items p true x within_let)
        (then_enters within_let A B (m.evaluate around false (Into x.id)) (gone >> last) (placed.evaluated within_let (both_in own) (stands_alone heads h.id) g around (Into x.id))
        (then_enters within_let [] B gone last (changing_enters within_let [] _ (λ S is. innermost_keeps (without_pending (entry_of x)) (λ s. refl) S))
        (changing_enters within_let B _ (λ S is. put_around heads w.innermost h.id st.innermost missing (entry_of x) S is ∙ ap (λ (key : ℕ). enter w.innermost.0 key (held S)) number))))))

    let_more : (pattern : Node) → pm.shape ≡ shape items pattern → initial (named h.id) (form_of pattern) value ≡ pending_if_value (named h.id) value → (let_name (named h.id) w.innermost (form_of pattern)).entry ≡ Some w.innermost →
        Enters heads (let_rows (named h.id) w.innermost pattern (present value)) (forms.let_parts items p h pm m around)
    let_more pattern shaped first name =
        let own = named h.id in
        let made = initial own (form_of pattern) value in
        let A = rows (both_in own) made value in
        let B = pattern_rows own (let_name own w.innermost (form_of pattern)) pattern in
        let bounds = pm.shape.bindings (place_of m around) in
        let b = not (m.shape.is_place || m.shape.in_destination) in
        let bound : Does W = forms.bind items p around_innermost bounds in
        let entry : made.entry ≡ (reached_in own value).entry = ap (λ (made : MadeAround). made.entry) first ∙ entry_either (is_place_form (form_of value)) own value in
        scope_enters items p heads (A ++ B) h.id true _ missing
        (around_of within_let (A ++ B) (pending_if items p b innermost m.head >> (m.reach around >> bound))
        (then_enters within_let [] (A ++ B) (pending_if items p b innermost m.head) (m.reach around >> bound) (pending_nothing items p b m.head within_let)
        (then_enters within_let A B (m.reach around) bound (placed.reached within_let (both_in own) (stands_alone heads h.id) g made entry around)
        (bind_enters items p within_let w.innermost.0 around_innermost (λ one S is. put_around heads w.innermost h.id st.innermost missing (bound_entry one) S is) B bounds
        (λ H. names_of own (let_name own w.innermost (form_of pattern)) w.innermost name pattern pm shaped (place_of m around) H)))))

    let_value_in : (pattern : Node) → Placed pattern pm → Enters heads (let_rows (named h.id) w.innermost pattern (present value)) (forms.let_value items p pm.shape.is_binding h pm m around)
    let_value_in (node pid pat pty pby form) of_pattern = by form (kind_in form) of_pattern.number of_pattern.shaped
      where
        by : (form : Form) → Kind form → pm.head.id ≡ pid → pm.shape ≡ shape_of items form (head pid pty pby) → Enters heads (let_rows (named h.id) w.innermost (node pid pat pty pby form) (present value)) (forms.let_value items p pm.shape.is_binding h pm m around)
        by _ (one_name text) number shaped =
            subst (λ (b : Bool). Enters heads (let_rows (named h.id) w.innermost (node pid pat pty pby (Binding text)) (present value)) (forms.let_value items p b h pm m around))
            (sym (ap (λ (s : Shape). s.is_binding) shaped)) (let_one pid pat pty pby text number)
        by _ (no_name form none first name unnamed role) number shaped =
            subst (λ (b : Bool). Enters heads (let_rows (named h.id) w.innermost (node pid pat pty pby form) (present value)) (forms.let_value items p b h pm m around))
            (sym (ap (λ (s : Shape). s.is_binding) shaped ∙ none items (head pid pty pby))) (let_more (node pid pat pty pby form) shaped (first (named h.id) value) (name (named h.id) w.innermost))

  -- One line a form.
  mutual
    pub law : (n : Node) → Placed n (meaning items p fuel n)
    law (node id at ty by form) = law_of id at ty by form

    pub operands_law : (nodes : Nodes) (heads : List ScopeHead) (w : Within) → StandsIn w heads → Fresh heads (nodes_among nodes) → (around : LoopsAndGuards) → Enters heads (operand_rows w w.innermost nodes) (operands items p around (means nodes))
    operands_law no_node heads w st g around = at_value heads
    operands_law (a_node first rest) heads w st g around =
        then_enters heads (rows w (entry_in w.innermost first) first) (operand_rows w w.innermost rest) (operand items p around (mean first)) (operands items p around (means rest))
        (operand_in first (mean first) (law first) heads w st (fresh_left heads (nodes_of first) (nodes_among rest) g) around)
        (operands_law rest heads w st (fresh_right heads (nodes_of first) (nodes_among rest) g) around)

    fields_law : (fields : Fields) (heads : List ScopeHead) (w : Within) → StandsIn w heads → Fresh heads (nodes_of_fields fields) → (around : LoopsAndGuards) → Enters heads (field_rows w w.innermost fields) (operands items p around (values_of (fields_of items p fuel fields)))
    fields_law no_field heads w st g around = at_value heads
    fields_law (a_field number value rest) heads w st g around =
        then_enters heads (rows w (entry_in w.innermost value) value) (field_rows w w.innermost rest) (operand items p around (mean value)) (operands items p around (values_of (fields_of items p fuel rest)))
        (operand_in value (mean value) (law value) heads w st (fresh_left heads (nodes_of value) (nodes_of_fields rest) g) around)
        (fields_law rest heads w st (fresh_right heads (nodes_of value) (nodes_of_fields rest) g) around)

    pub statements_law : (nodes : Nodes) (heads : List ScopeHead) (w : Within) → StandsIn w heads → Fresh heads (nodes_among nodes) → (around : LoopsAndGuards) → Enters heads (statement_rows w nodes) (statements items p around (means nodes))
    statements_law no_node heads w st g around = at_value heads
    statements_law (a_node first rest) heads w st g around =
        then_enters heads (rows w nothing first) (statement_rows w rest) ((mean first).evaluate around false (Into (mean first).head.id)) (statements items p around (means rest))
        ((law first).evaluated heads w st (fresh_left heads (nodes_of first) (nodes_among rest) g) around (Into (mean first).head.id))
        (statements_law rest heads w st (fresh_right heads (nodes_of first) (nodes_among rest) g) around)

    arms_law : (nodes : Nodes) (matched : Place) (around : LoopsAndGuards) (to : Destination) → Nothing items p (arms_in_order items p (means nodes) matched around to)
    arms_law no_node matched around to = panics_nothing items p Why.Match
    arms_law (a_node first rest) matched around to =
        (law first).taken matched (arms_in_order items p (means rest) matched around to) (arms_law rest matched around to) around to

    let_law : (h : NodeHead) (pattern : Node) → Placed pattern (meaning items p fuel pattern) → (o : MaybeNode) (heads : List ScopeHead) (w : Within) → StandsIn w heads → Missing heads h.id → Fresh (record { node = h.id; for_temporaries = true } ∷ heads) (nodes_if_any o) → (around : LoopsAndGuards) → Enters heads (let_rows (named h.id) w.innermost pattern o) (forms.letting items p h (mean pattern) (any o) around)
    let_law h pattern of_pattern absent heads w st missing g around =
        declared_enters items p heads w.innermost st.innermost (pattern_rows (named h.id) (name_in w.innermost) pattern) ((mean pattern).shape.bindings (whole_local 0))
        (λ H. names_of (named h.id) (name_in w.innermost) w.innermost refl pattern (mean pattern) of_pattern.shaped (whole_local 0) H)
    let_law h pattern of_pattern (present value) heads w st missing g around =
        let_value_in h value (mean pattern) (mean value) (law value) heads w st missing g around pattern of_pattern

    law_of : (id : ℕ) (at : Pos) (ty : TyId) (by : Option Use) (form : Form) → Placed (node id at ty by form) (meaning_of items p fuel form (head id ty by) (shape_of items form (head id ty by)))
    law_of id at ty by (Number value) = of_value id at ty by (Number value) refl refl refl refl (λ matched otherwise h around to heads. at_value heads)
        (λ to heads w st g around. (deliver_nothing items p (head id ty by) (λ site. effects.Put site (effects.Number value (kind_of items ty))) (to_own_key (is_never items ty) id to)) heads)
    law_of id at ty by (Truth value) = of_value id at ty by (Truth value) refl refl refl refl (λ matched otherwise h around to heads. at_value heads)
        (λ to heads w st g around. (deliver_nothing items p (head id ty by) (λ site. effects.Put site (effects.Truth value)) (to_own_key (is_never items ty) id to)) heads)
    law_of id at ty by UnitValue = of_value id at ty by UnitValue refl refl refl refl (λ matched otherwise h around to heads. at_value heads)
        (λ to heads w st g around. (deliver_nothing items p (head id ty by) (λ site. effects.Put site effects.UnitValue) (to_own_key (is_never items ty) id to)) heads)
    law_of id at ty by (Variable key) = of_place id at ty by (Variable key) refl refl refl refl (λ matched otherwise h around to heads. at_value heads)
        (λ heads w st g around. at_value heads)
    law_of id at ty by (Captured closure part name) = of_place id at ty by (Captured closure part name) refl refl refl refl (λ matched otherwise h around to heads. at_value heads)
        (λ heads w st g around. at_value heads)
    law_of id at ty by (Field base part) = of_place id at ty by (Field base part) refl refl refl refl (λ matched otherwise h around to heads. at_value heads)
        (λ heads w st g around. (law base).reached heads w st g.1.1 (reached_in w.temporary base) refl around)
    law_of id at ty by (Index base index length) = of_place id at ty by (Index base index length) refl refl refl refl (λ matched otherwise h around to heads. at_value heads)
        (λ heads w st g around. then_enters heads (rows w (reached_in w.temporary base) base) (rows w nothing index) ((mean base).reach around) ((mean index).evaluate around false (Into (mean index).head.id) >> (acts items p (effects.Touch (site_at (head id ty by) (forms.array_around items p ((shape_of items (Index base index length) (head id ty by)).place around.aliases)))) >> acts items p (effects.Bounds (effects.Copied (site_of_key (mean index).head.id)) length)))
        ((law base).reached heads w st (fresh_left heads (nodes_of base) (nodes_of index) g.1.1) (reached_in w.temporary base) refl around)
        (then_nothing heads (rows w nothing index) ((mean index).evaluate around false (Into (mean index).head.id)) (acts items p (effects.Touch (site_at (head id ty by) (forms.array_around items p ((shape_of items (Index base index length) (head id ty by)).place around.aliases)))) >> acts items p (effects.Bounds (effects.Copied (site_of_key (mean index).head.id)) length)) ((law index).evaluated heads w st (fresh_right heads (nodes_of base) (nodes_of index) g.1.1) around (Into (mean index).head.id)) (both_nothing items p (acts items p (effects.Touch (site_at (head id ty by) (forms.array_around items p ((shape_of items (Index base index length) (head id ty by)).place around.aliases))))) (acts items p (effects.Bounds (effects.Copied (site_of_key (mean index).head.id)) length)) (acts_nothing items p (effects.Touch (site_at (head id ty by) (forms.array_around items p ((shape_of items (Index base index length) (head id ty by)).place around.aliases))))) (acts_nothing items p (effects.Bounds (effects.Copied (site_of_key (mean index).head.id)) length)) heads)))
    law_of id at ty by (Deref base) = of_place id at ty by (Deref base) refl refl refl refl (λ matched otherwise h around to heads. at_value heads)
        (λ heads w st g around. (law base).reached heads w st g.1.1 (reached_in w.temporary base) refl around)
    law_of id at ty by (Not operand) = of_value id at ty by (Not operand) refl refl refl refl (λ matched otherwise h around to heads. at_value heads)
        (λ to heads w st g around. acting_enters items p heads (rows (inner (named id) w) (entry_in (named id) operand) operand) (head id ty by) around (mean operand ∷ []) (deliver items p (head id ty by) (λ site. effects.Not site (moved id (mean operand).head.id)) (to_own_key (is_never items ty) id to)) g.0 (one_operand operand (mean operand) (law operand) (record { node = id; for_temporaries = false } ∷ heads) (inner (named id) w) (stands_inside w heads id st g.0) (fresh_inside heads id false (nodes_in (Not operand)) g.1.0 g.1.1) around) (deliver_nothing items p (head id ty by) (λ site. effects.Not site (moved id (mean operand).head.id)) (to_own_key (is_never items ty) id to)))
    law_of id at ty by (Negate operand) = of_value id at ty by (Negate operand) refl refl refl refl (λ matched otherwise h around to heads. at_value heads)
        (λ to heads w st g around. acting_enters items p heads (rows (inner (named id) w) (entry_in (named id) operand) operand) (head id ty by) around (mean operand ∷ []) (deliver items p (head id ty by) (λ site. effects.Negate site (moved id (mean operand).head.id)) (to_own_key (is_never items ty) id to)) g.0 (one_operand operand (mean operand) (law operand) (record { node = id; for_temporaries = false } ∷ heads) (inner (named id) w) (stands_inside w heads id st g.0) (fresh_inside heads id false (nodes_in (Negate operand)) g.1.0 g.1.1) around) (deliver_nothing items p (head id ty by) (λ site. effects.Negate site (moved id (mean operand).head.id)) (to_own_key (is_never items ty) id to)))
    law_of id at ty by (Arithmetic operator left right) = of_value id at ty by (Arithmetic operator left right) refl refl refl refl (λ matched otherwise h around to heads. at_value heads)
        (λ to heads w st g around. acting_enters items p heads (rows (inner (named id) w) (entry_in (named id) left) left ++ rows (inner (named id) w) (entry_in (named id) right) right) (head id ty by) around (mean left ∷ mean right ∷ []) (deliver items p (head id ty by) (λ site. effects.Compute site operator (moved id (mean left).head.id) (moved id (mean right).head.id)) (to_own_key (is_never items ty) id to)) g.0 (then_enters (record { node = id; for_temporaries = false } ∷ heads) (rows (inner (named id) w) (entry_in (named id) left) left) (rows (inner (named id) w) (entry_in (named id) right) right) (operand items p around (mean left)) (operands items p around (mean right ∷ [])) (operand_in left (mean left) (law left) (record { node = id; for_temporaries = false } ∷ heads) (inner (named id) w) (stands_inside w heads id st g.0) (fresh_left (record { node = id; for_temporaries = false } ∷ heads) (nodes_of left) (nodes_of right) (fresh_inside heads id false (nodes_in (Arithmetic operator left right)) g.1.0 g.1.1)) around) (one_operand right (mean right) (law right) (record { node = id; for_temporaries = false } ∷ heads) (inner (named id) w) (stands_inside w heads id st g.0) (fresh_right (record { node = id; for_temporaries = false } ∷ heads) (nodes_of left) (nodes_of right) (fresh_inside heads id false (nodes_in (Arithmetic operator left right)) g.1.0 g.1.1)) around)) (deliver_nothing items p (head id ty by) (λ site. effects.Compute site operator (moved id (mean left).head.id) (moved id (mean right).head.id)) (to_own_key (is_never items ty) id to)))
    law_of id at ty by (Comparison operator left right) = of_value id at ty by (Comparison operator left right) refl refl refl refl (λ matched otherwise h around to heads. at_value heads)
        (λ to heads w st g around. acting_enters items p heads (rows (inner (named id) w) (entry_in (named id) left) left ++ rows (inner (named id) w) (entry_in (named id) right) right) (head id ty by) around (mean left ∷ mean right ∷ []) (deliver items p (head id ty by) (λ site. effects.Compare site operator (moved id (mean left).head.id) (moved id (mean right).head.id)) (to_own_key (is_never items ty) id to)) g.0 (then_enters (record { node = id; for_temporaries = false } ∷ heads) (rows (inner (named id) w) (entry_in (named id) left) left) (rows (inner (named id) w) (entry_in (named id) right) right) (operand items p around (mean left)) (operands items p around (mean right ∷ [])) (operand_in left (mean left) (law left) (record { node = id; for_temporaries = false } ∷ heads) (inner (named id) w) (stands_inside w heads id st g.0) (fresh_left (record { node = id; for_temporaries = false } ∷ heads) (nodes_of left) (nodes_of right) (fresh_inside heads id false (nodes_in (Comparison operator left right)) g.1.0 g.1.1)) around) (one_operand right (mean right) (law right) (record { node = id; for_temporaries = false } ∷ heads) (inner (named id) w) (stands_inside w heads id st g.0) (fresh_right (record { node = id; for_temporaries = false } ∷ heads) (nodes_of left) (nodes_of right) (fresh_inside heads id false (nodes_in (Comparison operator left right)) g.1.0 g.1.1)) around)) (deliver_nothing items p (head id ty by) (λ site. effects.Compare site operator (moved id (mean left).head.id) (moved id (mean right).head.id)) (to_own_key (is_never items ty) id to)))
    law_of id at ty by (And left right) = of_value id at ty by (And left right) refl refl refl refl (λ matched otherwise h around to heads. at_value heads)
        (λ to. of_closed id at ty by (And left right) (λ around. (meaning_of items p fuel (And left right) (head id ty by) (shape_of items (And left right) (head id ty by))).evaluate around false to)
        (λ heads g around. condition_nothing items p around (mean left) (forms.alone items p around (mean right) (to_own_key (is_never items ty) id to)) (deliver items p (head id ty by) (λ site. effects.Put site (effects.Truth false)) (to_own_key (is_never items ty) id to)) (alone_nothing items p around (mean right) (to_own_key (is_never items ty) id to)) (deliver_nothing items p (head id ty by) (λ site. effects.Put site (effects.Truth false)) (to_own_key (is_never items ty) id to)) heads) (λ w. refl))
    law_of id at ty by (Or left right) = of_value id at ty by (Or left right) refl refl refl refl (λ matched otherwise h around to heads. at_value heads)
        (λ to. of_closed id at ty by (Or left right) (λ around. (meaning_of items p fuel (Or left right) (head id ty by) (shape_of items (Or left right) (head id ty by))).evaluate around false to)
        (λ heads g around. condition_nothing items p around (mean left) (deliver items p (head id ty by) (λ site. effects.Put site (effects.Truth true)) (to_own_key (is_never items ty) id to)) (forms.alone items p around (mean right) (to_own_key (is_never items ty) id to)) (deliver_nothing items p (head id ty by) (λ site. effects.Put site (effects.Truth true)) (to_own_key (is_never items ty) id to)) (alone_nothing items p around (mean right) (to_own_key (is_never items ty) id to)) heads) (λ w. refl))
    law_of id at ty by (Assign target value) = of_value id at ty by (Assign target value) refl refl refl refl (λ matched otherwise h around to heads. at_value heads)
        (λ to heads w st g around. assigning_enters items p heads (rows (inner (named id) w) (entry_in (named id) value) value) (rows (inner (named id) w) (reached_in w.temporary target) target) (head id ty by) (mean target) (mean value) around (to_own_key (is_never items ty) id to) g.0
        (operand_in value (mean value) (law value) (record { node = id; for_temporaries = false } ∷ heads) (inner (named id) w) (stands_inside w heads id st g.0) (fresh_right (record { node = id; for_temporaries = false } ∷ heads) (nodes_of target) (nodes_of value) (fresh_inside heads id false (nodes_in (Assign target value)) g.1.0 g.1.1)) around)
        ((law target).reached (record { node = id; for_temporaries = false } ∷ heads) (inner (named id) w) (stands_inside w heads id st g.0) (fresh_left (record { node = id; for_temporaries = false } ∷ heads) (nodes_of target) (nodes_of value) (fresh_inside heads id false (nodes_in (Assign target value)) g.1.0 g.1.1)) (reached_in w.temporary target) refl around))
    law_of id at ty by (Call body args) = of_value id at ty by (Call body args) refl refl refl refl (λ matched otherwise h around to heads. at_value heads)
        (λ to heads w st g around. acting_enters items p heads (operand_rows (inner (named id) w) (named id) args) (head id ty by) around (means args) (deliver items p (head id ty by) (λ site. effects.Call site body (all_moved id (means args))) (to_own_key (is_never items ty) id to)) g.0 (operands_law args (record { node = id; for_temporaries = false } ∷ heads) (inner (named id) w) (stands_inside w heads id st g.0) (fresh_inside heads id false (nodes_in (Call body args)) g.1.0 g.1.1) around) (deliver_nothing items p (head id ty by) (λ site. effects.Call site body (all_moved id (means args))) (to_own_key (is_never items ty) id to)))
    law_of id at ty by (MethodCall body receiver args) = of_value id at ty by (MethodCall body receiver args) refl refl refl refl (λ matched otherwise h around to heads. at_value heads)
        (λ to heads w st g around. acting_enters items p heads (rows (inner (named id) w) (entry_in (named id) receiver) receiver ++ operand_rows (inner (named id) w) (named id) args) (head id ty by) around (mean receiver ∷ means args) (deliver items p (head id ty by) (λ site. effects.Call site body (all_moved id (mean receiver ∷ means args))) (to_own_key (is_never items ty) id to)) g.0 (then_enters (record { node = id; for_temporaries = false } ∷ heads) (rows (inner (named id) w) (entry_in (named id) receiver) receiver) (operand_rows (inner (named id) w) (named id) args) (operand items p around (mean receiver)) (operands items p around (means args)) (operand_in receiver (mean receiver) (law receiver) (record { node = id; for_temporaries = false } ∷ heads) (inner (named id) w) (stands_inside w heads id st g.0) (fresh_left (record { node = id; for_temporaries = false } ∷ heads) (nodes_of receiver) (nodes_among args) (fresh_inside heads id false (nodes_in (MethodCall body receiver args)) g.1.0 g.1.1)) around) (operands_law args (record { node = id; for_temporaries = false } ∷ heads) (inner (named id) w) (stands_inside w heads id st g.0) (fresh_right (record { node = id; for_temporaries = false } ∷ heads) (nodes_of receiver) (nodes_among args) (fresh_inside heads id false (nodes_in (MethodCall body receiver args)) g.1.0 g.1.1)) around)) (deliver_nothing items p (head id ty by) (λ site. effects.Call site body (all_moved id (mean receiver ∷ means args))) (to_own_key (is_never items ty) id to)))
    law_of id at ty by (VirtualCall trait_no method receiver args) = of_value id at ty by (VirtualCall trait_no method receiver args) refl refl refl refl (λ matched otherwise h around to heads. at_value heads)
        (λ to heads w st g around. acting_enters items p heads (rows (inner (named id) w) (entry_in (named id) receiver) receiver ++ operand_rows (inner (named id) w) (named id) args) (head id ty by) around (mean receiver ∷ means args) (deliver items p (head id ty by) (λ site. effects.CallVirtual site trait_no method (all_moved id (mean receiver ∷ means args))) (to_own_key (is_never items ty) id to)) g.0 (then_enters (record { node = id; for_temporaries = false } ∷ heads) (rows (inner (named id) w) (entry_in (named id) receiver) receiver) (operand_rows (inner (named id) w) (named id) args) (operand items p around (mean receiver)) (operands items p around (means args)) (operand_in receiver (mean receiver) (law receiver) (record { node = id; for_temporaries = false } ∷ heads) (inner (named id) w) (stands_inside w heads id st g.0) (fresh_left (record { node = id; for_temporaries = false } ∷ heads) (nodes_of receiver) (nodes_among args) (fresh_inside heads id false (nodes_in (VirtualCall trait_no method receiver args)) g.1.0 g.1.1)) around) (operands_law args (record { node = id; for_temporaries = false } ∷ heads) (inner (named id) w) (stands_inside w heads id st g.0) (fresh_right (record { node = id; for_temporaries = false } ∷ heads) (nodes_of receiver) (nodes_among args) (fresh_inside heads id false (nodes_in (VirtualCall trait_no method receiver args)) g.1.0 g.1.1)) around)) (deliver_nothing items p (head id ty by) (λ site. effects.CallVirtual site trait_no method (all_moved id (mean receiver ∷ means args))) (to_own_key (is_never items ty) id to)))
    law_of id at ty by (ClosureCall body callee args) = of_value id at ty by (ClosureCall body callee args) refl refl refl refl (λ matched otherwise h around to heads. at_value heads)
        (λ to heads w st g around. acting_enters items p heads (rows (inner (named id) w) (entry_in (named id) callee) callee ++ operand_rows (inner (named id) w) (named id) args) (head id ty by) around (mean callee ∷ means args) (deliver items p (head id ty by) (λ site. effects.Call site body (all_moved id (mean callee ∷ means args))) (to_own_key (is_never items ty) id to)) g.0 (then_enters (record { node = id; for_temporaries = false } ∷ heads) (rows (inner (named id) w) (entry_in (named id) callee) callee) (operand_rows (inner (named id) w) (named id) args) (operand items p around (mean callee)) (operands items p around (means args)) (operand_in callee (mean callee) (law callee) (record { node = id; for_temporaries = false } ∷ heads) (inner (named id) w) (stands_inside w heads id st g.0) (fresh_left (record { node = id; for_temporaries = false } ∷ heads) (nodes_of callee) (nodes_among args) (fresh_inside heads id false (nodes_in (ClosureCall body callee args)) g.1.0 g.1.1)) around) (operands_law args (record { node = id; for_temporaries = false } ∷ heads) (inner (named id) w) (stands_inside w heads id st g.0) (fresh_right (record { node = id; for_temporaries = false } ∷ heads) (nodes_of callee) (nodes_among args) (fresh_inside heads id false (nodes_in (ClosureCall body callee args)) g.1.0 g.1.1)) around)) (deliver_nothing items p (head id ty by) (λ site. effects.Call site body (all_moved id (mean callee ∷ means args))) (to_own_key (is_never items ty) id to)))
    law_of id at ty by (Make adt variant fields) = of_value id at ty by (Make adt variant fields) refl refl refl refl (λ matched otherwise h around to heads. at_value heads)
        (λ to heads w st g around. acting_enters items p heads (field_rows (inner (named id) w) (named id) fields) (head id ty by) around (values_of (fields_of items p fuel fields)) (deliver items p (head id ty by) (λ site. effects.Build site (effects.OfVariant adt variant) (all_moved id (values_of (in_number_order (fields_of items p fuel fields))))) (to_own_key (is_never items ty) id to)) g.0 (fields_law fields (record { node = id; for_temporaries = false } ∷ heads) (inner (named id) w) (stands_inside w heads id st g.0) (fresh_inside heads id false (nodes_in (Make adt variant fields)) g.1.0 g.1.1) around) (deliver_nothing items p (head id ty by) (λ site. effects.Build site (effects.OfVariant adt variant) (all_moved id (values_of (in_number_order (fields_of items p fuel fields))))) (to_own_key (is_never items ty) id to)))
    law_of id at ty by (Tuple parts) = of_value id at ty by (Tuple parts) refl refl refl refl (λ matched otherwise h around to heads. at_value heads)
        (λ to heads w st g around. acting_enters items p heads (operand_rows (inner (named id) w) (named id) parts) (head id ty by) around (means parts) (deliver items p (head id ty by) (λ site. effects.Build site effects.OfTuple (all_moved id (means parts))) (to_own_key (is_never items ty) id to)) g.0 (operands_law parts (record { node = id; for_temporaries = false } ∷ heads) (inner (named id) w) (stands_inside w heads id st g.0) (fresh_inside heads id false (nodes_in (Tuple parts)) g.1.0 g.1.1) around) (deliver_nothing items p (head id ty by) (λ site. effects.Build site effects.OfTuple (all_moved id (means parts))) (to_own_key (is_never items ty) id to)))
    law_of id at ty by (Array elements) = of_value id at ty by (Array elements) refl refl refl refl (λ matched otherwise h around to heads. at_value heads)
        (λ to heads w st g around. acting_enters items p heads (operand_rows (inner (named id) w) (named id) elements) (head id ty by) around (means elements) (deliver items p (head id ty by) (λ site. effects.Build site effects.OfArray (all_moved id (means elements))) (to_own_key (is_never items ty) id to)) g.0 (operands_law elements (record { node = id; for_temporaries = false } ∷ heads) (inner (named id) w) (stands_inside w heads id st g.0) (fresh_inside heads id false (nodes_in (Array elements)) g.1.0 g.1.1) around) (deliver_nothing items p (head id ty by) (λ site. effects.Build site effects.OfArray (all_moved id (means elements))) (to_own_key (is_never items ty) id to)))
    law_of id at ty by (Closure closure captures) = of_value id at ty by (Closure closure captures) refl refl refl refl (λ matched otherwise h around to heads. at_value heads)
        (λ to heads w st g around. acting_enters items p heads (operand_rows (inner (named id) w) (named id) captures) (head id ty by) around (means captures) (deliver items p (head id ty by) (λ site. effects.Build site (effects.OfClosure closure) (all_moved id (means captures))) (to_own_key (is_never items ty) id to)) g.0 (operands_law captures (record { node = id; for_temporaries = false } ∷ heads) (inner (named id) w) (stands_inside w heads id st g.0) (fresh_inside heads id false (nodes_in (Closure closure captures)) g.1.0 g.1.1) around) (deliver_nothing items p (head id ty by) (λ site. effects.Build site (effects.OfClosure closure) (all_moved id (means captures))) (to_own_key (is_never items ty) id to)))
    law_of id at ty by (NewBox content) = of_value id at ty by (NewBox content) refl refl refl refl (λ matched otherwise h around to heads. at_value heads)
        (λ to heads w st g around. acting_enters items p heads (rows (inner (named id) w) (entry_in (named id) content) content) (head id ty by) around (mean content ∷ []) (deliver items p (head id ty by) (λ site. effects.NewBox site (moved id (mean content).head.id)) (to_own_key (is_never items ty) id to)) g.0 (one_operand content (mean content) (law content) (record { node = id; for_temporaries = false } ∷ heads) (inner (named id) w) (stands_inside w heads id st g.0) (fresh_inside heads id false (nodes_in (NewBox content)) g.1.0 g.1.1) around) (deliver_nothing items p (head id ty by) (λ site. effects.NewBox site (moved id (mean content).head.id)) (to_own_key (is_never items ty) id to)))
    law_of id at ty by (Print operand) = of_value id at ty by (Print operand) refl refl refl refl (λ matched otherwise h around to heads. at_value heads)
        (λ to heads w st g around. acting_enters items p heads (rows (inner (named id) w) (entry_in (named id) operand) operand) (head id ty by) around (mean operand ∷ []) ((acts items p (effects.Print (moved id (mean operand).head.id))) >> (forms.put_unit items p (head id ty by) (to_own_key (is_never items ty) id to))) g.0 (one_operand operand (mean operand) (law operand) (record { node = id; for_temporaries = false } ∷ heads) (inner (named id) w) (stands_inside w heads id st g.0) (fresh_inside heads id false (nodes_in (Print operand)) g.1.0 g.1.1) around) (both_nothing items p (acts items p (effects.Print (moved id (mean operand).head.id))) (forms.put_unit items p (head id ty by) (to_own_key (is_never items ty) id to)) (acts_nothing items p (effects.Print (moved id (mean operand).head.id))) (unit_nothing items p (head id ty by) (to_own_key (is_never items ty) id to))))
    law_of id at ty by Ask = of_value id at ty by Ask refl refl refl refl (λ matched otherwise h around to heads. at_value heads)
        (λ to heads w st g around. (deliver_nothing items p (head id ty by) effects.Ask (to_own_key (is_never items ty) id to)) heads)
    law_of id at ty by (DropValue operand) = of_value id at ty by (DropValue operand) refl refl refl refl (λ matched otherwise h around to heads. at_value heads)
        (λ to heads w st g around. dropping_enters items p heads (rows (inner (named id) w) (entry_in (named id) operand) operand) (head id ty by) around (mean operand) (forms.put_unit items p (head id ty by) (to_own_key (is_never items ty) id to)) g.0 (operand_in operand (mean operand) (law operand) (record { node = id; for_temporaries = false } ∷ heads) (inner (named id) w) (stands_inside w heads id st g.0) (fresh_inside heads id false (nodes_in (DropValue operand)) g.1.0 g.1.1) around) (unit_nothing items p (head id ty by) (to_own_key (is_never items ty) id to)))
    law_of id at ty by (Forget operand) = of_value id at ty by (Forget operand) refl refl refl refl (λ matched otherwise h around to heads. at_value heads)
        (λ to heads w st g around. acting_enters items p heads (rows (inner (named id) w) (entry_in (named id) operand) operand) (head id ty by) around (mean operand ∷ []) ((acts items p (effects.Forget (moved id (mean operand).head.id))) >> (forms.put_unit items p (head id ty by) (to_own_key (is_never items ty) id to))) g.0 (one_operand operand (mean operand) (law operand) (record { node = id; for_temporaries = false } ∷ heads) (inner (named id) w) (stands_inside w heads id st g.0) (fresh_inside heads id false (nodes_in (Forget operand)) g.1.0 g.1.1) around) (both_nothing items p (acts items p (effects.Forget (moved id (mean operand).head.id))) (forms.put_unit items p (head id ty by) (to_own_key (is_never items ty) id to)) (acts_nothing items p (effects.Forget (moved id (mean operand).head.id))) (unit_nothing items p (head id ty by) (to_own_key (is_never items ty) id to))))
    law_of id at ty by Panic = of_value id at ty by Panic refl refl refl refl (λ matched otherwise h around to heads. at_value heads)
        (λ to heads w st g around. panics_nothing items p Why.Explicit heads)
    law_of id at ty by (Borrow unique base) = of_value id at ty by (Borrow unique base) refl refl refl refl (λ matched otherwise h around to heads. at_value heads)
        (λ to heads w st g around. then_nothing heads (rows w (reached_in w.temporary base) base) ((mean base).reach around) (deliver items p (head id ty by) (λ site. effects.Borrow (record site { node = (mean base).head.id }) unique (site_of (mean base) around)) (to_own_key (is_never items ty) id to)) ((law base).reached heads w st g.1.1 (reached_in w.temporary base) refl around) ((deliver_nothing items p (head id ty by) (λ site. effects.Borrow (record site { node = (mean base).head.id }) unique (site_of (mean base) around)) (to_own_key (is_never items ty) id to)) heads))
    law_of id at ty by (Unsize trait_no operand) = of_value id at ty by (Unsize trait_no operand) refl refl refl refl (λ matched otherwise h around to heads. at_value heads)
        (λ to heads w st g around. (law operand).evaluated heads w st g.1.1 around (coerced (mean operand).head.id trait_no (to_own_key (is_never items ty) id to)))
    law_of id at ty by (Block statements tail) = of_value id at ty by (Block statements tail) refl refl refl refl (λ matched otherwise h around to heads. at_value heads)
        (λ to heads w st g around. scope_enters items p heads (statement_rows (inner (named id) w) statements ++ alone_if_any tail) id false (forms.statements items p around (means statements) >> tail_of items p (head id ty by) (any tail) around (to_own_key (is_never items ty) id to)) g.0
        (around_of (record { node = id; for_temporaries = false } ∷ heads) (statement_rows (inner (named id) w) statements ++ alone_if_any tail) (forms.statements items p around (means statements) >> tail_of items p (head id ty by) (any tail) around (to_own_key (is_never items ty) id to)) (then_enters (record { node = id; for_temporaries = false } ∷ heads) (statement_rows (inner (named id) w) statements) (alone_if_any tail) (forms.statements items p around (means statements)) (tail_of items p (head id ty by) (any tail) around (to_own_key (is_never items ty) id to))
        (statements_law statements (record { node = id; for_temporaries = false } ∷ heads) (inner (named id) w) (stands_inside w heads id st g.0) (fresh_left (record { node = id; for_temporaries = false } ∷ heads) (nodes_among statements) (nodes_if_any tail) (fresh_inside heads id false (nodes_in (Block statements tail)) g.1.0 g.1.1)) around) (tail_in (head id ty by) tail (record { node = id; for_temporaries = false } ∷ heads) (fresh_right (record { node = id; for_temporaries = false } ∷ heads) (nodes_among statements) (nodes_if_any tail) (fresh_inside heads id false (nodes_in (Block statements tail)) g.1.0 g.1.1)) around (to_own_key (is_never items ty) id to)))))
    law_of id at ty by (Let pattern initialiser) = of_value id at ty by (Let pattern initialiser) refl refl refl refl (λ matched otherwise h around to heads. at_value heads)
        (λ to heads w st g around. let_law (head id ty by) pattern (law pattern) initialiser heads w st g.0 (fresh_right (record { node = id; for_temporaries = true } ∷ heads) (nodes_of pattern) (nodes_if_any initialiser) (fresh_inside heads id true (nodes_in (Let pattern initialiser)) g.1.0 g.1.1)) around)
    law_of id at ty by (Evaluate expression) = of_value id at ty by (Evaluate expression) refl refl refl refl (λ matched otherwise h around to heads. at_value heads)
        (λ to heads w st g around. scope_enters items p heads (rows (both_in (named id)) (pending_in (named id)) expression) id true (pending_if items p true innermost (mean expression).head >> ((mean expression).evaluate around false (Into (mean expression).head.id) >> complete items p innermost (mean expression).head)) g.0 (around_of (record { node = id; for_temporaries = true } ∷ heads) (rows (both_in (named id)) (pending_in (named id)) expression) (pending_if items p true innermost (mean expression).head >> ((mean expression).evaluate around false (Into (mean expression).head.id) >> complete items p innermost (mean expression).head)) ((law expression).completed (record { node = id; for_temporaries = true } ∷ heads) (both_in (named id)) (stands_alone heads id) (fresh_inside heads id true (nodes_in (Evaluate expression)) g.1.0 g.1.1) (pending_in (named id)) refl true around)))
    law_of id at ty by (If condition consequent otherwise) = of_value id at ty by (If condition consequent otherwise) refl refl refl refl (λ matched otherwise h around to heads. at_value heads)
        (λ to. of_closed id at ty by (If condition consequent otherwise) (λ around. (meaning_of items p fuel (If condition consequent otherwise) (head id ty by) (shape_of items (If condition consequent otherwise) (head id ty by))).evaluate around false to)
        (λ heads g around. condition_nothing items p around (mean condition) (forms.alone items p around (mean consequent) (to_own_key (is_never items ty) id to)) (forms.branch items p around (to_own_key (is_never items ty) id to) (any otherwise) (forms.put_unit items p (head id ty by) (to_own_key (is_never items ty) id to))) (alone_nothing items p around (mean consequent) (to_own_key (is_never items ty) id to)) (branch_nothing items p around (to_own_key (is_never items ty) id to) (any otherwise) (forms.put_unit items p (head id ty by) (to_own_key (is_never items ty) id to)) (unit_nothing items p (head id ty by) (to_own_key (is_never items ty) id to))) heads) (λ w. refl))
    law_of id at ty by (IfLet pattern scrutinee consequent otherwise) = of_value id at ty by (IfLet pattern scrutinee consequent otherwise) refl refl refl refl (λ matched otherwise h around to heads. at_value heads)
        (λ to. of_closed id at ty by (IfLet pattern scrutinee consequent otherwise) (λ around. (meaning_of items p fuel (IfLet pattern scrutinee consequent otherwise) (head id ty by) (shape_of items (IfLet pattern scrutinee consequent otherwise) (head id ty by))).evaluate around false to)
        (λ heads g around. taken_closed (head id ty by) scrutinee (mean scrutinee) (law scrutinee) (mean pattern) (forms.alone items p around (mean consequent) (to_own_key (is_never items ty) id to)) (forms.branch items p around (to_own_key (is_never items ty) id to) (any otherwise) (forms.put_unit items p (head id ty by) (to_own_key (is_never items ty) id to))) (alone_nothing items p around (mean consequent) (to_own_key (is_never items ty) id to)) (branch_nothing items p around (to_own_key (is_never items ty) id to) (any otherwise) (forms.put_unit items p (head id ty by) (to_own_key (is_never items ty) id to)) (unit_nothing items p (head id ty by) (to_own_key (is_never items ty) id to))) heads g.0
        (fresh_right heads (nodes_of pattern) (nodes_of scrutinee) (fresh_left heads (nodes_of pattern ++ nodes_of scrutinee) (nodes_of consequent) (fresh_left heads ((nodes_of pattern ++ nodes_of scrutinee) ++ nodes_of consequent) (nodes_if_any otherwise) g.1.1)))
        (fresh_right (record { node = id; for_temporaries = true } ∷ heads) (nodes_of pattern) (nodes_of scrutinee) (fresh_left (record { node = id; for_temporaries = true } ∷ heads) (nodes_of pattern ++ nodes_of scrutinee) (nodes_of consequent) (fresh_left (record { node = id; for_temporaries = true } ∷ heads) ((nodes_of pattern ++ nodes_of scrutinee) ++ nodes_of consequent) (nodes_if_any otherwise) (fresh_inside heads id true (nodes_in (IfLet pattern scrutinee consequent otherwise)) g.1.0 g.1.1)))) around) (λ w. refl))
    law_of id at ty by (Match scrutinee arms) = of_value id at ty by (Match scrutinee arms) refl refl refl refl (λ matched otherwise h around to heads. at_value heads)
        (λ to heads w st g around. then_enters heads (rows w (reached_in w.temporary scrutinee) scrutinee) (rows_of_arms w.temporary arms) (scrutinised items p around (mean scrutinee)) (arms_in_order items p (means arms) (place_of (mean scrutinee) around) around (to_own_key (is_never items ty) id to))
        (scrutinised_in scrutinee (mean scrutinee) (law scrutinee) heads w st (fresh_left heads (nodes_of scrutinee) (nodes_among arms) g.1.1) around)
        (of_missing heads (rows_of_arms w.temporary arms) (arms_in_order items p (means arms) (place_of (mean scrutinee) around) around (to_own_key (is_never items ty) id to)) (arms_in (Missing heads) w.temporary arms (fresh_missing heads (nodes_among arms) (fresh_right heads (nodes_of scrutinee) (nodes_among arms) g.1.1))) (arms_law arms (place_of (mean scrutinee) around) around (to_own_key (is_never items ty) id to) heads)))
    law_of id at ty by (Arm pattern guard body) = of_value id at ty by (Arm pattern guard body) refl refl refl refl (λ matched otherwise h around to. arm_nothing items p (head id ty by) (mean pattern) (any guard) (mean body) matched otherwise around to h)
        (λ to heads w st g around. at_value heads)
    law_of id at ty by (Loop body) = of_value id at ty by (Loop body) refl refl refl refl (λ matched otherwise h around to heads. at_value heads)
        (λ to. of_closed id at ty by (Loop body) (λ around. (meaning_of items p fuel (Loop body) (head id ty by) (shape_of items (Loop body) (head id ty by))).evaluate around false to)
        (λ heads g around. turns_nothing items p heads id fuel (forms.alone items p (in_loop id (to_own_key (is_never items ty) id to) around) (mean body) (Into (mean body).head.id)) ((alone_nothing items p (in_loop id (to_own_key (is_never items ty) id to) around) (mean body) (Into (mean body).head.id)) heads)) (λ w. refl))
    law_of id at ty by (While condition body) = of_value id at ty by (While condition body) refl refl refl refl (λ matched otherwise h around to heads. at_value heads)
        (λ to. of_closed id at ty by (While condition body) (λ around. (meaning_of items p fuel (While condition body) (head id ty by) (shape_of items (While condition body) (head id ty by))).evaluate around false to)
        (λ heads g around. turns_nothing items p heads id fuel (forms.condition items p (in_loop id (to_own_key (is_never items ty) id to) around) (mean condition) (forms.alone items p (in_loop id (to_own_key (is_never items ty) id to) around) (mean body) (Into (mean body).head.id)) (forms.ends_loop items p (head id ty by) (to_own_key (is_never items ty) id to))) (condition_nothing items p (in_loop id (to_own_key (is_never items ty) id to) around) (mean condition) (forms.alone items p (in_loop id (to_own_key (is_never items ty) id to) around) (mean body) (Into (mean body).head.id)) (forms.ends_loop items p (head id ty by) (to_own_key (is_never items ty) id to)) (alone_nothing items p (in_loop id (to_own_key (is_never items ty) id to) around) (mean body) (Into (mean body).head.id)) (ends_nothing items p (head id ty by) (to_own_key (is_never items ty) id to)) heads)) (λ w. refl))
    law_of id at ty by (WhileLet pattern scrutinee body) = of_value id at ty by (WhileLet pattern scrutinee body) refl refl refl refl (λ matched otherwise h around to heads. at_value heads)
        (λ to. of_closed id at ty by (WhileLet pattern scrutinee body) (λ around. (meaning_of items p fuel (WhileLet pattern scrutinee body) (head id ty by) (shape_of items (WhileLet pattern scrutinee body) (head id ty by))).evaluate around false to)
        (λ heads g around. turns_nothing items p heads id fuel (forms.if_taken items p (head id ty by) (in_loop id (to_own_key (is_never items ty) id to) around) (mean pattern) (mean scrutinee) (forms.alone items p (in_loop id (to_own_key (is_never items ty) id to) around) (mean body) (Into (mean body).head.id)) (forms.ends_loop items p (head id ty by) (to_own_key (is_never items ty) id to))) (taken_closed (head id ty by) scrutinee (mean scrutinee) (law scrutinee) (mean pattern) (forms.alone items p (in_loop id (to_own_key (is_never items ty) id to) around) (mean body) (Into (mean body).head.id)) (forms.ends_loop items p (head id ty by) (to_own_key (is_never items ty) id to)) (alone_nothing items p (in_loop id (to_own_key (is_never items ty) id to) around) (mean body) (Into (mean body).head.id)) (ends_nothing items p (head id ty by) (to_own_key (is_never items ty) id to)) heads g.0
        (fresh_right heads (nodes_of pattern) (nodes_of scrutinee) (fresh_left heads (nodes_of pattern ++ nodes_of scrutinee) (nodes_of body) g.1.1))
        (fresh_right (record { node = id; for_temporaries = true } ∷ heads) (nodes_of pattern) (nodes_of scrutinee) (fresh_left (record { node = id; for_temporaries = true } ∷ heads) (nodes_of pattern ++ nodes_of scrutinee) (nodes_of body) (fresh_inside heads id true (nodes_in (WhileLet pattern scrutinee body)) g.1.0 g.1.1))) (in_loop id (to_own_key (is_never items ty) id to) around))) (λ w. refl))
    law_of id at ty by (Break loop value) = of_value id at ty by (Break loop value) refl refl refl refl (λ matched otherwise h around to heads. at_value heads)
        (λ to heads w st g around. then_stops items p heads (rows_if_any w value) (forms.value_of_jump items p (head id ty by) (any value) around (loop_destination loop around.loops)) (Breaks loop) (λ P S x. tt))
    law_of id at ty by (Continue loop) = of_value id at ty by (Continue loop) refl refl refl refl (λ matched otherwise h around to heads. at_value heads)
        (λ to heads w st g around. λ S is x. tt)
    law_of id at ty by (Return value) = of_value id at ty by (Return value) refl refl refl refl (λ matched otherwise h around to heads. at_value heads)
        (λ to heads w st g around. then_stops items p heads (rows_if_any w value) (forms.value_of_jump items p (head id ty by) (any value) around around.answer) Returns (λ P S x. tt))
    law_of id at ty by Wildcard = of_value id at ty by Wildcard refl refl refl refl (λ matched otherwise h around to heads. at_value heads)
        (λ to heads w st g around. at_value heads)
    law_of id at ty by other = of_value id at ty by other refl refl refl refl (λ matched otherwise h around to heads. at_value heads)
        (λ to heads w st g around. at_value heads)

  -- a node puts entries where the table says
  pub puts : (heads : List ScopeHead) (w : Within) (n : Node) → StandsIn w heads → IsNew n heads → Puts items p fuel heads w n
  puts heads w n st new =
      let g = fresh_of heads (nodes_of n) new.distinct new.not_open in
      let placed = law n in
      record {
        evaluated = λ around to. placed.evaluated heads w st g around to;
        as_operand = λ around. operand_in n (mean n) placed heads w st g around;
        of_statement = λ around. placed.completed heads w st g (pending_in w.innermost) refl true around;
        reached = λ around. placed.reached heads w st g (reached_in w.temporary n) refl around;
        by_itself = λ around to.
            of_missing heads (rows (alone n) nothing n) (forms.alone items p around (mean n) to) (of_alone (Missing heads) n (fresh_missing heads (nodes_of n) g)) (alone_nothing items p around (mean n) to heads);
        operand_waits = λ around S is x.
            let m = mean n in
            let same = ap (λ (s : Shape). s.in_destination) placed.shaped ∙ destination_same items n in
            ap (λ (T : Scopes). made_in items p fuel n around innermost T x)
            (ap (λ (b : Bool). forms.changed_if b (innermost (with_pending (entry_of m.head))) S) same
            ∙ waits (has_destination (form_of n)) w.innermost (entry_of m.head) S _ (innermost_is (with_pending (entry_of m.head)) w.innermost S (subst (IsInnermost w.innermost) (sym is) st.innermost)) innermost refl);
        statement_waits = λ around S is x.
            ap (λ (T : Scopes). made_in items p fuel n around innermost T x)
            (innermost_is (with_pending (entry_of (mean n).head)) w.innermost S (subst (IsInnermost w.innermost) (sym is) st.innermost));
        temporary_waits = λ around S is x no_place.
            let m = mean n in
            let same = ap (λ (s : Shape). s.in_destination) placed.shaped ∙ destination_same items n in
            ap (λ (r : LoopsAndGuards → Does W). r around S x) (placed.waited no_place)
            ∙ ap (λ (T : Scopes). made_in items p fuel n around nearest_temporary T x)
            (ap (λ (b : Bool). forms.changed_if b (nearest_temporary (with_pending (entry_of m.head))) S) same
            ∙ waits (has_destination (form_of n)) w.temporary (entry_of m.head) S _ (nearest_is (with_pending (entry_of m.head)) w.temporary S (subst (IsNearest w.temporary) (sym is) st.nearest)) nearest_temporary refl
            ∙ ap (λ (b : Bool). waiting (made_if_value b (entry_in w.temporary n)).destination (entry_of m.head) S) (sym no_place));
        names = λ place.
            bind_enters items p heads w.innermost.0 innermost (put_innermost items p heads w.innermost st.innermost) (pattern_rows w.temporary (name_in w.innermost) n) ((shape items n).bindings place)
            (λ H. names items w.temporary (name_in w.innermost) w.innermost refl n place H);
      }
