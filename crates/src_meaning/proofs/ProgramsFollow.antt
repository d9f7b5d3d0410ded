-- Over effects that follow one another the meanings of a node follow one another, one line a form, and so do the runs of
-- a body.
use Rattle.std.proofs.Common.{◌≡◌, ℕ, nat_lt, Bool, true, false, List, [], ◌∷◌, Option, if◌then◌else◌, refl, ap, subst}
use Rattle.mir_base.specs.declared.trace.Why.{Why}
use Rattle.mir_ty.specs.ItemTable.{ItemTable}
use Rattle.store_model.proofs.Effects.Following.{Relation, FollowsOut, halts, lapsed, outlived, refused, FollowsOuts, FollowsEffects, Bounds, out_after, panics_on, after_drop}
use Rattle.store_model.specs.Effects as effects
use Rattle.store_model.specs.Effects.{EffectSite, Operand, Action, OfTuple, OfArray, OfVariant, OfClosure, Stuck, Out, Effects, Unwinding}
use Rattle.store_model.specs.Places.Place.{whole_local}
use Rattle.src_meaning.proofs.FormsFollow.{FollowsReach, FollowsInto, FollowsEvaluate, FollowsArm, FollowsMeaning, means, FollowsMeanings, no_meaning, and_means, FollowsIfAny, without, with_one, same_moved, acts_follow, panics_follow, deliver_follow, unit_follow, own_scope_follow, alone_follow, acting_follow, dropping_follow, temporary_follow, use_follow, element_follow, borrowing_follow, assigning_follow, condition_follow, branch_follow, bind_follow, if_taken_follow, matching_follow, arm_follow, block_follow, evaluating_follow, letting_follow, turns_follow, end_follow, jumping_follow}
use Rattle.src_meaning.proofs.RunsFollow.{Follows, is_at, is_over, lapsed_run, outlived_run, refused_run, FollowsDoes, then_follow, at_follow, changing_follow, in_scope_follow}
use Rattle.src_meaning.specs.Evaluation.{insert_field, in_number_order, values_of, to_own_key, made_in, no_arm, a_value, a_place, in_scope_of_its_own, a_scope, effect, on_operands, on_one, on_two, on_all, on_fields, gives_unit, drops, a_pattern, shortcut, conjunction, disjunction, otherwise_unit, if_else, if_let, body_in, endless, while_true, while_taken, breaks, returns, coerce, meaning, meaning_of, meanings, fields_of, meaning_if_any}
use Rattle.src_meaning.specs.Forms as forms
use Rattle.src_meaning.specs.Forms.{Destination, Into, coerced, LoopsAndGuards, in_loop, loop_destination, Meaning, moved, all_moved, is_never, site_of_key}
use Rattle.src_meaning.specs.Locals.OfBody.{param_key, answer_key}
use Rattle.src_meaning.specs.Programs.{names_of_param, params_entered, unwinds as further_unwinds, body_end, around_body, answer_scope, entire_function, activation}
use Rattle.src_meaning.specs.Scopes.{Entry, Value, Breaks, Continues, Returns, Panics, Run, At, Does, innermost, with_entry, entry_site, all_entries, needing_drop}
use Rattle.src_meaning.specs.Shape.{NodeHead, head, Shape, BoundName, kind_of, shape, shape_of}
use Rattle.typed_tree.specs.Tree as tree
use Rattle.typed_tree.specs.Tree.{Node, node, Form, Nodes, no_node, a_node, Fields, no_field, a_field, MaybeNode, absent, present, ParamTree, BodyTree}

-- fields with the same numbers
data FollowsFields {W V : Type 0} (rel : Relation W V) : List (ℕ × Meaning W) → List (ℕ × Meaning V) → Type 0 where
  no_more : FollowsFields rel [] []
  and_field : (n : ℕ) (m : Meaning W) (m' : Meaning V) (fs : List (ℕ × Meaning W)) (fs' : List (ℕ × Meaning V)) → FollowsMeaning rel m m' →
      FollowsFields rel fs fs' → FollowsFields rel ((n, m) ∷ fs) ((n, m') ∷ fs')

module _ {W V : Type 0} (rel : Relation W V) where
  values_follow : {fs : List (ℕ × Meaning W)} {fs' : List (ℕ × Meaning V)} → FollowsFields rel fs fs' → FollowsMeanings rel (values_of fs) (values_of fs')
  values_follow no_more = no_meaning
  values_follow (and_field n m m' fs fs' t ts) = and_means m m' (values_of fs) (values_of fs') t (values_follow ts)

  choose_fields : {fs gs : List (ℕ × Meaning W)} {fs' gs' : List (ℕ × Meaning V)} (b : Bool) → FollowsFields rel fs fs' → FollowsFields rel gs gs' →
      FollowsFields rel (if b then fs else gs) (if b then fs' else gs')
  choose_fields true ts us = ts
  choose_fields false ts us = us

  inserted_follow : {m : Meaning W} {m' : Meaning V} {fs : List (ℕ × Meaning W)} {fs' : List (ℕ × Meaning V)} (n : ℕ) → FollowsMeaning rel m m' →
      FollowsFields rel fs fs' → FollowsFields rel (insert_field n m fs) (insert_field n m' fs')
  inserted_follow n t no_more = and_field n _ _ [] [] t no_more
  inserted_follow n t (and_field j o o' fs fs' u us) =
      choose_fields (nat_lt n j) (and_field n _ _ _ _ t (and_field j o o' fs fs' u us)) (and_field j o o' _ _ u (inserted_follow n t us))

  ordered_follow : {fs : List (ℕ × Meaning W)} {fs' : List (ℕ × Meaning V)} → FollowsFields rel fs fs' → FollowsFields rel (in_number_order fs) (in_number_order fs')
  ordered_follow no_more = no_more
  ordered_follow (and_field n m m' fs fs' t ts) = inserted_follow n t (ordered_follow ts)

  reached : {m : Meaning W} {m' : Meaning V} → FollowsMeaning rel m m' → FollowsReach rel m.reach m'.reach
  reached (means h s e e' r r' x x' ae ar ax) = ar

  pub evaluated : {m : Meaning W} {m' : Meaning V} → FollowsMeaning rel m m' → FollowsEvaluate rel m.evaluate m'.evaluate
  evaluated (means h s e e' r r' x x' ae ar ax) = ae

  module _ (items : ItemTable) (p : Effects W) (q : Effects V) (follow : FollowsEffects rel p q) (fuel fuel' : ℕ) (bounds : Bounds rel p.tick q.tick fuel fuel') where
    made_follow : (e : LoopsAndGuards → Bool → Destination → Does W) (e' : LoopsAndGuards → Bool → Destination → Does V) (h : NodeHead) → FollowsEvaluate rel e e' →
        FollowsEvaluate rel (made_in items p fuel h e) (made_in items q fuel' h e')
    made_follow e e' h ae a own to = ae a own (to_own_key (is_never items h.ty) h.id to)

    no_arm_follow : FollowsArm rel (no_arm items p fuel) (no_arm items q fuel')
    no_arm_follow matched f f' d a to = at_follow rel Value

    value_follow : (e : LoopsAndGuards → Bool → Destination → Does W) (e' : LoopsAndGuards → Bool → Destination → Does V) (h : NodeHead) (s : Shape) → FollowsEvaluate rel e e' →
        FollowsMeaning rel (a_value items p fuel h s e) (a_value items q fuel' h s e')
    value_follow e e' h s ae =
        means h s _ _ _ _ _ _ (made_follow e e' h ae) (temporary_follow rel items p q follow h s (made_follow e e' h ae)) no_arm_follow

    place_follow : (r : LoopsAndGuards → Does W) (r' : LoopsAndGuards → Does V) (h : NodeHead) (s : Shape) → FollowsReach rel r r' →
        FollowsMeaning rel (a_place items p fuel h s r) (a_place items q fuel' h s r')
    place_follow r r' h s ar =
        means h s _ _ _ _ _ _ (made_follow (forms.use_of_place items p h s r) (forms.use_of_place items q h s r') h (use_follow rel items p q follow h s ar)) ar no_arm_follow

    scope_follow : (e : LoopsAndGuards → Destination → Does W) (e' : LoopsAndGuards → Destination → Does V) (h : NodeHead) (s : Shape) → FollowsInto rel e e' →
        FollowsMeaning rel (a_scope items p fuel h s e) (a_scope items q fuel' h s e')
    scope_follow e e' h s d =
        value_follow (in_scope_of_its_own items p fuel h e) (in_scope_of_its_own items q fuel' h e') h s (λ a own to. own_scope_follow rel items p q follow h own (d a to))

    effect_follow : (h : NodeHead) (s : Shape) (action : EffectSite → Action) → FollowsMeaning rel (effect items p fuel h s action) (effect items q fuel' h s action)
    effect_follow h s action =
        scope_follow (λ a. forms.deliver items p h action) (λ a. forms.deliver items q h action) h s (λ a to. deliver_follow rel items p q follow h action to)

    operands_follow : {ms : List (Meaning W)} {ms' : List (Meaning V)} (h : NodeHead) (s : Shape) → FollowsMeanings rel ms ms' → (action action' : EffectSite → Action) → action ≡ action' →
        FollowsMeaning rel (on_operands items p fuel h s ms action) (on_operands items q fuel' h s ms' action')
    operands_follow {ms} {ms'} h s ts action action' e =
        subst (λ act. FollowsMeaning rel (on_operands items p fuel h s ms action) (on_operands items q fuel' h s ms' act)) e
        (value_follow (λ a own to. forms.acting items p h a own ms (forms.deliver items p h action to)) (λ a own to. forms.acting items q h a own ms' (forms.deliver items q h action to)) h s
        (λ a own to. acting_follow rel items p q follow h a own ts (deliver_follow rel items p q follow h action to)))

    one_follow : {m : Meaning W} {m' : Meaning V} (h : NodeHead) (s : Shape) (action : EffectSite → Operand → Action) → FollowsMeaning rel m m' →
        FollowsMeaning rel (on_one items p fuel h s m action) (on_one items q fuel' h s m' action)
    one_follow h s action (means h' s' e e' r r' x x' ae ar ax) =
        operands_follow h s (and_means _ _ [] [] (means h' s' e e' r r' x x' ae ar ax) no_meaning)
        (λ site. action site (moved h.id h'.id)) (λ site. action site (moved h.id h'.id)) refl

    two_follow : {m n : Meaning W} {m' n' : Meaning V} (h : NodeHead) (s : Shape) (action : EffectSite → Operand → Operand → Action) → FollowsMeaning rel m m' → FollowsMeaning rel n n' →
        FollowsMeaning rel (on_two items p fuel h s m n action) (on_two items q fuel' h s m' n' action)
    two_follow h s action (means mh ms me me' mr mr' mx mx' ame amr max) (means h' s' e e' r r' x x' ae ar ax) =
        operands_follow h s (and_means _ _ _ _ (means mh ms me me' mr mr' mx mx' ame amr max) (and_means _ _ [] [] (means h' s' e e' r r' x x' ae ar ax) no_meaning))
        (λ site. action site (moved h.id mh.id) (moved h.id h'.id)) (λ site. action site (moved h.id mh.id) (moved h.id h'.id)) refl

    all_follow : {ms : List (Meaning W)} {ms' : List (Meaning V)} (h : NodeHead) (s : Shape) (action : EffectSite → List Operand → Action) → FollowsMeanings rel ms ms' →
        FollowsMeaning rel (on_all items p fuel h s ms action) (on_all items q fuel' h s ms' action)
    all_follow h s action ts = operands_follow h s ts _ _ (ap (λ list. λ site. action site list) (same_moved rel h.id ts))

    fields_in_order_follow : {fs : List (ℕ × Meaning W)} {fs' : List (ℕ × Meaning V)} (h : NodeHead) (s : Shape) (action : EffectSite → List Operand → Action) → FollowsFields rel fs fs' →
        FollowsMeaning rel (on_fields items p fuel h s fs action) (on_fields items q fuel' h s fs' action)
    fields_in_order_follow h s action ts =
        operands_follow h s (values_follow ts) _ _ (ap (λ list. λ site. action site list) (same_moved rel h.id (values_follow (ordered_follow ts))))

    gives_unit_follow : {m : Meaning W} {m' : Meaning V} (h : NodeHead) (s : Shape) (action : Operand → Action) → FollowsMeaning rel m m' →
        FollowsMeaning rel (gives_unit items p fuel h s m action) (gives_unit items q fuel' h s m' action)
    gives_unit_follow h s action (means h' s' e e' r r' x x' ae ar ax) =
        value_follow _ _ h s (λ a own to. acting_follow rel items p q follow h a own (and_means _ _ [] [] (means h' s' e e' r r' x x' ae ar ax) no_meaning)
        (then_follow rel (acts_follow rel items p q follow (action (moved h.id h'.id))) (unit_follow rel items p q follow h to)))

    drops_follow : {m : Meaning W} {m' : Meaning V} (h : NodeHead) → FollowsMeaning rel m m' → FollowsEvaluate rel (drops items p fuel h m) (drops items q fuel' h m')
    drops_follow h t a own to = dropping_follow rel items p q follow h a own t (unit_follow rel items p q follow h to)

    shortcut_follow : (h : NodeHead) (truth : Bool) (to : Destination) → FollowsDoes rel (shortcut items p fuel h truth to) (shortcut items q fuel' h truth to)
    shortcut_follow h truth to = deliver_follow rel items p q follow h (λ site. effects.Put site (effects.Truth truth)) to

    conjunction_follow : {l r : Meaning W} {l' r' : Meaning V} (h : NodeHead) → FollowsMeaning rel l l' → FollowsMeaning rel r r' →
        FollowsInto rel (conjunction items p fuel h l r) (conjunction items q fuel' h l' r')
    conjunction_follow h t u a to = condition_follow rel items p q follow a t (alone_follow rel items p q follow a u to) (shortcut_follow h false to)

    disjunction_follow : {l r : Meaning W} {l' r' : Meaning V} (h : NodeHead) → FollowsMeaning rel l l' → FollowsMeaning rel r r' →
        FollowsInto rel (disjunction items p fuel h l r) (disjunction items q fuel' h l' r')
    disjunction_follow h t u a to = condition_follow rel items p q follow a t (shortcut_follow h true to) (alone_follow rel items p q follow a u to)

    otherwise_follow : {o : Option (Meaning W)} {o' : Option (Meaning V)} (h : NodeHead) → FollowsIfAny rel o o' → FollowsInto rel (otherwise_unit items p fuel h o) (otherwise_unit items q fuel' h o')
    otherwise_follow h t a to = branch_follow rel items p q follow a to t (unit_follow rel items p q follow h to)

    if_else_follow : {c m : Meaning W} {c' m' : Meaning V} {o : Option (Meaning W)} {o' : Option (Meaning V)} (h : NodeHead) → FollowsMeaning rel c c' → FollowsMeaning rel m m' →
        FollowsIfAny rel o o' → FollowsInto rel (if_else items p fuel h c m o) (if_else items q fuel' h c' m' o')
    if_else_follow h t u v a to = condition_follow rel items p q follow a t (alone_follow rel items p q follow a u to) (otherwise_follow h v a to)

    if_let_follow : {x c m : Meaning W} {x' c' m' : Meaning V} {o : Option (Meaning W)} {o' : Option (Meaning V)} (h : NodeHead) → FollowsMeaning rel x x' → FollowsMeaning rel c c' →
        FollowsMeaning rel m m' → FollowsIfAny rel o o' → FollowsInto rel (if_let items p fuel h x c m o) (if_let items q fuel' h x' c' m' o')
    if_let_follow h x t u v a to = if_taken_follow rel items p q follow h a x t (alone_follow rel items p q follow a u to) (otherwise_follow h v a to)

    body_follow : {m : Meaning W} {m' : Meaning V} → FollowsMeaning rel m m' → FollowsReach rel (body_in items p fuel m) (body_in items q fuel' m')
    body_follow (means h s e e' r r' x x' ae ar ax) a = alone_follow rel items p q follow a (means h s e e' r r' x x' ae ar ax) (Into h.id)

    endless_follow : {m : Meaning W} {m' : Meaning V} (h : NodeHead) → FollowsMeaning rel m m' → FollowsInto rel (endless items p fuel h m) (endless items q fuel' h m')
    endless_follow h t a to = turns_follow rel items p q follow h.id bounds (body_follow t (in_loop h.id to a))

    while_follow : {c m : Meaning W} {c' m' : Meaning V} (h : NodeHead) → FollowsMeaning rel c c' → FollowsMeaning rel m m' →
        FollowsInto rel (while_true items p fuel h c m) (while_true items q fuel' h c' m')
    while_follow h t u a to =
        turns_follow rel items p q follow h.id bounds
        (condition_follow rel items p q follow (in_loop h.id to a) t (body_follow u (in_loop h.id to a)) (end_follow rel items p q follow h to))

    while_let_follow : {x c m : Meaning W} {x' c' m' : Meaning V} (h : NodeHead) → FollowsMeaning rel x x' → FollowsMeaning rel c c' → FollowsMeaning rel m m' →
        FollowsInto rel (while_taken items p fuel h x c m) (while_taken items q fuel' h x' c' m')
    while_let_follow h x t u a to =
        turns_follow rel items p q follow h.id bounds
        (if_taken_follow rel items p q follow h (in_loop h.id to a) x t (body_follow u (in_loop h.id to a)) (end_follow rel items p q follow h to))

    coerce_follow : {m : Meaning W} {m' : Meaning V} (h : NodeHead) (trait_no : ℕ) → FollowsMeaning rel m m' →
        FollowsEvaluate rel (coerce items p fuel h trait_no m) (coerce items q fuel' h trait_no m')
    coerce_follow h trait_no (means h' s' e e' r r' x x' ae ar ax) a own to = ae a own (coerced h'.id trait_no to)

    breaks_follow : {o : Option (Meaning W)} {o' : Option (Meaning V)} (loop : ℕ) (h : NodeHead) → FollowsIfAny rel o o' →
        FollowsInto rel (breaks items p fuel loop h o) (breaks items q fuel' loop h o')
    breaks_follow loop h t a to = jumping_follow rel items p q follow (Breaks loop) h t a (loop_destination loop a.loops)

    returns_follow : {o : Option (Meaning W)} {o' : Option (Meaning V)} (h : NodeHead) → FollowsIfAny rel o o' → FollowsInto rel (returns items p fuel h o) (returns items q fuel' h o')
    returns_follow h t a to = jumping_follow rel items p q follow Returns h t a a.answer

    at_once : (exit : _) (h : NodeHead) (s : Shape) → FollowsMeaning rel (a_value items p fuel h s (λ a own to. At exit)) (a_value items q fuel' h s (λ a own to. At exit))
    at_once exit h s = value_follow (λ a own to. At exit) (λ a own to. At exit) h s (λ a own to. at_follow rel exit)

    an_arm_follow : (h : NodeHead) (s : Shape) {x : _} {x' : _} → FollowsArm rel x x' →
        FollowsMeaning rel (record (a_pattern items p fuel h s) { arm = x }) (record (a_pattern items q fuel' h s) { arm = x' })
    an_arm_follow h s ax =
        means h s _ _ _ _ _ _ (made_follow (λ a own to. At Value) (λ a own to. At Value) h (λ a own to. at_follow rel Value))
        (temporary_follow rel items p q follow h s (made_follow (λ a own to. At Value) (λ a own to. At Value) h (λ a own to. at_follow rel Value))) ax

    mutual
      pub meaning_follow : (n : Node) → FollowsMeaning rel (meaning items p fuel n) (meaning items q fuel' n)
      meaning_follow (node id at ty by form) = form_follow form (head id ty by) (shape_of items form (head id ty by))

      form_follow : (form : Form) (h : NodeHead) (s : Shape) → FollowsMeaning rel (meaning_of items p fuel form h s) (meaning_of items q fuel' form h s)
      form_follow (tree.Number value) h s = effect_follow h s (λ site. effects.Put site (effects.Number value (kind_of items h.ty)))
      form_follow (tree.Truth value) h s = effect_follow h s (λ site. effects.Put site (effects.Truth value))
      form_follow tree.UnitValue h s = effect_follow h s (λ site. effects.Put site effects.UnitValue)
      form_follow (tree.Variable key) h s = place_follow (λ a. At Value) (λ a. At Value) h s (λ a. at_follow rel Value)
      form_follow (tree.Captured closure part name) h s = place_follow (λ a. At Value) (λ a. At Value) h s (λ a. at_follow rel Value)
      form_follow (tree.Field base part) h s = place_follow _ _ h s (reached (meaning_follow base))
      form_follow (tree.Index base index length) h s =
          place_follow _ _ h s (element_follow rel items p q follow h s (meaning_follow base) (meaning_follow index) length)
      form_follow (tree.Deref base) h s = place_follow _ _ h s (reached (meaning_follow base))
      form_follow (tree.Not operand) h s = one_follow h s effects.Not (meaning_follow operand)
      form_follow (tree.Negate operand) h s = one_follow h s effects.Negate (meaning_follow operand)
      form_follow (tree.Arithmetic operator left right) h s = two_follow h s (λ site. effects.Compute site operator) (meaning_follow left) (meaning_follow right)
      form_follow (tree.Comparison operator left right) h s = two_follow h s (λ site. effects.Compare site operator) (meaning_follow left) (meaning_follow right)
      form_follow (tree.And left right) h s = scope_follow _ _ h s (conjunction_follow h (meaning_follow left) (meaning_follow right))
      form_follow (tree.Or left right) h s = scope_follow _ _ h s (disjunction_follow h (meaning_follow left) (meaning_follow right))
      form_follow (tree.Assign place value) h s = value_follow _ _ h s (assigning_follow rel items p q follow h (meaning_follow place) (meaning_follow value))
      form_follow (tree.Call body args) h s = all_follow h s (λ site. effects.Call site body) (meanings_follow args)
      form_follow (tree.MethodCall body receiver args) h s =
          all_follow h s (λ site. effects.Call site body) (and_means _ _ _ _ (meaning_follow receiver) (meanings_follow args))
      form_follow (tree.VirtualCall trait_no method receiver args) h s =
          all_follow h s (λ site. effects.CallVirtual site trait_no method) (and_means _ _ _ _ (meaning_follow receiver) (meanings_follow args))
      form_follow (tree.ClosureCall body callee args) h s =
          all_follow h s (λ site. effects.Call site body) (and_means _ _ _ _ (meaning_follow callee) (meanings_follow args))
      form_follow (tree.Make adt variant fields) h s = fields_in_order_follow h s (λ site. effects.Build site (OfVariant adt variant)) (fields_follow fields)
      form_follow (tree.Tuple parts) h s = all_follow h s (λ site. effects.Build site OfTuple) (meanings_follow parts)
      form_follow (tree.Array elements) h s = all_follow h s (λ site. effects.Build site OfArray) (meanings_follow elements)
      form_follow (tree.Closure closure captures) h s = all_follow h s (λ site. effects.Build site (OfClosure closure)) (meanings_follow captures)
      form_follow (tree.NewBox content) h s = one_follow h s effects.NewBox (meaning_follow content)
      form_follow (tree.Print operand) h s = gives_unit_follow h s effects.Print (meaning_follow operand)
      form_follow tree.Ask h s = effect_follow h s effects.Ask
      form_follow (tree.DropValue operand) h s = value_follow _ _ h s (drops_follow h (meaning_follow operand))
      form_follow (tree.Forget operand) h s = gives_unit_follow h s effects.Forget (meaning_follow operand)
      form_follow tree.Panic h s = value_follow _ _ h s (λ a own to. panics_follow rel items p q follow Why.Explicit)
      form_follow (tree.Borrow unique base) h s = value_follow _ _ h s (borrowing_follow rel items p q follow h unique (meaning_follow base))
      form_follow (tree.Unsize trait_no operand) h s = value_follow _ _ h s (coerce_follow h trait_no (meaning_follow operand))
      form_follow (tree.Block stmts tail) h s = value_follow _ _ h s (block_follow rel items p q follow h (meanings_follow stmts) (if_any_follow tail))
      form_follow (tree.Let pattern initialiser) h s =
          value_follow _ _ h s (λ a own to. letting_follow rel items p q follow h (meaning_follow pattern) (if_any_follow initialiser) a)
      form_follow (tree.Evaluate expression) h s = value_follow _ _ h s (λ a own to. evaluating_follow rel items p q follow h (meaning_follow expression) a)
      form_follow (tree.If c consequent otherwise) h s = scope_follow _ _ h s (if_else_follow h (meaning_follow c) (meaning_follow consequent) (if_any_follow otherwise))
      form_follow (tree.IfLet pattern scrutinee consequent otherwise) h s =
          scope_follow _ _ h s (if_let_follow h (meaning_follow pattern) (meaning_follow scrutinee) (meaning_follow consequent) (if_any_follow otherwise))
      form_follow (tree.Match scrutinee arms) h s = value_follow _ _ h s (matching_follow rel items p q follow h (meaning_follow scrutinee) (meanings_follow arms))
      form_follow (tree.Arm pattern guard body) h s =
          an_arm_follow h s (arm_follow rel items p q follow h (meaning_follow pattern) (if_any_follow guard) (meaning_follow body))
      form_follow (tree.Loop body) h s = scope_follow _ _ h s (endless_follow h (meaning_follow body))
      form_follow (tree.While c body) h s = scope_follow _ _ h s (while_follow h (meaning_follow c) (meaning_follow body))
      form_follow (tree.WhileLet pattern scrutinee body) h s =
          scope_follow _ _ h s (while_let_follow h (meaning_follow pattern) (meaning_follow scrutinee) (meaning_follow body))
      form_follow (tree.Break loop value) h s = scope_follow _ _ h s (breaks_follow loop h (if_any_follow value))
      form_follow (tree.Continue loop) h s = at_once (Continues loop) h s
      form_follow (tree.Return value) h s = scope_follow _ _ h s (returns_follow h (if_any_follow value))
      form_follow other h s = at_once Value h s

      meanings_follow : (ns : Nodes) → FollowsMeanings rel (meanings items p fuel ns) (meanings items q fuel' ns)
      meanings_follow no_node = no_meaning
      meanings_follow (a_node first rest) = and_means _ _ _ _ (meaning_follow first) (meanings_follow rest)

      fields_follow : (fs : Fields) → FollowsFields rel (fields_of items p fuel fs) (fields_of items q fuel' fs)
      fields_follow no_field = no_more
      fields_follow (a_field number value rest) = and_field number _ _ _ _ (meaning_follow value) (fields_follow rest)

      if_any_follow : (n : MaybeNode) → FollowsIfAny rel (meaning_if_any items p fuel n) (meaning_if_any items q fuel' n)
      if_any_follow absent = without
      if_any_follow (present value) = with_one _ _ (meaning_follow value)

    -- Bodies.

    names_follow : (b : Bool) (bounds : List BoundName) → FollowsDoes rel (names_of_param items p fuel b bounds) (names_of_param items q fuel' b bounds)
    names_follow true bounds = at_follow rel Value
    names_follow false bounds = bind_follow rel items p q follow innermost bounds

    params_follow : (params : List ParamTree) → FollowsDoes rel (params_entered items p fuel params) (params_entered items q fuel' params)
    params_follow [] = at_follow rel Value
    params_follow (param ∷ params) =
        then_follow rel (changing_follow rel (innermost (with_entry (record { key = param_key param; ty = param.ty }))))
        (then_follow rel (names_follow (shape items param.pattern).is_binding ((shape items param.pattern).bindings (whole_local (param_key param))))
        (params_follow params))

    further_follow : (es : List Entry) → FollowsOuts rel (further_unwinds items p fuel es) (further_unwinds items q fuel' es)
    further_follow [] n w c k = panics_on rel n w c k
    further_follow (e ∷ es) n w c k = after_drop rel (further_unwinds items q fuel' es) (follow.dropping Unwinding (entry_site e) n w c k) (further_follow es)

    end_follows : {n : rel.Stage} {r : Run W} {g : rel.Choices → Run V} (answer : ℕ) → Follows rel n r g →
        FollowsOut rel n (body_end items p fuel answer r) (λ t. body_end items q fuel' answer (g t))
    end_follows answer (is_at m Value S w c l _ k d) = out_after rel l _ (λ rest. ap (body_end items q fuel' answer) (d rest)) (follow.giving (site_of_key answer) m w c k)
    end_follows answer (is_at m (Breaks loop) S w c l _ k d) = halts m Stuck w c l _ (rel.at_halt m w c k) (λ rest. ap (body_end items q fuel' answer) (d rest))
    end_follows answer (is_at m (Continues loop) S w c l _ k d) = halts m Stuck w c l _ (rel.at_halt m w c k) (λ rest. ap (body_end items q fuel' answer) (d rest))
    end_follows answer (is_at m Returns S w c l _ k d) = out_after rel l _ (λ rest. ap (body_end items q fuel' answer) (d rest)) (follow.giving (site_of_key answer) m w c k)
    end_follows answer (is_at m Panics S w c l _ k d) =
        out_after rel l _ (λ rest. ap (body_end items q fuel' answer) (d rest)) (further_follow (needing_drop items (all_entries S)) m w c k)
    end_follows answer (is_over m halt w c l _ k d) = halts m halt w c l _ k (λ rest. ap (body_end items q fuel' answer) (d rest))
    end_follows answer (lapsed_run m halt w _ k) = lapsed m halt w _ k
    end_follows answer (outlived_run m halt w later s _ k d) = outlived m halt w later (body_end items p fuel answer s) _ k (end_follows answer d)
    end_follows answer (refused_run m _ halt c l _ k d) = refused m _ halt c l _ k (λ rest. ap (body_end items q fuel' answer) (d rest))

    function_follows : (body : BodyTree) → FollowsDoes rel (entire_function items p fuel body) (entire_function items q fuel' body)
    function_follows body =
        in_scope_follow rel items p q follow (answer_key body) true (then_follow rel (params_follow body.params)
        (evaluated (meaning_follow body.block) (around_body items p fuel body) false (Into (answer_key body))))

    -- a run of a body follows the run over the other effects
    pub activation_follow : (body : BodyTree) → FollowsOuts rel (activation items p fuel body) (activation items q fuel' body)
    activation_follow body n w c k = end_follows (answer_key body) ((function_follows body).run n (answer_scope items p fuel body) w c k)
