-- The lowering, as a function on typed trees: one line a form, over the rules of `Build`, beside the lines of
-- `src_meaning/specs/Evaluation` and of `lower_rules/specs/Code`; of bodies, and of programs.
use Rattle.std.specs.Prelude.{ℕ, not, Bool, true, false, ◌&&◌, ◌||◌, List, [], ◌∷◌, ◌++◌, length, map, slice_get, unwrap_or}
use Rattle.cfg_graph.specs.declared.graph.Block.{Block}
use Rattle.cfg_graph.specs.declared.graph.Body.{Body}
use Rattle.cfg_graph.specs.declared.graph.Graph.{Graph}
use Rattle.cfg_graph.specs.declared.graph.Kind.{Kind}
use Rattle.cfg_graph.specs.declared.terminator.Term.{Term}
use Rattle.mir_base.specs.declared.trace.Why.{Why}
use Rattle.mir_ty.specs.Facts.{needs_drop}
use Rattle.mir_ty.specs.ItemTable.{ItemTable}
use Rattle.store_model.specs.Effects as effects
use Rattle.store_model.specs.Effects.{EffectSite, Operand, Action, OfTuple, OfArray, OfVariant, OfClosure}
use Rattle.store_model.specs.Places.Place.{Place, whole_local, before_element}
use Rattle.typed_tree.specs.Tree as tree
use Rattle.typed_tree.specs.Tree.{Node, node, Form, Nodes, no_node, a_node, Fields, no_field, a_field, MaybeNode, absent, present, ParamTree, BodyTree, ProgramTree}
use Rattle.src_meaning.specs.Evaluation.{in_number_order, to_own_key}
use Rattle.src_meaning.specs.Forms.{Destination, Into, Coerced, coerced, LoopsAndGuards, in_loop, loop_destination, in_guard, entry_of, bound_entry, site_in, site_of_key, moved, is_never, changed_if}
use Rattle.src_meaning.specs.Locals.OfBody.{param_key, answer_key, local_of, local_tys}
use Rattle.src_meaning.specs.Scopes.{Scope, Scopes, with_scope, innermost, around_innermost, nearest_temporary, with_entry, with_pending, without_pending, becomes_entry, Exit, Breaks, Continues, Returns}
use Rattle.src_meaning.specs.Shape.{NodeHead, head, Shape, BoundName, kind_of, shape, shape_of, site_at, operand_of_bound, operand_at}
use Rattle.src_meaning.specs.FieldKeys.{field_keys, moved_fields}
use Rattle.lower_rules.specs.Spots.{Ways, body_ways}
use Rattle.lower_rules.specs.Build.{LoweringFrame, BlockRest, MadeBlock, Building, ending, closed, closing, reserved, filled, jumps_if, Lowers, change, nothing, from_changed, back_in, then_lower, joined, branches, looped, panic_drops, unwinding, act, drop_one, leave, in_scope, jump, panics, if_true, tests, taken, replaces}

abbrev pub Evaluates : Type 0
Evaluates = LoopsAndGuards → Bool → Destination → Lowers

abbrev pub Reaches : Type 0
Reaches = LoopsAndGuards → Lowers

abbrev pub MakesInto : Type 0
MakesInto = LoopsAndGuards → Destination → Lowers

-- An arm to be built, given the number of the block for what is done where it is not taken, and the rest to which it
-- goes where it is taken.
pub record LowersArm : Type 0 where
  pub has_end : Bool
  pub jumps : List Exit
  pub build : Ways → Scopes → (otherwise : ℕ) → BlockRest → Building → BlockRest × Building

-- a node to be built: as it is evaluated, as its place is reached, as an arm
pub record NodeLower : Type 0 where
  pub head : NodeHead
  pub shape : Shape
  pub evaluates : Evaluates
  pub reaches : Reaches
  pub arm : Place → LoopsAndGuards → Destination → LowersArm

pub data LowerIfAny : Type 0 where
  no_lower : LowerIfAny
  a_lower : (one : NodeLower) → LowerIfAny

abbrev pub keys_of : List NodeLower → List ℕ
keys_of [] = []
keys_of (m ∷ ms) = m.head.id ∷ keys_of ms

abbrev pub all_moved : ℕ → List NodeLower → List Operand
all_moved number ms = map (moved number) (keys_of ms)

abbrev pub place_in : NodeLower → LoopsAndGuards → Place
place_in m around = m.shape.place around.aliases

abbrev pub site_of : NodeLower → LoopsAndGuards → EffectSite
site_of m around = site_at m.head (place_in m around)

module _ (f : LoweringFrame) where
  -- Values and destinations.

  -- an effect at a node, whose answer goes to the destination
  abbrev pub deliver_at : ℕ → NodeHead → (EffectSite → Action) → Destination → Lowers
  deliver_at number h action (Into key) = act f number (action (site_in h.id key))
  deliver_at number h action (Coerced key trait_no to) =
      then_lower (act f number (action (site_in h.id key)))
      (act f h.id (effects.Unsize (site_in h.id to) trait_no (moved h.id key)))

  abbrev pub deliver : NodeHead → (EffectSite → Action) → Destination → Lowers
  deliver h action to = deliver_at h.id h action to

  abbrev pub put_unit : NodeHead → Destination → Lowers
  put_unit h to = deliver h (λ site. effects.Put site effects.UnitValue) to

  abbrev pub put_unit_if : (is_never : Bool) → NodeHead → Destination → Lowers
  put_unit_if true h to = nothing
  put_unit_if false h to = put_unit h to

  abbrev pub in_own_scope : NodeHead → Bool → Lowers → Lowers
  in_own_scope h true P = in_scope f h.id true P
  in_own_scope h false P = P

  abbrev pub alone : LoopsAndGuards → NodeLower → Destination → Lowers
  alone around m to = back_in (m.evaluates around true to)

  abbrev pub pending_if : Bool → ((Scope → Scope) → Scopes → Scopes) → NodeHead → Scopes → Scopes
  pending_if b in_that h = changed_if b (in_that (with_pending (entry_of h)))

  abbrev pub completed : ((Scope → Scope) → Scopes → Scopes) → NodeHead → Scopes → Scopes
  completed in_that h = in_that (becomes_entry (entry_of h))

  abbrev pub operand : LoopsAndGuards → NodeLower → Lowers
  operand around m =
      from_changed (pending_if m.shape.in_destination innermost m.head)
      (then_lower (m.evaluates around false (Into m.head.id)) (change (completed innermost m.head)))

  abbrev pub operands : LoopsAndGuards → List NodeLower → Lowers
  operands around [] = nothing
  operands around (m ∷ ms) = then_lower (operand around m) (operands around ms)

  abbrev pub acting : NodeHead → LoopsAndGuards → Bool → List NodeLower → Lowers → Lowers
  acting h around own ms P =
      in_scope f h.id own (then_lower (operands around ms) (from_changed (taken f (keys_of ms)) P))

  abbrev pub dropping : NodeHead → LoopsAndGuards → Bool → NodeLower → Lowers → Lowers
  dropping h around own m P = in_scope f h.id own (then_lower (operand around m) P)

  -- Places.

  abbrev pub temporary : NodeHead → Shape → Evaluates → Reaches
  temporary h s evaluates around =
      from_changed (pending_if s.in_destination nearest_temporary h)
      (then_lower (evaluates around false (Into h.id)) (change (completed nearest_temporary h)))

  abbrev pub use_of_place : NodeHead → Shape → Reaches → Evaluates
  use_of_place h s reaches around own to =
      in_own_scope h own (then_lower (reaches around)
      (deliver h (λ site. effects.Put site (operand_at h (s.place around.aliases))) to))

  abbrev pub array_around : Place → Place
  array_around place = record place { steps = before_element place.steps }

  abbrev pub reach_element : NodeHead → Shape → NodeLower → NodeLower → ℕ → Reaches
  reach_element h s base index count around =
      then_lower (base.reaches around)
      (then_lower (index.evaluates around false (Into index.head.id))
      (then_lower (act f h.id (effects.Touch (site_at h (array_around (s.place around.aliases)))))
      (act f index.head.id (effects.Bounds (effects.Copied (site_of_key index.head.id)) count))))

  -- all of a borrow stands at the node of its base
  abbrev pub borrowing : NodeHead → Bool → NodeLower → Evaluates
  borrowing h unique base around own to =
      in_own_scope h own (then_lower (base.reaches around)
      (deliver_at base.head.id h
      (λ site. effects.Borrow (record site { node = base.head.id }) unique (site_of base around)) to))

  abbrev pub unit_after : NodeHead → Action → Destination → Lowers
  unit_after h action to = then_lower (act f h.id action) (put_unit h to)

  abbrev pub assigning : NodeHead → NodeLower → NodeLower → Evaluates
  assigning h place value around own to =
      in_scope f h.id own (then_lower (operand around value)
      (then_lower (place.reaches around)
      (then_lower (replaces f (needs_drop f.items place.head.ty) (site_of place around) value.head.id)
      (put_unit h to))))

  -- Conditions, branches, patterns.

  abbrev pub condition : LoopsAndGuards → NodeLower → Lowers → Lowers → Lowers
  condition around m P Q =
      then_lower (alone around m (Into m.head.id))
      (branches m.head.id (if_true f (moved m.head.id m.head.id) m.head.id) P Q)

  abbrev pub branch : LoopsAndGuards → Destination → LowerIfAny → Lowers → Lowers
  branch around to no_lower without = without
  branch around to (a_lower m) without = alone around m to

  abbrev pub bind : ((Scope → Scope) → Scopes → Scopes) → List BoundName → Lowers
  bind in_that [] = nothing
  bind in_that (b ∷ bounds) =
      then_lower (act f b.key (effects.Put (site_of_key b.key) (operand_of_bound b)))
      (from_changed (in_that (with_entry (bound_entry b))) (bind in_that bounds))

  abbrev pub touched : Bool → EffectSite → Lowers
  touched true site = act f site.node (effects.Touch site)
  touched false site = nothing

  abbrev pub scrutinised : LoopsAndGuards → NodeLower → Lowers
  scrutinised around m = then_lower (m.reaches around) (touched m.shape.is_place (site_of m around))

  abbrev pub if_taken : NodeHead → LoopsAndGuards → NodeLower → NodeLower → Lowers → Lowers → Lowers
  if_taken h around pattern scrutinee P Q =
      from_changed (with_scope h.id true) (then_lower (scrutinised around scrutinee)
      (branches h.id (tests f (pattern.shape.tests (place_in scrutinee around)))
      (then_lower (then_lower (bind innermost (pattern.shape.bindings (place_in scrutinee around))) P) (leave f))
      (then_lower (leave f) Q)))

  abbrev pub taken_arm : NodeHead → LoopsAndGuards → List BoundName → NodeLower → Destination → Lowers
  taken_arm h around bounds m to = in_scope f h.id false (then_lower (bind innermost bounds) (alone around m to))

  -- where a guard holds the arm is taken; where it does not, what is done otherwise follows
  abbrev pub guard_from : Bool → Lowers → ℕ → Lowers → Ways → Scopes → ℕ → BlockRest → Building → BlockRest × Building
  guard_from true guard key P c S otherwise k s =
      let then_do = closing (P.build c S k s) in
      let asked = if_true f (moved key key) key then_do.0 otherwise then_do.1 in
      guard.build c S asked.0 asked.1
  guard_from false guard key P c S otherwise k s = guard.build c S k s

  abbrev pub guarded : LoopsAndGuards → List BoundName → LowerIfAny → Lowers → LowersArm
  guarded around bounds no_lower P =
      record { has_end = P.has_end; jumps = P.jumps; build = λ c S otherwise k s. P.build c S k s }
  guarded around bounds (a_lower guard) P =
      let asked = alone (in_guard bounds around) guard (Into guard.head.id) in
      record {
        has_end = asked.has_end && P.has_end;
        jumps = asked.jumps ++ jumps_if asked.has_end P.jumps;
        build = guard_from asked.has_end asked guard.head.id P;
      }

  abbrev pub arm : NodeHead → NodeLower → LowerIfAny → NodeLower → Place → LoopsAndGuards → Destination → LowersArm
  arm h pattern guard m matched around to =
      let bounds = pattern.shape.bindings matched in
      let code = guarded around bounds guard (taken_arm h around bounds m to) in
      record code {
        build = λ c S otherwise k s.
            let then_do = closing (code.build c S otherwise k s) in
            tests f (pattern.shape.tests matched) then_do.0 otherwise then_do.1;
      }

  abbrev pub arms_end : List NodeLower → Place → LoopsAndGuards → Destination → Bool
  arms_end [] matched around to = false
  arms_end (m ∷ ms) matched around to = (m.arm matched around to).has_end || arms_end ms matched around to

  abbrev pub arm_jumps : List NodeLower → Place → LoopsAndGuards → Destination → List Exit
  arm_jumps [] matched around to = []
  arm_jumps (m ∷ ms) matched around to = (m.arm matched around to).jumps ++ arm_jumps ms matched around to

  -- the last arm is built first; behind it a panic
  abbrev pub arms_from :
      ℕ → List NodeLower → Place → LoopsAndGuards → Destination → Ways → Scopes → BlockRest → Building → BlockRest × Building
  arms_from number [] matched around to c S k s = unwinding f (Term.Panic Why.Match) number (panic_drops f S) s
  arms_from number (m ∷ ms) matched around to c S k s =
      let otherwise = closing (arms_from number ms matched around to c S k s) in
      (m.arm matched around to).build c S otherwise.0 k otherwise.1

  abbrev pub arms_in_order : ℕ → List NodeLower → Place → LoopsAndGuards → Destination → Lowers
  arms_in_order number ms matched around to = record {
    has_end = arms_end ms matched around to;
    jumps = arm_jumps ms matched around to;
    after = λ S. S;
    build = λ c S k s.
        let join = joined (arms_end ms matched around to) number k s in
        arms_from number ms matched around to c S join.0 join.1;
  }

  abbrev pub matching : NodeHead → NodeLower → List NodeLower → Evaluates
  matching h scrutinee arms around own to =
      in_own_scope h own (then_lower (scrutinised around scrutinee)
      (arms_in_order h.id arms (place_in scrutinee around) around to))

  -- Blocks and statements.

  abbrev pub statements : LoopsAndGuards → List NodeLower → Lowers
  statements around [] = nothing
  statements around (m ∷ ms) =
      then_lower (m.evaluates around false (Into m.head.id)) (statements around ms)

  abbrev pub tail_of : NodeHead → LowerIfAny → LoopsAndGuards → Destination → Lowers
  tail_of h no_lower around to = put_unit_if (is_never f.items h.ty) h to
  tail_of h (a_lower m) around to = alone around m to

  abbrev pub block : NodeHead → List NodeLower → LowerIfAny → Evaluates
  block h ms tail around own to =
      in_scope f h.id own (then_lower (statements around ms) (tail_of h tail around to))

  abbrev pub evaluating : NodeHead → NodeLower → Reaches
  evaluating h m around =
      in_scope f h.id true (from_changed (pending_if true innermost m.head)
      (then_lower (m.evaluates around false (Into m.head.id)) (change (completed innermost m.head))))

  abbrev pub named : NodeHead → Scopes → Scopes
  named x S = around_innermost (with_entry (entry_of x)) (innermost (without_pending (entry_of x)) S)

  abbrev pub let_name : NodeHead → NodeHead → NodeLower → Reaches
  let_name h x m around =
      in_scope f h.id true (from_changed (pending_if true innermost x)
      (then_lower (m.evaluates around false (Into x.id)) (change (named x))))

  abbrev pub let_parts : NodeHead → NodeLower → NodeLower → Reaches
  let_parts h pattern m around =
      in_scope f h.id true
      (from_changed (pending_if (not (m.shape.is_place || m.shape.in_destination)) innermost m.head)
      (then_lower (m.reaches around) (bind around_innermost (pattern.shape.bindings (place_in m around)))))

  abbrev pub emptied : Bool → ℕ → Lowers
  emptied true key = nothing
  emptied false key = record nothing { build = λ c S. drop_one f (site_of_key key) (panic_drops f S) }

  abbrev pub declared : List BoundName → Lowers
  declared [] = nothing
  declared (b ∷ bounds) =
      then_lower (emptied (needs_drop f.items b.ty) b.key)
      (from_changed (innermost (with_entry (bound_entry b))) (declared bounds))

  abbrev pub let_value : Bool → NodeHead → NodeLower → NodeLower → Reaches
  let_value true h pattern m = let_name h pattern.head m
  let_value false h pattern m = let_parts h pattern m

  abbrev pub letting : NodeHead → NodeLower → LowerIfAny → Reaches
  letting h pattern no_lower around = declared (pattern.shape.bindings (whole_local 0))
  letting h pattern (a_lower m) around = let_value pattern.shape.is_binding h pattern m around

  -- Jumps.

  abbrev pub value_of_jump : NodeHead → LowerIfAny → LoopsAndGuards → Destination → Lowers
  value_of_jump h no_lower around to = put_unit h to
  value_of_jump h (a_lower m) around to = m.evaluates around false to

  abbrev pub ends_loop : NodeHead → Destination → Lowers
  ends_loop h to = jump f h.id (Breaks h.id) (put_unit h to)

  -- The forms.

  abbrev pub made_in : NodeHead → Evaluates → Evaluates
  made_in h e around own to = e around own (to_own_key (is_never f.items h.ty) h.id to)

  abbrev pub no_arm : Place → LoopsAndGuards → Destination → LowersArm
  no_arm matched around to = record { has_end = true; jumps = []; build = λ c S otherwise k s. (k, s) }

  abbrev pub a_value : NodeHead → Shape → Evaluates → NodeLower
  a_value h s e = record {
    head = h;
    shape = s;
    evaluates = made_in h e;
    reaches = temporary h s (made_in h e);
    arm = no_arm;
  }

  abbrev pub a_place : NodeHead → Shape → Reaches → NodeLower
  a_place h s r = record {
    head = h;
    shape = s;
    evaluates = made_in h (use_of_place h s r);
    reaches = r;
    arm = no_arm;
  }

  abbrev pub a_scope : NodeHead → Shape → MakesInto → NodeLower
  a_scope h s does = a_value h s (λ around own to. in_own_scope h own (does around to))

  abbrev pub effect : NodeHead → Shape → (EffectSite → Action) → NodeLower
  effect h s action = a_scope h s (λ around. deliver h action)

  abbrev pub on_operands : NodeHead → Shape → List NodeLower → (EffectSite → Action) → NodeLower
  on_operands h s ms action = a_value h s (λ around own to. acting h around own ms (deliver h action to))

  abbrev pub on_one : NodeHead → Shape → NodeLower → (EffectSite → Operand → Action) → NodeLower
  on_one h s m action = on_operands h s (m ∷ []) (λ site. action site (moved h.id m.head.id))

  abbrev pub on_two : NodeHead → Shape → NodeLower → NodeLower → (EffectSite → Operand → Operand → Action) → NodeLower
  on_two h s m m' action =
      on_operands h s (m ∷ m' ∷ []) (λ site. action site (moved h.id m.head.id) (moved h.id m'.head.id))

  abbrev pub on_all : NodeHead → Shape → List NodeLower → (EffectSite → List Operand → Action) → NodeLower
  on_all h s ms action = on_operands h s ms (λ site. action site (all_moved h.id ms))

  abbrev pub gives_unit : NodeHead → Shape → NodeLower → (Operand → Action) → NodeLower
  gives_unit h s m action =
      a_value h s (λ around own to.
      acting h around own (m ∷ []) (unit_after h (action (moved h.id m.head.id)) to))

  abbrev pub a_statement : NodeHead → Shape → Reaches → NodeLower
  a_statement h s r = a_value h s (λ around own to. r around)

  abbrev pub a_pattern : NodeHead → Shape → NodeLower
  a_pattern h s = a_value h s (λ around own to. nothing)

  abbrev pub shortcut : NodeHead → Bool → Destination → Lowers
  shortcut h truth to = deliver h (λ site. effects.Put site (effects.Truth truth)) to

  abbrev pub conjunction : NodeHead → NodeLower → NodeLower → MakesInto
  conjunction h left right around to = condition around left (alone around right to) (shortcut h false to)

  abbrev pub disjunction : NodeHead → NodeLower → NodeLower → MakesInto
  disjunction h left right around to = condition around left (shortcut h true to) (alone around right to)

  abbrev pub otherwise_unit : NodeHead → LowerIfAny → MakesInto
  otherwise_unit h otherwise around to = branch around to otherwise (put_unit h to)

  abbrev pub body_in : NodeLower → LoopsAndGuards → Lowers
  body_in m around = alone around m (Into m.head.id)

  abbrev mutual
    pub lower : Node → NodeLower
    lower (node id at ty by form) = lower_form form (head id ty by) (shape_of f.items form (head id ty by))

    pub lower_form : Form → NodeHead → Shape → NodeLower
    lower_form (tree.Number value) h s =
        effect h s (λ site. effects.Put site (effects.Number value (kind_of f.items h.ty)))
    lower_form (tree.Truth value) h s = effect h s (λ site. effects.Put site (effects.Truth value))
    lower_form tree.UnitValue h s = effect h s (λ site. effects.Put site effects.UnitValue)
    lower_form (tree.Variable key) h s = a_place h s (λ around. nothing)
    lower_form (tree.Captured closure part name) h s = a_place h s (λ around. nothing)
    lower_form (tree.Field base part) h s = a_place h s (lower base).reaches
    lower_form (tree.Index base index count) h s = a_place h s (reach_element h s (lower base) (lower index) count)
    lower_form (tree.Deref base) h s = a_place h s (lower base).reaches
    lower_form (tree.Not operand) h s = on_one h s (lower operand) effects.Not
    lower_form (tree.Negate operand) h s = on_one h s (lower operand) effects.Negate
    lower_form (tree.Arithmetic operator left right) h s =
        on_two h s (lower left) (lower right) (λ site. effects.Compute site operator)
    lower_form (tree.Comparison operator left right) h s =
        on_two h s (lower left) (lower right) (λ site. effects.Compare site operator)
    lower_form (tree.And left right) h s = a_scope h s (conjunction h (lower left) (lower right))
    lower_form (tree.Or left right) h s = a_scope h s (disjunction h (lower left) (lower right))
    lower_form (tree.Assign place value) h s = a_value h s (assigning h (lower place) (lower value))
    lower_form (tree.Call body args) h s = on_all h s (lower_all args) (λ site. effects.Call site body)
    lower_form (tree.MethodCall body receiver args) h s =
        on_all h s (lower receiver ∷ lower_all args) (λ site. effects.Call site body)
    lower_form (tree.VirtualCall trait_no method receiver args) h s =
        on_all h s (lower receiver ∷ lower_all args) (λ site. effects.CallVirtual site trait_no method)
    lower_form (tree.ClosureCall body callee args) h s =
        on_all h s (lower callee ∷ lower_all args) (λ site. effects.Call site body)
    lower_form (tree.Make adt variant fields) h s =
        on_operands h s (lower_fields fields)
        (λ site. effects.Build site (OfVariant adt variant) (moved_fields h.id (in_number_order (field_keys fields))))
    lower_form (tree.Tuple parts) h s = on_all h s (lower_all parts) (λ site. effects.Build site OfTuple)
    lower_form (tree.Array elements) h s = on_all h s (lower_all elements) (λ site. effects.Build site OfArray)
    lower_form (tree.Closure closure captures) h s =
        on_all h s (lower_all captures) (λ site. effects.Build site (OfClosure closure))
    lower_form (tree.NewBox content) h s = on_one h s (lower content) effects.NewBox
    lower_form (tree.Print operand) h s = gives_unit h s (lower operand) effects.Print
    lower_form tree.Ask h s = effect h s effects.Ask
    lower_form (tree.DropValue operand) h s =
        a_value h s (λ around own to. dropping h around own (lower operand) (put_unit h to))
    lower_form (tree.Forget operand) h s = gives_unit h s (lower operand) effects.Forget
    lower_form tree.Panic h s = a_value h s (λ around own to. panics f h.id Why.Explicit)
    lower_form (tree.Borrow unique base) h s = a_value h s (borrowing h unique (lower base))
    lower_form (tree.Unsize trait_no operand) h s =
        a_value h s (λ around own to.
        (lower operand).evaluates around own (coerced (lower operand).head.id trait_no to))
    lower_form (tree.Block stmts tail) h s = a_value h s (block h (lower_all stmts) (lower_if_any tail))
    lower_form (tree.Let pattern initialiser) h s =
        a_statement h s (letting h (lower pattern) (lower_if_any initialiser))
    lower_form (tree.Evaluate expression) h s = a_statement h s (evaluating h (lower expression))
    lower_form (tree.If c consequent otherwise) h s =
        a_scope h s (λ around to.
        condition around (lower c) (alone around (lower consequent) to)
        (otherwise_unit h (lower_if_any otherwise) around to))
    lower_form (tree.IfLet pattern scrutinee consequent otherwise) h s =
        a_scope h s (λ around to.
        if_taken h around (lower pattern) (lower scrutinee) (alone around (lower consequent) to)
        (otherwise_unit h (lower_if_any otherwise) around to))
    lower_form (tree.Match scrutinee arms) h s = a_value h s (matching h (lower scrutinee) (lower_all arms))
    lower_form (tree.Arm pattern guard m) h s =
        record (a_pattern h s) { arm = arm h (lower pattern) (lower_if_any guard) (lower m) }
    lower_form (tree.Loop m) h s =
        a_scope h s (λ around to. looped h.id (body_in (lower m) (in_loop h.id to around)))
    lower_form (tree.While c m) h s =
        a_scope h s (λ around to. looped h.id
        (condition (in_loop h.id to around) (lower c) (body_in (lower m) (in_loop h.id to around)) (ends_loop h to)))
    lower_form (tree.WhileLet pattern scrutinee m) h s =
        a_scope h s (λ around to. looped h.id
        (if_taken h (in_loop h.id to around) (lower pattern) (lower scrutinee)
        (body_in (lower m) (in_loop h.id to around)) (ends_loop h to)))
    lower_form (tree.Break loop value) h s =
        a_scope h s (λ around to.
        jump f h.id (Breaks loop)
        (value_of_jump h (lower_if_any value) around (loop_destination loop around.loops)))
    lower_form (tree.Continue loop) h s = a_value h s (λ around own to. jump f h.id (Continues loop) nothing)
    lower_form (tree.Return value) h s =
        a_scope h s (λ around to.
        jump f h.id Returns (value_of_jump h (lower_if_any value) around around.answer))
    lower_form tree.Wildcard h s = a_pattern h s
    lower_form (tree.Binding name) h s = a_pattern h s
    lower_form (tree.NumberPattern value) h s = a_pattern h s
    lower_form (tree.TruthPattern value) h s = a_pattern h s
    lower_form (tree.StructPattern fields) h s = a_pattern h s
    lower_form (tree.VariantPattern variant is_test fields) h s = a_pattern h s
    lower_form (tree.TuplePattern parts) h s = a_pattern h s
    lower_form (tree.ArrayPattern elements) h s = a_pattern h s
    lower_form (tree.OrPattern alternatives) h s = a_pattern h s

    pub lower_all : Nodes → List NodeLower
    lower_all no_node = []
    lower_all (a_node first rest) = lower first ∷ lower_all rest

    pub lower_fields : Fields → List NodeLower
    lower_fields no_field = []
    lower_fields (a_field number value rest) = lower value ∷ lower_fields rest

    pub lower_if_any : MaybeNode → LowerIfAny
    lower_if_any absent = no_lower
    lower_if_any (present value) = a_lower (lower value)

  -- Bodies.

  abbrev pub names_of_param : Bool → List BoundName → Lowers
  names_of_param true bounds = nothing
  names_of_param false bounds = bind innermost bounds

  abbrev pub params_entered : List ParamTree → Lowers
  params_entered [] = nothing
  params_entered (param ∷ params) =
      from_changed (innermost (with_entry (record { key = param_key param; ty = param.ty })))
      (then_lower (names_of_param (shape f.items param.pattern).is_binding
      ((shape f.items param.pattern).bindings (whole_local (param_key param))))
      (params_entered params))

  abbrev pub around_body : BodyTree → LoopsAndGuards
  around_body body = record { answer = Into (answer_key body); loops = []; aliases = [] }

  abbrev pub entire_function : BodyTree → Lowers
  entire_function body =
      in_scope f (answer_key body) true (then_lower (params_entered body.params)
      ((lower body.block).evaluates (around_body body) false (Into (answer_key body))))

  -- block 0 is the first of the body, and is built last; block 1 returns
  abbrev pub start : BodyTree → Building
  start body =
      closed Kind.Plain (ending Term.Return (answer_key body)) (reserved (record { blocks = []; shared = λ i. [] }))

  abbrev pub answer_scope : BodyTree → Scopes
  answer_scope body =
      innermost (with_pending (record { key = answer_key body; ty = body.answer }))
      (with_scope (answer_key body) false [])

  abbrev pub built : BodyTree → Building
  built body =
      let code = (entire_function body).build (body_ways 1) (answer_scope body)
      (ending (Term.Goto 1) 0) (start body) in
      filled Kind.Plain 0 code.0 code.1

-- every number that is given out has its block by then
abbrev pub unmade : MadeBlock
unmade = record { block = record { kind = Kind.Plain; rank = 0; stmts = []; term = Term.Return }; nodes = [] }

abbrev pub blocks_of : Building → List Block
blocks_of s = map (λ o. (unwrap_or o unmade).block) s.blocks

abbrev pub nodes_of : Building → List (List ℕ)
nodes_of s = map (λ o. (unwrap_or o unmade).nodes) s.blocks

abbrev pub frame : ItemTable → BodyTree → LoweringFrame
frame items body = record { items = items; local_of = local_of items body; tys = local_tys items body }

abbrev pub body_of : ItemTable → BodyTree → Body
body_of items body = record {
  params = length body.params;
  locals = local_tys items body;
  blocks = blocks_of (built (frame items body) body);
}

-- the node of a line
abbrev pub node_in : List (List ℕ) → (block line : ℕ) → ℕ
node_in nodes block line = unwrap_or (slice_get (unwrap_or (slice_get nodes block) []) line) 0

abbrev pub node_of : ItemTable → BodyTree → (block line : ℕ) → ℕ
node_of items body = node_in (nodes_of (built (frame items body) body))

abbrev pub graph_of : ProgramTree → Graph
graph_of program = record { items = program.items; bodies = map (body_of program.items) program.bodies }
