-- The blocks that are made of the code of a body are those of its lowering: one lemma a rule, and one line a form.
use Rattle.std.proofs.Common.{◌≡◌, ◌∙◌, refl, ap, ℕ, Bool, true, false, ◌||◌, ◌++◌, not, List, [], ◌∷◌, map}
use Rattle.mir_base.specs.declared.trace.Why.{Why}
use Rattle.mir_ty.specs.Facts.{needs_drop}
use Rattle.store_model.specs.Effects as effects
use Rattle.store_model.specs.Effects.{EffectSite, Operand, Action, OfTuple, OfArray, OfVariant, OfClosure}
use Rattle.store_model.specs.Places.Place.{Place, whole_local}
use Rattle.typed_tree.specs.Tree as tree
use Rattle.typed_tree.specs.Tree.{Node, node, Form, Nodes, no_node, a_node, Fields, no_field, a_field, MaybeNode, absent, present, ParamTree, BodyTree}
use Rattle.src_meaning.specs.Evaluation.{in_number_order}
use Rattle.src_meaning.specs.Forms.{Destination, Into, Coerced, coerced, LoopsAndGuards, in_loop, loop_destination, entry_of, bound_entry, site_of_key, moved, is_never}
use Rattle.src_meaning.specs.Locals.OfBody.{param_key, answer_key}
use Rattle.src_meaning.specs.Scopes.{innermost, nearest_temporary, with_scope, with_entry, Breaks, Continues, Returns}
use Rattle.src_meaning.specs.Shape.{NodeHead, head, Shape, BoundName, kind_of, shape, shape_of, operand_at, operand_of_bound}
use Rattle.src_meaning.specs.FieldKeys.{field_keys, moved_fields}
use Rattle.lower_code.specs.Code.{ScopeAt, Innermost, AroundInnermost, NearestTemporary, change_in, Completes, Code, Nothing, Changes, Then, Panics, Exits, Loops, Matches}
use Rattle.lower_code.specs.Forms as code
use Rattle.lower_code.specs.Forms.{NodeWords, WordsIfAny, no_code, a_code}
use Rattle.lower_rules.specs.Build as build
use Rattle.lower_rules.specs.Build.{LoweringFrame, Lowers, change, act, tests, panics, nothing, from_changed, then_lower, branches, looped, in_scope, jump, exits, leave}
use Rattle.lower_rules.specs.Lower as low
use Rattle.lower_rules.specs.Lower.{NodeLower, LowerIfAny, no_lower, a_lower}
use Rattle.lower_rules.specs.Codes.{lowers, lowers_arm, lowers_arms, some_end, all_jumps, built_from, matches}

module _ (f : LoweringFrame) where
  abbrev lowered : NodeWords → NodeLower
  lowered m = record {
    head = m.head;
    shape = m.shape;
    evaluates = λ around own to. lowers f (m.evaluates around own to);
    reaches = λ around. lowers f (m.reaches around);
    arm = λ matched around to. lowers_arm f (m.arm matched around to);
  }

  abbrev lowered_if : WordsIfAny → LowerIfAny
  lowered_if no_code = no_lower
  lowered_if (a_code m) = a_lower (lowered m)

  abbrev all_lowered : List NodeWords → List NodeLower
  all_lowered [] = []
  all_lowered (m ∷ ms) = lowered m ∷ all_lowered ms

  -- Values and destinations.

  delivered_at : (number : ℕ) (h : NodeHead) (action : EffectSite → Action) (to : Destination) → lowers f (code.deliver_at number h.id action to) ≡ low.deliver_at f number h action to
  delivered_at number h action (Into key) = refl
  delivered_at number h action (Coerced key trait_no to) = refl

  delivered : (h : NodeHead) (action : EffectSite → Action) (to : Destination) → lowers f (code.deliver h.id action to) ≡ low.deliver f h action to
  delivered h action to = delivered_at h.id h action to

  unit_put : (h : NodeHead) (to : Destination) → lowers f (code.put_unit h.id to) ≡ low.put_unit f h to
  unit_put h to = delivered h (λ site. effects.Put site effects.UnitValue) to

  unit_put_if : (b : Bool) (h : NodeHead) (to : Destination) → lowers f (code.put_unit_if b h.id to) ≡ low.put_unit_if f b h to
  unit_put_if true h to = refl
  unit_put_if false h to = unit_put h to

  in_own : (h : NodeHead) (own : Bool) (c : Code) → lowers f (code.in_own_scope h.id own c) ≡ low.in_own_scope f h own (lowers f c)
  in_own h true c = refl
  in_own h false c = refl

  in_own_by : (h : NodeHead) (own : Bool) (c : Code) (P : Lowers) → lowers f c ≡ P → lowers f (code.in_own_scope h.id own c) ≡ low.in_own_scope f h own P
  in_own_by h own c P same = in_own h own c ∙ ap (low.in_own_scope f h own) same

  pending : (b : Bool) (at : ScopeAt) (h : NodeHead) (c : Code) → lowers f (code.from_pending b at (entry_of h) c) ≡ from_changed (low.pending_if f b (change_in at) h) (lowers f c)
  pending true at h c = refl
  pending false at h c = refl

  an_operand : (around : LoopsAndGuards) (m : NodeWords) → lowers f (code.operand around m) ≡ low.operand f around (lowered m)
  an_operand around m = pending m.shape.in_destination Innermost m.head (Then (m.evaluates around false (Into m.head.id)) (Changes (Completes Innermost (entry_of m.head))))

  all_operands : (around : LoopsAndGuards) (ms : List NodeWords) → lowers f (code.operands around ms) ≡ low.operands f around (all_lowered ms)
  all_operands around [] = refl
  all_operands around (m ∷ ms) = λ i. then_lower (an_operand around m i) (all_operands around ms i)

  keys : (ms : List NodeWords) → code.keys_of ms ≡ low.keys_of (all_lowered ms)
  keys [] = refl
  keys (m ∷ ms) = ap (λ rest. m.head.id ∷ rest) (keys ms)

  acts_on : (h : NodeHead) (around : LoopsAndGuards) (own : Bool) (ms : List NodeWords) (c : Code) (P : Lowers) → lowers f c ≡ P → lowers f (code.acting h.id around own ms c) ≡ low.acting f h around own (all_lowered ms) P
  acts_on h around own ms c P same = λ i. in_scope f h.id own (then_lower (all_operands around ms i) (from_changed (build.taken f (keys ms i)) (same i)))

  drops_one : (h : NodeHead) (around : LoopsAndGuards) (own : Bool) (m : NodeWords) (c : Code) (P : Lowers) → lowers f c ≡ P → lowers f (code.dropping h.id around own m c) ≡ low.dropping f h around own (lowered m) P
  drops_one h around own m c P same = λ i. in_scope f h.id own (then_lower (an_operand around m i) (same i))

  -- Places.

  a_temporary : (h : NodeHead) (s : Shape) (e : code.Evaluates) (e' : low.Evaluates) → ((around : LoopsAndGuards) (own : Bool) (to : Destination) → lowers f (e around own to) ≡ e' around own to) → (around : LoopsAndGuards) → lowers f (code.temporary h s e around) ≡ low.temporary f h s e' around
  a_temporary h s e e' same around =
      pending s.in_destination NearestTemporary h (Then (e around false (Into h.id)) (Changes (Completes NearestTemporary (entry_of h))))
      ∙ ap (λ P. from_changed (low.pending_if f s.in_destination nearest_temporary h) (then_lower P (change (low.completed f nearest_temporary h)))) (same around false (Into h.id))

  uses_place : (h : NodeHead) (s : Shape) (r : code.Reaches) (around : LoopsAndGuards) (own : Bool) (to : Destination) → lowers f (code.use_of_place h s r around own to) ≡ low.use_of_place f h s (λ around. lowers f (r around)) around own to
  uses_place h s r around own to =
      in_own_by h own (Then (r around) (code.deliver h.id (λ site. effects.Put site (operand_at h (s.place around.aliases))) to)) (then_lower (lowers f (r around)) (low.deliver f h (λ site. effects.Put site (operand_at h (s.place around.aliases))) to))
      (ap (then_lower (lowers f (r around))) (delivered h (λ site. effects.Put site (operand_at h (s.place around.aliases))) to))

  borrows : (h : NodeHead) (unique : Bool) (base : NodeWords) (around : LoopsAndGuards) (own : Bool) (to : Destination) → lowers f (code.borrowing h unique base around own to) ≡ low.borrowing f h unique (lowered base) around own to
  borrows h unique base around own to =
      let action = λ (site : EffectSite). effects.Borrow (record site { node = base.head.id }) unique (code.site_of base around) in
      in_own_by h own (Then (base.reaches around) (code.deliver_at base.head.id h.id action to)) (then_lower (lowers f (base.reaches around)) (low.deliver_at f base.head.id h action to))
      (ap (then_lower (lowers f (base.reaches around))) (delivered_at base.head.id h action to))

  unit_follows : (h : NodeHead) (action : Action) (to : Destination) → lowers f (code.unit_after h.id action to) ≡ low.unit_after f h action to
  unit_follows h action to = ap (then_lower (act f h.id action)) (unit_put h to)

  replaced : (b : Bool) (site : EffectSite) (key : ℕ) → lowers f (code.replaces b site key) ≡ build.replaces f b site key
  replaced true site key = refl
  replaced false site key = refl

  assigns : (h : NodeHead) (place value : NodeWords) (around : LoopsAndGuards) (own : Bool) (to : Destination) → lowers f (code.assigning f.items h place value around own to) ≡ low.assigning f h (lowered place) (lowered value) around own to
  assigns h place value around own to = λ i.
      in_scope f h.id own (then_lower (an_operand around value i)
      (then_lower (lowers f (place.reaches around))
      (then_lower (replaced (needs_drop f.items place.head.ty) (code.site_of place around) value.head.id i) (unit_put h to i))))

  -- Conditions, branches, patterns.

  branched : (around : LoopsAndGuards) (to : Destination) (m : WordsIfAny) (c : Code) → lowers f (code.branch around to m c) ≡ low.branch f around to (lowered_if m) (lowers f c)
  branched around to no_code c = refl
  branched around to (a_code m) c = refl

  binds : (at : ScopeAt) (bounds : List BoundName) → lowers f (code.bind at bounds) ≡ low.bind f (change_in at) bounds
  binds at [] = refl
  binds at (b ∷ bounds) = ap (λ P. then_lower (act f b.key (effects.Put (site_of_key b.key) (operand_of_bound b))) (from_changed (change_in at (with_entry (bound_entry b))) P)) (binds at bounds)

  touches : (b : Bool) (site : EffectSite) → lowers f (code.touched b site) ≡ low.touched f b site
  touches true site = refl
  touches false site = refl

  scrutinises : (around : LoopsAndGuards) (m : NodeWords) → lowers f (code.scrutinised around m) ≡ low.scrutinised f around (lowered m)
  scrutinises around m = ap (then_lower (lowers f (m.reaches around))) (touches m.shape.is_place (code.site_of m around))

  takes_if : (h : NodeHead) (around : LoopsAndGuards) (pattern scrutinee : NodeWords) (held otherwise : Code) → lowers f (code.if_taken h around pattern scrutinee held otherwise) ≡ low.if_taken f h around (lowered pattern) (lowered scrutinee) (lowers f held) (lowers f otherwise)
  takes_if h around pattern scrutinee held otherwise = λ i.
      from_changed (with_scope h.id true) (then_lower (scrutinises around scrutinee i)
      (branches h.id (tests f (pattern.shape.tests (code.place_in scrutinee around))) (then_lower (then_lower (binds Innermost (pattern.shape.bindings (code.place_in scrutinee around)) i) (lowers f held)) (leave f))
      (then_lower (leave f) (lowers f otherwise))))

  takes_arm : (h : NodeHead) (around : LoopsAndGuards) (bounds : List BoundName) (m : NodeWords) (to : Destination) → lowers f (code.taken_arm h around bounds m to) ≡ low.taken_arm f h around bounds (lowered m) to
  takes_arm h around bounds m to = λ i. in_scope f h.id false (then_lower (binds Innermost bounds i) (low.alone f around (lowered m) to))

  guards : (around : LoopsAndGuards) (bounds : List BoundName) (m : WordsIfAny) (P : Lowers) → Rattle.lower_rules.specs.Codes.guarded f (code.guard around bounds m) P ≡ low.guarded f around bounds (lowered_if m) P
  guards around bounds no_code P = refl
  guards around bounds (a_code m) P = refl

  an_arm : (h : NodeHead) (pattern : NodeWords) (guard : WordsIfAny) (m : NodeWords) (matched : Place) (around : LoopsAndGuards) (to : Destination) → lowers_arm f (code.arm h pattern guard m matched around to) ≡ low.arm f h (lowered pattern) (lowered_if guard) (lowered m) matched around to
  an_arm h pattern guard m matched around to =
      ap (Rattle.lower_rules.specs.Codes.behind_tests f (pattern.shape.tests matched))
      (guards around (pattern.shape.bindings matched) guard (lowers f (code.taken_arm h around (pattern.shape.bindings matched) m to))
      ∙ ap (low.guarded f around (pattern.shape.bindings matched) (lowered_if guard)) (takes_arm h around (pattern.shape.bindings matched) m to))

  arms_end : (ms : List NodeWords) (matched : Place) (around : LoopsAndGuards) (to : Destination) → some_end f (lowers_arms f (code.arms ms matched around to)) ≡ low.arms_end f (all_lowered ms) matched around to
  arms_end [] matched around to = refl
  arms_end (m ∷ ms) matched around to = ap (λ b. (lowers_arm f (m.arm matched around to)).has_end || b) (arms_end ms matched around to)

  arms_jump : (ms : List NodeWords) (matched : Place) (around : LoopsAndGuards) (to : Destination) → all_jumps f (lowers_arms f (code.arms ms matched around to)) ≡ low.arm_jumps f (all_lowered ms) matched around to
  arms_jump [] matched around to = refl
  arms_jump (m ∷ ms) matched around to = ap (λ jumps. (lowers_arm f (m.arm matched around to)).jumps ++ jumps) (arms_jump ms matched around to)

  arms_built : (number : ℕ) (ms : List NodeWords) (matched : Place) (around : LoopsAndGuards) (to : Destination) → built_from f number (lowers_arms f (code.arms ms matched around to)) ≡ low.arms_from f number (all_lowered ms) matched around to
  arms_built number [] matched around to = refl
  arms_built number (m ∷ ms) matched around to = λ i c S k s.
      let otherwise = build.closing (arms_built number ms matched around to i c S k s) in
      (lowers_arm f (m.arm matched around to)).build c S otherwise.0 k otherwise.1

  all_arms : (number : ℕ) (ms : List NodeWords) (matched : Place) (around : LoopsAndGuards) (to : Destination) → matches f number (lowers_arms f (code.arms ms matched around to)) ≡ low.arms_in_order f number (all_lowered ms) matched around to
  all_arms number ms matched around to = λ i. record {
    has_end = arms_end ms matched around to i;
    jumps = arms_jump ms matched around to i;
    after = λ S. S;
    build = λ c S k s.
        let join = build.joined (arms_end ms matched around to i) number k s in
        arms_built number ms matched around to i c S join.0 join.1;
  }

  matched_by : (h : NodeHead) (scrutinee : NodeWords) (ms : List NodeWords) (around : LoopsAndGuards) (own : Bool) (to : Destination) → lowers f (code.matching h scrutinee ms around own to) ≡ low.matching f h (lowered scrutinee) (all_lowered ms) around own to
  matched_by h scrutinee ms around own to =
      in_own_by h own (Then (code.scrutinised around scrutinee) (Matches h.id (code.arms ms (code.place_in scrutinee around) around to))) (then_lower (low.scrutinised f around (lowered scrutinee)) (low.arms_in_order f h.id (all_lowered ms) (code.place_in scrutinee around) around to))
      (λ i. then_lower (scrutinises around scrutinee i) (all_arms h.id ms (code.place_in scrutinee around) around to i))

  -- Blocks and statements.

  all_statements : (around : LoopsAndGuards) (ms : List NodeWords) → lowers f (code.statements around ms) ≡ low.statements f around (all_lowered ms)
  all_statements around [] = refl
  all_statements around (m ∷ ms) = ap (then_lower (lowers f (m.evaluates around false (Into m.head.id)))) (all_statements around ms)

  ends_in : (h : NodeHead) (m : WordsIfAny) (around : LoopsAndGuards) (to : Destination) → lowers f (code.tail_of f.items h m around to) ≡ low.tail_of f h (lowered_if m) around to
  ends_in h no_code around to = unit_put_if (is_never f.items h.ty) h to
  ends_in h (a_code m) around to = refl

  a_block : (h : NodeHead) (ms : List NodeWords) (tail : WordsIfAny) (around : LoopsAndGuards) (own : Bool) (to : Destination) → lowers f (code.block f.items h ms tail around own to) ≡ low.block f h (all_lowered ms) (lowered_if tail) around own to
  a_block h ms tail around own to = λ i. in_scope f h.id own (then_lower (all_statements around ms i) (ends_in h tail around to i))

  lets_parts : (h : NodeHead) (pattern m : NodeWords) (around : LoopsAndGuards) → lowers f (code.let_parts h pattern m around) ≡ low.let_parts f h (lowered pattern) (lowered m) around
  lets_parts h pattern m around =
      ap (in_scope f h.id true)
      (pending (not (m.shape.is_place || m.shape.in_destination)) Innermost m.head (Then (m.reaches around) (code.bind AroundInnermost (pattern.shape.bindings (code.place_in m around))))
      ∙ ap (λ P. from_changed (low.pending_if f (not (m.shape.is_place || m.shape.in_destination)) innermost m.head) (then_lower (lowers f (m.reaches around)) P)) (binds AroundInnermost (pattern.shape.bindings (code.place_in m around))))

  empties : (b : Bool) (key : ℕ) → lowers f (code.emptied b key) ≡ low.emptied f b key
  empties true key = refl
  empties false key = refl

  declares : (bounds : List BoundName) → lowers f (code.declared f.items bounds) ≡ low.declared f bounds
  declares [] = refl
  declares (b ∷ bounds) = λ i. then_lower (empties (needs_drop f.items b.ty) b.key i) (from_changed (innermost (with_entry (bound_entry b))) (declares bounds i))

  lets_value : (b : Bool) (h : NodeHead) (pattern m : NodeWords) (around : LoopsAndGuards) → lowers f (code.let_value f.items b h pattern m around) ≡ low.let_value f b h (lowered pattern) (lowered m) around
  lets_value true h pattern m around = refl
  lets_value false h pattern m around = lets_parts h pattern m around

  lets : (h : NodeHead) (pattern : NodeWords) (m : WordsIfAny) (around : LoopsAndGuards) → lowers f (code.letting f.items h pattern m around) ≡ low.letting f h (lowered pattern) (lowered_if m) around
  lets h pattern no_code around = declares (pattern.shape.bindings (whole_local 0))
  lets h pattern (a_code m) around = lets_value pattern.shape.is_binding h pattern m around

  jumps_with : (h : NodeHead) (m : WordsIfAny) (around : LoopsAndGuards) (to : Destination) → lowers f (code.value_of_jump h.id m around to) ≡ low.value_of_jump f h (lowered_if m) around to
  jumps_with h no_code around to = unit_put h to
  jumps_with h (a_code m) around to = refl

  loop_ends : (h : NodeHead) (to : Destination) → lowers f (code.ends_loop h.id to) ≡ low.ends_loop f h to
  loop_ends h to = ap (λ P. then_lower P (exits f h.id (Breaks h.id))) (unit_put h to)

  -- Forms.

  value : (h : NodeHead) (s : Shape) (e : code.Evaluates) (e' : low.Evaluates) → ((around : LoopsAndGuards) (own : Bool) (to : Destination) → lowers f (e around own to) ≡ e' around own to) → lowered (code.node_code f.items h s (code.Makes e)) ≡ low.a_value f h s e'
  value h s e e' same = λ i. record {
    head = h;
    shape = s;
    evaluates = λ around own to. same around own (Rattle.src_meaning.specs.Evaluation.to_own_key (is_never f.items h.ty) h.id to) i;
    reaches = λ around. a_temporary h s (code.made_in f.items h e) (low.made_in f h e') (λ around own to. same around own (Rattle.src_meaning.specs.Evaluation.to_own_key (is_never f.items h.ty) h.id to)) around i;
    arm = low.no_arm f;
  }

  place : (h : NodeHead) (s : Shape) (r : code.Reaches) (r' : low.Reaches) → ((around : LoopsAndGuards) → lowers f (r around) ≡ r' around) → lowered (code.node_code f.items h s (code.IsPlace r)) ≡ low.a_place f h s r'
  place h s r r' same = λ i. record {
    head = h;
    shape = s;
    evaluates = λ around own to.
        (uses_place h s r around own (Rattle.src_meaning.specs.Evaluation.to_own_key (is_never f.items h.ty) h.id to)
        ∙ ap (λ (reach : low.Reaches). low.use_of_place f h s reach around own (Rattle.src_meaning.specs.Evaluation.to_own_key (is_never f.items h.ty) h.id to)) (λ j x. same x j)) i;
    reaches = λ around. same around i;
    arm = low.no_arm f;
  }

  scope : (h : NodeHead) (s : Shape) (e : code.MakesInto) (e' : low.MakesInto) → ((around : LoopsAndGuards) (to : Destination) → lowers f (e around to) ≡ e' around to) → lowered (code.node_code f.items h s (code.a_scope h e)) ≡ low.a_scope f h s e'
  scope h s e e' same = value h s (λ around own to. code.in_own_scope h.id own (e around to)) (λ around own to. low.in_own_scope f h own (e' around to)) (λ around own to. in_own_by h own (e around to) (e' around to) (same around to))

  effect : (h : NodeHead) (s : Shape) (action : EffectSite → Action) → lowered (code.node_code f.items h s (code.effect h action)) ≡ low.effect f h s action
  effect h s action = scope h s (λ around. code.deliver h.id action) (λ around. low.deliver f h action) (λ around. delivered h action)

  operating : (h : NodeHead) (s : Shape) (ms : List NodeWords) (action : EffectSite → Action) → lowered (code.node_code f.items h s (code.on_operands h ms action)) ≡ low.on_operands f h s (all_lowered ms) action
  operating h s ms action = value h s (λ around own to. code.acting h.id around own ms (code.deliver h.id action to)) (λ around own to. low.acting f h around own (all_lowered ms) (low.deliver f h action to)) (λ around own to. acts_on h around own ms (code.deliver h.id action to) (low.deliver f h action to) (delivered h action to))

  on_all : (h : NodeHead) (s : Shape) (ms : List NodeWords) (action : EffectSite → List Operand → Action) → lowered (code.node_code f.items h s (code.on_all h ms action)) ≡ low.on_all f h s (all_lowered ms) action
  on_all h s ms action =
      operating h s ms (λ site. action site (code.all_moved h.id ms))
      ∙ ap (λ ks. low.on_operands f h s (all_lowered ms) (λ site. action site (map (moved h.id) ks))) (keys ms)

  giving_unit : (h : NodeHead) (s : Shape) (m : NodeWords) (action : Operand → Action) → lowered (code.node_code f.items h s (code.gives_unit h m action)) ≡ low.gives_unit f h s (lowered m) action
  giving_unit h s m action =
      let given = action (moved h.id m.head.id) in
      value h s (λ around own to. code.acting h.id around own (m ∷ []) (code.unit_after h.id given to)) (λ around own to. low.acting f h around own (lowered m ∷ []) (low.unit_after f h given to)) (λ around own to. acts_on h around own (m ∷ []) (code.unit_after h.id given to) (low.unit_after f h given to) (unit_follows h given to))

  statement : (h : NodeHead) (s : Shape) (r : code.Reaches) (r' : low.Reaches) → ((around : LoopsAndGuards) → lowers f (r around) ≡ r' around) → lowered (code.node_code f.items h s (code.does r)) ≡ low.a_statement f h s r'
  statement h s r r' same = value h s (λ around own to. r around) (λ around own to. r' around) (λ around own to. same around)

  pattern_same : (h : NodeHead) (s : Shape) → lowered (code.node_code f.items h s code.does_nothing) ≡ low.a_pattern f h s
  pattern_same h s = value h s (λ around own to. Nothing) (λ around own to. nothing) (λ around own to. refl)

  abbrev C : Node → NodeWords
  C n = code.code f.items n

  abbrev L : Node → NodeLower
  L n = low.lower f n

  -- the same of forms with parts, given it of the parts
  through : (h : NodeHead) (s : Shape) (base : Node) → lowered (C base) ≡ L base → lowered (code.node_code f.items h s (code.IsPlace (C base).reaches)) ≡ low.a_place f h s (L base).reaches
  through h s base is = place h s (C base).reaches (L base).reaches (λ around. ap (λ (m : NodeLower). m.reaches around) is)

  one : (h : NodeHead) (s : Shape) (n : Node) (action : EffectSite → Operand → Action) → lowered (C n) ≡ L n → lowered (code.node_code f.items h s (code.on_one h (C n) action)) ≡ low.on_one f h s (L n) action
  one h s n action is =
      operating h s (C n ∷ []) (λ site. action site (moved h.id (C n).head.id)) ∙ ap (λ m. low.on_one f h s m action) is

  two : (h : NodeHead) (s : Shape) (n n' : Node) (action : EffectSite → Operand → Operand → Action) → lowered (C n) ≡ L n → lowered (C n') ≡ L n' → lowered (code.node_code f.items h s (code.on_two h (C n) (C n') action)) ≡ low.on_two f h s (L n) (L n') action
  two h s n n' action is is' =
      operating h s (C n ∷ C n' ∷ []) (λ site. action site (moved h.id (C n).head.id) (moved h.id (C n').head.id))
      ∙ (λ i. low.on_two f h s (is i) (is' i) action)

  each : (h : NodeHead) (s : Shape) (ns : Nodes) (action : EffectSite → List Operand → Action) → all_lowered (code.codes f.items ns) ≡ low.lower_all f ns → lowered (code.node_code f.items h s (code.on_all h (code.codes f.items ns) action)) ≡ low.on_all f h s (low.lower_all f ns) action
  each h s ns action are = on_all h s (code.codes f.items ns) action ∙ ap (λ ms. low.on_all f h s ms action) are

  first_and : (h : NodeHead) (s : Shape) (n : Node) (ns : Nodes) (action : EffectSite → List Operand → Action) → lowered (C n) ≡ L n → all_lowered (code.codes f.items ns) ≡ low.lower_all f ns → lowered (code.node_code f.items h s (code.on_all h (C n ∷ code.codes f.items ns) action)) ≡ low.on_all f h s (L n ∷ low.lower_all f ns) action
  first_and h s n ns action is are =
      on_all h s (C n ∷ code.codes f.items ns) action ∙ (λ i. low.on_all f h s (is i ∷ are i) action)

  otherwise_is : (h : NodeHead) (m : WordsIfAny) (around : LoopsAndGuards) (to : Destination) → lowers f (code.otherwise_unit h m around to) ≡ low.otherwise_unit f h (lowered_if m) around to
  otherwise_is h m around to =
      branched around to m (code.put_unit h.id to) ∙ ap (low.branch f around to (lowered_if m)) (unit_put h to)

  jump_given : (h : NodeHead) (given : MaybeNode) (around : LoopsAndGuards) (to : Destination) → lowered_if (code.code_if_any f.items given) ≡ low.lower_if_any f given → lowers f (code.value_of_jump h.id (code.code_if_any f.items given) around to) ≡ low.value_of_jump f h (low.lower_if_any f given) around to
  jump_given h given around to is =
      jumps_with h (code.code_if_any f.items given) around to ∙ ap (λ m. low.value_of_jump f h m around to) is

  mutual
    -- the code of a node lowers to what the node does
    pub same : (n : Node) → lowered (code.code f.items n) ≡ low.lower f n
    same (node id at ty by form) = same_form form (head id ty by) (shape_of f.items form (head id ty by))

    same_form : (form : Form) (h : NodeHead) (s : Shape) → lowered (code.node_code f.items h s (code.code_of_form f.items form h s)) ≡ low.lower_form f form h s
    same_form (tree.Number number) h s =
        effect h s (λ site. effects.Put site (effects.Number number (kind_of f.items h.ty)))
    same_form (tree.Truth truth) h s = effect h s (λ site. effects.Put site (effects.Truth truth))
    same_form tree.UnitValue h s = effect h s (λ site. effects.Put site effects.UnitValue)
    same_form (tree.Variable key) h s = place h s (λ around. Nothing) (λ around. nothing) (λ around. refl)
    same_form (tree.Captured closure part name) h s =
        place h s (λ around. Nothing) (λ around. nothing) (λ around. refl)
    same_form (tree.Field base part) h s = through h s base (same base)
    same_form (tree.Index base index count) h s =
        place h s (code.reach_element h s (C base) (C index) count) (low.reach_element f h s (L base) (L index) count)
        (λ around i. low.reach_element f h s (same base i) (same index i) count around)
    same_form (tree.Deref base) h s = through h s base (same base)
    same_form (tree.Not operand) h s = one h s operand effects.Not (same operand)
    same_form (tree.Negate operand) h s = one h s operand effects.Negate (same operand)
    same_form (tree.Arithmetic operator left right) h s = two h s left right (λ site. effects.Compute site operator) (same left) (same right)
    same_form (tree.Comparison operator left right) h s = two h s left right (λ site. effects.Compare site operator) (same left) (same right)
    same_form (tree.And left right) h s =
        scope h s (code.conjunction h (C left) (C right)) (low.conjunction f h (L left) (L right))
        (λ around to.
        ap (low.condition f around (lowered (C left)) (low.alone f around (lowered (C right)) to)) (delivered h (λ site. effects.Put site (effects.Truth false)) to)
        ∙ (λ i. low.conjunction f h (same left i) (same right i) around to))
    same_form (tree.Or left right) h s =
        scope h s (code.disjunction h (C left) (C right)) (low.disjunction f h (L left) (L right))
        (λ around to.
        ap (λ P. low.condition f around (lowered (C left)) P (low.alone f around (lowered (C right)) to)) (delivered h (λ site. effects.Put site (effects.Truth true)) to)
        ∙ (λ i. low.disjunction f h (same left i) (same right i) around to))
    same_form (tree.Assign to_place from_value) h s =
        value h s (code.assigning f.items h (C to_place) (C from_value)) (low.assigning f h (L to_place) (L from_value))
        (λ around own to.
        assigns h (C to_place) (C from_value) around own to
        ∙ (λ i. low.assigning f h (same to_place i) (same from_value i) around own to))
    same_form (tree.Call body args) h s = each h s args (λ site. effects.Call site body) (all_same args)
    same_form (tree.MethodCall body receiver args) h s = first_and h s receiver args (λ site. effects.Call site body) (same receiver) (all_same args)
    same_form (tree.VirtualCall trait_no method receiver args) h s =
        first_and h s receiver args (λ site. effects.CallVirtual site trait_no method) (same receiver) (all_same args)
    same_form (tree.ClosureCall body callee args) h s = first_and h s callee args (λ site. effects.Call site body) (same callee) (all_same args)
    same_form (tree.Make adt variant fields) h s =
        let action = λ (site : EffectSite). effects.Build site (OfVariant adt variant) (moved_fields h.id (in_number_order (field_keys fields))) in
        operating h s (code.codes_of_fields f.items fields) action
        ∙ ap (λ ms. low.on_operands f h s ms action) (fields_same fields)
    same_form (tree.Tuple parts) h s = each h s parts (λ site. effects.Build site OfTuple) (all_same parts)
    same_form (tree.Array elements) h s = each h s elements (λ site. effects.Build site OfArray) (all_same elements)
    same_form (tree.Closure closure captures) h s = each h s captures (λ site. effects.Build site (OfClosure closure)) (all_same captures)
    same_form (tree.NewBox content) h s = one h s content effects.NewBox (same content)
    same_form (tree.Print operand) h s =
        giving_unit h s (C operand) effects.Print ∙ ap (λ m. low.gives_unit f h s m effects.Print) (same operand)
    same_form tree.Ask h s = effect h s effects.Ask
    same_form (tree.DropValue operand) h s =
        value h s (λ around own to. code.dropping h.id around own (C operand) (code.put_unit h.id to))
        (λ around own to. low.dropping f h around own (L operand) (low.put_unit f h to))
        (λ around own to.
        drops_one h around own (C operand) (code.put_unit h.id to) (low.put_unit f h to) (unit_put h to)
        ∙ ap (λ m. low.dropping f h around own m (low.put_unit f h to)) (same operand))
    same_form (tree.Forget operand) h s =
        giving_unit h s (C operand) effects.Forget ∙ ap (λ m. low.gives_unit f h s m effects.Forget) (same operand)
    same_form tree.Panic h s =
        value h s (λ around own to. Panics h.id Why.Explicit) (λ around own to. panics f h.id Why.Explicit)
        (λ around own to. refl)
    same_form (tree.Borrow unique base) h s =
        value h s (code.borrowing h unique (C base)) (low.borrowing f h unique (L base))
        (λ around own to.
        borrows h unique (C base) around own to ∙ ap (λ m. low.borrowing f h unique m around own to) (same base))
    same_form (tree.Unsize trait_no operand) h s =
        value h s (λ around own to. (C operand).evaluates around own (coerced (C operand).head.id trait_no to))
        (λ around own to. (L operand).evaluates around own (coerced (L operand).head.id trait_no to))
        (λ around own to.
        ap (λ (m : NodeLower). m.evaluates around own (coerced m.head.id trait_no to)) (same operand))
    same_form (tree.Block stmts tail) h s =
        value h s (code.block f.items h (code.codes f.items stmts) (code.code_if_any f.items tail))
        (low.block f h (low.lower_all f stmts) (low.lower_if_any f tail))
        (λ around own to.
        a_block h (code.codes f.items stmts) (code.code_if_any f.items tail) around own to
        ∙ (λ i. low.block f h (all_same stmts i) (any_same tail i) around own to))
    same_form (tree.Let pattern initialiser) h s =
        statement h s (code.letting f.items h (C pattern) (code.code_if_any f.items initialiser))
        (low.letting f h (L pattern) (low.lower_if_any f initialiser))
        (λ around.
        lets h (C pattern) (code.code_if_any f.items initialiser) around
        ∙ (λ i. low.letting f h (same pattern i) (any_same initialiser i) around))
    same_form (tree.Evaluate expression) h s =
        statement h s (code.evaluating h (C expression)) (low.evaluating f h (L expression))
        (λ around. ap (λ m. low.evaluating f h m around) (same expression))
    same_form (tree.If c consequent otherwise) h s =
        scope h s (λ around to.
        code.condition around (C c) (code.alone around (C consequent) to)
        (code.otherwise_unit h (code.code_if_any f.items otherwise) around to))
        (λ around to.
        low.condition f around (L c) (low.alone f around (L consequent) to)
        (low.otherwise_unit f h (low.lower_if_any f otherwise) around to))
        (λ around to.
        ap (low.condition f around (lowered (C c)) (low.alone f around (lowered (C consequent)) to)) (otherwise_is h (code.code_if_any f.items otherwise) around to)
        ∙ (λ i.
        low.condition f around (same c i) (low.alone f around (same consequent i) to)
        (low.otherwise_unit f h (any_same otherwise i) around to)))
    same_form (tree.IfLet pattern scrutinee consequent otherwise) h s =
        scope h s (λ around to.
        code.if_taken h around (C pattern) (C scrutinee) (code.alone around (C consequent) to)
        (code.otherwise_unit h (code.code_if_any f.items otherwise) around to))
        (λ around to.
        low.if_taken f h around (L pattern) (L scrutinee) (low.alone f around (L consequent) to)
        (low.otherwise_unit f h (low.lower_if_any f otherwise) around to))
        (λ around to.
        takes_if h around (C pattern) (C scrutinee) (code.alone around (C consequent) to) (code.otherwise_unit h (code.code_if_any f.items otherwise) around to)
        ∙ ap (low.if_taken f h around (lowered (C pattern)) (lowered (C scrutinee)) (low.alone f around (lowered (C consequent)) to)) (otherwise_is h (code.code_if_any f.items otherwise) around to)
        ∙ (λ i.
        low.if_taken f h around (same pattern i) (same scrutinee i) (low.alone f around (same consequent i) to)
        (low.otherwise_unit f h (any_same otherwise i) around to)))
    same_form (tree.Match scrutinee arms) h s =
        value h s (code.matching h (C scrutinee) (code.codes f.items arms)) (low.matching f h (L scrutinee) (low.lower_all f arms))
        (λ around own to.
        matched_by h (C scrutinee) (code.codes f.items arms) around own to
        ∙ (λ i. low.matching f h (same scrutinee i) (all_same arms i) around own to))
    same_form (tree.Arm pattern guard m) h s = λ i.
        record (pattern_same h s i) {
          arm = λ matched around to.
              (an_arm h (C pattern) (code.code_if_any f.items guard) (C m) matched around to
              ∙ (λ j. low.arm f h (same pattern j) (any_same guard j) (same m j) matched around to)) i;
        }
    same_form (tree.Loop m) h s =
        scope h s (λ around to. Loops h.id (code.body_in (C m) (in_loop h.id to around)))
        (λ around to. looped h.id (low.body_in f (L m) (in_loop h.id to around)))
        (λ around to. ap (λ m. looped h.id (low.body_in f m (in_loop h.id to around))) (same m))
    same_form (tree.While c m) h s =
        scope h s (λ around to. Loops h.id
        (code.condition (in_loop h.id to around) (C c) (code.body_in (C m) (in_loop h.id to around)) (code.ends_loop h.id to)))
        (λ around to. looped h.id
        (low.condition f (in_loop h.id to around) (L c) (low.body_in f (L m) (in_loop h.id to around)) (low.ends_loop f h to)))
        (λ around to.
        ap (λ P. looped h.id (low.condition f (in_loop h.id to around) (lowered (C c)) (low.body_in f (lowered (C m)) (in_loop h.id to around)) P)) (loop_ends h to)
        ∙ (λ i. looped h.id
        (low.condition f (in_loop h.id to around) (same c i) (low.body_in f (same m i) (in_loop h.id to around)) (low.ends_loop f h to))))
    same_form (tree.WhileLet pattern scrutinee m) h s =
        scope h s (λ around to. Loops h.id
        (code.if_taken h (in_loop h.id to around) (C pattern) (C scrutinee)
        (code.body_in (C m) (in_loop h.id to around)) (code.ends_loop h.id to)))
        (λ around to. looped h.id
        (low.if_taken f h (in_loop h.id to around) (L pattern) (L scrutinee)
        (low.body_in f (L m) (in_loop h.id to around)) (low.ends_loop f h to)))
        (λ around to.
        ap (looped h.id)
        (takes_if h (in_loop h.id to around) (C pattern) (C scrutinee) (code.body_in (C m) (in_loop h.id to around)) (code.ends_loop h.id to)
        ∙ ap (low.if_taken f h (in_loop h.id to around) (lowered (C pattern)) (lowered (C scrutinee)) (low.body_in f (lowered (C m)) (in_loop h.id to around))) (loop_ends h to))
        ∙ (λ i. looped h.id
        (low.if_taken f h (in_loop h.id to around) (same pattern i) (same scrutinee i)
        (low.body_in f (same m i) (in_loop h.id to around)) (low.ends_loop f h to))))
    same_form (tree.Break loop given) h s =
        scope h s (λ around to.
        Then (code.value_of_jump h.id (code.code_if_any f.items given) around (loop_destination loop around.loops)) (Exits h.id (Breaks loop)))
        (λ around to.
        jump f h.id (Breaks loop) (low.value_of_jump f h (low.lower_if_any f given) around (loop_destination loop around.loops)))
        (λ around to. ap (λ P. then_lower P (exits f h.id (Breaks loop))) (jump_given h given around (loop_destination loop around.loops) (any_same given)))
    same_form (tree.Continue loop) h s =
        value h s (λ around own to. Then Nothing (Exits h.id (Continues loop)))
        (λ around own to. jump f h.id (Continues loop) nothing) (λ around own to. refl)
    same_form (tree.Return given) h s =
        scope h s (λ around to.
        Then (code.value_of_jump h.id (code.code_if_any f.items given) around around.answer) (Exits h.id Returns))
        (λ around to. jump f h.id Returns (low.value_of_jump f h (low.lower_if_any f given) around around.answer))
        (λ around to. ap (λ P. then_lower P (exits f h.id Returns)) (jump_given h given around around.answer (any_same given)))
    same_form other h s = pattern_same h s

    all_same : (ns : Nodes) → all_lowered (code.codes f.items ns) ≡ low.lower_all f ns
    all_same no_node = refl
    all_same (a_node first rest) = λ i. same first i ∷ all_same rest i

    fields_same : (fields : Fields) → all_lowered (code.codes_of_fields f.items fields) ≡ low.lower_fields f fields
    fields_same no_field = refl
    fields_same (a_field number value rest) = λ i. same value i ∷ fields_same rest i

    any_same : (m : MaybeNode) → lowered_if (code.code_if_any f.items m) ≡ low.lower_if_any f m
    any_same absent = refl
    any_same (present value) = ap a_lower (same value)

  -- Bodies.

  names : (b : Bool) (bounds : List BoundName) → lowers f (code.names_of_param f.items b bounds) ≡ low.names_of_param f b bounds
  names true bounds = refl
  names false bounds = binds Innermost bounds

  params : (ps : List ParamTree) → lowers f (code.params_entered f.items ps) ≡ low.params_entered f ps
  params [] = refl
  params (p ∷ ps) = λ i. from_changed (innermost (with_entry (record { key = param_key p; ty = p.ty }))) (then_lower (names (shape f.items p.pattern).is_binding ((shape f.items p.pattern).bindings (whole_local (param_key p))) i) (params ps i))

  pub bodies : (body : BodyTree) → lowers f (code.entire_function f.items body) ≡ low.entire_function f body
  bodies body = λ i. in_scope f (answer_key body) true (then_lower (params body.params i)
      ((same body.block i).evaluates (low.around_body f body) false (Into (answer_key body))))
