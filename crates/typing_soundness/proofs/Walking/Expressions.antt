-- What expressions add to a walk: the recursion, one line a form.
use Rattle.std.proofs.lemmas.Bool.{false≢true}
use Rattle.std.specs.Prelude.{is_some}
use Rattle.std.proofs.Common.{◌≡◌, ℕ, suc, IsTrue, Bool, true, false, ◌||◌, not, nat_le, if◌then◌else◌, List, [], ◌∷◌, ◌++◌, length, Option, Some, None, Result, Ok, Err, refl, ap, sym, subst, ◌∙◌, ◌+◌, map, slice_get, ◌⊎◌, inl, inr, arith}
use Rattle.mir_base.specs.declared.int_kind.IntKind.{IntKind}
use Rattle.mir_base.specs.declared.place_in_text.Pos.{Pos}
use Rattle.mir_base.specs.declared.rule.Rule.{Rule}
use Rattle.mir_ty.specs.declared.adt.Variant.{Variant}
use Rattle.mir_ty.specs.declared.ty.Ty.{Ty}
use Rattle.mir_ty.specs.declared.ty.TyId.{TyId}
use Rattle.mir_ty.specs.ItemTable.{ItemTable, type_at, with_closure}
use Rattle.typed_tree.specs.Nodes.{nodes_of, nodes_among, nodes_of_fields}
use Rattle.typed_tree.specs.Tree as tree
use Rattle.typed_tree.specs.Tree.{Node, node, Form, Nodes, no_node, a_node, Fields, no_field, a_field, MaybeNode, absent, present, BodyTree}
use Rattle.well_typed.specs.Patterns as well
use Rattle.well_typed.specs.Types.{is_reference}
use Rattle.typing_rules.specs.Bodies as bodies
use Rattle.typing_rules.specs.Check.{Check, TypingState, Broken, pure, ◌>>=◌, with_body, in_new_body, put_before, within_body}
use Rattle.typing_rules.specs.Named.{PathValue, Makes, IsBroken, path_value, Callee, Function, Constructor, Prints, Asks, Drops, Forgets, Boxes, AValue, Unnamed, NoCallee, callee_of, callee_by, place_inside, method_named}
use Rattle.typing_rules.specs.Patterns.{pattern, count_of, target_of}
use Rattle.typing_rules.specs.Places.{unit, bool, never, int, struct_field, numbered_part}
use Rattle.typing_rules.specs.Rows as rows
use Rattle.typing_rules.specs.Rows.{Typer, Referrer, PatternContext, Given, taken}
use Rattle.typing_rules.specs.Scope.{Env, NamedEntry, Capture, variable, with_variables, within_loop, jumps_to, in_guard, field_named}
use Rattle.typing_rules.specs.Typed as typing
use Rattle.src_ast.specs.Syntax.{Word, Syn, syn, AName, AnExpression, AStatement, AnInit, AnArm, Expression, Literal, TruthLiteral, Path, Minus, Bang, Star, Ampersand, Calculate, Compare, Both, Either, Store, CallOf, MethodOf, FieldOf, PartOf, ElementOf, StructOf, Parens, TupleOf, ArrayOf, Braces, IfElse, IfLetElse, MatchOn, LoopOf, WhileOf, WhileLetOf, BreakOf, ContinueOf, ReturnOf, MoveOf, PanicOf, Statement, LetOf, Empty, Semi, Syns, no_syn, a_syn, MaybeSyn, nothing, just}
use Rattle.typing_rules.specs.Written as types
use Rattle.typing_rules.proofs.Sound.Gives.{numbered}
use Rattle.std.proofs.lemmas.List.{map-append, length-append}
use Rattle.mir_ty.specs.declared.def.ClosureDef.{ClosureDef}
use Rattle.mir_ty.specs.Facts.{is_copy}
use Rattle.mir_ty.specs.AreItems.{AreDistinct}
use Rattle.mir_ty.proofs.ListLemmas.{slice_get-append_left, slice_get-last, slice_get-push_cases}
use Rattle.typed_tree.specs.Nodes.{numbers_of}
use Rattle.typed_tree.specs.Tree.{ParamTree}
use Rattle.well_typed.specs.Types.{is_dyn}
use Rattle.typing_rules.specs.Places.{used, a_node_of, meaning_form, is_fixed, in_own_guard}
use Rattle.typing_soundness.proofs.Walking.Params.{Still, still, written_still, params_walk, answer_still, in_closure}
use Rattle.typing_soundness.specs.Closures.{BodySyn, Closure, WrittenHead, Tape, closures_of, closures_in, closures_in_expression, closures_among, closures_if_any}
use Rattle.typing_soundness.specs.Met.{HasTypes, AreTypesOf, HaveClosures, HasBody, IsBodyOf, AreMade, Met, types_of}
use Rattle.typing_soundness.specs.Types.{HaveTypes}
use Rattle.typing_soundness.specs.Walks.{counted, numbers_of_bodies, Ordered, Walks, Walked, WalksNode}
use Rattle.typing_soundness.proofs.Items.Meanings.{written_given}
use Rattle.typing_soundness.proofs.Walking.Heads.{params_given, answer_given, types_kept}
use Rattle.typing_soundness.specs.Legal.{legal, params_legal, head_legal}
use Rattle.typing_soundness.proofs.Walking.Lawful.{written_legal, params_are_legal, answer_is_legal, and_so}
use Rattle.typing_soundness.proofs.Walking.Later.{params_later, answer_later, types_later, met_both}
use Rattle.typing_soundness.proofs.Walking.Adding.{met_none, Stays, stays_refl, stays_both, ordered_of, ordered_both, walks_recast, walks_none, walks_both, walks_node}
use Rattle.typing_soundness.proofs.Walking.Patterns.{pattern_walks}
use Rattle.typing_soundness.proofs.Walking.Rows as on
use Rattle.typing_soundness.proofs.Walking.Rows.{no_closure, ◌⨾◌, WalksTyper, WalksMaybe, WalksArgs, WalksReferrer, WalksMatcher}
use Rattle.typing_soundness.proofs.Walking.Steps.{walk, walk_obeyed, walk_found, walk_ends, walk_map, walk_borrow_alone, on_same, walk_interned, walk_interned_as, walk_fitted}

-- ---- paths

makes_walks : (at : Pos) (v : PathValue) → WalksTyper no_closure (typing.makes_unit at v)
makes_walks at (Makes adt variant) expected s =
    walk_interned (Ty.Adt adt) s λ ty t e. walk_map (on.leaf_walks at ty (tree.Make adt variant no_field) refl expected t) λ
    n u w. walks_both (on_same e (walks_none s)) w
makes_walks at (IsBroken rule) expected s = record { so = tt }

path_alone_walks : (env : Env) (at : Pos) (first second : Option Word) → WalksTyper no_closure (typing.path_alone env at first
    second)
path_alone_walks env at first second expected s = makes_walks at (path_value s.items env first second) expected s

path_by_walks : (env : Env) (at : Pos) (first second : Option Word) (x : Option NamedEntry) → WalksTyper no_closure (typing.path_by
    env at first second x)
path_by_walks env at first second (Some x) expected s = walk (on.variable_walks at x s) λ p t w. on.taken_walks env expected p w
path_by_walks env at first second None expected s = path_alone_walks env at first second expected s

path_walks : (env : Env) (at : Pos) (first second : Option Word) → WalksTyper no_closure (typing.path env at first second)
path_walks env at first second = path_by_walks env at first second (typing.variable_of env first second)

base_walks : (env : Env) (at : Pos) (first second : Option Word) (x : Option NamedEntry) → WalksNode no_closure (typing.variable_base
    env at first second x)
base_walks env at first second (Some x) s = on.variable_walks at x s
base_walks env at first second None s = path_alone_walks env at first second None s

-- ---- calls

-- a check of the parts alone, where what stands before them has no closures
behind_none : {f g : Tape} (check : Typer) → f ≡ no_closure → WalksTyper g check → WalksTyper (f ⨾ g) check
behind_none {f} {g} check e good = subst (λ h. WalksTyper (h ⨾ g) check) (sym e) good

-- what is called by its name
abbrev is_value : Callee → Bool
is_value AValue = true
is_value _ = false

called_walks : {f g : Tape} (at : Pos) (count : ℕ) (callee : Check Node) (args : List TyId → Check Nodes) (c : Callee) →
    (is_value c ≡ false → f ≡ no_closure) → WalksNode f callee → WalksArgs g count args → WalksTyper (f ⨾ g) (typing.called_by
    at count callee args c)
called_walks at count callee args (Function body is_drop head) named good_c good expected s =
    behind_none (typing.called_by at count callee args (Function body is_drop head)) (named refl) (on.call_walks at
    (tree.Call body) head.result count head.params args (not is_drop) (λ ns. refl) good) expected s
called_walks at count callee args (Constructor adt variant tys) named good_c good expected s =
    behind_none (typing.called_by at count callee args (Constructor adt variant tys)) (named refl) (λ expected s.
    walk_interned (Ty.Adt adt) s λ ty t e. walk_map (on.make_walks at adt variant ty count tys args good expected t) λ n u
    w. walks_both (on_same e (walks_none s)) w) expected s
called_walks at count callee args Prints named good_c good expected s =
    behind_none (typing.called_by at count callee args Prints) (named refl) (on.print_walks at count (int IntKind.I32 ∷
    []) args good) expected s
called_walks at count callee args Asks named good_c good expected s =
    behind_none (typing.called_by at count callee args Asks) (named refl) (on.ask_walks at count [] args good) expected s
called_walks at count callee args Drops named good_c good expected s =
    behind_none (typing.called_by at count callee args Drops) (named refl) (on.drop_walks at count [] args good) expected s
called_walks at count callee args Forgets named good_c good expected s =
    behind_none (typing.called_by at count callee args Forgets) (named refl) (on.forget_walks at count [] args good) expected s
called_walks at count callee args Boxes named good_c good expected s =
    behind_none (typing.called_by at count callee args Boxes) (named refl) (on.new_box_walks at count args good) expected s
called_walks at count callee args AValue named good_c good expected s = on.closure_call_walks at count callee args good_c
    good expected s
called_walks at count callee args (Unnamed rule) named good_c good expected s = record { so = tt }
called_walks at count callee args NoCallee named good_c good expected s = on.no_call_walks at Rule.T13 args expected s

passed_walks : (at : Pos) (by_value : Typer) (x : Option NamedEntry) → WalksTyper no_closure by_value → WalksReferrer no_closure
    (typing.passed at by_value x)
passed_walks at by_value None good expected unique to s = good (Some expected) s
passed_walks at by_value (Some x) good expected unique to s = by (is_reference s.items x.ty)
  where
    by : (b : Bool) → Walked (λ n t. Walks no_closure s t (nodes_of n)) ((if b then rows.passed_on at x expected unique to
        else by_value (Some expected)) s)
    by true = on.passed_on_walks at x expected unique to s
    by false = good (Some expected) s

minus_walks : {f : Tape} (at : Pos) (o : Option (ℕ × Option IntKind)) (operand : Typer) → (IsTrue (is_some o) → f ≡ no_closure)
    → WalksTyper f operand → WalksTyper f (typing.minus at o operand)
minus_walks at (Some n) operand alone good =
    subst (λ h. WalksTyper h (typing.minus at (Some n) operand)) (sym (alone refl)) (on.literal_walks at true n.0 n.1)
minus_walks at None operand alone good = on.negate_walks at operand good

-- ---- what is declared

declared_still : (env : Env) (ty : MaybeSyn) (s : TypingState) → Walked (Still s) (typing.declared env ty s)
declared_still env nothing s = walk_ends (still s)
declared_still env (just ty) s = walk (written_still (bodies.all_rules env) ty s) λ t u e. walk_ends e

-- ---- closures

capture_walks : (env : Env) (k : ℕ) (e : Syn) (earlier : List NamedEntry) (s : TypingState) → Walked (λ c t. Walks no_closure s t (nodes_of
    c.0)) (bodies.capture env k e earlier s)
capture_walks env k (syn at (AName name)) earlier s =
    walk_obeyed Rule.T01 at (bodies.is_captured name env.variables) _ λ _. walk_obeyed Rule.T02 at (not
    (bodies.is_captured name earlier)) _ λ _. walk_found Rule.T01 at (variable env.variables name) _ λ x is. walk
    (on.variable_walks at x s) λ p t w. walk {f = λ n. pure (n, earlier ++ named name x.ty k ∷ [])}
    (on.taken_walks env None p w) λ n u w. walk_ends w
  where
    named : Word → TyId → ℕ → NamedEntry
    named name ty k = record { name = name; ty = ty; meaning = Capture 0 k }
capture_walks env k (syn at _) earlier s = record { so = tt }

capture_stays : (env : Env) (k : ℕ) (e : Syn) (earlier : List NamedEntry) (s : TypingState) → Walked (λ c t. Stays s t)
    (bodies.capture env k e earlier s)
capture_stays env k (syn at (AName name)) earlier s =
    walk_obeyed Rule.T01 at (bodies.is_captured name env.variables) _ λ _. walk_obeyed Rule.T02 at (not
    (bodies.is_captured name earlier)) _ λ _. walk_found Rule.T01 at (variable env.variables name) _ λ x is. walk {f = λ
    n. pure (n, earlier ++ named name x.ty k ∷ [])} (taken_stays x) λ n u e. walk_ends e
  where
    named : Word → TyId → ℕ → NamedEntry
    named name ty k = record { name = name; ty = ty; meaning = Capture 0 k }

    place : NamedEntry → Node
    place x = a_node_of s.next_node at x.ty (meaning_form x.name x.meaning)

    taken_stays : (x : NamedEntry) → Walked (λ n t. Stays s t) (taken env None (place x) (numbered s))
    taken_stays x =
        walk_obeyed Rule.T07 at (is_copy s.items x.ty || not (is_fixed s.items (in_own_guard env.variables) (place x) ||
        is_dyn s.items x.ty)) _ λ _. walk_obeyed Rule.T08 at (not (is_reference s.items x.ty)) _ λ _. walk_ends (record
        { types = λ n ty h. h; distinct = λ h. h; adts = refl; traits = refl; impls = refl; heads = refl; next_body = refl; bodies = refl; closures = refl })
capture_stays env k (syn at _) earlier s = record { so = tt }

captured_walks : (env : Env) (k : ℕ) (captures : Syns) (earlier : List NamedEntry) (s : TypingState) → Walked (λ c t. Walks no_closure s t
    (nodes_among c.0)) (bodies.captured env k captures earlier s)
captured_walks env k no_syn earlier s = walk_ends (walks_none s)
captured_walks env k (a_syn first rest) earlier s =
    walk (capture_walks env k first earlier s) λ c t w. walk (captured_walks env (suc k) rest c.1 t) λ cs u x. walk_ends
    (walks_both w x)

-- captures add no body
captured_stays : (env : Env) (k : ℕ) (captures : Syns) (earlier : List NamedEntry) (s : TypingState) → Walked (λ c t. Stays s t)
    (bodies.captured env k captures earlier s)
captured_stays env k no_syn earlier s = walk_ends (stays_refl s)
captured_stays env k (a_syn first rest) earlier s =
    walk (capture_stays env k first earlier s) λ c t e. walk (captured_stays env (suc k) rest c.1 t) λ cs u f. walk_ends
    (stays_both e f)

pub both_walk : {A : Type 0} {P Q : A → TypingState → Type 0} (r : Result (A × TypingState) Broken) → Walked P r → Walked Q r → Walked
    (λ a t. P a t × Q a t) r
both_walk (Ok a) h k = record { so = (h.so, k.so) }
both_walk (Err e) h k = record { so = tt }

-- the body of a closure has its number, and those inside it the next ones; its types are those that are written
abbrev pub IsOf : types.WrittenScope → Bool → Syns → MaybeSyn → List TyId → Tape → TypingState → BodyTree → TypingState → Type 0
IsOf around is_legal params answer selves f s b t =
    ((tys : List TyId) × (types_of b ≡ selves ++ tys) × HasTypes t.items (record {
      around = around;
      name = [];
      params = params;
      answer = answer;
    }) tys b.answer × IsTrue is_legal) × Met f s t

inner_walks : {f : Tape} (env : Env) (too_many : Rule) (at : Pos) (n : ℕ) (ty : TyId) (captures : List NamedEntry) (params : Syns) (answer :
    MaybeSyn) (block : Env → Typer) → ((inner : Env) → bodies.all_rules inner ≡ bodies.all_rules env → WalksTyper f (block
    inner)) → (s : TypingState) → Walked (λ b t. (b.number ≡ n) × Ordered s t × IsOf (bodies.all_rules env) (head_legal legal params answer) params answer (ty ∷
    []) f s b t) (in_closure env too_many at n ty captures params answer block s)
inner_walks {f} env too_many at n ty captures params answer block good s =
    walk (both_walk (params_of (numbered s)) (params_walk (bodies.inside_closure env captures) (types.written
    (bodies.all_rules env)) (λ p t. written_still (bodies.all_rules env) p t) params [] (numbered s)) (both_walk (params_of
    (numbered s)) (params_given (bodies.inside_closure env captures) (types.written (bodies.all_rules env)) (λ p t.
    written_given (bodies.all_rules env) p t) params [] (numbered s)) (params_are_legal (bodies.inside_closure env
    captures) legal (types.written (bodies.all_rules env)) (λ p t. written_legal (bodies.all_rules env) p t) params []
    (numbered s)))) λ ps t w1. walk (both_walk (bodies.answer_of env answer t) (answer_still env answer
    t) (both_walk (bodies.answer_of env answer t) (answer_given env answer t) (answer_is_legal env answer t))) λ
    a u e. walk (good (bodies.inside (bodies.inside_closure env captures) a ps.1) refl
    (Some a) u) λ b v w2. walk_obeyed too_many at (nat_le (length (numbers_of (bodies.body_of n (self_param s ∷ ps.0) a
    b))) 2048) _ λ _. walk_ends (
      refl,
      ordered_both
          (ordered_of (first_stays s)) (ordered_both w1.0.ordered (ordered_both (ordered_of e.0.stays) w2.ordered)),
      (
        (
          map (λ (p : ParamTree). p.ty) ps.0,
          types_kept _ (self_param s ∷ ps.0),
          (
            params_later t.items v.items (λ k x h. w2.met.types k x (e.1.0.0 k x h)) (bodies.all_rules env) params _ w1.1.0.1,
            answer_later u.items v.items w2.met.types (bodies.all_rules env) answer a e.1.0.1,
          ),
          and_so (params_legal legal params) _ w1.1.1 e.1.1,
        ),
        met_both (met_none (first_stays s)) (met_both w1.0.met (met_both (met_none e.0.stays) w2.met)),
      ),
    )
  where
    params_of : TypingState → Result ((List ParamTree × List NamedEntry) × TypingState) Broken
    params_of t = bodies.params_of (bodies.inside_closure env captures) (types.written (bodies.all_rules env)) params [] t

    self_param : TypingState → ParamTree
    self_param s =
        record { pattern = used (rows.taking s.items ty) (a_node_of s.next_node at ty (tree.Binding [])); ty = ty }

    first_stays : (s : TypingState) → Stays s (numbered s)
    first_stays s = record { types = λ k x h. h; distinct = λ h. h; adts = refl; traits = refl; impls = refl; heads = refl; next_body = refl; bodies = refl; closures = refl }

-- a body of its own in a walk, of which something is so
pub record IsAdded (n : ℕ) (Q : BodyTree → TypingState → Type 0) (s t : TypingState) : Type 0 where
  pub number : t.next_node ≡ s.next_node
  pub breaks : t.breaks ≡ s.breaks
  pub body : BodyTree
  pub inner : TypingState
  pub ordered : Ordered (record s { bodies = []; next_node = 0; breaks = [] }) inner
  pub next : t.next_body ≡ inner.next_body
  pub items : t.items ≡ inner.items
  pub whole : t.bodies ≡ s.bodies ++ body ∷ inner.bodies
  pub bodies : numbers_of_bodies t ≡ numbers_of_bodies s ++ n ∷ numbers_of_bodies inner
  pub is_number : body.number ≡ n
  pub is : Q body inner

pub body_added : {Q : BodyTree → TypingState → Type 0} (n : ℕ) (check : Check BodyTree) (s : TypingState) → Walked (λ b t. (b.number
    ≡ n) × Ordered (record s { bodies = []; next_node = 0; breaks = [] }) t × Q b t) (check (record s {
      bodies = [];
      next_node = 0;
      breaks = [];
    })) → Walked (λ b t. IsAdded n Q s t) (with_body (λ b. b) (in_new_body check) s)
body_added {Q} n check s h = by (check (record s { bodies = []; next_node = 0; breaks = [] })) h
  where
    by : (r : Result (BodyTree × TypingState) Broken) → Walked (λ b t. (b.number ≡ n) × Ordered (record s {
      bodies = [];
      next_node = 0;
      breaks = [];
    }) t × Q b t) r → Walked (λ b t. IsAdded n Q s t) (put_before s.bodies (λ b. b) (within_body (record s {
      bodies = [];
    }) r))
    by (Ok a) h =
        walk_ends (record {
          number = refl;
          breaks = refl;
          body = a.0;
          inner = a.1;
          ordered = h.so.1;
          next = refl;
          items = refl;
          whole = refl;
          bodies = map-append (λ (b : BodyTree). b.number) s.bodies (a.0 ∷ a.1.bodies) ∙ ap (λ m. numbers_of_bodies s ++
              m ∷ numbers_of_bodies a.1) h.so.0;
          is_number = h.so.0;
          is = h.so.2;
        })
    by (Err e) h = record { so = tt }

closure_ordered : (s t u v : TypingState) (def : ClosureDef) → def.body ≡ s.next_body → t.next_body ≡ suc s.next_body →
    t.bodies ≡ s.bodies → t.items.closures ≡ s.items.closures → u.next_body ≡ t.next_body → u.bodies ≡ t.bodies →
    u.items.closures ≡ t.items.closures ++ def ∷ [] → {Q : BodyTree → TypingState → Type 0} → IsAdded s.next_body Q u v →
    Ordered s v
closure_ordered s t u v def body next bodies closures next_u bodies_u closures_u added = record {
  count = suc added.ordered.count;
  next = let a = added.next in let b = added.ordered.next in omega (arith, a, b, next, next_u);
  bodies = added.bodies ∙ (λ i. map (λ (b : BodyTree). b.number) ((bodies_u ∙ bodies) i) ++ s.next_body ∷ inside i);
  closures = let a = added.ordered.closures in ap length same_closures ∙ omega (arith, a, as_many);
  aligned = λ k d at. by k d (added.ordered.aligned k d (subst (λ cs. slice_get cs k ≡ Some d) same_closures at));
}
  where
    same_closures : v.items.closures ≡ added.inner.items.closures
    same_closures = ap (λ (i : ItemTable). i.closures) added.items

    at_u : u.next_body ≡ suc s.next_body
    at_u = next_u ∙ next

    inside : numbers_of_bodies added.inner ≡ counted (suc s.next_body) added.ordered.count
    inside = added.ordered.bodies ∙ ap (λ n. counted n added.ordered.count) at_u

    as_many : length u.items.closures ≡ length s.items.closures + 1
    as_many = ap length (closures_u ∙ ap (λ cs. cs ++ def ∷ []) closures) ∙ length-append s.items.closures (def ∷ [])

    old : (k : ℕ) (d : ClosureDef) → (slice_get s.items.closures k ≡ Some d) ⊎ ((k ≡ length s.items.closures) × (def ≡
        d)) → (slice_get s.items.closures k ≡ Some d) ⊎ (d.body + length s.items.closures ≡ k + s.next_body)
    old k d (inl at) = inl at
    old k d (inr new_) =
        inr (let e = new_.0 in let n : d.body ≡ s.next_body = ap (λ (x : ClosureDef). x.body) (sym new_.1) ∙ body in
        omega (arith, e, n))

    by : (k : ℕ) (d : ClosureDef) → (slice_get u.items.closures k ≡ Some d) ⊎ (d.body + length u.items.closures ≡ k +
        u.next_body) → (slice_get s.items.closures k ≡ Some d) ⊎ (d.body + length s.items.closures ≡ k + s.next_body)
    by k d (inl at) =
        old k d (slice_get-push_cases s.items.closures def k d (subst (λ cs. slice_get cs k ≡ Some d) (closures_u ∙ ap
        (λ cs. cs ++ def ∷ []) closures) at))
    by k d (inr e) = inr (omega (arith, e, as_many, at_u))

-- what is met is the closure, and then what is in its body
closure_met : {f : Tape} (n : ℕ) (s t u v : TypingState) (around : types.WrittenScope) (params : Syns) (answer : MaybeSyn) (ty : TyId) (def :
    ClosureDef) → def.body ≡ n → Stays s t → HaveTypes t.items u.items → (AreDistinct t.items.types → AreDistinct
    u.items.types) → u.items.adts ≡ t.items.adts → u.items.bodies ≡ t.items.bodies →
    u.bodies ≡ t.bodies → u.items.closures ≡ t.items.closures ++ def ∷ [] → type_at u.items ty ≡ Some
    (Ty.Closure (length t.items.closures)) → IsAdded n (IsOf around (head_legal legal params answer) params answer (ty ∷ []) f (record u {
      bodies = [];
      next_node = 0;
      breaks = [];
    })) u v → Met (λ rest. Closure (record { around = around; name = []; params = params; answer = answer }) ∷ f rest) s v
closure_met {f} n s t u v around params answer ty def at_n stays types_u distinct_u adts_u heads_u bodies_u closures_u is_ty added =
    record {
      types = λ n x h. later n x (inner.types n x (types_u n x (stays.types n x h)));
      distinct = λ h. subst AreDistinct (ap (λ (i : ItemTable). i.types) (sym added.items)) (inner.distinct (distinct_u
          (stays.distinct h)));
      adts = ap (λ (i : ItemTable). i.adts) added.items ∙ (inner.adts ∙ (adts_u ∙ stays.adts));
      heads = ap (λ (i : ItemTable). i.bodies) added.items ∙ (inner.heads ∙ (heads_u ∙ stays.heads));
      new = added.body ∷ inner.new;
      bodies = added.whole ∙ λ i. (bodies_u ∙ stays.bodies) i ++ added.body ∷ inner.bodies i;
      closures = λ k d at. kept k d (subst (λ cs. slice_get cs k ≡ Some d) (sym (closures_u ∙ ap (λ cs. cs ++ def ∷ [])
          stays.closures)) (slice_get-append_left s.items.closures (def ∷ []) k d at));
      made = λ rest. ((first, its_body, added.is.0.3), others rest);
    }
  where
    inner : Met f (record u { bodies = []; next_node = 0; breaks = [] }) added.inner
    inner = added.is.1

    later : HaveTypes added.inner.items v.items
    later = subst (HaveTypes added.inner.items) (sym added.items) (λ n x h. h)

    head : WrittenHead
    head = record { around = around; name = []; params = params; answer = answer }

    -- its first parameter is the closure
    self : type_at v.items ty ≡ Some (Ty.Closure (length s.items.closures))
    self =
        later ty.0 (Ty.Closure (length s.items.closures)) (inner.types ty.0 (Ty.Closure (length s.items.closures)) (is_ty
        ∙ ap (λ n. Some (Ty.Closure n)) (ap length stays.closures)))

    first : AreTypesOf v.items (length s.items.closures) (Closure head) (types_of added.body) added.body.answer
    first =
        subst (λ tys. AreTypesOf v.items (length s.items.closures) (Closure head) tys added.body.answer) (sym
        added.is.0.1) (self, types_later added.inner.items v.items later head added.is.0.0 added.body.answer added.is.0.2)

    kept : HaveClosures u.items v.items
    kept = subst (HaveClosures u.items) (sym added.items) inner.closures

    its_body : HasBody v.items (length s.items.closures) (Closure head) added.body.number
    its_body = (
      def,
      kept (length s.items.closures) def (subst (λ cs. slice_get cs (length s.items.closures) ≡ Some def) (sym (closures_u
          ∙ ap (λ cs. cs ++ def ∷ []) stays.closures)) (slice_get-last s.items.closures def)),
      at_n ∙ sym added.is_number,
    )

    as_many : length u.items.closures ≡ suc (length s.items.closures)
    as_many =
        ap length (closures_u ∙ ap (λ cs. cs ++ def ∷ []) stays.closures) ∙ (length-append s.items.closures (def ∷ []) ∙ omega
        arith)

    others : (rest : List BodySyn) → AreMade (IsBodyOf v.items) (suc (length
        s.items.closures)) (length v.items.closures) (f rest)
        rest inner.new
    others rest =
        subst (λ n. AreMade (IsBodyOf v.items) n (length v.items.closures) (f rest) rest inner.new) as_many (subst (λ (i : ItemTable).
        AreMade (IsBodyOf i) (length u.items.closures) (length i.closures) (f rest) rest inner.new) (sym added.items) (inner.made
        rest))

closure_walks : {f : Tape} (env : Env) (at : Pos) (captures params : Syns) (answer : MaybeSyn) (block : Env → Typer) →
    ((inner : Env) → bodies.all_rules inner ≡ bodies.all_rules env → WalksTyper f (block inner)) → WalksTyper (λ rest.
    Closure (record { around = bodies.all_rules env; name = []; params = params; answer = answer }) ∷ f rest) (bodies.closure env at
    captures params answer block)
closure_walks {f} env at captures params answer block good expected s =
    walk (both_walk (bodies.captured env 0 captures [] s') (captured_walks env 0 captures [] s') (captured_stays env 0
    captures [] s')) λ caps t w. walk_interned_as (Ty.Closure (length t.items.closures)) (with_ caps.1 t) λ ty u e is.
    walk (body_added {Q = IsOf (bodies.all_rules env) (head_legal legal params answer) params answer (ty ∷ []) f (record u {
      bodies = [];
      next_node = 0;
      breaks = [];
    })} s.next_body (in_closure env (bodies.too_many_rule u.items expected ty) at s.next_body ty caps.1 params answer block) u
    (inner_walks env (bodies.too_many_rule u.items expected ty) at s.next_body ty
    caps.1 params answer block good (record u { bodies = []; next_node = 0; breaks = [] }))) λ b v g. walk_fitted expected
    (node s.next_node at ty None (tree.Closure (length t.items.closures) caps.0)) (walks_node at ty None (tree.Closure
    (length t.items.closures) caps.0) (walks_recast (numbered s) s' t v refl refl (g.number ∙ e.number) (g.breaks ∙
    e.breaks) (closure_ordered (numbered s) t u v (record {
      captures = bodies.types_of caps.1;
      body = s.next_body;
    }) refl w.1.next_body w.1.bodies w.1.closures e.stays.next_body e.stays.bodies e.stays.closures g) (on_bodies
    (closure_met s.next_body s' t u v (bodies.all_rules env) params answer ty (record {
      captures = bodies.types_of caps.1;
      body = s.next_body;
    }) refl w.1 e.stays.types e.stays.distinct e.stays.adts e.stays.heads e.stays.bodies e.stays.closures is g)) w.0))
  where
    s' : TypingState
    s' = record (numbered s) { next_body = suc s.next_body }

    with_ : List NamedEntry → TypingState → TypingState
    with_ captures t =
        record t { items = with_closure t.items (record { captures = bodies.types_of captures; body = s.next_body }) }

    on_bodies : {g : Tape} {v : TypingState} → Met g s' v → Met g (numbered s) v
    on_bodies m = record {
      types = m.types;
      distinct = m.distinct;
      adts = m.adts;
      heads = m.heads;
      closures = m.closures;
      new = m.new;
      bodies = m.bodies;
      made = m.made;
    }

-- ---- the recursion

-- one of two checks
either : {A : Type 0} {R : A → TypingState → Type 0} (b : Bool) (p q : Check A) (s : TypingState) → Walked R (p s) → Walked R (q s)
    → Walked R ((if b then p else q) s)
either true p q s h k = h
either false p q s h k = k

abbrev nodes_in_statement : Option Node → List Node
nodes_in_statement None = []
nodes_in_statement (Some n) = nodes_of n

with_statement_nodes : (o : Option Node) (ns : Nodes) → nodes_among (typing.with_statement o ns) ≡ nodes_in_statement o
    ++ nodes_among ns
with_statement_nodes None ns = refl
with_statement_nodes (Some n) ns = refl

-- ---- what has no closures

literal_alone : (around : types.WrittenScope) (e : Syn) → IsTrue (is_some (typing.literal_in e)) → closures_of around e ≡ no_closure
literal_alone around (syn at (AnExpression (Literal value suffix))) h = refl
literal_alone around (syn at _) h = absurd (false≢true h)

mutual
  plain_alone : (around : types.WrittenScope) (e : Syn) → IsTrue (typing.is_plain e) → closures_of around e ≡ no_closure
  plain_alone around (syn at (AnExpression e)) h = plain_form_alone around e h
  plain_alone around _ h = absurd (false≢true h)

  plain_form_alone : (around : types.WrittenScope) (form : Expression) → IsTrue (typing.is_plain_form form) → closures_in_expression around form ≡
      no_closure
  plain_form_alone around (Parens inside) h = plain_alone around inside h
  plain_form_alone around (Minus (syn at (AnExpression (Literal value suffix)))) h = refl
  plain_form_alone around (Minus (syn at _)) h = absurd (false≢true h)
  plain_form_alone around (Literal value suffix) h = refl
  plain_form_alone around _ h = absurd (false≢true h)

mutual
  named_alone : (around : types.WrittenScope) (items : ItemTable) (env : Env) (e : Syn) → is_value (callee_of items env e) ≡ false →
      closures_of around e ≡ no_closure
  named_alone around items env (syn at (AnExpression e)) h = named_form_alone around items env e h
  named_alone around items env _ h = absurd (false≢true (sym h))

  named_form_alone : (around : types.WrittenScope) (items : ItemTable) (env : Env) (form : Expression) → is_value (callee_by items env
      form) ≡ false → closures_in_expression around form ≡ no_closure
  named_form_alone around items env (Parens inside) h = named_alone around items env inside h
  named_form_alone around items env (Path first second) h = refl
  named_form_alone around items env _ h = absurd (false≢true (sym h))

-- the names of types around are those around another environment
abbrev Around : Env → Env → Type 0
Around env inner = bodies.all_rules inner ≡ bodies.all_rules env

mutual
  pub typed_walks : (env : Env) (e : Syn) → WalksTyper (closures_of (bodies.all_rules env) e) (typing.typed env e)
  typed_walks env (syn at (AnExpression e)) expected s =
      either (typing.is_place env e) (typing.place env at e >>= taken env expected) (typing.value env at e expected) s
      (walk (place_walks env at e s) λ p t w. on.taken_walks env expected p w) (value_walks env at e expected s)
  typed_walks env (syn at _) expected s = record { so = tt }

  base_of_walks : (env : Env) (e : Syn) → WalksNode (closures_of (bodies.all_rules env) e) (typing.base_of env e)
  base_of_walks env (syn at (AnExpression e)) s =
      either (typing.is_place env e) (typing.place env at e) (typing.value env at e None) s (place_walks env at e s)
      (value_walks env at e None s)
  base_of_walks env (syn at _) s = record { so = tt }

  place_walks : (env : Env) (at : Pos) (form : Expression) → WalksNode (closures_in_expression (bodies.all_rules env) form) (typing.place
      env at form)
  place_walks env at (Path first second) s = base_walks env at first second (typing.variable_of env first second) s
  place_walks env at (FieldOf base name) s = on.field_walks at (struct_field name) (typing.base_of env base)
      (base_of_walks env base) s
  place_walks env at (PartOf base k) s = on.field_walks at (numbered_part k) (typing.base_of env base) (base_of_walks
      env base) s
  place_walks env at (ElementOf base index) s = on.element_walks at (typing.base_of env base) (typing.typed env index)
      (base_of_walks env base) (typed_walks env index) s
  place_walks env at (Star base) s = on.deref_walks at (typing.base_of env base) (base_of_walks env base) s
  place_walks env at (Parens inside) s = base_of_walks env inside s
  place_walks env at _ s = record { so = tt }

  value_walks : (env : Env) (at : Pos) (form : Expression) → WalksTyper (closures_in_expression (bodies.all_rules env) form) (typing.value
      env at form)
  value_walks env at (Path first second) expected s = path_alone_walks env at first second expected s
  value_walks env at (Parens inside) expected s = typed_walks env inside expected s
  value_walks env at (Literal n suffix) expected s = on.literal_walks at false n suffix expected s
  value_walks env at (TruthLiteral b) expected s = on.leaf_walks at bool (tree.Truth b) refl expected s
  value_walks env at (Minus operand) expected s = minus_walks at (typing.literal_in operand) (typing.typed env operand) (literal_alone
      (bodies.all_rules env) operand) (typed_walks env operand) expected s
  value_walks env at (Bang operand) expected s = on.not_walks at (typing.typed env operand) (typed_walks env operand) expected s
  value_walks env at (Ampersand unique base) expected s = walk_borrow_alone at unique expected ((typing.base_of env base >>=
      rows.no_reference) s)
  value_walks env at (Calculate operator left right) expected s = on.arithmetic_walks at operator (typing.is_plain left)
      (typing.typed env left) (typing.typed env right) (plain_alone (bodies.all_rules env) left) (typed_walks env left) (typed_walks env right) expected s
  value_walks env at (Compare operator left right) expected s = on.comparison_walks at operator (typing.is_plain left)
      (typing.typed env left) (typing.typed env right) (plain_alone (bodies.all_rules env) left) (typed_walks env left) (typed_walks env right) expected s
  value_walks env at (Both left right) expected s = on.and_walks at (typing.typed env left) (typing.typed env right)
      (typed_walks env left) (typed_walks env right) expected s
  value_walks env at (Either left right) expected s = on.or_walks at (typing.typed env left) (typing.typed env right)
      (typed_walks env left) (typed_walks env right) expected s
  value_walks env at (Store left right) expected s = on.store_walks env at (typing.base_of env left) (typing.typed env
      right) (base_of_walks env left) (typed_walks env right) expected s
  value_walks env at (CallOf callee args) expected s = called_walks (typing.call_place at (place_inside callee) (callee_of s.items env callee))
      (count_of args) (typing.typed env callee None) (λ params. typing.typed_args env params args) (callee_of s.items env callee) (named_alone (bodies.all_rules env)
      s.items env callee) (λ t. typed_walks env callee None t) (λ
      params t. args_walk env params args t) expected s
  value_walks env at (MethodOf receiver name args) expected s = on.method_walks env at (method_named name) (count_of args)
      (typing.base_of env receiver) (λ params. typing.typed_args env params args) (base_of_walks env receiver) (λ params
      t. args_walk env params args t) expected s
  value_walks env at (StructOf first second inits) expected s =
      walk_found Rule.T01 at (target_of s.items env first second) _ λ t is. on.struct_walks at t.adt t.variant
      (typing.variant_of s.items t).fields (typing.typed_inits env (typing.variant_of s.items t) inits) (λ u. inits_walk
      env (typing.variant_of s.items t) inits u) expected s
  value_walks env at (TupleOf no_syn) expected s = on.leaf_walks at unit tree.UnitValue refl expected s
  value_walks env at (TupleOf (a_syn first rest)) expected s = on.tuple_walks at (suc (count_of rest)) (λ wants.
      typing.typed_parts env wants (a_syn first rest)) (λ wants t. parts_walk env wants (a_syn first rest) t) expected s
  value_walks env at (ArrayOf elements) expected s = on.array_walks at (count_of elements) (λ expected. typing.typed_elements
      env expected elements) (λ expected t. elements_walk env expected elements t) expected s
  value_walks env at (Braces statements tail) expected s = on.block_walks (Around env) at (typing.typed_all env
      statements) (λ inner. typing.typed_maybe inner tail) (λ t. all_walk env statements t) (λ inner same. subst (λ
      around. WalksMaybe (closures_if_any around tail) (typing.typed_maybe inner tail)) same (maybe_walks inner tail))
      expected s
  value_walks env at (IfElse c body nothing) expected s = on.if_alone_walks at (typing.typed env c) (typing.typed env body)
      (typed_walks env c) (typed_walks env body) expected s
  value_walks env at (IfElse c body (just otherwise)) expected s = on.if_else_walks at (typing.typed env c) (typing.typed
      env body) (typing.typed env otherwise) (typed_walks env c) (typed_walks env body) (typed_walks env otherwise) expected
      s
  value_walks env at (IfLetElse p scrutinee body nothing) expected s = on.if_let_alone_walks env at (typing.base_of env
      scrutinee) (typing.matcher env p) (λ xs. typing.typed (with_variables xs env) body) (base_of_walks env scrutinee)
      (λ e ty t. pattern_walks env e ty p [] t) (λ xs. typed_walks (with_variables xs env) body) expected s
  value_walks env at (IfLetElse p scrutinee body (just otherwise)) expected s = on.if_let_else_walks env at (typing.base_of
      env scrutinee) (typing.matcher env p) (λ xs. typing.typed (with_variables xs env) body) (typing.typed env
      otherwise) (base_of_walks env scrutinee) (λ e ty t. pattern_walks env e ty p [] t) (λ xs. typed_walks
      (with_variables xs env) body) (typed_walks env otherwise) expected s
  value_walks env at (MatchOn scrutinee arms) expected s =
      walk_obeyed Rule.T20 at (typing.has_one arms) _ λ _. on.match_walks env at (typing.base_of env scrutinee) (λ e ty
      expected. typing.typed_arms env e ty expected arms) (base_of_walks env scrutinee) (λ e ty expected t. arms_walk env e ty expected
      arms t) expected s
  value_walks env at (LoopOf label body) expected s = on.loop_walks at label (λ around. typing.typed (within_loop around
      env) body) (λ a. typed_walks (within_loop a env) body) expected s
  value_walks env at (WhileOf label c body) expected s = on.while_walks at label (λ around. typing.typed (within_loop around
      env) c) (λ around. typing.typed (within_loop around env) body) (λ a. typed_walks (within_loop a env) c) (λ a.
      typed_walks (within_loop a env) body) expected s
  value_walks env at (WhileLetOf label p scrutinee body) expected s = on.while_let_walks env at label (λ around.
      typing.base_of (within_loop around env) scrutinee) (typing.matcher env p) (λ around xs. typing.typed
      (with_variables xs (within_loop around env)) body) (λ a. base_of_walks (within_loop a env) scrutinee) (λ e ty t.
      pattern_walks env e ty p [] t) (λ a xs. typed_walks (with_variables xs (within_loop a env)) body) expected s
  value_walks env at (BreakOf label v) expected s = on.break_walks at (jumps_to env.loops label) (typing.typed_maybe env v)
      (λ expected t. maybe_walks env v expected t) expected s
  value_walks env at (ContinueOf label) expected s = on.continue_walks at (jumps_to env.loops label) expected s
  value_walks env at (ReturnOf v) expected s = on.return_walks at env.answer (typing.typed_maybe env v) (λ expected t.
      maybe_walks env v expected t) expected s
  value_walks env at (MoveOf captures params answer body) expected s = closure_walks env at captures params answer (λ inner. typing.typed
      inner body) (λ inner same. subst (λ around. WalksTyper (closures_of around body) (typing.typed inner body)) same
      (typed_walks inner body)) expected s
  value_walks env at PanicOf expected s = on.leaf_walks at never tree.Panic refl expected s
  value_walks env at _ expected s = record { so = tt }

  maybe_walks : (env : Env) (e : MaybeSyn) → WalksMaybe (closures_if_any (bodies.all_rules env) e) (typing.typed_maybe env
      e)
  maybe_walks env nothing expected s = walk_ends (walks_none s)
  maybe_walks env (just e) expected s = walk (typed_walks env e expected s) λ n t w. walk_ends w

  all_walk : (env : Env) (es : Syns) (s : TypingState) → Walked (λ done t. Walks (closures_among
      (bodies.all_rules env) es) s t (nodes_among done.0) × Around env done.2) (typing.typed_all env es s)
  all_walk env no_syn s = walk_ends (walks_none s, refl)
  all_walk env (a_syn first rest) s =
      walk (statement_walks env first s) λ n t w. walk (all_walk n.2 rest t) λ ns u x. walk_ends (
        subst (λ xs. Walks (closures_among (bodies.all_rules env) (a_syn first rest)) s u xs) (sym (with_statement_nodes
            n.0 ns.0)) (walks_both w.0 (subst (λ around. Walks (closures_among around rest) t u (nodes_among ns.0)) w.1
            x.0)),
        x.1 ∙ w.1,
      )

  statement_walks : (env : Env) (e : Syn) (s : TypingState) → Walked (λ done t. Walks (closures_of (bodies.all_rules env) e) s t
      (nodes_in_statement done.0) × Around env done.2) (typing.statement env e s)
  statement_walks env (syn at (AnExpression e)) s =
      walk (on.evaluate_walks (Around env) at env false _ refl (λ expected t.
      either (typing.is_place env e) (typing.place env at e >>= taken env expected) (typing.value env at e expected) t
      (walk (place_walks env at e t) λ p u w. on.taken_walks env expected p w) (value_walks env at e expected t)) s) λ n t
      w. walk_ends w
  statement_walks env (syn at (AStatement a)) s = other_walks env at a s
  statement_walks env (syn at _) s = record { so = tt }

  other_walks : (env : Env) (at : Pos) (form : Statement) (s : TypingState) → Walked (λ done
      t. Walks (closures_in (bodies.all_rules env) (AStatement form)) s t (nodes_in_statement done.0) × Around env done.2)
      (typing.other_statement env at form s)
  other_walks env at (LetOf p ty initialiser) s =
      walk (on.let_walks (Around env) at env (typing.is_one_name s.items p) (typing.declared env ty)
      (typing.initialised env (typing.is_one_name s.items p) (typing.takes_any p) initialiser) (typing.matcher env p)
      (λ xs. with_variables
      xs env) (λ xs. refl) (declared_still env ty) (λ expected t. initialised_walks env (typing.is_one_name s.items p)
      (typing.takes_any p)
      initialiser expected t) (λ e ty t. pattern_walks env e ty p [] t) s) λ n t w. walk_ends w
  other_walks env at (Semi e) s =
      walk (on.evaluate_walks (Around env) at env true (typing.typed env e) refl (typed_walks env e) s) λ n t w.
      walk_ends w
  other_walks env at Empty s = walk_ends (walks_none s, refl)

  initialised_walks : (env : Env) (one any : Bool) (e : MaybeSyn) → WalksMaybe (closures_if_any (bodies.all_rules env)
      e)
      (typing.initialised env one any e)
  initialised_walks env one any nothing expected s = walk_ends (walks_none s)
  initialised_walks env true any (just e) expected s = walk (typed_walks env e expected s) λ n t w. walk_ends w
  initialised_walks env false any (just e) expected s = walk (for_parts_walks env any expected e s) λ n t w. walk_ends w

  for_parts_walks : (env : Env) (any : Bool) (expected : Option TyId) (e : Syn) → WalksNode (closures_of
      (bodies.all_rules env) e)
      (typing.for_parts env any expected e)
  for_parts_walks env any expected (syn at (AnExpression e)) s =
      either (typing.is_place env e) (typing.place env at e >>= rows.place_for_parts env any expected) (typing.value env
      at e expected) s (walk (place_walks env at e s) λ p t w. on.in_parts_walks env any expected p w) (value_walks env
      at
      e expected s)
  for_parts_walks env any expected (syn at _) s = record { so = tt }

  args_walk : (env : Env) (params : List TyId) (args : Syns) (s : TypingState) → Walked (λ ns t. Walks (closures_among
      (bodies.all_rules env) args) s t (nodes_among ns) ×
      (well.count_of ns ≡ count_of args)) (typing.typed_args env params args s)
  args_walk env params no_syn s = walk_ends (walks_none s, refl)
  args_walk env [] (a_syn e es) s =
      walk (typed_walks env e None s) λ n t w. walk (args_walk env [] es t) λ ns u x. walk_ends (
        walks_both w x.0,
        ap
            suc x.1,
      )
  args_walk env (param ∷ params) (a_syn e es) s =
      walk (on.argument_walks param (typing.typed env e) (typing.by_reference env e) (typed_walks env e)
      (by_reference_walks env e) s) λ n t w. walk (args_walk env params es t) λ ns u x. walk_ends (
        walks_both w x.0,
        ap
            suc x.1,
      )

  by_reference_walks : (env : Env) (e : Syn) → WalksReferrer (closures_of (bodies.all_rules env) e) (typing.by_reference env e)
  by_reference_walks env (syn at (AnExpression e)) expected unique to s =
      either (typing.may_refer e) (typing.reference_form env at e expected unique to) (if typing.is_place env e
      then (typing.place env at e >>= taken env (Some expected)) else typing.value env at e (Some expected)) s
      (reference_walks env at e expected unique to s) (either (typing.is_place env e) (typing.place env at e >>=
      taken env (Some expected)) (typing.value env at e (Some expected)) s (walk (place_walks env at e s) λ p t w.
      on.taken_walks env (Some expected) p w) (value_walks env at e (Some expected) s))
  by_reference_walks env (syn at _) expected unique to s = record { so = tt }

  reference_walks : (env : Env) (at : Pos) (form : Expression) → WalksReferrer (closures_in_expression (bodies.all_rules env) form) (typing.reference_form env at form)
  reference_walks env at (Ampersand unique base) expected is_unique to s = on.borrow_walks at unique (typing.base_of env
      base) (base_of_walks env base) expected is_unique to s
  reference_walks env at (Path first second) expected unique to s = passed_walks at (typing.path env at first second)
      (typing.variable_of env first second) (path_walks env at first second) expected unique to s
  reference_walks env at (Parens inside) expected unique to s = by_reference_walks env inside expected unique to s
  reference_walks env at _ expected unique to s = record { so = tt }

  inits_walk : (env : Env) (v : Variant) (inits : Syns) (s : TypingState) → Walked (λ fs t. Walks (closures_among
      (bodies.all_rules env) inits) s t (nodes_of_fields fs.0))
      (typing.typed_inits env v inits s)
  inits_walk env v no_syn s = walk_ends (walks_none s)
  inits_walk env v (a_syn (syn at (AnInit name init)) rest) s =
      walk (init_walks env at name init (typing.field_want v (field_named v name)) s) λ n t w. walk (inits_walk env v
      rest t) λ fs u x. walk_ends (walks_both w x)
  inits_walk env v (a_syn (syn at _) rest) s = record { so = tt }

  init_walks : (env : Env) (at : Pos) (name : Word) (init : MaybeSyn) → WalksTyper (closures_if_any (bodies.all_rules env)
      init) (typing.init_value env at name init)
  init_walks env at name nothing expected s = path_walks env at (Some name) None expected s
  init_walks env at name (just e) expected s = typed_walks env e expected s

  parts_walk : (env : Env) (wants : List (Option TyId)) (parts : Syns) (s : TypingState) → Walked (λ ps t. Walks (closures_among
      (bodies.all_rules env) parts) s t
      (nodes_among ps.0)) (typing.typed_parts env wants parts s)
  parts_walk env wants no_syn s = walk_ends (walks_none s)
  parts_walk env wants (a_syn e es) s =
      walk (typed_walks env e (typing.first_want wants) s) λ n t w. walk (parts_walk env (typing.other_wants wants) es
      t) λ ns u x. walk_ends (walks_both w x)

  elements_walk : (env : Env) (expected : Option TyId) (elements : Syns) (s : TypingState) → Walked (λ ps t. Walks
      (closures_among (bodies.all_rules env) elements) s t
      (nodes_among ps.0)) (typing.typed_elements env expected elements s)
  elements_walk env expected no_syn s = walk_ends (walks_none s)
  elements_walk env expected (a_syn e es) s =
      walk (typed_walks env e expected s) λ n t w. walk (elements_walk env expected es t) λ ns u x. walk_ends (walks_both w x)

  arms_walk : (env : Env) (e : PatternContext) (ty : TyId) (expected : Option TyId) (arms : Syns) (s : TypingState) → Walked
      (λ ps t. Walks (closures_among (bodies.all_rules env) arms) s t (nodes_among ps.0)) (typing.typed_arms env e ty expected arms s)
  arms_walk env e ty expected no_syn s = walk_ends (walks_none s)
  arms_walk env e ty expected (a_syn (syn at (AnArm p guard body)) rest) s =
      walk (on.arm_walks (pattern env e ty p []) (λ xs. typing.typed_maybe (with_variables (in_guard xs) env) guard
      (Some bool)) (λ xs. typing.typed (with_variables xs env) body) (λ t. pattern_walks env e ty p [] t) (λ xs t.
      maybe_walks (with_variables (in_guard xs) env) guard (Some bool) t) (λ xs. typed_walks (with_variables xs env)
      body) expected s) λ n t w. walk (arms_walk env e ty expected rest t) λ ns u x. walk_ends (walks_both w x)
  arms_walk env e ty expected (a_syn (syn at _) rest) s = record { so = tt }
