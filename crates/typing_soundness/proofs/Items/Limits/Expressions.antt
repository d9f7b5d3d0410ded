-- Expressions and bodies keep types within their limits: the recursion, one line a form.
use Rattle.std.proofs.Common.{◌≡◌, ℕ, suc, ◌<◌, Bool, true, false, not, nat_le, if◌then◌else◌, List, [], ◌∷◌, ◌++◌, length, Option, Some, None, Result, Ok, Err, inl, inr, refl, ap, arith, slice_get}
use Rattle.std.specs.Prelude.{codes}
use Rattle.std.specs.Option.{option_map_or}
use Rattle.std.specs.Str.{bytes_eq}
use Rattle.std.proofs.lemmas.Bool.{lt-ltb}
use Rattle.std.proofs.lemmas.List.{length-append}
use Rattle.mir_base.specs.declared.int_kind.IntKind.{IntKind}
use Rattle.mir_base.specs.declared.place_in_text.Pos.{Pos}
use Rattle.mir_base.specs.declared.rule.Rule.{Rule}
use Rattle.mir_ty.specs.declared.adt.Variant.{Variant}
use Rattle.mir_ty.specs.declared.def.ClosureDef.{ClosureDef}
use Rattle.mir_ty.specs.declared.def.Sig.{Sig}
use Rattle.mir_ty.specs.declared.ty.Ty.{Ty}
use Rattle.mir_ty.specs.declared.ty.TyId.{TyId}
use Rattle.mir_ty.specs.ItemTable.{ItemTable, with_closure}
use Rattle.typed_tree.specs.Nodes.{numbers_of}
use Rattle.typed_tree.specs.Tree as tree
use Rattle.typed_tree.specs.Tree.{Node, Nodes, no_field, BodyTree, ParamTree}
use Rattle.well_typed.specs.Types.{is_enum, is_reference, variant_at}
use Rattle.typing_rules.specs.Bodies as bodies
use Rattle.typing_rules.specs.Check.{Check, TypingState, Broken, pure, ◌>>=◌, with_body, in_new_body, put_before, within_body}
use Rattle.typing_rules.specs.Named as names
use Rattle.typing_rules.specs.Named.{PathValue, Makes, IsBroken, path_value, Callee, Function, Constructor, Prints, Asks, Drops, Forgets, Boxes, AValue, Unnamed, NoCallee, callee_of, callee_by, place_inside, method_named}
use Rattle.typing_rules.specs.Patterns.{pattern, count_of, target_of}
use Rattle.typing_rules.specs.Places.{unit, bool, never, int, struct_field, numbered_part, used, a_node_of}
use Rattle.typing_rules.specs.Rows as rows
use Rattle.typing_rules.specs.Rows.{Typer, Referrer, PatternContext, taken}
use Rattle.typing_rules.specs.Scope.{Env, NamedEntry, Capture, variable, with_variables, within_loop, jumps_to, in_guard, field_named, adt_named, adt_at_head, body_named, method_of, kind_at}
use Rattle.typing_rules.specs.Typed as typing
use Rattle.typing_rules.specs.Written as types
use Rattle.src_ast.specs.Syntax.{Word, Syn, syn, AName, AnExpression, AStatement, AnInit, AnArm, Expression, Literal, TruthLiteral, Path, Minus, Bang, Star, Ampersand, Calculate, Compare, Both, Either, Store, CallOf, MethodOf, FieldOf, PartOf, ElementOf, StructOf, Parens, TupleOf, ArrayOf, Braces, IfElse, IfLetElse, MatchOn, LoopOf, WhileOf, WhileLetOf, BreakOf, ContinueOf, ReturnOf, MoveOf, PanicOf, Statement, LetOf, Empty, Semi, Syns, no_syn, a_syn, MaybeSyn, nothing, just}
use Rattle.typing_rules.proofs.Sound.Gives.{numbered}
use Rattle.typing_soundness.specs.Walks.{Walked}
use Rattle.typing_soundness.proofs.Items.Limits.Patterns.{target_below, pattern_kept, type_kept, answer_kept, params_kept}
use Rattle.typing_soundness.proofs.Items.Limits.Rows as on
use Rattle.typing_soundness.proofs.Items.Limits.Rows.{Inside, Keeps, KeepsTyper, KeepsReferrer, IsNamed, named_below, head_below, intern_kept, fitted_kept}
use Rattle.typing_soundness.proofs.Items.Limits.Types.{Bounds, IsIn}
use Rattle.typing_soundness.proofs.Walking.Params.{in_closure}
use Rattle.typing_soundness.proofs.Walking.Steps.{walk, walk_obeyed, walk_found, walk_ends, walk_borrow_alone}

module _ (b : Bounds) where
  abbrev KeepsArgs : (List TyId → Check Nodes) → Type 0
  KeepsArgs args = (params : List TyId) → Keeps b (args params)

  -- ---- paths

  -- what a path makes is there
  abbrev IsMade : PathValue → Type 0
  IsMade (Makes adt variant) = adt < b.adts
  IsMade (IsBroken rule) = Unit {0}

  module _ (items : ItemTable) (h : Inside b items) (env : Env) (named : IsNamed b env) where
    unit_made : (adt variant : ℕ) → adt < b.adts → IsMade (names.unit_value env adt variant)
    unit_made adt variant below = by (names.is_unit_kind (kind_at env.kinds adt variant))
      where
        by : (c : Bool) → IsMade (if c then Makes adt variant else IsBroken Rule.T13)
        by true = below
        by false = tt

    struct_made : (adt : ℕ) → adt < b.adts → IsMade (names.struct_value items env adt)
    struct_made adt below = by (is_enum items adt)
      where
        by : (c : Bool) → IsMade (if c then IsBroken Rule.T01 else names.unit_value env adt 0)
        by true = tt
        by false = unit_made adt 0 below

    name_made : (name : Word) (o : Option ℕ) → adt_named items name ≡ o → IsMade (names.name_value items env name o)
    name_made name None is = tt
    name_made name (Some adt) is = struct_made adt (named_below b items h name adt is)

    self_made : (o : Option ℕ) → env.self_adt ≡ o → IsMade (names.or_broken items env o)
    self_made None is = tt
    self_made (Some adt) is = struct_made adt (named.self adt is)

    box_made : (first : Option Word) (name : Word) → IsMade (names.box_member first name)
    box_made None name = tt
    box_made (Some first) name = by (types.is_box first)
      where
        by : (c : Bool) → IsMade (if c then IsBroken (if bytes_eq name (codes "new") then Rule.T13 else Rule.T12) else
            IsBroken Rule.T01)
        by true = tt
        by false = tt

    member_made : (first : Option Word) (name : Word) (o : Option ℕ) → adt_at_head items env first ≡ o → IsMade
        (names.path_member items env first name o)
    member_made first name None is = box_made first name
    member_made first name (Some adt) is = by (names.variant_of_enum items adt name)
      where
        by : (o : Option ℕ) → IsMade (names.member_value items env adt name o)
        by None = tt
        by (Some variant) = unit_made adt variant (head_below b items h env named first adt is)

    path_made : (first second : Option Word) → IsMade (path_value items env first second)
    path_made (Some name) None = name_made name (adt_named items name) refl
    path_made None None = self_made env.self_adt refl
    path_made None (Some name) = member_made None name (adt_at_head items env None) refl
    path_made (Some first) (Some name) = member_made (Some first) name (adt_at_head items env (Some first)) refl

    -- ---- what is called

    abbrev IsCallee : Callee → Type 0
    IsCallee (Constructor adt variant tys) = adt < b.adts
    IsCallee _ = Unit {0}

    if_callee : (c : Bool) (f g : Callee) → IsCallee f → IsCallee g → IsCallee (if c then f else g)
    if_callee true f g p q = p
    if_callee false f g p q = q

    constructor_is : (adt variant : ℕ) → adt < b.adts → IsCallee (names.constructor_of items env adt variant)
    constructor_is adt variant below =
        if_callee (names.is_tuple_kind (kind_at env.kinds adt variant)) (Constructor adt variant (option_map_or (λ (v :
        Variant). v.fields) (variant_at items adt variant) [])) NoCallee below tt

    struct_is : (adt : ℕ) → adt < b.adts → IsCallee (if is_enum items adt then Unnamed Rule.T01 else names.constructor_of
        items env adt 0)
    struct_is adt below =
        if_callee (is_enum items adt) (Unnamed Rule.T01) (names.constructor_of items env adt 0) tt (constructor_is adt 0
        below)

    built_in_is : (name : Word) → IsCallee (names.built_in_callee name)
    built_in_is name =
        if_callee (bytes_eq name (codes "print")) Prints _ tt (if_callee (bytes_eq name (codes "ask")) Asks _ tt
        (if_callee (bytes_eq name (codes "drop")) Drops _ tt (if_callee (bytes_eq name (codes "forget")) Forgets
        (Unnamed Rule.T01) tt tt)))

    adt_is : (name : Word) (o : Option ℕ) → adt_named items name ≡ o → IsCallee (names.adt_callee items env name o)
    adt_is name None is = built_in_is name
    adt_is name (Some adt) is = struct_is adt (named_below b items h name adt is)

    function_is : (body : ℕ) (o : Option Sig) → IsCallee (names.function_by items body o)
    function_is body None = tt
    function_is body (Some head) = tt

    body_is : (name : Word) (o : Option ℕ) → IsCallee (names.body_callee items env name o)
    body_is name (Some body) = function_is body (slice_get items.bodies body)
    body_is name None = adt_is name (adt_named items name) refl

    none_else : (c : Callee) → IsCallee c → IsCallee (names.or_no_callee c)
    none_else (Constructor adt variant tys) p = p
    none_else other p = tt

    variable_is : (name : Word) (o : Option NamedEntry) → IsCallee (names.variable_callee items env name o)
    variable_is name None = body_is name (body_named items name)
    variable_is name (Some x) =
        if_callee _ AValue (names.or_no_callee (names.body_callee items env name (body_named items name))) tt (none_else
        (names.body_callee items env name (body_named items name)) (body_is name (body_named items name)))

    self_is : (o : Option ℕ) → env.self_adt ≡ o → IsCallee (names.self_callee items env o)
    self_is None is = tt
    self_is (Some adt) is = struct_is adt (named.self adt is)

    method_is : (adt : ℕ) (o : Option ℕ) → IsCallee (names.method_callee items adt o)
    method_is adt None = tt
    method_is adt (Some body) = function_is body (slice_get items.bodies body)

    box_is : (first : Option Word) (name : Word) → IsCallee (names.box_callee first name)
    box_is None name = tt
    box_is (Some first) name =
        if_callee (types.is_box first) _ (Unnamed Rule.T01) (if_callee (bytes_eq name (codes "new")) Boxes (Unnamed
        Rule.T12) tt tt) tt

    member_is : (first : Option Word) (name : Word) (o : Option ℕ) → adt_at_head items env first ≡ o → IsCallee
        (names.path_callee items env first name o)
    member_is first name None is = box_is first name
    member_is first name (Some adt) is = by (names.variant_of_enum items adt name)
      where
        by : (o : Option ℕ) → IsCallee (names.member_callee items env adt name o)
        by None = method_is adt (method_of items adt name)
        by (Some variant) = constructor_is adt variant (head_below b items h env named first adt is)

    mutual
      callee_is : (e : Syn) → IsCallee (callee_of items env e)
      callee_is (syn at (AnExpression e)) = form_is e
      callee_is _ = tt

      form_is : (form : Expression) → IsCallee (callee_by items env form)
      form_is (Parens inside) = callee_is inside
      form_is (Path (Some name) None) = variable_is name (variable env.variables name)
      form_is (Path None None) = self_is env.self_adt refl
      form_is (Path None (Some name)) = member_is None name (adt_at_head items env None) refl
      form_is (Path (Some first) (Some name)) = member_is (Some first) name (adt_at_head items env (Some first)) refl
      form_is _ = tt

  makes_kept : (at : Pos) (v : PathValue) → IsMade v → KeepsTyper b (typing.makes_unit at v)
  makes_kept at (Makes adt variant) below expected s h =
      walk (intern_kept b (Ty.Adt adt) s h below) λ ty t k. on.leaf_kept b at ty (tree.Make adt variant no_field) expected t k
  makes_kept at (IsBroken rule) below expected s h = record { so = tt }

  path_alone_kept : (env : Env) → IsNamed b env → (at : Pos) (first second : Option Word) → KeepsTyper b (typing.path_alone env
      at first second)
  path_alone_kept env named at first second expected s h =
      makes_kept at (path_value s.items env first second) (path_made s.items h env named first second) expected s h

  path_by_kept : (env : Env) → IsNamed b env → (at : Pos) (first second : Option Word) (x : Option NamedEntry) → KeepsTyper b
      (typing.path_by env at first second x)
  path_by_kept env named at first second (Some x) expected s h =
      walk (on.variable_kept b at x s h) λ p t k. on.taken_kept b env expected p t k
  path_by_kept env named at first second None expected s h = path_alone_kept env named at first second expected s h

  path_kept : (env : Env) → IsNamed b env → (at : Pos) (first second : Option Word) → KeepsTyper b (typing.path env at first
      second)
  path_kept env named at first second = path_by_kept env named at first second (typing.variable_of env first second)

  base_kept : (env : Env) → IsNamed b env → (at : Pos) (first second : Option Word) (x : Option NamedEntry) → Keeps b
      (typing.variable_base env at first second x)
  base_kept env named at first second (Some x) s h = on.variable_kept b at x s h
  base_kept env named at first second None s h = path_alone_kept env named at first second None s h

  -- ---- calls

  called_kept : (items : ItemTable) (g : Inside b items) (env : Env) (named : IsNamed b env) (at : Pos) (count : ℕ) (callee :
      Check Node) (args : List TyId → Check Nodes) (c : Callee) → IsCallee items g env named c → Keeps b callee → KeepsArgs
      args → KeepsTyper b (typing.called_by at count callee args c)
  called_kept items g env named at count callee args (Function body is_drop head) is good_c good expected s h =
      on.call_kept b at (tree.Call body) head.result count head.params args (not is_drop) good expected s h
  called_kept items g env named at count callee args (Constructor adt variant tys) is good_c good expected s h =
      walk (intern_kept b (Ty.Adt adt) s h is) λ ty t k. on.call_kept b at (rows.make adt variant) ty count tys args true good expected
      t k
  called_kept items g env named at count callee args Prints is good_c good expected s h =
      on.built_in_kept b at unit rows.print_form count 1 (args (int IntKind.I32 ∷ [])) (good (int IntKind.I32 ∷ [])) expected s h
  called_kept items g env named at count callee args Asks is good_c good expected s h =
      on.built_in_kept b at (int IntKind.I32) rows.ask_form count 0 (args []) (good []) expected s h
  called_kept items g env named at count callee args Drops is good_c good expected s h =
      on.built_in_kept b at unit rows.drop_form count 1 (args []) (good []) expected s h
  called_kept items g env named at count callee args Forgets is good_c good expected s h =
      on.built_in_kept b at unit rows.forget_form count 1 (args []) (good []) expected s h
  called_kept items g env named at count callee args Boxes is good_c good expected s h =
      on.new_box_kept b at count args good expected s h
  called_kept items g env named at count callee args AValue is good_c good expected s h =
      on.closure_call_kept b at count callee args good_c good expected s h
  called_kept items g env named at count callee args (Unnamed rule) is good_c good expected s h = record { so = tt }
  called_kept items g env named at count callee args NoCallee is good_c good expected s h =
      on.no_call_kept b at Rule.T13 args expected s h

  passed_kept : (at : Pos) (by_value : Typer) (x : Option NamedEntry) → KeepsTyper b by_value → KeepsReferrer b (typing.passed at
      by_value x)
  passed_kept at by_value None good expected unique to s h = good (Some expected) s h
  passed_kept at by_value (Some x) good expected unique to s h = by (is_reference s.items x.ty)
    where
      by : (c : Bool) → Walked (λ _ t. Inside b t.items) ((if c then rows.passed_on at x expected unique to else by_value (Some
          expected)) s)
      by true = on.passed_on_kept b at x expected unique to s h
      by false = good (Some expected) s h

  minus_kept : (at : Pos) (o : Option (ℕ × Option IntKind)) (operand : Typer) → KeepsTyper b operand → KeepsTyper b
      (typing.minus at o operand)
  minus_kept at (Some n) operand good = on.literal_kept b at true n.0 n.1
  minus_kept at None operand good = on.negate_kept b at operand good

  declared_kept : (env : Env) → IsNamed b env → (ty : MaybeSyn) → Keeps b (typing.declared env ty)
  declared_kept env named nothing s h = walk_ends h
  declared_kept env named (just ty) s h = walk (type_kept b env named ty s h) λ t u k. walk_ends k

  -- ---- closures

  capture_kept : (env : Env) (k : ℕ) (e : Syn) (earlier : List NamedEntry) → Keeps b (bodies.capture env k e earlier)
  capture_kept env k (syn at (AName name)) earlier s h =
      walk_obeyed Rule.T01 at (bodies.is_captured name env.variables) _ λ _. walk_obeyed Rule.T02 at (not
      (bodies.is_captured name earlier)) _ λ _. walk_found Rule.T01 at (variable env.variables name) _ λ x is. walk
      (on.variable_kept b at x s h) λ p t l. walk {f = λ n. pure (n, earlier ++ named name x.ty k ∷ [])} (on.taken_kept b env None
      p t l) λ n u m. walk_ends m
    where
      named : Word → TyId → ℕ → NamedEntry
      named name ty k = record { name = name; ty = ty; meaning = Capture 0 k }
  capture_kept env k (syn at _) earlier s h = record { so = tt }

  captured_kept : (env : Env) (k : ℕ) (captures : Syns) (earlier : List NamedEntry) → Keeps b (bodies.captured env k captures earlier)
  captured_kept env k no_syn earlier s h = walk_ends h
  captured_kept env k (a_syn first rest) earlier s h =
      walk (capture_kept env k first earlier s h) λ c t l. walk (captured_kept env (suc k) rest c.1 t l) λ cs u m. walk_ends m

  closure_more : (cs : List ClosureDef) (def : ClosureDef) → length cs < length (cs ++ def ∷ [])
  closure_more cs def = let e = length-append cs (def ∷ []) in omega (arith, e)

  with_closure_kept : (items : ItemTable) (def : ClosureDef) → Inside b items → Inside b (with_closure items def)
  with_closure_kept items def h = record { adts = h.adts; types = λ n ty at. more ty (h.types n ty at) }
    where
      more : (ty : Ty) → IsIn b (length items.closures) ty → IsIn b (length (items.closures ++ def ∷ [])) ty
      more (Ty.Closure n) (inl e) = inl e
      more (Ty.Closure n) (inr e) = inr (let f = closure_more items.closures def in omega (arith, e, f))
      more (Ty.Tuple parts) e = e
      more (Ty.Array element count) e = e
      more (Ty.Adt n) e = e
      more (Ty.Dyn n) e = e
      more _ e = tt

  -- a body in a walk of its own
  pub body_kept : (check : Check BodyTree) (s : TypingState) → Walked (λ _ t. Inside b t.items) (check (record s {
    bodies = [];
    next_node = 0;
    breaks = [];
  })) → Walked (λ _ t. Inside b t.items) (with_body (λ n. n) (in_new_body check) s)
  body_kept check s h = by (check (record s { bodies = []; next_node = 0; breaks = [] })) h
    where
      by : (r : Result (BodyTree × TypingState) Broken) → Walked (λ _ t. Inside b t.items) r → Walked (λ _ t. Inside b t.items)
          (put_before s.bodies (λ n. n) (within_body (record s { bodies = [] }) r))
      by (Ok a) h = walk_ends h.so
      by (Err e) h = record { so = tt }

  inner_kept : (env : Env) → IsNamed b env → (too_many : Rule) (at : Pos) (n : ℕ) (ty : TyId) (captures : List NamedEntry) (params : Syns) (answer :
      MaybeSyn) (block : Env → Typer) → ((inner : Env) → IsNamed b inner → KeepsTyper b (block inner)) → Keeps b (in_closure
      env too_many at n ty captures params answer block)
  inner_kept env named too_many at n ty captures params answer block good s h =
      walk (params_kept b (bodies.inside_closure env captures) named (types.written (bodies.all_rules env)) (λ x. type_kept b env
      named x) params [] (numbered s) h) λ ps t k. walk (answer_kept b env named answer t k) λ a u l. walk (good (bodies.inside
      (bodies.inside_closure env captures) a ps.1) named (Some a) u l) λ m v q. walk_obeyed too_many at (nat_le (length
      (numbers_of (bodies.body_of n (self_param s ∷ ps.0) a m))) 2048) _ λ _. walk_ends q
    where
      self_param : TypingState → ParamTree
      self_param s =
          record { pattern = used (rows.taking s.items ty) (a_node_of s.next_node at ty (tree.Binding [])); ty = ty }

  closure_kept : (env : Env) → IsNamed b env → (at : Pos) (captures params : Syns) (answer : MaybeSyn) (block : Env → Typer) →
      ((inner : Env) → IsNamed b inner → KeepsTyper b (block inner)) → KeepsTyper b (bodies.closure env at captures params
      answer block)
  closure_kept env named at captures params answer block good expected s h =
      walk (captured_kept env 0 captures [] (record (numbered s) { next_body = suc s.next_body }) h) λ caps t k. walk (intern_kept
      b (Ty.Closure (length t.items.closures)) (with_ caps.1 t) (with_closure_kept t.items (def caps.1) k) (inr (closure_more
      t.items.closures (def caps.1)))) λ ty u l. walk (body_kept (in_closure env (bodies.too_many_rule u.items expected ty) at s.next_body ty
      caps.1 params answer block) u (inner_kept env named (bodies.too_many_rule u.items expected ty) at s.next_body ty caps.1 params answer block good (record u {
        bodies = [];
        next_node = 0;
        breaks = [];
      }) l)) λ m v q. fitted_kept b expected _ _ q
    where
      def : List NamedEntry → ClosureDef
      def captures = record { captures = bodies.types_of captures; body = s.next_body }

      with_ : List NamedEntry → TypingState → TypingState
      with_ captures t = record t { items = with_closure t.items (def captures) }

  -- ---- the recursion

  -- one of two checks
  either : {A : Type 0} {R : A → TypingState → Type 0} (c : Bool) (p q : Check A) (s : TypingState) → Walked R (p s) → Walked R (q s) →
      Walked R ((if c then p else q) s)
  either true p q s h k = h
  either false p q s h k = k

  mutual
    pub typed_kept : (env : Env) → IsNamed b env → (e : Syn) → KeepsTyper b (typing.typed env e)
    typed_kept env named (syn at (AnExpression form)) expected s h =
        either (typing.is_place env form) (typing.place env at form >>= taken env expected) (typing.value env at form expected) s
        (walk (place_kept env named at form s h) λ p t k. on.taken_kept b env expected p t k) (value_kept env named at form expected s h)
    typed_kept env named (syn at _) expected s h = record { so = tt }

    base_of_kept : (env : Env) → IsNamed b env → (e : Syn) → Keeps b (typing.base_of env e)
    base_of_kept env named (syn at (AnExpression form)) s h =
        either (typing.is_place env form) (typing.place env at form) (typing.value env at form None) s (place_kept env named at
        form s h) (value_kept env named at form None s h)
    base_of_kept env named (syn at _) s h = record { so = tt }

    place_kept : (env : Env) → IsNamed b env → (at : Pos) (form : Expression) → Keeps b (typing.place env at form)
    place_kept env named at (Path first second) s h =
        base_kept env named at first second (typing.variable_of env first second) s h
    place_kept env named at (FieldOf base name) s h =
        on.field_kept b at (struct_field name) (typing.base_of env base) (base_of_kept env named base) s h
    place_kept env named at (PartOf base k) s h =
        on.field_kept b at (numbered_part k) (typing.base_of env base) (base_of_kept env named base) s h
    place_kept env named at (ElementOf base index) s h =
        on.element_kept b at (typing.base_of env base) (typing.typed env index) (base_of_kept env named base) (typed_kept env named
        index) s h
    place_kept env named at (Star base) s h = on.deref_kept b at (typing.base_of env base) (base_of_kept env named base) s h
    place_kept env named at (Parens inside) s h = base_of_kept env named inside s h
    place_kept env named at _ s h = record { so = tt }

    value_kept : (env : Env) → IsNamed b env → (at : Pos) (form : Expression) → KeepsTyper b (typing.value env at form)
    value_kept env named at (Path first second) expected s h = path_alone_kept env named at first second expected s h
    value_kept env named at (Parens inside) expected s h = typed_kept env named inside expected s h
    value_kept env named at (Literal n suffix) expected s h = on.literal_kept b at false n suffix expected s h
    value_kept env named at (TruthLiteral c) expected s h = on.leaf_kept b at bool (tree.Truth c) expected s h
    value_kept env named at (Minus operand) expected s h =
        minus_kept at (typing.literal_in operand) (typing.typed env operand) (typed_kept env named operand) expected s h
    value_kept env named at (Bang operand) expected s h =
        on.not_kept b at (typing.typed env operand) (typed_kept env named operand) expected s h
    value_kept env named at (Ampersand unique base) expected s h =
        walk_borrow_alone at unique expected ((typing.base_of env base >>= rows.no_reference) s)
    value_kept env named at (Calculate operator left right) expected s h =
        on.arithmetic_kept b at operator (typing.is_plain left) (typing.typed env left) (typing.typed env right) (typed_kept env
        named left) (typed_kept env named right) expected s h
    value_kept env named at (Compare operator left right) expected s h =
        on.comparison_kept b at operator (typing.is_plain left) (typing.typed env left) (typing.typed env right) (typed_kept env
        named left) (typed_kept env named right) expected s h
    value_kept env named at (Both left right) expected s h =
        on.logic_kept b at tree.And (typing.typed env left) (typing.typed env right) (typed_kept env named left) (typed_kept env
        named right) expected s h
    value_kept env named at (Either left right) expected s h =
        on.logic_kept b at tree.Or (typing.typed env left) (typing.typed env right) (typed_kept env named left) (typed_kept env
        named right) expected s h
    value_kept env named at (Store left right) expected s h =
        on.store_kept b env at (typing.base_of env left) (typing.typed env right) (base_of_kept env named left) (typed_kept env
        named right) expected s h
    value_kept env named at (CallOf callee args) expected s h =
        called_kept s.items h env named (typing.call_place at (place_inside callee) (callee_of s.items env callee))
        (count_of args) (typing.typed env callee None) (λ params. typing.typed_args env params args) (callee_of s.items env callee) (callee_is s.items h env named callee) (typed_kept env named callee None) (λ
        params. args_kept env named params args) expected s h
    value_kept env named at (MethodOf receiver name args) expected s h =
        on.method_kept b env at (method_named name) (count_of args) (typing.base_of env receiver) (λ params. typing.typed_args
        env params args) (base_of_kept env named receiver) (λ params. args_kept env named params args) expected s h
    value_kept env named at (StructOf first second inits) expected s h =
        walk_found Rule.T01 at (target_of s.items env first second) _ λ t is. on.struct_kept b at t.adt t.variant
        (typing.variant_of s.items t).fields (typing.typed_inits env (typing.variant_of s.items t) inits) (target_below b
        s.items h env named first second t is) (inits_kept env named (typing.variant_of s.items t) inits) expected s h
    value_kept env named at (TupleOf no_syn) expected s h = on.leaf_kept b at unit tree.UnitValue expected s h
    value_kept env named at (TupleOf (a_syn first rest)) expected s h =
        on.tuple_kept b at (suc (count_of rest)) (λ wants. typing.typed_parts env wants (a_syn first rest)) (lt-ltb 0 (suc
        (count_of rest)) (omega arith)) (λ wants. parts_kept env named wants (a_syn first rest)) expected s h
    value_kept env named at (ArrayOf elements) expected s h =
        on.array_kept b at (count_of elements) (λ expected. typing.typed_elements env expected elements) (λ expected. elements_kept env named
        expected elements) expected s h
    value_kept env named at (Braces statements tail) expected s h =
        on.block_kept b (IsNamed b) at (typing.typed_all env statements) (λ inner. typing.typed_maybe inner tail) (all_kept env
        named statements) (λ inner is. maybe_kept inner is tail) expected s h
    value_kept env named at (IfElse c body nothing) expected s h =
        on.if_alone_kept b at (typing.typed env c) (typing.typed env body) (typed_kept env named c) (typed_kept env named body) expected
        s h
    value_kept env named at (IfElse c body (just otherwise)) expected s h =
        on.if_else_kept b at (typing.typed env c) (typing.typed env body) (typing.typed env otherwise) (typed_kept env named c)
        (typed_kept env named body) (typed_kept env named otherwise) expected s h
    value_kept env named at (IfLetElse p scrutinee body nothing) expected s h =
        on.if_let_alone_kept b env at (typing.base_of env scrutinee) (typing.matcher env p) (λ xs. typing.typed (with_variables
        xs env) body) (base_of_kept env named scrutinee) (λ e ty. pattern_kept b env named e ty p []) (λ xs. typed_kept
        (with_variables xs env) named body) expected s h
    value_kept env named at (IfLetElse p scrutinee body (just otherwise)) expected s h =
        on.if_let_else_kept b env at (typing.base_of env scrutinee) (typing.matcher env p) (λ xs. typing.typed (with_variables
        xs env) body) (typing.typed env otherwise) (base_of_kept env named scrutinee) (λ e ty. pattern_kept b env named e ty p [])
        (λ xs. typed_kept (with_variables xs env) named body) (typed_kept env named otherwise) expected s h
    value_kept env named at (MatchOn scrutinee arms) expected s h =
        walk_obeyed Rule.T20 at (typing.has_one arms) _ λ _. on.match_kept b env at (typing.base_of env scrutinee) (λ e ty expected.
        typing.typed_arms env e ty expected arms) (base_of_kept env named scrutinee) (λ e ty expected. arms_kept env named e ty expected arms)
        expected s h
    value_kept env named at (LoopOf label body) expected s h =
        on.loop_kept b at label (λ around. typing.typed (within_loop around env) body) (λ a. typed_kept (within_loop a env) named
        body) expected s h
    value_kept env named at (WhileOf label c body) expected s h =
        on.while_kept b at label (λ around. typing.typed (within_loop around env) c) (λ around. typing.typed (within_loop around
        env) body) (λ a. typed_kept (within_loop a env) named c) (λ a. typed_kept (within_loop a env) named body) expected s h
    value_kept env named at (WhileLetOf label p scrutinee body) expected s h =
        on.while_let_kept b env at label (λ around. typing.base_of (within_loop around env) scrutinee) (typing.matcher env p) (λ
        around xs. typing.typed (with_variables xs (within_loop around env)) body) (λ a. base_of_kept (within_loop a env) named
        scrutinee) (λ e ty. pattern_kept b env named e ty p []) (λ a xs. typed_kept (with_variables xs (within_loop a env)) named
        body) expected s h
    value_kept env named at (BreakOf label v) expected s h =
        on.break_kept b at (jumps_to env.loops label) (typing.typed_maybe env v) (λ expected. maybe_kept env named v expected) expected s h
    value_kept env named at (ContinueOf label) expected s h = on.continue_kept b at (jumps_to env.loops label) expected s h
    value_kept env named at (ReturnOf v) expected s h =
        on.return_kept b at env.answer (typing.typed_maybe env v) (λ expected. maybe_kept env named v expected) expected s h
    value_kept env named at (MoveOf captures params answer body) expected s h =
        closure_kept env named at captures params answer (λ inner. typing.typed inner body) (λ inner is. typed_kept inner is body)
        expected s h
    value_kept env named at PanicOf expected s h = on.leaf_kept b at never tree.Panic expected s h
    value_kept env named at _ expected s h = record { so = tt }

    maybe_kept : (env : Env) → IsNamed b env → (e : MaybeSyn) (expected : Option TyId) → Keeps b (typing.typed_maybe env e expected)
    maybe_kept env named nothing expected s h = walk_ends h
    maybe_kept env named (just e) expected s h = walk (typed_kept env named e expected s h) λ n t k. walk_ends k

    all_kept : (env : Env) → IsNamed b env → (es : Syns) (s : TypingState) → Inside b s.items → Walked (λ done t. Inside b t.items ×
        IsNamed b done.2) (typing.typed_all env es s)
    all_kept env named no_syn s h = walk_ends (h, named)
    all_kept env named (a_syn first rest) s h =
        walk (statement_kept env named first s h) λ n t k. walk (all_kept n.2 k.1 rest t k.0) λ ns u l. walk_ends l

    statement_kept : (env : Env) → IsNamed b env → (e : Syn) (s : TypingState) → Inside b s.items → Walked (λ done t. Inside b
        t.items × IsNamed b done.2) (typing.statement env e s)
    statement_kept env named (syn at (AnExpression form)) s h =
        walk (on.evaluate_kept b (IsNamed b) at env false _ named (λ expected t k. either (typing.is_place env form)
        (typing.place env at form >>= taken env expected) (typing.value env at form expected) t (walk (place_kept env named at form t k)
        λ p u l. on.taken_kept b env expected p u l) (value_kept env named at form expected t k)) s h) λ n t k. walk_ends k
    statement_kept env named (syn at (AStatement form)) s h = other_kept env named at form s h
    statement_kept env named (syn at _) s h = record { so = tt }

    other_kept : (env : Env) → IsNamed b env → (at : Pos) (form : Statement) (s : TypingState) → Inside b s.items → Walked (λ done t.
        Inside b t.items × IsNamed b done.2) (typing.other_statement env at form s)
    other_kept env named at (LetOf p ty initialiser) s h =
        walk (on.let_kept b (IsNamed b) at env (typing.is_one_name s.items p) (typing.declared env ty) (typing.initialised env
        (typing.is_one_name s.items p) (typing.takes_any p) initialiser) (typing.matcher env p) (λ xs. with_variables
        xs env) (λ xs. named)
        (declared_kept env named ty) (λ expected. initialised_kept env named (typing.is_one_name s.items p)
        (typing.takes_any p)
        initialiser expected) (λ e ty.
        pattern_kept b env named e ty p []) s h) λ n t k. walk_ends k
    other_kept env named at (Semi e) s h =
        walk (on.evaluate_kept b (IsNamed b) at env true (typing.typed env e) named (typed_kept env named e) s h) λ n t k.
        walk_ends k
    other_kept env named at Empty s h = walk_ends (h, named)

    initialised_kept : (env : Env) → IsNamed b env → (one any : Bool) (e : MaybeSyn) (expected : Option TyId) → Keeps b
        (typing.initialised env one any e expected)
    initialised_kept env named one any nothing expected s h = walk_ends h
    initialised_kept env named true any (just e) expected s h =
        walk (typed_kept env named e expected s h) λ n t k. walk_ends k
    initialised_kept env named false any (just e) expected s h =
        walk (for_parts_kept env named any expected e s h) λ n t k. walk_ends k

    for_parts_kept : (env : Env) → IsNamed b env → (any : Bool) (expected : Option TyId) (e : Syn) → Keeps b
        (typing.for_parts env any expected e)
    for_parts_kept env named any expected (syn at (AnExpression form)) s h =
        either (typing.is_place env form) (typing.place env at form >>= rows.place_for_parts env any expected)
        (typing.value env at
        form expected) s (walk (place_kept env named at form s h) λ p t k. on.in_parts_kept b env any expected p t k)
        (value_kept env named at
        form expected s h)
    for_parts_kept env named any expected (syn at _) s h = record { so = tt }

    args_kept : (env : Env) → IsNamed b env → (params : List TyId) (args : Syns) → Keeps b (typing.typed_args env params args)
    args_kept env named params no_syn s h = walk_ends h
    args_kept env named [] (a_syn e es) s h =
        walk (typed_kept env named e None s h) λ n t k. walk (args_kept env named [] es t k) λ ns u l. walk_ends l
    args_kept env named (param ∷ params) (a_syn e es) s h =
        walk (on.argument_kept b param (typing.typed env e) (typing.by_reference env e) (typed_kept env named e) (by_reference_kept
        env named e) s h) λ n t k. walk (args_kept env named params es t k) λ ns u l. walk_ends l

    by_reference_kept : (env : Env) → IsNamed b env → (e : Syn) → KeepsReferrer b (typing.by_reference env e)
    by_reference_kept env named (syn at (AnExpression form)) expected unique to s h =
        either (typing.may_refer form) (typing.reference_form env at form expected unique to) (if typing.is_place env form then
        (typing.place env at form >>= taken env (Some expected)) else typing.value env at form (Some expected)) s (reference_kept env
        named at form expected unique to s h) (either (typing.is_place env form) (typing.place env at form >>= taken env (Some
        expected)) (typing.value env at form (Some expected)) s (walk (place_kept env named at form s h) λ p t k. on.taken_kept b env
        (Some expected) p t k) (value_kept env named at form (Some expected) s h))
    by_reference_kept env named (syn at _) expected unique to s h = record { so = tt }

    reference_kept : (env : Env) → IsNamed b env → (at : Pos) (form : Expression) → KeepsReferrer b (typing.reference_form env at
        form)
    reference_kept env named at (Ampersand unique base) expected is_unique to s h =
        on.borrow_kept b at unique (typing.base_of env base) (base_of_kept env named base) expected is_unique to s h
    reference_kept env named at (Path first second) expected unique to s h =
        passed_kept at (typing.path env at first second) (typing.variable_of env first second) (path_kept env named at first
        second) expected unique to s h
    reference_kept env named at (Parens inside) expected unique to s h = by_reference_kept env named inside expected unique to s h
    reference_kept env named at _ expected unique to s h = record { so = tt }

    inits_kept : (env : Env) → IsNamed b env → (v : Variant) (inits : Syns) → Keeps b (typing.typed_inits env v inits)
    inits_kept env named v no_syn s h = walk_ends h
    inits_kept env named v (a_syn (syn at (AnInit name init)) rest) s h =
        walk (init_kept env named at name init (typing.field_want v (field_named v name)) s h) λ n t k. walk (inits_kept env named
        v rest t k) λ fs u l. walk_ends l
    inits_kept env named v (a_syn (syn at _) rest) s h = record { so = tt }

    init_kept : (env : Env) → IsNamed b env → (at : Pos) (name : Word) (init : MaybeSyn) → KeepsTyper b (typing.init_value env
        at name init)
    init_kept env named at name nothing expected s h = path_kept env named at (Some name) None expected s h
    init_kept env named at name (just e) expected s h = typed_kept env named e expected s h

    parts_kept : (env : Env) → IsNamed b env → (wants : List (Option TyId)) (parts : Syns) (s : TypingState) → Inside b s.items →
        Walked (λ ps t. Inside b t.items × (length ps.1 ≡ count_of parts)) (typing.typed_parts env wants parts s)
    parts_kept env named wants no_syn s h = walk_ends (h, refl)
    parts_kept env named wants (a_syn e es) s h =
        walk (typed_kept env named e (typing.first_want wants) s h) λ n t k. walk (parts_kept env named (typing.other_wants wants)
        es t k) λ ns u l. walk_ends (l.0, ap suc l.1)

    elements_kept : (env : Env) → IsNamed b env → (expected : Option TyId) (elements : Syns) → Keeps b (typing.typed_elements env
        expected elements)
    elements_kept env named expected no_syn s h = walk_ends h
    elements_kept env named expected (a_syn e es) s h =
        walk (typed_kept env named e expected s h) λ n t k. walk (elements_kept env named expected es t k) λ ns u l. walk_ends l

    arms_kept : (env : Env) → IsNamed b env → (e : PatternContext) (ty : TyId) (expected : Option TyId) (arms : Syns) → Keeps b
        (typing.typed_arms env e ty expected arms)
    arms_kept env named e ty expected no_syn s h = walk_ends h
    arms_kept env named e ty expected (a_syn (syn at (AnArm p guard body)) rest) s h =
        walk (on.arm_kept b (pattern env e ty p []) (λ xs. typing.typed_maybe (with_variables (in_guard xs) env) guard (Some
        bool)) (λ xs. typing.typed (with_variables xs env) body) (pattern_kept b env named e ty p []) (λ xs. maybe_kept
        (with_variables (in_guard xs) env) named guard (Some bool)) (λ xs. typed_kept (with_variables xs env) named body) expected s
        h) λ n t k. walk (arms_kept env named e ty expected rest t k) λ ns u l. walk_ends l
    arms_kept env named e ty expected (a_syn (syn at _) rest) s h = record { so = tt }
