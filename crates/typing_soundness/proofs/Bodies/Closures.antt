-- Closures: what they capture, and their bodies.
use Rattle.std.proofs.Common.{◌≡◌, ℕ, suc, ◌+◌, ◌≤◌, Bool, true, false, ◌||◌, ◌==◌, not, nat_le, if◌then◌else◌, List, [], ◌∷◌, ◌++◌, map, length, slice_get, Option, Some, None, Result, Ok, Err, IsTrue, Contains, ◌⊎◌, inl, inr, refl, ap, sym, subst, ◌∙◌, arith}
use Rattle.std.specs.Prelude.{option_and_then}
use Rattle.std.specs.Option.{option_map_or}
use Rattle.std.specs.Str.{bytes_eq}
use Rattle.std.proofs.lemmas.List.{append_assoc, append-nil}
use Rattle.std.proofs.lemmas.Option.{none-some, same_Some, slice_get_within}
use Rattle.mir_base.specs.declared.place_in_text.Pos.{Pos}
use Rattle.mir_base.specs.declared.rule.Rule.{Rule}
use Rattle.mir_ty.specs.declared.def.ClosureDef.{ClosureDef}
use Rattle.mir_ty.specs.declared.ty.Ty.{Ty}
use Rattle.mir_ty.specs.declared.ty.TyId.{TyId}
use Rattle.mir_ty.specs.Facts.{is_copy}
use Rattle.mir_ty.specs.ItemTable.{ItemTable, type_at, with_closure}
use Rattle.mir_ty.specs.Parts.{field_ty, held_by, parts_of, captures_of, of_one_variant}
use Rattle.mir_ty.proofs.ListLemmas.{slice_get-append_left, slice_get-last, slice_get-push_cases, Contains-slice_get}
use Rattle.typed_tree.specs.Nodes.{numbers_of}
use Rattle.typed_tree.specs.Tree as tree
use Rattle.typed_tree.specs.Tree.{Node, node, Nodes, no_node, a_node, ParamTree, BodyTree}
use Rattle.well_typed.specs.Claim.{Holds, some}
use Rattle.well_typed.specs.Nodes.{is_variable, captured}
use Rattle.well_typed.specs.Places.{form_of, ty_of}
use Rattle.well_typed.specs.Types.{closure_in, is_same, is_dyn, is_reference}
use Rattle.typing_rules.specs.Bodies as bodies
use Rattle.typing_rules.specs.Check.{TypingState, Broken, pure, closure_added}
use Rattle.well_typed.proofs.ClaimLemmas.{and_true}
use Rattle.typing_rules.specs.Numbered.{param_renumbered}
use Rattle.typing_rules.specs.Places.{a_node_of, used, meaning_form, is_fixed, in_own_guard}
use Rattle.typing_rules.specs.Promises.{Extends, IsReady, IsAlone, AreReady, AreClosures, IsBelow, Grows, Gives, TypingSpot, at_spot, Stands, Means, Knows, KnowsItems, IsValue, IsValueType, Sound, SoundTemporary, IsTemporary, ComesAfter}
use Rattle.typing_rules.specs.RowPromises.{IsMade}
use Rattle.typing_rules.specs.Rows.{taken, taking}
use Rattle.typing_rules.specs.Scope.{Env, NamedEntry, VariableMeaning, Local, Capture, InGuard, variable}
use Rattle.typing_rules.specs.Typed as typing
use Rattle.typing_rules.specs.Written as types
use Rattle.src_ast.specs.Syntax.{Word, Syn, syn, AName, Syns, no_syn, a_syn, MaybeSyn}
use Rattle.typing_rules.proofs.Sound.Fitted.{leaf_ends, same_self}
use Rattle.typing_rules.proofs.Sound.Gives.{◌⋆◌, then_map, bind, weaker, with_ready, obeyed, found, given, after_number, numbered, grows_refl, grows_trans, grows_number, knows_later, items_later}
use Rattle.typing_rules.proofs.Sound.Interned.{interned_sound, made_held}
use Rattle.typing_rules.proofs.Sound.Later.{extends_refl, some_got, alone_later, alone_ready, known_later, ready_later, type_later, is_some_by, is_some_got}
use Rattle.typing_rules.proofs.Sound.Places.{variable_sound, taken_sound, contains_cases}
use Rattle.typing_rules.proofs.Sound.Scopes.{joined_cases, knows_bound}
use Rattle.typing_soundness.specs.Shapes.{is_block, self_first}
use Rattle.typing_soundness.specs.Walks.{Walked}
use Rattle.typing_soundness.proofs.Bodies.Inner.{inner_state, IsGoodBody, new_body_sound, answer_sound, block_shape, words_differ, bound_fresh, bound_types, knows_first, block_holds, closure_found}
use Rattle.typing_soundness.proofs.Bodies.Params.{params_bound, name_holds}
use Rattle.typing_soundness.proofs.Bodies.Types.{IsParamTy, plain_param, written_plain}
use Rattle.typing_soundness.proofs.Bodies.Whole.{closure_whole, value_of}
use Rattle.typing_soundness.proofs.Numbers.Rows.{found_in}
use Rattle.typing_soundness.proofs.Sound.Loops.{bind_walked}
use Rattle.typing_soundness.proofs.Walking.Adding.{walks_none, walks_both, walks_node}
use Rattle.typing_soundness.proofs.Walking.Expressions.{typed_walks}
use Rattle.typing_soundness.proofs.Walking.Params.{params_walk, answer_still, in_closure, from_same, written_still}
use Rattle.typing_soundness.proofs.Walking.Steps.{walk_obeyed, walk_ends}

-- ---- captures

-- uses of variables, and the names that they have inside, which are parts of the closure's value from a number on
abbrev AreCaptures : Env → TypingState → ℕ → Nodes → List NamedEntry → Type 0
AreCaptures env w k no_node [] = Unit {0}
AreCaptures env w k no_node (x ∷ xs) = ⊥
AreCaptures env w k (a_node first rest) [] = ⊥
AreCaptures env w k (a_node first rest) (x ∷ xs) =
    (IsValue env None w first × IsTrue (is_variable (form_of first)) × (ty_of first ≡ x.ty) × (x.meaning ≡ Capture 0 k)) ×
    AreCaptures env w (suc k) rest xs

record IsCaptured (env : Env) (k : ℕ) (earlier : List NamedEntry) (w : TypingState) (c : Nodes × List NamedEntry) : Type 0 where
  new_ : List NamedEntry
  is : c.1 ≡ earlier ++ new_
  are : AreCaptures env w k c.0 new_

meaning_variable : (name : Word) (m : VariableMeaning) → IsTrue (is_variable (meaning_form name m))
meaning_variable name (Local key) = refl
meaning_variable name (Capture closure part) = refl
meaning_variable name (InGuard key) = refl

-- a variable that is taken stays one
abbrev IsVariableOf : TyId → Node → TypingState → Type 0
IsVariableOf ty n t = IsTrue (is_variable (form_of n)) × (ty_of n ≡ ty)

variable_stays : (env : Env) (id : ℕ) (at : Pos) (x : NamedEntry) (t : TypingState) → Walked (IsVariableOf x.ty) (taken env None
    (a_node_of id at x.ty (meaning_form x.name x.meaning)) t)
variable_stays env id at x t =
    walk_obeyed Rule.T07 at (is_copy t.items x.ty || not (is_fixed t.items (in_own_guard env.variables) n || is_dyn
    t.items x.ty)) _ λ _. walk_obeyed Rule.T08 at (not (is_reference t.items x.ty)) _ λ _. walk_ends (
      meaning_variable
          x.name x.meaning,
      refl,
    )
  where
    n : Node
    n = a_node_of id at x.ty (meaning_form x.name x.meaning)

-- what a variable's name gives
abbrev IsNamed : Pos → NamedEntry → Node → TypingState → Type 0
IsNamed at x n t = (id : ℕ) × (n ≡ a_node_of id at x.ty (meaning_form x.name x.meaning))

abbrev named : Word → TyId → ℕ → NamedEntry
named name ty k = record { name = name; ty = ty; meaning = Capture 0 k }

capture_sound : (env : Env) (k : ℕ) (e : Syn) (earlier : List NamedEntry) (s : TypingState) → Knows env s → Gives s (λ w c.
    IsCaptured env k earlier w (a_node c.0 no_node, c.1)) (bodies.capture env k e earlier s)
capture_sound env k (syn at (AName name)) earlier s knows =
    obeyed Rule.T01 at (bodies.is_captured name env.variables) _ λ there.
    obeyed Rule.T02 at (not (bodies.is_captured name earlier)) _ λ new_name.
    found Rule.T01 at (variable env.variables name) _ λ x is.
    bind_walked {P = IsNamed at x} (variable_sound env at x (found_in (λ (y : NamedEntry). bytes_eq y.name name)
    env.variables x is).1 s knows) (walk_ends (s.next_node, refl)) λ p t g d shape.
    bind_walked {P = IsVariableOf x.ty} {f = λ n. pure (n, earlier ++ named name x.ty k ∷ [])} (taken_sound env None p t
    (d t (grows_refl t)) d) (subst (λ q. Walked (IsVariableOf x.ty) (taken env None q t)) (sym shape.1) (variable_stays
    env shape.0 at x t)) λ n u h e is_variable_.
    given _ λ ready w l. record {
      new_ = named name x.ty k ∷ [];
      is = refl;
      are = ((e w l, is_variable_.0, is_variable_.1, refl), tt);
    }
capture_sound env k (syn at _) earlier s knows = record { so = λ ready. tt }

captured_sound : (env : Env) (k : ℕ) (captures : Syns) (earlier : List NamedEntry) (s : TypingState) → Knows env s → Gives s
    (IsCaptured env k earlier) (bodies.captured env k captures earlier s)
captured_sound env k no_syn earlier s knows =
    given (no_node, earlier) λ ready w g. record { new_ = []; is = sym (append-nil earlier); are = tt }
captured_sound env k (a_syn first rest) earlier s knows =
    bind (capture_sound env k first earlier s knows) λ c t g d. bind (captured_sound env (suc k) rest c.1 t (knows_later
    env g knows)) λ cs u h e. given (a_node c.0 cs.0, cs.1) λ ready w l. joined_captures c.0 c.1 cs w (d w (grows_trans
    h l)) (e w l)
  where
    joined_captures : (n : Node) (middle : List NamedEntry) (cs : Nodes × List NamedEntry) (w : TypingState) → IsCaptured env k earlier
        w (a_node n no_node, middle) → IsCaptured env (suc k) middle w cs → IsCaptured env k earlier w (
          a_node n cs.0,
          cs.1,
        )
    joined_captures n middle cs w one more = by one.new_ one.is one.are
      where
        by : (new_ : List NamedEntry) → middle ≡ earlier ++ new_ → AreCaptures env w k (a_node n no_node) new_ → IsCaptured
            env k earlier w (a_node n cs.0, cs.1)
        by [] e are = absurd are
        by (x ∷ []) e are =
            record {
              new_ = x ∷ more.new_;
              is = more.is ∙ (ap (λ xs. xs ++ more.new_) e ∙ append_assoc earlier (x ∷ []) more.new_);
              are = (are.0, more.are);
            }
        by (x ∷ y ∷ ys) e are = absurd are.1

-- ---- a closure that is added

module _ (items : ItemTable) (captures : List TyId) (body : ℕ) where
  abbrev new_def : ClosureDef
  new_def = record { captures = captures; body = body }

  abbrev more : ItemTable
  more = with_closure items new_def

  more_closures : Extends items more
  more_closures = record {
    types = λ n ty h. h;
    closures = λ n def h. slice_get-append_left items.closures (new_def ∷ []) n def h;
    adts = refl;
    traits = refl;
    impls = refl;
    bodies = refl;
  }

  -- what a closure holds
  captured_from : (k : ℕ) (part : TyId) → Contains (captures_of (slice_get more.closures k)) part → Contains
      (captures_of (slice_get items.closures k)) part ⊎ Contains captures part
  captured_from k part has = by (slice_get more.closures k) refl has
    where
      cases : (d : ClosureDef) → (slice_get items.closures k ≡ Some d) ⊎ ((k ≡ length items.closures) × (new_def ≡ d)) →
          Contains d.captures part → Contains (captures_of (slice_get items.closures k)) part ⊎ Contains captures part
      cases d (inl old) has = inl (subst (λ o. Contains (captures_of o) part) (sym old) has)
      cases d (inr new_) has = inr (subst (λ (x : ClosureDef). Contains x.captures part) (sym new_.1) has)

      by : (o : Option ClosureDef) → slice_get more.closures k ≡ o → Contains (captures_of o) part → Contains
          (captures_of (slice_get items.closures k)) part ⊎ Contains captures part
      by None e has = absurd (omega (arith, has.1))
      by (Some d) e has = cases d (slice_get-push_cases items.closures new_def k d e) has

  captured_at : (k n : ℕ) (part : TyId) → slice_get (captures_of (slice_get more.closures k)) n ≡ Some part → (slice_get
      (captures_of (slice_get items.closures k)) n ≡ Some part) ⊎ Contains captures part
  captured_at k n part h = by (slice_get more.closures k) refl h
    where
      cases : (d : ClosureDef) → (slice_get items.closures k ≡ Some d) ⊎ ((k ≡ length items.closures) × (new_def ≡ d)) →
          slice_get d.captures n ≡ Some part → (slice_get (captures_of (slice_get items.closures k)) n ≡ Some part) ⊎
          Contains captures part
      cases d (inl old) h = inl (ap (λ o. slice_get (captures_of o) n) old ∙ h)
      cases d (inr new_) h =
          inr (Contains-slice_get captures n part (ap (λ (x : ClosureDef). slice_get x.captures n) new_.1 ∙ h))

      by : (o : Option ClosureDef) → slice_get more.closures k ≡ o → slice_get (captures_of o) n ≡ Some part →
          (slice_get (captures_of (slice_get items.closures k)) n ≡ Some part) ⊎ Contains captures part
      by None e h = absurd (none-some part h)
      by (Some d) e h = cases d (slice_get-push_cases items.closures new_def k d e) h

  module _ (all : AreReady items) (alone : (ty : TyId) → Contains captures ty → IsAlone items ty) where
    held_more : (id part : TyId) (ty : Ty) → type_at items id ≡ Some ty → Contains (held_by more ty) part → IsAlone
        items part
    held_more id part (Ty.Closure k) = λ at has. by at (captured_from k part has)
      where
        by : type_at items id ≡ Some (Ty.Closure k) → Contains (captures_of (slice_get items.closures k)) part ⊎
            Contains captures part → IsAlone items part
        by at (inl old) = all.held id part (Ty.Closure k) at old
        by at (inr new_) = alone part new_
    held_more id part ty = λ at has. all.held id part ty at has

    one_more : (k variant n : ℕ) (part : TyId) (id : TyId) → type_at items id ≡ Some (Ty.Closure k) → slice_get
        (of_one_variant (captures_of (slice_get more.closures k)) variant) n ≡ Some part → IsAlone items part
    one_more k variant n part id at h = by (variant == 0) refl h
      where
        cases : (variant == 0) ≡ true → (slice_get (captures_of (slice_get items.closures k)) n ≡ Some part) ⊎ Contains
            captures part → IsAlone items part
        cases e (inl old) =
            all.parts id part variant n (ap (option_and_then (λ ty. slice_get (parts_of items ty variant) n)) at ∙ (ap
            (λ b. slice_get (if b then captures_of (slice_get items.closures k) else []) n) e ∙ old))
        cases e (inr new_) = alone part new_

        by : (b : Bool) → (variant == 0) ≡ b → slice_get (if b then captures_of (slice_get more.closures k) else []) n ≡
            Some part → IsAlone items part
        by true e h = cases e (captured_at k n part h)
        by false e h = absurd (none-some part h)

    parts_more : (id part : TyId) (variant n : ℕ) (ty : Ty) → type_at items id ≡ Some ty → slice_get (parts_of more ty
        variant) n ≡ Some part → IsAlone items part
    parts_more id part variant n (Ty.Closure k) = λ at h. one_more k variant n part id at h
    parts_more id part variant n ty =
        λ at h. all.parts id part variant n (ap (option_and_then (λ t. slice_get (parts_of items t variant) n)) at ∙ h)

    -- a closure among types that are there has a lower number
    is_lower : (part : TyId) (j : ℕ) → IsAlone items part → type_at items part ≡ Some (Ty.Closure j) → suc j ≤ length
        items.closures
    is_lower part j h at = there h.0 (same_Some h.0 (Ty.Closure j) (sym h.1 ∙ at)) h.2
      where
        there : (ty : Ty) → ty ≡ Ty.Closure j → IsValueType items ty → suc j ≤ length items.closures
        there ty e v =
            let g = is_some_got (slice_get items.closures j) (subst (IsValueType items) e v) in
            slice_get_within items.closures j g.0 g.1

    after_new : (def : ClosureDef) → new_def ≡ def → ComesAfter items.types (length items.closures) def
    after_new def is = record {
      before = length items.types;
      within = omega arith;
      captures = λ part has. let h = alone part (own part has) in slice_get_within items.types part.0 h.0 h.1;
      captured = λ part j has at. is_lower part j (alone part (own part has)) at;
      lower = λ n j ty part below at has is. is_lower part j (all.held (record { 0 = n }) part ty at (made_held items ty
          part has)) is;
    }
      where
        own : (part : TyId) → Contains def.captures part → Contains captures part
        own part has = subst (λ (x : ClosureDef). Contains x.captures part) (sym is) has

    after_more : (k : ℕ) (def : ClosureDef) → slice_get more.closures k ≡ Some def → ComesAfter items.types k def
    after_more k def at = by (slice_get-push_cases items.closures new_def k def at)
      where
        by : (slice_get items.closures k ≡ Some def) ⊎ ((k ≡ length items.closures) × (new_def ≡ def)) → ComesAfter
            items.types k def
        by (inl old) = all.after k def old
        by (inr new_) = subst (λ n. ComesAfter items.types n def) (sym new_.0) (after_new def new_.1)

    ready_more : AreReady more
    ready_more =
        record {
          begins = all.begins;
          distinct = all.distinct;
          parts_first = all.parts_first;
          held = λ id part ty at has. alone_later more_closures part (held_more id part ty at has);
          parts = λ id part variant n h.
              let g = some_got (λ ty. slice_get (parts_of more ty variant) n) (type_at items id) part h in
              alone_later more_closures part (parts_more id part variant n g.0 g.1 g.2);
          held_fields = λ n part has. alone_later more_closures part (all.held_fields n part has);
          fields = λ n variant k part h. alone_later more_closures part (all.fields n variant k part h);
          inside = λ id to h. let g = all.inside id to h in (ready_later more_closures to g.0, g.1);
          results = λ n sig h. alone_later more_closures sig.result (all.results n sig h);
          methods = λ n k def sig h g. alone_later more_closures sig.result (all.methods n k def sig h g);
          params = λ n sig ty h has. known_later more_closures ty (all.params n sig ty h has);
          method_params = λ n k def sig ty h g has. known_later more_closures ty (all.method_params n k def sig ty h g
              has);
          order = all.order;
          after = after_more;
        }

closure_added_sound : (captures : List TyId) (body : ℕ) (s : TypingState) → ((ty : TyId) → Contains captures ty → IsAlone
    s.items ty) → Gives s (λ w k. slice_get w.items.closures k ≡ Some (record { captures = captures; body = body }))
    (closure_added captures body s)
closure_added_sound captures body s alone =
    record {
      so = λ ready. (
        record {
          items = more_closures s.items captures body;
          ready = λ all. ready_more s.items captures body all alone;
          breaks = λ b h. h;
          numbers = omega arith;
          below = λ h b has. let is = h b has in (is.0, alone_later (more_closures s.items captures body) b.1 is.1);
          made = λ b h. inl h;
        },
        λ w g. g.items.closures (length s.items.closures) _ (slice_get-last s.items.closures (record {
          captures = captures;
          body = body;
        })),
      );
    }

closure_made : (items : ItemTable) (k : ℕ) (def : ClosureDef) → slice_get items.closures k ≡ Some def → ((ty : TyId) →
    Contains def.captures ty → IsAlone items ty) → IsMade items (Ty.Closure k)
closure_made items k def at alone =
    record {
      held = λ part has. alone part (subst (λ o. Contains (captures_of o) part) at has);
      parts = λ part variant n is. by part n (variant == 0) (subst (λ o. slice_get (of_one_variant (captures_of o)
          variant) n ≡ Some part) at is);
      inside = λ to is. absurd (none-some to is);
    }
  where
    by : (part : TyId) (n : ℕ) (b : Bool) → slice_get (if b then def.captures else []) n ≡ Some part → IsAlone items
        part
    by part n true h = alone part (Contains-slice_get def.captures n part h)
    by part n false h = absurd (none-some part h)

-- ---- the body of a closure

pub types_kept : (f : ℕ → ℕ) (ps : List ParamTree) → map (λ (p : ParamTree). p.ty) (map (param_renumbered f) ps) ≡ map (λ (p
    : ParamTree). p.ty) ps
types_kept f [] = refl
types_kept f (p ∷ ps) = ap (λ tys. p.ty ∷ tys) (types_kept f ps)

pub both_walk : {A : Type 0} {P Q : A → TypingState → Type 0} (r : Result (A × TypingState) Broken) → Walked P r → Walked Q r → Walked
    (λ a t. P a t × Q a t) r
both_walk (Ok a) h k = record { so = (h.so, k.so) }
both_walk (Err e) h k = record { so = tt }

-- what is known of a capture's name inside
abbrev IsPartOf : ItemTable → List NamedEntry → NamedEntry → Type 0
IsPartOf items captures x =
    (j : ℕ) × (x.meaning ≡ Capture 0 j) × (slice_get (bodies.types_of captures) j ≡ Some x.ty) × IsReady items x.ty

module _ (env : Env) (too_many : Rule) (at : Pos) (number k : ℕ) (ty : TyId) (captures : List NamedEntry) (params : Syns) (answer : MaybeSyn)
    (body : Syn) (s : TypingState) (items : KnowsItems env.kinds env.self_adt s.items) (is : type_at s.items ty ≡ Some
    (Ty.Closure k)) (def : slice_get s.items.closures k ≡ Some (record {
      captures = bodies.types_of captures;
      body = number;
    })) (parts : (x : NamedEntry) → Contains captures x → IsPartOf s.items captures x) (shape : IsTrue (is_block body)) (first :
    IsTrue (self_first params)) (good : (inner : Env) → Sound inner (typing.typed inner body)) where
  abbrev outside : Env
  outside = bodies.inside_closure env captures

  abbrev start : TypingState
  start = numbered (inner_state s)

  abbrev self_pattern : Node
  self_pattern = used (taking s.items ty) (a_node_of 0 at ty (tree.Binding []))

  captured_only : (x : NamedEntry) → Contains outside.variables x → IsPartOf s.items captures x
  captured_only x has = by (joined_cases captures [] x has)
    where
      by : Contains captures x ⊎ Contains [] x → IsPartOf s.items captures x
      by (inl h) = parts x h
      by (inr none) = absurd (omega (arith, none.1))

  known_first : (a : TyId) → Knows (record outside { loops = []; answer = a }) start
  known_first a =
      knows_first outside a start (λ x has. let p = captured_only x has in (p.3, subst (IsBelow 1) (sym p.1) tt)) (λ b
      none. absurd (omega (arith, none.1))) items

  -- the closure's value is around
  abbrev value_spot : TypingSpot
  value_spot =
      record { entries = []; closure = Some (value_of (record { pattern = self_pattern; ty = ty })); loops = [] }

  stands_first : (a : TyId) (w : TypingState) → Grows start w → AreClosures w.items → Stands (record outside {
    loops = [];
    answer = a;
  }) w value_spot
  stands_first a w g heads =
      record {
        variables = λ x has. means x (captured_only x has);
        loops = λ b none. absurd (omega (arith, none.1));
        closures = heads;
      }
    where
      part_at : (j : ℕ) (t : TyId) → slice_get (bodies.types_of captures) j ≡ Some t → field_ty w.items ty 0 j ≡ Some t
      part_at j t h =
          ap (option_and_then (λ u. slice_get (parts_of w.items u 0) j)) (type_later g.items ty (Ty.Closure k) is) ∙ (ap
          (λ o. slice_get (captures_of o) j) (g.items.closures k _ def) ∙ h)

      means : (x : NamedEntry) → IsPartOf s.items captures x → Means w.items value_spot x.ty x.meaning
      means x p =
          subst (Means w.items value_spot x.ty) (sym p.1) (
            value_of (record { pattern = self_pattern; ty = ty }),
            refl,
            refl,
            part_at p.0 x.ty p.2,
          )

  closure_inner : Gives (inner_state s) IsGoodBody (in_closure env too_many at number ty captures params answer (λ inner.
      typing.typed inner body) (inner_state s))
  closure_inner =
      with_ready λ all. after_number (
      bind_walked (params_bound outside (types.written (bodies.all_rules env)) (λ p t. weaker (λ w x. IsParamTy w.items
      x) (written_plain (bodies.all_rules env) refl p t) λ x w r g h. plain_param w.items x h) params first start)
      (params_walk outside (types.written (bodies.all_rules env)) (λ p t. written_still (bodies.all_rules env) p t)
      params [] start) λ ps t g d w1.
      bind_walked (answer_sound env answer t) (answer_still env answer t) λ a u h e w2.
      let gu = grows_trans g h in
      let ku = knows_bound (record outside { loops = []; answer = a }) u start.next_node ps.1 (knows_later (record
      outside { loops = []; answer = a }) gu (known_first a)) (bound_fresh start.next_node u ps (d u h)) (bound_types
      start.next_node u ps (d u h)) in
      bind_walked (good (bodies.inside outside a ps.1) (Some a) u ku) (both_walk (typing.typed (bodies.inside outside a
      ps.1) body (Some a) u) (typed_walks (bodies.inside outside a ps.1) body (Some a) u) (block_shape (bodies.inside
      outside a ps.1) body shape (Some a) u)) λ b v i f w3.
      obeyed too_many at (nat_le (length (numbers_of (bodies.body_of number (record { pattern = self_pattern; ty = ty }
      ∷ ps.0) a b))) 2048) _ λ few.
      given _ λ ready w l all_w heads.
      let gw = grows_trans gu (grows_trans i l) in
      let dw = d w (grows_trans h (grows_trans i l)) in
      λ head at_head tys result.
      let found_def = closure_found w.items k _ (gw.items.closures k _ def) in
      closure_whole w.items number self_pattern ty ps.0 a b [] found_def.0 (record {
        params = (
          (
            name_holds (inner_state s) w 0 at [] ty (Ty.Closure k) all (grows_trans (grows_number (inner_state s)) gw)
                (Ty.Closure k, is, is_some_by (slice_get s.items.closures k) _ def) is refl,
            inr (inr ([], refl)),
          ),
          dw.params,
        );
        once = (walks_both (walks_both (walks_node at ty (Some (taking s.items ty)) (tree.Binding []) (walks_none
            start)) w1) (from_same w2 w3.0)).once;
        few = few;
        block = w3.1;
      }) found_def.1 refl (words_differ start.next_node w ps dw) (block_holds outside a start w start.next_node (Some
      (value_of (record { pattern = self_pattern; ty = ty }))) ps b (known_first a) (omega arith) dw (stands_first a w
      gw heads) (f w l)) head (tys ∙ types_kept _ (record { pattern = self_pattern; ty = ty } ∷ ps.0)) result)

-- ---- the whole

captured_facts : (items : ItemTable) (env : Env) (w : TypingState) (k : ℕ) (ns : Nodes) (xs : List NamedEntry) → AreCaptures env w k
    ns xs → (x : NamedEntry) → Contains xs x → (j : ℕ) × (x.meaning ≡ Capture 0 (k + j)) × (slice_get (bodies.types_of xs) j
    ≡ Some x.ty) × IsAlone w.items x.ty
captured_facts items env w k no_node [] are x has = absurd (omega (arith, has.1))
captured_facts items env w k no_node (y ∷ ys) are x has = absurd are
captured_facts items env w k (a_node first rest) [] are x has = absurd are
captured_facts items env w k (a_node first rest) (y ∷ ys) are x has =
    by (contains_cases y ys x has) (λ more. captured_facts items env w (suc k) rest ys are.1 x more)
  where
    by : (y ≡ x) ⊎ Contains ys x → (Contains ys x → (j : ℕ) × (x.meaning ≡ Capture 0 (suc k + j)) × (slice_get
        (bodies.types_of ys) j ≡ Some x.ty) × IsAlone w.items x.ty) → (j : ℕ) × (x.meaning ≡ Capture 0 (k + j)) ×
        (slice_get (bodies.types_of (y ∷ ys)) j ≡ Some x.ty) × IsAlone w.items x.ty
    by (inl same) on = (
      0,
      ap (λ (z : NamedEntry). z.meaning) (sym same) ∙ (are.0.3 ∙ ap (Capture 0) (omega arith)),
      ap (λ (z : NamedEntry). Some z.ty) same,
      subst (IsAlone w.items) (are.0.2 ∙ ap (λ (z : NamedEntry). z.ty) same) are.0.0.alone,
    )
    by (inr more) on = let f = on more in (suc f.0, f.1 ∙ ap (Capture 0) (omega arith), f.2, f.3)

-- the types of captures stand alone
captured_alone : (env : Env) (w : TypingState) (k : ℕ) (ns : Nodes) (xs : List NamedEntry) → AreCaptures env w k ns xs → (ty : TyId)
    → Contains (bodies.types_of xs) ty → IsAlone w.items ty
captured_alone env w k no_node [] are ty has = absurd (omega (arith, has.1))
captured_alone env w k no_node (y ∷ ys) are ty has = absurd are
captured_alone env w k (a_node first rest) [] are ty has = absurd are
captured_alone env w k (a_node first rest) (y ∷ ys) are ty has =
    by (contains_cases y.ty (bodies.types_of ys) ty has) (λ more. captured_alone env w (suc k) rest ys are.1 ty more)
  where
    by : (y.ty ≡ ty) ⊎ Contains (bodies.types_of ys) ty → (Contains (bodies.types_of ys) ty → IsAlone w.items ty) →
        IsAlone w.items ty
    by (inl same) on = subst (IsAlone w.items) (are.0.2 ∙ same) are.0.0.alone
    by (inr more) on = on more

captures_hold : (env : Env) (w : TypingState) (p : TypingSpot) → Stands env w p → (k : ℕ) (ns : Nodes) (xs : List NamedEntry) →
    AreCaptures env w k ns xs → Holds (captured (at_spot w.items env.answer p) (bodies.types_of xs) ns)
captures_hold env w p stands k no_node [] are = refl
captures_hold env w p stands k no_node (x ∷ xs) are = absurd are
captures_hold env w p stands k (a_node first rest) [] are = absurd are
captures_hold env w p stands k (a_node first rest) (x ∷ xs) are =
    are.0.0.holds p stands ⋆ and_true (is_variable (form_of first)) _ are.0.1 (subst (λ t. IsTrue (is_same x.ty t)) (sym
    are.0.2) (same_self x.ty.0)) ⋆ captures_hold env w p stands (suc k) rest xs are.1

pub grows_body : (s : TypingState) → Grows s (record s { next_body = suc s.next_body })
grows_body s = record {
  items = extends_refl s.items;
  ready = λ h. h;
  breaks = λ b h. h;
  numbers = omega arith;
  below = λ h. h;
  made = λ b h. inl h;
}

pub closure_sound : (env : Env) (at : Pos) (captures params : Syns) (answer : MaybeSyn) (body : Syn) → IsTrue (is_block
    body) → IsTrue (self_first params) → ((inner : Env) → Sound inner (typing.typed inner body)) → SoundTemporary env
    (bodies.closure env at captures params answer (λ inner. typing.typed inner body))
closure_sound env at captures params answer body shape first good expected s k =
    after_number (after_body (
    bind (captured_sound env 0 captures [] s' (knows_later env (grows_trans (grows_number s) (grows_body (numbered s)))
    k)) λ caps t g d.
    let now = as_captures caps t (d t (grows_refl t)) in
    let kt = knows_later env g (knows_later env (grows_trans (grows_number s) (grows_body (numbered s))) k) in
    bind (closure_added_sound (bodies.types_of caps.1) s.next_body t (captured_alone env t 0 caps.0 caps.1 now)) λ n t'
    g' def.
    let def_now = def t' (grows_refl t') in
    bind (interned_sound (Ty.Closure n) t' (closure_made t'.items n _ def_now (λ x has. alone_later g'.items x
    (captured_alone env t 0 caps.0 caps.1 now x has)))) λ ty u h is.
    bind (new_body_sound (in_closure env (bodies.too_many_rule u.items expected ty) at s.next_body ty caps.1 params answer (λ inner. typing.typed inner body)) u
    (closure_inner env (bodies.too_many_rule u.items expected ty) at s.next_body n ty caps.1 params answer body u (items_later (grows_trans g' h).items kt.items)
    (is u (grows_refl u)) (def u h) (λ x has. let f = captured_facts t.items env t 0 caps.0 caps.1 now x has in (
      f.0,
      f.1 ∙ ap (Capture 0) (omega arith),
      f.2,
      alone_ready u.items x.ty (alone_later (grows_trans g' h).items x.ty f.3),
    )) shape first good)) λ b v i e.
    leaf_ends env expected v s.next_node at ty (tree.Closure n caps.0) refl refl (λ w p. refl) λ w ready l.
    let gw = grows_trans i l in
    let def_w = def w (grows_trans h gw) in (
      (Ty.Closure n, is w gw, is_some_by (slice_get w.items.closures n) _ def_w),
      λ p stands.
          subst (λ o. IsTrue (option_map_or (λ m. m == n) (option_and_then closure_in o) false)) (sym (is w gw))
          (same_self n) ⋆ subst (λ o. Holds (some o (λ (x : ClosureDef). captured (at_spot w.items env.answer p)
          x.captures caps.0))) (sym def_w) (captures_hold env w p stands 0 caps.0 caps.1 (as_captures caps w (d w
          (grows_trans g' (grows_trans h gw))))),
    )))
  where
    s' : TypingState
    s' = record (numbered s) { next_body = suc s.next_body }

    as_captures : (caps : Nodes × List NamedEntry) (w : TypingState) → IsCaptured env 0 [] w caps → AreCaptures env w 0 caps.0
        caps.1
    as_captures caps w c = subst (AreCaptures env w 0 caps.0) (sym c.is) c.are

    after_body : {r : Result (Node × TypingState) Broken} → Gives s' (IsTemporary env expected) r → Gives (numbered s)
        (IsTemporary env expected) r
    after_body {r} h =
        record { so = λ ready. then_map r (h.so ready) λ b t g. (grows_trans (grows_body (numbered s)) g.0, g.1) }
