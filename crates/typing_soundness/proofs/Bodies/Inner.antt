-- Bodies of their own, of functions and of closures.
use Rattle.std.proofs.Common.{◌≡◌, ℕ, zero, suc, ◌≤◌, Bool, true, false, ◌==◌, if◌then◌else◌, List, [], ◌∷◌, ◌++◌, slice_get, Option, Some, Result, Ok, Err, IsTrue, Contains, ◌⊎◌, inl, inr, refl, ap, sym, subst, ◌∙◌, arith}
use Rattle.std.specs.List.{find}
use Rattle.std.proofs.lemmas.List.{append-nil}
use Rattle.std.proofs.lemmas.List.Elements.{Contains-append_cases}
use Rattle.std.proofs.lemmas.Option.{none-some, same_Some}
use Rattle.mir_base.specs.declared.rule.Rule.{Rule}
use Rattle.mir_ty.specs.declared.def.ClosureDef.{ClosureDef}
use Rattle.mir_ty.specs.declared.ty.TyId.{TyId}
use Rattle.mir_ty.specs.ItemTable.{ItemTable}
use Rattle.typed_tree.specs.Tree as tree
use Rattle.typed_tree.specs.Tree.{Node, node, ParamTree, BodyTree, Block}
use Rattle.well_typed.specs.Claim.{Holds}
use Rattle.well_typed.specs.Names.{are_distinct}
use Rattle.well_typed.specs.Nodes.{typed}
use Rattle.well_typed.specs.Places.{InScope, Wanted, form_of}
use Rattle.well_typed.specs.Program.{closure_with}
use Rattle.typing_rules.specs.Bodies as bodies
use Rattle.typing_rules.specs.Check.{Check, TypingState, Broken, with_body, in_new_body, put_before, within_body}
use Rattle.typing_rules.specs.Places.{unit, agrees}
use Rattle.typing_rules.specs.Promises.{Extends, IsBelow, IsReady, IsAlone, AreReady, AreClosures, AreBreaks, IsBodyIn, IsWhole, Grows, Gives, TypingSpot, at_spot, Stands, Knows, KnowsItems, IsValue, AreFresh, AreReadyTypes, are_bound}
use Rattle.typing_rules.specs.Rows.{block_ty}
use Rattle.typing_rules.specs.Scope.{Env, NamedEntry, with_variables}
use Rattle.typing_rules.specs.Typed as typing
use Rattle.src_ast.specs.Syntax.{Syn, syn, AnExpression, Braces, MaybeSyn, nothing, just}
use Rattle.typing_rules.proofs.Sound.Bindings.{words}
use Rattle.typing_rules.proofs.Sound.Fitted.{same_self}
use Rattle.typing_rules.proofs.Sound.Gives.{numbered, with_ready, given}
use Rattle.typing_rules.proofs.Sound.Later.{alone_later}
use Rattle.typing_rules.proofs.Sound.Operators.{as_wanted, unit_ready}
use Rattle.typing_rules.proofs.Sound.Places.{contains_cases}
use Rattle.typing_rules.proofs.Sound.Scopes.{behind, bound_stands}
use Rattle.typing_rules.proofs.Sound.Written.{written_sound}
use Rattle.typing_soundness.specs.Shapes.{is_block}
use Rattle.typing_soundness.specs.Walks.{Walked}
use Rattle.typing_soundness.proofs.Bodies.Params.{AreBound, names_same, entries_same}
use Rattle.typing_soundness.proofs.Bodies.Whole.{names_in, entries_of_params, body_context}
use Rattle.typing_soundness.proofs.Walking.Steps.{walk, walk_obeyed, walk_ends}

-- ---- a walk of its own

-- items that a later state may have
abbrev with_items : TypingState → ItemTable → TypingState
with_items t later = record t { items = later }

grows_items : (t : TypingState) (later : ItemTable) → Extends t.items later → AreReady later → Grows t (with_items t later)
grows_items t later e ready = record {
  items = e;
  ready = λ h. ready;
  breaks = λ b h. h;
  numbers = omega arith;
  below = λ h b has. let is = h b has in (is.0, alone_later e b.1 is.1);
  made = λ body h. inl h;
}

abbrev pub inner_state : TypingState → TypingState
inner_state s = record s { bodies = []; next_node = 0; breaks = [] }

-- a body is well typed among later items
abbrev pub IsGoodBody : TypingState → BodyTree → Type 0
IsGoodBody w body = AreReady w.items → AreClosures w.items → IsBodyIn w.items body

pub new_body_sound : (check : Check BodyTree) (s : TypingState) → Gives (inner_state s) IsGoodBody (check (inner_state s)) →
    Gives s (λ w b. Unit {0}) (with_body (λ b. b) (in_new_body check) s)
new_body_sound check s h = by (check (inner_state s)) h
  where
    whole : (b : BodyTree) (t : TypingState) → ((w : TypingState) → Grows t w → IsGoodBody w b) → IsWhole t.items b
    whole b t good later e ready heads = good (with_items t later) (grows_items t later e ready) ready heads

    by : (r : Result (BodyTree × TypingState) Broken) → Gives (inner_state s) IsGoodBody r → Gives s (λ w b. Unit {0})
        (put_before s.bodies (λ b. b) (within_body (record s { bodies = [] }) r))
    by (Ok a) h = record {
      so = λ ready. let g = h.so ready in (
        record {
          items = g.0.items;
          ready = g.0.ready;
          breaks = λ b has. has;
          numbers = omega arith;
          below = λ k b has. let is = k b has in (is.0, alone_later g.0.items b.1 is.1);
          made = λ body has. made a.0 a.1 g.0 (whole a.0 a.1 g.1) body (Contains-append_cases s.bodies (a.0 ∷
              a.1.bodies) body has);
        },
        λ w l. tt,
      );
    }
      where
        inner : (t : TypingState) → Grows (inner_state s) t → (body : BodyTree) → Contains [] body ⊎ IsWhole t.items body →
            Contains s.bodies body ⊎ IsWhole t.items body
        inner t g body (inl none) = absurd (omega (arith, none.1))
        inner t g body (inr is) = inr is

        first : (b : BodyTree) (t : TypingState) → Grows (inner_state s) t → IsWhole t.items b → (body : BodyTree) → (b ≡
            body) ⊎ Contains t.bodies body → Contains s.bodies body ⊎ IsWhole t.items body
        first b t g is body (inl same) = inr (subst (IsWhole t.items) same is)
        first b t g is body (inr more) = inner t g body (g.made body more)

        made : (b : BodyTree) (t : TypingState) → Grows (inner_state s) t → IsWhole t.items b → (body : BodyTree) → Contains
            s.bodies body ⊎ Contains (b ∷ t.bodies) body → Contains s.bodies body ⊎ IsWhole t.items body
        made b t g is body (inl was) = inl was
        made b t g is body (inr more) = first b t g is body (contains_cases b t.bodies body more)
    by (Err e) h = record { so = λ ready. tt }

-- ---- the result and the block

pub answer_sound : (env : Env) (answer : MaybeSyn) (s : TypingState) → Gives s (λ w t. IsAlone w.items t) (bodies.answer_of env
    answer s)
answer_sound env nothing s = with_ready λ all. given unit λ ready w g. unit_ready w.items (g.ready all)
answer_sound env (just ty) s = written_sound (bodies.all_rules env) refl ty s

-- a block in braces is typed as a block
abbrev pub IsBlock : Node → Type 0
IsBlock n = (statements : tree.Nodes) × (tail : tree.MaybeNode) × (form_of n ≡ Block statements tail)

pub block_shape : (env : Env) (e : Syn) → IsTrue (is_block e) → (expected : Option TyId) (s : TypingState) → Walked (λ n t.
    IsBlock n) (typing.typed env e expected s)
block_shape env (syn at (AnExpression (Braces statements tail))) h expected s =
    walk (any (typing.typed_all env statements (numbered s))) λ done t _. walk (any (typing.typed_maybe done.2 tail expected
    t)) λ last u _. walk_obeyed Rule.T03 at (agrees u.items expected (block_ty last done.1)) _ λ _. walk_ends (
      done.0,
      last,
      refl,
    )
  where
    any : {A : Type 0} (r : Result (A × TypingState) Broken) → Walked (λ a t. Unit {0}) r
    any (Ok a) = record { so = tt }
    any (Err e) = record { so = tt }
block_shape env (syn at _) h expected s = absurd (let no_ : IsTrue false = h in cc)

-- ---- names of parameters

pub words_differ : (n : ℕ) (w : TypingState) (ps : List ParamTree × List NamedEntry) → AreBound [] n w ps → IsTrue (are_distinct
    (names_in ps.0))
words_differ n w ps is =
    subst (λ ws. IsTrue (are_distinct ws)) (sym (names_same ps.0 ∙ is.binds.names)) (subst (λ xs. IsTrue (are_distinct
    (words xs))) is.binds.is (is.binds.distinct refl))

-- the entries of parameters are those that their names mean
pub bound_entries : (n : ℕ) (w : TypingState) (ps : List ParamTree × List NamedEntry) → AreBound [] n w ps → are_bound false ps.1
    ++ [] ≡ entries_of_params ps.0
bound_entries n w ps is =
    append-nil (are_bound false ps.1) ∙ (ap (are_bound false) is.binds.is ∙ (sym is.binds.entries ∙ sym (entries_same
    ps.0)))

pub bound_fresh : (n : ℕ) (w : TypingState) (ps : List ParamTree × List NamedEntry) → AreBound [] n w ps → AreFresh n ps.1
    w.next_node
bound_fresh n w ps is = subst (λ xs. AreFresh n xs w.next_node) (sym is.binds.is) is.binds.fresh

pub bound_types : (n : ℕ) (w : TypingState) (ps : List ParamTree × List NamedEntry) → AreBound [] n w ps → AreReadyTypes w.items
    ps.1
bound_types n w ps is = subst (AreReadyTypes w.items) (sym is.binds.is) is.binds.types

-- ---- the block of a body

-- what is known before parameters, in a walk of its own
pub knows_first : (env : Env) (answer : TyId) (s : TypingState) → ((x : NamedEntry) → Contains env.variables x →
    IsReady s.items x.ty × IsBelow s.next_node x.meaning) → AreBreaks s → KnowsItems
    env.kinds env.self_adt s.items → Knows (record env { loops = []; answer = answer }) s
knows_first env answer s each breaks items = record {
  types = λ x has. (each x has).0;
  keys = λ x has. (each x has).1;
  loops = λ a has. absurd (omega (arith, has.1));
  breaks = breaks;
  items = items;
}

-- in a later state the block is well typed where the entries of the parameters and the closure's value are around
pub block_holds : (env : Env) (answer : TyId) (s w : TypingState) (n : ℕ) (closure : Option InScope) (ps : List ParamTree ×
    List NamedEntry) (b : Node) → Knows (record env { loops = []; answer = answer }) s → s.next_node ≤ n → AreBound [] n w ps
    → Stands (record env { loops = []; answer = answer }) w (record { entries = []; closure = closure; loops = [] }) →
    IsValue (with_variables ps.1 (record env { loops = []; answer = answer })) (Some answer) w b → Holds (typed
    (body_context w.items closure ps.0 answer) (Wanted answer) b)
block_holds env answer s w n closure ps b k from is stands v =
    subst (λ es. Holds (typed (record {
      items = w.items;
      entries = es;
      closure = closure;
      loops = [];
      answer = answer;
    }) (Wanted answer) b)) (bound_entries n w ps is) (as_wanted (at_spot w.items answer spot) answer b (v.holds spot
    (bound_stands (record env { loops = []; answer = answer }) s w (record {
      entries = [];
      closure = closure;
      loops = [];
    }) n w.next_node ps.1 k from (bound_fresh n w ps is) stands)) v.fit)
  where
    spot : TypingSpot
    spot = behind (are_bound false ps.1) (record { entries = []; closure = closure; loops = [] })

-- a closure with a body is found by its number
pub closure_found : (items : ItemTable) (k : ℕ) (def : ClosureDef) → slice_get items.closures k ≡ Some def → (other :
    ClosureDef) × (closure_with items def.body ≡ Some other)
closure_found items k def at = there items.closures k at
  where
    later : (d : ClosureDef) (ds : List ClosureDef) (c : Bool) → ((other : ClosureDef) × (find (λ (x : ClosureDef).
        x.body == def.body) ds ≡ Some other)) → (other : ClosureDef) × ((if c then Some d else find (λ (x : ClosureDef).
        x.body == def.body) ds) ≡ Some other)
    later d ds true g = (d, refl)
    later d ds false g = g

    first : (d : ClosureDef) (ds : List ClosureDef) → d ≡ def → (other : ClosureDef) × ((if d.body == def.body then Some
        d else find (λ (x : ClosureDef). x.body == def.body) ds) ≡ Some other)
    first d ds e = (
      d,
      ap (λ c. if c then Some d else find (λ (x : ClosureDef). x.body == def.body) ds) (subst (λ (x : ClosureDef).
          IsTrue (x.body == def.body)) (sym e) (same_self def.body)),
    )

    there : (defs : List ClosureDef) (k : ℕ) → slice_get defs k ≡ Some def → (other : ClosureDef) × (find (λ (x :
        ClosureDef). x.body == def.body) defs ≡ Some other)
    there [] k e = absurd (none-some def e)
    there (d ∷ ds) zero e = first d ds (same_Some d def e)
    there (d ∷ ds) (suc k) e = later d ds (d.body == def.body) (there ds k e)
