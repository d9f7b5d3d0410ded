-- Bodies of functions and methods.
use Rattle.std.proofs.Common.{◌≡◌, ℕ, suc, ◌==◌, nat_le, List, [], ◌∷◌, map, length, slice_get, Option, Some, None, Result, IsTrue, Contains, refl, ap, sym, ◌∙◌, arith}
use Rattle.std.proofs.lemmas.Bool.{eqb-true}
use Rattle.std.proofs.lemmas.Option.{none-some, same_Some}
use Rattle.mir_base.specs.declared.place_in_text.Pos.{Pos}
use Rattle.mir_base.specs.declared.rule.Rule.{Rule}
use Rattle.mir_ty.specs.declared.def.ClosureDef.{ClosureDef}
use Rattle.mir_ty.specs.declared.def.Sig.{Sig}
use Rattle.mir_ty.specs.declared.ty.Ty.{Ty}
use Rattle.mir_ty.specs.declared.ty.TyId.{TyId}
use Rattle.mir_ty.specs.ItemTable.{ItemTable, type_at}
use Rattle.mir_ty.proofs.ListLemmas.{slice_get-Contains}
use Rattle.typed_tree.specs.Nodes.{numbers_of}
use Rattle.typed_tree.specs.Tree.{ParamTree, BodyTree}
use Rattle.well_typed.specs.Claim.{Holds}
use Rattle.well_typed.specs.Program.{closure_with}
use Rattle.well_typed.specs.Types.{closure_in}
use Rattle.typing_rules.specs.Bodies as bodies
use Rattle.typing_rules.specs.Check.{Check, TypingState, Broken, ◌>>=◌}
use Rattle.typing_rules.specs.Promises.{AreClosures, Gives, Stands, Knows, KnowsItems, Sound}
use Rattle.typing_rules.specs.Rows.{Typer}
use Rattle.typing_rules.specs.Scope.{Env, NamedEntry}
use Rattle.typing_rules.specs.Typed as typing
use Rattle.typing_rules.specs.Written as types
use Rattle.src_ast.specs.Syntax.{Syn, Syns, MaybeSyn}
use Rattle.typing_rules.proofs.Sound.Gives.{obeyed, given, then_map, grows_trans, knows_later}
use Rattle.typing_rules.proofs.Sound.Scopes.{knows_bound}
use Rattle.typing_soundness.specs.Shapes.{shaped, is_block, self_first}
use Rattle.typing_soundness.proofs.Bodies.Closures.{both_walk, types_kept, grows_body, closure_sound}
use Rattle.typing_soundness.proofs.Bodies.Inner.{inner_state, IsGoodBody, new_body_sound, answer_sound, block_shape, words_differ, bound_fresh, bound_types, knows_first, block_holds}
use Rattle.typing_soundness.proofs.Bodies.Params.{FirstPlain, params_bound}
use Rattle.typing_soundness.proofs.Bodies.Types.{written_param_sound}
use Rattle.typing_soundness.proofs.Bodies.Whole.{function_whole}
use Rattle.typing_soundness.proofs.Numbers.Rows.{found_in}
use Rattle.typing_soundness.proofs.Sound.Expressions.{typed_sound}
use Rattle.typing_soundness.proofs.Sound.Loops.{bind_walked}
use Rattle.typing_soundness.proofs.Walking.Adding.{walks_both}
use Rattle.typing_soundness.proofs.Walking.Expressions.{typed_walks}
use Rattle.typing_soundness.proofs.Walking.Params.{params_walk, answer_still, written_param_still, from_same}

-- what is typed is well typed
pub expression_sound : (env : Env) (e : Syn) → Holds (shaped e) → Sound env (typing.typed env e)
expression_sound env e h = typed_sound closure_sound env e h

-- a body whose first parameter is no closure is the body of none
no_closure_body : (items : ItemTable) (number : ℕ) (head : Sig) (ps : List ParamTree) → AreClosures items → slice_get
    items.bodies number ≡ Some head → head.params ≡ map (λ (p : ParamTree). p.ty) ps → FirstPlain items ps →
    closure_with items number ≡ None
no_closure_body items number head ps heads at tys first = by (closure_with items number) refl
  where
    begins : (ps : List ParamTree) → FirstPlain items ps → (self : TyId) (rest : List TyId) (k : ℕ) → map (λ (p :
        ParamTree). p.ty) ps ≡ self ∷ rest → type_at items self ≡ Some (Ty.Closure k) → ⊥
    begins [] first self rest k e is = none-some self (ap (λ (xs : List TyId). slice_get xs 0) e)
    begins (p ∷ ps) first self rest k e is =
        let same : p.ty ≡ self = same_Some p.ty self (ap (λ (xs : List TyId). slice_get xs 0) e) in
        none-some k (sym first.3 ∙ ap closure_in (same_Some first.0 (Ty.Closure k) (sym first.1 ∙ (ap (type_at items)
        same ∙ is))))

    by : (o : Option ClosureDef) → closure_with items number ≡ o → o ≡ None
    by None e = refl
    by (Some def) e =
        let f = found_in (λ (d : ClosureDef). d.body == number) items.closures def e in
        let b = heads f.1.0 def head (slice_get-Contains items.closures def f.1) (ap (slice_get items.bodies) (eqb-true
        def.body number f.0) ∙ at) in
        absurd (begins ps first b.0 b.1 f.1.0 (sym tys ∙ b.2) b.3)

-- the body of a function, in a walk of its own
abbrev pub in_function : Env → Pos → ℕ → Syns → MaybeSyn → (Env → Typer) → Check BodyTree
in_function env at n params answer block = do
  ps ← bodies.params_of env (types.written_param (bodies.all_rules env)) params []
  ty ← bodies.answer_of env answer
  b ← block (bodies.inside env ty ps.1) (Some ty)
  bodies.within_limit Rule.T19 at (bodies.body_of n ps.0 ty b)

module _ (env : Env) (at : Pos) (number : ℕ) (params : Syns) (answer : MaybeSyn) (body : Syn) (s : TypingState) (items :
    KnowsItems env.kinds env.self_adt s.items) (bare : (x : NamedEntry) → Contains env.variables x → ⊥) (shape : IsTrue
    (is_block body)) (first : IsTrue (self_first params)) (h : Holds (shaped body)) where
  known_first : (a : TyId) → Knows (record env { loops = []; answer = a }) (inner_state s)
  known_first a =
      knows_first env a (inner_state s) (λ x has. absurd (bare x has)) (λ b none. absurd (omega (arith, none.1))) items

  stands_first : (a : TyId) (w : TypingState) → AreClosures w.items → Stands (record env { loops = []; answer = a }) w (record
      { entries = []; closure = None; loops = [] })
  stands_first a w heads =
      record {
        variables = λ x has. absurd (bare x has);
        loops = λ b none. absurd (omega (arith, none.1));
        closures = heads;
      }

  function_inner : Gives (inner_state s) IsGoodBody (in_function env at number params answer (λ inner. typing.typed inner
      body) (inner_state s))
  function_inner =
      bind_walked (params_bound env (types.written_param (bodies.all_rules env)) (λ p t. written_param_sound
      (bodies.all_rules env) refl p t) params first (inner_state s)) (params_walk env (types.written_param
      (bodies.all_rules env)) (λ p t. written_param_still (bodies.all_rules env) p t) params [] (inner_state s)) λ ps t
      g d w1.
      bind_walked (answer_sound env answer t) (answer_still env answer t) λ a u h' e w2.
      let gu = grows_trans g h' in
      let ku = knows_bound (record env { loops = []; answer = a }) u 0 ps.1 (knows_later (record env {
        loops = [];
        answer = a;
      }) gu (known_first a)) (bound_fresh 0 u ps (d u h')) (bound_types 0 u ps (d u h')) in
      bind_walked (expression_sound (bodies.inside env a ps.1) body h (Some a) u ku) (both_walk (typing.typed
      (bodies.inside env a ps.1) body (Some a) u) (typed_walks (bodies.inside env a ps.1) body (Some a) u) (block_shape
      (bodies.inside env a ps.1) body shape (Some a) u)) λ b v i f w3.
      obeyed Rule.T19 at (nat_le (length (numbers_of (bodies.body_of number ps.0 a b))) 2048) _ λ few.
      given _ λ ready w l all_w heads.
      let dw = d w (grows_trans h' (grows_trans i l)) in
      λ head at_head tys result.
      let kept = tys ∙ types_kept _ ps.0 in
      function_whole w.items (record { number = number; params = ps.0; answer = a; block = b }) (record {
        params = dw.params;
        once = (walks_both w1 (from_same w2 w3.0)).once;
        few = few;
        block = w3.1;
      }) (no_closure_body w.items number head ps.0 heads at_head kept dw.first) (words_differ 0 w ps dw) (block_holds
      env a (inner_state s) w 0 None ps b (known_first a) (omega arith) dw (stands_first a w heads) (f w l)) head kept
      result

-- the walk of a function's body only adds what is well typed
pub function_sound : (env : Env) (at : Pos) (params : Syns) (answer : MaybeSyn) (body : Syn) (s : TypingState) → KnowsItems
    env.kinds env.self_adt s.items → ((x : NamedEntry) → Contains env.variables x → ⊥) → IsTrue (is_block body) → IsTrue
    (self_first params) → Holds (shaped body) → Gives s (λ w b. Unit {0}) (bodies.fn_body env at params answer (λ inner.
    typing.typed inner body) s)
function_sound env at params answer body s items bare shape first h =
    after_body (new_body_sound (in_function env at s.next_body params answer (λ inner. typing.typed inner body)) s'
    (function_inner env at s.next_body params answer body s' items bare shape first h))
  where
    s' : TypingState
    s' = record s { next_body = suc s.next_body }

    after_body : {r : Result (BodyTree × TypingState) Broken} → Gives s' (λ w b. Unit {0}) r → Gives s (λ w b. Unit {0}) r
    after_body {r} h = record { so = λ ready. then_map r (h.so ready) λ b t g. (grows_trans (grows_body s) g.0, g.1) }
