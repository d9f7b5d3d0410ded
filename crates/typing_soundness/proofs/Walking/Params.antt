-- Written types and parameters in a walk.
use Rattle.std.proofs.Common.{ℕ, Bool, ◌||◌, not, nat_le, List, [], ◌∷◌, length, Option, Some, None, refl, ◌∙◌}
use Rattle.mir_base.specs.declared.place_in_text.Pos.{Pos}
use Rattle.mir_base.specs.declared.rule.Rule.{Rule}
use Rattle.mir_ty.specs.declared.ty.Ty.{Ty}
use Rattle.mir_ty.specs.declared.ty.TyId.{TyId}
use Rattle.typed_tree.specs.Nodes.{nodes_of, param_nodes}
use Rattle.typed_tree.specs.Tree as tree
use Rattle.typed_tree.specs.Tree.{Node, BodyTree}
use Rattle.well_typed.specs.Types.{is_reference}
use Rattle.typing_rules.specs.Bodies as bodies
use Rattle.typing_rules.specs.Bodies.{param_pattern_context, is_name_or_wildcard}
use Rattle.typing_rules.specs.Check.{Check, TypingState, interned, ◌>>=◌}
use Rattle.typing_rules.specs.Rows.{Typer}
use Rattle.typing_rules.specs.Scope.{Env, NamedEntry}
use Rattle.typing_rules.specs.Written as types
use Rattle.src_ast.specs.Syntax.{Receiver, ByValue, ByShared, ByUnique, Syn, syn, AType, AParam, WrittenType, NamedType, GenericType, DynType, SelfType, ParensType, TupleType, ArrayType, NeverType, RefType, ParamOf, SelfParam, Syns, no_syn, a_syn, MaybeSyn, nothing, just}
use Rattle.src_ast.specs.View.{self_name}
use Rattle.typing_rules.proofs.Sound.Gives.{numbered}
use Rattle.typing_soundness.specs.Closures.{Tape}
use Rattle.typing_soundness.specs.Walks.{Walked}
use Rattle.typing_soundness.specs.Walks as walking
use Rattle.typing_soundness.proofs.Walking.Adding.{stays_refl, stays_both, walks_none, walks_both, walks_node}
use Rattle.typing_soundness.proofs.Walking.Patterns.{Walks, pattern_walks}
use Rattle.typing_soundness.proofs.Walking.Steps.{walk, walk_obeyed, walk_found, walk_ends, walk_interned, interned_ends, SameWalk, on_same}

-- ---- written types, which have no nodes

abbrev pub Still : {A : Type 0} → TypingState → A → TypingState → Type 0
Still s a t = SameWalk s t

pub still : (s : TypingState) → SameWalk s s
still s = record { number = refl; breaks = refl; stays = stays_refl s }

pub onward : {s t u : TypingState} → SameWalk s t → SameWalk t u → SameWalk s u
onward p q = record {
  number = q.number ∙ p.number;
  breaks = q.breaks ∙ p.breaks;
  stays = stays_both p.stays q.stays;
}

pub interned_still : (ty : Ty) (s : TypingState) {t : TypingState} → SameWalk t s → Walked (λ id u. SameWalk t u) (interned ty s)
interned_still ty s e = interned_ends ty s λ id u f. onward e f

module _ (around : types.WrittenScope) where
  named_still : (at : Pos) (adt : Option ℕ) (scalar : Option TyId) (s : TypingState) → Walked (Still s) (types.named_by at adt
      scalar s)
  named_still at adt (Some ty) s = walk_ends (still s)
  named_still at adt None s = walk_found Rule.T01 at adt _ λ n is. interned_still (Ty.Adt n) s (still s)

  tuple_still : (tys : List TyId) (s : TypingState) {t : TypingState} → SameWalk t s → Walked (λ id u. SameWalk t u) (types.tuple_by
      tys s)
  tuple_still [] s e = walk_ends e
  tuple_still (ty ∷ tys) s e = interned_still (Ty.Tuple (ty ∷ tys)) s e

  mutual
    pub written_still : (ty : Syn) (s : TypingState) → Walked (Still s) (types.written around ty s)
    written_still (syn at (AType t)) s = written_form_still at t s
    written_still _ s = record { so = tt }

    written_form_still : (at : Pos) (form : WrittenType) (s : TypingState) → Walked (Still s) (types.written_form around at form s)
    written_form_still at (NamedType name) s = named_still at (types.number_of around.adts name) (types.scalar_named
        name) s
    written_form_still at (GenericType name content) s =
        walk_obeyed Rule.T01 at (types.is_box name) _ λ _. walk (written_still content s) λ ty t e. interned_still
        (Ty.Boxed ty) t e
    written_form_still at (DynType name trait_) s =
        walk_obeyed Rule.T01 at (types.is_box name) _ λ _. walk_found Rule.T01 trait_.0 (types.number_of around.traits
        trait_.1) _ λ n is. walk_interned (Ty.Dyn n) s λ ty t e. interned_still (Ty.Boxed ty) t e
    written_form_still at SelfType s = walk_found Rule.T01 at around.self_adt _ λ n is. interned_still (Ty.Adt n) s
        (still s)
    written_form_still at (ParensType inside) s = written_still inside s
    written_form_still at (TupleType parts) s =
        walk (all_written_still parts s) λ tys t e. walk (tuple_still tys t e) λ ty u f. walk_obeyed Rule.T19 at (not
        around.has_limits || nat_le (length tys) 12) _ λ _. walk_ends f
    written_form_still at (ArrayType element count suffix) s =
        walk (written_still element s) λ ty t e. walk_obeyed Rule.T03 at (not around.has_limits || types.is_usize
        suffix) _ λ _. walk_obeyed Rule.T19 at (not around.has_limits || nat_le count 32) _ λ _. interned_still
        (Ty.Array ty (types.length_shown count)) t e
    written_form_still at NeverType s = walk_ends (still s)
    written_form_still at (RefType unique to) s =
        walk (written_still to s) λ ty t e. walk_obeyed Rule.T08 at (not around.has_limits) _ λ _. interned_still
        (types.reference_to unique ty) t e

    all_written_still : (parts : Syns) (s : TypingState) → Walked (Still s) (types.all_written around parts s)
    all_written_still no_syn s = walk_ends (still s)
    all_written_still (a_syn first rest) s =
        walk (written_still first s) λ ty t e. walk (all_written_still rest t) λ tys u f. walk_ends (onward e f)

pub from_same : {f : Tape} {s t u : TypingState} {xs : List Node} → SameWalk s t → walking.Walks f t u xs → walking.Walks f s u
    xs
from_same {s} e w = walks_both (on_same e (walks_none s)) w

-- ---- what parameters add to a walk

module _ (around : types.WrittenScope) where
  param_interned : (unique : Bool) (to : TyId) (s : TypingState) {t : TypingState} → SameWalk t s → Walked (λ id u. SameWalk t u)
      (interned (types.reference_to unique to) s)
  param_interned unique to s e = interned_still (types.reference_to unique to) s e

  mutual
    pub written_param_still : (ty : Syn) (s : TypingState) → Walked (Still s) (types.written_param around ty s)
    written_param_still (syn at (AType t)) s = written_param_form_still at t s
    written_param_still _ s = record { so = tt }

    written_param_form_still : (at : Pos) (form : WrittenType) (s : TypingState) → Walked (Still s) (types.written_param_form around
        at form s)
    written_param_form_still at (ParensType inside) s = written_param_still inside s
    written_param_form_still at (RefType unique to) s =
        walk (written_still around to s) λ ty t e. param_interned unique ty t e
    written_param_form_still at t s = written_still around (syn at (AType t)) s

receiver_still : (env : Env) (at : Pos) (receiver : Receiver) (s : TypingState) → Walked (Still s) (bodies.receiver_ty env at
    receiver s)
receiver_still env at receiver s =
    walk_found Rule.T01 at env.self_adt _ λ n is. walk_interned (Ty.Adt n) s λ own t e. by receiver own t e
  where
    by : (r : Receiver) (own : TyId) (t : TypingState) → SameWalk s t → Walked (Still s) (bodies.self_ty r own t)
    by ByValue own t e = walk_ends e
    by ByShared own t e = interned_still (Ty.Shared own) t e
    by ByUnique own t e = interned_still (Ty.Unique own) t e

module _ (env : Env) (ty_of_param : Syn → Check TyId) (good : (ty : Syn) (s : TypingState) → Walked (Still s) (ty_of_param ty
    s)) where
  param_walks : (p : Syn) (earlier : List NamedEntry) (s : TypingState) → Walked (λ x t. Walks s t (nodes_of x.0.pattern))
      (bodies.param env ty_of_param p earlier s)
  param_walks (syn at (AParam (ParamOf p ty))) earlier s =
      walk (good ty s) λ t u e. walk_obeyed Rule.T08 at (is_name_or_wildcard p || not (is_reference u.items t)) _ λ _.
      walk (pattern_walks env param_pattern_context t p earlier u) λ n v w. walk_ends (from_same e w)
  param_walks (syn at (AParam (SelfParam receiver))) earlier s =
      walk (receiver_still env at receiver s) λ ty t e. walk_ends (from_same e (walks_node at ty _ (tree.Binding
      self_name) (walks_none (numbered t))))
  param_walks (syn at _) earlier s = record { so = tt }

  pub params_walk : (params : Syns) (earlier : List NamedEntry) (s : TypingState) → Walked (λ ps t. Walks s t (param_nodes ps.0))
      (bodies.params_of env ty_of_param params earlier s)
  params_walk no_syn earlier s = walk_ends (walks_none s)
  params_walk (a_syn first rest) earlier s =
      walk (param_walks first earlier s) λ p t w. walk (params_walk rest p.1 t) λ ps u x. walk_ends (walks_both w x)

pub answer_still : (env : Env) (answer : MaybeSyn) (s : TypingState) → Walked (Still s) (bodies.answer_of env answer s)
answer_still env nothing s = walk_ends (still s)
answer_still env (just ty) s = written_still (bodies.all_rules env) ty s

-- the body of a closure, in a walk of its own
abbrev pub in_closure : Env → Rule → Pos → ℕ → TyId → List NamedEntry → Syns → MaybeSyn → (Env → Typer) → Check BodyTree
in_closure env too_many at n ty captures params answer block = do
  self ← bodies.name_param at [] ty
  ps ← bodies.params_of (bodies.inside_closure env captures) (types.written (bodies.all_rules env)) params []
  t ← bodies.answer_of env answer
  b ← block (bodies.inside (bodies.inside_closure env captures) t ps.1) (Some t)
  bodies.within_limit too_many at (bodies.body_of n (self.0 ∷ ps.0) t b)
