-- What is accepted by all rules keeps them as it is written.
use Rattle.std.proofs.Common.{◌≡◌, suc, Bool, true, false, ◌&&◌, nat_le, List, length, Result, Ok, Err, IsTrue, refl, ap, subst}
use Rattle.std.proofs.lemmas.Bool.{false≢true}
use Rattle.mir_base.specs.declared.place_in_text.Pos.{Pos}
use Rattle.mir_base.specs.declared.rule.Rule.{Rule}
use Rattle.mir_ty.specs.declared.ty.TyId.{TyId}
use Rattle.typing_rules.specs.Bodies as bodies
use Rattle.typing_rules.specs.Bodies.{param_pattern_context, is_name_or_wildcard}
use Rattle.typing_rules.specs.Check.{Check, TypingState, Broken}
use Rattle.typing_rules.specs.Scope.{Env, NamedEntry}
use Rattle.typing_rules.specs.Written as types
use Rattle.src_ast.specs.Syntax.{Syn, syn, AType, AParam, WrittenType, NamedType, GenericType, DynType, SelfType, ParensType, TupleType, ArrayType, NeverType, RefType, ParamOf, SelfParam, Syns, no_syn, a_syn, list_of, MaybeSyn, nothing, just}
use Rattle.typing_soundness.specs.Legal.{legal, legal_form, all_legal, legal_param, legal_param_form, param_legal, params_legal, answer_legal}
use Rattle.typing_soundness.specs.Walks.{Walked}
use Rattle.typing_soundness.proofs.Walking.Steps.{walk, walk_obeyed, walk_ends}

-- what does not depend on what is given
pub whatever : {A : Type 0} {P : Type 0} (r : Result (A × TypingState) Broken) → P → Walked (λ a t. P) r
whatever (Ok a) p = walk_ends p
whatever (Err e) p = record { so = tt }

pub and_so : (a b : Bool) → IsTrue a → IsTrue b → IsTrue (a && b)
and_so true b h k = k
and_so false b h k = absurd (false≢true h)

-- ---- written types

module _ (around : types.WrittenScope) where
  abbrev full : types.WrittenScope
  full = record around { has_limits = true }

  mutual
    pub written_legal : (e : Syn) (s : TypingState) → Walked (λ ty t. IsTrue (legal e)) (types.written full e s)
    written_legal (syn at (AType t)) s = form_is_legal at t s
    written_legal _ s = record { so = tt }

    form_is_legal : (at : Pos) (form : WrittenType) (s : TypingState) → Walked (λ ty t. IsTrue (legal_form form)) (types.written_form
        full at form s)
    form_is_legal at (NamedType name) s = whatever _ refl
    form_is_legal at (GenericType name content) s =
        walk_obeyed Rule.T01 at (types.is_box name) _ λ _. walk (written_legal content s) λ ty t h. whatever _ h
    form_is_legal at (DynType name trait_) s = whatever _ refl
    form_is_legal at SelfType s = whatever _ refl
    form_is_legal at (ParensType inside) s = written_legal inside s
    form_is_legal at (TupleType parts) s =
        walk (all_are_legal parts s) λ tys t h. walk (whatever {P = Unit {0}} (types.tuple_by tys t) tt) λ ty u _. walk_obeyed Rule.T19
        at (nat_le (length tys) 12) _ λ few. walk_ends (and_so (all_legal parts) _ h.0 (subst (λ n. IsTrue (nat_le n 12))
        h.1 few))
    form_is_legal at (ArrayType element count suffix) s =
        walk (written_legal element s) λ ty t h. walk_obeyed Rule.T03 at (types.is_usize suffix) _ λ sized. walk_obeyed
        Rule.T19 at (nat_le count 32) _ λ few. whatever _ (and_so (legal element) _ h (and_so (types.is_usize suffix) _
        sized few))
    form_is_legal at NeverType s = walk_ends refl
    form_is_legal at (RefType unique to) s =
        walk (whatever {P = Unit {0}} (types.written full to s) tt) λ ty t _. record { so = tt }

    pub all_are_legal : (xs : Syns) (s : TypingState) → Walked (λ tys t. IsTrue (all_legal xs) × (length tys ≡ length (list_of xs)))
        (types.all_written full xs s)
    all_are_legal no_syn s = walk_ends (refl, refl)
    all_are_legal (a_syn first rest) s =
        walk (written_legal first s) λ ty t h. walk (all_are_legal rest t) λ tys u k. walk_ends (
          and_so (legal first) _ h k.0,
          ap suc k.1,
        )

  mutual
    pub written_param_legal : (e : Syn) (s : TypingState) → Walked (λ ty t. IsTrue (legal_param e)) (types.written_param full e
        s)
    written_param_legal (syn at (AType t)) s = param_form_is_legal at t s
    written_param_legal _ s = record { so = tt }

    param_form_is_legal : (at : Pos) (form : WrittenType) (s : TypingState) → Walked (λ ty t. IsTrue (legal_param_form form))
        (types.written_param_form full at form s)
    param_form_is_legal at (ParensType inside) s = written_param_legal inside s
    param_form_is_legal at (RefType unique to) s = walk (written_legal to s) λ ty t h. whatever _ h
    param_form_is_legal at form s = form_is_legal at form s

-- ---- heads

module _ (env : Env) (test : Syn → Bool) (ty_of_param : Syn → Check TyId) (good : (ty : Syn) (s : TypingState) → Walked (λ id t.
    IsTrue (test ty)) (ty_of_param ty s)) where
  param_is_legal : (p : Syn) (earlier : List NamedEntry) (s : TypingState) → Walked (λ x t. IsTrue (param_legal test p)) (bodies.param
      env ty_of_param p earlier s)
  param_is_legal (syn at (AParam (ParamOf p ty))) earlier s = walk (good ty s) λ t u h. whatever _ h
  param_is_legal (syn at (AParam (SelfParam receiver))) earlier s = whatever _ refl
  param_is_legal (syn at _) earlier s = record { so = tt }

  pub params_are_legal : (params : Syns) (earlier : List NamedEntry) (s : TypingState) → Walked (λ ps t. IsTrue (params_legal test
      params)) (bodies.params_of env ty_of_param params earlier s)
  params_are_legal no_syn earlier s = walk_ends refl
  params_are_legal (a_syn first rest) earlier s =
      walk (param_is_legal first earlier s) λ p t h. walk (params_are_legal rest p.1 t) λ ps u k. walk_ends (and_so
      (param_legal test first) _ h k)

pub answer_is_legal : (env : Env) (answer : MaybeSyn) (s : TypingState) → Walked (λ ty t. IsTrue (answer_legal answer))
    (bodies.answer_of env answer s)
answer_is_legal env nothing s = walk_ends refl
answer_is_legal env (just ty) s = written_legal (bodies.all_rules env) ty s
