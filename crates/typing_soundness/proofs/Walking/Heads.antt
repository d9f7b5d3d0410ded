-- The types of a body mean what is written.
use Rattle.std.proofs.Common.{◌≡◌, ℕ, ◌||◌, not, List, [], ◌∷◌, map, Some, refl, ap}
use Rattle.mir_base.specs.declared.place_in_text.Pos.{Pos}
use Rattle.mir_base.specs.declared.rule.Rule.{Rule}
use Rattle.mir_ty.specs.declared.ty.Ty.{Ty}
use Rattle.mir_ty.specs.declared.ty.TyId.{TyId}
use Rattle.mir_ty.specs.ItemTable.{ItemTable, type_at}
use Rattle.typed_tree.specs.Tree.{ParamTree}
use Rattle.well_typed.specs.Types.{is_reference}
use Rattle.typing_rules.specs.Bodies as bodies
use Rattle.typing_rules.specs.Bodies.{param_pattern_context, is_name_or_wildcard}
use Rattle.typing_rules.specs.Check.{Check, TypingState}
use Rattle.typing_rules.specs.Numbered.{param_renumbered}
use Rattle.typing_rules.specs.Scope.{Env, NamedEntry}
use Rattle.src_ast.specs.Syntax.{Receiver, ByValue, ByShared, ByUnique, Syn, syn, AParam, ParamOf, SelfParam, Syns, no_syn, a_syn, MaybeSyn, nothing, just}
use Rattle.typing_soundness.specs.Met.{IsReceiver, MeansParam, MeanParams, MeansAnswer}
use Rattle.typing_soundness.specs.Types.{HaveTypes, Means}
use Rattle.typing_soundness.specs.Walks.{Walked}
use Rattle.typing_soundness.proofs.Items.Meanings.{have_refl, interned_means, written_given}
use Rattle.typing_soundness.proofs.Walking.Later.{means_later, param_later}
use Rattle.typing_soundness.proofs.Walking.Patterns.{pattern_walks}
use Rattle.typing_soundness.proofs.Walking.Steps.{walk, walk_map, walk_obeyed, walk_found, walk_ends}

have_both : (a b c : ItemTable) → HaveTypes a b → HaveTypes b c → HaveTypes a c
have_both a b c p q = λ n ty h. q n ty (p n ty h)

-- ---- parameters

module _ (env : Env) where
  abbrev pub IsGivenReceiver : ItemTable → Receiver → TyId → Type 0
  IsGivenReceiver items receiver ty =
      (n : ℕ) × (own : TyId) × (env.self_adt ≡ Some n) × (type_at items own ≡ Some (Ty.Adt n)) × IsReceiver items
      receiver own ty

  receiver_given : (at : Pos) (receiver : Receiver) (s : TypingState) → Walked (λ ty t. HaveTypes s.items t.items ×
      IsGivenReceiver t.items receiver ty) (bodies.receiver_ty env at receiver s)
  receiver_given at receiver s =
      walk_found Rule.T01 at env.self_adt _ λ n is. walk (interned_means (Ty.Adt n) s s (have_refl s.items)) λ own t g.
      by n is own t g.0 g.2 receiver
    where
      by : (n : ℕ) → env.self_adt ≡ Some n → (own : TyId) (t : TypingState) → HaveTypes s.items t.items → type_at t.items own ≡
          Some (Ty.Adt n) → (r : Receiver) → Walked (λ ty u. HaveTypes s.items u.items × IsGivenReceiver u.items r ty)
          (bodies.self_ty r own t)
      by n is own t e at_own ByValue = walk_ends (e, (n, own, is, at_own, refl))
      by n is own t e at_own ByShared =
          walk_map (interned_means (Ty.Shared own) t s e) λ ty u h. (
            h.0,
            (n, own, is, h.1 own.0 (Ty.Adt n) at_own, h.2),
          )
      by n is own t e at_own ByUnique =
          walk_map (interned_means (Ty.Unique own) t s e) λ ty u h. (
            h.0,
            (n, own, is, h.1 own.0 (Ty.Adt n) at_own, h.2),
          )

  module _ (ty_of_param : Syn → Check TyId) (good : (ty : Syn) (s : TypingState) → Walked (λ id t. HaveTypes s.items
      t.items × Means (bodies.all_rules env) t.items ty id) (ty_of_param ty s)) where
    param_given : (p : Syn) (earlier : List NamedEntry) (s : TypingState) → Walked (λ x t. HaveTypes s.items t.items × MeansParam
        (bodies.all_rules env) t.items p x.0.ty) (bodies.param env ty_of_param p earlier s)
    param_given (syn at (AParam (ParamOf p ty))) earlier s =
        walk (good ty s) λ t u g. walk_obeyed Rule.T08 at (is_name_or_wildcard p || not (is_reference u.items t)) _ λ
        _. walk (pattern_walks env param_pattern_context t p earlier u) λ n v w. walk_ends (
          have_both s.items u.items v.items g.0 w.met.types,
          means_later (bodies.all_rules env) u.items v.items w.met.types ty t g.1,
        )
    param_given (syn at (AParam (SelfParam receiver))) earlier s =
        walk (receiver_given at receiver s) λ ty t g. walk_ends (g.0, g.1)
    param_given (syn at _) earlier s = record { so = tt }

    pub params_given : (params : Syns) (earlier : List NamedEntry) (s : TypingState) → Walked (λ ps t. HaveTypes s.items
        t.items × MeanParams (bodies.all_rules env) t.items params (map (λ (p : ParamTree). p.ty) ps.0))
        (bodies.params_of env ty_of_param params earlier s)
    params_given no_syn earlier s = walk_ends (have_refl s.items, tt)
    params_given (a_syn first rest) earlier s =
        walk (param_given first earlier s) λ p t g. walk (params_given rest p.1 t) λ ps u h. walk_ends (
          have_both s.items t.items u.items g.0 h.0,
          (param_later t.items u.items h.0 (bodies.all_rules env) first p.0.ty g.1, h.1),
        )

  pub answer_given : (answer : MaybeSyn) (s : TypingState) → Walked (λ ty t. HaveTypes s.items t.items × MeansAnswer
      (bodies.all_rules env) t.items answer ty) (bodies.answer_of env answer s)
  answer_given nothing s = walk_ends (have_refl s.items, refl)
  answer_given (just ty) s = written_given (bodies.all_rules env) ty s

-- ---- other numbers for the nodes of a body

pub types_kept : (f : ℕ → ℕ) (ps : List ParamTree) → map (λ (p : ParamTree). p.ty) (map (param_renumbered f) ps) ≡ map (λ
    (p : ParamTree). p.ty) ps
types_kept f [] = refl
types_kept f (p ∷ ps) = ap (λ tys. p.ty ∷ tys) (types_kept f ps)
