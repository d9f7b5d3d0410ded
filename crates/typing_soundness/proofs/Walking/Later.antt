-- What types mean among later items, and so of which texts bodies are made.
use Rattle.std.proofs.Common.{ℕ, List, [], ◌∷◌, ◌++◌, length, Option, Some, None, ap, sym, subst, ◌∙◌}
use Rattle.std.proofs.lemmas.List.{append_assoc}
use Rattle.mir_ty.specs.declared.ty.Ty.{Ty}
use Rattle.mir_ty.specs.declared.ty.TyId.{TyId}
use Rattle.mir_ty.specs.ItemTable.{ItemTable}
use Rattle.typed_tree.specs.Tree.{BodyTree}
use Rattle.typing_rules.specs.Check.{TypingState}
use Rattle.typing_rules.specs.Written as rules
use Rattle.typing_rules.specs.Written.{WrittenScope}
use Rattle.src_ast.specs.Syntax.{Receiver, ByValue, ByShared, ByUnique, Syn, syn, AType, AParam, WrittenType, NamedType, GenericType, DynType, SelfType, ParensType, TupleType, ArrayType, NeverType, RefType, ParamOf, SelfParam, Syns, no_syn, a_syn, MaybeSyn, nothing, just}
use Rattle.typing_soundness.specs.Closures.{BodySyn, Function, Closure, WrittenHead, Tape}
use Rattle.typing_soundness.specs.Met.{IsReceiver, MeansParam, MeanParams, MeansAnswer, HasTypes, AreTypesOf, HaveClosures, HasBody, IsBodyOf, AreMade, Met, types_of, behind}
use Rattle.typing_soundness.specs.Types.{HaveTypes, NamesTy, IsTupleOf, Means, MeansForm, MeanAll}

-- ---- types that are written

module _ (around : WrittenScope) where
  pub named_later : (old new : ItemTable) → HaveTypes old new → (adt : Option ℕ) (scalar : Option TyId) (ty : TyId) →
      NamesTy old adt scalar ty → NamesTy new adt scalar ty
  named_later old new e adt (Some scalar) ty h = h
  named_later old new e None None ty h = h
  named_later old new e (Some n) None ty h = e ty.0 (Ty.Adt n) h

  pub tuple_later : (old new : ItemTable) → HaveTypes old new → (tys : List TyId) (ty : TyId) → IsTupleOf old tys ty →
      IsTupleOf new tys ty
  tuple_later old new e [] ty h = h
  tuple_later old new e (t ∷ ts) ty h = e ty.0 (Ty.Tuple (t ∷ ts)) h

  module _ (old new : ItemTable) (e : HaveTypes old new) where
    mutual
      pub means_later : (x : Syn) (ty : TyId) → Means around old x ty → Means around new x ty
      means_later (syn at (AType t)) ty h = form_later t ty h
      means_later _ ty h = absurd h

      pub form_later : (form : WrittenType) (ty : TyId) → MeansForm around old form ty → MeansForm around new form ty
      form_later (NamedType name) ty h =
          named_later old new e (rules.number_of around.adts name) (rules.scalar_named name) ty h
      form_later (GenericType name content) ty h =
          (h.0, means_later content h.0 h.1, e ty.0 (Ty.Boxed h.0) h.2, h.3)
      form_later (DynType name trait_) ty h =
          (h.0, h.1, h.2, e h.1.0 (Ty.Dyn h.0) h.3, e ty.0 (Ty.Boxed h.1) h.4, h.5)
      form_later SelfType ty h = (h.0, h.1, e ty.0 (Ty.Adt h.0) h.2)
      form_later (ParensType inside) ty h = means_later inside ty h
      form_later (TupleType parts) ty h = (h.0, all_later parts h.0 h.1, tuple_later old new e h.0 ty h.2)
      form_later (ArrayType element count suffix) ty h =
          (h.0, means_later element h.0 h.1, e ty.0 (Ty.Array h.0 (rules.length_shown count)) h.2)
      form_later NeverType ty h = h
      form_later (RefType unique to) ty h =
          (h.0, means_later to h.0 h.1, e ty.0 (rules.reference_to unique h.0) h.2)

      pub all_later : (xs : Syns) (tys : List TyId) → MeanAll around old xs tys → MeanAll around new xs tys
      all_later no_syn [] h = h
      all_later no_syn (ty ∷ tys) h = h
      all_later (a_syn first rest) [] h = h
      all_later (a_syn first rest) (ty ∷ tys) h = (means_later first ty h.0, all_later rest tys h.1)

-- ---- heads

module _ (old new : ItemTable) (e : HaveTypes old new) where
  pub receiver_later : (receiver : Receiver) (own ty : TyId) → IsReceiver old receiver own ty → IsReceiver new receiver own ty
  receiver_later ByValue own ty h = h
  receiver_later ByShared own ty h = e ty.0 (Ty.Shared own) h
  receiver_later ByUnique own ty h = e ty.0 (Ty.Unique own) h

  module _ (around : WrittenScope) where
    pub param_later : (x : Syn) (ty : TyId) → MeansParam around old x ty → MeansParam around new x ty
    param_later (syn at (AParam (ParamOf p written))) ty h = means_later around old new e written ty h
    param_later (syn at (AParam (SelfParam receiver))) ty h =
        (h.0, h.1, h.2, e h.1.0 (Ty.Adt h.0) h.3, receiver_later receiver h.1 ty h.4)
    param_later (syn at _) ty h = absurd h

    pub params_later : (xs : Syns) (tys : List TyId) → MeanParams around old xs tys → MeanParams around new xs tys
    params_later no_syn [] h = h
    params_later no_syn (ty ∷ tys) h = h
    params_later (a_syn first rest) [] h = h
    params_later (a_syn first rest) (ty ∷ tys) h = (param_later first ty h.0, params_later rest tys h.1)

    pub answer_later : (answer : MaybeSyn) (ty : TyId) → MeansAnswer around old answer ty → MeansAnswer around new answer ty
    answer_later nothing ty h = h
    answer_later (just written) ty h = means_later around old new e written ty h

  pub types_later : (head : WrittenHead) (params : List TyId) (answer : TyId) → HasTypes old head params answer → HasTypes new head
      params answer
  types_later head params answer h =
      (params_later head.around head.params params h.0, answer_later head.around head.answer answer h.1)

  pub text_later : (closure : ℕ) (text : BodySyn) (params : List TyId) (answer : TyId) → AreTypesOf old closure text params
      answer → AreTypesOf new closure text params answer
  text_later closure (Function head) params answer h = types_later head params answer h
  text_later closure (Closure head) [] answer h = h
  text_later closure (Closure head) (self ∷ params) answer h =
      (e self.0 (Ty.Closure closure) h.0, types_later head params answer h.1)

-- a body among later items
has_later : (old new : ItemTable) → HaveClosures old new → (closure : ℕ) (text : BodySyn) (number : ℕ) → HasBody old closure
    text number → HasBody new closure text number
has_later old new e closure (Function head) number h = h
has_later old new e closure (Closure head) number h = (h.0, e closure h.0 h.1, h.2)

pub body_later : (old new : ItemTable) → HaveTypes old new → HaveClosures old new → (closure : ℕ) (text : BodySyn) (body :
    BodyTree) → IsBodyOf old closure text body → IsBodyOf new closure text body
body_later old new e d closure text body h = (
  text_later old new e closure text (types_of body) body.answer h.0,
  has_later old new d closure text body.number h.1,
  h.2,
)

-- ---- what is made of a text

pub made_map : {B : Type 0} (P Q : ℕ → BodySyn → B → Type 0) → ((closure : ℕ) (text : BodySyn) (body : B) → P closure text
    body → Q closure text body) → (from to : ℕ) (texts rest : List BodySyn) (bodies : List B) → AreMade P from to texts
    rest bodies → AreMade Q from to texts rest bodies
made_map P Q so from to texts rest [] h = h
made_map P Q so from to [] rest (body ∷ bodies) h = h
made_map P Q so from to (text ∷ texts) rest (body ∷ bodies) h =
    (so from text body h.0, made_map P Q so (behind text from) to texts rest bodies h.1)

pub made_both : {B : Type 0} (P : ℕ → BodySyn → B → Type 0) (from between to : ℕ) (texts more rest : List BodySyn) (bodies
    others : List B) → AreMade P from between texts more bodies → AreMade P between to more rest others → AreMade P from
    to texts rest (bodies ++ others)
made_both P from between to texts more rest [] others h k =
    subst (λ n. AreMade P n to texts rest others) (sym h.1) (subst (λ ts. AreMade P between to ts rest others) (sym h.0)
    k)
made_both P from between to [] more rest (body ∷ bodies) others h k = absurd h
made_both P from between to (text ∷ texts) more rest (body ∷ bodies) others h k =
    (h.0, made_both P (behind text from) between to texts more rest bodies others h.1 k)

pub met_both : {f g : Tape} {s t u : TypingState} → Met f s t → Met g t u → Met (λ rest. f (g rest)) s u
met_both {f} {g} {s} {t} {u} p q = record {
  types = λ n ty h. q.types n ty (p.types n ty h);
  distinct = λ h. q.distinct (p.distinct h);
  adts = q.adts ∙ p.adts;
  heads = q.heads ∙ p.heads;
  closures = λ n def h. q.closures n def (p.closures n def h);
  new = p.new ++ q.new;
  bodies = q.bodies ∙ (ap (λ bs. bs ++ q.new) p.bodies ∙ append_assoc s.bodies p.new q.new);
  made = λ rest. made_both (IsBodyOf u.items) (length s.items.closures) (length t.items.closures) (length
      u.items.closures) (f (g rest)) (g rest) rest p.new q.new (made_map (IsBodyOf t.items) (IsBodyOf u.items)
      (body_later t.items u.items q.types q.closures) (length s.items.closures) (length t.items.closures) (f (g rest)) (g
      rest) p.new (p.made (g rest))) (q.made rest);
}
