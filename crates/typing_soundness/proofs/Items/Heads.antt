-- Heads, closures and types of an accepted text.
use Rattle.std.proofs.Common.{◌≡◌, ℕ, zero, suc, Bool, true, false, ◌&&◌, ◌||◌, not, List, [], ◌∷◌, length, slice_get, Option, Some, None, IsTrue, Contains, refl, ap, sym, subst, ◌∙◌, arith}
use Rattle.std.specs.Prelude.{is_some, option_and_then}
use Rattle.std.specs.List.{list_any, list_all}
use Rattle.std.proofs.lemmas.Bool.{false≢true, and_parts, and_from}
use Rattle.std.proofs.lemmas.Option.{same_Some, none-some, slice_get_within}
use Rattle.mir_base.specs.declared.place_in_text.Pos.{Pos}
use Rattle.mir_ty.specs.AreItems.{AreDistinct}
use Rattle.mir_ty.specs.declared.def.ClosureDef.{ClosureDef}
use Rattle.mir_ty.specs.declared.def.Sig.{Sig}
use Rattle.mir_ty.specs.declared.ty.Ty.{Ty}
use Rattle.mir_ty.specs.declared.ty.TyId.{TyId}
use Rattle.mir_ty.specs.ItemTable.{ItemTable, type_at}
use Rattle.mir_ty.specs.Parts.{captures_of}
use Rattle.src_tree.specs.Layout.{Parts}
use Rattle.typed_tree.specs.Tree.{BodyTree, ProgramTree}
use Rattle.well_typed.specs.Claim.{Holds, each}
use Rattle.well_typed.specs.Items.{is_equal, are_distinct_types, stands_alone, is_param}
use Rattle.well_typed.specs.Types.{dyn_in, reference_in}
use Rattle.typing_rules.specs.Places.{unit}
use Rattle.typing_rules.specs.Promises.{AreReady, IsAlone, IsValueType}
use Rattle.typing_rules.specs.Written.{WrittenScope, scalar_named, number_of, length_shown, reference_to}
use Rattle.typing_rules.proofs.Sound.Interned.{equal_is}
use Rattle.src_ast.specs.Syntax.{Word, Receiver, ByValue, ByShared, ByUnique, Syn, syn, AType, AParam, WrittenType, NamedType, GenericType, DynType, SelfType, ParensType, TupleType, ArrayType, NeverType, RefType, ParamOf, SelfParam, Syns, no_syn, a_syn, MaybeSyn, nothing, just}
use Rattle.typing_soundness.specs.Closures.{BodySyn, Function, Closure, WrittenHead}
use Rattle.typing_soundness.specs.Met.{IsReceiver, MeansParam, MeanParams, MeansAnswer, AreTypesOf, IsBodyOf, AreMade, text_legal, types_of, behind}
use Rattle.typing_soundness.specs.Heads.{has_no_self}
use Rattle.typing_soundness.specs.Items.{is_head_typed, IsClosureTyped}
use Rattle.typing_soundness.specs.Legal.{legal, legal_param, legal_form, answer_legal, params_legal, param_legal, head_legal}
use Rattle.typing_soundness.specs.Program.{IsAccepted, HaveHeads}
use Rattle.typing_soundness.specs.Shapes.{no_self}
use Rattle.typing_soundness.specs.Types.{Means, MeansForm, NamesTy, IsTupleOf}
use Rattle.typing_soundness.proofs.Items.Accepting.{are_typed}
use Rattle.typing_soundness.proofs.Items.Headed.{IsHeaded, headed, made_closure, own_place}
use Rattle.typing_soundness.proofs.Bodies.Order.{bodies_in_order}
use Rattle.typing_soundness.proofs.Bodies.Types.{scalar_plain, unit_plain, never_plain, IsPlain}

-- ---- what stands alone

abbrev tells_alone : Option Ty → Bool
tells_alone o =
    is_some o && (not (is_some (option_and_then dyn_in o)) && not (is_some (option_and_then reference_in o)))

abbrev tells_param : Option Ty → Bool
tells_param o = is_some o && not (is_some (option_and_then dyn_in o))

-- a type that is there and is no `dyn`, and no reference where some test holds
abbrev pub IsMadeTy : ItemTable → Bool → TyId → Type 0
IsMadeTy items test id =
    (ty : Ty) × (type_at items id ≡ Some ty) × (dyn_in ty ≡ None) × (IsTrue test → reference_in ty ≡ None)

alone_so : (items : ItemTable) (id : TyId) (ty : Ty) → type_at items id ≡ Some ty → dyn_in ty ≡ None → reference_in ty ≡
    None → IsTrue (stands_alone items id)
alone_so items id ty at d r =
    ap tells_alone at ∙ ap (λ o. not (is_some o) && not (is_some (reference_in ty))) d ∙ ap (λ o. not (is_some o)) r

pub param_so : (items : ItemTable) (id : TyId) (ty : Ty) → type_at items id ≡ Some ty → dyn_in ty ≡ None → IsTrue (is_param
    items id)
param_so items id ty at d = ap tells_param at ∙ ap (λ o. not (is_some o)) d

value_no_dyn : (items : ItemTable) (ty : Ty) → IsValueType items ty → dyn_in ty ≡ None
value_no_dyn items (Ty.Dyn n) h = absurd h
value_no_dyn items _ h = refl

value_no_reference : (items : ItemTable) (ty : Ty) → IsValueType items ty → reference_in ty ≡ None
value_no_reference items (Ty.Shared to) h = absurd h
value_no_reference items (Ty.Unique to) h = absurd h
value_no_reference items _ h = refl

pub alone_stands : (items : ItemTable) (id : TyId) → IsAlone items id → IsTrue (stands_alone items id)
alone_stands items id h =
    alone_so items id h.0 h.1 (value_no_dyn items h.0 h.2) (value_no_reference items h.0 h.2)

-- ---- what is written

module _ (items : ItemTable) (all : AreReady items) (around : WrittenScope) where
  plain_made : (test : Bool) (id : TyId) → IsPlain items id → IsMadeTy items test id
  plain_made test id h = (h.0, h.1, value_no_dyn items h.0 h.2, λ _. value_no_reference items h.0 h.2)

  named_made : (test : Bool) (name : Word) (adt : Option ℕ) (scalar : Option TyId) (id : TyId) → scalar_named name ≡
      scalar → NamesTy items adt scalar id → IsMadeTy items test id
  named_made test name adt (Some ty) id is h =
      subst (IsMadeTy items test) h (plain_made test ty (scalar_plain items all name ty is))
  named_made test name None None id is h = absurd h
  named_made test name (Some n) None id is h = (Ty.Adt n, h, refl, λ _. refl)

  tuple_made : (test : Bool) (tys : List TyId) (id : TyId) → IsTupleOf items tys id → IsMadeTy items test id
  tuple_made test [] id h = subst (IsMadeTy items test) h (plain_made test unit (unit_plain items all))
  tuple_made test (t ∷ ts) id h = (Ty.Tuple (t ∷ ts), h, refl, λ _. refl)

  reference_made : (unique : Bool) (inside id : TyId) → type_at items id ≡ Some (reference_to unique inside) → IsMadeTy
      items false id
  reference_made true inside id h = (Ty.Unique inside, h, refl, λ l. absurd (false≢true l))
  reference_made false inside id h = (Ty.Shared inside, h, refl, λ l. absurd (false≢true l))

  mutual
    pub means_made : (e : Syn) (id : TyId) → Means around items e id → IsMadeTy items (legal e) id
    means_made (syn at (AType t)) id h = form_made t id h
    means_made _ id h = absurd h

    form_made : (form : WrittenType) (id : TyId) → MeansForm around items form id → IsMadeTy items (legal_form form) id
    form_made (NamedType name) id h =
        named_made true name (number_of around.adts name) (scalar_named name) id refl h
    form_made (GenericType name content) id h = (Ty.Boxed h.0, h.2, refl, λ _. refl)
    form_made (DynType name trait_) id h = (Ty.Boxed h.1, h.4, refl, λ _. refl)
    form_made SelfType id h = (Ty.Adt h.0, h.2, refl, λ _. refl)
    form_made (ParensType inside) id h = means_made inside id h
    form_made (TupleType parts) id h = tuple_made _ h.0 id h.2
    form_made (ArrayType element count suffix) id h = (Ty.Array h.0 (length_shown count), h.2, refl, λ _. refl)
    form_made NeverType id h = subst (IsMadeTy items true) h (plain_made true _ (never_plain items all))
    form_made (RefType unique to) id h = reference_made unique h.0 id h.2

  receiver_made : (receiver : Receiver) (n : ℕ) (own id : TyId) → type_at items own ≡ Some (Ty.Adt n) → IsReceiver items
      receiver own id → IsTrue (is_param items id)
  receiver_made ByValue n own id at h =
      subst (λ x. IsTrue (is_param items x)) h (param_so items own (Ty.Adt n) at refl)
  receiver_made ByShared n own id at h = param_so items id (Ty.Shared own) h refl
  receiver_made ByUnique n own id at h = param_so items id (Ty.Unique own) h refl

  param_typed : (p : Syn) (id : TyId) → MeansParam around items p id → IsTrue (is_param items id)
  param_typed (syn at (AParam (ParamOf p written))) id h = let m = means_made written id h in param_so items id m.0 m.1 m.2
  param_typed (syn at (AParam (SelfParam receiver))) id h = receiver_made receiver h.0 h.1 id h.3 h.4
  param_typed (syn at _) id h = absurd h

  params_typed : (ps : Syns) (ids : List TyId) → MeanParams around items ps ids → IsTrue (list_all (is_param items) ids)
  params_typed no_syn [] h = refl
  params_typed no_syn (id ∷ ids) h = absurd h
  params_typed (a_syn first rest) [] h = absurd h
  params_typed (a_syn first rest) (id ∷ ids) h =
      and_from (is_param items id) _ (param_typed first id h.0) (params_typed rest ids h.1)

  -- of a closure, whose parameters are no references
  param_alone : (p : Syn) (rest : Syns) (id : TyId) → IsTrue (no_self (a_syn p rest)) → IsTrue (param_legal legal p) →
      MeansParam around items p id → IsTrue (stands_alone items id) × IsTrue (no_self rest)
  param_alone (syn at (AParam (ParamOf p written))) rest id free l h =
      let m = means_made written id h in (alone_so items id m.0 m.1 m.2 (m.3 l), free)
  param_alone (syn at (AParam (SelfParam receiver))) rest id free l h = absurd (false≢true free)
  param_alone (syn at _) rest id free l h = absurd h

  params_alone : (ps : Syns) (ids : List TyId) → IsTrue (no_self ps) → IsTrue (params_legal legal ps) → MeanParams around
      items ps ids → IsTrue (list_all (stands_alone items) ids)
  params_alone no_syn [] free l h = refl
  params_alone no_syn (id ∷ ids) free l h = absurd h
  params_alone (a_syn first rest) [] free l h = absurd h
  params_alone (a_syn first rest) (id ∷ ids) free l h =
      let k = and_parts (param_legal legal first) _ l in
      let one = param_alone first rest id free k.0 h.0 in
      and_from (stands_alone items id) _ one.0 (params_alone rest ids one.1 k.1 h.1)

  answer_alone : (answer : MaybeSyn) (id : TyId) → IsTrue (answer_legal answer) → MeansAnswer around items answer id →
      IsTrue (stands_alone items id)
  answer_alone nothing id l h =
      let m = plain_made true unit (unit_plain items all) in
      subst (λ x. IsTrue (stands_alone items x)) h (alone_so items unit m.0 m.1 m.2 (m.3 refl))
  answer_alone (just written) id l h =
      let m = means_made written id h in alone_so items id m.0 m.1 m.2 (m.3 l)

-- ---- heads

module _ (items : ItemTable) (all : AreReady items) where
  body_typed : (k : ℕ) (text : BodySyn) (params : List TyId) (answer : TyId) → AreTypesOf items k text params answer →
      IsTrue (text_legal text) → IsTrue (list_all (is_param items) params && stands_alone items answer)
  body_typed k (Function head) params answer h l =
      and_from (list_all (is_param items) params) _ (params_typed items all head.around head.params params h.0)
      (answer_alone items all head.around head.answer answer (and_parts (params_legal legal_param head.params) _ l).1 h.1)
  body_typed k (Closure head) [] answer h l = absurd h
  body_typed k (Closure head) (self ∷ params) answer h l =
      and_from (list_all (is_param items) (self ∷ params)) _ (and_from (is_param items self) _ (param_so items self
      (Ty.Closure k) h.0 refl) (params_typed items all head.around head.params params h.1.0)) (answer_alone items all
      head.around head.answer answer (and_parts (params_legal legal head.params) _ l).1 h.1.1)

  heads_typed : (from to : ℕ) (texts : List BodySyn) (heads : List Sig) (bodies : List BodyTree) → HaveHeads heads bodies
      → AreMade (IsBodyOf items) from to texts [] bodies → IsTrue (list_all (is_head_typed items) heads)
  heads_typed from to texts [] bodies h made = refl
  heads_typed from to texts (head ∷ heads) [] h made = absurd h
  heads_typed from to [] (head ∷ heads) (body ∷ bodies) h made = absurd made
  heads_typed from to (text ∷ texts) (head ∷ heads) (body ∷ bodies) h made =
      let one = body_typed from text (types_of body) body.answer made.0.0 made.0.2 in
      and_from (is_head_typed items head) _ (ap (λ x. list_all (is_param items) x && stands_alone items head.result) h.0.0
      ∙ ap (λ x. list_all (is_param items) (types_of body) && stands_alone items x) h.0.1 ∙ one) (heads_typed (behind text
      from) to texts heads bodies h.1 made.1)

-- ---- closures

-- made of a text without a second `self`
abbrev IsPlainBody : ItemTable → ℕ → BodySyn → BodyTree → Type 0
IsPlainBody items k text body = IsBodyOf items k text body × Holds (has_no_self text)

plainly_made : (items : ItemTable) (from to : ℕ) (texts : List BodySyn) (bodies : List BodyTree) → Holds (each has_no_self
    texts) → AreMade (IsBodyOf items) from to texts [] bodies → AreMade (IsPlainBody items) from to texts [] bodies
plainly_made items from to texts [] plain h = h
plainly_made items from to [] (body ∷ bodies) plain h = absurd h
plainly_made items from to (text ∷ texts) (body ∷ bodies) plain h =
    ((h.0, plain.0), plainly_made items (behind text from) to texts bodies plain.1 h.1)

head_at : (heads : List Sig) (bodies : List BodyTree) (j : ℕ) (body : BodyTree) → HaveHeads heads bodies → slice_get
    bodies j ≡ Some body → (head : Sig) × (slice_get heads j ≡ Some head) × (head.params ≡ types_of body)
head_at [] [] j body h is = absurd (none-some body is)
head_at [] (b ∷ bodies) j body h is = absurd h
head_at (g ∷ heads) [] j body h is = absurd h
head_at (g ∷ heads) (b ∷ bodies) zero body h is = (g, refl, h.0.0 ∙ ap types_of (same_Some b body is))
head_at (g ∷ heads) (b ∷ bodies) (suc j) body h is = head_at heads bodies j body h.1 is

all_alone : (items : ItemTable) (ids : List TyId) → ((id : TyId) → Contains ids id → IsAlone items id) → IsTrue (list_all
    (stands_alone items) ids)
all_alone items [] h = refl
all_alone items (id ∷ ids) h =
    and_from (stands_alone items id) _ (alone_stands items id (h id (0, omega arith, refl))) (all_alone items ids (λ x
    has. h x (suc has.0, omega (arith, has.1), has.2)))

closure_typed : (p : ProgramTree) → AreReady p.items → IsHeaded p → (k : ℕ) (def : ClosureDef) → slice_get p.items.closures k ≡ Some def → ((j : ℕ)
    (body : BodyTree) → slice_get p.bodies j ≡ Some body → body.number ≡ j) → IsClosureTyped p.items k def
closure_typed p all h k def at_k order =
    let f = made_closure (IsPlainBody p.items) k 0 (length p.items.closures) h.texts [] p.bodies (omega arith)
    (slice_get_within p.items.closures k def at_k) (plainly_made p.items 0 (length p.items.closures) h.texts p.bodies
    h.plain h.made) in
    let b : def.body ≡ f.0 = ap (λ (d : ClosureDef). d.body) (same_Some def f.4.0.1.0 (sym at_k ∙ f.4.0.1.1)) ∙ (f.4.0.1.2 ∙
    order f.0 f.1 f.3) in
    let g = head_at p.items.bodies p.bodies f.0 f.1 h.heads f.3 in
    begins g.0 (ap (slice_get p.items.bodies) b ∙ g.1) (types_of f.1) f.2 f.1.answer f.4.0.0 f.4.0.2 f.4.1 g.2
  where
    begins : (head : Sig) → slice_get p.items.bodies def.body ≡ Some head → (tys : List TyId) (own : WrittenHead) (answer : TyId) →
        AreTypesOf p.items k (Closure own) tys answer → IsTrue (head_legal legal own.params own.answer) → Holds (has_no_self
        (Closure own)) → head.params ≡ tys → IsClosureTyped p.items k def
    begins head is [] own answer t l free e = absurd t
    begins head is (self ∷ rest) own answer t l free e = record {
      captures = all_alone p.items def.captures (λ id has. all.held self id (Ty.Closure k) t.0 (subst (λ o. Contains
          (captures_of o) id) (sym at_k) has));
      head = head;
      is = is;
      self = self;
      rest = rest;
      params = e;
      ty = t.0;
      alone = params_alone p.items all own.around own.params rest free (and_parts (params_legal legal own.params) _ l).0 t.1.0;
    }

-- ---- types

no_equal : (ty : Ty) (tys : List Ty) → ((k : ℕ) → slice_get tys k ≡ Some ty → ⊥) → IsTrue (not (list_any (is_equal ty)
    tys))
no_equal ty [] h = refl
no_equal ty (t ∷ ts) h = by (is_equal ty t) refl (no_equal ty ts (λ k is. h (suc k) is))
  where
    by : (b : Bool) → is_equal ty t ≡ b → IsTrue (not (list_any (is_equal ty) ts)) → IsTrue (not (b || list_any (is_equal
        ty) ts))
    by true e on = absurd (h 0 (ap (λ x. Some x) (sym (equal_is ty t e))))
    by false e on = on

types_differ : (tys : List Ty) → AreDistinct tys → IsTrue (are_distinct_types tys)
types_differ [] h = refl
types_differ (ty ∷ tys) h =
    and_from (not (list_any (is_equal ty) tys)) _ (no_equal ty tys (λ k is. let e = h 0 (suc k) ty refl is in omega (
      arith,
      e,
    ))) (types_differ tys (λ i j t is js. let e = h (suc i) (suc j) t is js in omega (arith, e)))

type_there : (test : Ty → Bool) (tys : List Ty) (n : ℕ) (ty : Ty) → slice_get tys n ≡ Some ty → IsTrue (test ty) →
    IsTrue (list_any test tys)
type_there test [] n ty is h = absurd (none-some ty is)
type_there test (t ∷ ts) zero ty is h =
    ap (λ z. z || list_any test ts) (subst (λ x. IsTrue (test x)) (sym (same_Some t ty is)) h)
type_there test (t ∷ ts) (suc n) ty is h = by (test t) (type_there test ts n ty is h)
  where
    by : (b : Bool) → IsTrue (list_any test ts) → IsTrue (b || list_any test ts)
    by true k = refl
    by false k = k

-- ---- the whole

module _ (parts : Parts Pos) (items : ItemTable) (p : ProgramTree) (h : IsAccepted parts items p) where
  is_headed : IsHeaded p
  is_headed = headed parts h.end items p h.collected h.checked h.text.shaped h.text.listed

  are_ready : AreReady p.items
  are_ready = (are_typed parts items p h).0

  pub text_types : IsTrue (are_distinct_types p.items.types) × IsTrue (list_any (is_equal Ty.Bool) p.items.types) × IsTrue
      (list_any (is_equal Ty.Unit) p.items.types)
  text_types = (
    types_differ p.items.types are_ready.distinct,
    type_there (is_equal Ty.Bool) p.items.types 1 Ty.Bool (are_ready.begins 1 Ty.Bool refl) refl,
    type_there (is_equal Ty.Unit) p.items.types 0 Ty.Unit (are_ready.begins 0 Ty.Unit refl) refl,
  )

  pub text_heads : IsTrue (list_all (is_head_typed p.items) p.items.bodies)
  text_heads =
      heads_typed p.items are_ready 0 (length p.items.closures) is_headed.texts p.items.bodies p.bodies is_headed.heads
      is_headed.made

  pub text_closures : (n : ℕ) (def : ClosureDef) → slice_get p.items.closures n ≡ Some def → IsClosureTyped p.items n def
  text_closures n def is =
      closure_typed p are_ready is_headed n def is (λ j body at. own_place p.bodies j body (bodies_in_order parts items
      p h.checked) at)
