-- The heads that are collected are those of the bodies of the text.
use Rattle.std.proofs.Common.{◌≡◌, ◌==◌, ℕ, suc, ◌+◌, Bool, true, false, ◌||◌, not, List, [], ◌∷◌, ◌++◌, length, slice_get, Option, Some, None, Result, Ok, Err, IsTrue, refl, ap, sym, subst, ◌∙◌, arith}
use Rattle.std.specs.Prelude.{option_and_then, codes, is_some, if◌then◌else◌}
use Rattle.typing_rules.specs.Promises.{is_plain_name}
use Rattle.std.specs.List.{list_any, position as position_of, filter_map}
use Rattle.std.proofs.lemmas.Bool.{false≢true}
use Rattle.std.proofs.lemmas.List.{append_assoc, append-nil}
use Rattle.std.proofs.lemmas.List.Quantifiers.{position-Some}
use Rattle.std.proofs.lemmas.Option.{slice_get-get_or}
use Rattle.std.proofs.lemmas.Slice.Eq.{bytes_eq-Decides}
use Rattle.std.specs.Str.{bytes_eq}
use Rattle.mir_base.specs.declared.place_in_text.Pos.{Pos}
use Rattle.mir_base.specs.declared.rule.Rule.{Rule}
use Rattle.mir_ty.specs.AreItems.{AreDistinct}
use Rattle.mir_ty.specs.declared.adt.Adt.{Adt}
use Rattle.mir_ty.specs.declared.adt.Variant.{Variant}
use Rattle.mir_ty.specs.declared.def.Sig.{Sig}
use Rattle.mir_ty.specs.declared.ty.Ty.{Ty}
use Rattle.mir_ty.specs.declared.ty.TyId.{TyId}
use Rattle.mir_ty.specs.ItemTable.{ItemTable, type_at, with_adt, with_body}
use Rattle.src_tree.specs.Layout.{Parts}
use Rattle.well_typed.specs.Items.{is_equal}
use Rattle.well_typed.specs.Names.{is_among, built_in}
use Rattle.typing_rules.specs.Check.{Check, TypingState, Broken, and_then, obeys, known, each_checked, interned, interned_at}
use Rattle.typing_rules.specs.Collected as rules
use Rattle.typing_rules.specs.Items.{ItemSyn, items_of, item_syns, body_paths, impl_owner, full_name, closure_name}
use Rattle.typing_rules.specs.Written as types
use Rattle.src_ast.specs.Syntax.{Word, Named, number_word, Receiver, ByValue, ByShared, ByUnique, Syn, syn, AnExpression, AType, AnItem, AParam, AVariant, MoveOf, WrittenType, NamedType, GenericType, DynType, SelfType, ParensType, TupleType, ArrayType, NeverType, RefType, StructItem, EnumItem, TraitItem, ImplItem, FnItem, ParamOf, SelfParam, Syns, no_syn, a_syn, list_of, MaybeSyn, nothing, just}
use Rattle.typing_soundness.specs.Closures.{BodySyn, Function, Closure, WrittenHead, Tape}
use Rattle.typing_soundness.specs.Met.{IsReceiver, MeansParam, MeanParams, MeansAnswer, HasTypes, AreMade, behind}
use Rattle.typing_soundness.specs.Heads.{owner_of, MeansIfAny, MeansClosureParam, MeanClosureParams, MeansClosureAnswer, AreHeadTypes, IsHeadOf, IsVariantOf, AreVariantsOf, IsAdtOf, AreAdtsOf, body_text, bodies_text}
use Rattle.typing_soundness.specs.Types.{HaveTypes, NamesTy, Means, MeansForm, MeanAll}
use Rattle.typing_soundness.specs.Walks.{Walked}
use Rattle.typing_soundness.proofs.Items.Meanings.{have_refl, interned_means, written_given, param_given}
use Rattle.typing_soundness.proofs.Walking.Later.{means_later, params_later, param_later, types_later, made_map, made_both}
use Rattle.typing_soundness.proofs.Walking.Params.{Still, still, onward, written_still, written_param_still, interned_still}
use Rattle.typing_soundness.proofs.Walking.Rows.{no_closure, ◌⨾◌}
use Rattle.typing_soundness.proofs.Walking.Steps.{walk, walk_map, walk_obeyed, walk_found, walk_ends, SameWalk, walk_interned_as}

-- ---- what means something can be written

abbrev IsOk : {A : Type 0} → Result (A × TypingState) Broken → Type 0
IsOk (Ok a) = Unit {0}
IsOk (Err e) = ⊥

record IsGiven {A : Type 0} (r : Result (A × TypingState) Broken) : Type 0 where
  so : IsOk r

is_given : {A : Type 0} (a : A × TypingState) → IsGiven (Ok a)
is_given a = record { so = tt }

given_both : {A B : Type 0} {r : Result (A × TypingState) Broken} {f : A → Check B} → IsGiven r → ((a : A) (t : TypingState) → IsGiven
    (f a t)) → IsGiven (and_then r f)
given_both {r = Ok a} h k = k a.0 a.1
given_both {r = Err e} h k = absurd h.so

interned_is_given : (ty : Ty) (s : TypingState) → IsGiven (interned ty s)
interned_is_given ty s = by (position_of (is_equal ty) s.items.types)
  where
    by : (o : Option ℕ) → IsGiven (interned_at ty o s)
    by (Some n) = is_given _
    by None = is_given _

obeyed_is_given : {B : Type 0} (rule : Rule) (at : Pos) (holds : Bool) (f : Check B) (s : TypingState) → IsTrue holds → IsGiven (f
    s) → IsGiven (and_then (obeys rule at holds s) (λ _. f))
obeyed_is_given rule at true f s h k = k
obeyed_is_given rule at false f s h k = absurd (false≢true h)

module _ (around : types.WrittenScope) (items : ItemTable) where
  -- names alone
  abbrev names : types.WrittenScope
  names = record around { has_limits = false }

  named_is_given : (at : Pos) (adt : Option ℕ) (scalar : Option TyId) (ty : TyId) → NamesTy items adt scalar ty → (s :
      TypingState) → IsGiven (types.named_by at adt scalar s)
  named_is_given at adt (Some scalar) ty h s = is_given _
  named_is_given at None None ty h s = absurd h
  named_is_given at (Some n) None ty h s = interned_is_given (Ty.Adt n) s

  tuple_is_given : (tys : List TyId) (s : TypingState) → IsGiven (types.tuple_by tys s)
  tuple_is_given [] s = is_given _
  tuple_is_given (ty ∷ tys) s = interned_is_given (Ty.Tuple (ty ∷ tys)) s

  known_is_given : {A B : Type 0} (rule : Rule) (at : Pos) (o : Option A) (a : A) → o ≡ Some a → (f : A → Check B) (s :
      TypingState) → ((b : A) → IsGiven (f b s)) → IsGiven (and_then (known rule at o s) f)
  known_is_given rule at (Some b) a e f s k = k b
  known_is_given rule at None a e f s k = absurd (none_is a e)
    where
      none_is : {A : Type 0} (a : A) → ◌≡◌ {A = Option A} None (Some a) → ⊥
      none_is a e = false≢true (ap is_some e)

  mutual
    written_is_given : (e : Syn) (ty : TyId) → Means around items e ty → (s : TypingState) → IsGiven (types.written names e s)
    written_is_given (syn at (AType t)) ty h s = form_is_given at t ty h s
    written_is_given _ ty h s = absurd h

    form_is_given : (at : Pos) (form : WrittenType) (ty : TyId) → MeansForm around items form ty → (s : TypingState) → IsGiven
        (types.written_form names at form s)
    form_is_given at (NamedType name) ty h s =
        named_is_given at (types.number_of around.adts name) (types.scalar_named name) ty h s
    form_is_given at (GenericType name content) ty h s =
        obeyed_is_given Rule.T01 at (types.is_box name) _ s h.3 (given_both (written_is_given content h.0 h.1 s) λ a t.
        interned_is_given (Ty.Boxed a) t)
    form_is_given at (DynType name trait_) ty h s =
        obeyed_is_given Rule.T01 at (types.is_box name) _ s h.5 (known_is_given Rule.T01 trait_.0 (types.number_of
        around.traits trait_.1) h.0 h.2 _ s λ n. given_both (interned_is_given (Ty.Dyn n) s) λ a t. interned_is_given
        (Ty.Boxed a) t)
    form_is_given at SelfType ty h s =
        known_is_given Rule.T01 at around.self_adt h.0 h.1 _ s λ n. interned_is_given (Ty.Adt n) s
    form_is_given at (ParensType inside) ty h s = written_is_given inside ty h s
    form_is_given at (TupleType parts) ty h s =
        given_both (all_are_given parts h.0 h.1 s) λ tys t. given_both (tuple_is_given tys t) λ a u. is_given _
    form_is_given at (ArrayType element count suffix) ty h s =
        given_both (written_is_given element h.0 h.1 s) λ a t. interned_is_given (Ty.Array a (types.length_shown count))
        t
    form_is_given at NeverType ty h s = is_given _
    form_is_given at (RefType unique to) ty h s =
        given_both (written_is_given to h.0 h.1 s) λ a t. interned_is_given (types.reference_to unique a) t

    all_are_given : (xs : Syns) (tys : List TyId) → MeanAll around items xs tys → (s : TypingState) → IsGiven
        (types.all_written names xs s)
    all_are_given no_syn tys h s = is_given _
    all_are_given (a_syn first rest) [] h s = absurd h
    all_are_given (a_syn first rest) (ty ∷ tys) h s =
        given_both (written_is_given first ty h.0 s) λ a t. given_both (all_are_given rest tys h.1 t) λ as_ u. is_given _

-- ---- what a step of the collection adds

-- From one state to a later one come heads of these bodies, and these structs and enums; closures among the bodies have
-- the numbers from one up to another.
pub record Collects (f : Tape) (is : List Syn) (from to : ℕ) (s t : TypingState) : Type 0 where
  pub new_adts : List Adt
  pub adts : t.items.adts ≡ s.items.adts ++ new_adts
  pub are_adts : AreAdtsOf is new_adts
  pub types : HaveTypes s.items t.items
  pub distinct : AreDistinct s.items.types → AreDistinct t.items.types
  pub closures : t.items.closures ≡ s.items.closures
  pub new : List Sig
  pub heads : t.items.bodies ≡ s.items.bodies ++ new
  pub made : (rest : List BodySyn) → AreMade (IsHeadOf t.items) from to (f rest) rest new

-- nothing but types
collects_none : (n : ℕ) (s t : TypingState) → t.items.adts ≡ s.items.adts → HaveTypes s.items t.items → (AreDistinct s.items.types → AreDistinct
    t.items.types) → t.items.closures ≡ s.items.closures → t.items.bodies ≡ s.items.bodies → Collects no_closure [] n n s t
collects_none n s t adts types distinct closures heads = record {
  new_adts = [];
  adts = adts ∙ sym (append-nil s.items.adts);
  are_adts = tt;
  types = types;
  distinct = distinct;
  closures = closures;
  new = [];
  heads = heads ∙ sym (append-nil s.items.bodies);
  made = λ rest. (refl, refl);
}

collects_still : (n : ℕ) {s t : TypingState} → SameWalk s t → Collects no_closure [] n n s t
collects_still n {s} {t} e = collects_none n s t e.stays.adts e.stays.types e.stays.distinct e.stays.closures e.stays.heads

collects_refl : (n : ℕ) (s : TypingState) → Collects no_closure [] n n s s
collects_refl n s = collects_still n (still s)

adts_both : (is js : List Syn) (as_ bs : List Adt) → AreAdtsOf is as_ → AreAdtsOf js bs → AreAdtsOf (is ++ js) (as_ ++ bs)
adts_both [] js [] bs h k = k
adts_both [] js (a ∷ as_) bs h k = absurd h
adts_both (i ∷ is) js [] bs h k = absurd h
adts_both (i ∷ is) js (a ∷ as_) bs h k = (h.0, adts_both is js as_ bs h.1 k)

-- ---- among later items

module _ (old new : ItemTable) (e : HaveTypes old new) where
  module _ (around : types.WrittenScope) where
    if_any_later : (written : Syn) (ty : TyId) → MeansIfAny around old written ty → MeansIfAny around new written ty
    if_any_later written ty h = λ others t m. means_later around old new e written ty (h others t m)

    closure_param_later : (p : Syn) (ty : TyId) → MeansClosureParam around old p ty → MeansClosureParam around new p ty
    closure_param_later (syn at (AParam (ParamOf p written))) ty h = if_any_later written ty h
    closure_param_later (syn at _) ty h = h

    closure_params_later : (ps : Syns) (tys : List TyId) → MeanClosureParams around old ps tys → MeanClosureParams around
        new ps tys
    closure_params_later no_syn [] h = h
    closure_params_later no_syn (ty ∷ tys) h = h
    closure_params_later (a_syn first rest) [] h = h
    closure_params_later (a_syn first rest) (ty ∷ tys) h =
        (closure_param_later first ty h.0, closure_params_later rest tys h.1)

    closure_answer_later : (answer : MaybeSyn) (ty : TyId) → MeansClosureAnswer around old answer ty → MeansClosureAnswer
        around new answer ty
    closure_answer_later nothing ty h = h
    closure_answer_later (just written) ty h = if_any_later written ty h

  head_later : (closure : ℕ) (text : BodySyn) (params : List TyId) (answer : TyId) → AreHeadTypes old closure text params
      answer → AreHeadTypes new closure text params answer
  head_later closure (Function head) params answer h = types_later old new e head params answer h
  head_later closure (Closure head) [] answer h = h
  head_later closure (Closure head) (self ∷ params) answer h = (
    e self.0 (Ty.Closure closure) h.0,
    closure_params_later head.around head.params params h.1,
    closure_answer_later head.around head.answer answer h.2,
  )

collects_both : {f g : Tape} {is js : List Syn} {a b c : ℕ} {s t u : TypingState} → Collects f is a b s t → Collects g js b c t
    u → Collects (f ⨾ g) (is ++ js) a c s u
collects_both {f} {g} {is} {js} {a} {b} {c} {s} {t} {u} p q = record {
  new_adts = p.new_adts ++ q.new_adts;
  adts = q.adts ∙ (ap (λ as_. as_ ++ q.new_adts) p.adts ∙ append_assoc s.items.adts p.new_adts q.new_adts);
  are_adts = adts_both is js p.new_adts q.new_adts p.are_adts q.are_adts;
  types = λ n ty h. q.types n ty (p.types n ty h);
  distinct = λ h. q.distinct (p.distinct h);
  closures = q.closures ∙ p.closures;
  new = p.new ++ q.new;
  heads = q.heads ∙ (ap (λ hs. hs ++ q.new) p.heads ∙ append_assoc s.items.bodies p.new q.new);
  made = λ rest. made_both (IsHeadOf u.items) a b c (f (g rest)) (g rest) rest p.new q.new (made_map (IsHeadOf t.items)
      (IsHeadOf u.items) (λ closure text head h. (
        head_later t.items u.items q.types closure text head.params head.result
            h.0,
        h.1,
      )) a b (f (g rest)) (g rest) p.new (p.made (g rest))) (q.made rest);
}

-- ---- heads

-- two facts of one check
pub both_tell : {A : Type 0} {P Q : A → TypingState → Type 0} (r : Result (A × TypingState) Broken) → Walked P r → Walked Q r → Walked (λ
    a t. P a t × Q a t) r
both_tell (Ok a) h k = record { so = (h.so, k.so) }
both_tell (Err e) h k = record { so = tt }

module _ (around : types.WrittenScope) where
  -- names alone, and all rules: what is meant is the same
  abbrev named : types.WrittenScope
  named = record around { has_limits = false }

  pub param_collected : (p : Syn) (s : TypingState) → Walked (λ ty t. SameWalk s t × Means around t.items p ty) (types.written_param
      named p s)
  param_collected p s =
      walk_map (both_tell (types.written_param named p s) (written_param_still named p s) (param_given named p s)) λ ty t
      h. (h.0, as_named t.items p ty h.1.1)
    where
      as_named : (items : ItemTable) (p : Syn) (ty : TyId) → Means named items p ty → Means around items p ty
      as_named items p ty h = h

  type_collected : (e : Syn) (s : TypingState) → Walked (λ ty t. SameWalk s t × Means around t.items e ty) (types.written named e
      s)
  type_collected e s =
      walk_map (both_tell (types.written named e s) (written_still named e s) (written_given named e s)) λ ty t h. (
        h.0,
        as_named t.items e ty h.1.1,
      )
    where
      as_named : (items : ItemTable) (p : Syn) (ty : TyId) → Means named items p ty → Means around items p ty
      as_named items p ty h = h

  -- a type of a closure's head: what cannot be written stands as `()`
  or_unit_collected : (e : Syn) (s : TypingState) → Walked (λ ty t. SameWalk s t × MeansIfAny around t.items e ty) (types.or_unit
      (types.written named e) s)
  or_unit_collected e s = by (types.written named e s) (type_collected e s) (λ others t m. written_is_given around others e t m s)
    where
      by : (r : Result (TyId × TypingState) Broken) → Walked (λ ty t. SameWalk s t × Means around t.items e ty) r → ((others :
          ItemTable) (t : TyId) → Means around others e t → IsGiven r) → Walked (λ ty t. SameWalk s t × MeansIfAny around
          t.items e ty) (types.or_unit_in s r)
      by (Ok a) h given = walk_ends (h.so.0, λ others t m. h.so.1)
      by (Err e) h given = walk_ends (still s, λ others t m. absurd (given others t m).so)

  -- ---- parameters and answers

  pub receiver_collected : (own : TyId) (receiver : Receiver) (s : TypingState) → Walked (λ ty t. SameWalk s t × IsReceiver t.items
      receiver own ty) (rules.receiver_ty own receiver s)
  receiver_collected own ByValue s = walk_ends (still s, refl)
  receiver_collected own ByShared s =
      walk_map (both_tell (interned (Ty.Shared own) s) (interned_still (Ty.Shared own) s (still s)) (interned_means
      (Ty.Shared own) s s (have_refl s.items))) λ ty t h. (h.0, h.1.2)
  receiver_collected own ByUnique s =
      walk_map (both_tell (interned (Ty.Unique own) s) (interned_still (Ty.Unique own) s (still s)) (interned_means
      (Ty.Unique own) s s (have_refl s.items))) λ ty t h. (h.0, h.1.2)

  head_param_collected : (at : Pos) (p : Syn) (s : TypingState) → Walked (λ ty t. SameWalk s t × MeansParam around t.items p ty)
      (rules.param_ty named (rules.own_ty at around.self_adt) p s)
  head_param_collected at (syn here (AParam (ParamOf p ty))) s = param_collected ty s
  head_param_collected at (syn here (AParam (SelfParam receiver))) s =
      walk {f = λ own. rules.receiver_ty own receiver} own_collected λ own t h. walk_map (receiver_collected own receiver
      t) λ ty u k. (
        onward h.2 k.0,
        (h.0, own, h.1, k.0.stays.types own.0 (Ty.Adt h.0) h.3, k.1),
      )
    where
      own_collected : Walked (λ own t. (n : ℕ) × (around.self_adt ≡ Some n) × SameWalk s t × (type_at t.items own ≡ Some
          (Ty.Adt n))) (rules.own_ty at around.self_adt s)
      own_collected =
          walk_found Rule.T01 at around.self_adt _ λ n is. walk_map (both_tell (interned (Ty.Adt n) s) (interned_still
          (Ty.Adt n) s (still s)) (interned_means (Ty.Adt n) s s (have_refl s.items))) λ own t h. (n, is, h.0, h.1.2)
  head_param_collected at (syn here _) s = record { so = tt }

  head_params_collected : (at : Pos) (ps : Syns) (s : TypingState) → Walked (λ tys t. SameWalk s t × MeanParams around t.items ps
      tys) (each_checked (rules.param_ty named (rules.own_ty at around.self_adt)) (list_of ps) s)
  head_params_collected at no_syn s = walk_ends (still s, tt)
  head_params_collected at (a_syn first rest) s =
      walk (head_param_collected at first s) λ ty t h. walk (head_params_collected at rest t) λ tys u k. walk_ends (
        onward h.0 k.0,
        (param_later t.items u.items k.0.stays.types around first ty h.1, k.1),
      )

  pub answer_collected : (answer : MaybeSyn) (s : TypingState) → Walked (λ ty t. SameWalk s t × MeansAnswer around t.items answer ty)
      (rules.answer_ty named answer s)
  answer_collected nothing s = walk_ends (still s, refl)
  answer_collected (just ty) s = type_collected ty s

  closure_param_collected : (p : Syn) (s : TypingState) → Walked (λ ty t. SameWalk s t × MeansClosureParam around t.items p ty)
      (rules.closure_param named p s)
  closure_param_collected (syn at (AParam (ParamOf p ty))) s = or_unit_collected ty s
  closure_param_collected (syn at _) s = walk_ends (still s, tt)

  pub closure_params_collected : (ps : Syns) (s : TypingState) → Walked (λ tys t. SameWalk s t × MeanClosureParams around t.items ps
      tys) (each_checked (rules.closure_param named) (list_of ps) s)
  closure_params_collected no_syn s = walk_ends (still s, tt)
  closure_params_collected (a_syn first rest) s =
      walk (closure_param_collected first s) λ ty t h. walk (closure_params_collected rest t) λ tys u k. walk_ends (
        onward h.0 k.0,
        (closure_param_later t.items u.items k.0.stays.types around first ty h.1, k.1),
      )

  pub closure_answer_collected : (answer : MaybeSyn) (s : TypingState) → Walked (λ ty t. SameWalk s t × MeansClosureAnswer around
      t.items answer ty) (types.or_unit (rules.answer_ty named answer) s)
  closure_answer_collected nothing s = walk_ends (still s, refl)
  closure_answer_collected (just ty) s = or_unit_collected ty s

  -- ---- a body

  -- one more head
  with_head : (text : BodySyn) (n : ℕ) (s t : TypingState) (sig : Sig) → SameWalk s t → IsHeadOf t.items n text sig → Collects (λ
      rest. text ∷ rest) [] n (behind text n) s (record t { items = with_body t.items sig })
  with_head text n s t sig e is = record {
    new_adts = [];
    adts = e.stays.adts ∙ sym (append-nil s.items.adts);
    are_adts = tt;
    types = e.stays.types;
    distinct = e.stays.distinct;
    closures = e.stays.closures;
    new = sig ∷ [];
    heads = ap (λ hs. hs ++ sig ∷ []) e.stays.heads;
    made = λ rest. (
      (head_later t.items (with_body t.items sig) (λ k ty h. h) n text sig.params sig.result is.0, is.1),
      (refl, refl),
    );
  }

  pub sig_collected : (at : Pos) (name : Word) (params : Syns) (answer : MaybeSyn) (s : TypingState) → Walked (λ sig t. SameWalk s
      t × HasTypes t.items (record { around = around; name = []; params = params; answer = answer }) sig.params sig.result × (sig.name ≡
      name)) (rules.sig_of named (rules.own_ty at around.self_adt) name params answer s)
  sig_collected at name params answer s =
      walk (head_params_collected at params s) λ tys t h. walk (answer_collected answer t) λ ty u k. walk_ends (
        onward h.0 k.0,
        (params_later t.items u.items k.0.stays.types around params tys h.1, k.1),
        refl,
      )

-- what is known of all items, within an impl or outside
abbrev pub all_names : rules.Known → Option Word → types.WrittenScope
all_names k owner = record {
  has_limits = true;
  self_adt = option_and_then (types.number_of k.adts) owner;
  adts = k.adts;
  traits = k.traits;
}

either_so : (a b : Bool) → b ≡ true → (a || b) ≡ true
either_so true b h = refl
either_so false b h = h

-- the name of a closure has the mark
marked_behind : (n : ℕ) (ws : Word) → list_any (λ byte. byte == 35) (ws ++ codes "::closure#" ++ number_word n) ≡ true
marked_behind n [] = refl
marked_behind n (w ∷ ws) =
    either_so (w == 35) (list_any (λ byte. byte == 35) (ws ++ codes "::closure#" ++ number_word n)) (marked_behind n ws)

marked : (outer : Word) (n : ℕ) → is_plain_name (closure_name outer n) ≡ false
marked outer n = ap not (marked_behind n outer)

-- the struct or enum of an impl is there
abbrev pub IsOwner : rules.Known → Option Word → Type 0
IsOwner k owner = owner_of (all_names k owner) ≡ owner

pub body_collected : (k : rules.Known) (owner : Option Word) (own : IsOwner k owner) (c : rules.Count) (b : Syn) (s : TypingState) → Walked (λ d t. Collects
    (body_text (all_names k owner) b) [] c.closures d.closures s t) (rules.body_sig k owner c b s)
body_collected k owner own c (syn at (AnItem (FnItem name params answer block))) s =
    walk (sig_collected (all_names k owner) at (full_name owner name.1) params answer s) λ sig t h. walk_ends (with_head
    (all_names k owner) (Function (record { around = all_names k owner; name = name.1; params = params; answer = answer })) c.closures s
    t sig h.0 (h.1, h.2 ∙ ap (λ o. full_name o name.1) (sym own)))
body_collected k owner own c (syn at (AnExpression (MoveOf captures params answer body))) s =
    walk closure_collected λ _ t h. walk_ends (subst (λ n. Collects (body_text (all_names k owner) (syn at (AnExpression (MoveOf captures
    params answer body)))) [] c.closures n s t) (omega arith) h)
  where
    head : WrittenHead
    head = record { around = all_names k owner; name = []; params = params; answer = answer }

    name : Word
    name = closure_name c.outer (c.in_outer + 1)

    params_given : Walked (λ tys t. SameWalk s t × (self : TyId) × (others : List TyId) × (tys ≡ self ∷ others) × (type_at
        t.items self ≡ Some (Ty.Closure c.closures)) × MeanClosureParams (all_names k owner) t.items params others)
        (rules.closure_params (named (all_names k owner)) c.closures params s)
    params_given =
        walk_interned_as (Ty.Closure c.closures) s λ self t e is. walk (closure_params_collected (all_names k owner)
        params t) λ tys u h. walk_ends (
          onward e h.0,
          self,
          tys,
          refl,
          h.0.stays.types self.0 (Ty.Closure c.closures) is,
          h.1,
        )

    closure_collected : Walked (λ _ t. Collects (body_text (all_names k owner) (syn at (AnExpression (MoveOf captures params answer body))))
        [] c.closures (suc c.closures) s t) (rules.closure_head (named (all_names k owner)) c.closures name params answer
        s)
    closure_collected =
        walk params_given λ tys t h. walk (closure_answer_collected (all_names k owner) answer t) λ ty u g. walk_ends
        (with_head (all_names k owner) (Closure (record {
          around = all_names k owner;
          name = [];
          params = params;
          answer = answer;
        })) c.closures s u (record { name = name; params = tys; result = ty }) (onward h.0 g.0) (
          (subst (λ xs. AreHeadTypes
              u.items c.closures (Closure (record {
                around = all_names k owner;
                name = [];
                params = params;
                answer = answer;
              })) xs ty) (sym h.3) (
                g.0.stays.types h.1.0 (Ty.Closure c.closures) h.4,
                closure_params_later t.items u.items g.0.stays.types (all_names k owner) params h.2 h.5,
                g.1,
              )),
          marked c.outer (c.in_outer + 1),
        ))
body_collected k owner own c (syn at _) s = record { so = tt }

pub bodies_collected : (k : rules.Known) (owner : Option Word) (own : IsOwner k owner) (c : rules.Count) (bs : List Syn) (s : TypingState) → Walked (λ d t.
    Collects (bodies_text (all_names k owner) bs) [] c.closures d.closures s t) (rules.body_sigs k owner c bs s)
bodies_collected k owner own c [] s = walk_ends (collects_refl c.closures s)
bodies_collected k owner own c (b ∷ bs) s =
    walk (body_collected k owner own c b s) λ d t h. walk_map (bodies_collected k owner own d bs t) λ e u g. collects_both h g

-- ---- items

-- each of some things, which only makes types
pub each_still : {A B : Type 0} (f : A → Check B) → ((x : A) (s : TypingState) → Walked (Still s) (f x s)) → (xs : List A) (s :
    TypingState) → Walked (Still s) (each_checked f xs s)
each_still f good [] s = walk_ends (still s)
each_still f good (x ∷ xs) s =
    walk (good x s) λ y t e. walk (each_still f good xs t) λ ys u g. walk_ends (onward e g)

pub obeyed_still : (rule : Rule) (at : Pos) (holds : Bool) (s : TypingState) → Walked (Still s) (obeys rule at holds s)
obeyed_still rule at true s = walk_ends (still s)
obeyed_still rule at false s = record { so = tt }

pub derives_still : (ds : List Named) (s : TypingState) → Walked (Still s) (rules.derives_known ds s)
derives_still [] s = walk_ends (still s)
derives_still (d ∷ ds) s =
    walk_obeyed Rule.T01 d.0 (rules.is_derivable d.1) (rules.derives_known ds) λ _. derives_still ds s

-- as many as were checked
each_counted : {A B : Type 0} (f : A → Check B) → ((x : A) (s : TypingState) → Walked (Still s) (f x s)) → (xs : List A) (s :
    TypingState) → Walked (λ ys t. SameWalk s t × (length ys ≡ length xs)) (each_checked f xs s)
each_counted f good [] s = walk_ends (still s, refl)
each_counted f good (x ∷ xs) s =
    walk (good x s) λ y t e. walk (each_counted f good xs t) λ ys u g. walk_ends (onward e g.0, ap suc g.1)

pub names_counted : (k : ℕ) (fs : List Syn) → length (rules.names_from k fs) ≡ length fs
names_counted k [] = refl
names_counted k (f ∷ fs) = ap suc (names_counted (suc k) fs)

pub variant_collected : (around : types.WrittenScope) (name : Word) (fields : Syns) (s : TypingState) → Walked (λ v t. SameWalk s t × (v.name
    ≡ name) × IsVariantOf fields v) (rules.variant_of around name fields s)
variant_collected around name fields s =
    walk (each_counted (λ f. types.written around (rules.field_type f)) (λ f t. written_still around (rules.field_type f)
    t) (list_of fields) s) λ tys t e. walk_ends (e.0, refl, (e.1, refl))

-- a variant that is declared
abbrev IsDeclared : Syn → Variant → Type 0
IsDeclared (syn at (AVariant name kind fields)) v = (v.name ≡ name) × IsVariantOf fields v
IsDeclared _ v = ⊥

declared_collected : (around : types.WrittenScope) (v : Syn) (s : TypingState) → Walked (λ x t. SameWalk s t × IsDeclared v x)
    (rules.declared_variant around v s)
declared_collected around (syn at (AVariant name kind fields)) s =
    walk_map (variant_collected around name fields s) λ v t h. (h.0, (h.1, h.2))
declared_collected around (syn at _) s = record { so = tt }

pub variants_collected : (around : types.WrittenScope) (vs : Syns) (s : TypingState) → Walked (λ xs t. SameWalk s t × AreVariantsOf vs xs)
    (each_checked (rules.declared_variant around) (list_of vs) s)
variants_collected around no_syn s = walk_ends (still s, tt)
variants_collected around (a_syn first rest) s =
    walk (declared_collected around first s) λ x t h. walk (variants_collected around rest t) λ xs u g. walk_ends (
      onward h.0 g.0,
      with_variant first x rest xs h.1 g.1,
    )
  where
    with_variant : (v : Syn) (x : Variant) (rest : Syns) (xs : List Variant) → IsDeclared v x → AreVariantsOf rest xs →
        AreVariantsOf (a_syn v rest) (x ∷ xs)
    with_variant (syn at (AVariant name kind fields)) x rest xs h g = (h, g)
    with_variant (syn at _) x rest xs h g = absurd h

receiver_still : (own : TyId) (receiver : Receiver) (s : TypingState) → Walked (Still s) (rules.receiver_ty own receiver s)
receiver_still own ByValue s = walk_ends (still s)
receiver_still own ByShared s = interned_still (Ty.Shared own) s (still s)
receiver_still own ByUnique s = interned_still (Ty.Unique own) s (still s)

param_still : (around : types.WrittenScope) (self : Check TyId) → ((s : TypingState) → Walked (Still s) (self s)) → (p : Syn) (s :
    TypingState) → Walked (Still s) (rules.param_ty around self p s)
param_still around self good (syn at (AParam (ParamOf p ty))) s = written_param_still around ty s
param_still around self good (syn at (AParam (SelfParam receiver))) s =
    walk (good s) λ own t e. walk_map (receiver_still own receiver t) λ ty u g. onward e g
param_still around self good (syn at _) s = record { so = tt }

answer_ty_still : (around : types.WrittenScope) (answer : MaybeSyn) (s : TypingState) → Walked (Still s) (rules.answer_ty around answer
    s)
answer_ty_still around nothing s = walk_ends (still s)
answer_ty_still around (just ty) s = written_still around ty s

sig_still : (around : types.WrittenScope) (self : Check TyId) → ((s : TypingState) → Walked (Still s) (self s)) → (name : Word) (params
    : Syns) (answer : MaybeSyn) (s : TypingState) → Walked (Still s) (rules.sig_of around self name params answer s)
sig_still around self good name params answer s =
    walk (each_still (rules.param_ty around self) (param_still around self good) (list_of params) s) λ tys t e. walk
    (answer_ty_still around answer t) λ ty u g. walk_ends (onward e g)

pub trait_head_still : (around : types.WrittenScope) (own : TyId) (h : Syn) (s : TypingState) → Walked (Still s) (rules.trait_head around
    own h s)
trait_head_still around own (syn at (AnItem (FnItem name params answer block))) s = by (rules.has_receiver params)
  where
    own_still : (t : TypingState) → Walked (Still t) (Ok (own, t))
    own_still t = walk_ends (still t)

    by : (b : Bool) → Walked (Still s) ((if b then rules.sig_of around (λ t. Ok (own, t)) name.1 params answer else (λ t.
        and_then (interned (Ty.Shared own) t) (λ self u. and_then (rules.sig_of around (λ t. Ok (own, t)) name.1
        (rules.behind_self params) answer u) (λ sig v. Ok (rules.with_receiver self sig, v))))) s)
    by true = sig_still around (λ t. Ok (own, t)) own_still name.1 params answer s
    by false =
        walk (interned_still (Ty.Shared own) s (still s)) λ self t e. walk (sig_still around (λ t. Ok (own, t)) own_still
        name.1 (rules.behind_self params) answer t) λ sig u g. walk_ends (onward e g)
trait_head_still around own (syn at _) s = record { so = tt }

-- a struct or an enum
abbrev pub adts_in : Syn → List Syn
adts_in (syn at (AnItem (StructItem derives name kind fields))) = syn at (AnItem (StructItem derives name kind fields)) ∷ []
adts_in (syn at (AnItem (EnumItem derives name variants))) = syn at (AnItem (EnumItem derives name variants)) ∷ []
adts_in _ = []

with_adt_collects : (n : ℕ) (i : Syn) {s t : TypingState} → SameWalk s t → (adt : Adt) → IsAdtOf i adt → Collects no_closure (i ∷
    []) n n s (record t { items = with_adt t.items adt })
with_adt_collects n i {s} {t} e adt is = record {
  new_adts = adt ∷ [];
  adts = ap (λ as_. as_ ++ adt ∷ []) e.stays.adts;
  are_adts = (is, tt);
  types = e.stays.types;
  distinct = e.stays.distinct;
  closures = e.stays.closures;
  new = [];
  heads = e.stays.heads ∙ sym (append-nil s.items.bodies);
  made = λ rest. (refl, refl);
}

pub item_head_collected : (k : rules.Known) (n : ℕ) (i : Syn) (s : TypingState) → Walked (λ _ t. Collects no_closure (adts_in i) n
    n s t) (rules.item_head k i s)
item_head_collected k n (syn at (AnItem (StructItem ds name kind fields))) s =
    walk (derives_still ds s) λ _ t e. walk (variant_collected (rules.names_alone k (types.number_of k.adts name.1)) name.1
    fields t) λ v u g. walk_ends (with_adt_collects n (syn at (AnItem (StructItem ds name kind fields))) (onward e g.0) (rules.adt_of
    k ds name.1 false (v ∷ [])) (refl, v, refl, g.2, (g.1, refl, refl)))
item_head_collected k n (syn at (AnItem (EnumItem ds name variants))) s =
    walk (derives_still ds s) λ _ t e. walk (variants_collected (rules.names_alone k (types.number_of k.adts name.1))
    variants t) λ vs u g. walk_ends (with_adt_collects n (syn at (AnItem (EnumItem ds name variants))) (onward e g.0) (rules.adt_of k
    ds name.1 true vs) (refl, refl, g.1, refl))
item_head_collected k n (syn at (AnItem (TraitItem name heads))) s =
    walk (interned_still (Ty.Dyn (length s.items.traits)) s (still s)) λ own t e. walk (each_still (rules.trait_head
    (rules.names_alone k None) own) (trait_head_still (rules.names_alone k None) own) (list_of heads) t) λ sigs u g.
    walk_ends (let w = onward e g in collects_none n s _ w.stays.adts w.stays.types w.stays.distinct w.stays.closures
    w.stays.heads)
item_head_collected k n (syn at (AnItem (ImplItem None name methods))) s =
    walk_map (obeyed_still Rule.T01 name.0 (is_some (types.number_of k.adts name.1)) s) λ _ t e. collects_still n e
item_head_collected k n (syn at (AnItem (ImplItem (Some trait_) name methods))) s =
    walk_obeyed Rule.T01 trait_.0 (rules.is_drop trait_.1 || is_some (types.number_of k.traits trait_.1)) _ λ _. walk_map
    (obeyed_still Rule.T01 name.0 (is_some (types.number_of k.adts name.1)) s) λ _ t e. collects_still n e
item_head_collected k n (syn at _) s = walk_ends (collects_refl n s)

-- a name stands at its number
same_word : (a b : Word) → bytes_eq a b ≡ true → a ≡ b
same_word a b h = (bytes_eq-Decides a b).0 h

pub word_at : (ws : List Word) (w : Word) (n : ℕ) → types.number_of ws w ≡ Some n → slice_get ws n ≡ Some w
word_at ws w n h =
    let at = position-Some (bytes_eq w) ws n [] h in
    slice_get-get_or ws n [] at.0 ∙ ap Some (sym (same_word w _ at.1))

is_owner : (k : rules.Known) (w : Word) → IsTrue (is_some (types.number_of k.adts w)) → IsOwner k (Some w)
is_owner k w h = by (types.number_of k.adts w) refl h
  where
    by : (o : Option ℕ) → types.number_of k.adts w ≡ o → IsTrue (is_some o) → option_and_then (slice_get k.adts) o ≡ Some w
    by (Some n) e h = word_at k.adts w n e
    by None e h = absurd (false≢true h)

obeyed_tells : {P : Type 0} (rule : Rule) (at : Pos) (b : Bool) (s : TypingState) → (IsTrue b → P) → Walked (λ _ t. P) (obeys rule
    at b s)
obeyed_tells rule at true s h = walk_ends (h refl)
obeyed_tells rule at false s h = record { so = tt }

tells_so : {A : Type 0} {P : Type 0} (r : Result (A × TypingState) Broken) → P → Walked (λ a t. P) r
tells_so (Ok a) p = walk_ends p
tells_so (Err e) p = record { so = tt }

pub owner_known : (k : rules.Known) (i : Syn) (s : TypingState) → Walked (λ _ t. IsOwner k (impl_owner i)) (rules.item_head k i s)
owner_known k (syn at (AnItem (ImplItem None name methods))) s =
    obeyed_tells Rule.T01 name.0 (is_some (types.number_of k.adts name.1)) s (is_owner k name.1)
owner_known k (syn at (AnItem (ImplItem (Some trait_) name methods))) s =
    walk_obeyed Rule.T01 trait_.0 (rules.is_drop trait_.1 || is_some (types.number_of k.traits trait_.1)) _ λ _.
    obeyed_tells Rule.T01 name.0 (is_some (types.number_of k.adts name.1)) s (is_owner k name.1)
owner_known k (syn at _) s = tells_so _ refl

-- ---- the whole

-- the bodies that are listed for all items, and the structs and enums
abbrev pub listed_text : rules.Known → List ItemSyn → Tape
listed_text k [] = no_closure
listed_text k (i ∷ is) = bodies_text (all_names k (impl_owner i.item)) i.bodies ⨾ listed_text k is

abbrev pub all_adts : List ItemSyn → List Syn
all_adts [] = []
all_adts (i ∷ is) = adts_in i.item ++ all_adts is

heads_collected : (k : rules.Known) (c : rules.Count) (is : List ItemSyn) (s : TypingState) → Walked (λ _ t. (n : ℕ) × Collects
    (listed_text k is) (all_adts is) c.closures n s t) (rules.heads_collected k c is s)
heads_collected k c [] s = walk_ends (c.closures, collects_refl c.closures s)
heads_collected k c (i ∷ is) s =
    walk (both_tell (rules.item_head k i.item s) (owner_known k i.item s) (item_head_collected k c.closures i.item s)) λ _ t
    h. walk (bodies_collected k (impl_owner i.item) h.0 c i.bodies t) λ d u g. walk_map (heads_collected k d is u) λ _ v f. (
      f.0,
      collects_both h.1 (collects_both g f.1),
    )

-- what only makes types and impls
pub record SameHeads (s t : TypingState) : Type 0 where
  pub types : HaveTypes s.items t.items
  pub distinct : AreDistinct s.items.types → AreDistinct t.items.types
  pub adts : t.items.adts ≡ s.items.adts
  pub traits : t.items.traits ≡ s.items.traits
  pub closures : t.items.closures ≡ s.items.closures
  pub heads : t.items.bodies ≡ s.items.bodies

pub same_heads : {s t : TypingState} → SameWalk s t → SameHeads s t
same_heads e = record {
  types = e.stays.types;
  distinct = e.stays.distinct;
  adts = e.stays.adts;
  traits = e.stays.traits;
  closures = e.stays.closures;
  heads = e.stays.heads;
}

pub same_both : {s t u : TypingState} → SameHeads s t → SameHeads t u → SameHeads s u
same_both p q = record {
  types = λ n ty h. q.types n ty (p.types n ty h);
  distinct = λ h. q.distinct (p.distinct h);
  adts = q.adts ∙ p.adts;
  traits = q.traits ∙ p.traits;
  closures = q.closures ∙ p.closures;
  heads = q.heads ∙ p.heads;
}

impl_same : (k : rules.Known) (i : Syn) (s : TypingState) → Walked (λ _ t. SameHeads s t) (rules.impl_of k i s)
impl_same k (syn at (AnItem (ImplItem (Some trait_) name methods))) s = by (rules.is_drop trait_.1)
  where
    added : Check (Unit {0})
    added t =
        and_then (known Rule.T01 trait_.0 (types.number_of k.traits trait_.1) t) (λ n u. and_then (known Rule.T01 name.0
        (types.number_of k.adts name.1) u) (λ adt. rules.impl_added k n adt trait_.1 name.1))

    by : (b : Bool) → Walked (λ _ t. SameHeads s t) ((if b then (λ t. Ok (tt, t)) else added) s)
    by true = walk_ends (same_heads (still s))
    by false =
        walk_found Rule.T01 trait_.0 (types.number_of k.traits trait_.1) _ λ n is. walk_found Rule.T01 name.0
        (types.number_of k.adts name.1) _ λ adt is. walk_ends (record {
          types = λ n ty h. h;
          distinct = λ h. h;
          adts = refl;
          traits = refl;
          closures = refl;
          heads = refl;
        })
impl_same k (syn at (AnItem (ImplItem None name methods))) s = walk_ends (same_heads (still s))
impl_same k (syn at _) s = walk_ends (same_heads (still s))

pub impls_same : (k : rules.Known) (is : List Syn) (s : TypingState) → Walked (λ _ t. SameHeads s t) (each_checked (rules.impl_of k)
    is s)
impls_same k [] s = walk_ends (same_heads (still s))
impls_same k (i ∷ is) s =
    walk (impl_same k i s) λ _ t e. walk (impls_same k is t) λ _ u g. walk_ends (same_both e g)

pub finite_still : (n : ℕ) (as_ : List (Pos × List Named)) (s : TypingState) → Walked (Still s) (rules.all_finite n as_ s)
finite_still n [] s = walk_ends (still s)
finite_still n (a ∷ as_) s =
    walk {f = λ _. rules.all_finite (suc n) as_} (walk (interned_still (Ty.Adt n) s (still s)) λ ty t e. walk_map
    (obeyed_still Rule.T09 a.0 (not (rules.holds t.items ty ty)) t) λ _ u g. onward e g) λ _ t e. walk_map (finite_still
    (suc n) as_ t) λ _ u g. onward e g

pub derive_still : (dropped : List Word) (n : ℕ) (as_ : List (Pos × List Named)) (s : TypingState) → Walked (Still s)
    (rules.all_derive dropped n as_ s)
derive_still dropped n [] s = walk_ends (still s)
derive_still dropped n (a ∷ as_) s =
    walk (obeyed_still Rule.T10 a.0 (rules.may_derive s.items dropped a.1 (slice_get s.items.adts n)) s) λ _ t e.
    walk_map
    (derive_still dropped (suc n) as_ t) λ _ u g. onward e g

pub names_still : (ns : List Named) (earlier : List Word) (s : TypingState) → Walked (Still s) (rules.names_differ ns earlier s)
names_still [] earlier s = walk_ends (still s)
names_still (n ∷ ns) earlier s =
    walk (obeyed_still Rule.T02 n.0 (not (is_among n.1 earlier || is_among n.1 built_in)) s) λ _ t e. walk_map
    (names_still ns (earlier ++ n.1 ∷ []) t) λ _ u g. onward e g

-- what is collected of a text
pub record AreHeads (parts : Parts Pos) (items : ItemTable) : Type 0 where
  pub distinct : AreDistinct items.types
  pub adts : AreAdtsOf (all_adts (items_of parts)) items.adts
  pub closures : items.closures ≡ []
  pub count : ℕ
  pub made : AreMade (IsHeadOf items) 0 count (listed_text (rules.known_of (items_of parts)) (items_of parts) []) []
      items.bodies

pub heads_later : (old new : ItemTable) → HaveTypes old new → (from to : ℕ) (texts rest : List BodySyn) (heads : List Sig) →
    AreMade (IsHeadOf old) from to texts rest heads → AreMade (IsHeadOf new) from to texts rest heads
heads_later old new e from to texts rest heads =
    made_map (IsHeadOf old) (IsHeadOf new) (λ closure text head h. (
      head_later old new e closure text head.params
          head.result h.0,
      h.1,
    )) from to texts rest heads

pub collecting_collects : (is : List ItemSyn) (end : Pos) → Walked (λ _ t. (u : TypingState) × (n : ℕ) × Collects (listed_text
    (rules.known_of is) is) (all_adts is) 0 n (rules.starting_with rules.no_items) u × SameHeads u t)
    (rules.collecting is end (rules.starting_with rules.no_items))
collecting_collects is end =
    walk (names_still (filter_map rules.item_name (item_syns is)) [] start) λ _ t e. walk (heads_collected (rules.known_of
    is) (record { outer = []; in_outer = 0; closures = 0 }) is t) λ _ u h. walk (impls_same (rules.known_of is) (item_syns
    is) u) λ _ v f. walk (finite_still 0 (filter_map rules.adt_item (item_syns is)) v) λ _ w g. walk (derive_still
    (rules.drop_owners is) 0
    (filter_map rules.adt_item (item_syns is)) w) λ _ x d. walk_map (obeyed_still Rule.T01 end (is_some (types.number_of
    (body_paths is) (codes "main"))) x) λ _ y o. (
      u,
      h.0,
      collects_both (collects_still 0 e) h.1,
      same_both f (same_heads (onward g (onward d o))),
    )
  where
    start : TypingState
    start = rules.starting_with rules.no_items
