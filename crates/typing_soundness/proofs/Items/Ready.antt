-- The items of a text whose types keep all rules are ready: what types hold is there, and stands alone.
use Rattle.std.proofs.Common.{◌≡◌, ℕ, zero, suc, ◌+◌, Bool, true, false, ◌||◌, ◌==◌, not, nat_le, if◌then◌else◌, List, [], ◌∷◌, ◌++◌, length, slice_get, flat_map, Option, Some, None, Result, Ok, Err, IsTrue, Contains, ◌⊎◌, inl, inr, refl, ap, sym, subst, ◌∙◌, arith}
use Rattle.std.specs.Prelude.{option_and_then, codes, is_some}
use Rattle.std.proofs.lemmas.Bool.{false≢true}
use Rattle.std.proofs.lemmas.Option.{same_Some, none-some}
use Rattle.std.proofs.lemmas.List.Elements.{Contains-append_cases}
use Rattle.mir_base.specs.declared.place_in_text.Pos.{Pos}
use Rattle.mir_base.specs.declared.rule.Rule.{Rule}
use Rattle.mir_ty.specs.declared.adt.Adt.{Adt}
use Rattle.mir_ty.specs.declared.adt.Variant.{Variant}
use Rattle.mir_ty.specs.declared.def.Sig.{Sig}
use Rattle.mir_ty.specs.declared.def.TraitDef.{TraitDef}
use Rattle.mir_ty.specs.declared.ty.Ty.{Ty}
use Rattle.mir_ty.specs.declared.ty.TyId.{TyId}
use Rattle.mir_ty.specs.ItemTable.{ItemTable, type_at, with_adt, with_trait, with_impl, with_body}
use Rattle.mir_ty.specs.Parts.{held_by, parts_of, fields_of, variants_of, captures_of, of_one_variant}
use Rattle.mir_ty.proofs.ListLemmas.{slice_get-push_cases, slice_get-Contains}
use Rattle.well_typed.proofs.ClaimLemmas.{true_left, true_right}
use Rattle.typing_rules.specs.Check.{Check, TypingState, Broken, and_then, obeys, known, each_checked, interned}
use Rattle.typing_rules.specs.Collected as rules
use Rattle.typing_rules.specs.Items.{ItemSyn, item_syns, body_paths, impl_owner, full_name, closure_name}
use Rattle.well_typed.specs.Names.{is_among, built_in}
use Rattle.mir_ty.specs.declared.def.ImplDef.{ImplDef}
use Rattle.well_typed.specs.Types.{closure_in, reference_in, is_reference}
use Rattle.typing_rules.specs.Program.{behind_self}
use Rattle.typing_rules.proofs.Sound.References.{reference_made}
use Rattle.typing_rules.proofs.Sound.Written.{dyn_made}
use Rattle.typing_rules.specs.Places.{unit}
use Rattle.typing_rules.specs.Promises.{IsAlone, IsKnown, IsReady, IsThere, AreReady, Gives, Extends}
use Rattle.typing_rules.specs.Written as types
use Rattle.src_ast.specs.Syntax.{Word, Named, Receiver, ByValue, ByShared, ByUnique, Syn, syn, AnExpression, AType, AnItem, AParam, AField, AVariant, MoveOf, WrittenType, NamedType, GenericType, DynType, SelfType, ParensType, TupleType, ArrayType, NeverType, RefType, StructItem, EnumItem, TraitItem, ImplItem, FnItem, ParamOf, SelfParam, Syns, no_syn, a_syn, list_of, MaybeSyn, nothing, just}
use Rattle.typing_rules.proofs.Sound.Gives.{bind, weaker, with_ready, given, gives_nothing, obeyed, found, grows_refl, grows_trans}
use Rattle.typing_rules.specs.RowPromises.{IsMade}
use Rattle.typing_rules.proofs.Sound.Interned.{interned_sound}
use Rattle.typing_rules.proofs.Sound.Later.{known_later, ready_later}
use Rattle.typing_soundness.specs.Legal.{legal, legal_form, all_legal, legal_param, legal_param_form, param_legal, params_legal, answer_legal, head_legal, field_legal, fields_legal, variant_legal, variants_legal, trait_head_legal, trait_heads_legal, body_legal, item_legal}
use Rattle.typing_soundness.specs.Walks.{Walked}
use Rattle.typing_soundness.proofs.Items.Collected.{IsOwner, all_names, owner_known, body_collected, bodies_collected, item_head_collected, names_still}
use Rattle.std.specs.List.{filter_map}
use Rattle.typing_soundness.proofs.Bodies.Types.{IsPlain, IsParamTy, adt_plain, ref_param, plain_alone, plain_param, value_plain, unit_plain, written_plain, written_param_sound}
use Rattle.typing_soundness.proofs.Walking.Lawful.{all_are_legal}
use Rattle.typing_soundness.proofs.Walking.Steps.{walk, walk_map, walk_found, walk_ends}

-- ---- names alone and all rules give the same, of what keeps all rules

module _ (around : types.WrittenScope) where
  abbrev names : types.WrittenScope
  names = record around { has_limits = false }

  abbrev full : types.WrittenScope
  full = record around { has_limits = true }

  mutual
    pub same_written : (e : Syn) → IsTrue (legal e) → (s : TypingState) → types.written names e s ≡ types.written full e s
    same_written (syn at (AType t)) h s = same_form at t h s
    same_written _ h s = absurd (false≢true h)

    same_form : (at : Pos) (form : WrittenType) → IsTrue (legal_form form) → (s : TypingState) → types.written_form names at form s ≡
        types.written_form full at form s
    same_form at (NamedType name) h s = refl
    same_form at (GenericType name content) h s =
        λ i. and_then (obeys Rule.T01 at (types.is_box name) s) (λ _ t. and_then (same_written content h t i) (λ ty.
        interned (Ty.Boxed ty)))
    same_form at (DynType name trait_) h s = refl
    same_form at SelfType h s = refl
    same_form at (ParensType inside) h s = same_written inside h s
    same_form at (TupleType parts) h s =
        (λ i. and_then (same_all parts (true_left (all_legal parts) _ h) s i) (λ tys t. and_then (types.tuple_by tys t) (λ
        ty u. Ok (ty, u)))) ∙ few_parts (types.all_written full parts s) (all_are_legal around parts s)
      where
        few_parts : (r : Result (List TyId × TypingState) Broken) → Walked (λ tys t. IsTrue (all_legal parts) × (length tys ≡
            length (list_of parts))) r → and_then r (λ tys t. and_then (types.tuple_by tys t) (λ ty u. Ok (ty, u))) ≡
            and_then r (λ tys t. and_then (types.tuple_by tys t) (λ ty u. and_then (obeys Rule.T19 at (nat_le (length tys)
            12) u) (λ _ v. Ok (ty, v))))
        few_parts (Err e) w = refl
        few_parts (Ok a) w =
            let few : true ≡ nat_le (length a.0) 12 = sym (true_right (all_legal parts) _ h) ∙ ap (λ n. nat_le n 12) (sym
            w.so.1) in
            λ i. and_then (types.tuple_by a.0 a.1) (λ ty u. and_then (obeys Rule.T19 at (few i) u) (λ _ v. Ok (ty, v)))
    same_form at (ArrayType element count suffix) h s =
        let sized : true ≡ types.is_usize suffix = sym (true_left (types.is_usize suffix) _ (true_right (legal element) _
        h)) in
        let few : true ≡ nat_le count 32 = sym (true_right (types.is_usize suffix) _ (true_right (legal element) _ h)) in
        λ i. and_then (same_written element (true_left (legal element) _ h) s i) (λ ty t. and_then (obeys Rule.T03 at
        (sized i) t) (λ _ u. and_then (obeys Rule.T19 at (few i) u) (λ _. interned (Ty.Array ty (types.length_shown
        count)))))
    same_form at NeverType h s = refl
    same_form at _ h s = absurd (false≢true h)

    same_all : (xs : Syns) → IsTrue (all_legal xs) → (s : TypingState) → types.all_written names xs s ≡ types.all_written full xs
        s
    same_all no_syn h s = refl
    same_all (a_syn first rest) h s =
        λ i. and_then (same_written first (true_left (legal first) _ h) s i) (λ ty t. and_then (same_all rest (true_right
        (legal first) _ h) t i) (λ tys u. Ok (ty ∷ tys, u)))

  mutual
    pub same_param : (e : Syn) → IsTrue (legal_param e) → (s : TypingState) → types.written_param names e s ≡ types.written_param
        full e s
    same_param (syn at (AType t)) h s = same_param_form at t h s
    same_param _ h s = refl

    same_param_form : (at : Pos) (form : WrittenType) → IsTrue (legal_param_form form) → (s : TypingState) → types.written_param_form
        names at form s ≡ types.written_param_form full at form s
    same_param_form at (ParensType inside) h s = same_param inside h s
    same_param_form at (RefType unique to) h s =
        λ i. and_then (same_written to h s i) (λ ty. interned (types.reference_to unique ty))
    same_param_form at form h s = same_form at form h s

  type_ready : (e : Syn) → IsTrue (legal e) → (s : TypingState) → Gives s (λ w t. IsPlain w.items t) (types.written names e s)
  type_ready e h s = subst (Gives s (λ w t. IsPlain w.items t)) (sym (same_written e h s)) (written_plain full refl e s)

  param_ready : (e : Syn) → IsTrue (legal_param e) → (s : TypingState) → Gives s (λ w t. IsParamTy w.items t)
      (types.written_param names e s)
  param_ready e h s =
      subst (Gives s (λ w t. IsParamTy w.items t)) (sym (same_param e h s)) (written_param_sound full refl e s)

-- ---- heads

-- each of some things
abbrev pub All : {A : Type 0} → (A → Type 0) → List A → Type 0
All P [] = Unit {0}
All P (x ∷ xs) = P x × All P xs

pub all_map : {A : Type 0} (P Q : A → Type 0) → ((x : A) → P x → Q x) → (xs : List A) → All P xs → All Q xs
all_map P Q so [] h = h
all_map P Q so (x ∷ xs) h = (so x h.0, all_map P Q so xs h.1)

pub all_at : {A : Type 0} (P : A → Type 0) (xs : List A) (k : ℕ) (x : A) → All P xs → slice_get xs k ≡ Some x → P x
all_at P [] k x h is = absurd (none-some x is)
all_at P (y ∷ xs) zero x h is = subst P (same_Some y x is) h.0
all_at P (y ∷ xs) (suc k) x h is = all_at P xs k x h.1 is

pub all_in : {A : Type 0} (P : A → Type 0) (xs : List A) (x : A) → All P xs → Contains xs x → P x
all_in P xs x h has = all_at P xs has.0 x h (slice_get-Contains xs x has)

-- a check of each of some things, of which something is so that stays
each_gives : {A B : Type 0} (f : A → Check B) (P : A → Type 0) (Q : ItemTable → B → Type 0) → ((old new : ItemTable) →
    Extends old new → (y : B) → Q old y → Q new y) → ((x : A) (s : TypingState) → P x → Gives s (λ w y. Q w.items y) (f x s)) →
    (xs : List A) (s : TypingState) → All P xs → Gives s (λ w ys. All (Q w.items) ys) (each_checked f xs s)
each_gives f P Q later good [] s h = given [] λ ready w g. tt
each_gives f P Q later good (x ∷ xs) s h =
    bind (good x s h.0) λ y t g d. bind (each_gives f P Q later good xs t h.1) λ ys u k e. given (y ∷ ys) λ ready w l. (
      d w (grows_trans k l),
      e w l,
    )

param_ty_later : (old new : ItemTable) → Extends old new → (ty : TyId) → IsParamTy old ty → IsParamTy new ty
param_ty_later old new e ty h = (h.0, e.types ty.0 h.0 h.1, there h.0 h.3, h.3, h.4)
  where
    there : (t : Ty) → closure_in t ≡ None → IsThere new t
    there (Ty.Closure n) plain = absurd (none-some n (sym plain))
    there _ plain = tt

plain_later : (old new : ItemTable) → Extends old new → (ty : TyId) → IsPlain old ty → IsPlain new ty
plain_later old new e ty h = value_plain old new e ty h

-- the types of a head
abbrev HasParams : ItemTable → Sig → Type 0
HasParams items sig = All (IsParamTy items) sig.params × IsPlain items sig.result

module _ (around : types.WrittenScope) where
  own_ready : (at : Pos) (s : TypingState) → Gives s (λ w ty. IsPlain w.items ty) (rules.own_ty at around.self_adt s)
  own_ready at s = found Rule.T01 at around.self_adt _ λ n is. adt_plain n s

  receiver_ready : (own : TyId) (receiver : Receiver) (s : TypingState) → IsPlain s.items own → Gives s (λ w ty. IsParamTy w.items
      ty) (rules.receiver_ty own receiver s)
  receiver_ready own ByValue s plain =
      given own λ ready w g. plain_param w.items own (value_plain s.items w.items g.items own plain)
  receiver_ready own ByShared s plain = ref_param false own s (plain_alone s.items own plain)
  receiver_ready own ByUnique s plain = ref_param true own s (plain_alone s.items own plain)

  head_param_ready : (at : Pos) (p : Syn) (s : TypingState) → IsTrue (param_legal legal_param p) → Gives s (λ w ty. IsParamTy
      w.items ty) (rules.param_ty (names around) (rules.own_ty at around.self_adt) p s)
  head_param_ready at (syn here (AParam (ParamOf p ty))) s h = param_ready around ty h s
  head_param_ready at (syn here (AParam (SelfParam receiver))) s h =
      bind (own_ready at s) λ own t g d. receiver_ready own receiver t (d t (grows_refl t))
  head_param_ready at (syn here _) s h = absurd (false≢true h)

  answer_ready : (answer : MaybeSyn) (s : TypingState) → IsTrue (answer_legal answer) → Gives s (λ w ty. IsPlain w.items ty)
      (rules.answer_ty (names around) answer s)
  answer_ready nothing s h =
      with_ready λ all. given unit λ ready w g. unit_plain w.items (g.ready all)
  answer_ready (just ty) s h = type_ready around ty h s

pub params_all : (test : Syn → Bool) (ps : Syns) → IsTrue (params_legal test ps) → All (λ p. IsTrue (param_legal test p))
    (list_of ps)
params_all test no_syn h = tt
params_all test (a_syn first rest) h =
    (true_left (param_legal test first) _ h, params_all test rest (true_right (param_legal test first) _ h))

module _ (around : types.WrittenScope) where
  sig_ready : (at : Pos) (name : Word) (params : Syns) (answer : MaybeSyn) (s : TypingState) → IsTrue (head_legal legal_param
      params answer) → Gives s (λ w sig. HasParams w.items sig) (rules.sig_of (names around) (rules.own_ty at
      around.self_adt) name params answer s)
  sig_ready at name params answer s h =
      bind (each_gives (rules.param_ty (names around) (rules.own_ty at around.self_adt)) (λ p. IsTrue (param_legal
      legal_param p)) IsParamTy param_ty_later (λ p t legal_p. head_param_ready around at p t legal_p) (list_of params) s
      (params_all legal_param params (true_left (params_legal legal_param params) _ h))) λ tys t g d. bind (answer_ready
      around answer t (true_right (params_legal legal_param params) _ h)) λ ty u k e. given _ λ ready w l. (
        d w (grows_trans k l),
        e w l,
      )

  -- ---- closures

  or_unit_ready : (s : TypingState) (r : Result (TyId × TypingState) Broken) → Gives s (λ w ty. IsPlain w.items ty) r → Gives s (λ w ty.
      IsPlain w.items ty) (types.or_unit_in s r)
  or_unit_ready s (Ok a) h = h
  or_unit_ready s (Err e) h = with_ready λ all. given unit λ ready w g. unit_plain w.items (g.ready all)

  closure_param_ready : (p : Syn) (s : TypingState) → IsTrue (param_legal legal p) → Gives s (λ w ty. IsPlain w.items ty)
      (rules.closure_param (names around) p s)
  closure_param_ready (syn at (AParam (ParamOf p ty))) s h =
      or_unit_ready s (types.written (names around) ty s) (type_ready around ty h s)
  closure_param_ready (syn at _) s h = with_ready λ all. given unit λ ready w g. unit_plain w.items (g.ready all)

  closure_answer_ready : (answer : MaybeSyn) (s : TypingState) → IsTrue (answer_legal answer) → Gives s (λ w ty. IsPlain w.items
      ty) (types.or_unit (rules.answer_ty (names around) answer) s)
  closure_answer_ready answer s h = or_unit_ready s (rules.answer_ty (names around) answer s) (answer_ready around answer s
      h)

  closure_params_ready : (n : ℕ) (params : Syns) (s : TypingState) → s.items.closures ≡ [] → IsTrue (params_legal legal params) →
      Gives s (λ w tys. All (IsKnown w.items) tys) (rules.closure_params (names around) n params s)
  closure_params_ready n params s none h =
      bind (interned_sound (Ty.Closure n) s (closure_made s.items n none)) λ self t g d. bind (each_gives
      (rules.closure_param (names around)) (λ p. IsTrue (param_legal legal p)) IsPlain plain_later (λ p u legal_p.
      closure_param_ready p u legal_p) (list_of params) t (params_all legal params h)) λ tys u k e. given (self ∷ tys) λ
      ready w l. (
        (Ty.Closure n, d w (grows_trans k l)),
        all_map (IsPlain w.items) (IsKnown w.items) (λ ty p. (p.0, p.1)) tys (e w l),
      )
    where
      closure_made : (items : ItemTable) (n : ℕ) → items.closures ≡ [] → IsMade items (Ty.Closure n)
      closure_made items n none = record {
        held = λ part has. absurd (no_part part (subst (λ cs. Contains (captures_of (slice_get cs n)) part) none has));
        parts = λ part variant k is. absurd (no_place variant k part (subst (λ cs. slice_get (of_one_variant (captures_of
            (slice_get cs n)) variant) k ≡ Some part) none is));
        inside = λ to is. absurd (none-some to is);
      }
        where
          no_part : (part : TyId) → Contains [] part → ⊥
          no_part part has = omega (arith, has.1)

          no_place : (variant k : ℕ) (part : TyId) → slice_get (of_one_variant [] variant) k ≡ Some part → ⊥
          no_place variant k part is = by (variant == 0) is
            where
              by : (b : Bool) → ◌≡◌ {A = Option TyId} (slice_get (if b then [] else []) k) (Some part) → ⊥
              by true is = none-some part is
              by false is = none-some part is

-- ---- one more struct, enum, trait or head

-- fields stand alone
abbrev AreFields : ItemTable → List Variant → Type 0
AreFields items = All (λ v. All (IsPlain items) v.fields)

field_alone : (items : ItemTable) (vs : List Variant) (variant k : ℕ) (part : TyId) → AreFields items vs → slice_get (fields_of
    (slice_get vs variant)) k ≡ Some part → IsAlone items part
field_alone items vs variant k part h is = by (slice_get vs variant) refl is
  where
    by : (o : Option Variant) → slice_get vs variant ≡ o → slice_get (fields_of o) k ≡ Some part → IsAlone items part
    by None at is = absurd (none-some part is)
    by (Some v) at is =
        plain_alone items part (all_at (IsPlain items) v.fields k part (all_at (λ (x : Variant). All (IsPlain items)
        x.fields) vs variant v h at) is)

held_alone : (items : ItemTable) (vs : List Variant) (part : TyId) → AreFields items vs → Contains (flat_map (λ (v :
    Variant). v.fields) vs) part → IsAlone items part
held_alone items [] part h has = absurd (omega (arith, has.1))
held_alone items (v ∷ vs) part h has =
    by (Contains-append_cases v.fields (flat_map (λ (x : Variant). x.fields) vs) part has) (λ more. held_alone items vs part
    h.1 more)
  where
    by : Contains v.fields part ⊎ Contains (flat_map (λ (x : Variant). x.fields) vs) part → (Contains (flat_map (λ (x :
        Variant). x.fields) vs) part → IsAlone items part) → IsAlone items part
    by (inl here) on = plain_alone items part (all_in (IsPlain items) v.fields part h.0 here)
    by (inr more) on = on more

module _ (items : ItemTable) (adt : Adt) (all : AreReady items) (h : AreFields items adt.variants) where
  -- a member of the longer list
  old_or_new : (P : Option Adt → Type 0) (n : ℕ) → P None → ((a : Adt) → slice_get items.adts n ≡ Some a → P (Some a)) → P
      (Some adt) → P (slice_get (items.adts ++ adt ∷ []) n)
  old_or_new P n none old new_ = by (slice_get (items.adts ++ adt ∷ []) n) refl
    where
      by : (o : Option Adt) → slice_get (items.adts ++ adt ∷ []) n ≡ o → P o
      by None is = none
      by (Some a) is = push (slice_get-push_cases items.adts adt n a is)
        where
          push : (slice_get items.adts n ≡ Some a) ⊎ ((n ≡ length items.adts) × (adt ≡ a)) → P (Some a)
          push (inl at) = old a at
          push (inr last) = subst (λ x. P (Some x)) last.1 new_

  held_in : (n : ℕ) (part : TyId) → Contains (held_by (with_adt items adt) (Ty.Adt n)) part → IsAlone items part
  held_in n part =
      old_or_new (λ o. Contains (flat_map (λ (v : Variant). v.fields) (variants_of o)) part → IsAlone items part) n (λ
      has. absurd (omega (arith, has.1))) (λ a at has. all.held_fields n part (subst (λ o. Contains (flat_map (λ (v :
      Variant). v.fields) (variants_of o)) part) (sym at) has)) (held_alone items adt.variants part h)

  field_in : (n variant k : ℕ) (part : TyId) → slice_get (parts_of (with_adt items adt) (Ty.Adt n) variant) k ≡ Some part →
      IsAlone items part
  field_in n variant k part =
      old_or_new (λ o. slice_get (fields_of (slice_get (variants_of o) variant)) k ≡ Some part → IsAlone items part) n (λ
      is. absurd (none-some part is)) (λ a at is. all.fields n variant k part (subst (λ o. slice_get (fields_of (slice_get
      (variants_of o) variant)) k ≡ Some part) (sym at) is)) (field_alone items adt.variants variant k part h)

  ready_with_adt : AreReady (with_adt items adt)
  ready_with_adt = record {
    begins = all.begins;
    distinct = all.distinct;
    parts_first = all.parts_first;
    held = λ id part ty at has. held_of ty id part at has;
    parts = λ id part variant n is. parts_at id part variant n (type_at items id) refl is;
    held_fields = held_in;
    fields = field_in;
    inside = all.inside;
    results = all.results;
    methods = all.methods;
    params = all.params;
    method_params = all.method_params;
    order = all.order;
    after = all.after;
  }
    where
      held_of : (ty : Ty) (id part : TyId) → type_at items id ≡ Some ty → Contains (held_by (with_adt items adt) ty) part →
          IsAlone items part
      held_of (Ty.Adt n) id part at has = held_in n part has
      held_of other id part at has = all.held id part other at has

      part_of : (ty : Ty) (id part : TyId) (variant n : ℕ) → type_at items id ≡ Some ty → slice_get (parts_of (with_adt
          items adt) ty variant) n ≡ Some part → IsAlone items part
      part_of (Ty.Adt k) id part variant n at is = field_in k variant n part is
      part_of (Ty.Tuple tys) id part variant n at is =
          all.parts id part variant n (ap (λ o. option_and_then (λ ty. slice_get (parts_of items ty variant) n) o) at ∙ is)
      part_of (Ty.Array element count) id part variant n at is =
          all.parts id part variant n (ap (λ o. option_and_then (λ ty. slice_get (parts_of items ty variant) n) o) at ∙ is)
      part_of (Ty.Closure k) id part variant n at is =
          all.parts id part variant n (ap (λ o. option_and_then (λ ty. slice_get (parts_of items ty variant) n) o) at ∙ is)
      part_of other id part variant n at is = absurd (none-some part is)

      parts_at : (id part : TyId) (variant n : ℕ) (o : Option Ty) → type_at items id ≡ o → option_and_then (λ ty. slice_get
          (parts_of (with_adt items adt) ty variant) n) o ≡ Some part → IsAlone items part
      parts_at id part variant n None at is = absurd (none-some part is)
      parts_at id part variant n (Some ty) at is = part_of ty id part variant n at is

ready_with_trait : (items : ItemTable) (def : TraitDef) → AreReady items → All (λ sig. All (IsKnown items)
    sig.params × IsPlain items sig.result) def.methods → AreReady
    (with_trait items def)
ready_with_trait items def all h = record {
  begins = all.begins;
  distinct = all.distinct;
  parts_first = all.parts_first;
  held = all.held;
  parts = all.parts;
  held_fields = all.held_fields;
  fields = all.fields;
  inside = all.inside;
  results = all.results;
  methods = λ n k d sig at is. by n k d sig is (slice_get-push_cases items.traits def n d at);
  params = all.params;
  method_params = λ n k d sig ty at is has. param_by n k d sig ty is has (slice_get-push_cases items.traits def n d at);
  order = all.order;
  after = all.after;
}
  where
    method : (d : TraitDef) (k : ℕ) (sig : Sig) → def ≡ d → slice_get d.methods k ≡ Some sig → All (IsKnown items)
        sig.params × IsPlain items sig.result
    method d k sig same is =
        all_at (λ x. All (IsKnown items) x.params × IsPlain items x.result) def.methods k sig h (ap (λ (x : TraitDef). slice_get x.methods k) same ∙ is)

    by : (n k : ℕ) (d : TraitDef) (sig : Sig) → slice_get d.methods k ≡ Some sig → (slice_get items.traits n ≡ Some d) ⊎ ((n
        ≡ length items.traits) × (def ≡ d)) → IsAlone items sig.result
    by n k d sig is (inl at) = all.methods n k d sig at is
    by n k d sig is (inr last) = plain_alone items sig.result (method d k sig last.1 is).1

    param_by : (n k : ℕ) (d : TraitDef) (sig : Sig) (ty : TyId) → slice_get d.methods k ≡ Some sig → Contains sig.params ty →
        (slice_get items.traits n ≡ Some d) ⊎ ((n ≡ length items.traits) × (def ≡ d)) → IsKnown items ty
    param_by n k d sig ty is has (inl at) = all.method_params n k d sig ty at is has
    param_by n k d sig ty is has (inr last) =
        all_in (IsKnown items) sig.params ty (method d k sig last.1 is).0 has

ready_with_body : (items : ItemTable) (sig : Sig) → AreReady items → All (IsKnown items) sig.params → IsAlone items sig.result
    → AreReady (with_body items sig)
ready_with_body items sig all params result = record {
  begins = all.begins;
  distinct = all.distinct;
  parts_first = all.parts_first;
  held = all.held;
  parts = all.parts;
  held_fields = all.held_fields;
  fields = all.fields;
  inside = all.inside;
  results = λ n other at. by n other (slice_get-push_cases items.bodies sig n other at);
  methods = all.methods;
  params = λ n other ty at has. param_by n other ty has (slice_get-push_cases items.bodies sig n other at);
  method_params = all.method_params;
  order = all.order;
  after = all.after;
}
  where
    by : (n : ℕ) (other : Sig) → (slice_get items.bodies n ≡ Some other) ⊎ ((n ≡ length items.bodies) × (sig ≡ other)) →
        IsAlone items other.result
    by n other (inl at) = all.results n other at
    by n other (inr last) = subst (λ (x : Sig). IsAlone items x.result) last.1 result

    param_by : (n : ℕ) (other : Sig) (ty : TyId) → Contains other.params ty → (slice_get items.bodies n ≡ Some other) ⊎ ((n ≡
        length items.bodies) × (sig ≡ other)) → IsKnown items ty
    param_by n other ty has (inl at) = all.params n other ty at has
    param_by n other ty has (inr last) =
        all_in (IsKnown items) sig.params ty params (subst (λ (x : Sig). Contains x.params ty) (sym last.1) has)

-- ---- the collection of items, step by step

-- what a check gives of items that are ready
abbrev pub Readies : {A : Type 0} → TypingState → (A → TypingState → Type 0) → Result (A × TypingState) Broken → Type 0
Readies s Q r = Walked (λ a t. AreReady s.items → AreReady t.items × Q a t) r

pub ready_of : {A : Type 0} {s : TypingState} (Q : ItemTable → A → Type 0) (r : Result (A × TypingState) Broken) → Gives s (λ w a. Q
    w.items a) r → Readies s (λ a t. Q t.items a) r
ready_of Q (Ok a) g = walk_ends (λ ready. ((g.so ready).0.ready ready, (g.so ready).1 a.1 (grows_refl a.1)))
ready_of Q (Err e) g = record { so = tt }

-- of a check that only has to be ready
abbrev pub Kept : {A : Type 0} → A → TypingState → Type 0
Kept a t = Unit {0}

pub fields_all : (fs : List Syn) → IsTrue (fields_legal fs) → All (λ f. IsTrue (field_legal f)) fs
fields_all [] h = tt
fields_all (f ∷ fs) h = (true_left (field_legal f) _ h, fields_all fs (true_right (field_legal f) _ h))

pub variants_all : (vs : List Syn) → IsTrue (variants_legal vs) → All (λ v. IsTrue (variant_legal v)) vs
variants_all [] h = tt
variants_all (v ∷ vs) h = (true_left (variant_legal v) _ h, variants_all vs (true_right (variant_legal v) _ h))

pub heads_all : (hs : List Syn) → IsTrue (trait_heads_legal hs) → All (λ h. IsTrue (trait_head_legal h)) hs
heads_all [] h = tt
heads_all (x ∷ hs) h = (true_left (trait_head_legal x) _ h, heads_all hs (true_right (trait_head_legal x) _ h))

module _ (around : types.WrittenScope) where
  field_ready : (f : Syn) (s : TypingState) → IsTrue (field_legal f) → Gives s (λ w ty. IsPlain w.items ty) (types.written (names
      around) (rules.field_type f) s)
  field_ready (syn at (AField name ty)) s h = type_ready around ty h s
  field_ready (syn at form) s h = type_ready around (syn at form) h s

  variant_ready : (name : Word) (fields : Syns) (s : TypingState) → IsTrue (fields_legal (list_of fields)) → Gives s (λ w v. All
      (IsPlain w.items) v.fields) (rules.variant_of (names around) name fields s)
  variant_ready name fields s h =
      bind (each_gives (λ f. types.written (names around) (rules.field_type f)) (λ f. IsTrue (field_legal f)) IsPlain
      plain_later (λ f t legal_f. field_ready f t legal_f) (list_of fields) s (fields_all (list_of fields) h)) λ tys t g d.
      given _ λ ready w l. d w l

  declared_ready : (v : Syn) (s : TypingState) → IsTrue (variant_legal v) → Gives s (λ w v. All (IsPlain w.items) v.fields)
      (rules.declared_variant (names around) v s)
  declared_ready (syn at (AVariant name kind fields)) s h = variant_ready name fields s h
  declared_ready (syn at _) s h = absurd (false≢true h)

fields_later : (old new : ItemTable) → Extends old new → (v : Variant) → All (IsPlain old) v.fields → All (IsPlain new)
    v.fields
fields_later old new e v h = all_map (IsPlain old) (IsPlain new) (plain_later old new e) v.fields h

derives_ready : (ds : List Named) (s : TypingState) → Gives s (λ w u. Unit {0}) (rules.derives_known ds s)
derives_ready [] s = given tt λ ready w g. tt
derives_ready (d ∷ ds) s = obeyed Rule.T01 d.0 (rules.is_derivable d.1) (rules.derives_known ds) λ _. derives_ready ds s

-- the types of the head of a trait's method, whose receiver is of `dyn`
abbrev HasKnown : ItemTable → Sig → Type 0
HasKnown items sig = All (IsKnown items) sig.params × IsPlain items sig.result

sig_later : (old new : ItemTable) → Extends old new → (sig : Sig) → HasKnown old sig → HasKnown new sig
sig_later old new e sig h = (
  all_map (IsKnown old) (IsKnown new) (λ ty k. known_later e ty k) sig.params h.0,
  plain_later old new e sig.result h.1,
)

abbrev MayBeBorrowed : ItemTable → TyId → Type 0
MayBeBorrowed items own = IsReady items own × IsTrue (not (is_reference items own))

module _ (around : types.WrittenScope) (own : TyId) where
  dyn_receiver_ready : (receiver : Receiver) (s : TypingState) → MayBeBorrowed s.items own → Gives s (λ w ty. IsKnown w.items ty)
      (rules.receiver_ty own receiver s)
  dyn_receiver_ready ByValue s h = given own λ ready w g. known_later g.items own (h.0.0, h.0.1)
  dyn_receiver_ready ByShared s h =
      weaker (λ w ty. IsKnown w.items ty) (interned_sound (Ty.Shared own) s (reference_made s.items false own h.0 h.1)) λ
      ty w ready g is. (Ty.Shared own, is)
  dyn_receiver_ready ByUnique s h =
      weaker (λ w ty. IsKnown w.items ty) (interned_sound (Ty.Unique own) s (reference_made s.items true own h.0 h.1)) λ ty
      w ready g is. (Ty.Unique own, is)

  abbrev pure_own : Check TyId
  pure_own t = Ok (own, t)

  dyn_param_ready : (p : Syn) (s : TypingState) → IsTrue (param_legal legal_param p) × MayBeBorrowed s.items own → Gives s (λ w ty.
      IsKnown w.items ty) (rules.param_ty (names around) pure_own p s)
  dyn_param_ready (syn here (AParam (ParamOf p ty))) s h =
      weaker (λ w t. IsKnown w.items t) (param_ready around ty h.0 s) λ t w ready g is. (is.0, is.1)
  dyn_param_ready (syn here (AParam (SelfParam receiver))) s h = dyn_receiver_ready receiver s h.1
  dyn_param_ready (syn here _) s h = absurd (false≢true h.0)

  borrowed_later : (old new : ItemTable) → Extends old new → MayBeBorrowed old own → MayBeBorrowed new own
  borrowed_later old new e h = (
    ready_later e own h.0,
    subst (λ o. IsTrue (not (is_some (option_and_then reference_in o)))) (h.0.1 ∙ sym (e.types own.0 h.0.0 h.0.1)) h.1,
  )

  dyn_params_ready : (ps : Syns) (s : TypingState) → IsTrue (params_legal legal_param ps) → MayBeBorrowed s.items own → Gives s (λ w
      tys. All (IsKnown w.items) tys) (each_checked (rules.param_ty (names around) pure_own) (list_of ps) s)
  dyn_params_ready no_syn s h b = given [] λ ready w g. tt
  dyn_params_ready (a_syn first rest) s h b =
      bind (dyn_param_ready first s (true_left (param_legal legal_param first) _ h, b)) λ ty t g d. bind (dyn_params_ready
      rest t (true_right (param_legal legal_param first) _ h) (borrowed_later s.items t.items g.items b)) λ tys u k e. given
      (ty ∷ tys) λ ready w l. (d w (grows_trans k l), e w l)

  dyn_sig_ready : (name : Word) (params : Syns) (answer : MaybeSyn) (s : TypingState) → IsTrue (params_legal legal_param params) →
      IsTrue (answer_legal answer) → MayBeBorrowed s.items own → Gives s (λ w sig. HasKnown w.items sig) (rules.sig_of (names
      around) pure_own name params answer s)
  dyn_sig_ready name params answer s h k b =
      bind (dyn_params_ready params s h b) λ tys t g d. bind (answer_ready around answer t k) λ ty u l e. given _ λ ready w m.
      (d w (grows_trans l m), e w m)

  -- the parameters behind `self` are legal, and so are all
  pub with_self_legal : (params : Syns) → IsTrue (params_legal legal_param (behind_self params)) → IsTrue (params_legal legal_param
      params)
  with_self_legal no_syn h = h
  with_self_legal (a_syn (syn at (AParam (SelfParam receiver))) rest) h = h
  with_self_legal (a_syn (syn at _) rest) h = h

  pub same_behind : (params : Syns) → IsTrue (params_legal legal_param (behind_self params)) → IsTrue (params_legal legal_param
      (rules.behind_self params))
  same_behind no_syn h = h
  same_behind (a_syn (syn at (AParam (SelfParam receiver))) rest) h = h
  same_behind (a_syn (syn at _) rest) h = h

  trait_head_ready : (x : Syn) (s : TypingState) → IsTrue (trait_head_legal x) → MayBeBorrowed s.items own → Gives s (λ w sig.
      HasKnown w.items sig) (rules.trait_head (names around) own x s)
  trait_head_ready (syn at (AnItem (FnItem name params answer block))) s h b = by (rules.has_receiver params)
    where
      legal_params : IsTrue (params_legal legal_param (behind_self params))
      legal_params = true_left (params_legal legal_param (behind_self params)) _ h

      legal_result : IsTrue (answer_legal answer)
      legal_result = true_right (params_legal legal_param (behind_self params)) _ h

      by : (c : Bool) → Gives s (λ w sig. HasKnown w.items sig) ((if c then rules.sig_of (names around) pure_own name.1 params
          answer else (λ t. and_then (interned (Ty.Shared own) t) (λ self u. and_then (rules.sig_of (names around) pure_own
          name.1 (rules.behind_self params) answer u) (λ sig v. Ok (rules.with_receiver self sig, v))))) s)
      by true = dyn_sig_ready name.1 params answer s (with_self_legal params legal_params) legal_result b
      by false =
          bind (interned_sound (Ty.Shared own) s (reference_made s.items false own b.0 b.1)) λ self t g is. bind
          (dyn_sig_ready name.1 (rules.behind_self params) answer t (same_behind params legal_params) legal_result
          (borrowed_later s.items t.items g.items b)) λ sig u k d. given _ λ ready w l.
          let e = d w l in (((Ty.Shared own, is w (grows_trans k l)), e.0), e.1)
  trait_head_ready (syn at _) s h b = absurd (false≢true h)

-- ---- items

obeyed_ready : (rule : Rule) (at : Pos) (holds : Bool) (s : TypingState) → Gives s (λ w u. Unit {0}) (obeys rule at holds s)
obeyed_ready rule at true s = given tt λ ready w g. tt
obeyed_ready rule at false s = gives_nothing rule at

-- one more struct or enum behind a check
with_fields : (s t : TypingState) (adt : Adt) → (AreReady s.items → AreReady t.items × AreFields t.items adt.variants) → AreReady
    s.items → AreReady (with_adt t.items adt) × Unit {0}
with_fields s t adt h ready = let r = h ready in (ready_with_adt t.items adt r.0 r.1, tt)

item_head_ready : (k : rules.Known) (i : Syn) (s : TypingState) → IsTrue (item_legal i) → Readies s Kept (rules.item_head k i s)
item_head_ready k (syn at (AnItem (StructItem ds name kind fields))) s h =
    walk (ready_of (λ items u. Unit {0}) (rules.derives_known ds s) (derives_ready ds s)) λ _ t e. walk (ready_of (λ items v.
    All (IsPlain items) v.fields) _ (variant_ready (around k name.1) name.1 fields t h)) λ v u g. walk_ends (with_fields
    s u (rules.adt_of k ds name.1 false (v ∷ [])) (λ ready. let r = g (e ready).0 in (r.0, (r.1, tt))))
  where
    around : rules.Known → Word → types.WrittenScope
    around k name = rules.names_alone k (types.number_of k.adts name)
item_head_ready k (syn at (AnItem (EnumItem ds name variants))) s h =
    walk (ready_of (λ items u. Unit {0}) (rules.derives_known ds s) (derives_ready ds s)) λ _ t e. walk (ready_of (λ items
    vs. AreFields items vs) _ (each_gives (rules.declared_variant (rules.names_alone k (types.number_of k.adts name.1))) (λ
    v. IsTrue (variant_legal v)) (λ items v. All (IsPlain items) v.fields) fields_later (λ v u legal_v. declared_ready
    (rules.names_alone k (types.number_of k.adts name.1)) v u legal_v) (list_of variants) t (variants_all (list_of variants)
    h))) λ vs u g. walk_ends (with_fields s u (rules.adt_of k ds name.1 true vs) (λ ready. g (e ready).0))
item_head_ready k (syn at (AnItem (TraitItem name heads))) s h =
    walk (ready_of (λ items own. type_at items own ≡ Some (Ty.Dyn (length s.items.traits))) (interned (Ty.Dyn (length
    s.items.traits)) s) (interned_sound (Ty.Dyn (length s.items.traits)) s (dyn_made s.items (length s.items.traits)))) λ own
    t e. walk_ready own t e
  where
    borrowed : (items : ItemTable) (own : TyId) → type_at items own ≡ Some (Ty.Dyn (length s.items.traits)) → MayBeBorrowed
        items own
    borrowed items own is = (
      (Ty.Dyn (length s.items.traits), is, tt),
      subst (λ o. IsTrue (not (is_some (option_and_then reference_in o)))) (sym is) refl,
    )

    sigs_ready : (own : TyId) (xs : List Syn) (t : TypingState) → All (λ x. IsTrue (trait_head_legal x)) xs → MayBeBorrowed t.items
        own → Gives t (λ w sigs. All (HasKnown w.items) sigs) (each_checked (rules.trait_head (rules.names_alone k None) own)
        xs t)
    sigs_ready own [] t h b = given [] λ ready w g. tt
    sigs_ready own (x ∷ xs) t h b =
        bind (trait_head_ready (rules.names_alone k None) own x t h.0 b) λ sig u g d. bind (sigs_ready own xs u h.1
        (borrowed_later (rules.names_alone k None) own t.items u.items g.items b)) λ sigs v l e. given (sig ∷ sigs) λ ready w
        m. (d w (grows_trans l m), e w m)

    walk_ready : (own : TyId) (t : TypingState) → (AreReady s.items → AreReady t.items × (type_at t.items own ≡ Some (Ty.Dyn (length
        s.items.traits)))) → Readies s Kept (and_then (each_checked (rules.trait_head (rules.names_alone k None) own) (list_of
        heads) t) (λ sigs. rules.added (λ items. with_trait items (record { name = name.1; methods = sigs }))))
    walk_ready own t e = by (each_checked (rules.trait_head (rules.names_alone k None) own) (list_of heads) t) (λ b. sigs_ready
        own (list_of heads) t (heads_all (list_of heads) h) b)
      where
        by : (r : Result (List Sig × TypingState) Broken) → (MayBeBorrowed t.items own → Gives t (λ w sigs. All (HasKnown w.items)
            sigs) r) → Readies s Kept (and_then r (λ sigs. rules.added (λ items. with_trait items (record {
              name =
                  name.1;
              methods = sigs;
            }))))
        by (Err x) g = record { so = tt }
        by (Ok a) g =
            walk_ends (λ ready.
            let r = e ready in
            let m = (g (borrowed t.items own r.1)).so r.0 in (
              ready_with_trait a.1.items (record { name = name.1; methods = a.0 }) (m.0.ready r.0) (m.1 a.1 (grows_refl a.1)),
              tt,
            ))
item_head_ready k (syn at (AnItem (ImplItem None name methods))) s h =
    ready_of (λ items u. Unit {0}) _ (obeyed_ready Rule.T01 name.0 (is_some (types.number_of k.adts name.1)) s)
item_head_ready k (syn at (AnItem (ImplItem (Some trait_) name methods))) s h =
    ready_of (λ items u. Unit {0}) _ (obeyed Rule.T01 trait_.0 (rules.is_drop trait_.1 || is_some (types.number_of k.traits
    trait_.1)) _ λ _. obeyed_ready Rule.T01 name.0 (is_some (types.number_of k.adts name.1)) s)
item_head_ready k (syn at _) s h = walk_ends (λ ready. (ready, tt))

-- ---- bodies

body_ready : (k : rules.Known) (owner : Option Word) (c : rules.Count) (b : Syn) (s : TypingState) → IsTrue (body_legal b) →
    s.items.closures ≡ [] → Readies s Kept (rules.body_sig k owner c b s)
body_ready k owner c (syn at (AnItem (FnItem name params answer block))) s h none =
    walk (ready_of (λ items sig. HasParams items sig) _ (sig_ready (all_names k owner) at (full_name owner name.1) params
    answer s h)) λ sig t e. walk_ends (λ ready.
    let r = e ready in (
      ready_with_body t.items sig r.0 (all_map (IsParamTy t.items) (IsKnown t.items) (λ ty p. (p.0, p.1)) sig.params r.1.0)
          (plain_alone t.items sig.result r.1.1),
      tt,
    ))
body_ready k owner c (syn at (AnExpression (MoveOf captures params answer body))) s h none =
    walk (walk (ready_of (λ items tys. All (IsKnown items) tys) _ (closure_params_ready (all_names k owner) c.closures params
    s none (true_left (params_legal legal params) _ h))) λ tys t e. behind tys t e) λ _ t e. walk_ends e
  where
    name : Word
    name = closure_name c.outer (c.in_outer + 1)

    behind : (tys : List TyId) (t : TypingState) → (AreReady s.items → AreReady t.items × All (IsKnown t.items) tys) → Readies s Kept
        (and_then (types.or_unit (rules.answer_ty (names (all_names k owner)) answer) t) (λ ty. rules.body_added (record {
          name = name;
          params = tys;
          result = ty;
        })))
    behind tys t e =
        by (types.or_unit (rules.answer_ty (names (all_names k owner)) answer) t) (closure_answer_ready (all_names k owner)
        answer t (true_right (params_legal legal params) _ h))
      where
        by : (r : Result (TyId × TypingState) Broken) → Gives t (λ w ty. IsPlain w.items ty) r → Readies s Kept (and_then r (λ ty.
            rules.body_added (record { name = name; params = tys; result = ty })))
        by (Err x) g = record { so = tt }
        by (Ok a) g =
            walk_ends (λ ready.
            let r = e ready in
            let m = g.so r.0 in (
              ready_with_body a.1.items (record { name = name; params = tys; result = a.0 }) (m.0.ready r.0) (all_map (IsKnown
                  t.items) (IsKnown a.1.items) (λ ty known. known_later m.0.items ty known) tys r.1) (plain_alone a.1.items a.0
                  (m.1 a.1 (grows_refl a.1))),
              tt,
            ))
body_ready k owner c (syn at _) s h none = record { so = tt }

-- two facts of one check
both_ready : {A : Type 0} {P Q : A → TypingState → Type 0} (r : Result (A × TypingState) Broken) → Walked P r → Walked Q r → Walked (λ a t.
    P a t × Q a t) r
both_ready (Ok a) h k = record { so = (h.so, k.so) }
both_ready (Err e) h k = record { so = tt }

bodies_ready : (k : rules.Known) (owner : Option Word) (own : IsOwner k owner) (c : rules.Count) (bs : List Syn) (s : TypingState) → All (λ b. IsTrue
    (body_legal b)) bs → s.items.closures ≡ [] → Readies s Kept (rules.body_sigs k owner c bs s)
bodies_ready k owner own c [] s h none = walk_ends (λ ready. (ready, tt))
bodies_ready k owner own c (b ∷ bs) s h none =
    walk (both_ready (rules.body_sig k owner c b s) (body_ready k owner c b s h.0 none) (body_collected k owner own c b s)) λ d t
    e. walk_map (bodies_ready k owner own d bs t h.1 (e.1.closures ∙ none)) λ x u g ready. g (e.0 ready).0

-- ---- all items

abbrev pub ItemKeeps : ItemSyn → Type 0
ItemKeeps i = IsTrue (item_legal i.item) × All (λ b. IsTrue (body_legal b)) i.bodies

pub heads_ready : (k : rules.Known) (c : rules.Count) (is : List ItemSyn) (s : TypingState) → All ItemKeeps is → s.items.closures ≡ [] →
    Readies s Kept (rules.heads_collected k c is s)
heads_ready k c [] s h none = walk_ends (λ ready. (ready, tt))
heads_ready k c (i ∷ is) s h none =
    walk (both_ready (rules.item_head k i.item s) (item_head_ready k i.item s h.0.0) (both_ready (rules.item_head k i.item s)
    (owner_known k i.item s) (item_head_collected k c.closures i.item s))) λ _ t e. walk (both_ready (rules.body_sigs k
    (impl_owner i.item) c i.bodies t) (bodies_ready k (impl_owner i.item) e.1.0 c i.bodies t h.0.1 (e.1.1.closures ∙ none))
    (bodies_collected k (impl_owner i.item) e.1.0 c i.bodies t)) λ d u f. walk_map (heads_ready k d is u h.1 (f.1.closures ∙
    (e.1.1.closures ∙ none))) λ x v g ready. g (f.0 (e.0 ready).0).0

with_impl_ready : (items : ItemTable) (def : ImplDef) → AreReady items → AreReady (with_impl items def)
with_impl_ready items def all = record {
  begins = all.begins;
  distinct = all.distinct;
  parts_first = all.parts_first;
  held = all.held;
  parts = all.parts;
  held_fields = all.held_fields;
  fields = all.fields;
  inside = all.inside;
  results = all.results;
  methods = all.methods;
  params = all.params;
  method_params = all.method_params;
  order = all.order;
  after = all.after;
}

impl_ready : (k : rules.Known) (i : Syn) (s : TypingState) → Readies s Kept (rules.impl_of k i s)
impl_ready k (syn at (AnItem (ImplItem (Some trait_) name methods))) s = by (rules.is_drop trait_.1)
  where
    added : Check (Unit {0})
    added t =
        and_then (known Rule.T01 trait_.0 (types.number_of k.traits trait_.1) t) (λ n u. and_then (known Rule.T01 name.0
        (types.number_of k.adts name.1) u) (λ adt. rules.impl_added k n adt trait_.1 name.1))

    by : (b : Bool) → Readies s Kept ((if b then (λ t. Ok (tt, t)) else added) s)
    by true = walk_ends (λ ready. (ready, tt))
    by false =
        walk_found Rule.T01 trait_.0 (types.number_of k.traits trait_.1) _ λ n is. walk_found Rule.T01 name.0
        (types.number_of k.adts name.1) _ λ adt is. walk_ends (λ ready. (with_impl_ready s.items _ ready, tt))
impl_ready k (syn at (AnItem (ImplItem None name methods))) s = walk_ends (λ ready. (ready, tt))
impl_ready k (syn at _) s = walk_ends (λ ready. (ready, tt))

pub impls_ready : (k : rules.Known) (is : List Syn) (s : TypingState) → Readies s Kept (each_checked (rules.impl_of k) is s)
impls_ready k [] s = walk_ends (λ ready. (ready, tt))
impls_ready k (i ∷ is) s =
    walk (impl_ready k i s) λ _ t e. walk (impls_ready k is t) λ _ u g. walk_ends (λ ready. g (e ready).0)

pub is_finite_ready : (n : ℕ) (at : Pos) (s : TypingState) → Readies s Kept (rules.is_finite n at s)
is_finite_ready n at s =
    ready_of (λ items u. Unit {0}) (rules.is_finite n at s) (bind (adt_plain n s) λ ty t g d. obeyed_ready Rule.T09 at (not
    (rules.holds t.items ty ty)) t)

finite_ready : (n : ℕ) (as_ : List (Pos × List Named)) (s : TypingState) → Readies s Kept (rules.all_finite n as_ s)
finite_ready n [] s = walk_ends (λ ready. (ready, tt))
finite_ready n (a ∷ as_) s =
    walk {f = λ _. rules.all_finite (suc n) as_} (is_finite_ready n a.0 s) λ _ t e. walk_map (finite_ready (suc n) as_ t) λ
    x u g ready. g (e ready).0

derive_ready : (dropped : List Word) (n : ℕ) (as_ : List (Pos × List Named)) (s : TypingState) → Readies s Kept
    (rules.all_derive dropped n as_ s)
derive_ready dropped n [] s = walk_ends (λ ready. (ready, tt))
derive_ready dropped n (a ∷ as_) s =
    walk (ready_of (λ items u. Unit {0}) _ (obeyed_ready Rule.T10 a.0 (rules.may_derive s.items dropped a.1 (slice_get
    s.items.adts
    n)) s)) λ _ t e. walk_map (derive_ready dropped (suc n) as_ t) λ x u g ready. g (e ready).0

pub names_ready : (ns : List Named) (earlier : List Word) (s : TypingState) → Readies s Kept (rules.names_differ ns earlier s)
names_ready [] earlier s = walk_ends (λ ready. (ready, tt))
names_ready (n ∷ ns) earlier s =
    walk (ready_of (λ items u. Unit {0}) _ (obeyed_ready Rule.T02 n.0 (not (is_among n.1 earlier || is_among n.1 built_in))
    s)) λ _ t e. walk_map (names_ready ns (earlier ++ n.1 ∷ []) t) λ x u g ready. g (e ready).0

pub collecting_ready : (is : List ItemSyn) (end : Pos) → All ItemKeeps is → Walked (λ _ t. AreReady rules.no_items → AreReady
    t.items) (rules.collecting is end (rules.starting_with rules.no_items))
collecting_ready is end h =
    walk (both_ready (rules.names_differ (filter_map rules.item_name (item_syns is)) [] start) (names_ready (filter_map
    rules.item_name (item_syns is)) [] start) (names_still (filter_map rules.item_name (item_syns is)) [] start)) λ _ t e.
    walk (heads_ready (rules.known_of is) (record { outer = []; in_outer = 0; closures = 0 }) is t h e.1.stays.closures) λ _ u
    f. walk (impls_ready (rules.known_of is) (item_syns is) u) λ _ v g. walk (finite_ready 0 (filter_map rules.adt_item
    (item_syns is)) v) λ _ w l. walk (derive_ready (rules.drop_owners is) 0 (filter_map rules.adt_item (item_syns is))
    w) λ _ x m. walk_map
    (ready_of (λ items u. Unit {0}) _ (obeyed_ready Rule.T01 end (is_some (types.number_of (body_paths is) (codes "main")))
    x)) λ _ y o ready. (o (m (l (g (f (e.0 ready).0).0).0).0).0).0
  where
    start : TypingState
    start = rules.starting_with rules.no_items
