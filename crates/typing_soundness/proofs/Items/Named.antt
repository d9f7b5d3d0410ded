-- Names of items are in the table as they are in the text.
use Rattle.std.proofs.Common.{◌≡◌, ℕ, suc, Bool, true, false, ◌||◌, not, nat_le, if◌then◌else◌, List, [], ◌∷◌, ◌++◌, length, slice_get, Option, Some, None, Result, Ok, Err, IsTrue, refl, sym, subst, ◌∙◌}
use Rattle.std.specs.Prelude.{codes, is_some, option_and_then}
use Rattle.std.specs.List.{list_all, filter_map, position as position_of}
use Rattle.std.proofs.lemmas.List.Folds.{list_all-append}
use Rattle.mir_base.specs.declared.place_in_text.Pos.{Pos}
use Rattle.mir_base.specs.declared.rule.Rule.{Rule}
use Rattle.mir_ty.specs.declared.adt.Adt.{Adt}
use Rattle.mir_ty.specs.declared.adt.Variant.{Variant}
use Rattle.mir_ty.specs.declared.def.Sig.{Sig}
use Rattle.mir_ty.specs.declared.def.TraitDef.{TraitDef}
use Rattle.mir_ty.specs.declared.ty.Ty.{Ty}
use Rattle.mir_ty.specs.declared.ty.TyId.{TyId}
use Rattle.mir_ty.specs.ItemTable.{ItemTable}
use Rattle.src_tree.specs.Layout.{Parts}
use Rattle.well_typed.specs.Claim.{Claim, Holds, each}
use Rattle.well_typed.specs.Items.{is_equal}
use Rattle.well_typed.specs.Names.{is_word, is_among, built_in}
use Rattle.well_typed.proofs.ClaimLemmas.{and_true, true_left}
use Rattle.typing_rules.specs.Check.{Check, TypingState, Broken, and_then, obeys, known, each_checked, interned, interned_at}
use Rattle.typing_rules.specs.Collected as rules
use Rattle.typing_rules.specs.Items.{ItemSyn, items_of, item_syns, impl_owner, full_name, body_paths}
use Rattle.typing_rules.specs.Written as types
use Rattle.src_ast.specs.Syntax.{Word, Named, Receiver, ByValue, ByShared, ByUnique, Syn, syn, AnExpression, AType, AnItem, AParam, AVariant, MoveOf, WrittenType, NamedType, GenericType, DynType, SelfType, ParensType, TupleType, ArrayType, NeverType, RefType, StructItem, EnumItem, TraitItem, ImplItem, FnItem, ParamOf, SelfParam, Syns, no_syn, a_syn, list_of, MaybeSyn, nothing, just}
use Rattle.typing_soundness.specs.Named.{is_type_name, variant_named, head_named, item_named, adt_named, trait_named, HasNames}
use Rattle.typing_soundness.specs.Program.{NamesAreWords}
use Rattle.typing_soundness.specs.Walks.{Walked}
use Rattle.typing_soundness.proofs.Bodies.Program.{bodies_typed}
use Rattle.typing_soundness.proofs.Items.Accepting.{are_collected}
use Rattle.typing_soundness.proofs.Items.Headed.{ok_same, no_ok}
use Rattle.typing_soundness.proofs.Walking.Steps.{walk, walk_map, walk_ends}

-- ---- steps that keep the tables of structs, enums and traits

pub record Kept (s t : TypingState) : Type 0 where
  pub adts : t.items.adts ≡ s.items.adts
  pub traits : t.items.traits ≡ s.items.traits

kept : (s : TypingState) → Kept s s
kept s = record { adts = refl; traits = refl }

onward : {s t u : TypingState} → Kept s t → Kept t u → Kept s u
onward p q = record { adts = q.adts ∙ p.adts; traits = q.traits ∙ p.traits }

abbrev Keeps : {A : Type 0} → TypingState → Result (A × TypingState) Broken → Type 0
Keeps {A} s r = Walked (λ (a : A) t. Kept s t) r

-- one step after another
step : {A B : Type 0} {s : TypingState} {r : Result (A × TypingState) Broken} {f : A → Check B} → Keeps s r → ((a : A) (t : TypingState) →
    Keeps t (f a t)) → Keeps s (and_then r f)
step p k = walk p λ a t e. walk_map (k a t) λ b u f. onward e f

ends : {A : Type 0} (a : A) (s : TypingState) → Keeps s (Ok (a, s))
ends a s = walk_ends (kept s)

interned_kept : (ty : Ty) (s : TypingState) → Keeps s (interned ty s)
interned_kept ty s = by (position_of (is_equal ty) s.items.types)
  where
    by : (o : Option ℕ) → Keeps s (interned_at ty o s)
    by (Some n) = walk_ends (kept s)
    by None = walk_ends (record { adts = refl; traits = refl })

obeyed_kept : (rule : Rule) (at : Pos) (holds : Bool) (s : TypingState) → Keeps s (obeys rule at holds s)
obeyed_kept rule at true s = ends tt s
obeyed_kept rule at false s = record { so = tt }

known_kept : {A : Type 0} (rule : Rule) (at : Pos) (o : Option A) (s : TypingState) → Keeps s (known rule at o s)
known_kept rule at None s = record { so = tt }
known_kept rule at (Some a) s = ends a s

or_unit_kept : (s : TypingState) (r : Result (TyId × TypingState) Broken) → Keeps s r → Keeps s (types.or_unit_in s r)
or_unit_kept s (Ok a) p = p
or_unit_kept s (Err e) p = walk_ends (kept s)

each_kept : {A B : Type 0} (f : A → Check B) → ((x : A) (s : TypingState) → Keeps s (f x s)) → (xs : List A) (s : TypingState) → Keeps
    s (each_checked f xs s)
each_kept f good [] s = ends [] s
each_kept f good (x ∷ xs) s = step (good x s) λ y t. step (each_kept f good xs t) λ ys u. ends (y ∷ ys) u

-- ---- written types

module _ (around : types.WrittenScope) where
  named_kept : (at : Pos) (adt : Option ℕ) (scalar : Option TyId) (s : TypingState) → Keeps s (types.named_by at adt scalar s)
  named_kept at adt (Some ty) s = ends ty s
  named_kept at adt None s = step (known_kept Rule.T01 at adt s) λ n t. interned_kept (Ty.Adt n) t

  tuple_kept : (tys : List TyId) (s : TypingState) → Keeps s (types.tuple_by tys s)
  tuple_kept [] s = walk_ends (kept s)
  tuple_kept (ty ∷ tys) s = interned_kept (Ty.Tuple (ty ∷ tys)) s

  mutual
    written_kept : (ty : Syn) (s : TypingState) → Keeps s (types.written around ty s)
    written_kept (syn at (AType t)) s = form_kept at t s
    written_kept _ s = record { so = tt }

    form_kept : (at : Pos) (form : WrittenType) (s : TypingState) → Keeps s (types.written_form around at form s)
    form_kept at (NamedType name) s =
        named_kept at (types.number_of around.adts name) (types.scalar_named name) s
    form_kept at (GenericType name content) s =
        step (obeyed_kept Rule.T01 at (types.is_box name) s) λ _ t. step (written_kept content t) λ ty u. interned_kept
        (Ty.Boxed ty) u
    form_kept at (DynType name trait_) s =
        step (obeyed_kept Rule.T01 at (types.is_box name) s) λ _ t. step (known_kept Rule.T01 trait_.0 (types.number_of
        around.traits trait_.1) t) λ n u. step (interned_kept (Ty.Dyn n) u) λ ty v. interned_kept (Ty.Boxed ty) v
    form_kept at SelfType s = step (known_kept Rule.T01 at around.self_adt s) λ n t. interned_kept (Ty.Adt n) t
    form_kept at (ParensType inside) s = written_kept inside s
    form_kept at (TupleType parts) s =
        step (all_kept parts s) λ tys t. step (tuple_kept tys t) λ ty u. step (obeyed_kept Rule.T19 at (not
        around.has_limits || nat_le (length tys) 12) u) λ _ v. ends ty v
    form_kept at (ArrayType element count suffix) s =
        step (written_kept element s) λ ty t. step (obeyed_kept Rule.T03 at (not around.has_limits || types.is_usize
        suffix) t) λ _ u. step (obeyed_kept Rule.T19 at (not around.has_limits || nat_le count 32) u) λ _ v. interned_kept
        (Ty.Array ty (types.length_shown count)) v
    form_kept at NeverType s = walk_ends (kept s)
    form_kept at (RefType unique to) s =
        step (written_kept to s) λ ty t. step (obeyed_kept Rule.T08 at (not around.has_limits) t) λ _ u. interned_kept
        (types.reference_to unique ty) u

    all_kept : (parts : Syns) (s : TypingState) → Keeps s (types.all_written around parts s)
    all_kept no_syn s = ends [] s
    all_kept (a_syn first rest) s = step (written_kept first s) λ ty t. step (all_kept rest t) λ tys u. ends (ty ∷ tys) u

  mutual
    param_kept : (ty : Syn) (s : TypingState) → Keeps s (types.written_param around ty s)
    param_kept (syn at (AType t)) s = param_form_kept at t s
    param_kept _ s = record { so = tt }

    param_form_kept : (at : Pos) (form : WrittenType) (s : TypingState) → Keeps s (types.written_param_form around at form s)
    param_form_kept at (ParensType inside) s = param_kept inside s
    param_form_kept at (RefType unique to) s =
        step (written_kept to s) λ ty t. interned_kept (types.reference_to unique ty) t
    param_form_kept at form s = form_kept at form s

  receiver_kept : (own : TyId) (receiver : Receiver) (s : TypingState) → Keeps s (rules.receiver_ty own receiver s)
  receiver_kept own ByValue s = ends own s
  receiver_kept own ByShared s = interned_kept (Ty.Shared own) s
  receiver_kept own ByUnique s = interned_kept (Ty.Unique own) s

  answer_kept : (answer : MaybeSyn) (s : TypingState) → Keeps s (rules.answer_ty around answer s)
  answer_kept nothing s = walk_ends (kept s)
  answer_kept (just ty) s = written_kept ty s

  module _ (self : Check TyId) (good : (s : TypingState) → Keeps s (self s)) where
    of_param_kept : (p : Syn) (s : TypingState) → Keeps s (rules.param_ty around self p s)
    of_param_kept (syn at (AParam (ParamOf p ty))) s = param_kept ty s
    of_param_kept (syn at (AParam (SelfParam receiver))) s = step (good s) λ own t. receiver_kept own receiver t
    of_param_kept (syn at _) s = record { so = tt }

    -- a head, and its name
    sig_kept : (name : Word) (params : Syns) (answer : MaybeSyn) (s : TypingState) → Walked (λ (sig : Sig) t. Kept s t ×
        (sig.name ≡ name)) (rules.sig_of around self name params answer s)
    sig_kept name params answer s =
        walk (each_kept (rules.param_ty around self) of_param_kept (list_of params) s) λ tys t e. walk (answer_kept answer t)
        λ ty u f. walk_ends (onward e f, refl)

  closure_param_kept : (p : Syn) (s : TypingState) → Keeps s (rules.closure_param around p s)
  closure_param_kept (syn at (AParam (ParamOf p ty))) s = or_unit_kept s (types.written around ty s) (written_kept ty s)
  closure_param_kept (syn at _) s = walk_ends (kept s)

  -- a variant, and its name
  variant_kept : (name : Word) (fields : Syns) (s : TypingState) → Walked (λ (v : Variant) t. Kept s t × (v.name ≡ name))
      (rules.variant_of around name fields s)
  variant_kept name fields s =
      walk (each_kept (λ f. types.written around (rules.field_type f)) (λ f t. written_kept (rules.field_type f) t) (list_of
      fields) s) λ tys t e. walk_ends (e, refl)

-- ---- tables with names

-- each of what is checked passes a test
each_named : {B : Type 0} (claim : Syn → Claim) (test : B → Bool) (f : Syn → Check B) → ((x : Syn) (s : TypingState) → Holds
    (claim x) → Walked (λ b t. Kept s t × IsTrue (test b)) (f x s)) → (xs : List Syn) (s : TypingState) → Holds (each claim xs)
    → Walked (λ bs t. Kept s t × IsTrue (list_all test bs)) (each_checked f xs s)
each_named claim test f good [] s h = walk_ends (kept s, refl)
each_named claim test f good (x ∷ xs) s h =
    walk (good x s h.0) λ y t e. walk (each_named claim test f good xs t h.1) λ ys u g. walk_ends (
      onward e.0 g.0,
      and_true (test y) (list_all test ys) e.1 g.1,
    )

more_adts : (items : ItemTable) (adt : Adt) → IsTrue (list_all adt_named items.adts) → IsTrue (adt_named adt) → IsTrue
    (list_all adt_named (items.adts ++ adt ∷ []))
more_adts items adt h k =
    list_all-append adt_named items.adts (adt ∷ []) ∙ and_true (list_all adt_named items.adts) _ h (and_true (adt_named adt)
    true k refl)

more_traits : (items : ItemTable) (def : TraitDef) → IsTrue (list_all trait_named items.traits) → IsTrue (trait_named def) →
    IsTrue (list_all trait_named (items.traits ++ def ∷ []))
more_traits items def h k =
    list_all-append trait_named items.traits (def ∷ []) ∙ and_true (list_all trait_named items.traits) _ h (and_true
    (trait_named def) true k refl)

-- a check after which tables have names where they did before
abbrev Names : {A : Type 0} → TypingState → Result (A × TypingState) Broken → Type 0
Names {A} s r = Walked (λ (a : A) t. HasNames s.items → HasNames t.items) r

names_kept : {s t : TypingState} → Kept s t → HasNames s.items → HasNames t.items
names_kept e h = record {
  adts = subst (λ xs. IsTrue (list_all adt_named xs)) (sym e.adts) h.adts;
  traits = subst (λ xs. IsTrue (list_all trait_named xs)) (sym e.traits) h.traits;
}

by_kept : {A : Type 0} {s : TypingState} {r : Result (A × TypingState) Broken} → Keeps s r → Names s r
by_kept p = walk_map p λ a t e h. names_kept e h

then_names : {A B : Type 0} (s : TypingState) {r : Result (A × TypingState) Broken} {f : A → Check B} → Names s r → ((a : A) (t :
    TypingState) → Names t (f a t)) → Names s (and_then r f)
then_names s p k = walk p λ a t e. walk_map (k a t) λ b u f h. f (e h)

derives_kept : (ds : List Named) (s : TypingState) → Keeps s (rules.derives_known ds s)
derives_kept [] s = walk_ends (kept s)
derives_kept (d ∷ ds) s = step (obeyed_kept Rule.T01 d.0 (rules.is_derivable d.1) s) λ _ t. derives_kept ds t

declared_named : (around : types.WrittenScope) (v : Syn) (s : TypingState) → Holds (variant_named v) → Walked (λ (x : Variant) t. Kept s
    t × IsTrue (is_word x.name)) (rules.declared_variant around v s)
declared_named around (syn at (AVariant name kind fields)) s h =
    walk_map (variant_kept around name fields s) λ v t e. (e.0, subst (λ w. IsTrue (is_word w)) (sym e.1) h.0)
declared_named around (syn at _) s h = record { so = tt }

trait_head_named : (around : types.WrittenScope) (own : TyId) (x : Syn) (s : TypingState) → Holds (head_named x) → Walked (λ (sig : Sig) t.
    Kept s t × IsTrue (is_word sig.name)) (rules.trait_head around own x s)
trait_head_named around own (syn at (AnItem (FnItem name params answer block))) s h = by (rules.has_receiver params)
  where
    pure_own : Check TyId
    pure_own t = Ok (own, t)

    sig_named : (ps : Syns) (t : TypingState) → Walked (λ (sig : Sig) u. Kept t u × IsTrue (is_word sig.name)) (rules.sig_of around
        pure_own name.1 ps answer t)
    sig_named ps t =
        walk_map (sig_kept around pure_own (λ u. ends own u) name.1 ps answer t) λ sig u e. (
          e.0,
          subst (λ w. IsTrue (is_word w)) (sym e.1) (true_left (is_word name.1) _ h),
        )

    by : (b : Bool) → Walked (λ (sig : Sig) t. Kept s t × IsTrue (is_word sig.name)) ((if b then rules.sig_of around pure_own
        name.1 params answer else (λ t. and_then (interned (Ty.Shared own) t) (λ self u. and_then (rules.sig_of around
        pure_own name.1 (rules.behind_self params) answer u) (λ sig v. Ok (rules.with_receiver self sig, v))))) s)
    by true = sig_named params s
    by false =
        walk (interned_kept (Ty.Shared own) s) λ self t e. walk (sig_named (rules.behind_self params) t) λ sig u f.
        walk_ends (onward e f.0, f.1)
trait_head_named around own (syn at _) s h = record { so = tt }

item_head_names : (k : rules.Known) (i : Syn) (s : TypingState) → Holds (item_named i) → Names s (rules.item_head k i s)
item_head_names k (syn at (AnItem (StructItem ds name kind fields))) s h =
    walk (derives_kept ds s) λ _ t e. walk (variant_kept (rules.names_alone k (types.number_of k.adts name.1)) name.1 fields
    t) λ v u f. walk_ends (λ had.
    let has = names_kept (onward e f.0) had in
    record {
      adts = more_adts u.items (rules.adt_of k ds name.1 false (v ∷ [])) has.adts (and_true (is_type_name name.1) _ h.0 (and_true
          (is_word v.name) true (subst (λ w. IsTrue (is_word w)) (sym f.1) (word_of name.1 h.0)) refl));
      traits = has.traits;
    })
  where
    word_of : (w : Word) → IsTrue (is_type_name w) → IsTrue (is_word w)
    word_of w t = true_left (is_word w) _ t
item_head_names k (syn at (AnItem (EnumItem ds name variants))) s h =
    walk (derives_kept ds s) λ _ t e. walk (each_named variant_named (λ (v : Variant). is_word v.name)
    (rules.declared_variant (rules.names_alone k (types.number_of k.adts name.1))) (declared_named (rules.names_alone k
    (types.number_of k.adts name.1))) (list_of variants) t h.1.1) λ vs u f. walk_ends (λ had.
    let has = names_kept (onward e f.0) had in
    record {
      adts = more_adts u.items (rules.adt_of k ds name.1 true vs) has.adts (and_true (is_type_name name.1) _ h.0 f.1);
      traits = has.traits;
    })
item_head_names k (syn at (AnItem (TraitItem name heads))) s h =
    walk (interned_kept (Ty.Dyn (length s.items.traits)) s) λ own t e. walk (each_named head_named (λ (m : Sig). is_word
    m.name) (rules.trait_head (rules.names_alone k None) own) (trait_head_named (rules.names_alone k None) own) (list_of
    heads) t h.1) λ sigs u f. walk_ends (λ had.
    let has = names_kept (onward e f.0) had in
    record {
      adts = has.adts;
      traits = more_traits u.items (record { name = name.1; methods = sigs }) has.traits f.1;
    })
item_head_names k (syn at (AnItem (ImplItem None name methods))) s h =
    by_kept (obeyed_kept Rule.T01 name.0 (is_some (types.number_of k.adts name.1)) s)
item_head_names k (syn at (AnItem (ImplItem (Some trait_) name methods))) s h =
    by_kept (step (obeyed_kept Rule.T01 trait_.0 (rules.is_drop trait_.1 || is_some (types.number_of k.traits trait_.1)) s)
    λ _ t. obeyed_kept Rule.T01 name.0 (is_some (types.number_of k.adts name.1)) t)
item_head_names k (syn at _) s h = walk_ends (λ had. had)

-- ---- bodies and impls, which keep both tables

own_kept : (at : Pos) (self_adt : Option ℕ) (s : TypingState) → Keeps s (rules.own_ty at self_adt s)
own_kept at self_adt s = step (known_kept Rule.T01 at self_adt s) λ n t. interned_kept (Ty.Adt n) t

body_kept : (k : rules.Known) (owner : Option Word) (c : rules.Count) (b : Syn) (s : TypingState) → Keeps s (rules.body_sig k owner c
    b s)
body_kept k owner c (syn at (AnItem (FnItem name params answer block))) s =
    walk (sig_kept (rules.names_alone k self_adt) (rules.own_ty at self_adt) (own_kept at self_adt) (full_name owner name.1)
    params answer s) λ sig t e. walk_ends (onward e.0 (record { adts = refl; traits = refl }))
  where
    self_adt : Option ℕ
    self_adt = option_and_then (types.number_of k.adts) owner
body_kept k owner c (syn at (AnExpression (MoveOf captures params answer body))) s =
    step (step (step (interned_kept (Ty.Closure c.closures) s) λ self t. step (each_kept (rules.closure_param around)
    (closure_param_kept around) (list_of params) t) λ tys u. ends (self ∷ tys) u) λ tys t. step (or_unit_kept t
    (rules.answer_ty around answer t) (answer_kept around answer t)) λ ty u. walk_ends (record {
      adts = refl;
      traits = refl;
    })) λ _ u. walk_ends (kept u)
  where
    around : types.WrittenScope
    around = rules.names_alone k (option_and_then (types.number_of k.adts) owner)
body_kept k owner c (syn at _) s = record { so = tt }

bodies_kept : (k : rules.Known) (owner : Option Word) (c : rules.Count) (bs : List Syn) (s : TypingState) → Keeps s (rules.body_sigs k
    owner c bs s)
bodies_kept k owner c [] s = walk_ends (kept s)
bodies_kept k owner c (b ∷ bs) s = step (body_kept k owner c b s) λ d t. bodies_kept k owner d bs t

heads_names : (k : rules.Known) (c : rules.Count) (is : List ItemSyn) (s : TypingState) → Holds (each item_named (item_syns is)) →
    Names s (rules.heads_collected k c is s)
heads_names k c [] s h = walk_ends (λ had. had)
heads_names k c (i ∷ is) s h =
    then_names s (item_head_names k i.item s h.0) λ _ t. then_names t (by_kept (bodies_kept k (impl_owner i.item) c i.bodies
    t)) λ d u. heads_names k d is u h.1

impl_kept : (k : rules.Known) (i : Syn) (s : TypingState) → Keeps s (rules.impl_of k i s)
impl_kept k (syn at (AnItem (ImplItem (Some trait_) name methods))) s = by (rules.is_drop trait_.1)
  where
    added : Check (Unit {0})
    added t =
        and_then (known Rule.T01 trait_.0 (types.number_of k.traits trait_.1) t) (λ n u. and_then (known Rule.T01 name.0
        (types.number_of k.adts name.1) u) (λ adt. rules.impl_added k n adt trait_.1 name.1))

    by : (b : Bool) → Keeps s ((if b then (λ t. Ok (tt, t)) else added) s)
    by true = walk_ends (kept s)
    by false =
        step (known_kept Rule.T01 trait_.0 (types.number_of k.traits trait_.1) s) λ n t. step (known_kept Rule.T01 name.0
        (types.number_of k.adts name.1) t) λ adt u. walk_ends (record { adts = refl; traits = refl })
impl_kept k (syn at (AnItem (ImplItem None name methods))) s = walk_ends (kept s)
impl_kept k (syn at _) s = walk_ends (kept s)

finite_kept : (n : ℕ) (as_ : List (Pos × List Named)) (s : TypingState) → Keeps s (rules.all_finite n as_ s)
finite_kept n [] s = walk_ends (kept s)
finite_kept n (a ∷ as_) s =
    step {f = λ _. rules.all_finite (suc n) as_} (step (interned_kept (Ty.Adt n) s) λ ty t. obeyed_kept Rule.T09 a.0 (not
    (rules.holds t.items ty ty)) t) λ _ t. finite_kept (suc n) as_ t

derive_kept : (dropped : List Word) (n : ℕ) (as_ : List (Pos × List Named)) (s : TypingState) → Keeps s
    (rules.all_derive dropped n as_ s)
derive_kept dropped n [] s = walk_ends (kept s)
derive_kept dropped n (a ∷ as_) s =
    step (obeyed_kept Rule.T10 a.0 (rules.may_derive s.items dropped a.1 (slice_get s.items.adts n)) s) λ _ t.
    derive_kept dropped (suc n) as_
    t

differ_kept : (ns : List Named) (earlier : List Word) (s : TypingState) → Keeps s (rules.names_differ ns earlier s)
differ_kept [] earlier s = walk_ends (kept s)
differ_kept (n ∷ ns) earlier s =
    step (obeyed_kept Rule.T02 n.0 (not (is_among n.1 earlier || is_among n.1 built_in)) s) λ _ t. differ_kept ns (earlier ++
    n.1 ∷ []) t

-- ---- the whole

collecting_names : (is : List ItemSyn) (end : Pos) (s : TypingState) → Holds (each item_named (item_syns is)) → Names s
    (rules.collecting is end s)
collecting_names is end s h =
    then_names s (by_kept (differ_kept (filter_map rules.item_name (item_syns is)) [] s)) λ _ t. then_names t (heads_names
    (rules.known_of is) (record { outer = []; in_outer = 0; closures = 0 }) is t h) λ _ u. then_names u (by_kept (each_kept
    (rules.impl_of (rules.known_of is)) (impl_kept (rules.known_of is)) (item_syns is) u)) λ _ v. then_names v (by_kept
    (finite_kept 0 (filter_map rules.adt_item (item_syns is)) v)) λ _ w. then_names w (by_kept (derive_kept
    (rules.drop_owners is) 0 (filter_map
    rules.adt_item (item_syns is)) w)) λ _ x. by_kept (obeyed_kept Rule.T01 end (is_some (types.number_of (body_paths is)
    (codes "main"))) x)

no_names : HasNames rules.no_items
no_names = record { adts = refl; traits = refl }

-- of what is collected
collected_names : (parts : Parts Pos) (end : Pos) (items : ItemTable) → rules.collected parts end ≡ Ok items → Holds (each
    item_named (item_syns (items_of parts))) → HasNames items
collected_names parts end items e h =
    by (rules.collecting (items_of parts) end (rules.starting_with rules.no_items)) (collecting_names (items_of parts) end
    (rules.starting_with rules.no_items) h) e
  where
    by : (r : Result (Unit {0} × TypingState) Broken) → Names (rules.starting_with rules.no_items) r → rules.items_in r ≡ Ok items →
        HasNames items
    by (Ok a) w e = subst HasNames (ok_same a.1.items items e) (w.so no_names)
    by (Err x) w e = absurd (no_ok x e)

pub names_are_words : NamesAreWords
names_are_words parts items p h =
    let had = collected_names parts h.end items h.collected h.text.named in
    let later = (bodies_typed parts items p (are_collected parts items p h) h.checked).0 in
    record {
      adts = subst (λ xs. IsTrue (list_all adt_named xs)) (sym later.adts) had.adts;
      traits = subst (λ xs. IsTrue (list_all trait_named xs)) (sym later.traits) had.traits;
    }
