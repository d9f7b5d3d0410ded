-- The types that are collected of a text whose types keep all rules are within their limits.
use Rattle.std.proofs.Common.{◌≡◌, ℕ, suc, ◌+◌, ◌<◌, ◌≤◌, Bool, true, false, ◌||◌, not, if◌then◌else◌, List, [], ◌∷◌, ◌++◌, length, slice_get, Option, Some, None, Result, Ok, Err, IsTrue, inl, inr, refl, ap, sym, subst, ◌∙◌, arith}
use Rattle.std.specs.Prelude.{option_and_then, codes, is_some}
use Rattle.std.specs.List.{cons_option, filter_map}
use Rattle.std.proofs.lemmas.Bool.{false≢true}
use Rattle.std.proofs.lemmas.List.{length-append}
use Rattle.std.proofs.lemmas.Option.{none-some}
use Rattle.mir_base.specs.declared.place_in_text.Pos.{Pos}
use Rattle.mir_base.specs.declared.rule.Rule.{Rule}
use Rattle.mir_ty.specs.declared.ty.Ty.{Ty}
use Rattle.mir_ty.specs.declared.ty.TyId.{TyId}
use Rattle.mir_ty.specs.ItemTable.{ItemTable}
use Rattle.well_typed.proofs.ClaimLemmas.{true_left, true_right}
use Rattle.well_typed.specs.Names.{is_among, built_in}
use Rattle.typing_rules.specs.Check.{Check, TypingState, Broken, and_then, obeys, known, each_checked, interned}
use Rattle.typing_rules.specs.Collected as rules
use Rattle.typing_rules.specs.Items.{ItemSyn, item_syns, trait_name, adt_names, trait_names, body_paths, impl_owner, full_name, closure_name}
use Rattle.typing_rules.specs.Places.{scalars}
use Rattle.typing_rules.specs.Program.{behind_self}
use Rattle.typing_rules.specs.Written as types
use Rattle.src_ast.specs.Syntax.{Word, Named, Receiver, ByValue, ByShared, ByUnique, Syn, syn, AnExpression, AnItem, AParam, AField, AVariant, MoveOf, StructItem, EnumItem, TraitItem, ImplItem, FnItem, ParamOf, SelfParam, Syns, list_of, MaybeSyn, nothing, just}
use Rattle.typing_soundness.specs.Closures.{BodySyn, Tape}
use Rattle.typing_soundness.specs.Heads.{body_text, bodies_text}
use Rattle.typing_soundness.specs.Legal.{legal, legal_param, param_legal, params_legal, answer_legal, field_legal, fields_legal, variant_legal, trait_head_legal, body_legal, item_legal}
use Rattle.typing_soundness.specs.Met.{behind}
use Rattle.typing_soundness.specs.Walks.{Walked}
use Rattle.typing_soundness.proofs.Items.Collected.{all_names, listed_text}
use Rattle.typing_soundness.proofs.Items.Limits.Types.{Bounds, IsIn, AreIn, AreNamed, position_below, interned_in, written_in, written_param_in}
use Rattle.typing_soundness.proofs.Items.Ready.{All, all_at, ItemKeeps, same_written, same_param, params_all, fields_all, variants_all, heads_all, with_self_legal, same_behind}
use Rattle.typing_soundness.proofs.Walking.Expressions.{both_walk}
use Rattle.typing_soundness.proofs.Walking.Params.{still, interned_still, written_still, written_param_still}
use Rattle.typing_soundness.proofs.Walking.Steps.{SameWalk, walk, walk_map, walk_obeyed, walk_found, walk_ends}

-- the table while heads are collected: so many traits, and types within their limits
pub record IsCollected (b : Bounds) (count : ℕ) (items : ItemTable) : Type 0 where
  pub traits : length items.traits ≡ count
  pub types : AreIn b items

-- a check that only makes types, within their limits
abbrev Stays : Bounds → ℕ → {A : Type 0} → Check A → Type 0
Stays b n {A} check = (s : TypingState) → IsCollected b n s.items → Walked (λ (_ : A) t. IsCollected b n t.items) (check s)

-- names alone are asked
abbrev alone : types.WrittenScope → types.WrittenScope
alone around = record around { has_limits = false }

-- what names there are, and the struct or enum of an impl
abbrev known_around : rules.Known → Option Word → types.WrittenScope
known_around k owner = rules.names_alone k (option_and_then (types.number_of k.adts) owner)

pub known_named : (b : Bounds) (k : rules.Known) → length k.adts ≤ b.adts → length k.traits ≤ b.traits → (owner : Option Word) →
    AreNamed b (known_around k owner)
known_named b k adts traits owner = record { adts = adts; traits = traits; self = by owner }
  where
    by : (o : Option Word) (n : ℕ) → option_and_then (types.number_of k.adts) o ≡ Some n → n < b.adts
    by None n is = absurd (none-some n is)
    by (Some w) n is = let e = position_below _ k.adts [] n is in omega (arith, e, adts)

module _ (b : Bounds) (n : ℕ) where
  kept : {s t : TypingState} → IsCollected b n s.items → AreIn b t.items → SameWalk s t → IsCollected b n t.items
  kept h types e = record { traits = ap length e.stays.traits ∙ h.traits; types = types }

  interned_kept : (ty : Ty) → ((closures : ℕ) → IsIn b closures ty) → Stays b n (interned ty)
  interned_kept ty is s h =
      walk_map (both_walk (interned ty s) (interned_in b ty s h.types (is (length s.items.closures))) (interned_still ty s
      (still s))) λ _ t k. kept h k.0 k.1

  obeyed_kept : (rule : Rule) (at : Pos) (holds : Bool) → Stays b n (obeys rule at holds)
  obeyed_kept rule at true s h = walk_ends h
  obeyed_kept rule at false s h = record { so = tt }

  each_kept : {A B : Type 0} (f : A → Check B) (P : A → Type 0) → ((x : A) → P x → Stays b n (f x)) → (xs : List A) → All P
      xs → Stays b n (each_checked f xs)
  each_kept f P good [] h s k = walk_ends k
  each_kept f P good (x ∷ xs) h s k =
      walk (good x h.0 s k) λ y t l. walk (each_kept f P good xs h.1 t l) λ ys u m. walk_ends m

  receiver_kept : (own : TyId) (receiver : Receiver) → Stays b n (rules.receiver_ty own receiver)
  receiver_kept own ByValue s h = walk_ends h
  receiver_kept own ByShared s h = interned_kept (Ty.Shared own) (λ closures. tt) s h
  receiver_kept own ByUnique s h = interned_kept (Ty.Unique own) (λ closures. tt) s h

  module _ (around : types.WrittenScope) (named : AreNamed b around) where
    written_kept : (e : Syn) → IsTrue (legal e) → Stays b n (types.written (alone around) e)
    written_kept e l s h =
        walk_map (both_walk (types.written (alone around) e s) (subst (λ r. Walked (λ ty t. AreIn b t.items) r) (sym
        (same_written around e l s)) (written_in b around named e s h.types)) (written_still (alone around) e s)) λ _ t k.
        kept h k.0 k.1

    written_param_kept : (e : Syn) → IsTrue (legal_param e) → Stays b n (types.written_param (alone around) e)
    written_param_kept e l s h =
        walk_map (both_walk (types.written_param (alone around) e s) (subst (λ r. Walked (λ ty t. AreIn b t.items) r) (sym
        (same_param around e l s)) (written_param_in b around named e s h.types)) (written_param_still (alone around) e s)) λ
        _ t k. kept h k.0 k.1

    -- ---- heads

    own_kept : (at : Pos) → Stays b n (rules.own_ty at around.self_adt)
    own_kept at s h =
        walk_found Rule.T01 at around.self_adt _ λ m is. interned_kept (Ty.Adt m) (λ closures. named.self m is) s h

    head_param_kept : (self : Check TyId) → Stays b n self → (p : Syn) → IsTrue (param_legal legal_param p) → Stays b n
        (rules.param_ty (alone around) self p)
    head_param_kept self good (syn at (AParam (ParamOf p ty))) l s h = written_param_kept ty l s h
    head_param_kept self good (syn at (AParam (SelfParam receiver))) l s h = walk (good s h) λ own t k. receiver_kept own receiver t k
    head_param_kept self good (syn at _) l s h = absurd (false≢true l)

    answer_kept : (answer : MaybeSyn) → IsTrue (answer_legal answer) → Stays b n (rules.answer_ty (alone around) answer)
    answer_kept nothing l s h = walk_ends h
    answer_kept (just ty) l s h = written_kept ty l s h

    sig_kept : (self : Check TyId) → Stays b n self → (name : Word) (params : Syns) (answer : MaybeSyn) → IsTrue
        (params_legal legal_param params) → IsTrue (answer_legal answer) → Stays b n (rules.sig_of (alone around) self name
        params answer)
    sig_kept self good name params answer l m s h =
        walk (each_kept (rules.param_ty (alone around) self) (λ p. IsTrue (param_legal legal_param p)) (head_param_kept self
        good) (list_of params) (params_all legal_param params l) s h) λ tys t k. walk (answer_kept answer m t k) λ ty u q.
        walk_ends q

    trait_head_kept : (own : TyId) (x : Syn) → IsTrue (trait_head_legal x) → Stays b n (rules.trait_head (alone around) own x)
    trait_head_kept own (syn at (AnItem (FnItem name params answer block))) l s h = by (rules.has_receiver params)
      where
        legal_params : IsTrue (params_legal legal_param (behind_self params))
        legal_params = true_left (params_legal legal_param (behind_self params)) _ l

        legal_result : IsTrue (answer_legal answer)
        legal_result = true_right (params_legal legal_param (behind_self params)) _ l

        own_given : Check TyId
        own_given t = Ok (own, t)

        own_stays : Stays b n own_given
        own_stays t k = walk_ends k

        by : (c : Bool) → Walked (λ _ t. IsCollected b n t.items) ((if c then rules.sig_of (alone around) own_given name.1
            params answer else (λ t. and_then (interned (Ty.Shared own) t) (λ self u. and_then (rules.sig_of (alone around)
            own_given name.1 (rules.behind_self params) answer u) (λ sig v. Ok (rules.with_receiver self sig, v))))) s)
        by true = sig_kept own_given own_stays name.1 params answer (with_self_legal around own params legal_params)
            legal_result s h
        by false =
            walk (interned_kept (Ty.Shared own) (λ closures. tt) s h) λ self t k. walk (sig_kept own_given own_stays name.1
            (rules.behind_self params) answer (same_behind around own params legal_params) legal_result t k) λ sig u m.
            walk_ends m
    trait_head_kept own (syn at _) l s h = absurd (false≢true l)

    -- ---- closures

    or_unit_kept : (check : Check TyId) → Stays b n check → Stays b n (types.or_unit check)
    or_unit_kept check good s h = by (check s) (good s h)
      where
        by : (r : Result (TyId × TypingState) Broken) → Walked (λ _ t. IsCollected b n t.items) r → Walked (λ _ t. IsCollected b n
            t.items) (types.or_unit_in s r)
        by (Ok a) k = k
        by (Err e) k = walk_ends h

    closure_param_kept : (p : Syn) → IsTrue (param_legal legal p) → Stays b n (rules.closure_param (alone around) p)
    closure_param_kept (syn at (AParam (ParamOf p ty))) l s h =
        or_unit_kept (types.written (alone around) ty) (written_kept ty l) s h
    closure_param_kept (syn at _) l s h = walk_ends h

    -- ---- fields

    field_kept : (f : Syn) → IsTrue (field_legal f) → Stays b n (types.written (alone around) (rules.field_type f))
    field_kept (syn at (AField name ty)) l = written_kept ty l
    field_kept (syn at form) l = written_kept (syn at form) l

    variant_kept : (name : Word) (fields : Syns) → IsTrue (fields_legal (list_of fields)) → Stays b n (rules.variant_of (alone
        around) name fields)
    variant_kept name fields l s h =
        walk (each_kept (λ f. types.written (alone around) (rules.field_type f)) (λ f. IsTrue (field_legal f)) field_kept
        (list_of fields) (fields_all (list_of fields) l) s h) λ tys t k. walk_ends k

    declared_kept : (v : Syn) → IsTrue (variant_legal v) → Stays b n (rules.declared_variant (alone around) v)
    declared_kept (syn at (AVariant name kind fields)) l s h = variant_kept name fields l s h
    declared_kept (syn at _) l s h = record { so = tt }

  derives_kept : (ds : List Named) → Stays b n (rules.derives_known ds)
  derives_kept [] s h = walk_ends h
  derives_kept (d ∷ ds) s h =
      walk_obeyed Rule.T01 d.0 (rules.is_derivable d.1) (rules.derives_known ds) λ _. derives_kept ds s h

  names_kept : (ns : List Named) (earlier : List Word) → Stays b n (rules.names_differ ns earlier)
  names_kept [] earlier s h = walk_ends h
  names_kept (m ∷ ns) earlier s h =
      walk (obeyed_kept Rule.T02 m.0 (not (is_among m.1 earlier || is_among m.1 built_in)) s h) λ _ t k. names_kept ns
      (earlier ++ m.1 ∷ []) t k

  impl_kept : (k : rules.Known) (i : Syn) → Stays b n (rules.impl_of k i)
  impl_kept k (syn at (AnItem (ImplItem (Some trait_) name methods))) s h = by (rules.is_drop trait_.1)
    where
      added : Check (Unit {0})
      added t =
          and_then (known Rule.T01 trait_.0 (types.number_of k.traits trait_.1) t) (λ m u. and_then (known Rule.T01 name.0
          (types.number_of k.adts name.1) u) (λ adt. rules.impl_added k m adt trait_.1 name.1))

      by : (c : Bool) → Walked (λ _ t. IsCollected b n t.items) ((if c then (λ t. Ok (tt, t)) else added) s)
      by true = walk_ends h
      by false =
          walk_found Rule.T01 trait_.0 (types.number_of k.traits trait_.1) _ λ m is. walk_found Rule.T01 name.0
          (types.number_of k.adts name.1) _ λ adt is. walk_ends (record { traits = h.traits; types = h.types })
  impl_kept k (syn at (AnItem (ImplItem None name methods))) s h = walk_ends h
  impl_kept k (syn at _) s h = walk_ends h

  impls_kept : (k : rules.Known) (is : List Syn) → Stays b n (each_checked (rules.impl_of k) is)
  impls_kept k [] s h = walk_ends h
  impls_kept k (i ∷ is) s h = walk (impl_kept k i s h) λ _ t l. walk (impls_kept k is t l) λ _ u m. walk_ends m

  finite_kept : (m : ℕ) (as_ : List (Pos × List Named)) → m + length as_ ≤ b.adts → Stays b n (rules.all_finite m as_)
  finite_kept m [] few s h = walk_ends h
  finite_kept m (a ∷ as_) few s h =
      walk {f = λ _. rules.all_finite (suc m) as_} (walk (interned_kept (Ty.Adt m) (λ closures. omega (arith, few)) s h) λ ty t
      k. obeyed_kept Rule.T09 a.0 (not (rules.holds t.items ty ty)) t k) λ _ t k. finite_kept (suc m) as_ (omega (arith, few))
      t k

  derive_kept : (dropped : List Word) (m : ℕ) (as_ : List (Pos × List Named)) → Stays b n (rules.all_derive dropped m
      as_)
  derive_kept dropped m [] s h = walk_ends h
  derive_kept dropped m (a ∷ as_) s h =
      walk (obeyed_kept Rule.T10 a.0 (rules.may_derive s.items dropped a.1 (slice_get s.items.adts m)) s h) λ _ t k.
      derive_kept dropped (suc m) as_ t k

-- ---- bodies

-- the number of the closure behind some bodies
abbrev pub behind_all : List BodySyn → ℕ → ℕ
behind_all [] n = n
behind_all (text ∷ texts) n = behind_all texts (behind text n)

module _ (adts traits : ℕ) where
  -- so many closures so far
  abbrev pub bounds : ℕ → Bounds
  bounds closures = record { adts = adts; traits = traits; closures = closures }

  more_closures : (n m closures : ℕ) → n ≤ m → (ty : Ty) → IsIn (bounds n) closures ty → IsIn (bounds m) closures ty
  more_closures n m closures less (Ty.Closure k) (inl e) = inl (omega (arith, e, less))
  more_closures n m closures less (Ty.Closure k) (inr e) = inr e
  more_closures n m closures less (Ty.Tuple parts) e = e
  more_closures n m closures less (Ty.Array element count) e = e
  more_closures n m closures less (Ty.Adt k) e = e
  more_closures n m closures less (Ty.Dyn k) e = e
  more_closures n m closures less _ e = tt

  with_more : (n m : ℕ) (count : ℕ) (items : ItemTable) → n ≤ m → IsCollected (bounds n) count items → IsCollected (bounds m)
      count items
  with_more n m count items less h = record {
    traits = h.traits;
    types = λ k ty at. more_closures n m (length items.closures) less ty (h.types k ty at);
  }

  module _ (k : rules.Known) (few_adts : length k.adts ≤ adts) (few_traits : length k.traits ≤ traits) where
    named_in : (n : ℕ) (owner : Option Word) → AreNamed (bounds n) (known_around k owner)
    named_in n owner = known_named (bounds n) k few_adts few_traits owner

    -- from one number of closures to that behind the bodies of a text
    abbrev IsBehind : Tape → ℕ → ℕ → Type 0
    IsBehind f from to = (rest : List BodySyn) → behind_all (f rest) from ≡ behind_all rest to

    body_kept : (owner : Option Word) (c : rules.Count) (x : Syn) (count : ℕ) → IsTrue (body_legal x) → (s : TypingState) →
        IsCollected (bounds c.closures) count s.items → Walked (λ d t. IsCollected (bounds d.closures) count t.items × IsBehind
        (body_text (all_names k owner) x) c.closures d.closures) (rules.body_sig k owner c x s)
    body_kept owner c (syn at (AnItem (FnItem name params answer block))) count l s h =
        walk (sig_kept (bounds c.closures) count (known_around k owner) (named_in c.closures owner) (rules.own_ty at
        (option_and_then (types.number_of k.adts) owner)) (own_kept (bounds c.closures) count (known_around k owner) (named_in
        c.closures owner) at) (full_name owner name.1) params answer (true_left (params_legal legal_param params) _ l)
        (true_right (params_legal legal_param params) _ l) s h) λ sig t g. walk_ends (
          record { traits = g.traits; types = g.types },
          λ rest. refl,
        )
    body_kept owner c (syn at (AnExpression (MoveOf captures params answer body))) count l s h =
        walk closure_kept λ _ t g. walk_ends (g, λ rest. ap (behind_all rest) (omega arith))
      where
        around : types.WrittenScope
        around = known_around k owner

        more : Bounds
        more = bounds (c.closures + 1)

        named : AreNamed more around
        named = named_in (c.closures + 1) owner

        closure_kept : Walked (λ _ t. IsCollected more count t.items) (rules.closure_head (alone around) c.closures
            (closure_name c.outer (c.in_outer + 1)) params answer s)
        closure_kept =
            walk (walk (interned_kept more count (Ty.Closure c.closures) (λ closures. inl (omega arith)) s (with_more
            c.closures (c.closures + 1) count s.items (omega arith) h)) λ self t g. walk (each_kept more count
            (rules.closure_param (alone around)) (λ p. IsTrue (param_legal legal p)) (closure_param_kept more count around
            named) (list_of params) (params_all legal params (true_left (params_legal legal params) _ l)) t g) λ tys u e.
            walk_ends e) λ tys t g. walk (or_unit_kept more count around named (rules.answer_ty (alone around) answer)
            (answer_kept more count around named answer (true_right (params_legal legal params) _ l)) t g) λ ty u e. walk_ends
            (record { traits = e.traits; types = e.types })
    body_kept owner c (syn at _) count l s h = record { so = tt }

    bodies_kept : (owner : Option Word) (c : rules.Count) (xs : List Syn) (count : ℕ) → All (λ x. IsTrue (body_legal x)) xs →
        (s : TypingState) → IsCollected (bounds c.closures) count s.items → Walked (λ d t. IsCollected (bounds d.closures) count
        t.items × IsBehind (bodies_text (all_names k owner) xs) c.closures d.closures) (rules.body_sigs k owner c xs s)
    bodies_kept owner c [] count l s h = walk_ends (h, λ rest. refl)
    bodies_kept owner c (x ∷ xs) count l s h =
        walk (body_kept owner c x count l.0 s h) λ d t g. walk_map (bodies_kept owner d xs count l.1 t g.0) λ e u f. (
          f.0,
          λ rest. g.1 (bodies_text (all_names k owner) xs rest) ∙ f.1 rest,
        )

    -- ---- items

    -- as many traits as an item is
    abbrev traits_of : Syn → ℕ
    traits_of i = length (trait_names (i ∷ []))

    head_kept : (n count : ℕ) (i : Syn) → IsTrue (item_legal i) → count + traits_of i ≤ traits → (s : TypingState) → IsCollected
        (bounds n) count s.items → Walked (λ _ t. IsCollected (bounds n) (count + traits_of i) t.items) (rules.item_head k i s)
    head_kept n count (syn at (AnItem (StructItem ds name kind fields))) l few s h =
        walk (derives_kept (bounds n) count ds s h) λ _ t g. walk (variant_kept (bounds n) count (known_around k (Some
        name.1)) (named_in n (Some name.1)) name.1 fields l t g) λ v u e. walk_ends (record {
          traits = e.traits ∙ omega arith;
          types = e.types;
        })
    head_kept n count (syn at (AnItem (EnumItem ds name variants))) l few s h =
        walk (derives_kept (bounds n) count ds s h) λ _ t g. walk (each_kept (bounds n) count (rules.declared_variant
        (alone (known_around k (Some name.1)))) (λ v. IsTrue (variant_legal v)) (declared_kept (bounds n) count (known_around k (Some
        name.1)) (named_in n (Some name.1))) (list_of variants) (variants_all (list_of variants) l) t g) λ vs u e. walk_ends
        (record { traits = e.traits ∙ omega arith; types = e.types })
    head_kept n count (syn at (AnItem (TraitItem name heads))) l few s h =
        walk (interned_kept (bounds n) count (Ty.Dyn (length s.items.traits)) (λ closures. let e = h.traits in omega (
          arith,
          e,
          few,
        )) s h) λ own t g. walk (each_kept (bounds n) count (rules.trait_head (alone (known_around k None)) own) (λ x.
        IsTrue (trait_head_legal x)) (trait_head_kept (bounds n) count (known_around k None) (named_in n None) own) (list_of
        heads) (heads_all (list_of heads) l) t g) λ sigs u e. walk_ends (record {
          traits = length-append u.items.traits (record { name = name.1; methods = sigs } ∷ []) ∙ ap (λ m. m + 1) e.traits;
          types = e.types;
        })
    head_kept n count (syn at (AnItem (ImplItem None name methods))) l few s h =
        walk_map (obeyed_kept (bounds n) count Rule.T01 name.0 (is_some (types.number_of k.adts name.1)) s h) λ _ t e. record {
          traits = e.traits ∙ omega arith;
          types = e.types;
        }
    head_kept n count (syn at (AnItem (ImplItem (Some trait_) name methods))) l few s h =
        walk_obeyed Rule.T01 trait_.0 (rules.is_drop trait_.1 || is_some (types.number_of k.traits trait_.1)) _ λ _. walk_map
        (obeyed_kept (bounds n) count Rule.T01 name.0 (is_some (types.number_of k.adts name.1)) s h) λ _ t e. record {
          traits = e.traits ∙ omega arith;
          types = e.types;
        }
    head_kept n count (syn at _) l few s h = walk_ends (record { traits = h.traits ∙ omega arith; types = h.types })

    split_traits : (i : Syn) (is : List Syn) → length (trait_names (i ∷ is)) ≡ traits_of i + length (trait_names is)
    split_traits i is = by (trait_name i)
      where
        by : (o : Option Word) → length (cons_option o (filter_map trait_name is)) ≡ length (cons_option o []) + length
            (filter_map trait_name is)
        by None = omega arith
        by (Some w) = omega arith

    heads_kept : (c : rules.Count) (is : List ItemSyn) (count : ℕ) → All ItemKeeps is → count + length (trait_names (item_syns
        is)) ≤ traits → (s : TypingState) → IsCollected (bounds c.closures) count s.items → Walked (λ _ t. (n : ℕ) × IsCollected
        (bounds n) (count + length (trait_names (item_syns is))) t.items × IsBehind (listed_text k is) c.closures n)
        (rules.heads_collected k c is s)
    heads_kept c [] count l few s h =
        walk_ends (c.closures, record { traits = h.traits ∙ omega arith; types = h.types }, λ rest. refl)
    heads_kept c (i ∷ is) count l few s h =
        walk (head_kept c.closures count i.item l.0.0 (let e = split_traits i.item (item_syns is) in omega (arith, few, e)) s
        h) λ _ t g. walk (bodies_kept (impl_owner i.item) c i.bodies (count + traits_of i.item) l.0.1 t g) λ d u e. walk_map
        (heads_kept d is (count + traits_of i.item) l.1 (let q = split_traits i.item (item_syns is) in omega (arith, few, q)) u
        e.0) λ _ v f. (
          f.0,
          record {
            traits = f.1.traits ∙ (let q = split_traits i.item (item_syns is) in omega (arith, q));
            types = f.1.types;
          },
          λ rest. e.1 (listed_text k is rest) ∙ f.2 rest,
        )

-- ---- the whole

-- types that have nothing in them
scalars_in : (b : Bounds) → AreIn b rules.no_items
scalars_in b n ty at = by n ty at
  where
    all : All (IsIn b 0) scalars
    all = (tt, (tt, (tt, (tt, (tt, (tt, (tt, (tt, tt))))))))

    by : (n : ℕ) (ty : Ty) → slice_get scalars n ≡ Some ty → IsIn b 0 ty
    by n ty at = all_at (IsIn b 0) scalars n ty all at

-- as many structs and enums with a place as with a name
as_many : (is : List Syn) → length (filter_map rules.adt_item is) ≡ length (adt_names is)
as_many [] = refl
as_many (i ∷ is) = by i (as_many is)
  where
    by : (j : Syn) → length (filter_map rules.adt_item is) ≡ length (adt_names is) → length (filter_map rules.adt_item (j ∷
        is)) ≡ length (adt_names (j ∷ is))
    by (syn at (AnItem (StructItem ds name kind fields))) e = ap suc e
    by (syn at (AnItem (EnumItem ds name variants))) e = ap suc e
    by (syn at _) e = e

pub collecting_kept : (is : List ItemSyn) (end : Pos) → All ItemKeeps is → Walked (λ _ t. (n : ℕ) × IsCollected (bounds (length
    (adt_names (item_syns is))) (length (trait_names (item_syns is))) n) (length (trait_names (item_syns is))) t.items ×
    (behind_all (listed_text (rules.known_of is) is []) 0 ≡ n)) (rules.collecting is end (rules.starting_with
    rules.no_items))
collecting_kept is end l =
    walk (names_kept (limits 0) 0 (filter_map rules.item_name (item_syns is)) [] start (record {
      traits = refl;
      types = scalars_in
          (limits 0);
    })) λ _ t e. walk (heads_kept adts traits (rules.known_of is) (omega arith) (omega arith) (record {
      outer = [];
      in_outer = 0;
      closures = 0;
    }) is 0 l (omega arith) t e) λ _ u f. walk (impls_kept (limits f.0) traits (rules.known_of is) (item_syns is) u (record {
      traits = f.1.traits ∙ omega arith;
      types = f.1.types;
    })) λ _ v g. walk (finite_kept
    (limits f.0) traits 0 (filter_map rules.adt_item (item_syns is)) (let q = as_many (item_syns is) in omega (arith, q)) v g) λ _ w
    d. walk (derive_kept (limits f.0) traits (rules.drop_owners is) 0 (filter_map rules.adt_item (item_syns is)) w d) λ
    _ x m. walk_map (obeyed_kept
    (limits f.0) traits Rule.T01 end (is_some (types.number_of (body_paths is) (codes "main"))) x m) λ _ y o. (f.0, o, f.2 [])
  where
    adts : ℕ
    adts = length (adt_names (item_syns is))

    traits : ℕ
    traits = length (trait_names (item_syns is))

    limits : ℕ → Bounds
    limits = bounds adts traits

    start : TypingState
    start = rules.starting_with rules.no_items
