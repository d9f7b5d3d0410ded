-- `self` of a `Drop` body is replaced as a whole by no call, in a program that keeps the rules of borrows: the rule of
-- `Drop` bodies looks at each store and each call, and the rounds find all that may be replaced.
use Rattle.std.proofs.Common.{◌≡◌, ◌⊎◌, inl, inr, ℕ, zero, suc, ◌<◌, ◌==◌, ◌||◌, not, Bool, true, false, List, [], ◌∷◌, ◌++◌, map, length, Contains, Option, Some, None, if◌then◌else◌, refl, ap, sym, ◌∙◌, subst, arith}
use Rattle.std.specs.Prelude.{slice_get, option_and_then}
use Rattle.std.specs.Cmp.Derive.{both_true}
use Rattle.std.specs.List.{list_any, filter_map, flat_map}
use Rattle.std.specs.Option.{option_map_or}
use Rattle.std.proofs.lemmas.Bool.{false≢true}
use Rattle.std.proofs.lemmas.Bool.Decides.{Decides-eqb}
use Rattle.std.proofs.lemmas.List.Elements.{Contains-append_cases}
use Rattle.std.proofs.lemmas.Option.{none-some}
use Rattle.mir_base.specs.declared.rule.Rule.{Rule}
use Rattle.mir_ty.specs.DropBodies.{is_drop_body}
use Rattle.mir_ty.specs.declared.adt.Adt.{Adt}
use Rattle.mir_ty.specs.declared.def.Sig.{Sig}
use Rattle.mir_ty.specs.declared.ty.TyId.{TyId}
use Rattle.mir_ty.specs.ItemTable.{ItemTable, type_at}
use Rattle.store_model.specs.Concrete.Location.{concrete_ty}
use Rattle.store_model.specs.Places.Place.{is_reference}
use Rattle.typed_tree.specs.Nodes.{number_of}
use Rattle.typed_tree.specs.Tree.{BodyTree, ParamTree, ProgramTree}
use Rattle.typing_rules.specs.Borrows.{broken, overlaps, replacing, of_self, replaced_self, all_broken, first_of}
use Rattle.typing_rules.specs.Check.{Broken}
use Rattle.typing_rules.specs.Replaced as rules
use Rattle.typing_rules.specs.Replaced.{BodyParameter, Passing, stores, passings, is_some_pos, facts_of, facts_from, all_facts, is_among, is_replaced, bodies_of, replaceable, Replaceable, by_store, by_call}
use Rattle.typing_rules.proofs.LeastSet.{rounds_find_the_least}
use Rattle.soundness_values.specs.Laws.{IsSound}
use Rattle.soundness_values.proofs.DropHeads.{has_drop, drop_heads_of}
use Rattle.soundness_values.proofs.OnceByPass.{is_reference_at, DropsProtect}

-- ---- lists

cons_cases : {A : Type 0} (x : A) (xs : List A) (y : A) → Contains (x ∷ xs) y → (x ≡ y) ⊎ Contains xs y
cons_cases x xs y (zero, l, e) = inl e
cons_cases x xs y (suc k, l, e) = inr (k, (let m : k < length xs = omega (arith, l) in m), e)

none_in : {A : Type 0} (y : A) → Contains [] y → ⊥
none_in y (k, l, e) = let never : ⊥ = omega (arith, l) in never

none_both : {A : Type 0} (a b : List A) → a ++ b ≡ [] → (a ≡ []) × (b ≡ [])
none_both [] b e = (refl, e)
none_both (x ∷ a) b e = absurd (let never : ⊥ = cc in never)

map_none : {A B : Type 0} (f : A → B) (l : List A) → map f l ≡ [] → l ≡ []
map_none f [] e = refl
map_none f (x ∷ l) e = absurd (let never : ⊥ = cc in never)

abbrev cons_option : {A : Type 0} → Option A → List A → List A
cons_option None l = l
cons_option (Some x) l = x ∷ l

given_none : {A B : Type 0} (f : A → Option B) (l : List A) (x : A) → filter_map f l ≡ [] → Contains l x → f x ≡ None
given_none f [] x e c = absurd (none_in x c)
given_none {B = B} f (z ∷ l) x e c = by (given_none f l x) (f z) refl e (cons_cases z l x c)
  where
    by : (filter_map f l ≡ [] → Contains l x → f x ≡ None) → (o : Option B) → f z ≡ o →
        cons_option o (filter_map f l) ≡ [] → (z ≡ x) ⊎ Contains l x → f x ≡ None
    by again (Some y) is k h = absurd (let never : ⊥ = cc in never)
    by again None is k (inl same) = ap f (sym same) ∙ is
    by again None is k (inr later) = again k later

any_has : {A : Type 0} (q : A → Bool) (l : List A) (x : A) → Contains l x → q x ≡ true → list_any q l ≡ true
any_has q [] x c h = absurd (none_in x c)
any_has q (y ∷ l) x c h = by (λ k. any_has q l x k h) (q y) refl (cons_cases y l x c)
  where
    by : (Contains l x → list_any q l ≡ true) → (b : Bool) → q y ≡ b → (y ≡ x) ⊎ Contains l x →
        (b || list_any q l) ≡ true
    by again true e k = refl
    by again false e (inl same) = absurd (false≢true (sym e ∙ ap q same ∙ h))
    by again false e (inr later) = again later

any_at : {A : Type 0} (q : A → Bool) (l : List A) (n : ℕ) (x : A) → slice_get l n ≡ Some x → q x ≡ true →
    list_any q l ≡ true
any_at q [] n x e h = absurd (none-some x e)
any_at q (y ∷ l) zero x e h = by (q y) (ap q (some_same e) ∙ h)
  where
    some_same : {A : Type 0} {a b : A} → Some a ≡ Some b → a ≡ b
    some_same z = cc

    by : (b : Bool) → b ≡ true → (b || list_any q l) ≡ true
    by true k = refl
    by false k = absurd (false≢true k)
any_at q (y ∷ l) (suc n) x e h = by (any_at q l n x e h) (q y)
  where
    by : list_any q l ≡ true → (b : Bool) → (b || list_any q l) ≡ true
    by later true = refl
    by later false = later

first_none : (l : List Broken) → first_of l ≡ None → l ≡ []
first_none [] e = refl
first_none (b ∷ l) e = absurd (let never : ⊥ = cc in never)

module _ (items : ItemTable) (params : List BodyParameter) where
  -- what a `Drop` body does with its `self`
  abbrev Keeps : rules.Facts → Type 0
  Keeps f = (f.is_stored ≡ false) × ((p : Passing) → Contains f.passed p → is_replaced items params p ≡ false)

  not_replaced : (p : Passing) → replacing items params p ≡ None → is_replaced items params p ≡ false
  not_replaced p e = by (is_replaced items params p) e
    where
      by : (b : Bool) → (if b then Some p.at else None) ≡ None → b ≡ false
      by false k = refl
      by true k = absurd (let never : ⊥ = cc in never)

  later_number : (body : BodyTree) (k : ℕ) (ps : List ParamTree) (f : rules.Facts) → Contains (facts_from body (suc k) ps) f →
      f.param.number ≡ 0 → ⊥
  later_number body k [] f c z = none_in f c
  later_number body k (param ∷ ps) f c z = by (λ h. later_number body (suc k) ps f h z)
      (cons_cases (facts_of body (suc k) param) (facts_from body (suc (suc k)) ps) f c)
    where
      by : (Contains (facts_from body (suc (suc k)) ps) f → ⊥) →
          (facts_of body (suc k) param ≡ f) ⊎ Contains (facts_from body (suc (suc k)) ps) f → ⊥
      by again (inl same) = let never : suc k ≡ 0 = ap (λ (x : rules.Facts). x.param.number) same ∙ z in
          let no : ⊥ = omega (arith, never) in no
      by again (inr later) = again later

  in_body : (body : BodyTree) (f : rules.Facts) (ps : List ParamTree) →
      (if is_drop_body items body.number then of_self items params body ps else []) ≡ [] →
      Contains (facts_from body 0 ps) f → f.param.number ≡ 0 → is_drop_body items f.param.body ≡ true → Keeps f
  in_body body f [] none c z d = absurd (none_in f c)
  in_body body f (param ∷ ps) none c z d = by (cons_cases (facts_of body 0 param) (facts_from body 1 ps) f c)
    where
      by : (facts_of body 0 param ≡ f) ⊎ Contains (facts_from body 1 ps) f → Keeps f
      by (inr later) = absurd (later_number body 0 ps f later z)
      by (inl same) =
          let drops : is_drop_body items body.number ≡ true =
          ap (λ (x : rules.Facts). is_drop_body items x.param.body) same ∙ d in
          let nothing = none_both (stores (number_of param.pattern) body)
          (filter_map (replacing items params) (passings (number_of param.pattern) body))
          (map_none (broken Rule.T15) _
          (sym (ap (λ b. if b then of_self items params body (param ∷ ps) else []) drops) ∙ none)) in
          subst Keeps same (
            ap is_some_pos nothing.0,
            (λ p at. not_replaced p (given_none (replacing items params) (passings (number_of param.pattern) body) p
                nothing.1 at)),
          )

  all_keep : (bodies : List BodyTree) (f : rules.Facts) →
      flat_map (λ body. overlaps body ++ replaced_self items params body) bodies ≡ [] → Contains (all_facts bodies) f →
      f.param.number ≡ 0 → is_drop_body items f.param.body ≡ true → Keeps f
  all_keep [] f none c z d = absurd (none_in f c)
  all_keep (body ∷ bodies) f none c z d =
      by (λ h k. all_keep bodies f h k z d)
      (Contains-append_cases (facts_from body 0 body.params) (all_facts bodies) f c)
    where
      split : ((overlaps body ++ replaced_self items params body) ≡ [])
          × (flat_map (λ body. overlaps body ++ replaced_self items params body) bodies ≡ [])
      split = none_both (overlaps body ++ replaced_self items params body)
          (flat_map (λ body. overlaps body ++ replaced_self items params body) bodies) none

      by : (flat_map (λ body. overlaps body ++ replaced_self items params body) bodies ≡ [] →
          Contains (all_facts bodies) f → Keeps f) →
          Contains (facts_from body 0 body.params) f ⊎ Contains (all_facts bodies) f → Keeps f
      by again (inl here) = in_body body f body.params
          (none_both (overlaps body) (replaced_self items params body) split.0).1 here z d
      by again (inr later) = again split.1 later

  never_replaced : (bodies : List BodyTree) →
      flat_map (λ body. overlaps body ++ replaced_self items params body) bodies ≡ [] →
      ((number body : ℕ) → Replaceable items (all_facts bodies) number body → is_among params number body ≡ true) →
      (number body : ℕ) → Replaceable items (all_facts bodies) number body → number ≡ 0 →
      is_drop_body items body ≡ true → ⊥
  never_replaced bodies none closed _ _ (by_store f c stored) z d =
      false≢true (sym (all_keep bodies f none c z d).0 ∙ stored)
  never_replaced bodies none closed _ _ (by_call f p body c at there r) z d =
      false≢true (sym ((all_keep bodies f none c z d).1 p at)
      ∙ any_has (is_among params p.number) (bodies_of items p.callee) body there (closed p.number body r))

-- `self` is protected
pub drops_protect : (p : ProgramTree) → IsSound p → DropsProtect p
drops_protect p sound f of e = both_true is_self (by (is_among (replaceable p) 0 of.1) refl)
  where
    none : flat_map (λ body. overlaps body ++ replaced_self p.items (replaceable p) body) p.bodies ≡ []
    none = first_none (all_broken p) sound.borrows

    is_drop : is_drop_body p.items of.1 ≡ true
    is_drop =
        let d = has_drop p.items of (concrete_ty p.items f) e in
        any_at (λ (adt : Adt). option_map_or (λ b. b == of.1) adt.drop_body false) p.items.adts of.0 d.adt d.adt_is
        (ap (λ o. option_map_or (λ b. b == of.1) o false) d.body_is ∙ (Decides-eqb of.1 of.1).1 refl)

    -- it is a reference, by the head of the body
    is_self : is_reference_at p.items of.1 0 ≡ true
    is_self =
        let h = drop_heads_of p sound.typed f of e in
        ap (λ o. option_map_or (λ (sig : Sig). is_reference (option_and_then (type_at p.items) (slice_get sig.params 0))) o
        false) h.sig_is
        ∙ ap (λ (l : List TyId). is_reference (option_and_then (type_at p.items) (slice_get l 0))) h.params_are
        ∙ ap is_reference h.self_is

    by : (b : Bool) → is_among (replaceable p) 0 of.1 ≡ b → not (is_among (replaceable p) 0 of.1) ≡ true
    by false k = ap (λ b. not b) k
    by true k = absurd (never_replaced p.items (replaceable p) p.bodies none
        (λ number body r. (rounds_find_the_least p number body).1 r) 0 of.1 ((rounds_find_the_least p 0 of.1).0 k) refl
        is_drop)
