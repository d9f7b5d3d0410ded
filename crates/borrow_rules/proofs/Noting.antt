-- A parameter is noted that is shown: what is found stays sound, and fewer are missing.
use Rattle.std.proofs.Common.{◌≡◌, ℕ, ◌+◌, ◌-◌, ◌<◌, ◌≤◌, Bool, true, false, not, ◌||◌, ◌&&◌, ◌==◌, List, ◌∷◌, length, get_or, map, MatchBool, IsTrue, Contains, ◌⊎◌, inl, inr, refl, ap, sym, subst, ◌∙◌, arith}
use Rattle.std.specs.List.{list_any}
use Rattle.std.specs.List.Sorted.{IsPermutation}
use Rattle.std.proofs.lemmas.Bool.{cases_lt, eqb-true, or_cases}
use Rattle.std.proofs.lemmas.Bool.Decides.{nat_tests}
use Rattle.std.proofs.lemmas.Grind.{common_steps}
use Rattle.std.proofs.lemmas.List.Folds.{Any-from_list_any}
use Rattle.mir_ty.specs.ItemTable.{ItemTable}
use Rattle.typing_rules.specs.Replaced.{BodyParameter, Facts, Replaceable, by_store, by_call, is_among, is_param, is_replaced, bodies_of}
use Rattle.borrow_rules.specs.Found.{AreSettled, IsMore, IsSettled, IsSound, Notes, Swept, index_of, is_missing, is_shown, missing}
use Rattle.std.proofs.lemmas.List.{length-map}
use Rattle.borrow_rules.specs.declared.facts.ParameterFact.{ParameterFact}
use Rattle.borrow_rules.specs.View.{fact_in, param_in, params_in}
use Rattle.borrow_rules.specs.declared.facts.ParamNo.{ParamNo}
use Rattle.mir_ty.proofs.Sets.{put}
use Rattle.borrow_rules.proofs.Sets.{any_map, fewer}

-- ---- one key more

abbrev same : ParamNo → ParamNo → Bool
same a b = a.body == b.body && a.number == b.number

like_key : (b n kb kn xb xn : ℕ) → (kb == b && kn == n) ≡ true → (kb == xb && kn == xn) ≡ true → (xb == b && xn == n) ≡ true
like_key b n kb kn xb xn x y = grind (arith, nat_tests)

pub with_key : (key : ParamNo) (old new : List ParamNo) (added : Bool) → MatchBool added (IsPermutation (key ∷ old) new) (new ≡ old) → added ≡ not (list_any (same key) old) → (number body : ℕ) → is_among (params_in new) number body ≡ (is_among (params_in old) number body || is_param body number (param_in key))
with_key key old new added h fresh number body =
    any_map (is_param body number) param_in new
    ∙ put same (λ (k : ParamNo). is_param body number (param_in k)) key old new added
    (λ x p q. like_key body number key.body key.number x.body x.number p q) h fresh
    ∙ ap (λ b. b || is_param body number (param_in key)) (sym (any_map (is_param body number) param_in old))

pub settled_by : (among shown : Bool) → (among || not shown) ≡ true → IsTrue shown → IsTrue among
settled_by true shown h s = refl
settled_by false true h s = absurd (cc)
settled_by false false h s = absurd (cc)

-- ---- soundness

module _ (items : ItemTable) (facts : List Facts) where
  shown_replaceable : (params : List BodyParameter) → IsSound items facts params → (f : Facts) → Contains facts f → IsTrue (is_shown items params f) → Replaceable items facts f.param.number f.param.body
  shown_replaceable params sound f has shown = by (or_cases f.is_stored (list_any (is_replaced items params) f.passed) shown)
    where
      by : (f.is_stored ≡ true) ⊎ (list_any (is_replaced items params) f.passed ≡ true) → Replaceable items facts f.param.number f.param.body
      by (inl stored) = by_store f has stored
      by (inr passed) =
          let p = Any-from_list_any (is_replaced items params) f.passed passed in
          let b = Any-from_list_any (is_among params p.1.number) (bodies_of items p.1.callee) p.4 in
          by_call f p.1 b.1 has (p.0, p.2, p.3) (b.0, b.2, b.3) (sound p.1.number b.1 b.4)

  and_first : (a b : Bool) → (a && b) ≡ true → a ≡ true
  and_first true b h = refl
  and_first false b h = h

  and_second : (a b : Bool) → (a && b) ≡ true → b ≡ true
  and_second true b h = h
  and_second false b h = absurd (cc)

  still_sound : (f : Facts) (old new : List BodyParameter) → Contains facts f → IsSound items facts old → Notes items f old new true → IsSound items facts new
  still_sound f old new has sound noted number body h =
      by (or_cases (is_among old number body) (is_param body number f.param) (sym (noted.2 number body) ∙ h))
    where
      by : (is_among old number body ≡ true) ⊎ (is_param body number f.param ≡ true) → Replaceable items facts number body
      by (inl before) = sound number body before
      by (inr here) =
          subst (λ k. Replaceable items facts k body) (eqb-true f.param.number number (and_second (f.param.body == body) (f.param.number == number) here))
          (subst (λ b. Replaceable items facts f.param.number b) (eqb-true f.param.body body (and_first (f.param.body == body) (f.param.number == number) here))
          (shown_replaceable old sound f has noted.0))

  -- ---- fewer are missing

  param_self : (q : BodyParameter) → is_param q.body q.number q ≡ true
  param_self q = grind (arith, common_steps)

  not_either : (a b : Bool) → not (a || b) ≡ true → not a ≡ true
  not_either true b h = h
  not_either false b h = refl

  pub fewer_missing : (f : Facts) (old new : List BodyParameter) → Contains facts f → Notes items f old new true → missing facts new < missing facts old
  fewer_missing f old new has noted =
      fewer (is_missing new) (is_missing old)
      (λ g h. not_either (is_among old g.param.number g.param.body) (is_param g.param.body g.param.number f.param)
      (sym (ap not (noted.2 g.param.number g.param.body)) ∙ h)) facts has.0 f has.1
      (ap (is_missing new) has.2 ∙ ap not (noted.2 f.param.number f.param.body)
      ∙ ap (λ b. not (is_among old f.param.number f.param.body || b)) (param_self f.param) ∙ or_true (is_among old f.param.number f.param.body))
      (ap (is_missing old) has.2 ∙ ap not noted.1)
    where
      or_true : (a : Bool) → not (a || true) ≡ false
      or_true true = refl
      or_true false = refl

  -- ---- a sweep

  pub begins : (start : List BodyParameter) (is_back : Bool) → IsSound items facts start → Swept items facts start is_back 0 false start
  begins start is_back sound =
      record { sound = sound; grown = refl; steady = λ quiet k less f at. absurd (omega (arith, less)) }

  more : (grew : Bool) (now before start : ℕ) → IsMore grew before start → now < before → IsMore true now start
  more true now before start h l = omega (arith, h, l)
  more false now before start h l = omega (arith, h, l)

  pub finds : (start : List BodyParameter) (is_back : Bool) (turn : ℕ) (grew : Bool) (now new : List BodyParameter) (f : Facts) → Contains facts f → Swept items facts start is_back turn grew now → Notes items f now new true → Swept items facts start is_back (turn + 1) true new
  finds start is_back turn grew now new f has swept noted =
      record {
        sound = still_sound f now new has swept.sound noted;
        grown = more grew (missing facts new) (missing facts now) (missing facts start) swept.grown (fewer_missing f now new has noted);
        steady = λ quiet. absurd (cc);
      }

  same_fact : (n : ℕ) (f g : Facts) → n < length facts → get_or facts n f ≡ f → get_or facts n g ≡ g → f ≡ g
  same_fact n f g within a b = grind (arith, common_steps)

  pub finds_nothing : (start : List BodyParameter) (is_back : Bool) (turn : ℕ) (grew : Bool) (now new : List BodyParameter) (f : Facts) → index_of turn (length facts) is_back < length facts → get_or facts (index_of turn (length facts) is_back) f ≡ f → Swept items facts start is_back turn grew now → Notes items f now new false → Swept items facts start is_back (turn + 1) grew new
  finds_nothing start is_back turn grew now new f within at swept noted =
      subst (λ params. Swept items facts start is_back (turn + 1) grew params) (sym noted.0)
      (record {
        sound = swept.sound;
        grown = swept.grown;
        steady = λ quiet k less g here. by quiet k g here (split k less);
      })
    where
      split : (k : ℕ) → k < turn + 1 → (k < turn) ⊎ (k ≡ turn)
      split k less = by_lt (cases_lt k turn)
        where
          by_lt : (k < turn) ⊎ (turn ≤ k) → (k < turn) ⊎ (k ≡ turn)
          by_lt (inl l) = inl l
          by_lt (inr g) = inr (omega (arith, less, g))

      by : grew ≡ false → (k : ℕ) (g : Facts) → get_or facts (index_of k (length facts) is_back) g ≡ g → (k < turn) ⊎ (k ≡ turn) → IsSettled items now g
      by quiet k g here (inl before) = swept.steady quiet k before g here
      by quiet k g here (inr is) =
          subst (IsSettled items now) (same_fact (index_of turn (length facts) is_back) f g within at (ap (λ n. get_or facts (index_of n (length facts) is_back) g) (sym is) ∙ here)) noted.1

  pub ends : (start : List BodyParameter) (is_back : Bool) (now : List BodyParameter) → Swept items facts start is_back (length facts) false now → AreSettled false items facts now
  ends start true now swept f has =
      swept.steady refl (length facts - 1 - has.0) (let l : length facts - 1 - has.0 < length facts = omega (arith, has.1) in l) f
      (ap (λ n. get_or facts n f) (let e : length facts - 1 - (length facts - 1 - has.0) ≡ has.0 = omega (arith, has.1) in e) ∙ has.2)
  ends start false now swept f has = swept.steady refl has.0 has.1 f has.2

-- a fact among those that are seen so
pub fact_at : (facts : List ParameterFact) (n : ℕ) (f : ParameterFact) → n < length facts → f ≡ get_or facts n f → (n < length (map fact_in facts)) × (get_or (map fact_in facts) n (fact_in f) ≡ fact_in f)
fact_at facts n f within is = (
  subst (λ k. n < k) (sym (length-map facts fact_in)) within,
  grind (arith, common_steps),
)

pub index_within : (turn count : ℕ) (is_back : Bool) → turn < count → index_of turn count is_back < count
index_within turn count true less = omega (arith, less)
index_within turn count false less = less
