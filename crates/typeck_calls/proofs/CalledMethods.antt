-- Receivers of methods, and what is called on them.
use Rattle.std.proofs.Common.{◌≡◌, ℕ, ◌==◌, Bool, true, false, ◌&&◌, ◌||◌, not, if◌then◌else◌, List, [], ◌∷◌, drop, length, Option, Some, None, IsSome, Result, Ok, Err, refl, ap, sym, subst, ◌∙◌}
use Rattle.std.specs.Option.{option_map_or}
use Rattle.mir_base.specs.declared.place_in_text.Pos.{Pos}
use Rattle.mir_base.specs.declared.rule.Rule.{Rule}
use Rattle.mir_base.specs.declared.rule.RuleError.{RuleError}
use Rattle.mir_ty.specs.ItemTable.{ItemTable}
use Rattle.mir_ty.specs.declared.ty.TyId.{TyId}
use Rattle.typeck_checker.specs.Lists.{behind_form}
use Rattle.typeck_heads.specs.Answers.{Refuses}
use Rattle.typeck_checker.specs.declared.checker.Checker.{Checker}
use Rattle.typed_tree.specs.Tree.{Form, Node, Nodes}
use Rattle.typing_rules.specs.Check.{Broken, Check, TypingState, and_then, ◌>>=◌, ◌>>◌, pure, breaks, obeys, the_items}
use Rattle.typing_rules.specs.Places.{Member, a_node_of, is_behind_shared, place_in_text, through}
use Rattle.typing_rules.specs.Rows.{counted_call_end, fitted, head_of, is_drop_method, is_unique_borrow, has_self, Method, method_call_end, method_end, method_form, received, takes_self, with_method, with_self}
use Rattle.typing_rules.specs.Scope.{Env}
use Rattle.well_typed.specs.Places.{form_of, ty_of}
use Rattle.well_typed.specs.Types.{is_same, reference_of}
use Rattle.typeck_calls.specs.Calls.{Arguments, GivesCall}
use Rattle.typeck_calls.specs.Methods.{borrows_shared, ends_by, self_of}
use Rattle.typeck_calls.specs.declared.receivers.Called.{Called}

-- ---- the type of `self`

takes : ItemTable → TyId → TyId → Bool
takes items own self = is_same self own || option_map_or (λ r. is_same r.1 own) (reference_of items self) false

some_by : (b : Bool) (first self : TyId) → (if b then Some first else None) ≡ Some self → (b ≡ true) × (first ≡ self)
some_by true first self e = (refl, cc)
some_by false first self e = absurd (cc)

none_by : (b : Bool) (first : TyId) → (if b then Some first else None) ≡ None → b ≡ false
none_by true first e = absurd (cc)
none_by false first e = refl

pub self_some : (items : ItemTable) (own self : TyId) (params : List TyId) → self_of items own params ≡ Some self → (takes_self items own params ≡ true) × (params ≡ self ∷ drop 1 params)
self_some items own self [] e = absurd (cc)
self_some items own self (first ∷ params) e =
    let both = some_by _ first self e in (both.0, ap (λ ty. ty ∷ params) both.1)

pub self_none : (items : ItemTable) (own : TyId) (params : List TyId) → self_of items own params ≡ None → takes_self items own params ≡ false
self_none items own [] e = refl
self_none items own (first ∷ params) e = none_by _ first e

and_false : (b : Bool) → (b && false) ≡ false
and_false true = refl
and_false false = refl

-- ---- what is behind `&`

module _ (id : ℕ) (at : Pos) (answer : TyId) (form : Form) (is_count : Bool) (place : Pos) (is_refused may_be_called : Bool) (expected : Option TyId) (s : TypingState) where
  abbrev behind_count : Node → Check Node
  behind_count n = do
    obeys Rule.T08 place (not is_refused)
    obeys Rule.T13 at may_be_called
    pure n

  by_count : (o : Result (Node × TypingState) Broken) (b : Bool) →
      and_then (and_then o (λ n. obeys Rule.T04 at b >> pure n)) behind_count ≡ and_then o (λ n. obeys Rule.T04 at b >> behind_count n)
  by_count (Ok x) true = refl
  by_count (Ok x) false = refl
  by_count (Err e) b = refl

  -- the count of arguments comes first
  pub counted_first : method_call_end id at answer form is_count place is_refused may_be_called expected s ≡ and_then (counted_call_end id at answer form Rule.T04 is_count expected s) behind_count
  counted_first = sym (by_count (fitted expected (a_node_of id at answer form) s) is_count)

-- ---- what is called behind its receiver

module _ (env : Env) (at : Pos) (id : ℕ) (base : Node) (f : Method) (count : ℕ) (args : Arguments) (expected : Option TyId) (s : TypingState) where
  -- the call where its method has `self`
  chosen : Bool → Check Node
  chosen b = if b then with_self env at id base f count args expected (head_of f).params else (args [] >> breaks Rule.T12 at)

  by_self : (b : Bool) → (has_self env f && takes_self s.items (ty_of base) (head_of f).params) ≡ b → with_method env at id base (Some f) count args expected s ≡ chosen b s
  unfolding chosen
  by_self b e = ap (λ b. chosen b s) e

  -- what is no method of a value
  abbrev pub nothing : Check Node
  nothing = args [] >>= (λ given. ends_by id at None (count == 0) expected base given)

  pub without_self : has_self env f ≡ false → with_method env at id base (Some f) count args expected s ≡ nothing s
  unfolding chosen
  without_self e = by_self false (ap (λ b. b && takes_self s.items (ty_of base) (head_of f).params) e)

  pub of_no_type : self_of s.items (ty_of base) (head_of f).params ≡ None → with_method env at id base (Some f) count args expected s ≡ nothing s
  unfolding chosen
  of_no_type e = by_self false (ap (λ b. has_self env f && b) (self_none s.items (ty_of base) (head_of f).params e) ∙ and_false (has_self env f))

  module _ (has : has_self env f ≡ true) (self : TyId) (is : self_of s.items (ty_of base) (head_of f).params ≡ Some self) where
    begins : with_method env at id base (Some f) count args expected s ≡ with_self env at id base f count args expected (self ∷ drop 1 (head_of f).params) s
    unfolding chosen
    begins =
        let both = self_some s.items (ty_of base) self (head_of f).params is in
        by_self true (ap (λ b. b && takes_self s.items (ty_of base) (head_of f).params) has ∙ both.0) ∙ ap (λ ps. with_self env at id base f count args expected ps s) both.1

    -- the rest behind the receiver
    abbrev behind : Node → Check Node
    behind receiver = do
      given ← args (drop 1 (head_of f).params)
      items ← the_items
      method_call_end id at (head_of f).result (method_form f receiver given) (count == length (drop 1 (head_of f).params))
          (place_in_text base) (is_unique_borrow (form_of receiver) && is_behind_shared items base) (not (is_drop_method f)) expected

    pub refuses : (e : Broken) → received env (place_in_text base) base self s ≡ Err e → with_method env at id base (Some f) count args expected s ≡ Err e
    refuses e h = begins ∙ ap (λ r. and_then r behind) h

    pub given_behind : (called : Called) (params : List TyId) (r : Node) (t : TypingState) → received env (place_in_text base) base self s ≡ Ok (r, t) →
        ((items : ItemTable) → (called.is_unique && borrows_shared items r) ≡ (is_unique_borrow (form_of r) && is_behind_shared items base)) →
        params ≡ drop 1 (head_of f).params → called.answer ≡ (head_of f).result → called.is_drop ≡ is_drop_method f → called.place_at ≡ place_in_text base →
        ((given : Nodes) → behind_form called.behind r given ≡ method_form f r given) →
        with_method env at id base (Some f) count args expected s ≡ (args params >>= (λ given. ends_by id at (Some called) (count == length params) expected r given)) t
    given_behind called params r t got shared same answer is_drop placed form =
        begins
        ∙ ap (λ o. and_then o behind) got
        ∙ sym (λ i. (do
          given ← args (same i)
          items ← the_items
          method_call_end id at (answer i) (form given i) (count == length (same i)) (placed i) (shared items i) (not (is_drop i)) expected) t)

-- ---- what is found of a receiver

pub some_of : {A : Type 0} (o : Option A) → IsSome o → (x : A) × (o ≡ Some x)
some_of None h = absurd (cc)
some_of (Some x) h = (x, refl)

pub receiver_as : (env env_after : Env) (id : ℕ) (at : Pos) (named : Member Method) (expected : Option TyId) (base n : Node) (found : Option Method) (f : Method) (s t : TypingState) →
    through named (place_in_text base) base s ≡ Ok ((n, found), t) → found ≡ Some f → env_after ≡ env → (count : ℕ) (args : Arguments) →
    method_end env id at named expected base count args s ≡ with_method env_after at id n (Some f) count args expected t
receiver_as env env_after id at named expected base n found f s t e is same count args =
    ap (λ r. and_then r (λ x. with_method env at id x.0 x.1 count args expected)) e
    ∙ ap (λ (m : Option Method). with_method env at id n m count args expected t) is
    ∙ sym (ap (λ (v : Env). with_method v at id n (Some f) count args expected t) same)

-- a check that gives the same
pub gives_same : {B : Type 0} (check first : ℕ → Arguments → Check Node) (s t : TypingState) (params : B → List TyId) (rest : B → Node → ℕ → Nodes → Check Node) (r : Result B RuleError) (after : Checker) →
    ((count : ℕ) (args : Arguments) → check count args s ≡ first count args t) → GivesCall first t params rest r after → GivesCall check s params rest r after
gives_same check first s t params rest (Ok b) after same h = λ count args. same count args ∙ h count args
gives_same check first s t params rest (Err e) after same h = λ count args. subst (λ (o : Result (Node × TypingState) Broken). Refuses o e) (sym (same count args)) (h count args)
