-- Methods of values, and closures that are called.
use Rattle.std.proofs.Common.{◌≡◌, ℕ, zero, suc, Bool, true, false, ◌&&◌, ◌||◌, ◌==◌, not, if◌then◌else◌, List, [], ◌∷◌, length, slice_get, Option, Some, None, Result, Ok, Err, IsTrue, Contains, ◌⊎◌, inl, inr, refl, ap, sym, subst, ◌∙◌, arith}
use Rattle.std.specs.Prelude.{option_and_then, is_some, is_none, drop, option_map}
use Rattle.std.specs.List.{list_any, position as position_of}
use Rattle.std.specs.Option.{option_map_or}
use Rattle.std.proofs.lemmas.Bool.{eqb-true, true≢false}
use Rattle.std.proofs.lemmas.Option.{none-some, same_Some}
use Rattle.mir_base.specs.declared.place_in_text.Pos.{Pos}
use Rattle.mir_base.specs.declared.rule.Rule.{Rule}
use Rattle.mir_ty.specs.declared.def.ClosureDef.{ClosureDef}
use Rattle.mir_ty.specs.declared.def.Sig.{Sig}
use Rattle.mir_ty.specs.declared.def.TraitDef.{TraitDef}
use Rattle.mir_ty.specs.declared.ty.Ty.{Ty}
use Rattle.mir_ty.specs.declared.ty.TyId.{TyId}
use Rattle.mir_ty.specs.Facts.{is_copy}
use Rattle.mir_ty.specs.ItemTable.{ItemTable, type_at}
use Rattle.typed_tree.specs.Tree as tree
use Rattle.typed_tree.specs.Tree.{Node, node, Form, Nodes}
use Rattle.well_typed.specs.Claim.{Claim, Holds, some, fact, both}
use Rattle.mir_ty.specs.DropBodies.{is_drop_body}
use Rattle.well_typed.specs.Nodes.{typed, row, arguments, first_and_rest, is_closure_body, is_leaf}
use Rattle.well_typed.specs.Places as well
use Rattle.well_typed.specs.Places.{Context, ty_of, form_of, is_place, is_borrow, Taken, Base, Passed}
use Rattle.well_typed.specs.Types.{closure_of, closure_in, fits, is_same, is_reference, reference_of, reference_in, is_dyn}
use Rattle.well_typed.proofs.ClaimLemmas.{and_true, true_right}
use Rattle.typing_rules.specs.Check.{Check, TypingState, Broken, and_then, breaks, ◌>>◌, pure}
use Rattle.typing_rules.specs.Places.{a_node_of, is_behind_shared, is_fixed, in_own_guard, place_in_text}
use Rattle.typing_rules.specs.Promises.{IsAlone, IsKnown, AreReady, AreClosures, Grows, Fact, Gives, TypingSpot, at_spot, Stands, Knows, IsValue, IsTemporary, IsBase, SoundBase, SoundTemporary}
use Rattle.typing_rules.specs.RowPromises.{IsArgument, AreGiven, SoundArgs, FindsMethods, IsMethodOf, of_adt, of_trait, IsPlainType}
use Rattle.typing_rules.specs.Rows.{Method, OfAdt, OfTrait, head_of, is_drop_method, method_form, received, received_by, taking, taken, is_unique_borrow, with_self, with_method, has_self, takes_self, method_call, with_closure, closure_call}
use Rattle.typing_rules.specs.Scope.{Env, method_of}
use Rattle.typing_rules.proofs.Sound.Arguments.{passed_value, used_ty, behind_later}
use Rattle.typing_rules.proofs.Sound.Calls.{arguments_hold}
use Rattle.typing_rules.proofs.Sound.Fitted.{IsPlain, fitted_gives, passed_ends, or_left, or_right, same_self, fits_self}
use Rattle.typing_rules.proofs.Sound.Gives.{◌⋆◌, bind, weaker, with_ready, given, obeyed, after_number, numbered, grows_trans, grows_refl, grows_number, knows_later, knows_number}
use Rattle.typing_rules.proofs.Sound.Later.{type_later, alone_later, known_later, same_known, alone_no_reference, some_got}
use Rattle.typing_rules.proofs.Sound.Named.{drop_later, no_closure}
use Rattle.typing_rules.proofs.Sound.Operators.{same_id, or_cases}
use Rattle.typing_rules.proofs.Sound.Parts.{IsFound, through_sound}
use Rattle.typing_rules.proofs.Sound.Places.{taken_value, truth_of, not_true}
use Rattle.typing_rules.proofs.Sound.References.{borrowed_if}
use Rattle.std.specs.Str.{bytes_eq}
use Rattle.src_ast.specs.Syntax.{Word}
use Rattle.typing_rules.specs.Named as looks

-- ---- receivers

not_place : (c : Context) (n : Node) → is_place (form_of n) ≡ false → Holds (typed c Base n) → Holds (typed c Taken n)
not_place c (node id at ty by form) is h = (so (is_place form) is h.0, h.1)
  where
    place_taken : Claim
    place_taken = both (fact (well.is_by (well.taking c.items ty) by)) (both (fact (well.may_take c (is_copy c.items
        ty) ty
        form)) (fact (not (is_reference c.items ty))))

    so : (b : Bool) → b ≡ false → IsTrue (is_none by && not (is_borrow form)) → Holds (if b then place_taken else fact
        (is_none by && not (is_borrow form)))
    so true e h = absurd (true≢false e)
    so false e h = h

-- a receiver by value, and by reference once it is known not to be behind `&`
abbrev pub IsReceiver : Env → TyId → TypingState → Node → Fact Node
IsReceiver env self s base w n = IsTrue (not (is_unique_borrow (form_of n) && is_behind_shared s.items base)) →
    IsArgument env
    self w n

abbrev SelfCase : TyId → TyId → Option (Bool × TyId) → Type 0
SelfCase self own o = ((o ≡ None) × IsTrue (is_same self own)) ⊎ ((unique : Bool) × (o ≡ Some (unique, own)))

self_cases : (items : ItemTable) (self own : TyId) → IsTrue (not (is_reference items own)) → (o : Option (Bool ×
    TyId)) →
    reference_of items self ≡ o → IsTrue (is_same self own || option_map_or (λ (r : Bool × TyId). is_same r.1 own) o
    false) →
    SelfCase self own o
self_cases items self own plain None e h = by (or_cases (is_same self own) false h)
  where
    by : IsTrue (is_same self own) ⊎ IsTrue false → SelfCase self own None
    by (inl same) = inl (refl, same)
    by (inr no_) = absurd (cc)
self_cases items self own plain (Some r) e h = by (or_cases (is_same self own) (is_same r.1 own) h)
  where
    by : IsTrue (is_same self own) ⊎ IsTrue (is_same r.1 own) → SelfCase self own (Some r)
    by (inl same) =
        absurd (true≢false (sym (ap is_some (ap (reference_of items) (sym (same_id self own same)) ∙ e)) ∙ not_true
        (is_reference items own) plain))
    by (inr same) = let e = same_id r.1 own same in inr (r.0, λ i. Some (r.0, e i))

fits_same : (items : ItemTable) (a b : TyId) → IsTrue (is_same a b) → IsTrue (fits items a b)
fits_same items a b h = or_left (is_same b a) _ (subst (λ x. IsTrue (is_same x a)) (same_id a b h) (same_self a.0))

received_sound : (env : Env) (at : Pos) (base : Node) (self : TyId) (s : TypingState) → ((w : TypingState) → Grows s w → IsBase
    env w
    base) → IsTrue (not (is_reference s.items (ty_of base))) → IsKnown s.items self → IsTrue (is_same self (ty_of
    base) ||
    option_map_or (λ (r : Bool × TyId). is_same r.1 (ty_of base)) (reference_of s.items self) false) → Gives s
    (IsReceiver
    env self s base) (received env at base self s)
received_sound env at base self s is plain known takes =
    by (reference_of s.items self) refl (self_cases s.items self (ty_of base) plain (reference_of s.items self) refl
    takes)
  where
    value : (w : TypingState) → Grows s w → (n : Node) → ((p : TypingSpot) → Stands env w p → Holds (typed (at_spot w.items
        env.answer
        p) Taken n)) → IsTrue (fits w.items self (ty_of n)) → reference_of s.items self ≡ None → IsArgument env self w n
    value w g n holds fit_ none =
        record {
          holds = λ p stands. passed_value (at_spot w.items env.answer p) self n (subst (λ b. IsTrue (not b)) (sym (ap
              is_some (same_known g.items reference_in self known ∙ none))) refl) (holds p stands) fit_;
        }

    by : (o : Option (Bool × TyId)) → reference_of s.items self ≡ o → SelfCase self (ty_of base) o → Gives s
        (IsReceiver env self s base) (received_by env at base o
        s)
    by None e (inr some_) = absurd (none-some _ some_.1)
    by (Some r) e (inl none) = absurd (none-some r (sym none.0))
    by None e (inl same) = either (is_place (form_of base)) refl
      where
        either : (b : Bool) → is_place (form_of base) ≡ b → Gives s (IsReceiver env self s base) ((if b then taken env
            None
            base else pure base) s)
        either true place =
            with_ready λ all.
            obeyed Rule.T07 (place_in_text base) (is_copy s.items (ty_of base) || not (is_fixed s.items (in_own_guard
            env.variables) base || is_dyn s.items (ty_of base))) _ λ moves.
            obeyed Rule.T08 (place_in_text base) (not (is_reference s.items (ty_of base))) _ λ no_reference.
            given _ λ ready w g h.
            let v = taken_value env s w base all g (record { base = is s (grows_refl s); is = place }) (is w g) moves
            no_reference in
            value w g _ v.holds (subst (λ t. IsTrue (fits w.items self t)) (sym (used_ty (taking s.items (ty_of base))
            base))
            (fits_same w.items self (ty_of base) same.1)) e
        either false place =
            given base λ ready w g h.
            value w g base (λ p stands. not_place (at_spot w.items env.answer p) base place ((is w g).holds p stands))
            (fits_same w.items self (ty_of base) same.1) e
    by (Some r) e (inr some_) =
        let same = same_Some r (some_.0, ty_of base) some_.1 in
        after_number (weaker (IsReceiver env self s base) (borrowed_if env s.next_node at self r.0 base (numbered s)
        (λ w g. is
        w (grows_trans (grows_number s) g)) plain (e ∙ λ i. Some (r.0, (same i).1)))
        λ n w ready g h may. h.1 (subst (λ b. IsTrue (not (b && is_behind_shared s.items base))) h.0 may))

-- ---- methods

-- the arguments behind a receiver
pub receiver_hold : (c : Context) (self : TyId) (params : List TyId) (receiver : Node) (args : Nodes) → Holds (typed c
    (Passed
    self) receiver) → Holds (arguments c params args) → Holds (first_and_rest (λ t. typed c (Passed t) receiver) (λ ts.
    arguments c ts args) (self ∷ params))
receiver_hold c self params receiver args first rest = (first, rest)

method_leaf : (m : Method) (receiver : Node) (args : Nodes) → IsTrue (is_leaf (method_form m receiver args))
method_leaf (OfAdt body is_drop head) receiver args = refl
method_leaf (OfTrait trait_no method head) receiver args = refl

method_place : (m : Method) (receiver : Node) (args : Nodes) → is_place (method_form m receiver args) ≡ false
method_place (OfAdt body is_drop head) receiver args = refl
method_place (OfTrait trait_no method head) receiver args = refl

method_plain : (env : Env) (w : TypingState) (ty : TyId) (m : Method) (receiver : Node) (args : Nodes) → IsPlain env w ty
    (method_form m receiver args)
method_plain env w ty (OfAdt body is_drop head) receiver args p = refl
method_plain env w ty (OfTrait trait_no method head) receiver args p = refl

method_alone : (s : TypingState) → AreReady s.items → (own : TyId) (m : Method) → IsMethodOf s own m → IsAlone s.items
    (head_of
    m).result
method_alone s all own _ (of_adt {body} {is_drop} {head} is drop_is) = all.results body head is
method_alone s all own _ (of_trait {trait_no} {method} {head} def at is) = all.methods trait_no method def head at is

method_known : (s : TypingState) → AreReady s.items → (own : TyId) (m : Method) → IsMethodOf s own m → (ty : TyId) → Contains
    (head_of m).params ty → IsKnown s.items ty
method_known s all own _ (of_adt {body} {is_drop} {head} is drop_is) ty has = all.params body head ty is has
method_known s all own _ (of_trait {trait_no} {method} {head} def at is) ty has =
    all.method_params trait_no method def head ty at is has

-- parameters that do not begin with a closure
abbrev IsApart : TypingState → List TyId → Type 0
IsApart s params = (self : TyId) (rest : List TyId) (k : ℕ) → params ≡ self ∷ rest → type_at s.items self ≡ Some
    (Ty.Closure k)
    → ⊥

head_same : (self other : TyId) (params rest : List TyId) → self ∷ params ≡ other ∷ rest → self ≡ other
head_same self other params rest e = ap (first_or self) e
  where
    first_or : TyId → List TyId → TyId
    first_or d [] = d
    first_or d (x ∷ xs) = x

-- a receiver is of the type, or a reference to it, so it is no closure
apart_by : (s : TypingState) (own self : TyId) (params all : List TyId) → all ≡ self ∷ params → IsPlainType s.items own →
    IsTrue
    (takes_self s.items own (self ∷ params)) → IsApart s all
apart_by s own self params all e kind takes other rest k is closure =
    by (or_cases (is_same self own) (option_map_or (λ (r : Bool × TyId). is_same r.1 own) (reference_of s.items self)
    false)
    takes)
  where
    same : self ≡ other
    same = head_same self other params rest (sym e ∙ is)

    at_self : type_at s.items self ≡ Some (Ty.Closure k)
    at_self = ap (type_at s.items) same ∙ closure

    by : IsTrue (is_same self own) ⊎ IsTrue (option_map_or (λ (r : Bool × TyId). is_same r.1 own) (reference_of
        s.items self)
        false) → ⊥
    by (inl own_) =
        none-some k (sym kind.3 ∙ ap closure_in (same_Some kind.0 (Ty.Closure k) (sym kind.1 ∙ (ap (type_at s.items)
        (sym
        (same_id self own own_)) ∙ at_self))))
    by (inr refers) =
        let h : IsTrue false = subst (λ o. IsTrue (option_map_or (λ (r : Bool × TyId). is_same r.1 own) (option_and_then
        reference_in o) false)) at_self refers in cc

method_row : (s w : TypingState) (c : Context) → AreReady s.items → AreClosures w.items → c.items ≡ w.items → Grows s w → (own : TyId) (m :
    Method) → IsMethodOf s
    own m → IsApart s (head_of m).params →
    IsTrue (not (is_drop_method m)) → (id : ℕ) (receiver : Node) (args : Nodes) → Holds (first_and_rest (λ t. typed c
    (Passed t) receiver) (λ ts. arguments c ts args) (head_of m).params) → Holds (row c id (head_of m).result
    (method_form m
    receiver args))
method_row s w c all heads same g own _ (of_adt {body} {is_drop} {head} is drop_is) apart no_drop id receiver args h =
    subst (λ o. Holds (some o (λ (sig : Sig). both (fact (is_same head.result sig.result)) (first_and_rest (λ t. typed c
    (Passed t) receiver) (λ ts. arguments c ts args) sig.params)))) (sym (ap (λ (items : ItemTable). slice_get
    items.bodies
    body) same ∙ (ap (λ bodies. slice_get bodies body) g.items.bodies ∙ is))) (same_self head.result.0 ⋆ h) ⋆
    subst (λ (items : ItemTable). IsTrue (not (is_drop_body items body) && not (is_closure_body items body))) (sym same)
    (and_true (not (is_drop_body w.items body)) _ (subst (λ b. IsTrue (not b)) (drop_is ∙ sym (drop_later g.items body))
    no_drop) (no_closure all g heads body head (is, apart)))
method_row s w c all heads same g own _ (of_trait {trait_no} {method} {head} def at is) apart no_drop id receiver args h =
    subst (λ o. Holds (some o (λ (d : TraitDef). some (slice_get d.methods method) (λ (sig : Sig). both (fact (is_same
    head.result sig.result)) (first_and_rest (λ t. typed c (Passed t) receiver) (λ ts. arguments c ts args)
    sig.params)))))
    (sym (ap (λ (items : ItemTable). slice_get items.traits trait_no) same ∙ (ap (λ traits. slice_get traits trait_no)
    g.items.traits ∙ at)))
    (subst (λ o. Holds (some o (λ (sig : Sig). both (fact (is_same head.result sig.result)) (first_and_rest (λ t.
    typed c
    (Passed t) receiver) (λ ts. arguments c ts args) sig.params)))) (sym is) (same_self head.result.0 ⋆ h))

with_self_sound : (env : Env) (at : Pos) (id : ℕ) (base : Node) (m : Method) (count : ℕ) (args : List TyId → Check
    Nodes)
    (expected : Option TyId) (params : List TyId) (s : TypingState) → Knows env s → ((w : TypingState) → Grows s w → IsBase env w
    base) →
    IsTrue (not (is_reference s.items (ty_of base))) → IsPlainType s.items (ty_of base) → IsMethodOf s (ty_of base) m
    → (head_of m).params ≡ params →
    IsTrue
    (takes_self s.items (ty_of base) params) → SoundArgs env count args → Gives s (IsTemporary env expected) (with_self
    env at
    id base m count args expected params s)
with_self_sound env at id base m count args expected [] s k is plain kind method e takes good = absurd (let no_ : IsTrue
    false =
    takes in cc)
with_self_sound env at id base m count args expected (self ∷ params) s k is plain kind method e takes good =
    with_ready λ all.
    bind (received_sound env (place_in_text base) base self s is plain (method_known s all (ty_of base) m method self (subst (λ tys.
    Contains
    tys self) (sym e) (0, omega arith, refl))) takes) λ receiver t g d.
    bind (good params t (knows_later env g k) (λ ty has. known_later g.items ty (method_known s all (ty_of base) m
    method ty
    (subst (λ tys. Contains tys ty) (sym e) (suc has.0, omega (arith, has.1), has.2))))) λ given_ u h f.
    bind (fitted_gives env expected (a_node_of id at (head_of m).result (method_form m receiver given_)) u (method_leaf m
    receiver given_)) λ n v i r.
    obeyed Rule.T04 at (count == length params) _ λ counted.
    obeyed Rule.T08 (place_in_text base) (not (is_unique_borrow (form_of receiver) && is_behind_shared u.items base)) _ λ shared.
    obeyed Rule.T13 at (not (is_drop_method m)) _ λ no_drop.
    let to_v = grows_trans g (grows_trans h i) in
    let shared_then = subst (λ b. IsTrue (not (is_unique_borrow (form_of receiver) && b))) (behind_later env s u base
    (is s
    (grows_refl s)) (grows_trans g h)) shared in
    passed_ends env expected v id at (head_of m).result (method_form m receiver given_) n (method_place m receiver given_)
    (λ w.
    method_plain env w (head_of m).result m receiver given_) r λ w ready l.
    let on = grows_trans to_v l in
    let args_ = f w (grows_trans i l) in (
      alone_later on.items (head_of m).result (method_alone s all (ty_of base) m method),
      λ p stands.
          method_row s w (at_spot w.items env.answer p) all stands.closures refl on (ty_of base) m method (apart_by s (ty_of base)
          self params (head_of m).params e kind takes) no_drop id receiver given_
          (subst (λ tys. Holds (first_and_rest (λ t. typed (at_spot w.items env.answer p) (Passed t) receiver) (λ ts.
          arguments
          (at_spot w.items env.answer p) ts given_) tys)) (sym e) (
            (d w (grows_trans (grows_trans h i) l) shared_then).holds p stands,
            arguments_hold env w p stands params given_ args_.are
                (args_.counted ∙ eqb-true count (length params) counted),
          )),
    )

method_later : {t u : TypingState} → Grows t u → (own : TyId) (m : Method) → IsMethodOf t own m → IsMethodOf u own m
method_later g own _ (of_adt {body} {is_drop} {head} is drop_is) =
    of_adt (ap (λ bodies. slice_get bodies body) g.items.bodies ∙ is) (drop_is ∙ sym (drop_later g.items body))
method_later g own _ (of_trait {trait_no} {method} {head} def at is) =
    of_trait def (ap (λ traits. slice_get traits trait_no) g.items.traits ∙ at) is

pub method_sound : (env : Env) (at : Pos) (named : ItemTable → TyId → Option Method) (count : ℕ) (receiver : Check
    Node) (args
    : List TyId → Check Nodes) → FindsMethods named → SoundBase env receiver → SoundArgs env count args →
    SoundTemporary env
    (method_call env at named count receiver args)
method_sound env at named count receiver args finds good_receiver good expected s k =
    after_number (bind (good_receiver (numbered s) (knows_number env k)) λ b t g d.
    bind (through_sound named (place_in_text b) env b t d) λ r u h e. by r u t (knows_later env (grows_trans g h) (knows_number env
    k)) h e)
  where
    R : Fact Node
    R = IsTemporary env expected

    broken : {A : Type 0} (c : Check A) (u : TypingState) → Gives u R (and_then (c u) (λ _. breaks Rule.T12 at))
    broken c u = by (c u)
      where
        by : {A : Type 0} (r : Result (A × TypingState) Broken) → Gives u R (and_then r (λ _. breaks Rule.T12 at))
        by (Ok a) = record { so = λ ready. tt }
        by (Err x) = record { so = λ ready. tt }

    by : (r : Node × Option Method) (u t : TypingState) → Knows env u → Grows t u → ((w : TypingState) → Grows u w → IsFound named
        t.items
        env w r) → Gives u R (with_method env at s.next_node r.0 r.1 count args expected u)
    by (base, None) u t k h e = broken (args []) u
    by (base, Some m) u t k h e =
        let of = finds t (ty_of base) m ((e u (grows_refl u)).1 m refl) in
        let plain = ap is_some (ap (option_and_then reference_in) (type_later h.items (ty_of base) of.1.0 of.1.1) ∙
        of.1.2) in
        if_takes (has_self env m && takes_self u.items (ty_of base) (head_of m).params) refl
        (λ takes. with_self_sound env at s.next_node base m count args expected (head_of m).params u k (λ w g. (e w g).0)
        (truth_of
        _ plain) (of.1.0, type_later h.items (ty_of base) of.1.0 of.1.1, of.1.2, of.1.3) (method_later h (ty_of base)
        m of.0) refl
        (true_right (has_self env m) (takes_self u.items (ty_of base) (head_of m).params) takes) good)
      where
        if_takes : (b : Bool) → (has_self env m && takes_self u.items (ty_of base) (head_of m).params) ≡ b → (IsTrue b → Gives u R
            (with_self env
            at s.next_node base m count args expected (head_of m).params u)) → Gives u R ((if b then with_self env at
            s.next_node
            base m count args expected (head_of m).params else (args [] >> breaks Rule.T12 at)) u)
        if_takes true is on = on refl
        if_takes false is on = broken (args []) u

-- ---- closures

any_by : {A : Type 0} (p : A → Bool) (xs : List A) (k : ℕ) (x : A) → slice_get xs k ≡ Some x → IsTrue (p x) → IsTrue
    (list_any p xs)
any_by p [] k x is h = absurd (none-some x is)
any_by p (y ∷ ys) zero x is h = or_left (p y) _ (subst (λ z. IsTrue (p z)) (sym (same_Some y x is)) h)
any_by p (y ∷ ys) (suc k) x is h = or_right (p y) _ (any_by p ys k x is h)

closure_type : (items : ItemTable) (id : TyId) (k : ℕ) → closure_of items id ≡ Some k → type_at items id ≡ Some
    (Ty.Closure k)
closure_type items id k h = let known = some_got closure_in (type_at items id) k h in known.1 ∙ by known.0 known.2
  where
    by : (ty : Ty) → closure_in ty ≡ Some k → Some ty ≡ Some (Ty.Closure k)
    by (Ty.Closure n) h = ap (λ m. Some (Ty.Closure m)) (same_Some n k h)
    by _ h = absurd (none-some k h)

called_sound : (env : Env) (at : Pos) (id : ℕ) (c : Node) (count : ℕ) (args : List TyId → Check Nodes) (expected : Option
    TyId)
    (k : ℕ) (def : ClosureDef) (head : Sig) (t : TypingState) → Knows env t → ((w : TypingState) → Grows t w → IsValue env None w
    c) →
    AreReady t.items → type_at t.items (ty_of c) ≡ Some (Ty.Closure k) → slice_get t.items.closures k ≡ Some def →
    slice_get
    t.items.bodies def.body ≡ Some head → SoundArgs env count args → Gives t (IsTemporary env expected) (with_closure at
    id c
    count args expected def.body (Some head) t)
called_sound env at id c count args expected k def head t knows is all of at_k body good =
    bind (good (drop 1 head.params) t knows (λ ty has. all.params def.body head ty body (behind head.params ty has))) λ
    ns u g d.
    bind (fitted_gives env expected (a_node_of id at head.result (tree.ClosureCall def.body c ns)) u refl) λ n v h e.
    obeyed Rule.T04 at (count == length (drop 1 head.params)) _ λ counted.
    passed_ends env expected v id at head.result (tree.ClosureCall def.body c ns) n refl (λ w p. refl) e λ w ready l.
    let on = grows_trans g (grows_trans h l) in
    let args_ = d w (grows_trans h l) in
    let value = is w on in (
      alone_later on.items head.result (all.results def.body head body),
      λ p stands.
          let at_w = on.items.closures k def at_k in
          let body_w : slice_get w.items.bodies def.body ≡ Some head = ap (λ bodies. slice_get bodies def.body)
          on.items.bodies ∙ body in
          let begins = stands.closures k def head at_w body_w in
          let number = ready.distinct (ty_of c).0 begins.0.0 (Ty.Closure k) (type_later on.items (ty_of c) (Ty.Closure
          k) of) begins.3 in
          let same : ty_of c ≡ begins.0 = λ i. record { 0 = number i } in
          subst (λ o. Holds (some o (λ (sig : Sig). both (fact (is_same head.result sig.result)) (first_and_rest (λ x.
          typed (at_spot w.items env.answer p) (Passed x) c) (λ ts. arguments (at_spot w.items env.answer p) ts ns)
          sig.params)))) (sym body_w) (same_self head.result.0 ⋆ subst (λ tys. Holds (first_and_rest (λ x. typed
          (at_spot w.items env.answer p) (Passed x) c) (λ ts. arguments (at_spot w.items env.answer p) ts ns) tys)) (sym
          begins.2) (
            passed_value (at_spot w.items env.answer p) begins.0 c (alone_no_reference w.items begins.0 (subst (IsAlone
                w.items) same value.alone)) (value.holds p stands) (subst (λ x. IsTrue (fits w.items x (ty_of c)))
                same (fits_self w.items
                (ty_of c))),
            arguments_hold env w p stands begins.1 ns (subst (λ tys. AreGiven env tys w ns) (ap (drop 1) begins.2)
                args_.are) (args_.counted ∙ (eqb-true count (length (drop 1 head.params)) counted ∙ ap (λ tys. length
                (drop 1 tys))
                begins.2)),
          )) ⋆
          any_by (λ (x : ClosureDef). x.body == def.body) w.items.closures k def at_w (same_self def.body),
    )
  where
    behind : (tys : List TyId) (ty : TyId) → Contains (drop 1 tys) ty → Contains tys ty
    behind [] ty has = absurd (omega (arith, has.1))
    behind (self ∷ rest) ty has = (suc has.0, omega (arith, has.1), has.2)

pub closure_call_sound : (env : Env) (at : Pos) (count : ℕ) (callee : Check Node) (args : List TyId → Check Nodes) →
    ((s :
    TypingState) → Knows env s → Gives s (IsValue env None) (callee s)) → SoundArgs env count args → SoundTemporary env
    (closure_call at count callee args)
closure_call_sound env at count callee args good_c good expected s k =
    after_number (bind (good_c (numbered s) (knows_number env k)) λ c t g d.
    with_ready λ all. by c t (knows_later env g (knows_number env k)) d all (closure_of t.items (ty_of c)) refl)
  where
    R : Fact Node
    R = IsTemporary env expected

    broken : {A : Type 0} (c : Check A) (u : TypingState) → Gives u R (and_then (c u) (λ _. breaks Rule.T13 at))
    broken c u = by (c u)
      where
        by : {A : Type 0} (r : Result (A × TypingState) Broken) → Gives u R (and_then r (λ _. breaks Rule.T13 at))
        by (Ok a) = record { so = λ ready. tt }
        by (Err x) = record { so = λ ready. tt }

    called : Node → TypingState → Option ℕ → Result (Node × TypingState) Broken
    called c t o =
        with_closure at s.next_node c count args expected (option_map_or (λ (d : ClosureDef). d.body) (option_and_then
        (slice_get
        t.items.closures) o) 0) (option_and_then (λ (d : ClosureDef). slice_get t.items.bodies d.body) (option_and_then
        (slice_get t.items.closures) o)) t

    with_head : (c : Node) (t : TypingState) → Knows env t → ((w : TypingState) → Grows t w → IsValue env None w c) → AreReady
        t.items →
        (n : ℕ) → closure_of t.items (ty_of c) ≡ Some n → (def : ClosureDef) → slice_get t.items.closures n ≡ Some def
        → (o :
        Option Sig) → slice_get t.items.bodies def.body ≡ o → Gives t R (with_closure at s.next_node c count args expected
        def.body o t)
    with_head c t knows d all n e def at_n None is = broken (args []) t
    with_head c t knows d all n e def at_n (Some head) is =
        called_sound env at s.next_node c count args expected n def head t knows d all (closure_type t.items (ty_of c) n
        e) at_n is
        good

    with_def : (c : Node) (t : TypingState) → Knows env t → ((w : TypingState) → Grows t w → IsValue env None w c) → AreReady
        t.items → (n
        : ℕ) → closure_of t.items (ty_of c) ≡ Some n → (o : Option ClosureDef) → slice_get t.items.closures n ≡ o →
        Gives t R
        (with_closure at s.next_node c count args expected (option_map_or (λ (d : ClosureDef). d.body) o 0)
        (option_and_then (λ (d
        : ClosureDef). slice_get t.items.bodies d.body) o) t)
    with_def c t knows d all n e None is = broken (args []) t
    with_def c t knows d all n e (Some def) is = with_head c t knows d all n e def is (slice_get t.items.bodies
        def.body) refl

    by : (c : Node) (t : TypingState) → Knows env t → ((w : TypingState) → Grows t w → IsValue env None w c) → AreReady t.items →
        (o :
        Option ℕ) → closure_of t.items (ty_of c) ≡ o → Gives t R (called c t o)
    by c t knows d all None e = broken (args []) t
    by c t knows d all (Some n) e = with_def c t knows d all n e (slice_get t.items.closures n) refl

-- ---- what the look-up of methods finds

plain_adt : (items : ItemTable) (own : TyId) (n : ℕ) → type_at items own ≡ Some (Ty.Adt n) → IsPlainType items own
plain_adt items own n at = (Ty.Adt n, at, refl, refl)

plain_dyn : (items : ItemTable) (own : TyId) (n : ℕ) → type_at items own ≡ Some (Ty.Dyn n) → IsPlainType items own
plain_dyn items own n at = (Ty.Dyn n, at, refl, refl)

head_found : (s : TypingState) (own : TyId) (body : ℕ) (m : Method) (o : Option Sig) → slice_get s.items.bodies body ≡ o →
    looks.with_head s.items body o ≡ Some m → IsMethodOf s own m
head_found s own body m None is h = absurd (none-some m h)
head_found s own body m (Some head) is h =
    subst (IsMethodOf s own) (same_Some (OfAdt body (is_drop_body s.items body) head) m h) (of_adt is refl)

trait_found : (s : TypingState) (own : TyId) (n : ℕ) (name : Word) (m : Method) (o : Option TraitDef) → slice_get
    s.items.traits n ≡ o
    → looks.trait_method n name o ≡ Some m → IsMethodOf s own m
trait_found s own n name m None is h = absurd (none-some m h)
trait_found s own n name m (Some def) is h =
    let k = some_got (λ k. option_map (OfTrait n k) (slice_get def.methods k)) (position_of (λ (x : Sig). bytes_eq
    x.name name)
    def.methods) m h in
    by k.0 (slice_get def.methods k.0) refl k.2
  where
    by : (k : ℕ) (o : Option Sig) → slice_get def.methods k ≡ o → option_map (OfTrait n k) o ≡ Some m → IsMethodOf s
        own m
    by k None at h = absurd (none-some m h)
    by k (Some head) at h = subst (IsMethodOf s own) (same_Some (OfTrait n k head) m h) (of_trait def is at)

pub methods_found : (name : Word) → FindsMethods (looks.method_named name)
methods_found name s own m h = by (type_at s.items own) refl h
  where
    by : (o : Option Ty) → type_at s.items own ≡ o → looks.method_in s.items name o ≡ Some m → IsMethodOf s own m ×
        IsPlainType
        s.items own
    by (Some (Ty.Adt n)) at h =
        let b = some_got (λ body. looks.with_head s.items body (slice_get s.items.bodies body)) (method_of s.items n
        name) m h in
        (head_found s own b.0 m (slice_get s.items.bodies b.0) refl b.2, plain_adt s.items own n at)
    by (Some (Ty.Dyn n)) at h =
        (trait_found s own n name m (slice_get s.items.traits n) refl h, plain_dyn s.items own n at)
    by _ at h = absurd (none-some m h)
