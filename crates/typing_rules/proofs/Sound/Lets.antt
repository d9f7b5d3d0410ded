-- `let`.
use Rattle.std.proofs.Common.{◌≡◌, ℕ, Bool, true, false, ◌&&◌, ◌||◌, not, if◌then◌else◌, List, Option, Some, None, IsTrue, refl, ap, sym, subst, arith, Result, Ok, Err, ◌∙◌}
use Rattle.std.specs.Prelude.{is_none, is_some}
use Rattle.std.proofs.lemmas.Option.{none-some, same_Some}
use Rattle.mir_base.specs.declared.place_in_text.Pos.{Pos}
use Rattle.mir_base.specs.declared.rule.Rule.{Rule}
use Rattle.mir_ty.specs.declared.ty.TyId.{TyId}
use Rattle.mir_ty.specs.ItemTable.{ItemTable, type_at}
use Rattle.typed_tree.specs.Tree as tree
use Rattle.typed_tree.specs.Tree.{Node, node, Nodes, MaybeNode, absent, present}
use Rattle.well_typed.specs.Claim.{Holds}
use Rattle.well_typed.specs.Nodes as well
use Rattle.well_typed.specs.Nodes.{typed, statements, statement, is_one_name, ends_in}
use Rattle.well_typed.specs.Names.{are_distinct}
use Rattle.well_typed.specs.Patterns.{Matched, pattern, names_of}
use Rattle.well_typed.specs.Places.{Context, ty_of, with_entries, Base, Wanted, form_of, is_place}
use Rattle.well_typed.specs.Types.{is_same, fits, is_never, is_never_ty, is_unit, is_dyn, is_reference}
use Rattle.well_typed.proofs.ClaimLemmas.{and_true, true_left}
use Rattle.typing_rules.specs.Check.{Check, TypingState, Broken, and_then, obeys, pure, ◌>>=◌}
use Rattle.typing_rules.specs.Places.{unit, agrees, Fit, Fits, Coerced, Differs, fit, used, is_fixed, in_own_guard, place_in_text}
use Rattle.typing_rules.specs.Promises.{Gives, Knows, IsReady, IsAlone, Grows, TypingSpot, at_spot, Stands, are_bound, IsPattern, Then, IsValue}
use Rattle.typing_rules.specs.RowPromises.{IsStatement, IsInitialiser, SoundInitialiser, SoundDeclared, SoundPattern, IsPlace, IsInParts}
use Rattle.typing_rules.specs.Rows as rules
use Rattle.typing_rules.specs.Rows.{Matcher, PatternContext, pattern_context, let_row, let_ty, matched_ty, of_value, ends_by, fitted_by, taking, taken, as_part, place_for_parts}
use Rattle.typing_rules.specs.Scope.{Env, NamedEntry, with_variables}
use Rattle.typing_rules.proofs.Sound.Branches.{unit_is}
use Rattle.typing_rules.proofs.Sound.Fitted.{fits_self, same_self, or_left, or_right, FitOf, it_fits, is_coerced, differs, how_fits}
use Rattle.typing_rules.proofs.Sound.Gives.{grows_number, ◌⋆◌, bind, given, found, after_number, numbered, grows_trans, grows_refl, knows_later, knows_number, obeyed}
use Rattle.typing_rules.proofs.Sound.Later.{ready_later, alone_ready, alone_no_reference, same_is, same_reference, agrees_later}
use Rattle.typing_rules.proofs.Sound.Operators.{same_id, as_wanted}
use Rattle.typing_rules.proofs.Sound.Scopes.{behind, bound_stands, knows_bound}
use Rattle.std.proofs.lemmas.Bool.{false≢true}
use Rattle.mir_ty.specs.Facts.{is_copy}
use Rattle.typing_rules.proofs.Sound.Arguments.{used_ty}
use Rattle.typing_rules.proofs.Sound.Places.{taken_sound, temporary_base}

-- the type of a node that a pattern gives
pattern_type : (items : ItemTable) (place : Matched) (ty : TyId) (p : Node) → Holds (pattern items place ty p) → ty ≡
    ty_of p
pattern_type items place ty (node id at t by form) h = sym (same_id t ty h.0)

as_base : (c : Context) (one : Bool) (p n : Node) → is_one_name p ≡ one → Holds (if one then typed c (Wanted (ty_of
    p)) n else
    typed c Base n) → Holds (typed c (well.as_initialiser p) n)
as_base c true p n e h =
    subst (λ b. Holds (typed c (if b then Wanted (ty_of p) else Base) n)) (sym e) h
as_base c false p n e h =
    subst (λ b. Holds (typed c (if b then Wanted (ty_of p) else Base) n)) (sym e) h

value_ready : (env : Env) (one : Bool) (declared : Option TyId) (t : TypingState) (n : Node) → IsInitialiser env one
    declared t
    (present n) → IsReady t.items (ty_of n)
value_ready env true declared t n is = alone_ready t.items (ty_of n) is.alone
value_ready env false declared t n is = is.base.ready

-- the type of what is bound is ready
ty_ready : (env : Env) (one : Bool) (declared : Option TyId) (t : TypingState) (v : MaybeNode) (ty : TyId) → let_ty declared
    v ≡ Some
    ty → ((u : TyId) → declared ≡ Some u → IsAlone t.items u) → IsInitialiser env one declared t v → IsReady t.items ty
ty_ready env one (Some u) t absent ty h alone is =
    alone_ready t.items ty (alone ty h)
ty_ready env one (Some u) t (present n) ty h alone is =
    subst (IsReady t.items) (same_Some (matched_ty u n) ty h) (by (rules.is_unused_place n))
  where
    by : (b : Bool) → IsReady t.items (if b then ty_of n else u)
    by true = value_ready env one (Some u) t n is
    by false = alone_ready t.items u (alone u refl)
ty_ready env one None t absent ty h alone is = absurd (none-some ty h)
ty_ready env true None t (present n) ty h alone is =
    subst (IsReady t.items) (same_Some (ty_of n) ty h) (alone_ready t.items (ty_of n) is.alone)
ty_ready env false None t (present n) ty h alone is =
    subst (IsReady t.items) (same_Some (ty_of n) ty h) is.base.ready

-- and the value fits it
value_fits : (items : ItemTable) (declared : Option TyId) (n : Node) (ty : TyId) → let_ty declared (present n) ≡ Some
    ty →
    IsTrue (agrees items declared (ty_of n)) → IsTrue (fits items ty (ty_of n))
value_fits items (Some u) n ty h fit_ =
    subst (λ x. IsTrue (fits items x (ty_of n))) (same_Some (matched_ty u n) ty h) (by (rules.is_unused_place n))
  where
    by : (b : Bool) → IsTrue (fits items (if b then ty_of n else u) (ty_of n))
    by true = fits_self items (ty_of n)
    by false = fit_
value_fits items None n ty h fit_ =
    subst (λ x. IsTrue (fits items x (ty_of n))) (same_Some (ty_of n) ty h) (fits_self items (ty_of n))

-- a place that is taken apart is of the pattern's type
is_its_own : (c : Context) (declared : Option TyId) (n : Node) (ty u : TyId) → let_ty declared (present n) ≡ Some ty →
    ty ≡ u → Holds (typed c Base n) → IsTrue (not (is_place (form_of n)) || is_same (ty_of n) u)
is_its_own c (Some t) (node id at own by form) ty u h same holds =
    subst (λ x. IsTrue (not (is_place form) || is_same own x)) (same_Some (matched_ty t (node id at own by form)) ty h ∙
    same) (as_it_is (is_place form) (is_none by) (true_left (is_none by) _ holds.0))
  where
    as_it_is : (p b : Bool) → IsTrue b → IsTrue (not p || is_same own (if p && b then own else t))
    as_it_is false b k = refl
    as_it_is true true k = same_self own.0
    as_it_is true false k = absurd (false≢true k)
is_its_own c None n ty u h same holds =
    subst (λ x. IsTrue (not (is_place (form_of n)) || is_same (ty_of n) x)) (same_Some (ty_of n) ty h ∙ same)
    (either (not (is_place (form_of n))))
  where
    either : (b : Bool) → IsTrue (b || is_same (ty_of n) (ty_of n))
    either true = refl
    either false = same_self (ty_of n).0

-- the type of what is bound is in the table
is_in_table : (items : ItemTable) (ty u : TyId) → ty ≡ u → IsReady items ty → IsTrue (is_some (type_at items u))
is_in_table items ty u same ready = subst (λ x. IsTrue (is_some (type_at items x))) same (ap is_some ready.1)

-- the facts of a `let` with a value
put_together : (c : Context) (p n : Node) → Holds (typed c (well.as_initialiser p) n) → IsTrue (are_distinct (names_of p)) →
    Holds (pattern c.items (if is_one_name p then well.whole else well.matched_in true c n) (ty_of p) p) → IsTrue (fits
    c.items (ty_of p) (ty_of n) && not (is_reference c.items (ty_of n))) → IsTrue (is_one_name p || (not (is_place (form_of
    n)) || is_same (ty_of n) (ty_of p))) → IsTrue (is_some (type_at c.items (ty_of p))) → Holds (statement c (tree.Let p
    (present n)))
put_together c p n value names taken fit own there = value ⋆ names ⋆ taken ⋆ fit ⋆ own ⋆ there

-- without a value the type is the one that is written
unassigned : (declared : Option TyId) (ty : TyId) → let_ty declared absent ≡ Some ty → declared ≡ Some ty
unassigned (Some u) ty h = h
unassigned None ty h = absurd (none-some ty h)

-- what a statement is, apart from what is behind it
let_holds : (env : Env) (one : Bool) (declared : Option TyId) (t w : TypingState) (v : MaybeNode) (ty : TyId) (n : ℕ) (b :
    Node × List
    NamedEntry) → Grows t w → let_ty declared v ≡ Some ty → ((u : TyId) → declared ≡ Some u → IsAlone w.items u) →
    IsInitialiser env one declared t v → IsInitialiser env one
    declared w v
    → IsPattern (of_value env one v t.items) ty n w b → is_one_name b.0 ≡ one → IsReady w.items
    ty → (p : TypingSpot) → Stands env w p → Holds (statement (at_spot w.items env.answer p) (tree.Let b.0 v))
let_holds env one declared t w absent ty n b g is_ty alone now later is is_one ready p stands =
    let holds = is.holds well.whole refl (λ h. refl) in
    let same = pattern_type w.items well.whole ty b.0 holds in
    is.names ⋆ subst (λ x. Holds (pattern w.items well.whole x b.0)) same holds ⋆
    is_in_table w.items ty (ty_of b.0) same ready ⋆
    subst (λ x. IsTrue (not (is_reference w.items x))) same (alone_no_reference w.items ty (alone ty (unassigned declared
    ty is_ty)))
let_holds env true declared t w (present m) ty n b g is_ty alone now later is is_one ready p stands =
    let holds = is.holds well.whole refl (λ h. refl) in
    let same = pattern_type w.items well.whole ty b.0 holds in
    let c = at_spot w.items env.answer p in
    let fit_ = subst (λ x. IsTrue (fits w.items x (ty_of m))) same (value_fits w.items declared m ty is_ty later.fit) in
    as_base c true b.0 m is_one (as_wanted c (ty_of b.0) m (later.holds p stands) fit_) ⋆ is.names ⋆
    subst (λ x. Holds (pattern w.items (if x then well.whole else well.matched_in true c m) (ty_of b.0) b.0)) (sym
    is_one)
    (subst (λ x. Holds (pattern w.items well.whole x b.0)) same holds) ⋆
    and_true (fits w.items (ty_of b.0) (ty_of m)) _ fit_ (alone_no_reference w.items (ty_of m) later.alone) ⋆
    or_left (is_one_name b.0) (not (is_place (form_of m)) || is_same (ty_of m) (ty_of b.0)) is_one ⋆
    is_in_table w.items ty (ty_of b.0) same ready
let_holds env false declared t w (present m) ty n b g is_ty alone now later is is_one ready p stands =
    let c = at_spot w.items env.answer p in
    let place = well.matched_in true c m in
    let holds = is.holds place refl (λ h. later.base.moves p stands (subst (λ x. IsTrue (not x)) (sym
    (now.base.is_fixed w g))
    h)) in
    let same = pattern_type w.items place ty b.0 holds in
    let fit_ = subst (λ x. IsTrue (fits w.items x (ty_of m))) same (value_fits w.items declared m ty is_ty later.fit) in
    put_together c b.0 m (as_base c false b.0 m is_one (later.base.holds p stands)) is.names
    (subst (λ x. Holds (pattern w.items (if x then well.whole else place) (ty_of b.0) b.0)) (sym is_one) (subst (λ x.
    Holds (pattern w.items place x b.0)) same holds))
    (and_true (fits w.items (ty_of b.0) (ty_of m)) _ fit_ later.no_reference)
    (or_right (is_one_name b.0) _ (is_its_own c declared m ty (ty_of b.0) is_ty same (later.base.holds p stands)))
    (is_in_table w.items ty (ty_of b.0) same ready)

unused_same : (n : Node) → well.is_unused_place n ≡ rules.is_unused_place n
unused_same (node id at ty by form) = refl

let_ends : (env : Env) (one : Bool) (declared : Option TyId) (u w : TypingState) (v : MaybeNode) (p : Node) → Grows u w →
    IsInitialiser env one declared u v → well.ends_by w.items (tree.Let p v) ≡ ends_by u.items v
let_ends env one declared u w absent p g is = refl
let_ends env one declared u w (present n) p g is =
    λ i. same_is g.items is_never_ty (ty_of n) (value_ready env one declared u n is) i && not (unused_same n i)

pub let_sound : (env : Env) (at : Pos) (one : Bool) (written : Check (Option TyId)) (value : Option TyId → Check
    MaybeNode)
    (matcher : Matcher) (s : TypingState) → SoundDeclared written → SoundInitialiser env one value → SoundPattern s one
    matcher → Knows
    env s → Gives s (λ w done. IsStatement env w done × Knows done.2 w) (let_row at env one written value matcher (λ xs.
    with_variables xs env) s)
let_sound env at one written value matcher s good_w good_v good_m k =
    after_number (bind (good_w (numbered s)) λ declared t g d.
    bind (good_v declared t (knows_later env g (knows_number env k))) λ v u h e.
    found Rule.T16 at (let_ty declared v) _ λ ty is_ty.
    let is_ready = ty_ready env one declared u v ty is_ty (λ x is. d u h x is) (e u (grows_refl u)) in
    bind (good_m (of_value env one v u.items) ty u (grows_trans (grows_number s) (grows_trans g h)) is_ready) λ b x i f.
    given _ λ ready w l.
    let on = grows_trans i l in
    let is = f w l in
    let ku = knows_later env (grows_trans g h) (knows_number env k) in (
      record {
        holds = λ p stands rest behind_ then_.
            and_true true (is_unit w.items unit) refl (unit_is w.items (l.ready ready)) ⋆
            let_holds env one declared u w v ty u.next_node b on is_ty (λ x q. d w (grows_trans h on) x q)
            (e u (grows_refl u)) (e w on) is.0 is.1
            (ready_later on.items ty is_ready) p stands ⋆
            subst (λ es. Holds (statements (with_entries es (at_spot w.items env.answer p)) rest behind_)) (sym
            is.0.entries)
            (then_ (behind (are_bound false b.1) p) (bound_stands env u w p u.next_node w.next_node b.1 ku (omega arith)
            is.0.fresh stands));
        ends = λ rest. ap (λ c. c || ends_in w.items rest) (let_ends env one declared x w v b.0 l (e x i));
        answer = refl;
      },
      knows_bound env w u.next_node b.1 (knows_later env on ku) is.0.fresh is.0.types,
    ))

-- ---- a place that is taken apart

abbrev IsUnplaced : Result (Node × TypingState) Broken → Type 0
IsUnplaced r = Then r (λ n t. is_place (form_of n) ≡ false)

-- what is coerced is no place any more
coerced_unplaced : (expected : TyId) (m : Node) (s : TypingState) (how : Fit) → (how ≡ Fits → ⊥) → IsUnplaced (fitted_by expected m
    how s)
coerced_unplaced expected m s Fits no_fit = absurd (no_fit refl)
coerced_unplaced expected m s (Coerced trait_no) no_fit = refl
coerced_unplaced expected m s Differs no_fit = tt

taken_unplaced : (env : Env) (expected : TyId) (n : Node) (s : TypingState) → (fit s.items expected (ty_of n) ≡ Fits → ⊥) →
    IsUnplaced (taken
    env (Some expected) n s)
taken_unplaced env expected n s no_fit =
    on (fitted_by expected m (fit s.items expected (ty_of m)) s) (coerced_unplaced expected m s (fit s.items expected (ty_of m)) (λ e.
    no_fit (ap
    (fit s.items expected) (sym (used_ty (taking s.items (ty_of n)) n)) ∙ e)))
  where
    m : Node
    m = used (taking s.items (ty_of n)) n

    rules_on : (x : Node) (t : TypingState) → is_place (form_of x) ≡ false → (a b : Bool) → IsUnplaced (and_then (obeys
        Rule.T07
        (place_in_text n) a t) (λ _. obeys Rule.T08 (place_in_text n) b >>= (λ _. pure x)))
    rules_on x t h true true = h
    rules_on x t h true false = tt
    rules_on x t h false b = tt

    on : (r : Result (Node × TypingState) Broken) → IsUnplaced r → IsUnplaced (and_then r (λ x. obeys Rule.T07
        (place_in_text n) (is_copy
        s.items (ty_of n) || not (is_fixed s.items (in_own_guard env.variables) n || is_dyn s.items (ty_of n))) >>= (λ
        _. obeys
        Rule.T08 (place_in_text n) (not (is_reference s.items (ty_of n))) >>= (λ _. pure x))))
    on (Ok a) h = rules_on a.0 a.1 h _ _
    on (Err e) h = tt

-- a value that is no place may be taken apart as a temporary
parts_of_value : (env : Env) (expected : Option TyId) (w : TypingState) (n : Node) → IsValue env expected w n → is_place (form_of n)
    ≡ false →
    IsInParts env expected w n
parts_of_value env expected w n value no_place =
    record {
      base = temporary_base env expected w n (record { value = value; is_no_place = no_place });
      fit = value.fit;
      no_reference = alone_no_reference w.items (ty_of n) value.alone;
    }

both_parts : (env : Env) (expected : Option TyId) (t : TypingState) (r : Result (Node × TypingState) Broken) → Gives t (IsValue env
    expected) r →
    IsUnplaced r → Gives t (IsInParts env expected) r
both_parts env expected t (Ok a) h u =
    record { so = λ ready. let g = h.so ready in (g.0, λ w l. parts_of_value env expected w a.0 (g.1 w l) u) }
both_parts env expected t (Err e) h u = record { so = λ ready. tt }

pub in_parts_sound : (env : Env) (takes_any : Bool) (expected : Option TyId) (n : Node) (t : TypingState) → IsPlace env
    t
    n → ((w : TypingState) → Grows t w → IsPlace env w n) → Gives t (IsInParts env expected) (place_for_parts env
    takes_any
    expected n t)
in_parts_sound env takes_any None n t now later =
    obeyed Rule.T08 (place_in_text n) (not (is_reference t.items (ty_of n))) _ λ plain.
    given n λ ready w g.
    record {
      base = (later w g).base;
      fit = refl;
      no_reference = subst (λ b. IsTrue (not b)) (sym (same_reference g.items (ty_of n) now.base.ready)) plain;
    }
in_parts_sound env takes_any (Some expected) n t now later =
    obeyed Rule.T03 (place_in_text n) (takes_any || (is_same (ty_of n) expected || not (is_never t.items (ty_of n)))) _
    λ
    _. by (fit t.items expected (ty_of n)) refl (how_fits t.items expected (ty_of n))
  where
    apart : (how : Fit) → fit t.items expected (ty_of n) ≡ how → (how ≡ Fits → ⊥) → Gives t (IsInParts env (Some expected))
        (taken env
        (Some expected) n t)
    apart how e no_fit =
        both_parts env (Some expected) t (taken env (Some expected) n t) (taken_sound env (Some expected) n t now later)
        (taken_unplaced env
        expected n t (λ f. no_fit (sym e ∙ f)))

    is_fit : Fit → Bool
    is_fit Fits = true
    is_fit _ = false

    by : (how : Fit) → fit t.items expected (ty_of n) ≡ how → FitOf t.items expected (ty_of n) how → Gives t
        (IsInParts env (Some expected)) (as_part env (Some expected) n how t)
    by _ e (it_fits f) =
        obeyed Rule.T08 (place_in_text n) (not (is_reference t.items (ty_of n))) _ λ plain.
        given n λ ready w g.
        record {
          base = (later w g).base;
          fit = agrees_later g.items (Some expected) (ty_of n) f;
          no_reference = subst (λ b. IsTrue (not b)) (sym (same_reference g.items (ty_of n) now.base.ready)) plain;
        }
    by (Coerced trait_no) e (is_coerced adt to from has) =
        apart (Coerced trait_no) e (λ f. false≢true (ap is_fit f))
    by Differs e differs = apart Differs e (λ f. false≢true (ap is_fit f))
