-- Scrutinees and patterns: `if let`, `match`, `while let`.
use Rattle.std.proofs.Common.{◌≡◌, ℕ, zero, suc, Bool, true, false, ◌||◌, not, if◌then◌else◌, List, [], ◌∷◌, slice_get, Option, Some, None, IsTrue, refl, ap, sym, subst, ◌∙◌, arith}
use Rattle.std.specs.List.{list_all, list_any}
use Rattle.std.proofs.lemmas.Option.{none-some, same_Some}
use Rattle.mir_base.specs.declared.place_in_text.Pos.{Pos}
use Rattle.mir_base.specs.declared.rule.Rule.{Rule}
use Rattle.mir_ty.specs.declared.ty.TyId.{TyId}
use Rattle.mir_ty.specs.ItemTable.{ItemTable}
use Rattle.typed_tree.specs.declared.node.Use.{Use}
use Rattle.typed_tree.specs.Tree as tree
use Rattle.typed_tree.specs.Tree.{Node, node, Form, Nodes, no_node, a_node, MaybeNode, absent, present}
use Rattle.well_typed.specs.Claim.{Holds}
use Rattle.well_typed.specs.Nodes.{typed, arms_of, guarded, types_in, matched_in, of_scrutinee}
use Rattle.well_typed.specs.Patterns.{Matched, entries_of}
use Rattle.well_typed.specs.Places as well
use Rattle.well_typed.specs.Places.{InScope, Context, ty_of, form_of, is_place, may_move, Taken, Base, Used, with_entries}
use Rattle.well_typed.specs.Types.{is_same, is_common, is_never, is_never_ty, fits}
use Rattle.well_typed.proofs.ClaimLemmas.{and_true, true_left, true_right}
use Rattle.typing_rules.specs.Check.{Check, TypingState}
use Rattle.typing_rules.specs.Places.{unit, bool, is_fixed, in_own_guard}
use Rattle.typing_rules.specs.Promises.{Extends, IsReady, IsAlone, AreReady, Grows, Gives, TypingSpot, at_spot, Stands, Knows, IsValue, Sound, SoundBase, SoundTemporary, key_of, in_scope, are_bound, AreReadyTypes, IsPattern, SoundMatcher}
use Rattle.typing_rules.specs.RowPromises.{IsMaybe, IsArm, AreArms, SoundArms, SoundGuard}
use Rattle.typing_rules.specs.Rows as rows
use Rattle.typing_rules.specs.Rows.{Typer, PatternContext, Matcher, pattern_context, scrutinised, used_if_place, if_let_alone, if_let_else, match_row, while_let_row, loop_around, one_of_two, one_type}
use Rattle.typing_rules.specs.Scope.{Env, NamedEntry, LabelledLoop, with_variables, in_guard, within_loop}
use Rattle.src_ast.specs.Syntax.{Word}
use Rattle.typing_rules.proofs.Sound.Arguments.{IsNamed, named_sound}
use Rattle.typing_rules.proofs.Sound.Branches.{unit_is, unit_fits, bool_fits, common_of}
use Rattle.typing_rules.proofs.Sound.Constructors.{one_is_common, one_has, fits_all_later}
use Rattle.typing_rules.proofs.Sound.Fitted.{settled_ends, same_self, or_left, or_right}
use Rattle.typing_rules.proofs.Sound.Gives.{◌⋆◌, bind, with_ready, given, found, after_number, numbered, grows_trans, grows_refl, knows_later, knows_number}
use Rattle.typing_rules.proofs.Sound.Jumps.{in_loop, loop_stands, knows_loop}
use Rattle.typing_rules.proofs.Sound.Later.{is_later}
use Rattle.typing_rules.proofs.Sound.Operators.{unit_ready, never_ready, either_ready}
use Rattle.typing_rules.proofs.Sound.References.{used_holds, used_type}
use Rattle.typing_rules.proofs.Sound.Scopes.{behind, bound_stands, guard_stands, knows_bound, knows_guarded}

-- ---- scrutinees

used_moves : (c : Context) (by : Use) (n : Node) → may_move c (used_if_place by n) ≡ may_move c n
used_moves c by (node id at ty old form) = so (is_place form)
  where
    so : (b : Bool) → may_move c (if b then node id at ty (Some by) form else node id at ty old form) ≡ may_move c
        (node id
        at ty old form)
    so true = refl
    so false = refl

used_fixed : (items : ItemTable) (guards : List ℕ) (by : Use) (n : Node) → is_fixed items guards (used_if_place by n) ≡
    is_fixed items guards n
used_fixed items guards by (node id at ty old form) = so (is_place form)
  where
    so : (b : Bool) → is_fixed items guards (if b then node id at ty (Some by) form else node id at ty old form) ≡
        is_fixed
        items guards (node id at ty old form)
    so true = refl
    so false = refl

-- a place that is borrowed, or a temporary
record IsScrutinee (env : Env) (w : TypingState) (n : Node) : Type 0 where
  ready : IsReady w.items (ty_of n)
  holds : (p : TypingSpot) → Stands env w p → Holds (typed (at_spot w.items env.answer p) (Used Use.Borrow) n)
  moves : (p : TypingSpot) → Stands env w p → IsTrue (not (is_fixed w.items (in_own_guard env.variables) n)) → IsTrue
      (may_move
      (at_spot w.items env.answer p) n)
  fixed : (v : TypingState) → Grows w v → is_fixed v.items (in_own_guard env.variables) n ≡ is_fixed w.items (in_own_guard
      env.variables) n

scrutinee_of : (env : Env) (w : TypingState) (n : Node) → IsNamed env w n → IsScrutinee env w (used_if_place Use.Borrow n)
scrutinee_of env w n is =
    record {
      ready = subst (IsReady w.items) (sym (used_type Use.Borrow n)) is.base.ready;
      holds = λ p stands. used_holds (at_spot w.items env.answer p) Use.Borrow n (is.base.holds p stands)
          is.no_reference;
      moves = λ p stands h. subst IsTrue (sym (used_moves (at_spot w.items env.answer p) Use.Borrow n)) (is.base.moves p
          stands (subst (λ b. IsTrue (not b)) (used_fixed w.items (in_own_guard env.variables) Use.Borrow n) h));
      fixed = λ v g. used_fixed v.items (in_own_guard env.variables) Use.Borrow n ∙ (is.base.is_fixed v g ∙ sym
          (used_fixed
          w.items (in_own_guard env.variables) Use.Borrow n));
    }

scrutinised_sound : (env : Env) (check : Check Node) → SoundBase env check → (s : TypingState) → Knows env s → Gives s
    (IsScrutinee env) (scrutinised check s)
scrutinised_sound env check good s k =
    bind (named_sound env check good s k) λ n t g d. given _ λ ready w l. scrutinee_of env w n (d w l)

-- a pattern for the place of a scrutinee
matched : (env : Env) (t w : TypingState) (n : Node) (p : TypingSpot) (b : Node × List NamedEntry) → Grows t w → IsScrutinee env t n →
    IsScrutinee env w n → Stands env w p → IsPattern (pattern_context env false n t.items) (ty_of n) t.next_node w b → Holds
    (of_scrutinee (at_spot w.items env.answer p) b.0 n)
matched env t w n p b g now later stands is = (
  is.names,
  is.holds (matched_in false (at_spot w.items env.answer p) n) refl (λ h. later.moves p stands (subst (λ x.
      IsTrue (not x)) (sym (now.fixed w g)) h)),
)

-- the body behind a pattern, in the scope of its names
inner_holds : (env : Env) (t w : TypingState) (p : TypingSpot) (e : PatternContext) (ty : TyId) (b : Node × List NamedEntry) (n : Node) (expected :
    Option TyId) → Knows env t → Stands env w p → IsPattern e ty t.next_node w b → IsValue (with_variables b.1 env)
    expected w
    n → Holds (typed (with_entries (entries_of b.0) (at_spot w.items env.answer p)) Taken n)
inner_holds env t w p e ty b n expected k stands is value =
    subst (λ es. Holds (typed (with_entries es (at_spot w.items env.answer p)) Taken n)) (sym is.entries)
    (value.holds (behind (are_bound false b.1) p) (bound_stands env t w p t.next_node w.next_node b.1 k (omega arith)
    is.fresh stands))

knows_names : (env : Env) (t u : TypingState) (e : PatternContext) (ty : TyId) (b : Node × List NamedEntry) → Knows env t → Grows t u →
    IsPattern e ty t.next_node u b → Knows (with_variables b.1 env) u
knows_names env t u e ty b k g is = knows_bound env u t.next_node b.1 (knows_later env g k) is.fresh is.types

knows_guard : (env : Env) (t u : TypingState) (e : PatternContext) (ty : TyId) (b : Node × List NamedEntry) → Knows env t → Grows t u →
    IsPattern e ty t.next_node u b → Knows (with_variables (in_guard b.1) env) u
knows_guard env t u e ty b k g is =
    knows_guarded env u t.next_node b.1 (knows_later env g k) is.fresh is.types

pub if_let_alone_sound : (env : Env) (at : Pos) (scrutinee : Check Node) (matcher : Matcher) (body : List NamedEntry →
    Typer) →
    SoundBase env scrutinee → SoundMatcher matcher → ((xs : List NamedEntry) → Sound (with_variables xs env) (body xs)) →
    SoundTemporary env (if_let_alone env at scrutinee matcher body)
if_let_alone_sound env at scrutinee matcher body good_s good_m good_b expected s k =
    after_number (bind (scrutinised_sound env scrutinee good_s (numbered s) (knows_number env k)) λ n t g d.
    let kt = knows_later env g (knows_number env k) in
    let now = d t (grows_refl t) in
    bind (good_m (pattern_context env false n t.items) (ty_of n) t now.ready) λ m u h e.
    bind (good_b m.1 (Some unit) u (knows_names env t u _ (ty_of n) m kt h (e u (grows_refl u)))) λ b v i f.
    settled_ends env expected v s.next_node at unit (tree.IfLet m.0 n b absent) refl (λ w p. refl) λ w ready l.
    let on = grows_trans i l in
    let dn = d w (grows_trans h on) in (
      unit_ready w.items ready,
      λ p stands.
          dn.holds p stands ⋆ matched env t w n p m (grows_trans h on) now dn stands (e w on) ⋆ inner_holds env t w p
          _ (ty_of n)
          m b (Some unit) kt stands (e w on) (f w l) ⋆ unit_fits w.items ready (ty_of b) (f w l).fit ⋆ unit_is w.items
          ready,
    ))

pub if_let_else_sound : (env : Env) (at : Pos) (scrutinee : Check Node) (matcher : Matcher) (body : List NamedEntry → Typer)
    (otherwise : Typer) → SoundBase env scrutinee → SoundMatcher matcher → ((xs : List NamedEntry) → Sound (with_variables xs
    env) (body xs)) → Sound env otherwise → SoundTemporary env (if_let_else env at scrutinee matcher body otherwise)
if_let_else_sound env at scrutinee matcher body otherwise good_s good_m good_b good_o expected s k =
    after_number (bind (scrutinised_sound env scrutinee good_s (numbered s) (knows_number env k)) λ n t g d.
    let kt = knows_later env g (knows_number env k) in
    let now = d t (grows_refl t) in
    bind (good_m (pattern_context env false n t.items) (ty_of n) t now.ready) λ m u h e.
    bind (good_b m.1 expected u (knows_names env t u _ (ty_of n) m kt h (e u (grows_refl u)))) λ b v i f.
    bind (good_o expected v (knows_later env (grows_trans h i) kt)) λ o x j r.
    found Rule.T03 at (one_of_two x.items (ty_of b) (ty_of o)) _ λ ty one.
    settled_ends env expected x s.next_node at ty (tree.IfLet m.0 n b (present o)) refl (λ w p. refl) λ w ready l.
    let on = grows_trans i (grows_trans j l) in
    let dn = d w (grows_trans h on) in
    let fb = f w (grows_trans j l) in (
      either_ready x.items w.items (ty_of b) (ty_of o) ty one fb.alone (r w l).alone,
      λ p stands.
          dn.holds p stands ⋆ matched env t w n p m (grows_trans h on) now dn stands (e w on) ⋆ inner_holds env t w p
          _ (ty_of n)
          m b expected kt stands (e w on) fb ⋆ (r w l).holds p stands ⋆ common_of l.items (ty_of b) (ty_of o) ty one,
    ))

pub while_let_sound : (env : Env) (at : Pos) (label : Option Word) (scrutinee : LabelledLoop → Check Node) (matcher : Matcher)
    (body : LabelledLoop → List NamedEntry → Typer) → ((a : LabelledLoop) → SoundBase (within_loop a env) (scrutinee a)) → SoundMatcher
    matcher → ((a : LabelledLoop) (xs : List NamedEntry) → Sound (with_variables xs (within_loop a env)) (body a xs)) →
    SoundTemporary env (while_let_row env at label scrutinee matcher body)
while_let_sound env at label scrutinee matcher body good_s good_m good_b expected s k =
    after_number (bind (scrutinised_sound inside (scrutinee a) (good_s a) s' k') λ n t g d.
    let kt = knows_later inside g k' in
    let now = d t (grows_refl t) in
    bind (good_m (pattern_context env false n t.items) (ty_of n) t now.ready) λ m u h e.
    bind (good_b a m.1 (Some unit) u (knows_names inside t u _ (ty_of n) m kt h (e u (grows_refl u)))) λ b v i f.
    settled_ends env expected v s.next_node at unit (tree.WhileLet m.0 n b) refl (λ w p. refl) λ w ready r.
    let on = grows_trans i r in
    let dn = d w (grows_trans h on) in (
      unit_ready w.items ready,
      λ p stands.
          let within_ = loop_stands env s w p a l k refl refl refl (unit_is w.items ready) stands in
          dn.holds (in_loop l p) within_ ⋆ matched inside t w n (in_loop l p) m (grows_trans h on) now dn within_ (e w
          on) ⋆
          inner_holds inside t w (in_loop l p) _ (ty_of n) m b (Some unit) kt within_ (e w on) (f w r) ⋆ unit_fits
          w.items ready
          (ty_of b) (f w r).fit ⋆ unit_is w.items ready,
    ))
  where
    s' : TypingState
    s' = numbered s

    a : LabelledLoop
    a = loop_around label s.next_node false None

    l : well.LoopAround
    l = record { loop = s.next_node; ty = unit; has_value = false }

    inside : Env
    inside = within_loop a env

    k' : Knows inside s'
    k' = knows_loop env s' a (knows_number env k) (omega arith)

-- ---- arms

guard_entries : (xs : List NamedEntry) → well.in_guard (are_bound false xs) ≡ are_bound true xs
guard_entries [] = refl
guard_entries (x ∷ xs) = ap (λ es. in_scope (key_of x.meaning) x.ty true ∷ es) (guard_entries xs)

guard_holds : (env : Env) (t w : TypingState) (p : TypingSpot) (e : PatternContext) (ty : TyId) (b : Node × List NamedEntry) (g : MaybeNode) →
    Knows env t → AreReady w.items → Stands env w p → IsPattern e ty t.next_node w b → IsMaybe (with_variables (in_guard
    b.1) env) (Some bool) w g → Holds (guarded (with_entries (well.in_guard (entries_of b.0)) (at_spot w.items
    env.answer
    p)) g)
guard_holds env t w p e ty b absent k ready stands is value = refl
guard_holds env t w p e ty b (present n) k ready stands is value =
    subst (λ es. Holds (guarded (with_entries es (at_spot w.items env.answer p)) (present n))) (sym (ap well.in_guard
    is.entries ∙ guard_entries b.1))
    (value.holds (behind (are_bound true b.1) p) (guard_stands env t w p t.next_node w.next_node b.1 k (omega arith)
    is.fresh stands) ⋆ bool_fits w.items ready (ty_of n) value.fit)

in_guard_ready : (items : ItemTable) (xs : List NamedEntry) → AreReadyTypes items xs → AreReadyTypes items (in_guard xs)
in_guard_ready items [] h = tt
in_guard_ready items (x ∷ xs) h = (h.0, in_guard_ready items xs h.1)

pub arm_sound : (env : Env) (e : PatternContext) (ty : TyId) (check : Check (Node × List NamedEntry)) (guard : List NamedEntry → Check
    MaybeNode) (body : List NamedEntry → Typer) → ((s : TypingState) → IsReady s.items ty → Gives s (IsPattern e ty s.next_node)
    (check s)) → SoundGuard env guard → ((xs : List NamedEntry) → Sound (with_variables xs env) (body xs)) → (expected : Option
    TyId) (s : TypingState) → Knows env s → IsReady s.items ty → Gives s (IsArm env e ty expected) (rows.arm check guard body
    expected s)
arm_sound env e ty check guard body good_m good_g good_b expected s k ready =
    after_number (bind (good_m (numbered s) ready) λ m u h d.
    bind (good_g m.1 u (knows_guard env (numbered s) u e ty m (knows_number env k) h (d u (grows_refl u)))) λ g v i f.
    bind (good_b m.1 expected v (knows_names env (numbered s) v e ty m (knows_number env k) (grows_trans h i) (d v i))) λ
    b x
    j r.
    given _ λ all w l.
    let on = grows_trans i (grows_trans j l) in
    let value = r w l in
    record {
      holds = λ p stands place same moves.
          refl ⋆ (d w on).names ⋆ (d w on).holds place same moves ⋆ guard_holds env (numbered s) w p e ty m g
          (knows_number
          env k) (l.ready all) stands (d w on) (f w (grows_trans j l)) ⋆ inner_holds env (numbered s) w p e ty m b expected
          (knows_number env k) stands (d w on) value ⋆ same_self (ty_of b).0;
      alone = value.alone;
      fit = value.fit;
    })

arms_hold : (env : Env) (e : PatternContext) (ty : TyId) (expected : Option TyId) (w : TypingState) (p : TypingSpot) → Stands env w p →
    (place :
    Matched) → place.takes_all ≡ e.takes_all → (IsTrue (not e.is_fixed) → IsTrue place.may_move) → (ns : Nodes) (tys :
    List
    TyId) → AreArms env e ty expected w ns tys → Holds (arms_of (at_spot w.items env.answer p) place ty ns)
arms_hold env e ty expected w p stands place same moves no_node [] are = refl
arms_hold env e ty expected w p stands place same moves no_node (t ∷ tys) are = absurd are
arms_hold env e ty expected w p stands place same moves (a_node first rest) [] are = absurd are
arms_hold env e ty expected w p stands place same moves (a_node first rest) (t ∷ tys) are =
    (are.0.0.holds p stands place same moves, arms_hold env e ty expected w p stands place same moves rest tys are.1)

arms_types : (env : Env) (e : PatternContext) (ty : TyId) (expected : Option TyId) (w : TypingState) (ns : Nodes) (tys : List TyId) →
    AreArms env e ty expected w ns tys → types_in ns ≡ tys
arms_types env e ty expected w no_node [] are = refl
arms_types env e ty expected w no_node (t ∷ tys) are = absurd are
arms_types env e ty expected w (a_node first rest) [] are = absurd are
arms_types env e ty expected w (a_node first rest) (t ∷ tys) are =
    let first_ = sym are.0.1 in let on = arms_types env e ty expected w rest tys are.1 in λ i. first_ i ∷ on i

arms_alone : (env : Env) (e : PatternContext) (ty : TyId) (expected : Option TyId) (w : TypingState) (ns : Nodes) (tys : List TyId) →
    AreArms env e ty expected w ns tys → (n : ℕ) (t : TyId) → slice_get tys n ≡ Some t → IsAlone w.items t
arms_alone env e ty expected w no_node [] are n t h = absurd (none-some t h)
arms_alone env e ty expected w no_node (u ∷ tys) are n t h = absurd are
arms_alone env e ty expected w (a_node first rest) [] are n t h = absurd are
arms_alone env e ty expected w (a_node first rest) (u ∷ tys) are zero t h =
    subst (IsAlone w.items) (sym are.0.1 ∙ same_Some u t h) are.0.0.alone
arms_alone env e ty expected w (a_node first rest) (u ∷ tys) are (suc n) t h = arms_alone env e ty expected w rest tys are.1 n
    t h

any_never : (old new : ItemTable) → Extends old new → (ty : TyId) (tys : List TyId) → IsTrue (is_common old ty tys) →
    IsTrue
    (is_common new ty tys)
any_never old new e ty tys h =
    and_true _ _ (fits_all_later e ty tys (true_left (list_all (fits old ty) tys) _ h))
    (or_later (is_never old ty) (is_never new ty) (list_any (is_same ty) tys) (is_later e is_never_ty ty) (true_right
    (list_all (fits old ty) tys) _ h))
  where
    or_later : (a b c : Bool) → (IsTrue a → IsTrue b) → IsTrue (a || c) → IsTrue (b || c)
    or_later true b c more h = or_left b c (more refl)
    or_later false b c more h = or_right b c h

pub match_sound : (env : Env) (at : Pos) (scrutinee : Check Node) (arms : PatternContext → TyId → Option TyId → Check (Nodes
    × List
    TyId)) → SoundBase env scrutinee → SoundArms env arms → SoundTemporary env (match_row env at scrutinee arms)
match_sound env at scrutinee arms good_s good_a expected s k =
    after_number (bind (scrutinised_sound env scrutinee good_s (numbered s) (knows_number env k)) λ n t g d.
    let now = d t (grows_refl t) in
    bind (good_a (pattern_context env false n t.items) (ty_of n) expected t (knows_later env g (knows_number env k)) now.ready) λ
    ns u h
    e.
    found Rule.T03 at (one_type u.items ns.1) _ λ ty one.
    with_ready λ all.
    settled_ends env expected u s.next_node at ty (tree.Match n ns.0) refl (λ w p. refl) λ w ready l.
    let dn = d w (grows_trans h l) in
    let ew = e w l in (
      one_has u.items all (IsAlone w.items) (never_ready w.items ready) ns.1 (arms_alone env _ (ty_of n) expected w ns.0
          ns.1
          ew.0) ty one,
      λ p stands.
          dn.holds p stands ⋆ arms_hold env (pattern_context env false n t.items) (ty_of n) expected w p stands (matched_in false
          (at_spot
          w.items env.answer p) n) refl (λ x. dn.moves p stands (subst (λ b. IsTrue (not b)) (sym (now.fixed w
          (grows_trans h l)))
          x)) ns.0 ns.1 ew.0 ⋆ subst (λ tys. IsTrue (is_common w.items ty tys)) (sym (arms_types env _ (ty_of n) expected
          w ns.0 ns.1
          ew.0)) (any_never u.items w.items l.items ty ns.1 (one_is_common u.items all ns.1 ty one)) ⋆ ew.1,
    ))
