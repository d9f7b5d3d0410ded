-- Leaves, calls and what is built in.
use Rattle.std.proofs.Common.{◌≡◌, ℕ, zero, suc, Bool, true, false, ◌&&◌, ◌||◌, ◌==◌, not, if◌then◌else◌, List, [], ◌∷◌, length, Option, IsTrue, Contains, ◌⊎◌, inl, inr, refl, ap, sym, subst, ◌∙◌, arith}
use Rattle.std.specs.Prelude.{option_and_then, is_some, is_none}
use Rattle.std.specs.Option.{option_map_or}
use Rattle.std.proofs.lemmas.Bool.{eqb-true, true≢false}
use Rattle.mir_base.specs.declared.int_kind.IntKind.{IntKind}
use Rattle.mir_base.specs.declared.place_in_text.Pos.{Pos}
use Rattle.mir_base.specs.declared.rule.Rule.{Rule}
use Rattle.mir_ty.specs.declared.ty.Ty.{Ty}
use Rattle.mir_ty.specs.declared.ty.TyId.{TyId}
use Rattle.mir_ty.specs.ItemTable.{ItemTable}
use Rattle.typed_tree.specs.Tree as tree
use Rattle.typed_tree.specs.Tree.{Node, node, Form, Nodes, no_node, a_node}
use Rattle.well_typed.specs.Claim.{Holds, fact, both}
use Rattle.well_typed.specs.Nodes.{typed, row, arguments, is_leaf}
use Rattle.well_typed.specs.Patterns.{count_of}
use Rattle.well_typed.specs.Places as well
use Rattle.well_typed.specs.Places.{Context, ty_of, form_of, is_place, is_borrow, Taken, Wanted, Passed}
use Rattle.well_typed.specs.Types.{fits, is_same, is_never, is_i32, is_kind, is_reference, reference_in, kind_in}
use Rattle.typing_rules.specs.Check.{Check, TypingState}
use Rattle.typing_rules.specs.Places.{unit, bool, never, int, a_node_of}
use Rattle.typing_rules.specs.Promises.{IsAlone, IsKnown, AreReady, Grows, Gives, TypingSpot, at_spot, Stands, Knows, IsTemporary, SoundTemporary}
use Rattle.typing_rules.specs.RowPromises.{AreGiven, SoundArgs}
use Rattle.typing_rules.specs.Rows.{leaf, call, built_in, print_form, drop_form, forget_form, with_one}
use Rattle.typing_rules.specs.Scope.{Env}
use Rattle.typing_rules.proofs.Sound.Branches.{unit_is}
use Rattle.typing_rules.proofs.Sound.Fitted.{Is, IsPlain, fitted_gives, leaf_ends, passed_ends, or_left, or_right}
use Rattle.typing_rules.proofs.Sound.Gives.{◌⋆◌, bind, with_ready, obeyed, after_number, numbered, grows_trans, knows_number, grows_number}
use Rattle.typing_rules.proofs.Sound.Later.{alone_later}
use Rattle.typing_rules.proofs.Sound.Operators.{unit_ready, bool_ready, never_ready, int_at, bool_is, never_is, or_cases, same_id}

-- ---- leaves

-- a leaf of a type of which the table says what the form asks
pub leaf_sound : (env : Env) (at : Pos) (ty : TyId) (form : Form) → IsTrue (is_leaf form) → is_place form ≡ false →
    ((w :
    TypingState) → IsPlain env w ty form) → ((w : TypingState) (id : ℕ) → AreReady w.items → IsAlone w.items ty × Is env w id ty
    form) → SoundTemporary env (leaf at ty form)
leaf_sound env at ty form a b c so expected s k =
    after_number (leaf_ends env expected (numbered s) s.next_node at ty form a b c λ w ready l. so w s.next_node ready)

pub truth_sound : (env : Env) (at : Pos) (value : Bool) → SoundTemporary env (leaf at bool (tree.Truth value))
truth_sound env at value =
    leaf_sound env at bool (tree.Truth value) refl refl (λ w p. refl) λ w id ready.
    (bool_ready w.items ready, λ p stands. bool_is w.items ready)

pub unit_sound : (env : Env) (at : Pos) → SoundTemporary env (leaf at unit tree.UnitValue)
unit_sound env at =
    leaf_sound env at unit tree.UnitValue refl refl (λ w p. refl) λ w id ready.
    (unit_ready w.items ready, λ p stands. unit_is w.items ready)

pub panic_sound : (env : Env) (at : Pos) → SoundTemporary env (leaf at never tree.Panic)
panic_sound env at =
    leaf_sound env at never tree.Panic refl refl (λ w p. refl) λ w id ready.
    (never_ready w.items ready, λ p stands. never_is w.items ready)

-- ---- arguments

pub arguments_hold : (env : Env) (w : TypingState) (p : TypingSpot) → Stands env w p → (params : List TyId) (ns : Nodes) → AreGiven
    env params w ns → count_of ns ≡ length params → Holds (arguments (at_spot w.items env.answer p) params ns)
arguments_hold env w p stands [] no_node are e = refl
arguments_hold env w p stands (ty ∷ tys) no_node are e = absurd (omega (arith, e))
arguments_hold env w p stands [] (a_node first rest) are e = absurd (omega (arith, e))
arguments_hold env w p stands (ty ∷ tys) (a_node first rest) are e =
    (are.0.holds p stands, arguments_hold env w p stands tys rest are.1 (omega (arith, e)))

-- a call of what has these parameters
pub call_sound : (env : Env) (at : Pos) (form : Nodes → Form) (answer : TyId) (count : ℕ) (params : List TyId) (args :
    List TyId → Check Nodes) (may_be_called : Bool) → ((ns : Nodes) → IsTrue (is_leaf (form ns))) → ((ns : Nodes) →
    is_place (form ns) ≡ false) → ((w : TypingState) (ns : Nodes) → IsPlain env w answer (form ns)) → SoundArgs env count args
    → (s₀ : TypingState) → IsAlone s₀.items answer → ((ty : TyId) → Contains params ty → IsKnown s₀.items ty) → (IsTrue
    may_be_called → (w : TypingState) (id : ℕ) (ns : Nodes) (p : TypingSpot) → AreReady w.items → Grows s₀ w → Stands env w p →
    Holds
    (arguments (at_spot w.items env.answer p) params ns) → Holds (row (at_spot w.items env.answer p) id answer (form
    ns))) → (expected : Option TyId) → Knows env s₀ → Gives s₀ (IsTemporary env expected) (call at form answer count params args
    may_be_called expected s₀)
call_sound env at form answer count params args may_be_called a b c good s ready known so expected k =
    after_number (bind (good params (numbered s) (knows_number env k) known) λ ns t g d.
    bind (fitted_gives env expected (a_node_of s.next_node at answer (form ns)) t (a ns)) λ n u h e.
    obeyed Rule.T04 at (count == length params) _ λ counted.
    obeyed Rule.T13 at may_be_called _ λ may.
    passed_ends env expected u s.next_node at answer (form ns) n (b ns) (λ w. c w ns) e λ w all l.
    let on = grows_trans (grows_trans (grows_number s) g) (grows_trans h l) in
    let given_ = d w (grows_trans h l) in (
      alone_later on.items answer ready,
      λ p stands. so may w s.next_node ns p all on stands
          (arguments_hold env w p stands params ns given_.are (given_.counted ∙ eqb-true count (length params)
          counted)),
    ))

-- ---- what is built in

pub from_passed : (c : Context) (param : TyId) (n : Node) → is_reference c.items param ≡ false → Holds (typed c
    (Passed param)
    n) → Holds (typed c Taken n) × IsTrue (fits c.items param (ty_of n))
from_passed c param (node id at ty by form) e h =
    let so = else_by (is_reference c.items param) e h.0 in ((so.0, h.1), so.1)
  where
    else_by : (b : Bool) → b ≡ false → Holds (if b && not (is_never c.items ty) then fact (is_borrow form && is_none by
        && is_same ty param) else both (well.is_taken c ty by form) (fact (fits c.items param ty))) → Holds (both
        (well.is_taken c ty by form) (fact (fits c.items param ty)))
    else_by true e h = absurd (true≢false e)
    else_by false e h = h

with_one_leaf : (form : Node → Form) → ((n : Node) → IsTrue (is_leaf (form n))) → (ns : Nodes) → IsTrue (is_leaf
    (with_one ns form))
with_one_leaf form a no_node = refl
with_one_leaf form a (a_node first rest) = a first

with_one_place : (form : Node → Form) → ((n : Node) → is_place (form n) ≡ false) → (ns : Nodes) → is_place (with_one ns
    form) ≡ false
with_one_place form a no_node = refl
with_one_place form a (a_node first rest) = a first

with_one_plain : (env : Env) (w : TypingState) (ty : TyId) (form : Node → Form) → ((n : Node) → IsPlain env w ty (form n)) →
    (ns
    : Nodes) → IsPlain env w ty (with_one ns form)
with_one_plain env w ty form a no_node p = refl
with_one_plain env w ty form a (a_node first rest) p = a first p

built_in_sound : (env : Env) (at : Pos) (answer : TyId) (form : Node → Form) (count : ℕ) (params : List TyId) (args :
    List
    TyId → Check Nodes) → ((n : Node) → IsTrue (is_leaf (form n))) → ((n : Node) → is_place (form n) ≡ false) → ((w :
    TypingState) (n : Node) → IsPlain env w answer (form n)) → SoundArgs env count args → ((s : TypingState) → AreReady s.items →
    (ty
    : TyId) → Contains params ty → IsKnown s.items ty) → ((w : TypingState) (id : ℕ) (n : Node) (p : TypingSpot) → AreReady
    w.items →
    Stands env w p → AreGiven env params w (a_node n no_node) → IsAlone w.items answer × Holds (row (at_spot w.items
    env.answer p) id answer (form n))) → ((w : TypingState) → AreReady w.items → IsAlone w.items answer) → SoundTemporary env
    (built_in at answer (λ ns. with_one ns form) count 1 (args params))
built_in_sound env at answer form count params args a b c good known so ready expected s k =
    with_ready λ all₀. after_number (bind (good params (numbered s) (knows_number env k) (known s all₀)) λ ns t g d.
    bind (fitted_gives env expected (a_node_of s.next_node at answer (with_one ns form)) t (with_one_leaf form a ns)) λ n
    u h
    e.
    obeyed Rule.T04 at (count == 1) _ λ counted.
    passed_ends env expected u s.next_node at answer (with_one ns form) n (with_one_place form b ns) (λ w. with_one_plain
    env w
    answer form (c w) ns) e λ w all l.
    let given_ = d w (grows_trans h l) in
    (ready w all, λ p stands. by w p all stands ns given_.are (given_.counted ∙ eqb-true count 1 counted)))
  where
    by : (w : TypingState) (p : TypingSpot) → AreReady w.items → Stands env w p → (ns : Nodes) → AreGiven env params w ns →
        count_of ns
        ≡ 1 → Holds (row (at_spot w.items env.answer p) s.next_node answer (with_one ns form))
    by w p all stands no_node are e = absurd (omega (arith, e))
    by w p all stands (a_node n no_node) are e = (so w s.next_node n p all stands are).1
    by w p all stands (a_node n (a_node m ns)) are e = absurd (omega (arith, e))

i32_fits : (items : ItemTable) → AreReady items → (ty : TyId) → IsTrue (fits items (int IntKind.I32) ty) → IsTrue
    (is_i32
    items ty || is_never items ty)
i32_fits items ready ty h = by (or_cases (is_same ty (int IntKind.I32)) (is_never items ty) h)
  where
    has : IsTrue (is_i32 items (int IntKind.I32))
    has = subst (λ o. IsTrue (option_map_or (is_kind IntKind.I32) o false)) (sym (ap (option_and_then kind_in) (int_at
        items ready IntKind.I32))) refl

    by : IsTrue (is_same ty (int IntKind.I32)) ⊎ IsTrue (is_never items ty) → IsTrue (is_i32 items ty || is_never items
        ty)
    by (inl same) = or_left _ _ (subst (λ id. IsTrue (is_i32 items id)) (sym (same_id ty (int IntKind.I32) same)) has)
    by (inr never) = or_right (is_i32 items ty) _ never

pub one_known : (items : ItemTable) (ty : TyId) → IsKnown items ty → (t : TyId) → Contains (ty ∷ []) t → IsKnown items t
one_known items ty h t (zero, below, is) = subst (IsKnown items) is h
one_known items ty h t (suc k, below, is) = absurd (omega (arith, below))

pub none_known : (items : ItemTable) (t : TyId) → Contains [] t → IsKnown items t
none_known items t c = absurd (omega (arith, c.1))

pub print_sound : (env : Env) (at : Pos) (count : ℕ) (args : List TyId → Check Nodes) → SoundArgs env count args →
    SoundTemporary env (built_in at unit print_form count 1 (args (int IntKind.I32 ∷ [])))
print_sound env at count args good =
    built_in_sound env at unit tree.Print count (int IntKind.I32 ∷ []) args (λ n. refl) (λ n. refl) (λ w n p. refl) good
    (λ s all. one_known s.items (int IntKind.I32) (Ty.Int IntKind.I32, int_at s.items all IntKind.I32))
    (λ w id n p all stands are.
    let so = from_passed (at_spot w.items env.answer p) (int IntKind.I32) n (ap is_some (ap (option_and_then
    reference_in)
    (int_at w.items all IntKind.I32))) (are.0.holds p stands) in
    (unit_ready w.items all, so.0 ⋆ i32_fits w.items all (ty_of n) so.1 ⋆ unit_is w.items all))
    (λ w all. unit_ready w.items all)

pub drop_sound : (env : Env) (at : Pos) (count : ℕ) (args : List TyId → Check Nodes) → SoundArgs env count args →
    SoundTemporary env (built_in at unit drop_form count 1 (args []))
drop_sound env at count args good =
    built_in_sound env at unit tree.DropValue count [] args (λ n. refl) (λ n. refl) (λ w n p. refl) good
    (λ s all. none_known s.items) (λ w id n p all stands are. (
      unit_ready w.items all,
      are.0.holds p stands ⋆ unit_is
          w.items all,
    )) (λ w all. unit_ready w.items all)

pub forget_sound : (env : Env) (at : Pos) (count : ℕ) (args : List TyId → Check Nodes) → SoundArgs env count args →
    SoundTemporary env (built_in at unit forget_form count 1 (args []))
forget_sound env at count args good =
    built_in_sound env at unit tree.Forget count [] args (λ n. refl) (λ n. refl) (λ w n p. refl) good
    (λ s all. none_known s.items) (λ w id n p all stands are. (
      unit_ready w.items all,
      are.0.holds p stands ⋆ unit_is
          w.items all,
    )) (λ w all. unit_ready w.items all)
