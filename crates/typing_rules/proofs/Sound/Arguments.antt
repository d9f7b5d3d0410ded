-- What is stored into, what is borrowed, and arguments.
use Rattle.std.proofs.Common.{◌≡◌, ℕ, Bool, true, false, ◌&&◌, ◌||◌, ◌==◌, not, if◌then◌else◌, List, Option, Some, None, IsTrue, Contains, ◌⊎◌, inl, inr, refl, ap, sym, subst, ◌∙◌, arith}
use Rattle.std.specs.Prelude.{option_and_then, is_some, is_none}
use Rattle.std.specs.Option.{option_map_or}
use Rattle.std.proofs.lemmas.Option.{none-some, same_Some}
use Rattle.mir_base.specs.declared.int_kind.IntKind.{IntKind}
use Rattle.mir_base.specs.declared.place_in_text.Pos.{Pos}
use Rattle.mir_base.specs.declared.rule.Rule.{Rule}
use Rattle.mir_ty.specs.declared.ty.Ty.{Ty}
use Rattle.mir_ty.specs.declared.ty.TyId.{TyId}
use Rattle.mir_ty.specs.ItemTable.{ItemTable, type_at}
use Rattle.mir_ty.specs.Parts.{held_by}
use Rattle.typed_tree.specs.declared.node.Use.{Use}
use Rattle.typed_tree.specs.Tree as tree
use Rattle.typed_tree.specs.Tree.{Node, node, Form, Variable, Captured, Field, Index, Deref}
use Rattle.well_typed.specs.Claim.{Holds, some, fact, both}
use Rattle.well_typed.specs.Nodes.{typed, row}
use Rattle.well_typed.specs.Places as well
use Rattle.well_typed.specs.Places.{InScope, Context, ty_of, form_of, is_place, is_borrow, is_by, may_move, may_move_by, is_guarded, is_own_binding, is_rooted, is_rooted_by, Taken, Wanted, Base, Used, Stored, Passed}
use Rattle.well_typed.specs.Types.{fits, is_same, is_never, is_usize, is_kind, is_reference, reference_of, reference_in, is_dyn, array_of, array_in, kind_in}
use Rattle.well_typed.proofs.ClaimLemmas.{and_true, true_left, true_right}
use Rattle.typing_rules.specs.Check.{Check, TypingState, and_then}
use Rattle.typing_rules.specs.Places.{unit, int, a_node_of, used, is_fixed, is_fixed_form, is_shared_root, is_shared_form, is_behind_shared, names_shared, in_own_guard, place_in_text}
use Rattle.typing_rules.specs.Promises.{IsReady, IsKnown, AreReady, Grows, Gives, at_spot, Knows, IsBase, Sound, SoundBase, SoundTemporary}
use Rattle.typing_rules.specs.RowPromises.{IsArgument, IsPlace, SoundReferrer}
use Rattle.typing_rules.specs.Rows.{Typer, store, no_reference, own_in, element, Referrer, argument, argument_by}
use Rattle.typing_rules.specs.Scope.{Env}
use Rattle.typing_rules.proofs.Sound.Branches.{unit_is}
use Rattle.typing_rules.proofs.Sound.Fitted.{fitted_gives, passed_ends, or_left, or_right, same_self}
use Rattle.typing_rules.proofs.Sound.Gives.{◌⋆◌, bind, given, obeyed, found, after_number, numbered, grows_trans, grows_refl, weaker, knows_later, knows_number}
use Rattle.typing_rules.proofs.Sound.Later.{alone_ready, in_later, same_known, same_reference, same_dyn, some_got}
use Rattle.typing_rules.proofs.Sound.Operators.{as_wanted, unit_ready, int_at, or_cases, same_id}
use Rattle.typing_rules.proofs.Sound.Places.{if_holds}

-- a base that is no reference by itself
pub record IsNamed (env : Env) (w : TypingState) (n : Node) : Type 0 where
  pub base : IsBase env w n
  pub no_reference : IsTrue (not (is_reference w.items (ty_of n)))

pub named_sound : (env : Env) (base : Check Node) → SoundBase env base → (s : TypingState) → Knows env s → Gives s (IsNamed
    env) (and_then (base s) no_reference)
named_sound env base good s k =
    bind (good s k) λ n t g d.
    obeyed Rule.T08 (place_in_text n) (not (is_reference t.items (ty_of n))) _ λ is.
    given n λ ready w l.
    record {
      base = d w l;
      no_reference = subst (λ b. IsTrue (not b)) (sym (same_reference l.items (ty_of n) (d t (grows_refl t)).ready)) is;
    }

-- ---- elements

usize_fits : (items : ItemTable) → AreReady items → (ty : TyId) → IsTrue (fits items (int IntKind.Usize) ty) → IsTrue
    (is_usize items ty || is_never items ty)
usize_fits items ready ty h = by (or_cases (is_same ty (int IntKind.Usize)) (is_never items ty) h)
  where
    has : IsTrue (is_usize items (int IntKind.Usize))
    has = subst (λ o. IsTrue (option_map_or (is_kind IntKind.Usize) o false)) (sym (ap (option_and_then kind_in) (int_at
        items ready IntKind.Usize))) refl

    by : IsTrue (is_same ty (int IntKind.Usize)) ⊎ IsTrue (is_never items ty) → IsTrue (is_usize items ty || is_never
        items ty)
    by (inl same) =
        or_left _ _ (subst (λ id. IsTrue (is_usize items id)) (sym (same_id ty (int IntKind.Usize) same)) has)
    by (inr never) = or_right (is_usize items ty) _ never

array_holds : (items : ItemTable) (base ty : TyId) (count : ℕ) → array_of items base ≡ Some (ty, count) → Holds (some
    (array_of items base) (λ (a : TyId × ℕ). fact (is_same ty a.0 && count == a.1)))
array_holds items base ty count h =
    subst (λ o. Holds (some o (λ (a : TyId × ℕ). fact (is_same ty a.0 && count == a.1)))) (sym h)
    (and_true _ _ (same_self ty.0) (same_self count))

element_ready : (items : ItemTable) → AreReady items → (base ty : TyId) (count : ℕ) → array_of items base ≡ Some (
  ty,
  count,
) → IsReady items ty
element_ready items all base ty count h =
    let known = some_got array_in (type_at items base) (ty, count) h in
    alone_ready items ty (all.held base ty known.0 known.1 (by known.0 known.2))
  where
    by : (t : Ty) → array_in t ≡ Some (ty, count) → Contains (held_by items t) ty
    by (Ty.Array element n) h = (0, omega arith, ap (λ (x : TyId × ℕ). x.0) (same_Some (element, n) (ty, count) h))
    by _ h = absurd (none-some (ty, count) h)

pub element_sound : (env : Env) (at : Pos) (base : Check Node) (index : Typer) → SoundBase env base → Sound env index →
    (s : TypingState) → Knows env s → Gives s (IsPlace env) (element at base index s)
element_sound env at base index good_base good_index s k =
    after_number (bind (named_sound env base good_base (numbered s) (knows_number env k)) λ b t g d.
    bind (good_index (Some (int IntKind.Usize)) t (knows_later env g (knows_number env k))) λ i u h e.
    found Rule.T03 at (array_of u.items (ty_of b)) _ λ a known.
    given _ λ ready w l.
    let base_ = (d w (grows_trans h l)).base in
    let is = in_later l.items array_in (ty_of b) a known in
    record {
      base = record {
        ready = element_ready w.items (l.ready ready) (ty_of b) a.0 a.1 is;
        holds = λ p stands. (
          refl,
          base_.holds p stands ⋆ (e w l).holds p stands ⋆ usize_fits w.items (l.ready ready)
              (ty_of i) (e w l).fit ⋆ array_holds w.items (ty_of b) a.0 a.1 is,
        );
        moves = λ p stands h. absurd (let no_ : IsTrue false = h in cc);
        is_fixed = λ v g. refl;
        is_shared = λ v g. base_.is_shared v g;
      };
      is = refl;
    })

-- ---- what is behind `&`

shared_same : (o : Option (Bool × TyId)) → well.names_shared o ≡ names_shared o
shared_same None = refl
shared_same (Some r) = refl

mutual
  root_same : (c : Context) (n : Node) → is_rooted c n ≡ is_shared_root c.items n
  root_same c (node id at ty by form) = root_form c ty form

  root_form : (c : Context) (ty : TyId) (form : Form) → is_rooted_by c ty form ≡ is_shared_form c.items ty form
  root_form c ty (Variable key) = shared_same (reference_of c.items ty)
  root_form c ty (Field base part) = root_same c base
  root_form c ty (Index base index count) = root_same c base
  root_form c ty (Deref base) = root_same c base
  root_form c ty _ = refl

-- a place behind `&`, used or not
pub behind_same : (c : Context) (by : Use) (n : Node) → well.is_behind_shared c (used by n) ≡ is_behind_shared c.items n
behind_same c by (node id at ty old form) = ap (λ b. is_place form && b) (root_form c ty form)

pub behind_later : (env : Env) (t w : TypingState) (n : Node) → IsBase env t n → Grows t w → is_behind_shared w.items n ≡
    is_behind_shared t.items n
behind_later env t w (node id at ty by form) base g = ap (λ b. is_place form && b) (base.is_shared w g)

-- ---- what is stored into

no_own : (c : Context) (guards : List ℕ) (form : Form) → (IsTrue (not (is_fixed_form c.items guards form)) → IsTrue
    (may_move_by c form)) → IsTrue (not (own_in guards form)) → IsTrue (not (is_own_binding c form))
no_own c guards (Variable key) = λ more h. more h
no_own c guards _ = λ more h. refl

stored_so : (a b : Bool) → IsTrue a → IsTrue b → IsTrue (a && is_by Use.Store (Some Use.Store) && b)
stored_so true b ha hb = hb
stored_so false b ha hb = absurd (cc)

stored_holds : (c : Context) (guards : List ℕ) (n : Node) → Holds (typed c Base n) → (IsTrue (not (is_fixed c.items
    guards n)) → IsTrue (may_move c n)) → is_place (form_of n) ≡ true → IsTrue (not (own_in guards (form_of n))) →
    IsTrue
    (not (is_reference c.items (ty_of n))) → IsTrue (not (is_dyn c.items (ty_of n))) → Holds (typed c Stored (used
    Use.Store n))
stored_holds c guards (node id at ty by form) base moves is own reference dyn = (
  stored_so (is_place form) _ is reference ⋆ no_own c guards form moves own ⋆ dyn,
  base.1,
)

pub used_ty : (by : Use) (n : Node) → ty_of (used by n) ≡ ty_of n
used_ty by (node id at ty old form) = refl

pub store_sound : (env : Env) (at : Pos) (place : Check Node) (value : Typer) → SoundBase env place → Sound env value →
    SoundTemporary env (store env at place value)
store_sound env at place value good_place good_value expected s k =
    after_number (bind (named_sound env place good_place (numbered s) (knows_number env k)) λ p t g d.
    bind (good_value (Some (ty_of p)) t (knows_later env g (knows_number env k))) λ v u h e.
    obeyed Rule.T03 at (not (is_dyn u.items (ty_of p))) _ λ dyn.
    bind (fitted_gives env expected (m s.next_node p v) u refl) λ n u' i f.
    obeyed Rule.T05 at (is_place (form_of p) && not (own_in (in_own_guard env.variables) (form_of p))) _ λ is.
    obeyed Rule.T08 (place_in_text p) (not (is_behind_shared u.items p)) _ λ shared.
    passed_ends env expected u' s.next_node at unit (tree.Assign (used Use.Store p) v) n refl (λ w q. refl) f λ w ready l.
    let on = grows_trans i l in
    let now = d u h in
    let dn = d w (grows_trans h on) in
    let ev = e w on in (
      unit_ready w.items ready,
      λ q stands.
          stored_holds (at_spot w.items env.answer q) (in_own_guard env.variables) p (dn.base.holds q stands)
          (dn.base.moves q
          stands) (true_left (is_place (form_of p)) _ is) (true_right (is_place (form_of p)) _ is) dn.no_reference
          (subst (λ b.
          IsTrue (not b)) (sym (same_dyn on.items (ty_of p) now.base.ready)) dyn) ⋆
          subst (λ b. IsTrue (not b)) (sym (behind_same (at_spot w.items env.answer q) Use.Store p ∙ behind_later env
          u w p
          now.base on)) shared ⋆
          as_wanted (at_spot w.items env.answer q) (ty_of (used Use.Store p)) v (ev.holds q stands) (subst (λ t.
          IsTrue (fits
          w.items t (ty_of v))) (sym (used_ty Use.Store p)) ev.fit) ⋆ unit_is w.items ready,
    ))
  where
    m : ℕ → Node → Node → Node
    m id p v = a_node_of id at unit (tree.Assign (used Use.Store p) v)

-- ---- arguments

-- a value that is passed for a parameter: no reference, or of type `!`
pub passed_value : (c : Context) (param : TyId) (n : Node) → IsTrue (not (is_reference c.items param)) → Holds (typed c
    Taken
    n) → IsTrue (fits c.items param (ty_of n)) → Holds (typed c (Passed param) n)
passed_value c param (node id at ty by form) no_reference h f =
    (else_by (is_reference c.items param) no_reference h.0 f, h.1)
  where
    else_by : (b : Bool) → IsTrue (not b) → Holds (well.is_taken c ty by form) → IsTrue (fits c.items param ty) → Holds
        (if b && not (is_never c.items ty) then fact (is_borrow form && is_none by && is_same ty param) else both
        (well.is_taken c ty by form) (fact (fits c.items param ty)))
    else_by true no_ h f = absurd (let no_one : IsTrue false = no_ in cc)
    else_by false no_ h f = (h, f)

-- a borrow of what the reference names
pub passed_borrow : (c : Context) (param : TyId) (id : ℕ) (at : Pos) (unique : Bool) (base : Node) → IsTrue
    (is_reference
    c.items param) → Holds (row c id param (tree.Borrow unique base)) → IsTrue (not (is_never c.items param)) → Holds
    (typed c (Passed param) (a_node_of id at param (tree.Borrow unique base)))
passed_borrow c param id at unique base is h no_never = (
  if_holds (is_reference c.items param && not (is_never c.items param)) (fact (is_same param param)) _ (and_true
      (is_reference c.items param) (not (is_never c.items param)) is no_never) (same_self param.0),
  h,
)

pub argument_sound : (env : Env) (param : TyId) (by_value : Typer) (by_reference : Referrer) → Sound env by_value →
    SoundReferrer env by_reference → (s : TypingState) → Knows env s → IsKnown s.items param → Gives s (IsArgument env param)
    (argument param by_value by_reference s)
argument_sound env param by_value by_reference good_value good_reference s k ready =
    by (reference_of s.items param) refl
  where
    by : (o : Option (Bool × TyId)) → reference_of s.items param ≡ o → Gives s (IsArgument env param) (argument_by param
        by_value by_reference o s)
    by None is =
        weaker (IsArgument env param) (good_value (Some param) s k) λ n w all g v.
        record {
          holds = λ p stands.
              passed_value (at_spot w.items env.answer p) param n
              (subst (λ b. IsTrue (not b)) (sym (ap is_some (same_known g.items reference_in param ready) ∙ ap is_some
              is)) refl)
              (v.holds p stands) v.fit;
        }
    by (Some r) is = good_reference param r.1 r.0 s k is
