-- Borrows, and references that are passed on.
use Rattle.std.proofs.Common.{◌≡◌, ℕ, suc, Bool, true, false, ◌&&◌, ◌||◌, not, if◌then◌else◌, Option, Some, None, IsTrue, Contains, refl, ap, sym, subst, ◌∙◌, arith}
use Rattle.std.specs.Prelude.{option_and_then, is_some, is_none}
use Rattle.std.specs.Option.{option_map_or}
use Rattle.std.proofs.lemmas.Option.{none-some, same_Some}
use Rattle.mir_base.specs.declared.place_in_text.Pos.{Pos}
use Rattle.mir_base.specs.declared.rule.Rule.{Rule}
use Rattle.mir_ty.specs.declared.ty.Ty.{Ty}
use Rattle.mir_ty.specs.declared.ty.TyId.{TyId}
use Rattle.mir_ty.specs.ItemTable.{ItemTable, type_at}
use Rattle.typed_tree.specs.declared.node.Use.{Use}
use Rattle.typed_tree.specs.Tree as tree
use Rattle.typed_tree.specs.Tree.{Node, node, Form, Deref}
use Rattle.well_typed.specs.Claim.{Holds, some, fact, both}
use Rattle.well_typed.specs.Nodes.{typed}
use Rattle.well_typed.specs.Places as well
use Rattle.well_typed.specs.Places.{Context, ty_of, form_of, is_place, is_borrow, is_by, is_use, Base, Used, Passed}
use Rattle.well_typed.specs.Types.{is_same, is_never_ty, is_reference, reference_of, reference_in, inside_of, inside_in}
use Rattle.well_typed.proofs.ClaimLemmas.{and_true, true_left, true_right}
use Rattle.typing_rules.specs.Check.{Check, TypingState}
use Rattle.typing_rules.specs.Places.{a_node_of, is_behind_shared, is_shared_root, names_shared, meaning_form, place_in_text}
use Rattle.typing_rules.specs.Promises.{IsReady, AreReady, Grows, Gives, at_spot, IsBase, SoundBase}
use Rattle.typing_rules.specs.RowPromises.{IsArgument, IsMade, SoundReferrer}
use Rattle.typing_rules.specs.Rows.{borrow, borrow_of, borrow_by, reference_ty, used_if_place, is_same_truth, passed_on, passes, is_unique_borrow}
use Rattle.typing_rules.specs.Scope.{Env, NamedEntry, VariableMeaning, Local, Capture, InGuard}
use Rattle.typing_rules.proofs.Sound.Arguments.{named_sound, passed_borrow, behind_same, behind_later}
use Rattle.typing_rules.proofs.Sound.Fitted.{same_self}
use Rattle.typing_rules.proofs.Sound.Gives.{◌⋆◌, bind, weaker, with_ready, given, obeyed, after_number, numbered, grows_trans, grows_refl, knows_number}
use Rattle.typing_rules.proofs.Sound.Interned.{interned_sound}
use Rattle.typing_rules.proofs.Sound.Later.{ready_later, type_later, in_later, same_reference, some_got}
use Rattle.typing_rules.proofs.Sound.Operators.{same_id}
use Rattle.typing_rules.proofs.Sound.Places.{variable_base, deref_base, truth_of}

-- ---- a place that is used so, and a value that becomes a temporary

use_self : (by : Use) → IsTrue (is_by by (Some by))
use_self Use.Move = refl
use_self other = refl

pub used_holds : (c : Context) (by : Use) (n : Node) → Holds (typed c Base n) → IsTrue (not (is_reference c.items (ty_of
    n))) → Holds (typed c (Used by) (used_if_place by n))
used_holds c by (node id at ty old form) base no_reference = so (is_place form) refl
  where
    so : (b : Bool) → is_place form ≡ b → Holds (typed c (Used by) (if b then node id at ty (Some by) form else node
        id at
        ty old form))
    so true is = (
      and_true _ (not (is_reference c.items ty)) (subst (λ b. IsTrue (if b then is_by by (Some by) else is_none (Some
          by) && not (is_borrow form))) (sym is) (use_self by)) no_reference,
      base.1,
    )
    so false is = (
      and_true _ (not (is_reference c.items ty)) (subst (λ b. IsTrue (if b then is_by by old else is_none old && not
          (is_borrow form))) (sym is) base.0) no_reference,
      base.1,
    )

pub used_type : (by : Use) (n : Node) → ty_of (used_if_place by n) ≡ ty_of n
used_type by (node id at ty old form) = so (is_place form)
  where
    so : (b : Bool) → ty_of (if b then node id at ty (Some by) form else node id at ty old form) ≡ ty
    so true = refl
    so false = refl

used_shared : (c : Context) (by : Use) (n : Node) → well.is_behind_shared c (used_if_place by n) ≡ is_behind_shared
    c.items
    n
used_shared c by (node id at ty old form) = so (is_place form) ∙ behind_same c by (node id at ty old form)
  where
    so : (b : Bool) → well.is_behind_shared c (if b then node id at ty (Some by) form else node id at ty old form) ≡
        well.is_behind_shared c (node id at ty (Some by) form)
    so true = refl
    so false = refl

-- ---- references

pub reference_made : (items : ItemTable) (unique : Bool) (to : TyId) → IsReady items to → IsTrue (not (is_reference
    items
    to))
    → IsMade items (reference_ty unique to)
reference_made items true to ready no_reference =
    record {
      held = λ part has. absurd (omega (arith, has.1));
      parts = λ part variant n is. absurd (none-some part is);
      inside = λ t is. subst (λ u. IsReady items u × IsTrue (not (is_reference items u))) (same_Some to t is) (
        ready,
        no_reference,
      );
    }
reference_made items false to ready no_reference =
    record {
      held = λ part has. absurd (omega (arith, has.1));
      parts = λ part variant n is. absurd (none-some part is);
      inside = λ t is. subst (λ u. IsReady items u × IsTrue (not (is_reference items u))) (same_Some to t is) (
        ready,
        no_reference,
      );
    }

reference_is : (ty : Ty) (unique : Bool) (to : TyId) → reference_in ty ≡ Some (unique, to) → ty ≡ reference_ty unique to
reference_is (Ty.Shared t) unique to h =
    let same = same_Some (false, t) (unique, to) h in ap (λ (r : Bool × TyId). reference_ty r.0 r.1) same
reference_is (Ty.Unique t) unique to h =
    let same = same_Some (true, t) (unique, to) h in ap (λ (r : Bool × TyId). reference_ty r.0 r.1) same
reference_is _ unique to h = absurd (none-some (unique, to) h)

pub reference_type : (items : ItemTable) (id : TyId) (unique : Bool) (to : TyId) → reference_of items id ≡ Some (
  unique,
  to,
) → type_at items id ≡ Some (reference_ty unique to)
reference_type items id unique to h =
    let known = some_got reference_in (type_at items id) (unique, to) h in
    known.1 ∙ ap Some (reference_is known.0 unique to known.2)

never_no : (unique : Bool) (to : TyId) → is_never_ty (reference_ty unique to) ≡ false
never_no true to = refl
never_no false to = refl

reference_back : (unique : Bool) (to : TyId) → reference_in (reference_ty unique to) ≡ Some (unique, to)
reference_back true to = refl
reference_back false to = refl

pub inside_reference : (items : ItemTable) (id : TyId) (unique : Bool) (to : TyId) → reference_of items id ≡ Some (
  unique,
  to,
) → inside_of items id ≡ Some to
inside_reference items id unique to h =
    ap (option_and_then inside_in) (reference_type items id unique to h) ∙ by unique
  where
    by : (unique : Bool) → inside_in (reference_ty unique to) ≡ Some to
    by true = refl
    by false = refl

truth_same : (a b : Bool) → IsTrue (is_same_truth a b) → a ≡ b
truth_same true true h = refl
truth_same false false h = refl
truth_same true false h = absurd (let no_ : IsTrue false = h in cc)
truth_same false true h = absurd (let no_ : IsTrue false = h in cc)

own_truth : (unique : Bool) → IsTrue (if unique then unique else not unique)
own_truth true = refl
own_truth false = refl

-- a borrow of what is no reference; one by `&mut` has to be not behind `&`
pub borrowed_if : (env : Env) (id : ℕ) (at : Pos) (param : TyId) (unique : Bool) (b : Node) (s : TypingState) →
    ((w : TypingState) → Grows s w → IsBase env w b) → IsTrue (not (is_reference s.items (ty_of b))) →
    reference_of s.items param ≡ Some (unique, ty_of b) → Gives s (λ w n. (is_unique_borrow (form_of n) ≡ unique) ×
    (IsTrue
    (not (unique && is_behind_shared s.items b)) → IsArgument env param w n)) (borrow_of id at unique b s)
borrowed_if env id at param unique b s base no_reference is =
    bind (interned_sound (reference_ty unique (ty_of b)) s (reference_made s.items unique (ty_of b) (base s (grows_refl
    s)).ready no_reference)) λ ty t g d.
    given _ λ all w l.
    let on = grows_trans g l in
    let here_ = type_later on.items param (reference_ty unique (ty_of b)) (reference_type s.items param unique (ty_of
    b) is)
    in
    let number = (l.ready all).distinct param.0 ty.0 (reference_ty unique (ty_of b)) here_ (d w l) in
    let same : param ≡ ty = λ i. record { 0 = number i } in
    let of = ap (option_and_then reference_in) here_ ∙ reference_back unique (ty_of b) in (
      refl,
      λ shared. subst (λ u. IsArgument env param w (a_node_of id at u (tree.Borrow unique (used_if_place (borrow_by
          unique) b)))) same
          (record {
            holds = λ p stands.
                let c = at_spot w.items env.answer p in
                passed_borrow c param id at unique (used_if_place (borrow_by unique) b)
                (subst (λ o. IsTrue (is_some o)) (sym of) refl)
                (used_holds c (borrow_by unique) b ((base w on).holds p stands) (subst (λ x. IsTrue (not x)) (sym
                (same_reference
                on.items (ty_of b) (base s (grows_refl s)).ready)) no_reference) ⋆
                subst (λ x. IsTrue (not (unique && x))) (sym (used_shared c (borrow_by unique) b ∙ behind_later env s
                w b
                (base s
                (grows_refl s)) on)) shared ⋆
                subst (λ o. Holds (some o (λ (r : Bool × TyId). both (fact (is_same (ty_of (used_if_place (borrow_by
                unique)
                b))
                r.1)) (fact (if unique then r.0 else not r.0))))) (sym of) (subst (λ u. IsTrue (is_same u (ty_of b)))
                (sym
                (used_type (borrow_by unique) b)) (same_self (ty_of b).0) ⋆ own_truth unique))
                (subst (λ o. IsTrue (not (option_map_or is_never_ty o false))) (sym here_) (truth_of _ (never_no
                unique (ty_of
                b))));
          }),
    )

pub borrowed : (env : Env) (id : ℕ) (at : Pos) (param : TyId) (unique : Bool) (b : Node) (s : TypingState) →
    ((w : TypingState) → Grows s w → IsBase env w b) → IsTrue (not (is_reference s.items (ty_of b))) →
    IsTrue (not (unique && is_behind_shared s.items b)) → reference_of s.items param ≡ Some (unique, ty_of b) →
    Gives s (IsArgument env param) (borrow_of id at unique b s)
borrowed env id at param unique b s base no_reference shared is =
    weaker (IsArgument env param) (borrowed_if env id at param unique b s base no_reference is) λ n w ready g h. h.1
    shared

pub borrow_sound : (env : Env) (at : Pos) (unique : Bool) (base : Check Node) → SoundBase env base → SoundReferrer env
    (borrow at unique base)
borrow_sound env at unique base good param to is_unique s k is =
    after_number (bind (named_sound env base good (numbered s) (knows_number env k)) λ b t g d.
    obeyed Rule.T03 at (is_same (ty_of b) to && is_same_truth unique is_unique) _ λ same.
    obeyed Rule.T08 (place_in_text b) (not (unique && is_behind_shared t.items b)) _ λ shared.
    let to_same = same_id (ty_of b) to (true_left (is_same (ty_of b) to) _ same) in
    let unique_same = truth_same unique is_unique (true_right (is_same (ty_of b) to) _ same) in
    borrowed env s.next_node at param unique b t (λ w l. (d w l).base) (d t (grows_refl t)).no_reference shared
    (in_later g.items reference_in param (is_unique, to) is ∙ λ i. Some (sym unique_same i, sym to_same i)))

-- ---- a reference variable that is passed on

-- the root of what a variable names is no `&`, where `&mut` is asked for
root_of : (items : ItemTable) (id : ℕ) (at : Pos) (x : NamedEntry) (m : VariableMeaning) (r : Bool × TyId) → reference_of items
    x.ty ≡
    Some r → IsTrue r.0 → is_shared_root items (a_node_of id at x.ty (meaning_form x.name m)) ≡ false
root_of items id at x (Local key) r is h = ap names_shared is ∙ ap not h
root_of items id at x (InGuard key) r is h = ap names_shared is ∙ ap not h
root_of items id at x (Capture closure part) r is h = refl

or_not : (a b : Bool) → IsTrue (a || not b) → IsTrue b → IsTrue a
or_not true b h g = refl
or_not false b h g = absurd (by b h g)
  where
    by : (b : Bool) → IsTrue (not b) → IsTrue b → ⊥
    by true h g = let no_ : IsTrue false = h in cc
    by false h g = let no_ : IsTrue false = g in cc

not_shared : (unique : Bool) (r root : Bool) → IsTrue (r || not unique) → (IsTrue r → root ≡ false) → IsTrue (not
    (unique
    && root))
not_shared true r root h none = truth_of root (none (or_not r true h refl))
not_shared false r root h none = refl

pub passed_on_sound : (env : Env) (at : Pos) (x : NamedEntry) → Contains env.variables x → SoundReferrer env (passed_on at x)
passed_on_sound env at x has param to is_unique s k is =
    obeyed Rule.T03 at (passes is_unique to (reference_of s.items x.ty)) _ λ ok.
    with_ready λ all. after_number (after_number (after_number (by all (reference_of s.items x.ty) refl ok)))
  where
    t : TypingState
    t = numbered (numbered (numbered s))

    v : Node
    v = a_node_of (suc (suc s.next_node)) at x.ty (meaning_form x.name x.meaning)

    n : Node
    n = a_node_of (suc s.next_node) at to (Deref v)

    by : AreReady s.items → (o : Option (Bool × TyId)) → reference_of s.items x.ty ≡ o → IsTrue (passes is_unique to
        o) →
        Gives t (IsArgument env param) (borrow_of s.next_node at is_unique n t)
    by all None e ok = absurd (let no_ : IsTrue false = ok in cc)
    by all (Some r) e ok =
        let same = same_id r.1 to (true_left (is_same r.1 to) _ ok) in
        let names : reference_of s.items x.ty ≡ Some (r.0, to) = e ∙ λ i. Some (r.0, same i) in
        let inside = all.inside x.ty to (inside_reference s.items x.ty r.0 to names) in
        borrowed env s.next_node at param is_unique n t
        (λ w l. (deref_base env w (suc s.next_node) at to v (l.ready all)
        (variable_base env w (suc (suc s.next_node)) at x x.meaning refl has (ready_later l.items x.ty (k.types x has)))
        (inside_reference w.items x.ty r.0 to (in_later l.items reference_in x.ty (r.0, to) names))).base)
        inside.1
        (not_shared is_unique r.0 (is_shared_root s.items v) (true_right (is_same r.1 to) _ ok)
        (λ h. root_of s.items (suc (suc s.next_node)) at x x.meaning (r.0, to) names h)) is
