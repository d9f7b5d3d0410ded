-- Places: variables, parts, elements, what boxes and references lead to; places that are taken.
use Rattle.std.proofs.Common.{◌≡◌, ℕ, zero, suc, Bool, true, false, ◌&&◌, ◌||◌, ◌==◌, not, if◌then◌else◌, List, [], ◌∷◌, Option, Some, None, IsTrue, Contains, ◌⊎◌, inl, inr, refl, ap, sym, subst, ◌∙◌, arith}
use Rattle.std.specs.Prelude.{is_none}
use Rattle.std.specs.Option.{option_map_or}
use Rattle.std.proofs.lemmas.Bool.{false≢true, true≢false}
use Rattle.mir_base.specs.declared.place_in_text.Pos.{Pos}
use Rattle.mir_base.specs.declared.rule.Rule.{Rule}
use Rattle.mir_ty.specs.declared.ty.TyId.{TyId}
use Rattle.mir_ty.specs.Facts.{is_copy}
use Rattle.mir_ty.specs.ItemTable.{ItemTable}
use Rattle.mir_ty.specs.Parts.{field_ty}
use Rattle.typed_tree.specs.declared.node.Use.{Use}
use Rattle.typed_tree.specs.Tree.{Node, node, Form, Variable, Captured, Field, Index, Deref}
use Rattle.well_typed.specs.Claim.{Claim, Holds, some, fact, both}
use Rattle.well_typed.specs.Nodes.{typed, is_leaf}
use Rattle.well_typed.specs.Places as well
use Rattle.well_typed.specs.Places.{InScope, Context, ty_of, form_of, is_place, is_borrow, is_by, is_use, may_move, may_move_by, is_guarded, is_rooted, is_rooted_by, entry_with, Taken, Base, Wanted, is_taken}
use Rattle.well_typed.specs.Types.{is_same, is_reference, is_dyn, inside_of, inside_in}
use Rattle.well_typed.proofs.ClaimLemmas.{and_true}
use Rattle.typing_rules.specs.Check.{Check, TypingState}
use Rattle.typing_rules.specs.Places.{a_node_of, used, is_any, is_fixed, is_fixed_form, is_shared_root, is_shared_form, names_shared, in_own_guard, guard_key, meaning_form, variable_place, place_in_text}
use Rattle.typing_rules.specs.Promises.{IsReady, IsAlone, AreReady, Grows, Gives, TypingSpot, at_spot, Means, Stands, Knows, IsValue, IsTemporary, IsBase, SoundBase}
use Rattle.typing_rules.specs.RowPromises.{IsPlace}
use Rattle.typing_rules.specs.Rows.{taking, taken, no_reference, deref}
use Rattle.typing_rules.specs.Scope.{Env, NamedEntry, VariableMeaning, Local, Capture, InGuard}
use Rattle.typing_rules.proofs.Sound.Fitted.{fitted_gives, or_left, or_right, same_self}
use Rattle.typing_rules.proofs.Sound.Gives.{◌⋆◌, bind, with_ready, given, obeyed, found, after_number, numbered, grows_trans, knows_number}
use Rattle.typing_rules.proofs.Sound.Later.{alone_ready, alone_from, alone_later, copy_no_dyn, ready_later, in_later, same_in, same_reference, same_dyn, same_copy}

pub not_true : (b : Bool) → IsTrue (not b) → b ≡ false
not_true true h = absurd (let no_ : IsTrue false = h in cc)
not_true false h = refl

pub truth_of : (b : Bool) → b ≡ false → IsTrue (not b)
truth_of true h = absurd (true≢false h)
truth_of false h = refl

pub contains_cases : {A : Type 0} (y : A) (ys : List A) (x : A) → Contains (y ∷ ys) x → (y ≡ x) ⊎ Contains ys x
contains_cases y ys x (zero, below, is) = inl is
contains_cases y ys x (suc k, below, is) = inr (k, omega (arith, below), is)

-- ---- what is no place

module _ (items : ItemTable) where
  pub no_root : (ty : TyId) (form : Form) → is_place form ≡ false → is_shared_form items ty form ≡ false
  no_root ty (Variable key) = λ h. absurd (true≢false h)
  no_root ty (Field base part) = λ h. absurd (true≢false h)
  no_root ty (Index base index count) = λ h. absurd (true≢false h)
  no_root ty (Deref base) = λ h. absurd (true≢false h)
  no_root ty _ = λ h. refl

  not_fixed : (guards : List ℕ) (form : Form) → is_place form ≡ false → is_fixed_form items guards form ≡ false
  not_fixed guards (Variable key) = λ h. absurd (true≢false h)
  not_fixed guards (Field base part) = λ h. absurd (true≢false h)
  not_fixed guards (Index base index count) = λ h. absurd (true≢false h)
  not_fixed guards (Deref base) = λ h. absurd (true≢false h)
  not_fixed guards _ = λ h. refl

moves_by : (c : Context) (form : Form) → is_place form ≡ false → IsTrue (may_move_by c form)
moves_by c (Variable key) = λ h. absurd (true≢false h)
moves_by c (Field base part) = λ h. absurd (true≢false h)
moves_by c (Index base index count) = λ h. absurd (true≢false h)
moves_by c (Deref base) = λ h. absurd (true≢false h)
moves_by c _ = λ h. refl

pub else_holds : (b : Bool) (x y : Claim) → b ≡ false → Holds (if b then x else y) → Holds y
else_holds true x y e h = absurd (true≢false e)
else_holds false x y e h = h

pub if_holds : (b : Bool) (x y : Claim) → b ≡ true → Holds x → Holds (if b then x else y)
if_holds true x y e h = h
if_holds false x y e h = absurd (true≢false (sym e))

abbrev place_taken : Context → TyId → Option Use → Form → Claim
place_taken c ty by form =
    both (fact (is_by (well.taking c.items ty) by)) (both (fact (is_copy c.items ty || (may_move_by c form && not
    (is_dyn
    c.items ty)))) (fact (not (is_reference c.items ty))))

temporary_holds : (c : Context) (n : Node) → is_place (form_of n) ≡ false → Holds (typed c Taken n) → Holds (typed c
    Base n)
temporary_holds c (node id at ty by form) h so =
    (else_holds (is_place form) (place_taken c ty by form) (fact (is_none by && not (is_borrow form))) h so.0, so.1)

fixed_none : (items : ItemTable) (guards : List ℕ) (n : Node) → is_place (form_of n) ≡ false → is_fixed items guards n
    ≡ false
fixed_none items guards (node id at ty by form) h = not_fixed items guards form h

root_none : (items : ItemTable) (n : Node) → is_place (form_of n) ≡ false → is_shared_root items n ≡ false
root_none items (node id at ty by form) h = no_root items ty form h

moves_none : (c : Context) (n : Node) → is_place (form_of n) ≡ false → IsTrue (may_move c n)
moves_none c (node id at ty by form) h = moves_by c form h

-- a value becomes a temporary, which may be gone through
pub temporary_base : (env : Env) (expected : Option TyId) (w : TypingState) (n : Node) → IsTemporary env expected w n → IsBase env w n
temporary_base env expected w n t =
    record {
      ready = alone_ready w.items (ty_of n) t.value.alone;
      holds = λ p stands. temporary_holds _ n t.is_no_place (t.value.holds p stands);
      moves = λ p stands h. moves_none (at_spot w.items env.answer p) n t.is_no_place;
      is_fixed = λ v g. fixed_none v.items _ n t.is_no_place ∙ sym (fixed_none w.items _ n t.is_no_place);
      is_shared = λ v g. root_none v.items n t.is_no_place ∙ sym (root_none w.items n t.is_no_place);
    }

-- ---- variables

guard_of : (xs : List NamedEntry) (x : NamedEntry) (key : ℕ) → Contains xs x → x.meaning ≡ InGuard key → IsTrue (is_any key
    (in_own_guard xs))
guard_of [] x key c e = absurd (omega (arith, c.1))
guard_of (y ∷ ys) x key c e = by (λ more. guard_of ys x key more e) (contains_cases y ys x c)
  where
    first : (m : VariableMeaning) → m ≡ InGuard key → IsTrue (is_any key (guard_key m (in_own_guard ys)))
    first m e = subst (λ m. IsTrue (is_any key (guard_key m (in_own_guard ys)))) (sym e) (or_left _ _ (same_self key))

    later : (m : VariableMeaning) → IsTrue (is_any key (in_own_guard ys)) → IsTrue (is_any key (guard_key m (in_own_guard ys)))
    later (InGuard other) h = or_right (key == other) _ h
    later (Local other) h = h
    later (Capture closure part) h = h

    by : (Contains ys x → IsTrue (is_any key (in_own_guard ys))) → (y ≡ x) ⊎ Contains ys x → IsTrue (is_any key
        (in_own_guard (y ∷ ys)))
    by on (inl same) = first y.meaning (ap (λ (z : NamedEntry). z.meaning) same ∙ e)
    by on (inr more) = later y.meaning (on more)

named_holds : (c : Context) (key : ℕ) (ty : TyId) (in_guard : Bool) → entry_with key c.entries ≡ Some (record {
  key =
      key;
  ty = ty;
  is_in_guard = in_guard;
}) → Holds (some (entry_with key c.entries) (λ (x : InScope). fact (is_same
    ty x.ty)))
named_holds c key ty in_guard e =
    subst (λ o. Holds (some o (λ (x : InScope). fact (is_same ty x.ty)))) (sym e) (same_self ty.0)

captured_holds : (c : Context) (closure part : ℕ) (ty : TyId) (x : InScope) → c.closure ≡ Some x → x.key ≡ closure →
    field_ty c.items x.ty 0 part ≡ Some ty → Holds (some c.closure (λ (x : InScope). both (fact (x.key == closure))
    (some (field_ty
    c.items x.ty 0 part) (λ t. fact (is_same ty t)))))
captured_holds c closure part ty x e k f =
    subst (λ o. Holds (some o (λ (x : InScope). both (fact (x.key == closure)) (some (field_ty c.items x.ty 0 part) (λ
    t. fact
    (is_same ty t)))))) (sym e)
    (subst (λ n. IsTrue (n == closure)) (sym k) (same_self closure) ⋆
    subst (λ o. Holds (some o (λ t. fact (is_same ty t)))) (sym f) (same_self ty.0))

pub variable_base : (env : Env) (w : TypingState) (id : ℕ) (at : Pos) (x : NamedEntry) (m : VariableMeaning) → m ≡ x.meaning → Contains
    env.variables x → IsReady w.items x.ty → IsBase env w (a_node_of id at x.ty (meaning_form x.name m))
variable_base env w id at x (Local key) e has ready =
    record {
      ready = ready;
      holds = λ p stands. (refl, named_holds (at_spot w.items env.answer p) key x.ty false (means p stands));
      moves = λ p stands h. subst (λ o. IsTrue (not (option_map_or (λ (y : InScope). y.is_in_guard) o false))) (sym
          (means p stands)) refl;
      is_fixed = λ v g. refl;
      is_shared = λ v g. ap names_shared (same_in g.items _ x.ty ready);
    }
  where
    means : (p : TypingSpot) → Stands env w p → Means w.items p x.ty (Local key)
    means p stands = subst (Means w.items p x.ty) (sym e) (stands.variables x has)
variable_base env w id at x (InGuard key) e has ready =
    record {
      ready = ready;
      holds = λ p stands. (refl, named_holds (at_spot w.items env.answer p) key x.ty true (means p stands));
      moves = λ p stands h. absurd (let is : is_any key (in_own_guard env.variables) ≡ true = guard_of env.variables x
          key has (sym e) in true≢false (sym is ∙ not_true _ h));
      is_fixed = λ v g. refl;
      is_shared = λ v g. ap names_shared (same_in g.items _ x.ty ready);
    }
  where
    means : (p : TypingSpot) → Stands env w p → Means w.items p x.ty (InGuard key)
    means p stands = subst (Means w.items p x.ty) (sym e) (stands.variables x has)
variable_base env w id at x (Capture closure part) e has ready =
    record {
      ready = ready;
      holds = λ p stands. let m : (y : InScope) × (p.closure ≡ Some y) × (y.key ≡ closure) × (field_ty w.items y.ty 0
          part ≡ Some x.ty) = means p stands in (
            refl,
            captured_holds (at_spot w.items env.answer p) closure part x.ty
                m.0 m.1 m.2 m.3,
          );
      moves = λ p stands h. refl;
      is_fixed = λ v g. refl;
      is_shared = λ v g. refl;
    }
  where
    means : (p : TypingSpot) → Stands env w p → Means w.items p x.ty (Capture closure part)
    means p stands = subst (Means w.items p x.ty) (sym e) (stands.variables x has)

meaning_is_place : (name : List ℕ) (m : VariableMeaning) → is_place (meaning_form name m) ≡ true
meaning_is_place name (Local key) = refl
meaning_is_place name (InGuard key) = refl
meaning_is_place name (Capture closure part) = refl

pub variable_sound : (env : Env) (at : Pos) (x : NamedEntry) → Contains env.variables x → (s : TypingState) → Knows env s → Gives
    s (IsPlace env) (variable_place at x s)
variable_sound env at x has s k =
    after_number (given _ λ ready w g.
    record {
      base = variable_base env w s.next_node at x x.meaning refl has (ready_later g.items x.ty (k.types x has));
      is = meaning_is_place x.name x.meaning;
    })

-- ---- what a box or a reference leads to

pub or_false : (a b : Bool) → IsTrue (not (a || b)) → IsTrue (not a) × IsTrue (not b)
or_false true b h = absurd (let no_ : IsTrue false = h in cc)
or_false false b h = (refl, h)

pub deref_base : (env : Env) (w : TypingState) (id : ℕ) (at : Pos) (ty : TyId) (b : Node) → AreReady w.items → IsBase env w
    b →
    inside_of w.items (ty_of b) ≡ Some ty → IsPlace env w (a_node_of id at ty (Deref b))
deref_base env w id at ty b all base is =
    record {
      base = record {
        ready = (all.inside (ty_of b) ty is).0;
        holds = λ p stands. (
          refl,
          (
            base.holds p stands,
            subst (λ o. Holds (some o (λ t. fact (is_same ty t)))) (sym is)
                (same_self ty.0),
          ),
        );
        moves = λ p stands h. let both_ = or_false _ _ h in and_true _ _ both_.0 (base.moves p stands both_.1);
        is_fixed = λ v g. λ i. same_reference g.items (ty_of b) base.ready i || base.is_fixed v g i;
        is_shared = λ v g. base.is_shared v g;
      };
      is = refl;
    }

pub deref_sound : (env : Env) (at : Pos) (base : Check Node) → SoundBase env base → (s : TypingState) → Knows env s → Gives
    s (IsPlace env) (deref at base s)
deref_sound env at base good s k =
    after_number (bind (good (numbered s) (knows_number env k)) λ b t g d.
    found Rule.T03 at (inside_of t.items (ty_of b)) _ λ ty h.
    given _ λ ready w l.
    deref_base env w s.next_node at ty b (l.ready ready) (d w l) (in_later l.items inside_in (ty_of b) ty h))

-- ---- a place that is taken

use_itself : (b : Bool) → IsTrue (is_by (if b then Use.Copy else Use.Move) (Some (if b then Use.Copy else Use.Move)))
use_itself true = refl
use_itself false = refl

taken_holds : (c : Context) (copies : Bool) (n : Node) → is_place (form_of n) ≡ true → Holds (typed c Base n) → is_copy
    c.items (ty_of n) ≡ copies → IsTrue (copies || (may_move c n && not (is_dyn c.items (ty_of n)))) → IsTrue (not
    (is_reference c.items (ty_of n))) → Holds (typed c Taken (used (if copies then Use.Copy else Use.Move) n))
taken_holds c copies (node id at ty old form) is base e moves no_ = (
  if_holds (is_place form) (place_taken c ty (Some (if copies then Use.Copy else Use.Move)) form) _ is
      (subst (λ b. IsTrue (is_by (if b then Use.Copy else Use.Move) (Some (if copies then Use.Copy else Use.Move))))
      (sym e)
      (use_itself copies) ⋆ subst (λ b. IsTrue (b || (may_move_by c form && not (is_dyn c.items ty)))) (sym e) moves ⋆
      no_),
  base.1,
)

used_base : (c : Context) (by : Use) (n : Node) → ty_of (used by n) ≡ ty_of n
used_base c by (node id at ty old form) = refl

same_leaf : (by : Use) (n : Node) → form_of (used by n) ≡ form_of n
same_leaf by (node id at ty old form) = refl

place_leaf : (form : Form) → is_place form ≡ true → IsTrue (is_leaf form)
place_leaf (Variable key) = λ h. refl
place_leaf (Captured closure part name) = λ h. refl
place_leaf (Field base part) = λ h. refl
place_leaf (Index base index count) = λ h. refl
place_leaf (Deref base) = λ h. refl
place_leaf _ = λ h. absurd (false≢true h)

or_grows : (a b c : Bool) → (IsTrue b → IsTrue c) → IsTrue (a || b) → IsTrue (a || c)
or_grows true b c more h = refl
or_grows false b c more h = more h

not_or_of : (fixed dyn moves dyn_later : Bool) → (IsTrue (not fixed) → IsTrue moves) → dyn_later ≡ dyn → IsTrue (not
    (fixed || dyn)) → IsTrue (moves && not dyn_later)
not_or_of fixed dyn moves dyn_later more same h =
    let both_ = or_false fixed dyn h in
    and_true moves (not dyn_later) (more both_.0) (subst (λ b. IsTrue (not b)) (sym same) both_.1)

-- a place that is used so, in a later state
pub taken_value : (env : Env) (t w : TypingState) (n : Node) → AreReady t.items → Grows t w → IsPlace env t n → IsBase env w
    n →
    IsTrue (is_copy t.items (ty_of n) || not (is_fixed t.items (in_own_guard env.variables) n || is_dyn t.items (ty_of
    n))) → IsTrue (not (is_reference t.items (ty_of n))) → IsValue env None w (used (taking t.items (ty_of n)) n)
taken_value env t w n all g now base moves no_reference =
    record {
      alone = subst (IsAlone w.items) (sym (used_base (at_spot w.items env.answer none) _ n)) (alone_later g.items
          (ty_of n)
          (alone_from t.items (ty_of n) now.base.ready (no_dyn (is_copy t.items (ty_of n)) (copy_no_dyn t.items (ty_of
          n))
          moves) no_reference));
      fit = refl;
      holds = λ p stands.
          taken_holds (at_spot w.items env.answer p) (is_copy t.items (ty_of n)) n now.is (base.holds p stands)
          (same_copy g.items all (ty_of n) now.base.ready)
          (or_grows (is_copy t.items (ty_of n)) _ _ (not_or_of (is_fixed t.items (in_own_guard env.variables) n) (is_dyn
          t.items (ty_of n)) _ _
          (λ h. base.moves p stands (subst (λ b. IsTrue (not b)) (sym (now.base.is_fixed w g)) h))
          (same_dyn g.items (ty_of n) now.base.ready)) moves)
          (subst (λ b. IsTrue (not b)) (sym (same_reference g.items (ty_of n) now.base.ready)) no_reference);
    }
  where
    no_dyn : (copies : Bool) → (IsTrue copies → IsTrue (not (is_dyn t.items (ty_of n)))) → IsTrue (copies || not
        (is_fixed t.items (in_own_guard env.variables) n || is_dyn t.items (ty_of n))) → IsTrue (not (is_dyn t.items
        (ty_of n)))
    no_dyn true h moves = h refl
    no_dyn false h moves = (or_false _ _ moves).1

    none : TypingSpot
    none = record { entries = []; closure = None; loops = [] }

pub taken_sound : (env : Env) (expected : Option TyId) (n : Node) (t : TypingState) → IsPlace env t n → ((w : TypingState) → Grows t w
    → IsPlace env w n) → Gives t (IsValue env expected) (taken env expected n t)
taken_sound env expected n t now later =
    with_ready λ ready. bind (fitted_gives env expected m t (subst (λ f. IsTrue (is_leaf f)) (sym (same_leaf _ n))
    (place_leaf (form_of n)
    now.is))) λ v u g d.
    obeyed Rule.T07 (place_in_text n) (is_copy t.items (ty_of n) || not (is_fixed t.items (in_own_guard env.variables) n
    || is_dyn t.items (ty_of n))) _ λ moves.
    obeyed Rule.T08 (place_in_text n) (not (is_reference t.items (ty_of n))) _ λ no_reference_.
    given v λ all w l. (d w l (taken_value env t w n ready (grows_trans g l) now (later w (grows_trans g l)).base moves
    no_reference_)).0
  where
    m : Node
    m = used (taking t.items (ty_of n)) n
