-- What passes its required type: a leaf, which may be coerced, and what has passed its required type on.
use Rattle.std.proofs.Common.{◌≡◌, ℕ, Bool, true, false, ◌&&◌, ◌||◌, ◌==◌, if◌then◌else◌, Option, Some, None, Ok, IsTrue, refl, ap, sym, subst, ◌∙◌, arith}
use Rattle.std.specs.Prelude.{option_and_then}
use Rattle.std.specs.List.{list_any}
use Rattle.std.proofs.lemmas.Grind.{common_steps}
use Rattle.std.proofs.lemmas.Option.{none-some}
use Rattle.mir_base.specs.declared.place_in_text.Pos.{Pos}
use Rattle.mir_base.specs.declared.rule.Rule.{Rule}
use Rattle.mir_ty.specs.declared.ty.Ty.{Ty}
use Rattle.mir_ty.specs.declared.ty.TyId.{TyId}
use Rattle.mir_ty.specs.ItemTable.{ItemTable, type_at}
use Rattle.typed_tree.specs.Tree as tree
use Rattle.typed_tree.specs.Tree.{Node, node, Form}
use Rattle.well_typed.specs.Claim.{Holds}
use Rattle.well_typed.specs.Nodes.{row, is_leaf, box_implements}
use Rattle.well_typed.specs.Places.{ty_of, form_of, is_place, is_taken}
use Rattle.well_typed.specs.Types.{fits, adt_of, adt_in, boxed_of, boxed_in, trait_of, dyn_in, implements}
use Rattle.well_typed.proofs.ClaimLemmas.{and_true}
use Rattle.typing_rules.specs.Check.{TypingState}
use Rattle.typing_rules.specs.Places.{Fit, Fits, Coerced, Differs, fit, coerced, agrees, place_in_text, a_node_of}
use Rattle.typing_rules.specs.Promises.{Extends, IsAlone, IsValueType, AreReady, Grows, Fact, Gives, TypingSpot, at_spot, Stands, IsValue, IsTemporary}
use Rattle.typing_rules.specs.Rows.{fitted, fitted_by, settled}
use Rattle.typing_rules.specs.Scope.{Env}
use Rattle.typing_rules.proofs.Sound.Gives.{◌⋆◌, given, after_number, obeyed, weaker, gives_nothing}
use Rattle.typing_rules.proofs.Sound.Later.{some_got, passes_by, in_later, agrees_later, alone_later}

pub same_self : (n : ℕ) → IsTrue (n == n)
same_self n = grind (arith, common_steps)

pub or_left : (a b : Bool) → IsTrue a → IsTrue (a || b)
or_left true b h = refl
or_left false b h = absurd (cc)

pub or_right : (a b : Bool) → IsTrue b → IsTrue (a || b)
or_right true b h = refl
or_right false b h = h

pub fits_self : (items : ItemTable) (ty : TyId) → IsTrue (fits items ty ty)
fits_self items ty = or_left (ty.0 == ty.0) _ (same_self ty.0)

-- ---- a box that is coerced

abbrev trait_in_box : ItemTable → TyId → Option ℕ
trait_in_box items ty = option_and_then (trait_of items) (boxed_of items ty)

abbrev adt_in_box : ItemTable → TyId → Option ℕ
adt_in_box items ty = option_and_then (adt_of items) (boxed_of items ty)

pub data FitOf (items : ItemTable) (expected ty : TyId) : Fit → Type 0 where
  it_fits : IsTrue (fits items expected ty) → FitOf items expected ty Fits
  is_coerced : {trait_no : ℕ} (adt : ℕ) → trait_in_box items expected ≡ Some trait_no → adt_in_box items ty ≡ Some adt →
      IsTrue (implements items adt trait_no) → FitOf items expected ty (Coerced trait_no)
  differs : FitOf items expected ty Differs

module _ (items : ItemTable) (expected ty : TyId) where
  implemented_by : (trait_no adt : ℕ) → trait_in_box items expected ≡ Some trait_no → adt_in_box items ty ≡ Some adt →
      (b : Bool) → b ≡ implements items adt trait_no → FitOf items expected ty (if b then Coerced trait_no else Differs)
  implemented_by trait_no adt to from true h = is_coerced adt to from (sym h)
  implemented_by trait_no adt to from false h = differs

  coerced_of : (t a : Option ℕ) → trait_in_box items expected ≡ t → adt_in_box items ty ≡ a → FitOf items expected ty (coerced
      items t a)
  coerced_of (Some trait_no) (Some adt) to from = implemented_by trait_no adt to from _ refl
  coerced_of (Some trait_no) None to from = differs
  coerced_of None a to from = differs

  fit_if : (b : Bool) → b ≡ fits items expected ty → FitOf items expected ty (if b then Fits else coerced items (trait_in_box
      items expected) (adt_in_box items ty))
  fit_if true h = it_fits (sym h)
  fit_if false h = coerced_of _ _ refl refl

  pub how_fits : FitOf items expected ty (fit items expected ty)
  how_fits = fit_if _ refl

module _ {old new : ItemTable} (e : Extends old new) where
  trait_later : (ty : TyId) (n : ℕ) → trait_in_box old ty ≡ Some n → trait_in_box new ty ≡ Some n
  trait_later ty n h =
      let known = some_got (trait_of old) (boxed_of old ty) n h in
      ap (option_and_then (trait_of new)) (in_later e boxed_in ty known.0 known.1) ∙ in_later e dyn_in known.0 n known.2

  adt_later : (ty : TyId) (n : ℕ) → adt_in_box old ty ≡ Some n → adt_in_box new ty ≡ Some n
  adt_later ty n h =
      let known = some_got (adt_of old) (boxed_of old ty) n h in
      ap (option_and_then (adt_of new)) (in_later e boxed_in ty known.0 known.1) ∙ in_later e adt_in known.0 n known.2

  implements_later : (adt trait_no : ℕ) → IsTrue (implements old adt trait_no) → IsTrue (implements new adt trait_no)
  implements_later adt trait_no h =
      subst (λ impls. IsTrue (list_any (λ def. def.trait_no == trait_no && def.adt == adt) impls)) (sym e.impls) h

  box_later : (expected ty : TyId) (trait_no adt : ℕ) → trait_in_box old expected ≡ Some trait_no → adt_in_box old ty ≡ Some
      adt → IsTrue (implements old adt trait_no) → IsTrue (box_implements new expected ty trait_no)
  box_later expected ty trait_no adt to from has =
      and_true _ _
      (passes_by (λ n. n == trait_no) (trait_in_box new expected) trait_no (trait_later expected trait_no to) (same_self
      trait_no))
      (passes_by (λ a. implements new a trait_no) (adt_in_box new ty) adt (adt_later ty adt from) (implements_later
      adt trait_no has))

box_there : (items : ItemTable) (inside : TyId) (ty : Ty) → boxed_in ty ≡ Some inside → IsValueType items ty
box_there items inside (Ty.Boxed content) h = tt
box_there items inside _ h = absurd (none-some inside h)

pub boxed_alone : (items : ItemTable) (id inside : TyId) → boxed_of items id ≡ Some inside → IsAlone items id
boxed_alone items id inside h =
    let known = some_got boxed_in (type_at items id) inside h in
    (known.0, known.1, box_there items inside known.0 known.2)

-- ---- a leaf

-- a value stays one, and what is no place stays none
abbrev pub Passed : Env → Option TyId → Node → Fact Node
Passed env expected n w m =
    IsValue env None w n → IsValue env expected w m × (is_place (form_of n) ≡ false → is_place (form_of m) ≡ false)

fitted_so : (env : Env) (expected : TyId) (n : Node) (s : TypingState) (how : Fit) → FitOf s.items expected (ty_of n) how → IsTrue
    (is_leaf (form_of n)) → Gives s (Passed env (Some expected) n) (fitted_by expected n how s)
fitted_so env expected n s _ (it_fits fit_) leaf =
    given n λ ready w g v.
    (record { alone = v.alone; fit = agrees_later g.items (Some expected) (ty_of n) fit_; holds = v.holds }, λ h. h)
fitted_so env expected n s _ (is_coerced {trait_no} adt to from has) leaf =
    after_number (given (a_node_of s.next_node (place_in_text n) expected (tree.Unsize trait_no n)) λ ready w g v.
    let box = some_got (trait_of s.items) (boxed_of s.items expected) trait_no to in (
      record {
        alone = alone_later g.items expected (boxed_alone s.items expected box.0 box.1);
        fit = fits_self w.items expected;
        holds = λ p stands. refl ⋆ v.holds p stands ⋆ leaf ⋆ box_later g.items expected (ty_of n) trait_no adt to from has;
      },
      λ h. refl,
    ))
fitted_so env expected n s _ differs leaf = gives_nothing Rule.T03 (place_in_text n)

pub fitted_gives : (env : Env) (expected : Option TyId) (n : Node) (s : TypingState) → IsTrue (is_leaf (form_of n)) → Gives s
    (Passed env expected n) (fitted expected n s)
fitted_gives env None n s leaf = given n λ ready w g v. (v, λ h. h)
fitted_gives env (Some expected) n s leaf = fitted_so env expected n s _ (how_fits s.items expected (ty_of n)) leaf

-- ---- the end of a row

-- what a node is, apart from its number and place in the text
abbrev pub Is : Env → TypingState → ℕ → TyId → Form → Type 0
Is env w id ty form = (p : TypingSpot) → Stands env w p → Holds (row (at_spot w.items env.answer p) id ty form)

-- a value that is no place, of a form that is never used, before its required type is asked for
abbrev pub IsPlain : Env → TypingState → TyId → Form → Type 0
IsPlain env w ty form = (p : TypingSpot) → Holds (is_taken (at_spot w.items env.answer p) ty None form)

-- a row that ends with a leaf
pub leaf_ends : (env : Env) (expected : Option TyId) (t : TypingState) (id : ℕ) (at : Pos) (ty : TyId)
    (form : Form) → IsTrue (is_leaf form) → is_place form ≡ false → ((w : TypingState) → IsPlain env w ty form) → ((w :
    TypingState) → AreReady w.items → Grows t w → IsAlone w.items ty × Is env w id ty form) → Gives t
    (IsTemporary env expected) (fitted expected (a_node_of id at ty form) t)
leaf_ends env expected t id at ty form leaf placeless plain is =
    weaker (IsTemporary env expected) (fitted_gives env expected n t leaf)
    λ m w ready g passed.
    let so = is w ready g in
    let v : IsValue env None w n = record { alone = so.0; fit = refl; holds = λ p stands. (plain w p, so.1 p stands) }
    in
    record { value = (passed v).0; is_no_place = (passed v).1 placeless }
  where
    n : Node
    n = a_node_of id at ty form

-- a row that ends with what has passed its required type on
pub settled_ends : (env : Env) (expected : Option TyId) (t : TypingState) (id : ℕ) (at : Pos) (ty : TyId)
    (form : Form) → is_place form ≡ false → ((w : TypingState) → IsPlain env w ty form) → ((w : TypingState) → AreReady w.items →
    Grows t w → IsAlone w.items ty × Is env w id ty form) → Gives t (IsTemporary env expected) (settled
    expected (a_node_of id at ty form) t)
settled_ends env expected t id at ty form placeless plain is =
    obeyed Rule.T03 at (agrees t.items expected ty) _ λ fit_.
    given n λ sound w g.
    let so = is w (g.ready sound) g in
    record {
      value = record {
        alone = so.0;
        fit = agrees_later g.items expected ty fit_;
        holds = λ p stands. (plain w p, so.1 p stands);
      };
      is_no_place = placeless;
    }
  where
    n : Node
    n = a_node_of id at ty form

-- a row that asks for more once a leaf has passed
pub passed_ends : (env : Env) (expected : Option TyId) (u : TypingState) (id : ℕ) (at : Pos) (ty : TyId) (form : Form) (m :
    Node) → is_place form ≡ false → ((w : TypingState) → IsPlain env w ty form) → ((w : TypingState) → Grows u w → Passed env expected
    (a_node_of id at ty form) w m) → ((w : TypingState) → AreReady w.items → Grows u w → IsAlone w.items ty × Is env w id ty
    form) → Gives u (IsTemporary env expected) (Ok (m, u))
passed_ends env expected u id at ty form m placeless plain d is =
    given m λ sound w g.
    let so = is w (g.ready sound) g in
    let passed = d w g record { alone = so.0; fit = refl; holds = λ p stands. (plain w p, so.1 p stands) } in
    record { value = passed.0; is_no_place = passed.1 placeless }
