-- Operators, literals and leaves.
use Rattle.std.proofs.Common.{◌≡◌, ℕ, Bool, true, false, ◌&&◌, ◌||◌, if◌then◌else◌, Option, Some, None, IsTrue, ◌⊎◌, inl, inr, refl, ap, sym, subst, ◌∙◌}
use Rattle.std.specs.Prelude.{option_and_then}
use Rattle.std.specs.Option.{option_map_or}
use Rattle.std.proofs.lemmas.Bool.{eqb-true}
use Rattle.std.proofs.lemmas.Option.{none-some, same_Some}
use Rattle.mir_base.specs.declared.int_kind.IntKind.{IntKind}
use Rattle.mir_base.specs.declared.operator.Cmp.{Cmp}
use Rattle.mir_base.specs.declared.operator.Math.{Math}
use Rattle.mir_base.specs.declared.place_in_text.Pos.{Pos}
use Rattle.mir_base.specs.declared.rule.Rule.{Rule}
use Rattle.mir_ty.specs.declared.ty.Ty.{Ty}
use Rattle.mir_ty.specs.declared.ty.TyId.{TyId}
use Rattle.mir_ty.specs.ItemTable.{ItemTable, type_at}
use Rattle.typed_tree.specs.Tree as tree
use Rattle.typed_tree.specs.Tree.{Node, node, Form}
use Rattle.well_typed.specs.Claim.{Holds}
use Rattle.well_typed.specs.Nodes.{typed, row, is_leaf, fits_bool, are_operands, int_or_bool as well_int_or_bool}
use Rattle.well_typed.specs.Places.{Context, ty_of, is_place, Taken, Wanted}
use Rattle.well_typed.specs.Types.{fits, is_same, is_bool, is_bool_ty, is_never, is_never_ty, is_int, kind_of, kind_in, is_signed, is_signed_kind}
use Rattle.well_typed.proofs.ClaimLemmas.{and_true, true_left, true_right}
use Rattle.typing_rules.specs.Check.{TypingState}
use Rattle.typing_rules.specs.Places.{unit, bool, never, int, wanted}
use Rattle.typing_rules.specs.Promises.{Extends, IsAlone, AreReady, Fact, Gives, Knows, IsValue, IsTemporary, Sound, SoundTemporary}
use Rattle.typing_rules.specs.Rows.{Typer, leaf, not_row, negate, operands, arithmetic, comparison, logic, one_of_two, if_int, int_or_bool, left_first}
use Rattle.typing_rules.specs.Scope.{Env}
use Rattle.typing_rules.proofs.Sound.Fitted.{IsPlain, leaf_ends, or_left, or_right, fits_self, same_self}
use Rattle.typing_rules.proofs.Sound.Gives.{◌⋆◌, bind, given, obeyed, found, after_number, numbered, grows_trans, knows_later, knows_number}
use Rattle.typing_rules.proofs.Sound.Later.{some_got, is_later, fits_later, in_later, passes_by, is_some_got, is_some_by}

-- ---- numbers of types

pub same_id : (a b : TyId) → IsTrue (is_same a b) → a ≡ b
same_id a b h = let e : a.0 ≡ b.0 = eqb-true a.0 b.0 h in λ i. record { 0 = e i }

pub or_cases : (a b : Bool) → IsTrue (a || b) → IsTrue a ⊎ IsTrue b
or_cases true b h = inl refl
or_cases false b h = inr h

-- a value of which something is required, and of which a type is required that it fits
pub any_want : {env : Env} {expected : Option TyId} {w : TypingState} {n : Node} → IsValue env expected w n → IsValue env None w n
any_want v = record { alone = v.alone; fit = refl; holds = v.holds }

pub as_wanted : (c : Context) (expected : TyId) (n : Node) → Holds (typed c Taken n) → IsTrue (fits c.items expected (ty_of
    n)) → Holds (typed c (Wanted expected) n)
as_wanted c expected (node id at ty by form) h f = ((h.0, f), h.1)

-- ---- fixed types

module _ (items : ItemTable) (ready : AreReady items) where
  pub unit_ready : IsAlone items unit
  unit_ready = (Ty.Unit, ready.begins 0 Ty.Unit refl, tt)

  pub bool_ready : IsAlone items bool
  bool_ready = (Ty.Bool, ready.begins 1 Ty.Bool refl, tt)

  pub never_ready : IsAlone items never
  never_ready = (Ty.Never, ready.begins 2 Ty.Never refl, tt)

  pub int_at : (kind : IntKind) → type_at items (int kind) ≡ Some (Ty.Int kind)
  int_at IntKind.I32 = ready.begins 3 (Ty.Int IntKind.I32) refl
  int_at IntKind.I64 = ready.begins 4 (Ty.Int IntKind.I64) refl
  int_at IntKind.U32 = ready.begins 5 (Ty.Int IntKind.U32) refl
  int_at IntKind.U64 = ready.begins 6 (Ty.Int IntKind.U64) refl
  int_at IntKind.Usize = ready.begins 7 (Ty.Int IntKind.Usize) refl

  pub int_ready : (kind : IntKind) → IsAlone items (int kind)
  int_ready kind = (Ty.Int kind, int_at kind, tt)

  pub bool_is : IsTrue (is_bool items bool)
  bool_is = passes_by is_bool_ty (type_at items bool) Ty.Bool (ready.begins 1 Ty.Bool refl) refl

  pub never_is : IsTrue (is_never items never)
  never_is = passes_by is_never_ty (type_at items never) Ty.Never (ready.begins 2 Ty.Never refl) refl

  -- one of a type with a test, or `!`
  pub fits_test : (test : Ty → Bool) (expected ty : TyId) → IsTrue (option_map_or test (type_at items expected) false) →
      IsTrue (fits items expected ty) → IsTrue (option_map_or test (type_at items ty) false || is_never items ty)
  fits_test test expected ty has h = by (or_cases (is_same ty expected) (is_never items ty) h)
    where
      by : IsTrue (is_same ty expected) ⊎ IsTrue (is_never items ty) → IsTrue (option_map_or test (type_at items ty) false
          || is_never items ty)
      by (inl same) =
          or_left _ _ (subst (λ id. IsTrue (option_map_or test (type_at items id) false)) (sym (same_id ty expected same))
          has)
      by (inr never) = or_right (option_map_or test (type_at items ty) false) _ never

-- ---- operators

pub not_sound : (env : Env) (at : Pos) (operand : Typer) → Sound env operand → SoundTemporary env (not_row at operand)
not_sound env at operand good expected s k =
    after_number (bind (good None s' (knows_number env k)) λ n t g d.
    obeyed Rule.T03 at (fits t.items bool (ty_of n)) _ λ is.
    leaf_ends env expected t s.next_node at bool (tree.Not n) refl refl (λ w p. refl) λ w ready l. (
      bool_ready w.items ready,
      λ p stands.
          (d w l).holds p stands ⋆ fits_test w.items ready is_bool_ty bool (ty_of n) (bool_is w.items ready) (fits_later
          l.items bool (ty_of n) is) ⋆ bool_is w.items ready,
    ))
  where
    s' : TypingState
    s' = numbered s

    R : Fact Node
    R = IsTemporary env expected

signed_is : (items : ItemTable) → AreReady items → (kind : IntKind) → IsTrue (is_signed_kind kind) → IsTrue
    (is_signed items (int kind))
signed_is items ready kind h =
    passes_by is_signed_kind (kind_of items (int kind)) kind (ap (option_and_then kind_in) (int_at items ready kind)) h

signed_by : (items : ItemTable) → AreReady items → (ty : TyId) → IsTrue (is_same ty (int IntKind.I32) || is_same ty
    (int IntKind.I64)) → IsTrue (is_signed items ty)
signed_by items ready ty h = by (or_cases (is_same ty (int IntKind.I32)) (is_same ty (int IntKind.I64)) h)
  where
    by : IsTrue (is_same ty (int IntKind.I32)) ⊎ IsTrue (is_same ty (int IntKind.I64)) → IsTrue (is_signed items ty)
    by (inl same) =
        subst (λ id. IsTrue (is_signed items id)) (sym (same_id ty (int IntKind.I32) same)) (signed_is items ready
        IntKind.I32 refl)
    by (inr same) =
        subst (λ id. IsTrue (is_signed items id)) (sym (same_id ty (int IntKind.I64) same)) (signed_is items ready
        IntKind.I64 refl)

pub negate_sound : (env : Env) (at : Pos) (operand : Typer) → Sound env operand → SoundTemporary env (negate at
    operand)
negate_sound env at operand good expected s k =
    after_number (bind (good inner s' (knows_number env k)) λ n t g d.
    obeyed Rule.T03 at (is_same (ty_of n) (int IntKind.I32) || is_same (ty_of n) (int IntKind.I64)) _ λ is.
    leaf_ends env expected t s.next_node at (ty_of n) (tree.Negate n) refl refl (λ w p. refl) λ w ready l. (
      (d w l).alone,
      λ p stands. (d w l).holds p stands ⋆ same_self (ty_of n).0 ⋆ signed_by w.items ready (ty_of n)
          is,
    ))
  where
    s' : TypingState
    s' = numbered s

    R : Fact Node
    R = IsTemporary env expected

    inner : Option TyId
    inner = wanted if_int s'.items expected

-- ---- two operands

abbrev Both : Env → Fact (Node × Node)
Both env w both = IsValue env None w both.0 × IsValue env None w both.1

left_first_sound : (env : Env) (expected : Option TyId) (left right : Typer) → Sound env left → Sound env right → (s :
    TypingState) → Knows env s → Gives s (Both env) (left_first expected left right s)
left_first_sound env expected left right good_left good_right s k =
    bind (good_left expected s k) λ l t g d.
    bind (good_right _ t (knows_later env g k)) λ r u h e.
    given (l, r) λ ready w f. (any_want (d w (grows_trans h f)), any_want (e w f))

operands_sound : (env : Env) (is_literal : Bool) (expected : Option TyId) (left right : Typer) → Sound env left → Sound
    env right → (s : TypingState) → Knows env s → Gives s (Both env) (operands is_literal expected left right s)
operands_sound env true None left right good_left good_right s k =
    bind (good_right None s k) λ r t g d.
    bind (good_left _ t (knows_later env g k)) λ l u h e.
    given (l, r) λ ready w f. (any_want (e w f), d w (grows_trans h f))
operands_sound env true (Some expected) left right good_left good_right s k =
    left_first_sound env (Some expected) left right good_left good_right s k
operands_sound env false expected left right good_left good_right s k =
    left_first_sound env expected left right good_left good_right s k

-- the type of two branches or operands
module _ (items : ItemTable) (a b ty : TyId) where
  abbrev IsOne : Type 0
  IsOne = IsTrue (fits items ty a) × IsTrue (fits items ty b) × IsTrue (is_same ty a || is_same ty b)

  one_by : (na nb : Bool) → is_never items a ≡ na → is_never items b || is_same a b ≡ nb → (if na then Some b else (if
      nb then Some a else None)) ≡ Some ty → IsOne
  one_by true nb ha hb h =
      let e : b ≡ ty = same_Some b ty h in
      subst (λ x. IsTrue (fits items x a) × IsTrue (fits items x b) × IsTrue (is_same x a || is_same x b)) e
      (or_right (is_same a b) _ ha, fits_self items b, or_right (is_same b a) _ (same_self b.0))
  one_by false true ha hb h =
      let e : a ≡ ty = same_Some a ty h in
      subst (λ x. IsTrue (fits items x a) × IsTrue (fits items x b) × IsTrue (is_same x a || is_same x b)) e (
        fits_self items a,
        turned (or_cases (is_never items b) (is_same a b) hb),
        or_left _ (is_same a b) (same_self
            a.0),
      )
    where
      turned : IsTrue (is_never items b) ⊎ IsTrue (is_same a b) → IsTrue (fits items a b)
      turned (inl never) = or_right (is_same b a) _ never
      turned (inr same) = subst (λ x. IsTrue (fits items a x)) (same_id a b same) (fits_self items a)
  one_by false false ha hb h = absurd (none-some ty h)

  pub is_one : one_of_two items a b ≡ Some ty → IsOne
  is_one h = one_by (is_never items a) _ refl refl h

  -- it is one of the two
  one_either : (na nb : Bool) → (if na then Some b else (if nb then Some a else None)) ≡ Some ty → (a ≡ ty) ⊎ (b ≡ ty)
  one_either true nb h = inr (same_Some b ty h)
  one_either false true h = inl (same_Some a ty h)
  one_either false false h = absurd (none-some ty h)

  pub either_one : one_of_two items a b ≡ Some ty → (a ≡ ty) ⊎ (b ≡ ty)
  either_one h = one_either (is_never items a) _ h

pub either_ready : (items now : ItemTable) (a b ty : TyId) → one_of_two items a b ≡ Some ty → IsAlone now a → IsAlone
    now b → IsAlone now ty
either_ready items now a b ty h ra rb = by (either_one items a b ty h)
  where
    by : (a ≡ ty) ⊎ (b ≡ ty) → IsAlone now ty
    by (inl e) = subst (IsAlone now) e ra
    by (inr e) = subst (IsAlone now) e rb

if_int_got : (items : ItemTable) (a ty : TyId) (b : Bool) → b ≡ is_int items a → (if b then Some a else None) ≡ Some
    ty → (a ≡ ty) × IsTrue (is_int items ty)
if_int_got items a ty true e h =
    let same = same_Some a ty h in (same, subst (λ x. IsTrue (is_int items x)) same (sym e))
if_int_got items a ty false e h = absurd (none-some ty h)

int_later : {old new : ItemTable} → Extends old new → (ty : TyId) → IsTrue (is_int old ty) → IsTrue (is_int new ty)
int_later {old} {new} e ty h =
    let is = is_some_got (kind_of old ty) h in is_some_by (kind_of new ty) is.0 (in_later e kind_in ty is.0 is.1)

-- two operands of one integer type
one_int : (items : ItemTable) (a b ty : TyId) → option_and_then (if_int items) (one_of_two items a b) ≡ Some ty →
    (one_of_two items a b ≡ Some ty) × IsTrue (is_int items ty)
one_int items a b ty h =
    let both = some_got (if_int items) (one_of_two items a b) ty h in
    let is = if_int_got items both.0 ty (is_int items both.0) refl both.2 in
    (both.1 ∙ ap Some is.0, is.1)

pub arithmetic_sound : (env : Env) (at : Pos) (operator : Math) (is_literal : Bool) (left right : Typer) → Sound env
    left → Sound env right → SoundTemporary env (arithmetic at operator is_literal left right)
arithmetic_sound env at operator is_literal left right good_left good_right expected s k =
    after_number (bind (operands_sound env is_literal _ left right good_left good_right s'
    (knows_number env k)) λ both t g d.
    found Rule.T03 at (option_and_then (if_int t.items) (one_of_two t.items (ty_of both.0) (ty_of both.1))) _ λ ty
    h.
    let one = one_int t.items (ty_of both.0) (ty_of both.1) ty h in
    let is = is_one t.items (ty_of both.0) (ty_of both.1) ty one.0 in
    leaf_ends env expected t s.next_node at ty (tree.Arithmetic operator both.0 both.1) refl refl (λ w p. refl) λ w ready
    l. (
      either_ready t.items w.items (ty_of both.0) (ty_of both.1) ty one.0 (d w l).0.alone (d w l).1.alone,
      λ p stands.
          as_wanted _ ty both.0 ((d w l).0.holds p stands) (fits_later l.items ty (ty_of both.0) is.0) ⋆
          as_wanted _ ty both.1 ((d w l).1.holds p stands) (fits_later l.items ty (ty_of both.1) is.1) ⋆
          int_later l.items ty one.1 ⋆ is.2,
    ))
  where
    s' : TypingState
    s' = numbered s

    R : Fact Node
    R = IsTemporary env expected

-- ---- comparisons, `&&` and `||`

int_or_bool_got : (items : ItemTable) (a ty : TyId) (b i : Bool) → b ≡ is_bool items a → i ≡ is_int items a → (if b
    then Some a else (if i then Some a else None)) ≡ Some ty → (a ≡ ty) × IsTrue (is_int items a || is_bool items a)
int_or_bool_got items a ty true i eb ei h = (same_Some a ty h, or_right (is_int items a) _ (sym eb))
int_or_bool_got items a ty false true eb ei h = (same_Some a ty h, or_left _ (is_bool items a) (sym ei))
int_or_bool_got items a ty false false eb ei h = absurd (none-some ty h)

compared_later : {old new : ItemTable} → Extends old new → (ty : TyId) → IsTrue (is_int old ty || is_bool old ty) →
    IsTrue (is_int new ty || is_bool new ty)
compared_later {old} {new} e ty h = by (or_cases (is_int old ty) (is_bool old ty) h)
  where
    by : IsTrue (is_int old ty) ⊎ IsTrue (is_bool old ty) → IsTrue (is_int new ty || is_bool new ty)
    by (inl is) = or_left _ (is_bool new ty) (int_later e ty is)
    by (inr is) = or_right (is_int new ty) _ (is_later e is_bool_ty ty is)

compared : {old new : ItemTable} → Extends old new → (a b ty : TyId) → option_and_then (int_or_bool old) (one_of_two
    old a b) ≡ Some ty → IsTrue (are_operands new (well_int_or_bool new) a b)
compared {old} {new} e a b ty h =
    let both = some_got (int_or_bool old) (one_of_two old a b) ty h in
    let is = int_or_bool_got old both.0 ty (is_bool old both.0) (is_int old both.0) refl refl both.2 in
    let one = is_one old a b both.0 both.1 in
    by both.0 (compared_later e both.0 is.1) (fits_later e both.0 a one.0) (fits_later e both.0 b one.1)
    (either_one old a b both.0 both.1)
  where
    by : (x : TyId) → IsTrue (is_int new x || is_bool new x) → IsTrue (fits new x a) → IsTrue (fits new x b) → (a ≡
        x) ⊎ (b ≡ x) → IsTrue (are_operands new (well_int_or_bool new) a b)
    by x test fa fb (inl same) =
        or_left _ _ (and_true (well_int_or_bool new a) (fits new a b) (subst (λ y. IsTrue (well_int_or_bool new y)) (sym
        same) test) (subst (λ y. IsTrue (fits new y b)) (sym same) fb))
    by x test fa fb (inr same) =
        or_right (well_int_or_bool new a && fits new a b) _ (and_true (well_int_or_bool new b) (fits new b a) (subst (λ
        y. IsTrue (well_int_or_bool new y)) (sym same) test) (subst (λ y. IsTrue (fits new y a)) (sym same) fa))

pub comparison_sound : (env : Env) (at : Pos) (operator : Cmp) (is_literal : Bool) (left right : Typer) → Sound env
    left → Sound env right → SoundTemporary env (comparison at operator is_literal left right)
comparison_sound env at operator is_literal left right good_left good_right expected s k =
    after_number (bind (operands_sound env is_literal None left right good_left good_right s'
    (knows_number env k)) λ both t g d.
    found Rule.T03 at (option_and_then (int_or_bool t.items) (one_of_two t.items (ty_of both.0) (ty_of both.1))) _
    λ ty h.
    leaf_ends env expected t s.next_node at bool (tree.Comparison operator both.0 both.1) refl refl (λ w p. refl) λ w
    ready l. (
      bool_ready w.items ready,
      λ p stands.
          (d w l).0.holds p stands ⋆ (d w l).1.holds p stands ⋆ compared l.items (ty_of both.0) (ty_of both.1) ty h ⋆
          bool_is w.items ready,
    ))
  where
    s' : TypingState
    s' = numbered s

    R : Fact Node
    R = IsTemporary env expected

fits_bool_later : {old new : ItemTable} → Extends old new → AreReady new → (ty : TyId) → IsTrue (fits old bool ty) →
    IsTrue (fits_bool new ty)
fits_bool_later {old} {new} e ready ty h =
    fits_test new ready is_bool_ty bool ty (bool_is new ready) (fits_later e bool ty h)

-- what both operators ask
abbrev AsksBoth : (Node → Node → Form) → Type 0
AsksBoth form = (c : Context) (id : ℕ) (ty : TyId) (l r : Node) → Holds (typed c Taken l) → Holds (typed c Taken r) →
    IsTrue (fits_bool c.items (ty_of l)) → IsTrue (fits_bool c.items (ty_of r)) → IsTrue (is_bool c.items ty) → Holds
    (row c id ty (form l r))

logic_sound : (env : Env) (at : Pos) (form : Node → Node → Form) → ((l r : Node) → IsTrue (is_leaf (form l r))) → ((l
    r : Node) → is_place (form l r) ≡ false) → ((w : TypingState) (l r : Node) → IsPlain env w bool (form l r)) → AsksBoth
    form → (left right : Typer) → Sound env left → Sound env right → SoundTemporary env (logic at form left right)
logic_sound env at form leaf placeless plain asks left right good_left good_right expected s k =
    after_number (bind (good_left None s' (knows_number env k)) λ l t g d.
    bind (good_right None t (knows_later env g (knows_number env k))) λ r u h e.
    obeyed Rule.T03 at (fits u.items bool (ty_of l) && fits u.items bool (ty_of r)) _ λ is.
    leaf_ends env expected u s.next_node at bool (form l r) (leaf l r) (placeless l r) (λ w. plain w l r) λ w ready f. (
      bool_ready w.items ready,
      λ p stands.
          asks _ s.next_node bool l r ((d w (grows_trans h f)).holds p stands) ((e w f).holds p stands)
          (fits_bool_later f.items ready (ty_of l) (true_left _ _ is)) (fits_bool_later f.items ready (ty_of r)
          (true_right
          (fits u.items bool (ty_of l)) _ is)) (bool_is w.items ready),
    ))
  where
    s' : TypingState
    s' = numbered s

    R : Fact Node
    R = IsTemporary env expected

pub and_sound : (env : Env) (at : Pos) (left right : Typer) → Sound env left → Sound env right → SoundTemporary env
    (logic at tree.And left right)
and_sound env at =
    logic_sound env at tree.And (λ l r. refl) (λ l r. refl) (λ w l r p. refl) (λ c id ty l r a b x y z. a ⋆ b ⋆ x ⋆ y
    ⋆ z)

pub or_sound : (env : Env) (at : Pos) (left right : Typer) → Sound env left → Sound env right → SoundTemporary env
    (logic at tree.Or left right)
or_sound env at =
    logic_sound env at tree.Or (λ l r. refl) (λ l r. refl) (λ w l r p. refl) (λ c id ty l r a b x y z. a ⋆ b ⋆ x ⋆ y ⋆
    z)
