-- Branches, and jumps that carry nothing.
use Rattle.std.proofs.Common.{◌≡◌, true, false, ◌&&◌, ◌||◌, [], ◌∷◌, Some, IsTrue, ◌⊎◌, inl, inr, refl}
use Rattle.mir_base.specs.declared.place_in_text.Pos.{Pos}
use Rattle.mir_base.specs.declared.rule.Rule.{Rule}
use Rattle.mir_ty.specs.declared.ty.Ty.{Ty}
use Rattle.mir_ty.specs.declared.ty.TyId.{TyId}
use Rattle.mir_ty.specs.ItemTable.{ItemTable, type_at}
use Rattle.typed_tree.specs.Tree as tree
use Rattle.typed_tree.specs.Tree.{Node, node, Form, absent, present}
use Rattle.well_typed.specs.Nodes.{fits_unit, fits_bool}
use Rattle.well_typed.specs.Places.{ty_of}
use Rattle.well_typed.specs.Types.{fits, is_same, is_unit, is_unit_ty, is_bool_ty, is_never, is_common}
use Rattle.well_typed.proofs.ClaimLemmas.{and_true}
use Rattle.typing_rules.specs.Check.{TypingState}
use Rattle.typing_rules.specs.Places.{unit, bool}
use Rattle.typing_rules.specs.Promises.{Extends, AreReady, Fact, Knows, IsTemporary, Sound, SoundTemporary}
use Rattle.typing_rules.specs.Rows.{Typer, if_alone, if_else, one_of_two}
use Rattle.typing_rules.specs.Scope.{Env}
use Rattle.typing_rules.proofs.Sound.Fitted.{settled_ends, or_left, or_right}
use Rattle.typing_rules.proofs.Sound.Gives.{◌⋆◌, bind, found, after_number, numbered, grows_trans, knows_later, knows_number}
use Rattle.typing_rules.proofs.Sound.Later.{passes_by, fits_later}
use Rattle.typing_rules.proofs.Sound.Operators.{unit_ready, fits_test, bool_is, is_one, either_ready, or_cases}

pub unit_is : (items : ItemTable) → AreReady items → IsTrue (is_unit items unit)
unit_is items ready = passes_by is_unit_ty (type_at items unit) Ty.Unit (ready.begins 0 Ty.Unit refl) refl

pub unit_fits : (items : ItemTable) → AreReady items → (ty : TyId) → IsTrue (fits items unit ty) → IsTrue (fits_unit
    items ty)
unit_fits items ready ty h = fits_test items ready is_unit_ty unit ty (unit_is items ready) h

pub bool_fits : (items : ItemTable) → AreReady items → (ty : TyId) → IsTrue (fits items bool ty) → IsTrue (fits_bool
    items ty)
bool_fits items ready ty h = fits_test items ready is_bool_ty bool ty (bool_is items ready) h

pub if_alone_sound : (env : Env) (at : Pos) (c body : Typer) → Sound env c → Sound env body → SoundTemporary env
    (if_alone at c body)
if_alone_sound env at c body good_c good_body expected s k =
    after_number (bind (good_c (Some bool) s' (knows_number env k)) λ n t g d.
    bind (good_body (Some unit) t (knows_later env g (knows_number env k))) λ b u h
    e.
    settled_ends env expected u s.next_node at unit (tree.If n b absent) refl (λ w p. refl) λ w ready f.
    let dn = d w (grows_trans h f) in let eb = e w f in (
      unit_ready w.items ready,
      λ p stands.
          dn.holds p stands ⋆ bool_fits w.items ready (ty_of n) dn.fit ⋆ eb.holds p stands ⋆ unit_fits w.items ready
          (ty_of
          b) eb.fit ⋆ unit_is w.items ready,
    ))
  where
    s' : TypingState
    s' = numbered s

    R : Fact Node
    R = IsTemporary env expected

-- the type of two branches is the common one
pub common_of : {old new : ItemTable} → Extends old new → (a b ty : TyId) → one_of_two old a b ≡ Some ty → IsTrue
    (is_common new ty (a ∷ b ∷ []))
common_of {old} {new} e a b ty h =
    let is = is_one old a b ty h in
    and_true _ _
    (and_true (fits new ty a) (fits new ty b && true) (fits_later e ty a is.0) (and_true (fits new ty b) true
    (fits_later e ty b is.1) refl))
    (or_right (is_never new ty) _ (either (or_cases (is_same ty a) (is_same ty b) is.2)))
  where
    either : IsTrue (is_same ty a) ⊎ IsTrue (is_same ty b) → IsTrue (is_same ty a || (is_same ty b || false))
    either (inl same) = or_left (is_same ty a) _ same
    either (inr same) = or_right (is_same ty a) _ (or_left (is_same ty b) false same)

pub if_else_sound : (env : Env) (at : Pos) (c body otherwise : Typer) → Sound env c → Sound env body → Sound env
    otherwise → SoundTemporary env (if_else at c body otherwise)
if_else_sound env at c body otherwise good_c good_body good_otherwise expected s k =
    after_number (bind (good_c (Some bool) s' k') λ n t g d.
    bind (good_body expected t (knows_later env g k')) λ b u h e.
    bind (good_otherwise expected u (knows_later env (grows_trans g h) k')) λ o v i f.
    found Rule.T03 at (one_of_two v.items (ty_of b) (ty_of o)) _ λ ty one.
    settled_ends env expected v s.next_node at ty (tree.If n b (present o)) refl (λ w p. refl) λ w ready l.
    let dn = d w (grows_trans h (grows_trans i l)) in let eb = e w (grows_trans i l) in let fo = f w l in (
      either_ready v.items w.items (ty_of b) (ty_of o) ty one eb.alone fo.alone,
      λ p stands.
          dn.holds p stands ⋆ bool_fits w.items ready (ty_of n) dn.fit ⋆ eb.holds p stands ⋆ fo.holds p stands ⋆
          common_of
          l.items (ty_of b) (ty_of o) ty one,
    ))
  where
    s' : TypingState
    s' = numbered s

    k' : Knows env s'
    k' = knows_number env k

    R : Fact Node
    R = IsTemporary env expected
