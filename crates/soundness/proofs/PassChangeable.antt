-- What is stored into and borrowed by `&mut` may be changed, by the rules of typing: it is in a local that is no
-- parameter which is a reference, or behind `&mut`. Asked is that the name at its root is no binding of a guard.
use Rattle.std.proofs.Common.{◌≡◌, ℕ, ◌==◌, ◌&&◌, ◌||◌, not, Bool, true, false, Option, Some, None, is_some, refl, ap, sym, ◌∙◌, subst}
use Rattle.std.specs.Prelude.{option_and_then}
use Rattle.std.specs.Option.{option_map_or}
use Rattle.std.proofs.lemmas.Bool.{false≢true}
use Rattle.std.proofs.lemmas.Bool.Decides.{Decides-eqb}
use Rattle.std.proofs.lemmas.Option.{none-some}
use Rattle.mir_ty.specs.declared.ty.Ty.{Ty}
use Rattle.mir_ty.specs.declared.ty.TyId.{TyId}
use Rattle.mir_ty.specs.ItemTable.{ItemTable, type_at}
use Rattle.mir_ty.specs.Parts.{field_ty}
use Rattle.store_model.specs.Places.Place.{Place, whole_local, is_reference}
use Rattle.store_model.specs.Places.TypeForms.{referent}
use Rattle.typed_tree.specs.declared.node.Use.{Use}
use Rattle.typed_tree.specs.Tree as tree
use Rattle.typed_tree.specs.Tree.{Node, node, Form, BodyTree}
use Rattle.src_meaning.specs.Forms.{is_never}
use Rattle.src_meaning.specs.Locals.Effects.{place_at}
use Rattle.src_meaning.specs.Locals.OfBody.{local_of, local_ty, reached_cells, cells_in}
use Rattle.src_meaning.specs.Shape.{Aliases, head, shape, shape_of}
use Rattle.typing_rules.specs.Accesses.{root_of, root_of_form}
use Rattle.well_typed.specs.Claim.{Holds, fact, both, some}
use Rattle.well_typed.specs.Nodes as typing
use Rattle.well_typed.specs.Places.{Context, entry_with, ty_of, form_of, is_place, is_rooted, is_rooted_by, Standing, Base}
use Rattle.well_typed.specs.Types as types
use Rattle.soundness_values.proofs.CheckedBodies.{is_reference_param}
use Rattle.soundness_values.proofs.Checks as checks
use Rattle.soundness_cells.proofs.PassCellActs.{Cell}
use Rattle.soundness_cells.proofs.PassCellPatterns as cells_of
use Rattle.soundness_cells.proofs.PassCellPatterns.{Told, Has}
use Rattle.soundness_cells.proofs.PassCellPlaces as places
use Rattle.soundness_cells.proofs.PassCellPlaces.{Scoped}
use Rattle.soundness_cells.proofs.PassFacts.{Standpoint, context}
use Rattle.soundness.proofs.PassMovable.{RootPlain}
use Rattle.soundness_cells.proofs.PassRest.{own_local}
use Rattle.soundness_values.proofs.PlaceTypes.{some_holds, same_type}

module _ (items : ItemTable) (body : BodyTree) (told : Told items) (fuel : ℕ) where
  abbrev K : Standpoint → Context
  K = context items

  abbrev pub Changeable : Place → Type 0
  Changeable place =
      checks.may_change items (local_ty items body) (is_reference_param items body) (place_at (local_of items body)
      place) ≡ true

  first : (a b : Bool) → a ≡ true → (a || b) ≡ true
  first true b h = refl
  first false b h = absurd (false≢true h)

  second : (a b : Bool) → b ≡ true → (a || b) ≡ true
  second true b h = refl
  second false b h = h

  -- a local that holds no reference, and one that holds `&mut`
  own_changeable : (key : ℕ) (id : TyId) → Cell items body key id → is_reference (type_at items id) ≡ false →
      Changeable (whole_local key)
  own_changeable key id c r = first _ _ (ap not (own_local items body (local_of items body key) id c r))

  unique_changeable : (key : ℕ) (id : TyId) → Cell items body key id → is_some (referent true (type_at items id)) ≡
      true → Changeable (whole_local key)
  unique_changeable key id c e =
      second _ _ (ap (λ o. is_some (referent true (option_and_then (type_at items) o))) c ∙ e)

  -- a variable that is no root behind `&`, and is a reference, is one behind `&mut`
  unshared : (x : Standpoint) (key : ℕ) (t : TyId) → is_rooted_by (K x) t (tree.Variable key) ≡ false → (o : Option
      Ty) → type_at items t ≡ o → is_reference o ≡ true → is_some (referent true o) ≡ true
  unshared x key t e None k r = absurd (false≢true r)
  unshared x key t e (Some (Ty.Shared to)) k r =
      let rooted : is_rooted_by (K x) t (tree.Variable key) ≡ true = rw k in absurd (false≢true (sym e ∙ rooted))
  unshared x key t e (Some (Ty.Unique to)) k r = refl
  unshared x key t e (Some ty) k r = absurd (false≢true r)

  fields_made : (o : Option Ty) → option_map_or (types.fields_in items) o false ≡ true →
      Rattle.store_model.specs.Places.TypeForms.is_never o ≡ false
  fields_made None e = absurd (false≢true e)
  fields_made (Some Ty.Never) e = absurd (false≢true e)
  fields_made (Some ty) e = refl

  inside_made : (o : Option Ty) (t : TyId) → option_and_then types.inside_in o ≡ Some t →
      Rattle.store_model.specs.Places.TypeForms.is_never o ≡ false
  inside_made None t e = absurd (none-some t e)
  inside_made (Some Ty.Never) t e = absurd (none-some t e)
  inside_made (Some ty) t e = refl

  array_made : (o : Option Ty) (a : TyId × ℕ) → option_and_then types.array_in o ≡ Some a →
      Rattle.store_model.specs.Places.TypeForms.is_never o ≡ false
  array_made None a e = absurd (none-some a e)
  array_made (Some Ty.Never) a e = absurd (none-some a e)
  array_made (Some ty) a e = refl

  mutual
    pub changed_place : (n : Node) (x : Standpoint) (standing : Standing) → Holds (typing.typed (K x) standing n) →
        Scoped items body x → Has items body (reached_cells items n) →
        (is_place (form_of n) ≡ false → is_never items (ty_of n) ≡ false) →
        (is_place (form_of n) ≡ false → is_reference (type_at items (ty_of n)) ≡ false) → (aliases : Aliases) →
        RootPlain aliases (root_of n) → is_rooted (K x) n ≡ false →
        Changeable ((shape items n).place aliases)
    changed_place (node id at ty by form) x standing h s k made plain aliases g e = of_kind (is_place form) refl
        (λ p. changed_form form x id ty by h.1 p s (cells_of.reached_inside items body (node id at ty by form) k)
        aliases g e)
      where
        of_kind : (b : Bool) → is_place form ≡ b →
            (is_place form ≡ true → Changeable ((shape_of items form (head id ty by)).place aliases)) →
            Changeable ((shape_of items form (head id ty by)).place aliases)
        of_kind true p later = later p
        of_kind false p later = subst Changeable
            (sym (places.value_place items body told fuel form (head id ty by) aliases p))
            (own_changeable id ty
            (places.value_cell items body told fuel id at ty by form x standing h p k (made p)) (plain p))

    pub changed_form : (form : Form) (x : Standpoint) (id : ℕ) (ty : TyId) (by : Option Use) →
        Holds (typing.row (K x) id ty form) → is_place form ≡ true → Scoped items body x →
        Has items body (cells_in items form) → (aliases : Aliases) →
        RootPlain aliases (root_of_form form) → is_rooted_by (K x) ty form ≡ false →
        Changeable ((shape_of items form (head id ty by)).place aliases)
    changed_form (tree.Variable key) x id ty by h p s k aliases g e =
        let y = some_holds (entry_with key x.entries) (λ y. fact (types.is_same ty y.ty)) h in
        let same = same_type ty y.0.ty y.1.1 in
        let c = s.names key y.0 y.1.0 in
        subst Changeable (sym (g key refl))
        (of_type y.0.ty (is_reference (type_at items y.0.ty)) refl c
        (subst (λ t. is_rooted_by (K x) t (tree.Variable key) ≡ false) same e))
      where
        of_type : (t : TyId) (b : Bool) → is_reference (type_at items t) ≡ b → Cell items body key t →
            is_rooted_by (K x) t (tree.Variable key) ≡ false → Changeable (whole_local key)
        of_type t false r c e = own_changeable key t c r
        of_type t true r c e = unique_changeable key t c (unshared x key t e (type_at items t) refl r)
    changed_form (tree.Captured closure part name) x id ty by h p s k aliases g e =
        let y = some_holds x.closure (λ y. both (fact (y.key == closure))
        (some (field_ty items y.ty 0 part) (λ t. fact (types.is_same ty t)))) h in
        let c = s.closure y.0 y.1.0 in
        subst Changeable (sym (g closure refl))
        (subst (λ z. Changeable (whole_local z)) ((Decides-eqb y.0.key closure).0 y.1.1.0)
        (own_changeable y.0.key y.0.ty c.0 (subst (λ o. is_reference o ≡ false) (sym c.1.1) refl)))
    changed_form (tree.Field base part) x id ty by h p s k aliases g e =
        changed_place base x Base h.0 s k (λ q. fields_made (type_at items (ty_of base)) h.1.0)
        (λ q. places.base_plain items body told fuel base x h.0 s q) aliases g e
    changed_form (tree.Index base index count) x id ty by h p s k aliases g e =
        let a = some_holds (types.array_of items (ty_of base))
        (λ a. fact (types.is_same ty a.0 && count == a.1)) h.1.1.1 in
        changed_place base x Base h.0 s
        (cells_of.has_left items body (reached_cells items base)
        (Rattle.src_meaning.specs.Locals.OfBody.cells items true index) k)
        (λ q. array_made (type_at items (ty_of base)) a.0 a.1.0)
        (λ q. places.base_plain items body told fuel base x h.0 s q) aliases g e
    changed_form (tree.Deref base) x id ty by h p s k aliases g e =
        let t = some_holds (types.inside_of items (ty_of base)) (λ t. fact (types.is_same ty t)) h.1 in
        changed_place base x Base h.0 s k (λ q. inside_made (type_at items (ty_of base)) t.0 t.1.0)
        (λ q. places.base_plain items body told fuel base x h.0 s q) aliases g e
    changed_form form x id ty by h p s k aliases g e = absurd (false≢true p)
