-- What an argument borrows by `&mut` may be changed: its root is in no parameter that is a reference, or in one that is
-- `&mut`, by the rules of typing.
use Rattle.std.proofs.Common.{◌≡◌, inl, inr, ℕ, ◌==◌, ◌&&◌, ◌||◌, not, Bool, true, false, List, [], ◌++◌, Option, Some, None, is_some, slice_get, refl, ap, sym, ◌∙◌, subst}
use Rattle.std.specs.Prelude.{option_and_then}
use Rattle.std.specs.Cmp.{second_so}
use Rattle.std.proofs.lemmas.Bool.{false≢true}
use Rattle.std.proofs.lemmas.Bool.Decides.{Decides-eqb}
use Rattle.std.proofs.lemmas.Option.{none-some}
use Rattle.mir_ty.specs.declared.ty.Ty.{Ty}
use Rattle.mir_ty.specs.declared.ty.TyId.{TyId}
use Rattle.mir_ty.specs.ItemTable.{ItemTable, type_at}
use Rattle.mir_ty.specs.Parts.{field_ty, parts_of}
use Rattle.store_model.specs.Places.Place.{Place, whole_local, is_reference}
use Rattle.store_model.specs.Places.TypeForms.{referent}
use Rattle.typed_tree.specs.declared.node.Use.{Use}
use Rattle.typed_tree.specs.Nodes.{number_of, nodes_of, nodes_in, param_nodes}
use Rattle.typed_tree.specs.Tree as tree
use Rattle.typed_tree.specs.Tree.{Node, node, Form, BodyTree}
use Rattle.src_meaning.specs.Locals.Effects.{place_at}
use Rattle.src_meaning.specs.Locals.OfBody.{local_of, local_ty}
use Rattle.src_meaning.specs.Shape as shapes
use Rattle.src_meaning.specs.Shape.{head, shape, shape_of}
use Rattle.typing_rules.specs.Accesses as rules
use Rattle.typing_rules.specs.Accesses.{root_of, root_of_form}
use Rattle.well_typed.specs.Claim.{Holds, fact, both}
use Rattle.well_typed.specs.Nodes as typing
use Rattle.well_typed.specs.Places.{InScope, entry_with, Standing, Base, Context, form_of, is_place, is_rooted, is_rooted_by, is_behind_shared, names_shared}
use Rattle.well_typed.specs.Types as types
use Rattle.soundness_values.proofs.CheckedBodies.{is_reference_param}
use Rattle.soundness_values.proofs.Checks as checks
use Rattle.soundness.proofs.PassAlonePairs.{NoAlias}
use Rattle.soundness_frame.proofs.PassBlockTold.{ParamTyped, in_block}
use Rattle.soundness_cells.proofs.PassCells.{NodeIn}
use Rattle.soundness_cells.proofs.PassFacts.{Standpoint, context}
use Rattle.soundness_frame.proofs.PassPastParams.{no_param}
use Rattle.soundness.proofs.PassProtectEnds.{numbered_in}
use Rattle.soundness_frame.proofs.PassTold as here
use Rattle.soundness_frame.proofs.PassTold.{Here}
use Rattle.soundness_frame.proofs.PassToldPlaces.{Rises, is_alias}
use Rattle.soundness_values.proofs.PlaceTypes.{some_holds, same_type}

module _ (items : ItemTable) (body : BodyTree) (rise : Rises (param_nodes body.params ++ nodes_of body.block))
    (May : Place → Type 0) (aliases : rules.Aliases) (places : shapes.Aliases) (x : Standpoint) where
  abbrev K : Context
  K = context items x

  abbrev InBlock : Node → Type 0
  InBlock m = NodeIn (nodes_of body.block) m

  abbrev Around : List Node → Type 0
  Around = Here items May (in_block items body InBlock) aliases places x

  abbrev local : ℕ → ℕ
  local = local_of items body

  abbrev is_target : ℕ → Bool
  is_target = is_reference_param items body

  -- the local of a key may be changed, if it is a parameter that is a reference
  abbrev pub Changes : ℕ → Type 0
  Changes key = is_target (local key) ≡ true →
      checks.is_unique items (local_ty items body) is_target (local_ty items body (local key)) ≡ true

  referring : (key : ℕ) (ty : TyId) → is_target (local key) ≡ true →
      local_ty items body (local key) ≡ Some ty → is_reference (type_at items ty) ≡ true
  referring key ty t e = subst (λ o. is_reference (option_and_then (type_at items) o) ≡ true) e (second_so _ _ t)

  -- a variable of a type that is no `&`
  of_variable : (key : ℕ) (ty : TyId) → ParamTyped items body key ty →
      names_shared (types.reference_of items ty) ≡ false → Changes key
  of_variable key ty p n t =
      ap (λ o. is_some (referent true (option_and_then (type_at items) o))) (p t)
      ∙ by (type_at items ty) n (referring key ty t (p t))
    where
      by : (o : Option Ty) → names_shared (option_and_then types.reference_in o) ≡ false → is_reference o ≡ true →
          is_some (referent true o) ≡ true
      by None n r = absurd (false≢true r)
      by (Some (Ty.Shared to)) n r = absurd (false≢true (sym n))
      by (Some (Ty.Unique to)) n r = refl
      by (Some ty) n r = absurd (false≢true r)

  -- what has fields is no reference
  of_fields : (key : ℕ) (ty : TyId) (part : ℕ) (s : TyId) → ParamTyped items body key ty →
      field_ty items ty 0 part ≡ Some s → Changes key
  of_fields key ty part s p f t = absurd (by (type_at items ty) f (referring key ty t (p t)))
    where
      by : (o : Option Ty) → option_and_then (λ t. slice_get (parts_of items t 0) part) o ≡ Some s →
          is_reference o ≡ true → ⊥
      by None f r = false≢true r
      by (Some (Ty.Shared to)) f r = none-some s f
      by (Some (Ty.Unique to)) f r = none-some s f
      by (Some ty) f r = false≢true r

  of_node : (m : Node) → InBlock m → Changes (number_of m)
  of_node m i t = absurd (false≢true (sym (no_param items body rise (number_of m)
      (numbered_in (nodes_of body.block) m i)) ∙ t))

  plain : (key : ℕ) → (is_alias aliases key ≡ true → ⊥) → is_alias aliases key ≡ false
  plain key f = by (is_alias aliases key) refl
    where
      by : (b : Bool) → is_alias aliases key ≡ b → b ≡ false
      by false e = refl
      by true e = absurd (f e)

  itself : (ns : List Node) → Around ns → (key : ℕ) → (is_alias aliases key ≡ true → ⊥) →
      Changes key → Changes (shapes.place_of_key key places).local
  itself ns o key f c =
      subst (λ (q : Place). Changes q.local) (sym (o.sees.plain key (plain key f))) c

  mutual
    root_changes : (n : Node) (standing : Standing) → Around (nodes_of n) → Holds (typing.typed K standing n) →
        NoAlias items May (in_block items body InBlock) aliases places (root_of n) →
        (is_place (form_of n) ≡ true → is_rooted K n ≡ false) → Changes ((shape items n).place places).local
    root_changes (node id at ty by form) standing o h r s = form_changes form id ty by
        (of_node (node id at ty by form) (o.all (node id at ty by form) (inl refl)))
        (here.here_in items May (in_block items body InBlock) aliases places x (node id at ty by form) (nodes_in
        form) o)
        h.1 r s

    form_changes : (form : Form) (id : ℕ) (ty : TyId) (by : Option Use) → Changes id → Around (nodes_in form) →
        Holds (typing.row K id ty form) →
        NoAlias items May (in_block items body InBlock) aliases places (root_of_form form) →
        (is_place form ≡ true → is_rooted_by K ty form ≡ false) →
        Changes ((shape_of items form (head id ty by)).place places).local
    form_changes (tree.Variable key) id ty by own o h r s =
        let t = some_holds (entry_with key x.entries) (λ (y : InScope). fact (types.is_same ty y.ty)) h in
        let same = same_type ty t.0.ty t.1.1 in
        itself [] o key (r key refl) (of_variable key t.0.ty (o.types key t.0 t.1.0)
        (subst (λ z. names_shared (types.reference_of items z) ≡ false) same (s refl)))
    form_changes (tree.Captured closure part name) id ty by own o h r s =
        let t = some_holds x.closure (λ (y : InScope). both (fact (y.key == closure))
        (Rattle.well_typed.specs.Claim.some (field_ty items y.ty 0 part) (λ z. fact (types.is_same ty z)))) h in
        let f = some_holds (field_ty items t.0.ty 0 part) (λ z. fact (types.is_same ty z)) t.1.1.1 in
        itself [] o closure (r closure refl)
        (subst Changes ((Decides-eqb t.0.key closure).0 t.1.1.0)
        (of_fields t.0.key t.0.ty part f.0 (o.self_type t.0 t.1.0) f.1.0))
    form_changes (tree.Field base part) id ty by own o h r s =
        root_changes base Base o h.0 r (λ e. s refl)
    form_changes (tree.Index base index count) id ty by own o h r s = root_changes base Base
        (here.here_left items May (in_block items body InBlock) aliases places x (nodes_of base) (nodes_of index) o)
        h.0 r
        (λ e. s refl)
    form_changes (tree.Deref base) id ty by own o h r s = root_changes base Base o h.0 r (λ e. s refl)
    form_changes form id ty by own o h r s = own

  not_shared : (n : Node) → is_behind_shared K n ≡ false → is_place (form_of n) ≡ true → is_rooted K n ≡ false
  not_shared (node id at ty by form) e p = so (is_place form) p e
    where
      so : (b : Bool) → b ≡ true → (b && is_rooted_by K ty form) ≡ false → is_rooted_by K ty form ≡ false
      so true p e = e
      so false p e = absurd (false≢true p)

  -- so it may be changed
  pub borrowed_changes : (n : Node) (standing : Standing) → Around (nodes_of n) → Holds (typing.typed K standing n) →
      NoAlias items May (in_block items body InBlock) aliases places (root_of n) → is_behind_shared K n ≡ false →
      checks.may_change items (local_ty items body) is_target (place_at local ((shape items n).place places)) ≡ true
  borrowed_changes n standing o h r e =
      by (is_target (local ((shape items n).place places).local)) refl
      (root_changes n standing o h r (not_shared n e))
    where
      by : (b : Bool) → is_target (local ((shape items n).place places).local) ≡ b →
          Changes ((shape items n).place places).local →
          (not b || checks.is_unique items (local_ty items body) is_target
          (local_ty items body (local ((shape items n).place places).local))) ≡ true
      by false t c = refl
      by true t c = c t
