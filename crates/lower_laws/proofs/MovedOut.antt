-- What is moved may be moved out by the rules of typing, and its place may be left gone then: it is not behind a reference,
-- no element, and not within a value of a type with a `Drop` impl.
use Rattle.std.proofs.Common.{◌≡◌, ℕ, ◌&&◌, ◌||◌, not, Bool, true, false, List, Option, Some, None, slice_get, if◌then◌else◌, refl, sym, ap, subst, ◌∙◌}
use Rattle.std.proofs.lemmas.Bool.{eqb-true}
use Rattle.std.proofs.lemmas.Option.{none-some}
use Rattle.std.specs.Prelude.{option_and_then, is_some}
use Rattle.std.specs.Option.{option_map_or}
use Rattle.mir_ty.specs.declared.adt.Adt.{Adt}
use Rattle.mir_ty.specs.declared.ty.Ty.{Ty}
use Rattle.mir_ty.specs.declared.ty.TyId.{TyId}
use Rattle.mir_ty.specs.Facts.{is_copy, has_drop_impl, ty_has_drop_impl, adt_has_drop_impl}
use Rattle.store_model.specs.Concrete.Drops.{drop_impl, with_drop_body}
use Rattle.store_model.specs.Places.Place as places
use Rattle.store_model.specs.Places.Place.{ToPart, ToContent, Place}
use Rattle.typed_tree.specs.declared.node.Use.{Use}
use Rattle.typed_tree.specs.Tree as tree
use Rattle.typed_tree.specs.Tree.{Form}
use Rattle.src_meaning.specs.Forms.{LoopsAndGuards}
use Rattle.src_meaning.specs.Shape.{moves, extended, place_of_key}
use Rattle.well_typed.specs.Claim.{Claim, Holds, fact, some, nothing, ◌&◌}
use Rattle.well_typed.specs.Nodes as typing
use Rattle.well_typed.specs.Places as scopes
use Rattle.well_typed.specs.Places.{InScope, Context, Standing, Taken, Wanted, Passed, Base, Used, Stored, entry_with}
use Rattle.well_typed.specs.Types as types
use Rattle.lower_laws.proofs.Base as base
use Rattle.lower_laws.proofs.Base.{Ground, untrue, and_first, and_second, found}

module _ (g : Ground) where
  abbrev K : Context → Context
  K x = record x { items = g.items }

  -- ---- what is moved may be moved out

  -- no node stands as what is used by a move
  abbrev pub is_fair : Standing → Bool
  is_fair (Used Use.Move) = false
  is_fair st = true

  pub fair_borrow : (unique : Bool) → is_fair (Used (scopes.borrow_by unique)) ≡ true
  fair_borrow true = refl
  fair_borrow false = refl

  abbrev pub Freed : Context → Option Use → Form → Type 0
  Freed x by form = moves by ≡ true → scopes.may_move_by (K x) form ≡ true

  value_moves : (c : Context) (form : Form) → scopes.is_place form ≡ false → scopes.may_move_by c form ≡ true
  value_moves c (tree.Variable key) h = absurd (untrue (sym h))
  value_moves c (tree.Captured closure part name) h = absurd (untrue (sym h))
  value_moves c (tree.Field inner part) h = absurd (untrue (sym h))
  value_moves c (tree.Index inner index count) h = absurd (untrue (sym h))
  value_moves c (tree.Deref inner) h = absurd (untrue (sym h))
  value_moves c _ h = refl

  moved_taken : (x : Context) (ty : TyId) (form : Form) → Holds (scopes.is_taken (K x) ty (Some Use.Move) form) → scopes.may_move_by (K x) form ≡ true
  moved_taken x ty form h = on (scopes.is_place form) refl _ h
    where
      copies : (b : Bool) → scopes.is_use (if b then Use.Copy else Use.Move) Use.Move ≡ true → (b || (scopes.may_move_by (K x) form && not (types.is_dyn g.items ty))) ≡ true → scopes.may_move_by (K x) form ≡ true
      copies true used so = absurd (untrue used)
      copies false used so = and_first _ _ so

      on : (b : Bool) → scopes.is_place form ≡ b → (z : Bool) → Holds (if b then (fact (scopes.is_by (scopes.taking g.items ty) (Some Use.Move)) & fact (scopes.may_take (K x) (is_copy g.items ty) ty form) & fact (not (types.is_reference g.items ty))) else fact z) → scopes.may_move_by (K x) form ≡ true
      on false e z h = value_moves (K x) form e
      on true e z h = copies (is_copy g.items ty) h.0 h.1.0

  moved_so : (x : Context) (st : Standing) → is_fair st ≡ true → (ty : TyId) (form : Form) → Holds (scopes.stands (K x) st ty (Some Use.Move) form) → scopes.may_move_by (K x) form ≡ true
  moved_so x Taken fair ty form h = moved_taken x ty form h
  moved_so x (Wanted want) fair ty form h = moved_taken x ty form h.0
  moved_so x (Passed want) fair ty form h = on (types.is_reference g.items want && not (types.is_never g.items ty)) h
    where
      on : (b : Bool) → Holds (if b then fact (scopes.is_borrow form && false && types.is_same ty want) else (scopes.is_taken (K x) ty (Some Use.Move) form & fact (types.fits g.items want ty))) → scopes.may_move_by (K x) form ≡ true
      on true h = absurd (untrue (and_second (scopes.is_borrow form) false (and_first (scopes.is_borrow form && false) _ h)))
      on false h = moved_taken x ty form h.0
  moved_so x Base fair ty form h = absurd (untrue h)
  moved_so x Stored fair ty form h = absurd (untrue (and_second (scopes.is_place form) false (and_first (scopes.is_place form && false) _ h.0)))
  moved_so x (Used want) fair ty form h = on (scopes.is_place form) refl (and_first _ _ h)
    where
      apart : (want : Use) → is_fair (Used want) ≡ true → scopes.is_use want Use.Move ≡ true → ⊥
      apart Use.Move f u = untrue f
      apart Use.Copy f u = untrue u
      apart Use.Borrow f u = untrue u
      apart Use.BorrowMut f u = untrue u
      apart Use.Test f u = untrue u
      apart Use.Store f u = untrue u

      on : (b : Bool) → scopes.is_place form ≡ b → (if b then scopes.is_use want Use.Move else (false && not (scopes.is_borrow form))) ≡ true → scopes.may_move_by (K x) form ≡ true
      on true e h = absurd (apart want fair h)
      on false e h = value_moves (K x) form e

  pub freed : (x : Context) (st : Standing) → is_fair st ≡ true → (ty : TyId) (by : Option Use) (form : Form) → Holds (scopes.stands (K x) st ty by form) → Freed x by form
  freed x st fair ty None form h m = absurd (untrue m)
  freed x st fair ty (Some Use.Move) form h m = moved_so x st fair ty form h
  freed x st fair ty (Some Use.Copy) form h m = absurd (untrue m)
  freed x st fair ty (Some Use.Borrow) form h m = absurd (untrue m)
  freed x st fair ty (Some Use.BorrowMut) form h m = absurd (untrue m)
  freed x st fair ty (Some Use.Test) form h m = absurd (untrue m)
  freed x st fair ty (Some Use.Store) form h m = absurd (untrue m)

  -- ---- places that may be left gone
  pub variable_goes : (x : Context) (key : ℕ) (ty : TyId) → Holds (typing.row (K x) 0 ty (tree.Variable key)) → scopes.may_move_by (K x) (tree.Variable key) ≡ true → (a : LoopsAndGuards) → base.AroundOk g x a → base.Left g (place_of_key key a.aliases)
  variable_goes x key ty h w a ok =
      let e = found (entry_with key x.entries) _ h in
      ok.lets_go key e.0 e.1 (sym (ap (λ (o : Option InScope). option_map_or (λ x. x.is_in_guard) o false) e.1) ∙ base.not_true (scopes.is_guarded x.entries key) w)

  pub captured_goes : (x : Context) (closure part : ℕ) (name : List ℕ) (ty : TyId) → Holds (typing.row (K x) 0 ty (tree.Captured closure part name)) → (a : LoopsAndGuards) → base.AroundOk g x a → base.Left g (extended (ToPart part) (place_of_key closure a.aliases))
  captured_goes x closure part name ty h a ok =
      let e = found x.closure _ h in
      let at = ok.self e.0 e.1 in
      subst (λ (z : ℕ). base.Left g (extended (ToPart part) (place_of_key z a.aliases))) (eqb-true e.0.key closure e.2.0)
      (base.left_on g (place_of_key e.0.key a.aliases) (ToPart part) e.0.ty at.0 at.1 refl (ok.captured_out e.0 at.0 e.1 at.1.known) (ok.self_lets_go e.0 e.1))

  -- what does not hold its parts back
  no_impl : (ty : Ty) → ty_has_drop_impl g.items ty ≡ is_some (drop_impl g.items (Some ty))
  no_impl (Ty.Adt n) = of_adt (slice_get g.items.adts n)
    where
      of_body : (o : Option ℕ) → is_some o ≡ is_some (with_drop_body n o)
      of_body None = refl
      of_body (Some body) = refl

      of_adt : (o : Option Adt) → adt_has_drop_impl o ≡ is_some (with_drop_body n (option_map_or (λ (adt : Adt). adt.drop_body) o None))
      of_adt None = refl
      of_adt (Some adt) = of_body adt.drop_body
  no_impl other = refl

  with_fields : (ty : Ty) → types.fields_in g.items ty ≡ true → places.is_reference (Some ty) ≡ false
  with_fields (Ty.Shared to) e = absurd (untrue e)
  with_fields (Ty.Unique to) e = absurd (untrue e)
  with_fields _ e = refl

  pub field_goes : (place : Place) (id : TyId) (part : ℕ) → base.Typed g place id → types.has_fields g.items id ≡ true → has_drop_impl g.items id ≡ false → base.Left g place → base.Left g (extended (ToPart part) place)
  field_goes place id part t fields none left =
      let k = ap (λ (o : Option Ty). option_map_or (types.fields_in g.items) o false) t.1.known in
      base.left_on g place (ToPart part) id t.0 t.1 refl
      (base.both_false _ _ (with_fields t.0 (sym k ∙ fields)) (sym (no_impl t.0) ∙ sym (ap (λ (o : Option Ty). option_map_or (ty_has_drop_impl g.items) o false) t.1.known) ∙ none)) left

  pub only_there : {A : Type 0} (o : Option A) (claim : A → Claim) → Holds (some o claim) → Holds (some o (λ t. nothing))
  only_there None claim h = h
  only_there (Some a) claim h = refl

  pub content_goes : (place : Place) (id : TyId) → base.Typed g place id → types.is_reference g.items id ≡ false → Holds (some (types.inside_of g.items id) (λ t. nothing)) → base.Left g place → base.Left g (extended ToContent place)
  content_goes place id t no_reference inside left =
      base.left_on g place ToContent id t.0 t.1 refl
      (of_box t.0 (sym (ap (λ (o : Option Ty). is_some (option_and_then types.reference_in o)) t.1.known) ∙ no_reference) (found (types.inside_of g.items id) _ inside).0 (sym (ap (option_and_then types.inside_in) t.1.known) ∙ (found (types.inside_of g.items id) _ inside).1)) left
    where
      of_box : (ty : Ty) → is_some (types.reference_in ty) ≡ false → (j : TyId) → types.inside_in ty ≡ Some j → base.holds_back g (Some ty) ≡ false
      of_box (Ty.Boxed content) e j d = refl
      of_box (Ty.Shared to) e j d = absurd (untrue (sym e))
      of_box (Ty.Unique to) e j d = absurd (untrue (sym e))
      of_box _ e j d = absurd (none-some j d)
