-- What is asked of the types of a line has one answer in two graphs whose types are written alike.
use Rattle.std.proofs.Common.{◌≡◌, ℕ, Bool, true, false, not, ◌&&◌, ◌==◌, List, [], ◌∷◌, length, Option, Some, None, is_some, nat_lt, slice_get, refl}
use Rattle.std.specs.Prelude.{⊤, option_and_then}
use Rattle.std.specs.List.{list_all}
use Rattle.std.specs.Option.{option_map_or}
use Rattle.mir_base.specs.declared.int_kind.IntKind.{IntKind}
use Rattle.mir_ty.specs.declared.ty.Ty.{Ty}
use Rattle.mir_ty.specs.declared.ty.TyId.{TyId}
use Rattle.mir_ty.specs.declared.adt.Variant.{Variant}
use Rattle.mir_ty.specs.declared.def.Sig.{Sig}
use Rattle.mir_ty.specs.ItemTable.{ItemTable, type_at}
use Rattle.mir_ty.specs.Parts.{captures_of}
use Rattle.store_model.specs.Concrete.Effects.{impl_of}
use Rattle.store_model.specs.Places.TypeForms.{same_id, is_int, adt_of, tuple_parts, box_content, referent}
use Rattle.cfg_graph.specs.declared.place.Place.{Place}
use Rattle.cfg_graph.specs.declared.place.Operand.{Operand}
use Rattle.cfg_graph.specs.declared.statement.Stmt.{Stmt}
use Rattle.cfg_graph.specs.declared.terminator.Term.{Term}
use Rattle.cfg_graph.specs.Places.{index_locals, place_id, ty_of_place, ty_of_operand}
use Rattle.cfg_graph.specs.Uses.{stored_by_stmt, stored_by_term, operands_of_stmt, operands_of_term, places_of_stmt, places_of_term}
use Rattle.cfg_graph.specs.WellFormed.LineFaults.{has_row, stmt_has_row, term_numbers_exist}
use Rattle.cfg_graph.specs.WellFormed.TypeFaults.{is_drop_body}
use Rattle.cfg_graph.specs.WellFormed.Typing.{method_at, variant_at, enum_variant, is_typed_place, operand_is, operands_are, are_elements, calls, is_sized, operand_stands, constant_fits, places_have_types, stmt_has_types, term_has_types, stmt_is_typed, term_is_typed}
use Rattle.listing_write.proofs.Reading.Alike.{TyAlike, ListsAlike, Alike, array}
use Rattle.listing_write.proofs.Reading.Tested.{OptTy, OptId, OptIds, HeldAlike, int_alike, bool_alike, unit_alike, dyn_alike, dyn_of_alike, adt_alike, closure_alike, adt_of_alike, same_int_alike, signed_alike, compared_alike, content_alike, referent_alike, tuple_alike, slice_alike, at_alike, place_alike, of_place, of_operand}

module _ (left right : ItemTable) where
  pub record SigAlike (s t : Sig) : Type 0 where
    pub params : ListsAlike left right s.params t.params
    pub answer : TyAlike left right s.result t.result

  abbrev pub OptSig : Option Sig → Option Sig → Type 0
  OptSig None None = ⊤
  OptSig (Some s) (Some t) = SigAlike s t
  OptSig None (Some t) = ⊥
  OptSig (Some s) None = ⊥

  abbrev pub OptVariant : Option Variant → Option Variant → Type 0
  OptVariant None None = ⊤
  OptVariant (Some s) (Some t) = ListsAlike left right s.fields t.fields
  OptVariant None (Some t) = ⊥
  OptVariant (Some s) None = ⊥

  -- the items of two graphs, and how many bodies there are
  pub record ItemsAlike (bodies : ℕ) : Type 0 where
    pub held : HeldAlike left right
    pub types : (a b : TyId) → TyAlike left right a b → OptTy left right (type_at left a) (type_at right b)
    pub ids : (a b c d : TyId) → TyAlike left right a b → TyAlike left right c d → same_id a c ≡ same_id b d
    pub variants : (n v : ℕ) → OptVariant (variant_at left n v) (variant_at right n v)
    pub enums : (n v : ℕ) → enum_variant left n v ≡ enum_variant right n v
    pub methods : (n m : ℕ) → OptSig (method_at left n m) (method_at right n m)
    pub signatures : (n : ℕ) → nat_lt n bodies ≡ true → OptSig (slice_get left.bodies n) (slice_get right.bodies n)
    pub drops : (n : ℕ) → is_drop_body left n ≡ is_drop_body right n
    pub impls : left.impls ≡ right.impls

  some_ty : (x y : Option Ty) → OptTy left right x y → is_some x ≡ is_some y
  some_ty None None h = refl
  some_ty (Some s) (Some t) h = refl
  some_ty None (Some t) h = absurd h
  some_ty (Some s) None h = absurd h

  some_id : (x y : Option TyId) → OptId left right x y → is_some x ≡ is_some y
  some_id None None h = refl
  some_id (Some s) (Some t) h = refl
  some_id None (Some t) h = absurd h
  some_id (Some s) None h = absurd h

  -- a test of a type that may be missing
  or_not : (F G : TyId → Bool) → ((a b : TyId) → TyAlike left right a b → F a ≡ G b) → (x y : Option TyId) → OptId left right x y → option_map_or F x false ≡ option_map_or G y false
  or_not F G f None None h = refl
  or_not F G f (Some a) (Some b) h = f a b h
  or_not F G f None (Some b) h = absurd h
  or_not F G f (Some a) None h = absurd h

  module _ (bodies : ℕ) (alike : ItemsAlike bodies) (locals others : List TyId) (stand : ListsAlike left right locals others) where
    of_id : (place : Place) → OptId left right (place_id left locals place) (place_id right others place)
    of_id = place_alike left right alike.held alike.types locals others stand

    of_ty : (place : Place) → OptTy left right (ty_of_place left locals place) (ty_of_place right others place)
    of_ty = of_place left right alike.held alike.types locals others stand

    of_value : (operand : Operand) → OptTy left right (ty_of_operand left locals operand) (ty_of_operand right others operand)
    of_value = of_operand left right alike.held alike.types locals others stand

    at_id : (x y : Option TyId) → OptId left right x y → OptTy left right (option_and_then (type_at left) x) (option_and_then (type_at right) y)
    at_id = at_alike left right alike.held alike.types

    index_typed : (local : ℕ) → is_int IntKind.Usize (option_and_then (type_at left) (slice_get locals local)) ≡ is_int IntKind.Usize (option_and_then (type_at right) (slice_get others local))
    index_typed local =
        int_alike left right IntKind.Usize (option_and_then (type_at left) (slice_get locals local)) (option_and_then (type_at right) (slice_get others local))
        (at_id (slice_get locals local) (slice_get others local) (slice_alike left right locals others stand local))

    typed_place : (place : Place) → is_typed_place left locals place ≡ is_typed_place right others place
    typed_place place =
        λ i. some_ty (ty_of_place left locals place) (ty_of_place right others place) (of_ty place) i && list_all (λ local. index_typed local i) (index_locals place.steps)

    sized : (place : Place) → is_sized left locals place ≡ is_sized right others place
    sized place = λ i. not (dyn_alike left right (ty_of_place left locals place) (ty_of_place right others place) (of_ty place) i)

    stands : (operand : Operand) → operand_stands left locals operand ≡ operand_stands right others operand
    stands operand = λ i. not (dyn_alike left right (ty_of_operand left locals operand) (ty_of_operand right others operand) (of_value operand) i) && constant_fits operand

    have_types : (stored : List Place) (operands : List Operand) (places : List Place) → places_have_types left locals stored operands places ≡ places_have_types right others stored operands places
    have_types stored operands places =
        λ i. list_all (λ place. typed_place place i) places && list_all (λ place. sized place i) stored && list_all (λ operand. stands operand i) operands

    same_or_not : (a b : TyId) → TyAlike left right a b → (x y : Option TyId) → OptId left right x y → option_map_or (same_id a) x false ≡ option_map_or (same_id b) y false
    same_or_not a b h = or_not (same_id a) (same_id b) (λ c d k. alike.ids a b c d h k)

    operand_typed : (a b : TyId) → TyAlike left right a b → (operand : Operand) → operand_is left locals a operand ≡ operand_is right others b operand
    operand_typed a b h (Operand.Copied place) = same_or_not a b h (place_id left locals place) (place_id right others place) (of_id place)
    operand_typed a b h (Operand.Moved place) = same_or_not a b h (place_id left locals place) (place_id right others place) (of_id place)
    operand_typed a b h (Operand.Number value kind) = int_alike left right kind (type_at left a) (type_at right b) (alike.types a b h)
    operand_typed a b h (Operand.Truth value) = bool_alike left right (type_at left a) (type_at right b) (alike.types a b h)
    operand_typed a b h Operand.Unit = unit_alike left right (type_at left a) (type_at right b) (alike.types a b h)

    operands_typed : (xs ys : List TyId) → ListsAlike left right xs ys → (operands : List Operand) → operands_are left locals xs operands ≡ operands_are right others ys operands
    operands_typed [] [] h [] = refl
    operands_typed [] [] h (o ∷ os) = refl
    operands_typed [] (y ∷ ys) h os = absurd h
    operands_typed (x ∷ xs) [] h os = absurd h
    operands_typed (x ∷ xs) (y ∷ ys) h [] = refl
    operands_typed (x ∷ xs) (y ∷ ys) h (o ∷ os) = λ i. operand_typed x y h.0 o i && operands_typed xs ys h.1 os i

    elements_typed : (operands : List Operand) (x y : Option Ty) → OptTy left right x y → are_elements left locals operands x ≡ are_elements right others operands y
    elements_typed operands None None h = refl
    elements_typed operands (Some s) (Some t) h = by s t h
      where
        by : (s t : Ty) → Alike left right s t → are_elements left locals operands (Some s) ≡ are_elements right others operands (Some t)
        by s t (array {a = a} {b = b} h count) = λ i. (length operands == count) && list_all (λ operand. operand_typed a b h operand i) operands
        by s t _ = refl
    elements_typed operands None (Some t) h = absurd h
    elements_typed operands (Some s) None h = absurd h

    call_typed : (to : Place) (args : List Operand) (x y : Option Sig) → OptSig x y → option_map_or (calls left locals to args) x false ≡ option_map_or (calls right others to args) y false
    call_typed to args None None h = refl
    call_typed to args (Some s) (Some t) h =
        λ i. operands_typed s.params t.params h.params args i && same_or_not s.result t.result h.answer (place_id left locals to) (place_id right others to) (of_id to) i
    call_typed to args None (Some t) h = absurd h
    call_typed to args (Some s) None h = absurd h

    tuple_typed : (parts : List Operand) (x y : Option (List TyId)) → OptIds left right x y
        → option_map_or (λ types. operands_are left locals types parts) x false ≡ option_map_or (λ types. operands_are right others types parts) y false
    tuple_typed parts None None h = refl
    tuple_typed parts (Some xs) (Some ys) h = operands_typed xs ys h parts
    tuple_typed parts None (Some ys) h = absurd h
    tuple_typed parts (Some xs) None h = absurd h

    made_typed : (parts : List Operand) (x y : Option Variant) → OptVariant x y
        → option_map_or (λ made. operands_are left locals made.fields parts) x false ≡ option_map_or (λ made. operands_are right others made.fields parts) y false
    made_typed parts None None h = refl
    made_typed parts (Some s) (Some t) h = operands_typed s.fields t.fields h parts
    made_typed parts None (Some t) h = absurd h
    made_typed parts (Some s) None h = absurd h

    abbrev lt : Place → Option Ty
    lt = ty_of_place left locals

    abbrev rt : Place → Option Ty
    rt = ty_of_place right others

    abbrev lv : Operand → Option Ty
    lv = ty_of_operand left locals

    abbrev rv : Operand → Option Ty
    rv = ty_of_operand right others

    stored_typed : (operand : Operand) (x y : Option TyId) → OptId left right x y → option_map_or (λ id. operand_is left locals id operand) x false ≡ option_map_or (λ id. operand_is right others id operand) y false
    stored_typed operand = or_not (λ id. operand_is left locals id operand) (λ id. operand_is right others id operand) (λ a b h. operand_typed a b h operand)

    stmt_typed : (stmt : Stmt) → stmt_has_types left locals stmt ≡ stmt_has_types right others stmt
    stmt_typed (Stmt.Put to from) = stored_typed from (place_id left locals to) (place_id right others to) (of_id to)
    stmt_typed (Stmt.Compare to op x y) = λ i. bool_alike left right (lt to) (rt to) (of_ty to) i && compared_alike left right (lv x) (rv x) (lv y) (rv y) (of_value x) (of_value y) i
    stmt_typed (Stmt.Not to operand) = λ i. bool_alike left right (lt to) (rt to) (of_ty to) i && bool_alike left right (lv operand) (rv operand) (of_value operand) i
    stmt_typed (Stmt.Tuple to parts) = tuple_typed parts (tuple_parts (lt to)) (tuple_parts (rt to)) (tuple_alike left right (lt to) (rt to) (of_ty to))
    stmt_typed (Stmt.Array to parts) = elements_typed parts (lt to) (rt to) (of_ty to)
    stmt_typed (Stmt.Make to adt variant parts) =
        λ i. adt_alike left right adt (lt to) (rt to) (of_ty to) i && made_typed parts (variant_at left adt variant) (variant_at right adt variant) (alike.variants adt variant) i
    stmt_typed (Stmt.Close to closure parts) =
        λ i. closure_alike left right closure (lt to) (rt to) (of_ty to) i
        && operands_typed (captures_of (slice_get left.closures closure)) (captures_of (slice_get right.closures closure)) (alike.held.captures closure) parts i
    stmt_typed (Stmt.NewBox to operand) = stored_typed operand (box_content (lt to)) (box_content (rt to)) (content_alike left right (lt to) (rt to) (of_ty to))
    stmt_typed (Stmt.Unsize to trait from) =
        let contents = content_alike left right (lt to) (rt to) (of_ty to) in
        λ i. dyn_of_alike left right trait (option_and_then (type_at left) (box_content (lt to))) (option_and_then (type_at right) (box_content (rt to)))
        (at_id (box_content (lt to)) (box_content (rt to)) contents) i
        && some_id (box_content (lv from)) (box_content (rv from)) (content_alike left right (lv from) (rv from) (of_value from)) i
    stmt_typed (Stmt.Borrow to unique of) =
        or_not (λ id. option_map_or (same_id id) (referent unique (lt to)) false) (λ id. option_map_or (same_id id) (referent unique (rt to)) false)
        (λ a b h. same_or_not a b h (referent unique (lt to)) (referent unique (rt to)) (referent_alike left right unique (lt to) (rt to) (of_ty to)))
        (place_id left locals of) (place_id right others of) (of_id of)
    stmt_typed (Stmt.Touch place) = refl
    stmt_typed (Stmt.Print operand) = int_alike left right IntKind.I32 (lv operand) (rv operand) (of_value operand)
    stmt_typed (Stmt.Forget operand) = refl
    stmt_typed (Stmt.Free place) = some_id (box_content (lt place)) (box_content (rt place)) (content_alike left right (lt place) (rt place) (of_ty place))

    case_typed : (variant : ℕ) (x y : Option ℕ) → x ≡ y → option_map_or (λ adt. enum_variant left adt variant) x false ≡ option_map_or (λ adt. enum_variant right adt variant) y false
    case_typed variant x y h = λ i. option_map_or (λ adt. alike.enums adt variant i) (h i) false

    term_typed : (term : Term) → term_numbers_exist left bodies term ≡ true → term_has_types left locals term ≡ term_has_types right others term
    term_typed (Term.Goto block) e = refl
    term_typed (Term.If on if_true if_false) e = bool_alike left right (lv on) (rv on) (of_value on)
    term_typed (Term.Case on variant if_true if_false) e = case_typed variant (adt_of (lt on)) (adt_of (rt on)) (adt_of_alike left right (lt on) (rt on) (of_ty on))
    term_typed (Term.Math to op x y next unwind) e =
        λ i. same_int_alike left right (lv x) (rv x) (lv y) (rv y) (of_value x) (of_value y) i && same_int_alike left right (lv x) (rv x) (lt to) (rt to) (of_value x) (of_ty to) i
    term_typed (Term.Negate to of next unwind) e =
        λ i. signed_alike left right (lv of) (rv of) (of_value of) i && same_int_alike left right (lv of) (rv of) (lt to) (rt to) (of_value of) (of_ty to) i
    term_typed (Term.Bounds index count next unwind) e = int_alike left right IntKind.Usize (lv index) (rv index) (of_value index)
    term_typed (Term.Call to body args next unwind) e =
        λ i. call_typed to args (slice_get left.bodies body) (slice_get right.bodies body) (alike.signatures body e) i && not (alike.drops body i)
    term_typed (Term.Virtual to trait method args next unwind) e = call_typed to args (method_at left trait method) (method_at right trait method) (alike.methods trait method)
    term_typed (Term.Ask to next unwind) e = int_alike left right IntKind.I32 (lt to) (rt to) (of_ty to)
    term_typed (Term.DropAt place next unwind) e = refl
    term_typed (Term.Panic why unwind) e = refl
    term_typed Term.Return e = refl
    term_typed Term.Resume e = refl

    pub stmt_alike : (stmt : Stmt) → stmt_is_typed left locals stmt ≡ stmt_is_typed right others stmt
    stmt_alike stmt = λ i. have_types (stored_by_stmt stmt) (operands_of_stmt stmt) (places_of_stmt stmt) i && stmt_typed stmt i

    pub term_alike : (term : Term) → term_numbers_exist left bodies term ≡ true → term_is_typed left locals term ≡ term_is_typed right others term
    term_alike term e = λ i. have_types (stored_by_term term) (operands_of_term term) (places_of_term term) i && term_typed term e i

    has_impl : (trait : ℕ) (x y : Option ℕ) → x ≡ y → option_map_or (λ adt. is_some (impl_of left trait adt)) x false ≡ option_map_or (λ adt. is_some (impl_of right trait adt)) y false
    has_impl trait x y h = λ i. option_map_or (λ adt. is_some (impl_of (record left { impls = alike.impls i }) trait adt)) (h i) false

    row_alike : (trait : ℕ) (x y : Option TyId) → OptId left right x y → has_row left bodies trait x ≡ has_row right bodies trait y
    row_alike trait None None h = refl
    row_alike trait (Some a) (Some b) h = has_impl trait (adt_of (type_at left a)) (adt_of (type_at right b)) (adt_of_alike left right (type_at left a) (type_at right b) (alike.types a b h))
    row_alike trait None (Some b) h = absurd h
    row_alike trait (Some a) None h = absurd h

    pub stmt_row_alike : (stmt : Stmt) → stmt_has_row left bodies locals stmt ≡ stmt_has_row right bodies others stmt
    stmt_row_alike (Stmt.Unsize to trait from) = row_alike trait (box_content (lv from)) (box_content (rv from)) (content_alike left right (lv from) (rv from) (of_value from))
    stmt_row_alike _ = refl
