-- What is tested of each line of a ready body: its operands, the place into which it stores, and its types.
use Rattle.std.proofs.Common.{◌≡◌, ℕ, ◌==◌, ◌&&◌, Bool, true, false, List, [], ◌∷◌, ◌++◌, map, flat_map, length, replicate, Option, Some, None, is_some, slice_get, refl, ap, sym, ◌∙◌, subst, zero, suc}
use Rattle.std.specs.Prelude.{option_and_then}
use Rattle.std.specs.List.{list_all}
use Rattle.std.specs.Option.{option_map_or}
use Rattle.std.specs.Cmp.{first_so, second_so}
use Rattle.std.specs.Cmp.Derive.{both_true}
use Rattle.std.proofs.lemmas.Bool.{false≢true}
use Rattle.std.proofs.lemmas.Bool.Decides.{Decides-eqb}
use Rattle.std.proofs.lemmas.Option.{none-some}
use Rattle.mir_ty.specs.declared.adt.Adt.{Adt}
use Rattle.mir_ty.specs.declared.adt.Variant.{Variant}
use Rattle.mir_ty.specs.declared.ty.Ty.{Ty}
use Rattle.mir_ty.specs.declared.ty.TyId.{TyId}
use Rattle.mir_ty.specs.ItemTable.{ItemTable, type_at}
use Rattle.mir_ty.specs.Parts.{fields_of, variants_of}
use Rattle.cfg_graph.specs.declared.graph.Body.{Body}
use Rattle.cfg_graph.specs.declared.place.Operand.{Operand}
use Rattle.cfg_graph.specs.declared.place.Place as graph
use Rattle.cfg_graph.specs.declared.statement.Stmt.{Stmt}
use Rattle.cfg_graph.specs.declared.terminator.Term.{Term}
use Rattle.cfg_graph.specs.Places.{place_id, ty_of_place}
use Rattle.cfg_graph.specs.Ready.{moves_out_well}
use Rattle.cfg_graph.specs.Uses.{PlaceUse, Stores, operand_uses, operands_of_stmt, operands_of_term, stored_by_stmt, stored_by_term, other_uses, other_term_uses, place_used, places_of_stmt, places_of_term}
use Rattle.cfg_graph.specs.WellFormed.Typing.{is_typed_place, is_sized, operand_is, operands_are, operand_stands, places_have_types, stmt_has_types, term_has_types, stmt_is_typed, term_is_typed, variant_at}
use Rattle.store_model.specs.Places.TypeForms.{tuple_parts, is_adt, is_closure, same_int, is_dyn, same_id}
use Rattle.drop_values.specs.Typed.{variant_if, has_variant}
use Rattle.drop_elaborate.proofs.Counted.{list_all-later, map-two}
use Rattle.drop_elaborate.proofs.OperandTypes.{int-type, bool-type, unit-type, same-ty, some-so, not-so}
use Rattle.drop_elaborate.proofs.SinceMade.{all-first}

-- ---- types by their forms

pub tuple-type : (o : Option Ty) (ids : List TyId) → tuple_parts o ≡ Some ids → o ≡ Some (Ty.Tuple ids)
tuple-type None ids h = absurd (none-some ids h)
tuple-type (Some (Ty.Tuple ts)) ids h = ap (λ t. Some (Ty.Tuple t)) (let x : Some ts ≡ Some ids = h in
    let y : ts ≡ ids = cc in y)
tuple-type (Some other) ids h = absurd (none-some ids h)

pub closure-type : (n : ℕ) (o : Option Ty) → is_closure n o ≡ true → o ≡ Some (Ty.Closure n)
closure-type n None h = absurd (false≢true h)
closure-type n (Some (Ty.Closure m)) h = ap (λ k. Some (Ty.Closure k)) (sym ((Decides-eqb n m).0 h))
closure-type n (Some other) h = absurd (false≢true h)

pub adt-type : (n : ℕ) (o : Option Ty) → is_adt n o ≡ true → o ≡ Some (Ty.Adt n)
adt-type n None h = absurd (false≢true h)
adt-type n (Some (Ty.Adt m)) h = ap (λ k. Some (Ty.Adt k)) (sym ((Decides-eqb n m).0 h))
adt-type n (Some other) h = absurd (false≢true h)

-- two types that are one integer type
pub same-int-type : (o p : Option Ty) → same_int o p ≡ true →
    (kind : _) × (o ≡ Some (Ty.Int kind)) × (p ≡ Some (Ty.Int kind))
same-int-type None p h = absurd (false≢true h)
same-int-type (Some (Ty.Int kind)) p h = (kind, refl, int-type kind p h)
same-int-type (Some other) p h = absurd (false≢true h)

module _ (items : ItemTable) (body : Body) where
  -- as many elements as the array's type says
  pub elements-are : (element : TyId) (count : ℕ) (operands : List Operand) →
      ((length operands == count) && list_all (operand_is items body.locals element) operands) ≡ true →
      operands_are items body.locals (replicate count element) operands ≡ true
  elements-are element count operands h =
      subst (λ n. operands_are items body.locals (replicate n element) operands ≡ true)
      ((Decides-eqb (length operands) count).0 (first_so (length operands == count)
      (list_all (operand_is items body.locals element) operands) h))
      (by operands (second_so (length operands == count) (list_all (operand_is items body.locals element) operands) h))
    where
      by : (operands : List Operand) → list_all (operand_is items body.locals element) operands ≡ true →
          operands_are items body.locals (replicate (length operands) element) operands ≡ true
      by [] h = refl
      by (operand ∷ operands) h =
          both_true (first_so (operand_is items body.locals element operand)
          (list_all (operand_is items body.locals element) operands) h)
          (by operands (second_so (operand_is items body.locals element operand)
          (list_all (operand_is items body.locals element) operands) h))

  -- a variant that a line makes
  pub made-variant : ((n : ℕ) (adt : Adt) → slice_get items.adts n ≡ Some adt → adt.is_enum ≡ false →
      (variant : Variant) × (adt.variants ≡ variant ∷ [])) → (adt variant : ℕ) (made : Variant) →
      variant_at items adt variant ≡ Some made → (has_variant items (Some (Ty.Adt adt)) variant ≡ true)
      × (made.fields ≡ fields_of (slice_get (variants_of (slice_get items.adts adt)) variant))
  made-variant one adt variant made e = by (slice_get items.adts adt) refl e
    where
      by : (o : Option Adt) → slice_get items.adts adt ≡ o →
          option_and_then (λ (def : Adt). slice_get def.variants variant) o ≡ Some made →
          (has_variant items (Some (Ty.Adt adt)) variant ≡ true)
          × (made.fields ≡ fields_of (slice_get (variants_of (slice_get items.adts adt)) variant))
      by None eo e = absurd (none-some made e)
      by (Some def) eo e = (
        ap (λ o. variant_if items (option_map_or (λ (adt : Adt). adt.is_enum) o false) o variant) eo ∙ of def.is_enum
            refl,
        sym (ap (λ o. fields_of (slice_get (variants_of o) variant)) eo ∙ ap fields_of e),
      )
        where
          single : (v : Variant) (k : ℕ) → slice_get (v ∷ []) k ≡ Some made → (k == 0) ≡ true
          single v zero e = refl
          single v (suc k) e = absurd (none-some made e)

          of : (b : Bool) → def.is_enum ≡ b → variant_if items b (Some def) variant ≡ true
          of true eb = ap is_some e
          of false eb =
              let o = one adt def eo eb in single o.0 variant (ap (λ l. slice_get l variant) (sym o.1) ∙ e)

  first-so' : (a : Bool) → (a && true) ≡ true → a ≡ true
  first-so' a h = first_so a true h

  sized : (place : graph.Place) (id : TyId) → option_map_or (same_id id) (place_id items body.locals place) false ≡
      true →
      is_sized items body.locals place ≡ true → is_dyn (type_at items id) ≡ false
  sized place id is s =
      let e = some-so (same_id id) (place_id items body.locals place) is in
      let same = same-ty id e.0 e.2 in
      ap (λ i. is_dyn (type_at items i)) same ∙ ap (λ o. is_dyn (option_and_then (type_at items) o)) (sym e.1)
      ∙ not-so (is_dyn (ty_of_place items body.locals place)) s

  -- an operand is of no `dyn` type
  pub operand-sized : (id : TyId) (operand : Operand) → operand_is items body.locals id operand ≡ true →
      operand_stands items body.locals operand ≡ true → is_dyn (type_at items id) ≡ false
  operand-sized id (Operand.Copied place) is stands = sized place id is (first-so' (is_sized items body.locals place)
      stands)
  operand-sized id (Operand.Moved place) is stands = sized place id is (first-so' (is_sized items body.locals place)
      stands)
  operand-sized id (Operand.Number value kind) is stands = ap is_dyn (int-type kind (type_at items id) is)
  operand-sized id (Operand.Truth value) is stands = ap is_dyn (bool-type (type_at items id) is)
  operand-sized id Operand.Unit is stands = ap is_dyn (unit-type (type_at items id) is)

  -- ---- what is tested of a line

  -- its operands, the places into which it stores, and the others
  pub record LineTested (operands : List Operand) (stored : List graph.Place) (others : List (PlaceUse × graph.Place)) :
      Type 0 where
    pub operands_typed : list_all (is_typed_place items body.locals) (map place_used (flat_map operand_uses operands))
        ≡ true
    pub operands_stand : list_all (operand_stands items body.locals) operands ≡ true
    pub operands_move : list_all (moves_out_well items body) operands ≡ true
    pub others_typed : list_all (is_typed_place items body.locals) (map place_used others) ≡ true
    pub stored_typed : list_all (is_typed_place items body.locals) stored ≡ true
    pub stored_sized : list_all (is_sized items body.locals) stored ≡ true

  stores-are : (stored : List graph.Place) → map place_used (map (λ place. (Stores, place)) stored) ≡ stored
  stores-are [] = refl
  stores-are (place ∷ stored) = ap (λ l. place ∷ l) (stores-are stored)

  tested : (operands : List Operand) (stored : List graph.Place) (others : List (PlaceUse × graph.Place))
      (places : List graph.Place) → places_have_types items body.locals stored operands places ≡ true →
      list_all (moves_out_well items body) operands ≡ true →
      places ≡ map place_used (flat_map operand_uses operands ++ others) ++ stored → LineTested operands stored others
  tested operands stored others places h moves are =
      let two = first_so (list_all (is_typed_place items body.locals) places && list_all (is_sized items body.locals)
      stored) (list_all (operand_stands items body.locals) operands) h in
      let typed : list_all (is_typed_place items body.locals)
      (map place_used (flat_map operand_uses operands ++ others) ++ stored) ≡ true =
      ap (list_all (is_typed_place items body.locals)) (sym are)
      ∙ first_so (list_all (is_typed_place items body.locals) places) (list_all (is_sized items body.locals) stored)
      two in
      let used : list_all (is_typed_place items body.locals) (map place_used (flat_map operand_uses operands)
      ++ map place_used others) ≡ true =
      ap (list_all (is_typed_place items body.locals)) (sym (map-two place_used (flat_map operand_uses operands)
      others))
      ∙ all-first (is_typed_place items body.locals) (map place_used (flat_map operand_uses operands ++ others)) stored
      typed in record {
        operands_typed = all-first (is_typed_place items body.locals) (map place_used (flat_map operand_uses operands))
            (map place_used others) used;
        operands_stand = second_so (list_all (is_typed_place items body.locals) places
            && list_all (is_sized items body.locals) stored) (list_all (operand_stands items body.locals) operands) h;
        operands_move = moves;
        others_typed = list_all-later (is_typed_place items body.locals) (map place_used (flat_map operand_uses
            operands))
            (map place_used others) used;
        stored_typed = list_all-later (is_typed_place items body.locals)
            (map place_used (flat_map operand_uses operands ++ others)) stored typed;
        stored_sized = second_so (list_all (is_typed_place items body.locals) places)
            (list_all (is_sized items body.locals) stored) two;
      }

  pub stmt-tested : (stmt : Stmt) → stmt_is_typed items body.locals stmt ≡ true →
      list_all (moves_out_well items body) (operands_of_stmt stmt) ≡ true →
      LineTested (operands_of_stmt stmt) (stored_by_stmt stmt) (other_uses stmt)
      × (stmt_has_types items body.locals stmt ≡ true)
  stmt-tested stmt h moves = (
    tested (operands_of_stmt stmt) (stored_by_stmt stmt) (other_uses stmt) (places_of_stmt stmt)
        (first_so (places_have_types items body.locals (stored_by_stmt stmt) (operands_of_stmt stmt)
        (places_of_stmt stmt)) (stmt_has_types items body.locals stmt) h) moves
        (map-two place_used (flat_map operand_uses (operands_of_stmt stmt) ++ other_uses stmt)
        (map (λ place. (Stores, place)) (stored_by_stmt stmt))
        ∙ ap (λ l. map place_used (flat_map operand_uses (operands_of_stmt stmt) ++ other_uses stmt) ++ l)
        (stores-are (stored_by_stmt stmt))),
    second_so (places_have_types items body.locals (stored_by_stmt stmt) (operands_of_stmt stmt)
        (places_of_stmt stmt)) (stmt_has_types items body.locals stmt) h,
  )

  pub term-tested : (term : Term) → term_is_typed items body.locals term ≡ true →
      list_all (moves_out_well items body) (operands_of_term term) ≡ true →
      LineTested (operands_of_term term) (stored_by_term term) (other_term_uses term)
      × (term_has_types items body.locals term ≡ true)
  term-tested term h moves = (
    tested (operands_of_term term) (stored_by_term term) (other_term_uses term) (places_of_term term)
        (first_so (places_have_types items body.locals (stored_by_term term) (operands_of_term term)
        (places_of_term term)) (term_has_types items body.locals term) h) moves refl,
    second_so (places_have_types items body.locals (stored_by_term term) (operands_of_term term)
        (places_of_term term)) (term_has_types items body.locals term) h,
  )
