-- What is typed in a body is typed where the body has more locals behind its own.
use Rattle.std.proofs.Common.{◌≡◌, ◌∙◌, ◌∷◌, [], ◌++◌, ◌==◌, ◌&&◌, ℕ, nat_lt, Bool, true, false, not, List, Option, Some, None, is_some, length, map, flat_map, slice_get, refl, ap}
use Rattle.std.specs.Prelude.{option_and_then}
use Rattle.std.specs.List.{list_all}
use Rattle.std.specs.Option.{option_map_or}
use Rattle.std.specs.Cmp.{first_so, second_so}
use Rattle.std.specs.Cmp.Derive.{both_true}
use Rattle.std.proofs.lemmas.Bool.{ltb-true}
use Rattle.mir_base.specs.declared.int_kind.IntKind.{IntKind}
use Rattle.mir_ty.proofs.ListLemmas.{slice_get-below}
use Rattle.mir_ty.specs.declared.ty.Ty.{Ty}
use Rattle.mir_ty.specs.declared.ty.TyId.{TyId}
use Rattle.mir_ty.specs.ItemTable.{ItemTable, type_at}
use Rattle.mir_ty.specs.Parts.{captures_of}
use Rattle.store_model.specs.Places.Place.{ty_along}
use Rattle.store_model.specs.Places.TypeForms.{same_id, is_int, is_bool, is_dyn, is_dyn_of, is_adt, is_closure, same_int, are_compared, is_signed, adt_of, tuple_parts, box_content, referent}
use Rattle.cfg_graph.specs.declared.place.Operand.{Operand}
use Rattle.cfg_graph.specs.declared.place.Place.{Place}
use Rattle.cfg_graph.specs.declared.statement.Stmt.{Stmt}
use Rattle.cfg_graph.specs.declared.terminator.Term.{Term}
use Rattle.cfg_graph.specs.Places.{named, index_locals, place_id, ty_of_place, ty_of_operand}
use Rattle.cfg_graph.specs.Uses.{PlaceUse, Stores, operand_uses, operands_of_stmt, operands_of_term, stored_by_stmt, stored_by_term, other_uses, other_term_uses, place_used, places_of_stmt, places_of_term}
use Rattle.cfg_graph.specs.WellFormed.LineFaults.{has_row, stmt_has_row}
use Rattle.cfg_graph.specs.WellFormed.TypeFaults.{is_drop_body}
use Rattle.cfg_graph.specs.WellFormed.Typing.{constant_fits, enum_variant, variant_at, method_at, calls, is_typed_place, operand_is, operands_are, are_elements, stmt_has_types, term_has_types, is_sized, operand_stands, stmt_is_typed, term_is_typed}

module _ (items : ItemTable) (locals flags : List TyId) where
  abbrev longer : List TyId
  longer = locals ++ flags

  abbrev In : ℕ → Type 0
  In k = nat_lt k (length locals) ≡ true

  local-same : (k : ℕ) → In k → slice_get longer k ≡ slice_get locals k
  local-same k h = slice_get-below locals flags k (ltb-true k (length locals) h)

  abbrev locals_in : Place → Bool
  locals_in place = list_all (λ local. nat_lt local (length locals)) (place.local ∷ index_locals place.steps)

  abbrev pub Within : Place → Type 0
  Within place = list_all (λ local. nat_lt local (length locals)) (place.local ∷ index_locals place.steps) ≡ true

  own : (place : Place) → Within place → In place.local
  own place h =
      first_so (nat_lt place.local (length locals))
      (list_all (λ local. nat_lt local (length locals)) (index_locals place.steps)) h

  pub id-same : (place : Place) → Within place → place_id items longer place ≡ place_id items locals place
  id-same place h =
      ap (λ (o : Option TyId). option_and_then (ty_along items (named place).steps) o) (local-same place.local (own place h))

  pub ty-same : (place : Place) → Within place → ty_of_place items longer place ≡ ty_of_place items locals place
  ty-same place h = ap (λ (o : Option TyId). option_and_then (type_at items) o) (id-same place h)

  abbrev OperandIn : Operand → Type 0
  OperandIn (Operand.Copied place) = Within place
  OperandIn (Operand.Moved place) = Within place
  OperandIn operand = Unit {0}

  operand-same : (operand : Operand) → OperandIn operand →
      ty_of_operand items longer operand ≡ ty_of_operand items locals operand
  operand-same (Operand.Copied place) h = ty-same place h
  operand-same (Operand.Moved place) h = ty-same place h
  operand-same (Operand.Number value kind) h = refl
  operand-same (Operand.Truth value) h = refl
  operand-same Operand.Unit h = refl

  is-same : (id : TyId) (operand : Operand) → OperandIn operand →
      operand_is items longer id operand ≡ operand_is items locals id operand
  is-same id (Operand.Copied place) h = λ i. option_map_or (same_id id) (id-same place h i) false
  is-same id (Operand.Moved place) h = λ i. option_map_or (same_id id) (id-same place h i) false
  is-same id (Operand.Number value kind) h = refl
  is-same id (Operand.Truth value) h = refl
  is-same id Operand.Unit h = refl

  abbrev pub OperandsIn : List Operand → Type 0
  OperandsIn [] = Unit {0}
  OperandsIn (operand ∷ rest) = OperandIn operand × OperandsIn rest

  abbrev pub PlacesIn : List Place → Type 0
  PlacesIn [] = Unit {0}
  PlacesIn (place ∷ rest) = Within place × PlacesIn rest

  are-same : (ids : List TyId) (operands : List Operand) → OperandsIn operands →
      operands_are items longer ids operands ≡ operands_are items locals ids operands
  are-same [] [] h = refl
  are-same [] (operand ∷ rest) h = refl
  are-same (id ∷ ids) [] h = refl
  are-same (id ∷ ids) (operand ∷ rest) h = λ i. is-same id operand h.0 i && are-same ids rest h.1 i

  all-same : (id : TyId) (operands : List Operand) → OperandsIn operands →
      list_all (operand_is items longer id) operands ≡ list_all (operand_is items locals id) operands
  all-same id [] h = refl
  all-same id (operand ∷ rest) h = λ i. is-same id operand h.0 i && all-same id rest h.1 i

  call-same : (to : Place) (args : List Operand) (sig : _) → Within to → OperandsIn args →
      calls items longer to args sig ≡ calls items locals to args sig
  call-same to args sig h k =
      λ i. are-same sig.params args k i && option_map_or (same_id sig.result) (id-same to h i) false

  -- ---- places and operands, whatever the line is

  indices-same : (l : List ℕ) → list_all (λ local. nat_lt local (length locals)) l ≡ true →
      list_all (λ local. is_int IntKind.Usize (option_and_then (type_at items) (slice_get longer local))) l
      ≡ list_all (λ local. is_int IntKind.Usize (option_and_then (type_at items) (slice_get locals local))) l
  indices-same [] h = refl
  indices-same (local ∷ l) h =
      let here = first_so (nat_lt local (length locals)) (list_all (λ local. nat_lt local (length locals)) l) h in
      let rest = second_so (nat_lt local (length locals)) (list_all (λ local. nat_lt local (length locals)) l) h in
      λ i. is_int IntKind.Usize (option_and_then (type_at items) (local-same local here i)) && indices-same l rest i

  typed-same : (place : Place) → Within place → is_typed_place items longer place ≡ is_typed_place items locals place
  typed-same place h =
      let rest = second_so (nat_lt place.local (length locals))
      (list_all (λ local. nat_lt local (length locals)) (index_locals place.steps)) h in
      λ i. is_some (ty-same place h i) && indices-same (index_locals place.steps) rest i

  places-same : (places : List Place) → PlacesIn places →
      list_all (is_typed_place items longer) places ≡ list_all (is_typed_place items locals) places
  places-same [] h = refl
  places-same (place ∷ rest) h = λ i. typed-same place h.0 i && places-same rest h.1 i

  sized-same : (places : List Place) → PlacesIn places →
      list_all (is_sized items longer) places ≡ list_all (is_sized items locals) places
  sized-same [] h = refl
  sized-same (place ∷ rest) h = λ i. not (is_dyn (ty-same place h.0 i)) && sized-same rest h.1 i

  stand-same : (operands : List Operand) → OperandsIn operands →
      list_all (operand_stands items longer) operands ≡ list_all (operand_stands items locals) operands
  stand-same [] h = refl
  stand-same (operand ∷ rest) h =
      λ i. (not (is_dyn (operand-same operand h.0 i)) && constant_fits operand) && stand-same rest h.1 i

  -- ---- statements and terminators, form by form

  elements-same : (operands : List Operand) (o : Option Ty) → OperandsIn operands →
      are_elements items longer operands o ≡ are_elements items locals operands o
  elements-same operands None h = refl
  elements-same operands (Some (Ty.Array element count)) h =
      λ i. (length operands == count) && all-same element operands h i
  elements-same operands (Some other) h = refl

  stmt-types : (stmt : Stmt) → OperandsIn (operands_of_stmt stmt) → PlacesIn (map place_used (other_uses stmt)) →
      PlacesIn (stored_by_stmt stmt) → stmt_has_types items longer stmt ≡ stmt_has_types items locals stmt
  stmt-types (Stmt.Put to from) h o s = λ i. option_map_or (λ id. is-same id from h.0 i) (id-same to s.0 i) false
  stmt-types (Stmt.Compare to op left right) h o s =
      λ i. is_bool (ty-same to s.0 i) && are_compared (operand-same left h.0 i) (operand-same right h.1.0 i)
  stmt-types (Stmt.Not to operand) h o s = λ i. is_bool (ty-same to s.0 i) && is_bool (operand-same operand h.0 i)
  stmt-types (Stmt.Tuple to parts) h o s =
      λ i. option_map_or (λ types. are-same types parts h i) (tuple_parts (ty-same to s.0 i)) false
  stmt-types (Stmt.Array to parts) h o s =
      elements-same parts (ty_of_place items longer to) h ∙ ap (are_elements items locals parts) (ty-same to s.0)
  stmt-types (Stmt.Make to adt variant parts) h o s =
      λ i. is_adt adt (ty-same to s.0 i)
      && option_map_or (λ made. are-same made.fields parts h i) (variant_at items adt variant) false
  stmt-types (Stmt.Close to closure parts) h o s =
      λ i. is_closure closure (ty-same to s.0 i)
      && are-same (captures_of (slice_get items.closures closure)) parts h i
  stmt-types (Stmt.NewBox to operand) h o s =
      λ i. option_map_or (λ id. is-same id operand h.0 i) (box_content (ty-same to s.0 i)) false
  stmt-types (Stmt.Unsize to trait_no from) h o s =
      λ i. is_dyn_of trait_no (option_and_then (type_at items) (box_content (ty-same to s.0 i)))
      && is_some (box_content (operand-same from h.0 i))
  stmt-types (Stmt.Borrow to unique of) h o s =
      λ i. option_map_or (λ id. option_map_or (same_id id) (referent unique (ty-same to s.0 i)) false) (id-same of o.0 i) false
  stmt-types (Stmt.Touch place) h o s = refl
  stmt-types (Stmt.Print operand) h o s = λ i. is_int IntKind.I32 (operand-same operand h.0 i)
  stmt-types (Stmt.Forget operand) h o s = refl
  stmt-types (Stmt.Free place) h o s = λ i. is_some (box_content (ty-same place o.0 i))

  term-types : (term : Term) → OperandsIn (operands_of_term term) → PlacesIn (map place_used (other_term_uses term)) →
      PlacesIn (stored_by_term term) → term_has_types items longer term ≡ term_has_types items locals term
  term-types (Term.Goto block) h o s = refl
  term-types (Term.If on there other) h o s = λ i. is_bool (operand-same on h.0 i)
  term-types (Term.Case on variant there other) h o s =
      λ i. option_map_or (λ adt. enum_variant items adt variant) (adt_of (ty-same on o.0 i)) false
  term-types (Term.Math to op left right next unwind) h o s =
      λ i. same_int (operand-same left h.0 i) (operand-same right h.1.0 i)
      && same_int (operand-same left h.0 i) (ty-same to s.0 i)
  term-types (Term.Negate to of next unwind) h o s =
      λ i. is_signed (operand-same of h.0 i) && same_int (operand-same of h.0 i) (ty-same to s.0 i)
  term-types (Term.Bounds index count next unwind) h o s = λ i. is_int IntKind.Usize (operand-same index h.0 i)
  term-types (Term.Call to body args next unwind) h o s =
      λ i. option_map_or (λ sig. call-same to args sig s.0 h i) (slice_get items.bodies body) false
      && not (is_drop_body items body)
  term-types (Term.Virtual to trait_no method args next unwind) h o s =
      λ i. option_map_or (λ sig. call-same to args sig s.0 h i) (method_at items trait_no method) false
  term-types (Term.Ask to next unwind) h o s = λ i. is_int IntKind.I32 (ty-same to s.0 i)
  term-types (Term.DropAt place next unwind) h o s = refl
  term-types (Term.Panic why unwind) h o s = refl
  term-types Term.Return h o s = refl
  term-types Term.Resume h o s = refl

  -- ---- all places of a line are in its list

  places-in : (places : List Place) → list_all locals_in places ≡ true → PlacesIn places
  places-in [] h = tt
  places-in (place ∷ rest) h =
      (first_so (locals_in place) (list_all locals_in rest) h, places-in rest (second_so (locals_in place) (list_all locals_in rest) h))

  operands-in : (operands : List Operand) (uses : List (PlaceUse × Place)) →
      list_all locals_in (map place_used (flat_map operand_uses operands ++ uses)) ≡ true →
      OperandsIn operands × (list_all locals_in (map place_used uses) ≡ true)
  operands-in [] uses h = (tt, h)
  operands-in (Operand.Copied place ∷ rest) uses h =
      let later = list_all locals_in (map place_used (flat_map operand_uses rest ++ uses)) in
      let more_in = operands-in rest uses (second_so (locals_in place) later h) in
      ((first_so (locals_in place) later h, more_in.0), more_in.1)
  operands-in (Operand.Moved place ∷ rest) uses h =
      let later = list_all locals_in (map place_used (flat_map operand_uses rest ++ uses)) in
      let more_in = operands-in rest uses (second_so (locals_in place) later h) in
      ((first_so (locals_in place) later h, more_in.0), more_in.1)
  operands-in (Operand.Number value kind ∷ rest) uses h =
      let more_in = operands-in rest uses h in ((tt, more_in.0), more_in.1)
  operands-in (Operand.Truth value ∷ rest) uses h =
      let more_in = operands-in rest uses h in ((tt, more_in.0), more_in.1)
  operands-in (Operand.Unit ∷ rest) uses h =
      let more_in = operands-in rest uses h in ((tt, more_in.0), more_in.1)

  -- ---- whole lines

  split-in : (xs ys : List (PlaceUse × Place)) → list_all locals_in (map place_used (xs ++ ys)) ≡ true →
      (list_all locals_in (map place_used xs) ≡ true) × (list_all locals_in (map place_used ys) ≡ true)
  split-in [] ys h = (refl, h)
  split-in (x ∷ xs) ys h =
      let later = list_all locals_in (map place_used (xs ++ ys)) in
      let rest = split-in xs ys (second_so (locals_in (place_used x)) later h) in
      (both_true (first_so (locals_in (place_used x)) later h) rest.0, rest.1)

  stored-in : (places : List Place) → list_all locals_in (map place_used (map (λ place. (Stores, place)) places)) ≡ true →
      PlacesIn places
  stored-in [] h = tt
  stored-in (place ∷ rest) h =
      let later = list_all locals_in (map place_used (map (λ place. (Stores, place)) rest)) in
      (first_so (locals_in place) later h, stored-in rest (second_so (locals_in place) later h))

  used-in : (uses : List (PlaceUse × Place)) → list_all locals_in (map place_used uses) ≡ true →
      PlacesIn (map place_used uses)
  used-in uses h = places-in (map place_used uses) h

  pub stmt-same : (stmt : Stmt) → list_all locals_in (places_of_stmt stmt) ≡ true →
      stmt_is_typed items longer stmt ≡ stmt_is_typed items locals stmt
  stmt-same stmt h =
      let parts = split-in (flat_map operand_uses (operands_of_stmt stmt) ++ other_uses stmt)
      (map (λ place. (Stores, place)) (stored_by_stmt stmt)) h in
      let taken = operands-in (operands_of_stmt stmt) (other_uses stmt) parts.0 in
      let stored = stored-in (stored_by_stmt stmt) parts.1 in
      let places = places-same (places_of_stmt stmt) (places-in (places_of_stmt stmt) h) in
      let sized = sized-same (stored_by_stmt stmt) stored in
      let stand = stand-same (operands_of_stmt stmt) taken.0 in
      let types = stmt-types stmt taken.0 (used-in (other_uses stmt) taken.1) stored in
      λ i. (places i && sized i && stand i) && types i

  pub term-same : (term : Term) → list_all locals_in (places_of_term term) ≡ true →
      term_is_typed items longer term ≡ term_is_typed items locals term
  term-same term h =
      let uses = flat_map operand_uses (operands_of_term term) ++ other_term_uses term in
      let parts = split-places (map place_used uses) (stored_by_term term) h in
      let taken = operands-in (operands_of_term term) (other_term_uses term) parts.0 in
      let stored = places-in (stored_by_term term) parts.1 in
      let places = places-same (places_of_term term) (places-in (places_of_term term) h) in
      let sized = sized-same (stored_by_term term) stored in
      let stand = stand-same (operands_of_term term) taken.0 in
      let types = term-types term taken.0 (used-in (other_term_uses term) taken.1) stored in
      λ i. (places i && sized i && stand i) && types i
    where
      split-places : (xs ys : List Place) → list_all locals_in (xs ++ ys) ≡ true →
          (list_all locals_in xs ≡ true) × (list_all locals_in ys ≡ true)
      split-places [] ys h = (refl, h)
      split-places (x ∷ xs) ys h =
          let later = list_all locals_in (xs ++ ys) in
          let rest = split-places xs ys (second_so (locals_in x) later h) in
          (both_true (first_so (locals_in x) later h) rest.0, rest.1)

  pub row-same : (bodies : ℕ) (stmt : Stmt) → list_all locals_in (places_of_stmt stmt) ≡ true →
      stmt_has_row items bodies longer stmt ≡ stmt_has_row items bodies locals stmt
  row-same bodies (Stmt.Unsize to trait_no from) h =
      let parts = split-in (flat_map operand_uses (from ∷ []) ++ []) ((Stores, to) ∷ []) h in
      let taken = operands-in (from ∷ []) [] parts.0 in
      λ i. has_row items bodies trait_no (box_content (operand-same from taken.0.0 i))
  row-same bodies other h = refl
