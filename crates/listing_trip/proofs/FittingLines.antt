-- The numbers of statements and terminators that have no fault fit their fields, one line a form.
use Rattle.std.proofs.Common.{◌≡◌, ℕ, ◌+◌, ◌-◌, ◌^◌, ◌<◌, Bool, true, false, not, ◌&&◌, List, [], ◌∷◌, ◌++◌, map, flat_map, length, Option, Some, None, All, is_some, nat_lt, slice_get, refl, arith}
use Rattle.std.specs.Prelude.{option_and_then}
use Rattle.std.specs.List.{list_all}
use Rattle.std.specs.Option.{option_map_or}
use Rattle.std.proofs.lemmas.Bool.{and_parts, false≢true}
use Rattle.mir_ty.specs.declared.adt.Adt.{Adt}
use Rattle.mir_ty.specs.declared.def.TraitDef.{TraitDef}
use Rattle.mir_ty.specs.AreItems.{AdtIsShort, AreShort, TraitIsShort}
use Rattle.mir_ty.specs.ItemTable.{ItemTable}
use Rattle.store_model.specs.Places.TypeForms.{adt_of}
use Rattle.cfg_graph.specs.declared.graph.Body.{Body}
use Rattle.cfg_graph.specs.declared.place.Operand.{Operand}
use Rattle.cfg_graph.specs.declared.place.Place.{Place}
use Rattle.cfg_graph.specs.declared.statement.Stmt.{Stmt}
use Rattle.cfg_graph.specs.declared.terminator.Term.{Term}
use Rattle.cfg_graph.specs.declared.terminator.Unwind.{Unwind}
use Rattle.cfg_graph.specs.Edges.{onward, targets, unwind_block, unwind_targets}
use Rattle.cfg_graph.specs.Uses.{PlaceUse, Stores, operand_uses, operands_of_stmt, operands_of_term, other_term_uses, other_uses, place_used, places_of_stmt, places_of_term, stmt_uses, stored_by_stmt, stored_by_term, term_uses}
use Rattle.cfg_graph.specs.WellFormed.LineFaults.{blocks_exist, locals_exist, stmt_numbers_exist, term_numbers_exist}
use Rattle.cfg_graph.specs.WellFormed.Typing.{constant_fits, enum_variant, is_sized, is_typed_place, method_at, operand_stands, operands_are, places_have_types, stmt_has_types, stmt_is_typed, term_has_types, term_is_typed, ty, variant_at}
use Rattle.listing_write.specs.Fields.{Fits, OperandFits, PlaceFits, StmtFits, TermFits, TyFits, UnwindFits}
use Rattle.listing_write.proofs.Reading.Basics.{Every}
use Rattle.listing_write.proofs.Reading.Listed.{all_at}
use Rattle.mir_text.proofs.Sections.{every_append}
use Rattle.mir_text.proofs.Told.{all_from_every}
use Rattle.listing_trip.specs.Numbers.{CountFits}
use Rattle.listing_trip.proofs.Fitting.{below, operand_fits, place_fits, some_within}

abbrev Made : Type 0
Made = PlaceUse × Place

abbrev UsedFits : Made → Type 0
UsedFits made = PlaceFits (place_used made)

every_map : {X Y : Type 0} (P : Y → Type 0) (f : X → Y) (xs : List X) → Every P (map f xs) → Every (λ x. P (f x)) xs
every_map P f [] h = tt
every_map P f (x ∷ xs) h = (h.0, every_map P f xs h.1)

module _ (items : ItemTable) (bodies : ℕ) (few_bodies : bodies < 2 ^ 32) (short : AreShort items)
    (counts : All TyFits items.types)
    (body : Body) (few_locals : length body.locals < 2 ^ 32 - 1) (few_blocks : length body.blocks < 2 ^ 32 - 1) where
  places_fit : (places : List Place) → list_all (locals_exist items bodies body) places ≡ true →
      list_all (is_typed_place items body.locals) places ≡ true → Every PlaceFits places
  places_fit [] there typed = tt
  places_fit (place ∷ places) there typed =
      let (here, others) = and_parts (locals_exist items bodies body place) _ there in
      let (is, are) = and_parts (is_typed_place items body.locals place) _ typed in
      (place_fits items short counts body.locals few_locals place here is, places_fit places others are)

  operands_fit : (operands : List Operand) → Every UsedFits (flat_map operand_uses operands) →
      list_all (operand_stands items body.locals) operands ≡ true → Every OperandFits operands
  operands_fit [] fine h = tt
  operands_fit (operand ∷ operands) fine h =
      let (own, others) = every_append UsedFits (operand_uses operand) (flat_map operand_uses operands) fine in
      let (stands, rest) = and_parts (operand_stands items body.locals operand) _ h in
      let (sized, within) = and_parts (not _) (constant_fits operand) stands in
      (operand_fits items short counts body.locals few_locals operand own within, operands_fit operands others rest)

  -- the variant of a struct or an enum
  variant_fits : (adt variant : ℕ) → is_some (variant_at items adt variant) ≡ true → Fits variant
  variant_fits adt variant h = by (slice_get items.adts adt) refl h
    where
      by : (o : Option Adt) → slice_get items.adts adt ≡ o →
          is_some (option_and_then (λ def. slice_get def.variants variant) o) ≡ true → Fits variant
      by None e h = absurd (false≢true h)
      by (Some def) e h =
          let within = some_within def.variants variant h in
          let most = (all_at AdtIsShort items.adts adt def short.in_adts e).variants in
          omega (arith, within, most)

  made_of : {X : Type 0} (o : Option X) (f : X → Bool) → option_map_or f o false ≡ true → is_some o ≡ true
  made_of None f h = absurd (false≢true h)
  made_of (Some x) f h = refl

  enum_fits : (o : Option ℕ) (variant : ℕ) → option_map_or (λ adt. enum_variant items adt variant) o false ≡ true →
      Fits variant
  enum_fits None variant h = absurd (false≢true h)
  enum_fits (Some adt) variant h =
      variant_fits adt variant (and_parts (option_map_or (λ def. def.is_enum) (slice_get items.adts adt) false) _ h).1

  method_fits : (trait method : ℕ) → is_some (method_at items trait method) ≡ true → Fits method
  method_fits trait method h = by (slice_get items.traits trait) refl h
    where
      by : (o : Option TraitDef) → slice_get items.traits trait ≡ o →
          is_some (option_and_then (λ def. slice_get def.methods method) o) ≡ true → Fits method
      by None e h = absurd (false≢true h)
      by (Some def) e h =
          let within = some_within def.methods method h in
          let most = (all_at TraitIsShort items.traits trait def short.in_traits e).methods in
          omega (arith, within, most)

  closure_fits : (n : ℕ) → nat_lt n (length items.closures) ≡ true → Fits n
  closure_fits n h =
      below n (length items.closures) h
      (let most = short.others in omega (arith, most))

  -- a statement, by its places, its operands and what it is
  stmt_form : (stmt : Stmt) → Every UsedFits (other_uses stmt) →
      Every UsedFits (map (λ place. (Stores, place)) (stored_by_stmt stmt)) → Every OperandFits
      (operands_of_stmt stmt) →
      stmt_numbers_exist items bodies stmt ≡ true → stmt_has_types items body.locals stmt ≡ true → StmtFits stmt
  stmt_form (Stmt.Put to from) others stored ops there typed = (stored.0, ops.0)
  stmt_form (Stmt.Compare to op left right) others stored ops there typed = (stored.0, ops.0, ops.1.0)
  stmt_form (Stmt.Not to operand) others stored ops there typed = (stored.0, ops.0)
  stmt_form (Stmt.Tuple to parts) others stored ops there typed = (stored.0, all_from_every OperandFits parts ops)
  stmt_form (Stmt.Array to parts) others stored ops there typed = (stored.0, all_from_every OperandFits parts ops)
  stmt_form (Stmt.Make to adt variant parts) others stored ops there typed =
      let made = (and_parts _ (option_map_or (λ made. operands_are items body.locals made.fields parts)
      (variant_at items adt variant) false) typed).1 in (
        stored.0,
        variant_fits adt variant (made_of (variant_at items adt variant) _ made),
        all_from_every OperandFits parts ops,
      )
  stmt_form (Stmt.Close to closure parts) others stored ops there typed =
      (stored.0, closure_fits closure there, all_from_every OperandFits parts ops)
  stmt_form (Stmt.NewBox to operand) others stored ops there typed = (stored.0, ops.0)
  stmt_form (Stmt.Unsize to trait_no from) others stored ops there typed = (stored.0, ops.0)
  stmt_form (Stmt.Borrow to unique of) others stored ops there typed = (stored.0, others.0)
  stmt_form (Stmt.Touch place) others stored ops there typed = others.0
  stmt_form (Stmt.Print operand) others stored ops there typed = ops.0
  stmt_form (Stmt.Forget operand) others stored ops there typed = ops.0
  stmt_form (Stmt.Free place) others stored ops there typed = others.0

  pub stmt_fits : (stmt : Stmt) → stmt_numbers_exist items bodies stmt ≡ true →
      list_all (locals_exist items bodies body) (places_of_stmt stmt) ≡ true → stmt_is_typed items body.locals stmt ≡
      true →
      StmtFits stmt
  stmt_fits stmt numbers there typed =
      let (have, types) = and_parts (places_have_types items body.locals (stored_by_stmt stmt) (operands_of_stmt stmt)
      (places_of_stmt stmt)) _ typed in
      let (front, stand) = and_parts (list_all (is_typed_place items body.locals) (places_of_stmt stmt) && list_all
      (is_sized items body.locals) (stored_by_stmt stmt)) _ have in
      let (places, sized) = and_parts (list_all (is_typed_place items body.locals) (places_of_stmt stmt)) _ front in
      let stored : List Made = map (λ place. (Stores, place)) (stored_by_stmt stmt) in
      let used = every_map PlaceFits place_used (stmt_uses stmt) (places_fit (places_of_stmt stmt) there places) in
      let (before, last) = every_append UsedFits (flat_map operand_uses (operands_of_stmt stmt) ++ other_uses stmt)
      stored used in
      let (first, others) = every_append UsedFits (flat_map operand_uses (operands_of_stmt stmt)) (other_uses stmt)
      before in
      stmt_form stmt others last (operands_fit (operands_of_stmt stmt) first stand) numbers types

  -- a terminator, by the same and by the blocks to which its edges lead
  block_fits : (n : ℕ) → nat_lt n (length body.blocks) ≡ true → Fits n
  block_fits n h = below n (length body.blocks) h (omega (arith, few_blocks))

  targets_fit : (ns : List ℕ) → blocks_exist items bodies body ns ≡ true → Every Fits ns
  targets_fit [] h = tt
  targets_fit (n ∷ ns) h =
      let (here, others) = and_parts (nat_lt n (length body.blocks)) _ h in
      (block_fits n here, targets_fit ns others)

  unwind_fits : (unwind : Unwind) → Every Fits (unwind_block unwind ++ []) → UnwindFits unwind
  unwind_fits (Unwind.Block block) h = h.0
  unwind_fits Unwind.Resume h = tt
  unwind_fits Unwind.Abort h = tt

  term_form : (term : Term) → Every UsedFits (other_term_uses term) → Every PlaceFits (stored_by_term term) →
      Every OperandFits (operands_of_term term) → Every Fits (onward term) → Every Fits (unwind_targets term) →
      term_numbers_exist items bodies term ≡ true → term_has_types items body.locals term ≡ true → CountFits term →
      TermFits term
  term_form (Term.Goto block) others stored ops on unwinds there typed count = on.0
  term_form (Term.If test if_true if_false) others stored ops on unwinds there typed count = (ops.0, on.1.0, on.0)
  term_form (Term.Case at variant if_true if_false) others stored ops on unwinds there typed count =
      (others.0, enum_fits (adt_of (ty items body.locals at)) variant typed, on.1.0, on.0)
  term_form (Term.Math to op left right next unwind) others stored ops on unwinds there typed count =
      (stored.0, ops.0, ops.1.0, (on.0, unwind_fits unwind unwinds))
  term_form (Term.Negate to of next unwind) others stored ops on unwinds there typed count =
      (stored.0, ops.0, (on.0, unwind_fits unwind unwinds))
  term_form (Term.Bounds index size next unwind) others stored ops on unwinds there typed count =
      (ops.0, count, (on.0, unwind_fits unwind unwinds))
  term_form (Term.Call to callee args next unwind) others stored ops on unwinds there typed count = (
    stored.0,
    below callee bodies there few_bodies,
    all_from_every OperandFits args ops,
    (on.0, unwind_fits unwind unwinds),
  )
  term_form (Term.Virtual to trait_no method args next unwind) others stored ops on unwinds there typed count = (
    stored.0,
    method_fits trait_no method there,
    all_from_every OperandFits args ops,
    (on.0, unwind_fits unwind unwinds),
  )
  term_form (Term.Ask to next unwind) others stored ops on unwinds there typed count =
      (stored.0, (on.0, unwind_fits unwind unwinds))
  term_form (Term.DropAt place next unwind) others stored ops on unwinds there typed count =
      (others.0, (on.0, unwind_fits unwind unwinds))
  term_form (Term.Panic why unwind) others stored ops on unwinds there typed count = unwind_fits unwind unwinds
  term_form Term.Return others stored ops on unwinds there typed count = tt
  term_form Term.Resume others stored ops on unwinds there typed count = tt

  pub term_fits : (term : Term) → term_numbers_exist items bodies term ≡ true →
      blocks_exist items bodies body (targets term) ≡ true →
      list_all (locals_exist items bodies body) (places_of_term term) ≡ true → term_is_typed items body.locals term ≡
      true →
      CountFits term → TermFits term
  term_fits term numbers edges there typed count =
      let (have, types) = and_parts (places_have_types items body.locals (stored_by_term term) (operands_of_term term)
      (places_of_term term)) _ typed in
      let (front, stand) = and_parts (list_all (is_typed_place items body.locals) (places_of_term term) && list_all
      (is_sized items body.locals) (stored_by_term term)) _ have in
      let (places, sized) = and_parts (list_all (is_typed_place items body.locals) (places_of_term term)) _ front in
      let (used, stored) = every_append PlaceFits (map place_used (term_uses term)) (stored_by_term term)
      (places_fit (places_of_term term) there places) in
      let (first, others) = every_append UsedFits (flat_map operand_uses (operands_of_term term))
      (other_term_uses term) (every_map PlaceFits place_used (term_uses term) used) in
      let (on, unwinds) = every_append Fits (onward term) (unwind_targets term) (targets_fit (targets term) edges) in
      term_form term others stored (operands_fit (operands_of_term term) first stand) on unwinds numbers types count
