-- Where a path of a lowered body goes on, a run may: behind a store of a value of type `!` stands nothing but the way
-- to the block that returns, since what is lowered ends there; of other statements and of terminators the types tell
-- that they store none.
use Rattle.std.proofs.Common.{◌≡◌, inl, inr, ℕ, suc, ◌||◌, Bool, true, false, List, [], ◌∷◌, length, Option, Some, None, slice_get, refl, sym, ◌∙◌}
use Rattle.std.specs.Prelude.{option_and_then}
use Rattle.std.specs.Cmp.{first_so, second_so}
use Rattle.std.specs.Option.{option_map_or}
use Rattle.std.proofs.lemmas.Bool.{false≢true}
use Rattle.mir_base.specs.declared.int_kind.IntKind.{IntKind}
use Rattle.mir_ty.specs.declared.ty.Ty.{Ty}
use Rattle.mir_ty.specs.declared.ty.TyId.{TyId}
use Rattle.mir_ty.specs.ItemTable.{ItemTable, type_at}
use Rattle.cfg_graph.proofs.NoFaults.{broken-holds}
use Rattle.cfg_graph.specs.declared.graph.Block.{Block}
use Rattle.cfg_graph.specs.declared.graph.Body.{Body}
use Rattle.cfg_graph.specs.declared.place.Operand.{Operand}
use Rattle.cfg_graph.specs.declared.statement.Stmt.{Stmt}
use Rattle.cfg_graph.specs.declared.terminator.Term.{Term}
use Rattle.cfg_graph.specs.Places.{place_id, ty_of_place, ty_of_operand}
use Rattle.cfg_graph.specs.WellFormed.LineFaults.{stmt_tests, term_tests}
use Rattle.cfg_graph.specs.WellFormed.Typing.{stmt_has_types, term_has_types, stmt_is_typed, term_is_typed, are_elements, operands_are, operand_is}
use Rattle.store_model.specs.Places.TypeForms.{is_never, is_bool, is_int, same_int, is_adt, is_closure, box_content, tuple_parts, referent, is_dyn_of, same_id}
use Rattle.typed_tree.specs.Tree.{BodyTree, ProgramTree}
use Rattle.well_typed.specs.Program.{WellTyped}
use Rattle.lower_rules.proofs.Bodies.{lowered_returns, lowered_keeps_to_cleanup}
use Rattle.lower_rules.proofs.Stops as stops
use Rattle.lower_rules.proofs.Typed.{well_typed_names_loops}
use Rattle.lower_rules.specs.Laws.{NamesItsLoops}
use Rattle.lower_rules.specs.Lower.{body_of, frame}
use Rattle.lower_laws.specs.Lowerable.{IsLowerable}
use Rattle.lower_laws.specs.Lines.{LocalsHaveNoFault, LinesHaveNoFault}
use Rattle.lower_laws.proofs.Elsewhere.{kept-elsewhere}
use Rattle.lower_laws.proofs.Whole.{no_local_has_a_fault, no_line_has_a_fault}
use Rattle.lower_laws.proofs.WholeLines as whole_lines
use Rattle.lower_ready.proofs.PathFollow.{Lasts, GoesOn}
use Rattle.lower_ready.proofs.PathWatch.{stores_never}
use Rattle.lower_ready.proofs.PathWays.{makes_never}

or_false : (b : Bool) → (b || false) ≡ true → b ≡ true
or_false true e = refl
or_false false e = e

-- what passes a test that `!` does not pass
made : (o : Option Ty) (test : Option Ty → Bool) → test (Some Ty.Never) ≡ false → test o ≡ true → is_never o ≡ false
made (Some Ty.Never) test none passes = absurd (false≢true (sym none ∙ passes))
made None test none passes = refl
made (Some other) test none passes = refl

same_int_never : (o : Option Ty) → same_int o (Some Ty.Never) ≡ false
same_int_never None = refl
same_int_never (Some Ty.Never) = refl
same_int_never (Some other) = refl

module _ (p : ProgramTree) (w : WellTyped p) (low : IsLowerable p) (n : ℕ) (tree : BodyTree)
    (there : slice_get p.bodies n ≡ Some tree) where
  abbrev items : ItemTable
  items = p.items

  abbrev body : Body
  body = body_of p.items tree

  abbrev locals : List TyId
  locals = body.locals

  clean : LocalsHaveNoFault p.items (length p.bodies) body
  clean = no_local_has_a_fault p w low n tree there

  lines : LinesHaveNoFault p.items (length p.bodies) body
  lines = no_line_has_a_fault p w low n tree there

  named : NamesItsLoops tree
  named = well_typed_names_loops p w n tree there

  stmt_typed : (k : ℕ) (block : Block) → slice_get body.blocks k ≡ Some block → (line : ℕ) (stmt : Stmt) →
      slice_get block.stmts line ≡ Some stmt → stmt_has_types items locals stmt ≡ true
  stmt_typed k block e line stmt d =
      second_so _ (stmt_has_types items locals stmt)
      (broken-holds (stmt_tests items (length p.bodies) body stmt) ((lines k block e).0 line stmt d) 2
      (3, stmt_is_typed items locals stmt) refl)

  term_typed : (k : ℕ) (block : Block) → slice_get body.blocks k ≡ Some block →
      term_has_types items locals block.term ≡ true
  term_typed k block e =
      second_so _ (term_has_types items locals block.term)
      (broken-holds (term_tests items (length p.bodies) body block) (lines k block e).1 2
      (3, term_is_typed items locals block.term) refl)

  -- ---- what a terminator makes

  makes_none : (term : Term) → term_has_types items locals term ≡ true → makes_never items body term ≡ false
  makes_none (Term.Math to op left right next unwind) h =
      made (ty_of_place items locals to) (same_int (ty_of_operand items locals left))
      (same_int_never (ty_of_operand items locals left))
      (second_so _ (same_int (ty_of_operand items locals left) (ty_of_place items locals to)) h)
  makes_none (Term.Negate to of next unwind) h =
      made (ty_of_place items locals to) (same_int (ty_of_operand items locals of))
      (same_int_never (ty_of_operand items locals of))
      (second_so _ (same_int (ty_of_operand items locals of) (ty_of_place items locals to)) h)
  makes_none (Term.Ask to next unwind) h = made (ty_of_place items locals to) (is_int IntKind.I32) refl h
  makes_none other h = refl

  -- ---- statements

  abbrev Behind : Stmt → List Stmt → Term → Type 0
  Behind = stops.Behind (frame items tree) (λ key. ⊥)

  abbrev Ends : List Stmt → Term → Type 0
  Ends stmts term = (stmts ≡ []) × (term ≡ Term.Goto 1)

  not_so : {P : Type 0} (b : Bool) → b ≡ false → (b || false) ≡ true → P
  not_so true e d = absurd (false≢true (sym e))
  not_so false e d = absurd (false≢true d)

  no_reference : (unique : Bool) (o : Option TyId) →
      option_map_or (λ id. option_map_or (same_id id) (referent unique (Some Ty.Never)) false) o false ≡ false
  no_reference unique None = refl
  no_reference true (Some id) = refl
  no_reference false (Some id) = refl

  none_owned : (from : Operand) → stops.IsOwn (frame items tree) (λ key. ⊥) from → ⊥
  none_owned (Operand.Moved place) own = own.1.1
  none_owned (Operand.Copied place) own = own
  none_owned (Operand.Number value kind) own = own
  none_owned (Operand.Truth value) own = own
  none_owned Operand.Unit own = own

  ends : (stmt : Stmt) (stmts : List Stmt) (term : Term) → Behind stmt stmts term →
      stmt_has_types items locals stmt ≡ true →
      stores_never items locals stmt ≡ true → Ends stmts term
  ends (Stmt.Put to from) stmts term b h e = elim (b (or_false (is_never (ty_of_place items locals to)) e)) [
    | inl it ↦ it
    | inr own ↦ absurd (none_owned from own)
  ]
  ends (Stmt.Compare to op left right) stmts term b h e =
      not_so _ (made (ty_of_place items locals to) is_bool refl
      (first_so (is_bool (ty_of_place items locals to)) _ h)) e
  ends (Stmt.Not to operand) stmts term b h e =
      not_so _ (made (ty_of_place items locals to) is_bool refl
      (first_so (is_bool (ty_of_place items locals to)) _ h)) e
  ends (Stmt.Tuple to parts) stmts term b h e =
      not_so _ (made (ty_of_place items locals to)
      (λ o. option_map_or (λ types. operands_are items locals types parts) (tuple_parts o) false) refl h) e
  ends (Stmt.Array to parts) stmts term b h e =
      not_so _ (made (ty_of_place items locals to) (λ o. are_elements items locals parts o) refl h) e
  ends (Stmt.Make to adt variant parts) stmts term b h e =
      not_so _ (made (ty_of_place items locals to) (is_adt adt) refl
      (first_so (is_adt adt (ty_of_place items locals to)) _ h)) e
  ends (Stmt.Close to closure parts) stmts term b h e =
      not_so _ (made (ty_of_place items locals to) (is_closure closure) refl
      (first_so (is_closure closure (ty_of_place items locals to)) _ h)) e
  ends (Stmt.NewBox to operand) stmts term b h e =
      not_so _ (made (ty_of_place items locals to)
      (λ o. option_map_or (λ id. operand_is items locals id operand) (box_content o) false) refl h) e
  ends (Stmt.Unsize to trait_no from) stmts term b h e =
      not_so _ (made (ty_of_place items locals to)
      (λ o. is_dyn_of trait_no (option_and_then (type_at items) (box_content o))) refl
      (first_so (is_dyn_of trait_no (option_and_then (type_at items) (box_content (ty_of_place items locals to)))) _ h))
      e
  ends (Stmt.Borrow to unique of) stmts term b h e =
      not_so _ (made (ty_of_place items locals to)
      (λ o. option_map_or (λ id. option_map_or (same_id id) (referent unique o) false) (place_id items locals of) false)
      (no_reference unique (place_id items locals of)) h) e
  ends (Stmt.Touch place) stmts term b h e = absurd (false≢true e)
  ends (Stmt.Print operand) stmts term b h e = absurd (false≢true e)
  ends (Stmt.Forget operand) stmts term b h e = absurd (false≢true e)
  ends (Stmt.Free place) stmts term b h e = absurd (false≢true e)

  lasts : (stmts : List Stmt) (term : Term) → whole_lines.Stands p w n tree there clean stmts term →
      ((line : ℕ) (stmt : Stmt) → slice_get stmts line ≡ Some stmt → stmt_has_types items locals stmt ≡ true) →
      Lasts items locals stmts term
  lasts [] term s h = tt
  lasts (stmt ∷ stmts) term s h =
      (ends stmt stmts term s.0 (h 0 stmt refl), lasts stmts term s.1 (λ line later e. h (suc line) later e))

  pub goes_on : GoesOn items body
  goes_on = record {
    lasts = λ k block e. lasts block.stmts block.term
        (whole_lines.stands_behind p w n tree there clean k block e) (stmt_typed k block e);
    returns = lowered_returns items tree named;
    makes = λ k block e. makes_none block.term (term_typed k block e);
    elsewhere = kept-elsewhere body (lowered_keeps_to_cleanup items tree named);
  }
