-- The stores that the code makes for statements and terminators are those that their uses ask for.
use Rattle.std.proofs.Common.{◌≡◌, ◌∙◌, ◌∷◌, [], ◌++◌, true, false, List, map, flat_map, append_assoc, append-nil, refl, sym, ap}
use Rattle.std.proofs.lemmas.Grind.{flat_map-append}
use Rattle.mir_ty.specs.ItemTable.{ItemTable}
use Rattle.cfg_graph.specs.declared.graph.Body.{Body}
use Rattle.cfg_graph.specs.declared.place.Place.{Place}
use Rattle.cfg_graph.specs.declared.place.Operand.{Operand}
use Rattle.cfg_graph.specs.declared.statement.Stmt.{Stmt}
use Rattle.cfg_graph.specs.declared.terminator.Term.{Term}
use Rattle.cfg_graph.specs.Uses.{PlaceUse, Copies, Moves, Borrows, Touches, Tests, Stores, Drops, Frees, operand_uses, operands_of_stmt, operands_of_term, other_uses, other_term_uses, stmt_uses, stored_by_stmt, term_uses}
use Rattle.drop_elaborate.specs.Elaborated as rules
use Rattle.drop_flags.specs.Asked.{place_stores, operand_stores, freed_stores, stored_stores, stmt_stores, dropped_stores, term_stores}
use Rattle.drop_flags.specs.Flags.{AreFlags, paths_of}
use Rattle.drop_flags.specs.declared.flags.Flags.{Flags}
use Rattle.drop_flags.proofs.Told.{use-is, use-nothing}

module _ (items : ItemTable) (body : Body) (flags : Flags) (are : AreFlags items body flags) where
  abbrev of_use : PlaceUse × Place → List Stmt
  of_use = rules.flags_of_use items body (paths_of flags)

  abbrev of_uses : List (PlaceUse × Place) → List Stmt
  of_uses = rules.flags_of_uses items body (paths_of flags)

  -- one use that leaves its place as it was, or not
  still : (how : PlaceUse) (place : Place) → of_use (how, place) ≡ [] → [] ≡ of_uses ((how, place) ∷ [])
  still how place none = sym (ap (λ (l : List Stmt). l ++ []) none)

  gone : (how : PlaceUse) (place : Place) → place_stores flags place false ≡ of_use (how, place) →
      place_stores flags place false ≡ of_uses ((how, place) ∷ [])
  gone how place is = is ∙ sym (append-nil (of_use (how, place)))

  operand-is : (operand : Operand) → operand_stores flags operand ≡ of_uses (operand_uses operand)
  operand-is (Operand.Copied place) = still Copies place (use-nothing items body flags are Copies place refl)
  operand-is (Operand.Moved place) = gone Moves place (use-is items body flags are Moves place true refl)
  operand-is (Operand.Number number kind) = refl
  operand-is (Operand.Truth truth) = refl
  operand-is Operand.Unit = refl

  operands-are : (operands : List Operand) →
      flat_map (operand_stores flags) operands ≡ of_uses (flat_map operand_uses operands)
  operands-are [] = refl
  operands-are (operand ∷ operands) =
      (λ i. operand-is operand i ++ operands-are operands i)
      ∙ sym (flat_map-append of_use (operand_uses operand) (flat_map operand_uses operands))

  freed-is : (stmt : Stmt) → freed_stores flags stmt ≡ of_uses (other_uses stmt)
  freed-is (Stmt.Put to from) = refl
  freed-is (Stmt.Compare to op left right) = refl
  freed-is (Stmt.Not to operand) = refl
  freed-is (Stmt.Tuple to parts) = refl
  freed-is (Stmt.Array to parts) = refl
  freed-is (Stmt.Make to adt variant parts) = refl
  freed-is (Stmt.Close to closure parts) = refl
  freed-is (Stmt.NewBox to operand) = refl
  freed-is (Stmt.Unsize to trait_no from) = refl
  freed-is (Stmt.Borrow to unique of) = still Borrows of (use-nothing items body flags are Borrows of refl)
  freed-is (Stmt.Touch place) = still Touches place (use-nothing items body flags are Touches place refl)
  freed-is (Stmt.Print operand) = refl
  freed-is (Stmt.Forget operand) = refl
  freed-is (Stmt.Free place) = gone Frees place (use-is items body flags are Frees place true refl)

  kept : (place : Place) → place_stores flags place true ≡ of_uses ((Stores, place) ∷ [])
  kept place = use-is items body flags are Stores place false refl ∙ sym (append-nil (of_use (Stores, place)))

  stored-is : (stmt : Stmt) →
      stored_stores flags (stored_by_stmt stmt) ≡ of_uses (map (λ place. (Stores, place)) (stored_by_stmt stmt))
  stored-is (Stmt.Put to from) = kept to
  stored-is (Stmt.Compare to op left right) = kept to
  stored-is (Stmt.Not to operand) = kept to
  stored-is (Stmt.Tuple to parts) = kept to
  stored-is (Stmt.Array to parts) = kept to
  stored-is (Stmt.Make to adt variant parts) = kept to
  stored-is (Stmt.Close to closure parts) = kept to
  stored-is (Stmt.NewBox to operand) = kept to
  stored-is (Stmt.Unsize to trait_no from) = kept to
  stored-is (Stmt.Borrow to unique of) = kept to
  stored-is (Stmt.Touch place) = refl
  stored-is (Stmt.Print operand) = refl
  stored-is (Stmt.Forget operand) = refl
  stored-is (Stmt.Free place) = refl

  pub stmt-is : (stmt : Stmt) → stmt_stores flags stmt ≡ of_uses (stmt_uses stmt)
  stmt-is stmt =
      let taken = flat_map operand_uses (operands_of_stmt stmt) in
      let stored : List (PlaceUse × Place) = map (λ place. (Stores, place)) (stored_by_stmt stmt) in
      (λ i. operands-are (operands_of_stmt stmt) i ++ (freed-is stmt i ++ stored-is stmt i))
      ∙ sym (append_assoc (of_uses taken) (of_uses (other_uses stmt)) (of_uses stored))
      ∙ ap (λ (l : List Stmt). l ++ of_uses stored) (sym (flat_map-append of_use taken (other_uses stmt)))
      ∙ sym (flat_map-append of_use (taken ++ other_uses stmt) stored)

  dropped-is : (term : Term) → dropped_stores flags term ≡ of_uses (other_term_uses term)
  dropped-is (Term.Goto block) = refl
  dropped-is (Term.If on if_true if_false) = refl
  dropped-is (Term.Case on variant if_true if_false) = still Tests on (use-nothing items body flags are Tests on refl)
  dropped-is (Term.Math to op left right next unwind) = refl
  dropped-is (Term.Negate to of next unwind) = refl
  dropped-is (Term.Bounds index count next unwind) = refl
  dropped-is (Term.Call to callee args next unwind) = refl
  dropped-is (Term.Virtual to trait_no method args next unwind) = refl
  dropped-is (Term.Ask to next unwind) = refl
  dropped-is (Term.DropAt place next unwind) = gone Drops place (use-is items body flags are Drops place true refl)
  dropped-is (Term.Panic why unwind) = refl
  dropped-is Term.Return = refl
  dropped-is Term.Resume = refl

  pub term-is : (term : Term) → term_stores flags term ≡ of_uses (term_uses term)
  term-is term =
      (λ i. operands-are (operands_of_term term) i ++ dropped-is term i)
      ∙ sym (flat_map-append of_use (flat_map operand_uses (operands_of_term term)) (other_term_uses term))
