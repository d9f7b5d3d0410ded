-- What a statement or a terminator does with places, in the order in which it does it.
use Rattle.std.specs.Prelude.{List, [], ◌∷◌, ◌++◌, map, flat_map}
use Rattle.cfg_graph.specs.declared.place.Place.{Place}
use Rattle.cfg_graph.specs.declared.place.Operand.{Operand}
use Rattle.cfg_graph.specs.declared.statement.Stmt.{Stmt}
use Rattle.cfg_graph.specs.declared.terminator.Term.{Term}

pub data PlaceUse : Type 0 where
  Copies : PlaceUse
  Moves : PlaceUse
  Borrows : PlaceUse
  -- reads the whole value, without effect
  Touches : PlaceUse
  -- tests the variant
  Tests : PlaceUse
  Stores : PlaceUse
  Drops : PlaceUse
  Frees : PlaceUse

abbrev pub operand_uses : Operand → List (PlaceUse × Place)
operand_uses (Operand.Copied place) = (Copies, place) ∷ []
operand_uses (Operand.Moved place) = (Moves, place) ∷ []
operand_uses _ = []

abbrev pub operands_of_stmt : Stmt → List Operand
operands_of_stmt (Stmt.Put to from) = from ∷ []
operands_of_stmt (Stmt.Compare to op left right) = left ∷ right ∷ []
operands_of_stmt (Stmt.Not to operand) = operand ∷ []
operands_of_stmt (Stmt.Tuple to parts) = parts
operands_of_stmt (Stmt.Array to parts) = parts
operands_of_stmt (Stmt.Make to adt variant parts) = parts
operands_of_stmt (Stmt.Close to closure parts) = parts
operands_of_stmt (Stmt.NewBox to operand) = operand ∷ []
operands_of_stmt (Stmt.Unsize to trait_no from) = from ∷ []
operands_of_stmt (Stmt.Borrow to unique of) = []
operands_of_stmt (Stmt.Touch place) = []
operands_of_stmt (Stmt.Print operand) = operand ∷ []
operands_of_stmt (Stmt.Forget operand) = operand ∷ []
operands_of_stmt (Stmt.Free place) = []

-- the place into which a statement stores
abbrev pub stored_by_stmt : Stmt → List Place
stored_by_stmt (Stmt.Put to from) = to ∷ []
stored_by_stmt (Stmt.Compare to op left right) = to ∷ []
stored_by_stmt (Stmt.Not to operand) = to ∷ []
stored_by_stmt (Stmt.Tuple to parts) = to ∷ []
stored_by_stmt (Stmt.Array to parts) = to ∷ []
stored_by_stmt (Stmt.Make to adt variant parts) = to ∷ []
stored_by_stmt (Stmt.Close to closure parts) = to ∷ []
stored_by_stmt (Stmt.NewBox to operand) = to ∷ []
stored_by_stmt (Stmt.Unsize to trait_no from) = to ∷ []
stored_by_stmt (Stmt.Borrow to unique of) = to ∷ []
stored_by_stmt (Stmt.Touch place) = []
stored_by_stmt (Stmt.Print operand) = []
stored_by_stmt (Stmt.Forget operand) = []
stored_by_stmt (Stmt.Free place) = []

-- what is used otherwise than as an operand, before anything is stored
abbrev pub other_uses : Stmt → List (PlaceUse × Place)
other_uses (Stmt.Borrow to unique of) = (Borrows, of) ∷ []
other_uses (Stmt.Touch place) = (Touches, place) ∷ []
other_uses (Stmt.Free place) = (Frees, place) ∷ []
other_uses _ = []

-- the operands from left to right, what is used otherwise, and last the store
abbrev pub stmt_uses : Stmt → List (PlaceUse × Place)
stmt_uses stmt =
    flat_map operand_uses (operands_of_stmt stmt) ++ other_uses stmt ++
    map (λ place. (Stores, place)) (stored_by_stmt stmt)

abbrev pub operands_of_term : Term → List Operand
operands_of_term (Term.Goto block) = []
operands_of_term (Term.If on if_true if_false) = on ∷ []
operands_of_term (Term.Case on variant if_true if_false) = []
operands_of_term (Term.Math to op left right next unwind) = left ∷ right ∷ []
operands_of_term (Term.Negate to of next unwind) = of ∷ []
operands_of_term (Term.Bounds index count next unwind) = index ∷ []
operands_of_term (Term.Call to body args next unwind) = args
operands_of_term (Term.Virtual to trait_no method args next unwind) = args
operands_of_term (Term.Ask to next unwind) = []
operands_of_term (Term.DropAt place next unwind) = []
operands_of_term (Term.Panic why unwind) = []
operands_of_term Term.Return = []
operands_of_term Term.Resume = []

-- the place into which a terminator stores its result on its way on; nothing is stored where it panics
abbrev pub stored_by_term : Term → List Place
stored_by_term (Term.Goto block) = []
stored_by_term (Term.If on if_true if_false) = []
stored_by_term (Term.Case on variant if_true if_false) = []
stored_by_term (Term.Math to op left right next unwind) = to ∷ []
stored_by_term (Term.Negate to of next unwind) = to ∷ []
stored_by_term (Term.Bounds index count next unwind) = []
stored_by_term (Term.Call to body args next unwind) = to ∷ []
stored_by_term (Term.Virtual to trait_no method args next unwind) = to ∷ []
stored_by_term (Term.Ask to next unwind) = to ∷ []
stored_by_term (Term.DropAt place next unwind) = []
stored_by_term (Term.Panic why unwind) = []
stored_by_term Term.Return = []
stored_by_term Term.Resume = []

abbrev pub other_term_uses : Term → List (PlaceUse × Place)
other_term_uses (Term.Case on variant if_true if_false) = (Tests, on) ∷ []
other_term_uses (Term.DropAt place next unwind) = (Drops, place) ∷ []
other_term_uses _ = []

-- what a terminator does before it takes a way out
abbrev pub term_uses : Term → List (PlaceUse × Place)
term_uses term = flat_map operand_uses (operands_of_term term) ++ other_term_uses term

abbrev pub place_used : PlaceUse × Place → Place
place_used made = made.1

-- all places of a statement, and of a terminator
abbrev pub places_of_stmt : Stmt → List Place
places_of_stmt stmt = map place_used (stmt_uses stmt)

abbrev pub places_of_term : Term → List Place
places_of_term term = map place_used (term_uses term) ++ stored_by_term term
