-- Places, operands, statements and terminators as a listing writes them.
use Rattle.std.specs.Prelude.{ℕ, Bool, true, false, List, ◌++◌, map, flat_map, codes}
use Rattle.std.specs.Fmt.{decimal, signed_decimal}
use Rattle.mir_base.specs.declared.operator.Cmp.{Cmp}
use Rattle.mir_base.specs.declared.operator.Math.{Math}
use Rattle.mir_base.specs.Lines.{why_word}
use Rattle.mir_ty.specs.ItemTable.{ItemTable}
use Rattle.mir_ty.specs.Named.{adt_name}
use Rattle.cfg_graph.specs.declared.place.Operand.{Operand}
use Rattle.cfg_graph.specs.declared.place.Place.{Place}
use Rattle.cfg_graph.specs.declared.place.Step.{Step}
use Rattle.cfg_graph.specs.declared.statement.Stmt.{Stmt}
use Rattle.cfg_graph.specs.declared.terminator.Term.{Term}
use Rattle.cfg_graph.specs.declared.terminator.Unwind.{Unwind}
use Rattle.listing_write.specs.Lists.{in_parentheses}
use Rattle.listing_write.specs.Types.{kind_text, trait_name}

abbrev pub step_text : Step → List ℕ
step_text (Step.Part n) = codes "." ++ decimal n
step_text (Step.Field variant part) = codes "." ++ decimal variant ++ codes ":" ++ decimal part
step_text Step.Inside = codes ".*"
step_text (Step.Index local) = codes "[_" ++ decimal local ++ codes "]"

abbrev pub place_text : Place → List ℕ
place_text place = codes "_" ++ decimal place.local ++ flat_map step_text place.steps

abbrev pub truth_text : Bool → List ℕ
truth_text true = codes "const true"
truth_text false = codes "const false"

abbrev pub operand_text : Operand → List ℕ
operand_text (Operand.Copied place) = codes "copy " ++ place_text place
operand_text (Operand.Moved place) = codes "move " ++ place_text place
operand_text (Operand.Number value kind) = codes "const " ++ signed_decimal value ++ codes "_" ++ kind_text kind
operand_text (Operand.Truth value) = truth_text value
operand_text Operand.Unit = codes "const ()"

abbrev pub operands_text : List Operand → List ℕ
operands_text operands = in_parentheses (map operand_text operands)

abbrev pub comparison_text : Cmp → List ℕ
comparison_text Cmp.Eq = codes "eq"
comparison_text Cmp.Ne = codes "ne"
comparison_text Cmp.Lt = codes "lt"
comparison_text Cmp.Le = codes "le"
comparison_text Cmp.Gt = codes "gt"
comparison_text Cmp.Ge = codes "ge"

abbrev pub math_text : Math → List ℕ
math_text Math.Add = codes "add"
math_text Math.Sub = codes "sub"
math_text Math.Mul = codes "mul"
math_text Math.Div = codes "div"
math_text Math.Rem = codes "rem"

abbrev pub borrow_text : Bool → List ℕ
borrow_text true = codes " = &mut "
borrow_text false = codes " = & "

abbrev pub stmt_text : ItemTable → Stmt → List ℕ
stmt_text items (Stmt.Put to from) = place_text to ++ codes " = " ++ operand_text from
stmt_text items (Stmt.Compare to op left right) =
    place_text to ++ codes " = " ++ comparison_text op ++ codes " " ++ operand_text left ++ codes " " ++
    operand_text right
stmt_text items (Stmt.Not to operand) = place_text to ++ codes " = not " ++ operand_text operand
stmt_text items (Stmt.Tuple to parts) = place_text to ++ codes " = tuple " ++ operands_text parts
stmt_text items (Stmt.Array to parts) = place_text to ++ codes " = array " ++ operands_text parts
stmt_text items (Stmt.Make to adt variant parts) =
    place_text to ++ codes " = make " ++ adt_name items adt ++ codes " " ++ decimal variant ++ codes " " ++
    operands_text parts
stmt_text items (Stmt.Close to closure parts) =
    place_text to ++ codes " = close " ++ decimal closure ++ codes " " ++ operands_text parts
stmt_text items (Stmt.NewBox to operand) = place_text to ++ codes " = box " ++ operand_text operand
stmt_text items (Stmt.Unsize to trait_no from) =
    place_text to ++ codes " = unsize " ++ trait_name items trait_no ++ codes " " ++ operand_text from
stmt_text items (Stmt.Borrow to unique of) = place_text to ++ borrow_text unique ++ place_text of
stmt_text items (Stmt.Touch place) = codes "touch " ++ place_text place
stmt_text items (Stmt.Print operand) = codes "print " ++ operand_text operand
stmt_text items (Stmt.Forget operand) = codes "forget " ++ operand_text operand
stmt_text items (Stmt.Free place) = codes "free " ++ place_text place

abbrev pub unwind_text : Unwind → List ℕ
unwind_text (Unwind.Block block) = decimal block
unwind_text Unwind.Resume = codes "resume"
unwind_text Unwind.Abort = codes "abort"

-- the ways out of what may panic
abbrev pub ways_text : ℕ → Unwind → List ℕ
ways_text next unwind = codes " then " ++ decimal next ++ codes " unwind " ++ unwind_text unwind

abbrev pub term_text : ItemTable → Term → List ℕ
term_text items (Term.Goto block) = codes "goto " ++ decimal block
term_text items (Term.If on if_true if_false) =
    codes "if " ++ operand_text on ++ codes " " ++ decimal if_true ++ codes " " ++ decimal if_false
term_text items (Term.Case on variant if_true if_false) =
    codes "case " ++ place_text on ++ codes " " ++ decimal variant ++ codes " " ++ decimal if_true ++ codes " " ++
    decimal if_false
term_text items (Term.Math to op left right next unwind) =
    place_text to ++ codes " = " ++ math_text op ++ codes " " ++ operand_text left ++ codes " " ++
    operand_text right ++ ways_text next unwind
term_text items (Term.Negate to of next unwind) =
    place_text to ++ codes " = neg " ++ operand_text of ++ ways_text next unwind
term_text items (Term.Bounds index count next unwind) =
    codes "bounds " ++ operand_text index ++ codes " " ++ decimal count ++ ways_text next unwind
term_text items (Term.Call to body args next unwind) =
    place_text to ++ codes " = call " ++ decimal body ++ codes " " ++ operands_text args ++ ways_text next unwind
term_text items (Term.Virtual to trait_no method args next unwind) =
    place_text to ++ codes " = virtual " ++ trait_name items trait_no ++ codes " " ++ decimal method ++ codes " " ++
    operands_text args ++ ways_text next unwind
term_text items (Term.Ask to next unwind) = place_text to ++ codes " = ask" ++ ways_text next unwind
term_text items (Term.DropAt place next unwind) = codes "drop " ++ place_text place ++ ways_text next unwind
term_text items (Term.Panic why unwind) = codes "panic " ++ why_word why ++ codes " unwind " ++ unwind_text unwind
term_text items Term.Return = codes "return"
term_text items Term.Resume = codes "resume"
