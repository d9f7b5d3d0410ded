-- What is told of the forms of a group, as the rules of borrows have it, and nothing of other forms.
use Rattle.std.specs.Prelude.{Bool, true, ◌∷◌, Option, if◌then◌else◌}
use Rattle.mir_base.specs.declared.place_in_text.Pos.{Pos}
use Rattle.typed_tree.specs.Tree.{Node, Form, Index, Assign, Borrow, Call, MethodCall, VirtualCall, ClosureCall, If, IfLet, WhileLet, Match, Arm, Arithmetic, Comparison, And, Or, While, Block, Let}
use Rattle.typing_rules.specs.Accesses.{Access, AccessPlace, Borrows, BorrowsUniquely, Aliases, CollectedAccesses, Argument, quiet, told, told_all, told_maybe, told_arms, told_guard, accesses_of, bound, told_form, arguments, argument, passed_together, of_scrutinee, place_of, ◌⊕◌}

abbrev pub borrow_access : Bool → Access
borrow_access is_unique = if is_unique then BorrowsUniquely else Borrows

-- an argument that is the receiver of a method, or another one
abbrev pub argument_told : Aliases → Bool → Node → Argument
argument_told aliases is_receiver n = record (argument aliases n) { is_receiver = is_receiver }

-- what reaches a place
abbrev pub reaching_told : Aliases → Pos → Form → CollectedAccesses
reaching_told aliases at (Index base index count) = told_form aliases at (Index base index count)
reaching_told aliases at (Assign place value) = told_form aliases at (Assign place value)
reaching_told aliases at (Borrow unique base) = told_form aliases at (Borrow unique base)
reaching_told aliases at _ = quiet

-- calls
abbrev pub call_told : Aliases → Form → CollectedAccesses
call_told aliases (Call body args) = passed_together (arguments aliases args)
call_told aliases (MethodCall body receiver args) =
    passed_together (argument_told aliases true receiver ∷ arguments aliases args)
call_told aliases (VirtualCall trait_no method receiver args) =
    passed_together (argument_told aliases true receiver ∷ arguments aliases args)
call_told aliases (ClosureCall body callee args) = told aliases callee ⊕ passed_together (arguments aliases args)
call_told aliases _ = quiet

-- branches, and loops on a pattern
abbrev pub branch_told : Aliases → Form → CollectedAccesses
branch_told aliases (If condition body otherwise) =
    told aliases condition ⊕ told aliases body ⊕ told_maybe aliases otherwise
branch_told aliases (IfLet pattern scrutinee body otherwise) =
    told aliases scrutinee ⊕ of_scrutinee aliases pattern scrutinee ⊕ told aliases body ⊕ told_maybe aliases otherwise
branch_told aliases (WhileLet pattern scrutinee body) =
    told aliases scrutinee ⊕ of_scrutinee aliases pattern scrutinee ⊕ told aliases body
branch_told aliases (Match scrutinee arms) =
    told aliases scrutinee ⊕ told_arms aliases (place_of aliases scrutinee) arms
branch_told aliases _ = quiet

-- parts one after the other
abbrev pub parts_told : Aliases → Pos → Form → CollectedAccesses
parts_told aliases at (Arithmetic operator left right) = told aliases left ⊕ told aliases right
parts_told aliases at (Comparison operator left right) = told aliases left ⊕ told aliases right
parts_told aliases at (And left right) = told aliases left ⊕ told aliases right
parts_told aliases at (Or left right) = told aliases left ⊕ told aliases right
parts_told aliases at (While condition body) = told aliases condition ⊕ told aliases body
parts_told aliases at (Block statements tail) = told_all aliases statements ⊕ told_maybe aliases tail
parts_told aliases at (Let pattern initialiser) = told_form aliases at (Let pattern initialiser)
parts_told aliases at _ = quiet

-- an arm, by what its scrutinee is
abbrev pub arm_told : Aliases → Option AccessPlace → Form → CollectedAccesses
arm_told aliases scrutinee (Arm pattern guard body) =
    told_guard aliases scrutinee (bound scrutinee pattern) guard ⊕ accesses_of (bound scrutinee pattern) ⊕ told aliases
    body
arm_told aliases scrutinee _ = quiet
