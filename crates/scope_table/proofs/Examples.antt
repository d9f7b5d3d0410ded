-- Tables of bodies, by computation.
use Rattle.std.proofs.Common.{◌≡◌, refl, ℕ, [], ◌∷◌, Some, None, pos, true, false}
use Rattle.std.specs.Prelude.{codes}
use Rattle.typed_tree.specs.Tree.{Node, node, Form, no_node, a_node, no_field, a_field, absent, present, Number, Variable, Make, Call, Borrow, Assign, Block, Let, Evaluate, IfLet, Match, Arm, Binding, VariantPattern, BodyTree}
use Rattle.scope_table.specs.declared.row.ScopeRow.{ScopeRow}
use Rattle.scope_table.specs.Table.{named, scope_rows}

-- the examples have no text and no types
abbrev n : ℕ → Form → Node
n id form = node id (record { line = 1; col = 1 }) (record { 0 = 0 }) None form

abbrev body : Node → BodyTree
body block = record { number = 0; params = []; answer = record { 0 = 0 }; block = block }

abbrev one : Node → Form
one x = Make 0 0 (a_field 0 x no_field)

abbrev number : ℕ → Node
number id = n id (Number (pos 1))

abbrev at : (id temporary : ℕ) → ScopeRow
at id t = record { node = named id; temporary = named t; destination = None; entry = None }

abbrev in_ : (id temporary scope : ℕ) → ScopeRow
in_ id t s = record { node = named id; temporary = named t; destination = None; entry = Some (named s) }

abbrev pending : (id temporary waits scope : ℕ) → ScopeRow
pending id t d s = record { node = named id; temporary = named t; destination = Some (named d); entry = Some (named s) }

abbrev answer : ℕ → ScopeRow
answer id = record { node = named id; temporary = named id; destination = Some (named id); entry = None }

-- { let x = D(1); g(&D(2)) }: the temporary of the tail goes with the tail, before the locals of the block
of_a_tail : scope_rows (body (n 0 (Block (a_node (n 1 (Let (n 2 (Binding (codes "x"))) (present (n 3 (one (number 4)))))) no_node)
    (present (n 5 (Call 2 (a_node (n 6 (Borrow false (n 7 (one (number 8))))) no_node)))))))
    ≡ in_ 4 1 3 ∷ at 3 1 ∷ pending 2 1 1 0 ∷ at 1 1 ∷ in_ 8 5 7 ∷ in_ 7 5 5 ∷ in_ 6 5 5 ∷ at 5 5 ∷ answer 0 ∷ []
of_a_tail = refl

-- { f(&D(1)); }: the value of the statement and its temporary are entries of the statement
of_a_statement : scope_rows (body (n 0 (Block (a_node (n 1 (Evaluate (n 2 (Call 2 (a_node (n 3 (Borrow false (n 4 (one (number 5))))) no_node))))) no_node) absent)))
    ≡ in_ 5 1 4 ∷ in_ 4 1 1 ∷ in_ 3 1 2 ∷ pending 2 1 1 1 ∷ at 1 1 ∷ answer 0 ∷ []
of_a_statement = refl

-- { if let V(b) = j(&D(1)) { 1 } else { 2 } }, as a tail: scrutinee, names and the taken block are in one scope, the
-- other block is in its own
of_if_let : scope_rows (body (n 0 (Block no_node (present (n 1 (IfLet (n 2 (VariantPattern 1 true (a_field 0 (n 3 (Binding (codes "b"))) no_field)))
    (n 4 (Call 2 (a_node (n 5 (Borrow false (n 6 (one (number 7))))) no_node)))
    (n 8 (Block no_node (present (number 9)))) (present (n 10 (Block no_node (present (number 11)))))))))))
    ≡ in_ 7 1 6 ∷ in_ 6 1 1 ∷ in_ 5 1 4 ∷ in_ 4 1 1 ∷ at 2 1 ∷ in_ 3 1 1 ∷ at 9 9 ∷ at 8 8 ∷ at 11 11 ∷ at 10 10 ∷ at 1 1 ∷ answer 0 ∷ []
of_if_let = refl

-- { match { D(1) } { b => f(&D(2)) }; }: the block that is matched is a temporary of the statement, pending until it is
-- complete; the name is an entry of the arm, whose body is a scope for its own temporaries
of_a_match : scope_rows (body (n 0 (Block (a_node (n 1 (Evaluate (n 2 (Match (n 3 (Block no_node (present (n 4 (one (number 5))))))
    (a_node (n 6 (Arm (n 7 (Binding (codes "b"))) absent (n 8 (Call 2 (a_node (n 9 (Borrow false (n 10 (one (number 11))))) no_node))))) no_node))))) no_node) absent)))
    ≡ in_ 5 4 4 ∷ at 4 4 ∷ pending 3 1 1 1 ∷ at 6 1 ∷ in_ 7 1 6 ∷ in_ 11 8 10 ∷ in_ 10 8 8 ∷ in_ 9 8 8 ∷ at 8 8 ∷ pending 2 1 1 1 ∷ at 1 1 ∷ answer 0 ∷ []
of_a_match = refl

-- { x = D(1); }: the value is an entry of the assignment until it is stored, and made before the place is reached
of_an_assignment : scope_rows (body (n 0 (Block (a_node (n 1 (Evaluate (n 2 (Assign (n 3 (Variable 9)) (n 4 (one (number 5))))))) no_node) absent)))
    ≡ in_ 5 1 4 ∷ in_ 4 1 2 ∷ at 3 1 ∷ pending 2 1 1 1 ∷ at 1 1 ∷ answer 0 ∷ []
of_an_assignment = refl
