-- All sites of one effect have the number of the node that acts; and which scopes are whose.
use Rattle.std.proofs.Common.{◌≡◌, refl, [], ◌∷◌, pos}
use Rattle.std.specs.Prelude.{ℕ, Option, Some, None, false}
use Rattle.store_model.specs.Effects.{EffectSite}
use Rattle.store_model.specs.Abstract.Effects.{AbstractState, abstract_effects}
use Rattle.typed_tree.specs.declared.node.Use.{Use}
use Rattle.typed_tree.specs.Tree.{Node, absent, Number, Variable, Call, Block, BodyTree}
use Rattle.src_meaning.specs.Evaluation.{meaning}
use Rattle.src_meaning.specs.Forms.{Into, LoopsAndGuards}
use Rattle.src_meaning.specs.Programs.{reached_by}
use Rattle.src_meaning.specs.Scopes.{Scopes, Run, At, Over, with_scope}
use Rattle.src_meaning.proofs.Examples.Conditions.{items}
use Rattle.src_meaning.proofs.Examples.Words.{a_name, i32, unit, n, used, nodes, let_, stmt, body}
use Rattle.src_meaning.proofs.Examples.WithD.{d_ty, d}

abbrev node_of : Option EffectSite → Option ℕ
node_of (Some site) = Some site.node
node_of None = None

-- fn main() { let x = D(1); take(x); take(x); }
abbrev main_twice : BodyTree
main_twice = body 2 [] unit
    (n 0 unit (Block (nodes (
    (let_ 1 (used 2 d_ty Use.Move a_name) (d 3 (pos 1)))
    ∷ (stmt 5 (n 6 unit (Call 1 (nodes ((used 7 d_ty Use.Move (Variable 2)) ∷ [])))))
    ∷ (stmt 8 (n 9 unit (Call 1 (nodes ((used 10 d_ty Use.Move (Variable 2)) ∷ [])))))
    ∷ [])) absent))

the_operand_uses_the_variable : node_of (reached_by items main_twice (false ∷ [])) ≡ Some 10
the_operand_uses_the_variable = refl

-- What the call takes, it takes itself. No typed program has two nodes of one number; here both operands are made in
-- one cell, and the call finds the second gone.
abbrev main_one_cell : BodyTree
main_one_cell = body 2 [] unit
    (n 0 unit (Block (nodes ((stmt 1 (n 2 unit (Call 1 (nodes ((d 3 (pos 1)) ∷ (d 3 (pos 2)) ∷ []))))) ∷ [])) absent))

the_call_takes_its_operands : node_of (reached_by items main_one_cell []) ≡ Some 2
the_call_takes_its_operands = refl

-- A statement's entries stand in the block's scope, also those that need no dropping.

abbrev around : LoopsAndGuards
around = record { answer = Into 0; loops = []; aliases = [] }

abbrev nothing_known : AbstractState
nothing_known = record { cells = []; choices = [] }

abbrev scopes_after : Node → Scopes → Scopes
scopes_after one S = scopes_of ((meaning items (abstract_effects items (λ local. None)) 1 one).evaluate around false
    (Into 0) S nothing_known)
  where
    scopes_of : Run AbstractState → Scopes
    scopes_of (At exit S w) = S
    scopes_of (Over halt w) = []

-- let x = 1; in the block 0
a_number_is_an_entry : scopes_after (let_ 1 (used 2 i32 Use.Copy a_name) (n 3 i32 (Number (pos 1))))
    (with_scope 0 false [])
    ≡ (record { node = 0; for_temporaries = false; entries = (record { key = 2; ty = i32 }) ∷ []; pending = [] }) ∷ []
a_number_is_an_entry = refl
