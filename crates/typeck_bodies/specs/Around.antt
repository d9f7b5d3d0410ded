-- What a body in Rust puts aside of the one around it, as the rules of typing see it.
use Rattle.std.specs.Prelude.{ℕ, List, [], ◌∷◌, ◌++◌, map}
use Rattle.mir_ty.specs.declared.ty.TyId.{TyId}
use Rattle.typeck_env.specs.Walked.{break_of}
use Rattle.typed_tree.specs.Tree.{BodyTree}
use Rattle.typed_tree.specs.View.{body_of}
use Rattle.typing_rules.specs.Check.{TypingState}
use Rattle.typeck_bodies.specs.declared.nested_bodies.Outer.{Outer}

-- the same state, with what was put aside of it: the next number of a node, the breaks, and the bodies that are whole
abbrev pub with_outer : Outer → TypingState → TypingState
with_outer outer s =
    record s {
      next_node = outer.next_node;
      breaks = map break_of outer.breaks;
      bodies = map body_of outer.bodies;
    }

-- a state where a body of its own begins
abbrev pub in_body : TypingState → TypingState
in_body s = record s { next_node = 0; breaks = []; bodies = [] }

-- a state behind a body: the body stands behind those that were whole before it, and before those inside it
abbrev pub behind_body : Outer → BodyTree → TypingState → TypingState
behind_body outer body s =
    record s {
      next_node = outer.next_node;
      breaks = map break_of outer.breaks;
      bodies = map body_of outer.bodies ++ body ∷ s.bodies;
    }
