-- Going through boxes and references.
use Rattle.std.specs.Prelude.{◌≡◌, Option, option_map, Result, Ok, Err}
use Rattle.mir_base.specs.declared.place_in_text.Pos.{Pos}
use Rattle.mir_base.specs.declared.rule.RuleError.{RuleError}
use Rattle.mir_ty.specs.declared.ty.TyId.{TyId}
use Rattle.typeck_heads.specs.Answers.{Refuses}
use Rattle.typed_tree.specs.Tree.{Node, Deref}
use Rattle.typeck_checker.specs.Stand.{stack, state, top}
use Rattle.typeck_checker.specs.declared.checker.Checker.{Checker}
use Rattle.typing_rules.specs.Check.{Broken, Check, TypingState, ◌>>=◌, pure, number}
use Rattle.typing_rules.specs.Places.{a_node_of}

-- what a box or a reference leads to, which is of this type
abbrev pub deref_of : Pos → TyId → Node → Check Node
deref_of at ty base = do
  id ← number
  pure (a_node_of id at ty (Deref base))

-- the last node is the one that was gone to, and this was found of its type; want of memory says nothing
abbrev pub GivesFound : {A B : Type 0} → (B → A) → Result ((Node × Option A) × TypingState) Broken →
    Result (Option B) RuleError
    → Checker → Type 0
GivesFound view outcome (Ok found) after = outcome ≡ Ok ((top (stack after), option_map view found), state after)
GivesFound view outcome (Err e) after = Refuses outcome e
