-- A walk in Rust, as the rules of typing see it, and what a call answers beside a step of theirs.
use Rattle.std.specs.Prelude.{◌≡◌, ℕ, map, Result, Ok, Err}
use Rattle.mir_base.specs.declared.place_in_text.NodeId.{NodeId}
use Rattle.mir_base.specs.declared.rule.RuleError.{RuleError}
use Rattle.mir_ty.specs.ItemTable.{ItemTable}
use Rattle.mir_ty.specs.declared.ty.TyId.{TyId}
use Rattle.typeck_heads.specs.Answers.{Refuses}
use Rattle.typeck_env.specs.declared.walk.BreakOut.{BreakOut}
use Rattle.typeck_env.specs.declared.walk.Walk.{Walk}
use Rattle.typed_tree.specs.View.{body_of}
use Rattle.typing_rules.specs.Check.{TypingState, Broken}

abbrev pub node_no : NodeId → ℕ
node_no id = id.0

abbrev pub break_of : BreakOut → ℕ × TyId
break_of b = (b.from.0, b.ty)

abbrev pub state_of : Walk → TypingState
state_of walk =
    record {
      items = walk.items;
      next_node = walk.next_node;
      next_body = walk.next_body;
      breaks = map break_of walk.breaks;
      bodies = map body_of walk.bodies;
    }

-- what a step gives is what a call answers, and the walk has come as far; want of memory says nothing
abbrev pub Gives : {A B : Type 0} → (B → A) → Result (A × TypingState) Broken → Result B RuleError → Walk → Type 0
Gives view outcome (Ok b) after = outcome ≡ Ok (view b, state_of after)
Gives view outcome (Err e) after = Refuses outcome e

-- nothing but types, or closures, is new
abbrev pub HasOnlyTypes : ItemTable → ItemTable → Type 0
HasOnlyTypes old new =
    (new.adts ≡ old.adts) × (new.traits ≡ old.traits) × (new.impls ≡ old.impls) × (new.bodies ≡ old.bodies)
