-- What is answered of an item, by its form.
use Rattle.std.proofs.Common.{◌≡◌, Option, Some, Result, Ok, Err, ap, subst, sym, ◌∙◌}
use Rattle.mir_base.specs.declared.rule.RuleError.{RuleError}
use Rattle.typeck_heads.proofs.Sequences.{stopped}
use Rattle.src_tree.specs.declared.node.SyntaxNode.{SyntaxNode}
use Rattle.src_ast.specs.Seen.{syn_of}
use Rattle.src_ast.specs.Sorts.{item_part}
use Rattle.src_ast.specs.Syntax.{shape_of, Item}
use Rattle.typeck_checker.specs.Stand.{GivesValue}
use Rattle.typeck_checker.specs.declared.checker.Checker.{Checker}
use Rattle.typing_rules.specs.Check.{TypingState, Broken, and_then, pure}
use Rattle.typing_rules.specs.Program.{Before, item_rules}
use Rattle.typing_rules.specs.Scope.{Env}
use Rattle.typeck_items.specs.Forms.{item_by}
use Rattle.typeck_items.proofs.ItemForms.{item_seen}

-- what came before stays as it was
unchanged : (o : Result (Unit {0} × TypingState) Broken) (before : Before) (r : Result (Unit {0}) RuleError) (after : Checker) →
    GivesValue (λ u. u) o r after → GivesValue (λ u. before) (and_then o (λ _. pure before)) r after
unchanged o before (Ok u) after is = ap (λ p. and_then p (λ _. pure before)) is
unchanged o before (Err e) after is = stopped o (λ _. pure before) e is

module _ (w : Env) (before : Before) (n : SyntaxNode) (s : TypingState) (r : Result (Unit {0}) RuleError) (after : Checker) where
  -- an item that is no impl
  pub plain_answers : (form : Item) (o : Result (Unit {0} × TypingState) Broken) → Some form ≡ item_part (shape_of (syn_of n)) →
      item_by w before n.at (Some form) s ≡ and_then o (λ _. pure before) → GivesValue (λ u. u) o r after →
      GivesValue (λ u. before) (item_rules w before (syn_of n) s) r after
  plain_answers form o seen is gives =
      subst (λ z. GivesValue (λ u. before) z r after)
      (sym (item_seen w before n s ∙ ap (λ z. item_by w before n.at z s) (sym seen) ∙ is)) (unchanged o before r after gives)

  -- an impl, by what comes before the next item
  pub impl_answers : (form : Item) (next : Before) (o : Result (Before × TypingState) Broken) → Some form ≡ item_part (shape_of (syn_of n)) →
      item_by w before n.at (Some form) s ≡ o → GivesValue (λ (u : Unit {0}). next) o r after →
      GivesValue (λ (u : Unit {0}). next) (item_rules w before (syn_of n) s) r after
  impl_answers form next o seen is gives =
      subst (λ z. GivesValue (λ (u : Unit {0}). next) z r after)
      (sym (item_seen w before n s ∙ ap (λ z. item_by w before n.at z s) (sym seen) ∙ is)) gives
