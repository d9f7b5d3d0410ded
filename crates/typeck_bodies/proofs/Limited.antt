-- A body within the limit of nodes, as a step of the checker.
use Rattle.std.proofs.Common.{◌≡◌, Result, Ok, Err, ap, sym, subst, ◌∙◌}
use Rattle.mir_base.specs.declared.place_in_text.Pos.{Pos}
use Rattle.mir_base.specs.declared.rule.Rule.{Rule}
use Rattle.mir_base.specs.declared.rule.RuleError.{RuleError}
use Rattle.typeck_heads.specs.Answers.{Refuses}
use Rattle.typeck_checker.specs.Stand.{GivesValue, state}
use Rattle.typeck_checker.specs.declared.checker.Checker.{Checker}
use Rattle.typed_tree.specs.Tree.{BodyTree}
use Rattle.typed_tree.specs.View.{body_of}
use Rattle.typed_tree.specs.declared.body.TBody.{TBody}
use Rattle.typing_rules.specs.Bodies.{within_limit}
use Rattle.typing_rules.specs.Check.{TypingState}
use Rattle.typeck_bodies.specs.Whole.{IsWithin}

pub gives : (too_many : Rule) (at : Pos) (made body : BodyTree) (s : TypingState) (r : Result TBody RuleError) (after : Checker) → made ≡ body → state after ≡ s →
    IsWithin too_many at made s r → GivesValue body_of (within_limit too_many at body s) r after
gives too_many at made body s (Ok b) after same stays h =
    ap (λ x. within_limit too_many at x s) (sym same) ∙ h.0
    ∙ ap (λ x. Ok (x, s)) (sym h.1) ∙ ap (λ x. Ok (body_of b, x)) (sym stays)
gives too_many at made body s (Err e) after same stays h = subst (λ x. Refuses (within_limit too_many at x s) e) same h
