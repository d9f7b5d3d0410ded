use Rattle.std.proofs.Common.{List, Option, ℕ, suc, map, sym, subst}
use Rattle.lower_rules.specs.Codes.{lowers}
use Rattle.lower_passes.specs.declared.marks.CodeMark.{CodeMark}
use Rattle.lower_code.specs.Ops.{CodeWord}
use Rattle.lower_code.specs.View.{op_of}
use Rattle.lower_passes.specs.Reaching.{Keeps}
use Rattle.lower_passes.proofs.Behind.{found_first, found_second}
use Rattle.lower_passes.proofs.reach.reach_of_two.Goals as goal

pub returns-in-Some : goal.returns-in-Some
returns-in-Some c = λ f one another start known two.
    let ws : List CodeWord = map op_of c.args.code.words.now in
    let marks : List CodeMark = c.args.code.marks.now in
    let found = c.in-Some.ensures.two f one another start two in (
      c.wider.ensures.one (lowers f one).after
          (subst (λ (r : Option ℕ). Keeps r (lowers f one).after) (sym c.reach_at.ensures)
          (known one start c.in-Some.two.one (found_first f ws marks one another start c.in-Some.two found))),
      c.wider.ensures.another (lowers f another).after
          (subst (λ (r : Option ℕ). Keeps r (lowers f another).after) (sym c.reach_at-in-Some.ensures)
          (known another (suc c.in-Some.two.one) c.in-Some.two.another (found_second f ws marks one another start c.in-Some.two found))),
    )
