use Rattle.std.proofs.Common.{◌++◌, ◌∙◌, ap}
use Rattle.soak_text.specs.Text as text
use Rattle.soak_text.proofs.Lines.{all_lines, one_more}
use Rattle.soak_text.proofs.text.soak_text.Goals as goal

pub loop-number-preserved : goal.loop-number-preserved
loop-number-preserved c =
    c.in_ok-put_function.ensures ∙ ap (λ w. w ++ text.function_line c.loop-number.number) c.loop-number.invariant
    ∙ one_more (text.struct_line ++ text.impl_line) c.loop-number.number

pub returns : goal.returns
returns c =
    c.from_vec.ensures ∙ ap (λ v. v.items) c.into_bytes.ensures.value ∙ c.in_ok-put_main.ensures
    ∙ ap (λ w. w ++ text.main_line c.args.k) c.loop-number.invariant
    ∙ all_lines c.args.k c.loop-number.number c.loop-number-test.false c.loop-number.auto.number-end
