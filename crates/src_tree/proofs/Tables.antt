-- Each number of the table stands for its step.
use Rattle.std.proofs.Common.{◌≡◌, ℕ, Option, Some, None, option_map, map, slice_get, refl, sym, ap, ◌∙◌}
use Rattle.std.proofs.lemmas.Option.{slice_get-map}
use Rattle.src_tree.specs.declared.row.GrammarRow.{GrammarRow}
use Rattle.src_tree.specs.declared.table.GrammarStep.{GrammarStep}
use Rattle.src_tree.specs.declared.table.TheConstants.{TABLE}
use Rattle.src_tree.specs.Grammar.{ends}
use Rattle.src_tree.specs.Table.{shown, or_end, rests, rest_at}

same_rests : map (shown rest_at) TABLE ≡ rests
unfolding rests rest_at
same_rests = refl

abbrev pub or_step : Option GrammarStep → GrammarStep
or_step None = GrammarStep.Ends GrammarRow.File
or_step (Some s) = s

either_way : (o : Option GrammarStep) → shown rest_at (or_step o) ≡ or_end (option_map (shown rest_at) o)
either_way None = refl
either_way (Some s) = refl

rest_is : (i : ℕ) → rest_at i ≡ or_end (slice_get rests i)
unfolding rest_at
rest_is i = refl

pub step_shown : (i : ℕ) → shown rest_at (or_step (slice_get TABLE i)) ≡ rest_at i
step_shown i =
    either_way (slice_get TABLE i) ∙ ap or_end (sym (slice_get-map (shown rest_at) TABLE i)) ∙ ap (λ z. or_end (slice_get z i)) same_rests ∙ sym (rest_is i)

pub step_there : (i : ℕ) (s : GrammarStep) → slice_get TABLE i ≡ Some s → shown rest_at s ≡ rest_at i
step_there i s e = ap (λ o. shown rest_at (or_step o)) (sym e) ∙ step_shown i

pub step_absent : (i : ℕ) → slice_get TABLE i ≡ None → ends GrammarRow.File ≡ rest_at i
step_absent i e = ap (λ o. shown rest_at (or_step o)) (sym e) ∙ step_shown i
