-- Two listed graphs that are equal as compared run alike.
use Rattle.std.proofs.Common.{◌≡◌, ℕ, Bool, true, false, List, ℤ, slice_get, refl, ap, ◌∙◌}
use Rattle.std.specs.Option.{option_map_or}
use Rattle.mir_base.specs.declared.trace.End.{End}
use Rattle.mir_base.specs.Trace.{Trace}
use Rattle.mir_ty.specs.Named.{text_of}
use Rattle.cfg_graph.specs.declared.graph.Body.{Body}
use Rattle.cfg_graph.specs.declared.graph.Graph.{Graph}
use Rattle.cfg_meaning.specs.Programs.{arguments_from, no_node, setting_of, code_of, graph_run}
use Rattle.cfg_meaning.specs.Walk.{walk}
use Rattle.store_model.specs.Concrete.Bodies.{main_of, run_of}
use Rattle.store_model.specs.Concrete.State.{State}
use Rattle.store_model.specs.Effects.{Effects, Stuck, Halts}
use Rattle.listing_write.specs.Compared.{IsListed, seen}
use Rattle.listing_write.proofs.Reading.Law.{one_graph_a_listing}
use Rattle.listing_runs.specs.Runs.{RunsAlike, RawRunsAlike, TextsAlike, OneRunAListing}
use Rattle.listing_runs.proofs.Listed.{of_both, answers_alike, locals_alike, blocks_both, main_same}
use Rattle.listing_runs.proofs.Reached.{SettingsAlike}
use Rattle.listing_runs.proofs.Texts.{text_same}
use Rattle.listing_runs.proofs.Walked.{walk_same, runs_same}

module _ (left right : Graph) (l : IsListed left) (r : IsListed right) (same : seen left ≡ seen right) where
  settings_alike : (strict : Bool) → SettingsAlike (setting_of strict left) (setting_of strict right)
  settings_alike strict = record {
    items = answers_alike left right l r same;
    locals = locals_alike left right l r same;
    strict = refl;
  }

  within_same : (p : Effects State) (turns n : ℕ) (w : State) →
      (code_of left).within p turns n w ≡ (code_of right).within p turns n w
  within_same p turns n w =
      of_both (λ (b : Body). b.blocks) (λ (c : Body). c.blocks)
      (λ o q. option_map_or (λ body. walk p n no_node body turns 0 w) o (Halts Stuck w)
      ≡ option_map_or (λ body. walk p n no_node body turns 0 w) q (Halts Stuck w)) refl (slice_get left.bodies n)
      (slice_get right.bodies n) (λ b c e f h. walk_same p n no_node b c h turns 0 w)
      (blocks_both left right l r same n)

  codes_same : code_of left ≡ code_of right
  codes_same = λ i. record {
    arguments = λ n args. arguments_from 1 args;
    answer = λ n. 0;
    within = λ p turns n w. within_same p turns n w i;
  }

  in_one_way : (strict : Bool) (asked : List ℤ) (ticks : ℕ) →
      run_of (setting_of strict left) (code_of left) (main_of left.items) asked ticks
      ≡ run_of (setting_of strict right) (code_of right) (main_of right.items) asked ticks
  in_one_way strict asked ticks =
      runs_same (setting_of strict left) (setting_of strict right) (settings_alike strict) (code_of left)
      (code_of right)
      codes_same (main_of left.items) (main_of right.items) (main_same left right l r same) asked ticks

pub runs_alike : RunsAlike
runs_alike left right l r same asked ticks = in_one_way left right l r same true asked ticks

pub raw_runs_alike : RawRunsAlike
raw_runs_alike left right l r same asked ticks = in_one_way left right l r same false asked ticks

pub texts_alike : TextsAlike
texts_alike left right l r same asked ticks =
    text_same left right l r same true asked ticks (graph_run left asked ticks).1
    ∙ ap (λ (run : Trace × End). text_of right.items run.0 run.1) (runs_alike left right l r same asked ticks)

pub one_run_a_listing : OneRunAListing
one_run_a_listing left right l r one =
    let same : seen left ≡ seen right = one_graph_a_listing left right l r one in
    (runs_alike left right l r same, texts_alike left right l r same)
