-- How a refusal is explained: behind its own lines stand the way to a refused use, where what it wants was made and
-- taken, a sentence that says what is wrong, and the line of the text with a mark below the place.
use Rattle.std.specs.Prelude.{ℕ, List, [], ◌++◌, Option, Some, None, slice_get}
use Rattle.cfg_build.specs.declared.programs.Lowered.{Lowered}
use Rattle.cfg_graph.specs.Places.{named}
use Rattle.cfg_graph.specs.declared.graph.Body.{Body}
use Rattle.lower_rules.specs.declared.site.Site.{Site}
use Rattle.mir_base.specs.declared.place_in_text.Pos.{Pos}
use Rattle.mir_base.specs.Lines.{line}
use Rattle.mir_pipeline.specs.declared.refusal.Refusal.{Refusal}
use Rattle.mir_pipeline.specs.declared.refusal.Refusal.TheVariants as refusal
use Rattle.mir_text.specs.declared.error.ListingError.{ListingError}
use Rattle.mirdrop_program.specs.Refusals.{error_line, refusal_lines}
use Rattle.look_program.specs.Sentences.{of_error, of_refusal}
use Rattle.move_errors.specs.declared.errors.BadUse.{BadUse}
use Rattle.look_draw.specs.Origins.{origin_told}
use Rattle.look_draw.specs.Steps.{steps_told}
use Rattle.look_moves.specs.Origin.{origin_of}
use Rattle.look_lines.specs.Snippets.{snippet, line_of, numbered_line}

-- where a text is refused; want of memory has no place
abbrev pub place_of : Refusal → Pos
place_of (refusal.Lex code at) = at
place_of (refusal.Syntax at pos) = pos
place_of (refusal.TooDeep at pos) = pos
place_of (refusal.Broken rule at) = at
place_of (refusal.U1 bad site) = site.at
place_of (refusal.U2 bad site) = site.at
place_of refusal.Memory = record { line = 1; col = 1 }

abbrev pub explanation : List ℕ → Refusal → List ℕ
explanation text why = refusal_lines why ++ line (of_refusal why) ++ snippet text (place_of why)

-- where the place of a refused use got its value, and where it was taken
abbrev pub origin_told_of : List Site → BadUse → Option Body → List ℕ
origin_told_of sites bad None = []
origin_told_of sites bad (Some body) =
    origin_told sites bad.body (origin_of body bad.path bad.line (named bad.place))

-- the way to a refused use, and that
abbrev pub story_of : Lowered → BadUse → List ℕ
story_of lowered bad =
    steps_told lowered.graph lowered.sites bad.body bad.path
    ++ origin_told_of lowered.sites bad (slice_get lowered.graph.bodies bad.body)

abbrev pub way_to : Lowered → Refusal → List ℕ
way_to lowered (refusal.U1 bad site) = story_of lowered bad
way_to lowered (refusal.U2 bad site) = story_of lowered bad
way_to lowered other = []

abbrev pub explanation_of_use : List ℕ → Lowered → Refusal → List ℕ
explanation_of_use text lowered why =
    refusal_lines why ++ way_to lowered why ++ line (of_refusal why) ++ snippet text (place_of why)

-- the line at which a listing is refused
abbrev pub line_in : ListingError → ℕ
line_in (ListingError.BadListing n) = n
line_in (ListingError.BadGraph fault n) = n
line_in ListingError.Memory = 1

abbrev pub listing_explanation : List ℕ → ListingError → List ℕ
listing_explanation text error =
    error_line error ++ line (of_error error) ++ numbered_line (line_in error) (line_of (line_in error) text)
