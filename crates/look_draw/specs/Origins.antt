-- Where a place got its value, and where it was taken, in words.
use Rattle.std.specs.Prelude.{ℕ, List, ◌++◌, find, codes, Option, Some, None}
use Rattle.mir_base.specs.Lines.{line}
use Rattle.lower_rules.specs.declared.site.Site.{Site}
use Rattle.look_moves.specs.declared.origin.LineAt.{LineAt}
use Rattle.look_moves.specs.declared.origin.Origin.{Origin}
use Rattle.look_draw.specs.Drawings.{is_at, place_words}
use Rattle.look_draw.specs.Steps.{site_words}

-- a line that moves a place has a site, and one that drops a place has none
abbrev pub taken_words : Option Site → List ℕ
taken_words None = codes "the value is dropped"
taken_words (Some site) = codes "the value is moved at " ++ place_words site.at

module _ (sites : List Site) (body : ℕ) where
  -- the site of a line of the body
  abbrev pub site_of : LineAt → Option Site
  site_of at = find (is_at body at.block at.line) sites

  abbrev pub made_told : LineAt → List ℕ
  made_told at = line (codes "the value is made" ++ site_words (site_of at))

  abbrev pub taken_told : LineAt → List ℕ
  taken_told at = line (taken_words (site_of at))

  abbrev pub deeds_told : (made taken : Option LineAt) → List ℕ
  deeds_told None None = line (codes "no value is stored there before")
  deeds_told None (Some taken) = taken_told taken
  deeds_told (Some made) None = made_told made
  deeds_told (Some made) (Some taken) = made_told made ++ taken_told taken

  abbrev pub origin_told : Origin → List ℕ
  origin_told origin = deeds_told origin.made origin.taken
