-- What the numbers of the table of steps stand for, and what a point of a row is.
use Rattle.std.specs.Prelude.{ℕ, List, [], ◌∷◌, ◌++◌, suc, Option, Some, None, slice_get}
use Rattle.src_tree.specs.declared.row.GrammarRow.{GrammarRow}
use Rattle.src_tree.specs.declared.table.GrammarStep.{GrammarStep}
use Rattle.src_tree.specs.declared.table.GrammarPoint.{GrammarPoint}
use Rattle.src_tree.specs.declared.table.JoinedBeginning.{JoinedBeginning}
use Rattle.src_tree.specs.declared.table.TheConstants.{TABLE}
use Rattle.src_tree.specs.Grammar.{GrammarRest, ends, token, either, part, maybe, list, more, many, items, alternatives, statements, arms, arm_body, after_break, NodeBeginning, Joined}

abbrev pub or_end : Option GrammarRest → GrammarRest
or_end None = ends GrammarRow.File
or_end (Some q) = q

-- a step, where its numbers stand for these
abbrev pub shown : (ℕ → GrammarRest) → GrammarStep → GrammarRest
shown at (GrammarStep.Ends r) = ends r
shown at (GrammarStep.Token k a) = token k (at a)
shown at (GrammarStep.Either k a b) = either k (at a) (at b)
shown at (GrammarStep.Part p a) = part p (at a)
shown at (GrammarStep.Maybe p a r) = maybe p (at a) r
shown at (GrammarStep.List p later dots close a) = list p later dots close (at a)
shown at (GrammarStep.Many p close a) = many p close (at a)
shown at GrammarStep.Items = items
shown at GrammarStep.Alternatives = alternatives
shown at (GrammarStep.Statements o) = statements o
shown at (GrammarStep.Arms some) = arms some
shown at GrammarStep.ArmBody = arm_body
shown at GrammarStep.AfterBreak = after_break

-- each step names steps before it alone
abbrev pub rests_from : List GrammarRest → List GrammarStep → List GrammarRest
rests_from qs [] = qs
rests_from qs (s ∷ steps) = rests_from (qs ++ shown (λ i. or_end (slice_get qs i)) s ∷ []) steps

unfoldable pub rests : List GrammarRest
rests = rests_from [] TABLE

unfoldable pub rest_at : ℕ → GrammarRest
rest_at i = or_end (slice_get rests i)

-- a list behind a part, behind a comma, and behind `..`
abbrev pub as_more : GrammarRest → GrammarRest
as_more (list p later dots close after) = more later dots close after
as_more q = ends GrammarRow.File

abbrev pub as_later : GrammarRest → GrammarRest
as_later (list p later dots close after) = list later later dots close after
as_later q = ends GrammarRow.File

abbrev pub as_last : GrammarRest → GrammarRest
as_last (list p later dots close after) = token close after
as_last q = ends GrammarRow.File

abbrev pub rest_of : GrammarPoint → GrammarRest
rest_of (GrammarPoint.At i) = rest_at i
rest_of (GrammarPoint.More i) = as_more (rest_at i)
rest_of (GrammarPoint.Later i) = as_later (rest_at i)
rest_of (GrammarPoint.Last i) = as_last (rest_at i)

abbrev pub entry_of : GrammarRow × ℕ → NodeBeginning
entry_of e = record { row = e.0; rest = rest_at e.1 }

abbrev pub joined_of : JoinedBeginning → Joined
joined_of b = record { row = b.row; place = b.place; rest = rest_at b.at }

-- how many alternatives are left
abbrev pub eithers : GrammarRest → ℕ
eithers (either k after other) = suc (eithers other)
eithers q = 0
