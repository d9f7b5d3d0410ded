-- The lines that are written of a text that is refused.
use Rattle.std.specs.Prelude.{ℕ, ◌==◌, List, ◌++◌, flat_map, codes, if◌then◌else◌}
use Rattle.std.specs.Fmt.{decimal}
use Rattle.mir_base.specs.declared.place_in_text.Pos.{Pos}
use Rattle.mir_base.specs.declared.rule.Rule.{Rule}
use Rattle.mir_base.specs.Lines.{line}
use Rattle.typed_tree.specs.declared.node.Use.{Use}

-- the place of a refusal, and the end of its line
abbrev pub place_words : Pos → List ℕ
place_words at = line (codes " at " ++ decimal at.line ++ codes ":" ++ decimal at.col)

-- a refusal, at a place in the text
abbrev pub refused_at : List ℕ → Pos → List ℕ
refused_at words at = codes "refused: " ++ words ++ place_words at

-- why bytes have no tokens, by its code
abbrev pub lex_words : ℕ → List ℕ
lex_words code =
    if code == 1 then codes "1 BadChar"
    else (if code == 2 then codes "2 BadNumber"
    else (if code == 3 then codes "3 OpenComment"
    else (if code == 4 then codes "4 OpenText" else codes "5 NotUtf8")))

-- rules of typing and of borrows
abbrev pub rule_words : Rule → List ℕ
rule_words Rule.T01 = codes "T01 UnknownName"
rule_words Rule.T02 = codes "T02 RepeatedName"
rule_words Rule.T03 = codes "T03 Mismatch"
rule_words Rule.T04 = codes "T04 WrongCount"
rule_words Rule.T05 = codes "T05 NoPlace"
rule_words Rule.T06 = codes "T06 BadLabel"
rule_words Rule.T07 = codes "T07 MoveOut"
rule_words Rule.T08 = codes "T08 BadReference"
rule_words Rule.T09 = codes "T09 InfiniteType"
rule_words Rule.T10 = codes "T10 BadCopy"
rule_words Rule.T11 = codes "T11 BadImpl"
rule_words Rule.T12 = codes "T12 NoMember"
rule_words Rule.T13 = codes "T13 BadCall"
rule_words Rule.T14 = codes "T14 Overlap"
rule_words Rule.T15 = codes "T15 SelfReplaced"
rule_words Rule.T16 = codes "T16 NeedsType"
rule_words Rule.T17 = codes "T17 LiteralRange"
rule_words Rule.T18 = codes "T18 BadPattern"
rule_words Rule.T19 = codes "T19 TooMany"
rule_words Rule.T20 = codes "T20 Later"

-- ---- refused uses

abbrev pub use_word : Use → List ℕ
use_word Use.Move = codes "move"
use_word Use.Copy = codes "copy"
use_word Use.Borrow = codes "borrow"
use_word Use.BorrowMut = codes "borrow"
use_word Use.Test = codes "test"
use_word Use.Store = codes "store"

-- a place is used that is gone there; a place is stored into, a container of which is gone there
abbrev pub use_line : List ℕ → Use → Pos → List ℕ
use_line place by at =
    codes "refused: U1 " ++ place ++ codes " by " ++ use_word by ++ place_words at

abbrev pub store_line : List ℕ → Pos → List ℕ
store_line place at = codes "refused: U2 " ++ place ++ place_words at

abbrev pub behind_blanks : List ℕ → List ℕ
behind_blanks numbers = flat_map (λ n. codes " " ++ decimal n) numbers

-- the choices by which a path comes to the use, and the path
abbrev pub answers_line : List ℕ → List ℕ
answers_line answers = line (codes "answers:" ++ behind_blanks answers)

abbrev pub path_line : ℕ → List ℕ → List ℕ
path_line body path = line (codes "path: body " ++ decimal body ++ codes " blocks" ++ behind_blanks path)

abbrev pub way_lines : List ℕ → ℕ → List ℕ → List ℕ
way_lines answers body path = answers_line answers ++ path_line body path

-- ---- listings, by their lines

abbrev pub listing_line : ℕ → List ℕ
listing_line n = line (codes "refused: 8 BadListing at line " ++ decimal n)

abbrev pub graph_line : ℕ → ℕ → List ℕ
graph_line fault n = line (codes "refused: 9 G" ++ decimal fault ++ codes " at line " ++ decimal n)
