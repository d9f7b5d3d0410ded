-- The two rules of borrows on a typed program: references that overlap (T14), and a `Drop` body that replaces its
-- `self`
-- as a whole (T15). The first in the text is the answer.
use Rattle.std.specs.Prelude.{ℕ, nat_lt, Bool, true, false, ◌==◌, ◌&&◌, ◌||◌, not, List, [], ◌∷◌, ◌++◌, map, Option, Some, None, Result, Ok, Err, if◌then◌else◌}
use Rattle.std.specs.List.{filter_map, flat_map}
use Rattle.mir_base.specs.declared.place_in_text.Pos.{Pos}
use Rattle.mir_base.specs.declared.rule.Rule.{Rule}
use Rattle.mir_ty.specs.ItemTable.{ItemTable}
use Rattle.src_tree.specs.Layout.{Parts}
use Rattle.typed_tree.specs.Nodes.{number_of}
use Rattle.typed_tree.specs.Tree.{BodyTree, ParamTree, ProgramTree}
use Rattle.mir_ty.specs.DropBodies.{is_drop_body}
use Rattle.typing_rules.specs.Accesses.{told}
use Rattle.typing_rules.specs.Check.{Broken}
use Rattle.typing_rules.specs.Program.{typed_program}
use Rattle.typing_rules.specs.Replaced.{BodyParameter, Passing, stores, passings, is_replaced, replaceable}

abbrev pub broken : Rule → Pos → Broken
broken rule at = record { rule = rule; at = at }

-- where references overlap in a body
abbrev pub overlaps : BodyTree → List Broken
overlaps body = map (broken Rule.T14) (told [] body.block).conflicts

-- where a `Drop` body replaces what its `self` names
abbrev pub replacing : ItemTable → List BodyParameter → Passing → Option Pos
replacing items params p = if is_replaced items params p then Some p.at else None

abbrev pub replacements : ItemTable → List BodyParameter → ℕ → BodyTree → List Broken
replacements items params self body =
    map (broken Rule.T15) (stores self body ++ filter_map (replacing items params) (passings self body))

abbrev pub of_self : ItemTable → List BodyParameter → BodyTree → List ParamTree → List Broken
of_self items params body [] = []
of_self items params body (self ∷ rest) = replacements items params (number_of self.pattern) body

abbrev pub replaced_self : ItemTable → List BodyParameter → BodyTree → List Broken
replaced_self items params body = if is_drop_body items body.number then of_self items params body body.params else []

abbrev pub all_broken : ProgramTree → List Broken
all_broken p = flat_map (λ body. overlaps body ++ replaced_self p.items (replaceable p) body) p.bodies

-- the first in the text, and at one place the lower rule
abbrev pub is_before : Pos → Pos → Bool
is_before a b = nat_lt a.line b.line || (a.line == b.line && nat_lt a.col b.col)

abbrev pub is_overlap : Rule → Bool
is_overlap Rule.T14 = true
is_overlap _ = false

abbrev pub comes_first : Broken → Broken → Bool
comes_first a b = is_before a.at b.at || (not (is_before b.at a.at) && is_overlap a.rule)

abbrev pub earlier : Broken → Option Broken → Broken
earlier a None = a
earlier a (Some b) = if comes_first a b then a else b

abbrev pub first_of : List Broken → Option Broken
first_of [] = None
first_of (b ∷ bs) = Some (earlier b (first_of bs))

abbrev pub broken_borrow : ProgramTree → Option Broken
broken_borrow p = first_of (all_broken p)

-- ---- a text

abbrev pub unless_broken : ProgramTree → Option Broken → Result ProgramTree Broken
unless_broken p None = Ok p
unless_broken p (Some b) = Err b

abbrev pub unless_borrows : Result ProgramTree Broken → Result ProgramTree Broken
unless_borrows (Err e) = Err e
unless_borrows (Ok p) = unless_broken p (broken_borrow p)

-- the typed program of a text that breaks no rule, or the first broken one: items, then bodies, then borrows
abbrev pub read_typed : Parts Pos → Pos → Result ProgramTree Broken
read_typed parts end = unless_borrows (typed_program parts end)
