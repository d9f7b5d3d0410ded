-- How deep a node is at least that goes on from a point of its row: what a parser compares with the limit on nesting.
-- Nothing that a reader must believe rests on it.
use Rattle.std.specs.Prelude.{◌≡◌, ℕ, suc, ◌+◌, max, min, Bool, true, false}
use Rattle.src_tree.specs.declared.row.GrammarRow.{GrammarRow}
use Rattle.src_tree.specs.declared.row.Sort.{Sort}
use Rattle.src_tree.specs.declared.place.GrammarPlace.{GrammarPlace}
use Rattle.src_tree.specs.declared.place.Start.{Start}
use Rattle.src_parse.specs.declared.depth_bound.DepthBound.{DepthBound}
use Rattle.src_tree.specs.Grammar.{GrammarRest, ends, token, either, part, maybe, list, more, many, items, alternatives, statements, arms, arm_body, after_break, allowed, place_of, counts}

abbrev least_expr : Start → ℕ
least_expr Start.Statement = 0
least_expr Start.Jump = 0
least_expr Start.JumpInHead = 0
least_expr _ = 1

abbrev least_pattern : Bool → Start → ℕ
least_pattern head Start.IsArm = 2
least_pattern true Start.IsParam = 0
least_pattern head _ = 1

-- the least depth of a tree there
abbrev pub least_place : GrammarPlace → ℕ
least_place c = elim c.sort [
  | Sort.Item ↦ 1
  | Sort.Method ↦ 1
  | Sort.Field ↦ 1
  | Sort.Type_ ↦ 1
  | Sort.Pattern ↦ least_pattern c.head c.start
  | Sort.Expr ↦ least_expr c.start
  | _ ↦ 0
]

abbrev pub bound_of : ℕ → ℕ → DepthBound
bound_of f a = record { floor = f; around = a }

abbrev pub value : DepthBound → ℕ → ℕ
value b d = max b.floor (d + b.around)

-- the limit on nesting
abbrev pub limit : ℕ
limit = 64

-- a node that may not stand there as it is becomes the first part of a parameter or of an arm
abbrev pub ended_by : Bool → Start → ℕ → ℕ → DepthBound
ended_by true s f a = bound_of f a
ended_by false Start.IsParam f a = bound_of (max f 1) a
ended_by false Start.IsArm f a = bound_of (suc (max f 1)) (suc a)
ended_by false _ f a = bound_of (suc limit) (suc limit)

abbrev pub ended : GrammarPlace → GrammarRow → ℕ → ℕ → DepthBound
ended c r f a = ended_by (allowed c r) c.start f a

abbrev pub lesser : DepthBound → DepthBound → DepthBound
lesser x y = bound_of (min x.floor y.floor) (min x.around y.around)

abbrev pub with_part : ℕ → DepthBound → DepthBound
with_part n b = bound_of (max b.floor (n + b.around)) b.around

abbrev pub arms_floor : Bool → ℕ
arms_floor false = 3
arms_floor true = 0

abbrev pub bound : GrammarPlace → GrammarRest → DepthBound
bound c (ends r) = ended c r 0 (counts r)
bound c (token k after) = bound c after
bound c (either k after other) = lesser (bound c after) (bound c other)
bound c (part p after) = with_part (least_place (place_of c.head p)) (bound c after)
bound c (maybe p after r) = ended c r 0 (counts r)
bound c (list p later dots close after) = bound c after
bound c (more p dots close after) = bound c after
bound c (many p close after) = bound c after
bound c items = ended c GrammarRow.File 0 0
bound c alternatives = ended c GrammarRow.OrPattern 0 1
bound c (statements o) = ended c GrammarRow.Block 0 1
bound c (arms o) = ended c GrammarRow.Match (arms_floor o) 1
bound c arm_body = ended c GrammarRow.Arm 2 1
bound c after_break = ended c GrammarRow.Break 0 1

-- the one row may stand wherever the other may
abbrev pub Alike : GrammarRow → GrammarRow → Type 0
Alike r x = (c : GrammarPlace) → allowed c r ≡ allowed c x

-- a node that goes on from here ends as this row alone, or as others like it
abbrev pub EndsAs : GrammarRow → GrammarRest → Type 0
EndsAs x (ends r) = Alike r x
EndsAs x (token k after) = EndsAs x after
EndsAs x (either k after other) = EndsAs x after × EndsAs x other
EndsAs x (part p after) = EndsAs x after
EndsAs x (maybe p after r) = Alike r x
EndsAs x (list p later dots close after) = EndsAs x after
EndsAs x (more p dots close after) = EndsAs x after
EndsAs x (many p close after) = EndsAs x after
EndsAs x items = Alike GrammarRow.File x
EndsAs x alternatives = Alike GrammarRow.OrPattern x
EndsAs x (statements o) = Alike GrammarRow.Block x
EndsAs x (arms o) = Alike GrammarRow.Match x
EndsAs x arm_body = Alike GrammarRow.Arm x
EndsAs x after_break = Alike GrammarRow.Break x

-- and then this is its bound, where that row may stand there
abbrev pub plain_bound : GrammarRest → DepthBound
plain_bound (ends r) = bound_of 0 (counts r)
plain_bound (token k after) = plain_bound after
plain_bound (either k after other) = lesser (plain_bound after) (plain_bound other)
plain_bound (part p after) = with_part (least_place (place_of false p)) (plain_bound after)
plain_bound (maybe p after r) = bound_of 0 (counts r)
plain_bound (list p later dots close after) = plain_bound after
plain_bound (more p dots close after) = plain_bound after
plain_bound (many p close after) = plain_bound after
plain_bound items = bound_of 0 0
plain_bound alternatives = bound_of 0 1
plain_bound (statements o) = bound_of 0 1
plain_bound (arms o) = bound_of (arms_floor o) 1
plain_bound arm_body = bound_of 2 1
plain_bound after_break = bound_of 0 1

-- no point that a parser comes to has a greater one
abbrev pub most : DepthBound
most = bound_of 3 2

-- how much is still to be looked at
abbrev pub size : GrammarRest → ℕ
size (token k after) = suc (size after)
size (either k after other) = suc (size after + size other)
size (part p after) = suc (size after)
size (list p later dots close after) = suc (size after)
size (more p dots close after) = suc (size after)
size (many p close after) = suc (size after)
size _ = 0
