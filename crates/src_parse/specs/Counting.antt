-- The parser of `Reading` with places, and with the numbers by which it knows how deep its trees are at least; nothing
-- that a reader must believe rests on it.
use Rattle.std.specs.Prelude.{ℕ, ◌+◌, max, min, nat_le, nat_lt, if◌then◌else◌, Bool, false, Option, None, Some, option_map, List, [], ◌∷◌}
use Rattle.mir_base.specs.declared.place_in_text.Pos.{Pos}
use Rattle.src_token.specs.declared.token.Token.{Token}
use Rattle.src_token.specs.declared.token.Spanned.{Spanned}
use Rattle.src_tree.specs.declared.row.GrammarRow.{GrammarRow}
use Rattle.src_tree.specs.declared.place.GrammarPlace.{GrammarPlace}
use Rattle.src_tree.specs.Grammar.{counts, allowed, GrammarRest, items, move, behind, made}
use Rattle.src_tree.specs.Layout.{node, Parts, end, tok, sub}
use Rattle.src_tree.specs.Reading.{or_else, and_then, only_if, opens, joins, with_tok, with_sub, file_place}
use Rattle.src_parse.specs.declared.depth_bound.DepthBound.{DepthBound}
use Rattle.src_parse.specs.Bounds.{bound_of, bound, most, limit}

-- A node of which a part may still come. How deep its parts so far are; and of what stands around it, how deep the text
-- is at least and by how much deeper than the node.
pub record Counted : Type 0 where
  pub place : GrammarPlace
  pub rest : GrammarRest
  pub at : Pos
  pub parts : Parts Pos
  pub deepest : ℕ
  pub floor : ℕ
  pub around : ℕ

-- numbers stay at the greatest of their type
abbrev pub sat : ℕ → ℕ → ℕ
sat a b = min (a + b) 4294967295

-- what stands around a part, where the node is behind it
abbrev pub reach_by : Counted → DepthBound → DepthBound
reach_by f b = bound_of (max f.floor (sat (max b.floor (sat f.deepest b.around)) f.around)) (sat b.around f.around)

abbrev pub reach : Counted → GrammarRest → DepthBound
reach f q = reach_by f (bound f.place q)

-- the least depth of a text that goes on from here
abbrev pub need_of : Counted → ℕ
need_of f = (reach f f.rest).floor

-- whether each text that goes on from here is past the limit; most often the greatest bound tells that it is not
abbrev pub passes : Counted → Bool
passes f = if nat_le (reach_by f most).floor limit then false else nat_lt limit (need_of f)

abbrev pub taken : Counted → GrammarRest → Token → Counted
taken f q t = record {
  place = f.place;
  rest = q;
  at = f.at;
  parts = with_tok f.parts t;
  deepest = f.deepest;
  floor = f.floor;
  around = f.around;
}

abbrev pub opened : DepthBound → GrammarPlace → GrammarRest → Pos → Token → Counted
opened b c q at t = record {
  place = c;
  rest = q;
  at = at;
  parts = tok t end;
  deepest = 0;
  floor = b.floor;
  around = b.around;
}

abbrev pub inside : Counted → GrammarPlace → GrammarRest → Pos → Token → Counted
inside f c q at t = opened (reach f (behind f.rest GrammarRow.File)) c q at t

abbrev pub began : Counted → GrammarRow → GrammarRest → Token → Counted
began f r q t = record {
  place = f.place;
  rest = q;
  at = f.at;
  parts = sub (node f.at r f.parts) (tok t end);
  deepest = sat f.deepest (counts r);
  floor = f.floor;
  around = f.around;
}

abbrev pub with_node : Counted → Counted → GrammarRow → Counted
with_node f g r = record {
  place = f.place;
  rest = behind f.rest r;
  at = f.at;
  parts = with_sub f.parts (node g.at r g.parts);
  deepest = max f.deepest (sat g.deepest (counts r));
  floor = f.floor;
  around = f.around;
}

abbrev pub goes_on : Counted → List Counted → Token → Pos → Option (List Counted)
goes_on f S t at =
    or_else (option_map (λ q. taken f q t ∷ S) (move f.rest t))
    (option_map (λ e. inside f e.0 e.1 at t ∷ f ∷ S) (opens f.place.head f.rest t))

abbrev pub is_joined : Counted → List Counted → Token → GrammarRow → Option (List Counted)
is_joined f S t r = option_map (λ q. began f r q t ∷ S) (joins f.place r t)

-- the innermost node, complete as this row, is a part of the one around it
abbrev pub handed : List Counted → Counted → GrammarRow → Option (List Counted)
handed [] f r = None
handed (g ∷ S) f r = only_if (allowed f.place r) (Some (with_node g f r ∷ S))

abbrev pub act : List Counted → Counted → Token → Pos → Option (List Counted)
act [] f t at = or_else (goes_on f [] t at) (and_then (made f.rest) (λ r. is_joined f [] t r))
act (g ∷ S) f t at =
    or_else (goes_on f (g ∷ S) t at)
    (and_then (made f.rest) (λ r. or_else (is_joined f (g ∷ S) t r)
    (only_if (allowed f.place r) (act S (with_node g f r) t at))))

abbrev pub step : List Counted → Token → Pos → Option (List Counted)
step [] t at = None
step (f ∷ S) t at = act S f t at

abbrev pub start : Pos → Counted
start at = record { place = file_place; rest = items; at = at; parts = end; deepest = 0; floor = 0; around = 0 }

abbrev pub read : List Spanned → Option (List Counted) → Option (List Counted)
read [] o = o
read (s ∷ ss) o = read ss (and_then o (λ S. step S s.token s.at))

-- all nodes end
abbrev pub close : List Counted → Counted → Option Counted
close [] f = option_map (λ r. f) (made f.rest)
close (g ∷ S) f = and_then (made f.rest) (λ r. only_if (allowed f.place r) (close S (with_node g f r)))
