-- The parser, one token after the other: a stack of nodes of which a part may still come.
use Rattle.std.specs.Prelude.{Bool, true, false, ◌&&◌, Option, Some, None, option_map, List, [], ◌∷◌}
use Rattle.src_token.specs.declared.token.Token.{Token}
use Rattle.src_tree.specs.declared.row.GrammarRow.{GrammarRow}
use Rattle.src_tree.specs.declared.place.Start.{Start}
use Rattle.src_tree.specs.declared.row.Sort.{Sort}
use Rattle.src_tree.specs.declared.place.GrammarPlace.{GrammarPlace}
use Rattle.src_tree.specs.Grammar.{seen, allowed, may_begin, GrammarRest, items, move, behind, made, entry, joined}
use Rattle.src_tree.specs.Layout.{SyntaxNode, node, Parts, end, tok, sub, due_place}

abbrev pub or_else : {X : Type 0} → Option X → Option X → Option X
or_else None o = o
or_else (Some x) o = Some x

abbrev pub and_then : {X Y : Type 0} → Option X → (X → Option Y) → Option Y
and_then None f = None
and_then (Some x) f = f x

abbrev pub only_if : {X : Type 0} → Bool → Option X → Option X
only_if true o = o
only_if false o = None

-- how a token begins a node there
abbrev pub begin_at : Token → GrammarPlace → Option (GrammarPlace × GrammarRest)
begin_at t c = and_then (entry (seen c) t) (λ e. only_if (may_begin c e.row) (Some (c, e.rest)))

abbrev pub opens : Bool → GrammarRest → Token → Option (GrammarPlace × GrammarRest)
opens head q t = and_then (due_place head q) (begin_at t)

-- how it makes a node of this row the first part of another there
abbrev pub joins : GrammarPlace → GrammarRow → Token → Option GrammarRest
joins c r t = and_then (joined (seen c) t) (λ j. only_if (may_begin c j.row && allowed j.place r) (Some j.rest))

module _ {L : Type 0} where
  abbrev pub with_tok : Parts L → Token → Parts L
  with_tok end t = tok t end
  with_tok (tok u rest) t = tok u (with_tok rest t)
  with_tok (sub g rest) t = sub g (with_tok rest t)

  abbrev pub with_sub : Parts L → SyntaxNode L → Parts L
  with_sub end h = sub h end
  with_sub (tok u rest) h = tok u (with_sub rest h)
  with_sub (sub g rest) h = sub g (with_sub rest h)

pub data ParserFrame (L : Type 0) : Type 0 where
  frame : (c : GrammarPlace) (q : GrammarRest) (at : L) (parts : Parts L) → ParserFrame L

abbrev pub ParserState : Type 0 → Type 0
ParserState L = List (ParserFrame L)

module _ {L : Type 0} where
  -- the innermost node goes on with the token, or a part of it begins with it
  abbrev pub goes_on : GrammarPlace → GrammarRest → L → Parts L → ParserState L → Token → L → Option (ParserState L)
  goes_on c q at parts S t l =
      or_else (option_map (λ r. frame c r at (with_tok parts t) ∷ S) (move q t))
      (option_map (λ e. frame e.0 e.1 l (tok t end) ∷ frame c q at parts ∷ S) (opens c.head q t))

  -- it is complete, and the first part of a node
  abbrev pub is_joined : GrammarPlace → L → Parts L → ParserState L → Token → GrammarRow → Option (ParserState L)
  is_joined c at parts S t r = option_map (λ q. frame c q at (sub (node at r parts) (tok t end)) ∷ S) (joins c r t)

  -- a token at a node with what is around it
  abbrev pub act : ParserState L → GrammarPlace → GrammarRest → L → Parts L → Token → L → Option (ParserState L)
  act [] c q at parts t l =
      or_else (goes_on c q at parts [] t l) (and_then (made q) (λ r. is_joined c at parts [] t r))
  act (frame c0 q0 at0 parts0 ∷ S) c q at parts t l =
      or_else (goes_on c q at parts (frame c0 q0 at0 parts0 ∷ S) t l)
      (and_then (made q) (λ r. or_else (is_joined c at parts (frame c0 q0 at0 parts0 ∷ S) t r)
      (only_if (allowed c r) (act S c0 (behind q0 r) at0 (with_sub parts0 (node at r parts)) t l))))

  abbrev pub step : ParserState L → Token → L → Option (ParserState L)
  step [] t l = None
  step (frame c q at parts ∷ S) t l = act S c q at parts t l

abbrev pub file_place : GrammarPlace
file_place = record { sort = Sort.File; least = 0; head = false; start = Start.Anything }

abbrev pub start : {L : Type 0} → L → ParserState L
start l = frame file_place items l end ∷ []

-- the end of the tokens: all nodes end
module _ {L : Type 0} where
  abbrev pub close_all : ParserState L → GrammarPlace → GrammarRest → L → Parts L → Option (SyntaxNode L)
  close_all [] c q at parts = option_map (λ r. node at r parts) (made q)
  close_all (frame c0 q0 at0 parts0 ∷ S) c q at parts =
      and_then (made q) (λ r. only_if (allowed c r)
      (close_all S c0 (behind q0 r) at0 (with_sub parts0 (node at r parts))))

  abbrev pub whole : ParserState L → Option (SyntaxNode L)
  whole [] = None
  whole (frame c q at parts ∷ S) = close_all S c q at parts
