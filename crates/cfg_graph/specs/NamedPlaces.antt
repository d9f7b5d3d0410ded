-- What references in locals name, and whether it stays there while they are used. A reference that is no parameter is
-- made by one statement, which names its place; so a place behind it is followed to that place.
use Rattle.std.specs.Prelude.{ℕ, zero, suc, ◌==◌, Bool, true, false, not, ◌&&◌, ◌||◌, List, [], ◌∷◌, ◌++◌, find, flat_map, length, take_while, Option, Some, None, if◌then◌else◌}
use Rattle.std.specs.List.{list_any, list_all}
use Rattle.std.specs.Option.{option_map_or}
use Rattle.cfg_graph.specs.declared.graph.Body.{Body}
use Rattle.cfg_graph.specs.declared.statement.Stmt.{Stmt}
use Rattle.cfg_graph.specs.Moves.Gone.{PathAction, leaves_gone, are_first}
use Rattle.cfg_graph.specs.Places.{named}
use Rattle.cfg_graph.specs.Uses.{PlaceUse, Stores}
use Rattle.store_model.specs.Places.Place.{Step, ToPart, ToField, ToContent, ToElement, Place, whole_local, before_element}

abbrev pub same_place : Place → Place → Bool
same_place a b = (a.local == b.local) && are_first a.steps b.steps && are_first b.steps a.steps

-- Steps as they lead through memory: the fields of all variants of an enum that have one number lie at one address.
abbrev pub as_laid_out : List Step → List Step
as_laid_out [] = []
as_laid_out (ToPart part ∷ steps) = ToPart part ∷ as_laid_out steps
as_laid_out (ToField variant part ∷ steps) = ToPart part ∷ as_laid_out steps
as_laid_out (ToContent ∷ steps) = ToContent ∷ as_laid_out steps
as_laid_out (ToElement local ∷ steps) = ToElement local ∷ as_laid_out steps

-- one of two lists of steps goes on from where the other ends
abbrev pub one_goes_on : List Step → List Step → Bool
one_goes_on steps others = are_first steps others || are_first others steps

-- two places of which one is at or in the other, where an index stands for all elements, and a field for the fields of
-- other variants at its address
abbrev pub overlaps : Place → Place → Bool
overlaps a b =
    (a.local == b.local)
    && one_goes_on (as_laid_out (before_element a.steps)) (as_laid_out (before_element b.steps))

-- the reference that a statement makes in a whole local: the local, and the place that it names
abbrev pub reference_made : Stmt → List (ℕ × Place)
reference_made (Stmt.Borrow to unique of) =
    if same_place (named to) (whole_local to.local) then (to.local, named of) ∷ [] else []
reference_made stmt = []

-- all references that a body makes in whole locals
abbrev pub references_made : Body → List (ℕ × Place)
references_made body = flat_map (λ block. flat_map reference_made block.stmts) body.blocks

abbrev pub named_by : ℕ → List (ℕ × Place) → Option Place
named_by local made = option_map_or (λ one. Some one.1) (find (λ one. one.0 == local) made) None

abbrev pub further : List Step → Place → Place
further steps place = record place { steps = place.steps ++ steps }

-- where the steps begin by going through a reference that is made here
abbrev pub behind : List (ℕ × Place) → ℕ → List Step → Option Place
behind made local [] = None
behind made local (ToContent ∷ steps) = option_map_or (λ place. Some (further steps place)) (named_by local made) None
behind made local (step ∷ steps) = None

-- a place, and the places to which it is followed in turn, through no more references than there are
abbrev pub follow : List (ℕ × Place) → ℕ → Place → List Place
follow made zero place = place ∷ []
follow made (suc most) place =
    place ∷ option_map_or (follow made most) (behind made place.local place.steps) []

module _ (body : Body) where
  abbrev pub followed : Place → List Place
  followed place = follow (references_made body) (length (references_made body)) place

  abbrev pub named_places : ℕ → List Place
  named_places local = option_map_or followed (named_by local (references_made body)) []

  -- what is moved, dropped or freed
  abbrev pub takes : PathAction → Bool
  takes action = option_map_or (λ gone. gone) (leaves_gone action.how) false

  abbrev pub goes_through : ℕ → List Place → Bool
  goes_through local places = list_any (λ place. place.local == local) places

  abbrev pub overlap : List Place → List Place → Bool
  overlap places others = list_any (λ place. list_any (overlaps place) others) places

  -- an action takes nothing of what the reference in a local names, unless it goes through this reference
  abbrev pub spares : ℕ → PathAction → Bool
  spares local action =
      not (takes action)
      || goes_through local (followed action.place)
      || not (overlap (named_places local) (followed action.place))

  abbrev pub stores : PlaceUse → Bool
  stores Stores = true
  stores how = false

  -- the reference in a local is made, or used
  abbrev pub makes : ℕ → PathAction → Bool
  makes local action = stores action.how && same_place action.place (whole_local local)

  abbrev pub uses : ℕ → PathAction → Bool
  uses local action = (action.place.local == local) && not (makes local action)

  -- the actions at the same line that come next
  abbrev pub of_line : PathAction → List PathAction → List PathAction
  of_line at later = take_while (λ action. (action.block == at.block) && (action.line == at.line)) later

  abbrev pub if_used : Bool → List PathAction → List (List PathAction)
  if_used used stretch = if used then stretch ∷ [] else []

  -- the actions from a making of the reference in a local up to each use of it, with all operands of that use, as long
  -- as it is not made again
  abbrev pub up_to_uses : ℕ → List PathAction → List PathAction → List (List PathAction)
  up_to_uses local between [] = []
  up_to_uses local between (action ∷ later) =
      if makes local action then []
      else
      if_used (uses local action) (between ++ action ∷ of_line action later)
      ++ up_to_uses local (between ++ action ∷ []) later

  abbrev pub stretches : ℕ → List PathAction → List (List PathAction)
  stretches local [] = []
  stretches local (action ∷ later) =
      (if makes local action then up_to_uses local [] later else []) ++ stretches local later

  -- what the reference in a local names is not taken between its making and a use
  abbrev pub keeps_named : List PathAction → ℕ → Bool
  keeps_named actions local = list_all (list_all (spares local)) (stretches local actions)
