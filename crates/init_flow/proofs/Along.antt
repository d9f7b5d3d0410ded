-- What a path does before its last block, block by block, as the uses of blocks.
use Rattle.std.proofs.Common.{◌≡◌, ℕ, zero, suc, Bool, true, false, not, ◌||◌, if◌then◌else◌, List, [], ◌∷◌, ◌++◌, map, flat_map, length, Option, Some, slice_get, refl, sym, ap, ◌∙◌, arith}
use Rattle.std.specs.Prelude.{nat_eq, unwrap_or, option_and_then, ◌==◌}
use Rattle.std.specs.List.{list_any}
use Rattle.std.specs.Option.{option_map_or, option_or}
use Rattle.std.proofs.lemmas.Bool.{eq-eqb}
use Rattle.std.proofs.lemmas.Option.{none-some, slice_get_past}
use Rattle.std.proofs.lemmas.List.{append_assoc, map-append}
use Rattle.mir_ty.specs.ItemTable.{ItemTable}
use Rattle.store_model.specs.Places.Place.{Place}
use Rattle.cfg_graph.specs.declared.place.Place.{Place as GraphPlace}
use Rattle.cfg_graph.specs.declared.statement.Stmt.{Stmt}
use Rattle.cfg_graph.specs.declared.graph.Block.{Block}
use Rattle.cfg_graph.specs.declared.graph.Body.{Body}
use Rattle.cfg_graph.specs.declared.terminator.Term.{Term}
use Rattle.cfg_graph.specs.declared.terminator.Unwind.{Unwind}
use Rattle.cfg_graph.specs.Edges.{onward, ToBlock, unwind_exit}
use Rattle.cfg_graph.specs.Places.{named}
use Rattle.cfg_graph.specs.Uses.{PlaceUse, Stores, stmt_uses, term_uses, stored_by_term}
use Rattle.cfg_graph.specs.Moves.Actions.{actions_on}
use Rattle.cfg_graph.specs.Moves.Gone.{PathAction, last_left, left_by, is_param}
use Rattle.init_flow.specs.Carried.{last_of}
use Rattle.init_flow.specs.Ways.{block_of, exit_at}
use Rattle.move_paths.specs.Forest.{PathForest, IsForest}
use Rattle.init_flow.specs.declared.switches.Switch.{Switch}
use Rattle.init_flow.specs.Fits.{Fits, leads_on, if_on, way_result, way_uses}
use Rattle.init_flow.specs.Moved.{masks_of, says}
use Rattle.init_flow.specs.Switches.{all_switched}
use Rattle.init_flow.proofs.Following.{act, acts, state, AreIn, follows}

-- the actions of a path, as the definition has them
abbrev at_line : (block line : ℕ) → List (PlaceUse × GraphPlace) → List PathAction
at_line block line uses = map (λ made. record { how = made.0; place = named made.1; block = block; line = line }) uses

abbrev stmt_actions : (block line : ℕ) → List Stmt → List PathAction
stmt_actions block line [] = []
stmt_actions block line (stmt ∷ stmts) = at_line block line (stmt_uses stmt) ++ stmt_actions block (suc line) stmts

abbrev block_actions : ℕ → Block → List PathAction
block_actions n block = stmt_actions n 0 block.stmts ++ at_line n (length block.stmts) (term_uses block.term)

abbrev result_actions : (n next : ℕ) → Block → List PathAction
result_actions n next block =
    if list_any (nat_eq next) (onward block.term)
    then at_line n (length block.stmts) (map (λ place. (Stores, place)) (stored_by_term block.term))
    else []

module _ (body : Body) where
  abbrev pub actions_in : ℕ → List PathAction
  actions_in n = option_map_or (block_actions n) (slice_get body.blocks n) []

  abbrev pub actions_between : (n next : ℕ) → List PathAction
  actions_between n next = option_map_or (result_actions n next) (slice_get body.blocks n) []

  -- up to the entry to the last block
  abbrev pub came : ℕ → List ℕ → List PathAction
  came n [] = []
  came n (next ∷ path) = (actions_in n ++ actions_between n next) ++ came next path

  in-is : (n : ℕ) → actions_on body (n ∷ []) ≡ actions_in n
  in-is n = refl

  pub came-is : (n : ℕ) (path : List ℕ) → actions_on body (n ∷ path) ≡ came n path ++ actions_on body (last_of n path ∷ [])
  came-is n [] = refl
  came-is n (next ∷ path) =
      ap (λ z. (actions_in n ++ actions_between n next) ++ z) (came-is next path)
      ∙ sym (append_assoc (actions_in n ++ actions_between n next) (came next path) (actions_on body (last_of next path ∷ [])))

-- an action, wherever it stands
abbrev plain : PathAction → PathAction
plain action = record { how = action.how; place = action.place; block = 0; line = 0 }

map-all : {X Y : Type 0} (f g : X → Y) (xs : List X) → ((x : X) → f x ≡ g x) → map f xs ≡ map g xs
map-all f g [] same = refl
map-all f g (x ∷ xs) same = λ i. same x i ∷ map-all f g xs same i

module _ (items : ItemTable) (body : Body) where
  last-plain : (q : Place) (xs : List PathAction) → last_left items body q (map plain xs) ≡ last_left items body q xs
  last-plain q [] = refl
  last-plain q (x ∷ xs) = ap (λ (z : Option Bool). option_or z (left_by items body q x)) (last-plain q xs)

  pub state-plain : (paths : List Place) (gone : Bool) (xs : List PathAction) → state items body paths gone (map plain xs) ≡ state items body paths gone xs
  state-plain paths gone xs = map-all _ _ paths (λ q. ap (λ (z : Option Bool). says gone (unwrap_or z (not (is_param items body q.local)))) (last-plain q xs))

line-plain : (block line : ℕ) (uses : List (PlaceUse × GraphPlace)) → map plain (at_line block line uses) ≡ acts uses
line-plain block line [] = refl
line-plain block line (made ∷ uses) = ap (λ z. act made ∷ z) (line-plain block line uses)

acts-append : (uses more : List (PlaceUse × GraphPlace)) → acts (uses ++ more) ≡ acts uses ++ acts more
acts-append uses more = map-append act uses more

stmts-plain : (block line : ℕ) (stmts : List Stmt) → map plain (stmt_actions block line stmts) ≡ acts (flat_map stmt_uses stmts)
stmts-plain block line [] = refl
stmts-plain block line (stmt ∷ stmts) =
    map-append plain (at_line block line (stmt_uses stmt)) (stmt_actions block (suc line) stmts)
    ∙ (λ i. line-plain block line (stmt_uses stmt) i ++ stmts-plain block (suc line) stmts i)
    ∙ sym (acts-append (stmt_uses stmt) (flat_map stmt_uses stmts))

block-plain : (n : ℕ) (block : Block) → map plain (block_actions n block) ≡ acts (flat_map stmt_uses block.stmts ++ term_uses block.term)
block-plain n block =
    map-append plain (stmt_actions n 0 block.stmts) (at_line n (length block.stmts) (term_uses block.term))
    ∙ (λ i. stmts-plain n 0 block.stmts i ++ line-plain n (length block.stmts) (term_uses block.term) i)
    ∙ sym (acts-append (flat_map stmt_uses block.stmts) (term_uses block.term))

some_one : (a b : ℕ) → Some a ≡ Some b → a ≡ b
some_one a b e = cc

-- a result, stored on the ways that lead on
result : (next to_next : ℕ) (unwind : Unwind) (place : GraphPlace) (n line way : ℕ)
    → option_and_then block_of (slice_get (ToBlock next ∷ unwind_exit unwind ∷ []) way) ≡ Some to_next
    → map plain (if list_any (nat_eq to_next) (next ∷ []) then at_line n line ((Stores, place) ∷ []) else []) ≡ acts (map (λ place. (Stores, place)) (if_on (leads_on next unwind way) place))
result next to_next unwind place n line zero e =
    ap (λ (b : Bool). map plain (if b || false then at_line n line ((Stores, place) ∷ []) else [])) (eq-eqb to_next next (sym (some_one next to_next e)))
result next to_next (Unwind.Block block) place n line (suc zero) e =
    ap (λ (k : ℕ). map plain (if list_any (nat_eq k) (next ∷ []) then at_line n line ((Stores, place) ∷ []) else [])) (sym (some_one block to_next e)) ∙ by (block == next)
  where
    by : (b : Bool) → map plain (if b || false then at_line n line ((Stores, place) ∷ []) else []) ≡ acts (map (λ place. (Stores, place)) (if_on b place))
    by true = refl
    by false = refl
result next to_next Unwind.Resume place n line (suc zero) e = absurd (cc)
result next to_next Unwind.Abort place n line (suc zero) e = absurd (cc)
result next to_next unwind place n line (suc (suc way)) e = absurd (none-some to_next (sym (ap (option_and_then block_of) (slice_get_past (ToBlock next ∷ unwind_exit unwind ∷ []) (suc (suc way)) (omega arith))) ∙ e))

nothing-stored : (n line : ℕ) (b : Bool) → map plain (if b then at_line n line [] else []) ≡ []
nothing-stored n line true = refl
nothing-stored n line false = refl

result-plain : (n line next way : ℕ) (term : Term) → exit_at term way ≡ Some next
    → map plain (if list_any (nat_eq next) (onward term) then at_line n line (map (λ place. (Stores, place)) (stored_by_term term)) else []) ≡ acts (map (λ place. (Stores, place)) (way_result term way))
result-plain n line next way (Term.Goto block) e = nothing-stored n line (list_any (nat_eq next) (block ∷ []))
result-plain n line next way (Term.If on if_true if_false) e = nothing-stored n line (list_any (nat_eq next) (if_false ∷ if_true ∷ []))
result-plain n line next way (Term.Case on variant if_true if_false) e = nothing-stored n line (list_any (nat_eq next) (if_false ∷ if_true ∷ []))
result-plain n line next way (Term.Math to op left right onto unwind) e = result onto next unwind to n line way e
result-plain n line next way (Term.Negate to of onto unwind) e = result onto next unwind to n line way e
result-plain n line next way (Term.Bounds index count onto unwind) e = nothing-stored n line (list_any (nat_eq next) (onto ∷ []))
result-plain n line next way (Term.Call to callee args onto unwind) e = result onto next unwind to n line way e
result-plain n line next way (Term.Virtual to trait_no method args onto unwind) e = result onto next unwind to n line way e
result-plain n line next way (Term.Ask to onto unwind) e = result onto next unwind to n line way e
result-plain n line next way (Term.DropAt place onto unwind) e = nothing-stored n line (list_any (nat_eq next) (onto ∷ []))
result-plain n line next way (Term.Panic why unwind) e = refl
result-plain n line next way Term.Return e = refl
result-plain n line next way Term.Resume e = refl

-- what a way does, and what its block does before it
module _ (items : ItemTable) (body : Body) (forest : PathForest) (is : IsForest items body forest) where
  pub step : (gone : Bool) (n way next : ℕ) (block : Block) (switches : List Switch) (earlier : List PathAction)
      → slice_get body.blocks n ≡ Some block → exit_at block.term way ≡ Some next
      → Fits forest.paths gone switches (way_uses block way) → AreIn items body forest.paths (way_uses block way)
      → all_switched (masks_of forest.paths) switches (state items body forest.paths gone earlier)
      ≡ state items body forest.paths gone (earlier ++ (actions_in body n ++ actions_between body n next))
  step gone n way next block switches earlier here leads fits inside =
      let done : map plain (actions_in body n ++ actions_between body n next) ≡ acts (way_uses block way) =
      ap (λ (z : Option Block). map plain (option_map_or (block_actions n) z [] ++ option_map_or (result_actions n next) z [])) here
      ∙ map-append plain (block_actions n block) (result_actions n next block)
      ∙ (λ i. block-plain n block i ++ result-plain n (length block.stmts) next way block.term leads i)
      ∙ ap (λ z. z ++ acts (map (λ place. (Stores, place)) (way_result block.term way))) (acts-append (flat_map stmt_uses block.stmts) (term_uses block.term))
      ∙ append_assoc (acts (flat_map stmt_uses block.stmts)) (acts (term_uses block.term)) (acts (map (λ place. (Stores, place)) (way_result block.term way)))
      ∙ ap (λ z. acts (flat_map stmt_uses block.stmts) ++ z) (sym (acts-append (term_uses block.term) (map (λ place. (Stores, place)) (way_result block.term way))))
      ∙ sym (acts-append (flat_map stmt_uses block.stmts) (term_uses block.term ++ map (λ place. (Stores, place)) (way_result block.term way))) in
      ap (all_switched (masks_of forest.paths) switches) (sym (state-plain items body forest.paths gone earlier))
      ∙ follows items body forest is gone (way_uses block way) switches fits inside (map plain earlier)
      ∙ ap (λ z. state items body forest.paths gone (map plain earlier ++ z)) (sym done)
      ∙ ap (state items body forest.paths gone) (sym (map-append plain earlier (actions_in body n ++ actions_between body n next)))
      ∙ state-plain items body forest.paths gone (earlier ++ (actions_in body n ++ actions_between body n next))
