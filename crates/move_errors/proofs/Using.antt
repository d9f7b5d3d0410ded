-- What is done at a point is a use of the body.
use Rattle.std.proofs.Common.{◌≡◌, inl, inr, ℕ, zero, suc, Bool, true, false, if◌then◌else◌, List, [], ◌∷◌, ◌++◌, map, flat_map, length, Option, Some, None, slice_get, Contains, refl, sym, ap, subst, ◌∙◌}
use Rattle.std.specs.Option.{option_map_or}
use Rattle.std.specs.Prelude.{nat_eq}
use Rattle.std.specs.List.{list_any}
use Rattle.std.proofs.lemmas.Option.{none-some, same_Some}
use Rattle.std.proofs.lemmas.List.Elements.{Contains-append_left, Contains-append_right, Contains-append_cases}
use Rattle.mir_ty.specs.ItemTable.{ItemTable}
use Rattle.cfg_graph.specs.declared.place.Place.{Place}
use Rattle.cfg_graph.specs.declared.statement.Stmt.{Stmt}
use Rattle.cfg_graph.specs.declared.graph.Block.{Block}
use Rattle.cfg_graph.specs.declared.graph.Body.{Body}
use Rattle.cfg_graph.specs.Edges.{onward}
use Rattle.cfg_graph.specs.Places.{named}
use Rattle.cfg_graph.specs.Uses.{PlaceUse, Stores, stmt_uses, term_uses, stored_by_term}
use Rattle.cfg_graph.specs.Moves.Actions.{actions_on}
use Rattle.cfg_graph.specs.Moves.Gone.{PathAction}
use Rattle.init_flow.specs.Ways.{target}
use Rattle.move_paths.specs.Uses.{block_uses}
use Rattle.init_flow.specs.Concerns.{AreOfBody}
use Rattle.move_errors.specs.declared.act.Act.{Act}
use Rattle.move_errors.specs.declared.point.Stage.{Stage}
use Rattle.move_errors.specs.Runs.{at_line, stmt_actions, stored_between, acts_at, number_of, action_of, actions_of}
use Rattle.move_errors.proofs.Sorted.{here, there, none-in, first-or}

-- an action that these uses make
abbrev pub Made : List (PlaceUse × Place) → PathAction → Type 0
Made uses action = (made : PlaceUse × Place) × Contains uses made × (action.how ≡ made.0) × (action.place ≡ named made.1)

made-left : (uses more : List (PlaceUse × Place)) (a : PathAction) → Made uses a → Made (uses ++ more) a
made-left uses more a m = (m.0, Contains-append_left uses more m.0 m.1, m.2, m.3)

made-right : (uses more : List (PlaceUse × Place)) (a : PathAction) → Made more a → Made (uses ++ more) a
made-right uses more a m = (m.0, Contains-append_right uses more m.0 m.1, m.2, m.3)

line-made : (block line : ℕ) (uses : List (PlaceUse × Place)) (a : PathAction) → Contains (at_line block line uses) a → Made uses a
line-made block line [] a has = absurd (none-in a has)
line-made block line (made ∷ uses) a has = elim (first-or a (record { how = made.0; place = named made.1; block = block; line = line }) (at_line block line uses) has) [
  | inl same ↦ (made, here made uses, ap (λ (z : PathAction). z.how) (sym same), ap (λ (z : PathAction). z.place) (sym same))
  | inr later ↦ (let m = line-made block line uses a later in (m.0, there m.0 made uses m.1, m.2, m.3))
]

stmts-made : (block line : ℕ) (stmts : List Stmt) (a : PathAction) → Contains (stmt_actions block line stmts) a → Made (flat_map stmt_uses stmts) a
stmts-made block line [] a has = absurd (none-in a has)
stmts-made block line (stmt ∷ stmts) a has = elim (Contains-append_cases (at_line block line (stmt_uses stmt)) (stmt_actions block (suc line) stmts) a has) [
  | inl first ↦ made-left (stmt_uses stmt) (flat_map stmt_uses stmts) a (line-made block line (stmt_uses stmt) a first)
  | inr later ↦ made-right (stmt_uses stmt) (flat_map stmt_uses stmts) a (stmts-made block (suc line) stmts a later)
]

of-block : (blocks : List Block) (n : ℕ) (block : Block) (a : PathAction) → slice_get blocks n ≡ Some block → Made (block_uses block) a → Made (flat_map block_uses blocks) a
of-block [] n block a at m = absurd (none-some block at)
of-block (b ∷ blocks) zero block a at m = made-left (block_uses b) (flat_map block_uses blocks) a (subst (λ (z : Block). Made (block_uses z) a) (sym (same_Some b block at)) m)
of-block (b ∷ blocks) (suc n) block a at m = made-right (block_uses b) (flat_map block_uses blocks) a (of-block blocks n block a at m)

in-block : (block : Block) (n : ℕ) (a : PathAction) → Contains (stmt_actions n 0 block.stmts ++ at_line n (length block.stmts) (term_uses block.term)) a → Made (block_uses block) a
in-block block n a has = elim (Contains-append_cases (stmt_actions n 0 block.stmts) (at_line n (length block.stmts) (term_uses block.term)) a has) [
  | inl first ↦ made-left (flat_map stmt_uses block.stmts) (term_uses block.term ++ map (λ place. (Stores, place)) (stored_by_term block.term)) a (stmts-made n 0 block.stmts a first)
  | inr last ↦ made-right (flat_map stmt_uses block.stmts) (term_uses block.term ++ map (λ place. (Stores, place)) (stored_by_term block.term)) a
      (made-left (term_uses block.term) (map (λ place. (Stores, place)) (stored_by_term block.term)) a (line-made n (length block.stmts) (term_uses block.term) a last))
]

-- the actions within a block, as the definition has them
pub inside-are : (body : Body) (n : ℕ) → actions_on body (n ∷ []) ≡ option_map_or (λ block. stmt_actions n 0 block.stmts ++ at_line n (length block.stmts) (term_uses block.term)) (slice_get body.blocks n) []
inside-are body n = refl

module _ (items : ItemTable) (body : Body) where
  pub acts-used : (n : ℕ) (stage : Stage) → AreOfBody body (acts_at items body n stage)
  acts-used n Stage.Entry a has = absurd (none-in a has)
  acts-used n Stage.Inside a has = by (slice_get body.blocks n) refl (subst (λ (z : List PathAction). Contains z a) (inside-are body n) has)
    where
      by : (o : Option Block) → slice_get body.blocks n ≡ o
          → Contains (option_map_or (λ block. stmt_actions n 0 block.stmts ++ at_line n (length block.stmts) (term_uses block.term)) o []) a → Made (flat_map block_uses body.blocks) a
      by None e has = absurd (none-in a has)
      by (Some block) e has = of-block body.blocks n block a e (in-block block n a has)
  acts-used n (Stage.Leaving way) a has = by (slice_get body.blocks n) refl has
    where
      towards : (block : Block) (next : ℕ) (b : Bool) → Contains (at_line n (length block.stmts) (map (λ place. (Stores, place)) (if b then stored_by_term block.term else []))) a → Made (block_uses block) a
      towards block next true has = made-right (flat_map stmt_uses block.stmts) (term_uses block.term ++ map (λ place. (Stores, place)) (stored_by_term block.term)) a
          (made-right (term_uses block.term) (map (λ place. (Stores, place)) (stored_by_term block.term)) a (line-made n (length block.stmts) (map (λ place. (Stores, place)) (stored_by_term block.term)) a has))
      towards block next false has = absurd (none-in a has)

      between : (block : Block) (o : Option ℕ) → Contains (stored_between block n o) a → Made (block_uses block) a
      between block None has = absurd (none-in a has)
      between block (Some next) has = towards block next (list_any (nat_eq next) (onward block.term)) has

      by : (o : Option Block) → slice_get body.blocks n ≡ o
          → Contains (option_map_or (λ found. stored_between found n (target items body n (number_of way))) o []) a → Made (flat_map block_uses body.blocks) a
      by None e has = absurd (none-in a has)
      by (Some block) e has = of-block body.blocks n block a e (between block (target items body n (number_of way)) has)

-- wherever they stand
pub used-anywhere : (body : Body) (block : ℕ) (acts : List Act) → AreOfBody body (actions_of block acts) → AreOfBody body (actions_of 0 acts)
used-anywhere body block [] are a has = absurd (none-in a has)
used-anywhere body block (act ∷ acts) are a has = elim (first-or a (action_of 0 act) (actions_of 0 acts) has) [
  | inl same ↦ (let it = are (action_of block act) (here (action_of block act) (actions_of block acts)) in
      (it.0, it.1, ap (λ (z : PathAction). z.how) (sym same) ∙ it.2, ap (λ (z : PathAction). z.place) (sym same) ∙ it.3))
  | inr later ↦ used-anywhere body block acts (λ x y. are x (there x (action_of block act) (actions_of block acts) y)) a later
]
