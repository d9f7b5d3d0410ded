-- The places that the uses of a body change are paths of its forest.
use Rattle.std.proofs.Common.{◌≡◌, ℕ, zero, suc, Bool, true, false, ◌&&◌, List, [], ◌∷◌, ◌++◌, map, flat_map, length, nat_lt, Some, slice_get, sym, ap, subst, ◌∙◌}
use Rattle.std.specs.List.{list_any}
use Rattle.std.specs.Option.{is_some}
use Rattle.std.specs.Cmp.{first_so, second_so}
use Rattle.std.specs.Cmp.Derive.{both_true}
use Rattle.std.proofs.lemmas.Option.{none-some, same_Some}
use Rattle.std.proofs.lemmas.List.{append-nil, append_assoc}
use Rattle.mir_ty.specs.ItemTable.{ItemTable}
use Rattle.cfg_graph.specs.declared.place.Place.{Place}
use Rattle.cfg_graph.specs.declared.terminator.Term.{Term}
use Rattle.cfg_graph.specs.declared.graph.Block.{Block}
use Rattle.cfg_graph.specs.declared.graph.Body.{Body}
use Rattle.cfg_graph.specs.Places.{named}
use Rattle.cfg_graph.specs.Uses.{PlaceUse, Stores, stmt_uses, term_uses, stored_by_term}
use Rattle.cfg_graph.specs.Moves.Gone.{counts, leaves_gone}
use Rattle.move_paths.specs.Forest.{PathForest, IsForest, is_local, is_above_change}
use Rattle.move_paths.specs.Uses.{block_uses}
use Rattle.move_paths.proofs.Above.{above-refl}
use Rattle.move_paths.proofs.Naming.{left-or, right-or}
use Rattle.init_flow.specs.Fits.{if_on, leads_on, way_result, way_uses}
use Rattle.init_flow.proofs.Following.{IsIn, AreIn}

any-within : {X : Type 0} (f : X → Bool) (before : List X) (x : X) (after : List X) → f x ≡ true → list_any f (before ++ x ∷ after) ≡ true
any-within f [] x after h = left-or (f x) (list_any f after) h
any-within f (y ∷ before) x after h = right-or (f y) (list_any f (before ++ x ∷ after)) (any-within f before x after h)

module _ (items : ItemTable) (body : Body) (forest : PathForest) (is : IsForest items body forest) where
  one-in : (before after : List (PlaceUse × Place)) (made : PlaceUse × Place) → flat_map block_uses body.blocks ≡ before ++ made ∷ after → IsIn items body forest.paths made
  one-in before after made all any =
      let rest = second_so (nat_lt made.1.local (length body.locals)) (is_some (leaves_gone made.0) && counts items body (named made.1)) any in
      (is.each (named made.1)).1
      (both_true (first_so (nat_lt made.1.local (length body.locals)) (is_some (leaves_gone made.0) && counts items body (named made.1)) any)
      (right-or (is_local (named made.1).steps) (list_any (is_above_change items body (named made.1)) (flat_map block_uses body.blocks))
      (ap (list_any (is_above_change items body (named made.1))) all
      ∙ any-within (is_above_change items body (named made.1)) before made after (both_true rest (above-refl (named made.1))))))

  all-in : (before uses after : List (PlaceUse × Place)) → flat_map block_uses body.blocks ≡ before ++ (uses ++ after) → AreIn items body forest.paths uses
  all-in before [] after all = tt
  all-in before (made ∷ uses) after all = (
    one-in before (uses ++ after) made all,
    all-in (before ++ made ∷ []) uses after (all ∙ sym (append_assoc before (made ∷ []) (uses ++ after))),
  )

  in-front : (uses more : List (PlaceUse × Place)) → AreIn items body forest.paths (uses ++ more) → AreIn items body forest.paths uses
  in-front [] more h = tt
  in-front (made ∷ uses) more h = (h.0, in-front uses more h.1)

  in-back : (uses more : List (PlaceUse × Place)) → AreIn items body forest.paths (uses ++ more) → AreIn items body forest.paths more
  in-back [] more h = h
  in-back (made ∷ uses) more h = in-back uses more h.1

  in-both : (uses more : List (PlaceUse × Place)) → AreIn items body forest.paths uses → AreIn items body forest.paths more → AreIn items body forest.paths (uses ++ more)
  in-both [] more h k = k
  in-both (made ∷ uses) more h k = (h.0, in-both uses more h.1 k)

  of-block : (blocks : List Block) (n : ℕ) (block : Block) → slice_get blocks n ≡ Some block → AreIn items body forest.paths (flat_map block_uses blocks) → AreIn items body forest.paths (block_uses block)
  of-block [] n block at h = absurd (none-some block at)
  of-block (first ∷ blocks) zero block at h = subst (λ (z : Block). AreIn items body forest.paths (block_uses z)) (same_Some first block at) (in-front (block_uses first) (flat_map block_uses blocks) h)
  of-block (first ∷ blocks) (suc n) block at h = of-block blocks n block at (in-back (block_uses first) (flat_map block_uses blocks) h)

  abbrev stored : List Place → List (PlaceUse × Place)
  stored places = map (λ place. (Stores, place)) places

  if-in : (on : Bool) (to : Place) → AreIn items body forest.paths (stored (to ∷ [])) → AreIn items body forest.paths (stored (if_on on to))
  if-in true to h = h
  if-in false to h = tt

  result-in : (term : Term) (way : ℕ) → AreIn items body forest.paths (stored (stored_by_term term)) → AreIn items body forest.paths (stored (way_result term way))
  result-in (Term.Goto block) way h = tt
  result-in (Term.If on if_true if_false) way h = tt
  result-in (Term.Case on variant if_true if_false) way h = tt
  result-in (Term.Math to op left right next unwind) way h = if-in (leads_on next unwind way) to h
  result-in (Term.Negate to of next unwind) way h = if-in (leads_on next unwind way) to h
  result-in (Term.Bounds index count next unwind) way h = tt
  result-in (Term.Call to callee args next unwind) way h = if-in (leads_on next unwind way) to h
  result-in (Term.Virtual to trait_no method args next unwind) way h = if-in (leads_on next unwind way) to h
  result-in (Term.Ask to next unwind) way h = if-in (leads_on next unwind way) to h
  result-in (Term.DropAt place next unwind) way h = tt
  result-in (Term.Panic why unwind) way h = tt
  result-in Term.Return way h = tt
  result-in Term.Resume way h = tt

  pub inside : (n way : ℕ) (block : Block) → slice_get body.blocks n ≡ Some block → AreIn items body forest.paths (way_uses block way)
  inside n way block at =
      let whole = of-block body.blocks n block at (all-in [] (flat_map block_uses body.blocks) [] (sym (append-nil (flat_map block_uses body.blocks)))) in
      let stmts = flat_map stmt_uses block.stmts in
      let rest = in-back stmts (term_uses block.term ++ stored (stored_by_term block.term)) whole in
      in-both stmts (term_uses block.term ++ stored (way_result block.term way)) (in-front stmts (term_uses block.term ++ stored (stored_by_term block.term)) whole)
      (in-both (term_uses block.term) (stored (way_result block.term way)) (in-front (term_uses block.term) (stored (stored_by_term block.term)) rest)
      (result-in block.term way (in-back (term_uses block.term) (stored (stored_by_term block.term)) rest)))
