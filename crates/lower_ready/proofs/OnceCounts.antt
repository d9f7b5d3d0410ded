-- What the blocks of a body store into a local, and the references that they make there, counted as `Counted` counts them;
-- and that no line names the local, where none of those that are built does.
use Rattle.std.proofs.Common.{◌≡◌, ℕ, zero, suc, ◌+◌, ◌==◌, ◌&&◌, not, Bool, true, false, List, [], ◌∷◌, ◌++◌, map, Option, Some, None, slice_get, cond, if◌then◌else◌, refl, ap, subst, ◌∙◌, arith}
use Rattle.std.proofs.lemmas.List.Sums.{sum_by-append}
use Rattle.std.proofs.lemmas.Option.{none-some, same_Some}
use Rattle.std.specs.Prelude.{unwrap_or, count_by}
use Rattle.std.specs.List.{flat_map, list_all, list_any}
use Rattle.cfg_graph.specs.declared.graph.Block.{Block}
use Rattle.cfg_graph.specs.declared.place.Place as graph_place
use Rattle.cfg_graph.specs.declared.statement.Stmt.{Stmt}
use Rattle.cfg_graph.specs.declared.terminator.Term.{Term}
use Rattle.cfg_graph.specs.Moves.Gone.{are_first}
use Rattle.cfg_graph.specs.NamedPlaces.{same_place, reference_made}
use Rattle.cfg_graph.specs.Places.{named}
use Rattle.cfg_graph.specs.Uses.{stored_by_stmt, stored_by_term, places_of_stmt, places_of_term}
use Rattle.store_model.specs.Places.Place.{Place, whole_local}
use Rattle.lower_rules.specs.Build.{LoweringFrame, MadeBlock}
use Rattle.lower_rules.specs.Lower as lower
use Rattle.lower_rules.proofs.Lines as lines
use Rattle.lower_laws.proofs.Base as base
use Rattle.lower_laws.proofs.Base.{Ground}
use Rattle.lower_laws.proofs.Names as names
use Rattle.lower_ready.proofs.Counted as counted
use Rattle.lower_ready.proofs.Once as once
use Rattle.lower_ready.proofs.Once.{About}
use Rattle.lower_ready.proofs.OnceUses.{UsedWell, PassedWell}
use Rattle.lower_ready.proofs.AloneParts.{both_so, first_no, second_no}

module _ (g : Ground) (L K : ℕ) (about : About g L K) (Q : Type 0) where
  abbrev F : LoweringFrame
  F = base.F g

  abbrev W : Bool → lines.Wanted F
  W = once.W g L K about Q

  -- ---- counts of a body
  abbrev pub stored_here : graph_place.Place → Bool
  stored_here to = same_place (named to) (whole_local L)

  abbrev pub one_if : Bool → ℕ
  one_if b = counted.one_if F (once.borrows g L K about Q) (λ site value. refl) b

  abbrev pub as_one : Bool → ℕ
  as_one b = cond b 1 0

  pub none_counted : (ps : List graph_place.Place) → list_any stored_here ps ≡ false → count_by stored_here ps ≡ 0
  none_counted [] h = refl
  none_counted (q ∷ ps) h =
      let a = sum_by-append (λ x. cond (stored_here x) 1 0) (q ∷ []) ps in
      let z : as_one (stored_here q) ≡ 0 = ap as_one (first_no (stored_here q) _ h) in
      let i = none_counted ps (second_no (stored_here q) _ h) in
      let r : count_by stored_here (q ∷ ps) ≡ 0 = omega (a, z, i, arith) in r

  pub same_count : (b : Bool) → 0 + as_one b ≡ one_if b
  same_count true = refl
  same_count false = refl

  pub stored_by_one : (stmt : Stmt) → once.stores g L K about Q stmt ≡ false → count_by stored_here (stored_by_stmt stmt) ≡ one_if (once.borrows g L K about Q stmt)
  stored_by_one (Stmt.Borrow to unique of) h = same_count (stored_here to)
  stored_by_one (Stmt.Put to from) h = none_counted (to ∷ []) h
  stored_by_one (Stmt.Compare to op left right) h = none_counted (to ∷ []) h
  stored_by_one (Stmt.Not to operand) h = none_counted (to ∷ []) h
  stored_by_one (Stmt.Tuple to parts) h = none_counted (to ∷ []) h
  stored_by_one (Stmt.Array to parts) h = none_counted (to ∷ []) h
  stored_by_one (Stmt.Make to adt variant parts) h = none_counted (to ∷ []) h
  stored_by_one (Stmt.Close to closure parts) h = none_counted (to ∷ []) h
  stored_by_one (Stmt.NewBox to operand) h = none_counted (to ∷ []) h
  stored_by_one (Stmt.Unsize to trait_no from) h = none_counted (to ∷ []) h
  stored_by_one (Stmt.Touch place) h = refl
  stored_by_one (Stmt.Print operand) h = refl
  stored_by_one (Stmt.Forget operand) h = refl
  stored_by_one (Stmt.Free place) h = refl

  abbrev pub made_here : ℕ × Place → Bool
  made_here made = made.0 == L

  pub made_by_one : (stmt : Stmt) → count_by made_here (reference_made stmt) ≡ one_if (once.borrows g L K about Q stmt)
  made_by_one (Stmt.Borrow to unique of) =
      ap (λ (z : Bool). count_by made_here (if (z && are_first (named to).steps []) && true then (to.local, named of) ∷ [] else [])) (names.equal_too to.local to.local refl)
      ∙ on (are_first (named to).steps []) (to.local == L) refl
    where
      same : (l : Bool) → 0 + as_one l ≡ one_if ((l && true) && true)
      same true = refl
      same false = refl

      none : (l : Bool) → 0 ≡ one_if ((l && false) && true)
      none true = refl
      none false = refl

      on : (f l : Bool) → (to.local == L) ≡ l → count_by made_here (if (true && f) && true then (to.local, named of) ∷ [] else []) ≡ one_if (((to.local == L) && f) && true)
      on true l d = same (to.local == L)
      on false l d = none (to.local == L)
  made_by_one other = refl

  abbrev pub in_stmts : List Stmt → ℕ
  in_stmts stmts = counted.in_stmts F (once.borrows g L K about Q) (λ site value. refl) stmts

  abbrev pub in_blocks : List (Option MadeBlock) → ℕ
  in_blocks bs = counted.in_blocks F (once.borrows g L K about Q) (λ site value. refl) bs

  pub append_assoc_places : (xs ys zs : List graph_place.Place) → count_by stored_here ((xs ++ ys) ++ zs) ≡ count_by stored_here xs + count_by stored_here (ys ++ zs)
  append_assoc_places xs ys zs =
      let a = sum_by-append (λ x. cond (stored_here x) 1 0) (xs ++ ys) zs in
      let b = sum_by-append (λ x. cond (stored_here x) 1 0) xs ys in
      let c = sum_by-append (λ x. cond (stored_here x) 1 0) ys zs in
      let r : count_by stored_here ((xs ++ ys) ++ zs) ≡ count_by stored_here xs + count_by stored_here (ys ++ zs) = omega (a, b, c, arith) in r

  pub lines_stored : (stmts : List Stmt) (term : Term) (nodes : List ℕ) → lines.BlockOk F (W false) stmts term nodes → count_by stored_here (flat_map stored_by_stmt stmts ++ stored_by_term term) ≡ in_stmts stmts
  lines_stored [] term [] h = absurd h
  lines_stored [] term (n ∷ ns) h = none_counted (stored_by_term term) h.0
  lines_stored (stmt ∷ stmts) term [] h = absurd h
  lines_stored (stmt ∷ stmts) term (n ∷ ns) h =
      let a = append_assoc_places (stored_by_stmt stmt) (flat_map stored_by_stmt stmts) (stored_by_term term) in
      let one = stored_by_one stmt h.0.0.0 in
      let ih = lines_stored stmts term ns h.1 in
      let r : count_by stored_here (flat_map stored_by_stmt (stmt ∷ stmts) ++ stored_by_term term) ≡ in_stmts (stmt ∷ stmts) = omega (a, one, ih, arith) in r

  pub lines_made : (stmts : List Stmt) → count_by made_here (flat_map reference_made stmts) ≡ in_stmts stmts
  lines_made [] = refl
  lines_made (stmt ∷ stmts) =
      let a = sum_by-append (λ x. cond (made_here x) 1 0) (reference_made stmt) (flat_map reference_made stmts) in
      let one = made_by_one stmt in
      let ih = lines_made stmts in
      let r : count_by made_here (flat_map reference_made (stmt ∷ stmts)) ≡ in_stmts (stmt ∷ stmts) = omega (a, one, ih, arith) in r

  abbrev pub block_of : Option MadeBlock → Block
  block_of o = (unwrap_or o lower.unmade).block

  abbrev pub AllMade : Bool → List (Option MadeBlock) → Type 0
  AllMade b bs = (k : ℕ) (m : MadeBlock) → slice_get bs k ≡ Some (Some m) → lines.MadeOk F (W b) m

  pub blocks_stored : (bs : List (Option MadeBlock)) → AllMade false bs → count_by stored_here (flat_map (λ block. flat_map stored_by_stmt block.stmts ++ stored_by_term block.term) (map block_of bs)) ≡ in_blocks bs
  blocks_stored [] all = refl
  blocks_stored (o ∷ bs) all =
      let a = sum_by-append (λ x. cond (stored_here x) 1 0) (flat_map stored_by_stmt (block_of o).stmts ++ stored_by_term (block_of o).term) (flat_map (λ block. flat_map stored_by_stmt block.stmts ++ stored_by_term block.term) (map block_of bs)) in
      let ih = blocks_stored bs (λ k m e. all (suc k) m e) in
      let one = of o refl in
      let r : count_by stored_here (flat_map (λ block. flat_map stored_by_stmt block.stmts ++ stored_by_term block.term) (map block_of (o ∷ bs))) ≡ in_blocks (o ∷ bs) = omega (a, one, ih, arith) in r
    where
      of : (q : Option MadeBlock) → o ≡ q → count_by stored_here (flat_map stored_by_stmt (block_of q).stmts ++ stored_by_term (block_of q).term) ≡ counted.in_block F (once.borrows g L K about Q) (λ site value. refl) q
      of None e = refl
      of (Some m) e = lines_stored m.block.stmts m.block.term m.nodes (all 0 m (ap (λ (z : Option MadeBlock). Some z) e))

  pub blocks_made : (bs : List (Option MadeBlock)) → count_by made_here (flat_map (λ block. flat_map reference_made block.stmts) (map block_of bs)) ≡ in_blocks bs
  blocks_made [] = refl
  blocks_made (o ∷ bs) =
      let a = sum_by-append (λ x. cond (made_here x) 1 0) (flat_map reference_made (block_of o).stmts) (flat_map (λ block. flat_map reference_made block.stmts) (map block_of bs)) in
      let ih = blocks_made bs in
      let one = of o in
      let r : count_by made_here (flat_map (λ block. flat_map reference_made block.stmts) (map block_of (o ∷ bs))) ≡ in_blocks (o ∷ bs) = omega (a, one, ih, arith) in r
    where
      of : (q : Option MadeBlock) → count_by made_here (flat_map reference_made (block_of q).stmts) ≡ counted.in_block F (once.borrows g L K about Q) (λ site value. refl) q
      of None = refl
      of (Some m) = lines_made m.block.stmts

  -- ---- no line names it
  abbrev pub elsewhere : graph_place.Place → Bool
  elsewhere place = not (place.local == L)

  pub stmts_unnamed : (stmts : List Stmt) (term : Term) (nodes : List ℕ) → lines.BlockOk F (W true) stmts term nodes → (list_all (λ stmt. list_all elsewhere (places_of_stmt stmt)) stmts ≡ true) × (list_all elsewhere (places_of_term term) ≡ true)
  stmts_unnamed [] term [] h = absurd h
  stmts_unnamed [] term (n ∷ ns) h = (refl, h)
  stmts_unnamed (stmt ∷ stmts) term [] h = absurd h
  stmts_unnamed (stmt ∷ stmts) term (n ∷ ns) h = let it = stmts_unnamed stmts term ns h.1 in (both_so _ _ h.0.0 it.0, it.1)

  pub blocks_unnamed : (bs : List (Option MadeBlock)) → AllMade true bs → (list_all (λ (block : Block). list_all (λ stmt. list_all elsewhere (places_of_stmt stmt)) block.stmts) (map block_of bs) ≡ true) × (list_all (λ (block : Block). list_all elsewhere (places_of_term block.term)) (map block_of bs) ≡ true)
  blocks_unnamed [] all = (refl, refl)
  blocks_unnamed (o ∷ bs) all =
      let one = of o refl in
      let others = blocks_unnamed bs (λ k m e. all (suc k) m e) in
      (both_so _ _ one.0 others.0, both_so _ _ one.1 others.1)
    where
      of : (q : Option MadeBlock) → o ≡ q → (list_all (λ stmt. list_all elsewhere (places_of_stmt stmt)) (block_of q).stmts ≡ true) × (list_all elsewhere (places_of_term (block_of q).term) ≡ true)
      of None e = (refl, refl)
      of (Some m) e = stmts_unnamed m.block.stmts m.block.term m.nodes (all 0 m (ap (λ (z : Option MadeBlock). Some z) e))

  -- ---- each line uses it well
  stmts_used : (stmts : List Stmt) (term : Term) (nodes : List ℕ) → lines.BlockOk F (W false) stmts term nodes → Q → ((k : ℕ) (stmt : Stmt) → slice_get stmts k ≡ Some stmt → UsedWell L stmt) × PassedWell L term
  stmts_used [] term [] h q = absurd h
  stmts_used [] term (n ∷ ns) h q = (λ k stmt e. absurd (none-some stmt e), h.1 q)
  stmts_used (first ∷ stmts) term [] h q = absurd h
  stmts_used (first ∷ stmts) term (n ∷ ns) h q = let it = stmts_used stmts term ns h.1 q in (at_each it.0, it.1)
    where
      at_each : ((k : ℕ) (stmt : Stmt) → slice_get stmts k ≡ Some stmt → UsedWell L stmt) → (k : ℕ) (stmt : Stmt) → slice_get (first ∷ stmts) k ≡ Some stmt → UsedWell L stmt
      at_each later zero stmt e = subst (UsedWell L) (same_Some first stmt e) (h.0.0.1 q)
      at_each later (suc k) stmt e = later k stmt e

  pub blocks_used : (bs : List (Option MadeBlock)) → AllMade false bs → Q → (n : ℕ) (block : Block) → slice_get (map block_of bs) n ≡ Some block → ((k : ℕ) (stmt : Stmt) → slice_get block.stmts k ≡ Some stmt → UsedWell L stmt) × PassedWell L block.term
  blocks_used [] all q n block e = absurd (none-some block e)
  blocks_used (o ∷ bs) all q (suc n) block e = blocks_used bs (λ k m e. all (suc k) m e) q n block e
  blocks_used (o ∷ bs) all q zero block e = subst (λ (b : Block). ((k : ℕ) (stmt : Stmt) → slice_get b.stmts k ≡ Some stmt → UsedWell L stmt) × PassedWell L b.term) (same_Some (block_of o) block e) (of o refl)
    where
      of : (x : Option MadeBlock) → o ≡ x → ((k : ℕ) (stmt : Stmt) → slice_get (block_of x).stmts k ≡ Some stmt → UsedWell L stmt) × PassedWell L (block_of x).term
      of None same = (λ k stmt d. absurd (none-some stmt d), refl)
      of (Some m) same = stmts_used m.block.stmts m.block.term m.nodes (all 0 m (ap (λ (z : Option MadeBlock). Some z) same)) q
