-- A body that is lowered holds the code of its source, is ranked, and has no edge to block 0. So a program that is lowered runs as its
-- source does.
use Rattle.std.proofs.Common.{◌≡◌, ◌⊎◌, ◌&&◌, ◌||◌, inl, inr, ℕ, zero, suc, ◌<◌, ◌≤◌, ◌==◌, Bool, true, false, List, [], ◌∷◌, ◌++◌, length, map, Option, Some, None, slice_get, unwrap_or, cond, not, nat_lt, ◌+◌, length-append, add-one, refl, sym, ap, ◌∙◌, subst, arith}
use Rattle.std.proofs.Math.Dec.{eqb-zero-suc}
use Rattle.std.proofs.lemmas.Bool.Decides.{eqb_tells}
use Rattle.std.proofs.lemmas.Option.{none-some, same_Some, slice_get_within}
use Rattle.std.specs.Option.{option_map_or}
use Rattle.std.specs.Prelude.{nat_eq}
use Rattle.std.specs.List.{list_all, list_any, position, prefix_len}
use Rattle.std.proofs.lemmas.Bool.{lt-ltb}
use Rattle.mir_ty.proofs.ListLemmas.{slice_get-Contains}
use Rattle.cfg_graph.specs.declared.graph.Block.{Block}
use Rattle.cfg_graph.specs.declared.graph.Body.{Body}
use Rattle.cfg_graph.specs.declared.graph.Kind.{Kind}
use Rattle.cfg_graph.specs.declared.terminator.Term.{Term}
use Rattle.cfg_graph.specs.Edges.{IsRanked, is_cleanup, is_cleanup_kind, is_turn, onward, targets, unwind_targets}
use Rattle.cfg_graph.specs.declared.statement.Stmt.{Stmt}
use Rattle.cfg_graph.proofs.WholePlaces.{same_step-refl}
use Rattle.cfg_graph.specs.Moves.Gone.{are_first}
use Rattle.cfg_graph.specs.NamedPlaces.{same_place}
use Rattle.cfg_graph.specs.Places as places
use Rattle.cfg_graph.specs.declared.place.Operand.{Operand}
use Rattle.cfg_graph.specs.declared.place.Place.{Place}
use Rattle.cfg_graph.specs.declared.terminator.Unwind.{Unwind}
use Rattle.mir_base.specs.declared.operator.Math.{Math}
use Rattle.mir_base.specs.declared.trace.Why.{Why}
use Rattle.store_model.specs.Places.Place as store
use Rattle.store_model.specs.Places.Place.{Step}
use Rattle.cfg_graph.specs.Ready.{begins_once, frees_nothing, may_be_left_gone, refills_dropped}
use Rattle.cfg_graph.specs.WellFormed.Cleanup.{keeps_to_cleanup}
use Rattle.mir_ty.specs.ItemTable.{ItemTable}
use Rattle.typed_tree.specs.Tree.{BodyTree, ProgramTree}
use Rattle.src_meaning.specs.Locals.OfBody.{answer_key, local_of, local_tys}
use Rattle.src_meaning.specs.Scopes.{Scopes}
use Rattle.lower_rules.proofs.FreeWalks.{walks_as_it_runs_freely}
use Rattle.lower_rules.proofs.Runs.{runs_as_its_source}
use Rattle.lower_rules.specs.Code.{BodyAt, FunctionAt}
use Rattle.lower_rules.specs.CodeLaws.{target_of, HoldsBody, HoldsProgram}
use Rattle.lower_rules.specs.Spots.{CodeTarget, body_ways, StepAt, stays, goes, Joins}
use Rattle.lower_rules.specs.Build.{LoweringFrame, BlockRest, MadeBlock, Building, ending, made, reserved, Lowers}
use Rattle.lower_rules.specs.Laws.{NamesItsLoops, AllNameTheirLoops, LoweredRunsAsItsSource, LoweredWalksAsItRunsFreely, LoweredIsRanked, LoweredKeepsToCleanup, LoweredIsPrepared, IsRefilledIn, LoweredRefillsParts}
use Rattle.lower_rules.specs.Lower as lower
use Rattle.lower_rules.specs.Lower.{frame, entire_function, start, built, nodes_of, body_of, node_of, graph_of}
use Rattle.lower_rules.proofs.Forms.{function_at, function_lowers}
use Rattle.lower_rules.proofs.Jumps.{no_jumps}
use Rattle.lower_rules.proofs.LaidBlocks as laid
use Rattle.lower_rules.proofs.LaidBranches as branch_rules
use Rattle.lower_rules.proofs.LaidBlocks.{Given, AllGiven, Ranked, LeadsOn, JumpWays, IsUsed, BlockGiven, closed_ranked}
use Rattle.lower_rules.proofs.Scopes.{function_after}

mapped : {A B : Type 0} (g : A → B) (xs : List A) (n : ℕ) (x : A) → slice_get xs n ≡ Some x → slice_get (map g xs) n ≡ Some (g x)
mapped g [] n x e = absurd (none-some x e)
mapped g (y ∷ xs) zero x e = ap (λ o. Some (g (unwrap_or o y))) e
mapped g (y ∷ xs) (suc n) x e = mapped g xs n x e

from_mapped : {A B : Type 0} (g : A → B) (xs : List A) (n : ℕ) (y : B) → slice_get (map g xs) n ≡ Some y → (x : A) × (slice_get xs n ≡ Some x) × (g x ≡ y)
from_mapped g [] n y e = absurd (none-some y e)
from_mapped g (x ∷ xs) zero y e = (x, refl, same_Some (g x) y e)
from_mapped g (x ∷ xs) (suc n) y e = from_mapped g xs n y e

given_in : (n : ℕ) (ds : List ℕ) (d : ℕ) → AllGiven n ds → (i : ℕ) → slice_get ds i ≡ Some d → Given n d
given_in n [] d h i e = absurd (none-some d e)
given_in n (x ∷ ds) d h zero e = subst (Given n) (same_Some x d e) h.0
given_in n (x ∷ ds) d h (suc i) e = given_in n ds d h.1 i e

equal_itself : (n : ℕ) → (n == n) ≡ true
equal_itself n = elim (eqb_tells n n) [ inl same ↦ same.0 | inr other ↦ absurd (let apart = other.1 in let never : ⊥ = omega arith in never) ]

-- the first of a list is found, if it is what is looked for
first_found : (p : ℕ → Bool) (key : ℕ) (keys : List ℕ) (d : ℕ) → p key ≡ true → option_map_or (λ n. n) (position p (key ∷ keys)) d ≡ 0
first_found p key keys d e =
    ap (λ b. option_map_or (λ n. n) (cond (nat_lt (at b) (suc (length keys))) (Some (at b)) None) d) e
    ∙ ap (λ b. option_map_or (λ n. n) (cond b (Some 0) None) d) (lt-ltb 0 (suc (length keys)) (omega arith))
  where
    at : Bool → ℕ
    at b = cond (not b) (1 + prefix_len (λ x. not (p x)) keys) 0

module _ (items : ItemTable) (tree : BodyTree) (named : NamesItsLoops tree) where
  abbrev F : LoweringFrame
  F = frame items tree

  abbrev P : Lowers
  P = entire_function F tree

  abbrev begun : Building
  begun = start F tree

  abbrev S : Scopes
  S = lower.answer_scope F tree

  abbrev last : BlockRest
  last = ending (Term.Goto 1) 0

  abbrev r : BlockRest × Building
  r = P.build (body_ways 1) S last begun

  abbrev z : Building
  z = built F tree

  abbrev t : CodeTarget
  t = target_of items tree (body_of items tree) (node_of items tree)

  lowered : laid.Lowered t P (function_at t tree)
  lowered = function_lowers t tree

  first_free : slice_get r.1.blocks 0 ≡ Some None
  first_free = (lowered.grows (body_ways 1) S last begun).keeps 0 (omega arith)

  -- ---- the blocks of the body are those that were made
  nodes_at : (n : ℕ) (all pre xs : List ℕ) → slice_get (nodes_of z) n ≡ Some all → all ≡ pre ++ xs → laid.NodesAt t n (length pre) xs
  nodes_at n all pre [] e h = tt
  nodes_at n all pre (x ∷ xs) e h = (
    ap (λ o. unwrap_or (slice_get (unwrap_or o []) (length pre)) 0) e ∙ ap (λ list. unwrap_or (slice_get list (length pre)) 0) h ∙ ap (λ o. unwrap_or o 0) (seam pre),
    subst (λ l. laid.NodesAt t n l xs) (length-append pre (x ∷ []) ∙ add-one (length pre)) (nodes_at n all (pre ++ x ∷ []) xs e (h ∙ with_one pre)),
  )
    where
      seam : (pre : List ℕ) → slice_get (pre ++ x ∷ xs) (length pre) ≡ Some x
      seam [] = refl
      seam (y ∷ pre) = seam pre

      with_one : (pre : List ℕ) → pre ++ x ∷ xs ≡ (pre ++ x ∷ []) ++ xs
      with_one [] = refl
      with_one (y ∷ pre) = ap (λ z. y ∷ z) (with_one pre)

  later : laid.Later t z
  later n m e = (mapped _ z.blocks n (Some m) e, nodes_at n m.nodes [] m.nodes (mapped _ z.blocks n (Some m) e) refl)

  later_code : laid.Later t r.1
  later_code = branch_rules.filled_later t Kind.Plain 0 r.0 r.1 first_free later

  later_start : laid.Later t begun
  later_start = laid.later_before t begun r.1 (lowered.grows (body_ways 1) S last begun) later_code

  none_shared : laid.SharedStand t begun
  none_shared d i n e = absurd (none-some n e)

  used : JumpWays IsUsed (body_ways 1) P.jumps
  used = (refl, subst (λ jumps. laid.AllWays IsUsed (body_ways 1) jumps) (sym (no_jumps F tree named)) tt)

  -- block 1 returns
  abbrev returning : MadeBlock
  returning = made Kind.Plain 1 (ending Term.Return (answer_key tree))

  return_at : (slice_get (body_of items tree).blocks 1 ≡ Some returning.block) × laid.NodesAt t 1 0 returning.nodes
  return_at = later_start 1 returning refl

  return_step : StepAt t 1
  return_step = (returning.block, return_at.0, refl)

  first_local : local_of items tree (answer_key tree) ≡ 0
  first_local = first_found (λ k. k == answer_key tree) (answer_key tree) _ _ (equal_itself (answer_key tree))

  -- block 0 is the first
  first_at : (slice_get (body_of items tree).blocks 0 ≡ Some (made Kind.Plain (length r.1.blocks) r.0).block) × laid.Stands t r.0 (0, 0)
  first_at = branch_rules.filled_stands t Kind.Plain 0 r.0 r.1 first_free later

  begins_plain : (block : Block) × (slice_get (body_of items tree).blocks 0 ≡ Some block) × (block.kind ≡ Kind.Plain)
  begins_plain = ((made Kind.Plain (length r.1.blocks) r.0).block, first_at.0, refl)

  code_joins : Joins t (FunctionAt t tree 1) S (0, 0) S (1, 0)
  code_joins = by_end P.has_end ((lowered.holds (body_ways 1) S last begun used later_code none_shared).1 (0, 0) first_at.1)
    where
      by_end : (x : Bool) → laid.CodeEnds t x P (function_at t tree) (body_ways 1) S last (0, 0) → Joins t (FunctionAt t tree 1) S (0, 0) S (1, 0)
      by_end true h =
          (h.0, subst (λ S'. FunctionAt t tree 1 S (0, 0) S' h.0) (function_after F tree S) h.2, goes 1 (laid.ends_with t (Term.Goto 1) 0 h.0 h.1) return_step)
      by_end false h = ((1, 0), h S (1, 0), stays)

  holds_code : BodyAt t tree
  holds_code =
      (1, ((made Kind.Plain (length r.1.blocks) r.0).block, first_at.0, refl), return_step, (returning.block, return_at.0, refl, refl), return_at.1.0, first_local, code_joins)

  -- ---- ranks
  reserved_begins : Ranked (reserved (record { blocks = []; shared = λ i. [] }))
  reserved_begins = record { blocks = λ n m e. not_made n m e; shared = λ d i n e. absurd (none-some n e); begun = omega arith }
    where
      not_made : (n : ℕ) (m : MadeBlock) → ◌≡◌ {A = Option (Option MadeBlock)} (slice_get (None ∷ []) n) (Some (Some m)) → laid.MadeWell n m
      not_made zero m e = absurd (none-some m (same_Some None (Some m) e))
      not_made (suc n) m e = absurd (none-some (Some m) e)

  begun_ranked : Ranked begun
  begun_ranked = closed_ranked Kind.Plain (ending Term.Return (answer_key tree)) (reserved (record { blocks = []; shared = λ i. [] })) reserved_begins tt

  code_ranked : Ranked r.1 × LeadsOn r.0 r.1
  code_ranked = lowered.ranks (body_ways 1) S last begun ((omega arith, omega arith), subst (λ jumps. laid.AllWays (BlockGiven (length begun.blocks)) (body_ways 1) jumps) (sym (no_jumps F tree named)) tt) begun_ranked ((omega arith, omega arith), tt)

  -- a block but the first has its number as its rank, if it is no turn block; all edges lead below its rank, and not to block 0
  abbrev Well : ℕ → Block → Type 0
  Well n block = AllGiven block.rank (targets block.term) × (0 < n → is_turn block ≡ false → block.rank ≤ n)

  made_well : (n : ℕ) (m : MadeBlock) → slice_get z.blocks n ≡ Some (Some m) → Well n m.block
  made_well n m e = by_place (branch_rules.set_cases t r.1.blocks 0 n (Some (made Kind.Plain (length r.1.blocks) r.0)) (Some m) e)
    where
      by_place : (slice_get r.1.blocks n ≡ Some (Some m)) ⊎ ((n ≡ 0) × (Some (made Kind.Plain (length r.1.blocks) r.0) ≡ Some m)) → Well n m.block
      by_place (inl e) = let h = code_ranked.0.blocks n m e in (h.1, λ l plain. let i = h.0 plain in omega arith)
      by_place (inr h) =
          subst (λ m. Well n m.block) (same_Some (made Kind.Plain (length r.1.blocks) r.0) m h.1)
          (code_ranked.1, λ l plain. let i = h.0 in absurd (let never : ⊥ = omega arith in never))

  block_well : (n : ℕ) (block : Block) → slice_get (body_of items tree).blocks n ≡ Some block → Well n block
  block_well n block e = let h = from_mapped _ z.blocks n block e in by_made h.0 h.1 h.2
    where
      by_made : (o : Option MadeBlock) → slice_get z.blocks n ≡ Some o → (unwrap_or o lower.unmade).block ≡ block → Well n block
      by_made None e h = subst (Well n) h (tt, λ l plain. omega arith)
      by_made (Some m) e h = subst (Well n) h (made_well n m e)

  is_ranked : IsRanked (body_of items tree)
  is_ranked n m from to e c d plain =
      let g = given_in from.rank (targets from.term) m (block_well n from e).0 c.0 (slice_get-Contains (targets from.term) m c) in
      let g0 = g.0 in let g1 = g.1 in
      let l = (block_well m to d).1 g.0 plain in
      omega arith

  -- ---- cleanup blocks
  abbrev AllStand : List ℕ → Type 0
  AllStand [] = Unit {0}
  AllStand (m ∷ ms) = (m < length t.body.blocks) × AllStand ms

  all_stand : (x : Bool) (ms : List ℕ) → laid.AllKind t x ms → AllStand ms
  all_stand x [] h = tt
  all_stand x (m ∷ ms) h = (slice_get_within t.body.blocks m h.0.0 h.0.1, all_stand x ms h.1)

  stand_append : (ms ns : List ℕ) → AllStand ms → AllStand ns → AllStand (ms ++ ns)
  stand_append [] ns h k = k
  stand_append (m ∷ ms) ns h k = (h.0, stand_append ms ns h.1 k)

  stands_in : (ms : List ℕ) → AllStand ms → (i m : ℕ) → slice_get ms i ≡ Some m → m < length t.body.blocks
  stands_in [] h i m e = absurd (none-some m e)
  stands_in (n ∷ ms) h zero m e = subst (λ n. n < length t.body.blocks) (same_Some n m e) h.0
  stands_in (n ∷ ms) h (suc i) m e = stands_in ms h.1 i m e

  both : (a b : Bool) → a ≡ true → b ≡ true → a && b ≡ true
  both true b e d = d
  both false b e d = e

  all_kind : (p : Block → Bool) (x : Bool) → ((block : Block) → is_cleanup block ≡ x → p block ≡ true) → (ns : List ℕ) → laid.AllKind t x ns →
      list_all (λ n. option_map_or p (slice_get t.body.blocks n) true) ns ≡ true
  all_kind p x holds [] h = refl
  all_kind p x holds (n ∷ ns) h = both _ _ (ap (λ o. option_map_or p o true) h.0.1 ∙ holds h.0.0 h.0.2) (all_kind p x holds ns h.1)

  none_clean : (ns : List ℕ) → laid.AllKind t false ns → list_all (λ n. option_map_or (λ block. not (is_cleanup block)) (slice_get t.body.blocks n) true) ns ≡ true
  none_clean ns h = all_kind (λ block. not (is_cleanup block)) false (λ block e. ap not e) ns h

  all_clean : (ns : List ℕ) → laid.AllKind t true ns → list_all (λ n. option_map_or is_cleanup (slice_get t.body.blocks n) true) ns ≡ true
  all_clean ns h = all_kind is_cleanup true (λ block e. e) ns h

  abbrev ended : Kind → Term → Block
  ended kind term = record { kind = kind; rank = 0; stmts = []; term = term }

  keeps_plain : (node : ℕ) (term : Term) → laid.LeadsWell t term node → keeps_to_cleanup t.body (ended Kind.Plain term) ≡ true
  keeps_plain node Term.Return h = refl
  keeps_plain node Term.Resume h = absurd (let never : true ≡ false = h.2 in cc)
  keeps_plain node other h = both _ _ (none_clean (onward other) h.0) (all_clean (unwind_targets other) h.1)

  keeps_clean : (term : Term) → laid.CleansUp t term → (keeps_to_cleanup t.body (ended Kind.Cleanup term) ≡ true) × AllStand (targets term)
  keeps_clean (Term.Goto n) h = (all_clean (n ∷ []) (h, tt), (slice_get_within t.body.blocks n h.0 h.1, tt))
  keeps_clean (Term.DropAt place n u) h =
      subst (λ u. (keeps_to_cleanup t.body (ended Kind.Cleanup (Term.DropAt place n u)) ≡ true) × AllStand (targets (Term.DropAt place n u))) (sym h.1)
      (all_clean (n ∷ []) (h.0, tt), (slice_get_within t.body.blocks n h.0.0 h.0.1, tt))
  keeps_clean Term.Resume h = (refl, tt)
  keeps_clean other h = absurd h

  keeps : (node : ℕ) (block : Block) → laid.EndsWell t (is_cleanup block) block.term node → (keeps_to_cleanup t.body block ≡ true) × AllStand (targets block.term)
  keeps node block h = by_kind block.kind h
    where
      by_kind : (kind : Kind) → laid.EndsWell t (is_cleanup_kind kind) block.term node → (keeps_to_cleanup t.body (ended kind block.term) ≡ true) × AllStand (targets block.term)
      by_kind Kind.Plain h = (keeps_plain node block.term h, stand_append (onward block.term) (unwind_targets block.term) (all_stand false (onward block.term) h.0) (all_stand true (unwind_targets block.term) h.1))
      by_kind Kind.Turn h = (keeps_plain node block.term h, stand_append (onward block.term) (unwind_targets block.term) (all_stand false (onward block.term) h.0) (all_stand true (unwind_targets block.term) h.1))
      by_kind Kind.Cleanup h = keeps_clean block.term h

  start_tidy : laid.Tidy t begun
  start_tidy = laid.closed_tidy t Kind.Plain (ending Term.Return (answer_key tree)) (reserved (record { blocks = []; shared = λ i. [] }))
      (branch_rules.reserved_tidy t (record { blocks = []; shared = λ i. [] }) (record { blocks = λ n m e. absurd (none-some (Some m) e); shared = λ d i n e. absurd (none-some n e) })) ((tt, tt, refl, tt), tt)

  return_plain : laid.KindAt t false 1
  return_plain = (returning.block, return_at.0, refl)

  code_tidy : laid.TidyAfter t r
  code_tidy = lowered.tidies (body_ways 1) S last begun (return_plain, subst (λ jumps. laid.AllWays (laid.PlainWay t) (body_ways 1) jumps) (sym (no_jumps F tree named)) tt) later_code start_tidy (((return_plain, tt), tt, refl, tt), tt)

  -- the node of a block's terminator
  abbrev end_node : ℕ → Block → ℕ
  end_node n block = node_of items tree n (length block.stmts)

  abbrev IsTidy : ℕ → Block → Type 0
  IsTidy n block = laid.EndsWell t (is_cleanup block) block.term (end_node n block) × laid.FreesNone t block.stmts

  made_tidy : (n : ℕ) (m : MadeBlock) → slice_get z.blocks n ≡ Some (Some m) → laid.BlockWell t m → IsTidy n m.block
  made_tidy n m e h =
      let at = (nodes_at n m.nodes h.0 (h.1 ∷ []) (mapped _ z.blocks n (Some m) e) h.2).0 in
      (subst (laid.EndsWell t (is_cleanup m.block) m.block.term) (sym at ∙ ap (node_of items tree n) h.3) h.4, h.5)

  block_tidy : (n : ℕ) (block : Block) → slice_get (body_of items tree).blocks n ≡ Some block → IsTidy n block
  block_tidy n block e = let h = from_mapped _ z.blocks n block e in by_made h.0 h.1 h.2
    where
      by_made : (o : Option MadeBlock) → slice_get z.blocks n ≡ Some o → (unwrap_or o lower.unmade).block ≡ block → IsTidy n block
      by_made None e h = subst (IsTidy n) h ((tt, tt, refl, tt), tt)
      by_made (Some m) e h = subst (IsTidy n) h (made_tidy n m e ((branch_rules.filled_tidy t Kind.Plain 0 r.0 r.1 code_tidy.0 code_tidy.1).blocks n m e))

  -- ---- what elaboration asks of all bodies
  abbrev with_blocks : List Block → Body
  with_blocks blocks = record { params = 0; locals = []; blocks = blocks }

  frees_none : (stmts : List Stmt) → laid.FreesNone t stmts → frees_nothing (with_blocks (record { kind = Kind.Plain; rank = 0; stmts = stmts; term = Term.Return } ∷ [])) ≡ true
  frees_none [] h = refl
  frees_none (Stmt.Put to from ∷ stmts) h = frees_none stmts h.1
  frees_none (Stmt.Compare to op left right ∷ stmts) h = frees_none stmts h.1
  frees_none (Stmt.Not to operand ∷ stmts) h = frees_none stmts h.1
  frees_none (Stmt.Tuple to parts ∷ stmts) h = frees_none stmts h.1
  frees_none (Stmt.Array to parts ∷ stmts) h = frees_none stmts h.1
  frees_none (Stmt.Make to adt variant parts ∷ stmts) h = frees_none stmts h.1
  frees_none (Stmt.Close to closure parts ∷ stmts) h = frees_none stmts h.1
  frees_none (Stmt.NewBox to operand ∷ stmts) h = frees_none stmts h.1
  frees_none (Stmt.Unsize to trait_no from ∷ stmts) h = frees_none stmts h.1
  frees_none (Stmt.Borrow to unique of ∷ stmts) h = frees_none stmts h.1
  frees_none (Stmt.Touch place ∷ stmts) h = frees_none stmts h.1
  frees_none (Stmt.Print operand ∷ stmts) h = frees_none stmts h.1
  frees_none (Stmt.Forget operand ∷ stmts) h = frees_none stmts h.1
  frees_none (Stmt.Free place ∷ stmts) h = absurd h.0

  first_true : (a b : Bool) → a && b ≡ true → a ≡ true
  first_true true b e = refl
  first_true false b e = e

  blocks_free_none : (blocks : List Block) → ((n : ℕ) (block : Block) → slice_get blocks n ≡ Some block → laid.FreesNone t block.stmts) → frees_nothing (with_blocks blocks) ≡ true
  blocks_free_none [] h = refl
  blocks_free_none (block ∷ blocks) h = both _ _ (first_true _ _ (frees_none block.stmts (h 0 block refl))) (blocks_free_none blocks (λ n block e. h (suc n) block e))

  not_first : (n : ℕ) (ms : List ℕ) → AllGiven n ms → list_any (nat_eq 0) ms ≡ false
  not_first n [] h = refl
  not_first n (zero ∷ ms) h = absurd (let i = h.0.0 in let never : ⊥ = omega arith in never)
  not_first n (suc m ∷ ms) h = ap (λ x. x || list_any (nat_eq 0) ms) (eqb-zero-suc m) ∙ not_first n ms h.1

  blocks_begin_once : (blocks : List Block) → ((n : ℕ) (block : Block) → slice_get blocks n ≡ Some block → AllGiven block.rank (targets block.term)) → begins_once (with_blocks blocks) ≡ true
  blocks_begin_once [] h = refl
  blocks_begin_once (block ∷ blocks) h = both _ _ (ap not (not_first block.rank (targets block.term) (h 0 block refl))) (blocks_begin_once blocks (λ n block e. h (suc n) block e))

  -- a place that is dropped may be left gone, or is stored into at once
  clean_drops : (node : ℕ) (term : Term) → laid.CleansUp t term → laid.DropsWell t term node
  clean_drops node (Term.Goto n) h = tt
  clean_drops node Term.Resume h = tt
  clean_drops node (Term.DropAt place n u) h = subst (λ u. laid.DropsWell t (Term.DropAt place n u) node) (sym h.1) h.2
  clean_drops node other h = absurd h

  ends_drop : (x : Bool) (node : ℕ) (term : Term) → laid.EndsWell t x term node → laid.DropsWell t term node
  ends_drop true node term h = clean_drops node term h
  ends_drop false node term h = h.3

  all_blocks : (q : Block → Bool) (blocks : List Block) → ((n : ℕ) (block : Block) → slice_get blocks n ≡ Some block → q block ≡ true) → list_all q blocks ≡ true
  all_blocks q [] h = refl
  all_blocks q (block ∷ blocks) h = both _ _ (h 0 block refl) (all_blocks q blocks (λ n block e. h (suc n) block e))

  all_drops : (q : Block → Bool) →
      ((b : Block) (n : ℕ) → q (record b { term = Term.Goto n }) ≡ true) →
      ((b : Block) (on : Operand) (y n : ℕ) → q (record b { term = Term.If on y n }) ≡ true) →
      ((b : Block) (on : Place) (variant y n : ℕ) → q (record b { term = Term.Case on variant y n }) ≡ true) →
      ((b : Block) (to : Place) (op : Math) (left right : Operand) (n : ℕ) (u : Unwind) → q (record b { term = Term.Math to op left right n u }) ≡ true) →
      ((b : Block) (to : Place) (of : Operand) (n : ℕ) (u : Unwind) → q (record b { term = Term.Negate to of n u }) ≡ true) →
      ((b : Block) (index : Operand) (count n : ℕ) (u : Unwind) → q (record b { term = Term.Bounds index count n u }) ≡ true) →
      ((b : Block) (to : Place) (body : ℕ) (args : List Operand) (n : ℕ) (u : Unwind) → q (record b { term = Term.Call to body args n u }) ≡ true) →
      ((b : Block) (to : Place) (trait_no method : ℕ) (args : List Operand) (n : ℕ) (u : Unwind) → q (record b { term = Term.Virtual to trait_no method args n u }) ≡ true) →
      ((b : Block) (to : Place) (n : ℕ) (u : Unwind) → q (record b { term = Term.Ask to n u }) ≡ true) →
      ((b : Block) (why : Why) (u : Unwind) → q (record b { term = Term.Panic why u }) ≡ true) →
      ((b : Block) → q (record b { term = Term.Return }) ≡ true) →
      ((b : Block) → q (record b { term = Term.Resume }) ≡ true) →
      ((b : Block) (place : Place) (n : ℕ) (u : Unwind) → place.steps ≡ [] → q (record b { term = Term.DropAt place n u }) ≡ true) →
      ((b : Block) (place : Place) (node n m : ℕ) → laid.StoresFirst t place node n → laid.StoresFirst t place node m → q (record b { term = Term.DropAt place n (Unwind.Block m) }) ≡ true) →
      (blocks : List Block) → ((n : ℕ) (block : Block) → slice_get blocks n ≡ Some block → laid.DropsWell t block.term (end_node n block)) → list_all q blocks ≡ true
  all_drops q goto_ if_ case_ math_ negate_ bounds_ call_ virtual_ ask_ panic_ return_ resume_ whole refilled blocks h = all_blocks q blocks (λ n block e. by_term block block.term (end_node n block) (h n block e))
    where
      by_term : (b : Block) (term : Term) (node : ℕ) → laid.DropsWell t term node → q (record b { term = term }) ≡ true
      by_term b (Term.Goto n) node h = goto_ b n
      by_term b (Term.If on y n) node h = if_ b on y n
      by_term b (Term.Case on variant y n) node h = case_ b on variant y n
      by_term b (Term.Math to op left right n u) node h = math_ b to op left right n u
      by_term b (Term.Negate to of n u) node h = negate_ b to of n u
      by_term b (Term.Bounds index count n u) node h = bounds_ b index count n u
      by_term b (Term.Call to body args n u) node h = call_ b to body args n u
      by_term b (Term.Virtual to trait_no method args n u) node h = virtual_ b to trait_no method args n u
      by_term b (Term.Ask to n u) node h = ask_ b to n u
      by_term b (Term.Panic why u) node h = panic_ b why u
      by_term b Term.Return node h = return_ b
      by_term b Term.Resume node h = resume_ b
      by_term b (Term.DropAt place n (Unwind.Block m)) node (inl h) = whole b place n (Unwind.Block m) h
      by_term b (Term.DropAt place n (Unwind.Block m)) node (inr h) = refilled b place node n m h.0 h.1
      by_term b (Term.DropAt place n Unwind.Resume) node h = whole b place n Unwind.Resume h
      by_term b (Term.DropAt place n Unwind.Abort) node h = whole b place n Unwind.Abort h

  or_first : (a b : Bool) → a ≡ true → a || b ≡ true
  or_first true b e = refl
  or_first false b e = absurd (let never : false ≡ true = e in cc)

  or_second : (a b : Bool) → b ≡ true → a || b ≡ true
  or_second true b e = refl
  or_second false b e = e

  found : (q : Block → Bool) (o : Option Block) (b : Block) → o ≡ Some b → q b ≡ true → option_map_or q o false ≡ true
  found q o b e h = ap (λ o. option_map_or q o false) e ∙ h

  first_of_itself : (steps : List Step) → are_first steps steps ≡ true
  first_of_itself [] = refl
  first_of_itself (step ∷ steps) = both _ _ (same_step-refl step) (first_of_itself steps)

  at_itself : (place : store.Place) → same_place place place ≡ true
  at_itself place = both _ _ (both _ _ (equal_itself place.local) (first_of_itself place.steps)) (first_of_itself place.steps)

  whole_gone : (place : Place) → place.steps ≡ [] → may_be_left_gone items (body_of items tree) place ≡ true
  whole_gone place e = ap (λ steps. may_be_left_gone items (body_of items tree) (record { local = place.local; steps = steps })) e

  refills : refills_dropped items (body_of items tree) ≡ true
  refills =
      all_drops _ (λ b n. refl) (λ b on y n. refl) (λ b on variant y n. refl) (λ b to op left right n u. refl) (λ b to of n u. refl) (λ b index count n u. refl) (λ b to body args n u. refl) (λ b to trait_no method args n u. refl) (λ b to n u. refl) (λ b why u. refl) (λ b. refl) (λ b. refl)
      (λ b place n u h. or_first _ _ (whole_gone place h))
      (λ b place node n m h k. or_second _ _ (both _ _ (found _ _ _ h.5 (or_first _ _ (at_itself (places.named place)))) (found _ _ _ k.5 (or_first _ _ (at_itself (places.named place))))))
      (body_of items tree).blocks (λ n block e. ends_drop (is_cleanup block) (end_node n block) block.term (block_tidy n block e).0)

  frees : frees_nothing (body_of items tree) ≡ true
  frees = blocks_free_none (body_of items tree).blocks (λ n block e. (block_tidy n block e).1)

  begins : begins_once (body_of items tree) ≡ true
  begins = blocks_begin_once (body_of items tree).blocks (λ n block e. (block_well n block e).0)

  refilled_by : (place : Place) (next node : ℕ) (unwind : Unwind) → laid.DropsWell t (Term.DropAt place next unwind) node →
      (place.steps ≡ []) ⊎ (IsRefilledIn (body_of items tree) place next × (node_of items tree next 0 ≡ node))
  refilled_by place next node (Unwind.Block m) (inl h) = inl h
  refilled_by place next node (Unwind.Block m) (inr h) =
      let at = h.0 in
      inr (
        (
          record { kind = at.0; rank = at.1; stmts = Stmt.Put place at.2 ∷ at.3; term = at.4 },
          at.2,
          at.3,
          at.5,
          refl,
        ),
        at.6,
      )
  refilled_by place next node Unwind.Resume h = inl h
  refilled_by place next node Unwind.Abort h = inl h

  refilled_at : (n next : ℕ) (block : Block) (place : Place) (unwind : Unwind) →
      slice_get (body_of items tree).blocks n ≡ Some block → block.term ≡ Term.DropAt place next unwind →
      (place.steps ≡ []) ⊎ (IsRefilledIn (body_of items tree) place next × (node_of items tree next 0 ≡ end_node n block))
  refilled_at n next block place unwind e is =
      refilled_by place next (end_node n block) unwind (subst (λ term. laid.DropsWell t term (end_node n block)) is
      (ends_drop (is_cleanup block) (end_node n block) block.term (block_tidy n block e).0))

  pub holds : HoldsBody items tree (body_of items tree) (node_of items tree)
  holds = record { ranked = is_ranked; params = refl; locals = refl; holds_code = holds_code }

-- ---- programs
module _ (program : ProgramTree) (named : AllNameTheirLoops program) where
  abbrev node_among : Option BodyTree → (block line : ℕ) → ℕ
  node_among None block line = 0
  node_among (Some tree) block line = node_of program.items tree block line

  locals_same : (trees : List BodyTree) → map (λ (body : Body). body.locals) (map (body_of program.items) trees) ≡ map (local_tys program.items) trees
  locals_same [] = refl
  locals_same (tree ∷ trees) = ap (λ list. local_tys program.items tree ∷ list) (locals_same trees)

  holds_program : HoldsProgram program (graph_of program)
  holds_program = record {
    items = refl;
    locals = locals_same program.bodies;
    node = λ n. node_among (slice_get program.bodies n);
    bodies = λ n tree body e h.
        subst (λ o. HoldsBody program.items tree body (node_among o)) (sym e)
        (subst (λ body. HoldsBody program.items tree body (node_of program.items tree)) (same_Some (body_of program.items tree) body (sym (mapped (body_of program.items) program.bodies n tree e) ∙ h))
        (holds program.items tree (named n tree e)));
  }

pub lowered_runs_as_its_source : LoweredRunsAsItsSource
lowered_runs_as_its_source program named asked ticks = runs_as_its_source program (graph_of program) (holds_program program named) asked ticks

pub lowered_walks_as_it_runs_freely : LoweredWalksAsItRunsFreely
lowered_walks_as_it_runs_freely items tree named list = walks_as_it_runs_freely items tree (body_of items tree) (node_of items tree) (holds items tree named) list

-- block 1 does nothing but return
pub lowered_returns : (items : ItemTable) (tree : BodyTree) → NamesItsLoops tree → slice_get (body_of items tree).blocks 1 ≡ Some (record { kind = Kind.Plain; rank = 1; stmts = []; term = Term.Return })
lowered_returns items tree named = (return_at items tree named).0

-- block 0 is no turn block
pub lowered_begins_plain : (items : ItemTable) (tree : BodyTree) → NamesItsLoops tree →
    (block : Block) × (slice_get (body_of items tree).blocks 0 ≡ Some block) × (block.kind ≡ Kind.Plain)
lowered_begins_plain items tree named = begins_plain items tree named

pub lowered_is_ranked : LoweredIsRanked
lowered_is_ranked items tree named = is_ranked items tree named

pub lowered_keeps_to_cleanup : LoweredKeepsToCleanup
lowered_keeps_to_cleanup items tree named n block e =
    let h = keeps items tree named (end_node items tree named n block) block (block_tidy items tree named n block e).0 in
    (h.0, λ m c. stands_in items tree named (targets block.term) h.1 c.0 m (slice_get-Contains (targets block.term) m c))

pub lowered_is_prepared : LoweredIsPrepared
lowered_is_prepared items tree named = (frees items tree named, begins items tree named, refills items tree named)

pub lowered_refills_parts : LoweredRefillsParts
lowered_refills_parts items tree named = refilled_at items tree named
