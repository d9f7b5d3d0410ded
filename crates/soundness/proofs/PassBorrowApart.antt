-- A borrow goes to a cell of its own: to no parameter, to no local of the place that is borrowed, and to no index on
-- the
-- way to it; for names in scope have lower numbers than the nodes behind, and the nodes inside higher ones. What is
-- passed
-- to a call stands in no parameter that is a reference, and no box is freed alone.
use Rattle.std.proofs.Common.{◌≡◌, inl, ℕ, ◌<◌, ◌+◌, ◌==◌, ◌&&◌, ◌||◌, not, Bool, true, false, List, [], ◌∷◌, ◌++◌, map, Option, Some, None, refl, ap, sym, subst, arith}
use Rattle.std.specs.Prelude.{slice_get}
use Rattle.std.specs.Cmp.Derive.{both_true}
use Rattle.std.specs.List.{list_all}
use Rattle.std.proofs.lemmas.Bool.{false≢true}
use Rattle.std.proofs.lemmas.Bool.Decides.{Decides-eqb}
use Rattle.mir_ty.specs.declared.def.Sig.{Sig}
use Rattle.mir_ty.specs.ItemTable.{ItemTable}
use Rattle.store_model.specs.Abstract.Effects as free
use Rattle.store_model.specs.Abstract.Effects.{AbstractState, abstract_effects, acted_on, never_at}
use Rattle.store_model.specs.Effects as effects
use Rattle.store_model.specs.Effects.{EffectSite, Operand, Action, StuckAt, Infeasible, Unreachable, Out, Go, Unwind, Halts, Choice, Yes, No, Neither, Effects, halting_if, stores_where}
use Rattle.store_model.specs.Places.Place.{Step, ToPart, ToField, ToContent, ToElement}
use Rattle.typed_tree.specs.Nodes.{number_of, nodes_of, nodes_in, nodes_among, param_nodes}
use Rattle.typed_tree.specs.Tree as tree
use Rattle.typed_tree.specs.Tree.{Node, node, Form, Nodes, no_node, a_node, BodyTree, ProgramTree}
use Rattle.src_meaning.specs.Locals.Effects.{at_locals, action_at, test_at, site_at, place_at, step_at, operand_at}
use Rattle.src_meaning.specs.Locals.OfBody.{local_ty, local_of, local_keys}
use Rattle.src_meaning.specs.Programs.{activation}
use Rattle.src_meaning.specs.Shape as shapes
use Rattle.src_meaning.specs.Shape.{shape}
use Rattle.well_typed.specs.Claim.{Holds}
use Rattle.well_typed.specs.Places.{InScope, Used, borrow_by}
use Rattle.well_typed.specs.Program.{is_body}
use Rattle.soundness_values.specs.Laws.{IsSound}
use Rattle.soundness_values.proofs.AlsoTests.{Also, checks_also}
use Rattle.soundness_values.proofs.Checked.{Checking, with_facts, chosen_with}
use Rattle.soundness_values.proofs.CheckedBodies.{checks_of, is_reference_param}
use Rattle.soundness_values.proofs.Facts.{Facts, takes_index}
use Rattle.soundness_values.proofs.Leaving.{ShownOut}
use Rattle.soundness_frame.proofs.PassWithin.{Outer}
use Rattle.soundness_frame.proofs.PassBlockTold.{in_block, block_within}
use Rattle.soundness_cells.proofs.PassCellEffects.{Quiet, acted_quiet, ChosenSo, test_quiet, drop_quiet}
use Rattle.soundness_cells.proofs.PassCells.{Above, NodeIn, node_left, node_right, above_in, rising}
use Rattle.soundness_cells.proofs.PassFirst.{body_at}
use Rattle.soundness_frame.proofs.PassFrameActs.{is_plain, AnsweredSo, KeepingSo}
use Rattle.soundness_frame.proofs.PassFrameBodies.{any_place, body_kept}
use Rattle.soundness_frame.proofs.PassFrameHeads.{Telling, TellingCalls, moved_nodes}
use Rattle.soundness_frame.proofs.PassKeys.{Keys, KeysIn, keys_more, place_keys}
use Rattle.soundness_cells.proofs.PassLocals.{one_key}
use Rattle.soundness_cells.proofs.PassMarks.{Marks, marked, chosen_marked, marked_effects}
use Rattle.soundness_cells.proofs.PassNumbers.{Numbered, Rises}
use Rattle.soundness_frame.proofs.PassPastParams.{no_param}
use Rattle.soundness.proofs.PassProtectEnds.{numbered_in}
use Rattle.soundness_cells.proofs.PassRefilled.{not_mark, NotMark, unmarked}
use Rattle.soundness_frame.proofs.PassTold.{KnownOf}
use Rattle.soundness_frame.proofs.PassToldBelow.{Saying}
use Rattle.soundness_frame.proofs.PassToldPlaces.{is_alias}

-- ---- the test, and its marks: 7 where it fails, 2 where another does

-- an operand is taken out of no parameter that is a reference
abbrev pub no_target : ItemTable → BodyTree → Operand → Bool
no_target items body (effects.Moved site) = not (is_reference_param items body site.place.local)
no_target items body operand = true

abbrev pub apart_act : ItemTable → BodyTree → Action → Bool
apart_act items body (effects.Borrow to unique base) = not (is_reference_param items body to.place.local)
    && (not (base.place.local == to.place.local) && not (takes_index to.place.local base.place.steps))
apart_act items body (effects.Call to callee args) = list_all (no_target items body) args
apart_act items body (effects.CallVirtual to trait_no method args) = list_all (no_target items body) args
apart_act items body (effects.Free box) = false
apart_act items body action = true

abbrev pub apart_mark : (own apart : Bool) → Option ℕ
apart_mark true apart = None
apart_mark false true = Some 2
apart_mark false false = Some 7

module _ (items : ItemTable) (body : BodyTree) (also : Also) where
  abbrev pub apart_marks : Marks Facts
  apart_marks = record {
    acting = λ action v facts. apart_mark (also.act facts action && (checks_of items body).act_ok action v facts)
        (apart_act items body action);
    choosing = λ test v facts. apart_mark ((checks_of items body).test_ok test v facts) true;
    dropping = λ mode site v facts.
        apart_mark (also.drop site.place && (checks_of items body).drop_ok mode site v facts) true;
    giving = λ site v facts. apart_mark ((checks_of items body).give_ok site v facts) true;
  }

  abbrev V : Type 0
  V = Checking Facts

  abbrev local : ℕ → ℕ
  local = local_of items body

  abbrev pub apart_run : Effects (Checking Facts)
  apart_run = at_locals (local_of items body) (marked_effects (checks_also also (checks_of items body)) apart_marks
      (abstract_effects items (local_ty items body)))

  -- ---- what is known of an action

  abbrev pub Does_ : Action → Type 0
  Does_ (effects.Borrow to unique base) = apart_act items body (action_at local (effects.Borrow to unique base)) ≡ true
  Does_ (effects.Call to callee args) = list_all (no_target items body) (map (operand_at local) args) ≡ true
  Does_ (effects.CallVirtual to trait_no method args) =
      list_all (no_target items body) (map (operand_at local) args) ≡ true
  Does_ (effects.Free box) = ⊥
  Does_ action = Unit {0}

  abbrev pub Drops : EffectSite → Type 0
  Drops site = Unit {0}

  abbrev pub I : V → Type 0
  I v = Unit {0}

  holds : (action : Action) → Does_ action → apart_act items body (action_at local action) ≡ true
  holds (effects.Borrow to unique base) d = d
  holds (effects.Call to callee args) d = d
  holds (effects.CallVirtual to trait_no method args) d = d
  holds (effects.Free box) d = absurd d
  holds action d = refl

  plain_does : (action : Action) → is_plain action ≡ true → Does_ action
  plain_does (effects.Borrow to unique base) e = absurd (false≢true e)
  plain_does (effects.Call to callee args) e = absurd (false≢true e)
  plain_does (effects.CallVirtual to trait_no method args) e = absurd (false≢true e)
  plain_does (effects.Free box) e = absurd (false≢true e)
  plain_does action e = tt

  -- ---- however free effects end

  halting_quiet : (b : Bool) (o : Out AbstractState) → Quiet items (local_ty items body) (Unit {0}) o →
      Quiet items (local_ty items body) (Unit {0}) (halting_if b Unreachable o)
  halting_quiet true (Go w) h = tt
  halting_quiet true (Unwind w) h = h
  halting_quiet true (Halts halt w) h = h
  halting_quiet false o h = h

  known_so : (went unwound : Facts) (o : Out AbstractState) → Quiet items (local_ty items body) (Unit {0}) o →
      ShownOut {V = V} (not_mark 7) I I (with_facts went unwound o)
  known_so went unwound (Go w) q = tt
  known_so went unwound (Unwind w) q = tt
  known_so went unwound (Halts halt w) q = unmarked 7 halt q

  chosen_so : (taken declined : Facts) (o : Choice AbstractState) → ChosenSo items (local_ty items body) o →
      AnsweredSo {V = V} (not_mark 7) I (chosen_with taken declined o)
  chosen_so taken declined (Yes w) q = tt
  chosen_so taken declined (No w) q = tt
  chosen_so taken declined (Neither halt w) q = unmarked 7 halt q

  ticked : (facts : Facts) (w : AbstractState) (list : List Bool) → ShownOut {V = V} (not_mark 7) I I
      (with_facts facts facts (free.next_choice list w Go (Halts Infeasible)))
  ticked facts w [] = tt
  ticked facts w (false ∷ rest) = tt
  ticked facts w (true ∷ rest) = tt

  other : NotMark 7 (StuckAt 2 0)
  other e = let same : 2 ≡ 7 = e in omega (same, arith)

  either : (own apart : Bool) (v : V) (o : Out V) → apart ≡ true → ShownOut (not_mark 7) I I o →
      ShownOut (not_mark 7) I I (marked (apart_mark own apart) v o)
  either true apart v o e h = h
  either false true v o e h = other
  either false false v o e h = absurd (false≢true e)

  either_choice : (own : Bool) (v : V) (o : Choice V) → AnsweredSo (not_mark 7) I o →
      AnsweredSo (not_mark 7) I (chosen_marked (apart_mark own true) v o)
  either_choice true v o h = h
  either_choice false v o h = other

  keeps : KeepingSo apart_run (not_mark 7) Does_ Drops any_place any_place any_place I
  keeps = record {
    acts = λ action v a d i. either (also.act v.facts (action_at local action)
        && (checks_of items body).act_ok (action_at local action) v.free v.facts)
        (apart_act items body (action_at local action)) v _ (holds action d)
        (known_so _ _ _ (halting_quiet (stores_where (never_at items (local_ty items body)) (action_at local action))
        (acted_on items (local_ty items body) (action_at local action) v.free)
        (acted_quiet items (local_ty items body) (action_at local action) v.free)));
    chooses = λ test v t i. either_choice ((checks_of items body).test_ok (test_at local test) v.free v.facts) v _
        (chosen_so _ _ _ (test_quiet items (local_ty items body) (test_at local test) v.free));
    drops = λ mode site v m d i. either (also.drop (place_at local site.place)
        && (checks_of items body).drop_ok mode (site_at local site) v.free v.facts) true v _ refl
        (known_so _ _ _ (drop_quiet items (local_ty items body) mode (site_at local site) v.free));
    panics = λ why v i. tt;
    ticks = λ v i. ticked v.facts v.free v.free.choices;
    plain = plain_does;
    whole = λ key. tt;
    stores = λ place m. tt;
    coerces = λ place m. tt;
    aborts = λ v i. tt;
    lapses = λ v i. tt;
    stuck = λ v i. tt;
  }

  gives : (site : EffectSite) (v : V) → I v → ShownOut (not_mark 7) I I (apart_run.give site v)
  gives site v i = by ((checks_of items body).give_ok (site_at local site) v.free v.facts)
    where
      by : (o : Bool) → ShownOut (not_mark 7) I I (marked (apart_mark o true) v
          (with_facts v.facts v.facts ((abstract_effects items (local_ty items body)).give
          (site_at local site) v.free)))
      by true = tt
      by false = other

-- ---- no index on the way has another number

pub no_index : (keys : List ℕ) (id : ℕ) (steps : List Step) → KeysIn (λ k. k ≡ id → ⊥) steps →
    takes_index (Rattle.src_meaning.specs.Locals.OfBody.local_among keys id)
    (map (step_at (Rattle.src_meaning.specs.Locals.OfBody.local_among keys)) steps) ≡ false
no_index keys id [] h = refl
no_index keys id (ToPart n ∷ steps) h = no_index keys id steps h
no_index keys id (ToField v n ∷ steps) h = no_index keys id steps h
no_index keys id (ToContent ∷ steps) h = no_index keys id steps h
no_index keys id (ToElement i ∷ steps) h = by (Rattle.src_meaning.specs.Locals.OfBody.local_among keys i
    == Rattle.src_meaning.specs.Locals.OfBody.local_among keys id) refl (no_index keys id steps h.1)
  where
    by : (b : Bool) → (Rattle.src_meaning.specs.Locals.OfBody.local_among keys i
        == Rattle.src_meaning.specs.Locals.OfBody.local_among keys id) ≡ b →
        takes_index (Rattle.src_meaning.specs.Locals.OfBody.local_among keys id)
        (map (step_at (Rattle.src_meaning.specs.Locals.OfBody.local_among keys)) steps) ≡ false →
        (b || takes_index (Rattle.src_meaning.specs.Locals.OfBody.local_among keys id)
        (map (step_at (Rattle.src_meaning.specs.Locals.OfBody.local_among keys)) steps)) ≡ false
    by false e later = later
    by true e later = absurd (h.0 (one_key keys i id ((Decides-eqb _ _).0 e)))

is_other : (n m : ℕ) → (n ≡ m → ⊥) → not (n == m) ≡ true
is_other n m f = by (n == m) refl
  where
    by : (b : Bool) → (n == m) ≡ b → not b ≡ true
    by false e = refl
    by true e = absurd (f ((Decides-eqb n m).0 e))

module _ (p : ProgramTree) (sound : IsSound p) (n : ℕ) (b : BodyTree) (at : slice_get p.bodies n ≡ Some b) (also : Also)
  where
    found : (sig : Sig) × ((slice_get p.items.bodies n ≡ Some sig) × Holds (is_body p.items (0 + n) sig b))
    found = body_at p.items 0 p.items.bodies p.bodies sound.typed.1 n b at

    all_rise : Rises (param_nodes b.params ++ nodes_of b.block)
    all_rise = found.1.1.1.1.1.0

    abbrev InBlock : Node → Type 0
    InBlock m = NodeIn (nodes_of b.block) m

    abbrev Of : KnownOf
    Of = in_block p.items b InBlock

    -- the nodes inside are those of the block
    abbrev Inside : Form → Type 0
    Inside form = (m : Node) → NodeIn (nodes_in form) m → NodeIn (nodes_of b.block) m

    -- a borrow is of a place with other keys than its own
    abbrev Says : shapes.Aliases → Outer → ℕ → Form → Type 0
    Says places loops id (tree.Borrow unique base) =
        Numbered (nodes_of b.block) id × Keys (λ k. k ≡ id → ⊥) ((shape p.items base).place places)
    Says places loops id (tree.Call body args) = Inside (tree.Call body args)
    Says places loops id (tree.MethodCall body receiver args) = Inside (tree.MethodCall body receiver args)
    Says places loops id (tree.VirtualCall trait_no method receiver args) =
        Inside (tree.VirtualCall trait_no method receiver args)
    Says places loops id (tree.ClosureCall body callee args) = Inside (tree.ClosureCall body callee args)
    Says places loops id form = Unit {0}

    below_apart : (k id : ℕ) → k < id → k ≡ id → ⊥
    below_apart k id l e = let less : k < id = l in let same : k ≡ id = e in omega (less, same, arith)

    above_apart : (k id : ℕ) → id < k → k ≡ id → ⊥
    above_apart k id l e = let less : id < k = l in let same : k ≡ id = e in omega (less, same, arith)

    says : Saying p.items any_place Of Says
    says (tree.Borrow unique base) id from ty by aliases places x o g h t = (
      numbered_in (nodes_of b.block) (node id from ty by (tree.Borrow unique base)) (o.all _ (inl refl)),
      place_keys (λ k. k ≡ id → ⊥) p.items places x
          (λ key y e. keys_more (λ k. Above k (node id from ty by (tree.Borrow unique base) ∷ nodes_of base))
          (λ k. k ≡ id → ⊥) (λ k a. below_apart k id a.0) (shapes.place_of_key key places) (o.low key y e))
          (λ y e. of_closure y e (is_alias aliases y.key) refl) base (Used (borrow_by unique)) h.0
          (λ m i. above_apart (number_of m) id (above_in id (nodes_of base) m
          (rising (node id from ty by (tree.Borrow unique base)) (nodes_of base) o.rises).0 i)),
    )
      where
        of_closure : (y : InScope) → x.closure ≡ Some y → (c : Bool) → is_alias aliases y.key ≡ c →
            Keys (λ k. k ≡ id → ⊥) (shapes.place_of_key y.key places)
        of_closure y e true a = absurd (o.sees.closure y e a)
        of_closure y e false a = subst (Keys (λ k. k ≡ id → ⊥)) (sym (o.sees.plain y.key a))
            (below_apart y.key id (o.outer y e).0, tt)
    says (tree.Call body args) id from ty by aliases places x o g h t = g.all
    says (tree.MethodCall body receiver args) id from ty by aliases places x o g h t = g.all
    says (tree.VirtualCall trait_no method receiver args) id from ty by aliases places x o g h t = g.all
    says (tree.ClosureCall body callee args) id from ty by aliases places x o g h t = g.all
    says form id from ty by aliases places x o g h t = tt

    no_targets : (at_node : ℕ) (args : Nodes) → ((m : Node) → NodeIn (nodes_among args) m →
        NodeIn (nodes_of b.block) m) →
        list_all (no_target p.items b) (map (operand_at (local_of p.items b)) (moved_nodes at_node args)) ≡ true
    no_targets at_node no_node f = refl
    no_targets at_node (a_node first rest) f = both_true
        (ap not (no_param p.items b all_rise (number_of first) (numbered_in (nodes_of b.block) first
        (f first (node_left (nodes_of first) (nodes_among rest) first (own_node first))))))
        (no_targets at_node rest (λ m i. f m (node_right (nodes_of first) (nodes_among rest) m i)))
      where
        own_node : (m : Node) → NodeIn (nodes_of m) m
        own_node (node id at ty by form) = inl refl

    telling : Telling p.items (Does_ p.items b also) (Drops p.items b also) Says
    telling = record {
      borrows = λ places loops id unique base s. both_true
          (ap not (no_param p.items b all_rise id s.0))
          (both_true (is_other _ _ (λ e. s.1.0 (one_key (local_keys p.items b) _ id e)))
          (ap not (no_index (local_keys p.items b) id ((shape p.items base).place places).steps s.1.1)));
      assigns = λ places loops id place value s. tt;
    }

    known : TellingCalls (Does_ p.items b also) Says
    known = record {
      calls = λ places loops id key callee args s. no_targets id args s;
      methods = λ places loops id key callee receiver args s. no_targets id (a_node receiver args) s;
      virtuals = λ places loops id key trait_no method receiver args s. no_targets id (a_node receiver args) s;
      closures = λ places loops id key callee value args s. no_targets id (a_node value args) s;
    }

    -- no run of the body fails this test
    pub apart_ends : (fuel : ℕ) (v : Checking Facts) →
        ShownOut (not_mark 7) (λ w. Unit {0}) (λ w. Unit {0}) (activation p.items (apart_run p.items b also) fuel b v)
    apart_ends fuel v = body_kept p.items (apart_run p.items b also) (not_mark 7) (Does_ p.items b also)
        (Drops p.items b also) any_place (I p.items b also) (keeps p.items b also) Says fuel
        telling known (gives p.items b also) b
        (block_within p sound.typed sound.borrows n b at InBlock (λ m i. i) Says says) v tt
