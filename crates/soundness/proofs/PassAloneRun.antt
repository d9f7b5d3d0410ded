-- No run fails by a call, if none does at a node that calls where its arguments are made: at all other nodes that is
-- so, and what is known of references meanwhile is that borrows of the block have made them.
use Rattle.std.proofs.Common.{◌≡◌, inl, ℕ, ◌&&◌, Bool, true, false, List, [], ◌∷◌, Option, Some, None, refl, ap, subst}
use Rattle.std.specs.Prelude.{slice_get}
use Rattle.std.proofs.lemmas.Bool.{false≢true}
use Rattle.mir_base.specs.declared.place_in_text.Pos.{Pos}
use Rattle.mir_ty.specs.declared.ty.TyId.{TyId}
use Rattle.mir_ty.specs.ItemTable.{ItemTable}
use Rattle.store_model.specs.Abstract.Effects as free
use Rattle.store_model.specs.Abstract.Effects.{AbstractState, acted_on, never_at}
use Rattle.store_model.specs.Effects as effects
use Rattle.store_model.specs.Effects.{EffectSite, Action, StuckAt, Out, Go, Unwind, Halts, Choice, Yes, No, Neither, Effects, Infeasible, Unreachable, halting_if, stores_where}
use Rattle.typed_tree.specs.declared.node.Use.{Use}
use Rattle.typed_tree.specs.Nodes.{number_of, nodes_of}
use Rattle.typed_tree.specs.Tree as tree
use Rattle.typed_tree.specs.Tree.{Node, node, Form, BodyTree, ProgramTree}
use Rattle.src_meaning.specs.Locals.Effects.{action_at, test_at, site_at, place_at}
use Rattle.src_meaning.specs.Locals.OfBody.{local_ty, local_of}
use Rattle.src_meaning.specs.Shape as shapes
use Rattle.typing_rules.specs.Accesses as rules
use Rattle.typing_rules.specs.Accesses.{told_form}
use Rattle.well_typed.specs.Claim.{Holds}
use Rattle.well_typed.specs.Nodes as typing
use Rattle.well_typed.specs.Places.{form_of, is_borrow}
use Rattle.soundness_values.specs.Laws.{IsSound}
use Rattle.soundness_values.proofs.AlsoTests.{Also, checks_also, nothing_else}
use Rattle.soundness_values.proofs.Checked.{Checking, with_facts, chosen_with}
use Rattle.soundness_values.proofs.CheckedBodies.{checks_of, is_reference_param}
use Rattle.soundness_values.proofs.Facts.{Naming, Facts}
use Rattle.soundness_values.proofs.Leaving.{ShownOut}
use Rattle.soundness_values.proofs.Owing.{starting_of}
use Rattle.soundness_frame.proofs.PassWithin.{Outer}
use Rattle.soundness_frame.proofs.PassBlockTold.{in_block, block_within}
use Rattle.soundness.proofs.PassCallsAlone as alone
use Rattle.soundness.proofs.PassCallsAlone.{alone_mark, alone_marks, alone_run, alone_act, act_alone_if, eight, AloneHolds}
use Rattle.soundness_cells.proofs.PassCellEffects.{Quiet, acted_quiet, ChosenSo, test_quiet, drop_quiet}
use Rattle.soundness_cells.proofs.PassCellTests.{cells_act}
use Rattle.soundness_cells.proofs.PassCells.{NodeIn}
use Rattle.soundness_cells.proofs.PassFacts.{Standpoint, context}
use Rattle.soundness_frame.proofs.PassFrameActs.{is_plain, AnsweredSo, KeepingSo}
use Rattle.soundness_frame.proofs.PassFrameBodies.{any_place, body_kept_by}
use Rattle.soundness_frame.proofs.PassFrameHeads as pass_frame_heads
use Rattle.soundness_frame.proofs.PassFrameOperands as pass_frame_operands
use Rattle.soundness_cells.proofs.PassMarks.{StandFor, marked, chosen_marked}
use Rattle.soundness.proofs.PassNamingKept as kept
use Rattle.soundness_cells.proofs.PassRefilled.{not_mark, unmarked}
use Rattle.soundness_cells.proofs.PassRestSplit.{test_calls, drop_calls, give_calls}
use Rattle.soundness_frame.proofs.PassTold.{KnownOf, Here, Told, ids}
use Rattle.soundness_frame.proofs.PassToldBelow.{Saying}

pub none_own : (more own others places apart : Bool) → alone_mark more own others places apart ≡ None → (more && own)
    ≡ true
none_own true true others places apart e = refl
none_own false true others places apart e = absurd (let never : ⊥ = cc in never)
none_own more false false places apart e = absurd (let never : ⊥ = cc in never)
none_own more false true false apart e = absurd (let never : ⊥ = cc in never)
none_own more false true true false e = absurd (let never : ⊥ = cc in never)
none_own more false true true true e = absurd (let never : ⊥ = cc in never)

module _ (items : ItemTable) (body : BodyTree) (also : Also) where
  abbrev V : Type 0
  V = Checking Facts

  abbrev local : ℕ → ℕ
  local = local_of items body

  abbrev pub run : Effects V
  run = alone_run items body also

  -- a node of the block that borrows, with a number
  abbrev pub BorrowAt : ℕ → Type 0
  BorrowAt key = (m : Node) × ((number_of m ≡ key) × ((is_borrow (form_of m) ≡ true) × NodeIn (nodes_of body.block) m))

  -- a reference was made by one, in its own local
  abbrev pub MadeAt : Naming → Type 0
  MadeAt m = (key : ℕ) × ((local key ≡ m.local) × BorrowAt key)

  abbrev pub I : V → Type 0
  I v = kept.AllNamed items (local_ty items body) (is_reference_param items body) MadeAt v.facts

  abbrev Known : Facts → Type 0
  Known = kept.AllNamed items (local_ty items body) (is_reference_param items body) MadeAt

  -- nothing is said here of calls
  abbrev pub Does_ : Action → Type 0
  Does_ (effects.Borrow to unique base) = BorrowAt to.place.local
  Does_ (effects.Free box) = ⊥
  Does_ (effects.Call to callee args) = ⊥
  Does_ (effects.CallVirtual to trait_no method args) = ⊥
  Does_ action = Unit {0}

  abbrev pub Drops : EffectSite → Type 0
  Drops site = Unit {0}

  pub plain_does : (action : Action) → is_plain action ≡ true → Does_ action
  plain_does (effects.Borrow to unique base) e = absurd (false≢true e)
  plain_does (effects.Free box) e = absurd (false≢true e)
  plain_does (effects.Call to callee args) e = absurd (false≢true e)
  plain_does (effects.CallVirtual to trait_no method args) e = absurd (false≢true e)
  plain_does action e = tt

  other_holds : (facts : Facts) (w : AbstractState) (action : Action) → Does_ action →
      alone_act items body also facts w.cells (action_at local action) ≡ true
  other_holds facts w (effects.Free box) d = absurd d
  other_holds facts w (effects.Call to callee args) d = absurd d
  other_holds facts w (effects.CallVirtual to trait_no method args) d = absurd d
  other_holds facts w action d = refl

  abbrev pub Makes : Action → Type 0
  Makes = kept.Makes items (local_ty items body) (is_reference_param items body) MadeAt

  pub makes : (action : Action) → Does_ action → Makes (action_at local action)
  makes (effects.Borrow to unique base) d = (to.place.local, (refl, d))
  makes (effects.Call to callee args) d = tt
  makes (effects.CallVirtual to trait_no method args) d = tt
  makes action d = tt

  -- ---- however free effects end

  halting_quiet : (b : Bool) (o : Out AbstractState) → Quiet items (local_ty items body) (Unit {0}) o →
      Quiet items (local_ty items body) (Unit {0}) (halting_if b Unreachable o)
  halting_quiet true (Go w) h = tt
  halting_quiet true (Unwind w) h = h
  halting_quiet true (Halts halt w) h = h
  halting_quiet false o h = h

  known_so : (went unwound : Facts) (o : Out AbstractState) → Quiet items (local_ty items body) (Unit {0}) o →
      Known went → Known unwound → ShownOut {V = V} (not_mark 8) I I (with_facts went unwound o)
  known_so went unwound (Go w) q f g = f
  known_so went unwound (Unwind w) q f g = g
  known_so went unwound (Halts halt w) q f g = unmarked 8 halt q

  chosen_so : (taken declined : Facts) (o : Choice AbstractState) → ChosenSo items (local_ty items body) o →
      Known taken → Known declined → AnsweredSo {V = V} (not_mark 8) I (chosen_with taken declined o)
  chosen_so taken declined (Yes w) q f g = f
  chosen_so taken declined (No w) q f g = g
  chosen_so taken declined (Neither halt w) q f g = unmarked 8 halt q

  ticked : (facts : Facts) (w : AbstractState) (list : List Bool) → Known facts → ShownOut {V = V} (not_mark 8) I I
      (with_facts facts facts (free.next_choice list w Go (Halts Infeasible)))
  ticked facts w [] k = tt
  ticked facts w (false ∷ rest) k = k
  ticked facts w (true ∷ rest) k = tt

  either : (mark : Option ℕ) (v : V) (o : Out V) → (mark ≡ Some 8 → ⊥) →
      (mark ≡ None → ShownOut (not_mark 8) I I o) → ShownOut (not_mark 8) I I (marked mark v o)
  either None v o f h = h refl
  either (Some mark) v o f h = λ e. f (ap Some e)

  either_choice : (mark : Option ℕ) (v : V) (o : Choice V) → (mark ≡ Some 8 → ⊥) → AnsweredSo (not_mark 8) I o →
      AnsweredSo (not_mark 8) I (chosen_marked mark v o)
  either_choice None v o f h = h
  either_choice (Some mark) v o f h = λ e. f (ap Some e)

  -- a run without a mark is in order
  pub marks_stand : StandFor (alone_marks items body also) (checks_also also (checks_of items body))
  marks_stand = record {
    acts = λ action v facts e. none_own (also.act facts action) ((checks_of items body).act_ok action v facts) _ _ _ e;
    chooses = λ test v facts e. none_own true ((checks_of items body).test_ok test v facts) _ _ true e;
    drops = λ mode site v facts e.
        none_own (also.drop site.place) ((checks_of items body).drop_ok mode site v facts) _ _ true e;
    gives = λ site v facts e. none_own true ((checks_of items body).give_ok site v facts) _ _ true e;
  }

  -- an action of which what is asked holds, if it is of the types of the cells
  pub acts_so : (action : Action) (v : V) →
      (cells_act items (local_ty items body) (is_reference_param items body) (action_at local action) ≡ true →
      alone_act items body also v.facts v.free.cells (action_at local action) ≡ true) →
      Makes (action_at local action) → I v → ShownOut (not_mark 8) I I (run.act action v)
  acts_so action v h m i = either ((alone_marks items body also).acting (action_at local action) v.free v.facts) v _
      (λ e. act_alone_if items body also (action_at local action) v.free v.facts h e)
      (λ e. known_so _ _ _ (halting_quiet (stores_where (never_at items (local_ty items body)) (action_at local action))
      (acted_on items (local_ty items body) (action_at local action) v.free)
      (acted_quiet items (local_ty items body) (action_at local action) v.free))
      (kept.action_named items (local_ty items body) (is_reference_param items body) MadeAt
      (action_at local action) v.facts m i)
      (kept.unwound_named items (local_ty items body) (is_reference_param items body) MadeAt
      (action_at local action) v.facts m i))

  pub keeps : KeepingSo run (not_mark 8) Does_ Drops any_place any_place any_place I
  keeps = record {
    acts = λ action v a d i. acts_so action v (λ c. other_holds v.facts v.free action d) (makes action d) i;
    chooses = λ test v t i. either_choice
        ((alone_marks items body also).choosing (test_at local test) v.free v.facts) v _
        (λ e. test_calls items body nothing_else (test_at local test) v.free v.facts
        (eight true ((checks_of items body).test_ok (test_at local test) v.free v.facts) _ _ true e).1)
        (chosen_so _ _ _ (test_quiet items (local_ty items body) (test_at local test) v.free)
        (kept.taken_named items (local_ty items body) (is_reference_param items body) MadeAt
        (test_at local test) v.facts i)
        (kept.declined_named items (local_ty items body) (is_reference_param items body) MadeAt
        (test_at local test) v.facts i));
    drops = λ mode site v m d i. either
        ((alone_marks items body also).dropping mode (site_at local site) v.free v.facts) v _
        (λ e. drop_calls items body nothing_else mode (site_at local site) v.free v.facts refl
        (eight (also.drop (place_at local site.place))
        ((checks_of items body).drop_ok mode (site_at local site) v.free v.facts) _ _ true e).1)
        (λ e. known_so _ _ _ (drop_quiet items (local_ty items body) mode (site_at local site) v.free)
        (kept.dropped_named items (local_ty items body) (is_reference_param items body) MadeAt
        (place_at local site.place) v.facts i)
        (kept.dropped_named items (local_ty items body) (is_reference_param items body) MadeAt
        (place_at local site.place) v.facts i));
    panics = λ why v i. i;
    ticks = λ v i. ticked v.facts v.free v.free.choices i;
    plain = plain_does;
    whole = λ key. tt;
    stores = λ place m. tt;
    coerces = λ place m. tt;
    aborts = λ v i. tt;
    lapses = λ v i. tt;
    stuck = λ v i. tt;
  }

  pub gives : (site : EffectSite) (v : V) → I v → ShownOut (not_mark 8) I I (run.give site v)
  gives site v i = either ((alone_marks items body also).giving (site_at local site) v.free v.facts) v _
      (λ e. give_calls items body nothing_else (site_at local site) v.free v.facts
      (eight true ((checks_of items body).give_ok (site_at local site) v.free v.facts) _ _ true e).1)
      (λ e. i)

-- ---- what is said of a node that calls: where it stands, its typing there, and that nothing conflicts in it

module _ (p : ProgramTree) (b : BodyTree) where
  abbrev pub InBlock : Node → Type 0
  InBlock m = NodeIn (nodes_of b.block) m

  abbrev pub Of : KnownOf
  Of = in_block p.items b InBlock

  pub record Stands (places : shapes.Aliases) (loops : Outer) (id : ℕ) (form : Form) : Type 0 where
    pub at : Pos
    pub ty : TyId
    pub by : Option Use
    pub aliases : rules.Aliases
    pub x : Standpoint
    pub around : loops ≡ ids x
    pub here : Here p.items any_place Of aliases places x (nodes_of (node id at ty by form))
    pub typed : Holds (typing.row (context p.items x) id ty form)
    pub told : Told p.items any_place Of aliases (told_form aliases at form)

  pub says : Saying p.items any_place Of Stands
  says form id at ty by aliases places x o g h t = record {
    at = at;
    ty = ty;
    by = by;
    aliases = aliases;
    x = x;
    around = refl;
    here = o;
    typed = h;
    told = t;
  }

  pub telling : (also : Also) → pass_frame_heads.Telling p.items (Does_ p.items b also) (Drops p.items b also) Stands
  telling also = record {
    borrows = λ places loops id unique base s. (
      node id s.at s.ty s.by (tree.Borrow unique base),
      (refl, (refl, s.here.all (node id s.at s.ty s.by (tree.Borrow unique base)) (inl refl))),
    );
    assigns = λ places loops id place value s. tt;
  }

module _ (p : ProgramTree) (sound : IsSound p) where
  -- what is asked of each node that calls, once its arguments are made
  abbrev pub CallsAsked : Type 0
  CallsAsked = (n fuel : ℕ) (b : BodyTree) → slice_get p.bodies n ≡ Some b →
      pass_frame_operands.AtCalls p.items (run p.items b (alone.also p sound n)) (not_mark 8)
      (Does_ p.items b (alone.also p sound n)) (Drops p.items b (alone.also p sound n)) any_place any_place any_place
      (I p.items b (alone.also p sound n)) (keeps p.items b (alone.also p sound n)) (Stands p b) fuel

  not_eight : (went panicked : Checking Facts → Type 0) (o : Out (Checking Facts)) (block : ℕ) (w : Checking Facts) →
      o ≡ Halts (StuckAt 8 block) w → ShownOut (not_mark 8) went panicked o → ⊥
  not_eight went panicked o block w e h =
      let no : 8 ≡ 8 → ⊥ = subst (ShownOut (not_mark 8) went panicked) e h in no refl

  -- so no run fails by a call
  pub alone_by_calls : CallsAsked → AloneHolds p sound
  alone_by_calls asked n fuel b e list block w h = not_eight (I p.items b (alone.also p sound n))
      (I p.items b (alone.also p sound n)) _ block w h
      (body_kept_by p.items (run p.items b (alone.also p sound n)) (not_mark 8)
      (Does_ p.items b (alone.also p sound n)) (Drops p.items b (alone.also p sound n)) any_place
      (I p.items b (alone.also p sound n)) (keeps p.items b (alone.also p sound n)) (Stands p b) fuel
      (telling p b (alone.also p sound n)) (asked n fuel b e) (gives p.items b (alone.also p sound n)) b
      (block_within p sound.typed sound.borrows n b e (InBlock p b) (λ m i. i) (Stands p b) (says p b))
      (Rattle.soundness_values.proofs.Relating.feeds list (starting_of p b)) tt)
