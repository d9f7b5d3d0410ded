-- A block of a ladder that tests a flag goes on by what the flag holds: so the ladder of what is gone does nothing.
use Rattle.std.proofs.Common.{◌≡◌, inl, inr, ℕ, suc, ◌==◌, ◌≤◌, Bool, true, false, List, [], ◌∷◌, length, Option, Some, None, if◌then◌else◌, refl, ap, sym, ◌∙◌, arith}
use Rattle.std.proofs.lemmas.Bool.Decides.{eqb_tells}
use Rattle.std.specs.Option.{option_map_or}
use Rattle.mir_ty.specs.declared.ty.TyId.{TyId}
use Rattle.mir_ty.specs.ItemTable.{ItemTable}
use Rattle.cfg_graph.specs.declared.graph.Body.{Body}
use Rattle.cfg_graph.specs.declared.place.Operand.{Operand}
use Rattle.cfg_graph.specs.declared.place.Place.{Place}
use Rattle.cfg_graph.specs.declared.place.Step.{Step}
use Rattle.cfg_graph.specs.declared.statement.Stmt.{Stmt}
use Rattle.cfg_graph.specs.declared.terminator.Term.{Term}
use Rattle.cfg_meaning.specs.Actions.{operand_of}
use Rattle.cfg_meaning.specs.Walk.{Next, branch, renamed_choice, naming, stmts_do, term_does}
use Rattle.store_model.specs.Concrete.Effects as acting
use Rattle.store_model.specs.Concrete.Effects.{concrete_effects, whole, chosen_truth}
use Rattle.store_model.specs.Values.Datum.{Truth}
use Rattle.store_model.specs.Effects as effects
use Rattle.store_model.specs.Effects.{Effects}
use Rattle.store_model.specs.Places.Place.{whole_local}
use Rattle.store_model.specs.Concrete.Location.{Setting, OfType, Located, root_address, located_root, Reaches, CutOff, Nowhere, reach_of, on_reached, along, reach, in_youngest}
use Rattle.store_model.specs.Concrete.State.{State, Activation, cell, at_depth, Bodies}
use Rattle.store_model.proofs.Concrete.Effects.{ticks_of}
use Rattle.drop_elaborate.specs.Ladder.{Ending, Calmly, Abruptly, place_below, local_place, BlockAt, FreedBy, LadderAt, PartsAt}
use Rattle.drop_values.specs.Like.{held_by, body_of, Flags, Like, strict_setting}
use Rattle.drop_values.specs.Plan.{Plan, Nothing, Entire, ByFlag, InParts, OfBox, ByVariant, Plans, no_plan, a_plan, Shut, Idle, AllIdle}
use Rattle.drop_elaborate.proofs.Walks.{unplaced, Walks}
use Rattle.drop_elaborate.proofs.Rungs.{Here as HereOf}

pub same_nat : (n : ℕ) → (n == n) ≡ true
same_nat n = elim (eqb_tells n n) [ inl y ↦ y.0 | inr y ↦ absurd (y.1 refl) ]

module _ (items : ItemTable) (local_ty local_ty' : (body local : ℕ) → Option TyId) (run' : Bodies) (most bound : ℕ)
    (body : Body) (node : ℕ → ℕ → ℕ) (Walk : Next State)
    (walks : Walks (naming unplaced (concrete_effects (strict_setting items local_ty') run' bound))
    ticks_of most body node Walk)
    (flags : Flags) (number depth : ℕ) where
  abbrev strict : Setting
  strict = strict_setting items local_ty'

  abbrev q : Effects State
  q = naming unplaced (concrete_effects strict run' bound)

  abbrev L : State → State → Type 0
  L = Like local_ty flags

  abbrev Here : State → Type 0
  Here = HereOf number depth

  -- a local that the elaboration added
  abbrev pub IsFlag : ℕ → Type 0
  IsFlag flag = (local_ty number flag ≡ None) × ((id : TyId) × (local_ty' number flag ≡ Some id))

  -- ---- blocks
  pub at_block : (n : ℕ) (stmts : List Stmt) (term : Term) (w : State) → BlockAt body n stmts term →
      w.ticks ≤ most → Walk n w ≡ stmts_do q (node n) 0 stmts (term_does q (node n (length stmts)) term Walk) w
  at_block n stmts term w b l =
      walks.plain n b.block b.there b.plain w l
      ∙ ap (λ s. stmts_do q (node n) 0 s (term_does q (node n (length s)) b.block.term Walk) w) b.stmts_are
      ∙ ap (λ t. stmts_do q (node n) 0 stmts (term_does q (node n (length stmts)) t Walk) w) b.term_is

  pub few' : (w w' : State) → L w w' → w.ticks ≤ most → w'.ticks ≤ most
  few' w w' like l = let e = like.ticks in omega (arith, e)

  -- ---- a flag
  pub flag_reached : (flag : ℕ) (w w' : State) → Here w → L w w' → IsFlag flag → (t : Located)
      × (reach strict w' (whole_local flag) ≡ Reaches t) × (t.value ≡ flags depth flag)
  flag_reached flag w w' here like f = by w'.activations refl
    where
      by : (acts : List Activation) → w'.activations ≡ acts → (t : Located)
          × (reach strict w' (whole_local flag) ≡ Reaches t) × (t.value ≡ flags depth flag)
      by [] e = absurd (let x : 0 ≡ suc depth = sym (ap length e) ∙ like.count ∙ here.deep in cc)
      by (a ∷ older) e =
          let deep : length older ≡ depth = (let x : suc (length older) ≡ suc depth = sym (ap length e)
          ∙ like.count ∙ here.deep in omega (arith, x)) in
          let at : at_depth depth w'.activations ≡ Some a = ap (at_depth depth) e
          ∙ ap (λ b. if b then Some a else at_depth depth older) (ap (λ m. depth == m) deep ∙ same_nat depth) in
          let number_is : a.body ≡ number = (let x : Some a.body ≡ Some number = sym (ap body_of at)
          ∙ like.bodies depth ∙ here.number_is in cc) in
          let t : Located = record {
            address = root_address (length older) flag;
            dynamic = OfType f.1.0;
            value =
                cell flag a.cells;
          } in (
            t,
            ap (in_youngest strict w' (whole_local flag)) e
                ∙ ap (λ o. on_reached (reach_of (located_root (length older) flag a.cells o))
                (along strict w' a.cells []) CutOff Nowhere) (ap (λ b. local_ty' b flag) number_is ∙ f.1.1),
            sym (ap (held_by flag) at) ∙ like.flags_are depth flag number here.number_is f.0,
          )

  flag_chosen : (flag : ℕ) (truth : Bool) (i : ℕ) (w w' : State) → Here w → L w w' → IsFlag flag →
      flags depth flag ≡ Truth truth →
      acting.choose strict (effects.IsTrue (operand_of i (Operand.Copied (local_place flag)))) w' ≡ chosen_truth strict
      (Some (Truth truth, w')) w'
  flag_chosen flag truth i w w' here like f e =
      let r = flag_reached flag w w' here like f in
      ap (λ o. chosen_truth strict (option_map_or (λ s. Some (s.value, w'))
      (on_reached o (acting.whole strict) None None) None) w') r.1
      ∙ by r.0 (r.2 ∙ e)
    where
      by : (t : Located) → t.value ≡ Truth truth → chosen_truth strict
          (option_map_or (λ s. Some (s.value, w')) (acting.whole strict t) None) w' ≡ chosen_truth strict
          (Some (Truth truth, w')) w'
      by t h = ap (λ d. chosen_truth strict (option_map_or (λ s. Some (s.value, w'))
          (acting.whole strict (record t { value = d })) None) w') h

  pub flag-yes : (flag y n from : ℕ) (w w' : State) → BlockAt body from []
      (Term.If (Operand.Copied (local_place flag)) y n) → Here w → L w w' → w.ticks ≤ most → IsFlag flag →
      flags depth flag ≡ Truth true → Walk from w' ≡ Walk y w'
  flag-yes flag y n from w w' code here like l f e =
      at_block from [] (Term.If (Operand.Copied (local_place flag)) y n) w' code (few' w w' like l)
      ∙ ap (λ c. branch (renamed_choice unplaced c) (Walk y) (Walk n))
      (flag_chosen flag true (node from 0) w w' here like f e)

  pub flag-no : (flag y n from : ℕ) (w w' : State) → BlockAt body from []
      (Term.If (Operand.Copied (local_place flag)) y n) → Here w → L w w' → w.ticks ≤ most → IsFlag flag →
      flags depth flag ≡ Truth false → Walk from w' ≡ Walk n w'
  flag-no flag y n from w w' code here like l f e =
      at_block from [] (Term.If (Operand.Copied (local_place flag)) y n) w' code (few' w w' like l)
      ∙ ap (λ c. branch (renamed_choice unplaced c) (Walk y) (Walk n))
      (flag_chosen flag false (node from 0) w w' here like f e)

  -- ---- what is gone already
  shut-walk : (guard : Option ℕ) (place : Place) (from to : ℕ) (ending : Ending) (w w' : State) →
      FreedBy body guard place from to ending → Shut items IsFlag (flags depth) guard → Here w →
      L w w' → w.ticks ≤ most → Walk from w' ≡ Walk to w'
  shut-walk None place from to ending w w' code i here like l = absurd i
  shut-walk (Some flag) place from to ending w w' code i here like l =
      flag-no flag code.0 to from w w' code.1 here like l i.0 i.1

  mutual
    -- the ladder of a plan whose flags are false does nothing
    pub idle-walk : (plan : Plan) (place : Place) (from to : ℕ) (ending : Ending) (w w' : State) →
        LadderAt body plan place from to ending → Idle items IsFlag (flags depth) plan → Here w →
        L w w' → w.ticks ≤ most → Walk from w' ≡ Walk to w'
    idle-walk Nothing place from to ending w w' code i here like l = ap (λ n. Walk n w') code
    idle-walk Entire place from to ending w w' code i here like l = absurd i
    idle-walk (ByFlag flag plan) place from to ending w w' code i here like l =
        flag-no flag code.0 to from w w' code.1 here like l i.0 i.1
    idle-walk (InParts plans) place from to ending w w' code i here like l =
        idle-walks plans Step.Part 0 place from to ending w w' code i here like l
    idle-walk (OfBox guard plan) place from to ending w w' code i here like l =
        by ending code (λ mid e c. idle-walk plan (place_below place Step.Inside) from mid e w w' c i.1 here like l)
      where
        by : (ending : Ending) → LadderAt body (OfBox guard plan) place from to ending →
            ((mid : ℕ) (e : Ending) → LadderAt body plan (place_below place Step.Inside) from mid e →
            Walk from w' ≡ Walk mid w') → Walk from w' ≡ Walk to w'
        by (Calmly cleanup) code h = h code.0 (Calmly code.2.0) code.2.2 ∙ shut-walk guard place code.0 to
            (Calmly cleanup) w w' code.1 i.0 here like l
        by Abruptly code h = h code.0 Abruptly code.2 ∙ shut-walk guard place code.0 to Abruptly
            w w' code.1 i.0 here like l
    idle-walk (ByVariant cases) place from to ending w w' code i here like l = absurd i

    idle-walks : (plans : Plans) (step : ℕ → Step) (k : ℕ) (place : Place) (from to : ℕ) (ending : Ending)
        (w w' : State) → PartsAt body plans step k place from to ending → AllIdle items IsFlag (flags depth) plans →
        Here w → L w w' → w.ticks ≤ most → Walk from w' ≡ Walk to w'
    idle-walks no_plan step k place from to ending w w' code i here like l = ap (λ n. Walk n w') code
    idle-walks (a_plan plan plans) step k place from to ending w w' code i here like l =
        by ending code (λ mid e c. idle-walk plan (place_below place (step k)) from mid e w w' c i.0 here like l)
        (λ mid e c. idle-walks plans step (suc k) place mid to e w w' c i.1 here like l)
      where
        by : (ending : Ending) → PartsAt body (a_plan plan plans) step k place from to ending →
            ((mid : ℕ) (e : Ending) → LadderAt body plan (place_below place (step k)) from mid e →
            Walk from w' ≡ Walk mid w') →
            ((mid : ℕ) (e : Ending) → PartsAt body plans step (suc k) place mid to e → Walk mid w' ≡ Walk to w') →
            Walk from w' ≡ Walk to w'
        by (Calmly cleanup) code h more = h code.0 (Calmly code.2.0) code.2.2 ∙ more code.0 (Calmly cleanup) code.1
        by Abruptly code h more = h code.0 Abruptly code.2 ∙ more code.0 Abruptly code.1
