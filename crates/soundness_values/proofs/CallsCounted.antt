-- Calls keep the account of numbers, by the contract of bodies and the tests of protected parameters: so what is asked of
-- calls holds.
use Rattle.std.proofs.Common.{◌≡◌, ℕ, ◌&&◌, not, Bool, true, false, List, [], ◌∷◌, ◌++◌, Option, Some, None, refl, ap, sym, ◌∙◌, subst}
use Rattle.std.specs.Prelude.{slice_get}
use Rattle.std.specs.List.{list_all}
use Rattle.std.specs.Option.{option_map_or}
use Rattle.std.proofs.Math.Path.{fun_ext}
use Rattle.std.proofs.lemmas.Bool.{false≢true}
use Rattle.mir_base.specs.declared.trace.Event.{Event}
use Rattle.mir_ty.specs.declared.def.Sig.{Sig}
use Rattle.mir_ty.specs.declared.ty.TyId.{TyId}
use Rattle.mir_ty.specs.ItemTable.{ItemTable}
use Rattle.store_model.specs.declared.address.Addr.{Addr}
use Rattle.store_model.specs.Values.Datum.{Datum}
use Rattle.store_model.specs.Effects as effects
use Rattle.store_model.specs.Effects.{EffectSite, Operand, Action, Halt, Stuck, BadUse, Unreachable, Out, Go, Halts, halting_if}
use Rattle.store_model.specs.Abstract.Effects as free
use Rattle.store_model.specs.Abstract.Effects.{operands_used, returns_by_choice}
use Rattle.store_model.specs.Abstract.Presence.{Presence}
use Rattle.store_model.specs.Places.Place.{Place}
use Rattle.store_model.specs.Concrete.Drops.{drop_impl}
use Rattle.store_model.specs.Concrete.Effects as values
use Rattle.store_model.specs.Concrete.Effects.{act, answered, virtual_body}
use Rattle.store_model.specs.Concrete.Location.{Setting, DynamicType, concrete_ty}
use Rattle.store_model.specs.Concrete.State.{State, Bodies, Answer, HaltsIn}
use Rattle.src_meaning.specs.Programs.{setting_of}
use Rattle.typed_tree.specs.Tree.{BodyTree, ProgramTree}
use Rattle.typing_rules.specs.Replaced.{OfTrait, bodies_of}
use Rattle.well_typed.specs.Program.{WellTyped}
use Rattle.soundness_values.proofs.Bodies.{Keep}
use Rattle.soundness_values.proofs.BodyHeads.{size, sized}
use Rattle.soundness_values.proofs.Checked.{with_facts}
use Rattle.soundness_values.proofs.CheckedBodies.{is_reference_param}
use Rattle.soundness_values.proofs.Checks.{unless_refilled, refills, acts_well, may_act, after_action, after_unwound, calls_well, head_of}
use Rattle.soundness_values.proofs.Contracts.{targets_of, uniques_of, MayRun, LeftSo}
use Rattle.soundness_values.proofs.CountedCalls.{Answered, gives, winds, stops, CountsSo, CallDone, call_done, is_bad_use, all_refused}
use Rattle.soundness_values.proofs.CountedContract as counts
use Rattle.soundness_values.proofs.CountedContract.{dropping_by, Before, Ended, heads_deep}
use Rattle.soundness_values.proofs.CountedFollow as follow
use Rattle.soundness_values.proofs.CountedFollow.{CallsCount, go_of, counted_of, before_of, kept, related_of}
use Rattle.soundness_values.proofs.CountedMarks.{TargetOk, each_get}
use Rattle.soundness_values.proofs.CountedOwing.{CountsAnswer, CountsState, CountsEnd, ClearAtReturn, ClearAtPanic}
use Rattle.soundness_values.proofs.CountedStores.{Spaced}
use Rattle.soundness_values.proofs.CountedVirtual.{callee}
use Rattle.soundness_values.proofs.Doing.{refused}
use Rattle.soundness_values.proofs.Dropped.{feeding}
use Rattle.soundness_values.proofs.DropsCount.{is_content}
use Rattle.soundness_values.proofs.Facts.{Facts, Each, each_more}
use Rattle.soundness_values.proofs.Forgotten.{InFlight}
use Rattle.soundness_values.proofs.Guards.{HeadsStand}
use Rattle.soundness_values.proofs.Known.{Target}
use Rattle.soundness_values.proofs.MethodHeads.{methods_of}
use Rattle.soundness_values.proofs.NumbersHeld.{serials_of_args}
use Rattle.soundness_values.proofs.OnceBy.{AllCallsCount}
use Rattle.soundness_values.proofs.Owing.{calls_keep}
use Rattle.soundness_values.proofs.ProtectTests.{marked, protect_tests}
use Rattle.soundness_values.proofs.Relating.{Kept}
use Rattle.soundness_values.proofs.Simulation.{act_follows}
use Rattle.soundness_values.proofs.Taking.{first}

still_halts : {W : Type 0} (b : Bool) (halt other : Halt) (w : W) → halting_if b halt (Halts other w) ≡ Halts other w
still_halts true halt other w = refl
still_halts false halt other w = refl

some_of : {A : Type 0} (o : Option A) (t : A → Bool) → option_map_or t o false ≡ true →
    (a : A) × ((o ≡ Some a) × (t a ≡ true))
some_of None t h = absurd (false≢true h)
some_of (Some a) t h = (a, (refl, h))

module _ (p : ProgramTree) (protects : ℕ → ℕ → Bool) (typed : WellTyped p)
    (drop_protected : (f : DynamicType) (of : ℕ × ℕ) → drop_impl p.items (concrete_ty p.items f) ≡ Some of →
    protects of.1 1 ≡ true) where
  abbrev items : ItemTable
  items = p.items

  abbrev setting : Setting
  setting = setting_of p

  -- what the tests say of a drop
  abbrev pub falls : (n : ℕ) (place : Place) → (protect_tests p.items protects n).drop place ≡ true →
      not (is_content place.steps && protects n place.local) ≡ true
  falls n place h = h

  module _ (run : Bodies)
      (keep : Keep (calls_keep p (CountsAnswer p protects (protect_tests p.items protects))
      (CountsState p protects (protect_tests p.items protects)) (CountsEnd p protects (protect_tests p.items protects))
      (protect_tests p.items protects) (ClearAtReturn p protects (protect_tests p.items protects))
      (ClearAtPanic p protects (protect_tests p.items protects))) run)
      (fuel : ℕ) (event : Event) (n : ℕ) (args : List Datum) (w : State) (sig : Sig)
      (e : slice_get p.items.bodies n ≡ Some sig) (b : BodyTree) (eb : slice_get p.bodies n ≡ Some b)
      (may : MayRun (setting_of p) sig.params args w) where
    abbrev local_ty : ℕ → Option TyId
    local_ty key = setting.local_ty n key

    abbrev targets : List Target
    targets = targets_of items 1 sig.params args

    abbrev uniques : List Addr
    uniques = uniques_of (targets_of items 1 sig.params args)

    abbrev is_target : ℕ → Bool
    is_target = is_reference_param items b

    abbrev said : State → Kept → Type 0
    said = follow.said p protects (protect_tests p.items protects) typed falls drop_protected run keep fuel event n args w
        sig e b eb may

    abbrev halted : State → Type 0
    halted = follow.halted p protects (protect_tests p.items protects) typed falls drop_protected run keep fuel event n args
        w sig e b eb may

    abbrev R : State → List (ℕ × Presence) → Facts → Type 0
    R = follow.R p protects (protect_tests p.items protects) typed falls drop_protected run keep fuel event n args w sig e b
        eb may

    abbrev B : List ℕ → List (Addr × ℕ) → Type 0
    B D G = Before setting (size p) (sized p) protects D G event n args targets w

    abbrev FollowsAct : Action → State → Kept → Type 0
    FollowsAct = follow.FollowsAct p protects (protect_tests p.items protects) typed falls drop_protected run keep fuel event
        n args w sig e b eb may

    module _ (D : List ℕ) (G : List (Addr × ℕ)) (before : B D G) where
      abbrev AnsweredSo : Answer → Type 0
      AnsweredSo = Answered setting n targets uniques w is_target
          (follow.passed p protects (protect_tests p.items protects) typed falls drop_protected run keep fuel event n args w
          sig e b eb may) (size p) (sized p) refl (dropping_by event D) G
          (heads_deep setting (size p) (sized p) protects G w before.heads) before.spaced protects before.exact

      abbrev Ok : List ℕ → Target → Type 0
      Ok = TargetOk setting n targets uniques w is_target
          (follow.passed p protects (protect_tests p.items protects) typed falls drop_protected run keep fuel event n args w
          sig e b eb may) (size p) (sized p) refl (dropping_by event D) G
          (heads_deep setting (size p) (sized p) protects G w before.heads) before.spaced protects before.exact

      -- what is asked of what a parameter of one body names
      abbrev OkFor : ℕ → Target → Type 0
      OkFor body t = t.unique ≡ true → Each (λ (g : Addr × ℕ). Spaced g.0 t.address
          × (t.address ≡ g.0 → protects body t.local ≡ true)) G

      ok_for : (bodies : List ℕ) (body : ℕ) → ((local : ℕ) → list_all (λ c. protects c local) bodies ≡ true →
          protects body local ≡ true) → (ts : List Target) → Each (Ok bodies) ts → Each (OkFor body) ts
      ok_for bodies body f ts h = each_more (Ok bodies) (OkFor body) ts (λ t k u. each_more
          (λ (g : Addr × ℕ). Spaced g.0 t.address
          × (t.address ≡ g.0 → list_all (λ c. protects c t.local) bodies ≡ true))
          (λ (g : Addr × ℕ). Spaced g.0 t.address × (t.address ≡ g.0 → protects body t.local ≡ true)) G
          (λ g x. (x.0, (λ y. f t.local (x.1 y)))) (k u)) h

      answered_of : (body : ℕ) (o : Answer) →
          Ended setting (size p) (sized p) protects (dropping_by event D) G (Event.Call body) o → AnsweredSo o
      answered_of body _ (counts.returned value v flow heads) = gives value v flow heads
      answered_of body _ (counts.unwound v flow heads) = winds v flow heads
      answered_of body _ (counts.halted halt v once) = stops halt v once

      -- a body that is called answers so
      body_counts : (body : ℕ) (s : Sig) → slice_get items.bodies body ≡ Some s → (ds : List Datum) (v : State) →
          MayRun setting s.params ds v → InFlight (size p) (serials_of_args ds) (dropping_by event D) v →
          HeadsStand setting G v → Each (OkFor body) (targets_of items 1 s.params ds) →
          AnsweredSo (run (Event.Call body) body ds v)
      body_counts body s is ds v can flow heads ok =
          answered_of body (run (Event.Call body) body ds v)
          ((keep (Event.Call body) body ds v (s, is, can) s is).1 s is (dropping_by event D) G (record {
            counted = flow;
            makes_none = refl;
            was_made = λ k x. absurd (let never : ⊥ = cc in never);
            at_most = before.at_most;
            covered = before.covered;
            heads = heads;
            spaced = λ m t at u. each_more (λ (g : Addr × ℕ). Spaced g.0 t.address
                × (t.address ≡ g.0 → protects body t.local ≡ true)) (λ (g : Addr × ℕ). Spaced g.0 t.address) G
                (λ g x. x.0) (each_get (OkFor body) (targets_of items 1 s.params ds) m t ok at u);
            exact = λ m t at u. each_more (λ (g : Addr × ℕ). Spaced g.0 t.address
                × (t.address ≡ g.0 → protects body t.local ≡ true))
                (λ (g : Addr × ℕ). t.address ≡ g.0 → protects body t.local ≡ true) G
                (λ g x. x.1) (each_get (OkFor body) (targets_of items 1 s.params ds) m t ok at u);
          }))

    -- ---- a call of either kind

    module _ (action : Action) (v : State) (k : Kept) (s : said v k) (r : R v k.0 k.1)
        (h : may_act items local_ty is_target k.1 k.0 action ≡ true) (to : EffectSite) (params : List TyId)
        (result : TyId) (operands : List Operand)
        (test : calls_well items local_ty is_target k.1 k.0 to params result operands ≡ true)
        (answer : List Datum → State → Answer) (bodies : List ℕ) where
      abbrev Counts : (D : List ℕ) (G : List (Addr × ℕ)) → B D G → Type 0
      Counts D G before = CountsSo setting n targets uniques w is_target
          (follow.passed p protects (protect_tests p.items protects) typed falls drop_protected run keep fuel event n args w
          sig e b eb may) (size p) (sized p) refl (dropping_by event D) G
          (heads_deep setting (size p) (sized p) protects G w before.heads) before.spaced protects before.exact run v k.0 k.1
          r to params result operands test answer bodies

      abbrev Called : Out State
      Called = halting_if (values.never_at setting v to) Stuck (values.with_operands setting operands v
          (λ ds x. answered setting to (answer ds x)))

      call_follows : marked items protects n bodies 1 k.1 operands ≡ true →
          ((ds : List Datum) (x : State) → MayRun setting params ds x →
          LeftSo setting (targets_of items 1 params ds) result x (answer ds x)) →
          ((D : List ℕ) (G : List (Addr × ℕ)) (before : B D G) → Counts D G before) →
          act setting run action v ≡ Called →
          ((t : List Bool) → free.act items local_ty action (feeding t k.0)
          ≡ halting_if (free.never_at items local_ty to) Unreachable
          (operands_used items local_ty operands (returns_by_choice items local_ty to) (feeding t k.0))) →
          FollowsAct action v k
      call_follows marks answers counts_so act_is free_is =
          by (is_bad_use (operands_used items local_ty operands Go (feeding [] k.0))) refl
        where
          done : is_bad_use (operands_used items local_ty operands Go (feeding [] k.0)) ≡ false → (D : List ℕ)
              (G : List (Addr × ℕ)) (before : B D G) → CallDone setting n targets uniques w is_target
              (follow.passed p protects (protect_tests p.items protects) typed falls drop_protected run keep fuel event n
              args w sig e b eb may) (size p) (sized p) refl (dropping_by event D) G
              (heads_deep setting (size p) (sized p) protects G w before.heads) before.spaced protects before.exact run v
              k.0 k.1 r to params result operands test answer bodies
          done fine D G before = call_done setting n targets uniques w is_target
              (follow.passed p protects (protect_tests p.items protects) typed falls drop_protected run keep fuel event n
              args w sig e b eb may) (size p) (sized p) refl (dropping_by event D) G
              (heads_deep setting (size p) (sized p) protects G w before.heads) before.spaced protects before.exact run v
              k.0 k.1 r to params result operands test answer bodies answers (counts_so D G before)
              (counted_of p protects (protect_tests p.items protects) typed falls drop_protected run keep fuel event n args w
              sig e b eb may v k s D G before) marks fine

          by : (x : Bool) → is_bad_use (operands_used items local_ty operands Go (feeding [] k.0)) ≡ x →
              FollowsAct action v k
          by true bad =
              let x = all_refused items local_ty operands k.0 bad in
              refused tt _ (BadUse x.site) (x.cells_after, after_unwound items local_ty is_target action k.1) [] _ tt
              (λ rest. ap (with_facts (after_action items local_ty is_target action k.1)
              (after_unwound items local_ty is_target action k.1))
              (free_is rest ∙ ap (halting_if (free.never_at items local_ty to) Unreachable)
              (x.so rest (returns_by_choice items local_ty to))
              ∙ still_halts (free.never_at items local_ty to) Unreachable (BadUse x.site) (feeding rest x.cells_after)))
          by false fine =
              act_follows setting n targets uniques w is_target
              (follow.passed p protects (protect_tests p.items protects) typed falls drop_protected run keep fuel event n
              args w sig e b eb may) run said halted
              (follow.keeps p protects (protect_tests p.items protects) typed falls drop_protected run keep fuel event n args
              w sig e b eb may).plain
              (follow.keeps p protects (protect_tests p.items protects) typed falls drop_protected run keep fuel event n args
              w sig e b eb may).virtual action v k
              (related_of p protects (protect_tests p.items protects) typed falls drop_protected run keep fuel event n args w
              sig e b eb may v k s) h
              (λ l u c x d q. kept p protects (protect_tests p.items protects) typed falls drop_protected run keep fuel event
              n args w sig e b eb may u (c, after_action items local_ty is_target action k.1) q
              (λ D G before. (done fine D G before).went (l ++ [])
              (go_of _ _ (sym (free_is (l ++ [])) ∙ d [])) u (sym act_is ∙ x)))
              (λ l u c x d q. kept p protects (protect_tests p.items protects) typed falls drop_protected run keep fuel event
              n args w sig e b eb may u (c, after_unwound items local_ty is_target action k.1) q
              (λ D G before. (done fine D G before).wound u (sym act_is ∙ x)))
              (λ halt u x m. λ sig' z D G prior.
              (done fine D G (before_of p protects (protect_tests p.items protects) typed falls drop_protected run keep fuel
              event n args w sig e b eb may sig' z D G prior)).ended halt u (sym act_is ∙ x) m)

    -- ---- each of them

    may_so : (action : Action) (k : Kept) → k.1.refilled ≡ None →
        acts_well items local_ty is_target k.1 k.0 action ≡ true → may_act items local_ty is_target k.1 k.0 action ≡ true
    may_so action k none acts = ap (λ o. unless_refilled o (acts_well items local_ty is_target k.1 k.0 action)
        (λ hole. refills items local_ty is_target k.1 hole action)) none ∙ acts

    counted_call : (to : EffectSite) (body : ℕ) (operands : List Operand) (v : State) (k : Kept) → said v k →
        k.1.refilled ≡ None → R v k.0 k.1 →
        acts_well items local_ty is_target k.1 k.0 (effects.Call to body operands) ≡ true →
        marked items protects n (body ∷ []) 1 k.1 operands ≡ true → FollowsAct (effects.Call to body operands) v k
    counted_call to body operands v k s none r acts marks =
        let x = some_of (slice_get items.bodies body)
        (λ (c : Sig). calls_well items local_ty is_target k.1 k.0 to c.params c.result operands) acts in
        call_follows (effects.Call to body operands) v k s r (may_so (effects.Call to body operands) k none acts) to
        x.0.params x.0.result operands x.1.1 (λ ds y. run (Event.Call body) body ds y) (body ∷ []) marks
        ((follow.keeps p protects (protect_tests p.items protects) typed falls drop_protected run keep fuel event n args
        w sig e b eb may).plain body x.0 x.1.0)
        (λ D G before ds y can flow heads ok. body_counts D G before body x.0 x.1.0 ds y can flow heads
        (ok_for D G before (body ∷ []) body (λ local h. first (protects body local) _ h)
        (targets_of items 1 x.0.params ds) ok)) refl (λ t. refl)

    counted_virtual : (to : EffectSite) (trait_no method : ℕ) (operands : List Operand) (v : State) (k : Kept) → said v k →
        k.1.refilled ≡ None → R v k.0 k.1 →
        acts_well items local_ty is_target k.1 k.0 (effects.CallVirtual to trait_no method operands) ≡ true →
        marked items protects n (bodies_of items (OfTrait trait_no method)) 1 k.1 operands ≡ true →
        FollowsAct (effects.CallVirtual to trait_no method operands) v k
    counted_virtual to trait_no method operands v k s none r acts marks =
        let x = some_of (head_of items local_ty is_target trait_no method)
        (λ (head : List TyId × TyId). calls_well items local_ty is_target k.1 k.0 to head.0 head.1 operands) acts in
        call_follows (effects.CallVirtual to trait_no method operands) v k s r
        (may_so (effects.CallVirtual to trait_no method operands) k none acts) to x.0.0 x.0.1 operands x.1.1
        (λ ds y. option_map_or (λ m. run (Event.Call m) m ds y) (virtual_body setting trait_no method y ds)
        (HaltsIn Stuck y)) (bodies_of items (OfTrait trait_no method)) marks
        ((follow.keeps p protects (protect_tests p.items protects) typed falls drop_protected run keep fuel event n args
        w sig e b eb may).virtual trait_no method x.0 x.1.0)
        (λ D G before ds y can flow heads ok.
        let c = callee setting trait_no method x.0.0 x.0.1 (methods_of p typed trait_no method x.0 x.1.0) ds y can in
        subst (λ o. AnsweredSo D G before (option_map_or (λ m. run (Event.Call m) m ds y) o (HaltsIn Stuck y)))
        (sym c.body_is)
        (body_counts D G before c.body c.sig c.sig_is ds y c.may flow heads
        (ok_for D G before (bodies_of items (OfTrait trait_no method)) c.body
        (λ local h. c.among (λ m. protects m local) h) (targets_of items 1 c.sig.params ds)
        (c.same (λ unique local address. unique ≡ true → Each (λ (g : Addr × ℕ). Spaced g.0 address
        × (address ≡ g.0 → list_all (λ m. protects m local) (bodies_of items (OfTrait trait_no method)) ≡ true)) G) ok))))
        (ap (λ (next : List Datum → State → Out State). halting_if (values.never_at setting v to) Stuck
        (values.with_operands setting operands v next))
        (fun_ext (λ ds. fun_ext (λ y. answer_is (virtual_body setting trait_no method y ds) ds y)))) (λ t. refl)
      where
        answer_is : (o : Option ℕ) (ds : List Datum) (y : State) → values.called setting run to o ds y
            ≡ answered setting to (option_map_or (λ m. run (Event.Call m) m ds y) o (HaltsIn Stuck y))
        answer_is None ds y = refl
        answer_is (Some m) ds y = refl

    all_counted : CallsCount p protects (protect_tests p.items protects) typed falls drop_protected run keep fuel event n
        args w sig e b eb may
    all_counted (effects.Call to body operands) v k s none r plain acts tested =
        counted_call to body operands v k s none r acts tested
    all_counted (effects.CallVirtual to trait_no method operands) v k s none r plain acts tested =
        counted_virtual to trait_no method operands v k s none r acts tested
    all_counted (effects.Free site) v k s none r plain acts tested = absurd (false≢true acts)
    all_counted other v k s none r plain acts tested = absurd (false≢true (sym plain))

  -- what is asked of calls
  pub calls_counted : AllCallsCount p protects (protect_tests p.items protects) typed falls drop_protected
  calls_counted run keep fuel event n args w sig e b eb may = all_counted run keep fuel event n args w sig e b eb may
