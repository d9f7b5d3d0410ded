-- Free runs that check what they do: effects that complain (by a missing step) where a test of what is known fails,
-- and else do as those of a free run, while they keep facts of their own. Whatever the tests are, such a run is the
-- free run, or it complains; so in an accepted body it comes to no refused use.
use Rattle.std.proofs.Common.{◌≡◌, ℕ, suc, ◌+◌, ◌≤◌, Bool, true, false, List, [], length, Option, Some, None, slice_get, refl, ap, sym, ◌∙◌, subst, arith}
use Rattle.std.specs.List.{range_with_len}
use Rattle.mir_ty.specs.ItemTable.{ItemTable}
use Rattle.store_model.proofs.Effects.Following.{Relation, FollowsOut, goes_on, unwinds, halts, lapsed, outlived, refused, FollowsChoice, takes, declines, neither, lapsed_choice, FollowsEffects, one_bound, more_turns}
use Rattle.store_model.specs.Effects.{EffectSite, Action, Test, Mode, Halt, OutOfTicks, Stuck, BadUse, BadStore, NoChoice, Infeasible, Unreachable, Out, Go, Unwind, Halts, Choice, Yes, No, Neither, Effects}
use Rattle.store_model.specs.Abstract.Effects.{AbstractState, at_start, abstract_effects}
use Rattle.src_meaning.proofs.ProgramsFollow.{activation_follow}
use Rattle.src_meaning.proofs.RunLaws.{located, free_run_same}
use Rattle.src_meaning.specs.Locals.Effects.{at_locals}
use Rattle.src_meaning.specs.Locals.OfBody.{local_of, local_ty}
use Rattle.src_meaning.specs.Programs.{activation, free_run, refused_of, IsAccepted}
use Rattle.typed_tree.specs.Tree.{BodyTree, ProgramTree}

-- a free run with facts; and whether it has halted by its list
pub record Checking (F : Type 0) : Type 0 where
  pub free : AbstractState
  pub facts : F
  pub lost : Bool

-- what is tested before each effect, and the facts after it
pub record Checks (F : Type 0) : Type 0 where
  pub act_ok : Action → AbstractState → F → Bool
  pub act_facts : Action → AbstractState → F → F
  pub unwound_facts : Action → AbstractState → F → F
  pub test_ok : Test → AbstractState → F → Bool
  pub taken_facts : Test → AbstractState → F → F
  pub declined_facts : Test → AbstractState → F → F
  pub drop_ok : Mode → EffectSite → AbstractState → F → Bool
  pub drop_facts : Mode → EffectSite → AbstractState → F → F
  pub give_ok : EffectSite → AbstractState → F → Bool

abbrev pub by_list : Halt → Bool
by_list NoChoice = true
by_list Infeasible = true
by_list Unreachable = true
by_list halt = false

-- where it complains
abbrev pub Complains : Halt → Type 0
Complains Stuck = Unit {0}
Complains halt = ⊥

module _ {F : Type 0} where
  abbrev pub with_facts : (went unwound : F) → Out AbstractState → Out (Checking F)
  with_facts went unwound (Go w) = Go (record { free = w; facts = went; lost = false })
  with_facts went unwound (Unwind w) = Unwind (record { free = w; facts = unwound; lost = false })
  with_facts went unwound (Halts halt w) = Halts halt (record { free = w; facts = unwound; lost = by_list halt })

  abbrev pub chosen_with : F → F → Choice AbstractState → Choice (Checking F)
  chosen_with taken declined (Yes w) = Yes (record { free = w; facts = taken; lost = false })
  chosen_with taken declined (No w) = No (record { free = w; facts = declined; lost = false })
  chosen_with taken declined (Neither halt w) =
      Neither halt (record { free = w; facts = declined; lost = by_list halt })

  abbrev pub if_ok : Bool → Checking F → Out (Checking F) → Out (Checking F)
  if_ok true v o = o
  if_ok false v o = Halts Stuck v

  abbrev pub chosen_if_ok : Bool → Checking F → Choice (Checking F) → Choice (Checking F)
  chosen_if_ok true v o = o
  chosen_if_ok false v o = Neither Stuck v

  abbrev pub checked_effects : Checks F → Effects AbstractState → Effects (Checking F)
  checked_effects checks p = record {
    act = λ action v. if_ok (checks.act_ok action v.free v.facts) v
        (with_facts (checks.act_facts action v.free v.facts) (checks.unwound_facts action v.free v.facts)
        (p.act action v.free));
    choose = λ test v. chosen_if_ok (checks.test_ok test v.free v.facts) v
        (chosen_with (checks.taken_facts test v.free v.facts) (checks.declined_facts test v.free v.facts)
        (p.choose test v.free));
    drop = λ mode site v. if_ok (checks.drop_ok mode site v.free v.facts) v
        (with_facts (checks.drop_facts mode site v.free v.facts) (checks.drop_facts mode site v.free v.facts)
        (p.drop mode site v.free));
    panic = λ why v. record v { free = p.panic why v.free };
    tick = λ v. with_facts v.facts v.facts (p.tick v.free);
    give = λ site v. if_ok (checks.give_ok site v.free v.facts) v (with_facts v.facts v.facts (p.give site v.free));
  }

  -- the free run without the facts
  abbrev pub without_facts : Relation (Checking F) AbstractState
  without_facts = record {
    Known = AbstractState;
    Choices = Unit {0};
    feed = λ t c. c;
    none = tt;
    joined = λ a b. tt;
    from_none = λ t. refl;
    associates = λ a b c. refl;
    Stage = Unit {0};
    related = λ n v c. v.free ≡ c;
    halted = λ n v c. v.free ≡ c;
    at_halt = λ n v c e. e;
    lapses = λ n halt v. Complains halt;
    outlives = λ n halt v later. ⊥;
    refuses = λ halt. ⊥;
  }

  out_same : (n : Unit {0}) (went unwound : F) (o : Out AbstractState) →
      FollowsOut without_facts n (with_facts went unwound o) (λ t. o)
  out_same n went unwound (Go w) = goes_on n _ w tt _ refl (λ rest. refl)
  out_same n went unwound (Unwind w) = unwinds n _ w tt _ refl (λ rest. refl)
  out_same n went unwound (Halts halt w) = halts n halt _ w tt _ refl (λ rest. refl)

  choice_same : (n : Unit {0}) (taken facts : F) (o : Choice AbstractState) → FollowsChoice without_facts n
      (chosen_with taken facts o) (λ t. o)
  choice_same n taken facts (Yes w) = takes n _ w tt _ refl (λ rest. refl)
  choice_same n taken facts (No w) = declines n _ w tt _ refl (λ rest. refl)
  choice_same n taken facts (Neither halt w) = neither n halt _ w tt _ refl (λ rest. refl)

  out_if : (b : Bool) (n : Unit {0}) (v : Checking F) (went unwound : F) (o : Out AbstractState) →
      FollowsOut without_facts n (if_ok b v (with_facts went unwound o)) (λ t. o)
  out_if true n v went unwound o = out_same n went unwound o
  out_if false n v went unwound o = lapsed n Stuck v _ tt

  choice_if : (b : Bool) (n : Unit {0}) (v : Checking F) (taken facts : F) (o : Choice AbstractState) →
      FollowsChoice without_facts n (chosen_if_ok b v (chosen_with taken facts o)) (λ t. o)
  choice_if true n v taken facts o = choice_same n taken facts o
  choice_if false n v taken facts o = lapsed_choice n Stuck v _ tt

  -- it does as the free run, or it complains
  pub checked_follow : (checks : Checks F) (p : Effects AbstractState) → FollowsEffects without_facts
      (checked_effects checks p) p
  checked_follow checks p = record {
    acting = λ action n v c e.
        subst (λ c. FollowsOut without_facts n
        (if_ok (checks.act_ok action v.free v.facts) v
        (with_facts (checks.act_facts action v.free v.facts) (checks.unwound_facts action v.free v.facts)
        (p.act action v.free))) (λ t. p.act action c)) e
        (out_if (checks.act_ok action v.free v.facts) n v (checks.act_facts action v.free v.facts)
        (checks.unwound_facts action v.free v.facts) (p.act action v.free));
    choosing = λ test n v c e.
        subst (λ c. FollowsChoice without_facts n
        (chosen_if_ok (checks.test_ok test v.free v.facts) v
        (chosen_with (checks.taken_facts test v.free v.facts) (checks.declined_facts test v.free v.facts)
        (p.choose test v.free)))
        (λ t. p.choose test c)) e
        (choice_if (checks.test_ok test v.free v.facts) n v (checks.taken_facts test v.free v.facts)
        (checks.declined_facts test v.free v.facts)
        (p.choose test v.free));
    dropping = λ mode site n v c e.
        subst (λ c. FollowsOut without_facts n
        (if_ok (checks.drop_ok mode site v.free v.facts) v
        (with_facts (checks.drop_facts mode site v.free v.facts) (checks.drop_facts mode site v.free v.facts)
        (p.drop mode site v.free))) (λ t. p.drop mode site c))
        e
        (out_if (checks.drop_ok mode site v.free v.facts) n v (checks.drop_facts mode site v.free v.facts)
        (checks.drop_facts mode site v.free v.facts) (p.drop mode site v.free));
    panicking = λ why n v c e. unwinds n _ (p.panic why c) tt _ (ap (p.panic why) e) (λ rest. refl);
    ticking = λ n v c e. subst (λ c. FollowsOut without_facts n (with_facts v.facts v.facts (p.tick v.free))
        (λ t. p.tick c)) e
        (out_same n v.facts v.facts (p.tick v.free));
    giving = λ site n v c e.
        subst (λ c. FollowsOut without_facts n
        (if_ok (checks.give_ok site v.free v.facts) v (with_facts v.facts v.facts (p.give site v.free)))
        (λ t. p.give site c)) e
        (out_if (checks.give_ok site v.free v.facts) n v v.facts v.facts (p.give site v.free));
  }

  same_halt : (o : Out (Checking F)) (g : Unit {0} → Out AbstractState) (n : Unit {0}) (halt : Halt)
      (v : Checking F) →
      (Complains halt → ⊥) → o ≡ Halts halt v → FollowsOut without_facts n o g → g tt ≡ Halts halt v.free
  same_halt o g n halt v h e (goes_on m w c l _ k d) = absurd (let never : ⊥ = cc in never)
  same_halt o g n halt v h e (unwinds m w c l _ k d) = absurd (let never : ⊥ = cc in never)
  same_halt o g n halt v h e (halts m other w c l _ k d) = d tt ∙ ap (Halts other) (sym k) ∙ ap forget_facts e
    where
      forget_facts : Out (Checking F) → Out AbstractState
      forget_facts (Go w) = Go w.free
      forget_facts (Unwind w) = Unwind w.free
      forget_facts (Halts halt w) = Halts halt w.free
  same_halt o g n halt v h e (lapsed m other w _ k) =
      absurd (h (subst Complains (let same : other ≡ halt = cc in same) k))
  same_halt o g n halt v h e (outlived m other w later s _ k d) = absurd k
  same_halt o g n halt v h e (refused m _ other c l _ k d) = absurd k

-- ---- the same run with more turns

abbrev same_state : (V : Type 0) → Relation V V
same_state V = record {
  Known = V;
  Choices = Unit {0};
  feed = λ t c. c;
  none = tt;
  joined = λ a b. tt;
  from_none = λ t. refl;
  associates = λ a b c. refl;
  Stage = Unit {0};
  related = λ n v c. v ≡ c;
  halted = λ n v c. v ≡ c;
  at_halt = λ n v c e. e;
  lapses = λ n halt v. halt ≡ OutOfTicks;
  outlives = λ n halt v later. ⊥;
  refuses = λ halt. ⊥;
}

module _ {V : Type 0} where
  out_itself : (n : Unit {0}) (o : Out V) → FollowsOut (same_state V) n o (λ t. o)
  out_itself n (Go v) = goes_on n v v tt _ refl (λ rest. refl)
  out_itself n (Unwind v) = unwinds n v v tt _ refl (λ rest. refl)
  out_itself n (Halts halt v) = halts n halt v v tt _ refl (λ rest. refl)

  choice_itself : (n : Unit {0}) (o : Choice V) → FollowsChoice (same_state V) n o (λ t. o)
  choice_itself n (Yes v) = takes n v v tt _ refl (λ rest. refl)
  choice_itself n (No v) = declines n v v tt _ refl (λ rest. refl)
  choice_itself n (Neither halt v) = neither n halt v v tt _ refl (λ rest. refl)

  itself_follows : (q : Effects V) → FollowsEffects (same_state V) q q
  itself_follows q = record {
    acting = λ action n v c e. subst (λ c. FollowsOut (same_state V) n (q.act action v) (λ t. q.act action c)) e
        (out_itself n (q.act action v));
    choosing = λ test n v c e. subst (λ c. FollowsChoice (same_state V) n (q.choose test v) (λ t. q.choose test c)) e
        (choice_itself n (q.choose test v));
    dropping = λ mode site n v c e. subst (λ c. FollowsOut (same_state V) n (q.drop mode site v)
        (λ t. q.drop mode site c)) e (out_itself n (q.drop mode site v));
    panicking = λ why n v c e. subst (λ c. FollowsOut (same_state V) n (Unwind (q.panic why v))
        (λ t. Unwind (q.panic why c))) e (out_itself n (Unwind (q.panic why v)));
    ticking = λ n v c e. subst (λ c. FollowsOut (same_state V) n (q.tick v) (λ t. q.tick c)) e
        (out_itself n (q.tick v));
    giving = λ site n v c e. subst (λ c. FollowsOut (same_state V) n (q.give site v) (λ t. q.give site c)) e
        (out_itself n (q.give site v));
  }

  halted_same : (o : Out V) (g : Unit {0} → Out V) (n : Unit {0}) (halt : Halt) (v : V) → (halt ≡ OutOfTicks → ⊥) →
      o ≡ Halts halt v → FollowsOut (same_state V) n o g → g tt ≡ Halts halt v
  halted_same o g n halt v h e (goes_on m w c l _ k d) = absurd (let never : ⊥ = cc in never)
  halted_same o g n halt v h e (unwinds m w c l _ k d) = absurd (let never : ⊥ = cc in never)
  halted_same o g n halt v h e (halts m other w c l _ k d) = d tt ∙ ap (Halts other) (sym k) ∙ e
  halted_same o g n halt v h e (lapsed m other w _ k) = absurd (h (let same : other ≡ halt = cc in sym same ∙ k))
  halted_same o g n halt v h e (outlived m other w later s _ k d) = absurd k
  halted_same o g n halt v h e (refused m _ other c l _ k d) = absurd k

  -- a run that halts, but for want of fuel, halts so with more
  pub halts_with_more : (items : ItemTable) (q : Effects V) (body : BodyTree) (fuel more : ℕ) (v w : V)
      (halt : Halt) →
      fuel ≤ more → (halt ≡ OutOfTicks → ⊥) →
      activation items q fuel body v ≡ Halts halt w → activation items q more body v ≡ Halts halt w
  halts_with_more items q body fuel more v w halt b h e =
      halted_same (activation items q fuel body v) (λ t. activation items q more body v) tt halt w h e
      (activation_follow (same_state V) items q q (itself_follows q) fuel more
      (more_turns fuel more b (λ s u c k. refl)) body tt v v refl)

-- ---- in an accepted body

module _ (program : ProgramTree) (accepted : IsAccepted program) (n : ℕ) (body : BodyTree)
    (there : slice_get program.bodies n ≡ Some body) where
  abbrev free_effects : Effects AbstractState
  free_effects = abstract_effects program.items (local_ty program.items body)

  abbrev begins : List Bool → AbstractState
  begins list = at_start (range_with_len 1 (length body.params)) list

  -- with any fuel a free run that halts, but for want of fuel, is the free run of its list
  freely : (fuel : ℕ) (list : List Bool) (halt : Halt) (w : AbstractState) → (halt ≡ OutOfTicks → ⊥) →
      activation program.items (at_locals (local_of program.items body) free_effects) fuel body (begins list)
      ≡ Halts halt w → free_run program.items body list ≡ Halts halt w
  freely fuel list halt w h e =
      free_run_same program.items body (local_ty program.items body) (suc (length list)) (fuel + suc (length list))
      (begins list) (omega arith) (omega arith)
      ∙ halts_with_more program.items (at_locals (local_of program.items body) free_effects) body fuel
      (fuel + suc (length list)) (begins list) w halt (omega arith) h e

  none_refused : (site : EffectSite) → Some site ≡ None → ⊥
  none_refused site e = subst Filled e tt
    where
      Filled : Option EffectSite → Type 0
      Filled None = ⊥
      Filled (Some site) = Unit {0}

  use_refused : (list : List Bool) (site : EffectSite) (w : AbstractState) → w.choices ≡ [] →
      free_run program.items body list ≡ Halts (BadUse site) w → ⊥
  use_refused list site w taken e =
      none_refused site (sym
      (ap refused_of e ∙ ap (λ l. refused_of (Halts (BadUse site) (record { cells = w.cells; choices = l }))) taken)
      ∙ accepted n body list there)

  store_refused : (list : List Bool) (site : EffectSite) (w : AbstractState) → w.choices ≡ [] →
      free_run program.items body list ≡ Halts (BadStore site) w → ⊥
  store_refused list site w taken e =
      none_refused site (sym
      (ap refused_of e ∙ ap (λ l. refused_of (Halts (BadStore site) (record { cells = w.cells; choices = l })))
      taken)
      ∙ accepted n body list there)

  module _ {F : Type 0} (checks : Checks F) (facts : F) (fuel : ℕ) (list : List Bool) where
    abbrev pub checked_run : Out (Checking F)
    checked_run = activation program.items
        (at_locals (local_of program.items body) (checked_effects checks free_effects)) fuel body
        (record { free = begins list; facts = facts; lost = false })

    follows_free : FollowsOut (without_facts {F = F}) tt checked_run
        (λ t. activation program.items (at_locals (local_of program.items body) free_effects) fuel body
        (begins list))
    follows_free =
        activation_follow (without_facts {F = F}) program.items
        (at_locals (local_of program.items body) (checked_effects checks free_effects))
        (at_locals (local_of program.items body) free_effects)
        (located (without_facts {F = F}) (local_of program.items body) (checked_effects checks free_effects)
        free_effects (checked_follow checks free_effects)) fuel fuel (one_bound fuel) body tt _ (begins list) refl

    -- a run that checks comes to no refused use where its list is taken to the end
    pub no_use_refused : (site : EffectSite) (v : Checking F) → checked_run ≡ Halts (BadUse site) v →
        v.free.choices ≡ [] → ⊥
    no_use_refused site v e taken =
        use_refused list site v.free taken
        (freely fuel list (BadUse site) v.free (λ x. absurd (let never : ⊥ = cc in never))
        (same_halt checked_run _ tt (BadUse site) v (λ x. x) e follows_free))

    pub no_store_refused : (site : EffectSite) (v : Checking F) → checked_run ≡ Halts (BadStore site) v →
        v.free.choices ≡ [] → ⊥
    no_store_refused site v e taken =
        store_refused list site v.free taken
        (freely fuel list (BadStore site) v.free (λ x. absurd (let never : ⊥ = cc in never))
        (same_halt checked_run _ tt (BadStore site) v (λ x. x) e follows_free))
