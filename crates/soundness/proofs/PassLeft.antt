-- What is left of the statement of the pass: that no run fails the tests of places, of calls and of results. In each body
-- of a well typed program the locals are clear where it returns and where it panics, a result is whole, and no place
-- waits there; in an accepted one a run that halts does so as it may.
use Rattle.std.proofs.Common.{◌≡◌, ◌⊎◌, inl, inr, ℕ, zero, suc, ◌+◌, ◌≤◌, Bool, true, false, List, [], ◌∷◌, ◌++◌, length, Option, Some, None, refl, ap, sym, ◌∙◌, subst, arith}
use Rattle.std.specs.Prelude.{slice_get}
use Rattle.std.specs.Option.{option_map_or}
use Rattle.std.proofs.lemmas.List.{length-map}
use Rattle.std.proofs.lemmas.Option.{none-some, slice_get_past}
use Rattle.mir_ty.specs.declared.def.Sig.{Sig}
use Rattle.mir_ty.specs.declared.ty.TyId.{TyId}
use Rattle.mir_ty.specs.Facts.{needs_drop}
use Rattle.mir_ty.specs.ItemTable.{ItemTable}
use Rattle.store_model.specs.Abstract.Effects.{presence}
use Rattle.store_model.specs.Abstract.Presence.{itself_gone, all_present}
use Rattle.store_model.specs.Effects.{Halt, Aborted, OutOfTicks, Stuck, StuckAt, BadUse, BadStore, NoChoice, Infeasible, Unreachable, Out, Go, Unwind, Halts}
use Rattle.typed_tree.specs.Nodes.{number_of, nodes_of, param_nodes}
use Rattle.typed_tree.specs.Tree.{BodyTree, ProgramTree}
use Rattle.src_meaning.specs.Locals.OfBody.{answer_key, local_of, local_ty, local_among}
use Rattle.src_meaning.specs.Programs.{IsAccepted}
use Rattle.src_meaning.specs.Scopes.{Entry}
use Rattle.well_typed.specs.Claim.{Holds}
use Rattle.well_typed.specs.Program.{WellTyped, is_body}
use Rattle.soundness_values.proofs.AlsoTests.{Also, checks_also}
use Rattle.soundness_values.proofs.Checked.{Checking, no_use_refused, no_store_refused}
use Rattle.soundness_values.proofs.CheckedBodies.{checks_of}
use Rattle.soundness_values.proofs.CountedOwing.{LocalClear, ClearAtReturn, ClearAtPanic}
use Rattle.soundness_values.proofs.Facts.{Facts, no_facts}
use Rattle.soundness_values.proofs.Leaving.{ShownOut}
use Rattle.soundness_values.proofs.NeverStuck.{Shows}
use Rattle.soundness_values.proofs.OnceByPass.{protected, PassShowsAll}
use Rattle.soundness_values.proofs.Owing.{checked_body}
use Rattle.soundness_cells.proofs.PassAllTests.{RestHolds, uncomplaining}
use Rattle.soundness_cells.proofs.PassCells.{parts, locals_are}
use Rattle.soundness_cells.proofs.PassClear.{any}
use Rattle.soundness_cells.proofs.PassEnds as ends
use Rattle.soundness_cells.proofs.PassFirst.{body_at}
use Rattle.soundness_cells.proofs.PassGiven.{result_whole}
use Rattle.soundness_cells.proofs.PassGood.{TypedParams, entry_local}
use Rattle.soundness_cells.proofs.PassLocals.{EntryIn, keys, tys, at_local}
use Rattle.soundness_cells.proofs.PassNumbers.{Rises}
use Rattle.soundness_cells.proofs.PassOneEach.{one_index, locals_distinct}
use Rattle.soundness_cells.proofs.PassRefilled.{says_lost, SaysLost, checked_ends}
use Rattle.soundness_values.proofs.ProtectTests.{protect_tests}

-- ---- each local is that of a key

entry_there : (es : List Entry) (l : ℕ) (id : TyId) → slice_get (tys es) l ≡ Some id →
    (e : Entry) × (slice_get es l ≡ Some e)
entry_there [] l id h = absurd (none-some id h)
entry_there (e ∷ es) zero id h = (e, refl)
entry_there (e ∷ es) (suc l) id h = entry_there es l id h

entry_in : (es : List Entry) (l : ℕ) (e : Entry) → slice_get es l ≡ Some e → EntryIn es e
entry_in [] l e h = absurd (none-some e h)
entry_in (x ∷ es) zero e h = let same : x ≡ e = cc in inl same
entry_in (x ∷ es) (suc l) e h = inr (entry_in es l e h)

module _ (items : ItemTable) (body : BodyTree) (rise : Rises (param_nodes body.params ++ nodes_of body.block))
    (typed : TypedParams items body.params) where
  abbrev all : List Entry
  all = parts items body.params body.answer body.block

  abbrev index : ℕ → ℕ
  index key = local_among (keys (parts items body.params body.answer body.block)) key

  local_is : (key : ℕ) → local_of items body key ≡ index key
  local_is key = ap (λ (es : List Entry). local_among (keys es) key) (locals_are items body)

  index_is : (l : ℕ) (e : Entry) → slice_get all l ≡ Some e → index e.key ≡ l
  index_is l e h = by (at_local all e.key)
    where
      long : length all ≤ index e.key → slice_get (tys all) (index e.key) ≡ None
      long past =
          let same : length (tys all) ≡ length all = length-map all (λ (x : Entry). x.ty) in
          slice_get_past (tys all) (index e.key) (subst (λ k. k ≤ index e.key) (sym same) past)

      by : ((x : Entry) × ((slice_get all (index e.key) ≡ Some x) × (x.key ≡ e.key))) ⊎ (length all ≤ index e.key) →
          index e.key ≡ l
      by (inl (x, (at, same))) = one_index all (locals_distinct items body.params body.answer body.block rise)
          (index e.key) l x e at h same
      by (inr past) = absurd (none-some e.ty (sym (long past)
          ∙ entry_local items body.params body.answer body.block rise typed e (entry_in all l e h)))

  pub answer_first : local_of items body (answer_key body) ≡ 0
  answer_first = local_is (answer_key body)
      ∙ index_is 0 (record { key = number_of body.block; ty = body.answer }) refl

  pub key_of_local : (l : ℕ) (id : TyId) → local_ty items body l ≡ Some id →
      (key : ℕ) × (local_of items body key ≡ l)
  key_of_local l id h =
      let e = entry_there all l id (sym (ap (λ (es : List Entry). slice_get (tys es) l) (locals_are items body)) ∙ h) in
      (e.0.key, local_is e.0.key ∙ index_is l e.0 e.1)

-- ---- the locals where a body ends

module _ (p : ProgramTree) (typed : WellTyped p) where
  abbrev pub also : ℕ → Also
  also = protect_tests p.items (protected p)

  abbrev pub ran : (n fuel : ℕ) (b : BodyTree) → slice_get p.bodies n ≡ Some b → List Bool → Out (Checking Facts)
  ran = checked_body p (protect_tests p.items (protected p))

  module _ (n fuel : ℕ) (b : BodyTree) (e : slice_get p.bodies n ≡ Some b) (list : List Bool) where
    found : (sig : Sig) × ((slice_get p.items.bodies n ≡ Some sig) × Holds (is_body p.items (0 + n) sig b))
    found = body_at p.items 0 p.items.bodies p.bodies typed.1 n b e

    rises : Rises (param_nodes b.params ++ nodes_of b.block)
    rises = ends.rise p.items _ found.0 b found.1.1 (checks_also (also n) (checks_of p.items b)) fuel

    params_typed : TypedParams p.items b.params
    params_typed = ends.typed_so p.items _ found.0 b found.1.1 (checks_also (also n) (checks_of p.items b)) fuel

    abbrev KeyClear : Checking Facts → ℕ → Type 0
    KeyClear v key = (itself_gone (presence (local_of p.items b key) v.free.cells) ≡ true)
        ⊎ (option_map_or (needs_drop p.items) (local_ty p.items b (local_of p.items b key)) false ≡ false)

    left_so : ShownOut any (λ w. (key : ℕ) → KeyClear w key ⊎ (key ≡ answer_key b)) (λ w. (key : ℕ) → KeyClear w key)
        (ran n fuel b e list)
    left_so = ends.run_left p.items _ found.0 b found.1.1 (checks_also (also n) (checks_of p.items b)) fuel list
        no_facts
        false

    -- a local that has no type is clear
    by_type : (v : Checking Facts) (l : ℕ) → ((key : ℕ) → local_of p.items b key ≡ l →
        LocalClear p (protected p) (also) b v l) → LocalClear p (protected p) (also) b v l
    by_type v l f = by (local_ty p.items b l) refl
      where
        by : (o : Option TyId) → local_ty p.items b l ≡ o → LocalClear p (protected p) (also) b v l
        by None h = inr (ap (λ o. option_map_or (needs_drop p.items) o false) h)
        by (Some id) h = let k = key_of_local p.items b rises params_typed l id h in f k.0 k.1

    abbrev Clear : Checking Facts → ℕ → Type 0
    Clear v l = LocalClear p (protected p) (also) b v l

    at_local_of : (v : Checking Facts) (key l : ℕ) → local_of p.items b key ≡ l → KeyClear v key → Clear v l
    at_local_of v key l same h = subst (λ k. (itself_gone (presence k v.free.cells) ≡ true)
        ⊎ (option_map_or (needs_drop p.items) (local_ty p.items b k) false ≡ false)) same h

    clear_return : (v : Checking Facts) → ((key : ℕ) → KeyClear v key ⊎ (key ≡ answer_key b)) →
        ClearAtReturn p (protected p) (also) b v
    clear_return v h l positive = by_type v l (λ key same. by key same (h key))
      where
        by : (key : ℕ) → local_of p.items b key ≡ l → KeyClear v key ⊎ (key ≡ answer_key b) → Clear v l
        by key same (inl x) = at_local_of v key l same x
        by key same (inr is) =
            let none : l ≡ 0 = sym same ∙ ap (local_of p.items b) is ∙ answer_first p.items b rises params_typed in
            absurd (let never : ⊥ = omega (none, positive, arith) in never)

    clear_panic : (v : Checking Facts) → ((key : ℕ) → KeyClear v key) → ClearAtPanic p (protected p) (also) b v
    clear_panic v h l = by_type v l (λ key same. at_local_of v key l same (h key))

    pub clear_ends : ShownOut any (ClearAtReturn p (protected p) (also) b) (ClearAtPanic p (protected p) (also) b)
        (ran n fuel b e list)
    clear_ends = by (ran n fuel b e list) left_so
      where
        by : (o : Out (Checking Facts)) →
            ShownOut any (λ w. (key : ℕ) → KeyClear w key ⊎ (key ≡ answer_key b)) (λ w. (key : ℕ) → KeyClear w key) o →
            ShownOut any (ClearAtReturn p (protected p) (also) b) (ClearAtPanic p (protected p) (also) b) o
        by (Go v) h = clear_return v h
        by (Unwind v) h = clear_panic v h
        by (Halts halt v) h = tt

    pub calm_ends : ShownOut says_lost (λ v. v.facts.refilled ≡ None) (λ v. v.facts.refilled ≡ None)
        (ran n fuel b e list)
    calm_ends = checked_ends p.items b (also n) fuel _ refl

  -- ---- what is left

  module _ (accepted : IsAccepted p) where
    -- no run fails the tests that are left
    pub record Left : Type 0 where
      pub rest : RestHolds p typed also

    -- where a checked run returns its result is whole, since it has tested it
    whole : (n fuel : ℕ) (b : BodyTree) (e : slice_get p.bodies n ≡ Some b) (list : List Bool) (v : Checking Facts) →
        ran n fuel b e list ≡ Go v → all_present (presence 0 v.free.cells) ≡ true
    whole n fuel b e list v h = subst (λ l. all_present (presence l v.free.cells) ≡ true)
        (answer_first p.items b (rises n fuel b e list) (params_typed n fuel b e list))
        (result_whole p.items b (also n) fuel _ v h)

    -- so much follows
    pub shows_by_left : Left → PassShowsAll p
    shows_by_left left n fuel b e list = by (ran n fuel b e list) refl (clear_ends n fuel b e list)
        (calm_ends n fuel b e list)
      where
        Shown : Out (Checking Facts) → Type 0
        Shown = Shows {V = Checking Facts} (λ v. v.lost) (λ v. v.free.choices)
            (λ v. (v.facts.refilled ≡ None) × (all_present (presence 0 v.free.cells) ≡ true)
            × ClearAtReturn p (protected p) (also) b v)
            (λ v. (v.facts.refilled ≡ None) × ClearAtPanic p (protected p) (also) b v)

        halted : (halt : Halt) (v : Checking Facts) → ran n fuel b e list ≡ Halts halt v → SaysLost halt v.lost →
            Shown (Halts halt v)
        halted Aborted v h l = tt
        halted OutOfTicks v h l = tt
        halted Stuck v h l = uncomplaining p typed also left.rest n fuel b e list v h
        halted (StuckAt mark block) v h l = l
        halted (BadUse site) v h l = no_use_refused p accepted n b e (checks_also (also n) (checks_of p.items b))
            no_facts
            fuel list site v h
        halted (BadStore site) v h l = no_store_refused p accepted n b e (checks_also (also n) (checks_of p.items b))
            no_facts fuel list site v h
        halted NoChoice v h l = l
        halted Infeasible v h l = l
        halted Unreachable v h l = l

        by : (o : Out (Checking Facts)) → ran n fuel b e list ≡ o →
            ShownOut any (ClearAtReturn p (protected p) (also) b) (ClearAtPanic p (protected p) (also) b) o →
            ShownOut says_lost (λ v. v.facts.refilled ≡ None) (λ v. v.facts.refilled ≡ None) o → Shown o
        by (Go v) h c r = (r, whole n fuel b e list v h, c)
        by (Unwind v) h c r = (r, c)
        by (Halts halt v) h c r = halted halt v h r
