-- A `Drop` body that keeps the contract of calls as to numbers owes the ladder of drops nothing more: its value is still
-- there with its number, which has ended, and the account holds.
use Rattle.std.proofs.Common.{◌≡◌, ℕ, zero, suc, ◌<◌, ◌≤◌, ◌&&◌, Bool, true, false, List, [], ◌∷◌, ◌++◌, length, Some, nat_lt, refl, ap, sym, ◌∙◌, subst, arith}
use Rattle.std.specs.Prelude.{slice_get}
use Rattle.std.proofs.lemmas.Bool.{false≢true, ltb-true}
use Rattle.std.proofs.lemmas.Option.{none-some}
use Rattle.mir_base.specs.declared.trace.Event.{Event}
use Rattle.mir_base.specs.Once.{times}
use Rattle.mir_ty.specs.declared.ty.Ty.{Ty}
use Rattle.mir_ty.specs.declared.ty.TyId.{TyId}
use Rattle.mir_ty.specs.ItemTable.{ItemTable, type_at}
use Rattle.store_model.specs.declared.address.Addr.{Addr}
use Rattle.store_model.specs.declared.address.At.{At}
use Rattle.store_model.specs.Values.Datum.{Datum, Data, Gone, Number, Truth, UnitValue, Aggregate, Box, Address}
use Rattle.store_model.specs.Values.Wholeness.{serials, serials_of_all}
use Rattle.store_model.specs.Abstract.Presence.{is_present}
use Rattle.store_model.specs.Places.TypeForms.{box_content}
use Rattle.store_model.specs.Concrete.Drops.{drop_impl}
use Rattle.store_model.specs.Concrete.Location.{Setting, DynamicType, OfType, concrete_ty, Located, located_at, stored_at}
use Rattle.store_model.specs.Concrete.State.{State, Bodies, Answer}
use Rattle.src_meaning.specs.Programs.{setting_of}
use Rattle.typed_tree.specs.Tree.{ProgramTree}
use Rattle.well_typed.specs.Program.{WellTyped}
use Rattle.soundness_values.specs.Frames.{Alike, written}
use Rattle.soundness_values.specs.Typed.{is_aggregate}
use Rattle.soundness_values.proofs.Accounts.{times_one}
use Rattle.soundness_values.proofs.AlsoTests.{Also}
use Rattle.soundness_values.proofs.Behind.{head_serial, LeavesSelf, drop_returns, drop_unwinds}
use Rattle.soundness_values.proofs.Bodies.{Keep}
use Rattle.soundness_values.proofs.BodyHeads.{size, sized}
use Rattle.soundness_values.proofs.Contracts as contracts
use Rattle.soundness_values.proofs.Contracts.{targets_of, MayRun, Leaves, LeftSo}
use Rattle.soundness_values.proofs.CountedContract as counts
use Rattle.soundness_values.proofs.CountedContract.{Before, Ended, still_held}
use Rattle.soundness_values.proofs.CountedOwing.{CountsAnswer, CountsState, CountsEnd, ClearAtReturn, ClearAtPanic}
use Rattle.soundness_values.proofs.CountedStores.{Spaced, spaced_apart, spaced_below}
use Rattle.soundness_values.proofs.Counts.{times_append, in_value}
use Rattle.soundness_values.proofs.DropCalls.{self_target, targets_are, may_run}
use Rattle.soundness_values.proofs.DropHeads.{drop_heads_of, drop_gives_unit}
use Rattle.soundness_values.proofs.DropsCounted.{live, Covers, covers_live, spared_by, Guarded, guarded}
use Rattle.soundness_values.proofs.Facts.{Each, each_kept}
use Rattle.soundness_values.proofs.Fits.{Fits}
use Rattle.soundness_values.proofs.Forgotten.{InFlight}
use Rattle.soundness_values.proofs.Guards.{Spares, spares_apart, spares_below, HeadIs, numbers_of, HeadsStand}
use Rattle.soundness_values.proofs.Known.{Target}
use Rattle.soundness_values.proofs.LadderEnds as ladder
use Rattle.soundness_values.proofs.LadderEnds.{Room, DropKeeps, DropsKeep}
use Rattle.soundness_values.proofs.Owing.{calls_keep}
use Rattle.soundness_values.proofs.Standings.{alike_located, stored_located}
use Rattle.soundness_values.proofs.Tally.{accounted, counted}

-- a value of type `()` has no number
pub unit_numbers : (items : ItemTable) (id : TyId) (d : Datum) → type_at items id ≡ Some Ty.Unit →
    Fits items (OfType id) is_present d → serials d ≡ []
unit_numbers items id Gone e k = refl
unit_numbers items id (Number n) e k = refl
unit_numbers items id (Truth b) e k = refl
unit_numbers items id UnitValue e k = refl
unit_numbers items id (Address a) e k = refl
unit_numbers items id (Aggregate v s parts) e k =
    absurd (false≢true (sym (ap is_aggregate e) ∙ first (is_aggregate (type_at items id)) _ k.2))
  where
    first : (a b : Bool) → (a && b) ≡ true → a ≡ true
    first true b h = refl
    first false b h = absurd (false≢true h)
unit_numbers items id (Box s i inside) e k = absurd (none-some k.1.0 (sym (ap box_content e) ∙ k.1.1))

as_spaced : (a b : Addr) → Spares a b → Spaced a b
as_spaced a b (spares_apart h) = spaced_apart h
as_spaced a b (spares_below step rest e) = spaced_below (step ∷ rest, e)

at_itself : (a : Addr) → Spaced a a
at_itself a = spaced_below ([], ap (λ p. record { depth = a.depth; key = a.key; path = p }) (sym (no_more a.path)))
  where
    no_more : (p : List At) → p ++ [] ≡ p
    no_more [] = refl
    no_more (i ∷ p) = ap (λ l. i ∷ l) (no_more p)

module _ (p : ProgramTree) (protects : ℕ → ℕ → Bool) (also : ℕ → Also) (typed : WellTyped p)
    (drop_protected : (f : DynamicType) (of : ℕ × ℕ) → drop_impl p.items (concrete_ty p.items f) ≡ Some of →
    protects of.1 1 ≡ true) (run : Bodies)
    (keep : Keep (calls_keep p (CountsAnswer p protects also) (CountsState p protects also) (CountsEnd p protects also)
    also (ClearAtReturn p protects also) (ClearAtPanic p protects also)) run) where
  abbrev items : ItemTable
  items = p.items

  abbrev setting : Setting
  setting = setting_of p

  module _ (D : List ℕ) (w : State) (s : Located) (of : ℕ × ℕ) (variant serial : ℕ) (parts : Data)
      (at : located_at setting w s.address ≡ Some s) (value : s.value ≡ Aggregate variant (Some serial) parts)
      (impl : drop_impl items (concrete_ty items s.dynamic) ≡ Some of) (room : Room (size p) D w s.value)
      (good : Guarded setting (size p) (sized p) D w) where
    abbrev event : Event
    event = Event.Dropped of.0 serial

    abbrev guards : List (Addr × ℕ)
    guards = (s.address, serial) ∷ live D good.guards

    -- its number is counted in it
    own : (k : ℕ) → times k (serial ∷ []) ≤ in_value k s.value
    own k =
        let all = times_append k (serial ∷ []) (serials_of_all parts) in
        let is : in_value k s.value ≡ times k (serial ∷ serials_of_all parts) = ap (in_value k) value in
        omega arith

    at_most : (k : ℕ) → times k (serial ∷ D) ≤ 1
    at_most k =
        let all = times_append k (serial ∷ []) D in
        let is : times k (serial ∷ D) ≡ times k ((serial ∷ []) ++ D) = refl in
        let mine = own k in
        let there = room k in
        let sum = good.account.sum k in
        let ended = good.account.has_ended k in
        let made = good.account.once k in
        omega arith

    covered : Covers (serial ∷ D) guards
    covered k l = by (times k D) refl
      where
        by : (n : ℕ) → times k D ≡ n → 1 ≤ times k (numbers_of guards)
        by zero e =
            let all = times_append k (serial ∷ []) D in
            let is : times k (serial ∷ D) ≡ times k ((serial ∷ []) ++ D) = refl in
            let both = times_append k (serial ∷ []) (numbers_of (live D good.guards)) in
            let these : times k (numbers_of guards) ≡ times k ((serial ∷ []) ++ numbers_of (live D good.guards)) = refl in
            omega arith
        by (suc n) e =
            let some : 1 ≤ times k D = omega arith in
            let more = covers_live D good.guards k some (good.covers k some) in
            let both = times_append k (serial ∷ []) (numbers_of (live D good.guards)) in
            let these : times k (numbers_of guards) ≡ times k ((serial ∷ []) ++ numbers_of (live D good.guards)) = refl in
            omega arith

    head_now : HeadIs setting w s.address serial
    head_now = record { standing = s; stands = at; head = ap head_serial value }

    heads_now : HeadsStand setting guards w
    heads_now = (
      head_now,
      each_kept (λ (g : Addr × ℕ). HeadIs setting w g.0 g.1)
          (λ (g : Addr × ℕ). HeadIs setting w g.0 g.1) (λ (g : Addr × ℕ). nat_lt 0 (times g.1 D)) good.guards
          (λ g alive h. h) good.heads,
    )

    -- what is dropped lies apart from what is being dropped, or below it
    spaced_now : Each (λ (g : Addr × ℕ). Spaced g.0 s.address) guards
    spaced_now = (
      at_itself s.address,
      each_kept (λ (g : Addr × ℕ). HeadIs setting w g.0 g.1)
          (λ (g : Addr × ℕ). Spaced g.0 s.address) (λ (g : Addr × ℕ). nat_lt 0 (times g.1 D)) good.guards
          (λ g alive h. as_spaced g.0 s.address (spared_by setting (size p) (sized p) w g.0 g.1 s h at (λ m.
          let some : 0 < times g.1 D = ltb-true 0 (times g.1 D) alive in
          let sum = good.account.sum g.1 in
          let ended = good.account.has_ended g.1 in
          let there = room g.1 in
          let made = good.account.once g.1 in
          let never : ⊥ = omega arith in never))) good.heads,
    )

    before : (to : TyId) → Before setting (size p) (sized p) protects D guards event of.1 (Address s.address ∷ [])
        (self_target setting to s.address ∷ []) w
    before to = record {
      counted = counted (size p) D w good.account;
      makes_none = refl;
      was_made = λ k same.
          let is_it : serial ≡ k = cc in
          let mine : times k (serial ∷ []) ≤ in_value k s.value = own k in
          let one : times k (serial ∷ []) ≡ 1 = ap (λ n. times k (n ∷ [])) is_it ∙ times_one k in
          let there = room k in
          let sum = good.account.sum k in
          omega arith;
      at_most = at_most;
      covered = covered;
      heads = heads_now;
      spaced = λ n t e u. spaced_at n t e;
      exact = λ n t e u. exact_at n t e;
    }
      where
        spaced_at : (n : ℕ) (t : Target) → slice_get (self_target setting to s.address ∷ []) n ≡ Some t →
            Each (λ (g : Addr × ℕ). Spaced g.0 t.address) guards
        spaced_at zero t e = let same : self_target setting to s.address ≡ t = cc in
            subst (λ (x : Target). Each (λ (g : Addr × ℕ). Spaced g.0 x.address) guards) same spaced_now
        spaced_at (suc n) t e = absurd (none-some t e)

        all_so : (holds : Addr × ℕ → Type 0) (gs : List (Addr × ℕ)) → ((g : Addr × ℕ) → holds g) → Each holds gs
        all_so holds [] f = tt
        all_so holds (g ∷ gs) f = (f g, all_so holds gs f)

        exact_at : (n : ℕ) (t : Target) → slice_get (self_target setting to s.address ∷ []) n ≡ Some t →
            Each (λ (g : Addr × ℕ). t.address ≡ g.0 → protects of.1 t.local ≡ true) guards
        exact_at zero t e = let same : self_target setting to s.address ≡ t = cc in
            all_so (λ (g : Addr × ℕ). t.address ≡ g.0 → protects of.1 t.local ≡ true) guards
            (λ g x. subst (λ (y : Target). protects of.1 y.local ≡ true) same (drop_protected s.dynamic of impl))
        exact_at (suc n) t e = absurd (none-some t e)

    -- ---- how it leaves its value

    good_after : (v : State) → InFlight (size p) [] (serial ∷ D) v → HeadsStand setting guards v →
        Guarded setting (size p) (sized p) (serial ∷ D) v
    good_after v flow heads = record {
      account = accounted (size p) (serial ∷ D) v
          (still_held setting (size p) (sized p) protects (serial ∷ D) guards v at_most covered heads) flow;
      guards = guards;
      covers = covered;
      heads = heads;
    }

    leaves : (to : TyId) (v : State) → Leaves setting (self_target setting to s.address ∷ []) w v →
        InFlight (size p) [] (serial ∷ D) v → HeadsStand setting guards v →
        LeavesSelf setting (size p) (sized p) (guarded setting (size p) (sized p)) D s w v
    leaves to v l flow heads = by l.news l.many l.frame
      where
        some_same : {a b : Located} → Some a ≡ Some b → a ≡ b
        some_same x = cc

        same_number : {a b : ℕ} → Some a ≡ Some b → a ≡ b
        same_number x = cc

        by : (news : List Datum) → length news ≡ 1 → Alike v.activations (written (s.address ∷ []) news w).activations →
            LeavesSelf setting (size p) (sized p) (guarded setting (size p) (sized p)) D s w v
        by [] m j = absurd (let never : ⊥ = cc in never)
        by (d ∷ more) m j =
            let there : located_at setting v s.address ≡ Some (record s { value = d }) =
            alike_located setting v (stored_at s.address d w) j s.address
            ∙ stored_located setting w s.address s d at in
            let now : record s { value = d } ≡ l.stands.0.standing = some_same (sym there ∙ l.stands.0.stands) in
            let kept : record s { value = d } ≡ heads.0.standing = some_same (sym there ∙ heads.0.stands) in
            record {
              new = d;
              changed = j;
              fit = subst (λ (x : Located). Fits items x.dynamic is_present x.value) (sym now) l.stands.0.whole;
              good = λ k is_k. subst (λ n. Guarded setting (size p) (sized p) (n ∷ D) v)
                  (same_number (sym (ap (λ (x : Located). head_serial x.value) kept ∙ heads.0.head) ∙ is_k))
                  (good_after v flow heads);
            }

    ended : (to result : TyId) → type_at items result ≡ Some Ty.Unit → (answer : Answer) →
        LeftSo setting (self_target setting to s.address ∷ []) result w answer →
        Ended setting (size p) (sized p) protects D guards event answer →
        DropKeeps setting (size p) (sized p) (guarded setting (size p) (sized p)) D s w answer
    ended to result unit _ (contracts.returned x v l fit) (counts.returned _ _ flow heads) =
        drop_returns setting (size p) (sized p) (guarded setting (size p) (sized p)) D s of w x v impl
        (leaves to v l (subst (λ n. InFlight (size p) n (serial ∷ D) v) (unit_numbers items result x unit fit) flow) heads)
    ended to result unit _ (contracts.unwound v l) (counts.unwound _ flow heads) =
        drop_unwinds setting (size p) (sized p) (guarded setting (size p) (sized p)) D s of w v impl
        (leaves to v l flow heads)
    ended to result unit _ (contracts.halted halt v m) (counts.halted _ _ once) = ladder.halts halt v m once

  pub drops_counted : DropsKeep setting (size p) (sized p) (guarded setting (size p) (sized p)) run
  drops_counted D w s of variant serial parts at value impl fit found room good =
      let h = drop_heads_of p typed s.dynamic of impl in
      let args : List Datum = Address s.address ∷ [] in
      let targets : targets_of items 1 h.sig.params args ≡ self_target setting h.to s.address ∷ [] =
      ap (λ l. targets_of items 1 l args) h.params_are ∙ targets_are setting h.self h.to s.address h.self_is in
      let may : MayRun setting h.sig.params args w = subst (λ l. MayRun setting l args w) (sym h.params_are)
      (may_run setting h.self h.to w s h.self_is h.of_type found at fit) in
      let kept = keep (Event.Dropped of.0 serial) of.1 args w (h.sig, h.sig_is, may) h.sig h.sig_is in
      let gs : List (Addr × ℕ) = (s.address, serial) ∷ live D good.guards in
      ended D w s of variant serial parts at value impl room good h.to h.sig.result
      (drop_gives_unit p typed s.dynamic of impl h.sig h.sig_is)
      (run (Event.Dropped of.0 serial) of.1 args w)
      (subst (λ l. LeftSo setting l h.sig.result w (run (Event.Dropped of.0 serial) of.1 args w)) targets kept.0)
      (kept.1 h.sig h.sig_is D gs
      (subst (λ ts. Before setting (size p) (sized p) protects D gs (Event.Dropped of.0 serial) of.1 args ts w) (sym targets)
      (before D w s of variant serial parts at value impl room good h.to)))
