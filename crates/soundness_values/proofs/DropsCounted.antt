-- What is kept of numbers while values are dropped: the account, and that each number whose `Drop` body runs stays at
-- the head of its value. A `Drop` body owes that by the contract of calls as to numbers.
use Rattle.std.proofs.Common.{◌≡◌, ℕ, suc, ◌<◌, ◌≤◌, ◌==◌, Bool, true, false, List, [], ◌∷◌, ◌++◌, filter, Some, if◌then◌else◌, nat_lt, refl, ap, sym, ◌∙◌, subst, arith}
use Rattle.std.proofs.lemmas.Bool.{false≢true, lt-ltb, ltb-true}
use Rattle.std.proofs.lemmas.Bool.Decides.{Decides-eqb}
use Rattle.mir_base.specs.declared.trace.Event.{Event}
use Rattle.mir_base.specs.Once.{times, IsAtMostOnce}
use Rattle.mir_ty.specs.declared.ty.TyId.{TyId}
use Rattle.store_model.specs.declared.address.Addr.{Addr}
use Rattle.store_model.specs.declared.address.At.{At}
use Rattle.store_model.specs.Values.Datum.{Gone}
use Rattle.store_model.specs.Values.Wholeness.{serials}
use Rattle.store_model.specs.Concrete.Location.{Setting, Located, located_at, stored_at}
use Rattle.store_model.specs.Concrete.State.{State, with_event}
use Rattle.soundness_values.specs.Frames.{Alike}
use Rattle.soundness_values.proofs.Accounts.{Accounted, halts_accounted, gone_accounted, freed_accounted}
use Rattle.soundness_values.proofs.Counts.{times_append, in_value}
use Rattle.soundness_values.proofs.Facts.{each_kept}
use Rattle.soundness_values.proofs.Guards.{Compared, are_apart, second_below, first_below, compare, Spares, spares_apart, spares_below, HeadIs, head_kept, head_alike, head_within, numbers_of, HeadsStand}
use Rattle.soundness_values.proofs.LadderEnds as ladder
use Rattle.soundness_values.proofs.LadderEnds.{Room, DropKeeps, DropsKeep}
use Rattle.soundness_values.proofs.Standings.{alike_itself}

-- the places of numbers that are among some
abbrev pub live : List ℕ → List (Addr × ℕ) → List (Addr × ℕ)
live dropping guards = filter (λ (g : Addr × ℕ). nat_lt 0 (times g.1 dropping)) guards

abbrev pub Covers : List ℕ → List (Addr × ℕ) → Type 0
Covers dropping guards = (k : ℕ) → 1 ≤ times k dropping → 1 ≤ times k (numbers_of guards)

pub covers_live : (dropping : List ℕ) (guards : List (Addr × ℕ)) (k : ℕ) → 1 ≤ times k dropping →
    1 ≤ times k (numbers_of guards) → 1 ≤ times k (numbers_of (live dropping guards))
covers_live dropping [] k d l = l
covers_live dropping (g ∷ guards) k d l =
    by (covers_live dropping guards k d) (k == g.1) refl (nat_lt 0 (times g.1 dropping)) refl l
  where
    by : (1 ≤ times k (numbers_of guards) → 1 ≤ times k (numbers_of (live dropping guards))) → (same : Bool) →
        (k == g.1) ≡ same → (alive : Bool) → nat_lt 0 (times g.1 dropping) ≡ alive →
        1 ≤ (if same then suc (times k (numbers_of guards)) else times k (numbers_of guards)) →
        1 ≤ times k (numbers_of (if alive then g ∷ live dropping guards else live dropping guards))
    by later true e true a m = let here : times k (g.1 ∷ numbers_of (live dropping guards))
        ≡ suc (times k (numbers_of (live dropping guards))) =
        ap (λ b. if b then suc (times k (numbers_of (live dropping guards))) else times k
        (numbers_of (live dropping guards))) e in omega arith
    by later true e false a m =
        let some : 0 < times g.1 dropping = subst (λ n. 0 < times n dropping) ((Decides-eqb k g.1).0 e)
        (let above : 0 < times k dropping = omega arith in above) in
        absurd (false≢true (sym a ∙ lt-ltb 0 (times g.1 dropping) some))
    by later false e true a m = let here : times k (g.1 ∷ numbers_of (live dropping guards))
        ≡ times k (numbers_of (live dropping guards)) =
        ap (λ b. if b then suc (times k (numbers_of (live dropping guards))) else times k
        (numbers_of (live dropping guards))) e in
        let more = later m in omega arith
    by later false e false a m = later m

module _ (setting : Setting) (size : ℕ → ℕ) (sized : (body key : ℕ) (id : TyId) →
    setting.local_ty body key ≡ Some id → key < size body) where
  -- a place is spared where its number is not in what is changed
  pub spared_by : (w : State) (a : Addr) (k : ℕ) (s : Located) → HeadIs setting w a k →
      located_at setting w s.address ≡ Some s → (1 ≤ in_value k s.value → ⊥) → Spares a s.address
  spared_by w a k s h e none = by (compare a s.address)
    where
      by : Compared a s.address → Spares a s.address
      by (are_apart apart) = spares_apart apart
      by (second_below (step ∷ rest, same)) = spares_below step rest same
      by (second_below ([], same)) = absurd (none (head_within setting w a s.address k s h
          ([], back (no_more a.path) same) e))
        where
          no_more : (p : List At) → p ++ [] ≡ p
          no_more [] = refl
          no_more (i ∷ p) = ap (λ l. i ∷ l) (no_more p)

          back : a.path ++ [] ≡ a.path → s.address ≡ record a { path = a.path ++ [] } →
              a ≡ record s.address { path = s.address.path ++ [] }
          back p same =
              let is : s.address ≡ a = same ∙ ap (λ x. record { depth = a.depth; key = a.key; path = x }) p in
              sym (ap (λ (b : Addr). record b { path = b.path ++ [] }) is
              ∙ ap (λ x. record { depth = a.depth; key = a.key; path = x }) p)
      by (first_below below) = absurd (none (head_within setting w a s.address k s h below e))

  -- the account, and that each number whose `Drop` body runs stands at its place
  pub record Guarded (dropping : List ℕ) (w : State) : Type 0 where
    pub account : Accounted size dropping w
    pub guards : List (Addr × ℕ)
    pub covers : Covers dropping guards
    pub heads : HeadsStand setting guards w

  pub live_kept : (dropping : List ℕ) (gs : List (Addr × ℕ)) (w v : State) (b : Addr) →
      Alike v.activations (stored_at b Gone w).activations → HeadsStand setting gs w →
      ((a : Addr) (k : ℕ) → HeadIs setting w a k → 1 ≤ times k dropping → Spares a b) →
      HeadsStand setting (live dropping gs) v
  live_kept dropping gs w v b j heads spares = each_kept (λ (g : Addr × ℕ). HeadIs setting w g.0 g.1)
      (λ (g : Addr × ℕ). HeadIs setting v g.0 g.1) (λ (g : Addr × ℕ). nat_lt 0 (times g.1 dropping)) gs
      (λ g alive h. head_alike setting (stored_at b Gone w) v g.0 g.1 j
      (head_kept setting w g.0 b g.1 Gone h (spares g.0 g.1 h (ltb-true 0 (times g.1 dropping) alive)))) heads

  abbrev pub guarded : ladder.Kept setting size
  guarded = record {
    good = Guarded;
    halted = λ w. IsAtMostOnce w.trace;
    at_halt = λ dropping w g. halts_accounted size dropping w g.account;
    goes = λ dropping w s e room g. record {
      account = gone_accounted size setting sized dropping w s e room g.account;
      guards = live dropping g.guards;
      covers = λ k l. covers_live dropping g.guards k l (g.covers k
          (let all = times_append k (serials s.value) dropping in omega arith));
      heads = live_kept dropping g.guards w (stored_at s.address Gone w) s.address (alike_itself _) g.heads
          (λ a k h l. spared_by w a k s h e (λ m.
          let all = times_append k (serials s.value) dropping in
          let sum = g.account.sum k in
          let ended = g.account.has_ended k in
          let there = g.account.is_held k in
          let made = g.account.once k in
          let never : ⊥ = omega arith in never));
    };
    frees = λ dropping w s serial impl_no is_box e room g. record {
      account = freed_accounted size setting sized dropping w s serial impl_no is_box e room g.account;
      guards = live dropping g.guards;
      covers = λ k l. covers_live dropping g.guards k l (g.covers k l);
      heads = live_kept dropping g.guards w (with_event (Event.Freed serial) (stored_at s.address Gone w)) s.address
          (alike_itself _) g.heads
          (λ a k h l. spared_by w a k s h e (λ m.
          let sum = g.account.sum k in
          let ended = g.account.has_ended k in
          let there = room k in
          let made = g.account.once k in
          let never : ⊥ = omega arith in never));
    };
  }
