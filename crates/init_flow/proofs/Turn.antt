-- One turn of the solver: what the work list is after a row came to a block.
use Rattle.std.proofs.Common.{◌≡◌, ◌≢◌, ◌⊎◌, inl, inr, ℕ, ◌+◌, ◌<◌, ◌≤◌, Bool, true, false, List, [], ◌∷◌, Option, Some, None, length, refl, sym, ap, subst, ◌∙◌, arith}
use Rattle.std.specs.Prelude.{Contains, slice_index_or, slice_set, OnOk}
use Rattle.std.proofs.Common.{Result, Ok, Err}
use Rattle.bit_rows.specs.Words.{union}
use Rattle.init_flow.specs.Carried.{Bits}
use Rattle.init_flow.specs.declared.flow.Flow.{Flow}
use Rattle.init_flow.specs.WorkList.{Problem, SolverState, state_of, blocks_in, row_at, is_reached, arrived, Waits, Taken, Changes, Arrives, Good, Law, Made, one, here, Started, untouched, Grows, Turns, bit, unsettled, left}
use Rattle.init_flow.proofs.Invariant.{good-arrived, started-arrived, left-arrived, arrived-there, still, good-done, good-both, good-taken, good-untouched, passed}

abbrev waiting_too : ℕ → SolverState → SolverState
waiting_too i s = record s { waiting = slice_set s.waiting i true }

pub changes : (old mid new : Flow) (m : ℕ) (row : Bits)
    → mid.rows ≡ slice_set old.rows m (union row (row_at (state_of old) m)) → mid.reached ≡ slice_set old.reached m true → mid.waiting ≡ old.waiting → mid.heap ≡ old.heap
    → Waits mid new m
    → ((union row (row_at (state_of old) m) ≢ row_at (state_of old) m) ⊎ (is_reached (state_of old) m ≡ false))
    → Changes old new m row
changes old mid new m row rows reached waiting heap waited news =
    record {
      state = waited.state ∙ ap (waiting_too m) mid_is;
      kept = λ c h. waited.kept c (subst (λ (z : List ℕ). Contains z c) (sym blocks) h);
      there = elim waited.there [ inl w ↦ inl (ap (λ (z : List Bool). slice_index_or z m false) (sym waiting) ∙ w) | inr h ↦ inr h ];
      only = λ c h. elim (waited.only c h) [ inl h ↦ inl (subst (λ (z : List ℕ). Contains z c) blocks h) | inr e ↦ inr e ];
      news = news;
      longer = (let same = ap length blocks in omega (waited.longer, same, arith));
    }
  where
    blocks : blocks_in mid ≡ blocks_in old
    blocks = ap (λ z. blocks_in (record { rows = old.rows; reached = old.reached; waiting = old.waiting; heap = z })) heap

    mid_is : state_of mid ≡ record { rows = slice_set old.rows m (union row (row_at (state_of old) m)); reached = slice_set old.reached m true; waiting = old.waiting }
    mid_is = rw (rows, reached, waiting) refl

module _ (f : Problem) (law : Law f) where
  -- a row came to a block by the next way of a block, or at the start
  pub arrives : (old new : Flow) (block done m : ℕ) (row : Bits) → Good f (state_of old) (blocks_in old) block done → m < f.blocks → length row ≡ f.width → Made f m row
      → ((n k c : ℕ) → n < f.blocks → k < 2 → f.target n k ≡ Some c → n ≡ block → k ≡ done → (c ≡ m) × (row ≡ f.pass n k (row_at (state_of old) n)))
      → Arrives old new m row
      → Turns f old new block (done + 1) × (is_reached (state_of new) m ≡ true) × (union row (row_at (state_of new) m) ≡ row_at (state_of new) m)
  arrives old new block done m row good inside long makes hole (inl changed) = (
    record {
      good = subst (λ (s : SolverState). Good f s (blocks_in new) block (done + 1)) (sym changed.state) (good-arrived f law (state_of old) (blocks_in old) block done good m inside row long makes (blocks_in new) grows hole);
      less = lessened;
      reached = λ n r. ap (λ (s : SolverState). is_reached s n) changed.state ∙ still f law (state_of old) (blocks_in old) block done good m inside row long makes n r;
      started = λ started. subst (Started f) (sym changed.state) (started-arrived f law (state_of old) (blocks_in old) block done good m inside row long makes (blocks_in new) grows hole started);
    },
    ap (λ (s : SolverState). is_reached s m) changed.state ∙ there.0,
    subst (λ (s : SolverState). union row (row_at s m) ≡ row_at s m) (sym changed.state) there.1,
  )
    where
      there : (is_reached (arrived (state_of old) m row) m ≡ true) × (union row (row_at (arrived (state_of old) m row) m) ≡ row_at (arrived (state_of old) m row) m)
      there = arrived-there f law (state_of old) (blocks_in old) block done good m inside row long makes

      grows : Grows (blocks_in old) (blocks_in new) m
      grows =
          record {
            kept = changed.kept;
            there = elim changed.there [ inl w ↦ changed.kept m (good.held m w) | inr h ↦ h ];
            only = changed.only;
          }

      lessened : left new ≤ left old
      lessened =
          let less = left-arrived f law (state_of old) (blocks_in old) block done good m inside row long makes (blocks_in new) grows hole changed.news in
          let same : unsettled (state_of new) ≡ unsettled (arrived (state_of old) m row) = ap unsettled changed.state in
          omega (less, same, changed.longer, arith)
  arrives old new block done m row good inside long makes hole (inr stays) = (
    record {
      good = subst (λ (s : SolverState). Good f s (blocks_in new) block (done + 1)) (sym stays.state) (subst (λ (h : List ℕ). Good f (state_of old) h block (done + 1)) (sym stays.heap) closed);
      less = (let same : unsettled (state_of new) ≡ unsettled (state_of old) = ap unsettled stays.state in let heaps = ap length stays.heap in omega (same, heaps, arith));
      reached = λ n r. ap (λ (s : SolverState). is_reached s n) stays.state ∙ r;
      started = λ started. subst (Started f) (sym stays.state) started;
    },
    ap (λ (s : SolverState). is_reached s m) stays.state ∙ stays.reached,
    subst (λ (s : SolverState). union row (row_at s m) ≡ row_at s m) (sym stays.state) stays.within,
  )
    where
      closed : Good f (state_of old) (blocks_in old) block (done + 1)
      closed = good-done f law (state_of old) (blocks_in old) block done good (λ n k c h l small leads r e d. let at = hole n k c h small leads e d in
          subst (λ (z : ℕ). (is_reached (state_of old) z ≡ true) × (union (f.pass n k (row_at (state_of old) n)) (row_at (state_of old) z) ≡ row_at (state_of old) z)) (sym at.0)
          (stays.reached, ap (λ (z : Bits). union z (row_at (state_of old) m)) (sym at.1) ∙ stays.within))

pub on_ok : {T E P Q : Type 0} → (P → Q) → (r : Result T E) → OnOk r P → OnOk r Q
on_ok to (Ok x) h = to h
on_ok to (Err e) h = h

bit-small : (b : Bool) → bit b < 2
bit-small true = omega arith
bit-small false = omega arith

pub some_one : (c m : ℕ) → Some c ≡ Some m → c ≡ m
some_one c m e = cc

module _ (f : Problem) (law : Law f) where
  -- the way leads nowhere
  pub nowhere : (flow : Flow) (block : ℕ) (way : Bool) → Good f (state_of flow) (blocks_in flow) block (bit way)
      → ((c : ℕ) → f.target block (bit way) ≡ Some c → c < f.blocks → ⊥) → Turns f flow flow block (bit way + 1)
  nowhere flow block way good leads =
      record {
        good = good-done f law (state_of flow) (blocks_in flow) block (bit way) good
            (λ n k c h l small to r same_block same_way.
            absurd (leads c (ap (λ (z : ℕ). f.target z (bit way)) (sym same_block) ∙ ap (f.target n) (sym same_way) ∙ to) l));
        less = omega arith;
        reached = λ n r. r;
        started = λ s. s;
      }

  -- the way leads to a block, and the row came there
  pub turned : (old new : Flow) (block m : ℕ) (way : Bool) (row : Bits) → Good f (state_of old) (blocks_in old) block (bit way)
      → block < f.blocks → is_reached (state_of old) block ≡ true → f.target block (bit way) ≡ Some m → m < f.blocks
      → row ≡ f.pass block (bit way) (row_at (state_of old) block) → Arrives old new m row → Turns f old new block (bit way + 1)
  turned old new block m way row good inside reached to there is arrived =
      let long = ap length is ∙ law.keeps block (bit way) (row_at (state_of old) block) (good.widths block inside) in
      let makes = subst (Made f m) (sym is) (passed f law block (bit way) m (row_at (state_of old) block) to (bit-small way) (good.made block inside reached)) in
      (arrives f law old new block (bit way) m row good there long makes (λ n k c h small leads same_block same_way. (
        some_one c m (sym leads ∙ ap (λ (z : ℕ). f.target z k) same_block ∙ ap (f.target block) same_way ∙ to),
        is ∙ ap (λ (z : ℕ). f.pass z (bit way) (row_at (state_of old) z)) (sym same_block) ∙ ap (λ (z : ℕ). f.pass n z (row_at (state_of old) n)) (sym same_way),
      )) arrived).0

  -- both ways, one after the other
  pub both_turned : (old half new : Flow) (block : ℕ) → Turns f old half block 1 → Turns f half new block 2 → Turns f old new 0 2
  both_turned old half new block first second =
      record {
        good = good-both f law (state_of new) (blocks_in new) block 2 second.good (omega arith);
        less = omega (first.less, second.less, arith);
        reached = λ n r. second.reached n (first.reached n r);
        started = λ s. second.started (first.started s);
      }

pub nonempty : {X : Type 0} → (xs : List X) → (xs ≡ [] → ⊥) → 0 < length xs
nonempty [] not_empty = absurd (not_empty refl)
nonempty (x ∷ xs) not_empty = omega arith

pub no_some : (x : ℕ) (o : Option ℕ) → o ≡ None → o ≡ Some x → ⊥
no_some x o none some = absurd (cc)

module _ (f : Problem) (law : Law f) where
  pub begins-empty : (old : Flow) → state_of old ≡ untouched f.width f.blocks → blocks_in old ≡ [] → Good f (state_of old) (blocks_in old) 0 2
  begins-empty old state heap =
      subst (λ (s : SolverState). Good f s (blocks_in old) 0 2) (sym state) (subst (λ (h : List ℕ). Good f (untouched f.width f.blocks) h 0 2) (sym heap) (good-untouched f law))

  -- at the start
  pub begins : (old new : Flow) (row : Bits) → state_of old ≡ untouched f.width f.blocks → blocks_in old ≡ [] → 0 < f.blocks → row ≡ f.start → Arrives old new 0 row
      → Good f (state_of new) (blocks_in new) 0 2 × Started f (state_of new)
  begins old new row state heap some is arrived =
      let makes = subst (Made f 0) (sym is) (one 0 f.start (here 0 f.start)) in
      let all = arrives f law old new 0 2 0 row (begins-empty old state heap) some (ap length is ∙ law.begins) makes (λ n k c h small to e d. absurd (omega (d, small, arith))) arrived in
      (good-both f law (state_of new) (blocks_in new) 0 3 all.0.good (omega arith), λ below. (all.1, subst (λ (z : Bits). union z (row_at (state_of new) 0) ≡ row_at (state_of new) 0) is all.2))

  -- a block is taken up
  pub took : (old new : Flow) (block : ℕ) → Good f (state_of old) (blocks_in old) 0 2 → Taken old new block
      → Good f (state_of new) (blocks_in new) block 0 × (block < f.blocks) × (is_reached (state_of new) block ≡ true) × (left new < left old) × (Started f (state_of old) → Started f (state_of new))
  took old new block good taken =
      let at = good.known block taken.was in (
        subst (λ (s : SolverState). Good f s (blocks_in new) block 0) (sym taken.state)
            (good-taken f law (state_of old) (blocks_in old) (blocks_in new) block good at.0 taken.kept taken.only),
        at.0,
        ap (λ (s : SolverState). is_reached s block) taken.state ∙ at.1,
        (let same : unsettled (state_of new) ≡ unsettled (state_of old) = ap unsettled taken.state in omega (same, taken.shorter, arith)),
        λ started. subst (Started f) (sym taken.state) started,
      )
