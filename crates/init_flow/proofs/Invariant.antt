-- What holds of the work list, turn after turn, and that what paths carry is in the rows at its end.
use Rattle.std.proofs.Common.{◌≡◌, ◌≢◌, ◌⊎◌, inl, inr, ℕ, ◌+◌, ◌<◌, ◌≤◌, Bool, true, false, List, [], length, replicate, Some, refl, sym, ap, subst, ◌∙◌, arith}
use Rattle.std.specs.Prelude.{slice_index_or, slice_set, Contains, sum_by}
use Rattle.std.proofs.lemmas.Bool.{false≢true, cases_eq, cases_lt}
use Rattle.std.proofs.lemmas.List.{get_or-set_same, get_or-set_other, get_or-replicate, length-replicate, length-set}
use Rattle.std.proofs.Math.ListN.{get_or-eq_default}
use Rattle.std.proofs.lemmas.List.Sums.{sum_by-set}
use Rattle.bit_rows.specs.Words.{union}
use Rattle.init_flow.specs.Carried.{Bits}
use Rattle.init_flow.specs.WorkList.{Problem, SolverState, row_at, is_reached, waits, Onward, here, there, Made, one, both, Law, Good, Started, Grows, arrived, untouched, is_off, off, unsettled}
use Rattle.init_flow.proofs.Rows.{union-length, union-again, union-stays, union-none, in_between, fewer, fewer-than}

module _ (f : Problem) where
  pub further : (n : ℕ) (row : Bits) (last : ℕ) (end : Bits) (k m : ℕ) → Onward f n row last end → f.target last k ≡ Some m → k < 2
      → Onward f n row m (f.pass last k end)
  further _ _ _ _ k m (here n row) leads below = there n k m row m (f.pass n k row) leads below (here m (f.pass n k row))
  further _ _ _ _ k m (there n j l row last end to small rest) leads below =
      there n j l row m (f.pass last k end) to small (further l (f.pass n j row) last end k m rest leads below)

  module _ (law : Law f) where
    pub onward-width : (n : ℕ) (row : Bits) (last : ℕ) (end : Bits) → Onward f n row last end → length row ≡ f.width → length end ≡ f.width
    onward-width _ _ _ _ (here n row) h = h
    onward-width _ _ _ _ (there n k m row last end to small rest) h = onward-width m (f.pass n k row) last end rest (law.keeps n k row h)

    pub made-width : (n : ℕ) (row : Bits) → Made f n row → length row ≡ f.width
    made-width _ _ (one n row o) = onward-width 0 f.start n row o law.begins
    made-width _ _ (both n a b p q) =
        union-length a b (made-width n a p ∙ sym (made-width n b q)) ∙ made-width n a p

    pub passed : (n k m : ℕ) (row : Bits) → f.target n k ≡ Some m → k < 2 → Made f n row → Made f m (f.pass n k row)
    passed _ k m _ leads small (one n row o) = one m (f.pass n k row) (further 0 f.start n row k m o leads small)
    passed _ k m _ leads small (both n a b p q) =
        subst (Made f m) (sym (law.distributes n k a b (made-width n a p) (made-width n b q)))
        (both m (f.pass n k a) (f.pass n k b) (passed n k m a leads small p) (passed n k m b leads small q))

    -- what is in a row is, past a way, in what the way makes of the row
    passes : (n k : ℕ) (a b : Bits) → length a ≡ f.width → length b ≡ f.width → union a b ≡ b → union (f.pass n k a) (f.pass n k b) ≡ f.pass n k b
    passes n k a b la lb is = sym (law.distributes n k a b la lb) ∙ ap (f.pass n k) is

    -- what is in a row that is in another is in the other
    more : (a b c : Bits) → length a ≡ f.width → length b ≡ f.width → length c ≡ f.width → union a b ≡ b → union b c ≡ c → union a c ≡ c
    more a b c la lb lc ab bc = in_between a b c (la ∙ sym lb) (lb ∙ sym lc) ab bc

    -- At the end: no block waits, and what paths carry is in the rows.
    module _ (s : SolverState) (done : Good f s [] 0 2) (started : Started f s) where
      nothing_waits : (i : ℕ) → waits s i ≡ false
      nothing_waits i = by (waits s i) refl
        where
          by : (b : Bool) → waits s i ≡ b → b ≡ false
          by false e = refl
          by true e = let at = done.held i e in absurd (omega (at.1, arith))

      -- a block with a way exists
      module _ (exists : (n k m : ℕ) → f.target n k ≡ Some m → n < f.blocks) where
        met : (m : ℕ) (row : Bits) (last : ℕ) (end : Bits) → Onward f m row last end → last < f.blocks → m < f.blocks
        met _ _ _ _ (here m row) l = l
        met _ _ _ _ (there m k n row last end to small rest) l = exists m k n to

        carried_in : (n : ℕ) (row : Bits) (last : ℕ) (end : Bits) → Onward f n row last end → last < f.blocks → length row ≡ f.width
            → is_reached s n ≡ true → union row (row_at s n) ≡ row_at s n
            → (is_reached s last ≡ true) × (union end (row_at s last) ≡ row_at s last)
        carried_in _ _ _ _ (here n row) l w r is = (r, is)
        carried_in _ _ _ _ (there n k m row last end to small rest) l w r is =
            let here = exists n k m to in
            let next = met m (f.pass n k row) last end rest l in
            let step = done.flows n k m here next small to r (λ e. small) (nothing_waits n) in
            carried_in m (f.pass n k row) last end rest l (law.keeps n k row w) step.0
            (more (f.pass n k row) (f.pass n k (row_at s n)) (row_at s m) (law.keeps n k row w) (law.keeps n k (row_at s n) (done.widths n here)) (done.widths m next) (passes n k row (row_at s n) w (done.widths n here) is) step.1)

        -- the bits of a row that paths carry there are on, and only they
        pub carried : (n : ℕ) (end : Bits) → n < f.blocks → Onward f 0 f.start n end → union end (row_at s n) ≡ row_at s n
        carried n end below o =
            let some : 0 < f.blocks = omega (below, arith) in
            let began = started some in
            (carried_in 0 f.start n end o below law.begins began.0 began.1).1

-- One turn.

module _ (f : Problem) (law : Law f) where
  abbrev Is : SolverState → List ℕ → ℕ → ℕ → Type 0
  Is = Good f

  module _ (s : SolverState) (heap : List ℕ) (block done : ℕ) (good : Is s heap block done) (m : ℕ) (here : m < f.blocks) (row : Bits) (long : length row ≡ f.width) (makes : Made f m row) where
    new : Bits
    new = union row (row_at s m)

    new-length : length new ≡ f.width
    unfolding new
    new-length = union-length row (row_at s m) (long ∙ sym (good.widths m here)) ∙ long

    row_there : slice_index_or (slice_set s.rows m new) m [] ≡ new
    row_there = get_or-set_same s.rows m new [] (omega (here, good.rows_are, arith))

    row_else : (n : ℕ) → n ≢ m → slice_index_or (slice_set s.rows m new) n [] ≡ row_at s n
    row_else n other = get_or-set_other s.rows m n new [] other

    reached_there : slice_index_or (slice_set s.reached m true) m false ≡ true
    reached_there = get_or-set_same s.reached m true false (omega (here, good.reached_are, arith))

    reached_else : (n : ℕ) → n ≢ m → slice_index_or (slice_set s.reached m true) n false ≡ is_reached s n
    reached_else n other = get_or-set_other s.reached m n true false other

    abbrev waiting : List Bool
    waiting = slice_set s.waiting m true

    waits_there : slice_index_or waiting m false ≡ true
    waits_there = get_or-set_same s.waiting m true false (omega (here, good.waiting_are, arith))

    waits_else : (n : ℕ) → n ≢ m → slice_index_or waiting n false ≡ waits s n
    waits_else n other = get_or-set_other s.waiting m n true false other

    -- what was reached is
    pub still : (n : ℕ) → is_reached s n ≡ true → slice_index_or (slice_set s.reached m true) n false ≡ true
    still n r = elim (cases_eq n m) [ inl e ↦ subst (λ (z : ℕ). slice_index_or (slice_set s.reached m true) z false ≡ true) (sym e) reached_there | inr o ↦ reached_else n o ∙ r ]

    -- and what was in a row is
    grown : (n : ℕ) (other : Bits) → n < f.blocks → length other ≡ f.width → union other (row_at s n) ≡ row_at s n
        → union other (slice_index_or (slice_set s.rows m new) n []) ≡ slice_index_or (slice_set s.rows m new) n []
    unfolding new
    grown n other below l is =
        elim (cases_eq n m) [
          | inl e ↦ subst (λ (z : ℕ). union other (slice_index_or (slice_set s.rows m new) z []) ≡ slice_index_or (slice_set s.rows m new) z []) (sym e)
              (rw (row_there) (union-stays row other (row_at s m) (long ∙ sym (good.widths m here)) (l ∙ sym (good.widths m here)) (subst (λ (z : ℕ). union other (row_at s z) ≡ row_at s z) e is)))
          | inr o ↦ rw (row_else n o) is
        ]

    -- the row is in that of the block, which was reached
    pub arrived-there : (is_reached (arrived s m row) m ≡ true) × (union row (row_at (arrived s m row) m) ≡ row_at (arrived s m row) m)
    unfolding new
    arrived-there = (reached_there, rw (row_there) (union-again row (row_at s m) (long ∙ sym (good.widths m here))))

    made_new : Made f m new
    unfolding new
    made_new = by (is_reached s m) refl
      where
        by : (b : Bool) → is_reached s m ≡ b → Made f m (union row (row_at s m))
        by true r = both m row (row_at s m) makes (good.made m here r)
        by false r =
            let alone : union row (row_at s m) ≡ row = ap (union row) (good.none m here r ∙ ap (λ z. replicate z false) (sym long)) ∙ union-none row in
            subst (Made f m) (sym alone) makes

    module _ (next : List ℕ) (grows : Grows heap next m)
        -- the next way of the block led here with this row
        (hole : (n k c : ℕ) → n < f.blocks → k < 2 → f.target n k ≡ Some c → n ≡ block → k ≡ done → (c ≡ m) × (row ≡ f.pass n k (row_at s n))) where
      pub good-arrived : Is (arrived s m row) next block (done + 1)
      unfolding new
      good-arrived =
          record {
            rows_are = length-set s.rows m new ∙ good.rows_are;
            reached_are = length-set s.reached m true ∙ good.reached_are;
            waiting_are = length-set s.waiting m true ∙ good.waiting_are;
            widths = widths_now;
            made = made_now;
            none = none_now;
            flows = flows_now;
            held = held_now;
            known = known_now;
          }
        where
          widths_now : (n : ℕ) → n < f.blocks → length (slice_index_or (slice_set s.rows m new) n []) ≡ f.width
          widths_now n h = elim (cases_eq n m) [ inl e ↦ subst (λ (z : ℕ). length (slice_index_or (slice_set s.rows m new) z []) ≡ f.width) (sym e) (ap length row_there ∙ new-length) | inr o ↦ ap length (row_else n o) ∙ good.widths n h ]

          made_now : (n : ℕ) → n < f.blocks → slice_index_or (slice_set s.reached m true) n false ≡ true → Made f n (slice_index_or (slice_set s.rows m new) n [])
          made_now n h r =
              elim (cases_eq n m) [
                | inl e ↦ subst (λ (z : ℕ). Made f z (slice_index_or (slice_set s.rows m new) z [])) (sym e) (subst (Made f m) (sym row_there) made_new)
                | inr o ↦ subst (Made f n) (sym (row_else n o)) (good.made n h (sym (reached_else n o) ∙ r))
              ]

          none_now : (n : ℕ) → n < f.blocks → slice_index_or (slice_set s.reached m true) n false ≡ false → slice_index_or (slice_set s.rows m new) n [] ≡ replicate f.width false
          none_now n h r =
              elim (cases_eq n m) [
                | inl e ↦ absurd (false≢true (sym r ∙ subst (λ (z : ℕ). slice_index_or (slice_set s.reached m true) z false ≡ true) (sym e) reached_there))
                | inr o ↦ row_else n o ∙ good.none n h (sym (reached_else n o) ∙ r)
              ]

          flows_now : (n k c : ℕ) → n < f.blocks → c < f.blocks → k < 2 → f.target n k ≡ Some c → slice_index_or (slice_set s.reached m true) n false ≡ true → (n ≡ block → k < done + 1) → slice_index_or waiting n false ≡ false
              → (slice_index_or (slice_set s.reached m true) c false ≡ true) × (union (f.pass n k (slice_index_or (slice_set s.rows m new) n [])) (slice_index_or (slice_set s.rows m new) c []) ≡ slice_index_or (slice_set s.rows m new) c [])
          flows_now n k c h l small leads r other w =
              elim (cases_eq n m) [
                | inl e ↦ absurd (false≢true (sym w ∙ subst (λ (z : ℕ). slice_index_or waiting z false ≡ true) (sym e) waits_there))
                | inr o ↦ rw (row_else n o) (elsewhere o)
              ]
            where
              elsewhere : n ≢ m → (slice_index_or (slice_set s.reached m true) c false ≡ true) × (union (f.pass n k (row_at s n)) (slice_index_or (slice_set s.rows m new) c []) ≡ slice_index_or (slice_set s.rows m new) c [])
              elsewhere o = elim (cases_eq n block) [
                | inl e ↦ elim (cases_eq k done) [ inl d ↦ left_out e d | inr d ↦ as_before (λ z. let small = other z in omega (small, d, arith)) ]
                | inr d ↦ as_before (λ z. absurd (d z))
              ]
                where
                  left_out : n ≡ block → k ≡ done → (slice_index_or (slice_set s.reached m true) c false ≡ true) × (union (f.pass n k (row_at s n)) (slice_index_or (slice_set s.rows m new) c []) ≡ slice_index_or (slice_set s.rows m new) c [])
                  left_out e d =
                      let at = hole n k c h small leads e d in
                      subst (λ (z : ℕ). (slice_index_or (slice_set s.reached m true) z false ≡ true) × (union (f.pass n k (row_at s n)) (slice_index_or (slice_set s.rows m new) z []) ≡ slice_index_or (slice_set s.rows m new) z [])) (sym at.0)
                      (reached_there, rw (row_there, sym at.1) (union-again row (row_at s m) (long ∙ sym (good.widths m here))))

                  as_before : (n ≡ block → k < done) → (slice_index_or (slice_set s.reached m true) c false ≡ true) × (union (f.pass n k (row_at s n)) (slice_index_or (slice_set s.rows m new) c []) ≡ slice_index_or (slice_set s.rows m new) c [])
                  as_before d =
                      let was = sym (waits_else n o) ∙ w in
                      let flow = good.flows n k c h l small leads (sym (reached_else n o) ∙ r) d was in
                      (still c flow.0, grown c (f.pass n k (row_at s n)) l (law.keeps n k (row_at s n) (good.widths n h)) flow.1)

          held_now : (n : ℕ) → slice_index_or waiting n false ≡ true → Contains next n
          held_now n w =
              elim (cases_eq n m) [
                | inl e ↦ subst (Contains next) (sym e) grows.there
                | inr o ↦ grows.kept n (good.held n (sym (waits_else n o) ∙ w))
              ]

          known_now : (n : ℕ) → Contains next n → (n < f.blocks) × (slice_index_or (slice_set s.reached m true) n false ≡ true)
          known_now n c =
              elim (grows.only n c) [
                | inl old ↦ (let was = good.known n old in (was.0, still n was.1))
                | inr e ↦ at_m e
              ]
            where
              at_m : n ≡ m → (n < f.blocks) × (slice_index_or (slice_set s.reached m true) n false ≡ true)
              at_m e = subst (λ (z : ℕ). (z < f.blocks) × (slice_index_or (slice_set s.reached m true) z false ≡ true)) (sym e) (here, reached_there)

      -- it stays so where it began with the row that paths start with
      pub started-arrived : Started f s → Started f (arrived s m row)
      unfolding new
      started-arrived started some = (still 0 (started some).0, grown 0 f.start some law.begins (started some).1)

      -- there is less to come, where the row is another or the block was not reached
      pub left-arrived : (union row (row_at s m) ≢ row_at s m) ⊎ (is_reached s m ≡ false) → unsettled (arrived s m row) < unsettled s
      left-arrived news = elim news [ inl another ↦ (let fewer = fewer-than row (row_at s m) (long ∙ sym (good.widths m here)) another in omega (fewer, bits, blocks_left (is_reached s m) refl, arith)) | inr unreached ↦ (let fewer = fewer row (row_at s m) (long ∙ sym (good.widths m here)) in omega (fewer, bits, one_block_less unreached, arith)) ]
        where
          bits : sum_by off (slice_set s.rows m (union row (row_at s m))) + off (row_at s m) ≡ sum_by off s.rows + off (union row (row_at s m))
          bits = sum_by-set off s.rows m (union row (row_at s m)) [] (omega (here, good.rows_are, arith))

          flags : sum_by is_off (slice_set s.reached m true) + is_off (is_reached s m) ≡ sum_by is_off s.reached + 0
          flags = sum_by-set is_off s.reached m true false (omega (here, good.reached_are, arith))

          blocks_left : (b : Bool) → is_reached s m ≡ b → sum_by is_off (slice_set s.reached m true) ≤ sum_by is_off s.reached
          blocks_left b e = omega (flags, arith)

          one_block_less : is_reached s m ≡ false → sum_by is_off (slice_set s.reached m true) < sum_by is_off s.reached
          one_block_less e = let is : is_off (is_reached s m) ≡ 1 = ap is_off e in omega (flags, is, arith)

  -- A block that waited is taken up: none of its ways is done.
  pub good-taken : (s : SolverState) (heap next : List ℕ) (i : ℕ) → Is s heap 0 2 → i < f.blocks
      → ((c : ℕ) → Contains heap c → (c ≡ i) ⊎ Contains next c) → ((c : ℕ) → Contains next c → Contains heap c)
      → Is (record s { waiting = slice_set s.waiting i false }) next i 0
  good-taken s heap next i good within kept only =
      record {
        rows_are = good.rows_are;
        reached_are = good.reached_are;
        waiting_are = length-set s.waiting i false ∙ good.waiting_are;
        widths = good.widths;
        made = good.made;
        none = good.none;
        flows = λ n k m h l small leads r but w. good.flows n k m h l small leads r (λ e. small) (sym (get_or-set_other s.waiting i n false false (λ e. let none = but e in absurd (omega (none, arith)))) ∙ w);
        held = λ c w. elim (cases_eq c i) [
          | inl e ↦ absurd (false≢true (sym (get_or-set_same s.waiting i false false (omega (within, good.waiting_are, arith))) ∙ subst (λ (z : ℕ). slice_index_or (slice_set s.waiting i false) z false ≡ true) e w))
          | inr o ↦ elim (kept c (good.held c (sym (get_or-set_other s.waiting i c false false o) ∙ w))) [ inl e ↦ absurd (o e) | inr c ↦ c ]
        ];
        known = λ n c. good.known n (only n c);
      }

  -- The next way of the block leads nowhere, or has done what it does.
  pub good-done : (s : SolverState) (heap : List ℕ) (block done : ℕ) → Is s heap block done
      → ((n k c : ℕ) → n < f.blocks → c < f.blocks → k < 2 → f.target n k ≡ Some c → is_reached s n ≡ true → n ≡ block → k ≡ done → (is_reached s c ≡ true) × (union (f.pass n k (row_at s n)) (row_at s c) ≡ row_at s c))
      → Is s heap block (done + 1)
  good-done s heap block done good did =
      record {
        rows_are = good.rows_are;
        reached_are = good.reached_are;
        waiting_are = good.waiting_are;
        widths = good.widths;
        made = good.made;
        none = good.none;
        flows = λ n k m h l small leads r but w. elim (cases_eq n block) [
          | inl e ↦ elim (cases_eq k done) [
            | inl d ↦ did n k m h l small leads r e d
            | inr d ↦ good.flows n k m h l small leads r (λ z. let below = but z in omega (below, d, arith)) w
          ]
          | inr o ↦ good.flows n k m h l small leads r (λ z. absurd (o z)) w
        ];
        held = good.held;
        known = good.known;
      }

  -- Both ways of the block are done: no block is left out.
  pub good-both : (s : SolverState) (heap : List ℕ) (block done : ℕ) → Is s heap block done → 2 ≤ done → Is s heap 0 2
  good-both s heap block done good all =
      record {
        rows_are = good.rows_are;
        reached_are = good.reached_are;
        waiting_are = good.waiting_are;
        widths = good.widths;
        made = good.made;
        none = good.none;
        flows = λ n k m h l small leads r but w. good.flows n k m h l small leads r (λ e. omega (small, all, arith)) w;
        held = good.held;
        known = good.known;
      }

  -- Before anything arrived.
  pub good-untouched : Is (untouched f.width f.blocks) [] 0 2
  good-untouched =
      record {
        rows_are = length-replicate f.blocks (replicate f.width false);
        reached_are = length-replicate f.blocks false;
        waiting_are = length-replicate f.blocks false;
        widths = λ n h. ap length (get_or-replicate f.blocks n (replicate f.width false) [] h) ∙ length-replicate f.width false;
        made = λ n h r. absurd (false≢true (sym (get_or-replicate f.blocks n false false h) ∙ r));
        none = λ n h r. get_or-replicate f.blocks n (replicate f.width false) [] h;
        flows = λ n k m h l small leads r but w. absurd (false≢true (sym (get_or-replicate f.blocks n false false h) ∙ r));
        held = λ i w. absurd (false≢true (sym (never i) ∙ w));
        known = λ n c. absurd (omega (c.1, arith));
      }
    where
      never : (i : ℕ) → slice_index_or (replicate f.blocks false) i false ≡ false
      never i = elim (cases_lt i f.blocks) [
        | inl h ↦ get_or-replicate f.blocks i false false h
        | inr h ↦ get_or-eq_default (replicate f.blocks false) false (omega (h, length-replicate {A = Bool} f.blocks false, arith))
      ]
