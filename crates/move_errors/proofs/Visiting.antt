-- The search: what was visited and what waits, from turn to turn.
use Rattle.std.proofs.Common.{◌≡◌, ◌⊎◌, inl, inr, ℕ, ◌*◌, ◌<◌, ◌≤◌, Bool, true, false, List, [], ◌∷◌, ◌++◌, length, Option, Contains, refl, sym, ap, subst, ◌∙◌, arith}
use Rattle.std.proofs.lemmas.Bool.{false≢true, cases_lt}
use Rattle.std.proofs.Math.ListN.{get_or-eq_default}
use Rattle.std.proofs.lemmas.List.Elements.{Contains-append_left, Contains-append_right, Contains-append_cases}
use Rattle.init_flow.specs.Carried.{Bits}
use Rattle.move_errors.specs.Runs.{Problem, Trip, IsRun, begins, goes, Leads, beginning, step}
use Rattle.move_errors.specs.Searching.{number, bit, pushed, Own, Reached, Brought, Settled, Visited}
use Rattle.move_errors.specs.declared.point.Point.{Point}
use Rattle.move_errors.proofs.Sorted.{here, there, none-in, first-or, all-in, in-all, step-mono, step-more, in-pushed, stays-pushed, leads-pushed, ordered-pushed}

module _ (f : Problem) (law : Own f) where
  pub run-width : (t : Trip) → IsRun f t → length t.row ≡ f.width
  run-width _ begins = law.starts
  run-width _ (goes t choice to run clean leads) = law.keeps t.at t.row (run-width t run)

  bit-within : (row : Bits) (i : ℕ) → length row ≡ f.width → bit row i ≡ true → i < f.width
  bit-within row i long on = elim (cases_lt i f.width) [
    | inl less ↦ less
    | inr past ↦ absurd (false≢true (sym (get_or-eq_default row false (omega (past, long, arith))) ∙ on))
  ]

  -- one that waits, of no greater number
  abbrev pub Waits : List Trip → ℕ → Type 0
  Waits waiting most = (z : Trip) × Contains waiting z × (number z ≤ most)

  module _ (done waiting : List Trip) (v : Visited f done waiting) where
    -- a visited run goes on as another from the same point does
    further : (t y : Trip) (choice : Option Bool) (to : Point) → Leads (f.onward t.at) choice to → Contains done y → y.at ≡ t.at → number y ≤ number t
        → Waits waiting (number (step f t choice to)) ⊎ Settled f done (step f y choice to)
    further t y choice to leads has same less =
        elim (v.goes_on y choice to has (subst (λ (z : Point). Leads (f.onward z) choice to) (sym same) leads)) [
          | inl settled ↦ inr settled
          | inr waits ↦ inl (step f y choice to, waits, step-mono f y t choice to less)
        ]

    reach-run : (u : Trip) → IsRun f u → Waits waiting (number u) ⊎ Reached f done u.at (number u)
    reach-run _ begins = elim v.began [
      | inl settled ↦ inr settled.reached
      | inr waits ↦ inl (beginning f, waits, omega arith)
    ]
    reach-run _ (goes t choice to run clean leads) = elim (reach-run t run) [
      | inl w ↦ inl (w.0, w.1, (let k = step-more f t choice to in let l = w.2 in omega (k, l, arith)))
      | inr r ↦ elim (further t r.by choice to leads r.has r.there r.less) [
        | inl w ↦ inl w
        | inr settled ↦ inr (record {
          by = settled.reached.by;
          has = settled.reached.has;
          there = settled.reached.there;
          less = (let k = settled.reached.less in let l = step-mono f r.by t choice to r.less in omega (k, l, arith));
        })
      ]
    ]

    bit-run : (u : Trip) → IsRun f u → (i : ℕ) → bit u.row i ≡ true → Waits waiting (number u) ⊎ Brought f done u.at (number u) i
    bit-run _ begins i on = elim v.began [
      | inl settled ↦ inr (settled.brought i on)
      | inr waits ↦ inl (beginning f, waits, omega arith)
    ]
    bit-run _ (goes t choice to run clean leads) i on =
        by (bit-run t run i) (law.pass_own t.at i (bit-within (f.pass t.at t.row) i (law.keeps t.at t.row (run-width t run)) on))
      where
        from : (y : Trip) → Contains done y → y.at ≡ t.at → number y ≤ number t → bit (f.pass t.at y.row) i ≡ true → Waits waiting (number (step f t choice to)) ⊎ Brought f done to (number (step f t choice to)) i
        from y has same less set = elim (further t y choice to leads has same less) [
          | inl w ↦ inl w
          | inr settled ↦ (let it = settled.brought i (subst (λ (z : Point). bit (f.pass z y.row) i ≡ true) (sym same) set) in
              inr (record {
                by = it.by;
                has = it.has;
                there = it.there;
                less = (let k = it.less in let l = step-mono f y t choice to less in omega (k, l, arith));
                on = it.on;
              }))
        ]

        waits : Waits waiting (number t) → Waits waiting (number (step f t choice to)) ⊎ Brought f done to (number (step f t choice to)) i
        waits w = inl (w.0, w.1, (let k = step-more f t choice to in let l = w.2 in omega (k, l, arith)))

        by : (bit t.row i ≡ true → Waits waiting (number t) ⊎ Brought f done t.at (number t) i)
            → ((b : Bool) × ((row : Bits) → length row ≡ f.width → bit (f.pass t.at row) i ≡ b)) ⊎ ((row : Bits) → length row ≡ f.width → bit (f.pass t.at row) i ≡ bit row i) → Waits waiting (number (step f t choice to)) ⊎ Brought f done to (number (step f t choice to)) i
        by again (inl always) = elim (reach-run t run) [
          | inl w ↦ waits w
          | inr r ↦ from r.by r.has r.there r.less
              (always.1 r.by.row (run-width r.by (v.runs r.by r.has)) ∙ sym (always.1 t.row (run-width t run)) ∙ on)
        ]
        by again (inr keeps) = elim (again (sym (keeps t.row (run-width t run)) ∙ on)) [
          | inl w ↦ waits w
          | inr r ↦ from r.by r.has r.there r.less (keeps r.by.row (run-width r.by (v.runs r.by r.has)) ∙ r.on)
        ]

    -- a run that meets a bad use is no lesser than one that waits
    pub bad-waits : (u : Trip) → IsRun f u → f.bad u.at u.row ≡ true → Waits waiting (number u)
    bad-waits u run bad = elim (law.bad_own u.at u.row (run-width u run) bad) [
      | inl always ↦ elim (reach-run u run) [
        | inl w ↦ w
        | inr r ↦ absurd (clash r.by r.has r.there (always r.by.row (run-width r.by (v.runs r.by r.has))))
      ]
      | inr some ↦ elim (bit-run u run some.0 some.1) [
        | inl w ↦ w
        | inr r ↦ absurd (clash r.by r.has r.there (some.2 r.by.row (run-width r.by (v.runs r.by r.has)) r.on))
      ]
    ]
      where
        clash : (y : Trip) → Contains done y → y.at ≡ u.at → f.bad u.at y.row ≡ true → ⊥
        clash y has same is = false≢true (sym (v.none_bad y has) ∙ subst (λ (z : Point). f.bad z y.row ≡ true) (sym same) is)

  -- where nothing waits, no run meets a bad use
  pub none-left : (done : List Trip) → Visited f done [] → (u : Trip) → IsRun f u → f.bad u.at u.row ≡ false
  none-left done v u run = by (f.bad u.at u.row) refl
    where
      by : (b : Bool) → f.bad u.at u.row ≡ b → b ≡ false
      by false e = refl
      by true e = absurd (none-in (bad-waits done [] v u run e).0 (bad-waits done [] v u run e).1)

  -- the first one that waits is the least
  pub first-least : (done : List Trip) (t : Trip) (ts : List Trip) → Visited f done (t ∷ ts) → (u : Trip) → IsRun f u → f.bad u.at u.row ≡ true → number t ≤ number u
  first-least done t ts v u run bad =
      let w = bad-waits done (t ∷ ts) v u run bad in
      elim (first-or w.0 t ts w.1) [
        | inl same ↦ (let k = ap number same in let l = w.2 in omega (k, l, arith))
        | inr later ↦ (let k = in-all (λ n. (number t < n) × (n < number t * 2)) ts w.0 v.order.0 later in let a = k.0 in let l = w.2 in omega (a, l, arith))
      ]

  -- the first that waits is settled already
  pub passed-over : (done : List Trip) (t : Trip) (ts : List Trip) → Visited f done (t ∷ ts) → Settled f done t → Visited f done ts
  passed-over done t ts v settled = record {
    runs = v.runs;
    waiting_runs = λ x has. v.waiting_runs x (there x t ts has);
    earlier = λ x has. (v.earlier x has).1;
    order = v.order.1;
    none_bad = v.none_bad;
    goes_on = λ x choice to has leads. either (step f x choice to) (v.goes_on x choice to has leads);
    began = either (beginning f) v.began;
  }
    where
      either : (x : Trip) → Settled f done x ⊎ Contains (t ∷ ts) x → Settled f done x ⊎ Contains ts x
      either x (inl s) = inl s
      either x (inr has) = elim (first-or x t ts has) [ inl same ↦ inl (subst (Settled f done) same settled) | inr later ↦ inr later ]

  -- the first that waits is visited, and goes on
  pub goes-further : (done : List Trip) (t : Trip) (ts : List Trip) → Visited f done (t ∷ ts) → f.bad t.at t.row ≡ false → Visited f (done ++ t ∷ []) (pushed f (f.onward t.at) t ts)
  goes-further done t ts v clean = record {
    runs = λ x has. elim (among x has) [ inl old ↦ v.runs x old | inr new ↦ subst (IsRun f) new run ];
    waiting_runs = λ x has. elim (in-pushed f (f.onward t.at) t ts x has) [
      | inl old ↦ v.waiting_runs x (there x t ts old)
      | inr new ↦ subst (IsRun f) new.3 (goes t new.0 new.1 run clean new.2)
    ];
    earlier = λ x has. all-in (λ n. number x ≤ n) (pushed f (f.onward t.at) t ts) (λ y there. before x y has there);
    order = ordered-pushed f (f.onward t.at) t ts v.order;
    none_bad = λ x has. elim (among x has) [ inl old ↦ v.none_bad x old | inr new ↦ subst (λ (z : Trip). f.bad z.at z.row ≡ false) new clean ];
    goes_on = λ x choice to has leads. elim (among x has) [
      | inl old ↦ either (step f x choice to) (v.goes_on x choice to old leads)
      | inr new ↦ inr (subst (λ (z : Trip). Contains (pushed f (f.onward t.at) t ts) (step f z choice to)) new
          (leads-pushed f (f.onward t.at) t ts choice to (subst (λ (z : Trip). Leads (f.onward z.at) choice to) (sym new) leads)))
    ];
    began = either (beginning f) v.began;
  }
    where
      all : List Trip
      all = done ++ t ∷ []

      among : (x : Trip) → Contains (done ++ t ∷ []) x → Contains done x ⊎ (t ≡ x)
      among x has = elim (Contains-append_cases done (t ∷ []) x has) [
        | inl old ↦ inl old
        | inr last ↦ elim (first-or x t [] last) [ inl same ↦ inr same | inr stop ↦ absurd (none-in x stop) ]
      ]

      kept : (x : Trip) → Contains done x → Contains (done ++ t ∷ []) x
      kept x has = Contains-append_left done (t ∷ []) x has

      last : Contains (done ++ t ∷ []) t
      last = Contains-append_right done (t ∷ []) t (here t [])

      run : IsRun f t
      run = v.waiting_runs t (here t ts)

      -- of no greater number than the first that waits
      up-to : (x : Trip) → Contains (done ++ t ∷ []) x → number x ≤ number t
      up-to x has = elim (among x has) [ inl old ↦ (v.earlier x old).0 | inr new ↦ (let k = ap number new in omega (k, arith)) ]

      before : (x y : Trip) → Contains (done ++ t ∷ []) x → Contains (pushed f (f.onward t.at) t ts) y → number x ≤ number y
      before x y has at = elim (in-pushed f (f.onward t.at) t ts y at) [
        | inl old ↦ (let k = in-all (λ n. (number t < n) × (n < number t * 2)) ts y v.order.0 old in let a = k.0 in let b = up-to x has in omega (a, b, arith))
        | inr new ↦ (let a = step-more f t new.0 new.1 in let e = ap number new.3 in let b = up-to x has in omega (a, e, b, arith))
      ]

      settled : (x : Trip) → Settled f done x → Settled f (done ++ t ∷ []) x
      settled x s = record {
        reached = record { by = s.reached.by; has = kept s.reached.by s.reached.has; there = s.reached.there; less = s.reached.less };
        brought = λ i on. (let it = s.brought i on in record { by = it.by; has = kept it.by it.has; there = it.there; less = it.less; on = it.on });
      }

      itself : Settled f (done ++ t ∷ []) t
      itself = record {
        reached = record { by = t; has = last; there = refl; less = omega arith };
        brought = λ i on. record { by = t; has = last; there = refl; less = omega arith; on = on };
      }

      either : (x : Trip) → Settled f done x ⊎ Contains (t ∷ ts) x → Settled f (done ++ t ∷ []) x ⊎ Contains (pushed f (f.onward t.at) t ts) x
      either x (inl s) = inl (settled x s)
      either x (inr has) = elim (first-or x t ts has) [
        | inl same ↦ inl (subst (Settled f (done ++ t ∷ [])) same itself)
        | inr later ↦ inr (stays-pushed f (f.onward t.at) t ts x later)
      ]

  -- at the beginning
  pub begun : Visited f [] (beginning f ∷ [])
  begun = record {
    runs = λ x has. absurd (none-in x has);
    waiting_runs = λ x has. elim (first-or x (beginning f) [] has) [ inl same ↦ subst (IsRun f) same begins | inr stop ↦ absurd (none-in x stop) ];
    earlier = λ x has. absurd (none-in x has);
    order = (tt, tt);
    none_bad = λ x has. absurd (none-in x has);
    goes_on = λ x choice to has leads. absurd (none-in x has);
    began = inr (here (beginning f) []);
  }
