-- Each path of a body is run, up to its first bad use.
use Rattle.std.proofs.Common.{◌≡◌, ◌⊎◌, inl, inr, ℕ, zero, suc, ◌+◌, ◌*◌, ◌<◌, ◌≤◌, Bool, true, false, if◌then◌else◌, List, [], ◌∷◌, ◌++◌, map, length, Option, Some, None, slice_get, Contains, refl, sym, ap, subst, ◌∙◌, arith}
use Rattle.std.specs.Option.{option_map_or, is_some}
use Rattle.std.proofs.lemmas.Bool.{false≢true, lt-ltb}
use Rattle.std.proofs.lemmas.Option.{none-some, same_Some, slice_get_within}
use Rattle.std.proofs.lemmas.List.{append-nil, append_assoc, append_cancel_right, append_cancel_left}
use Rattle.mir_ty.specs.ItemTable.{ItemTable}
use Rattle.cfg_graph.specs.declared.graph.Block.{Block}
use Rattle.cfg_graph.specs.declared.graph.Body.{Body}
use Rattle.cfg_graph.specs.Edges.{is_turn}
use Rattle.cfg_graph.specs.Moves.Actions.{actions_on}
use Rattle.cfg_graph.specs.Moves.BadUses.{BadUse, bad_uses_on}
use Rattle.cfg_graph.specs.Moves.Gone.{PathAction}
use Rattle.cfg_graph.specs.Moves.Paths.{IsPath}
use Rattle.init_flow.specs.Carried.{Bits, last_of}
use Rattle.init_flow.specs.Ways.{target}
use Rattle.init_flow.proofs.Along.{actions_in, actions_between}
use Rattle.move_paths.specs.Forest.{PathForest}
use Rattle.move_errors.specs.Reaches.{first_bad, Reaches, MeetsNone}
use Rattle.move_errors.specs.Rows.{first_by, IsWatched}
use Rattle.move_errors.specs.Runs.{Problem, Trip, IsRun, begins, goes, Leads, step, beginning, problem, optional, number_of, point, acts_at, at_line, stmt_actions, entered, arrived, onward_from}
use Rattle.move_errors.specs.Searching.{number, number_from}
use Rattle.move_errors.specs.Stands.{MeetsNoBad}
use Rattle.move_errors.specs.declared.point.Point.{Point}
use Rattle.move_errors.specs.declared.point.Stage.{Stage}
use Rattle.move_errors.specs.declared.point.Onward.{Onward}
use Rattle.move_errors.proofs.Sorted.{there, none-in, first-or, number-append}
use Rattle.cfg_graph.specs.Uses.{term_uses}
use Rattle.move_errors.proofs.Using.{acts-used, inside-are}
use Rattle.move_errors.proofs.Rowing.{Both, none, some, both, meets-none}
use Rattle.move_errors.proofs.Pathways.{actions-snoc, ends, entry_choices, choices_between, along, leaves-by, between-way, in-flat, in-map}
use Rattle.move_errors.proofs.Meeting.{Comes, told, past, stored-is}

grows : (n : ℕ) (xs : List Bool) → n ≤ number_from n xs
grows n [] = omega arith
grows n (x ∷ xs) = let k = grows (n * 2 + number_of x) xs in omega (k, arith)

pub more-number : (xs ys : List Bool) → number_from 1 xs ≤ number_from 1 (xs ++ ys)
more-number xs ys = let k = number-append 1 xs ys in let l = grows (number_from 1 xs) ys in omega (k, l, arith)

some-first : (blocks : List Block) → 0 < length blocks → (block : Block) × (slice_get blocks 0 ≡ Some block)
some-first [] within = absurd (omega (within, arith))
some-first (block ∷ blocks) within = (block, refl)

module _ (items : ItemTable) (body : Body) (forest : PathForest) (below : List Bits) (watched : IsWatched items body forest below) where
  abbrev f : Problem
  f = problem items body forest.paths

  -- a run of no greater number meets a bad use
  abbrev pub BadSoon : ℕ → Type 0
  BadSoon most = (v : Trip) × IsRun f v × (f.bad v.at v.row ≡ true) × (number v ≤ most)

  pub record AtEnd (path : List ℕ) (given : List Bool) (n : ℕ) : Type 0 where
    pub by : Trip
    pub run : IsRun f by
    pub at : by.at ≡ point n Stage.Inside
    pub path_is : by.path ≡ path
    pub given_is : by.given ≡ given

  -- the last block does not exist
  abbrev pub Lost : List ℕ → ℕ → Type 0
  Lost path n = (slice_get body.blocks n ≡ None) × (first_bad items body [] (actions_on body path) ≡ None)

  abbrev Outcome : List ℕ → List Bool → ℕ → Type 0
  Outcome path given n = BadSoon (number_from 1 given) ⊎ (AtEnd path given n ⊎ Lost path n)

  -- the choice of the entry to a block
  entry : (m : ℕ) (block : Block) → slice_get body.blocks m ≡ Some block
      → (choice : Option Bool) × Leads (onward_from items body m Stage.Entry) choice (point m Stage.Inside) × (optional choice ≡ entry_choices items body m)
  entry m block at = by (is_turn block) refl
    where
      so : (b : Bool) → is_turn block ≡ b → entry_choices items body m ≡ (elim b [ true ↦ false ∷ [] | false ↦ [] ])
      so b e = ap (λ (z : Option Block). elim (option_map_or is_turn z false) [ true ↦ false ∷ [] | false ↦ [] ]) at ∙ ap (λ (z : Bool). elim z [ true ↦ false ∷ [] | false ↦ [] ]) e

      by : (b : Bool) → is_turn block ≡ b
          → (choice : Option Bool) × Leads (onward_from items body m Stage.Entry) choice (point m Stage.Inside) × (optional choice ≡ entry_choices items body m)
      by true e = (
        Some false,
        subst (λ (z : Option Block). Leads (entered m z) (Some false) (point m Stage.Inside)) (sym at)
            (subst (λ (z : Bool). Leads (if z then Onward.Choices (Some (point m Stage.Inside)) None else Onward.Silent (point m Stage.Inside)) (Some false) (point m Stage.Inside)) (sym e) (inl (refl, refl))),
        sym (so true e),
      )
      by false e = (
        None,
        subst (λ (z : Option Block). Leads (entered m z) None (point m Stage.Inside)) (sym at)
            (subst (λ (z : Bool). Leads (if z then Onward.Choices (Some (point m Stage.Inside)) None else Onward.Silent (point m Stage.Inside)) None (point m Stage.Inside)) (sym e) (refl, refl)),
        sym (so false e),
      )

  arrival : (n m : ℕ) (k : Bool) → target items body n (number_of k) ≡ Some m → m < length body.blocks → Leads (onward_from items body n (Stage.Leaving k)) None (point m Stage.Entry)
  arrival n m k to within =
      subst (λ (z : Option ℕ). Leads (arrived (length body.blocks) z) None (point m Stage.Entry)) (sym to)
      (subst (λ (z : Bool). Leads (if z then Onward.Silent (point m Stage.Entry) else Onward.Nowhere) None (point m Stage.Entry)) (sym (lt-ltb m (length body.blocks) within)) (refl, refl))

  pub none-inside : (m : ℕ) → slice_get body.blocks m ≡ None → actions_on body (m ∷ []) ≡ []
  none-inside m e = inside-are body m ∙ ap (λ (z : Option Block). option_map_or (λ block. stmt_actions m 0 block.stmts ++ at_line m (length block.stmts) (term_uses block.term)) z []) e

  module _ (t : Trip) (n m : ℕ) (k : Bool) (choice : Option Bool) (run : IsRun f t) (at : t.at ≡ point n Stage.Inside) (clean : f.bad t.at t.row ≡ false)
      (leads : Leads (onward_from items body n Stage.Inside) choice (point n (Stage.Leaving k))) (to : target items body n (number_of k) ≡ Some m) where
    -- the run on the way out of its block
    abbrev out : Trip
    out = step f t choice (point n (Stage.Leaving k))

    out-run : IsRun f out
    out-run = goes t choice (point n (Stage.Leaving k)) run clean (subst (λ (z : Point). Leads (onward_from items body z.block z.stage) choice (point n (Stage.Leaving k))) (sym at) leads)

    -- to a block that does not exist
    lost : f.bad out.at out.row ≡ false → slice_get body.blocks m ≡ None → first_bad items body [] (actions_on body (t.path ++ m ∷ [])) ≡ None
    lost fine missing =
        let it = told items body forest below watched out out-run in
        let p = past items body forest below watched out it fine in
        let same : it.comes.4 ≡ m = same_Some it.comes.4 m (sym it.comes.11 ∙ to) in
        let stored : acts_at items body n (Stage.Leaving k) ≡ actions_between body n m = stored-is items body forest below watched n m k to in
        let path : t.path ≡ it.comes.0 ++ n ∷ [] = sym (append-nil t.path) ∙ it.comes.1 in
        let earlier : it.earlier ≡ actions_on body (it.comes.0 ++ n ∷ []) = it.comes.7 ∙ ap (actions_on body) it.comes.1 in
        ap (λ (z : List ℕ). first_bad items body [] (actions_on body (z ++ m ∷ []))) path
        ∙ ap (first_bad items body []) (actions-snoc body it.comes.0 n m ∙ ap (λ (z : List PathAction). (actions_on body (it.comes.0 ++ n ∷ []) ++ actions_between body n m) ++ z) (none-inside m missing)
        ∙ append-nil (actions_on body (it.comes.0 ++ n ∷ []) ++ actions_between body n m) ∙ (λ i. sym earlier i ++ sym stored i))
        ∙ p.clean

    module _ (block : Block) (there : slice_get body.blocks m ≡ Some block) (fine : f.bad out.at out.row ≡ false) where
      abbrev before : Trip
      before = step f out None (point m Stage.Entry)

      before-run : IsRun f before
      before-run = goes out None (point m Stage.Entry) out-run fine (arrival n m k to (slice_get_within body.blocks m block there))

      abbrev within : Trip
      within = step f before (entry m block there).0 (point m Stage.Inside)

      within-run : IsRun f within
      within-run = goes before (entry m block there).0 (point m Stage.Inside) before-run refl (entry m block there).1

      within-path : within.path ≡ t.path ++ m ∷ []
      within-path = ap (λ (z : List ℕ). z ++ m ∷ []) (append-nil (t.path ++ []) ∙ append-nil t.path)

      within-given : within.given ≡ (t.given ++ optional choice) ++ entry_choices items body m
      within-given = (λ i. append-nil (t.given ++ optional choice) i ++ (entry m block there).2 i)

  -- along a path from a block on
  pub onwards : (rest : List ℕ) (t : Trip) (n : ℕ) (more : List Bool) → IsRun f t → t.at ≡ point n Stage.Inside → Contains (along items body n rest) more
      → Outcome (t.path ++ rest) (t.given ++ more) (last_of n rest)
  onwards [] t n more run at has = elim (first-or more [] [] has) [
    | inl same ↦ inr (inl (record { by = t; run = run; at = at; path_is = sym (append-nil t.path); given_is = sym (append-nil t.given) ∙ ap (λ (z : List Bool). t.given ++ z) same }))
    | inr stop ↦ absurd (none-in more stop)
  ]
  onwards (m ∷ rest) t n more run at has =
      let one = in-flat (λ given. map (λ rest. given ++ entry_choices items body m ++ rest) (along items body m rest)) (choices_between items body n m) more has in
      let two = in-map (λ (rest : List Bool). one.0 ++ entry_choices items body m ++ rest) (along items body m rest) more one.2 in
      let way = between-way items body n m one.0 one.1 in
      let by = leaves-by items body n m way.0 one.0 way.1 way.2 in
      go by.0 by.1 one.0 two.0 by.2.0 by.2.1 by.2.2 two.1 two.2 (f.bad t.at t.row) refl (λ x at_x run_x. onwards rest x m two.0 run_x at_x two.1)
    where
      go : (k : Bool) (choice : Option Bool) (choices later : List Bool) → Leads (onward_from items body n Stage.Inside) choice (point n (Stage.Leaving k))
          → target items body n (number_of k) ≡ Some m → choices ≡ optional choice → Contains (along items body m rest) later → (choices ++ entry_choices items body m) ++ later ≡ more
          → (b : Bool) → f.bad t.at t.row ≡ b
          → ((x : Trip) → x.at ≡ point m Stage.Inside → IsRun f x → Outcome (x.path ++ rest) (x.given ++ later) (last_of m rest))
          → Outcome (t.path ++ m ∷ rest) (t.given ++ more) (last_of m rest)
      go k choice choices later leads to is has_later whole true e again = inl (t, run, e, more-number t.given more)
      go k choice choices later leads to is has_later whole false e again = next (f.bad (out t n m k choice run at e leads to).at (out t n m k choice run at e leads to).row) refl (slice_get body.blocks m) refl
        where
          so-far : ((t.given ++ optional choice) ++ entry_choices items body m) ++ later ≡ t.given ++ more
          so-far =
              ap (λ (z : List Bool). z ++ later) (append_assoc t.given (optional choice) (entry_choices items body m))
              ∙ append_assoc t.given (optional choice ++ entry_choices items body m) later
              ∙ ap (λ (z : List Bool). t.given ++ ((z ++ entry_choices items body m) ++ later)) (sym is) ∙ ap (λ (z : List Bool). t.given ++ z) whole

          soon : number_from 1 (t.given ++ optional choice) ≤ number_from 1 (t.given ++ more)
          soon =
              let k1 = more-number (t.given ++ optional choice) (entry_choices items body m) in
              let k2 = more-number ((t.given ++ optional choice) ++ entry_choices items body m) later in
              let same = ap (number_from 1) so-far in
              omega (k1, k2, same, arith)

          next : (b : Bool) → f.bad (out t n m k choice run at e leads to).at (out t n m k choice run at e leads to).row ≡ b → (o : Option Block) → slice_get body.blocks m ≡ o
              → Outcome (t.path ++ m ∷ rest) (t.given ++ more) (last_of m rest)
          next true bad o there = inl (out t n m k choice run at e leads to, out-run t n m k choice run at e leads to, bad, soon)
          next false fine None missing = ends-there rest has_later refl
            where
              ends-there : (path : List ℕ) → Contains (along items body m path) later → rest ≡ path → Outcome (t.path ++ m ∷ rest) (t.given ++ more) (last_of m rest)
              ends-there [] has_it same =
                  inr (inr (
                    ap (λ (z : List ℕ). slice_get body.blocks (last_of m z)) same ∙ missing,
                    ap (λ (z : List ℕ). first_bad items body [] (actions_on body (t.path ++ m ∷ z))) same ∙ lost t n m k choice run at e leads to fine missing,
                  ))
              ends-there (j ∷ path) has_it same =
                  let one = in-flat (λ given. map (λ rest. given ++ entry_choices items body j ++ rest) (along items body j path)) (choices_between items body m j) later has_it in
                  let way = between-way items body m j one.0 one.1 in
                  absurd (none-some way.0 (sym missing ∙ way.1))
          next false fine (Some block) there = elim (again (within t n m k choice run at e leads to block there fine) refl (within-run t n m k choice run at e leads to block there fine)) [
            | inl bad ↦ inl (bad.0, bad.1, bad.2, (let l = bad.3 in let same = ap (number_from 1) given_is in omega (l, same, arith)))
            | inr more_out ↦ elim more_out [
              | inl end ↦ inr (inl (record { by = end.by; run = end.run; at = end.at; path_is = end.path_is ∙ path_is; given_is = end.given_is ∙ given_is }))
              | inr gone ↦ inr (inr (gone.0, ap (λ (z : List ℕ). first_bad items body [] (actions_on body z)) (sym path_is) ∙ gone.1))
            ]
          ]
            where
              path_is : (within t n m k choice run at e leads to block there fine).path ++ rest ≡ t.path ++ m ∷ rest
              path_is = ap (λ (z : List ℕ). z ++ rest) (within-path t n m k choice run at e leads to block there fine) ∙ append_assoc t.path (m ∷ []) rest

              given_is : (within t n m k choice run at e leads to block there fine).given ++ later ≡ t.given ++ more
              given_is = ap (λ (z : List Bool). z ++ later) (within-given t n m k choice run at e leads to block there fine) ∙ so-far

  -- along a path
  pub along-path : (path : List ℕ) (given : List Bool) → IsPath items body path given → (n : ℕ) × ((front : List ℕ) (last : ℕ) → path ≡ front ++ last ∷ [] → n ≡ last) × Outcome path given n
  along-path [] given path = absurd (none-in given path)
  along-path (suc k ∷ rest) given path = absurd (none-in given path)
  along-path (zero ∷ rest) given path =
      let it = in-map (λ (rest : List Bool). entry_choices items body 0 ++ rest) (along items body 0 rest) given path in
      let some = some-first body.blocks watched.some_block in
      let e = entry 0 some.0 some.1 in
      let run : IsRun f (step f (beginning f) e.0 (point 0 Stage.Inside)) = goes (beginning f) e.0 (point 0 Stage.Inside) begins refl e.1 in
      let given_is : optional e.0 ++ it.0 ≡ given = ap (λ (z : List Bool). z ++ it.0) e.2 ∙ it.2 in (
        last_of 0 rest,
        λ front last is. ap (last_of 0) is ∙ ends 0 front last,
        subst (λ (z : List Bool). Outcome (zero ∷ rest) z (last_of 0 rest)) given_is (onwards rest (step f (beginning f) e.0 (point 0 Stage.Inside)) 0 it.0 run refl it.1),
      )

  -- where no run meets a bad use, no path does
  pub accepts : MeetsNoBad f → MeetsNone items body
  accepts clean path given is_path = by (along-path path given is_path).2
    where
      n : ℕ
      n = (along-path path given is_path).0

      by : Outcome path given (along-path path given is_path).0 → bad_uses_on items body path ≡ []
      by (inl bad) = absurd (false≢true (sym (clean bad.0 bad.1) ∙ bad.2))
      by (inr (inr lost)) = meets-none items body path lost.1
      by (inr (inl end)) = at-end end.by end.run (along-path path given is_path).0 end.at end.path_is
        where
          at-end : (u : Trip) → IsRun f u → (n : ℕ) → u.at ≡ point n Stage.Inside → u.path ≡ path → bad_uses_on items body path ≡ []
          at-end u run n at same =
              let it = told items body forest below watched u run in
              let p = past items body forest below watched u it (clean u run) in
              let comes = subst (λ (z : Point). Comes items body forest below watched z.block z.stage u.path u.given it.earlier) at it.comes in
              meets-none items body path
              (ap (first_bad items body []) (ap (actions_on body) (sym same) ∙ comes.3 ∙ ap (λ (z : Point). it.earlier ++ acts_at items body z.block z.stage) (sym at)) ∙ p.clean)

  -- a run at the end of a path meets what the path meets there
  bad-at : (u : Trip) → IsRun f u → (n : ℕ) (earlier : List PathAction) (bad : BadUse) → u.at ≡ point n Stage.Inside
      → actions_on body u.path ≡ earlier ++ actions_on body (n ∷ []) → first_bad items body earlier (actions_on body (n ∷ [])) ≡ Some bad → f.bad u.at u.row ≡ true
  bad-at u run n earlier bad at path is = by (both items body forest below watched (told items body forest below watched u run).earlier (actions_on body (n ∷ [])) (told items body forest below watched u run).used (acts-used items body n Stage.Inside))
    where
      same : (told items body forest below watched u run).earlier ≡ earlier
      same =
          let it = told items body forest below watched u run in
          let comes = subst (λ (z : Point). Comes items body forest below watched z.block z.stage u.path u.given it.earlier) at it.comes in
          append_cancel_right it.earlier earlier (actions_on body (n ∷ [])) (sym comes.3 ∙ path)

      by : Both items body forest below watched (told items body forest below watched u run).earlier (actions_on body (n ∷ [])) → f.bad u.at u.row ≡ true
      by (none plain rows next) = absurd (none-some bad (sym plain ∙ ap (λ (z : List PathAction). first_bad items body z (actions_on body (n ∷ []))) same ∙ is))
      by (some a plain rows) =
          ap (λ (z : Point). f.bad z u.row) at ∙ ap (λ (r : Bits). is_some (first_by items body forest.paths (actions_on body (n ∷ [])) r)) (told items body forest below watched u run).row ∙ ap is_some rows

  bad-on-way : (u : Trip) → IsRun f u → (n m : ℕ) (k : Bool) (bad : BadUse) → u.at ≡ point n (Stage.Leaving k) → target items body n (number_of k) ≡ Some m
      → first_bad items body (actions_on body u.path) (actions_between body n m) ≡ Some bad → f.bad u.at u.row ≡ true
  bad-on-way u run n m k bad at to is = by (both items body forest below watched (told items body forest below watched u run).earlier (acts_at items body n (Stage.Leaving k)) (told items body forest below watched u run).used (acts-used items body n (Stage.Leaving k)))
    where
      same : (told items body forest below watched u run).earlier ≡ actions_on body u.path
      same =
          let it = told items body forest below watched u run in
          let comes = subst (λ (z : Point). Comes items body forest below watched z.block z.stage u.path u.given it.earlier) at it.comes in
          comes.7

      by : Both items body forest below watched (told items body forest below watched u run).earlier (acts_at items body n (Stage.Leaving k)) → f.bad u.at u.row ≡ true
      by (none plain rows next) = absurd (none-some bad (sym plain ∙ (λ i. first_bad items body (same i) (stored-is items body forest below watched n m k to i)) ∙ is))
      by (some a plain rows) =
          ap (λ (z : Point). f.bad z u.row) at ∙ ap (λ (r : Bits). is_some (first_by items body forest.paths (acts_at items body n (Stage.Leaving k)) r)) (told items body forest below watched u run).row ∙ ap is_some rows

  -- what reaches a bad use has no lesser number than a run that meets one
  pub reached-soon : (path : List ℕ) (given : List Bool) (bad : BadUse) → Reaches items body path given bad → BadSoon (number_from 1 given)
  reached-soon path given bad (inl r) = by (along-path path given r.is_path).2
    where
      last : (along-path path given r.is_path).0 ≡ r.last
      last = (along-path path given r.is_path).1 r.front r.last r.path_is

      by : Outcome path given (along-path path given r.is_path).0 → BadSoon (number_from 1 given)
      by (inl soon) = soon
      by (inr (inl end)) = (
        end.by,
        end.run,
        bad-at end.by end.run r.last r.earlier bad (end.at ∙ ap (λ (n : ℕ). point n Stage.Inside) last) (ap (actions_on body) end.path_is ∙ r.before) r.first,
        (let e = ap (number_from 1) end.given_is in omega (e, arith)),
      )
      by (inr (inr lost)) = absurd (none-some bad (ap (first_bad items body r.earlier) (sym (none-inside r.last (ap (slice_get body.blocks) (sym last) ∙ lost.0))) ∙ r.first))
  reached-soon path given bad (inr r) = by (along-path path r.before r.is_path).2
    where
      last : (along-path path r.before r.is_path).0 ≡ r.last
      last = (along-path path r.before r.is_path).1 r.front r.last r.path_is

      less : number_from 1 r.before ≤ number_from 1 given
      less = let k = more-number r.before r.choices in let e = ap (number_from 1) r.given_is in omega (k, e, arith)

      stored : r.stored ≡ actions_between body r.last r.next
      stored = append_cancel_left (actions_in body r.last) r.stored (actions_between body r.last r.next)
          (append_cancel_right (actions_in body r.last ++ r.stored) (actions_in body r.last ++ actions_between body r.last r.next) (actions_on body (r.next ∷ [])) (sym r.stores))

      at-end : (u : Trip) → IsRun f u → u.at ≡ point r.last Stage.Inside → u.path ≡ path → u.given ≡ r.before → (b : Bool) → f.bad u.at u.row ≡ b → BadSoon (number_from 1 given)
      at-end u run at path_is given_is true e = (u, run, e, (let k = less in let same = ap (number_from 1) given_is in omega (k, same, arith)))
      at-end u run at path_is given_is false e =
          let it = leaves-by items body r.last r.next r.block r.choices r.there r.way in
          let next : Trip = out u r.last r.next it.0 it.1 run at e it.2.0 it.2.1 in
          let ran = out-run u r.last r.next it.0 it.1 run at e it.2.0 it.2.1 in (
            next,
            ran,
            bad-on-way next ran r.last r.next it.0 bad refl it.2.1
                ((λ i. first_bad items body (actions_on body ((append-nil u.path ∙ path_is) i)) (sym stored i)) ∙ r.first),
            (let same = ap (number_from 1) ((λ i. given_is i ++ sym it.2.2 i) ∙ sym r.given_is) in omega (same, arith)),
          )

      by : Outcome path r.before (along-path path r.before r.is_path).0 → BadSoon (number_from 1 given)
      by (inl soon) = (soon.0, soon.1, soon.2, (let k = less in let l = soon.3 in omega (k, l, arith)))
      by (inr (inl end)) = at-end end.by end.run (end.at ∙ ap (λ (n : ℕ). point n Stage.Inside) last) end.path_is end.given_is (f.bad end.by.at end.by.row) refl
      by (inr (inr lost)) = absurd (none-some r.block (sym (ap (slice_get body.blocks) (sym last) ∙ lost.0) ∙ r.there))
