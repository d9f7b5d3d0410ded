-- What a path meets, a free walk meets that is given its choices.
use Rattle.std.proofs.Common.{◌≡◌, inl, inr, ℕ, zero, suc, ◌<◌, Bool, true, false, ◌||◌, List, [], ◌∷◌, ◌++◌, map, length, Option, Some, None, slice_get, Contains, refl, sym, ap, subst, ◌∙◌, arith}
use Rattle.std.specs.List.{list_any, range_with_len}
use Rattle.std.specs.Option.{option_map_or}
use Rattle.std.proofs.lemmas.Bool.{false≢true}
use Rattle.std.proofs.lemmas.Option.{none-some, same_Some}
use Rattle.std.proofs.lemmas.List.{append-nil, append_assoc, append_cancel_left, append_cancel_right}
use Rattle.std.proofs.lemmas.List.Folds.{list_any-append}
use Rattle.mir_ty.specs.ItemTable.{ItemTable}
use Rattle.store_model.specs.Effects.{Infeasible, Out, Go, Halts, Effects}
use Rattle.store_model.specs.Abstract.Effects.{AbstractState, presence, at_start, next_choice}
use Rattle.store_model.specs.Abstract.Presence.{Presence}
use Rattle.cfg_graph.specs.declared.graph.Block.{Block}
use Rattle.cfg_graph.specs.declared.graph.Body.{Body}
use Rattle.cfg_graph.specs.declared.graph.Kind.{Kind}
use Rattle.cfg_graph.specs.Edges.{IsRanked, ToBlock, is_turn, is_turn_kind}
use Rattle.cfg_graph.specs.Uses.{term_uses}
use Rattle.cfg_graph.specs.Moves.Gone.{PathAction}
use Rattle.cfg_graph.specs.Moves.Actions.{actions_on}
use Rattle.cfg_graph.specs.Moves.Paths.{ways, IsPath}
use Rattle.cfg_graph.specs.Moves.BadUses.{BadUse}
use Rattle.cfg_meaning.specs.Programs.{free_walk}
use Rattle.cfg_meaning.specs.Walk.{Next, ◌>>=◌, does_block, does_turn, by_kind, if_there, walk}
use Rattle.cfg_meaning.proofs.FreeWalks.{free_walk_on}
use Rattle.init_flow.specs.Carried.{last_of}
use Rattle.init_flow.proofs.Along.{actions_in, actions_between, came, came-is}
use Rattle.move_errors.proofs.Pathways.{ends, in-flat, in-map, along, entry_choices, choices_between, between-way}
use Rattle.move_errors.proofs.Sorted.{none-in, first-or}
use Rattle.move_errors.specs.Reaches.{first_bad}
use Rattle.lower_laws.specs.Meets.{PanicsLeadElsewhere, halt_of, ends_runs, before_bad, RunsReach, in_block, on_way}
use Rattle.lower_laws.proofs.Blocks.{eff, LeavesBlock, block-performs, result-is}
use Rattle.lower_laws.proofs.Lines.{at_line, stmt_actions}
use Rattle.lower_laws.proofs.Leaving.{goes, stops, result_of, by_way}
use Rattle.lower_laws.proofs.Performing.{Tells, start-tells, none-first, none-rest, before-none, before-append, perform, Performed, on, met, ended, performed}

first-false : (a b : Bool) → (a || b) ≡ false → a ≡ false
first-false false b h = refl
first-false true b h = h

second-false : (a b : Bool) → (a || b) ≡ false → b ≡ false
second-false false b h = h
second-false true b h = absurd (false≢true (sym h))

none-inside : (body : Body) (n : ℕ) → slice_get body.blocks n ≡ None → actions_in body n ≡ []
none-inside body n missing = ap (λ (z : Option Block). option_map_or (λ block. stmt_actions n 0 block.stmts ++ at_line n (length block.stmts) (term_uses block.term)) z []) missing

no-shorter : {X : Type 0} (xs ys : List X) (n : ℕ) → length (xs ++ ys) < n → length ys < n
no-shorter [] ys n h = h
no-shorter (x ∷ xs) ys n h = no-shorter xs ys n (omega (h, arith))

module _ (items : ItemTable) (body : Body) (ranked : IsRanked body) (elsewhere : PanicsLeadElsewhere body) (node : ℕ → ℕ → ℕ) (fuel : ℕ) where
  abbrev effects_of : Effects AbstractState
  effects_of = eff items body elsewhere node

  abbrev next : Next AbstractState
  next = walk effects_of 0 node body fuel

  -- what a walk does within a block, past its entry
  abbrev inside : ℕ → AbstractState → Out AbstractState
  inside n w = if_there effects_of 0 node body (slice_get body.blocks n) n (λ block. does_block effects_of 0 node body n block next) w

  abbrev ends_any : List PathAction → Bool
  ends_any acts = list_any (ends_runs items body) acts

  any-first : (xs ys : List PathAction) → ends_any (xs ++ ys) ≡ false → ends_any xs ≡ false
  any-first xs ys h = first-false (ends_any xs) (ends_any ys) (sym (list_any-append (ends_runs items body) xs ys) ∙ h)

  any-rest : (xs ys : List PathAction) → ends_any (xs ++ ys) ≡ false → ends_any ys ≡ false
  any-rest xs ys h = second-false (ends_any xs) (ends_any ys) (sym (list_any-append (ends_runs items body) xs ys) ∙ h)

  abbrev with_left : AbstractState → List Bool → AbstractState
  with_left w left = record { cells = w.cells; choices = left }

  same-state : (w : AbstractState) (left : List Bool) → w.choices ≡ left → w ≡ with_left w left
  same-state w left e = λ i. record { cells = w.cells; choices = e i }

  abbrev zero_if : Bool → List Bool
  zero_if true = false ∷ []
  zero_if false = []

  enters : (n : ℕ) (w : AbstractState) (left : List Bool) → w.choices ≡ entry_choices items body n ++ left → length w.choices < fuel → next n w ≡ inside n (with_left w left)
  enters n w left e short = free_walk_on items (slice_get body.locals) 0 node body ranked fuel n w short ∙ by (slice_get body.blocks n) e
    where
      turn : (block : Block) (list : List Bool) → list ≡ false ∷ left
          → ◌>>=◌ (next_choice list w Go (Halts Infeasible)) (λ w. does_block effects_of 0 node body n block next w) ≡ does_block effects_of 0 node body n block next (with_left w left)
      turn block list e = ap (λ (z : List Bool). ◌>>=◌ (next_choice z w Go (Halts Infeasible)) (λ w. does_block effects_of 0 node body n block next w)) e

      so : (block : Block) (kind : Kind) → w.choices ≡ zero_if (is_turn_kind kind) ++ left
          → by_kind effects_of 0 node body kind n block (λ n. does_turn effects_of 0 node body n block next) (λ n. does_block effects_of 0 node body n block next) w
          ≡ does_block effects_of 0 node body n block next (with_left w left)
      so block Kind.Turn e = turn block w.choices e
      so block Kind.Plain e = ap (does_block effects_of 0 node body n block next) (same-state w left e)
      so block Kind.Cleanup e = ap (does_block effects_of 0 node body n block next) (same-state w left e)

      by : (o : Option Block) → w.choices ≡ zero_if (option_map_or is_turn o false) ++ left
          → if_there effects_of 0 node body o n
          (λ block. by_kind effects_of 0 node body block.kind n block (λ n. does_turn effects_of 0 node body n block next) (λ n. does_block effects_of 0 node body n block next)) w
          ≡ if_there effects_of 0 node body o n (λ block. does_block effects_of 0 node body n block next) (with_left w left)
      by None e = ap (if_there effects_of 0 node body None n (λ block. does_block effects_of 0 node body n block next)) (same-state w left e)
      by (Some block) e = so block block.kind e

  -- through a block without a bad use, and by a way out of it, up to the store of its result
  record Left (n m : ℕ) (w : AbstractState) (done : List PathAction) (left : List Bool) : Type 0 where
    u : AbstractState
    choices : u.choices ≡ left
    tells : Tells items body u (done ++ actions_in body n)
    is : inside n w ≡ perform items body node (actions_between body n m) (next m) u

  leave : (n m : ℕ) (block : Block) → slice_get body.blocks n ≡ Some block → (w : AbstractState) (done : List PathAction) → Tells items body w done
      → first_bad items body done (actions_in body n) ≡ None → ends_any (actions_in body n) ≡ false
      → (given left : List Bool) → Contains (ways items body block.term) (by_way given (ToBlock m)) → w.choices ≡ given ++ left
      → Left n m w done left
  leave n m block there w done tells clean lasts given left way e = by (block-performs items body elsewhere node n block there next done w tells)
    where
      out : Out AbstractState
      out = does_block effects_of 0 node body n block next w

      there_is : inside n w ≡ out
      there_is = ap (λ (o : Option Block). if_there effects_of 0 node body o n (λ block. does_block effects_of 0 node body n block next) w) there

      presence_in : ℕ → List (ℕ × Presence) → Presence
      presence_in local z = presence local z

      by : Performed items body node done (actions_in body n) (LeavesBlock items body elsewhere node n block next) w out → Left n m w done left
      by (met bad v is same some long) = absurd (none-some bad (sym clean ∙ some))
      by (ended fine end) = absurd (false≢true (sym lasts ∙ ap ends_any (sym (before-none items body done (actions_in body n) clean)) ∙ end))
      by (on v (stops s) told same none long) = absurd (s.no_way given m left way (same ∙ e))
      by (on v (goes choices k u by_it list cells is only out) told same none long) =
          let it = only given m left way (same ∙ e) in
          let taken : choices ++ u.choices ≡ choices ++ left = sym list ∙ same ∙ e ∙ ap (λ (z : List Bool). z ++ left) it.0 in record {
            u = u;
            choices = append_cancel_left choices u.choices left taken;
            tells = λ local. ap (λ z. presence_in local z) cells ∙ told local;
            is = there_is ∙ is ∙ (λ i. perform items body node (result_of items body node n (length block.stmts) next block.term (sym it.1 i)) (next (sym it.1 i)) u)
                ∙ ap (λ (z : List PathAction). perform items body node z (next m) u) (result-is items body elsewhere node n m block there next);
          }

  -- along a path, to its last block
  record Arrives (n : ℕ) (rest : List ℕ) (w : AbstractState) (done : List PathAction) (left : List Bool) : Type 0 where
    v : AbstractState
    is : inside n w ≡ inside (last_of n rest) v
    tells : Tells items body v (done ++ came body n rest)
    choices : v.choices ≡ left

  arrives : (rest : List ℕ) (n : ℕ) (w : AbstractState) (more left : List Bool) (done : List PathAction) → Contains (along items body n rest) more
      → Tells items body w done → w.choices ≡ more ++ left → length w.choices < fuel
      → first_bad items body done (came body n rest) ≡ None → ends_any (came body n rest) ≡ false → Arrives n rest w done left
  arrives [] n w more left done has tells e short clean lasts = elim (first-or more [] [] has) [
    | inl same ↦ record {
      v = w;
      is = refl;
      tells = subst (Tells items body w) (sym (append-nil done)) tells;
      choices = e ∙ ap (λ (z : List Bool). z ++ left) (sym same);
    }
    | inr stop ↦ absurd (none-in more stop)
  ]
  arrives (m ∷ rest) n w more left done has tells e short clean lasts =
      let one = in-flat (λ given. map (λ rest. given ++ entry_choices items body m ++ rest) (along items body m rest)) (choices_between items body n m) more has in
      let two = in-map (λ (rest : List Bool). one.0 ++ entry_choices items body m ++ rest) (along items body m rest) more one.2 in
      let way = between-way items body n m one.0 one.1 in
      go one.0 two.0 way.0 way.1 way.2 two.2 (λ v done told list short clean lasts. arrives rest m v two.0 left done two.1 told list short clean lasts)
    where
      both : List PathAction
      both = actions_in body n ++ actions_between body n m

      none-both : first_bad items body done both ≡ None
      none-both = none-first items body done both (came body m rest) clean

      lasts-both : ends_any both ≡ false
      lasts-both = any-first both (came body m rest) lasts

      go : (given later : List Bool) (block : Block) → slice_get body.blocks n ≡ Some block → Contains (ways items body block.term) (by_way given (ToBlock m))
          → given ++ entry_choices items body m ++ later ≡ more
          → ((v : AbstractState) (done : List PathAction) → Tells items body v done → v.choices ≡ later ++ left → length v.choices < fuel
          → first_bad items body done (came body m rest) ≡ None → ends_any (came body m rest) ≡ false → Arrives m rest v done left)
          → Arrives n (m ∷ rest) w done left
      go given later block there way whole again =
          store (leave n m block there w done tells (none-first items body done (actions_in body n) (actions_between body n m) none-both)
          (any-first (actions_in body n) (actions_between body n m) lasts-both) given ((entry_choices items body m ++ later) ++ left) way list)
        where
          list : w.choices ≡ given ++ ((entry_choices items body m ++ later) ++ left)
          list =
              e ∙ ap (λ (z : List Bool). z ++ left) (sym whole ∙ append_assoc given (entry_choices items body m) later)
              ∙ append_assoc given (entry_choices items body m ++ later) left

          short_left : length ((entry_choices items body m ++ later) ++ left) < fuel
          short_left = no-shorter given ((entry_choices items body m ++ later) ++ left) fuel (subst (λ (z : List Bool). length z < fuel) list short)

          store : Left n m w done ((entry_choices items body m ++ later) ++ left) → Arrives n (m ∷ rest) w done left
          store out = by (performed items body node (λ x o. o ≡ next m x) (next m) (λ x. refl) (actions_between body n m) (done ++ actions_in body n) out.u out.tells)
            where
              calm : first_bad items body (done ++ actions_in body n) (actions_between body n m) ≡ None
              calm = none-rest items body done (actions_in body n) (actions_between body n m) none-both

              long : ends_any (actions_between body n m) ≡ false
              long = any-rest (actions_in body n) (actions_between body n m) lasts-both

              by : Performed items body node (done ++ actions_in body n) (actions_between body n m) (λ x o. o ≡ next m x) out.u (perform items body node (actions_between body n m) (next m) out.u)
                  → Arrives n (m ∷ rest) w done left
              by (met bad x is same some free) = absurd (none-some bad (sym calm ∙ some))
              by (ended fine end) = absurd (false≢true (sym long ∙ ap ends_any (sym (before-none items body (done ++ actions_in body n) (actions_between body n m) calm)) ∙ end))
              by (on x is told same none free) =
                  let list_x : x.choices ≡ entry_choices items body m ++ (later ++ left) = same ∙ out.choices ∙ append_assoc (entry_choices items body m) later left in
                  let short_x : length x.choices < fuel = subst (λ (z : List Bool). length z < fuel) (sym (same ∙ out.choices)) short_left in
                  let entered = enters m x (later ++ left) list_x short_x in
                  let further = again (with_left x (later ++ left)) (done ++ both)
                  (subst (Tells items body (with_left x (later ++ left))) (append_assoc done (actions_in body n) (actions_between body n m)) told) refl
                  (no-shorter (entry_choices items body m) (later ++ left) fuel (subst (λ (z : List Bool). length z < fuel) list_x short_x))
                  (none-rest items body done both (came body m rest) clean) (any-rest both (came body m rest) lasts) in record {
                    v = further.v;
                    is = out.is ∙ is ∙ entered ∙ further.is;
                    tells = subst (Tells items body further.v) (append_assoc done both (came body m rest)) further.tells;
                    choices = further.choices;
                  }

-- From the start of a walk.

module _ (items : ItemTable) (body : Body) (ranked : IsRanked body) (elsewhere : PanicsLeadElsewhere body) (node : ℕ → ℕ → ℕ) where
  abbrev pub fuel_for : List Bool → ℕ
  fuel_for list = suc (length list)

  abbrev pub within : List Bool → ℕ → AbstractState → Out AbstractState
  within list = inside items body ranked elsewhere node (fuel_for list)

  pub record Reached (list : List Bool) (path : List ℕ) (left : List Bool) : Type 0 where
    pub rest : List ℕ
    pub path_is : path ≡ 0 ∷ rest
    pub come : first_bad items body [] (came body 0 rest) ≡ None → list_any (ends_runs items body) (came body 0 rest) ≡ false
        → (v : AbstractState) × (free_walk items node body list ≡ within list (last_of 0 rest) v) × Tells items body v (came body 0 rest) × (v.choices ≡ left)

  pub reached : (list : List Bool) (path : List ℕ) (used left : List Bool) → IsPath items body path used → list ≡ used ++ left → Reached list path left
  reached list [] used left has e = absurd (none-in used has)
  reached list (suc k ∷ rest) used left has e = absurd (none-in used has)
  reached list (zero ∷ rest) used left has e =
      let it = in-map (λ (rest : List Bool). entry_choices items body 0 ++ rest) (along items body 0 rest) used has in
      let start : list ≡ entry_choices items body 0 ++ (it.0 ++ left) = e ∙ ap (λ (z : List Bool). z ++ left) (sym it.2) ∙ append_assoc (entry_choices items body 0) it.0 left in
      let short : length list < fuel_for list = omega arith in record {
        rest = rest;
        path_is = refl;
        come = λ clean lasts.
            let there = arrives items body ranked elsewhere node (fuel_for list) rest 0 (record { cells = (at_start (range_with_len 1 body.params) list).cells; choices = it.0 ++ left }) it.0 left [] it.1
            (start-tells items body list) refl (no-shorter (entry_choices items body 0) (it.0 ++ left) (fuel_for list) (subst (λ (z : List Bool). length z < fuel_for list) start short)) clean lasts in (
              there.v,
              enters items body ranked elsewhere node (fuel_for list) 0 (at_start (range_with_len 1 body.params) list) (it.0 ++ left) start short ∙ there.is,
              there.tells,
              there.choices,
            );
      }

  -- the walk that is wanted
  abbrev Meets : List Bool → BadUse → List Bool → Type 0
  Meets list bad left = (w : AbstractState) × (free_walk items node body list ≡ Halts (halt_of node bad) w) × (w.choices ≡ left)

  -- in the last block
  last-meets : (list left : List Bool) (n : ℕ) (bad : BadUse) (v : AbstractState) (earlier : List PathAction)
      → free_walk items node body list ≡ within list n v → Tells items body v earlier → v.choices ≡ left
      → first_bad items body earlier (actions_in body n) ≡ Some bad
      → list_any (ends_runs items body) (before_bad items body earlier (actions_in body n)) ≡ false → Meets list bad left
  last-meets list left n bad v earlier is tells choices some lasts = by (slice_get body.blocks n) refl
    where
      by : (o : Option Block) → slice_get body.blocks n ≡ o → Meets list bad left
      by None missing = absurd (none-some bad (sym (ap (first_bad items body earlier) (none-inside body n missing)) ∙ some))
      by (Some block) there = go (block-performs items body elsewhere node n block there (walk (eff items body elsewhere node) 0 node body (fuel_for list)) earlier v tells)
        where
          go : Performed items body node earlier (actions_in body n) (LeavesBlock items body elsewhere node n block (walk (eff items body elsewhere node) 0 node body (fuel_for list))) v
              (does_block (eff items body elsewhere node) 0 node body n block (walk (eff items body elsewhere node) 0 node body (fuel_for list)) v) → Meets list bad left
          go (on x leaves told same none free) = absurd (none-some bad (sym none ∙ some))
          go (ended fine end) = absurd (false≢true (sym lasts ∙ end))
          go (met other x halts same found free) = (
            x,
            is ∙ ap (λ (o : Option Block). if_there (eff items body elsewhere node) 0 node body o n (λ block. does_block (eff items body elsewhere node) 0 node body n block (walk (eff items body elsewhere node) 0 node body (fuel_for list))) v) there
                ∙ halts ∙ ap (λ (b : BadUse). Halts (halt_of node b) x) (same_Some other bad (sym found ∙ some)),
            same ∙ choices,
          )

  -- on a way out of it
  way-meets : (list left given : List Bool) (n m : ℕ) (block : Block) (bad : BadUse) (v : AbstractState) (earlier : List PathAction) → slice_get body.blocks n ≡ Some block
      → free_walk items node body list ≡ within list n v → Tells items body v earlier → v.choices ≡ given ++ left
      → Contains (ways items body block.term) (by_way given (ToBlock m))
      → first_bad items body earlier (actions_in body n) ≡ None → list_any (ends_runs items body) (actions_in body n) ≡ false
      → first_bad items body (earlier ++ actions_in body n) (actions_between body n m) ≡ Some bad
      → list_any (ends_runs items body) (before_bad items body (earlier ++ actions_in body n) (actions_between body n m)) ≡ false → Meets list bad left
  way-meets list left given n m block bad v earlier there is tells choices way clean lasts some long =
      store (leave items body ranked elsewhere node (fuel_for list) n m block there v earlier tells clean lasts given left way choices)
    where
      store : Left items body ranked elsewhere node (fuel_for list) n m v earlier left → Meets list bad left
      store out =
          by (performed items body node (λ x o. Unit {0}) (walk (eff items body elsewhere node) 0 node body (fuel_for list) m) (λ x. tt) (actions_between body n m) (earlier ++ actions_in body n) out.u out.tells)
        where
          by : Performed items body node (earlier ++ actions_in body n) (actions_between body n m) (λ x o. Unit {0}) out.u
              (perform items body node (actions_between body n m) (walk (eff items body elsewhere node) 0 node body (fuel_for list) m) out.u) → Meets list bad left
          by (on x r told same none free) = absurd (none-some bad (sym none ∙ some))
          by (ended fine end) = absurd (false≢true (sym long ∙ end))
          by (met other x halts same found free) = (
            x,
            is ∙ out.is ∙ halts ∙ ap (λ (b : BadUse). Halts (halt_of node b) x) (same_Some other bad (sym found ∙ some)),
            same ∙ out.choices,
          )

  -- the last block of a path
  pub last-is : (front : List ℕ) (last : ℕ) (list : List Bool) (path : List ℕ) (left : List Bool) → path ≡ front ++ last ∷ [] → (it : Reached list path left) → last_of 0 it.rest ≡ last
  last-is front last list path left path_is it =
      ap (λ (z : List ℕ). elim z [ [] ↦ last | n ∷ more ↦ last_of n more ]) (sym it.path_is ∙ path_is) ∙ by_front front
    where
      by_front : (front : List ℕ) → (elim (front ++ last ∷ []) [ [] ↦ last | n ∷ more ↦ last_of n more ]) ≡ last
      by_front [] = refl
      by_front (n ∷ front) = ends n front last

  pub path-meets : (path : List ℕ) (given left : List Bool) (bad : BadUse) → RunsReach items body path given bad → Meets (given ++ left) bad left
  path-meets path given left bad (in_block r lasts) = by (reached (given ++ left) path given left r.is_path refl)
    where
      by : Reached (given ++ left) path left → Meets (given ++ left) bad left
      by it =
          let there = it.come (ap (first_bad items body []) (sym same) ∙ r.none) (any-first items body ranked elsewhere node 0 (came body 0 it.rest) (before_bad items body (came body 0 it.rest) (actions_on body (r.last ∷ []))) split) in
          last-meets (given ++ left) left r.last bad there.0 (came body 0 it.rest) (there.1 ∙ ap (λ (n : ℕ). within (given ++ left) n there.0) last) there.2 there.3
          (ap (λ (z : List PathAction). first_bad items body z (actions_in body r.last)) (sym same) ∙ r.first)
          (any-rest items body ranked elsewhere node 0 (came body 0 it.rest) (before_bad items body (came body 0 it.rest) (actions_on body (r.last ∷ []))) split)
        where
          last : last_of 0 it.rest ≡ r.last
          last = last-is r.front r.last (given ++ left) path left r.path_is it

          same : r.earlier ≡ came body 0 it.rest
          same =
              append_cancel_right r.earlier (came body 0 it.rest) (actions_on body (r.last ∷ []))
              (sym r.before ∙ ap (actions_on body) it.path_is ∙ came-is body 0 it.rest ∙ ap (λ (n : ℕ). came body 0 it.rest ++ actions_on body (n ∷ [])) last)

          split : list_any (ends_runs items body) (came body 0 it.rest ++ before_bad items body (came body 0 it.rest) (actions_on body (r.last ∷ []))) ≡ false
          split =
              ap (list_any (ends_runs items body))
              (sym (before-append items body [] (came body 0 it.rest) (actions_on body (r.last ∷ [])) (ap (first_bad items body []) (sym same) ∙ r.none))
              ∙ ap (λ (z : List PathAction). before_bad items body [] (z ++ actions_on body (r.last ∷ []))) (sym same)
              ∙ ap (before_bad items body []) (sym r.before))
              ∙ lasts
  path-meets path given left bad (on_way r lasts) = by (reached (given ++ left) path r.before (r.choices ++ left) r.is_path (ap (λ (z : List Bool). z ++ left) r.given_is ∙ append_assoc r.before r.choices left))
    where
      by : Reached (given ++ left) path (r.choices ++ left) → Meets (given ++ left) bad left
      by it =
          let there = it.come (none-first items body [] (came body 0 it.rest) (actions_in body r.last) none) (any-first items body ranked elsewhere node 0 (came body 0 it.rest) (actions_in body r.last) lasts_path) in
          way-meets (given ++ left) left r.choices r.last r.next r.block bad there.0 (came body 0 it.rest) r.there
          (there.1 ∙ ap (λ (n : ℕ). within (given ++ left) n there.0) last) there.2 there.3 r.way
          (none-rest items body [] (came body 0 it.rest) (actions_in body r.last) none)
          (any-rest items body ranked elsewhere node 0 (came body 0 it.rest) (actions_in body r.last) lasts_path)
          ((λ i. first_bad items body (sym whole i) (sym stored i)) ∙ r.first)
          ((λ i. list_any (ends_runs items body) (before_bad items body (sym whole i) (sym stored i)))
          ∙ any-rest items body ranked elsewhere node 0 (actions_on body path) (before_bad items body (actions_on body path) r.stored) split)
        where
          last : last_of 0 it.rest ≡ r.last
          last = last-is r.front r.last (given ++ left) path (r.choices ++ left) r.path_is it

          whole : actions_on body path ≡ came body 0 it.rest ++ actions_in body r.last
          whole = ap (actions_on body) it.path_is ∙ came-is body 0 it.rest ∙ ap (λ (n : ℕ). came body 0 it.rest ++ actions_on body (n ∷ [])) last

          stored : r.stored ≡ actions_between body r.last r.next
          stored = append_cancel_left (actions_in body r.last) r.stored (actions_between body r.last r.next)
              (append_cancel_right (actions_in body r.last ++ r.stored) (actions_in body r.last ++ actions_between body r.last r.next) (actions_on body (r.next ∷ [])) (sym r.stores))

          none : first_bad items body [] (came body 0 it.rest ++ actions_in body r.last) ≡ None
          none = ap (first_bad items body []) (sym whole) ∙ r.none

          split : list_any (ends_runs items body) (actions_on body path ++ before_bad items body (actions_on body path) r.stored) ≡ false
          split = ap (list_any (ends_runs items body)) (sym (before-append items body [] (actions_on body path) r.stored r.none)) ∙ lasts

          lasts_path : list_any (ends_runs items body) (came body 0 it.rest ++ actions_in body r.last) ≡ false
          lasts_path = ap (list_any (ends_runs items body)) (sym whole) ∙ any-first items body ranked elsewhere node 0 (actions_on body path) (before_bad items body (actions_on body path) r.stored) split
