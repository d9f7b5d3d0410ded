-- What a free walk meets, a path meets that the walk took.
use Rattle.std.proofs.Common.{◌≡◌, ℕ, zero, suc, Bool, true, false, List, [], ◌∷◌, ◌++◌, length, Option, Some, None, slice_get, Contains, refl, sym, ap, subst, ◌∙◌}
use Rattle.std.specs.List.{list_any, range_with_len}
use Rattle.std.specs.Option.{option_map_or}
use Rattle.std.proofs.lemmas.Bool.{false≢true}
use Rattle.std.proofs.lemmas.List.{append-nil, append_assoc}
use Rattle.mir_ty.specs.ItemTable.{ItemTable}
use Rattle.store_model.specs.Effects.{Halt, OutOfTicks, Stuck, StuckAt, NoChoice, Infeasible, Out, Go, Unwind, Halts, Effects}
use Rattle.store_model.specs.Abstract.Effects.{AbstractState, presence, at_start, next_choice}
use Rattle.store_model.specs.Abstract.Presence.{Presence}
use Rattle.cfg_graph.specs.declared.graph.Block.{Block}
use Rattle.cfg_graph.specs.declared.graph.Body.{Body}
use Rattle.cfg_graph.specs.declared.graph.Kind.{Kind}
use Rattle.cfg_graph.specs.Edges.{ToBlock, is_turn, is_turn_kind}
use Rattle.cfg_graph.specs.Moves.Gone.{PathAction}
use Rattle.cfg_graph.specs.Moves.Actions.{actions_on}
use Rattle.cfg_graph.specs.Moves.Paths.{ways, IsPath}
use Rattle.cfg_graph.specs.Moves.BadUses.{BadUse}
use Rattle.cfg_meaning.specs.Programs.{free_walk}
use Rattle.cfg_meaning.specs.Walk.{Next, ◌>>=◌, does_block, does_turn, by_kind, if_there, blocks, from_rank, rank_at, turns, walk}
use Rattle.init_flow.proofs.Along.{actions_in, actions_between}
use Rattle.move_errors.proofs.Pathways.{actions-snoc, entry_choices, path-snoc, way-between}
use Rattle.move_errors.proofs.Sorted.{here}
use Rattle.move_errors.specs.Reaches.{first_bad}
use Rattle.lower_laws.specs.Given.{choices_left, GivesBeforeBad, up_to_block, by_way_out}
use Rattle.lower_laws.specs.Meets.{PanicsLeadElsewhere, is_refused, halt_of, ends_runs, before_bad, RunsReach, in_block, on_way}
use Rattle.lower_laws.proofs.Blocks.{eff, LeavesBlock, block-performs, result-is}
use Rattle.lower_laws.proofs.Leaving.{goes, stops, Stops, by_way}
use Rattle.lower_laws.proofs.Performing.{Tells, start-tells, some-rest, before-append, none-of-both, perform, EndsWith, IsNotRefused, halts-same, Performed, on, met, ended, performed}

abbrev halting : Halt → AbstractState → Out AbstractState
halting halt w = Halts halt w

choices-same : (h k : Halt) (w v : AbstractState) → halting h w ≡ halting k v → w.choices ≡ v.choices
choices-same h k w v e = ap (λ (o : Out AbstractState). elim o [ Go x ↦ w.choices | Unwind x ↦ w.choices | Halts halt x ↦ x.choices ]) e

module _ (items : ItemTable) (body : Body) (elsewhere : PanicsLeadElsewhere body) (node : ℕ → ℕ → ℕ) (given : List Bool) where
  -- a walk is about to enter a block, as a path is
  pub record Came (n : ℕ) (w : AbstractState) : Type 0 where
    pub front : List ℕ
    pub used : List Bool
    pub earlier : List PathAction
    pub path : IsPath items body (front ++ n ∷ []) (used ++ entry_choices items body n)
    pub acts : actions_on body (front ++ n ∷ []) ≡ earlier ++ actions_on body (n ∷ [])
    pub clean : first_bad items body [] earlier ≡ None
    pub lasts : list_any (ends_runs items body) earlier ≡ false
    pub tells : Tells items body w earlier
    pub given_is : given ≡ used ++ w.choices
    -- so far a path has given the choices that are taken, if no turn begins where the body does
    pub so_far : entry_choices items body 0 ≡ [] → GivesBeforeBad items body used

  -- and it has entered it
  pub record Within (n : ℕ) (w : AbstractState) : Type 0 where
    pub front : List ℕ
    pub used : List Bool
    pub earlier : List PathAction
    pub path : IsPath items body (front ++ n ∷ []) used
    pub acts : actions_on body (front ++ n ∷ []) ≡ earlier ++ actions_on body (n ∷ [])
    pub clean : first_bad items body [] earlier ≡ None
    pub lasts : list_any (ends_runs items body) earlier ≡ false
    pub tells : Tells items body w earlier
    pub given_is : given ≡ used ++ w.choices

  -- it leaves a block by a way, on which a result is still to be stored
  pub record OnWay (n m : ℕ) (w u : AbstractState) (at : Within n w) : Type 0 where
    pub block : Block
    pub there : slice_get body.blocks n ≡ Some block
    pub choices : List Bool
    pub way : Contains (ways items body block.term) (by_way choices (ToBlock m))
    pub list : w.choices ≡ choices ++ u.choices
    pub clean : first_bad items body at.earlier (actions_in body n) ≡ None
    pub lasts : list_any (ends_runs items body) (actions_in body n) ≡ false

  -- Something holds of the outcome of a walk, in whatever way it comes: as a block is entered, for want of choices or of
  -- blocks; in a block, or on a way out of it, by a bad use or a value of type `!`; or since no way leads on. Of the choices
  -- that are left something is known then.
  pub record Outcomes (K : List Bool → Type 0) (Q : Out AbstractState → Type 0) : Type 0 where
    -- taking choices keeps what is known of them
    pub keeps : (xs ys : List Bool) → K (xs ++ ys) → K ys
    pub halted : (n : ℕ) (w : AbstractState) → Came n w → K w.choices → (halt : Halt) → is_refused halt ≡ false → choices_left (Halts halt w) ≡ Some w.choices → Q (Halts halt w)
    pub infeasible : (n : ℕ) (w : AbstractState) (rest : List Bool) → Came n w → K w.choices → w.choices ≡ true ∷ rest → Q (Halts Infeasible (record w { choices = rest }))
    pub ended_in : (n : ℕ) (w : AbstractState) → Within n w → K w.choices → (out : Out AbstractState) → EndsWith items body node w out → Q out
    pub met_in : (n : ℕ) (w : AbstractState) (at : Within n w) → K w.choices → (out : Out AbstractState) (bad : BadUse) (v : AbstractState) → out ≡ Halts (halt_of node bad) v → v.choices ≡ w.choices →
        first_bad items body at.earlier (actions_in body n) ≡ Some bad → list_any (ends_runs items body) (before_bad items body at.earlier (actions_in body n)) ≡ false → Q out
    pub stopped : (n : ℕ) (w : AbstractState) (at : Within n w) → K w.choices → (block : Block) → slice_get body.blocks n ≡ Some block → (v : AbstractState) → v.choices ≡ w.choices →
        first_bad items body at.earlier (actions_in body n) ≡ None → (out : Out AbstractState) → Stops items body node (ways items body block.term) v.choices out → Q out
    pub ended_on : (n m : ℕ) (w u : AbstractState) (at : Within n w) → OnWay n m w u at → K u.choices → (out : Out AbstractState) → EndsWith items body node u out → Q out
    pub met_on : (n m : ℕ) (w u : AbstractState) (at : Within n w) → OnWay n m w u at → K u.choices → (out : Out AbstractState) (bad : BadUse) (x : AbstractState) → out ≡ Halts (halt_of node bad) x → x.choices ≡ u.choices →
        first_bad items body (at.earlier ++ actions_in body n) (actions_between body n m) ≡ Some bad →
        list_any (ends_runs items body) (before_bad items body (at.earlier ++ actions_in body n) (actions_between body n m)) ≡ false → Q out

  -- what was done up to the end of a block, before a way out of it
  module _ (n : ℕ) (w : AbstractState) (at : Within n w) (none : first_bad items body at.earlier (actions_in body n) ≡ None) (lasts : list_any (ends_runs items body) (actions_in body n) ≡ false) where
    pub plain_until : first_bad items body [] (at.earlier ++ actions_in body n) ≡ None
    plain_until = some-rest items body [] at.earlier (actions_in body n) at.clean ∙ none

    pub free_until : list_any (ends_runs items body) (at.earlier ++ actions_in body n) ≡ false
    free_until = none-of-both items body node at.earlier (actions_in body n) at.lasts lasts

  taken_on : (n m : ℕ) (w u : AbstractState) (at : Within n w) (o : OnWay n m w u at) → given ≡ (at.used ++ o.choices) ++ u.choices
  taken_on n m w u at o = at.given_is ∙ ap (λ (z : List Bool). at.used ++ z) o.list ∙ sym (append_assoc at.used o.choices u.choices)

  module _ (K : List Bool → Type 0) (Q : Out AbstractState → Type 0) (q : Outcomes K Q) where
    same-known : (list other : List Bool) → list ≡ other → K list → K other
    same-known list other e k = subst K e k

    module _ (next : Next AbstractState) (goes-on : (m : ℕ) (v : AbstractState) → Came m v → K v.choices → Q (next m v)) where
      -- on a way out of a block
      way-comes : (n m : ℕ) (w u : AbstractState) (at : Within n w) (o : OnWay n m w u at) → Tells items body u (at.earlier ++ actions_in body n) → K u.choices →
          Q (perform items body node (actions_between body n m) (next m) u)
      way-comes n m w u at o tells k =
          by (performed items body node (λ x out. out ≡ next m x) (next m) (λ x. refl) (actions_between body n m) before u tells)
        where
          before : List PathAction
          before = at.earlier ++ actions_in body n

          plain : first_bad items body [] before ≡ None
          plain = plain_until n w at o.clean o.lasts

          free : list_any (ends_runs items body) before ≡ false
          free = free_until n w at o.clean o.lasts

          by : Performed items body node before (actions_between body n m) (λ x out. out ≡ next m x) u (perform items body node (actions_between body n m) (next m) u)
              → Q (perform items body node (actions_between body n m) (next m) u)
          by (ended with end) = q.ended_on n m w u at o k (perform items body node (actions_between body n m) (next m) u) with
          by (met bad x is kept some long) = q.met_on n m w u at o k (perform items body node (actions_between body n m) (next m) u) bad x is kept some long
          by (on x is told kept calm long) =
              subst Q (sym is) (goes-on m x (record {
                front = at.front ++ n ∷ [];
                used = at.used ++ o.choices;
                earlier = before ++ actions_between body n m;
                path = path-snoc items body (at.front ++ n ∷ []) at.front n m at.used o.choices refl at.path (way-between items body n m o.block o.choices o.there o.way);
                acts = actions-snoc body at.front n m ∙ ap (λ (z : List PathAction). (z ++ actions_between body n m) ++ actions_on body (m ∷ [])) at.acts;
                clean = some-rest items body [] before (actions_between body n m) plain ∙ calm;
                lasts = none-of-both items body node before (actions_between body n m) free long;
                tells = told;
                given_is = taken_on n m w u at o ∙ ap (λ (z : List Bool). (at.used ++ o.choices) ++ z) (sym kept);
                so_far = λ e. by_way_out at.front n at.used o.block (by_way o.choices (ToBlock m)) at.path (ap (first_bad items body []) at.acts ∙ plain) o.there o.way refl;
              }) (same-known u.choices x.choices (sym kept) k))

      -- within a block
      block-comes : (n : ℕ) (block : Block) → slice_get body.blocks n ≡ Some block → (w : AbstractState) → Within n w → K w.choices
          → Q (does_block (eff items body elsewhere node) 0 node body n block next w)
      block-comes n block there w at known = by (block-performs items body elsewhere node n block there next at.earlier w at.tells)
        where
          out : Out AbstractState
          out = does_block (eff items body elsewhere node) 0 node body n block next w

          presence_in : ℕ → List (ℕ × Presence) → Presence
          presence_in local z = presence local z

          by : Performed items body node at.earlier (actions_in body n) (LeavesBlock items body elsewhere node n block next) w out → Q out
          by (ended with end) = q.ended_in n w at known out with
          by (on v (stops s) told same none lasts) = q.stopped n w at known block there v same none out s
          by (on v (goes choices m u way list cells is only none_out) told same none lasts) =
              subst Q (sym (is ∙ ap (λ (z : List PathAction). perform items body node z (next m) u) (result-is items body elsewhere node n m block there next)))
              (way-comes n m w u at (record { block = block; there = there; choices = choices; way = way; list = sym same ∙ list; clean = none; lasts = lasts })
              (λ local. ap (λ z. presence_in local z) cells ∙ told local)
              (q.keeps choices u.choices (same-known w.choices (choices ++ u.choices) (sym same ∙ list) known)))
          by (met bad v is same some long) = q.met_in n w at known out bad v is same some long

      abbrev zero_if : Bool → List Bool
      zero_if true = false ∷ []
      zero_if false = []

      entry : (n : ℕ) (block : Block) (b : Bool) → slice_get body.blocks n ≡ Some block → is_turn block ≡ b → entry_choices items body n ≡ zero_if b
      entry n block b there turn = ap (λ (o : Option Block). zero_if (option_map_or is_turn o false)) there ∙ ap zero_if turn

      plain-comes : (n : ℕ) (block : Block) → slice_get body.blocks n ≡ Some block → is_turn block ≡ false → (w : AbstractState) → Came n w → K w.choices
          → Q (does_block (eff items body elsewhere node) 0 node body n block next w)
      plain-comes n block there turn w at known =
          block-comes n block there w (record {
            front = at.front;
            used = at.used;
            earlier = at.earlier;
            path = subst (IsPath items body (at.front ++ n ∷ [])) (ap (λ (z : List Bool). at.used ++ z) (entry n block false there turn) ∙ append-nil at.used) at.path;
            acts = at.acts;
            clean = at.clean;
            lasts = at.lasts;
            tells = at.tells;
            given_is = at.given_is;
          }) known

      turn-comes : (n : ℕ) (block : Block) → slice_get body.blocks n ≡ Some block → is_turn block ≡ true → (w : AbstractState) → Came n w → K w.choices
          → Q (does_turn (eff items body elsewhere node) 0 node body n block next w)
      turn-comes n block there turn w at known = by w.choices refl
        where
          by : (list : List Bool) → w.choices ≡ list
              → Q (◌>>=◌ (next_choice list w Go (Halts Infeasible)) (λ w. does_block (eff items body elsewhere node) 0 node body n block next w))
          by [] e = q.halted n w at known NoChoice refl refl
          by (true ∷ rest) e = q.infeasible n w rest at known e
          by (false ∷ rest) e =
              block-comes n block there (record w { choices = rest }) (record {
                front = at.front;
                used = at.used ++ false ∷ [];
                earlier = at.earlier;
                path = subst (IsPath items body (at.front ++ n ∷ [])) (ap (λ (z : List Bool). at.used ++ z) (entry n block true there turn)) at.path;
                acts = at.acts;
                clean = at.clean;
                lasts = at.lasts;
                tells = at.tells;
                given_is = at.given_is ∙ ap (λ (z : List Bool). at.used ++ z) e ∙ sym (append_assoc at.used (false ∷ []) rest);
              }) (q.keeps (false ∷ []) rest (same-known w.choices (false ∷ rest) e known))

    abbrev effects_of : Effects AbstractState
    effects_of = eff items body elsewhere node

    blocks-come : (turn : Next AbstractState)
        → ((n : ℕ) (w : AbstractState) (block : Block) → slice_get body.blocks n ≡ Some block → is_turn block ≡ true → Came n w → K w.choices → Q (turn n w))
        → (r n : ℕ) (w : AbstractState) → Came n w → K w.choices → Q (blocks effects_of 0 node body turn r n w)
    blocks-come turn turns-so zero n w at known = by (slice_get body.blocks n) refl
      where
        so : (block : Block) (kind : Kind) → slice_get body.blocks n ≡ Some block → block.kind ≡ kind
            → Q (by_kind effects_of 0 node body kind n block turn (λ n. Halts Stuck) w)
        so block Kind.Turn there is = turns-so n w block there (ap is_turn_kind is) at known
        so block Kind.Plain there is = q.halted n w at known Stuck refl refl
        so block Kind.Cleanup there is = q.halted n w at known Stuck refl refl

        by : (o : Option Block) → slice_get body.blocks n ≡ o
            → Q (if_there effects_of 0 node body o n (λ block. by_kind effects_of 0 node body block.kind n block turn (λ n. Halts Stuck)) w)
        by None missing = q.halted n w at known (StuckAt 0 n) refl refl
        by (Some block) there = so block block.kind there refl
    blocks-come turn turns-so (suc r) n w at known = by (blocks-come turn turns-so r) (slice_get body.blocks n) refl
      where
        module_next : Next AbstractState
        module_next = blocks effects_of 0 node body turn r

        so : ((m : ℕ) (v : AbstractState) → Came m v → K v.choices → Q (module_next m v)) → (block : Block) (kind : Kind) → slice_get body.blocks n ≡ Some block → block.kind ≡ kind
            → Q (by_kind effects_of 0 node body kind n block turn (λ n. does_block effects_of 0 node body n block module_next) w)
        so later block Kind.Turn there is = turns-so n w block there (ap is_turn_kind is) at known
        so later block Kind.Plain there is = plain-comes module_next later n block there (ap is_turn_kind is) w at known
        so later block Kind.Cleanup there is = plain-comes module_next later n block there (ap is_turn_kind is) w at known

        by : ((m : ℕ) (v : AbstractState) → Came m v → K v.choices → Q (module_next m v)) → (o : Option Block) → slice_get body.blocks n ≡ o
            → Q (if_there effects_of 0 node body o n (λ block. by_kind effects_of 0 node body block.kind n block turn (λ n. does_block effects_of 0 node body n block module_next)) w)
        by later None missing = q.halted n w at known (StuckAt 0 n) refl refl
        by later (Some block) there = so later block block.kind there refl

    turns-come : (t n : ℕ) (w : AbstractState) (block : Block) → slice_get body.blocks n ≡ Some block → is_turn block ≡ true → Came n w → K w.choices
        → Q (turns effects_of 0 node body t n w)
    turns-come zero n w block there turn at known = q.halted n w at known OutOfTicks refl refl
    turns-come (suc t) n w block there turn at known =
        subst (λ (o : Option Block). Q (if_there effects_of 0 node body o n (λ block. does_turn effects_of 0 node body n block (from_rank effects_of 0 node body (turns effects_of 0 node body t))) w)) (sym there)
        (turn-comes (from_rank effects_of 0 node body (turns effects_of 0 node body t))
        (λ m v came kept. blocks-come (turns effects_of 0 node body t) (turns-come t) (suc (rank_at effects_of 0 node body m)) m v came kept)
        n block there turn w at known)

    -- however many turns are still allowed
    further : (t m : ℕ) (v : AbstractState) → Came m v → K v.choices → Q (walk effects_of 0 node body t m v)
    further t m v came known = blocks-come (turns effects_of 0 node body t) (turns-come t) (suc (rank_at effects_of 0 node body m)) m v came known

    pub inside-comes : (t n : ℕ) (block : Block) → slice_get body.blocks n ≡ Some block → (w : AbstractState) → Within n w → K w.choices
        → Q (does_block effects_of 0 node body n block (walk effects_of 0 node body t) w)
    inside-comes t n block there w at known = block-comes (walk effects_of 0 node body t) (further t) n block there w at known

    pub on-comes : (t n m : ℕ) (w u : AbstractState) (at : Within n w) (o : OnWay n m w u at) → Tells items body u (at.earlier ++ actions_in body n) → K u.choices →
        Q (perform items body node (actions_between body n m) (walk effects_of 0 node body t m) u)
    on-comes t n m w u at o tells known = way-comes (walk effects_of 0 node body t) (further t) n m w u at o tells known

    pub walk-comes : K given → Q (free_walk items node body given)
    walk-comes known =
        blocks-come (turns effects_of 0 node body (suc (length given))) (turns-come (suc (length given))) (suc (rank_at effects_of 0 node body 0)) 0
        (at_start (range_with_len 1 body.params) given) (record {
          front = [];
          used = [];
          earlier = [];
          path = begin;
          acts = refl;
          clean = refl;
          lasts = refl;
          tells = start-tells items body given;
          given_is = refl;
          so_far = λ e. up_to_block [] 0 [] (subst (IsPath items body (0 ∷ [])) e begin) refl refl;
        }) known
      where
        begin : IsPath items body (0 ∷ []) (entry_choices items body 0)
        begin = subst (λ (z : List Bool). Contains (z ∷ []) (entry_choices items body 0)) (sym (append-nil (entry_choices items body 0))) (here (entry_choices items body 0) [])

  -- ---- where it halts at a refused use, a path reaches it
  abbrev pub Found : Out AbstractState → Type 0
  Found out =
      (halt : Halt) (w : AbstractState) → out ≡ Halts halt w → is_refused halt ≡ true →
      (path : List ℕ) × (used : List Bool) × (bad : BadUse) × RunsReach items body path used bad
      × (given ≡ used ++ w.choices) × (halt ≡ halt_of node bad)

  not-found : (out : Out AbstractState) → IsNotRefused items body node out → Found out
  not-found out fine halt w is refused = absurd (false≢true (sym (fine halt w is) ∙ refused))

  halt-found : (halt : Halt) (w : AbstractState) → is_refused halt ≡ false → Found (Halts halt w)
  halt-found halt w fine = not-found (Halts halt w) (λ other v is. ap is_refused (sym (halts-same items body node halt other w v is)) ∙ fine)

  met-found : (n : ℕ) (w : AbstractState) (at : Within n w) (out : Out AbstractState) (bad : BadUse) (v : AbstractState) → out ≡ Halts (halt_of node bad) v → v.choices ≡ w.choices →
      first_bad items body at.earlier (actions_in body n) ≡ Some bad → list_any (ends_runs items body) (before_bad items body at.earlier (actions_in body n)) ≡ false → Found out
  met-found n w at out bad v is same some long halt y e refused = (
    at.front ++ n ∷ [],
    at.used,
    bad,
    in_block (record {
      front = at.front;
      last = n;
      path_is = refl;
      is_path = at.path;
      earlier = at.earlier;
      before = at.acts;
      none = at.clean;
      first = some;
    })
        (ap (λ (z : List PathAction). list_any (ends_runs items body) (before_bad items body [] z)) at.acts
        ∙ ap (list_any (ends_runs items body)) (before-append items body [] at.earlier (actions_in body n) at.clean)
        ∙ none-of-both items body node at.earlier (before_bad items body at.earlier (actions_in body n)) at.lasts long),
    at.given_is ∙ ap (λ (z : List Bool). at.used ++ z) (sym (choices-same halt (halt_of node bad) y v (sym e ∙ is) ∙ same)),
    halts-same items body node halt (halt_of node bad) y v (sym e ∙ is),
  )

  met-on-found : (n m : ℕ) (w u : AbstractState) (at : Within n w) → OnWay n m w u at → (out : Out AbstractState) (bad : BadUse) (x : AbstractState) → out ≡ Halts (halt_of node bad) x → x.choices ≡ u.choices →
      first_bad items body (at.earlier ++ actions_in body n) (actions_between body n m) ≡ Some bad →
      list_any (ends_runs items body) (before_bad items body (at.earlier ++ actions_in body n) (actions_between body n m)) ≡ false → Found out
  met-on-found n m w u at o out bad x is kept some long halt y e refused = (
    at.front ++ n ∷ [],
    at.used ++ o.choices,
    bad,
    on_way (record {
      front = at.front;
      last = n;
      path_is = refl;
      before = at.used;
      is_path = at.path;
      none = ap (first_bad items body []) at.acts ∙ plain;
      next = m;
      choices = o.choices;
      block = o.block;
      there = o.there;
      way = o.way;
      given_is = refl;
      stored = actions_between body n m;
      stores = refl;
      first = ap (λ (z : List PathAction). first_bad items body z (actions_between body n m)) at.acts ∙ some;
    })
        (ap (λ (z : List PathAction). list_any (ends_runs items body) (before_bad items body [] (z ++ actions_between body n m))) at.acts
        ∙ ap (list_any (ends_runs items body)) (before-append items body [] before (actions_between body n m) plain)
        ∙ none-of-both items body node before (before_bad items body before (actions_between body n m)) (free_until n w at o.clean o.lasts) long),
    taken_on n m w u at o ∙ ap (λ (z : List Bool). (at.used ++ o.choices) ++ z) (sym (choices-same halt (halt_of node bad) y x (sym e ∙ is) ∙ kept)),
    halts-same items body node halt (halt_of node bad) y x (sym e ∙ is),
  )
    where
      before : List PathAction
      before = at.earlier ++ actions_in body n

      plain : first_bad items body [] before ≡ None
      plain = plain_until n w at o.clean o.lasts

  pub walk-found : Found (free_walk items node body given)
  walk-found = walk-comes (λ list. Unit {0}) Found (record {
    keeps = λ xs ys k. k;
    halted = λ n w at k halt fine left. halt-found halt w fine;
    infeasible = λ n w rest at k e. halt-found Infeasible (record w { choices = rest }) refl;
    ended_in = λ n w at k out with. not-found out with.0;
    met_in = λ n w at k out bad v is same some long. met-found n w at out bad v is same some long;
    stopped = λ n w at k block there v same none out s. not-found out s.fine;
    ended_on = λ n m w u at o k out with. not-found out with.0;
    met_on = λ n m w u at o k out bad x is kept some long. met-on-found n m w u at o out bad x is kept some long;
  }) tt
