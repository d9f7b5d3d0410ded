-- Runs are the paths of a body.
use Rattle.std.proofs.Common.{◌≡◌, inl, inr, ℕ, Bool, true, false, if◌then◌else◌, List, [], ◌∷◌, ◌++◌, map, length, nat_lt, nat_eq, Option, Some, None, slice_get, Contains, refl, sym, ap, subst, ◌∙◌}
use Rattle.std.specs.Option.{option_map_or, is_some}
use Rattle.std.specs.List.{list_any}
use Rattle.std.proofs.lemmas.Bool.{false≢true}
use Rattle.std.proofs.lemmas.Option.{none-some, same_Some}
use Rattle.std.proofs.lemmas.List.{append-nil}
use Rattle.mir_ty.specs.ItemTable.{ItemTable}
use Rattle.cfg_graph.specs.declared.graph.Block.{Block}
use Rattle.cfg_graph.specs.declared.graph.Body.{Body}
use Rattle.cfg_graph.specs.Edges.{ToBlock, is_turn, onward}
use Rattle.cfg_graph.specs.Uses.{Stores, stored_by_term}
use Rattle.cfg_graph.specs.Moves.Actions.{actions_on}
use Rattle.cfg_graph.specs.Moves.BadUses.{BadUse}
use Rattle.cfg_graph.specs.Moves.Gone.{PathAction}
use Rattle.cfg_graph.specs.Moves.Paths.{ways, IsPath}
use Rattle.init_flow.specs.Carried.{Bits}
use Rattle.init_flow.specs.Ways.{target}
use Rattle.init_flow.specs.Concerns.{AreOfBody}
use Rattle.init_flow.proofs.Along.{actions_between}
use Rattle.move_paths.specs.Forest.{PathForest}
use Rattle.move_errors.specs.Reaches.{rule_of, first_bad, Reaches}
use Rattle.move_errors.specs.Rows.{state, after, first_by, IsWatched}
use Rattle.move_errors.specs.Runs.{Problem, Trip, IsRun, begins, goes, Leads, problem, optional, met, number_of, point, acts_at, at_line, stored_between, entered, arrived, onward_from}
use Rattle.move_errors.specs.declared.point.Point.{Point}
use Rattle.move_errors.specs.declared.point.Stage.{Stage}
use Rattle.move_errors.specs.declared.point.Onward.{Onward}
use Rattle.move_errors.proofs.Sorted.{here, none-in}
use Rattle.move_errors.proofs.Using.{acts-used}
use Rattle.move_errors.proofs.Rowing.{Both, none, some, both, none-append, of-body-more}
use Rattle.move_errors.proofs.Pathways.{actions-snoc, entry_choices, path-snoc, way-between, goes-by}

module _ (items : ItemTable) (body : Body) (forest : PathForest) (below : List Bits) (watched : IsWatched items body forest below) where
  abbrev f : Problem
  f = problem items body forest.paths

  -- what is stored on a way
  pub stored-is : (n m : ℕ) (k : Bool) → target items body n (number_of k) ≡ Some m → acts_at items body n (Stage.Leaving k) ≡ actions_between body n m
  stored-is n m k to =
      ap (λ (z : Option ℕ). option_map_or (λ found. stored_between found n z) (slice_get body.blocks n) []) to ∙ by (slice_get body.blocks n)
    where
      so : (block : Block) (b : Bool) → at_line n (length block.stmts) (map (λ place. (Stores, place)) (if b then stored_by_term block.term else []))
          ≡ (if b then at_line n (length block.stmts) (map (λ place. (Stores, place)) (stored_by_term block.term)) else [])
      so block true = refl
      so block false = refl

      by : (o : Option Block) → option_map_or (λ found. stored_between found n (Some m)) o []
          ≡ option_map_or (λ found. if list_any (nat_eq m) (onward found.term) then at_line n (length found.stmts) (map (λ place. (Stores, place)) (stored_by_term found.term)) else []) o []
      by None = refl
      by (Some block) = so block (list_any (nat_eq m) (onward block.term))

  -- how a run came to a point, and what was done before
  abbrev pub Comes : (n : ℕ) → Stage → List ℕ → List Bool → List PathAction → Type 0
  Comes n Stage.Entry path given earlier =
      IsPath items body (path ++ n ∷ []) (given ++ entry_choices items body n)
      × (actions_on body (path ++ n ∷ []) ≡ earlier ++ actions_on body (n ∷ []))
  Comes n Stage.Inside path given earlier =
      (front : List ℕ) × (path ≡ front ++ n ∷ []) × IsPath items body path given
      × (actions_on body path ≡ earlier ++ actions_on body (n ∷ []))
  Comes n (Stage.Leaving k) path given earlier =
      (front : List ℕ) × (path ≡ front ++ n ∷ []) × (before : List Bool) × (choices : List Bool) × (m : ℕ) × (block : Block)
      × IsPath items body path before × (earlier ≡ actions_on body path) × (slice_get body.blocks n ≡ Some block)
      × Contains (ways items body block.term) (record { choices = choices; exit = ToBlock m })
      × (given ≡ before ++ choices) × (target items body n (number_of k) ≡ Some m)

  pub record Told (t : Trip) : Type 0 where
    pub earlier : List PathAction
    pub clean : first_bad items body [] earlier ≡ None
    pub row : t.row ≡ state items body forest.paths earlier
    pub used : AreOfBody body earlier
    pub comes : Comes t.at.block t.at.stage t.path t.given earlier

  -- past a point without a bad use
  pub record Past (t : Trip) (earlier : List PathAction) : Type 0 where
    pub clean : first_bad items body [] (earlier ++ acts_at items body t.at.block t.at.stage) ≡ None
    pub row : f.pass t.at t.row ≡ state items body forest.paths (earlier ++ acts_at items body t.at.block t.at.stage)
    pub used : AreOfBody body (earlier ++ acts_at items body t.at.block t.at.stage)

  pub past : (t : Trip) (told : Told t) → f.bad t.at t.row ≡ false → Past t told.earlier
  past t told clean = by (both items body forest below watched told.earlier acts told.used (acts-used items body t.at.block t.at.stage))
    where
      acts : List PathAction
      acts = acts_at items body t.at.block t.at.stage

      by : Both items body forest below watched told.earlier (acts_at items body t.at.block t.at.stage) → Past t told.earlier
      by (none plain rows next) = record {
        clean = none-append items body [] told.earlier (acts_at items body t.at.block t.at.stage) told.clean plain;
        row = ap (after items body forest.paths (acts_at items body t.at.block t.at.stage)) told.row ∙ next;
        used = of-body-more body told.earlier (acts_at items body t.at.block t.at.stage) told.used (acts-used items body t.at.block t.at.stage);
      }
      by (some a plain rows) =
          absurd (false≢true (sym clean ∙ ap (λ (r : Bits). is_some (first_by items body forest.paths (acts_at items body t.at.block t.at.stage) r)) told.row ∙ ap is_some rows))

  pub enter : (n : ℕ) (choice : Option Bool) (to : Point) → Leads (onward_from items body n Stage.Entry) choice to → (to ≡ point n Stage.Inside) × (optional choice ≡ entry_choices items body n)
  enter n choice to leads = by (slice_get body.blocks n) leads
    where
      zero_if : Bool → List Bool
      zero_if true = false ∷ []
      zero_if false = []

      go : (b : Bool) → Leads (if b then Onward.Choices (Some (point n Stage.Inside)) None else Onward.Silent (point n Stage.Inside)) choice to
          → (to ≡ point n Stage.Inside) × (optional choice ≡ (elim b [ true ↦ false ∷ [] | false ↦ [] ]))
      go true (inl zero_way) = (sym (same_Some (point n Stage.Inside) to zero_way.1), ap optional zero_way.0)
      go true (inr one_way) = absurd (none-some to one_way.1)
      go false silent = (sym silent.1, ap optional silent.0)

      by : (o : Option Block) → Leads (entered n o) choice to
          → (to ≡ point n Stage.Inside) × (optional choice ≡ (elim (option_map_or is_turn o false) [ true ↦ false ∷ [] | false ↦ [] ]))
      by None leads = absurd leads
      by (Some block) leads = go (is_turn block) leads

  pub arrive : (n : ℕ) (k : Bool) (choice : Option Bool) (to : Point) → Leads (onward_from items body n (Stage.Leaving k)) choice to
      → (m : ℕ) × (to ≡ point m Stage.Entry) × (choice ≡ None) × (target items body n (number_of k) ≡ Some m)
  arrive n k choice to leads = by (target items body n (number_of k)) refl leads
    where
      go : (m : ℕ) (b : Bool) → target items body n (number_of k) ≡ Some m → Leads (if b then Onward.Silent (point m Stage.Entry) else Onward.Nowhere) choice to
          → (m : ℕ) × (to ≡ point m Stage.Entry) × (choice ≡ None) × (target items body n (number_of k) ≡ Some m)
      go m true e leads = (m, sym leads.1, leads.0, e)
      go m false e leads = absurd leads

      by : (o : Option ℕ) → target items body n (number_of k) ≡ o → Leads (arrived (length body.blocks) o) choice to
          → (m : ℕ) × (to ≡ point m Stage.Entry) × (choice ≡ None) × (target items body n (number_of k) ≡ Some m)
      by None e leads = absurd leads
      by (Some m) e leads = go m (nat_lt m (length body.blocks)) e leads

  -- from a point to the next
  comes-on : (n : ℕ) (stage : Stage) (path : List ℕ) (given : List Bool) (earlier : List PathAction) (choice : Option Bool) (to : Point)
      → Comes n stage path given earlier → Leads (onward_from items body n stage) choice to
      → Comes to.block to.stage (path ++ met to) (given ++ optional choice) (earlier ++ acts_at items body n stage)
  comes-on n Stage.Entry path given earlier choice to comes leads =
      let it = enter n choice to leads in
      subst (λ (z : Point). Comes z.block z.stage (path ++ met z) (given ++ optional choice) (earlier ++ [])) (sym it.0) (
        path,
        refl,
        subst (λ (z : List Bool). IsPath items body (path ++ n ∷ []) (given ++ z)) (sym it.1) comes.0,
        comes.1 ∙ ap (λ (z : List PathAction). z ++ actions_on body (n ∷ [])) (sym (append-nil earlier)),
      )
  comes-on n Stage.Inside path given earlier choice to comes leads =
      let it = goes-by items body n choice to leads in
      subst (λ (z : Point). Comes z.block z.stage (path ++ met z) (given ++ optional choice) (earlier ++ actions_on body (n ∷ []))) (sym it.3) (
        comes.0,
        append-nil path ∙ comes.1,
        given,
        optional choice,
        it.1,
        it.2,
        subst (λ (z : List ℕ). IsPath items body z given) (sym (append-nil path)) comes.2,
        sym comes.3 ∙ ap (actions_on body) (sym (append-nil path)),
        it.5,
        it.6,
        refl,
        it.4,
      )
  comes-on n (Stage.Leaving k) path given earlier choice to comes leads =
      let it = arrive n k choice to leads in
      let same : comes.4 ≡ it.0 = same_Some comes.4 it.0 (sym comes.11 ∙ it.3) in
      let between = way-between items body n comes.4 comes.5 comes.3 comes.8 comes.9 in
      let longer = path-snoc items body path comes.0 n comes.4 comes.2 comes.3 comes.1 comes.6 between in
      let stored : acts_at items body n (Stage.Leaving k) ≡ actions_between body n comes.4 = stored-is n comes.4 k comes.11 in
      subst (λ (z : Point). Comes z.block z.stage (path ++ met z) (given ++ optional choice) (earlier ++ acts_at items body n (Stage.Leaving k))) (sym it.1)
      (subst (λ (m : ℕ). IsPath items body ((path ++ []) ++ m ∷ []) ((given ++ optional choice) ++ entry_choices items body m)
      × (actions_on body ((path ++ []) ++ m ∷ []) ≡ (earlier ++ acts_at items body n (Stage.Leaving k)) ++ actions_on body (m ∷ []))) same (
        subst (λ (z : List ℕ). IsPath items body (z ++ comes.4 ∷ []) ((given ++ optional choice) ++ entry_choices items body comes.4)) (sym (append-nil path))
            (subst (λ (z : List Bool). IsPath items body (path ++ comes.4 ∷ []) (z ++ entry_choices items body comes.4))
            (sym (ap (λ (z : Option Bool). given ++ optional z) it.2 ∙ append-nil given ∙ comes.10)) longer),
        ap (λ (z : List ℕ). actions_on body (z ++ comes.4 ∷ [])) (append-nil path ∙ comes.1) ∙ actions-snoc body comes.0 n comes.4
            ∙ (λ i. (sym (comes.7 ∙ ap (actions_on body) comes.1) i ++ sym stored i) ++ actions_on body (comes.4 ∷ [])),
      ))

  pub told : (t : Trip) → IsRun f t → Told t
  told _ begins = record {
    earlier = [];
    clean = refl;
    row = refl;
    used = λ a has. absurd (none-in a has);
    comes = (
      subst (λ (z : List Bool). Contains (z ∷ []) (entry_choices items body 0)) (sym (append-nil (entry_choices items body 0))) (here (entry_choices items body 0) []),
      refl,
    );
  }
  told _ (goes t choice to run clean leads) =
      let was = told t run in
      let p = past t was clean in
      record {
        earlier = was.earlier ++ acts_at items body t.at.block t.at.stage;
        clean = p.clean;
        row = p.row;
        used = p.used;
        comes = comes-on t.at.block t.at.stage t.path t.given was.earlier choice to was.comes leads;
      }

  -- A run that meets a bad use reaches it along its path.

  pub reaches : (t : Trip) → IsRun f t → (a : PathAction) → first_by items body forest.paths (acts_at items body t.at.block t.at.stage) t.row ≡ Some a
      → Reaches items body t.path t.given (record { rule = rule_of a.how; action = a })
  reaches t run a is = by (both items body forest below watched it.earlier (acts_at items body t.at.block t.at.stage) it.used (acts-used items body t.at.block t.at.stage))
    where
      it : Told t
      it = told t run

      at : (n : ℕ) (stage : Stage) (bad : BadUse) (earlier : List PathAction) → Comes n stage t.path t.given earlier → first_bad items body [] earlier ≡ None
          → first_bad items body earlier (acts_at items body n stage) ≡ Some bad → Reaches items body t.path t.given bad
      at n Stage.Entry bad earlier comes clean is = absurd (none-some bad is)
      at n Stage.Inside bad earlier comes clean is = inl (record {
        front = comes.0;
        last = n;
        path_is = comes.1;
        is_path = comes.2;
        earlier = earlier;
        before = comes.3;
        none = clean;
        first = is;
      })
      at n (Stage.Leaving k) bad earlier comes clean is = inr (record {
        front = comes.0;
        last = n;
        path_is = comes.1;
        before = comes.2;
        is_path = comes.6;
        none = ap (first_bad items body []) (sym comes.7) ∙ clean;
        next = comes.4;
        choices = comes.3;
        block = comes.5;
        there = comes.8;
        way = comes.9;
        given_is = comes.10;
        stored = actions_between body n comes.4;
        stores = refl;
        first = (λ i. first_bad items body (sym comes.7 i) (sym (stored-is n comes.4 k comes.11) i)) ∙ is;
      })

      by : Both items body forest below watched (told t run).earlier (acts_at items body t.at.block t.at.stage) → Reaches items body t.path t.given (record { rule = rule_of a.how; action = a })
      by (none plain rows next) = absurd (none-some a (sym rows ∙ ap (first_by items body forest.paths (acts_at items body t.at.block t.at.stage)) (sym (told t run).row) ∙ is))
      by (some x plain rows) =
          let same : x ≡ a = same_Some x a (sym rows ∙ ap (first_by items body forest.paths (acts_at items body t.at.block t.at.stage)) (sym (told t run).row) ∙ is) in
          at t.at.block t.at.stage (record { rule = rule_of a.how; action = a }) (told t run).earlier (told t run).comes (told t run).clean
          (plain ∙ ap (λ (z : PathAction). Some (record { rule = rule_of z.how; action = z })) same)
