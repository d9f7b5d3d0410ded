-- Effects, tests, assignments and arms beside a local of a reference type: what they store into and name.
use Rattle.std.proofs.Common.{◌≡◌, ◌⊎◌, inl, inr, ℕ, ◌+◌, ◌≤◌, ◌==◌, ◌&&◌, ◌||◌, not, Bool, true, false, List, [], ◌∷◌, ◌++◌, length, map, flat_map, refl, sym, ap, subst, ◌∙◌, arith}
use Rattle.std.specs.List.{list_all}
use Rattle.cfg_graph.specs.declared.graph.Kind.{Kind}
use Rattle.cfg_graph.specs.declared.place.Place as graph_place
use Rattle.cfg_graph.specs.declared.statement.Stmt.{Stmt}
use Rattle.cfg_graph.specs.declared.terminator.Term.{Term}
use Rattle.cfg_graph.specs.Uses.{PlaceUse, Stores, operand_uses, place_used}
use Rattle.mir_base.specs.declared.trace.Why.{Why}
use Rattle.store_model.specs.Effects as effects
use Rattle.store_model.specs.Effects.{EffectSite, Action, OfTuple, OfArray, OfVariant, OfClosure}
use Rattle.store_model.specs.Places.Place.{Step, Place, whole_local}
use Rattle.src_meaning.specs.Forms.{Destination, LoopsAndGuards, site_in, site_of_key, moved}
use Rattle.src_meaning.specs.Scopes.{Scopes, Exit}
use Rattle.src_meaning.specs.Shape.{PatternTest, IsVariant, IsNumber, IsTruth, AnyOf, PatternTests, no_test, a_test, Alternatives, no_alternative, an_alternative}
use Rattle.well_typed.specs.Places.{LoopAround}
use Rattle.lower_rules.specs.Spots.{Ways}
use Rattle.lower_rules.specs.Build as build
use Rattle.lower_rules.specs.Build.{LoweringFrame, BlockRest, Building, Lowers, ending, closed, jumps_if, act, act_by, is_last, done_by, nothing, from_changed, then_lower, branches, panic_drops, drop_one, replaces, taken, tests, if_true, joined, put_into}
use Rattle.lower_rules.specs.Lower as lower
use Rattle.lower_rules.specs.Lower.{LowersArm, NodeLower, guard_from}
use Rattle.lower_rules.proofs.LaidBlocks.{grows_not}
use Rattle.lower_rules.proofs.Lines as lines
use Rattle.lower_laws.proofs.Base as base
use Rattle.lower_laws.proofs.Base.{Ground, untrue, and_first, and_second, and_false, both_false}
use Rattle.lower_ready.proofs.Counted as counted
use Rattle.lower_ready.proofs.Once as once
use Rattle.lower_ready.proofs.Once.{About}
use Rattle.lower_ready.proofs.OnceUses.{AllWhole}

module _ (g : Ground) (L K : ℕ) (about : About g L K) (Q : Type 0) where
  abbrev F : LoweringFrame
  F = base.F g

  abbrev Once : Type 0 → List LoopAround → Lowers → ℕ → Type 0
  Once H loops P m = once.Once g L K about Q H loops P m

  abbrev W : Bool → lines.Wanted F
  W = once.W g L K about Q

  abbrev borrows : Stmt → Bool
  borrows = once.borrows g L K about Q

  -- ---- what an effect stores into, and names
  abbrev pub NotWhole : Place → Type 0
  NotWhole place = place.local ≡ K → place.steps ≡ [] → ⊥

  abbrev pub Away : Place → Type 0
  Away place = place.local ≡ K → ⊥

  abbrev pub OperandAway : effects.Operand → Type 0
  OperandAway (effects.Copied site) = Away site.place
  OperandAway (effects.Moved site) = Away site.place
  OperandAway operand = Unit {0}

  abbrev pub AllAway : List effects.Operand → Type 0
  AllAway [] = Unit {0}
  AllAway (operand ∷ operands) = OperandAway operand × AllAway operands

  abbrev pub StoresWell : Action → Type 0
  StoresWell (effects.Put to from) = NotWhole to.place
  StoresWell (effects.Compare to operator left right) = NotWhole to.place
  StoresWell (effects.Not to operand) = NotWhole to.place
  StoresWell (effects.Build to kind parts) = NotWhole to.place
  StoresWell (effects.NewBox to content) = NotWhole to.place
  StoresWell (effects.Unsize to trait_no operand) = NotWhole to.place
  StoresWell (effects.Borrow to unique base) = NotWhole to.place
  StoresWell (effects.Compute to operator left right) = NotWhole to.place
  StoresWell (effects.Negate to operand) = NotWhole to.place
  StoresWell (effects.Call to body args) = NotWhole to.place
  StoresWell (effects.CallVirtual to trait_no method args) = NotWhole to.place
  StoresWell (effects.Ask to) = NotWhole to.place
  StoresWell action = Unit {0}

  abbrev pub NamesNone : Action → Type 0
  NamesNone (effects.Put to from) = Away to.place × AllAway (from ∷ [])
  NamesNone (effects.Compare to operator left right) = Away to.place × AllAway (left ∷ right ∷ [])
  NamesNone (effects.Not to operand) = Away to.place × AllAway (operand ∷ [])
  NamesNone (effects.Build to kind parts) = Away to.place × AllAway parts
  NamesNone (effects.NewBox to content) = Away to.place × AllAway (content ∷ [])
  NamesNone (effects.Unsize to trait_no operand) = Away to.place × AllAway (operand ∷ [])
  NamesNone (effects.Borrow to unique base) = Away to.place × Away base.place
  NamesNone (effects.Touch base) = Away base.place
  NamesNone (effects.Print operand) = AllAway (operand ∷ [])
  NamesNone (effects.Forget operand) = AllAway (operand ∷ [])
  NamesNone (effects.Free box) = Away box.place
  NamesNone (effects.Compute to operator left right) = Away to.place × AllAway (left ∷ right ∷ [])
  NamesNone (effects.Negate to operand) = Away to.place × AllAway (operand ∷ [])
  NamesNone (effects.Bounds index count) = AllAway (index ∷ [])
  NamesNone (effects.Call to body args) = Away to.place × AllAway args
  NamesNone (effects.CallVirtual to trait_no method args) = Away to.place × AllAway args
  NamesNone (effects.Ask to) = Away to.place

  -- a borrow may go there, and a call may take what is there
  abbrev pub UsesWell : Action → Type 0
  UsesWell (effects.Borrow to unique base) = Away base.place × (Away to.place ⊎ (once.whole g L K about Q (build.place_of F to) ≡ true))
  UsesWell (effects.Call to body args) = Away to.place × AllWhole (map (build.operand_of F) args)
  UsesWell (effects.CallVirtual to trait_no method args) = Away to.place × AllWhole (map (build.operand_of F) args)
  UsesWell action = NamesNone action

  both_so : (a b : Bool) → a ≡ true → b ≡ true → a && b ≡ true
  both_so true b e d = d
  both_so false b e d = e

  is_away : (place : Place) → Away place → not (g.local_of place.local == L) ≡ true
  is_away place h = ap not (once.away g L K about Q place.local h)

  not_whole : (site : EffectSite) → NotWhole site.place → once.whole g L K about Q (build.place_of F site) || false ≡ false
  not_whole site h = by site.place.steps refl
    where
      test : List Step → Bool
      test steps = once.whole g L K about Q (record { local = g.local_of site.place.local; steps = map (build.step_of F) steps }) || false

      by : (steps : List Step) → site.place.steps ≡ steps → test site.place.steps ≡ false
      by [] e = ap test e ∙ ap (λ (b : Bool). ((b && true) && true) || false) (once.away g L K about Q site.place.local (λ k. h k e))
      by (step ∷ steps) e = ap test e ∙ none (g.local_of site.place.local == L)
        where
          none : (b : Bool) → ((b && false) && true) || false ≡ false
          none true = refl
          none false = refl

  -- of uses, and of places
  abbrev Elsewhere : List (PlaceUse × graph_place.Place) → Type 0
  Elsewhere uses = list_all (once.elsewhere g L K about Q) (map place_used uses) ≡ true

  uses_append : (xs ys : List (PlaceUse × graph_place.Place)) → Elsewhere xs → Elsewhere ys → Elsewhere (xs ++ ys)
  uses_append [] ys h k = k
  uses_append (x ∷ xs) ys h k = both_so _ _ (and_first (once.elsewhere g L K about Q x.1) _ h) (uses_append xs ys (and_second (once.elsewhere g L K about Q x.1) _ h) k)

  places_append : (xs ys : List graph_place.Place) → list_all (once.elsewhere g L K about Q) xs ≡ true → list_all (once.elsewhere g L K about Q) ys ≡ true → list_all (once.elsewhere g L K about Q) (xs ++ ys) ≡ true
  places_append [] ys h k = k
  places_append (x ∷ xs) ys h k = both_so _ _ (and_first (once.elsewhere g L K about Q x) _ h) (places_append xs ys (and_second (once.elsewhere g L K about Q x) _ h) k)

  operand_away : (operand : effects.Operand) → OperandAway operand → Elsewhere (operand_uses (build.operand_of F operand))
  operand_away (effects.Copied site) h = both_so _ _ (is_away site.place h) refl
  operand_away (effects.Moved site) h = both_so _ _ (is_away site.place h) refl
  operand_away (effects.Number value kind) h = refl
  operand_away (effects.Truth value) h = refl
  operand_away effects.UnitValue h = refl

  operands_away : (operands : List effects.Operand) → AllAway operands → Elsewhere (flat_map operand_uses (map (build.operand_of F) operands))
  operands_away [] h = refl
  operands_away (operand ∷ operands) h = uses_append (operand_uses (build.operand_of F operand)) (flat_map operand_uses (map (build.operand_of F) operands)) (operand_away operand h.0) (operands_away operands h.1)

  stored_away : (to : EffectSite) → Away to.place → Elsewhere ((Stores, build.place_of F to) ∷ [])
  stored_away to h = both_so _ _ (is_away to.place h) refl

  -- a statement with operands and a store; one with operands alone; a terminator with both
  stmt_away : (operands : List effects.Operand) (to : EffectSite) → AllAway operands → Away to.place → Elsewhere ((flat_map operand_uses (map (build.operand_of F) operands) ++ []) ++ (Stores, build.place_of F to) ∷ [])
  stmt_away operands to h k = uses_append (flat_map operand_uses (map (build.operand_of F) operands) ++ []) ((Stores, build.place_of F to) ∷ []) (uses_append (flat_map operand_uses (map (build.operand_of F) operands)) [] (operands_away operands h) refl) (stored_away to k)

  reading_away : (operands : List effects.Operand) → AllAway operands → Elsewhere ((flat_map operand_uses (map (build.operand_of F) operands) ++ []) ++ [])
  reading_away operands h = uses_append (flat_map operand_uses (map (build.operand_of F) operands) ++ []) [] (uses_append (flat_map operand_uses (map (build.operand_of F) operands)) [] (operands_away operands h) refl) refl

  term_away : (operands : List effects.Operand) (to : List graph_place.Place) → AllAway operands → list_all (once.elsewhere g L K about Q) to ≡ true → list_all (once.elsewhere g L K about Q) (map place_used (flat_map operand_uses (map (build.operand_of F) operands) ++ []) ++ to) ≡ true
  term_away operands to h k = places_append (map place_used (flat_map operand_uses (map (build.operand_of F) operands) ++ [])) to (uses_append (flat_map operand_uses (map (build.operand_of F) operands)) [] (operands_away operands h) refl) k

  one_away : (to : EffectSite) → Away to.place → list_all (once.elsewhere g L K about Q) (build.place_of F to ∷ []) ≡ true
  one_away to h = both_so _ _ (is_away to.place h) refl

  quiet_act : (node : ℕ) (action : Action) → NamesNone action → lines.ActOk F (W true) node action
  quiet_act node (effects.Put to from) h = stmt_away (from ∷ []) to h.1 h.0
  quiet_act node (effects.Compare to operator left right) h = stmt_away (left ∷ right ∷ []) to h.1 h.0
  quiet_act node (effects.Not to operand) h = stmt_away (operand ∷ []) to h.1 h.0
  quiet_act node (effects.Build to OfTuple parts) h = stmt_away parts to h.1 h.0
  quiet_act node (effects.Build to OfArray parts) h = stmt_away parts to h.1 h.0
  quiet_act node (effects.Build to (OfVariant adt variant) parts) h = stmt_away parts to h.1 h.0
  quiet_act node (effects.Build to (OfClosure closure) parts) h = stmt_away parts to h.1 h.0
  quiet_act node (effects.NewBox to content) h = stmt_away (content ∷ []) to h.1 h.0
  quiet_act node (effects.Unsize to trait_no operand) h = stmt_away (operand ∷ []) to h.1 h.0
  quiet_act node (effects.Borrow to unique base) h = both_so _ _ (is_away base.place h.1) (both_so _ _ (is_away to.place h.0) refl)
  quiet_act node (effects.Touch base) h = both_so _ _ (is_away base.place h) refl
  quiet_act node (effects.Print operand) h = reading_away (operand ∷ []) h
  quiet_act node (effects.Forget operand) h = reading_away (operand ∷ []) h
  quiet_act node (effects.Free box) h = both_so _ _ (is_away box.place h) refl
  quiet_act node (effects.Compute to operator left right) h = λ n u. term_away (left ∷ right ∷ []) (build.place_of F to ∷ []) h.1 (one_away to h.0)
  quiet_act node (effects.Negate to operand) h = λ n u. term_away (operand ∷ []) (build.place_of F to ∷ []) h.1 (one_away to h.0)
  quiet_act node (effects.Bounds index count) h = λ n u. term_away (index ∷ []) [] h refl
  quiet_act node (effects.Call to body args) h = λ n u. term_away args (build.place_of F to ∷ []) h.1 (one_away to h.0)
  quiet_act node (effects.CallVirtual to trait_no method args) h = λ n u. term_away args (build.place_of F to ∷ []) h.1 (one_away to h.0)
  quiet_act node (effects.Ask to) h = λ n u. one_away to h

  borrowed : (to : EffectSite) → Away to.place ⊎ (once.whole g L K about Q (build.place_of F to) ≡ true) → (once.elsewhere g L K about Q (build.place_of F to) ≡ true) ⊎ (once.whole g L K about Q (build.place_of F to) ≡ true)
  borrowed to (inl away) = inl (is_away to.place away)
  borrowed to (inr here) = inr here

  plain_act : (node : ℕ) (action : Action) → StoresWell action → (Q → UsesWell action) → lines.ActOk F (W false) node action
  plain_act node (effects.Put to from) h u = (not_whole to h, λ q. quiet_act node (effects.Put to from) (u q))
  plain_act node (effects.Compare to operator left right) h u = (not_whole to h, λ q. quiet_act node (effects.Compare to operator left right) (u q))
  plain_act node (effects.Not to operand) h u = (not_whole to h, λ q. quiet_act node (effects.Not to operand) (u q))
  plain_act node (effects.Build to OfTuple parts) h u = (not_whole to h, λ q. quiet_act node (effects.Build to OfTuple parts) (u q))
  plain_act node (effects.Build to OfArray parts) h u = (not_whole to h, λ q. quiet_act node (effects.Build to OfArray parts) (u q))
  plain_act node (effects.Build to (OfVariant adt variant) parts) h u = (not_whole to h, λ q. quiet_act node (effects.Build to (OfVariant adt variant) parts) (u q))
  plain_act node (effects.Build to (OfClosure closure) parts) h u = (not_whole to h, λ q. quiet_act node (effects.Build to (OfClosure closure) parts) (u q))
  plain_act node (effects.NewBox to content) h u = (not_whole to h, λ q. quiet_act node (effects.NewBox to content) (u q))
  plain_act node (effects.Unsize to trait_no operand) h u = (not_whole to h, λ q. quiet_act node (effects.Unsize to trait_no operand) (u q))
  plain_act node (effects.Borrow to unique base) h u = (refl, λ q. (is_away base.place (u q).0, borrowed to (u q).1))
  plain_act node (effects.Touch base) h u = (refl, λ q. quiet_act node (effects.Touch base) (u q))
  plain_act node (effects.Print operand) h u = (refl, λ q. quiet_act node (effects.Print operand) (u q))
  plain_act node (effects.Forget operand) h u = (refl, λ q. quiet_act node (effects.Forget operand) (u q))
  plain_act node (effects.Free box) h u = (refl, λ q. quiet_act node (effects.Free box) (u q))
  plain_act node (effects.Compute to operator left right) h u = λ n v. (not_whole to h, λ q. quiet_act node (effects.Compute to operator left right) (u q) n v)
  plain_act node (effects.Negate to operand) h u = λ n v. (not_whole to h, λ q. quiet_act node (effects.Negate to operand) (u q) n v)
  plain_act node (effects.Ask to) h u = λ n v. (not_whole to h, λ q. quiet_act node (effects.Ask to) (u q) n v)
  plain_act node (effects.Bounds index count) h u = λ n v. (refl, λ q. quiet_act node (effects.Bounds index count) (u q) n v)
  plain_act node (effects.Call to body args) h u = λ n v. (not_whole to h, λ q. (is_away to.place (u q).0, (u q).1))
  plain_act node (effects.CallVirtual to trait_no method args) h u = λ n v. (not_whole to h, λ q. (is_away to.place (u q).0, (u q).1))

  uncounted : (action : Action) → StoresWell action → counted.in_done F borrows (λ site value. refl) (done_by F action) ≡ 0
  uncounted (effects.Borrow to unique base) h = ap (λ (b : Bool). counted.one_if F borrows (λ site value. refl) b) (sym (or_false _) ∙ not_whole to h)
    where
      or_false : (b : Bool) → b || false ≡ b
      or_false true = refl
      or_false false = refl
  uncounted (effects.Build to OfTuple parts) h = refl
  uncounted (effects.Build to OfArray parts) h = refl
  uncounted (effects.Build to (OfVariant adt variant) parts) h = refl
  uncounted (effects.Build to (OfClosure closure) parts) h = refl
  uncounted other h = refl

  no_jumps : (node : ℕ) (action : Action) → (act F node action).jumps ≡ []
  no_jumps node action = by (is_last F action)
    where
      by : (b : Bool) → (act_by F b node (done_by F action)).jumps ≡ []
      by true = refl
      by false = refl

  pub acts : (H : Type 0) (loops : List LoopAround) (node : ℕ) (action : Action) → StoresWell action → (Q → UsesWell action) → (H → Q → NamesNone action) → Once H loops (act F node action) 0
  acts H loops node action s u n =
      once.simply g L K about Q H loops (act F node action) (subst (once.Adds g L K about Q (act F node action)) (uncounted action s) (counted.act_adds F borrows (λ site value. refl) node action))
      (lines.act_sound F (W false) node action (plain_act node action s u)) (λ h q. lines.act_sound F (W true) node action (quiet_act node action (n h q))) (no_jumps node action)

  -- the borrow into the local
  pub borrows_here : (H M : Type 0) (loops : List LoopAround) (node id key : ℕ) → key ≡ K → (unique : Bool) (base : EffectSite) → (Q → Away base.place) →
      (p : Once H loops (act F node (effects.Borrow (record (site_in id key) { node = node }) unique base)) 1) × once.Keeps g L K about Q (act F node (effects.Borrow (record (site_in id key) { node = node }) unique base)) M p.count
  borrows_here H M loops node id key same unique base out =
      let action = effects.Borrow (record (site_in id key) { node = node }) unique base in
      let here : (g.local_of key == L) ≡ true = subst (λ (z : ℕ). (g.local_of z == L) ≡ true) (sym same) about.here in (
        record {
          count = 1;
          adds = subst (once.Adds g L K about Q (act F node action)) (ap (λ (b : Bool). counted.one_if F borrows (λ site value. refl) ((b && true) && true)) here) (counted.act_adds F borrows (λ site value. refl) node action);
          bound = let r : 1 ≤ 1 = omega arith in r;
          plain = lines.act_sound F (W false) node action (refl, λ q. (is_away base.place (out q), inr (ap (λ (b : Bool). (b && true) && true) here)));
          quiet = λ h q z. absurd (let never : ⊥ = omega (z, arith) in never);
          stays = λ loop l is r. ap (build.is_left_by loop) (no_jumps node action);
        },
        λ e m z. let never : ⊥ = omega (z, arith) in never,
      )

  -- ---- assignments and drops
  pub replaced : (loops : List LoopAround) (x : Bool) (site : EffectSite) (key : ℕ) → NotWhole site.place → (Q → Away site.place × (key ≡ K → ⊥)) → Once (Unit {0}) loops (replaces F x site key) 0
  replaced loops true site key s n =
      once.simply g L K about Q (Unit {0}) loops (replaces F true site key) (counted.replaces_adds F borrows (λ site value. refl) (λ site key. refl) site key)
      (lines.replaces_sound F (W false) true site key (not_whole site s, λ q. stmt_away (moved site.node key ∷ []) site ((n q).1, tt) (n q).0) (λ stmts term. tt) (λ m u. (refl, λ q. both_so _ _ (is_away site.place (n q).0) refl)))
      (λ h q. lines.replaces_sound F (W true) true site key (stmt_away (moved site.node key ∷ []) site ((n q).1, tt) (n q).0) (λ stmts term. tt) (λ m u. both_so _ _ (is_away site.place (n q).0) refl)) refl
  replaced loops false site key s n =
      once.changed g L K about Q (Unit {0}) loops (taken F (key ∷ [])) (act F site.node (effects.Put site (moved site.node key))) 0 (λ b S o. lines.taken_ok F (W b) (key ∷ []) S o)
      (acts (Unit {0}) loops site.node (effects.Put site (moved site.node key)) s (λ q. ((n q).0, ((n q).1, tt))) (λ h q. ((n q).0, ((n q).1, tt))))

  pub emptied : (loops : List LoopAround) (key : ℕ) → (Q → key ≡ K → ⊥) → Once (Unit {0}) loops (record nothing { build = λ c S. drop_one F (site_of_key key) (panic_drops F S) }) 0
  emptied loops key n =
      once.simply g L K about Q (Unit {0}) loops _ (counted.drop_adds F borrows (λ site value. refl) (site_of_key key)) (lines.drop_sound F (W false) (site_of_key key) (λ m u. (refl, λ q. both_so _ _ (is_away (whole_local key) (n q)) refl)))
      (λ h q. lines.drop_sound F (W true) (site_of_key key) (λ m u. both_so _ _ (is_away (whole_local key) (n q)) refl)) refl

  -- ---- tests
  abbrev pub EqualsWell : EffectSite → Type 0
  EqualsWell site = (site.node ≡ K → ⊥) × (Q → Away site.place)

  abbrev mutual
    pub TestWell : PatternTest → Type 0
    TestWell (IsVariant site variant) = Q → Away site.place
    TestWell (IsNumber site value kind) = EqualsWell site
    TestWell (IsTruth site value) = EqualsWell site
    TestWell (AnyOf alternatives) = AnyWell alternatives

    pub TestsWell : PatternTests → Type 0
    TestsWell no_test = Unit {0}
    TestsWell (a_test first rest) = TestWell first × TestsWell rest

    pub AnyWell : Alternatives → Type 0
    AnyWell no_alternative = Unit {0}
    AnyWell (an_alternative one rest) = TestsWell one × AnyWell rest

  mutual
    quiet_test : (t : PatternTest) → TestWell t → Q → lines.OneTestOk F (W true) t
    quiet_test (IsVariant site variant) h q = λ y n. both_so _ _ (is_away site.place (h q)) refl
    quiet_test (IsNumber site value kind) h q = (stmt_away (effects.Copied site ∷ effects.Number value kind ∷ []) (site_of_key site.node) (h.1 q, (tt, tt)) h.0, λ y n. both_so _ _ (is_away (whole_local site.node) h.0) refl)
    quiet_test (IsTruth site value) h q = (stmt_away (effects.Copied site ∷ effects.Truth value ∷ []) (site_of_key site.node) (h.1 q, (tt, tt)) h.0, λ y n. both_so _ _ (is_away (whole_local site.node) h.0) refl)
    quiet_test (AnyOf alternatives) h q = quiet_any alternatives h q

    quiet_tests : (ts : PatternTests) → TestsWell ts → Q → lines.TestsOk F (W true) ts
    quiet_tests no_test h q = tt
    quiet_tests (a_test first rest) h q = (quiet_test first h.0 q, quiet_tests rest h.1 q)

    quiet_any : (ts : Alternatives) → AnyWell ts → Q → lines.AnyTestsOk F (W true) ts
    quiet_any no_alternative h q = tt
    quiet_any (an_alternative one rest) h q = (quiet_tests one h.0 q, quiet_any rest h.1 q)

  mutual
    plain_test : (t : PatternTest) → TestWell t → lines.OneTestOk F (W false) t
    plain_test (IsVariant site variant) h = λ y n. (refl, λ q. quiet_test (IsVariant site variant) h q y n)
    plain_test (IsNumber site value kind) h = ((not_whole (site_of_key site.node) (λ k e. h.0 k), λ q. (quiet_test (IsNumber site value kind) h q).0), λ y n. (refl, λ q. (quiet_test (IsNumber site value kind) h q).1 y n))
    plain_test (IsTruth site value) h = ((not_whole (site_of_key site.node) (λ k e. h.0 k), λ q. (quiet_test (IsTruth site value) h q).0), λ y n. (refl, λ q. (quiet_test (IsTruth site value) h q).1 y n))
    plain_test (AnyOf alternatives) h = plain_any alternatives h

    plain_tests : (ts : PatternTests) → TestsWell ts → lines.TestsOk F (W false) ts
    plain_tests no_test h = tt
    plain_tests (a_test first rest) h = (plain_test first h.0, plain_tests rest h.1)

    plain_any : (ts : Alternatives) → AnyWell ts → lines.AnyTestsOk F (W false) ts
    plain_any no_alternative h = tt
    plain_any (an_alternative one rest) h = (plain_tests one h.0, plain_any rest h.1)

  pub tested : (loops : List LoopAround) (node : ℕ) (ts : PatternTests) (P Q' : Lowers) (o r : ℕ) → TestsWell ts → Once (Unit {0}) loops P o → Once (Unit {0}) loops Q' r → Once (Unit {0}) loops (branches node (tests F ts) P Q') (o + r)
  tested loops node ts P Q' o r h p q =
      once.branched g L K about Q loops node (tests F ts) P Q' o r (λ y n s. counted.tests_both F borrows (λ site value. refl) ts y n s) (λ y n s. counted.tests_grow F borrows (λ site value. refl) ts y n s)
      (lines.tests_ok F (W false) ts (plain_tests ts h)) (λ k. lines.tests_ok F (W true) ts (quiet_tests ts h k)) p q

  nothing_and : (n : ℕ) → (0 + 0) + n ≡ n
  nothing_and n = let r : (0 + 0) + n ≡ n = omega arith in r

  pub asked : (loops : List LoopAround) (node key : ℕ) (P Q' : Lowers) (o r : ℕ) → (Q → key ≡ K → ⊥) → Once (Unit {0}) loops P o → Once (Unit {0}) loops Q' r → Once (Unit {0}) loops (branches node (if_true F (moved key key) key) P Q') (o + r)
  asked loops node key P Q' o r h p q =
      once.branched g L K about Q loops node (if_true F (moved key key) key) P Q' o r (λ y n s. if_both y n s) (λ y n s. grows_not s)
      (lines.if_ok F (W false) (moved key key) key (λ y n. (refl, λ k. both_so _ _ (is_away (whole_local key) (h k)) refl))) (λ k. lines.if_ok F (W true) (moved key key) key (λ y n. both_so _ _ (is_away (whole_local key) (h k)) refl)) p q
    where
      if_both : (y n : ℕ) (s : Building) → counted.both F borrows (λ site value. refl) (if_true F (moved key key) key y n s) ≡ counted.total F borrows (λ site value. refl) s
      if_both y n s = let r : 0 + counted.total F borrows (λ site value. refl) s ≡ counted.total F borrows (λ site value. refl) s = omega arith in r

  -- ---- arms
  abbrev pub ArmSound : Bool → LowersArm → Type 0
  ArmSound b one = (c : Ways) → c.returns.block ≡ 1 → (S : Scopes) (r : ℕ) (k : BlockRest) (s : Building) → lines.ScopesOk F (W b) S → lines.Ok F (W b) s → lines.RestOk F (W b) k → lines.Both F (W b) (one.build c S r k s)

  pub record ArmOnce (loops : List LoopAround) (one : LowersArm) (most : ℕ) : Type 0 where
    pub count : ℕ
    pub adds : counted.ArmAdds F borrows (λ site value. refl) one count
    pub bound : count ≤ most
    pub plain : ArmSound false one
    pub quiet : Q → count ≡ 0 → ArmSound true one
    pub stays : once.Stays g L K about Q loops one.jumps

  pub unguarded : (loops : List LoopAround) (P : Lowers) (m : ℕ) → Once (Unit {0}) loops P m → ArmOnce loops (record { has_end = P.has_end; jumps = P.jumps; build = λ c S n k s. P.build c S k s }) m
  unguarded loops P m p = record {
    count = p.count;
    adds = counted.unguarded_adds F borrows (λ site value. refl) P p.count p.adds;
    bound = p.bound;
    plain = λ c w S r k s o h l. p.plain.lines c w S k s o h l;
    quiet = λ q z c w S r k s o h l. (p.quiet tt q z).lines c w S k s o h l;
    stays = p.stays;
  }

  pub more_arm : (loops : List LoopAround) (one : LowersArm) (m n : ℕ) → m ≤ n → ArmOnce loops one m → ArmOnce loops one n
  more_arm loops one m n le p = record { count = p.count; adds = p.adds; bound = (let b = p.bound in let r : p.count ≤ n = omega (b, le, arith) in r); plain = p.plain; quiet = p.quiet; stays = p.stays }

  pub guarded : (loops : List LoopAround) (key : ℕ) (guard P : Lowers) (m n : ℕ) → (guard.has_end ≡ true → Q → key ≡ K → ⊥) → Once (Unit {0}) loops guard m → Once (Unit {0}) loops P n → ArmOnce loops (counted.with_guard F borrows (λ site value. refl) key guard P) (m + n)
  guarded loops key guard P m n out a p = by guard.has_end refl
    where
      sound : (b : Bool) → once.Sound g L K about Q b guard → once.Sound g L K about Q b P → (guard.has_end ≡ true → (y n : ℕ) → once.TermIs g L K about Q b (Term.If (build.operand_of F (moved key key)) y n)) → ArmSound b (counted.with_guard F borrows (λ site value. refl) key guard P)
      sound b x y t c w S r k s o h l = on guard.has_end refl
        where
          on : (z : Bool) → guard.has_end ≡ z → lines.Both F (W b) (guard_from F z guard key P c S r k s)
          on true e =
              let it = y.lines c w S k s o h l in
              let d = P.build c S k s in
              let made = lines.closed_ok F (W b) Kind.Plain d.0 d.1 it.0 it.1 in
              x.lines c w S (ending (Term.If (build.operand_of F (moved key key)) (length d.1.blocks) r) key) (closed Kind.Plain d.0 d.1) o made (tt, t e (length d.1.blocks) r)
          on false e = x.lines c w S k s o h l

      quiet_if : guard.has_end ≡ true → Q → (y n : ℕ) → once.TermIs g L K about Q true (Term.If (build.operand_of F (moved key key)) y n)
      quiet_if e q y n = both_so _ _ (is_away (whole_local key) (out e q)) refl

      jumping : (js : List Exit) → once.Stays g L K about Q loops js → once.Stays g L K about Q loops (guard.jumps ++ js)
      jumping js h = once.stays_append g L K about Q loops guard.jumps js a.stays h

      by : (z : Bool) → guard.has_end ≡ z → ArmOnce loops (counted.with_guard F borrows (λ site value. refl) key guard P) (m + n)
      by z e = record {
        count = a.count + counted.if_end z p.count;
        adds = subst (λ (x : Bool). counted.ArmAdds F borrows (λ site value. refl) (counted.with_guard F borrows (λ site value. refl) key guard P) (a.count + counted.if_end x p.count)) e (counted.guarded_adds F borrows (λ site value. refl) key guard P a.count p.count a.adds (λ e. p.adds));
        bound = under z;
        plain = sound false a.plain p.plain (λ e y n. (refl, λ q. quiet_if e q y n));
        quiet = λ q none. sound_if q z e none;
        stays = jumping (jumps_if guard.has_end P.jumps) (once.stays_if g L K about Q loops guard.has_end P.jumps (λ e. p.stays));
      }
        where
          under : (z : Bool) → a.count + counted.if_end z p.count ≤ m + n
          under true = once.sum_under g L K about Q a.count p.count m n a.bound p.bound
          under false = let b = a.bound in let r : a.count + 0 ≤ m + n = omega (b, arith) in r

          stopped : (b : Bool) → once.Sound g L K about Q b guard → guard.has_end ≡ false → ArmSound b (counted.with_guard F borrows (λ site value. refl) key guard P)
          stopped b x e c w S r k s o h l = on guard.has_end e
            where
              on : (z : Bool) → z ≡ false → lines.Both F (W b) (guard_from F z guard key P c S r k s)
              on true e = absurd (untrue (sym e))
              on false e = x.lines c w S k s o h l

          sound_if : Q → (z : Bool) → guard.has_end ≡ z → a.count + counted.if_end z p.count ≡ 0 → ArmSound true (counted.with_guard F borrows (λ site value. refl) key guard P)
          sound_if q true e none = sound true (a.quiet tt q (once.first_none g L K about Q a.count p.count none)) (p.quiet tt q (once.second_none g L K about Q a.count p.count none)) (λ e. quiet_if e q)
          sound_if q false e none = stopped true (a.quiet tt q (once.first_none g L K about Q a.count 0 none)) e

  pub behind_tests : (loops : List LoopAround) (ts : PatternTests) (one : LowersArm) (m : ℕ) → TestsWell ts → ArmOnce loops one m →
      ArmOnce loops (record one { build = λ c S n k s. let d = one.build c S n k s in tests F ts (length d.1.blocks) n (closed Kind.Plain d.0 d.1) }) m
  behind_tests loops ts one m h p = record {
    count = p.count;
    adds = counted.tested_adds F borrows (λ site value. refl) ts one p.count p.adds;
    bound = p.bound;
    plain = sound false (plain_tests ts h) p.plain;
    quiet = λ q z. sound true (quiet_tests ts h q) (p.quiet q z);
    stays = p.stays;
  }
    where
      sound : (b : Bool) → lines.TestsOk F (W b) ts → ArmSound b one → ArmSound b (record one { build = λ c S n k s. let d = one.build c S n k s in tests F ts (length d.1.blocks) n (closed Kind.Plain d.0 d.1) })
      sound b t x c w S r k s o hs l =
          let i = x c w S r k s o hs l in
          let d = one.build c S r k s in
          lines.tests_ok F (W b) ts t (length d.1.blocks) r (closed Kind.Plain d.0 d.1) (lines.closed_ok F (W b) Kind.Plain d.0 d.1 i.0 i.1)

  module _ (loops : List LoopAround) (node : ℕ) (matched : Place) (a : LoopsAndGuards) (to : Destination) where
    pub data ArmsOnce : List NodeLower → ℕ → Type 0 where
      no_arm : ArmsOnce [] 0
      an_arm : (one : NodeLower) (others : List NodeLower) (m n : ℕ) → ArmOnce loops (one.arm matched a to) m → ArmsOnce others n → ArmsOnce (one ∷ others) (m + n)

    abbrev pub ArmsSound : Bool → List NodeLower → Type 0
    ArmsSound b ms = (c : Ways) → c.returns.block ≡ 1 → (S : Scopes) (k : BlockRest) (s : Building) → lines.ScopesOk F (W b) S → lines.Ok F (W b) s → lines.RestOk F (W b) k → lines.Both F (W b) (lower.arms_from F node ms matched a to c S k s)

    pub record Armed (ms : List NodeLower) (most : ℕ) : Type 0 where
      pub count : ℕ
      pub adds : counted.ArmsAdd F borrows (λ site value. refl) node matched a to ms count
      pub bound : count ≤ most
      pub plain : ArmsSound false ms
      pub quiet : Q → count ≡ 0 → ArmsSound true ms
      pub stays : once.Stays g L K about Q loops (lower.arm_jumps F ms matched a to)

    none_sound : (b : Bool) → ArmsSound b []
    none_sound b c w S k s o h l = lines.panic_both F (W b) (Term.Panic Why.Match) node (λ u. once.panic_is g L K about Q b Why.Match u) S o s h

    more_sound : (b : Bool) (one : NodeLower) (others : List NodeLower) → ArmSound b (one.arm matched a to) → ArmsSound b others → ArmsSound b (one ∷ others)
    more_sound b one others x y c w S k s o h l =
        let d = lower.arms_from F node others matched a to c S k s in
        let i = y c w S k s o h l in
        x c w S (length d.1.blocks) k (closed Kind.Plain d.0 d.1) o (lines.closed_ok F (W b) Kind.Plain d.0 d.1 i.0 i.1) l

    armed : (ms : List NodeLower) (n : ℕ) → ArmsOnce ms n → Armed ms n
    armed _ _ no_arm = record {
      count = 0;
      adds = counted.no_arm_adds;
      bound = let r : 0 ≤ 0 = omega arith in r;
      plain = none_sound false;
      quiet = λ q z. none_sound true;
      stays = λ loop l is r. refl;
    }
    armed _ _ (an_arm one others m n x xs) =
        let rest = armed others n xs in
        record {
          count = x.count + rest.count;
          adds = counted.an_arm_adds one others x.count rest.count x.adds rest.adds;
          bound = once.sum_under g L K about Q x.count rest.count m n x.bound rest.bound;
          plain = more_sound false one others x.plain rest.plain;
          quiet = λ q z. more_sound true one others (x.quiet q (once.first_none g L K about Q x.count rest.count z)) (rest.quiet q (once.second_none g L K about Q x.count rest.count z));
          stays = once.stays_append g L K about Q loops (one.arm matched a to).jumps (lower.arm_jumps F others matched a to) x.stays rest.stays;
        }

    in_order_sound : (b : Bool) (ms : List NodeLower) → ArmsSound b ms → once.Sound g L K about Q b (lower.arms_in_order F node ms matched a to)
    in_order_sound b ms x = record {
      after = λ e S o. o;
      lines = λ c w S k s o h l.
          let ends = lower.arms_end F ms matched a to in
          let j = joined ends node k s in
          let jo = lines.joined_ok F (W b) ends node k s h l in
          x c w S j.0 j.1 o jo.0 jo.1;
    }

    pub in_order : (ms : List NodeLower) (n : ℕ) → ArmsOnce ms n → Once (Unit {0}) loops (lower.arms_in_order F node ms matched a to) n
    in_order ms n all =
        let x = armed ms n all in
        record {
          count = x.count;
          adds = counted.arms_add F borrows (λ site value. refl) node matched a to ms x.count x.adds;
          bound = x.bound;
          plain = in_order_sound false ms x.plain;
          quiet = λ h q z. in_order_sound true ms (x.quiet q z);
          stays = x.stays;
        }
