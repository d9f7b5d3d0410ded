-- A run of a source and the walk of its graph, step by step: what it is that a walk does what a run did, and lines that
-- do one action.
use Rattle.std.proofs.Common.{◌≡◌, inl, inr, ℕ, suc, ◌≤◌, nat_lt, Bool, true, false, not, List, [], ◌∷◌, ◌++◌, length, Option, Some, None, slice_get, if◌then◌else◌, refl, sym, ap, ◌∙◌, subst, arith}
use Rattle.std.proofs.lemmas.Option.{none-some}
use Rattle.cfg_graph.specs.declared.graph.Block.{Block}
use Rattle.cfg_graph.specs.declared.terminator.Term.{Term}
use Rattle.cfg_graph.specs.declared.terminator.Unwind as graph
use Rattle.cfg_meaning.specs.Walk.{◌>>=◌, fork, renamed, unwinding, stmts_do, acts, term_does}
use Rattle.store_model.proofs.Effects.Laws.{NoMore}
use Rattle.store_model.specs.Effects.{EffectSite, Action, Normal, Unwinding, Aborted, Stuck, Out, Go, Unwind, Halts, aborting, Effects, DoesNotGoOn}
use Rattle.src_meaning.specs.Forms.{block}
use Rattle.src_meaning.specs.Locals.Effects.{site_at as site_on, action_at, at_locals}
use Rattle.src_meaning.specs.Scopes.{Entry, Scope, Scopes, needing_drop, Value, Breaks, Continues, Returns, Panics, Run, At, Over, Does, on_value, ◌>>◌, in_scopes, doing, changing, entry_site}
use Rattle.lower_rules.specs.CodeLaws.{without_place}
use Rattle.lower_rules.specs.Spots.{CodePos, JumpWay, Ways, ways_of, CodeSpot, Then, Changes, action_of_term, panic_drops, StepAt, TermAt, StmtAt, Leads, stays, goes, Joins, CleanAt, Cleans, IsLast, ActionTermAt, Acts, by_statement, by_terminator, by_last_statement, by_last_terminator, DropsAt, AllDropAt}
use Rattle.lower_rules.proofs.TiedWalks.{NoUnwind, or_else, skip, skip_at, skip_end, TiedWalk}

module _ {W : Type 0} (walking : TiedWalk W) where
  open walking use {t, p, q, size, bound, laws, tied, settled, Walk, walks}

  abbrev pub keyed : Effects W
  keyed = at_locals t.local_of p

  abbrev pub from_block : Option Block → CodePos → W → Out W
  from_block None b w = Halts Stuck w
  from_block (Some block) b w = stmts_do q (t.node b.0) b.1 (skip b.1 block.stmts) (term_does q (t.node b.0 (length block.stmts)) block.term Walk) w

  -- what the walk does from a line of a block on
  abbrev pub From : CodePos → W → Out W
  From b w = from_block (slice_get t.body.blocks b.0) b w

  abbrev pub unwinds : List Entry → W → Out W
  unwinds [] w = Unwind w
  unwinds (e ∷ es) w = aborting (q.drop Unwinding (site_on t.local_of (entry_site e)) w) (unwinds es)

  abbrev pub drops : List Entry → Scopes → (W → Out W) → W → Out W
  drops [] S next w = next w
  drops (e ∷ es) S next w = fork (q.drop Normal (site_on t.local_of (entry_site e)) w) (drops es S next) (unwinds (es ++ panic_drops t S))

  abbrev dropped_of : Scope → List Entry
  dropped_of s = needing_drop t.items s.entries

  abbrev pub leave_if : Bool → (W → Out W) → (W → Out W) → W → Out W
  leave_if true leaves stay w = leaves w
  leave_if false leaves stay w = stay w

  -- scopes are left until so many stay
  abbrev pub leave_to : ℕ → Scopes → (W → Out W) → W → Out W
  leave_to base [] next w = next w
  leave_to base (s ∷ S) next w = leave_if (not (nat_lt (length S) base)) (drops (dropped_of s) S (leave_to base S next)) next w

  -- all jumps are to places with no more scopes
  pub record Within (c : Ways) (n : ℕ) : Type 0 where
    pub returns : c.returns.base ≤ n
    pub breaks : (loop : ℕ) → (ways_of loop c).breaks.base ≤ n
    pub continues : (loop : ℕ) → (ways_of loop c).continues.base ≤ n

  pub deeper : (c : Ways) (n : ℕ) → Within c n → Within c (suc n)
  deeper c n h = record {
    returns = let k = h.returns in omega arith;
    breaks = λ loop. let k = h.breaks loop in omega arith;
    continues = λ loop. let k = h.continues loop in omega arith;
  }

  abbrev pub Jumps : JumpWay → (m n : ℕ) → Scopes → W → Out W → Type 0
  Jumps way m n S w out = (length S ≡ n) × (size w ≤ m) × (way.is_used ≡ true) × (out ≡ leave_to way.base S (Walk way.block) w)

  -- A walk does what a run did, and goes on where the run goes on: m bounds what is left, n is the number of scopes
  -- around the node, and S' and b' are the scopes and the place after it.
  abbrev pub Ends : Ways → (m n : ℕ) → Scopes → CodePos → Run W → Out W → Type 0
  Ends c m n S' b' (At Value S w) out = (S ≡ S') × (length S ≡ n) × (size w ≤ m) × (out ≡ From b' w)
  Ends c m n S' b' (At (Breaks loop) S w) out = Jumps (ways_of loop c).breaks m n S w out
  Ends c m n S' b' (At (Continues loop) S w) out = Jumps (ways_of loop c).continues m n S w out
  Ends c m n S' b' (At Returns S w) out = Jumps c.returns m n S w out
  Ends c m n S' b' (At Panics S w) out = (size w ≤ m) × (out ≡ unwinds (panic_drops t S) w)
  Ends c m n S' b' (Over halt w) out = out ≡ Halts (without_place halt) w

  -- what is done in scopes, and where its code stands
  abbrev pub Sim : Ways → Does W → CodeSpot → Type 0
  Sim c f P =
      (S : Scopes) (b : CodePos) (S' : Scopes) (b' : CodePos) → Within c (length S) → P S b S' b' → (w : W) → size w ≤ bound → Ends c (size w) (length S) S' b' (f S w) (From b w)

  -- ---- the walk at a place
  ended : (block : Block) (b l : ℕ) → l ≡ length block.stmts → (w : W) →
      stmts_do q (t.node b) l (skip l block.stmts) (term_does q (t.node b (length block.stmts)) block.term Walk) w ≡ term_does q (t.node b l) block.term Walk w
  ended block b l e w =
      subst (λ l. stmts_do q (t.node b) l (skip l block.stmts) (term_does q (t.node b (length block.stmts)) block.term Walk) w ≡ term_does q (t.node b l) block.term Walk w) (sym e)
      (ap (λ ss. stmts_do q (t.node b) (length block.stmts) ss (term_does q (t.node b (length block.stmts)) block.term Walk) w) (skip_end block.stmts))

  at_end : (b : CodePos) (block : Block) → slice_get t.body.blocks b.0 ≡ Some block → b.1 ≡ length block.stmts → (w : W) → From b w ≡ term_does q (t.node b.0 b.1) block.term Walk w
  at_end b block h l w = ap (λ o. from_block o b w) h ∙ ended block b.0 b.1 l w

  pub at_term : (term : Term) (b : CodePos) → TermAt t term b → (w : W) → From b w ≡ term_does q (t.node b.0 b.1) term Walk w
  at_term term b h w = at_end b h.0 h.1 h.2 w ∙ ap (λ x. term_does q (t.node b.0 b.1) x Walk w) h.3

  pub at_stmt : (action : Action) (b b' : CodePos) → StmtAt t action b b' → (w : W) → From b w ≡ ◌>>=◌ (q.act (action_at t.local_of action) w) (From b')
  at_stmt action b b' h w =
      ap (λ o. from_block o b w) h.2
      ∙ ap (λ ss. stmts_do q (t.node b.0) b.1 ss (term_does q (t.node b.0 (length h.0.stmts)) h.0.term Walk) w) (skip_at h.0.stmts b.1 h.1 h.3)
      ∙ ap (λ a. ◌>>=◌ (q.act a w) (stmts_do q (t.node b.0) (suc b.1) (skip (suc b.1) h.0.stmts) (term_does q (t.node b.0 (length h.0.stmts)) h.0.term Walk))) h.4
      ∙ ap (λ o. ◌>>=◌ (q.act (action_at t.local_of action) w) (from_block o (b.0, suc b.1))) (sym h.2)
      ∙ ap (λ z. ◌>>=◌ (q.act (action_at t.local_of action) w) (From z)) (sym h.5)

  pub enters : (n : ℕ) → StepAt t n → (w : W) → size w ≤ bound → Walk n w ≡ From (n, 0) w
  enters n h w l = walks.plain n h.0 h.1 h.2 w l ∙ sym (ap (λ o. from_block o (n, 0) w) h.1)

  pub leads_walk : (b b' : CodePos) → Leads t b b' → (w : W) → size w ≤ bound → From b w ≡ From b' w
  leads_walk b b' stays w l = refl
  leads_walk b b' (goes n h k) w l = at_term (Term.Goto n) b h w ∙ enters n k w l

  aborting_same : (o : Out W) (m : ℕ) → NoMore size m o → (f f' : W → Out W) → ((v : W) → size v ≤ m → f v ≡ f' v) → fork o f (λ v. Halts Aborted v) ≡ aborting o f'
  aborting_same (Go v) m l f f' e = e v l
  aborting_same (Unwind v) m l f f' e = refl
  aborting_same (Halts halt v) m l f f' e = refl

  fork_same : (o : Out W) (m : ℕ) → NoMore size m o → (f f' g g' : W → Out W) → ((v : W) → size v ≤ m → f v ≡ f' v) → ((v : W) → size v ≤ m → g v ≡ g' v) → fork o f g ≡ fork o f' g'
  fork_same (Go v) m l f f' g g' e d = e v l
  fork_same (Unwind v) m l f f' g g' e d = d v l
  fork_same (Halts halt v) m l f f' g g' e d = refl

  pub clean_walk : (es : List Entry) (b : CodePos) → CleanAt t es b → (w : W) → size w ≤ bound → From b w ≡ unwinds es w
  clean_walk [] b h w l = at_term Term.Resume b h w
  clean_walk (e ∷ es) b h w l =
      at_term (Term.DropAt h.0 h.1 graph.Unwind.Abort) b h.2 w
      ∙ ap (λ s. fork (q.drop Unwinding s w) (Walk h.1) (λ v. Halts Aborted v)) h.3
      ∙ aborting_same (q.drop Unwinding (site_on t.local_of (entry_site e)) w) (size w) (laws.dropping Unwinding _ w) (Walk h.1) (unwinds es)
      (λ v k. enters h.1 h.4 v (omega arith) ∙ clean_walk es (h.1, 0) h.5 v (omega arith))

  pub cleans_walk : (es : List Entry) (u : graph.Unwind) → Cleans t es u → (w : W) → size w ≤ bound → unwinding u Walk w ≡ unwinds es w
  cleans_walk es (graph.Unwind.Block n) h w l = enters n h.0 w l ∙ clean_walk es (n, 0) h.1 w l
  cleans_walk es graph.Unwind.Resume h w l = ap (λ es. unwinds es w) (sym h)
  cleans_walk es graph.Unwind.Abort h w l = absurd h

  pub drop_walk : (site : EffectSite) (es : List Entry) (b b' : CodePos) → DropsAt t site es b b' → (w : W) → size w ≤ bound →
      From b w ≡ fork (q.drop Normal (site_on t.local_of site) w) (From b') (unwinds es)
  drop_walk site es b b' h w l =
      at_term (Term.DropAt h.0 h.1 h.2) b h.3 w ∙ by_unwind h.2 h.5
    where
      by_unwind : (u : graph.Unwind) → Cleans t es u →
          term_does q (t.node b.0 b.1) (Term.DropAt h.0 h.1 u) Walk w ≡ fork (q.drop Normal (site_on t.local_of site) w) (From b') (unwinds es)
      by_unwind graph.Unwind.Abort k = absurd k
      by_unwind graph.Unwind.Resume k =
          ap (λ s. fork (q.drop Normal s w) (Walk h.1) (λ v. Unwind v)) h.4
          ∙ fork_same (q.drop Normal (site_on t.local_of site) w) (size w) (laws.dropping Normal _ w) _ _ _ _
          (λ v j. enters h.1 h.6.0 v (omega arith) ∙ ap (λ z. From z v) (sym h.6.1)) (λ v j. cleans_walk es graph.Unwind.Resume k v (omega arith))
      by_unwind (graph.Unwind.Block n) k =
          ap (λ s. fork (q.drop Normal s w) (Walk h.1) (Walk n)) h.4
          ∙ fork_same (q.drop Normal (site_on t.local_of site) w) (size w) (laws.dropping Normal _ w) _ _ _ _
          (λ v j. enters h.1 h.6.0 v (omega arith) ∙ ap (λ z. From z v) (sym h.6.1)) (λ v j. cleans_walk es (graph.Unwind.Block n) k v (omega arith))

  pub drops_walk : (es : List Entry) (S : Scopes) (b b' : CodePos) → AllDropAt t es S b b' → (w : W) → size w ≤ bound → From b w ≡ drops es S (From b') w
  drops_walk [] S b b' h w l = ap (λ z. From z w) h
  drops_walk (e ∷ es) S b b' h w l =
      drop_walk (entry_site e) (es ++ panic_drops t S) b h.0 h.1 w l
      ∙ fork_same (q.drop Normal (site_on t.local_of (entry_site e)) w) (size w) (laws.dropping Normal _ w) _ _ _ _ (λ v j. drops_walk es S h.0 b' h.2 v (omega arith)) (λ v j. refl)

  pub drops_same : (es : List Entry) (S : Scopes) (f f' : W → Out W) → ((v : W) → size v ≤ bound → f v ≡ f' v) → (w : W) → size w ≤ bound → drops es S f w ≡ drops es S f' w
  drops_same [] S f f' e w l = e w l
  drops_same (x ∷ es) S f f' e w l =
      fork_same (q.drop Normal (site_on t.local_of (entry_site x)) w) (size w) (laws.dropping Normal _ w) _ _ _ _ (λ v j. drops_same es S f f' e v (omega arith)) (λ v j. refl)

  -- ---- runs and walks
  pub pre : (c : Ways) (k m n : ℕ) (S' : Scopes) (b' : CodePos) (r : Run W) (out out' : Out W) → k ≤ m → out ≡ out' → Ends c k n S' b' r out' → Ends c m n S' b' r out
  pre c k m n S' b' (At Value S w) out out' l e h = (h.0, h.1, omega (arith, h.2), e ∙ h.3)
  pre c k m n S' b' (At (Breaks loop) S w) out out' l e h = (h.0, omega (arith, h.1), h.2, e ∙ h.3)
  pre c k m n S' b' (At (Continues loop) S w) out out' l e h = (h.0, omega (arith, h.1), h.2, e ∙ h.3)
  pre c k m n S' b' (At Returns S w) out out' l e h = (h.0, omega (arith, h.1), h.2, e ∙ h.3)
  pre c k m n S' b' (At Panics S w) out out' l e h = (omega (arith, h.0), e ∙ h.1)
  pre c k m n S' b' (Over halt w) out out' l e h = e ∙ h

  -- on from the place after
  pub post : (c : Ways) (m n : ℕ) (S' : Scopes) (b b' : CodePos) (r : Run W) (out : Out W) → m ≤ bound → Leads t b b' → Ends c m n S' b r out → Ends c m n S' b' r out
  post c m n S' b b' (At Value S w) out l e h = (h.0, h.1, h.2, h.3 ∙ leads_walk b b' e w (let k = h.2 in omega arith))
  post c m n S' b b' (At (Breaks loop) S w) out l e h = h
  post c m n S' b b' (At (Continues loop) S w) out l e h = h
  post c m n S' b b' (At Returns S w) out l e h = h
  post c m n S' b b' (At Panics S w) out l e h = h
  post c m n S' b b' (Over halt w) out l e h = h

  -- code without an end never comes to a value
  a_scope : Scope
  a_scope = record { node = 0; for_temporaries = false; entries = []; pending = [] }

  pub endless_ends : (c : Ways) (m : ℕ) (S S' : Scopes) (b' : CodePos) (r : Run W) (f : Does W) (out : Out W) → ((S1 : Scopes) (b1 : CodePos) → Ends c m (length S) S1 b1 r out) →
      Ends c m (length S) S' b' (on_value r f) out
  endless_ends c m S S' b' (At Value S1 w) f out h =
      let e = h (a_scope ∷ S) (0, 0) in
      let k : length S ≡ suc (length S) = sym e.1 ∙ ap length e.0 in
      absurd (let never : ⊥ = omega arith in never)
  endless_ends c m S S' b' (At (Breaks loop) S1 w) f out h = h S' b'
  endless_ends c m S S' b' (At (Continues loop) S1 w) f out h = h S' b'
  endless_ends c m S S' b' (At Returns S1 w) f out h = h S' b'
  endless_ends c m S S' b' (At Panics S1 w) f out h = h S' b'
  endless_ends c m S S' b' (Over halt w) f out h = h S' b'

  pub value_ends : (c : Ways) (m n : ℕ) (S1 : Scopes) (b1 : CodePos) (S' : Scopes) (b' : CodePos) (r : Run W) (f : Does W) (out : Out W) → m ≤ bound → Ends c m n S1 b1 r out →
      (length S1 ≡ n → (w : W) → size w ≤ bound → Ends c (size w) (length S1) S' b' (f S1 w) (From b1 w)) → Ends c m n S' b' (on_value r f) out
  value_ends c m n S1 b1 S' b' (At Value S w) f out l h rest =
      subst (λ z. Ends c m n S' b' (f z w) out) (sym h.0)
      (let same : length S1 ≡ n = ap length (sym h.0) ∙ h.1 in
      let k : size w ≤ bound = (let j = h.2 in omega arith) in
      pre c (size w) m n S' b' (f S1 w) out (From b1 w) h.2 h.3 (subst (λ i. Ends c (size w) i S' b' (f S1 w) (From b1 w)) same (rest same w k)))
  value_ends c m n S1 b1 S' b' (At (Breaks loop) S w) f out l h rest = h
  value_ends c m n S1 b1 S' b' (At (Continues loop) S w) f out l h rest = h
  value_ends c m n S1 b1 S' b' (At Returns S w) f out l h rest = h
  value_ends c m n S1 b1 S' b' (At Panics S w) f out l h rest = h
  value_ends c m n S1 b1 S' b' (Over halt w) f out l h rest = h

  pub then_sim : (c : Ways) (f g : Does W) (P Q : CodeSpot) → Sim c f P → Sim c g Q → Sim c (f >> g) (Then P Q)
  then_sim c f g P Q sf sg S b S' b' within (inl none) w l =
      endless_ends c (size w) S S' b' (f S w) g (From b w) (λ S1 b1. sf S b S1 b1 within (none S1 b1) w l)
  then_sim c f g P Q sf sg S b S' b' within (inr h) w l =
      value_ends c (size w) (length S) h.0 h.1 S' b' (f S w) g (From b w) l (sf S b h.0 h.1 within h.2 w l)
      (λ same v k. sg h.0 h.1 S' b' (subst (Within c) (sym same) within) h.3 v k)

  pub changes_sim : (c : Ways) (change : Scopes → Scopes) → ((S : Scopes) → length (change S) ≡ length S) → Sim c (changing change) (Changes change)
  changes_sim c change keeps S b S' b' within h w l = (sym h.0, keeps S, omega arith, ap (λ z. From z w) h.1)

  pub joins_sim : (c : Ways) (f : Does W) (P : CodeSpot) → Sim c f P → Sim c f (Joins t P)
  joins_sim c f P sim S b S' b' within h w l = post c (size w) (length S) S' h.0 b' (f S w) (From b w) l h.2 (sim S b S' h.0 within h.1 w l)

  -- an effect
  stmt_ends : (c : Ways) (m n : ℕ) (S : Scopes) (b' : CodePos) (out : Out W) (o : Out W) → length S ≡ n → NoMore size m (renamed without_place o) → NoUnwind (renamed without_place o) →
      out ≡ ◌>>=◌ (renamed without_place o) (From b') → Ends c m n S b' (in_scopes S o) out
  stmt_ends c m n S b' out (Go w) i l u e = (refl, i, l, e)
  stmt_ends c m n S b' out (Unwind w) i l u e = absurd u
  stmt_ends c m n S b' out (Halts halt w) i l u e = e

  pub term_ends : (c : Ways) (m n : ℕ) (S : Scopes) (b' : CodePos) (out : Out W) (o : Out W) → length S ≡ n → NoMore size m (renamed without_place o) →
      out ≡ fork (renamed without_place o) (From b') (unwinds (panic_drops t S)) → Ends c m n S b' (in_scopes S o) out
  term_ends c m n S b' out (Go w) i l e = (refl, i, l, e)
  term_ends c m n S b' out (Unwind w) i l e = (l, e)
  term_ends c m n S b' out (Halts halt w) i l e = e

  -- the last effect of a run
  last_stmt_ends : (c : Ways) (m n : ℕ) (S S' : Scopes) (b1 b' : CodePos) (out : Out W) (o : Out W) → DoesNotGoOn (renamed without_place o) → NoUnwind (renamed without_place o) →
      out ≡ ◌>>=◌ (renamed without_place o) (From b1) → Ends c m n S' b' (in_scopes S o) out
  last_stmt_ends c m n S S' b1 b' out (Go w) d u e = absurd d
  last_stmt_ends c m n S S' b1 b' out (Unwind w) d u e = absurd u
  last_stmt_ends c m n S S' b1 b' out (Halts halt w) d u e = e

  last_term_ends : (c : Ways) (m n : ℕ) (S S' : Scopes) (b' : CodePos) (out : Out W) (o : Out W) (next : W → Out W) → DoesNotGoOn (renamed without_place o) → NoMore size m (renamed without_place o) →
      out ≡ fork (renamed without_place o) next (unwinds (panic_drops t S)) → Ends c m n S' b' (in_scopes S o) out
  last_term_ends c m n S S' b' out (Go w) next d l e = absurd d
  last_term_ends c m n S S' b' out (Unwind w) next d l e = (l, e)
  last_term_ends c m n S S' b' out (Halts halt w) next d l e = e

  acts_term : (i : ℕ) (term : Term) (a : Action) (n : ℕ) (u : graph.Unwind) (w : W) → action_of_term i term ≡ Some (a, n, u) → term_does q i term Walk w ≡ acts (q.act a w) Walk n u
  acts_term i (Term.Math to op l r m v) a n u w e = ap (λ x. acts (q.act x.0 w) Walk x.1 x.2) (ap (or_else (a, n, u)) e)
  acts_term i (Term.Negate to x m v) a n u w e = ap (λ x. acts (q.act x.0 w) Walk x.1 x.2) (ap (or_else (a, n, u)) e)
  acts_term i (Term.Bounds x k m v) a n u w e = ap (λ x. acts (q.act x.0 w) Walk x.1 x.2) (ap (or_else (a, n, u)) e)
  acts_term i (Term.Call to f args m v) a n u w e = ap (λ x. acts (q.act x.0 w) Walk x.1 x.2) (ap (or_else (a, n, u)) e)
  acts_term i (Term.Virtual to r k args m v) a n u w e = ap (λ x. acts (q.act x.0 w) Walk x.1 x.2) (ap (or_else (a, n, u)) e)
  acts_term i (Term.Ask to m v) a n u w e = ap (λ x. acts (q.act x.0 w) Walk x.1 x.2) (ap (or_else (a, n, u)) e)
  acts_term i other a n u w e = absurd (none-some (a, n, u) e)

  acts_walk : (action : Action) (S : Scopes) (b : CodePos) (n : ℕ) → (h : ActionTermAt t action S n b) → (w : W) → size w ≤ bound →
      From b w ≡ fork (q.act (action_at t.local_of action) w) (Walk n) (unwinds (panic_drops t S))
  acts_walk action S b n h w l =
      at_end b h.0 h.2 h.3 w ∙ acts_term (t.node b.0 b.1) h.0.term (action_at t.local_of action) n h.1 w h.4
      ∙ fork_same (q.act (action_at t.local_of action) w) (size w) (laws.acting _ w) _ _ _ _
      (λ v j. refl) (λ v j. cleans_walk (panic_drops t S) h.1 h.5 v (omega arith))

  pub acting_less : (action : Action) (w : W) → size w ≤ bound → NoMore size (size w) (renamed without_place (p.act (action_at t.local_of action) w))
  acting_less action w l = subst (NoMore size (size w)) (sym (tied.acting (action_at t.local_of action) w l)) (laws.acting _ w)

  pub stmt_settled : (action : Action) (b b' : CodePos) → StmtAt t action b b' → (w : W) → size w ≤ bound → NoUnwind (renamed without_place (p.act (action_at t.local_of action) w))
  stmt_settled action b b' k w l =
      subst NoUnwind (sym (tied.acting (action_at t.local_of action) w l)) (subst (λ a. NoUnwind (q.act a w)) k.4 (settled.statements (t.node b.0 b.1) k.1 w))

  ends_last : (action : Action) → IsLast t action → (w : W) → size w ≤ bound → DoesNotGoOn (renamed without_place (p.act (action_at t.local_of action) w))
  ends_last action e w l = subst DoesNotGoOn (sym (tied.acting (action_at t.local_of action) w l)) (settled.lasting (action_at t.local_of action) w l e)

  pub act_sim : (c : Ways) (action : Action) → Sim c (doing (keyed.act action)) (Acts t action)
  act_sim c action S b _ _ within (by_statement b' k) w l =
      stmt_ends c (size w) (length S) S b' (From b w) (p.act (action_at t.local_of action) w) refl (acting_less action w l) (stmt_settled action b b' k w l)
      (at_stmt action b b' k w ∙ ap (λ o. ◌>>=◌ o (From b')) (sym (tied.acting (action_at t.local_of action) w l)))
  act_sim c action S b _ _ within (by_terminator n b' k g) w l =
      term_ends c (size w) (length S) S b' (From b w) (p.act (action_at t.local_of action) w) refl (acting_less action w l)
      (acts_walk action S b n k w l
      ∙ fork_same (q.act (action_at t.local_of action) w) (size w) (laws.acting _ w) _ _ _ _ (λ v j. enters n g.0 v (omega arith) ∙ ap (λ z. From z v) (sym g.1)) (λ v j. refl)
      ∙ ap (λ o. fork o (From b') (unwinds (panic_drops t S))) (sym (tied.acting (action_at t.local_of action) w l)))
  act_sim c action S b _ _ within (by_last_statement m S' b' k e) w l =
      last_stmt_ends c (size w) (length S) S S' m b' (From b w) (p.act (action_at t.local_of action) w) (ends_last action e w l) (stmt_settled action b m k w l)
      (at_stmt action b m k w ∙ ap (λ o. ◌>>=◌ o (From m)) (sym (tied.acting (action_at t.local_of action) w l)))
  act_sim c action S b _ _ within (by_last_terminator n S' b' k e) w l =
      last_term_ends c (size w) (length S) S S' b' (From b w) (p.act (action_at t.local_of action) w) (Walk n) (ends_last action e w l) (acting_less action w l)
      (acts_walk action S b n k w l ∙ ap (λ o. fork o (Walk n) (unwinds (panic_drops t S))) (sym (tied.acting (action_at t.local_of action) w l)))
