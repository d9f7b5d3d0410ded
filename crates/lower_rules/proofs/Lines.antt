-- What holds of each line that is made, and of what stands behind it in its block, given what holds of the lines of
-- effects, tests and drops: one lemma a rule of `Build`. Code behind code without an end is not built, so nothing is
-- asked of it.
use Rattle.std.proofs.Common.{◌≡◌, ◌⊎◌, inl, inr, ℕ, zero, suc, ◌==◌, ◌&&◌, ◌||◌, not, nat_lt, Bool, true, false, List, [], ◌∷◌, ◌++◌, length, map, Option, Some, None, slice_get, slice_set, if◌then◌else◌, refl, sym, subst}
use Rattle.std.proofs.lemmas.Option.{none-some, same_Some}
use Rattle.cfg_graph.specs.declared.graph.Kind.{Kind}
use Rattle.cfg_graph.specs.declared.statement.Stmt.{Stmt}
use Rattle.cfg_graph.specs.declared.terminator.Term.{Term}
use Rattle.cfg_graph.specs.declared.terminator.Unwind.{Unwind}
use Rattle.mir_base.specs.declared.trace.Why.{Why}
use Rattle.mir_ty.specs.Facts.{needs_drop}
use Rattle.store_model.specs.Effects as effects
use Rattle.store_model.specs.Effects.{EffectSite, Action}
use Rattle.src_meaning.specs.Forms.{moved}
use Rattle.src_meaning.specs.Scopes.{Entry, Scope, Scopes, with_scope, innermost, around_innermost, nearest_from, nearest_temporary, with_entry, with_pending, without_pending, without_key, without_keys, becomes_entry, without_operands, all_entries, needing_drop, entry_site, Exit}
use Rattle.src_meaning.specs.Shape.{PatternTest, IsVariant, IsNumber, IsTruth, AnyOf, PatternTests, no_test, a_test, Alternatives, no_alternative, an_alternative}
use Rattle.lower_rules.specs.Spots.{JumpWay, Ways, ways_in_loop}
use Rattle.lower_rules.specs.Build.{LoweringFrame, NodeLine, BlockRest, MadeBlock, SharedEnd, Resumes, GoesTo, DropsThen, Building, ending, with_line, made, closed, reserved, filled, end_among, end_kind, end_rest, listed_at, shared_or, share, jump_of, way_of, is_left_by, Lowers, Done, ByStmt, ByTerm, change, nothing, from_changed, back_in, then_build, then_lower, joined, after_either, branches, with_exit, looped, place_of, operand_of, done_by, chain, unwind_to, unwinding, done, is_last, act_by, act, panic_drops, drop_one, drop_all, drops_before, drops_to, outer, leave_by, leave_from, leave, in_scope, leaves_one, leaves_before, leaves_to, exits, jump, panics, if_true, compared, tests, test, any_test, taken, put_into, replaces}

-- what is to hold of the statement of an effect: with anything behind it, or, where no run comes behind it, with the way to
-- the block that returns
abbrev pub Follows : (Stmt → List Stmt → Term → Type 0) → ℕ → Done → Bool → Type 0
Follows behind returns (ByStmt stmt) true = behind stmt [] (Term.Goto returns)
Follows behind returns (ByStmt stmt) false = (stmts : List Stmt) (term : Term) → behind stmt stmts term
Follows behind returns (ByTerm term) is_last = Unit {0}

-- what is to hold of a statement and of a terminator with the numbers of their nodes, of an entry, and of a statement with
-- what stands behind it in its block, where this block returns
pub record Wanted (f : LoweringFrame) : Type 1 where
  pub stmt : Stmt → ℕ → Type 0
  pub term : Term → ℕ → Type 0
  pub entry : Entry → Type 0
  pub behind : Stmt → List Stmt → Term → Type 0
  pub returns : ℕ
  pub goto : (n node : ℕ) → term (Term.Goto n) node
  pub resume : (node : ℕ) → term Term.Resume node
  pub drop : (e : Entry) → entry e → needs_drop f.items e.ty ≡ true → (n : ℕ) (u : Unwind) → term (Term.DropAt (place_of f (entry_site e)) n u) e.key
  pub follows : (action : Action) → Follows behind returns (done_by f action) (is_last f action)
  pub compares : (site : EffectSite) (value : effects.Operand) (stmts : List Stmt) (term : Term) → behind (compared f site value) stmts term

-- where nothing is wanted of what stands behind a statement
pub follows_any : (by : Done) (is_last : Bool) → Follows (λ stmt stmts term. Unit {0}) 1 by is_last
follows_any (ByStmt stmt) true = tt
follows_any (ByStmt stmt) false = λ stmts term. tt
follows_any (ByTerm term) is_last = tt

module _ (f : LoweringFrame) (w : Wanted f) where
  abbrev pub LinesOk : List NodeLine → Term → Type 0
  LinesOk [] term = Unit {0}
  LinesOk (l ∷ ls) term = (w.stmt l.stmt l.node × w.behind l.stmt (map (λ l. l.stmt) ls) term) × LinesOk ls term

  abbrev pub RestOk : BlockRest → Type 0
  RestOk k = LinesOk k.lines k.term × w.term k.term k.node

  -- of the lines of a block, with the nodes of all of them
  abbrev pub BlockOk : List Stmt → Term → List ℕ → Type 0
  BlockOk [] term [] = ⊥
  BlockOk [] term (n ∷ ns) = w.term term n
  BlockOk (stmt ∷ stmts) term [] = ⊥
  BlockOk (stmt ∷ stmts) term (n ∷ ns) = (w.stmt stmt n × w.behind stmt stmts term) × BlockOk stmts term ns

  abbrev pub MadeOk : MadeBlock → Type 0
  MadeOk m = BlockOk m.block.stmts m.block.term m.nodes

  pub record Ok (s : Building) : Type 0 where
    pub blocks : (n : ℕ) (m : MadeBlock) → slice_get s.blocks n ≡ Some (Some m) → MadeOk m

  abbrev pub EntriesOk : List Entry → Type 0
  EntriesOk [] = Unit {0}
  EntriesOk (e ∷ es) = w.entry e × EntriesOk es

  abbrev pub ScopesOk : Scopes → Type 0
  ScopesOk [] = Unit {0}
  ScopesOk (s ∷ S) = EntriesOk s.pending × EntriesOk s.entries × ScopesOk S

  pub entries_append : (es ds : List Entry) → EntriesOk es → EntriesOk ds → EntriesOk (es ++ ds)
  entries_append [] ds h k = k
  entries_append (e ∷ es) ds h k = (h.0, entries_append es ds h.1 k)

  all_ok : (S : Scopes) → ScopesOk S → EntriesOk (all_entries S)
  all_ok [] h = tt
  all_ok (s ∷ S) h = entries_append (s.pending ++ s.entries) (all_entries S) (entries_append s.pending s.entries h.0 h.1) (all_ok S h.2)

  -- entries that need dropping
  abbrev DropsOk : List Entry → Type 0
  DropsOk [] = Unit {0}
  DropsOk (e ∷ es) = (w.entry e × (needs_drop f.items e.ty ≡ true)) × DropsOk es

  drops_append : (es ds : List Entry) → DropsOk es → DropsOk ds → DropsOk (es ++ ds)
  drops_append [] ds h k = k
  drops_append (e ∷ es) ds h k = (h.0, drops_append es ds h.1 k)

  needing_ok : (es : List Entry) → EntriesOk es → DropsOk (needing_drop f.items es)
  needing_ok [] h = tt
  needing_ok (e ∷ es) h = by_need (needs_drop f.items e.ty) refl (needing_ok es h.1)
    where
      by_need : (b : Bool) → needs_drop f.items e.ty ≡ b → DropsOk (needing_drop f.items es) → DropsOk (if b then e ∷ needing_drop f.items es else needing_drop f.items es)
      by_need true x k = ((h.0, x), k)
      by_need false x k = k

  panic_ok : (S : Scopes) → ScopesOk S → DropsOk (panic_drops f S)
  panic_ok S h = needing_ok (all_entries S) (all_ok S h)

  -- ---- changes of scopes
  abbrev pub KeepsOk : (Scope → Scope) → Type 0
  KeepsOk g = (s : Scope) → EntriesOk s.pending → EntriesOk s.entries → EntriesOk (g s).pending × EntriesOk (g s).entries

  pub innermost_ok : (g : Scope → Scope) → KeepsOk g → (S : Scopes) → ScopesOk S → ScopesOk (innermost g S)
  innermost_ok g keeps [] h = h
  innermost_ok g keeps (s ∷ S) h = let k = keeps s h.0 h.1 in (k.0, k.1, h.2)

  pub around_ok : (g : Scope → Scope) → KeepsOk g → (S : Scopes) → ScopesOk S → ScopesOk (around_innermost g S)
  around_ok g keeps [] h = h
  around_ok g keeps (s ∷ S) h = (h.0, h.1, innermost_ok g keeps S h.2)

  pub nearest_ok : (g : Scope → Scope) → KeepsOk g → (S : Scopes) → ScopesOk S → ScopesOk (nearest_temporary g S)
  nearest_ok g keeps [] h = h
  nearest_ok g keeps (s ∷ S) h = by_kind s.for_temporaries (nearest_ok g keeps S h.2)
    where
      by_kind : (b : Bool) → ScopesOk (nearest_temporary g S) → ScopesOk (nearest_from b g s S (nearest_temporary g S))
      by_kind true k = let it = keeps s h.0 h.1 in (it.0, it.1, h.2)
      by_kind false k = (h.0, h.1, k)

  key_ok : (key : ℕ) (es : List Entry) → EntriesOk es → EntriesOk (without_key key es)
  key_ok key [] h = tt
  key_ok key (e ∷ es) h = by_key (key == e.key) (key_ok key es h.1)
    where
      by_key : (b : Bool) → EntriesOk (without_key key es) → EntriesOk (if b then without_key key es else e ∷ without_key key es)
      by_key true k = k
      by_key false k = (h.0, k)

  keys_ok : (keys : List ℕ) (es : List Entry) → EntriesOk es → EntriesOk (without_keys keys es)
  keys_ok [] es h = h
  keys_ok (key ∷ keys) es h = keys_ok keys (without_key key es) (key_ok key es h)

  pub entry_keeps : (e : Entry) → w.entry e → KeepsOk (with_entry e)
  entry_keeps e ok s p h = (p, (ok, h))

  pub pending_keeps : (e : Entry) → w.entry e → KeepsOk (with_pending e)
  pending_keeps e ok s p h = ((ok, p), h)

  pub without_keeps : (e : Entry) → KeepsOk (without_pending e)
  without_keeps e s p h = (key_ok e.key s.pending p, h)

  pub becomes_keeps : (e : Entry) → w.entry e → KeepsOk (becomes_entry e)
  becomes_keeps e ok s p h = (key_ok e.key s.pending p, (ok, h))

  pub taken_ok : (keys : List ℕ) (S : Scopes) → ScopesOk S → ScopesOk (taken f keys S)
  taken_ok keys S h = innermost_ok (without_operands keys) (λ s p k. (p, keys_ok keys s.entries k)) S h

  -- ---- blocks that are made
  push_cases : {A : Type 0} (xs : List A) (x : A) (n : ℕ) (y : A) → slice_get (xs ++ x ∷ []) n ≡ Some y → (slice_get xs n ≡ Some y) ⊎ (x ≡ y)
  push_cases [] x zero y e = inr (same_Some x y e)
  push_cases [] x (suc n) y e = absurd (none-some y e)
  push_cases (z ∷ xs) x zero y e = inl e
  push_cases (z ∷ xs) x (suc n) y e = push_cases xs x n y e

  set_cases : {A : Type 0} (xs : List A) (x : A) (i n : ℕ) (y : A) → slice_get (slice_set xs i x) n ≡ Some y → (slice_get xs n ≡ Some y) ⊎ (x ≡ y)
  set_cases [] x i n y e = absurd (none-some y e)
  set_cases (z ∷ xs) x zero zero y e = inr (same_Some x y e)
  set_cases (z ∷ xs) x zero (suc n) y e = inl e
  set_cases (z ∷ xs) x (suc i) zero y e = inl e
  set_cases (z ∷ xs) x (suc i) (suc n) y e = set_cases xs x i n y e

  lines_ok : (ls : List NodeLine) (term : Term) (node : ℕ) → LinesOk ls term → w.term term node → BlockOk (map (λ l. l.stmt) ls) term (map (λ l. l.node) ls ++ node ∷ [])
  lines_ok [] term node h t = t
  lines_ok (l ∷ ls) term node h t = (h.0, lines_ok ls term node h.1 t)

  made_ok : (kind : Kind) (rank : ℕ) (k : BlockRest) → RestOk k → MadeOk (made kind rank k)
  made_ok kind rank k h = lines_ok k.lines k.term k.node h.0 h.1

  pub closed_ok : (kind : Kind) (k : BlockRest) (s : Building) → Ok s → RestOk k → Ok (closed kind k s)
  closed_ok kind k s h l = record { blocks = λ n m e. by_place n m (push_cases s.blocks (Some (made kind (length s.blocks) k)) n (Some m) e) }
    where
      by_place : (n : ℕ) (m : MadeBlock) → (slice_get s.blocks n ≡ Some (Some m)) ⊎ (Some (made kind (length s.blocks) k) ≡ Some m) → MadeOk m
      by_place n m (inl e) = h.blocks n m e
      by_place n m (inr e) = subst MadeOk (same_Some (made kind (length s.blocks) k) m e) (made_ok kind (length s.blocks) k l)

  pub filled_ok : (kind : Kind) (i : ℕ) (k : BlockRest) (s : Building) → Ok s → RestOk k → Ok (filled kind i k s)
  filled_ok kind i k s h l = record { blocks = λ n m e. by_place n m (set_cases s.blocks (Some (made kind (length s.blocks) k)) i n (Some m) e) }
    where
      by_place : (n : ℕ) (m : MadeBlock) → (slice_get s.blocks n ≡ Some (Some m)) ⊎ (Some (made kind (length s.blocks) k) ≡ Some m) → MadeOk m
      by_place n m (inl e) = h.blocks n m e
      by_place n m (inr e) = subst MadeOk (same_Some (made kind (length s.blocks) k) m e) (made_ok kind (length s.blocks) k l)

  pub reserved_ok : (s : Building) → Ok s → Ok (reserved s)
  reserved_ok s h = record { blocks = λ n m e. by_place n m (push_cases s.blocks None n (Some m) e) }
    where
      by_place : (n : ℕ) (m : MadeBlock) → (slice_get s.blocks n ≡ Some (Some m)) ⊎ (None ≡ Some m) → MadeOk m
      by_place n m (inl e) = h.blocks n m e
      by_place n m (inr e) = absurd (none-some m e)

  share_ok : (e : SharedEnd) (s : Building) → Ok s → RestOk (end_rest f e) → Ok (share f e s).1
  share_ok e s h l = by_known (end_among e (s.shared (listed_at e)))
    where
      by_known : (o : Option ℕ) → Ok (shared_or f o e s).1
      by_known (Some n) = h
      by_known None = record { blocks = (closed_ok (end_kind f e) (end_rest f e) s h l).blocks }

  chain_ok : (es : List Entry) → DropsOk es → (s : Building) → Ok s → Ok (chain f es s).1
  chain_ok [] d s h = share_ok Resumes s h (tt, w.resume 0)
  chain_ok (x ∷ es) d s h =
      let r = chain f es s in
      share_ok (DropsThen x.key r.0 Unwind.Abort) r.1 (chain_ok es d.1 s h) (tt, w.drop x d.0.0 d.0.1 r.0 Unwind.Abort)

  unwind_ok : (es : List Entry) → DropsOk es → (s : Building) → Ok s → Ok (unwind_to f es s).1
  unwind_ok [] d s h = h
  unwind_ok (x ∷ es) d s h = chain_ok (x ∷ es) d s h

  abbrev pub Both : BlockRest × Building → Type 0
  Both r = Ok r.1 × RestOk r.0

  unwinding_ok : (term : Unwind → Term) (node : ℕ) → ((u : Unwind) → w.term (term u) node) → (es : List Entry) → DropsOk es → (s : Building) → Ok s → Both (unwinding f term node es s)
  unwinding_ok term node t es d s h = (unwind_ok es d s h, (tt, t (unwind_to f es s).0))

  drops_ok : (es : List Entry) → DropsOk es → (S : Scopes) → ScopesOk S → (k : BlockRest) (s : Building) → Ok s → RestOk k → Both (drop_all f es S k s)
  drops_ok [] d S o k s h l = (h, l)
  drops_ok (e ∷ es) d S o k s h l =
      let r = drop_all f es S k s in
      let ih = drops_ok es d.1 S o k s h l in
      unwinding_ok (Term.DropAt (place_of f (entry_site e)) (length r.1.blocks)) e.key (w.drop e d.0.0 d.0.1 (length r.1.blocks)) (es ++ panic_drops f S) (drops_append es (panic_drops f S) d.1 (panic_ok S o))
      (closed Kind.Plain r.0 r.1) (closed_ok Kind.Plain r.0 r.1 ih.0 ih.1)

  -- drops before a jump
  before_ok : (es : List Entry) → DropsOk es → (S : Scopes) → ScopesOk S → (to : ℕ × Building) → Ok to.1 → Ok (drops_before f es S to).1
  before_ok [] d S o to h = h
  before_ok (e ∷ es) d S o to h =
      let r = drops_before f es S to in
      let down = unwind_to f (es ++ panic_drops f S) r.1 in
      share_ok (DropsThen e.key r.0 down.0) down.1 (unwind_ok (es ++ panic_drops f S) (drops_append es (panic_drops f S) d.1 (panic_ok S o)) r.1 (before_ok es d.1 S o to h))
      (tt, w.drop e d.0.0 d.0.1 r.0 down.0)

  to_ok : (es : List Entry) → DropsOk es → (S : Scopes) → ScopesOk S → (to : ℕ × Building) (none : BlockRest × Building) → Ok to.1 → Both none → Both (drops_to f es S to none)
  to_ok [] d S o to none h n = n
  to_ok (e ∷ es) d S o to none h n =
      let r = drops_before f es S to in
      unwinding_ok (Term.DropAt (place_of f (entry_site e)) r.0) e.key (w.drop e d.0.0 d.0.1 r.0) (es ++ panic_drops f S) (drops_append es (panic_drops f S) d.1 (panic_ok S o)) r.1
      (before_ok es d.1 S o to h)

  leave_ok : (S : Scopes) → ScopesOk S → (k : BlockRest) (s : Building) → Ok s → RestOk k → Both (leave_from f S k s)
  leave_ok [] o k s h l = (h, l)
  leave_ok (x ∷ S) o k s h l = by_jump (jump_of k)
    where
      by_jump : (j : Option ℕ) → Both (leave_by f j (needing_drop f.items x.entries) S k s)
      by_jump (Some block) = to_ok (needing_drop f.items x.entries) (needing_ok x.entries o.1) S o.2 (share f (GoesTo block) s) (k, s) (share_ok (GoesTo block) s h (tt, w.goto block 0)) (h, l)
      by_jump None = drops_ok (needing_drop f.items x.entries) (needing_ok x.entries o.1) S o.2 k s h l

  outer_ok : (S : Scopes) → ScopesOk S → ScopesOk (outer f S)
  outer_ok [] h = h
  outer_ok (s ∷ S) h = h.2

  before_leaves_ok : (way : JumpWay) (S : Scopes) → ScopesOk S → (s : Building) → Ok s → Ok (leaves_before f way S s).1
  before_leaves_ok way [] o s h = share_ok (GoesTo way.block) s h (tt, w.goto way.block 0)
  before_leaves_ok way (x ∷ S) o s h = by_base (before_leaves_ok way S o.2 s h) (not (nat_lt (length S) way.base))
    where
      by_base : Ok (leaves_before f way S s).1 → (b : Bool) → Ok (leaves_one f b (drops_before f (needing_drop f.items x.entries) S (leaves_before f way S s)) (share f (GoesTo way.block) s)).1
      by_base ih true = before_ok (needing_drop f.items x.entries) (needing_ok x.entries o.1) S o.2 (leaves_before f way S s) ih
      by_base ih false = share_ok (GoesTo way.block) s h (tt, w.goto way.block 0)

  jumped_ok : (node : ℕ) (way : JumpWay) (S : Scopes) → ScopesOk S → (s : Building) → Ok s → Both (leaves_to f node way S s)
  jumped_ok node way [] o s h = (h, (tt, w.goto way.block node))
  jumped_ok node way (x ∷ S) o s h = by_base (jumped_ok node way S o.2 s h) (not (nat_lt (length S) way.base))
    where
      by_base : Both (leaves_to f node way S s) → (b : Bool) →
          Both (leaves_one f b (drops_to f (needing_drop f.items x.entries) S (leaves_before f way S s) (leaves_to f node way S s)) (ending (Term.Goto way.block) node, s))
      by_base ih true = to_ok (needing_drop f.items x.entries) (needing_ok x.entries o.1) S o.2 (leaves_before f way S s) (leaves_to f node way S s) (before_leaves_ok way S o.2 s h) ih
      by_base ih false = (h, (tt, w.goto way.block node))

  -- ---- what is lowered: its lines are as wanted, where the scopes and the lines around it are
  pub record Sound (P : Lowers) : Type 0 where
    pub after : P.has_end ≡ true → (S : Scopes) → ScopesOk S → ScopesOk (P.after S)
    pub lines : (c : Ways) → c.returns.block ≡ w.returns → (S : Scopes) (k : BlockRest) (s : Building) → ScopesOk S → Ok s → RestOk k → Both (P.build c S k s)

  pub change_sound : (g : Scopes → Scopes) → ((S : Scopes) → ScopesOk S → ScopesOk (g S)) → Sound (change g)
  change_sound g keeps = record { after = λ e S o. keeps S o; lines = λ c t S k s o h l. (h, l) }

  pub nothing_sound : Sound nothing
  nothing_sound = change_sound (λ S. S) (λ S o. o)

  pub changed_sound : (g : Scopes → Scopes) (P : Lowers) → ((S : Scopes) → ScopesOk S → ScopesOk (g S)) → Sound P → Sound (from_changed g P)
  changed_sound g P keeps p = record { after = λ e S o. p.after e (g S) (keeps S o); lines = λ c t S k s o h l. p.lines c t (g S) k s (keeps S o) h l }

  untrue : false ≡ true → ⊥
  untrue e = let never : false ≡ true = e in cc

  and_first : (x y : Bool) → x && y ≡ true → x ≡ true
  and_first true y e = refl
  and_first false y e = absurd (untrue e)

  and_second : (x y : Bool) → x && y ≡ true → y ≡ true
  and_second true y e = e
  and_second false y e = absurd (untrue e)

  pub then_sound : (P Q : Lowers) → Sound P → (P.has_end ≡ true → Sound Q) → Sound (then_lower P Q)
  then_sound P Q p q = record {
    after = λ e S o. (q (and_first P.has_end Q.has_end e)).after (and_second P.has_end Q.has_end e) (P.after S) (p.after (and_first P.has_end Q.has_end e) S o);
    lines = λ c t S k s o h l. by_end c t S k s o h l P.has_end refl;
  }
    where
      by_end : (c : Ways) → c.returns.block ≡ w.returns → (S : Scopes) (k : BlockRest) (s : Building) → ScopesOk S → Ok s → RestOk k → (z : Bool) → P.has_end ≡ z → Both (then_build z P Q c S k s)
      by_end c t S k s o h l true e =
          let r = Q.build c (P.after S) k s in
          let y = (q e).lines c t (P.after S) k s (p.after e S o) h l in
          p.lines c t S r.0 r.1 o y.0 y.1
      by_end c t S k s o h l false e = p.lines c t S k s o h l

  pub back_sound : (P : Lowers) → Sound P → Sound (back_in P)
  back_sound P p = record { after = λ e S o. o; lines = p.lines }

  -- the lines of an effect
  abbrev pub DoneOk : ℕ → Done → Type 0
  DoneOk node (ByStmt stmt) = w.stmt stmt node
  DoneOk node (ByTerm term) = (n : ℕ) (u : Unwind) → w.term (term n u) node

  stmt_ok : (node : ℕ) (stmt : Stmt) → w.stmt stmt node → (k : BlockRest) (s : Building) → w.behind stmt (map (λ l. l.stmt) k.lines) k.term → Ok s → RestOk k → Both (with_line stmt node k, s)
  stmt_ok node stmt d k s b h l = (h, (((d, b), l.0), l.1))

  term_ok : (node : ℕ) (term : (onward : ℕ) → Unwind → Term) → DoneOk node (ByTerm term) → (S : Scopes) → ScopesOk S → (k : BlockRest) (s : Building) → Ok s → RestOk k → Both (done f node (ByTerm term) S k s)
  term_ok node term d S o k s h l = unwinding_ok (term (length s.blocks)) node (d (length s.blocks)) (panic_drops f S) (panic_ok S o) (closed Kind.Plain k s) (closed_ok Kind.Plain k s h l)

  by_sound : (x : Bool) (node : ℕ) (by : Done) → DoneOk node by → Follows w.behind w.returns by x → Sound (act_by f x node by)
  by_sound true node (ByStmt stmt) d b = record {
    after = λ e S o. o;
    lines = λ c t S k s o h l. stmt_ok node stmt d (ending (Term.Goto c.returns.block) node) s (subst (λ (n : ℕ). w.behind stmt [] (Term.Goto n)) (sym t) b) h (tt, w.goto c.returns.block node);
  }
  by_sound true node (ByTerm term) d b = record {
    after = λ e S o. o;
    lines = λ c t S k s o h l. term_ok node term d S o (ending (Term.Goto c.returns.block) node) s h (tt, w.goto c.returns.block node);
  }
  by_sound false node (ByStmt stmt) d b = record { after = λ e S o. o; lines = λ c t S k s o h l. stmt_ok node stmt d k s (b (map (λ l. l.stmt) k.lines) k.term) h l }
  by_sound false node (ByTerm term) d b = record { after = λ e S o. o; lines = λ c t S k s o h l. term_ok node term d S o k s h l }

  abbrev pub ActOk : ℕ → Action → Type 0
  ActOk node action = DoneOk node (done_by f action)

  pub act_sound : (node : ℕ) (action : Action) → ActOk node action → Sound (act f node action)
  act_sound node action d = by_sound (is_last f action) node (done_by f action) d (w.follows action)

  pub drop_sound : (site : EffectSite) → ((n : ℕ) (u : Unwind) → w.term (Term.DropAt (place_of f site) n u) site.node) → Sound (record nothing { build = λ c S. drop_one f site (panic_drops f S) })
  drop_sound site d = record {
    after = λ e S o. o;
    lines = λ c t S k s o h l. unwinding_ok (Term.DropAt (place_of f site) (length s.blocks)) site.node (d (length s.blocks)) (panic_drops f S) (panic_ok S o) (closed Kind.Plain k s) (closed_ok Kind.Plain k s h l);
  }

  pub leave_sound : Sound (leave f)
  leave_sound = record { after = λ e S o. outer_ok S o; lines = λ c t S k s o h l. leave_ok S o k s h l }

  pub entered_sound : (node : ℕ) (own : Bool) (P : Lowers) → Sound P → Sound (from_changed (with_scope node own) P)
  entered_sound node own P p = changed_sound (with_scope node own) P (λ S o. (tt, tt, o)) p

  pub scope_sound : (node : ℕ) (own : Bool) (P : Lowers) → Sound P → Sound (in_scope f node own P)
  scope_sound node own P p = entered_sound node own (then_lower P (leave f)) (then_sound P (leave f) p (λ e. leave_sound))

  -- ---- branches, loops, jumps, panics
  abbrev pub TestOk : (ℕ → ℕ → Building → BlockRest × Building) → Type 0
  TestOk test = (y n : ℕ) (s : Building) → Ok s → Both (test y n s)

  pub joined_ok : (x : Bool) (node : ℕ) (k : BlockRest) (s : Building) → Ok s → RestOk k → Both (joined x node k s)
  joined_ok true node k s h l = (closed_ok Kind.Plain k s h l, (tt, w.goto (length s.blocks) node))
  joined_ok false node k s h l = (h, l)

  either_after : (x y : Bool) (P Q : Lowers) (S : Scopes) → (x ≡ true → ScopesOk (P.after S)) → (y ≡ true → ScopesOk (Q.after S)) → x || y ≡ true → ScopesOk (after_either x P Q S)
  either_after true y P Q S p q e = p refl
  either_after false y P Q S p q e = q e

  pub branches_sound : (node : ℕ) (test : ℕ → ℕ → Building → BlockRest × Building) (P Q : Lowers) → TestOk test → Sound P → Sound Q → Sound (branches node test P Q)
  branches_sound node test P Q tests_are p q = record {
    after = λ e S o. either_after P.has_end Q.has_end P Q S (λ d. p.after d S o) (λ d. q.after d S o) e;
    lines = λ c t S k s o h l.
        let j = joined (P.has_end || Q.has_end) node k s in
        let jo = joined_ok (P.has_end || Q.has_end) node k s h l in
        let rq = Q.build c S j.0 j.1 in
        let y = q.lines c t S j.0 j.1 o jo.0 jo.1 in
        let cq = closed Kind.Plain rq.0 rq.1 in
        let rp = P.build c S j.0 cq in
        let x = p.lines c t S j.0 cq o (closed_ok Kind.Plain rq.0 rq.1 y.0 y.1) jo.1 in
        tests_are (length rp.1.blocks) (length rq.1.blocks) (closed Kind.Plain rp.0 rp.1) (closed_ok Kind.Plain rp.0 rp.1 x.0 x.1);
  }

  exit_ok : (x : Bool) (k : BlockRest) (s : Building) → Ok s → RestOk k → Ok (with_exit x k s)
  exit_ok true k s h l = closed_ok Kind.Plain k s h l
  exit_ok false k s h l = h

  pub looped_sound : (id : ℕ) (turn : Lowers) → Sound turn → Sound (looped id turn)
  looped_sound id turn p = record {
    after = λ e S o. o;
    lines = λ c t S k s o h l.
        let start = with_exit (is_left_by id turn.jumps) k s in
        let again = ending (Term.Goto (length start.blocks)) 0 in
        let inside = ways_in_loop id (length S) (length s.blocks) (length start.blocks) (is_left_by id turn.jumps) c in
        let code = turn.build inside S again (reserved start) in
        let x = p.lines inside t S again (reserved start) o (reserved_ok start (exit_ok (is_left_by id turn.jumps) k s h l)) (tt, w.goto (length start.blocks) 0) in
        (filled_ok Kind.Turn (length start.blocks) code.0 code.1 x.0 x.1, (tt, w.goto (length start.blocks) 0));
  }

  pub jump_sound : (node : ℕ) (exit : Exit) (P : Lowers) → Sound P → Sound (jump f node exit P)
  jump_sound node exit P p = then_sound P (exits f node exit) p (λ e. record { after = λ e S o. o; lines = λ c t S k s o h l. jumped_ok node (way_of exit c) S o s h })

  pub panic_both : (term : Unwind → Term) (node : ℕ) → ((u : Unwind) → w.term (term u) node) → (S : Scopes) → ScopesOk S → (s : Building) → Ok s → Both (unwinding f term node (panic_drops f S) s)
  panic_both term node t S o s h = unwinding_ok term node t (panic_drops f S) (panic_ok S o) s h

  pub panics_sound : (node : ℕ) (why : Why) → ((u : Unwind) → w.term (Term.Panic why u) node) → Sound (panics f node why)
  panics_sound node why panics_are = record { after = λ e S o. o; lines = λ c t S k s o h l. panic_both (Term.Panic why) node panics_are S o s h }

  -- ---- tests
  pub if_ok : (operand : effects.Operand) (node : ℕ) → ((y n : ℕ) → w.term (Term.If (operand_of f operand) y n) node) → TestOk (if_true f operand node)
  if_ok operand node t y n s h = (h, (tt, t y n))

  abbrev EqualsOk : EffectSite → effects.Operand → Type 0
  EqualsOk site value = w.stmt (compared f site value) site.node × ((y n : ℕ) → w.term (Term.If (operand_of f (moved site.node site.node)) y n) site.node)

  abbrev mutual
    pub OneTestOk : PatternTest → Type 0
    OneTestOk (IsVariant site variant) = (y n : ℕ) → w.term (Term.Case (place_of f site) variant y n) site.node
    OneTestOk (IsNumber site value kind) = EqualsOk site (effects.Number value kind)
    OneTestOk (IsTruth site value) = EqualsOk site (effects.Truth value)
    OneTestOk (AnyOf alternatives) = AnyTestsOk alternatives

    pub TestsOk : PatternTests → Type 0
    TestsOk no_test = Unit {0}
    TestsOk (a_test first rest) = OneTestOk first × TestsOk rest

    pub AnyTestsOk : Alternatives → Type 0
    AnyTestsOk no_alternative = Unit {0}
    AnyTestsOk (an_alternative one rest) = TestsOk one × AnyTestsOk rest

  mutual
    test_ok : (x : PatternTest) → OneTestOk x → TestOk (test f x)
    test_ok (IsVariant site variant) t y n s h = (h, (tt, t y n))
    test_ok (IsNumber site value kind) t y n s h = (h, (((t.0, w.compares site (effects.Number value kind) [] (Term.If (operand_of f (moved site.node site.node)) y n)), tt), t.1 y n))
    test_ok (IsTruth site value) t y n s h = (h, (((t.0, w.compares site (effects.Truth value) [] (Term.If (operand_of f (moved site.node site.node)) y n)), tt), t.1 y n))
    test_ok (AnyOf alternatives) t y n s h = any_ok alternatives t y n s h

    pub tests_ok : (x : PatternTests) → TestsOk x → TestOk (tests f x)
    tests_ok no_test t y n s h = (h, (tt, w.goto y 0))
    tests_ok (a_test first rest) t y n s h =
        let r = tests f rest y n s in
        let i = tests_ok rest t.1 y n s h in
        test_ok first t.0 (length r.1.blocks) n (closed Kind.Plain r.0 r.1) (closed_ok Kind.Plain r.0 r.1 i.0 i.1)

    any_ok : (x : Alternatives) → AnyTestsOk x → TestOk (any_test f x)
    any_ok no_alternative t y n s h = (h, (tt, w.goto n 0))
    any_ok (an_alternative one rest) t y n s h =
        let r = any_test f rest y n s in
        let i = any_ok rest t.1 y n s h in
        tests_ok one t.0 y (length r.1.blocks) (closed Kind.Plain r.0 r.1) (closed_ok Kind.Plain r.0 r.1 i.0 i.1)

  -- ---- assignment
  pub replaces_sound : (x : Bool) (site : EffectSite) (key : ℕ) → w.stmt (put_into f site key) site.node → ((stmts : List Stmt) (term : Term) → w.behind (put_into f site key) stmts term) → ((n : ℕ) (u : Unwind) → w.term (Term.DropAt (place_of f site) n u) site.node) → Sound (replaces f x site key)
  replaces_sound true site key put b d = record {
    after = λ e S o. taken_ok (key ∷ []) S o;
    lines = λ c t S k s o h l.
        let on = closed Kind.Plain (with_line (put_into f site key) site.node k) s in
        let oh = closed_ok Kind.Plain (with_line (put_into f site key) site.node k) s h (((put, b (map (λ l. l.stmt) k.lines) k.term), l.0), l.1) in
        let es = panic_drops f (taken f (key ∷ []) S) in
        let down = chain f es on in
        let dh = chain_ok es (panic_ok (taken f (key ∷ []) S) (taken_ok (key ∷ []) S o)) on oh in
        let unwound = with_line (put_into f site key) site.node (ending (Term.Goto down.0) site.node) in
        (closed_ok Kind.Cleanup unwound down.1 dh (((put, b [] (Term.Goto down.0)), tt), w.goto down.0 site.node), (tt, d (length s.blocks) (Unwind.Block (length down.1.blocks))));
  }
  replaces_sound false site key put b d = changed_sound (taken f (key ∷ [])) (act f site.node (effects.Put site (moved site.node key))) (taken_ok (key ∷ [])) (act_sound site.node (effects.Put site (moved site.node key)) put)
