-- What is built stands in every graph that has the blocks that are made: what was made stays, edges lead to numbers that were given out, blocks that are shared stand, cleanup blocks keep to themselves.
use Rattle.std.proofs.Common.{◌≡◌, ◌⊎◌, inl, inr, ℕ, zero, suc, ◌+◌, ◌<◌, ◌≤◌, Bool, true, false, List, [], ◌∷◌, ◌++◌, length, map, Some, slice_get, refl, sym, ap, ◌∙◌, subst, arith, length-append, add-one}
use Rattle.std.proofs.lemmas.Option.{none-some, slice_get_within, same_Some}
use Rattle.mir_ty.proofs.ListLemmas.{slice_get-last, slice_get-below}
use Rattle.cfg_graph.specs.declared.graph.Block.{Block}
use Rattle.cfg_graph.specs.declared.graph.Kind.{Kind}
use Rattle.cfg_graph.specs.declared.place.Operand as graph_operand
use Rattle.cfg_graph.specs.declared.place.Place as graph_place
use Rattle.cfg_graph.specs.declared.statement.Stmt.{Stmt}
use Rattle.cfg_graph.specs.declared.terminator.Term.{Term}
use Rattle.cfg_graph.specs.declared.terminator.Unwind.{Unwind}
use Rattle.cfg_graph.specs.Edges.{is_cleanup, is_cleanup_kind, is_turn_kind, onward, targets, unwind_targets}
use Rattle.src_meaning.specs.Scopes.{Scopes, Exit}
use Rattle.lower_rules.specs.Spots.{CodeTarget, CodePos, JumpWay, Ways, CodeSpot, HasNoEnd, StepAt, TermAt}
use Rattle.lower_rules.specs.Build.{LoweringFrame, NodeLine, BlockRest, MadeBlock, SharedEnd, Building, ending, made, closed, end_among, end_kind, end_rest, way_of, Lowers, exits}

-- ---- what was made stays
pub record Grows (s s' : Building) : Type 0 where
  pub longer : length s.blocks ≤ length s'.blocks
  pub keeps : (n : ℕ) → n < length s.blocks → slice_get s'.blocks n ≡ slice_get s.blocks n

pub grows_not : (s : Building) → Grows s s
grows_not s = record { longer = omega arith; keeps = λ n l. refl }

pub grows_on : (s t u : Building) → Grows s t → Grows t u → Grows s u
grows_on s t u a b = record {
  longer = let i = a.longer in let j = b.longer in omega arith;
  keeps = λ n l. b.keeps n (let i = a.longer in omega arith) ∙ a.keeps n l;
}

pub closed_grows : (kind : Kind) (k : BlockRest) (s : Building) → Grows s (closed kind k s)
closed_grows kind k s = record {
  longer = let e = length-append s.blocks (Some (made kind (length s.blocks) k) ∷ []) in omega arith;
  keeps = λ n l. slice_get-below s.blocks (Some (made kind (length s.blocks) k) ∷ []) n l;
}

pub closed_length : (kind : Kind) (k : BlockRest) (s : Building) →
    length (closed kind k s).blocks ≡ suc (length s.blocks)
closed_length kind k s = length-append s.blocks (Some (made kind (length s.blocks) k) ∷ []) ∙ add-one (length s.blocks)

-- ---- numbers that were given out
abbrev pub Given : ℕ → ℕ → Type 0
Given n d = (0 < d) × (d < n)

abbrev pub AllGiven : ℕ → List ℕ → Type 0
AllGiven n [] = Unit {0}
AllGiven n (d ∷ ds) = Given n d × AllGiven n ds

pub given_more : (n m : ℕ) → n ≤ m → (ds : List ℕ) → AllGiven n ds → AllGiven m ds
given_more n m l [] h = tt
given_more n m l (d ∷ ds) h = ((h.0.0, (let i = h.0.1 in omega arith)), given_more n m l ds h.1)

given_append : (n : ℕ) (ds es : List ℕ) → AllGiven n ds → AllGiven n es → AllGiven n (ds ++ es)
given_append n [] es h k = k
given_append n (d ∷ ds) es h k = (h.0, given_append n ds es h.1 k)

-- a block that is made has its number as its rank, if it is no turn block, and its edges lead below its rank
abbrev pub MadeWell : ℕ → MadeBlock → Type 0
MadeWell n m = (is_turn_kind m.block.kind ≡ false → m.block.rank ≡ n) × AllGiven m.block.rank (targets m.block.term)

pub record Ranked (s : Building) : Type 0 where
  pub blocks : (n : ℕ) (m : MadeBlock) → slice_get s.blocks n ≡ Some (Some m) → MadeWell n m
  pub shared : (e : SharedEnd) (i n : ℕ) → end_among e (s.shared i) ≡ Some n → Given (length s.blocks) n
  pub begun : 0 < length s.blocks

-- the edges of what comes next
abbrev pub LeadsOn : BlockRest → Building → Type 0
LeadsOn k s = AllGiven (length s.blocks) (targets k.term)

pub push_cases : {A : Type 0} (xs : List A) (x : A) (n : ℕ) (y : A) → slice_get (xs ++ x ∷ []) n ≡ Some y →
    (slice_get xs n ≡ Some y) ⊎ ((n ≡ length xs) × (x ≡ y))
push_cases [] x zero y e = inr (refl, same_Some x y e)
push_cases [] x (suc n) y e = absurd (none-some y e)
push_cases (z ∷ xs) x zero y e = inl e
push_cases (z ∷ xs) x (suc n) y e = elim (push_cases xs x n y e) [ inl h ↦ inl h | inr h ↦ inr (ap suc h.0, h.1) ]

pub closed_ranked : (kind : Kind) (k : BlockRest) (s : Building) → Ranked s → LeadsOn k s → Ranked (closed kind k s)
closed_ranked kind k s h l = record {
  blocks = λ n m e. by_place n m (push_cases s.blocks (Some (made kind (length s.blocks) k)) n (Some m) e);
  shared = λ d i n e. let g = h.shared d i n e in let j = closed_length kind k s in (g.0, (let g1 = g.1 in omega arith));
  begun = let j = closed_length kind k s in omega arith;
}
  where
    by_place : (n : ℕ) (m : MadeBlock) → (slice_get s.blocks n ≡ Some (Some m)) ⊎ ((n ≡ length s.blocks) × (Some (made kind (length s.blocks) k) ≡ Some m)) → MadeWell n m
    by_place n m (inl e) = h.blocks n m e
    by_place n m (inr e) = subst (MadeWell n) (same_Some (made kind (length s.blocks) k) m e.1) ((λ x. sym e.0), l)

-- ---- the ways of jumps
abbrev pub AllWays : (JumpWay → Type 0) → Ways → List Exit → Type 0
AllWays P c [] = Unit {0}
AllWays P c (exit ∷ exits) = P (way_of exit c) × AllWays P c exits

abbrev pub IsUsed : JumpWay → Type 0
IsUsed way = way.is_used ≡ true

-- `return`, and the jumps that name loops
abbrev pub JumpWays : (JumpWay → Type 0) → Ways → List Exit → Type 0
JumpWays P c jumps = P c.returns × AllWays P c jumps

abbrev pub BlockGiven : ℕ → JumpWay → Type 0
BlockGiven n way = Given n way.block

all_first : (P : JumpWay → Type 0) (c : Ways) (xs ys : List Exit) → AllWays P c (xs ++ ys) → AllWays P c xs
all_first P c [] ys h = tt
all_first P c (x ∷ xs) ys h = (h.0, all_first P c xs ys h.1)

all_second : (P : JumpWay → Type 0) (c : Ways) (xs ys : List Exit) → AllWays P c (xs ++ ys) → AllWays P c ys
all_second P c [] ys h = h
all_second P c (x ∷ xs) ys h = all_second P c xs ys h.1

all_ways_more : (n m : ℕ) → n ≤ m → (c : Ways) (xs : List Exit) → AllWays (BlockGiven n) c xs →
    AllWays (BlockGiven m) c xs
all_ways_more n m l c [] h = tt
all_ways_more n m l c (x ∷ xs) h = ((h.0.0, (let i = h.0.1 in omega arith)), all_ways_more n m l c xs h.1)

pub ways_more : (n m : ℕ) → n ≤ m → (c : Ways) (xs : List Exit) → JumpWays (BlockGiven n) c xs →
    JumpWays (BlockGiven m) c xs
ways_more n m l c xs h = ((h.0.0, (let i = h.0.1 in omega arith)), all_ways_more n m l c xs h.1)

pub ways_first : (P : JumpWay → Type 0) (c : Ways) (xs ys : List Exit) → JumpWays P c (xs ++ ys) → JumpWays P c xs
ways_first P c xs ys h = (h.0, all_first P c xs ys h.1)

pub ways_second : (P : JumpWay → Type 0) (c : Ways) (xs ys : List Exit) → JumpWays P c (xs ++ ys) → JumpWays P c ys
ways_second P c xs ys h = (h.0, all_second P c xs ys h.1)

module _ (t : CodeTarget) where
  abbrev pub f : LoweringFrame
  f = record { items = t.items; local_of = t.local_of; tys = t.body.locals }

  -- ---- a graph in which the blocks that are made stand, with the nodes of their lines
  abbrev pub NodesAt : ℕ → ℕ → List ℕ → Type 0
  NodesAt n l [] = Unit {0}
  NodesAt n l (x ∷ xs) = (t.node n l ≡ x) × NodesAt n (suc l) xs

  abbrev pub Later : Building → Type 0
  Later s = (n : ℕ) (m : MadeBlock) → slice_get s.blocks n ≡ Some (Some m) → (slice_get t.body.blocks n ≡ Some m.block) × NodesAt n 0 m.nodes

  abbrev LinesAt : Block → ℕ → ℕ → List NodeLine → Term → ℕ → Type 0
  LinesAt block n l [] term node = (l ≡ length block.stmts) × (block.term ≡ term) × (t.node n l ≡ node)
  LinesAt block n l (x ∷ xs) term node =
      (slice_get block.stmts l ≡ Some x.stmt) × (t.node n l ≡ x.node) × LinesAt block n (suc l) xs term node

  -- the rest of a block stands from a place on
  abbrev pub Stands : BlockRest → CodePos → Type 0
  Stands k b =
      (block : Block) × (slice_get t.body.blocks b.0 ≡ Some block) × LinesAt block b.0 b.1 k.lines k.term k.node

  lines_stand : (pre : List Stmt) (block : Block) (n : ℕ) (xs : List NodeLine) (node : ℕ) →
      block.stmts ≡ pre ++ map (λ l. l.stmt) xs →
      NodesAt n (length pre) (map (λ l. l.node) xs ++ node ∷ []) → LinesAt block n (length pre) xs block.term node
  lines_stand pre block n [] node e h =
      (sym (ap length e ∙ length-append pre [] ∙ (let k : length pre + 0 ≡ length pre = omega arith in k)), refl, h.0)
  lines_stand pre block n (x ∷ xs) node e h = (
    ap (λ z. slice_get z (length pre)) e ∙ seam pre,
    h.0,
    subst (λ l. LinesAt block n l xs block.term node) (length-append pre (x.stmt ∷ []) ∙ add-one (length pre))
        (lines_stand (pre ++ x.stmt ∷ []) block n xs node (e ∙ with_one pre)
        (subst (λ l. NodesAt n l (map (λ l. l.node) xs ++ node ∷ [])) (sym (length-append pre (x.stmt ∷ []) ∙ add-one (length pre))) h.1)),
  )
    where
      seam : (pre : List Stmt) → slice_get (pre ++ x.stmt ∷ map (λ l. l.stmt) xs) (length pre) ≡ Some x.stmt
      seam [] = refl
      seam (y ∷ pre) = seam pre

      with_one : (pre : List Stmt) → pre ++ x.stmt ∷ map (λ l. l.stmt) xs ≡ (pre ++ x.stmt ∷ []) ++ map (λ l. l.stmt) xs
      with_one [] = refl
      with_one (y ∷ pre) = ap (λ z. y ∷ z) (with_one pre)

  pub made_stands : (kind : Kind) (rank : ℕ) (k : BlockRest) (n : ℕ) (s : Building) → Later s →
      slice_get s.blocks n ≡ Some (Some (made kind rank k)) → Stands k (n, 0)
  made_stands kind rank k n s later e =
      let h = later n (made kind rank k) e in ((made kind rank k).block, h.0, lines_stand [] (made kind rank k).block n k.lines k.node refl h.1)

  pub closed_at : (kind : Kind) (k : BlockRest) (s : Building) →
      slice_get (closed kind k s).blocks (length s.blocks) ≡ Some (Some (made kind (length s.blocks) k))
  closed_at kind k s = slice_get-last s.blocks (Some (made kind (length s.blocks) k))

  pub closed_stands : (kind : Kind) (k : BlockRest) (s : Building) → Later (closed kind k s) →
      Stands k (length s.blocks, 0)
  closed_stands kind k s later =
      made_stands kind (length s.blocks) k (length s.blocks) (closed kind k s) later (closed_at kind k s)

  pub step_stands : (kind : Kind) (k : BlockRest) (s : Building) → is_turn_kind kind ≡ false →
      Later (closed kind k s) → StepAt t (length s.blocks)
  step_stands kind k s e later = ((made kind (length s.blocks) k).block, (later (length s.blocks) (made kind (length s.blocks) k) (closed_at kind k s)).0, e)

  pub plain_stands : (k : BlockRest) (s : Building) → Later (closed Kind.Plain k s) → StepAt t (length s.blocks)
  plain_stands k s later = step_stands Kind.Plain k s refl later

  pub later_before : (s s' : Building) → Grows s s' → Later s' → Later s
  later_before s s' grows later n m e = later n m (grows.keeps n (slice_get_within s.blocks n (Some m) e) ∙ e)

  -- what ends a block
  pub ends_with : (term : Term) (node : ℕ) (b : CodePos) → Stands (ending term node) b → TermAt t term b
  ends_with term node b st = (st.0, st.1, st.2.0, st.2.1)

  -- ---- the blocks that are shared stand
  abbrev pub SharedAt : SharedEnd → ℕ → Type 0
  SharedAt e n = StepAt t n × Stands (end_rest f e) (n, 0)

  abbrev pub SharedStand : Building → Type 0
  SharedStand s = (e : SharedEnd) (i n : ℕ) → end_among e (s.shared i) ≡ Some n → SharedAt e n

  -- ---- cleanup blocks keep to themselves
  -- a block stands there, which is a cleanup block or is none
  abbrev pub KindAt : Bool → ℕ → Type 0
  KindAt x n = (block : Block) × (slice_get t.body.blocks n ≡ Some block) × (is_cleanup block ≡ x)

  abbrev pub AllKind : Bool → List ℕ → Type 0
  AllKind x [] = Unit {0}
  AllKind x (n ∷ ns) = KindAt x n × AllKind x ns

  abbrev pub PlainWay : JumpWay → Type 0
  PlainWay way = KindAt false way.block

  abbrev pub resumes : Term → Bool
  resumes Term.Resume = true
  resumes _ = false

  -- a block whose first statement stores into a place, for a node
  abbrev pub StoresFirst : graph_place.Place → (node : ℕ) → ℕ → Type 0
  StoresFirst place node n =
      (kind : Kind) × (rank : ℕ) × (from : graph_operand.Operand) × (rest : List Stmt) × (term : Term)
      × (slice_get t.body.blocks n ≡ Some (record { kind = kind; rank = rank; stmts = Stmt.Put place from ∷ rest; term = term }))
      × (t.node n 0 ≡ node)

  -- what is dropped for a node is a whole local, or is stored into at once for the same node
  abbrev pub DropsWell : Term → (node : ℕ) → Type 0
  DropsWell (Term.DropAt place n (Unwind.Block m)) node =
      (place.steps ≡ []) ⊎ (StoresFirst place node n × StoresFirst place node m)
  DropsWell (Term.DropAt place n unwind) node = place.steps ≡ []
  DropsWell _ node = Unit {0}

  -- what ends a block that is no cleanup block: exactly a panic out of it leads to a cleanup block
  abbrev pub LeadsWell : Term → (node : ℕ) → Type 0
  LeadsWell term node =
      AllKind false (onward term) × AllKind true (unwind_targets term) × (resumes term ≡ false) × DropsWell term node

  -- what ends a cleanup block
  abbrev pub CleansUp : Term → Type 0
  CleansUp (Term.Goto n) = KindAt true n
  CleansUp (Term.DropAt place n unwind) = KindAt true n × (unwind ≡ Unwind.Abort) × (place.steps ≡ [])
  CleansUp Term.Resume = Unit {0}
  CleansUp _ = ⊥

  abbrev pub NoFree : Stmt → Type 0
  NoFree (Stmt.Free place) = ⊥
  NoFree _ = Unit {0}

  abbrev pub EndsWell : Bool → Term → (node : ℕ) → Type 0
  EndsWell true term node = CleansUp term
  EndsWell false term node = LeadsWell term node

  -- nothing is freed by a statement of its own
  abbrev pub FreesNone : List Stmt → Type 0
  FreesNone [] = Unit {0}
  FreesNone (stmt ∷ stmts) = NoFree stmt × FreesNone stmts

  -- each line has a node, and the last of them is that of the terminator
  abbrev pub BlockWell : MadeBlock → Type 0
  BlockWell m = (nodes : List ℕ) × (node : ℕ) × (m.nodes ≡ nodes ++ node ∷ []) × (length nodes ≡ length m.block.stmts)
      × EndsWell (is_cleanup m.block) m.block.term node × FreesNone m.block.stmts

  abbrev pub RestEnds : Bool → BlockRest → Type 0
  RestEnds x k = EndsWell x k.term k.node × FreesNone (map (λ l. l.stmt) k.lines)

  a_node_each : (lines : List NodeLine) → length (map (λ l. l.node) lines) ≡ length (map (λ l. l.stmt) lines)
  a_node_each [] = refl
  a_node_each (line ∷ lines) = ap suc (a_node_each lines)

  pub made_well : (kind : Kind) (rank : ℕ) (k : BlockRest) → RestEnds (is_cleanup_kind kind) k →
      BlockWell (made kind rank k)
  made_well kind rank k h = (map (λ l. l.node) k.lines, k.node, refl, a_node_each k.lines, h.0, h.1)

  abbrev pub RestWell : BlockRest → Type 0
  RestWell k = RestEnds false k

  pub record Tidy (s : Building) : Type 0 where
    pub blocks : (n : ℕ) (m : MadeBlock) → slice_get s.blocks n ≡ Some (Some m) → BlockWell m
    pub shared : (e : SharedEnd) (i n : ℕ) → end_among e (s.shared i) ≡ Some n →
        KindAt (is_cleanup_kind (end_kind f e)) n

  -- all that is made is tidy, and so is what comes next
  abbrev pub TidyAfter : BlockRest × Building → Type 0
  TidyAfter r = Tidy r.1 × RestWell r.0

  pub kind_stands : (kind : Kind) (k : BlockRest) (s : Building) → Later (closed kind k s) →
      KindAt (is_cleanup_kind kind) (length s.blocks)
  kind_stands kind k s later =
      ((made kind (length s.blocks) k).block, (later (length s.blocks) (made kind (length s.blocks) k) (closed_at kind k s)).0, refl)

  pub closed_tidy : (kind : Kind) (k : BlockRest) (s : Building) → Tidy s → RestEnds (is_cleanup_kind kind) k →
      Tidy (closed kind k s)
  closed_tidy kind k s h l = record {
    blocks = λ n m e. by_place n m (push_cases s.blocks (Some (made kind (length s.blocks) k)) n (Some m) e);
    shared = h.shared;
  }
    where
      by_place : (n : ℕ) (m : MadeBlock) → (slice_get s.blocks n ≡ Some (Some m)) ⊎ ((n ≡ length s.blocks) × (Some (made kind (length s.blocks) k) ≡ Some m)) → BlockWell m
      by_place n m (inl e) = h.blocks n m e
      by_place n m (inr e) =
          subst BlockWell (same_Some (made kind (length s.blocks) k) m e.1) (made_well kind (length s.blocks) k l)

  -- ---- what is built
  abbrev pub CodeEnds : Bool → Lowers → (Ways → CodeSpot) → Ways → Scopes → BlockRest → CodePos → Type 0
  CodeEnds true P spot c S k b = (b' : CodePos) × Stands k b' × spot c S b (P.after S) b'
  CodeEnds false P spot c S k b = HasNoEnd (spot c) S b

  abbrev pub CodeStands : Bool → Lowers → (Ways → CodeSpot) → Ways → Scopes → BlockRest → BlockRest × Building → Type 0
  CodeStands has_end P spot c S k r = SharedStand r.1 × ((b : CodePos) → Stands r.0 b → CodeEnds has_end P spot c S k b)

  -- the code of what is lowered stands, whatever is built before it; each edge leads to a number that was given out, and to a
  -- block of the kind that it may lead to
  pub record Lowered (P : Lowers) (spot : Ways → CodeSpot) : Type 0 where
    pub grows : (c : Ways) (S : Scopes) (k : BlockRest) (s : Building) → Grows s (P.build c S k s).1
    pub holds : (c : Ways) (S : Scopes) (k : BlockRest) (s : Building) → JumpWays IsUsed c P.jumps →
        Later (P.build c S k s).1 → SharedStand s →
        CodeStands P.has_end P spot c S k (P.build c S k s)
    pub ranks : (c : Ways) (S : Scopes) (k : BlockRest) (s : Building) →
        JumpWays (BlockGiven (length s.blocks)) c P.jumps → Ranked s → LeadsOn k s →
        Ranked (P.build c S k s).1 × LeadsOn (P.build c S k s).0 (P.build c S k s).1
    pub tidies : (c : Ways) (S : Scopes) (k : BlockRest) (s : Building) → JumpWays PlainWay c P.jumps →
        Later (P.build c S k s).1 → Tidy s → RestWell k → TidyAfter (P.build c S k s)
