-- What a watch sees of a path it sees of the walk that is given the choices of the path.
use Rattle.std.proofs.Common.{◌≡◌, ℕ, suc, ◌≤◌, Bool, true, false, List, [], ◌∷◌, ◌++◌, map, flat_map, length, Option, Some, None, slice_get, Contains, refl, sym, ap, subst, ◌∙◌, arith}
use Rattle.std.specs.Option.{option_map_or}
use Rattle.std.proofs.lemmas.List.{append_assoc}
use Rattle.mir_ty.specs.declared.ty.TyId.{TyId}
use Rattle.mir_ty.specs.ItemTable.{ItemTable}
use Rattle.store_model.specs.Abstract.Effects.{never_at}
use Rattle.store_model.specs.Effects as effects
use Rattle.store_model.specs.Effects.{Halt, Infeasible, Unreachable, Out, Go, Halts, Effects, stores_where, halting_if}
use Rattle.cfg_graph.specs.declared.graph.Block.{Block}
use Rattle.cfg_graph.specs.declared.graph.Body.{Body}
use Rattle.cfg_graph.specs.declared.graph.Kind.{Kind}
use Rattle.cfg_graph.specs.declared.statement.Stmt.{Stmt}
use Rattle.cfg_graph.specs.declared.terminator.Term.{Term}
use Rattle.cfg_graph.specs.declared.terminator.Unwind.{Unwind}
use Rattle.cfg_graph.specs.Edges.{onward, unwind_targets, is_turn, is_turn_kind}
use Rattle.cfg_graph.specs.Moves.Paths.{zero_if, ways, choices_to, choices_between, choices_along, entry_choices}
use Rattle.cfg_graph.specs.Uses.{stmt_uses, term_uses}
use Rattle.cfg_meaning.specs.Actions.{site_of, operand_of, operands_of, action_of, mode_of}
use Rattle.cfg_meaning.specs.Walk.{acts, Next, ◌>>=◌, renamed, naming, stmts_do, term_does, block_does}
use Rattle.move_errors.proofs.Pathways.{in-map, in-flat}
use Rattle.move_errors.proofs.Sorted.{none-in}
use Rattle.lower_rules.proofs.TiedWalks.{Walks}
use Rattle.lower_rules.specs.Spots.{CodeTarget}
use Rattle.lower_ready.proofs.Noting.{Note, Sees, is_call, before, tested, may_panic, Watched, left_of, choice, looked, acts_by, needs_at, watching}
use Rattle.lower_ready.proofs.PathWatch as watch
use Rattle.lower_ready.proofs.PathWatch.{as_notes, both_are, stmt_notes, is_statement, stores_never, never_stored, lines_seen, calls, block_seen, between, way_seen, path_seen}
use Rattle.lower_ready.proofs.PathWays.{goto_way, goto_seen, makes_never, term_way}

-- ---- what goes on on paths goes on in runs

-- behind a statement that stores a value of type `!` stands nothing but the way to the block that returns
abbrev pub Lasts : ItemTable → List TyId → List Stmt → Term → Type 0
Lasts items locals [] term = Unit {0}
Lasts items locals (stmt ∷ stmts) term =
    (stores_never items locals stmt ≡ true → (stmts ≡ []) × (term ≡ Term.Goto 1)) × Lasts items locals stmts term

abbrev pub returning : Block
returning = record { kind = Kind.Plain; rank = 1; stmts = []; term = Term.Return }

-- No run goes on behind a store of a value of type `!`, and no path does anything there. A panic leads elsewhere
-- than the
-- way on.
pub record GoesOn (items : ItemTable) (body : Body) : Type 0 where
  pub lasts : (n : ℕ) (block : Block) → slice_get body.blocks n ≡ Some block → Lasts items body.locals block.stmts
      block.term
  pub returns : slice_get body.blocks 1 ≡ Some returning
  pub makes : (n : ℕ) (block : Block) → slice_get body.blocks n ≡ Some block → makes_never items body block.term ≡ false
  pub elsewhere : (n next : ℕ) (block : Block) → slice_get body.blocks n ≡ Some block →
      Contains (onward block.term) next → Contains (unwind_targets block.term) next → ⊥

shorter : {X : Type 0} (xs ys : List X) (m : ℕ) → length (xs ++ ys) ≤ m → length ys ≤ m
shorter [] ys m h = h
shorter (x ∷ xs) ys m h = shorter xs ys m (omega (h, arith))

module _ {M : Type 0} (t : CodeTarget) (see : Sees M) (Bad : M → Type 0)
    (stays : (call : Bool) (notes : List Note) (m : M) → Bad m → Bad (see call notes m))
    (none_seen : (m : M) → see false [] m ≡ m)
    (name : Halt → Halt) (bound : ℕ) (Walk : Next (Watched M))
    (walks : Walks t (naming name (watching t.items (slice_get t.body.locals) see)) left_of bound Walk)
    (walk_stays : (n : ℕ) → watch.Keeps t.items (slice_get t.body.locals) see Bad stays (Walk n))
    (goes : GoesOn t.items t.body) where
  abbrev items : ItemTable
  items = t.items

  abbrev body : Body
  body = t.body

  abbrev ty : ℕ → Option TyId
  ty = slice_get body.locals

  abbrev p : Effects (Watched M)
  p = watching items ty see

  abbrev q : Effects (Watched M)
  q = naming name p

  abbrev pub EndsBad : Out (Watched M) → Type 0
  EndsBad = watch.EndsBad items ty see Bad stays

  -- ---- the last terminator of a path

  so_used : (call : Bool) (uses notes : List Note) (m : M) → uses ≡ notes → Bad (see call notes m) →
      Bad (see call uses m)
  so_used call uses notes m e b = subst (λ (z : List Note). Bad (see call z m)) (sym e) b

  used : (a : effects.Action) (to : ℕ) (u : Unwind) (w : Watched M) (notes : List Note) → before a ≡ notes →
      Bad (see (is_call a) notes w.seen) →
      EndsBad (acts
      (renamed name (halting_if (stores_where (never_at items ty) a) Unreachable
      (acts_by items ty see true a w))) Walk to u)
  used a to u w notes e b =
      watch.acts_on items ty see Bad stays name Walk walk_stays _ to u
      (watch.halting_bad items ty see Bad stays (stores_where (never_at items ty) a)
      (acts_by items ty see true a w) (watch.used_bad items ty see Bad stays a w (so_used (is_call a)
      (before a) notes w.seen e b)))

  term_last : (n : ℕ) (term : Term) (w : Watched M) → Bad (see (calls term) (as_notes (term_uses term)) w.seen) →
      EndsBad (term_does q n term Walk w)
  term_last n (Term.Goto m) w b = walk_stays m w (subst Bad (none_seen w.seen) b)
  term_last n (Term.If on y z) w b =
      watch.branch_bad items ty see Bad stays (q.choose (effects.IsTrue (operand_of n on)) w) (Walk y) (Walk z)
      (watch.renamed_choice_bad items ty see Bad stays name (p.choose (effects.IsTrue (operand_of n on)) w)
      (watch.chosen_bad items ty see Bad stays w.choices (see false (tested (effects.IsTrue (operand_of n on))) w.seen)
      (so_used false _ _ w.seen (both_are n (on ∷ []) []) b))) (walk_stays y) (walk_stays z)
  term_last n (Term.Case on variant y z) w b =
      watch.branch_bad items ty see Bad stays (q.choose (effects.HasVariant (site_of n on) variant) w) (Walk y) (Walk z)
      (watch.renamed_choice_bad items ty see Bad stays name (p.choose (effects.HasVariant (site_of n on) variant) w)
      (watch.chosen_bad items ty see Bad stays w.choices (see false (tested (effects.HasVariant (site_of n on) variant))
      w.seen) b))
      (walk_stays y) (walk_stays z)
  term_last n (Term.Math to op l r next u) w b =
      used (effects.Compute (site_of n to) op (operand_of n l) (operand_of n r)) next u w _
      (both_are n (l ∷ r ∷ []) []) b
  term_last n (Term.Negate to x next u) w b =
      used (effects.Negate (site_of n to) (operand_of n x)) next u w _ (both_are n (x ∷ []) []) b
  term_last n (Term.Bounds x count next u) w b =
      used (effects.Bounds (operand_of n x) count) next u w _ (both_are n (x ∷ []) []) b
  term_last n (Term.Call to f args next u) w b =
      used (effects.Call (site_of n to) f (operands_of n args)) next u w _ (both_are n args []) b
  term_last n (Term.Virtual to trait_no method args next u) w b =
      used (effects.CallVirtual (site_of n to) trait_no method (operands_of n args)) next u w _ (both_are n args []) b
  term_last n (Term.Ask to next u) w b = used (effects.Ask (site_of n to)) next u w _ refl b
  term_last n (Term.DropAt place next u) w b =
      watch.acts_on items ty see Bad stays name Walk walk_stays (p.drop (mode_of u) (site_of n place) w) next u
      (watch.drops_bad items ty see Bad stays (needs_at items ty see (site_of n place)) (mode_of u)
      (looked items ty see _ w) b)
  term_last n (Term.Panic why u) w b =
      watch.unwinding_bad items ty see Bad stays u Walk walk_stays w (subst Bad (none_seen w.seen) b)
  term_last n Term.Return w b = subst Bad (none_seen w.seen) b
  term_last n Term.Resume w b = subst Bad (none_seen w.seen) b

  -- ---- the statements of a block

  stmts_follow : (node : ℕ → ℕ) (line : ℕ) (stmts : List Stmt) (term : Term) → Lasts items body.locals stmts term →
      (rest : Watched M → Out (Watched M)) (after : M → M) → (term ≡ Term.Goto 1 → (m : M) → after m ≡ m) →
      (w : Watched M) → Bad (after (lines_seen see stmts w.seen)) →
      ((v : Watched M) → v.seen ≡ lines_seen see stmts w.seen → v.choices ≡ w.choices → EndsBad (rest v)) →
      EndsBad (stmts_do q node line stmts rest w)
  stmts_follow node line [] term lasts rest after ends w b f = f w refl refl
  stmts_follow node line (stmt ∷ stmts) term lasts rest after ends w b f =
      subst (λ (o : Out (Watched M)). EndsBad (◌>>=◌ (renamed name o) (stmts_do q node (suc line) stmts rest))) (sym is)
      (by (stores_never items body.locals stmt) refl
      (stmts_follow node (suc line) stmts term lasts.1 rest after ends v b f))
    where
      v : Watched M
      v = looked items ty see (as_notes (stmt_uses stmt)) w

      is : p.act (action_of (node line) stmt) w ≡ halting_if (stores_never items body.locals stmt) Unreachable (Go v)
      is =
          ap (λ (x : Bool). halting_if x Unreachable
          (acts_by items ty see (may_panic (action_of (node line) stmt)) (action_of (node line) stmt) w))
          (never_stored items body.locals (node line) stmt)
          ∙ ap (λ (x : Bool). halting_if (stores_never items body.locals stmt) Unreachable
          (acts_by items ty see x (action_of (node line) stmt) w)) (is_statement (node line) stmt)
          ∙ ap (λ (notes : List Note). halting_if (stores_never items body.locals stmt) Unreachable
          (Go (looked items ty see notes w)))
          (stmt_notes (node line) stmt)

      none : stores_never items body.locals stmt ≡ true → Bad v.seen
      none e =
          let last = lasts.0 e in
          subst Bad (ends last.1 v.seen) (subst (λ (ss : List Stmt). Bad (after (lines_seen see ss v.seen))) last.0 b)

      by : (x : Bool) → stores_never items body.locals stmt ≡ x → EndsBad (stmts_do q node (suc line) stmts rest v) →
          EndsBad (◌>>=◌ (renamed name (halting_if x Unreachable (Go v))) (stmts_do q node (suc line) stmts rest))
      by true e later = none e
      by false e later = later

  -- ---- blocks

  abbrev Along : ℕ → List ℕ → List Bool → Type 0
  Along n path given = Contains (choices_along items body (λ last. [] ∷ []) n path) given

  abbrev Follows : List ℕ → Type 0
  Follows path = (n : ℕ) (block : Block) → slice_get body.blocks n ≡ Some block → (given left : List Bool) →
      Along n path given → (w : Watched M) → w.choices ≡ given ++ left → left_of w ≤ bound →
      Bad (path_seen see body n path w.seen) → EndsBad (block_does q (t.node n) block Walk w)

  -- no path goes on from a block that does not exist, or that returns
  no_block : (n k : ℕ) (c : List Bool) → slice_get body.blocks n ≡ None → Contains (choices_between items body n k)
      c → ⊥
  no_block n k c missing has =
      none-in c (subst (λ (o : Option Block). Contains (flat_map (choices_to items body k)
      (option_map_or (λ found. ways items body found.term) o [])) c) missing has)

  way_of : (n k : ℕ) (block : Block) (c : List Bool) → slice_get body.blocks n ≡ Some block →
      Contains (choices_between items body n k) c → Contains
      (flat_map (choices_to items body k) (ways items body block.term)) c
  way_of n k block c there has =
      subst (λ (o : Option Block). Contains (flat_map (choices_to items body k)
      (option_map_or (λ found. ways items body found.term) o [])) c) there has

  missing_seen : (path : List ℕ) (n : ℕ) (given : List Bool) (m : M) → slice_get body.blocks n ≡ None →
      Along n path given →
      Bad (path_seen see body n path m) → Bad m
  missing_seen [] n given m missing has b = subst (λ (o : Option Block). Bad (block_seen see o m)) missing b
  missing_seen (k ∷ path) n given m missing has b =
      let it = in-flat (λ c. map (λ rest. c ++ entry_choices items body k ++ rest)
      (choices_along items body (λ last. [] ∷ []) k path)) (choices_between items body n k) given has in
      absurd (no_block n k it.0 missing it.1)

  -- past the entry to a block
  enters : (path : List ℕ) → Follows path → (n : ℕ) (given left : List Bool) → Along n path given → (w : Watched M) →
      w.choices ≡ entry_choices items body n ++ (given ++ left) → left_of w ≤ bound →
      Bad (path_seen see body n path w.seen) → EndsBad (Walk n w)
  enters path follow n given left has w e l b = by (slice_get body.blocks n) refl
    where
      so : (block : Block) (x : Bool) → slice_get body.blocks n ≡ Some block → is_turn_kind block.kind ≡ x →
          w.choices ≡ zero_if x ++ (given ++ left) → EndsBad (Walk n w)
      so block false there plain list =
          subst EndsBad (sym (walks.plain n block there plain w l)) (follow n block there given left has w list l b)
      so block true there turn list =
          subst EndsBad (sym (walks.turn n block there (of_turn block.kind turn) w l))
          (subst (λ (z : List Bool). EndsBad (◌>>=◌ (renamed name (choice z w.seen Go (Halts Infeasible)))
          (block_does q (t.node n) block Walk))) (sym list)
          (follow n block there given left has (record { seen = w.seen; choices = given ++ left }) refl
          (shorter (false ∷ []) (given ++ left) bound (subst (λ (z : List Bool). length z ≤ bound) list l)) b))
        where
          of_turn : (kind : Kind) → is_turn_kind kind ≡ true → kind ≡ Kind.Turn
          of_turn Kind.Turn e = refl
          of_turn Kind.Plain e = absurd (let never : false ≡ true = e in cc)
          of_turn Kind.Cleanup e = absurd (let never : false ≡ true = e in cc)

      by : (o : Option Block) → slice_get body.blocks n ≡ o → EndsBad (Walk n w)
      by None missing = walk_stays n w (missing_seen path n given w.seen missing has b)
      by (Some block) there =
          so block (is_turn_kind block.kind) there refl
          (e ∙ ap (λ (o : Option Block). zero_if (option_map_or is_turn o false) ++ (given ++ left)) there)

  -- behind a store of a value of type `!`
  returned : (path : List ℕ) (given : List Bool) (m : M) → Along 1 path given → path_seen see body 1 path m ≡ m
  returned [] given m has = ap (λ (o : Option Block). block_seen see o m) goes.returns ∙ none_seen m
  returned (k ∷ path) given m has =
      let it = in-flat (λ c. map (λ rest. c ++ entry_choices items body k ++ rest)
      (choices_along items body (λ last. [] ∷ []) k path)) (choices_between items body 1 k) given has in
      absurd (none-in it.0 (way_of 1 k returning it.0 goes.returns it.1))

  pub follow : (path : List ℕ) → Follows path
  follow [] n block there given left has w e l b =
      stmts_follow (t.node n) 0 block.stmts block.term (goes.lasts n block there)
      (term_does q (t.node n (length block.stmts)) block.term Walk) (λ m. see (calls block.term) (as_notes
      (term_uses block.term)) m)
      (λ is m. subst (λ (x : Term). see (calls x) (as_notes (term_uses x)) m ≡ m) (sym is) (none_seen m)) w b_here
      (λ v seen left_so. term_last (t.node n (length block.stmts)) block.term v
      (subst (λ (m : M). Bad (see (calls block.term) (as_notes (term_uses block.term)) m)) (sym seen) b_here))
    where
      b_here : Bad (see (calls block.term) (as_notes (term_uses block.term)) (lines_seen see block.stmts w.seen))
      b_here = subst (λ (o : Option Block). Bad (block_seen see o w.seen)) there b
  follow (k ∷ path) n block there given left has w e l b =
      stmts_follow (t.node n) 0 block.stmts block.term (goes.lasts n block there)
      (term_does q (t.node n (length block.stmts)) block.term Walk) after ends w b_here
      (λ v seen same. term_way items body see Bad none_seen name Walk (t.node n (length block.stmts)) block.term k one.0
      (entry_choices items body k ++ (two.0 ++ left)) way (goes.makes n block there)
      (λ a c. goes.elsewhere n k block there a c) v (same ∙ list)
      (λ u saw rest. enters path (follow path) k two.0 left two.1 u rest
      (subst (λ (z : List Bool). length z ≤ bound) (sym rest)
      (shorter one.0 (entry_choices items body k ++ (two.0 ++ left)) bound
      (subst (λ (z : List Bool). length z ≤ bound) list l)))
      (subst (λ (m : M). Bad (path_seen see body k path m))
      (ap (λ (m : M). between see block.term k (see (calls block.term) (as_notes (term_uses block.term)) m))
      (sym seen) ∙ sym saw)
      b_here)))
    where
      one : (c : List Bool) × Contains (choices_between items body n k) c
          × Contains (map (λ (rest : List Bool). c ++ entry_choices items body k ++ rest)
          (choices_along items body (λ last. [] ∷ []) k path)) given
      one = in-flat (λ c. map (λ rest. c ++ entry_choices items body k ++ rest)
          (choices_along items body (λ last. [] ∷ []) k path)) (choices_between items body n k) given has

      two : (c : List Bool) × Along k path c × (one.0 ++ entry_choices items body k ++ c ≡ given)
      two = in-map (λ (rest : List Bool). one.0 ++ entry_choices items body k ++ rest)
          (choices_along items body (λ last. [] ∷ []) k path) given one.2

      way : Contains (flat_map (choices_to items body k) (ways items body block.term)) one.0
      way = way_of n k block one.0 there one.1

      list : w.choices ≡ one.0 ++ (entry_choices items body k ++ (two.0 ++ left))
      list =
          e ∙ ap (λ (z : List Bool). z ++ left) (sym two.2)
          ∙ append_assoc (one.0 ++ entry_choices items body k) two.0 left
          ∙ append_assoc one.0 (entry_choices items body k) (two.0 ++ left)

      after : M → M
      after m = path_seen see body k path (between see block.term k (see (calls block.term) (as_notes
          (term_uses block.term)) m))

      b_here : Bad (after (lines_seen see block.stmts w.seen))
      b_here =
          subst (λ (o : Option Block). Bad (path_seen see body k path (way_seen see o k (block_seen see o w.seen))))
          there b

      ends : block.term ≡ Term.Goto 1 → (m : M) → after m ≡ m
      ends is m =
          let here = subst (λ (x : Term). Contains (flat_map (choices_to items body k) (ways items body x)) one.0) is
          way in
          let to = goto_way items body see Bad none_seen name Walk 1 k one.0 here in
          ap (λ (x : Term). path_seen see body k path (between see x k (see (calls x) (as_notes (term_uses x)) m))) is
          ∙ ap (path_seen see body k path) (goto_seen items body see Bad none_seen name Walk 1 k m)
          ∙ subst (λ (z : ℕ). Along z path two.0 → path_seen see body z path m ≡ m) to (returned path two.0 m) two.1

  -- ---- from the start

  pub from_start : (path : List ℕ) (given left : List Bool) → Along 0 path given → (w : Watched M) →
      w.choices ≡ entry_choices items body 0 ++ (given ++ left) → left_of w ≤ bound →
      Bad (path_seen see body 0 path w.seen) →
      EndsBad (Walk 0 w)
  from_start path given left has w e l b = enters path (follow path) 0 given left has w e l b
