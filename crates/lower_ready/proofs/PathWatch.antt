-- What a watch sees of a path, line by line; the lines of a graph as actions; and what stays seen as a walk goes on.
use Rattle.std.proofs.Common.{◌≡◌, ℕ, zero, suc, ◌||◌, Bool, true, false, List, [], ◌∷◌, ◌++◌, map, flat_map, length, if◌then◌else◌, Option, Some, None, slice_get, refl, sym, ap, ◌∙◌}
use Rattle.std.specs.Prelude.{nat_eq}
use Rattle.std.specs.List.{list_any}
use Rattle.std.proofs.lemmas.List.{map-append}
use Rattle.mir_ty.specs.declared.ty.TyId.{TyId}
use Rattle.mir_ty.specs.ItemTable.{ItemTable}
use Rattle.store_model.specs.Abstract.Effects.{never_at}
use Rattle.store_model.specs.Effects as effects
use Rattle.store_model.specs.Effects.{EffectSite, Action, Mode, Normal, Unwinding, Halt, Stuck, Unreachable, Infeasible, Out, Go, Unwind as Unwinds, Halts, Choice, Yes, No, Neither, Effects, stores_where, halting_if}
use Rattle.store_model.specs.Places.TypeForms.{is_never}
use Rattle.cfg_graph.specs.declared.graph.Block.{Block}
use Rattle.cfg_graph.specs.declared.graph.Body.{Body}
use Rattle.cfg_graph.specs.declared.graph.Kind.{Kind}
use Rattle.cfg_graph.specs.declared.place.Operand.{Operand}
use Rattle.cfg_graph.specs.declared.place.Place as graph_place
use Rattle.cfg_graph.specs.declared.statement.Stmt.{Stmt}
use Rattle.cfg_graph.specs.declared.terminator.Term.{Term}
use Rattle.cfg_graph.specs.declared.terminator.Unwind.{Unwind}
use Rattle.cfg_graph.specs.Edges.{onward}
use Rattle.cfg_graph.specs.Places.{named, ty_of_place}
use Rattle.cfg_graph.specs.Uses.{PlaceUse, Stores, Drops, operand_uses, other_uses, stmt_uses, term_uses, stored_by_stmt, stored_by_term}
use Rattle.cfg_meaning.specs.Actions.{site_of, operand_of, operands_of, action_of, mode_of}
use Rattle.cfg_meaning.specs.Walk.{Next, stuck_in, ◌>>=◌, fork, branch, renamed, renamed_choice, naming, unwinding, stmts_do, acts, term_does, block_does, by_kind, if_there, does_block, does_turn, blocks, turns, walk, from_rank, rank_at}
use Rattle.lower_ready.proofs.Noting.{Note, Sees, is_call, operand_notes, before, stored, tested, may_panic, Watched, choice, chosen, unwound, looked, acts_by, drops_by, needs_at, watching}

-- ---- the uses of a line as notes

abbrev pub as_notes : List (PlaceUse × graph_place.Place) → List Note
as_notes uses = map (λ made. (made.0, named made.1)) uses

operand_is : (n : ℕ) (o : Operand) → operand_notes (operand_of n o) ≡ as_notes (operand_uses o)
operand_is n (Operand.Copied place) = refl
operand_is n (Operand.Moved place) = refl
operand_is n (Operand.Number value kind) = refl
operand_is n (Operand.Truth value) = refl
operand_is n Operand.Unit = refl

pub operands_are : (n : ℕ) (os : List Operand) →
    flat_map operand_notes (operands_of n os) ≡ as_notes (flat_map operand_uses os)
operands_are n [] = refl
operands_are n (o ∷ os) =
    (λ i. operand_is n o i ++ operands_are n os i)
    ∙ sym (map-append (λ (made : PlaceUse × graph_place.Place). (made.0, named made.1)) (operand_uses o)
    (flat_map operand_uses os))

-- operands, and what is used otherwise
pub both_are : (n : ℕ) (os : List Operand) (others : List (PlaceUse × graph_place.Place)) →
    flat_map operand_notes (operands_of n os) ++ as_notes others ≡ as_notes (flat_map operand_uses os ++ others)
both_are n os others =
    ap (λ (z : List Note). z ++ as_notes others) (operands_are n os)
    ∙ sym (map-append (λ (made : PlaceUse × graph_place.Place). (made.0, named made.1)) (flat_map operand_uses os)
    others)

-- and what is stored into
all_are : (n : ℕ) (os : List Operand) (others stores : List (PlaceUse × graph_place.Place)) →
    (flat_map operand_notes (operands_of n os) ++ as_notes others) ++ as_notes stores
    ≡ as_notes ((flat_map operand_uses os ++ others) ++ stores)
all_are n os others stores =
    ap (λ (z : List Note). z ++ as_notes stores) (both_are n os others)
    ∙ sym (map-append (λ (made : PlaceUse × graph_place.Place). (made.0, named made.1))
    (flat_map operand_uses os ++ others) stores)

pub stmt_notes : (n : ℕ) (stmt : Stmt) → before (action_of n stmt) ++ stored (action_of n stmt) ≡ as_notes
    (stmt_uses stmt)
stmt_notes n (Stmt.Put to from) = all_are n (from ∷ []) [] ((Stores, to) ∷ [])
stmt_notes n (Stmt.Compare to op left right) = all_are n (left ∷ right ∷ []) [] ((Stores, to) ∷ [])
stmt_notes n (Stmt.Not to operand) = all_are n (operand ∷ []) [] ((Stores, to) ∷ [])
stmt_notes n (Stmt.Tuple to parts) = all_are n parts [] ((Stores, to) ∷ [])
stmt_notes n (Stmt.Array to parts) = all_are n parts [] ((Stores, to) ∷ [])
stmt_notes n (Stmt.Make to adt variant parts) = all_are n parts [] ((Stores, to) ∷ [])
stmt_notes n (Stmt.Close to closure parts) = all_are n parts [] ((Stores, to) ∷ [])
stmt_notes n (Stmt.NewBox to operand) = all_are n (operand ∷ []) [] ((Stores, to) ∷ [])
stmt_notes n (Stmt.Unsize to trait_no from) = all_are n (from ∷ []) [] ((Stores, to) ∷ [])
stmt_notes n (Stmt.Borrow to unique of) = all_are n [] (other_uses (Stmt.Borrow to unique of)) ((Stores, to) ∷ [])
stmt_notes n (Stmt.Touch place) = all_are n [] (other_uses (Stmt.Touch place)) []
stmt_notes n (Stmt.Print operand) = all_are n (operand ∷ []) [] []
stmt_notes n (Stmt.Forget operand) = all_are n (operand ∷ []) [] []
stmt_notes n (Stmt.Free place) = all_are n [] (other_uses (Stmt.Free place)) []

pub is_statement : (n : ℕ) (stmt : Stmt) → may_panic (action_of n stmt) ≡ false
is_statement n (Stmt.Put to from) = refl
is_statement n other = refl

-- ---- a statement that stores a value of type `!`

module _ (items : ItemTable) (locals : List TyId) where
  abbrev pub stores_never : Stmt → Bool
  stores_never stmt = list_any (λ to. is_never (ty_of_place items locals to)) (stored_by_stmt stmt)

  alone : (b : Bool) → b ≡ b || false
  alone true = refl
  alone false = refl

  pub never_stored : (n : ℕ) (stmt : Stmt) →
      stores_where (never_at items (slice_get locals)) (action_of n stmt) ≡ stores_never stmt
  never_stored n (Stmt.Put to from) = alone (is_never (ty_of_place items locals to))
  never_stored n (Stmt.Compare to op left right) = alone (is_never (ty_of_place items locals to))
  never_stored n (Stmt.Not to operand) = alone (is_never (ty_of_place items locals to))
  never_stored n (Stmt.Tuple to parts) = alone (is_never (ty_of_place items locals to))
  never_stored n (Stmt.Array to parts) = alone (is_never (ty_of_place items locals to))
  never_stored n (Stmt.Make to adt variant parts) = alone (is_never (ty_of_place items locals to))
  never_stored n (Stmt.Close to closure parts) = alone (is_never (ty_of_place items locals to))
  never_stored n (Stmt.NewBox to operand) = alone (is_never (ty_of_place items locals to))
  never_stored n (Stmt.Unsize to trait_no from) = alone (is_never (ty_of_place items locals to))
  never_stored n (Stmt.Borrow to unique of) = alone (is_never (ty_of_place items locals to))
  never_stored n (Stmt.Touch place) = refl
  never_stored n (Stmt.Print operand) = refl
  never_stored n (Stmt.Forget operand) = refl
  never_stored n (Stmt.Free place) = refl

-- a terminator that is a call
abbrev pub calls : Term → Bool
calls (Term.Call to body args next unwind) = true
calls (Term.Virtual to trait_no method args next unwind) = true
calls term = false

-- ---- what a watch sees of a path

module _ {M : Type 0} (see : Sees M) where
  abbrev pub lines_seen : List Stmt → M → M
  lines_seen [] m = m
  lines_seen (stmt ∷ stmts) m = lines_seen stmts (see false (as_notes (stmt_uses stmt)) m)

  -- a block, up to a way out of it; and what is stored on the way to the next one
  abbrev pub block_seen : Option Block → M → M
  block_seen None m = m
  block_seen (Some block) m = see (calls block.term) (as_notes (term_uses block.term)) (lines_seen block.stmts m)

  abbrev pub between : Term → ℕ → M → M
  between term next m =
      if list_any (nat_eq next) (onward term)
      then see false (as_notes (map (λ place. (Stores, place)) (stored_by_term term))) m
      else m

  abbrev pub way_seen : Option Block → ℕ → M → M
  way_seen None next m = m
  way_seen (Some block) next m = between block.term next m

  abbrev pub path_seen : Body → ℕ → List ℕ → M → M
  path_seen body n [] m = block_seen (slice_get body.blocks n) m
  path_seen body n (next ∷ path) m =
      path_seen body next path (way_seen (slice_get body.blocks n) next (block_seen (slice_get body.blocks n) m))

-- ---- what has been seen stays seen

module _ {M : Type 0} (items : ItemTable) (ty : ℕ → Option TyId) (see : Sees M) (Bad : M → Type 0)
    (stays : (call : Bool) (notes : List Note) (m : M) → Bad m → Bad (see call notes m)) where
  abbrev pub EndsBad : Out (Watched M) → Type 0
  EndsBad (Go w) = Bad w.seen
  EndsBad (Unwinds w) = Bad w.seen
  EndsBad (Halts halt w) = Bad w.seen

  abbrev pub ChoiceBad : Choice (Watched M) → Type 0
  ChoiceBad (Yes w) = Bad w.seen
  ChoiceBad (No w) = Bad w.seen
  ChoiceBad (Neither halt w) = Bad w.seen

  abbrev pub Keeps : (Watched M → Out (Watched M)) → Type 0
  Keeps f = (v : Watched M) → Bad v.seen → EndsBad (f v)

  abbrev p : Effects (Watched M)
  p = watching items ty see

  pub choice_bad : (list : List Bool) (seen : M) (f h : Watched M → Out (Watched M)) → Bad seen → Keeps f → Keeps h →
      EndsBad (choice list seen f h)
  choice_bad [] seen f h b e d = b
  choice_bad (false ∷ list) seen f h b e d = e (record { seen = seen; choices = list }) b
  choice_bad (true ∷ list) seen f h b e d = d (record { seen = seen; choices = list }) b

  pub chosen_bad : (list : List Bool) (seen : M) → Bad seen → ChoiceBad (chosen list seen)
  chosen_bad [] seen b = b
  chosen_bad (false ∷ list) seen b = b
  chosen_bad (true ∷ list) seen b = b

  pub halting_bad : (x : Bool) (o : Out (Watched M)) → EndsBad o → EndsBad (halting_if x Unreachable o)
  halting_bad true (Go w) b = b
  halting_bad true (Unwinds w) b = b
  halting_bad true (Halts halt w) b = b
  halting_bad false (Go w) b = b
  halting_bad false (Unwinds w) b = b
  halting_bad false (Halts halt w) b = b

  -- a terminator, from what it uses on
  pub used_bad : (action : Action) (w : Watched M) → Bad (see (is_call action) (before action) w.seen) →
      EndsBad (acts_by items ty see true action w)
  used_bad action w b =
      choice_bad w.choices (see (is_call action) (before action) w.seen) (λ v. Go (looked items ty see
      (stored action) v)) Unwinds b
      (λ v c. stays false (stored action) v.seen c) (λ v c. c)

  acts_bad : (x : Bool) (action : Action) (w : Watched M) → Bad w.seen → EndsBad (acts_by items ty see x action w)
  acts_bad false action w b = stays false (before action ++ stored action) w.seen b
  acts_bad true action w b = used_bad action w (stays (is_call action) (before action) w.seen b)

  act_bad : (action : Action) → Keeps (p.act action)
  act_bad action w b =
      halting_bad (stores_where (never_at items ty) action) (acts_by items ty see (may_panic action) action w)
      (acts_bad (may_panic action) action w b)

  unwound_bad : (mode : Mode) → Keeps (unwound mode)
  unwound_bad Normal v b = b
  unwound_bad Unwinding v b = b

  pub drops_bad : (x : Bool) (mode : Mode) → Keeps (drops_by items ty see x mode)
  drops_bad true mode w b = choice_bad w.choices w.seen Go (unwound mode) b (λ v c. c) (unwound_bad mode)
  drops_bad false mode w b = b

  drop_bad : (mode : Mode) (site : EffectSite) → Keeps (p.drop mode site)
  drop_bad mode site w b =
      drops_bad (needs_at items ty see site) mode (looked items ty see ((Drops, site.place) ∷ []) w)
      (stays false ((Drops, site.place) ∷ []) w.seen b)

  -- ---- along a walk

  pub renamed_bad : (name : Halt → Halt) (o : Out (Watched M)) → EndsBad o → EndsBad (renamed name o)
  renamed_bad name (Go w) b = b
  renamed_bad name (Unwinds w) b = b
  renamed_bad name (Halts halt w) b = b

  pub renamed_choice_bad : (name : Halt → Halt) (o : Choice (Watched M)) → ChoiceBad o →
      ChoiceBad (renamed_choice name o)
  renamed_choice_bad name (Yes w) b = b
  renamed_choice_bad name (No w) b = b
  renamed_choice_bad name (Neither halt w) b = b

  pub go_bad : (o : Out (Watched M)) (f : Watched M → Out (Watched M)) → EndsBad o → Keeps f → EndsBad (◌>>=◌ o f)
  go_bad (Go w) f b k = k w b
  go_bad (Unwinds w) f b k = b
  go_bad (Halts halt w) f b k = b

  pub fork_bad : (o : Out (Watched M)) (f h : Watched M → Out (Watched M)) → EndsBad o → Keeps f → Keeps h →
      EndsBad (fork o f h)
  fork_bad (Go w) f h b k j = k w b
  fork_bad (Unwinds w) f h b k j = j w b
  fork_bad (Halts halt w) f h b k j = b

  pub branch_bad : (o : Choice (Watched M)) (f h : Watched M → Out (Watched M)) → ChoiceBad o → Keeps f → Keeps h →
      EndsBad (branch o f h)
  branch_bad (Yes w) f h b k j = k w b
  branch_bad (No w) f h b k j = j w b
  branch_bad (Neither halt w) f h b k j = b

  pub unwinding_bad : (u : Unwind) (next : Next (Watched M)) → ((m : ℕ) → Keeps (next m)) → Keeps (unwinding u next)
  unwinding_bad (Unwind.Block m) next k v b = k m v b
  unwinding_bad Unwind.Resume next k v b = b
  unwinding_bad Unwind.Abort next k v b = b

  module _ (name : Halt → Halt) (next : Next (Watched M)) (k : (m : ℕ) → Keeps (next m)) where
    abbrev q : Effects (Watched M)
    q = naming name p

    pub acts_on : (o : Out (Watched M)) (to : ℕ) (u : Unwind) → EndsBad o → EndsBad (acts (renamed name o) next to u)
    acts_on o to u b = fork_bad (renamed name o) (next to) (unwinding u next) (renamed_bad name o b) (k to)
        (unwinding_bad u next k)

    term_bad : (node : ℕ) (term : Term) → Keeps (term_does q node term next)
    term_bad node (Term.Goto m) w b = k m w b
    term_bad node (Term.If on y n) w b =
        branch_bad (q.choose (effects.IsTrue (operand_of node on)) w) (next y) (next n)
        (renamed_choice_bad name (p.choose (effects.IsTrue (operand_of node on)) w)
        (chosen_bad w.choices _ (stays false (tested (effects.IsTrue (operand_of node on))) w.seen b))) (k y) (k n)
    term_bad node (Term.Case on variant y n) w b =
        branch_bad (q.choose (effects.HasVariant (site_of node on) variant) w) (next y) (next n)
        (renamed_choice_bad name (p.choose (effects.HasVariant (site_of node on) variant) w)
        (chosen_bad w.choices _ (stays false (tested (effects.HasVariant (site_of node on) variant)) w.seen b))) (k y)
        (k n)
    term_bad node (Term.Math to op l r onward u) w b =
        let a = effects.Compute (site_of node to) op (operand_of node l) (operand_of node r) in
        acts_on (p.act a w) onward u (act_bad a w b)
    term_bad node (Term.Negate to x onward u) w b =
        let a = effects.Negate (site_of node to) (operand_of node x) in acts_on (p.act a w) onward u (act_bad a w b)
    term_bad node (Term.Bounds x count onward u) w b =
        let a = effects.Bounds (operand_of node x) count in acts_on (p.act a w) onward u (act_bad a w b)
    term_bad node (Term.Call to f args onward u) w b =
        let a = effects.Call (site_of node to) f (operands_of node args) in acts_on (p.act a w) onward u (act_bad a w b)
    term_bad node (Term.Virtual to trait_no method args onward u) w b =
        let a = effects.CallVirtual (site_of node to) trait_no method (operands_of node args) in
        acts_on (p.act a w) onward u (act_bad a w b)
    term_bad node (Term.Ask to onward u) w b =
        let a = effects.Ask (site_of node to) in acts_on (p.act a w) onward u (act_bad a w b)
    term_bad node (Term.DropAt place onward u) w b =
        acts_on (p.drop (mode_of u) (site_of node place) w) onward u (drop_bad (mode_of u) (site_of node place) w b)
    term_bad node (Term.Panic why u) w b = unwinding_bad u next k w b
    term_bad node Term.Return w b = b
    term_bad node Term.Resume w b = b

    stmts_bad : (node : ℕ → ℕ) (line : ℕ) (stmts : List Stmt) (f : Watched M → Out (Watched M)) → Keeps f →
        Keeps (stmts_do q node line stmts f)
    stmts_bad node line [] f h w b = h w b
    stmts_bad node line (stmt ∷ stmts) f h w b =
        go_bad (q.act (action_of (node line) stmt) w) (stmts_do q node (suc line) stmts f)
        (renamed_bad name (p.act (action_of (node line) stmt) w) (act_bad (action_of (node line) stmt) w b))
        (stmts_bad node (suc line) stmts f h)

    block_bad : (node : ℕ → ℕ) (block : Block) → Keeps (block_does q node block next)
    block_bad node block =
        stmts_bad node 0 block.stmts (term_does q (node (length block.stmts)) block.term next)
        (term_bad (node (length block.stmts)) block.term)

  module _ (number : ℕ) (node : ℕ → ℕ → ℕ) (body : Body) where
    blocks_bad : (turn : Next (Watched M)) → ((n : ℕ) → Keeps (turn n)) → (r n : ℕ) →
        Keeps (blocks p number node body turn r n)
    blocks_bad turn t zero n w b = by (slice_get body.blocks n)
      where
        so : (block : Block) (kind : Kind) → EndsBad (by_kind p number node body kind n block turn (λ n. Halts Stuck) w)
        so block Kind.Turn = t n w b
        so block Kind.Plain = b
        so block Kind.Cleanup = b

        by : (o : Option Block) → EndsBad (if_there p number node body o n
            (λ block. by_kind p number node body block.kind n block turn (λ n. Halts Stuck)) w)
        by None = b
        by (Some block) = so block block.kind
    blocks_bad turn t (suc r) n w b = by (blocks_bad turn t r) (slice_get body.blocks n)
      where
        so : ((m : ℕ) → Keeps (blocks p number node body turn r m)) → (block : Block) (kind : Kind) →
            EndsBad (by_kind p number node body kind n block turn
            (λ n. does_block p number node body n block (blocks p number node body turn r)) w)
        so later block Kind.Turn = t n w b
        so later block Kind.Plain =
            block_bad (stuck_in number n) (blocks p number node body turn r) later (node n) block w b
        so later block Kind.Cleanup =
            block_bad (stuck_in number n) (blocks p number node body turn r) later (node n) block w b

        by : ((m : ℕ) → Keeps (blocks p number node body turn r m)) → (o : Option Block) →
            EndsBad (if_there p number node body o n
            (λ block. by_kind p number node body block.kind n block turn
            (λ n. does_block p number node body n block (blocks p number node body turn r))) w)
        by later None = b
        by later (Some block) = so later block block.kind

    turns_bad : (fuel n : ℕ) → Keeps (turns p number node body fuel n)
    turns_bad zero n w b = b
    turns_bad (suc fuel) n w b = by (turns_bad fuel) (slice_get body.blocks n)
      where
        by : ((m : ℕ) → Keeps (turns p number node body fuel m)) → (o : Option Block) →
            EndsBad (if_there p number node body o n
            (λ block. does_turn p number node body n block (from_rank p number node body
            (turns p number node body fuel))) w)
        by later None = b
        by later (Some block) =
            go_bad (p.tick w)
            (does_block p number node body n block (from_rank p number node body (turns p number node body fuel)))
            (choice_bad w.choices w.seen Go (Halts Infeasible) b (λ v c. c) (λ v c. c))
            (block_bad (stuck_in number n) (from_rank p number node body (turns p number node body fuel))
            (λ m. blocks_bad (turns p number node body fuel) later (suc (rank_at p number node body m)) m) (node n)
            block)

    pub walk_bad : (fuel n : ℕ) → Keeps (walk p number node body fuel n)
    walk_bad fuel n =
        blocks_bad (turns p number node body fuel) (turns_bad fuel) (suc (rank_at p number node body n)) n
