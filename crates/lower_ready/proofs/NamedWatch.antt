-- A watch over what the reference in a local names: since it was made it is kept or something of it was taken; a use of
-- the reference is bad where something was, or where its own line takes something. Where the watch finds nothing bad on
-- a path, what is named stays.
use Rattle.std.proofs.Common.{◌≡◌, ℕ, zero, suc, ◌+◌, ◌||◌, not, Bool, true, false, List, [], ◌∷◌, ◌++◌, map, length, if◌then◌else◌, Option, Some, None, slice_get, refl, sym, ap, ◌∙◌, arith}
use Rattle.std.specs.Prelude.{nat_eq}
use Rattle.std.specs.List.{list_any}
use Rattle.std.specs.Option.{option_map_or}
use Rattle.std.proofs.lemmas.Bool.{false≢true}
use Rattle.cfg_graph.specs.declared.graph.Block.{Block}
use Rattle.cfg_graph.specs.declared.graph.Body.{Body}
use Rattle.cfg_graph.specs.declared.place.Place as graph_place
use Rattle.cfg_graph.specs.declared.statement.Stmt.{Stmt}
use Rattle.cfg_graph.specs.declared.terminator.Term.{Term}
use Rattle.cfg_graph.specs.Edges.{onward}
use Rattle.cfg_graph.specs.Moves.Actions.{actions_on, actions_in, actions_between, at_line, stmt_actions, block_actions, result_actions}
use Rattle.cfg_graph.specs.Moves.Gone.{PathAction}
use Rattle.cfg_graph.specs.NamedPlaces.{spares, makes, uses, stores}
use Rattle.cfg_graph.specs.Places.{named}
use Rattle.cfg_graph.specs.Uses.{PlaceUse, Stores, stmt_uses, term_uses, stored_by_term}
use Rattle.lower_ready.proofs.Noting.{Note, Sees}
use Rattle.lower_ready.proofs.PathWatch.{as_notes, lines_seen, block_seen, between, way_seen, path_seen}

-- since the reference was made, if it was; or one to another place was made in its local, and nothing is looked at
-- any more
pub data Since : Type 0 where
  Unmade : Since
  Kept : Since
  Taken : Since
  Lost : Since

pub record NamedState : Type 0 where
  pub since : Since
  pub is_bad : Bool

abbrev pub used_by : (by_store crossed : Bool) → Since → Bool → Bool
used_by by_store crossed Unmade bad = bad
used_by by_store crossed Kept bad = bad || (by_store || crossed)
used_by by_store crossed Taken bad = true
used_by by_store crossed Lost bad = bad

abbrev pub taken_since : Since → Since
taken_since Unmade = Unmade
taken_since Kept = Taken
taken_since Taken = Taken
taken_since Lost = Lost

or_first : (a b : Bool) → a || b ≡ false → a ≡ false
or_first true b e = e
or_first false b e = refl

or_second : (a b : Bool) → a || b ≡ false → b ≡ false
or_second true b e = absurd (false≢true (sym e))
or_second false b e = e

not_false : (a : Bool) → not a ≡ false → a ≡ true
not_false true e = refl
not_false false e = absurd (false≢true (sym e))

module _ (body : Body) (local : ℕ) where
  abbrev pub as_action : Note → PathAction
  as_action x = record { how = x.0; place = x.1; block = 0; line = 0 }

  abbrev pub is_spared : Note → Bool
  is_spared x = spares body local (as_action x)

  abbrev pub is_made : Note → Bool
  is_made x = makes body local (as_action x)

  abbrev pub is_used : Note → Bool
  is_used x = uses body local (as_action x)

  abbrev pub crosses : List Note → Bool
  crosses notes = list_any (λ x. not (is_spared x)) notes

  abbrev pub step_by : (made used spared : Bool) → Bool → Note → NamedState → NamedState
  step_by true used spared crossed x m = record { since = Kept; is_bad = m.is_bad }
  step_by false true spared crossed x m =
      record { since = m.since; is_bad = used_by (stores body x.0) crossed m.since m.is_bad }
  step_by false false true crossed x m = m
  step_by false false false crossed x m = record { since = taken_since m.since; is_bad = m.is_bad }

  abbrev pub step : Bool → Note → NamedState → NamedState
  step crossed x m = step_by (is_made x) (is_used x) (is_spared x) crossed x m

  abbrev pub line_fold : Bool → List Note → NamedState → NamedState
  line_fold crossed [] m = m
  line_fold crossed (x ∷ rest) m = line_fold crossed rest (step crossed x m)

  abbrev pub see : List Note → NamedState → NamedState
  see notes m = line_fold (crosses notes) notes m

  -- of a call and of any other line
  abbrev pub whole : Sees NamedState
  whole call notes m = see notes m

  abbrev pub Bad : NamedState → Type 0
  Bad m = m.is_bad ≡ true

  pub none_seen : (m : NamedState) → see [] m ≡ m
  none_seen m = refl

  used_stays : (s c : Bool) (since : Since) (bad : Bool) → bad ≡ true → used_by s c since bad ≡ true
  used_stays s c Unmade bad e = e
  used_stays s c Kept true e = refl
  used_stays s c Kept false e = absurd (false≢true e)
  used_stays s c Taken bad e = refl
  used_stays s c Lost bad e = e

  pub step_stays : (made used spared crossed : Bool) (x : Note) (m : NamedState) → Bad m →
      Bad (step_by made used spared crossed x m)
  step_stays true used spared crossed x m b = b
  step_stays false true spared crossed x m b = used_stays (stores body x.0) crossed m.since m.is_bad b
  step_stays false false true crossed x m b = b
  step_stays false false false crossed x m b = b

  fold_stays : (crossed : Bool) (notes : List Note) (m : NamedState) → Bad m → Bad (line_fold crossed notes m)
  fold_stays crossed [] m b = b
  fold_stays crossed (x ∷ rest) m b =
      fold_stays crossed rest (step crossed x m) (step_stays (is_made x) (is_used x) (is_spared x) crossed x m b)

  pub stays : (notes : List Note) (m : NamedState) → Bad m → Bad (see notes m)
  stays notes m b = fold_stays (crosses notes) notes m b

  -- ---- along actions

  -- what the line with this number does before it stores a result
  abbrev notes_at : List Stmt → Term → ℕ → List Note
  notes_at [] term line = as_notes (term_uses term)
  notes_at (stmt ∷ stmts) term zero = as_notes (stmt_uses stmt)
  notes_at (stmt ∷ stmts) term (suc line) = notes_at stmts term line

  abbrev pub line_notes : (block line : ℕ) → List Note
  line_notes block line = option_map_or (λ b. notes_at b.stmts b.term line) (slice_get body.blocks block) []

  abbrev pub crossed_at : PathAction → Bool
  crossed_at a = crosses (line_notes a.block a.line)

  abbrev pub acts_run : List PathAction → NamedState → NamedState
  acts_run [] m = m
  acts_run (a ∷ later) m = acts_run later (step (crossed_at a) (a.how, a.place) m)

  -- where its line takes nothing of what is named, an action does not either
  abbrev pub AllFrom : List PathAction → Type 0
  AllFrom [] = Unit {0}
  AllFrom (a ∷ later) = (crossed_at a ≡ false → spares body local a ≡ true) × AllFrom later

  from_both : (xs ys : List PathAction) → AllFrom xs → AllFrom ys → AllFrom (xs ++ ys)
  from_both [] ys f g = g
  from_both (x ∷ xs) ys f g = (f.0, from_both xs ys f.1 g)

  run_both : (xs ys : List PathAction) (m : NamedState) → acts_run (xs ++ ys) m ≡ acts_run ys (acts_run xs m)
  run_both [] ys m = refl
  run_both (x ∷ xs) ys m = run_both xs ys (step (crossed_at x) (x.how, x.place) m)

  pub run_stays : (acts : List PathAction) (m : NamedState) → Bad m → Bad (acts_run acts m)
  run_stays [] m b = b
  run_stays (a ∷ later) m b =
      run_stays later (step (crossed_at a) (a.how, a.place) m)
      (step_stays (is_made (a.how, a.place)) (is_used (a.how, a.place)) (is_spared (a.how, a.place)) (crossed_at a)
      (a.how, a.place) m b)

  -- a line
  run_line : (n l : ℕ) (us : List (PlaceUse × graph_place.Place)) (m : NamedState) →
      acts_run (at_line n l us) m ≡ line_fold (crosses (line_notes n l)) (as_notes us) m
  run_line n l [] m = refl
  run_line n l (u ∷ us) m = run_line n l us (step (crosses (line_notes n l)) (u.0, named u.1) m)

  from_line : (n l : ℕ) (us : List (PlaceUse × graph_place.Place)) →
      (crosses (line_notes n l) ≡ false → crosses (as_notes us) ≡ false) → AllFrom (at_line n l us)
  from_line n l [] h = tt
  from_line n l (u ∷ us) h = (
    λ e. not_false (is_spared (u.0, named u.1)) (or_first _ (crosses (as_notes us)) (h e)),
    from_line n l us (λ e. or_second (not (is_spared (u.0, named u.1))) _ (h e)),
  )

  -- statements from a line on
  run_stmts : (n line : ℕ) (stmts : List Stmt) (term : Term) →
      ((i k : ℕ) → k ≡ line + i → line_notes n k ≡ notes_at stmts term i) → (m : NamedState) →
      acts_run (stmt_actions n line stmts) m ≡ lines_seen whole stmts m
  run_stmts n line [] term h m = refl
  run_stmts n line (stmt ∷ stmts) term h m =
      run_both (at_line n line (stmt_uses stmt)) (stmt_actions n (suc line) stmts) m
      ∙ ap (acts_run (stmt_actions n (suc line) stmts))
      (run_line n line (stmt_uses stmt) m
      ∙ ap (λ (notes : List Note). line_fold (crosses notes) (as_notes (stmt_uses stmt)) m) (h 0 line (omega arith)))
      ∙ run_stmts n (suc line) stmts term (λ i k e. h (suc i) k (omega (e, arith))) (see (as_notes (stmt_uses stmt)) m)

  from_stmts : (n line : ℕ) (stmts : List Stmt) (term : Term) →
      ((i k : ℕ) → k ≡ line + i → line_notes n k ≡ notes_at stmts term i) → AllFrom (stmt_actions n line stmts)
  from_stmts n line [] term h = tt
  from_stmts n line (stmt ∷ stmts) term h =
      from_both (at_line n line (stmt_uses stmt)) (stmt_actions n (suc line) stmts)
      (from_line n line (stmt_uses stmt) (λ e. sym (ap crosses (h 0 line (omega arith))) ∙ e))
      (from_stmts n (suc line) stmts term (λ i k e. h (suc i) k (omega (e, arith))))

  notes_end : (stmts : List Stmt) (term : Term) → notes_at stmts term (length stmts) ≡ as_notes (term_uses term)
  notes_end [] term = refl
  notes_end (stmt ∷ stmts) term = notes_end stmts term

  lines_of : (n : ℕ) (block : Block) → slice_get body.blocks n ≡ Some block → (i k : ℕ) → k ≡ 0 + i →
      line_notes n k ≡ notes_at block.stmts block.term i
  lines_of n block there i k e =
      ap (λ (o : Option Block). option_map_or (λ b. notes_at b.stmts b.term k) o []) there
      ∙ ap (notes_at block.stmts block.term) (let same : k ≡ i = omega (e, arith) in same)

  end_of : (n : ℕ) (block : Block) → slice_get body.blocks n ≡ Some block →
      line_notes n (length block.stmts) ≡ as_notes (term_uses block.term)
  end_of n block there =
      lines_of n block there (length block.stmts) (length block.stmts) (omega arith) ∙ notes_end block.stmts block.term

  -- a block
  run_block : (n : ℕ) (block : Block) → slice_get body.blocks n ≡ Some block → (m : NamedState) →
      acts_run (block_actions n block) m ≡ see (as_notes (term_uses block.term)) (lines_seen whole block.stmts m)
  run_block n block there m =
      run_both (stmt_actions n 0 block.stmts) (at_line n (length block.stmts) (term_uses block.term)) m
      ∙ ap (acts_run (at_line n (length block.stmts) (term_uses block.term)))
      (run_stmts n 0 block.stmts block.term (lines_of n block there) m)
      ∙ run_line n (length block.stmts) (term_uses block.term) (lines_seen whole block.stmts m)
      ∙ ap (λ (notes : List Note). line_fold (crosses notes) (as_notes (term_uses block.term))
      (lines_seen whole block.stmts m))
      (end_of n block there)

  from_block : (n : ℕ) (block : Block) → slice_get body.blocks n ≡ Some block → AllFrom (block_actions n block)
  from_block n block there =
      from_both (stmt_actions n 0 block.stmts) (at_line n (length block.stmts) (term_uses block.term))
      (from_stmts n 0 block.stmts block.term (lines_of n block there))
      (from_line n (length block.stmts) (term_uses block.term) (λ e. sym (ap crosses (end_of n block there)) ∙ e))

  -- what is stored on a way
  stores_fold : (c d : Bool) (places : List graph_place.Place) (m : NamedState) →
      line_fold c (as_notes (map (λ place. (Stores, place)) places)) m
      ≡ line_fold d (as_notes (map (λ place. (Stores, place)) places)) m
  stores_fold c d [] m = refl
  stores_fold c d (place ∷ places) m =
      ap (line_fold c (as_notes (map (λ place. (Stores, place)) places)))
      (same (is_made (Stores, named place)) (is_used (Stores, named place)) (is_spared (Stores, named place)) m)
      ∙ stores_fold c d places (step d (Stores, named place) m)
    where
      used_same : (since : Since) (bad : Bool) → used_by true c since bad ≡ used_by true d since bad
      used_same Unmade bad = refl
      used_same Kept bad = refl
      used_same Taken bad = refl
      used_same Lost bad = refl

      same : (made used spared : Bool) (m : NamedState) →
          step_by made used spared c (Stores, named place) m ≡ step_by made used spared d (Stores, named place) m
      same true used spared m = refl
      same false true spared m =
          ap (λ (b : Bool). record { since = m.since; is_bad = b }) (used_same m.since m.is_bad)
      same false false true m = refl
      same false false false m = refl

  run_result : (n next : ℕ) (block : Block) (m : NamedState) →
      acts_run (result_actions n next block) m ≡ between whole block.term next m
  run_result n next block m = by (list_any (nat_eq next) (onward block.term))
    where
      results : List (PlaceUse × graph_place.Place)
      results = map (λ place. (Stores, place)) (stored_by_term block.term)

      by : (b : Bool) → acts_run (if b then at_line n (length block.stmts) results else []) m
          ≡ (if b then see (as_notes results) m else m)
      by true =
          run_line n (length block.stmts) results m
          ∙ stores_fold (crosses (line_notes n (length block.stmts))) (crosses (as_notes results))
          (stored_by_term block.term) m
      by false = refl

  from_result : (n next : ℕ) (block : Block) → AllFrom (result_actions n next block)
  from_result n next block = by (list_any (nat_eq next) (onward block.term))
    where
      all : (places : List graph_place.Place) →
          AllFrom (at_line n (length block.stmts) (map (λ place. (Stores, place)) places))
      all [] = tt
      all (place ∷ places) = ((λ e. refl), all places)

      by : (b : Bool) → AllFrom (if b
          then at_line n (length block.stmts) (map (λ place. (Stores, place)) (stored_by_term block.term)) else [])
      by true = all (stored_by_term block.term)
      by false = tt

  -- by number
  run_in : (n : ℕ) (m : NamedState) → acts_run (actions_in body n) m ≡ block_seen whole (slice_get body.blocks n) m
  run_in n m = by (slice_get body.blocks n) refl
    where
      by : (o : Option Block) → slice_get body.blocks n ≡ o → acts_run (option_map_or (block_actions n) o []) m ≡
          block_seen whole o m
      by None missing = refl
      by (Some block) there = run_block n block there m

  run_between : (n next : ℕ) (m : NamedState) →
      acts_run (actions_between body n next) m ≡ way_seen whole (slice_get body.blocks n) next m
  run_between n next m = by (slice_get body.blocks n)
    where
      by : (o : Option Block) → acts_run (option_map_or (result_actions n next) o []) m ≡ way_seen whole o next m
      by None = refl
      by (Some block) = run_result n next block m

  from_in : (n : ℕ) → AllFrom (actions_in body n)
  from_in n = by (slice_get body.blocks n) refl
    where
      by : (o : Option Block) → slice_get body.blocks n ≡ o → AllFrom (option_map_or (block_actions n) o [])
      by None missing = tt
      by (Some block) there = from_block n block there

  from_between : (n next : ℕ) → AllFrom (actions_between body n next)
  from_between n next = by (slice_get body.blocks n)
    where
      by : (o : Option Block) → AllFrom (option_map_or (result_actions n next) o [])
      by None = tt
      by (Some block) = from_result n next block

  pub run_path : (path : List ℕ) (n : ℕ) (m : NamedState) →
      acts_run (actions_on body (n ∷ path)) m ≡ path_seen whole body n path m
  run_path [] n m = run_in n m
  run_path (k ∷ path) n m =
      run_both (actions_in body n ++ actions_between body n k) (actions_on body (k ∷ path)) m
      ∙ ap (acts_run (actions_on body (k ∷ path)))
      (run_both (actions_in body n) (actions_between body n k) m
      ∙ ap (acts_run (actions_between body n k)) (run_in n m)
      ∙ run_between n k (block_seen whole (slice_get body.blocks n) m))
      ∙ run_path path k (way_seen whole (slice_get body.blocks n) k (block_seen whole (slice_get body.blocks n) m))

  pub from_path : (path : List ℕ) (n : ℕ) → AllFrom (actions_on body (n ∷ path))
  from_path [] n = from_in n
  from_path (k ∷ path) n =
      from_both (actions_in body n ++ actions_between body n k) (actions_on body (k ∷ path))
      (from_both (actions_in body n) (actions_between body n k) (from_in n) (from_between n k)) (from_path path k)
