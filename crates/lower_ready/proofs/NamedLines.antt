-- A watch over what the reference in a local names that looks for uses of it in calls alone, and compares places with
-- the one place that it is to name: where another is borrowed into the local, it looks at nothing any more. Where
-- each line of a body is as plain as that, it sees of each path what the watch over all lines sees.
use Rattle.std.proofs.Common.{◌≡◌, ℕ, zero, suc, ◌==◌, ◌&&◌, ◌||◌, not, Bool, true, false, List, [], ◌∷◌, map, if◌then◌else◌, Option, Some, None, slice_get, refl, sym, ap, subst, ◌∙◌}
use Rattle.std.specs.Prelude.{nat_eq}
use Rattle.std.specs.List.{list_any, list_all}
use Rattle.std.proofs.lemmas.Bool.{false≢true, eqb-true}
use Rattle.cfg_graph.proofs.WholePlaces.{same_step-sound}
use Rattle.cfg_graph.specs.declared.graph.Block.{Block}
use Rattle.cfg_graph.specs.declared.graph.Body.{Body}
use Rattle.cfg_graph.specs.declared.statement.Stmt.{Stmt}
use Rattle.cfg_graph.specs.declared.terminator.Term.{Term}
use Rattle.cfg_graph.specs.Edges.{onward}
use Rattle.cfg_graph.specs.NamedPlaces.{overlaps, takes, stores}
use Rattle.cfg_graph.specs.Uses.{PlaceUse, Borrows, Stores, stmt_uses, term_uses, stored_by_term}
use Rattle.store_model.specs.Places.Place.{Step, Place, same_step}
use Rattle.lower_ready.proofs.NamedWatch as watch
use Rattle.lower_ready.proofs.NamedWatch.{Since, Unmade, Kept, Taken, Lost, NamedState, used_by, taken_since}
use Rattle.lower_ready.proofs.Noting.{Note, Sees}
use Rattle.lower_ready.proofs.PathWatch.{as_notes, calls, lines_seen, block_seen, between, way_seen, path_seen}

and_left : (a b : Bool) → (a && b) ≡ true → a ≡ true
and_left true b e = refl
and_left false b e = e

and_right : (a b : Bool) → (a && b) ≡ true → b ≡ true
and_right true b e = e
and_right false b e = absurd (false≢true e)

-- ---- the same place

abbrev pub steps_same : List Step → List Step → Bool
steps_same [] [] = true
steps_same [] (t ∷ ts) = false
steps_same (s ∷ ss) [] = false
steps_same (s ∷ ss) (t ∷ ts) = same_step s t && steps_same ss ts

abbrev pub place_same : Place → Place → Bool
place_same a b = (a.local == b.local) && steps_same a.steps b.steps

steps_sound : (a b : List Step) → steps_same a b ≡ true → a ≡ b
steps_sound [] [] e = refl
steps_sound [] (t ∷ ts) e = absurd (false≢true e)
steps_sound (s ∷ ss) [] e = absurd (false≢true e)
steps_sound (s ∷ ss) (t ∷ ts) e =
    (λ i. same_step-sound s t (and_left (same_step s t) (steps_same ss ts) e) i
    ∷ steps_sound ss ts (and_right (same_step s t) (steps_same ss ts) e) i)

pub place_sound : (a b : Place) → place_same a b ≡ true → a ≡ b
place_sound a b e = (λ i. record {
  local = eqb-true a.local b.local (and_left (a.local == b.local) (steps_same a.steps b.steps) e) i;
  steps = steps_sound a.steps b.steps (and_right (a.local == b.local) (steps_same a.steps b.steps) e) i;
})

module _ (body : Body) (local : ℕ) (named : Place) where
  -- ---- the watch

  -- something is taken at a place: of the reference itself, or apart from what is named
  abbrev pub apart : Place → Bool
  apart place = (place.local == local) || not (overlaps named place)

  abbrev pub is_plain : Note → Bool
  is_plain x = not (takes body (watch.as_action body local x)) || apart x.1

  abbrev pub names_it : PlaceUse → Place → Bool
  names_it Borrows place = place_same place named
  names_it how place = false

  -- a line borrows the place
  abbrev pub borrows_it : List Note → Bool
  borrows_it [] = false
  borrows_it (x ∷ rest) = names_it x.0 x.1 || borrows_it rest

  abbrev pub made_since : (right : Bool) → Since → Since
  made_since right Lost = Lost
  made_since true since = Kept
  made_since false since = Lost

  abbrev pub quiet_step : (right made plain : Bool) → NamedState → NamedState
  quiet_step right true plain m = record { since = made_since right m.since; is_bad = m.is_bad }
  quiet_step right false true m = m
  quiet_step right false false m = record { since = taken_since m.since; is_bad = m.is_bad }

  abbrev pub quiet : Bool → List Note → NamedState → NamedState
  quiet right [] m = m
  quiet right (x ∷ rest) m = quiet right rest (quiet_step right (watch.is_made body local x) (is_plain x) m)

  -- a call makes no reference
  abbrev pub call_step : (used plain : Bool) → Bool → Note → NamedState → NamedState
  call_step true plain crossed x m =
      record { since = m.since; is_bad = used_by (stores body x.0) crossed m.since m.is_bad }
  call_step false true crossed x m = m
  call_step false false crossed x m = record { since = taken_since m.since; is_bad = m.is_bad }

  abbrev pub call_fold : Bool → List Note → NamedState → NamedState
  call_fold crossed [] m = m
  call_fold crossed (x ∷ rest) m =
      call_fold crossed rest (call_step (watch.is_used body local x) (is_plain x) crossed x m)

  abbrev pub crosses : List Note → Bool
  crosses notes = list_any (λ x. not (is_plain x)) notes

  abbrev pub look : Sees NamedState
  look true notes m = call_fold (crosses notes) notes m
  look false notes m = quiet (borrows_it notes) notes m

  pub none_looked : (m : NamedState) → look false [] m ≡ m
  none_looked m = refl

  abbrev Bad : NamedState → Type 0
  Bad = watch.Bad body local

  quiet_stays : (right : Bool) (notes : List Note) (m : NamedState) → Bad m → Bad (quiet right notes m)
  quiet_stays right [] m b = b
  quiet_stays right (x ∷ rest) m b = quiet_stays right rest _ (by (watch.is_made body local x) (is_plain x))
    where
      by : (made plain : Bool) → Bad (quiet_step right made plain m)
      by true plain = b
      by false true = b
      by false false = b

  call_stays : (crossed : Bool) (notes : List Note) (m : NamedState) → Bad m → Bad (call_fold crossed notes m)
  call_stays crossed [] m b = b
  call_stays crossed (x ∷ rest) m b = call_stays crossed rest _ (by (watch.is_used body local x) (is_plain x))
    where
      used : (s c : Bool) (since : Since) (bad : Bool) → bad ≡ true → used_by s c since bad ≡ true
      used s c Unmade bad e = e
      used s c Kept bad e = ap (λ (z : Bool). z || (s || c)) e
      used s c Taken bad e = refl
      used s c Lost bad e = e

      by : (used_so plain : Bool) → Bad (call_step used_so plain crossed x m)
      by true plain = used (stores body x.0) crossed m.since m.is_bad b
      by false true = b
      by false false = b

  pub look_stays : (call : Bool) (notes : List Note) (m : NamedState) → Bad m → Bad (look call notes m)
  look_stays true notes m b = call_stays (crosses notes) notes m b
  look_stays false notes m b = quiet_stays (borrows_it notes) notes m b

  -- ---- plain lines

  abbrev pub unused : List Note → Bool
  unused notes = list_all (λ x. not (watch.is_used body local x)) notes

  abbrev pub unmade : List Note → Bool
  unmade notes = list_all (λ x. not (watch.is_made body local x)) notes

  -- what spares what is named is apart from the one place
  abbrev pub AllPlain : List Note → Type 0
  AllPlain [] = Unit {0}
  AllPlain (x ∷ rest) = (watch.is_spared body local x ≡ is_plain x) × AllPlain rest

  -- a line that is no call: it does not use the reference, and makes it only by a borrow of the place
  pub record PlainLine (notes : List Note) : Type 0 where
    pub uses : unused notes ≡ true
    pub spares : AllPlain notes
    pub makes : unmade notes ≡ false → borrows_it notes ≡ true

  pub record PlainCall (notes : List Note) : Type 0 where
    pub spares : AllPlain notes
    pub makes : unmade notes ≡ true

  -- only calls use the reference, and one place is borrowed into its local
  pub record OnlyPassed : Type 0 where
    pub statements : (n : ℕ) (block : Block) → slice_get body.blocks n ≡ Some block → (k : ℕ) (stmt : Stmt) →
        slice_get block.stmts k ≡ Some stmt → PlainLine (as_notes (stmt_uses stmt))
    pub terminators : (n : ℕ) (block : Block) → slice_get body.blocks n ≡ Some block → calls block.term ≡ false →
        PlainLine (as_notes (term_uses block.term))
    pub passes : (n : ℕ) (block : Block) → slice_get body.blocks n ≡ Some block → calls block.term ≡ true →
        PlainCall (as_notes (term_uses block.term))
    pub results : (n : ℕ) (block : Block) → slice_get body.blocks n ≡ Some block →
        PlainLine (as_notes (map (λ place. (Stores, place)) (stored_by_term block.term)))

  -- on the paths of such a body the watch never ceases to look
  abbrev is_lost : Since → Bool
  is_lost Lost = true
  is_lost since = false

  abbrev pub Looks : NamedState → Type 0
  Looks m = is_lost m.since ≡ false

  still_taken : (since : Since) → is_lost since ≡ false → is_lost (taken_since since) ≡ false
  still_taken Unmade e = refl
  still_taken Kept e = refl
  still_taken Taken e = refl
  still_taken Lost e = e

  step_looks : (made used spared crossed : Bool) (x : Note) (m : NamedState) → Looks m →
      Looks (watch.step_by body local made used spared crossed x m)
  step_looks true used spared crossed x m e = refl
  step_looks false true spared crossed x m e = e
  step_looks false false true crossed x m e = e
  step_looks false false false crossed x m e = still_taken m.since e

  fold_looks : (crossed : Bool) (notes : List Note) (m : NamedState) → Looks m →
      Looks (watch.line_fold body local crossed notes m)
  fold_looks crossed [] m e = e
  fold_looks crossed (x ∷ rest) m e = fold_looks crossed rest _
      (step_looks (watch.is_made body local x) (watch.is_used body local x)
      (watch.is_spared body local x) crossed x m e)

  see_looks : (notes : List Note) (m : NamedState) → Looks m → Looks (watch.see body local notes m)
  see_looks notes m e = fold_looks (watch.crosses body local notes) notes m e

  -- a line that is no call
  made_kept : (since : Since) → is_lost since ≡ false → Kept ≡ made_since true since
  made_kept Unmade e = refl
  made_kept Kept e = refl
  made_kept Taken e = refl
  made_kept Lost e = absurd (false≢true (sym e))

  quiet_so : (right crossed : Bool) (notes : List Note) (m : NamedState) → unused notes ≡ true → AllPlain notes →
      (unmade notes ≡ false → right ≡ true) → Looks m → watch.line_fold body local crossed notes m ≡ quiet right notes m
  quiet_so right crossed [] m u a r l = refl
  quiet_so right crossed (x ∷ rest) m u a r l =
      quiet_so right crossed rest _ (and_right (not (watch.is_used body local x)) (unused rest) u) a.1
      (λ n. r (later (not (watch.is_made body local x)) n))
      (step_looks (watch.is_made body local x) (watch.is_used body local x)
      (watch.is_spared body local x) crossed x m l)
      ∙ ap (quiet right rest) (by (watch.is_made body local x) (watch.is_used body local x)
      (watch.is_spared body local x) (is_plain x) (λ e. r (ap (λ (b : Bool). not b && unmade rest) e))
      (and_left (not (watch.is_used body local x)) (unused rest) u) a.0)
    where
      later : (b : Bool) → unmade rest ≡ false → (b && unmade rest) ≡ false
      later true n = n
      later false n = refl

      by : (made used spared plain : Bool) → (made ≡ true → right ≡ true) → not used ≡ true → spared ≡ plain →
          watch.step_by body local made used spared crossed x m ≡ quiet_step right made plain m
      by true used spared plain r n s = ap (λ (since : Since). record { since = since; is_bad = m.is_bad })
          (made_kept m.since l ∙ ap (λ (b : Bool). made_since b m.since) (sym (r refl)))
      by false true spared plain r n s = absurd (false≢true n)
      by false false spared plain r n s =
          subst (λ (b : Bool). watch.step_by body local false false spared crossed x m ≡ quiet_step right false b m) s
          (same spared)
        where
          same : (b : Bool) → watch.step_by body local false false b crossed x m ≡ quiet_step right false b m
          same true = refl
          same false = refl

  same_look : (notes : List Note) (m : NamedState) → PlainLine notes → Looks m →
      watch.see body local notes m ≡ look false notes m
  same_look notes m p l =
      quiet_so (borrows_it notes) (watch.crosses body local notes) notes m p.uses p.spares p.makes l

  -- a call
  same_crosses : (notes : List Note) → AllPlain notes → watch.crosses body local notes ≡ crosses notes
  same_crosses [] a = refl
  same_crosses (x ∷ rest) a = (λ i. not (a.0 i) || same_crosses rest a.1 i)

  call_so : (crossed : Bool) (notes : List Note) (m : NamedState) → AllPlain notes → unmade notes ≡ true →
      watch.line_fold body local crossed notes m ≡ call_fold crossed notes m
  call_so crossed [] m a u = refl
  call_so crossed (x ∷ rest) m a u =
      ap (watch.line_fold body local crossed rest) (by (watch.is_made body local x) (watch.is_used body local x)
      (watch.is_spared body local x) (is_plain x) (and_left (not (watch.is_made body local x)) (unmade rest) u) a.0)
      ∙ call_so crossed rest _ a.1 (and_right (not (watch.is_made body local x)) (unmade rest) u)
    where
      by : (made used spared plain : Bool) → not made ≡ true → spared ≡ plain →
          watch.step_by body local made used spared crossed x m ≡ call_step used plain crossed x m
      by true used spared plain n s = absurd (false≢true n)
      by false used spared plain n s =
          subst (λ (b : Bool). watch.step_by body local false used spared crossed x m ≡ call_step used b crossed x m) s
          (same used spared)
        where
          same : (u b : Bool) → watch.step_by body local false u b crossed x m ≡ call_step u b crossed x m
          same true b = refl
          same false true = refl
          same false false = refl

  same_call : (notes : List Note) (m : NamedState) → PlainCall notes →
      watch.see body local notes m ≡ look true notes m
  same_call notes m p =
      ap (λ (c : Bool). watch.line_fold body local c notes m) (same_crosses notes p.spares)
      ∙ call_so (crosses notes) notes m p.spares p.makes

  -- ---- along a path

  module _ (only : OnlyPassed) where
    same_lines : (stmts : List Stmt) → ((k : ℕ) (stmt : Stmt) → slice_get stmts k ≡ Some stmt →
        PlainLine (as_notes (stmt_uses stmt))) → (m : NamedState) → Looks m →
        (lines_seen (watch.whole body local) stmts m ≡ lines_seen look stmts m)
        × Looks (lines_seen (watch.whole body local) stmts m)
    same_lines [] f m l = (refl, l)
    same_lines (stmt ∷ stmts) f m l =
        let later = same_lines stmts (λ k s e. f (suc k) s e) (watch.see body local (as_notes (stmt_uses stmt)) m)
        (see_looks (as_notes (stmt_uses stmt)) m l) in (
          later.0 ∙ ap (lines_seen look stmts) (same_look (as_notes (stmt_uses stmt)) m (f zero stmt refl) l),
          later.1,
        )

    same_term : (term : Term) → (calls term ≡ false → PlainLine (as_notes (term_uses term))) →
        (calls term ≡ true → PlainCall (as_notes (term_uses term))) → (m : NamedState) → Looks m →
        watch.see body local (as_notes (term_uses term)) m ≡ look (calls term) (as_notes (term_uses term)) m
    same_term term f g m l = by (calls term) f g
      where
        by : (c : Bool) → (c ≡ false → PlainLine (as_notes (term_uses term))) →
            (c ≡ true → PlainCall (as_notes (term_uses term))) →
            watch.see body local (as_notes (term_uses term)) m ≡ look c (as_notes (term_uses term)) m
        by true f g = same_call (as_notes (term_uses term)) m (g refl)
        by false f g = same_look (as_notes (term_uses term)) m (f refl) l

    same_block : (n : ℕ) (o : Option Block) → slice_get body.blocks n ≡ o → (m : NamedState) → Looks m →
        (block_seen (watch.whole body local) o m ≡ block_seen look o m)
        × Looks (block_seen (watch.whole body local) o m)
    same_block n None e m l = (refl, l)
    same_block n (Some block) e m l =
        let lines = same_lines block.stmts (λ k stmt s. only.statements n block e k stmt s) m l in (
          same_term block.term (λ c. only.terminators n block e c) (λ c. only.passes n block e c)
              (lines_seen (watch.whole body local) block.stmts m) lines.1
              ∙ ap (look (calls block.term) (as_notes (term_uses block.term))) lines.0,
          see_looks (as_notes (term_uses block.term)) (lines_seen (watch.whole body local) block.stmts m) lines.1,
        )

    same_way : (n next : ℕ) (o : Option Block) → slice_get body.blocks n ≡ o → (m : NamedState) → Looks m →
        (way_seen (watch.whole body local) o next m ≡ way_seen look o next m)
        × Looks (way_seen (watch.whole body local) o next m)
    same_way n next None e m l = (refl, l)
    same_way n next (Some block) e m l = by (list_any (nat_eq next) (onward block.term))
      where
        notes : List Note
        notes = as_notes (map (λ place. (Stores, place)) (stored_by_term block.term))

        by : (b : Bool) → ((if b then watch.see body local notes m else m) ≡ (if b then look false notes m else m))
            × Looks (if b then watch.see body local notes m else m)
        by true = (same_look notes m (only.results n block e) l, see_looks notes m l)
        by false = (refl, l)

    pub same_path : (path : List ℕ) (n : ℕ) (m : NamedState) → Looks m →
        path_seen (watch.whole body local) body n path m ≡ path_seen look body n path m
    same_path [] n m l = (same_block n (slice_get body.blocks n) refl m l).0
    same_path (next ∷ path) n m l =
        let block = same_block n (slice_get body.blocks n) refl m l in
        let way = same_way n next (slice_get body.blocks n) refl
        (block_seen (watch.whole body local) (slice_get body.blocks n) m) block.1 in
        same_path path next
        (way_seen (watch.whole body local) (slice_get body.blocks n) next
        (block_seen (watch.whole body local) (slice_get body.blocks n) m)) way.1
        ∙ ap (path_seen look body next path)
        (way.0 ∙ ap (way_seen look (slice_get body.blocks n) next) block.0)
