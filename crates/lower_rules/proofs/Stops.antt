-- Where a body stops: no run comes behind a copy or a store of a value of type `!`, and what is lowered goes from there to
-- the block that returns. Such a value is copied by a statement alone that puts it into a whole local.
use Rattle.std.proofs.Common.{◌≡◌, ◌⊎◌, inl, ℕ, Bool, true, false, List, [], ◌∷◌, map, refl, sym, ap, ◌∙◌}
use Rattle.std.specs.Prelude.{option_and_then, slice_get}
use Rattle.cfg_graph.specs.declared.place.Operand.{Operand}
use Rattle.cfg_graph.specs.declared.place.Place as graph_place
use Rattle.cfg_graph.specs.declared.statement.Stmt.{Stmt}
use Rattle.cfg_graph.specs.declared.terminator.Term.{Term}
use Rattle.cfg_graph.specs.declared.terminator.Unwind.{Unwind}
use Rattle.cfg_graph.specs.Places.{named_step, ty_of_place}
use Rattle.mir_ty.specs.ItemTable.{type_at}
use Rattle.store_model.specs.Effects as effects
use Rattle.store_model.specs.Effects.{EffectSite, Action}
use Rattle.store_model.specs.Places.Place.{Step, ToPart, ToField, ToContent, ToElement, place_ty}
use Rattle.store_model.specs.Places.TypeForms.{is_never}
use Rattle.src_meaning.specs.Forms.{moved}
use Rattle.src_meaning.specs.Locals.Effects as locals
use Rattle.src_meaning.specs.FieldKeys.{moved_fields}
use Rattle.lower_rules.specs.Build.{LoweringFrame, Done, ByStmt, ByTerm, is_last, done_by, place_of, operand_of, operands_of, step_of}
use Rattle.lower_rules.specs.Lower.{NodeLower, keys_of, all_moved}
use Rattle.lower_rules.proofs.Lines.{Follows}

-- ---- copies
abbrev pub CopiesNone : Operand → Type 0
CopiesNone (Operand.Copied place) = ⊥
CopiesNone operand = Unit {0}

abbrev pub AllCopyNone : List Operand → Type 0
AllCopyNone [] = Unit {0}
AllCopyNone (operand ∷ operands) = CopiesNone operand × AllCopyNone operands

-- a statement copies nothing, unless it compares, or puts what it copies into a whole local
abbrev pub StmtCopies : Stmt → Type 0
StmtCopies (Stmt.Put to from) = (to.steps ≡ []) ⊎ CopiesNone from
StmtCopies (Stmt.Compare to op left right) = Unit {0}
StmtCopies (Stmt.Not to operand) = CopiesNone operand
StmtCopies (Stmt.Tuple to parts) = AllCopyNone parts
StmtCopies (Stmt.Array to parts) = AllCopyNone parts
StmtCopies (Stmt.Make to adt variant parts) = AllCopyNone parts
StmtCopies (Stmt.Close to closure parts) = AllCopyNone parts
StmtCopies (Stmt.NewBox to operand) = CopiesNone operand
StmtCopies (Stmt.Unsize to trait_no from) = CopiesNone from
StmtCopies (Stmt.Borrow to unique of) = Unit {0}
StmtCopies (Stmt.Touch place) = Unit {0}
StmtCopies (Stmt.Print operand) = CopiesNone operand
StmtCopies (Stmt.Forget operand) = CopiesNone operand
StmtCopies (Stmt.Free place) = Unit {0}

-- nor does a terminator, but for a test of an index
abbrev pub TermCopies : Term → Type 0
TermCopies (Term.If on if_true if_false) = CopiesNone on
TermCopies (Term.Math to op left right next unwind) = CopiesNone left × CopiesNone right
TermCopies (Term.Negate to of next unwind) = CopiesNone of
TermCopies (Term.Call to body args next unwind) = AllCopyNone args
TermCopies (Term.Virtual to trait_no method args next unwind) = AllCopyNone args
TermCopies term = Unit {0}

abbrev pub DoneCopies : Done → Type 0
DoneCopies (ByStmt stmt) = StmtCopies stmt
DoneCopies (ByTerm term) = (n : ℕ) (u : Unwind) → TermCopies (term n u)

module _ (f : LoweringFrame) (own : ℕ → Type 0) where
  pub moved_copy : (number : ℕ) (keys : List ℕ) → AllCopyNone (operands_of f (map (moved number) keys))
  moved_copy number [] = tt
  moved_copy number (key ∷ keys) = (tt, moved_copy number keys)

  pub all_copy : (number : ℕ) (ms : List NodeLower) → AllCopyNone (operands_of f (all_moved number ms))
  all_copy number ms = moved_copy number (keys_of ms)

  pub fields_copy : (number : ℕ) (fields : List (ℕ × ℕ)) → AllCopyNone (operands_of f (moved_fields number fields))
  fields_copy number [] = tt
  fields_copy number (field ∷ fields) = (tt, fields_copy number fields)

  -- ---- what stands behind a store
  abbrev pub IsNever : graph_place.Place → Type 0
  IsNever place = is_never (ty_of_place f.items f.tys place) ≡ true

  -- the value of an assignment, which has been stored into a cell of its own
  abbrev pub IsOwn : Operand → Type 0
  IsOwn (Operand.Moved place) = (place.steps ≡ []) × ((key : ℕ) × own key × (place.local ≡ f.local_of key))
  IsOwn operand = ⊥

  abbrev pub Behind : Stmt → List Stmt → Term → Type 0
  Behind (Stmt.Put to from) stmts term = IsNever to → ((stmts ≡ []) × (term ≡ Term.Goto 1)) ⊎ IsOwn from
  Behind stmt stmts term = Unit {0}

  steps_same : (steps : List Step) → map named_step (map (step_of f) steps) ≡ map (locals.step_at f.local_of) steps
  steps_same [] = refl
  steps_same (ToPart n ∷ steps) = ap (λ z. ToPart n ∷ z) (steps_same steps)
  steps_same (ToField variant n ∷ steps) = ap (λ z. ToField variant n ∷ z) (steps_same steps)
  steps_same (ToContent ∷ steps) = ap (λ z. ToContent ∷ z) (steps_same steps)
  steps_same (ToElement index ∷ steps) = ap (λ z. ToElement (f.local_of index) ∷ z) (steps_same steps)

  last_is_never : (to : EffectSite) (from : effects.Operand) → is_last f (effects.Put to from) ≡ is_never (ty_of_place f.items f.tys (place_of f to))
  last_is_never to from =
      ap (λ (steps : List Step). is_never (option_and_then (type_at f.items) (place_ty f.items (slice_get f.tys) (record { local = f.local_of to.place.local; steps = steps })))) (sym (steps_same to.place.steps))

  untrue : false ≡ true → ⊥
  untrue e = let never : false ≡ true = e in cc

  free : (stmt : Stmt) → ((stmts : List Stmt) (term : Term) → Behind stmt stmts term) → (b : Bool) → Follows Behind 1 (ByStmt stmt) b
  free stmt h true = h [] (Term.Goto 1)
  free stmt h false = h

  pub follows : (action : Action) → Follows Behind 1 (done_by f action) (is_last f action)
  follows (effects.Put to from) = by (is_last f (effects.Put to from)) refl
    where
      by : (b : Bool) → is_last f (effects.Put to from) ≡ b → Follows Behind 1 (ByStmt (Stmt.Put (place_of f to) (operand_of f from))) b
      by true e = λ never. inl (refl, refl)
      by false e = λ stmts term never. absurd (untrue (sym e ∙ last_is_never to from ∙ never))
  follows (effects.Compare to operator left right) = free (Stmt.Compare (place_of f to) operator (operand_of f left) (operand_of f right)) (λ stmts term. tt) (is_last f (effects.Compare to operator left right))
  follows (effects.Not to operand) = free (Stmt.Not (place_of f to) (operand_of f operand)) (λ stmts term. tt) (is_last f (effects.Not to operand))
  follows (effects.Build to effects.OfTuple parts) = free (Stmt.Tuple (place_of f to) (operands_of f parts)) (λ stmts term. tt) (is_last f (effects.Build to effects.OfTuple parts))
  follows (effects.Build to effects.OfArray parts) = free (Stmt.Array (place_of f to) (operands_of f parts)) (λ stmts term. tt) (is_last f (effects.Build to effects.OfArray parts))
  follows (effects.Build to (effects.OfVariant adt variant) parts) = free (Stmt.Make (place_of f to) adt variant (operands_of f parts)) (λ stmts term. tt) (is_last f (effects.Build to (effects.OfVariant adt variant) parts))
  follows (effects.Build to (effects.OfClosure closure) parts) = free (Stmt.Close (place_of f to) closure (operands_of f parts)) (λ stmts term. tt) (is_last f (effects.Build to (effects.OfClosure closure) parts))
  follows (effects.NewBox to content) = free (Stmt.NewBox (place_of f to) (operand_of f content)) (λ stmts term. tt) (is_last f (effects.NewBox to content))
  follows (effects.Unsize to trait_no operand) = free (Stmt.Unsize (place_of f to) trait_no (operand_of f operand)) (λ stmts term. tt) (is_last f (effects.Unsize to trait_no operand))
  follows (effects.Borrow to unique base) = free (Stmt.Borrow (place_of f to) unique (place_of f base)) (λ stmts term. tt) (is_last f (effects.Borrow to unique base))
  follows (effects.Touch base) = free (Stmt.Touch (place_of f base)) (λ stmts term. tt) (is_last f (effects.Touch base))
  follows (effects.Print operand) = free (Stmt.Print (operand_of f operand)) (λ stmts term. tt) (is_last f (effects.Print operand))
  follows (effects.Forget operand) = free (Stmt.Forget (operand_of f operand)) (λ stmts term. tt) (is_last f (effects.Forget operand))
  follows (effects.Free box) = free (Stmt.Free (place_of f box)) (λ stmts term. tt) (is_last f (effects.Free box))
  follows other = tt

  -- the lines of a block copy as they may, and no line stands behind a store of a value of type `!`
  abbrev pub BlockStops : List Stmt → Term → Type 0
  BlockStops [] term = TermCopies term
  BlockStops (stmt ∷ stmts) term = (StmtCopies stmt × Behind stmt stmts term) × BlockStops stmts term
