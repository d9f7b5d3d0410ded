-- The ways that are on paths are the ways out of which each is on paths.
use Rattle.std.proofs.Common.{◌≡◌, ◌≢◌, inl, inr, arith, ℕ, zero, suc, ◌==◌, ◌<◌, Bool, true, false, not, ◌||◌, List, [], ◌∷◌, if◌then◌else◌, Option, Some, None, length, slice_get, option_and_then, refl, ap, sym, ◌∙◌}
use Rattle.std.specs.Option.{option_map_or}
use Rattle.std.proofs.lemmas.Option.{slice_get_past, slice_get_within}
use Rattle.std.proofs.lemmas.Bool.Decides.{eqb_tells}
use Rattle.mir_ty.specs.declared.ty.TyId.{TyId}
use Rattle.mir_ty.specs.ItemTable.{ItemTable, type_at}
use Rattle.store_model.specs.Places.Place.{Step, step_ty, ty_along}
use Rattle.mir_ty.specs.Facts.{needs_drop}
use Rattle.store_model.specs.Places.TypeForms.{is_never}
use Rattle.cfg_graph.specs.declared.graph.Block.{Block}
use Rattle.cfg_graph.specs.declared.graph.Body.{Body}
use Rattle.cfg_graph.specs.declared.terminator.Term.{Term}
use Rattle.cfg_graph.specs.declared.terminator.Unwind.{Unwind}
use Rattle.cfg_graph.specs.Edges.{BlockExit, ToBlock, unwind_exit}
use Rattle.cfg_graph.specs.Places.{place_id, ty_of_place}
use Rattle.init_flow.specs.Ways.{block_of, target_among, way_target, target, exit_at, on_paths}

not-eqb : (a b : ℕ) → a ≢ b → (a == b) ≡ false
not-eqb a b other = elim (eqb_tells a b) [ inl same ↦ absurd (other same.1) | inr apart ↦ apart.0 ]

past_zero : (k : ℕ) → (suc (suc k) == 0) ≡ false
past_zero k = not-eqb (suc (suc k)) 0 (λ e. absurd (omega (e, arith)))

zero_past : (k : ℕ) → (0 == suc k) ≡ false
zero_past k = not-eqb 0 (suc k) (λ e. absurd (omega (e, arith)))

one_past : (k : ℕ) → (1 == suc (suc k)) ≡ false
one_past k = not-eqb 1 (suc (suc k)) (λ e. absurd (omega (e, arith)))

third : {X : Type 0} (a b : X) (k : ℕ) → slice_get (a ∷ b ∷ []) (suc (suc k)) ≡ None
third a b k = slice_get_past (a ∷ b ∷ []) (suc (suc k)) (omega arith)

second : {X : Type 0} (a : X) (k : ℕ) → slice_get (a ∷ []) (suc k) ≡ None
second a k = slice_get_past (a ∷ []) (suc k) (omega arith)

if-none : (c : Bool) (x : Option ℕ) → x ≡ None → (if c then x else None) ≡ None
if-none true x e = e
if-none false x e = refl

past_two : (a b : BlockExit) (k : ℕ) → option_and_then block_of (slice_get (a ∷ b ∷ []) (suc (suc k))) ≡ None
past_two a b k = ap (option_and_then block_of) (third a b k)

no_third : (a b : BlockExit) (k : ℕ) → target_among (suc (suc k)) (record { choices = false ∷ []; exit = a } ∷ record { choices = true ∷ []; exit = b } ∷ []) ≡ None
no_third a b k = rw (zero_past (suc k), one_past k) refl

no_second : (choice : Bool) (a : BlockExit) (k : ℕ) → target_among (suc (suc k)) (record { choices = choice ∷ []; exit = a } ∷ []) ≡ None
no_second true a k = rw (one_past k) refl
no_second false a k = rw (zero_past (suc k)) refl

alone : (a : BlockExit) (k : ℕ) → target_among (suc k) (record { choices = []; exit = a } ∷ []) ≡ None
alone a k = rw (zero_past k) refl

abbrev Is : ItemTable → Body → Term → ℕ → Type 0
Is items body term way = way_target items body term way ≡ (if on_paths items body term way then exit_at term way else None)

call : (never : Bool) (next : ℕ) (unwind : Unwind) (way : ℕ)
    → target_among way (if never then record { choices = true ∷ []; exit = unwind_exit unwind } ∷ [] else record { choices = false ∷ []; exit = ToBlock next } ∷ record { choices = true ∷ []; exit = unwind_exit unwind } ∷ [])
    ≡ (if not (way == 0) || not never then option_and_then block_of (slice_get (ToBlock next ∷ unwind_exit unwind ∷ []) way) else None)
call true next unwind zero = refl
call true next unwind (suc zero) = refl
call true next unwind (suc (suc way)) = no_second true (unwind_exit unwind) way ∙ sym (if-none (not (suc (suc way) == 0) || not true) _ (past_two (ToBlock next) (unwind_exit unwind) way))
call false next unwind zero = refl
call false next unwind (suc zero) = refl
call false next unwind (suc (suc way)) = no_third (ToBlock next) (unwind_exit unwind) way ∙ sym (if-none (not (suc (suc way) == 0) || not false) _ (past_two (ToBlock next) (unwind_exit unwind) way))

drop : (needed : Bool) (next : ℕ) (unwind : Unwind) (way : ℕ)
    → target_among way (if needed then record { choices = false ∷ []; exit = ToBlock next } ∷ record { choices = true ∷ []; exit = unwind_exit unwind } ∷ [] else record { choices = []; exit = ToBlock next } ∷ [])
    ≡ (if (way == 0) || needed then option_and_then block_of (slice_get (ToBlock next ∷ unwind_exit unwind ∷ []) way) else None)
drop true next unwind zero = refl
drop true next unwind (suc zero) = refl
drop true next unwind (suc (suc way)) = no_third (ToBlock next) (unwind_exit unwind) way ∙ sym (if-none (suc (suc way) == 0 || true) _ (past_two (ToBlock next) (unwind_exit unwind) way))
drop false next unwind zero = refl
drop false next unwind (suc zero) = refl
drop false next unwind (suc (suc way)) = alone (ToBlock next) (suc way) ∙ sym (if-none (suc (suc way) == 0 || false) _ (past_two (ToBlock next) (unwind_exit unwind) way))

two : (a b : BlockExit) (way : ℕ) → target_among way (record { choices = false ∷ []; exit = a } ∷ record { choices = true ∷ []; exit = b } ∷ []) ≡ option_and_then block_of (slice_get (a ∷ b ∷ []) way)
two a b zero = refl
two a b (suc zero) = refl
two a b (suc (suc way)) = no_third a b way ∙ sym (past_two a b way)

one : (a : BlockExit) (way : ℕ) → target_among way (record { choices = []; exit = a } ∷ []) ≡ option_and_then block_of (slice_get (a ∷ []) way)
one a zero = refl
one a (suc way) = alone a way ∙ sym (ap (option_and_then block_of) (second a way))

pub way_is : (items : ItemTable) (body : Body) (term : Term) (way : ℕ) → Is items body term way
way_is items body (Term.Goto block) way = one (ToBlock block) way
way_is items body (Term.If on if_true if_false) way = two (ToBlock if_false) (ToBlock if_true) way
way_is items body (Term.Case on variant if_true if_false) way = two (ToBlock if_false) (ToBlock if_true) way
way_is items body (Term.Math to op left right next unwind) way = two (ToBlock next) (unwind_exit unwind) way
way_is items body (Term.Negate to of next unwind) way = two (ToBlock next) (unwind_exit unwind) way
way_is items body (Term.Bounds index count next unwind) way = two (ToBlock next) (unwind_exit unwind) way
way_is items body (Term.Call to callee args next unwind) way = call (is_never (ty_of_place items body.locals to)) next unwind way
way_is items body (Term.Virtual to trait_no method args next unwind) way = call (is_never (ty_of_place items body.locals to)) next unwind way
way_is items body (Term.Ask to next unwind) way = two (ToBlock next) (unwind_exit unwind) way
way_is items body (Term.DropAt place next unwind) way = drop (option_map_or (needs_drop items) (place_id items body.locals place) false) next unwind way
way_is items body (Term.Panic why unwind) way = one (unwind_exit unwind) way
way_is items body Term.Return way = refl
way_is items body Term.Resume way = refl

-- a step more along a place
pub further : (items : ItemTable) (step : Step) (steps : List Step) (at : Option TyId)
    → option_and_then (ty_along items (step ∷ steps)) at ≡ option_and_then (ty_along items steps) (option_and_then (step_ty items step) (option_and_then (type_at items) at))
further items step steps None = refl
further items step steps (Some id) = refl

-- a block with a way exists
pub has_block : (items : ItemTable) (body : Body) (n k m : ℕ) → target items body n k ≡ Some m → n < length body.blocks
has_block items body n k m to = by (slice_get body.blocks n) refl to
  where
    by : (o : Option Block) → slice_get body.blocks n ≡ o → option_and_then (λ found. way_target items body found.term k) o ≡ Some m → n < length body.blocks
    by None is to = absurd (cc)
    by (Some found) is to = slice_get_within body.blocks n found is
