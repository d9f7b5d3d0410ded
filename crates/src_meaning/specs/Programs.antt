-- What a typed program does when it runs, what its free runs are, and when it is accepted (The Rust Reference,
-- "Functions", "Destructors"; for accepted uses "Moved and copied types" and rustc's errors E0381, E0382).
use Rattle.std.specs.Prelude.{◌≡◌, ℕ, ℤ, Bool, true, false, List, [], ◌∷◌, suc, length, map, slice_get, Option, Some, None, option_and_then}
use Rattle.std.specs.List.{range_with_len}
use Rattle.std.specs.Option.{option_map_or}
use Rattle.mir_base.specs.declared.trace.End.{End}
use Rattle.mir_base.specs.Trace.{Trace}
use Rattle.mir_ty.specs.declared.ty.TyId.{TyId}
use Rattle.mir_ty.specs.ItemTable.{ItemTable}
use Rattle.store_model.specs.Values.Datum.{Datum}
use Rattle.store_model.specs.Effects.{EffectSite, Halt, BadUse, BadStore, Stuck, Out, Unwind, Halts, aborting, Effects, Unwinding}
use Rattle.store_model.specs.Concrete.Bodies.{CodeOfBodies, main_of, run_of}
use Rattle.store_model.specs.Abstract.Effects.{AbstractState, at_start, abstract_effects}
use Rattle.store_model.specs.Places.Place.{whole_local}
use Rattle.store_model.specs.Concrete.Location.{Setting}
use Rattle.store_model.specs.Concrete.State.{Cells, State}
use Rattle.typed_tree.specs.Tree.{ParamTree, BodyTree, ProgramTree}
use Rattle.src_meaning.specs.Locals.Effects.{at_locals}
use Rattle.src_meaning.specs.Evaluation.{meaning}
use Rattle.src_meaning.specs.Forms.{Into, LoopsAndGuards, bind, site_of_key}
use Rattle.src_meaning.specs.Locals.OfBody.{param_key, answer_key, local_of, local_ty, local_tys}
use Rattle.src_meaning.specs.Scopes.{Entry, Scopes, innermost, with_scope, with_entry, with_pending, all_entries, needing_drop, Value, Breaks, Continues, Returns, Panics, Run, At, Over, Does, ◌>>◌, changing, in_scope, entry_site}
use Rattle.src_meaning.specs.Shape.{BoundName, shape}

module _ {W : Type 0} (items : ItemTable) (p : Effects W) (fuel : ℕ) where
  -- the names of a parameter's pattern; a pattern that is one name is the parameter itself
  abbrev pub names_of_param : Bool → List BoundName → Does W
  names_of_param true bounds = At Value
  names_of_param false bounds = bind items p innermost bounds

  -- each parameter is an entry of the entire function, followed by the names of its pattern
  abbrev pub params_entered : List ParamTree → Does W
  params_entered [] = At Value
  params_entered (param ∷ params) = do
    changing (innermost (with_entry (record { key = param_key param; ty = param.ty })))
    names_of_param (shape items param.pattern).is_binding
        ((shape items param.pattern).bindings (whole_local (param_key param)))
    params_entered params

  -- what is left when a panic has left all scopes is dropped as it unwinds further
  abbrev pub unwinds : List Entry → W → Out W
  unwinds [] w = Unwind w
  unwinds (e ∷ es) w = aborting (p.drop Unwinding (entry_site e) w) (unwinds es)

  abbrev pub body_end : ℕ → Run W → Out W
  body_end answer (At Value S w) = p.give (site_of_key answer) w
  body_end answer (At (Breaks loop) S w) = Halts Stuck w
  body_end answer (At (Continues loop) S w) = Halts Stuck w
  body_end answer (At Returns S w) = p.give (site_of_key answer) w
  body_end answer (At Panics S w) = unwinds (needing_drop items (all_entries S)) w
  body_end answer (Over halt w) = Halts halt w

  abbrev pub around_body : BodyTree → LoopsAndGuards
  around_body body = record { answer = Into (answer_key body); loops = []; aliases = [] }

  -- the result is the oldest entry of an activation, older than the parameters, and pending until the body returns
  abbrev pub answer_scope : BodyTree → Scopes
  answer_scope body =
      innermost (with_pending (record { key = answer_key body; ty = body.answer }))
      (with_scope (answer_key body) false [])

  -- the entire function: the parameters, and the block into the result
  abbrev pub entire_function : BodyTree → Does W
  entire_function body = in_scope items p (answer_key body) true do
    params_entered body.params
    (meaning items p fuel body.block).evaluate (around_body body) false (Into (answer_key body))

  -- a body within its activation, until all scopes are left
  abbrev pub activation : BodyTree → W → Out W
  activation body w = body_end (answer_key body) (entire_function body (answer_scope body) w)

-- Runs of a program.

abbrev on_body : {A : Type 0} → ProgramTree → ℕ → A → (BodyTree → A) → A
on_body program n without next = option_map_or next (slice_get program.bodies n) without

-- the arguments are the locals from 1 on
abbrev pub arguments_from : ℕ → List Datum → Cells
arguments_from local [] = []
arguments_from local (arg ∷ args) = (local, arg) ∷ arguments_from (suc local) args

abbrev local_ty_among : List (List TyId) → ℕ → ℕ → Option TyId
local_ty_among tys n local = option_and_then (λ tys. slice_get tys local) (slice_get tys n)

abbrev setting_with : ItemTable → List (List TyId) → Setting
setting_with items tys = record { items = items; local_ty = local_ty_among tys; strict = false }

abbrev pub setting_of : ProgramTree → Setting
setting_of program = setting_with program.items (map (local_tys program.items) program.bodies)

-- the effects of a run are those on the locals of the body
abbrev pub within_body : ItemTable → Effects State → ℕ → BodyTree → State → Out State
within_body items p turns body = activation items (at_locals (local_of items body) p) turns body

abbrev pub code_of : ProgramTree → CodeOfBodies
code_of program = record {
  arguments = λ n args. arguments_from 1 args;
  answer = λ n. 0;
  within = λ p turns n w. on_body program n (Halts Stuck w) (λ body. within_body program.items p turns body w);
}

-- the trace and the end of a program, with these numbers to be asked and so many ticks
abbrev pub source : ProgramTree → List ℤ → ℕ → Trace × End
source program asked ticks = run_of (setting_of program) (code_of program) (main_of program.items) asked ticks

-- Free runs of a body.

abbrev pub free_run : ItemTable → BodyTree → List Bool → Out AbstractState
free_run items body list =
    activation items (at_locals (local_of items body) (abstract_effects items (local_ty items body)))
    (suc (length list)) body
    (at_start (range_with_len 1 (length body.params)) list)

-- the refused use at which a run has halted, if all choices are taken
abbrev use_if_taken : EffectSite → List Bool → Option EffectSite
use_if_taken site [] = Some site
use_if_taken site (i ∷ rest) = None

abbrev refused_of_halt : Halt → List Bool → Option EffectSite
refused_of_halt (BadUse site) rest = use_if_taken site rest
refused_of_halt (BadStore site) rest = use_if_taken site rest
refused_of_halt halt rest = None

abbrev pub refused_of : Out AbstractState → Option EffectSite
refused_of (Halts halt w) = refused_of_halt halt w.choices
refused_of out = None

-- the use that a list of choices reaches: the run takes exactly the list, and then meets it
abbrev pub reached_by : ItemTable → BodyTree → List Bool → Option EffectSite
reached_by items body list = refused_of (free_run items body list)

-- no list of choices reaches a refused use in any body
abbrev pub IsAccepted : ProgramTree → Type 0
IsAccepted program = (n : ℕ) (body : BodyTree) (list : List Bool) →
    slice_get program.bodies n ≡ Some body → reached_by program.items body list ≡ None
