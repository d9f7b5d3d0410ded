-- Which patterns take a value, in runs on values (The Rust Reference, "Match expressions", "Patterns"). Where a whole
-- value of its type stands at the place that is matched, the tests of a pattern are answered as the pattern takes that
-- value or not, nothing is changed by them, and an arm is taken exactly then.
use Rattle.std.specs.Prelude.{◌≡◌, ℕ, Bool, true, false, List, [], ◌∷◌, Option, Some, if◌then◌else◌}
use Rattle.mir_ty.specs.declared.ty.TyId.{TyId}
use Rattle.store_model.specs.Values.Datum.{Datum, Gone}
use Rattle.store_model.specs.Effects.{Choice, Yes, No, Effects}
use Rattle.store_model.specs.Places.Place.{Place}
use Rattle.store_model.specs.Concrete.Effects.{concrete_effects}
use Rattle.store_model.specs.Concrete.Location.{Setting, Located, Reached, Reaches, is_of_type, reach}
use Rattle.store_model.specs.Concrete.State.{State, Activation, Bodies, Cells, cell}
use Rattle.typed_tree.specs.declared.node.Use.{Use}
use Rattle.typed_tree.specs.Tree.{Node, node, MaybeNode, Arm}
use Rattle.mir_base.specs.declared.place_in_text.Pos.{Pos}
use Rattle.src_meaning.specs.Evaluation.{meaning, meaning_if_any}
use Rattle.src_meaning.specs.Forms.{Destination, LoopsAndGuards, all_hold, guarded, taken_arm}
use Rattle.src_meaning.specs.Locals.Effects.{at_locals, place_at}
use Rattle.src_meaning.specs.Locals.OfBody.{cells}
use Rattle.src_meaning.specs.Scopes.{Entry, Scopes, Does}
use Rattle.src_meaning.specs.Shape.{head, shape}
use Rattle.src_meaning.specs.Takes.{takes}
use Rattle.well_typed.specs.Claim.{Holds}
use Rattle.well_typed.specs.Patterns.{Matched, pattern}
use Rattle.soundness_values.specs.Frames.{Alike}
use Rattle.soundness_values.specs.Typed.{IsOf, is_found}

-- The same state: the same bodies run, and their locals hold the same. (A list of cells may have got longer.)
pub record Same (w v : State) : Type 0 where
  pub activations : List Activation
  pub is : v ≡ record w { activations = activations }
  pub alike : Alike w.activations activations

-- an answer as it is expected, from the same state
abbrev pub Answers : State → Bool → Choice State → Type 0
Answers w true (Yes v) = Same w v
Answers w false (No v) = Same w v
Answers w expected choice = ⊥

module _ (setting : Setting) (local_of : ℕ → ℕ) where
  -- locals of entries have their types in a body, and hold nothing
  abbrev pub AreClear : ℕ → Cells → List Entry → Type 0
  AreClear body held [] = Unit {0}
  AreClear body held (e ∷ entries) =
      (setting.local_ty body (local_of e.key) ≡ Some e.ty) × (cell (local_of e.key) held ≡ Gone)
      × AreClear body held entries

  -- a body runs, and its locals for the tests and the names of a pattern are clear
  pub record IsReady (w : State) (entries : List Entry) : Type 0 where
    pub runs : Activation
    pub older : List Activation
    pub youngest : w.activations ≡ runs ∷ older
    pub clear : AreClear runs.body runs.cells entries

  -- a whole value of a type stands at a place
  pub record Stands (w : State) (place : Place) (ty : TyId) (standing : Located) : Type 0 where
    pub reached : reach setting w (place_at local_of place) ≡ Reaches standing
    pub of_type : is_of_type setting.items ty standing.dynamic ≡ true
    pub found : is_found setting.items standing.dynamic ≡ true
    pub whole : IsOf setting.items standing.dynamic standing.value

  abbrev pub values : Bodies → ℕ → Effects State
  values run fuel = at_locals local_of (concrete_effects setting run fuel)

-- the tests of a pattern are answered as it takes what stands at its place
abbrev pub TestsAnswerAsPatternsTake : Type 0
TestsAnswerAsPatternsTake =
    (setting : Setting) (local_of : ℕ → ℕ) (run : Bodies) (fuel : ℕ) (m : Matched) (ty : TyId) (n : Node) (place : Place)
    (w : State) (s : Located) → Holds (pattern setting.items m ty n) →
    IsReady setting local_of w (cells setting.items true n) → Stands setting local_of w place ty s →
    Answers w (takes n (Some s.value))
    (all_hold setting.items (values setting local_of run fuel) ((shape setting.items n).tests place) w)

-- an arm does what it does where it is taken, its guard first, exactly where its pattern takes the value; otherwise what
-- is done where it is not taken, as the next arm, or the panic behind the last one
abbrev pub ArmsAreTakenAsPatternsTake : Type 0
ArmsAreTakenAsPatternsTake =
    (setting : Setting) (local_of : ℕ → ℕ) (run : Bodies) (fuel turns : ℕ) (m : Matched) (ty : TyId) (place : Place)
    (w : State) (s : Located) (id : ℕ) (at : Pos) (arm_ty : TyId) (by : Option Use) (n : Node) (guard : MaybeNode)
    (body : Node) (otherwise : Does State) (around : LoopsAndGuards) (to : Destination) (S : Scopes) →
    Holds (pattern setting.items m ty n) → IsReady setting local_of w (cells setting.items true n) →
    Stands setting local_of w place ty s →
    (v : State) × Same w v ×
    ((meaning setting.items (values setting local_of run fuel) turns (node id at arm_ty by (Arm n guard body))).arm place
    otherwise around to S w
    ≡ (if takes n (Some s.value) then
    guarded setting.items (values setting local_of run fuel) around ((shape setting.items n).bindings place)
    (meaning_if_any setting.items (values setting local_of run fuel) turns guard)
    (taken_arm setting.items (values setting local_of run fuel) (head id arm_ty by) around
    ((shape setting.items n).bindings place)
    (meaning setting.items (values setting local_of run fuel) turns body) to)
    otherwise
    else otherwise) S v)
