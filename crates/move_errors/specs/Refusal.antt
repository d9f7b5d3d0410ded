-- What a refusal says of a bad use.
use Rattle.std.specs.Prelude.{◌≡◌, ℕ, Bool, List, map}
use Rattle.mir_ty.specs.ItemTable.{ItemTable}
use Rattle.cfg_graph.specs.declared.graph.Body.{Body}
use Rattle.cfg_graph.specs.Places.{named}
use Rattle.cfg_graph.specs.Moves.BadUses.{UseRule, U1, U2, BadUse}
use Rattle.move_paths.specs.Uses.{use_of}
use Rattle.move_errors.specs.Reaches.{Reaches, IsLeast}
use Rattle.move_errors.specs.Runs.{number_of}
use Rattle.move_errors.specs.declared.errors.BadUse.{BadUse as Refused}
use Rattle.move_errors.specs.declared.errors.UseError.{UseError}

-- the use that a refusal names, by the rule by which it is bad
abbrev pub named_use : UseRule → Refused → BadUse
named_use rule refused =
    record {
      rule = rule;
      action =
          record {
            how = use_of refused.by;
            place = named refused.place;
            block = refused.block;
            line = refused.line;
          };
    }

-- What is refused: the answers reach the use along the path, and of all lists that reach a bad use of the body they are
-- a shortest one, and the least of the shortest.
pub record IsRefused (items : ItemTable) (body : Body) (number : ℕ) (rule : UseRule) (refused : Refused) : Type 0 where
  pub body_is : refused.body ≡ number
  pub given : List Bool
  pub answers : refused.answers ≡ map number_of given
  pub reaches : Reaches items body refused.path given (named_use rule refused)
  pub least :
      (path : List ℕ) (other : List Bool) (bad : BadUse) → Reaches items body path other bad → IsLeast given other

abbrev pub IsRefusal : ItemTable → Body → ℕ → UseError → Type 0
IsRefusal items body number (UseError.U1 refused) = IsRefused items body number U1 refused
IsRefusal items body number (UseError.U2 refused) = IsRefused items body number U2 refused
IsRefusal items body number UseError.Memory = Unit {0}

abbrev pub refused_by : UseRule → Refused → UseError
refused_by U1 refused = UseError.U1 refused
refused_by U2 refused = UseError.U2 refused
