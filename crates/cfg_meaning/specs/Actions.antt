-- What each statement and terminator of a graph is as an effect (the rustc development guide, "The MIR"). The site of a
-- line is the number of the node of the source that it stands for, if that is known.
use Rattle.std.specs.Prelude.{ℕ, List, map}
use Rattle.cfg_graph.specs.declared.place.Operand.{Operand}
use Rattle.cfg_graph.specs.declared.place.Place.{Place}
use Rattle.cfg_graph.specs.declared.statement.Stmt.{Stmt}
use Rattle.cfg_graph.specs.declared.terminator.Unwind.{Unwind}
use Rattle.cfg_graph.specs.Places.{named}
use Rattle.store_model.specs.Effects as effects
use Rattle.store_model.specs.Effects.{EffectSite, Action, Mode, Normal, Unwinding}

module _ (node : ℕ) where
  abbrev pub site_of : Place → EffectSite
  site_of place = record { node = node; place = named place }

  abbrev pub operand_of : Operand → effects.Operand
  operand_of (Operand.Copied place) = effects.Copied (site_of place)
  operand_of (Operand.Moved place) = effects.Moved (site_of place)
  operand_of (Operand.Number value kind) = effects.Number value kind
  operand_of (Operand.Truth value) = effects.Truth value
  operand_of Operand.Unit = effects.UnitValue

  abbrev pub operands_of : List Operand → List effects.Operand
  operands_of operands = map operand_of operands

  abbrev pub action_of : Stmt → Action
  action_of (Stmt.Put to from) = effects.Put (site_of to) (operand_of from)
  action_of (Stmt.Compare to operator left right) =
      effects.Compare (site_of to) operator (operand_of left) (operand_of right)
  action_of (Stmt.Not to operand) = effects.Not (site_of to) (operand_of operand)
  action_of (Stmt.Tuple to parts) = effects.Build (site_of to) effects.OfTuple (operands_of parts)
  action_of (Stmt.Array to parts) = effects.Build (site_of to) effects.OfArray (operands_of parts)
  action_of (Stmt.Make to adt variant parts) =
      effects.Build (site_of to) (effects.OfVariant adt variant) (operands_of parts)
  action_of (Stmt.Close to closure parts) = effects.Build (site_of to) (effects.OfClosure closure) (operands_of parts)
  action_of (Stmt.NewBox to content) = effects.NewBox (site_of to) (operand_of content)
  action_of (Stmt.Unsize to trait_no from) = effects.Unsize (site_of to) trait_no (operand_of from)
  action_of (Stmt.Borrow to unique base) = effects.Borrow (site_of to) unique (site_of base)
  action_of (Stmt.Touch place) = effects.Touch (site_of place)
  action_of (Stmt.Print operand) = effects.Print (operand_of operand)
  action_of (Stmt.Forget operand) = effects.Forget (operand_of operand)
  action_of (Stmt.Free place) = effects.Free (site_of place)

-- a drop is made while a panic unwinds exactly where a panic out of it aborts
abbrev pub mode_of : Unwind → Mode
mode_of (Unwind.Block block) = Normal
mode_of Unwind.Resume = Normal
mode_of Unwind.Abort = Unwinding
