-- What is built of an effect does not depend on the node of its sites.
use Rattle.std.proofs.Common.{◌≡◌, ◌∷◌, ℕ, List, [], refl, ap}
use Rattle.lower_rules.specs.Build as build
use Rattle.lower_rules.specs.Build.{LoweringFrame, Done}
use Rattle.cfg_graph.specs.declared.place.Operand.{Operand}
use Rattle.cfg_graph.specs.declared.place.Place.{Place}
use Rattle.cfg_graph.specs.declared.statement.Stmt.{Stmt}
use Rattle.cfg_graph.specs.declared.terminator.Term.{Term}
use Rattle.cfg_meaning.specs.Actions.{site_of, operand_of, operands_of, action_of}
use Rattle.lower_code.specs.View.{effect_of}
use Rattle.lower_code.specs.declared.code.Action.{Action}

module _ (f : LoweringFrame) (node : ℕ) where
  abbrev at : Place → Place
  at to = build.place_of f (site_of 0 to)

  pub operand_same : (operand : Operand) → build.operand_of f (operand_of 0 operand) ≡ build.operand_of f (operand_of node operand)
  operand_same (Operand.Copied place) = refl
  operand_same (Operand.Moved place) = refl
  operand_same (Operand.Number value kind) = refl
  operand_same (Operand.Truth value) = refl
  operand_same Operand.Unit = refl

  operands_same : (operands : List Operand) → build.operands_of f (operands_of 0 operands) ≡ build.operands_of f (operands_of node operands)
  operands_same [] = refl
  operands_same (operand ∷ operands) = (λ i. operand_same operand i ∷ operands_same operands i)

  pub stmt_same : (stmt : Stmt) → build.done_by f (action_of 0 stmt) ≡ build.done_by f (action_of node stmt)
  stmt_same (Stmt.Put to from) = ap (λ o. build.ByStmt (Stmt.Put (at to) o)) (operand_same from)
  stmt_same (Stmt.Compare to operator left right) = (λ i. build.ByStmt (Stmt.Compare (at to) operator (operand_same left i) (operand_same right i)))
  stmt_same (Stmt.Not to operand) = ap (λ o. build.ByStmt (Stmt.Not (at to) o)) (operand_same operand)
  stmt_same (Stmt.Tuple to parts) = ap (λ os. build.ByStmt (Stmt.Tuple (at to) os)) (operands_same parts)
  stmt_same (Stmt.Array to parts) = ap (λ os. build.ByStmt (Stmt.Array (at to) os)) (operands_same parts)
  stmt_same (Stmt.Make to adt variant parts) = ap (λ os. build.ByStmt (Stmt.Make (at to) adt variant os)) (operands_same parts)
  stmt_same (Stmt.Close to closure parts) = ap (λ os. build.ByStmt (Stmt.Close (at to) closure os)) (operands_same parts)
  stmt_same (Stmt.NewBox to content) = ap (λ o. build.ByStmt (Stmt.NewBox (at to) o)) (operand_same content)
  stmt_same (Stmt.Unsize to trait_no from) = ap (λ o. build.ByStmt (Stmt.Unsize (at to) trait_no o)) (operand_same from)
  stmt_same (Stmt.Borrow to unique base) = refl
  stmt_same (Stmt.Touch place) = refl
  stmt_same (Stmt.Print operand) = ap (λ o. build.ByStmt (Stmt.Print o)) (operand_same operand)
  stmt_same (Stmt.Forget operand) = ap (λ o. build.ByStmt (Stmt.Forget o)) (operand_same operand)
  stmt_same (Stmt.Free place) = refl

  pub effect_same : (action : Action) → build.done_by f (effect_of 0 action) ≡ build.done_by f (effect_of node action)
  effect_same (Action.Stmt stmt) = stmt_same stmt
  effect_same (Action.Math to op left right) = (λ i. build.ByTerm (λ next unwind. Term.Math (at to) op (operand_same left i) (operand_same right i) next unwind))
  effect_same (Action.Negate to of) = ap (λ o. build.ByTerm (λ next unwind. Term.Negate (at to) o next unwind)) (operand_same of)
  effect_same (Action.Bounds index length) = ap (λ o. build.ByTerm (λ next unwind. Term.Bounds o length next unwind)) (operand_same index)
  effect_same (Action.Call to body args) = ap (λ os. build.ByTerm (λ next unwind. Term.Call (at to) body os next unwind)) (operands_same args)
  effect_same (Action.Virtual to trait_no method args) = ap (λ os. build.ByTerm (λ next unwind. Term.Virtual (at to) trait_no method os next unwind)) (operands_same args)
  effect_same (Action.Ask to) = refl

  -- nor does whether a run comes behind it
  pub last_same : (action : Action) → build.is_last f (effect_of 0 action) ≡ build.is_last f (effect_of node action)
  last_same (Action.Stmt (Stmt.Put to from)) = refl
  last_same other = refl
