use Rattle.std.proofs.Common.{ℕ, zero, suc, ◌≡◌, ◌<◌, ◌++◌, Bool, List, Some, map, flat_map, ap, subst, ◌∙◌, arith, true}
use Rattle.std.proofs.lemmas.List.{append_assoc}
use Rattle.cfg_graph.specs.declared.place.Place.{Place}
use Rattle.cfg_graph.specs.declared.graph.Block.{Block}
use Rattle.cfg_graph.specs.Uses.{PlaceUse, Stores, stmt_uses, term_uses}
use Rattle.store_model.specs.Places.Place.{Place as Named}
use Rattle.move_paths.specs.Uses.{inner_uses}
use Rattle.init_flow.specs.declared.switches.BlockSwitches.{BlockSwitches}
use Rattle.init_flow.specs.Fits.{Fits, FitsBlock, way_result, way_uses}
use Rattle.init_flow.specs.Switches.{at_most_one, result_switch}
use Rattle.init_flow.proofs.Fitting.{fits-append}
use Rattle.init_flow.proofs.switch_ways.block_switches.Goals as goal

abbrev stores : Block → ℕ → List (PlaceUse × Place)
stores block way = map (λ (place : Place). (Stores, place)) (way_result block.term way)

on-way : (paths : List Named) (gone : Bool) (block : Block) (made : BlockSwitches) (uses : List (PlaceUse × Place)) (way : ℕ) → uses ≡ inner_uses block → Fits paths gone made.uses uses
    → Fits paths gone (at_most_one (result_switch made way)) (stores block way)
    → Fits paths gone (made.uses ++ at_most_one (result_switch made way)) (way_uses block way)
on-way paths gone block made uses way is inner last =
    subst (Fits paths gone (made.uses ++ at_most_one (result_switch made way)))
    (ap (λ (z : List (PlaceUse × Place)). z ++ stores block way) is ∙ append_assoc (flat_map stmt_uses block.stmts) (term_uses block.term) (stores block way))
    (fits-append paths gone made.uses (at_most_one (result_switch made way)) uses (stores block way) inner last)

both : (paths : List Named) (block : Block) (made : BlockSwitches) (uses : List (PlaceUse × Place)) → uses ≡ inner_uses block → Fits paths true made.uses uses
    → Fits paths true (at_most_one made.first) (stores block 0) → Fits paths true (at_most_one made.second) (stores block 1)
    → FitsBlock paths (Some made) block
both paths block made uses is inner one other zero small = on-way paths true block made uses 0 is inner one
both paths block made uses is inner one other (suc zero) small = on-way paths true block made uses 1 is inner other
both paths block made uses is inner one other (suc (suc way)) small = absurd (omega (small, arith))

pub returns : goal.returns
returns c =
    both c.args.forest.now.paths c.args.block.now (record { uses = c.in_ok-uses.uses; first = c.result_switch.result; second = c.result_switch-2.result }) _
    c.requires c.in_ok-uses.ensures c.result_switch.ensures c.result_switch-2.ensures
