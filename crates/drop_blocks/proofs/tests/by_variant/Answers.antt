use Rattle.std.proofs.Common.{◌∙◌, ℕ, ap}
use Rattle.std.specs.Prelude.{unwrap_or}
use Rattle.cfg_graph.specs.declared.graph.Kind.{Kind}
use Rattle.drop_elaborate.specs.Ladder.{Abruptly}
use Rattle.drop_blocks.specs.Ladders.{case_test, ending_of, made_of}
use Rattle.drop_blocks.proofs.Begins.{one-chain, two-chains}
use Rattle.drop_blocks.proofs.tests.by_variant.Goals as goal

pub returns-in_ok-twin-in-Some : goal.returns-in_ok-twin-in-Some
returns-in_ok-twin-in-Some c =
    let place = c.args.place.now in
    let variant = c.args.variant in
    let there = c.args.there in
    let other = c.args.other in
    two-chains (λ (to : ℕ). case_test place variant Kind.Cleanup (unwrap_or there.twin to) to) other.twin
    (case_test place variant c.args.kind there.calm other.calm (ending_of other.twin) (made_of c.args.blocks.now)) _ c.in-Some.to _ _ _
    c.in-Some.is c.in_ok-calm.ensures
    (c.in_ok-twin-in-Some.ensures
    ∙ ap (λ (there : ℕ). case_test place variant Kind.Cleanup there c.in-Some.to Abruptly (made_of c.add_case.new.self))
    c.unwrap_or-yes.ensures)

pub returns-in-None : goal.returns-in-None
returns-in-None c =
    let place = c.args.place.now in
    let variant = c.args.variant in
    let there = c.args.there in
    let other = c.args.other in
    one-chain (λ (to : ℕ). case_test place variant Kind.Cleanup (unwrap_or there.twin to) to) other.twin
    (case_test place variant c.args.kind there.calm other.calm (ending_of other.twin) (made_of c.args.blocks.now)) _ _ c.in-None.is
    c.in_ok-calm.ensures
