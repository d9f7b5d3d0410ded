use Rattle.std.proofs.Common.{◌≡◌, Some, None, ap, sym, ◌∙◌, arith}
use Rattle.std.proofs.lemmas.Grind.{common_steps}
use Rattle.std.specs.Prelude.{slice_get, option_map, option_and_then}
use Rattle.machine_store.specs.Standing.{located_of, into_all_found}
use Rattle.machine_store.proofs.Locations.{no_frame, by_frame}
use Rattle.machine_store.proofs.location.located_at.Goals as goal

pub returns-in_default : goal.returns-in_default
returns-in_default c =
    let none : slice_get c.args.store.now.frames c.args.address.now.depth ≡ None = grind (arith, common_steps) in
    sym (no_frame c.args.graph.now c.args.store.now.frames c.args.address.now none)

pub returns-in_default-root : goal.returns-in_default-root
returns-in_default-root c =
    let frame : slice_get c.args.store.now.frames c.args.address.now.depth ≡ Some c.in-Some.frame.now = grind (arith, common_steps) in
    let none : option_map located_of c.root.result ≡ None = grind (arith, common_steps) in
    sym (by_frame c.args.graph.now c.args.store.now.frames c.args.address.now c.in-Some.frame.now frame ∙ ap (option_and_then (into_all_found c.args.graph.now.items c.args.address.now.path)) (sym c.root.ensures ∙ none))

pub loop-step-init : goal.loop-step-init
loop-step-init c =
    let frame : slice_get c.args.store.now.frames c.args.address.now.depth ≡ Some c.in-Some.frame.now = grind (arith, common_steps) in
    let root : option_map located_of c.root.result ≡ Some (located_of c.in-Some-root.s) = grind (arith, common_steps) in
    by_frame c.args.graph.now c.args.store.now.frames c.args.address.now c.in-Some.frame.now frame
    ∙ ap (option_and_then (into_all_found c.args.graph.now.items c.args.address.now.path)) (sym c.root.ensures ∙ root)
