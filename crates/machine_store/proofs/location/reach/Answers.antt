use Rattle.std.proofs.Common.{◌≡◌, suc, true, Some, None, length, ap, sym, ◌∙◌, arith}
use Rattle.std.proofs.lemmas.Grind.{common_steps}
use Rattle.std.specs.Prelude.{slice_get, option_map}
use Rattle.cfg_graph.specs.Places.{named}
use Rattle.cfg_meaning.specs.Programs.{setting_of}
use Rattle.machine_store.specs.Activations.{activations_of}
use Rattle.machine_store.specs.Frames.{cells_of}
use Rattle.machine_store.specs.Standing.{with_activations, located_of, reach_of_found, located_root_found, along_found}
use Rattle.machine_store.proofs.Activations.{is_frame, frame_count}
use Rattle.machine_store.proofs.Locations.{reach_by_frame}
use Rattle.store_model.specs.Concrete.Location.{CutOff, Nowhere, on_reached}
use Rattle.machine_store.proofs.location.reach.Goals as goal

pub returns-in_default-frame : goal.returns-in_default-frame
returns-in_default-frame c =
    let none : slice_get c.args.store.now.frames c.in-Some.depth ≡ None = grind (arith, common_steps) in
    let n : c.len.result ≡ suc c.in-Some.depth = grind (arith, common_steps) in
    absurd (is_frame c.args.store.now.frames c.in-Some.depth c.len.result c.len.ensures n none)

pub returns-in_default-root : goal.returns-in_default-root
returns-in_default-root c =
    let frame : slice_get c.args.store.now.frames c.in-Some.depth ≡ Some c.in-Some-frame.frame.now = grind (arith, common_steps) in
    let n : c.len.result ≡ suc c.in-Some.depth = grind (arith, common_steps) in
    let k = frame_count c.args.store.now.frames c.len.result c.len.ensures in
    let number : c.in-Some.depth ≡ c.in-Ok.number = grind (arith, common_steps) in
    let last : suc c.in-Some.depth ≡ length c.args.store.now.frames = omega arith in
    let none : option_map located_of c.root.result ≡ None = grind (arith, common_steps) in
    sym (reach_by_frame c.args.graph.now c.args.store.now.frames (named c.args.place.now) c.in-Some.depth c.in-Some-frame.frame.now frame last
    ∙ ap (λ o. on_reached (reach_of_found o)
    (along_found (setting_of true c.args.graph.now) (with_activations (activations_of c.args.store.now)) (cells_of c.in-Some-frame.frame.now.1) (named c.args.place.now).steps) CutOff Nowhere)
    (ap (λ n. located_root_found n c.args.place.now.local (cells_of c.in-Some-frame.frame.now.1) ((setting_of true c.args.graph.now).local_ty c.in-Some-frame.frame.now.0 c.args.place.now.local)) number
    ∙ sym c.root.ensures ∙ none))

pub loop-step-init : goal.loop-step-init
loop-step-init c =
    let frame : slice_get c.args.store.now.frames c.in-Some.depth ≡ Some c.in-Some-frame.frame.now = grind (arith, common_steps) in
    let n : c.len.result ≡ suc c.in-Some.depth = grind (arith, common_steps) in
    let k = frame_count c.args.store.now.frames c.len.result c.len.ensures in
    let number : c.in-Some.depth ≡ c.in-Ok.number = grind (arith, common_steps) in
    let last : suc c.in-Some.depth ≡ length c.args.store.now.frames = omega arith in
    let root : option_map located_of c.root.result ≡ Some (located_of c.in-Some-root.s) = grind (arith, common_steps) in
    reach_by_frame c.args.graph.now c.args.store.now.frames (named c.args.place.now) c.in-Some.depth c.in-Some-frame.frame.now frame last
    ∙ ap (λ o. on_reached (reach_of_found o)
    (along_found (setting_of true c.args.graph.now) (with_activations (activations_of c.args.store.now)) (cells_of c.in-Some-frame.frame.now.1) (named c.args.place.now).steps) CutOff Nowhere)
    (ap (λ n. located_root_found n c.args.place.now.local (cells_of c.in-Some-frame.frame.now.1) ((setting_of true c.args.graph.now).local_ty c.in-Some-frame.frame.now.0 c.args.place.now.local)) number
    ∙ sym c.root.ensures ∙ root)
