use Rattle.std.proofs.Common.{◌≡◌, ℕ, Bool, List, map, slice_get, Option, Some, None, ap, sym, ◌∙◌}
use Rattle.std.specs.Option.{option_copied}
use Rattle.std.proofs.lemmas.List.{map-append}
use Rattle.init_flow.specs.Carried.{Bits}
use Rattle.init_flow.specs.declared.switches.BlockSwitches.{BlockSwitches}
use Rattle.init_flow.specs.declared.switches.Switch.{Switch}
use Rattle.init_flow.specs.Switches.{all_switched, at_most_one, result_switch, switch_by, taken, way_switches}
use Rattle.init_flow.proofs.Following.{all-append}
use Rattle.init_flow.proofs.switches.Switches.pass.Goals as goal

-- the uses of a block, and then its result, are what it switches on a way
both : (below : List Bits) (gone : Bool) (blocks : List BlockSwitches) (block way : ℕ) (found : BlockSwitches) (row : Bits)
    → slice_get blocks block ≡ Some found
    → all_switched below (map (taken gone) (at_most_one (result_switch found way))) (all_switched below (map (taken gone) found.uses) row)
    ≡ all_switched below (map (taken gone) (way_switches (slice_get blocks block) way)) row
both below gone blocks block way found row some =
    sym (all-append below (map (taken gone) found.uses) (map (taken gone) (at_most_one (result_switch found way))) row)
    ∙ ap (λ (z : List Switch). all_switched below z row) (sym (map-append (taken gone) found.uses (at_most_one (result_switch found way))))
    ∙ ap (λ (o : Option BlockSwitches). all_switched below (map (taken gone) (way_switches o way)) row) (sym some)

pub returns-in_default : goal.returns-in_default
returns-in_default c =
    let none : slice_get c.args.self.now.blocks c.args.block ≡ None = sym c.get.ensures ∙ ap option_copied c.in_default.is in
    ap (λ (o : Option BlockSwitches). all_switched c.args.self.now.below (map (taken c.args.gone) (way_switches o c.args.way)) c.args.row.now) (sym none)

pub returns-in-Some-result : goal.returns-in-Some-result
returns-in-Some-result c =
    let below : List Bits = c.args.self.now.below in
    let t : Switch → Switch = taken c.args.gone in
    let row : Bits = c.args.row.now in
    let found : BlockSwitches = c.in-Some.found.now in
    let some : slice_get c.args.self.now.blocks c.args.block ≡ Some found = sym c.get.ensures ∙ ap option_copied c.in-Some.is in
    c.switch.ensures
    ∙ ap (switch_by below (t c.in-Some-result.switch)) (c.all.ensures ∙ ap (λ (z : List Switch). all_switched below (map t z) row) c.as_slice.ensures)
    ∙ ap (λ (o : Option Switch). all_switched below (map t (at_most_one o)) (all_switched below (map t found.uses) row)) (sym c.in-Some-result.is ∙ c.result.ensures)
    ∙ both below c.args.gone c.args.self.now.blocks c.args.block c.args.way found row some

pub returns-in_default-result : goal.returns-in_default-result
returns-in_default-result c =
    let below : List Bits = c.args.self.now.below in
    let t : Switch → Switch = taken c.args.gone in
    let row : Bits = c.args.row.now in
    let found : BlockSwitches = c.in-Some.found.now in
    let some : slice_get c.args.self.now.blocks c.args.block ≡ Some found = sym c.get.ensures ∙ ap option_copied c.in-Some.is in
    c.all.ensures ∙ ap (λ (z : List Switch). all_switched below (map t z) row) c.as_slice.ensures
    ∙ ap (λ (o : Option Switch). all_switched below (map t (at_most_one o)) (all_switched below (map t found.uses) row)) (sym c.in_default-result.is ∙ c.result.ensures)
    ∙ both below c.args.gone c.args.self.now.blocks c.args.block c.args.way found row some
