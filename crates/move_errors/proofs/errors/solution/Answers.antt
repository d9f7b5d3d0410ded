use Rattle.std.proofs.Common.{◌≡◌, [], ◌∷◌, List, true, subst, slice_get, slice_index_or, Some, refl, sym, ap, ◌∙◌, arith}
use Rattle.std.proofs.lemmas.List.{append_cancel_right}
use Rattle.std.proofs.lemmas.Option.{slice_get-get_or}
use Rattle.cfg_graph.specs.declared.graph.Body.{Body}
use Rattle.cfg_graph.specs.Moves.Actions.{actions_on}
use Rattle.init_flow.specs.Fits.{AreSwitches}
use Rattle.init_flow.specs.Switches.{passed_by}
use Rattle.init_flow.specs.declared.switches.Switches.{Switches}
use Rattle.move_errors.specs.Rows.{state}
use Rattle.move_errors.proofs.WellUsed.{block-there, locals-below}
use Rattle.move_errors.proofs.errors.solution.Goals as goal

pub returns-clause-watched : goal.returns-clause-watched
returns-clause-watched c =
    let body : Body = c.index-as_slice-body.result in
    let found : slice_get c.args.graph.now.bodies c.args.body ≡ Some c.index-as_slice-body.result =
    slice_get-get_or c.args.graph.now.bodies c.args.body c.index-as_slice-body.result c.requires.body
    ∙ ap Some (sym (c.index-as_slice-body.is ∙ ap (λ (z : List Body). slice_index_or z c.args.body c.index-as_slice-body.result) c.as_slice.ensures)) in
    record {
      is_forest = c.in_ok-forest.ensures body found;
      masks = ap (λ (s : Switches). s.below) c.into_switches-switches.ensures ∙ (c.in-Ok.ensures.switches body found).below;
      locals = locals-below body (c.requires.locals body found);
      some_block = block-there body (c.requires.locals body found);
    }

pub returns-clause-first : goal.returns-clause-first
returns-clause-first c =
    let body : Body = c.index-as_slice-body.result in
    let found : slice_get c.args.graph.now.bodies c.args.body ≡ Some c.index-as_slice-body.result =
    slice_get-get_or c.args.graph.now.bodies c.args.body c.index-as_slice-body.result c.requires.body
    ∙ ap Some (sym (c.index-as_slice-body.is ∙ ap (λ (z : List Body). slice_index_or z c.args.body c.index-as_slice-body.result) c.as_slice.ensures)) in
    let said = (c.in-Ok.ensures.says body found).rows [] c.in-Ok.gone.switches.first (0, omega arith, refl) in
    let none : said.0 ≡ [] = sym (append_cancel_right [] said.0 (actions_on body (0 ∷ [])) said.1) in
    ap (λ (s : Switches). s.first) c.into_switches-switches.ensures ∙ said.2 ∙ ap (state c.args.graph.now.items body c.in_ok-forest.forest.paths) none

pub returns-clause-switches : goal.returns-clause-switches
returns-clause-switches c =
    let body : Body = c.index-as_slice-body.result in
    let found : slice_get c.args.graph.now.bodies c.args.body ≡ Some c.index-as_slice-body.result =
    slice_get-get_or c.args.graph.now.bodies c.args.body c.index-as_slice-body.result c.requires.body
    ∙ ap Some (sym (c.index-as_slice-body.is ∙ ap (λ (z : List Body). slice_index_or z c.args.body c.index-as_slice-body.result) c.as_slice.ensures)) in
    subst (λ (s : Switches). AreSwitches c.in_ok-forest.forest.paths s body) (sym c.into_switches-switches.ensures) (c.in-Ok.ensures.switches body found)

pub returns-clause-rows : goal.returns-clause-rows
returns-clause-rows c =
    let body : Body = c.index-as_slice-body.result in
    let found : slice_get c.args.graph.now.bodies c.args.body ≡ Some c.index-as_slice-body.result =
    slice_get-get_or c.args.graph.now.bodies c.args.body c.index-as_slice-body.result c.requires.body
    ∙ ap Some (sym (c.index-as_slice-body.is ∙ ap (λ (z : List Body). slice_index_or z c.args.body c.index-as_slice-body.result) c.as_slice.ensures)) in
    let gone = c.in-Ok.gone in
    let says = c.in-Ok.ensures.says body found in
    record {
      pass = λ block way row. passed_by gone.switches true block way row;
      first = gone.switches.first;
      says = says;
      carried = c.in-Ok-solve.ensures.carried;
      long = c.in-Ok-solve.ensures.blocks;
      widths = λ n within. c.in-Ok-solve.ensures.widths n within ∙ says.width;
    }
