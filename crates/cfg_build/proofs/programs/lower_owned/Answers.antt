use Rattle.std.proofs.Common.{rules, ◌≡◌, ◌∙◌, List, map, ap}
use Rattle.typed_tree.specs.Tree.{ProgramTree}
use Rattle.typed_tree.specs.View.{body_of, program_of}
use Rattle.typed_tree.specs.declared.body.TBody.{TBody}
use Rattle.mir_ty.specs.ItemTable.{ItemTable}
use Rattle.lower_rules.specs.Lower as low
use Rattle.lower_rules.specs.Listed.{of_bodies, program_sites}
use Rattle.cfg_build.proofs.programs.lower_owned.Goals as goal

pub returns : goal.returns
returns c =
    let program : ProgramTree = program_of c.args.typed in
    let all : c.as_slice.result.now ≡ c.args.typed.bodies = search rules in
    let items : c.replace-items.result ≡ program.items = search rules in
    let bodies : c.in_ok-lowered.lowered.bodies ≡ map (low.body_of program.items) program.bodies =
    c.in_ok-lowered.ensures.bodies ∙ ap (λ (ts : List TBody). map (low.body_of program.items) (map body_of ts)) all in
    record {
      graph = λ i. record { items = items i; bodies = bodies i };
      sites = c.in_ok-lowered.ensures.sites ∙ ap (λ (ts : List TBody). of_bodies program.items 0 (map body_of ts)) all;
      counted = record { bodies = c.in_ok-lowered.ensures.few; each = c.in_ok-lowered.ensures.counted };
    }
