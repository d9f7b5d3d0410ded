use Rattle.std.proofs.Common.{rules, ◌≡◌, ◌∙◌, List, map, ap}
use Rattle.cfg_graph.specs.declared.graph.Graph.{Graph}
use Rattle.typed_tree.specs.Tree.{ProgramTree}
use Rattle.typed_tree.specs.View.{body_of, program_of}
use Rattle.typed_tree.specs.declared.body.TBody.{TBody}
use Rattle.lower_rules.specs.Lower as low
use Rattle.lower_rules.specs.Listed.{of_bodies, program_sites}
use Rattle.cfg_build.proofs.Claimed.{runs, walks, ordered, scheduled, prepared, formed, meet, exact, small}
use Rattle.cfg_build.proofs.programs.lower.Goals as goal

pub returns : goal.returns
returns c =
    let program : ProgramTree = program_of c.args.typed.now in
    let graph : Graph = record { items = c.in_ok-items.items; bodies = c.in_ok-lowered.lowered.bodies } in
    let all : c.as_slice.result.now ≡ c.args.typed.now.bodies = search rules in
    let bodies : c.in_ok-lowered.lowered.bodies ≡ map (low.body_of program.items) program.bodies =
    c.in_ok-lowered.ensures.bodies ∙ ap (λ (ts : List TBody). map (low.body_of program.items) (map body_of ts)) all in
    let is : graph ≡ low.graph_of program = λ i. record { items = c.in_ok-items.ensures i; bodies = bodies i } in
    let sites : c.in_ok-lowered.lowered.sites ≡ program_sites program =
    c.in_ok-lowered.ensures.sites ∙ ap (λ (ts : List TBody). of_bodies program.items 0 (map body_of ts)) all in
    record {
      graph = is;
      sites = sites;
      values = runs program graph is;
      free = walks program graph is;
      edges = ordered program graph is;
      drops = scheduled program graph is;
      prepared = prepared program graph is;
      well_formed = formed program graph is;
      paths = meet program graph is;
      exactly = exact program graph is;
      small = small program graph is;
      counted = record { bodies = c.in_ok-lowered.ensures.few; each = c.in_ok-lowered.ensures.counted };
    }
