-- What the laws of the lowering say of the raw graph of a program.
use Rattle.std.proofs.Common.{◌≡◌, ◌∙◌, ◌++◌, ◌∷◌, ◌+◌, ◌<◌, ℕ, suc, List, [], Some, None, length, map, drop, sym, ap, subst, arith}
use Rattle.std.specs.Prelude.{slice_get, option_map, get_or}
use Rattle.std.proofs.lemmas.Option.{slice_get-map}
use Rattle.cfg_graph.specs.declared.graph.Body.{Body}
use Rattle.cfg_graph.specs.declared.graph.Graph.{Graph}
use Rattle.cfg_graph.specs.Ready.{IsPrepared}
use Rattle.cfg_graph.specs.WellFormed.Faults.{IsWellFormed}
use Rattle.mir_ty.specs.ItemTable.{ItemTable}
use Rattle.typed_tree.specs.Tree.{BodyTree, ProgramTree}
use Rattle.typed_tree.specs.View.{body_of as tree_of}
use Rattle.typed_tree.specs.declared.body.TBody.{TBody}
use Rattle.lower_rules.specs.Listed.{body_sites, of_bodies}
use Rattle.lower_rules.specs.declared.site.Site.{Site}
use Rattle.cfg_build.proofs.Numbered.{numbered_more}
use Rattle.typing_rules.specs.Borrows.{broken_borrow}
use Rattle.well_typed.specs.Program.{WellTyped}
use Rattle.lower_rules.specs.Lower.{body_of, graph_of}
use Rattle.lower_rules.proofs.Bodies.{lowered_runs_as_its_source, lowered_walks_as_it_runs_freely, lowered_is_ranked, lowered_keeps_to_cleanup, lowered_is_prepared}
use Rattle.lower_rules.proofs.FormSizes.{lowered_is_small}
use Rattle.lower_rules.proofs.Typed.{well_typed_names_loops}
use Rattle.lower_laws.specs.Lowerable.{IsLowerable}
use Rattle.lower_laws.proofs.Whole.{graphs_are_well_formed}
use Rattle.lower_laws.specs.Refused.{MeetsExactly, MeetsItsRefusals}
use Rattle.lower_laws.proofs.Exact.{lowered-paths-meet-exactly, well_typed_rise}
use Rattle.lower_laws.proofs.Law.{lowered-paths-meet}
use Rattle.lower_ready.proofs.Prepared.{graphs_are_prepared}
use Rattle.cfg_build.specs.Claims.{EachBody, HasOrderedEdges, HasScheduledDrops, IsSmall, RunsAsItsSource, WalksAsItRunsFreely}

-- one body more
pub pushed_is : (bodies new : List Body) (body same : Body) → new ≡ bodies ++ body ∷ [] → body ≡ same → new ≡ bodies ++ same ∷ []
pushed_is bodies new body same pushed is = pushed ∙ ap (λ (b : Body). bodies ++ b ∷ []) is

-- behind none
pub behind_none : (none new more all : List Body) → none ≡ [] → new ≡ none ++ more → more ≡ all → new ≡ all
behind_none none new more all is found same = found ∙ ap (λ (b : List Body). b ++ more) is ∙ same

-- the sites of one body more
onward : (items : ItemTable) (k : ℕ) (x : TBody) (rest : List TBody) → of_bodies items k (map tree_of (x ∷ rest)) ≡ body_sites items (tree_of x) k ++ of_bodies items (k + 1) (map tree_of rest)
onward items k x rest =
    let next : suc k ≡ k + 1 = omega arith in
    ap (λ (n : ℕ). body_sites items (tree_of x) k ++ of_bodies items n (map tree_of rest)) next

pub body_more : (items : ItemTable) (all : List TBody) (i number next : ℕ) (d : TBody) (before new whole : List Site) → number ≡ i → next ≡ number + 1 → i < length all → d ≡ get_or all i d → new ≡ before ++ body_sites items (tree_of d) number → before ++ of_bodies items number (map tree_of (drop i all)) ≡ whole → new ++ of_bodies items next (map tree_of (drop (i + 1) all)) ≡ whole
body_more items all i number next d before new whole counts on less is found so_far =
    ap (λ (k : ℕ). new ++ of_bodies items k (map tree_of (drop (i + 1) all))) (on ∙ ap (λ (k : ℕ). k + 1) counts)
    ∙ numbered_more (λ (k : ℕ) (l : List TBody). of_bodies items k (map tree_of l)) (λ (k : ℕ) (x : TBody). body_sites items (tree_of x) k) all i d before new whole (onward items) less is
    (found ∙ ap (λ (k : ℕ). before ++ body_sites items (tree_of d) k) counts)
    (ap (λ (k : ℕ). before ++ of_bodies items k (map tree_of (drop i all))) (sym counts) ∙ so_far)

-- sites behind none
pub sites_behind_none : (none new more all : List Site) → none ≡ [] → new ≡ none ++ more → more ≡ all → new ≡ all
sites_behind_none none new more all is found same = found ∙ ap (λ (b : List Site). b ++ more) is ∙ same

each : (P : BodyTree → Body → Type 0) (program : ProgramTree) → ((n : ℕ) (tree : BodyTree) → slice_get program.bodies n ≡ Some tree → P tree (body_of program.items tree)) → EachBody P program (graph_of program)
each P program holds n tree is =
    (body_of program.items tree, (slice_get-map (body_of program.items) program.bodies n ∙ ap (option_map (body_of program.items)) is, holds n tree is))

module _ (program : ProgramTree) (graph : Graph) (same : graph ≡ graph_of program) where
  of_graph : (P : Graph → Type 0) → P (graph_of program) → P graph
  of_graph P is = subst P (sym same) is

  pub runs : WellTyped program → RunsAsItsSource program graph
  runs typed = of_graph (RunsAsItsSource program)
      (λ asked ticks. lowered_runs_as_its_source program (well_typed_names_loops program typed) asked ticks)

  pub walks : WellTyped program → EachBody (WalksAsItRunsFreely program.items) program graph
  walks typed = of_graph (EachBody (WalksAsItRunsFreely program.items) program)
      (each (WalksAsItRunsFreely program.items) program
      (λ n tree is. lowered_walks_as_it_runs_freely program.items tree (well_typed_names_loops program typed n tree is)))

  pub ordered : WellTyped program → EachBody HasOrderedEdges program graph
  ordered typed = of_graph (EachBody HasOrderedEdges program)
      (each HasOrderedEdges program
      (λ n tree is.
      let names = well_typed_names_loops program typed n tree is in
      (lowered_is_ranked program.items tree names, lowered_keeps_to_cleanup program.items tree names)))

  pub scheduled : WellTyped program → EachBody (HasScheduledDrops program.items) program graph
  scheduled typed = of_graph (EachBody (HasScheduledDrops program.items) program)
      (each (HasScheduledDrops program.items) program
      (λ n tree is. lowered_is_prepared program.items tree (well_typed_names_loops program typed n tree is)))

  pub prepared : WellTyped program → IsLowerable program → broken_borrow program ≡ None → IsPrepared graph
  prepared typed low borrows = of_graph IsPrepared (graphs_are_prepared program typed low borrows)

  pub formed : WellTyped program → IsLowerable program → IsWellFormed graph
  formed typed low = of_graph IsWellFormed (graphs_are_well_formed program typed low)

  pub meet : WellTyped program → EachBody (MeetsItsRefusals program.items) program graph
  meet typed = of_graph (EachBody (MeetsItsRefusals program.items) program)
      (each (MeetsItsRefusals program.items) program
      (λ n tree is. lowered-paths-meet program.items tree (well_typed_names_loops program typed n tree is)))

  pub exact : WellTyped program → IsWellFormed graph → EachBody (MeetsExactly program.items) program graph
  exact typed formed = of_graph (EachBody (MeetsExactly program.items) program)
      (each (MeetsExactly program.items) program
      (lowered-paths-meet-exactly program (well_typed_names_loops program typed) (well_typed_rise program typed) (subst IsWellFormed same formed)))

  pub small : EachBody IsSmall program graph
  small = of_graph (EachBody IsSmall program) (each IsSmall program (λ n tree is. lowered_is_small program.items tree))
