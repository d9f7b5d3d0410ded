-- What is known of the graph that is made of a program of a text; each bad use of it has a site.
use Rattle.std.proofs.Common.{◌≡◌, ◌∙◌, ◌||◌, ℕ, Bool, true, false, if◌then◌else◌, List, [], ◌∷◌, Option, Some, None, slice_get, refl, ap, sym, subst}
use Rattle.std.specs.Prelude.{All, find, is_some, option_and_then, option_map}
use Rattle.std.proofs.lemmas.List.Elements.{All-head, All-tail}
use Rattle.std.proofs.lemmas.Option.{none-some, same_Some, slice_get-map}
use Rattle.std.specs.List.{list_any}
use Rattle.lower_rules.proofs.Bodies.{lowered_runs_as_its_source, lowered_walks_as_it_runs_freely}
use Rattle.lower_rules.specs.Laws.{AllNameTheirLoops}
use Rattle.lower_rules.specs.Lower.{body_of, graph_of, node_of}
use Rattle.lower_rules.specs.Sites.{position_of}
use Rattle.cfg_graph.specs.declared.graph.Block.{Block}
use Rattle.cfg_graph.specs.declared.graph.Body.{Body}
use Rattle.cfg_graph.specs.declared.graph.Graph.{Graph}
use Rattle.cfg_graph.specs.declared.terminator.Term.{Term}
use Rattle.cfg_graph.specs.Moves.BadUses.{UseRule}
use Rattle.cfg_graph.specs.Ready.{IsPrepared}
use Rattle.cfg_graph.specs.WellFormed.Faults.{IsCounted, IsWellFormed}
use Rattle.cfg_build.specs.Claims.{EachBody, IsSmall, RunsAsItsSource, WalksAsItRunsFreely}
use Rattle.cfg_build.specs.declared.programs.Lowered.{Lowered}
use Rattle.lower_laws.specs.Refused.{MeetsExactly}
use Rattle.lower_laws.proofs.Exact.{lowered-paths-meet-exactly}
use Rattle.lower_laws.specs.Told as told
use Rattle.lower_laws.specs.Told.{LineOfBody, has_site, IsTold}
use Rattle.lower_laws.proofs.UseLaw.{lowered_uses_have_sites}
use Rattle.lower_rules.proofs.FormSizes.{lowered_is_small}
use Rattle.move_errors.specs.Refusal.{named_use}
use Rattle.move_errors.specs.declared.errors.BadUse.{BadUse}
use Rattle.move_paths.specs.Uses.{use_of}
use Rattle.move_paths.specs.declared.uses.Use.{Use}
use Rattle.typed_tree.specs.Nodes.{body_nodes, first_with}
use Rattle.typed_tree.specs.Tree.{Node, BodyTree, ProgramTree}
use Rattle.lower_rules.specs.Listed.{program_sites}
use Rattle.lower_rules.specs.declared.site.Site.{Site}
use Rattle.mir_pipeline.proofs.ExactRuns.{runs_exactly}
use Rattle.mir_pipeline.proofs.SoundPrograms.{is_never_stuck}
use Rattle.mir_pipeline.specs.Building.{HasGraph}
use Rattle.mir_pipeline.specs.Graphs.{AreSited, IsFirstBad, IsGraphOf, behind_drop, told_by, is_drop, block_of, line_told, site_of, stands_at}
use Rattle.mir_pipeline.specs.declared.uses.LineOfUse.{LineOfUse}

-- ---- a bad use has a site
found_where_any : (p : Site → Bool) (sites : List Site) → list_any p sites ≡ true → is_some (find p sites) ≡ true
found_where_any p [] h = h
found_where_any p (site ∷ sites) h = by_test (p site) h (found_where_any p sites)
  where
    by_test : (b : Bool) → (b || list_any p sites) ≡ true → (list_any p sites ≡ true → is_some (find p sites) ≡ true) →
        is_some (if b then Some site else find p sites) ≡ true
    by_test true h k = refl
    by_test false h k = k h

found_where_all : (P : Site → Type 0) (p : Site → Bool) (sites : List Site) → All (λ site. p site ≡ true → P site) sites → (site : Site) → find p sites ≡ Some site → P site
found_where_all P p [] all site e = absurd (none-some site e)
found_where_all P p (one ∷ sites) all site e =
    by_test (p one) refl e (found_where_all P p sites (All-tail (λ site. p site ≡ true → P site) one sites all) site)
  where
    by_test : (b : Bool) → p one ≡ b → (if b then Some one else find p sites) ≡ Some site → (find p sites ≡ Some site → P site) → P site
    by_test true is e later = subst P (same_Some one site e) (All-head (λ site. p site ≡ true → P site) one sites all is)
    by_test false is e later = later e

abbrev line_of : LineOfUse → LineOfBody
line_of at = record { block = at.block; line = at.line }

behind_same : (term : Term) (own : LineOfUse) → line_of (behind_drop term own) ≡ told.behind_drop term (line_of own)
behind_same (Term.DropAt place next unwind) own = refl
behind_same other own = refl

told_same : (by : Use) (block : Option Block) (own : LineOfUse) → line_of (told_by (is_drop by) block own) ≡ told.told_by (use_of by) block (line_of own)
told_same Use.Drops None own = refl
told_same Use.Drops (Some block) own = behind_same block.term own
told_same other block own = refl

module _ (program : ProgramTree) (named : AllNameTheirLoops program) where
  abbrev graph : Graph
  graph = graph_of program

  line_same : (rule : UseRule) (bad : BadUse) (body : Body) → slice_get graph.bodies bad.body ≡ Some body →
      line_of (line_told graph bad) ≡ told.line_told body (named_use rule bad).action
  line_same rule bad body there =
      let own : LineOfUse = record { block = bad.block; line = bad.line } in
      told_same bad.by (block_of graph bad.body bad.block) own
      ∙ ap (λ o. told.told_by (use_of bad.by) o (line_of own)) (ap (λ o. option_and_then (λ (found : Body). slice_get found.blocks bad.block) o) there)

  told_of : (rule : UseRule) (bad : BadUse) (first : IsFirstBad graph rule bad) → IsTold program bad.body first.body (named_use rule bad).action
  told_of rule bad first =
      lowered_uses_have_sites program named bad.body first.body first.there bad.path first.refused.given (named_use rule bad) first.refused.reaches

  has_one : (rule : UseRule) (bad : BadUse) → IsFirstBad graph rule bad → is_some (find (stands_at bad.body (line_told graph bad)) (program_sites program)) ≡ true
  has_one rule bad first =
      found_where_any (stands_at bad.body (line_told graph bad)) (program_sites program)
      (ap (λ at. has_site program bad.body at) (line_same rule bad first.body first.there) ∙ (told_of rule bad first).sited)

  is_at : (rule : UseRule) (bad : BadUse) (first : IsFirstBad graph rule bad) (site : Site) →
      find (stands_at bad.body (line_told graph bad)) (program_sites program) ≡ Some site → site.at ≡ position_of (told_of rule bad first).node
  is_at rule bad first site found =
      found_where_all (λ (one : Site). one.at ≡ position_of (told_of rule bad first).node) (told.stands_at bad.body (told.line_told first.body (named_use rule bad).action))
      (program_sites program) (told_of rule bad first).at site
      (ap (λ at. find (told.stands_at bad.body at) (program_sites program)) (sym (line_same rule bad first.body first.there)) ∙ found)

-- the node of which a bad use is told, by the position of its site
pub record ToldAt (program : ProgramTree) (bad : BadUse) (site : Site) : Type 0 where
  pub tree : BodyTree
  pub there : slice_get program.bodies bad.body ≡ Some tree
  pub node : Node
  pub found : first_with (node_of program.items tree bad.block bad.line) (body_nodes tree) ≡ Some node
  pub at : site.at ≡ position_of node

pub told_at : (program : ProgramTree) → AllNameTheirLoops program → (lowered : Lowered) → lowered.graph ≡ graph_of program → lowered.sites ≡ program_sites program →
    (rule : UseRule) (bad : BadUse) → IsFirstBad lowered.graph rule bad → (site : Site) → site_of lowered bad ≡ Some site → ToldAt program bad site
told_at program named lowered graph sites rule bad first site found =
    let here = subst (λ g. IsFirstBad g rule bad) graph first in
    let it = told_of program named rule bad here in record {
      tree = it.tree;
      there = it.there;
      node = it.node;
      found = it.found;
      at = is_at program named rule bad here site ((λ i. find (stands_at bad.body (line_told (sym graph i) bad)) (sym sites i)) ∙ found);
    }

sited : (program : ProgramTree) → AllNameTheirLoops program → (lowered : Lowered) → lowered.graph ≡ graph_of program → lowered.sites ≡ program_sites program → AreSited lowered
sited program named lowered graph sites rule bad first =
    (λ i. is_some (find (stands_at bad.body (line_told (graph i) bad)) (sites i)))
    ∙ has_one program named rule bad (subst (λ g. IsFirstBad g rule bad) graph first)

-- ---- what holds of each body of the graph of a program
each : (P : BodyTree → Body → Type 0) (program : ProgramTree) → ((n : ℕ) (tree : BodyTree) → slice_get program.bodies n ≡ Some tree → P tree (body_of program.items tree)) →
    EachBody P program (graph_of program)
each P program holds n tree there =
    (body_of program.items tree, (slice_get-map (body_of program.items) program.bodies n ∙ ap (option_map (body_of program.items)) there, holds n tree there))

-- the graph that was made of a program
pub is_graph : (program : ProgramTree) → HasGraph program → (same : Lowered) → same.graph ≡ graph_of program → same.sites ≡ program_sites program →
    IsCounted same.graph → IsGraphOf program same
is_graph program (named, rises, well_formed, prepared, sound) same made listed counted =
    record {
      graph = made;
      sites = listed;
      well_formed = subst IsWellFormed (sym made) well_formed;
      prepared = subst IsPrepared (sym made) prepared;
      small = subst (EachBody IsSmall program) (sym made) (each IsSmall program (λ n tree there. lowered_is_small program.items tree));
      counted = counted;
      values = alike;
      free =
          subst (EachBody (WalksAsItRunsFreely program.items) program) (sym made)
          (each (WalksAsItRunsFreely program.items) program (λ n tree there. lowered_walks_as_it_runs_freely program.items tree (named n tree there)));
      paths =
          subst (EachBody (MeetsExactly program.items) program) (sym made)
          (each (MeetsExactly program.items) program (lowered-paths-meet-exactly program named rises well_formed));
      sited = sited program named same made listed;
      sound = sound;
      never_stuck = λ accepted. is_never_stuck program (sound accepted);
      exact = λ accepted. runs_exactly program same.graph alike (is_never_stuck program (sound accepted));
    }
  where
    alike : RunsAsItsSource program same.graph
    alike = subst (RunsAsItsSource program) (sym made) (lowered_runs_as_its_source program named)
