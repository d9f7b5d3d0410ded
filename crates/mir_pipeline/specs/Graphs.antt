-- The raw graph of a text, the uses that it refuses, and why a text has none that is accepted.
use Rattle.std.specs.Prelude.{◌≡◌, ◌<◌, ◌==◌, ℕ, Bool, true, false, ◌&&◌, List, map, Option, Some, None, slice_get, ⊤, find, is_some, option_and_then}
use Rattle.move_errors.specs.Reaches.{MeetsNone, IsLeast}
use Rattle.move_errors.specs.Runs.{number_of}
use Rattle.lower_rules.specs.Lower.{graph_of, node_of}
use Rattle.cfg_graph.specs.declared.graph.Block.{Block}
use Rattle.cfg_graph.specs.declared.graph.Body.{Body}
use Rattle.cfg_graph.specs.declared.graph.Graph.{Graph}
use Rattle.cfg_graph.specs.declared.terminator.Term.{Term}
use Rattle.cfg_graph.specs.Moves.BadUses.{UseRule, U1, U2}
use Rattle.cfg_graph.specs.Places.{named}
use Rattle.cfg_graph.specs.Ready.{IsPrepared}
use Rattle.cfg_graph.specs.WellFormed.Faults.{IsCounted, IsWellFormed}
use Rattle.cfg_build.specs.Claims.{EachBody, IsSmall, RunsAsItsSource, WalksAsItRunsFreely}
use Rattle.cfg_build.specs.declared.programs.Lowered.{Lowered}
use Rattle.lower_laws.specs.Refused.{ruled_by, MeetsExactly}
use Rattle.move_errors.specs.Refusal.{IsRefused}
use Rattle.move_errors.specs.declared.errors.BadUse.{BadUse}
use Rattle.move_paths.specs.declared.uses.Use.{Use}
use Rattle.soundness_values.specs.Laws.{IsSound}
use Rattle.src_meaning.specs.Programs.{IsAccepted, reached_by}
use Rattle.typed_tree.specs.Nodes.{body_nodes, first_with}
use Rattle.typed_tree.specs.Tree.{Node, BodyTree, ProgramTree}
use Rattle.lower_rules.specs.Listed.{program_sites}
use Rattle.lower_rules.specs.Sites.{position_of}
use Rattle.lower_rules.specs.declared.site.Site.{Site}
use Rattle.mir_pipeline.specs.Programs.{IsProgramOf, HasNoProgram}
use Rattle.mir_pipeline.specs.Runs.{IsNeverStuck, RunsExactlyAsItsSource}
use Rattle.mir_pipeline.specs.declared.refusal.Refusal.{Refusal}
use Rattle.mir_pipeline.specs.declared.refusal.Refusal.TheVariants as refusal
use Rattle.mir_pipeline.specs.declared.uses.LineOfUse.{LineOfUse}

-- ---- the site of a bad use: that of its line; where an assignment drops what stood there, that of the store behind
-- the drop

abbrev pub behind_drop : Term → LineOfUse → LineOfUse
behind_drop (Term.DropAt place next unwind) own = record { block = next; line = 0 }
behind_drop term own = own

abbrev pub is_drop : Use → Bool
is_drop Use.Drops = true
is_drop by = false

abbrev pub told_by : Bool → Option Block → LineOfUse → LineOfUse
told_by true (Some block) own = behind_drop block.term own
told_by is_drop block own = own

abbrev pub block_of : Graph → (body block : ℕ) → Option Block
block_of graph body block =
    option_and_then (λ (found : Body). slice_get found.blocks block) (slice_get graph.bodies body)

abbrev pub line_told : Graph → BadUse → LineOfUse
line_told graph bad =
    told_by (is_drop bad.by) (block_of graph bad.body bad.block) (record { block = bad.block; line = bad.line })

abbrev pub stands_at : ℕ → LineOfUse → Site → Bool
stands_at body at site = site.body == body && (site.block == at.block && site.line == at.line)

abbrev pub site_of : Lowered → BadUse → Option Site
site_of lowered bad = find (stands_at bad.body (line_told lowered.graph bad)) lowered.sites

-- a bad use of the first body that has one, along the least of the shortest lists of choices that reach one
pub record IsFirstBad (graph : Graph) (rule : UseRule) (bad : BadUse) : Type 0 where
  pub body : Body
  pub there : slice_get graph.bodies bad.body ≡ Some body
  pub refused : IsRefused graph.items body bad.body rule bad
  pub first :
      (n : ℕ) (earlier : Body) → n < bad.body → slice_get graph.bodies n ≡ Some earlier →
      MeetsNone graph.items earlier

-- each bad use has a site
abbrev pub AreSited : Lowered → Type 0
AreSited lowered =
    (rule : UseRule) (bad : BadUse) → IsFirstBad lowered.graph rule bad → is_some (site_of lowered bad) ≡ true

-- The raw graph of a program, with the sites of its uses. It is well formed and prepared for drop elaboration; its lists
-- are short, and a body has few blocks for the nodes of its source. It runs as the program does, up to the place where
-- both are stuck; each body walks as it runs freely, its paths meet exactly the refused uses of its free runs, and each
-- bad use has a site. Where the program is accepted it passes all checks; then it is never stuck, and the graph runs
-- exactly as it does.
pub record IsGraphOf (program : ProgramTree) (lowered : Lowered) : Type 0 where
  pub graph : lowered.graph ≡ graph_of program
  pub sites : lowered.sites ≡ program_sites program
  pub well_formed : IsWellFormed lowered.graph
  pub prepared : IsPrepared lowered.graph
  pub small : EachBody IsSmall program lowered.graph
  pub counted : IsCounted lowered.graph
  pub values : RunsAsItsSource program lowered.graph
  pub free : EachBody (WalksAsItRunsFreely program.items) program lowered.graph
  pub paths : EachBody (MeetsExactly program.items) program lowered.graph
  pub sited : AreSited lowered
  pub sound : IsAccepted program → IsSound program
  pub never_stuck : IsAccepted program → IsNeverStuck program
  pub exact : IsAccepted program → RunsExactlyAsItsSource program lowered.graph

-- the raw graph of a text's program
abbrev pub IsLoweredOf : List ℕ → Lowered → Type 0
IsLoweredOf text lowered = (program : ProgramTree) × IsProgramOf text program × IsGraphOf program lowered

-- no path of any body meets a bad use
abbrev pub UsesStand : Graph → Type 0
UsesStand graph = (n : ℕ) (body : Body) → slice_get graph.bodies n ≡ Some body → MeetsNone graph.items body

-- The raw graph of an accepted program: no list of choices reaches a refused use in any body of the source.
pub record IsAcceptedAs (program : ProgramTree) (lowered : Lowered) : Type 0 where
  pub lowered_is : IsGraphOf program lowered
  pub uses : UsesStand lowered.graph
  pub source : IsAccepted program

abbrev pub IsAcceptedOf : List ℕ → Lowered → Type 0
IsAcceptedOf text lowered = (program : ProgramTree) × IsProgramOf text program × IsAcceptedAs program lowered

-- ---- refused uses

pub record IsBadAt (lowered : Lowered) (rule : UseRule) (bad : BadUse) (site : Site) : Type 0 where
  pub is_bad : IsFirstBad lowered.graph rule bad
  pub told : site_of lowered bad ≡ Some site

-- The same use in the source: with the choices of the refusal the free run of its body is refused, at the use's place
-- and the node of its line, by the same rule; the position that is told is that of this node. Of all lists of choices by
-- which a free run of that body is refused this is a shortest one, and the least of the shortest; and no free run of an
-- earlier body is refused.
pub record IsRefusedInSource (program : ProgramTree) (rule : UseRule) (bad : BadUse) (site : Site) : Type 0 where
  pub tree : BodyTree
  pub there : slice_get program.bodies bad.body ≡ Some tree
  pub given : List Bool
  pub answers : bad.answers ≡ map number_of given
  pub refused :
      reached_by program.items tree given
      ≡ Some (record { node = node_of program.items tree bad.block bad.line; place = named bad.place })
  pub ruled : ruled_by program.items tree given ≡ Some rule
  pub node : Node
  pub found : first_with (node_of program.items tree bad.block bad.line) (body_nodes tree) ≡ Some node
  pub at : site.at ≡ position_of node
  pub least : (other : List Bool) → is_some (reached_by program.items tree other) ≡ true → IsLeast given other
  pub first :
      (n : ℕ) (earlier : BodyTree) (list : List Bool) → n < bad.body → slice_get program.bodies n ≡ Some earlier →
      reached_by program.items earlier list ≡ None

-- why the uses of a graph are refused
abbrev pub RefusesUses : Lowered → Refusal → Type 0
RefusesUses lowered (refusal.U1 bad site) = IsBadAt lowered U1 bad site
RefusesUses lowered (refusal.U2 bad site) = IsBadAt lowered U2 bad site
RefusesUses lowered refusal.Memory = ⊤
RefusesUses lowered other = ⊥

-- ---- why a text has no graph that is accepted

-- The raw graph of a program that is not accepted: a use of it is refused, which a free run of the source meets.
pub record IsRefusedAs
    (program : ProgramTree) (lowered : Lowered) (rule : UseRule) (bad : BadUse) (site : Site)
    : Type 0 where
  pub lowered_is : IsGraphOf program lowered
  pub refused : IsBadAt lowered rule bad site
  pub source : IsRefusedInSource program rule bad site
  pub not_accepted : ¬ IsAccepted program

abbrev pub HasBadUse : List ℕ → UseRule → BadUse → Site → Type 0
HasBadUse text rule bad site =
    (program : ProgramTree) × (lowered : Lowered) × IsProgramOf text program × IsRefusedAs program lowered rule bad site

abbrev pub IsNotAccepted : List ℕ → Refusal → Type 0
IsNotAccepted text (refusal.U1 bad site) = HasBadUse text U1 bad site
IsNotAccepted text (refusal.U2 bad site) = HasBadUse text U2 bad site
IsNotAccepted text other = HasNoProgram text other
