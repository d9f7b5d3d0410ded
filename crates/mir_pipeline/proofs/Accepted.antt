-- Where the uses of its graph stand a text is accepted, and otherwise it is not.
use Rattle.std.proofs.Common.{◌≡◌, ◌∙◌, ℕ, List, Some, ap, sym, subst}
use Rattle.std.specs.Prelude.{option_map, slice_get}
use Rattle.std.proofs.lemmas.Option.{slice_get-map}
use Rattle.move_errors.specs.Reaches.{MeetsNone}
use Rattle.lower_rules.specs.Lower.{body_of, graph_of}
use Rattle.lower_rules.specs.Laws.{AllNameTheirLoops}
use Rattle.cfg_graph.specs.declared.graph.Graph.{Graph}
use Rattle.cfg_build.specs.declared.programs.Lowered.{Lowered}
use Rattle.lower_laws.proofs.Law.{lowered-paths-meet}
use Rattle.src_meaning.specs.Programs.{IsAccepted}
use Rattle.typed_tree.specs.Tree.{BodyTree, ProgramTree}
use Rattle.mir_pipeline.specs.Graphs.{IsAcceptedOf, IsLoweredOf, IsNotAccepted, RefusesUses, UsesStand}
use Rattle.mir_pipeline.specs.Programs.{HasAcceptedProgram, HasNoProgram}
use Rattle.cfg_graph.specs.Moves.BadUses as rules
use Rattle.mir_pipeline.proofs.Programs.{name_their_loops}
use Rattle.mir_pipeline.proofs.Source.{refused_as}
use Rattle.mir_pipeline.specs.declared.refusal.Refusal.{Refusal}
use Rattle.mir_pipeline.specs.declared.refusal.Refusal.TheVariants.{Lex, Syntax, TooDeep, Broken, U1, U2, Memory}

stands_in : (program : ProgramTree) → UsesStand (graph_of program) → (n : ℕ) (tree : BodyTree) → slice_get program.bodies n ≡ Some tree →
    MeetsNone program.items (body_of program.items tree)
stands_in program stand n tree there =
    stand n (body_of program.items tree)
    (slice_get-map (body_of program.items) program.bodies n ∙ ap (option_map (body_of program.items)) there)

source_stands : (program : ProgramTree) (graph : Graph) → graph ≡ graph_of program → UsesStand graph → AllNameTheirLoops program → IsAccepted program
source_stands program graph same stand named n tree list there =
    (lowered-paths-meet program.items tree (named n tree there)).accepted (stands_in program (subst UsesStand same stand) n tree there) list

pub is_accepted : (text : List ℕ) (lowered same : Lowered) → IsLoweredOf text lowered → (same ≡ lowered) × UsesStand lowered.graph → IsAcceptedOf text same
is_accepted text lowered same (program, p, g) (is, stand) =
    subst (IsAcceptedOf text) (sym is)
    (program, p, record { lowered_is = g; uses = stand; source = source_stands program lowered.graph g.graph stand (name_their_loops text program p) })

pub has_accepted_program : (text : List ℕ) (lowered : Lowered) → IsLoweredOf text lowered → UsesStand lowered.graph → HasAcceptedProgram text
has_accepted_program text lowered (program, p, g) stand =
    (program, p, source_stands program lowered.graph g.graph stand (name_their_loops text program p))

pub has_no_program : (text : List ℕ) (r : Refusal) → HasNoProgram text r → IsNotAccepted text r
has_no_program text (Lex code at) h = h
has_no_program text (Syntax at pos) h = h
has_no_program text (TooDeep at pos) h = h
has_no_program text (Broken rule at) h = h
has_no_program text (U1 bad site) h = absurd h
has_no_program text (U2 bad site) h = absurd h
has_no_program text Memory h = h

pub has_bad_use : (text : List ℕ) (lowered : Lowered) (r : Refusal) → IsLoweredOf text lowered → RefusesUses lowered r → IsNotAccepted text r
has_bad_use text lowered (Lex code at) l h = absurd h
has_bad_use text lowered (Syntax at pos) l h = absurd h
has_bad_use text lowered (TooDeep at pos) l h = absurd h
has_bad_use text lowered (Broken rule at) l h = absurd h
has_bad_use text lowered (U1 bad site) (program, p, g) h = (program, lowered, p, refused_as program (name_their_loops text program p) lowered g rules.U1 bad site h)
has_bad_use text lowered (U2 bad site) (program, p, g) h = (program, lowered, p, refused_as program (name_their_loops text program p) lowered g rules.U2 bad site h)
has_bad_use text lowered Memory l h = tt
