-- What is built of a text is a graph that may be listed: it is well formed, and has a signature for each body and for
-- nothing else.
use Rattle.std.proofs.Common.{◌≡◌, ℕ, suc, List, [], ◌∷◌, length, refl, ap, sym, ◌∙◌}
use Rattle.std.proofs.lemmas.Bool.{false≢true}
use Rattle.std.proofs.lemmas.List.{length-map}
use Rattle.cfg_graph.specs.declared.graph.Graph.{Graph}
use Rattle.cfg_graph.specs.WellFormed.Faults.{IsWellFormed}
use Rattle.drop_graphs.specs.declared.exact.Elaborated.{Elaborated}
use Rattle.lower_rules.specs.Lower.{body_of, graph_of}
use Rattle.mir_pipeline.specs.Built.{IsBuiltOf}
use Rattle.mir_ty.specs.declared.def.Sig.{Sig}
use Rattle.mir_ty.specs.ItemTable.{ItemTable}
use Rattle.typed_tree.specs.Tree.{BodyTree}
use Rattle.well_typed.specs.Claim.{Holds}
use Rattle.well_typed.specs.Program.{are_bodies}

pub built_well : (text : List ℕ) (done : Elaborated) → IsBuiltOf text done → IsWellFormed done.graph
built_well text done (program, is, built) = built.well_formed

as_many : (items : ItemTable) (n : ℕ) (sigs : List Sig) (bodies : List BodyTree) →
    Holds (are_bodies items n sigs bodies) → length sigs ≡ length bodies
as_many items n [] [] h = refl
as_many items n [] (body ∷ bodies) h = absurd (false≢true h)
as_many items n (sig ∷ sigs) [] h = absurd (false≢true h)
as_many items n (sig ∷ sigs) (body ∷ bodies) h = ap suc (as_many items (suc n) sigs bodies h.1)

pub built_signed : (text : List ℕ) (done : Elaborated) → IsBuiltOf text done →
    length done.graph.items.bodies ≡ length done.graph.bodies
built_signed text done (program, is, built) =
    ap (λ (items : ItemTable). length items.bodies) built.elaborated.items
    ∙ as_many program.items 0 program.items.bodies program.bodies built.sound.typed.1
    ∙ sym (built.elaborated.count ∙ length-map program.bodies (body_of program.items))
