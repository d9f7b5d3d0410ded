-- A terminator that goes on where it did is the same one.
use Rattle.std.proofs.Common.{◌≡◌, ℕ, List, [], refl, ◌∙◌, ap}
use Rattle.mir_ty.specs.ItemTable.{ItemTable}
use Rattle.cfg_graph.specs.declared.graph.Body.{Body}
use Rattle.cfg_graph.specs.declared.terminator.Term.{Term}
use Rattle.store_model.specs.Places.Place.{Place}
use Rattle.drop_elaborate.specs.Elaborated.{onward_to, next_of}

-- the ways on are looked up in no items and in no body
abbrev no_items : ItemTable
no_items = record { types = []; adts = []; traits = []; impls = []; closures = []; bodies = [] }

abbrev no_body : Body
no_body = record { params = 0; locals = []; blocks = [] }

same : (term : Term) → onward_to no_items no_body [] no_body (next_of no_items no_body [] no_body term) term ≡ term
same (Term.Math to op left right next unwind) = refl
same (Term.Negate to of next unwind) = refl
same (Term.Bounds index count next unwind) = refl
same (Term.Call to callee args next unwind) = refl
same (Term.Virtual to trait_no method args next unwind) = refl
same (Term.Ask to next unwind) = refl
same (Term.Goto n) = refl
same (Term.If on held otherwise) = refl
same (Term.Case on variant held otherwise) = refl
same (Term.DropAt place next unwind) = refl
same (Term.Panic why unwind) = refl
same Term.Return = refl
same Term.Resume = refl

pub is_copy : (term copy : Term) (onward : ℕ) →
    ((items : ItemTable) (body after : Body) (flagged : List Place) → onward ≡ next_of items body flagged after term) →
    ((items : ItemTable) (body after : Body) (flagged : List Place) → copy ≡ onward_to items body flagged after onward term) → copy ≡ term
is_copy term copy onward next is =
    is no_items no_body no_body [] ∙ ap (λ n. onward_to no_items no_body [] no_body n term) (next no_items no_body no_body []) ∙ same term
