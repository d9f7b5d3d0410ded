-- When a typed program is well typed: its items, and each of its bodies. The rules are those of typing alone; those of
-- borrows that overlap are not among them.
use Rattle.std.specs.Prelude.{ℕ, nat_le, Bool, true, false, ◌==◌, ◌||◌, not, List, [], ◌∷◌, Option, Some, None, length, suc}
use Rattle.std.specs.List.{find, flat_map}
use Rattle.mir_ty.specs.declared.def.ClosureDef.{ClosureDef}
use Rattle.mir_ty.specs.declared.def.Sig.{Sig}
use Rattle.mir_ty.specs.declared.ty.TyId.{TyId}
use Rattle.mir_ty.specs.ItemTable.{ItemTable}
use Rattle.typed_tree.specs.Nodes.{number_of, numbers_of}
use Rattle.typed_tree.specs.Tree.{Form, Wildcard, Binding, Block, ParamTree, BodyTree, ProgramTree}
use Rattle.well_typed.specs.Claim.{Claim, Holds, is_so, fact, ◌&◌, nothing}
use Rattle.well_typed.specs.Items.{are_items}
use Rattle.well_typed.specs.Names.{are_distinct, do_rise}
use Rattle.well_typed.specs.Nodes.{typed}
use Rattle.well_typed.specs.Patterns.{pattern, names_of, entries_of}
use Rattle.well_typed.specs.Places.{InScope, Context, Wanted, form_of}
use Rattle.well_typed.specs.Types.{is_same, is_reference}

abbrev is_name_or_wildcard : Form → Bool
is_name_or_wildcard Wildcard = true
is_name_or_wildcard (Binding name) = true
is_name_or_wildcard _ = false

abbrev is_name : Form → Bool
is_name (Binding name) = true
is_name _ = false

abbrev is_block : Form → Bool
is_block (Block statements tail) = true
is_block _ = false

-- a parameter, of the type that the head of its body gives; a reference has a name or `_` for its pattern
abbrev pub is_param : ItemTable → TyId → ParamTree → Claim
is_param items ty param =
    fact (is_same param.ty ty) &
    pattern items (record { takes_all = true; may_move = true }) param.ty param.pattern &
    fact (is_name_or_wildcard (form_of param.pattern) || not (is_reference items param.ty))

abbrev pub are_params : ItemTable → List TyId → List ParamTree → Claim
are_params items [] [] = nothing
are_params items (ty ∷ tys) (param ∷ params) = is_param items ty param & are_params items tys params
are_params items tys params = fact false

abbrev param_names : List ParamTree → List (List ℕ)
param_names params = flat_map (λ p. names_of p.pattern) params

abbrev param_entries : List ParamTree → List InScope
param_entries params = flat_map (λ p. entries_of p.pattern) params

-- the closure of which a body is the inside
abbrev pub closure_with : ItemTable → ℕ → Option ClosureDef
closure_with items body = find (λ def. def.body == body) items.closures

abbrev closure_value : ParamTree → InScope
closure_value param = record { key = number_of param.pattern; ty = param.ty; is_in_guard = false }

abbrev around : ItemTable → Option InScope → List ParamTree → TyId → Context
around items closure params answer =
    record { items = items; entries = param_entries params; closure = closure; loops = []; answer = answer }

-- in the body of a closure the first parameter is the closure's value, whose parts the captured names are
abbrev pub is_inside : ItemTable → Option ClosureDef → BodyTree → List ParamTree → Claim
is_inside items None body params =
    typed (around items None params body.answer) (Wanted body.answer) body.block & fact (are_distinct (param_names
    params))
is_inside items (Some def) body [] = fact false
is_inside items (Some def) body (self ∷ params) =
    typed (around items (Some (closure_value self)) params body.answer) (Wanted body.answer) body.block &
    fact (is_name (form_of self.pattern)) & fact (are_distinct (param_names params))

abbrev pub is_body : ItemTable → ℕ → Sig → BodyTree → Claim
is_body items n sig body =
    fact (body.number == n) & fact (is_same body.answer sig.result) & are_params items sig.params body.params &
    fact (do_rise (numbers_of body)) & fact (nat_le (length (numbers_of body)) 2048) &
    fact (is_block (form_of body.block)) & is_inside items (closure_with items n) body body.params

-- one body a head, in number order
abbrev pub are_bodies : ItemTable → ℕ → List Sig → List BodyTree → Claim
are_bodies items n [] [] = nothing
are_bodies items n (sig ∷ sigs) (body ∷ bodies) = is_body items n sig body & are_bodies items (suc n) sigs bodies
are_bodies items n sigs bodies = fact false

abbrev pub program : ProgramTree → Claim
program p = are_items p.items & are_bodies p.items 0 p.items.bodies p.bodies

abbrev pub WellTyped : ProgramTree → Type 0
WellTyped p = Holds (program p)

abbrev pub is_well_typed : ProgramTree → Bool
is_well_typed p = is_so (program p)
