-- Names one after the other: what they take, and behind it the entries that they are.
use Rattle.std.proofs.Common.{◌≡◌, ◌∷◌, ℕ, Bool, true, false, List, [], refl, ap}
use Rattle.mir_ty.specs.Facts.{needs_drop}
use Rattle.mir_ty.specs.ItemTable.{ItemTable}
use Rattle.src_meaning.specs.Shape.{BoundName, shape}
use Rattle.src_meaning.specs.Locals.OfBody.{param_key}
use Rattle.src_meaning.specs.Scopes.{Entry}
use Rattle.store_model.specs.Places.Place.{whole_local}
use Rattle.typed_tree.specs.Tree.{ParamTree}
use Rattle.lower_code.specs.Code.{ScopeAt, Innermost, Enters, Code}
use Rattle.src_meaning.specs.Forms.{bound_entry}
use Rattle.lower_code.specs.Forms.{takes, bind, emptied, declared, names_of_param, params_entered, in_own_scope, from_pending}
use Rattle.lower_code.specs.Ops.{CodeWord, onto, entered_onto, params_onto, own_scope_onto, pending_onto, Then, From}

abbrev pub taken_onto : List BoundName → List CodeWord → List CodeWord
taken_onto [] before = before
taken_onto (b ∷ bounds) before = taken_onto bounds (onto (takes b) before)

pub bound_onto : (at : ScopeAt) (bounds : List BoundName) (before : List CodeWord) → entered_onto at bounds (taken_onto bounds before) ≡ onto (bind at bounds) before
bound_onto at [] before = refl
bound_onto at (b ∷ bounds) before =
    ap (λ inner. Then ∷ From (Enters at (bound_entry b)) ∷ inner) (bound_onto at bounds (onto (takes b) before))

module _ (items : ItemTable) where
  abbrev pub emptied_onto : List BoundName → List CodeWord → List CodeWord
  emptied_onto [] before = before
  emptied_onto (b ∷ bounds) before = emptied_onto bounds (onto (emptied (needs_drop items b.ty) b.key) before)

  pub declared_onto : (bounds : List BoundName) (before : List CodeWord) → entered_onto Innermost bounds (emptied_onto bounds before) ≡ onto (declared items bounds) before
  declared_onto [] before = refl
  declared_onto (b ∷ bounds) before =
      ap (λ inner. Then ∷ From (Enters Innermost (bound_entry b)) ∷ inner) (declared_onto bounds (onto (emptied (needs_drop items b.ty) b.key) before))

  -- parameters: the names of each, and behind them the entries
  abbrev pub names_onto : List ParamTree → List CodeWord → List CodeWord
  names_onto [] before = before
  names_onto (param ∷ params) before =
      names_onto params
      (onto (names_of_param items (shape items param.pattern).is_binding ((shape items param.pattern).bindings (whole_local (param_key param)))) before)

  pub params_are : (params : List ParamTree) (before : List CodeWord) → params_onto params (names_onto params before) ≡ onto (params_entered items params) before
  params_are [] before = refl
  params_are (param ∷ params) before =
      ap (λ inner. From (Enters Innermost (record { key = param_key param; ty = param.ty })) ∷ Then ∷ inner)
      (params_are params (onto (names_of_param items (shape items param.pattern).is_binding ((shape items param.pattern).bindings (whole_local (param_key param)))) before))

-- the ways in which code is taken
pub in_own : (id : ℕ) (own : Bool) (code : Code) (before : List CodeWord) → onto (in_own_scope id own code) before ≡ own_scope_onto id own (onto code before)
in_own id true code before = refl
in_own id false code before = refl

pub pending : (pends : Bool) (at : ScopeAt) (e : Entry) (code : Code) (before : List CodeWord) → onto (from_pending pends at e code) before ≡ pending_onto pends at e (onto code before)
pending true at e code before = refl
pending false at e code before = refl
