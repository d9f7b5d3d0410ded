-- Parameters one after the other: their names, and behind them the entries.
use Rattle.std.proofs.Common.{◌≡◌, ◌∷◌, List, [], refl, ap}
use Rattle.mir_ty.specs.ItemTable.{ItemTable}
use Rattle.src_meaning.specs.Shape.{shape}
use Rattle.src_meaning.specs.Locals.OfBody.{param_key}
use Rattle.store_model.specs.Places.Place.{whole_local}
use Rattle.typed_tree.specs.Tree.{ParamTree}
use Rattle.lower_code.specs.Code.{Innermost, Enters}
use Rattle.lower_code.specs.Forms.{names_of_param, params_entered}
use Rattle.lower_code.specs.Ops.{CodeWord, onto, params_onto, Then, From}

module _ (items : ItemTable) where
  -- parameters: the names of each, and behind them the entries
  abbrev pub names_onto : List ParamTree → List CodeWord → List CodeWord
  names_onto [] before = before
  names_onto (param ∷ params) before =
      names_onto params
      (onto (names_of_param items (shape items param.pattern).is_binding ((shape items param.pattern).bindings (whole_local (param_key param)))) before)

  pub params_are : (params : List ParamTree) (before : List CodeWord) → params_onto params (names_onto params before) ≡ onto (params_entered items params) before
  params_are [] before = refl
  params_are (param ∷ params) before =
      ap (λ inner. From (Enters Innermost (record { key = param_key param; ty = param.ty })) ∷ Then ∷ inner)
      (params_are params (onto (names_of_param items (shape items param.pattern).is_binding ((shape items param.pattern).bindings (whole_local (param_key param)))) before))
