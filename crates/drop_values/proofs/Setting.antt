-- The statement that sets or clears a flag does so, and nothing else.
use Rattle.std.proofs.Common.{◌≡◌, ℕ, suc, Bool, false, length, Option, Some, None, ap, ◌∙◌}
use Rattle.std.specs.Prelude.{option_and_then}
use Rattle.mir_ty.specs.declared.ty.Ty.{Ty}
use Rattle.mir_ty.specs.declared.ty.TyId.{TyId}
use Rattle.mir_ty.specs.ItemTable.{ItemTable, type_at}
use Rattle.store_model.specs.Concrete.Effects.{never_at, put, act}
use Rattle.store_model.specs.Concrete.Location.{Setting}
use Rattle.store_model.specs.Concrete.State.{State, Bodies}
use Rattle.store_model.specs.Effects as effects
use Rattle.store_model.specs.Effects.{Stuck, Go, halting_if}
use Rattle.store_model.specs.Places.Place.{whole_local}
use Rattle.store_model.specs.Places.TypeForms.{is_never}
use Rattle.store_model.specs.Values.Datum.{Truth}
use Rattle.drop_values.specs.Like.{body_at, Flags, Like, strict_setting, Extends}
use Rattle.drop_values.proofs.Actions.{youngest_is}
use Rattle.drop_values.proofs.Flags.{with_flag, set-Like}

module _ (items : ItemTable) (local_ty local_ty' : (body local : ℕ) → Option TyId)
    (extends : Extends local_ty local_ty') (number depth : ℕ) where
  abbrev strict : Setting
  strict = strict_setting items local_ty'

  abbrev pub set_flag : (node flag : ℕ) → Bool → effects.Action
  set_flag node flag truth = effects.Put (record { node = node; place = whole_local flag }) (effects.Truth truth)

  pub set-acts : (run' : Bodies) (flags : Flags) (node flag : ℕ) (truth : Bool) (w w' : State) →
      Like local_ty flags w w' → length w.activations ≡ suc depth → body_at depth w ≡ Some number →
      local_ty number flag ≡ None → (id : TyId) → local_ty' number flag ≡ Some id → type_at items id ≡ Some Ty.Bool →
      (v' : State) × (act strict run' (set_flag node flag truth) w' ≡ Go v')
      × Like local_ty (with_flag flags depth flag (Truth truth)) w v'
  set-acts run' flags node flag truth w w' like deep is none id some bool_is =
      let s = set-Like items local_ty local_ty' flags number depth flag truth w w' like deep is none id some node in (
        s.0,
        ap (λ b. halting_if b Stuck (put strict (record { node = node; place = whole_local flag }) (Truth truth) w'))
            not_never ∙ ap (halting_if false Stuck) s.1,
        s.2,
      )
    where
      not_never : never_at strict w' (record { node = node; place = whole_local flag }) ≡ false
      not_never =
          ap (λ o. is_never (option_and_then (type_at items)
          (option_and_then (λ id. Some id) (option_and_then (λ body. local_ty' body flag) o))))
          (youngest_is items local_ty local_ty' extends flags depth number w' (like.count ∙ deep)
          (like.bodies depth ∙ is))
          ∙ ap (λ o. is_never (option_and_then (type_at items) (option_and_then (λ id. Some id) o))) some
          ∙ ap is_never bool_is
