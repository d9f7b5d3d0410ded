-- What is kept by each effect of which something is known is kept by the run of a body, if it is known of each call,
-- each borrow and each assignment of its block; whatever places are changed.
use Rattle.std.proofs.Common.{◌≡◌, ℕ, ◌||◌, Bool, true, false, List, [], ◌∷◌, refl, ap}
use Rattle.std.proofs.lemmas.Bool.Decides.{Decides-eqb}
use Rattle.typed_tree.specs.Nodes.{number_of}
use Rattle.std.proofs.lemmas.Bool.{false≢true}
use Rattle.mir_ty.specs.ItemTable.{ItemTable}
use Rattle.store_model.specs.Effects as effects
use Rattle.store_model.specs.Effects.{EffectSite, Operand, Action, Unwinding, Halt, Out, Go, Unwind, Halts, Effects, aborting}
use Rattle.store_model.specs.Places.Place.{Place, whole_local}
use Rattle.typed_tree.specs.Tree.{Form, ParamTree, BodyTree}
use Rattle.src_meaning.specs.Forms.{Into, site_of_key}
use Rattle.src_meaning.specs.Locals.OfBody.{param_key, answer_key}
use Rattle.src_meaning.specs.Programs as programs
use Rattle.src_meaning.specs.Programs.{activation, around_body, answer_scope, entire_function, params_entered, names_of_param}
use Rattle.src_meaning.specs.Scopes.{Entry, Scopes, innermost, with_entry, all_entries, needing_drop, Value, Breaks, Continues, Returns, Panics, Run, At, Over, Does, entry_site}
use Rattle.src_meaning.specs.Shape.{Aliases, BoundName, operand_of_bound, shape}
use Rattle.soundness_values.proofs.Leaving.{ShownOut}
use Rattle.soundness_frame.proofs.PassFrame as frame
use Rattle.soundness_frame.proofs.PassFrameActs.{Takes, BoundsMay, KeepingSo}
use Rattle.soundness_frame.proofs.PassFrameOperands as pass_frame_operands
use Rattle.soundness_frame.proofs.PassFrameForms as forms
use Rattle.soundness_frame.proofs.PassFrameHeads.{Telling, TellingCalls}
use Rattle.soundness_frame.proofs.PassWithin.{AroundSo, Within, is_among, Outer, passing, outermost}

-- every place may be changed
abbrev pub any_place : Place → Type 0
any_place place = Unit {0}

any_taken : (operand : Operand) → Takes any_place operand
any_taken (effects.Copied site) = tt
any_taken (effects.Moved site) = tt
any_taken (effects.Number value kind) = tt
any_taken (effects.Truth value) = tt
any_taken effects.UnitValue = tt

any_bounds : (bounds : List BoundName) → BoundsMay any_place bounds
any_bounds [] = tt
any_bounds (b ∷ bounds) = ((tt, any_taken (operand_of_bound b)), any_bounds bounds)

module _ {V : Type 0} (items : ItemTable) (q : Effects V) (over : Halt → V → Type 0) (Does_ : Action → Type 0)
    (Drops : EffectSite → Type 0) (Coerce : Place → Type 0) (I : V → Type 0)
    (keeping : KeepingSo q over Does_ Drops any_place Coerce any_place I)
    (Says : Aliases → Outer → ℕ → Form → Type 0) (fuel : ℕ) (telling : Telling items Does_ Drops Says)
    (at_calls : pass_frame_operands.AtCalls items q over Does_ Drops any_place Coerce any_place I keeping Says fuel)
    (gives : (site : EffectSite) (v : V) → I v → ShownOut over I I (q.give site v)) where
  abbrev Keeps : Does V → Type 0
  Keeps = frame.Keeps items q over Does_ Drops any_place Coerce any_place I keeping

  names_kept : (b : Bool) (bounds : List BoundName) → Keeps (names_of_param items q fuel b bounds)
  names_kept true bounds = frame.at_exit items q over Does_ Drops any_place Coerce any_place I keeping Value
  names_kept false bounds = frame.bind_kept items q over Does_ Drops any_place Coerce any_place I keeping innermost
      (frame.fine_innermost items q over Does_ Drops any_place Coerce any_place I keeping) bounds (any_bounds bounds)

  params_kept : (params : List ParamTree) → Keeps (params_entered items q fuel params)
  params_kept [] = frame.at_exit items q over Does_ Drops any_place Coerce any_place I keeping Value
  params_kept (param ∷ params) = frame.one_then items q over Does_ Drops any_place Coerce any_place I keeping _ _
      (frame.changes_kept items q over Does_ Drops any_place Coerce any_place I keeping (innermost (with_entry e))
      (frame.fine_innermost items q over Does_ Drops any_place Coerce any_place I keeping (with_entry e)
      (frame.entered items q over Does_ Drops any_place Coerce any_place I keeping e tt)))
      (frame.one_then items q over Does_ Drops any_place Coerce any_place I keeping _ _
      (names_kept (shape items param.pattern).is_binding
      ((shape items param.pattern).bindings (whole_local (param_key param)))) (params_kept params))
    where
      e : Entry
      e = record { key = param_key param; ty = param.ty }

  own_in : (key : ℕ) → is_among key (key ∷ []) ≡ true
  own_in key = ap (λ b. b || false) ((Decides-eqb key key).1 refl)

  around_any : (body : BodyTree) →
      AroundSo any_place Coerce (around_body items q fuel body) (passing (number_of body.block) outermost)
  around_any body = (
    (tt, λ loop e. absurd (false≢true e)),
    (own_in (answer_key body), λ loop e. absurd (false≢true e)),
  )

  none_looked_at : (S : Scopes) → frame.Fine items q over Does_ Drops any_place Coerce any_place I keeping S 0
  none_looked_at [] = tt
  none_looked_at (s ∷ S) = tt

  unwinds_kept : (es : List Entry) (v : V) → I v → ShownOut over I I (programs.unwinds items q fuel es v)
  unwinds_kept [] v i = i
  unwinds_kept (e ∷ es) v i = by (q.drop Unwinding (entry_site e) v)
      (keeping.drops Unwinding (entry_site e) v tt (keeping.whole e.key) i) (λ w j. unwinds_kept es w j)
    where
      by : (o : Out V) → ShownOut over I I o →
          ((w : V) → I w → ShownOut over I I (programs.unwinds items q fuel es w)) →
          ShownOut over I I (aborting o (programs.unwinds items q fuel es))
      by (Go w) h later = later w h
      by (Unwind w) h later = keeping.aborts w h
      by (Halts halt w) h later = h

  ended : (answer : ℕ) (r : Run V) → frame.KeptAt items q over Does_ Drops any_place Coerce any_place I keeping 0 r →
      ShownOut over I I (programs.body_end items q fuel answer r)
  ended answer (At Value S w) h = gives (site_of_key answer) w h.1
  ended answer (At (Breaks loop) S w) h = keeping.stuck w h.1
  ended answer (At (Continues loop) S w) h = keeping.stuck w h.1
  ended answer (At Returns S w) h = gives (site_of_key answer) w h.1
  ended answer (At Panics S w) h = unwinds_kept (needing_drop items (all_entries S)) w h.1
  ended answer (Over halt w) h = h

  module _ (body : BodyTree) (within : Within items any_place Says [] outermost body.block) where
    entire_kept : Keeps (entire_function items q fuel body)
    entire_kept = frame.in_scope_kept items q over Does_ Drops any_place Coerce any_place I keeping
        (answer_key body) true _
        (frame.one_then items q over Does_ Drops any_place Coerce any_place I keeping _ _ (params_kept body.params)
        (forms.evaluated_first items q over Does_ Drops any_place Coerce any_place I keeping Says fuel telling at_calls
        body.block
        (around_body items q fuel body) outermost (around_any body) within false
        (Into (answer_key body)) ((tt, own_in (answer_key body)), (λ b. refl, λ h. tt))))

    pub body_kept_by : (v : V) → I v → ShownOut over I I (activation items q fuel body v)
    body_kept_by v i = ended (answer_key body) (entire_function items q fuel body (answer_scope items q fuel body) v)
        (entire_kept.kept 0 (answer_scope items q fuel body) v (none_looked_at (answer_scope items q fuel body)) i)

-- the same, of calls by what the text tells alone
pub body_kept : {V : Type 0} (items : ItemTable) (q : Effects V) (over : Halt → V → Type 0) (Does_ : Action → Type 0)
    (Drops : EffectSite → Type 0) (Coerce : Place → Type 0) (I : V → Type 0)
    (keeping : KeepingSo q over Does_ Drops any_place Coerce any_place I)
    (Says : Aliases → Outer → ℕ → Form → Type 0) (fuel : ℕ) → Telling items Does_ Drops Says →
    TellingCalls Does_ Says → ((site : EffectSite) (v : V) → I v → ShownOut over I I (q.give site v)) →
    (body : BodyTree) → Within items any_place Says [] outermost body.block → (v : V) → I v →
    ShownOut over I I (activation items q fuel body v)
body_kept items q over Does_ Drops Coerce I keeping Says fuel telling known gives body within v i =
    body_kept_by items q over Does_ Drops Coerce I keeping Says fuel telling
    (pass_frame_operands.by_telling items q over Does_ Drops any_place Coerce any_place I keeping Says fuel known) gives body within
    v i
