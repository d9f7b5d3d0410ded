-- What each effect keeps, the run of a body keeps.
use Rattle.std.proofs.Common.{ℕ, Bool, true, false, List, [], ◌∷◌}
use Rattle.mir_ty.specs.ItemTable.{ItemTable}
use Rattle.store_model.specs.Effects.{EffectSite, Unwinding, Halt, Stuck, Out, Go, Unwind, Halts, Effects, aborting}
use Rattle.store_model.specs.Places.Place.{whole_local}
use Rattle.typed_tree.specs.Tree.{ParamTree, BodyTree}
use Rattle.src_meaning.specs.Evaluation.{meaning}
use Rattle.src_meaning.specs.Forms.{Into, site_of_key}
use Rattle.src_meaning.specs.Locals.OfBody.{param_key, answer_key}
use Rattle.src_meaning.specs.Programs as programs
use Rattle.src_meaning.specs.Programs.{activation, around_body, answer_scope, entire_function, params_entered, names_of_param}
use Rattle.src_meaning.specs.Scopes.{Entry, innermost, with_entry, all_entries, needing_drop, Value, Breaks, Continues, Returns, Panics, Run, At, Over, Does, on_value, entry_site}
use Rattle.src_meaning.specs.Shape.{BoundName, shape}
use Rattle.soundness_values.proofs.Leaving.{ShownOut}
use Rattle.soundness_cells.proofs.PassKept as rules
use Rattle.soundness_cells.proofs.PassKept.{KeepsCalm}
use Rattle.soundness_cells.proofs.PassKeptForms.{node_keeps}

module _ {V : Type 0} (items : ItemTable) (q : Effects V) (over : Halt → V → Type 0) (calm : V → Type 0)
    (waits : EffectSite → V → Type 0) (keeps : KeepsCalm q over calm waits) (fuel : ℕ)
    (gives : (site : EffectSite) (v : V) → calm v → ShownOut over calm calm (q.give site v))
    (stuck : (v : V) → over Stuck v) where
  abbrev Kept : Does V → Type 0
  Kept = rules.Kept items q over calm waits keeps

  abbrev Calm : Run V → Type 0
  Calm = rules.Calm items q over calm waits keeps

  names_kept : (b : Bool) (bounds : List BoundName) → Kept (names_of_param items q fuel b bounds)
  names_kept true bounds S v c = c
  names_kept false bounds S v c = rules.bind_kept items q over calm waits keeps innermost bounds S v c

  params_kept : (params : List ParamTree) → Kept (params_entered items q fuel params)
  params_kept [] S v c = c
  params_kept (param ∷ params) S v c = rules.then_kept items q over calm waits keeps
      (names_of_param items q fuel (shape items param.pattern).is_binding
      ((shape items param.pattern).bindings (whole_local (param_key param)))
      (innermost (with_entry (record { key = param_key param; ty = param.ty })) S) v)
      (params_entered items q fuel params)
      (names_kept (shape items param.pattern).is_binding
      ((shape items param.pattern).bindings (whole_local (param_key param)))
      (innermost (with_entry (record { key = param_key param; ty = param.ty })) S) v c)
      (params_kept params)

  entire_kept : (body : BodyTree) → Kept (entire_function items q fuel body)
  entire_kept body = rules.scope_kept items q over calm waits keeps (answer_key body) true
      (λ S v. on_value (params_entered items q fuel body.params S v) evaluate)
      (rules.both_kept items q over calm waits keeps (params_entered items q fuel body.params) evaluate
      (params_kept body.params)
      ((node_keeps items q over calm waits keeps fuel body.block).evaluates (around_body items q fuel body) false
      (Into (answer_key body))))
    where
      evaluate : Does V
      evaluate = (meaning items q fuel body.block).evaluate (around_body items q fuel body) false (Into (answer_key
          body))

  unwinds_kept : (es : List Entry) (v : V) → calm v → ShownOut over calm calm (programs.unwinds items q fuel es v)
  unwinds_kept [] v c = c
  unwinds_kept (e ∷ es) v c = by (q.drop Unwinding (entry_site e) v) (keeps.drops Unwinding e v c)
      (λ w d. unwinds_kept es w d)
    where
      by : (o : Out V) → ShownOut over calm calm o →
          ((w : V) → calm w → ShownOut over calm calm (programs.unwinds items q fuel es w)) →
          ShownOut over calm calm (aborting o (programs.unwinds items q fuel es))
      by (Go w) h later = later w h
      by (Unwind w) h later = keeps.aborts w
      by (Halts halt w) h later = h

  ended : (answer : ℕ) (r : Run V) → Calm r → ShownOut over calm calm (programs.body_end items q fuel answer r)
  ended answer (At Value S w) h = gives (site_of_key answer) w h
  ended answer (At (Breaks loop) S w) h = stuck w
  ended answer (At (Continues loop) S w) h = stuck w
  ended answer (At Returns S w) h = gives (site_of_key answer) w h
  ended answer (At Panics S w) h = unwinds_kept (needing_drop items (all_entries S)) w h
  ended answer (Over halt w) h = h

  pub body_keeps : (body : BodyTree) (v : V) → calm v → ShownOut over calm calm (activation items q fuel body v)
  body_keeps body v c = ended (answer_key body)
      (entire_function items q fuel body (answer_scope items q fuel body) v)
      (entire_kept body (answer_scope items q fuel body) v c)
