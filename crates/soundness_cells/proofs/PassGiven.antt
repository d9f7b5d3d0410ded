-- A checked run that returns has tested its result: it is whole.
use Rattle.std.proofs.Common.{◌≡◌, ℕ, ◌&&◌, not, Bool, true, false, List, [], ◌∷◌, refl, ap, sym, ◌∙◌, subst}
use Rattle.std.proofs.lemmas.Bool.{false≢true}
use Rattle.mir_ty.specs.ItemTable.{ItemTable}
use Rattle.store_model.specs.Abstract.Effects.{AbstractState, abstract_effects, presence}
use Rattle.store_model.specs.Abstract.Presence.{all_present}
use Rattle.store_model.specs.Effects.{Unwinding, Out, Go, Unwind, Halts, Effects, aborting}
use Rattle.typed_tree.specs.Tree.{BodyTree}
use Rattle.src_meaning.specs.Forms.{site_of_key}
use Rattle.src_meaning.specs.Locals.Effects.{at_locals}
use Rattle.src_meaning.specs.Locals.OfBody.{answer_key, local_of, local_ty}
use Rattle.src_meaning.specs.Programs.{activation, body_end, unwinds, entire_function, answer_scope}
use Rattle.src_meaning.specs.Scopes.{Entry, Value, Breaks, Continues, Returns, Panics, Run, At, Over, needing_drop, all_entries, entry_site}
use Rattle.soundness_values.proofs.AlsoTests.{Also, checks_also}
use Rattle.soundness_values.proofs.Checked.{Checking, checked_effects, if_ok}
use Rattle.soundness_values.proofs.CheckedBodies.{checks_of, is_reference_param}
use Rattle.soundness_values.proofs.Checks.{is_none, id_of}
use Rattle.soundness_values.proofs.Facts.{Facts}

module _ {V : Type 0} (items : ItemTable) (q : Effects V) (fuel : ℕ) where
  -- what unwinds does not return
  unwinds_on : (es : List Entry) (w v : V) → unwinds items q fuel es w ≡ Go v → ⊥
  unwinds_on [] w v h = let never : ⊥ = cc in never
  unwinds_on (e ∷ es) w v h = by (q.drop Unwinding (entry_site e) w) h (λ x k. unwinds_on es x v k)
    where
      by : (o : Out V) → aborting o (unwinds items q fuel es) ≡ Go v →
          ((x : V) → unwinds items q fuel es x ≡ Go v → ⊥) → ⊥
      by (Go x) h later = later x h
      by (Unwind x) h later = let never : ⊥ = cc in never
      by (Halts halt x) h later = let never : ⊥ = cc in never

  -- a body that returns gives its result
  pub given : (answer : ℕ) (r : Run V) (v : V) → body_end items q fuel answer r ≡ Go v →
      (w : V) × (q.give (site_of_key answer) w ≡ Go v)
  given answer (At Value S w) v h = (w, h)
  given answer (At (Breaks loop) S w) v h = absurd (let never : ⊥ = cc in never)
  given answer (At (Continues loop) S w) v h = absurd (let never : ⊥ = cc in never)
  given answer (At Returns S w) v h = (w, h)
  given answer (At Panics S w) v h = absurd (unwinds_on (needing_drop items (all_entries S)) w v h)
  given answer (Over halt w) v h = absurd (let never : ⊥ = cc in never)

module _ (items : ItemTable) (body : BodyTree) (also : Also) (fuel : ℕ) where
  abbrev V : Type 0
  V = Checking Facts

  abbrev q : Effects V
  q = at_locals (local_of items body)
      (checked_effects (checks_also also (checks_of items body)) (abstract_effects items (local_ty items body)))

  abbrev answer : ℕ
  answer = local_of items body (answer_key body)

  second : (a b : Bool) → (a && b) ≡ true → b ≡ true
  second true b e = e
  second false b e = absurd (false≢true e)

  first : (a b : Bool) → (a && b) ≡ true → a ≡ true
  first true b e = refl
  first false b e = absurd (false≢true e)

  -- the result of a run that checks is whole where it returns
  pub result_whole : (start v : V) → activation items q fuel body start ≡ Go v →
      all_present (presence (local_of items body (answer_key body)) v.free.cells) ≡ true
  result_whole start v h = let g = given items q fuel (answer_key body) (entire_function items q fuel body (answer_scope items q fuel body) start) v h in
      by g.0 ((checks_also also (checks_of items body)).give_ok
      (record { node = answer_key body; place = record { local = answer; steps = [] } }) g.0.free g.0.facts) refl g.1
    where
      same : (w : V) → Go (record { free = w.free; facts = w.facts; lost = false }) ≡ Go v → w.free ≡ v.free
      same w e = cc

      by : (w : V) (ok : Bool) → (checks_also also (checks_of items body)).give_ok
          (record { node = answer_key body; place = record { local = answer; steps = [] } }) w.free w.facts ≡ ok →
          if_ok ok w (Go (record { free = w.free; facts = w.facts; lost = false })) ≡ Go v →
          all_present (presence (local_of items body (answer_key body)) v.free.cells) ≡ true
      by w false k e = absurd (let never : ⊥ = cc in never)
      by w true k e = subst (λ (f : AbstractState). all_present (presence (local_of items body (answer_key body)) f.cells) ≡ true) (same w e)
          (first (all_present (presence answer w.free.cells)) _
          (second (not (is_reference_param items body answer)) _ (second (is_none w.facts.refilled) _ k)))
