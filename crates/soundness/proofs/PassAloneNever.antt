-- Where the local of a node is of type `!`, the node has no value, if it is the use of a place or a call: nothing is
-- ever
-- stored there.
use Rattle.std.proofs.Common.{◌≡◌, ℕ, ◌||◌, Bool, true, false, List, [], ◌∷◌, Option}
use Rattle.std.proofs.lemmas.Bool.{false≢true}
use Rattle.mir_base.specs.declared.place_in_text.Pos.{Pos}
use Rattle.mir_ty.specs.declared.ty.TyId.{TyId}
use Rattle.mir_ty.specs.ItemTable.{ItemTable}
use Rattle.store_model.specs.Abstract.Effects.{AbstractState, abstract_effects, acted_on, never_at}
use Rattle.store_model.specs.Effects as effects
use Rattle.store_model.specs.Effects.{EffectSite, Operand, Action, Unreachable, Out, Go, Unwind, Halts, Mode, Normal, Unwinding, Effects, halting_if, stores_where}
use Rattle.typed_tree.specs.declared.node.Use.{Use}
use Rattle.typed_tree.specs.Tree as tree
use Rattle.typed_tree.specs.Tree.{Node, node, Form, Nodes, BodyTree}
use Rattle.src_meaning.specs.Evaluation as evaluation
use Rattle.src_meaning.specs.Evaluation.{meaning, meanings, meaning_of, to_own_key}
use Rattle.src_meaning.specs.Forms as forms
use Rattle.src_meaning.specs.Forms.{Into, LoopsAndGuards, Meaning, is_never, site_in, all_moved}
use Rattle.src_meaning.specs.Locals.Effects.{action_at}
use Rattle.src_meaning.specs.Locals.OfBody.{is_place_form, local_ty, local_of}
use Rattle.src_meaning.specs.Scopes.{Entry, Scopes, with_scope, Exit, Value, Breaks, Continues, Returns, Panics, Run, At, Over, Does, on_value, in_scopes, leave, drop_normally, drop_unwinding, dropped_normally, dropped_unwinding, entry_site}
use Rattle.src_meaning.specs.Shape.{NodeHead, Shape, head, shape_of, operand_at}
use Rattle.soundness_values.proofs.AlsoTests.{Also, checks_also}
use Rattle.soundness_values.proofs.Checked.{Checking}
use Rattle.soundness_values.proofs.CheckedBodies.{checks_of}
use Rattle.soundness_values.proofs.Facts.{Facts}
use Rattle.soundness.proofs.PassAloneRun.{run}
use Rattle.soundness.proofs.PassBorrowKnown.{facts_went, unmarked_so}
use Rattle.soundness_frame.proofs.PassFrameCalls.{Ends, ends_then}

abbrev is_call : Form → Bool
is_call (tree.Call body args) = true
is_call (tree.MethodCall body receiver args) = true
is_call (tree.VirtualCall trait_no method receiver args) = true
is_call (tree.ClosureCall body callee args) = true
is_call form = false

-- what may be of type `!` and have a cell
abbrev pub is_use_or_call : Form → Bool
is_use_or_call form = is_place_form form || is_call form

never_went : {W : Type 0} (b : Bool) (o : Out W) (u : W) → b ≡ true → halting_if b Unreachable o ≡ Go u → ⊥
never_went true (Go w) u n e = let never : ⊥ = cc in never
never_went true (Unwind w) u n e = let never : ⊥ = cc in never
never_went true (Halts halt w) u n e = let never : ⊥ = cc in never
never_went false o u n e = false≢true n

-- a local of type `!`
abbrev pub never_local : ItemTable → BodyTree → ℕ → Bool
never_local items body l =
    never_at items (local_ty items body) (record { node = 0; place = record { local = l; steps = [] } })

module _ (items : ItemTable) (body : BodyTree) (also : Also) (fuel : ℕ) where
  abbrev V : Type 0
  V = Checking Facts

  abbrev local : ℕ → ℕ
  local = local_of items body

  abbrev q : Effects V
  q = run items body also

  abbrev M : Node → Meaning V
  M = meaning items q fuel

  abbrev Ms : Nodes → List (Meaning V)
  Ms = meanings items q fuel

  abbrev Of : Form → ℕ → TyId → Option Use → Meaning V
  Of form id ty by = meaning_of items q fuel form (head id ty by) (shape_of items form (head id ty by))

  -- a run without a value
  abbrev NoValue : Run V → Type 0
  NoValue = Ends (λ w. ⊥)

  any_end : (r : Run V) → Ends (λ (w : V). Unit {0}) r
  any_end (At Value S v) = tt
  any_end (At (Breaks loop) S v) = tt
  any_end (At (Continues loop) S v) = tt
  any_end (At Returns S v) = tt
  any_end (At Panics S v) = tt
  any_end (Over halt v) = tt

  -- ---- nothing is stored there

  never_act : (action : Action) (v u : V) →
      stores_where (never_at items (local_ty items body)) (action_at local action) ≡ true → q.act action v ≡ Go u → ⊥
  never_act action v u n e =
      let m = unmarked_so _ v u _ e in
      let f = facts_went _ _ ((abstract_effects items (local_ty items body)).act (action_at local action) v.free) u
      m.1 in
      never_went (stores_where (never_at items (local_ty items body)) (action_at local action))
      (acted_on items (local_ty items body) (action_at local action) v.free) u.free n f.0

  acts_never : (action : Action) →
      stores_where (never_at items (local_ty items body)) (action_at local action) ≡ true → (S : Scopes) (v : V) →
      NoValue (forms.acts items q action S v)
  acts_never action n S v = by (q.act action v) (λ u e. never_act action v u n e)
    where
      by : (o : Out V) → ((u : V) → o ≡ Go u → ⊥) → NoValue (in_scopes S o)
      by (Go u) f = f u Rattle.std.proofs.Common.refl
      by (Unwind u) f = tt
      by (Halts halt u) f = tt

  -- ---- scopes that are left

  unwinding_never : (es : List Entry) (S : Scopes) (v : V) → NoValue (drop_unwinding items q es S v)
  unwinding_never [] S v = tt
  unwinding_never (e ∷ es) S v = by (q.drop Unwinding (entry_site e) v) (λ w. unwinding_never es S w)
    where
      by : (o : Out V) → ((w : V) → NoValue (drop_unwinding items q es S w)) →
          NoValue (dropped_unwinding items q o (drop_unwinding items q es S))
      by (Go w) later = later w
      by (Unwind w) later = tt
      by (Halts halt w) later = tt

  -- an exit without a value
  abbrev Other : Exit → Type 0
  Other exit = (S : Scopes) (v : V) → NoValue (At exit S v)

  normally_never : (exit : Exit) → Other exit → (es : List Entry) (S : Scopes) (v : V) →
      NoValue (drop_normally items q exit es S v)
  normally_never exit f [] S v = f S v
  normally_never exit f (e ∷ es) S v = by (q.drop Normal (entry_site e) v) (λ w. normally_never exit f es S w)
    where
      by : (o : Out V) → ((w : V) → NoValue (drop_normally items q exit es S w)) →
          NoValue (dropped_normally items q o (drop_normally items q exit es S) (drop_unwinding items q es S))
      by (Go w) later = later w
      by (Unwind w) later = unwinding_never es S w
      by (Halts halt w) later = tt

  leave_never : (r : Run V) → NoValue r → NoValue (leave items q r)
  leave_never (At Value S v) n = absurd n
  leave_never (At (Breaks loop) [] v) n = tt
  leave_never (At (Breaks loop) (s ∷ S) v) n = normally_never (Breaks loop) (λ T w. tt) _ S v
  leave_never (At (Continues loop) [] v) n = tt
  leave_never (At (Continues loop) (s ∷ S) v) n = normally_never (Continues loop) (λ T w. tt) _ S v
  leave_never (At Returns [] v) n = tt
  leave_never (At Returns (s ∷ S) v) n = normally_never Returns (λ T w. tt) _ S v
  leave_never (At Panics [] v) n = tt
  leave_never (At Panics (s ∷ S) v) n = unwinding_never _ S v
  leave_never (Over halt v) n = tt

  -- ---- uses of places, and calls

  place_never : (id : ℕ) (ty : TyId) (by : Option Use) (s : Shape) (reach : LoopsAndGuards → Does V) (around :
      LoopsAndGuards) →
      never_local items body (local id) ≡ true → (S : Scopes) (v : V) →
      NoValue ((evaluation.a_place items q fuel (head id ty by) s reach).evaluate around false (Into id) S v)
  place_never id ty by s reach around n S v = of_dest (is_never items ty)
    where
      h : NodeHead
      h = head id ty by

      stored : (T : Scopes) (w : V) →
          NoValue (forms.deliver items q h (λ site. effects.Put site (operand_at h (s.place around.aliases))) (Into
          id) T w)
      stored T w = acts_never (effects.Put (site_in id id) (operand_at h (s.place around.aliases))) n T w

      made : NoValue (forms.use_of_place items q h s reach around false (Into id) S v)
      made = ends_then (λ w. Unit {0}) (λ w. ⊥) (reach around S v) _ (any_end (reach around S v)) (λ T w k. stored T w)

      of_dest : (b : Bool) → NoValue (forms.use_of_place items q h s reach around false (to_own_key b id (Into id)) S v)
      of_dest true = made
      of_dest false = made

  call_never : (id : ℕ) (ty : TyId) (by : Option Use) (s : Shape) (ms : List (Meaning V))
      (action : EffectSite → List Operand → Action) →
      ((args : List Operand) → stores_where (never_at items (local_ty items body))
      (action_at local (action (site_in id id) args)) ≡ true) → (around : LoopsAndGuards) (S : Scopes) (v : V) →
      NoValue ((evaluation.on_all items q fuel (head id ty by) s ms action).evaluate around false (Into id) S v)
  call_never id ty by s ms action n around S v = of_dest (is_never items ty)
    where
      h : NodeHead
      h = head id ty by

      made : NoValue (forms.acting items q h around false ms
          (forms.deliver items q h (λ site. action site (all_moved id ms)) (Into id)) S v)
      made = leave_never _ (ends_then (λ w. Unit {0}) (λ w. ⊥) (forms.operands items q around ms (with_scope id false
          S) v)
          _ (any_end (forms.operands items q around ms (with_scope id false S) v)) (λ T w k.
          ends_then (λ w. Unit {0}) (λ w. ⊥) (forms.take items q (forms.keys_of ms) T w) _
          (any_end (forms.take items q (forms.keys_of ms) T w)) (λ U z k.
          acts_never (action (site_in id id) (all_moved id ms)) (n (all_moved id ms)) U z)))

      of_dest : (b : Bool) → NoValue (forms.acting items q h around false ms
          (forms.deliver items q h (λ site. action site (all_moved id ms)) (to_own_key b id (Into id))) S v)
      of_dest true = made
      of_dest false = made

  pub no_value : (form : Form) (id : ℕ) (at : Pos) (ty : TyId) (by : Option Use) → is_use_or_call form ≡ true →
      never_local items body (local id) ≡ true → (around : LoopsAndGuards) (S : Scopes) (v : V) →
      NoValue ((M (node id at ty by form)).evaluate around false (Into (M (node id at ty by form)).head.id) S v)
  no_value (tree.Variable key) id at ty by m n around S v =
      place_never id ty by (shape_of items (tree.Variable key) (head id ty by)) (Of (tree.Variable key) id ty
      by).reach around n S v
  no_value (tree.Captured closure part name) id at ty by m n around S v =
      place_never id ty by (shape_of items (tree.Captured closure part name) (head id ty by)) (Of (tree.Captured
      closure part name) id ty by).reach around n S v
  no_value (tree.Field base part) id at ty by m n around S v =
      place_never id ty by (shape_of items (tree.Field base part) (head id ty by)) (Of (tree.Field base part) id ty
      by).reach around n S v
  no_value (tree.Index base index count) id at ty by m n around S v =
      place_never id ty by (shape_of items (tree.Index base index count) (head id ty by)) (Of (tree.Index base index
      count) id ty by).reach around n S v
  no_value (tree.Deref base) id at ty by m n around S v =
      place_never id ty by (shape_of items (tree.Deref base) (head id ty by)) (Of (tree.Deref base) id ty by).reach
      around n S v
  no_value (tree.Call callee args) id at ty by m n around S v =
      call_never id ty by (shape_of items (tree.Call callee args) (head id ty by)) (Ms args) (λ site. effects.Call
      site callee) (λ l. n) around S v
  no_value (tree.MethodCall callee receiver args) id at ty by m n around S v =
      call_never id ty by (shape_of items (tree.MethodCall callee receiver args) (head id ty by)) (M receiver ∷ Ms
      args) (λ site. effects.Call site callee) (λ l. n) around S v
  no_value (tree.VirtualCall trait_no method receiver args) id at ty by m n around S v =
      call_never id ty by (shape_of items (tree.VirtualCall trait_no method receiver args) (head id ty by)) (M
      receiver ∷ Ms args) (λ site. effects.CallVirtual site trait_no method) (λ l. n) around S v
  no_value (tree.ClosureCall callee value args) id at ty by m n around S v =
      call_never id ty by (shape_of items (tree.ClosureCall callee value args) (head id ty by)) (M value ∷ Ms args)
      (λ site. effects.Call site callee) (λ l. n) around S v
  no_value form id at ty by m n around S v = absurd (false≢true m)
