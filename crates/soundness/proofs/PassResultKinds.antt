-- What a form that ends with a whole result needs of its parts, by kinds of forms.
use Rattle.std.proofs.Common.{◌≡◌, inr, ℕ, Bool, true, false, List, [], ◌∷◌, ◌++◌, Option, Some, refl, ap, sym, ◌∙◌, subst}
use Rattle.std.proofs.lemmas.Bool.{false≢true}
use Rattle.mir_ty.specs.declared.ty.TyId.{TyId}
use Rattle.mir_ty.specs.ItemTable.{ItemTable}
use Rattle.store_model.specs.Effects as effects
use Rattle.store_model.specs.Effects.{EffectSite, Action, Effects}
use Rattle.store_model.specs.Places.Place.{Place}
use Rattle.typed_tree.specs.declared.node.Use.{Use}
use Rattle.typed_tree.specs.Nodes.{number_of, nodes_of, nodes_in}
use Rattle.typed_tree.specs.Tree.{Node, node, Form, Nodes, Fields, MaybeNode, BodyTree}
use Rattle.src_meaning.specs.Evaluation as evaluation
use Rattle.src_meaning.specs.Evaluation.{meaning, meanings, fields_of, meaning_if_any, to_own_key}
use Rattle.src_meaning.specs.Forms as forms
use Rattle.src_meaning.specs.Forms.{Destination, Into, LoopsAndGuards, Meaning, moved, is_never}
use Rattle.src_meaning.specs.Locals.OfBody.{cells}
use Rattle.src_meaning.specs.Scopes.{Entry, Value, Breaks, Continues, Returns, Panics, Scopes, Run, At, Over, Does}
use Rattle.src_meaning.specs.Shape.{NodeHead, head, Shape, BoundName, shape, shape_of, operand_at}
use Rattle.well_typed.specs.Claim.{Holds}
use Rattle.well_typed.specs.Nodes as typing
use Rattle.well_typed.specs.Places.{Context, ty_of, form_of, Standing, Passed}
use Rattle.soundness_values.proofs.AlsoTests.{Also}
use Rattle.soundness_values.proofs.Checked.{Checking}
use Rattle.soundness_values.proofs.Facts.{Facts}
use Rattle.soundness_cells.proofs.PassCellPatterns as cells_of
use Rattle.soundness_cells.proofs.PassCellPatterns.{Told, Has}
use Rattle.soundness_cells.proofs.PassFacts.{Standpoint, context}
use Rattle.soundness.proofs.PassKnownMatched as matching
use Rattle.soundness.proofs.PassMadeForms as made
use Rattle.soundness_values.proofs.PassHeads.{number_is, shape_is}
use Rattle.soundness_cells.proofs.PassNumbers.{Numbered, numbered_left, numbered_right, own_number}
use Rattle.soundness.proofs.PassPlacesEffects.{q}
use Rattle.soundness.proofs.PassPlacesMeant as meant
use Rattle.soundness.proofs.PassPlacesRules.{NoValue}
use Rattle.soundness.proofs.PassResultRules as rules
use Rattle.soundness.proofs.PassResultRules.{KeepsWhole}
use Rattle.soundness_cells.proofs.PassScopes.{key_of}

module _ (items : ItemTable) (body : BodyTree) (also : Also) (told : Told items) (fuel z : ℕ)
    (W : Checking Facts → Type 0) (keeps : KeepsWhole (q items body also) z W) where
  abbrev V : Type 0
  V = Checking Facts

  abbrev K : Standpoint → Context
  K = context items

  abbrev r : Effects V
  r = q items body also

  abbrev N : Node → Meaning V
  N = meaning items (q items body also) fuel

  abbrev Ns : Nodes → List (Meaning V)
  Ns = meanings items (q items body also) fuel

  abbrev Nf : Fields → List (ℕ × Meaning V)
  Nf = fields_of items (q items body also) fuel

  abbrev Ni : MaybeNode → Option (Meaning V)
  Ni = meaning_if_any items (q items body also) fuel

  abbrev F : Form → ℕ → TyId → Option Use → Meaning V
  F = meant.Of items (q items body also) fuel

  abbrev H : List Entry → Type 0
  H = Has items body

  abbrev left : (a b : List Entry) → H (a ++ b) → H a
  left = cells_of.has_left items body

  abbrev right : (a b : List Entry) → H (a ++ b) → H b
  right = cells_of.has_right items body

  abbrev Makes : LoopsAndGuards → Type 0 → Does V → Type 0
  Makes = rules.Makes items r z W keeps

  -- none of these nodes has the key
  abbrev pub OffN : List Node → Type 0
  OffN ns = (key : ℕ) → Numbered ns key → key ≡ z → ⊥

  pub off_left : (a b : List Node) → OffN (a ++ b) → OffN a
  off_left a b o key n = o key (numbered_left a b key n)

  pub off_right : (a b : List Node) → OffN (a ++ b) → OffN b
  off_right a b o key n = o key (numbered_right a b key n)

  -- a node that is evaluated
  abbrev pub Es : Node → Type 0
  Es n = (around : LoopsAndGuards) (own : Bool) (to : Destination) →
      Makes around (key_of to ≡ z) ((N n).evaluate around own to)

  abbrev Rs : Node → Type 0
  Rs n = (around : LoopsAndGuards) → Makes around ⊥ ((N n).reach around)

  abbrev AllE : List (Meaning V) → Type 0
  AllE ms = (around : LoopsAndGuards) → rules.AllMake items r z W keeps around ms

  -- what is claimed of a node of a type: it is made
  abbrev pub Claim : TyId → Destination → Type 0
  Claim ty to = (is_never items ty ≡ false) × (key_of to ≡ z)

  abbrev pub Fs : TyId → Meaning V → Type 0
  Fs ty m = (around : LoopsAndGuards) (own : Bool) (to : Destination) → Makes around (Claim ty to) (m.evaluate around
      own to)

  pub claimed : (id : ℕ) (ty : TyId) (to : Destination) → Claim ty to → key_of (to_own_key (is_never items ty) id to) ≡ z
  claimed id ty to c = ap (λ b. key_of (to_own_key b id to)) c.0 ∙ c.1

  pub as_claimed : (around : LoopsAndGuards) (id : ℕ) (ty : TyId) (to : Destination) (does : Does V) →
      Makes around (key_of (to_own_key (is_never items ty) id to) ≡ z) does → Makes around (Claim ty to) does
  as_claimed around id ty to does k S v f = rules.as_so items r z W keeps around
      (key_of (to_own_key (is_never items ty) id to) ≡ z) (Claim ty to) (does S v) (claimed id ty to) (k S v f)

  pub less : (around : LoopsAndGuards) (A : Type 0) (does : Does V) → Makes around A does → Makes around ⊥ does
  less = rules.less items r z W keeps

  -- of type `!` there is no value
  pub by_type : (n : Node) → (is_never items (ty_of n) ≡ true → (around : LoopsAndGuards) (own : Bool) (to :
      Destination) (S : Scopes) (v : V) → NoValue ((N n).evaluate around own to S v)) → Fs (ty_of n) (N n) → Es n
  by_type n none e around own to S v f = by (is_never items (ty_of n)) refl
    where
      by : (b : Bool) → is_never items (ty_of n) ≡ b →
          rules.EndsSo items r z W keeps around (key_of to ≡ z) ((N n).evaluate around own to S v)
      by false m = rules.as_so items r z W keeps around (Claim (ty_of n) to) (key_of to ≡ z)
          ((N n).evaluate around own to S v) (λ c. (m, c)) (e around own to S v f)
      by true m = rules.none_so items r z W keeps around (Claim (ty_of n) to) (key_of to ≡ z)
          ((N n).evaluate around own to S v) (none m around own to S v) (e around own to S v f)

  pub of_form : (n : Node) (x : Standpoint) (standing : Standing) → Holds (typing.typed (K x) standing n) →
      H (cells items false n) → Fs (ty_of n) (N n) → Es n
  of_form n x standing h k e = by_type n (made.never_ends items body also told fuel n x standing h k) e

  pub head_off : (n : Node) → OffN (nodes_of n) → (N n).head.id ≡ z → ⊥
  head_off n o e = o (number_of n) (own_number n) (sym (number_is items r fuel n) ∙ e)

  pub operand_of : (n : Node) → OffN (nodes_of n) → Es n → (around : LoopsAndGuards) →
      rules.Operand_ items r z W keeps around (N n)
  operand_of n o e around = (
    less around _ _ (e around false (Into (N n).head.id)),
    head_off n o,
  )

  pub one_of : (n : Node) → OffN (nodes_of n) → Es n → AllE (N n ∷ [])
  one_of n o e around = (operand_of n o e around, tt)

  pub more_of : (n : Node) (ms : List (Meaning V)) → OffN (nodes_of n) → Es n → AllE ms → AllE (N n ∷ ms)
  more_of n ms o e l around = (operand_of n o e around, l around)

  pub effect_so : (h : NodeHead) (s : Shape) (action : EffectSite → Action) → rules.Tells items r z W keeps h action →
      Fs h.ty (evaluation.effect items r fuel h s action)
  effect_so h s action t around own to = as_claimed around h.id h.ty to _
      (rules.own_so items r z W keeps around _ h own _
      (rules.deliver_so items r z W keeps around h action (to_own_key (is_never items h.ty) h.id to) t))

  pub operands_so : (h : NodeHead) (s : Shape) (ms : List (Meaning V)) (action : EffectSite → Action) → AllE ms →
      rules.Tells items r z W keeps h action → Fs h.ty (evaluation.on_operands items r fuel h s ms action)
  operands_so h s ms action e t around own to = as_claimed around h.id h.ty to _
      (rules.acting_so items r z W keeps around _ h own ms _ (e around)
      (rules.deliver_so items r z W keeps around h action (to_own_key (is_never items h.ty) h.id to) t))

  pub gives_unit_so : (h : NodeHead) (s : Shape) (m : Meaning V)
      (action : Rattle.store_model.specs.Effects.Operand → Action) → AllE (m ∷ []) →
      Fs h.ty (evaluation.gives_unit items r fuel h s m action)
  gives_unit_so h s m action e around own to = as_claimed around h.id h.ty to _
      (rules.acting_so items r z W keeps around _ h own (m ∷ []) _ (e around)
      (rules.both_so items r z W keeps around _ _ _ (rules.acts_so items r z W keeps around (action (moved h.id
      m.head.id))) (rules.unit_so items r z W keeps around h (to_own_key (is_never items h.ty) h.id to))))

  pub used_so : (form : Form) (id : ℕ) (ty : TyId) (by : Option Use) (reach_ : LoopsAndGuards → Does V) →
      ((around : LoopsAndGuards) → Makes around ⊥ (reach_ around)) →
      Fs ty (evaluation.a_place items r fuel (head id ty by) (shape_of items form (head id ty by)) reach_)
  used_so form id ty by reach_ k around own to = as_claimed around id ty to _
      (rules.own_so items r z W keeps around _ (head id ty by) own _
      (rules.both_so items r z W keeps around _ (reach_ around) _ (k around)
      (rules.deliver_so items r z W keeps around (head id ty by)
      (λ site. effects.Put site (operand_at (head id ty by) ((shape_of items form (head id ty by)).place
      around.aliases))) (to_own_key (is_never items ty) id to) (λ key. (id, refl)))))

  pub passed_so : (tys : List TyId) (first : Node) (rest : Nodes) (x : Standpoint) →
      Holds (typing.first_and_rest (λ t. typing.typed (K x) (Passed t) first) (λ ts. typing.arguments (K x) ts rest)
      tys) → OffN (nodes_of first) → ((t : TyId) → Holds (typing.typed (K x) (Passed t) first) → Es first) →
      ((ts : List TyId) → Holds (typing.arguments (K x) ts rest) → AllE (Ns rest)) → AllE (N first ∷ Ns rest)
  passed_so [] first rest x h o f e = absurd (false≢true h)
  passed_so (ty ∷ tys) first rest x h o f e = more_of first (Ns rest) o (f ty h.0) (e tys h.1)

  -- a branch goes where the whole does
  pub branch_so : (around : LoopsAndGuards) (id : ℕ) (ty : TyId) (to : Destination) (n : Node) → Es n →
      Makes around (Claim ty to) (forms.alone items r around (N n) (to_own_key (is_never items ty) id to))
  branch_so around id ty to n e = as_claimed around id ty to _ (rules.alone_so items r z W keeps around _ (N n)
      (to_own_key (is_never items ty) id to) (e around true (to_own_key (is_never items ty) id to)))

  pub unit_of : (around : LoopsAndGuards) (id : ℕ) (ty : TyId) (by : Option Use) (to : Destination) →
      Makes around (Claim ty to) (forms.put_unit items r (head id ty by) (to_own_key (is_never items ty) id to))
  unit_of around id ty by to = as_claimed around id ty to _
      (rules.unit_so items r z W keeps around (head id ty by) (to_own_key (is_never items ty) id to))

  pub truth_of : (around : LoopsAndGuards) (id : ℕ) (ty : TyId) (by : Option Use) (to : Destination) (truth : Bool) →
      Makes around (Claim ty to) (evaluation.shortcut items r fuel (head id ty by) truth (to_own_key (is_never items
      ty) id to))
  truth_of around id ty by to truth = as_claimed around id ty to _ (rules.deliver_so items r z W keeps around (head id
      ty by) (λ site. effects.Put site (effects.Truth truth)) (to_own_key (is_never items ty) id to) (λ key. (
        id,
        refl,
      )))

  pub unit_if_so : (around : LoopsAndGuards) (id : ℕ) (ty : TyId) (by : Option Use) (to : Destination) (b : Bool) →
      is_never items ty ≡ b →
      Makes around (Claim ty to) (forms.put_unit_if items r b (head id ty by) (to_own_key (is_never items ty) id to))
  unit_if_so around id ty by to true e S v f = (f, λ c. absurd (false≢true (sym c.0 ∙ e)))
  unit_if_so around id ty by to false e S v f = unit_of around id ty by to S v f

  -- the cells of names
  pub names_off : (p : Node) (place : Place) → OffN (nodes_of p) →
      rules.AllOff items r z W keeps ((shape items p).bindings place)
  names_off p place o = all ((shape items p).bindings place)
      (matching.names_each items (λ at_. Unit {0}) (λ at_ step u e. tt) p place tt)
    where
      all : (bounds : List BoundName) → matching.Each items (λ at_. Unit {0}) (λ at_ step u e. tt) (nodes_of p) bounds →
          rules.AllOff items r z W keeps bounds
      all [] e = tt
      all (b ∷ bounds) e = (o b.key e.0.1, all bounds e.1)

  pub bounds_off : (p : Node) (place : Place) → OffN (nodes_of p) →
      rules.AllOff items r z W keeps ((N p).shape.bindings place)
  bounds_off p place o = subst (λ (s : Shape). rules.AllOff items r z W keeps (s.bindings place))
      (sym (shape_is items r fuel p)) (names_off p place o)

  pub same_meaning : (a b : Meaning V) → Some a ≡ Some b → a ≡ b
  same_meaning a b e = Rattle.std.proofs.lemmas.Option.same_Some a b e

  pub inner_off : (n : Node) → OffN (nodes_of n) → OffN (nodes_in (form_of n))
  inner_off (node id at ty by form) o key n = o key (inr n)

  -- what is asked of the loops and of the result is the same in a guard
  pub guard_around : (bounds : List BoundName) (around : LoopsAndGuards) (a : Run V) →
      rules.EndsSo items r z W keeps (forms.in_guard bounds around) ⊥ a → rules.EndsSo items r z W keeps around ⊥ a
  guard_around bounds around (At Value S v) h = h
  guard_around bounds around (At (Breaks loop) S v) h = h
  guard_around bounds around (At (Continues loop) S v) h = h
  guard_around bounds around (At Returns S v) h = h
  guard_around bounds around (At Panics S v) h = tt
  guard_around bounds around (Over halt v) h = tt

  -- a turn of a loop
  pub turn_of : (n : Node) → Es n → (around : LoopsAndGuards) →
      Makes around ⊥ (forms.alone items r around (N n) (Into (N n).head.id))
  turn_of n e around = rules.alone_so items r z W keeps around ⊥ (N n) (Into (N n).head.id)
      (less around _ _ (e around true (Into (N n).head.id)))
