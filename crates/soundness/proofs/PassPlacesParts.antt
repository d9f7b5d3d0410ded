-- Nodes of the half on places, outside of guards, by what is known of the nodes inside: places as they are reached,
-- what is used of them, branches on patterns, and statements that end.
use Rattle.std.proofs.Common.{◌≡◌, inl, inr, ℕ, ◌==◌, ◌&&◌, ◌||◌, not, Bool, true, false, List, [], ◌∷◌, ◌++◌, length, Option, Some, None, slice_get, if◌then◌else◌, refl, ap, sym, ◌∙◌, subst}
use Rattle.std.proofs.lemmas.Bool.{false≢true}
use Rattle.mir_ty.specs.declared.ty.TyId.{TyId}
use Rattle.mir_ty.specs.ItemTable.{ItemTable, type_at}
use Rattle.store_model.specs.Effects as effects
use Rattle.store_model.specs.Effects.{OfTuple, OfArray, OfVariant, OfClosure, Effects}
use Rattle.store_model.specs.Places.Place.{ToPart, ToContent, ToElement, Place, is_reference}
use Rattle.typed_tree.specs.declared.node.Use.{Use}
use Rattle.typed_tree.specs.Nodes.{number_of, nodes_of, nodes_if_any}
use Rattle.typed_tree.specs.Tree as tree
use Rattle.typed_tree.specs.Tree.{Node, node, Form, Nodes, no_node, a_node, Fields, no_field, a_field, MaybeNode, absent, present, BodyTree}
use Rattle.typing_rules.specs.Accesses.{root_of}
use Rattle.src_meaning.specs.Evaluation as evaluation
use Rattle.src_meaning.specs.Evaluation.{meanings, fields_of, meaning_if_any, values_of, in_number_order, to_own_key}
use Rattle.src_meaning.specs.Forms as forms
use Rattle.src_meaning.specs.Forms.{Destination, Into, coerced, LoopsAndGuards, Meaning, in_loop, loop_destination, moved, all_moved, is_never, place_of}
use Rattle.src_meaning.specs.Locals.OfBody.{cells, reached_cells, cells_in, cells_if_any}
use Rattle.src_meaning.specs.Scopes.{Entry, Scopes, Run, Does}
use Rattle.src_meaning.specs.Shape.{NodeHead, head, Shape, shape, shape_of, moves, extended, place_of_key}
use Rattle.well_typed.specs.Claim.{Holds, fact}
use Rattle.well_typed.specs.Nodes as typing
use Rattle.well_typed.specs.Patterns as patterns
use Rattle.well_typed.specs.Patterns.{Matched, entries_of}
use Rattle.well_typed.specs.Places.{Context, in_guard, ty_of, form_of, is_by, is_place, may_move_by, Standing, Passed, Base, Used, Stored}
use Rattle.well_typed.specs.Types as types
use Rattle.soundness_values.proofs.AlsoTests.{Also}
use Rattle.soundness_values.proofs.Checked.{Checking}
use Rattle.soundness_values.proofs.Facts.{Facts}
use Rattle.soundness_values.proofs.Leaving.{Shown}
use Rattle.soundness_cells.proofs.PassCellNames.{PlaceOk}
use Rattle.soundness_cells.proofs.PassCellParts as at_nodes
use Rattle.soundness_cells.proofs.PassCellPatterns as cells_of
use Rattle.soundness_cells.proofs.PassCellPatterns.{Told, Has}
use Rattle.soundness_cells.proofs.PassCellPlaces.{Scoped}
use Rattle.soundness_cells.proofs.PassCellPlain.{used_listed}
use Rattle.soundness_cells.proofs.PassCellScoped as scoped_by
use Rattle.soundness_cells.proofs.PassCellTypes as facts_of
use Rattle.soundness_cells.proofs.PassFacts.{Standpoint, context, with_names}
use Rattle.soundness_values.proofs.PassHeads.{number_is, shape_is}
use Rattle.soundness.proofs.PassKnownPlaces.{further_known}
use Rattle.soundness.proofs.PassMadeForms as made
use Rattle.soundness.proofs.PassMovable.{Movable, moved_form}
use Rattle.soundness_cells.proofs.PassNumbers.{Numbered, numbered_left, rises_apart}
use Rattle.soundness_cells.proofs.PassListed.{Lists}
use Rattle.soundness.proofs.PassPlacesCalm.{watching, Calm, safe, none_so, alias_known}
use Rattle.soundness.proofs.PassPlacesLooked.{Looked, place_apart, unmet_place}
use Rattle.soundness.proofs.PassPlacesMatch as matching
use Rattle.soundness.proofs.PassPlacesNodes as at_places
use Rattle.soundness.proofs.PassPlacesNodes.{M, Of, P, PF, Outside, Es, Rs, AllE, Asked, Made, Own, Any}
use Rattle.soundness.proofs.PassPlacesReach as reach
use Rattle.soundness.proofs.PassPlacesReach.{Kept, Keeps, After, Brings, KeepsIf, Led}
use Rattle.soundness.proofs.PassPlacesRules as rules
use Rattle.soundness.proofs.PassPlacesRules.{NoValue}
use Rattle.soundness.proofs.PassPlacesScope as scope
use Rattle.soundness.proofs.PassPlacesScope.{Stood, Bindings}
use Rattle.soundness_cells.proofs.PassRefilled.{not_mark}
use Rattle.typing_rules.specs.Accesses as accesses
use Rattle.soundness_frame.proofs.PassTold.{ids}
use Rattle.soundness_frame.proofs.PassWithin.{Outer, DestIn}
use Rattle.soundness_values.proofs.PlaceTypes.{some_holds, same_type}

module _ (items : ItemTable) (body : BodyTree) (also : Also) (told : Told items) (fuel : ℕ)
    (bs : Bindings items body) (asked : Asked items body also told fuel bs) where
  abbrev V : Type 0
  V = Checking Facts

  abbrev K : Standpoint → Context
  K = context items

  abbrev r : Effects V
  r = watching items body also bs.aliases

  abbrev N : Node → Meaning V
  N = M items body also told fuel bs

  abbrev Ns : Nodes → List (Meaning V)
  Ns = meanings items (watching items body also bs.aliases) fuel

  abbrev Nf : Fields → List (ℕ × Meaning V)
  Nf = fields_of items (watching items body also bs.aliases) fuel

  abbrev Ni : MaybeNode → Option (Meaning V)
  Ni = meaning_if_any items (watching items body also bs.aliases) fuel

  abbrev F : Form → ℕ → TyId → Option Use → Meaning V
  F = Of items body also told fuel bs

  abbrev E : Outer → Meaning V → Type 0
  E = Es items body also told fuel bs

  abbrev Own_ : Outer → Meaning V → Type 0
  Own_ = Own items body also told fuel bs

  abbrev R : Outer → Place → Meaning V → Type 0
  R = Rs items body also told fuel bs

  abbrev L : Outer → List (Meaning V) → Type 0
  L = AllE items body also told fuel bs

  abbrev Out : Outer → LoopsAndGuards → Type 0
  Out = Outside items body also told fuel bs

  abbrev Pn : Node → Place
  Pn = P items body also told fuel bs

  abbrev Is : Node → Type 0
  Is = Made items body also told fuel bs

  abbrev H : List Entry → Type 0
  H = Has items body

  abbrev left : (a b : List Entry) → H (a ++ b) → H a
  left = cells_of.has_left items body

  abbrev right : (a b : List Entry) → H (a ++ b) → H b
  right = cells_of.has_right items body

  abbrev here_left : (x : Standpoint) (a b : List Node) → Stood items body bs x (a ++ b) → Stood items body bs x a
  here_left = scope.stood_left items body bs

  abbrev here_right : (x : Standpoint) (a b : List Node) → Stood items body bs x (a ++ b) → Stood items body bs x b
  here_right = scope.stood_right items body bs

  -- ---- by what is known of a node that is evaluated

  pub alone_of : (o : Outer) (m : Meaning V) → E o m → (around : LoopsAndGuards) → Out o around → (to : Destination) →
      DestIn (m.head.id ∷ o.keys) to → Keeps items body also bs.aliases (forms.alone items r around m to)
  alone_of o m e around na to d = rules.alone_kept items r (not_mark 5) (Calm items body also bs.aliases) (safe items
      body also bs.aliases) around m to (e around na true to d)

  pub condition_of : (o : Outer) (m : Meaning V) → Own_ o m → (around : LoopsAndGuards) → Out o around → (f g : Does
      V) → Keeps items body also bs.aliases f → Keeps items body also bs.aliases g → Keeps items body also bs.aliases
      (forms.condition items r around m f g)
  condition_of o m e around na f g a b = rules.condition_kept items r (not_mark 5) (Calm items body also bs.aliases)
      (safe items body also bs.aliases) around m f g (e around na true) a b

  pub own_of : (h : NodeHead) (own : Bool) (does : Does V) → Keeps items body also bs.aliases does →
      Keeps items body also bs.aliases (forms.in_own_scope items r h own does)
  own_of = rules.own_kept items r (not_mark 5) (Calm items body also bs.aliases) (safe items body also bs.aliases)

  pub one_of : (o : Outer) (m : Meaning V) → Own_ o m → L o (m ∷ [])
  one_of o m e around na = (e around na false, tt)

  pub more_of : (o : Outer) (m : Meaning V) (ms : List (Meaning V)) → Own_ o m → L o ms → L o (m ∷ ms)
  more_of o m ms e l around na = (e around na false, l around na)

  pub unit_of : (h : NodeHead) (to : Destination) → Keeps items body also bs.aliases (forms.put_unit items r h to)
  unit_of = rules.unit_kept items r (not_mark 5) (Calm items body also bs.aliases) (safe items body also bs.aliases)

  pub truth_of : (h : NodeHead) (truth : Bool) (to : Destination) →
      Keeps items body also bs.aliases (evaluation.shortcut items r fuel h truth to)
  truth_of h truth to = rules.deliver_kept items r (not_mark 5) (Calm items body also bs.aliases) (safe items body
      also bs.aliases) h (λ site. effects.Put site (effects.Truth truth)) to (λ site. refl)

  -- what is reached, and made
  abbrev pub Reached : Outer → Node → Type 0
  Reached o n = (around : LoopsAndGuards) → Out o around →
      Brings items body also bs.aliases (λ w. Led items body also bs.aliases (place_of (N n) around) w × Is n) ((N
      n).reach around)

  pub reached_so : (o : Outer) (n : Node) → R o (Pn n) (N n) → (b : Bool) → is_place (form_of n) ≡ b →
      (b ≡ false → is_never items (ty_of n) ≡ true → (around : LoopsAndGuards) (S : Scopes) (v : V) →
      NoValue ((N n).reach around S v)) → Reached o n
  reached_so o n k b p none around na S v c = by b p (is_never items (ty_of n)) refl
    where
      led : (a : Is n) → Shown (not_mark 5)
          (After items body also bs.aliases (λ w. Led items body also bs.aliases (place_of (N n) around) w × Is n))
          ((N n).reach around S v)
      led a = rules.brought_as items r (not_mark 5) (Calm items body also bs.aliases) (safe items body also bs.aliases)
          (Led items body also bs.aliases (Pn n)) (λ w. Led items body also bs.aliases (place_of (N n) around) w × Is n)
          ((N n).reach around S v)
          (λ w l. (
            subst (λ z. Led items body also bs.aliases z w) (sym (at_places.placed items body also told fuel bs
                n around na.0)) l,
            a,
          )) (k around na S v c)

      by : (d : Bool) → is_place (form_of n) ≡ d → (e : Bool) → is_never items (ty_of n) ≡ e → Shown (not_mark 5)
          (After items body also bs.aliases (λ w. Led items body also bs.aliases (place_of (N n) around) w × Is n))
          ((N n).reach around S v)
      by true d e f = led (λ x. absurd (false≢true (sym x ∙ d)))
      by false d false f = led (λ x. f)
      by false d true f = rules.none_brings items r (not_mark 5) (Calm items body also bs.aliases) (safe items body
          also bs.aliases) (λ w. Led items body also bs.aliases (place_of (N n) around) w × Is n) ((N n).reach around
          S v) (none (sym p ∙ d) f around S v)
          (rules.brought_kept items r (not_mark 5) (Calm items body also bs.aliases) (safe items body also bs.aliases)
          (Led items body also bs.aliases (Pn n)) ((N n).reach around S v) (k around na S v c))

  -- a pattern and its scrutinee, as the evaluation has them
  pub tested_at : (p s : Node) (around : LoopsAndGuards) → around.aliases ≡ bs.aliases →
      matching.Tested items body also bs.aliases told ((shape items p).tests (Pn s)) (Pn s) ((shape items p).bindings
      (Pn s)) → matching.Tested items body also bs.aliases told ((N p).shape.tests (place_of (N s) around)) (place_of
      (N s) around) ((N p).shape.bindings (place_of (N s) around))
  tested_at p s around na t = subst (λ (z : Shape). matching.Tested items body also bs.aliases told
      (z.tests (place_of (N s) around)) (place_of (N s) around) (z.bindings (place_of (N s) around)))
      (sym (shape_is items r fuel p))
      (subst (λ z. matching.Tested items body also bs.aliases told ((shape items p).tests z) z ((shape items
      p).bindings z)) (sym (at_places.placed items body also told fuel bs s around na)) t)

  -- a place of which the cells of some nodes are none
  abbrev pub LiesAll : List Node → Place → Type 0
  LiesAll ns place = (pattern : List Node) → ((key : ℕ) → Numbered pattern key → Numbered ns key) →
      matching.Lies items body also bs.aliases told pattern place

  pub lies_all : (s : Node) (x : Standpoint) (standing : Standing) → Holds (typing.typed (K x) standing s) →
      (ns all : List Node) → Stood items body bs x all → Stood items body bs x (nodes_of s) →
      ((key : ℕ) → Numbered ns key → Numbered all key) →
      ((key : ℕ) → Numbered (nodes_of s) key → Numbered ns key → ⊥) → LiesAll ns (Pn s)
  lies_all s x standing h ns all g gs f apart pattern i = matching.lies_keys items body also bs.aliases told pattern
      (Pn s) (place_apart items body bs s x standing h all g pattern (λ key n. f key (i key n))
      (λ key n m. apart key n (i key m))) (unmet_place items body bs told fuel s x standing h gs)

  -- ---- small facts

  pub stored_so : (n : Node) (x : Standpoint) → Holds (typing.typed (K x) Stored n) →
      (types.is_reference items (ty_of n) ≡ false) × (is_place (form_of n) ≡ true)
  stored_so (node id at ty by form) x h = (
    facts_of.is_false (types.is_reference items ty)
        (facts_of.right_of (is_place form && is_by Use.Store by) _ h.0.0),
    facts_of.left_of (is_place form) _ (facts_of.left_of (is_place form && is_by Use.Store by) _ h.0.0),
  )

  -- a value that is there is made
  pub made_evaluated : (b : Bool) (x : Run V) → Kept items body also bs.aliases x → (b ≡ true → NoValue x) →
      Shown (not_mark 5) (After items body also bs.aliases (λ w. b ≡ false)) x
  made_evaluated true x h n = rules.none_brings items r (not_mark 5) (Calm items body also bs.aliases) (safe items
      body also bs.aliases) (λ w. true ≡ false) x (n refl) h
  made_evaluated false x h n = rules.always_brings items r (not_mark 5) (Calm items body also bs.aliases) (safe items
      body also bs.aliases) (λ w. false ≡ false) x (λ w. refl) h

  pub second_of : (a b : Bool) → a ≡ false → (a || b) ≡ true → b ≡ true
  second_of true b e h = absurd (false≢true (sym e))
  second_of false b e h = h

  -- an initialiser that is taken apart is of the type of the pattern, if it is made
  pub same_when : (n : Node) (want : TyId) → types.fits items want (ty_of n) ≡ true →
      (not (is_place (form_of n)) || types.is_same (ty_of n) want) ≡ true → Is n → ty_of n ≡ want
  same_when n want f e made = by (is_place (form_of n)) refl e
    where
      by : (b : Bool) → is_place (form_of n) ≡ b → (not b || types.is_same (ty_of n) want) ≡ true → ty_of n ≡ want
      by true p e = same_type (ty_of n) want e
      by false p e = facts_of.made_fits items want (ty_of n) f (made p)

  -- a statement that ends by a node of type `!`
  pub never_by : (n : Node) → (types.is_never items (ty_of n) && not (typing.is_unused_place n)) ≡ true →
      is_never items (ty_of n) ≡ true
  never_by n e = sym (facts_of.never_same items (ty_of n))
      ∙ facts_of.left_of (types.is_never items (ty_of n)) (not (typing.is_unused_place n)) e

  pub ended_place : (n : Node) → (types.is_never items (ty_of n) && not (typing.is_unused_place n)) ≡ true →
      (is_never items (ty_of n) ≡ true) × (typing.is_unused_place n ≡ false)
  ended_place n e = (
    never_by n e,
    facts_of.is_false (typing.is_unused_place n)
        (facts_of.right_of (types.is_never items (ty_of n)) (not (typing.is_unused_place n)) e),
  )

  -- what is taken apart is used as no place, so it is none
  pub unused_value : (n : Node) (x : Standpoint) → Holds (typing.typed (K x) Base n) → typing.is_unused_place n ≡
      false → is_place (form_of n) ≡ false
  unused_value (node id at ty by form) x h u = so (is_place form) (Rattle.std.proofs.Common.is_none by)
      (facts_of.left_of (Rattle.std.proofs.Common.is_none by) _ h.0) u
    where
      so : (a b : Bool) → b ≡ true → (a && b) ≡ false → a ≡ false
      so true b e u = absurd (false≢true (sym u ∙ e))
      so false b e u = refl

  -- one of type `!` that is no place has no value
  pub none_reached : (n : Node) (x : Standpoint) (standing : Standing) → Holds (typing.typed (K x) standing n) →
      H (reached_cells items n) → is_place (form_of n) ≡ false → is_never items (ty_of n) ≡ true →
      (around : LoopsAndGuards) (S : Scopes) (v : V) → NoValue ((N n).reach around S v)
  none_reached (node id at ty by form) x standing h k p never around S v =
      subst (λ (reach_ : LoopsAndGuards → Does V). NoValue (reach_ around S v))
      (sym (at_places.temporary_meant items body also told fuel bs form id ty by p))
      (rules.temporary_none items r (not_mark 5) (Calm items body also bs.aliases) (safe items body also bs.aliases)
      (F form id ty by).head (F form id ty by).shape (F form id ty by).evaluate around
      (λ T w. none_so items body also bs.aliases fuel (node id at ty by form) around false
      (Into (F form id ty by).head.id) T w (made.never_ends items body also told fuel (node id at ty by form) x
      standing h (cells_of.fewer items body (node id at ty by form) (cells_of.reached_own items body id at ty by form
      p k)) never around false (Into (F form id ty by).head.id) T w)) S v)

  pub made_so : (n : Node) (x : Standpoint) (standing : Standing) → Holds (typing.typed (K x) standing n) →
      H (reached_cells items n) → R (ids x) (Pn n) (N n) → Reached (ids x) n
  made_so n x standing h k e = reached_so (ids x) n e (is_place (form_of n)) refl
      (λ p never around S v. none_reached n x standing h k p never around S v)

  -- places as they are reached, by what is known of their bases

  pub variable_reached : (o : Outer) (key id : ℕ) (ty : TyId) (by : Option Use) →
      R o (PF items body also told fuel bs (tree.Variable key) id ty by) (F (tree.Variable key) id ty by)
  variable_reached o key id ty by around na S v c = (c, alias_known items body bs.aliases v.facts c.1.1 key)

  pub captured_reached : (o : Outer) (closure part : ℕ) (name : List ℕ) (id : ℕ) (ty : TyId) (by : Option Use) →
      R o (PF items body also told fuel bs (tree.Captured closure part name) id ty by) (F (tree.Captured closure part
      name) id ty by)
  captured_reached o closure part name id ty by around na S v c = (
    c,
    further_known items body v.facts (place_of_key closure bs.aliases) (ToPart part)
        (alias_known items body bs.aliases v.facts c.1.1 closure) tt,
  )

  pub field_reached : (o : Outer) (base : Node) (part id : ℕ) (ty : TyId) (by : Option Use) → R o (Pn base) (N base) →
      R o (PF items body also told fuel bs (tree.Field base part) id ty by) (F (tree.Field base part) id ty by)
  field_reached o base part id ty by e around na S v c =
      rules.brought_as items r (not_mark 5) (Calm items body also bs.aliases) (safe items body also bs.aliases) (Led
      items body also bs.aliases (Pn base)) (Led items body also bs.aliases (extended (ToPart part) (Pn base))) ((N
      base).reach around S v) (λ w l. further_known items body w.facts (Pn base) (ToPart part) l tt) (e around na S v c)

  pub deref_reached : (o : Outer) (base : Node) (id : ℕ) (ty : TyId) (by : Option Use) → R o (Pn base) (N base) →
      R o (PF items body also told fuel bs (tree.Deref base) id ty by) (F (tree.Deref base) id ty by)
  deref_reached o base id ty by e around na S v c =
      rules.brought_as items r (not_mark 5) (Calm items body also bs.aliases) (safe items body also bs.aliases) (Led
      items body also bs.aliases (Pn base)) (Led items body also bs.aliases (extended ToContent (Pn base))) ((N
      base).reach around S v) (λ w l. further_known items body w.facts (Pn base) ToContent l tt) (e around na S v c)

  pub index_reached : (base index : Node) → scope.Free items body bs (accesses.told bs.outer index) → (count : ℕ) (x :
      Standpoint) → Scoped items body x → Stood items body bs x (nodes_of base ++ nodes_of index) → (id : ℕ) (ty :
      TyId) (by : Option Use) →
      Holds (typing.row (K x) id ty (tree.Index base index count)) →
      H (reached_cells items base ++ cells items true index) → R (ids x) (Pn base) (N base) → Own_ (ids x) (N index) →
      R (ids x) (PF items body also told fuel bs (tree.Index base index count) id ty by) (F (tree.Index base index
      count) id ty by)
  index_reached base index free count x s g id ty by h k eb ei around na S v c =
      let a = some_holds (types.array_of items (ty_of base)) (λ a. fact (types.is_same ty a.0 && count == a.1))
      h.1.1.1 in
      let kb = left (reached_cells items base) (cells items true index) k in
      let ki = right (reached_cells items base) (cells items true index) k in
      subst (λ z. Brings items body also bs.aliases (Led items body also bs.aliases ((shape_of items (tree.Index base
      index count) (head id ty by)).place z)) ((F (tree.Index base index count) id ty by).reach around)) na.0
      (reach.element_brings items body also bs.aliases (head id ty by) (shape_of items (tree.Index base index count)
      (head id ty by)) (N base) (N index) count (number_of index) (Pn base) around
      (ap (λ z. extended (ToElement (number_of index)) ((shape items base).place z)) na.0)
      (number_is items r fuel index) (eb around na)
      (λ T w d l. rules.brings_so items r (not_mark 5) (Calm items body also bs.aliases) (safe items body also
      bs.aliases) (Led items body also bs.aliases (Pn base)) ((N index).evaluate around false (Into (N index).head.id)
      T w) (ei around na false T w d)
      (asked.index base index free x s g h.0 h.1.0 kb ki around na T w d l))
      (λ facts b. at_places.element_step items body also told fuel bs base index count x ty h.0 a.0 a.1.0
      (facts_of.right_of (types.is_same ty a.0.0) _ a.1.1) s kb facts b)) S v c

  -- the use of a place, by what is known as it is reached
  pub used_with : (form : Form) (x : Standpoint) → Scoped items body x → (ns : List Node) → Stood items body bs x ns →
      (id : ℕ) (ty : TyId) (by : Option Use) →
      Holds (typing.row (K x) id ty form) → is_place form ≡ true → is_reference (type_at items ty) ≡ false →
      (moves by ≡ true → may_move_by (K x) form ≡ true) → H (cells_in items form) →
      R (ids x) (PF items body also told fuel bs form id ty by) (F form id ty by) →
      Any items body also told fuel bs (ids x) (evaluation.a_place items r fuel (head id ty by) (shape_of items form
      (head id ty by)) (F form id ty by).reach)
  used_with form x s ns g id ty by h p plain mv k e = at_places.place_kept items body also told fuel bs (ids x) form
      id ty by (F form id ty by).reach e
      (λ m. moved_form items body told fuel form x id ty by h p s k plain bs.aliases bs.names
      (scope.unaliased items body bs x ns g) (mv m))

  -- a pattern that is matched with the place of a node before it goes on
  pub pattern_tested : (p scrutinee : Node) (x : Standpoint) → Scoped items body x → (m : Matched) → (want : TyId) →
      Holds (patterns.pattern items m want p) → types.is_reference items want ≡ false → H (cells items true p) →
      (place : Place) → PlaceOk items body want place → (m.may_move ≡ true → Movable items body place) →
      matching.Lies items body also bs.aliases told (nodes_of p) place →
      matching.Tested items body also bs.aliases told ((shape items p).tests place) place ((shape items p).bindings
      place)
  pattern_tested p scrutinee x s m want h plain k place ok moved_ lies =
      matching.tested_so items body also bs.aliases told p m want h (λ e. plain) k place ok moved_ lies

  -- `if let`, and a turn of `while let`, by what is known of the nodes inside
  pub taken_scoped : (p scrutinee : Node) (x : Standpoint) → Scoped items body x →
      Holds (typing.typed (K x) (Used Use.Borrow) scrutinee) → Holds (typing.of_scrutinee (K x) p scrutinee) →
      H (cells items true p ++ reached_cells items scrutinee) → Scoped items body (with_names (entries_of p) x)
  taken_scoped p scrutinee x s hs hp k = scoped_by.scoped_names items body told p (typing.matched_in false (K x)
      scrutinee) (ty_of scrutinee) x hp.1 (inl (at_nodes.used_plain items body told fuel x Use.Borrow scrutinee hs))
      (used_listed items told scrutinee (x, s.listed) hs) (left (cells items true p) (reached_cells items scrutinee)
      k) s

  pub taken_with : (p scrutinee consequent : Node) (x : Standpoint) → Scoped items body x →
      Stood items body bs x ((nodes_of p ++ nodes_of scrutinee) ++ nodes_of consequent) →
      Holds (typing.typed (K x) (Used Use.Borrow) scrutinee) → Holds (typing.of_scrutinee (K x) p scrutinee) →
      H (cells items true p ++ reached_cells items scrutinee) → R (ids x) (Pn scrutinee) (N scrutinee) →
      (h : NodeHead) (around : LoopsAndGuards) → Out (ids x) around → (to : Destination) →
      Keeps items body also bs.aliases (forms.alone items r around (N consequent) to) → (otherwise : Does V) →
      Keeps items body also bs.aliases otherwise →
      Keeps items body also bs.aliases (forms.if_taken items r h around (N p) (N scrutinee) (forms.alone items r
      around (N consequent) to) otherwise)
  taken_with p scrutinee consequent x s g hs hp k rs h around na to e otherwise o =
      let g2 = here_left x (nodes_of p ++ nodes_of scrutinee) (nodes_of consequent) g in
      let gs = here_right x (nodes_of p) (nodes_of scrutinee) g2 in
      let kp = left (cells items true p) (reached_cells items scrutinee) k in
      let ks = right (cells items true p) (reached_cells items scrutinee) k in
      let plain = at_nodes.used_plain items body told fuel x Use.Borrow scrutinee hs in
      let m = typing.matched_in false (K x) scrutinee in
      matching.if_taken_kept items body also bs.aliases told (Is scrutinee) h around (N p) (N scrutinee)
      (forms.alone items r around (N consequent) to) otherwise
      (made_so scrutinee x (Used Use.Borrow) hs ks rs around na)
      (λ made. tested_at p scrutinee around na.0 (pattern_tested p scrutinee x s m (ty_of scrutinee) hp.1 plain kp
      (Pn scrutinee) (at_places.node_ok items body also told fuel bs scrutinee x (Used Use.Borrow) hs s ks made plain)
      (λ e. at_places.node_moved items body also told fuel bs scrutinee x (Used Use.Borrow) hs (nodes_of scrutinee) gs
      s ks made plain e)
      (lies_all scrutinee x (Used Use.Borrow) hs (nodes_of p) ((nodes_of p ++ nodes_of scrutinee) ++ nodes_of
      consequent) g gs (λ key n. numbered_left (nodes_of p ++ nodes_of scrutinee) (nodes_of consequent) key
      (numbered_left (nodes_of p) (nodes_of scrutinee) key n))
      (λ key n i. rises_apart (nodes_of p) (nodes_of scrutinee) g2.here.rises key i n) (nodes_of p) (λ key n. n))))
      e o

  pub guarded_kept : (guard : MaybeNode) (p : Node) (sc : Option accesses.AccessPlace) →
      scope.Free items body bs (accesses.told_guard bs.outer sc (accesses.bound sc p) guard) → (x : Standpoint) →
      Scoped items body x →
      Stood items body bs x (nodes_of p ++ nodes_if_any guard) → (m : Matched) (want : TyId) →
      types.is_reference items want ≡ false → Lists items want → Holds (patterns.pattern items m want p) →
      Holds (typing.guarded (K (with_names (in_guard (entries_of p)) x)) guard) → H (cells items true p) →
      H (cells_if_any items true guard) → (place : Place) →
      Looked items body bs x (nodes_of p ++ nodes_if_any guard) sc place → PlaceOk items body want place →
      (m.may_move ≡ true → Movable items body place) → matching.Lies items body also bs.aliases told (nodes_of p)
      place → (around : LoopsAndGuards) → Out (ids x) around →
      matching.GuardsIfAny items body also bs.aliases told around place ((N p).shape.bindings place) (Ni guard)
  guarded_kept absent p sc free x s g m want plain listed hp h kp k place looked ok moved_ lies around na = tt
  guarded_kept (present guard) p sc free x s g m want plain listed hp h kp k place looked ok moved_ lies around na =
      subst (λ (z : Shape). matching.Guards items body also bs.aliases told around place (z.bindings place) (N guard))
      (sym (shape_is items r fuel p))
      (asked.guard p guard sc free x m want s plain listed g hp h.0 kp k place looked ok moved_ lies around na)

  pub passed_with : (tys : List TyId) (first : Node) (rest : Nodes) (x : Standpoint) →
      Holds (typing.first_and_rest (λ t. typing.typed (K x) (Passed t) first) (λ ts. typing.arguments (K x) ts rest)
      tys) → ((t : TyId) → Holds (typing.typed (K x) (Passed t) first) → Own_ (ids x) (N first)) →
      ((ts : List TyId) → Holds (typing.arguments (K x) ts rest) → L (ids x) (Ns rest)) → L (ids x) (N first ∷ Ns rest)
  passed_with [] first rest x h f e = absurd (false≢true h)
  passed_with (ty ∷ tys) first rest x h f e = more_of (ids x) (N first) (Ns rest) (f ty h.0) (e tys h.1)

  -- `let` of a pattern with parts
  pub parted_with : (p value : Node) (pty : TyId) (x : Standpoint) → Scoped items body x →
      Stood items body bs x (nodes_of p ++ nodes_of value) → (id : ℕ) (ty : TyId) (by : Option Use) →
      ty_of p ≡ pty → Holds (typing.typed (K x) Base value) → Holds (typing.of_let (K x) p value) →
      typing.is_one_name p ≡ false → H (cells items true p) → H (reached_cells items value) →
      R (ids x) (Pn value) (N value) → (around : LoopsAndGuards) → Out (ids x) around →
      Brings items body also bs.aliases (λ w. typing.ends_by items (tree.Let p (present value)) ≡ false)
      (forms.let_parts items r (head id ty by) (N p) (N value) around)
  parted_with p value pty x s g id ty by same hv h one kp kv rv around na S v c =
      let gv = here_right x (nodes_of p) (nodes_of value) g in
      let plain = facts_of.is_false (types.is_reference items (ty_of value))
      (facts_of.right_of (types.fits items (ty_of p) (ty_of value)) _ h.1.1.0) in
      let m = typing.matched_in true (K x) value in
      let hp = subst (λ b. Holds (patterns.pattern items (if b then typing.whole else m) (ty_of p) p)) one h.1.0 in
      made_evaluated (typing.ends_by items (tree.Let p (present value)))
      (forms.let_parts items r (head id ty by) (N p) (N value) around S v)
      (matching.let_parts_kept items body also bs.aliases told (head id ty by) (N p) (N value) around
      (λ T w d. rules.brought_as items r (not_mark 5) (Calm items body also bs.aliases) (safe items body also
      bs.aliases) (λ w. Led items body also bs.aliases (place_of (N value) around) w × Is value)
      (matching.Fit items body also bs.aliases told ((N p).shape.bindings (place_of (N value) around)))
      ((N value).reach around T w)
      (λ u l. subst (λ (z : Shape). matching.Fit items body also bs.aliases told (z.bindings (place_of (N value)
      around)) u) (sym (shape_is items r fuel p))
      (subst (λ z. matching.Fit items body also bs.aliases told ((shape items p).bindings z) u)
      (sym (at_places.placed items body also told fuel bs value around na.0))
      (matching.taken_so items body also bs.aliases told p m (ty_of p) hp refl (λ e. absurd (false≢true (sym one ∙
      e))) kp (Pn value)
      (subst (λ t. PlaceOk items body t (Pn value)) (same_when value (ty_of p)
      (facts_of.left_of (types.fits items (ty_of p) (ty_of value)) _ h.1.1.0)
      (second_of (typing.is_one_name p) _ one h.1.1.1.0) l.1)
      (at_places.node_ok items body also told fuel bs value x Base hv s kv l.1 plain))
      (λ e. at_places.node_moved items body also told fuel bs value x Base hv (nodes_of value) gv s kv l.1 plain e)
      (lies_all value x Base hv (nodes_of p) (nodes_of p ++ nodes_of value) g gv
      (λ key n. numbered_left (nodes_of p) (nodes_of value) key n)
      (λ key n i. rises_apart (nodes_of p) (nodes_of value) g.here.rises key i n) (nodes_of p) (λ key n. n))
      u (subst (λ z. Led items body also bs.aliases z u) (at_places.placed items body also told fuel bs value around
      na.0) l.0)))) (made_so value x Base hv kv rv around na T w d)) S v c)
      (λ e. let n = ended_place value e in rules.let_parts_none items r (not_mark 5) (Calm items body also bs.aliases)
      (safe items body also bs.aliases) (head id ty by) (N p) (N value) around
      (λ T w. none_reached value x Base hv kv (unused_value value x hv (n.1)) n.0 around T w) S v)
