-- Small facts about the nodes of a well typed body, which the pass over the forms uses: what stands around a node, types
-- that suit destinations, operands that are taken, assigned places, names in scope.
use Rattle.std.proofs.Common.{◌≡◌, ◌⊎◌, inl, inr, ℕ, zero, suc, nat_lt, ◌&&◌, Bool, true, false, List, [], ◌∷◌, ◌++◌, length, Option, Some, None, is_some, slice_get, if◌then◌else◌, refl, ap, sym, ◌∙◌, subst}
use Rattle.std.specs.Prelude.{option_and_then}
use Rattle.std.specs.Option.{option_map_or}
use Rattle.std.proofs.lemmas.Bool.{false≢true}
use Rattle.mir_ty.specs.declared.ty.Ty.{Ty}
use Rattle.mir_ty.specs.declared.ty.TyId.{TyId}
use Rattle.mir_ty.specs.Facts.{needs_drop, drop_rule, in_rounds}
use Rattle.mir_ty.specs.ItemTable.{ItemTable, type_at}
use Rattle.store_model.specs.Effects.{Effects}
use Rattle.store_model.specs.Places.Place.{ToPart, ToElement, ToContent, Place, whole_local}
use Rattle.typed_tree.specs.declared.node.Use.{Use}
use Rattle.typed_tree.specs.Nodes.{number_of, nodes_of, nodes_in}
use Rattle.typed_tree.specs.Tree as tree
use Rattle.typed_tree.specs.Tree.{Node, node, Form, Nodes, no_node, a_node, Fields}
use Rattle.src_meaning.specs.Evaluation.{meaning, meanings, fields_of, values_of, in_number_order, insert_field}
use Rattle.src_meaning.specs.Forms as forms
use Rattle.src_meaning.specs.Forms.{Destination, LoopsAndGuards, Meaning, keys_of, is_never, place_of}
use Rattle.src_meaning.specs.Scopes.{Entry, Scopes, Exit, Value, Breaks, Continues, Returns, Panics, Does}
use Rattle.src_meaning.specs.Shape.{NodeHead, head, shape, shape_of, place_of_key}
use Rattle.well_typed.specs.Claim.{Claim, Holds, fact}
use Rattle.well_typed.specs.Nodes as typing
use Rattle.well_typed.specs.Patterns as pattern_rules
use Rattle.well_typed.specs.Patterns.{Matched}
use Rattle.well_typed.specs.Places.{InScope, LoopAround, Context, entry_with, loop_with, ty_of, Wanted, Stored, is_place}
use Rattle.well_typed.specs.Types as types
use Rattle.soundness_values.proofs.Leaving.{Shown, shown_more, Among}
use Rattle.soundness_cells.proofs.PassAround as named
use Rattle.soundness_cells.proofs.PassClear.{KeepsClear, any, Nothing}
use Rattle.soundness_values.proofs.PassHeads.{IsName, type_is, shape_is}
use Rattle.soundness_cells.proofs.PassNames as names
use Rattle.soundness_cells.proofs.PassNodes as nodes
use Rattle.soundness_cells.proofs.PassPatterns as patterns
use Rattle.soundness_cells.proofs.PassRules as rules
use Rattle.soundness_cells.proofs.PassRules.{InList}
use Rattle.soundness_cells.proofs.PassScopes as scopes
use Rattle.soundness_cells.proofs.PassScopes.{key_of, entries_of, Other}
use Rattle.soundness_cells.proofs.PassSteps as steps
use Rattle.soundness_values.proofs.PlaceTypes.{some_holds, same_type}

-- where a node stands, but for the items; and the numbers of the nodes around it, with the names to which `let` gives
-- values around it: the keys of the cells into which values of such nodes go
pub record Standpoint : Type 0 where
  pub entries : List InScope
  pub closure : Option InScope
  pub loops : List LoopAround
  pub answer : TyId
  pub outside : List ℕ

abbrev pub context : ItemTable → Standpoint → Context
context items x =
    record { items = items; entries = x.entries; closure = x.closure; loops = x.loops; answer = x.answer }

abbrev pub with_names : List InScope → Standpoint → Standpoint
with_names new x = record x { entries = new ++ x.entries }

abbrev pub in_a_loop : LoopAround → Standpoint → Standpoint
in_a_loop a x = record x { loops = a ∷ x.loops }

-- inside a node with this number
abbrev pub beside : ℕ → Standpoint → Standpoint
beside id x = record x { outside = id ∷ x.outside }

-- what stands behind some statements
abbrev pub behind : Standpoint → Nodes → Standpoint
behind x no_node = x
behind x (a_node (node id at ty by form) rest) = behind (with_names (typing.entries_in form) x) rest

pub left : (a b : Bool) → (a && b) ≡ true → a ≡ true
left true b e = refl
left false b e = absurd (false≢true e)

pub first_of_three : (a b c : Bool) → ((a && b) && c) ≡ true → a ≡ true
first_of_three a b c e = left a b (left (a && b) c e)

pub right : (a b : Bool) → (a && b) ≡ true → b ≡ true
right true b e = e
right false b e = absurd (false≢true e)

-- a name has nothing inside
pub name_alone : (form : Form) → IsName form → nodes_in form ≡ []
name_alone (tree.Binding name) n = refl
name_alone other n = absurd n

module _ {V : Type 0} (items : ItemTable) (needs : ℕ → Bool) (q : Effects V) (clear : V → ℕ → Type 0)
    (keeps : KeepsClear q needs clear) (fuel : ℕ) where
  abbrev Held : (ℕ → Type 0) → List Entry → V → Type 0
  Held = scopes.Held items needs q clear keeps

  abbrev After : Context → LoopsAndGuards → (ℕ → Type 0) → (Scopes → Type 0) → Exit → Scopes → V → Type 0
  After = scopes.After items needs q clear keeps

  abbrev AroundOk : Context → LoopsAndGuards → Scopes → Type 0
  AroundOk = scopes.AroundOk items needs

  abbrev Inside : Bool → Scopes → Scopes → Type 0
  Inside = scopes.Inside items needs

  abbrev Grown : Bool → Scopes → Scopes → Type 0
  Grown = scopes.Grown items needs

  abbrev Grows : Scopes → Scopes → Type 0
  Grows = scopes.Grows items needs

  abbrev Lands : Scopes → ℕ → Type 0
  Lands = scopes.Lands items needs

  abbrev Typed : Entry → Type 0
  Typed = scopes.Typed items needs

  abbrev Suits : TyId → Destination → Type 0
  Suits = scopes.Suits items needs

  abbrev Sound : Context → Meaning V → Type 0
  Sound = rules.Sound items needs q clear keeps

  abbrev DoesSo : Context → LoopsAndGuards → (ℕ → Type 0) → Does V → Type 0
  DoesSo = steps.DoesSo items needs q clear keeps

  abbrev Good : List Node → Type 0
  Good = nodes.Good items needs q clear keeps fuel

  abbrev pub K : Standpoint → Context
  K = context items

  abbrev pub M : Node → Meaning V
  M = meaning items q fuel

  abbrev pub Ms : Nodes → List (Meaning V)
  Ms = meanings items q fuel

  abbrev pub Mf : Fields → List (ℕ × Meaning V)
  Mf = fields_of items q fuel

  abbrev pub AllSound : Context → List (Meaning V) → Type 0
  AllSound = rules.AllSound items needs q clear keeps

  pub g_left : (a b : List Node) → Good (a ++ b) → Good a
  g_left = nodes.good_left items needs q clear keeps fuel

  pub g_right : (a b : List Node) → Good (a ++ b) → Good b
  g_right = nodes.good_right items needs q clear keeps fuel

  -- ---- small facts

  -- a cell of a type that needs no dropping
  pub free_cell : (c : Context) (n : Node) → Sound c (M n) → needs_drop items (ty_of n) ≡ false → needs (M n).head.id ≡ false
  free_cell c n sound e = sound.in_cell (ap (needs_drop items) (type_is items q fuel n) ∙ e)

  pub free_suits : (ty : TyId) (to : Destination) → needs (key_of to) ≡ false → (is_never items ty ≡ true) ⊎ Suits ty to
  free_suits ty to e = inr (λ k. e)

  pub node_suits : (n : Node) (want : TyId) (to : Destination) → types.fits items want (ty_of n) ≡ true → Suits want to →
      (is_never items (M n).head.ty ≡ true) ⊎ Suits (M n).head.ty to
  node_suits n want to e s = subst (λ t. (is_never items t ≡ true) ⊎ Suits t to) (sym (type_is items q fuel n))
      (nodes.fits_suit items needs q clear keeps fuel want (ty_of n) to e s)

  pub same_suits : (n : Node) (want : TyId) (to : Destination) → types.is_same want (ty_of n) ≡ true → Suits want to →
      (is_never items (M n).head.ty ≡ true) ⊎ Suits (M n).head.ty to
  same_suits n want to e s = inr (subst (λ t. Suits t to) (same_type want (ty_of n) e ∙ sym (type_is items q fuel n)) s)

  pub wanted_fits : (c : Context) (want : TyId) (n : Node) → Holds (typing.typed c (Wanted want) n) →
      types.fits c.items want (ty_of n) ≡ true
  wanted_fits c want (node id at ty by form) h = h.0.1

  pub same_grows : (c : Context) (around : LoopsAndGuards) (flying : ℕ → Type 0) (S : Scopes) (exit : Exit) (T : Scopes) (v : V) →
      After c around flying (λ Z. Z ≡ S) exit T v → After c around flying (Grows S) exit T v
  same_grows c around flying S exit T v x = (subst (Grows S) (sym x.0) (scopes.not_grown items needs S), x.1)

  -- alone, in scopes that stay as they were
  pub alone_in : (c : Context) (around : LoopsAndGuards) (m : Meaning V) (to : Destination) (S : Scopes) (v : V) → Sound c m →
      AroundOk c around S → Held Nothing (entries_of S) v → Lands S (key_of to) →
      (is_never items m.head.ty ≡ true) ⊎ Suits m.head.ty to →
      Shown any (After c around (λ key. key ≡ key_of to) (λ T. T ≡ S)) (forms.alone items q around m to S v)
  alone_in c around m to S v sound ok k lands suits = steps.alone_so items needs q clear keeps c around (λ key. key ≡ key_of to) S
      (m.evaluate around true to S v) (sound.evaluates around true to S v ok k (λ e. lands) suits)

  pub alone_grows : (c : Context) (around : LoopsAndGuards) (m : Meaning V) (to : Destination) (S : Scopes) (v : V) → Sound c m →
      AroundOk c around S → Held Nothing (entries_of S) v → Lands S (key_of to) →
      (is_never items m.head.ty ≡ true) ⊎ Suits m.head.ty to →
      Shown any (After c around (λ key. key ≡ key_of to) (Grows S)) (forms.alone items q around m to S v)
  alone_grows c around m to S v sound ok k lands suits =
      shown_more any (same_grows c around (λ key. key ≡ key_of to) S) (forms.alone items q around m to S v)
      (alone_in c around m to S v sound ok k lands suits)

  pub from_condition : (c : Context) (around : LoopsAndGuards) (flying : ℕ → Type 0) (S : Scopes) (exit : Exit) (T : Scopes) (v : V) →
      Other exit → After c around Nothing (λ Z. Z ≡ S) exit T v → After c around flying (Grows S) exit T v
  from_condition c around flying S exit T v o x = rules.other_exit items needs q clear keeps c around Nothing flying (λ Z. Z ≡ S) (Grows S)
      (λ Z e. subst (Grows S) (sym e) (scopes.not_grown items needs S)) exit T v o x

  -- fields stand in the order of their numbers
  pub inserted : (n : ℕ) (m : Meaning V) (fields : List (ℕ × Meaning V)) (key : ℕ) →
      (m.head.id ≡ key) ⊎ InList (keys_of (values_of fields)) key →
      InList (keys_of (values_of (insert_field n m fields))) key
  inserted n m [] key (inl e) = inl e
  inserted n m [] key (inr k) = inr k
  inserted n m (f ∷ fields) key h = by (nat_lt n f.0) h (λ k. inserted n m fields key k)
    where
      by : (b : Bool) → (m.head.id ≡ key) ⊎ ((f.1.head.id ≡ key) ⊎ InList (keys_of (values_of fields)) key) →
          ((m.head.id ≡ key) ⊎ InList (keys_of (values_of fields)) key →
          InList (keys_of (values_of (insert_field n m fields))) key) →
          InList (keys_of (values_of (if b then (n, m) ∷ f ∷ fields else f ∷ insert_field n m fields))) key
      by true k later = k
      by false (inl e) later = inr (later (inl e))
      by false (inr (inl e)) later = inl e
      by false (inr (inr k)) later = inr (later (inr k))

  pub in_order : (fields : List (ℕ × Meaning V)) (key : ℕ) → InList (keys_of (values_of fields)) key →
      InList (keys_of (values_of (in_number_order fields))) key
  in_order [] key k = k
  in_order (f ∷ fields) key (inl e) = inserted f.0 f.1 (in_number_order fields) key (inl e)
  in_order (f ∷ fields) key (inr k) = inserted f.0 f.1 (in_number_order fields) key (inr (in_order fields key k))

  -- a box needs dropping
  pub box_needs : (id : TyId) → is_some (types.boxed_of items id) ≡ true → needs_drop items id ≡ true
  box_needs id e = by (length items.types) refl
    where
      empty : (ts : List Ty) → length ts ≡ 0 → is_some (option_and_then types.boxed_in (slice_get ts id.0)) ≡ true → ⊥
      empty [] l h = false≢true h
      empty (t ∷ ts) l h = let never : ⊥ = cc in never

      rule : (k : ℕ) (o : Option Ty) → is_some (option_and_then types.boxed_in o) ≡ true →
          option_map_or (drop_rule items.adts items.closures (in_rounds items.types (drop_rule items.adts items.closures) k)) o false
          ≡ true
      rule k None h = absurd (false≢true h)
      rule k (Some (Ty.Boxed content)) h = refl
      rule k (Some other) h = absurd (false≢true h)

      by : (k : ℕ) → length items.types ≡ k → in_rounds items.types (drop_rule items.adts items.closures) k id ≡ true
      by zero l = absurd (empty items.types l e)
      by (suc k) l = rule k (type_at items id) e

  -- what makes a box is no block, branch or loop
  pub leaf_shape : (form : Form) (c : Context) (id : ℕ) (ty : TyId) (h : NodeHead) → c.items ≡ items →
      typing.is_leaf form ≡ true → needs_drop items ty ≡ true → Holds (typing.row c id ty form) →
      (shape_of items form h).in_destination ≡ false
  leaf_shape (tree.Block statements tail) c id ty h i e d r = absurd (false≢true e)
  leaf_shape (tree.If condition consequent otherwise) c id ty h i e d r = absurd (false≢true e)
  leaf_shape (tree.IfLet pattern scrutinee consequent otherwise) c id ty h i e d r = absurd (false≢true e)
  leaf_shape (tree.Match scrutinee arms) c id ty h i e d r = absurd (false≢true e)
  leaf_shape (tree.Loop body) c id ty h i e d r = absurd (false≢true e)
  leaf_shape (tree.While condition body) c id ty h i e d r = absurd (false≢true (sym (nodes.unit_none items needs q clear keeps fuel ty
      (subst (λ t. types.is_unit t ty ≡ true) i r.1.1.1.1)) ∙ d))
  leaf_shape (tree.WhileLet pattern scrutinee body) c id ty h i e d r = absurd (false≢true (sym (nodes.unit_none items needs q clear keeps fuel ty
      (subst (λ t. types.is_unit t ty ≡ true) i r.1.1.1.1)) ∙ d))
  leaf_shape other c id ty h i e d r = refl

  -- what is assigned whole is a variable, which is an entry
  pub stored_root : (form : Form) (x : Standpoint) (id : ℕ) (ty : TyId) (by : Option Use) →
      is_place form ≡ true → Holds (typing.row (K x) id ty form) → (around : LoopsAndGuards) (S : Scopes) →
      AroundOk (K x) around S → (key : ℕ) →
      (shape_of items form (head id ty by)).place around.aliases ≡ whole_local key → Among (entries_of S) key
  stored_root (tree.Variable key) x id ty by e h around S ok k p =
      let y = some_holds (entry_with key x.entries) (λ y. fact (types.is_same ty y.ty)) h in ok.names key y.0 y.1.0 k p
  stored_root (tree.Captured closure part name) x id ty by e h around S ok k p =
      absurd (nodes.no_whole items needs q clear keeps fuel (ToPart part) (place_of_key closure around.aliases) k p)
  stored_root (tree.Field base part) x id ty by e h around S ok k p =
      absurd (nodes.no_whole items needs q clear keeps fuel (ToPart part) ((shape items base).place around.aliases) k p)
  stored_root (tree.Index base index length) x id ty by e h around S ok k p =
      absurd (nodes.no_whole items needs q clear keeps fuel (ToElement (number_of index)) ((shape items base).place around.aliases) k p)
  stored_root (tree.Deref base) x id ty by e h around S ok k p =
      absurd (nodes.no_whole items needs q clear keeps fuel ToContent ((shape items base).place around.aliases) k p)
  stored_root other x id ty by e h around S ok k p = absurd (false≢true e)

  -- the place that is assigned
  pub stored_names : (place : Node) (x : Standpoint) → Holds (typing.typed (K x) Stored place) → (around : LoopsAndGuards)
      (S : Scopes) → AroundOk (K x) around S → (key : ℕ) → place_of (M place) around ≡ whole_local key →
      Among (entries_of S) key
  stored_names (node id at ty by form) x h around S ok key p =
      stored_root form x id ty by (first_of_three (is_place form) _ _ h.0.0) h.1 around S ok key
      (sym (ap (λ s. s.place around.aliases) (shape_is items q fuel (node id at ty by form))) ∙ p)

  -- bindings of a pattern as the evaluation has them
  pub bindings_of : (p : Node) (place : Place) → (M p).shape.bindings place ≡ (shape items p).bindings place
  bindings_of p place = ap (λ s. s.bindings place) (shape_is items q fuel p)

  pub pattern_here : (p : Node) (m : Matched) (want : TyId) → Holds (pattern_rules.pattern items m want p) →
      Good (nodes_of p) → (place : Place) →
      names.PatternOk items needs q clear keeps fuel (nodes_of p) place ((M p).shape.bindings place)
  pattern_here p m want h g place = subst (names.PatternOk items needs q clear keeps fuel (nodes_of p) place) (sym (bindings_of p place))
      (names.pattern_ok items needs q clear keeps fuel p m want h g place)

  -- in the scope of the names of a pattern
  pub named_ok : (p : Node) (x : Standpoint) (around : LoopsAndGuards) (T : Scopes) (place : Place) →
      names.PatternOk items needs q clear keeps fuel (nodes_of p) place ((M p).shape.bindings place) → AroundOk (K x) around T →
      ((key : ℕ) → patterns.BoundIn items needs q clear keeps ((M p).shape.bindings place) key → Among (entries_of T) key) →
      AroundOk (K (with_names (pattern_rules.entries_of p) x)) around T
  named_ok p x around T place ok around_ok bound = named.around_named items needs q clear keeps fuel (K x) (pattern_rules.entries_of p) around T
      around_ok (λ key y e. bound key (named.scope_covered items needs q clear keeps fuel p ((M p).shape.bindings place) ok.covers key y e))

  abbrev pub OkAt : Exit → Context → LoopsAndGuards → Scopes → Type 0
  OkAt Value c around S = AroundOk c around S
  OkAt (Breaks loop) c around S = Unit {0}
  OkAt (Continues loop) c around S = Unit {0}
  OkAt Returns c around S = Unit {0}
  OkAt Panics c around S = Unit {0}

  pub other_ok : (exit : Exit) (c : Context) (around : LoopsAndGuards) (S : Scopes) → Other exit → OkAt exit c around S
  other_ok Value c around S o = absurd o
  other_ok (Breaks loop) c around S o = tt
  other_ok (Continues loop) c around S o = tt
  other_ok Returns c around S o = tt
  other_ok Panics c around S o = tt

  pub same_loops : (ns : Nodes) (x : Standpoint) → (behind x ns).loops ≡ x.loops
  same_loops no_node x = refl
  same_loops (a_node (node id at ty by form) rest) x = same_loops rest (with_names (typing.entries_in form) x)

  pub same_answer : (ns : Nodes) (x : Standpoint) → (behind x ns).answer ≡ x.answer
  same_answer no_node x = refl
  same_answer (a_node (node id at ty by form) rest) x = same_answer rest (with_names (typing.entries_in form) x)

  pub behind_holds : (ns : Nodes) (x : Standpoint) (rest : Context → Claim) → Holds (typing.statements (K x) ns rest) →
      Holds (rest (K (behind x ns)))
  behind_holds no_node x rest h = h
  behind_holds (a_node (node id at ty by form) more) x rest h =
      behind_holds more (with_names (typing.entries_in form) x) rest h.1.1

  -- a jump out of what is behind statements is one out of the block
  pub behind_held : (ns : Nodes) (x : Standpoint) (around : LoopsAndGuards) (flying : ℕ → Type 0) (exit : Exit) (T : Scopes) (v : V) →
      scopes.HeldAt items needs q clear keeps (K (behind x ns)) around flying exit T v → scopes.HeldAt items needs q clear keeps (K x) around flying exit T v
  behind_held ns x around flying Value T v h = h
  behind_held ns x around flying (Breaks loop) T v h =
      (h.0, (h.1.0, subst (λ l. loop_with loop l ≡ Some h.1.0) (same_loops ns x) h.1.1))
  behind_held ns x around flying (Continues loop) T v h = h
  behind_held ns x around flying Returns T v h = h
  behind_held ns x around flying Panics T v h = h
