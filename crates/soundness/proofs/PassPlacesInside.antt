-- What is said of the places of a form, said of its parts.
use Rattle.std.proofs.Common.{◌≡◌, inl, ℕ, ◌==◌, ◌||◌, Bool, if◌then◌else◌, true, false, List, [], ◌∷◌, ◌++◌, Option, Some, refl, ap, sym, subst}
use Rattle.std.proofs.lemmas.Bool.Decides.{Decides-eqb}
use Rattle.mir_base.specs.declared.place_in_text.Pos.{Pos}
use Rattle.mir_ty.specs.declared.ty.TyId.{TyId}
use Rattle.mir_ty.specs.ItemTable.{ItemTable}
use Rattle.store_model.specs.Effects.{Effects}
use Rattle.store_model.specs.Places.Place.{Place}
use Rattle.typed_tree.specs.declared.node.Use.{Use}
use Rattle.typed_tree.specs.Nodes.{number_of, nodes_of}
use Rattle.typed_tree.specs.Tree as tree
use Rattle.typed_tree.specs.Tree.{Node, node, Form, Nodes, no_node, a_node, Fields, MaybeNode, BodyTree}
use Rattle.src_meaning.specs.Evaluation.{meanings, fields_of, meaning_if_any, to_own_key}
use Rattle.src_meaning.specs.Forms.{Destination, Into, coerced, LoopsAndGuards, Meaning, in_loop, loop_destination, Coerced}
use Rattle.src_meaning.specs.Scopes.{Entry}
use Rattle.well_typed.specs.Nodes as typing
use Rattle.well_typed.specs.Places.{LoopAround, Context, is_borrow, form_of}
use Rattle.soundness_values.proofs.AlsoTests.{Also}
use Rattle.soundness_values.proofs.Checked.{Checking}
use Rattle.soundness_values.proofs.Facts.{Facts}
use Rattle.soundness_cells.proofs.PassCellPatterns as cells_of
use Rattle.soundness_cells.proofs.PassCellPatterns.{Told, Has}
use Rattle.soundness_cells.proofs.PassFacts.{Standpoint, context, with_names, in_a_loop, behind, beside}
use Rattle.soundness_values.proofs.PassHeads.{number_is}
use Rattle.soundness.proofs.PassAloneRun.{BorrowAt}
use Rattle.soundness_frame.proofs.PassFrameBodies.{any_place}
use Rattle.soundness.proofs.PassPlacesCalm.{watching}
use Rattle.soundness.proofs.PassPlacesNodes.{M, Of, P, Outside, Es, Rs, AllE, Asked, Made, Own}
use Rattle.soundness.proofs.PassPlacesReach.{Keeps}
use Rattle.soundness.proofs.PassPlacesScope as scope
use Rattle.soundness.proofs.PassPlacesScope.{Stood, Bindings}
use Rattle.soundness_frame.proofs.PassTold.{ids, IfRoot, no_append}
use Rattle.soundness_frame.proofs.PassToldPlaces.{AllPermit, permit_left, permit_right, is_alias}
use Rattle.soundness_frame.proofs.PassToldParts.{argument_told, receiver_told}
use Rattle.typing_rules.specs.Accesses as accesses
use Rattle.typing_rules.specs.Accesses.{Accessed, CollectedAccesses, ◌⊕◌, root_of}
use Rattle.soundness_frame.proofs.PassWithin.{Outer, is_among, DestIn, also_among, further_in}

module _ (items : ItemTable) (body : BodyTree) (also : Also) (told : Told items) (fuel : ℕ)
    (bs : Bindings items body) (asked : Asked items body also told fuel bs) where
  abbrev V : Type 0
  V = Checking Facts

  abbrev K : Standpoint → Context
  K = context items

  abbrev r : Effects V
  r = watching items body also bs.aliases

  abbrev N : Node → Meaning V
  N = M items body also told fuel bs

  abbrev Ns : Nodes → List (Meaning V)
  Ns = meanings items (watching items body also bs.aliases) fuel

  abbrev Nf : Fields → List (ℕ × Meaning V)
  Nf = fields_of items (watching items body also bs.aliases) fuel

  abbrev Ni : MaybeNode → Option (Meaning V)
  Ni = meaning_if_any items (watching items body also bs.aliases) fuel

  abbrev F : Form → ℕ → TyId → Option Use → Meaning V
  F = Of items body also told fuel bs

  abbrev E : Outer → Meaning V → Type 0
  E = Es items body also told fuel bs

  abbrev Own_ : Outer → Meaning V → Type 0
  Own_ = Own items body also told fuel bs

  abbrev R : Outer → Place → Meaning V → Type 0
  R = Rs items body also told fuel bs

  abbrev L : Outer → List (Meaning V) → Type 0
  L = AllE items body also told fuel bs

  abbrev Out : Outer → LoopsAndGuards → Type 0
  Out = Outside items body also told fuel bs

  abbrev Pn : Node → Place
  Pn = P items body also told fuel bs

  abbrev Is : Node → Type 0
  Is = Made items body also told fuel bs

  abbrev H : List Entry → Type 0
  H = Has items body

  abbrev left : (a b : List Entry) → H (a ++ b) → H a
  left = cells_of.has_left items body

  abbrev right : (a b : List Entry) → H (a ++ b) → H b
  right = cells_of.has_right items body

  abbrev here_left : (x : Standpoint) (a b : List Node) → Stood items body bs x (a ++ b) → Stood items body bs x a
  here_left = scope.stood_left items body bs

  abbrev here_right : (x : Standpoint) (a b : List Node) → Stood items body bs x (a ++ b) → Stood items body bs x b
  here_right = scope.stood_right items body bs

  -- nothing conflicts in a node, nor inside one, nor in a form
  abbrev Fine : CollectedAccesses → Type 0
  Fine = scope.Free items body bs

  abbrev pub Free : Node → Type 0
  Free n = Fine (accesses.told bs.outer n)

  abbrev FreeInside : Node → Type 0
  FreeInside n = Fine (accesses.inside bs.outer n)

  abbrev pub FreeIn : Form → Type 0
  FreeIn form = (at : Pos) × Fine (accesses.told_form bs.outer at form)

  abbrev Permitted : List Accessed → Type 0
  Permitted = AllPermit items (IfRoot items any_place (scope.Of items body)) bs.outer

  -- the first and the second of what is told
  pub lt : (as_ bs_ : List Accessed) (cs ds : List Pos) → Permitted (as_ ++ bs_) × (cs ++ ds ≡ []) →
      Permitted as_ × (cs ≡ [])
  lt as_ bs_ cs ds t = (
    permit_left items (IfRoot items any_place (scope.Of items body)) bs.outer as_ bs_ t.0,
    (no_append cs ds t.1).0,
  )

  pub rt : (as_ bs_ : List Accessed) (cs ds : List Pos) → Permitted (as_ ++ bs_) × (cs ++ ds ≡ []) →
      Permitted bs_ × (ds ≡ [])
  rt as_ bs_ cs ds t = (
    permit_right items (IfRoot items any_place (scope.Of items body)) bs.outer as_ bs_ t.0,
    (no_append cs ds t.1).1,
  )

  abbrev T : Node → CollectedAccesses
  T = accesses.told bs.outer

  pub lo : (a c : CollectedAccesses) → Fine (a ⊕ c) → Fine a
  lo a c t = lt a.accesses c.accesses a.conflicts c.conflicts t

  pub hi : (a c : CollectedAccesses) → Fine (a ⊕ c) → Fine c
  hi a c t = rt a.accesses c.accesses a.conflicts c.conflicts t

  -- what is assigned is no binding of a guard
  pub unbound : (target value : Node) (at : Pos) → Fine (accesses.told_form bs.outer at (tree.Assign target value)) →
      (key : ℕ) → root_of target ≡ Some key → is_alias bs.outer key ≡ true → ⊥
  unbound target value at t key same u =
      (rt inner.accesses own.accesses inner.conflicts []
      (rt (accesses.told bs.outer value).accesses (inner.accesses ++ own.accesses)
      (accesses.told bs.outer value).conflicts (inner.conflicts ++ []) t)).0.0.replaced key refl same u
    where
      inner : CollectedAccesses
      inner = accesses.inside bs.outer target

      own : CollectedAccesses
      own = accesses.one accesses.Stores (accesses.place_of bs.outer target) (root_of target) at

  pub inside_free : (n : Node) → Free n → FreeInside n
  inside_free (node id at ty by form) e = lt _ _ _ _ e

  pub argument_free : (n : Node) → Fine (accesses.argument bs.outer n).told → Free n
  argument_free n e = subst Fine (argument_told n bs.outer) e

  pub receiver_free : (n : Node) → Fine (accesses.receiver_of bs.outer n (accesses.told bs.outer n)).told → Free n
  receiver_free n e = subst Fine (receiver_told n bs.outer (accesses.told bs.outer n)) e

  -- where the value of a node goes: into a cell around, or its own; a borrow goes to its own
  abbrev Home : Form → ℕ → Standpoint → Destination → Type 0
  Home form id x to = (DestIn x.outside to × (is_among id x.outside ≡ true))
      × (is_borrow form ≡ true → (to ≡ Into id) × BorrowAt items body also id)

  abbrev pub Goes : Form → ℕ → Standpoint → Meaning V → Type 0
  Goes form id x m = (around : LoopsAndGuards) → Out (ids x) around → (own : Bool) (to : Destination) →
      Home form id x to → Keeps items body also bs.aliases (m.evaluate around own to)

  pub home : (b : Bool) (id : ℕ) (to : Destination) → to ≡ Into id → to_own_key b id to ≡ Into id
  home true id to e = refl
  home false id to e = e

  pub itself : (id : ℕ) (keys : List ℕ) → is_among id (id ∷ keys) ≡ true
  itself id keys = ap (λ b. b || is_among id keys) ((Decides-eqb id id).1 refl)

  -- its own cell, or that of the whole
  pub into_in : (keys : List ℕ) (b : Bool) (id : ℕ) (to : Destination) → DestIn keys to × (is_among id keys ≡ true) →
      DestIn keys (to_own_key b id to)
  into_in keys true id to d = d.1
  into_in keys false id to d = d.0

  pub branch_in : (n : Node) (keys : List ℕ) (b : Bool) (id : ℕ) (to : Destination) →
      DestIn keys to × (is_among id keys ≡ true) → DestIn ((N n).head.id ∷ keys) (to_own_key b id to)
  branch_in n keys b id to d = further_in (N n).head.id keys (to_own_key b id to) (into_in keys b id to d)

  pub coerced_in : (key trait_no : ℕ) (keys : List ℕ) (to : Destination) → DestIn keys to →
      DestIn (key ∷ keys) (coerced key trait_no to)
  coerced_in key trait_no keys (Into to) d = (itself key keys, also_among key keys to d)
  coerced_in key trait_no keys (Coerced other another to) d = (itself key keys, also_among key keys to d.1)

  pub inner : (id : ℕ) (x : Standpoint) (around : LoopsAndGuards) → Out (ids x) around → Out (ids (beside id x)) around
  inner id x around na = (
    na.0,
    (
      further_in id x.outside around.answer na.1.0,
      λ loop i. further_in id x.outside (loop_destination loop around.loops) (na.1.1 loop i),
    ),
  )

  pub looped : (a : LoopAround) (x : Standpoint) (to : Destination) (around : LoopsAndGuards) → Out (ids x) around →
      DestIn x.outside to → Out (ids (in_a_loop a x)) (in_loop a.loop to around)
  looped a x to around na d = (na.0, (na.1.0, λ loop i. keyed loop (loop == a.loop) i))
    where
      keyed : (loop : ℕ) (b : Bool) → (b || is_among loop (ids x).loops) ≡ true →
          DestIn x.outside (if b then to else loop_destination loop around.loops)
      keyed loop true i = d
      keyed loop false i = na.1.1 loop i

  -- names change nothing of cells and loops around
  pub statement_out : (form : Form) (x : Standpoint) (around : LoopsAndGuards) → Out (ids x) around →
      Out (ids (with_names (typing.entries_in form) x)) around
  statement_out form x around na = na

  pub behind_out : (ns : Nodes) (x : Standpoint) (around : LoopsAndGuards) → Out (ids x) around →
      Out (ids (behind x ns)) around
  behind_out no_node x around na = na
  behind_out (a_node (node id at ty by form) rest) x around na =
      behind_out rest (with_names (typing.entries_in form) x) around na

  pub behind_in : (ns : Nodes) (x : Standpoint) (to : Destination) → DestIn x.outside to → DestIn (behind x ns).outside to
  behind_in no_node x to d = d
  behind_in (a_node (node id at ty by form) rest) x to d = behind_in rest (with_names (typing.entries_in form) x) to d

  pub goes_home : (n : Node) (x : Standpoint) → Stood items body bs x (nodes_of n) →
      Home (form_of n) (number_of n) (beside (number_of n) x) (Into (N n).head.id)
  goes_home (node id at ty by form) x g = (
    (
      subst (λ z. is_among z (id ∷ x.outside) ≡ true) (sym (number_is items r fuel (node id at ty by form)))
          (itself id x.outside),
      itself id x.outside,
    ),
    λ b. (
      ap Into (number_is items r fuel (node id at ty by form)),
      (node id at ty by form, (refl, (b, g.here.all (node id at ty by form) (inl refl)))),
    ),
  )
