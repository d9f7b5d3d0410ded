-- Literals, places, operators, assignments, references and built-in calls do with cells what is well, given that the
-- nodes inside do.
use Rattle.std.proofs.Common.{ℤ, ◌≡◌, ℕ, not, Bool, true, false, List, [], ◌∷◌, ◌++◌, Option, Some, None, if◌then◌else◌, refl, ap, sym, ◌∙◌, subst}
use Rattle.mir_base.specs.declared.trace.Why.{Why}
use Rattle.std.specs.Prelude.{option_and_then}
use Rattle.std.proofs.lemmas.Bool.{false≢true}
use Rattle.std.proofs.lemmas.Option.{none-some}
use Rattle.mir_ty.specs.declared.ty.Ty.{Ty}
use Rattle.mir_ty.specs.declared.ty.TyId.{TyId}
use Rattle.mir_ty.specs.Facts.{needs_drop}
use Rattle.mir_ty.specs.ItemTable.{ItemTable, type_at}
use Rattle.store_model.specs.Effects as effects
use Rattle.store_model.specs.Places.Place.{is_reference}
use Rattle.store_model.specs.Places.TypeForms.{referent}
use Rattle.typed_tree.specs.declared.node.Use.{Use}
use Rattle.typed_tree.specs.Tree as tree
use Rattle.typed_tree.specs.Tree.{Node, node, Form, BodyTree}
use Rattle.src_meaning.specs.Evaluation as evaluation
use Rattle.src_meaning.specs.Evaluation.{meaning, meaning_of}
use Rattle.src_meaning.specs.Forms as forms
use Rattle.src_meaning.specs.Forms.{Destination, coerced, LoopsAndGuards, Meaning, moved, is_never, site_in, site_of}
use Rattle.src_meaning.specs.Locals.OfBody.{cells, cells_in}
use Rattle.src_meaning.specs.Scopes.{Entry, Scopes, Run, Value, At}
use Rattle.src_meaning.specs.Shape.{Aliases, head, shape_of, kind_of, moves}
use Rattle.well_typed.specs.Claim.{Holds, fact, both}
use Rattle.well_typed.specs.Nodes as typing
use Rattle.well_typed.specs.Places.{Context, ty_of, form_of, is_place, Taken, Wanted}
use Rattle.well_typed.specs.Types as types
use Rattle.soundness_values.proofs.Checked.{Checking}
use Rattle.soundness_values.proofs.Facts.{Facts}
use Rattle.soundness_values.proofs.Leaving.{Shown}
use Rattle.soundness_cells.proofs.PassCellNames.{Names, PlaceOk, cell_ok}
use Rattle.soundness_cells.proofs.PassCellPlaces.{Scoped}
use Rattle.soundness_cells.proofs.PassCellSites as sites
use Rattle.soundness_cells.proofs.PassCellActs as acts
use Rattle.soundness_cells.proofs.PassCellActs.{Cell}
use Rattle.soundness_cells.proofs.PassCellEffects.{marked_run, may_end, Acts, Tests, Drops, Made, does_well}
use Rattle.soundness_cells.proofs.PassCellNodes as nodes
use Rattle.soundness_cells.proofs.PassCellPlainTypes.{Known, plain_alone, plain_listed}
use Rattle.soundness_cells.proofs.PassCellPlain.{taken_plain}
use Rattle.soundness_cells.proofs.PassCellNodes.{May, Post, Fine, Well, Reach, Reached, Own, AroundWell, Dest, IsMade}
use Rattle.soundness_cells.proofs.PassCellPatterns as cells_of
use Rattle.soundness_cells.proofs.PassCellPatterns.{Told, Has, made_of_never}
use Rattle.soundness_cells.proofs.PassCellTypes as facts
use Rattle.soundness_cells.proofs.PassCellTypes.{Alone}
use Rattle.soundness_cells.proofs.PassFacts.{Standpoint, context}
use Rattle.soundness_values.proofs.PassHeads.{number_is, type_is}
use Rattle.soundness_cells.proofs.PassWell as rules
use Rattle.soundness_cells.proofs.PassWellBranches as branches
use Rattle.soundness_values.proofs.PlaceTypes.{some_holds, same_type}
use Rattle.soundness_cells.proofs.PassCellStands as stand
use Rattle.soundness_cells.proofs.PassCellParts as at_nodes
use Rattle.mir_base.specs.declared.operator.Cmp.{Cmp}
use Rattle.mir_base.specs.declared.operator.Math.{Math}

module _ (items : ItemTable) (body : BodyTree) (told : Told items) (fuel : ℕ) where
  abbrev V : Type 0
  V = Checking Facts

  abbrev K : Standpoint → Context
  K = context items

  abbrev M : Node → Meaning V
  M = meaning items (marked_run items body) fuel

  abbrev Of : Form → ℕ → TyId → Option Use → Meaning V
  Of form id ty by =
      meaning_of items (marked_run items body) fuel form (head id ty by) (shape_of items form (head id ty by))

  abbrev H : List Entry → Type 0
  H = Has items body

  abbrev W : Standpoint → Meaning V → Type 0
  W x = Well items body (K x)

  abbrev left : (a b : List Entry) → H (a ++ b) → H a
  left = cells_of.has_left items body

  abbrev right : (a b : List Entry) → H (a ++ b) → H b
  right = cells_of.has_right items body

  abbrev more_valued : (c : Context) (valued valued' : Type 0) → (valued → valued') → (r : Run V) →
      Shown may_end (Post items body c valued) r → Shown may_end (Post items body c valued') r
  more_valued = rules.more_valued items (marked_run items body) may_end (Acts items body) (Tests items body)
      (Drops items body) (Made items body) (does_well items body) (Cell items body) (May items body) (Names items body)

  abbrev alone_well : (c : Context) (around : LoopsAndGuards) (m : Meaning V) (to : Destination) →
      AroundWell items body c around → Well items body c m → Dest items body m.head.ty to → (S : Scopes) (v : V) →
      Fine items body S → Shown may_end (Post items body c (IsMade items body m.head.ty))
      (forms.alone items (marked_run items body) around m to S v)
  alone_well = rules.alone_well items (marked_run items body) may_end (Acts items body) (Tests items body)
      (Drops items body) (Made items body) (does_well items body) (Cell items body) (May items body) (Names items body)

  pub number_well : (value : ℤ) (x : Standpoint) (id : ℕ) (ty : TyId) (by : Option Use) →
      Holds (typing.row (K x) id ty (tree.Number value)) →
      W x (Of (tree.Number value) id ty by)
  number_well value x id ty by h =
      let n = facts.number_is items ty value h in
      nodes.effect_well items body fuel (K x) (head id ty by) (shape_of items (tree.Number value) (head id ty by))
      (λ site. effects.Put site (effects.Number value (kind_of items ty)))
      (at_nodes.sorted_delivers items body told fuel (head id ty by)
      (λ site. effects.Put site (effects.Number value (kind_of items ty))) n.1.1
      (λ key c. acts.put_number items body id key value (kind_of items ty) ty c n.1.1.0 n.1.0 n.0) (λ key m. m))

  pub truth_well : (value : Bool) (x : Standpoint) (id : ℕ) (ty : TyId) (by : Option Use) →
      Holds (typing.row (K x) id ty (tree.Truth value)) →
      W x (Of (tree.Truth value) id ty by)
  truth_well value x id ty by h =
      nodes.effect_well items body fuel (K x) (head id ty by) (shape_of items (tree.Truth value) (head id ty by))
      (λ site. effects.Put site (effects.Truth value))
      (λ to g. nodes.truth_delivers items body fuel (head id ty by) value to h g)

  pub unit_value_well : (x : Standpoint) (id : ℕ) (ty : TyId) (by : Option Use) →
      Holds (typing.row (K x) id ty tree.UnitValue) →
      W x (Of tree.UnitValue id ty by)
  unit_value_well x id ty by h =
      nodes.effect_well items body fuel (K x) (head id ty by) (shape_of items tree.UnitValue (head id ty by))
      (λ site. effects.Put site effects.UnitValue) (λ to g. nodes.unit_delivers items body fuel (head id ty by) to h g)

  pub variable_well : (key : ℕ) (x : Standpoint) (id : ℕ) (ty : TyId) (by : Option Use) →
      (is_place (tree.Variable key) ≡ true → Alone items ty) →
      (is_never items ty ≡ true → made_of_never (tree.Variable key) ≡ true → Cell items body id ty) →
      (moves by ≡ false → needs_drop items ty ≡ false) → ((aliases : Aliases) → Names items body aliases →
      PlaceOk items body ty ((shape_of items (tree.Variable key) (head id ty by)).place aliases)) →
      W x (Of (tree.Variable key) id ty by)
  variable_well key x id ty by pa nv u placed =
      nodes.place_well items body fuel (K x) (head id ty by) (shape_of items (tree.Variable key) (head id ty by))
      (λ around. At Value) (Unit {0}) (pa refl)
      (λ n. nv n refl) u placed (λ around S w ok f. (tt, f))

  pub captured_well : (closure : ℕ) (part : ℕ) (name : List ℕ) (x : Standpoint) (id : ℕ) (ty : TyId) (by : Option Use) →
      (is_place (tree.Captured closure part name) ≡ true → Alone items ty) →
      (is_never items ty ≡ true → made_of_never (tree.Captured closure part name) ≡ true → Cell items body id ty) →
      (moves by ≡ false → needs_drop items ty ≡ false) → ((aliases : Aliases) → Names items body aliases →
      PlaceOk items body ty ((shape_of items (tree.Captured closure part name) (head id ty by)).place aliases)) →
      W x (Of (tree.Captured closure part name) id ty by)
  captured_well closure part name x id ty by pa nv u placed =
      nodes.place_well items body fuel (K x) (head id ty by)
      (shape_of items (tree.Captured closure part name) (head id ty by)) (λ around. At Value) (Unit {0})
      (pa refl) (λ n. nv n refl) u placed (λ around S w ok f. (tt, f))

  pub field_well : (base : Node) (part : ℕ) (x : Standpoint) (id : ℕ) (ty : TyId) (by : Option Use) →
      (is_place (tree.Field base part) ≡ true → Alone items ty) →
      (is_never items ty ≡ true → made_of_never (tree.Field base part) ≡ true → Cell items body id ty) →
      (moves by ≡ false → needs_drop items ty ≡ false) → ((aliases : Aliases) → Names items body aliases →
      PlaceOk items body ty ((shape_of items (tree.Field base part) (head id ty by)).place aliases)) →
      Reach items body (K x) (M base) →
      W x (Of (tree.Field base part) id ty by)
  field_well base part x id ty by pa nv u placed reach_base =
      nodes.place_well items body fuel (K x) (head id ty by) (shape_of items (tree.Field base part) (head id ty by))
      (M base).reach (Reached items body (M base))
      (pa refl) (λ n. nv n refl) u placed reach_base

  pub index_well : (base : Node) (index : Node) (count : ℕ) (x : Standpoint) (id : ℕ) (ty : TyId) (by : Option Use) →
      Holds (typing.row (K x) id ty (tree.Index base index count)) →
      (is_place (tree.Index base index count) ≡ true → Alone items ty) →
      H (cells_in items (tree.Index base index count)) →
      (is_never items ty ≡ true → made_of_never (tree.Index base index count) ≡ true → Cell items body id ty) →
      Scoped items body x →
      (moves by ≡ false → needs_drop items ty ≡ false) → ((aliases : Aliases) → Names items body aliases →
      PlaceOk items body ty ((shape_of items (tree.Index base index count) (head id ty by)).place aliases)) →
      Reach items body (K x) (M base) →
      Well items body (K x) (M index) →
      W x (Of (tree.Index base index count) id ty by)
  index_well base index count x id ty by h pa k nv s u placed reach_base well_index =
      nodes.place_well items body fuel (K x) (head id ty by)
      (shape_of items (tree.Index base index count) (head id ty by))
      (forms.reach_element items (marked_run items body) (head id ty by)
      (shape_of items (tree.Index base index count) (head id ty by)) (M base) (M index) count) (Unit {0})
      (pa refl) (λ n. nv n refl) u placed
      (at_nodes.element_with items body told fuel base index count x id ty by h k s
      reach_base
      well_index (Unit {0}) tt)

  pub deref_well : (base : Node) (x : Standpoint) (id : ℕ) (ty : TyId) (by : Option Use) →
      (is_place (tree.Deref base) ≡ true → Alone items ty) →
      (is_never items ty ≡ true → made_of_never (tree.Deref base) ≡ true → Cell items body id ty) →
      (moves by ≡ false → needs_drop items ty ≡ false) → ((aliases : Aliases) → Names items body aliases →
      PlaceOk items body ty ((shape_of items (tree.Deref base) (head id ty by)).place aliases)) →
      Reach items body (K x) (M base) →
      W x (Of (tree.Deref base) id ty by)
  deref_well base x id ty by pa nv u placed reach_base =
      nodes.place_well items body fuel (K x) (head id ty by) (shape_of items (tree.Deref base) (head id ty by))
      (M base).reach (Reached items body (M base))
      (pa refl) (λ n. nv n refl) u placed reach_base

  pub not_well : (operand : Node) (x : Standpoint) (id : ℕ) (ty : TyId) (by : Option Use) →
      Holds (typing.row (K x) id ty (tree.Not operand)) →
      H (cells_in items (tree.Not operand)) →
      Own items body (K x) (M operand) →
      W x (Of (tree.Not operand) id ty by)
  not_well operand x id ty by h k own_operand =
      let d = stand.own_dest items body told fuel operand x Taken h.0 k in
      nodes.operands_well items body fuel (K x) (head id ty by) (shape_of items (tree.Not operand) (head id ty by))
      (M operand ∷ [])
      (λ site. effects.Not site (moved id (M operand).head.id)) (own_operand, tt)
      (λ to g made. let t = facts.bool_is items ty h.1.1 in
      let o = facts.bool_is items (ty_of operand)
      (facts.made_is items (types.is_bool items (ty_of operand)) (ty_of operand)
      h.1.0 (nodes.is_made_node items body fuel operand made.0)) in
      at_nodes.sorted_delivers items body told fuel (head id ty by)
      (λ site. effects.Not site (moved id (M operand).head.id)) t.1
      (λ key c. acts.not_acts items body id key (M operand).head.id ty (ty_of operand) c
      (nodes.node_cell items body fuel operand (ty_of operand) d made.0 refl) t.1.0 t.0 o.1.0 o.0) (λ key m. m) to g)

  pub negate_well : (operand : Node) (x : Standpoint) (id : ℕ) (ty : TyId) (by : Option Use) →
      Holds (typing.row (K x) id ty (tree.Negate operand)) →
      H (cells_in items (tree.Negate operand)) →
      Own items body (K x) (M operand) →
      W x (Of (tree.Negate operand) id ty by)
  negate_well operand x id ty by h k own_operand =
      let d = stand.own_dest items body told fuel operand x Taken h.0 k in
      nodes.operands_well items body fuel (K x) (head id ty by) (shape_of items (tree.Negate operand) (head id ty by))
      (M operand ∷ [])
      (λ site. effects.Negate site (moved id (M operand).head.id)) (own_operand, tt)
      (λ to g made. let s = facts.signed_is items ty h.1.1 in
      at_nodes.sorted_delivers items body told fuel (head id ty by)
      (λ site. effects.Negate site (moved id (M operand).head.id)) s.1.1
      (λ key c. acts.negate_acts items body id key (M operand).head.id ty c
      (nodes.node_cell items body fuel operand ty d made.0 (sym (same_type ty (ty_of operand) h.1.0))) s.1.1.0 s.1.0
      s.0) (λ key m. m) to g)

  pub arithmetic_well : (operator : Math) (left_ : Node) (right_ : Node) (x : Standpoint) (id : ℕ) (ty : TyId)
      (by : Option Use) →
      Holds (typing.row (K x) id ty (tree.Arithmetic operator left_ right_)) →
      H (cells_in items (tree.Arithmetic operator left_ right_)) →
      Own items body (K x) (M left_) →
      Own items body (K x) (M right_) →
      W x (Of (tree.Arithmetic operator left_ right_) id ty by)
  arithmetic_well operator left_ right_ x id ty by h k own_left own_right =
      let kl = left (cells items true left_) (cells items true right_) k in
      let kr = right (cells items true left_) (cells items true right_) k in
      let dl = stand.own_dest items body told fuel left_ x (Wanted ty) h.0 kl in
      let dr = stand.own_dest items body told fuel right_ x (Wanted ty) h.1.0 kr in
      nodes.operands_well items body fuel (K x) (head id ty by)
      (shape_of items (tree.Arithmetic operator left_ right_) (head id ty by)) (M left_ ∷ M right_ ∷ [])
      (λ site. effects.Compute site operator (moved id (M left_).head.id) (moved id (M right_).head.id)) (
        own_left,
        (own_right, tt),
      )
      (λ to g made. let i = facts.int_is items ty h.1.1.0 in
      at_nodes.sorted_delivers items body told fuel (head id ty by)
      (λ site. effects.Compute site operator (moved id (M left_).head.id) (moved id (M right_).head.id)) i.1
      (λ key c. acts.compute_acts items body id key (M left_).head.id (M right_).head.id operator ty c
      (stand.fitting_cell items body told fuel left_ ty dl made.0
      (stand.wanted_fits items body told fuel x ty left_ h.0))
      (stand.fitting_cell items body told fuel right_ ty dr made.1.0
      (stand.wanted_fits items body told fuel x ty right_ h.1.0)) i.1.0 i.0) (λ key m. m) to g)

  pub comparison_well : (operator : Cmp) (left_ : Node) (right_ : Node) (x : Standpoint) (id : ℕ) (ty : TyId)
      (by : Option Use) →
      Holds (typing.row (K x) id ty (tree.Comparison operator left_ right_)) →
      H (cells_in items (tree.Comparison operator left_ right_)) →
      Own items body (K x) (M left_) →
      Own items body (K x) (M right_) →
      W x (Of (tree.Comparison operator left_ right_) id ty by)
  comparison_well operator left_ right_ x id ty by h k own_left own_right =
      let kl = left (cells items true left_) (cells items true right_) k in
      let kr = right (cells items true left_) (cells items true right_) k in
      let dl = stand.own_dest items body told fuel left_ x Taken h.0 kl in
      let dr = stand.own_dest items body told fuel right_ x Taken h.1.0 kr in
      nodes.operands_well items body fuel (K x) (head id ty by)
      (shape_of items (tree.Comparison operator left_ right_) (head id ty by)) (M left_ ∷ M right_ ∷ [])
      (λ site. effects.Compare site operator (moved id (M left_).head.id) (moved id (M right_).head.id)) (
        own_left,
        (own_right, tt),
      )
      (λ to g made. let t = facts.bool_is items ty h.1.1.1 in
      let o = facts.operands_same items (typing.int_or_bool items) (ty_of left_) (ty_of right_) h.1.1.0
      (nodes.is_made_node items body fuel left_ made.0) (nodes.is_made_node items body fuel right_ made.1.0) in
      let s = facts.compared_is items (ty_of left_) o.0 in
      at_nodes.sorted_delivers items body told fuel (head id ty by)
      (λ site. effects.Compare site operator (moved id (M left_).head.id) (moved id (M right_).head.id)) t.1
      (λ key c. acts.compare_acts items body id key (M left_).head.id (M right_).head.id operator ty (ty_of left_) c
      (nodes.node_cell items body fuel left_ (ty_of left_) dl made.0 refl)
      (nodes.node_cell items body fuel right_ (ty_of left_) dr made.1.0 o.1)
      t.1.0 t.0 s.1.0 s.0) (λ key m. m) to g)

  pub and_well : (left_ : Node) (right_ : Node) (x : Standpoint) (id : ℕ) (ty : TyId) (by : Option Use) →
      Holds (typing.row (K x) id ty (tree.And left_ right_)) →
      H (cells_in items (tree.And left_ right_)) →
      Well items body (K x) (M left_) →
      Well items body (K x) (M right_) →
      W x (Of (tree.And left_ right_) id ty by)
  and_well left_ right_ x id ty by h k well_left well_right =
      let kl = left (cells items true left_) (cells items false right_) k in
      let dl = stand.own_dest items body told fuel left_ x Taken h.0 kl in
      nodes.scope_well items body fuel (K x) (head id ty by) (shape_of items (tree.And left_ right_) (head id ty by))
      (evaluation.conjunction items (marked_run items body) fuel (head id ty by) (M left_) (M right_))
      (λ around to ok g S w f. branches.condition_well items (marked_run items body) may_end (Acts items body)
      (Tests items body) (Drops items body) (Made items body) (does_well items body) (Cell items body)
      (May items body)
      (Names items body) (K x) (IsMade items body ty) around (M left_) ok
      well_left dl
      (λ made. stand.bool_cell items body told fuel left_ dl made h.1.1.0)
      (forms.alone items (marked_run items body) around (M right_) to)
      (evaluation.shortcut items (marked_run items body) fuel (head id ty by) false to)
      (λ T w' l. more_valued (K x) (IsMade items body (M right_).head.ty) (IsMade items body ty)
      (λ m. (facts.bool_is items ty h.1.1.1.1).1.1)
      (forms.alone items (marked_run items body) around (M right_) to T w')
      (alone_well (K x) around (M right_) to ok
      well_right
      (at_nodes.bool_head items body told fuel right_ ty to h.1.1.1.0 h.1.1.1.1
      (nodes.as_dest items body (head id ty by) to g)) T w' l))
      (λ T w' l. rules.deliver_well items (marked_run items body) may_end (Acts items body) (Tests items body)
      (Drops items body) (Made items body) (does_well items body) (Cell items body) (May items body) (Names items body) (K x)
      (IsMade items body ty) (head id ty by) (λ site. effects.Put site (effects.Truth false)) to
      (nodes.truth_delivers items body fuel (head id ty by) false to h.1.1.1.1 g) T w' l) S w f)

  pub or_well : (left_ : Node) (right_ : Node) (x : Standpoint) (id : ℕ) (ty : TyId) (by : Option Use) →
      Holds (typing.row (K x) id ty (tree.Or left_ right_)) →
      H (cells_in items (tree.Or left_ right_)) →
      Well items body (K x) (M left_) →
      Well items body (K x) (M right_) →
      W x (Of (tree.Or left_ right_) id ty by)
  or_well left_ right_ x id ty by h k well_left well_right =
      let kl = left (cells items true left_) (cells items false right_) k in
      let dl = stand.own_dest items body told fuel left_ x Taken h.0 kl in
      nodes.scope_well items body fuel (K x) (head id ty by) (shape_of items (tree.Or left_ right_) (head id ty by))
      (evaluation.disjunction items (marked_run items body) fuel (head id ty by) (M left_) (M right_))
      (λ around to ok g S w f. branches.condition_well items (marked_run items body) may_end (Acts items body)
      (Tests items body) (Drops items body) (Made items body) (does_well items body) (Cell items body)
      (May items body)
      (Names items body) (K x) (IsMade items body ty) around (M left_) ok
      well_left dl
      (λ made. stand.bool_cell items body told fuel left_ dl made h.1.1.0)
      (evaluation.shortcut items (marked_run items body) fuel (head id ty by) true to)
      (forms.alone items (marked_run items body) around (M right_) to)
      (λ T w' l. rules.deliver_well items (marked_run items body) may_end (Acts items body) (Tests items body)
      (Drops items body) (Made items body) (does_well items body) (Cell items body) (May items body) (Names items body) (K x)
      (IsMade items body ty) (head id ty by) (λ site. effects.Put site (effects.Truth true)) to
      (nodes.truth_delivers items body fuel (head id ty by) true to h.1.1.1.1 g) T w' l)
      (λ T w' l. more_valued (K x) (IsMade items body (M right_).head.ty) (IsMade items body ty)
      (λ m. (facts.bool_is items ty h.1.1.1.1).1.1)
      (forms.alone items (marked_run items body) around (M right_) to T w')
      (alone_well (K x) around (M right_) to ok
      well_right
      (at_nodes.bool_head items body told fuel right_ ty to h.1.1.1.0 h.1.1.1.1
      (nodes.as_dest items body (head id ty by) to g)) T w' l)) S w f)

  pub assign_well : (target : Node) (value : Node) (x : Standpoint) (id : ℕ) (ty : TyId) (by : Option Use) →
      Holds (typing.row (K x) id ty (tree.Assign target value)) → at_nodes.Placed items body told fuel target →
      Alone items (ty_of target) → is_place (form_of target) ≡ true → Reach items body (K x) (M target) →
      Own items body (K x) (M value) → W x (Of (tree.Assign target value) id ty by)
  assign_well target value x id ty by h placed alone p reach_target own_value =
      nodes.value_well items body fuel (K x) (head id ty by) (shape_of items (tree.Assign target value) (head id ty by))
      (forms.assigning items (marked_run items body) (head id ty by) (M target) (M value))
      (λ around own to ok g S w f. rules.assigning_well items (marked_run items body) may_end (Acts items body)
      (Tests items body) (Drops items body) (Made items body) (does_well items body) (Cell items body)
      (May items body) (Names items body) (K x) (IsMade items body ty) (head id ty by) (M target) (M value) around own to
      ok reach_target own_value
      (λ made. sites.moved_to items body (forms.site_of (M target) around)
      (site_in (M target).head.id (M value).head.id) (ty_of target) alone (there around ok.0)
      (cell_ok items body (M value).head.id (ty_of target)
      (stand.fitting_cell items body told fuel value (ty_of target) own_value.1.0 made
      (stand.wanted_fits items body told fuel x (ty_of target) value h.1.1.0))
      (facts.is_false (is_reference (type_at items (ty_of target))) (facts.left_of _ _ alone))))
      (λ n. sites.replaced_drops items body (forms.site_of (M target) around) (ty_of target) (there around ok.0) alone
      (subst (λ t. needs_drop items t ≡ true) (type_is items (marked_run items body) fuel target) n))
      (nodes.unit_delivers items body fuel (head id ty by) to h.1.1.1 g) S w f)
    where
      there : (around : LoopsAndGuards) → Names items body around.aliases →
          PlaceOk items body (ty_of target) (forms.place_of (M target) around)
      there around names = placed (λ q. absurd (false≢true (sym q ∙ at_nodes.meant_place items body told fuel target ∙ p)))
          around names

  pub print_well : (operand : Node) (x : Standpoint) (id : ℕ) (ty : TyId) (by : Option Use) →
      Holds (typing.row (K x) id ty (tree.Print operand)) →
      H (cells_in items (tree.Print operand)) →
      Own items body (K x) (M operand) →
      W x (Of (tree.Print operand) id ty by)
  print_well operand x id ty by h k own_operand =
      let d = stand.own_dest items body told fuel operand x Taken h.0 k in
      nodes.unit_value_well items body fuel (K x) (head id ty by) (shape_of items (tree.Print operand) (head id ty by))
      (M operand) effects.Print
      own_operand h.1.1
      (λ made. let i = facts.i32_is items (ty_of operand)
      (facts.made_is items (types.is_i32 items (ty_of operand)) (ty_of operand) h.1.0
      (nodes.is_made_node items body fuel operand made)) in
      acts.print_acts items body id (M operand).head.id (ty_of operand)
      (nodes.node_cell items body fuel operand (ty_of operand) d made refl) i.1.0 i.0)

  pub ask_well : (x : Standpoint) (id : ℕ) (ty : TyId) (by : Option Use) →
      Holds (typing.row (K x) id ty tree.Ask) →
      W x (Of tree.Ask id ty by)
  ask_well x id ty by h =
      let i = facts.i32_is items ty h in
      nodes.effect_well items body fuel (K x) (head id ty by) (shape_of items tree.Ask (head id ty by)) effects.Ask
      (at_nodes.sorted_delivers items body told fuel (head id ty by) effects.Ask i.1
      (λ key c. acts.ask_acts items body id key ty c i.1.0 i.0) (λ key m. m))

  pub drop_value_well : (operand : Node) (x : Standpoint) (id : ℕ) (ty : TyId) (by : Option Use) →
      Holds (typing.row (K x) id ty (tree.DropValue operand)) →
      Own items body (K x) (M operand) →
      W x (Of (tree.DropValue operand) id ty by)
  drop_value_well operand x id ty by h own_operand =
      nodes.value_well items body fuel (K x) (head id ty by) (shape_of items (tree.DropValue operand) (head id ty by))
      (evaluation.drops items (marked_run items body) fuel (head id ty by) (M operand))
      (λ around own to ok g S w f. rules.dropping_well items (marked_run items body) may_end (Acts items body)
      (Tests items body) (Drops items body) (Made items body) (does_well items body) (Cell items body)
      (May items body)
      (Names items body) (K x) (IsMade items body ty) (head id ty by) around own (M operand)
      (forms.put_unit items (marked_run items body) (head id ty by) to) ok own_operand
      (λ T w' l. rules.deliver_well items (marked_run items body) may_end (Acts items body) (Tests items body)
      (Drops items body) (Made items body) (does_well items body) (Cell items body) (May items body) (Names items body) (K x)
      (IsMade items body ty) (head id ty by) (λ site. effects.Put site effects.UnitValue) to
      (nodes.unit_delivers items body fuel (head id ty by) to h.1 g) T w' l) S w f)

  pub forget_well : (operand : Node) (x : Known items told) (id : ℕ) (ty : TyId) (by : Option Use) →
      Holds (typing.row (K x.0) id ty (tree.Forget operand)) →
      H (cells_in items (tree.Forget operand)) →
      Own items body (K x.0) (M operand) →
      W x.0 (Of (tree.Forget operand) id ty by)
  forget_well operand x id ty by h k own_operand =
      let d = stand.own_dest items body told fuel operand x.0 Taken h.0 k in
      let plain = taken_plain items told operand x h.0 in
      nodes.unit_value_well items body fuel (K x.0) (head id ty by)
      (shape_of items (tree.Forget operand) (head id ty by)) (M operand) effects.Forget
      own_operand h.1 (λ made. acts.forget_acts items body id (M operand).head.id (ty_of operand)
      (nodes.node_cell items body fuel operand (ty_of operand) d made refl)
      (plain_alone items told (type_at items (ty_of operand)) plain) (plain_listed items told (ty_of operand) plain))

  pub panic_well : (x : Standpoint) (id : ℕ) (ty : TyId) (by : Option Use) →
      W x (Of tree.Panic id ty by)
  panic_well x id ty by =
      nodes.value_well items body fuel (K x) (head id ty by) (shape_of items tree.Panic (head id ty by))
      (λ around own to. forms.panics items (marked_run items body) Why.Explicit)
      (λ around own to ok g S w f. (tt, f))

  referent_by : (unique : Bool) (o : Option Ty) (r : Bool × TyId) → option_and_then types.reference_in o ≡ Some r →
      (if unique then r.0 else not r.0) ≡ true → referent unique o ≡ Some r.1
  referent_by unique None r e h = absurd (none-some r e)
  referent_by true (Some (Ty.Unique to)) r e h =
      let same : (true, to) ≡ r = cc in ap (λ (z : Bool × TyId). Some z.1) same
  referent_by false (Some (Ty.Unique to)) r e h =
      let same : (true, to) ≡ r = cc in absurd (false≢true (ap (λ (z : Bool × TyId). not z.0) same ∙ h))
  referent_by true (Some (Ty.Shared to)) r e h =
      let same : (false, to) ≡ r = cc in absurd (false≢true (ap (λ (z : Bool × TyId). z.0) same ∙ h))
  referent_by false (Some (Ty.Shared to)) r e h =
      let same : (false, to) ≡ r = cc in ap (λ (z : Bool × TyId). Some z.1) same
  referent_by unique (Some ty) r e h = absurd (none-some r e)

  pub borrow_well : (unique : Bool) (base : Node) (x : Standpoint) (id : ℕ) (ty : TyId) (by : Option Use) →
      Holds (typing.row (K x) id ty (tree.Borrow unique base)) → at_nodes.Placed items body told fuel base →
      Reach items body (K x) (M base) →
      W x (Of (tree.Borrow unique base) id ty by)
  borrow_well unique base x id ty by h placed reach_base =
      let r = some_holds (types.reference_of items ty)
      (λ r. both (fact (types.is_same (ty_of base) r.1)) (fact (if unique then r.0 else not r.0))) h.1.1 in
      nodes.value_well items body fuel (K x) (head id ty by) (shape_of items (tree.Borrow unique base) (head id ty by))
      (forms.borrowing items (marked_run items body) (head id ty by) unique (M base))
      (λ around own to ok g S w f. rules.borrowing_well items (marked_run items body) may_end (Acts items body)
      (Tests items body) (Drops items body) (Made items body) (does_well items body) (Cell items body)
      (May items body)
      (Names items body) (K x) (IsMade items body ty) (head id ty by) unique (M base) around own to ok
      reach_base
      (λ reached. at_nodes.reference_delivers items body told fuel (head id ty by)
      (λ site. effects.Borrow (record site { node = (M base).head.id }) unique (site_of (M base) around))
      r.0 r.1.0 (λ key c. sites.borrow_acts items body (M base).head.id key unique (site_of (M base) around) ty
      (ty_of base) c (placed reached around ok.0)
      (subst (λ i. referent unique (type_at items ty) ≡ Some i) (sym (same_type (ty_of base) r.0.1 r.1.1.0))
      (referent_by unique (type_at items ty) r.0 r.1.0 r.1.1.1))) (λ key m. m) to g) S w f)

  pub unsize_well : (trait_no : ℕ) (operand : Node) (x : Standpoint) (id : ℕ) (ty : TyId) (by : Option Use) →
      Holds (typing.row (K x) id ty (tree.Unsize trait_no operand)) →
      Own items body (K x) (M operand) →
      W x (Of (tree.Unsize trait_no operand) id ty by)
  unsize_well trait_no operand x id ty by h own_operand =
      let o = own_operand in
      nodes.value_well items body fuel (K x) (head id ty by)
      (shape_of items (tree.Unsize trait_no operand) (head id ty by))
      (evaluation.coerce items (marked_run items body) fuel (head id ty by) trait_no (M operand))
      (λ around own to ok g S w f. more_valued (K x) (IsMade items body (M operand).head.ty) (IsMade items body ty)
      (λ m. (facts.coerces items ty (ty_of operand) trait_no h.1.1).object_alone.1)
      ((M operand).evaluate around own (coerced (M operand).head.id trait_no to) S w)
      (o.0 around own (coerced (M operand).head.id trait_no to) S w ok
      (at_nodes.coerced_dest items body told fuel (head id ty by) operand trait_no h.1.1 o.1.0 to g) f))
