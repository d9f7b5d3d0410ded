-- Statements and arms do with cells what is well, given that the nodes inside do.
use Rattle.std.proofs.Common.{◌≡◌, inr, ℕ, true, false, List, ◌++◌, Option, refl, sym, ◌∙◌, subst}
use Rattle.std.proofs.lemmas.Bool.{false≢true}
use Rattle.mir_base.specs.declared.place_in_text.Pos.{Pos}
use Rattle.mir_ty.specs.declared.ty.TyId.{TyId}
use Rattle.mir_ty.specs.ItemTable.{ItemTable}
use Rattle.store_model.specs.Places.Place.{whole_local, is_reference}
use Rattle.typed_tree.specs.declared.node.Use.{Use}
use Rattle.typed_tree.specs.Tree as tree
use Rattle.typed_tree.specs.Tree.{Node, node, Form, MaybeNode, absent, present, BodyTree}
use Rattle.src_meaning.specs.Evaluation.{meaning, meaning_of, meaning_if_any}
use Rattle.src_meaning.specs.Forms as forms
use Rattle.src_meaning.specs.Forms.{Destination, Into, LoopsAndGuards, Meaning, is_never, entry_of, place_of}
use Rattle.src_meaning.specs.Locals.OfBody.{cells}
use Rattle.src_meaning.specs.Scopes.{Entry, Scopes, Run}
use Rattle.src_meaning.specs.Shape.{Shape, head, shape, shape_of}
use Rattle.well_typed.specs.Claim.{Holds}
use Rattle.well_typed.specs.Nodes as typing
use Rattle.well_typed.specs.Patterns as patterns
use Rattle.well_typed.specs.Patterns.{Matched}
use Rattle.well_typed.specs.Places.{Context, in_guard, ty_of, Taken, Wanted, Base}
use Rattle.well_typed.specs.Types as types
use Rattle.soundness_values.proofs.Checked.{Checking}
use Rattle.soundness_values.proofs.Facts.{Facts}
use Rattle.soundness_values.proofs.Leaving.{Shown}
use Rattle.soundness_cells.proofs.PassCellNames.{Names, PlaceOk, guard_names}
use Rattle.soundness_cells.proofs.PassCellActs.{Cell}
use Rattle.soundness_cells.proofs.PassCellEffects.{marked_run, may_end, Acts, Tests, Drops, Made, does_well}
use Rattle.soundness_cells.proofs.PassCellNodes as nodes
use Rattle.soundness_cells.proofs.PassCellNodes.{May, Post, Fine, Well, Reach, Reached, AroundWell, Dest, IsMade}
use Rattle.soundness_cells.proofs.PassCellPatterns as cells_of
use Rattle.soundness_cells.proofs.PassCellPatterns.{Told, Has}
use Rattle.soundness_cells.proofs.PassCellDeclared.{AllPlain, names_plain}
use Rattle.soundness_cells.proofs.PassCellTypes as facts
use Rattle.soundness_cells.proofs.PassFacts.{Standpoint, context, with_names}
use Rattle.soundness_values.proofs.PassHeads.{shape_is}
use Rattle.soundness_cells.proofs.PassWell as rules
use Rattle.soundness_cells.proofs.PassWellBranches as branches
use Rattle.soundness_cells.proofs.PassWellStatements as statements
use Rattle.soundness_values.proofs.PlaceTypes.{same_type}
use Rattle.soundness_cells.proofs.PassCellStands as stand
use Rattle.soundness_cells.proofs.PassCellParts as at_nodes

module _ (items : ItemTable) (body : BodyTree) (told : Told items) (fuel : ℕ) where
  abbrev V : Type 0
  V = Checking Facts

  abbrev K : Standpoint → Context
  K = context items

  abbrev M : Node → Meaning V
  M = meaning items (marked_run items body) fuel

  abbrev Mi : MaybeNode → Option (Meaning V)
  Mi = meaning_if_any items (marked_run items body) fuel

  abbrev Of : Form → ℕ → TyId → Option Use → Meaning V
  Of form id ty by =
      meaning_of items (marked_run items body) fuel form (head id ty by) (shape_of items form (head id ty by))

  abbrev H : List Entry → Type 0
  H = Has items body

  abbrev left : (a b : List Entry) → H (a ++ b) → H a
  left = cells_of.has_left items body

  abbrev right : (a b : List Entry) → H (a ++ b) → H b
  right = cells_of.has_right items body

  abbrev more_valued : (c : Context) (valued valued' : Type 0) → (valued → valued') → (r : Run V) →
      Shown may_end (Post items body c valued) r → Shown may_end (Post items body c valued') r
  more_valued = rules.more_valued items (marked_run items body) may_end (Acts items body) (Tests items body)
      (Drops items body) (Made items body) (does_well items body) (Cell items body) (May items body) (Names items body)

  abbrev alone_well : (c : Context) (around : LoopsAndGuards) (m : Meaning V) (to : Destination) →
      AroundWell items body c around → Well items body c m → Dest items body m.head.ty to → (S : Scopes) (v : V) →
      Fine items body S → Shown may_end (Post items body c (IsMade items body m.head.ty))
      (forms.alone items (marked_run items body) around m to S v)
  alone_well = rules.alone_well items (marked_run items body) may_end (Acts items body) (Tests items body)
      (Drops items body) (Made items body) (does_well items body) (Cell items body) (May items body) (Names items body)

  -- ---- statements

  pub unassigned_well : (pattern : Node) (x : Standpoint) (id : ℕ) (ty : TyId) (by : Option Use) →
      Holds (typing.statement (K x) (tree.Let pattern absent)) → H (cells items true pattern) →
      (around : LoopsAndGuards) (S : Scopes) (v : V) → Fine items body S →
      Shown may_end (Post items body (K x) (typing.ends_by items (tree.Let pattern absent) ≡ false))
      (forms.declared items (marked_run items body) ((M pattern).shape.bindings (whole_local 0)) S v)
  unassigned_well pattern x id ty by h k around S v f =
      more_valued (K x) (Unit {0}) (typing.ends_by items (tree.Let pattern absent) ≡ false) (λ u. refl)
      (forms.declared items (marked_run items body) ((M pattern).shape.bindings (whole_local 0)) S v)
      (statements.declared_well items (marked_run items body) may_end (Acts items body) (Tests items body)
      (Drops items body) (Made items body) (does_well items body) (Cell items body) (May items body) (Names items body) (K x)
      ((M pattern).shape.bindings (whole_local 0))
      (at_nodes.any_declared items body told fuel ((M pattern).shape.bindings (whole_local 0))
      (subst (λ (s : Shape). AllPlain items body (s.bindings (whole_local 0)))
      (sym (shape_is items (marked_run items body) fuel pattern))
      (names_plain items body told pattern _ (ty_of pattern) h.1.0
      (λ o. facts.is_false (types.is_reference items (ty_of pattern)) h.1.1.1) k (whole_local 0)))) S v f)

  pub named_well : (pid : ℕ) (pat : Pos) (pty : TyId) (pby : Option Use) (name : List ℕ) (value : Node) (x : Standpoint)
      (id : ℕ) (ty : TyId) (by : Option Use) → Holds (typing.typed (K x) (Wanted pty) value) →
      H (cells items true (node pid pat pty pby (tree.Binding name))) → Well items body (K x) (M value) →
      (around : LoopsAndGuards) → AroundWell items body (K x) around → (S : Scopes) (v : V) → Fine items body S →
      Shown may_end (Post items body (K x)
      (typing.ends_by items (tree.Let (node pid pat pty pby (tree.Binding name)) (present value)) ≡ false))
      (forms.let_name items (marked_run items body) (head id ty by) (head pid pty pby) (M value) around S v)
  named_well pid pat pty pby name value x id ty by h k well_value around ok S v f =
      more_valued (K x) (IsMade items body (M value).head.ty)
      (typing.ends_by items (tree.Let (node pid pat pty pby (tree.Binding name)) (present value)) ≡ false)
      (λ made. at_nodes.first_false items body told fuel (types.is_never items (ty_of value)) _
      (at_nodes.never_false items body told fuel value made))
      (forms.let_name items (marked_run items body) (head id ty by) (head pid pty pby) (M value) around S v)
      (statements.let_name_well items (marked_run items body) may_end (Acts items body) (Tests items body)
      (Drops items body) (Made items body) (does_well items body) (Cell items body) (May items body) (Names items body) (K x)
      (head id ty by) (head pid pty pby) (M value) around ok well_value
      (stand.fits_head items body told fuel value pty (Into pid)
      (stand.wanted_fits items body told fuel x pty value h)
      (inr (cells_of.name_cell items body told pid pat pty pby name k)))
      (nodes.droppable items body (entry_of (head pid pty pby)) (cells_of.name_cell items body told pid pat pty pby name k))
      S v f)

  pub parted_well : (pattern value : Node) (want : TyId) (x : Standpoint) (id : ℕ) (ty : TyId) (by : Option Use) →
      Holds (typing.typed (K x) Base value) →
      Holds (patterns.pattern items (typing.matched_in true (K x) value) want pattern) →
      typing.is_one_name pattern ≡ false → H (cells items true pattern) →
      at_nodes.Placed items body told fuel value → (Reached items body (M value) → ty_of value ≡ want) →
      Reach items body (K x) (M value) →
      ((M value).shape.is_place ≡ false → Dest items body (M value).head.ty (Into (M value).head.id)) →
      (around : LoopsAndGuards) → AroundWell items body (K x) around → (S : Scopes) (v : V) → Fine items body S →
      Shown may_end (Post items body (K x) (typing.ends_by items (tree.Let pattern (present value)) ≡ false))
      (forms.let_parts items (marked_run items body) (head id ty by) (M pattern) (M value) around S v)
  parted_well pattern value want x id ty by h j several k placed same reach_value own around ok S v f =
      more_valued (K x) (Reached items body (M value))
      (typing.ends_by items (tree.Let pattern (present value)) ≡ false)
      (λ r. at_nodes.let_ends items body told fuel value x h r)
      (forms.let_parts items (marked_run items body) (head id ty by) (M pattern) (M value) around S v)
      (statements.let_parts_well items (marked_run items body) may_end (Acts items body) (Tests items body)
      (Drops items body) (Made items body) (does_well items body) (Cell items body) (May items body) (Names items body) (K x)
      (head id ty by) (M pattern) (M value) around ok reach_value
      (λ p. nodes.droppable_head items body (M value).head (own p))
      (λ reached. at_nodes.bounds_meant items body told fuel pattern (typing.matched_in true (K x) value)
      want j (λ e. absurd (false≢true (sym several ∙ e))) k (place_of (M value) around)
      (subst (λ t. PlaceOk items body t (place_of (M value) around)) (same reached) (placed reached around ok.0))) S v f)

  pub evaluated_well : (expression : Node) (x : Standpoint) (id : ℕ) (ty : TyId) (by : Option Use) →
      Holds (typing.typed (K x) Taken expression) → H (cells items true expression) →
      Well items body (K x) (M expression) → (around : LoopsAndGuards) → AroundWell items body (K x) around →
      (S : Scopes) (v : V) → Fine items body S →
      Shown may_end (Post items body (K x) (typing.ends_by items (tree.Evaluate expression) ≡ false))
      (forms.evaluating items (marked_run items body) (head id ty by) (M expression) around S v)
  evaluated_well expression x id ty by h k well_expression around ok S v f =
      more_valued (K x) (IsMade items body (M expression).head.ty) (types.is_never items (ty_of expression) ≡ false)
      (at_nodes.never_false items body told fuel expression)
      (forms.evaluating items (marked_run items body) (head id ty by) (M expression) around S v)
      (statements.evaluating_well items (marked_run items body) may_end (Acts items body) (Tests items body)
      (Drops items body) (Made items body) (does_well items body) (Cell items body) (May items body) (Names items body) (K x)
      (head id ty by) (M expression) around ok well_expression
      (stand.own_dest items body told fuel expression x Taken h k)
      (nodes.droppable_head items body (M expression).head
      (stand.own_dest items body told fuel expression x Taken h k)) S v f)

  -- ---- arms

  pub arm_of : (pattern : Node) (guard : MaybeNode) (body_ : Node) (x : Standpoint) (m : Matched) (want whole : TyId)
      (id : ℕ) (at : Pos) (ty : TyId) (by : Option Use) →
      Holds (typing.arm (K x) m want (node id at ty by (tree.Arm pattern guard body_))) →
      types.is_reference items want ≡ false → H (cells items true pattern) →
      branches.GuardWell items (marked_run items body) may_end (Acts items body) (Tests items body) (Drops items body)
      (Made items body) (does_well items body) (Cell items body) (May items body) (Names items body)
      (K (with_names (in_guard (patterns.entries_of pattern)) x)) (Mi guard) →
      Well items body (K (with_names (patterns.entries_of pattern) x)) (M body_) →
      branches.ArmWell items (marked_run items body) may_end (Acts items body) (Tests items body) (Drops items body)
      (Made items body) (does_well items body) (Cell items body) (May items body) (Names items body) (PlaceOk items body want) (IsMade items body whole) (K x)
      (Of (tree.Arm pattern guard body_) id ty by)
  arm_of pattern guard body_ x m want whole id at ty by h r kp guards well_body
      f around matched otherwise to known ok d other S v fine =
      let same = same_type ty (ty_of body_) h.1.1.1.1.1 in
      branches.arm_well items (marked_run items body) may_end (Acts items body) (Tests items body) (Drops items body)
      (Made items body) (does_well items body) (Cell items body) (May items body) (Names items body) (K x) (IsMade items body whole)
      (head id ty by) (M pattern) (Mi guard) (M body_) matched otherwise around to ok
      (at_nodes.tests_meant items body told fuel pattern m want h.1.1.0 kp matched known)
      (at_nodes.bounds_meant items body told fuel pattern m want h.1.1.0 (λ o. r) kp matched known)
      (guard_names items body ((M pattern).shape.bindings matched) around.aliases
      (at_nodes.placed_meant items body told fuel pattern m want h.1.1.0 (λ o. r) kp matched known) ok.0)
      guards well_body
      (at_nodes.same_head items body told fuel body_ ty to (sym same) d)
      (λ made. f (at_nodes.same_made items body told fuel body_ ty (sym same) made)) other S v fine
