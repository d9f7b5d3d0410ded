-- `if`, `match` and loops do with cells what is well, given that the nodes inside do.
use Rattle.std.proofs.Common.{ℕ, true, false, List, [], ◌∷◌, ◌++◌, Option, Some, None, refl}
use Rattle.std.specs.List.{list_all}
use Rattle.mir_ty.specs.declared.ty.TyId.{TyId}
use Rattle.mir_ty.specs.ItemTable.{ItemTable}
use Rattle.store_model.specs.Effects as effects
use Rattle.typed_tree.specs.declared.node.Use.{Use}
use Rattle.typed_tree.specs.Tree as tree
use Rattle.typed_tree.specs.Tree.{Node, Form, Nodes, absent, present, BodyTree}
use Rattle.src_meaning.specs.Evaluation as evaluation
use Rattle.src_meaning.specs.Evaluation.{meaning, meaning_of, meanings}
use Rattle.src_meaning.specs.Forms as forms
use Rattle.src_meaning.specs.Forms.{Destination, Into, LoopsAndGuards, Meaning, in_loop, place_of}
use Rattle.src_meaning.specs.Locals.OfBody.{cells, reached_cells, cells_in}
use Rattle.src_meaning.specs.Scopes.{Entry, Scopes, Run}
use Rattle.src_meaning.specs.Shape.{head, shape_of}
use Rattle.well_typed.specs.Claim.{Holds}
use Rattle.well_typed.specs.Nodes as typing
use Rattle.well_typed.specs.Patterns as patterns
use Rattle.well_typed.specs.Places.{Context, within, ty_of, Taken}
use Rattle.well_typed.specs.Types as types
use Rattle.soundness_values.proofs.Checked.{Checking}
use Rattle.soundness_values.proofs.Facts.{Facts}
use Rattle.soundness_values.proofs.Leaving.{Shown}
use Rattle.soundness_cells.proofs.PassCellNames.{Names, PlaceOk}
use Rattle.soundness_cells.proofs.PassCellActs.{Cell}
use Rattle.soundness_cells.proofs.PassCellEffects.{marked_run, may_end, Acts, Tests, Drops, Made, does_well}
use Rattle.soundness_cells.proofs.PassCellNodes as nodes
use Rattle.soundness_cells.proofs.PassCellNodes.{May, Post, Fine, Well, Reach, AroundWell, Dest, IsMade}
use Rattle.soundness_cells.proofs.PassCellPatterns as cells_of
use Rattle.soundness_cells.proofs.PassCellPatterns.{Told, Has}
use Rattle.soundness_cells.proofs.PassCellTypes as facts
use Rattle.soundness_cells.proofs.PassFacts.{Standpoint, context, with_names, in_a_loop}
use Rattle.soundness_cells.proofs.PassWell as rules
use Rattle.soundness_cells.proofs.PassWellBranches as branches
use Rattle.soundness_cells.proofs.PassWellStatements as statements
use Rattle.soundness_cells.proofs.PassCellStands as stand
use Rattle.soundness_cells.proofs.PassCellParts as at_nodes

module _ (items : ItemTable) (body : BodyTree) (told : Told items) (fuel : ℕ) where
  abbrev V : Type 0
  V = Checking Facts

  abbrev K : Standpoint → Context
  K = context items

  abbrev M : Node → Meaning V
  M = meaning items (marked_run items body) fuel

  abbrev Ms : Nodes → List (Meaning V)
  Ms = meanings items (marked_run items body) fuel

  abbrev Of : Form → ℕ → TyId → Option Use → Meaning V
  Of form id ty by =
      meaning_of items (marked_run items body) fuel form (head id ty by) (shape_of items form (head id ty by))

  abbrev H : List Entry → Type 0
  H = Has items body

  abbrev W : Standpoint → Meaning V → Type 0
  W x = Well items body (K x)

  abbrev left : (a b : List Entry) → H (a ++ b) → H a
  left = cells_of.has_left items body

  abbrev right : (a b : List Entry) → H (a ++ b) → H b
  right = cells_of.has_right items body

  abbrev more_valued : (c : Context) (valued valued' : Type 0) → (valued → valued') → (r : Run V) →
      Shown may_end (Post items body c valued) r → Shown may_end (Post items body c valued') r
  more_valued = rules.more_valued items (marked_run items body) may_end (Acts items body) (Tests items body)
      (Drops items body) (Made items body) (does_well items body) (Cell items body) (May items body) (Names items body)

  abbrev alone_well : (c : Context) (around : LoopsAndGuards) (m : Meaning V) (to : Destination) →
      AroundWell items body c around → Well items body c m → Dest items body m.head.ty to → (S : Scopes) (v : V) →
      Fine items body S → Shown may_end (Post items body c (IsMade items body m.head.ty))
      (forms.alone items (marked_run items body) around m to S v)
  alone_well = rules.alone_well items (marked_run items body) may_end (Acts items body) (Tests items body)
      (Drops items body) (Made items body) (does_well items body) (Cell items body) (May items body) (Names items body)

  pub if_alone_well : (condition : Node) (consequent : Node) (x : Standpoint) (id : ℕ) (ty : TyId) (by : Option Use) →
      Holds (typing.row (K x) id ty (tree.If condition consequent absent)) →
      H (cells_in items (tree.If condition consequent absent)) →
      Well items body (K x) (M condition) →
      Well items body (K x) (M consequent) →
      W x (Of (tree.If condition consequent absent) id ty by)
  if_alone_well condition consequent x id ty by h k well_condition well_consequent =
      let kc = left (cells items true condition ++ cells items false consequent) [] k in
      let k0 = left (cells items true condition) (cells items false consequent) kc in
      let d = stand.own_dest items body told fuel condition x Taken h.0 k0 in
      nodes.scope_well items body fuel (K x) (head id ty by)
      (shape_of items (tree.If condition consequent absent) (head id ty by))
      (evaluation.if_else items (marked_run items body) fuel (head id ty by) (M condition) (M consequent) None)
      (λ around to ok g S w f. branches.condition_well items (marked_run items body) may_end (Acts items body)
      (Tests items body) (Drops items body) (Made items body) (does_well items body) (Cell items body)
      (May items body)
      (Names items body) (K x) (IsMade items body ty) around (M condition) ok
      well_condition d
      (λ made. stand.bool_cell items body told fuel condition d made h.1.0)
      (forms.alone items (marked_run items body) around (M consequent) to)
      (forms.put_unit items (marked_run items body) (head id ty by) to)
      (at_nodes.alone_to items body told fuel x consequent (head id ty by) around to ok
      well_consequent
      (at_nodes.unit_head items body told fuel consequent ty to h.1.1.1.0 h.1.1.1.1
      (nodes.as_dest items body (head id ty by) to g))
      (λ m. (facts.unit_is items ty h.1.1.1.1).1.1))
      (λ T w' l. rules.deliver_well items (marked_run items body) may_end (Acts items body) (Tests items body)
      (Drops items body) (Made items body) (does_well items body) (Cell items body) (May items body) (Names items body) (K x)
      (IsMade items body ty) (head id ty by) (λ site. effects.Put site effects.UnitValue) to
      (nodes.unit_delivers items body fuel (head id ty by) to h.1.1.1.1 g) T w' l) S w f)

  pub if_else_well : (condition : Node) (consequent : Node) (otherwise : Node) (x : Standpoint) (id : ℕ) (ty : TyId)
      (by : Option Use) →
      Holds (typing.row (K x) id ty (tree.If condition consequent (present otherwise))) →
      H (cells_in items (tree.If condition consequent (present otherwise))) →
      Well items body (K x) (M condition) →
      Well items body (K x) (M consequent) →
      Well items body (K x) (M otherwise) →
      W x (Of (tree.If condition consequent (present otherwise)) id ty by)
  if_else_well condition consequent otherwise x id ty by h k well_condition well_consequent well_otherwise =
      let kc = left (cells items true condition ++ cells items false consequent) (cells items false otherwise) k in
      let k0 = left (cells items true condition) (cells items false consequent) kc in
      let d = stand.own_dest items body told fuel condition x Taken h.0 k0 in
      let fit = facts.left_of (list_all (types.fits items ty) (ty_of consequent ∷ ty_of otherwise ∷ [])) _ h.1.1.1.1 in
      let f1 = facts.left_of (types.fits items ty (ty_of consequent)) _ fit in
      let f2 = facts.left_of (types.fits items ty (ty_of otherwise)) _
      (facts.right_of (types.fits items ty (ty_of consequent)) _ fit) in
      nodes.scope_well items body fuel (K x) (head id ty by)
      (shape_of items (tree.If condition consequent (present otherwise)) (head id ty by))
      (evaluation.if_else items (marked_run items body) fuel (head id ty by) (M condition) (M consequent)
      (Some (M otherwise)))
      (λ around to ok g S w f. branches.condition_well items (marked_run items body) may_end (Acts items body)
      (Tests items body) (Drops items body) (Made items body) (does_well items body) (Cell items body)
      (May items body)
      (Names items body) (K x) (IsMade items body ty) around (M condition) ok
      well_condition d
      (λ made. stand.bool_cell items body told fuel condition d made h.1.0)
      (forms.alone items (marked_run items body) around (M consequent) to)
      (forms.alone items (marked_run items body) around (M otherwise) to)
      (at_nodes.alone_to items body told fuel x consequent (head id ty by) around to ok
      well_consequent
      (stand.fits_head items body told fuel consequent ty to f1 (nodes.as_dest items body (head id ty by) to g))
      (nodes.fits_made items body fuel consequent ty f1))
      (at_nodes.alone_to items body told fuel x otherwise (head id ty by) around to ok
      well_otherwise
      (stand.fits_head items body told fuel otherwise ty to f2 (nodes.as_dest items body (head id ty by) to g))
      (nodes.fits_made items body fuel otherwise ty f2)) S w f)

  pub if_let_alone_well : (pattern : Node) (scrutinee : Node) (consequent : Node) (x : Standpoint) (id : ℕ) (ty : TyId)
      (by : Option Use) →
      Holds (typing.row (K x) id ty (tree.IfLet pattern scrutinee consequent absent)) →
      H (cells_in items (tree.IfLet pattern scrutinee consequent absent)) →
      at_nodes.Placed items body told fuel scrutinee →
      Reach items body (K x) (M scrutinee) →
      Well items body (K (with_names (patterns.entries_of pattern) x)) (M consequent) →
      W x (Of (tree.IfLet pattern scrutinee consequent absent) id ty by)
  if_let_alone_well pattern scrutinee consequent x id ty by h k placed reach_scrutinee well_consequent =
      let k3 = left ((cells items true pattern ++ reached_cells items scrutinee) ++ cells items false consequent) [] k
      in
      let k2 = left (cells items true pattern ++ reached_cells items scrutinee) (cells items false consequent) k3 in
      let kp = left (cells items true pattern) (reached_cells items scrutinee) k2 in
      nodes.scope_well items body fuel (K x) (head id ty by)
      (shape_of items (tree.IfLet pattern scrutinee consequent absent) (head id ty by))
      (evaluation.if_let items (marked_run items body) fuel (head id ty by) (M pattern) (M scrutinee) (M consequent)
      None)
      (λ around to ok g S w f. branches.if_taken_well items (marked_run items body) may_end (Acts items body)
      (Tests items body) (Drops items body) (Made items body) (does_well items body) (Cell items body)
      (May items body)
      (Names items body) (K x) (IsMade items body ty) (head id ty by) around (M pattern) (M scrutinee)
      (forms.alone items (marked_run items body) around (M consequent) to)
      (forms.put_unit items (marked_run items body) (head id ty by) to) ok
      reach_scrutinee (at_nodes.touched items body told fuel scrutinee placed around ok.0)
      (λ reached. at_nodes.tests_meant items body told fuel pattern (typing.matched_in false (K x) scrutinee) (ty_of scrutinee)
      h.1.0.1 kp (place_of (M scrutinee) around) (placed reached around ok.0))
      (λ reached. at_nodes.bounds_meant items body told fuel pattern (typing.matched_in false (K x) scrutinee) (ty_of scrutinee)
      h.1.0.1 (λ o. at_nodes.used_plain items body told fuel x Use.Borrow scrutinee h.0) kp
      (place_of (M scrutinee) around) (placed reached around ok.0))
      (at_nodes.alone_to items body told fuel (with_names (patterns.entries_of pattern) x) consequent (head id ty by)
      around to ok
      well_consequent
      (at_nodes.unit_head items body told fuel consequent ty to h.1.1.1.0 h.1.1.1.1
      (nodes.as_dest items body (head id ty by) to g)) (λ m. (facts.unit_is items ty h.1.1.1.1).1.1))
      (λ T w' l. rules.deliver_well items (marked_run items body) may_end (Acts items body) (Tests items body)
      (Drops items body) (Made items body) (does_well items body) (Cell items body) (May items body) (Names items body) (K x)
      (IsMade items body ty) (head id ty by) (λ site. effects.Put site effects.UnitValue) to
      (nodes.unit_delivers items body fuel (head id ty by) to h.1.1.1.1 g) T w' l) S w f)

  pub if_let_else_well : (pattern : Node) (scrutinee : Node) (consequent : Node) (otherwise : Node) (x : Standpoint)
      (id : ℕ) (ty : TyId) (by : Option Use) →
      Holds (typing.row (K x) id ty (tree.IfLet pattern scrutinee consequent (present otherwise))) →
      H (cells_in items (tree.IfLet pattern scrutinee consequent (present otherwise))) →
      at_nodes.Placed items body told fuel scrutinee →
      Reach items body (K x) (M scrutinee) →
      Well items body (K (with_names (patterns.entries_of pattern) x)) (M consequent) →
      Well items body (K x) (M otherwise) →
      W x (Of (tree.IfLet pattern scrutinee consequent (present otherwise)) id ty by)
  if_let_else_well pattern scrutinee consequent otherwise x id ty by h k placed reach_scrutinee well_consequent
      well_otherwise =
      let k3 = left ((cells items true pattern ++ reached_cells items scrutinee) ++ cells items false consequent)
      (cells items false otherwise) k in
      let k2 = left (cells items true pattern ++ reached_cells items scrutinee) (cells items false consequent) k3 in
      let kp = left (cells items true pattern) (reached_cells items scrutinee) k2 in
      let fit = facts.left_of (list_all (types.fits items ty) (ty_of consequent ∷ ty_of otherwise ∷ [])) _ h.1.1.1.1 in
      let f1 = facts.left_of (types.fits items ty (ty_of consequent)) _ fit in
      let f2 = facts.left_of (types.fits items ty (ty_of otherwise)) _
      (facts.right_of (types.fits items ty (ty_of consequent)) _ fit) in
      nodes.scope_well items body fuel (K x) (head id ty by)
      (shape_of items (tree.IfLet pattern scrutinee consequent (present otherwise)) (head id ty by))
      (evaluation.if_let items (marked_run items body) fuel (head id ty by) (M pattern) (M scrutinee) (M consequent)
      (Some (M otherwise)))
      (λ around to ok g S w f. branches.if_taken_well items (marked_run items body) may_end (Acts items body)
      (Tests items body) (Drops items body) (Made items body) (does_well items body) (Cell items body)
      (May items body)
      (Names items body) (K x) (IsMade items body ty) (head id ty by) around (M pattern) (M scrutinee)
      (forms.alone items (marked_run items body) around (M consequent) to)
      (forms.alone items (marked_run items body) around (M otherwise) to) ok
      reach_scrutinee (at_nodes.touched items body told fuel scrutinee placed around ok.0)
      (λ reached. at_nodes.tests_meant items body told fuel pattern (typing.matched_in false (K x) scrutinee) (ty_of scrutinee)
      h.1.0.1 kp (place_of (M scrutinee) around) (placed reached around ok.0))
      (λ reached. at_nodes.bounds_meant items body told fuel pattern (typing.matched_in false (K x) scrutinee) (ty_of scrutinee)
      h.1.0.1 (λ o. at_nodes.used_plain items body told fuel x Use.Borrow scrutinee h.0) kp
      (place_of (M scrutinee) around) (placed reached around ok.0))
      (at_nodes.alone_to items body told fuel (with_names (patterns.entries_of pattern) x) consequent (head id ty by)
      around to ok
      well_consequent
      (stand.fits_head items body told fuel consequent ty to f1 (nodes.as_dest items body (head id ty by) to g))
      (nodes.fits_made items body fuel consequent ty f1))
      (at_nodes.alone_to items body told fuel x otherwise (head id ty by) around to ok
      well_otherwise
      (stand.fits_head items body told fuel otherwise ty to f2 (nodes.as_dest items body (head id ty by) to g))
      (nodes.fits_made items body fuel otherwise ty f2)) S w f)

  pub match_well : (scrutinee : Node) (arms : Nodes) (x : Standpoint) (id : ℕ) (ty : TyId) (by : Option Use) →
      Holds (typing.row (K x) id ty (tree.Match scrutinee arms)) →
      at_nodes.Placed items body told fuel scrutinee → Reach items body (K x) (M scrutinee) →
      branches.AllArms items (marked_run items body) may_end (Acts items body) (Tests items body) (Drops items body)
      (Made items body) (does_well items body) (Cell items body) (May items body) (Names items body) (PlaceOk items body (ty_of scrutinee)) (IsMade items body ty) (K x)
      (Ms arms) →
      W x (Of (tree.Match scrutinee arms) id ty by)
  match_well scrutinee arms x id ty by h placed reach_scrutinee all_arms =
      nodes.value_well items body fuel (K x) (head id ty by)
      (shape_of items (tree.Match scrutinee arms) (head id ty by))
      (forms.matching items (marked_run items body) (head id ty by) (M scrutinee) (Ms arms))
      (λ around own to ok g S w f. branches.matching_well items (marked_run items body) may_end (Acts items body)
      (Tests items body) (Drops items body) (Made items body) (does_well items body) (Cell items body)
      (May items body)
      (Names items body) (PlaceOk items body (ty_of scrutinee)) (K x) (IsMade items body ty) (head id ty by) (M scrutinee) (Ms arms) around own to ok
      reach_scrutinee (at_nodes.touched items body told fuel scrutinee placed around ok.0)
      (λ reached. placed reached around ok.0)
      all_arms
      (at_nodes.arms_fit items body told fuel arms ty to
      (facts.left_of (list_all (types.fits items ty) (typing.types_in arms)) _ h.1.1.0)
      (nodes.as_dest items body (head id ty by) to g)) S w f)

  pub loop_well : (body_ : Node) (x : Standpoint) (id : ℕ) (ty : TyId) (by : Option Use) →
      Holds (typing.row (K x) id ty (tree.Loop body_)) →
      H (cells_in items (tree.Loop body_)) →
      Well items body (K (in_a_loop (at_nodes.around_a items body told fuel id ty true) x)) (M body_) →
      W x (Of (tree.Loop body_) id ty by)
  loop_well body_ x id ty by h k well_body =
      nodes.scope_well items body fuel (K x) (head id ty by) (shape_of items (tree.Loop body_) (head id ty by))
      (evaluation.endless items (marked_run items body) fuel (head id ty by) (M body_))
      (λ around to ok g S w f. statements.turns_well items (marked_run items body) may_end (Acts items body)
      (Tests items body) (Drops items body) (Made items body) (does_well items body) (Cell items body)
      (May items body)
      (Names items body) (K x) (at_nodes.around_a items body told fuel id ty true) fuel
      (evaluation.body_in items (marked_run items body) fuel (M body_) (in_loop id to around))
      (IsMade items body (M body_).head.ty)
      (λ T w' l. alone_well (within (at_nodes.around_a items body told fuel id ty true) (K x)) (in_loop id to around)
      (M body_) (Into (M body_).head.id)
      (statements.around_loop items (marked_run items body) may_end (Acts items body) (Tests items body)
      (Drops items body) (Made items body) (does_well items body) (Cell items body) (May items body) (Names items body) (K x) around
      (at_nodes.around_a items body told fuel id ty true) to ok (nodes.as_dest items body (head id ty by) to g))
      well_body
      (stand.own_dest items body told fuel body_ (in_a_loop (at_nodes.around_a items body told fuel id ty true) x) Taken
      h.0 k) T w' l) S w f)

  pub while_well : (condition : Node) (body_ : Node) (x : Standpoint) (id : ℕ) (ty : TyId) (by : Option Use) →
      Holds (typing.row (K x) id ty (tree.While condition body_)) →
      H (cells_in items (tree.While condition body_)) →
      Well items body (K (in_a_loop (at_nodes.around_a items body told fuel id ty false) x)) (M condition) →
      Well items body (K (in_a_loop (at_nodes.around_a items body told fuel id ty false) x)) (M body_) →
      W x (Of (tree.While condition body_) id ty by)
  while_well condition body_ x id ty by h k well_condition well_body =
      let kc = left (cells items true condition) (cells items true body_) k in
      let kb = right (cells items true condition) (cells items true body_) k in
      let d = stand.own_dest items body told fuel condition
      (in_a_loop (at_nodes.around_a items body told fuel id ty false) x) Taken h.0 kc in
      nodes.scope_well items body fuel (K x) (head id ty by)
      (shape_of items (tree.While condition body_) (head id ty by))
      (evaluation.while_true items (marked_run items body) fuel (head id ty by) (M condition) (M body_))
      (λ around to ok g S w f. let ok' = statements.around_loop items (marked_run items body) may_end (Acts items body)
      (Tests items body) (Drops items body) (Made items body) (does_well items body) (Cell items body)
      (May items body)
      (Names items body) (K x) around (at_nodes.around_a items body told fuel id ty false) to ok
      (nodes.as_dest items body (head id ty by) to g) in
      statements.turns_well items (marked_run items body) may_end (Acts items body) (Tests items body)
      (Drops items body) (Made items body) (does_well items body) (Cell items body) (May items body) (Names items body) (K x)
      (at_nodes.around_a items body told fuel id ty false) fuel
      (forms.condition items (marked_run items body) (in_loop id to around) (M condition)
      (evaluation.body_in items (marked_run items body) fuel (M body_) (in_loop id to around))
      (forms.ends_loop items (marked_run items body) (head id ty by) to)) (Unit {0})
      (λ T w' l. branches.condition_well items (marked_run items body) may_end (Acts items body) (Tests items body)
      (Drops items body) (Made items body) (does_well items body) (Cell items body) (May items body) (Names items body)
      (within (at_nodes.around_a items body told fuel id ty false) (K x)) (Unit {0}) (in_loop id to around)
      (M condition) ok'
      well_condition d
      (λ made. stand.bool_cell items body told fuel condition d made h.1.0)
      (evaluation.body_in items (marked_run items body) fuel (M body_) (in_loop id to around))
      (forms.ends_loop items (marked_run items body) (head id ty by) to)
      (λ U u m. more_valued (within (at_nodes.around_a items body told fuel id ty false) (K x))
      (IsMade items body (M body_).head.ty) (Unit {0}) (λ made. tt)
      (evaluation.body_in items (marked_run items body) fuel (M body_) (in_loop id to around) U u)
      (alone_well (within (at_nodes.around_a items body told fuel id ty false) (K x)) (in_loop id to around) (M body_)
      (Into (M body_).head.id) ok'
      well_body
      (stand.own_dest items body told fuel body_ (in_a_loop (at_nodes.around_a items body told fuel id ty false) x)
      Taken h.1.1.0 kb) U u m))
      (λ U u m. statements.ends_well items (marked_run items body) may_end (Acts items body) (Tests items body)
      (Drops items body) (Made items body) (does_well items body) (Cell items body) (May items body) (Names items body) (K x)
      (Unit {0}) (at_nodes.around_a items body told fuel id ty false) (head id ty by) to refl
      (nodes.unit_delivers items body fuel (head id ty by) to h.1.1.1.1 g) U u m) T w' l) S w f)

  pub while_let_well : (pattern : Node) (scrutinee : Node) (body_ : Node) (x : Standpoint) (id : ℕ) (ty : TyId)
      (by : Option Use) →
      Holds (typing.row (K x) id ty (tree.WhileLet pattern scrutinee body_)) →
      H (cells_in items (tree.WhileLet pattern scrutinee body_)) →
      at_nodes.Placed items body told fuel scrutinee →
      Reach items body (K (in_a_loop (at_nodes.around_a items body told fuel id ty false) x)) (M scrutinee) →
      Well items body (K (with_names (patterns.entries_of pattern)
      (in_a_loop (at_nodes.around_a items body told fuel id ty false) x))) (M body_) →
      W x (Of (tree.WhileLet pattern scrutinee body_) id ty by)
  while_let_well pattern scrutinee body_ x id ty by h k placed reach_scrutinee well_body =
      let k2 = left (cells items true pattern ++ reached_cells items scrutinee) (cells items true body_) k in
      let kb = right (cells items true pattern ++ reached_cells items scrutinee) (cells items true body_) k in
      let kp = left (cells items true pattern) (reached_cells items scrutinee) k2 in
      nodes.scope_well items body fuel (K x) (head id ty by)
      (shape_of items (tree.WhileLet pattern scrutinee body_) (head id ty by))
      (evaluation.while_taken items (marked_run items body) fuel (head id ty by) (M pattern) (M scrutinee) (M body_))
      (λ around to ok g S w f. let ok' = statements.around_loop items (marked_run items body) may_end (Acts items body)
      (Tests items body) (Drops items body) (Made items body) (does_well items body) (Cell items body)
      (May items body)
      (Names items body) (K x) around (at_nodes.around_a items body told fuel id ty false) to ok
      (nodes.as_dest items body (head id ty by) to g) in
      statements.turns_well items (marked_run items body) may_end (Acts items body) (Tests items body)
      (Drops items body) (Made items body) (does_well items body) (Cell items body) (May items body) (Names items body) (K x)
      (at_nodes.around_a items body told fuel id ty false) fuel
      (forms.if_taken items (marked_run items body) (head id ty by) (in_loop id to around) (M pattern) (M scrutinee)
      (evaluation.body_in items (marked_run items body) fuel (M body_) (in_loop id to around))
      (forms.ends_loop items (marked_run items body) (head id ty by) to)) (Unit {0})
      (λ T w' l. branches.if_taken_well items (marked_run items body) may_end (Acts items body) (Tests items body)
      (Drops items body) (Made items body) (does_well items body) (Cell items body) (May items body) (Names items body)
      (within (at_nodes.around_a items body told fuel id ty false) (K x)) (Unit {0}) (head id ty by)
      (in_loop id to around) (M pattern) (M scrutinee)
      (evaluation.body_in items (marked_run items body) fuel (M body_) (in_loop id to around))
      (forms.ends_loop items (marked_run items body) (head id ty by) to) ok'
      reach_scrutinee (at_nodes.touched items body told fuel scrutinee placed (in_loop id to around) ok'.0)
      (λ reached. at_nodes.tests_meant items body told fuel pattern
      (typing.matched_in false (K (in_a_loop (at_nodes.around_a items body told fuel id ty false) x)) scrutinee)
      (ty_of scrutinee) h.1.0.1 kp (place_of (M scrutinee) (in_loop id to around)) (placed reached (in_loop id to around) ok'.0))
      (λ reached. at_nodes.bounds_meant items body told fuel pattern
      (typing.matched_in false (K (in_a_loop (at_nodes.around_a items body told fuel id ty false) x)) scrutinee)
      (ty_of scrutinee) h.1.0.1
      (λ o. at_nodes.used_plain items body told fuel (in_a_loop (at_nodes.around_a items body told fuel id ty false) x)
      Use.Borrow scrutinee h.0) kp (place_of (M scrutinee) (in_loop id to around)) (placed reached (in_loop id to around) ok'.0))
      (λ U u m. more_valued (within (at_nodes.around_a items body told fuel id ty false) (K x))
      (IsMade items body (M body_).head.ty) (Unit {0}) (λ made. tt)
      (evaluation.body_in items (marked_run items body) fuel (M body_) (in_loop id to around) U u)
      (alone_well (within (at_nodes.around_a items body told fuel id ty false) (K x)) (in_loop id to around) (M body_)
      (Into (M body_).head.id) ok'
      well_body
      (stand.own_dest items body told fuel body_
      (with_names (patterns.entries_of pattern) (in_a_loop (at_nodes.around_a items body told fuel id ty false) x))
      Taken h.1.1.0 kb) U u m))
      (λ U u m. statements.ends_well items (marked_run items body) may_end (Acts items body) (Tests items body)
      (Drops items body) (Made items body) (does_well items body) (Cell items body) (May items body) (Names items body) (K x)
      (Unit {0}) (at_nodes.around_a items body told fuel id ty false) (head id ty by) to refl
      (nodes.unit_delivers items body fuel (head id ty by) to h.1.1.1.1 g) U u m) T w' l) S w f)
