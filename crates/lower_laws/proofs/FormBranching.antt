-- Branches, loops, and the ways out of them: good lines where those of their parts are.
use Rattle.std.proofs.Common.{◌≡◌, ℕ, ◌==◌, Bool, true, false, List, [], ◌∷◌, ◌++◌, Option, Some, cond, refl, sym, subst, ◌∙◌}
use Rattle.std.proofs.lemmas.Option.{same_Some}
use Rattle.mir_base.specs.declared.place_in_text.Pos.{Pos}
use Rattle.mir_ty.specs.declared.ty.TyId.{TyId}
use Rattle.store_model.specs.Effects as effects
use Rattle.typed_tree.specs.declared.node.Use.{Use}
use Rattle.typed_tree.specs.Nodes.{nodes_of, nodes_among}
use Rattle.typed_tree.specs.Tree as tree
use Rattle.typed_tree.specs.Tree.{Node, Form, Nodes, absent, present}
use Rattle.src_meaning.specs.Forms.{Destination, Into, in_loop, loop_destination, moved}
use Rattle.src_meaning.specs.Locals.OfBody.{cells, reached_cells, cells_in, all_cells}
use Rattle.src_meaning.specs.Scopes.{Entry, Breaks, Returns}
use Rattle.src_meaning.specs.Shape.{NodeHead, head, Shape, shape_of}
use Rattle.well_typed.specs.Claim.{Holds}
use Rattle.well_typed.specs.Nodes as typing
use Rattle.well_typed.specs.Patterns.{entries_of}
use Rattle.well_typed.specs.Places as scopes
use Rattle.well_typed.specs.Places.{LoopAround, Context, with_entries, within, loop_with, ty_of}
use Rattle.lower_rules.specs.Build as build
use Rattle.lower_rules.specs.Build.{LoweringFrame, then_lower}
use Rattle.lower_rules.specs.Lower as lower
use Rattle.lower_rules.specs.Lower.{NodeLower}
use Rattle.lower_rules.proofs.Lines as lines
use Rattle.lower_laws.proofs.Base as base
use Rattle.lower_laws.proofs.Base.{Ground, untrue, found}
use Rattle.lower_laws.proofs.Rules as rules
use Rattle.lower_laws.proofs.Branches as branches
use Rattle.lower_laws.proofs.Names as names
use Rattle.lower_laws.proofs.FormTypes.{wanted_fits, is_bool_or, bool_fits, unit_fits, unit_made, bool_made, common_two, never_head, made_wanted}
use Rattle.lower_laws.proofs.FormValues.{value, scoped_value, fine_in, fits_head}
use Rattle.lower_laws.proofs.FormEffects.{truth_put}
use Rattle.lower_laws.proofs.FormStatements.{shaped_at}

module _ (g : Ground) where
  abbrev F : LoweringFrame
  F = base.F g

  abbrev K : Context → Context
  K x = record x { items = g.items }

  abbrev L : Node → NodeLower
  L n = lower.lower F n

  abbrev S_of : Form → NodeHead → Shape
  S_of form h = shape_of g.items form h

  abbrev Cells : List Entry → Type 0
  Cells = base.CellsOk g

  abbrev Good : Context → Node → NodeLower → Type 0
  Good = rules.Good g

  ends_leaves : (l : LoopAround) (loops : List LoopAround) (h : NodeHead) (to : Destination) → base.Made g l.ty → l.loop ≡ h.id → base.Leaves g (l ∷ loops) (lower.ends_loop F h to)
  ends_leaves l loops h to made same = branches.jump_leaves g (l ∷ loops) h.id (Breaks h.id) _ (rules.leaves_deliver g (l ∷ loops) h.id h (λ site. effects.Put site effects.UnitValue) to)
      (λ e. ((λ k is. own k (l.loop == h.id) (names.equal_too l.loop h.id same) is), tt))
    where
      own : (k : LoopAround) (b : Bool) → b ≡ true → cond b (Some l) (loop_with h.id loops) ≡ Some k → base.Made g k.ty
      own k true e is = subst (λ (z : LoopAround). base.Made g z.ty) (same_Some l k is) made
      own k false e is = absurd (untrue e)

  -- ---- branches and loops
  pub and_good : (x : Context) (left right : Node) (id : ℕ) (at : Pos) (ty : TyId) (by : Option Use) → Holds (typing.row (K x) id ty (tree.And left right)) → Good x left (L left) → Good x right (L right) → Good x (tree.node id at ty by (tree.And left right)) (lower.lower_form F (tree.And left right) (head id ty by) (S_of (tree.And left right) (head id ty by)))
  and_good x left right id at ty by h k l =
      let one = λ (o : Bool) (c : Cells (cells g.items o (tree.node id at ty by (tree.And left right)))). base.cells_first g (cells g.items true left) (cells g.items false right) (base.cells_second g _ (cells_in g.items (tree.And left right)) c) in
      let two = λ (o : Bool) (c : Cells (cells g.items o (tree.node id at ty by (tree.And left right)))). base.cells_second g (cells g.items true left) (cells g.items false right) (base.cells_second g _ (cells_in g.items (tree.And left right)) c) in
      scoped_value g x (tree.node id at ty by (tree.And left right)) (head id ty by) (S_of (tree.And left right) (head id ty by)) (lower.conjunction F (head id ty by) (L left) (L right)) (record { id_is = refl; ty_is = refl; shape_is = refl; whole = λ a. refl; reached_so = λ c. c; cell = λ c m. (rw m at c).0 }) (λ o c v a. absurd (base.never_and_made g ty v (bool_made g ty h.1.1.1.1)))
      (λ o c a to. rules.condition_leaves g x left (L left) k (one o c) a _ _ (rules.leaves_back g x.loops _ (l.leaves false (two o c) a true to)) (rules.leaves_deliver g x.loops id (head id ty by) (λ site. effects.Put site (effects.Truth false)) to))
      (λ o c a f to ar. let d = fine_in g x a (tree.node id at ty by (tree.And left right)) (nodes_of left ++ nodes_of right) f in
      rules.condition_sound g x left (L left) k (one o c) (is_bool_or g (ty_of left) h.1.1.0) a (base.fine_first g x a (nodes_of left) (nodes_of right) d) _ _
      (rules.alone_sound g x right (L right) l false (two o c) a (base.fine_second g x a (nodes_of left) (nodes_of right) d) to (branches.dest_fits g to ty (L right).head.ty (fits_head g x right l ty (bool_fits g ty (ty_of right) h.1.1.1.1 h.1.1.1.0)) ar.made))
      (rules.answered g id (head id ty by) (λ site. effects.Put site (effects.Truth false)) to ar (rules.no_own g (head id ty by) (λ v. base.never_and_made g ty v (bool_made g ty h.1.1.1.1))) (λ key q. truth_put g id ty false key q h.1.1.1.1)))

  pub or_good : (x : Context) (left right : Node) (id : ℕ) (at : Pos) (ty : TyId) (by : Option Use) → Holds (typing.row (K x) id ty (tree.Or left right)) → Good x left (L left) → Good x right (L right) → Good x (tree.node id at ty by (tree.Or left right)) (lower.lower_form F (tree.Or left right) (head id ty by) (S_of (tree.Or left right) (head id ty by)))
  or_good x left right id at ty by h k l =
      let one = λ (o : Bool) (c : Cells (cells g.items o (tree.node id at ty by (tree.Or left right)))). base.cells_first g (cells g.items true left) (cells g.items false right) (base.cells_second g _ (cells_in g.items (tree.Or left right)) c) in
      let two = λ (o : Bool) (c : Cells (cells g.items o (tree.node id at ty by (tree.Or left right)))). base.cells_second g (cells g.items true left) (cells g.items false right) (base.cells_second g _ (cells_in g.items (tree.Or left right)) c) in
      scoped_value g x (tree.node id at ty by (tree.Or left right)) (head id ty by) (S_of (tree.Or left right) (head id ty by)) (lower.disjunction F (head id ty by) (L left) (L right)) (record { id_is = refl; ty_is = refl; shape_is = refl; whole = λ a. refl; reached_so = λ c. c; cell = λ c m. (rw m at c).0 }) (λ o c v a. absurd (base.never_and_made g ty v (bool_made g ty h.1.1.1.1)))
      (λ o c a to. rules.condition_leaves g x left (L left) k (one o c) a _ _ (rules.leaves_deliver g x.loops id (head id ty by) (λ site. effects.Put site (effects.Truth true)) to) (rules.leaves_back g x.loops _ (l.leaves false (two o c) a true to)))
      (λ o c a f to ar. let d = fine_in g x a (tree.node id at ty by (tree.Or left right)) (nodes_of left ++ nodes_of right) f in
      rules.condition_sound g x left (L left) k (one o c) (is_bool_or g (ty_of left) h.1.1.0) a (base.fine_first g x a (nodes_of left) (nodes_of right) d) _ _
      (rules.answered g id (head id ty by) (λ site. effects.Put site (effects.Truth true)) to ar (rules.no_own g (head id ty by) (λ v. base.never_and_made g ty v (bool_made g ty h.1.1.1.1))) (λ key q. truth_put g id ty true key q h.1.1.1.1))
      (rules.alone_sound g x right (L right) l false (two o c) a (base.fine_second g x a (nodes_of left) (nodes_of right) d) to (branches.dest_fits g to ty (L right).head.ty (fits_head g x right l ty (bool_fits g ty (ty_of right) h.1.1.1.1 h.1.1.1.0)) ar.made)))

  pub if_good : (x : Context) (condition consequent : Node) (id : ℕ) (at : Pos) (ty : TyId) (by : Option Use) → Holds (typing.row (K x) id ty (tree.If condition consequent absent)) → Good x condition (L condition) → Good x consequent (L consequent) → Good x (tree.node id at ty by (tree.If condition consequent absent)) (lower.lower_form F (tree.If condition consequent absent) (head id ty by) (S_of (tree.If condition consequent absent) (head id ty by)))
  if_good x condition consequent id at ty by h k l =
      let both_ = λ (o : Bool) (c : Cells (cells g.items o (tree.node id at ty by (tree.If condition consequent absent)))). base.cells_first g (cells g.items true condition ++ cells g.items false consequent) [] (base.cells_second g _ (cells_in g.items (tree.If condition consequent absent)) c) in
      let one = λ (o : Bool) (c : Cells (cells g.items o (tree.node id at ty by (tree.If condition consequent absent)))). base.cells_first g (cells g.items true condition) (cells g.items false consequent) (both_ o c) in
      let two = λ (o : Bool) (c : Cells (cells g.items o (tree.node id at ty by (tree.If condition consequent absent)))). base.cells_second g (cells g.items true condition) (cells g.items false consequent) (both_ o c) in
      scoped_value g x (tree.node id at ty by (tree.If condition consequent absent)) (head id ty by) (S_of (tree.If condition consequent absent) (head id ty by)) (λ a to. lower.condition F a (L condition) (lower.alone F a (L consequent) to) (lower.put_unit F (head id ty by) to)) (record { id_is = refl; ty_is = refl; shape_is = refl; whole = λ a. refl; reached_so = λ c. c; cell = λ c m. (rw m at c).0 }) (λ o c v a. absurd (base.never_and_made g ty v (unit_made g ty h.1.1.1.1)))
      (λ o c a to. rules.condition_leaves g x condition (L condition) k (one o c) a _ _ (rules.leaves_back g x.loops _ (l.leaves false (two o c) a true to)) (rules.leaves_deliver g x.loops id (head id ty by) (λ site. effects.Put site effects.UnitValue) to))
      (λ o c a f to ar. let d = base.fine_first g x a (nodes_of condition ++ nodes_of consequent) [] (fine_in g x a (tree.node id at ty by (tree.If condition consequent absent)) _ f) in
      rules.condition_sound g x condition (L condition) k (one o c) (is_bool_or g (ty_of condition) h.1.0) a (base.fine_first g x a (nodes_of condition) (nodes_of consequent) d) _ _
      (rules.alone_sound g x consequent (L consequent) l false (two o c) a (base.fine_second g x a (nodes_of condition) (nodes_of consequent) d) to (branches.dest_fits g to ty (L consequent).head.ty (fits_head g x consequent l ty (unit_fits g ty (ty_of consequent) h.1.1.1.1 h.1.1.1.0)) ar.made))
      (rules.unit_put g (head id ty by) to ar h.1.1.1.1))

  pub if_else_good : (x : Context) (condition consequent otherwise : Node) (id : ℕ) (at : Pos) (ty : TyId) (by : Option Use) → Holds (typing.row (K x) id ty (tree.If condition consequent (present otherwise))) → Good x condition (L condition) → Good x consequent (L consequent) → Good x otherwise (L otherwise) → Good x (tree.node id at ty by (tree.If condition consequent (present otherwise))) (lower.lower_form F (tree.If condition consequent (present otherwise)) (head id ty by) (S_of (tree.If condition consequent (present otherwise)) (head id ty by)))
  if_else_good x condition consequent otherwise id at ty by h k l q =
      let fit = common_two g ty (ty_of consequent) (ty_of otherwise) h.1.1.1.1 in
      let both_ = λ (o : Bool) (c : Cells (cells g.items o (tree.node id at ty by (tree.If condition consequent (present otherwise))))). base.cells_first g (cells g.items true condition ++ cells g.items false consequent) (cells g.items false otherwise) (base.cells_second g _ (cells_in g.items (tree.If condition consequent (present otherwise))) c) in
      let one = λ (o : Bool) (c : Cells (cells g.items o (tree.node id at ty by (tree.If condition consequent (present otherwise))))). base.cells_first g (cells g.items true condition) (cells g.items false consequent) (both_ o c) in
      let two = λ (o : Bool) (c : Cells (cells g.items o (tree.node id at ty by (tree.If condition consequent (present otherwise))))). base.cells_second g (cells g.items true condition) (cells g.items false consequent) (both_ o c) in
      let three = λ (o : Bool) (c : Cells (cells g.items o (tree.node id at ty by (tree.If condition consequent (present otherwise))))). base.cells_second g (cells g.items true condition ++ cells g.items false consequent) (cells g.items false otherwise) (base.cells_second g _ (cells_in g.items (tree.If condition consequent (present otherwise))) c) in
      scoped_value g x (tree.node id at ty by (tree.If condition consequent (present otherwise))) (head id ty by) (S_of (tree.If condition consequent (present otherwise)) (head id ty by)) (λ a to. lower.condition F a (L condition) (lower.alone F a (L consequent) to) (lower.alone F a (L otherwise) to)) (record { id_is = refl; ty_is = refl; shape_is = refl; whole = λ a. refl; reached_so = λ c. c; cell = λ c m. (rw m at c).0 })
      (λ o c v a. rules.no_end_second g (lower.alone F a (L condition) (Into (L condition).head.id)) (build.branches (L condition).head.id (build.if_true F (moved (L condition).head.id (L condition).head.id) (L condition).head.id) (lower.alone F a (L consequent) (Into id)) (lower.alone F a (L otherwise) (Into id)))
      (base.both_false _ _ (l.ended false (two o c) (never_head g x consequent l ty fit.0 v) a true (Into id)) (q.ended false (three o c) (never_head g x otherwise q ty fit.1 v) a true (Into id))))
      (λ o c a to. rules.condition_leaves g x condition (L condition) k (one o c) a _ _ (rules.leaves_back g x.loops _ (l.leaves false (two o c) a true to)) (rules.leaves_back g x.loops _ (q.leaves false (three o c) a true to)))
      (λ o c a f to ar. let w = fine_in g x a (tree.node id at ty by (tree.If condition consequent (present otherwise))) ((nodes_of condition ++ nodes_of consequent) ++ nodes_of otherwise) f in
      let d = base.fine_first g x a (nodes_of condition ++ nodes_of consequent) (nodes_of otherwise) w in
      rules.condition_sound g x condition (L condition) k (one o c) (is_bool_or g (ty_of condition) h.1.0) a (base.fine_first g x a (nodes_of condition) (nodes_of consequent) d) _ _
      (rules.alone_sound g x consequent (L consequent) l false (two o c) a (base.fine_second g x a (nodes_of condition) (nodes_of consequent) d) to (branches.dest_fits g to ty (L consequent).head.ty (fits_head g x consequent l ty fit.0) ar.made))
      (rules.alone_sound g x otherwise (L otherwise) q false (three o c) a (base.fine_second g x a (nodes_of condition ++ nodes_of consequent) (nodes_of otherwise) w) to (branches.dest_fits g to ty (L otherwise).head.ty (fits_head g x otherwise q ty fit.1) ar.made)))

  pub if_let_good : (x : Context) (pattern scrutinee consequent : Node) (id : ℕ) (at : Pos) (ty : TyId) (by : Option Use) → Holds (typing.row (K x) id ty (tree.IfLet pattern scrutinee consequent absent)) → Good x scrutinee (L scrutinee) → Good (with_entries (entries_of pattern) x) consequent (L consequent) → Good x (tree.node id at ty by (tree.IfLet pattern scrutinee consequent absent)) (lower.lower_form F (tree.IfLet pattern scrutinee consequent absent) (head id ty by) (S_of (tree.IfLet pattern scrutinee consequent absent) (head id ty by)))
  if_let_good x pattern scrutinee consequent id at ty by h k l =
      let y = with_entries (entries_of pattern) x in
      let n1 = nodes_of pattern ++ nodes_of scrutinee in
      let c1 = cells g.items true pattern ++ reached_cells g.items scrutinee in
      let outer_ = λ (o : Bool) (c : Cells (cells g.items o (tree.node id at ty by (tree.IfLet pattern scrutinee consequent absent)))). base.cells_first g (c1 ++ cells g.items false consequent) [] (base.cells_second g _ (cells_in g.items (tree.IfLet pattern scrutinee consequent absent)) c) in
      let cp = λ (o : Bool) (c : Cells (cells g.items o (tree.node id at ty by (tree.IfLet pattern scrutinee consequent absent)))). base.cells_first g (cells g.items true pattern) (reached_cells g.items scrutinee) (base.cells_first g c1 (cells g.items false consequent) (outer_ o c)) in
      let cs = λ (o : Bool) (c : Cells (cells g.items o (tree.node id at ty by (tree.IfLet pattern scrutinee consequent absent)))). base.cells_second g (cells g.items true pattern) (reached_cells g.items scrutinee) (base.cells_first g c1 (cells g.items false consequent) (outer_ o c)) in
      let cb = λ (o : Bool) (c : Cells (cells g.items o (tree.node id at ty by (tree.IfLet pattern scrutinee consequent absent)))). base.cells_second g c1 (cells g.items false consequent) (outer_ o c) in
      scoped_value g x (tree.node id at ty by (tree.IfLet pattern scrutinee consequent absent)) (head id ty by) (S_of (tree.IfLet pattern scrutinee consequent absent) (head id ty by)) (λ a to. lower.if_taken F (head id ty by) a (L pattern) (L scrutinee) (lower.alone F a (L consequent) to) (lower.put_unit F (head id ty by) to)) (record { id_is = refl; ty_is = refl; shape_is = refl; whole = λ a. refl; reached_so = λ c. c; cell = λ c m. (rw m at c).0 }) (λ o c v a. absurd (base.never_and_made g ty v (unit_made g ty h.1.1.1.1)))
      (λ o c a to. branches.if_taken_leaves g x (head id ty by) a (L pattern) scrutinee (L scrutinee) k (cs o c) _ _ (rules.leaves_back g x.loops _ (l.leaves false (cb o c) a true to)) (rules.leaves_deliver g x.loops id (head id ty by) (λ site. effects.Put site effects.UnitValue) to))
      (λ o c a f to ar. let d = base.fine_first g x a (n1 ++ nodes_of consequent) [] (fine_in g x a (tree.node id at ty by (tree.IfLet pattern scrutinee consequent absent)) _ f) in
      let d1 = base.fine_first g x a n1 (nodes_of consequent) d in
      branches.if_taken_sound g x (head id ty by) a (L pattern) scrutinee (L scrutinee) k (cs o c) (base.fine_second g x a (nodes_of pattern) (nodes_of scrutinee) d1) (shaped_at g x pattern scrutinee k _ h.1.0.1 (cp o c)) _ _
      (rules.alone_sound g y consequent (L consequent) l false (cb o c) a (names.fine_more g x a pattern (nodes_of consequent) (base.fine_first g x a (nodes_of pattern) (nodes_of scrutinee) d1) (base.fine_second g x a n1 (nodes_of consequent) d) (names.keyed g pattern _ (ty_of scrutinee) h.1.0.1 (cp o c))) to (branches.dest_fits g to ty (L consequent).head.ty (fits_head g y consequent l ty (unit_fits g ty (ty_of consequent) h.1.1.1.1 h.1.1.1.0)) ar.made))
      (rules.unit_put g (head id ty by) to ar h.1.1.1.1))

  pub if_let_else_good : (x : Context) (pattern scrutinee consequent otherwise : Node) (id : ℕ) (at : Pos) (ty : TyId) (by : Option Use) → Holds (typing.row (K x) id ty (tree.IfLet pattern scrutinee consequent (present otherwise))) → Good x scrutinee (L scrutinee) → Good (with_entries (entries_of pattern) x) consequent (L consequent) → Good x otherwise (L otherwise) → Good x (tree.node id at ty by (tree.IfLet pattern scrutinee consequent (present otherwise))) (lower.lower_form F (tree.IfLet pattern scrutinee consequent (present otherwise)) (head id ty by) (S_of (tree.IfLet pattern scrutinee consequent (present otherwise)) (head id ty by)))
  if_let_else_good x pattern scrutinee consequent otherwise id at ty by h k l q =
      let y = with_entries (entries_of pattern) x in
      let n1 = nodes_of pattern ++ nodes_of scrutinee in
      let c1 = cells g.items true pattern ++ reached_cells g.items scrutinee in
      let fit = common_two g ty (ty_of consequent) (ty_of otherwise) h.1.1.1.1 in
      let outer_ = λ (o : Bool) (c : Cells (cells g.items o (tree.node id at ty by (tree.IfLet pattern scrutinee consequent (present otherwise))))). base.cells_first g (c1 ++ cells g.items false consequent) (cells g.items false otherwise) (base.cells_second g _ (cells_in g.items (tree.IfLet pattern scrutinee consequent (present otherwise))) c) in
      let cp = λ (o : Bool) (c : Cells (cells g.items o (tree.node id at ty by (tree.IfLet pattern scrutinee consequent (present otherwise))))). base.cells_first g (cells g.items true pattern) (reached_cells g.items scrutinee) (base.cells_first g c1 (cells g.items false consequent) (outer_ o c)) in
      let cs = λ (o : Bool) (c : Cells (cells g.items o (tree.node id at ty by (tree.IfLet pattern scrutinee consequent (present otherwise))))). base.cells_second g (cells g.items true pattern) (reached_cells g.items scrutinee) (base.cells_first g c1 (cells g.items false consequent) (outer_ o c)) in
      let cb = λ (o : Bool) (c : Cells (cells g.items o (tree.node id at ty by (tree.IfLet pattern scrutinee consequent (present otherwise))))). base.cells_second g c1 (cells g.items false consequent) (outer_ o c) in
      let co = λ (o : Bool) (c : Cells (cells g.items o (tree.node id at ty by (tree.IfLet pattern scrutinee consequent (present otherwise))))). base.cells_second g (c1 ++ cells g.items false consequent) (cells g.items false otherwise) (base.cells_second g _ (cells_in g.items (tree.IfLet pattern scrutinee consequent (present otherwise))) c) in
      scoped_value g x (tree.node id at ty by (tree.IfLet pattern scrutinee consequent (present otherwise))) (head id ty by) (S_of (tree.IfLet pattern scrutinee consequent (present otherwise)) (head id ty by)) (λ a to. lower.if_taken F (head id ty by) a (L pattern) (L scrutinee) (lower.alone F a (L consequent) to) (lower.alone F a (L otherwise) to)) (record { id_is = refl; ty_is = refl; shape_is = refl; whole = λ a. refl; reached_so = λ c. c; cell = λ c m. (rw m at c).0 })
      (λ o c v a. branches.if_taken_ended g (head id ty by) a (L pattern) (L scrutinee) (lower.alone F a (L consequent) (Into id)) (lower.alone F a (L otherwise) (Into id)) (l.ended false (cb o c) (never_head g y consequent l ty fit.0 v) a true (Into id)) (q.ended false (co o c) (never_head g x otherwise q ty fit.1 v) a true (Into id)))
      (λ o c a to. branches.if_taken_leaves g x (head id ty by) a (L pattern) scrutinee (L scrutinee) k (cs o c) _ _ (rules.leaves_back g x.loops _ (l.leaves false (cb o c) a true to)) (rules.leaves_back g x.loops _ (q.leaves false (co o c) a true to)))
      (λ o c a f to ar. let w = fine_in g x a (tree.node id at ty by (tree.IfLet pattern scrutinee consequent (present otherwise))) ((n1 ++ nodes_of consequent) ++ nodes_of otherwise) f in
      let d = base.fine_first g x a (n1 ++ nodes_of consequent) (nodes_of otherwise) w in
      let d1 = base.fine_first g x a n1 (nodes_of consequent) d in
      branches.if_taken_sound g x (head id ty by) a (L pattern) scrutinee (L scrutinee) k (cs o c) (base.fine_second g x a (nodes_of pattern) (nodes_of scrutinee) d1) (shaped_at g x pattern scrutinee k _ h.1.0.1 (cp o c)) _ _
      (rules.alone_sound g y consequent (L consequent) l false (cb o c) a (names.fine_more g x a pattern (nodes_of consequent) (base.fine_first g x a (nodes_of pattern) (nodes_of scrutinee) d1) (base.fine_second g x a n1 (nodes_of consequent) d) (names.keyed g pattern _ (ty_of scrutinee) h.1.0.1 (cp o c))) to (branches.dest_fits g to ty (L consequent).head.ty (fits_head g y consequent l ty fit.0) ar.made))
      (rules.alone_sound g x otherwise (L otherwise) q false (co o c) a (base.fine_second g x a (n1 ++ nodes_of consequent) (nodes_of otherwise) w) to (branches.dest_fits g to ty (L otherwise).head.ty (fits_head g x otherwise q ty fit.1) ar.made)))

  pub match_good : (x : Context) (scrutinee : Node) (arms : Nodes) (id : ℕ) (at : Pos) (ty : TyId) (by : Option Use) → Holds (typing.row (K x) id ty (tree.Match scrutinee arms)) → Good x scrutinee (L scrutinee) → ((o : Bool) → Cells (cells g.items o (tree.node id at ty by (tree.Match scrutinee arms))) → branches.Arms g x (ty_of scrutinee) ty (scopes.may_move (K x) scrutinee) (nodes_among arms) (lower.lower_all F arms)) → Good x (tree.node id at ty by (tree.Match scrutinee arms)) (lower.lower_form F (tree.Match scrutinee arms) (head id ty by) (S_of (tree.Match scrutinee arms) (head id ty by)))
  match_good x scrutinee arms id at ty by h k all =
      let one = λ (o : Bool) (c : Cells (cells g.items o (tree.node id at ty by (tree.Match scrutinee arms)))). base.cells_first g (reached_cells g.items scrutinee) (all_cells g.items arms) (base.cells_second g _ (cells_in g.items (tree.Match scrutinee arms)) c) in
      value g x (tree.node id at ty by (tree.Match scrutinee arms)) (head id ty by) (S_of (tree.Match scrutinee arms) (head id ty by)) (lower.matching F (head id ty by) (L scrutinee) (lower.lower_all F arms)) (record { id_is = refl; ty_is = refl; shape_is = refl; whole = λ a. refl; reached_so = λ c. c; cell = λ c m. (rw m at c).0 })
      (λ o c v a own. rules.no_end_owned g (head id ty by) own (then_lower (lower.scrutinised F a (L scrutinee)) (lower.arms_in_order F id (lower.lower_all F arms) (lower.place_in (L scrutinee) a) a (Into id)))
      (rules.no_end_second g (lower.scrutinised F a (L scrutinee)) (lower.arms_in_order F id (lower.lower_all F arms) (lower.place_in (L scrutinee) a) a (Into id)) (branches.arms_ended g x (ty_of scrutinee) ty (scopes.may_move (K x) scrutinee) (nodes_among arms) (lower.lower_all F arms) (all o c) v (lower.place_in (L scrutinee) a) a (Into id))))
      (λ o c a own to. rules.leaves_owned g x.loops (head id ty by) own _ (base.leaves_then g x.loops _ (lower.arms_in_order F id (lower.lower_all F arms) (lower.place_in (L scrutinee) a) a to) (branches.scrutinised_leaves g x scrutinee (L scrutinee) k (one o c) a) (λ e. record { spares = branches.arms_leave g x (ty_of scrutinee) ty (scopes.may_move (K x) scrutinee) (nodes_among arms) (lower.lower_all F arms) (all o c) (lower.place_in (L scrutinee) a) a to })))
      (λ o c a f own to ar. let d = fine_in g x a (tree.node id at ty by (tree.Match scrutinee arms)) (nodes_of scrutinee ++ nodes_among arms) f in
      let d1 = base.fine_first g x a (nodes_of scrutinee) (nodes_among arms) d in
      base.owned g (head id ty by) own _ (base.and_then g _ _ (branches.scrutinised_sound g x scrutinee (L scrutinee) k (one o c) a d1)
      (λ e. branches.arms_sound g x id (ty_of scrutinee) ty (scopes.may_move (K x) scrutinee) (nodes_among arms) (lower.lower_all F arms) (all o c) (lower.place_in (L scrutinee) a)
      (subst (base.Typed g (lower.place_in (L scrutinee) a)) k.ty_is (branches.scrutinee_place g x scrutinee (L scrutinee) k (one o c) a d1 e)) (λ w. branches.scrutinee_goes g x scrutinee (L scrutinee) k (one o c) a d1 e w) a (base.fine_second g x a (nodes_of scrutinee) (nodes_among arms) d) to ar.made)))

  pub loop_good : (x : Context) (inner : Node) (id : ℕ) (at : Pos) (ty : TyId) (by : Option Use) → Holds (typing.row (K x) id ty (tree.Loop inner)) → Good (within (record { loop = id; ty = ty; has_value = true }) x) inner (L inner) → Good x (tree.node id at ty by (tree.Loop inner)) (lower.lower_form F (tree.Loop inner) (head id ty by) (S_of (tree.Loop inner) (head id ty by)))
  loop_good x inner id at ty by h k =
      let l : LoopAround = record { loop = id; ty = ty; has_value = true } in
      scoped_value g x (tree.node id at ty by (tree.Loop inner)) (head id ty by) (S_of (tree.Loop inner) (head id ty by)) (λ a to. build.looped id (lower.body_in F (L inner) (in_loop id to a))) (record { id_is = refl; ty_is = refl; shape_is = refl; whole = λ a. refl; reached_so = λ c. c; cell = λ c m. (rw m at c).0 })
      (λ o c v a. branches.not_left g l x.loops _ v (rules.leaves_back g (l ∷ x.loops) _ (k.leaves true (base.cells_second g _ (cells_in g.items (tree.Loop inner)) c) (in_loop id (Into id) a) true (Into (L inner).head.id))).spares)
      (λ o c a to. branches.looped_leaves g l x.loops _ (rules.leaves_back g (l ∷ x.loops) _ (k.leaves true (base.cells_second g _ (cells_in g.items (tree.Loop inner)) c) (in_loop id to a) true (Into (L inner).head.id))))
      (λ o c a f to ar. lines.looped_sound F (base.wanted g) id _ (rules.alone_sound g (within l x) inner (L inner) k true (base.cells_second g _ (cells_in g.items (tree.Loop inner)) c) (in_loop id to a) (names.fine_loop g x a (nodes_of inner) l to (fine_in g x a (tree.node id at ty by (tree.Loop inner)) (nodes_of inner) f) ar.made) (Into (L inner).head.id) (λ v. k.cell (base.cells_second g _ (cells_in g.items (tree.Loop inner)) c) v)))

  pub while_good : (x : Context) (condition inner : Node) (id : ℕ) (at : Pos) (ty : TyId) (by : Option Use) → Holds (typing.row (K x) id ty (tree.While condition inner)) → Good (within (record { loop = id; ty = ty; has_value = false }) x) condition (L condition) → Good (within (record { loop = id; ty = ty; has_value = false }) x) inner (L inner) → Good x (tree.node id at ty by (tree.While condition inner)) (lower.lower_form F (tree.While condition inner) (head id ty by) (S_of (tree.While condition inner) (head id ty by)))
  while_good x condition inner id at ty by h k q =
      let l : LoopAround = record { loop = id; ty = ty; has_value = false } in
      let one = λ (o : Bool) (c : Cells (cells g.items o (tree.node id at ty by (tree.While condition inner)))). base.cells_first g (cells g.items true condition) (cells g.items true inner) (base.cells_second g _ (cells_in g.items (tree.While condition inner)) c) in
      let two = λ (o : Bool) (c : Cells (cells g.items o (tree.node id at ty by (tree.While condition inner)))). base.cells_second g (cells g.items true condition) (cells g.items true inner) (base.cells_second g _ (cells_in g.items (tree.While condition inner)) c) in
      scoped_value g x (tree.node id at ty by (tree.While condition inner)) (head id ty by) (S_of (tree.While condition inner) (head id ty by)) (λ a to. build.looped id (lower.condition F (in_loop id to a) (L condition) (lower.body_in F (L inner) (in_loop id to a)) (lower.ends_loop F (head id ty by) to))) (record { id_is = refl; ty_is = refl; shape_is = refl; whole = λ a. refl; reached_so = λ c. c; cell = λ c m. (rw m at c).0 }) (λ o c v a. absurd (base.never_and_made g ty v (unit_made g ty h.1.1.1.1)))
      (λ o c a to. branches.looped_leaves g l x.loops _ (rules.condition_leaves g (within l x) condition (L condition) k (one o c) (in_loop id to a) _ _ (rules.leaves_back g (l ∷ x.loops) _ (q.leaves true (two o c) (in_loop id to a) true (Into (L inner).head.id))) (ends_leaves l x.loops (head id ty by) to (unit_made g ty h.1.1.1.1) refl)))
      (λ o c a f to ar. let d = names.fine_loop g x a (nodes_of condition ++ nodes_of inner) l to (fine_in g x a (tree.node id at ty by (tree.While condition inner)) (nodes_of condition ++ nodes_of inner) f) ar.made in
      lines.looped_sound F (base.wanted g) id _ (rules.condition_sound g (within l x) condition (L condition) k (one o c) (is_bool_or g (ty_of condition) h.1.0) (in_loop id to a) (base.fine_first g (within l x) (in_loop id to a) (nodes_of condition) (nodes_of inner) d) _ _
      (rules.alone_sound g (within l x) inner (L inner) q true (two o c) (in_loop id to a) (base.fine_second g (within l x) (in_loop id to a) (nodes_of condition) (nodes_of inner) d) (Into (L inner).head.id) (λ v. q.cell (two o c) v))
      (lines.jump_sound F (base.wanted g) id (Breaks id) _ (rules.unit_put g (head id ty by) to ar h.1.1.1.1))))

  pub while_let_good : (x : Context) (pattern scrutinee inner : Node) (id : ℕ) (at : Pos) (ty : TyId) (by : Option Use) → Holds (typing.row (K x) id ty (tree.WhileLet pattern scrutinee inner)) → Good (within (record { loop = id; ty = ty; has_value = false }) x) scrutinee (L scrutinee) → Good (with_entries (entries_of pattern) (within (record { loop = id; ty = ty; has_value = false }) x)) inner (L inner) → Good x (tree.node id at ty by (tree.WhileLet pattern scrutinee inner)) (lower.lower_form F (tree.WhileLet pattern scrutinee inner) (head id ty by) (S_of (tree.WhileLet pattern scrutinee inner) (head id ty by)))
  while_let_good x pattern scrutinee inner id at ty by h k q =
      let l : LoopAround = record { loop = id; ty = ty; has_value = false } in
      let z = within l x in
      let y = with_entries (entries_of pattern) z in
      let n1 = nodes_of pattern ++ nodes_of scrutinee in
      let c1 = cells g.items true pattern ++ reached_cells g.items scrutinee in
      let cp = λ (o : Bool) (c : Cells (cells g.items o (tree.node id at ty by (tree.WhileLet pattern scrutinee inner)))). base.cells_first g (cells g.items true pattern) (reached_cells g.items scrutinee) (base.cells_first g c1 (cells g.items true inner) (base.cells_second g _ (cells_in g.items (tree.WhileLet pattern scrutinee inner)) c)) in
      let cs = λ (o : Bool) (c : Cells (cells g.items o (tree.node id at ty by (tree.WhileLet pattern scrutinee inner)))). base.cells_second g (cells g.items true pattern) (reached_cells g.items scrutinee) (base.cells_first g c1 (cells g.items true inner) (base.cells_second g _ (cells_in g.items (tree.WhileLet pattern scrutinee inner)) c)) in
      let cb = λ (o : Bool) (c : Cells (cells g.items o (tree.node id at ty by (tree.WhileLet pattern scrutinee inner)))). base.cells_second g c1 (cells g.items true inner) (base.cells_second g _ (cells_in g.items (tree.WhileLet pattern scrutinee inner)) c) in
      scoped_value g x (tree.node id at ty by (tree.WhileLet pattern scrutinee inner)) (head id ty by) (S_of (tree.WhileLet pattern scrutinee inner) (head id ty by)) (λ a to. build.looped id (lower.if_taken F (head id ty by) (in_loop id to a) (L pattern) (L scrutinee) (lower.body_in F (L inner) (in_loop id to a)) (lower.ends_loop F (head id ty by) to))) (record { id_is = refl; ty_is = refl; shape_is = refl; whole = λ a. refl; reached_so = λ c. c; cell = λ c m. (rw m at c).0 }) (λ o c v a. absurd (base.never_and_made g ty v (unit_made g ty h.1.1.1.1)))
      (λ o c a to. branches.looped_leaves g l x.loops _ (branches.if_taken_leaves g z (head id ty by) (in_loop id to a) (L pattern) scrutinee (L scrutinee) k (cs o c) _ _ (rules.leaves_back g (l ∷ x.loops) _ (q.leaves true (cb o c) (in_loop id to a) true (Into (L inner).head.id))) (ends_leaves l x.loops (head id ty by) to (unit_made g ty h.1.1.1.1) refl)))
      (λ o c a f to ar. let d = names.fine_loop g x a (n1 ++ nodes_of inner) l to (fine_in g x a (tree.node id at ty by (tree.WhileLet pattern scrutinee inner)) (n1 ++ nodes_of inner) f) ar.made in
      let b = in_loop id to a in
      let d1 = base.fine_first g z b n1 (nodes_of inner) d in
      lines.looped_sound F (base.wanted g) id _ (branches.if_taken_sound g z (head id ty by) b (L pattern) scrutinee (L scrutinee) k (cs o c) (base.fine_second g z b (nodes_of pattern) (nodes_of scrutinee) d1) (shaped_at g z pattern scrutinee k _ h.1.0.1 (cp o c)) _ _
      (rules.alone_sound g y inner (L inner) q true (cb o c) b (names.fine_more g z b pattern (nodes_of inner) (base.fine_first g z b (nodes_of pattern) (nodes_of scrutinee) d1) (base.fine_second g z b n1 (nodes_of inner) d) (names.keyed g pattern _ (ty_of scrutinee) h.1.0.1 (cp o c))) (Into (L inner).head.id) (λ v. q.cell (cb o c) v))
      (lines.jump_sound F (base.wanted g) id (Breaks id) _ (rules.unit_put g (head id ty by) to ar h.1.1.1.1))))

  pub break_good : (x : Context) (loop : ℕ) (value_ : Node) (id : ℕ) (at : Pos) (ty : TyId) (by : Option Use) → Holds (typing.row (K x) id ty (tree.Break loop (present value_))) → Good x value_ (L value_) → Good x (tree.node id at ty by (tree.Break loop (present value_))) (lower.lower_form F (tree.Break loop (present value_)) (head id ty by) (S_of (tree.Break loop (present value_)) (head id ty by)))
  break_good x loop value_ id at ty by h k =
      let l = found (loop_with loop x.loops) _ h.0 in
      let fit = wanted_fits g x l.0.ty value_ l.2.1 in
      scoped_value g x (tree.node id at ty by (tree.Break loop (present value_))) (head id ty by) (S_of (tree.Break loop (present value_)) (head id ty by)) (λ a to. build.jump F id (Breaks loop) ((L value_).evaluates a false (loop_destination loop a.loops))) (record { id_is = refl; ty_is = refl; shape_is = refl; whole = λ a. refl; reached_so = λ c. c; cell = λ c m. (rw m at c).0 })
      (λ o c v a. base.and_false _)
      (λ o c a to. branches.jump_leaves g x.loops id (Breaks loop) _ (k.leaves false (base.cells_second g _ (cells_in g.items (tree.Break loop (present value_))) c) a false (loop_destination loop a.loops)) (λ e. ((λ other is. subst (λ (z : LoopAround). base.Made g z.ty) (same_Some l.0 other (sym l.1 ∙ is)) (made_wanted g x value_ k l.0.ty fit (rules.ends_made g x value_ (L value_) k false (base.cells_second g _ (cells_in g.items (tree.Break loop (present value_))) c) a false (loop_destination loop a.loops) e))), tt)))
      (λ o c a f to ar. lines.jump_sound F (base.wanted g) id (Breaks loop) _ (k.evaluates false (base.cells_second g _ (cells_in g.items (tree.Break loop (present value_))) c) a (fine_in g x a (tree.node id at ty by (tree.Break loop (present value_))) (nodes_of value_) f) false (loop_destination loop a.loops) (branches.dest_fits g (loop_destination loop a.loops) l.0.ty (L value_).head.ty (fits_head g x value_ k l.0.ty fit) (f.around.loops loop l.0 l.1))))

  pub return_good : (x : Context) (value_ : Node) (id : ℕ) (at : Pos) (ty : TyId) (by : Option Use) → Holds (typing.row (K x) id ty (tree.Return (present value_))) → Good x value_ (L value_) → Good x (tree.node id at ty by (tree.Return (present value_))) (lower.lower_form F (tree.Return (present value_)) (head id ty by) (S_of (tree.Return (present value_)) (head id ty by)))
  return_good x value_ id at ty by h k =
      scoped_value g x (tree.node id at ty by (tree.Return (present value_))) (head id ty by) (S_of (tree.Return (present value_)) (head id ty by)) (λ a to. build.jump F id Returns ((L value_).evaluates a false a.answer)) (record { id_is = refl; ty_is = refl; shape_is = refl; whole = λ a. refl; reached_so = λ c. c; cell = λ c m. (rw m at c).0 }) (λ o c v a. base.and_false _)
      (λ o c a to. branches.jump_leaves g x.loops id Returns _ (k.leaves false (base.cells_second g _ (cells_in g.items (tree.Return (present value_))) c) a false a.answer) (λ e. tt))
      (λ o c a f to ar. lines.jump_sound F (base.wanted g) id Returns _ (k.evaluates false (base.cells_second g _ (cells_in g.items (tree.Return (present value_))) c) a (fine_in g x a (tree.node id at ty by (tree.Return (present value_))) (nodes_of value_) f) false a.answer (branches.dest_fits g a.answer x.answer (L value_).head.ty (fits_head g x value_ k x.answer (wanted_fits g x x.answer value_ h.0)) f.around.answer)))
