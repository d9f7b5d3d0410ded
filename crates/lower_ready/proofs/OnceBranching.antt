-- The forms beside a local of a reference type: branches, loops and the ways out of them, where their parts stand so.
use Rattle.std.proofs.Common.{◌≡◌, ℕ, ◌+◌, ◌≤◌, Bool, true, false, List, [], ◌∷◌, ◌++◌, Option, Some, cond, refl, sym, ap, ◌∙◌}
use Rattle.mir_base.specs.declared.place_in_text.Pos.{Pos}
use Rattle.mir_ty.specs.declared.ty.TyId.{TyId}
use Rattle.typed_tree.specs.declared.node.Use.{Use}
use Rattle.typed_tree.specs.Nodes.{nodes_of}
use Rattle.typed_tree.specs.Tree as tree
use Rattle.typed_tree.specs.Tree.{Node, Form, absent, present}
use Rattle.src_meaning.specs.Forms.{Into, in_loop, loop_destination, moved}
use Rattle.src_meaning.specs.Locals.OfBody.{cells, reached_cells, cells_in}
use Rattle.src_meaning.specs.Scopes.{Entry, Breaks, Returns}
use Rattle.src_meaning.specs.Shape.{NodeHead, head, Shape, shape_of}
use Rattle.well_typed.specs.Claim.{Holds}
use Rattle.well_typed.specs.Nodes as typing
use Rattle.well_typed.specs.Patterns.{entries_of}
use Rattle.well_typed.specs.Places.{LoopAround, Context, with_entries, within, loop_with, ty_of}
use Rattle.lower_rules.specs.Build as build
use Rattle.lower_rules.specs.Build.{LoweringFrame, Lowers, then_lower}
use Rattle.lower_rules.specs.Lower as lower
use Rattle.lower_rules.specs.Lower.{NodeLower}
use Rattle.lower_laws.proofs.Base as base
use Rattle.lower_laws.proofs.Base.{Ground, untrue, both_false, found}
use Rattle.lower_laws.proofs.Branches as forms_of_branches
use Rattle.lower_laws.proofs.Names as names
use Rattle.lower_laws.proofs.Rules as rules
use Rattle.lower_ready.proofs.Once as once
use Rattle.lower_ready.proofs.Once.{About}
use Rattle.lower_ready.proofs.OnceNodes as nodes
use Rattle.lower_ready.proofs.OncePatterns as pattern_rules
use Rattle.lower_ready.proofs.OnceParts as by_part
use Rattle.lower_ready.proofs.OnceRules as by_rule
use Rattle.lower_ready.proofs.OnceStanding as standing
use Rattle.lower_ready.proofs.OnceOperators as once_operators

module _ (g : Ground) (L K : ℕ) (about : About g L K) (Q : Type 0) where
  abbrev F : LoweringFrame
  F = base.F g

  abbrev X : Context → Context
  X x = record x { items = g.items }

  abbrev N : Node → NodeLower
  N n = lower.lower F n

  abbrev S_of : Form → NodeHead → Shape
  S_of form h = shape_of g.items form h

  abbrev Free : Type 0
  Free = Unit {0}

  abbrev Once : Type 0 → List LoopAround → Lowers → ℕ → Type 0
  Once H loops P m = once.Once g L K about Q H loops P m

  abbrev Good : Context → Node → NodeLower → Type 0
  Good = rules.Good g

  abbrev Known : Context → Node → NodeLower → Type 0
  Known x n m = by_rule.Known g L K about Q x n m

  abbrev Child : Context → Node → NodeLower → Type 0
  Child x n m = by_rule.Child g L K about Q x n m

  abbrev occ : List Entry → ℕ
  occ es = by_rule.occ g L K about Q es

  abbrev more : (loops : List LoopAround) (P : Lowers) (m n : ℕ) → m ≤ n → Once Free loops P m → Once Free loops P n
  more loops P m n le p = once.more g L K about Q Free loops P m n le p

  abbrev and_then : (loops : List LoopAround) (P Q' : Lowers) (o r : ℕ) → Once Free loops P o → (P.has_end ≡ true → Once Free loops Q' r) → Once Free loops (then_lower P Q') (o + r)
  and_then = once_operators.and_then g L K about Q

  pub if_known : (x : Context) (condition consequent : Node) (id : ℕ) (at : Pos) (ty : TyId) (by : Option Use) → Good x (tree.node id at ty by (tree.If condition consequent absent)) (lower.lower_form F (tree.If condition consequent absent) (head id ty by) (S_of (tree.If condition consequent absent) (head id ty by))) → Holds (typing.row (X x) id ty (tree.If condition consequent absent)) → Child x condition (N condition) → Child x consequent (N consequent) → Known x (tree.node id at ty by (tree.If condition consequent absent)) (lower.lower_form F (tree.If condition consequent absent) (head id ty by) (S_of (tree.If condition consequent absent) (head id ty by)))
  if_known x condition consequent id at ty by good h k l =
      nodes.flow g L K about Q x id at ty by (tree.If condition consequent absent) (S_of (tree.If condition consequent absent) (head id ty by)) _ good (λ c. c) (λ a. refl)
      (λ o c a ar own to d nv.
      let cs = base.cells_first g (cells g.items true condition ++ cells g.items false consequent) [] (base.cells_second g _ (cells_in g.items (tree.If condition consequent absent)) c) in
      let c1 = base.cells_first g (cells g.items true condition) (cells g.items false consequent) cs in
      let c2 = base.cells_second g (cells g.items true condition) (cells g.items false consequent) cs in
      let clear = d (standing.unit_no g L K about Q ty h.1.1.1.1) (standing.unit_made g L K about Q ty h.1.1.1.1) in
      by_rule.owned g L K about Q x.loops (head id ty by) own _ _ (more x.loops _ _ _ (standing.three_under g L K about Q (cells g.items true condition) (cells g.items false consequent) [])
      (nodes.conditioned g L K about Q x condition (N condition) k c1 (standing.taken_stands g L K about Q x condition h.0).valued a ar _ _ (occ (cells g.items false consequent)) 0
      (nodes.alone g L K about Q x consequent (N consequent) l false c2 (standing.taken_stands g L K about Q x consequent h.1.1.0).valued a ar to (λ n m. clear)) (by_rule.unit_put g L K about Q Free x.loops (head id ty by) to clear))))
      (λ o c ref a ar own to. absurd (by_rule.not_both g L K about Q ty ref (standing.unit_no g L K about Q ty h.1.1.1.1)))

  pub if_else_known : (x : Context) (condition consequent otherwise : Node) (id : ℕ) (at : Pos) (ty : TyId) (by : Option Use) → Good x (tree.node id at ty by (tree.If condition consequent (present otherwise))) (lower.lower_form F (tree.If condition consequent (present otherwise)) (head id ty by) (S_of (tree.If condition consequent (present otherwise)) (head id ty by))) → Holds (typing.row (X x) id ty (tree.If condition consequent (present otherwise))) → Child x condition (N condition) → Child x consequent (N consequent) → Child x otherwise (N otherwise) → Known x (tree.node id at ty by (tree.If condition consequent (present otherwise))) (lower.lower_form F (tree.If condition consequent (present otherwise)) (head id ty by) (S_of (tree.If condition consequent (present otherwise)) (head id ty by)))
  if_else_known x condition consequent otherwise id at ty by good h k l w =
      let f1 = by_part.common_first g L K about Q ty (ty_of consequent) (ty_of otherwise) h.1.1.1.1 in
      let f2 = by_part.common_second g L K about Q ty (ty_of consequent) (ty_of otherwise) h.1.1.1.1 in
      let v1 = (standing.taken_stands g L K about Q x consequent h.1.1.0).valued in
      let v2 = (standing.taken_stands g L K about Q x otherwise h.1.1.1.0).valued in
      nodes.flow g L K about Q x id at ty by (tree.If condition consequent (present otherwise)) (S_of (tree.If condition consequent (present otherwise)) (head id ty by)) _ good (λ c. c) (λ a. refl)
      (λ o c a ar own to d nv.
      let all = (base.cells_second g _ (cells_in g.items (tree.If condition consequent (present otherwise))) c) in
      let cs = base.cells_first g (cells g.items true condition ++ cells g.items false consequent) (cells g.items false otherwise) all in
      let c1 = base.cells_first g (cells g.items true condition) (cells g.items false consequent) cs in
      let c2 = base.cells_second g (cells g.items true condition) (cells g.items false consequent) cs in
      let c3 = base.cells_second g (cells g.items true condition ++ cells g.items false consequent) (cells g.items false otherwise) all in
      by_rule.owned g L K about Q x.loops (head id ty by) own _ _ (more x.loops _ _ _ (standing.three_under g L K about Q (cells g.items true condition) (cells g.items false consequent) (cells g.items false otherwise))
      (nodes.conditioned g L K about Q x condition (N condition) k c1 (standing.taken_stands g L K about Q x condition h.0).valued a ar _ _ (occ (cells g.items false consequent)) (occ (cells g.items false otherwise))
      (nodes.alone g L K about Q x consequent (N consequent) l false c2 v1 a ar to (by_rule.dest_fits g L K about Q to ty (ty_of consequent) (base.fits g ty (ty_of consequent) f1) d))
      (nodes.alone g L K about Q x otherwise (N otherwise) w false c3 v2 a ar to (by_rule.dest_fits g L K about Q to ty (ty_of otherwise) (base.fits g ty (ty_of otherwise) f2) d)))))
      (λ o c ref a ar own to.
      let all = (base.cells_second g _ (cells_in g.items (tree.If condition consequent (present otherwise))) c) in
      let cs = base.cells_first g (cells g.items true condition ++ cells g.items false consequent) (cells g.items false otherwise) all in
      let c2 = base.cells_second g (cells g.items true condition) (cells g.items false consequent) cs in
      let c3 = base.cells_second g (cells g.items true condition ++ cells g.items false consequent) (cells g.items false otherwise) all in
      rules.no_end_owned g (head id ty by) own _ (rules.no_end_second g (lower.alone F a (N condition) (Into (N condition).head.id)) (build.branches (N condition).head.id (build.if_true F (moved (N condition).head.id (N condition).head.id) (N condition).head.id) (lower.alone F a (N consequent) to) (lower.alone F a (N otherwise) to))
      (both_false _ _ (by_part.no_end_of g L K about Q x consequent l false c2 v1 ty f1 ref a ar true to) (by_part.no_end_of g L K about Q x otherwise w false c3 v2 ty f2 ref a ar true to))))

  pub if_let_known : (x : Context) (pattern scrutinee consequent : Node) (id : ℕ) (at : Pos) (ty : TyId) (by : Option Use) → Good x (tree.node id at ty by (tree.IfLet pattern scrutinee consequent absent)) (lower.lower_form F (tree.IfLet pattern scrutinee consequent absent) (head id ty by) (S_of (tree.IfLet pattern scrutinee consequent absent) (head id ty by))) → Holds (typing.row (X x) id ty (tree.IfLet pattern scrutinee consequent absent)) → Child x scrutinee (N scrutinee) → Child (with_entries (entries_of pattern) x) consequent (N consequent) → Known x (tree.node id at ty by (tree.IfLet pattern scrutinee consequent absent)) (lower.lower_form F (tree.IfLet pattern scrutinee consequent absent) (head id ty by) (S_of (tree.IfLet pattern scrutinee consequent absent) (head id ty by)))
  if_let_known x pattern scrutinee consequent id at ty by good h k l =
      let y = with_entries (entries_of pattern) x in
      let n1 = nodes_of pattern ++ nodes_of scrutinee in
      let k1 = cells g.items true pattern ++ reached_cells g.items scrutinee in
      let nr = (standing.used_stands g L K about Q x Use.Borrow scrutinee h.0).1 in
      let v1 = (standing.taken_stands g L K about Q y consequent h.1.1.0).valued in
      nodes.flow g L K about Q x id at ty by (tree.IfLet pattern scrutinee consequent absent) (S_of (tree.IfLet pattern scrutinee consequent absent) (head id ty by)) _ good (λ c. c) (λ a. refl)
      (λ o c a ar own to d nv.
      let all = (base.cells_second g _ (cells_in g.items (tree.IfLet pattern scrutinee consequent absent)) c) in
      let cs = base.cells_first g (k1 ++ cells g.items false consequent) [] all in
      let cp = base.cells_first g (cells g.items true pattern) (reached_cells g.items scrutinee) (base.cells_first g k1 (cells g.items false consequent) cs) in
      let cr = base.cells_second g (cells g.items true pattern) (reached_cells g.items scrutinee) (base.cells_first g k1 (cells g.items false consequent) cs) in
      let cb = base.cells_second g k1 (cells g.items false consequent) cs in
      let clear = d (standing.unit_no g L K about Q ty h.1.1.1.1) (standing.unit_made g L K about Q ty h.1.1.1.1) in
      by_rule.owned g L K about Q x.loops (head id ty by) own _ _ (more x.loops _ _ _ (standing.last_two_under g L K about Q (cells g.items true pattern) (reached_cells g.items scrutinee) (cells g.items false consequent) [])
      (nodes.if_taken g L K about Q x (head id ty by) a (N pattern) scrutinee (N scrutinee) k nr cr ar (standing.shaped g L K about Q about.truth pattern (typing.matched_in false (X x) scrutinee) (ty_of scrutinee) nr h.1.0.1 cp) _ _ (occ (cells g.items false consequent)) 0
      (nodes.alone g L K about Q y consequent (N consequent) l false cb v1 a (by_rule.around_more g L K about Q x a (entries_of pattern) (pattern_rules.pattern_is g L K about Q about.truth pattern (typing.matched_in false (X x) scrutinee) (ty_of scrutinee) nr h.1.0.1 cp).entries ar) to (λ n m. clear))
      (by_rule.unit_put g L K about Q Free x.loops (head id ty by) to clear))))
      (λ o c ref a ar own to. absurd (by_rule.not_both g L K about Q ty ref (standing.unit_no g L K about Q ty h.1.1.1.1)))

  pub if_let_else_known : (x : Context) (pattern scrutinee consequent otherwise : Node) (id : ℕ) (at : Pos) (ty : TyId) (by : Option Use) → Good x (tree.node id at ty by (tree.IfLet pattern scrutinee consequent (present otherwise))) (lower.lower_form F (tree.IfLet pattern scrutinee consequent (present otherwise)) (head id ty by) (S_of (tree.IfLet pattern scrutinee consequent (present otherwise)) (head id ty by))) → Holds (typing.row (X x) id ty (tree.IfLet pattern scrutinee consequent (present otherwise))) → Child x scrutinee (N scrutinee) → Child (with_entries (entries_of pattern) x) consequent (N consequent) → Child x otherwise (N otherwise) → Known x (tree.node id at ty by (tree.IfLet pattern scrutinee consequent (present otherwise))) (lower.lower_form F (tree.IfLet pattern scrutinee consequent (present otherwise)) (head id ty by) (S_of (tree.IfLet pattern scrutinee consequent (present otherwise)) (head id ty by)))
  if_let_else_known x pattern scrutinee consequent otherwise id at ty by good h k l w =
      let y = with_entries (entries_of pattern) x in
      let n1 = nodes_of pattern ++ nodes_of scrutinee in
      let k1 = cells g.items true pattern ++ reached_cells g.items scrutinee in
      let nr = (standing.used_stands g L K about Q x Use.Borrow scrutinee h.0).1 in
      let v1 = (standing.taken_stands g L K about Q y consequent h.1.1.0).valued in
      let v2 = (standing.taken_stands g L K about Q x otherwise h.1.1.1.0).valued in
      let f1 = by_part.common_first g L K about Q ty (ty_of consequent) (ty_of otherwise) h.1.1.1.1 in
      let f2 = by_part.common_second g L K about Q ty (ty_of consequent) (ty_of otherwise) h.1.1.1.1 in
      nodes.flow g L K about Q x id at ty by (tree.IfLet pattern scrutinee consequent (present otherwise)) (S_of (tree.IfLet pattern scrutinee consequent (present otherwise)) (head id ty by)) _ good (λ c. c) (λ a. refl)
      (λ o c a ar own to d nv.
      let all = (base.cells_second g _ (cells_in g.items (tree.IfLet pattern scrutinee consequent (present otherwise))) c) in
      let cs = base.cells_first g (k1 ++ cells g.items false consequent) (cells g.items false otherwise) all in
      let cp = base.cells_first g (cells g.items true pattern) (reached_cells g.items scrutinee) (base.cells_first g k1 (cells g.items false consequent) cs) in
      let cr = base.cells_second g (cells g.items true pattern) (reached_cells g.items scrutinee) (base.cells_first g k1 (cells g.items false consequent) cs) in
      let cb = base.cells_second g k1 (cells g.items false consequent) cs in
      let co = base.cells_second g (k1 ++ cells g.items false consequent) (cells g.items false otherwise) all in
      by_rule.owned g L K about Q x.loops (head id ty by) own _ _ (more x.loops _ _ _ (standing.last_two_under g L K about Q (cells g.items true pattern) (reached_cells g.items scrutinee) (cells g.items false consequent) (cells g.items false otherwise))
      (nodes.if_taken g L K about Q x (head id ty by) a (N pattern) scrutinee (N scrutinee) k nr cr ar (standing.shaped g L K about Q about.truth pattern (typing.matched_in false (X x) scrutinee) (ty_of scrutinee) nr h.1.0.1 cp) _ _ (occ (cells g.items false consequent)) (occ (cells g.items false otherwise))
      (nodes.alone g L K about Q y consequent (N consequent) l false cb v1 a (by_rule.around_more g L K about Q x a (entries_of pattern) (pattern_rules.pattern_is g L K about Q about.truth pattern (typing.matched_in false (X x) scrutinee) (ty_of scrutinee) nr h.1.0.1 cp).entries ar) to (by_rule.dest_fits g L K about Q to ty (ty_of consequent) (base.fits g ty (ty_of consequent) f1) d))
      (nodes.alone g L K about Q x otherwise (N otherwise) w false co v2 a ar to (by_rule.dest_fits g L K about Q to ty (ty_of otherwise) (base.fits g ty (ty_of otherwise) f2) d)))))
      (λ o c ref a ar own to.
      let all = (base.cells_second g _ (cells_in g.items (tree.IfLet pattern scrutinee consequent (present otherwise))) c) in
      let cs = base.cells_first g (k1 ++ cells g.items false consequent) (cells g.items false otherwise) all in
      let cp = base.cells_first g (cells g.items true pattern) (reached_cells g.items scrutinee) (base.cells_first g k1 (cells g.items false consequent) cs) in
      let cr = base.cells_second g (cells g.items true pattern) (reached_cells g.items scrutinee) (base.cells_first g k1 (cells g.items false consequent) cs) in
      let cb = base.cells_second g k1 (cells g.items false consequent) cs in
      let co = base.cells_second g (k1 ++ cells g.items false consequent) (cells g.items false otherwise) all in
      rules.no_end_owned g (head id ty by) own _ (forms_of_branches.if_taken_ended g (head id ty by) a (N pattern) (N scrutinee) (lower.alone F a (N consequent) to) (lower.alone F a (N otherwise) to)
      (by_part.no_end_of g L K about Q y consequent l false cb v1 ty f1 ref a (by_rule.around_more g L K about Q x a (entries_of pattern) (pattern_rules.pattern_is g L K about Q about.truth pattern (typing.matched_in false (X x) scrutinee) (ty_of scrutinee) nr h.1.0.1 cp).entries ar) true to) (by_part.no_end_of g L K about Q x otherwise w false co v2 ty f2 ref a ar true to)))

  pub loop_known : (x : Context) (inner : Node) (id : ℕ) (at : Pos) (ty : TyId) (by : Option Use) → Good x (tree.node id at ty by (tree.Loop inner)) (lower.lower_form F (tree.Loop inner) (head id ty by) (S_of (tree.Loop inner) (head id ty by))) → Holds (typing.row (X x) id ty (tree.Loop inner)) → Child (within (record { loop = id; ty = ty; has_value = true }) x) inner (N inner) → Known x (tree.node id at ty by (tree.Loop inner)) (lower.lower_form F (tree.Loop inner) (head id ty by) (S_of (tree.Loop inner) (head id ty by)))
  loop_known x inner id at ty by good h k =
      let l : LoopAround = record { loop = id; ty = ty; has_value = true } in
      nodes.flow g L K about Q x id at ty by (tree.Loop inner) (S_of (tree.Loop inner) (head id ty by)) _ good (λ c. c) (λ a. refl)
      (λ o c a ar own to d nv. by_rule.owned g L K about Q x.loops (head id ty by) own _ _ (once.loops_back g L K about Q l x.loops _ (occ (cells g.items true inner)) (nodes.alone g L K about Q (within l x) inner (N inner) k true (base.cells_second g _ (cells_in g.items (tree.Loop inner)) c) (standing.taken_stands g L K about Q (within l x) inner h.0).valued (in_loop id to a) (by_rule.around_loop g L K about Q x a l to d ar) (Into (N inner).head.id) (by_rule.dest_own g L K about Q (within l x) inner (N inner) k (base.cells_second g _ (cells_in g.items (tree.Loop inner)) c)))))
      (λ o c ref a ar own to. rules.no_end_owned g (head id ty by) own _ ((nodes.alone g L K about Q (within l x) inner (N inner) k true (base.cells_second g _ (cells_in g.items (tree.Loop inner)) c) (standing.taken_stands g L K about Q (within l x) inner h.0).valued (in_loop id to a) (by_rule.around_loop g L K about Q x a l to (λ n m. absurd (by_rule.not_both g L K about Q ty ref n)) ar) (Into (N inner).head.id) (by_rule.dest_own g L K about Q (within l x) inner (N inner) k (base.cells_second g _ (cells_in g.items (tree.Loop inner)) c))).stays id l (ap (λ (b : Bool). cond b (Some l) (loop_with id x.loops)) (names.equal_too id id refl)) ref))

  pub while_known : (x : Context) (condition inner : Node) (id : ℕ) (at : Pos) (ty : TyId) (by : Option Use) → Good x (tree.node id at ty by (tree.While condition inner)) (lower.lower_form F (tree.While condition inner) (head id ty by) (S_of (tree.While condition inner) (head id ty by))) → Holds (typing.row (X x) id ty (tree.While condition inner)) → Child (within (record { loop = id; ty = ty; has_value = false }) x) condition (N condition) → Child (within (record { loop = id; ty = ty; has_value = false }) x) inner (N inner) → Known x (tree.node id at ty by (tree.While condition inner)) (lower.lower_form F (tree.While condition inner) (head id ty by) (S_of (tree.While condition inner) (head id ty by)))
  while_known x condition inner id at ty by good h k w =
      let l : LoopAround = record { loop = id; ty = ty; has_value = false } in
      nodes.flow g L K about Q x id at ty by (tree.While condition inner) (S_of (tree.While condition inner) (head id ty by)) _ good (λ c. c) (λ a. refl)
      (λ o c a ar own to d nv.
      let cs = (base.cells_second g _ (cells_in g.items (tree.While condition inner)) c) in
      let cc = base.cells_first g (cells g.items true condition) (cells g.items true inner) cs in
      let ci = base.cells_second g (cells g.items true condition) (cells g.items true inner) cs in
      let b = by_rule.around_loop g L K about Q x a l to d ar in
      let clear = d (standing.unit_no g L K about Q ty h.1.1.1.1) (standing.unit_made g L K about Q ty h.1.1.1.1) in
      by_rule.owned g L K about Q x.loops (head id ty by) own _ _ (once.loops_back g L K about Q l x.loops _ _ (more (l ∷ x.loops) _ _ _ (standing.and_under g L K about Q (cells g.items true condition) (cells g.items true inner))
      (nodes.conditioned g L K about Q (within l x) condition (N condition) k cc (standing.taken_stands g L K about Q (within l x) condition h.0).valued (in_loop id to a) b _ _ (occ (cells g.items true inner)) 0
      (nodes.alone g L K about Q (within l x) inner (N inner) w true ci (standing.taken_stands g L K about Q (within l x) inner h.1.1.0).valued (in_loop id to a) b (Into (N inner).head.id) (by_rule.dest_own g L K about Q (within l x) inner (N inner) w ci))
      (by_part.loop_ends g L K about Q x l id ty by to (standing.unit_no g L K about Q ty h.1.1.1.1) clear (names.equal_too id id refl))))))
      (λ o c ref a ar own to. absurd (by_rule.not_both g L K about Q ty ref (standing.unit_no g L K about Q ty h.1.1.1.1)))

  pub while_let_known : (x : Context) (pattern scrutinee inner : Node) (id : ℕ) (at : Pos) (ty : TyId) (by : Option Use) → Good x (tree.node id at ty by (tree.WhileLet pattern scrutinee inner)) (lower.lower_form F (tree.WhileLet pattern scrutinee inner) (head id ty by) (S_of (tree.WhileLet pattern scrutinee inner) (head id ty by))) → Holds (typing.row (X x) id ty (tree.WhileLet pattern scrutinee inner)) → Child (within (record { loop = id; ty = ty; has_value = false }) x) scrutinee (N scrutinee) → Child (with_entries (entries_of pattern) (within (record { loop = id; ty = ty; has_value = false }) x)) inner (N inner) → Known x (tree.node id at ty by (tree.WhileLet pattern scrutinee inner)) (lower.lower_form F (tree.WhileLet pattern scrutinee inner) (head id ty by) (S_of (tree.WhileLet pattern scrutinee inner) (head id ty by)))
  while_let_known x pattern scrutinee inner id at ty by good h k w =
      let l : LoopAround = record { loop = id; ty = ty; has_value = false } in
      let z = within l x in
      let y = with_entries (entries_of pattern) z in
      let n1 = nodes_of pattern ++ nodes_of scrutinee in
      let k1 = cells g.items true pattern ++ reached_cells g.items scrutinee in
      let nr = (standing.used_stands g L K about Q z Use.Borrow scrutinee h.0).1 in
      nodes.flow g L K about Q x id at ty by (tree.WhileLet pattern scrutinee inner) (S_of (tree.WhileLet pattern scrutinee inner) (head id ty by)) _ good (λ c. c) (λ a. refl)
      (λ o c a ar own to d nv.
      let cs = (base.cells_second g _ (cells_in g.items (tree.WhileLet pattern scrutinee inner)) c) in
      let cp = base.cells_first g (cells g.items true pattern) (reached_cells g.items scrutinee) (base.cells_first g k1 (cells g.items true inner) cs) in
      let cr = base.cells_second g (cells g.items true pattern) (reached_cells g.items scrutinee) (base.cells_first g k1 (cells g.items true inner) cs) in
      let ci = base.cells_second g k1 (cells g.items true inner) cs in
      let b = by_rule.around_loop g L K about Q x a l to d ar in
      let inside = by_rule.around_more g L K about Q z (in_loop id to a) (entries_of pattern) (pattern_rules.pattern_is g L K about Q about.truth pattern (typing.matched_in false (X z) scrutinee) (ty_of scrutinee) nr h.1.0.1 cp).entries b in
      let clear = d (standing.unit_no g L K about Q ty h.1.1.1.1) (standing.unit_made g L K about Q ty h.1.1.1.1) in
      by_rule.owned g L K about Q x.loops (head id ty by) own _ _ (once.loops_back g L K about Q l x.loops _ _ (more (l ∷ x.loops) _ _ _ (standing.last_under g L K about Q (cells g.items true pattern) (reached_cells g.items scrutinee) (cells g.items true inner))
      (nodes.if_taken g L K about Q z (head id ty by) (in_loop id to a) (N pattern) scrutinee (N scrutinee) k nr cr b (standing.shaped g L K about Q about.truth pattern (typing.matched_in false (X z) scrutinee) (ty_of scrutinee) nr h.1.0.1 cp) _ _ (occ (cells g.items true inner)) 0
      (nodes.alone g L K about Q y inner (N inner) w true ci (standing.taken_stands g L K about Q y inner h.1.1.0).valued (in_loop id to a) inside (Into (N inner).head.id) (by_rule.dest_own g L K about Q y inner (N inner) w ci))
      (by_part.loop_ends g L K about Q x l id ty by to (standing.unit_no g L K about Q ty h.1.1.1.1) clear (names.equal_too id id refl))))))
      (λ o c ref a ar own to. absurd (by_rule.not_both g L K about Q ty ref (standing.unit_no g L K about Q ty h.1.1.1.1)))

  pub break_known : (x : Context) (loop : ℕ) (value_ : Node) (id : ℕ) (at : Pos) (ty : TyId) (by : Option Use) → Good x (tree.node id at ty by (tree.Break loop (present value_))) (lower.lower_form F (tree.Break loop (present value_)) (head id ty by) (S_of (tree.Break loop (present value_)) (head id ty by))) → Holds (typing.row (X x) id ty (tree.Break loop (present value_))) → Child x value_ (N value_) → Known x (tree.node id at ty by (tree.Break loop (present value_))) (lower.lower_form F (tree.Break loop (present value_)) (head id ty by) (S_of (tree.Break loop (present value_)) (head id ty by)))
  break_known x loop value_ id at ty by good h k =
      let l = found (loop_with loop x.loops) _ h.0 in
      let v = (standing.wanted_stands g L K about Q x l.0.ty value_ l.2.1).valued in
      let fit = standing.wanted_fits g L K about Q x l.0.ty value_ l.2.1 in
      nodes.flow g L K about Q x id at ty by (tree.Break loop (present value_)) (S_of (tree.Break loop (present value_)) (head id ty by)) _ good (λ c. c) (λ a. refl)
      (λ o c a ar own to d nv.
      let cs = (base.cells_second g _ (cells_in g.items (tree.Break loop (present value_))) c) in
      let target = loop_destination loop a.loops in
      by_rule.owned g L K about Q x.loops (head id ty by) own _ _ (more x.loops _ (occ (cells g.items false value_) + 0) _ (nodes.no_more g L K about Q _)
      (and_then x.loops ((N value_).evaluates a false target) _ (occ (cells g.items false value_)) 0 (k.known.evaluates false cs v a ar false target (by_rule.dest_fits g L K about Q target l.0.ty (ty_of value_) (base.fits g l.0.ty (ty_of value_) fit) (ar.loops loop l.0 l.1)))
      (λ e. once.leaves_by g L K about Q x.loops id (Breaks loop) (by_part.break_stays g L K about Q x.loops loop l.0 l.1 (by_rule.by_ref g L K about Q l.0.ty (λ ref. absurd (untrue (sym (by_part.no_end_of g L K about Q x value_ k false cs v l.0.ty fit ref a ar false target) ∙ e))) (λ n. n)))))))
      (λ o c ref a ar own to. absurd (by_rule.not_both g L K about Q ty ref (standing.never_no g L K about Q ty h.1)))

  pub return_known : (x : Context) (value_ : Node) (id : ℕ) (at : Pos) (ty : TyId) (by : Option Use) → Good x (tree.node id at ty by (tree.Return (present value_))) (lower.lower_form F (tree.Return (present value_)) (head id ty by) (S_of (tree.Return (present value_)) (head id ty by))) → Holds (typing.row (X x) id ty (tree.Return (present value_))) → Child x value_ (N value_) → Known x (tree.node id at ty by (tree.Return (present value_))) (lower.lower_form F (tree.Return (present value_)) (head id ty by) (S_of (tree.Return (present value_)) (head id ty by)))
  return_known x value_ id at ty by good h k =
      let v = (standing.wanted_stands g L K about Q x x.answer value_ h.0).valued in
      let fit = standing.wanted_fits g L K about Q x x.answer value_ h.0 in
      nodes.flow g L K about Q x id at ty by (tree.Return (present value_)) (S_of (tree.Return (present value_)) (head id ty by)) _ good (λ c. c) (λ a. refl)
      (λ o c a ar own to d nv.
      let cs = (base.cells_second g _ (cells_in g.items (tree.Return (present value_))) c) in
      by_rule.owned g L K about Q x.loops (head id ty by) own _ _ (more x.loops _ (occ (cells g.items false value_) + 0) _ (nodes.no_more g L K about Q _)
      (and_then x.loops ((N value_).evaluates a false a.answer) _ (occ (cells g.items false value_)) 0 (k.known.evaluates false cs v a ar false a.answer (by_rule.dest_fits g L K about Q a.answer x.answer (ty_of value_) (base.fits g x.answer (ty_of value_) fit) ar.answer))
      (λ e. once.leaves_by g L K about Q x.loops id Returns (λ other l is ref. refl)))))
      (λ o c ref a ar own to. absurd (by_rule.not_both g L K about Q ty ref (standing.never_no g L K about Q ty h.1)))
