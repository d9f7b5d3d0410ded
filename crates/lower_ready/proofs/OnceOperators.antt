-- The forms beside a local of a reference type: places, operators and an assignment, where their parts stand so.
use Rattle.std.proofs.Common.{◌≡◌, inl, inr, ℕ, ◌+◌, ◌≤◌, not, Bool, true, false, List, [], ◌∷◌, Option, refl}
use Rattle.mir_base.specs.declared.place_in_text.Pos.{Pos}
use Rattle.mir_ty.specs.declared.ty.Ty.{Ty}
use Rattle.mir_base.specs.declared.operator.Cmp.{Cmp}
use Rattle.mir_base.specs.declared.operator.Math.{Math}
use Rattle.mir_ty.specs.declared.ty.TyId.{TyId}
use Rattle.mir_ty.specs.Facts.{needs_drop}
use Rattle.store_model.specs.Effects as effects
use Rattle.store_model.specs.Places.Place.{ToPart, ToContent, ToElement}
use Rattle.typed_tree.specs.declared.node.Use.{Use}
use Rattle.typed_tree.specs.Nodes.{number_of}
use Rattle.typed_tree.specs.Tree as tree
use Rattle.typed_tree.specs.Tree.{Node, Form}
use Rattle.src_meaning.specs.Forms.{Destination, Into, coerced, LoopsAndGuards, site_of_key, moved}
use Rattle.src_meaning.specs.Locals.OfBody.{cells, reached_cells, cells_in}
use Rattle.src_meaning.specs.Scopes.{Entry}
use Rattle.src_meaning.specs.Shape.{NodeHead, head, Shape, shape, shape_of, site_at}
use Rattle.well_typed.specs.Claim.{Holds}
use Rattle.well_typed.specs.Nodes as typing
use Rattle.well_typed.specs.Places.{InScope, LoopAround, Context, ty_of}
use Rattle.well_typed.specs.Types as types
use Rattle.lower_rules.specs.Build.{LoweringFrame, Lowers, then_lower}
use Rattle.lower_rules.specs.Lower as lower
use Rattle.lower_rules.specs.Lower.{NodeLower}
use Rattle.lower_rules.proofs.KnownTypes.{boxed_known, signed_known}
use Rattle.lower_laws.proofs.Base as base
use Rattle.lower_laws.proofs.Base.{Ground, untrue, and_first, found}
use Rattle.lower_laws.proofs.Rules as rules
use Rattle.lower_ready.proofs.Once as once
use Rattle.lower_ready.proofs.Once.{About}
use Rattle.lower_ready.proofs.OnceActs as on
use Rattle.lower_ready.proofs.OnceNodes as nodes
use Rattle.lower_ready.proofs.OnceParts as by_part
use Rattle.lower_ready.proofs.OnceRules as by_rule
use Rattle.lower_ready.proofs.OnceStanding as standing

module _ (g : Ground) (L K : ℕ) (about : About g L K) (Q : Type 0) where
  abbrev F : LoweringFrame
  F = base.F g

  abbrev X : Context → Context
  X x = record x { items = g.items }

  abbrev N : Node → NodeLower
  N n = lower.lower F n

  abbrev S_of : Form → NodeHead → Shape
  S_of form h = shape_of g.items form h

  abbrev Free : Type 0
  Free = Unit {0}

  abbrev Once : Type 0 → List LoopAround → Lowers → ℕ → Type 0
  Once H loops P m = once.Once g L K about Q H loops P m

  abbrev Cells : List Entry → Type 0
  Cells = base.CellsOk g

  abbrev NotRef : TyId → Type 0
  NotRef ty = by_rule.NotRef g L K about Q ty

  abbrev IsRef : TyId → Type 0
  IsRef ty = by_rule.IsRef g L K about Q ty

  abbrev Dest : Destination → TyId → Type 0
  Dest to ty = by_rule.Dest g L K about Q to ty

  abbrev Around : Context → LoopsAndGuards → Type 0
  Around x a = by_rule.Around g L K about Q x a

  abbrev Good : Context → Node → NodeLower → Type 0
  Good = rules.Good g

  abbrev Known : Context → Node → NodeLower → Type 0
  Known x n m = by_rule.Known g L K about Q x n m

  abbrev Child : Context → Node → NodeLower → Type 0
  Child x n m = by_rule.Child g L K about Q x n m

  abbrev Valued : Node → Type 0
  Valued n = by_rule.Valued g L K about Q n

  abbrev Others : List InScope → Type 0
  Others es = by_rule.Others g L K about Q es

  abbrev occ : List Entry → ℕ
  occ es = by_rule.occ g L K about Q es

  abbrev OperandIs : Type 0 → Context → NodeLower → ℕ → Type 0
  OperandIs T x m o = by_rule.OperandIs g L K about Q T x m o

  abbrev OperandsAre : Type 0 → Context → List NodeLower → ℕ → Type 0
  OperandsAre T x ms o = by_rule.OperandsAre g L K about Q T x ms o

  abbrev more : (loops : List LoopAround) (P : Lowers) (m n : ℕ) → m ≤ n → Once Free loops P m → Once Free loops P n
  more loops P m n le p = once.more g L K about Q Free loops P m n le p

  abbrev pub and_then : (loops : List LoopAround) (P Q' : Lowers) (o r : ℕ) → Once Free loops P o → (P.has_end ≡ true → Once Free loops Q' r) → Once Free loops (then_lower P Q') (o + r)
  and_then loops P Q' o r p q = once.and_then g L K about Q Free loops P Q' o r p q

  pub not_true : (b : Bool) → not b ≡ true → b ≡ false
  not_true true h = absurd (untrue h)
  not_true false h = refl

  -- ---- places, branches and loops
  pub field_known : (x : Context) (inner : Node) (part : ℕ) (id : ℕ) (at : Pos) (ty : TyId) (by : Option Use) → Good x (tree.node id at ty by (tree.Field inner part)) (lower.lower_form F (tree.Field inner part) (head id ty by) (S_of (tree.Field inner part) (head id ty by))) → Holds (typing.row (X x) id ty (tree.Field inner part)) → Child x inner (N inner) → Known x (tree.node id at ty by (tree.Field inner part)) (lower.lower_form F (tree.Field inner part) (head id ty by) (S_of (tree.Field inner part) (head id ty by)))
  field_known x inner part id at ty by good h b =
      nodes.place_known g L K about Q x id at ty by (tree.Field inner part) (S_of (tree.Field inner part) (head id ty by)) (N inner).reaches good (λ o c. (base.cells_second g _ (cells_in g.items (tree.Field inner part)) c)) (λ o c v. (rw v at c).0) refl
      (λ c a ar. b.known.reaches c a ar)
      (λ c a ar e. by_part.further_ok g L K about Q ty ((shape g.items inner).place a.aliases) (ToPart part) (by_part.reached_away g L K about Q x inner b c a ar e))

  pub deref_known : (x : Context) (inner : Node) (id : ℕ) (at : Pos) (ty : TyId) (by : Option Use) → Good x (tree.node id at ty by (tree.Deref inner)) (lower.lower_form F (tree.Deref inner) (head id ty by) (S_of (tree.Deref inner) (head id ty by))) → Holds (typing.row (X x) id ty (tree.Deref inner)) → Child x inner (N inner) → Known x (tree.node id at ty by (tree.Deref inner)) (lower.lower_form F (tree.Deref inner) (head id ty by) (S_of (tree.Deref inner) (head id ty by)))
  deref_known x inner id at ty by good h b =
      nodes.place_known g L K about Q x id at ty by (tree.Deref inner) (S_of (tree.Deref inner) (head id ty by)) (N inner).reaches good (λ o c. (base.cells_second g _ (cells_in g.items (tree.Deref inner)) c)) (λ o c v. (rw v at c).0) refl
      (λ c a ar. b.known.reaches c a ar)
      (λ c a ar e. by_part.further_ok g L K about Q ty ((shape g.items inner).place a.aliases) ToContent (by_part.reached_away g L K about Q x inner b c a ar e))

  pub not_known : (x : Context) (operand : Node) (id : ℕ) (at : Pos) (ty : TyId) (by : Option Use) → Good x (tree.node id at ty by (tree.Not operand)) (lower.lower_form F (tree.Not operand) (head id ty by) (S_of (tree.Not operand) (head id ty by))) → Holds (typing.row (X x) id ty (tree.Not operand)) → Child x operand (N operand) → Known x (tree.node id at ty by (tree.Not operand)) (lower.lower_form F (tree.Not operand) (head id ty by) (S_of (tree.Not operand) (head id ty by)))
  not_known x operand id at ty by good h k =
      nodes.operating g L K about Q Free x id at ty by (tree.Not operand) (S_of (tree.Not operand) (head id ty by)) (N operand ∷ []) (λ site. effects.Not site (moved id (N operand).head.id)) good (λ c. c) (λ a. refl) (standing.bool_no g L K about Q ty h.1.1)
      (λ o c v k. base.never_and_made g ty v (standing.bool_made g L K about Q ty h.1.1))
      (λ o c. by_part.one_operand g L K about Q x operand k (base.cells_second g _ (cells_in g.items (tree.Not operand)) c) (standing.taken_stands g L K about Q x operand h.0).valued)
      (λ H f u i k away. (λ e z. away e, (λ q. (away, (λ e. u tt (inl e), tt)), λ a q. (away, (λ e. f a (inl e), tt)))))

  pub negate_known : (x : Context) (operand : Node) (id : ℕ) (at : Pos) (ty : TyId) (by : Option Use) → Good x (tree.node id at ty by (tree.Negate operand)) (lower.lower_form F (tree.Negate operand) (head id ty by) (S_of (tree.Negate operand) (head id ty by))) → Holds (typing.row (X x) id ty (tree.Negate operand)) → Child x operand (N operand) → Known x (tree.node id at ty by (tree.Negate operand)) (lower.lower_form F (tree.Negate operand) (head id ty by) (S_of (tree.Negate operand) (head id ty by)))
  negate_known x operand id at ty by good h k =
      let t = signed_known g.items ty h.1.1 in
      nodes.operating g L K about Q Free x id at ty by (tree.Negate operand) (S_of (tree.Negate operand) (head id ty by)) (N operand ∷ []) (λ site. effects.Negate site (moved id (N operand).head.id)) good (λ c. c) (λ a. refl) (standing.no_ref g L K about Q ty (Ty.Int t.0) t.1 refl)
      (λ o c v k. base.never_and_made g ty v (nodes.made_of g L K about Q ty (Ty.Int t.0) t.1 refl))
      (λ o c. by_part.one_operand g L K about Q x operand k (base.cells_second g _ (cells_in g.items (tree.Negate operand)) c) (standing.taken_stands g L K about Q x operand h.0).valued)
      (λ H f u i k away. (λ e z. away e, (λ q. (away, (λ e. u tt (inl e), tt)), λ a q. (away, (λ e. f a (inl e), tt)))))

  pub arithmetic_known : (x : Context) (operator : Math) (left right : Node) (id : ℕ) (at : Pos) (ty : TyId) (by : Option Use) → Good x (tree.node id at ty by (tree.Arithmetic operator left right)) (lower.lower_form F (tree.Arithmetic operator left right) (head id ty by) (S_of (tree.Arithmetic operator left right) (head id ty by))) → Holds (typing.row (X x) id ty (tree.Arithmetic operator left right)) → Child x left (N left) → Child x right (N right) → Known x (tree.node id at ty by (tree.Arithmetic operator left right)) (lower.lower_form F (tree.Arithmetic operator left right) (head id ty by) (S_of (tree.Arithmetic operator left right) (head id ty by)))
  arithmetic_known x operator left right id at ty by good h k l =
      let t = standing.int_at g L K about Q ty h.1.1.0 in
      nodes.operating g L K about Q Free x id at ty by (tree.Arithmetic operator left right) (S_of (tree.Arithmetic operator left right) (head id ty by)) (N left ∷ N right ∷ []) (λ site. effects.Compute site operator (moved id (N left).head.id) (moved id (N right).head.id)) good (λ c. c) (λ a. refl) (standing.no_ref g L K about Q ty (Ty.Int t.0) t.1 refl)
      (λ o c v k. base.never_and_made g ty v (nodes.made_of g L K about Q ty (Ty.Int t.0) t.1 refl))
      (λ o c. by_part.two_operands g L K about Q x left right k l (base.cells_second g _ (cells_in g.items (tree.Arithmetic operator left right)) c) (standing.wanted_stands g L K about Q x ty left h.0).valued (standing.wanted_stands g L K about Q x ty right h.1.0).valued)
      (λ H f u i k away. (λ e z. away e, (λ q. (away, (λ e. u tt (inl e), (λ e. u tt (inr (inl e)), tt))), λ a q. (away, (λ e. f a (inl e), (λ e. f a (inr (inl e)), tt))))))

  pub comparison_known : (x : Context) (operator : Cmp) (left right : Node) (id : ℕ) (at : Pos) (ty : TyId) (by : Option Use) → Good x (tree.node id at ty by (tree.Comparison operator left right)) (lower.lower_form F (tree.Comparison operator left right) (head id ty by) (S_of (tree.Comparison operator left right) (head id ty by))) → Holds (typing.row (X x) id ty (tree.Comparison operator left right)) → Child x left (N left) → Child x right (N right) → Known x (tree.node id at ty by (tree.Comparison operator left right)) (lower.lower_form F (tree.Comparison operator left right) (head id ty by) (S_of (tree.Comparison operator left right) (head id ty by)))
  comparison_known x operator left right id at ty by good h k l =
      nodes.operating g L K about Q Free x id at ty by (tree.Comparison operator left right) (S_of (tree.Comparison operator left right) (head id ty by)) (N left ∷ N right ∷ []) (λ site. effects.Compare site operator (moved id (N left).head.id) (moved id (N right).head.id)) good (λ c. c) (λ a. refl) (standing.bool_no g L K about Q ty h.1.1.1)
      (λ o c v k. base.never_and_made g ty v (standing.bool_made g L K about Q ty h.1.1.1))
      (λ o c. by_part.two_operands g L K about Q x left right k l (base.cells_second g _ (cells_in g.items (tree.Comparison operator left right)) c) (standing.taken_stands g L K about Q x left h.0).valued (standing.taken_stands g L K about Q x right h.1.0).valued)
      (λ H f u i k away. (λ e z. away e, (λ q. (away, (λ e. u tt (inl e), (λ e. u tt (inr (inl e)), tt))), λ a q. (away, (λ e. f a (inl e), (λ e. f a (inr (inl e)), tt))))))

  pub box_known : (x : Context) (content : Node) (id : ℕ) (at : Pos) (ty : TyId) (by : Option Use) → Good x (tree.node id at ty by (tree.NewBox content)) (lower.lower_form F (tree.NewBox content) (head id ty by) (S_of (tree.NewBox content) (head id ty by))) → Holds (typing.row (X x) id ty (tree.NewBox content)) → Child x content (N content) → Known x (tree.node id at ty by (tree.NewBox content)) (lower.lower_form F (tree.NewBox content) (head id ty by) (S_of (tree.NewBox content) (head id ty by)))
  box_known x content id at ty by good h k =
      let e = found (types.boxed_of g.items ty) _ h in
      let t = boxed_known g.items ty e.0 e.1 in
      nodes.operating g L K about Q Free x id at ty by (tree.NewBox content) (S_of (tree.NewBox content) (head id ty by)) (N content ∷ []) (λ site. effects.NewBox site (moved id (N content).head.id)) good (λ c. c) (λ a. refl) (standing.no_ref g L K about Q ty (Ty.Boxed e.0) t refl)
      (λ o c v k. base.never_and_made g ty v (nodes.made_of g L K about Q ty (Ty.Boxed e.0) t refl))
      (λ o c. by_part.one_operand g L K about Q x content k (base.cells_second g _ (cells_in g.items (tree.NewBox content)) c) (standing.wanted_stands g L K about Q x e.0 content e.2.0).valued)
      (λ H f u i k away. (λ e z. away e, (λ q. (away, (λ e. u tt (inl e), tt)), λ a q. (away, (λ e. f a (inl e), tt)))))

  pub print_known : (x : Context) (operand : Node) (id : ℕ) (at : Pos) (ty : TyId) (by : Option Use) → Good x (tree.node id at ty by (tree.Print operand)) (lower.lower_form F (tree.Print operand) (head id ty by) (S_of (tree.Print operand) (head id ty by))) → Holds (typing.row (X x) id ty (tree.Print operand)) → Child x operand (N operand) → Known x (tree.node id at ty by (tree.Print operand)) (lower.lower_form F (tree.Print operand) (head id ty by) (S_of (tree.Print operand) (head id ty by)))
  print_known x operand id at ty by good h k =
      nodes.giving_unit g L K about Q x id at ty by (tree.Print operand) (S_of (tree.Print operand) (head id ty by)) (N operand) effects.Print good (λ c. c) (λ a. refl) (standing.unit_no g L K about Q ty h.1.1) (standing.unit_made g L K about Q ty h.1.1)
      (λ o c. by_part.one_operand g L K about Q x operand k (base.cells_second g _ (cells_in g.items (tree.Print operand)) c) (standing.taken_stands g L K about Q x operand h.0).valued) tt (λ f. (f, tt)) (λ f. (f, tt))

  pub forget_known : (x : Context) (operand : Node) (id : ℕ) (at : Pos) (ty : TyId) (by : Option Use) → Good x (tree.node id at ty by (tree.Forget operand)) (lower.lower_form F (tree.Forget operand) (head id ty by) (S_of (tree.Forget operand) (head id ty by))) → Holds (typing.row (X x) id ty (tree.Forget operand)) → Child x operand (N operand) → Known x (tree.node id at ty by (tree.Forget operand)) (lower.lower_form F (tree.Forget operand) (head id ty by) (S_of (tree.Forget operand) (head id ty by)))
  forget_known x operand id at ty by good h k =
      nodes.giving_unit g L K about Q x id at ty by (tree.Forget operand) (S_of (tree.Forget operand) (head id ty by)) (N operand) effects.Forget good (λ c. c) (λ a. refl) (standing.unit_no g L K about Q ty h.1) (standing.unit_made g L K about Q ty h.1)
      (λ o c. by_part.one_operand g L K about Q x operand k (base.cells_second g _ (cells_in g.items (tree.Forget operand)) c) (standing.taken_stands g L K about Q x operand h.0).valued) tt (λ f. (f, tt)) (λ f. (f, tt))

  pub drop_known : (x : Context) (operand : Node) (id : ℕ) (at : Pos) (ty : TyId) (by : Option Use) → Good x (tree.node id at ty by (tree.DropValue operand)) (lower.lower_form F (tree.DropValue operand) (head id ty by) (S_of (tree.DropValue operand) (head id ty by))) → Holds (typing.row (X x) id ty (tree.DropValue operand)) → Child x operand (N operand) → Known x (tree.node id at ty by (tree.DropValue operand)) (lower.lower_form F (tree.DropValue operand) (head id ty by) (S_of (tree.DropValue operand) (head id ty by)))
  drop_known x operand id at ty by good h k =
      nodes.flow g L K about Q x id at ty by (tree.DropValue operand) (S_of (tree.DropValue operand) (head id ty by)) _ good (λ c. c) (λ a. refl)
      (λ o c a ar own to d nv. once.scoped g L K about Q Free x.loops id own _ _ (more x.loops _ (occ (cells g.items true operand) + 0) _ (nodes.no_more g L K about Q _)
      (and_then x.loops (lower.operand F a (N operand)) _ (occ (cells g.items true operand)) 0 (by_rule.operand_is g L K about Q Free x operand (N operand) k (base.cells_second g _ (cells_in g.items (tree.DropValue operand)) c) (standing.taken_stands g L K about Q x operand h.0).valued a ar).0
      (λ e. by_rule.unit_put g L K about Q Free x.loops (head id ty by) to (d (standing.unit_no g L K about Q ty h.1) (standing.unit_made g L K about Q ty h.1))))))
      (λ o c ref a ar own to. absurd (by_rule.not_both g L K about Q ty ref (standing.unit_no g L K about Q ty h.1)))

  pub unsize_known : (x : Context) (trait_no : ℕ) (operand : Node) (id : ℕ) (at : Pos) (ty : TyId) (by : Option Use) → Good x (tree.node id at ty by (tree.Unsize trait_no operand)) (lower.lower_form F (tree.Unsize trait_no operand) (head id ty by) (S_of (tree.Unsize trait_no operand) (head id ty by))) → Holds (typing.row (X x) id ty (tree.Unsize trait_no operand)) → Child x operand (N operand) → Known x (tree.node id at ty by (tree.Unsize trait_no operand)) (lower.lower_form F (tree.Unsize trait_no operand) (head id ty by) (S_of (tree.Unsize trait_no operand) (head id ty by)))
  unsize_known x trait_no operand id at ty by good h k =
      let t = by_part.box_at g L K about Q ty (ty_of operand) trait_no h.1.1 in
      let nr = standing.no_ref g L K about Q ty (Ty.Boxed t.0) t.1 refl in
      nodes.flow g L K about Q x id at ty by (tree.Unsize trait_no operand) (S_of (tree.Unsize trait_no operand) (head id ty by)) _ good (λ c. c) (λ a. refl)
      (λ o c a ar own to d nv.
      let cs = (base.cells_second g _ (cells_in g.items (tree.Unsize trait_no operand)) c) in
      k.known.evaluates true cs (standing.taken_stands g L K about Q x operand h.0).valued a ar own (coerced (N operand).head.id trait_no to)
      (λ n m. by_part.coerced_clear g L K about Q (N operand).head.id trait_no to (by_rule.dest_own g L K about Q x operand (N operand) k cs n m) (d nr (nodes.made_of g L K about Q ty (Ty.Boxed t.0) t.1 refl))))
      (λ o c ref a ar own to. absurd (by_rule.not_both g L K about Q ty ref nr))

  pub index_known : (x : Context) (inner index : Node) (count : ℕ) (id : ℕ) (at : Pos) (ty : TyId) (by : Option Use) → Good x (tree.node id at ty by (tree.Index inner index count)) (lower.lower_form F (tree.Index inner index count) (head id ty by) (S_of (tree.Index inner index count) (head id ty by))) → Holds (typing.row (X x) id ty (tree.Index inner index count)) → Child x inner (N inner) → Child x index (N index) → Known x (tree.node id at ty by (tree.Index inner index count)) (lower.lower_form F (tree.Index inner index count) (head id ty by) (S_of (tree.Index inner index count) (head id ty by)))
  index_known x inner index count id at ty by good h b i =
      let v = (standing.taken_stands g L K about Q x index h.1.0).valued in
      nodes.place_known g L K about Q x id at ty by (tree.Index inner index count) (S_of (tree.Index inner index count) (head id ty by)) (lower.reach_element F (head id ty by) (S_of (tree.Index inner index count) (head id ty by)) (N inner) (N index) count) good (λ o c. (base.cells_second g _ (cells_in g.items (tree.Index inner index count)) c)) (λ o c v. (rw v at c).0) refl
      (λ c a ar.
      let ci = base.cells_second g (reached_cells g.items inner) (cells g.items true index) c in
      let cb = base.cells_first g (reached_cells g.items inner) (cells g.items true index) c in
      more x.loops _ (occ (reached_cells g.items inner) + (occ (cells g.items true index) + (0 + 0))) _ (standing.index_under g L K about Q (reached_cells g.items inner) (cells g.items true index))
      (and_then x.loops ((N inner).reaches a) _ (occ (reached_cells g.items inner)) (occ (cells g.items true index) + (0 + 0)) (b.known.reaches cb a ar)
      (λ e. and_then x.loops ((N index).evaluates a false (Into (N index).head.id)) _ (occ (cells g.items true index)) (0 + 0) (i.known.evaluates true ci v a ar false (Into (N index).head.id) (by_rule.dest_own g L K about Q x index (N index) i ci))
      (λ d. and_then x.loops _ _ 0 0 (on.acts g L K about Q Free x.loops id (effects.Touch (site_at (head id ty by) (lower.array_around F ((S_of (tree.Index inner index count) (head id ty by)).place a.aliases)))) tt (λ q. by_part.reached_away g L K about Q x inner b cb a ar e q) (λ z q. by_part.reached_away g L K about Q x inner b cb a ar e q))
      (λ w. on.acts g L K about Q Free x.loops (N index).head.id (effects.Bounds (effects.Copied (site_of_key (N index).head.id)) count) tt (λ q. (λ k. by_rule.out g L K about Q x index (N index) i ci v a ar false (Into (N index).head.id) d k, tt)) (λ z q. (λ k. by_rule.out g L K about Q x index (N index) i ci v a ar false (Into (N index).head.id) d k, tt)))))))
      (λ c a ar e. by_part.further_ok g L K about Q ty ((shape g.items inner).place a.aliases) (ToElement (number_of index)) (by_part.reached_away g L K about Q x inner b (base.cells_first g (reached_cells g.items inner) (cells g.items true index) c) a ar (and_first ((N inner).reaches a).has_end _ e)))

  pub and_known : (x : Context) (left right : Node) (id : ℕ) (at : Pos) (ty : TyId) (by : Option Use) → Good x (tree.node id at ty by (tree.And left right)) (lower.lower_form F (tree.And left right) (head id ty by) (S_of (tree.And left right) (head id ty by))) → Holds (typing.row (X x) id ty (tree.And left right)) → Child x left (N left) → Child x right (N right) → Known x (tree.node id at ty by (tree.And left right)) (lower.lower_form F (tree.And left right) (head id ty by) (S_of (tree.And left right) (head id ty by)))
  and_known x left right id at ty by good h k l =
      nodes.flow g L K about Q x id at ty by (tree.And left right) (S_of (tree.And left right) (head id ty by)) _ good (λ c. c) (λ a. refl)
      (λ o c a ar own to d nv.
      let cs = (base.cells_second g _ (cells_in g.items (tree.And left right)) c) in
      let cl = base.cells_first g (cells g.items true left) (cells g.items false right) cs in
      let cr = base.cells_second g (cells g.items true left) (cells g.items false right) cs in
      let clear = d (standing.bool_no g L K about Q ty h.1.1.1.1) (standing.bool_made g L K about Q ty h.1.1.1.1) in
      by_rule.owned g L K about Q x.loops (head id ty by) own _ _ (more x.loops _ _ _ (standing.and_under g L K about Q (cells g.items true left) (cells g.items false right))
      (nodes.conditioned g L K about Q x left (N left) k cl (standing.taken_stands g L K about Q x left h.0).valued a ar _ _ (occ (cells g.items false right)) 0 (nodes.alone g L K about Q x right (N right) l false cr (standing.taken_stands g L K about Q x right h.1.0).valued a ar to (λ n m. clear)) (by_rule.delivered g L K about Q Free x.loops id (head id ty by) (λ site. effects.Put site (effects.Truth false)) to clear (by_rule.puts g L K about Q Free (effects.Truth false) (λ q. tt))))))
      (λ o c ref a ar own to. absurd (by_rule.not_both g L K about Q ty ref (standing.bool_no g L K about Q ty h.1.1.1.1)))

  pub or_known : (x : Context) (left right : Node) (id : ℕ) (at : Pos) (ty : TyId) (by : Option Use) → Good x (tree.node id at ty by (tree.Or left right)) (lower.lower_form F (tree.Or left right) (head id ty by) (S_of (tree.Or left right) (head id ty by))) → Holds (typing.row (X x) id ty (tree.Or left right)) → Child x left (N left) → Child x right (N right) → Known x (tree.node id at ty by (tree.Or left right)) (lower.lower_form F (tree.Or left right) (head id ty by) (S_of (tree.Or left right) (head id ty by)))
  or_known x left right id at ty by good h k l =
      nodes.flow g L K about Q x id at ty by (tree.Or left right) (S_of (tree.Or left right) (head id ty by)) _ good (λ c. c) (λ a. refl)
      (λ o c a ar own to d nv.
      let cs = (base.cells_second g _ (cells_in g.items (tree.Or left right)) c) in
      let cl = base.cells_first g (cells g.items true left) (cells g.items false right) cs in
      let cr = base.cells_second g (cells g.items true left) (cells g.items false right) cs in
      let clear = d (standing.bool_no g L K about Q ty h.1.1.1.1) (standing.bool_made g L K about Q ty h.1.1.1.1) in
      by_rule.owned g L K about Q x.loops (head id ty by) own _ _ (more x.loops _ _ _ (standing.or_under g L K about Q (cells g.items true left) (cells g.items false right))
      (nodes.conditioned g L K about Q x left (N left) k cl (standing.taken_stands g L K about Q x left h.0).valued a ar _ _ 0 (occ (cells g.items false right)) (by_rule.delivered g L K about Q Free x.loops id (head id ty by) (λ site. effects.Put site (effects.Truth true)) to clear (by_rule.puts g L K about Q Free (effects.Truth true) (λ q. tt))) (nodes.alone g L K about Q x right (N right) l false cr (standing.taken_stands g L K about Q x right h.1.0).valued a ar to (λ n m. clear)))))
      (λ o c ref a ar own to. absurd (by_rule.not_both g L K about Q ty ref (standing.bool_no g L K about Q ty h.1.1.1.1)))

  pub assign_known : (x : Context) (target value_ : Node) (id : ℕ) (at : Pos) (ty : TyId) (by : Option Use) → Good x (tree.node id at ty by (tree.Assign target value_)) (lower.lower_form F (tree.Assign target value_) (head id ty by) (S_of (tree.Assign target value_) (head id ty by))) → Holds (typing.row (X x) id ty (tree.Assign target value_)) → Child x target (N target) → Child x value_ (N value_) → Known x (tree.node id at ty by (tree.Assign target value_)) (lower.lower_form F (tree.Assign target value_) (head id ty by) (S_of (tree.Assign target value_) (head id ty by)))
  assign_known x target value_ id at ty by good h t k =
      let v = (standing.wanted_stands g L K about Q x (ty_of target) value_ h.1.1.0).valued in
      nodes.flow g L K about Q x id at ty by (tree.Assign target value_) (S_of (tree.Assign target value_) (head id ty by)) _ good (λ c. c) (λ a. refl)
      (λ o c a ar own to d nv.
      let cs = (base.cells_second g _ (cells_in g.items (tree.Assign target value_)) c) in
      let ct = base.cells_first g (reached_cells g.items target) (cells g.items true value_) cs in
      let cv = base.cells_second g (reached_cells g.items target) (cells g.items true value_) cs in
      once.scoped g L K about Q Free x.loops id own _ _ (more x.loops _ _ _ (standing.assign_under g L K about Q (reached_cells g.items target) (cells g.items true value_))
      (and_then x.loops (lower.operand F a (N value_)) _ (occ (cells g.items true value_)) (occ (reached_cells g.items target) + (0 + 0)) (by_rule.operand_is g L K about Q Free x value_ (N value_) k cv v a ar).0
      (λ e. and_then x.loops ((N target).reaches a) _ (occ (reached_cells g.items target)) (0 + 0) (t.known.reaches ct a ar)
      (λ w. and_then x.loops _ _ 0 0 (on.replaced g L K about Q x.loops (needs_drop g.items (N target).head.ty) (lower.site_of (N target) a) (N value_).head.id ((t.known.place ct a ar w).1 (standing.stored_stands g L K about Q x target h.0).1)
      (λ q. ((t.known.place ct a ar w).0 q, λ z. by_rule.out g L K about Q x value_ (N value_) k cv v a ar false (Into (N value_).head.id) (and_first ((N value_).evaluates a false (Into (N value_).head.id)).has_end true e) z)))
      (λ z. by_rule.unit_put g L K about Q Free x.loops (head id ty by) to (d (standing.unit_no g L K about Q ty h.1.1.1) (standing.unit_made g L K about Q ty h.1.1.1))))))))
      (λ o c ref a ar own to. absurd (by_rule.not_both g L K about Q ty ref (standing.unit_no g L K about Q ty h.1.1.1)))
