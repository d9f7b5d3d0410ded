-- The forms beside a local of a reference type: one line a form.
use Rattle.std.proofs.Common.{◌≡◌, inl, inr, ℕ, ◌+◌, ◌≤◌, ◌&&◌, not, Bool, true, false, List, [], ◌∷◌, ◌++◌, Option, slice_get, refl, sym, subst, ◌∙◌}
use Rattle.std.specs.List.{list_all}
use Rattle.mir_base.specs.declared.int_kind.IntKind.{IntKind}
use Rattle.mir_base.specs.declared.place_in_text.Pos.{Pos}
use Rattle.mir_base.specs.declared.trace.Why.{Why}
use Rattle.mir_ty.specs.declared.ty.Ty.{Ty}
use Rattle.mir_ty.specs.declared.ty.TyId.{TyId}
use Rattle.store_model.specs.Effects as effects
use Rattle.store_model.specs.Effects.{OfTuple, OfArray, OfVariant, OfClosure}
use Rattle.store_model.specs.Places.Place.{Place, whole_local}
use Rattle.typed_tree.specs.declared.node.Use.{Use}
use Rattle.typed_tree.specs.Nodes.{nodes_of, nodes_in, nodes_among, nodes_of_fields, nodes_if_any}
use Rattle.typed_tree.specs.Tree as tree
use Rattle.typed_tree.specs.Tree.{Node, Form, Nodes, no_node, a_node, Fields, no_field, a_field, MaybeNode, absent, present}
use Rattle.src_meaning.specs.Evaluation.{in_number_order}
use Rattle.src_meaning.specs.Forms.{Destination, Into, LoopsAndGuards, loop_destination, in_guard}
use Rattle.src_meaning.specs.Locals.OfBody.{cells, reached_cells, cells_in, all_cells, cells_of_fields, cells_if_any}
use Rattle.src_meaning.specs.Scopes.{Entry, Breaks, Continues, Returns, innermost}
use Rattle.src_meaning.specs.Shape.{NodeHead, head, Shape, kind_of, shape, shape_of}
use Rattle.src_meaning.specs.FieldKeys.{field_keys, moved_fields}
use Rattle.well_typed.specs.Claim.{Holds}
use Rattle.well_typed.specs.Nodes as typing
use Rattle.well_typed.specs.Patterns.{Matched, entries_of}
use Rattle.well_typed.specs.Places as scopes
use Rattle.well_typed.specs.Places.{InScope, LoopAround, Context, Standing, Taken, Wanted, Passed, Base, Used, Stored, with_entries, within, loop_with, ty_of, form_of}
use Rattle.well_typed.specs.Types as types
use Rattle.lower_rules.specs.Build as build
use Rattle.lower_rules.specs.Build.{LoweringFrame, Lowers, then_lower}
use Rattle.lower_rules.specs.Lower as lower
use Rattle.lower_rules.specs.Lower.{NodeLower}
use Rattle.lower_rules.proofs.KnownTypes.{tuple_known, array_known, i32_known}
use Rattle.lower_laws.proofs.Base as base
use Rattle.lower_laws.proofs.Base.{Ground, untrue, and_first, and_second, both_false, same_id, found}
use Rattle.lower_laws.proofs.Branches as forms_of_branches
use Rattle.lower_laws.proofs.Forms as forms_of
use Rattle.lower_laws.proofs.MovedOut as moved_out
use Rattle.lower_laws.proofs.Names as names
use Rattle.lower_laws.proofs.Rules as rules
use Rattle.lower_ready.proofs.Once as once
use Rattle.lower_ready.proofs.Once.{About}
use Rattle.lower_ready.proofs.OnceActs as on
use Rattle.lower_ready.proofs.OnceNodes as nodes
use Rattle.lower_ready.proofs.OncePatterns as pattern_rules
use Rattle.lower_ready.proofs.OnceParts as by_part
use Rattle.lower_ready.proofs.OnceRules as by_rule
use Rattle.lower_ready.proofs.OnceStanding as standing
use Rattle.lower_ready.proofs.OnceOperators as once_operators
use Rattle.lower_ready.proofs.OnceOperators.{not_true, field_known, deref_known, not_known, negate_known, arithmetic_known, comparison_known, box_known, print_known, forget_known, drop_known, unsize_known, index_known, and_known, or_known, assign_known}
use Rattle.lower_ready.proofs.OnceBranching.{if_known, if_else_known, if_let_known, if_let_else_known, loop_known, while_known, while_let_known, break_known, return_known}

module _ (g : Ground) (L K : ℕ) (about : About g L K) (Q : Type 0) where
  abbrev F : LoweringFrame
  F = base.F g

  abbrev X : Context → Context
  X x = record x { items = g.items }

  abbrev N : Node → NodeLower
  N n = lower.lower F n

  abbrev S_of : Form → NodeHead → Shape
  S_of form h = shape_of g.items form h

  abbrev Free : Type 0
  Free = Unit {0}

  abbrev Once : Type 0 → List LoopAround → Lowers → ℕ → Type 0
  Once H loops P m = once.Once g L K about Q H loops P m

  abbrev Cells : List Entry → Type 0
  Cells = base.CellsOk g

  abbrev NotRef : TyId → Type 0
  NotRef ty = by_rule.NotRef g L K about Q ty

  abbrev IsRef : TyId → Type 0
  IsRef ty = by_rule.IsRef g L K about Q ty

  abbrev Dest : Destination → TyId → Type 0
  Dest to ty = by_rule.Dest g L K about Q to ty

  abbrev Around : Context → LoopsAndGuards → Type 0
  Around x a = by_rule.Around g L K about Q x a

  abbrev Good : Context → Node → NodeLower → Type 0
  Good = rules.Good g

  abbrev Known : Context → Node → NodeLower → Type 0
  Known x n m = by_rule.Known g L K about Q x n m

  abbrev Child : Context → Node → NodeLower → Type 0
  Child x n m = by_rule.Child g L K about Q x n m

  abbrev Others : List InScope → Type 0
  Others es = by_rule.Others g L K about Q es

  abbrev occ : List Entry → ℕ
  occ es = by_rule.occ g L K about Q es

  abbrev OperandIs : Type 0 → Context → NodeLower → ℕ → Type 0
  OperandIs T x m o = by_rule.OperandIs g L K about Q T x m o

  abbrev OperandsAre : Type 0 → Context → List NodeLower → ℕ → Type 0
  OperandsAre T x ms o = by_rule.OperandsAre g L K about Q T x ms o

  abbrev more : (loops : List LoopAround) (P : Lowers) (m n : ℕ) → m ≤ n → Once Free loops P m → Once Free loops P n
  more loops P m n le p = once.more g L K about Q Free loops P m n le p

  abbrev and_then : (loops : List LoopAround) (P Q' : Lowers) (o r : ℕ) → Once Free loops P o → (P.has_end ≡ true → Once Free loops Q' r) → Once Free loops (then_lower P Q') (o + r)
  and_then = once_operators.and_then g L K about Q

  -- ---- the forms
  mutual
    pub child : (x : Context) (n : Node) (st : Standing) → moved_out.is_fair g st ≡ true → scopes.is_borrow (form_of n) ≡ false → Holds (typing.typed (X x) st n) → base.Rise g (nodes_of n) → Child x n (N n)
    child x (tree.node id at ty by form) st fair plain h r =
        let good = forms_of.node_good g x (tree.node id at ty by form) st fair h r in
        record { good = good; known = known form x id at ty by plain good h.1 r.1 }

    taken_child : (x : Context) (n : Node) → Holds (typing.typed (X x) Taken n) → base.Rise g (nodes_of n) → Child x n (N n)
    taken_child x (tree.node id at ty by form) h r =
        let good = forms_of.node_good g x (tree.node id at ty by form) Taken refl h r in
        record { good = good; known = known form x id at ty by (standing.taken_stands g L K about Q x (tree.node id at ty by form) h).plain good h.1 r.1 }

    pub wanted_child : (x : Context) (want : TyId) (n : Node) → Holds (typing.typed (X x) (Wanted want) n) → base.Rise g (nodes_of n) → Child x n (N n)
    wanted_child x want (tree.node id at ty by form) h r =
        let good = forms_of.node_good g x (tree.node id at ty by form) (Wanted want) refl h r in
        record { good = good; known = known form x id at ty by (standing.wanted_stands g L K about Q x want (tree.node id at ty by form) h).plain good h.1 r.1 }

    known : (form : Form) (x : Context) (id : ℕ) (at : Pos) (ty : TyId) (by : Option Use) → scopes.is_borrow form ≡ false → Good x (tree.node id at ty by form) (lower.lower_form F form (head id ty by) (S_of form (head id ty by))) → Holds (typing.row (X x) id ty form) → base.Rise g (nodes_in form) →
        Known x (tree.node id at ty by form) (lower.lower_form F form (head id ty by) (S_of form (head id ty by)))
    known (tree.Number number) x id at ty by p good h r =
        let t = standing.number_at g L K about Q ty number h in
        nodes.leaf g L K about Q x id at ty by (tree.Number number) (S_of (tree.Number number) (head id ty by)) (λ site. effects.Put site (effects.Number number (kind_of g.items ty))) good (λ c. c) (λ a. refl) (standing.no_ref g L K about Q ty (Ty.Int t.0) t.1 refl) (nodes.made_of g L K about Q ty (Ty.Int t.0) t.1 refl) (by_rule.puts g L K about Q Free (effects.Number number (kind_of g.items ty)) (λ q. tt))
    known (tree.Truth truth) x id at ty by p good h r =
        nodes.leaf g L K about Q x id at ty by (tree.Truth truth) (S_of (tree.Truth truth) (head id ty by)) (λ site. effects.Put site (effects.Truth truth)) good (λ c. c) (λ a. refl) (standing.bool_no g L K about Q ty h) (standing.bool_made g L K about Q ty h) (by_rule.puts g L K about Q Free (effects.Truth truth) (λ q. tt))
    known tree.UnitValue x id at ty by p good h r =
        nodes.leaf g L K about Q x id at ty by tree.UnitValue (S_of tree.UnitValue (head id ty by)) (λ site. effects.Put site effects.UnitValue) good (λ c. c) (λ a. refl) (standing.unit_no g L K about Q ty h) (standing.unit_made g L K about Q ty h) (by_rule.puts g L K about Q Free effects.UnitValue (λ q. tt))
    known tree.Ask x id at ty by p good h r =
        let t = i32_known g.items ty h in
        nodes.leaf g L K about Q x id at ty by tree.Ask (S_of tree.Ask (head id ty by)) effects.Ask good (λ c. c) (λ a. refl) (standing.no_ref g L K about Q ty (Ty.Int IntKind.I32) t refl) (nodes.made_of g L K about Q ty (Ty.Int IntKind.I32) t refl) (λ i k away. (λ e z. away e, (λ q. away, λ f q. away)))
    known (tree.Variable key) x id at ty by p good h r =
        nodes.place_known g L K about Q x id at ty by (tree.Variable key) (S_of (tree.Variable key) (head id ty by)) (λ around. build.nothing) good (λ o c. (base.cells_second g _ (cells_in g.items (tree.Variable key)) c)) (λ o c v. (rw v at c).0) refl
        (λ c a ar. once.nothing_done g L K about Q Free x.loops)
        (λ c a ar e. by_part.variable_ok g L K about Q x key ty h a ar)
    known (tree.Captured closure part name) x id at ty by p good h r =
        nodes.place_known g L K about Q x id at ty by (tree.Captured closure part name) (S_of (tree.Captured closure part name) (head id ty by)) (λ around. build.nothing) good (λ o c. (base.cells_second g _ (cells_in g.items (tree.Captured closure part name)) c)) (λ o c v. (rw v at c).0) refl
        (λ c a ar. once.nothing_done g L K about Q Free x.loops)
        (λ c a ar e. by_part.captured_ok g L K about Q x closure part name ty h a ar)
    known (tree.Field inner part) x id at ty by p good h r =
        field_known g L K about Q x inner part id at ty by good h (child x inner Base refl (standing.base_plain g L K about Q x inner h.0) h.0 r)
    known (tree.Deref inner) x id at ty by p good h r =
        deref_known g L K about Q x inner id at ty by good h (child x inner Base refl (standing.base_plain g L K about Q x inner h.0) h.0 r)
    known (tree.Index inner index count) x id at ty by p good h r =
        index_known g L K about Q x inner index count id at ty by good h (child x inner Base refl (standing.base_plain g L K about Q x inner h.0) h.0 (base.rise_first g (nodes_of inner) (nodes_of index) r)) (taken_child x index h.1.0 (base.rise_second g (nodes_of inner) (nodes_of index) r))
    known (tree.Not operand) x id at ty by p good h r =
        not_known g L K about Q x operand id at ty by good h (taken_child x operand h.0 r)
    known (tree.Negate operand) x id at ty by p good h r =
        negate_known g L K about Q x operand id at ty by good h (taken_child x operand h.0 r)
    known (tree.Arithmetic operator left right) x id at ty by p good h r =
        arithmetic_known g L K about Q x operator left right id at ty by good h (wanted_child x ty left h.0 (base.rise_first g (nodes_of left) (nodes_of right) r)) (wanted_child x ty right h.1.0 (base.rise_second g (nodes_of left) (nodes_of right) r))
    known (tree.Comparison operator left right) x id at ty by p good h r =
        comparison_known g L K about Q x operator left right id at ty by good h (taken_child x left h.0 (base.rise_first g (nodes_of left) (nodes_of right) r)) (taken_child x right h.1.0 (base.rise_second g (nodes_of left) (nodes_of right) r))
    known (tree.And left right) x id at ty by p good h r =
        and_known g L K about Q x left right id at ty by good h (taken_child x left h.0 (base.rise_first g (nodes_of left) (nodes_of right) r)) (taken_child x right h.1.0 (base.rise_second g (nodes_of left) (nodes_of right) r))
    known (tree.Or left right) x id at ty by p good h r =
        or_known g L K about Q x left right id at ty by good h (taken_child x left h.0 (base.rise_first g (nodes_of left) (nodes_of right) r)) (taken_child x right h.1.0 (base.rise_second g (nodes_of left) (nodes_of right) r))
    known (tree.Assign target value_) x id at ty by p good h r =
        assign_known g L K about Q x target value_ id at ty by good h (child x target Stored refl (standing.stored_stands g L K about Q x target h.0).0 h.0 (base.rise_first g (nodes_of target) (nodes_of value_) r)) (wanted_child x (ty_of target) value_ h.1.1.0 (base.rise_second g (nodes_of target) (nodes_of value_) r))
    known (tree.Call callee args) x id at ty by p good h r =
        let sig = found (slice_get g.items.bodies callee) _ h.0 in
        let nr = subst NotRef (sym (same_id ty sig.0.result sig.2.0)) (about.results callee sig.0 sig.1) in
        nodes.operating g L K about Q ⊥ x id at ty by (tree.Call callee args) (S_of (tree.Call callee args) (head id ty by)) (lower.lower_all F args) (λ site. effects.Call site callee (lower.all_moved id (lower.lower_all F args))) good (λ c. c) (λ a. refl) nr
        (λ o c v k. by_rule.keyed_away g L K about Q id ty ((rw v at c).0) nr k)
        (λ o c. args_are x args sig.0.params sig.2.1 r (base.cells_second g _ (cells_in g.items (tree.Call callee args)) c))
        (λ H f u i k away. (λ e z. away e, (λ q. (away, by_rule.all_whole g L K about Q id (lower.lower_all F args)), λ a q. (away, by_rule.all_away g L K about Q id (lower.lower_all F args) (f a)))))
    known (tree.MethodCall callee receiver args) x id at ty by p good h r =
        let sig = found (slice_get g.items.bodies callee) _ h.0 in
        let nr = subst NotRef (sym (same_id ty sig.0.result sig.2.0)) (about.results callee sig.0 sig.1) in
        nodes.operating g L K about Q ⊥ x id at ty by (tree.MethodCall callee receiver args) (S_of (tree.MethodCall callee receiver args) (head id ty by)) (N receiver ∷ lower.lower_all F args) (λ site. effects.Call site callee (lower.all_moved id (N receiver ∷ lower.lower_all F args))) good (λ c. c) (λ a. refl) nr
        (λ o c v k. by_rule.keyed_away g L K about Q id ty ((rw v at c).0) nr k)
        (λ o c. by_part.receiver_given g L K about Q x receiver args sig.0.params (λ t z. arg_is x receiver t z (base.rise_first g (nodes_of receiver) (nodes_among args) r) (base.cells_first g (cells g.items true receiver) (all_cells g.items args) (base.cells_second g _ (cells_in g.items (tree.MethodCall callee receiver args)) c))) (λ ts z. args_are x args ts z (base.rise_second g (nodes_of receiver) (nodes_among args) r) (base.cells_second g (cells g.items true receiver) (all_cells g.items args) (base.cells_second g _ (cells_in g.items (tree.MethodCall callee receiver args)) c))) sig.2.1)
        (λ H f u i k away. (λ e z. away e, (λ q. (away, by_rule.all_whole g L K about Q id (N receiver ∷ lower.lower_all F args)), λ a q. (away, by_rule.all_away g L K about Q id (N receiver ∷ lower.lower_all F args) (f a)))))
    known (tree.ClosureCall callee closure args) x id at ty by p good h r =
        let sig = found (slice_get g.items.bodies callee) _ h.0 in
        let nr = subst NotRef (sym (same_id ty sig.0.result sig.2.0)) (about.results callee sig.0 sig.1) in
        nodes.operating g L K about Q ⊥ x id at ty by (tree.ClosureCall callee closure args) (S_of (tree.ClosureCall callee closure args) (head id ty by)) (N closure ∷ lower.lower_all F args) (λ site. effects.Call site callee (lower.all_moved id (N closure ∷ lower.lower_all F args))) good (λ c. c) (λ a. refl) nr
        (λ o c v k. by_rule.keyed_away g L K about Q id ty ((rw v at c).0) nr k)
        (λ o c. by_part.receiver_given g L K about Q x closure args sig.0.params (λ t z. arg_is x closure t z (base.rise_first g (nodes_of closure) (nodes_among args) r) (base.cells_first g (cells g.items true closure) (all_cells g.items args) (base.cells_second g _ (cells_in g.items (tree.ClosureCall callee closure args)) c))) (λ ts z. args_are x args ts z (base.rise_second g (nodes_of closure) (nodes_among args) r) (base.cells_second g (cells g.items true closure) (all_cells g.items args) (base.cells_second g _ (cells_in g.items (tree.ClosureCall callee closure args)) c))) sig.2.1)
        (λ H f u i k away. (λ e z. away e, (λ q. (away, by_rule.all_whole g L K about Q id (N closure ∷ lower.lower_all F args)), λ a q. (away, by_rule.all_away g L K about Q id (N closure ∷ lower.lower_all F args) (f a)))))
    known (tree.VirtualCall trait_no method receiver args) x id at ty by p good h r =
        let def = found (slice_get g.items.traits trait_no) _ h in
        let sig = found (slice_get def.0.methods method) _ def.2 in
        let nr = subst NotRef (sym (same_id ty sig.0.result sig.2.0)) (about.methods trait_no method def.0 sig.0 def.1 sig.1) in
        nodes.operating g L K about Q ⊥ x id at ty by (tree.VirtualCall trait_no method receiver args) (S_of (tree.VirtualCall trait_no method receiver args) (head id ty by)) (N receiver ∷ lower.lower_all F args) (λ site. effects.CallVirtual site trait_no method (lower.all_moved id (N receiver ∷ lower.lower_all F args))) good (λ c. c) (λ a. refl) nr
        (λ o c v k. by_rule.keyed_away g L K about Q id ty ((rw v at c).0) nr k)
        (λ o c. by_part.receiver_given g L K about Q x receiver args sig.0.params (λ t z. arg_is x receiver t z (base.rise_first g (nodes_of receiver) (nodes_among args) r) (base.cells_first g (cells g.items true receiver) (all_cells g.items args) (base.cells_second g _ (cells_in g.items (tree.VirtualCall trait_no method receiver args)) c))) (λ ts z. args_are x args ts z (base.rise_second g (nodes_of receiver) (nodes_among args) r) (base.cells_second g (cells g.items true receiver) (all_cells g.items args) (base.cells_second g _ (cells_in g.items (tree.VirtualCall trait_no method receiver args)) c))) sig.2.1)
        (λ H f u i k away. (λ e z. away e, (λ q. (away, by_rule.all_whole g L K about Q id (N receiver ∷ lower.lower_all F args)), λ a q. (away, by_rule.all_away g L K about Q id (N receiver ∷ lower.lower_all F args) (f a)))))
    known (tree.Make adt variant fields) x id at ty by p good h r =
        let t = by_part.adt_at g L K about Q ty adt h.0 in
        let v = found (types.variant_at g.items adt variant) _ h.1 in
        nodes.operating g L K about Q Free x id at ty by (tree.Make adt variant fields) (S_of (tree.Make adt variant fields) (head id ty by)) (lower.lower_fields F fields) (λ site. effects.Build site (OfVariant adt variant) (moved_fields id (in_number_order (field_keys fields)))) good (λ c. c) (λ a. refl) (standing.no_ref g L K about Q ty (Ty.Adt t.0) t.1 refl)
        (λ o c v k. base.never_and_made g ty v (nodes.made_of g L K about Q ty (Ty.Adt t.0) t.1 refl))
        (λ o c. fields_are x fields v.0.fields v.2.1 r (base.cells_second g _ (cells_in g.items (tree.Make adt variant fields)) c))
        (λ H f u i k away. (λ e z. away e, (λ q. (away, by_part.moved_away g L K about Q id (in_number_order (field_keys fields)) (by_part.ordered_away g L K about Q (field_keys fields) (field_keys_away x fields v.0.fields v.2.1 r (u tt)))), λ a q. (away, by_part.moved_away g L K about Q id (in_number_order (field_keys fields)) (by_part.ordered_away g L K about Q (field_keys fields) (field_keys_away x fields v.0.fields v.2.1 r (f a)))))))
    known (tree.Tuple parts) x id at ty by p good h r =
        let tys = found (types.tuple_of g.items ty) _ h in
        let t = tuple_known g.items ty tys.0 tys.1 in
        nodes.operating g L K about Q Free x id at ty by (tree.Tuple parts) (S_of (tree.Tuple parts) (head id ty by)) (lower.lower_all F parts) (λ site. effects.Build site OfTuple (lower.all_moved id (lower.lower_all F parts))) good (λ c. c) (λ a. refl) (standing.no_ref g L K about Q ty (Ty.Tuple tys.0) t refl)
        (λ o c v k. base.never_and_made g ty v (nodes.made_of g L K about Q ty (Ty.Tuple tys.0) t refl))
        (λ o c. parts_are x parts tys.0 tys.2 r (base.cells_second g _ (cells_in g.items (tree.Tuple parts)) c))
        (λ H f u i k away. (λ e z. away e, (λ q. (away, by_rule.all_away g L K about Q id (lower.lower_all F parts) (u tt)), λ a q. (away, by_rule.all_away g L K about Q id (lower.lower_all F parts) (f a)))))
    known (tree.Array elements) x id at ty by p good h r =
        let e = found (types.array_of g.items ty) _ h in
        let t = array_known g.items ty e.0 e.1 in
        nodes.operating g L K about Q Free x id at ty by (tree.Array elements) (S_of (tree.Array elements) (head id ty by)) (lower.lower_all F elements) (λ site. effects.Build site OfArray (lower.all_moved id (lower.lower_all F elements))) good (λ c. c) (λ a. refl) (standing.no_ref g L K about Q ty (Ty.Array e.0.0 e.0.1) t refl)
        (λ o c v k. base.never_and_made g ty v (nodes.made_of g L K about Q ty (Ty.Array e.0.0 e.0.1) t refl))
        (λ o c. elements_are x elements e.0.0 e.2.1 r (base.cells_second g _ (cells_in g.items (tree.Array elements)) c))
        (λ H f u i k away. (λ e z. away e, (λ q. (away, by_rule.all_away g L K about Q id (lower.lower_all F elements) (u tt)), λ a q. (away, by_rule.all_away g L K about Q id (lower.lower_all F elements) (f a)))))
    known (tree.Closure closure captures) x id at ty by p good h r =
        let t = by_part.closure_at g L K about Q ty closure h.0 in
        let def = found (slice_get g.items.closures closure) _ h.1 in
        nodes.operating g L K about Q Free x id at ty by (tree.Closure closure captures) (S_of (tree.Closure closure captures) (head id ty by)) (lower.lower_all F captures) (λ site. effects.Build site (OfClosure closure) (lower.all_moved id (lower.lower_all F captures))) good (λ c. c) (λ a. refl) (standing.no_ref g L K about Q ty (Ty.Closure t.0) t.1 refl)
        (λ o c v k. base.never_and_made g ty v (nodes.made_of g L K about Q ty (Ty.Closure t.0) t.1 refl))
        (λ o c. captures_are x captures def.0.captures def.2 r (base.cells_second g _ (cells_in g.items (tree.Closure closure captures)) c))
        (λ H f u i k away. (λ e z. away e, (λ q. (away, by_rule.all_away g L K about Q id (lower.lower_all F captures) (u tt)), λ a q. (away, by_rule.all_away g L K about Q id (lower.lower_all F captures) (f a)))))
    known (tree.NewBox content) x id at ty by p good h r =
        let e = found (types.boxed_of g.items ty) _ h in
        box_known g L K about Q x content id at ty by good h (wanted_child x e.0 content e.2.0 r)
    known (tree.Print operand) x id at ty by p good h r =
        print_known g L K about Q x operand id at ty by good h (taken_child x operand h.0 r)
    known (tree.Forget operand) x id at ty by p good h r =
        forget_known g L K about Q x operand id at ty by good h (taken_child x operand h.0 r)
    known (tree.DropValue operand) x id at ty by p good h r =
        drop_known g L K about Q x operand id at ty by good h (taken_child x operand h.0 r)
    known tree.Panic x id at ty by p good h r =
        nodes.flow g L K about Q x id at ty by tree.Panic (S_of tree.Panic (head id ty by)) _ good (λ c. c) (λ a. refl) (λ o c a ar own to d nv. once.panicked g L K about Q x.loops id Why.Explicit) (λ o c ref a ar own to. refl)
    known (tree.Borrow unique inner) x id at ty by p good h r =
        absurd (untrue (sym p))
    known (tree.Unsize trait_no operand) x id at ty by p good h r =
        unsize_known g L K about Q x trait_no operand id at ty by good h (taken_child x operand h.0 r)
    known (tree.Block stmts tail) x id at ty by p good h r =
        let rs = base.rise_first g (nodes_among stmts) (nodes_if_any tail) r in
        let rt = base.rise_second g (nodes_among stmts) (nodes_if_any tail) r in
        nodes.flow g L K about Q x id at ty by (tree.Block stmts tail) (S_of (tree.Block stmts tail) (head id ty by)) _ good (λ c. c) (λ a. refl)
        (λ o c a ar own to d nv.
        let cs = (base.cells_second g _ (cells_in g.items (tree.Block stmts tail)) c) in
        let st = stmts_are x stmts tail h.0 rs (base.cells_first g (all_cells g.items stmts) (cells_if_any g.items false tail) cs) a ar in
        once.scoped g L K about Q Free x.loops id own _ _ (more x.loops _ _ _ (standing.two_under g L K about Q (all_cells g.items stmts) (cells_if_any g.items false tail))
        (and_then x.loops (lower.statements F a (lower.lower_all F stmts)) _ (occ (all_cells g.items stmts)) (occ (cells_if_any g.items false tail)) st.0
        (λ e. let y = st.1 e in
        subst (λ (z : List LoopAround). Once Free z (lower.tail_of F (head id ty by) (lower.lower_if_any F tail) a to) (occ (cells_if_any g.items false tail))) y.2
        (tail_is y.0 stmts tail y.1 rt (base.cells_second g (all_cells g.items stmts) (cells_if_any g.items false tail) cs) id ty by h.1 a y.3 to d)))))
        (λ o c ref a ar own to.
        let cs = (base.cells_second g _ (cells_in g.items (tree.Block stmts tail)) c) in
        let st = stmts_are x stmts tail h.0 rs (base.cells_first g (all_cells g.items stmts) (cells_if_any g.items false tail) cs) a ar in
        rules.no_end_scope g id own (then_lower (lower.statements F a (lower.lower_all F stmts)) (lower.tail_of F (head id ty by) (lower.lower_if_any F tail) a to))
        (by_part.none_behind g L K about Q (lower.statements F a (lower.lower_all F stmts)) (lower.tail_of F (head id ty by) (lower.lower_if_any F tail) a to)
        (λ e. let y = st.1 e in tail_ended y.0 stmts tail y.1 rt (base.cells_second g (all_cells g.items stmts) (cells_if_any g.items false tail) cs) id ty by h.1 ref a y.3 to)))
    known (tree.If condition consequent absent) x id at ty by p good h r =
        let rr = base.rise_first g (nodes_of condition ++ nodes_of consequent) [] r in
        if_known g L K about Q x condition consequent id at ty by good h (taken_child x condition h.0 (base.rise_first g (nodes_of condition) (nodes_of consequent) rr)) (taken_child x consequent h.1.1.0 (base.rise_second g (nodes_of condition) (nodes_of consequent) rr))
    known (tree.If condition consequent (present otherwise)) x id at ty by p good h r =
        let rr = base.rise_first g (nodes_of condition ++ nodes_of consequent) (nodes_of otherwise) r in
        if_else_known g L K about Q x condition consequent otherwise id at ty by good h (taken_child x condition h.0 (base.rise_first g (nodes_of condition) (nodes_of consequent) rr)) (taken_child x consequent h.1.1.0 (base.rise_second g (nodes_of condition) (nodes_of consequent) rr)) (taken_child x otherwise h.1.1.1.0 (base.rise_second g (nodes_of condition ++ nodes_of consequent) (nodes_of otherwise) r))
    known (tree.IfLet pattern scrutinee consequent absent) x id at ty by p good h r =
        let y = with_entries (entries_of pattern) x in
        let n1 = nodes_of pattern ++ nodes_of scrutinee in
        let r1 = base.rise_first g (n1 ++ nodes_of consequent) ([]) r in
        let r2 = base.rise_first g n1 (nodes_of consequent) r1 in
        if_let_known g L K about Q x pattern scrutinee consequent id at ty by good h (child x scrutinee (Used Use.Borrow) refl (standing.used_stands g L K about Q x Use.Borrow scrutinee h.0).0 h.0 (base.rise_second g (nodes_of pattern) (nodes_of scrutinee) r2)) (taken_child y consequent h.1.1.0 (base.rise_second g n1 (nodes_of consequent) r1))
    known (tree.IfLet pattern scrutinee consequent (present otherwise)) x id at ty by p good h r =
        let y = with_entries (entries_of pattern) x in
        let n1 = nodes_of pattern ++ nodes_of scrutinee in
        let r1 = base.rise_first g (n1 ++ nodes_of consequent) (nodes_of otherwise) r in
        let r2 = base.rise_first g n1 (nodes_of consequent) r1 in
        if_let_else_known g L K about Q x pattern scrutinee consequent otherwise id at ty by good h (child x scrutinee (Used Use.Borrow) refl (standing.used_stands g L K about Q x Use.Borrow scrutinee h.0).0 h.0 (base.rise_second g (nodes_of pattern) (nodes_of scrutinee) r2)) (taken_child y consequent h.1.1.0 (base.rise_second g n1 (nodes_of consequent) r1)) (taken_child x otherwise h.1.1.1.0 (base.rise_second g (n1 ++ nodes_of consequent) (nodes_of otherwise) r))
    known (tree.Match scrutinee arms) x id at ty by p good h r =
        let k = child x scrutinee (Used Use.Borrow) refl (standing.used_stands g L K about Q x Use.Borrow scrutinee h.0).0 h.0 (base.rise_first g (nodes_of scrutinee) (nodes_among arms) r) in
        let nr = (standing.used_stands g L K about Q x Use.Borrow scrutinee h.0).1 in
        let ra = base.rise_second g (nodes_of scrutinee) (nodes_among arms) r in
        let fit = and_first _ _ h.1.1.0 in
        nodes.flow g L K about Q x id at ty by (tree.Match scrutinee arms) (S_of (tree.Match scrutinee arms) (head id ty by)) _ good (λ c. c) (λ a. refl)
        (λ o c a ar own to d nv.
        let all = (base.cells_second g _ (cells_in g.items (tree.Match scrutinee arms)) c) in
        let cr = base.cells_first g (reached_cells g.items scrutinee) (all_cells g.items arms) all in
        let ca = base.cells_second g (reached_cells g.items scrutinee) (all_cells g.items arms) all in
        by_rule.owned g L K about Q x.loops (head id ty by) own _ _ (more x.loops _ _ _ (standing.two_under g L K about Q (reached_cells g.items scrutinee) (all_cells g.items arms))
        (and_then x.loops (lower.scrutinised F a (N scrutinee)) (lower.arms_in_order F id (lower.lower_all F arms) (lower.place_in (N scrutinee) a) a to) (occ (reached_cells g.items scrutinee)) (occ (all_cells g.items arms)) (nodes.scrutinised g L K about Q x scrutinee (N scrutinee) k cr a ar)
        (λ e.
        let f = nodes.scrutinee_free g L K about Q x scrutinee (N scrutinee) k nr cr a ar (and_first ((N scrutinee).reaches a).has_end _ e) in
        let it = arms_are x (typing.matched_in false (X x) scrutinee) (ty_of scrutinee) ty arms nr h.1.0 ra ca fit id (lower.place_in (N scrutinee) a) f a ar to d in
        more x.loops _ it.0 (occ (all_cells g.items arms)) it.1 (on.in_order g L K about Q x.loops id (lower.place_in (N scrutinee) a) a to (lower.lower_all F arms) it.0 it.2)))))
        (λ o c ref a ar own to.
        let all = (base.cells_second g _ (cells_in g.items (tree.Match scrutinee arms)) c) in
        let ca = base.cells_second g (reached_cells g.items scrutinee) (all_cells g.items arms) all in
        rules.no_end_owned g (head id ty by) own (then_lower (lower.scrutinised F a (N scrutinee)) (lower.arms_in_order F id (lower.lower_all F arms) (lower.place_in (N scrutinee) a) a to))
        (rules.no_end_second g (lower.scrutinised F a (N scrutinee)) (lower.arms_in_order F id (lower.lower_all F arms) (lower.place_in (N scrutinee) a) a to)
        (arms_ended x (typing.matched_in false (X x) scrutinee) (ty_of scrutinee) ty arms nr h.1.0 ra ca fit ref (lower.place_in (N scrutinee) a) a ar to)))
    known (tree.Loop inner) x id at ty by p good h r =
        let l : LoopAround = record { loop = id; ty = ty; has_value = true } in
        loop_known g L K about Q x inner id at ty by good h (taken_child (within l x) inner h.0 r)
    known (tree.While condition inner) x id at ty by p good h r =
        let l : LoopAround = record { loop = id; ty = ty; has_value = false } in
        while_known g L K about Q x condition inner id at ty by good h (taken_child (within l x) condition h.0 (base.rise_first g (nodes_of condition) (nodes_of inner) r)) (taken_child (within l x) inner h.1.1.0 (base.rise_second g (nodes_of condition) (nodes_of inner) r))
    known (tree.WhileLet pattern scrutinee inner) x id at ty by p good h r =
        let l : LoopAround = record { loop = id; ty = ty; has_value = false } in
        let z = within l x in
        let y = with_entries (entries_of pattern) z in
        let n1 = nodes_of pattern ++ nodes_of scrutinee in
        let r1 = base.rise_first g n1 (nodes_of inner) r in
        while_let_known g L K about Q x pattern scrutinee inner id at ty by good h (child z scrutinee (Used Use.Borrow) refl (standing.used_stands g L K about Q z Use.Borrow scrutinee h.0).0 h.0 (base.rise_second g (nodes_of pattern) (nodes_of scrutinee) r1)) (taken_child y inner h.1.1.0 (base.rise_second g n1 (nodes_of inner) r))
    known (tree.Break loop absent) x id at ty by p good h r =
        let l = found (loop_with loop x.loops) _ h.0 in
        nodes.flow g L K about Q x id at ty by (tree.Break loop absent) (S_of (tree.Break loop absent) (head id ty by)) _ good (λ c. c) (λ a. refl)
        (λ o c a ar own to d nv. by_rule.owned g L K about Q x.loops (head id ty by) own _ 0 (more x.loops _ (0 + 0) 0 (nodes.no_more g L K about Q 0)
        (and_then x.loops (lower.put_unit F (head id ty by) (loop_destination loop a.loops)) _ 0 0 (by_rule.unit_put g L K about Q Free x.loops (head id ty by) (loop_destination loop a.loops) (ar.loops loop l.0 l.1 (standing.unit_no g L K about Q l.0.ty l.2) (standing.unit_made g L K about Q l.0.ty l.2)))
        (λ e. once.leaves_by g L K about Q x.loops id (Breaks loop) (by_part.break_stays g L K about Q x.loops loop l.0 l.1 (standing.unit_no g L K about Q l.0.ty l.2))))))
        (λ o c ref a ar own to. absurd (by_rule.not_both g L K about Q ty ref (standing.never_no g L K about Q ty h.1)))
    known (tree.Break loop (present value_)) x id at ty by p good h r =
        let l = found (loop_with loop x.loops) _ h.0 in
        break_known g L K about Q x loop value_ id at ty by good h (wanted_child x l.0.ty value_ l.2.1 r)
    known (tree.Continue loop) x id at ty by p good h r =
        nodes.flow g L K about Q x id at ty by (tree.Continue loop) (S_of (tree.Continue loop) (head id ty by)) _ good (λ c. c) (λ a. refl)
        (λ o c a ar own to d nv. more x.loops _ (0 + 0) 0 (nodes.no_more g L K about Q 0) (and_then x.loops build.nothing _ 0 0 (once.nothing_done g L K about Q Free x.loops) (λ e. once.leaves_by g L K about Q x.loops id (Continues loop) (λ other l is ref. refl))))
        (λ o c ref a ar own to. refl)
    known (tree.Return absent) x id at ty by p good h r =
        nodes.flow g L K about Q x id at ty by (tree.Return absent) (S_of (tree.Return absent) (head id ty by)) _ good (λ c. c) (λ a. refl)
        (λ o c a ar own to d nv. by_rule.owned g L K about Q x.loops (head id ty by) own _ 0 (more x.loops _ (0 + 0) 0 (nodes.no_more g L K about Q 0)
        (and_then x.loops (lower.put_unit F (head id ty by) a.answer) _ 0 0 (by_rule.unit_put g L K about Q Free x.loops (head id ty by) a.answer (ar.answer (standing.unit_no g L K about Q x.answer h.0) (standing.unit_made g L K about Q x.answer h.0)))
        (λ e. once.leaves_by g L K about Q x.loops id Returns (λ other l is ref. refl)))))
        (λ o c ref a ar own to. absurd (by_rule.not_both g L K about Q ty ref (standing.never_no g L K about Q ty h.1)))
    known (tree.Return (present value_)) x id at ty by p good h r =
        return_known g L K about Q x value_ id at ty by good h (wanted_child x x.answer value_ h.0 r)
    known other x id at ty by p good h r = absurd (untrue h)

    -- ---- arguments and other operands
    inner_of : (form : Form) (x : Context) (id : ℕ) (ty : TyId) → Holds (typing.row (X x) id ty form) → base.Rise g (nodes_in form) → by_part.InnerIs g L K about Q x form
    inner_of (tree.Borrow unique inner) x id ty h r = child x inner (Used (scopes.borrow_by unique)) (moved_out.fair_borrow g unique) (standing.used_stands g L K about Q x (scopes.borrow_by unique) inner h.0).0 h.0 r
    inner_of _ x id ty h r = tt

    arg_is : (x : Context) (n : Node) (want : TyId) → Holds (typing.typed (X x) (Passed want) n) → base.Rise g (nodes_of n) → Cells (cells g.items true n) → OperandIs ⊥ x (N n) (occ (cells g.items true n))
    arg_is x (tree.node id at ty by form) want h r c =
        let good = forms_of.node_good g x (tree.node id at ty by form) (Passed want) refl h r in
        by_part.arg_form g L K about Q form (types.is_reference g.items want && not (types.is_never g.items ty)) x id at ty by want refl h.0 good (λ p. known form x id at ty by p good h.1 r.1) (inner_of form x id ty h.1 r.1) c

    args_are : (x : Context) (ns : Nodes) (tys : List TyId) → Holds (typing.arguments (X x) tys ns) → base.Rise g (nodes_among ns) → Cells (all_cells g.items ns) → OperandsAre ⊥ x (lower.lower_all F ns) (occ (all_cells g.items ns))
    args_are x no_node [] h r c = by_rule.no_operand g L K about Q ⊥ x
    args_are x no_node (ty ∷ tys) h r c = absurd (untrue h)
    args_are x (a_node first rest) [] h r c = absurd (untrue h)
    args_are x (a_node first rest) (ty ∷ tys) h r c =
        by_part.more_of g L K about Q ⊥ x (N first) (lower.lower_all F rest) (cells g.items true first) (all_cells g.items rest)
        (arg_is x first ty h.0 (base.rise_first g (nodes_of first) (nodes_among rest) r) (base.cells_first g (cells g.items true first) (all_cells g.items rest) c))
        (args_are x rest tys h.1 (base.rise_second g (nodes_of first) (nodes_among rest) r) (base.cells_second g (cells g.items true first) (all_cells g.items rest) c))

    parts_are : (x : Context) (ns : Nodes) (tys : List TyId) → Holds (typing.made_parts (X x) tys ns) → base.Rise g (nodes_among ns) → Cells (all_cells g.items ns) → OperandsAre Free x (lower.lower_all F ns) (occ (all_cells g.items ns))
    parts_are x no_node [] h r c = by_rule.no_operand g L K about Q Free x
    parts_are x no_node (ty ∷ tys) h r c = absurd (untrue h)
    parts_are x (a_node first rest) [] h r c = absurd (untrue h)
    parts_are x (a_node first rest) (ty ∷ tys) h r c =
        let c1 = base.cells_first g (cells g.items true first) (all_cells g.items rest) c in
        by_part.more_of g L K about Q Free x (N first) (lower.lower_all F rest) (cells g.items true first) (all_cells g.items rest)
        (by_rule.operand_is g L K about Q Free x first (N first) (wanted_child x ty first h.0 (base.rise_first g (nodes_of first) (nodes_among rest) r)) c1 (standing.wanted_stands g L K about Q x ty first h.0).valued)
        (parts_are x rest tys h.1 (base.rise_second g (nodes_of first) (nodes_among rest) r) (base.cells_second g (cells g.items true first) (all_cells g.items rest) c))

    elements_are : (x : Context) (ns : Nodes) (ty : TyId) → Holds (typing.elements_of (X x) ty ns) → base.Rise g (nodes_among ns) → Cells (all_cells g.items ns) → OperandsAre Free x (lower.lower_all F ns) (occ (all_cells g.items ns))
    elements_are x no_node ty h r c = by_rule.no_operand g L K about Q Free x
    elements_are x (a_node first rest) ty h r c =
        let c1 = base.cells_first g (cells g.items true first) (all_cells g.items rest) c in
        by_part.more_of g L K about Q Free x (N first) (lower.lower_all F rest) (cells g.items true first) (all_cells g.items rest)
        (by_rule.operand_is g L K about Q Free x first (N first) (wanted_child x ty first h.0 (base.rise_first g (nodes_of first) (nodes_among rest) r)) c1 (standing.wanted_stands g L K about Q x ty first h.0).valued)
        (elements_are x rest ty h.1 (base.rise_second g (nodes_of first) (nodes_among rest) r) (base.cells_second g (cells g.items true first) (all_cells g.items rest) c))

    captures_are : (x : Context) (ns : Nodes) (tys : List TyId) → Holds (typing.captured (X x) tys ns) → base.Rise g (nodes_among ns) → Cells (all_cells g.items ns) → OperandsAre Free x (lower.lower_all F ns) (occ (all_cells g.items ns))
    captures_are x no_node [] h r c = by_rule.no_operand g L K about Q Free x
    captures_are x no_node (ty ∷ tys) h r c = absurd (untrue h)
    captures_are x (a_node first rest) [] h r c = absurd (untrue h)
    captures_are x (a_node first rest) (ty ∷ tys) h r c =
        let c1 = base.cells_first g (cells g.items true first) (all_cells g.items rest) c in
        by_part.more_of g L K about Q Free x (N first) (lower.lower_all F rest) (cells g.items true first) (all_cells g.items rest)
        (by_rule.operand_is g L K about Q Free x first (N first) (taken_child x first h.0 (base.rise_first g (nodes_of first) (nodes_among rest) r)) c1 (standing.taken_stands g L K about Q x first h.0).valued)
        (captures_are x rest tys h.1.1 (base.rise_second g (nodes_of first) (nodes_among rest) r) (base.cells_second g (cells g.items true first) (all_cells g.items rest) c))

    fields_are : (x : Context) (fs : Fields) (tys : List TyId) → Holds (typing.made_fields (X x) tys fs) → base.Rise g (nodes_of_fields fs) → Cells (cells_of_fields g.items fs) → OperandsAre Free x (lower.lower_fields F fs) (occ (cells_of_fields g.items fs))
    fields_are x no_field tys h r c = by_rule.no_operand g L K about Q Free x
    fields_are x (a_field number value_ rest) tys h r c =
        let want = found (slice_get tys number) _ h.0 in
        let c1 = base.cells_first g (cells g.items true value_) (cells_of_fields g.items rest) c in
        by_part.more_of g L K about Q Free x (N value_) (lower.lower_fields F rest) (cells g.items true value_) (cells_of_fields g.items rest)
        (by_rule.operand_is g L K about Q Free x value_ (N value_) (wanted_child x want.0 value_ want.2 (base.rise_first g (nodes_of value_) (nodes_of_fields rest) r)) c1 (standing.wanted_stands g L K about Q x want.0 value_ want.2).valued)
        (fields_are x rest tys h.1 (base.rise_second g (nodes_of value_) (nodes_of_fields rest) r) (base.cells_second g (cells g.items true value_) (cells_of_fields g.items rest) c))

    field_keys_away : (x : Context) (fs : Fields) (tys : List TyId) → Holds (typing.made_fields (X x) tys fs) → base.Rise g (nodes_of_fields fs) → (by_rule.AnyKey g L K about Q (lower.lower_fields F fs) → ⊥) → by_part.FieldsAway g L K about Q (field_keys fs)
    field_keys_away x no_field tys h r f = tt
    field_keys_away x (a_field number value_ rest) tys h r f =
        let want = found (slice_get tys number) _ h.0 in
        let good = forms_of.node_good g x value_ (Wanted want.0) refl want.2 (base.rise_first g (nodes_of value_) (nodes_of_fields rest) r) in
        (λ k. f (inl (good.id_is ∙ k)), field_keys_away x rest tys h.1 (base.rise_second g (nodes_of value_) (nodes_of_fields rest) r) (λ k. f (inr k)))

    -- ---- blocks
    tail_is : (y : Context) (stmts : Nodes) (tail : MaybeNode) → Holds (typing.tail_of (X y) tail) → base.Rise g (nodes_if_any tail) → Cells (cells_if_any g.items false tail) → (id : ℕ) (ty : TyId) (by : Option Use) → typing.is_block_ty g.items ty stmts tail ≡ true → (a : LoopsAndGuards) → Around y a → (to : Destination) → Dest to ty →
        Once Free y.loops (lower.tail_of F (head id ty by) (lower.lower_if_any F tail) a to) (occ (cells_if_any g.items false tail))
    tail_is y stmts absent h r c id ty by is a ar to d = by_part.tail_put g L K about Q y id ty by stmts to is d
    tail_is y stmts (present n) h r c id ty by is a ar to d =
        nodes.alone g L K about Q y n (N n) (taken_child y n h r) false c (standing.taken_stands g L K about Q y n h).valued a ar to (by_rule.dest_fits g L K about Q to ty (ty_of n) (inl (sym (same_id ty (ty_of n) is))) d)

    tail_ended : (y : Context) (stmts : Nodes) (tail : MaybeNode) → Holds (typing.tail_of (X y) tail) → base.Rise g (nodes_if_any tail) → Cells (cells_if_any g.items false tail) → (id : ℕ) (ty : TyId) (by : Option Use) → typing.is_block_ty g.items ty stmts tail ≡ true → IsRef ty → (a : LoopsAndGuards) → Around y a → (to : Destination) →
        (lower.tail_of F (head id ty by) (lower.lower_if_any F tail) a to).has_end ≡ false
    tail_ended y stmts absent h r c id ty by is ref a ar to = absurd (by_rule.not_both g L K about Q ty ref (by_part.no_tail g L K about Q ty stmts is))
    tail_ended y stmts (present n) h r c id ty by is ref a ar to = (taken_child y n h r).known.ended false c (standing.taken_stands g L K about Q y n h).valued (subst IsRef (same_id ty (ty_of n) is) ref) a ar true to

    stmts_are : (x : Context) (ns : Nodes) (tail : MaybeNode) → Holds (typing.statements (X x) ns (λ d. typing.tail_of d tail)) → base.Rise g (nodes_among ns) → Cells (all_cells g.items ns) → (a : LoopsAndGuards) → Around x a →
        Once Free x.loops (lower.statements F a (lower.lower_all F ns)) (occ (all_cells g.items ns)) × ((lower.statements F a (lower.lower_all F ns)).has_end ≡ true → (y : Context) × Holds (typing.tail_of (X y) tail) × (y.loops ≡ x.loops) × Around y a)
    stmts_are x no_node tail h r c a ar = (once.nothing_done g L K about Q Free x.loops, λ e. (x, h, refl, ar))
    stmts_are x (a_node (tree.node id at ty by form) rest) tail h r c a ar =
        let n = tree.node id at ty by form in
        let one = stmt_is form x id at ty by h.1.0 (base.rise_first g (nodes_of n) (nodes_among rest) r) (base.cells_first g (cells g.items true n) (all_cells g.items rest) c) a ar false (Into (N n).head.id) in
        let others = λ (e : ((N n).evaluates a false (Into (N n).head.id)).has_end ≡ true). stmts_are (with_entries (typing.entries_in form) x) rest tail h.1.1 (base.rise_second g (nodes_of n) (nodes_among rest) r) (base.cells_second g (cells g.items true n) (all_cells g.items rest) c) a (by_rule.around_more g L K about Q x a (typing.entries_in form) (one.1 e) ar) in (
          more x.loops _ (occ (cells g.items true n) + occ (all_cells g.items rest)) _ (standing.two_under g L K about Q (cells g.items true n) (all_cells g.items rest))
              (and_then x.loops ((N n).evaluates a false (Into (N n).head.id)) (lower.statements F a (lower.lower_all F rest)) (occ (cells g.items true n)) (occ (all_cells g.items rest)) one.0 (λ e. (others e).0)),
          λ e. (others (and_first ((N n).evaluates a false (Into (N n).head.id)).has_end _ e)).1 (and_second ((N n).evaluates a false (Into (N n).head.id)).has_end _ e),
        )

    stmt_is : (form : Form) (x : Context) (id : ℕ) (at : Pos) (ty : TyId) (by : Option Use) → Holds (typing.statement (X x) form) → base.Rise g (nodes_of (tree.node id at ty by form)) → Cells (cells g.items true (tree.node id at ty by form)) → (a : LoopsAndGuards) → Around x a → (own : Bool) (to : Destination) →
        Once Free x.loops ((N (tree.node id at ty by form)).evaluates a own to) (occ (cells g.items true (tree.node id at ty by form))) × (((N (tree.node id at ty by form)).evaluates a own to).has_end ≡ true → Others (typing.entries_in form))
    stmt_is (tree.Evaluate expression) x id at ty by h r c a ar own to =
        let k = taken_child x expression h r.1 in
        let ce = base.cells_second g _ (cells g.items true expression) c in (
          more x.loops _ (occ (cells g.items true expression)) _ (by_rule.inner_under g L K about Q true (tree.node id at ty by (tree.Evaluate expression)) _ (nodes.same_under g L K about Q _))
              (once.scoped g L K about Q Free x.loops id true _ _ (by_rule.pended g L K about Q x.loops true innermost (N expression).head _ (occ (cells g.items true expression)) (by_rule.inner g L K about Q) (by_rule.entry_ok g L K about Q x expression (N expression) k ce)
              (k.known.evaluates true ce (standing.taken_stands g L K about Q x expression h).valued a ar false (Into (N expression).head.id) (by_rule.dest_own g L K about Q x expression (N expression) k ce)))),
          λ e. tt,
        )
    stmt_is (tree.Let p absent) x id at ty by h r c a ar own to =
        let cp = base.cells_first g (cells g.items true p) [] (base.cells_second g _ (cells_in g.items (tree.Let p absent)) c) in
        let it = pattern_rules.pattern_is g L K about Q about.truth p typing.whole (ty_of p) (not_true g L K about Q (types.is_reference g.items (ty_of p)) h.1.1.1) h.1.0 cp in
        let keys = by_part.matched_keys g L K about Q ((shape g.items p).bindings (whole_local 0)) (entries_of p) (names.named g p typing.whole (ty_of p) h.1.0 (whole_local 0)) it.entries in (
          more x.loops _ 0 _ (nodes.zero_under g L K about Q _) (subst (λ (s : Shape). Once Free x.loops (lower.declared F (s.bindings (whole_local 0))) 0) (sym (standing.shape_same g L K about Q p)) (by_rule.declares g L K about Q x.loops ((shape g.items p).bindings (whole_local 0)) keys)),
          λ e. it.entries,
        )
    stmt_is (tree.Let (tree.node idp atp typ byp (tree.Binding name)) (present v)) x id at ty by h r c a ar own to =
        let p = tree.node idp atp typ byp (tree.Binding name) in
        let k = wanted_child x typ v h.0 (base.rise_second g (nodes_of p) (nodes_of v) r.1) in
        let cs = base.cells_second g _ (cells_in g.items (tree.Let p (present v))) c in
        let cv = base.cells_second g (cells g.items true p) (cells g.items false v) cs in
        let key : base.KeyIs g idp typ = (names.keyed g p typing.whole typ h.1.1.0 (base.cells_first g (cells g.items true p) (cells g.items false v) cs)).0 in
        let valued = (standing.wanted_stands g L K about Q x typ v h.0).valued in
        let fit = standing.wanted_fits g L K about Q x typ v h.0 in
        let v_no = not_true g L K about Q (types.is_reference g.items (ty_of v)) (and_second (types.fits g.items typ (ty_of v)) _ h.1.1.1.0) in
        let entry = by_rule.entered g L K about Q (record { key = idp; ty = typ }) (λ d. key) in
        let dest = by_rule.dest_fits g L K about Q (Into idp) typ (ty_of v) (base.fits g typ (ty_of v) fit) (λ n m. by_rule.keyed_away g L K about Q idp typ key n) in (
          more x.loops _ (occ (cells g.items false v)) _ (by_rule.inner_under g L K about Q true (tree.node id at ty by (tree.Let p (present v))) _ (by_rule.occ_rest g L K about Q (cells g.items true p) (cells g.items false v) _ (nodes.same_under g L K about Q _)))
              (once.scoped g L K about Q Free x.loops id true _ _ (once.changed g L K about Q Free x.loops (lower.pending_if F true innermost (head idp typ byp)) _ _ (by_rule.pending g L K about Q true innermost (head idp typ byp) (by_rule.inner g L K about Q) (λ e. entry))
              (more x.loops _ (occ (cells g.items false v) + 0) _ (nodes.no_more g L K about Q _) (and_then x.loops ((N v).evaluates a false (Into idp)) _ (occ (cells g.items false v)) 0 (k.known.evaluates false cv valued a ar false (Into idp) dest)
              (λ e. once.changes g L K about Q Free x.loops (lower.named F (head idp typ byp)) (by_rule.naming g L K about Q (head idp typ byp) entry)))))),
          λ e.
              let ends = and_first ((N v).evaluates a false (Into idp)).has_end true (and_first (((N v).evaluates a false (Into idp)).has_end && true) true e) in
              (λ same. by_part.binding_out g L K about Q idp typ v key v_no fit (λ never. untrue (sym (k.good.ended false cv (subst (base.Never g) (sym k.good.ty_is) never) a false (Into idp)) ∙ ends)) same, tt),
        )
    stmt_is (tree.Let (tree.node idp atp typ byp other) (present v)) x id at ty by h r c a ar own to =
        let p = tree.node idp atp typ byp other in
        let cs = base.cells_second g _ (cells_in g.items (tree.Let p (present v))) c in
        let it = by_part.parts_let g L K about Q x p v (head id ty by) (child x v Base refl (standing.base_plain g L K about Q x v h.0) h.0 (base.rise_second g (nodes_of p) (nodes_of v) r.1)) (typing.matched_in true (X x) v) h.1.1.0 (and_first _ _ h.1.1.1.0) (not_true g L K about Q (types.is_reference g.items (ty_of v)) (and_second (types.fits g.items (ty_of p) (ty_of v)) _ h.1.1.1.0)) h.1.1.1.1.0 (base.cells_first g (cells g.items true p) (reached_cells g.items v) cs) (base.cells_second g (cells g.items true p) (reached_cells g.items v) cs) a ar in
        (more x.loops _ _ _ (by_rule.inner_under g L K about Q true (tree.node id at ty by (tree.Let p (present v))) _ (by_rule.occ_rest g L K about Q (cells g.items true p) (reached_cells g.items v) _ (nodes.same_under g L K about Q _))) it.0, it.1)
    stmt_is other x id at ty by h r c a ar own to = absurd (untrue h)

    -- ---- arms
    arms_are : (x : Context) (m : Matched) (scr want : TyId) (ns : Nodes) → NotRef scr → Holds (typing.arms_of (X x) m scr ns) → base.Rise g (nodes_among ns) → Cells (all_cells g.items ns) → list_all (types.fits g.items want) (typing.types_in ns) ≡ true → (node : ℕ) (matched : Place) → by_rule.FreePlace g L K about Q matched → (a : LoopsAndGuards) → Around x a → (to : Destination) → Dest to want →
        (n : ℕ) × (n ≤ occ (all_cells g.items ns)) × on.ArmsOnce g L K about Q x.loops node matched a to (lower.lower_all F ns) n
    arms_are x m scr want no_node nr h r c fit node matched f a ar to d = (0, nodes.zero_under g L K about Q 0, on.no_arm)
    arms_are x m scr want (a_node (tree.node id at ty by form) rest) nr h r c fit node matched f a ar to d =
        let n = tree.node id at ty by form in
        let fit1 = and_first (types.fits g.items want ty) _ fit in
        let one = arm_is form x m scr id at ty by nr h.0 (base.rise_first g (nodes_of n) (nodes_among rest) r).1 (base.cells_second g _ (cells_in g.items form) (base.cells_first g (cells g.items true n) (all_cells g.items rest) c)) matched f a ar to (by_rule.dest_fits g L K about Q to want ty (base.fits g want ty fit1) d) in
        let others = arms_are x m scr want rest nr h.1 (base.rise_second g (nodes_of n) (nodes_among rest) r) (base.cells_second g (cells g.items true n) (all_cells g.items rest) c) (and_second (types.fits g.items want ty) _ fit) node matched f a ar to d in
        let under = by_rule.inner_under g L K about Q true n (occ (cells_in g.items form)) (nodes.same_under g L K about Q _) in
        (occ (cells_in g.items form) + others.0, by_part.arms_under g L K about Q (cells g.items true n) (all_cells g.items rest) (occ (cells_in g.items form)) others.0 under others.1, on.an_arm (N n) (lower.lower_all F rest) (occ (cells_in g.items form)) others.0 one others.2)

    arms_ended : (x : Context) (m : Matched) (scr want : TyId) (ns : Nodes) → NotRef scr → Holds (typing.arms_of (X x) m scr ns) → base.Rise g (nodes_among ns) → Cells (all_cells g.items ns) → list_all (types.fits g.items want) (typing.types_in ns) ≡ true → IsRef want → (matched : Place) (a : LoopsAndGuards) → Around x a → (to : Destination) →
        lower.arms_end F (lower.lower_all F ns) matched a to ≡ false
    arms_ended x m scr want no_node nr h r c fit ref matched a ar to = refl
    arms_ended x m scr want (a_node (tree.node id at ty by form) rest) nr h r c fit ref matched a ar to =
        let n = tree.node id at ty by form in
        both_false _ _ (arm_ended form x m scr id at ty by nr h.0 (base.rise_first g (nodes_of n) (nodes_among rest) r).1 (base.cells_second g _ (cells_in g.items form) (base.cells_first g (cells g.items true n) (all_cells g.items rest) c)) want (and_first (types.fits g.items want ty) _ fit) ref matched a ar to)
        (arms_ended x m scr want rest nr h.1 (base.rise_second g (nodes_of n) (nodes_among rest) r) (base.cells_second g (cells g.items true n) (all_cells g.items rest) c) (and_second (types.fits g.items want ty) _ fit) ref matched a ar to)

    arm_is : (form : Form) (x : Context) (m : Matched) (scr : TyId) (id : ℕ) (at : Pos) (ty : TyId) (by : Option Use) → NotRef scr → Holds (typing.arm (X x) m scr (tree.node id at ty by form)) → base.Rise g (nodes_in form) → Cells (cells_in g.items form) → (matched : Place) → by_rule.FreePlace g L K about Q matched → (a : LoopsAndGuards) → Around x a → (to : Destination) → Dest to ty →
        on.ArmOnce g L K about Q x.loops ((N (tree.node id at ty by form)).arm matched a to) (occ (cells_in g.items form))
    arm_is (tree.Arm p guard inner) x m scr id at ty by nr h r c matched f a ar to d =
        let y = with_entries (entries_of p) x in
        let z = with_entries (scopes.in_guard (entries_of p)) x in
        let r1 = base.rise_first g (nodes_of p ++ nodes_if_any guard) (nodes_of inner) r in
        let c1 = base.cells_first g (cells g.items true p ++ cells_if_any g.items true guard) (cells g.items false inner) c in
        let cp = base.cells_first g (cells g.items true p) (cells_if_any g.items true guard) c1 in
        let cg = base.cells_second g (cells g.items true p) (cells_if_any g.items true guard) c1 in
        let ci = base.cells_second g (cells g.items true p ++ cells_if_any g.items true guard) (cells g.items false inner) c in
        let k = taken_child y inner h.1.1.1.1.0 (base.rise_second g (nodes_of p ++ nodes_if_any guard) (nodes_of inner) r) in
        let it = pattern_rules.pattern_is g L K about Q about.truth p m scr nr h.1.1.0 cp in
        let s = standing.shaped g L K about Q about.truth p m scr nr h.1.1.0 cp matched f in
        on.more_arm g L K about Q x.loops _ (occ (cells_if_any g.items true guard) + occ (cells g.items false inner)) _ (by_part.arm_under g L K about Q (cells g.items true p) (cells_if_any g.items true guard) (cells g.items false inner))
        (nodes.armed g L K about Q x.loops (head id ty by) (N p) (lower.lower_if_any F guard) (N inner) matched a to (occ (cells_if_any g.items true guard)) (occ (cells g.items false inner)) s.0 s.1
        (guard_is z guard h.1.1.1.0 (base.rise_second g (nodes_of p) (nodes_if_any guard) r1) cg (in_guard ((N p).shape.bindings matched) a) (by_rule.around_guard g L K about Q x a (entries_of p) ((N p).shape.bindings matched) it.entries s.1 ar))
        (nodes.alone g L K about Q y inner (N inner) k false ci (standing.taken_stands g L K about Q y inner h.1.1.1.1.0).valued a (by_rule.around_more g L K about Q x a (entries_of p) it.entries ar) to (by_rule.dest_fits g L K about Q to ty (ty_of inner) (inl (sym (same_id ty (ty_of inner) h.1.1.1.1.1))) d)))
    arm_is other x m scr id at ty by nr h r c matched f a ar to d = absurd (untrue h)

    arm_ended : (form : Form) (x : Context) (m : Matched) (scr : TyId) (id : ℕ) (at : Pos) (ty : TyId) (by : Option Use) → NotRef scr → Holds (typing.arm (X x) m scr (tree.node id at ty by form)) → base.Rise g (nodes_in form) → Cells (cells_in g.items form) → (want : TyId) → types.fits g.items want ty ≡ true → IsRef want → (matched : Place) (a : LoopsAndGuards) → Around x a → (to : Destination) →
        ((N (tree.node id at ty by form)).arm matched a to).has_end ≡ false
    arm_ended (tree.Arm p guard inner) x m scr id at ty by nr h r c want fit ref matched a ar to =
        let y = with_entries (entries_of p) x in
        let c1 = base.cells_first g (cells g.items true p ++ cells_if_any g.items true guard) (cells g.items false inner) c in
        let cp = base.cells_first g (cells g.items true p) (cells_if_any g.items true guard) c1 in
        let ci = base.cells_second g (cells g.items true p ++ cells_if_any g.items true guard) (cells g.items false inner) c in
        let k = taken_child y inner h.1.1.1.1.0 (base.rise_second g (nodes_of p ++ nodes_if_any guard) (nodes_of inner) r) in
        let it = pattern_rules.pattern_is g L K about Q about.truth p m scr nr h.1.1.0 cp in
        forms_of_branches.arm_ended g (head id ty by) (N p) (lower.lower_if_any F guard) (N inner) matched a to
        (by_part.no_end_of g L K about Q y inner k false ci (standing.taken_stands g L K about Q y inner h.1.1.1.1.0).valued want (subst (λ (z : TyId). types.fits g.items want z ≡ true) (same_id ty (ty_of inner) h.1.1.1.1.1) fit) ref a (by_rule.around_more g L K about Q x a (entries_of p) it.entries ar) true to)
    arm_ended other x m scr id at ty by nr h r c want fit ref matched a ar to = absurd (untrue h)

    guard_is : (z : Context) (guard : MaybeNode) → Holds (typing.guarded (X z) guard) → base.Rise g (nodes_if_any guard) → Cells (cells_if_any g.items true guard) → (a : LoopsAndGuards) → Around z a → nodes.GuardIs g L K about Q z.loops a (lower.lower_if_any F guard) (occ (cells_if_any g.items true guard))
    guard_is z absent h r c a ar = nodes.without
    guard_is z (present n) h r c a ar =
        let k = taken_child z n h.0 r in
        let v = (standing.taken_stands g L K about Q z n h.0).valued in
        nodes.with_one (N n) (occ (cells g.items true n)) (nodes.alone g L K about Q z n (N n) k true c v a ar (Into (N n).head.id) (by_rule.dest_own g L K about Q z n (N n) k c)) (λ e same. by_rule.out g L K about Q z n (N n) k c v a ar true (Into (N n).head.id) e same)
