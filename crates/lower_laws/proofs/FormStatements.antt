-- Blocks, statements, patterns, and a `let` that takes a place apart.
use Rattle.std.proofs.Common.{◌≡◌, inl, inr, ℕ, ◌&&◌, ◌||◌, not, Bool, true, false, List, ◌++◌, Option, if◌then◌else◌, refl, sym, ap, subst, ◌∙◌}
use Rattle.std.specs.Prelude.{is_none}
use Rattle.mir_base.specs.declared.place_in_text.Pos.{Pos}
use Rattle.mir_ty.specs.declared.ty.TyId.{TyId}
use Rattle.store_model.specs.Effects as effects
use Rattle.store_model.specs.Places.Place.{Place}
use Rattle.typed_tree.specs.declared.node.Use.{Use}
use Rattle.typed_tree.specs.Nodes.{nodes_of, nodes_among, nodes_if_any}
use Rattle.typed_tree.specs.Tree as tree
use Rattle.typed_tree.specs.Tree.{Node, Form, Nodes, no_node, a_node, MaybeNode, absent, present}
use Rattle.src_meaning.specs.Forms as source
use Rattle.src_meaning.specs.Forms.{Destination, LoopsAndGuards}
use Rattle.src_meaning.specs.Locals.OfBody.{cells, reached_cells, cells_in, all_cells, initial_cells, is_place_form}
use Rattle.src_meaning.specs.Scopes.{Entry, innermost, around_innermost}
use Rattle.src_meaning.specs.Shape.{NodeHead, head, Shape, shape}
use Rattle.well_typed.specs.Claim.{Claim, Holds}
use Rattle.well_typed.specs.Nodes as typing
use Rattle.well_typed.specs.Patterns as patterns
use Rattle.well_typed.specs.Patterns.{Matched}
use Rattle.well_typed.specs.Places as scopes
use Rattle.well_typed.specs.Places.{Context, Base, with_entries, ty_of, form_of}
use Rattle.well_typed.specs.Types as types
use Rattle.lower_rules.specs.Build as build
use Rattle.lower_rules.specs.Build.{LoweringFrame, Lowers, then_lower}
use Rattle.lower_rules.specs.Lower as lower
use Rattle.lower_rules.specs.Lower.{NodeLower}
use Rattle.lower_rules.proofs.Lines as lines
use Rattle.lower_laws.proofs.Base as base
use Rattle.lower_laws.proofs.Base.{Ground, untrue, and_first, and_second, same_id}
use Rattle.lower_laws.proofs.Rules as rules
use Rattle.lower_laws.proofs.Branches as branches
use Rattle.lower_laws.proofs.Patterns as pattern_lines
use Rattle.lower_laws.proofs.Names as names
use Rattle.lower_laws.proofs.FormTypes.{unit_made, never_too, made_not}
use Rattle.lower_laws.proofs.FormValues.{fine_in}

module _ (g : Ground) where
  abbrev F : LoweringFrame
  F = base.F g

  abbrev K : Context → Context
  K x = record x { items = g.items }

  abbrev L : Node → NodeLower
  L n = lower.lower F n

  abbrev Cells : List Entry → Type 0
  Cells = base.CellsOk g

  abbrev Good : Context → Node → NodeLower → Type 0
  Good = rules.Good g

  abbrev Sound : Lowers → Type 0
  Sound = base.Sound g

  -- ---- blocks
  abbrev TailSame : TyId → MaybeNode → Bool
  TailSame ty absent = false
  TailSame ty (present tail) = types.is_same ty (ty_of tail)

  abbrev TailType : TyId → MaybeNode → Type 0
  TailType ty absent = base.Made g ty → types.is_unit g.items ty ≡ true
  TailType ty (present tail) = types.is_same ty (ty_of tail) ≡ true

  pub block_ended : (ty : TyId) (stmts : Nodes) (tail : MaybeNode) → typing.is_block_ty g.items ty stmts tail ≡ true → base.Never g ty → (P Q : Lowers) → (typing.ends_in g.items stmts ≡ true → P.has_end ≡ false) → (TailSame ty tail ≡ true → Q.has_end ≡ false) → (then_lower P Q).has_end ≡ false
  block_ended ty stmts absent e v P Q p q = by_end (typing.ends_in g.items stmts) refl e
    where
      by_end : (b : Bool) → typing.ends_in g.items stmts ≡ b → (if b then types.is_never g.items ty else types.is_unit g.items ty) ≡ true → (then_lower P Q).has_end ≡ false
      by_end true d h = rules.no_end_first g P Q (p d)
      by_end false d h = absurd (base.never_and_made g ty v (unit_made g ty h))
  block_ended ty stmts (present tail) e v P Q p q = rules.no_end_second g P Q (q e)

  pub block_type : (ty : TyId) (stmts : Nodes) (tail : MaybeNode) → typing.is_block_ty g.items ty stmts tail ≡ true → TailType ty tail
  block_type ty stmts absent e = λ made. by_end made (typing.ends_in g.items stmts) e
    where
      by_end : base.Made g ty → (b : Bool) → (if b then types.is_never g.items ty else types.is_unit g.items ty) ≡ true → types.is_unit g.items ty ≡ true
      by_end made true h = absurd (made_not g ty made h)
      by_end made false h = h
  block_type ty stmts (present tail) e = e

  -- what a block's tail does
  pub record TailGood (y : Context) (tail : MaybeNode) (id : ℕ) (ty : TyId) (by : Option Use) : Type 0 where
    pub ended : TailSame ty tail ≡ true → base.Never g ty → (a : LoopsAndGuards) (to : Destination) → (lower.tail_of F (head id ty by) (lower.lower_if_any F tail) a to).has_end ≡ false
    pub leaves : (a : LoopsAndGuards) (to : Destination) → base.Leaves g y.loops (lower.tail_of F (head id ty by) (lower.lower_if_any F tail) a to)
    pub sound : (a : LoopsAndGuards) → base.Fine g y a (nodes_if_any tail) → (to : Destination) → TailType ty tail → rules.Arrives g (head id ty by) to → Sound (lower.tail_of F (head id ty by) (lower.lower_if_any F tail) a to)

  pub no_tail : (y : Context) (id : ℕ) (ty : TyId) (by : Option Use) → TailGood y absent id ty by
  no_tail y id ty by = record {
    ended = λ s v a to. absurd (untrue s);
    leaves = λ a to. puts (source.is_never g.items ty) to;
    sound = λ a f to so ar. put (source.is_never g.items ty) refl to so ar;
  }
    where
      puts : (b : Bool) (to : Destination) → base.Leaves g y.loops (lower.put_unit_if F b (head id ty by) to)
      puts true to = record { spares = tt }
      puts false to = rules.leaves_deliver g y.loops id (head id ty by) (λ site. effects.Put site effects.UnitValue) to

      put : (b : Bool) → source.is_never g.items ty ≡ b → (to : Destination) → TailType ty absent → rules.Arrives g (head id ty by) to → Sound (lower.put_unit_if F b (head id ty by) to)
      put true e to so ar = base.nothing_done g
      put false e to so ar = rules.unit_put g (head id ty by) to ar (so e)

  -- ---- statements
  pub record StmtGood (x : Context) (n : Node) : Type 0 where
    pub ended : typing.ends_by g.items (form_of n) ≡ true → (a : LoopsAndGuards) (own : Bool) (to : Destination) → ((L n).evaluates a own to).has_end ≡ false
    pub leaves : (a : LoopsAndGuards) (own : Bool) (to : Destination) → base.Leaves g x.loops ((L n).evaluates a own to)
    pub sound : (a : LoopsAndGuards) → base.Fine g x a (nodes_of n) → (own : Bool) (to : Destination) → Sound ((L n).evaluates a own to)

  pub record StmtsGood (x : Context) (ns : Nodes) : Type 0 where
    pub ended : typing.ends_in g.items ns ≡ true → (a : LoopsAndGuards) → (lower.statements F a (lower.lower_all F ns)).has_end ≡ false
    pub leaves : (a : LoopsAndGuards) → base.Leaves g x.loops (lower.statements F a (lower.lower_all F ns))
    pub sound : (a : LoopsAndGuards) → base.Fine g x a (nodes_among ns) → Sound (lower.statements F a (lower.lower_all F ns))

  pub statement_keyed : (x : Context) (form : Form) (id : ℕ) (at : Pos) (ty : TyId) (by : Option Use) → Holds (typing.statement (K x) form) → Cells (cells g.items true (tree.node id at ty by form)) → names.Keyed g (typing.entries_in form)
  statement_keyed x (tree.Let p absent) id at ty by h c = names.keyed g p typing.whole (ty_of p) h.1.0 (base.cells_first g (cells g.items true p) (initial_cells g.items p absent) (base.cells_second g _ (cells_in g.items (tree.Let p absent)) c))
  statement_keyed x (tree.Let p (present v)) id at ty by h c = names.keyed g p _ (ty_of p) h.1.1.0 (base.cells_first g (cells g.items true p) (initial_cells g.items p (present v)) (base.cells_second g _ (cells_in g.items (tree.Let p (present v))) c))
  statement_keyed x (tree.Evaluate expression) id at ty by h c = tt
  statement_keyed x other id at ty by h c = absurd (untrue h)

  pub fine_statement : (x : Context) (form : Form) (a : LoopsAndGuards) (id : ℕ) (at : Pos) (ty : TyId) (by : Option Use) → names.Keyed g (typing.entries_in form) → (later : List Node) → base.Fine g x a (nodes_of (tree.node id at ty by form)) → base.Fine g x a later → base.Fine g (with_entries (typing.entries_in form) x) a later
  fine_statement x (tree.Let p v) a id at ty by keyed later f k = names.fine_more g x a p later (base.fine_first g x a (nodes_of p) (nodes_if_any v) (fine_in g x a (tree.node id at ty by (tree.Let p v)) (nodes_of p ++ nodes_if_any v) f)) k keyed
  fine_statement x other a id at ty by keyed later f k = k

  -- what stands behind statements, in the context that they leave
  pub behind_context : (x : Context) (ns : Nodes) (behind : Context → Claim) → Holds (typing.statements (K x) ns behind) → Cells (all_cells g.items ns) →
      (y : Context) × Holds (behind (K y)) × (y.loops ≡ x.loops) × ((a : LoopsAndGuards) (later : List Node) → base.Fine g x a (nodes_among ns) → base.Fine g x a later → base.Fine g y a later)
  behind_context x no_node behind h c = (x, h, refl, λ a later f k. k)
  behind_context x (a_node (tree.node id at ty by form) rest) behind h c =
      let y = with_entries (typing.entries_in form) x in
      let n = tree.node id at ty by form in
      let keyed = statement_keyed x form id at ty by h.1.0 (base.cells_first g (cells g.items true n) (all_cells g.items rest) c) in
      let it = behind_context y rest behind h.1.1 (base.cells_second g (cells g.items true n) (all_cells g.items rest) c) in (
        it.0,
        it.1,
        it.2,
        λ a later f k. it.3 a later (fine_statement x form a id at ty by keyed (nodes_among rest) (base.fine_first g x a (nodes_of n) (nodes_among rest) f) (base.fine_second g x a (nodes_of n) (nodes_among rest) f)) (fine_statement x form a id at ty by keyed later (base.fine_first g x a (nodes_of n) (nodes_among rest) f) k),
      )

  -- ---- patterns as they are lowered
  pub shape_same : (n : Node) → (L n).shape ≡ shape g.items n
  shape_same (tree.node id at ty by (tree.Number value)) = refl
  shape_same (tree.node id at ty by other) = refl

  pub shaped_for : (p : Node) (m : Matched) (want : TyId) → Holds (patterns.pattern g.items m want p) → Cells (cells g.items true p) → (place : Place) → base.Typed g place want → (m.may_move ≡ true → base.Left g place) → lines.TestsOk F (base.wanted g) ((L p).shape.tests place) × rules.BoundsOk g ((L p).shape.bindings place)
  shaped_for p m want h c place t free = subst (λ (s : Shape). lines.TestsOk F (base.wanted g) (s.tests place) × rules.BoundsOk g (s.bindings place)) (sym (shape_same p)) (pattern_lines.pattern_ok g p m want h c place t free)

  pub shaped_at : (x : Context) (p n : Node) → Good x n (L n) → (m : Matched) → Holds (patterns.pattern g.items m (ty_of n) p) → Cells (cells g.items true p) → (place : Place) → base.Typed g place (L n).head.ty → (m.may_move ≡ true → base.Left g place) →
      lines.TestsOk F (base.wanted g) ((L p).shape.tests place) × rules.BoundsOk g ((L p).shape.bindings place)
  shaped_at x p n k m h c place t free = shaped_for p m (ty_of n) h c place (subst (base.Typed g place) k.ty_is t) free

  -- a `let` whose pattern takes a place apart
  base_unused : (x : Context) (v : Node) → Holds (typing.typed (K x) Base v) → typing.is_unused_place v ≡ scopes.is_place (form_of v)
  base_unused x (tree.node id at ty by form) h = ap (λ (b : Bool). scopes.is_place form && b) (and_first (is_none by) _ h.0) ∙ with_true (scopes.is_place form)
    where
      with_true : (b : Bool) → b && true ≡ b
      with_true true = refl
      with_true false = refl

  pub record PartsGood (x : Context) (p v : Node) (h : NodeHead) : Type 0 where
    pub ended : (types.is_never g.items (ty_of v) && not (typing.is_unused_place v)) ≡ true → (a : LoopsAndGuards) → (lower.let_parts F h (L p) (L v) a).has_end ≡ false
    pub leaves : (a : LoopsAndGuards) → base.Leaves g x.loops (lower.let_parts F h (L p) (L v) a)
    pub sound : (a : LoopsAndGuards) → base.Fine g x a (nodes_of v) → Sound (lower.let_parts F h (L p) (L v) a)

  pub parts_let : (x : Context) (p v : Node) (h : NodeHead) → Good x v (L v) → Holds (typing.typed (K x) Base v) → (m : Matched) → (m.may_move ≡ true → scopes.may_move (K x) v ≡ true) → Holds (patterns.pattern g.items m (ty_of p) p) → types.fits g.items (ty_of p) (ty_of v) ≡ true → (not (scopes.is_place (form_of v)) || types.is_same (ty_of v) (ty_of p)) ≡ true →
      Cells (cells g.items true p) → Cells (reached_cells g.items v) → PartsGood x p v h
  parts_let x p v h k stands m may pattern fit same cp cv = record {
    ended = λ e a. rules.no_end_scope g h.id true (build.from_changed (lower.pending_if F (pends (L v)) innermost (L v).head) (then_lower ((L v).reaches a) (binds a)))
        (rules.no_end_first g ((L v).reaches a) (binds a) (k.reach_ended cv (no_place (and_second _ _ e)) (subst (base.Never g) (sym k.ty_is) (never_too g (ty_of v) (and_first _ _ e))) a));
    leaves = λ a. rules.leaves_scope g x.loops h.id true _ (rules.leaves_changed g x.loops (lower.pending_if F (pends (L v)) innermost (L v).head) _ (base.leaves_then g x.loops ((L v).reaches a) (binds a) (k.reach_leaves cv a) (λ e. rules.bind_leaves g x.loops around_innermost ((L p).shape.bindings (lower.place_in (L v) a)))));
    sound = λ a f. branches.let_parts_sound g h (L v) (pends (L v)) ((L v).reaches a) (binds a) (λ b. k.reach_entry cv (of_pending (L v).shape.is_place (L v).shape.in_destination b)) (k.reaches cv a f)
        (λ e. rules.bind_sound g around_innermost (lines.around_ok F (base.wanted g)) ((L p).shape.bindings (lower.place_in (L v) a)) (shaped_for p m (ty_of p) pattern cp (lower.place_in (L v) a) (typed_place a f e) (λ w. k.lets_go (may w) cv a f e)).1);
  }
    where
      pends : NodeLower → Bool
      pends m = not (m.shape.is_place || m.shape.in_destination)

      binds : LoopsAndGuards → Lowers
      binds a = lower.bind F around_innermost ((L p).shape.bindings (lower.place_in (L v) a))

      no_place : not (typing.is_unused_place v) ≡ true → is_place_form (form_of v) ≡ false
      no_place e = sym (base_unused x v stands) ∙ base.not_true (typing.is_unused_place v) e

      of_pending : (p d : Bool) → not (p || d) ≡ true → p ≡ false
      of_pending true d e = absurd (untrue e)
      of_pending false d e = refl

      typed_place : (a : LoopsAndGuards) → base.Fine g x a (nodes_of v) → ((L v).reaches a).has_end ≡ true → base.Typed g (lower.place_in (L v) a) (ty_of p)
      typed_place a f e = by_place (is_place_form (form_of v)) refl same
        where
          here : base.Typed g (lower.place_in (L v) a) (ty_of v)
          here = subst (base.Typed g (lower.place_in (L v) a)) k.ty_is (k.place cv a f e)

          by_place : (b : Bool) → is_place_form (form_of v) ≡ b → (not b || types.is_same (ty_of v) (ty_of p)) ≡ true → base.Typed g (lower.place_in (L v) a) (ty_of p)
          by_place true q s = subst (base.Typed g (lower.place_in (L v) a)) (same_id (ty_of v) (ty_of p) s) here
          by_place false q s = elim (base.fits g (ty_of p) (ty_of v) fit) [
            | inl is ↦ subst (base.Typed g (lower.place_in (L v) a)) is here
            | inr never ↦ absurd (untrue (sym (k.reach_ended cv q (subst (base.Never g) (sym k.ty_is) never) a) ∙ e))
          ]
