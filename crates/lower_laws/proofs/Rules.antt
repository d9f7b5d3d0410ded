-- The rules of the lowering, for nodes that are well typed: one lemma a rule.
use Rattle.std.proofs.Common.{◌≡◌, ◌⊎◌, inl, inr, ℕ, zero, suc, ◌&&◌, not, Bool, true, false, List, [], ◌∷◌, ◌++◌, length, Some, refl, sym, ap, subst, ◌∙◌}
use Rattle.cfg_graph.specs.declared.statement.Stmt.{Stmt}
use Rattle.mir_ty.specs.declared.ty.Ty.{Ty}
use Rattle.mir_ty.specs.declared.ty.TyId.{TyId}
use Rattle.mir_ty.specs.Facts.{needs_drop, drop_rule, in_rounds}
use Rattle.mir_ty.specs.ItemTable.{type_at}
use Rattle.store_model.specs.Effects as effects
use Rattle.store_model.specs.Effects.{EffectSite, Action}
use Rattle.store_model.specs.Places.Place.{Place, whole_local}
use Rattle.store_model.specs.Places.TypeForms as forms
use Rattle.typed_tree.specs.Nodes.{number_of, nodes_of}
use Rattle.typed_tree.specs.Tree as tree
use Rattle.src_meaning.specs.Evaluation.{to_own_key}
use Rattle.src_meaning.specs.Forms as source
use Rattle.src_meaning.specs.Forms.{Destination, Into, Coerced, LoopsAndGuards, in_loop, in_guard, entry_of, bound_entry, site_in, site_of_key, moved}
use Rattle.src_meaning.specs.Locals.OfBody.{cells, reached_cells, is_place_form}
use Rattle.src_meaning.specs.Scopes.{Entry, Scope, Scopes, innermost, nearest_temporary, with_entry, with_pending, becomes_entry}
use Rattle.src_meaning.specs.Shape.{NodeHead, Shape, BoundName, shape, Aliases, site_at, operand_at, operand_of_bound, moves, copied_or_moved}
use Rattle.well_typed.specs.Places as scopes
use Rattle.well_typed.specs.Places.{LoopAround, Context, ty_of, form_of}
use Rattle.well_typed.specs.Types as types
use Rattle.lower_rules.specs.Build as build
use Rattle.lower_rules.specs.Build.{LoweringFrame, BlockRest, Building, Lowers, closed, ending, joined, jumps_if, act, act_by, is_last, done_by, change, from_changed, back_in, then_lower, branches, looped, leave, in_scope, taken, if_true, tests}
use Rattle.lower_rules.specs.Lower as lower
use Rattle.lower_rules.specs.Lower.{Evaluates, Reaches, MakesInto, LowersArm, NodeLower, LowerIfAny, no_lower, a_lower}
use Rattle.lower_rules.proofs.KnownTypes.{never_known, unit_known, bool_known}
use Rattle.lower_rules.proofs.Lines as lines
use Rattle.lower_rules.proofs.TypedLines as typed_lines
use Rattle.lower_laws.proofs.Base as base
use Rattle.lower_laws.proofs.Base.{Ground, untrue, and_first, and_second, and_false, false_and, both_false}

module _ (g : Ground) where
  abbrev F : LoweringFrame
  F = base.F g

  abbrev Sound : Lowers → Type 0
  Sound = base.Sound g

  abbrev Leaves : List LoopAround → Lowers → Type 0
  Leaves = base.Leaves g

  abbrev CellsOk : List Entry → Type 0
  CellsOk = base.CellsOk g

  abbrev KeyIs : ℕ → TyId → Type 0
  KeyIs = base.KeyIs g

  abbrev Never : TyId → Type 0
  Never = base.Never g

  abbrev Made : TyId → Type 0
  Made = base.Made g

  abbrev Fine : Context → LoopsAndGuards → List tree.Node → Type 0
  Fine = base.Fine g

  abbrev Typed : Place → TyId → Type 0
  Typed = base.Typed g

  abbrev DestIf : Destination → TyId → Type 0
  DestIf = base.DestIf g

  -- nothing of type `!` is dropped
  pub made_by_drop : (id : TyId) → needs_drop g.items id ≡ true → Made id
  made_by_drop id d = base.by_never g id (λ n. absurd (no_drop n d)) (λ m. m)
    where
      no_drop : Never id → needs_drop g.items id ≡ true → ⊥
      no_drop n d = by (length g.items.types) (never_known g.items id n) d
        where
          by : (k : ℕ) → type_at g.items id ≡ Some Ty.Never → in_rounds g.items.types (drop_rule g.items.adts g.items.closures) k id ≡ true → ⊥
          by zero e d = untrue d
          by (suc k) e d = untrue (rw e at d)

  -- ---- what has no end
  pub no_end_first : (P Q : Lowers) → P.has_end ≡ false → (then_lower P Q).has_end ≡ false
  no_end_first P Q e = ap (λ b. b && Q.has_end) e

  pub no_end_second : (P Q : Lowers) → Q.has_end ≡ false → (then_lower P Q).has_end ≡ false
  no_end_second P Q e = ap (λ b. P.has_end && b) e ∙ and_false P.has_end

  pub no_end_scope : (n : ℕ) (own : Bool) (P : Lowers) → P.has_end ≡ false → (in_scope F n own P).has_end ≡ false
  no_end_scope n own P e = ap (λ b. b && true) e

  pub no_end_owned : (h : NodeHead) (own : Bool) (P : Lowers) → P.has_end ≡ false → (lower.in_own_scope F h own P).has_end ≡ false
  no_end_owned h true P e = no_end_scope h.id true P e
  no_end_owned h false P e = e

  -- a store of a value of type `!` has no end
  pub no_end_stored : (n : ℕ) (action : Action) → is_last F action ≡ true → (act F n action).has_end ≡ false
  no_end_stored n action e = base.ends_by g n action ∙ ap not e

  pub put_last : (n key : ℕ) (from : effects.Operand) (id : TyId) → KeyIs key id → Never id → is_last F (effects.Put (site_in n key) from) ≡ true
  put_last n key from id k v = simp (k, v)

  pub call_last : (n key callee : ℕ) (args : List effects.Operand) (id : TyId) → KeyIs key id → Never id → is_last F (effects.Call (site_in n key) callee args) ≡ true
  call_last n key callee args id k v = simp (k, v)

  pub virtual_last : (n key trait_no method : ℕ) (args : List effects.Operand) (id : TyId) → KeyIs key id → Never id → is_last F (effects.CallVirtual (site_in n key) trait_no method args) ≡ true
  virtual_last n key trait_no method args id k v = simp (k, v)

  -- ---- jumps
  pub leaves_scope : (loops : List LoopAround) (n : ℕ) (own : Bool) (P : Lowers) → Leaves loops P → Leaves loops (in_scope F n own P)
  leaves_scope loops n own P p = record { spares = (base.leaves_then g loops P (leave F) p (λ e. record { spares = tt })).spares }

  pub leaves_owned : (loops : List LoopAround) (h : NodeHead) (own : Bool) (P : Lowers) → Leaves loops P → Leaves loops (lower.in_own_scope F h own P)
  leaves_owned loops h true P p = leaves_scope loops h.id true P p
  leaves_owned loops h false P p = p

  pub leaves_deliver : (loops : List LoopAround) (n : ℕ) (h : NodeHead) (action : EffectSite → Action) (to : Destination) → Leaves loops (lower.deliver_at F n h action to)
  leaves_deliver loops n h action (Into key) = base.leaves_none g loops n (action (site_in h.id key))
  leaves_deliver loops n h action (Coerced key trait_no to) =
      base.leaves_then g loops _ _ (base.leaves_none g loops n (action (site_in h.id key))) (λ e. base.leaves_none g loops h.id (effects.Unsize (site_in h.id to) trait_no (moved h.id key)))

  pub leaves_changed : (loops : List LoopAround) (f : Scopes → Scopes) (P : Lowers) → Leaves loops P → Leaves loops (from_changed f P)
  leaves_changed loops f P p = record { spares = p.spares }

  pub leaves_back : (loops : List LoopAround) (P : Lowers) → Leaves loops P → Leaves loops (back_in P)
  leaves_back loops P p = record { spares = p.spares }

  pub leaves_branches : (loops : List LoopAround) (n : ℕ) (test : ℕ → ℕ → Building → BlockRest × Building) (P Q : Lowers) → Leaves loops P → Leaves loops Q → Leaves loops (branches n test P Q)
  leaves_branches loops n test P Q p q = record { spares = base.spares_append g loops P.jumps Q.jumps p.spares q.spares }

  -- ---- where a value goes: that of type `!` into the cell of its own node
  pub record Arrives (h : NodeHead) (to : Destination) : Type 0 where
    pub made : DestIf to h.ty
    pub never : Never h.ty → to ≡ Into h.id

  pub arrives : (h : NodeHead) (to : Destination) → DestIf to h.ty → Arrives h (to_own_key (source.is_never g.items h.ty) h.id to)
  arrives h to d = by (source.is_never g.items h.ty) refl
    where
      by : (b : Bool) → source.is_never g.items h.ty ≡ b → Arrives h (to_own_key b h.id to)
      by true e = record { made = λ m. absurd (base.never_and_made g h.ty e m); never = λ v. refl }
      by false e = record { made = d; never = λ v. absurd (base.never_and_made g h.ty v e) }

  pub own_key : (h : NodeHead) (to : Destination) → Never h.ty → to_own_key (source.is_never g.items h.ty) h.id to ≡ Into h.id
  own_key h to v = ap (λ b. to_own_key b h.id to) v

  -- an answer goes where it is wanted; one of type `!` has a cell of its own
  pub answered : (n : ℕ) (h : NodeHead) (action : EffectSite → Action) (to : Destination) → Arrives h to → (Never h.ty → KeyIs h.id h.ty) →
      ((key : ℕ) → KeyIs key h.ty → lines.ActOk F (base.wanted g) n (action (site_in h.id key))) → Sound (lower.deliver_at F n h action to)
  answered n h action to a own ok = base.by_never g h.ty
      (λ v. subst (λ (z : Destination). Sound (lower.deliver_at F n h action z)) (sym (a.never v)) (base.acts g n (action (site_in h.id h.id)) (ok h.id (own v))))
      (λ m. base.delivered g n h action to h.ty (a.made m) ok)

  pub no_own : (h : NodeHead) → (Never h.ty → ⊥) → Never h.ty → KeyIs h.id h.ty
  no_own h not_so v = absurd (not_so v)

  -- ---- nodes
  abbrev pub MayMove : Context → tree.Node → Type 0
  MayMove x n = scopes.may_move (record x { items = g.items }) n ≡ true

  pub record Good (x : Context) (n : tree.Node) (m : NodeLower) : Type 0 where
    pub id_is : m.head.id ≡ number_of n
    pub ty_is : m.head.ty ≡ ty_of n
    pub shape_is : m.shape ≡ shape g.items n
    pub cell : CellsOk (cells g.items true n) → Made m.head.ty → KeyIs m.head.id m.head.ty
    pub ended : (o : Bool) → CellsOk (cells g.items o n) → Never m.head.ty → (a : LoopsAndGuards) (own : Bool) (to : Destination) → (m.evaluates a own to).has_end ≡ false
    pub leaves : (o : Bool) → CellsOk (cells g.items o n) → (a : LoopsAndGuards) (own : Bool) (to : Destination) → Leaves x.loops (m.evaluates a own to)
    pub evaluates : (o : Bool) → CellsOk (cells g.items o n) → (a : LoopsAndGuards) → Fine x a (nodes_of n) → (own : Bool) (to : Destination) → DestIf to m.head.ty → Sound (m.evaluates a own to)
    pub reach_ended : CellsOk (reached_cells g.items n) → is_place_form (form_of n) ≡ false → Never m.head.ty → (a : LoopsAndGuards) → (m.reaches a).has_end ≡ false
    pub reach_leaves : CellsOk (reached_cells g.items n) → (a : LoopsAndGuards) → Leaves x.loops (m.reaches a)
    pub reaches : CellsOk (reached_cells g.items n) → (a : LoopsAndGuards) → Fine x a (nodes_of n) → Sound (m.reaches a)
    pub place : CellsOk (reached_cells g.items n) → (a : LoopsAndGuards) → Fine x a (nodes_of n) → (m.reaches a).has_end ≡ true → Typed (m.shape.place a.aliases) m.head.ty
    pub reach_entry : CellsOk (reached_cells g.items n) → m.shape.is_place ≡ false → base.EntryOk g (entry_of m.head)
    pub lets_go : MayMove x n → CellsOk (reached_cells g.items n) → (a : LoopsAndGuards) → Fine x a (nodes_of n) → (m.reaches a).has_end ≡ true → base.Left g (m.shape.place a.aliases)

  abbrev InThat : ((Scope → Scope) → Scopes → Scopes) → Type 0
  InThat in_that = (f : Scope → Scope) → lines.KeepsOk F (base.wanted g) f → (S : Scopes) → lines.ScopesOk F (base.wanted g) S → lines.ScopesOk F (base.wanted g) (in_that f S)

  pub inner : InThat innermost
  inner = lines.innermost_ok F (base.wanted g)

  pub nearest : InThat nearest_temporary
  nearest = lines.nearest_ok F (base.wanted g)

  pending_ok : (b : Bool) (in_that : (Scope → Scope) → Scopes → Scopes) (h : NodeHead) → InThat in_that → base.EntryOk g (entry_of h) → (S : Scopes) → lines.ScopesOk F (base.wanted g) S → lines.ScopesOk F (base.wanted g) (lower.pending_if F b in_that h S)
  pending_ok true in_that h keeps j S o = keeps (with_pending (entry_of h)) (lines.pending_keeps F (base.wanted g) (entry_of h) j) S o
  pending_ok false in_that h keeps j S o = o

  completed_ok : (in_that : (Scope → Scope) → Scopes → Scopes) (h : NodeHead) → InThat in_that → base.EntryOk g (entry_of h) → (S : Scopes) → lines.ScopesOk F (base.wanted g) S → lines.ScopesOk F (base.wanted g) (lower.completed F in_that h S)
  completed_ok in_that h keeps j S o = keeps (becomes_entry (entry_of h)) (lines.becomes_keeps F (base.wanted g) (entry_of h) j) S o

  pub pended : (b : Bool) (in_that : (Scope → Scope) → Scopes → Scopes) (h : NodeHead) (P : Lowers) → InThat in_that → base.EntryOk g (entry_of h) → Sound P →
      Sound (from_changed (lower.pending_if F b in_that h) (then_lower P (change (lower.completed F in_that h))))
  pended b in_that h P keeps j p =
      lines.changed_sound F (base.wanted g) (lower.pending_if F b in_that h) _ (pending_ok b in_that h keeps j)
      (base.and_then g P _ p (λ e. lines.change_sound F (base.wanted g) (lower.completed F in_that h) (completed_ok in_that h keeps j)))

  pub pended_leaves : (loops : List LoopAround) (b : Bool) (in_that : (Scope → Scope) → Scopes → Scopes) (h : NodeHead) (P : Lowers) → Leaves loops P →
      Leaves loops (from_changed (lower.pending_if F b in_that h) (then_lower P (change (lower.completed F in_that h))))
  pended_leaves loops b in_that h P p = leaves_changed loops (lower.pending_if F b in_that h) _ (base.leaves_then g loops P _ p (λ e. record { spares = tt }))

  entry_ok : (x : Context) (n : tree.Node) (m : NodeLower) → Good x n m → CellsOk (cells g.items true n) → base.EntryOk g (entry_of m.head)
  entry_ok x n m k c d = k.cell c (made_by_drop m.head.ty d)

  -- what a value's node is, from how it is made
  pub record ValueIs (x : Context) (n : tree.Node) (h : NodeHead) (s : Shape) (e : Evaluates) : Type 0 where
    pub id_is : h.id ≡ number_of n
    pub ty_is : h.ty ≡ ty_of n
    pub shape_is : s ≡ shape g.items n
    pub whole : (a : Aliases) → s.place a ≡ whole_local h.id
    pub reached_so : CellsOk (reached_cells g.items n) → CellsOk (cells g.items true n)
    pub cell : CellsOk (cells g.items true n) → Made h.ty → KeyIs h.id h.ty
    pub ended : (o : Bool) → CellsOk (cells g.items o n) → Never h.ty → (a : LoopsAndGuards) (own : Bool) → (e a own (Into h.id)).has_end ≡ false
    pub leaves : (o : Bool) → CellsOk (cells g.items o n) → (a : LoopsAndGuards) (own : Bool) (to : Destination) → Leaves x.loops (e a own to)
    pub sound : (o : Bool) → CellsOk (cells g.items o n) → (a : LoopsAndGuards) → Fine x a (nodes_of n) → (own : Bool) (to : Destination) → Arrives h to → Sound (e a own to)

  pub value_good : (x : Context) (n : tree.Node) (h : NodeHead) (s : Shape) (e : Evaluates) → ValueIs x n h s e → Good x n (lower.a_value F h s e)
  value_good x n h s e v = record {
    id_is = v.id_is;
    ty_is = v.ty_is;
    shape_is = v.shape_is;
    cell = v.cell;
    ended = ended;
    leaves = λ o c a own to. v.leaves o c a own (to_own_key (source.is_never g.items h.ty) h.id to);
    evaluates = evaluates;
    reach_ended = λ c form w a. no_end_first (lower.made_in F h e a false (Into h.id)) (change (lower.completed F nearest_temporary h)) (ended true (v.reached_so c) w a false (Into h.id));
    reach_leaves = λ c a. pended_leaves x.loops s.in_destination nearest_temporary h _ (v.leaves true (v.reached_so c) a false (to_own_key (source.is_never g.items h.ty) h.id (Into h.id)));
    reaches = λ c a f. pended s.in_destination nearest_temporary h _ nearest (λ d. v.cell (v.reached_so c) (made_by_drop h.ty d)) (evaluates true (v.reached_so c) a f false (Into h.id) (λ m. v.cell (v.reached_so c) m));
    place = λ c a f d. base.by_never g h.ty
        (λ w. absurd (untrue (sym (no_end_first (lower.made_in F h e a false (Into h.id)) (change (lower.completed F nearest_temporary h)) (ended true (v.reached_so c) w a false (Into h.id))) ∙ d)))
        (λ m. subst (λ (z : Place). Typed z h.ty) (sym (v.whole a.aliases)) (base.key_typed g h.id h.ty (v.cell (v.reached_so c) m)));
    reach_entry = λ c p d. v.cell (v.reached_so c) (made_by_drop h.ty d);
    lets_go = λ w c a f d. subst (base.Left g) (sym (v.whole a.aliases)) (base.left_whole g h.id);
  }
    where
      ended : (o : Bool) → CellsOk (cells g.items o n) → Never h.ty → (a : LoopsAndGuards) (own : Bool) (to : Destination) → (lower.made_in F h e a own to).has_end ≡ false
      ended o c w a own to = ap (λ (z : Destination). (e a own z).has_end) (own_key h to w) ∙ v.ended o c w a own

      evaluates : (o : Bool) → CellsOk (cells g.items o n) → (a : LoopsAndGuards) → Fine x a (nodes_of n) → (own : Bool) (to : Destination) → DestIf to h.ty → Sound (lower.made_in F h e a own to)
      evaluates o c a f own to d = v.sound o c a f own (to_own_key (source.is_never g.items h.ty) h.id to) (arrives h to d)

  -- what a place's node is
  pub record PlaceIs (x : Context) (n : tree.Node) (h : NodeHead) (s : Shape) (r : Reaches) : Type 0 where
    pub id_is : h.id ≡ number_of n
    pub ty_is : h.ty ≡ ty_of n
    pub shape_is : s ≡ shape g.items n
    pub marked : s.is_place ≡ true
    pub is_place : is_place_form (form_of n) ≡ true
    pub reached_so : (o : Bool) → CellsOk (cells g.items o n) → CellsOk (reached_cells g.items n)
    pub cell : CellsOk (cells g.items true n) → Made h.ty → KeyIs h.id h.ty
    pub never : (o : Bool) → CellsOk (cells g.items o n) → Never h.ty → KeyIs h.id h.ty
    pub leaves : CellsOk (reached_cells g.items n) → (a : LoopsAndGuards) → Leaves x.loops (r a)
    pub sound : CellsOk (reached_cells g.items n) → (a : LoopsAndGuards) → Fine x a (nodes_of n) → Sound (r a)
    pub place : CellsOk (reached_cells g.items n) → (a : LoopsAndGuards) → Fine x a (nodes_of n) → (r a).has_end ≡ true → Typed (s.place a.aliases) h.ty
    -- where its value is moved it may be moved out, and then its place may be left gone
    pub moved : moves h.by ≡ true → MayMove x n
    pub lets_go : MayMove x n → CellsOk (reached_cells g.items n) → (a : LoopsAndGuards) → Fine x a (nodes_of n) → (r a).has_end ≡ true → base.Left g (s.place a.aliases)

  put_part : (h : NodeHead) (place : Place) (key : ℕ) → Typed place h.ty → KeyIs key h.ty → (moves h.by ≡ true → base.Left g place) → lines.ActOk F (base.wanted g) h.id (effects.Put (site_in h.id key) (operand_at h place))
  put_part h place key t k free = by (moves h.by) free
    where
      dest : base.At g (whole_local key) h.ty t.0
      dest = base.key_at g key h.ty t.0 k t.1.known

      sized : forms.is_dyn (Some t.0) ≡ false
      sized = base.key_sized g key h.ty t.0 k t.1.known

      by : (b : Bool) → (b ≡ true → base.Left g place) → base.StmtOk g (Stmt.Put (build.place_of F (site_in h.id key)) (build.operand_of F (copied_or_moved b (site_at h place))))
      by true free = (typed_lines.put_moved g.items g.bodies (base.B g) _ _ h.ty t.0 dest t.1 sized, base.one_moved g place (free refl))
      by false free = (typed_lines.put_copied g.items g.bodies (base.B g) _ _ h.ty t.0 dest t.1 sized, refl)

  pub place_good : (x : Context) (n : tree.Node) (h : NodeHead) (s : Shape) (r : Reaches) → PlaceIs x n h s r → Good x n (lower.a_place F h s r)
  place_good x n h s r v = record {
    id_is = v.id_is;
    ty_is = v.ty_is;
    shape_is = v.shape_is;
    cell = v.cell;
    ended = λ o c w a own to.
        ap (λ (z : Destination). (lower.use_of_place F h s r a own z).has_end) (own_key h to w)
        ∙ no_end_owned h own (then_lower (r a) (lower.deliver F h (put a) (Into h.id))) (no_end_second (r a) (lower.deliver F h (put a) (Into h.id)) (no_end_stored h.id (effects.Put (site_in h.id h.id) (operand_at h (s.place a.aliases))) (put_last h.id h.id (operand_at h (s.place a.aliases)) h.ty (v.never o c w) w)));
    leaves = λ o c a own to. leaves_owned x.loops h own _ (base.leaves_then g x.loops _ _ (v.leaves (v.reached_so o c) a) (λ e. leaves_deliver x.loops h.id h (put a) (to_own_key (source.is_never g.items h.ty) h.id to)));
    evaluates = λ o c a f own to d. base.owned g h own _ (base.and_then g (r a) _ (v.sound (v.reached_so o c) a f)
        (λ e. answered h.id h (put a) (to_own_key (source.is_never g.items h.ty) h.id to) (arrives h to d) (v.never o c)
        (λ key k. put_part h (s.place a.aliases) key (v.place (v.reached_so o c) a f e) k (λ m. v.lets_go (v.moved m) (v.reached_so o c) a f e))));
    reach_ended = λ c form w a. absurd (untrue (sym form ∙ v.is_place));
    reach_leaves = v.leaves;
    reaches = v.sound;
    place = v.place;
    reach_entry = λ c p. absurd (untrue (sym p ∙ v.marked));
    lets_go = v.lets_go;
  }
    where
      put : LoopsAndGuards → EffectSite → Action
      put a site = effects.Put site (operand_at h (s.place a.aliases))

  -- ---- operands
  pub record Operand (x : Context) (ns : List tree.Node) (m : NodeLower) (want : TyId) : Type 0 where
    pub leaves : (a : LoopsAndGuards) → Leaves x.loops (m.evaluates a false (Into m.head.id))
    pub sound : (a : LoopsAndGuards) → Fine x a ns → Sound (m.evaluates a false (Into m.head.id))
    pub entry : base.EntryOk g (entry_of m.head)
    pub given : (a : LoopsAndGuards) → (m.evaluates a false (Into m.head.id)).has_end ≡ true → KeyIs m.head.id want × Made want

  -- a value of the wanted type, unless it is of type `!`
  abbrev pub Fits : TyId → TyId → Type 0
  Fits want ty = (ty ≡ want) ⊎ Never ty

  pub ends_made : (x : Context) (n : tree.Node) (m : NodeLower) → Good x n m → (o : Bool) → CellsOk (cells g.items o n) → (a : LoopsAndGuards) (own : Bool) (to : Destination) → (m.evaluates a own to).has_end ≡ true → Made m.head.ty
  ends_made x n m k o c a own to e = base.by_never g m.head.ty (λ w. absurd (untrue (sym (k.ended o c w a own to) ∙ e))) (λ v. v)

  pub operand_of : (x : Context) (n : tree.Node) (m : NodeLower) → Good x n m → CellsOk (cells g.items true n) → (want : TyId) → Fits want (ty_of n) → Operand x (nodes_of n) m want
  operand_of x n m k c want fit = record {
    leaves = λ a. k.leaves true c a false (Into m.head.id);
    sound = λ a f. k.evaluates true c a f false (Into m.head.id) (λ v. k.cell c v);
    entry = entry_ok x n m k c;
    given = λ a e.
        let v = ends_made x n m k true c a false (Into m.head.id) e in
        elim fit [
          | inl same ↦ subst (λ (z : TyId). KeyIs m.head.id z × Made z) (k.ty_is ∙ same) (k.cell c v, v)
          | inr never ↦ absurd (base.never_and_made g m.head.ty (subst Never (sym k.ty_is) never) v)
        ];
  }

  pub data Operands (x : Context) : List tree.Node → List NodeLower → List TyId → Type 0 where
    no_operand : Operands x [] [] []
    an_operand : (ns others : List tree.Node) (m : NodeLower) (ms : List NodeLower) (want : TyId) (wants : List TyId) → Operand x ns m want → Operands x others ms wants → Operands x (ns ++ others) (m ∷ ms) (want ∷ wants)

  abbrev pub Given : List NodeLower → List TyId → Type 0
  Given [] [] = Unit {0}
  Given (m ∷ ms) (id ∷ ids) = (KeyIs m.head.id id × Made id) × Given ms ids
  Given _ _ = ⊥

  pub operand_sound : (x : Context) (ns : List tree.Node) (m : NodeLower) (want : TyId) → Operand x ns m want → (a : LoopsAndGuards) → Fine x a ns → Sound (lower.operand F a m)
  operand_sound x ns m want o a f = pended m.shape.in_destination innermost m.head _ inner o.entry (o.sound a f)

  pub operand_leaves : (x : Context) (ns : List tree.Node) (m : NodeLower) (want : TyId) → Operand x ns m want → (a : LoopsAndGuards) → Leaves x.loops (lower.operand F a m)
  operand_leaves x ns m want o a = pended_leaves x.loops m.shape.in_destination innermost m.head _ (o.leaves a)

  pub operand_given : (x : Context) (ns : List tree.Node) (m : NodeLower) (want : TyId) → Operand x ns m want → (a : LoopsAndGuards) → (lower.operand F a m).has_end ≡ true → KeyIs m.head.id want × Made want
  operand_given x ns m want o a e = o.given a (and_first (m.evaluates a false (Into m.head.id)).has_end true e)

  operands_sound : (x : Context) (ns : List tree.Node) (ms : List NodeLower) (wants : List TyId) → Operands x ns ms wants → (a : LoopsAndGuards) → Fine x a ns → Sound (lower.operands F a ms)
  operands_sound x _ _ _ no_operand a f = base.nothing_done g
  operands_sound x _ _ _ (an_operand ns others m ms want wants o os) a f =
      base.and_then g _ _ (operand_sound x ns m want o a (base.fine_first g x a ns others f)) (λ e. operands_sound x others ms wants os a (base.fine_second g x a ns others f))

  operands_leave : (x : Context) (ns : List tree.Node) (ms : List NodeLower) (wants : List TyId) → Operands x ns ms wants → (a : LoopsAndGuards) → Leaves x.loops (lower.operands F a ms)
  operands_leave x _ _ _ no_operand a = record { spares = tt }
  operands_leave x _ _ _ (an_operand ns others m ms want wants o os) a = base.leaves_then g x.loops _ _ (operand_leaves x ns m want o a) (λ e. operands_leave x others ms wants os a)

  operands_given : (x : Context) (ns : List tree.Node) (ms : List NodeLower) (wants : List TyId) → Operands x ns ms wants → (a : LoopsAndGuards) → (lower.operands F a ms).has_end ≡ true → Given ms wants
  operands_given x _ _ _ no_operand a e = tt
  operands_given x _ _ _ (an_operand ns others m ms want wants o os) a e =
      (operand_given x ns m want o a (and_first (lower.operand F a m).has_end _ e), operands_given x others ms wants os a (and_second (lower.operand F a m).has_end _ e))

  pub acting_sound : (x : Context) (h : NodeHead) (a : LoopsAndGuards) (own : Bool) (ns : List tree.Node) (ms : List NodeLower) (wants : List TyId) → Operands x ns ms wants → Fine x a ns → (P : Lowers) → (Given ms wants → Sound P) → Sound (lower.acting F h a own ms P)
  acting_sound x h a own ns ms wants os f P p =
      base.scoped g h.id own _ (base.and_then g _ _ (operands_sound x ns ms wants os a f)
      (λ e. lines.changed_sound F (base.wanted g) (taken F (lower.keys_of ms)) P (lines.taken_ok F (base.wanted g) (lower.keys_of ms)) (p (operands_given x ns ms wants os a e))))

  pub acting_leaves : (x : Context) (h : NodeHead) (a : LoopsAndGuards) (own : Bool) (ns : List tree.Node) (ms : List NodeLower) (wants : List TyId) → Operands x ns ms wants → (P : Lowers) → Leaves x.loops P → Leaves x.loops (lower.acting F h a own ms P)
  acting_leaves x h a own ns ms wants os P p = leaves_scope x.loops h.id own _ (base.leaves_then g x.loops _ _ (operands_leave x ns ms wants os a) (λ e. leaves_changed x.loops (taken F (lower.keys_of ms)) P p))

  pub acting_ended : (h : NodeHead) (a : LoopsAndGuards) (own : Bool) (ms : List NodeLower) (P : Lowers) → P.has_end ≡ false → (lower.acting F h a own ms P).has_end ≡ false
  acting_ended h a own ms P e =
      no_end_scope h.id own (then_lower (lower.operands F a ms) (from_changed (taken F (lower.keys_of ms)) P)) (no_end_second (lower.operands F a ms) (from_changed (taken F (lower.keys_of ms)) P) e)

  -- ---- `()` is put
  pub unit_put : (h : NodeHead) (to : Destination) → Arrives h to → types.is_unit g.items h.ty ≡ true → Sound (lower.put_unit F h to)
  unit_put h to arrives is = answered h.id h (λ site. effects.Put site effects.UnitValue) to arrives (no_own h (unit_made h.ty is))
      (λ key k. (typed_lines.put_unit g.items g.bodies (base.B g) _ h.ty (base.key_at g key h.ty Ty.Unit k (unit_known g.items h.ty is)), refl))
    where
      unit_made : (id : TyId) → types.is_unit g.items id ≡ true → Never id → ⊥
      unit_made id is v = let e = unit_known g.items id is in untrue (rw e at v)

  -- ---- tests and branches
  pub alone_sound : (x : Context) (n : tree.Node) (m : NodeLower) → Good x n m → (o : Bool) → CellsOk (cells g.items o n) → (a : LoopsAndGuards) → Fine x a (nodes_of n) → (to : Destination) → DestIf to m.head.ty → Sound (lower.alone F a m to)
  alone_sound x n m k o c a f to d = lines.back_sound F (base.wanted g) _ (k.evaluates o c a f true to d)

  pub if_ok : (key : ℕ) (id : TyId) → KeyIs key id → type_at g.items id ≡ Some Ty.Bool → lines.TestOk F (base.wanted g) (if_true F (moved key key) key)
  if_ok key id k e = lines.if_ok F (base.wanted g) (moved key key) key (λ y n. (typed_lines.if_ok g.items g.bodies (base.B g) _ id (base.key_at g key id Ty.Bool k e) y n, refl))

  -- a condition is of type `bool`, unless it is of type `!`
  abbrev pub IsBool : TyId → Type 0
  IsBool ty = (types.is_bool g.items ty ≡ true) ⊎ Never ty

  pub bool_if_made : (ty : TyId) → IsBool ty → Made ty → type_at g.items ty ≡ Some Ty.Bool
  bool_if_made ty is m = elim is [ inl so ↦ bool_known g.items ty so | inr v ↦ absurd (base.never_and_made g ty v m) ]

  pub condition_sound : (x : Context) (n : tree.Node) (m : NodeLower) → Good x n m → CellsOk (cells g.items true n) → IsBool (ty_of n) → (a : LoopsAndGuards) → Fine x a (nodes_of n) → (P Q : Lowers) → Sound P → Sound Q → Sound (lower.condition F a m P Q)
  condition_sound x n m k c is a f P Q p q =
      base.and_then g _ _ (alone_sound x n m k true c a f (Into m.head.id) (λ v. k.cell c v))
      (λ e. let v = ends_made x n m k true c a true (Into m.head.id) e in
      lines.branches_sound F (base.wanted g) m.head.id (if_true F (moved m.head.id m.head.id) m.head.id) P Q
      (if_ok m.head.id m.head.ty (k.cell c v) (bool_if_made m.head.ty (subst IsBool (sym k.ty_is) is) v)) p q)

  pub condition_leaves : (x : Context) (n : tree.Node) (m : NodeLower) → Good x n m → CellsOk (cells g.items true n) → (a : LoopsAndGuards) → (P Q : Lowers) → Leaves x.loops P → Leaves x.loops Q → Leaves x.loops (lower.condition F a m P Q)
  condition_leaves x n m k c a P Q p q =
      base.leaves_then g x.loops _ _ (leaves_back x.loops _ (k.leaves true c a true (Into m.head.id))) (λ e. leaves_branches x.loops m.head.id (if_true F (moved m.head.id m.head.id) m.head.id) P Q p q)

  -- ---- names that are bound, each from its part
  abbrev pub BoundOk : BoundName → Type 0
  BoundOk b = KeyIs b.key b.ty × Typed b.site.place b.ty × (b.takes ≡ true → base.Left g b.site.place)

  abbrev pub BoundsOk : List BoundName → Type 0
  BoundsOk [] = Unit {0}
  BoundsOk (b ∷ bounds) = BoundOk b × BoundsOk bounds

  put_bound : (b : BoundName) → BoundOk b → lines.ActOk F (base.wanted g) b.key (effects.Put (site_of_key b.key) (operand_of_bound b))
  put_bound b ok = by b.takes ok.2
    where
      t : Typed b.site.place b.ty
      t = ok.1

      dest : base.At g (whole_local b.key) b.ty t.0
      dest = base.key_at g b.key b.ty t.0 ok.0 t.1.known

      sized : forms.is_dyn (Some t.0) ≡ false
      sized = base.key_sized g b.key b.ty t.0 ok.0 t.1.known

      by : (takes : Bool) → (takes ≡ true → base.Left g b.site.place) → base.StmtOk g (Stmt.Put (build.place_of F (site_of_key b.key)) (build.operand_of F (copied_or_moved takes b.site)))
      by true free = (typed_lines.put_moved g.items g.bodies (base.B g) _ _ b.ty t.0 dest t.1 sized, base.one_moved g b.site.place (free refl))
      by false free = (typed_lines.put_copied g.items g.bodies (base.B g) _ _ b.ty t.0 dest t.1 sized, refl)

  pub bind_sound : (in_that : (Scope → Scope) → Scopes → Scopes) → InThat in_that → (bounds : List BoundName) → BoundsOk bounds → Sound (lower.bind F in_that bounds)
  bind_sound in_that keeps [] ok = base.nothing_done g
  bind_sound in_that keeps (b ∷ bounds) ok =
      base.and_then g _ _ (base.acts g b.key (effects.Put (site_of_key b.key) (operand_of_bound b)) (put_bound b ok.0))
      (λ e. lines.changed_sound F (base.wanted g) (in_that (with_entry (bound_entry b))) _ (keeps (with_entry (bound_entry b)) (lines.entry_keeps F (base.wanted g) (bound_entry b) (λ d. ok.0.0))) (bind_sound in_that keeps bounds ok.1))

  pub bind_leaves : (loops : List LoopAround) (in_that : (Scope → Scope) → Scopes → Scopes) (bounds : List BoundName) → Leaves loops (lower.bind F in_that bounds)
  bind_leaves loops in_that [] = record { spares = tt }
  bind_leaves loops in_that (b ∷ bounds) =
      base.leaves_then g loops _ _ (base.leaves_none g loops b.key (effects.Put (site_of_key b.key) (operand_of_bound b))) (λ e. leaves_changed loops (in_that (with_entry (bound_entry b))) _ (bind_leaves loops in_that bounds))
