-- Forms that name a place: an element, an assignment, a borrow, and the coercion to a trait object.
use Rattle.std.proofs.Common.{◌≡◌, inl, inr, ℕ, ◌==◌, ◌&&◌, ◌||◌, not, Bool, true, false, List, [], ◌∷◌, ◌++◌, Option, Some, if◌then◌else◌, refl, sym, ap, subst, ◌∙◌}
use Rattle.std.proofs.lemmas.Option.{none-some, same_Some}
use Rattle.std.specs.Prelude.{option_and_then}
use Rattle.cfg_graph.specs.declared.graph.Body.{Body}
use Rattle.mir_base.specs.declared.int_kind.IntKind.{IntKind}
use Rattle.mir_base.specs.declared.place_in_text.Pos.{Pos}
use Rattle.mir_ty.specs.declared.ty.Ty.{Ty}
use Rattle.mir_ty.specs.declared.ty.TyId.{TyId}
use Rattle.mir_ty.specs.Facts.{needs_drop}
use Rattle.mir_ty.specs.ItemTable.{type_at}
use Rattle.store_model.specs.Concrete.Effects.{impl_of}
use Rattle.store_model.specs.Effects as effects
use Rattle.store_model.specs.Effects.{EffectSite, Action}
use Rattle.store_model.specs.Places.Place.{content_of}
use Rattle.store_model.specs.Places.TypeForms as forms
use Rattle.typed_tree.specs.declared.node.Use.{Use}
use Rattle.typed_tree.specs.Nodes.{number_of, nodes_of}
use Rattle.typed_tree.specs.Tree as tree
use Rattle.typed_tree.specs.Tree.{Node, Form}
use Rattle.src_meaning.specs.Forms.{Destination, Into, Coerced, coerced, LoopsAndGuards, site_in, site_of_key, moved}
use Rattle.src_meaning.specs.Locals.OfBody.{cells, reached_cells, cells_in}
use Rattle.src_meaning.specs.Scopes.{Entry}
use Rattle.src_meaning.specs.Shape.{NodeHead, head, Shape, shape, shape_of, site_at}
use Rattle.well_typed.specs.Claim.{Holds, fact, some, ◌&◌}
use Rattle.well_typed.specs.Places.{Context, ty_of}
use Rattle.well_typed.specs.Types as types
use Rattle.lower_rules.specs.Build as build
use Rattle.lower_rules.specs.Build.{LoweringFrame, Lowers, taken}
use Rattle.lower_rules.specs.Lower as lower
use Rattle.lower_rules.specs.Lower.{NodeLower}
use Rattle.lower_rules.proofs.KnownTypes.{usize_known, reference_known}
use Rattle.lower_rules.proofs.Lines as lines
use Rattle.lower_rules.proofs.TypedLines as typed_lines
use Rattle.lower_rules.proofs.TypedPlaces as typed_places
use Rattle.lower_laws.proofs.Base as base
use Rattle.lower_laws.proofs.Base.{Ground, untrue, and_first, and_second, either, same_id, found}
use Rattle.lower_laws.proofs.Rules as rules
use Rattle.lower_laws.proofs.MovedOut as moved_out
use Rattle.lower_laws.proofs.FormTypes.{made_as, of_type, unit_made, made_not, sized}
use Rattle.lower_laws.proofs.FormValues.{Plain, value, fine_in, reached_place, element_place}

module _ (g : Ground) where
  abbrev F : LoweringFrame
  F = base.F g

  abbrev B : Body
  B = base.B g

  abbrev L : Node → NodeLower
  L n = lower.lower F n

  abbrev S_of : Form → NodeHead → Shape
  S_of form h = shape_of g.items form h

  abbrev Cells : List Entry → Type 0
  Cells = base.CellsOk g

  abbrev Good : Context → Node → NodeLower → Type 0
  Good = rules.Good g

  abbrev Fits : TyId → TyId → Type 0
  Fits = rules.Fits g

  abbrev Sound : Lowers → Type 0
  Sound = base.Sound g

  abbrev ActOk : ℕ → Action → Type 0
  ActOk = lines.ActOk F (base.wanted g)

  -- an element: its index is of type `usize`
  module _ (x : Context) (inner index : Node) (b : Good x inner (L inner)) (i : Good x index (L index)) (id : ℕ) (at : Pos) (ty : TyId) (by : Option Use) (count : ℕ)
      (is : types.is_usize g.items (ty_of index) || types.is_never g.items (ty_of index) ≡ true) (array : Holds (some (types.array_of g.items (ty_of inner)) (λ a. fact (types.is_same ty a.0 && count == a.1)))) where
    abbrev N : Node
    N = tree.node id at ty by (tree.Index inner index count)

    abbrev Reached : Type 0
    Reached = Cells (reached_cells g.items N)

    of_base : Reached → Cells (reached_cells g.items inner)
    of_base c = base.cells_first g (reached_cells g.items inner) (cells g.items true index) c

    of_index : Reached → Cells (cells g.items true index)
    of_index c = base.cells_second g (reached_cells g.items inner) (cells g.items true index) c

    abbrev Asks : LoopsAndGuards → Lowers
    Asks a = (L index).evaluates a false (Into (L index).head.id)

    index_made : Reached → (a : LoopsAndGuards) → (Asks a).has_end ≡ true → base.Made g (L index).head.ty
    index_made c a e = rules.ends_made g x index (L index) i true (of_index c) a false (Into (L index).head.id) e

    index_usize : Reached → (a : LoopsAndGuards) → (Asks a).has_end ≡ true → type_at g.items (L index).head.ty ≡ Some (Ty.Int IntKind.Usize)
    index_usize c a e = subst (λ (z : TyId). type_at g.items z ≡ Some (Ty.Int IntKind.Usize)) (sym i.ty_is)
        (elim (either (types.is_usize g.items (ty_of index)) (types.is_never g.items (ty_of index)) is) [ inl u ↦ usize_known g.items (ty_of index) u | inr v ↦ absurd (made_not g (ty_of index) (subst (base.Made g) i.ty_is (index_made c a e)) v) ])

    fine_base : (a : LoopsAndGuards) → base.Fine g x a (nodes_of N) → base.Fine g x a (nodes_of inner)
    fine_base a f = base.fine_first g x a (nodes_of inner) (nodes_of index) (fine_in g x a N (nodes_of inner ++ nodes_of index) f)

    fine_index : (a : LoopsAndGuards) → base.Fine g x a (nodes_of N) → base.Fine g x a (nodes_of index)
    fine_index a f = base.fine_second g x a (nodes_of inner) (nodes_of index) (fine_in g x a N (nodes_of inner ++ nodes_of index) f)

    element : (c : Reached) (a : LoopsAndGuards) → base.Fine g x a (nodes_of N) → ((L inner).reaches a).has_end ≡ true → (Asks a).has_end ≡ true → base.Typed g ((S_of (tree.Index inner index count) (head id ty by)).place a.aliases) ty
    element c a f e d =
        element_place g ((shape g.items inner).place a.aliases) (ty_of inner) ty (number_of index) (L index).head.ty count (reached_place g x inner b (of_base c) a (fine_base a f) e)
        (subst (λ (z : ℕ). base.KeyIs g z (L index).head.ty) i.id_is (i.cell (of_index c) (index_made c a d))) (index_usize c a d) array

    abbrev touch : LoopsAndGuards → Action
    touch a = effects.Touch (site_at (head id ty by) (lower.array_around F ((S_of (tree.Index inner index count) (head id ty by)).place a.aliases)))

    abbrev bounds : Action
    bounds = effects.Bounds (effects.Copied (site_of_key (L index).head.id)) count

    touch_ok : (a : LoopsAndGuards) → base.Typed g ((S_of (tree.Index inner index count) (head id ty by)).place a.aliases) ty → ActOk id (touch a)
    touch_ok a t = let whole = typed_places.array_at F g.bodies ((S_of (tree.Index inner index count) (head id ty by)).place a.aliases) ty t.0 t.1 in (typed_lines.touched g.items g.bodies B _ whole.0 whole.1 whole.2, refl)

    pub index_good : moved_out.Freed g x by (tree.Index inner index count) → ((o : Bool) → Cells (cells g.items o N) → Reached) → (Cells (cells g.items true N) → base.Made g ty → base.KeyIs g id ty) → ((o : Bool) → Cells (cells g.items o N) → base.Never g ty → base.KeyIs g id ty) →
        Good x N (lower.a_place F (head id ty by) (S_of (tree.Index inner index count) (head id ty by)) (lower.reach_element F (head id ty by) (S_of (tree.Index inner index count) (head id ty by)) (L inner) (L index) count))
    index_good u so cell never = rules.place_good g x N (head id ty by) (S_of (tree.Index inner index count) (head id ty by)) _ (record {
      id_is = refl;
      ty_is = refl;
      shape_is = refl;
      marked = refl;
      is_place = refl;
      reached_so = so;
      cell = cell;
      never = never;
      leaves = λ c a. base.leaves_then g x.loops _ _ (b.reach_leaves (of_base c) a) (λ e. base.leaves_then g x.loops _ _ (i.leaves true (of_index c) a false (Into (L index).head.id))
          (λ e. base.leaves_then g x.loops _ _ (base.leaves_none g x.loops id (touch a)) (λ e. base.leaves_none g x.loops (L index).head.id bounds)));
      sound = λ c a f. base.and_then g _ _ (b.reaches (of_base c) a (fine_base a f)) (λ e. base.and_then g _ _ (i.evaluates true (of_index c) a (fine_index a f) false (Into (L index).head.id) (λ v. i.cell (of_index c) v))
          (λ d. base.and_then g _ _ (base.acts g id (touch a) (touch_ok a (element c a f e d)))
          (λ q. base.acts g (L index).head.id bounds (λ n u. (typed_lines.bounds_ok g.items g.bodies B _ (L index).head.ty count (base.key_at g (L index).head.id (L index).head.ty (Ty.Int IntKind.Usize) (i.cell (of_index c) (index_made c a d)) (index_usize c a d)) n u, refl)))));
      place = λ c a f e. element c a f (and_first ((L inner).reaches a).has_end _ e) (and_first (Asks a).has_end _ (and_second ((L inner).reaches a).has_end _ e));
      moved = u;
      lets_go = λ w. absurd (untrue w);
    })

  -- ---- assignment, borrows, coercions
  pub assign_good : (x : Context) (target value_ : Node) → Good x target (L target) → Good x value_ (L value_) → (id : ℕ) (at : Pos) (ty : TyId) (by : Option Use) → Plain g (tree.node id at ty by (tree.Assign target value_)) (head id ty by) (S_of (tree.Assign target value_) (head id ty by)) →
      Fits (ty_of target) (ty_of value_) → types.is_unit g.items ty ≡ true → ((o : Bool) → Cells (cells g.items o (tree.node id at ty by (tree.Assign target value_))) → Cells (cells_in g.items (tree.Assign target value_))) →
      Good x (tree.node id at ty by (tree.Assign target value_)) (lower.lower_form F (tree.Assign target value_) (head id ty by) (S_of (tree.Assign target value_) (head id ty by)))
  assign_good x target value_ p k id at ty by plain fit is inner =
      value g x n h (S_of (tree.Assign target value_) h) _ plain (λ o c v a own. absurd (base.never_and_made g ty v (unit_made g ty is)))
      (λ o c a own to. rules.leaves_scope g x.loops id own _ (base.leaves_then g x.loops _ _ (rules.operand_leaves g x (nodes_of value_) (L value_) (ty_of target) (op o c) a)
      (λ e. base.leaves_then g x.loops _ _ (p.reach_leaves (place o c) a) (λ e. base.leaves_then g x.loops _ _ (replaces_leave (needs_drop g.items (L target).head.ty) (lower.site_of (L target) a)) (λ e. rules.leaves_deliver g x.loops id h (λ site. effects.Put site effects.UnitValue) to)))))
      (λ o c a f own to ar. let d = fine_in g x a n (nodes_of target ++ nodes_of value_) f in
      let d1 = base.fine_first g x a (nodes_of target) (nodes_of value_) d in
      base.scoped g id own _ (base.and_then g _ _ (rules.operand_sound g x (nodes_of value_) (L value_) (ty_of target) (op o c) a (base.fine_second g x a (nodes_of target) (nodes_of value_) d))
      (λ e. base.and_then g _ _ (p.reaches (place o c) a d1)
      (λ q. base.and_then g _ _ (stored a (rules.operand_given g x (nodes_of value_) (L value_) (ty_of target) (op o c) a e) (p.place (place o c) a d1 q)) (λ e. rules.unit_put g h to ar is)))))
    where
      h : NodeHead
      h = head id ty by

      n : Node
      n = tree.node id at ty by (tree.Assign target value_)

      place : (o : Bool) → Cells (cells g.items o n) → Cells (reached_cells g.items target)
      place o c = base.cells_first g (reached_cells g.items target) (cells g.items true value_) (inner o c)

      op : (o : Bool) → Cells (cells g.items o n) → rules.Operand g x (nodes_of value_) (L value_) (ty_of target)
      op o c = rules.operand_of g x value_ (L value_) k (base.cells_second g (reached_cells g.items target) (cells g.items true value_) (inner o c)) (ty_of target) fit

      replaces_leave : (b : Bool) (site : EffectSite) → base.Leaves g x.loops (build.replaces F b site (L value_).head.id)
      replaces_leave true site = record { spares = tt }
      replaces_leave false site = rules.leaves_changed g x.loops (taken F ((L value_).head.id ∷ [])) _ (base.leaves_none g x.loops site.node (effects.Put site (moved site.node (L value_).head.id)))

      -- no value of type `!` is stored, since the code of the value has an end
      stored : (a : LoopsAndGuards) → base.KeyIs g (L value_).head.id (ty_of target) × base.Made g (ty_of target) → base.Typed g (lower.place_in (L target) a) (L target).head.ty → Sound (build.replaces F (needs_drop g.items (L target).head.ty) (lower.site_of (L target) a) (L value_).head.id)
      stored a given t =
          let own : base.KeyIs g (L value_).head.id (L target).head.ty = subst (base.KeyIs g (L value_).head.id) (sym p.ty_is) given.0 in
          lines.replaces_sound F (base.wanted g) (needs_drop g.items (L target).head.ty) (lower.site_of (L target) a) (L value_).head.id
          (typed_lines.put_moved g.items g.bodies B _ _ (L target).head.ty t.0 t.1 (base.key_at g (L value_).head.id (L target).head.ty t.0 own t.1.known) (sized g (L value_).head.id (L target).head.ty t.0 own t.1.known), refl)
          (λ stmts term never. absurd (base.never_and_made g (L target).head.ty
          (sym (ap (λ (o : Option TyId). forms.is_never (option_and_then (type_at g.items) o)) t.1.is) ∙ never)
          (subst (base.Made g) (sym p.ty_is) given.1)))
          (λ n u. (typed_lines.drop_ok g.items g.bodies B _ (L target).head.ty t.0 t.1 n u, refl))

  pub borrow_good : (x : Context) (inner : Node) → Good x inner (L inner) → (id : ℕ) (at : Pos) (ty : TyId) (by : Option Use) (unique : Bool) → Plain g (tree.node id at ty by (tree.Borrow unique inner)) (head id ty by) (S_of (tree.Borrow unique inner) (head id ty by)) →
      Holds (some (types.reference_of g.items ty) (λ r. fact (types.is_same (ty_of inner) r.1) & fact (if unique then r.0 else not r.0))) → ((o : Bool) → Cells (cells g.items o (tree.node id at ty by (tree.Borrow unique inner))) → Cells (reached_cells g.items inner)) →
      Good x (tree.node id at ty by (tree.Borrow unique inner)) (lower.lower_form F (tree.Borrow unique inner) (head id ty by) (S_of (tree.Borrow unique inner) (head id ty by)))
  borrow_good x inner k id at ty by unique plain is place =
      value g x n h (S_of (tree.Borrow unique inner) h) _ plain (λ o c v a own. absurd (base.never_and_made g ty v made))
      (λ o c a own to. rules.leaves_owned g x.loops h own _ (base.leaves_then g x.loops _ _ (k.reach_leaves (place o c) a) (λ e. rules.leaves_deliver g x.loops (L inner).head.id h (action a) to)))
      (λ o c a f own to ar. let d = fine_in g x a n (nodes_of inner) f in
      base.owned g h own _ (base.and_then g _ _ (k.reaches (place o c) a d) (λ e. rules.answered g (L inner).head.id h (action a) to ar (rules.no_own g h (λ v. base.never_and_made g ty v made)) (λ key l. borrowed a key l (k.place (place o c) a d e)))))
    where
      h : NodeHead
      h = head id ty by

      n : Node
      n = tree.node id at ty by (tree.Borrow unique inner)

      action : LoopsAndGuards → EffectSite → Action
      action a site = effects.Borrow (record site { node = (L inner).head.id }) unique (lower.site_of (L inner) a)

      r : (r : Bool × TyId) × (types.reference_of g.items ty ≡ Some r) × Holds (fact (types.is_same (ty_of inner) r.1) & fact (if unique then r.0 else not r.0))
      r = found (types.reference_of g.items ty) _ is

      t : (t : Ty) × (type_at g.items ty ≡ Some t) × (forms.referent r.0.0 (Some t) ≡ Some r.0.1) × (forms.is_dyn (Some t) ≡ false)
      t = reference_known g.items ty r.0 r.1

      way : r.0.0 ≡ unique
      way = of_way unique r.0.0 r.2.1
        where
          of_way : (u b : Bool) → (if u then b else not b) ≡ true → b ≡ u
          of_way true b e = e
          of_way false b e = base.not_true b e

      made : base.Made g ty
      made = of_reference t.0 t.1 t.2
        where
          of_reference : (z : Ty) → type_at g.items ty ≡ Some z → forms.referent r.0.0 (Some z) ≡ Some r.0.1 → base.Made g ty
          of_reference z e f = of_type g ty z e (not_never z r.0.0 f)
            where
              not_never : (z : Ty) (b : Bool) → forms.referent b (Some z) ≡ Some r.0.1 → forms.is_never (Some z) ≡ false
              not_never Ty.Never true f = absurd (none-some r.0.1 f)
              not_never Ty.Never false f = absurd (none-some r.0.1 f)
              not_never other b f = refl

      borrowed : (a : LoopsAndGuards) (key : ℕ) → base.KeyIs g key ty → base.Typed g (lower.place_in (L inner) a) (L inner).head.ty → ActOk (L inner).head.id (action a (site_in id key))
      borrowed a key l p = (
        typed_lines.borrowed g.items g.bodies B _ _ unique ty (L inner).head.ty t.0 p.0 (base.key_at g key ty t.0 l t.1) p.1
            (subst (λ (z : Bool). forms.referent z (Some t.0) ≡ Some (L inner).head.ty) way (t.2 ∙ ap (λ (z : TyId). Some z) (sym (k.ty_is ∙ same_id (ty_of inner) r.0.1 r.2.0)))) t.3,
        refl,
      )

  pub unsize_good : (x : Context) (operand : Node) → Good x operand (L operand) → (id : ℕ) (at : Pos) (ty : TyId) (by : Option Use) (trait_no : ℕ) → Plain g (tree.node id at ty by (tree.Unsize trait_no operand)) (head id ty by) (S_of (tree.Unsize trait_no operand) (head id ty by)) →
      ((object inner : TyId) × (adt impl_no : ℕ) × (type_at g.items ty ≡ Some (Ty.Boxed object)) × (type_at g.items (ty_of operand) ≡ Some (Ty.Boxed inner)) × (type_at g.items object ≡ Some (Ty.Dyn trait_no)) × (type_at g.items inner ≡ Some (Ty.Adt adt)) × (impl_of g.items trait_no adt ≡ Some impl_no)) →
      ((o : Bool) → Cells (cells g.items o (tree.node id at ty by (tree.Unsize trait_no operand))) → Cells (cells g.items true operand)) →
      Good x (tree.node id at ty by (tree.Unsize trait_no operand)) (lower.lower_form F (tree.Unsize trait_no operand) (head id ty by) (S_of (tree.Unsize trait_no operand) (head id ty by)))
  unsize_good x operand k id at ty by trait_no plain is inner =
      value g x n h (S_of (tree.Unsize trait_no operand) h) _ plain (λ o c v a own. absurd (made_as g ty (Ty.Boxed is.0) is.4 refl v))
      (λ o c a own to. k.leaves true (inner o c) a own (coerced (L operand).head.id trait_no to))
      (λ o c a f own to ar. k.evaluates true (inner o c) a (fine_in g x a n (nodes_of operand) f) own (coerced (L operand).head.id trait_no to) (dest to (ar.made (of_type g ty (Ty.Boxed is.0) is.4 refl)) (k.cell (inner o c))))
    where
      h : NodeHead
      h = head id ty by

      n : Node
      n = tree.node id at ty by (tree.Unsize trait_no operand)

      from : type_at g.items (L operand).head.ty ≡ Some (Ty.Boxed is.1)
      from = subst (λ (z : TyId). type_at g.items z ≡ Some (Ty.Boxed is.1)) (sym k.ty_is) is.5

      dest : (to : Destination) → base.Dest g to ty → (base.Made g (L operand).head.ty → base.KeyIs g (L operand).head.id (L operand).head.ty) → base.DestIf g (coerced (L operand).head.id trait_no to) (L operand).head.ty
      dest (Into key) d cell m = (
        cell m,
        (typed_lines.unsized g.items g.bodies B _ _ ty.0 is.0.0 (L operand).head.ty.0 is.1.0 trait_no is.2 is.3 (base.key_at g key ty (Ty.Boxed is.0) d is.4) (base.key_at g (L operand).head.id (L operand).head.ty (Ty.Boxed is.1) (cell m) from) is.6 is.7 (g.traits is.0 trait_no is.6) is.8, refl),
        (is.1, is.2, from, is.7),
      )
      dest (Coerced key other to) d cell m = absurd (apart d.2.1 d.2.0 d.2.2 d.2.3)
        where
          apart : (m : ℕ) (inner : TyId) → type_at g.items ty ≡ Some (Ty.Boxed inner) → type_at g.items inner ≡ Some (Ty.Adt m) → ⊥
          apart m inner e d =
              let same : Ty.Boxed inner ≡ Ty.Boxed is.0 = same_Some (Ty.Boxed inner) (Ty.Boxed is.0) (sym e ∙ is.4) in
              let inside : inner ≡ is.0 = same_Some inner is.0 (ap content_of same) in
              untrue (ap forms.is_dyn (sym d ∙ ap (type_at g.items) inside ∙ is.6))
