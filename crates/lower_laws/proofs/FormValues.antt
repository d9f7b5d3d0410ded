-- What the lines of a form that gives a value need, whatever its form, and the operands before it.
use Rattle.std.proofs.Common.{◌≡◌, ℕ, ◌==◌, ◌&&◌, Bool, true, false, List, [], ◌∷◌, ◌++◌, Option, Some, slice_get, refl, sym, ap, subst, ◌∙◌}
use Rattle.std.proofs.lemmas.Bool.{eqb-true}
use Rattle.std.proofs.lemmas.Option.{same_Some}
use Rattle.std.specs.Prelude.{option_and_then}
use Rattle.std.proofs.lemmas.List.{append-nil}
use Rattle.mir_base.specs.declared.int_kind.IntKind.{IntKind}
use Rattle.mir_base.specs.declared.place_in_text.Pos.{Pos}
use Rattle.mir_ty.specs.declared.ty.Ty.{Ty}
use Rattle.mir_ty.specs.declared.ty.TyId.{TyId}
use Rattle.mir_ty.specs.ItemTable.{type_at}
use Rattle.mir_ty.specs.Parts.{field_ty, parts_of}
use Rattle.store_model.specs.Effects as effects
use Rattle.store_model.specs.Effects.{EffectSite, Action}
use Rattle.store_model.specs.Places.Place.{ToPart, ToContent, ToElement, Place, whole_local}
use Rattle.store_model.specs.Places.Place as places
use Rattle.store_model.specs.Places.TypeForms as forms
use Rattle.typed_tree.specs.declared.node.Use.{Use}
use Rattle.typed_tree.specs.Nodes.{number_of, nodes_of, nodes_in}
use Rattle.typed_tree.specs.Tree as tree
use Rattle.typed_tree.specs.Tree.{Node, Form}
use Rattle.src_meaning.specs.Forms.{Destination, Into, LoopsAndGuards, site_in, moved}
use Rattle.src_meaning.specs.Locals.OfBody.{cells, reached_cells}
use Rattle.src_meaning.specs.Scopes.{Entry}
use Rattle.src_meaning.specs.Shape.{NodeHead, head, Shape, Aliases, shape, extended, place_of_key}
use Rattle.well_typed.specs.Claim.{Holds, fact, some}
use Rattle.well_typed.specs.Nodes as typing
use Rattle.well_typed.specs.Places.{Context, entry_with, ty_of}
use Rattle.well_typed.specs.Types as types
use Rattle.lower_rules.specs.Build.{LoweringFrame, Lowers, act, is_last}
use Rattle.lower_rules.specs.Lower as lower
use Rattle.lower_rules.specs.Lower.{NodeLower}
use Rattle.lower_rules.proofs.KnownTypes.{array_known, inside_known, fields_known}
use Rattle.lower_rules.proofs.Lines as lines
use Rattle.lower_rules.proofs.TypedPlaces as typed_places
use Rattle.lower_laws.proofs.Base as base
use Rattle.lower_laws.proofs.Base.{Ground, and_first, same_id, found}
use Rattle.lower_laws.proofs.Rules as rules
use Rattle.lower_laws.proofs.Patterns as pattern_lines
use Rattle.lower_laws.proofs.FormTypes.{made_as, fits_itself, unit_made}

module _ (g : Ground) where
  abbrev F : LoweringFrame
  F = base.F g

  abbrev K : Context → Context
  K x = record x { items = g.items }

  abbrev L : Node → NodeLower
  L n = lower.lower F n

  abbrev Cells : List Entry → Type 0
  Cells = base.CellsOk g

  abbrev Good : Context → Node → NodeLower → Type 0
  Good = rules.Good g

  abbrev Fits : TyId → TyId → Type 0
  Fits = rules.Fits g

  abbrev Sound : Lowers → Type 0
  Sound = base.Sound g

  -- ---- what each value's node has, whatever its form
  pub record Plain (n : Node) (h : NodeHead) (s : Shape) : Type 0 where
    pub id_is : h.id ≡ number_of n
    pub ty_is : h.ty ≡ ty_of n
    pub shape_is : s ≡ shape g.items n
    pub whole : (a : Aliases) → s.place a ≡ whole_local h.id
    pub reached_so : Cells (reached_cells g.items n) → Cells (cells g.items true n)
    pub cell : Cells (cells g.items true n) → base.Made g h.ty → base.KeyIs g h.id h.ty

  pub value : (x : Context) (n : Node) (h : NodeHead) (s : Shape) (e : lower.Evaluates) → Plain n h s → ((o : Bool) → Cells (cells g.items o n) → base.Never g h.ty → (a : LoopsAndGuards) (own : Bool) → (e a own (Into h.id)).has_end ≡ false) →
      ((o : Bool) → Cells (cells g.items o n) → (a : LoopsAndGuards) (own : Bool) (to : Destination) → base.Leaves g x.loops (e a own to)) →
      ((o : Bool) → Cells (cells g.items o n) → (a : LoopsAndGuards) → base.Fine g x a (nodes_of n) → (own : Bool) (to : Destination) → rules.Arrives g h to → Sound (e a own to)) → Good x n (lower.a_value F h s e)
  value x n h s e p ended leaves sound = rules.value_good g x n h s e (record {
    id_is = p.id_is;
    ty_is = p.ty_is;
    shape_is = p.shape_is;
    whole = p.whole;
    reached_so = p.reached_so;
    cell = p.cell;
    ended = ended;
    leaves = leaves;
    sound = sound;
  })

  -- a form that is a scope of its own
  pub scoped_value : (x : Context) (n : Node) (h : NodeHead) (s : Shape) (does : lower.MakesInto) → Plain n h s → ((o : Bool) → Cells (cells g.items o n) → base.Never g h.ty → (a : LoopsAndGuards) → (does a (Into h.id)).has_end ≡ false) →
      ((o : Bool) → Cells (cells g.items o n) → (a : LoopsAndGuards) (to : Destination) → base.Leaves g x.loops (does a to)) →
      ((o : Bool) → Cells (cells g.items o n) → (a : LoopsAndGuards) → base.Fine g x a (nodes_of n) → (to : Destination) → rules.Arrives g h to → Sound (does a to)) → Good x n (lower.a_scope F h s does)
  scoped_value x n h s does p ended leaves sound = value x n h s _ p (λ o c v a own. rules.no_end_owned g h own (does a (Into h.id)) (ended o c v a))
      (λ o c a own to. rules.leaves_owned g x.loops h own (does a to) (leaves o c a to)) (λ o c a f own to ar. base.owned g h own (does a to) (sound o c a f to ar))

  abbrev ActOk : ℕ → Action → Type 0
  ActOk = lines.ActOk F (base.wanted g)

  pub effect_value : (x : Context) (n : Node) (h : NodeHead) (s : Shape) (action : EffectSite → Action) → Plain n h s → (base.Never g h.ty → ⊥) → ((key : ℕ) → base.KeyIs g key h.ty → ActOk h.id (action (site_in h.id key))) → Good x n (lower.effect F h s action)
  effect_value x n h s action p made ok = scoped_value x n h s (λ a. lower.deliver F h action) p (λ o c v a. absurd (made v)) (λ o c a to. rules.leaves_deliver g x.loops h.id h action to)
      (λ o c a f to ar. rules.answered g h.id h action to ar (rules.no_own g h made) ok)

  pub fine_in : (x : Context) (a : LoopsAndGuards) (n : Node) (ns : List Node) → base.Fine g x a (n ∷ ns) → base.Fine g x a ns
  fine_in x a n ns f = base.fine_second g x a (n ∷ []) ns f

  -- a form with operands; where it may be of type `!`, its answer has a cell, and its effect no end
  pub operands_value : (x : Context) (id : ℕ) (at : Pos) (ty : TyId) (by : Option Use) (form : Form) (s : Shape) (ms : List NodeLower) (wants : List TyId) (action : EffectSite → Action) → Plain (tree.node id at ty by form) (head id ty by) s →
      ((o : Bool) → Cells (cells g.items o (tree.node id at ty by form)) → rules.Operands g x (nodes_in form) ms wants) →
      ((o : Bool) → Cells (cells g.items o (tree.node id at ty by form)) → base.Never g ty → base.KeyIs g id ty × (is_last F (action (site_in id id)) ≡ true)) →
      (rules.Given g ms wants → (key : ℕ) → base.KeyIs g key ty → ActOk id (action (site_in id key))) → Good x (tree.node id at ty by form) (lower.on_operands F (head id ty by) s ms action)
  operands_value x id at ty by form s ms wants action p inner last ok =
      value x (tree.node id at ty by form) (head id ty by) s _ p
      (λ o c v a own. rules.acting_ended g (head id ty by) a own ms (act F id (action (site_in id id))) (rules.no_end_stored g id (action (site_in id id)) (last o c v).1))
      (λ o c a own to. rules.acting_leaves g x (head id ty by) a own (nodes_in form) ms wants (inner o c) _ (rules.leaves_deliver g x.loops id (head id ty by) action to))
      (λ o c a f own to ar. rules.acting_sound g x (head id ty by) a own (nodes_in form) ms wants (inner o c) (fine_in x a (tree.node id at ty by form) (nodes_in form) f) _
      (λ given. rules.answered g id (head id ty by) action to ar (λ v. (last o c v).0) (ok given)))

  none_behind : (x : Context) (a : LoopsAndGuards) (ns : List Node) → base.Fine g x a ns → base.Fine g x a (ns ++ [])
  none_behind x a ns f = subst (base.Fine g x a) (sym (append-nil ns)) f

  -- a form with one operand, which gives `()`
  pub unit_value : (x : Context) (id : ℕ) (at : Pos) (ty : TyId) (by : Option Use) (form : Form) (s : Shape) (n : Node) (action : effects.Operand → Action) → Plain (tree.node id at ty by form) (head id ty by) s →
      nodes_in form ≡ nodes_of n → types.is_unit g.items ty ≡ true → Good x n (L n) → ((o : Bool) → Cells (cells g.items o (tree.node id at ty by form)) → Cells (cells g.items true n)) →
      (base.KeyIs g (L n).head.id (ty_of n) → base.Made g (ty_of n) → ActOk id (action (moved id (L n).head.id))) → Good x (tree.node id at ty by form) (lower.gives_unit F (head id ty by) s (L n) action)
  unit_value x id at ty by form s n action p same is good inner ok =
      value x (tree.node id at ty by form) h s _ p (λ o c v a own. absurd (base.never_and_made g ty v (unit_made g ty is)))
      (λ o c a own to. rules.acting_leaves g x h a own (nodes_of n ++ []) (L n ∷ []) (ty_of n ∷ []) (one o c) _ (base.leaves_then g x.loops _ _ (base.leaves_none g x.loops id (action (moved id (L n).head.id))) (λ e. rules.leaves_deliver g x.loops id h (λ site. effects.Put site effects.UnitValue) to)))
      (λ o c a f own to ar. rules.acting_sound g x h a own (nodes_of n ++ []) (L n ∷ []) (ty_of n ∷ []) (one o c) (alone a f) _
      (λ given. base.and_then g _ _ (base.acts g id (action (moved id (L n).head.id)) (ok given.0.0 given.0.1)) (λ e. rules.unit_put g h to ar is)))
    where
      h : NodeHead
      h = head id ty by

      one : (o : Bool) → Cells (cells g.items o (tree.node id at ty by form)) → rules.Operands g x (nodes_of n ++ []) (L n ∷ []) (ty_of n ∷ [])
      one o c = rules.an_operand (nodes_of n) [] (L n) [] (ty_of n) [] (rules.operand_of g x n (L n) good (inner o c) (ty_of n) (fits_itself g (ty_of n))) rules.no_operand

      alone : (a : LoopsAndGuards) → base.Fine g x a (nodes_of (tree.node id at ty by form)) → base.Fine g x a (nodes_of n ++ [])
      alone a f = none_behind x a (nodes_of n) (subst (base.Fine g x a) same (fine_in x a (tree.node id at ty by form) (nodes_in form) f))

  -- ---- places
  pub reached_place : (x : Context) (n : Node) → Good x n (L n) → Cells (reached_cells g.items n) → (a : LoopsAndGuards) → base.Fine g x a (nodes_of n) → ((L n).reaches a).has_end ≡ true → base.Typed g ((shape g.items n).place a.aliases) (ty_of n)
  reached_place x n k c a f e = subst (λ (z : Shape). base.Typed g (z.place a.aliases) (ty_of n)) k.shape_is (subst (λ (z : TyId). base.Typed g ((L n).shape.place a.aliases) z) k.ty_is (k.place c a f e))

  at_type : (place : Place) (id : TyId) (ty : Ty) → base.Typed g place id → type_at g.items id ≡ Some ty → base.At g place id ty
  at_type place id ty t e = subst (λ (z : Ty). base.At g place id z) (same_Some t.0 ty (sym t.1.known ∙ e)) t.1

  pub variable_place : (x : Context) (key : ℕ) (ty : TyId) → Holds (typing.row (K x) 0 ty (tree.Variable key)) → (a : LoopsAndGuards) → base.AroundOk g x a → base.Typed g (place_of_key key a.aliases) ty
  variable_place x key ty h a ok =
      let e = found (entry_with key x.entries) _ h in
      subst (base.Typed g (place_of_key key a.aliases)) (sym (same_id ty e.0.ty e.2)) (ok.names key e.0 e.1)

  pub captured_place : (x : Context) (closure part : ℕ) (name : List ℕ) (ty : TyId) → Holds (typing.row (K x) 0 ty (tree.Captured closure part name)) → (a : LoopsAndGuards) → base.AroundOk g x a → base.Typed g (extended (ToPart part) (place_of_key closure a.aliases)) ty
  captured_place x closure part name ty h a ok =
      let e = found x.closure _ h in
      let t = found (field_ty g.items e.0.ty 0 part) _ e.2.1 in
      let at = ok.self e.0 e.1 in
      let same : e.0.key ≡ closure = eqb-true e.0.key closure e.2.0 in
      let of_part = ok.captures e.0 at.0 e.1 at.1.known in
      subst (λ (z : ℕ). base.Typed g (extended (ToPart part) (place_of_key z a.aliases)) ty) same
      (subst (base.Typed g (extended (ToPart part) (place_of_key e.0.key a.aliases))) (sym (same_id ty t.0 t.2))
      (pattern_lines.part_typed g (place_of_key e.0.key a.aliases) part e.0.ty at.0 t.0 at.1 (ap (λ (b : Bool). places.unless_enum b (slice_get (parts_of g.items at.0 0) part)) of_part ∙ sym (ap (option_and_then (λ ty. slice_get (parts_of g.items ty 0) part)) at.1.known) ∙ t.1)))

  pub field_place : (place : Place) (id : TyId) (part : ℕ) (ty : TyId) → base.Typed g place id → types.has_fields g.items id ≡ true → Holds (some (field_ty g.items id 0 part) (λ t. fact (types.is_same ty t))) → base.Typed g (extended (ToPart part) place) ty
  field_place place id part ty t e h =
      let want = found (field_ty g.items id 0 part) _ h in
      let k = fields_known g.items id e in
      let at = at_type place id k.0 t k.1 in
      subst (base.Typed g (extended (ToPart part) place)) (sym (same_id ty want.0 want.2))
      (pattern_lines.part_typed g place part id k.0 want.0 at (ap (λ (b : Bool). places.unless_enum b (slice_get (parts_of g.items k.0 0) part)) k.2 ∙ sym (ap (option_and_then (λ ty. slice_get (parts_of g.items ty 0) part)) k.1) ∙ want.1))

  pub content_place : (place : Place) (id ty : TyId) → base.Typed g place id → Holds (some (types.inside_of g.items id) (λ t. fact (types.is_same ty t))) → base.Typed g (extended ToContent place) ty
  content_place place id ty t h =
      let want = found (types.inside_of g.items id) _ h in
      let k = inside_known g.items id want.0 want.1 in
      let inside = g.contents id k.0 want.0 k.1 k.2 in
      subst (base.Typed g (extended ToContent place)) (sym (same_id ty want.0 want.2))
      (inside.0, typed_places.content_at F g.bodies place id k.0 want.0 inside.0 (at_type place id k.0 t k.1) k.2 inside.1)

  pub element_place : (place : Place) (id ty : TyId) (index : ℕ) (iu : TyId) (count : ℕ) → base.Typed g place id → base.KeyIs g index iu → type_at g.items iu ≡ Some (Ty.Int IntKind.Usize) → Holds (some (types.array_of g.items id) (λ a. fact (types.is_same ty a.0 && count == a.1))) → base.Typed g (extended (ToElement index) place) ty
  element_place place id ty index iu count t k u h =
      let want = found (types.array_of g.items id) _ h in
      let array = array_known g.items id want.0 want.1 in
      let inside = g.elements id (Ty.Array want.0.0 want.0.1) want.0.0 array refl in
      subst (base.Typed g (extended (ToElement index) place)) (sym (same_id ty want.0.0 (and_first _ _ want.2)))
      (inside.0, typed_places.element_at F g.bodies place index id iu (Ty.Array want.0.0 want.0.1) want.0.0 inside.0 (at_type place id (Ty.Array want.0.0 want.0.1) t array) refl inside.1 k u)

  -- ---- what the forms have in common
  pub fits_head : (x : Context) (n : Node) → Good x n (L n) → (want : TyId) → Fits want (ty_of n) → Fits want (L n).head.ty
  fits_head x n k want fit = subst (Fits want) (sym k.ty_is) fit

  pub one_operand : (x : Context) (n : Node) → Good x n (L n) → Cells (cells g.items true n) → (want : TyId) → Fits want (ty_of n) → rules.Operands g x (nodes_of n) (L n ∷ []) (want ∷ [])
  one_operand x n k c want fit = subst (λ (z : List Node). rules.Operands g x z (L n ∷ []) (want ∷ [])) (append-nil (nodes_of n)) (rules.an_operand (nodes_of n) [] (L n) [] want [] (rules.operand_of g x n (L n) k c want fit) rules.no_operand)

  pub two_operands : (x : Context) (n m : Node) → Good x n (L n) → Good x m (L m) → Cells (cells g.items true n ++ cells g.items true m) → (want other : TyId) → Fits want (ty_of n) → Fits other (ty_of m) → rules.Operands g x (nodes_of n ++ nodes_of m) (L n ∷ L m ∷ []) (want ∷ other ∷ [])
  two_operands x n m k l c want other fit gives =
      rules.an_operand (nodes_of n) (nodes_of m) (L n) (L m ∷ []) want (other ∷ []) (rules.operand_of g x n (L n) k (base.cells_first g (cells g.items true n) (cells g.items true m) c) want fit)
      (one_operand x m l (base.cells_second g (cells g.items true n) (cells g.items true m) c) other gives)

  abbrev Last : Node → ℕ → TyId → (EffectSite → Action) → Type 0
  Last n id ty action = (o : Bool) → Cells (cells g.items o n) → base.Never g ty → base.KeyIs g id ty × (is_last F (action (site_in id id)) ≡ true)

  pub never_last : (n : Node) (id : ℕ) (ty : TyId) (action : EffectSite → Action) (t : Ty) → type_at g.items ty ≡ Some t → forms.is_never (Some t) ≡ false → Last n id ty action
  never_last n id ty action t e d o c v = absurd (made_as g ty t e d v)
