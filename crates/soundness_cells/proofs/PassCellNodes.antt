-- Nodes by their kinds, where all that is done with cells is of the right types: values, places that are used, effects,
-- forms with operands, temporaries.
use Rattle.std.proofs.Common.{◌≡◌, ◌⊎◌, inl, inr, ℕ, ◌||◌, Bool, true, false, List, [], ◌∷◌, refl, ap, sym, ◌∙◌, subst}
use Rattle.std.specs.Option.{option_map_or}
use Rattle.std.proofs.lemmas.Bool.{false≢true}
use Rattle.mir_ty.specs.declared.ty.TyId.{TyId}
use Rattle.mir_ty.specs.Facts.{needs_drop}
use Rattle.mir_ty.specs.ItemTable.{ItemTable}
use Rattle.store_model.specs.Effects as effects
use Rattle.store_model.specs.Effects.{EffectSite, Operand, Action, Effects, stored_by}
use Rattle.typed_tree.specs.Tree.{Node, node, BodyTree}
use Rattle.src_meaning.specs.Evaluation as evaluation
use Rattle.src_meaning.specs.Evaluation.{meaning}
use Rattle.src_meaning.specs.Forms as forms
use Rattle.src_meaning.specs.Forms.{Destination, Into, Coerced, coerced, LoopsAndGuards, Meaning, site_in, moved, is_never, entry_of}
use Rattle.src_meaning.specs.Locals.OfBody.{cells}
use Rattle.src_meaning.specs.Scopes.{Exit, Entry, Scopes, Does}
use Rattle.src_meaning.specs.Shape.{site_at, Aliases, NodeHead, head, Shape, operand_at, copied_or_moved, moves}
use Rattle.well_typed.specs.Nodes as typing
use Rattle.well_typed.specs.Places.{Context, stands, ty_of}
use Rattle.well_typed.specs.Types as types
use Rattle.soundness_values.proofs.Checked.{Checking}
use Rattle.soundness_values.proofs.Facts.{Facts}
use Rattle.soundness_values.proofs.Leaving.{Shown}
use Rattle.soundness_cells.proofs.PassCellNames.{Names, PlaceOk}
use Rattle.soundness_cells.proofs.PassCellSites as sites
use Rattle.soundness_cells.proofs.PassCellActs as acts
use Rattle.soundness_cells.proofs.PassCellActs.{Cell}
use Rattle.soundness_cells.proofs.PassCellEffects.{marked_run, may_end, Acts, Tests, Drops, Made, does_well}
use Rattle.soundness_cells.proofs.PassCellTests.{no_reference}
use Rattle.soundness_cells.proofs.PassCellTypes as facts
use Rattle.soundness_cells.proofs.PassCellTypes.{Alone, Sorted}
use Rattle.soundness_values.proofs.PassHeads.{type_is}
use Rattle.soundness_values.proofs.PlaceTypes.{same_type}
use Rattle.soundness_cells.proofs.PassWell as rules
use Rattle.soundness_cells.proofs.PassWell.{MadeBy}

module _ (items : ItemTable) (body : BodyTree) where
  -- a box is coerced to one of a trait object
  abbrev pub May : TyId → TyId → ℕ → Type 0
  May object from trait_no = typing.box_implements items object from trait_no ≡ true

  abbrev V : Type 0
  V = Checking Facts

  abbrev q : Effects V
  q = marked_run items body

  abbrev pub Post : Context → Type 0 → Exit → Scopes → V → Type 0
  Post = rules.Post items (marked_run items body) may_end (Acts items body) (Tests items body) (Drops items body)
      (Made items body) (does_well items body) (Cell items body) May (Names items body)

  abbrev pub Fine : Scopes → Type 0
  Fine = rules.Fine items (marked_run items body) may_end (Acts items body) (Tests items body) (Drops items body)
      (Made items body) (does_well items body) (Cell items body) May (Names items body)

  abbrev pub Well : Context → Meaning V → Type 0
  Well = rules.Well items (marked_run items body) may_end (Acts items body) (Tests items body) (Drops items body)
      (Made items body) (does_well items body) (Cell items body) May (Names items body)

  abbrev pub Reach : Context → Meaning V → Type 0
  Reach = rules.Reach items (marked_run items body) may_end (Acts items body) (Tests items body) (Drops items body)
      (Made items body) (does_well items body) (Cell items body) May (Names items body)

  abbrev pub Reached : Meaning V → Type 0
  Reached = rules.Reached items (marked_run items body) may_end (Acts items body) (Tests items body) (Drops items body)
      (Made items body) (does_well items body) (Cell items body) May (Names items body)

  abbrev pub Own : Context → Meaning V → Type 0
  Own = rules.Own items (marked_run items body) may_end (Acts items body) (Tests items body) (Drops items body)
      (Made items body) (does_well items body) (Cell items body) May (Names items body)

  abbrev pub AllOwn : Context → List (Meaning V) → Type 0
  AllOwn = rules.AllOwn items (marked_run items body) may_end (Acts items body) (Tests items body) (Drops items body)
      (Made items body) (does_well items body) (Cell items body) May (Names items body)

  abbrev pub AllMade : List (Meaning V) → Type 0
  AllMade = rules.AllMade items (marked_run items body) may_end (Acts items body) (Tests items body) (Drops items body)
      (Made items body) (does_well items body) (Cell items body) May (Names items body)

  abbrev pub AroundWell : Context → LoopsAndGuards → Type 0
  AroundWell = rules.AroundWell items (marked_run items body) may_end (Acts items body) (Tests items body)
      (Drops items body) (Made items body) (does_well items body) (Cell items body) May (Names items body)

  abbrev pub Dest : TyId → Destination → Type 0
  Dest = rules.Dest items (marked_run items body) may_end (Acts items body) (Tests items body) (Drops items body)
      (Made items body) (does_well items body) (Cell items body) May (Names items body)

  abbrev pub DestCell : TyId → Destination → Type 0
  DestCell = rules.DestCell items (marked_run items body) may_end (Acts items body) (Tests items body)
      (Drops items body) (Made items body) (does_well items body) (Cell items body) May (Names items body)

  abbrev pub Given : NodeHead → Destination → Type 0
  Given = rules.Given items (marked_run items body) may_end (Acts items body) (Tests items body) (Drops items body)
      (Made items body) (does_well items body) (Cell items body) May (Names items body)

  abbrev pub IsMade : TyId → Type 0
  IsMade = rules.IsMade items (marked_run items body) may_end (Acts items body) (Tests items body) (Drops items body)
      (Made items body) (does_well items body) (Cell items body) May (Names items body)

  abbrev pub Droppable : Entry → Type 0
  Droppable = rules.Droppable items (marked_run items body) may_end (Acts items body) (Tests items body)
      (Drops items body) (Made items body) (does_well items body) (Cell items body) May (Names items body)

  abbrev pub Delivers : Type 0 → NodeHead → (EffectSite → Action) → Destination → Type 0
  Delivers = rules.Delivers items (marked_run items body) may_end (Acts items body) (Tests items body)
      (Drops items body) (Made items body) (does_well items body) (Cell items body) May (Names items body)

  -- ---- destinations

  pub given_cell : (h : NodeHead) (to : Destination) → Given h to →
      (is_never items h.ty ≡ true → Cell items body h.id h.ty) →
      DestCell h.ty to
  given_cell h to (inl g) f = subst (DestCell h.ty) (sym g.1) (f g.0)
  given_cell h to (inr g) f = g

  pub as_dest : (h : NodeHead) (to : Destination) → Given h to → Dest h.ty to
  as_dest h to (inl g) = inl g.0
  as_dest h to (inr g) = inr g

  pub not_never : {A : Type 0} (id : TyId) → Sorted items id → is_never items id ≡ true → A
  not_never id s e = absurd (false≢true (sym s.1 ∙ e))

  pub delivers : (h : NodeHead) (action : EffectSite → Action) →
      ((key : ℕ) → Cell items body key h.ty → Acts items body (action (site_in h.id key))) →
      ((key : ℕ) → MadeBy (Made items body) (stored_by (action (site_in h.id key))) →
      Made items body (site_in h.id key)) →
      (to : Destination) → DestCell h.ty to → Delivers (IsMade h.ty) h action to
  delivers h action a s (Into key) c = (a key c, λ m. acts.made_cell items body h.id key h.ty c (s key m))
  delivers h action a s (Coerced key trait_no to) c = (
    (a key c.0, λ m. acts.made_cell items body h.id key h.ty c.0 (s key m)),
    acts.unsize_acts items body h.id to key trait_no c.1.0 h.ty c.1.1.0 c.0
        (facts.coerces items c.1.0 h.ty trait_no c.1.1.1),
  )

  -- a cell that needs dropping holds no reference
  pub droppable : (e : Entry) → Cell items body e.key e.ty → Droppable e
  droppable e c n mode = first _ _ (ap (λ o. option_map_or (no_reference items) o false) c
      ∙ facts.dropped_no_reference items e.ty n)
    where
      first : (a b : Bool) → a ≡ true → (a || b) ≡ true
      first true b h = refl
      first false b h = absurd (false≢true h)

  pub droppable_head : (h : NodeHead) → Dest h.ty (Into h.id) → Droppable (entry_of h)
  droppable_head h (inl never) n mode = absurd (facts.dropped_not_never items h.ty n never)
  droppable_head h (inr c) n mode = droppable (entry_of h) c n mode

  pub own_from : (c : Context) (m : Meaning V) → Well c m → Dest m.head.ty (Into m.head.id) → Own c m
  own_from c m w d = (w, (d, droppable_head m.head d))

  -- a node that is made stands in its cell
  pub made_in_cell : (m : Meaning V) (id : TyId) → Dest m.head.ty (Into m.head.id) → IsMade m.head.ty → m.head.ty ≡ id →
      Cell items body m.head.id id
  made_in_cell m id (inl n) made e = absurd (false≢true (sym made ∙ n))
  made_in_cell m id (inr c) made e = subst (λ t. Cell items body m.head.id t) e c

  module _ (fuel : ℕ) where
    -- ---- values

    made_well : (c : Context) (h : NodeHead) (evaluate : LoopsAndGuards → Bool → Destination → Does V) →
        ((around : LoopsAndGuards) (own : Bool) (to : Destination) → AroundWell c around → Given h to → (S : Scopes)
        (v : V) → Fine S → Shown may_end (Post c (IsMade h.ty)) (evaluate around own to S v)) →
        (around : LoopsAndGuards) (own : Bool) (to : Destination) (S : Scopes) (v : V) → AroundWell c around →
        Dest h.ty to → Fine S →
        Shown may_end (Post c (IsMade h.ty)) (evaluation.made_in items q fuel h evaluate around own to S v)
    made_well c h evaluate does around own to S v ok d f = by (is_never items h.ty) refl
      where
        given : is_never items h.ty ≡ false → Dest h.ty to → Given h to
        given n (inl e) = absurd (false≢true (sym n ∙ e))
        given n (inr x) = inr x

        by : (b : Bool) → is_never items h.ty ≡ b → Shown may_end (Post c (IsMade h.ty))
            (evaluate around own (evaluation.to_own_key b h.id to) S v)
        by true n = does around own (Into h.id) ok (inl (n, refl)) S v f
        by false n = does around own to ok (given n d) S v f

    pub value_well : (c : Context) (h : NodeHead) (s : Shape) (evaluate : LoopsAndGuards → Bool → Destination →
        Does V) →
        ((around : LoopsAndGuards) (own : Bool) (to : Destination) → AroundWell c around → Given h to → (S : Scopes)
        (v : V) → Fine S → Shown may_end (Post c (IsMade h.ty)) (evaluate around own to S v)) →
        Well c (evaluation.a_value items q fuel h s evaluate)
    value_well c h s evaluate does = made_well c h evaluate does

    -- a form that is a scope of its own
    pub scope_well : (c : Context) (h : NodeHead) (s : Shape) (does : LoopsAndGuards → Destination → Does V) →
        ((around : LoopsAndGuards) (to : Destination) → AroundWell c around → Given h to → (S : Scopes) (v : V) →
        Fine S → Shown may_end (Post c (IsMade h.ty)) (does around to S v)) →
        Well c (evaluation.a_scope items q fuel h s does)
    scope_well c h s does f = value_well c h s (evaluation.in_scope_of_its_own items q fuel h does)
        (λ around own to ok g S v fine. rules.own_well items (marked_run items body) may_end (Acts items body)
        (Tests items body) (Drops items body) (Made items body) (does_well items body) (Cell items body) May (Names items body) c
        (IsMade h.ty) h own (does around to) S v fine
        (λ T k. f around to ok g T v k))

    -- one effect, whose answer goes to the destination
    pub effect_well : (c : Context) (h : NodeHead) (s : Shape) (action : EffectSite → Action) →
        ((to : Destination) → Given h to → Delivers (IsMade h.ty) h action to) →
        Well c (evaluation.effect items q fuel h s action)
    effect_well c h s action d = scope_well c h s (λ around. forms.deliver items q h action)
        (λ around to ok g S v f. rules.deliver_well items (marked_run items body) may_end (Acts items body)
        (Tests items body) (Drops items body) (Made items body) (does_well items body) (Cell items body) May (Names items body) c
        (IsMade h.ty) h action to (d to g) S v f)

    -- one effect after the operands are made
    pub operands_well : (c : Context) (h : NodeHead) (s : Shape) (ms : List (Meaning V)) (action : EffectSite →
        Action) →
        AllOwn c ms → ((to : Destination) → Given h to → AllMade ms → Delivers (IsMade h.ty) h action to) →
        Well c (evaluation.on_operands items q fuel h s ms action)
    operands_well c h s ms action all d =
        value_well c h s (λ around own to. forms.acting items q h around own ms (forms.deliver items q h action to))
        (λ around own to ok g S v f. rules.acting_well items (marked_run items body) may_end (Acts items body)
        (Tests items body) (Drops items body) (Made items body) (does_well items body) (Cell items body) May (Names items body) c
        (IsMade h.ty) h around own ms
        (forms.deliver items q h action to) ok all
        (λ made T w k. rules.deliver_well items (marked_run items body) may_end (Acts items body) (Tests items body)
        (Drops items body) (Made items body) (does_well items body) (Cell items body) May (Names items body) c (IsMade h.ty) h action
        to (d to g made) T w k) S v f)

    -- `()` goes to a destination
    pub unit_delivers : (h : NodeHead) (to : Destination) → types.is_unit items h.ty ≡ true → Given h to →
        Delivers (IsMade h.ty) h (λ site. effects.Put site effects.UnitValue) to
    unit_delivers h to e g = delivers h (λ site. effects.Put site effects.UnitValue)
        (λ key c. acts.put_unit items body h.id key h.ty c (facts.unit_is items h.ty e).1.0
        (facts.unit_is items h.ty e).0) (λ key m. m) to
        (given_cell h to g (λ n. not_never h.ty (facts.unit_is items h.ty e).1 n))

    pub truth_delivers : (h : NodeHead) (value : Bool) (to : Destination) → types.is_bool items h.ty ≡ true →
        Given h to →
        Delivers (IsMade h.ty) h (λ site. effects.Put site (effects.Truth value)) to
    truth_delivers h value to e g = delivers h (λ site. effects.Put site (effects.Truth value))
        (λ key c. acts.put_truth items body h.id key value h.ty c (facts.bool_is items h.ty e).1.0
        (facts.bool_is items h.ty e).0) (λ key m. m) to
        (given_cell h to g (λ n. not_never h.ty (facts.bool_is items h.ty e).1 n))

    -- an effect that takes one operand and gives `()`
    pub unit_value_well : (c : Context) (h : NodeHead) (s : Shape) (m : Meaning V) (action : Operand → Action) →
        Own c m →
        types.is_unit items h.ty ≡ true →
        (IsMade m.head.ty → Acts items body (action (moved h.id m.head.id))) →
        Well c (evaluation.gives_unit items q fuel h s m action)
    unit_value_well c h s m action own e a =
        value_well c h s (λ around own to. forms.acting items q h around own (m ∷ [])
        (evaluation.unit_after items q fuel h (action (moved h.id m.head.id)) to))
        (λ around own_ to ok g S v f. rules.acting_well items (marked_run items body) may_end (Acts items body)
        (Tests items body) (Drops items body) (Made items body) (does_well items body) (Cell items body) May (Names items body) c
        (IsMade h.ty) h around own_ (m ∷ [])
        (evaluation.unit_after items q fuel h (action (moved h.id m.head.id)) to) ok (own, tt)
        (λ made T w k. rules.then_well items (marked_run items body) may_end (Acts items body) (Tests items body)
        (Drops items body) (Made items body) (does_well items body) (Cell items body) May (Names items body) c (Unit {0}) (IsMade h.ty)
        (forms.acts items q (action (moved h.id m.head.id)) T w) (forms.put_unit items q h to)
        (rules.acts_well items (marked_run items body) may_end (Acts items body) (Tests items body) (Drops items body)
        (Made items body) (does_well items body) (Cell items body) May (Names items body) c (Unit {0}) (action (moved h.id m.head.id))
        T w (a made.0) k (λ x. tt))
        (λ U u x l. rules.deliver_well items (marked_run items body) may_end (Acts items body) (Tests items body)
        (Drops items body) (Made items body) (does_well items body) (Cell items body) May (Names items body) c (IsMade h.ty) h
        (λ site. effects.Put site effects.UnitValue) to
        (unit_delivers h to e g) U u l)) S v f)

    -- ---- places

    put_operand : (b : Bool) (n key : ℕ) (site : EffectSite) (id : TyId) → Cell items body key id → Alone items id →
        (b ≡ false → needs_drop items id ≡ false) → PlaceOk items body id site.place →
        Acts items body (effects.Put (site_in n key) (copied_or_moved b site))
    put_operand true n key site id c a u p = sites.put_moved items body n key site id c a p
    put_operand false n key site id c a u p = sites.put_copied items body n key site id c a (u refl) p

    pub place_well : (c : Context) (h : NodeHead) (s : Shape) (reach : LoopsAndGuards → Does V) (reached : Type 0) →
        Alone items h.ty → (is_never items h.ty ≡ true → Cell items body h.id h.ty) →
        (moves h.by ≡ false → needs_drop items h.ty ≡ false) →
        ((aliases : Aliases) → Names items body aliases → PlaceOk items body h.ty (s.place aliases)) →
        ((around : LoopsAndGuards) (S : Scopes) (v : V) → AroundWell c around → Fine S →
        Shown may_end (Post c reached) (reach around S v)) → Well c (evaluation.a_place items q fuel h s reach)
    place_well c h s reach reached a n u placed does = made_well c h (forms.use_of_place items q h s reach)
        (λ around own to ok g S v f. rules.use_well items (marked_run items body) may_end (Acts items body)
        (Tests items body) (Drops items body) (Made items body) (does_well items body) (Cell items body) May (Names items body) c
        (IsMade h.ty) reached h s reach around own to
        (λ T w k. does around T w ok k)
        (delivers h (λ site. effects.Put site (operand_at h (s.place around.aliases)))
        (λ key x. put_operand (moves h.by) h.id key (site_at h (s.place around.aliases)) h.ty x a u
        (placed around.aliases ok.0))
        (λ key m. m) to (given_cell h to g n)) S v f)

    -- a value that is reached is a temporary
    pub reached_by : (c : Context) (m : Meaning V) →
        m.reach ≡ forms.temporary items q m.head m.shape m.evaluate → Well c m → Dest m.head.ty (Into m.head.id) →
        Reach c m
    reached_by c m e w d around S v ok f =
        subst (λ (r : LoopsAndGuards → Does V). Shown may_end (Post c (Reached m)) (r around S v)) (sym e)
        (rules.more_valued items (marked_run items body) may_end (Acts items body) (Tests items body) (Drops items body)
        (Made items body) (does_well items body) (Cell items body) May (Names items body) c (IsMade m.head.ty) (Reached m)
        (λ made p. made)
        (forms.temporary items q m.head m.shape m.evaluate around S v)
        (rules.temporary_well items (marked_run items body) may_end (Acts items body) (Tests items body)
        (Drops items body) (Made items body) (does_well items body) (Cell items body) May (Names items body) c m.head m.shape
        m.evaluate around (droppable_head m.head d)
        (λ T w' g. w around false (Into m.head.id) T w' ok d g) S v f))

    -- a value of which the type that it fits is known
    pub is_made_node : (n : Node) → IsMade (meaning items q fuel n).head.ty → is_never items (ty_of n) ≡ false
    is_made_node n m = subst (λ t. is_never items t ≡ false) (type_is items q fuel n) m

    pub made_node : (n : Node) → is_never items (ty_of n) ≡ false → IsMade (meaning items q fuel n).head.ty
    made_node n m = subst (λ t. is_never items t ≡ false) (sym (type_is items q fuel n)) m

    pub node_cell : (n : Node) (id : TyId) →
        Dest (meaning items q fuel n).head.ty (Into (meaning items q fuel n).head.id) →
        IsMade (meaning items q fuel n).head.ty → ty_of n ≡ id → Cell items body (meaning items q fuel n).head.id id
    node_cell n id d m e = made_in_cell (meaning items q fuel n) id d m (type_is items q fuel n ∙ e)

    -- a node that is evaluated in place of another, whose type it fits
    pub fits_dest : (n : Node) (want : TyId) (to : Destination) → types.fits items want (ty_of n) ≡ true →
        Dest want to →
        Dest (meaning items q fuel n).head.ty to
    fits_dest n want to e d = by (facts.one_of (types.is_same (ty_of n) want) (types.is_never items (ty_of n)) e)
      where
        by : (types.is_same (ty_of n) want ≡ true) ⊎ (types.is_never items (ty_of n) ≡ true) →
            Dest (meaning items q fuel n).head.ty to
        by (inl same) = subst (λ t. Dest t to)
            (sym (same_type (ty_of n) want same) ∙ sym (type_is items q fuel n)) d
        by (inr never) = inl (ap (λ t. is_never items t) (type_is items q fuel n) ∙ sym
            (facts.never_same items (ty_of n)) ∙ never)

    pub fits_made : (n : Node) (want : TyId) → types.fits items want (ty_of n) ≡ true →
        IsMade (meaning items q fuel n).head.ty → IsMade want
    fits_made n want e m = subst (λ t. is_never items t ≡ false)
        (facts.made_fits items want (ty_of n) e (is_made_node n m))
        (is_made_node n m)
