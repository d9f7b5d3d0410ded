-- What patterns change, by the accesses that the rule of borrows tells: the tests make cells of the pattern's own nodes,
-- and a name takes its part where the rule allows it. In a guard the names stand for the parts that the rule sees.
use Rattle.std.proofs.Common.{◌≡◌, ◌⊎◌, inl, inr, ℕ, suc, ◌==◌, ◌&&◌, ◌||◌, not, Bool, true, false, List, [], ◌∷◌, ◌++◌, map, replicate, Option, Some, None, if◌then◌else◌, refl, ap, sym, ◌∙◌, subst}
use Rattle.std.specs.Prelude.{option_map}
use Rattle.std.specs.List.{find}
use Rattle.std.proofs.lemmas.Bool.{false≢true}
use Rattle.std.proofs.lemmas.Bool.Decides.{Decides-eqb}
use Rattle.std.proofs.lemmas.Option.{none-some}
use Rattle.mir_ty.specs.declared.ty.TyId.{TyId}
use Rattle.mir_ty.specs.Facts.{is_copy, has_drop_impl}
use Rattle.mir_ty.specs.ItemTable.{ItemTable}
use Rattle.mir_ty.specs.Parts.{field_ty}
use Rattle.store_model.specs.Places.Place.{Step, ToPart, ToField, Place}
use Rattle.typed_tree.specs.declared.node.Use.{Use}
use Rattle.typed_tree.specs.Nodes.{nodes_of, nodes_in, nodes_among, nodes_of_fields}
use Rattle.typed_tree.specs.Tree as tree
use Rattle.typed_tree.specs.Tree.{Node, node, Form, Nodes, no_node, a_node, Fields, no_field, a_field}
use Rattle.src_meaning.specs.Forms as forms
use Rattle.src_meaning.specs.Shape as shapes
use Rattle.src_meaning.specs.Shape.{head, shape, shape_of, in_fields, in_parts, alternatives_at, extended, followed_by, site_at, BoundName, PatternTest, PatternTests, no_test, a_test, Parts, moves}
use Rattle.typing_rules.specs.Accesses as rules
use Rattle.typing_rules.specs.Accesses.{AccessPlace, Accessed, bound, bound_by, bound_fields, bound_parts, access_of_binding, with_step}
use Rattle.well_typed.specs.Claim.{Holds}
use Rattle.well_typed.specs.Patterns as patterns
use Rattle.well_typed.specs.Patterns.{Matched}
use Rattle.well_typed.specs.Places.{is_by, taking}
use Rattle.well_typed.specs.Types as types
use Rattle.soundness_values.proofs.NoOverlap.{SeenIf, is_seen, mapped, plain_step}
use Rattle.soundness_frame.proofs.PassFrameActs.{AllCells, TestsOwn, AnyOwn, BoundsMay}
use Rattle.soundness_cells.proofs.PassNames.{NameIn}
use Rattle.soundness_frame.proofs.PassToldPlaces as places_of
use Rattle.soundness_frame.proofs.PassToldPlaces.{Owned, AllOwned, AllPermit, MaySeen, Unnamed}
use Rattle.soundness_values.proofs.PlaceTypes.{some_holds}

abbrev Bounds : Type 0
Bounds = List (ℕ × Accessed)

abbrev pub accessed : Bounds → List Accessed
accessed bounds = map (λ (b : ℕ × Accessed). b.1) bounds

pub same_order : (a b : ℕ) → (a == b) ≡ (b == a)
same_order a b = by (a == b) (b == a) refl refl
  where
    by : (c d : Bool) → (a == b) ≡ c → (b == a) ≡ d → c ≡ d
    by true true e f = refl
    by false false e f = refl
    by true false e f = sym (sym f ∙ (Decides-eqb b a).1 (sym ((Decides-eqb a b).0 e)))
    by false true e f = sym e ∙ (Decides-eqb a b).1 (sym ((Decides-eqb b a).0 f))

-- ---- names of patterns are names among their nodes

pub name_left : (a b : List Node) (key : ℕ) → NameIn a key → NameIn (a ++ b) key
name_left [] b key i = absurd i
name_left (node id at ty by form ∷ a) b key (inl i) = inl i
name_left (node id at ty by form ∷ a) b key (inr i) = inr (name_left a b key i)

pub name_right : (a b : List Node) (key : ℕ) → NameIn b key → NameIn (a ++ b) key
name_right [] b key i = i
name_right (node id at ty by form ∷ a) b key i = inr (name_right a b key i)

abbrev pub AllNames : List Node → Bounds → Type 0
AllNames ns [] = Unit {0}
AllNames ns (b ∷ bounds) = NameIn ns b.0 × AllNames ns bounds

all_wider : (ns ms : List Node) (bounds : Bounds) → ((key : ℕ) → NameIn ns key → NameIn ms key) →
    AllNames ns bounds → AllNames ms bounds
all_wider ns ms [] f h = tt
all_wider ns ms (b ∷ bounds) f h = (f b.0 h.0, all_wider ns ms bounds f h.1)

both_names : (ns : List Node) (a b : Bounds) → AllNames ns a → AllNames ns b → AllNames ns (a ++ b)
both_names ns [] b f g = g
both_names ns (x ∷ a) b f g = (f.0, both_names ns a b f.1 g)

mutual
  pub bound_named : (p : Node) (place : Option AccessPlace) → AllNames (nodes_of p) (bound place p)
  bound_named (node id at ty by (tree.Binding name)) place = (inl (tt, refl), tt)
  bound_named (node id at ty by (tree.StructPattern fields)) place =
      all_wider (nodes_of_fields fields) (nodes_of (node id at ty by (tree.StructPattern fields)))
      (bound_fields place fields) (λ key i. inr i) (fields_named fields place)
  bound_named (node id at ty by (tree.VariantPattern variant is_test fields)) place =
      all_wider (nodes_of_fields fields) (nodes_of (node id at ty by (tree.VariantPattern variant is_test fields)))
      (bound_fields place fields) (λ key i. inr i) (fields_named fields place)
  bound_named (node id at ty by (tree.TuplePattern parts)) place =
      all_wider (nodes_among parts) (nodes_of (node id at ty by (tree.TuplePattern parts)))
      (bound_parts place 0 parts) (λ key i. inr i) (parts_named parts place 0)
  bound_named (node id at ty by (tree.ArrayPattern elements)) place =
      all_wider (nodes_among elements) (nodes_of (node id at ty by (tree.ArrayPattern elements)))
      (bound_parts place 0 elements) (λ key i. inr i) (parts_named elements place 0)
  bound_named (node id at ty by form) place = tt

  fields_named : (fields : Fields) (place : Option AccessPlace) →
      AllNames (nodes_of_fields fields) (bound_fields place fields)
  fields_named no_field place = tt
  fields_named (a_field number value rest) place =
      both_names (nodes_of value ++ nodes_of_fields rest) (bound (option_map (with_step (rules.ToPart number)) place) value)
      (bound_fields place rest)
      (all_wider (nodes_of value) (nodes_of value ++ nodes_of_fields rest)
      (bound (option_map (with_step (rules.ToPart number)) place) value)
      (name_left (nodes_of value) (nodes_of_fields rest))
      (bound_named value (option_map (with_step (rules.ToPart number)) place)))
      (all_wider (nodes_of_fields rest) (nodes_of value ++ nodes_of_fields rest) (bound_fields place rest) (name_right (nodes_of value) (nodes_of_fields rest))
      (fields_named rest place))

  parts_named : (parts : Nodes) (place : Option AccessPlace) (k : ℕ) →
      AllNames (nodes_among parts) (bound_parts place k parts)
  parts_named no_node place k = tt
  parts_named (a_node first rest) place k =
      both_names (nodes_of first ++ nodes_among rest) (bound (option_map (with_step (rules.ToPart k)) place) first)
      (bound_parts place (suc k) rest)
      (all_wider (nodes_of first) (nodes_of first ++ nodes_among rest)
      (bound (option_map (with_step (rules.ToPart k)) place) first)
      (name_left (nodes_of first) (nodes_among rest))
      (bound_named first (option_map (with_step (rules.ToPart k)) place)))
      (all_wider (nodes_among rest) (nodes_of first ++ nodes_among rest) (bound_parts place (suc k) rest) (name_right (nodes_of first) (nodes_among rest))
      (parts_named rest place (suc k)))

-- ---- the bindings of a pattern are those that the rule sees

abbrev pub Alike : Bounds → List BoundName → Type 0
Alike [] [] = Unit {0}
Alike (b ∷ bounds) (n ∷ names) = ((b.0 ≡ n.key) × SeenIf b.1.place n.site.place) × Alike bounds names
Alike bounds names = ⊥

both_alike : (a b : Bounds) (m n : List BoundName) → Alike a m → Alike b n → Alike (a ++ b) (m ++ n)
both_alike [] b [] n f g = g
both_alike [] b (x ∷ m) n f g = absurd f
both_alike (x ∷ a) b [] n f g = absurd f
both_alike (x ∷ a) b (y ∷ m) n f g = (f.0, both_alike a b m n f.1 g)

module _ (items : ItemTable) where
  pub part_seen : (step : Step) (number : ℕ) → rules.ToPart number ∷ [] ≡ rules.ToPart number ∷ [] →
      (place : Option AccessPlace) (q : Place) → SeenIf place q →
      SeenIf (option_map (with_step (rules.ToPart number)) place) (extended (ToPart number) q)
  part_seen step number e place q s =
      mapped (with_step (rules.ToPart number)) (ToPart number)
      (plain_step (ToPart number) (rules.ToPart number) refl refl) place q s

  pub field_seen : (variant number : ℕ) (place : Option AccessPlace) (q : Place) → SeenIf place q →
      SeenIf (option_map (with_step (rules.ToPart number)) place) (extended (ToField variant number) q)
  field_seen variant number place q s =
      mapped (with_step (rules.ToPart number)) (ToField variant number)
      (plain_step (ToField variant number) (rules.ToPart number) refl refl) place q s

  mutual
    pub bounds_alike : (p : Node) (place : Option AccessPlace) (q : Place) → SeenIf place q →
        Alike (bound place p) ((shape items p).bindings q)
    bounds_alike (node id at ty by form) place q s = form_alike form id at ty by place q s

    form_alike : (form : Form) (id : ℕ) (at : Rattle.mir_base.specs.declared.place_in_text.Pos.Pos) (ty : TyId)
        (by : Option Use) (place : Option AccessPlace) (q : Place) → SeenIf place q →
        Alike (bound_by place id at by form) ((shape_of items form (head id ty by)).bindings q)
    form_alike (tree.Binding name) id at ty by place q s = ((refl, s), tt)
    form_alike (tree.StructPattern fields) id at ty by place q s =
        fields_alike fields ToPart (λ n a b t. part_seen (ToPart n) n refl a b t) place q s
    form_alike (tree.VariantPattern variant is_test fields) id at ty by place q s =
        fields_alike fields (ToField variant) (λ n a b t. field_seen variant n a b t) place q s
    form_alike (tree.TuplePattern parts) id at ty by place q s = parts_alike parts 0 place q s
    form_alike (tree.ArrayPattern elements) id at ty by place q s = parts_alike elements 0 place q s
    form_alike form id at ty by place q s = tt

    fields_alike : (fields : Fields) (step : ℕ → Step) →
        ((n : ℕ) (a : Option AccessPlace) (b : Place) → SeenIf a b →
        SeenIf (option_map (with_step (rules.ToPart n)) a) (extended (step n) b)) → (place : Option AccessPlace)
        (q : Place) → SeenIf place q → Alike (bound_fields place fields) ((in_fields items fields step).bindings q)
    fields_alike no_field step f place q s = tt
    fields_alike (a_field number value rest) step f place q s =
        both_alike (bound (option_map (with_step (rules.ToPart number)) place) value) (bound_fields place rest)
        ((shape items value).bindings (extended (step number) q)) ((in_fields items rest step).bindings q)
        (bounds_alike value (option_map (with_step (rules.ToPart number)) place) (extended (step number) q)
        (f number place q s))
        (fields_alike rest step f place q s)

    parts_alike : (parts : Nodes) (k : ℕ) (place : Option AccessPlace) (q : Place) → SeenIf place q →
        Alike (bound_parts place k parts) ((in_parts items parts k).bindings q)
    parts_alike no_node k place q s = tt
    parts_alike (a_node first rest) k place q s =
        both_alike (bound (option_map (with_step (rules.ToPart k)) place) first) (bound_parts place (suc k) rest)
        ((shape items first).bindings (extended (ToPart k) q)) ((in_parts items rest (suc k)).bindings q)
        (bounds_alike first (option_map (with_step (rules.ToPart k)) place) (extended (ToPart k) q)
        (part_seen (ToPart k) k refl place q s))
        (parts_alike rest (suc k) place q s)

-- ---- names that stand for parts, in a guard

pub seen_with : (bounds : Bounds) (names : List BoundName) (aliases : rules.Aliases) (places : shapes.Aliases) →
    Alike bounds names →
    ((key : ℕ) → SeenIf (rules.place_of_key aliases key) (shapes.place_of_key key places)) → (key : ℕ) →
    SeenIf (rules.place_of_key (rules.aliases_with bounds aliases) key)
    (shapes.place_of_key key (forms.aliases_with names places))
seen_with [] [] aliases places a s key = s key
seen_with [] (n ∷ names) aliases places a s key = absurd a
seen_with (b ∷ bounds) [] aliases places a s key = absurd a
seen_with (b ∷ bounds) (n ∷ names) aliases places a s key =
    subst (λ d. SeenIf (rules.place_of_key (rules.aliases_with (b ∷ bounds) aliases) key)
    (if d then n.site.place else shapes.place_of_key key (forms.aliases_with names places)))
    (same_order b.0 key ∙ ap (λ k. key == k) a.0.0)
    (by (b.0 == key) (seen_with bounds names aliases places a.1 s key))
  where
    by : (c : Bool) →
        SeenIf (rules.place_of_key (rules.aliases_with bounds aliases) key)
        (shapes.place_of_key key (forms.aliases_with names places)) →
        SeenIf (rules.or_variable key (if c then Some (b.0, b.1.place)
        else find (λ (x : ℕ × Option AccessPlace). x.0 == key) (rules.aliases_with bounds aliases)))
        (if c then n.site.place else shapes.place_of_key key (forms.aliases_with names places))
    by true later = a.0.1
    by false later = later

-- a binding that stands for a part of a temporary is one of these, or was before
pub unnamed_with : (bounds : Bounds) (aliases : rules.Aliases) (key : ℕ) →
    Unnamed (rules.aliases_with bounds aliases) key →
    (rules.is_bound (Some key) bounds ≡ true) ⊎ Unnamed aliases key
unnamed_with [] aliases key u = inr u
unnamed_with (b ∷ bounds) aliases key u = by (b.0 == key) u (λ v. unnamed_with bounds aliases key v)
  where
    by : (c : Bool) →
        rules.or_variable key (if c then Some (b.0, b.1.place)
        else find (λ (x : ℕ × Option AccessPlace). x.0 == key) (rules.aliases_with bounds aliases)) ≡ None →
        (Unnamed (rules.aliases_with bounds aliases) key →
        (rules.is_bound (Some key) bounds ≡ true) ⊎ Unnamed aliases key) →
        ((c || rules.is_bound (Some key) bounds) ≡ true) ⊎ Unnamed aliases key
    by true u later = inl refl
    by false u later = later u

pub bound_name : (ns : List Node) (bounds : Bounds) (key : ℕ) → AllNames ns bounds →
    rules.is_bound (Some key) bounds ≡ true → NameIn ns key
bound_name ns [] key h e = absurd (false≢true e)
bound_name ns (b ∷ bounds) key h e = by (b.0 == key) refl e (λ f. bound_name ns bounds key h.1 f)
  where
    by : (c : Bool) → (b.0 == key) ≡ c → (c || rules.is_bound (Some key) bounds) ≡ true →
        (rules.is_bound (Some key) bounds ≡ true → NameIn ns key) → NameIn ns key
    by true e f later = subst (λ k. NameIn ns k) ((Decides-eqb b.0 key).0 e) h.0
    by false e f later = later f

-- ---- what tests and names may change

module _ (items : ItemTable) (May : Place → Type 0) where
  followed : (a b : PatternTests) → TestsOwn May a → TestsOwn May b → TestsOwn May (followed_by a b)
  followed no_test b f g = g
  followed (a_test first rest) b f g = (f.0, followed rest b f.1 g)

  mutual
    pub tests_own : (p : Node) (q : Place) → AllOwned items May (nodes_of p) → TestsOwn May ((shape items p).tests q)
    tests_own (node id at ty by form) q o = form_own form id ty by q o.0 o.1

    form_own : (form : Form) (id : ℕ) (ty : TyId) (by : Option Use) (q : Place) → Owned items May id →
        AllOwned items May (nodes_in form) → TestsOwn May ((shape_of items form (head id ty by)).tests q)
    form_own (tree.NumberPattern value) id ty by q own o = (own [], tt)
    form_own (tree.TruthPattern value) id ty by q own o = (own [], tt)
    form_own (tree.StructPattern fields) id ty by q own o = fields_own fields ToPart q o
    form_own (tree.VariantPattern variant true fields) id ty by q own o =
        (tt, fields_own fields (ToField variant) q o)
    form_own (tree.VariantPattern variant false fields) id ty by q own o = fields_own fields (ToField variant) q o
    form_own (tree.TuplePattern parts) id ty by q own o = parts_own parts 0 q o
    form_own (tree.ArrayPattern elements) id ty by q own o = parts_own elements 0 q o
    form_own (tree.OrPattern alternatives) id ty by q own o = (any_own alternatives q o, tt)
    form_own form id ty by q own o = tt

    fields_own : (fields : Fields) (step : ℕ → Step) (q : Place) → AllOwned items May (nodes_of_fields fields) →
        TestsOwn May ((in_fields items fields step).tests q)
    fields_own no_field step q o = tt
    fields_own (a_field number value rest) step q o =
        followed ((shape items value).tests (extended (step number) q)) ((in_fields items rest step).tests q)
        (tests_own value (extended (step number) q)
        (places_of.owned_left items May (nodes_of value) (nodes_of_fields rest) o))
        (fields_own rest step q (places_of.owned_right items May (nodes_of value) (nodes_of_fields rest) o))

    parts_own : (parts : Nodes) (k : ℕ) (q : Place) → AllOwned items May (nodes_among parts) →
        TestsOwn May ((in_parts items parts k).tests q)
    parts_own no_node k q o = tt
    parts_own (a_node first rest) k q o =
        followed ((shape items first).tests (extended (ToPart k) q)) ((in_parts items rest (suc k)).tests q)
        (tests_own first (extended (ToPart k) q)
        (places_of.owned_left items May (nodes_of first) (nodes_among rest) o))
        (parts_own rest (suc k) q (places_of.owned_right items May (nodes_of first) (nodes_among rest) o))

    any_own : (alternatives : Nodes) (q : Place) → AllOwned items May (nodes_among alternatives) →
        AnyOwn May (alternatives_at items alternatives q)
    any_own no_node q o = tt
    any_own (a_node first rest) q o = (
      tests_own first q (places_of.owned_left items May (nodes_of first) (nodes_among rest) o),
      any_own rest q (places_of.owned_right items May (nodes_of first) (nodes_among rest) o),
    )

  both_cells : (a b : List BoundName) → AllCells May a → AllCells May b → AllCells May (a ++ b)
  both_cells [] b f g = g
  both_cells (n ∷ a) b f g = (f.0, both_cells a b f.1 g)

  mutual
    -- the cells of names are those of the pattern's nodes
    pub cells_own : (p : Node) (q : Place) → AllOwned items May (nodes_of p) →
        AllCells May ((shape items p).bindings q)
    cells_own (node id at ty by form) q o = form_cells form id ty by q o.0 o.1

    form_cells : (form : Form) (id : ℕ) (ty : TyId) (by : Option Use) (q : Place) → Owned items May id →
        AllOwned items May (nodes_in form) → AllCells May ((shape_of items form (head id ty by)).bindings q)
    form_cells (tree.Binding name) id ty by q own o = (own [], tt)
    form_cells (tree.StructPattern fields) id ty by q own o = field_cells fields ToPart q o
    form_cells (tree.VariantPattern variant is_test fields) id ty by q own o = field_cells fields (ToField variant) q o
    form_cells (tree.TuplePattern parts) id ty by q own o = part_cells parts 0 q o
    form_cells (tree.ArrayPattern elements) id ty by q own o = part_cells elements 0 q o
    form_cells form id ty by q own o = tt

    field_cells : (fields : Fields) (step : ℕ → Step) (q : Place) → AllOwned items May (nodes_of_fields fields) →
        AllCells May ((in_fields items fields step).bindings q)
    field_cells no_field step q o = tt
    field_cells (a_field number value rest) step q o =
        both_cells ((shape items value).bindings (extended (step number) q)) ((in_fields items rest step).bindings q)
        (cells_own value (extended (step number) q)
        (places_of.owned_left items May (nodes_of value) (nodes_of_fields rest) o))
        (field_cells rest step q (places_of.owned_right items May (nodes_of value) (nodes_of_fields rest) o))

    part_cells : (parts : Nodes) (k : ℕ) (q : Place) → AllOwned items May (nodes_among parts) →
        AllCells May ((in_parts items parts k).bindings q)
    part_cells no_node k q o = tt
    part_cells (a_node first rest) k q o =
        both_cells ((shape items first).bindings (extended (ToPart k) q)) ((in_parts items rest (suc k)).bindings q)
        (cells_own first (extended (ToPart k) q)
        (places_of.owned_left items May (nodes_of first) (nodes_among rest) o))
        (part_cells rest (suc k) q (places_of.owned_right items May (nodes_of first) (nodes_among rest) o))

  -- a name that moves its part: the part may be moved out of, so the rule told of it, or it is in a temporary
  abbrev pub MovedOut : Matched → Option AccessPlace → Place → Type 0
  MovedOut m place q = m.may_move ≡ true → place ≡ None → Owned items May q.local

  both_bounds : (a b : List BoundName) → BoundsMay May a → BoundsMay May b → BoundsMay May (a ++ b)
  both_bounds [] b f g = g
  both_bounds (n ∷ a) b f g = (f.0, both_bounds a b f.1 g)

  within_moved : (drops : Bool) (m : Matched) (place : Option AccessPlace) (q : Place) → MovedOut m place q →
      MovedOut (patterns.within drops m) place q
  within_moved true m place q f e n = absurd (false≢true e)
  within_moved false m place q f e n = f e n

  accessed_split : (a b : Bounds) → accessed (a ++ b) ≡ accessed a ++ accessed b
  accessed_split [] b = refl
  accessed_split (x ∷ a) b = ap (λ l. x.1 ∷ l) (accessed_split a b)

  mapped_some : (f : AccessPlace → AccessPlace) (o : Option AccessPlace) → option_map f o ≡ None → o ≡ None
  mapped_some f None e = refl
  mapped_some f (Some a) e = absurd (none-some (f a) (sym e))

  module _ (aliases : rules.Aliases) where
    permit_first : (a b : Bounds) → AllPermit items May aliases (accessed (a ++ b)) →
        AllPermit items May aliases (accessed a)
    permit_first a b p = places_of.permit_left items May aliases (accessed a) (accessed b)
        (subst (AllPermit items May aliases) (accessed_split a b) p)

    permit_rest : (a b : Bounds) → AllPermit items May aliases (accessed (a ++ b)) →
        AllPermit items May aliases (accessed b)
    permit_rest a b p = places_of.permit_right items May aliases (accessed a) (accessed b)
        (subst (AllPermit items May aliases) (accessed_split a b) p)

    is_moved : (ty : TyId) (by : Option Use) → by ≡ Some Use.Move → is_by (taking items ty) by ≡ true →
        is_copy items ty ≡ false
    is_moved ty by e h = copied (is_copy items ty) refl
        (subst (λ (b : Option Use). is_by (taking items ty) b ≡ true) e h)
      where
        copied : (c : Bool) → is_copy items ty ≡ c → is_by (if c then Use.Copy else Use.Move) (Some Use.Move) ≡ true →
            c ≡ false
        copied true k h = absurd (false≢true h)
        copied false k h = refl

    one_may : (id : ℕ) (at : Rattle.mir_base.specs.declared.place_in_text.Pos.Pos) (ty : TyId) (by : Option Use)
        (m : Matched) (place : Option AccessPlace) (q : Place) → SeenIf place q → Owned items May id →
        places_of.Permits items May aliases (record { access = access_of_binding by; place = place; root = None; at = at }) →
        MovedOut m place q → is_by (taking items ty) by ≡ true →
        (is_copy items ty || (m.may_move && not (types.is_dyn items ty))) ≡ true →
        BoundsMay May (record { key = id; ty = ty; takes = moves by; site = site_at (head id ty by) q } ∷ [])
    one_may id at ty by m place q s own p out h k =
        ((own [], places_of.taken_by items May by (site_at (head id ty by) q) may), tt)
      where
        movable : (c d e : Bool) → c ≡ false → (c || (d && e)) ≡ true → d ≡ true
        movable true d e x y = absurd (false≢true (sym x))
        movable false true e x y = refl
        movable false false e x y = absurd (false≢true y)

        seen_may : (o : Option AccessPlace) → place ≡ o → SeenIf o q → MaySeen items May o →
            (o ≡ None → Owned items May q.local) → May q
        seen_may None e s m f = f refl q.steps
        seen_may (Some a) e (is_seen _ _ s) m f = m q s

        may : by ≡ Some Use.Move → May q
        may e = seen_may place refl s
            (subst (λ (b : Option Use). rules.changes (access_of_binding b) ≡ true → MaySeen items May place) e p.changed refl)
            (λ n. out (movable (is_copy items ty) m.may_move (not (types.is_dyn items ty)) (is_moved ty by e h) k) n)

    mutual
      pub bounds_may : (p : Node) (m : Matched) (want : TyId) (place : Option AccessPlace) (q : Place) →
          Holds (patterns.pattern items m want p) → SeenIf place q → AllOwned items May (nodes_of p) →
          AllPermit items May aliases (accessed (bound place p)) → MovedOut m place q →
          BoundsMay May ((shape items p).bindings q)
      bounds_may (node id at ty by form) m want place q h s o p out = form_may form id at ty by m place q h.1 s o.0 o.1 p out

      form_may : (form : Form) (id : ℕ) (at : Rattle.mir_base.specs.declared.place_in_text.Pos.Pos) (ty : TyId)
          (by : Option Use) (m : Matched) (place : Option AccessPlace) (q : Place) →
          Holds (patterns.pattern_row items m ty by form) → SeenIf place q → Owned items May id →
          AllOwned items May (nodes_in form) → AllPermit items May aliases (accessed (bound_by place id at by form)) →
          MovedOut m place q → BoundsMay May ((shape_of items form (head id ty by)).bindings q)
      form_may (tree.Binding name) id at ty by m place q h s own o p out =
          one_may id at ty by m place q s own p.0 out h.0 h.1
      form_may (tree.StructPattern fields) id at ty by m place q h s own o p out =
          fields_may fields (patterns.within (has_drop_impl items ty) m) ty 0 ToPart
          (λ n a b t. part_seen items (ToPart n) n refl a b t) place q h.1.1.1 s o p
          (within_moved (has_drop_impl items ty) m place q out)
      form_may (tree.VariantPattern variant is_test fields) id at ty by m place q h s own o p out =
          fields_may fields (patterns.within (has_drop_impl items ty) m) ty variant (ToField variant)
          (λ n a b t. field_seen items variant n a b t) place q h.1.1.1 s o p
          (within_moved (has_drop_impl items ty) m place q out)
      form_may (tree.TuplePattern parts) id at ty by m place q h s own o p out =
          let t = some_holds (patterns.tuple_types items ty) (λ tys. patterns.part_patterns items m tys parts) h.1 in
          parts_may parts m t.0 0 place q t.1.1 s o p out
      form_may (tree.ArrayPattern elements) id at ty by m place q h s own o p out =
          let t = some_holds (types.array_of items ty)
          (λ a. patterns.part_patterns items m (replicate a.1 a.0) elements) h.1 in
          parts_may elements m (replicate t.0.1 t.0.0) 0 place q t.1.1 s o p out
      form_may form id at ty by m place q h s own o p out = tt

      fields_may : (fields : Fields) (m : Matched) (ty : TyId) (variant : ℕ) (step : ℕ → Step) →
          ((n : ℕ) (a : Option AccessPlace) (b : Place) → SeenIf a b →
          SeenIf (option_map (with_step (rules.ToPart n)) a) (extended (step n) b)) → (place : Option AccessPlace)
          (q : Place) → Holds (patterns.field_patterns items m ty variant fields) → SeenIf place q →
          AllOwned items May (nodes_of_fields fields) →
          AllPermit items May aliases (accessed (bound_fields place fields)) → MovedOut m place q →
          BoundsMay May ((in_fields items fields step).bindings q)
      fields_may no_field m ty variant step f place q h s o p out = tt
      fields_may (a_field number value rest) m ty variant step f place q h s o p out =
          let t = some_holds (field_ty items ty variant number) (λ want. patterns.pattern items m want value) h.0 in
          both_bounds ((shape items value).bindings (extended (step number) q)) ((in_fields items rest step).bindings q)
          (bounds_may value m t.0 (option_map (with_step (rules.ToPart number)) place) (extended (step number) q) t.1.1
          (f number place q s) (places_of.owned_left items May (nodes_of value) (nodes_of_fields rest) o)
          (permit_first (bound (option_map (with_step (rules.ToPart number)) place) value) (bound_fields place rest) p)
          (λ e n. out e (mapped_some (with_step (rules.ToPart number)) place n)))
          (fields_may rest m ty variant step f place q h.1 s
          (places_of.owned_right items May (nodes_of value) (nodes_of_fields rest) o)
          (permit_rest (bound (option_map (with_step (rules.ToPart number)) place) value) (bound_fields place rest) p)
          out)

      parts_may : (parts : Nodes) (m : Matched) (tys : List TyId) (k : ℕ) (place : Option AccessPlace) (q : Place) →
          Holds (patterns.part_patterns items m tys parts) → SeenIf place q →
          AllOwned items May (nodes_among parts) →
          AllPermit items May aliases (accessed (bound_parts place k parts)) → MovedOut m place q →
          BoundsMay May ((in_parts items parts k).bindings q)
      parts_may no_node m tys k place q h s o p out = tt
      parts_may (a_node first rest) m [] k place q h s o p out = absurd (false≢true h)
      parts_may (a_node first rest) m (ty ∷ tys) k place q h s o p out =
          both_bounds ((shape items first).bindings (extended (ToPart k) q)) ((in_parts items rest (suc k)).bindings q)
          (bounds_may first m ty (option_map (with_step (rules.ToPart k)) place) (extended (ToPart k) q) h.0
          (part_seen items (ToPart k) k refl place q s)
          (places_of.owned_left items May (nodes_of first) (nodes_among rest) o)
          (permit_first (bound (option_map (with_step (rules.ToPart k)) place) first) (bound_parts place (suc k) rest) p)
          (λ e n. out e (mapped_some (with_step (rules.ToPart k)) place n)))
          (parts_may rest m tys (suc k) place q h.1 s
          (places_of.owned_right items May (nodes_of first) (nodes_among rest) o)
          (permit_rest (bound (option_map (with_step (rules.ToPart k)) place) first) (bound_parts place (suc k) rest) p)
          out)
