-- The names of a pattern, as the pass over the forms needs them: all that the rules of typing bring into scope is
-- bound, what is bound has a cell of its type, and a whole local is bound only where it is matched whole. And what
-- stands around a node with such names in scope.
use Rattle.std.proofs.Common.{◌≡◌, ◌⊎◌, inl, inr, ℕ, suc, ◌==◌, ◌&&◌, Bool, true, false, List, [], ◌∷◌, ◌++◌, Option, Some, is_none, if◌then◌else◌, refl}
use Rattle.std.specs.List.{filter_map}
use Rattle.std.proofs.lemmas.Bool.{false≢true}
use Rattle.std.proofs.lemmas.Bool.Decides.{Decides-eqb}
use Rattle.std.proofs.lemmas.Option.{none-some}
use Rattle.std.specs.Prelude.{replicate}
use Rattle.mir_base.specs.declared.place_in_text.Pos.{Pos}
use Rattle.mir_ty.specs.declared.ty.TyId.{TyId}
use Rattle.mir_ty.specs.Facts.{has_drop_impl}
use Rattle.mir_ty.specs.ItemTable.{ItemTable}
use Rattle.mir_ty.specs.Parts.{field_ty}
use Rattle.store_model.specs.Effects.{Effects}
use Rattle.store_model.specs.Places.Place.{Step, ToPart, ToField, Place, whole_local}
use Rattle.typed_tree.specs.declared.node.Use.{Use}
use Rattle.typed_tree.specs.Nodes.{nodes_of, nodes_in, nodes_among, nodes_of_fields}
use Rattle.typed_tree.specs.Tree as tree
use Rattle.typed_tree.specs.Tree.{Node, node, Form, Nodes, no_node, a_node, Fields, no_field, a_field}
use Rattle.src_meaning.specs.Forms.{Destination, LoopsAndGuards, Meaning}
use Rattle.src_meaning.specs.Scopes.{Entry, Scopes, Exit, Does}
use Rattle.src_meaning.specs.Shape.{BoundName, extended, head, shape, shape_of, in_fields, in_parts}
use Rattle.well_typed.specs.Claim.{Holds}
use Rattle.well_typed.specs.Patterns as typing
use Rattle.well_typed.specs.Patterns.{Matched, binding_name, binding_entry, entries_of, has_no_names}
use Rattle.well_typed.specs.Places.{InScope, Context, entry_with}
use Rattle.well_typed.specs.Types as types
use Rattle.soundness_cells.proofs.PassClear.{KeepsClear}
use Rattle.soundness_values.proofs.PassHeads.{IsName}
use Rattle.soundness_cells.proofs.PassNodes as nodes
use Rattle.soundness_cells.proofs.PassPatterns as patterns
use Rattle.soundness_cells.proofs.PassScopes as scopes
use Rattle.soundness_cells.proofs.PassRules as rules
use Rattle.soundness_cells.proofs.PassSteps as steps
use Rattle.soundness_values.proofs.PlaceTypes.{some_holds}

-- among nodes is a name with this number
abbrev pub NameIn : List Node → ℕ → Type 0
NameIn [] key = ⊥
NameIn (node id at ty by form ∷ ns) key = (IsName form × (id ≡ key)) ⊎ NameIn ns key

pub name_split : (a b : List Node) (key : ℕ) → NameIn (a ++ b) key → NameIn a key ⊎ NameIn b key
name_split [] b key h = inr h
name_split (node id at ty by form ∷ a) b key (inl h) = inl (inl h)
name_split (node id at ty by form ∷ a) b key (inr h) = further (name_split a b key h)
  where
    further : NameIn a key ⊎ NameIn b key → NameIn (node id at ty by form ∷ a) key ⊎ NameIn b key
    further (inl x) = inl (inr x)
    further (inr x) = inr x

-- what is in scope by a pattern is one of its names
pub named_by : (ns : List Node) (key : ℕ) (x : InScope) → entry_with key (filter_map binding_entry ns) ≡ Some x → NameIn ns key
named_by [] key x e = absurd (none-some x e)
named_by (node id at ty by form ∷ ns) key x e = of_form form e (λ k. named_by ns key x k)
  where
    Rest : Type 0
    Rest = entry_with key (filter_map binding_entry ns) ≡ Some x → NameIn ns key

    found : (b : Bool) → (id == key) ≡ b →
        (if b then Some (record { key = id; ty = ty; is_in_guard = false }) else entry_with key (filter_map binding_entry ns)) ≡ Some x →
        Rest → (Unit {0} × (id ≡ key)) ⊎ NameIn ns key
    found true same e later = inl (tt, (Decides-eqb id key).0 same)
    found false other e later = inr (later e)

    of_form : (form : Form) → entry_with key (filter_map binding_entry (node id at ty by form ∷ ns)) ≡ Some x → Rest →
        (IsName form × (id ≡ key)) ⊎ NameIn ns key
    of_form (tree.Binding name) e later = found (id == key) refl e later
    of_form other e later = inr (later e)

-- where all names of a pattern have one number, so has what it brings into scope
pub found_binding : (p : Node) (k : ℕ) → ((key : ℕ) → NameIn (nodes_of p) key → k ≡ key) → (key : ℕ) (x : InScope) →
    entry_with key (entries_of p) ≡ Some x → k ≡ key
found_binding p k f key x e = f key (named_by (nodes_of p) key x e)

-- a pattern without names has none
no_names : (ns : List Node) (key : ℕ) → has_no_names (filter_map binding_name ns) ≡ true → NameIn ns key → ⊥
no_names [] key e h = h
no_names (node id at ty by form ∷ ns) key e h = of_form form e h (λ k x. no_names ns key k x)
  where
    Rest : Type 0
    Rest = has_no_names (filter_map binding_name ns) ≡ true → NameIn ns key → ⊥

    apart : (form : Form) → (IsName form → ⊥) → has_no_names (filter_map binding_name ns) ≡ true →
        (IsName form × (id ≡ key)) ⊎ NameIn ns key → Rest → ⊥
    apart form n e (inl x) later = n x.0
    apart form n e (inr x) later = later e x

    of_form : (form : Form) → has_no_names (filter_map binding_name (node id at ty by form ∷ ns)) ≡ true →
        (IsName form × (id ≡ key)) ⊎ NameIn ns key → Rest → ⊥
    of_form (tree.Binding name) e h later = false≢true e
    of_form other e h later = apart other (λ n. n) e h later

module _ {V : Type 0} (items : ItemTable) (needs : ℕ → Bool) (q : Effects V) (clear : V → ℕ → Type 0)
    (keeps : KeepsClear q needs clear) (fuel : ℕ) where
  abbrev Held : (ℕ → Type 0) → List Entry → V → Type 0
  Held = scopes.Held items needs q clear keeps

  abbrev After : Context → LoopsAndGuards → (ℕ → Type 0) → (Scopes → Type 0) → Exit → Scopes → V → Type 0
  After = scopes.After items needs q clear keeps

  abbrev AroundOk : Context → LoopsAndGuards → Scopes → Type 0
  AroundOk = scopes.AroundOk items needs

  abbrev Inside : Bool → Scopes → Scopes → Type 0
  Inside = scopes.Inside items needs

  abbrev Grown : Bool → Scopes → Scopes → Type 0
  Grown = scopes.Grown items needs

  abbrev Grows : Scopes → Scopes → Type 0
  Grows = scopes.Grows items needs

  abbrev Lands : Scopes → ℕ → Type 0
  Lands = scopes.Lands items needs

  abbrev Typed : Entry → Type 0
  Typed = scopes.Typed items needs

  abbrev Suits : TyId → Destination → Type 0
  Suits = scopes.Suits items needs

  abbrev Sound : Context → Meaning V → Type 0
  Sound = rules.Sound items needs q clear keeps

  abbrev DoesSo : Context → LoopsAndGuards → (ℕ → Type 0) → Does V → Type 0
  DoesSo = steps.DoesSo items needs q clear keeps

  abbrev AllBound : List BoundName → Type 0
  AllBound = patterns.AllBound items needs q clear keeps

  abbrev BoundIn : List BoundName → ℕ → Type 0
  BoundIn = patterns.BoundIn items needs q clear keeps

  abbrev Good : List Node → Type 0
  Good = nodes.Good items needs q clear keeps fuel

  -- what is bound as a whole local is the place itself
  abbrev pub AllRooted : Place → List BoundName → Type 0
  AllRooted place [] = Unit {0}
  AllRooted place (b ∷ bounds) = ((key : ℕ) → b.site.place ≡ whole_local key → place ≡ whole_local key)
      × AllRooted place bounds

  pub record PatternOk (ns : List Node) (place : Place) (bounds : List BoundName) : Type 0 where
    pub bound : AllBound bounds
    pub rooted : AllRooted place bounds
    pub covers : (key : ℕ) → NameIn ns key → BoundIn bounds key

  both_bound : (a b : List BoundName) → AllBound a → AllBound b → AllBound (a ++ b)
  both_bound [] b h k = k
  both_bound (x ∷ a) b h k = (h.0, both_bound a b h.1 k)

  both_rooted : (place : Place) (step : Step) (a b : List BoundName) → AllRooted (extended step place) a →
      AllRooted place b → AllRooted place (a ++ b)
  both_rooted place step [] b h k = k
  both_rooted place step (x ∷ a) b h k = (
    λ key e. absurd (nodes.no_whole items needs q clear keeps fuel step place key (h.0 key e)),
    both_rooted place step a b h.1 k,
  )

  bound_left : (a b : List BoundName) (key : ℕ) → BoundIn a key → BoundIn (a ++ b) key
  bound_left [] b key h = absurd h
  bound_left (x ∷ a) b key (inl h) = inl h
  bound_left (x ∷ a) b key (inr h) = inr (bound_left a b key h)

  bound_right : (a b : List BoundName) (key : ℕ) → BoundIn b key → BoundIn (a ++ b) key
  bound_right [] b key h = h
  bound_right (x ∷ a) b key h = inr (bound_right a b key h)

  part_ok : (ns ms : List Node) (place : Place) (step : Step) (a b : List BoundName) →
      PatternOk ns (extended step place) a → PatternOk ms place b → PatternOk (ns ++ ms) place (a ++ b)
  part_ok ns ms place step a b f g = record {
    bound = both_bound a b f.bound g.bound;
    rooted = both_rooted place step a b f.rooted g.rooted;
    covers = λ key h. by key (name_split ns ms key h);
  }
    where
      by : (key : ℕ) → NameIn ns key ⊎ NameIn ms key → BoundIn (a ++ b) key
      by key (inl h) = bound_left a b key (f.covers key h)
      by key (inr h) = bound_right a b key (g.covers key h)

  nothing_ok : (place : Place) → PatternOk [] place []
  nothing_ok place = record { bound = tt; rooted = tt; covers = λ key h. h }

  -- a node that is no name, by what is inside
  outside_ok : (id : ℕ) (at : Pos) (ty : TyId) (by : Option Use) (form : Form) (ns : List Node) (place : Place)
      (bounds : List BoundName) → (IsName form → ⊥) → PatternOk ns place bounds →
      PatternOk (node id at ty by form ∷ ns) place bounds
  outside_ok id at ty by form ns place bounds n h = record {
    bound = h.bound;
    rooted = h.rooted;
    covers = λ key x. inner key x;
  }
    where
      inner : (key : ℕ) → (IsName form × (id ≡ key)) ⊎ NameIn ns key → BoundIn bounds key
      inner key (inl x) = absurd (n x.0)
      inner key (inr x) = h.covers key x

  mutual
    pub pattern_ok : (p : Node) (m : Matched) (want : TyId) → Holds (typing.pattern items m want p) → Good (nodes_of p) →
        (place : Place) → PatternOk (nodes_of p) place ((shape items p).bindings place)
    pattern_ok (node id at ty by form) m want h g place = row_ok form id at ty by m h.1 g.0 g.1 place

    row_ok : (form : Form) (id : ℕ) (at : Pos) (ty : TyId) (by : Option Use) (m : Matched) →
        Holds (typing.pattern_row items m ty by form) →
        nodes.NeedsOk items needs q clear keeps fuel (node id at ty by form) → Good (nodes_in form) → (place : Place) →
        PatternOk (node id at ty by form ∷ nodes_in form) place ((shape_of items form (head id ty by)).bindings place)
    row_ok tree.Wildcard id at ty by m h n g place =
        outside_ok id at ty by tree.Wildcard [] place
        [] (λ n. n)
        (nothing_ok place)
    row_ok (tree.Binding name) id at ty by m h n g place = record {
      bound = (n, tt);
      rooted = ((λ key e. e), tt);
      covers = λ key x. own key x;
    }
      where
        own : (key : ℕ) → (Unit {0} × (id ≡ key)) ⊎ ⊥ → (id ≡ key) ⊎ ⊥
        own key (inl x) = inl x.1
        own key (inr x) = inr x
    row_ok (tree.NumberPattern value) id at ty by m h n g place =
        outside_ok id at ty by (tree.NumberPattern value) [] place
        [] (λ n. n)
        (nothing_ok place)
    row_ok (tree.TruthPattern value) id at ty by m h n g place =
        outside_ok id at ty by (tree.TruthPattern value) [] place
        [] (λ n. n)
        (nothing_ok place)
    row_ok (tree.StructPattern fields) id at ty by m h n g place =
        outside_ok id at ty by (tree.StructPattern fields) (nodes_of_fields fields) place
        ((in_fields items fields ToPart).bindings place) (λ n. n)
        (fields_ok fields (typing.within (has_drop_impl items ty) m) ty 0 ToPart h.1.1.1 g place)
    row_ok (tree.VariantPattern variant is_test fields) id at ty by m h n g place =
        outside_ok id at ty by (tree.VariantPattern variant is_test fields) (nodes_of_fields fields) place
        ((in_fields items fields (ToField variant)).bindings place) (λ n. n)
        (fields_ok fields (typing.within (has_drop_impl items ty) m) ty variant (ToField variant) h.1.1.1 g place)
    row_ok (tree.TuplePattern parts) id at ty by m h n g place =
        let t = some_holds (typing.tuple_types items ty) (λ tys. typing.part_patterns items m tys parts) h.1 in
        outside_ok id at ty by (tree.TuplePattern parts) (nodes_among parts) place
        ((in_parts items parts 0).bindings place) (λ n. n) (parts_ok parts m t.0 0 t.1.1 g place)
    row_ok (tree.ArrayPattern elements) id at ty by m h n g place =
        let t = some_holds (types.array_of items ty)
        (λ a. typing.part_patterns items m (replicate a.1 a.0) elements) h.1 in
        outside_ok id at ty by (tree.ArrayPattern elements) (nodes_among elements) place
        ((in_parts items elements 0).bindings place) (λ n. n)
        (parts_ok elements m (replicate t.0.1 t.0.0) 0 t.1.1 g place)
    row_ok (tree.OrPattern alternatives) id at ty by m h n g place =
        outside_ok id at ty by (tree.OrPattern alternatives) (nodes_among alternatives) place [] (λ n. n) (record {
          bound = tt;
          rooted = tt;
          covers = λ key x. absurd (no_names (nodes_among alternatives) key (second (is_none by) _ h.0) x);
        })
      where
        second : (a b : Bool) → (a && b) ≡ true → b ≡ true
        second true b e = e
        second false b e = absurd (false≢true e)
    row_ok other id at ty by m h n g place = absurd (false≢true h)

    fields_ok : (fields : Fields) (m : Matched) (ty : TyId) (variant : ℕ) (step : ℕ → Step) →
        Holds (typing.field_patterns items m ty variant fields) → Good (nodes_of_fields fields) → (place : Place) →
        PatternOk (nodes_of_fields fields) place ((in_fields items fields step).bindings place)
    fields_ok no_field m ty variant step h g place = nothing_ok place
    fields_ok (a_field number value rest) m ty variant step h g place =
        let t = some_holds (field_ty items ty variant number) (λ want. typing.pattern items m want value) h.0 in
        part_ok (nodes_of value) (nodes_of_fields rest) place (step number)
        ((shape items value).bindings (extended (step number) place)) ((in_fields items rest step).bindings place)
        (pattern_ok value m t.0 t.1.1 (nodes.good_left items needs q clear keeps fuel (nodes_of value) (nodes_of_fields rest) g) (extended (step number) place))
        (fields_ok rest m ty variant step h.1 (nodes.good_right items needs q clear keeps fuel (nodes_of value) (nodes_of_fields rest) g) place)

    parts_ok : (parts : Nodes) (m : Matched) (tys : List TyId) (n : ℕ) → Holds (typing.part_patterns items m tys parts) →
        Good (nodes_among parts) → (place : Place) →
        PatternOk (nodes_among parts) place ((in_parts items parts n).bindings place)
    parts_ok no_node m tys n h g place = nothing_ok place
    parts_ok (a_node first rest) m [] n h g place = absurd (false≢true h)
    parts_ok (a_node first rest) m (ty ∷ tys) n h g place =
        part_ok (nodes_of first) (nodes_among rest) place (ToPart n)
        ((shape items first).bindings (extended (ToPart n) place)) ((in_parts items rest (suc n)).bindings place)
        (pattern_ok first m ty h.0 (nodes.good_left items needs q clear keeps fuel (nodes_of first) (nodes_among rest) g) (extended (ToPart n) place))
        (parts_ok rest m tys (suc n) h.1 (nodes.good_right items needs q clear keeps fuel (nodes_of first) (nodes_among rest) g) place)
