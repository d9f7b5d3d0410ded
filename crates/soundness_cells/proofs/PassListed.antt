-- The types of names in scope, of places and of what patterns take are in the table of types.
use Rattle.std.proofs.Common.{◌≡◌, ℕ, zero, suc, ◌==◌, ◌&&◌, Bool, true, false, List, [], ◌∷◌, ◌++◌, Option, Some, None, is_some, if◌then◌else◌, refl, ap, sym, ◌∙◌, subst}
use Rattle.std.specs.Prelude.{replicate}
use Rattle.std.specs.List.{filter_map, cons_option, list_all}
use Rattle.std.proofs.lemmas.Bool.{false≢true}
use Rattle.std.proofs.lemmas.Option.{none-some, same_Some}
use Rattle.mir_base.specs.declared.place_in_text.Pos.{Pos}
use Rattle.mir_ty.specs.declared.ty.TyId.{TyId}
use Rattle.mir_ty.specs.ItemTable.{ItemTable, type_at}
use Rattle.mir_ty.specs.Parts.{field_ty}
use Rattle.typed_tree.specs.declared.node.Use.{Use}
use Rattle.typed_tree.specs.Nodes.{nodes_of, nodes_in, nodes_among, nodes_of_fields}
use Rattle.typed_tree.specs.Tree as tree
use Rattle.typed_tree.specs.Tree.{Node, node, Form, Nodes, no_node, a_node, Fields, no_field, a_field, absent, present}
use Rattle.well_typed.specs.Claim.{Claim, Holds, fact, both, some}
use Rattle.well_typed.specs.Items.{stands_alone}
use Rattle.well_typed.specs.Nodes as typing
use Rattle.well_typed.specs.Patterns as patterns
use Rattle.well_typed.specs.Patterns.{Matched, binding_entry, entries_of}
use Rattle.well_typed.specs.Places.{InScope, Context, entry_with, in_guard, ty_of, is_place}
use Rattle.well_typed.specs.Types as types
use Rattle.soundness_cells.proofs.PassCellPatterns.{Told}
use Rattle.soundness_cells.proofs.PassCellTypes as facts
use Rattle.soundness_cells.proofs.PassFacts.{Standpoint, context, with_names, behind}
use Rattle.soundness_values.proofs.PlaceTypes.{some_holds, same_type}

module _ (items : ItemTable) where
  abbrev pub Lists : TyId → Type 0
  Lists ty = is_some (type_at items ty) ≡ true

  -- so is the type of each name in scope
  abbrev pub Listed : Standpoint → Type 0
  Listed x = (key : ℕ) (y : InScope) → entry_with key x.entries ≡ Some y → Lists y.ty

  abbrev pub AllListed : List InScope → Type 0
  AllListed [] = Unit {0}
  AllListed (y ∷ es) = Lists y.ty × AllListed es

  pub guard_listed : (es : List InScope) → AllListed es → AllListed (in_guard es)
  guard_listed [] a = tt
  guard_listed (y ∷ es) a = (a.0, guard_listed es a.1)

  pub with_listed : (es : List InScope) (x : Standpoint) → AllListed es → Listed x → Listed (with_names es x)
  with_listed [] x a l key y e = l key y e
  with_listed (z ∷ es) x a l key y e = by (z.key == key) e (λ f. with_listed es x a.1 l key y f)
    where
      by : (b : Bool) → (if b then Some z else entry_with key (es ++ x.entries)) ≡ Some y →
          (entry_with key (es ++ x.entries) ≡ Some y → Lists y.ty) → Lists y.ty
      by true f later = subst (λ (w : InScope). Lists w.ty) (same_Some z y f) a.0
      by false f later = later f

  same_listed : (a b : TyId) → types.is_same a b ≡ true → Lists b → Lists a
  same_listed a b e l = subst Lists (sym (same_type a b e)) l

  alone_listed : (ty : TyId) → stands_alone items ty ≡ true → Lists ty
  alone_listed ty h = facts.left_of (is_some (type_at items ty)) _ h

  all_alone : (n : ℕ) (ty : TyId) → stands_alone items ty ≡ true → list_all (stands_alone items) (replicate n ty) ≡ true
  all_alone zero ty h = refl
  all_alone (suc n) ty h =
      ap (λ b. b && list_all (stands_alone items) (replicate n ty)) h ∙ all_alone n ty h

  module _ (told : Told items) where
    -- ---- places

    pub place_listed : (form : Form) (x : Standpoint) (id : ℕ) (ty : TyId) → Listed x →
        Holds (typing.row (context items x) id ty form) → is_place form ≡ true → Lists ty
    place_listed (tree.Variable key) x id ty l h p =
        let y = some_holds (entry_with key x.entries) (λ y. fact (types.is_same ty y.ty)) h in
        same_listed ty y.0.ty y.1.1 (l key y.0 y.1.0)
    place_listed (tree.Captured closure part name) x id ty l h p =
        let y = some_holds x.closure (λ y. both (fact (y.key == closure))
        (some (field_ty items y.ty 0 part) (λ t. fact (types.is_same ty t)))) h in
        let t = some_holds (field_ty items y.0.ty 0 part) (λ t. fact (types.is_same ty t)) y.1.1.1 in
        same_listed ty t.0 t.1.1 (told.listed_fields y.0.ty 0 part t.0 t.1.0)
    place_listed (tree.Field base part) x id ty l h p =
        let t = some_holds (field_ty items (ty_of base) 0 part) (λ t. fact (types.is_same ty t)) h.1.1 in
        same_listed ty t.0 t.1.1 (told.listed_fields (ty_of base) 0 part t.0 t.1.0)
    place_listed (tree.Index base index count) x id ty l h p =
        let a = some_holds (types.array_of items (ty_of base))
        (λ a. fact (types.is_same ty a.0 && count == a.1)) h.1.1.1 in
        same_listed ty a.0.0 (facts.left_of (types.is_same ty a.0.0) _ a.1.1)
        (alone_listed a.0.0 (told.arrays (ty_of base) a.0 a.1.0))
    place_listed (tree.Deref base) x id ty l h p =
        let t = some_holds (types.inside_of items (ty_of base)) (λ t. fact (types.is_same ty t)) h.1 in
        same_listed ty t.0 t.1.1 (told.listed_inside (ty_of base) t.0 t.1.0)
    place_listed form x id ty l h p = absurd (false≢true p)

    -- ---- names of patterns

    abbrev AllNames : List Node → Type 0
    AllNames [] = Unit {0}
    AllNames (n ∷ ns) = ((y : InScope) → binding_entry n ≡ Some y → Lists y.ty) × AllNames ns

    both_names : (a b : List Node) → AllNames a → AllNames b → AllNames (a ++ b)
    both_names [] b f g = g
    both_names (n ∷ a) b f g = (f.0, both_names a b f.1 g)

    names_in : (ns : List Node) → AllNames ns → AllListed (filter_map binding_entry ns)
    names_in [] a = tt
    names_in (n ∷ ns) a = by (binding_entry n) refl (names_in ns a.1)
      where
        by : (o : Option InScope) → binding_entry n ≡ o → AllListed (filter_map binding_entry ns) →
            AllListed (cons_option o (filter_map binding_entry ns))
        by None e later = later
        by (Some y) e later = (a.0 y e, later)

    tuple_listed : (b : Bool) (ty : TyId) (tys : List TyId) →
        (if b then Some [] else types.tuple_of items ty) ≡ Some tys → list_all (stands_alone items) tys ≡ true
    tuple_listed true ty tys e = subst (λ l. list_all (stands_alone items) l ≡ true) (same_Some [] tys e) refl
    tuple_listed false ty tys e = told.tuples ty tys e

    mutual
      in_pattern : (p : Node) (m : Matched) (want : TyId) → Holds (patterns.pattern items m want p) → Lists want →
          AllNames (nodes_of p)
      in_pattern (node id at ty by form) m want h l =
          let t = same_listed ty want h.0 l in
          (λ y e. own_listed form id at ty by t y e, in_form form m id at ty by h.1 t)

      own_listed : (form : Form) (id : ℕ) (at : Pos) (ty : TyId) (by : Option Use) → Lists ty → (y : InScope) →
          binding_entry (node id at ty by form) ≡ Some y → Lists y.ty
      own_listed (tree.Binding name) id at ty by l y e =
          let same : record { key = id; ty = ty; is_in_guard = false } ≡ y = same_Some _ y e in
          subst (λ (w : InScope). Lists w.ty) same l
      own_listed form id at ty by l y e = absurd (none-some y e)

      in_form : (form : Form) (m : Matched) (id : ℕ) (at : Pos) (ty : TyId) (by : Option Use) →
          Holds (patterns.pattern_row items m ty by form) → Lists ty → AllNames (nodes_in form)
      in_form tree.Wildcard m id at ty by h l = tt
      in_form (tree.Binding name) m id at ty by h l = tt
      in_form (tree.NumberPattern value) m id at ty by h l = tt
      in_form (tree.TruthPattern value) m id at ty by h l = tt
      in_form (tree.StructPattern fields) m id at ty by h l = in_fields fields _ ty 0 h.1.1.1
      in_form (tree.VariantPattern variant is_test fields) m id at ty by h l = in_fields fields _ ty variant h.1.1.1
      in_form (tree.TuplePattern parts) m id at ty by h l =
          let t = some_holds (patterns.tuple_types items ty) (λ tys. patterns.part_patterns items m tys parts) h.1 in
          in_parts parts m t.0 t.1.1 (tuple_listed (types.is_unit items ty) ty t.0 t.1.0)
      in_form (tree.ArrayPattern elements) m id at ty by h l =
          let t = some_holds (types.array_of items ty)
          (λ a. patterns.part_patterns items m (replicate a.1 a.0) elements) h.1 in
          in_parts elements m (replicate t.0.1 t.0.0) t.1.1 (all_alone t.0.1 t.0.0 (told.arrays ty t.0 t.1.0))
      in_form (tree.OrPattern alternatives) m id at ty by h l = in_each alternatives m ty h.1.1 l
      in_form form m id at ty by h l = absurd (false≢true h)

      in_fields : (fs : Fields) (m : Matched) (ty : TyId) (variant : ℕ) →
          Holds (patterns.field_patterns items m ty variant fs) → AllNames (nodes_of_fields fs)
      in_fields no_field m ty variant h = tt
      in_fields (a_field number value rest) m ty variant h =
          let t = some_holds (field_ty items ty variant number) (λ want. patterns.pattern items m want value) h.0 in
          both_names (nodes_of value) (nodes_of_fields rest)
          (in_pattern value m t.0 t.1.1 (told.listed_fields ty variant number t.0 t.1.0))
          (in_fields rest m ty variant h.1)

      in_parts : (ns : Nodes) (m : Matched) (tys : List TyId) → Holds (patterns.part_patterns items m tys ns) →
          list_all (stands_alone items) tys ≡ true → AllNames (nodes_among ns)
      in_parts no_node m tys h a = tt
      in_parts (a_node one rest) m [] h a = absurd (false≢true h)
      in_parts (a_node one rest) m (t ∷ tys) h a = both_names (nodes_of one) (nodes_among rest)
          (in_pattern one m t h.0 (alone_listed t (facts.left_of (stands_alone items t) _ a)))
          (in_parts rest m tys h.1 (facts.right_of (stands_alone items t) _ a))

      in_each : (ns : Nodes) (m : Matched) (ty : TyId) → Holds (patterns.each_pattern items m ty ns) → Lists ty →
          AllNames (nodes_among ns)
      in_each no_node m ty h l = tt
      in_each (a_node one rest) m ty h l =
          both_names (nodes_of one) (nodes_among rest) (in_pattern one m ty h.0 l) (in_each rest m ty h.1 l)

    pub names_listed : (p : Node) (m : Matched) (want : TyId) → Holds (patterns.pattern items m want p) → Lists want →
        AllListed (entries_of p)
    names_listed p m want h l = names_in (nodes_of p) (in_pattern p m want h l)

    -- ---- statements

    pub entries_listed : (form : Form) (x : Standpoint) → Holds (typing.statement (context items x) form) →
        AllListed (typing.entries_in form)
    entries_listed (tree.Let p absent) x h = names_listed p _ (ty_of p) h.1.0 h.1.1.0
    entries_listed (tree.Let p (present value)) x h = names_listed p _ (ty_of p) h.1.1.0 h.1.1.1.1.1
    entries_listed (tree.Evaluate expression) x h = tt
    entries_listed form x h = absurd (false≢true h)

    pub behind_listed : (ns : Nodes) (x : Standpoint) (rest : Context → Claim) →
        Holds (typing.statements (context items x) ns rest) → Listed x → Listed (behind x ns)
    behind_listed no_node x rest h l = l
    behind_listed (a_node (node id at ty by form) more) x rest h l =
        behind_listed more (with_names (typing.entries_in form) x) rest h.1.1
        (with_listed (typing.entries_in form) x (entries_listed form x h.1.0) l)
