-- Patterns of a place that is no reference, beside a local of a reference type: none of their names and tests is under its
-- key.
use Rattle.std.proofs.Common.{◌≡◌, ℕ, zero, suc, ◌&&◌, not, Bool, true, false, List, [], ◌∷◌, ◌++◌, Option, Some, replicate, if◌then◌else◌, refl, sym, ap, subst}
use Rattle.std.proofs.lemmas.Option.{same_Some}
use Rattle.std.specs.List.{list_all, filter_map}
use Rattle.std.proofs.lemmas.List.Elements.{filter_map-append}
use Rattle.mir_base.specs.declared.place_in_text.Pos.{Pos}
use Rattle.mir_ty.specs.declared.ty.TyId.{TyId}
use Rattle.mir_ty.specs.Parts.{field_ty}
use Rattle.store_model.specs.Places.Place.{Step, ToPart, ToField, Place}
use Rattle.typed_tree.specs.declared.node.Use.{Use}
use Rattle.typed_tree.specs.Nodes.{nodes_of, nodes_among, nodes_of_fields}
use Rattle.typed_tree.specs.Tree as tree
use Rattle.typed_tree.specs.Tree.{Node, Form, Nodes, no_node, a_node, Fields, no_field, a_field}
use Rattle.src_meaning.specs.Locals.OfBody.{cells, all_cells, cells_of_fields, bool_ty}
use Rattle.src_meaning.specs.Scopes.{Entry}
use Rattle.src_meaning.specs.Shape.{BoundName, PatternTests, no_test, a_test, followed_by, shape, in_fields, in_parts, alternatives_at, extended}
use Rattle.well_typed.specs.Claim.{Holds}
use Rattle.well_typed.specs.Patterns as patterns
use Rattle.well_typed.specs.Patterns.{Matched, binding_entry, entries_of}
use Rattle.well_typed.specs.Places.{InScope}
use Rattle.well_typed.specs.Types as types
use Rattle.lower_rules.proofs.KnownTypes.{same_number, never_known}
use Rattle.lower_laws.proofs.Base as base
use Rattle.lower_laws.proofs.Base.{Ground, untrue, and_first, and_second, found}
use Rattle.lower_ready.proofs.Once.{About}
use Rattle.lower_ready.proofs.OnceActs as on
use Rattle.lower_ready.proofs.OnceRules as by_rule

module _ (g : Ground) (L K : ℕ) (about : About g L K) (Q : Type 0) where
  abbrev NotRef : TyId → Type 0
  NotRef ty = by_rule.NotRef g L K about Q ty

  abbrev Cells : List Entry → Type 0
  Cells = base.CellsOk g

  abbrev FreePlace : Place → Type 0
  FreePlace place = by_rule.FreePlace g L K about Q place

  abbrev Bounds : List BoundName → Type 0
  Bounds bounds = by_rule.BoundsWell g L K about Q bounds

  abbrev Tests : PatternTests → Type 0
  Tests ts = on.TestsWell g L K about Q ts

  abbrev Others : List InScope → Type 0
  Others es = by_rule.Others g L K about Q es

  pub record PatternIs (p : Node) : Type 0 where
    pub bounds : (place : Place) → FreePlace place → Bounds ((shape g.items p).bindings place)
    pub tests : (place : Place) → FreePlace place → Tests ((shape g.items p).tests place)
    pub entries : Others (entries_of p)

  pub record PartsAre (bounds : Place → List BoundName) (tests : Place → PatternTests) (es : List InScope) : Type 0 where
    pub bounds_are : (place : Place) → FreePlace place → Bounds (bounds place)
    pub tests_are : (place : Place) → FreePlace place → Tests (tests place)
    pub entries : Others es

  part_free : (place : Place) (step : Step) → FreePlace place → FreePlace (extended step place)
  part_free place step f = by_rule.further g L K about Q place step f.0

  bounds_append : (xs ys : List BoundName) → Bounds xs → Bounds ys → Bounds (xs ++ ys)
  bounds_append [] ys h k = k
  bounds_append (x ∷ xs) ys h k = (h.0, bounds_append xs ys h.1 k)

  tests_append : (xs ys : PatternTests) → Tests xs → Tests ys → Tests (followed_by xs ys)
  tests_append no_test ys h k = k
  tests_append (a_test x xs) ys h k = (h.0, tests_append xs ys h.1 k)

  others_append : (xs ys : List InScope) → Others xs → Others ys → Others (xs ++ ys)
  others_append [] ys h k = k
  others_append (x ∷ xs) ys h k = (h.0, others_append xs ys h.1 k)

  -- the types of parts
  not_true : (b : Bool) → not b ≡ true → b ≡ false
  not_true true h = absurd (untrue h)
  not_true false h = refl

  abbrev AllNotRef : List TyId → Type 0
  AllNotRef tys = list_all (λ j. not (types.is_reference g.items j)) tys ≡ true

  tuple_not : (ty : TyId) (tys : List TyId) → patterns.tuple_types g.items ty ≡ Some tys → AllNotRef tys
  tuple_not ty tys e = by (types.is_unit g.items ty) e
    where
      by : (b : Bool) → (if b then Some [] else types.tuple_of g.items ty) ≡ Some tys → AllNotRef tys
      by true e = subst AllNotRef (same_Some [] tys e) refl
      by false e = about.tuples ty tys e

  both_so : (a b : Bool) → a ≡ true → b ≡ true → a && b ≡ true
  both_so true b e d = d
  both_so false b e d = e

  repeated_not : (count : ℕ) (ty : TyId) → NotRef ty → AllNotRef (replicate count ty)
  repeated_not zero ty n = refl
  repeated_not (suc count) ty n = both_so _ _ (ap not n) (repeated_not count ty n)

  same_not : (ty want : TyId) → types.is_same ty want ≡ true → NotRef want → NotRef ty
  same_not ty want e n = subst NotRef (sym (same_number ty want e)) n

  -- the test of a literal has a cell of type `bool`
  literal_out : (id : ℕ) → base.KeyIs g id (bool_ty g.items) → NotRef (bool_ty g.items) → id ≡ K → ⊥
  literal_out id k n = by_rule.keyed_away g L K about Q id (bool_ty g.items) k n

  mutual
    pub pattern_is : NotRef (bool_ty g.items) → (p : Node) (m : Matched) (want : TyId) → NotRef want → Holds (patterns.pattern g.items m want p) → Cells (cells g.items true p) → PatternIs p
    pattern_is nb (tree.node id at ty by form) m want n h c = row_is nb form id at ty by m (same_not ty want h.0 n) h.1 c

    row_is : NotRef (bool_ty g.items) → (form : Form) (id : ℕ) (at : Pos) (ty : TyId) (by : Option Use) (m : Matched) → NotRef ty → Holds (patterns.pattern_row g.items m ty by form) → Cells (cells g.items true (tree.node id at ty by form)) → PatternIs (tree.node id at ty by form)
    row_is nb tree.Wildcard id at ty by m n h c = record { bounds = λ place f. tt; tests = λ place f. tt; entries = tt }
    row_is nb (tree.Binding name) id at ty by m n h c =
        let out = by_rule.keyed_away g L K about Q id ty (base.by_never g ty (λ v. (rw v at c).0) (λ v. (rw v at c).0)) n in
        record { bounds = λ place f. ((out, f), tt); tests = λ place f. tt; entries = (out, tt) }
    row_is nb (tree.NumberPattern value) id at ty by m n h c =
        record { bounds = λ place f. tt; tests = λ place f. ((base.by_never g ty (λ v. absurd (number_made v)) (λ v. literal_out id (rw v at c).0 nb), f.0), tt); entries = tt }
      where
        number_made : base.Never g ty → ⊥
        number_made v = let e = never_known g.items ty v in untrue (rw e at h.1)
    row_is nb (tree.TruthPattern value) id at ty by m n h c =
        record { bounds = λ place f. tt; tests = λ place f. ((base.by_never g ty (λ v. absurd (truth_made v)) (λ v. literal_out id (rw v at c).0 nb), f.0), tt); entries = tt }
      where
        truth_made : base.Never g ty → ⊥
        truth_made v = let e = never_known g.items ty v in untrue (rw e at h.1)
    row_is nb (tree.StructPattern fields) id at ty by m n h c =
        let it = fields_are nb fields _ ty 0 ToPart h.1.1.1 (base.cells_second g _ (cells_of_fields g.items fields) c) in
        record { bounds = it.bounds_are; tests = it.tests_are; entries = it.entries }
    row_is nb (tree.VariantPattern variant true fields) id at ty by m n h c =
        let it = fields_are nb fields _ ty variant (ToField variant) h.1.1.1 (base.cells_second g _ (cells_of_fields g.items fields) c) in
        record { bounds = it.bounds_are; tests = λ place f. (f.0, it.tests_are place f); entries = it.entries }
    row_is nb (tree.VariantPattern variant false fields) id at ty by m n h c =
        let it = fields_are nb fields _ ty variant (ToField variant) h.1.1.1 (base.cells_second g _ (cells_of_fields g.items fields) c) in
        record { bounds = it.bounds_are; tests = it.tests_are; entries = it.entries }
    row_is nb (tree.TuplePattern parts) id at ty by m n h c =
        let tys = found (patterns.tuple_types g.items ty) _ h.1 in
        let it = parts_are nb parts m tys.0 0 (tuple_not ty tys.0 tys.1) tys.2 (base.cells_second g _ (all_cells g.items parts) c) in
        record { bounds = it.bounds_are; tests = it.tests_are; entries = it.entries }
    row_is nb (tree.ArrayPattern elements) id at ty by m n h c =
        let a = found (types.array_of g.items ty) _ h.1 in
        let it = parts_are nb elements m (replicate a.0.1 a.0.0) 0 (repeated_not a.0.1 a.0.0 (about.arrays ty a.0 a.1)) a.2 (base.cells_second g _ (all_cells g.items elements) c) in
        record { bounds = it.bounds_are; tests = it.tests_are; entries = it.entries }
    row_is nb (tree.OrPattern alternatives) id at ty by m n h c =
        let it = each_is nb alternatives m ty n h.1.1 (base.cells_second g _ (all_cells g.items alternatives) c) in
        record { bounds = λ place f. tt; tests = λ place f. (it.0 place f, tt); entries = it.1 }
    row_is nb other id at ty by m n h c = absurd (untrue h)

    fields_are : NotRef (bool_ty g.items) → (fs : Fields) (m : Matched) (ty : TyId) (v : ℕ) (step : ℕ → Step) → Holds (patterns.field_patterns g.items m ty v fs) → Cells (cells_of_fields g.items fs) → PartsAre (in_fields g.items fs step).bindings (in_fields g.items fs step).tests (filter_map binding_entry (nodes_of_fields fs))
    fields_are nb no_field m ty v step h c = record { bounds_are = λ place f. tt; tests_are = λ place f. tt; entries = tt }
    fields_are nb (a_field number value rest) m ty v step h c =
        let want = found (field_ty g.items ty v number) _ h.0 in
        let one = pattern_is nb value m want.0 (about.fields ty v number want.0 want.1) want.2 (base.cells_first g (cells g.items true value) (cells_of_fields g.items rest) c) in
        let others = fields_are nb rest m ty v step h.1 (base.cells_second g (cells g.items true value) (cells_of_fields g.items rest) c) in
        record {
          bounds_are = λ place f. bounds_append _ _ (one.bounds (extended (step number) place) (part_free place (step number) f)) (others.bounds_are place f);
          tests_are = λ place f. tests_append _ _ (one.tests (extended (step number) place) (part_free place (step number) f)) (others.tests_are place f);
          entries = subst Others (sym (filter_map-append binding_entry (nodes_of value) (nodes_of_fields rest))) (others_append _ _ one.entries others.entries);
        }

    parts_are : NotRef (bool_ty g.items) → (ns : Nodes) (m : Matched) (tys : List TyId) (k : ℕ) → AllNotRef tys → Holds (patterns.part_patterns g.items m tys ns) → Cells (all_cells g.items ns) → PartsAre (in_parts g.items ns k).bindings (in_parts g.items ns k).tests (filter_map binding_entry (nodes_among ns))
    parts_are nb no_node m tys k n h c = record { bounds_are = λ place f. tt; tests_are = λ place f. tt; entries = tt }
    parts_are nb (a_node first rest) m [] k n h c = absurd (untrue h)
    parts_are nb (a_node first rest) m (want ∷ tys) k n h c =
        let one = pattern_is nb first m want (not_true (types.is_reference g.items want) (and_first _ _ n)) h.0 (base.cells_first g (cells g.items true first) (all_cells g.items rest) c) in
        let others = parts_are nb rest m tys (suc k) (and_second (not (types.is_reference g.items want)) _ n) h.1 (base.cells_second g (cells g.items true first) (all_cells g.items rest) c) in
        record {
          bounds_are = λ place f. bounds_append _ _ (one.bounds (extended (ToPart k) place) (part_free place (ToPart k) f)) (others.bounds_are place f);
          tests_are = λ place f. tests_append _ _ (one.tests (extended (ToPart k) place) (part_free place (ToPart k) f)) (others.tests_are place f);
          entries = subst Others (sym (filter_map-append binding_entry (nodes_of first) (nodes_among rest))) (others_append _ _ one.entries others.entries);
        }

    each_is : NotRef (bool_ty g.items) → (ns : Nodes) (m : Matched) (ty : TyId) → NotRef ty → Holds (patterns.each_pattern g.items m ty ns) → Cells (all_cells g.items ns) → ((place : Place) → FreePlace place → on.AnyWell g L K about Q (alternatives_at g.items ns place)) × Others (filter_map binding_entry (nodes_among ns))
    each_is nb no_node m ty n h c = (λ place f. tt, tt)
    each_is nb (a_node first rest) m ty n h c =
        let one = pattern_is nb first m ty n h.0 (base.cells_first g (cells g.items true first) (all_cells g.items rest) c) in
        let others = each_is nb rest m ty n h.1 (base.cells_second g (cells g.items true first) (all_cells g.items rest) c) in
        (λ place f. (one.tests place f, others.0 place f), subst Others (sym (filter_map-append binding_entry (nodes_of first) (nodes_among rest))) (others_append _ _ one.entries others.1))
