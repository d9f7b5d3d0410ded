-- Types that hold no reference, and patterns, which carry nothing.
use Rattle.std.proofs.Common.{◌≡◌, ◌⊎◌, inl, inr, ℕ, ◌==◌, ◌&&◌, ◌||◌, not, Bool, true, false, List, [], ◌∷◌, ◌++◌, Option, Some, None, is_some, if◌then◌else◌, refl, ap, sym, ◌∙◌, subst}
use Rattle.std.specs.Prelude.{option_and_then, replicate}
use Rattle.std.specs.List.{filter_map, cons_option, list_all, list_any}
use Rattle.std.specs.Option.{option_map_or}
use Rattle.std.proofs.lemmas.Bool.{false≢true}
use Rattle.std.proofs.lemmas.Option.{none-some}
use Rattle.mir_base.specs.declared.int_kind.IntKind.{IntKind}
use Rattle.mir_base.specs.declared.place_in_text.Pos.{Pos}
use Rattle.mir_ty.specs.declared.ty.Ty.{Ty}
use Rattle.mir_ty.specs.declared.ty.TyId.{TyId}
use Rattle.mir_ty.specs.ItemTable.{ItemTable, type_at}
use Rattle.mir_ty.specs.Parts.{field_ty}
use Rattle.typed_tree.specs.declared.node.Use.{Use}
use Rattle.typed_tree.specs.Nodes.{nodes_of, nodes_among, nodes_of_fields}
use Rattle.typed_tree.specs.Tree as tree
use Rattle.typed_tree.specs.Tree.{Node, node, Form, Nodes, no_node, a_node, Fields, no_field, a_field, MaybeNode}
use Rattle.well_typed.specs.Claim.{Claim, Holds}
use Rattle.well_typed.specs.Nodes as typing
use Rattle.well_typed.specs.Patterns as patterns
use Rattle.well_typed.specs.Patterns.{Matched, entries_of}
use Rattle.well_typed.specs.Places.{LoopAround, Context, in_guard}
use Rattle.well_typed.specs.Types as types
use Rattle.soundness_cells.proofs.PassCellPatterns.{Told}
use Rattle.soundness_cells.proofs.PassCellTypes as facts
use Rattle.soundness_cells.proofs.PassFacts.{Standpoint, context, with_names, in_a_loop, behind}
use Rattle.soundness_cells.proofs.PassListed.{Lists, Listed, guard_listed, with_listed, names_listed, entries_listed, behind_listed}
use Rattle.soundness_values.proofs.PlaceTypes.{some_holds, same_type}

-- ---- types by their forms

abbrev names_one : Option Ty → Bool
names_one None = true
names_one (Some (Ty.Shared to)) = true
names_one (Some (Ty.Unique to)) = true
names_one (Some (Ty.Dyn n)) = true
names_one (Some ty) = false

-- no type in the table, a reference, or a trait object by itself
abbrev pub is_bad : ItemTable → TyId → Bool
is_bad items ty = names_one (type_at items ty)

by_test : (test : Ty → Bool) → ((to : TyId) → test (Ty.Shared to) ≡ false) → ((to : TyId) → test (Ty.Unique to) ≡ false) →
    ((n : ℕ) → test (Ty.Dyn n) ≡ false) → (o : Option Ty) → option_map_or test o false ≡ true → names_one o ≡ false
by_test test s u d None e = absurd (false≢true e)
by_test test s u d (Some (Ty.Shared to)) e = absurd (false≢true (sym (s to) ∙ e))
by_test test s u d (Some (Ty.Unique to)) e = absurd (false≢true (sym (u to) ∙ e))
by_test test s u d (Some (Ty.Dyn n)) e = absurd (false≢true (sym (d n) ∙ e))
by_test test s u d (Some ty) e = refl

pub by_part : {A : Type 0} (part : Ty → Option A) → ((to : TyId) → part (Ty.Shared to) ≡ None) →
    ((to : TyId) → part (Ty.Unique to) ≡ None) → ((n : ℕ) → part (Ty.Dyn n) ≡ None) →
    (o : Option Ty) (a : A) → option_and_then part o ≡ Some a →
    names_one o ≡ false
by_part part s u d None a e = absurd (none-some a e)
by_part part s u d (Some (Ty.Shared to)) a e = absurd (none-some a (sym (s to) ∙ e))
by_part part s u d (Some (Ty.Unique to)) a e = absurd (none-some a (sym (u to) ∙ e))
by_part part s u d (Some (Ty.Dyn n)) a e = absurd (none-some a (sym (d n) ∙ e))
by_part part s u d (Some ty) a e = refl

pub by_kind : (test : IntKind → Bool) (o : Option Ty) → option_map_or test (option_and_then types.kind_in o) false ≡ true →
    names_one o ≡ false
by_kind test None e = absurd (false≢true e)
by_kind test (Some (Ty.Shared to)) e = absurd (false≢true e)
by_kind test (Some (Ty.Unique to)) e = absurd (false≢true e)
by_kind test (Some (Ty.Dyn k)) e = absurd (false≢true e)
by_kind test (Some ty) e = refl

pub by_number : (o : Option Ty) → is_some (option_and_then types.kind_in o) ≡ true → names_one o ≡ false
by_number None e = absurd (false≢true e)
by_number (Some (Ty.Shared to)) e = absurd (false≢true e)
by_number (Some (Ty.Unique to)) e = absurd (false≢true e)
by_number (Some (Ty.Dyn k)) e = absurd (false≢true e)
by_number (Some ty) e = refl

pub by_adt : (n : ℕ) (o : Option Ty) → option_map_or (λ m. m == n) (option_and_then types.adt_in o) false ≡ true →
    names_one o ≡ false
by_adt n None e = absurd (false≢true e)
by_adt n (Some (Ty.Shared to)) e = absurd (false≢true e)
by_adt n (Some (Ty.Unique to)) e = absurd (false≢true e)
by_adt n (Some (Ty.Dyn k)) e = absurd (false≢true e)
by_adt n (Some ty) e = refl

pub by_closure : (n : ℕ) (o : Option Ty) → option_map_or (λ m. m == n) (option_and_then types.closure_in o) false ≡ true →
    names_one o ≡ false
by_closure n None e = absurd (false≢true e)
by_closure n (Some (Ty.Shared to)) e = absurd (false≢true e)
by_closure n (Some (Ty.Unique to)) e = absurd (false≢true e)
by_closure n (Some (Ty.Dyn k)) e = absurd (false≢true e)
by_closure n (Some ty) e = refl

-- a box of a trait object
pub by_object : (n : ℕ) (dyn_of : TyId → Option ℕ) (o : Option Ty) →
    option_map_or (λ m. m == n) (option_and_then dyn_of (option_and_then types.boxed_in o)) false ≡ true →
    names_one o ≡ false
by_object n dyn_of None e = absurd (false≢true e)
by_object n dyn_of (Some (Ty.Shared to)) e = absurd (false≢true e)
by_object n dyn_of (Some (Ty.Unique to)) e = absurd (false≢true e)
by_object n dyn_of (Some (Ty.Dyn k)) e = absurd (false≢true e)
by_object n dyn_of (Some ty) e = refl

-- ---- none of some values

pub none_both : {A B : Type 0} (f : A → Option B) (test : B → Bool) (a b : List A) →
    list_any test (filter_map f a) ≡ false → list_any test (filter_map f b) ≡ false →
    list_any test (filter_map f (a ++ b)) ≡ false
none_both f test [] b h k = k
none_both {A} {B} f test (x ∷ a) b h k = by (f x) h (λ i. none_both f test a b i k)
  where
    by : (o : Option B) → list_any test (cons_option o (filter_map f a)) ≡ false →
        (list_any test (filter_map f a) ≡ false → list_any test (filter_map f (a ++ b)) ≡ false) →
        list_any test (cons_option o (filter_map f (a ++ b))) ≡ false
    by None h later = later h
    by (Some y) h later = one (test y) h
      where
        one : (c : Bool) → (c || list_any test (filter_map f a)) ≡ false →
            (c || list_any test (filter_map f (a ++ b))) ≡ false
        one true h = absurd (false≢true (sym h))
        one false h = later h

module _ (items : ItemTable) (told : Told items) where
  -- where the types of all names in scope are in the table
  abbrev pub Known : Type 0
  Known = (x : Standpoint) × Listed items x

  abbrev K : Known → Context
  K x = context items x.0

  abbrev looped : LoopAround → Known → Known
  looped a x = (in_a_loop a x.0, x.1)

  -- of such a type
  abbrev Plain : TyId → Type 0
  Plain ty = is_bad items ty ≡ false

  abbrev pub AllPlain : List TyId → Type 0
  AllPlain [] = Unit {0}
  AllPlain (ty ∷ tys) = Plain ty × AllPlain tys

  one_of_plain : (ty : TyId) (tys : List TyId) → list_any (types.is_same ty) tys ≡ true → AllPlain tys → Plain ty
  one_of_plain ty [] e p = absurd (false≢true e)
  one_of_plain ty (t ∷ tys) e p = by (facts.one_of (types.is_same ty t) (list_any (types.is_same ty) tys) e)
      (λ f. one_of_plain ty tys f p.1)
    where
      by : (types.is_same ty t ≡ true) ⊎ (list_any (types.is_same ty) tys ≡ true) →
          (list_any (types.is_same ty) tys ≡ true → Plain ty) → Plain ty
      by (inl same) later = subst Plain (sym (same_type ty t same)) p.0
      by (inr rest) later = later rest

  pub never_plain : (ty : TyId) → types.is_never items ty ≡ true → Plain ty
  never_plain ty e = by_test types.is_never_ty (λ to. refl) (λ to. refl) (λ k. refl) (type_at items ty) e

  pub unit_plain : (ty : TyId) → types.is_unit items ty ≡ true → Plain ty
  unit_plain ty e = by_test types.is_unit_ty (λ to. refl) (λ to. refl) (λ k. refl) (type_at items ty) e

  pub bool_plain : (ty : TyId) → types.is_bool items ty ≡ true → Plain ty
  bool_plain ty e = by_test types.is_bool_ty (λ to. refl) (λ to. refl) (λ k. refl) (type_at items ty) e

  pub alone_plain : (o : Option Ty) → is_some o ≡ true → (not (Rattle.store_model.specs.Places.Place.is_reference o)
      && not (Rattle.store_model.specs.Places.TypeForms.is_dyn o)) ≡ true → names_one o ≡ false
  alone_plain None l e = absurd (false≢true l)
  alone_plain (Some (Ty.Shared to)) l e = absurd (false≢true e)
  alone_plain (Some (Ty.Unique to)) l e = absurd (false≢true e)
  alone_plain (Some (Ty.Dyn n)) l e = absurd (false≢true e)
  alone_plain (Some ty) l e = refl

  -- neither a reference nor a trait object
  pub plain_alone : (o : Option Ty) → names_one o ≡ false → (not (Rattle.store_model.specs.Places.Place.is_reference o)
      && not (Rattle.store_model.specs.Places.TypeForms.is_dyn o)) ≡ true
  plain_alone None e = absurd (false≢true (sym e))
  plain_alone (Some (Ty.Shared to)) e = absurd (false≢true (sym e))
  plain_alone (Some (Ty.Unique to)) e = absurd (false≢true (sym e))
  plain_alone (Some (Ty.Dyn n)) e = absurd (false≢true (sym e))
  plain_alone (Some ty) e = refl

  -- so no reference
  pub no_reference : (ty : TyId) → Plain ty → types.is_reference items ty ≡ false
  no_reference ty e = by (type_at items ty) e
    where
      by : (o : Option Ty) → names_one o ≡ false → is_some (option_and_then types.reference_in o) ≡ false
      by None e = refl
      by (Some (Ty.Shared to)) e = absurd (false≢true (sym e))
      by (Some (Ty.Unique to)) e = absurd (false≢true (sym e))
      by (Some ty) e = refl

  -- and in the table
  pub plain_listed : (ty : TyId) → Plain ty → Lists items ty
  plain_listed ty e = by (type_at items ty) e
    where
      by : (o : Option Ty) → names_one o ≡ false → is_some o ≡ true
      by None e = absurd (false≢true (sym e))
      by (Some ty) e = refl

  pub result_plain : (ty result : TyId) → types.is_same ty result ≡ true → facts.Alone items result → Lists items result →
      Plain ty
  result_plain ty result e a l = subst Plain (sym (same_type ty result e))
      (alone_plain (type_at items result) l a)

  -- the type of some branches
  pub common_plain : (ty : TyId) (tys : List TyId) → types.is_common items ty tys ≡ true → AllPlain tys → Plain ty
  common_plain ty tys e p = by (facts.one_of (types.is_never items ty) (list_any (types.is_same ty) tys)
      (facts.right_of (list_all (types.fits items ty) tys) _ e))
    where
      by : (types.is_never items ty ≡ true) ⊎ (list_any (types.is_same ty) tys ≡ true) → Plain ty
      by (inl n) = never_plain ty n
      by (inr a) = one_of_plain ty tys a p

  pub tail_at : (stmts : Nodes) (x : Standpoint) (rest : Context → Claim) →
      Holds (typing.statements (context items x) stmts rest) → Holds (rest (context items (behind x stmts)))
  tail_at no_node x rest h = h
  tail_at (a_node (node id at ty by form) more) x rest h =
      tail_at more (with_names (typing.entries_in form) x) rest h.1.1

  abbrev pub after : (stmts : Nodes) (x : Known) (rest : Context → Claim) → Holds (typing.statements (K x) stmts rest) →
      Known
  after stmts x rest h = (behind x.0 stmts, behind_listed items told stmts x.0 rest h x.1)

  -- with the names of a pattern in scope, in its guard too, and with those of a statement
  abbrev pub named : (p : Node) (m : Matched) (want : TyId) (x : Known) → Holds (patterns.pattern items m want p) →
      Lists items want → Known
  named p m want x h l = (
    with_names (entries_of p) x.0,
    with_listed items (entries_of p) x.0 (names_listed items told p m want h l) x.1,
  )

  abbrev pub guarded : (p : Node) (m : Matched) (want : TyId) (x : Known) → Holds (patterns.pattern items m want p) →
      Lists items want → Known
  guarded p m want x h l = (
    with_names (in_guard (entries_of p)) x.0,
    with_listed items (in_guard (entries_of p)) x.0
        (guard_listed items (entries_of p) (names_listed items told p m want h l)) x.1,
  )

  abbrev pub stated : (form : Form) (x : Known) → Holds (typing.statement (K x) form) → Known
  stated form x h = (
    with_names (typing.entries_in form) x.0,
    with_listed items (typing.entries_in form) x.0 (entries_listed items told form x.0 h) x.1,
  )

  -- no break out of a loop that is among these nodes carries a value of a type
  abbrev Free : TyId → ℕ → Node → Type 0
  Free want loop n = list_any (typing.carries_ty items want) (typing.carried loop n) ≡ false

  -- nodes, fields and a node that may be there stand for forms that hold them
  abbrev FreeAll : TyId → ℕ → Nodes → Type 0
  FreeAll want loop ns = (id : ℕ) (at : Pos) (ty : TyId) (by : Option Use) → Free want loop (node id at ty by (tree.Tuple ns))

  abbrev pub FreeFields : TyId → ℕ → Fields → Type 0
  FreeFields want loop fs =
      (id : ℕ) (at : Pos) (ty : TyId) (by : Option Use) → Free want loop (node id at ty by (tree.StructPattern fs))

  abbrev FreeMaybe : TyId → ℕ → MaybeNode → Type 0
  FreeMaybe want loop m =
      (id : ℕ) (at : Pos) (ty : TyId) (by : Option Use) → Free want loop (node id at ty by (tree.Return m))

  pub not_same : (want ty : TyId) → is_bad items want ≡ true → Plain ty → types.is_same want ty ≡ false
  not_same want ty r p = by (types.is_same want ty) refl
    where
      by : (b : Bool) → types.is_same want ty ≡ b → b ≡ false
      by false e = refl
      by true e = absurd (false≢true (sym (subst Plain (sym (same_type want ty e)) p) ∙ r))

  pub not_unit : (want : TyId) → is_bad items want ≡ true → types.is_unit items want ≡ false
  not_unit want r = by (types.is_unit items want) refl
    where
      by : (b : Bool) → types.is_unit items want ≡ b → b ≡ false
      by false e = refl
      by true e = absurd (false≢true (sym (unit_plain want e) ∙ r))

  -- of a break itself
  pub broken : (want : TyId) (value : MaybeNode) (b : Bool) (rest : List MaybeNode) →
      typing.carries_ty items want value ≡ false → list_any (typing.carries_ty items want) rest ≡ false →
      list_any (typing.carries_ty items want) (cons_option (if b then Some value else None) rest) ≡ false
  broken want value true rest c f = ap (λ d. d || list_any (typing.carries_ty items want) rest) c ∙ f
  broken want value false rest c f = f

  -- ---- patterns carry nothing

  mutual
    pub pattern_free : (want : TyId) (loop : ℕ) (p : Node) (m : Matched) (ty : TyId) →
        Holds (patterns.pattern items m ty p) → Free want loop p
    pattern_free want loop (node id at ty by form) m t h = form_pattern want loop form m id at ty by h.1

    form_pattern : (want : TyId) (loop : ℕ) (form : Form) (m : Matched) (id : ℕ) (at : Pos) (ty : TyId)
        (by : Option Use) → Holds (patterns.pattern_row items m ty by form) → Free want loop (node id at ty by form)
    form_pattern want loop tree.Wildcard m id at ty by h = refl
    form_pattern want loop (tree.Binding name) m id at ty by h = refl
    form_pattern want loop (tree.NumberPattern value) m id at ty by h = refl
    form_pattern want loop (tree.TruthPattern value) m id at ty by h = refl
    form_pattern want loop (tree.StructPattern fields) m id at ty by h =
        fields_pattern want loop fields _ ty 0 h.1.1.1 id at ty by
    form_pattern want loop (tree.VariantPattern variant is_test fields) m id at ty by h =
        fields_pattern want loop fields _ ty variant h.1.1.1 id at ty by
    form_pattern want loop (tree.TuplePattern parts) m id at ty by h =
        let t = some_holds (patterns.tuple_types items ty) (λ tys. patterns.part_patterns items m tys parts) h.1 in
        parts_pattern want loop parts m t.0 t.1.1 id at ty by
    form_pattern want loop (tree.ArrayPattern elements) m id at ty by h =
        let t = some_holds (types.array_of items ty)
        (λ a. patterns.part_patterns items m (replicate a.1 a.0) elements) h.1 in
        parts_pattern want loop elements m (replicate t.0.1 t.0.0) t.1.1 id at ty by
    form_pattern want loop (tree.OrPattern alternatives) m id at ty by h =
        each_pattern want loop alternatives m ty h.1.1 id at ty by
    form_pattern want loop form m id at ty by h = absurd (false≢true h)

    fields_pattern : (want : TyId) (loop : ℕ) (fs : Fields) (m : Matched) (ty : TyId) (variant : ℕ) →
        Holds (patterns.field_patterns items m ty variant fs) → FreeFields want loop fs
    fields_pattern want loop no_field m ty variant h id at t by = refl
    fields_pattern want loop (a_field number value rest) m ty variant h id at t by =
        let s = some_holds (field_ty items ty variant number) (λ u. patterns.pattern items m u value) h.0 in
        none_both _ _ (nodes_of value) (nodes_of_fields rest) (pattern_free want loop value m s.0 s.1.1)
        (fields_pattern want loop rest m ty variant h.1 id at t by)

    parts_pattern : (want : TyId) (loop : ℕ) (ns : Nodes) (m : Matched) (tys : List TyId) →
        Holds (patterns.part_patterns items m tys ns) → FreeAll want loop ns
    parts_pattern want loop no_node m tys h id at t by = refl
    parts_pattern want loop (a_node one rest) m [] h id at t by = absurd (false≢true h)
    parts_pattern want loop (a_node one rest) m (ty ∷ tys) h id at t by =
        none_both _ _ (nodes_of one) (nodes_among rest) (pattern_free want loop one m ty h.0)
        (parts_pattern want loop rest m tys h.1 id at t by)

    each_pattern : (want : TyId) (loop : ℕ) (ns : Nodes) (m : Matched) (ty : TyId) →
        Holds (patterns.each_pattern items m ty ns) → FreeAll want loop ns
    each_pattern want loop no_node m ty h id at t by = refl
    each_pattern want loop (a_node one rest) m ty h id at t by =
        none_both _ _ (nodes_of one) (nodes_among rest) (pattern_free want loop one m ty h.0)
        (each_pattern want loop rest m ty h.1 id at t by)
