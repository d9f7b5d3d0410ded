-- What is in scope behind a pattern: each of its names stands in a cell of its type, and is no reference, unless it is a
-- parameter.
use Rattle.std.proofs.Common.{◌≡◌, ◌⊎◌, inl, inr, ℕ, ◌==◌, ◌&&◌, ◌||◌, not, Bool, true, false, List, [], ◌∷◌, ◌++◌, Option, Some, None, is_none, if◌then◌else◌, refl, ap, sym, ◌∙◌, subst}
use Rattle.std.specs.Prelude.{replicate}
use Rattle.std.specs.List.{filter_map, cons_option, list_all}
use Rattle.std.specs.Cmp.Derive.{both_true}
use Rattle.std.proofs.lemmas.Bool.{false≢true}
use Rattle.std.proofs.lemmas.Bool.Decides.{Decides-eqb}
use Rattle.std.proofs.lemmas.Option.{none-some, same_Some}
use Rattle.mir_base.specs.declared.place_in_text.Pos.{Pos}
use Rattle.mir_ty.specs.declared.ty.TyId.{TyId}
use Rattle.mir_ty.specs.Facts.{is_copy}
use Rattle.mir_ty.specs.ItemTable.{ItemTable, type_at}
use Rattle.mir_ty.specs.Parts.{field_ty}
use Rattle.typed_tree.specs.declared.node.Use.{Use}
use Rattle.typed_tree.specs.Nodes.{number_of, nodes_of, nodes_in, nodes_among, nodes_of_fields}
use Rattle.typed_tree.specs.Tree as tree
use Rattle.typed_tree.specs.Tree.{Node, node, Form, Nodes, no_node, a_node, Fields, no_field, a_field, MaybeNode, absent, present, BodyTree}
use Rattle.src_meaning.specs.Locals.OfBody.{cells, cells_in, all_cells, cells_of_fields, initial_cells}
use Rattle.well_typed.specs.Claim.{Claim, Holds, fact, both, some}
use Rattle.well_typed.specs.Items.{stands_alone}
use Rattle.well_typed.specs.Nodes as typing
use Rattle.well_typed.specs.Patterns as patterns
use Rattle.well_typed.specs.Patterns.{Matched, binding_entry, entries_of}
use Rattle.well_typed.specs.Places.{InScope, LoopAround, Context, entry_with, in_guard, ty_of, form_of, is_place, is_borrow, is_by, taking, may_take, stands, Taken, Wanted, Base}
use Rattle.well_typed.specs.Types as types
use Rattle.soundness_cells.proofs.PassCellActs.{Cell}
use Rattle.soundness_cells.proofs.PassCellPatterns.{Told, Has, inside, has_left, has_right, name_cell}
use Rattle.soundness_cells.proofs.PassCellPlaces.{Root, Scoped}
use Rattle.soundness_cells.proofs.PassCellTaken.{tuple_plain, all_alike, plain_part}
use Rattle.soundness_cells.proofs.PassCellTypes as facts
use Rattle.soundness_cells.proofs.PassFacts.{Standpoint, context, with_names, in_a_loop, behind}
use Rattle.soundness_cells.proofs.PassListed.{Lists, AllListed, guard_listed, with_listed, names_listed}
use Rattle.soundness_values.proofs.PlaceTypes.{some_holds, same_type}

module _ (items : ItemTable) (body : BodyTree) where
  -- it stands in its cell, and is a parameter if it is a reference
  abbrev In : ℕ → TyId → Type 0
  In key ty = Cell items body key ty × Root items body key ty

  abbrev AllIn : List InScope → Type 0
  AllIn [] = Unit {0}
  AllIn (y ∷ es) = In y.key y.ty × AllIn es

  guard_in : (es : List InScope) → AllIn es → AllIn (in_guard es)
  guard_in [] a = tt
  guard_in (y ∷ es) a = (a.0, guard_in es a.1)

  found_in : (es old : List InScope) (key : ℕ) (y : InScope) → AllIn es → entry_with key (es ++ old) ≡ Some y →
      In key y.ty ⊎ (entry_with key old ≡ Some y)
  found_in [] old key y a e = inr e
  found_in (z ∷ es) old key y a e = by (z.key == key) refl e (λ f. found_in es old key y a.1 f)
    where
      by : (b : Bool) → (z.key == key) ≡ b → (if b then Some z else entry_with key (es ++ old)) ≡ Some y →
          (entry_with key (es ++ old) ≡ Some y → In key y.ty ⊎ (entry_with key old ≡ Some y)) →
          In key y.ty ⊎ (entry_with key old ≡ Some y)
      by true k f later = inl (subst (λ n. In n y.ty) ((Decides-eqb z.key key).0 k)
          (subst (λ (w : InScope). In z.key w.ty) (same_Some z y f) a.0))
      by false k f later = later f

  with_these : (es : List InScope) (x : Standpoint) → AllIn es → AllListed items es → Scoped items body x →
      Scoped items body (with_names es x)
  with_these es x a l s = record {
    listed = with_listed items es x l s.listed;
    names = λ key y e. (by key y (found_in es x.entries key y a e)).0;
    roots = λ key y e. (by key y (found_in es x.entries key y a e)).1;
    closure = s.closure;
  }
    where
      by : (key : ℕ) (y : InScope) → In key y.ty ⊎ (entry_with key x.entries ≡ Some y) → In key y.ty
      by key y (inl c) = c
      by key y (inr e) = (s.names key y e, s.roots key y e)

  pub scoped_loop : (a : LoopAround) (x : Standpoint) → Scoped items body x → Scoped items body (in_a_loop a x)
  scoped_loop a x s = record { names = s.names; roots = s.roots; listed = s.listed; closure = s.closure }

  -- what is no reference is no parameter that is one
  pub no_root : (key : ℕ) (ty : TyId) → types.is_reference items ty ≡ false → Root items body key ty
  no_root key ty e r = absurd (false≢true (sym e ∙ facts.reference_by (type_at items ty) ∙ r))

  -- ---- the names of a pattern

  abbrev NameCell : Node → Type 0
  NameCell n = (y : InScope) → binding_entry n ≡ Some y → In y.key y.ty

  -- a name, or `_`
  abbrev pub is_simple : Form → Bool
  is_simple tree.Wildcard = true
  is_simple (tree.Binding name) = true
  is_simple form = false

  -- what a pattern takes is no reference, or it is that of a parameter, which has a name or `_`
  abbrev pub OneRoot : Node → TyId → Type 0
  OneRoot p want = (types.is_reference items want ≡ false)
      ⊎ ((is_simple (form_of p) ≡ true) × Root items body (number_of p) want)

  root_as : (p : Node) (a b : TyId) → a ≡ b → OneRoot p b → OneRoot p a
  root_as p a b e (inl r) = inl (ap (types.is_reference items) e ∙ r)
  root_as p a b e (inr r) = inr (r.0, subst (Root items body (number_of p)) (sym e) r.1)

  abbrev AllNames : List Node → Type 0
  AllNames [] = Unit {0}
  AllNames (n ∷ ns) = NameCell n × AllNames ns

  both_names : (a b : List Node) → AllNames a → AllNames b → AllNames (a ++ b)
  both_names [] b f g = g
  both_names (n ∷ a) b f g = (f.0, both_names a b f.1 g)

  names_in : (ns : List Node) → AllNames ns → AllIn (filter_map binding_entry ns)
  names_in [] a = tt
  names_in (n ∷ ns) a = by (binding_entry n) refl (names_in ns a.1)
    where
      by : (o : Option InScope) → binding_entry n ≡ o → AllIn (filter_map binding_entry ns) →
          AllIn (cons_option o (filter_map binding_entry ns))
      by None e later = later
      by (Some y) e later = (a.0 y e, later)

  module _ (told : Told items) where
    mutual
      name_cells : (p : Node) (m : Matched) (want : TyId) → Holds (patterns.pattern items m want p) →
          OneRoot p want → Has items body (cells items true p) → AllNames (nodes_of p)
      name_cells (node id at ty by form) m want h r k = (
        (λ y e. own_name form id at ty by (root_as (node id at ty by form) ty want (same_type ty want h.0) r) k y e),
        form_names form m id at ty by h.1 (root_as (node id at ty by form) ty want (same_type ty want h.0) r)
            (inside items body true (node id at ty by form) k),
      )

      own_name : (form : Form) (id : ℕ) (at : Pos) (ty : TyId) (by : Option Use) →
          OneRoot (node id at ty by form) ty → Has items body (cells items true (node id at ty by form)) →
          (y : InScope) → binding_entry (node id at ty by form) ≡ Some y → In y.key y.ty
      own_name (tree.Binding name) id at ty by r k y e =
          let same : record { key = id; ty = ty; is_in_guard = false } ≡ y = same_Some _ y e in
          subst (λ (w : InScope). In w.key w.ty) same (name_cell items body told id at ty by name k, of_root r)
        where
          of_root : OneRoot (node id at ty by (tree.Binding name)) ty → Root items body id ty
          of_root (inl e) = no_root id ty e
          of_root (inr s) = s.1
      own_name form id at ty by r k y e = absurd (none-some y e)

      form_names : (form : Form) (m : Matched) (id : ℕ) (at : Pos) (ty : TyId) (by : Option Use) →
          Holds (patterns.pattern_row items m ty by form) → OneRoot (node id at ty by form) ty →
          Has items body (cells_in items form) → AllNames (nodes_in form)
      form_names tree.Wildcard m id at ty by h r k = tt
      form_names (tree.Binding name) m id at ty by h r k = tt
      form_names (tree.NumberPattern value) m id at ty by h r k = tt
      form_names (tree.TruthPattern value) m id at ty by h r k = tt
      form_names (tree.StructPattern fields) m id at ty by h r k = fields_names fields _ ty 0 h.1.1.1 k
      form_names (tree.VariantPattern variant is_test fields) m id at ty by h r k =
          fields_names fields _ ty variant h.1.1.1 k
      form_names (tree.TuplePattern parts) m id at ty by h r k =
          let t = some_holds (patterns.tuple_types items ty) (λ tys. patterns.part_patterns items m tys parts) h.1 in
          parts_names parts m t.0 t.1.1 (tuple_plain items body told (types.is_unit items ty) ty t.0 t.1.0) k
      form_names (tree.ArrayPattern elements) m id at ty by h r k =
          let t = some_holds (types.array_of items ty)
          (λ a. patterns.part_patterns items m (replicate a.1 a.0) elements) h.1 in
          parts_names elements m (replicate t.0.1 t.0.0) t.1.1
          (all_alike items body told t.0.0 t.0.1 (told.arrays ty t.0 t.1.0)) k
      form_names (tree.OrPattern alternatives) m id at ty by h (inl r) k = each_names alternatives m ty h.1.1 r k
      form_names (tree.OrPattern alternatives) m id at ty by h (inr r) k = absurd (false≢true r.0)
      form_names form m id at ty by h r k = absurd (false≢true h)

      fields_names : (fs : Fields) (m : Matched) (ty : TyId) (variant : ℕ) →
          Holds (patterns.field_patterns items m ty variant fs) → Has items body (cells_of_fields items fs) →
          AllNames (nodes_of_fields fs)
      fields_names no_field m ty variant h k = tt
      fields_names (a_field number value rest) m ty variant h k =
          let t = some_holds (field_ty items ty variant number) (λ want. patterns.pattern items m want value) h.0 in
          both_names (nodes_of value) (nodes_of_fields rest)
          (name_cells value m t.0 t.1.1 (inl (told.fields ty variant number t.0 t.1.0))
          (has_left items body (cells items true value) (cells_of_fields items rest) k))
          (fields_names rest m ty variant h.1
          (has_right items body (cells items true value) (cells_of_fields items rest) k))

      parts_names : (ns : Nodes) (m : Matched) (tys : List TyId) → Holds (patterns.part_patterns items m tys ns) →
          list_all (stands_alone items) tys ≡ true → Has items body (all_cells items ns) → AllNames (nodes_among ns)
      parts_names no_node m tys h p k = tt
      parts_names (a_node one rest) m [] h p k = absurd (false≢true h)
      parts_names (a_node one rest) m (t ∷ tys) h p k = both_names (nodes_of one) (nodes_among rest)
          (name_cells one m t h.0 (inl (plain_part items body told t tys p).0)
          (has_left items body (cells items true one) (all_cells items rest) k))
          (parts_names rest m tys h.1 (plain_part items body told t tys p).1
          (has_right items body (cells items true one) (all_cells items rest) k))

      each_names : (ns : Nodes) (m : Matched) (ty : TyId) → Holds (patterns.each_pattern items m ty ns) →
          types.is_reference items ty ≡ false → Has items body (all_cells items ns) → AllNames (nodes_among ns)
      each_names no_node m ty h r k = tt
      each_names (a_node one rest) m ty h r k = both_names (nodes_of one) (nodes_among rest)
          (name_cells one m ty h.0 (inl r) (has_left items body (cells items true one) (all_cells items rest) k))
          (each_names rest m ty h.1 r (has_right items body (cells items true one) (all_cells items rest) k))

    -- with the names of a pattern in scope, and in its guard
    pub scoped_names : (p : Node) (m : Matched) (want : TyId) (x : Standpoint) →
        Holds (patterns.pattern items m want p) → OneRoot p want → Lists items want →
        Has items body (cells items true p) → Scoped items body x → Scoped items body (with_names (entries_of p) x)
    scoped_names p m want x h r l k s = with_these (entries_of p) x (names_in (nodes_of p) (name_cells p m want h r k))
        (names_listed items told p m want h l) s

    pub scoped_guard : (p : Node) (m : Matched) (want : TyId) (x : Standpoint) →
        Holds (patterns.pattern items m want p) → OneRoot p want → Lists items want →
        Has items body (cells items true p) → Scoped items body x →
        Scoped items body (with_names (in_guard (entries_of p)) x)
    scoped_guard p m want x h r l k s = with_these (in_guard (entries_of p)) x
        (guard_in (entries_of p) (names_in (nodes_of p) (name_cells p m want h r k)))
        (guard_listed items (entries_of p) (names_listed items told p m want h l)) s

    -- a pattern takes a value that is no reference, if that is made
    taken_root : (p value : Node) (x : Standpoint) →
        Holds (typing.typed (context items x) (typing.as_initialiser p) value) →
        (typing.is_one_name p || (not (is_place (form_of value)) || types.is_same (ty_of value) (ty_of p))) ≡ true →
        (types.fits items (ty_of p) (ty_of value) && not (types.is_reference items (ty_of value))) ≡ true →
        (types.is_never items (ty_of value) && not (typing.is_unused_place value)) ≡ false →
        types.is_reference items (ty_of p) ≡ false
    taken_root p (node id at ty by form) x h o f e =
        let r = facts.is_false (types.is_reference items ty) (facts.right_of (types.fits items (ty_of p) ty) _ f) in
        of_type (facts.one_of (types.is_same ty (ty_of p)) (types.is_never items ty)
        (facts.left_of (types.fits items (ty_of p) ty) _ f)) r
      where
        wanted : (b : Bool) → b ≡ true → Holds (stands (context items x) (if b then Wanted (ty_of p) else Base) ty by form) →
            Holds (stands (context items x) Taken ty by form)
        wanted true e k = k.0
        wanted false e k = absurd (false≢true e)

        used : (b : Bool) → Holds (if b then both (fact (is_by (taking items ty) by))
            (both (fact (may_take (context items x) (is_copy items ty) ty form))
            (fact (not (types.is_reference items ty)))) else fact (is_none by && not (is_borrow form))) →
            (b && is_none by) ≡ false
        used false k = refl
        used true k = some_by (taking items ty) by k.0
          where
            some_by : (u : Use) (o : Option Use) → is_by u o ≡ true → is_none o ≡ false
            some_by u None k = absurd (false≢true k)
            some_by u (Some v) k = refl

        of_type : (types.is_same ty (ty_of p) ≡ true) ⊎ (types.is_never items ty ≡ true) →
            types.is_reference items ty ≡ false → types.is_reference items (ty_of p) ≡ false
        of_type (inl same) r = subst (λ t. types.is_reference items t ≡ false) (same_type ty (ty_of p) same) r
        of_type (inr never) r = of_name (typing.is_one_name p) (is_place form) refl refl o
          where
            of_name : (a b : Bool) → typing.is_one_name p ≡ a → is_place form ≡ b →
                (a || (not b || types.is_same ty (ty_of p))) ≡ true → types.is_reference items (ty_of p) ≡ false
            of_name true b n q o = absurd (false≢true (sym e ∙ both_true never
                (ap not (used (is_place form) (wanted (typing.is_one_name p) n h.0)))))
            of_name false true n q o = subst (λ t. types.is_reference items t ≡ false) (same_type ty (ty_of p) o) r
            of_name false false n q o = absurd (false≢true (sym e ∙ both_true never
                (ap (λ b. not (b && is_none by)) q)))

    -- behind a statement that ends, and behind several
    pub scoped_statement : (form : Form) (x : Standpoint) → Holds (typing.statement (context items x) form) →
        typing.ends_by items form ≡ false → Has items body (cells_in items form) → Scoped items body x →
        Scoped items body (with_names (typing.entries_in form) x)
    scoped_statement (tree.Let p absent) x h e k s = scoped_names p _ (ty_of p) x h.1.0
        (inl (facts.is_false (types.is_reference items (ty_of p)) h.1.1.1)) h.1.1.0
        (has_left items body (cells items true p) (initial_cells items p absent) k) s
    scoped_statement (tree.Let p (present value)) x h e k s = scoped_names p _ (ty_of p) x h.1.1.0
        (inl (taken_root p value x h.0 h.1.1.1.1.0 h.1.1.1.0 e)) h.1.1.1.1.1
        (has_left items body (cells items true p) (initial_cells items p (present value)) k) s
    scoped_statement (tree.Evaluate expression) x h e k s = with_these [] x tt tt s
    scoped_statement form x h e k s = absurd (false≢true h)

    pub scoped_behind : (ns : Nodes) (x : Standpoint) (rest : Context → Claim) →
        Holds (typing.statements (context items x) ns rest) → typing.ends_in items ns ≡ false →
        Has items body (all_cells items ns) → Scoped items body x → Scoped items body (behind x ns)
    scoped_behind no_node x rest h e k s = s
    scoped_behind (a_node (node id at ty by form) more) x rest h e k s =
        let ends = neither (typing.ends_by items form) (typing.ends_in items more) e in
        scoped_behind more (with_names (typing.entries_in form) x) rest h.1.1 ends.1
        (has_right items body (cells items true (node id at ty by form)) (all_cells items more) k)
        (scoped_statement form x h.1.0 ends.0 (inside items body true (node id at ty by form)
        (has_left items body (cells items true (node id at ty by form)) (all_cells items more) k)) s)
      where
        neither : (a b : Bool) → (a || b) ≡ false → (a ≡ false) × (b ≡ false)
        neither true b e = absurd (false≢true (sym e))
        neither false b e = (refl, e)
