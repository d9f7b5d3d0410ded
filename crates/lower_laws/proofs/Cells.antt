-- The cells of well typed nodes: each is of a type in the table, and of no `dyn` type. One line a form.
use Rattle.std.proofs.Common.{◌≡◌, inl, inr, ℕ, zero, suc, ◌==◌, ◌&&◌, ◌||◌, not, Bool, true, false, List, [], ◌∷◌, ◌++◌, Option, Some, None, slice_get, if◌then◌else◌, cond, refl, sym, subst, ◌∙◌}
use Rattle.std.specs.Prelude.{replicate, option_and_then}
use Rattle.std.specs.List.{list_any, filter_map}
use Rattle.std.specs.Option.{option_map_or}
use Rattle.std.proofs.lemmas.Option.{none-some, same_Some}
use Rattle.mir_base.specs.declared.place_in_text.Pos.{Pos}
use Rattle.mir_ty.specs.declared.ty.TyId.{TyId}
use Rattle.mir_ty.specs.Facts.{is_copy}
use Rattle.mir_ty.specs.ItemTable.{ItemTable, type_at}
use Rattle.mir_ty.specs.Parts.{field_ty}
use Rattle.typed_tree.specs.declared.node.Use.{Use}
use Rattle.typed_tree.specs.Nodes.{nodes_of, nodes_in, nodes_among, nodes_of_fields, nodes_if_any}
use Rattle.typed_tree.specs.Tree as tree
use Rattle.typed_tree.specs.Tree.{Node, Form, Nodes, no_node, a_node, Fields, no_field, a_field, MaybeNode, absent, present}
use Rattle.src_meaning.specs.Forms as source
use Rattle.src_meaning.specs.Locals.OfBody.{cells, reached_cells, cells_in, all_cells, cells_of_fields, cells_if_any, initial_cells, bool_ty}
use Rattle.src_meaning.specs.Scopes.{Entry}
use Rattle.well_typed.specs.Claim.{Claim, Holds, fact, ◌&◌}
use Rattle.well_typed.specs.Nodes as typing
use Rattle.well_typed.specs.Patterns as patterns
use Rattle.well_typed.specs.Patterns.{Matched, binding_entry, entries_of}
use Rattle.well_typed.specs.Places as scopes
use Rattle.well_typed.specs.Places.{InScope, Context, LoopAround, Standing, Taken, Wanted, Passed, Base, Stored, with_entries, within, entry_with, is_place, ty_of, form_of}
use Rattle.well_typed.specs.Types as types
use Rattle.lower_laws.proofs.Known.{untrue, and_first, and_second, either, not_true, found, some_is, Each, There, Fine, by_form, by_known, by_some, unit_fine, bool_fine, never_fine, same_fine, same_there, copy_fine, common_fine, Told}

-- ---- lists
pub each_append : {A : Type 0} (P : A → Type 0) (xs ys : List A) → Each P xs → Each P ys → Each P (xs ++ ys)
each_append P [] ys h k = k
each_append P (x ∷ xs) ys h k = (h.0, each_append P xs ys h.1 k)

module _ (items : ItemTable) where
  -- ---- what is known of nodes

  -- the type of a name is in the table, and what a break carries is of no `dyn` type
  pub record Marked (n : Node) : Type 0 where
    pub names : (e : InScope) → binding_entry n ≡ Some e → There items e.ty
    pub carries : (loop : ℕ) (v : Node) → typing.carried_by loop n ≡ Some (present v) → Fine items (ty_of v)

  abbrev pub AllMarked : List Node → Type 0
  AllMarked = Each Marked

  abbrev pub AllFine : List Entry → Type 0
  AllFine = Each (λ (e : Entry). Fine items e.ty)

  abbrev pub AllThere : List InScope → Type 0
  AllThere = Each (λ (e : InScope). There items e.ty)

  unmarked : (n : Node) → binding_entry n ≡ None → ((loop : ℕ) → typing.carried_by loop n ≡ None) → Marked n
  unmarked n named carried = record {
    names = λ e is. absurd (none-some e (sym named ∙ is));
    carries = λ loop v is. absurd (none-some (present v) (sym (carried loop) ∙ is));
  }

  -- the cells of a node's parts, and the nodes in it
  pub record Inside (form : Form) : Type 0 where
    pub cells : AllFine (cells_in items form)
    pub nodes : AllMarked (nodes_in form)

  -- a node of a type of the table; of no `dyn` type, where it is no place
  pub record Good (n : Node) : Type 0 where
    pub there : There items (ty_of n)
    pub sized : is_place (form_of n) ≡ false → Fine items (ty_of n)
    pub marked : Marked n
    pub inside : Inside (form_of n)

  -- and a node whose value is used
  pub record Used (n : Node) : Type 0 where
    pub good : Good n
    pub fine : Fine items (ty_of n)

  pub nodes_good : (n : Node) → Good n → AllMarked (nodes_of n)
  nodes_good (tree.node id at ty by form) k = (k.marked, k.inside.nodes)

  abbrev cond_entry : {A : Type 0} → Option A → List A → List A
  cond_entry None xs = xs
  cond_entry (Some x) xs = x ∷ xs

  -- ---- cells
  abbrev made_if : Bool → Entry → List Entry
  made_if true e = e ∷ []
  made_if false e = []

  fine_made : (b : Bool) (e : Entry) (es : List Entry) → Fine items e.ty → AllFine es → AllFine (made_if b e ++ es)
  fine_made true e es f k = (f, k)
  fine_made false e es f k = k

  abbrev literal_ty : Bool → TyId → TyId
  literal_ty true ty = bool_ty items
  literal_ty false ty = ty

module _ (items : ItemTable) (told : Told items) where
  literal_fine : (b : Bool) (ty : TyId) → Fine items ty → Fine items (literal_ty items b ty)
  literal_fine true ty f = told.truth
  literal_fine false ty f = f

  pub own_cells : (own : Bool) (n : Node) → Fine items (ty_of n) → Inside items (form_of n) → AllFine items (cells items own n)
  own_cells own (tree.node id at ty by form) f k = fine_made items _ _ (cells_in items form) (literal_fine _ ty f) k.cells

  pub used_cells : (own : Bool) (n : Node) → Used items n → AllFine items (cells items own n)
  used_cells own n k = own_cells own n k.fine k.good.inside

  pub reach_cells : (n : Node) → Good items n → AllFine items (reached_cells items n)
  reach_cells (tree.node id at ty by form) k = on (is_place form) refl
    where
      on : (b : Bool) → is_place form ≡ b → AllFine items (reached_cells items (tree.node id at ty by form))
      on true e = fine_none _ _ (cells_in items form) e k.inside.cells
        where
          fine_none : (made : Bool) (e : Entry) (es : List Entry) → is_place form ≡ true → AllFine items es → AllFine items (made_if items (not (is_place form) && made) e ++ es)
          fine_none made e es is f = subst (λ (b : Bool). AllFine items (made_if items (not b && made) e ++ es)) (sym is) f
      on false e = fine_made items _ _ (cells_in items form) (literal_fine _ ty (k.sized e)) k.inside.cells

  -- ---- more of nodes
  a_value : (n : Node) → Fine items (ty_of n) → binding_entry n ≡ None → ((loop : ℕ) → typing.carried_by loop n ≡ None) → AllFine items (cells_in items (form_of n)) → AllMarked items (nodes_in (form_of n)) → Good items n
  a_value n f named carried cells nodes = record {
    there = f.0;
    sized = λ e. f;
    marked = unmarked items n named carried;
    inside = record { cells = cells; nodes = nodes };
  }

  a_place : (n : Node) → is_place (form_of n) ≡ true → There items (ty_of n) → binding_entry n ≡ None → ((loop : ℕ) → typing.carried_by loop n ≡ None) → AllFine items (cells_in items (form_of n)) → AllMarked items (nodes_in (form_of n)) → Good items n
  a_place n is there named carried cells nodes = record {
    there = there;
    sized = λ e. absurd (untrue (sym e ∙ is));
    marked = unmarked items n named carried;
    inside = record { cells = cells; nodes = nodes };
  }

  joined : (xs ys : List Entry) → AllFine items xs → AllFine items ys → AllFine items (xs ++ ys)
  joined xs ys h k = each_append (λ (e : Entry). Fine items e.ty) xs ys h k

  together : (xs ys : List Node) → AllMarked items xs → AllMarked items ys → AllMarked items (xs ++ ys)
  together xs ys h k = each_append (Marked items) xs ys h k

  used_nodes : (n : Node) → Used items n → AllMarked items (nodes_of n)
  used_nodes n k = nodes_good items n k.good

  -- ---- entries in scope
  abbrev Scope : Context → Type 0
  Scope c = AllThere items c.entries

  abbrev K : Context → Context
  K c = record c { items = items }

  with_names : (c : Context) (es : List InScope) → AllThere items es → Scope c → Scope (with_entries es c)
  with_names c es h s = each_append (λ (e : InScope). There items e.ty) es c.entries h s

  guard_names : (es : List InScope) → AllThere items es → AllThere items (scopes.in_guard es)
  guard_names [] h = tt
  guard_names (e ∷ es) h = (h.0, guard_names es h.1)

  names_there : (ns : List Node) → AllMarked items ns → AllThere items (filter_map binding_entry ns)
  names_there [] h = tt
  names_there (n ∷ ns) h = on (binding_entry n) h.0.names (names_there ns h.1)
    where
      on : (o : Option InScope) → ((e : InScope) → o ≡ Some e → There items e.ty) → AllThere items (filter_map binding_entry ns) → AllThere items (cond_entry items o (filter_map binding_entry ns))
      on None first rest = rest
      on (Some e) first rest = (first e refl, rest)

  entry_there : (es : List InScope) → AllThere items es → (key : ℕ) (e : InScope) → entry_with key es ≡ Some e → There items e.ty
  entry_there [] h key e is = absurd (none-some e is)
  entry_there (d ∷ es) h key e is = on (d.key == key) is (entry_there es h.1 key e)
    where
      on : (b : Bool) → cond b (Some d) (entry_with key es) ≡ Some e → (entry_with key es ≡ Some e → There items e.ty) → There items e.ty
      on true k more = subst (λ (z : InScope). There items z.ty) (same_Some d e k) h.0
      on false k more = more k

  -- ---- loops
  carried_fine : (ty : TyId) (loop : ℕ) (ns : List Node) → AllMarked items ns → list_any (typing.carries_ty items ty) (filter_map (typing.carried_by loop) ns) ≡ true → Fine items ty
  carried_fine ty loop [] h is = absurd (untrue is)
  carried_fine ty loop (n ∷ ns) h is = on (typing.carried_by loop n) (h.0.carries loop) is (carried_fine ty loop ns h.1)
    where
      on : (o : Option MaybeNode) → ((v : Node) → o ≡ Some (present v) → Fine items (ty_of v)) → list_any (typing.carries_ty items ty) (cond_entry items o (filter_map (typing.carried_by loop) ns)) ≡ true →
          (list_any (typing.carries_ty items ty) (filter_map (typing.carried_by loop) ns) ≡ true → Fine items ty) → Fine items ty
      on None first is more = more is
      on (Some absent) first is more = elim (either (types.is_unit items ty) _ is) [ inl unit ↦ unit_fine items ty unit | inr later ↦ more later ]
      on (Some (present v)) first is more = elim (either (types.is_same ty (ty_of v)) _ is) [ inl same ↦ same_fine items ty (ty_of v) same (first v refl) | inr later ↦ more later ]

  loop_fine : (ty : TyId) (loop : ℕ) (body : Node) → AllMarked items (nodes_of body) → typing.is_loop_ty items ty (typing.carried loop body) ≡ true → Fine items ty
  loop_fine ty loop body h is = elim (either (types.is_never items ty) _ is) [ inl never ↦ never_fine items ty never | inr carried ↦ carried_fine ty loop (nodes_of body) h carried ]

  -- ---- values that are used
  taken_fine : (c : Context) (ty : TyId) (by : Option Use) (form : Form) → Holds (scopes.is_taken (K c) ty by form) → There items ty → (is_place form ≡ false → Fine items ty) → Fine items ty
  taken_fine c ty by form h there sized = on _ _ _ (is_place form) refl h
    where
      on : (x y z : Bool) (b : Bool) → is_place form ≡ b → Holds (if b then (fact x & fact (scopes.may_take (K c) (is_copy items ty) ty form) & fact y) else fact z) → Fine items ty
      on x y z false e h = sized e
      on x y z true e h = elim (either (is_copy items ty) _ h.1.0) [
        | inl copy ↦ copy_fine items ty copy
        | inr moved ↦ (there, not_true (types.is_dyn items ty) (and_second (scopes.may_move_by (K c) form) _ moved))
      ]

  passed_fine : (c : Context) (want ty : TyId) (by : Option Use) (form : Form) → Holds (scopes.stands (K c) (Passed want) ty by form) → There items ty → (is_place form ≡ false → Fine items ty) → Fine items ty
  passed_fine c want ty by form h there sized = on _ _ (types.is_reference items want && not (types.is_never items ty)) h
    where
      no_place : (form : Form) → scopes.is_borrow form ≡ true → is_place form ≡ false
      no_place (tree.Borrow unique base) h = refl
      no_place _ h = absurd (untrue h)

      on : (x y : Bool) (b : Bool) → Holds (if b then fact (scopes.is_borrow form && x && types.is_same ty want) else (scopes.is_taken (K c) ty by form & fact y)) → Fine items ty
      on x y true h = sized (no_place form (and_first (scopes.is_borrow form) x (and_first (scopes.is_borrow form && x) _ h)))
      on x y false h = taken_fine c ty by form h.0 there sized

  split_first : (first : TyId → Claim) (rest : List TyId → Claim) (tys : List TyId) → Holds (typing.first_and_rest first rest tys) → (t : TyId) × (ts : List TyId) × Holds (first t) × Holds (rest ts)
  split_first first rest [] h = absurd (untrue h)
  split_first first rest (t ∷ ts) h = (t, ts, h.0, h.1)

  by_never : {P : Type 0} (ty : TyId) → (source.is_never items ty ≡ true → P) → (source.is_never items ty ≡ false → P) → P
  by_never {P} ty if_never if_made = on (source.is_never items ty) refl
    where
      on : (b : Bool) → source.is_never items ty ≡ b → P
      on true e = if_never e
      on false e = if_made e

  -- ---- patterns
  pub record PatternGood (p : Node) : Type 0 where
    pub cells : AllFine items (cells items true p)
    pub nodes : AllMarked items (nodes_of p)

  with_cell : (p : Node) → Fine items (ty_of p) → Marked items p → cells_in items (form_of p) ≡ [] → nodes_in (form_of p) ≡ [] → PatternGood p
  with_cell (tree.node id at ty by form) f marked cells nodes = record {
    cells = own_cells true (tree.node id at ty by form) f (record { cells = subst (AllFine items) (sym cells) tt; nodes = subst (AllMarked items) (sym nodes) tt });
    nodes = (marked, subst (AllMarked items) (sym nodes) tt);
  }

  binding_fine : (ty : TyId) (may : Bool) → There items ty → (is_copy items ty || (may && not (types.is_dyn items ty))) ≡ true → Fine items ty
  binding_fine ty may there h = elim (either (is_copy items ty) _ h) [
    | inl copy ↦ copy_fine items ty copy
    | inr moved ↦ (there, not_true (types.is_dyn items ty) (and_second may _ moved))
  ]

  tuple_there : (ty : TyId) (tys : List TyId) → patterns.tuple_types items ty ≡ Some tys → Each (There items) tys
  tuple_there ty tys e = on (types.is_unit items ty) e
    where
      on : (b : Bool) → (if b then Some [] else types.tuple_of items ty) ≡ Some tys → Each (There items) tys
      on true e = subst (Each (There items)) (same_Some [] tys e) tt
      on false e = told.tuples ty tys e

  repeated_there : (count : ℕ) (ty : TyId) → There items ty → Each (There items) (replicate count ty)
  repeated_there zero ty t = tt
  repeated_there (suc count) ty t = (t, repeated_there count ty t)

  mutual
    pub pattern_good : (m : Matched) (want : TyId) (p : Node) → There items want → Holds (patterns.pattern items m want p) → PatternGood p
    pattern_good m want (tree.node id at ty by form) t h = pattern_row_good m id at ty by form (same_there items ty want h.0 t) h.1

    pattern_row_good : (m : Matched) (id : ℕ) (at : Pos) (ty : TyId) (by : Option Use) (form : Form) → There items ty → Holds (patterns.pattern_row items m ty by form) → PatternGood (tree.node id at ty by form)
    pattern_row_good m id at ty by tree.Wildcard t h = record { cells = by_never ty (λ v. simp (v) tt) (λ v. simp (v) tt); nodes = (unmarked items _ refl (λ l. refl), tt) }
    pattern_row_good m id at ty by (tree.Binding name) t h =
        with_cell (tree.node id at ty by (tree.Binding name)) (binding_fine ty _ t h.1)
        (record { names = λ e is. subst (λ (z : InScope). There items z.ty) (same_Some (record { key = id; ty = ty; is_in_guard = false }) e is) t; carries = λ l v is. absurd (none-some (present v) is) }) refl refl
    pattern_row_good m id at ty by (tree.NumberPattern value) t h = with_cell (tree.node id at ty by (tree.NumberPattern value)) (by_known items types.kind_in (λ n. refl) _ ty h.1) (unmarked items _ refl (λ l. refl)) refl refl
    pattern_row_good m id at ty by (tree.TruthPattern value) t h = with_cell (tree.node id at ty by (tree.TruthPattern value)) (bool_fine items ty h.1) (unmarked items _ refl (λ l. refl)) refl refl
    pattern_row_good m id at ty by (tree.StructPattern fields) t h =
        let k = field_patterns_good _ ty 0 fields h.1.1.1 in
        record { cells = by_never ty (λ v. simp (v) k.0) (λ v. simp (v) k.0); nodes = (unmarked items _ refl (λ l. refl), k.1) }
    pattern_row_good m id at ty by (tree.VariantPattern variant is_test fields) t h =
        let k = field_patterns_good _ ty variant fields h.1.1.1 in
        record { cells = by_never ty (λ v. simp (v) k.0) (λ v. simp (v) k.0); nodes = (unmarked items _ refl (λ l. refl), k.1) }
    pattern_row_good m id at ty by (tree.TuplePattern parts) t h =
        let tys = found (patterns.tuple_types items ty) _ h.1 in
        let k = part_patterns_good m tys.0 parts (tuple_there ty tys.0 tys.1) tys.2 in
        record { cells = by_never ty (λ v. simp (v) k.0) (λ v. simp (v) k.0); nodes = (unmarked items _ refl (λ l. refl), k.1) }
    pattern_row_good m id at ty by (tree.ArrayPattern elements) t h =
        let a = found (types.array_of items ty) _ h.1 in
        let k = part_patterns_good m (replicate a.0.1 a.0.0) elements (repeated_there a.0.1 a.0.0 (told.elements ty a.0 a.1)) a.2 in
        record { cells = by_never ty (λ v. simp (v) k.0) (λ v. simp (v) k.0); nodes = (unmarked items _ refl (λ l. refl), k.1) }
    pattern_row_good m id at ty by (tree.OrPattern alternatives) t h =
        let k = each_pattern_good m ty alternatives t h.1.1 in
        record { cells = by_never ty (λ v. simp (v) k.0) (λ v. simp (v) k.0); nodes = (unmarked items _ refl (λ l. refl), k.1) }
    pattern_row_good m id at ty by _ t h = absurd (untrue h)

    field_patterns_good : (m : Matched) (ty : TyId) (variant : ℕ) (fs : Fields) → Holds (patterns.field_patterns items m ty variant fs) → AllFine items (cells_of_fields items fs) × AllMarked items (nodes_of_fields fs)
    field_patterns_good m ty variant no_field h = (tt, tt)
    field_patterns_good m ty variant (a_field number value rest) h =
        let want = found (field_ty items ty variant number) _ h.0 in
        let first = pattern_good m want.0 value (told.fields ty variant number want.0 want.1) want.2 in
        let more = field_patterns_good m ty variant rest h.1 in
        (joined _ _ first.cells more.0, together _ _ first.nodes more.1)

    part_patterns_good : (m : Matched) (tys : List TyId) (ns : Nodes) → Each (There items) tys → Holds (patterns.part_patterns items m tys ns) → AllFine items (all_cells items ns) × AllMarked items (nodes_among ns)
    part_patterns_good m tys no_node t h = (tt, tt)
    part_patterns_good m [] (a_node first rest) t h = absurd (untrue h)
    part_patterns_good m (ty ∷ tys) (a_node first rest) t h =
        let one = pattern_good m ty first t.0 h.0 in
        let more = part_patterns_good m tys rest t.1 h.1 in
        (joined _ _ one.cells more.0, together _ _ one.nodes more.1)

    each_pattern_good : (m : Matched) (ty : TyId) (ns : Nodes) → There items ty → Holds (patterns.each_pattern items m ty ns) → AllFine items (all_cells items ns) × AllMarked items (nodes_among ns)
    each_pattern_good m ty no_node t h = (tt, tt)
    each_pattern_good m ty (a_node first rest) t h =
        let one = pattern_good m ty first t h.0 in
        let more = each_pattern_good m ty rest t h.1 in
        (joined _ _ one.cells more.0, together _ _ one.nodes more.1)

  pub pattern_names : (p : Node) → PatternGood p → AllThere items (entries_of p)
  pattern_names p k = names_there (nodes_of p) k.nodes

  -- ---- expressions

  -- nodes one behind another
  abbrev Nodes_ : Nodes → Type 0
  Nodes_ ns = AllFine items (all_cells items ns) × AllMarked items (nodes_among ns)

  -- a node of a statement or an arm, whose own type is of a value
  a_part : (n : Node) → Fine items (ty_of n) → binding_entry n ≡ None → ((loop : ℕ) → typing.carried_by loop n ≡ None) → AllFine items (cells_in items (form_of n)) → AllMarked items (nodes_in (form_of n)) → AllFine items (cells items true n) × AllMarked items (nodes_of n)
  a_part n f named carried cells nodes = let k = a_value n f named carried cells nodes in (own_cells true n f k.inside, nodes_good items n k)

  initial : (p v : Node) → (typing.is_one_name p ≡ true → Fine items (ty_of v)) → Good items v → AllFine items (initial_cells items p (present v))
  initial (tree.node id at ty by (tree.Binding name)) v fine k = own_cells false v (fine refl) k.inside
  initial (tree.node id at ty by _) v fine k = reach_cells v k

  -- what a block's tail is
  abbrev TailGood : MaybeNode → Type 0
  TailGood absent = Unit {0}
  TailGood (present tail) = Used items tail

  block_fine : (ty : TyId) (stmts : Nodes) (tail : MaybeNode) → TailGood tail → typing.is_block_ty items ty stmts tail ≡ true → Fine items ty
  block_fine ty stmts (present tail) k h = same_fine items ty (ty_of tail) h k.fine
  block_fine ty stmts absent k h = on (typing.ends_in items stmts) h
    where
      on : (b : Bool) → (if b then types.is_never items ty else types.is_unit items ty) ≡ true → Fine items ty
      on true h = never_fine items ty h
      on false h = unit_fine items ty h

  tail_cells : (tail : MaybeNode) → TailGood tail → AllFine items (cells_if_any items false tail)
  tail_cells absent k = tt
  tail_cells (present tail) k = used_cells false tail k

  tail_nodes : (tail : MaybeNode) → TailGood tail → AllMarked items (nodes_if_any tail)
  tail_nodes absent k = tt
  tail_nodes (present tail) k = used_nodes tail k

  box_fine : (to from : TyId) (trait_no : ℕ) → typing.box_implements items to from trait_no ≡ true → Fine items to
  box_fine to from trait_no h = on (types.boxed_of items to) refl (and_first _ _ h)
    where
      on : (o : Option TyId) → types.boxed_of items to ≡ o → option_map_or (λ n. n == trait_no) (option_and_then (types.trait_of items) o) false ≡ true → Fine items to
      on None e h = absurd (untrue h)
      on (Some inside) e h = by_form items types.boxed_in (λ n. refl) to inside e

  abbrev CarriedFine : MaybeNode → Type 0
  CarriedFine absent = Unit {0}
  CarriedFine (present n) = Fine items (ty_of n)

  -- a node that carries a value out of a loop
  break_good : (id : ℕ) (at : Pos) (ty : TyId) (by : Option Use) (loop : ℕ) (value : MaybeNode) → Fine items ty → TailGood value → Good items (tree.node id at ty by (tree.Break loop value))
  break_good id at ty by loop value f k = record {
    there = f.0;
    sized = λ e. f;
    marked = record {
      names = λ e is. absurd (none-some e is);
      carries = λ from v is. carried (from == loop) value k v is;
    };
    inside = record { cells = tail_cells value k; nodes = tail_nodes value k };
  }
    where
      carried : (b : Bool) (value : MaybeNode) → TailGood value → (v : Node) → (if b then Some value else None) ≡ Some (present v) → Fine items (ty_of v)
      carried false value k v is = absurd (none-some (present v) is)
      carried true absent k v is = absurd (let never : absent ≡ present v = same_Some absent (present v) is in cc)
      carried true (present w) k v is = subst CarriedFine (same_Some (present w) (present v) is) k.fine

  receiver_good : (c : Context) (tys : List TyId) (receiver : Node) (args : Nodes) → ((t : TyId) → Holds (typing.typed (K c) (Passed t) receiver) → Used items receiver) → ((ts : List TyId) → Holds (typing.arguments (K c) ts args) → Nodes_ args) →
      Holds (typing.first_and_rest (λ t. typing.typed (K c) (Passed t) receiver) (λ ts. typing.arguments (K c) ts args) tys) → AllFine items (cells items true receiver ++ all_cells items args) × AllMarked items (nodes_of receiver ++ nodes_among args)
  receiver_good c [] receiver args first rest h = absurd (untrue h)
  receiver_good c (ty ∷ tys) receiver args first rest h =
      let one = first ty h.0 in
      let more = rest tys h.1 in
      (joined _ _ (used_cells true receiver one) more.0, together _ _ (used_nodes receiver one) more.1)

  -- names of statements, and what stands behind them
  marked_first : (xs ys : List Node) → AllMarked items (xs ++ ys) → AllMarked items xs
  marked_first [] ys h = tt
  marked_first (x ∷ xs) ys h = (h.0, marked_first xs ys h.1)

  marked_second : (xs ys : List Node) → AllMarked items (xs ++ ys) → AllMarked items ys
  marked_second [] ys h = h
  marked_second (x ∷ xs) ys h = marked_second xs ys h.1

  statement_names : (form : Form) → AllMarked items (nodes_in form) → AllThere items (typing.entries_in form)
  statement_names (tree.Let p value) h = names_there (nodes_of p) (marked_first (nodes_of p) (nodes_if_any value) h)
  statement_names _ h = tt

  behind_there : (c : Context) → Scope c → (ns : Nodes) (behind : Context → Claim) → Holds (typing.statements (K c) ns behind) → AllMarked items (nodes_among ns) → (d : Context) × Holds (behind (K d)) × Scope d
  behind_there c sc no_node behind h m = (c, h, sc)
  behind_there c sc (a_node (tree.node id at ty by form) rest) behind h m =
      let n = tree.node id at ty by form in
      let own = marked_first (nodes_of n) (nodes_among rest) m in
      behind_there (with_entries (typing.entries_in form) c) (with_names c (typing.entries_in form) (statement_names form own.1) sc) rest behind h.1.1 (marked_second (nodes_of n) (nodes_among rest) m)

  abbrev loop_here : ℕ → TyId → Bool → LoopAround
  loop_here id ty has_value = record { loop = id; ty = ty; has_value = has_value }

  mutual
    pub node_good : (c : Context) → Scope c → (s : Standing) (n : Node) → Holds (typing.typed (K c) s n) → Good items n
    node_good c sc s (tree.node id at ty by form) h = row_good c sc id at ty by form h.1

    pub taken : (c : Context) → Scope c → (n : Node) → Holds (typing.typed (K c) Taken n) → Used items n
    taken c sc (tree.node id at ty by form) h =
        let k = row_good c sc id at ty by form h.1 in
        record { good = k; fine = taken_fine c ty by form h.0 k.there k.sized }

    pub wanted : (c : Context) → Scope c → (want : TyId) (n : Node) → Holds (typing.typed (K c) (Wanted want) n) → Used items n
    wanted c sc want (tree.node id at ty by form) h =
        let k = row_good c sc id at ty by form h.1 in
        record { good = k; fine = taken_fine c ty by form h.0.0 k.there k.sized }

    passed_on : (c : Context) → Scope c → (want : TyId) (n : Node) → Holds (typing.typed (K c) (Passed want) n) → Used items n
    passed_on c sc want (tree.node id at ty by form) h =
        let k = row_good c sc id at ty by form h.1 in
        record { good = k; fine = passed_fine c want ty by form h.0 k.there k.sized }

    row_good : (c : Context) → Scope c → (id : ℕ) (at : Pos) (ty : TyId) (by : Option Use) (form : Form) → Holds (typing.row (K c) id ty form) → Good items (tree.node id at ty by form)
    row_good c sc id at ty by (tree.Number value) h = a_value _ (by_known items types.kind_in (λ n. refl) _ ty h) refl (λ l. refl) tt tt
    row_good c sc id at ty by (tree.Truth value) h = a_value _ (bool_fine items ty h) refl (λ l. refl) tt tt
    row_good c sc id at ty by tree.UnitValue h = a_value _ (unit_fine items ty h) refl (λ l. refl) tt tt
    row_good c sc id at ty by (tree.Variable key) h =
        let e = found (entry_with key c.entries) _ h in
        a_place _ refl (same_there items ty e.0.ty e.2 (entry_there c.entries sc key e.0 e.1)) refl (λ l. refl) tt tt
    row_good c sc id at ty by (tree.Captured closure part name) h =
        let x = found c.closure _ h in
        let t = found (field_ty items x.0.ty 0 part) _ x.2.1 in
        a_place _ refl (same_there items ty t.0 t.2 (told.fields x.0.ty 0 part t.0 t.1)) refl (λ l. refl) tt tt
    row_good c sc id at ty by (tree.Field base part) h =
        let b = node_good c sc Base base h.0 in
        let t = found (field_ty items (ty_of base) 0 part) _ h.1.1 in
        a_place _ refl (same_there items ty t.0 t.2 (told.fields (ty_of base) 0 part t.0 t.1)) refl (λ l. refl) (reach_cells base b) (nodes_good items base b)
    row_good c sc id at ty by (tree.Index base index count) h =
        let b = node_good c sc Base base h.0 in
        let i = taken c sc index h.1.0 in
        let a = found (types.array_of items (ty_of base)) _ h.1.1.1 in
        a_place _ refl (same_there items ty a.0.0 (and_first _ _ a.2) (told.elements (ty_of base) a.0 a.1)) refl (λ l. refl)
        (joined _ _ (reach_cells base b) (used_cells true index i)) (together _ _ (nodes_good items base b) (used_nodes index i))
    row_good c sc id at ty by (tree.Deref base) h =
        let b = node_good c sc Base base h.0 in
        let t = found (types.inside_of items (ty_of base)) _ h.1 in
        a_place _ refl (same_there items ty t.0 t.2 (told.contents (ty_of base) t.0 t.1)) refl (λ l. refl) (reach_cells base b) (nodes_good items base b)
    row_good c sc id at ty by (tree.Not operand) h =
        let k = taken c sc operand h.0 in
        a_value _ (bool_fine items ty h.1.1) refl (λ l. refl) (used_cells true operand k) (used_nodes operand k)
    row_good c sc id at ty by (tree.Negate operand) h =
        let k = taken c sc operand h.0 in
        a_value _ (by_known items types.kind_in (λ n. refl) _ ty h.1.1) refl (λ l. refl) (used_cells true operand k) (used_nodes operand k)
    row_good c sc id at ty by (tree.Arithmetic operator left right) h =
        let a = wanted c sc ty left h.0 in
        let b = wanted c sc ty right h.1.0 in
        a_value _ (by_some items types.kind_in (λ n. refl) ty h.1.1.0) refl (λ l. refl) (joined _ _ (used_cells true left a) (used_cells true right b)) (together _ _ (used_nodes left a) (used_nodes right b))
    row_good c sc id at ty by (tree.Comparison operator left right) h =
        let a = taken c sc left h.0 in
        let b = taken c sc right h.1.0 in
        a_value _ (bool_fine items ty h.1.1.1) refl (λ l. refl) (joined _ _ (used_cells true left a) (used_cells true right b)) (together _ _ (used_nodes left a) (used_nodes right b))
    row_good c sc id at ty by (tree.And left right) h =
        let a = taken c sc left h.0 in
        let b = taken c sc right h.1.0 in
        a_value _ (bool_fine items ty h.1.1.1.1) refl (λ l. refl) (joined _ _ (used_cells true left a) (used_cells false right b)) (together _ _ (used_nodes left a) (used_nodes right b))
    row_good c sc id at ty by (tree.Or left right) h =
        let a = taken c sc left h.0 in
        let b = taken c sc right h.1.0 in
        a_value _ (bool_fine items ty h.1.1.1.1) refl (λ l. refl) (joined _ _ (used_cells true left a) (used_cells false right b)) (together _ _ (used_nodes left a) (used_nodes right b))
    row_good c sc id at ty by (tree.Assign place value) h =
        let a = node_good c sc Stored place h.0 in
        let b = wanted c sc (ty_of place) value h.1.1.0 in
        a_value _ (unit_fine items ty h.1.1.1) refl (λ l. refl) (joined _ _ (reach_cells place a) (used_cells true value b)) (together _ _ (nodes_good items place a) (used_nodes value b))
    row_good c sc id at ty by (tree.Call body args) h =
        let sig = found (slice_get items.bodies body) _ h.0 in
        let k = arguments_good c sc sig.0.params args sig.2.1 in
        a_value _ (same_fine items ty sig.0.result sig.2.0 (told.results body sig.0 sig.1)) refl (λ l. refl) k.0 k.1
    row_good c sc id at ty by (tree.MethodCall body receiver args) h =
        let sig = found (slice_get items.bodies body) _ h.0 in
        let k = receiver_good c sig.0.params receiver args (λ t q. passed_on c sc t receiver q) (λ ts q. arguments_good c sc ts args q) sig.2.1 in
        a_value _ (same_fine items ty sig.0.result sig.2.0 (told.results body sig.0 sig.1)) refl (λ l. refl) k.0 k.1
    row_good c sc id at ty by (tree.VirtualCall trait_no method receiver args) h =
        let def = found (slice_get items.traits trait_no) _ h in
        let sig = found (slice_get def.0.methods method) _ def.2 in
        let k = receiver_good c sig.0.params receiver args (λ t q. passed_on c sc t receiver q) (λ ts q. arguments_good c sc ts args q) sig.2.1 in
        a_value _ (same_fine items ty sig.0.result sig.2.0 (told.answers trait_no method def.0 sig.0 def.1 sig.1)) refl (λ l. refl) k.0 k.1
    row_good c sc id at ty by (tree.ClosureCall body callee args) h =
        let sig = found (slice_get items.bodies body) _ h.0 in
        let k = receiver_good c sig.0.params callee args (λ t q. passed_on c sc t callee q) (λ ts q. arguments_good c sc ts args q) sig.2.1 in
        a_value _ (same_fine items ty sig.0.result sig.2.0 (told.results body sig.0 sig.1)) refl (λ l. refl) k.0 k.1
    row_good c sc id at ty by (tree.Make adt variant fields) h =
        let v = found (types.variant_at items adt variant) _ h.1 in
        let k = fields_good c sc v.0.fields fields v.2.1 in
        a_value _ (by_known items types.adt_in (λ n. refl) _ ty h.0) refl (λ l. refl) k.0 k.1
    row_good c sc id at ty by (tree.Tuple parts) h =
        let tys = found (types.tuple_of items ty) _ h in
        let k = parts_good c sc tys.0 parts tys.2 in
        a_value _ (by_form items types.tuple_in (λ n. refl) ty tys.0 tys.1) refl (λ l. refl) k.0 k.1
    row_good c sc id at ty by (tree.Array elements) h =
        let a = found (types.array_of items ty) _ h in
        let k = elements_good c sc a.0.0 elements a.2.1 in
        a_value _ (by_form items types.array_in (λ n. refl) ty a.0 a.1) refl (λ l. refl) k.0 k.1
    row_good c sc id at ty by (tree.Closure closure captures) h =
        let def = found (slice_get items.closures closure) _ h.1 in
        let k = captures_good c sc def.0.captures captures def.2 in
        a_value _ (by_known items types.closure_in (λ n. refl) _ ty h.0) refl (λ l. refl) k.0 k.1
    row_good c sc id at ty by (tree.NewBox content) h =
        let inside = found (types.boxed_of items ty) _ h in
        let k = wanted c sc inside.0 content inside.2.0 in
        a_value _ (by_form items types.boxed_in (λ n. refl) ty inside.0 inside.1) refl (λ l. refl) (used_cells true content k) (used_nodes content k)
    row_good c sc id at ty by (tree.Print operand) h =
        let k = taken c sc operand h.0 in
        a_value _ (unit_fine items ty h.1.1) refl (λ l. refl) (used_cells true operand k) (used_nodes operand k)
    row_good c sc id at ty by tree.Ask h = a_value _ (by_known items types.kind_in (λ n. refl) _ ty h) refl (λ l. refl) tt tt
    row_good c sc id at ty by (tree.DropValue operand) h =
        let k = taken c sc operand h.0 in
        a_value _ (unit_fine items ty h.1) refl (λ l. refl) (used_cells true operand k) (used_nodes operand k)
    row_good c sc id at ty by (tree.Forget operand) h =
        let k = taken c sc operand h.0 in
        a_value _ (unit_fine items ty h.1) refl (λ l. refl) (used_cells true operand k) (used_nodes operand k)
    row_good c sc id at ty by tree.Panic h = a_value _ (never_fine items ty h) refl (λ l. refl) tt tt
    row_good c sc id at ty by (tree.Borrow unique base) h =
        let b = node_good c sc (scopes.Used (scopes.borrow_by unique)) base h.0 in
        let r = found (types.reference_of items ty) _ h.1.1 in
        a_value _ (by_form items types.reference_in (λ n. refl) ty r.0 r.1) refl (λ l. refl) (reach_cells base b) (nodes_good items base b)
    row_good c sc id at ty by (tree.Unsize trait_no operand) h =
        let k = taken c sc operand h.0 in
        a_value _ (box_fine ty (ty_of operand) trait_no h.1.1) refl (λ l. refl) (used_cells true operand k) (used_nodes operand k)
    row_good c sc id at ty by (tree.Block stmts absent) h =
        let k = statements_good c sc stmts (λ d. typing.tail_of d absent) h.0 in
        a_value _ (block_fine ty stmts absent tt h.1) refl (λ l. refl) (joined _ [] k.0 tt) (together _ [] k.1 tt)
    row_good c sc id at ty by (tree.Block stmts (present tail)) h =
        let k = statements_good c sc stmts (λ d. typing.tail_of d (present tail)) h.0 in
        let d = behind_there c sc stmts (λ d. typing.tail_of d (present tail)) h.0 k.1 in
        let t = taken d.0 d.2 tail d.1 in
        a_value _ (block_fine ty stmts (present tail) t h.1) refl (λ l. refl) (joined _ _ k.0 (used_cells false tail t)) (together _ _ k.1 (used_nodes tail t))
    row_good c sc id at ty by (tree.If condition body absent) h =
        let a = taken c sc condition h.0 in
        let b = taken c sc body h.1.1.0 in
        a_value _ (unit_fine items ty h.1.1.1.1) refl (λ l. refl)
        (joined _ [] (joined _ _ (used_cells true condition a) (used_cells false body b)) tt) (together _ [] (together _ _ (used_nodes condition a) (used_nodes body b)) tt)
    row_good c sc id at ty by (tree.If condition body (present otherwise)) h =
        let a = taken c sc condition h.0 in
        let b = taken c sc body h.1.1.0 in
        let o = taken c sc otherwise h.1.1.1.0 in
        a_value _ (common_fine items ty (ty_of body ∷ ty_of otherwise ∷ []) (b.fine, (o.fine, tt)) h.1.1.1.1) refl (λ l. refl)
        (joined _ _ (joined _ _ (used_cells true condition a) (used_cells false body b)) (used_cells false otherwise o)) (together _ _ (together _ _ (used_nodes condition a) (used_nodes body b)) (used_nodes otherwise o))
    row_good c sc id at ty by (tree.IfLet p scrutinee body absent) h =
        let s = node_good c sc (scopes.Used Use.Borrow) scrutinee h.0 in
        let q = pattern_good _ (ty_of scrutinee) p s.there h.1.0.1 in
        let b = taken (with_entries (entries_of p) c) (with_names c (entries_of p) (pattern_names p q) sc) body h.1.1.0 in
        a_value _ (unit_fine items ty h.1.1.1.1) refl (λ l. refl)
        (joined _ [] (joined _ _ (joined _ _ q.cells (reach_cells scrutinee s)) (used_cells false body b)) tt)
        (together _ [] (together _ _ (together _ _ q.nodes (nodes_good items scrutinee s)) (used_nodes body b)) tt)
    row_good c sc id at ty by (tree.IfLet p scrutinee body (present otherwise)) h =
        let s = node_good c sc (scopes.Used Use.Borrow) scrutinee h.0 in
        let q = pattern_good _ (ty_of scrutinee) p s.there h.1.0.1 in
        let b = taken (with_entries (entries_of p) c) (with_names c (entries_of p) (pattern_names p q) sc) body h.1.1.0 in
        let o = taken c sc otherwise h.1.1.1.0 in
        a_value _ (common_fine items ty (ty_of body ∷ ty_of otherwise ∷ []) (b.fine, (o.fine, tt)) h.1.1.1.1) refl (λ l. refl)
        (joined _ _ (joined _ _ (joined _ _ q.cells (reach_cells scrutinee s)) (used_cells false body b)) (used_cells false otherwise o))
        (together _ _ (together _ _ (together _ _ q.nodes (nodes_good items scrutinee s)) (used_nodes body b)) (used_nodes otherwise o))
    row_good c sc id at ty by (tree.Match scrutinee arms) h =
        let s = node_good c sc (scopes.Used Use.Borrow) scrutinee h.0 in
        let k = arms_good c sc _ (ty_of scrutinee) arms s.there h.1.0 in
        a_value _ (common_fine items ty (typing.types_in arms) k.1 h.1.1.0) refl (λ l. refl) (joined _ _ (reach_cells scrutinee s) k.0.0) (together _ _ (nodes_good items scrutinee s) k.0.1)
    row_good c sc id at ty by (tree.Loop body) h =
        let b = taken (within (loop_here id ty true) c) sc body h.0 in
        a_value _ (loop_fine ty id body (used_nodes body b) h.1.1) refl (λ l. refl) (used_cells true body b) (used_nodes body b)
    row_good c sc id at ty by (tree.While condition body) h =
        let a = taken (within (loop_here id ty false) c) sc condition h.0 in
        let b = taken (within (loop_here id ty false) c) sc body h.1.1.0 in
        a_value _ (unit_fine items ty h.1.1.1.1) refl (λ l. refl) (joined _ _ (used_cells true condition a) (used_cells true body b)) (together _ _ (used_nodes condition a) (used_nodes body b))
    row_good c sc id at ty by (tree.WhileLet p scrutinee body) h =
        let d = within (loop_here id ty false) c in
        let s = node_good d sc (scopes.Used Use.Borrow) scrutinee h.0 in
        let q = pattern_good _ (ty_of scrutinee) p s.there h.1.0.1 in
        let b = taken (with_entries (entries_of p) d) (with_names d (entries_of p) (pattern_names p q) sc) body h.1.1.0 in
        a_value _ (unit_fine items ty h.1.1.1.1) refl (λ l. refl)
        (joined _ _ (joined _ _ q.cells (reach_cells scrutinee s)) (used_cells true body b)) (together _ _ (together _ _ q.nodes (nodes_good items scrutinee s)) (used_nodes body b))
    row_good c sc id at ty by (tree.Break loop absent) h = break_good id at ty by loop absent (never_fine items ty h.1) tt
    row_good c sc id at ty by (tree.Break loop (present value)) h =
        let a = found (scopes.loop_with loop c.loops) _ h.0 in
        break_good id at ty by loop (present value) (never_fine items ty h.1) (wanted c sc a.0.ty value a.2.1)
    row_good c sc id at ty by (tree.Continue loop) h = a_value _ (never_fine items ty h.1) refl (λ l. refl) tt tt
    row_good c sc id at ty by (tree.Return absent) h = a_value _ (never_fine items ty h.1) refl (λ l. refl) tt tt
    row_good c sc id at ty by (tree.Return (present value)) h =
        let k = wanted c sc c.answer value h.0 in
        a_value _ (never_fine items ty h.1) refl (λ l. refl) (used_cells false value k) (used_nodes value k)
    row_good c sc id at ty by _ h = absurd (untrue h)

    arguments_good : (c : Context) → Scope c → (tys : List TyId) (args : Nodes) → Holds (typing.arguments (K c) tys args) → Nodes_ args
    arguments_good c sc [] no_node h = (tt, tt)
    arguments_good c sc [] (a_node first rest) h = absurd (untrue h)
    arguments_good c sc (ty ∷ tys) no_node h = absurd (untrue h)
    arguments_good c sc (ty ∷ tys) (a_node first rest) h =
        let one = passed_on c sc ty first h.0 in
        let more = arguments_good c sc tys rest h.1 in
        (joined _ _ (used_cells true first one) more.0, together _ _ (used_nodes first one) more.1)

    parts_good : (c : Context) → Scope c → (tys : List TyId) (parts : Nodes) → Holds (typing.made_parts (K c) tys parts) → Nodes_ parts
    parts_good c sc [] no_node h = (tt, tt)
    parts_good c sc [] (a_node first rest) h = absurd (untrue h)
    parts_good c sc (ty ∷ tys) no_node h = absurd (untrue h)
    parts_good c sc (ty ∷ tys) (a_node first rest) h =
        let one = wanted c sc ty first h.0 in
        let more = parts_good c sc tys rest h.1 in
        (joined _ _ (used_cells true first one) more.0, together _ _ (used_nodes first one) more.1)

    fields_good : (c : Context) → Scope c → (tys : List TyId) (fs : Fields) → Holds (typing.made_fields (K c) tys fs) → AllFine items (cells_of_fields items fs) × AllMarked items (nodes_of_fields fs)
    fields_good c sc tys no_field h = (tt, tt)
    fields_good c sc tys (a_field number value rest) h =
        let ty = found (slice_get tys number) _ h.0 in
        let one = wanted c sc ty.0 value ty.2 in
        let more = fields_good c sc tys rest h.1 in
        (joined _ _ (used_cells true value one) more.0, together _ _ (used_nodes value one) more.1)

    elements_good : (c : Context) → Scope c → (ty : TyId) (ns : Nodes) → Holds (typing.elements_of (K c) ty ns) → Nodes_ ns
    elements_good c sc ty no_node h = (tt, tt)
    elements_good c sc ty (a_node first rest) h =
        let one = wanted c sc ty first h.0 in
        let more = elements_good c sc ty rest h.1 in
        (joined _ _ (used_cells true first one) more.0, together _ _ (used_nodes first one) more.1)

    captures_good : (c : Context) → Scope c → (tys : List TyId) (ns : Nodes) → Holds (typing.captured (K c) tys ns) → Nodes_ ns
    captures_good c sc [] no_node h = (tt, tt)
    captures_good c sc [] (a_node first rest) h = absurd (untrue h)
    captures_good c sc (ty ∷ tys) no_node h = absurd (untrue h)
    captures_good c sc (ty ∷ tys) (a_node first rest) h =
        let one = taken c sc first h.0 in
        let more = captures_good c sc tys rest h.1.1 in
        (joined _ _ (used_cells true first one) more.0, together _ _ (used_nodes first one) more.1)

    arms_good : (c : Context) → Scope c → (m : Matched) (want : TyId) (arms : Nodes) → There items want → Holds (typing.arms_of (K c) m want arms) → Nodes_ arms × Each (Fine items) (typing.types_in arms)
    arms_good c sc m want no_node t h = ((tt, tt), tt)
    arms_good c sc m want (a_node first rest) t h =
        let one = arm_good c sc m want first t h.0 in
        let more = arms_good c sc m want rest t h.1 in
        ((joined _ _ one.0.0 more.0.0, together _ _ one.0.1 more.0.1), (one.1, more.1))

    arm_good : (c : Context) → Scope c → (m : Matched) (want : TyId) (n : Node) → There items want → Holds (typing.arm (K c) m want n) → (AllFine items (cells items true n) × AllMarked items (nodes_of n)) × Fine items (ty_of n)
    arm_good c sc m want (tree.node id at ty by (tree.Arm p guard body)) t h =
        let q = pattern_good m want p t h.1.1.0 in
        let g = guard_good (with_entries (scopes.in_guard (entries_of p)) c) (with_names c (scopes.in_guard (entries_of p)) (guard_names (entries_of p) (pattern_names p q)) sc) guard h.1.1.1.0 in
        let b = taken (with_entries (entries_of p) c) (with_names c (entries_of p) (pattern_names p q) sc) body h.1.1.1.1.0 in
        let f = same_fine items ty (ty_of body) h.1.1.1.1.1 b.fine in (
          a_part (tree.node id at ty by (tree.Arm p guard body)) f refl (λ l. refl) (joined _ _ (joined _ _ q.cells g.0) (used_cells false body b)) (together _ _ (together _ _ q.nodes g.1) (used_nodes body b)),
          f,
        )
    arm_good c sc m want (tree.node id at ty by _) t h = absurd (untrue h)

    guard_good : (c : Context) → Scope c → (guard : MaybeNode) → Holds (typing.guarded (K c) guard) → AllFine items (cells_if_any items true guard) × AllMarked items (nodes_if_any guard)
    guard_good c sc absent h = (tt, tt)
    guard_good c sc (present guard) h = let k = taken c sc guard h.0 in (used_cells true guard k, used_nodes guard k)

    statements_good : (c : Context) → Scope c → (stmts : Nodes) (behind : Context → Claim) → Holds (typing.statements (K c) stmts behind) → Nodes_ stmts
    statements_good c sc no_node behind h = (tt, tt)
    statements_good c sc (a_node (tree.node id at ty by form) rest) behind h =
        let n = tree.node id at ty by form in
        let one = statement_good c sc id at ty by form (unit_fine items ty (and_second _ _ h.0)) h.1.0 in
        let more = statements_good (with_entries (typing.entries_in form) c) (with_names c (typing.entries_in form) one.1 sc) rest behind h.1.1 in
        (joined (cells items true n) (all_cells items rest) one.0.0 more.0, together (nodes_of n) (nodes_among rest) one.0.1 more.1)

    statement_good : (c : Context) → Scope c → (id : ℕ) (at : Pos) (ty : TyId) (by : Option Use) (form : Form) → Fine items ty → Holds (typing.statement (K c) form) →
        (AllFine items (cells items true (tree.node id at ty by form)) × AllMarked items (nodes_of (tree.node id at ty by form))) × AllThere items (typing.entries_in form)
    statement_good c sc id at ty by (tree.Let p absent) f h =
        let t = some_is (type_at items (ty_of p)) h.1.1.0 in
        let q = pattern_good _ (ty_of p) p t h.1.0 in
        (a_part (tree.node id at ty by (tree.Let p absent)) f refl (λ l. refl) (joined _ [] q.cells tt) (together _ [] q.nodes tt), pattern_names p q)
    statement_good c sc id at ty by (tree.Let p (present value)) f h =
        let t = some_is (type_at items (ty_of p)) h.1.1.1.1.1 in
        let q = pattern_good _ (ty_of p) p t h.1.1.0 in
        let v = value_good c sc (typing.is_one_name p) (ty_of p) value h.0 in
        (a_part (tree.node id at ty by (tree.Let p (present value))) f refl (λ l. refl) (joined _ _ q.cells (initial p value v.1 v.0)) (together _ _ q.nodes (nodes_good items value v.0)), pattern_names p q)
    statement_good c sc id at ty by (tree.Evaluate expression) f h =
        let k = taken c sc expression h in
        (a_part (tree.node id at ty by (tree.Evaluate expression)) f refl (λ l. refl) (used_cells true expression k) (used_nodes expression k), tt)
    statement_good c sc id at ty by _ f h = absurd (untrue h)

    value_good : (c : Context) → Scope c → (one : Bool) (ty : TyId) (value : Node) → Holds (typing.typed (K c) (if one then Wanted ty else Base) value) → Good items value × (one ≡ true → Fine items (ty_of value))
    value_good c sc true want (tree.node id at ty by form) h =
        let k = row_good c sc id at ty by form h.1 in
        (k, λ e. taken_fine c ty by form h.0.0 k.there k.sized)
    value_good c sc false want (tree.node id at ty by form) h = (row_good c sc id at ty by form h.1, λ e. absurd (untrue e))
