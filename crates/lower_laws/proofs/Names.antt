-- The names of patterns, as entries in scope and as what the names take; what is around a node behind a pattern, in a
-- guard, and in a loop.
use Rattle.std.proofs.Common.{◌≡◌, ◌⊎◌, inl, inr, ℕ, ◌==◌, nat_lt, Bool, true, false, List, [], ◌∷◌, ◌++◌, Option, Some, None, suc, if◌then◌else◌, cond, refl, sym, ap, subst, ◌∙◌, arith}
use Rattle.std.proofs.lemmas.Bool.{eqb-true, ltb-true}
use Rattle.std.proofs.lemmas.Bool.Decides.{eqb_tells}
use Rattle.std.proofs.lemmas.List.Elements.{filter_map-append}
use Rattle.std.proofs.lemmas.Option.{none-some, same_Some}
use Rattle.std.specs.List.{filter_map}
use Rattle.mir_ty.specs.declared.ty.TyId.{TyId}
use Rattle.store_model.specs.Places.Place.{Step, ToPart, ToField, Place, whole_local}
use Rattle.typed_tree.specs.Nodes.{number_of, nodes_of, nodes_in, nodes_among, nodes_of_fields}
use Rattle.typed_tree.specs.Tree as tree
use Rattle.typed_tree.specs.Tree.{Node, Form, Nodes, no_node, a_node, Fields, no_field, a_field}
use Rattle.src_meaning.specs.Forms.{Destination, LoopsAndGuards, in_guard, in_loop, loop_destination, aliases_with}
use Rattle.src_meaning.specs.Locals.OfBody.{cells, all_cells, cells_of_fields}
use Rattle.src_meaning.specs.Shape.{head, BoundName, Aliases, shape, shape_of, in_fields, in_parts, extended, place_of_key}
use Rattle.well_typed.specs.Claim.{Holds}
use Rattle.well_typed.specs.Patterns as patterns
use Rattle.well_typed.specs.Patterns.{Matched, binding_name, binding_entry, entries_of}
use Rattle.well_typed.specs.Places.{InScope, LoopAround, Context, with_entries, within, entry_with, loop_with}
use Rattle.well_typed.specs.Places as scopes
use Rattle.well_typed.specs.Types as types
use Rattle.mir_ty.specs.Parts.{field_ty}
use Rattle.typed_tree.specs.declared.node.Use.{Use}
use Rattle.lower_laws.proofs.Base as base
use Rattle.lower_laws.proofs.Base.{Ground, untrue, found}
use Rattle.lower_laws.proofs.Patterns.{apart_over}
use Rattle.lower_laws.proofs.Rules as rules

pub apart_under : (n m : ℕ) → nat_lt n m ≡ true → (n == m) ≡ false
apart_under n m e = elim (eqb_tells n m) [ inl same ↦ absurd (let l = ltb-true n m e in let s = same.1 in let never : ⊥ = omega (l, s, arith) in never) | inr other ↦ other.0 ]

pub equal_too : (a b : ℕ) → a ≡ b → (a == b) ≡ true
equal_too a b e = elim (eqb_tells a b) [ inl same ↦ same.0 | inr other ↦ absurd (other.1 e) ]

pub eq_tells : (a b : ℕ) → (a ≡ b) ⊎ (a ≡ b → ⊥)
eq_tells a b = elim (eqb_tells a b) [ inl same ↦ inl same.1 | inr other ↦ inr other.1 ]

pub unequal : (a b : ℕ) → (a ≡ b → ⊥) → (a == b) ≡ false
unequal a b d = elim (eqb_tells a b) [ inl same ↦ absurd (d same.1) | inr other ↦ other.0 ]

pub differ_too : (a b : ℕ) → (a == b) ≡ false → (b == a) ≡ false
differ_too a b e = elim (eqb_tells b a) [ inl same ↦ absurd (untrue (sym e ∙ equal_too a b (sym same.1))) | inr other ↦ other.0 ]

-- something holds of the numbers of nodes, and of the keys of entries
abbrev pub OfNodes : (ℕ → Type 0) → List Node → Type 0
OfNodes P [] = Unit {0}
OfNodes P (n ∷ ns) = P (number_of n) × OfNodes P ns

abbrev pub OfEntries : (ℕ → Type 0) → List InScope → Type 0
OfEntries P [] = Unit {0}
OfEntries P (e ∷ es) = P e.key × OfEntries P es

pub of_entries : (P : ℕ → Type 0) (ns : List Node) → OfNodes P ns → OfEntries P (filter_map binding_entry ns)
of_entries P [] h = tt
of_entries P (tree.node id at ty by (tree.Binding name) ∷ ns) h = (h.0, of_entries P ns h.1)
of_entries P (tree.node id at ty by other ∷ ns) h = of_entries P ns h.1

-- where there are no names there are no entries
none_named : (ns : List Node) → patterns.has_no_names (filter_map binding_name ns) ≡ true → filter_map binding_entry ns ≡ []
none_named [] h = refl
none_named (tree.node id at ty by (tree.Binding name) ∷ ns) h = absurd (untrue h)
none_named (tree.node id at ty by other ∷ ns) h = none_named ns h

-- each name, with what it takes
abbrev pub Matches : List BoundName → List InScope → Type 0
Matches [] [] = Unit {0}
Matches (b ∷ bounds) (e ∷ es) = (b.key ≡ e.key) × (b.ty ≡ e.ty) × Matches bounds es
Matches _ _ = ⊥

match_append : (xs ys : List BoundName) (es ds : List InScope) → Matches xs es → Matches ys ds → Matches (xs ++ ys) (es ++ ds)
match_append [] ys [] ds h k = k
match_append [] ys (e ∷ es) ds h k = absurd h
match_append (x ∷ xs) ys [] ds h k = absurd h
match_append (x ∷ xs) ys (e ∷ es) ds h k = (h.0, h.1, match_append xs ys es ds h.2 k)

module _ (g : Ground) where
  mutual
    pub named : (p : Node) (m : Matched) (want : TyId) → Holds (patterns.pattern g.items m want p) → (place : Place) → Matches ((shape g.items p).bindings place) (entries_of p)
    named (tree.node id at ty by form) m want h place = row_named form id ty by m h.1 place

    row_named : (form : Form) (id : ℕ) (ty : TyId) (by : Option Use) (m : Matched) → Holds (patterns.pattern_row g.items m ty by form) → (place : Place) →
        Matches ((shape_of g.items form (head id ty by)).bindings place) (filter_map binding_entry (tree.node id record { line = 0; col = 0 } ty by form ∷ nodes_in form))
    row_named tree.Wildcard id ty by m h place = tt
    row_named (tree.Binding name) id ty by m h place = (refl, refl, tt)
    row_named (tree.NumberPattern value) id ty by m h place = tt
    row_named (tree.TruthPattern value) id ty by m h place = tt
    row_named (tree.StructPattern fields) id ty by m h place = fields_named fields _ ty 0 ToPart h.1.1.1 place
    row_named (tree.VariantPattern variant is_test fields) id ty by m h place = fields_named fields _ ty variant (ToField variant) h.1.1.1 place
    row_named (tree.TuplePattern parts) id ty by m h place = let tys = found (patterns.tuple_types g.items ty) _ h.1 in parts_named parts m tys.0 0 tys.2 place
    row_named (tree.ArrayPattern elements) id ty by m h place = let a = found (types.array_of g.items ty) _ h.1 in parts_named elements m _ 0 a.2 place
    row_named (tree.OrPattern alternatives) id ty by m h place = subst (λ (z : List InScope). Matches [] z) (sym (none_named (nodes_among alternatives) (base.and_second _ _ h.0))) tt
    row_named other id ty by m h place = absurd (untrue h)

    fields_named : (fs : Fields) (m : Matched) (ty : TyId) (v : ℕ) (step : ℕ → Step) → Holds (patterns.field_patterns g.items m ty v fs) → (place : Place) → Matches ((in_fields g.items fs step).bindings place) (filter_map binding_entry (nodes_of_fields fs))
    fields_named no_field m ty v step h place = tt
    fields_named (a_field number value rest) m ty v step h place =
        let want = found (field_ty g.items ty v number) _ h.0 in
        subst (λ (z : List InScope). Matches ((shape g.items value).bindings (extended (step number) place) ++ (in_fields g.items rest step).bindings place) z) (sym (filter_map-append binding_entry (nodes_of value) (nodes_of_fields rest)))
        (match_append _ _ _ _ (named value m want.0 want.2 (extended (step number) place)) (fields_named rest m ty v step h.1 place))

    parts_named : (ns : Nodes) (m : Matched) (tys : List TyId) (n : ℕ) → Holds (patterns.part_patterns g.items m tys ns) → (place : Place) → Matches ((in_parts g.items ns n).bindings place) (filter_map binding_entry (nodes_among ns))
    parts_named no_node m tys n h place = tt
    parts_named (a_node first rest) m [] n h place = absurd (untrue h)
    parts_named (a_node first rest) m (want ∷ tys) n h place =
        subst (λ (z : List InScope). Matches ((shape g.items first).bindings (extended (ToPart n) place) ++ (in_parts g.items rest (suc n)).bindings place) z) (sym (filter_map-append binding_entry (nodes_of first) (nodes_among rest)))
        (match_append _ _ _ _ (named first m want h.0 (extended (ToPart n) place)) (parts_named rest m tys (suc n) h.1 place))

  -- ---- names have cells
  abbrev pub Keyed : List InScope → Type 0
  Keyed [] = Unit {0}
  Keyed (e ∷ es) = base.KeyIs g e.key e.ty × Keyed es

  keyed_append : (xs ys : List InScope) → Keyed xs → Keyed ys → Keyed (xs ++ ys)
  keyed_append [] ys h k = k
  keyed_append (x ∷ xs) ys h k = (h.0, keyed_append xs ys h.1 k)

  mutual
    pub keyed : (p : Node) (m : Matched) (want : TyId) → Holds (patterns.pattern g.items m want p) → base.CellsOk g (cells g.items true p) → Keyed (entries_of p)
    keyed (tree.node id at ty by form) m want h c = row_keyed form id ty by m h.1 c

    row_keyed : (form : Form) (id : ℕ) (ty : TyId) (by : Option Use) (m : Matched) → Holds (patterns.pattern_row g.items m ty by form) → base.CellsOk g (cells g.items true (tree.node id record { line = 0; col = 0 } ty by form)) →
        Keyed (filter_map binding_entry (tree.node id record { line = 0; col = 0 } ty by form ∷ nodes_in form))
    row_keyed tree.Wildcard id ty by m h c = tt
    row_keyed (tree.Binding name) id ty by m h c = (base.by_never g ty (λ v. (rw v at c).0) (λ v. (rw v at c).0), tt)
    row_keyed (tree.NumberPattern value) id ty by m h c = tt
    row_keyed (tree.TruthPattern value) id ty by m h c = tt
    row_keyed (tree.StructPattern fields) id ty by m h c = fields_keyed fields _ ty 0 h.1.1.1 (base.cells_second g _ (cells_of_fields g.items fields) c)
    row_keyed (tree.VariantPattern variant is_test fields) id ty by m h c = fields_keyed fields _ ty variant h.1.1.1 (base.cells_second g _ (cells_of_fields g.items fields) c)
    row_keyed (tree.TuplePattern parts) id ty by m h c = let tys = found (patterns.tuple_types g.items ty) _ h.1 in parts_keyed parts m tys.0 tys.2 (base.cells_second g _ (all_cells g.items parts) c)
    row_keyed (tree.ArrayPattern elements) id ty by m h c = let a = found (types.array_of g.items ty) _ h.1 in parts_keyed elements m _ a.2 (base.cells_second g _ (all_cells g.items elements) c)
    row_keyed (tree.OrPattern alternatives) id ty by m h c = subst Keyed (sym (none_named (nodes_among alternatives) (base.and_second _ _ h.0))) tt
    row_keyed other id ty by m h c = absurd (untrue h)

    fields_keyed : (fs : Fields) (m : Matched) (ty : TyId) (v : ℕ) → Holds (patterns.field_patterns g.items m ty v fs) → base.CellsOk g (cells_of_fields g.items fs) → Keyed (filter_map binding_entry (nodes_of_fields fs))
    fields_keyed no_field m ty v h c = tt
    fields_keyed (a_field number value rest) m ty v h c =
        let want = found (field_ty g.items ty v number) _ h.0 in
        subst Keyed (sym (filter_map-append binding_entry (nodes_of value) (nodes_of_fields rest)))
        (keyed_append _ _ (keyed value m want.0 want.2 (base.cells_first g (cells g.items true value) (cells_of_fields g.items rest) c)) (fields_keyed rest m ty v h.1 (base.cells_second g (cells g.items true value) (cells_of_fields g.items rest) c)))

    parts_keyed : (ns : Nodes) (m : Matched) (tys : List TyId) → Holds (patterns.part_patterns g.items m tys ns) → base.CellsOk g (all_cells g.items ns) → Keyed (filter_map binding_entry (nodes_among ns))
    parts_keyed no_node m tys h c = tt
    parts_keyed (a_node first rest) m [] h c = absurd (untrue h)
    parts_keyed (a_node first rest) m (want ∷ tys) h c =
        subst Keyed (sym (filter_map-append binding_entry (nodes_of first) (nodes_among rest)))
        (keyed_append _ _ (keyed first m want h.0 (base.cells_first g (cells g.items true first) (all_cells g.items rest) c)) (parts_keyed rest m tys h.1 (base.cells_second g (cells g.items true first) (all_cells g.items rest) c)))

  -- the keys of what is bound
  pub bound_keys : (bounds : List BoundName) (es : List InScope) → Matches bounds es → Keyed es → base.KeysOk g bounds
  bound_keys [] [] m k = tt
  bound_keys [] (e ∷ es) m k = absurd m
  bound_keys (b ∷ bounds) [] m k = absurd m
  bound_keys (b ∷ bounds) (e ∷ es) m k = (subst (λ (z : TyId). base.KeyIs g b.key z) (sym m.1) (subst (λ (z : ℕ). base.KeyIs g z e.ty) (sym m.0) k.0), bound_keys bounds es m.2 k.1)

  -- ---- names that stand for themselves
  abbrev Whole : Aliases → ℕ → Type 0
  Whole aliases key = place_of_key key aliases ≡ whole_local key

  whole_over : (aliases : Aliases) (n : ℕ) (at_least : base.AliasesOver g aliases (tree.node n record { line = 0; col = 0 } (record { 0 = 0 }) None tree.Wildcard ∷ [])) → Whole aliases n
  whole_over [] n h = refl
  whole_over (a ∷ aliases) n h = ap (λ (b : Bool). if b then a.1 else place_of_key n aliases) (apart_over a.0 n h.0.0) ∙ whole_over aliases n h.1

  one_over : (aliases : Aliases) (n : Node) (ns : List Node) → base.AliasesOver g aliases (n ∷ ns) → base.AliasesOver g aliases (tree.node (number_of n) record { line = 0; col = 0 } (record { 0 = 0 }) None tree.Wildcard ∷ [])
  one_over [] n ns h = tt
  one_over (a ∷ aliases) n ns h = ((h.0.0, tt), one_over aliases n ns h.1)

  rest_over : (aliases : Aliases) (n : Node) (ns : List Node) → base.AliasesOver g aliases (n ∷ ns) → base.AliasesOver g aliases ns
  rest_over [] n ns h = tt
  rest_over (a ∷ aliases) n ns h = (h.0.1, rest_over aliases n ns h.1)

  pub wholes : (aliases : Aliases) (ns : List Node) → base.AliasesOver g aliases ns → OfNodes (Whole aliases) ns
  wholes aliases [] h = tt
  wholes aliases (n ∷ ns) h = (whole_over aliases (number_of n) (one_over aliases n ns h), wholes aliases ns (rest_over aliases n ns h))

  overs : (key : ℕ) (ns : List Node) → base.Over g key ns → OfNodes (λ k. nat_lt key k ≡ true) ns
  overs key [] h = tt
  overs key (n ∷ ns) h = (h.0, overs key ns h.1)

  belows : (xs ys : List Node) → base.Below g xs ys → OfNodes (λ k. base.Over g k ys) xs
  belows [] ys h = tt
  belows (x ∷ xs) ys h = (h.0, belows xs ys h.1)

  -- ---- behind a pattern its names are in scope
  in_scope : (key : ℕ) (e : InScope) (aliases : Aliases) (old : List InScope) → (entry_with key old ≡ Some e → base.Typed g (place_of_key key aliases) e.ty) → (es : List InScope) → Keyed es → OfEntries (Whole aliases) es →
      entry_with key (es ++ old) ≡ Some e → base.Typed g (place_of_key key aliases) e.ty
  in_scope key e aliases old older [] ok w is = older is
  in_scope key e aliases old older (d ∷ es) ok w is = by (in_scope key e aliases old older es ok.1 w.1) (d.key == key) refl is
    where
      by : (entry_with key (es ++ old) ≡ Some e → base.Typed g (place_of_key key aliases) e.ty) → (x : Bool) → (d.key == key) ≡ x → cond x (Some d) (entry_with key (es ++ old)) ≡ Some e → base.Typed g (place_of_key key aliases) e.ty
      by again true q h =
          let same = same_Some d e h in
          let at : d.key ≡ key = eqb-true d.key key q in
          let typed = base.key_typed g d.key d.ty ok.0 in
          subst (λ (z : InScope). base.Typed g (place_of_key key aliases) z.ty) same
          (subst (λ (z : Place). base.Typed g z d.ty) (sym w.0 ∙ ap (λ (k : ℕ). place_of_key k aliases) at) typed)
      by again false q h = again h

  lets_in_scope_go : (key : ℕ) (e : InScope) (aliases : Aliases) (old : List InScope) → (entry_with key old ≡ Some e → base.Left g (place_of_key key aliases)) → (es : List InScope) → OfEntries (Whole aliases) es → entry_with key (es ++ old) ≡ Some e → base.Left g (place_of_key key aliases)
  lets_in_scope_go key e aliases old older [] w is = older is
  lets_in_scope_go key e aliases old older (d ∷ es) w is = by (lets_in_scope_go key e aliases old older es w.1) (d.key == key) refl is
    where
      by : (entry_with key (es ++ old) ≡ Some e → base.Left g (place_of_key key aliases)) → (x : Bool) → (d.key == key) ≡ x → cond x (Some d) (entry_with key (es ++ old)) ≡ Some e → base.Left g (place_of_key key aliases)
      by again true q h = subst (base.Left g) (sym w.0 ∙ ap (λ (k : ℕ). place_of_key k aliases) (eqb-true d.key key q)) (base.left_whole g d.key)
      by again false q h = again h

  pub around_more : (x : Context) (a : LoopsAndGuards) (p : Node) → base.AroundOk g x a → Keyed (entries_of p) → base.AliasesOver g a.aliases (nodes_of p) → base.AroundOk g (with_entries (entries_of p) x) a
  around_more x a p ok keyed over = record {
    names = λ key e is. in_scope key e a.aliases x.entries (ok.names key e) (entries_of p) keyed (of_entries (Whole a.aliases) (nodes_of p) (wholes a.aliases (nodes_of p) over)) is;
    self = ok.self;
    captures = ok.captures;
    lets_go = λ key e is out. lets_in_scope_go key e a.aliases x.entries (λ q. ok.lets_go key e q out) (entries_of p) (of_entries (Whole a.aliases) (nodes_of p) (wholes a.aliases (nodes_of p) over)) is;
    self_lets_go = ok.self_lets_go;
    captured_out = ok.captured_out;
    answer = ok.answer;
    loops = ok.loops;
  }

  -- ---- in a guard they stand for what they would take
  in_guard_so : (key : ℕ) (e : InScope) (aliases : Aliases) (old : List InScope) → (entry_with key old ≡ Some e → base.Typed g (place_of_key key aliases) e.ty) → (bounds : List BoundName) (es : List InScope) → Matches bounds es → rules.BoundsOk g bounds →
      entry_with key (scopes.in_guard es ++ old) ≡ Some e → base.Typed g (place_of_key key (aliases_with bounds aliases)) e.ty
  in_guard_so key e aliases old older [] [] m ok is = older is
  in_guard_so key e aliases old older [] (d ∷ es) m ok is = absurd m
  in_guard_so key e aliases old older (b ∷ bounds) [] m ok is = absurd m
  in_guard_so key e aliases old older (b ∷ bounds) (d ∷ es) m ok is = by (in_guard_so key e aliases old older bounds es m.2 ok.1) (d.key == key) refl is
    where
      by : (entry_with key (scopes.in_guard es ++ old) ≡ Some e → base.Typed g (place_of_key key (aliases_with bounds aliases)) e.ty) → (x : Bool) → (d.key == key) ≡ x → cond x (Some (record d { is_in_guard = true })) (entry_with key (scopes.in_guard es ++ old)) ≡ Some e →
          base.Typed g (if key == b.key then b.site.place else place_of_key key (aliases_with bounds aliases)) e.ty
      by again true q h =
          let same = same_Some (record d { is_in_guard = true }) e h in
          let at : key ≡ b.key = sym (m.0 ∙ eqb-true d.key key q) in
          subst (λ (x : Bool). base.Typed g (if x then b.site.place else place_of_key key (aliases_with bounds aliases)) e.ty) (sym (equal_too key b.key at))
          (subst (λ (z : InScope). base.Typed g b.site.place z.ty) same (subst (λ (z : TyId). base.Typed g b.site.place z) m.1 ok.0.1))
      by again false q h =
          subst (λ (x : Bool). base.Typed g (if x then b.site.place else place_of_key key (aliases_with bounds aliases)) e.ty) (sym (ap (λ (k : ℕ). key == k) m.0 ∙ differ_too d.key key q)) (again h)

  lets_guarded_go : (key : ℕ) (e : InScope) (aliases : Aliases) (old : List InScope) → e.is_in_guard ≡ false → (entry_with key old ≡ Some e → base.Left g (place_of_key key aliases)) → (bounds : List BoundName) (es : List InScope) → Matches bounds es → entry_with key (scopes.in_guard es ++ old) ≡ Some e → base.Left g (place_of_key key (aliases_with bounds aliases))
  lets_guarded_go key e aliases old out older [] [] m is = older is
  lets_guarded_go key e aliases old out older [] (d ∷ es) m is = absurd m
  lets_guarded_go key e aliases old out older (b ∷ bounds) [] m is = absurd m
  lets_guarded_go key e aliases old out older (b ∷ bounds) (d ∷ es) m is = by (lets_guarded_go key e aliases old out older bounds es m.2) (d.key == key) refl is
    where
      by : (entry_with key (scopes.in_guard es ++ old) ≡ Some e → base.Left g (place_of_key key (aliases_with bounds aliases))) → (x : Bool) → (d.key == key) ≡ x → cond x (Some (record d { is_in_guard = true })) (entry_with key (scopes.in_guard es ++ old)) ≡ Some e →
          base.Left g (if key == b.key then b.site.place else place_of_key key (aliases_with bounds aliases))
      by again true q h = absurd (untrue (sym out ∙ ap (λ (z : InScope). z.is_in_guard) (sym (same_Some (record d { is_in_guard = true }) e h))))
      by again false q h =
          subst (λ (x : Bool). base.Left g (if x then b.site.place else place_of_key key (aliases_with bounds aliases))) (sym (ap (λ (k : ℕ). key == k) m.0 ∙ differ_too d.key key q)) (again h)

  self_past : (key : ℕ) (aliases : Aliases) (bounds : List BoundName) (es : List InScope) → Matches bounds es → OfEntries (λ k. nat_lt key k ≡ true) es → place_of_key key (aliases_with bounds aliases) ≡ place_of_key key aliases
  self_past key aliases [] [] m h = refl
  self_past key aliases [] (d ∷ es) m h = absurd m
  self_past key aliases (b ∷ bounds) [] m h = absurd m
  self_past key aliases (b ∷ bounds) (d ∷ es) m h =
      ap (λ (x : Bool). if x then b.site.place else place_of_key key (aliases_with bounds aliases)) (ap (λ (k : ℕ). key == k) m.0 ∙ apart_under key d.key h.0) ∙ self_past key aliases bounds es m.2 h.1

  self_under : (o : Option InScope) (e : InScope) (ns : List Node) → base.SelfOver g o ns → o ≡ Some e → base.Over g e.key ns
  self_under None e ns h q = absurd (none-some e q)
  self_under (Some d) e ns h q = subst (λ (z : InScope). base.Over g z.key ns) (same_Some d e q) h

  pub around_guard : (x : Context) (a : LoopsAndGuards) (p : Node) (bounds : List BoundName) → base.AroundOk g x a → Matches bounds (entries_of p) → rules.BoundsOk g bounds → base.SelfOver g x.closure (nodes_of p) → base.AroundOk g (with_entries (scopes.in_guard (entries_of p)) x) (in_guard bounds a)
  around_guard x a p bounds ok m b over = record {
    names = λ key e is. in_guard_so key e a.aliases x.entries (ok.names key e) bounds (entries_of p) m b is;
    self = λ e is. subst (λ (z : Place). base.Typed g z e.ty)
        (sym (self_past e.key a.aliases bounds (entries_of p) m (of_entries (λ k. nat_lt e.key k ≡ true) (nodes_of p) (overs e.key (nodes_of p) (self_under x.closure e (nodes_of p) over is)))))
        (ok.self e is);
    captures = ok.captures;
    lets_go = λ key e is out. lets_guarded_go key e a.aliases x.entries out (λ q. ok.lets_go key e q out) bounds (entries_of p) m is;
    self_lets_go = λ e is. subst (base.Left g)
        (sym (self_past e.key a.aliases bounds (entries_of p) m (of_entries (λ k. nat_lt e.key k ≡ true) (nodes_of p) (overs e.key (nodes_of p) (self_under x.closure e (nodes_of p) over is)))))
        (ok.self_lets_go e is);
    captured_out = ok.captured_out;
    answer = ok.answer;
    loops = ok.loops;
  }

  guard_fresh : (aliases : Aliases) (ns : List Node) (bounds : List BoundName) (es : List InScope) → Matches bounds es → OfEntries (λ k. base.Over g k ns) es → base.AliasesOver g aliases ns → base.AliasesOver g (aliases_with bounds aliases) ns
  guard_fresh aliases ns [] [] m h over = over
  guard_fresh aliases ns [] (d ∷ es) m h over = absurd m
  guard_fresh aliases ns (b ∷ bounds) [] m h over = absurd m
  guard_fresh aliases ns (b ∷ bounds) (d ∷ es) m h over = (subst (λ (k : ℕ). base.Over g k ns) (sym m.0) h.0, guard_fresh aliases ns bounds es m.2 h.1 over)

  -- what is around the nodes behind a pattern, and around those of a guard
  pub fine_more : (x : Context) (a : LoopsAndGuards) (p : Node) (ns : List Node) → base.Fine g x a (nodes_of p) → base.Fine g x a ns → Keyed (entries_of p) → base.Fine g (with_entries (entries_of p) x) a ns
  fine_more x a p ns here behind keyed = record { around = around_more x a p here.around keyed here.fresh; fresh = behind.fresh; apart = behind.apart }

  pub fine_guard : (x : Context) (a : LoopsAndGuards) (p : Node) (ns : List Node) (bounds : List BoundName) → base.Rise g (nodes_of p ++ ns) → base.Fine g x a (nodes_of p ++ ns) → Matches bounds (entries_of p) → rules.BoundsOk g bounds → base.Fine g (with_entries (scopes.in_guard (entries_of p)) x) (in_guard bounds a) ns
  fine_guard x a p ns bounds rise f m b =
      let here = base.fine_first g x a (nodes_of p) ns f in
      let behind = base.fine_second g x a (nodes_of p) ns f in
      record {
        around = around_guard x a p bounds here.around m b here.apart;
        fresh = guard_fresh a.aliases ns bounds (entries_of p) m (of_entries (λ k. base.Over g k ns) (nodes_of p) (belows (nodes_of p) ns (base.rise_across g (nodes_of p) ns rise))) behind.fresh;
        apart = behind.apart;
      }

  -- ---- in a loop
  pub fine_loop : (x : Context) (a : LoopsAndGuards) (ns : List Node) (l : LoopAround) (to : Destination) → base.Fine g x a ns → base.DestIf g to l.ty → base.Fine g (within l x) (in_loop l.loop to a) ns
  fine_loop x a ns l to f d = record {
    around = record {
      names = f.around.names;
      self = f.around.self;
      captures = f.around.captures;
      lets_go = f.around.lets_go;
      self_lets_go = f.around.self_lets_go;
      captured_out = f.around.captured_out;
      answer = f.around.answer;
      loops = λ loop k is. by loop k (l.loop == loop) refl is;
    };
    fresh = f.fresh;
    apart = f.apart;
  }
    where
      by : (loop : ℕ) (k : LoopAround) (b : Bool) → (l.loop == loop) ≡ b → cond b (Some l) (loop_with loop x.loops) ≡ Some k → base.DestIf g (if loop == l.loop then to else loop_destination loop a.loops) k.ty
      by loop k true q h =
          subst (λ (b : Bool). base.DestIf g (if b then to else loop_destination loop a.loops) k.ty) (sym (equal_too loop l.loop (sym (eqb-true l.loop loop q))))
          (subst (λ (z : LoopAround). base.DestIf g to z.ty) (same_Some l k h) d)
      by loop k false q h =
          subst (λ (b : Bool). base.DestIf g (if b then to else loop_destination loop a.loops) k.ty) (sym (differ_too l.loop loop q)) (f.around.loops loop k h)
