-- The parts that the names of a pattern take lie apart: each two places part at some step. So what a name moves leaves what
-- is known of the parts of those behind it.
use Rattle.std.proofs.Common.{◌≡◌, ◌⊎◌, inl, inr, ℕ, suc, ◌+◌, ◌<◌, ◌≤◌, ◌==◌, ◌&&◌, ◌||◌, not, Bool, true, false, List, [], ◌∷◌, ◌++◌, map, Option, refl, ap, sym, ◌∙◌, subst, append_assoc, arith}
use Rattle.std.specs.Prelude.{nat_eq, replicate}
use Rattle.std.specs.List.{list_any}
use Rattle.std.specs.Cmp.Derive.{both_true}
use Rattle.std.proofs.lemmas.Bool.{false≢true}
use Rattle.std.proofs.lemmas.Bool.Decides.{Decides-eqb}
use Rattle.mir_base.specs.declared.place_in_text.Pos.{Pos}
use Rattle.mir_ty.specs.declared.ty.TyId.{TyId}
use Rattle.mir_ty.specs.ItemTable.{ItemTable}
use Rattle.mir_ty.specs.Parts.{field_ty}
use Rattle.store_model.specs.Places.Place.{Step, ToPart, ToField, ToContent, ToElement, Place}
use Rattle.typed_tree.specs.declared.node.Use.{Use}
use Rattle.typed_tree.specs.Tree as tree
use Rattle.typed_tree.specs.Tree.{Node, node, Form, Nodes, no_node, a_node, Fields, no_field, a_field}
use Rattle.src_meaning.specs.Locals.Effects.{step_at, place_at}
use Rattle.src_meaning.specs.Shape as shapes
use Rattle.src_meaning.specs.Shape.{BoundName, head, extended, shape, shape_of}
use Rattle.well_typed.specs.Claim.{Holds}
use Rattle.well_typed.specs.Names.{is_number_among, are_distinct_numbers}
use Rattle.well_typed.specs.Patterns as patterns
use Rattle.well_typed.specs.Patterns.{Matched, field_numbers}
use Rattle.well_typed.specs.Types as types
use Rattle.soundness_values.proofs.Facts.{takes_index, hits, stays}
use Rattle.soundness_cells.proofs.PassCellTypes as facts_of
use Rattle.soundness.proofs.PassKnownMoved.{Leaves}
use Rattle.soundness_values.proofs.PlaceTypes.{some_holds}
use Rattle.soundness_values.proofs.StillSure.{index_above}
use Rattle.soundness_values.proofs.Ways.{has_index}

-- ---- steps that part

pub data Diverge : List Step → List Step → Type 0 where
  at_parts : (n m : ℕ) (a b : List Step) → (n == m) ≡ false → Diverge (ToPart n ∷ a) (ToPart m ∷ b)
  at_fields : (v n m : ℕ) (a b : List Step) → (n == m) ≡ false → Diverge (ToField v n ∷ a) (ToField v m ∷ b)
  behind : (s : Step) (a b : List Step) → Diverge a b → Diverge (s ∷ a) (s ∷ b)

pub diverge_behind : (base a b : List Step) → Diverge a b → Diverge (base ++ a) (base ++ b)
diverge_behind [] a b d = d
diverge_behind (s ∷ base) a b d = behind s (base ++ a) (base ++ b) (diverge_behind base a b d)

pub diverge_at : (local : ℕ → ℕ) (a b : List Step) → Diverge a b →
    Diverge (map (step_at local) a) (map (step_at local) b)
diverge_at local _ _ (at_parts n m a b e) = at_parts n m (map (step_at local) a) (map (step_at local) b) e
diverge_at local _ _ (at_fields v n m a b e) = at_fields v n m (map (step_at local) a) (map (step_at local) b) e
diverge_at local _ _ (behind s a b d) =
    behind (step_at local s) (map (step_at local) a) (map (step_at local) b) (diverge_at local a b d)

same_head : (s t : Step) (a b : List Step) → s ∷ a ≡ t ∷ b → s ≡ t
same_head s t a b e = cc

same_tail : (s t : Step) (a b : List Step) → s ∷ a ≡ t ∷ b → a ≡ b
same_tail s t a b e = cc

itself_and : (n : ℕ) (b : Bool) → b ≡ false → (n == n && b) ≡ false
itself_and n b e = ap (λ c. c && b) ((Decides-eqb n n).1 refl) ∙ e

-- a change at the first is at none above the second
pub hits_none : (a b : List Step) → Diverge a b → has_index a ≡ false → (above : List Step) (next : Step)
    (below : List Step) → b ≡ above ++ next ∷ below → hits a above ≡ false
hits_none _ _ (at_parts n m a b e) x [] next below k = refl
hits_none _ _ (at_fields v n m a b e) x [] next below k = refl
hits_none _ _ (behind (ToPart n) a b d) x [] next below k = refl
hits_none _ _ (behind (ToField v n) a b d) x [] next below k = refl
hits_none _ _ (behind ToContent a b d) x [] next below k = refl
hits_none _ _ (behind (ToElement i) a b d) x above next below k = absurd (false≢true (sym x))
hits_none _ _ (at_parts n m a b e) x (u ∷ above) next below k =
    subst (λ s. hits (ToPart n ∷ a) (s ∷ above) ≡ false) (same_head (ToPart m) u b (above ++ next ∷ below) k)
    (ap (λ c. c && hits a above) e)
hits_none _ _ (at_fields v n m a b e) x (u ∷ above) next below k =
    subst (λ s. hits (ToField v n ∷ a) (s ∷ above) ≡ false) (same_head (ToField v m) u b (above ++ next ∷ below) k)
    (ap (λ c. c && hits a above) e)
hits_none _ _ (behind (ToPart n) a b d) x (u ∷ above) next below k =
    subst (λ s. hits (ToPart n ∷ a) (s ∷ above) ≡ false) (same_head (ToPart n) u b (above ++ next ∷ below) k)
    (itself_and n (hits a above)
    (hits_none a b d x above next below (same_tail (ToPart n) u b (above ++ next ∷ below) k)))
hits_none _ _ (behind (ToField v n) a b d) x (u ∷ above) next below k =
    subst (λ s. hits (ToField v n ∷ a) (s ∷ above) ≡ false) (same_head (ToField v n) u b (above ++ next ∷ below) k)
    (itself_and n (hits a above)
    (hits_none a b d x above next below (same_tail (ToField v n) u b (above ++ next ∷ below) k)))
hits_none _ _ (behind ToContent a b d) x (u ∷ above) next below k =
    subst (λ s. hits (ToContent ∷ a) (s ∷ above) ≡ false) (same_head ToContent u b (above ++ next ∷ below) k)
    (hits_none a b d x above next below (same_tail ToContent u b (above ++ next ∷ below) k))

-- what is moved leaves a part of the same value that lies apart
pub leaves_apart : (changed place : Place) → changed.local ≡ place.local → Diverge changed.steps place.steps →
    has_index changed.steps ≡ false → takes_index place.local place.steps ≡ false → Leaves changed place
leaves_apart changed place same d x t = record {
  above = λ steps u m below e. both_true
      (ap not (second_false (changed.local == place.local) (hits changed.steps steps)
      (hits_none changed.steps place.steps d x steps (ToField u m) below e)))
      (ap not (subst (λ l. takes_index l steps ≡ false) (sym same)
      (index_above place.local steps (ToField u m ∷ below) (ap (takes_index place.local) (sym e) ∙ t))));
  index = λ i k. other i k;
}
  where
    second_false : (a b : Bool) → b ≡ false → (a && b) ≡ false
    second_false true b e = e
    second_false false b e = refl

    other : (i : ℕ) → takes_index i place.steps ≡ true → (i == changed.local) ≡ false
    other i k = by (i == changed.local) refl
      where
        by : (c : Bool) → (i == changed.local) ≡ c → c ≡ false
        by false e = refl
        by true e = absurd (false≢true (sym t
            ∙ subst (λ l. takes_index l place.steps ≡ true) ((Decides-eqb i changed.local).0 e ∙ same) k))

-- ---- the names of a pattern

-- parts of a place
abbrev pub Under : Place → List BoundName → Type 0
Under base [] = Unit {0}
Under base (b ∷ bounds) = ((b.site.place.local ≡ base.local)
    × ((path : List Step) × (b.site.place.steps ≡ base.steps ++ path))) × Under base bounds

-- parts of some of its parts
abbrev UnderAny : (ℕ → Type 0) → Place → (ℕ → Step) → List BoundName → Type 0
UnderAny ok base step [] = Unit {0}
UnderAny ok base step (b ∷ bounds) = ((b.site.place.local ≡ base.local)
    × ((k : ℕ) × (ok k × ((path : List Step) × (b.site.place.steps ≡ base.steps ++ step k ∷ path)))))
    × UnderAny ok base step bounds

-- one lies apart from others, which are parts of the same value
abbrev pub Apart : BoundName → List BoundName → Type 0
Apart b [] = Unit {0}
Apart b (x ∷ bounds) = ((b.site.place.local ≡ x.site.place.local) × Diverge b.site.place.steps x.site.place.steps)
    × Apart b bounds

abbrev pub Spread : List BoundName → Type 0
Spread [] = Unit {0}
Spread (b ∷ bounds) = Apart b bounds × Spread bounds

both_under : (base : Place) (a b : List BoundName) → Under base a → Under base b → Under base (a ++ b)
both_under base [] b f g = g
both_under base (x ∷ a) b f g = (f.0, both_under base a b f.1 g)

both_any : (ok : ℕ → Type 0) (base : Place) (step : ℕ → Step) (a b : List BoundName) → UnderAny ok base step a →
    UnderAny ok base step b → UnderAny ok base step (a ++ b)
both_any ok base step [] b f g = g
both_any ok base step (x ∷ a) b f g = (f.0, both_any ok base step a b f.1 g)

any_more : (ok more : ℕ → Type 0) → ((k : ℕ) → ok k → more k) → (base : Place) (step : ℕ → Step)
    (bounds : List BoundName) → UnderAny ok base step bounds → UnderAny more base step bounds
any_more ok more f base step [] u = tt
any_more ok more f base step (b ∷ bounds) u =
    ((u.0.0, (u.0.1.0, (f u.0.1.0 u.0.1.1.0, u.0.1.1.1))), any_more ok more f base step bounds u.1)

any_under : (ok : ℕ → Type 0) (base : Place) (step : ℕ → Step) (bounds : List BoundName) →
    UnderAny ok base step bounds → Under base bounds
any_under ok base step [] u = tt
any_under ok base step (b ∷ bounds) u =
    ((u.0.0, (step u.0.1.0 ∷ u.0.1.1.1.0, u.0.1.1.1.1)), any_under ok base step bounds u.1)

-- parts of one part
one_any : (base : Place) (step : ℕ → Step) (n : ℕ) (bounds : List BoundName) → Under (extended (step n) base) bounds →
    UnderAny (λ k. k ≡ n) base step bounds
one_any base step n [] u = tt
one_any base step n (b ∷ bounds) u = (
  (u.0.0, (n, (refl, (u.0.1.0, u.0.1.1 ∙ append_assoc base.steps (step n ∷ []) u.0.1.0)))),
  one_any base step n bounds u.1,
)

-- parts of one part lie apart from those of others
abbrev Differs : (ℕ → Step) → Type 0
Differs step = (j k : ℕ) (a b : List Step) → (j == k) ≡ false → Diverge (step j ∷ a) (step k ∷ b)

apart_from : (ok : ℕ → Type 0) (base : Place) (step : ℕ → Step) → Differs step → (n : ℕ) →
    ((k : ℕ) → ok k → (n == k) ≡ false) → (b : BoundName) → (b.site.place.local ≡ base.local) → (path : List Step) →
    b.site.place.steps ≡ base.steps ++ step n ∷ path → (bounds : List BoundName) → UnderAny ok base step bounds →
    Apart b bounds
apart_from ok base step d n f b l path e [] u = tt
apart_from ok base step d n f b l path e (x ∷ bounds) u = (
  (
    l ∙ sym u.0.0,
    subst (λ s. Diverge s x.site.place.steps) (sym e)
        (subst (Diverge (base.steps ++ step n ∷ path)) (sym u.0.1.1.1.1)
        (diverge_behind base.steps (step n ∷ path) (step u.0.1.0 ∷ u.0.1.1.1.0)
        (d n u.0.1.0 path u.0.1.1.1.0 (f u.0.1.0 u.0.1.1.0)))),
  ),
  apart_from ok base step d n f b l path e bounds u.1,
)

both_apart : (x : BoundName) (a b : List BoundName) → Apart x a → Apart x b → Apart x (a ++ b)
both_apart x [] b f g = g
both_apart x (y ∷ a) b f g = (f.0, both_apart x a b f.1 g)

both_spread : (ok : ℕ → Type 0) (base : Place) (step : ℕ → Step) → Differs step → (n : ℕ) →
    ((k : ℕ) → ok k → (n == k) ≡ false) → (a b : List BoundName) → UnderAny (λ k. k ≡ n) base step a →
    UnderAny ok base step b → Spread a → Spread b → Spread (a ++ b)
both_spread ok base step d n f [] b u w s t = t
both_spread ok base step d n f (x ∷ a) b u w s t = (
  both_apart x a b s.0 (apart_from ok base step d n f x u.0.0 u.0.1.1.1.0
      (subst (λ k. x.site.place.steps ≡ base.steps ++ step k ∷ u.0.1.1.1.0) u.0.1.1.0 u.0.1.1.1.1) b w),
  both_spread ok base step d n f a b u.1 w s.1 t,
)

part_differs : Differs ToPart
part_differs j k a b e = at_parts j k a b e

field_differs : (v : ℕ) → Differs (ToField v)
field_differs v j k a b e = at_fields v j k a b e

append_nil : (steps : List Step) → steps ++ [] ≡ steps
append_nil [] = refl
append_nil (s ∷ steps) = ap (λ l. s ∷ l) (append_nil steps)

-- one of some numbers
abbrev Listed : List ℕ → ℕ → Type 0
Listed [] k = ⊥
Listed (n ∷ ns) k = (k ≡ n) ⊎ Listed ns k

not_listed : (n : ℕ) (ns : List ℕ) → is_number_among n ns ≡ false → (k : ℕ) → Listed ns k → (n == k) ≡ false
not_listed n [] h k i = absurd i
not_listed n (m ∷ ns) h k (inl e) = subst (λ x. (n == x) ≡ false) (sym e) (first (n == m) (list_any (nat_eq n) ns) h)
  where
    first : (a b : Bool) → (a || b) ≡ false → a ≡ false
    first true b h = h
    first false b h = refl
not_listed n (m ∷ ns) h k (inr i) = not_listed n ns (second (n == m) (list_any (nat_eq n) ns) h) k i
  where
    second : (a b : Bool) → (a || b) ≡ false → b ≡ false
    second true b h = absurd (false≢true (sym h))
    second false b h = h

module _ (items : ItemTable) where
  mutual
    pub names_under : (p : Node) (place : Place) → Under place ((shape items p).bindings place)
    names_under (node id at ty by form) place = form_under form id ty by place

    form_under : (form : Form) (id : ℕ) (ty : TyId) (by : Option Use) (place : Place) →
        Under place ((shape_of items form (head id ty by)).bindings place)
    form_under (tree.Binding name) id ty by place = ((refl, ([], sym (append_nil place.steps))), tt)
    form_under (tree.StructPattern fields) id ty by place =
        any_under (Listed (field_numbers fields)) place ToPart _ (fields_under fields ToPart place)
    form_under (tree.VariantPattern variant is_test fields) id ty by place =
        any_under (Listed (field_numbers fields)) place (ToField variant) _ (fields_under fields (ToField variant) place)
    form_under (tree.TuplePattern parts) id ty by place = any_under (λ k. 0 ≤ k) place ToPart _ (parts_under parts 0 place)
    form_under (tree.ArrayPattern elements) id ty by place =
        any_under (λ k. 0 ≤ k) place ToPart _ (parts_under elements 0 place)
    form_under form id ty by place = tt

    fields_under : (fs : Fields) (step : ℕ → Step) (place : Place) →
        UnderAny (Listed (field_numbers fs)) place step ((shapes.in_fields items fs step).bindings place)
    fields_under no_field step place = tt
    fields_under (a_field number value rest) step place =
        both_any (Listed (number ∷ field_numbers rest)) place step
        ((shape items value).bindings (extended (step number) place))
        ((shapes.in_fields items rest step).bindings place)
        (any_more (λ k. k ≡ number) (Listed (number ∷ field_numbers rest)) (λ k e. inl e) place step
        ((shape items value).bindings (extended (step number) place))
        (one_any place step number ((shape items value).bindings (extended (step number) place))
        (names_under value (extended (step number) place))))
        (any_more (Listed (field_numbers rest)) (Listed (number ∷ field_numbers rest)) (λ k i. inr i) place step
        ((shapes.in_fields items rest step).bindings place) (fields_under rest step place))

    parts_under : (ns : Nodes) (n : ℕ) (place : Place) →
        UnderAny (λ k. n ≤ k) place ToPart ((shapes.in_parts items ns n).bindings place)
    parts_under no_node n place = tt
    parts_under (a_node one rest) n place =
        both_any (λ k. n ≤ k) place ToPart ((shape items one).bindings (extended (ToPart n) place))
        ((shapes.in_parts items rest (suc n)).bindings place)
        (any_more (λ k. k ≡ n) (λ k. n ≤ k) (λ k e. let less : n ≤ k = omega (e, arith) in less) place ToPart
        ((shape items one).bindings (extended (ToPart n) place))
        (one_any place ToPart n ((shape items one).bindings (extended (ToPart n) place))
        (names_under one (extended (ToPart n) place))))
        (any_more (λ k. suc n ≤ k) (λ k. n ≤ k) (λ k l. let less : n ≤ k = omega (l, arith) in less) place ToPart
        ((shapes.in_parts items rest (suc n)).bindings place) (parts_under rest (suc n) place))

  past_number : (n k : ℕ) → suc n ≤ k → (n == k) ≡ false
  past_number n k l = by (n == k) refl
    where
      by : (c : Bool) → (n == k) ≡ c → c ≡ false
      by false e = refl
      by true e = let same : n ≡ k = (Decides-eqb n k).0 e in absurd (let never : ⊥ = omega (same, l, arith) in never)

  mutual
    -- the names of a well typed pattern take parts that lie apart
    pub names_spread : (p : Node) (m : Matched) (want : TyId) → Holds (patterns.pattern items m want p) → (place : Place) →
        Spread ((shape items p).bindings place)
    names_spread (node id at ty by form) m want h place = form_spread form m id ty by h.1 place

    form_spread : (form : Form) (m : Matched) (id : ℕ) (ty : TyId) (by : Option Use) →
        Holds (patterns.pattern_row items m ty by form) → (place : Place) →
        Spread ((shape_of items form (head id ty by)).bindings place)
    form_spread (tree.Binding name) m id ty by h place = (tt, tt)
    form_spread (tree.StructPattern fields) m id ty by h place =
        fields_spread fields _ ty 0 ToPart part_differs h.1.1.1 h.1.1.0 place
    form_spread (tree.VariantPattern variant is_test fields) m id ty by h place =
        fields_spread fields _ ty variant (ToField variant) (field_differs variant) h.1.1.1 h.1.1.0 place
    form_spread (tree.TuplePattern parts) m id ty by h place =
        let t = some_holds (patterns.tuple_types items ty) (λ tys. patterns.part_patterns items m tys parts) h.1 in
        parts_spread parts m t.0 0 t.1.1 place
    form_spread (tree.ArrayPattern elements) m id ty by h place =
        let t = some_holds (types.array_of items ty)
        (λ a. patterns.part_patterns items m (replicate a.1 a.0) elements) h.1 in
        parts_spread elements m (replicate t.0.1 t.0.0) 0 t.1.1 place
    form_spread form m id ty by h place = tt

    fields_spread : (fs : Fields) (m : Matched) (ty : TyId) (variant : ℕ) (step : ℕ → Step) → Differs step →
        Holds (patterns.field_patterns items m ty variant fs) → are_distinct_numbers (field_numbers fs) ≡ true →
        (place : Place) → Spread ((shapes.in_fields items fs step).bindings place)
    fields_spread no_field m ty variant step d h e place = tt
    fields_spread (a_field number value rest) m ty variant step d h e place =
        let t = some_holds (field_ty items ty variant number) (λ want. patterns.pattern items m want value) h.0 in
        both_spread (Listed (field_numbers rest)) place step d number
        (not_listed number (field_numbers rest) (facts_of.is_false (is_number_among number (field_numbers rest))
        (facts_of.left_of (not (is_number_among number (field_numbers rest))) _ e)))
        ((shape items value).bindings (extended (step number) place))
        ((shapes.in_fields items rest step).bindings place)
        (one_any place step number ((shape items value).bindings (extended (step number) place))
        (names_under value (extended (step number) place))) (fields_under rest step place)
        (names_spread value m t.0 t.1.1 (extended (step number) place))
        (fields_spread rest m ty variant step d h.1
        (facts_of.right_of (not (is_number_among number (field_numbers rest))) _ e) place)

    parts_spread : (ns : Nodes) (m : Matched) (tys : List TyId) (n : ℕ) →
        Holds (patterns.part_patterns items m tys ns) → (place : Place) →
        Spread ((shapes.in_parts items ns n).bindings place)
    parts_spread no_node m tys n h place = tt
    parts_spread (a_node one rest) m [] n h place = absurd (false≢true h)
    parts_spread (a_node one rest) m (t ∷ tys) n h place =
        both_spread (λ k. suc n ≤ k) place ToPart part_differs n (λ k l. past_number n k l)
        ((shape items one).bindings (extended (ToPart n) place)) ((shapes.in_parts items rest (suc n)).bindings place)
        (one_any place ToPart n ((shape items one).bindings (extended (ToPart n) place))
        (names_under one (extended (ToPart n) place))) (parts_under rest (suc n) place)
        (names_spread one m t h.0 (extended (ToPart n) place)) (parts_spread rest m tys (suc n) h.1 place)
