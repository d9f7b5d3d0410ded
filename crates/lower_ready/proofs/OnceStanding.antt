-- How nodes stand and of which types they are, beside a local of a reference type; counts of cells.
use Rattle.std.proofs.Common.{◌≡◌, ◌⊎◌, inl, inr, ℕ, ℤ, ◌+◌, ◌≤◌, ◌&&◌, not, Bool, true, false, List, [], ◌++◌, Option, Some, None, if◌then◌else◌, refl, sym, subst, ◌∙◌, arith}
use Rattle.std.specs.Prelude.{is_none, is_some}
use Rattle.std.specs.Option.{option_map_or}
use Rattle.mir_base.specs.declared.int_kind.IntKind.{IntKind}
use Rattle.mir_ty.specs.declared.ty.Ty.{Ty}
use Rattle.mir_ty.specs.declared.ty.TyId.{TyId}
use Rattle.mir_ty.specs.ItemTable.{type_at}
use Rattle.typed_tree.specs.declared.node.Use.{Use}
use Rattle.typed_tree.specs.Tree as tree
use Rattle.typed_tree.specs.Tree.{Node, Form}
use Rattle.src_meaning.specs.Forms.{Destination, LoopsAndGuards}
use Rattle.src_meaning.specs.Locals.OfBody.{cells, bool_ty, is_place_form}
use Rattle.src_meaning.specs.Scopes.{Entry}
use Rattle.src_meaning.specs.Shape.{NodeHead, Shape, shape, shape_of}
use Rattle.well_typed.specs.Claim.{Holds, fact, ◌&◌}
use Rattle.well_typed.specs.Nodes as typing
use Rattle.well_typed.specs.Patterns as patterns
use Rattle.well_typed.specs.Patterns.{Matched}
use Rattle.well_typed.specs.Places as scopes
use Rattle.well_typed.specs.Places.{InScope, LoopAround, Context, Taken, Wanted, Base, Used, Stored, ty_of, form_of}
use Rattle.well_typed.specs.Types as types
use Rattle.lower_rules.specs.Build.{LoweringFrame, Lowers, then_lower}
use Rattle.lower_rules.specs.Lower as lower
use Rattle.lower_rules.specs.Lower.{NodeLower}
use Rattle.lower_rules.proofs.KnownTypes.{bool_known, unit_known, int_known, same_never}
use Rattle.lower_laws.proofs.Base as base
use Rattle.lower_laws.proofs.Base.{Ground, untrue, and_first, and_second, either, same_id}
use Rattle.lower_laws.proofs.Rules as rules
use Rattle.lower_ready.proofs.Once as once
use Rattle.lower_ready.proofs.Once.{About}
use Rattle.lower_ready.proofs.OnceActs as on
use Rattle.lower_ready.proofs.OnceNodes as nodes
use Rattle.lower_ready.proofs.OncePatterns as pattern_rules
use Rattle.lower_ready.proofs.OnceRules as by_rule

module _ (g : Ground) (L K : ℕ) (about : About g L K) (Q : Type 0) where
  abbrev F : LoweringFrame
  F = base.F g

  abbrev X : Context → Context
  X x = record x { items = g.items }

  abbrev N : Node → NodeLower
  N n = lower.lower F n

  abbrev S_of : Form → NodeHead → Shape
  S_of form h = shape_of g.items form h

  abbrev Free : Type 0
  Free = Unit {0}

  abbrev Once : Type 0 → List LoopAround → Lowers → ℕ → Type 0
  Once H loops P m = once.Once g L K about Q H loops P m

  abbrev Cells : List Entry → Type 0
  Cells = base.CellsOk g

  abbrev NotRef : TyId → Type 0
  NotRef ty = by_rule.NotRef g L K about Q ty

  abbrev IsRef : TyId → Type 0
  IsRef ty = by_rule.IsRef g L K about Q ty

  abbrev Dest : Destination → TyId → Type 0
  Dest to ty = by_rule.Dest g L K about Q to ty

  abbrev Around : Context → LoopsAndGuards → Type 0
  Around x a = by_rule.Around g L K about Q x a

  abbrev Good : Context → Node → NodeLower → Type 0
  Good = rules.Good g

  abbrev Known : Context → Node → NodeLower → Type 0
  Known x n m = by_rule.Known g L K about Q x n m

  abbrev Child : Context → Node → NodeLower → Type 0
  Child x n m = by_rule.Child g L K about Q x n m

  abbrev Valued : Node → Type 0
  Valued n = by_rule.Valued g L K about Q n

  abbrev Others : List InScope → Type 0
  Others es = by_rule.Others g L K about Q es

  abbrev occ : List Entry → ℕ
  occ es = by_rule.occ g L K about Q es

  abbrev OperandIs : Type 0 → Context → NodeLower → ℕ → Type 0
  OperandIs T x m o = by_rule.OperandIs g L K about Q T x m o

  abbrev OperandsAre : Type 0 → Context → List NodeLower → ℕ → Type 0
  OperandsAre T x ms o = by_rule.OperandsAre g L K about Q T x ms o

  abbrev more : (loops : List LoopAround) (P : Lowers) (m n : ℕ) → m ≤ n → Once Free loops P m → Once Free loops P n
  more loops P m n le p = once.more g L K about Q Free loops P m n le p

  abbrev and_then : (loops : List LoopAround) (P Q' : Lowers) (o r : ℕ) → Once Free loops P o → (P.has_end ≡ true → Once Free loops Q' r) → Once Free loops (then_lower P Q') (o + r)
  and_then loops P Q' o r p q = once.and_then g L K about Q Free loops P Q' o r p q

  not_true : (b : Bool) → not b ≡ true → b ≡ false
  not_true true h = absurd (untrue h)
  not_true false h = refl

  -- ---- counts of cells
  pub two_under : (xs ys : List Entry) → occ xs + occ ys ≤ occ (xs ++ ys)
  two_under xs ys = let e = by_rule.occ_append g L K about Q xs ys in let r : occ xs + occ ys ≤ occ (xs ++ ys) = omega (e, arith) in r

  pub three_under : (xs ys zs : List Entry) → occ xs + (occ ys + occ zs) ≤ occ (xs ++ ys ++ zs)
  three_under xs ys zs =
      let e = by_rule.occ_append g L K about Q (xs ++ ys) zs in
      let d = by_rule.occ_append g L K about Q xs ys in
      let r : occ xs + (occ ys + occ zs) ≤ occ (xs ++ ys ++ zs) = omega (e, d, arith) in r

  pub last_under : (xs ys zs : List Entry) → occ ys + (occ zs + 0) ≤ occ (xs ++ ys ++ zs)
  last_under xs ys zs =
      let e = by_rule.occ_append g L K about Q (xs ++ ys) zs in
      let d = by_rule.occ_append g L K about Q xs ys in
      let r : occ ys + (occ zs + 0) ≤ occ (xs ++ ys ++ zs) = omega (e, d, arith) in r

  pub last_two_under : (xs ys zs ws : List Entry) → occ ys + (occ zs + occ ws) ≤ occ (xs ++ ys ++ zs ++ ws)
  last_two_under xs ys zs ws =
      let c = by_rule.occ_append g L K about Q (xs ++ ys ++ zs) ws in
      let e = by_rule.occ_append g L K about Q (xs ++ ys) zs in
      let d = by_rule.occ_append g L K about Q xs ys in
      let r : occ ys + (occ zs + occ ws) ≤ occ (xs ++ ys ++ zs ++ ws) = omega (c, e, d, arith) in r

  pub index_under : (xs ys : List Entry) → occ xs + (occ ys + (0 + 0)) ≤ occ (xs ++ ys)
  index_under xs ys = let e = by_rule.occ_append g L K about Q xs ys in let r : occ xs + (occ ys + (0 + 0)) ≤ occ (xs ++ ys) = omega (e, arith) in r

  pub assign_under : (xs ys : List Entry) → occ ys + (occ xs + (0 + 0)) ≤ occ (xs ++ ys)
  assign_under xs ys = let e = by_rule.occ_append g L K about Q xs ys in let r : occ ys + (occ xs + (0 + 0)) ≤ occ (xs ++ ys) = omega (e, arith) in r

  pub and_under : (xs ys : List Entry) → occ xs + (occ ys + 0) ≤ occ (xs ++ ys)
  and_under xs ys = let e = by_rule.occ_append g L K about Q xs ys in let r : occ xs + (occ ys + 0) ≤ occ (xs ++ ys) = omega (e, arith) in r

  pub or_under : (xs ys : List Entry) → occ xs + (0 + occ ys) ≤ occ (xs ++ ys)
  or_under xs ys = let e = by_rule.occ_append g L K about Q xs ys in let r : occ xs + (0 + occ ys) ≤ occ (xs ++ ys) = omega (e, arith) in r

  -- ---- types
  pub no_ref : (ty : TyId) (t : Ty) → type_at g.items ty ≡ Some t → is_some (types.reference_in t) ≡ false → NotRef ty
  no_ref ty t e d = by_rule.known_ref g L K about Q ty t e ∙ d

  pub bool_no : (ty : TyId) → types.is_bool g.items ty ≡ true → NotRef ty
  bool_no ty e = no_ref ty Ty.Bool (bool_known g.items ty e) refl

  pub bool_made : (ty : TyId) → types.is_bool g.items ty ≡ true → base.Made g ty
  bool_made ty e = nodes.made_of g L K about Q ty Ty.Bool (bool_known g.items ty e) refl

  pub unit_no : (ty : TyId) → types.is_unit g.items ty ≡ true → NotRef ty
  unit_no ty e = no_ref ty Ty.Unit (unit_known g.items ty e) refl

  pub unit_made : (ty : TyId) → types.is_unit g.items ty ≡ true → base.Made g ty
  unit_made ty e = nodes.made_of g L K about Q ty Ty.Unit (unit_known g.items ty e) refl

  pub never_no : (ty : TyId) → types.is_never g.items ty ≡ true → NotRef ty
  never_no ty e = by_rule.never_no_ref g L K about Q ty (sym (same_never g.items ty) ∙ e)

  pub int_at : (ty : TyId) → types.is_int g.items ty ≡ true → (kind : IntKind) × (type_at g.items ty ≡ Some (Ty.Int kind))
  int_at ty e = of (types.kind_of g.items ty) refl e
    where
      of : (o : Option IntKind) → types.kind_of g.items ty ≡ o → is_some o ≡ true → (kind : IntKind) × (type_at g.items ty ≡ Some (Ty.Int kind))
      of None d h = absurd (untrue h)
      of (Some kind) d h = (kind, int_known g.items ty kind d)

  pub number_at : (ty : TyId) (value : ℤ) → types.is_number_of g.items ty value ≡ true → (kind : IntKind) × (type_at g.items ty ≡ Some (Ty.Int kind))
  number_at ty value e = of (types.kind_of g.items ty) refl e
    where
      of : (o : Option IntKind) → types.kind_of g.items ty ≡ o → option_map_or (types.is_within value) o false ≡ true → (kind : IntKind) × (type_at g.items ty ≡ Some (Ty.Int kind))
      of None d h = absurd (untrue h)
      of (Some kind) d h = (kind, int_known g.items ty kind d)

  -- a type of a branch is that of all, or `!`; so where that of all is a reference, the branch is one or has no end
  pub fits_ref : (want ty : TyId) → types.fits g.items want ty ≡ true → IsRef want → IsRef ty ⊎ base.Never g ty
  fits_ref want ty e r = elim (either (types.is_same ty want) (types.is_never g.items ty) e) [ inl same ↦ inl (subst IsRef (sym (same_id ty want same)) r) | inr never ↦ inr (sym (same_never g.items ty) ∙ never) ]

  -- ---- how a node stands
  pub place_no_borrow : (form : Form) → scopes.is_place form ≡ true → scopes.is_borrow form ≡ false
  place_no_borrow (tree.Borrow unique base) h = absurd (untrue h)
  place_no_borrow _ h = refl

  pub taken_facts : (c : Context) (ty : TyId) (by : Option Use) (form : Form) → Holds (scopes.is_taken (X c) ty by form) → (scopes.is_borrow form ≡ false) × (is_place_form form ≡ true → IsRef ty → ⊥)
  taken_facts c ty by form h = of _ _ (is_none by) (scopes.is_place form) refl h
    where
      of : (u v w : Bool) (b : Bool) → scopes.is_place form ≡ b → Holds (if b then (fact u & fact v & fact (not (types.is_reference g.items ty))) else fact (w && not (scopes.is_borrow form))) → (scopes.is_borrow form ≡ false) × (is_place_form form ≡ true → IsRef ty → ⊥)
      of u v w true e h = (place_no_borrow form e, λ p r. by_rule.not_both g L K about Q ty r (not_true (types.is_reference g.items ty) h.1.1))
      of u v w false e h = (not_true (scopes.is_borrow form) (and_second w _ h), λ p r. untrue (sym e ∙ p))

  pub record Stood (n : Node) : Type 0 where
    pub plain : scopes.is_borrow (form_of n) ≡ false
    pub valued : Valued n

  pub taken_stands : (x : Context) (n : Node) → Holds (typing.typed (X x) Taken n) → Stood n
  taken_stands x (tree.node id at ty by form) h = let it = taken_facts x ty by form h.0 in record { plain = it.0; valued = it.1 }

  pub wanted_stands : (x : Context) (want : TyId) (n : Node) → Holds (typing.typed (X x) (Wanted want) n) → Stood n
  wanted_stands x want (tree.node id at ty by form) h = let it = taken_facts x ty by form h.0.0 in record { plain = it.0; valued = it.1 }

  pub wanted_fits : (x : Context) (want : TyId) (n : Node) → Holds (typing.typed (X x) (Wanted want) n) → types.fits g.items want (ty_of n) ≡ true
  wanted_fits x want (tree.node id at ty by form) h = h.0.1

  pub base_plain : (x : Context) (n : Node) → Holds (typing.typed (X x) Base n) → scopes.is_borrow (form_of n) ≡ false
  base_plain x (tree.node id at ty by form) h = not_true (scopes.is_borrow form) (and_second (is_none by) _ h.0)

  pub used_facts : (want : Use) (ty : TyId) (by : Option Use) (form : Form) → (scopes.is_used (X (record { items = g.items; entries = []; closure = None; loops = []; answer = ty })) want by form && not (types.is_reference g.items ty)) ≡ true → (scopes.is_borrow form ≡ false) × NotRef ty
  used_facts want ty by form h = (of (is_none by) (scopes.is_place form) refl (and_first _ _ h), not_true (types.is_reference g.items ty) (and_second (if scopes.is_place form then scopes.is_by want by else is_none by && not (scopes.is_borrow form)) _ h))
    where
      of : (w : Bool) (b : Bool) → scopes.is_place form ≡ b → (if b then scopes.is_by want by else w && not (scopes.is_borrow form)) ≡ true → scopes.is_borrow form ≡ false
      of w true e h = place_no_borrow form e
      of w false e h = not_true (scopes.is_borrow form) (and_second w _ h)

  pub used_stands : (x : Context) (want : Use) (n : Node) → Holds (typing.typed (X x) (Used want) n) → (scopes.is_borrow (form_of n) ≡ false) × NotRef (ty_of n)
  used_stands x want (tree.node id at ty by form) h = used_facts want ty by form h.0

  pub stored_stands : (x : Context) (n : Node) → Holds (typing.typed (X x) Stored n) → (scopes.is_borrow (form_of n) ≡ false) × NotRef (ty_of n)
  stored_stands x (tree.node id at ty by form) h =
      (place_no_borrow form (and_first (scopes.is_place form) _ (and_first (scopes.is_place form && scopes.is_by Use.Store by) _ h.0.0)), not_true (types.is_reference g.items ty) (and_second (scopes.is_place form && scopes.is_by Use.Store by) _ h.0.0))

  pub shape_same : (n : Node) → (N n).shape ≡ shape g.items n
  shape_same (tree.node id at ty by (tree.Number value)) = refl
  shape_same (tree.node id at ty by other) = refl

  pub shaped : NotRef (bool_ty g.items) → (p : Node) (m : Matched) (want : TyId) → NotRef want → Holds (patterns.pattern g.items m want p) → Cells (cells g.items true p) → nodes.Shaped g L K about Q (N p)
  shaped nb p m want n h c place f =
      let it = pattern_rules.pattern_is g L K about Q nb p m want n h c in
      subst (λ (s : Shape). on.TestsWell g L K about Q (s.tests place) × by_rule.BoundsWell g L K about Q (s.bindings place)) (sym (shape_same p)) (it.tests place f, it.bounds place f)
