-- The types that a well typed node's lines rest on: which type a value has, and that no other is `!`.
use Rattle.std.proofs.Common.{◌≡◌, inl, inr, ℕ, ◌==◌, ◌&&◌, not, Bool, true, false, List, [], ◌∷◌, Option, Some, None, if◌then◌else◌, refl, sym, ap, subst, ◌∙◌}
use Rattle.std.proofs.lemmas.Bool.{eqb-true}
use Rattle.std.specs.Prelude.{option_and_then, is_some, is_none}
use Rattle.cfg_graph.specs.declared.graph.Body.{Body}
use Rattle.std.specs.Option.{option_map_or}
use Rattle.mir_base.specs.declared.int_kind.IntKind.{IntKind}
use Rattle.mir_ty.specs.declared.ty.Ty.{Ty}
use Rattle.mir_ty.specs.declared.ty.TyId.{TyId}
use Rattle.mir_ty.specs.ItemTable.{type_at}
use Rattle.store_model.specs.Concrete.Effects.{impl_of}
use Rattle.store_model.specs.Places.TypeForms as forms
use Rattle.typed_tree.specs.Tree as tree
use Rattle.typed_tree.specs.Tree.{Node, Form}
use Rattle.src_meaning.specs.Scopes.{Entry}
use Rattle.src_meaning.specs.Shape.{NodeHead, Shape, shape_of}
use Rattle.well_typed.specs.Claim.{Holds, fact, ◌&◌}
use Rattle.well_typed.specs.Nodes as typing
use Rattle.well_typed.specs.Places as scopes
use Rattle.well_typed.specs.Places.{Context, Wanted, Passed, ty_of}
use Rattle.well_typed.specs.Types as types
use Rattle.lower_rules.specs.Build.{LoweringFrame, Lowers}
use Rattle.lower_rules.specs.Lower as lower
use Rattle.lower_rules.specs.Lower.{NodeLower}
use Rattle.lower_rules.proofs.KnownTypes.{bool_known, unit_known, int_known, adt_known, boxed_known, dyn_known, closure_known, same_never}
use Rattle.lower_laws.proofs.Base as base
use Rattle.lower_laws.proofs.Base.{Ground, untrue, and_first, and_second, either, same_id}
use Rattle.lower_laws.proofs.Rules as rules

module _ (g : Ground) where
  abbrev F : LoweringFrame
  F = base.F g

  abbrev B : Body
  B = base.B g

  abbrev K : Context → Context
  K x = record x { items = g.items }

  abbrev L : Node → NodeLower
  L n = lower.lower F n

  abbrev S_of : Form → NodeHead → Shape
  S_of form h = shape_of g.items form h

  abbrev Cells : List Entry → Type 0
  Cells = base.CellsOk g

  abbrev Good : Context → Node → NodeLower → Type 0
  Good = rules.Good g

  abbrev Fits : TyId → TyId → Type 0
  Fits = rules.Fits g

  abbrev Sound : Lowers → Type 0
  Sound = base.Sound g

  -- a type that is another one is not `!`
  pub made_as : (id : TyId) (ty : Ty) → type_at g.items id ≡ Some ty → forms.is_never (Some ty) ≡ false → base.Never g id → ⊥
  made_as id ty e d v = untrue (sym d ∙ ap forms.is_never (sym e) ∙ v)

  pub of_type : (id : TyId) (ty : Ty) → type_at g.items id ≡ Some ty → forms.is_never (Some ty) ≡ false → base.Made g id
  of_type id ty e d = ap forms.is_never e ∙ d

  -- how a node stands, and the type of its value
  pub wanted_fits : (x : Context) (want : TyId) (n : Node) → Holds (typing.typed (K x) (Wanted want) n) → Fits want (ty_of n)
  wanted_fits x want (tree.node id at ty by form) h = base.fits g want ty h.0.1

  pub passed_fits : (x : Context) (want : TyId) (n : Node) → Holds (typing.typed (K x) (Passed want) n) → Fits want (ty_of n)
  passed_fits x want (tree.node id at ty by form) h = standing (types.is_reference g.items want && not (types.is_never g.items ty)) h.0
    where
      standing : (b : Bool) → Holds (if b then fact (scopes.is_borrow form && is_none by && types.is_same ty want) else (scopes.is_taken (K x) ty by form & fact (types.fits g.items want ty))) → Fits want ty
      standing true k = inl (same_id ty want (and_second _ _ k))
      standing false k = base.fits g want ty k.1

  pub fits_itself : (id : TyId) → Fits id id
  fits_itself id = inl refl

  pub is_bool_or : (id : TyId) → typing.fits_bool g.items id ≡ true → rules.IsBool g id
  is_bool_or id e = elim (either (types.is_bool g.items id) (types.is_never g.items id) e) [ inl is ↦ inl is | inr v ↦ inr (sym (same_never g.items id) ∙ v) ]

  -- two numbers of one type
  one_bool : (a b : TyId) → types.is_bool g.items a ≡ true → types.is_bool g.items b ≡ true → a ≡ b
  one_bool a b e d = g.unique a b Ty.Bool (bool_known g.items a e) (bool_known g.items b d)

  one_unit : (a b : TyId) → types.is_unit g.items a ≡ true → types.is_unit g.items b ≡ true → a ≡ b
  one_unit a b e d = g.unique a b Ty.Unit (unit_known g.items a e) (unit_known g.items b d)

  pub bool_fits : (want ty : TyId) → types.is_bool g.items want ≡ true → typing.fits_bool g.items ty ≡ true → Fits want ty
  bool_fits want ty e d = elim (is_bool_or ty d) [ inl is ↦ inl (one_bool ty want is e) | inr v ↦ inr v ]

  pub unit_fits : (want ty : TyId) → types.is_unit g.items want ≡ true → typing.fits_unit g.items ty ≡ true → Fits want ty
  unit_fits want ty e d = elim (either (types.is_unit g.items ty) (types.is_never g.items ty) d) [ inl is ↦ inl (one_unit ty want is e) | inr v ↦ inr (sym (same_never g.items ty) ∙ v) ]

  pub unit_made : (id : TyId) → types.is_unit g.items id ≡ true → base.Made g id
  unit_made id e = of_type id Ty.Unit (unit_known g.items id e) refl

  pub bool_made : (id : TyId) → types.is_bool g.items id ≡ true → base.Made g id
  bool_made id e = of_type id Ty.Bool (bool_known g.items id e) refl

  pub int_at : (id : TyId) → types.is_int g.items id ≡ true → (kind : IntKind) × (type_at g.items id ≡ Some (Ty.Int kind))
  int_at id e = by (types.kind_of g.items id) refl e
    where
      by : (o : Option IntKind) → types.kind_of g.items id ≡ o → is_some o ≡ true → (kind : IntKind) × (type_at g.items id ≡ Some (Ty.Int kind))
      by None d h = absurd (untrue h)
      by (Some kind) d h = (kind, int_known g.items id kind d)

  pub never_too : (id : TyId) → types.is_never g.items id ≡ true → base.Never g id
  never_too id e = sym (same_never g.items id) ∙ e

  pub made_not : (id : TyId) → base.Made g id → types.is_never g.items id ≡ true → ⊥
  made_not id m e = base.never_and_made g id (never_too id e) m

  -- operands that are compared are both of one integer type, or both of type `bool`
  pub compared_types : (a b : TyId) → base.Made g a → base.Made g b → typing.are_operands g.items (typing.int_or_bool g.items) a b ≡ true → (t : Ty) × (type_at g.items a ≡ Some t) × (type_at g.items b ≡ Some t) × (forms.are_compared (Some t) (Some t) ≡ true)
  compared_types a b m l e = elim (either (typing.int_or_bool g.items a && types.fits g.items a b) (typing.int_or_bool g.items b && types.fits g.items b a) e) [
    | inl h ↦ let s = same a b l (and_second _ _ h) in let t = one a (and_first _ _ h) in (t.0, t.1, subst (λ (z : TyId). type_at g.items z ≡ Some t.0) (sym s) t.1, t.2)
    | inr h ↦ let s = same b a m (and_second _ _ h) in let t = one b (and_first _ _ h) in (t.0, subst (λ (z : TyId). type_at g.items z ≡ Some t.0) (sym s) t.1, t.1, t.2)
  ]
    where
      same : (want ty : TyId) → base.Made g ty → types.fits g.items want ty ≡ true → ty ≡ want
      same want ty made fit = elim (base.fits g want ty fit) [ inl is ↦ is | inr v ↦ absurd (base.never_and_made g ty v made) ]

      kinds : (kind : IntKind) → forms.are_compared (Some (Ty.Int kind)) (Some (Ty.Int kind)) ≡ true
      kinds IntKind.I32 = refl
      kinds IntKind.I64 = refl
      kinds IntKind.U32 = refl
      kinds IntKind.U64 = refl
      kinds IntKind.Usize = refl

      one : (id : TyId) → typing.int_or_bool g.items id ≡ true → (t : Ty) × (type_at g.items id ≡ Some t) × (forms.are_compared (Some t) (Some t) ≡ true)
      one id h = elim (either (types.is_int g.items id) (types.is_bool g.items id) h) [
        | inl int ↦ let k = int_at id int in (Ty.Int k.0, k.1, kinds k.0)
        | inr bool ↦ (Ty.Bool, bool_known g.items id bool, refl)
      ]

  pub sized : (key : ℕ) (id : TyId) (t : Ty) → base.KeyIs g key id → type_at g.items id ≡ Some t → forms.is_dyn (Some t) ≡ false
  sized key id t k e = base.key_sized g key id t k e

  -- a box of a struct or an enum that has an impl
  pub boxes : (to from : TyId) (trait_no : ℕ) → typing.box_implements g.items to from trait_no ≡ true →
      (object inner : TyId) × (adt impl_no : ℕ) × (type_at g.items to ≡ Some (Ty.Boxed object)) × (type_at g.items from ≡ Some (Ty.Boxed inner)) × (type_at g.items object ≡ Some (Ty.Dyn trait_no)) × (type_at g.items inner ≡ Some (Ty.Adt adt)) × (impl_of g.items trait_no adt ≡ Some impl_no)
  boxes to from trait_no e =
      let t = boxed_trait (types.boxed_of g.items to) refl (and_first _ _ e) in
      let s = boxed_adt (types.boxed_of g.items from) refl (and_second _ _ e) in
      (t.0, s.0, s.1, s.2, boxed_known g.items to t.0 t.1, boxed_known g.items from s.0 s.3, t.2, s.4, s.5)
    where
      boxed_trait : (o : Option TyId) → types.boxed_of g.items to ≡ o → option_map_or (λ n. n == trait_no) (option_and_then (types.trait_of g.items) o) false ≡ true → (object : TyId) × (types.boxed_of g.items to ≡ Some object) × (type_at g.items object ≡ Some (Ty.Dyn trait_no))
      boxed_trait None d h = absurd (untrue h)
      boxed_trait (Some object) d h = (object, d, of_trait (types.trait_of g.items object) refl h)
        where
          of_trait : (o : Option ℕ) → types.trait_of g.items object ≡ o → option_map_or (λ n. n == trait_no) o false ≡ true → type_at g.items object ≡ Some (Ty.Dyn trait_no)
          of_trait None q k = absurd (untrue k)
          of_trait (Some n) q k = subst (λ (z : ℕ). type_at g.items object ≡ Some (Ty.Dyn z)) (eqb-true n trait_no k) (dyn_known g.items object n q)

      boxed_adt : (o : Option TyId) → types.boxed_of g.items from ≡ o → option_map_or (λ adt. types.implements g.items adt trait_no) (option_and_then (types.adt_of g.items) o) false ≡ true →
          (inner : TyId) × (adt impl_no : ℕ) × (types.boxed_of g.items from ≡ Some inner) × (type_at g.items inner ≡ Some (Ty.Adt adt)) × (impl_of g.items trait_no adt ≡ Some impl_no)
      boxed_adt None d h = absurd (untrue h)
      boxed_adt (Some inner) d h = of_adt (types.adt_of g.items inner) refl h
        where
          of_adt : (o : Option ℕ) → types.adt_of g.items inner ≡ o → option_map_or (λ adt. types.implements g.items adt trait_no) o false ≡ true →
              (inner : TyId) × (adt impl_no : ℕ) × (types.boxed_of g.items from ≡ Some inner) × (type_at g.items inner ≡ Some (Ty.Adt adt)) × (impl_of g.items trait_no adt ≡ Some impl_no)
          of_adt None q k = absurd (untrue k)
          of_adt (Some adt) q k = let row = g.rows trait_no adt k in (inner, adt, row.0, d, adt_known g.items inner adt q, row.1)

  pub common_two : (ty a b : TyId) → types.is_common g.items ty (a ∷ b ∷ []) ≡ true → Fits ty a × Fits ty b
  common_two ty a b e =
      let all = and_first (types.fits g.items ty a && (types.fits g.items ty b && true)) _ e in
      (base.fits g ty a (and_first (types.fits g.items ty a) _ all), base.fits g ty b (and_first (types.fits g.items ty b) true (and_second (types.fits g.items ty a) _ all)))

  pub never_head : (x : Context) (n : Node) → Good x n (L n) → (ty : TyId) → Fits ty (ty_of n) → base.Never g ty → base.Never g (L n).head.ty
  never_head x n k ty fit v = subst (base.Never g) (sym k.ty_is) (elim fit [ inl same ↦ subst (base.Never g) (sym same) v | inr never ↦ never ])

  pub made_wanted : (x : Context) (n : Node) → Good x n (L n) → (want : TyId) → Fits want (ty_of n) → base.Made g (L n).head.ty → base.Made g want
  made_wanted x n k want fit m = elim fit [
    | inl same ↦ subst (base.Made g) (k.ty_is ∙ same) m
    | inr never ↦ absurd (base.never_and_made g (L n).head.ty (subst (base.Never g) (sym k.ty_is) never) m)
  ]

  -- ---- structs and enums
  pub adt_is : (ty : TyId) (adt : ℕ) → option_map_or (λ n. n == adt) (types.adt_of g.items ty) false ≡ true → type_at g.items ty ≡ Some (Ty.Adt adt)
  adt_is ty adt h = of_adt (types.adt_of g.items ty) refl h
    where
      of_adt : (o : Option ℕ) → types.adt_of g.items ty ≡ o → option_map_or (λ n. n == adt) o false ≡ true → type_at g.items ty ≡ Some (Ty.Adt adt)
      of_adt None e h = absurd (untrue h)
      of_adt (Some n) e h = subst (λ (z : ℕ). type_at g.items ty ≡ Some (Ty.Adt z)) (eqb-true n adt h) (adt_known g.items ty n e)

  pub closure_is : (ty : TyId) (closure : ℕ) → option_map_or (λ n. n == closure) (types.closure_of g.items ty) false ≡ true → type_at g.items ty ≡ Some (Ty.Closure closure)
  closure_is ty closure h = of_closure (types.closure_of g.items ty) refl h
    where
      of_closure : (o : Option ℕ) → types.closure_of g.items ty ≡ o → option_map_or (λ n. n == closure) o false ≡ true → type_at g.items ty ≡ Some (Ty.Closure closure)
      of_closure None e h = absurd (untrue h)
      of_closure (Some n) e h = subst (λ (z : ℕ). type_at g.items ty ≡ Some (Ty.Closure z)) (eqb-true n closure h) (closure_known g.items ty n e)
