-- What is Copy needs no dropping, in a well typed program: no type derives Copy beside a `Drop` impl, or where a field
-- is not Copy.
use Rattle.std.proofs.Common.{◌≡◌, ℕ, zero, suc, ◌&&◌, ◌||◌, not, Bool, true, false, List, [], ◌∷◌, length, Option, Some, None, is_some, nat_lt, if◌then◌else◌, refl, ap, sym, ◌∙◌, subst}
use Rattle.std.specs.Prelude.{slice_get}
use Rattle.std.specs.List.{list_any, list_all}
use Rattle.std.specs.Option.{option_map_or}
use Rattle.std.proofs.lemmas.Bool.{false≢true}
use Rattle.mir_ty.specs.declared.adt.Adt.{Adt}
use Rattle.mir_ty.specs.declared.adt.Variant.{Variant}
use Rattle.mir_ty.specs.declared.def.ClosureDef.{ClosureDef}
use Rattle.mir_ty.specs.declared.ty.Ty.{Ty}
use Rattle.mir_ty.specs.declared.ty.TyId.{TyId}
use Rattle.mir_ty.specs.Facts.{is_copy, needs_drop, copy_rule, drop_rule, adt_drop_rule, in_rounds}
use Rattle.mir_ty.specs.ItemTable.{ItemTable, type_at}
use Rattle.typed_tree.specs.declared.node.Use.{Use}
use Rattle.src_meaning.specs.Shape.{moves}
use Rattle.well_typed.specs.Places.{is_by, taking}
use Rattle.soundness_cells.proofs.PassCellTypes.{left_of, right_of, is_false}

-- what derives Copy has no `Drop` impl, and its fields are Copy
abbrev pub MayBeCopy : ItemTable → Adt → Type 0
MayBeCopy items adt = (not adt.copy || (not (is_some adt.drop_body)
    && list_all (λ (v : Variant). list_all (is_copy items) v.fields) adt.variants)) ≡ true

none_of : (a b : TyId → Bool) → ((id : TyId) → a id ≡ true → b id ≡ false) → (list : List TyId) →
    list_all a list ≡ true → list_any b list ≡ false
none_of a b f [] h = refl
none_of a b f (id ∷ list) h = ap (λ x. x || list_any b list) (f id (left_of (a id) (list_all a list) h))
    ∙ none_of a b f list (right_of (a id) (list_all a list) h)

none_in : (a b : TyId → Bool) → ((id : TyId) → a id ≡ true → b id ≡ false) → (list : List Variant) →
    list_all (λ (v : Variant). list_all a v.fields) list ≡ true →
    list_any (λ (v : Variant). list_any b v.fields) list ≡ false
none_in a b f [] h = refl
none_in a b f (v ∷ list) h =
    ap (λ x. x || list_any (λ (v : Variant). list_any b v.fields) list)
    (none_of a b f v.fields (left_of (list_all a v.fields) _ h))
    ∙ none_in a b f list (right_of (list_all a v.fields) _ h)

module _ (items : ItemTable)
    (adts : (n : ℕ) (adt : Adt) → slice_get items.adts n ≡ Some adt → MayBeCopy items adt) where
  abbrev copying : ℕ → TyId → Bool
  copying = in_rounds items.types (copy_rule items.adts items.closures)

  abbrev dropping : ℕ → TyId → Bool
  dropping = in_rounds items.types (drop_rule items.adts items.closures)

  second_false : (a b : Bool) → b ≡ false → (a && b) ≡ false
  second_false true b e = e
  second_false false b e = refl

  adt_so : (k : ℕ) (adt : Adt) → ((id : TyId) → is_copy items id ≡ true → dropping k id ≡ false) → adt.copy ≡ true →
      MayBeCopy items adt → adt_drop_rule (dropping k) adt ≡ false
  adt_so k adt f c m = by adt.copy (is_some adt.drop_body) c m
    where
      by : (copy impl : Bool) → copy ≡ true →
          (not copy || (not impl && list_all (λ (v : Variant). list_all (is_copy items) v.fields) adt.variants)) ≡ true →
          (impl || list_any (λ variant. list_any (dropping k) variant.fields) adt.variants) ≡ false
      by false impl e h = absurd (false≢true e)
      by true true e h = absurd (false≢true h)
      by true false e h = none_in (is_copy items) (dropping k) f adt.variants h

  -- by the rules, in however many rounds
  rule_so : (j k : ℕ) → ((i : ℕ) (id : TyId) → copying i id ≡ true → dropping k id ≡ false) → (ty : Ty) →
      copy_rule items.adts items.closures (copying j) ty ≡ true →
      drop_rule items.adts items.closures (dropping k) ty ≡ false
  rule_so j k f (Ty.Adt n) h = by (slice_get items.adts n) refl h
    where
      by : (o : Option Adt) → slice_get items.adts n ≡ o → option_map_or (λ adt. adt.copy) o false ≡ true →
          option_map_or (adt_drop_rule (dropping k)) o false ≡ false
      by None e h = refl
      by (Some adt) e h = adt_so k adt (λ id c. f (length items.types) id c) h (adts n adt e)
  rule_so j k f (Ty.Tuple parts) h = none_of (copying j) (dropping k) (f j) parts h
  rule_so j k f (Ty.Array element count) h = second_false (nat_lt 0 count) (dropping k element) (f j element h)
  rule_so j k f (Ty.Closure n) h = by (slice_get items.closures n) h
    where
      by : (o : Option ClosureDef) → option_map_or (λ def. list_all (copying j) def.captures) o false ≡ true →
          option_map_or (λ def. list_any (dropping k) def.captures) o false ≡ false
      by None h = refl
      by (Some def) h = none_of (copying j) (dropping k) (f j) def.captures h
  rule_so j k f (Ty.Boxed inside) h = absurd (false≢true h)
  rule_so j k f (Ty.Dyn n) h = absurd (false≢true h)
  rule_so j k f ty h = refl

  rounds_so : (k j : ℕ) (id : TyId) → copying j id ≡ true → dropping k id ≡ false
  rounds_so zero j id h = refl
  rounds_so (suc k) zero id h = absurd (false≢true h)
  rounds_so (suc k) (suc j) id h = by (type_at items id) h (λ i id c. rounds_so k i id c)
    where
      by : (o : Option Ty) → option_map_or (copy_rule items.adts items.closures (copying j)) o false ≡ true →
          ((i : ℕ) (id : TyId) → copying i id ≡ true → dropping k id ≡ false) →
          option_map_or (drop_rule items.adts items.closures (dropping k)) o false ≡ false
      by None h f = refl
      by (Some ty) h f = rule_so j k f ty h

  pub copy_undropped : (id : TyId) → is_copy items id ≡ true → needs_drop items id ≡ false
  copy_undropped id h = rounds_so (length items.types) (length items.types) id h

-- a place that is used and not moved is copied
pub copied_use : (items : ItemTable) (ty : TyId) (by : Option Use) → is_by (taking items ty) by ≡ true →
    moves by ≡ false → is_copy items ty ≡ true
copied_use items ty by h m = of (is_copy items ty) by h m
  where
    of : (c : Bool) (by : Option Use) → is_by (if c then Use.Copy else Use.Move) by ≡ true → moves by ≡ false → c ≡ true
    of true by h m = refl
    of false (Some Use.Move) h m = absurd (false≢true (sym m))
    of false None h m = absurd (false≢true h)
    of false (Some other) h m = absurd (false≢true h)
