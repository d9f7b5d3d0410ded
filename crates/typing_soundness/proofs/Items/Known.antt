-- What the table of kinds and the names of items say of the items of a text: structs have a variant, what is written
-- without parts has none, and the first parameter of a function is no closure.
use Rattle.std.proofs.Common.{◌≡◌, ℕ, zero, suc, Bool, true, false, List, [], ◌∷◌, ◌++◌, length, slice_get, Option, Some, None, IsTrue, refl, ap, sym, subst, ◌∙◌, arith}
use Rattle.std.specs.Prelude.{option_and_then}
use Rattle.std.proofs.lemmas.Bool.{false≢true}
use Rattle.std.proofs.lemmas.Option.{same_Some, none-some}
use Rattle.mir_base.specs.declared.place_in_text.Pos.{Pos}
use Rattle.mir_ty.specs.declared.adt.Adt.{Adt}
use Rattle.mir_ty.specs.declared.adt.Variant.{Variant}
use Rattle.mir_ty.specs.declared.def.Sig.{Sig}
use Rattle.mir_ty.specs.declared.ty.Ty.{Ty}
use Rattle.mir_ty.specs.declared.ty.TyId.{TyId}
use Rattle.mir_ty.specs.ItemTable.{ItemTable, type_at}
use Rattle.src_tree.specs.Layout.{Parts}
use Rattle.well_typed.specs.Claim.{Holds, each}
use Rattle.well_typed.specs.Types.{variant_at, closure_in}
use Rattle.typing_rules.specs.Items.{ItemSyn, items_of, item_syns, all_kinds}
use Rattle.typing_rules.specs.Patterns.{is_unit_kind}
use Rattle.typing_rules.specs.Promises.{AreReady, KnowsItems, is_plain_name}
use Rattle.typing_rules.specs.Scope.{kind_at, or_unit}
use Rattle.typing_rules.specs.Written.{WrittenScope, number_of, scalar_named, length_shown, reference_to}
use Rattle.src_ast.specs.Syntax.{Word, FieldsKind, Unit_, Tuple_, Fields_, Receiver, ByValue, ByShared, ByUnique, Syn, syn, AType, AnItem, AParam, AVariant, WrittenType, NamedType, GenericType, DynType, SelfType, ParensType, TupleType, ArrayType, NeverType, RefType, StructItem, EnumItem, ParamOf, SelfParam, Syns, no_syn, a_syn, list_of}
use Rattle.typing_soundness.specs.Closures.{BodySyn, Function, Closure}
use Rattle.typing_soundness.specs.Met.{IsReceiver, MeansParam, MeanParams, AreMade, behind}
use Rattle.typing_soundness.specs.Types.{Means, MeansForm, NamesTy, IsTupleOf}
use Rattle.typing_soundness.proofs.Bodies.Types.{unit_plain, never_plain, scalar_plain}
use Rattle.typing_soundness.specs.Heads.{IsHeadOf, IsVariantOf, AreVariantsOf, AreAdtsOf}
use Rattle.typing_soundness.specs.Shapes.{has_kind, variant_shaped, item_shaped}
use Rattle.typing_soundness.proofs.Items.Collected.{AreHeads, all_adts, adts_in, names_counted}

-- ---- variants and their kinds

-- of a variant: as many names as fields, and none where it is written without parts
abbrev IsFit : FieldsKind → Variant → Type 0
IsFit kind v = (length v.field_names ≡ length v.fields) × (IsTrue (is_unit_kind kind) → v.fields ≡ [])

abbrev AreFit : List FieldsKind → List Variant → Type 0
AreFit [] [] = Unit {0}
AreFit (k ∷ ks) (v ∷ vs) = IsFit k v × AreFit ks vs
AreFit _ _ = ⊥

-- the kinds of the variants of an enum
abbrev first_of : List (List FieldsKind) → List FieldsKind
first_of [] = []
first_of (ks ∷ kss) = ks

abbrev somewhere : Pos
somewhere = record { line = 0; col = 0 }

abbrev variant_kinds : Syns → List FieldsKind
variant_kinds vs = first_of (all_kinds (syn somewhere (AnItem (EnumItem [] (somewhere, []) vs)) ∷ []))

no_length : (tys : List TyId) → length tys ≡ 0 → tys ≡ []
no_length [] e = refl
no_length (ty ∷ tys) e = absurd (omega (arith, e))

variant_fit : (kind : FieldsKind) (fields : Syns) (v : Variant) → IsTrue (has_kind kind fields) → IsVariantOf fields v → IsFit kind v
variant_fit kind fields v h is = (ap length is.1 ∙ names_counted 0 (list_of fields) ∙ sym is.0, λ unit_. by kind fields h unit_ is.0)
  where
    by : (kind : FieldsKind) (fields : Syns) → IsTrue (has_kind kind fields) → IsTrue (is_unit_kind kind) → length v.fields ≡ length
        (list_of fields) → v.fields ≡ []
    by Unit_ no_syn h u e = no_length v.fields e
    by Unit_ (a_syn first rest) h u e = absurd (false≢true h)
    by Tuple_ fields h u e = absurd (false≢true u)
    by Fields_ fields h u e = absurd (false≢true u)

variants_fit : (vs : Syns) (xs : List Variant) → Holds (each variant_shaped (list_of vs)) → AreVariantsOf vs xs → AreFit
    (variant_kinds vs) xs
variants_fit no_syn [] h are = tt
variants_fit no_syn (x ∷ xs) h are = absurd are
variants_fit (a_syn first rest) [] h are = absurd are
variants_fit (a_syn (syn at (AVariant name kind fields)) rest) (x ∷ xs) h are =
    (variant_fit kind fields x h.0 are.0.1, variants_fit rest xs h.1 are.1)
variants_fit (a_syn (syn at _) rest) (x ∷ xs) h are = absurd are

-- ---- structs and enums

pub record IsFitAdt (ks : List FieldsKind) (adt : Adt) : Type 0 where
  pub variants : AreFit ks adt.variants
  pub first : adt.is_enum ≡ false → (v : Variant) × (slice_get adt.variants 0 ≡ Some v)
  pub name : IsTrue (is_plain_name adt.name)

abbrev AreFitAdts : List (List FieldsKind) → List Adt → Type 0
AreFitAdts [] [] = Unit {0}
AreFitAdts (ks ∷ kss) (adt ∷ adts) = IsFitAdt ks adt × AreFitAdts kss adts
AreFitAdts _ _ = ⊥

adts_fit : (is : List Syn) (adts : List Adt) → Holds (each item_shaped is) → AreAdtsOf is adts → AreFitAdts (all_kinds is) adts
adts_fit [] [] h are = tt
adts_fit [] (adt ∷ adts) h are = absurd are
adts_fit (i ∷ is) [] h are = absurd are
adts_fit (syn at (AnItem (StructItem derives name kind fields)) ∷ is) (adt ∷ adts) h are = (
  record {
    variants = subst (AreFit (kind ∷ [])) (sym are.0.2) (variant_fit kind fields are.0.1 h.0.1 are.0.3, tt);
    first = λ e. (are.0.1, ap (λ vs. slice_get vs 0) are.0.2);
    name = subst (λ w. IsTrue (is_plain_name w)) (sym are.0.0) h.0.0;
  },
  adts_fit is adts h.1 are.1,
)
adts_fit (syn at (AnItem (EnumItem derives name variants)) ∷ is) (adt ∷ adts) h are = (
  record {
    variants = variants_fit variants adt.variants h.0.1 are.0.2;
    first = λ e. absurd (false≢true (sym e ∙ are.0.1));
    name = subst (λ w. IsTrue (is_plain_name w)) (sym are.0.0) h.0.0;
  },
  adts_fit is adts h.1 are.1,
)
adts_fit (syn at _ ∷ is) (adt ∷ adts) h are = absurd are.0

-- an item that is no struct and no enum has no kinds
kinds_with : (i : Syn) (is : List ItemSyn) → all_kinds (all_adts is) ≡ all_kinds (item_syns is) → all_kinds (adts_in i ++
    all_adts is) ≡ all_kinds (i ∷ item_syns is)
kinds_with (syn at (AnItem (StructItem derives name kind fields))) is e = ap (λ ks. (kind ∷ []) ∷ ks) e
kinds_with (syn at (AnItem (EnumItem derives name variants))) is e = ap (λ ks. variant_kinds variants ∷ ks) e
kinds_with (syn at _) is e = e

kinds_of_text : (is : List ItemSyn) → all_kinds (all_adts is) ≡ all_kinds (item_syns is)
kinds_of_text [] = refl
kinds_of_text (i ∷ is) = kinds_with i.item is (kinds_of_text is)

shaped_with : (i : Syn) (is : List ItemSyn) → Holds (item_shaped i) → Holds (each item_shaped (all_adts is)) → Holds (each
    item_shaped (adts_in i ++ all_adts is))
shaped_with (syn at (AnItem (StructItem derives name kind fields))) is h k = (h, k)
shaped_with (syn at (AnItem (EnumItem derives name variants))) is h k = (h, k)
shaped_with (syn at _) is h k = k

adts_shaped : (is : List ItemSyn) → Holds (each item_shaped (item_syns is)) → Holds (each item_shaped (all_adts is))
adts_shaped [] h = refl
adts_shaped (i ∷ is) h = shaped_with i.item is h.0 (adts_shaped is h.1)

-- ---- by their numbers

fit_at : (kss : List (List FieldsKind)) (adts : List Adt) (n : ℕ) (adt : Adt) → AreFitAdts kss adts → slice_get adts n ≡ Some adt →
    (ks : List FieldsKind) × (slice_get kss n ≡ Some ks) × IsFitAdt ks adt
fit_at [] [] n adt h is = absurd (none-some adt is)
fit_at [] (a ∷ adts) n adt h is = absurd h
fit_at (ks ∷ kss) [] n adt h is = absurd h
fit_at (ks ∷ kss) (a ∷ adts) zero adt h is = (ks, refl, subst (IsFitAdt ks) (same_Some a adt is) h.0)
fit_at (ks ∷ kss) (a ∷ adts) (suc n) adt h is = fit_at kss adts n adt h.1 is

variant_fit_at : (ks : List FieldsKind) (vs : List Variant) (n : ℕ) (v : Variant) → AreFit ks vs → slice_get vs n ≡ Some v → (k :
    FieldsKind) × (slice_get ks n ≡ Some k) × IsFit k v
variant_fit_at [] [] n v h is = absurd (none-some v is)
variant_fit_at [] (x ∷ vs) n v h is = absurd h
variant_fit_at (k ∷ ks) [] n v h is = absurd h
variant_fit_at (k ∷ ks) (x ∷ vs) zero v h is = (k, refl, subst (IsFit k) (same_Some x v is) h.0)
variant_fit_at (k ∷ ks) (x ∷ vs) (suc n) v h is = variant_fit_at ks vs n v h.1 is

-- ---- the first parameter of a function

-- no closure is written
abbrev IsNoClosure : ItemTable → TyId → Type 0
IsNoClosure items id = (ty : Ty) × (type_at items id ≡ Some ty) × (closure_in ty ≡ None)

module _ (items : ItemTable) (all : AreReady items) (around : WrittenScope) where
  named_plain : (name : Word) (adt : Option ℕ) (scalar : Option TyId) (id : TyId) → scalar_named name ≡ scalar → NamesTy items
      adt scalar id → IsNoClosure items id
  named_plain name adt (Some ty) id is h =
      let p = scalar_plain items all name ty is in subst (IsNoClosure items) h (p.0, p.1, p.3)
  named_plain name None None id is h = absurd h
  named_plain name (Some n) None id is h = (Ty.Adt n, h, refl)

  tuple_plain : (tys : List TyId) (id : TyId) → IsTupleOf items tys id → IsNoClosure items id
  tuple_plain [] id h = let p = unit_plain items all in subst (IsNoClosure items) h (p.0, p.1, p.3)
  tuple_plain (t ∷ ts) id h = (Ty.Tuple (t ∷ ts), h, refl)

  reference_plain : (unique : Bool) (inside id : TyId) → type_at items id ≡ Some (reference_to unique inside) → IsNoClosure
      items id
  reference_plain true inside id h = (Ty.Unique inside, h, refl)
  reference_plain false inside id h = (Ty.Shared inside, h, refl)

  mutual
    means_plain : (e : Syn) (id : TyId) → Means around items e id → IsNoClosure items id
    means_plain (syn at (AType t)) id h = form_plain t id h
    means_plain _ id h = absurd h

    form_plain : (form : WrittenType) (id : TyId) → MeansForm around items form id → IsNoClosure items id
    form_plain (NamedType name) id h =
        named_plain name (number_of around.adts name) (scalar_named name) id refl h
    form_plain (GenericType name content) id h = (Ty.Boxed h.0, h.2, refl)
    form_plain (DynType name trait_) id h = (Ty.Boxed h.1, h.4, refl)
    form_plain SelfType id h = (Ty.Adt h.0, h.2, refl)
    form_plain (ParensType inside) id h = means_plain inside id h
    form_plain (TupleType parts) id h = tuple_plain h.0 id h.2
    form_plain (ArrayType element count suffix) id h = (Ty.Array h.0 (length_shown count), h.2, refl)
    form_plain NeverType id h = let p = never_plain items all in subst (IsNoClosure items) h (p.0, p.1, p.3)
    form_plain (RefType unique to) id h = reference_plain unique h.0 id h.2

  receiver_plain : (receiver : Receiver) (n : ℕ) (own id : TyId) → type_at items own ≡ Some (Ty.Adt n) → IsReceiver items
      receiver own id → IsNoClosure items id
  receiver_plain ByValue n own id at h = subst (IsNoClosure items) h (Ty.Adt n, at, refl)
  receiver_plain ByShared n own id at h = (Ty.Shared own, h, refl)
  receiver_plain ByUnique n own id at h = (Ty.Unique own, h, refl)

  param_plain : (p : Syn) (id : TyId) → MeansParam around items p id → IsNoClosure items id
  param_plain (syn at (AParam (ParamOf p written))) id h = means_plain written id h
  param_plain (syn at (AParam (SelfParam receiver))) id h = receiver_plain receiver h.0 h.1 id h.3 h.4
  param_plain (syn at _) id h = absurd h

-- a head is that of a text
made_at : {B : Type 0} (P : ℕ → BodySyn → B → Type 0) (from to : ℕ) (texts rest : List BodySyn) (bs : List B) (n : ℕ) (b : B)
    → AreMade P from to texts rest bs → slice_get bs n ≡ Some b → (k : ℕ) × (text : BodySyn) × P k text b
made_at P from to texts rest [] n b h is = absurd (none-some b is)
made_at P from to [] rest (x ∷ bs) n b h is = absurd h
made_at P from to (text ∷ texts) rest (x ∷ bs) zero b h is = (from, text, subst (P from text) (same_Some x b is) h.0)
made_at P from to (text ∷ texts) rest (x ∷ bs) (suc n) b h is = made_at P (behind text from) to texts rest bs n b h.1 is

first_plain : (items : ItemTable) → AreReady items → (k : ℕ) (text : BodySyn) (head : Sig) → IsHeadOf items k text head →
    IsTrue (is_plain_name head.name) → (self : TyId) (rest : List TyId) → head.params ≡ self ∷ rest → IsNoClosure items self
first_plain items all k (Closure own) head h plain self rest e = absurd (false≢true (sym h.1 ∙ plain))
first_plain items all k (Function own) head h plain self rest e =
    by own.params (subst (MeanParams own.around items own.params) e h.0.0)
  where
    by : (ps : Syns) → MeanParams own.around items ps (self ∷ rest) → IsNoClosure items self
    by no_syn h = absurd h
    by (a_syn first others) h = param_plain items all own.around first self h.0

-- ---- the whole

pub items_known : (parts : Parts Pos) (items : ItemTable) → AreHeads parts items → AreReady items → Holds (each item_shaped
    (item_syns (items_of parts))) → KnowsItems (all_kinds (item_syns (items_of parts))) None items
items_known parts items heads all shape = record {
  structs = λ n def at plain. struct_at n def at plain (fit n def at);
  units = λ n variant v at unit_. unit_at n variant v at unit_;
  named = λ n variant v at. named_at n variant v at;
  self = λ n none. absurd (none-some n none);
  adts = λ n def at. (fit n def at).2.name;
  functions = λ body head self rest at plain e.
      let m = made_at (IsHeadOf items) 0 heads.count _ [] items.bodies body head heads.made at in
      first_plain items all m.0 m.1 head m.2 plain self rest e;
}
  where
    fits : AreFitAdts (all_kinds (item_syns (items_of parts))) items.adts
    fits =
        subst (λ kss. AreFitAdts kss items.adts) (kinds_of_text (items_of parts)) (adts_fit (all_adts (items_of parts))
        items.adts (adts_shaped (items_of parts) shape) heads.adts)

    fit : (n : ℕ) (def : Adt) → slice_get items.adts n ≡ Some def → (ks : List FieldsKind) × (slice_get (all_kinds (item_syns
        (items_of parts))) n ≡ Some ks) × IsFitAdt ks def
    fit n def at = fit_at (all_kinds (item_syns (items_of parts))) items.adts n def fits at

    struct_at : (n : ℕ) (def : Adt) → slice_get items.adts n ≡ Some def → def.is_enum ≡ false → (ks : List FieldsKind) × (slice_get
        (all_kinds (item_syns (items_of parts))) n ≡ Some ks) × IsFitAdt ks def → (v : Variant) × (variant_at items n 0 ≡
        Some v)
    struct_at n def at plain f =
        let v = f.2.first plain in (v.0, ap (λ o. option_and_then (λ (d : Adt). slice_get d.variants 0) o) at ∙ v.1)

    -- the struct or enum of a variant, with its kind
    found : (n variant : ℕ) (v : Variant) → variant_at items n variant ≡ Some v → (def : Adt) × (slice_get items.adts n ≡ Some
        def) × (slice_get def.variants variant ≡ Some v)
    found n variant v at = by (slice_get items.adts n) refl at
      where
        by : (o : Option Adt) → slice_get items.adts n ≡ o → option_and_then (λ (d : Adt). slice_get d.variants variant) o ≡
            Some v → (def : Adt) × (slice_get items.adts n ≡ Some def) × (slice_get def.variants variant ≡ Some v)
        by None is at = absurd (none-some v at)
        by (Some def) is at = (def, is, at)

    kind_found : (n variant : ℕ) (v : Variant) → variant_at items n variant ≡ Some v → (k : FieldsKind) × (kind_at (all_kinds
        (item_syns (items_of parts))) n variant ≡ k) × IsFit k v
    kind_found n variant v at =
        let d = found n variant v at in
        let f = fit n d.0 d.1 in
        let k = variant_fit_at f.0 d.0.variants variant v f.2.variants d.2 in (
          k.0,
          ap or_unit (ap (λ o. option_and_then (λ (ks : List FieldsKind). slice_get ks variant) o) f.1 ∙ k.1),
          k.2,
        )

    unit_at : (n variant : ℕ) (v : Variant) → variant_at items n variant ≡ Some v → IsTrue (is_unit_kind (kind_at (all_kinds
        (item_syns (items_of parts))) n variant)) → v.fields ≡ []
    unit_at n variant v at unit_ =
        let k = kind_found n variant v at in k.2.1 (subst (λ x. IsTrue (is_unit_kind x)) k.1 unit_)

    named_at : (n variant : ℕ) (v : Variant) → variant_at items n variant ≡ Some v → length v.field_names ≡ length v.fields
    named_at n variant v at = (kind_found n variant v at).2.0
