-- Names of fields of an accepted text: those of one variant differ.
use Rattle.std.proofs.Common.{◌≡◌, ℕ, suc, ◌+◌, ◌<◌, Bool, true, false, ◌&&◌, ◌||◌, not, nat_le, List, [], ◌∷◌, ◌++◌, Result, Ok, Err, IsTrue, refl, ap, sym, subst, ◌∙◌, arith}
use Rattle.std.specs.Str.{bytes_eq}
use Rattle.std.proofs.lemmas.Bool.{false≢true}
use Rattle.std.proofs.lemmas.Slice.Eq.{bytes_eq-Decides}
use Rattle.mir_base.specs.declared.place_in_text.Pos.{Pos}
use Rattle.mir_base.specs.declared.rule.Rule.{Rule}
use Rattle.mir_ty.specs.declared.adt.Adt.{Adt}
use Rattle.mir_ty.specs.declared.adt.Variant.{Variant}
use Rattle.mir_ty.specs.ItemTable.{ItemTable}
use Rattle.src_tree.specs.Layout.{Parts}
use Rattle.typed_tree.specs.Tree.{ProgramTree}
use Rattle.well_typed.specs.Claim.{Holds, each}
use Rattle.well_typed.specs.Names.{is_among, are_distinct}
use Rattle.typing_rules.specs.Bodies.{all_rules}
use Rattle.typing_rules.specs.Check.{TypingState, Broken, and_then}
use Rattle.typing_rules.specs.Collected.{starting_with, names_from}
use Rattle.typing_rules.specs.Items.{ItemSyn, items_of, item_syns}
use Rattle.typing_rules.specs.Program as rules
use Rattle.typing_rules.specs.Scope.{Env, adt_named}
use Rattle.typing_rules.specs.Written.{written}
use Rattle.src_ast.specs.Syntax.{Word, number_word, Syn, syn, AnItem, AField, AVariant, StructItem, EnumItem, Syns, no_syn, a_syn, list_of}
use Rattle.typing_soundness.specs.Heads.{IsVariantOf, AreVariantsOf, IsAdtOf, AreAdtsOf}
use Rattle.typing_soundness.specs.Items.{FieldsDiffer}
use Rattle.typing_soundness.specs.Named.{begins_with_digit, field_named, variant_named, item_named}
use Rattle.typing_soundness.specs.Program.{IsAccepted}
use Rattle.typing_soundness.specs.Walks.{Walked}
use Rattle.typing_soundness.proofs.Bodies.Order.{no_ok, walk_adds}
use Rattle.typing_soundness.proofs.Items.Collected.{all_adts, adts_in}
use Rattle.typing_soundness.proofs.Items.Digits.{same_number, begins_so, number_begins, below}
use Rattle.typing_soundness.proofs.Items.Distinct.{Apart, Differ, distinct}
use Rattle.typing_soundness.proofs.Items.Headed.{heads_of_text}
use Rattle.typing_soundness.proofs.Items.Ready.{All, all_at}
use Rattle.typing_soundness.proofs.Walking.Lawful.{whatever}
use Rattle.typing_soundness.proofs.Walking.Steps.{walk, walk_map, walk_obeyed, walk_ends}

-- ---- what the rule on fields asks

abbrev FieldKept : List Word → Syn → Type 0
FieldKept earlier (syn at (AField name ty)) = IsTrue (not (is_among name earlier))
FieldKept earlier _ = Unit {0}

abbrev with_field : Syn → List Word → List Word
with_field (syn at (AField name ty)) earlier = name ∷ earlier
with_field _ earlier = earlier

abbrev FieldsKept : List Word → List Syn → Type 0
FieldsKept earlier [] = Unit {0}
FieldsKept earlier (f ∷ fs) = FieldKept earlier f × FieldsKept (with_field f earlier) fs

type_kept : (env : Env) (earlier : List Word) (ty : Syn) (s : TypingState) → Walked (λ names t. earlier ≡ names) (and_then (written
    (all_rules env) ty s) (λ _ t. Ok (earlier, t)))
type_kept env earlier ty s =
    walk (whatever {P = Unit {0}} (written (all_rules env) ty s) tt) λ _ t _. walk_ends refl

field_kept : (env : Env) (earlier : List Word) (f : Syn) (s : TypingState) → Walked (λ names t. FieldKept earlier f × (with_field f
    earlier ≡ names)) (rules.field env earlier f s)
field_kept env earlier (syn at (AField name ty)) s =
    walk (whatever {P = Unit {0}} (written (all_rules env) ty s) tt) λ _ t _. walk_obeyed Rule.T02 at (not (is_among name
    earlier)) _ λ h. walk_ends (h, refl)
field_kept env earlier (syn at form) s = walk_map (type_kept env earlier (syn at form) s) λ names t e. (tt, e)

fields_kept : (env : Env) (earlier : List Word) (fs : List Syn) (s : TypingState) → Walked (λ a t. FieldsKept earlier fs)
    (rules.fields env earlier fs s)
fields_kept env earlier [] s = walk_ends tt
fields_kept env earlier (f ∷ fs) s =
    walk (field_kept env earlier f s) λ names t h. walk_map (fields_kept env names fs t) λ a u k. (
      h.0,
      subst (λ ns. FieldsKept ns fs) (sym h.1) k,
    )

abbrev VariantKept : Syn → Type 0
VariantKept (syn at (AVariant name kind fields)) = FieldsKept [] (list_of fields)
VariantKept _ = Unit {0}

abbrev ItemKept : Syn → Type 0
ItemKept (syn at (AnItem (StructItem derives name kind fields))) = FieldsKept [] (list_of fields)
ItemKept (syn at (AnItem (EnumItem derives name variants))) = All VariantKept (list_of variants)
ItemKept _ = Unit {0}

variants_kept : (env : Env) (earlier : List Word) (vs : List Syn) (s : TypingState) → Walked (λ a t. All VariantKept vs)
    (rules.variants env earlier vs s)
variants_kept env earlier [] s = walk_ends tt
variants_kept env earlier (syn at (AVariant name kind fields) ∷ vs) s =
    walk (fields_kept env [] (list_of fields) s) λ _ t h. walk_obeyed Rule.T02 at (not (is_among name earlier)) _ λ _.
    walk_obeyed Rule.T19 at (nat_le (rules.count_of fields) 32) _ λ _. walk_map (variants_kept env (name ∷ earlier) vs t)
    λ a u k. (h, k)
variants_kept env earlier (syn at _ ∷ vs) s = record { so = tt }

item_kept : (env : Env) (before : rules.Before) (i : Syn) (s : TypingState) → Walked (λ a t. ItemKept i) (rules.item_rules env
    before i s)
item_kept env before (syn at (AnItem (StructItem derives name kind fields))) s =
    walk (fields_kept (rules.in_impl env (adt_named s.items name.1)) [] (list_of fields) s) λ _ t h. whatever _ h
item_kept env before (syn at (AnItem (EnumItem derives name variants))) s =
    walk (variants_kept (rules.in_impl env (adt_named s.items name.1)) [] (list_of variants) s) λ _ t h. whatever _ h
item_kept env before (syn at _) s = whatever _ tt

items_kept : (env : Env) (before : rules.Before) (is : List Syn) (s : TypingState) → Walked (λ a t. All ItemKept is)
    (rules.all_items env before is s)
items_kept env before [] s = walk_ends tt
items_kept env before (i ∷ is) s =
    walk (item_kept env before i s) λ next t h. walk (whatever {P = Unit {0}} (rules.bodies_of env i t) tt) λ _ u _.
    walk_map (items_kept env next is u) λ a v k. (h, k)

-- of structs and enums alone, with their names
abbrev ItemIs : Syn → Type 0
ItemIs i = ItemKept i × Holds (item_named i)

kept_with : (i : Syn) (is : List Syn) → ItemIs i → All ItemIs is → All ItemIs (adts_in i ++ is)
kept_with (syn at (AnItem (StructItem derives name kind fields))) is h k = (h, k)
kept_with (syn at (AnItem (EnumItem derives name variants))) is h k = (h, k)
kept_with (syn at _) is h k = k

adts_kept : (is : List ItemSyn) → All ItemKept (item_syns is) → Holds (each item_named (item_syns is)) → All ItemIs
    (all_adts is)
adts_kept [] h n = tt
adts_kept (i ∷ is) h n = kept_with i.item (all_adts is) (h.0, n.0) (adts_kept is h.1 n.1)

-- ---- names by their order, and written ones

abbrev is_digit : ℕ → Bool
is_digit byte = nat_le 48 byte && nat_le byte 57

as_begun : (w : Word) → begins_with_digit w ≡ begins_so is_digit w
as_begun [] = refl
as_begun (c ∷ cs) = refl

number_digit : (n : ℕ) → IsTrue (begins_with_digit (number_word n))
number_digit n =
    as_begun (number_word n) ∙ number_begins is_digit (λ d l. below 10 (λ k. is_digit (48 + k)) refl d l) n

no_number : (name : Word) (n : ℕ) → IsTrue (not (begins_with_digit name)) → name ≡ number_word n → ⊥
no_number name n h e = false≢true (ap not (sym (number_digit n)) ∙ ap (λ w. not (begins_with_digit w)) (sym e) ∙ h)

-- a number's word, and the names of later fields
number_apart : (n k : ℕ) (fs : List Syn) → n < k → Holds (each field_named fs) → Apart (number_word n) (names_from k fs)
number_apart n k [] l h = tt
number_apart n k (syn at (AField name ty) ∷ fs) l h =
    (λ e. no_number name n h.0 (sym e), number_apart n (suc k) fs (omega (arith, l)) h.1)
number_apart n k (syn at _ ∷ fs) l h = (
  λ e. let s = same_number n k e in absurd (omega (arith, l, s)),
  number_apart n (suc k) fs (omega (arith, l)) h.1,
)

same_among : (a b : Word) (names : List Word) → a ≡ b → is_among a names ≡ true → IsTrue (not (is_among b names)) → ⊥
same_among a b names e has none = false≢true (ap not (sym (ap (λ w. is_among w names) (sym e) ∙ has)) ∙ none)

either : (a b : Bool) → b ≡ true → (a || b) ≡ true
either true b h = refl
either false b h = h

-- a name that came before, and those of later fields
name_apart : (name : Word) (earlier : List Word) (k : ℕ) (fs : List Syn) → IsTrue (not (begins_with_digit name)) → is_among name
    earlier ≡ true → FieldsKept earlier fs → Holds (each field_named fs) → Apart name (names_from k fs)
name_apart name earlier k [] free has kept h = tt
name_apart name earlier k (syn at (AField other ty) ∷ fs) free has kept h = (
  λ e. same_among name other earlier e has kept.0,
  name_apart name (other ∷ earlier) (suc k) fs free (either (bytes_eq name other) (is_among name earlier) has) kept.1 h.1,
)
name_apart name earlier k (syn at _ ∷ fs) free has kept h =
    (no_number name k free, name_apart name earlier (suc k) fs free has kept.1 h.1)

names_differ : (earlier : List Word) (k : ℕ) (fs : List Syn) → FieldsKept earlier fs → Holds (each field_named fs) → Differ
    (names_from k fs)
names_differ earlier k [] kept h = tt
names_differ earlier k (syn at (AField name ty) ∷ fs) kept h = (
  name_apart name (name ∷ earlier) (suc k) fs h.0 (ap (λ b. b || is_among name earlier) ((bytes_eq-Decides name name).1
      refl)) kept.1 h.1,
  names_differ (name ∷ earlier) (suc k) fs kept.1 h.1,
)
names_differ earlier k (syn at _ ∷ fs) kept h =
    (number_apart k (suc k) fs (omega arith) h.1, names_differ earlier (suc k) fs kept.1 h.1)

-- ---- structs and enums

abbrev HasFields : Variant → Type 0
HasFields v = IsTrue (are_distinct v.field_names)

variant_differs : (fields : Syns) (v : Variant) → FieldsKept [] (list_of fields) → Holds (each field_named (list_of fields)) →
    IsVariantOf fields v → HasFields v
variant_differs fields v kept h is =
    ap are_distinct is.1 ∙ distinct (names_from 0 (list_of fields)) (names_differ [] 0 (list_of fields) kept h)

variants_differ : (vs : Syns) (xs : List Variant) → All VariantKept (list_of vs) → Holds (each variant_named (list_of vs)) →
    AreVariantsOf vs xs → All HasFields xs
variants_differ no_syn [] kept h are = tt
variants_differ no_syn (x ∷ xs) kept h are = absurd are
variants_differ (a_syn first rest) [] kept h are = absurd are
variants_differ (a_syn (syn at (AVariant name kind fields)) rest) (x ∷ xs) kept h are =
    (variant_differs fields x kept.0 h.0.1 are.0.1, variants_differ rest xs kept.1 h.1 are.1)
variants_differ (a_syn (syn at _) rest) (x ∷ xs) kept h are = absurd are

abbrev HasAllFields : Adt → Type 0
HasAllFields adt = All HasFields adt.variants

adt_differs : (i : Syn) (adt : Adt) → IsAdtOf i adt → ItemIs i → HasAllFields adt
adt_differs (syn at (AnItem (StructItem derives name kind fields))) adt are h =
    subst (All HasFields) (sym are.2) (variant_differs fields are.1 h.0 h.1.1.1 are.3, tt)
adt_differs (syn at (AnItem (EnumItem derives name variants))) adt are h =
    variants_differ variants adt.variants h.0 h.1.1.1 are.2
adt_differs (syn at _) adt are h = absurd are

adts_differ : (is : List Syn) (adts : List Adt) → AreAdtsOf is adts → All ItemIs is → All HasAllFields adts
adts_differ [] [] are h = tt
adts_differ [] (adt ∷ adts) are h = absurd are
adts_differ (i ∷ is) [] are h = absurd are
adts_differ (i ∷ is) (adt ∷ adts) are h = (adt_differs i adt are.0 h.0, adts_differ is adts are.1 h.1)

-- ---- the whole

module _ (parts : Parts Pos) (items : ItemTable) (p : ProgramTree) (h : IsAccepted parts items p) where
  abbrev texts : List Syn
  texts = item_syns (items_of parts)

  all_kept : All ItemKept texts
  all_kept =
      by _ (items_kept (rules.outermost texts) (record { methods = []; impls = [] }) texts (starting_with items)) h.checked
    where
      by : (r : Result (Unit {0} × TypingState) Broken) → Walked (λ a t. All ItemKept texts) r → rules.program_in r ≡ Ok p → All
          ItemKept texts
      by (Ok a) w e = w.so
      by (Err x) w e = absurd (no_ok x p e)

  same_adts : p.items.adts ≡ items.adts
  same_adts = let w = walk_adds parts items p h.checked in ap (λ (q : ProgramTree). q.items.adts) w.2 ∙ w.1.met.adts

  all_differ : All HasAllFields p.items.adts
  all_differ =
      subst (All HasAllFields) (sym same_adts) (adts_differ (all_adts (items_of parts)) items.adts (heads_of_text parts h.end
      items h.collected).adts (adts_kept (items_of parts) all_kept h.text.named))

pub text_fields : FieldsDiffer
text_fields parts items p h n adt at m v at_v =
    all_at HasFields adt.variants m v (all_at HasAllFields p.items.adts n adt (all_differ parts items p h) at) at_v
