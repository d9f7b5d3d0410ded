-- Structs and enums of an accepted text.
use Rattle.std.proofs.Common.{◌≡◌, ℕ, suc, Bool, true, false, ◌&&◌, ◌||◌, ◌==◌, not, nat_le, if◌then◌else◌, List, [], ◌∷◌, ◌++◌, map, length, slice_get, Some, Result, Ok, Err, IsTrue, refl, ap, sym, subst, ◌∙◌}
use Rattle.std.specs.Cmp.Lexicographic.{nat_list_eq_equiv}
use Rattle.std.specs.List.{list_all}
use Rattle.std.specs.Str.{bytes_eq}
use Rattle.std.proofs.lemmas.Bool.{false≢true, and_from, eq-eqb}
use Rattle.mir_base.specs.declared.place_in_text.Pos.{Pos}
use Rattle.mir_base.specs.declared.rule.Rule.{Rule}
use Rattle.mir_ty.specs.declared.adt.Adt.{Adt}
use Rattle.mir_ty.specs.declared.adt.Variant.{Variant}
use Rattle.mir_ty.specs.declared.ty.TyId.{TyId}
use Rattle.mir_ty.specs.ItemTable.{ItemTable}
use Rattle.mir_ty.specs.Parts.{fields_of, variants_of}
use Rattle.src_tree.specs.Layout.{Parts}
use Rattle.typed_tree.specs.Tree.{ProgramTree}
use Rattle.well_typed.specs.Items.{stands_alone}
use Rattle.well_typed.specs.Names.{is_among, are_distinct}
use Rattle.typing_rules.specs.Check.{TypingState, Broken}
use Rattle.typing_rules.specs.Collected.{starting_with}
use Rattle.typing_rules.specs.Items.{ItemSyn, items_of, item_syns}
use Rattle.typing_rules.specs.Program as rules
use Rattle.typing_rules.specs.Promises.{AreReady, IsAlone}
use Rattle.typing_rules.specs.Scope.{Env, adt_named}
use Rattle.src_ast.specs.Syntax.{Word, Syn, syn, AnItem, AVariant, StructItem, EnumItem, Syns, no_syn, a_syn, list_of}
use Rattle.typing_soundness.specs.Heads.{IsVariantOf, AreVariantsOf, IsAdtOf, AreAdtsOf}
use Rattle.typing_soundness.specs.Items.{is_one_variant, has_variants, IsAdtTyped}
use Rattle.typing_soundness.specs.Program.{IsAccepted}
use Rattle.typing_soundness.specs.Walks.{Walked}
use Rattle.typing_soundness.proofs.Items.Accepting.{are_typed}
use Rattle.typing_soundness.proofs.Items.Copies.{text_copies}
use Rattle.typing_soundness.proofs.Items.Collected.{all_adts, adts_in, names_counted}
use Rattle.typing_soundness.proofs.Items.Headed.{heads_of_text}
use Rattle.typing_soundness.proofs.Items.Heads.{alone_stands}
use Rattle.typing_soundness.proofs.Bodies.Order.{no_ok, walk_adds}
use Rattle.typing_soundness.proofs.Items.Ready.{All, all_at}
use Rattle.typing_soundness.proofs.Walking.Lawful.{whatever}
use Rattle.typing_soundness.proofs.Walking.Steps.{walk, walk_map, walk_obeyed, walk_ends}

-- ---- what the rules on structs and enums ask

-- names that differ, and few fields
abbrev VariantsKept : List Word → List Syn → Type 0
VariantsKept earlier [] = Unit {0}
VariantsKept earlier (syn at (AVariant name kind fields) ∷ vs) =
    IsTrue (not (is_among name earlier)) × IsTrue (nat_le (rules.count_of fields) 32) × VariantsKept (name ∷ earlier) vs
VariantsKept earlier (syn at form ∷ vs) = ⊥

abbrev ItemKept : Syn → Type 0
ItemKept (syn at (AnItem (StructItem derives name kind fields))) = IsTrue (nat_le (rules.count_of fields) 32)
ItemKept (syn at (AnItem (EnumItem derives name variants))) =
    VariantsKept [] (list_of variants) × IsTrue (nat_le (rules.count_of variants) 64)
ItemKept _ = Unit {0}

variants_kept : (env : Env) (earlier : List Word) (vs : List Syn) (s : TypingState) → Walked (λ a t. VariantsKept earlier vs)
    (rules.variants env earlier vs s)
variants_kept env earlier [] s = walk_ends tt
variants_kept env earlier (syn at (AVariant name kind fields) ∷ vs) s =
    walk (whatever {P = Unit {0}} (rules.fields env [] (list_of fields) s) tt) λ _ t _. walk_obeyed Rule.T02 at (not
    (is_among name earlier)) _ λ h. walk_obeyed Rule.T19 at (nat_le (rules.count_of fields) 32) _ λ few. walk_map
    (variants_kept env (name ∷ earlier) vs t) λ a u k. (h, few, k)
variants_kept env earlier (syn at _ ∷ vs) s = record { so = tt }

item_kept : (env : Env) (before : rules.Before) (i : Syn) (s : TypingState) → Walked (λ a t. ItemKept i) (rules.item_rules env
    before i s)
item_kept env before (syn at (AnItem (StructItem derives name kind fields))) s =
    walk (whatever {P = Unit {0}} (rules.fields (rules.in_impl env (adt_named s.items name.1)) [] (list_of fields) s) tt)
    λ _ t _. walk_obeyed Rule.T19 at (nat_le (rules.count_of fields) 32) _ λ few. walk_ends few
item_kept env before (syn at (AnItem (EnumItem derives name variants))) s =
    walk (variants_kept (rules.in_impl env (adt_named s.items name.1)) [] (list_of variants) s) λ _ t h. walk_obeyed
    Rule.T19 at (nat_le (rules.count_of variants) 64) _ λ few. walk_ends (h, few)
item_kept env before (syn at _) s = whatever _ tt

items_kept : (env : Env) (before : rules.Before) (is : List Syn) (s : TypingState) → Walked (λ a t. All ItemKept is)
    (rules.all_items env before is s)
items_kept env before [] s = walk_ends tt
items_kept env before (i ∷ is) s =
    walk (item_kept env before i s) λ next t h. walk (whatever {P = Unit {0}} (rules.bodies_of env i t) tt) λ _ u _.
    walk_map (items_kept env next is u) λ a v k. (h, k)

-- of structs and enums alone
kept_with : (i : Syn) (is : List Syn) → ItemKept i → All ItemKept is → All ItemKept (adts_in i ++ is)
kept_with (syn at (AnItem (StructItem derives name kind fields))) is h k = (h, k)
kept_with (syn at (AnItem (EnumItem derives name variants))) is h k = (h, k)
kept_with (syn at _) is h k = k

adts_kept : (is : List ItemSyn) → All ItemKept (item_syns is) → All ItemKept (all_adts is)
adts_kept [] h = tt
adts_kept (i ∷ is) h = kept_with i.item (all_adts is) h.0 (adts_kept is h.1)

-- ---- names of variants

abbrev name_of : Variant → Word
name_of v = v.name

among_false : (name : Word) (names : List Word) → IsTrue (not (is_among name names)) → is_among name names ≡ false
among_false name names h = by (is_among name names) h
  where
    by : (b : Bool) → IsTrue (not b) → b ≡ false
    by true h = absurd (false≢true h)
    by false h = refl

-- a name that came before is none of the later ones
none_later : (word : Word) (earlier : List Word) (vs : Syns) (xs : List Variant) → ((name : Word) → is_among name earlier
    ≡ false → bytes_eq word name ≡ false) → VariantsKept earlier (list_of vs) → AreVariantsOf vs xs → is_among word (map
    name_of xs) ≡ false
none_later word earlier no_syn [] h kept are = refl
none_later word earlier no_syn (x ∷ xs) h kept are = absurd are
none_later word earlier (a_syn first rest) [] h kept are = absurd are
none_later word earlier (a_syn (syn at (AVariant name kind fields)) rest) (x ∷ xs) h kept are =
    let here : bytes_eq word x.name ≡ false = ap (bytes_eq word) are.0.0 ∙ h name (among_false name earlier kept.0) in
    ap (λ b. b || is_among word (map name_of xs)) here ∙ none_later word (name ∷ earlier) rest xs (λ other e. h other
    (second (bytes_eq other name) (is_among other earlier) e)) kept.2 are.1
  where
    second : (a b : Bool) → (a || b) ≡ false → b ≡ false
    second true b e = absurd (cc)
    second false b e = e
none_later word earlier (a_syn (syn at _) rest) (x ∷ xs) h kept are = absurd are

names_differ : (earlier : List Word) (vs : Syns) (xs : List Variant) → VariantsKept earlier (list_of vs) → AreVariantsOf
    vs xs → IsTrue (are_distinct (map name_of xs))
names_differ earlier no_syn [] kept are = refl
names_differ earlier no_syn (x ∷ xs) kept are = absurd are
names_differ earlier (a_syn first rest) [] kept are = absurd are
names_differ earlier (a_syn (syn at (AVariant name kind fields)) rest) (x ∷ xs) kept are =
    let apart : is_among x.name (map name_of xs) ≡ false = ap (λ w. is_among w (map name_of xs)) are.0.0 ∙ none_later name
    (name ∷ earlier) rest xs (λ other e. nat_list_eq_equiv.symm name other ∙ first_false (bytes_eq other name) (is_among
    other earlier) e) kept.2 are.1 in
    and_from (not (is_among x.name (map name_of xs))) _ (ap not apart) (names_differ (name ∷ earlier) rest xs kept.2 are.1)
  where
    first_false : (a b : Bool) → (a || b) ≡ false → a ≡ false
    first_false true b e = e
    first_false false b e = refl
names_differ earlier (a_syn (syn at _) rest) (x ∷ xs) kept are = absurd are

-- ---- counts

variants_counted : (vs : Syns) (xs : List Variant) → AreVariantsOf vs xs → length xs ≡ length (list_of vs)
variants_counted no_syn [] are = refl
variants_counted no_syn (x ∷ xs) are = absurd are
variants_counted (a_syn first rest) [] are = absurd are
variants_counted (a_syn (syn at (AVariant name kind fields)) rest) (x ∷ xs) are = ap suc (variants_counted rest xs are.1)
variants_counted (a_syn (syn at _) rest) (x ∷ xs) are = absurd are

-- as many names as fields, and few of them
abbrev IsCounted : Variant → Type 0
IsCounted v = IsTrue (length v.field_names == length v.fields) × IsTrue (nat_le (length v.fields) 32)

names_are : (fields : Syns) (v : Variant) → IsVariantOf fields v → length v.field_names ≡ length (list_of fields)
names_are fields v h = ap length h.1 ∙ names_counted 0 (list_of fields)

counted : (fields : Syns) (v : Variant) → IsVariantOf fields v → IsTrue (nat_le (rules.count_of fields) 32) → IsCounted v
counted fields v h few = (
  eq-eqb (length v.field_names) (length v.fields) (names_are fields v h ∙ sym h.0),
  ap (λ n. nat_le n 32) h.0 ∙ few,
)

all_counted : (earlier : List Word) (vs : Syns) (xs : List Variant) → VariantsKept earlier (list_of vs) → AreVariantsOf vs
    xs → All IsCounted xs
all_counted earlier no_syn [] kept are = tt
all_counted earlier no_syn (x ∷ xs) kept are = absurd are
all_counted earlier (a_syn first rest) [] kept are = absurd are
all_counted earlier (a_syn (syn at (AVariant name kind fields)) rest) (x ∷ xs) kept are =
    (counted fields x are.0.1 kept.1, all_counted (name ∷ earlier) rest xs kept.2 are.1)
all_counted earlier (a_syn (syn at _) rest) (x ∷ xs) kept are = absurd are

-- ---- one struct or enum

abbrev IsDeclared : Adt → Type 0
IsDeclared adt = IsTrue (has_variants adt) × All IsCounted adt.variants

bytes_self : (w : Word) → bytes_eq w w ≡ true
bytes_self w = nat_list_eq_equiv.refl w

abbrev variants_by : Bool → Adt → Bool
variants_by b adt =
    if b then (nat_le (length adt.variants) 64 && are_distinct (map name_of adt.variants)) else is_one_variant adt.name
    adt.variants

struct_variants : (adt : Adt) (v : Variant) (name : Word) → adt.name ≡ name → adt.variants ≡ v ∷ [] → v.name ≡ name →
    adt.is_enum ≡ false → IsTrue (has_variants adt)
struct_variants adt v name n is w e =
    ap (λ b. variants_by b adt) e ∙ ap (is_one_variant adt.name) is ∙ ap (λ x. bytes_eq x adt.name) w ∙ ap (bytes_eq name)
    n ∙ bytes_self name

adt_declared : (i : Syn) (adt : Adt) → IsAdtOf i adt → ItemKept i → IsDeclared adt
adt_declared (syn at (AnItem (StructItem derives name kind fields))) adt are kept = (
  struct_variants adt are.1 name.1 are.0 are.2 are.4.0 are.4.1,
  subst (All IsCounted) (sym are.2) (counted fields are.1 are.3 kept, tt),
)
adt_declared (syn at (AnItem (EnumItem derives name variants))) adt are kept = (
  ap (λ b. variants_by b adt) are.1 ∙ and_from (nat_le (length adt.variants) 64) _ (ap (λ n. nat_le n 64)
      (variants_counted variants adt.variants are.2) ∙ kept.1) (names_differ [] variants adt.variants kept.0 are.2),
  all_counted [] variants adt.variants kept.0 are.2,
)
adt_declared (syn at _) adt are kept = absurd are

adts_declared : (is : List Syn) (adts : List Adt) → AreAdtsOf is adts → All ItemKept is → All IsDeclared adts
adts_declared [] [] are kept = tt
adts_declared [] (adt ∷ adts) are kept = absurd are
adts_declared (i ∷ is) [] are kept = absurd are
adts_declared (i ∷ is) (adt ∷ adts) are kept = (adt_declared i adt are.0 kept.0, adts_declared is adts are.1 kept.1)

-- ---- fields

all_stand : (items : ItemTable) (ids : List TyId) → ((k : ℕ) (id : TyId) → slice_get ids k ≡ Some id → IsAlone items id) →
    IsTrue (list_all (stands_alone items) ids)
all_stand items [] h = refl
all_stand items (id ∷ ids) h =
    and_from (stands_alone items id) _ (alone_stands items id (h 0 id refl)) (all_stand items ids (λ k x is. h (suc k) x
    is))

-- ---- the whole

module _ (parts : Parts Pos) (items : ItemTable) (p : ProgramTree) (h : IsAccepted parts items p) where
  abbrev texts : List Syn
  texts = item_syns (items_of parts)

  kept_of : (r : Result (Unit {0} × TypingState) Broken) → Walked (λ a t. All ItemKept texts) r → rules.program_in r ≡ Ok p →
      All ItemKept texts
  kept_of (Ok a) w e = w.so
  kept_of (Err x) w e = absurd (no_ok x p e)

  all_kept : All ItemKept texts
  all_kept =
      kept_of _ (items_kept (rules.outermost texts) (record { methods = []; impls = [] }) texts (starting_with items))
      h.checked

  same_adts : p.items.adts ≡ items.adts
  same_adts = let w = walk_adds parts items p h.checked in ap (λ (q : ProgramTree). q.items.adts) w.2 ∙ w.1.met.adts

  declared : All IsDeclared p.items.adts
  declared =
      subst (All IsDeclared) (sym same_adts) (adts_declared (all_adts (items_of parts)) items.adts (heads_of_text parts h.end
      items h.collected).adts (adts_kept (items_of parts) all_kept))

  are_ready : AreReady p.items
  are_ready = (are_typed parts items p h).0

  pub text_adts : (n : ℕ) (adt : Adt) → slice_get p.items.adts n ≡ Some adt → IsAdtTyped p.items adt
  text_adts n adt is =
      let d = all_at IsDeclared p.items.adts n adt declared is in
      record {
        copy = text_copies parts items p h n adt is;
        variants = d.0;
        fields = λ m v at.
            let c = all_at IsCounted adt.variants m v d.1 at in
            and_from (list_all (stands_alone p.items) v.fields) _ (all_stand p.items v.fields (λ k id f. are_ready.fields n
            m k id (ap (λ o. slice_get (fields_of (slice_get (variants_of o) m)) k) is ∙ ap (λ o. slice_get (fields_of o) k)
            at ∙ f))) (and_from (length v.field_names == length v.fields) _ c.0 c.1);
      }
