-- The typed program of an accepted text is lowerable, so its graph is well formed.
use Rattle.std.proofs.Common.{◌≡◌, ℕ, suc, ◌<◌, nat_eq, Bool, true, false, ◌&&◌, ◌||◌, ◌==◌, not, nat_lt, List, [], ◌∷◌, ◌++◌, map, take, length, All, Contains, refl, sym, ap, ◌∙◌, arith}
use Rattle.std.specs.Prelude.{codes}
use Rattle.std.specs.List.{list_any, list_all, starts_with}
use Rattle.std.specs.Cmp.Lexicographic.{pointwise}
use Rattle.std.specs.Str.{bytes_eq}
use Rattle.std.proofs.lemmas.Bool.{eqb-true, false≢true, lt-ltb}
use Rattle.std.proofs.lemmas.List.Folds.{list_all-append}
use Rattle.std.proofs.lemmas.List.Elements.{All-nil, All-cons}
use Rattle.cfg_graph.specs.WellFormed.Faults.{ArePartsFirst}
use Rattle.cfg_graph.specs.WellFormed.NameFaults.{is_among, is_name, is_adt_name, type_words}
use Rattle.mir_ty.specs.declared.adt.Adt.{Adt}
use Rattle.mir_ty.specs.declared.adt.Variant.{Variant}
use Rattle.mir_ty.specs.declared.def.Sig.{Sig}
use Rattle.mir_ty.specs.declared.def.TraitDef.{TraitDef}
use Rattle.mir_ty.specs.declared.ty.TyId.{TyId}
use Rattle.mir_ty.specs.AreItems.{types_in}
use Rattle.typed_tree.specs.Tree.{ProgramTree}
use Rattle.well_typed.specs.Names as words
use Rattle.well_typed.specs.Names.{is_word}
use Rattle.typing_rules.specs.Promises.{AreReady, is_plain_name}
use Rattle.typing_soundness.specs.Named.{is_type_name, adt_named, trait_named}
use Rattle.lower_laws.specs.Lowerable.{adt_is_named, trait_is_named}
use Rattle.lower_laws.proofs.Order.{order_is_tested}
use Rattle.lower_laws.proofs.Whole.{graphs_are_well_formed}
use Rattle.lower_laws.specs.Accepted.{AreLowerable, GraphsAreWellFormed}

-- ---- truths

both : (a b : Bool) → a ≡ true → b ≡ true → (a && b) ≡ true
both true b h k = k
both false b h k = h

first : (a b : Bool) → (a && b) ≡ true → a ≡ true
first true b h = refl
first false b h = h

second : (a b : Bool) → (a && b) ≡ true → b ≡ true
second true b h = h
second false b h = absurd (false≢true h)

-- ---- types come after those in them

all_from : {A : Type 0} (P : A → Type 0) (xs : List A) → ((x : A) → Contains xs x → P x) → All P xs
all_from P [] h = All-nil P
all_from P (x ∷ xs) h =
    All-cons P x xs (h x (0, omega arith, refl)) (all_from P xs (λ y has. h y (suc has.0, omega (arith, has.1), has.2)))

parts_first : (p : ProgramTree) → AreReady p.items → ArePartsFirst p.items.types
parts_first p ready n ty is =
    all_from (λ (id : TyId). id.0 < n) (types_in ty) (λ part has. ready.parts_first (record { 0 = n }) part ty is has)

-- ---- names

all_map : {A : Type 0} (f g : A → Bool) (xs : List A) → ((x : A) → f x ≡ true → g x ≡ true) → list_all f xs ≡ true →
    list_all g xs ≡ true
all_map f g [] h k = refl
all_map f g (x ∷ xs) h k =
    both (g x) _ (h x (first (f x) _ k)) (all_map f g xs h (second (f x) _ k))

-- of two tests
all_map_two : {A : Type 0} (e f g : A → Bool) (xs : List A) → ((x : A) → e x ≡ true → f x ≡ true → g x ≡ true) → list_all
    e xs ≡ true → list_all f xs ≡ true → list_all g xs ≡ true
all_map_two e f g [] h j k = refl
all_map_two e f g (x ∷ xs) h j k =
    both (g x) _ (h x (first (e x) _ j) (first (f x) _ k)) (all_map_two e f g xs h (second (e x) _ j) (second (f x) _ k))

all_front : {A : Type 0} (f : A → Bool) (xs ys : List A) → list_all f (xs ++ ys) ≡ true → list_all f xs ≡ true
all_front f xs ys h = first (list_all f xs) (list_all f ys) (sym (list_all-append f xs ys) ∙ h)

all_mapped : {A B : Type 0} (f : A → B) (g : B → Bool) (xs : List A) → list_all g (map f xs) ≡ true → list_all (λ x. g (f x)) xs
    ≡ true
all_mapped f g [] h = refl
all_mapped f g (x ∷ xs) h = both (g (f x)) _ (first (g (f x)) _ h) (all_mapped f g xs (second (g (f x)) _ h))

word_is_name : (name : List ℕ) → is_word name ≡ true → is_name name ≡ true
word_is_name [] h = absurd (false≢true h)
word_is_name (byte ∷ bytes) h =
    both (nat_lt 0 (length (byte ∷ bytes))) _ (lt-ltb 0 (length (byte ∷ bytes)) (omega arith)) h

-- none of the names that are built in
abbrev is_item_name : List ℕ → Bool
is_item_name name = is_word name && not (words.is_among name words.built_in)

not_any : (f : List ℕ → Bool) (xs ys zs : List (List ℕ)) → not (list_any f (xs ++ ys)) ≡ true → not (list_any f zs) ≡ true →
    not (list_any f (xs ++ zs)) ≡ true
not_any f [] ys zs h k = k
not_any f (x ∷ xs) ys zs h k = on (f x) h (λ more. not_any f xs ys zs more k)
  where
    on : (b : Bool) → not (b || list_any f (xs ++ ys)) ≡ true → (not (list_any f (xs ++ ys)) ≡ true → not (list_any f (xs ++
        zs)) ≡ true) → not (b || list_any f (xs ++ zs)) ≡ true
    on true h again = h
    on false h again = again h

-- the words that begin another type are built in, or `dyn`
abbrev words_of_types : List (List ℕ)
words_of_types =
    codes "i32" ∷ codes "i64" ∷ codes "u32" ∷ codes "u64" ∷ codes "usize" ∷ codes "bool" ∷ codes "Box" ∷ []

abbrev other_words : List (List ℕ)
other_words =
    codes "Drop" ∷ codes "Copy" ∷ codes "Clone" ∷ codes "Debug" ∷ codes "print" ∷ codes "ask" ∷ codes "forget" ∷ codes "drop" ∷
    codes "panic" ∷ []

no_type_word : (name : List ℕ) → not (words.is_among name words.built_in) ≡ true → not (bytes_eq name (codes "dyn")) ≡ true →
    not (is_among type_words name) ≡ true
no_type_word name h k =
    not_any (bytes_eq name) words_of_types other_words (codes "dyn" ∷ []) h (alone (bytes_eq name (codes "dyn")) k)
  where
    alone : (b : Bool) → not b ≡ true → not (b || false) ≡ true
    alone true h = h
    alone false h = refl

-- a name that begins as that of a closure has the mark of those
abbrev is_mark : ℕ → Bool
is_mark byte = byte == 35

has_mark : (needle name : List ℕ) → pointwise nat_eq needle (take (length needle) name) ≡ true → list_any is_mark needle ≡
    true → list_any is_mark name ≡ true
has_mark [] name h k = absurd (false≢true k)
has_mark (n ∷ ns) [] h k = absurd (false≢true h)
has_mark (n ∷ ns) (c ∷ cs) h k =
    let same = eqb-true n c (first (nat_eq n c) _ h) in
    let rest = second (nat_eq n c) _ h in
    on (is_mark n) (is_mark c) (ap is_mark same) k (λ more. has_mark ns cs rest more)
  where
    on : (a b : Bool) → a ≡ b → (a || list_any is_mark ns) ≡ true → (list_any is_mark ns ≡ true → list_any is_mark cs ≡
        true) → (b || list_any is_mark cs) ≡ true
    on true true e k again = refl
    on false false e k again = again k
    on true false e k again = absurd (false≢true (sym e))
    on false true e k again = refl

no_closure : (name : List ℕ) → is_plain_name name ≡ true → not (starts_with nat_eq name (codes "closure#")) ≡ true
no_closure name h = by (starts_with nat_eq name (codes "closure#")) refl
  where
    plain : (b : Bool) → b ≡ true → not b ≡ true → ⊥
    plain true e f = false≢true f
    plain false e f = false≢true e

    by : (b : Bool) → starts_with nat_eq name (codes "closure#") ≡ b → not b ≡ true
    by true e = absurd (plain (list_any is_mark name) (has_mark (codes "closure#") name e refl) h)
    by false e = refl

type_name : (name : List ℕ) → is_item_name name ≡ true → is_type_name name ≡ true → is_adt_name name ≡ true
type_name name item own =
    let plain = second (is_word name) _ own in
    both (is_name name && not (is_among type_words name)) _
    (both (is_name name) _ (word_is_name name (first (is_word name) _ own))
    (no_type_word name (second (is_word name) _ item) (second (is_plain_name name) _ plain)))
    (no_closure name (first (is_plain_name name) _ plain))

adt_name : (adt : Adt) → is_item_name adt.name ≡ true → adt_named adt ≡ true → adt_is_named adt ≡ true
adt_name adt item own =
    both (is_adt_name adt.name) _ (type_name adt.name item (first (is_type_name adt.name) _ own))
    (all_map (λ (v : Variant). is_word v.name) (λ (v : Variant). is_name v.name) adt.variants (λ v h. word_is_name v.name h)
    (second (is_type_name adt.name) _ own))

trait_name : (def : TraitDef) → trait_named def ≡ true → trait_is_named def ≡ true
trait_name def h =
    all_map (λ (m : Sig). is_word m.name) (λ (m : Sig). is_name m.name) def.methods (λ m k. word_is_name m.name k) h

-- ---- the laws

pub are_lowerable : AreLowerable
are_lowerable p has =
    let w = has.well_typed in
    let adts = map (λ (adt : Adt). adt.name) p.items.adts in
    let traits = map (λ (def : TraitDef). def.name) p.items.traits in
    let bodies = map (λ (sig : Sig). sig.name) p.items.bodies in
    let of_adts = all_mapped (λ (adt : Adt). adt.name) is_item_name p.items.adts (all_front is_item_name adts traits
    (all_front is_item_name (adts ++ traits) bodies w.0.1.1.1.1.1.1.1.1.0)) in (
      (order_is_tested p.items.types).1 (parts_first p has.ready),
      (
        all_map_two (λ (adt : Adt). is_item_name adt.name) adt_named adt_is_named p.items.adts adt_name of_adts has.names.adts,
        all_map trait_named trait_is_named p.items.traits trait_name has.names.traits,
      ),
    )

pub accepted_graphs_are_well_formed : GraphsAreWellFormed
accepted_graphs_are_well_formed p has = graphs_are_well_formed p has.well_typed (are_lowerable p has)
