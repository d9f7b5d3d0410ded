-- Names of traits and of their methods, by tables.
use Rattle.std.proofs.Common.{◌≡◌, ◌≤◌, ℕ, ◌+◌, Bool, true, false, cond, not, nat_lt, if◌then◌else◌, List, [], ◌∷◌, map, length, Option, Some, None, slice_get, refl, ap, sym, ◌∙◌, arith}
use Rattle.std.proofs.lemmas.List.{length-map}
use Rattle.std.proofs.lemmas.List.Folds.{find_at}
use Rattle.std.specs.Cmp.Lexicographic.{nat_list_eq_equiv}
use Rattle.std.specs.List.{find, position as position_of, position_or_len, prefix_len}
use Rattle.std.proofs.lemmas.Option.{slice_get_past}
use Rattle.std.proofs.lemmas.Bool.Decides.{nat_tests}
use Rattle.std.specs.Str.{bytes_eq}
use Rattle.mir_ty.specs.ItemTable.{ItemTable}
use Rattle.mir_ty.specs.declared.def.Sig.{Sig}
use Rattle.mir_ty.specs.declared.def.TraitDef.{TraitDef}
use Rattle.src_ast.specs.Syntax.{Word}
use Rattle.typeck_checker.specs.Tables.{AreTablesOf, method_words}
use Rattle.typeck_checker.specs.declared.tables.Tables.{Tables}
use Rattle.typing_rules.specs.Scope.{trait_named}

prefix_mapped : {X Y : Type 0} (p : Y → Bool) (f : X → Y) (xs : List X) → prefix_len p (map f xs) ≡ prefix_len (λ x. p (f x)) xs
prefix_mapped p f [] = refl
prefix_mapped p f (x ∷ xs) = ap (λ n. if p (f x) then 1 + n else 0) (prefix_mapped p f xs)

position_mapped : {X Y : Type 0} (p : Y → Bool) (f : X → Y) (xs : List X) → position_of p (map f xs) ≡ position_of (λ x. p (f x)) xs
position_mapped p f xs = λ i. cond (nat_lt (prefix_mapped (λ y. not (p y)) f xs i) (length-map xs f i)) (Some (prefix_mapped (λ y. not (p y)) f xs i)) None

pub trait_found : (items : ItemTable) (t : Tables) (name : Word) → AreTablesOf items t → position_of (bytes_eq name) t.trait_names ≡ trait_named items name
trait_found items t name ready =
    ap (position_of (bytes_eq name)) ready.traits ∙ position_mapped (bytes_eq name) (λ (def : TraitDef). def.name) items.traits
    ∙ (λ i. position_of (λ (def : TraitDef). nat_list_eq_equiv.symm name def.name i) items.traits)

-- the place of a method's name is that of the first method of this name
method_place : (names : List Word) (def : TraitDef) (name : Word) → names ≡ method_words def →
    position_of (bytes_eq name) names ≡ position_of (λ (m : Sig). bytes_eq m.name name) def.methods
method_place names def name is =
    ap (position_of (bytes_eq name)) is ∙ position_mapped (bytes_eq name) (λ (m : Sig). m.name) def.methods
    ∙ (λ i. position_of (λ (m : Sig). nat_list_eq_equiv.symm name m.name i) def.methods)

chosen : (b : Bool) (k n : ℕ) → cond b (Some k) None ≡ Some n → k ≡ n
chosen true k n at = ap (λ (o : Option ℕ). elim o as (λ _. ℕ) [ None ↦ k | Some x ↦ x ]) at
chosen false k n at = absurd (cc)

not_chosen : (b : Bool) (k : ℕ) → ◌≡◌ {A = Option ℕ} (cond b (Some k) None) None → b ≡ false
not_chosen true k none = absurd (cc)
not_chosen false k none = refl

not_below : (k n : ℕ) → nat_lt k n ≡ false → n ≤ k
not_below k n h = grind (arith, nat_tests, h)

first_at : {X : Type 0} (p : X → Bool) (xs : List X) (n : ℕ) → position_of p xs ≡ Some n → find p xs ≡ slice_get xs n
first_at p xs n at =
    find_at p xs ∙ ap (slice_get xs) (chosen (nat_lt (position_or_len p xs) (length xs)) (position_or_len p xs) n at)

none_at : {X : Type 0} (p : X → Bool) (xs : List X) → position_of p xs ≡ None → find p xs ≡ None
none_at p xs none =
    find_at p xs
    ∙ slice_get_past xs (position_or_len p xs)
    (not_below (position_or_len p xs) (length xs) (not_chosen (nat_lt (position_or_len p xs) (length xs)) (position_or_len p xs) none))

pub method_found : (names : List Word) (def : TraitDef) (name : Word) (n : ℕ) → names ≡ method_words def → position_of (bytes_eq name) names ≡ Some n →
    find (λ (m : Sig). bytes_eq m.name name) def.methods ≡ slice_get def.methods n
method_found names def name n is at = first_at (λ (m : Sig). bytes_eq m.name name) def.methods n (sym (method_place names def name is) ∙ at)

pub no_method : (names : List Word) (def : TraitDef) (name : Word) → names ≡ method_words def → position_of (bytes_eq name) names ≡ None →
    find (λ (m : Sig). bytes_eq m.name name) def.methods ≡ None
no_method names def name is none = none_at (λ (m : Sig). bytes_eq m.name name) def.methods (sym (method_place names def name is) ∙ none)
