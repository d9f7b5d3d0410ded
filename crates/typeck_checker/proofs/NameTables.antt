-- Tables of names over items find what the rules look up in lists.
use Rattle.std.proofs.Common.{◌≡◌, rules, ℕ, ◌+◌, Bool, cond, not, nat_lt, if◌then◌else◌, List, [], ◌∷◌, map, Some, None, slice_get, refl, ap, ◌∙◌, sym}
use Rattle.std.specs.List.{position as position_of, prefix_len}
use Rattle.std.specs.Option.{option_map}
use Rattle.std.specs.Str.{bytes_eq}
use Rattle.std.proofs.lemmas.List.{length-map}
use Rattle.std.proofs.lemmas.Option.{slice_get-map}
use Rattle.std.specs.Cmp.Lexicographic.{nat_list_eq_equiv}
use Rattle.mir_ty.specs.declared.adt.Adt.{Adt}
use Rattle.mir_ty.specs.declared.def.Sig.{Sig}
use Rattle.mir_ty.specs.ItemTable.{ItemTable}
use Rattle.src_ast.specs.ItemForms.{kind_seen}
use Rattle.src_ast.specs.Syntax.{Word, FieldsKind, Unit_}
use Rattle.src_ast.specs.declared.item.FieldKind.{FieldKind}
use Rattle.typeck_checker.specs.Stand.{env_in}
use Rattle.typeck_checker.specs.Tables.{AreTablesOf, all_kinds_of}
use Rattle.typeck_checker.specs.declared.body_scope.BodyScope.{BodyScope}
use Rattle.typeck_checker.specs.declared.tables.Tables.{Tables}
use Rattle.typing_rules.specs.Scope.{adt_named, body_named, kind_at}

prefix_mapped : {X Y : Type 0} (p : Y → Bool) (f : X → Y) (xs : List X) → prefix_len p (map f xs) ≡ prefix_len (λ x. p (f x)) xs
prefix_mapped p f [] = refl
prefix_mapped p f (x ∷ xs) = ap (λ n. if p (f x) then 1 + n else 0) (prefix_mapped p f xs)

position_mapped : {X Y : Type 0} (p : Y → Bool) (f : X → Y) (xs : List X) → position_of p (map f xs) ≡ position_of (λ x. p (f x)) xs
position_mapped p f xs = λ i. cond (nat_lt (prefix_mapped (λ y. not (p y)) f xs i) (length-map xs f i)) (Some (prefix_mapped (λ y. not (p y)) f xs i)) None

pub adt_found : (items : ItemTable) (t : Tables) (name : Word) → AreTablesOf items t → position_of (bytes_eq name) t.adt_names ≡ adt_named items name
adt_found items t name ready =
    ap (position_of (bytes_eq name)) ready.adts ∙ position_mapped (bytes_eq name) (λ (adt : Adt). adt.name) items.adts
    ∙ (λ i. position_of (λ (adt : Adt). nat_list_eq_equiv.symm name adt.name i) items.adts)

pub body_found : (items : ItemTable) (t : Tables) (name : Word) → AreTablesOf items t → position_of (bytes_eq name) t.body_names ≡ body_named items name
body_found items t name ready =
    ap (position_of (bytes_eq name)) ready.bodies ∙ position_mapped (bytes_eq name) (λ (sig : Sig). sig.name) items.bodies
    ∙ (λ i. position_of (λ (sig : Sig). nat_list_eq_equiv.symm name sig.name i) items.bodies)

pub self_is : (t : Tables) (s : BodyScope) → (env_in t s).self_adt ≡ s.self_adt
unfolding env_in
self_is t s = refl

pub methods_are : (t : Tables) (s : BodyScope) → (env_in t s).methods ≡ t.self_methods
unfolding env_in
methods_are t s = refl

kinds_are : (t : Tables) (s : BodyScope) → (env_in t s).kinds ≡ all_kinds_of t.kinds
unfolding env_in
kinds_are t s = refl

at_some : (kinds : List (List FieldsKind)) (adt k : ℕ) (ks : List FieldsKind) (kind : FieldsKind) → slice_get kinds adt ≡ Some ks → slice_get ks k ≡ Some kind → kind_at kinds adt k ≡ kind
at_some kinds adt k ks kind e f = search (rules, e, f)

at_none : (kinds : List (List FieldsKind)) (adt k : ℕ) (ks : List FieldsKind) → slice_get kinds adt ≡ Some ks → slice_get ks k ≡ None → kind_at kinds adt k ≡ Unit_
at_none kinds adt k ks e f = search (rules, e, f)

at_nothing : (kinds : List (List FieldsKind)) (adt k : ℕ) → slice_get kinds adt ≡ None → kind_at kinds adt k ≡ Unit_
at_nothing kinds adt k e = search (rules, e)

row_at : (t : Tables) (s : BodyScope) (adt : ℕ) → slice_get (env_in t s).kinds adt ≡ option_map (map kind_seen) (slice_get t.kinds adt)
row_at t s adt = ap (λ ks. slice_get ks adt) (kinds_are t s) ∙ slice_get-map (map kind_seen) t.kinds adt

pub kind_some : (t : Tables) (s : BodyScope) (adt k : ℕ) (ks : List FieldKind) (kind : FieldKind) → Some ks ≡ slice_get t.kinds adt → Some kind ≡ slice_get ks k →
    kind_seen kind ≡ kind_at (env_in t s).kinds adt k
kind_some t s adt k ks kind e f =
    sym (at_some (env_in t s).kinds adt k (map kind_seen ks) (kind_seen kind) (row_at t s adt ∙ ap (option_map (map kind_seen)) (sym e)) (slice_get-map kind_seen ks k ∙ ap (option_map kind_seen) (sym f)))

pub kind_none : (t : Tables) (s : BodyScope) (adt k : ℕ) (ks : List FieldKind) → Some ks ≡ slice_get t.kinds adt → None ≡ slice_get ks k →
    Unit_ ≡ kind_at (env_in t s).kinds adt k
kind_none t s adt k ks e f =
    sym (at_none (env_in t s).kinds adt k (map kind_seen ks) (row_at t s adt ∙ ap (option_map (map kind_seen)) (sym e)) (slice_get-map kind_seen ks k ∙ ap (option_map kind_seen) (sym f)))

pub kind_nothing : (t : Tables) (s : BodyScope) (adt k : ℕ) → None ≡ slice_get t.kinds adt → Unit_ ≡ kind_at (env_in t s).kinds adt k
kind_nothing t s adt k e =
    sym (at_nothing (env_in t s).kinds adt k (row_at t s adt ∙ ap (option_map (map kind_seen)) (sym e)))
