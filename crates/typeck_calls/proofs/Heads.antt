-- Methods by their names.
use Rattle.std.proofs.Common.{◌≡◌, ℕ, ◌+◌, Bool, true, false, cond, not, nat_lt, if◌then◌else◌, List, [], ◌∷◌, map, Option, Some, None, IsSome, slice_get, refl, ap, sym, ◌∙◌}
use Rattle.std.specs.List.{position as position_of, prefix_len}
use Rattle.std.specs.Option.{is_some, option_map, option_and_then}
use Rattle.std.specs.Str.{bytes_eq}
use Rattle.std.specs.Cmp.Lexicographic.{nat_list_eq_equiv}
use Rattle.std.proofs.lemmas.List.{length-map}
use Rattle.std.proofs.lemmas.Option.{slice_get-map}
use Rattle.mir_ty.specs.ItemTable.{ItemTable}
use Rattle.mir_ty.specs.declared.def.Sig.{Sig}
use Rattle.mir_ty.specs.declared.def.TraitDef.{TraitDef}
use Rattle.src_ast.specs.Syntax.{Word}
use Rattle.typeck_checker.specs.Tables.{AreTablesOf, method_words}
use Rattle.typeck_checker.specs.declared.tables.Tables.{Tables}
use Rattle.typing_rules.specs.Named.{trait_method}
use Rattle.typing_rules.specs.Scope.{Env}
use Rattle.typing_rules.specs.Rows as rows
use Rattle.mir_ty.specs.DropBodies.{is_drop_body}
use Rattle.typeck_calls.specs.Methods.{IsMethod, is_drop_of, method_seen}
use Rattle.typeck_calls.specs.declared.methods.Method.{Method}

pub with_head : (items : ItemTable) (m : Method) (head : Sig) → Some head ≡ option_map rows.head_of (method_seen items m) → IsMethod items (Some m) (method_seen items m)
with_head items m head e = (some (method_seen items m) e, refl)
  where
    some : (o : Option rows.Method) → Some head ≡ option_map rows.head_of o → IsSome o
    some None e = absurd (cc)
    some (Some f) e = refl

pub without_head : (items : ItemTable) (m : Method) → None ≡ option_map rows.head_of (method_seen items m) → IsMethod items None (method_seen items m)
without_head items m e = none (method_seen items m) e
  where
    none : (o : Option rows.Method) → None ≡ option_map rows.head_of o → o ≡ None
    none None e = refl
    none (Some f) e = absurd (cc)

pub drop_seen : (items : ItemTable) (m : Method) (found : rows.Method) → method_seen items m ≡ Some found → is_drop_of items m ≡ rows.is_drop_method found
drop_seen items (Method.OfAdt body) found e = by (slice_get items.bodies body) e
  where
    by : (head : Option Sig) → option_map (rows.OfAdt body (is_drop_body items body)) head ≡ Some found → is_drop_body items body ≡ rows.is_drop_method found
    by None h = absurd (cc)
    by (Some head) h = let is : rows.OfAdt body (is_drop_body items body) head ≡ found = cc in ap rows.is_drop_method is
drop_seen items (Method.OfTrait trait_no k) found e = by (slice_get items.traits trait_no) e
  where
    of_head : (head : Option Sig) → option_map (rows.OfTrait trait_no k) head ≡ Some found → false ≡ rows.is_drop_method found
    of_head None h = absurd (cc)
    of_head (Some head) h = let is : rows.OfTrait trait_no k head ≡ found = cc in ap rows.is_drop_method is

    by : (def : Option TraitDef) → option_and_then (λ (def : TraitDef). option_map (rows.OfTrait trait_no k) (slice_get def.methods k)) def ≡ Some found → false ≡ rows.is_drop_method found
    by None h = absurd (cc)
    by (Some def) h = of_head (slice_get def.methods k) h

-- ---- whether a method has `self`

pub body_self : (items : ItemTable) (env : Env) (body : ℕ) (sig : Sig) (found : rows.Method) → Some sig ≡ slice_get items.bodies body →
    method_seen items (Method.OfAdt body) ≡ Some found → is_some (position_of (bytes_eq sig.name) env.methods) ≡ rows.has_self env found
body_self items env body sig found at e =
    let is : Some (rows.OfAdt body (is_drop_body items body) sig) ≡ Some found = ap (option_map (rows.OfAdt body (is_drop_body items body))) at ∙ e in
    let same : rows.OfAdt body (is_drop_body items body) sig ≡ found = cc in
    ap (rows.has_self env) same

pub no_body_self : (items : ItemTable) (env : Env) (body : ℕ) (found : rows.Method) → None ≡ slice_get items.bodies body →
    method_seen items (Method.OfAdt body) ≡ Some found → false ≡ rows.has_self env found
no_body_self items env body found at e =
    let is : None ≡ Some found = ap (option_map (rows.OfAdt body (is_drop_body items body))) at ∙ e in
    absurd (cc)

pub trait_self : (items : ItemTable) (env : Env) (trait_no k : ℕ) (found : rows.Method) → method_seen items (Method.OfTrait trait_no k) ≡ Some found →
    true ≡ rows.has_self env found
trait_self items env trait_no k found e = by (slice_get items.traits trait_no) e
  where
    of_head : (head : Option Sig) → option_map (rows.OfTrait trait_no k) head ≡ Some found → true ≡ rows.has_self env found
    of_head None h = absurd (cc)
    of_head (Some head) h = let is : rows.OfTrait trait_no k head ≡ found = cc in ap (rows.has_self env) is

    by : (def : Option TraitDef) → option_and_then (λ (def : TraitDef). option_map (rows.OfTrait trait_no k) (slice_get def.methods k)) def ≡ Some found → true ≡ rows.has_self env found
    by None h = absurd (cc)
    by (Some def) h = of_head (slice_get def.methods k) h

pub no_method : (items : ItemTable) (m : Option Method) (r : Option rows.Method) (b : Bool) → IsMethod items m r → b ≡ is_some m → b ≡ false → r ≡ None
no_method items None r b e is f = e
no_method items (Some m) r b e is f = absurd (cc)

-- ---- methods of a trait

prefix_mapped : {X Y : Type 0} (p : Y → Bool) (f : X → Y) (xs : List X) → prefix_len p (map f xs) ≡ prefix_len (λ x. p (f x)) xs
prefix_mapped p f [] = refl
prefix_mapped p f (x ∷ xs) = ap (λ n. if p (f x) then 1 + n else 0) (prefix_mapped p f xs)

position_mapped : {X Y : Type 0} (p : Y → Bool) (f : X → Y) (xs : List X) → position_of p (map f xs) ≡ position_of (λ x. p (f x)) xs
position_mapped p f xs = λ i. cond (nat_lt (prefix_mapped (λ y. not (p y)) f xs i) (length-map xs f i)) (Some (prefix_mapped (λ y. not (p y)) f xs i)) None

module _ (items : ItemTable) (t : Tables) (trait_no : ℕ) (name : Word) (ready : AreTablesOf items t) where
  words_at : slice_get t.methods trait_no ≡ option_map method_words (slice_get items.traits trait_no)
  words_at = ap (λ (ns : List (List Word)). slice_get ns trait_no) ready.methods ∙ slice_get-map method_words items.traits trait_no

  number_in : (def : TraitDef) → position_of (bytes_eq name) (method_words def) ≡ position_of (λ (m : Sig). bytes_eq m.name name) def.methods
  number_in def =
      position_mapped (bytes_eq name) (λ (sig : Sig). sig.name) def.methods
      ∙ (λ i. position_of (λ (sig : Sig). nat_list_eq_equiv.symm name sig.name i) def.methods)

  some_in : (d : Option TraitDef) (names : List Word) (k : ℕ) → Some names ≡ option_map method_words d → Some k ≡ position_of (bytes_eq name) names →
      option_and_then (λ def. option_map (rows.OfTrait trait_no k) (slice_get def.methods k)) d ≡ trait_method trait_no name d
  some_in None names k e f = absurd (cc)
  some_in (Some def) names k e f =
      let is : names ≡ method_words def = cc in
      ap (option_and_then (λ k. option_map (rows.OfTrait trait_no k) (slice_get def.methods k)))
      (f ∙ ap (position_of (bytes_eq name)) is ∙ number_in def)

  none_in : (d : Option TraitDef) (names : List Word) → Some names ≡ option_map method_words d → None ≡ position_of (bytes_eq name) names → trait_method trait_no name d ≡ None
  none_in None names e f = refl
  none_in (Some def) names e f =
      let is : names ≡ method_words def = cc in
      sym (ap (option_and_then (λ k. option_map (rows.OfTrait trait_no k) (slice_get def.methods k)))
      (f ∙ ap (position_of (bytes_eq name)) is ∙ number_in def))

  nothing_in : (d : Option TraitDef) → None ≡ option_map method_words d → trait_method trait_no name d ≡ None
  nothing_in None e = refl
  nothing_in (Some def) e = absurd (cc)

  pub trait_some : (names : List Word) (k : ℕ) → Some names ≡ slice_get t.methods trait_no → Some k ≡ position_of (bytes_eq name) names →
      method_seen items (Method.OfTrait trait_no k) ≡ trait_method trait_no name (slice_get items.traits trait_no)
  trait_some names k e f = some_in (slice_get items.traits trait_no) names k (e ∙ words_at) f

  pub trait_none : (names : List Word) → Some names ≡ slice_get t.methods trait_no → None ≡ position_of (bytes_eq name) names → trait_method trait_no name (slice_get items.traits trait_no) ≡ None
  trait_none names e f = none_in (slice_get items.traits trait_no) names (e ∙ words_at) f

  pub trait_nothing : None ≡ slice_get t.methods trait_no → trait_method trait_no name (slice_get items.traits trait_no) ≡ None
  trait_nothing e = nothing_in (slice_get items.traits trait_no) (e ∙ words_at)
