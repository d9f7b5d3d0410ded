-- What the law of traits says: each line of a trait that may stand is found by its reader, and nothing but a line in
-- front.
use Rattle.std.specs.Prelude.{◌≡◌, ℕ, ◌<◌, Bool, true, List, [], ◌∷◌, ◌++◌, ⊤, map, length, codes, Some}
use Rattle.std.specs.Str.{is_utf8}
use Rattle.mir_ty.specs.ItemTable.{ItemTable}
use Rattle.cfg_graph.specs.WellFormed.NameFaults.{is_name}
use Rattle.listing_write.specs.Compared.{SigSeen}
use Rattle.listing_write.specs.Lines.{Tree, tree_text, line_text, TraitLine}
use Rattle.listing_write.specs.Lists.{in_braces, in_parentheses, line}
use Rattle.listing_write.specs.Types.{trait_name}
use Rattle.listing_parts.specs.TypesFound.{Stands, EachStands}
use Rattle.listing_lines.specs.TraitReading.{self_text, trait_read}

-- parameters of which the first is a reference to `dyn` of the trait of this name
abbrev pub ParamsStand : ItemTable → List ℕ → List Tree → Type 0
ParamsStand heads name [] = ⊥
ParamsStand heads name (first ∷ others) =
    ((unique : Bool) × (tree_text first ≡ self_text unique name)) × EachStands heads others

-- a method with a name in UTF-8
pub record MethodStands (heads : ItemTable) (name : List ℕ) (method : List ℕ × List Tree × Tree) : Type 0 where
  pub named : is_name method.0 ≡ true
  pub utf8 : is_utf8 method.0 ≡ true
  pub params : ParamsStand heads name method.1
  pub answer : Stands heads method.2

abbrev pub MethodsStand : ItemTable → List ℕ → List (List ℕ × List Tree × Tree) → Type 0
MethodsStand heads name [] = ⊤
MethodsStand heads name (method ∷ methods) = MethodStands heads name method × MethodsStand heads name methods

-- what is found of a method
abbrev pub found_method : List ℕ × List Tree × Tree → SigSeen
found_method method = (method.0, map tree_text method.1, tree_text method.2)

abbrev pub TraitsAreRead : Type 0
TraitsAreRead =
    (heads : ItemTable) (n : ℕ) (methods : List (List ℕ × List Tree × Tree)) (behind : List ℕ) →
    n < length heads.traits → is_name (trait_name heads n) ≡ true → is_utf8 (trait_name heads n) ≡ true →
    MethodsStand heads (trait_name heads n) methods →
    trait_read heads n (line (line_text (TraitLine (trait_name heads n) methods)) ++ behind)
    ≡ Some ((trait_name heads n, map found_method methods), behind)

-- a method that was found, as it is written
abbrev pub written_method : SigSeen → List ℕ
written_method method = method.0 ++ codes " " ++ in_parentheses method.1 ++ codes " " ++ method.2

abbrev pub TraitsAreSound : Type 0
TraitsAreSound =
    (heads : ItemTable) (n : ℕ) (text name : List ℕ) (methods : List SigSeen) (behind : List ℕ) →
    trait_read heads n text ≡ Some ((name, methods), behind) →
    (text ≡ line (codes "trait " ++ name ++ codes " " ++ in_braces (map written_method methods)) ++ behind)
    × (name ≡ trait_name heads n)
