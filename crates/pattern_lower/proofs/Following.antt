-- Tests and alternatives as lists.
use Rattle.std.proofs.Common.{◌≡◌, ◌∙◌, ◌∷◌, ◌++◌, ◌+◌, ◌<◌, ℕ, ℤ, Bool, List, [], map, drop, length, refl, sym, ap, rules, append_assoc}
use Rattle.std.proofs.lemmas.List.{at_drop_more, map_push}
use Rattle.std.specs.Prelude.{get_or}
use Rattle.src_meaning.specs.Shape.{PatternTests, no_test, a_test, followed_by, Alternatives, no_alternative, an_alternative}
use Rattle.pattern_lower.specs.Seen.{tests_from, alternatives_from, tests_in, test_of, listed, listed_alternatives}
use Rattle.pattern_lower.specs.declared.found.Test.{Test, Variant, Equal, Truth, Any, the_lemmas}
use Rattle.src_meaning.specs.Shape.{IsVariant, IsNumber, IsTruth, AnyOf}
use Rattle.mir_base.specs.declared.place_in_text.NodeId.{NodeId}
use Rattle.mir_base.specs.declared.int_kind.IntKind.{IntKind}
use Rattle.cfg_graph.specs.declared.place.Place.{Place}
use Rattle.cfg_graph.specs.Places.{named}

pub listed_behind : (one two : PatternTests) → listed (followed_by one two) ≡ listed one ++ listed two
listed_behind no_test two = refl
listed_behind (a_test first rest) two = ap (λ tests. first ∷ tests) (listed_behind rest two)

pub from_listed : (tests : PatternTests) → tests_from (listed tests) ≡ tests
from_listed no_test = refl
from_listed (a_test first rest) = ap (a_test first) (from_listed rest)

pub from_listed_alternatives : (tests : Alternatives) → alternatives_from (listed_alternatives tests) ≡ tests
from_listed_alternatives no_alternative = refl
from_listed_alternatives (an_alternative first rest) = ap (an_alternative first) (from_listed_alternatives rest)

-- what is found of one more member of a list is put behind what was found before
pub one_more : {X Y : Type 0} (F F' : List X → List Y) (part : X → List Y) (xs : List X) (i : ℕ) (d : X) (before new all : List Y) → ((x : X) (rest : List X) → F (x ∷ rest) ≡ part x ++ F' rest) → i < length xs → d ≡ get_or xs i d → new ≡ before ++ part d → before ++ F (drop i xs) ≡ all → new ++ F' (drop (i + 1) xs) ≡ all
one_more F F' part xs i d before new all cons less is is_new so_far =
    ap (λ (l : List _). l ++ F' (drop (i + 1) xs)) is_new
    ∙ append_assoc before (part d) (F' (drop (i + 1) xs))
    ∙ ap (λ (l : List _). before ++ l) (sym (at_drop_more F xs i d less ∙ cons (get_or xs i d) (drop (i + 1) xs) ∙ ap (λ x. part x ++ F' (drop (i + 1) xs)) (sym is)))
    ∙ so_far

-- what is put behind others says all that is asked, and no more
pub one_pushed : {X Y : Type 0} (f : X → Y) (before new : List X) (x : X) (all : List Y) → all ≡ f x ∷ [] → new ≡ before ++ x ∷ [] → map f new ≡ map f before ++ all
one_pushed f before new x all is pushed = ap (map f) pushed ∙ map_push f before x ∙ ap (λ added. map f before ++ added) (sym is)

pub one_pushed_for : {I X Y : Type 0} (f : X → Y) (before new : List X) (x : X) (all : I → List Y) → ((i : I) → all i ≡ f x ∷ []) → new ≡ before ++ x ∷ [] → (i : I) → map f new ≡ map f before ++ all i
one_pushed_for f before new x all is pushed i = one_pushed f before new x (all i) (is i) pushed

pub behind_pushed : {X Y : Type 0} (f : X → Y) (before pushed new : List X) (x : X) (rest all : List Y) → all ≡ f x ∷ rest → pushed ≡ before ++ x ∷ [] → map f new ≡ map f pushed ++ rest → map f new ≡ map f before ++ all
behind_pushed f before pushed new x rest all is put behind =
    behind
    ∙ ap (λ l. map f l ++ rest) put
    ∙ ap (λ l. l ++ rest) (map_push f before x)
    ∙ append_assoc (map f before) (f x ∷ []) rest
    ∙ ap (λ l. map f before ++ l) (sym is)

pub behind_same : {X Y : Type 0} (f : X → Y) (before same new : List X) (rest all : List Y) → all ≡ rest → same ≡ before → map f new ≡ map f same ++ rest → map f new ≡ map f before ++ all
behind_same f before same new rest all is put behind = behind ∙ ap (λ l. map f l ++ rest) put ∙ ap (λ l. map f before ++ l) (sym is)

each_then : {X Y Z : Type 0} (g : Y → Z) (f : X → Y) (xs : List X) → map g (map f xs) ≡ map (λ x. g (f x)) xs
each_then g f [] = refl
each_then g f (x ∷ xs) = ap (λ rest. g (f x) ∷ rest) (each_then g f xs)

pub test_of-Any : (any : List (List Test)) → test_of (Any any) ≡ AnyOf (alternatives_from (map tests_in any))
test_of-Any any =
    let by_parts : test_of (Any any) ≡ AnyOf (alternatives_from (map tests_from (map (map test_of) any))) = search (rules, the_lemmas) in
    by_parts ∙ ap (λ all. AnyOf (alternatives_from all)) (each_then tests_from (map test_of) any)

pub test_of-Truth : (node : NodeId) (at : Place) (value : Bool) → test_of (Truth node at value) ≡ IsTruth (record { node = node.0; place = named at }) value
test_of-Truth node at value = search (rules, the_lemmas)

pub test_of-Equal : (node : NodeId) (at : Place) (value : ℤ) (kind : IntKind) → test_of (Equal node at value kind) ≡ IsNumber (record { node = node.0; place = named at }) value kind
test_of-Equal node at value kind = search (rules, the_lemmas)

pub test_of-Variant : (node : NodeId) (at : Place) (number : ℕ) → test_of (Variant node at number) ≡ IsVariant (record { node = node.0; place = named at }) number
test_of-Variant node at number = search (rules, the_lemmas)
