-- The methods of an accepted text, each with its type: no two are alike.
use Rattle.std.proofs.Common.{◌≡◌, Bool, true, false, ◌&&◌, ◌||◌, not, nat_le, List, [], ◌∷◌, ◌++◌, map, slice_get, Option, Some, Ok, IsTrue, refl, ap, sym, subst, ◌∙◌}
use Rattle.std.specs.Prelude.{option_and_then}
use Rattle.std.specs.Str.{bytes_eq}
use Rattle.std.proofs.lemmas.Bool.{false≢true, and_from}
use Rattle.std.proofs.lemmas.List.{map-append}
use Rattle.std.proofs.lemmas.Slice.Eq.{bytes_eq-Decides}
use Rattle.mir_base.specs.declared.rule.Rule.{Rule}
use Rattle.typing_rules.specs.Check.{TypingState}
use Rattle.typing_rules.specs.Items.{full_name}
use Rattle.typing_rules.specs.Program as checks
use Rattle.typing_rules.specs.Scope.{Env, adt_named, body_named}
use Rattle.src_ast.specs.Syntax.{Word, Named, Syn, syn, AnItem, StructItem, EnumItem, TraitItem, ImplItem, FnItem, list_of}
use Rattle.typing_soundness.specs.Walks.{Walked}
use Rattle.typing_soundness.proofs.Items.Distinct.{Apart, Differ, has, same_method}
use Rattle.typing_soundness.proofs.Items.Ready.{All}
use Rattle.typing_soundness.proofs.Walking.Lawful.{whatever}
use Rattle.typing_soundness.proofs.Walking.Steps.{walk, walk_map, walk_obeyed, walk_ends}

-- ---- methods of impls, each with its type

abbrev pub Pair : Type 0
Pair = Word × Word

abbrev pub pairs_of : Word → List Syn → List Pair
pairs_of owner [] = []
pairs_of owner (syn at (AnItem (FnItem name params answer block)) ∷ ms) = (owner, name.1) ∷ pairs_of owner ms
pairs_of owner (syn at _ ∷ ms) = pairs_of owner ms

abbrev pub pairs_in : Syn → List Pair
pairs_in (syn at (AnItem (ImplItem trait_ name methods))) = pairs_of name.1 (list_of methods)
pairs_in _ = []

abbrev pub all_pairs : List Syn → List Pair
all_pairs [] = []
all_pairs (i ∷ is) = pairs_in i ++ all_pairs is

abbrev pub pair_name : Pair → Word
pair_name p = full_name (Some p.0) p.1

-- ---- what the rule on methods asks

abbrev PairsKept : checks.Seen → List Pair → Type 0
PairsKept seen [] = Unit {0}
PairsKept seen (p ∷ ps) = IsTrue (not (checks.is_seen p.0 p.1 seen)) × PairsKept (p ∷ seen) ps

abbrev behind : List Pair → checks.Seen → checks.Seen
behind [] seen = seen
behind (p ∷ ps) seen = behind ps (p ∷ seen)

abbrev IsKept : checks.Seen → List Pair → checks.Seen → Type 0
IsKept seen ps next = PairsKept seen ps × (behind ps seen ≡ next)

heads_kept : (env : Env) (trait_ : Option Named) (owner : Word) (seen : checks.Seen) (ms : List Syn) (s : TypingState) → Walked (λ next
    t. IsKept seen (pairs_of owner ms) next) (checks.method_heads env trait_ owner seen ms s)
heads_kept env trait_ owner seen [] s = walk_ends (tt, refl)
heads_kept env trait_ owner seen (syn at (AnItem (FnItem name params answer block)) ∷ ms) s =
    walk (whatever {P = Unit {0}} (checks.head_rules env params answer s) tt) λ _ t _. walk_obeyed Rule.T02 name.0 (not
    (checks.is_seen owner name.1 seen)) _ λ h. walk_obeyed Rule.T11 at (checks.has_head t.items trait_ owner name.1 params) _ λ
    _. walk_map (heads_kept env trait_ owner ((owner, name.1) ∷ seen) ms t) λ next u k. ((h, k.0), k.1)
heads_kept env trait_ owner seen (syn at _ ∷ ms) s = record { so = tt }

item_kept : (env : Env) (before : checks.Before) (i : Syn) (s : TypingState) → Walked (λ next t. IsKept before.methods (pairs_in i)
    next.methods) (checks.item_rules env before i s)
item_kept env before (syn at (AnItem (StructItem ds name kind fs))) s =
    walk (whatever {P = Unit {0}} (checks.fields (checks.in_impl env (adt_named s.items name.1)) [] (list_of fs) s) tt) λ _ t
    _. walk_obeyed Rule.T19 at (nat_le (checks.count_of fs) 32) _ λ _. walk_ends (tt, refl)
item_kept env before (syn at (AnItem (EnumItem ds name vs))) s =
    walk (whatever {P = Unit {0}} (checks.variants (checks.in_impl env (adt_named s.items name.1)) [] (list_of vs) s) tt) λ _
    t _. walk_obeyed Rule.T19 at (nat_le (checks.count_of vs) 64) _ λ _. walk_ends (tt, refl)
item_kept env before (syn at (AnItem (TraitItem name heads))) s =
    walk (whatever {P = Unit {0}} (checks.trait_heads env [] (list_of heads) s) tt) λ _ t _. walk_ends (tt, refl)
item_kept env before (syn at (AnItem (ImplItem trait_ name methods))) s =
    walk (heads_kept (checks.in_impl env (adt_named s.items name.1)) trait_ name.1 before.methods (list_of methods) s) λ seen t
    h. walk_obeyed Rule.T11 at (not (checks.is_repeated trait_ name.1 before.impls) && checks.has_all (checks.asked_for s.items
    trait_) (checks.method_names methods)) _ λ _. walk_ends h
item_kept env before (syn at (AnItem (FnItem name params answer block))) s =
    walk (whatever {P = Unit {0}} (checks.head_rules env params answer s) tt) λ _ t _. walk {f = λ _ u. Ok (before, u)}
    (whatever {P = Unit {0}} (checks.main_rule at name.1 params t.items (option_and_then (slice_get t.items.bodies)
    (body_named t.items name.1)) t) tt) λ _ u _. walk_ends (tt, refl)
item_kept env before (syn at _) s = record { so = tt }

abbrev pub ItemsKept : checks.Seen → List Syn → Type 0
ItemsKept seen [] = Unit {0}
ItemsKept seen (i ∷ is) = PairsKept seen (pairs_in i) × ItemsKept (behind (pairs_in i) seen) is

pub items_kept : (env : Env) (before : checks.Before) (is : List Syn) (s : TypingState) → Walked (λ a t. ItemsKept before.methods is)
    (checks.all_items env before is s)
items_kept env before [] s = walk_ends tt
items_kept env before (i ∷ is) s =
    walk (item_kept env before i s) λ next t h. walk (whatever {P = Unit {0}} (checks.bodies_of env i t) tt) λ _ u _.
    walk_map (items_kept env next is u) λ a v g. (h.0, subst (λ seen. ItemsKept seen is) (sym h.1) g)

kept_joined : (seen : checks.Seen) (ps qs : List Pair) → PairsKept seen ps → PairsKept (behind ps seen) qs → PairsKept seen (ps
    ++ qs)
kept_joined seen [] qs h k = k
kept_joined seen (p ∷ ps) qs h k = (h.0, kept_joined (p ∷ seen) ps qs h.1 k)

all_kept : (seen : checks.Seen) (is : List Syn) → ItemsKept seen is → PairsKept seen (all_pairs is)
all_kept seen [] h = tt
all_kept seen (i ∷ is) h =
    kept_joined seen (pairs_in i) (all_pairs is) h.0 (all_kept (behind (pairs_in i) seen) is h.1)

-- ---- names that differ

abbrev NoColon : Pair → Type 0
NoColon p = has 58 p.0 ≡ false

either : (a b : Bool) → b ≡ true → (a || b) ≡ true
either true b h = refl
either false b h = h

same_seen : (p q : Pair) (seen : checks.Seen) → (p.0 ≡ q.0) × (p.1 ≡ q.1) → checks.is_seen p.0 p.1 seen ≡ true → IsTrue (not
    (checks.is_seen q.0 q.1 seen)) → ⊥
same_seen p q seen e h none =
    false≢true (ap not (sym (sym (λ i. checks.is_seen (e.0 i) (e.1 i) seen) ∙ h)) ∙ none)

seen_apart : (p : Pair) (seen : checks.Seen) (ps : List Pair) → NoColon p → All NoColon ps → checks.is_seen p.0 p.1 seen ≡ true →
    PairsKept seen ps → Apart (pair_name p) (map pair_name ps)
seen_apart p seen [] n ns h kept = tt
seen_apart p seen (q ∷ ps) n ns h kept = (
  λ e. same_seen p q seen (same_method p.0 q.0 p.1 q.1 n ns.0 e) h kept.0,
  seen_apart p (q ∷ seen) ps n ns.1 (either (bytes_eq q.0 p.0 && bytes_eq q.1 p.1) (checks.is_seen p.0 p.1 seen) h) kept.1,
)

self_seen : (p : Pair) (seen : checks.Seen) → checks.is_seen p.0 p.1 (p ∷ seen) ≡ true
self_seen p seen =
    ap (λ b. b || checks.is_seen p.0 p.1 seen) (and_from (bytes_eq p.0 p.0) _ ((bytes_eq-Decides p.0 p.0).1 refl)
    ((bytes_eq-Decides p.1 p.1).1 refl))

pairs_differ : (seen : checks.Seen) (ps : List Pair) → All NoColon ps → PairsKept seen ps → Differ (map pair_name ps)
pairs_differ seen [] ns kept = tt
pairs_differ seen (p ∷ ps) ns kept =
    (seen_apart p (p ∷ seen) ps ns.0 ns.1 (self_seen p seen) kept.1, pairs_differ (p ∷ seen) ps ns.1 kept.1)

-- the names of all methods
abbrev pub all_methods : List Syn → List Word
all_methods [] = []
all_methods (i ∷ is) = map pair_name (pairs_in i) ++ all_methods is

methods_are : (is : List Syn) → map pair_name (all_pairs is) ≡ all_methods is
methods_are [] = refl
methods_are (i ∷ is) =
    map-append pair_name (pairs_in i) (all_pairs is) ∙ ap (λ ws. map pair_name (pairs_in i) ++ ws) (methods_are is)

pub methods_differ : (is : List Syn) → All NoColon (all_pairs is) → ItemsKept [] is → Differ (all_methods is)
methods_differ is ns kept =
    subst Differ (methods_are is) (pairs_differ [] (all_pairs is) ns (all_kept [] is kept))
