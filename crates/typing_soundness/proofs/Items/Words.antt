-- Names of items of an accepted text are names of items, and differ.
use Rattle.std.proofs.Common.{◌≡◌, ℕ, suc, ◌+◌, ◌==◌, Bool, true, false, ◌&&◌, ◌||◌, not, nat_eq, nat_lt, List, [], ◌∷◌, ◌++◌, map, Option, Some, None, Result, Ok, Err, IsTrue, refl, ap, sym, subst, ◌∙◌}
use Rattle.std.specs.Prelude.{codes}
use Rattle.std.specs.List.{list_any, list_all, filter_map}
use Rattle.std.specs.Str.{bytes_eq}
use Rattle.std.proofs.lemmas.Bool.{false≢true, and_from, and_parts}
use Rattle.std.proofs.lemmas.List.{append_assoc}
use Rattle.std.proofs.lemmas.List.Folds.{list_any-append, list_all-append}
use Rattle.std.proofs.lemmas.Slice.Eq.{bytes_eq-Decides}
use Rattle.mir_base.specs.declared.place_in_text.Pos.{Pos}
use Rattle.mir_ty.specs.declared.adt.Adt.{Adt}
use Rattle.mir_ty.specs.declared.def.Sig.{Sig}
use Rattle.mir_ty.specs.declared.def.TraitDef.{TraitDef}
use Rattle.mir_ty.specs.ItemTable.{ItemTable}
use Rattle.src_tree.specs.Layout.{Parts}
use Rattle.typed_tree.specs.Tree.{ProgramTree}
use Rattle.well_typed.specs.Claim.{Holds, each}
use Rattle.well_typed.specs.Names.{is_among, are_distinct, built_in, is_word}
use Rattle.typing_rules.specs.Check.{TypingState, Broken}
use Rattle.typing_rules.specs.Collected.{starting_with, item_name, known_of}
use Rattle.typing_rules.specs.Items.{ItemSyn, items_of, item_syns, adt_names, trait_names, closure_name}
use Rattle.typing_rules.specs.Program as checks
use Rattle.typing_rules.specs.Promises.{Extends}
use Rattle.src_ast.specs.Syntax.{Word, Named, number_word, Syn, syn, AnItem, StructItem, EnumItem, TraitItem, ImplItem, FnItem, list_of}
use Rattle.typing_soundness.specs.Items.{is_item_name, item_names, NamesOfItems, NamesDiffer}
use Rattle.typing_soundness.specs.Named.{is_own_name, head_named, item_named}
use Rattle.typing_soundness.specs.Program.{IsAccepted}
use Rattle.typing_soundness.specs.Walks.{Walked}
use Rattle.typing_soundness.proofs.Bodies.Order.{no_ok}
use Rattle.typing_soundness.proofs.Bodies.Program.{bodies_typed}
use Rattle.typing_soundness.proofs.Items.Accepting.{are_collected}
use Rattle.typing_soundness.proofs.Items.Called.{NamesKept, text_names_kept, are_called, all_called, traits_called, all_traits_called}
use Rattle.typing_soundness.proofs.Items.Collected.{all_names}
use Rattle.typing_soundness.proofs.Items.Digits.{all_digits, below}
use Rattle.typing_soundness.proofs.Items.Distinct.{Each, Apart, Differ, each_map, each_both, each_first, each_second, is_not, none_among, distinct, insert, insert_all, differ_first, differ_second, instead, has, marked, unlike, names_of, functions, NoHash, has_hash, apart_names, names_differ}
use Rattle.typing_soundness.proofs.Items.Headed.{heads_of_text, words_collected}
use Rattle.typing_soundness.proofs.Items.Listed.{all_functions, functions_are}
use Rattle.typing_soundness.proofs.Items.Methods.{Pair, pairs_of, all_pairs, pair_name, ItemsKept, items_kept, all_methods, methods_differ}
use Rattle.typing_soundness.proofs.Items.Ready.{All}

-- ---- names that are written

abbrev plain : List Syn → List Word
plain is = map (λ (n : Named). n.1) (filter_map item_name is)

-- so of structs and enums, of traits, and of functions with methods
module _ (P : Word → Type 0) where
  each_adt : (is : List Syn) → Each P (plain is) → Each P (adt_names is)
  each_adt [] h = tt
  each_adt (syn at (AnItem (StructItem ds name kind fields)) ∷ is) h = (h.0, each_adt is h.1)
  each_adt (syn at (AnItem (EnumItem ds name variants)) ∷ is) h = (h.0, each_adt is h.1)
  each_adt (syn at (AnItem (TraitItem name heads)) ∷ is) h = each_adt is h.1
  each_adt (syn at (AnItem (FnItem name params answer block)) ∷ is) h = each_adt is h.1
  each_adt (syn at _ ∷ is) h = each_adt is h

  each_trait : (is : List Syn) → Each P (plain is) → Each P (trait_names is)
  each_trait [] h = tt
  each_trait (syn at (AnItem (StructItem ds name kind fields)) ∷ is) h = each_trait is h.1
  each_trait (syn at (AnItem (EnumItem ds name variants)) ∷ is) h = each_trait is h.1
  each_trait (syn at (AnItem (TraitItem name heads)) ∷ is) h = (h.0, each_trait is h.1)
  each_trait (syn at (AnItem (FnItem name params answer block)) ∷ is) h = each_trait is h.1
  each_trait (syn at _ ∷ is) h = each_trait is h

  each_function : (is : List Syn) → Each P (plain is) → Each P (all_methods is) → Each P (all_functions is)
  each_function [] h k = tt
  each_function (syn at (AnItem (StructItem ds name kind fields)) ∷ is) h k = each_function is h.1 k
  each_function (syn at (AnItem (EnumItem ds name variants)) ∷ is) h k = each_function is h.1 k
  each_function (syn at (AnItem (TraitItem name heads)) ∷ is) h k = each_function is h.1 k
  each_function (syn at (AnItem (FnItem name params answer block)) ∷ is) h k = (h.0, each_function is h.1 k)
  each_function (syn at (AnItem (ImplItem trait_ name methods)) ∷ is) h k =
      let ms = map pair_name (pairs_of name.1 (list_of methods)) in
      each_both P ms (all_functions is) (each_first P ms (all_methods is) k) (each_function is h (each_second P ms (all_methods
      is) k))
  each_function (syn at _ ∷ is) h k = each_function is h k

abbrev HasColon : Word → Type 0
HasColon w = has 58 w ≡ true

abbrev NoColon : Word → Type 0
NoColon w = has 58 w ≡ false

-- a name without a colon, and those of methods
plain_apart : (w : Word) → NoColon w → (ws : List Word) → Each HasColon ws → Apart w ws
plain_apart w n ws h = each_map HasColon (is_not w) (λ v k. unlike 58 w v n k) ws h

method_apart : (w : Word) → HasColon w → (ws : List Word) → Each NoColon ws → Apart w ws
method_apart w n ws h = each_map NoColon (is_not w) (λ v k e. unlike 58 v w k n (sym e)) ws h

each_apart : (vs ws : List Word) → Differ (vs ++ ws) → Each (λ v. Apart v ws) vs
each_apart [] ws d = tt
each_apart (v ∷ vs) ws d = (each_second (is_not v) vs ws d.0, each_apart vs ws d.1)

-- ---- structs, enums, traits, functions and methods

abbrev written : List Syn → List Word
written is = adt_names is ++ trait_names is ++ all_functions is

apart_written : (w : Word) (is : List Syn) → Apart w (plain is) → Apart w (all_methods is) → Apart w (written is)
apart_written w is h k =
    each_both (is_not w) (adt_names is ++ trait_names is) (all_functions is) (each_both (is_not w) (adt_names is) (trait_names
    is) (each_adt (is_not w) is h) (each_trait (is_not w) is h)) (each_function (is_not w) is h k)

written_differ : (is : List Syn) → Differ (plain is) → Differ (all_methods is) → Each NoColon (plain is) → Each HasColon
    (all_methods is) → Differ (written is)
written_differ [] d m n c = tt
written_differ (syn at (AnItem (StructItem ds name kind fields)) ∷ is) d m n c =
    (apart_written name.1 is d.0 (plain_apart name.1 n.0 (all_methods is) c), written_differ is d.1 m n.1 c)
written_differ (syn at (AnItem (EnumItem ds name variants)) ∷ is) d m n c =
    (apart_written name.1 is d.0 (plain_apart name.1 n.0 (all_methods is) c), written_differ is d.1 m n.1 c)
written_differ (syn at (AnItem (TraitItem name heads)) ∷ is) d m n c =
    let assoc = append_assoc (adt_names is) (trait_names is) (all_functions is) in
    subst Differ (sym (append_assoc (adt_names is) (name.1 ∷ trait_names is) (all_functions is))) (insert name.1 (adt_names is)
    (trait_names is ++ all_functions is) (subst Differ assoc (written_differ is d.1 m n.1 c)) (subst (Apart name.1) assoc
    (apart_written name.1 is d.0 (plain_apart name.1 n.0 (all_methods is) c))))
written_differ (syn at (AnItem (FnItem name params answer block)) ∷ is) d m n c =
    insert name.1 (adt_names is ++ trait_names is) (all_functions is) (written_differ is d.1 m n.1 c) (apart_written name.1 is
    d.0 (plain_apart name.1 n.0 (all_methods is) c))
written_differ (syn at (AnItem (ImplItem trait_ name methods)) ∷ is) d m n c =
    let ms = map pair_name (pairs_of name.1 (list_of methods)) in
    insert_all (adt_names is ++ trait_names is) ms (all_functions is) (written_differ is d (differ_second ms (all_methods is) m) n
    (each_second HasColon ms (all_methods is) c)) (both ms (each_first HasColon ms (all_methods is) c) (each_apart ms
    (all_methods is) m)) (differ_first ms (all_methods is) m)
  where
    both : (ms : List Word) → Each HasColon ms → Each (λ v. Apart v (all_methods is)) ms → Each (λ v. Apart v (written is)) ms
    both [] h k = tt
    both (v ∷ ms) h k = (apart_written v is (method_apart v h.0 (plain is) n) k.0, both ms h.1 k.1)
written_differ (syn at _ ∷ is) d m n c = written_differ is d m n c

-- ---- names of items

abbrev marks : List ℕ
marks = codes "()[]{}<>,;&!"

abbrev is_letter : ℕ → Bool
is_letter byte = nat_lt 32 byte && not (list_any (nat_eq byte) marks)

abbrev Letters : Word → Type 0
Letters w = IsTrue (list_all is_letter w)

abbrev IsOwn : Word → Type 0
IsOwn w = IsTrue (is_own_name w)

abbrev IsItemName : Word → Type 0
IsItemName w = IsTrue (is_item_name w)

not_so : (b : Bool) → IsTrue (not b) → b ≡ false
not_so true h = absurd (false≢true h)
not_so false h = refl

own_word : (w : Word) → IsOwn w → IsTrue (is_word w)
own_word w h = (and_parts (is_word w) _ h).0

own_plain : (w : Word) → IsOwn w → NoHash w
own_plain w h =
    not_so (has 35 w) (and_parts (not (has 35 w)) _ (and_parts (is_word w) _ h).1).0

own_colon : (w : Word) → IsOwn w → NoColon w
own_colon w h =
    not_so (has 58 w) (and_parts (not (has 35 w)) _ (and_parts (is_word w) _ h).1).1

abbrev is_empty : Word → Bool
is_empty [] = true
is_empty (byte ∷ bytes) = false

word_letters : (w : Word) → IsTrue (is_word w) → Letters w
word_letters w h = (and_parts (not (is_empty w)) _ h).1

letters_both : (v w : Word) → Letters v → Letters w → Letters (v ++ w)
letters_both v w h k = list_all-append is_letter v w ∙ and_from (list_all is_letter v) _ h k

-- what has a mark that no built-in name has
not_built_in : (mark : ℕ) (w : Word) → has mark w ≡ true → (ws : List Word) → IsTrue (list_all (λ v. not (has mark v)) ws) →
    Apart w ws
not_built_in mark w h [] k = tt
not_built_in mark w h (v ∷ vs) k =
    let p = and_parts (not (has mark v)) _ k in
    (λ e. unlike mark v w (not_so (has mark v) p.0) h (sym e), not_built_in mark w h vs p.1)

marked_name : (mark : ℕ) (w : Word) → has mark w ≡ true → IsTrue (list_all (λ v. not (has mark v)) built_in) → IsTrue (is_word
    w) → IsItemName w
marked_name mark w h k word =
    and_from (is_word w) _ word (ap not (none_among w built_in (not_built_in mark w h built_in k)))

has_colon : (p : Pair) → HasColon (pair_name p)
has_colon p =
    list_any-append (λ b. b == 58) (p.0 ++ codes "::") p.1 ∙ ap (λ x. x || has 58 p.1) (marked 58 p.0 (codes "::") refl)

method_word : (p : Pair) → Letters p.0 → Letters p.1 → IsTrue (is_word (pair_name p))
method_word p h k =
    and_from (not (is_empty (p.0 ++ codes "::" ++ p.1))) _ (not_empty p.0) (letters_both (p.0 ++ codes "::") p.1 (letters_both
    p.0 (codes "::") h refl) k)
  where
    not_empty : (w : Word) → IsTrue (not (is_empty (w ++ codes "::" ++ p.1)))
    not_empty [] = refl
    not_empty (c ∷ cs) = refl

method_name : (p : Pair) → IsOwn p.0 × IsOwn p.1 → IsItemName (pair_name p)
method_name p h =
    marked_name 58 (pair_name p) (has_colon p) refl (method_word p (word_letters p.0 (own_word p.0 h.0)) (word_letters p.1
    (own_word p.1 h.1)))

method_plain : (p : Pair) → IsOwn p.0 × IsOwn p.1 → NoHash (pair_name p)
method_plain p h =
    list_any-append (λ b. b == 35) (p.0 ++ codes "::") p.1 ∙ (ap (λ x. x || has 35 p.1) (list_any-append (λ b. b == 35) p.0
    (codes "::") ∙ ap (λ x. x || false) (own_plain p.0 h.0)) ∙ own_plain p.1 h.1)

number_letters : (n : ℕ) → Letters (number_word n)
number_letters n =
    all_digits is_letter (λ d l. below 10 (λ k. is_letter (48 + k)) refl d l) (suc n) n [] refl

closure_word : (outer : Word) (n : ℕ) → Letters outer → IsTrue (is_word (closure_name outer n))
closure_word outer n h =
    and_from (not (is_empty (outer ++ codes "::closure#" ++ number_word n))) _ (not_empty outer) (letters_both (outer ++ codes
    "::closure#") (number_word n) (letters_both outer (codes "::closure#") h refl) (number_letters n))
  where
    not_empty : (w : Word) → IsTrue (not (is_empty (w ++ codes "::closure#" ++ number_word n)))
    not_empty [] = refl
    not_empty (c ∷ cs) = refl

closure_named : (outer : Word) (n : ℕ) → Letters outer → IsItemName (closure_name outer n)
closure_named outer n h = marked_name 35 (closure_name outer n) (has_hash outer n) refl (closure_word outer n h)

item_word : (w : Word) → IsItemName w → IsTrue (is_word w)
item_word w h = (and_parts (is_word w) _ h).0

bodies_named : (outer : Word) (n : ℕ) (fs : List (Option Word)) → Letters outer → Each IsItemName (functions fs) → Each
    IsItemName (names_of outer n fs)
bodies_named outer n [] l h = tt
bodies_named outer n (Some f ∷ fs) l h =
    (h.0, bodies_named f 0 fs (word_letters f (item_word f h.0)) h.1)
bodies_named outer n (None ∷ fs) l h =
    (closure_named outer (n + 1) l, bodies_named outer (n + 1) fs l h)

-- ---- what a text has

plain_own : (is : List Syn) → Holds (each item_named is) → Each IsOwn (plain is)
plain_own [] h = tt
plain_own (syn at (AnItem (StructItem ds name kind fields)) ∷ is) h = (h.0.1.0, plain_own is h.1)
plain_own (syn at (AnItem (EnumItem ds name variants)) ∷ is) h = (h.0.1.0, plain_own is h.1)
plain_own (syn at (AnItem (TraitItem name heads)) ∷ is) h = (h.0.0, plain_own is h.1)
plain_own (syn at (AnItem (FnItem name params answer block)) ∷ is) h = (h.0, plain_own is h.1)
plain_own (syn at _ ∷ is) h = plain_own is h.1

pairs_own : (owner : Word) → IsOwn owner → (ms : List Syn) → Holds (each head_named ms) → All (λ (p : Pair). IsOwn p.0 × IsOwn
    p.1) (pairs_of owner ms)
pairs_own owner o [] h = tt
pairs_own owner o (syn at (AnItem (FnItem name params answer block)) ∷ ms) h = ((o, h.0), pairs_own owner o ms h.1)
pairs_own owner o (syn at _ ∷ ms) h = pairs_own owner o ms h.1

all_own : (is : List Syn) → Holds (each item_named is) → All (λ (p : Pair). IsOwn p.0 × IsOwn p.1) (all_pairs is)
all_own [] h = tt
all_own (syn at (AnItem (ImplItem trait_ name methods)) ∷ is) h =
    joined (pairs_of name.1 (list_of methods)) (pairs_own name.1 h.0.0 (list_of methods) h.0.1) (all_own is h.1)
  where
    joined : (ps : List Pair) → All (λ (p : Pair). IsOwn p.0 × IsOwn p.1) ps → All (λ (p : Pair). IsOwn p.0 × IsOwn p.1)
        (all_pairs is) → All (λ (p : Pair). IsOwn p.0 × IsOwn p.1) (ps ++ all_pairs is)
    joined [] a b = b
    joined (p ∷ ps) a b = (a.0, joined ps a.1 b)
all_own (syn at _ ∷ is) h = all_own is h.1

-- so of the name of each method
module _ (P : Word → Type 0) (so : (p : Pair) → IsOwn p.0 × IsOwn p.1 → P (pair_name p)) where
  each_of : (owner : Word) → IsOwn owner → (ms : List Syn) → Holds (each head_named ms) → Each P (map pair_name (pairs_of owner
      ms))
  each_of owner o [] h = tt
  each_of owner o (syn at (AnItem (FnItem name params answer block)) ∷ ms) h =
      (so (owner, name.1) (o, h.0), each_of owner o ms h.1)
  each_of owner o (syn at _ ∷ ms) h = each_of owner o ms h.1

  each_method : (is : List Syn) → Holds (each item_named is) → Each P (all_methods is)
  each_method [] h = tt
  each_method (syn at (AnItem (ImplItem trait_ name methods)) ∷ is) h =
      each_both P (map pair_name (pairs_of name.1 (list_of methods))) (all_methods is) (each_of name.1 h.0.0 (list_of methods)
      h.0.1) (each_method is h.1)
  each_method (syn at _ ∷ is) h = each_method is h.1

-- names that are written differ, and are not built in
second_not : (a b : Bool) → IsTrue (not (a || b)) → IsTrue (not b)
second_not true b h = absurd (false≢true h)
second_not false b h = h

first_not : (a b : Bool) → IsTrue (not (a || b)) → IsTrue (not a)
first_not true b h = h
first_not false b h = refl

abbrev words : List Named → List Word
words ns = map (λ (n : Named). n.1) ns

other_than : (w v : Word) (earlier : List Word) → is_among w earlier ≡ true → IsTrue (not (is_among v earlier)) → w ≡ v → ⊥
other_than w v earlier h none e =
    false≢true (ap not (sym (ap (λ x. is_among x earlier) (sym e) ∙ h)) ∙ none)

later_apart : (w : Word) (ns : List Named) (earlier : List Word) → is_among w earlier ≡ true → NamesKept ns earlier → Apart w
    (words ns)
later_apart w [] earlier h kept = tt
later_apart w (n ∷ ns) earlier h kept = (
  other_than w n.1 earlier h (first_not (is_among n.1 earlier) _ kept.0),
  later_apart w ns (earlier ++ n.1 ∷ []) (list_any-append (bytes_eq w) earlier (n.1 ∷ []) ∙ ap (λ b. b || is_among w (n.1 ∷
      [])) h) kept.1,
)

last_among : (w : Word) (earlier : List Word) → is_among w (earlier ++ w ∷ []) ≡ true
last_among w earlier =
    list_any-append (bytes_eq w) earlier (w ∷ []) ∙ (ap (λ b. is_among w earlier || (b || false)) ((bytes_eq-Decides w w).1 refl)
    ∙ or_true (is_among w earlier))
  where
    or_true : (b : Bool) → (b || true) ≡ true
    or_true true = refl
    or_true false = refl

kept_differ : (ns : List Named) (earlier : List Word) → NamesKept ns earlier → Differ (words ns)
kept_differ [] earlier kept = tt
kept_differ (n ∷ ns) earlier kept = (
  later_apart n.1 ns (earlier ++ n.1 ∷ []) (last_among n.1 earlier) kept.1,
  kept_differ ns (earlier ++ n.1 ∷ []) kept.1,
)

kept_named : (ns : List Named) (earlier : List Word) → NamesKept ns earlier → Each IsOwn (words ns) → Each IsItemName (words ns)
kept_named [] earlier kept h = tt
kept_named (n ∷ ns) earlier kept h = (
  and_from (is_word n.1) _ (own_word n.1 h.0) (second_not (is_among n.1 earlier) _ kept.0),
  kept_named ns (earlier ++ n.1 ∷ []) kept.1 h.1,
)

traits_are : (is : List ItemSyn) → all_traits_called is ≡ trait_names (item_syns is)
traits_are [] = refl
traits_are (i ∷ is) = with_item i.item (traits_are is)
  where
    with_item : (i : Syn) → all_traits_called is ≡ trait_names (item_syns is) → traits_called i ++ all_traits_called is ≡
        trait_names (i ∷ item_syns is)
    with_item (syn at (AnItem (TraitItem name heads))) e = ap (λ ws. name.1 ∷ ws) e
    with_item (syn at _) e = e

all_listed : (ws : List Word) → Each IsItemName ws → IsTrue (list_all is_item_name ws)
all_listed [] h = refl
all_listed (w ∷ ws) h = and_from (is_item_name w) _ h.0 (all_listed ws h.1)

no_empty : (w : Word) → IsItemName w → is_not [] w
no_empty w h e = false≢true (ap is_word e ∙ item_word w h)

-- ---- the whole

module _ (parts : Parts Pos) (items : ItemTable) (p : ProgramTree) (h : IsAccepted parts items p) where
  abbrev texts : List Syn
  texts = item_syns (items_of parts)

  abbrev bodies : List (Option Word)
  bodies = all_called (items_of parts)

  own : Each IsOwn (plain texts)
  own = plain_own texts h.text.named

  kept : NamesKept (filter_map item_name texts) []
  kept = text_names_kept parts h.end items h.collected

  methods_kept : ItemsKept [] texts
  methods_kept =
      by _ (items_kept (checks.outermost texts) (record { methods = []; impls = [] }) texts (starting_with items)) h.checked
    where
      by : (r : Result (Unit {0} × TypingState) Broken) → Walked (λ a t. ItemsKept [] texts) r → checks.program_in r ≡ Ok p →
          ItemsKept [] texts
      by (Ok a) w e = w.so
      by (Err x) w e = absurd (no_ok x p e)

  methods_apart : Differ (all_methods texts)
  methods_apart = methods_differ texts (owners (all_pairs texts) (all_own texts h.text.named)) methods_kept
    where
      owners : (ps : List Pair) → All (λ (p : Pair). IsOwn p.0 × IsOwn p.1) ps → All (λ (p : Pair). has 58 p.0 ≡ false) ps
      owners [] a = tt
      owners (q ∷ ps) a = (own_colon q.0 a.0.0, owners ps a.1)

  all_differ : Differ (written texts)
  all_differ =
      written_differ texts (kept_differ (filter_map item_name texts) [] kept) methods_apart (each_map IsOwn NoColon own_colon
      (plain texts) own) (each_method HasColon (λ q _. has_colon q) texts h.text.named)

  -- functions and methods, as the bodies are listed
  same_functions : functions bodies ≡ all_functions texts
  same_functions = functions_are (all_names (known_of (items_of parts)) None) (items_of parts) h.text.listed

  functions_so : (P : Word → Type 0) → Each P (plain texts) → Each P (all_methods texts) → Each P (functions bodies)
  functions_so P a b = subst (Each P) (sym same_functions) (each_function P texts a b)

  named : Each IsItemName (plain texts)
  named = kept_named (filter_map item_name texts) [] kept own

  functions_named : Each IsItemName (functions bodies)
  functions_named = functions_so IsItemName named (each_method IsItemName method_name texts h.text.named)

  functions_plain : Each NoHash (functions bodies)
  functions_plain =
      functions_so NoHash (each_map IsOwn NoHash own_plain (plain texts) own) (each_method NoHash method_plain texts
      h.text.named)

  functions_differ : Differ (adt_names texts ++ trait_names texts ++ functions bodies)
  functions_differ =
      subst (λ ws. Differ (adt_names texts ++ trait_names texts ++ ws)) (sym same_functions) all_differ

  abbrev called : List Word
  called = adt_names texts ++ trait_names texts ++ names_of [] 0 bodies

  called_named : Each IsItemName called
  called_named =
      each_both IsItemName (adt_names texts ++ trait_names texts) (names_of [] 0 bodies) (each_both IsItemName (adt_names texts)
      (trait_names texts) (each_adt IsItemName texts named) (each_trait IsItemName texts named)) (bodies_named [] 0 bodies refl
      functions_named)

  others_plain : Each NoHash (adt_names texts ++ trait_names texts)
  others_plain =
      let plain_names = each_map IsOwn NoHash own_plain (plain texts) own in
      each_both NoHash (adt_names texts) (trait_names texts) (each_adt NoHash texts plain_names) (each_trait NoHash texts
      plain_names)

  called_differ : Differ called
  called_differ =
      instead (adt_names texts ++ trait_names texts) (functions bodies) (names_of [] 0 bodies) functions_differ (names_differ []
      0 bodies refl functions_plain (each_map IsItemName (is_not []) no_empty (functions bodies) functions_named) (differ_second
      (adt_names texts ++ trait_names texts) (functions bodies) functions_differ)) (each_map NoHash (λ v. Apart v (functions
      bodies) → Apart v (names_of [] 0 bodies)) (λ v n a. apart_names v n [] 0 bodies a) (adt_names texts ++ trait_names texts)
      others_plain)

  extends : Extends items p.items
  extends = (bodies_typed parts items p (are_collected parts items p h) h.checked).0

  -- they are those of the table
  adts_are : adt_names texts ≡ map (λ (adt : Adt). adt.name) p.items.adts
  adts_are =
      sym (ap (map (λ (adt : Adt). adt.name)) extends.adts ∙ words_collected (items_of parts) items.adts (heads_of_text parts
      h.end items h.collected).adts)

  traits_are_those : trait_names texts ≡ map (λ (def : TraitDef). def.name) p.items.traits
  traits_are_those =
      sym (ap (map (λ (def : TraitDef). def.name)) extends.traits ∙ ((are_called parts h.end items h.collected).traits ∙
      traits_are (items_of parts)))

  bodies_are : names_of [] 0 bodies ≡ map (λ (sig : Sig). sig.name) p.items.bodies
  bodies_are =
      sym (ap (map (λ (sig : Sig). sig.name)) extends.bodies ∙ (are_called parts h.end items h.collected).heads)

  are_those : called ≡ item_names p.items
  are_those = λ i. adts_are i ++ traits_are_those i ++ bodies_are i

  -- of structs and enums, of traits, and of bodies
  pub adts_differ : IsTrue (are_distinct (map (λ (adt : Adt). adt.name) p.items.adts))
  adts_differ =
      subst (λ ws. IsTrue (are_distinct ws)) adts_are (distinct (adt_names texts) (differ_first (adt_names texts) (trait_names
      texts) (differ_first (adt_names texts ++ trait_names texts) (names_of [] 0 bodies) called_differ)))

  pub traits_differ : IsTrue (are_distinct (map (λ (def : TraitDef). def.name) p.items.traits))
  traits_differ =
      subst (λ ws. IsTrue (are_distinct ws)) traits_are_those (distinct (trait_names texts) (differ_second (adt_names texts)
      (trait_names texts) (differ_first (adt_names texts ++ trait_names texts) (names_of [] 0 bodies) called_differ)))

  pub bodies_differ : IsTrue (are_distinct (map (λ (sig : Sig). sig.name) p.items.bodies))
  bodies_differ =
      subst (λ ws. IsTrue (are_distinct ws)) bodies_are (distinct (names_of [] 0 bodies) (differ_second (adt_names texts ++
      trait_names texts) (names_of [] 0 bodies) called_differ))

pub text_item_names : NamesOfItems
text_item_names parts items p h =
    subst (λ ws. IsTrue (list_all is_item_name ws)) (are_those parts items p h) (all_listed _ (called_named parts items p h))

pub text_names_differ : NamesDiffer
text_names_differ parts items p h =
    subst (λ ws. IsTrue (are_distinct ws)) (are_those parts items p h) (distinct _ (called_differ parts items p h))
