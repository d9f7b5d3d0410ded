-- The items of the program are collected: their names differ, and each head gets its number.
use Rattle.std.proofs.Common.{◌≡◌, ℕ, zero, suc, ◌<◌, ◌≤◌, ◌^◌, Bool, true, false, not, List, [], ◌∷◌, ◌++◌, length, Ok, refl, ap, ◌∙◌, arith}
use Rattle.std.specs.Prelude.{codes, is_some}
use Rattle.std.specs.List.{list_any, filter_map}
use Rattle.std.specs.Char.{is_ascii_digit}
use Rattle.std.specs.Fmt.{decimal}
use Rattle.std.specs.Str.{bytes_eq}
use Rattle.std.proofs.lemmas.Bool.{and_parts}
use Rattle.std.proofs.lemmas.Fmt.{decimal_nonempty}
use Rattle.std.proofs.lemmas.List.Folds.{list_any-append}
use Rattle.mir_base.specs.declared.place_in_text.Pos.{Pos}
use Rattle.well_typed.specs.Names.{is_among, built_in}
use Rattle.src_ast.specs.Syntax.{Word}
use Rattle.mir_base.specs.declared.rule.Rule.{Rule}
use Rattle.typing_rules.specs.Check.{TypingState, Check, ◌>>=◌, ◌>>◌, obeys, each_checked}
use Rattle.typing_rules.specs.Written.{number_of}
use Rattle.typing_rules.specs.Collected.{Known, Count, item_name, names_differ, heads_collected, impl_of, known_of, collecting, starting_with, no_items, adt_item, all_finite, all_derive, drop_owners}
use Rattle.typing_rules.specs.Items.{ItemSyn, item_syns, adt_name, trait_name, trait_names, body_paths, method_path}
use Rattle.soak_laws.proofs.ItemSyns.{function_item, functions_items, main_item, called_items, soak_syns, skipped}
use Rattle.soak_laws.proofs.Numerals as numerals
use Rattle.soak_laws.proofs.Numerals.{IsNumeral, of_digit}
use Rattle.soak_laws.proofs.Placing.{Places}
use Rattle.soak_laws.proofs.Tables.{words_apart, position_at, position_some}
use Rattle.soak_laws.proofs.Trees.{f_word, d_word}
use Rattle.soak_laws.proofs.TypedTrees.{functions_at, first_at, sigs, soak_table, state_at}

-- ---- names

not_built_in_at : (n : ℕ) (w : List ℕ) → 0 < length w → IsNumeral n w → is_among (102 ∷ w) built_in ≡ false
not_built_in_at n [] some is = absurd (omega (arith, some))
not_built_in_at n (c ∷ cs) some is =
    not_true (is_among (102 ∷ c ∷ cs) built_in)
    (of_digit (λ c. not (is_among (102 ∷ c ∷ cs) built_in)) refl c (and_parts (is_ascii_digit c) _ is.digits).0)
  where
    not_true : (b : Bool) → not b ≡ true → b ≡ false
    not_true true h = cc
    not_true false h = refl

not_built_in : (i : ℕ) → i < 2 ^ 32 → is_among (f_word i) built_in ≡ false
not_built_in i small =
    not_built_in_at i (decimal i) (decimal_nonempty i (omega (arith, small)))
    (numerals.is_numeral i (omega (arith, small)))

-- the names before that of a function
abbrev names : ℕ → List Word
names zero = d_word ∷ []
names (suc i) = names i ++ f_word i ∷ []

fresh : (n : ℕ) → n < 2 ^ 32 → (k : ℕ) → k ≤ n → is_among (f_word n) (names k) ≡ false
fresh n small zero l = refl
fresh n small (suc k) l =
    let before = fresh n small k (omega (arith, l)) in
    let this = words_apart n k small (omega (arith, small, l)) (λ e. omega (arith, e, l)) in
    list_any-append (bytes_eq (f_word n)) (names k) (f_word k ∷ []) ∙ rw (before, this) refl

module _ (s : TypingState) where
  function_differs : (i : ℕ) → i < 2 ^ 32 → (f : Places) (rest : List ItemSyn) →
      names_differ (filter_map item_name (item_syns (function_item i f ∷ rest))) (names i) s
      ≡ names_differ (filter_map item_name (item_syns rest)) (names (suc i)) s
  function_differs i small f rest =
      let new = fresh i small i (omega arith) in
      let own = not_built_in i small in
      rw (new, own) refl

  functions_differ : (k : ℕ) → k ≤ 2 ^ 31 → (f : Places) (rest : List ItemSyn) →
      names_differ (filter_map item_name (item_syns (functions_items k f rest))) (d_word ∷ []) s
      ≡ names_differ (filter_map item_name (item_syns rest)) (names k) s
  functions_differ zero small f rest = refl
  functions_differ (suc i) small f rest =
      functions_differ i (omega (arith, small)) f (function_item i (functions_at i f) ∷ rest)
      ∙ function_differs i (omega (arith, small)) (functions_at i f) rest

  main_fresh : (k : ℕ) → is_among (codes "main") (names k) ≡ false
  main_fresh zero = refl
  main_fresh (suc k) =
      let before = main_fresh k in
      list_any-append (bytes_eq (codes "main")) (names k) (f_word k ∷ []) ∙ rw before refl

  all_differ : (f : Places) (last : ℕ) → last < 2 ^ 31 →
      names_differ (filter_map item_name (item_syns (called_items f last))) (d_word ∷ []) s ≡ Ok (tt, s)
  all_differ f last small =
      functions_differ (suc last) (omega (arith, small)) f (main_item last (functions_at (suc last) f) ∷ [])
      ∙ (let new = main_fresh (suc last) in rw new refl)

-- ---- heads

abbrev known : List Word → Known
known paths = record { adts = d_word ∷ []; traits = []; paths = paths }

abbrev counted : ℕ → Count
counted zero = record { outer = codes "D::drop"; in_outer = 0; closures = 0 }
counted (suc i) = record { outer = f_word i; in_outer = 0; closures = 0 }

module _ (paths : List Word) where
  function_head : (i : ℕ) (f : Places) (rest : List ItemSyn) →
      heads_collected (known paths) (counted i) (function_item i f ∷ rest) (state_at (sigs i) 0 [])
      ≡ heads_collected (known paths) (counted (suc i)) rest (state_at (sigs (suc i)) 0 [])
  function_head zero f rest = refl
  function_head (suc i) f rest = refl

  functions_heads : (k : ℕ) (f : Places) (rest : List ItemSyn) →
      heads_collected (known paths) (counted zero) (functions_items k f rest) (state_at (sigs zero) 0 [])
      ≡ heads_collected (known paths) (counted k) rest (state_at (sigs k) 0 [])
  functions_heads zero f rest = refl
  functions_heads (suc i) f rest =
      functions_heads i f (function_item i (functions_at i f) ∷ rest) ∙ function_head i (functions_at i f) rest

  all_heads : (f : Places) (last : ℕ) →
      heads_collected (known paths) (counted zero) (called_items f last) (state_at (sigs zero) 0 [])
      ≡ Ok (tt, starting_with (soak_table last))
  all_heads f last = functions_heads (suc last) f (main_item last (functions_at (suc last) f) ∷ [])

-- ---- impls of traits

abbrev functions_units : ℕ → List (Unit {0}) → List (Unit {0})
functions_units zero units = units
functions_units (suc i) units = functions_units i (tt ∷ units)

functions_impls : (kn : Known) (s : TypingState) (k : ℕ) (f : Places) (rest : List ItemSyn) (units : List (Unit {0})) →
    each_checked (impl_of kn) (item_syns rest) s ≡ Ok (units, s) →
    each_checked (impl_of kn) (item_syns (functions_items k f rest)) s ≡ Ok (functions_units k units, s)
functions_impls kn s zero f rest units h = h
functions_impls kn s (suc i) f rest units h =
    functions_impls kn s i f (function_item i (functions_at i f) ∷ rest) (tt ∷ units) (rw h refl)

-- ---- `main`

has_main : (k : ℕ) (f : Places) (rest : List ItemSyn) → list_any (bytes_eq (codes "main")) (body_paths rest) ≡ true →
    list_any (bytes_eq (codes "main")) (body_paths (functions_items k f rest)) ≡ true
has_main zero f rest h = h
has_main (suc i) f rest h = has_main i f (function_item i (functions_at i f) ∷ rest) h

-- ---- the whole

abbrev d_path : List ℕ
d_path = method_path d_word (codes "Drop") (codes "drop")

abbrev collecting_by : Known → List ItemSyn → Pos → Check (Unit {0})
collecting_by kn items end = do
  names_differ (filter_map item_name (item_syns items)) []
  heads_collected kn (record { outer = []; in_outer = 0; closures = 0 }) items
  _ ← each_checked (impl_of kn) (item_syns items)
  all_finite 0 (filter_map adt_item (item_syns items))
  all_derive (drop_owners items) 0 (filter_map adt_item (item_syns items))
  obeys Rule.T01 end (is_some (number_of (body_paths items) (codes "main")))

module _ (f : Places) (last : ℕ) where
  abbrev main_alone : List ItemSyn
  main_alone = main_item last (functions_at (suc last) (first_at f)) ∷ []

  abbrev soak_paths : List Word
  soak_paths = d_path ∷ body_paths (called_items (first_at f) last)

  known_is : known_of (soak_syns f last) ≡ known soak_paths
  known_is =
      let adts = skipped adt_name (λ i f. refl) (suc last) (first_at f) main_alone in
      let traits = skipped trait_name (λ i f. refl) (suc last) (first_at f) main_alone in
      ap
      (λ names. record {
        adts = d_word ∷ names;
        traits = trait_names (item_syns (soak_syns f last));
        paths = soak_paths;
      })
      adts
      ∙ ap (λ names. record { adts = d_word ∷ []; traits = names; paths = soak_paths }) traits

  first_heads : heads_collected (known soak_paths) (record { outer = []; in_outer = 0; closures = 0 })
      (soak_syns f last)
      (starting_with no_items) ≡ heads_collected (known soak_paths) (counted zero) (called_items (first_at f) last)
      (state_at (sigs zero) 0 [])
  first_heads =
      let paths = body_paths (called_items (first_at f) last) in
      let own = position_at (bytes_eq d_path) [] d_path paths refl refl in
      rw own

  pub soak_collecting : last < 2 ^ 31 → (end_ : Pos) →
      collecting (soak_syns f last) end_ (starting_with no_items) ≡ Ok (tt, starting_with (soak_table last))
  soak_collecting small end_ =
      let g = first_at f in
      let differ = all_differ (starting_with no_items) g last small in
      let heads = first_heads ∙ all_heads soak_paths g last in
      let impls =
      functions_impls (known soak_paths) (starting_with (soak_table last)) (suc last) g main_alone (tt ∷ []) refl
      in
      let finite = skipped adt_item (λ i f. refl) (suc last) g main_alone in
      let there = position_some (bytes_eq (codes "main")) soak_paths (has_main (suc last) g main_alone refl) in
      ap (λ kn. collecting_by kn (soak_syns f last) end_ (starting_with no_items)) known_is
      ∙ rw (differ, heads, impls, finite, there) refl
