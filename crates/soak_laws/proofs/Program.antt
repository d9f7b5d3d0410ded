-- The typed program of the text: it breaks no rule.
use Rattle.std.proofs.Common.{◌≡◌, ℕ, zero, suc, ◌-◌, ◌<◌, ◌^◌, List, [], ◌∷◌, ◌++◌, Ok, refl, ap, ◌∙◌, arith}
use Rattle.std.specs.List.{flat_map}
use Rattle.std.proofs.lemmas.Grind.{flat_map-append}
use Rattle.mir_base.specs.declared.place_in_text.Pos.{Pos}
use Rattle.mir_ty.specs.declared.def.Sig.{Sig}
use Rattle.src_tree.specs.Layout.{Parts}
use Rattle.typed_tree.specs.Tree.{BodyTree}
use Rattle.typing_rules.specs.Borrows.{read_typed, all_broken, overlaps, replaced_self, unless_borrows, unless_broken, first_of}
use Rattle.typing_rules.specs.Check.{Broken}
use Rattle.typing_rules.specs.Collected.{collecting, collected, items_in, starting_with, no_items}
use Rattle.typing_rules.specs.Items.{ItemSyn, item_syns, adt_names, trait_names, all_kinds, self_methods}
use Rattle.typing_rules.specs.Program.{all_items, outermost, program_in, checked, then_checked, typed_program}
use Rattle.typing_rules.specs.Replaced.{BodyParameter, replaceable}
use Rattle.soak_laws.proofs.Collected.{soak_collecting}
use Rattle.soak_laws.proofs.ItemSyns.{called_items, main_item, soak_syns, soak_items_are, skipped, skipped_all}
use Rattle.soak_laws.proofs.Placing.{Places, placed_parts}
use Rattle.soak_laws.proofs.Tables.{heads_of}
use Rattle.soak_laws.proofs.Trees.{soak_items}
use Rattle.soak_laws.proofs.TypedBodies.{nothing_before, not_zero, soak_typed}
use Rattle.soak_laws.proofs.TypedTrees.{bodies, drop_tree, first_at, function_tree, functions_at, impl_at, items_with, main_tree, soak_env, soak_program, soak_table}

-- ---- names in scope

module _ (f : Places) (last : ℕ) where
  abbrev main_alone : List ItemSyn
  main_alone = main_item last (functions_at (suc last) (first_at f)) ∷ []

  env_is : outermost (item_syns (soak_syns f last)) ≡ soak_env
  env_is =
      let adts : adt_names (item_syns (called_items (first_at f) last)) ≡ [] =
      skipped _ (λ i f. refl) (suc last) (first_at f) main_alone in
      let traits : trait_names (item_syns (called_items (first_at f) last)) ≡ [] =
      skipped _ (λ i f. refl) (suc last) (first_at f) main_alone in
      let kinds : all_kinds (item_syns (called_items (first_at f) last)) ≡ [] =
      skipped _ (λ i f. refl) (suc last) (first_at f) main_alone in
      let methods : self_methods (item_syns (called_items (first_at f) last)) ≡ [] =
      skipped_all _ (λ i f. refl) (suc last) (first_at f) main_alone in
      simp (adts, traits, kinds, methods)

-- ---- borrows

module _ (heads : List Sig) (params : List BodyParameter) where
  abbrev broken_in : BodyTree → List Broken
  broken_in body = overlaps body ++ replaced_self (items_with heads) params body

  drop_stands : (f : Places) → broken_in (drop_tree f) ≡ []
  drop_stands f = refl

  function_stands : (f : Places) (i : ℕ) → broken_in (function_tree f i) ≡ []
  function_stands f zero = refl
  function_stands f (suc i) = rw (not_zero (suc i)) refl

  main_stands : (f : Places) (last : ℕ) → broken_in (main_tree f last) ≡ []
  main_stands f last = rw (not_zero (suc last)) refl

  one_stands : (body : BodyTree) → broken_in body ≡ [] → flat_map broken_in (body ∷ []) ≡ []
  one_stands body h = ap (λ bs. bs ++ []) h

  all_stand : (f : Places) (k : ℕ) → flat_map broken_in (bodies f k) ≡ []
  all_stand f zero = one_stands (drop_tree (impl_at f)) (drop_stands (impl_at f))
  all_stand f (suc i) =
      let g = functions_at i (first_at f) in
      let before = all_stand f i in
      let this = one_stands (function_tree g i) (function_stands g i) in
      flat_map-append broken_in (bodies f i) (function_tree g i ∷ []) ∙ rw (before, this) refl

nothing_broken : (f : Places) (last : ℕ) → all_broken (soak_program f last) ≡ []
nothing_broken f last =
    let p = soak_program f last in
    let main = functions_at (suc last) (first_at f) in
    let before = all_stand (heads_of last) (replaceable p) f (suc last) in
    let this =
    one_stands (heads_of last) (replaceable p) (main_tree main last)
    (main_stands (heads_of last) (replaceable p) main last)
    in
    flat_map-append (broken_in (heads_of last) (replaceable p)) (bodies f (suc last)) (main_tree main last ∷ [])
    ∙ rw (before, this) refl

-- ---- the whole

module _ (f : Places) (last : ℕ) (small : last < 2 ^ 31 - 1) (end_ : Pos) where
  abbrev parts : Parts Pos
  parts = placed_parts (soak_items last) f

  collected_is : collected parts end_ ≡ Ok (soak_table last)
  collected_is =
      ap (λ is. items_in (collecting is end_ (starting_with no_items))) (soak_items_are f last)
      ∙ ap items_in (soak_collecting f last (omega (arith, small)) end_)

  checked_is : checked parts (soak_table last) ≡ Ok (soak_program f last)
  checked_is =
      ap
      (λ is. program_in (all_items (outermost (item_syns is)) nothing_before (item_syns is)
      (starting_with (soak_table last))))
      (soak_items_are f last)
      ∙ ap
      (λ env. program_in (all_items env nothing_before (item_syns (soak_syns f last))
      (starting_with (soak_table last))))
      (env_is f last)
      ∙ ap program_in (soak_typed last small f)

  typed_is : typed_program parts end_ ≡ Ok (soak_program f last)
  typed_is = ap (then_checked parts) collected_is ∙ checked_is

  pub soak_read : read_typed parts end_ ≡ Ok (soak_program f last)
  soak_read =
      ap unless_borrows typed_is
      ∙ ap (λ bs. unless_broken (soak_program f last) (first_of bs)) (nothing_broken f last)
