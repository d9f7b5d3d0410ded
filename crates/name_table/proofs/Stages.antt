-- The stages of collecting items, one behind another.
use Rattle.std.proofs.Common.{◌≡◌, List, [], Result, Ok, Err, refl, ap, sym, subst, ◌∙◌}
use Rattle.std.specs.List.{filter_map}
use Rattle.mir_base.specs.declared.place_in_text.Pos.{Pos}
use Rattle.mir_base.specs.declared.rule.RuleError.{RuleError}
use Rattle.mir_ty.specs.ItemTable as table
use Rattle.typeck_heads.specs.Answers.{Answers, Refuses}
use Rattle.src_tree.specs.Layout.{Parts}
use Rattle.name_table.specs.Collects.{Collects, stages, declared, tested, scalars}
use Rattle.name_table.specs.Forms.{each_done}
use Rattle.name_table.proofs.EachItem.{done_then}
use Rattle.typing_rules.specs.Check.{Check, TypingState, Broken, and_then, each_checked}
use Rattle.typing_rules.specs.Collected as walk
use Rattle.typing_rules.specs.Collected.{collected, collecting, items_in, heads_collected, impl_of, item_name, names_differ, starting_with}
use Rattle.typing_rules.specs.Items.{ItemSyn, item_syns, items_of}

module _ (items : List ItemSyn) (end : Pos) where
  abbrev k : walk.Known
  k = walk.known_of items

  abbrev no_count : walk.Count
  no_count = record { outer = []; in_outer = 0; closures = 0 }

  then_impls : (o : Result (Unit {0} × TypingState) Broken) →
      and_then o (λ _. λ s. and_then (each_checked (impl_of k) (item_syns items) s) (λ _. tested k items end))
      ≡ and_then (and_then o (λ _. each_done (impl_of k) (item_syns items))) (λ _. tested k items end)
  then_impls (Ok a) = done_then (impl_of k) (tested k items end) (item_syns items) a.1
  then_impls (Err e) = refl

  then_heads : (o : Result (Unit {0} × TypingState) Broken) →
      and_then o (λ _. λ s. and_then (heads_collected k no_count items s) (λ _. λ s. and_then (each_checked (impl_of k) (item_syns items) s) (λ _. tested k items end)))
      ≡ and_then (and_then o (λ _. λ s. and_then (heads_collected k no_count items s) (λ _. each_done (impl_of k) (item_syns items)))) (λ _. tested k items end)
  then_heads (Ok a) = then_impls (heads_collected k no_count items a.1)
  then_heads (Err e) = refl

  pub in_stages : (s : TypingState) → collecting items end s ≡ and_then (declared k items s) (λ _. tested k items end)
  in_stages s = then_heads (names_differ (filter_map item_name (item_syns items)) [] s)

pub stages_answer : (items : List ItemSyn) (end : Pos) (k : walk.Known) (s : TypingState) (r : Result (Unit {0}) RuleError) (after : table.ItemTable) →
    k ≡ walk.known_of items → Answers (stages k items end s) r after → Answers (collecting items end s) r after
stages_answer items end k s r after is h =
    subst (λ o. Answers o r after) (sym (in_stages items end s)) (subst (λ z. Answers (stages z items end s) r after) is h)

pub collects_none : (parts : Parts Pos) (end : Pos) (i : table.ItemTable) (e : RuleError) → i ≡ walk.no_items →
    Refuses (collecting (items_of parts) end (starting_with i)) e → Collects (collected parts end) (Err e)
collects_none parts end i (RuleError.Broken rule at) is h =
    ap (λ z. items_in (collecting (items_of parts) end (starting_with z))) (sym is) ∙ ap items_in h
collects_none parts end i RuleError.Memory is h = tt

pub collects_items : (parts : Parts Pos) (end : Pos) (i j : table.ItemTable) (u : Unit {0}) → i ≡ walk.no_items →
    collecting (items_of parts) end (starting_with i) ≡ Ok (u, starting_with j) → Collects (collected parts end) (Ok j)
collects_items parts end i j u is h =
    ap (λ z. items_in (collecting (items_of parts) end (starting_with z))) (sym is) ∙ ap items_in h

pub scalars_there : scalars (starting_with table.no_items) ≡ Ok (tt, starting_with walk.no_items)
scalars_there = refl
