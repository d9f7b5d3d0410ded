-- Lists under other numbers, member by member.
use Rattle.std.proofs.Common.{◌≡◌, ◌≤◌, ◌<◌, ◌+◌, ℕ, List, [], ◌∷◌, ◌++◌, get_or, length, map, take, refl, ap, sym, subst, ◌∙◌, arith}
use Rattle.std.proofs.Math.ListN.{set}
use Rattle.std.proofs.Math.Seq.{take-append_seam}
use Rattle.std.proofs.lemmas.List.{get_or-set_other, length-set, map-append, map_more, take_all, take_more_set}
use Rattle.typed_tree.specs.Tree.{Node, a_node, a_field}
use Rattle.typed_tree.specs.View.{nodes_from, fields_from}
use Rattle.typing_rules.specs.Numbered.{renumbered, nodes_renumbered, fields_renumbered}

abbrev pub field_renumbered : (ℕ → ℕ) → ℕ × Node → ℕ × Node
field_renumbered f field = (field.0, renumbered f field.1)

module _ (f : ℕ → ℕ) where
  pub nodes_same : (nodes : List Node) → nodes_from (map (renumbered f) nodes) ≡ nodes_renumbered f (nodes_from nodes)
  nodes_same [] = refl
  nodes_same (first ∷ rest) = ap (a_node (renumbered f first)) (nodes_same rest)

  pub fields_same : (fields : List (ℕ × Node)) → fields_from (map (field_renumbered f) fields) ≡ fields_renumbered f (fields_from fields)
  fields_same [] = refl
  fields_same (first ∷ rest) = ap (a_field first.0 (renumbered f first.1)) (fields_same rest)

-- what was written through the elements of a vector is all of it
pub whole : {A : Type 0} (n : ℕ) (made members rest : List A) → length members ≡ n → made ≡ take n (members ++ rest) → made ≡ members
whole n made members rest counted is = is ∙ ap (λ k. take k (members ++ rest)) (sym counted) ∙ take-append_seam members rest

-- what holds of the members that a loop has gone through holds of all once it ends
pub settled : {A B : Type 0} (view : A → B) (g : B → B) (n : ℕ) (new old : List A) → length new ≡ length old → length old ≤ n → map view (take n new) ≡ map g (map view (take n old)) → map view new ≡ map g (map view old)
settled view g n new old same past so_far =
    sym (ap (map view) (take_all n new (subst (λ k. k ≤ n) (sym same) past))) ∙ so_far
    ∙ ap (λ l. map g (map view l)) (take_all n old past)

-- Of a loop that writes one member after the other: as many members as before, those past the index as they were, and
-- those before it settled. It holds with one more member written.
abbrev pub Written : {A B : Type 0} (view : A → B) (g : B → B) (n : ℕ) (now first : List A) → Type 0
Written {A} view g n now first =
    ((length now ≡ length first) × ((k : ℕ) → (d : A) → n ≤ k → get_or now k d ≡ get_or first k d))
    × (map view (take n now) ≡ map g (map view (take n first)))

pub one_written : {A B : Type 0} (view : A → B) (g : B → B) (n : ℕ) (now first : List A) (made d : A) → n < length first → Written view g n now first → view made ≡ g (view (get_or now n d)) → Written view g (n + 1) (set now n made) first
one_written view g n now first made d less so_far is = (
  (length-set now n made ∙ so_far.0.0, λ k e past. get_or-set_other now n k made e (omega arith) ∙ so_far.0.1 k e (omega arith)),
  ap (map view) (take_more_set now n made (omega (arith, so_far.0.0)))
      ∙ map-append view (take n now) (made ∷ [])
      ∙ ap (λ l. l ++ view made ∷ []) so_far.1
      ∙ ap (λ v. map g (map view (take n first)) ++ v ∷ []) (is ∙ ap (λ a. g (view a)) (so_far.0.1 n d (omega arith)))
      ∙ sym (ap (map g) (map_more view first n d less) ∙ map-append g (map view (take n first)) (view (get_or first n d) ∷ [])),
)
