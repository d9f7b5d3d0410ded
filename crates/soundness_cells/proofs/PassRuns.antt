-- The pass over the forms, as far as it speaks of scopes, for checked free runs of a body: two keys have two locals, so
-- the effects do what the pass asks of them.
use Rattle.std.proofs.Common.{◌≡◌, ℕ, ◌+◌, ◌<◌, ◌≤◌, ◌==◌, Bool, true, false, not, if◌then◌else◌, List, [], ◌∷◌, length, Option, Some, None, nat_lt, refl, ap, sym, ◌∙◌, arith}
use Rattle.std.specs.Prelude.{get_or}
use Rattle.std.specs.List.{prefix_len}
use Rattle.std.specs.Option.{option_map_or}
use Rattle.std.proofs.lemmas.Bool.{false≢true, ltb-true}
use Rattle.std.proofs.lemmas.Bool.Decides.{Decides-eqb}
use Rattle.std.proofs.lemmas.List.Sums.{prefix_len_stops}
use Rattle.mir_ty.specs.Facts.{needs_drop}
use Rattle.mir_ty.specs.ItemTable.{ItemTable}
use Rattle.store_model.specs.Effects.{Effects}
use Rattle.typed_tree.specs.Nodes.{nodes_of}
use Rattle.typed_tree.specs.Tree.{Node, BodyTree}
use Rattle.src_meaning.specs.Evaluation.{meaning}
use Rattle.src_meaning.specs.Locals.OfBody.{local_among, local_of, local_ty, local_keys}
use Rattle.well_typed.specs.Claim.{Holds}
use Rattle.well_typed.specs.Nodes.{typed}
use Rattle.well_typed.specs.Places.{Standing}
use Rattle.soundness_values.proofs.Checked.{Checking, Checks}
use Rattle.soundness_cells.proofs.PassClear.{KeepsClear}
use Rattle.soundness_cells.proofs.PassEffects.{checked, CheckedClear, keeps_clear}
use Rattle.soundness_cells.proofs.PassFacts.{Standpoint, context}
use Rattle.soundness_cells.proofs.PassForms.{node_so}
use Rattle.soundness_cells.proofs.PassNodes.{Good}
use Rattle.soundness_cells.proofs.PassRules.{Sound}

module _ (keys : List ℕ) where
  -- where the first of some keys that is this one stands
  abbrev stop : ℕ → ℕ
  stop key = prefix_len (λ k. not (k == key)) keys

  stands : (key : ℕ) → stop key < length keys → get_or keys (stop key) 0 ≡ key
  stands key l = (Decides-eqb (get_or keys (stop key) 0) key).0
      (is_so (get_or keys (stop key) 0 == key) (prefix_len_stops (λ k. not (k == key)) keys 0 l))
    where
      is_so : (b : Bool) → not b ≡ false → b ≡ true
      is_so true e = refl
      is_so false e = absurd (false≢true (sym e))

  within_so : (key : ℕ) → nat_lt (stop key) (length keys) ≡ true → local_among keys key ≡ stop key
  within_so key e = ap (λ b. option_map_or (λ n. n) (if b then Some (stop key) else None) (length keys + key)) e

  past_so : (key : ℕ) → nat_lt (stop key) (length keys) ≡ false → local_among keys key ≡ length keys + key
  past_so key e = ap (λ b. option_map_or (λ n. n) (if b then Some (stop key) else None) (length keys + key)) e

  pub one_local : (a b : ℕ) → local_among keys a ≡ local_among keys b → a ≡ b
  one_local a b same = by (nat_lt (stop a) (length keys)) (nat_lt (stop b) (length keys)) refl refl
    where
      by : (x y : Bool) → nat_lt (stop a) (length keys) ≡ x → nat_lt (stop b) (length keys) ≡ y → a ≡ b
      by true true e d =
          let l = ltb-true (stop a) (length keys) e in
          let m = ltb-true (stop b) (length keys) d in
          sym (stands a l) ∙ ap (λ n. get_or keys n 0) (sym (within_so a e) ∙ same ∙ within_so b d) ∙ stands b m
      by true false e d =
          let l = ltb-true (stop a) (length keys) e in
          let k = sym (within_so a e) ∙ same ∙ past_so b d in absurd (let never : ⊥ = omega (l, k, arith) in never)
      by false true e d =
          let l = ltb-true (stop b) (length keys) d in
          let k = sym (within_so b d) ∙ sym same ∙ past_so a e in absurd (let never : ⊥ = omega (l, k, arith) in never)
      by false false e d =
          let k : length keys + a ≡ length keys + b = sym (past_so a e) ∙ same ∙ past_so b d in omega (k, arith)

module _ (items : ItemTable) (body : BodyTree) {F : Type 0} (checks : Checks F) where
  abbrev pub needs : ℕ → Bool
  needs key = option_map_or (needs_drop items) (local_ty items body (local_of items body key)) false

  abbrev pub q : Effects (Checking F)
  q = checked items (local_ty items body) (local_of items body) (one_local (local_keys items body)) needs checks

  abbrev pub clear : Checking F → ℕ → Type 0
  clear = CheckedClear items (local_ty items body) (local_of items body) (one_local (local_keys items body)) needs checks

  pub keeps : KeepsClear q needs clear
  keeps = keeps_clear items (local_ty items body) (local_of items body) (one_local (local_keys items body)) needs checks

  -- a node of a checked free run leaves nothing behind but what stands in the scopes around it
  pub checked_so : (fuel : ℕ) (n : Node) (x : Standpoint) (standing : Standing) → Holds (typed (context items x) standing n) →
      Good items needs q clear keeps fuel (nodes_of n) →
      Sound items needs q clear keeps (context items x) (meaning items q fuel n)
  checked_so fuel n x standing h g = node_so items needs q clear keeps fuel n x standing h g
