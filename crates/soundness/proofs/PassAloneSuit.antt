-- Of what is asked of the arguments of a call the text tells, by the numbers of their nodes: their locals differ, none
-- is in what another names, and what does not overlap lies apart.
use Rattle.std.proofs.Common.{◌≡◌, ℕ, ◌<◌, ◌==◌, ◌&&◌, not, Bool, true, false, List, ◌++◌, map, ap, arith}
use Rattle.std.specs.Cmp.Derive.{both_true}
use Rattle.store_model.specs.Places.Place.{Place}
use Rattle.typed_tree.specs.Nodes.{nodes_of, nodes_in, nodes_among}
use Rattle.typed_tree.specs.Tree.{node, Nodes, no_node, a_node, BodyTree}
use Rattle.mir_ty.specs.ItemTable.{ItemTable}
use Rattle.src_meaning.specs.Locals.Effects.{place_at, step_at}
use Rattle.src_meaning.specs.Locals.OfBody.{local_ty, local_of, local_keys}
use Rattle.typing_rules.specs.Accesses as rules
use Rattle.typing_rules.specs.Accesses.{AccessPlace}
use Rattle.soundness_values.proofs.CheckedBodies.{is_reference_param}
use Rattle.soundness_values.proofs.Checks.{are_apart, meet}
use Rattle.soundness_values.proofs.Facts.{takes_index}
use Rattle.soundness_values.proofs.NoOverlap.{Seen}
use Rattle.soundness.proofs.PassAloneArgs.{locals_in}
use Rattle.soundness_frame.proofs.PassArgsLeft.{Differs, Distinct}
use Rattle.soundness.proofs.PassBorrowApart.{no_index}
use Rattle.soundness_cells.proofs.PassCells.{Above, rising}
use Rattle.soundness_frame.proofs.PassKeys.{Keys, KeysIn}
use Rattle.soundness_frame.proofs.PassPlacesApart.{locals_differ, none_common}
use Rattle.soundness_cells.proofs.PassRest.{own_local}
use Rattle.soundness_frame.proofs.PassToldPlaces.{Rises, above_right, rises_right}

module _ (items : ItemTable) (body : BodyTree) where
  abbrev keys : List ℕ
  keys = local_keys items body

  abbrev local : ℕ → ℕ
  local = local_of items body

  differs : (key : ℕ) (ns : Nodes) → Above key (nodes_among ns) →
      Differs items (local_ty items body) (is_reference_param items body) (own_local items body) (local key)
      (locals_in items body ns)
  differs key no_node a = tt
  differs key (a_node (node id at ty by form) rest) a = (
    locals_differ keys id key (λ e.
        let less : key < id = a.0 in let same : id ≡ key = e in
        absurd (let never : ⊥ = omega (less, same, arith) in never)),
    differs key rest (above_right key (nodes_in form) (nodes_among rest) a.1),
  )

  -- the locals of arguments differ
  pub distinct : (ns : Nodes) → Rises (nodes_among ns) →
      Distinct items (local_ty items body) (is_reference_param items body) (own_local items body)
      (locals_in items body ns)
  distinct no_node r = tt
  distinct (a_node (node id at ty by form) rest) r = (
    differs id rest (above_right id (nodes_in form) (nodes_among rest)
        (rising (node id at ty by form) (nodes_in form ++ nodes_among rest) r).0),
    distinct rest (rises_right (nodes_of (node id at ty by form)) (nodes_among rest) r),
  )

  -- a local is off a place with other keys
  pub local_off : (id : ℕ) (place : Place) → Keys (λ k. k ≡ id → ⊥) place →
      (((place_at local place).local == local id) ≡ false)
      × (takes_index (local id) (place_at local place).steps ≡ false)
  local_off id place k =
      (locals_differ keys place.local id (λ e. absurd (k.0 e)), no_index keys id place.steps k.1)

  all_so : (o i j : Bool) → o ≡ false → i ≡ false → j ≡ false → (not o && (not i && not j)) ≡ true
  all_so o i j e f g = both_true (ap not e) (both_true (ap not f) (ap not g))

  -- places that do not overlap as they are seen, neither an index on the way to the other
  pub seen_apart : (a c : AccessPlace) (q r : Place) → Seen a q → Seen c r → rules.overlap a c ≡ false →
      KeysIn (λ k. k ≡ q.local → ⊥) r.steps → KeysIn (λ k. k ≡ r.local → ⊥) q.steps →
      are_apart (place_at local q) (place_at local r) ≡ true
  seen_apart a c q r s t o i j = all_so _ _ _ (none_common keys a c q r s t o) (no_index keys q.local r.steps i)
      (no_index keys r.local q.steps j)

  -- or in other locals, one of them a temporary
  pub roots_apart : (q r : Place) → (q.local ≡ r.local → ⊥) → KeysIn (λ k. k ≡ q.local → ⊥) r.steps →
      KeysIn (λ k. k ≡ r.local → ⊥) q.steps → are_apart (place_at local q) (place_at local r) ≡ true
  roots_apart q r d i j = all_so _ _ _
      (ap (λ c. c && meet (map (step_at local) q.steps) (map (step_at local) r.steps))
      (locals_differ keys q.local r.local (λ e. absurd (d e))))
      (no_index keys q.local r.steps i) (no_index keys r.local q.steps j)
