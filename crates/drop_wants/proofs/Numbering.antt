-- The numbers of places in a list, and a table of flags by the numbers of paths.
use Rattle.std.proofs.Common.{◌≡◌, ◌⊎◌, inl, inr, ◌∙◌, ◌∷◌, [], ◌+◌, ◌<◌, ℕ, zero, suc, Bool, true, false, List, Option, Some, None, length, slice_get, refl, sym, ap, arith, if◌then◌else◌}
use Rattle.std.specs.Prelude.{option_and_then, slice_index_or}
use Rattle.std.specs.Option.{option_map_or}
use Rattle.std.proofs.Math.Path.{fun_ext}
use Rattle.std.proofs.lemmas.Bool.{false≢true}
use Rattle.std.proofs.lemmas.Option.{none-some, same_Some}
use Rattle.mir_ty.specs.ItemTable.{ItemTable}
use Rattle.mir_ty.proofs.ListLemmas.{slice_get-Contains}
use Rattle.store_model.specs.Places.Place.{Place}
use Rattle.cfg_graph.specs.declared.graph.Body.{Body}
use Rattle.cfg_graph.specs.NamedPlaces.{same_place}
use Rattle.drop_elaborate.proofs.Refilled.{same-places, same-itself}
use Rattle.drop_elaborate.specs.Elaborated as rules
use Rattle.drop_elaborate.specs.Elaborated.{place_number}
use Rattle.drop_plans.specs.Plans.{flag_of}
use Rattle.drop_plans.specs.Tables.{AreTable}

-- a place has a number in a list, or is not there
abbrev IsNumber : Place → List Place → ℕ → Option ℕ → Type 0
IsNumber place places from o =
    ((j : ℕ) × (o ≡ Some (from + j)) × (slice_get places j ≡ Some place))
    ⊎ ((o ≡ None) × ((j : ℕ) → slice_get places j ≡ Some place → ⊥))

number-in : (place : Place) (places : List Place) (from : ℕ) →
    IsNumber place places from (place_number place places from)
number-in place [] from = inr (refl, λ j e. none-some place e)
number-in place (other ∷ others) from = by (same_place place other) refl (number-in place others (suc from))
  where
    by : (b : Bool) → same_place place other ≡ b →
        IsNumber place others (suc from) (place_number place others (suc from)) →
        IsNumber place (other ∷ others) from (if b then Some from else place_number place others (suc from))
    by true e rest =
        inl (0, (let z : from ≡ from + 0 = omega arith in ap Some z), ap Some (sym (same-places place other e)))
    by false e (inl r) =
        inl (suc r.0, r.1 ∙ (let z : suc from + r.0 ≡ from + suc r.0 = omega arith in ap Some z), r.2)
    by false e (inr r) = inr (r.0, λ j at. none j at)
      where
        none : (j : ℕ) → slice_get (other ∷ others) j ≡ Some place → ⊥
        none zero at =
            false≢true (sym e ∙ ap (same_place place) (same_Some other place at) ∙ same-itself place)
        none (suc j) at = r.1 j at

module _ (items : ItemTable) (body : Body) (paths flagged : List Place) (table : List (Option ℕ))
    (are : AreTable paths flagged (length body.locals) table) where
  at-number : (number : ℕ) → flag_of table number ≡ rules.flag_of items body flagged paths number
  at-number number = by (slice_get paths number) refl
    where
      past : slice_get paths number ≡ None → slice_index_or table number None ≡ None
      past none = none-at table number (λ less. within paths number none (let l = are.long in omega (less, l, arith)))
        where
          within : (xs : List Place) (i : ℕ) → slice_get xs i ≡ None → i < length xs → ⊥
          within [] i e less = omega (less, arith)
          within (x ∷ xs) zero e less = none-some x (sym e)
          within (x ∷ xs) (suc i) e less = within xs i e (omega (less, arith))

          none-at : (xs : List (Option ℕ)) (i : ℕ) → (i < length xs → ⊥) → slice_index_or xs i None ≡ None
          none-at [] i past_it = refl
          none-at (x ∷ xs) zero past_it = absurd (past_it (omega arith))
          none-at (x ∷ xs) (suc i) past_it = none-at xs i (λ less. past_it (omega (less, arith)))

      here : (path : Place) → slice_get paths number ≡ Some path → (o : Option ℕ) → IsNumber path flagged 0 o →
          slice_index_or table number None ≡ option_map_or (λ n. Some (length body.locals + n)) o None
      here path at o (inl r) =
          are.flag number r.0 path at r.2
          ∙ sym (ap (λ (z : Option ℕ). option_map_or (λ n. Some (length body.locals + n)) z None)
          (r.1 ∙ (let z : 0 + r.0 ≡ r.0 = omega arith in ap Some z)))
      here path at o (inr r) =
          are.none number path at (λ has. r.1 has.0 (slice_get-Contains flagged path has))
          ∙ sym (ap (λ (z : Option ℕ). option_map_or (λ n. Some (length body.locals + n)) z None) r.0)

      by : (o : Option Place) → slice_get paths number ≡ o → slice_index_or table number None
          ≡ option_and_then (λ path. option_map_or (λ n. Some (length body.locals + n))
          (place_number path flagged 0) None) o
      by None e = past e
      by (Some path) e = here path e (place_number path flagged 0) (number-in path flagged 0)

  pub table-is : flag_of table ≡ rules.flag_of items body flagged paths
  table-is = fun_ext at-number
