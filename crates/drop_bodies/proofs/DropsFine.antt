-- What is made for a drop, by what is decided of it, is fine.
use Rattle.std.proofs.Common.{◌≡◌, ◌∷◌, [], ◌+◌, ◌<◌, ◌&&◌, ℕ, suc, Bool, true, false, is_some, List, Option, Some, None, length, map, slice_get, refl, sym, subst, arith, if◌then◌else◌}
use Rattle.std.specs.Prelude.{option_and_then}
use Rattle.std.specs.List.{list_all}
use Rattle.std.specs.Option.{option_map_or}
use Rattle.std.specs.Cmp.{first_so, second_so}
use Rattle.std.proofs.lemmas.Option.{none-some, same_Some}
use Rattle.mir_base.specs.declared.int_kind.IntKind.{IntKind}
use Rattle.mir_ty.specs.declared.ty.Ty.{Ty}
use Rattle.mir_ty.specs.declared.ty.TyId.{TyId}
use Rattle.mir_ty.specs.ItemTable.{ItemTable, type_at}
use Rattle.store_model.specs.Places.Place as plain
use Rattle.store_model.specs.Places.TypeForms.{is_int}
use Rattle.cfg_graph.specs.declared.graph.Block.{Block}
use Rattle.cfg_graph.specs.declared.graph.Body.{Body}
use Rattle.cfg_graph.specs.declared.place.Place.{Place}
use Rattle.cfg_graph.specs.declared.terminator.Term.{Term}
use Rattle.cfg_graph.specs.declared.terminator.Unwind.{Unwind}
use Rattle.cfg_graph.specs.NamedPlaces.{same_place}
use Rattle.cfg_graph.specs.Places.{named, index_locals, ty_of_place}
use Rattle.cfg_graph.specs.Uses.{PlaceUse, Drops, Stores, places_of_term, stored_by_term}
use Rattle.cfg_graph.specs.WellFormed.LineFaults.{locals_exist}
use Rattle.cfg_graph.specs.WellFormed.Typing.{is_typed_place, term_is_typed}
use Rattle.move_paths.specs.Forest.{PathForest, IsForest}
use Rattle.drop_elaborate.proofs.ReadyBody.{BodyIsReady}
use Rattle.drop_elaborate.specs.Elaborated.{place_number, flag_of, flag_at, flags_of_uses, kind_after}
use Rattle.drop_bodies.proofs.EndsKept.{EndFine, StoresFine}
use Rattle.drop_bodies.proofs.LadderKept.{RungsFine}
use Rattle.drop_ends.specs.declared.decided.Decided.{Decided}
use Rattle.drop_blocks.specs.View.{plan_in}
use Rattle.drop_blocks.specs.declared.plan.Plan.{Plan}
use Rattle.drop_kinds.specs.Decided.{HasPlan, IsDecided, AreDecided}
use Rattle.drop_bodies.proofs.BodyFaults.{NoFaultIn}
use Rattle.drop_bodies.proofs.Faultless.{places-exist, term-typed}
use Rattle.drop_bodies.proofs.LinesFine.{of_locals, Good, IsFlag, drops-fine, frees-fine, flags-fine, cases-fine}
use Rattle.drop_bodies.proofs.PlansFine.{rungs-fine}
use Rattle.drop_bodies.proofs.StoresFine.{FineHere, uses-fine, stores-fine}
use Rattle.drop_bodies.proofs.TypedTrees.{typed-tree}

-- the number of a place in a list is below its length
number-less : (place : plain.Place) (places : List plain.Place) (from n : ℕ) → place_number place places from ≡ Some n →
    (index : ℕ) × (index < length places) × (n ≡ from + index)
number-less place [] from n e = absurd (none-some n e)
number-less place (other ∷ others) from n e = by (same_place place other) e (number-less place others (suc from) n)
  where
    by : (b : Bool) → (if b then Some from else place_number place others (suc from)) ≡ Some n →
        (place_number place others (suc from) ≡ Some n → (index : ℕ) × (index < length others) × (n ≡ suc from + index)) →
        (index : ℕ) × (index < length (other ∷ others)) × (n ≡ from + index)
    by true e again =
        let same = same_Some from n e in
        (0, (let z : 0 < suc (length others) = omega arith in z), (let z : n ≡ from + 0 = omega (same, arith) in z))
    by false e again =
        let r = again e in
        let less = r.1 in
        let is = r.2 in
        (suc r.0, (let z : suc r.0 < suc (length others) = omega (less, arith) in z), (let z : n ≡ from + suc r.0 = omega (is, arith) in z))

module _ (items : ItemTable) (bodies number : ℕ) (body : Body) (none : NoFaultIn items bodies number body)
    (all_bodies : ℕ) (ready : BodyIsReady items all_bodies body) (forest : PathForest) (is_forest : IsForest items body forest)
    (flag_ty : TyId) (flag_is : type_at items flag_ty ≡ Some Ty.Bool) (flagged : List plain.Place) (decided : List Decided)
    (are_decided : AreDecided items body forest.paths (flag_of items body flagged forest.paths) (length body.blocks) decided) where
  abbrev Flag : ℕ → Type 0
  Flag flag = IsFlag items bodies body.locals flag_ty (length flagged) flag_is flag

  are-flags : (k flag : ℕ) → flag_of items body flagged forest.paths k ≡ Some flag → Flag flag
  are-flags k flag e = by (slice_get forest.paths k) e
    where
      of : (o : Option ℕ) (path : plain.Place) → place_number path flagged 0 ≡ o →
          option_map_or (λ n. Some (flag_at items body flagged n)) o None ≡ Some flag → Flag flag
      of None path is e = absurd (none-some flag e)
      of (Some n) path is e =
          let r = number-less path flagged 0 n is in
          let sum = r.2 in record {
            number = n;
            less = (let l = r.1 in omega (l, sum, arith));
            is = sym (same_Some (flag_at items body flagged n) flag e);
          }

      by : (o : Option plain.Place) →
          option_and_then (λ path. option_map_or (λ n. Some (flag_at items body flagged n)) (place_number path flagged 0) None) o
          ≡ Some flag → Flag flag
      by None e = absurd (none-some flag e)
      by (Some path) e = of (place_number path flagged 0) path refl e

  module _ (n : ℕ) (block : Block) (at : slice_get body.blocks n ≡ Some block) (place : Place) (next : ℕ) (unwind : Unwind)
      (is : block.term ≡ Term.DropAt place next unwind) where
    good : Good items bodies body.locals flag_ty (length flagged) flag_is place.local (index_locals place.steps)
    good = record {
      exist = first_so (locals_exist items bodies (of_locals body.locals) place) true
          (subst (λ t. list_all (locals_exist items bodies (of_locals body.locals)) (places_of_term t) ≡ true) is
          (places-exist items bodies number body none n block at));
      are_indices = second_so (is_some (ty_of_place items body.locals place)) (indices place) (first_so (is_typed_place items body.locals place) true
          (first_so (is_typed_place items body.locals place && true) true
          (first_so ((is_typed_place items body.locals place && true) && true) true
          (first_so (((is_typed_place items body.locals place && true) && true) && true) true
          (subst (λ t. term_is_typed items body.locals t ≡ true) is (term-typed items bodies number body none n block at))))));
    }
      where
        indices : Place → Bool
        indices place = list_all (λ local. is_int IntKind.Usize (option_and_then (type_at items) (slice_get body.locals local))) (index_locals place.steps)

    planned-fine : (plan : Plan) → HasPlan items body forest.paths (flag_of items body flagged forest.paths) n (named place) (plan_in plan) →
        RungsFine (FineHere items bodies body flag_ty flag_is flagged) (plan_in plan) place
    planned-fine plan p =
        subst (λ q. RungsFine (FineHere items bodies body flag_ty flag_is flagged) q place) (sym p.plan_is)
        (rungs-fine items body.locals (Good items bodies body.locals flag_ty (length flagged) flag_is)
        (FineHere items bodies body flag_ty flag_is flagged) (IsFlag items bodies body.locals flag_ty (length flagged) flag_is)
        (drops-fine items bodies body.locals flag_ty (length flagged) flag_is)
        (frees-fine items bodies body.locals flag_ty (length flagged) flag_is)
        (flags-fine items bodies body.locals flag_ty (length flagged) flag_is)
        (cases-fine items bodies body.locals flag_ty (length flagged) flag_is)
        p.facts (flag_of items body flagged forest.paths) are-flags p.tree p.id place
        (record { typed = p.typed; good = good })
        (typed-tree items all_bodies body ready forest is_forest (named place) p.tree p.id p.typed p.is_tree))

  fine-stores : (uses : List (PlaceUse × Place)) →
      StoresFine (FineHere items bodies body flag_ty flag_is flagged) (flags_of_uses items body flagged uses)
  fine-stores uses =
      stores-fine items bodies body flag_ty flag_is flagged (flags_of_uses items body flagged uses)
      (uses-fine items bodies body flag_ty flag_is flagged uses)

  pub ends-fine : (n : ℕ) (block : Block) (how : Decided) → slice_get body.blocks n ≡ Some block →
      slice_get decided n ≡ Some how → EndFine (FineHere items bodies body flag_ty flag_is flagged) items body flagged
      (kind_after items body flagged body block.kind) how block.term
  ends-fine n block how at at_how = by block.term refl
    where
      fine-by : (place : Place) (next : ℕ) (unwind : Unwind) → block.term ≡ Term.DropAt place next unwind → (h : Decided) →
          IsDecided items body forest.paths (flag_of items body flagged forest.paths) n (named place) h →
          EndFine (FineHere items bodies body flag_ty flag_is flagged) items body flagged
          (kind_after items body flagged body block.kind) h (Term.DropAt place next unwind)
      fine-by place next unwind is Decided.Dead d =
          (fine-stores ((Drops, place) ∷ []), tt)
      fine-by place next unwind is Decided.Plain d =
          (fine-stores ((Drops, place) ∷ []), tt)
      fine-by place next unwind is (Decided.Planned plan) d = (
        fine-stores ((Drops, place) ∷ []),
        planned-fine n block at place next unwind is plan d,
      )

      by : (t : Term) → block.term ≡ t → EndFine (FineHere items bodies body flag_ty flag_is flagged) items body flagged
          (kind_after items body flagged body block.kind) how t
      by (Term.DropAt place next unwind) is =
          fine-by place next unwind is how (are_decided.each n block place how (at, (next, unwind, is)) at_how)
      by other is = fine-stores (map (λ place. (Stores, place)) (stored_by_term other))
