-- What is decided of the drops of a body by the numbers of its paths, with the flags of a table in their place, is what is
-- decided by that table.
use Rattle.std.proofs.Common.{◌≡◌, ◌⊎◌, inl, inr, ◌∙◌, ◌∷◌, [], ◌+◌, ◌<◌, ◌≤◌, ℕ, zero, suc, Bool, true, false, List, Option, Some, None, filter, length, slice_get, if◌then◌else◌, sym, ap, subst, arith}
use Rattle.std.specs.Prelude.{slice_index_or, unwrap_or}
use Rattle.std.specs.List.{range_with_len}
use Rattle.std.proofs.lemmas.List.{length-map}
use Rattle.std.proofs.lemmas.List.FromFn.{length-range_with_len}
use Rattle.std.proofs.lemmas.Option.{none-some, same_Some, slice_get_within, slice_get_cases}
use Rattle.mir_ty.specs.ItemTable.{ItemTable}
use Rattle.mir_ty.proofs.ListLemmas.{Contains-slice_get}
use Rattle.store_model.specs.Places.Place.{Place}
use Rattle.cfg_graph.specs.declared.graph.Body.{Body}
use Rattle.cfg_graph.specs.Places.{named}
use Rattle.move_paths.specs.Forest.{PathForest, IsForest}
use Rattle.drop_elaborate.specs.Kinds.{AreFlagged}
use Rattle.drop_blocks.specs.View.{plan_in}
use Rattle.drop_blocks.specs.declared.plan.Plan.{Plan}
use Rattle.drop_ends.specs.declared.decided.Decided.{Decided}
use Rattle.drop_plans.specs.Plans.{flag_of}
use Rattle.drop_plans.specs.Tables.{AreTable}
use Rattle.drop_kinds.specs.Decided.{HasPlan, IsDecided, AreDecided}
use Rattle.drop_laws.specs.Ready.{IsReadyBody}
use Rattle.drop_laws.specs.Rungs.{reads}
use Rattle.drop_wants.proofs.Agreeing.{plan-as}
use Rattle.drop_wants.proofs.Chosen.{past-end}
use Rattle.drop_wants.proofs.Flagging.{own_numbers, from-to, asks-some, asked-path}
use Rattle.drop_wants.specs.Marks.{any_asks}
use Rattle.drop_wants.specs.Renumbered.{number_in, renumbered, IsRenumbered, AreRenumbered}

below-or-not : (m n : ℕ) → (m < n) ⊎ (n ≤ m)
below-or-not m zero = inr (omega arith)
below-or-not zero (suc n) = inl (omega arith)
below-or-not (suc m) (suc n) = elim (below-or-not m n) [
  | inl l ↦ inl (omega (l, arith))
  | inr l ↦ inr (omega (l, arith))
]

in-filter : {A : Type 0} (test : A → Bool) (xs : List A) (j : ℕ) (x : A) → slice_get xs j ≡ Some x → test x ≡ true →
    (k : ℕ) × (slice_get (filter test xs) k ≡ Some x)
in-filter test [] j x at on = absurd (none-some x at)
in-filter {A} test (y ∷ xs) zero x at on = (
  0,
  subst (λ (b : Bool). slice_get (if b then y ∷ filter test xs else filter test xs) 0 ≡ Some x)
      (sym (ap test (same_Some y x at) ∙ on)) at,
)
in-filter {A} test (y ∷ xs) (suc j) x at on = by (test y) (in-filter test xs j x at on)
  where
    by : (b : Bool) → (k : ℕ) × (slice_get (filter test xs) k ≡ Some x) →
        (k : ℕ) × (slice_get (if b then y ∷ filter test xs else filter test xs) k ≡ Some x)
    by true r = (suc r.0, r.1)
    by false r = r

module _ (items : ItemTable) (body : Body) (made : IsReadyBody items body) (forest : PathForest)
    (is : IsForest items body forest) (decided after : List Decided)
    (are : AreDecided items body forest.paths (flag_of (own_numbers (length forest.paths))) (length body.blocks) decided)
    (flagged : List Place) (are_flagged : AreFlagged items body forest.paths flagged) (first : ℕ) (table : List (Option ℕ))
    (tabled : AreTable forest.paths flagged first table) (rest : AreRenumbered (number_in table) decided after) where
  abbrev paths : List Place
  paths = forest.paths

  abbrev own : ℕ → Option ℕ
  own = flag_of (own_numbers (length paths))

  has-flag : (k : ℕ) → any_asks k decided ≡ true → flag_of table k ≡ Some (number_in table k)
  has-flag k h =
      let path = asked-path items body made forest is decided are k h in
      let on = (are_flagged.exact path.0 (Contains-slice_get paths k path.0 path.1)).1 path.2 in
      let there = in-filter are_flagged.test paths k path.0 path.1 on in
      let at : slice_get flagged there.0 ≡ Some path.0 =
      ap (λ (l : List Place). slice_get l there.0) are_flagged.those ∙ there.1 in
      let flag : slice_index_or table k None ≡ Some (first + there.0) = tabled.flag k there.0 path.0 path.1 at in
      flag ∙ ap Some (sym (ap (λ (o : Option ℕ). unwrap_or o k) flag))

  one-or-none : (n : ℕ) → ((own n ≡ None) × (flag_of table n ≡ None)) ⊎ (own n ≡ Some n)
  one-or-none n = elim (below-or-not n (length paths)) [
    | inl less ↦ inr (from-to 0 (length paths) n less ∙ (let z : 0 + n ≡ n = omega arith in ap Some z))
    | inr far ↦ inl (
      past-end (own_numbers (length paths)) n None
          (let l = length-map (range_with_len 0 (length paths)) Some in let m = length-range_with_len 0 (length paths) in
          omega (l, m, far, arith)),
      past-end table n None (let l = tabled.long in omega (l, far, arith)),
    )
  ]

  plan-now : (n : ℕ) (plan : Plan) (now : Plan) → slice_get decided n ≡ Some (Decided.Planned plan) →
      plan_in now ≡ renumbered (number_in table) (plan_in plan) → (place : Place) →
      HasPlan items body paths own n place (plan_in plan) → HasPlan items body paths (flag_of table) n place (plan_in now)
  plan-now n plan now at same place p = record {
    not_dead = p.not_dead;
    not_sure = p.not_sure;
    tree = p.tree;
    is_tree = p.is_tree;
    id = p.id;
    typed = p.typed;
    facts = p.facts;
    are_facts = p.are_facts;
    plan_is = same ∙ ap (renumbered (number_in table)) p.plan_is
        ∙ plan-as items p.facts own (flag_of table) (number_in table) one-or-none p.tree p.id
        (λ k h. has-flag k (asks-some k decided n (Decided.Planned plan) at (ap (reads k) p.plan_is ∙ h)));
  }

  decided-now : (n : ℕ) (place : Place) (how now : Decided) → slice_get decided n ≡ Some how →
      IsRenumbered (number_in table) how now → IsDecided items body paths own n place how →
      IsDecided items body paths (flag_of table) n place now
  decided-now n place Decided.Dead now at same dead =
      subst (λ (d : Decided). IsDecided items body paths (flag_of table) n place d) (sym same) dead
  decided-now n place Decided.Plain now at same plain =
      subst (λ (d : Decided). IsDecided items body paths (flag_of table) n place d) (sym same) plain
  decided-now n place (Decided.Planned plan) now at same p =
      subst (λ (d : Decided). IsDecided items body paths (flag_of table) n place d) (sym same.1)
      (plan-now n plan same.0 at same.2 place p)

  dead-now : (how now : Decided) → how ≡ Decided.Dead → IsRenumbered (number_in table) how now → now ≡ Decided.Dead
  dead-now how now dead same = subst (λ (d : Decided). IsRenumbered (number_in table) d now) dead same

  -- what was decided of the drop of a block
  before : (n : ℕ) (now : Decided) → slice_get after n ≡ Some now →
      (how : Decided) × (slice_get decided n ≡ Some how) × IsRenumbered (number_in table) how now
  before n now at = elim ((slice_get_cases decided n).1) [
    | inl it ↦ (it.0, it.2, rest.each n it.0 now it.2 at)
    | inr past ↦ (let w = slice_get_within after n now at in let l = rest.long in let f = past.0 in
        absurd (let never : ⊥ = omega (w, l, f, arith) in never))
  ]

  pub decided-by-table : AreDecided items body paths (flag_of table) (length body.blocks) after
  decided-by-table = record {
    long = rest.long ∙ are.long;
    each = λ n block place now ends at.
        let was = before n now at in
        decided-now n (named place) was.0 now was.1 was.2 (are.each n block place was.0 ends was.1);
    others = λ n block now there other at.
        let was = before n now at in dead-now was.0 now (are.others n block was.0 there other was.1) was.2;
  }
