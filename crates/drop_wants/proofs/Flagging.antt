-- The bits that plans with a flag for each path turn on are those of the paths that need a flag.
use Rattle.std.proofs.Common.{◌≡◌, inl, inr, ◌∙◌, ◌∷◌, [], ◌<◌, ◌+◌, ℕ, zero, suc, Bool, true, false, ◌||◌, List, Option, Some, None, length, map, slice_get, refl, sym, ap, subst, arith}
use Rattle.std.specs.Prelude.{slice_index_or}
use Rattle.std.specs.List.{range_with_len}
use Rattle.std.proofs.lemmas.Bool.{false≢true}
use Rattle.std.proofs.lemmas.Option.{none-some, same_Some, slice_get_within, slice_get_cases}
use Rattle.mir_ty.specs.ItemTable.{ItemTable}
use Rattle.mir_ty.proofs.ListLemmas.{slice_get-Contains}
use Rattle.store_model.specs.Places.Place.{Place}
use Rattle.cfg_graph.specs.declared.graph.Block.{Block}
use Rattle.cfg_graph.specs.declared.graph.Body.{Body}
use Rattle.cfg_graph.specs.declared.place.Place as graph
use Rattle.cfg_graph.specs.declared.terminator.Term.{Term}
use Rattle.cfg_graph.specs.declared.terminator.Unwind.{Unwind}
use Rattle.cfg_graph.specs.Places.{named}
use Rattle.init_flow.specs.Carried.{Bits}
use Rattle.move_paths.specs.Forest.{PathForest, IsForest}
use Rattle.drop_elaborate.specs.Elaborated.{is_drop}
use Rattle.drop_elaborate.specs.Kinds.{IsDrop, IsFlagged, AreFlagged}
use Rattle.drop_blocks.specs.View.{plan_in}
use Rattle.drop_blocks.specs.declared.plan.Plan.{Plan}
use Rattle.drop_ends.specs.declared.decided.Decided.{Decided}
use Rattle.drop_plans.specs.Plans.{flag_of}
use Rattle.drop_kinds.proofs.Deciding.{bodies, ready, fine}
use Rattle.drop_laws.proofs.NeedsRead.{needs-read}
use Rattle.drop_laws.proofs.ReadFlags.{read-needs}
use Rattle.drop_kinds.specs.Decided.{IsDecided, AreDecided}
use Rattle.drop_laws.specs.Ready.{IsReadyBody}
use Rattle.drop_laws.specs.Rungs.{reads}
use Rattle.drop_wants.specs.Marks.{asks, any_asks, chosen, IsWanted}
use Rattle.drop_wants.proofs.Chosen.{bit_of, bit-is, chosen-filtered}

-- ---- each path has its own number as its flag

abbrev pub own_numbers : ℕ → List (Option ℕ)
own_numbers count = map Some (range_with_len 0 count)

pub from-to : (n count i : ℕ) → i < count → slice_index_or (map Some (range_with_len n count)) i None ≡ Some (n + i)
from-to n zero i less = absurd (omega (less, arith))
from-to n (suc count) zero less = (let z : n ≡ n + 0 = omega arith in ap Some z)
from-to n (suc count) (suc i) less =
    from-to (n + 1) count i (omega (less, arith)) ∙ (let z : n + 1 + i ≡ n + suc i = omega arith in ap Some z)

past-to : (n count i k : ℕ) → slice_index_or (map Some (range_with_len n count)) i None ≡ Some k → k ≡ n + i
past-to n zero i k e = absurd (none-some k e)
past-to n (suc count) zero k e = (let s = same_Some n k e in omega (s, arith))
past-to n (suc count) (suc i) k e = (let r = past-to (n + 1) count i k e in omega (r, arith))

some-asks : (k : ℕ) (decided : List Decided) → any_asks k decided ≡ true →
    (n : ℕ) × (how : Decided) × (slice_get decided n ≡ Some how) × (asks k how ≡ true)
some-asks k [] h = absurd (false≢true h)
some-asks k (how ∷ rest) h = by (asks k how) refl h (some-asks k rest)
  where
    by : (b : Bool) → asks k how ≡ b → (b || any_asks k rest) ≡ true →
        (any_asks k rest ≡ true → (n : ℕ) × (h : Decided) × (slice_get rest n ≡ Some h) × (asks k h ≡ true)) →
        (n : ℕ) × (h : Decided) × (slice_get (how ∷ rest) n ≡ Some h) × (asks k h ≡ true)
    by true e h again = (0, how, refl, e)
    by false e h again = let r = again h in (suc r.0, r.1, r.2, r.3)

pub asks-some : (k : ℕ) (decided : List Decided) (n : ℕ) (how : Decided) → slice_get decided n ≡ Some how →
    asks k how ≡ true →
    any_asks k decided ≡ true
asks-some k [] n how e h = absurd (none-some how e)
asks-some k (other ∷ rest) zero how e h =
    ap (λ (b : Bool). b || any_asks k rest) (ap (asks k) (same_Some other how e) ∙ h)
asks-some k (other ∷ rest) (suc n) how e h = or-right (asks k other) (any_asks k rest) (asks-some k rest n how e h)
  where
    or-right : (a b : Bool) → b ≡ true → (a || b) ≡ true
    or-right true b h = refl
    or-right false b h = h

drop-is : (term : Term) → is_drop term ≡ true →
    (place : graph.Place) × (next : ℕ) × (unwind : Unwind) × (term ≡ Term.DropAt place next unwind)
drop-is (Term.DropAt place next unwind) h = (place, next, unwind, refl)
drop-is _ h = absurd (false≢true h)

module _ (items : ItemTable) (body : Body) (made : IsReadyBody items body) (forest : PathForest)
    (is : IsForest items body forest)
    (decided : List Decided)
    (are : AreDecided items body forest.paths (flag_of (own_numbers (length forest.paths)))
    (length body.blocks) decided) where
  abbrev paths : List Place
  paths = forest.paths

  abbrev pub numbered : ℕ → Option ℕ
  numbered = flag_of (own_numbers (length paths))

  by_number : (number k : ℕ) → numbered number ≡ Some k → k ≡ number
  by_number number k e = let r = past-to 0 (length paths) number k e in omega (r, arith)

  all_have : (number : ℕ) (q : Place) → slice_get paths number ≡ Some q → numbered number ≡ Some number
  all_have number q e =
      from-to 0 (length paths) number (slice_get_within paths number q e)
      ∙ (let z : 0 + number ≡ number = omega arith in ap Some z)

  -- a flag that is read is that of a path that some drop needs
  abbrev pub AsksFor : ℕ → Type 0
  AsksFor k = (q : Place) × (slice_get paths k ≡ Some q) × IsFlagged items body paths q

  pub asked-path : (k : ℕ) → any_asks k decided ≡ true → AsksFor k
  asked-path k h = let r = some-asks k decided h in by r.0 r.1 r.2 r.3
    where
      at-drop : (n : ℕ) (block : Block) (plan : Plan) → slice_get body.blocks n ≡ Some block →
          slice_get decided n ≡ Some (Decided.Planned plan) → reads k (plan_in plan) ≡ true →
          is_drop block.term ≡ true →
          AsksFor k
      at-drop n block plan there here h d =
          let e = drop-is block.term d in
          let p = are.each n block e.0 (Decided.Planned plan) (there, (e.1, e.2, e.3)) here in
          let needed = read-needs items (bodies items body made) body (ready items body made)
          (fine items body made) forest is n
          p.facts p.are_facts numbered by_number all_have (named e.0) p.not_dead p.not_sure p.tree p.id p.is_tree
          p.typed k
          (ap (reads k) (sym p.plan_is) ∙ h) in (
            needed.0,
            needed.1,
            (
              n,
              named e.0,
              record {
                block = block;
                there = there;
                dropped = e.0;
                next = e.1;
                unwind = e.2;
                term_is = e.3;
                place_is =
                    refl;
              },
              needed.2,
            ),
          )

      at-block : (n : ℕ) (block : Block) (plan : Plan) → slice_get body.blocks n ≡ Some block →
          slice_get decided n ≡ Some (Decided.Planned plan) → reads k (plan_in plan) ≡ true → (b : Bool) →
          is_drop block.term ≡ b →
          AsksFor k
      at-block n block plan there here h true d = at-drop n block plan there here h d
      at-block n block plan there here h false d =
          absurd (false≢true (sym (ap (asks k) (are.others n block (Decided.Planned plan) there d here)) ∙ h))

      by : (n : ℕ) (how : Decided) → slice_get decided n ≡ Some how → asks k how ≡ true → AsksFor k
      by n Decided.Dead here h = absurd (false≢true h)
      by n Decided.Plain here h = absurd (false≢true h)
      by n (Decided.Planned plan) here h = elim ((slice_get_cases body.blocks n).1) [
        | inl it ↦ at-block n it.0 plan it.2 here h (is_drop it.0.term) refl
        | inr past ↦ (let w = slice_get_within decided n (Decided.Planned plan) here in let l = are.long in
            let f = past.0 in
            absurd (let never : ⊥ = omega (w, l, f, arith) in never))
      ]

  asked-flagged : (k : ℕ) (q : Place) → slice_get paths k ≡ Some q → any_asks k decided ≡ true →
      IsFlagged items body paths q
  asked-flagged k q at h =
      let r = asked-path k h in
      subst (λ (z : Place). IsFlagged items body paths z) (same_Some r.0 q (sym r.1 ∙ at)) r.2

  -- and the other way
  flagged-asked : (k : ℕ) (q : Place) → slice_get paths k ≡ Some q → IsFlagged items body paths q →
      any_asks k decided ≡ true
  flagged-asked k q at f = elim ((slice_get_cases decided f.0).1) [
    | inl it ↦ asks-some k decided f.0 it.0 it.2
        (by it.0 (subst (λ (z : Place). IsDecided items body paths numbered f.0 z it.0)
        (sym drop.place_is) (are.each f.0 drop.block drop.dropped it.0
        (drop.there, (drop.next, drop.unwind, drop.term_is)) it.2)))
    | inr past ↦ (let w = slice_get_within body.blocks f.0 drop.block drop.there in let l = are.long in
        let z = past.0 in
        absurd (let never : ⊥ = omega (w, l, z, arith) in never))
  ]
    where
      drop : IsDrop items body f.0 f.1
      drop = f.2

      by : (how : Decided) → IsDecided items body paths numbered f.0 f.1 how → asks k how ≡ true
      by Decided.Dead dead = absurd (f.3.not_dead dead)
      by Decided.Plain plain = absurd (f.3.not_sure plain.1)
      by (Decided.Planned plan) p =
          ap (reads k) p.plan_is
          ∙ needs-read items (bodies items body made) body (ready items body made) (fine items body made) forest is f.0
          p.facts p.are_facts numbered by_number all_have f.1 p.tree p.id p.is_tree p.typed k q at f.3

  pub flagged-are : (row : Bits) → IsWanted (length paths) decided row → AreFlagged items body paths (chosen row paths)
  flagged-are row want = record {
    test = bit_of row paths;
    exact = λ q has.
        let at = slice_get-Contains paths q has in
        let bit = bit-is row paths is.once has.0 q at ∙ want.bits has.0 (slice_get_within paths has.0 q at) in
        (λ on. asked-flagged has.0 q at (sym bit ∙ on), λ f. bit ∙ flagged-asked has.0 q at f);
    those = chosen-filtered (bit_of row paths) row paths want.long (λ k q at. bit-is row paths is.once k q at);
  }
