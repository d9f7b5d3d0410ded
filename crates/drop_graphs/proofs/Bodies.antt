-- The bodies of a graph are elaborated one after another, and their drops are counted.
use Rattle.std.proofs.Common.{◌≡◌, ◌⊎◌, inl, inr, ◌∙◌, ◌∷◌, [], ◌++◌, ◌+◌, ◌-◌, ◌<◌, ◌^◌, ℕ, List, Some, get_or, length, slice_get, refl, sym, ap, subst, arith}
use Rattle.std.specs.Prelude.{sum_by}
use Rattle.std.proofs.lemmas.List.{length-append}
use Rattle.std.proofs.lemmas.List.Sums.{sum_by-append, sum_by-cons}
use Rattle.std.proofs.lemmas.Option.{none-some, same_Some, slice_get_within, slice_get-get_or, slice_get_cases}
use Rattle.mir_ty.proofs.ListLemmas.{slice_get-push_cases}
use Rattle.mir_ty.specs.ItemTable.{ItemTable}
use Rattle.cfg_graph.specs.declared.graph.Body.{Body}
use Rattle.cfg_graph.specs.declared.graph.Graph.{Graph}
use Rattle.drop_elaborate.specs.Elaborated.{IsElaboratedBody, IsElaboration}
use Rattle.drop_elaborate.specs.Totals.{DropTotals, AreTotals, AreSums}
use Rattle.cfg_graph.specs.WellFormed.Faults.{IsCounted, IsCountedBody, IsWellFormed}
use Rattle.drop_bodies.proofs.BodyFaults.{NoFaultIn, taken-apart, put-together}
use Rattle.drop_bodies.specs.Counts.{no_drops, both}
use Rattle.drop_bodies.specs.Faults.{AddsNoFault}
use Rattle.drop_graphs.proofs.Faultless.{well-formed-too}

-- the first bodies, so many, and how many drops of theirs are of each kind
pub record AreFirst (raw : Graph) (count : ℕ) (bodies : List Body) (sums : DropTotals) : Type 0 where
  pub long : length bodies ≡ count
  pub each : (n : ℕ) (body after : Body) → slice_get raw.bodies n ≡ Some body → slice_get bodies n ≡ Some after →
      IsElaboratedBody raw.items body after
  pub faultless : (n : ℕ) (body after : Body) → slice_get raw.bodies n ≡ Some body → slice_get bodies n ≡ Some after →
      AddsNoFault raw.items body after
  pub short : (n : ℕ) (after : Body) → slice_get bodies n ≡ Some after → IsCountedBody after
  pub of_bodies : List DropTotals
  pub counted : length of_bodies ≡ count
  pub totals : (n : ℕ) (body after : Body) (t : DropTotals) → slice_get raw.bodies n ≡ Some body →
      slice_get bodies n ≡ Some after → slice_get of_bodies n ≡ Some t → AreTotals raw.items body after t
  pub dead : sums.dead ≡ sum_by (λ t. t.dead) of_bodies
  pub plain : sums.plain ≡ sum_by (λ t. t.plain) of_bodies
  pub conditional : sums.conditional ≡ sum_by (λ t. t.conditional) of_bodies
  pub opened : sums.opened ≡ sum_by (λ t. t.opened) of_bodies
  pub flags : sums.flags ≡ sum_by (λ t. t.flags) of_bodies

pub none-first : (raw : Graph) → AreFirst raw 0 [] (no_drops 0)
none-first raw = record {
  long = refl;
  each = λ n body after at there. absurd (none-some after there);
  faultless = λ n body after at there. absurd (none-some after there);
  short = λ n after there. absurd (none-some after there);
  of_bodies = [];
  counted = refl;
  totals = λ n body after t at there is. absurd (none-some after there);
  dead = refl;
  plain = refl;
  conditional = refl;
  opened = refl;
  flags = refl;
}

sum-more : {A : Type 0} (f : A → ℕ) (xs : List A) (x : A) (was : ℕ) → was ≡ sum_by f xs →
    was + f x ≡ sum_by f (xs ++ x ∷ [])
sum-more f xs x was same =
    let all = sum_by-append f xs (x ∷ []) in
    let last : sum_by f (x ∷ []) ≡ f x + 0 = sum_by-cons f x [] in omega (same, all, last, arith)

module _ (raw : Graph) (k : ℕ) (bodies : List Body) (sums : DropTotals) (are : AreFirst raw k bodies sums) (body after : Body)
    (at : slice_get raw.bodies k ≡ Some body) (done : IsElaboratedBody raw.items body after)
    (faultless : AddsNoFault raw.items body after) (short : IsCountedBody after) (t : DropTotals)
    (totals : AreTotals raw.items body after t) where
  body-is : (n : ℕ) (other : Body) → n ≡ k → slice_get raw.bodies n ≡ Some other → body ≡ other
  body-is n other here there =
      same_Some body other (sym at ∙ ap (λ (m : ℕ). slice_get raw.bodies m) (sym here) ∙ there)

  each-now : (n : ℕ) (raw_body last : Body) → slice_get raw.bodies n ≡ Some raw_body →
      (slice_get bodies n ≡ Some last) ⊎ ((n ≡ length bodies) × (after ≡ last)) → IsElaboratedBody raw.items raw_body last
  each-now n raw_body last raw_at (inl before) = are.each n raw_body last raw_at before
  each-now n raw_body last raw_at (inr here) =
      subst (λ (b : Body). IsElaboratedBody raw.items b last) (body-is n raw_body (here.0 ∙ are.long) raw_at)
      (subst (λ (b : Body). IsElaboratedBody raw.items body b) here.1 done)

  faultless-now : (n : ℕ) (raw_body last : Body) → slice_get raw.bodies n ≡ Some raw_body →
      (slice_get bodies n ≡ Some last) ⊎ ((n ≡ length bodies) × (after ≡ last)) → AddsNoFault raw.items raw_body last
  faultless-now n raw_body last raw_at (inl before) = are.faultless n raw_body last raw_at before
  faultless-now n raw_body last raw_at (inr here) =
      subst (λ (b : Body). AddsNoFault raw.items b last) (body-is n raw_body (here.0 ∙ are.long) raw_at)
      (subst (λ (b : Body). AddsNoFault raw.items body b) here.1 faultless)

  short-now : (n : ℕ) (last : Body) → (slice_get bodies n ≡ Some last) ⊎ ((n ≡ length bodies) × (after ≡ last)) →
      IsCountedBody last
  short-now n last (inl before) = are.short n last before
  short-now n last (inr here) = subst IsCountedBody here.1 short

  totals-now : (n : ℕ) (raw_body last : Body) (u : DropTotals) → slice_get raw.bodies n ≡ Some raw_body →
      (slice_get bodies n ≡ Some last) ⊎ ((n ≡ length bodies) × (after ≡ last)) →
      (slice_get are.of_bodies n ≡ Some u) ⊎ ((n ≡ length are.of_bodies) × (t ≡ u)) → AreTotals raw.items raw_body last u
  totals-now n raw_body last u raw_at (inl before) (inl was) = are.totals n raw_body last u raw_at before was
  totals-now n raw_body last u raw_at (inl before) (inr is) =
      let w = slice_get_within bodies n last before in
      let l = are.long in
      let c = are.counted in
      let e = is.0 in absurd (let never : ⊥ = omega (w, l, c, e, arith) in never)
  totals-now n raw_body last u raw_at (inr here) (inl was) =
      let w = slice_get_within are.of_bodies n u was in
      let l = are.long in
      let c = are.counted in
      let e = here.0 in absurd (let never : ⊥ = omega (w, l, c, e, arith) in never)
  totals-now n raw_body last u raw_at (inr here) (inr is) =
      subst (λ (b : Body). AreTotals raw.items b last u) (body-is n raw_body (here.0 ∙ are.long) raw_at)
      (subst (λ (b : Body). AreTotals raw.items body b u) here.1 (subst (AreTotals raw.items body after) is.1 totals))

  pub one-more : AreFirst raw (k + 1) (bodies ++ after ∷ []) (both sums t)
  one-more = record {
    long = (let l = length-append bodies (after ∷ []) in let s = are.long in omega (l, s, arith));
    each = λ n raw_body last raw_at there. each-now n raw_body last raw_at (slice_get-push_cases bodies after n last there);
    faultless = λ n raw_body last raw_at there.
        faultless-now n raw_body last raw_at (slice_get-push_cases bodies after n last there);
    short = λ n last there. short-now n last (slice_get-push_cases bodies after n last there);
    of_bodies = are.of_bodies ++ t ∷ [];
    counted = (let l = length-append are.of_bodies (t ∷ []) in let s = are.counted in omega (l, s, arith));
    totals = λ n raw_body last u raw_at there is.
        totals-now n raw_body last u raw_at (slice_get-push_cases bodies after n last there)
        (slice_get-push_cases are.of_bodies t n u is);
    dead = sum-more (λ u. u.dead) are.of_bodies t sums.dead are.dead;
    plain = sum-more (λ u. u.plain) are.of_bodies t sums.plain are.plain;
    conditional = sum-more (λ u. u.conditional) are.of_bodies t sums.conditional are.conditional;
    opened = sum-more (λ u. u.opened) are.of_bodies t sums.opened are.opened;
    flags = sum-more (λ u. u.flags) are.of_bodies t sums.flags are.flags;
  }

-- all bodies
module _ (raw graph : Graph) (k : ℕ) (sums : DropTotals) (all : k ≡ length raw.bodies) (items : graph.items ≡ raw.items)
    (are : AreFirst raw k graph.bodies sums) where
  pub elaboration-is : IsElaboration raw graph
  elaboration-is = record {
    items = items;
    count = are.long ∙ all;
    bodies = λ n body at. elim ((slice_get_cases graph.bodies n).1) [
      | inl it ↦ (it.0, it.2, are.each n body it.0 at it.2)
      | inr past ↦
          (let f = past.0 in let l = are.long in let a = all in let w = slice_get_within raw.bodies n body at in
          absurd (let never : ⊥ = omega (f, l, a, w, arith) in never))
    ];
  }

  pub well-formed-is : IsWellFormed raw → IsWellFormed graph
  well-formed-is well =
      well-formed-too raw graph well items (are.long ∙ all)
      (λ n body after at there. (are.each n body after at there).done.params)
      (λ n body after at there none. are.faultless n body after at there graph (0 + n) items (put-together graph (0 + n) body
      (subst (λ (i : ItemTable). NoFaultIn i (length graph.bodies) (0 + n) body) (sym items)
      (subst (λ (k : ℕ). NoFaultIn raw.items k (0 + n) body) (sym (are.long ∙ all)) (taken-apart raw (0 + n) body none)))))

  pub counted-is : length raw.bodies < 2 ^ 32 - 1 → IsCounted graph
  counted-is few = record {
    bodies = (let l = are.long in let a = all in omega (l, a, few, arith));
    each = λ n d within. are.short n (get_or graph.bodies n d) (slice_get-get_or graph.bodies n d within);
  }

  pub sums-are : AreSums raw graph sums
  sums-are = record {
    of_bodies = are.of_bodies;
    count = are.counted ∙ all;
    each = are.totals;
    dead = are.dead;
    plain = are.plain;
    conditional = are.conditional;
    opened = are.opened;
    flags = are.flags;
  }
