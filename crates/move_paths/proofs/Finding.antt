-- What a forest has of a place, and which places a forest has.
use Rattle.std.proofs.Common.{◌≡◌, ◌≢◌, ◌⊎◌, inl, inr, ℕ, zero, suc, ◌<◌, ◌≤◌, Bool, true, ◌||◌, List, [], ◌∷◌, flat_map, take, length, nat_lt, slice_get, Some, Contains, refl, sym, ap, subst, ◌∙◌, arith}
use Rattle.std.specs.Prelude.{◌==◌}
use Rattle.std.specs.List.{list_any}
use Rattle.std.specs.Cmp.{first_so, second_so}
use Rattle.std.specs.Cmp.Derive.{both_true}
use Rattle.std.proofs.lemmas.Bool.{false≢true, cases_lt, lt-ltb, ltb-true, eqb-true}
use Rattle.std.proofs.lemmas.Bool.Decides.{Decides-eqb}
use Rattle.std.proofs.lemmas.Option.{same_Some, slice_get_within}
use Rattle.mir_ty.specs.ItemTable.{ItemTable}
use Rattle.mir_ty.proofs.ListLemmas.{Contains-slice_get, slice_get-Contains}
use Rattle.store_model.specs.Places.Place.{Place, Step, same_step, whole_local}
use Rattle.cfg_graph.specs.declared.graph.Body.{Body}
use Rattle.cfg_graph.specs.Moves.Gone.{are_first, is_at_or_above}
use Rattle.cfg_graph.proofs.WholePlaces.{same_step-sound, same_step-refl}
use Rattle.move_paths.specs.declared.trie.Near.{Near}
use Rattle.move_paths.specs.Trie.{AreOnce, Reaches, roots, upto}
use Rattle.move_paths.specs.Forest.{IsForest, IsNearest, IsRooted, Names, HasLocals, is_local, is_path, is_named, is_above_change}
use Rattle.move_paths.specs.Uses.{block_uses}
use Rattle.move_paths.proofs.Above.{upto-all}
use Rattle.move_paths.proofs.Growth.{same_places, length-roots, root-get}
use Rattle.move_paths.proofs.Naming.{either, left-or, right-or}

first-take : (d : ℕ) (ys : List Step) → are_first (take d ys) ys ≡ true
first-take zero ys = refl
first-take (suc d) [] = refl
first-take (suc d) (y ∷ ys) = both_true (same_step-refl y) (first-take d ys)

pub first-is-take : (xs ys : List Step) → are_first xs ys ≡ true → (xs ≡ take (length xs) ys) × (length xs ≤ length ys)
first-is-take [] ys h = (refl, omega arith)
first-is-take (x ∷ xs) [] h = absurd (false≢true h)
first-is-take (x ∷ xs) (y ∷ ys) h =
    let one = same_step-sound x y (first_so (same_step x y) (are_first xs ys) h) in
    let rest = first-is-take xs ys (second_so (same_step x y) (are_first xs ys) h) in
    ((λ i. one i ∷ rest.0 i), (let k = rest.1 in omega (k, arith)))

first-within : (xs ys : List Step) (d : ℕ) → are_first xs ys ≡ true → length xs ≤ d → are_first xs (take d ys) ≡ true
first-within [] ys d h le = refl
first-within (x ∷ xs) [] d h le = absurd (false≢true h)
first-within (x ∷ xs) (y ∷ ys) zero h le = absurd (omega (le, arith))
first-within (x ∷ xs) (y ∷ ys) (suc d) h le =
    both_true (first_so (same_step x y) (are_first xs ys) h) (first-within xs ys d (second_so (same_step x y) (are_first xs ys) h) (omega (le, arith)))

module _ (paths : List Place) (q : Place) (near : Near) (reaches : Reaches paths q near) where
  pub reached-exact : near.depth ≡ length q.steps → slice_get paths near.path ≡ Some q
  reached-exact whole = reaches.at ∙ ap Some (upto-all near.depth q (omega (whole, arith)))

  pub reached-none : near.depth ≢ length q.steps → ¬ Contains paths q
  reached-none part = λ has.
      let within = reaches.within in
      reaches.last (length q.steps) (omega (part, within, arith)) (omega arith) (subst (Contains paths) (sym (upto-all (length q.steps) q (omega arith))) has)

  pub reached-above : near.depth ≢ length q.steps → IsNearest paths q near.path
  reached-above part = record {
    upper = upto near.depth q;
    at = reaches.at;
    above = both_true ((Decides-eqb q.local q.local).1 refl) (first-take near.depth q.steps);
    other = reached-none part;
    nearest = λ p has up. nearer p has up;
  }
    where
      nearer : (p : Place) → Contains paths p → is_at_or_above p q ≡ true → is_at_or_above p (upto near.depth q) ≡ true
      nearer p has up =
          let here = first_so (p.local == q.local) (are_first p.steps q.steps) up in
          let first = second_so (p.local == q.local) (are_first p.steps q.steps) up in
          let is = first-is-take p.steps q.steps first in
          let same : p ≡ upto (length p.steps) q = same_places p (upto (length p.steps) q) (eqb-true p.local q.local here) is.0 in
          both_true here (first-within p.steps q.steps near.depth first
          (elim (cases_lt near.depth (length p.steps)) [
            | inl further ↦ absurd (reaches.last (length p.steps) further is.1 (subst (Contains paths) same has))
            | inr fits ↦ fits
          ]))

in-roots : (locals : ℕ) (q : Place) → Contains (roots locals) q → (q.local < locals) × (q ≡ whole_local q.local)
in-roots locals q has =
    let at = slice_get-Contains (roots locals) q has in
    let long = length-roots locals in
    let within : has.0 < locals = (let k = slice_get_within (roots locals) has.0 q at in omega (k, long, arith)) in
    let same : q ≡ whole_local has.0 = same_Some q (whole_local has.0) (sym at ∙ root-get locals has.0 within) in
    let number : q.local ≡ has.0 = ap (λ (p : Place). p.local) same in
    (omega (number, within, arith), same ∙ ap whole_local (sym number))

root-in : (locals : ℕ) (q : Place) → q.local < locals → q.steps ≡ [] → Contains (roots locals) q
root-in locals q within none =
    subst (Contains (roots locals)) (same_places (whole_local q.local) q refl (sym none)) (Contains-slice_get (roots locals) q.local (whole_local q.local) (root-get locals q.local within))

local-steps : (steps : List Step) → is_local steps ≡ true → steps ≡ []
local-steps [] h = refl
local-steps (step ∷ steps) h = absurd (false≢true h)

module _ (items : ItemTable) (body : Body) where
  abbrev any : Place → Bool
  any q = list_any (is_above_change items body q) (flat_map block_uses body.blocks)

  path-forth : (q : Place) → Contains (roots (length body.locals)) q ⊎ (is_named items body (flat_map block_uses body.blocks) q ≡ true) → is_path items body q ≡ true
  path-forth q (inl a) =
      let is = in-roots (length body.locals) q a in
      both_true (lt-ltb q.local (length body.locals) is.0) (left-or (is_local q.steps) (any q) (ap (λ (p : Place). is_local p.steps) is.1))
  path-forth q (inr a) =
      both_true (first_so (nat_lt q.local (length body.locals)) (any q) a) (right-or (is_local q.steps) (any q) (second_so (nat_lt q.local (length body.locals)) (any q) a))

  path-back : (q : Place) → is_path items body q ≡ true → Contains (roots (length body.locals)) q ⊎ (is_named items body (flat_map block_uses body.blocks) q ≡ true)
  path-back q h =
      let here = first_so (nat_lt q.local (length body.locals)) (is_local q.steps || any q) h in
      elim (either (is_local q.steps) (any q) (second_so (nat_lt q.local (length body.locals)) (is_local q.steps || any q) h)) [
        | inl local ↦ inl (root-in (length body.locals) q (ltb-true q.local (length body.locals) here) (local-steps q.steps local))
        | inr some ↦ inr (both_true here some)
      ]

  pub has-roots : HasLocals body (roots (length body.locals))
  has-roots n within = root-get (length body.locals) n within

  module _ (paths : List Place) (names : Names items body (roots (length body.locals)) paths (flat_map block_uses body.blocks)) where
    pub is-forest : AreOnce paths → IsForest items body (record { tys = body.locals; paths = paths })
    is-forest once = record {
      tys = refl;
      each = λ q. (λ has. path-forth q ((names.paths q).0 has), λ h. (names.paths q).1 (path-back q h));
      once = once;
    }

    pub is-rooted : IsRooted body.locals paths
    is-rooted = record {
      roots = λ n within. names.kept n (whole_local n) (has-roots n within);
      locals = λ q has. ltb-true q.local (length body.locals) (first_so (nat_lt q.local (length body.locals)) (is_local q.steps || any q) (path-forth q ((names.paths q).0 has)));
    }
