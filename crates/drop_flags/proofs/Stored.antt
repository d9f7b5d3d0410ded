-- The stores into the flags below a place are those into the flags of the paths near it.
use Rattle.std.proofs.Common.{◌≡◌, ◌∙◌, ◌∷◌, [], ◌++◌, ◌+◌, ◌==◌, ◌&&◌, ◌≤◌, ℕ, suc, Bool, true, false, List, length, map, refl, sym, ap, append_assoc, append-nil, arith}
use Rattle.std.proofs.lemmas.Bool.{eqb-true}
use Rattle.std.proofs.lemmas.List.{length-append, length-map, map-append}
use Rattle.store_model.specs.Places.Place as plain
use Rattle.cfg_graph.specs.declared.place.Place.{Place}
use Rattle.cfg_graph.specs.declared.statement.Stmt.{Stmt}
use Rattle.cfg_graph.specs.Moves.Gone.{are_first, is_at_or_above}
use Rattle.cfg_graph.specs.Places.{named}
use Rattle.drop_flags.specs.Flags.{store_if, stores_below}
use Rattle.drop_flags.specs.Spans.{AreOthers, IsNear}

module _ (place : plain.Place) (present : Bool) where
  abbrev stores : List plain.Place → ℕ → List Stmt
  stores paths flag = stores_below place present paths flag

  stores-both : (xs ys : List plain.Place) (flag : ℕ) →
      stores (xs ++ ys) flag ≡ stores xs flag ++ stores ys (flag + length xs)
  stores-both [] ys flag = ap (stores ys) (let z : flag ≡ flag + 0 = omega arith in z)
  stores-both (x ∷ xs) ys flag =
      let first : List Stmt = store_if (is_at_or_above place x) flag present in
      let next : suc flag + length xs ≡ flag + length (x ∷ xs) = omega arith in
      ap (λ (l : List Stmt). first ++ l)
      (stores-both xs ys (suc flag) ∙ ap (λ (n : ℕ). stores xs (suc flag) ++ stores ys n) next)
      ∙ sym (append_assoc first (stores xs (suc flag)) (stores ys (flag + length (x ∷ xs))))

  stores-none : (xs : List Place) (flag : ℕ) → AreOthers place.local xs → stores (map named xs) flag ≡ []
  stores-none [] flag others = refl
  stores-none (x ∷ xs) flag others =
      let rest = stores-none xs (suc flag) (λ n. others (suc n)) in
      let apart = off (place.local == x.local) refl in λ i. store_if (apart i) flag present ++ rest i
    where
      off : (b : Bool) → (place.local == x.local) ≡ b → is_at_or_above place (named x) ≡ false
      off true e = absurd (others 0 x refl (sym (eqb-true place.local x.local e)))
      off false e = ap (λ (b : Bool). b && are_first place.steps (named x).steps) e

  pub near-stores : (paths near : List Place) (first flag : ℕ) → IsNear paths place.local first near →
      stores (map named near) (flag + first) ≡ stores (map named paths) flag
  near-stores paths near first flag is =
      let all : map named paths ≡ map named is.before ++ (map named near ++ map named is.after) =
      ap (map named) (is.parts ∙ append_assoc is.before near is.after) ∙ map-append named is.before (near ++ is.after)
      ∙ ap (λ (l : List plain.Place). map named is.before ++ l) (map-append named near is.after) in
      let from : flag + length (map named is.before) ≡ flag + first =
      (let l = length-map is.before named in let f = is.first_is in omega (l, f, arith)) in
      let behind = stores-none is.after (flag + first + length (map named near)) is.others_after in
      sym (ap (λ (l : List plain.Place). stores l flag) all
      ∙ stores-both (map named is.before) (map named near ++ map named is.after) flag
      ∙ (λ i. stores-none is.before flag is.others_before i ++ stores (map named near ++ map named is.after) (from i))
      ∙ stores-both (map named near) (map named is.after) (flag + first)
      ∙ ap (λ (l : List Stmt). stores (map named near) (flag + first) ++ l) behind
      ∙ append-nil (stores (map named near) (flag + first)))

-- the paths near a local end before the last path
pub near-fits : (paths near : List Place) (local first : ℕ) → IsNear paths local first near →
    first + length near ≤ length paths
near-fits paths near local first is =
    let all = ap length is.parts in
    let one = length-append (is.before ++ near) is.after in
    let two = length-append is.before near in
    let at = is.first_is in omega (all, one, two, at, arith)
