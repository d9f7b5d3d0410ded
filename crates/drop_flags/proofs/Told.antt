-- The stores into flags are those that uses of places ask for: a place that is not watched to its end has no flag at or
-- below it.
use Rattle.std.proofs.Common.{◌≡◌, ◌∙◌, ◌∷◌, [], ◌++◌, ◌+◌, ℕ, zero, suc, Bool, true, false, not, List, Option, Some, None, length, slice_get, refl, sym, ap, if◌then◌else◌, arith}
use Rattle.std.proofs.lemmas.Bool.{false≢true}
use Rattle.mir_ty.specs.ItemTable.{ItemTable}
use Rattle.store_model.specs.Places.Place.{Place}
use Rattle.cfg_graph.specs.declared.graph.Body.{Body}
use Rattle.cfg_graph.specs.declared.place.Place as graph
use Rattle.cfg_graph.specs.declared.statement.Stmt.{Stmt}
use Rattle.cfg_graph.specs.Moves.Gone.{counts, is_at_or_above, leaves_gone}
use Rattle.cfg_graph.specs.Places.{named}
use Rattle.cfg_graph.specs.Uses.{PlaceUse, stmt_uses}
use Rattle.init_flow.proofs.Upward.{counts-up}
use Rattle.drop_elaborate.specs.Elaborated.{flags_below, flags_if, flags_of_use, flags_of_uses, first_flags, at_start, with_flags}
use Rattle.drop_flags.specs.Flags.{AreFlags, paths_of, store, store_if, stores_below, is_param, first_stores}
use Rattle.drop_flags.specs.declared.flags.Flags.{Flags}

not_true : (b : Bool) → (b ≡ true → ⊥) → b ≡ false
not_true true h = absurd (h refl)
not_true false h = refl

nothing : (b : Bool) (stmts : List Stmt) → stmts ≡ [] → (if b then stmts else []) ≡ []
nothing true stmts is = is
nothing false stmts is = refl

module _ (items : ItemTable) (body : Body) (flagged : List Place) where
  below-is : (place : Place) (present : Bool) (paths : List Place) (flag n : ℕ) → flag ≡ length body.locals + n →
      stores_below place present paths flag ≡ flags_below items body flagged place present paths n
  below-is place present [] flag n is = refl
  below-is place present (path ∷ paths) flag n is =
      let next : suc flag ≡ length body.locals + suc n = omega arith in
      let rest = below-is place present paths (suc flag) (suc n) next in
      λ i. store_if (is_at_or_above place path) (is i) present ++ rest i

  none-below : (place : Place) (present : Bool) (paths : List Place) (flag : ℕ) → counts items body place ≡ false →
      ((n : ℕ) (path : Place) → slice_get paths n ≡ Some path → counts items body path ≡ true) →
      stores_below place present paths flag ≡ []
  none-below place present [] flag none watched = refl
  none-below place present (path ∷ paths) flag none watched =
      let off : is_at_or_above place path ≡ false = not_true (is_at_or_above place path)
      (λ up. false≢true (sym none ∙ counts-up items body place path up (watched 0 path refl))) in
      let rest = none-below place present paths (suc flag) none (λ n. watched (suc n)) in
      λ i. store_if (off i) flag present ++ rest i

  pub first-is : (params : ℕ) (paths : List Place) (flag n : ℕ) → params ≡ body.params →
      flag ≡ length body.locals + n → first_stores params paths flag ≡ first_flags items body flagged paths n
  first-is params [] flag n same is = refl
  first-is params (path ∷ paths) flag n same is =
      let next : suc flag ≡ length body.locals + suc n = omega arith in
      let rest = first-is params paths (suc flag) (suc n) same next in
      λ i. store (is i) (is_param (same i) path.local) ∷ rest i

  -- only the block in which the body begins makes flags
  pub start-other : (number : ℕ) → (number ≡ 0 → ⊥) → at_start items body flagged number ≡ []
  start-other zero other = absurd (other refl)
  start-other (suc n) other = refl

module _ (items : ItemTable) (body : Body) (flags : Flags) (are : AreFlags items body flags) where
  from-zero : flags.first ≡ length body.locals + 0
  from-zero = let is = are.first in omega arith

  pub use-is : (how : PlaceUse) (place : graph.Place) (takes : Bool) → leaves_gone how ≡ Some takes →
      stores_below (named place) (not takes) (paths_of flags) flags.first
      ≡ flags_of_use items body (paths_of flags) (how, place)
  use-is how place takes leaves = by (counts items body (named place)) refl
    where
      by : (b : Bool) → counts items body (named place) ≡ b →
          stores_below (named place) (not takes) (paths_of flags) flags.first
          ≡ (if b then flags_if items body (paths_of flags) (leaves_gone how) (named place) else [])
      by true counted =
          below-is items body (paths_of flags) (named place) (not takes) (paths_of flags) flags.first 0 from-zero
          ∙ ap (λ (left : Option Bool). flags_if items body (paths_of flags) left (named place)) (sym leaves)
      by false not_counted =
          none-below items body (paths_of flags) (named place) (not takes) (paths_of flags) flags.first not_counted
          are.watched

  pub use-nothing : (how : PlaceUse) (place : graph.Place) → leaves_gone how ≡ None →
      flags_of_use items body (paths_of flags) (how, place) ≡ []
  use-nothing how place leaves =
      nothing (counts items body (named place)) _
      (ap (λ (left : Option Bool). flags_if items body (paths_of flags) left (named place)) leaves)

  pub starts-is : first_stores flags.params (paths_of flags) flags.first ≡ at_start items body (paths_of flags) 0
  starts-is = first-is items body (paths_of flags) flags.params (paths_of flags) flags.first 0 are.params from-zero

-- without flags no use asks for a store
module _ (items : ItemTable) (body : Body) where
  use-none : (made : PlaceUse × graph.Place) → flags_of_use items body [] made ≡ []
  use-none made = by (leaves_gone made.0)
    where
      by : (left : Option Bool) →
          (if counts items body (named made.1) then flags_if items body [] left (named made.1) else []) ≡ []
      by None = nothing (counts items body (named made.1)) _ refl
      by (Some gone) = nothing (counts items body (named made.1)) _ refl

  pub uses-none : (flagged : List Place) → flagged ≡ [] → (uses : List (PlaceUse × graph.Place)) →
      flags_of_uses items body flagged uses ≡ []
  uses-none flagged none uses =
      ap (λ (l : List Place). flags_of_uses items body l uses) none ∙ each uses
    where
      each : (uses : List (PlaceUse × graph.Place)) → flags_of_uses items body [] uses ≡ []
      each [] = refl
      each (made ∷ uses) = λ i. use-none made i ++ each uses i

  pub with-none : (flagged : List Place) → flagged ≡ [] → (lines : List Stmt) →
      with_flags items body flagged lines ≡ lines
  with-none flagged none [] = refl
  with-none flagged none (stmt ∷ lines) =
      λ i. stmt ∷ uses-none flagged none (stmt_uses stmt) i ++ with-none flagged none lines i

  pub start-none : (flagged : List Place) → flagged ≡ [] → (number : ℕ) → at_start items body flagged number ≡ []
  start-none flagged none zero = ap (λ (l : List Place). first_flags items body l l 0) none
  start-none flagged none (suc n) = refl
