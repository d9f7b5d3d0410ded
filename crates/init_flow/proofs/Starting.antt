-- Rows at the start, and tables of ways.
use Rattle.std.proofs.Common.{◌≡◌, ◌≢◌, ◌⊎◌, inl, inr, ℕ, zero, suc, ◌+◌, ◌-◌, ◌*◌, ◌<◌, ◌≤◌, Bool, false, List, [], ◌∷◌, ◌++◌, length, Option, Some, slice_get, refl, sym, ap, subst, ◌∙◌, arith}
use Rattle.std.specs.Prelude.{slice_index_or, slice_set}
use Rattle.std.proofs.lemmas.Bool.{cases_eq}
use Rattle.std.proofs.lemmas.Option.{none-some, slice_get_within, get_or_from_slice_get}
use Rattle.std.proofs.lemmas.List.{length-append, length-map, get_or_append_left, get_or-append_right, get_or-set_same, get_or-set_other, get_or-map, get_or_default, same_lists}
use Rattle.mir_ty.proofs.ListLemmas.{slice_get-below, slice_get-last, slice_get-push_cases}
use Rattle.store_model.specs.Places.Place.{Place as Named, whole_local}
use Rattle.cfg_graph.specs.declared.graph.Block.{Block}
use Rattle.cfg_graph.specs.declared.graph.Body.{Body}
use Rattle.cfg_graph.specs.Moves.Gone.{below}
use Rattle.init_flow.specs.Carried.{Bits}
use Rattle.move_paths.specs.Forest.{IsStepBelow}
use Rattle.init_flow.specs.declared.switches.BlockSwitches.{BlockSwitches}
use Rattle.init_flow.specs.Fits.{AreWays, FirstBit, FitsBlock, start_bit, start_row}
use Rattle.init_flow.specs.Marks.{place_at}

-- the bit of a path is that of the path above it
pub bit-above : (paths : List Named) (body : Body) (row : Bits) (path upper : ℕ) (gone : Bool) → IsStepBelow paths upper path → FirstBit paths body row path gone (slice_index_or row upper false)
bit-above paths body row path upper gone up earlier =
    earlier upper up.earlier
    ∙ ap (start_bit body gone) (get_or_from_slice_get paths upper up.place (whole_local 0) up.above)
    ∙ ap (start_bit body gone) (sym (get_or_from_slice_get paths path (below up.place (up.step ∷ [])) (whole_local 0) up.here))

pub start-more : (paths : List Named) (body : Body) (gone : Bool) (row : Bits) (path : ℕ) (bit : Bool) → length row ≡ length paths → path < length paths
    → ((n : ℕ) → n < path → slice_index_or row n false ≡ start_bit body gone (place_at paths n))
    → FirstBit paths body row path gone bit
    → (n : ℕ) → n < path + 1 → slice_index_or (slice_set row path bit) n false ≡ start_bit body gone (place_at paths n)
start-more paths body gone row path bit long inside earlier first n small = by (cases_eq n path)
  where
    by : (n ≡ path) ⊎ (n ≢ path) → slice_index_or (slice_set row path bit) n false ≡ start_bit body gone (place_at paths n)
    by (inl same) =
        ap (λ (z : ℕ). slice_index_or (slice_set row path bit) z false) same
        ∙ get_or-set_same row path bit false (omega (long, inside, arith)) ∙ first earlier
        ∙ ap (λ (z : ℕ). start_bit body gone (place_at paths z)) (sym same)
    by (inr other) = get_or-set_other row path n bit false other ∙ earlier n (omega (small, other, arith))

pub start-all : (paths : List Named) (body : Body) (gone : Bool) (row : Bits) (count : ℕ) → length row ≡ length paths → length paths ≤ count
    → ((n : ℕ) → n < count → slice_index_or row n false ≡ start_bit body gone (place_at paths n)) → row ≡ start_row paths body gone
start-all paths body gone row count long all bits =
    same_lists row (start_row paths body gone) (long ∙ sym (length-map paths (start_bit body gone))) (λ n d small.
    let inside : n < length paths = omega (small, long, arith) in
    get_or_default row n d false small ∙ bits n (omega (inside, all, arith)) ∙ sym (get_or-map (start_bit body gone) paths n (whole_local 0) d inside))

module _ (paths : List Named) where
  pub ways-none : AreWays paths [] []
  ways-none = record { long = refl; each = λ n block is way small. absurd (none-some block is) }

  pub ways-more : (made : List BlockSwitches) (blocks : List Block) (one : BlockSwitches) (block : Block) → AreWays paths made blocks → FitsBlock paths (Some one) block
      → AreWays paths (made ++ one ∷ []) (blocks ++ block ∷ [])
  ways-more made blocks one block ways fits =
      record {
        long = (let a = length-append made (one ∷ []) in let b = length-append blocks (block ∷ []) in let c = ways.long in omega (a, b, c, arith));
        each = λ n other is. by n other (slice_get-push_cases blocks block n other is);
      }
    where
      by : (n : ℕ) (other : Block) → (slice_get blocks n ≡ Some other) ⊎ ((n ≡ length blocks) × (block ≡ other)) → FitsBlock paths (slice_get (made ++ one ∷ []) n) other
      by n other (inl before) =
          let within = slice_get_within blocks n other before in
          subst (λ (z : Option BlockSwitches). FitsBlock paths z other)
          (sym (slice_get-below made (one ∷ []) n (let c = ways.long in omega (within, c, arith)))) (ways.each n other before)
      by n other (inr end) =
          subst (FitsBlock paths (slice_get (made ++ one ∷ []) n)) end.1
          (subst (λ (z : Option BlockSwitches). FitsBlock paths z block)
          (sym (ap (slice_get (made ++ one ∷ [])) (end.0 ∙ sym ways.long) ∙ slice_get-last made one)) fits)
