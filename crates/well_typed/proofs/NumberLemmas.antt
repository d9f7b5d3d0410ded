-- The numbers of a well typed body rise, so they differ.
use Rattle.std.proofs.Common.{◌≡◌, ℕ, zero, suc, ◌+◌, ◌<◌, List, [], ◌∷◌, length, slice_index, IsTrue, Contains, All, nat_lt, sym, subst, arith}
use Rattle.std.proofs.lemmas.List.Elements.{All-nil, All-cons, All-contains}
use Rattle.std.specs.List.Sorted.{IsStrictlyIncreasing}
use Rattle.mir_ty.specs.declared.def.Sig.{Sig}
use Rattle.mir_ty.specs.ItemTable.{ItemTable}
use Rattle.typed_tree.specs.Nodes.{numbers_of, IsNumberedInOrder, HasDistinctNumbers}
use Rattle.typed_tree.specs.Tree.{BodyTree, ProgramTree}
use Rattle.typed_tree.proofs.NumberLemmas.{distinct_in_order}
use Rattle.well_typed.specs.Claim.{Holds}
use Rattle.well_typed.specs.Names.{do_rise}
use Rattle.well_typed.specs.Program.{are_bodies, WellTyped}
use Rattle.well_typed.proofs.ClaimLemmas.{true_left, true_right}

pub rises : (ns : List ℕ) → IsTrue (do_rise ns) → IsStrictlyIncreasing ns
rises [] h k below = absurd (omega (arith, below))
rises (n ∷ []) h k below = absurd (omega (arith, below))
rises (n ∷ m ∷ ns) h zero below =
    let less : IsTrue (nat_lt n m) = true_left (nat_lt n m) (do_rise (m ∷ ns)) h in grind (arith, less)
rises (n ∷ m ∷ ns) h (suc k) below =
    let next : suc k + 1 ≡ suc (k + 1) = omega arith in
    let within : k + 1 < length (m ∷ ns) = omega (arith, below) in
    let later : slice_index (m ∷ ns) k < slice_index (m ∷ ns) (k + 1) =
    rises (m ∷ ns) (true_right (nat_lt n m) (do_rise (m ∷ ns)) h) k within in
    subst (λ j. slice_index (n ∷ m ∷ ns) (suc k) < slice_index (n ∷ m ∷ ns) j) (sym next) later

pub bodies_rise : (items : ItemTable) (n : ℕ) (sigs : List Sig) (bodies : List BodyTree) → Holds (are_bodies items n
    sigs bodies) → All IsNumberedInOrder bodies
bodies_rise items n [] [] h = All-nil IsNumberedInOrder
bodies_rise items n (sig ∷ sigs) [] h = absurd (cc)
bodies_rise items n [] (body ∷ bodies) h = absurd (cc)
bodies_rise items n (sig ∷ sigs) (body ∷ bodies) h =
    All-cons IsNumberedInOrder body bodies (rises (numbers_of body) h.0.1.1.1.0) (bodies_rise items (suc n) sigs
    bodies h.1)

pub numbers_differ : (p : ProgramTree) (body : BodyTree) → WellTyped p → Contains p.bodies body → HasDistinctNumbers
    body
numbers_differ p body h has =
    distinct_in_order body (All-contains IsNumberedInOrder p.bodies body (bodies_rise p.items 0 p.items.bodies
    p.bodies h.1) has)
