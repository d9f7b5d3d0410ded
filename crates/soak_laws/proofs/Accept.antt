-- No list of choices reaches a refused use in a body of the program: each free run is gone through, choice by choice.
use Rattle.std.proofs.Common.{◌≡◌, true, false, Bool, List, [], ◌∷◌, ℕ, zero, suc, None, refl}
use Rattle.std.specs.List.{All}
use Rattle.std.proofs.lemmas.List.Elements.{All-append, All-cons, All-nil}
use Rattle.mir_ty.specs.declared.def.Sig.{Sig}
use Rattle.mir_ty.proofs.ListLemmas.{All-slice_get}
use Rattle.typed_tree.specs.Tree.{BodyTree}
use Rattle.src_meaning.specs.Programs.{reached_by, IsAccepted}
use Rattle.soak_laws.proofs.Placing.{Places}
use Rattle.soak_laws.proofs.TypedTrees.{items_with, function_tree, drop_tree, main_tree, bodies, soak_program, soak_table, functions_at, first_at, impl_at}

-- no list of choices reaches a refused use in a body
abbrev IsFine : List Sig → BodyTree → Type 0
IsFine heads body = (list : List Bool) → reached_by (items_with heads) body list ≡ None

drop_fine : (heads : List Sig) (f : Places) → IsFine heads (drop_tree f)
drop_fine heads f rest = refl

first_fine : (heads : List Sig) (f : Places) → IsFine heads (function_tree f zero)
first_fine heads f [] = refl
first_fine heads f (false ∷ []) = refl
first_fine heads f (false ∷ false ∷ []) = refl
first_fine heads f (false ∷ false ∷ false ∷ []) = refl
first_fine heads f (false ∷ false ∷ false ∷ false ∷ rest) = refl
first_fine heads f (false ∷ false ∷ false ∷ true ∷ rest) = refl
first_fine heads f (false ∷ false ∷ true ∷ []) = refl
first_fine heads f (false ∷ false ∷ true ∷ false ∷ rest) = refl
first_fine heads f (false ∷ false ∷ true ∷ true ∷ rest) = refl
first_fine heads f (false ∷ true ∷ []) = refl
first_fine heads f (false ∷ true ∷ false ∷ []) = refl
first_fine heads f (false ∷ true ∷ false ∷ false ∷ []) = refl
first_fine heads f (false ∷ true ∷ false ∷ false ∷ false ∷ rest) = refl
first_fine heads f (false ∷ true ∷ false ∷ false ∷ true ∷ rest) = refl
first_fine heads f (false ∷ true ∷ false ∷ true ∷ []) = refl
first_fine heads f (false ∷ true ∷ false ∷ true ∷ false ∷ rest) = refl
first_fine heads f (false ∷ true ∷ false ∷ true ∷ true ∷ rest) = refl
first_fine heads f (false ∷ true ∷ true ∷ []) = refl
first_fine heads f (false ∷ true ∷ true ∷ false ∷ []) = refl
first_fine heads f (false ∷ true ∷ true ∷ false ∷ false ∷ rest) = refl
first_fine heads f (false ∷ true ∷ true ∷ false ∷ true ∷ rest) = refl
first_fine heads f (false ∷ true ∷ true ∷ true ∷ rest) = refl
first_fine heads f (true ∷ []) = refl
first_fine heads f (true ∷ false ∷ []) = refl
first_fine heads f (true ∷ false ∷ false ∷ rest) = refl
first_fine heads f (true ∷ false ∷ true ∷ rest) = refl
first_fine heads f (true ∷ true ∷ rest) = refl

later_fine : (heads : List Sig) (f : Places) (j : ℕ) → IsFine heads (function_tree f (suc j))
later_fine heads f j [] = refl
later_fine heads f j (false ∷ []) = refl
later_fine heads f j (false ∷ false ∷ []) = refl
later_fine heads f j (false ∷ false ∷ false ∷ []) = refl
later_fine heads f j (false ∷ false ∷ false ∷ false ∷ rest) = refl
later_fine heads f j (false ∷ false ∷ false ∷ true ∷ rest) = refl
later_fine heads f j (false ∷ false ∷ true ∷ []) = refl
later_fine heads f j (false ∷ false ∷ true ∷ false ∷ rest) = refl
later_fine heads f j (false ∷ false ∷ true ∷ true ∷ rest) = refl
later_fine heads f j (false ∷ true ∷ []) = refl
later_fine heads f j (false ∷ true ∷ false ∷ []) = refl
later_fine heads f j (false ∷ true ∷ false ∷ false ∷ []) = refl
later_fine heads f j (false ∷ true ∷ false ∷ false ∷ false ∷ rest) = refl
later_fine heads f j (false ∷ true ∷ false ∷ false ∷ true ∷ rest) = refl
later_fine heads f j (false ∷ true ∷ false ∷ true ∷ []) = refl
later_fine heads f j (false ∷ true ∷ false ∷ true ∷ false ∷ rest) = refl
later_fine heads f j (false ∷ true ∷ false ∷ true ∷ true ∷ rest) = refl
later_fine heads f j (false ∷ true ∷ true ∷ []) = refl
later_fine heads f j (false ∷ true ∷ true ∷ false ∷ []) = refl
later_fine heads f j (false ∷ true ∷ true ∷ false ∷ false ∷ rest) = refl
later_fine heads f j (false ∷ true ∷ true ∷ false ∷ true ∷ rest) = refl
later_fine heads f j (false ∷ true ∷ true ∷ true ∷ rest) = refl
later_fine heads f j (true ∷ []) = refl
later_fine heads f j (true ∷ false ∷ []) = refl
later_fine heads f j (true ∷ false ∷ false ∷ rest) = refl
later_fine heads f j (true ∷ false ∷ true ∷ rest) = refl
later_fine heads f j (true ∷ true ∷ rest) = refl

main_fine : (heads : List Sig) (f : Places) (last : ℕ) → IsFine heads (main_tree f last)
main_fine heads f last [] = refl
main_fine heads f last (false ∷ rest) = refl
main_fine heads f last (true ∷ rest) = refl

function_fine : (heads : List Sig) (f : Places) (i : ℕ) → IsFine heads (function_tree f i)
function_fine heads f zero = first_fine heads f
function_fine heads f (suc i) = later_fine heads f i

one : (heads : List Sig) (body : BodyTree) → IsFine heads body → All (IsFine heads) (body ∷ [])
one heads body fine = All-cons (IsFine heads) body [] fine (All-nil (IsFine heads))

all_fine : (heads : List Sig) (f : Places) (k : ℕ) → All (IsFine heads) (bodies f k)
all_fine heads f zero = one heads (drop_tree (impl_at f)) (drop_fine heads (impl_at f))
all_fine heads f (suc i) =
    let g = functions_at i (first_at f) in
    All-append (IsFine heads) (bodies f i) (function_tree g i ∷ []) (all_fine heads f i)
    (one heads (function_tree g i) (function_fine heads g i))

program_fine : (f : Places) (last : ℕ) → All (IsFine (soak_table last).bodies) (soak_program f last).bodies
program_fine f last =
    let heads = (soak_table last).bodies in
    let g = functions_at (suc last) (first_at f) in
    All-append (IsFine heads) (bodies f (suc last)) (main_tree g last ∷ []) (all_fine heads f (suc last))
    (one heads (main_tree g last) (main_fine heads g last))

pub soak_accepted : (f : Places) (last : ℕ) → IsAccepted (soak_program f last)
soak_accepted f last n body list there =
    All-slice_get (IsFine (soak_table last).bodies) (soak_program f last).bodies n body (program_fine f last) there list
