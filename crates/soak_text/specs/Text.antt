-- The text of the program that `soak` runs: so many functions, each of which makes a value of its own and, where 0 is
-- asked, calls the one before it with the value that it was given.
use Rattle.std.specs.Prelude.{ℕ, zero, suc, ◌-◌, List, [], ◌∷◌, ◌++◌, codes}
use Rattle.std.specs.Fmt.{decimal}

-- a line of pieces that stand side by side
abbrev pub line_of : List (List ℕ) → List ℕ
line_of [] = 10 ∷ []
line_of (piece ∷ pieces) = piece ++ line_of pieces

abbrev pub struct_line : List ℕ
struct_line = line_of (codes "struct D(i32);" ∷ [])

abbrev pub impl_line : List ℕ
impl_line = line_of (codes "impl Drop for D { fn drop(&mut self) { print(self.0); } }" ∷ [])

-- the function of a number: the first one drops its argument, each other one calls the one before it
abbrev pub function_line : ℕ → List ℕ
function_line zero = line_of (codes "fn f0(x: D) { let y = D(0); if ask() == 0 { drop(x); } }" ∷ [])
function_line (suc i) = line_of (
    codes "fn f" ∷ decimal (suc i) ∷ codes "(x: D) { let y = D(" ∷ decimal (suc i) ∷ codes "); if ask() == 0 { f" ∷
    decimal i ∷ codes "(x); } }" ∷ [])

abbrev pub function_lines : ℕ → List ℕ
function_lines zero = []
function_lines (suc i) = function_lines i ++ function_line i

-- the last function is called with a value of the number of all of them
abbrev pub main_line : ℕ → List ℕ
main_line k = line_of (codes "fn main() { f" ∷ decimal (k - 1) ∷ codes "(D(" ∷ decimal k ∷ codes ")); }" ∷ [])

-- the text with so many functions, of which there is at least one
unfoldable pub soak_text : ℕ → List ℕ
soak_text k = struct_line ++ (impl_line ++ (function_lines k ++ main_line k))
