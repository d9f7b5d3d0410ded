-- The tree of the program is levelled, nests little, and each of its nodes has a token.
use Rattle.std.proofs.Common.{◌≡◌, ℕ, zero, suc, ◌≤◌, true, false, refl, arith}
use Rattle.src_tree.specs.Grammar.{items}
use Rattle.src_tree.specs.Layout.{end, sub, depth, parts_depth, due_place, Levelled, ItemsLevelled}
use Rattle.src_parse.specs.Bounds.{limit}
use Rattle.soak_laws.proofs.Placing.{all_filled}
use Rattle.soak_laws.proofs.Trees.{Items, soak_items, struct_node, impl_node, function_node, main_node, functions_before, f_word, callee_word}

function_levelled : (i : ℕ) → Levelled (due_place false items) (function_node (f_word i) i (callee_word i))
function_levelled zero = search
function_levelled (suc i) = search

functions_levelled : (k : ℕ) (rest : Items) → ItemsLevelled rest → ItemsLevelled (functions_before k rest)
functions_levelled zero rest h = h
functions_levelled (suc i) rest h = functions_levelled i _ (function_levelled i, h)

struct_levelled : Levelled (due_place false items) struct_node
struct_levelled = search

impl_levelled : Levelled (due_place false items) impl_node
impl_levelled = search

main_levelled : (last : ℕ) → Levelled (due_place false items) (main_node (f_word last) (suc last))
main_levelled last = search

pub soak_levelled : (last : ℕ) → ItemsLevelled (soak_items last)
soak_levelled last = (struct_levelled, (impl_levelled, functions_levelled (suc last) _ (main_levelled last, refl)))

function_depth : (i : ℕ) → depth (function_node (f_word i) i (callee_word i)) ≤ 64
function_depth zero = omega arith
function_depth (suc i) = omega arith

functions_depth : (k : ℕ) (rest : Items) → parts_depth rest ≤ 64 → parts_depth (functions_before k rest) ≤ 64
functions_depth zero rest h = h
functions_depth (suc i) rest h = functions_depth i _ (omega (arith, h, function_depth i))

pub soak_depth : (last : ℕ) → parts_depth (soak_items last) ≤ limit
soak_depth last = let f = functions_depth (suc last) (sub (main_node (f_word last) (suc last)) end) (omega arith) in
    omega (arith, f)

functions_filled : (k : ℕ) (rest : Items) → all_filled rest ≡ true → all_filled (functions_before k rest) ≡ true
functions_filled zero rest h = h
functions_filled (suc i) rest h = functions_filled i _ (by i h)
  where
    by : (i : ℕ) → all_filled rest ≡ true → all_filled (sub (function_node (f_word i) i (callee_word i)) rest) ≡ true
    by zero h = h
    by (suc i) h = h

pub soak_filled : (last : ℕ) → all_filled (soak_items last) ≡ true
soak_filled last = functions_filled (suc last) _ refl
