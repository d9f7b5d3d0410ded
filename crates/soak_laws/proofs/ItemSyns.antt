-- The items of the tree of the program, as the rules of typing see them.
use Rattle.std.proofs.Common.{◌≡◌, ℕ, zero, suc, List, [], ◌∷◌, ◌++◌, Option, None, refl, ap, ◌∙◌}
use Rattle.std.specs.List.{filter_map, flat_map}
use Rattle.mir_base.specs.declared.place_in_text.Pos.{Pos}
use Rattle.src_tree.specs.Layout as layout
use Rattle.src_tree.specs.Layout.{Parts, sub, end}
use Rattle.src_ast.specs.Syntax.{Syn}
use Rattle.src_ast.specs.View.{view}
use Rattle.typing_rules.specs.Items.{ItemSyn, items_of, item_syns, bodies_in}
use Rattle.soak_laws.proofs.Placing.{Places, placed, placed_parts}
use Rattle.soak_laws.proofs.Trees.{Items, soak_items, struct_node, impl_node, function_node, main_node, functions_before, f_word, callee_word}
use Rattle.soak_laws.proofs.TypedTrees.{functions_at, impl_at, first_at}

abbrev pub item_at : layout.SyntaxNode (Unit {0}) → Places → ItemSyn
item_at g f = record { item = view (placed g f); bodies = bodies_in (placed g f) }

abbrev pub function_item : ℕ → Places → ItemSyn
function_item i f = item_at (function_node (f_word i) i (callee_word i)) f

abbrev functions_placed : ℕ → Places → Parts Pos → Parts Pos
functions_placed zero f rest = rest
functions_placed (suc i) f rest =
    functions_placed i f (sub (placed (function_node (f_word i) i (callee_word i)) (functions_at i f)) rest)

-- the functions before that of a number, and then other items
abbrev pub functions_items : ℕ → Places → List ItemSyn → List ItemSyn
functions_items zero f rest = rest
functions_items (suc i) f rest = functions_items i f (function_item i (functions_at i f) ∷ rest)

place_functions : (k : ℕ) (rest : Items) (f : Places) →
    placed_parts (functions_before k rest) f ≡ functions_placed k f (placed_parts rest (functions_at k f))
place_functions zero rest f = refl
place_functions (suc i) rest f = place_functions i (sub (function_node (f_word i) i (callee_word i)) rest) f

items_functions : (k : ℕ) (f : Places) (rest : Parts Pos) →
    items_of (functions_placed k f rest) ≡ functions_items k f (items_of rest)
items_functions zero f rest = refl
items_functions (suc i) f rest = items_functions i f _

abbrev pub main_item : ℕ → Places → ItemSyn
main_item last f = item_at (main_node (f_word last) (suc last)) f

-- the functions and `main`
abbrev pub called_items : Places → ℕ → List ItemSyn
called_items f last = functions_items (suc last) f (main_item last (functions_at (suc last) f) ∷ [])

abbrev pub soak_syns : Places → ℕ → List ItemSyn
soak_syns f last = item_at struct_node f ∷ item_at impl_node (impl_at f) ∷ called_items (first_at f) last

pub soak_items_are : (f : Places) (last : ℕ) → items_of (placed_parts (soak_items last) f) ≡ soak_syns f last
soak_items_are f last =
    let main = sub (main_node (f_word last) (suc last)) end in
    ap (λ is. item_at struct_node f ∷ item_at impl_node (impl_at f) ∷ is)
    (ap items_of (place_functions (suc last) main (first_at f))
    ∙ items_functions (suc last) (first_at f) (placed_parts main (functions_at (suc last) (first_at f))))

-- ---- what functions have no part in

pub skipped : {A : Type 0} (p : Syn → Option A) → ((i : ℕ) (f : Places) → p (function_item i f).item ≡ None) →
    (k : ℕ) (f : Places) (rest : List ItemSyn) →
    filter_map p (item_syns (functions_items k f rest)) ≡ filter_map p (item_syns rest)
skipped p none zero f rest = refl
skipped p none (suc i) f rest =
    skipped p none i f (function_item i (functions_at i f) ∷ rest)
    ∙ (let e = none i (functions_at i f) in rw e refl)

pub skipped_all : {A : Type 0} (p : Syn → List A) → ((i : ℕ) (f : Places) → p (function_item i f).item ≡ []) →
    (k : ℕ) (f : Places) (rest : List ItemSyn) →
    flat_map p (item_syns (functions_items k f rest)) ≡ flat_map p (item_syns rest)
skipped_all p none zero f rest = refl
skipped_all p none (suc i) f rest =
    skipped_all p none i f (function_item i (functions_at i f) ∷ rest)
    ∙ ap (λ xs. xs ++ flat_map p (item_syns rest)) (none i (functions_at i f))
