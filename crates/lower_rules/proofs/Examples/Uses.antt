-- Which lists of choices meet a refused use in a body that is lowered: 1 is true, or a panic.
use Rattle.std.proofs.Common.{◌≡◌, refl, [], ◌∷◌, pos}
use Rattle.std.specs.Prelude.{ℕ, zero, suc, List, Option, Some, None, Bool, true, false, ◌&&◌, ◌++◌, is_none, map, codes}
use Rattle.mir_ty.specs.ItemTable.{ItemTable}
use Rattle.typed_tree.specs.declared.node.Use.{Use}
use Rattle.typed_tree.specs.Tree.{Node, no_node, absent, present, Variable, Assign, Call, Block, If, Ask, Comparison, Loop, BodyTree}
use Rattle.mir_base.specs.declared.operator.Cmp.{Cmp}
use Rattle.store_model.specs.Effects.{EffectSite}
use Rattle.src_meaning.specs.Programs.{refused_of}
use Rattle.cfg_meaning.specs.Programs.{free_walk}
use Rattle.lower_rules.specs.Lower.{body_of, node_of}
use Rattle.lower_rules.proofs.Examples.Words.{n, used, nodes, a_name, unit, bool, i32, never, n_ty, let_, stmt, block, number, nn, signature, program}

-- fn take(x: N) {}
abbrev take : BodyTree
take = record { number = 2; params = (record { pattern = used 0 n_ty Use.Move a_name; ty = n_ty }) ∷ []; answer = unit; block = n 1 unit (Block no_node absent) }

abbrev items : ItemTable
items = (program (block 0 unit []) (signature (codes "take") (n_ty ∷ []) unit ∷ []) (take ∷ [])).items

abbrev main : Node → BodyTree
main body = record { number = 1; params = []; answer = unit; block = body }

abbrev at : Option EffectSite → Option ℕ
at (Some site) = Some site.node
at None = None

-- the node of the refused use that a walk meets
abbrev met : BodyTree → List Bool → Option ℕ
met tree list = at (refused_of (free_walk items (node_of items tree) (body_of items tree) list))

abbrev lists_of : ℕ → List (List Bool)
lists_of zero = [] ∷ []
lists_of (suc k) = map (λ l. false ∷ l) (lists_of k) ++ map (λ l. true ∷ l) (lists_of k)

abbrev meet_none : BodyTree → List (List Bool) → Bool
meet_none tree [] = true
meet_none tree (l ∷ ls) = is_none (met tree l) && meet_none tree ls

abbrev meets_none_within : BodyTree → ℕ → Bool
meets_none_within tree zero = meet_none tree (lists_of zero)
meets_none_within tree (suc k) = meet_none tree (lists_of (suc k)) && meets_none_within tree k

-- fn main() { let a = N(1); loop { take(a); } }
abbrev moving : BodyTree
moving = main (n 0 never (Block (nodes ((let_ 1 (used 2 n_ty Use.Move a_name) (nn 3 (pos 1))) ∷ []))
    (present (n 5 never (Loop (block 6 unit (
    stmt 7 (n 8 unit (Call 2 (nodes ((used 9 n_ty Use.Move (Variable 2)) ∷ [])))) ∷ [])))))))

the_second_turn_moves_again : met moving (false ∷ false ∷ false ∷ []) ≡ Some 9
the_second_turn_moves_again = refl

no_shorter_list : meets_none_within moving 2 ≡ true
no_shorter_list = refl

-- fn main() { let a = N(1); if ask() == 0 { take(a); } }
abbrev moving_if : BodyTree
moving_if = main (block 0 unit (
    let_ 1 (used 2 n_ty Use.Move a_name) (nn 3 (pos 1))
    ∷ stmt 5 (n 6 unit (If (n 7 bool (Comparison Cmp.Eq (n 8 i32 Ask) (number 9 0)))
    (block 10 unit (stmt 11 (n 12 unit (Call 2 (nodes ((used 13 n_ty Use.Move (Variable 2)) ∷ [])))) ∷ [])) absent))
    ∷ []))

moved_on_one_way : meets_none_within moving_if 5 ≡ true
moved_on_one_way = refl

-- fn main() { let a = N(1); take(a); a = N(2); take(a); }
abbrev moving_again : BodyTree
moving_again = main (block 0 unit (
    let_ 1 (used 2 n_ty Use.Move a_name) (nn 3 (pos 1))
    ∷ stmt 5 (n 6 unit (Call 2 (nodes ((used 7 n_ty Use.Move (Variable 2)) ∷ []))))
    ∷ stmt 8 (n 9 unit (Assign (n 10 n_ty (Variable 2)) (nn 11 (pos 2))))
    ∷ stmt 13 (n 14 unit (Call 2 (nodes ((used 15 n_ty Use.Move (Variable 2)) ∷ []))))
    ∷ []))

assigned_again : meets_none_within moving_again 5 ≡ true
assigned_again = refl
