-- Which lists of choices reach a refused use: 1 is true, or a panic.
use Rattle.std.proofs.Common.{◌≡◌, refl, [], ◌∷◌, pos}
use Rattle.std.specs.Prelude.{ℕ, List, Option, Some, None, Bool, true, false, codes}
use Rattle.mir_ty.specs.declared.ty.Ty.{Ty}
use Rattle.mir_ty.specs.declared.ty.TyId.{TyId}
use Rattle.mir_ty.specs.ItemTable.{ItemTable}
use Rattle.typed_tree.specs.declared.node.Use.{Use}
use Rattle.typed_tree.specs.Tree.{no_node, absent, present, Variable, Field, Assign, Call, Tuple, Block, Match, Arm, Loop, Wildcard, TuplePattern, BodyTree, ProgramTree}
use Rattle.src_meaning.proofs.Examples.Words.{a_name, unit, never, n, used, nodes, let_, stmt, body, ty_no, head}
use Rattle.src_meaning.proofs.Examples.Conditions.{main_if}
use Rattle.src_meaning.proofs.Examples.Locals.{main_again}
use Rattle.src_meaning.proofs.Examples.WithD.{d_ty, d, drop_d, take, with_d}
use Rattle.std.specs.Prelude.{zero, suc, ◌&&◌, is_none, slice_get}
use Rattle.std.proofs.Common.{subst}
use Rattle.store_model.specs.Effects.{EffectSite}
use Rattle.src_meaning.specs.Programs.{reached_by, IsAccepted}

abbrev tuple_d_d_ty : TyId
tuple_d_d_ty = ty_no 7

abbrev items : ItemTable
items = with_d (record {
  types = Ty.Tuple (d_ty ∷ d_ty ∷ []) ∷ [];
  adts = [];
  traits = [];
  impls = [];
  closures = [];
  bodies = head (codes "main") [] unit ∷ [];
})

-- all lists of so many items
abbrev with_item : List (List Bool) → List (List Bool)
with_item [] = []
with_item (l ∷ ls) = (false ∷ l) ∷ (true ∷ l) ∷ with_item ls

abbrev lists_of : ℕ → List (List Bool)
lists_of zero = [] ∷ []
lists_of (suc k) = with_item (lists_of k)

abbrev node_of : Option EffectSite → Option ℕ
node_of (Some site) = Some site.node
node_of None = None

abbrev reaches_none : BodyTree → List (List Bool) → Bool
reaches_none body [] = true
reaches_none body (l ∷ ls) = is_none (reached_by items body l) && reaches_none body ls

-- no list of up to so many items reaches a refused use
abbrev reaches_none_within : BodyTree → ℕ → Bool
reaches_none_within body zero = reaches_none body (lists_of zero)
reaches_none_within body (suc k) = reaches_none body (lists_of (suc k)) && reaches_none_within body k

-- fn main() { let x = D(1); loop { take(x); } }
abbrev main_loop : BodyTree
main_loop = body 2 [] unit
    (n 0 never (Block (nodes ((let_ 1 (used 2 d_ty Use.Move a_name) (d 3 (pos 1))) ∷ []))
    (present (n 5 never (Loop (n 6 unit
    (Block (nodes ((stmt 7 (n 8 unit (Call 1 (nodes ((used 9 d_ty Use.Move (Variable 2)) ∷ []))))) ∷ []))
    absent)))))))

the_second_turn_moves_again : node_of (reached_by items main_loop (false ∷ false ∷ false ∷ [])) ≡ Some 9
the_second_turn_moves_again = refl

no_shorter_list : reaches_none_within main_loop 2 ≡ true
no_shorter_list = refl

-- fn main() { let t = (D(1), D(2)); let s = t; t.0 = D(3); }
abbrev main_part : BodyTree
main_part = body 2 [] unit
    (n 0 unit (Block (nodes (
    (let_ 1 (used 2 tuple_d_d_ty Use.Move a_name)
    (n 3 tuple_d_d_ty (Tuple (nodes ((d 4 (pos 1)) ∷ (d 6 (pos 2)) ∷ [])))))
    ∷ (let_ 8 (used 9 tuple_d_d_ty Use.Move a_name) (used 10 tuple_d_d_ty Use.Move (Variable 2)))
    ∷ (stmt 11 (n 12 unit (Assign (used 13 d_ty Use.Store (Field (n 14 tuple_d_d_ty (Variable 2)) 0)) (d 15 (pos 3)))))
    ∷ [])) absent))

a_store_into_what_is_gone : node_of (reached_by items main_part []) ≡ Some 13
a_store_into_what_is_gone = refl

no_longer_list : (i : Bool) (rest : List Bool) → reached_by items main_part (i ∷ rest) ≡ None
no_longer_list i rest = refl

-- fn main() { let t = (D(1), D(2)); take(t.0); match t { (_, _) => {} } }
abbrev main_scrutinee : BodyTree
main_scrutinee = body 2 [] unit
    (n 0 unit (Block (nodes (
    (let_ 1 (used 2 tuple_d_d_ty Use.Move a_name)
    (n 3 tuple_d_d_ty (Tuple (nodes ((d 4 (pos 1)) ∷ (d 6 (pos 2)) ∷ [])))))
    ∷ (stmt 8 (n 9 unit (Call 1 (nodes ((used 10 d_ty Use.Move (Field (n 11 tuple_d_d_ty (Variable 2)) 0)) ∷ [])))))
    ∷ [])) (present (n 12 unit (Match (used 13 tuple_d_d_ty Use.Borrow (Variable 2)) (nodes (
    (n 14 unit (Arm (n 15 tuple_d_d_ty (TuplePattern (nodes ((n 16 d_ty Wildcard) ∷ (n 17 d_ty Wildcard) ∷ []))))
    absent (n 18 unit (Block no_node absent))))
    ∷ [])))))))

a_scrutinee_is_borrowed_whole : node_of (reached_by items main_scrutinee (false ∷ [])) ≡ Some 13
a_scrutinee_is_borrowed_whole = refl

-- fn main() { let t = (D(1), D(2)); take(t.0); let (_, b) = t; }
abbrev main_let : BodyTree
main_let = body 2 [] unit
    (n 0 unit (Block (nodes (
    (let_ 1 (used 2 tuple_d_d_ty Use.Move a_name)
    (n 3 tuple_d_d_ty (Tuple (nodes ((d 4 (pos 1)) ∷ (d 6 (pos 2)) ∷ [])))))
    ∷ (stmt 8 (n 9 unit (Call 1 (nodes ((used 10 d_ty Use.Move (Field (n 11 tuple_d_d_ty (Variable 2)) 0)) ∷ [])))))
    ∷ (let_ 12 (n 13 tuple_d_d_ty (TuplePattern (nodes ((n 14 d_ty Wildcard) ∷ (used 15 d_ty Use.Move a_name) ∷ []))))
    (n 16 tuple_d_d_ty (Variable 2)))
    ∷ [])) absent))

a_let_uses_only_what_it_takes : reaches_none_within main_let 5 ≡ true
a_let_uses_only_what_it_takes = refl

abbrev pub moved_if : ProgramTree
moved_if = record { items = items; bodies = drop_d ∷ take ∷ main_if ∷ [] }

abbrev pub again : ProgramTree
again = record { items = items; bodies = drop_d ∷ take ∷ main_again ∷ [] }

-- No list of choices reaches a refused use: a run takes so many of a list, and ends.
none_in_drop_d : (list : List Bool) → reached_by items drop_d list ≡ None
none_in_drop_d list = refl

none_in_take : (list : List Bool) → reached_by items take list ≡ None
none_in_take [] = refl
none_in_take (false ∷ rest) = refl
none_in_take (true ∷ rest) = refl

none_in_main_if : (list : List Bool) → reached_by items main_if list ≡ None
none_in_main_if [] = refl
none_in_main_if (true ∷ []) = refl
none_in_main_if (true ∷ false ∷ rest) = refl
none_in_main_if (true ∷ true ∷ rest) = refl
none_in_main_if (false ∷ []) = refl
none_in_main_if (false ∷ false ∷ []) = refl
none_in_main_if (false ∷ false ∷ false ∷ rest) = refl
none_in_main_if (false ∷ false ∷ true ∷ rest) = refl
none_in_main_if (false ∷ true ∷ []) = refl
none_in_main_if (false ∷ true ∷ false ∷ []) = refl
none_in_main_if (false ∷ true ∷ false ∷ false ∷ rest) = refl
none_in_main_if (false ∷ true ∷ false ∷ true ∷ rest) = refl
none_in_main_if (false ∷ true ∷ true ∷ []) = refl
none_in_main_if (false ∷ true ∷ true ∷ false ∷ rest) = refl
none_in_main_if (false ∷ true ∷ true ∷ true ∷ rest) = refl

none_in_main_again : (list : List Bool) → reached_by items main_again list ≡ None
none_in_main_again [] = refl
none_in_main_again (true ∷ []) = refl
none_in_main_again (true ∷ false ∷ rest) = refl
none_in_main_again (true ∷ true ∷ rest) = refl
none_in_main_again (false ∷ []) = refl
none_in_main_again (false ∷ true ∷ []) = refl
none_in_main_again (false ∷ true ∷ false ∷ rest) = refl
none_in_main_again (false ∷ true ∷ true ∷ rest) = refl
none_in_main_again (false ∷ false ∷ []) = refl
none_in_main_again (false ∷ false ∷ true ∷ []) = refl
none_in_main_again (false ∷ false ∷ true ∷ false ∷ rest) = refl
none_in_main_again (false ∷ false ∷ true ∷ true ∷ rest) = refl
none_in_main_again (false ∷ false ∷ false ∷ []) = refl
none_in_main_again (false ∷ false ∷ false ∷ false ∷ rest) = refl
none_in_main_again (false ∷ false ∷ false ∷ true ∷ rest) = refl

-- of three bodies each is one of them
of_three : (one two three : BodyTree) (P : BodyTree → Type 0) → P one → P two → P three
    → (n : ℕ) (body : BodyTree) → slice_get (one ∷ two ∷ three ∷ []) n ≡ Some body → P body
of_three one two three P a b c zero body h = subst P (let e : one ≡ body = cc in e) a
of_three one two three P a b c (suc zero) body h = subst P (let e : two ≡ body = cc in e) b
of_three one two three P a b c (suc (suc zero)) body h = subst P (let e : three ≡ body = cc in e) c
of_three one two three P a b c (suc (suc (suc n))) body h = absurd (cc)

moved_on_one_way_is_accepted : IsAccepted moved_if
moved_on_one_way_is_accepted n body list h =
    of_three drop_d take main_if (λ b. (l : List Bool) → reached_by items b l
    ≡ None) none_in_drop_d none_in_take none_in_main_if n body h list

assigned_again_is_accepted : IsAccepted again
assigned_again_is_accepted n body list h =
    of_three drop_d take main_again (λ b. (l : List Bool) → reached_by items b l
    ≡ None) none_in_drop_d none_in_take none_in_main_again n body h list
