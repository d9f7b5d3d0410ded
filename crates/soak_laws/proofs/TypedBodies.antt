-- Each item of the program keeps the rules, and its bodies are typed.
use Rattle.std.proofs.Common.{◌≡◌, ℕ, zero, suc, ◌-◌, ◌<◌, ◌≤◌, ◌^◌, nat_le, Bool, true, false, ◌==◌, List, [], ◌∷◌, ◌++◌, Some, None, Ok, slice_get, refl, ap, ◌∙◌, arith}
use Rattle.std.specs.Prelude.{codes}
use Rattle.std.proofs.lemmas.Bool.{eqb-true, le-leb}
use Rattle.mir_ty.specs.declared.def.Sig.{Sig}
use Rattle.src_ast.specs.Syntax.{Syn}
use Rattle.src_ast.specs.View.{view}
use Rattle.typed_tree.specs.Tree.{BodyTree}
use Rattle.typing_rules.specs.Check.{TypingState, and_then, ◌>>◌}
use Rattle.typing_rules.specs.Items.{ItemSyn, item_syns}
use Rattle.typing_rules.specs.Program.{Before, all_items, bodies_of, fn_rules, item_rules}
use Rattle.typing_rules.specs.Scope.{Env, body_named}
use Rattle.soak_laws.proofs.ItemSyns.{function_item, functions_items, main_item, item_at, called_items, soak_syns}
use Rattle.soak_laws.proofs.Placing.{Places, placed}
use Rattle.soak_laws.proofs.Tables.{heads_of, function_found, function_there, main_found, main_there, drop_found, drop_there, no_d, no_ask, no_drop, no_print}
use Rattle.soak_laws.proofs.Trees.{function_node, main_node, struct_node, impl_node, f_word, callee_word, d_word}
use Rattle.soak_laws.proofs.TypedTrees.{state_at, soak_env, drop_sig, function_sig, main_sig, function_tree, main_tree, drop_tree, bodies, items_with, functions_at, first_at, impl_at}

pub not_zero : (j : ℕ) → (0 == suc j) ≡ false
not_zero j = by (0 == suc j) refl
  where
    by : (b : Bool) → (0 == suc j) ≡ b → b ≡ false
    by false e = refl
    by true e = absurd (let h = eqb-true 0 (suc j) e in omega (arith, h))

abbrev pub nothing_before : Before
nothing_before = record { methods = []; impls = [] }

abbrev pub impl_before : Before
impl_before = record { methods = (d_word, codes "drop") ∷ []; impls = (d_word, codes "Drop") ∷ [] }

-- ---- functions, whatever the other heads are

module _ (heads : List Sig) (f : Places) (done : List BodyTree) where
  later_typed : (j : ℕ) (own v : List ℕ) →
      body_named (items_with heads) (codes "D") ≡ None →
      body_named (items_with heads) (codes "ask") ≡ None →
      body_named (items_with heads) (102 ∷ v) ≡ Some (suc j) →
      slice_get heads (suc j) ≡ Some (function_sig j) →
      nat_le (suc j) (2 ^ 31 - 1) ≡ true →
      fn_rules soak_env (view (placed (function_node own (suc j) (102 ∷ v)) f)) (state_at heads (suc (suc j)) done)
      ≡ Ok (tt, state_at heads (suc (suc (suc j))) (done ++ function_tree f (suc j) ∷ []))
  later_typed j own v no_d no_ask callee head small = rw (no_d, small, no_ask, callee, head, not_zero j) refl

  first_typed : (own : List ℕ) →
      body_named (items_with heads) (codes "D") ≡ None →
      body_named (items_with heads) (codes "ask") ≡ None →
      body_named (items_with heads) (codes "drop") ≡ None →
      fn_rules soak_env (view (placed (function_node own 0 (codes "drop")) f)) (state_at heads 1 done)
      ≡ Ok (tt, state_at heads 2 (done ++ function_tree f 0 ∷ []))
  first_typed own no_d no_ask no_drop = rw (no_d, no_ask, no_drop) refl

  main_typed : (last : ℕ) (v : List ℕ) →
      body_named (items_with heads) (102 ∷ v) ≡ Some (suc last) →
      slice_get heads (suc last) ≡ Some (function_sig last) →
      body_named (items_with heads) (codes "D") ≡ None →
      nat_le (suc last) (2 ^ 31 - 1) ≡ true →
      fn_rules soak_env (view (placed (main_node (102 ∷ v) (suc last)) f)) (state_at heads (suc (suc last)) done)
      ≡ Ok (tt, state_at heads (suc (suc (suc last))) (done ++ main_tree f last ∷ []))
  main_typed last v callee head no_d small = rw (callee, head, no_d, small, not_zero last) refl

  drop_typed :
      body_named (items_with heads) (codes "print") ≡ None →
      bodies_of soak_env (view (placed impl_node f)) (state_at heads 0 [])
      ≡ Ok (tt, state_at heads 1 (drop_tree f ∷ []))
  drop_typed no_print = rw no_print refl

  -- ---- what is asked of items

  struct_rules : (b : Before) → item_rules soak_env b (view (placed struct_node f)) (state_at heads 0 [])
      ≡ Ok (b, state_at heads 0 [])
  struct_rules b = refl

  impl_rules :
      body_named (items_with heads) (codes "D::drop") ≡ Some 0 →
      slice_get heads 0 ≡ Some drop_sig →
      item_rules soak_env nothing_before (view (placed impl_node f)) (state_at heads 0 [])
      ≡ Ok (impl_before, state_at heads 0 [])
  impl_rules found head = rw (found, head) refl

  function_rules : (b : Before) (i n : ℕ) (callee : List ℕ) →
      body_named (items_with heads) (f_word i) ≡ Some (suc i) →
      slice_get heads (suc i) ≡ Some (function_sig i) →
      item_rules soak_env b (view (placed (function_node (f_word i) i callee) f)) (state_at heads n done)
      ≡ Ok (b, state_at heads n done)
  function_rules b i n callee found head = rw (found, head) refl

  main_rules : (b : Before) (last n m : ℕ) →
      body_named (items_with heads) (codes "main") ≡ Some m →
      slice_get heads m ≡ Some main_sig →
      item_rules soak_env b (view (placed (main_node (f_word last) (suc last)) f)) (state_at heads n done)
      ≡ Ok (b, state_at heads n done)
  main_rules b last n m found head = rw (found, head) refl

-- ---- item by item

one_item : (env : Env) (b next : Before) (i : Syn) (is : List Syn) (s t : TypingState) →
    item_rules env b i s ≡ Ok (next, s) → bodies_of env i s ≡ Ok (tt, t) →
    all_items env b (i ∷ is) s ≡ all_items env next is t
one_item env b next i is s t rules typed =
    ap (λ r. and_then r (λ next. bodies_of env i >> all_items env next is)) rules
    ∙ ap (λ r. and_then r (λ _. all_items env next is)) typed

module _ (last : ℕ) (small : last < 2 ^ 31 - 1) where
  abbrev at : ℕ → List BodyTree → TypingState
  at n done = state_at (heads_of last) n done

  low : last < 2 ^ 31
  low = omega (arith, small)

  fits : (n : ℕ) → n ≤ suc last → nat_le n (2 ^ 31 - 1) ≡ true
  fits n l = le-leb n (2 ^ 31 - 1) (omega (arith, l, small))

  function_typed : (i : ℕ) → i < suc last → (f : Places) (done : List BodyTree) →
      bodies_of soak_env (function_item i f).item (at (suc i) done)
      ≡ Ok (tt, at (suc (suc i)) (done ++ function_tree f i ∷ []))
  function_typed zero l f done =
      first_typed (heads_of last) f done (f_word 0) (no_d last low) (no_ask last low) (no_drop last low)
  function_typed (suc j) l f done =
      later_typed (heads_of last) f done j (f_word (suc j)) _ (no_d last low) (no_ask last low)
      (function_found last low j (omega (arith, l))) (function_there last low j (omega (arith, l)))
      (fits (suc j) (omega (arith, l)))

  one_function : (b : Before) (i : ℕ) → i < suc last → (f : Places) (done : List BodyTree) (rest : List Syn) →
      all_items soak_env b ((function_item i f).item ∷ rest) (at (suc i) done)
      ≡ all_items soak_env b rest (at (suc (suc i)) (done ++ function_tree f i ∷ []))
  one_function b i l f done rest =
      one_item soak_env b b (function_item i f).item rest (at (suc i) done)
      (at (suc (suc i)) (done ++ function_tree f i ∷ []))
      (function_rules (heads_of last) f done b i (suc i) (callee_word i) (function_found last low i l)
      (function_there last low i l))
      (function_typed i l f done)

  all_functions : (b : Before) (k : ℕ) → k ≤ suc last → (f : Places) (rest : List ItemSyn) →
      all_items soak_env b (item_syns (functions_items k (first_at f) rest)) (at 1 (bodies f 0))
      ≡ all_items soak_env b (item_syns rest) (at (suc k) (bodies f k))
  all_functions b zero l f rest = refl
  all_functions b (suc i) l f rest =
      all_functions b i (omega (arith, l)) f (function_item i (functions_at i (first_at f)) ∷ rest)
      ∙ one_function b i (omega (arith, l)) (functions_at i (first_at f)) (bodies f i) (item_syns rest)

  pub soak_typed : (f : Places) →
      all_items soak_env nothing_before (item_syns (soak_syns f last)) (at 0 [])
      ≡ Ok (
        tt,
        at (suc (suc (suc last)))
            (bodies f (suc last) ++ main_tree (functions_at (suc last) (first_at f)) last ∷ []),
      )
  soak_typed f =
      let heads = heads_of last in
      let main = functions_at (suc last) (first_at f) in
      let rest = item_syns (called_items (first_at f) last) in
      let functions = bodies f (suc last) in
      one_item soak_env nothing_before nothing_before (item_at struct_node f).item
      ((item_at impl_node (impl_at f)).item ∷ rest)
      (at 0 []) (at 0 []) (struct_rules heads f [] nothing_before) refl
      ∙ one_item soak_env nothing_before impl_before (item_at impl_node (impl_at f)).item rest (at 0 [])
      (at 1 (bodies f 0))
      (impl_rules heads (impl_at f) [] (drop_found last low) (drop_there last low))
      (drop_typed heads (impl_at f) [] (no_print last low))
      ∙ all_functions impl_before (suc last) (omega arith) f (main_item last main ∷ [])
      ∙ one_item soak_env impl_before impl_before (main_item last main).item [] (at (suc (suc last)) functions)
      (at (suc (suc (suc last))) (functions ++ main_tree main last ∷ []))
      (main_rules heads main functions impl_before last (suc (suc last)) (suc (suc last)) (main_found last low)
      (main_there last low))
      (main_typed heads main functions last _ (function_found last low last (omega arith))
      (function_there last low last (omega arith))
      (no_d last low) (fits (suc last) (omega arith)))
