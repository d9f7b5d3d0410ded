-- What is well typed stays so where its nodes get other numbers, by a function that is one to one on the numbers that
-- there are.
use Rattle.std.proofs.Common.{◌≡◌, ℕ, suc, Bool, true, false, ◌&&◌, ◌||◌, ◌==◌, not, if◌then◌else◌, List, [], ◌∷◌, ◌++◌, map, length, slice_get, Option, Some, None, IsTrue, Contains, ◌⊎◌, inl, inr, refl, ap, sym, subst, ◌∙◌, arith}
use Rattle.std.specs.Prelude.{is_none, is_some}
use Rattle.std.specs.List.{find, filter_map, cons_option, list_any}
use Rattle.std.specs.Option.{option_map_or}
use Rattle.std.proofs.lemmas.Bool.{eqb-true, false≢true}
use Rattle.std.proofs.lemmas.List.{map-append}
use Rattle.std.proofs.lemmas.List.Elements.{Contains-append_left, Contains-append_right, Contains-append_cases}
use Rattle.std.proofs.lemmas.Option.{none-some, same_Some}
use Rattle.mir_ty.specs.declared.def.ClosureDef.{ClosureDef}
use Rattle.mir_ty.specs.declared.def.Sig.{Sig}
use Rattle.mir_ty.specs.declared.def.TraitDef.{TraitDef}
use Rattle.mir_ty.specs.declared.adt.Variant.{Variant}
use Rattle.mir_ty.specs.declared.ty.TyId.{TyId}
use Rattle.mir_ty.specs.Facts.{is_copy, has_drop_impl}
use Rattle.mir_ty.specs.ItemTable.{ItemTable, type_at}
use Rattle.mir_ty.specs.Parts.{field_ty}
use Rattle.typed_tree.specs.declared.node.Use.{Use}
use Rattle.typed_tree.specs.Nodes.{number_of, nodes_of, nodes_in, nodes_among, nodes_of_fields, nodes_if_any}
use Rattle.typed_tree.specs.Tree.{Node, node, Nodes, no_node, a_node, Fields, no_field, a_field, MaybeNode, absent, present, Form, Number, Truth, UnitValue, Variable, Captured, Field, Index, Deref, Not, Negate, Arithmetic, Comparison, And, Or, Assign, Call, MethodCall, VirtualCall, ClosureCall, Make, Tuple, Array, Closure, NewBox, Print, Ask, DropValue, Forget, Panic, Borrow, Unsize, Block, Let, Evaluate, If, IfLet, Match, Arm, Loop, While, WhileLet, Break, Continue, Return, Binding}
use Rattle.well_typed.specs.Claim.{Claim, Holds, fact, both, some}
use Rattle.well_typed.specs.Names.{are_distinct, are_distinct_numbers}
use Rattle.well_typed.specs.Nodes as well
use Rattle.well_typed.specs.Nodes.{typed, row, is_leaf, is_one_name, is_unused_place, ends_by, ends_in, is_block_ty, is_loop_ty, carried, carried_by, carries_ty, types_in, matched_in, fits_bool, fits_unit, are_operands, int_or_bool, is_variable, box_implements, first_and_rest, whole, arguments, made_parts, made_fields, elements_of, captured, arms_of, arm, guarded, statements, statement, tail_of, carries, returned}
use Rattle.well_typed.specs.Patterns as patterns
use Rattle.well_typed.specs.Patterns.{Matched, names_of, entries_of, field_numbers, count_of, binding_entry}
use Rattle.well_typed.specs.Places.{InScope, LoopAround, Context, with_entries, within, in_guard, entry_with, loop_with, ty_of, form_of, is_place, is_borrow, may_move, may_move_by, is_guarded, is_own_binding, is_rooted, is_rooted_by, is_behind_shared, names_shared, is_by, is_use, taking, Standing, Taken, Wanted, Passed, Base, Used, Stored, stands}
use Rattle.well_typed.specs.Types.{is_same, is_unit, is_never, is_i32, is_usize, is_dyn, is_reference, reference_of, fits, is_common, has_fields, array_of, inside_of, tuple_of, boxed_of, variant_at}
use Rattle.typing_rules.specs.Numbered.{renumbered, form_renumbered, nodes_renumbered, fields_renumbered, maybe_renumbered}
use Rattle.typing_rules.proofs.Sound.Fitted.{or_left, or_right, same_self}
use Rattle.typing_rules.proofs.Sound.Gives.{◌⋆◌}
use Rattle.typing_rules.proofs.Sound.Operators.{or_cases}
use Rattle.typing_rules.proofs.Sound.Places.{contains_cases}
use Rattle.typing_soundness.specs.Numbers.{entry_on, loop_on, option_on, context_on, AllAmong, IsAmong}
use Rattle.typing_soundness.proofs.Numbers.Nodes.{of_node, names_on, entries_on, field_numbers_on, count_on, pattern_on, carried_on}

-- ---- what is there

pub holds_some : {A : Type 0} (o : Option A) (P : A → Claim) → Holds (some o P) → (x : A) × (o ≡ Some x) × Holds (P x)
holds_some None P h = absurd (let no_ : IsTrue false = h in cc)
holds_some (Some x) P h = (x, refl, h)

pub some_holds : {A : Type 0} (o : Option A) (P : A → Claim) (x : A) → o ≡ Some x → Holds (P x) → Holds (some o P)
some_holds o P x e h = subst (λ q. Holds (some q P)) (sym e) h

find_is : {A : Type 0} (p : A → Bool) (xs : List A) (x : A) → find p xs ≡ Some x → IsTrue (p x) × Contains xs x
find_is p [] x e = absurd (none-some x e)
find_is {A} p (y ∷ ys) x e = by (p y) refl (λ more. find_is p ys x more) e
  where
    by : (b : Bool) → p y ≡ b → (find p ys ≡ Some x → IsTrue (p x) × Contains ys x) → (if b then Some y else find p ys) ≡
        Some x → IsTrue (p x) × Contains (y ∷ ys) x
    by true is on e =
        let same = same_Some y x e in (subst (λ z. IsTrue (p z)) same is, (0, omega arith, same))
    by false is on e = let g = on e in (g.0, (suc g.1.0, omega (arith, g.1.1), g.1.2))

pub found_in : {A : Type 0} (p : A → Bool) (xs : List A) (x : A) → find p xs ≡ Some x → IsTrue (p x) × Contains xs x
found_in = find_is

-- an entry is by a binding's node
entry_node : (xs : List Node) (x : InScope) → Contains (filter_map binding_entry xs) x → (n : Node) × Contains xs n ×
    (number_of n ≡ x.key)
entry_node [] x has = absurd (omega (arith, has.1))
entry_node (n ∷ ns) x has = by (binding_entry n) (is_number n) (λ more. entry_node ns x more) has
  where
    is_number : (m : Node) (y : InScope) → binding_entry m ≡ Some y → number_of m ≡ y.key
    is_number (node id at ty by (Binding name)) y = λ e. ap (λ (z : InScope). z.key) (same_Some _ y e)
    is_number (node id at ty by _) y = λ e. absurd (none-some y e)

    later : ((m : Node) × Contains ns m × (number_of m ≡ x.key)) → (m : Node) × Contains (n ∷ ns) m × (number_of m ≡
        x.key)
    later g = (g.0, (suc g.1.0, omega (arith, g.1.1), g.1.2), g.2)

    first : (y : InScope) → number_of n ≡ y.key → (Contains (filter_map binding_entry ns) x → (m : Node) × Contains ns
        m × (number_of m ≡ x.key)) → (y ≡ x) ⊎ Contains (filter_map binding_entry ns) x → (m : Node) × Contains (n ∷ ns)
        m × (number_of m ≡ x.key)
    first y is on (inl same) = (n, (0, omega arith, refl), is ∙ ap (λ (z : InScope). z.key) same)
    first y is on (inr more) = later (on more)

    by : (o : Option InScope) → ((y : InScope) → o ≡ Some y → number_of n ≡ y.key) → (Contains (filter_map binding_entry
        ns) x → (m : Node) × Contains ns m × (number_of m ≡ x.key)) → Contains (cons_option o (filter_map binding_entry
        ns)) x → (m : Node) × Contains (n ∷ ns) m × (number_of m ≡ x.key)
    by None is on has = later (on has)
    by (Some y) is on has = first y (is y refl) on (contains_cases y (filter_map binding_entry ns) x has)

-- ---- what does not depend on numbers

module _ (f : ℕ → ℕ) where
  pub ty_on : (n : Node) → ty_of (renumbered f n) ≡ ty_of n
  ty_on (node id at ty by form) = refl

  place_on : (form : Form) → is_place (form_renumbered f form) ≡ is_place form
  place_on (Variable key) = refl
  place_on (Captured closure part name) = refl
  place_on (Field base part) = refl
  place_on (Index base index count) = refl
  place_on (Deref base) = refl
  place_on _ = refl

  place_of_on : (n : Node) → is_place (form_of (renumbered f n)) ≡ is_place (form_of n)
  place_of_on (node id at ty by form) = place_on form

  borrow_on : (form : Form) → is_borrow (form_renumbered f form) ≡ is_borrow form
  borrow_on (Borrow unique base) = refl
  borrow_on _ = refl

  leaf_on : (n : Node) → is_leaf (form_of (renumbered f n)) ≡ is_leaf (form_of n)
  leaf_on (node id at ty by form) = by_form form
    where
      by_form : (form : Form) → is_leaf (form_renumbered f form) ≡ is_leaf form
      by_form (Block statements tail) = refl
      by_form _ = refl

  variable_on : (n : Node) → is_variable (form_of (renumbered f n)) ≡ is_variable (form_of n)
  variable_on (node id at ty by form) = by_form form
    where
      by_form : (form : Form) → is_variable (form_renumbered f form) ≡ is_variable form
      by_form (Variable key) = refl
      by_form (Captured closure part name) = refl
      by_form _ = refl

  pub one_on : (n : Node) → is_one_name (renumbered f n) ≡ is_one_name n
  one_on (node id at ty by (Binding name)) = refl
  one_on (node id at ty by _) = refl

  unused_on : (n : Node) → is_unused_place (renumbered f n) ≡ is_unused_place n
  unused_on (node id at ty by form) = ap (λ b. b && is_none by) (place_on form)

  ends_by_on : (items : ItemTable) (form : Form) → ends_by items (form_renumbered f form) ≡ ends_by items form
  ends_by_on items (Let p absent) = refl
  ends_by_on items (Let p (present value)) = λ i. is_never items (ty_on value i) && not (unused_on value i)
  ends_by_on items (Evaluate expression) = λ i. is_never items (ty_on expression i)
  ends_by_on items _ = refl

  first_ends : (items : ItemTable) (n : Node) → ends_by items (form_of (renumbered f n)) ≡ ends_by items (form_of n)
  first_ends items (node id at ty by form) = ends_by_on items form

  ends_on : (items : ItemTable) (ns : Nodes) → ends_in items (nodes_renumbered f ns) ≡ ends_in items ns
  ends_on items no_node = refl
  ends_on items (a_node first rest) = λ i. first_ends items first i || ends_on items rest i

  types_on : (ns : Nodes) → types_in (nodes_renumbered f ns) ≡ types_in ns
  types_on no_node = refl
  types_on (a_node first rest) = λ i. ty_on first i ∷ types_on rest i

  block_ty_on : (items : ItemTable) (ty : TyId) (ns : Nodes) (tail : MaybeNode) → is_block_ty items ty (nodes_renumbered
      f ns) (maybe_renumbered f tail) ≡ is_block_ty items ty ns tail
  block_ty_on items ty ns (present tail) = ap (is_same ty) (ty_on tail)
  block_ty_on items ty ns absent = ap (λ b. if b then is_never items ty else is_unit items ty) (ends_on items ns)

  of_ty : (P : TyId → Bool) (n : Node) → IsTrue (P (ty_of n)) → IsTrue (P (ty_of (renumbered f n)))
  of_ty P n h = subst (λ t. IsTrue (P t)) (sym (ty_on n)) h

  -- ---- where a node stands, under other numbers

  guards_on : (xs : List InScope) → map (entry_on f) (in_guard xs) ≡ in_guard (map (entry_on f) xs)
  guards_on [] = refl
  guards_on (x ∷ xs) = λ i. record (entry_on f x) { is_in_guard = true } ∷ guards_on xs i

  scope_on : (c : Context) (p : Node) → context_on f (with_entries (entries_of p) c) ≡ with_entries (entries_of
      (renumbered f p)) (context_on f c)
  scope_on c p =
      λ i. record (context_on f c) {
        entries = (map-append (entry_on f) (entries_of p) c.entries ∙ ap (λ xs. xs ++ map
            (entry_on f) c.entries) (sym (entries_on f p))) i;
      }

  guard_scope : (c : Context) (p : Node) → context_on f (with_entries (in_guard (entries_of p)) c) ≡ with_entries
      (in_guard (entries_of (renumbered f p))) (context_on f c)
  guard_scope c p =
      λ i. record (context_on f c) {
        entries = (map-append (entry_on f) (in_guard (entries_of p)) c.entries ∙ ap (λ xs. xs
            ++ map (entry_on f) c.entries) (guards_on (entries_of p) ∙ ap in_guard (sym (entries_on f p)))) i;
      }

  mutual
    root_on : (c : Context) (n : Node) → is_rooted (context_on f c) (renumbered f n) ≡ is_rooted c n
    root_on c (node id at ty by form) = root_by c ty form

    root_by : (c : Context) (ty : TyId) (form : Form) → is_rooted_by (context_on f c) ty (form_renumbered f form) ≡
        is_rooted_by c ty form
    root_by c ty (Variable key) = refl
    root_by c ty (Field base part) = root_on c base
    root_by c ty (Index base index count) = root_on c base
    root_by c ty (Deref base) = root_on c base
    root_by c ty _ = refl

  behind_on : (c : Context) (n : Node) → is_behind_shared (context_on f c) (renumbered f n) ≡ is_behind_shared c n
  behind_on c (node id at ty by form) = λ i. place_on form i && root_by c ty form i

  -- ---- numbers that there are

  module _ (ns : List ℕ) (one_to_one : (a b : ℕ) → Contains ns a → Contains ns b → f a ≡ f b → a ≡ b) where
    abbrev AllIn : List Node → Type 0
    AllIn = AllAmong ns

    abbrev IsIn : Context → Type 0
    IsIn = IsAmong ns

    pub left_in : (xs ys : List Node) → AllIn (xs ++ ys) → AllIn xs
    left_in xs ys w n has = w n (Contains-append_left xs ys n has)

    pub right_in : (xs ys : List Node) → AllIn (xs ++ ys) → AllIn ys
    right_in xs ys w n has = w n (Contains-append_right xs ys n has)

    same_test : (a b : ℕ) → Contains ns a → Contains ns b → (f a == f b) ≡ (a == b)
    same_test a b ha hb = by (a == b) refl
      where
        no_more : (c : Bool) → (f a == f b) ≡ c → (a == b) ≡ false → c ≡ false
        no_more true e no_ =
            absurd (false≢true (sym no_ ∙ subst (λ k. IsTrue (a == k)) (one_to_one a b ha hb (eqb-true (f a) (f b) e))
            (same_self a)))
        no_more false e no_ = refl

        by : (c : Bool) → (a == b) ≡ c → (f a == f b) ≡ c
        by true e = subst (λ k. IsTrue (f a == f k)) (eqb-true a b e) (same_self (f a))
        by false e = no_more (f a == f b) refl e

    entry_found_on : (key : ℕ) → Contains ns key → (es : List InScope) → ((x : InScope) → Contains es x → Contains ns
        x.key) → entry_with (f key) (map (entry_on f) es) ≡ option_on f (entry_with key es)
    entry_found_on key has [] all = refl
    entry_found_on key has (x ∷ xs) all =
        ap (λ b. if b then Some (entry_on f x) else entry_with (f key) (map (entry_on f) xs)) (same_test x.key key (all x
        (0, omega arith, refl)) has) ∙ by (x.key == key) (entry_found_on key has xs (λ y more. all y (
          suc more.0,
          omega
              (arith, more.1),
          more.2,
        )))
      where
        by : (b : Bool) → entry_with (f key) (map (entry_on f) xs) ≡ option_on f (entry_with key xs) → (if b then Some
            (entry_on f x) else entry_with (f key) (map (entry_on f) xs)) ≡ option_on f (if b then Some x else
            entry_with key xs)
        by true e = refl
        by false e = e

    abbrev loop_option : Option LoopAround → Option LoopAround
    loop_option None = None
    loop_option (Some l) = Some (loop_on f l)

    loop_found_on : (key : ℕ) → Contains ns key → (ls : List LoopAround) → ((l : LoopAround) → Contains ls l → Contains
        ns l.loop) → loop_with (f key) (map (loop_on f) ls) ≡ loop_option (loop_with key ls)
    loop_found_on key has [] all = refl
    loop_found_on key has (l ∷ ls) all =
        ap (λ b. if b then Some (loop_on f l) else loop_with (f key) (map (loop_on f) ls)) (same_test l.loop key (all l (
          0,
          omega arith,
          refl,
        )) has) ∙ by (l.loop == key) (loop_found_on key has ls (λ y more. all y (
          suc more.0,
          omega
              (arith, more.1),
          more.2,
        )))
      where
        by : (b : Bool) → loop_with (f key) (map (loop_on f) ls) ≡ loop_option (loop_with key ls) → (if b then Some (loop_on f
            l) else loop_with (f key) (map (loop_on f) ls)) ≡ loop_option (if b then Some l else loop_with key ls)
        by true e = refl
        by false e = e

    -- what is found by a key has that key
    entry_key : (c : Context) → IsIn c → (key : ℕ) (x : InScope) → entry_with key c.entries ≡ Some x → Contains ns key
    entry_key c in_ key x e =
        let g = find_is (λ (y : InScope). y.key == key) c.entries x e in
        subst (Contains ns) (eqb-true x.key key g.0) (in_.entries x g.1)

    loop_key : (c : Context) → IsIn c → (key : ℕ) (l : LoopAround) → loop_with key c.loops ≡ Some l → Contains ns key
    loop_key c in_ key l e =
        let g = find_is (λ (y : LoopAround). y.loop == key) c.loops l e in
        subst (Contains ns) (eqb-true l.loop key g.0) (in_.loops l g.1)

    guarded_on : (c : Context) → IsIn c → (key : ℕ) (P : InScope → Claim) → Holds (some (entry_with key c.entries) P) →
        is_guarded (map (entry_on f) c.entries) (f key) ≡ is_guarded c.entries key
    guarded_on c in_ key P h =
        let g = holds_some (entry_with key c.entries) P h in
        ap (λ o. option_map_or (λ (x : InScope). x.is_in_guard) o false) (entry_found_on key (entry_key c in_ key g.0
        g.1) c.entries in_.entries) ∙ by (entry_with key c.entries)
      where
        by : (o : Option InScope) → option_map_or (λ (x : InScope). x.is_in_guard) (option_on f o) false ≡ option_map_or
            (λ (x : InScope). x.is_in_guard) o false
        by None = refl
        by (Some x) = refl

    own_on : (c : Context) → IsIn c → (id : ℕ) (ty : TyId) (form : Form) → Holds (row c id ty form) → is_own_binding
        (context_on f c) (form_renumbered f form) ≡ is_own_binding c form
    own_on c in_ id ty (Variable key) = λ h. guarded_on c in_ key _ h
    own_on c in_ id ty _ = λ h. refl

    mutual
      pub may_on : (c : Context) → IsIn c → (st : Standing) (n : Node) → Holds (typed c st n) → may_move (context_on f c)
          (renumbered f n) ≡ may_move c n
      may_on c in_ st (node id at ty by form) h = may_by c in_ id ty form h.1

      may_by : (c : Context) → IsIn c → (id : ℕ) (ty : TyId) (form : Form) → Holds (row c id ty form) → may_move_by
          (context_on f c) (form_renumbered f form) ≡ may_move_by c form
      may_by c in_ id ty (Variable key) = λ h. ap not (guarded_on c in_ key _ h)
      may_by c in_ id ty (Field base part) =
          λ h. λ i. not (has_drop_impl c.items (ty_on base i)) && may_on c in_ Base base h.0 i
      may_by c in_ id ty (Index base index count) = λ h. refl
      may_by c in_ id ty (Deref base) =
          λ h. λ i. not (is_reference c.items (ty_on base i)) && may_on c in_ Base base h.0 i
      may_by c in_ id ty _ = λ h. refl

    taken_same : (c : Context) (ty : TyId) (by : Option Use) (form : Form) → may_move_by (context_on f c) (form_renumbered
        f form) ≡ may_move_by c form → Rattle.well_typed.specs.Places.is_taken (context_on f c) ty by (form_renumbered f
        form) ≡ Rattle.well_typed.specs.Places.is_taken c ty by form
    taken_same c ty by form m =
        λ i. if place_on form i then both (fact (is_by (taking c.items ty) by)) (both (fact (is_copy c.items ty || (m i
        && not (is_dyn c.items ty)))) (fact (not (is_reference c.items ty)))) else fact (is_none by && not (borrow_on
        form i))

    stands_same : (c : Context) (st : Standing) (ty : TyId) (by : Option Use) (form : Form) → may_move_by (context_on f c)
        (form_renumbered f form) ≡ may_move_by c form → is_own_binding (context_on f c) (form_renumbered f form) ≡
        is_own_binding c form → stands (context_on f c) st ty by (form_renumbered f form) ≡ stands c st ty by form
    stands_same c Taken ty by form m o = taken_same c ty by form m
    stands_same c (Wanted expected) ty by form m o = λ i. both (taken_same c ty by form m i) (fact (fits c.items expected ty))
    stands_same c (Passed expected) ty by form m o =
        λ i. if is_reference c.items expected && not (is_never c.items ty) then fact (borrow_on form i && is_none by &&
        is_same ty expected) else both (taken_same c ty by form m i) (fact (fits c.items expected ty))
    stands_same c Base ty by form m o = λ i. fact (is_none by && not (borrow_on form i))
    stands_same c (Used expected) ty by form m o =
        λ i. fact ((if place_on form i then is_by expected by else is_none by && not (borrow_on form i)) && not
        (is_reference c.items ty))
    stands_same c Stored ty by form m o =
        λ i. both (fact (place_on form i && is_by Use.Store by && not (is_reference c.items ty))) (both (fact (not (o
        i))) (fact (not (is_dyn c.items ty))))

    -- ---- inside

    pub within_in : (c : Context) (l : LoopAround) → Contains ns l.loop → IsIn c → IsIn (within l c)
    within_in c l has in_ = record {
      entries = in_.entries;
      closure = in_.closure;
      loops = λ m h. by m (contains_cases l c.loops m h);
    }
      where
        by : (m : LoopAround) → (l ≡ m) ⊎ Contains c.loops m → Contains ns m.loop
        by m (inl same) = subst (λ (x : LoopAround). Contains ns x.loop) same has
        by m (inr more) = in_.loops m more

    pub entries_in : (p : Node) → AllIn (nodes_of p) → (x : InScope) → Contains (entries_of p) x → Contains ns x.key
    entries_in p w x has = let g = entry_node (nodes_of p) x has in subst (Contains ns) g.2 (w g.0 g.1)

    guard_from : (xs : List InScope) (x : InScope) → Contains (in_guard xs) x → (y : InScope) × Contains xs y × (x.key ≡
        y.key)
    guard_from [] x has = absurd (omega (arith, has.1))
    guard_from (y ∷ ys) x has = by (λ more. guard_from ys x more) (contains_cases _ (in_guard ys) x has)
      where
        by : (Contains (in_guard ys) x → (z : InScope) × Contains ys z × (x.key ≡ z.key)) → (record y {
          is_in_guard =
              true;
        } ≡ x) ⊎ Contains (in_guard ys) x → (z : InScope) × Contains (y ∷ ys) z × (x.key ≡ z.key)
        by on (inl same) = (y, (0, omega arith, refl), ap (λ (z : InScope). z.key) (sym same))
        by on (inr more) = let g = on more in (g.0, (suc g.1.0, omega (arith, g.1.1), g.1.2), g.2)

    more_in : (c : Context) (new : List InScope) → ((x : InScope) → Contains new x → Contains ns x.key) → IsIn c → IsIn
        (with_entries new c)
    more_in c new all in_ = record {
      entries = λ x h. by x (Contains-append_cases new c.entries x h);
      closure = in_.closure;
      loops = in_.loops;
    }
      where
        by : (x : InScope) → Contains new x ⊎ Contains c.entries x → Contains ns x.key
        by x (inl h) = all x h
        by x (inr h) = in_.entries x h

    pub scope_in : (c : Context) (p : Node) → AllIn (nodes_of p) → IsIn c → IsIn (with_entries (entries_of p) c)
    scope_in c p w in_ = more_in c (entries_of p) (entries_in p w) in_

    guard_in : (c : Context) (p : Node) → AllIn (nodes_of p) → IsIn c → IsIn (with_entries (in_guard (entries_of p)) c)
    guard_in c p w in_ =
        more_in c (in_guard (entries_of p)) (λ x h. let g = guard_from (entries_of p) x h in subst (Contains ns) (sym
        g.2) (entries_in p w g.0 g.1)) in_

    -- the pattern of a place
    place_pattern : (items : ItemTable) (m m' : Matched) (ty ty' : TyId) (p : Node) → m' ≡ m → ty' ≡ ty → Holds
        (patterns.pattern items m ty p) → Holds (patterns.pattern items m' ty' (renumbered f p))
    place_pattern items m m' ty ty' p em et h =
        subst Holds (sym ((λ i. patterns.pattern items (em i) (et i) (renumbered f p)) ∙ pattern_on f items m ty p)) h

    names_so : (p : Node) → IsTrue (are_distinct (names_of p)) → IsTrue (are_distinct (names_of (renumbered f p)))
    names_so p h = subst (λ xs. IsTrue (are_distinct xs)) (sym (names_on f p)) h

    matched_same : (takes : Bool) (c : Context) → IsIn c → (st : Standing) (n : Node) → Holds (typed c st n) →
        matched_in takes (context_on f c) (renumbered f n) ≡ matched_in takes c n
    matched_same takes c in_ st n h = λ i. record { takes_all = takes; may_move = may_on c in_ st n h i }

    scrutinee_on : (c : Context) → IsIn c → (st : Standing) (p n : Node) → Holds (typed c st n) → Holds
        (well.of_scrutinee c p n) → Holds (well.of_scrutinee (context_on f c) (renumbered f p) (renumbered f n))
    scrutinee_on c in_ st p n hn h = (
      names_so p h.0,
      place_pattern c.items (matched_in false c n) _ (ty_of n) _ p (matched_same false c in_ st n hn) (ty_on n) h.1,
    )

    if_same : (b b' : Bool) (x x' y : Matched) → b' ≡ b → x' ≡ x → (if b' then y else x') ≡ (if b then y else x)
    if_same b b' x x' y e h = λ i. if e i then y else h i

    as_same : (p : Node) → well.as_initialiser (renumbered f p) ≡ well.as_initialiser p
    as_same p = λ i. if one_on p i then Wanted (ty_on p i) else Base

    first_rest_on : (F F' : TyId → Claim) (R R' : List TyId → Claim) → ((t : TyId) → Holds (F t) → Holds (F' t)) → ((ts :
        List TyId) → Holds (R ts) → Holds (R' ts)) → (tys : List TyId) → Holds (first_and_rest F R tys) → Holds
        (first_and_rest F' R' tys)
    first_rest_on F F' R R' first rest [] h = absurd (let no_ : IsTrue false = h in cc)
    first_rest_on F F' R R' first rest (t ∷ ts) h = (first t h.0, rest ts h.1)

    loop_ty_on : (items : ItemTable) (id : ℕ) (ty : TyId) (body : Node) → IsTrue (is_loop_ty items ty (carried id body))
        → IsTrue (is_loop_ty items ty (carried (f id) (renumbered f body)))
    loop_ty_on items id ty body h = by (or_cases (is_never items ty) _ h)
      where
        by : IsTrue (is_never items ty) ⊎ IsTrue (list_any (carries_ty items ty) (carried id body)) → IsTrue (is_loop_ty
            items ty (carried (f id) (renumbered f body)))
        by (inl a) = or_left (is_never items ty) _ a
        by (inr b) =
            or_right (is_never items ty) _ (subst (λ xs. IsTrue (list_any (carries_ty items ty) (filter_map (carried_by
            (f id)) xs))) (sym (of_node f body)) (carried_on f items id ty (nodes_of body) b))

    -- the pattern of a `while let` is looked at outside its loop
    scrutinee_within : (c : Context) → IsIn c → (l : LoopAround) → IsIn (within l c) → (p n : Node) → Holds (typed
        (within l c) (Used Use.Borrow) n) → Holds (well.of_scrutinee c p n) → Holds (well.of_scrutinee (context_on f c)
        (renumbered f p) (renumbered f n))
    scrutinee_within c in_ l inl_ p n hn h = (
      names_so p h.0,
      place_pattern c.items (matched_in false c n) _ (ty_of n) _ p (λ i. record {
        takes_all = false;
        may_move = may_on
            (within l c) inl_ (Used Use.Borrow) n hn i;
      }) (ty_on n) h.1,
    )

    form_scope : (c : Context) (form : Form) → context_on f (with_entries (well.entries_in form) c) ≡ with_entries
        (well.entries_in (form_renumbered f form)) (context_on f c)
    form_scope c (Let p value) = scope_on c p
    form_scope c _ = refl

    form_in : (c : Context) (form : Form) → AllIn (nodes_in form) → IsIn c → IsIn (with_entries (well.entries_in form)
        c)
    form_in c (Let p value) w in_ = scope_in c p (left_in (nodes_of p) (nodes_if_any value) w) in_
    form_in c _ w in_ = in_

    -- ---- the recursion

    mutual
      pub typed_on : (c : Context) → IsIn c → (st : Standing) (n : Node) → AllIn (nodes_of n) → Holds (typed c st n) →
          Holds (typed (context_on f c) st (renumbered f n))
      typed_on c in_ st (node id at ty by form) w h = (
        subst Holds (sym (stands_same c st ty by form (may_by c in_ id ty form h.1) (own_on c in_ id ty form h.1))) h.0,
        row_on c in_ id ty form (w (node id at ty by form) (0, omega arith, refl)) (right_in (node id at ty by form ∷
            []) (nodes_in form) w) h.1,
      )

      row_on : (c : Context) → IsIn c → (id : ℕ) (ty : TyId) (form : Form) → Contains ns id → AllIn (nodes_in form) →
          Holds (row c id ty form) → Holds (row (context_on f c) (f id) ty (form_renumbered f form))
      row_on c in_ id ty (Number value) k w h = h
      row_on c in_ id ty (Truth value) k w h = h
      row_on c in_ id ty UnitValue k w h = h
      row_on c in_ id ty (Variable key) k w h =
          let g = holds_some (entry_with key c.entries) (λ (x : InScope). fact (is_same ty x.ty)) h in
          some_holds _ (λ (x : InScope). fact (is_same ty x.ty)) (entry_on f g.0) (entry_found_on key (entry_key c in_
          key g.0 g.1) c.entries in_.entries ∙ ap (option_on f) g.1) g.2
      row_on c in_ id ty (Captured closure part name) k w h =
          let g = holds_some c.closure (λ (x : InScope). both (fact (x.key == closure)) (some (field_ty c.items x.ty 0
          part) (λ t. fact (is_same ty t)))) h in
          some_holds _ (λ (x : InScope). both (fact (x.key == f closure)) (some (field_ty c.items x.ty 0 part) (λ t.
          fact (is_same ty t)))) (entry_on f g.0) (ap (option_on f) g.1) (
            subst (λ n. IsTrue (f g.0.key == f n))
                (eqb-true g.0.key closure g.2.0) (same_self (f g.0.key)),
            g.2.1,
          )
      row_on c in_ id ty (Field base part) k w h =
          typed_on c in_ Base base w h.0 ⋆ subst (λ t. Holds (both (fact (has_fields c.items t)) (some (field_ty c.items
          t 0 part) (λ u. fact (is_same ty u))))) (sym (ty_on base)) h.1
      row_on c in_ id ty (Index base index count) k w h =
          typed_on c in_ Base base (left_in (nodes_of base) (nodes_of index) w) h.0 ⋆ typed_on c in_ Taken index
          (right_in (nodes_of base) (nodes_of index) w) h.1.0 ⋆ of_ty (λ t. is_usize c.items t || is_never c.items t)
          index h.1.1.0 ⋆ subst (λ t. Holds (some (array_of c.items t) (λ (a : TyId × ℕ). fact (is_same ty a.0 && count
          == a.1)))) (sym (ty_on base)) h.1.1.1
      row_on c in_ id ty (Deref base) k w h =
          typed_on c in_ Base base w h.0 ⋆ subst (λ t. Holds (some (inside_of c.items t) (λ u. fact (is_same ty u))))
          (sym (ty_on base)) h.1
      row_on c in_ id ty (Not operand) k w h =
          typed_on c in_ Taken operand w h.0 ⋆ of_ty (fits_bool c.items) operand h.1.0 ⋆ h.1.1
      row_on c in_ id ty (Negate operand) k w h =
          typed_on c in_ Taken operand w h.0 ⋆ of_ty (is_same ty) operand h.1.0 ⋆ h.1.1
      row_on c in_ id ty (Arithmetic operator left right) k w h =
          typed_on c in_ (Wanted ty) left (left_in (nodes_of left) (nodes_of right) w) h.0 ⋆ typed_on c in_ (Wanted ty)
          right (right_in (nodes_of left) (nodes_of right) w) h.1.0 ⋆ h.1.1.0 ⋆ subst Holds (λ i. fact (is_same ty (sym
          (ty_on left) i) || is_same ty (sym (ty_on right) i))) h.1.1.1
      row_on c in_ id ty (Comparison operator left right) k w h =
          typed_on c in_ Taken left (left_in (nodes_of left) (nodes_of right) w) h.0 ⋆ typed_on c in_ Taken right
          (right_in (nodes_of left) (nodes_of right) w) h.1.0 ⋆ subst Holds (λ i. fact (are_operands c.items
          (int_or_bool c.items) (sym (ty_on left) i) (sym (ty_on right) i))) h.1.1.0 ⋆ h.1.1.1
      row_on c in_ id ty (And left right) k w h =
          typed_on c in_ Taken left (left_in (nodes_of left) (nodes_of right) w) h.0 ⋆ typed_on c in_ Taken right
          (right_in (nodes_of left) (nodes_of right) w) h.1.0 ⋆ of_ty (fits_bool c.items) left h.1.1.0 ⋆ of_ty
          (fits_bool c.items) right h.1.1.1.0 ⋆ h.1.1.1.1
      row_on c in_ id ty (Or left right) k w h =
          typed_on c in_ Taken left (left_in (nodes_of left) (nodes_of right) w) h.0 ⋆ typed_on c in_ Taken right
          (right_in (nodes_of left) (nodes_of right) w) h.1.0 ⋆ of_ty (fits_bool c.items) left h.1.1.0 ⋆ of_ty
          (fits_bool c.items) right h.1.1.1.0 ⋆ h.1.1.1.1
      row_on c in_ id ty (Assign place value) k w h =
          typed_on c in_ Stored place (left_in (nodes_of place) (nodes_of value) w) h.0 ⋆ subst (λ b. IsTrue (not b))
          (sym (behind_on c place)) h.1.0 ⋆ subst (λ t. Holds (typed (context_on f c) (Wanted t) (renumbered f value)))
          (sym (ty_on place)) (typed_on c in_ (Wanted (ty_of place)) value (right_in (nodes_of place) (nodes_of value)
          w) h.1.1.0) ⋆ h.1.1.1
      row_on c in_ id ty (Call body args) k w h =
          let g = holds_some (slice_get c.items.bodies body) (λ (sig : Sig). both (fact (is_same ty sig.result))
          (arguments c sig.params args)) h.0 in
          some_holds _ (λ (sig : Sig). both (fact (is_same ty sig.result)) (arguments (context_on f c) sig.params
          (nodes_renumbered f args))) g.0 g.1 (g.2.0, arguments_on c in_ g.0.params args w g.2.1) ⋆ h.1
      row_on c in_ id ty (MethodCall body receiver args) k w h =
          let g = holds_some (slice_get c.items.bodies body) (λ (sig : Sig). both (fact (is_same ty sig.result))
          (first_and_rest (λ t. typed c (Passed t) receiver) (λ ts. arguments c ts args) sig.params)) h.0 in
          some_holds _ (λ (sig : Sig). both (fact (is_same ty sig.result)) (first_and_rest (λ t. typed (context_on f c)
          (Passed t) (renumbered f receiver)) (λ ts. arguments (context_on f c) ts (nodes_renumbered f args)) sig.params))
          g.0 g.1 (
            g.2.0,
            first_rest_on (λ t. typed c (Passed t) receiver) (λ t. typed (context_on f c) (Passed t) (renumbered f receiver)) (λ ts.
                arguments c ts args) (λ ts. arguments (context_on f c) ts (nodes_renumbered f args)) (λ t x. typed_on c in_
                (Passed t) receiver (left_in (nodes_of receiver) (nodes_among args) w) x) (λ ts x. arguments_on c in_ ts args
                (right_in (nodes_of receiver) (nodes_among args) w) x) g.0.params g.2.1,
          ) ⋆ h.1
      row_on c in_ id ty (VirtualCall trait_no method receiver args) k w h =
          let d = holds_some (slice_get c.items.traits trait_no) (λ (def : TraitDef). some (slice_get def.methods
          method) (λ (sig : Sig). both (fact (is_same ty sig.result)) (first_and_rest (λ t. typed c (Passed t) receiver)
          (λ ts. arguments c ts args) sig.params))) h in
          let g = holds_some (slice_get d.0.methods method) (λ (sig : Sig). both (fact (is_same ty sig.result))
          (first_and_rest (λ t. typed c (Passed t) receiver) (λ ts. arguments c ts args) sig.params)) d.2 in
          some_holds _ (λ (def : TraitDef). some (slice_get def.methods method) (λ (sig : Sig). both (fact (is_same ty
          sig.result)) (first_and_rest (λ t. typed (context_on f c) (Passed t) (renumbered f receiver)) (λ ts. arguments
          (context_on f c) ts (nodes_renumbered f args)) sig.params))) d.0 d.1 (some_holds _ (λ (sig : Sig). both (fact
          (is_same ty sig.result)) (first_and_rest (λ t. typed (context_on f c) (Passed t) (renumbered f receiver)) (λ ts.
          arguments (context_on f c) ts (nodes_renumbered f args)) sig.params)) g.0 g.1 (
            g.2.0,
            first_rest_on (λ t. typed c (Passed t) receiver) (λ t. typed (context_on f c) (Passed t) (renumbered f receiver)) (λ ts.
                arguments c ts args) (λ ts. arguments (context_on f c) ts (nodes_renumbered f args)) (λ t x. typed_on c in_
                (Passed t) receiver (left_in (nodes_of receiver) (nodes_among args) w) x) (λ ts x. arguments_on c in_ ts args
                (right_in (nodes_of receiver) (nodes_among args) w) x) g.0.params g.2.1,
          ))
      row_on c in_ id ty (ClosureCall body callee args) k w h =
          let g = holds_some (slice_get c.items.bodies body) (λ (sig : Sig). both (fact (is_same ty sig.result))
          (first_and_rest (λ t. typed c (Passed t) callee) (λ ts. arguments c ts args) sig.params)) h.0 in
          some_holds _ (λ (sig : Sig). both (fact (is_same ty sig.result)) (first_and_rest (λ t. typed (context_on f c)
          (Passed t) (renumbered f callee)) (λ ts. arguments (context_on f c) ts (nodes_renumbered f args)) sig.params))
          g.0 g.1 (
            g.2.0,
            first_rest_on (λ t. typed c (Passed t) callee) (λ t. typed (context_on f c) (Passed t) (renumbered f callee)) (λ ts.
                arguments c ts args) (λ ts. arguments (context_on f c) ts (nodes_renumbered f args)) (λ t x. typed_on c in_
                (Passed t) callee (left_in (nodes_of callee) (nodes_among args) w) x) (λ ts x. arguments_on c in_ ts args
                (right_in (nodes_of callee) (nodes_among args) w) x) g.0.params g.2.1,
          ) ⋆ h.1
      row_on c in_ id ty (Make adt variant fields) k w h =
          let g = holds_some (variant_at c.items adt variant) (λ (v : Variant). both (fact (are_distinct_numbers
          (field_numbers fields) && length (field_numbers fields) == length v.fields)) (made_fields c v.fields fields))
          h.1 in
          h.0 ⋆ some_holds _ (λ (v : Variant). both (fact (are_distinct_numbers (field_numbers (fields_renumbered f
          fields)) && length (field_numbers (fields_renumbered f fields)) == length v.fields)) (made_fields (context_on f
          c) v.fields (fields_renumbered f fields))) g.0 g.1 (
            subst (λ xs. IsTrue (are_distinct_numbers xs && length xs == length g.0.fields)) (sym (field_numbers_on f
                fields)) g.2.0,
            fields_on c in_ g.0.fields fields w g.2.1,
          )
      row_on c in_ id ty (Tuple parts) k w h =
          let g = holds_some (tuple_of c.items ty) (λ tys. made_parts c tys parts) h in
          some_holds _ (λ tys. made_parts (context_on f c) tys (nodes_renumbered f parts)) g.0 g.1 (parts_on c in_ g.0
          parts w g.2)
      row_on c in_ id ty (Array elements) k w h =
          let g = holds_some (array_of c.items ty) (λ (a : TyId × ℕ). both (fact (count_of elements == a.1))
          (elements_of c a.0 elements)) h in
          some_holds _ (λ (a : TyId × ℕ). both (fact (count_of (nodes_renumbered f elements) == a.1)) (elements_of
          (context_on f c) a.0 (nodes_renumbered f elements))) g.0 g.1 (
            subst (λ n. IsTrue (n == g.0.1)) (sym (count_on f
                elements)) g.2.0,
            elements_on c in_ g.0.0 elements w g.2.1,
          )
      row_on c in_ id ty (Closure closure captures) k w h =
          let g = holds_some (slice_get c.items.closures closure) (λ (def : ClosureDef). captured c def.captures
          captures) h.1 in
          h.0 ⋆ some_holds _ (λ (def : ClosureDef). captured (context_on f c) def.captures (nodes_renumbered f captures))
          g.0 g.1 (captured_on c in_ g.0.captures captures w g.2)
      row_on c in_ id ty (NewBox content) k w h =
          let g = holds_some (boxed_of c.items ty) (λ inside. both (typed c (Wanted inside) content) (fact (not (is_dyn
          c.items inside)))) h in
          some_holds _ (λ inside. both (typed (context_on f c) (Wanted inside) (renumbered f content)) (fact (not (is_dyn
          c.items inside)))) g.0 g.1 (typed_on c in_ (Wanted g.0) content w g.2.0, g.2.1)
      row_on c in_ id ty (Print operand) k w h =
          typed_on c in_ Taken operand w h.0 ⋆ of_ty (λ t. is_i32 c.items t || is_never c.items t) operand h.1.0 ⋆ h.1.1
      row_on c in_ id ty Ask k w h = h
      row_on c in_ id ty (DropValue operand) k w h = typed_on c in_ Taken operand w h.0 ⋆ h.1
      row_on c in_ id ty (Forget operand) k w h = typed_on c in_ Taken operand w h.0 ⋆ h.1
      row_on c in_ id ty Panic k w h = h
      row_on c in_ id ty (Borrow unique base) k w h =
          typed_on c in_ (Used (Rattle.well_typed.specs.Places.borrow_by unique)) base w h.0 ⋆ subst (λ b. IsTrue (not
          (unique && b))) (sym (behind_on c base)) h.1.0 ⋆ subst (λ t. Holds (some (reference_of c.items ty) (λ (r :
          Bool × TyId). both (fact (is_same t r.1)) (fact (if unique then r.0 else not r.0))))) (sym (ty_on base)) h.1.1
      row_on c in_ id ty (Unsize trait_no operand) k w h =
          typed_on c in_ Taken operand w h.0 ⋆ subst IsTrue (sym (leaf_on operand)) h.1.0 ⋆ of_ty (λ t. box_implements
          c.items ty t trait_no) operand h.1.1
      row_on c in_ id ty (Block stmts tail) k w h =
          statements_on c in_ stmts (λ d. tail_of d tail) (λ d. tail_of d (maybe_renumbered f tail)) (λ d ind. tail_on d
          ind tail (right_in (nodes_among stmts) (nodes_if_any tail) w)) (left_in (nodes_among stmts) (nodes_if_any
          tail) w) h.0 ⋆ subst IsTrue (sym (block_ty_on c.items ty stmts tail)) h.1
      row_on c in_ id ty (If condition body absent) k w h =
          let v = left_in (nodes_of condition ++ nodes_of body) [] w in
          typed_on c in_ Taken condition (left_in (nodes_of condition) (nodes_of body) v) h.0 ⋆ of_ty (fits_bool
          c.items) condition h.1.0 ⋆ typed_on c in_ Taken body (right_in (nodes_of condition) (nodes_of body) v) h.1.1.0
          ⋆ of_ty (fits_unit c.items) body h.1.1.1.0 ⋆ h.1.1.1.1
      row_on c in_ id ty (If condition body (present otherwise)) k w h =
          let v = left_in (nodes_of condition ++ nodes_of body) (nodes_of otherwise) w in
          typed_on c in_ Taken condition (left_in (nodes_of condition) (nodes_of body) v) h.0 ⋆ of_ty (fits_bool
          c.items) condition h.1.0 ⋆ typed_on c in_ Taken body (right_in (nodes_of condition) (nodes_of body) v) h.1.1.0
          ⋆ typed_on c in_ Taken otherwise (right_in (nodes_of condition ++ nodes_of body) (nodes_of otherwise) w)
          h.1.1.1.0 ⋆ subst Holds (λ i. fact (is_common c.items ty (sym (ty_on body) i ∷ sym (ty_on otherwise) i ∷ [])))
          h.1.1.1.1
      row_on c in_ id ty (IfLet p scrutinee body absent) k w h =
          let v = left_in (nodes_of p ++ nodes_of scrutinee ++ nodes_of body) [] w in
          let u = left_in (nodes_of p ++ nodes_of scrutinee) (nodes_of body) v in
          let wp = left_in (nodes_of p) (nodes_of scrutinee) u in
          typed_on c in_ (Used Use.Borrow) scrutinee (right_in (nodes_of p) (nodes_of scrutinee) u) h.0 ⋆ scrutinee_on c
          in_ (Used Use.Borrow) p scrutinee h.0 h.1.0 ⋆ subst (λ d. Holds (typed d Taken (renumbered f body))) (scope_on
          c p) (typed_on (with_entries (entries_of p) c) (scope_in c p wp in_) Taken body (right_in (nodes_of p ++
          nodes_of scrutinee) (nodes_of body) v) h.1.1.0) ⋆ of_ty (fits_unit c.items) body h.1.1.1.0 ⋆ h.1.1.1.1
      row_on c in_ id ty (IfLet p scrutinee body (present otherwise)) k w h =
          let v = left_in (nodes_of p ++ nodes_of scrutinee ++ nodes_of body) (nodes_of otherwise) w in
          let u = left_in (nodes_of p ++ nodes_of scrutinee) (nodes_of body) v in
          let wp = left_in (nodes_of p) (nodes_of scrutinee) u in
          typed_on c in_ (Used Use.Borrow) scrutinee (right_in (nodes_of p) (nodes_of scrutinee) u) h.0 ⋆ scrutinee_on c
          in_ (Used Use.Borrow) p scrutinee h.0 h.1.0 ⋆ subst (λ d. Holds (typed d Taken (renumbered f body))) (scope_on
          c p) (typed_on (with_entries (entries_of p) c) (scope_in c p wp in_) Taken body (right_in (nodes_of p ++
          nodes_of scrutinee) (nodes_of body) v) h.1.1.0) ⋆ typed_on c in_ Taken otherwise (right_in (nodes_of p ++
          nodes_of scrutinee ++ nodes_of body) (nodes_of otherwise) w) h.1.1.1.0 ⋆ subst Holds (λ i. fact (is_common
          c.items ty (sym (ty_on body) i ∷ sym (ty_on otherwise) i ∷ []))) h.1.1.1.1
      row_on c in_ id ty (Match scrutinee arms) k w h =
          let ws = left_in (nodes_of scrutinee) (nodes_among arms) w in
          typed_on c in_ (Used Use.Borrow) scrutinee ws h.0 ⋆ arms_on c in_ (matched_in false c scrutinee) _ (ty_of
          scrutinee) _ (matched_same false c in_ (Used Use.Borrow) scrutinee h.0) (ty_on scrutinee) arms (right_in
          (nodes_of scrutinee) (nodes_among arms) w) h.1.0 ⋆ subst (λ tys. IsTrue (is_common c.items ty tys)) (sym
          (types_on arms)) h.1.1.0 ⋆ subst (λ n. IsTrue (Rattle.std.specs.Prelude.nat_lt 0 n)) (sym (count_on f arms))
          h.1.1.1
      row_on c in_ id ty (Loop body) k w h =
          typed_on (within (record { loop = id; ty = ty; has_value = true }) c) (within_in c (record {
            loop = id;
            ty =
                ty;
            has_value = true;
          }) k in_) Taken body w h.0 ⋆ of_ty (fits_unit c.items) body h.1.0 ⋆ loop_ty_on c.items id
          ty body h.1.1
      row_on c in_ id ty (While condition body) k w h =
          let l : LoopAround = record { loop = id; ty = ty; has_value = false } in
          typed_on (within l c) (within_in c l k in_) Taken condition (left_in (nodes_of condition) (nodes_of body) w)
          h.0 ⋆ of_ty (fits_bool c.items) condition h.1.0 ⋆ typed_on (within l c) (within_in c l k in_) Taken body
          (right_in (nodes_of condition) (nodes_of body) w) h.1.1.0 ⋆ of_ty (fits_unit c.items) body h.1.1.1.0 ⋆
          h.1.1.1.1
      row_on c in_ id ty (WhileLet p scrutinee body) k w h =
          let l : LoopAround = record { loop = id; ty = ty; has_value = false } in
          let inl_ = within_in c l k in_ in
          let u = left_in (nodes_of p ++ nodes_of scrutinee) (nodes_of body) w in
          let wp = left_in (nodes_of p) (nodes_of scrutinee) u in
          typed_on (within l c) inl_ (Used Use.Borrow) scrutinee (right_in (nodes_of p) (nodes_of scrutinee) u) h.0 ⋆
          scrutinee_within c in_ l inl_ p scrutinee h.0 h.1.0 ⋆ subst (λ d. Holds (typed d Taken (renumbered f body)))
          (scope_on (within l c) p) (typed_on (with_entries (entries_of p) (within l c)) (scope_in (within l c) p wp
          inl_) Taken body (right_in (nodes_of p ++ nodes_of scrutinee) (nodes_of body) w) h.1.1.0) ⋆ of_ty (fits_unit
          c.items) body h.1.1.1.0 ⋆ h.1.1.1.1
      row_on c in_ id ty (Break loop value) k w h =
          let g = holds_some (loop_with loop c.loops) (λ (a : LoopAround). carries c a value) h.0 in
          some_holds _ (λ (a : LoopAround). carries (context_on f c) a (maybe_renumbered f value)) (loop_on f g.0)
          (loop_found_on loop (loop_key c in_ loop g.0 g.1) c.loops in_.loops ∙ ap loop_option g.1) (carries_on c in_
          g.0 value w g.2) ⋆ h.1
      row_on c in_ id ty (Continue loop) k w h =
          let g = holds_some (loop_with loop c.loops) (λ (a : LoopAround). fact true) h.0 in
          some_holds _ (λ (a : LoopAround). fact true) (loop_on f g.0) (loop_found_on loop (loop_key c in_ loop g.0 g.1)
          c.loops in_.loops ∙ ap loop_option g.1) refl ⋆ h.1
      row_on c in_ id ty (Return value) k w h = returned_on c in_ value w h.0 ⋆ h.1
      row_on c in_ id ty _ k w h = absurd (let no_ : IsTrue false = h in cc)

      carries_on : (c : Context) → IsIn c → (a : LoopAround) (v : MaybeNode) → AllIn (nodes_if_any v) → Holds (carries c
          a v) → Holds (carries (context_on f c) (loop_on f a) (maybe_renumbered f v))
      carries_on c in_ a absent w h = h
      carries_on c in_ a (present value) w h = (h.0, typed_on c in_ (Wanted a.ty) value w h.1)

      returned_on : (c : Context) → IsIn c → (v : MaybeNode) → AllIn (nodes_if_any v) → Holds (returned c v) → Holds
          (returned (context_on f c) (maybe_renumbered f v))
      returned_on c in_ absent w h = h
      returned_on c in_ (present value) w h = typed_on c in_ (Wanted c.answer) value w h

      tail_on : (c : Context) → IsIn c → (v : MaybeNode) → AllIn (nodes_if_any v) → Holds (tail_of c v) → Holds (tail_of
          (context_on f c) (maybe_renumbered f v))
      tail_on c in_ absent w h = h
      tail_on c in_ (present value) w h = typed_on c in_ Taken value w h

      arguments_on : (c : Context) → IsIn c → (tys : List TyId) (args : Nodes) → AllIn (nodes_among args) → Holds
          (arguments c tys args) → Holds (arguments (context_on f c) tys (nodes_renumbered f args))
      arguments_on c in_ [] no_node w h = h
      arguments_on c in_ (ty ∷ tys) (a_node first rest) w h = (
        typed_on c in_ (Passed ty) first (left_in (nodes_of first) (nodes_among rest) w) h.0,
        arguments_on c in_ tys rest (right_in (nodes_of first) (nodes_among rest) w) h.1,
      )
      arguments_on c in_ [] (a_node first rest) w h = absurd (let no_ : IsTrue false = h in cc)
      arguments_on c in_ (ty ∷ tys) no_node w h = absurd (let no_ : IsTrue false = h in cc)

      parts_on : (c : Context) → IsIn c → (tys : List TyId) (parts : Nodes) → AllIn (nodes_among parts) → Holds
          (made_parts c tys parts) → Holds (made_parts (context_on f c) tys (nodes_renumbered f parts))
      parts_on c in_ [] no_node w h = h
      parts_on c in_ (ty ∷ tys) (a_node first rest) w h = (
        typed_on c in_ (Wanted ty) first (left_in (nodes_of first) (nodes_among rest) w) h.0,
        parts_on c in_ tys rest (right_in (nodes_of first) (nodes_among rest) w) h.1,
      )
      parts_on c in_ [] (a_node first rest) w h = absurd (let no_ : IsTrue false = h in cc)
      parts_on c in_ (ty ∷ tys) no_node w h = absurd (let no_ : IsTrue false = h in cc)

      fields_on : (c : Context) → IsIn c → (tys : List TyId) (fs : Fields) → AllIn (nodes_of_fields fs) → Holds
          (made_fields c tys fs) → Holds (made_fields (context_on f c) tys (fields_renumbered f fs))
      fields_on c in_ tys no_field w h = h
      fields_on c in_ tys (a_field number value rest) w h =
          let g = holds_some (slice_get tys number) (λ ty. typed c (Wanted ty) value) h.0 in (
            some_holds _ (λ ty. typed (context_on f c) (Wanted ty) (renumbered f value)) g.0 g.1 (typed_on c in_ (Wanted
                g.0) value (left_in (nodes_of value) (nodes_of_fields rest) w) g.2),
            fields_on c in_ tys rest (right_in (nodes_of value) (nodes_of_fields rest) w) h.1,
          )

      elements_on : (c : Context) → IsIn c → (ty : TyId) (es : Nodes) → AllIn (nodes_among es) → Holds (elements_of c ty
          es) → Holds (elements_of (context_on f c) ty (nodes_renumbered f es))
      elements_on c in_ ty no_node w h = h
      elements_on c in_ ty (a_node first rest) w h = (
        typed_on c in_ (Wanted ty) first (left_in (nodes_of first) (nodes_among rest) w) h.0,
        elements_on c in_ ty rest (right_in (nodes_of first) (nodes_among rest) w) h.1,
      )

      captured_on : (c : Context) → IsIn c → (tys : List TyId) (captures : Nodes) → AllIn (nodes_among captures) → Holds
          (captured c tys captures) → Holds (captured (context_on f c) tys (nodes_renumbered f captures))
      captured_on c in_ [] no_node w h = h
      captured_on c in_ (ty ∷ tys) (a_node first rest) w h =
          typed_on c in_ Taken first (left_in (nodes_of first) (nodes_among rest) w) h.0 ⋆ subst Holds (λ i. fact (sym
          (variable_on first) i && is_same ty (sym (ty_on first) i))) h.1.0 ⋆ captured_on c in_ tys rest (right_in
          (nodes_of first) (nodes_among rest) w) h.1.1
      captured_on c in_ [] (a_node first rest) w h = absurd (let no_ : IsTrue false = h in cc)
      captured_on c in_ (ty ∷ tys) no_node w h = absurd (let no_ : IsTrue false = h in cc)

      arms_on : (c : Context) → IsIn c → (m m' : Matched) (ty ty' : TyId) → m' ≡ m → ty' ≡ ty → (arms : Nodes) → AllIn
          (nodes_among arms) → Holds (arms_of c m ty arms) → Holds (arms_of (context_on f c) m' ty' (nodes_renumbered f
          arms))
      arms_on c in_ m m' ty ty' em et no_node w h = h
      arms_on c in_ m m' ty ty' em et (a_node first rest) w h = (
        arm_on c in_ m m' ty ty' em et first (left_in (nodes_of first) (nodes_among rest) w) h.0,
        arms_on c in_ m m' ty ty' em et rest (right_in (nodes_of first) (nodes_among rest) w) h.1,
      )

      arm_on : (c : Context) → IsIn c → (m m' : Matched) (ty ty' : TyId) → m' ≡ m → ty' ≡ ty → (a : Node) → AllIn
          (nodes_of a) → Holds (arm c m ty a) → Holds (arm (context_on f c) m' ty' (renumbered f a))
      arm_on c in_ m m' expected expected' em et (node id at ty by (Arm p guard body)) w h =
          let v = right_in (node id at ty by (Arm p guard body) ∷ []) (nodes_of p ++ nodes_if_any guard ++ nodes_of
          body) w in
          let u = left_in (nodes_of p ++ nodes_if_any guard) (nodes_of body) v in
          let wp = left_in (nodes_of p) (nodes_if_any guard) u in
          h.0 ⋆ names_so p h.1.0 ⋆ place_pattern c.items m m' expected expected' p em et h.1.1.0 ⋆ subst (λ d. Holds (guarded d
          (maybe_renumbered f guard))) (guard_scope c p) (guarded_claim (with_entries (in_guard (entries_of p)) c)
          (guard_in c p wp in_) guard (right_in (nodes_of p) (nodes_if_any guard) u) h.1.1.1.0) ⋆ subst (λ d. Holds
          (typed d Taken (renumbered f body))) (scope_on c p) (typed_on (with_entries (entries_of p) c) (scope_in c p wp
          in_) Taken body (right_in (nodes_of p ++ nodes_if_any guard) (nodes_of body) v) h.1.1.1.1.0) ⋆ of_ty (is_same
          ty) body h.1.1.1.1.1
      arm_on c in_ m m' expected expected' em et (node id at ty by _) w h = absurd (let no_ : IsTrue false = h in cc)

      guarded_claim : (c : Context) → IsIn c → (v : MaybeNode) → AllIn (nodes_if_any v) → Holds (guarded c v) → Holds
          (guarded (context_on f c) (maybe_renumbered f v))
      guarded_claim c in_ absent w h = h
      guarded_claim c in_ (present guard) w h = (typed_on c in_ Taken guard w h.0, of_ty (fits_bool c.items) guard h.1)

      statements_on : (c : Context) → IsIn c → (es : Nodes) (behind behind' : Context → Claim) → ((d : Context) → IsIn d
          → Holds (behind d) → Holds (behind' (context_on f d))) → AllIn (nodes_among es) → Holds (statements c es behind)
          → Holds (statements (context_on f c) (nodes_renumbered f es) behind')
      statements_on c in_ no_node behind behind' on w h = on c in_ h
      statements_on c in_ (a_node (node id at ty by form) rest) behind behind' on w h =
          let ws = left_in (node id at ty by form ∷ nodes_in form) (nodes_among rest) w in
          let wf = right_in (node id at ty by form ∷ []) (nodes_in form) ws in
          h.0 ⋆ statement_on c in_ form wf h.1.0 ⋆ subst (λ d. Holds (statements d (nodes_renumbered f rest) behind'))
          (form_scope c form) (statements_on (with_entries (well.entries_in form) c) (form_in c form wf in_) rest behind
          behind' on (right_in (node id at ty by form ∷ nodes_in form) (nodes_among rest) w) h.1.1)

      statement_on : (c : Context) → IsIn c → (form : Form) → AllIn (nodes_in form) → Holds (statement c form) → Holds
          (statement (context_on f c) (form_renumbered f form))
      statement_on c in_ (Let p absent) w h = (
        names_so p h.0,
        (
          place_pattern c.items whole whole (ty_of p) _ p refl (ty_on p) h.1.0,
          (
            subst Holds (λ i. fact (is_some (type_at c.items (sym (ty_on p) i)))) h.1.1.0,
            subst Holds (λ i. fact (not (is_reference c.items (sym (ty_on p) i)))) h.1.1.1,
          ),
        ),
      )
      statement_on c in_ (Let p (present value)) w h =
          let hv = typed_on c in_ (well.as_initialiser p) value (right_in (nodes_of p) (nodes_of value) w) h.0 in
          subst (λ s. Holds (typed (context_on f c) s (renumbered f value))) (sym (as_same p)) hv ⋆ names_so p h.1.0 ⋆
          place_pattern c.items (if is_one_name p then whole else matched_in true c value) _ (ty_of p) _ p (if_same
          (is_one_name p) _ (matched_in true c value) _ whole (one_on p) (matched_same true c in_ (well.as_initialiser
          p) value h.0)) (ty_on p) h.1.1.0 ⋆ subst Holds (λ i. fact (fits c.items (sym (ty_on p) i) (sym (ty_on value)
          i) && not (is_reference c.items (sym (ty_on value) i)))) h.1.1.1.0 ⋆ subst Holds (λ i. fact (sym (one_on p) i || (not
          (sym (place_of_on value) i) || is_same (sym (ty_on value) i) (sym (ty_on p) i)))) h.1.1.1.1.0 ⋆
          subst Holds (λ i. fact (is_some (type_at c.items (sym (ty_on p) i)))) h.1.1.1.1.1
      statement_on c in_ (Evaluate expression) w h = typed_on c in_ Taken expression w h
      statement_on c in_ _ w h = absurd (let no_ : IsTrue false = h in cc)
