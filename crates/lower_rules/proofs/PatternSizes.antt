-- How many names and tests a pattern has, by its nodes.
use Rattle.std.proofs.Common.{◌≡◌, ℕ, zero, suc, ◌+◌, ◌*◌, ◌≤◌, Bool, true, false, [], length, refl, ap, ◌∙◌, arith, length-append}
use Rattle.mir_ty.specs.ItemTable.{ItemTable}
use Rattle.store_model.specs.Places.Place.{Step, ToPart, ToField, Place}
use Rattle.typed_tree.specs.Nodes.{nodes_of, nodes_in, nodes_among, nodes_of_fields}
use Rattle.typed_tree.specs.Tree as tree
use Rattle.typed_tree.specs.Tree.{Form, Nodes, no_node, a_node, Fields, no_field, a_field}
use Rattle.src_meaning.specs.Shape.{NodeHead, head, Shape, PatternTests, no_test, a_test, followed_by, shape, shape_of, in_fields, in_parts, alternatives_at, extended}
use Rattle.lower_rules.proofs.Sizes.{tests_size, any_size}

-- as often as there are nodes
abbrev pub times : ℕ → ℕ → ℕ
times a zero = 0
times a (suc n) = a + times a n

pub times_add : (a n m : ℕ) → times a (n + m) ≡ times a n + times a m
times_add a zero m = ap (times a) (let e : 0 + m ≡ m = omega arith in e) ∙ (let e : times a m ≡ 0 + times a m = omega arith in e)
times_add a (suc n) m = let i = times_add a n m in ap (times a) (let e : suc n + m ≡ suc (n + m) = omega arith in e) ∙ (let e : a + times a (n + m) ≡ (a + times a n) + times a m = omega arith in e)

pub times_more : (a n m : ℕ) → n ≤ m → times a n ≤ times a m
times_more a zero m l = omega arith
times_more a (suc n) zero l = absurd (let never : ⊥ = omega (arith, l) in never)
times_more a (suc n) (suc m) l = let i = times_more a n m (omega (arith, l)) in omega arith

-- twelve blocks a node are among them
pub twelve : (a n : ℕ) → 12 ≤ a → 12 * n ≤ times a n
twelve a zero l = omega arith
twelve a (suc n) l = let i = twelve a n l in omega (arith, l)

-- ---- the tests and the names of a pattern are no more than its nodes allow
followed_size : (xs ys : PatternTests) → tests_size (followed_by xs ys) ≡ tests_size xs + tests_size ys
followed_size no_test ys = omega arith
followed_size (a_test x xs) ys = let i = followed_size xs ys in omega arith

abbrev nodes_at : tree.Node → ℕ
nodes_at n = length (nodes_of n)

abbrev pub Tested : Shape → ℕ → Type 0
Tested s m = (place : Place) → tests_size (s.tests place) ≤ suc (m + m)

abbrev pub Binds : Shape → ℕ → Type 0
Binds s m = ((place : Place) → length (s.bindings place) ≤ suc m) × (s.is_binding ≡ false → (place : Place) → length (s.bindings place) ≤ m)

untested : (m : ℕ) → 0 ≤ suc (m + m)
untested m = omega arith

no_names : (m : ℕ) → (0 ≤ suc m) × (0 ≤ m)
no_names m = (omega arith, omega arith)

module _ (items : ItemTable) where
  abbrev Pattern : Form → NodeHead → Type 0
  Pattern form h = Tested (shape_of items form h) (length (nodes_in form)) × Binds (shape_of items form h) (length (nodes_in form))

  -- nothing is tested or named
  plain : (form : Form) (h : NodeHead) → ((place : Place) → (shape_of items form h).tests place ≡ no_test) → ((place : Place) → (shape_of items form h).bindings place ≡ []) → Pattern form h
  plain form h e d = (
    (λ place. let i = ap tests_size (e place) in omega arith),
    ((λ place. let i = ap length (d place) in omega arith), λ x place. let i = ap length (d place) in omega arith),
  )

  mutual
    node_pattern : (n : tree.Node) → ((place : Place) → suc (tests_size ((shape items n).tests place)) ≤ length (nodes_of n) + length (nodes_of n)) × ((place : Place) → length ((shape items n).bindings place) ≤ length (nodes_of n))
    node_pattern (tree.node id at ty by form) =
        let p = form_pattern form (head id ty by) in
        ((λ place. let i = p.0 place in omega arith), λ place. let i = p.1.0 place in omega arith)

    pub form_pattern : (form : Form) (h : NodeHead) → Pattern form h
    form_pattern (tree.Binding name) h =
        ((λ place. omega arith), ((λ place. omega arith), λ x place. absurd (let never : true ≡ false = x in cc)))
    form_pattern (tree.NumberPattern value) h =
        ((λ place. omega arith), ((λ place. omega arith), λ x place. omega arith))
    form_pattern (tree.TruthPattern value) h =
        ((λ place. omega arith), ((λ place. omega arith), λ x place. omega arith))
    form_pattern (tree.StructPattern fields) h =
        let p = fields_pattern fields ToPart in
        ((λ place. let i = p.0 place in omega arith), ((λ place. let i = p.1 place in omega arith), λ x place. p.1 place))
    form_pattern (tree.VariantPattern variant is_test fields) h =
        let p = fields_pattern fields (ToField variant) in
        ((λ place. by_test is_test place (p.0 place)), ((λ place. let i = p.1 place in omega arith), λ x place. p.1 place))
      where
        by_test : (x : Bool) (place : Place) → tests_size ((in_fields items fields (ToField variant)).tests place) ≤ length (nodes_of_fields fields) + length (nodes_of_fields fields) →
            tests_size ((shape_of items (tree.VariantPattern variant x fields) h).tests place) ≤ suc (length (nodes_of_fields fields) + length (nodes_of_fields fields))
        by_test true place l = omega (arith, l)
        by_test false place l = omega (arith, l)
    form_pattern (tree.TuplePattern parts) h =
        let p = parts_pattern parts 0 in
        ((λ place. let i = p.0 place in omega arith), ((λ place. let i = p.1 place in omega arith), λ x place. p.1 place))
    form_pattern (tree.ArrayPattern elements) h =
        let p = parts_pattern elements 0 in
        ((λ place. let i = p.0 place in omega arith), ((λ place. let i = p.1 place in omega arith), λ x place. p.1 place))
    form_pattern (tree.OrPattern alternatives) h =
        ((λ place. let i = any_pattern alternatives place in omega arith), ((λ place. omega arith), λ x place. omega arith))
    form_pattern other h = plain other h (λ place. refl) (λ place. refl)

    fields_pattern : (fs : Fields) (step : ℕ → Step) →
        ((place : Place) → tests_size ((in_fields items fs step).tests place) ≤ length (nodes_of_fields fs) + length (nodes_of_fields fs)) × ((place : Place) → length ((in_fields items fs step).bindings place) ≤ length (nodes_of_fields fs))
    fields_pattern no_field step = ((λ place. omega arith), λ place. omega arith)
    fields_pattern (a_field number value rest) step =
        let p = node_pattern value in
        let q = fields_pattern rest step in
        let a = length-append (nodes_of value) (nodes_of_fields rest) in (
          (λ place.
              let i = p.0 (extended (step number) place) in
              let j = q.0 place in
              let f = followed_size ((shape items value).tests (extended (step number) place)) ((in_fields items rest step).tests place) in
              omega arith),
          λ place.
              let i = p.1 (extended (step number) place) in
              let j = q.1 place in
              let f = length-append ((shape items value).bindings (extended (step number) place)) ((in_fields items rest step).bindings place) in
              omega arith,
        )

    parts_pattern : (ns : Nodes) (n : ℕ) →
        ((place : Place) → tests_size ((in_parts items ns n).tests place) ≤ length (nodes_among ns) + length (nodes_among ns)) × ((place : Place) → length ((in_parts items ns n).bindings place) ≤ length (nodes_among ns))
    parts_pattern no_node n = ((λ place. omega arith), λ place. omega arith)
    parts_pattern (a_node first rest) n =
        let p = node_pattern first in
        let q = parts_pattern rest (suc n) in
        let a = length-append (nodes_of first) (nodes_among rest) in (
          (λ place.
              let i = p.0 (extended (ToPart n) place) in
              let j = q.0 place in
              let f = followed_size ((shape items first).tests (extended (ToPart n) place)) ((in_parts items rest (suc n)).tests place) in
              omega arith),
          λ place.
              let i = p.1 (extended (ToPart n) place) in
              let j = q.1 place in
              let f = length-append ((shape items first).bindings (extended (ToPart n) place)) ((in_parts items rest (suc n)).bindings place) in
              omega arith,
        )

    any_pattern : (ns : Nodes) (place : Place) → any_size (alternatives_at items ns place) ≤ length (nodes_among ns) + length (nodes_among ns)
    any_pattern no_node place = omega arith
    any_pattern (a_node first rest) place =
        let i = (node_pattern first).0 place in
        let j = any_pattern rest place in
        let a = length-append (nodes_of first) (nodes_among rest) in
        omega arith

-- the nodes of a node beside itself
abbrev pub inside : tree.Node → ℕ
inside (tree.node id at ty by form) = length (nodes_in form)

pub counted : (n : tree.Node) → length (nodes_of n) ≡ suc (inside n)
counted (tree.node id at ty by form) = refl

pub node_shape : (items : ItemTable) (n : tree.Node) → Tested (shape items n) (inside n) × Binds (shape items n) (inside n)
node_shape items (tree.node id at ty by form) = form_pattern items form (head id ty by)

-- Scopes never have more than W entries. A node costs B blocks, and twelve for two entries of its own.
