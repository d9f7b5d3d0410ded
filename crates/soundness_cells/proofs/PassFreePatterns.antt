-- The tests and the names of a pattern stand in cells of its own nodes, and no two names in one.
use Rattle.std.proofs.Common.{◌≡◌, ◌⊎◌, inl, inr, ℕ, suc, true, false, List, [], ◌∷◌, ◌++◌, refl, sym, ◌∙◌, subst}
use Rattle.std.proofs.lemmas.Bool.{false≢true}
use Rattle.mir_ty.specs.ItemTable.{ItemTable}
use Rattle.store_model.specs.Places.Place.{Step, ToPart, ToField, Place}
use Rattle.typed_tree.specs.Nodes.{number_of, nodes_of, nodes_in, nodes_among, nodes_of_fields}
use Rattle.typed_tree.specs.Tree as tree
use Rattle.typed_tree.specs.Tree.{Node, node, Form, Nodes, no_node, a_node, Fields, no_field, a_field}
use Rattle.src_meaning.specs.Shape.{NodeHead, head, BoundName, PatternTests, no_test, a_test, followed_by, extended, shape, shape_of, in_fields, in_parts, alternatives_at}
use Rattle.well_typed.specs.Places.{form_of}
use Rattle.soundness_cells.proofs.PassCells.{rising}
use Rattle.soundness_cells.proofs.PassFreeChoices.{TestsKey, AnyKey, BoundKey, DistinctNames}
use Rattle.soundness_cells.proofs.PassNumbers.{Numbered, numbered_left, numbered_right, Rises, first_apart}

-- names have numbers of nodes, in their order
pub data NamesOf : List Node → List BoundName → Type 0 where
  no_name : (ns : List Node) → NamesOf ns []
  a_name : (n : Node) (ns : List Node) (b : BoundName) (bs : List BoundName) → number_of n ≡ b.key → NamesOf ns bs →
      NamesOf (n ∷ ns) (b ∷ bs)
  passed : (n : Node) (ns : List Node) (bs : List BoundName) → NamesOf ns bs → NamesOf (n ∷ ns) bs

none_before : (a b : List Node) (bs : List BoundName) → NamesOf b bs → NamesOf (a ++ b) bs
none_before [] b bs k = k
none_before (n ∷ a) b bs k = passed n (a ++ b) bs (none_before a b bs k)

together : (a b : List Node) (es fs : List BoundName) → NamesOf a es → NamesOf b fs → NamesOf (a ++ b) (es ++ fs)
together x b y fs (no_name a) k = none_before a b fs k
together x b y fs (a_name n ns e es same h) k = a_name n (ns ++ b) e (es ++ fs) same (together ns b es fs h k)
together x b y fs (passed n ns es h) k = passed n (ns ++ b) (es ++ fs) (together ns b es fs h k)

pub names_in : (ns : List Node) (bs : List BoundName) → NamesOf ns bs → (z : ℕ) → BoundKey bs z → Numbered ns z
names_in a b (no_name ns) z k = absurd k
names_in a b (a_name n ns e bs same h) z (inl k) = inl (same ∙ k)
names_in a b (a_name n ns e bs same h) z (inr k) = inr (names_in ns bs h z k)
names_in a b (passed n ns bs h) z k = inr (names_in ns bs h z k)

pub names_distinct : (ns : List Node) (bs : List BoundName) → NamesOf ns bs → Rises ns → DistinctNames bs
names_distinct a b (no_name ns) r = tt
names_distinct a b (a_name n ns e bs same h) r = (
  (λ k. first_apart n ns r (subst (Numbered ns) (sym same) (names_in ns bs h e.key k))),
  names_distinct ns bs h (rising n ns r).1,
)
names_distinct a b (passed n ns bs h) r = names_distinct ns bs h (rising n ns r).1

followed_key : (a b : PatternTests) (z : ℕ) → TestsKey (followed_by a b) z → TestsKey a z ⊎ TestsKey b z
followed_key no_test b z k = inr k
followed_key (a_test test rest) b z (inl k) = inl (inl k)
followed_key (a_test test rest) b z (inr k) = by (followed_key rest b z k)
  where
    by : TestsKey rest z ⊎ TestsKey b z → TestsKey (a_test test rest) z ⊎ TestsKey b z
    by (inl x) = inl (inr x)
    by (inr x) = inr x

module _ (items : ItemTable) where
  mutual
    pub names_of_node : (p : Node) (place : Place) → NamesOf (nodes_of p) ((shape items p).bindings place)
    names_of_node (node id at ty by form) place = of_form form (node id at ty by form) (head id ty by) place refl

    of_form : (form : Form) (n : Node) (h : NodeHead) (place : Place) → number_of n ≡ h.id →
        NamesOf (n ∷ nodes_in form) ((shape_of items form h).bindings place)
    of_form (tree.Binding name) n h place e = a_name n [] _ [] e (no_name [])
    of_form (tree.StructPattern fields) n h place e = passed n _ _ (of_fields fields ToPart place)
    of_form (tree.VariantPattern variant is_test fields) n h place e =
        passed n _ _ (of_fields fields (ToField variant) place)
    of_form (tree.TuplePattern parts) n h place e = passed n _ _ (of_nodes parts 0 place)
    of_form (tree.ArrayPattern elements) n h place e = passed n _ _ (of_nodes elements 0 place)
    of_form other n h place e = no_name _

    of_fields : (fields : Fields) (step : ℕ → Step) (place : Place) →
        NamesOf (nodes_of_fields fields) ((in_fields items fields step).bindings place)
    of_fields no_field step place = no_name []
    of_fields (a_field number value rest) step place = together (nodes_of value) (nodes_of_fields rest)
        ((shape items value).bindings (extended (step number) place)) ((in_fields items rest step).bindings place)
        (names_of_node value (extended (step number) place)) (of_fields rest step place)

    of_nodes : (ns : Nodes) (k : ℕ) (place : Place) → NamesOf (nodes_among ns) ((in_parts items ns k).bindings place)
    of_nodes no_node k place = no_name []
    of_nodes (a_node first rest) k place = together (nodes_of first) (nodes_among rest)
        ((shape items first).bindings (extended (ToPart k) place)) ((in_parts items rest (suc k)).bindings place)
        (names_of_node first (extended (ToPart k) place)) (of_nodes rest (suc k) place)

  either : (a b : List Node) (one more : PatternTests) (z : ℕ) → (TestsKey one z → Numbered a z) →
      (TestsKey more z → Numbered b z) → TestsKey (followed_by one more) z → Numbered (a ++ b) z
  either a b one more z f g k = by (followed_key one more z k)
    where
      by : TestsKey one z ⊎ TestsKey more z → Numbered (a ++ b) z
      by (inl x) = numbered_left a b z (f x)
      by (inr x) = numbered_right a b z (g x)

  mutual
    pub tests_of_node : (p : Node) (place : Place) (z : ℕ) → TestsKey ((shape items p).tests place) z →
        Numbered (nodes_of p) z
    tests_of_node (node id at ty by form) place z k =
        tests_of form (node id at ty by form) (head id ty by) place z refl k

    tests_of : (form : Form) (n : Node) (h : NodeHead) (place : Place) (z : ℕ) → number_of n ≡ h.id →
        TestsKey ((shape_of items form h).tests place) z → Numbered (n ∷ nodes_in form) z
    tests_of (tree.NumberPattern value) n h place z e (inl k) = inl (e ∙ k)
    tests_of (tree.NumberPattern value) n h place z e (inr k) = absurd k
    tests_of (tree.TruthPattern value) n h place z e (inl k) = inl (e ∙ k)
    tests_of (tree.TruthPattern value) n h place z e (inr k) = absurd k
    tests_of (tree.StructPattern fields) n h place z e k = inr (tests_of_fields fields ToPart place z k)
    tests_of (tree.VariantPattern variant true fields) n h place z e (inl k) = absurd k
    tests_of (tree.VariantPattern variant true fields) n h place z e (inr k) =
        inr (tests_of_fields fields (ToField variant) place z k)
    tests_of (tree.VariantPattern variant false fields) n h place z e k =
        inr (tests_of_fields fields (ToField variant) place z k)
    tests_of (tree.TuplePattern parts) n h place z e k = inr (tests_of_parts parts 0 place z k)
    tests_of (tree.ArrayPattern elements) n h place z e k = inr (tests_of_parts elements 0 place z k)
    tests_of (tree.OrPattern alternatives) n h place z e (inl k) = inr (tests_of_any alternatives place z k)
    tests_of (tree.OrPattern alternatives) n h place z e (inr k) = absurd k
    tests_of other n h place z e k = absurd k

    tests_of_fields : (fields : Fields) (step : ℕ → Step) (place : Place) (z : ℕ) →
        TestsKey ((in_fields items fields step).tests place) z → Numbered (nodes_of_fields fields) z
    tests_of_fields no_field step place z k = absurd k
    tests_of_fields (a_field number value rest) step place z k = either (nodes_of value) (nodes_of_fields rest)
        ((shape items value).tests (extended (step number) place)) ((in_fields items rest step).tests place) z
        (tests_of_node value (extended (step number) place) z) (tests_of_fields rest step place z) k

    tests_of_parts : (ns : Nodes) (i : ℕ) (place : Place) (z : ℕ) → TestsKey ((in_parts items ns i).tests place) z →
        Numbered (nodes_among ns) z
    tests_of_parts no_node i place z k = absurd k
    tests_of_parts (a_node first rest) i place z k = either (nodes_of first) (nodes_among rest)
        ((shape items first).tests (extended (ToPart i) place)) ((in_parts items rest (suc i)).tests place) z
        (tests_of_node first (extended (ToPart i) place) z) (tests_of_parts rest (suc i) place z) k

    tests_of_any : (ns : Nodes) (place : Place) (z : ℕ) → AnyKey (alternatives_at items ns place) z →
        Numbered (nodes_among ns) z
    tests_of_any no_node place z k = absurd k
    tests_of_any (a_node first rest) place z (inl k) =
        numbered_left (nodes_of first) (nodes_among rest) z (tests_of_node first place z k)
    tests_of_any (a_node first rest) place z (inr k) =
        numbered_right (nodes_of first) (nodes_among rest) z (tests_of_any rest place z k)

  -- a pattern that is one name binds that one
  single_of : (form : Form) (h : NodeHead) (place : Place) (z : ℕ) → (shape_of items form h).is_binding ≡ true →
      BoundKey ((shape_of items form h).bindings place) z → h.id ≡ z
  single_of (tree.Binding name) h place z e (inl k) = k
  single_of (tree.Binding name) h place z e (inr k) = absurd k
  single_of other h place z e k = absurd (false≢true e)

  pub single_name : (p : Node) (place : Place) (z : ℕ) → (shape items p).is_binding ≡ true →
      BoundKey ((shape items p).bindings place) z → number_of p ≡ z
  single_name (node id at ty by form) place z e k = single_of form (head id ty by) place z e k

  -- the names of a pattern that is no name stand inside it
  inner_of : (form : Form) (h : NodeHead) (place : Place) (z : ℕ) → (shape_of items form h).is_binding ≡ false →
      BoundKey ((shape_of items form h).bindings place) z → Numbered (nodes_in form) z
  inner_of (tree.StructPattern fields) h place z e k =
      names_in (nodes_of_fields fields) ((in_fields items fields ToPart).bindings place) (of_fields fields ToPart
      place) z k
  inner_of (tree.VariantPattern variant is_test fields) h place z e k = names_in (nodes_of_fields fields)
      ((in_fields items fields (ToField variant)).bindings place) (of_fields fields (ToField variant) place) z k
  inner_of (tree.TuplePattern parts) h place z e k =
      names_in (nodes_among parts) ((in_parts items parts 0).bindings place) (of_nodes parts 0 place) z k
  inner_of (tree.ArrayPattern elements) h place z e k =
      names_in (nodes_among elements) ((in_parts items elements 0).bindings place) (of_nodes elements 0 place) z k
  inner_of (tree.Binding name) h place z e k = absurd (false≢true (sym e))
  inner_of other h place z e k = absurd k

  pub inner_name : (p : Node) (place : Place) (z : ℕ) → (shape items p).is_binding ≡ false →
      BoundKey ((shape items p).bindings place) z → Numbered (nodes_in (form_of p)) z
  inner_name (node id at ty by form) place z e k = inner_of form (head id ty by) place z e k
