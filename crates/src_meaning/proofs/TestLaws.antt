-- The tests of the rules hold exactly where the pattern takes what stands at its place.
use Rattle.std.proofs.Common.{◌≡◌, ℕ, suc, Bool, true, false, ◌&&◌, ◌||◌, IsTrue, refl, ap, sym, ◌∙◌, subst}
use Rattle.mir_ty.specs.ItemTable.{ItemTable}
use Rattle.store_model.specs.Values.Datum.{Number, Truth}
use Rattle.store_model.specs.Effects.{Choice, Yes, No, Neither, Effects}
use Rattle.store_model.specs.Places.Place.{Step, ToPart, ToField, Place}
use Rattle.store_model.specs.Concrete.State.{State}
use Rattle.typed_tree.specs.Tree as tree
use Rattle.typed_tree.specs.Tree.{Node, node, Form, Nodes, no_node, a_node, Fields, no_field, a_field}
use Rattle.src_meaning.specs.Forms.{holds, all_hold, any_holds, tests_after, alternatives_after}
use Rattle.src_meaning.specs.Shape.{NodeHead, head, followed_by, extended, PatternTest, IsVariant, IsNumber, IsTruth, AnyOf, PatternTests, no_test, a_test, Alternatives, no_alternative, an_alternative, shape, shape_of, in_fields, in_parts, alternatives_at}
use Rattle.src_meaning.specs.Takes.{is_equal, is_of_variant, part_at, takes, takes_by, takes_fields, takes_parts, any_takes, View, HasParts, Answers, Truthful, AllTruthful, AnyTruthful, TestsHoldWhereTaken}

-- what the tests say of a view
abbrev mutual
  is_so : View → PatternTest → Bool
  is_so view (IsVariant site variant) = is_of_variant variant (view site.place)
  is_so view (IsNumber site value kind) = is_equal (view site.place) (Number value)
  is_so view (IsTruth site value) = is_equal (view site.place) (Truth value)
  is_so view (AnyOf alternatives) = any_so view alternatives

  all_so : View → PatternTests → Bool
  all_so view no_test = true
  all_so view (a_test first rest) = is_so view first && all_so view rest

  any_so : View → Alternatives → Bool
  any_so view no_alternative = false
  any_so view (an_alternative tests rest) = all_so view tests || any_so view rest

and_true : (b : Bool) → (b && true) ≡ b
and_true true = refl
and_true false = refl

and_associates : (a b c : Bool) → ((a && b) && c) ≡ (a && (b && c))
and_associates true b c = refl
and_associates false b c = refl

followed_so : (view : View) (tests more : PatternTests) → all_so view (followed_by tests more) ≡ (all_so view tests && all_so view more)
followed_so view no_test more = refl
followed_so view (a_test first rest) more =
    ap (λ b. is_so view first && b) (followed_so view rest more) ∙ sym (and_associates (is_so view first) (all_so view rest) (all_so view more))

-- of a view: what the tests of a pattern say is whether it takes what stands there
module _ (items : ItemTable) (view : View) (parts : HasParts view) where
  mutual
    pattern_so : (pattern : Node) (place : Place) → all_so view ((shape items pattern).tests place) ≡ takes pattern (view place)
    pattern_so (node id at ty by form) place = form_so form (head id ty by) place

    form_so : (form : Form) (h : NodeHead) (place : Place) → all_so view ((shape_of items form h).tests place) ≡ takes_by form (view place)
    form_so (tree.NumberPattern number) h place = and_true (is_equal (view place) (Number number))
    form_so (tree.TruthPattern truth) h place = and_true (is_equal (view place) (Truth truth))
    form_so (tree.StructPattern fields) h place = fields_so fields ToPart place
    form_so (tree.VariantPattern variant true fields) h place = ap (λ b. is_of_variant variant (view place) && b) (fields_so fields (ToField variant) place)
    form_so (tree.VariantPattern variant false fields) h place = fields_so fields (ToField variant) place
    form_so (tree.TuplePattern nodes) h place = parts_so nodes 0 place
    form_so (tree.ArrayPattern nodes) h place = parts_so nodes 0 place
    form_so (tree.OrPattern alternatives) h place = and_true (any_so view (alternatives_at items alternatives place)) ∙ alternatives_so alternatives place
    form_so form h place = refl

    fields_so : (fields : Fields) (step : ℕ → Step) (place : Place) → all_so view ((in_fields items fields step).tests place) ≡ takes_fields fields step (view place)
    fields_so no_field step place = refl
    fields_so (a_field number pattern rest) step place =
        followed_so view ((shape items pattern).tests (extended (step number) place)) ((in_fields items rest step).tests place)
        ∙ ap (λ b. b && all_so view ((in_fields items rest step).tests place)) (pattern_so pattern (extended (step number) place) ∙ ap (takes pattern) (parts (step number) place))
        ∙ ap (λ b. takes pattern (part_at (step number) (view place)) && b) (fields_so rest step place)

    parts_so : (nodes : Nodes) (n : ℕ) (place : Place) → all_so view ((in_parts items nodes n).tests place) ≡ takes_parts nodes n (view place)
    parts_so no_node n place = refl
    parts_so (a_node first rest) n place =
        followed_so view ((shape items first).tests (extended (ToPart n) place)) ((in_parts items rest (suc n)).tests place)
        ∙ ap (λ b. b && all_so view ((in_parts items rest (suc n)).tests place)) (pattern_so first (extended (ToPart n) place) ∙ ap (takes first) (parts (ToPart n) place))
        ∙ ap (λ b. takes first (part_at (ToPart n) (view place)) && b) (parts_so rest (suc n) place)

    alternatives_so : (nodes : Nodes) (place : Place) → any_so view (alternatives_at items nodes place) ≡ any_takes nodes (view place)
    alternatives_so no_node place = refl
    alternatives_so (a_node first rest) place =
        ap (λ b. b || any_so view (alternatives_at items rest place)) (pattern_so first place) ∙ ap (λ b. takes first (view place) || b) (alternatives_so rest place)

-- of effects: tests that are each answered by a view are answered by it together
module _ (items : ItemTable) (p : Effects State) (view : View) (good : State → Bool) where
  after_tests : (one other : Bool) (choice : Choice State) (rest : State → Choice State) → Answers good one choice →
      ((w : State) → IsTrue (good w) → Answers good other (rest w)) → Answers good (one && other) (tests_after items p choice rest)
  after_tests true other (Yes w) rest a e = e w a
  after_tests true other (No w) rest a e = absurd a
  after_tests true other (Neither halt w) rest a e = absurd a
  after_tests false other (No w) rest a e = a
  after_tests false other (Yes w) rest a e = absurd a
  after_tests false other (Neither halt w) rest a e = absurd a

  after_alternatives : (one other : Bool) (choice : Choice State) (rest : State → Choice State) → Answers good one choice →
      ((w : State) → IsTrue (good w) → Answers good other (rest w)) → Answers good (one || other) (alternatives_after items p choice rest)
  after_alternatives true other (Yes w) rest a e = a
  after_alternatives true other (No w) rest a e = absurd a
  after_alternatives true other (Neither halt w) rest a e = absurd a
  after_alternatives false other (No w) rest a e = e w a
  after_alternatives false other (Yes w) rest a e = absurd a
  after_alternatives false other (Neither halt w) rest a e = absurd a

  mutual
    test_answers : (test : PatternTest) → Truthful items p view good test → (w : State) → IsTrue (good w) → Answers good (is_so view test) (holds items p test w)
    test_answers (IsVariant site variant) t w g = t w g
    test_answers (IsNumber site value kind) t w g = t w g
    test_answers (IsTruth site value) t w g = t w g
    test_answers (AnyOf alternatives) t w g = any_answer alternatives t w g

    all_answer : (tests : PatternTests) → AllTruthful items p view good tests → (w : State) → IsTrue (good w) → Answers good (all_so view tests) (all_hold items p tests w)
    all_answer no_test t w g = g
    all_answer (a_test first rest) t w g =
        after_tests (is_so view first) (all_so view rest) (holds items p first w) (all_hold items p rest) (test_answers first t.0 w g) (all_answer rest t.1)

    any_answer : (alternatives : Alternatives) → AnyTruthful items p view good alternatives → (w : State) → IsTrue (good w) →
        Answers good (any_so view alternatives) (any_holds items p alternatives w)
    any_answer no_alternative t w g = g
    any_answer (an_alternative tests rest) t w g =
        after_alternatives (all_so view tests) (any_so view rest) (all_hold items p tests w) (any_holds items p rest) (all_answer tests t.0 w g) (any_answer rest t.1)

pub tests_hold : TestsHoldWhereTaken
tests_hold items p view good pattern place w parts t g =
    subst (λ b. Answers good b (all_hold items p ((shape items pattern).tests place) w)) (pattern_so items view parts pattern place)
    (all_answer items p view good ((shape items pattern).tests place) t w g)
