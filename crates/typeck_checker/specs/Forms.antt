-- Forms by their parts.
use Rattle.typed_tree.specs.Tree.{Node, Form, absent, present}
use Rattle.typed_tree.specs.Tree as tree
use Rattle.typed_tree.specs.declared.node.Use.{Use}
use Rattle.typing_rules.specs.Places.{used}
use Rattle.typeck_checker.specs.declared.forms.Four as four
use Rattle.typeck_checker.specs.declared.forms.Leaf as leaf
use Rattle.typeck_checker.specs.declared.forms.One as one
use Rattle.typeck_checker.specs.declared.forms.Three as three
use Rattle.typeck_checker.specs.declared.forms.TwoParts as two

abbrev pub one_form : one.One → Node → Form
one_form (one.One.Field number) part = tree.Field part number
one_form one.One.Deref part = tree.Deref part
one_form one.One.Not part = tree.Not part
one_form one.One.Negate part = tree.Negate part
one_form one.One.NewBox part = tree.NewBox part
one_form one.One.Print part = tree.Print part
one_form one.One.DropValue part = tree.DropValue part
one_form one.One.Forget part = tree.Forget part
one_form (one.One.Borrow unique) part = tree.Borrow unique part
one_form (one.One.Unsize trait_no) part = tree.Unsize trait_no part
one_form one.One.Let part = tree.Let part absent
one_form one.One.Evaluate part = tree.Evaluate part
one_form one.One.Loop part = tree.Loop part
one_form (one.One.Break from) part = tree.Break from.0 (present part)
one_form one.One.Return part = tree.Return (present part)

abbrev pub two_form : two.TwoParts → Node → Node → Form
two_form (two.TwoParts.Index count) first second = tree.Index first second count
two_form (two.TwoParts.Arithmetic operator) first second = tree.Arithmetic operator first second
two_form (two.TwoParts.Comparison operator) first second = tree.Comparison operator first second
two_form (two.TwoParts.ArithmeticLast operator) first second = tree.Arithmetic operator second first
two_form (two.TwoParts.ComparisonLast operator) first second = tree.Comparison operator second first
two_form two.TwoParts.And first second = tree.And first second
two_form two.TwoParts.Or first second = tree.Or first second
two_form two.TwoParts.Assign first second = tree.Assign (used Use.Store first) second
two_form two.TwoParts.If first second = tree.If first second absent
two_form two.TwoParts.While first second = tree.While first second
two_form two.TwoParts.Let first second = tree.Let second (present first)
two_form two.TwoParts.Arm first second = tree.Arm first absent second

abbrev pub three_form : three.Three → Node → Node → Node → Form
three_form three.Three.If first second third = tree.If first second (present third)
three_form three.Three.IfLet first second third = tree.IfLet second first third absent
three_form three.Three.WhileLet first second third = tree.WhileLet second first third
three_form three.Three.Arm first second third = tree.Arm first (present second) third

abbrev pub four_form : four.Four → Node → Node → Node → Node → Form
four_form four.Four.IfLet first second third fourth = tree.IfLet second first third (present fourth)

abbrev pub leaf_form : leaf.Leaf → Form
leaf_form (leaf.Leaf.Number value) = tree.Number value
leaf_form (leaf.Leaf.Truth value) = tree.Truth value
leaf_form leaf.Leaf.UnitValue = tree.UnitValue
leaf_form (leaf.Leaf.Variable key) = tree.Variable key.0
leaf_form leaf.Leaf.Ask = tree.Ask
leaf_form leaf.Leaf.Panic = tree.Panic
leaf_form (leaf.Leaf.Break from) = tree.Break from.0 absent
leaf_form (leaf.Leaf.Continue from) = tree.Continue from.0
leaf_form leaf.Leaf.Return = tree.Return absent
leaf_form leaf.Leaf.Wildcard = tree.Wildcard
leaf_form (leaf.Leaf.NumberPattern value) = tree.NumberPattern value
leaf_form (leaf.Leaf.TruthPattern value) = tree.TruthPattern value
