-- What a contract sees of code, and of what it is made of.
use Rattle.std.specs.Prelude.{ℕ, Bool, List, Option, Some, None, map, reverse}
use Rattle.cfg_graph.specs.Places.{named}
use Rattle.mir_base.specs.declared.place_in_text.Key.{Key}
use Rattle.cfg_meaning.specs.Actions.{site_of, operand_of, operands_of, action_of}
use Rattle.store_model.specs.Effects as effects
use Rattle.src_meaning.specs.Forms as source
use Rattle.src_meaning.specs.Scopes as scopes
use Rattle.pattern_lower.specs.Seen.{tests_in}
use Rattle.lower_code.specs.Code as plain
use Rattle.src_meaning.specs.Shape as shape
use Rattle.src_meaning.specs.Shape.{Aliases, shape_of}
use Rattle.mir_ty.specs.ItemTable.{ItemTable}
use Rattle.store_model.specs.Places.Place.{Place}
use Rattle.typed_tree.specs.Tree as tree
use Rattle.typed_tree.specs.View.{tree_of}
use Rattle.typed_tree.specs.declared.node.Node.{Node}
use Rattle.lower_code.specs.Forms.{code_of_form, FormCode, Makes, IsPlace, IsArm}
use Rattle.lower_code.specs.Wanted as wanted
use Rattle.lower_code.specs.declared.loops_and_guards.Alias.{Alias}
use Rattle.lower_code.specs.declared.loops_and_guards.LoopsAndGuards.{LoopsAndGuards}
use Rattle.lower_code.specs.declared.loops_and_guards.LoopAround.{LoopAround}
use Rattle.lower_code.specs.declared.context.Context.{Context}
use Rattle.lower_code.specs.declared.context.NodeHead.{NodeHead}
use Rattle.lower_code.specs.declared.context.Category.{Category}
use Rattle.lower_code.specs.declared.operations.Built.{Built}
use Rattle.lower_code.specs.declared.field_order.FieldNode.{FieldNode}
use Rattle.lower_code.specs.declared.code.Action.{Action}
use Rattle.lower_code.specs.declared.code.Change.{Change}
use Rattle.lower_code.specs.declared.code.Code.{Code}
use Rattle.lower_code.specs.declared.code.Condition.{Condition}
use Rattle.lower_code.specs.declared.code.Destination.{Destination}
use Rattle.lower_code.specs.declared.code.Entry.{Entry}
use Rattle.lower_code.specs.declared.code.Exit.{Exit}
use Rattle.lower_code.specs.declared.code.CodeWord.{CodeWord}
use Rattle.lower_code.specs.declared.code.ScopeAt.{ScopeAt}
use Rattle.lower_code.specs.Ops as ops

abbrev pub maybe_key : Option Key → Option ℕ
maybe_key None = None
maybe_key (Some key) = Some key.0

abbrev pub keys_seen : List Key → List ℕ
keys_seen = map (λ key. key.0)

abbrev pub entry_of : Entry → scopes.Entry
entry_of e = record { key = e.key.0; ty = e.ty }

abbrev pub at_of : ScopeAt → plain.ScopeAt
at_of ScopeAt.Innermost = plain.Innermost
at_of ScopeAt.AroundInnermost = plain.AroundInnermost
at_of ScopeAt.NearestTemporary = plain.NearestTemporary

abbrev pub change_of : Change → plain.Change
change_of (Change.NewScope node for_temporaries) = plain.NewScope node.0 for_temporaries
change_of (Change.Pends at entry) = plain.Pends (at_of at) (entry_of entry)
change_of (Change.Completes at entry) = plain.Completes (at_of at) (entry_of entry)
change_of (Change.Enters at entry) = plain.Enters (at_of at) (entry_of entry)
change_of (Change.Names entry) = plain.Names (entry_of entry)
change_of (Change.Takes keys) = plain.Takes (keys_seen keys)

abbrev pub exit_of : Exit → scopes.Exit
exit_of (Exit.Breaks loop) = scopes.Breaks loop.0
exit_of (Exit.Continues loop) = scopes.Continues loop.0
exit_of Exit.Returns = scopes.Returns

-- an action of a node: all its sites have the node's number
abbrev pub effect_of : ℕ → Action → effects.Action
effect_of node (Action.Stmt stmt) = action_of node stmt
effect_of node (Action.Math to op left right) =
    effects.Compute (site_of node to) op (operand_of node left) (operand_of node right)
effect_of node (Action.Negate to of) = effects.Negate (site_of node to) (operand_of node of)
effect_of node (Action.Bounds index length) = effects.Bounds (operand_of node index) length
effect_of node (Action.Call to body args) = effects.Call (site_of node to) body (operands_of node args)
effect_of node (Action.Virtual to trait_no method args) =
    effects.CallVirtual (site_of node to) trait_no method (operands_of node args)
effect_of node (Action.Ask to) = effects.Ask (site_of node to)

abbrev pub condition_of : Condition → plain.Condition
condition_of (Condition.IsTrue key) = plain.IsTrue key.0
condition_of (Condition.Passes tests) = plain.Passes (tests_in tests)

abbrev pub destination_of : Destination → source.Destination
destination_of (Destination.Into key) = source.Into key.0
destination_of (Destination.Coerced key trait_no to) = source.Coerced key.0 trait_no to.0

-- a word, and the words of code, the last one first
abbrev pub op_of : CodeWord → ops.CodeWord
op_of CodeWord.Nothing = ops.Nothing
op_of (CodeWord.Changes change) = ops.Changes (change_of change)
op_of (CodeWord.From change) = ops.From (change_of change)
op_of CodeWord.Then = ops.Then
op_of CodeWord.BackIn = ops.BackIn
op_of (CodeWord.Acts node action) = ops.Acts node.0 (effect_of node.0 action.value)
op_of (CodeWord.InScope node for_temporaries) = ops.InScope node.0 for_temporaries
op_of CodeWord.Leaves = ops.Leaves
op_of (CodeWord.Branches node on) = ops.Branches node.0 (condition_of on)
op_of (CodeWord.Loops id) = ops.Loops id.0
op_of (CodeWord.Exits node exit) = ops.Exits node.0 (exit_of exit)
op_of (CodeWord.Panics node why) = ops.Panics node.0 why
op_of (CodeWord.Replaces node place key) = ops.Replaces (record { node = node.0; place = named place.value }) key.0
op_of (CodeWord.Drops key) = ops.Drops key.0
op_of CodeWord.BeforeArms = ops.BeforeArms
op_of (CodeWord.Arm tests guard) = ops.IsArm (tests_in tests) (maybe_key guard)
op_of CodeWord.EmptyArm = ops.EmptyArm
op_of (CodeWord.Matches node) = ops.Matches node.0

abbrev pub ops_of : Code → List ops.CodeWord
ops_of code = reverse (map op_of code.ops)

-- what is around a node
abbrev pub loops_of : List LoopAround → List (ℕ × source.Destination)
loops_of = map (λ l. (l.id.0, destination_of l.to))

abbrev pub aliases_of : List Alias → Aliases
aliases_of = map (λ a. (a.key.0, named a.place))

abbrev pub around_of : LoopsAndGuards → source.LoopsAndGuards
around_of around = record {
  answer = destination_of around.answer;
  loops = loops_of around.loops.now;
  aliases = aliases_of around.aliases.now;
}

-- a node whose code is made
abbrev pub head_of : NodeHead → shape.NodeHead
head_of h = record { id = h.id.0; ty = h.ty; by = h.by }

abbrev pub wanted_of : Category → wanted.Category
wanted_of (Category.Value own to) = wanted.Value own (destination_of to)
wanted_of Category.UnderOwnKey = wanted.UnderOwnKey
wanted_of Category.AsOperand = wanted.AsOperand
wanted_of (Category.Alone to) = wanted.Alone (destination_of to)
wanted_of Category.AloneUnderOwnKey = wanted.AloneUnderOwnKey
wanted_of Category.AsPlace = wanted.AsPlace

-- what a form does, in a context
abbrev pub done : FormCode → source.LoopsAndGuards → Bool → source.Destination → plain.Code
done (Makes evaluates) around own to = evaluates around own to
done (IsPlace reaches) around own to = reaches around
done (IsArm arm) around own to = plain.Nothing

abbrev pub form_code : ItemTable → tree.Form → Context → plain.Code
form_code items form c =
    done (code_of_form items form (head_of c.head) (shape_of items form (head_of c.head)))
    (around_of c.around) c.own (destination_of c.to)

-- what is made of operands
abbrev pub built_of : Built → effects.AggregateKind
built_of Built.Tuple = effects.OfTuple
built_of Built.Array = effects.OfArray
built_of (Built.Closure closure) = effects.OfClosure closure
built_of (Built.Variant adt variant) = effects.OfVariant adt variant

-- a field by its number
abbrev pub numbered : FieldNode → ℕ × ℕ
numbered field = (field.number, field.node.0)

-- the place of a node
abbrev pub place_seen : ItemTable → Node → LoopsAndGuards → Place
place_seen items n around = (shape.shape items (tree_of n)).place (aliases_of around.aliases.now)
