use Rattle.std.proofs.Common.{arith, refl}
use Rattle.typeck_heads.specs.Forms.{around_of}
use Rattle.typeck_heads.proofs.Shapes.{part_falls}
use Rattle.typeck_heads.proofs.Told.{stands_as_seen}
use Rattle.typeck_heads.proofs.closure_types.+standing.Goals as goal

pub stands-returns-in-Name : goal.stands-returns-in-Name
stands-returns-in-Name t c =
    stands_as_seen (around_of c.args.scope.now) c.args.node.now _ _ _ c.in-Name.is c.type_form.ensures c.name_stands.ensures

pub stands-returns-in-Generic : goal.stands-returns-in-Generic
stands-returns-in-Generic t c =
    stands_as_seen (around_of c.args.scope.now) c.args.node.now _ _ _ c.in-Generic.is c.type_form.ensures c.generic_stands.ensures

pub stands-returns-in-Dyn : goal.stands-returns-in-Dyn
stands-returns-in-Dyn t c =
    stands_as_seen (around_of c.args.scope.now) c.args.node.now _ _ _ c.in-Dyn.is c.type_form.ensures c.object_stands.ensures

pub stands-returns-in-Tuple : goal.stands-returns-in-Tuple
stands-returns-in-Tuple t c =
    stands_as_seen (around_of c.args.scope.now) c.args.node.now _ _ _ c.in-Tuple.is c.type_form.ensures c.all_stand.ensures

pub stands-returns-in-SelfType : goal.stands-returns-in-SelfType
stands-returns-in-SelfType t c =
    stands_as_seen (around_of c.args.scope.now) c.args.node.now _ _ _ c.in-SelfType.is c.type_form.ensures c.is_some.ensures

pub stands-returns-in-Parens : goal.stands-returns-in-Parens
stands-returns-in-Parens t c =
    stands_as_seen (around_of c.args.scope.now) c.args.node.now _ _ _ c.in-Parens.is c.type_form.ensures c.stands.ensures

pub stands-returns-in-Array : goal.stands-returns-in-Array
stands-returns-in-Array t c =
    stands_as_seen (around_of c.args.scope.now) c.args.node.now _ _ _ c.in-Array.is c.type_form.ensures c.stands-in-Array.ensures

pub stands-returns-in-Never : goal.stands-returns-in-Never
stands-returns-in-Never t c =
    stands_as_seen (around_of c.args.scope.now) c.args.node.now _ _ _ c.in-Never.is c.type_form.ensures refl

pub stands-returns-in-Reference : goal.stands-returns-in-Reference
stands-returns-in-Reference t c =
    stands_as_seen (around_of c.args.scope.now) c.args.node.now _ _ _ c.in-Reference.is c.type_form.ensures c.stands-in-Reference.ensures

pub stands-returns-in-Other : goal.stands-returns-in-Other
stands-returns-in-Other t c =
    stands_as_seen (around_of c.args.scope.now) c.args.node.now _ _ _ c.in-Other.is c.type_form.ensures refl

pub stands-generic_stands-requires : goal.stands-generic_stands-requires
stands-generic_stands-requires t c = (part_falls c.args.node.now _ _ t _ c.decreases c.in-Generic.is c.type_form.ensures (omega arith), tt)

pub stands-stands-requires : goal.stands-stands-requires
stands-stands-requires t c = (part_falls c.args.node.now _ _ t _ c.decreases c.in-Parens.is c.type_form.ensures (omega arith), tt)

pub stands-all_stand-requires : goal.stands-all_stand-requires
stands-all_stand-requires t c = (part_falls c.args.node.now _ _ t _ c.decreases c.in-Tuple.is c.type_form.ensures (omega arith), tt)

pub stands-stands-requires-in-Array : goal.stands-stands-requires-in-Array
stands-stands-requires-in-Array t c = (part_falls c.args.node.now _ _ t _ c.decreases c.in-Array.is c.type_form.ensures (omega arith), tt)

pub stands-stands-requires-in-Reference : goal.stands-stands-requires-in-Reference
stands-stands-requires-in-Reference t c = (part_falls c.args.node.now _ _ t _ c.decreases c.in-Reference.is c.type_form.ensures (omega arith), tt)
