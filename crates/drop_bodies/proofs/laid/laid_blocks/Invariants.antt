use Rattle.std.proofs.Common.{◌≡◌, length}
use Rattle.mir_ty.specs.ItemTable.{ItemTable}
use Rattle.drop_blocks.specs.Ladders.{made_of}
use Rattle.drop_bodies.proofs.Laying.{LaidTo}
use Rattle.drop_bodies.specs.Done.{AreDone}
use Rattle.drop_bodies.specs.Ended.{AreEnded}
use Rattle.drop_flags.specs.Flags.{AreFlags, paths_of}
use Rattle.drop_bodies.proofs.laid.laid_blocks.Given as goal

abbrev pub invariant-loop-block : goal.invariant-loop-block
invariant-loop-block l =
    (l.number ≡ length l.yielded)
    × ((items : ItemTable) → AreFlags items l.fn.body l.flags →
    AreDone items l.fn.body (paths_of l.flags) l.decided (length l.yielded) l.blocks (made_of l.new))
    × ((items : ItemTable) → AreFlags items l.fn.body l.flags →
    AreEnded items l.fn.body (paths_of l.flags) l.decided (length l.yielded) l.blocks (made_of l.new))
    × LaidTo l.fn.body (length l.yielded) l.blocks l.new.made l.sizes
