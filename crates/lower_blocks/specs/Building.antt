-- What contracts see of blocks that are made.
use Rattle.std.specs.Prelude.{◌≡◌, ℕ, true, false, List, [], ◌∷◌, map, reverse, Option, Some, None, option_map, slice_get}
use Rattle.std.specs.Option.{unwrap_or}
use Rattle.cfg_graph.specs.declared.terminator.Unwind.{Unwind}
use Rattle.mir_base.specs.declared.place_in_text.Key.{Key}
use Rattle.lower_rules.specs.Build as build
use Rattle.lower_rules.specs.Spots as spots
use Rattle.lower_rules.specs.Spots.{loop_ways}
use Rattle.src_meaning.specs.Scopes as scopes
use Rattle.lower_passes.specs.Scoped.{entries_of}
use Rattle.lower_blocks.specs.declared.blocks.Blocks.{Blocks}
use Rattle.lower_blocks.specs.declared.blocks.SharedBlock.{SharedBlock}
use Rattle.lower_blocks.specs.declared.drops.Below.{Below}
use Rattle.lower_blocks.specs.declared.blocks.SharedEnd.{SharedEnd}
use Rattle.lower_blocks.specs.declared.blocks.NodeLine.{NodeLine}
use Rattle.lower_blocks.specs.declared.blocks.MadeBlock.{MadeBlock}
use Rattle.lower_blocks.specs.declared.blocks.Open.{Open}
use Rattle.lower_blocks.specs.declared.ways.LoopWay.{LoopWay}
use Rattle.lower_blocks.specs.declared.ways.Ways.{Ways}

abbrev pub line_of : NodeLine → build.NodeLine
line_of line = record { stmt = line.stmt; node = line.node.0 }

-- what is open, from its last line back
abbrev pub rest_of : Open → build.BlockRest
rest_of o = record { lines = reverse (map line_of o.lines); term = o.term; node = o.node.0 }

abbrev pub made_of : MadeBlock → build.MadeBlock
made_of made = record { block = made.block; nodes = map (λ node. node.0) made.nodes }

abbrev pub end_of : SharedEnd → build.SharedEnd
end_of SharedEnd.Resumes = build.Resumes
end_of (SharedEnd.GoesTo block) = build.GoesTo block
end_of (SharedEnd.DropsThen key onward unwind) = build.DropsThen key.0 onward unwind

abbrev pub listed_as : SharedBlock → build.SharedEnd × ℕ
listed_as shared = (end_of shared.end, shared.block)

-- the newest first
abbrev pub listed_in : List SharedBlock → List (build.SharedEnd × ℕ)
listed_in blocks = reverse (map listed_as blocks)

-- what is listed at a place, which is nothing past the end
abbrev pub blocks_at : List (List SharedBlock) → ℕ → List SharedBlock
blocks_at lists place = unwrap_or (slice_get lists place) []

abbrev pub building_of : Blocks → build.Building
building_of blocks = record {
  blocks = map (option_map made_of) blocks.made;
  shared = λ place. listed_in (blocks_at blocks.shared place);
}

-- what is built before the rest: what is open, and the blocks so far
abbrev pub built_of : Blocks → build.BlockRest × build.Building
built_of blocks = (rest_of blocks.rest, building_of blocks)

abbrev pub loop_of : LoopWay → ℕ × spots.LoopWays
loop_of way = (way.id.0, loop_ways way.base way.exit way.turn way.is_left)

-- in a body one scope stays, that of the result
abbrev pub ways_of : Ways → spots.Ways
ways_of ways = record {
  returns = record { base = 1; block = ways.returns; is_used = true };
  nowhere = record { base = 1; block = ways.returns; is_used = false };
  loops = map loop_of ways.loops.now;
}

-- where a panic goes on that drops these entries, of which all blocks stand: asked again, none is made
abbrev pub IsKnownDown : build.LoweringFrame → List scopes.Entry → Unwind → build.Building → Type 0
IsKnownDown f es unwind s = build.unwind_to f es s ≡ (unwind, s)

-- What is dropped below the next entry. Before the first entry these are listed; behind one it is the youngest, and where
-- a panic goes on that drops the others is known.
abbrev pub listed_below :
    build.LoweringFrame → Below → Option Key → List scopes.Entry → build.Building → Type 0
listed_below f below None drops s = entries_of below.around ≡ drops
listed_below f below (Some key) drops s =
    (e : scopes.Entry) × (es : List scopes.Entry) × (drops ≡ e ∷ es) × (e.key ≡ key.0)
    × IsKnownDown f es below.unwind s

abbrev pub IsBelow : build.LoweringFrame → Below → List scopes.Entry → build.Building → Type 0
IsBelow f below drops s = listed_below f below below.youngest drops s

-- the shared block that drops an entry, and these after a panic out of it
abbrev pub drop_shared :
    build.LoweringFrame → scopes.Entry → List scopes.Entry → (onward : ℕ) → build.Building → ℕ × build.Building
drop_shared f e drops onward s =
    let down = build.unwind_to f drops s in build.share f (build.DropsThen e.key onward down.0) down.1
