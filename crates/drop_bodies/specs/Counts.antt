-- How many drops of a body are of each kind, by what is decided of them.
use Rattle.std.specs.Prelude.{◌≡◌, ℕ, ◌+◌, ◌==◌, not, Bool, false, List, Option, Some, None, length, slice_get, slice_index_or, option_and_then, if◌then◌else◌}
use Rattle.std.specs.Option.{option_map_or}
use Rattle.store_model.specs.Places.Place.{Place}
use Rattle.cfg_graph.specs.declared.graph.Block.{Block}
use Rattle.cfg_graph.specs.declared.terminator.Term.{Term}
use Rattle.cfg_graph.specs.Places.{named}
use Rattle.move_paths.specs.Forest.{children_of}
use Rattle.drop_elaborate.specs.Elaborated.{place_number}
use Rattle.drop_elaborate.specs.Kinds.{DropKind, Dead, Plain, Conditional, Opened}
use Rattle.drop_elaborate.specs.Totals.{DropTotals, times}
use Rattle.drop_ends.specs.declared.decided.Decided.{Decided}
use Rattle.drop_bodies.specs.declared.counts.DropCounts.{DropCounts}

abbrev pub totals_of : DropCounts → DropTotals
totals_of counts = record {
  dead = counts.dead;
  plain = counts.plain;
  conditional = counts.conditional;
  opened = counts.opened;
  flags = counts.flags;
}

abbrev pub no_drops : (flags : ℕ) → DropTotals
no_drops flags = record { dead = 0; plain = 0; conditional = 0; opened = 0; flags = flags }

abbrev pub both : DropTotals → DropTotals → DropTotals
both one other = record {
  dead = one.dead + other.dead;
  plain = one.plain + other.plain;
  conditional = one.conditional + other.conditional;
  opened = one.opened + other.opened;
  flags = one.flags + other.flags;
}

-- what the code goes on with; no public contract speaks of it
abbrev pub with_kind : DropKind → DropTotals → DropTotals
with_kind Dead totals = record totals { dead = totals.dead + 1 }
with_kind Plain totals = record totals { plain = totals.plain + 1 }
with_kind Conditional totals = record totals { conditional = totals.conditional + 1 }
with_kind Opened totals = record totals { opened = totals.opened + 1 }

-- some path lies a step below a place
abbrev pub is_opened : List Place → Place → Bool
is_opened paths place =
    option_map_or (λ path. not (length (children_of paths path) == 0)) (place_number place paths 0) false

-- the kind of a drop by what is decided of it
abbrev pub kind_by : List Place → Place → Decided → DropKind
kind_by paths place Decided.Dead = Dead
kind_by paths place Decided.Plain = Plain
kind_by paths place (Decided.Planned plan) = if is_opened paths place then Opened else Conditional

abbrev pub kind_of : List Place → Decided → Term → Option DropKind
kind_of paths how (Term.DropAt place next unwind) = Some (kind_by paths (named place) how)
kind_of paths how term = None

-- of the drop in which a block ends, if it does
abbrev pub kind_at : List Place → List Decided → List Block → ℕ → Option DropKind
kind_at paths decided blocks n =
    option_and_then (λ block. kind_of paths (slice_index_or decided n Decided.Dead) block.term) (slice_get blocks n)

-- the drops at the ends of the first blocks, so many
pub record AreCounts (kinds : ℕ → Option DropKind) (blocks flag_count : ℕ) (totals : DropTotals) : Type 0 where
  pub dead : totals.dead ≡ times kinds Dead blocks
  pub plain : totals.plain ≡ times kinds Plain blocks
  pub conditional : totals.conditional ≡ times kinds Conditional blocks
  pub opened : totals.opened ≡ times kinds Opened blocks
  pub flags : totals.flags ≡ flag_count
