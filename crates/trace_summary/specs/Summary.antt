-- How many events of each kind a trace has, and the summary of a run.
use Rattle.std.specs.Prelude.{ℕ, ◌+◌, List, ◌++◌, length, count_by, codes}
use Rattle.std.specs.Fmt.{decimal}
use Rattle.mir_base.specs.declared.trace.End.{End}
use Rattle.mir_base.specs.Lines.{end_line, line}
use Rattle.mir_base.specs.Trace.{Trace}
use Rattle.trace_summary.specs.Kinds.{is_made, is_dropped, is_freed, is_forgotten}
use Rattle.trace_summary.specs.declared.counts.Counts.{Counts}

abbrev pub counts_of : Trace → Counts
counts_of trace = record {
  events = length trace;
  made = count_by is_made trace;
  dropped = count_by is_dropped trace;
  freed = count_by is_freed trace;
  forgotten = count_by is_forgotten trace;
}

-- a word and a number, in a line
abbrev pub count_line : List ℕ → ℕ → List ℕ
count_line word n = line (word ++ codes " " ++ decimal n)

-- the summary of a run of a program with so many functions; the lines of its trace are those of the events and the last
abbrev pub summary_of : ℕ → Counts → End → List ℕ
summary_of functions counts end =
    count_line (codes "soak") functions ++ count_line (codes "made") counts.made ++
    count_line (codes "dropped") counts.dropped ++ count_line (codes "freed") counts.freed ++
    count_line (codes "forgotten") counts.forgotten ++ count_line (codes "lines") (counts.events + 1) ++ end_line end
