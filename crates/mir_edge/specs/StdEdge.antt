-- What contracts see of a std reader as a source, and of a std writer as a sink.
use Rattle.std.specs.Prelude.{ℕ}
use Rattle.mir_edge.specs.declared.std_edge.StdSource.{StdSource}
use Rattle.mir_edge.specs.declared.std_edge.StdSink.{StdSink}

-- the reader, as it stands
abbrev pub reader_of : {R : Type 0} → StdSource R → R
reader_of source = source.reader

-- how many reads failed, up to the greatest u64
abbrev pub faults_of_source : {R : Type 0} → StdSource R → ℕ
faults_of_source source = source.faults

-- the writer, as it stands
abbrev pub writer_of : {W : Type 0} → StdSink W → W
writer_of sink = sink.writer

-- how many writes failed, up to the greatest u64
abbrev pub faults_of_sink : {W : Type 0} → StdSink W → ℕ
faults_of_sink sink = sink.faults
