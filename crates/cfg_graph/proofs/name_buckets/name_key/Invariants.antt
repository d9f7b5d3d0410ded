use Rattle.std.proofs.Common.{◌≡◌, ◌<◌, drop}
use Rattle.cfg_graph.specs.WellFormed.Buckets.{name_key, key_from}
use Rattle.cfg_graph.proofs.name_buckets.name_key.Given as goal

abbrev pub invariant-loop-byte : goal.invariant-loop-byte
invariant-loop-byte l = record {
  left : name_key l.name ≡ key_from l.key (drop l.byte-index l.name);
  below : l.key < 32899072;
}
