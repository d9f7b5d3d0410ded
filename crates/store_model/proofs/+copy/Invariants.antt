use Rattle.std.proofs.Common.{◌≡◌, map, take}
use Rattle.store_model.specs.Values.Datum.{datum_of}
use Rattle.store_model.proofs.+copy.Given as goal

abbrev pub invariant-copies::copy_parts-loop-part : goal.invariant-copies::copy_parts-loop-part
invariant-copies::copy_parts-loop-part l = map datum_of l.copies ≡ map datum_of (take l.part-index l.parts)
