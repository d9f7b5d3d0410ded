use Rattle.std.proofs.Common.{◌≡◌, ◌-◌}
use Rattle.mir_text.specs.SectionReading.{on_within}
use Rattle.mir_text.specs.HeadReading as reading
use Rattle.mir_text.proofs.heads.adt_heads.Given as goal

abbrev pub invariant-loop : goal.invariant-loop
invariant-loop l = on_within l.count reading.one_adt_head l.initial.heads l.text ≡ on_within (l.count - l.counter) reading.one_adt_head l.heads l.rest
