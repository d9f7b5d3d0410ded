use Rattle.std.proofs.Common.{rules}
use Rattle.std.specs.String.{string_bytes}
use Rattle.typeck_heads.proofs.Numbering.{noted}
use Rattle.typeck_heads.proofs.names.note.Goals as goal

pub returns : goal.returns
returns c =
    noted (string_bytes c.in_ok-from_str.field-0) c.args.name.now c.args.numbers.now c.insert.new.self c.args.number
    c.in_ok-insert.ensures.updates c.in_ok-from_str.ensures.ok (search rules)
