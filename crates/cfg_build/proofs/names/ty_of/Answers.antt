use Rattle.std.proofs.Common.{rules, ◌≡◌, ◌<◌, length}
use Rattle.std.specs.Prelude.{get_or}
use Rattle.cfg_build.proofs.Finding.{typed}
use Rattle.cfg_build.proofs.names.ty_of.Goals as goal

pub returns : goal.returns
returns c =
    let less : c.args.local < length c.args.locals.now = search rules in
    let is : c.in_ok-get.field-0.now ≡ get_or c.args.locals.now c.args.local c.in_ok-get.field-0.now = search rules in
    typed c.args.locals.now c.args.local c.in_ok-get.field-0.now less is
