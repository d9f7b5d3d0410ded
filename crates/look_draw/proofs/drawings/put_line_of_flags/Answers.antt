use Rattle.std.proofs.lemmas.Result.{on_ok_weaker}
use Rattle.std.specs.Fmt.{decimal}
use Rattle.std.specs.Prelude.{codes}
use Rattle.look_draw.proofs.ThreePut.{three_put}
use Rattle.look_draw.proofs.drawings.put_line_of_flags.Goals as goal

pub returns : goal.returns
returns c =
    on_ok_weaker c.put-2.result
    (λ put. three_put c.args.out.now.items c.put.new.out.items c.put_count.new.out.items c.put-2.new.out.items
    (codes "drop flags: the locals from ") (decimal c.args.before) (codes " on\n") c.in_ok-put.ensures
    c.in_ok-put_count.ensures put)
    c.put-2.ensures
