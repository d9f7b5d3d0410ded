use Rattle.std.proofs.Common.{◌∙◌, ◌++◌}
use Rattle.std.proofs.lemmas.Result.{on_ok_weaker}
use Rattle.look_draw.specs.Drawings.{body_of}
use Rattle.look_draw.proofs.drawings.put_body.Goals as goal

pub returns : goal.returns
returns c =
    on_ok_weaker c.put_body_of.result
    (λ put. put ∙ (λ i. c.args.out.now.items
    ++ body_of c.args.items.now c.args.sites.now (c.locals_in.ensures i) (c.blocks_in.ensures i) (c.names_of.ensures i) c.args.n c.args.body.now))
    c.put_body_of.ensures
