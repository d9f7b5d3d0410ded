use Rattle.std.proofs.Common.{◌<◌, ◌++◌, ◌∙◌, length, ap, sym, arith}
use Rattle.look_lines.specs.Tellings.{after, line_told, lines_told, lines_of}
use Rattle.look_lines.proofs.Lines.{told_on}
use Rattle.look_lines.proofs.tellings.tell.Goals as goal

pub loop-rest-preserved : goal.loop-rest-preserved
loop-rest-preserved c =
    let some : 0 < length c.loop-rest.rest.now = (let t = c.loop-rest-test.true in omega (t, arith)) in
    told_on c.args.text.now c.args.places.now _ c.loop-rest.out.items c.put_line.new.out.items c.loop-rest.reading
    c.put_line.new.reading c.loop-rest.rest.now some c.loop-rest.invariant
    (c.in_ok-put_line.ensures.told ∙ ap (λ words. c.loop-rest.out.items ++ line_told c.args.text.now c.args.places.now c.loop-rest.reading words) c.first_line.ensures)
    (c.in_ok-put_line.ensures.after ∙ ap (λ words. after c.loop-rest.reading words) c.first_line.ensures)
    ∙ ap (λ rest. c.put_line.new.out.items ++ lines_told c.args.text.now c.args.places.now (lines_of rest) c.put_line.new.reading) (sym c.behind_line-rest.ensures)
