use Rattle.std.proofs.Common.{◌∙◌, ℕ, Option, sym, ap}
use Rattle.std.proofs.lemmas.Result.{IfOk-weaker}
use Rattle.drop_blocks.specs.Ladders.{Built, flag_test, freed_before, test_before, made_of}
use Rattle.drop_blocks.proofs.tests.freed_by.Goals as goal

pub returns-in-Some : goal.returns-in-Some
returns-in-Some c =
    let place = c.args.place.now in
    let rest = c.args.rest in
    IfOk-weaker c.by_flag.result _ _
    (λ begun made. made
    ∙ ap (λ (b : Built). test_before c.args.kind (flag_test c.in-Some.flag) b.chains rest b.made) c.in_ok-there.ensures
    ∙ ap (λ (guard : Option ℕ). freed_before c.args.kind guard place rest (made_of c.args.blocks.now)) (sym c.in-Some.is)) c.by_flag.ensures

pub returns-in-None : goal.returns-in-None
returns-in-None c =
    c.in_ok-there.ensures
    ∙ ap (λ (guard : Option ℕ). freed_before c.args.kind guard c.args.place.now c.args.rest (made_of c.args.blocks.now))
    (sym c.in-None.is)
