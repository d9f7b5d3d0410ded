use Rattle.std.proofs.Common.{◌∙◌, ◌++◌, ℕ, List, [], ◌∷◌, ap}
use Rattle.std.proofs.lemmas.Result.{on_ok_weaker}
use Rattle.std.specs.Option.{option_copied}
use Rattle.std.specs.Prelude.{codes, Option}
use Rattle.mir_base.specs.Lines.{line}
use Rattle.lower_rules.specs.declared.site.Site.{Site}
use Rattle.look_draw.specs.Steps.{site_words}
use Rattle.look_draw.proofs.ThreePut.{three_put}
use Rattle.look_draw.proofs.origins.put_made.Goals as goal

pub returns : goal.returns
returns c =
    let made : List ℕ = codes "the value is made" in
    on_ok_weaker c.put_line_feed.result
    (λ fed.
    three_put c.args.out.now.items c.put.new.out.items c.put_site.new.out.items c.put_line_feed.new.out.items
    made (site_words (option_copied c.site_of.result)) (10 ∷ []) c.in_ok-put.ensures c.in_ok-put_site.ensures fed
    ∙ ap (λ (site : Option Site). c.args.out.now.items ++ line (made ++ site_words site)) c.site_of.ensures)
    c.put_line_feed.ensures
