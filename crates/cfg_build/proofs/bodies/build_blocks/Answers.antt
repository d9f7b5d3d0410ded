use Rattle.std.proofs.Common.{rules, ◌≡◌, ◌∙◌, ap}
use Rattle.lower_rules.specs.Build.{Building}
use Rattle.std.specs.Prelude.{map, option_map}
use Rattle.lower_blocks.specs.Building.{made_of}
use Rattle.cfg_build.proofs.bodies.build_blocks.Goals as goal

pub returns : goal.returns
returns c =
    let made : c.replace-made.result ≡ c.build_body-done.new.blocks.made = search rules in
    ap (λ all. map (option_map made_of) all) made
    ∙ ap (λ (s : Building). s.blocks) (c.in_ok-done.ensures c.in_ok-blocks.ensures)
