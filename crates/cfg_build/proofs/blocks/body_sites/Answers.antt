use Rattle.std.proofs.Common.{rules, ◌≡◌, ◌∙◌, ◌+◌, ℕ, List, [], sym, ap}
use Rattle.std.specs.Option.{unwrap_or}
use Rattle.std.specs.Prelude.{slice_get}
use Rattle.lower_rules.specs.Lower as low
use Rattle.cfg_build.proofs.Told.{block_more, block_at}
use Rattle.cfg_build.proofs.blocks.body_sites.Goals as goal

pub loop-one-preserved : goal.loop-one-preserved
loop-one-preserved c =
    let on : c.in_ok-block.block ≡ c.loop-one.block + 1 = search rules in
    record {
      block = on ∙ ap (λ (k : ℕ). k + 1) c.loop-one.invariant.block;
      sites = λ tree are own ids. block_more c.args.names.items.now tree c.args.body c.args.blocks.now c.loop-one.one-index c.loop-one.block
          c.in_ok-block.block c.one-item.result c.loop-one.sites c.add_block.new.sites _ c.loop-one.invariant.block on c.loop-one-test.true c.one-item.is
          (c.in_ok-add_block.ensures tree are
          (block_at c.args.blocks.now (low.body_of c.args.names.items.now tree).blocks c.loop-one.one-index c.loop-one.block c.one-item.result own
          c.loop-one.invariant.block c.loop-one-test.true c.one-item.is)
          (ap (λ (all : List (List ℕ)). unwrap_or (slice_get all c.loop-one.block) []) (sym ids) ∙ sym c.ids_at-own.ensures))
          (c.loop-one.invariant.sites tree are own ids);
    }
