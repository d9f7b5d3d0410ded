use Rattle.std.proofs.Common.{rules, ◌≡◌, length, arith}
use Rattle.src_token.specs.Tokens.{Tokens}
use Rattle.mir_pipeline.proofs.Fewer.{fewer_bytes}
use Rattle.mir_pipeline.proofs.read.read_tree.Goals as goal

pub parse_owned-requires : goal.parse_owned-requires
parse_owned-requires c =
    let t : Tokens c.args.text.now c.in_ok-tokens.tokens = search rules in
    let r = c.requires in
    omega (arith, fewer_bytes c.args.text.now c.in_ok-tokens.tokens t, r)
