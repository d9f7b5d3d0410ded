use Rattle.src_ast.specs.Seen.{syn_of}
use Rattle.src_ast.specs.View.{named}
use Rattle.typing_rules.specs.Collected.{starting_with}
use Rattle.name_table.proofs.ItemNames.{fresh}
use Rattle.name_table.proofs.item_names.with_one.Goals as goal

pub returns-in-Ok : goal.returns-in-Ok
returns-in-Ok c =
    fresh (named (syn_of c.args.name.now)) c.args.seen c.in-Ok.more (starting_with c.args.items.now) c.args.name.now.at c.name_of-word.result.now
    c.is_taken.result c.name_of-word.ensures c.is_taken.ensures c.if-is_taken.false c.in-Ok.ensures
