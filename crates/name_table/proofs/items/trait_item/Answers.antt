use Rattle.std.proofs.Common.{None}
use Rattle.src_ast.specs.Seen.{nodes_of}
use Rattle.src_ast.specs.Syntax.{list_of}
use Rattle.typing_rules.specs.Collected.{names_alone}
use Rattle.typeck_heads.specs.Forms.{known_of}
use Rattle.name_table.proofs.TraitHeads.{are_methods}
use Rattle.name_table.proofs.items.trait_item.Goals as goal

pub add_trait-requires : goal.add_trait-requires
add_trait-requires c =
    record {
      methods =
          are_methods (names_alone (known_of c.args.known.now) None) c.in_ok-own.own c.args.items.now c.intern.new.items c.own_heads.new.items c.args.number
          (list_of (nodes_of c.args.heads)) c.in_ok-methods.methods c.requires.next c.in_ok-own.ensures.answers c.in_ok-methods.ensures.answers c.in_ok-methods.ensures.known;
    }
