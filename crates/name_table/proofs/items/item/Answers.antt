use Rattle.std.proofs.Common.{ap}
use Rattle.src_ast.specs.ItemForms.{kind_seen}
use Rattle.src_ast.specs.Seen.{nodes_of, syn_of}
use Rattle.src_ast.specs.View.{idents, named}
use Rattle.typing_rules.specs.Collected.{starting_with}
use Rattle.typeck_heads.specs.Forms.{known_of}
use Rattle.name_table.proofs.ItemForms.{struct_answers, enum_answers, trait_answers}
use Rattle.name_table.proofs.items.item.Goals as goal

pub returns-in-Struct-clause-answers : goal.returns-in-Struct-clause-answers
returns-in-Struct-clause-answers c =
    struct_answers (known_of c.args.known.now) c.args.node.now (starting_with c.args.items.now) c.name_of.result.now c.in-Struct.name.now.at (named (syn_of c.in-Struct.name.now)) c.name_of.ensures
    c.struct_item.result c.struct_item.new.items (idents (nodes_of c.in-Struct.derives)) (kind_seen c.in-Struct.kind) (nodes_of c.in-Struct.fields) c.in-Struct.ensures c.struct_item.ensures.answers

pub returns-in-Enum-clause-answers : goal.returns-in-Enum-clause-answers
returns-in-Enum-clause-answers c =
    enum_answers (known_of c.args.known.now) c.args.node.now (starting_with c.args.items.now) c.name_of-in-Enum.result.now c.in-Enum.name.now.at (named (syn_of c.in-Enum.name.now)) c.name_of-in-Enum.ensures
    c.enum_item.result c.enum_item.new.items (idents (nodes_of c.in-Enum.derives)) (nodes_of c.in-Enum.variants) c.in-Enum.ensures c.enum_item.ensures.answers

pub returns-in-Trait-clause-answers : goal.returns-in-Trait-clause-answers
returns-in-Trait-clause-answers c =
    trait_answers (known_of c.args.known.now) c.args.node.now (starting_with c.args.items.now) c.name_of-in-Trait.result.now c.in-Trait.name.now.at (named (syn_of c.in-Trait.name.now)) c.name_of-in-Trait.ensures
    c.trait_item.result c.trait_item.new.items c.args.traits (nodes_of c.in-Trait.heads) c.requires.next c.in-Trait.ensures c.trait_item.ensures.answers
