use Rattle.std.proofs.Common.{rules, ◌≡◌, ◌<◌, ◌-◌, ◌^◌, ◌∙◌, [], All, List, map, length, sym, ap, subst, arith}
use Rattle.std.proofs.lemmas.Grind.{common_steps}
use Rattle.std.proofs.lemmas.List.Elements.{All-nil}
use Rattle.std.proofs.lemmas.List.{length-map}
use Rattle.mir_ty.specs.declared.ty.TyId.{TyId}
use Rattle.src_meaning.specs.Locals.OfBody.{local_among}
use Rattle.src_meaning.specs.Scopes.{Entry}
use Rattle.typed_tree.specs.Tree.{BodyTree}
use Rattle.typed_tree.specs.View.{body_of, param_tree}
use Rattle.typed_tree.specs.declared.body.Param.{Param}
use Rattle.lower_locals.specs.View.{keys, tys}
use Rattle.lower_rules.specs.Lower as low
use Rattle.cfg_build.specs.Lowered.{HasFewLines, block_of, line_nodes}
use Rattle.lower_rules.specs.Listed.{ids_of}
use Rattle.cfg_build.proofs.Whole.{body_is, nodes_of_is}
use Rattle.cfg_build.proofs.bodies.lower_body.Goals as goal

pub returns : goal.returns
returns c =
    let tree : BodyTree = body_of c.args.body.now in
    let params : c.as_slice.result.now ≡ c.args.body.now.params = search rules in
    let count : c.in_ok-params.params ≡ length tree.params =
    c.in_ok-params.ensures ∙ ap (λ (all : List Param). length all) params ∙ sym (length-map c.args.body.now.params param_tree) in
    let found : List Entry = c.in_ok-found.found in
    let typed : c.add_tys.new.tys ≡ tys found = search rules in
    let slice : c.as_slice-3.result.now ≡ c.add_tys.new.tys = search rules in
    let built = c.in_ok-made.ensures
    ∙ ap (λ (types : List TyId). (low.built (record { items = c.args.items.now; local_of = local_among (keys found); tys = types }) tree).blocks) slice in
    let blocks : c.add_parts.new.blocks ≡ map block_of c.in_ok-made.made = search rules in
    let nodes : map ids_of c.add_parts.new.nodes ≡ map line_nodes c.in_ok-made.made = search rules in
    let few_locals : length c.add_tys.new.tys < 2 ^ 32 - 1 = grind (arith, common_steps) in
    let few_blocks : length c.add_parts.new.blocks < 2 ^ 32 - 1 = grind (arith, common_steps) in
    let empty : c.from_vec-blocks.result ≡ [] = search rules in
    let none : All HasFewLines c.from_vec-blocks.result = subst (All HasFewLines) (sym empty) (All-nil HasFewLines) in
    record {
      body = body_is c.args.items.now tree c.in_ok-params.params found c.add_tys.new.tys c.in_ok-made.made c.add_parts.new.blocks
          count c.in_ok-found.ensures typed built blocks;
      locals = c.in_ok-found.ensures;
      nodes = nodes_of_is c.args.items.now tree found c.add_tys.new.tys c.in_ok-made.made (map ids_of c.add_parts.new.nodes)
          c.in_ok-found.ensures typed built nodes;
      counted = record {
        locals = few_locals;
        blocks = few_blocks;
        stmts = c.in_ok-add_parts.ensures.2 none;
      };
    }
