use Rattle.std.proofs.Common.{rules, ◌≡◌, true, false, ap, ◌∙◌}
use Rattle.src_ast.specs.Seen.{syn_of}
use Rattle.src_ast.specs.View.{is_ident, views}
use Rattle.src_tree.specs.View.{parts_in}
use Rattle.src_ast.proofs.FirstNames.{names_end, others_begin, past_token, past_name, nothing_behind, whole_drop}
use Rattle.src_ast.proofs.nodes.Nodes.split_names.Goals as goal
use Rattle.src_ast.proofs.nodes.Nodes.split_names.Goals.{in-Token, in-Node+else-not-is_name}

pub returns-then-not-is_name-clause-first : goal.returns-then-not-is_name-clause-first
returns-then-not-is_name-clause-first c =
    let other : is_ident (syn_of c.in-Node.node) ≡ false = search rules in
    names_end c.args.self.pieces.now c.loop-i.i c.index-pieces-i.result c.loop-i-test.true c.index-pieces-i.is c.loop-i.invariant c.in-Node.node c.in-Node.is other

pub returns-then-not-is_name-clause-others : goal.returns-then-not-is_name-clause-others
returns-then-not-is_name-clause-others c =
    let other : is_ident (syn_of c.in-Node.node) ≡ false = search rules in
    others_begin c.args.self.pieces.now c.loop-i.i c.index-pieces-i.result c.loop-i-test.true c.index-pieces-i.is c.loop-i.invariant c.in-Node.node c.in-Node.is other ∙ ap (λ z. views (parts_in z)) (whole_drop c.args.self.pieces.now c.loop-i.i)

pub loop-i-preserved : goal.loop-i-preserved
loop-i-preserved c =
    elim c.match-piece.branch [
      | in-Token w ↦ past_token c.args.self.pieces.now c.loop-i.i c.index-pieces-i.result c.loop-i-test.true c.index-pieces-i.is c.loop-i.invariant w.in-Token.field-0 w.in-Token.is
      | in-Node+else-not-is_name w ↦
          let name : is_ident (syn_of w.in-Node.node) ≡ true = search rules in
          past_name c.args.self.pieces.now c.loop-i.i c.index-pieces-i.result c.loop-i-test.true c.index-pieces-i.is c.loop-i.invariant w.in-Node.node w.in-Node.is name
    ]

pub returns-clause-others : goal.returns-clause-others
returns-clause-others c = nothing_behind c.args.self.pieces.now c.loop-i.i c.loop-i-test.false c.loop-i.invariant
