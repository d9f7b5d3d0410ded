use Rattle.std.proofs.Common.{◌≡◌, ◌<◌, ℕ, Bool, true, false, List, length, get_or, map, ap, sym, subst, ◌∙◌}
use Rattle.std.proofs.lemmas.List.{length-map}
use Rattle.typing_rules.specs.Replaced.{Facts, BodyParameter}
use Rattle.borrow_rules.specs.Found.{Notes, index_of}
use Rattle.borrow_rules.specs.View.{fact_in, params_in}
use Rattle.borrow_rules.proofs.Noting.{fact_at, finds, finds_nothing, index_within}
use Rattle.borrow_rules.proofs.replaceable.take_turn.Goals as goal

pub returns-then-branch : goal.returns-then-branch
returns-then-branch c =
    let items = c.args.items.now in
    let facts = c.args.facts.now in
    let n : ℕ = c.index_at-n.result in
    let old : List BodyParameter = params_in c.args.found.now.keys in
    let new : List BodyParameter = params_in c.note.new.found.keys in
    let f : Facts = fact_in c.index-facts-n.result in
    let within : n < length facts =
    subst (λ (k : ℕ). k < length facts) (sym c.index_at-n.ensures) (index_within c.args.turn (length facts) c.args.is_back c.requires) in
    let at = fact_at facts n c.index-facts-n.result within c.index-facts-n.is in
    let noted : Notes items f old new true = subst (λ (b : Bool). Notes items f old new b) c.if-branch.true c.in_ok-note.ensures in
    λ start swept. finds items (map fact_in facts) start c.args.is_back c.args.turn c.args.grew old new f (n, at.0, at.1) swept noted

pub returns : goal.returns
returns c =
    let items = c.args.items.now in
    let facts = c.args.facts.now in
    let n : ℕ = c.index_at-n.result in
    let old : List BodyParameter = params_in c.args.found.now.keys in
    let new : List BodyParameter = params_in c.note.new.found.keys in
    let f : Facts = fact_in c.index-facts-n.result in
    let within : n < length facts =
    subst (λ (k : ℕ). k < length facts) (sym c.index_at-n.ensures) (index_within c.args.turn (length facts) c.args.is_back c.requires) in
    let at = fact_at facts n c.index-facts-n.result within c.index-facts-n.is in
    let index : n ≡ index_of c.args.turn (length (map fact_in facts)) c.args.is_back =
    c.index_at-n.ensures ∙ ap (λ (k : ℕ). index_of c.args.turn k c.args.is_back) (sym (length-map facts fact_in)) in
    let noted : Notes items f old new false = subst (λ (b : Bool). Notes items f old new b) c.if-branch.false c.in_ok-note.ensures in
    λ start swept. finds_nothing items (map fact_in facts) start c.args.is_back c.args.turn c.args.grew old new f
    (subst (λ (k : ℕ). k < length (map fact_in facts)) index at.0)
    (subst (λ (k : ℕ). get_or (map fact_in facts) k f ≡ f) index at.1) swept noted
