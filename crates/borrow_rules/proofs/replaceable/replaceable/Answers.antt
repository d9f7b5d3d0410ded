use Rattle.std.proofs.Common.{◌≡◌, ℕ, Bool, false, List, length, map, rules, sym, subst}
use Rattle.std.proofs.lemmas.List.{length-map}
use Rattle.typed_tree.specs.Tree.{ProgramTree}
use Rattle.typed_tree.specs.View.{program_of}
use Rattle.typing_rules.specs.Replaced.{Facts, BodyParameter, all_facts}
use Rattle.borrow_rules.specs.Found.{AreSettled, IsSound, Swept}
use Rattle.borrow_rules.specs.View.{fact_in, params_in}
use Rattle.borrow_rules.specs.declared.facts.ParameterFact.{ParameterFact}
use Rattle.borrow_rules.proofs.Least.{found_all}
use Rattle.borrow_rules.proofs.Noting.{ends}
use Rattle.borrow_rules.proofs.replaceable.replaceable.Goals as goal

pub returns-then-not-branch : goal.returns-then-not-branch
returns-then-not-branch c =
    let p : ProgramTree = program_of c.args.typed.now in
    let facts : List ParameterFact = c.as_slice-facts.result.now in
    let start : List BodyParameter = params_in c.sweeps.found.keys in
    let found : List BodyParameter = params_in c.sweep.new.found.keys in
    let listed : map fact_in facts ≡ all_facts p.bodies = search rules in
    let swept : Swept p.items (map fact_in facts) start c.sweeps.is_back (length facts) false found =
    subst (λ (grew : Bool). Swept p.items (map fact_in facts) start c.sweeps.is_back (length facts) grew found) c.if-not-branch.true c.in_ok-sweep.ensures in
    let whole : Swept p.items (map fact_in facts) start c.sweeps.is_back (length (map fact_in facts)) false found =
    subst (λ (k : ℕ). Swept p.items (map fact_in facts) start c.sweeps.is_back k false found) (sym (length-map facts fact_in)) swept in
    found_all p found
    (subst (λ (fs : List Facts). IsSound p.items fs found) listed swept.sound)
    (subst (λ (fs : List Facts). AreSettled false p.items fs found) listed (ends p.items (map fact_in facts) start c.sweeps.is_back found whole))
