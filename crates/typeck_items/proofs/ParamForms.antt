-- Parameters by their forms.
use Rattle.std.proofs.Common.{◌≡◌, Bool, true, false, if◌then◌else◌, refl, ap, sym, ◌∙◌}
use Rattle.src_tree.specs.declared.node.SyntaxNode.{SyntaxNode}
use Rattle.src_ast.specs.Seen.{syn_of}
use Rattle.src_ast.specs.Sorts.{param_part}
use Rattle.src_ast.specs.Syntax.{ByValue, ByShared, ByUnique, Syn, syn, shape_of, Shape, AParam, SelfParam, Syns, no_syn, a_syn}
use Rattle.typing_rules.specs.Program.{behind_self, is_by_reference, takes_unique}
use Rattle.typeck_items.specs.Forms.{is_self_by, is_unique_by, reference_by}

abbrev Asked : Type 0
Asked = Bool × (Bool × Syns)

abbrev asked : Syn → Syns → Asked
asked x rest = (is_by_reference x, (takes_unique (a_syn x rest), behind_self (a_syn x rest)))

abbrev asked_by : Syn → Shape → Syns → Asked
asked_by x form rest =
    (reference_by (param_part form), (is_unique_by (param_part form), if is_self_by (param_part form) then rest else a_syn x rest))

as_asked : (x : Syn) (rest : Syns) → asked x rest ≡ asked_by x (shape_of x) rest
as_asked (syn at (AParam (SelfParam ByValue))) rest = refl
as_asked (syn at (AParam (SelfParam ByShared))) rest = refl
as_asked (syn at (AParam (SelfParam ByUnique))) rest = refl
as_asked (syn at _) rest = refl

pub reference_seen : (n : SyntaxNode) → is_by_reference (syn_of n) ≡ reference_by (param_part (shape_of (syn_of n)))
reference_seen n = ap (λ (p : Asked). p.0) (as_asked (syn_of n) no_syn)

pub unique_seen : (x : Syn) (rest : Syns) → takes_unique (a_syn x rest) ≡ is_unique_by (param_part (shape_of x))
unique_seen x rest = ap (λ (p : Asked). p.1.0) (as_asked x rest)

pub behind_seen : (x : Syn) (rest : Syns) → behind_self (a_syn x rest) ≡ (if is_self_by (param_part (shape_of x)) then rest else a_syn x rest)
behind_seen x rest = ap (λ (p : Asked). p.1.1) (as_asked x rest)
