-- What is open is no jump where it stands for a node, or where lines are open.
use Rattle.std.proofs.Common.{◌≡◌, ◌∙◌, ◌==◌, ℕ, Bool, true, false, List, [], ◌∷◌, Option, None, length, map, if◌then◌else◌, refl, sym, ap}
use Rattle.std.proofs.lemmas.Bool.{ne_eqb}
use Rattle.std.proofs.lemmas.List.{length-map, length-reverse, nil_from_length}
use Rattle.cfg_graph.specs.declared.terminator.Term.{Term}
use Rattle.lower_rules.specs.Build as build
use Rattle.lower_rules.specs.Build.{enters, jump_of}
use Rattle.lower_blocks.specs.Building.{line_of, rest_of}
use Rattle.lower_blocks.specs.declared.blocks.Open.{Open}

pub for_a_node : (o : Open) → (o.node.0 ≡ 0 → ⊥) → None ≡ jump_of (rest_of o)
for_a_node o some =
    ap (λ (b : Bool). if b then enters (rest_of o).lines o.term else None) (sym (ne_eqb o.node.0 0 some))

enters_none : (lines : List build.NodeLine) (term : Term) → (lines ≡ [] → ⊥) → None ≡ enters lines term
enters_none [] term some = absurd (some refl)
enters_none (l ∷ lines) term some = refl

either_way : (b : Bool) (o : Option ℕ) → None ≡ o → None ≡ (if b then o else None)
either_way true o is = is
either_way false o is = refl

pub behind_lines : (o : Open) → (o.lines ≡ [] → ⊥) → None ≡ jump_of (rest_of o)
behind_lines o some =
    either_way (o.node.0 == 0) (enters (rest_of o).lines o.term)
    (enters_none (rest_of o).lines o.term
    (λ none. some (nil_from_length o.lines
    (sym (length-reverse (map line_of o.lines) ∙ length-map o.lines line_of)
    ∙ ap (λ (ls : List build.NodeLine). length ls) none))))
