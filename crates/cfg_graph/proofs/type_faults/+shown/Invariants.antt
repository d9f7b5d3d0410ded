use Rattle.std.proofs.Common.{◌≡◌, ◌+◌, ◌*◌, drop}
use Rattle.std.specs.List.{list_any, list_all}
use Rattle.mir_ty.specs.declared.adt.Variant.{Variant}
use Rattle.mir_ty.specs.Known.{known_by}
use Rattle.cfg_graph.specs.WellFormed.Questions.{rule_for, shown_from}
use Rattle.cfg_graph.proofs.type_faults.+shown.Given as goal

abbrev pub decreases-is_shown : goal.decreases-is_shown
decreases-is_shown l = 8 * l.rounds

abbrev pub decreases-follows : goal.decreases-follows
decreases-follows l = 8 * l.rounds + 4

abbrev pub decreases-any_of : goal.decreases-any_of
decreases-any_of l = 8 * l.rounds + 1

abbrev pub decreases-all_in : goal.decreases-all_in
decreases-all_in l = 8 * l.rounds + 2

abbrev pub decreases-misplaces : goal.decreases-misplaces
decreases-misplaces l = 8 * l.rounds + 2

abbrev pub decreases-any_held : goal.decreases-any_held
decreases-any_held l = 8 * l.rounds + 3

abbrev pub decreases-any_field : goal.decreases-any_field
decreases-any_field l = 8 * l.rounds + 2

-- what is asked of all is what is asked of the rest
abbrev pub invariant-any_of-loop-id : goal.invariant-any_of-loop-id
invariant-any_of-loop-id l =
    list_any (shown_from (known_by l.known) l.items.types (rule_for l.items l.question) l.rounds) l.ids
    ≡ list_any (shown_from (known_by l.known) l.items.types (rule_for l.items l.question) l.rounds) (drop l.id-index l.ids)

abbrev pub invariant-all_of-loop-id : goal.invariant-all_of-loop-id
invariant-all_of-loop-id l =
    list_all (shown_from (known_by l.known) l.items.types (rule_for l.items l.question) l.rounds) l.ids
    ≡ list_all (shown_from (known_by l.known) l.items.types (rule_for l.items l.question) l.rounds) (drop l.id-index l.ids)

abbrev pub invariant-all_fields-loop-variant : goal.invariant-all_fields-loop-variant
invariant-all_fields-loop-variant l =
    list_all (λ (variant : Variant). list_all (shown_from (known_by l.known) l.items.types (rule_for l.items l.question) l.rounds) variant.fields) l.variants
    ≡ list_all (λ (variant : Variant). list_all (shown_from (known_by l.known) l.items.types (rule_for l.items l.question) l.rounds) variant.fields) (drop l.variant-index l.variants)

abbrev pub decreases-all_of : goal.decreases-all_of
decreases-all_of l = 8 * l.rounds + 1

abbrev pub decreases-all_held : goal.decreases-all_held
decreases-all_held l = 8 * l.rounds + 3

abbrev pub decreases-all_fields : goal.decreases-all_fields
decreases-all_fields l = 8 * l.rounds + 2

abbrev pub invariant-any_field-loop-variant : goal.invariant-any_field-loop-variant
invariant-any_field-loop-variant l =
    list_any (λ (variant : Variant). list_any (shown_from (known_by l.known) l.items.types (rule_for l.items l.question) l.rounds) variant.fields) l.variants
    ≡ list_any (λ (variant : Variant). list_any (shown_from (known_by l.known) l.items.types (rule_for l.items l.question) l.rounds) variant.fields) (drop l.variant-index l.variants)
