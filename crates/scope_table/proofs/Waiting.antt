-- Destinations that are pending in the scope of a node.
use Rattle.std.proofs.Common.{◌≡◌, ◌∙◌, Bool, true, false, [], ◌∷◌, map, refl, sym, ap, if◌then◌else◌}
use Rattle.std.specs.Prelude.{◌≢◌}
use Rattle.std.proofs.lemmas.Bool.{eq-eqb, ne_eqb}
use Rattle.mir_base.specs.declared.place_in_text.NodeId.{NodeId}
use Rattle.scope_table.specs.Law.{head_of, in_scope_of, waiting, IsInnermost, IsOr, IsNearest}
use Rattle.scope_table.specs.Table.{entry_in, made_if_value, pending_in, if_true}
use Rattle.src_meaning.specs.Forms as forms
use Rattle.src_meaning.specs.Forms.{Destination, Into, coerced, LoopsAndGuards, in_loop, loop_destination, Meaning, entry_of, bound_entry, site_of_key, moved, all_moved, pending_if, complete, operand, operands, acts, deliver, scrutinised, touched, arms_in_order, statements, tail_of, is_never, place_of, site_of}
use Rattle.src_meaning.specs.Scopes.{Entry, Scope, Scopes, innermost, nearest_from, nearest_temporary, with_pending}
use Rattle.typed_tree.specs.Tree.{Node}

pub innermost_is : (change : Scope → Scope) (i : NodeId) (S : Scopes) → IsInnermost i (map head_of S) → innermost change S ≡ in_scope_of i.0 change S
innermost_is change i [] h = refl
innermost_is change i (s ∷ S) h = sym (ap (λ (b : Bool). if b then change s ∷ S else s ∷ in_scope_of i.0 change S) (eq-eqb s.node i.0 h))

pub nearest_is : (change : Scope → Scope) (t : NodeId) (S : Scopes) → IsNearest t (map head_of S) → nearest_temporary change S ≡ in_scope_of t.0 change S
nearest_is change t [] h = refl
nearest_is change t (s ∷ S) h = by s.for_temporaries h (nearest_is change t S)
  where
    by : (b : Bool) → IsOr b (s.node ≡ t.0) ((s.node ≢ t.0) × IsNearest t (map head_of S)) → (IsNearest t (map head_of S) → nearest_temporary change S ≡ in_scope_of t.0 change S) → nearest_from b change s S (nearest_temporary change S) ≡ in_scope_of t.0 change (s ∷ S)
    by true h next = sym (ap (λ (b : Bool). if b then change s ∷ S else s ∷ in_scope_of t.0 change S) (eq-eqb s.node t.0 h))
    by false h next =
        ap (λ (rest : Scopes). s ∷ rest) (next h.1)
        ∙ sym (ap (λ (b : Bool). if b then change s ∷ S else s ∷ in_scope_of t.0 change S) (ne_eqb s.node t.0 h.0))

pub waits : (b : Bool) (scope : NodeId) (e : Entry) (S changed : Scopes) → changed ≡ in_scope_of scope.0 (with_pending e) S → (in_that : (Scope → Scope) → Scopes → Scopes) → changed ≡ in_that (with_pending e) S → forms.changed_if b (in_that (with_pending e)) S ≡ waiting (if_true b scope) e S
waits true scope e S changed is in_that same = sym same ∙ is
waits false scope e S changed is in_that same = refl

pub entry_either : (b : Bool) (scope : NodeId) (n : Node) → (made_if_value b (pending_in scope)).entry ≡ (made_if_value b (entry_in scope n)).entry
entry_either true scope n = refl
entry_either false scope n = refl
