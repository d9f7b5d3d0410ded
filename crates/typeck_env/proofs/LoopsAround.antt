-- The loop that a jump leaves, among loops of which the innermost is the last.
use Rattle.std.proofs.Common.{◌≡◌, ℕ, suc, ◌<◌, Bool, true, false, cond, List, [], ◌∷◌, length, map, reverse, take, get_or, Option, Some, None, refl, ap, ◌∙◌}
use Rattle.std.proofs.Math.Seq.{take-suc}
use Rattle.std.proofs.lemmas.List.{map_push, reverse-append}
use Rattle.mir_ty.specs.declared.ty.TyId.{TyId}
use Rattle.src_ast.specs.Syntax.{Word}
use Rattle.typeck_env.specs.Scope.{around_of, is_left}
use Rattle.typeck_env.specs.declared.loops.LoopAround.{LoopAround}
use Rattle.typing_rules.specs.Scope.{LabelledLoop, jumps_to}

abbrev around_with : Option Word → ℕ → Bool → Option TyId → LabelledLoop
around_with label loop has_value expected = record { label = label; loop = loop; has_value = has_value; expected = expected }

here : (own : Option Word) (loop : ℕ) (has_value : Bool) (expected : Option TyId) (as_ : List LabelledLoop) (label : Option Word) → is_left own label ≡ true →
    jumps_to (around_with own loop has_value expected ∷ as_) label ≡ Some (around_with own loop has_value expected)
here own loop has_value expected as_ None is = refl
here None loop has_value expected as_ (Some name) is = absurd (cc)
here (Some own) loop has_value expected as_ (Some name) is =
    ap (λ z. cond z (Some (around_with (Some own) loop has_value expected)) (jumps_to as_ (Some name))) is

beyond : (own : Option Word) (loop : ℕ) (has_value : Bool) (expected : Option TyId) (as_ : List LabelledLoop) (label : Option Word) → is_left own label ≡ false →
    jumps_to (around_with own loop has_value expected ∷ as_) label ≡ jumps_to as_ label
beyond own loop has_value expected as_ None is = absurd (cc)
beyond None loop has_value expected as_ (Some name) is = refl
beyond (Some own) loop has_value expected as_ (Some name) is =
    ap (λ z. cond z (Some (around_with (Some own) loop has_value expected)) (jumps_to as_ (Some name))) is

module _ (loops : List LoopAround) (d : LoopAround) (label : Option Word) where
  -- what a jump leaves of the first loops
  abbrev pub of_first : ℕ → Option LabelledLoop
  of_first n = jumps_to (reverse (map around_of (take n loops))) label

  parts : (n : ℕ) → n < length loops → reverse (map around_of (take (suc n) loops)) ≡ around_of (get_or loops n d) ∷ reverse (map around_of (take n loops))
  parts n h =
      ap (λ xs. reverse (map around_of xs)) (take-suc loops n d h) ∙ ap reverse (map_push around_of (take n loops) (get_or loops n d))
      ∙ reverse-append (map around_of (take n loops)) (around_of (get_or loops n d) ∷ [])

  pub left_here : (n : ℕ) → n < length loops → is_left (get_or loops n d).label label ≡ true → of_first (suc n) ≡ Some (around_of (get_or loops n d))
  left_here n h is =
      ap (λ as_. jumps_to as_ label) (parts n h)
      ∙ here (get_or loops n d).label (get_or loops n d).id.0 (get_or loops n d).has_value (get_or loops n d).expected (reverse (map around_of (take n loops))) label is

  pub left_beyond : (n : ℕ) → n < length loops → is_left (get_or loops n d).label label ≡ false → of_first (suc n) ≡ of_first n
  left_beyond n h is =
      ap (λ as_. jumps_to as_ label) (parts n h)
      ∙ beyond (get_or loops n d).label (get_or loops n d).id.0 (get_or loops n d).has_value (get_or loops n d).expected (reverse (map around_of (take n loops))) label is
