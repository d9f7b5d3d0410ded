-- Places and operands, read as they are written.
use Rattle.std.proofs.Common.{◌≡◌, ℕ, suc, ◌<◌, Bool, true, false, not, ◌||◌, nat_eq, List, [], ◌∷◌, ◌++◌, flat_map, length, codes, Option, Some, None, All, decimal, ℤ, refl, ap, sym, subst, ◌∙◌, arith, append_assoc, map-id, eqb-true}
use Rattle.std.specs.Fmt.{signed_decimal}
use Rattle.std.proofs.lemmas.Bool.{false≢true}
use Rattle.mir_base.specs.declared.int_kind.IntKind.{IntKind}
use Rattle.cfg_graph.specs.declared.place.Operand.{Operand}
use Rattle.cfg_graph.specs.declared.place.Place.{Place}
use Rattle.cfg_graph.specs.declared.place.Step.{Step}
use Rattle.cfg_graph.specs.declared.terminator.Unwind.{Unwind}
use Rattle.listing_write.specs.Fields.{Fits, StepFits, PlaceFits, OperandFits, UnwindFits, WaysFit}
use Rattle.listing_write.specs.Parts.{step_text, place_text, operand_text, operands_text, unwind_text, ways_text}
use Rattle.listing_write.specs.Types.{kind_text}
use Rattle.listing_write.specs.Reading.Parts.{part_from, behind_dot, index_from, step_read, steps_from, place_read, kind_read, constant_from, other_constant, operand_read, operands_read, unwind_from, unwind_read, ways_read}
use Rattle.listing_write.proofs.Reading.Basics.{FoundInText, Every, bind, or_else, chosen, as_, said, strip, stops, is_digit, number, number_reads, signed, signed_reads, no_decimal, behind3}
use Rattle.listing_write.proofs.Reading.Rows.{many, many_reads, flat_counted}
use Rattle.listing_write.proofs.Reading.Types.{in_row_reads}

pub every_from_all : {X : Type 0} (P : X → Type 0) (xs : List X) → All P xs → Every P xs
every_from_all P [] h = tt
every_from_all P (x ∷ xs) h = (h 0 x (omega arith), every_from_all P xs (λ k d lt. h (suc k) d (omega arith)))

pub number_of : (n : ℕ) (r : List ℕ) → Fits n → stops is_digit r ≡ true → number (decimal n ++ r) ≡ Some (n, r)
number_of n r small s = number_reads n r small s

abbrev pub goes_on : ℕ → Bool
goes_on b = is_digit b || nat_eq b 58

no_colon : (r : List ℕ) → stops goes_on r ≡ true → strip (codes ":") r ≡ None
no_colon [] h = refl
no_colon (b ∷ bs) h = by (nat_eq 58 b) refl
  where
    by : (t : Bool) → nat_eq 58 b ≡ t → strip (codes ":") (b ∷ bs) ≡ None
    by true e = absurd (false≢true (subst (λ (c : ℕ). not (goes_on c) ≡ true) (sym (eqb-true 58 b e)) h))
    by false e = rw e refl

ends_digits : (r : List ℕ) → stops goes_on r ≡ true → stops is_digit r ≡ true
ends_digits [] h = refl
ends_digits (b ∷ bs) h = by (is_digit b) refl
  where
    by : (t : Bool) → is_digit b ≡ t → not (is_digit b) ≡ true
    by true e = absurd (false≢true (subst (λ (t : Bool). not (t || nat_eq b 58) ≡ true) e h))
    by false e = rw e refl

dotted : (t : List ℕ) (f : Step × List ℕ) → behind_dot t ≡ Some f → step_read (codes "." ++ t) ≡ Some f
dotted t f h = h

numbered : (n : ℕ) (r : List ℕ) (f : Step × List ℕ) → Fits n → stops is_digit r ≡ true → part_from (n, r) ≡ Some f → behind_dot (decimal n ++ r) ≡ Some f
numbered n r f small s h =
    ap (λ (o : Option (List ℕ)). chosen o (λ r. Some (Step.Inside, r)) (bind (number (decimal n ++ r)) part_from)) (no_decimal 42 [] n r (omega arith) refl)
    ∙ ap (λ (f : FoundInText ℕ). bind f part_from) (number_of n r small s) ∙ h

step_reads : (step : Step) → StepFits step → (r : List ℕ) → stops goes_on r ≡ true → step_read (step_text step ++ r) ≡ Some (step, r)
step_reads (Step.Part n) fits r e =
    dotted (decimal n ++ r) (Step.Part n, r) (numbered n r (Step.Part n, r) fits (ends_digits r e)
    (ap (λ (o : Option (List ℕ)). chosen o (λ t. as_ (Step.Field n) (number t)) (Some (Step.Part n, r))) (no_colon r e)))
step_reads (Step.Field variant part) fits r e =
    let rest : List ℕ = codes ":" ++ (decimal part ++ r) in
    ap step_read (ap (λ (w : List ℕ). codes "." ++ w) (behind3 (decimal variant) (codes ":") (decimal part) r))
    ∙ dotted (decimal variant ++ rest) (Step.Field variant part, r) (numbered variant rest (Step.Field variant part, r) fits.0 refl
    (ap (as_ (Step.Field variant)) (number_of part r fits.1 (ends_digits r e))))
step_reads Step.Inside fits r e = refl
step_reads (Step.Index local) fits r e =
    ap (λ (t : List ℕ). bind (number t) index_from) (append_assoc (decimal local) (codes "]") r)
    ∙ ap (λ (f : FoundInText ℕ). bind f index_from) (number_of local (codes "]" ++ r) fits refl)

-- what stands behind a place: nothing that would go on with it
pub record IsPlaceEnd (r : List ℕ) : Type 0 where
  pub over : stops goes_on r ≡ true
  pub none : step_read r ≡ None

steps_next : (step : Step) (r : List ℕ) → stops goes_on (step_text step ++ r) ≡ true
steps_next (Step.Part n) r = refl
steps_next (Step.Field variant part) r = refl
steps_next Step.Inside r = refl
steps_next (Step.Index local) r = refl

step_some : (step : Step) → 0 < length (step_text step)
step_some (Step.Part n) = omega arith
step_some (Step.Field variant part) = omega arith
step_some Step.Inside = omega arith
step_some (Step.Index local) = omega arith

steps_end : (steps : List Step) (r : List ℕ) → stops goes_on r ≡ true → stops goes_on (flat_map step_text steps ++ r) ≡ true
steps_end [] r e = e
steps_end (step ∷ steps) r e = ap (stops goes_on) (append_assoc (step_text step) (flat_map step_text steps) r) ∙ steps_next step (flat_map step_text steps ++ r)

steps_read : (steps : List Step) → Every StepFits steps → (r : List ℕ) → IsPlaceEnd r → many step_read (flat_map step_text steps ++ r) ≡ (steps, r)
steps_read steps fits r e =
    ap (λ (w : List ℕ). many step_read (w ++ r)) (flat_counted step_text 0 steps)
    ∙ many_reads step_read (λ (k : ℕ). step_text) (λ s. s) StepFits (λ r. stops goes_on r ≡ true) (λ n. step_reads) (λ n step fits r. steps_next step r) (λ n. step_some) 0 steps r fits e.over e.none
    ∙ ap (λ (xs : List Step). (xs, r)) (map-id steps)

pub place_reads : (place : Place) → PlaceFits place → (r : List ℕ) → IsPlaceEnd r → place_read (place_text place ++ r) ≡ Some (place, r)
place_reads place fits r e =
    let rest : List ℕ = flat_map step_text place.steps ++ r in
    ap (λ (t : List ℕ). bind (number t) steps_from) (append_assoc (decimal place.local) (flat_map step_text place.steps) r)
    ∙ ap (λ (f : FoundInText ℕ). bind f steps_from) (number_of place.local rest fits.0 (ends_digits rest (steps_end place.steps r e.over)))
    ∙ ap (λ (q : List Step × List ℕ). Some (record { local = place.local; steps = q.0 }, q.1)) (steps_read place.steps (every_from_all StepFits place.steps fits.1) r e)

-- operands
kind_reads : (kind : IntKind) (r : List ℕ) → kind_read (kind_text kind ++ r) ≡ Some (kind, r)
kind_reads IntKind.I32 r = refl
kind_reads IntKind.I64 r = refl
kind_reads IntKind.U32 r = refl
kind_reads IntKind.U64 r = refl
kind_reads IntKind.Usize r = refl

pub operand_reads : (operand : Operand) → OperandFits operand → (r : List ℕ) → IsPlaceEnd r → operand_read (operand_text operand ++ r) ≡ Some (operand, r)
operand_reads (Operand.Copied place) fits r e = ap (as_ Operand.Copied) (place_reads place fits r e)
operand_reads (Operand.Moved place) fits r e = ap (as_ Operand.Moved) (place_reads place fits r e)
operand_reads (Operand.Number value kind) fits r e =
    let rest : List ℕ = codes "_" ++ (kind_text kind ++ r) in
    ap (λ (t : List ℕ). or_else (bind (signed t) constant_from) (other_constant t)) (behind3 (signed_decimal value) (codes "_") (kind_text kind) r)
    ∙ ap (λ (f : FoundInText ℤ). or_else (bind f constant_from) (other_constant (signed_decimal value ++ rest))) (signed_reads value rest fits refl)
    ∙ ap (λ (f : FoundInText IntKind). or_else (as_ (Operand.Number value) f) (other_constant (signed_decimal value ++ rest))) (kind_reads kind r)
operand_reads (Operand.Truth true) fits r e = refl
operand_reads (Operand.Truth false) fits r e = refl
operand_reads Operand.Unit fits r e = refl

pub operands_reads : (operands : List Operand) → All OperandFits operands → (r : List ℕ) → operands_read (operands_text operands ++ r) ≡ Some (operands, r)
operands_reads operands fits r =
    in_row_reads operand_read operand_text (λ o. o) OperandFits IsPlaceEnd operand_reads (λ t. record { over = refl; none = refl }) (λ t. record { over = refl; none = refl })
    (λ t. refl) operands (every_from_all OperandFits operands fits) r
    ∙ ap (λ (xs : List Operand). Some (xs, r)) (map-id operands)

-- ways out
pub unwind_reads : (unwind : Unwind) → UnwindFits unwind → (r : List ℕ) → stops is_digit r ≡ true → unwind_read (unwind_text unwind ++ r) ≡ Some (unwind, r)
unwind_reads (Unwind.Block block) fits r e =
    ap (λ (f : FoundInText ℕ). or_else (as_ Unwind.Block f) (or_else (said (codes "resume") Unwind.Resume (decimal block ++ r)) (said (codes "abort") Unwind.Abort (decimal block ++ r))))
    (number_of block r fits e)
unwind_reads Unwind.Resume fits r e = refl
unwind_reads Unwind.Abort fits r e = refl

pub ways_reads : (next : ℕ) (unwind : Unwind) → WaysFit next unwind → (r : List ℕ) → stops is_digit r ≡ true → ways_read (ways_text next unwind ++ r) ≡ Some ((next, unwind), r)
ways_reads next unwind fits r e =
    ap (λ (t : List ℕ). bind (number t) unwind_from) (behind3 (decimal next) (codes " unwind ") (unwind_text unwind) r)
    ∙ ap (λ (f : FoundInText ℕ). bind f unwind_from) (number_of next (codes " unwind " ++ (unwind_text unwind ++ r)) fits.0 refl)
    ∙ ap (as_ (λ (u : Unwind). (next, u))) (unwind_reads unwind fits.1 r e)
