-- Lemmas on what writes do to the bytes that a sink has taken.
use Rattle.std.proofs.Common.{◌≡◌, ℕ, ◌+◌, ◌-◌, List, ◌++◌, length, take, drop, Option, Some, ap, sym, ◌∙◌, append_assoc}
use Rattle.std.proofs.Math.Seq.{take-add}
use Rattle.std.proofs.lemmas.List.{take_rest}

-- a write of the rest of a text, after its first bytes were taken
pub taken-more : (after : Option (List ℕ)) (taken text : List ℕ) (at n : ℕ) →
    after ≡ Some ((taken ++ take at text) ++ take n (take (length text - at) (drop at text))) →
    after ≡ Some (taken ++ take (at + n) text)
taken-more after taken text at n e =
    e ∙ ap Some (append_assoc taken (take at text) _
    ∙ ap (λ l. taken ++ l) (ap (λ l. take at text ++ take n l) (take_rest text at) ∙ sym (take-add at n text)))
