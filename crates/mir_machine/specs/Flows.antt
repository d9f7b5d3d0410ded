-- How the text of a run flows to a sink: of what has been told the sink took so many bytes, and the rest waits.
use Rattle.std.specs.Prelude.{◌≡◌, ◌≤◌, ℕ, List, ◌++◌, length, take, drop, Option, Some, string_bytes}
use Rattle.mir_edge.specs.Told.{WhereTold}
use Rattle.mir_machine.specs.declared.trace_flow.TextFlow.{TextFlow}
use Rattle.mir_machine.specs.declared.error.RunError.{RunError}

-- what the sink took since the start are the first bytes of a text, and the others wait
abbrev pub Flows : Option (List ℕ) → Option (List ℕ) → List ℕ → TextFlow → Type 0
Flows start now text flow =
    (flow.sent ≤ length text) × (drop flow.sent text ≡ string_bytes flow.piece)
    × WhereTold start (λ taken. now ≡ Some (taken ++ take flow.sent text))

-- the sink took some first bytes of a text and no others: as many as a fault names, or some where memory was wanted
abbrev pub CutOff : Option (List ℕ) → Option (List ℕ) → List ℕ → RunError → Type 0
CutOff start now text (RunError.WriteFault written) =
    (written ≤ length text) × WhereTold start (λ taken. now ≡ Some (taken ++ take written text))
CutOff start now text RunError.Memory =
    WhereTold start (λ taken. (count : ℕ) × (count ≤ length text) × (now ≡ Some (taken ++ take count text)))

-- whatever the text so far: so much more of it flows
abbrev pub FlowsOn : Option (List ℕ) → Option (List ℕ) → TextFlow → TextFlow → List ℕ → Type 0
FlowsOn old new before after more =
    (start : Option (List ℕ)) (text : List ℕ) → Flows start old text before → Flows start new (text ++ more) after

-- whatever the text so far: it is cut off no later than after so much more
abbrev pub StopsIn : Option (List ℕ) → Option (List ℕ) → TextFlow → List ℕ → RunError → Type 0
StopsIn old new before more error =
    (start : Option (List ℕ)) (text : List ℕ) → Flows start old text before → CutOff start new (text ++ more) error
