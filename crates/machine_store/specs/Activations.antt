-- The activations of the bodies that run or wait, as the machine holds them.
use Rattle.std.specs.Prelude.{ℕ, List, [], ◌∷◌}
use Rattle.std.specs.Option.{option_map_or}
use Rattle.machine_store.specs.declared.frame.StoredLocal.{StoredLocal}
use Rattle.machine_store.specs.declared.store.Store.{Store}
use Rattle.machine_store.specs.Frames.{activation_of}
use Rattle.store_model.specs.Concrete.State.{Activation, cell, at_depth}
use Rattle.store_model.specs.Values.Datum.{Datum, Gone}

-- activations, the youngest first, on top of older ones
abbrev pub on_top_of : List (ℕ × List StoredLocal) → List Activation → List Activation
on_top_of [] older = older
on_top_of (frame ∷ frames) older = on_top_of frames (activation_of frame ∷ older)

-- the activations of a store, which holds the oldest first
abbrev pub activations_of : Store → List Activation
activations_of store = on_top_of store.frames []

-- what a local of the activation of a depth holds
abbrev pub root_in : ℕ → ℕ → List Activation → Datum
root_in depth key activations = option_map_or (λ a. cell key a.cells) (at_depth depth activations) Gone
