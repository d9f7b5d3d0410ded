-- The last of a list that passes a test, as it is looked for from the first on.
use Rattle.std.proofs.Common.{◌≡◌, Some, None, refl}
use Rattle.std.specs.Prelude.{Option}
use Rattle.std.specs.Option.{option_or}

-- one that passes takes the place of what was found before
pub found_new : {X : Type 0} (later : Option X) (x : X) (found all : Option X) →
    option_or (option_or later (Some x)) found ≡ all → option_or later (Some x) ≡ all
found_new None x found all so_far = so_far
found_new (Some y) x found all so_far = so_far

-- one that does not leaves it
pub found_old : {X : Type 0} (later found all : Option X) →
    option_or (option_or later None) found ≡ all → option_or later found ≡ all
found_old None found all so_far = so_far
found_old (Some y) found all so_far = so_far
