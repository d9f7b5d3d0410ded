-- What holds anyway holds where there is an error.
use Rattle.std.proofs.Common.{Result, Ok, Err, OnErr}

pub always : {T E P : Type 0} (r : Result T E) → P → OnErr r P
always (Ok t) p = tt
always (Err e) p = p
