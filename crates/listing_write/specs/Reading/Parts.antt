-- Places, operands and ways out.
use Rattle.std.specs.Prelude.{ℕ, true, false, List, codes, Some, ℤ}
use Rattle.mir_base.specs.declared.int_kind.IntKind.{IntKind}
use Rattle.cfg_graph.specs.declared.place.Operand.{Operand}
use Rattle.cfg_graph.specs.declared.place.Place.{Place}
use Rattle.cfg_graph.specs.declared.place.Step.{Step}
use Rattle.cfg_graph.specs.declared.terminator.Unwind.{Unwind}
use Rattle.listing_write.specs.Reading.Rows.{many, in_row}
use Rattle.listing_write.specs.Reading.Words.{FoundInText, bind, or_else, chosen, as_, strip, said, number, signed}

abbrev pub part_from : ℕ × List ℕ → FoundInText Step
part_from q = chosen (strip (codes ":") q.1) (λ t. as_ (Step.Field q.0) (number t)) (Some (Step.Part q.0, q.1))

abbrev pub behind_dot : List ℕ → FoundInText Step
behind_dot t = chosen (strip (codes "*") t) (λ r. Some (Step.Inside, r)) (bind (number t) part_from)

abbrev pub index_from : ℕ × List ℕ → FoundInText Step
index_from f = bind (strip (codes "]") f.1) (λ r. Some (Step.Index f.0, r))

abbrev pub behind_bracket : List ℕ → FoundInText Step
behind_bracket t = bind (number t) index_from

abbrev pub step_read : List ℕ → FoundInText Step
step_read t = chosen (strip (codes ".") t) behind_dot (bind (strip (codes "[_") t) behind_bracket)

abbrev pub steps_from : ℕ × List ℕ → FoundInText Place
steps_from f = Some (record { local = f.0; steps = (many step_read f.1).0 }, (many step_read f.1).1)

-- behind the mark of a place
abbrev pub place_from : List ℕ → FoundInText Place
place_from t = bind (number t) steps_from

abbrev pub place_read : List ℕ → FoundInText Place
place_read t = bind (strip (codes "_") t) place_from

abbrev pub kind_read : List ℕ → FoundInText IntKind
kind_read t =
    or_else (said (codes "i32") IntKind.I32 t) (or_else (said (codes "i64") IntKind.I64 t)
    (or_else (said (codes "u32") IntKind.U32 t)
    (or_else (said (codes "u64") IntKind.U64 t) (said (codes "usize") IntKind.Usize t))))

abbrev pub constant_from : ℤ × List ℕ → FoundInText Operand
constant_from f = bind (strip (codes "_") f.1) (λ t. as_ (Operand.Number f.0) (kind_read t))

abbrev pub other_constant : List ℕ → FoundInText Operand
other_constant t =
    or_else (said (codes "true") (Operand.Truth true) t)
    (or_else (said (codes "false") (Operand.Truth false) t) (said (codes "()") Operand.Unit t))

abbrev pub constant_read : List ℕ → FoundInText Operand
constant_read t = or_else (bind (signed t) constant_from) (other_constant t)

abbrev pub operand_read : List ℕ → FoundInText Operand
operand_read t =
    chosen (strip (codes "copy ") t) (λ t. as_ Operand.Copied (place_read t))
    (chosen (strip (codes "move ") t) (λ t. as_ Operand.Moved (place_read t))
    (bind (strip (codes "const ") t) constant_read))

abbrev pub operands_read : List ℕ → FoundInText (List Operand)
operands_read = in_row operand_read

-- ways out
abbrev pub unwind_read : List ℕ → FoundInText Unwind
unwind_read t =
    or_else (as_ Unwind.Block (number t))
    (or_else (said (codes "resume") Unwind.Resume t) (said (codes "abort") Unwind.Abort t))

abbrev pub unwind_from : ℕ × List ℕ → FoundInText (ℕ × Unwind)
unwind_from f = bind (strip (codes " unwind ") f.1) (λ t. as_ (λ u. (f.0, u)) (unwind_read t))

abbrev pub ways_from : List ℕ → FoundInText (ℕ × Unwind)
ways_from t = bind (number t) unwind_from

abbrev pub ways_read : List ℕ → FoundInText (ℕ × Unwind)
ways_read t = bind (strip (codes " then ") t) ways_from
