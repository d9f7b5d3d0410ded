-- What is asked of the program: one word; or `trace`, and what is asked of a run.
use Rattle.std.specs.Prelude.{ℕ, List, [], ◌∷◌, codes, Option, Some, None, if◌then◌else◌}
use Rattle.std.specs.Str.{bytes_eq}
use Rattle.mirdrop_program.specs.Words.{request_of}
use Rattle.mirdrop_program.specs.declared.request.Request.{Request}
use Rattle.look_program.specs.declared.look.Look.{Look}

abbrev pub look_of : List (List ℕ) → Option Look
look_of (word ∷ []) =
    if bytes_eq word (codes "explain") then Some Look.Explain
    else (if bytes_eq word (codes "dot") then Some Look.Dot
    else (if bytes_eq word (codes "dot-built") then Some Look.Built else None))
look_of words = None

-- the words behind `trace` are read as those behind `run` of `mirdrop`
abbrev pub run_words : List (List ℕ) → List (List ℕ)
run_words words = codes "run" ∷ words

abbrev pub trace_of : List (List ℕ) → Option Request
trace_of words = request_of (run_words words)
