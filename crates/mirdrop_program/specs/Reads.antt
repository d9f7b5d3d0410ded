-- What `clap` answers to words.
use Rattle.std.specs.Prelude.{◌≡◌, ◌≢◌, true, false, List, Result, Ok, Err, ⊤}
use Rattle.clap.specs.Words.{Text, found_of, matches_of, rows_of}
use Rattle.clap.specs.declared.parser.matches.ArgMatches.{ArgMatches}
use Rattle.clap.specs.declared.error.kind.ErrorKind.{ErrorKind}
use Rattle.mirdrop_program.specs.Words.{command_line, is_taken}
use Rattle.mirdrop_program.specs.declared.request.WordsError.{WordsError}

-- what it finds in them, or that it refuses them
abbrev pub Parses : List Text → Result ArgMatches WordsError → Type 0
Parses words (Ok found) =
    (is_taken words ≡ true) × (rows_of (found_of found) ≡ matches_of command_line words)
Parses words (Err WordsError.Refused) = is_taken words ≡ false
Parses words (Err WordsError.Memory) = ⊤

abbrev pub Refuses : ErrorKind → WordsError → Type 0
Refuses kind WordsError.Refused = kind ≢ ErrorKind.OutOfMemory
Refuses kind WordsError.Memory = kind ≡ ErrorKind.OutOfMemory
