-- What the words of the command line ask for.
use Rattle.std.specs.Prelude.{ℕ, ◌+◌, ◌*◌, ◌-◌, ◌≤◌, ◌&&◌, Bool, List, [], ◌∷◌, fold, length, map, nat_le, true, false, codes, if◌then◌else◌, Option, Some, None, option_and_then, option_map, ℤ, pos, ⊤}
use Rattle.std.specs.List.{list_all}
use Rattle.std.specs.Str.{bytes_eq}
use Rattle.clap.specs.Lexer.{usize_max}
use Rattle.clap.specs.Words.{App, Kinds, Row, Rule, Text, all_of, fault_of, first_of, matches_of, new_app, new_rule, with_rule}
use Rattle.mirdrop_program.specs.declared.request.Command.{Command}
use Rattle.mirdrop_program.specs.declared.request.Request.{Request}

-- the command line, as `clap` reads it: a required command, then numbers, and `--ticks` with a value anywhere
abbrev pub command_rule : Rule
command_rule = record (new_rule (codes "command")) { required = true }

abbrev pub numbers_rule : Rule
numbers_rule =
    record (new_rule (codes "numbers")) { range = Some (record { start_inclusive = 0; end_inclusive = usize_max }) }

abbrev pub ticks_rule : Rule
ticks_rule =
    record (new_rule (codes "ticks")) { long = Some (codes "ticks"); defaults = codes "10000" ∷ [] }

abbrev pub named : App
named = record (new_app (codes "mirdrop")) { top = record (new_app (codes "mirdrop")).top { no_binary_name = true } }

abbrev pub command_line : App
command_line = with_rule (with_rule (with_rule named command_rule) numbers_rule) ticks_rule

-- a number: one to ten decimal digits
abbrev pub is_digit : ℕ → Bool
is_digit byte = nat_le 48 byte && nat_le byte 57

abbrev pub digits_value : List ℕ → ℕ
digits_value = fold (λ value digit. 10 * value + (digit - 48)) 0

abbrev pub is_number : Text → Bool
is_number text = nat_le 1 (length text) && nat_le (length text) 10 && list_all is_digit text

abbrev pub is_up_to : ℕ → Text → Bool
is_up_to most text = is_number text && nat_le (digits_value text) most

abbrev pub command_of : Text → Option Command
command_of text =
    if bytes_eq text (codes "check") then Some Command.Check
    else (if bytes_eq text (codes "raw") then Some Command.Raw
    else (if bytes_eq text (codes "build") then Some Command.Build
    else (if bytes_eq text (codes "run") then Some Command.Run
    else (if bytes_eq text (codes "exec") then Some Command.Exec else None))))

-- how many numbers to be asked a command takes at most
abbrev pub most_numbers : Command → ℕ
most_numbers Command.Check = 0
most_numbers Command.Raw = 0
most_numbers Command.Build = 0
most_numbers Command.Run = 64
most_numbers Command.Exec = 64
most_numbers (Command.Soak functions) = 0

-- no numbers at all are an empty list of them
abbrev pub given : Option (List Text) → List Text
given None = []
given (Some texts) = texts

abbrev pub asked_number : Text → ℤ
asked_number text = pos (digits_value text)

-- the numbers to be asked, if each is one that an `i32` holds
abbrev pub numbers_of : List Text → Option (List ℤ)
numbers_of texts = if list_all (is_up_to 2147483647) texts then Some (map asked_number texts) else None

abbrev pub asks_of : Command → List Text → Option (List ℤ)
asks_of command texts = if nat_le (length texts) (most_numbers command) then numbers_of texts else None

abbrev pub ticks_of : Text → Option ℕ
ticks_of text = if is_up_to 1000000000 text then Some (digits_value text) else None

abbrev pub request_with : Command → Option (List ℤ) → Option ℕ → Option Request
request_with command asks ticks =
    option_and_then
    (λ asks. option_and_then (λ ticks. Some (record { command = command; asks = asks; ticks = ticks })) ticks) asks

-- a command that has no numbers to be asked
abbrev pub request_with_command : Option Command → Option ℕ → Option Request
request_with_command command ticks = option_and_then (λ command. request_with command (Some []) ticks) command

abbrev pub request_by : Command → List Text → Option Text → Option Request
request_by command numbers ticks =
    request_with command (asks_of command numbers) (option_and_then ticks_of ticks)

-- how many functions the program of `soak` is to have: from 1 to 1,500
abbrev pub HasFewFunctions : Command → Type 0
HasFewFunctions (Command.Soak functions) = (1 ≤ functions) × (functions ≤ 1500)
HasFewFunctions command = ⊤

abbrev pub count_of : Text → Option ℕ
count_of text = if is_up_to 1500 text && nat_le 1 (digits_value text) then Some (digits_value text) else None

-- `soak` takes exactly this one number
abbrev pub functions_of : List Text → Option ℕ
functions_of [] = None
functions_of (text ∷ []) = count_of text
functions_of (text ∷ other ∷ texts) = None

abbrev pub soak_by : List Text → Option Text → Option Request
soak_by numbers ticks =
    request_with_command (option_map Command.Soak (functions_of numbers)) (option_and_then ticks_of ticks)

-- the command that a word names, with its numbers and the text of the ticks
abbrev pub request_named : List Text → Option Text → Text → Option Request
request_named numbers ticks word =
    if bytes_eq word (codes "soak") then soak_by numbers ticks
    else option_and_then (λ command. request_by command numbers ticks) (command_of word)

-- what was matched, read
abbrev pub request_in : List Row → Option Request
request_in rows =
    option_and_then (request_named (given (all_of (codes "numbers") rows)) (first_of (codes "ticks") rows))
    (first_of (codes "command") rows)

-- `clap` has nothing to refuse
abbrev pub has_none : Kinds → Bool
has_none [] = true
has_none (kind ∷ kinds) = false

abbrev pub is_taken : List Text → Bool
is_taken words = has_none (fault_of command_line words)

-- what the words ask for; nothing where `clap` refuses them, or where a value of them breaks a limit
abbrev pub request_of : List Text → Option Request
request_of words = if is_taken words then request_in (matches_of command_line words) else None
