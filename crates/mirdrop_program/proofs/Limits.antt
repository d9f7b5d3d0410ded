-- No request has more ticks or functions than the limits.
use Rattle.std.proofs.Common.{◌≡◌, ◌≤◌, ℕ, Bool, true, false, List, [], ◌∷◌, Option, Some, None, subst, refl, if◌then◌else◌, leb-true, codes}
use Rattle.std.specs.Str.{bytes_eq}
use Rattle.std.specs.Prelude.{option_and_then, option_map, nat_le, ℤ, ◌&&◌}
use Rattle.std.proofs.lemmas.Option.{none-some, same_Some}
use Rattle.clap.specs.Words.{Row, Text, all_of, first_of}
use Rattle.mirdrop_program.specs.Words.{HasFewFunctions, asks_of, command_of, digits_value, functions_of, given, is_number, request_by, request_in, request_named, request_with, soak_by, ticks_of}
use Rattle.mirdrop_program.specs.declared.request.Command.{Command}
use Rattle.mirdrop_program.specs.declared.request.Request.{Request}

abbrev HasFew : Request → Type 0
HasFew request = request.ticks ≤ 1000000000

-- what a step of several gives
from_some : {A B : Type 0} (P : B → Type 0) (o : Option A) (next : A → Option B) → ((a : A) (b : B) → o ≡ Some a → next a ≡ Some b → P b) →
    (b : B) → option_and_then next o ≡ Some b → P b
from_some P None next each b is = absurd (none-some b is)
from_some P (Some a) next each b is = each a b refl is

ticks_in : (numbered few : Bool) (value t : ℕ) → (few ≡ true → value ≤ 1000000000) → (if numbered && few then Some value else None) ≡ Some t → t ≤ 1000000000
ticks_in false few value t bound is = absurd (none-some t is)
ticks_in true false value t bound is = absurd (none-some t is)
ticks_in true true value t bound is = subst (λ (n : ℕ). n ≤ 1000000000) (same_Some value t is) (bound refl)

few_ticks : (text : Text) (t : ℕ) → ticks_of text ≡ Some t → t ≤ 1000000000
few_ticks text t is = ticks_in (is_number text) (nat_le (digits_value text) 1000000000) (digits_value text) t (leb-true (digits_value text) 1000000000) is

abbrev made : Command → List ℤ → ℕ → Request
made command asks ticks = record { command = command; asks = asks; ticks = ticks }

with_few : (command : Command) (asks : Option (List ℤ)) (text : Option Text) (r : Request) → request_with command asks (option_and_then ticks_of text) ≡ Some r → HasFew r
with_few command asks text r is =
    from_some HasFew asks (λ asks. option_and_then (λ ticks. Some (made command asks ticks)) (option_and_then ticks_of text))
    (λ asks r e next.
    from_some HasFew (option_and_then ticks_of text) (λ ticks. Some (made command asks ticks))
    (λ t r given is.
    subst HasFew (same_Some (made command asks t) r is)
    (from_some (λ (t : ℕ). t ≤ 1000000000) text ticks_of (λ text t e is. few_ticks text t is) t given))
    r next)
    r is

-- what one of two gives
either : (P : Request → Type 0) (first : Bool) (one other : Option Request) (r : Request) →
    (one ≡ Some r → P r) → (other ≡ Some r → P r) → (if first then one else other) ≡ Some r → P r
either P true one other r left right is = left is
either P false one other r left right is = right is

-- what a word names, by the word `soak` and by the others
named : (P : Request → Type 0) (numbers : List Text) (ticks : Option Text) (word : Text) (r : Request) →
    (soak_by numbers ticks ≡ Some r → P r) →
    ((command : Command) → command_of word ≡ Some command → request_by command numbers ticks ≡ Some r → P r) →
    request_named numbers ticks word ≡ Some r → P r
named P numbers ticks word r soaks asks is =
    either P (bytes_eq word (codes "soak")) (soak_by numbers ticks)
    (option_and_then (λ command. request_by command numbers ticks) (command_of word)) r soaks
    (λ e. asks_of_word (command_of word) refl e) is
  where
    asks_of_word : (found : Option Command) → command_of word ≡ found →
        option_and_then (λ command. request_by command numbers ticks) found ≡ Some r → P r
    asks_of_word None same e = absurd (none-some r e)
    asks_of_word (Some command) same e = asks command same e

few_by_name : (numbers : List Text) (ticks : Option Text) (word : Text) (r : Request) →
    request_named numbers ticks word ≡ Some r → HasFew r
few_by_name numbers ticks word r is =
    named HasFew numbers ticks word r
    (λ e. from_some HasFew (option_map Command.Soak (functions_of numbers))
    (λ command. request_with command (Some []) (option_and_then ticks_of ticks))
    (λ command r found next. with_few command (Some []) ticks r next) r e)
    (λ command found e. with_few command (asks_of command numbers) ticks r e) is

-- the numbers and the text of the ticks that were matched
abbrev numbers_in : List Row → List Text
numbers_in rows = given (all_of (codes "numbers") rows)

abbrev ticks_text : List Row → Option Text
ticks_text rows = first_of (codes "ticks") rows

pub has_few_ticks : (rows : List Row) (r : Request) → request_in rows ≡ Some r → r.ticks ≤ 1000000000
has_few_ticks rows r is =
    from_some HasFew (first_of (codes "command") rows) (request_named (numbers_in rows) (ticks_text rows))
    (λ word r e next. few_by_name (numbers_in rows) (ticks_text rows) word r next) r is

-- ---- functions

abbrev HasFunctions : Request → Type 0
HasFunctions request = HasFewFunctions request.command

with_command : (command : Command) (asks : Option (List ℤ)) (ticks : Option ℕ) (r : Request) →
    request_with command asks ticks ≡ Some r → HasFewFunctions command → HasFunctions r
with_command command asks ticks r is few =
    from_some HasFunctions asks (λ asks. option_and_then (λ ticks. Some (made command asks ticks)) ticks)
    (λ asks r e next.
    from_some HasFunctions ticks (λ ticks. Some (made command asks ticks))
    (λ t r given is. subst HasFunctions (same_Some (made command asks t) r is) few) r next) r is

count_in : (numbered few some : Bool) (value k : ℕ) → (few ≡ true → value ≤ 1500) → (some ≡ true → 1 ≤ value) →
    (if (numbered && few) && some then Some value else None) ≡ Some k → (1 ≤ k) × (k ≤ 1500)
count_in false few some value k most least is = absurd (none-some k is)
count_in true false some value k most least is = absurd (none-some k is)
count_in true true false value k most least is = absurd (none-some k is)
count_in true true true value k most least is =
    let same = same_Some value k is in
    (subst (λ (n : ℕ). 1 ≤ n) same (least refl), subst (λ (n : ℕ). n ≤ 1500) same (most refl))

few_functions : (numbers : List Text) (k : ℕ) → functions_of numbers ≡ Some k → (1 ≤ k) × (k ≤ 1500)
few_functions [] k is = absurd (none-some k is)
few_functions (text ∷ []) k is =
    count_in (is_number text) (nat_le (digits_value text) 1500) (nat_le 1 (digits_value text)) (digits_value text) k
    (leb-true (digits_value text) 1500) (leb-true 1 (digits_value text)) is
few_functions (text ∷ other ∷ texts) k is = absurd (none-some k is)

soaks_few : (numbers : List Text) (found : Option ℕ) (command : Command) → functions_of numbers ≡ found →
    option_map Command.Soak found ≡ Some command → HasFewFunctions command
soaks_few numbers None command same is = absurd (none-some command is)
soaks_few numbers (Some k) command same is =
    subst HasFewFunctions (same_Some (Command.Soak k) command is) (few_functions numbers k same)

-- no other word names it
others_few : (check raw build run exec : Bool) (command : Command) →
    (if check then Some Command.Check
    else (if raw then Some Command.Raw
    else (if build then Some Command.Build
    else (if run then Some Command.Run else (if exec then Some Command.Exec else None))))) ≡ Some command →
    HasFewFunctions command
others_few true raw build run exec command is = subst HasFewFunctions (same_Some Command.Check command is) tt
others_few false true build run exec command is = subst HasFewFunctions (same_Some Command.Raw command is) tt
others_few false false true run exec command is = subst HasFewFunctions (same_Some Command.Build command is) tt
others_few false false false true exec command is = subst HasFewFunctions (same_Some Command.Run command is) tt
others_few false false false false true command is = subst HasFewFunctions (same_Some Command.Exec command is) tt
others_few false false false false false command is = absurd (none-some command is)

functions_by_name : (numbers : List Text) (ticks : Option Text) (word : Text) (r : Request) →
    request_named numbers ticks word ≡ Some r → HasFunctions r
functions_by_name numbers ticks word r is =
    named HasFunctions numbers ticks word r
    (λ s. from_some HasFunctions (option_map Command.Soak (functions_of numbers))
    (λ command. request_with command (Some []) (option_and_then ticks_of ticks))
    (λ command r found next.
    with_command command (Some []) (option_and_then ticks_of ticks) r next
    (soaks_few numbers (functions_of numbers) command refl found)) r s)
    (λ command found s.
    with_command command (asks_of command numbers) (option_and_then ticks_of ticks) r s
    (others_few _ _ _ _ _ command found)) is

pub has_few_functions : (rows : List Row) (r : Request) → request_in rows ≡ Some r → HasFewFunctions r.command
has_few_functions rows r is =
    from_some HasFunctions (first_of (codes "command") rows) (request_named (numbers_in rows) (ticks_text rows))
    (λ word r e next. functions_by_name (numbers_in rows) (ticks_text rows) word r next) r is
