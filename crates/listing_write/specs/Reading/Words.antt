-- Words, numbers and names at the front of a text.
use Rattle.std.specs.Prelude.{ℕ, zero, suc, ◌+◌, ◌^◌, Bool, ◌&&◌, if◌then◌else◌, nat_eq, nat_lt, List, [], ◌∷◌, codes, Option, Some, None, ℤ, pos, negsuc}
use Rattle.std.specs.Str.Parse.{digits_value}
use Rattle.cfg_graph.specs.WellFormed.NameFaults.{same_name}

-- what was found, and what stands behind it
abbrev pub FoundInText : Type 0 → Type 0
FoundInText X = Option (X × List ℕ)

abbrev pub bind : {X Y : Type 0} → Option X → (X → Option Y) → Option Y
bind None go = None
bind (Some x) go = go x

abbrev pub or_else : {X : Type 0} → Option X → Option X → Option X
or_else None other = other
or_else (Some x) other = Some x

-- where the first is there, what goes on from it and nothing else
abbrev pub chosen : {X Y : Type 0} → Option X → (X → Option Y) → Option Y → Option Y
chosen None go other = other
chosen (Some x) go other = go x

-- what was found, made into something else
abbrev pub as_ : {X Y : Type 0} → (X → Y) → FoundInText X → FoundInText Y
as_ make found = bind found (λ f. Some (make f.0, f.1))

-- behind a word
abbrev pub strip : List ℕ → List ℕ → Option (List ℕ)
strip [] t = Some t
strip (a ∷ more) [] = None
strip (a ∷ more) (b ∷ bs) = if nat_eq a b then strip more bs else None

-- a word that says something
abbrev pub said : {X : Type 0} → List ℕ → X → List ℕ → FoundInText X
said word x t = bind (strip word t) (λ r. Some (x, r))

-- the longest beginning of bytes that pass
abbrev pub span : (ℕ → Bool) → List ℕ → List ℕ × List ℕ
span p [] = ([], [])
span p (b ∷ bs) = if p b then (b ∷ (span p bs).0, (span p bs).1) else ([], b ∷ bs)

abbrev pub is_digit : ℕ → Bool
is_digit b = nat_lt 47 b && nat_lt b 58

-- a number below a limit
abbrev pub limited : ℕ → ℕ → Option ℕ
limited limit n = if nat_lt n limit then Some n else None

-- the number of these digits, of which there is one
abbrev pub valued : ℕ → List ℕ × List ℕ → FoundInText ℕ
valued limit ([], r) = None
valued limit (d ∷ ds, r) = bind (limited limit (digits_value 10 (d ∷ ds))) (λ n. Some (n, r))

-- a number, of 32 bits
abbrev pub number : List ℕ → FoundInText ℕ
number t = valued (2 ^ 32) (span is_digit t)

abbrev pub negative : ℕ → ℤ
negative zero = pos 0
negative (suc n) = negsuc n

-- a number with its sign, of 128 bits
abbrev pub signed : List ℕ → FoundInText ℤ
signed t =
    chosen (strip (codes "-") t) (λ t. as_ negative (valued (2 ^ 127 + 1) (span is_digit t)))
    (as_ pos (valued (2 ^ 127) (span is_digit t)))

-- where a name stands among others, and their number where it is none of them
abbrev pub place_in : List (List ℕ) → List ℕ → ℕ
place_in [] name = 0
place_in (x ∷ xs) name = if same_name name x then 0 else suc (place_in xs name)
