-- What words in postfix order stand for: the codes and arms that are not taken by a word behind them, the last one first.
use Rattle.std.specs.Prelude.{ℕ, List, [], ◌∷◌, Option, Some, None}
use Rattle.std.specs.Option.{option_and_then}
use Rattle.lower_code.specs.Code as code
use Rattle.lower_code.specs.Code.{Code, Arms, no_arm, an_arm, Arm, Taken, Empty, no_guard, a_guard}
use Rattle.lower_code.specs.Ops as ops
use Rattle.lower_code.specs.Ops.{CodeWord}

-- a code, an arm, or the place before the arms of a match
pub data Part : Type 0 where
  ACode : (code : Code) → Part
  AnArm : (arm : Arm) → Part
  ArmsBegin : Part

-- the arms since their beginning, in order, before others
abbrev pub gathered : Arms → List Part → Option (Arms × List Part)
gathered arms [] = None
gathered arms (ACode code ∷ parts) = None
gathered arms (AnArm arm ∷ parts) = gathered (an_arm arm arms) parts
gathered arms (ArmsBegin ∷ parts) = Some (arms, parts)

abbrev pub matching : ℕ → Arms × List Part → List Part
matching node found = ACode (code.Matches node found.0) ∷ found.1

abbrev pub matched : ℕ → Option (Arms × List Part) → Option (List Part)
matched node None = None
matched node (Some found) = Some (matching node found)

-- one code is taken, two are, by what is made of them
abbrev pub of_one : (Code → Part) → List Part → Option (List Part)
of_one make (ACode inner ∷ parts) = Some (make inner ∷ parts)
of_one make parts = None

abbrev pub of_two : (Code → Code → Part) → List Part → Option (List Part)
of_two make (ACode another ∷ ACode one ∷ parts) = Some (make one another ∷ parts)
of_two make parts = None

-- a word takes what it is made of
abbrev pub taken : CodeWord → List Part → Option (List Part)
taken ops.Nothing parts = Some (ACode code.Nothing ∷ parts)
taken (ops.Changes change) parts = Some (ACode (code.Changes change) ∷ parts)
taken (ops.From change) parts = of_one (λ inner. ACode (code.From change inner)) parts
taken ops.Then parts = of_two (λ one another. ACode (code.Then one another)) parts
taken ops.BackIn parts = of_one (λ inner. ACode (code.BackIn inner)) parts
taken (ops.Acts node action) parts = Some (ACode (code.Acts node action) ∷ parts)
taken (ops.InScope node for_temporaries) parts = of_one (λ inner. ACode (code.InScope node for_temporaries inner)) parts
taken ops.Leaves parts = Some (ACode code.Leaves ∷ parts)
taken (ops.Branches node on) parts = of_two (λ held otherwise. ACode (code.Branches node on held otherwise)) parts
taken (ops.Loops id) parts = of_one (λ turn. ACode (code.Loops id turn)) parts
taken (ops.Exits node exit) parts = Some (ACode (code.Exits node exit) ∷ parts)
taken (ops.Panics node why) parts = Some (ACode (code.Panics node why) ∷ parts)
taken (ops.Replaces site key) parts = Some (ACode (code.Replaces site key) ∷ parts)
taken (ops.Drops key) parts = Some (ACode (code.Drops key) ∷ parts)
taken ops.BeforeArms parts = Some (ArmsBegin ∷ parts)
taken (ops.IsArm tests None) parts = of_one (λ inner. AnArm (Taken tests no_guard inner)) parts
taken (ops.IsArm tests (Some key)) parts = of_two (λ guard inner. AnArm (Taken tests (a_guard key guard) inner)) parts
taken ops.EmptyArm parts = Some (AnArm Empty ∷ parts)
taken (ops.Matches node) parts = matched node (gathered no_arm parts)

-- the parts of words, of which the last comes first
abbrev pub parted : List CodeWord → Option (List Part)
parted [] = Some []
parted (word ∷ before) = option_and_then (taken word) (parted before)
