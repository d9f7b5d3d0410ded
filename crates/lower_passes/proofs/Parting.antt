-- The words of code are parted into that code.
use Rattle.std.proofs.Common.{◌≡◌, ◌∙◌, ◌∷◌, List, Some, None, refl, ap}
use Rattle.std.specs.Option.{option_and_then}
use Rattle.lower_code.specs.Code as code
use Rattle.lower_code.specs.Code.{Code, Arms, no_arm, an_arm, Arm, Taken, Empty, Guard, no_guard, a_guard}
use Rattle.lower_code.specs.Ops as ops
use Rattle.lower_code.specs.Ops.{CodeWord, onto, arms_onto, arm_onto, guard_onto}
use Rattle.lower_passes.proofs.Parts.{Part, ACode, AnArm, ArmsBegin, gathered, matched, taken, parted}

-- arms behind others, the last one first
abbrev arms_behind : Arms → List Part → List Part
arms_behind no_arm parts = parts
arms_behind (an_arm first rest) parts = arms_behind rest (AnArm first ∷ parts)

abbrev joined : Arms → Arms → Arms
joined no_arm others = others
joined (an_arm first rest) others = an_arm first (joined rest others)

takes : (word : CodeWord) (before : List CodeWord) (parts : List Part) → parted before ≡ Some parts → parted (word ∷ before) ≡ taken word parts
takes word before parts are = ap (option_and_then (taken word)) are

gathers : (arms others : Arms) (parts : List Part) → gathered others (arms_behind arms parts) ≡ gathered (joined arms others) parts
gathers no_arm others parts = refl
gathers (an_arm first rest) others parts = gathers rest others (AnArm first ∷ parts)

joined_none : (arms : Arms) → joined arms no_arm ≡ arms
joined_none no_arm = refl
joined_none (an_arm first rest) = ap (an_arm first) (joined_none rest)

mutual
  pub parts_of : (c : Code) (before : List CodeWord) (parts : List Part) → parted before ≡ Some parts → parted (onto c before) ≡ Some (ACode c ∷ parts)
  parts_of code.Nothing before parts are = takes ops.Nothing before parts are
  parts_of (code.Changes change) before parts are = takes (ops.Changes change) before parts are
  parts_of (code.From change inner) before parts are =
      takes (ops.From change) (onto inner before) (ACode inner ∷ parts) (parts_of inner before parts are)
  parts_of (code.Then one another) before parts are =
      takes ops.Then (onto another (onto one before)) (ACode another ∷ ACode one ∷ parts)
      (parts_of another (onto one before) (ACode one ∷ parts) (parts_of one before parts are))
  parts_of (code.BackIn inner) before parts are =
      takes ops.BackIn (onto inner before) (ACode inner ∷ parts) (parts_of inner before parts are)
  parts_of (code.Acts node action) before parts are = takes (ops.Acts node action) before parts are
  parts_of (code.InScope node for_temporaries inner) before parts are =
      takes (ops.InScope node for_temporaries) (onto inner before) (ACode inner ∷ parts) (parts_of inner before parts are)
  parts_of code.Leaves before parts are = takes ops.Leaves before parts are
  parts_of (code.Branches node on held otherwise) before parts are =
      takes (ops.Branches node on) (onto otherwise (onto held before)) (ACode otherwise ∷ ACode held ∷ parts)
      (parts_of otherwise (onto held before) (ACode held ∷ parts) (parts_of held before parts are))
  parts_of (code.Loops id turn) before parts are =
      takes (ops.Loops id) (onto turn before) (ACode turn ∷ parts) (parts_of turn before parts are)
  parts_of (code.Exits node exit) before parts are = takes (ops.Exits node exit) before parts are
  parts_of (code.Panics node why) before parts are = takes (ops.Panics node why) before parts are
  parts_of (code.Replaces site key) before parts are = takes (ops.Replaces site key) before parts are
  parts_of (code.Drops key) before parts are = takes (ops.Drops key) before parts are
  parts_of (code.Matches node arms) before parts are =
      takes (ops.Matches node) (arms_onto arms (ops.BeforeArms ∷ before)) (arms_behind arms (ArmsBegin ∷ parts))
      (parts_of_arms arms (ops.BeforeArms ∷ before) (ArmsBegin ∷ parts) (takes ops.BeforeArms before parts are))
      ∙ ap (matched node) (gathers arms no_arm (ArmsBegin ∷ parts))
      ∙ ap (λ (all : Arms). Some (ACode (code.Matches node all) ∷ parts)) (joined_none arms)

  parts_of_arms : (arms : Arms) (before : List CodeWord) (parts : List Part) → parted before ≡ Some parts → parted (arms_onto arms before) ≡ Some (arms_behind arms parts)
  parts_of_arms no_arm before parts are = are
  parts_of_arms (an_arm first rest) before parts are =
      parts_of_arms rest (arm_onto first before) (AnArm first ∷ parts) (parts_of_arm first before parts are)

  parts_of_arm : (arm : Arm) (before : List CodeWord) (parts : List Part) → parted before ≡ Some parts → parted (arm_onto arm before) ≡ Some (AnArm arm ∷ parts)
  parts_of_arm (Taken tests no_guard inner) before parts are =
      takes (ops.IsArm tests None) (onto inner before) (ACode inner ∷ parts) (parts_of inner before parts are)
  parts_of_arm (Taken tests (a_guard key guard) inner) before parts are =
      takes (ops.IsArm tests (Some key)) (onto inner (onto guard before)) (ACode inner ∷ ACode guard ∷ parts)
      (parts_of inner (onto guard before) (ACode guard ∷ parts) (parts_of guard before parts are))
  parts_of_arm Empty before parts are = takes ops.EmptyArm before parts are
