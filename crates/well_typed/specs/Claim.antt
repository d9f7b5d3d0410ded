-- What is claimed of a typed program: facts that can be tested, taken together. A claim is at once a proposition, whose
-- parts a proof uses, and a test, by which it is shown of a program that is at hand.
use Rattle.std.specs.Prelude.{Bool, true, false, ◌&&◌, IsTrue, List, [], ◌∷◌, Option, Some, None}

pub data Claim : Type 0 where
  fact : (test : Bool) → Claim
  both : (first rest : Claim) → Claim

abbrev pub Holds : Claim → Type 0
Holds (fact test) = IsTrue test
Holds (both first rest) = Holds first × Holds rest

abbrev pub is_so : Claim → Bool
is_so (fact test) = test
is_so (both first rest) = is_so first && is_so rest

infixr 5 ◌&◌
abbrev pub ◌&◌ : Claim → Claim → Claim
a & b = both a b

-- nothing is claimed
abbrev pub nothing : Claim
nothing = fact true

abbrev pub each : {A : Type 0} → (A → Claim) → List A → Claim
each f [] = nothing
each f (x ∷ xs) = f x & each f xs

-- there is such a thing, and this is claimed of it
abbrev pub some : {A : Type 0} → Option A → (A → Claim) → Claim
some None f = fact false
some (Some a) f = f a
