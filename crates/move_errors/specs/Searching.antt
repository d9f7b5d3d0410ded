-- What holds of the search from turn to turn; no public contract speaks of it.
use Rattle.std.specs.Prelude.{◌≡◌, ◌⊎◌, ℕ, ◌+◌, ◌*◌, ◌<◌, ◌≤◌, Bool, true, false, List, [], ◌∷◌, ◌++◌, length, Option, Some, None, slice_index_or, Contains}
use Rattle.init_flow.specs.Carried.{Bits}
use Rattle.move_errors.specs.Runs.{Problem, Trip, IsRun, Leads, beginning, step, number_of}
use Rattle.move_errors.specs.declared.point.Onward.{Onward}
use Rattle.move_errors.specs.declared.point.Point.{Point}

-- the number of a list of choices: shorter lists have lesser numbers, and those of one length are numbered in order
abbrev pub number_from : ℕ → List Bool → ℕ
number_from n [] = n
number_from n (choice ∷ rest) = number_from (n * 2 + number_of choice) rest

abbrev pub number : Trip → ℕ
number t = number_from 1 t.given

abbrev pub bit : Bits → ℕ → Bool
bit row i = slice_index_or row i false

-- numbers rise, and none is as great as twice another one
abbrev pub AllIn : (ℕ → Type 0) → List Trip → Type 0
AllIn P [] = Unit {0}
AllIn P (t ∷ ts) = P (number t) × AllIn P ts

abbrev pub Ordered : List Trip → Type 0
Ordered [] = Unit {0}
Ordered (t ∷ ts) = AllIn (λ n. (number t < n) × (n < number t * 2)) ts × Ordered ts

module _ (f : Problem) where
  -- each bit of a row goes its own way, and what makes a use bad is one bit, or none
  pub record Own : Type 0 where
    pub starts : length f.start ≡ f.width
    pub keeps : (at : Point) (row : Bits) → length row ≡ f.width → length (f.pass at row) ≡ f.width
    pub pass_own : (at : Point) (i : ℕ) → i < f.width →
        ((b : Bool) × ((row : Bits) → length row ≡ f.width → bit (f.pass at row) i ≡ b))
        ⊎ ((row : Bits) → length row ≡ f.width → bit (f.pass at row) i ≡ bit row i)
    pub bad_own : (at : Point) (row : Bits) → length row ≡ f.width → f.bad at row ≡ true →
        ((other : Bits) → length other ≡ f.width → f.bad at other ≡ true)
        ⊎ ((i : ℕ) × (bit row i ≡ true)
        × ((other : Bits) → length other ≡ f.width → bit other i ≡ true → f.bad at other ≡ true))

  -- what waits where a run goes on: without a choice it is the first, and with a choice the last
  abbrev pub chosen : Trip → Option Point → Bool → List Trip
  chosen t None choice = []
  chosen t (Some to) choice = step f t (Some choice) to ∷ []

  abbrev pub pushed : Onward → Trip → List Trip → List Trip
  pushed Onward.Nowhere t waiting = waiting
  pushed (Onward.Silent to) t waiting = step f t None to ∷ waiting
  pushed (Onward.Choices none one) t waiting = waiting ++ (chosen t none false ++ chosen t one true)

  -- some visited run stands at a point with no greater number, and for a bit with this bit on
  pub record Reached (done : List Trip) (at : Point) (most : ℕ) : Type 0 where
    pub by : Trip
    pub has : Contains done by
    pub there : by.at ≡ at
    pub less : number by ≤ most

  pub record Brought (done : List Trip) (at : Point) (most i : ℕ) : Type 0 where
    pub by : Trip
    pub has : Contains done by
    pub there : by.at ≡ at
    pub less : number by ≤ most
    pub on : bit by.row i ≡ true

  pub record Settled (done : List Trip) (t : Trip) : Type 0 where
    pub reached : Reached done t.at (number t)
    pub brought : (i : ℕ) → bit t.row i ≡ true → Brought done t.at (number t) i

  -- what was visited, in which order, and what waits
  pub record Visited (done waiting : List Trip) : Type 0 where
    pub runs : (t : Trip) → Contains done t → IsRun f t
    pub waiting_runs : (t : Trip) → Contains waiting t → IsRun f t
    pub earlier : (t : Trip) → Contains done t → AllIn (λ n. number t ≤ n) waiting
    pub order : Ordered waiting
    pub none_bad : (t : Trip) → Contains done t → f.bad t.at t.row ≡ false
    pub goes_on :
        (t : Trip) (choice : Option Bool) (to : Point) → Contains done t → Leads (f.onward t.at) choice to →
        Settled done (step f t choice to) ⊎ Contains waiting (step f t choice to)
    pub began : Settled done (beginning f) ⊎ Contains waiting (beginning f)
