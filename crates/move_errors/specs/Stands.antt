-- What holds of the search as it is kept, from turn to turn; no public contract speaks of it.
use Rattle.std.specs.Prelude.{◌≡◌, ℕ, ◌+◌, ◌*◌, ◌<◌, ◌≤◌, Bool, true, false, List, [], ◌∷◌, ◌++◌, map, length, Option, Some, None, slice_get, slice_index_or, Contains, sum_by}
use Rattle.mir_ty.specs.ItemTable.{ItemTable}
use Rattle.store_model.specs.Places.Place.{Place}
use Rattle.cfg_graph.specs.declared.graph.Body.{Body}
use Rattle.init_flow.specs.Carried.{Bits}
use Rattle.init_flow.specs.WorkList.{off, is_off}
use Rattle.move_errors.specs.Rows.{first_by}
use Rattle.move_errors.specs.Runs.{Problem, Trip, IsRun, problem, beginning, met, optional, index_of, acts_at, action_of}
use Rattle.move_errors.specs.Searching.{number, bit, Visited}
use Rattle.move_errors.specs.declared.point.Onward.{Onward}
use Rattle.move_errors.specs.declared.point.Point.{Point}
use Rattle.move_errors.specs.declared.search.Visit.{Visit}
use Rattle.move_errors.specs.declared.search.Waiting.{Waiting}
use Rattle.move_errors.specs.declared.search.Search.{Search}
use Rattle.move_errors.specs.declared.search.FoundUse.{FoundUse}

-- what is added where a run goes on from a visit
abbrev pub item_from : (from : ℕ) → Bits → Option Bool → Point → Waiting
item_from from row choice to =
    record { visit = record { at = to; from = Some from; choice = choice }; row = row }

abbrev pub chosen_items : (from : ℕ) → Bits → Option Point → Bool → List Waiting
chosen_items from row None choice = []
chosen_items from row (Some to) choice = item_from from row (Some choice) to ∷ []

abbrev pub pushed_items : Onward → (from : ℕ) → Bits → List Waiting → List Waiting
pushed_items Onward.Nowhere from row items = items
pushed_items (Onward.Silent to) from row items = item_from from row None to ∷ items
pushed_items (Onward.Choices none one) from row items =
    items ++ (chosen_items from row none false ++ chosen_items from row one true)

module _ (f : Problem) where
  -- rows and flags by points
  pub record Seen (seen : List Bits) (reached : List Bool) (done : List Trip) : Type 0 where
    pub seen_are : length seen ≡ f.points
    pub reached_are : length reached ≡ f.points
    pub widths : (n : ℕ) → n < f.points → length (slice_index_or seen n []) ≡ f.width
    pub flags :
        (at : Point) → slice_index_or reached (index_of at) false ≡ true →
        (t : Trip) × Contains done t × (t.at ≡ at)
    pub bits :
        (at : Point) (i : ℕ) → bit (slice_index_or seen (index_of at) []) i ≡ true →
        (t : Trip) × Contains done t × (t.at ≡ at) × (bit t.row i ≡ true)

  -- where a run came from
  abbrev pub source : List Trip → Option ℕ → Trip
  source done None = beginning f
  source done (Some n) = slice_index_or done n (beginning f)

  abbrev pub trip_of : List Trip → Visit → Bits → Trip
  trip_of done visit row =
      record {
        path = (source done visit.from).path ++ met visit.at;
        given = (source done visit.from).given ++ optional visit.choice;
        at = visit.at;
        row = row;
      }

  abbrev pub IsFrom : Option ℕ → ℕ → Type 0
  IsFrom None count = Unit {0}
  IsFrom (Some n) count = n < count

  abbrev pub waiting_of : List Trip → List Waiting → List Trip
  waiting_of done items = map (λ item. trip_of done item.visit item.row) items

  -- visits are those of runs
  pub record Logged (visits : List Visit) (done : List Trip) : Type 0 where
    pub long : length visits ≡ length done
    pub froms : (n : ℕ) (visit : Visit) → slice_get visits n ≡ Some visit → IsFrom visit.from n
    pub each :
        (n : ℕ) (visit : Visit) → slice_get visits n ≡ Some visit →
        slice_index_or done n (beginning f)
        ≡ trip_of done visit (slice_index_or done n (beginning f)).row

  -- of these items that wait
  pub record Stands (s : Search) (items : List Waiting) : Type 0 where
    pub done : List Trip
    pub logged : Logged s.visits done
    pub from_done : (item : Waiting) → Contains items item → IsFrom item.visit.from (length done)
    pub seen : Seen s.seen s.reached done
    pub visited : Visited f done (waiting_of done items)
    pub widths : (item : Waiting) → Contains items item → length item.row ≡ f.width
    pub within : (item : Waiting) → Contains items item → index_of item.visit.at < f.points

-- a bad use that a least run meets
pub record IsFound
    (items : ItemTable) (body : Body) (paths : List Place) (visits : List Visit) (bad : FoundUse) : Type 0 where
  pub done : List Trip
  pub logged : Logged (problem items body paths) visits done
  pub trip : Trip
  pub at : slice_get done bad.visit ≡ Some trip
  pub run : IsRun (problem items body paths) trip
  pub first :
      first_by items body paths (acts_at items body trip.at.block trip.at.stage) trip.row
      ≡ Some (action_of trip.at.block bad.act)
  pub least :
      (u : Trip) → IsRun (problem items body paths) u → (problem items body paths).bad u.at u.row ≡ true →
      number trip ≤ number u

-- a visit comes from an earlier one
abbrev pub ComeEarlier : List Visit → Type 0
ComeEarlier visits =
    (n : ℕ) (visit : Visit) (from : ℕ) → slice_get visits n ≡ Some visit → visit.from ≡ Some from → from < n

-- no run meets a bad use
abbrev pub MeetsNoBad : Problem → Type 0
MeetsNoBad f = (u : Trip) → IsRun f u → f.bad u.at u.row ≡ false

-- the measure of what is left to do
abbrev pub remaining : Search → ℕ
remaining s = (sum_by off s.seen + sum_by is_off s.reached) * 3 + length s.queue.items
