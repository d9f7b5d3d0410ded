-- The items and bodies of a listing, read from the text behind its first line, under heads that are all read.
use Rattle.std.specs.Prelude.{◌≡◌, ℕ, zero, suc, Bool, ◌||◌, if◌then◌else◌, nat_lt, min, List, [], length, Option, Some, None}
use Rattle.mir_ty.specs.ItemTable.{ItemTable}
use Rattle.cfg_graph.specs.declared.graph.Graph.{Graph}
use Rattle.mir_text.specs.BodiesRead.{BodiesDrafted, bodies_told}
use Rattle.mir_text.specs.BodyReading.{bodies_read}
use Rattle.mir_text.specs.SectionReading.{ItemsSeen, items_read}
use Rattle.mir_text.specs.SectionsRead.{items_seen}
use Rattle.mir_text.specs.HeadReading.{heads_within}

abbrev pub none_seen : ItemsSeen
none_seen = record { adts = []; traits = []; impls = []; closures = [] }

-- the items behind the first line, under heads
abbrev pub items_under : ItemTable → List ℕ → ItemsSeen × List ℕ
items_under heads t = items_read heads none_seen t

-- how many of so many structs and enums, and of so many traits, where those are not all
abbrev pub fewer_of : (adts most_adts traits most_traits : ℕ) → Option (ℕ × ℕ)
fewer_of adts most_adts traits most_traits =
    if nat_lt adts most_adts || nat_lt traits most_traits then Some (min adts most_adts, min traits most_traits)
    else None

-- how many heads are read, where those are not all
abbrev pub fewer : ItemTable → ItemsSeen → Option (ℕ × ℕ)
fewer heads seen = fewer_of (length seen.adts) (length heads.adts) (length seen.traits) (length heads.traits)

-- heads of which not all are read are read again, no more than were
abbrev pub again : List ℕ → ItemTable → Option (ℕ × ℕ) → ItemTable
again t heads None = heads
again t heads (Some counts) = heads_within counts.0 counts.1 t

-- the heads after so many rounds; there are no more of them than bytes
abbrev pub heads_after : ℕ → List ℕ → ItemTable
heads_after zero t = heads_within (length t) (length t) t
heads_after (suc k) t = again t (heads_after k t) (fewer (heads_after k t) (items_under (heads_after k t) t).0)

-- heads that are all read
pub record AreSettled (t : List ℕ) (heads : ItemTable) : Type 0 where
  pub rounds : ℕ
  pub are : heads ≡ heads_after rounds t
  pub all_read : fewer heads (items_under heads t).0 ≡ None

-- a graph is told by a text, under heads: its items and its bodies are those that stand there, whether the last block
-- is whole, and what stands behind them
pub record IsTold (t : List ℕ) (heads : ItemTable) (graph : Graph) (whole : Bool) (rest : List ℕ) : Type 0 where
  pub drafted : BodiesDrafted heads graph.items graph.bodies
  pub items : items_seen heads graph.items ≡ (items_under heads t).0
  pub bodies : bodies_told heads graph.items graph.items.bodies graph.bodies
      ≡ (bodies_read heads (items_under heads t).1).0.0
  pub whole_is : whole ≡ (bodies_read heads (items_under heads t).1).0.1
  pub rest_is : rest ≡ (bodies_read heads (items_under heads t).1).1

-- the same, under heads that are all read
pub record IsRead (t : List ℕ) (graph : Graph) (whole : Bool) (rest : List ℕ) : Type 0 where
  pub heads : ItemTable
  pub settled : AreSettled t heads
  pub told : IsTold t heads graph whole rest
