-- Nothing but a graph that runs alike is read of the listing of a graph.
use Rattle.std.proofs.Common.{◌≡◌, ℕ, List, length, get_or, sym, subst, refl}
use Rattle.std.specs.Prelude.{Ok, Err}
use Rattle.std.specs.Str.{IsUtf8}
use Rattle.mir_ty.specs.AreItems.{AreItems}
use Rattle.cfg_graph.specs.declared.graph.Graph.{Graph}
use Rattle.cfg_graph.specs.WellFormed.Faults.{IsCounted, IsCountedBody, IsWellFormed}
use Rattle.listing_runs.proofs.Law.{one_run_a_listing}
use Rattle.listing_write.specs.Compared.{IsListed}
use Rattle.listing_write.specs.Listing.{IsShortGraph, listing}
use Rattle.mir_text.specs.Answers.{Answers, IsText}
use Rattle.mir_text.specs.declared.error.ListingError.{ListingError}
use Rattle.mir_text.proofs.Listed.{well_formed_is_not_wrong}
use Rattle.listing_trip.specs.Numbers.{NumbersFit}
use Rattle.listing_trip.specs.Trip.{IsReadAs, ReadsBack, RunsAs}
use Rattle.listing_trip.proofs.Fitted.{is_listed}
use Rattle.listing_trip.proofs.TextNames.{names_in_text}

pub short_graph : (graph : Graph) → IsCounted graph → IsShortGraph graph
short_graph graph counted = record {
  bodies = counted.bodies;
  each = λ n d less. let one : IsCountedBody (get_or graph.bodies n d) = counted.each n d less in record
      { locals = one.locals; blocks = one.blocks };
}

module _ (graph : Graph) (well : IsWellFormed graph) (counted : IsCounted graph)
    (signed : length graph.items.bodies ≡ length graph.bodies) (are : AreItems graph.items) (numbers : NumbersFit graph)
    (in_utf8 : IsUtf8 (listing graph)) where
  abbrev listed : IsListed graph
  listed = is_listed graph well counted are numbers

  runs_as : (read : Graph) → IsText (listing graph) read → RunsAs graph read
  runs_as read is =
      let alike = one_run_a_listing graph read listed is.listed is.same in
      record { runs = λ asked ticks. sym (alike.0 asked ticks); texts = λ asked ticks. sym (alike.1 asked ticks) }

  pub reads_back : ReadsBack graph
  reads_back (Ok read) is = runs_as read is
  reads_back (Err ListingError.Memory) is = tt
  reads_back (Err (ListingError.BadListing n)) is =
      well_formed_is_not_wrong graph n listed counted (names_in_text graph are signed in_utf8) is
  reads_back (Err (ListingError.BadGraph fault n)) is = is.none graph listed refl

-- of a text that is the listing of a graph which reads back
module _ (graph : Graph) (back : ReadsBack graph) (text : List ℕ) (same : text ≡ listing graph) where
  pub only_memory : (error : ListingError) → Answers text (Err error) → error ≡ ListingError.Memory
  only_memory error answered = by error (back (Err error) (subst (λ (t : List ℕ). Answers t (Err error)) same answered))
    where
      by : (error : ListingError) → IsReadAs graph (Err error) → error ≡ ListingError.Memory
      by ListingError.Memory is = refl
      by (ListingError.BadListing n) is = absurd is
      by (ListingError.BadGraph fault n) is = absurd is

  pub read_as : (read : Graph) → IsText text read → RunsAs graph read
  read_as read is = back (Ok read) (subst (λ (t : List ℕ). IsText t read) same is)
