-- What is answered of the graph that was read is what is to be answered of the text.
use Rattle.std.proofs.Common.{◌≡◌, ℕ, Bool, List, ◌++◌, codes, sym, subst, ◌∙◌, arith}
use Rattle.std.specs.Prelude.{Result, Ok, Err}
use Rattle.cfg_graph.specs.declared.graph.Graph.{Graph}
use Rattle.mir_ty.specs.declared.ty.Ty.{Ty}
use Rattle.mir_ty.specs.AreItems.{AreItems}
use Rattle.mir_ty.specs.ItemTable.{ItemTable}
use Rattle.listing_write.specs.Lists.{line}
use Rattle.listing_write.proofs.InLines.{listing-lines}
use Rattle.mir_text.specs.declared.error.ListingError.{ListingError}
use Rattle.mir_text.specs.Answers.{Answers, IsText, WasRead}
use Rattle.mir_text.specs.Beginning.{IsListingOf}
use Rattle.mir_text.specs.Judged.{Judges}
use Rattle.mir_text.proofs.Alike.Lines.{has_no_graph}
use Rattle.mir_text.proofs.Counting.{short}
use Rattle.mir_text.proofs.Fit.{graph_fits}
use Rattle.mir_text.proofs.Named.{Extends, no_fewer_adts, no_fewer_traits}
use Rattle.mir_text.proofs.Told.{settled_extends}
use Rattle.mir_text.proofs.Whole.{in_front, first_wrong, listing_read}
use Rattle.mir_text.specs.GraphReading.{IsRead}
use Rattle.listing_parts.specs.Table.{HasHead}

-- the types of the graph that was read name heads of its own
was_read : (t : List ℕ) (graph : Graph) (whole : Bool) (rest : List ℕ) (is : IsRead t graph whole rest) → AreItems graph.items → (text : List ℕ) → IsListingOf text graph → WasRead text graph
was_read t graph whole rest is are text listed =
    let x = settled_extends is.heads graph.items t is.settled is.told.items in
    record {
      listed = listed;
      types = λ n ty at. let may = is.told.drafted.drafted.types n ty at in record { below = may.below; head = head_up is.heads graph.items x ty may.head; fits = may.fits };
      locals = is.told.drafted.within;
      signed = is.told.drafted.signed;
    }
  where
    head_up : (heads items : ItemTable) → Extends heads items → (ty : Ty) → HasHead heads ty → HasHead items ty
    head_up heads items x (Ty.Adt n) head = let most = no_fewer_adts heads items x in omega (arith, head, most)
    head_up heads items x (Ty.Dyn n) head = let most = no_fewer_traits heads items x in omega (arith, head, most)
    head_up heads items x _ head = tt

pub answers : (text t : List ℕ) (graph : Graph) (whole : Bool) (rest : List ℕ) (result : Result Graph ListingError) → text ≡ line (codes "mirdrop 1") ++ t → IsRead t graph whole rest → Judges graph whole rest result → Answers text result
answers text t graph whole rest (Ok answered) first is j =
    let listed = listing_read t graph whole rest is j.0 text first j.1 in
    let fits = graph_fits is.heads graph is.told.drafted.drafted.types (in_front t graph whole rest is j.0).stand in
    subst (IsText text) (sym j.2.0) (record { listed = record { items = j.0; fits = fits; well_formed = j.2.1 }; same = listed.same ∙ sym (listing-lines graph); counted = j.2.2; short = short graph j.2.2 })
answers text t graph whole rest (Err (ListingError.BadListing n)) first is j = first_wrong t graph whole rest is j.0 text first n j.1
answers text t graph whole rest (Err (ListingError.BadGraph fault n)) first is j =
    let was = was_read t graph whole rest is j.0 text (listing_read t graph whole rest is j.0 text first j.1) in
    record { graph = graph; read = was; first = j.2.0; at = j.2.1; none = has_no_graph text graph fault was j.2.0 }
answers text t graph whole rest (Err ListingError.Memory) first is j = tt
