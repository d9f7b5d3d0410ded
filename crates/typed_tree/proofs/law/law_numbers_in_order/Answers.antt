use Rattle.typed_tree.proofs.NumberLemmas.{distinct_in_order}
use Rattle.typed_tree.proofs.law.law_numbers_in_order.Goals as goal

pub returns : goal.returns
returns c = distinct_in_order
