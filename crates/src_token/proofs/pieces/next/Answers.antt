-- What was found stands within the characters.
use Rattle.std.proofs.Common.{◌≡◌, ◌<◌, List, ℕ, length, sym, subst, Result, Ok, Err}
use Rattle.std.specs.Prelude.{IfOk}
use Rattle.mir_base.specs.declared.memory.NoMemory.{NoMemory}
use Rattle.src_token.specs.Scanning.{Stands, next_piece}
use Rattle.src_token.specs.declared.piece.TokenPiece.{TokenPiece}
use Rattle.src_token.proofs.Longest.{stands}
use Rattle.src_token.proofs.pieces.next.Goals as goal

fits : (rest : List ℕ) → 0 < length rest → (r : Result TokenPiece NoMemory) → IfOk r (λ p. p ≡ next_piece rest) → IfOk r (λ p. Stands rest p)
fits rest h (Ok p) is = subst (Stands rest) (sym is) (stands rest h)
fits rest h (Err e) is = tt

pub returns-clause-fits : goal.returns-clause-fits
returns-clause-fits c = fits c.args.rest.now c.requires c.next_by_kind.result c.next_by_kind.ensures
