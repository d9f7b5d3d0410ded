-- Bodies, read from the front of a text: their lines, locals and blocks, each exactly as it is written.
use Rattle.std.specs.Prelude.{ℕ, Bool, List, [], ◌∷◌, ◌++◌, length, Some}
use Rattle.cfg_graph.specs.declared.graph.Block.{Block}
use Rattle.mir_ty.specs.ItemTable.{ItemTable}
use Rattle.listing_write.specs.Compared.{Written}
use Rattle.listing_write.specs.Reading.Words.{FoundInText, bind}
use Rattle.listing_lines.specs.CodeReading.{blocks_read, until_broken}
use Rattle.listing_lines.specs.LineReading as lines
use Rattle.mir_text.specs.SectionReading.{as_long_as}

-- a body as a listing tells it
pub record BodyTold : Type 0 where
  pub name : List ℕ
  pub params : ℕ
  pub locals : List Written
  pub blocks : List Block

module _ (heads : ItemTable) where
  -- one local more, with the number that is due
  abbrev pub one_local : List Written → List ℕ → FoundInText (List Written)
  one_local s t = bind (lines.local_read heads (length s) t) (λ f. Some (s ++ f.0 ∷ [], f.1))

  abbrev pub locals_read : List ℕ → List Written × List ℕ
  locals_read t = as_long_as one_local [] t

  -- a body with these locals and blocks, and whether its last block was whole
  abbrev pub told : List ℕ × ℕ → List Written → (List Block × Bool) × List ℕ → (BodyTold × Bool) × List ℕ
  told head locals code =
      ((record { name = head.0; params = head.1; locals = locals; blocks = code.0.0 }, code.0.1), code.1)

  abbrev pub with_locals : List ℕ × ℕ → List Written × List ℕ → (BodyTold × Bool) × List ℕ
  with_locals head locals = told head locals.0 (blocks_read heads locals.1)

  -- the line of the body with a number, its locals and its blocks
  abbrev pub body_read : ℕ → List ℕ → FoundInText (BodyTold × Bool)
  body_read n t = bind (lines.body_read n t) (λ head. Some (with_locals head.0 (locals_read head.1)))

  -- the bodies of a graph, up to one whose last block is broken off
  abbrev pub bodies_read : List ℕ → (List BodyTold × Bool) × List ℕ
  bodies_read t = until_broken body_read t
