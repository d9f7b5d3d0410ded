-- The way to a refused use in words: what is decided in each block of its path, with the place in the text.
use Rattle.std.specs.Prelude.{ℕ, ◌==◌, Bool, true, false, List, [], ◌∷◌, ◌++◌, length, find, slice_get, codes, Option, Some, None, option_and_then}
use Rattle.mir_base.specs.Lines.{line}
use Rattle.cfg_graph.specs.declared.graph.Block.{Block}
use Rattle.cfg_graph.specs.declared.graph.Graph.{Graph}
use Rattle.cfg_graph.specs.declared.terminator.Term.{Term}
use Rattle.cfg_graph.specs.declared.terminator.Unwind.{Unwind}
use Rattle.lower_rules.specs.declared.site.Site.{Site}
use Rattle.look_draw.specs.Drawings.{is_at, place_words}

-- a panic goes on in this block
abbrev pub unwinds_to : Unwind → ℕ → Bool
unwinds_to (Unwind.Block block) to = block == to
unwinds_to Unwind.Resume to = false
unwinds_to Unwind.Abort to = false

abbrev pub either : Bool → List ℕ → List ℕ → List ℕ
either true words others = words
either false words others = others

-- what decides at the end of a block
abbrev pub decider : Term → List ℕ
decider (Term.If on if_true if_false) = codes "the condition"
decider (Term.Case on variant if_true if_false) = codes "the value"
decider (Term.Call dest body args onward unwind) = codes "the call"
decider (Term.Virtual dest trait_no method args onward unwind) = codes "the call"
decider (Term.Math dest op left right onward unwind) = codes "the operation"
decider (Term.Negate dest of onward unwind) = codes "the operation"
decider (Term.Bounds index count onward unwind) = codes "the index"
decider (Term.Ask dest onward unwind) = codes "the question"
decider (Term.DropAt place onward unwind) = codes "the destructor"
decider (Term.Panic why unwind) = codes "the panic"
decider term = []

-- what it decides, where its body goes on in a block
abbrev pub decision : Term → ℕ → List ℕ
decision (Term.If on if_true if_false) to = either (to == if_true) (codes " holds") (codes " does not hold")
decision (Term.Case on variant if_true if_false) to =
    either (to == if_true) (codes " is of the variant") (codes " is of another variant")
decision (Term.Call dest body args onward unwind) to =
    either (unwinds_to unwind to) (codes " unwinds") (codes " returns")
decision (Term.Virtual dest trait_no method args onward unwind) to =
    either (unwinds_to unwind to) (codes " unwinds") (codes " returns")
decision (Term.Math dest op left right onward unwind) to = either (unwinds_to unwind to) (codes " panics") []
decision (Term.Negate dest of onward unwind) to = either (unwinds_to unwind to) (codes " panics") []
decision (Term.Bounds index count onward unwind) to = either (unwinds_to unwind to) (codes " is past the end") []
decision (Term.Ask dest onward unwind) to = either (unwinds_to unwind to) (codes " finds no number") []
decision (Term.DropAt place onward unwind) to = either (unwinds_to unwind to) (codes " unwinds") []
decision (Term.Panic why unwind) to = codes " unwinds"
decision term to = []

abbrev pub site_words : Option Site → List ℕ
site_words None = []
site_words (Some site) = codes " at " ++ place_words site.at

-- a line, where something is decided
abbrev pub told_if_any : (decided by place : List ℕ) → List ℕ
told_if_any [] by place = []
told_if_any (byte ∷ decided) by place = line (by ++ place ++ (byte ∷ decided))

-- what is decided in a block from which a path goes on in another
abbrev pub block_told : List Site → (body from to : ℕ) → Option Block → List ℕ
block_told sites body from to None = []
block_told sites body from to (Some block) =
    told_if_any (decision block.term to) (decider block.term)
    (site_words (find (is_at body from (length block.stmts)) sites))

module _ (graph : Graph) (sites : List Site) (body : ℕ) where
  abbrev pub step_told : ℕ → ℕ → List ℕ
  step_told from to =
      block_told sites body from to
      (option_and_then (λ found. slice_get found.blocks from) (slice_get graph.bodies body))

  -- the steps of a path, which leads from block to block
  abbrev pub steps_from : ℕ → List ℕ → List ℕ
  steps_from from [] = []
  steps_from from (to ∷ path) = step_told from to ++ steps_from to path

  abbrev pub steps_told : List ℕ → List ℕ
  steps_told [] = []
  steps_told (from ∷ path) = steps_from from path
