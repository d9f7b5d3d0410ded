-- A block more of a body is done.
use Rattle.std.proofs.Common.{◌≡◌, inl, inr, ◌∙◌, ◌+◌, ◌<◌, ◌++◌, ◌∷◌, [], ℕ, List, Some, length, slice_get, sym, ap, subst, arith}
use Rattle.std.proofs.lemmas.List.{length-append}
use Rattle.std.proofs.lemmas.Option.{same_Some, slice_get_cases}
use Rattle.mir_ty.proofs.ListLemmas.{slice_get-append_left, slice_get-last}
use Rattle.mir_ty.specs.ItemTable.{ItemTable}
use Rattle.store_model.specs.Places.Place as plain
use Rattle.cfg_graph.specs.declared.graph.Block.{Block}
use Rattle.cfg_graph.specs.declared.graph.Body.{Body}
use Rattle.drop_elaborate.specs.Build.{Made}
use Rattle.drop_blocks.specs.Standing.{Holds}
use Rattle.drop_blocks.proofs.LadderLaws.{holds-less}
use Rattle.drop_bodies.specs.Done.{AreDone, BecomesOf}
use Rattle.drop_ends.specs.Decisions.{IsBlockOf}
use Rattle.drop_ends.specs.Edges.{IsMade}
use Rattle.drop_ends.specs.declared.decided.Decided.{Decided}

module _ (items : ItemTable) (body : Body) (flagged : List plain.Place) (decided : List Decided) (made : List Block) (old new : Made)
    (k : ℕ) (done : AreDone items body flagged decided k made old) (block : Block) (how : Decided) (there : Block)
    (at : slice_get body.blocks k ≡ Some block) (at_how : slice_get decided k ≡ Some how)
    (is : IsMade old new (λ after. IsBlockOf items body flagged after how k block there)) where
  abbrev longer : List Block
  longer = made ++ there ∷ []

  last : (after : Body) → Holds after new → (n : ℕ) (other : Block) (by : Decided) → n ≡ k → slice_get body.blocks n ≡ Some other →
      slice_get decided n ≡ Some by → BecomesOf items body flagged after by n other longer
  last after held n other by same here here_how =
      let block_is : block ≡ other = same_Some block other (sym at ∙ ap (λ (m : ℕ). slice_get body.blocks m) (sym same) ∙ here) in
      let how_is : how ≡ by = same_Some how by (sym at_how ∙ ap (λ (m : ℕ). slice_get decided m) (sym same) ∙ here_how) in (
        there,
        ap (λ (m : ℕ). slice_get longer m) (same ∙ sym done.long) ∙ slice_get-last made there,
        subst (λ (m : ℕ). IsBlockOf items body flagged after by m other there) (sym same)
            (subst (λ (b : Block). IsBlockOf items body flagged after by k b there) block_is
            (subst (λ (d : Decided). IsBlockOf items body flagged after d k block there) how_is (is.holds after held))),
      )

  pub done-more : AreDone items body flagged decided (k + 1) longer new
  done-more = record {
    first = is.grows.first ∙ done.first;
    long = (let l = length-append made (there ∷ []) in let m = done.long in omega (l, m, arith));
    each = λ after held n other by less here here_how. elim ((slice_get_cases made n).1) [
      | inl it ↦
          let m = done.long in
          let before : n < k = (let w = it.1 in omega (w, m, arith)) in
          let so = done.each after (holds-less after old new is.grows held) n other by before here here_how in
          (so.0, slice_get-append_left made (there ∷ []) n so.0 so.1, so.2)
      | inr past ↦
          let m = done.long in
          let same : n ≡ k = (let f = past.0 in omega (f, m, less, arith)) in
          last after held n other by same here here_how
    ];
  }

-- before any is done
pub done-first : (items : ItemTable) (body : Body) (flagged : List plain.Place) (decided : List Decided) (made : List Block)
    (new : Made) → made ≡ [] → new.first ≡ length body.blocks → AreDone items body flagged decided 0 made new
done-first items body flagged decided made new none first = record {
  first = first;
  long = ap length none;
  each = λ after held n block how less. absurd (let never : ⊥ = omega (less, arith) in never);
}
