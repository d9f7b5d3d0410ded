-- All blocks that are made of a body keep to cleanup blocks or to others, and what is made for them is fine.
use Rattle.std.proofs.Common.{◌≡◌, ◌⊎◌, inl, inr, ◌∙◌, ◌∷◌, [], ◌++◌, ℕ, Bool, true, false, List, Some, length, slice_get, refl, sym, ap, subst}
use Rattle.std.proofs.lemmas.Option.{none-some}
use Rattle.mir_ty.proofs.ListLemmas.{slice_get-push_cases}
use Rattle.mir_ty.specs.ItemTable.{ItemTable}
use Rattle.store_model.specs.Places.Place as plain
use Rattle.cfg_graph.specs.declared.graph.Block.{Block}
use Rattle.cfg_graph.specs.declared.graph.Body.{Body}
use Rattle.cfg_graph.specs.declared.graph.Kind.{Kind}
use Rattle.cfg_graph.specs.Edges.{is_cleanup, is_cleanup_kind}
use Rattle.cfg_graph.specs.WellFormed.Cleanup.{cleans_up, is_resume}
use Rattle.drop_elaborate.specs.Build.{Made}
use Rattle.drop_elaborate.specs.Elaborated.{kind_after}
use Rattle.drop_blocks.specs.Ladders.{no_block}
use Rattle.drop_ends.specs.Ends.{EndMade}
use Rattle.drop_ends.specs.declared.decided.Decided.{Decided}
use Rattle.drop_bodies.proofs.EndsKept.{OutOf, ResumeFine, EndFine, end-kept}
use Rattle.drop_bodies.proofs.Kept.{TermKeeps, Keeps, Led, led-on, WellMade, well-none, well-then, term-wider}
use Rattle.drop_bodies.specs.Ended.{AreEnded, none_ended, one_ended}

module _ (items : ItemTable) (body : Body) (flagged : List plain.Place) (decided : List Decided) (Q : Block → Type 0) where
  -- a block of the body, by whether it is a cleanup block
  abbrev pub Raw : Bool → ℕ → Type 0
  Raw b m = (block : Block) × (slice_get body.blocks m ≡ Some block) × (is_cleanup block ≡ b)

  abbrev pub after_kind : Kind → Kind
  after_kind kind = kind_after items body flagged body kind

  pub kind-cleans : (kind : Kind) → is_cleanup_kind (after_kind kind) ≡ is_cleanup_kind kind
  kind-cleans Kind.Plain = refl
  kind-cleans Kind.Turn = refl
  kind-cleans Kind.Cleanup = refl

  pub record AllKept (made : List Block) (new : Made) : Type 0 where
    pub back : WellMade Q Raw (no_block (length body.blocks)) new
    pub own : (n : ℕ) (there : Block) → slice_get made n ≡ Some there → Keeps (Led Raw new) there

  module _ (resumes : ResumeFine Q)
      (ends : (n : ℕ) (block : Block) (how : Decided) → slice_get body.blocks n ≡ Some block → slice_get decided n ≡ Some how →
      EndFine Q items body flagged (after_kind block.kind) how block.term)
      (out : (n : ℕ) (block : Block) → slice_get body.blocks n ≡ Some block → (b : Bool) (m : ℕ) →
      OutOf (is_cleanup block) block.term b m → Raw b m)
      (cleans : (n : ℕ) (block : Block) → slice_get body.blocks n ≡ Some block → is_cleanup block ≡ true →
      cleans_up block.term ≡ true)
      (calm : (n : ℕ) (block : Block) → slice_get body.blocks n ≡ Some block → is_cleanup block ≡ false →
      is_resume block.term ≡ false) where
    module _ (n : ℕ) (made : List Block) (old new : Made) (block there : Block) (how : Decided) (kept : AllKept made old)
        (at : slice_get body.blocks n ≡ Some block) (at_how : slice_get decided n ≡ Some how) (kind_is : there.kind ≡ block.kind)
        (leads : WellMade Q (OutOf (is_cleanup block) block.term) old new
        × TermKeeps (Led (OutOf (is_cleanup block) block.term) new) (is_cleanup block) there.term) where
      wider : (b : Bool) (m : ℕ) → Led (OutOf (is_cleanup block) block.term) new b m → Led Raw new b m
      wider b m (inl x) = inl (out n block at b m x)
      wider b m (inr x) = inr x

      own-now : (k : ℕ) (last : Block) → (slice_get made k ≡ Some last) ⊎ ((k ≡ length made) × (there ≡ last)) →
          Keeps (Led Raw new) last
      own-now k last (inl before) =
          term-wider (Led Raw old) (Led Raw new) (is_cleanup last) last.term
          (λ b m x. led-on Raw old new leads.0.grows b m x) (kept.own k last before)
      own-now k last (inr here) =
          subst (Keeps (Led Raw new)) here.1
          (subst (λ (b : Bool). TermKeeps (Led Raw new) b there.term) (sym (ap is_cleanup_kind kind_is))
          (term-wider (Led (OutOf (is_cleanup block) block.term) new) (Led Raw new) (is_cleanup block) there.term wider leads.1))

      pub kept-more : AllKept (made ++ there ∷ []) new
      kept-more = record {
        back = well-then Q Raw (OutOf (is_cleanup block) block.term) (no_block (length body.blocks)) old new kept.back leads.0
            (λ b m x. inl (out n block at b m x));
        own = λ k last here. own-now k last (slice_get-push_cases made there k last here);
      }

    pub kept-all : (n : ℕ) (made : List Block) (new : Made) → AreEnded items body flagged decided n made new → AllKept made new
    kept-all _ _ _ none_ended = record {
      back = well-none Q Raw (no_block (length body.blocks));
      own = λ k there here. absurd (none-some there here);
    }
    kept-all _ _ _ (one_ended n made old new block there how ended at at_how kind_is is) =
        let kind = after_kind block.kind in
        let same = kind-cleans block.kind in
        let leads =
        end-kept Q items body flagged kind how block.term old resumes (ends n block how at at_how)
        (λ c. cleans n block at (sym same ∙ c)) (λ c. calm n block at (sym same ∙ c)) in
        kept-more n made old new block there how (kept-all n made old ended) at at_how kind_is
        (subst (λ (b : Bool). WellMade Q (OutOf b block.term) old new × TermKeeps (Led (OutOf b block.term) new) b there.term) same
        (subst (λ (e : EndMade). WellMade Q (OutOf (is_cleanup_kind kind) block.term) old e.made
        × TermKeeps (Led (OutOf (is_cleanup_kind kind) block.term) e.made) (is_cleanup_kind kind) e.term) (sym is) leads))
