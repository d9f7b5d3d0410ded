-- Where a panic goes on: asked again, no block is made.
use Rattle.std.proofs.Common.{◌≡◌, ◌∙◌, ◌∷◌, ◌⊎◌, inl, inr, ℕ, List, Option, Some, None, sym, ap, subst}
use Rattle.cfg_graph.specs.declared.terminator.Unwind.{Unwind}
use Rattle.lower_rules.specs.Build.{LoweringFrame, SharedEnd, Resumes, DropsThen, Building, chain, share, unwind_to}
use Rattle.lower_rules.proofs.KnownChains.{Keeps, chain_from, chain_of_down, down_again, down_later, share_keeps}
use Rattle.src_meaning.specs.Scopes.{Entry}
use Rattle.mir_base.specs.declared.place_in_text.Key.{Key}
use Rattle.lower_blocks.specs.Building.{IsBelow, IsKnownDown, listed_below}
use Rattle.lower_blocks.specs.declared.drops.Below.{Below}

module _ (f : LoweringFrame) where
  pub asked_again : (es : List Entry) (s s' : Building) (u : Unwind) → (u, s') ≡ unwind_to f es s →
      IsKnownDown f es u s'
  asked_again es s s' u is = subst (λ (r : Unwind × Building). unwind_to f es r.1 ≡ r) (sym is) (down_again f es s)

  -- it stays known where blocks are made
  pub stays_below : (below : Below) (drops : List Entry) (s s' : Building) → Keeps s.shared s'.shared →
      IsBelow f below drops s → IsBelow f below drops s'
  stays_below below drops s s' keeps is = by_youngest below.youngest is
    where
      by_youngest : (o : Option Key) → listed_below f below o drops s → listed_below f below o drops s'
      by_youngest None listed = listed
      by_youngest (Some key) listed =
          (listed.0, listed.1, listed.2, listed.3, down_later f listed.1 s s' below.unwind listed.4 keeps)

  -- a shared block more
  pub shared_keeps : (e : SharedEnd) (s s' : Building) (n : ℕ) → (n, s') ≡ share f e s → Keeps s.shared s'.shared
  shared_keeps e s s' n is =
      subst (λ (r : ℕ × Building). Keeps s.shared r.1.shared) (sym is) (share_keeps f e s)

  -- the chain of entries of which it is known where a panic goes on

  pub chain_at : (es : List Entry) (s : Building) (u : Unwind) (n : ℕ) → u ≡ Unwind.Block n →
      IsKnownDown f es u s → (n, s) ≡ chain f es s
  chain_at es s u n is known = sym (chain_of_down f es s u known ∙ ap (λ (w : Unwind). chain_from f w s) is)

  pub chain_resumed : (es : List Entry) (s : Building) (u : Unwind) → (u ≡ Unwind.Resume) ⊎ (u ≡ Unwind.Abort) →
      IsKnownDown f es u s → share f Resumes s ≡ chain f es s
  chain_resumed es s u (inl resumes) known =
      sym (chain_of_down f es s u known ∙ ap (λ (w : Unwind). chain_from f w s) resumes)
  chain_resumed es s u (inr aborts) known =
      sym (chain_of_down f es s u known ∙ ap (λ (w : Unwind). chain_from f w s) aborts)

  -- one entry more
  pub unwound_above : (e : Entry) (es : List Entry) (n : ℕ) (s rest : Building) (made : ℕ × Building) →
      (n, rest) ≡ chain f es s → made ≡ share f (DropsThen e.key n Unwind.Abort) rest →
      (Unwind.Block made.0, made.1) ≡ unwind_to f (e ∷ es) s
  unwound_above e es n s rest made below is =
      ap (λ (r : ℕ × Building). (Unwind.Block r.0, r.1))
      (is ∙ ap (λ (r : ℕ × Building). share f (DropsThen e.key r.0 Unwind.Abort) r.1) below)
