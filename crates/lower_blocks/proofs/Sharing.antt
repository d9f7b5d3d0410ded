-- A shared block is found, or made.
use Rattle.std.proofs.Common.{◌≡◌, ◌∙◌, ℕ, Option, Some, None, sym, ap}
use Rattle.cfg_graph.specs.declared.graph.Kind.{Kind}
use Rattle.lower_rules.specs.Build.{LoweringFrame, BlockRest, Building, SharedEnd, closed, end_among, end_kind, end_rest, listed_at, next_number, share, shared_or, with_shared}

module _ (f : LoweringFrame) (e : SharedEnd) (place : ℕ) (s : Building) (at : place ≡ listed_at e) where
  looked_for : (o : Option ℕ) → end_among e (s.shared place) ≡ o → shared_or f o e s ≡ share f e s
  looked_for o is =
      ap (λ (a : Option ℕ). shared_or f a e s) (sym is) ∙ ap (λ (p : ℕ). shared_or f (end_among e (s.shared p)) e s) at

  pub is_found : (n : ℕ) → end_among e (s.shared place) ≡ Some n → (n, s) ≡ share f e s
  is_found n is = looked_for (Some n) is

  pub is_made : (n : ℕ) (kind : Kind) (k : BlockRest) (opened made new : Building) →
      end_among e (s.shared place) ≡ None →
      opened ≡ s → k ≡ end_rest f e → kind ≡ end_kind f e → n ≡ next_number opened → made ≡ closed kind k opened →
      new ≡ with_shared e n made → (n, new) ≡ share f e s
  is_made n kind k opened made new is same rests of_kind number closes keeps =
      (λ i. (n, (keeps ∙ ap (with_shared e n) (closes ∙ (λ j. closed (of_kind j) (rests j) (same j)))) i))
      ∙ ap (λ (m : ℕ). (m, with_shared e m (closed (end_kind f e) (end_rest f e) s))) (number ∙ ap next_number same)
      ∙ looked_for None is
