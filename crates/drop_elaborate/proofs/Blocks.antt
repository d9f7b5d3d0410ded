-- A body of the elaborated graph does as that of the raw graph, given that from the beginning of each raw block it does
-- so up to the beginning of the next one: by induction on ticks, and then on the ranks of the raw graph.
use Rattle.std.proofs.Common.{◌≡◌, ◌⊎◌, inl, inr, ℕ, zero, suc, ◌≤◌, ◌<◌, false, Contains, Option, Some, None, slice_get, refl, ap, sym, subst, arith}
use Rattle.std.specs.Option.{option_map_or}
use Rattle.cfg_graph.specs.declared.graph.Block.{Block}
use Rattle.cfg_graph.specs.declared.graph.Body.{Body}
use Rattle.cfg_graph.specs.declared.graph.Kind.{Kind}
use Rattle.cfg_graph.specs.Edges.{IsRanked, is_turn, is_turn_kind, targets}
use Rattle.cfg_meaning.specs.Walk.{Next, block_does, ◌>>=◌}
use Rattle.store_model.specs.Effects.{Stuck, Out, Halts, Effects}
use Rattle.store_model.specs.Concrete.State.{State}
use Rattle.store_model.proofs.Concrete.Effects.{ticks_of}
use Rattle.drop_elaborate.proofs.Walks.{Walks}

turn_or_not : (kind : Kind) → (kind ≡ Kind.Turn) ⊎ (is_turn_kind kind ≡ false)
turn_or_not Kind.Plain = inr refl
turn_or_not Kind.Turn = inl refl
turn_or_not Kind.Cleanup = inr refl

module _ (p : Effects State) (bound : ℕ) (body : Body) (node : ℕ → ℕ → ℕ) (ranked : IsRanked body)
    (WalkR WalkE : Next State) (walks : Walks p ticks_of bound body node WalkR)
    (Entry : ℕ → State → State → Type 0) (P : Out State → Out State → Type 0) where
  -- what holds of what comes next, from each block to which a block leads, with no more ticks than so many
  abbrev NextDoes : Block → ℕ → Next State → Type 0
  NextDoes block ticks next = (m : ℕ) → Contains (targets block.term) m → (v v' : State) → v.ticks ≤ ticks →
      Entry m v v' → P (next m v) (WalkE m v')

  -- from the beginning of each raw block up to that of the next one
  pub record BlocksDo : Type 0 where
    pub plain : (n : ℕ) (block : Block) → slice_get body.blocks n ≡ Some block → is_turn block ≡ false →
        (w w' : State) → Entry n w w' → w.ticks ≤ bound → (next : Next State) → NextDoes block w.ticks next →
        P (block_does p (node n) block next w) (WalkE n w')
    -- a turn spends a tick
    pub turn : (n : ℕ) (block : Block) → slice_get body.blocks n ≡ Some block → block.kind ≡ Kind.Turn →
        (w w' : State) → Entry n w w' → w.ticks ≤ bound → (next : Next State) →
        ((t : ℕ) → suc t ≡ w.ticks → NextDoes block t next) → P (◌>>=◌ (p.tick w) (block_does p (node n) block next))
        (WalkE n w')
    pub nowhere : (n : ℕ) → slice_get body.blocks n ≡ None → (w w' : State) → Entry n w w' →
        P (Halts Stuck w) (WalkE n w')

  module _ (blocks : BlocksDo) where
    abbrev Before : ℕ → Type 0
    Before t = (n : ℕ) (w w' : State) → Entry n w w' → suc w.ticks ≤ t → w.ticks ≤ bound → P (WalkR n w) (WalkE n w')

    cases : (t : ℕ) → Before t → (n : ℕ) (w w' : State) → Entry n w w' → w.ticks ≤ t → w.ticks ≤ bound →
        ((block : Block) → slice_get body.blocks n ≡ Some block → is_turn block ≡ false → P (WalkR n w) (WalkE n w')) →
        P (WalkR n w) (WalkE n w')
    cases t ih n w w' entry l b plainly = by_block (slice_get body.blocks n) refl
      where
        by_kind : (block : Block) → slice_get body.blocks n ≡ Some block → (block.kind ≡ Kind.Turn)
            ⊎ (is_turn_kind block.kind ≡ false) → P (WalkR n w) (WalkE n w')
        by_kind block e (inl kind) =
            subst (λ o. P o (WalkE n w')) (sym (walks.turn n block e kind w b))
            (blocks.turn n block e kind w w' entry b WalkR (λ s e m c v v' few x. ih m v v' x (omega (arith, e))
            (omega (arith, e))))
        by_kind block e (inr flat) = plainly block e flat

        by_block : (o : Option Block) → slice_get body.blocks n ≡ o → P (WalkR n w) (WalkE n w')
        by_block None e = subst (λ o. P o (WalkE n w')) (sym (walks.nowhere n e w b)) (blocks.nowhere n e w w' entry)
        by_block (Some block) e = by_kind block e (turn_or_not block.kind)

    abbrev Lower : ℕ → ℕ → Type 0
    Lower r n = (block : Block) → slice_get body.blocks n ≡ Some block → is_turn block ≡ false → block.rank < r

    by_rank : (t : ℕ) → Before t → (r n : ℕ) (w w' : State) → Entry n w w' → w.ticks ≤ t → w.ticks ≤ bound →
        Lower r n → P (WalkR n w) (WalkE n w')
    by_rank t ih zero n w w' entry l b low = cases t ih n w w' entry l b
        (λ block there flat. absurd (let x = low block there flat in let never : ⊥ = omega arith in never))
    by_rank t ih (suc r) n w w' entry l b low =
        cases t ih n w w' entry l b (λ block there flat.
        subst (λ o. P o (WalkE n w')) (sym (walks.plain n block there flat w b))
        (blocks.plain n block there flat w w' entry b WalkR (λ m c v v' few e. by_rank t ih r m v v' e
        (omega arith) (omega arith)
        (λ next at flat'. let lower = ranked n m block next there c at flat' in let x =
        low block there flat in omega arith))))

    abbrev rank_of : ℕ → ℕ
    rank_of n = option_map_or (λ (block : Block). block.rank) (slice_get body.blocks n) 0

    low_of : (n : ℕ) → Lower (suc (rank_of n)) n
    low_of n block there flat = let x : rank_of n ≡ block.rank =
        ap (λ o. option_map_or (λ (block : Block). block.rank) o 0) there in omega (arith, x)

    by_ticks : (t n : ℕ) (w w' : State) → Entry n w w' → w.ticks ≤ t → w.ticks ≤ bound → P (WalkR n w) (WalkE n w')
    by_ticks zero n w w' entry l b = by_rank zero (λ n w w' e k b. absurd (let never : ⊥ = omega arith in never))
        (suc (rank_of n)) n w w' entry l b (low_of n)
    by_ticks (suc t) n w w' entry l b = by_rank (suc t) (λ n w w' e k b. by_ticks t n w w' e (omega arith) b)
        (suc (rank_of n)) n w w' entry l b (low_of n)

    pub blocks_do : (n : ℕ) (w w' : State) → Entry n w w' → w.ticks ≤ bound → P (WalkR n w) (WalkE n w')
    blocks_do n w w' entry b = by_ticks w.ticks n w w' entry (omega arith) b
