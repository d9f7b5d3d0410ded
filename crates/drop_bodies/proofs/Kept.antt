-- Blocks that are made one after another: each is fine by itself, and keeps to cleanup blocks or to others.
use Rattle.std.proofs.Common.{◌≡◌, ◌⊎◌, inl, inr, ◌∙◌, ◌∷◌, [], ◌+◌, ◌<◌, ◌≤◌, ℕ, Bool, true, false, List, Some, Contains, length, slice_get, refl, sym, ap, subst, arith}
use Rattle.std.proofs.lemmas.Bool.{cases_lt}
use Rattle.std.proofs.lemmas.List.{length-append}
use Rattle.std.proofs.lemmas.Option.{slice_get_within, slice_get_cases}
use Rattle.mir_ty.proofs.ListLemmas.{slice_get-append_left, slice_get-last, slice_get-push_cases}
use Rattle.cfg_graph.specs.declared.graph.Block.{Block}
use Rattle.cfg_graph.specs.declared.graph.Kind.{Kind}
use Rattle.cfg_graph.specs.declared.statement.Stmt.{Stmt}
use Rattle.cfg_graph.specs.declared.terminator.Term.{Term}
use Rattle.cfg_graph.specs.Edges.{onward, unwind_targets, is_cleanup, is_cleanup_kind}
use Rattle.cfg_graph.specs.WellFormed.Cleanup.{cleans_up, is_resume}
use Rattle.drop_elaborate.specs.Build.{Made}
use Rattle.drop_blocks.proofs.LadderLaws.{stay, grow}
use Rattle.drop_blocks.specs.Ladders.{with_one}
use Rattle.drop_blocks.specs.Standing.{Grows}

-- from a cleanup block all edges stay among cleanup blocks; from another one exactly unwinding leads to them
pub record TermKeeps (To : (cleanup : Bool) → ℕ → Type 0) (cleanup : Bool) (term : Term) : Type 0 where
  pub onward_to : (m : ℕ) → Contains (onward term) m → To cleanup m
  pub unwinds_to : (m : ℕ) → Contains (unwind_targets term) m → To true m
  pub cleans : cleanup ≡ true → cleans_up term ≡ true
  pub calm : cleanup ≡ false → is_resume term ≡ false

pub term-wider : (L M : Bool → ℕ → Type 0) (cleanup : Bool) (term : Term) → ((b : Bool) (m : ℕ) → L b m → M b m) →
    TermKeeps L cleanup term → TermKeeps M cleanup term
term-wider L M cleanup term f k = record {
  onward_to = λ m has. f cleanup m (k.onward_to m has);
  unwinds_to = λ m has. f true m (k.unwinds_to m has);
  cleans = k.cleans;
  calm = k.calm;
}

abbrev pub Keeps : (To : (cleanup : Bool) → ℕ → Type 0) → Block → Type 0
Keeps To block = TermKeeps To (is_cleanup block) block.term

pub keeps-wider : (L M : Bool → ℕ → Type 0) (block : Block) → ((b : Bool) (m : ℕ) → L b m → M b m) → Keeps L block →
    Keeps M block
keeps-wider L M block f k = term-wider L M (is_cleanup block) block.term f k

-- a block that was made, and whether it is a cleanup block
pub record IsNew (new : Made) (cleanup : Bool) (m : ℕ) : Type 0 where
  pub index : ℕ
  pub block : Block
  pub at : slice_get new.blocks index ≡ Some block
  pub number : m ≡ new.first + index
  pub kind : is_cleanup block ≡ cleanup

pub new-later : (a b : Made) → Grows a b → (cleanup : Bool) (m : ℕ) → IsNew a cleanup m → IsNew b cleanup m
new-later a b g cleanup m is = record {
  index = is.index;
  block = is.block;
  at = g.stays is.index is.block is.at;
  number = is.number ∙ ap (λ (n : ℕ). n + is.index) (sym g.first);
  kind = is.kind;
}

-- a block outside that may be led to, or one that was made
abbrev pub Led : (L : Bool → ℕ → Type 0) → Made → Bool → ℕ → Type 0
Led L new b m = L b m ⊎ IsNew new b m

pub led-on : (L : Bool → ℕ → Type 0) (a b : Made) → Grows a b → (c : Bool) (m : ℕ) → Led L a c m → Led L b c m
led-on L a b g c m (inl l) = inl l
led-on L a b g c m (inr is) = inr (new-later a b g c m is)

module _ (Q : Block → Type 0) where
  pub record WellMade (L : Bool → ℕ → Type 0) (old new : Made) : Type 0 where
    pub grows : Grows old new
    pub longer : length old.blocks ≤ length new.blocks
    pub each : (i : ℕ) (block : Block) → length old.blocks ≤ i → slice_get new.blocks i ≡ Some block →
        Q block × Keeps (Led L new) block

  pub well-none : (L : Bool → ℕ → Type 0) (made : Made) → WellMade L made made
  well-none L made = record {
    grows = stay made;
    longer = omega arith;
    each = λ i block far at. (let w = slice_get_within made.blocks i block at in absurd (let never : ⊥ = omega (w, far, arith) in never));
  }

  pub well-wider : (L M : Bool → ℕ → Type 0) (a b : Made) → ((c : Bool) (m : ℕ) → L c m → M c m) → WellMade L a b →
      WellMade M a b
  well-wider L M a b f g = record {
    grows = g.grows;
    longer = g.longer;
    each = λ i block far at.
        let e = g.each i block far at in
        (e.0, keeps-wider (Led L b) (Led M b) block (λ c m x. by c m x) e.1);
  }
    where
      by : (c : Bool) (m : ℕ) → Led L b c m → Led M b c m
      by c m (inl l) = inl (f c m l)
      by c m (inr is) = inr is

  -- of what may be led to from later blocks each is outside, or was made earlier
  pub well-then : (L M : Bool → ℕ → Type 0) (a b c : Made) → WellMade L a b → WellMade M b c →
      ((k : Bool) (m : ℕ) → M k m → Led L b k m) → WellMade L a c
  well-then L M a b c g h into = record {
    grows = grow a b c g.grows h.grows;
    longer = (let x = g.longer in let y = h.longer in omega (x, y, arith));
    each = λ i block far at. by i block far at (cases_lt i (length b.blocks));
  }
    where
      early : (i : ℕ) (block : Block) → i < length b.blocks → slice_get c.blocks i ≡ Some block → slice_get b.blocks i ≡ Some block
      early i block less at = elim ((slice_get_cases b.blocks i).1) [
        | inl it ↦ it.2 ∙ sym (h.grows.stays i it.0 it.2) ∙ at
        | inr past ↦ (let f = past.0 in absurd (let never : ⊥ = omega (f, less, arith) in never))
      ]

      later : (k : Bool) (m : ℕ) → Led M c k m → Led L c k m
      later k m (inl x) = led-on L b c h.grows k m (into k m x)
      later k m (inr is) = inr is

      by : (i : ℕ) (block : Block) → length a.blocks ≤ i → slice_get c.blocks i ≡ Some block →
          (i < length b.blocks) ⊎ (length b.blocks ≤ i) → Q block × Keeps (Led L c) block
      by i block far at (inl less) =
          let e = g.each i block far (early i block less at) in
          (e.0, keeps-wider (Led L b) (Led L c) block (λ k m x. led-on L b c h.grows k m x) e.1)
      by i block far at (inr more_far) =
          let e = h.each i block more_far at in (e.0, keeps-wider (Led M c) (Led L c) block later e.1)

  abbrev pub one_of : Kind → List Stmt → Term → Made → Block
  one_of kind stmts term made = record { kind = kind; rank = made.base + length made.blocks; stmts = stmts; term = term }

  -- one block more
  pub well-one : (L : Bool → ℕ → Type 0) (kind : Kind) (stmts : List Stmt) (term : Term) (made : Made) →
      Q (one_of kind stmts term made) → Keeps L (one_of kind stmts term made) →
      WellMade L made (with_one kind stmts term made).made
  well-one L kind stmts term made q k = record {
    grows = record { first = refl; stays = λ i block e. slice_get-append_left made.blocks _ i block e };
    longer = (let l = length-append made.blocks (one_of kind stmts term made ∷ []) in omega (l, arith));
    each = λ i block far at. so i block far (slice_get-push_cases made.blocks (one_of kind stmts term made) i block at);
  }
    where
      to : Made
      to = (with_one kind stmts term made).made

      so : (i : ℕ) (block : Block) → length made.blocks ≤ i →
          (slice_get made.blocks i ≡ Some block) ⊎ ((i ≡ length made.blocks) × (one_of kind stmts term made ≡ block)) →
          Q block × Keeps (Led L (with_one kind stmts term made).made) block
      so i block far (inl early) =
          (let w = slice_get_within made.blocks i block early in absurd (let never : ⊥ = omega (w, far, arith) in never))
      so i block far (inr last) =
          subst (λ (b : Block). Q b × Keeps (Led L (with_one kind stmts term made).made) b) last.1
          (q, keeps-wider L (Led L (with_one kind stmts term made).made) (one_of kind stmts term made) (λ c m x. inl x) k)

  pub one-new : (kind : Kind) (stmts : List Stmt) (term : Term) (made : Made) →
      IsNew (with_one kind stmts term made).made (is_cleanup_kind kind) (with_one kind stmts term made).at
  one-new kind stmts term made = record {
    index = length made.blocks;
    block = one_of kind stmts term made;
    at = slice_get-last made.blocks (one_of kind stmts term made);
    number = refl;
    kind = refl;
  }
