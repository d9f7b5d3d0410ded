-- How many drops of a graph are of each kind, and how many flags it has.
use Rattle.std.specs.Prelude.{◌≡◌, ℕ, ◌+◌, Bool, true, false, List, length, Option, Some, None, slice_get, count_by, sum_by}
use Rattle.std.specs.List.{range_with_len}
use Rattle.mir_ty.specs.ItemTable.{ItemTable}
use Rattle.store_model.specs.Places.Place.{Place}
use Rattle.cfg_graph.specs.declared.graph.Body.{Body}
use Rattle.cfg_graph.specs.declared.graph.Graph.{Graph}
use Rattle.drop_elaborate.specs.Kinds.{IsDrop, DropKind, Dead, Plain, Conditional, Opened, IsKind}

pub record DropTotals : Type 0 where
  pub dead : ℕ
  pub plain : ℕ
  pub conditional : ℕ
  pub opened : ℕ
  pub flags : ℕ

abbrev pub same_kind : DropKind → DropKind → Bool
same_kind Dead Dead = true
same_kind Plain Plain = true
same_kind Conditional Conditional = true
same_kind Opened Opened = true
same_kind one other = false

abbrev pub is_some_kind : DropKind → Option DropKind → Bool
is_some_kind kind None = false
is_some_kind kind (Some other) = same_kind kind other

-- how many of the first blocks end by a drop of a kind
abbrev pub times : (kinds : ℕ → Option DropKind) → DropKind → ℕ → ℕ
times kinds kind blocks = count_by (λ n. is_some_kind kind (kinds n)) (range_with_len 0 blocks)

-- of a body, and the one that is elaborated from it
pub record AreTotals (items : ItemTable) (body body' : Body) (totals : DropTotals) : Type 0 where
  pub kinds : ℕ → Option DropKind
  pub drops : (n : ℕ) (place : Place) → IsDrop items body n place →
      (kind : DropKind) × (kinds n ≡ Some kind) × IsKind items body n place kind
  pub others : (n : ℕ) → ((place : Place) → IsDrop items body n place → ⊥) → kinds n ≡ None
  pub dead : totals.dead ≡ times kinds Dead (length body.blocks)
  pub plain : totals.plain ≡ times kinds Plain (length body.blocks)
  pub conditional : totals.conditional ≡ times kinds Conditional (length body.blocks)
  pub opened : totals.opened ≡ times kinds Opened (length body.blocks)
  pub flags : length body'.locals ≡ length body.locals + totals.flags

-- over all bodies
pub record AreSums (raw graph : Graph) (sums : DropTotals) : Type 0 where
  pub of_bodies : List DropTotals
  pub count : length of_bodies ≡ length raw.bodies
  pub each : (n : ℕ) (body body' : Body) (totals : DropTotals) → slice_get raw.bodies n ≡ Some body →
      slice_get graph.bodies n ≡ Some body' → slice_get of_bodies n ≡ Some totals →
      AreTotals raw.items body body' totals
  pub dead : sums.dead ≡ sum_by (λ t. t.dead) of_bodies
  pub plain : sums.plain ≡ sum_by (λ t. t.plain) of_bodies
  pub conditional : sums.conditional ≡ sum_by (λ t. t.conditional) of_bodies
  pub opened : sums.opened ≡ sum_by (λ t. t.opened) of_bodies
  pub flags : sums.flags ≡ sum_by (λ t. t.flags) of_bodies
