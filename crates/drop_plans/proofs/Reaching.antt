-- A block to which no path leads, and one to which some path does.
use Rattle.std.proofs.Common.{◌≡◌, ◌↔◌, ◌⊎◌, inl, inr, ◌∙◌, ◌<◌, ◌≤◌, ℕ, zero, suc, Bool, true, false, ◌||◌, List, [], ◌∷◌, Option, Some, flat_map, length, replicate, slice_get, refl, sym, ap, subst, arith}
use Rattle.std.specs.Prelude.{slice_index_or, nat_lt, unwrap_or}
use Rattle.std.proofs.lemmas.Bool.{false≢true}
use Rattle.std.proofs.lemmas.Option.{slice_get_within, slice_get-get_or, unwrap_or-slice_get}
use Rattle.mir_ty.specs.ItemTable.{ItemTable}
use Rattle.store_model.specs.Places.Place.{Place, whole_local}
use Rattle.cfg_graph.specs.declared.graph.Block.{Block}
use Rattle.cfg_graph.specs.declared.graph.Body.{Body}
use Rattle.cfg_graph.specs.Uses.{stmt_uses}
use Rattle.drop_elaborate.specs.Kinds.{MayBe}
use Rattle.init_flow.specs.Carried.{Bits}
use Rattle.init_flow.specs.Fits.{Fits}
use Rattle.init_flow.specs.Moved.{LeadsTo, masks_of}
use Rattle.init_flow.specs.Switches.{all_switched}
use Rattle.init_flow.specs.declared.switches.Switch.{Switch}
use Rattle.drop_plans.specs.Analysed.{AreAnalyses}
use Rattle.drop_plans.specs.AtDrops.{RowKnows, EndsInDrop, starts_on}
use Rattle.drop_plans.specs.Known.{RowsSay}
use Rattle.drop_plans.specs.declared.analyses.Analyses.{Analyses}
use Rattle.drop_plans.proofs.Knowing.{passed-says, none-comes}

off : (k n : ℕ) → slice_index_or (replicate n false) k false ≡ true → ⊥
off k zero h = absurd (false≢true h)
off zero (suc n) h = absurd (false≢true h)
off (suc k) (suc n) h = off k n h

either-on : (a b : Bool) → (a || b) ≡ true → (a ≡ true) ⊎ (b ≡ true)
either-on true b h = inl refl
either-on false b h = inr h

left-off : (a b : Bool) → (a || b) ≡ false → a ≡ true → ⊥
left-off true b h e = false≢true (sym h)
left-off false b h e = false≢true e

right-off : (a b : Bool) → (a || b) ≡ false → b ≡ true → ⊥
right-off true b h e = false≢true (sym h)
right-off false b h e = false≢true (sym h ∙ e)

-- the row of a block, as it is looked up
pub start-row : (rows : List Bits) (n : ℕ) (o : Option Bits) → o ≡ slice_get rows n → unwrap_or o [] ≡ slice_index_or rows n []
start-row rows n o is = ap (λ (z : Option Bits). unwrap_or z []) is ∙ unwrap_or-slice_get rows n []

-- a row without bits
pub short : (row : Bits) (n : ℕ) → n ≡ length row → n ≤ 0 → nat_lt 0 n ≡ slice_index_or row 0 false
short [] n long none = ap (λ (z : ℕ). nat_lt 0 z) long
short (bit ∷ row) n long none = absurd (omega (long, none, arith))

module _ (items : ItemTable) (body : Body) (told : Analyses) (are : AreAnalyses items body told) (n : ℕ) (block : Block)
    (at : slice_get body.blocks n ≡ Some block) (ends : EndsInDrop block) (gone : Bool) where
  abbrev paths : List Place
  paths = told.forest.paths

  abbrev first : Place
  first = slice_index_or paths 0 (whole_local 0)

  within : n < length body.blocks
  within = slice_get_within body.blocks n block at

  first-there : (k : ℕ) (path : Place) → slice_get paths k ≡ Some path → slice_get paths 0 ≡ Some first
  first-there k path here =
      slice_get-get_or paths 0 (whole_local 0) (let l = slice_get_within paths k path here in omega (l, arith))

  pub unreached : (starts_on told.present n || starts_on told.gone n) ≡ false → (row : Bits) →
      row ≡ replicate (length paths) false → RowKnows items body paths n gone row
  unreached never row is k path here = (
    λ on. absurd (off k (length paths) (ap (λ (z : Bits). slice_index_or z k false) (sym is) ∙ on)),
    λ may. absurd (none-comes items body told.forest are.forest n block at ends.0 ends.1 ends.2 ends.3 gone first
        (λ lead. right-off (starts_on told.present n) (starts_on told.gone n) never
        (((are.gone.each n within).bits 0 first (first-there k path here)).1 lead))
        (λ lead. left-off (starts_on told.present n) (starts_on told.gone n) never
        (((are.present.each n within).bits 0 first (first-there k path here)).1 lead))
        path may),
  )

  pub reached : (starts_on told.present n || starts_on told.gone n) ≡ true → (rows : List Bits) →
      RowsSay items body paths gone rows → (switches : List Switch) →
      Fits paths gone switches (flat_map stmt_uses block.stmts) → (start after : Bits) →
      start ≡ slice_index_or rows n [] → after ≡ all_switched told.below switches start →
      RowKnows items body paths n gone after
  reached some rows say switches fits start after same made k path here =
      elim (either-on (starts_on told.present n) (starts_on told.gone n) some) [
        | inl on ↦ known false (((are.present.each n within).bits 0 first (first-there k path here)).0 on)
        | inr on ↦ known true (((are.gone.each n within).bits 0 first (first-there k path here)).0 on)
      ]
    where
      made-so : after ≡ all_switched (masks_of paths) switches (slice_index_or rows n [])
      made-so = made ∙ (λ i. all_switched (are.below i) switches (same i))

      known : (g : Bool) → LeadsTo items body n first g → (slice_index_or after k false ≡ true) ↔ MayBe items body n path gone
      known g lead =
          subst (λ (z : Bits). (slice_index_or z k false ≡ true) ↔ MayBe items body n path gone) (sym made-so)
          (passed-says items body told.forest are.forest n block at ends.0 ends.1 ends.2 ends.3 gone
          (slice_index_or rows n []) (say.each n within) switches fits k path here first g lead)
