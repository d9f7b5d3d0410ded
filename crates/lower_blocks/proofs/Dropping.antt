-- Entries are dropped one after the other, the oldest first.
use Rattle.std.proofs.Common.{◌≡◌, ◌∙◌, ◌++◌, ◌∷◌, ℕ, Bool, true, false, List, [], Option, Some, None, sym, ap, if◌then◌else◌}
use Rattle.cfg_graph.specs.declared.graph.Kind.{Kind}
use Rattle.cfg_graph.specs.declared.terminator.Term.{Term}
use Rattle.mir_ty.specs.Facts.{needs_drop}
use Rattle.mir_ty.specs.ItemTable.{ItemTable}
use Rattle.lower_rules.specs.Build.{LoweringFrame, BlockRest, Building, GoesTo, closed, drop_all, drop_one, drops_before, drops_to, leave_by, next_number, panic_drops, place_of, share, unwinding}
use Rattle.src_meaning.specs.Forms.{site_of_key}
use Rattle.src_meaning.specs.Scopes.{Entry, Scopes, entry_site, needing_drop}
use Rattle.lower_blocks.specs.Building.{drop_shared}

-- what needs a drop, with an entry more

pub needing : (items : ItemTable) (e : Entry) (es : List Entry) → needs_drop items e.ty ≡ true →
    needing_drop items (e ∷ es) ≡ e ∷ needing_drop items es
needing items e es is = ap (λ (b : Bool). if b then e ∷ needing_drop items es else needing_drop items es) is

pub not_needing : (items : ItemTable) (e : Entry) (es : List Entry) → needs_drop items e.ty ≡ false →
    needing_drop items (e ∷ es) ≡ needing_drop items es
not_needing items e es is = ap (λ (b : Bool). if b then e ∷ needing_drop items es else needing_drop items es) is

module _ (f : LoweringFrame) where
  -- a drop that a panic leaves for these
  abbrev pub dropping : ℕ → ℕ → List Entry → Building → BlockRest × Building
  dropping key to drops s = unwinding f (Term.DropAt (place_of f (site_of_key key)) to) key drops s

  pub one_dropped : (e : Entry) (es : List Entry) (S : Scopes) (k : BlockRest) (s : Building) (n : ℕ)
      (mid : BlockRest × Building) (b : Building) (new : BlockRest × Building) →
      mid ≡ drop_all f es S k s → n ≡ next_number mid.1 → b ≡ closed Kind.Plain mid.0 mid.1 →
      new ≡ dropping e.key n (es ++ panic_drops f S) b → new ≡ drop_all f (e ∷ es) S k s
  one_dropped e es S k s n mid b new is number closes made =
      made
      ∙ ap (λ (m : ℕ). dropping e.key m (es ++ panic_drops f S) b) number
      ∙ ap (λ (c : Building). dropping e.key (next_number mid.1) (es ++ panic_drops f S) c) closes
      ∙ ap (λ (r : BlockRest × Building). drop_one f (entry_site e) (es ++ panic_drops f S) r.0 r.1) is

  pub one_shared : (e : Entry) (es : List Entry) (S : Scopes) (to mid new : ℕ × Building) →
      mid ≡ drops_before f es S to → new ≡ drop_shared f e (es ++ panic_drops f S) mid.0 mid.1 →
      new ≡ drops_before f (e ∷ es) S to
  one_shared e es S to mid new is made =
      made ∙ ap (λ (r : ℕ × Building). drop_shared f e (es ++ panic_drops f S) r.0 r.1) is

  pub one_here : (e : Entry) (es : List Entry) (S : Scopes) (to mid : ℕ × Building) (none new : BlockRest × Building) →
      mid ≡ drops_before f es S to → new ≡ dropping e.key mid.0 (es ++ panic_drops f S) mid.1 →
      new ≡ drops_to f (e ∷ es) S to none
  one_here e es S to mid none new is made =
      made ∙ ap (λ (r : ℕ × Building). dropping e.key r.0 (es ++ panic_drops f S) r.1) is

  -- nothing is dropped
  pub none_left : (o : Option ℕ) (es : List Entry) (S : Scopes) (k : BlockRest) (s : Building) → es ≡ [] →
      (k, s) ≡ leave_by f o es S k s
  none_left (Some block) es S k s is =
      sym (ap (λ (ds : List Entry). drops_to f ds S (share f (GoesTo block) s) (k, s)) is)
  none_left None es S k s is = sym (ap (λ (ds : List Entry). drop_all f ds S k s) is)
