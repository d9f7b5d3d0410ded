-- What is lowered holds its code: blocks, statements and jumps.
use Rattle.std.proofs.Common.{ℕ, Bool, true, false, List, [], ◌∷◌, length, refl}
use Rattle.cfg_graph.specs.declared.graph.Kind.{Kind}
use Rattle.cfg_graph.specs.declared.terminator.Term.{Term}
use Rattle.cfg_graph.specs.declared.terminator.Unwind.{Unwind}
use Rattle.mir_ty.specs.Facts.{needs_drop}
use Rattle.store_model.specs.Effects as effects
use Rattle.store_model.specs.Effects.{EffectSite}
use Rattle.store_model.specs.Places.Place.{whole_local}
use Rattle.src_meaning.specs.Forms.{Destination, Into, LoopsAndGuards, bound_entry, site_of_key, is_never}
use Rattle.src_meaning.specs.Scopes.{innermost, around_innermost, with_entry}
use Rattle.src_meaning.specs.Shape.{NodeHead, Shape, BoundName, site_at}
use Rattle.lower_rules.specs.Rules.{EvaluatesAt, ReachesAt, NodeCode, CodeIfAny, PutsUnitIf, array_around, ElementAt, BorrowAt, StatementsAt, TailAt, BlockAt, EvaluatingAt, named, LetNameAt, LetPartsAt, EmptiedAt, DeclaredAt, LetValueAt, LetAt, JumpValueAt}
use Rattle.lower_rules.specs.Spots.{CodeTarget, Ways, CodeSpot, Nothing, panic_drops}
use Rattle.lower_rules.specs.Build as build
use Rattle.lower_rules.specs.Build.{LoweringFrame, Lowers, nothing}
use Rattle.lower_rules.specs.Lower as lower
use Rattle.lower_rules.specs.Lower.{Evaluates, Reaches, NodeLower, LowerIfAny}
use Rattle.lower_rules.proofs.LaidBlocks as laid
use Rattle.lower_rules.proofs.LaidEffects as effect_rules
use Rattle.lower_rules.proofs.LaidScopes as scope_rules
use Rattle.lower_rules.proofs.LoweredRules as lowered_rules
use Rattle.lower_rules.proofs.LoweredRules.{one_lowers, lowers_as, without, with_one, none_lower, deliver_at_lowers, own_lowers, unit_lowers, alone_lowers, bind_lowers}

module _ (t : CodeTarget) where
  abbrev f : LoweringFrame
  f = laid.f t

  abbrev L : Lowers → (Ways → CodeSpot) → Type 0
  L P sp = laid.Lowered t P sp

  abbrev LowersE : Evaluates → EvaluatesAt → Type 0
  LowersE e P = (around : LoopsAndGuards) (own : Bool) (to : Destination) → L (e around own to) (λ c. P around c own to)

  abbrev LowersR : Reaches → ReachesAt → Type 0
  LowersR r Q = (around : LoopsAndGuards) → L (r around) (λ c. Q around c)

  abbrev LowersAs : NodeLower → NodeCode → Type 1
  LowersAs = lowered_rules.LowersAs t

  abbrev AllLower : List NodeLower → List NodeCode → Type 1
  AllLower = lowered_rules.AllLower t

  abbrev IfAnyLowers : LowerIfAny → CodeIfAny → Type 1
  IfAnyLowers = lowered_rules.IfAnyLowers t

  -- ---- blocks and statements
  statements_lower : (around : LoopsAndGuards) (ms : List NodeLower) (ds : List NodeCode) → AllLower ms ds → L (lower.statements f around ms) (λ c. StatementsAt t around c ds)
  statements_lower around _ _ none_lower = effect_rules.nothing_lowered t
  statements_lower around _ _ (one_lowers _ _ ms ds (lowers_as h s e r a P Q A sn se sr sa) all) =
      effect_rules.then_lowered t _ _ _ _ (se around false (Into h.id)) (statements_lower around ms ds all)

  unit_if_lowers : (x : Bool) (h : NodeHead) (to : Destination) → L (lower.put_unit_if f x h to) (λ c. PutsUnitIf t x h to)
  unit_if_lowers true h to = effect_rules.nothing_lowered t
  unit_if_lowers false h to = unit_lowers t h to

  tail_lowers : (h : NodeHead) (m : LowerIfAny) (d : CodeIfAny) → IfAnyLowers m d → (around : LoopsAndGuards) (to : Destination) → L (lower.tail_of f h m around to) (λ c. TailAt t h d around c to)
  tail_lowers h _ _ without around to = unit_if_lowers (is_never t.items h.ty) h to
  tail_lowers h _ _ (with_one m d l) around to = alone_lowers t around m d l to

  pub block_lowers : (h : NodeHead) (ms : List NodeLower) (ds : List NodeCode) → AllLower ms ds → (m : LowerIfAny) (d : CodeIfAny) → IfAnyLowers m d → LowersE (lower.block f h ms m) (BlockAt t h ds d)
  block_lowers h ms ds all m d l around own to =
      scope_rules.in_scope_lowered t h.id own _ _ (effect_rules.then_lowered t _ _ _ _ (statements_lower around ms ds all) (tail_lowers h m d l around to))

  pub evaluating_lowers : (h : NodeHead) (m : NodeLower) (d : NodeCode) → LowersAs m d → LowersR (lower.evaluating f h m) (EvaluatingAt t h d)
  evaluating_lowers h _ _ (lowers_as mh s e r a P Q A sn se sr sa) around =
      scope_rules.in_scope_lowered t h.id true _ _ (effect_rules.changed_lowered t _ _ _ (effect_rules.then_lowered t _ _ _ _ (se around false (Into mh.id)) (effect_rules.change_lowered t _)))

  let_name_lowers : (h x : NodeHead) (m : NodeLower) (d : NodeCode) → LowersAs m d → LowersR (lower.let_name f h x m) (LetNameAt t h x d)
  let_name_lowers h x _ _ (lowers_as mh s e r a P Q A sn se sr sa) around =
      scope_rules.in_scope_lowered t h.id true _ _ (effect_rules.changed_lowered t _ _ _ (effect_rules.then_lowered t _ _ _ _ (se around false (Into x.id)) (effect_rules.change_lowered t (named t x))))

  let_parts_lowers : (h : NodeHead) (pattern : NodeLower) (dp : NodeCode) → LowersAs pattern dp → (m : NodeLower) (d : NodeCode) → LowersAs m d → LowersR (lower.let_parts f h pattern m) (LetPartsAt t h dp d)
  let_parts_lowers h _ _ (lowers_as ph ps pe pr pa pP pQ pA pn spe spr spa) _ _ (lowers_as mh s e r a P Q A sn se sr sa) around =
      scope_rules.in_scope_lowered t h.id true _ _ (effect_rules.changed_lowered t _ _ _ (effect_rules.then_lowered t _ _ _ _ (sr around)
      (bind_lowers t around_innermost (ps.bindings (s.place around.aliases)) (pn (s.place around.aliases)))))

  emptied_lowers : (x : Bool) (key : ℕ) → L (lower.emptied f x key) (λ c. EmptiedAt t x key)
  emptied_lowers true key = nothing_as (effect_rules.nothing_lowered t)
    where
      nothing_as : L nothing (λ c. Nothing) → L (lower.emptied f true key) (λ c. EmptiedAt t true key)
      nothing_as l = record { grows = l.grows; holds = λ c S k s. l.holds c S k s; ranks = l.ranks; tidies = l.tidies }
  emptied_lowers false key = record {
    grows = λ c S k s. effect_rules.two_grow t (drop_term (site_of_key key)) key (panic_drops t S) k s;
    holds = λ c S k s u later chains.
        let made = effect_rules.two_made t (drop_term (site_of_key key)) key (panic_drops t S) k s chains later in
        let before = effect_rules.two_later t (drop_term (site_of_key key)) key (panic_drops t S) k s later in
        (made.0, λ b st. ((length s.blocks, 0), laid.closed_stands t Kind.Plain k s before, (refl, scope_rules.drop_one_at t (site_of_key key) (panic_drops t S) k s made.1 before b st)));
    ranks = λ c S k s w h l. effect_rules.two_ranked t (drop_term (site_of_key key)) key (panic_drops t S) k s (λ n u. refl) h l;
    tidies = λ c S k s w later h l. effect_rules.two_tidy t (drop_term (site_of_key key)) key (panic_drops t S) k s (scope_rules.whole_drops t (t.local_of key)) later h l;
  }
    where
      drop_term : EffectSite → ℕ → Unwind → Term
      drop_term site = Term.DropAt (build.place_of f site)

  declared_lowers : (bounds : List BoundName) → L (lower.declared f bounds) (λ c. DeclaredAt t bounds)
  declared_lowers [] = effect_rules.nothing_lowered t
  declared_lowers (b ∷ bounds) =
      effect_rules.then_lowered t _ _ _ _ (emptied_lowers (needs_drop t.items b.ty) b.key) (effect_rules.changed_lowered t (innermost (with_entry (bound_entry b))) _ _ (declared_lowers bounds))

  let_value_lowers : (x : Bool) (h : NodeHead) (pattern : NodeLower) (dp : NodeCode) → LowersAs pattern dp → (m : NodeLower) (d : NodeCode) → LowersAs m d →
      LowersR (lower.let_value f x h pattern m) (LetValueAt t x h dp d)
  let_value_lowers true h _ _ (lowers_as ph ps pe pr pa pP pQ pA pn spe spr spa) m d l around = let_name_lowers h ph m d l around
  let_value_lowers false h pattern dp lp m d l around = let_parts_lowers h pattern dp lp m d l around

  pub letting_lowers : (h : NodeHead) (pattern : NodeLower) (dp : NodeCode) → LowersAs pattern dp → (m : LowerIfAny) (d : CodeIfAny) → IfAnyLowers m d → LowersR (lower.letting f h pattern m) (LetAt t h dp d)
  letting_lowers h _ _ (lowers_as ph ps pe pr pa pP pQ pA pn spe spr spa) _ _ without around = declared_lowers (ps.bindings (whole_local 0))
  letting_lowers h _ _ (lowers_as ph ps pe pr pa pP pQ pA pn spe spr spa) _ _ (with_one m d l) around =
      let_value_lowers ps.is_binding h _ _ (lowers_as ph ps pe pr pa pP pQ pA pn spe spr spa) m d l around

  -- ---- jumps, and the rest of the rules
  pub jump_value_lowers : (h : NodeHead) (m : LowerIfAny) (d : CodeIfAny) → IfAnyLowers m d → (around : LoopsAndGuards) (to : Destination) → L (lower.value_of_jump f h m around to) (λ c. JumpValueAt t h d around c to)
  jump_value_lowers h _ _ without around to = unit_lowers t h to
  jump_value_lowers h _ _ (with_one _ _ (lowers_as _ s e r a P Q A sn se sr sa)) around to = se around false to

  pub element_lowers : (h : NodeHead) (s : Shape) (base : NodeLower) (db : NodeCode) → LowersAs base db → (index : NodeLower) (di : NodeCode) → LowersAs index di → (count : ℕ) →
      LowersR (lower.reach_element f h s base index count) (ElementAt t h s db di count)
  element_lowers h s _ _ (lowers_as bh bs be br ba bP bQ bA bn sbe sbr sba) _ _ (lowers_as ih is_ ie ir ia iP iQ iA in_ sie sir sia) count around =
      effect_rules.then_lowered t _ _ _ _ (sbr around) (effect_rules.then_lowered t _ _ _ _ (sie around false (Into ih.id))
      (effect_rules.then_lowered t _ _ _ _ (effect_rules.act_lowered t h.id (effects.Touch (site_at h (array_around t (s.place around.aliases)))) refl)
      (effect_rules.act_lowered t ih.id (effects.Bounds (effects.Copied (site_of_key ih.id)) count) refl)))

  pub borrowing_lowers : (h : NodeHead) (unique : Bool) (base : NodeLower) (db : NodeCode) → LowersAs base db → LowersE (lower.borrowing f h unique base) (BorrowAt t h unique db)
  borrowing_lowers h unique _ _ (lowers_as bh bs be br ba bP bQ bA bn sbe sbr sba) around own to =
      own_lowers t h own _ _ (effect_rules.then_lowered t _ _ _ _ (sbr around)
      (deliver_at_lowers t bh.id h (λ site. effects.Borrow (record site { node = bh.id }) unique (site_at bh (bs.place around.aliases))) (λ key. (refl, refl)) to))
