-- Nodes beside a local of a reference type: values, places, operands, conditions, patterns that are matched, arms.
use Rattle.std.proofs.Common.{◌≡◌, inl, ℕ, ◌+◌, ◌≤◌, Bool, true, false, List, [], ◌∷◌, Option, Some, sym, ap, subst, ◌∙◌, arith}
use Rattle.mir_base.specs.declared.place_in_text.Pos.{Pos}
use Rattle.mir_ty.specs.declared.ty.Ty.{Ty}
use Rattle.mir_ty.specs.declared.ty.TyId.{TyId}
use Rattle.mir_ty.specs.ItemTable.{type_at}
use Rattle.store_model.specs.Effects as effects
use Rattle.store_model.specs.Effects.{EffectSite, Action}
use Rattle.store_model.specs.Places.Place.{Place, whole_local}
use Rattle.store_model.specs.Places.TypeForms as forms
use Rattle.typed_tree.specs.declared.node.Use.{Use}
use Rattle.typed_tree.specs.Tree as tree
use Rattle.typed_tree.specs.Tree.{Node, Form}
use Rattle.src_meaning.specs.Evaluation.{to_own_key}
use Rattle.src_meaning.specs.Forms as source
use Rattle.src_meaning.specs.Forms.{Destination, Into, LoopsAndGuards, in_guard, entry_of, site_in, moved}
use Rattle.src_meaning.specs.Locals.OfBody.{cells, reached_cells, cells_in, is_place_form}
use Rattle.src_meaning.specs.Scopes.{Entry, innermost, nearest_temporary}
use Rattle.src_meaning.specs.Shape.{NodeHead, head, Shape, Aliases, BoundName, copied_or_moved, moves, operand_at, site_at}
use Rattle.well_typed.specs.Places.{LoopAround, Context, ty_of}
use Rattle.lower_rules.specs.Build.{LoweringFrame, Lowers, then_lower, leave}
use Rattle.lower_rules.specs.Lower as lower
use Rattle.lower_rules.specs.Lower.{Evaluates, Reaches, NodeLower, LowerIfAny, no_lower, a_lower}
use Rattle.lower_laws.proofs.Base as base
use Rattle.lower_laws.proofs.Base.{Ground, untrue, and_first, and_second}
use Rattle.lower_laws.proofs.Rules as rules
use Rattle.lower_ready.proofs.Once as once
use Rattle.lower_ready.proofs.Once.{About}
use Rattle.lower_ready.proofs.OnceActs as on
use Rattle.lower_ready.proofs.OnceRules as by_rule

module _ (g : Ground) (L K : ℕ) (about : About g L K) (Q : Type 0) where
  abbrev F : LoweringFrame
  F = base.F g

  abbrev Free : Type 0
  Free = Unit {0}

  abbrev Once : Type 0 → List LoopAround → Lowers → ℕ → Type 0
  Once H loops P m = once.Once g L K about Q H loops P m

  abbrev Keeps : Lowers → Type 0 → ℕ → Type 0
  Keeps P M n = once.Keeps g L K about Q P M n

  abbrev Cells : List Entry → Type 0
  Cells = base.CellsOk g

  abbrev NotRef : TyId → Type 0
  NotRef ty = by_rule.NotRef g L K about Q ty

  abbrev IsRef : TyId → Type 0
  IsRef ty = by_rule.IsRef g L K about Q ty

  abbrev Dest : Destination → TyId → Type 0
  Dest to ty = by_rule.Dest g L K about Q to ty

  abbrev Clear : Destination → Type 0
  Clear to = by_rule.Clear g L K about Q to

  abbrev Around : Context → LoopsAndGuards → Type 0
  Around x a = by_rule.Around g L K about Q x a

  abbrev Known : Context → Node → NodeLower → Type 0
  Known x n m = by_rule.Known g L K about Q x n m

  abbrev Child : Context → Node → NodeLower → Type 0
  Child x n m = by_rule.Child g L K about Q x n m

  abbrev Valued : Node → Type 0
  Valued n = by_rule.Valued g L K about Q n

  abbrev occ : List Entry → ℕ
  occ es = by_rule.occ g L K about Q es

  abbrev more : (loops : List LoopAround) (P : Lowers) (m n : ℕ) → m ≤ n → Once Free loops P m → Once Free loops P n
  more loops P m n le p = once.more g L K about Q Free loops P m n le p

  abbrev and_then : (loops : List LoopAround) (P Q' : Lowers) (o r : ℕ) → Once Free loops P o → (P.has_end ≡ true → Once Free loops Q' r) → Once Free loops (then_lower P Q') (o + r)
  and_then loops P Q' o r p q = once.and_then g L K about Q Free loops P Q' o r p q

  pub same_under : (m : ℕ) → m ≤ m
  same_under m = let r : m ≤ m = omega arith in r

  pub zero_under : (m : ℕ) → 0 ≤ m
  zero_under m = let r : 0 ≤ m = omega arith in r

  pub no_more : (m : ℕ) → m + 0 ≤ m
  no_more m = let r : m + 0 ≤ m = omega arith in r

  pub zero_more : (m : ℕ) → 0 + m ≤ m
  zero_more m = let r : 0 + m ≤ m = omega arith in r

  pub made_of : (ty : TyId) (t : Ty) → type_at g.items ty ≡ Some t → forms.is_never (Some t) ≡ false → base.Made g ty
  made_of ty t e d = ap forms.is_never e ∙ d

  -- ---- values
  pub flow : (x : Context) (id : ℕ) (at : Pos) (ty : TyId) (by : Option Use) (form : Form) (s : Shape) (e : Evaluates) → rules.Good g x (tree.node id at ty by form) (lower.a_value F (head id ty by) s e) →
      (Cells (reached_cells g.items (tree.node id at ty by form)) → Cells (cells g.items true (tree.node id at ty by form))) → ((a : Aliases) → s.place a ≡ whole_local id) →
      ((o : Bool) → Cells (cells g.items o (tree.node id at ty by form)) → (a : LoopsAndGuards) → Around x a → (own : Bool) (to : Destination) → Dest to ty → (base.Never g ty → to ≡ Into id) → Once Free x.loops (e a own to) (occ (cells_in g.items form))) →
      ((o : Bool) → Cells (cells g.items o (tree.node id at ty by form)) → IsRef ty → (a : LoopsAndGuards) → Around x a → (own : Bool) (to : Destination) → (e a own to).has_end ≡ false) →
      Known x (tree.node id at ty by form) (lower.a_value F (head id ty by) s e)
  flow x id at ty by form s e good reached_so whole made ended = record {
    evaluates = λ o c v a ar own to d. more x.loops _ (occ (cells_in g.items form)) (occ (cells g.items o n)) (by_rule.inner_under g L K about Q o n _ (same_under _)) (made o c a ar own (to_own_key (source.is_never g.items ty) id to) (by_rule.own_dest g L K about Q h to d) (rules.own_key g h to));
    ended = λ o c v r a ar own to. ended o c r a ar own (to_own_key (source.is_never g.items ty) id to);
    reaches = λ c a ar. more x.loops _ (occ (cells_in g.items form)) (occ (reached_cells g.items n)) (by_rule.reach_under g L K about Q n _ (same_under _))
        (by_rule.pended g L K about Q x.loops s.in_destination nearest_temporary h _ (occ (cells_in g.items form)) (by_rule.nearest g L K about Q) (by_rule.entered g L K about Q (entry_of h) (λ d. good.cell (reached_so c) (rules.made_by_drop g ty d)))
        (made true (reached_so c) a ar false (to_own_key (source.is_never g.items ty) id (Into id)) (by_rule.own_dest g L K about Q h (Into id) (λ nr m k. by_rule.keyed_away g L K about Q id ty (good.cell (reached_so c) m) nr k)) (rules.own_key g h (Into id))));
    place = λ c a ar d.
        let out = away c a ar (and_first (lower.made_in F h e a false (Into id)).has_end true d) in
        subst (λ (z : Place). by_rule.PlaceOk g L K about Q ty z) (sym (whole a.aliases)) (λ q. out, λ nr k z. out k);
  }
    where
      n : Node
      n = tree.node id at ty by form

      h : NodeHead
      h = head id ty by

      away : Cells (reached_cells g.items n) → (a : LoopsAndGuards) → Around x a → (lower.made_in F h e a false (Into id)).has_end ≡ true → id ≡ K → ⊥
      away c a ar d k =
          by_rule.by_ref g L K about Q ty (λ r. untrue (sym (ended true (reached_so c) r a ar false (to_own_key (source.is_never g.items ty) id (Into id))) ∙ d))
          (λ nr. base.by_never g ty (λ w. untrue (sym (good.ended true (reached_so c) w a false (Into id)) ∙ d))
          (λ m. by_rule.keyed_away g L K about Q id ty (good.cell (reached_so c) m) nr k))

  -- an effect of a type that is made
  pub leaf : (x : Context) (id : ℕ) (at : Pos) (ty : TyId) (by : Option Use) (form : Form) (s : Shape) (action : EffectSite → Action) → rules.Good g x (tree.node id at ty by form) (lower.effect F (head id ty by) s action) →
      (Cells (reached_cells g.items (tree.node id at ty by form)) → Cells (cells g.items true (tree.node id at ty by form))) → ((a : Aliases) → s.place a ≡ whole_local id) → NotRef ty → base.Made g ty → by_rule.Answers g L K about Q Free action →
      Known x (tree.node id at ty by form) (lower.effect F (head id ty by) s action)
  leaf x id at ty by form s action good reached_so whole nr made ok =
      flow x id at ty by form s _ good reached_so whole
      (λ o c a ar own to d nv. more x.loops _ 0 _ (zero_under _) (by_rule.owned g L K about Q x.loops (head id ty by) own _ 0 (by_rule.delivered g L K about Q Free x.loops id (head id ty by) action to (d nr made) ok)))
      (λ o c r a ar own to. absurd (by_rule.not_both g L K about Q ty r nr))

  -- a form with operands
  pub operating : (T : Type 0) (x : Context) (id : ℕ) (at : Pos) (ty : TyId) (by : Option Use) (form : Form) (s : Shape) (ms : List NodeLower) (action : EffectSite → Action) → rules.Good g x (tree.node id at ty by form) (lower.on_operands F (head id ty by) s ms action) →
      (Cells (reached_cells g.items (tree.node id at ty by form)) → Cells (cells g.items true (tree.node id at ty by form))) → ((a : Aliases) → s.place a ≡ whole_local id) → NotRef ty →
      ((o : Bool) → Cells (cells g.items o (tree.node id at ty by form)) → base.Never g ty → id ≡ K → ⊥) →
      ((o : Bool) → Cells (cells g.items o (tree.node id at ty by form)) → by_rule.OperandsAre g L K about Q T x ms (occ (cells_in g.items form))) →
      ((H : Type 0) → (H → by_rule.AnyKey g L K about Q ms → ⊥) → (T → by_rule.AnyKey g L K about Q ms → ⊥) → by_rule.Answers g L K about Q H action) →
      Known x (tree.node id at ty by form) (lower.on_operands F (head id ty by) s ms action)
  operating T x id at ty by form s ms action good reached_so whole nr out os ok =
      flow x id at ty by form s _ good reached_so whole
      (λ o c a ar own to d nv. by_rule.acting g L K about Q T x (head id ty by) a own ms _ (os o c) ar _
      (λ H f u. by_rule.delivered g L K about Q H x.loops id (head id ty by) action to (base.by_never g ty (λ v. subst Clear (sym (nv v)) (out o c v)) (λ m. d nr m)) (ok H f u)))
      (λ o c r a ar own to. absurd (by_rule.not_both g L K about Q ty r nr))

  -- a form with one operand, which gives `()`
  pub giving_unit : (x : Context) (id : ℕ) (at : Pos) (ty : TyId) (by : Option Use) (form : Form) (s : Shape) (m : NodeLower) (action : effects.Operand → Action) → rules.Good g x (tree.node id at ty by form) (lower.gives_unit F (head id ty by) s m action) →
      (Cells (reached_cells g.items (tree.node id at ty by form)) → Cells (cells g.items true (tree.node id at ty by form))) → ((a : Aliases) → s.place a ≡ whole_local id) → NotRef ty → base.Made g ty →
      ((o : Bool) → Cells (cells g.items o (tree.node id at ty by form)) → by_rule.OperandsAre g L K about Q Free x (m ∷ []) (occ (cells_in g.items form))) →
      on.StoresWell g L K about Q (action (moved id m.head.id)) → ((m.head.id ≡ K → ⊥) → on.UsesWell g L K about Q (action (moved id m.head.id))) → ((m.head.id ≡ K → ⊥) → on.NamesNone g L K about Q (action (moved id m.head.id))) →
      Known x (tree.node id at ty by form) (lower.gives_unit F (head id ty by) s m action)
  giving_unit x id at ty by form s m action good reached_so whole nr made os stores uses names =
      flow x id at ty by form s _ good reached_so whole
      (λ o c a ar own to d nv. by_rule.acting g L K about Q Free x (head id ty by) a own (m ∷ []) _ (os o c) ar _
      (λ H f u. once.more g L K about Q H x.loops _ (0 + 0) 0 (no_more 0) (once.and_then g L K about Q H x.loops _ _ 0 0 (on.acts g L K about Q H x.loops id (action (moved id m.head.id)) stores (λ q. uses (λ k. u tt (inl k))) (λ h q. names (λ k. f h (inl k))))
      (λ e. by_rule.unit_put g L K about Q H x.loops (head id ty by) to (d nr made)))))
      (λ o c r a ar own to. absurd (by_rule.not_both g L K about Q ty r nr))

  -- ---- places
  pub place_known : (x : Context) (id : ℕ) (at : Pos) (ty : TyId) (by : Option Use) (form : Form) (s : Shape) (r : Reaches) → rules.Good g x (tree.node id at ty by form) (lower.a_place F (head id ty by) s r) →
      ((o : Bool) → Cells (cells g.items o (tree.node id at ty by form)) → Cells (reached_cells g.items (tree.node id at ty by form))) → ((o : Bool) → Cells (cells g.items o (tree.node id at ty by form)) → base.Never g ty → base.KeyIs g id ty) → is_place_form form ≡ true →
      (Cells (reached_cells g.items (tree.node id at ty by form)) → (a : LoopsAndGuards) → Around x a → Once Free x.loops (r a) (occ (cells_in g.items form))) →
      (Cells (reached_cells g.items (tree.node id at ty by form)) → (a : LoopsAndGuards) → Around x a → (r a).has_end ≡ true → by_rule.PlaceOk g L K about Q ty (s.place a.aliases)) →
      Known x (tree.node id at ty by form) (lower.a_place F (head id ty by) s r)
  place_known x id at ty by form s r good reached_so never is_place reaches place = record {
    evaluates = λ o c v a ar own to d.
        let cs = reached_so o c in
        let nr = by_rule.by_ref g L K about Q ty (λ r. absurd (v is_place r)) (λ z. z) in
        more x.loops _ (occ (cells_in g.items form)) (occ (cells g.items o n)) (by_rule.inner_under g L K about Q o n _ (same_under _))
        (by_rule.owned g L K about Q x.loops h own _ (occ (cells_in g.items form)) (more x.loops _ (occ (cells_in g.items form) + 0) (occ (cells_in g.items form)) (no_more _)
        (and_then x.loops (r a) _ (occ (cells_in g.items form)) 0 (reaches cs a ar)
        (λ e. by_rule.delivered g L K about Q Free x.loops id h (λ site. effects.Put site (operand_at h (s.place a.aliases))) (to_own_key (source.is_never g.items ty) id to)
        (by_rule.own_clear g L K about Q h to d nr (λ w. by_rule.keyed_away g L K about Q id ty (never o c w) nr))
        (by_rule.puts g L K about Q Free (operand_at h (s.place a.aliases)) (λ q. used (moves by) (s.place a.aliases) ((place cs a ar e).0 q)))))));
    ended = λ o c v r a ar own to. absurd (v is_place r);
    reaches = λ c a ar. more x.loops _ (occ (cells_in g.items form)) (occ (reached_cells g.items n)) (by_rule.reach_under g L K about Q n _ (same_under _)) (reaches c a ar);
    place = place;
  }
    where
      n : Node
      n = tree.node id at ty by form

      h : NodeHead
      h = head id ty by

      used : (b : Bool) (p : Place) → on.Away g L K about Q p → on.OperandAway g L K about Q (copied_or_moved b (site_at h p))
      used true p away = away
      used false p away = away

  -- ---- a value alone, and conditions
  pub alone : (x : Context) (n : Node) (m : NodeLower) → Child x n m → (o : Bool) → Cells (cells g.items o n) → Valued n → (a : LoopsAndGuards) → Around x a → (to : Destination) → Dest to (ty_of n) → Once Free x.loops (lower.alone F a m to) (occ (cells g.items o n))
  alone x n m c o cs v a ar to d = once.back g L K about Q Free x.loops _ _ (c.known.evaluates o cs v a ar true to d)

  pub conditioned : (x : Context) (n : Node) (m : NodeLower) → Child x n m → Cells (cells g.items true n) → Valued n → (a : LoopsAndGuards) → Around x a → (P Q' : Lowers) (o r : ℕ) → Once Free x.loops P o → Once Free x.loops Q' r → Once Free x.loops (lower.condition F a m P Q') (occ (cells g.items true n) + (o + r))
  conditioned x n m c cs v a ar P Q' o r p q =
      and_then x.loops _ _ (occ (cells g.items true n)) (o + r) (alone x n m c true cs v a ar (Into m.head.id) (by_rule.dest_own g L K about Q x n m c cs))
      (λ e. on.asked g L K about Q x.loops m.head.id m.head.id P Q' o r (λ z k. by_rule.out g L K about Q x n m c cs v a ar true (Into m.head.id) e k) p q)

  -- ---- scrutinees
  pub scrutinised : (x : Context) (n : Node) (m : NodeLower) → Child x n m → Cells (reached_cells g.items n) → (a : LoopsAndGuards) → Around x a → Once Free x.loops (lower.scrutinised F a m) (occ (reached_cells g.items n))
  scrutinised x n m c cs a ar =
      more x.loops _ (occ (reached_cells g.items n) + 0) (occ (reached_cells g.items n)) (no_more _)
      (and_then x.loops (m.reaches a) _ (occ (reached_cells g.items n)) 0 (c.known.reaches cs a ar) (λ e. touched m.shape.is_place (c.known.place cs a ar e).0))
    where
      touched : (b : Bool) → (Q → on.Away g L K about Q (lower.place_in m a)) → Once Free x.loops (lower.touched F b (lower.site_of m a)) 0
      touched true away = on.acts g L K about Q Free x.loops m.head.id (effects.Touch (lower.site_of m a)) tt away (λ f q. away q)
      touched false away = once.nothing_done g L K about Q Free x.loops

  pub scrutinee_free : (x : Context) (n : Node) (m : NodeLower) → Child x n m → NotRef (ty_of n) → Cells (reached_cells g.items n) → (a : LoopsAndGuards) → Around x a → (m.reaches a).has_end ≡ true → by_rule.FreePlace g L K about Q (lower.place_in m a)
  scrutinee_free x n m c nr cs a ar e = let p = c.known.place cs a ar e in (p.0, p.1 nr)

  abbrev pub Shaped : NodeLower → Type 0
  Shaped p = (place : Place) → by_rule.FreePlace g L K about Q place → on.TestsWell g L K about Q (p.shape.tests place) × by_rule.BoundsWell g L K about Q (p.shape.bindings place)

  pub if_taken : (x : Context) (h : NodeHead) (a : LoopsAndGuards) (p : NodeLower) (n : Node) (m : NodeLower) → Child x n m → NotRef (ty_of n) → Cells (reached_cells g.items n) → Around x a → Shaped p → (P Q' : Lowers) (o r : ℕ) → Once Free x.loops P o → Once Free x.loops Q' r →
      Once Free x.loops (lower.if_taken F h a p m P Q') (occ (reached_cells g.items n) + (o + r))
  if_taken x h a p n m c nr cs ar shaped P Q' o r sp sq =
      let place = lower.place_in m a in
      once.in_new_scope g L K about Q Free x.loops h.id true _ _
      (and_then x.loops _ _ (occ (reached_cells g.items n)) (o + r) (scrutinised x n m c cs a ar)
      (λ e. let s = shaped place (scrutinee_free x n m c nr cs a ar (and_first (m.reaches a).has_end _ e)) in
      on.tested g L K about Q x.loops h.id (p.shape.tests place) _ _ o r s.0
      (more x.loops _ (o + 0) o (no_more o) (and_then x.loops _ (leave F) o 0 (more x.loops _ (0 + o) o (zero_more o) (and_then x.loops _ P 0 o (by_rule.binds g L K about Q x.loops innermost (by_rule.inner g L K about Q) (p.shape.bindings place) s.1) (λ d. sp))) (λ d. once.leaves g L K about Q Free x.loops)))
      (more x.loops _ (0 + r) r (zero_more r) (and_then x.loops (leave F) Q' 0 r (once.leaves g L K about Q Free x.loops) (λ d. sq)))))

  -- ---- arms
  pub data GuardIs (loops : List LoopAround) (a : LoopsAndGuards) : LowerIfAny → ℕ → Type 0 where
    without : GuardIs loops a no_lower 0
    with_one : (m : NodeLower) (o : ℕ) → Once Free loops (lower.alone F a m (Into m.head.id)) o → ((lower.alone F a m (Into m.head.id)).has_end ≡ true → m.head.id ≡ K → ⊥) → GuardIs loops a (a_lower m) o

  pub armed : (loops : List LoopAround) (h : NodeHead) (p : NodeLower) (q : LowerIfAny) (m : NodeLower) (matched : Place) (a : LoopsAndGuards) (to : Destination) (o r : ℕ) → on.TestsWell g L K about Q (p.shape.tests matched) → by_rule.BoundsWell g L K about Q (p.shape.bindings matched) →
      GuardIs loops (in_guard (p.shape.bindings matched) a) q o → Once Free loops (lower.alone F a m to) r → on.ArmOnce g L K about Q loops (lower.arm F h p q m matched a to) (o + r)
  armed loops h p q m matched a to o r ts bs guard inner = on.behind_tests g L K about Q loops (p.shape.tests matched) _ (o + r) ts (behind q o guard)
    where
      bounds : List BoundName
      bounds = p.shape.bindings matched

      taken : Once Free loops (lower.taken_arm F h a (p.shape.bindings matched) m to) r
      taken = once.scoped g L K about Q Free loops h.id false _ r (more loops _ (0 + r) r (zero_more r) (and_then loops _ _ 0 r (by_rule.binds g L K about Q loops innermost (by_rule.inner g L K about Q) (p.shape.bindings matched) bs) (λ e. inner)))

      behind : (q : LowerIfAny) (o : ℕ) → GuardIs loops (in_guard (p.shape.bindings matched) a) q o → on.ArmOnce g L K about Q loops (lower.guarded F a (p.shape.bindings matched) q (lower.taken_arm F h a (p.shape.bindings matched) m to)) (o + r)
      behind _ _ without = on.more_arm g L K about Q loops _ r (0 + r) (let e : r ≤ 0 + r = omega arith in e) (on.unguarded g L K about Q loops _ r taken)
      behind _ _ (with_one guard o asked out) = on.guarded g L K about Q loops guard.head.id (lower.alone F (in_guard (p.shape.bindings matched) a) guard (Into guard.head.id)) _ o r (λ e q k. out e k) asked taken
