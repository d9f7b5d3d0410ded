-- An argument leaves what earlier ones name, where what it changes lies apart from that, as the text tells, and the
-- calls inside it are in order.
use Rattle.std.proofs.Common.{◌≡◌, ◌<◌, ℕ, false, List, [], ◌∷◌, map, Option, Some, None, ap, sym, ◌∙◌, subst}
use Rattle.std.specs.Prelude.{slice_get}
use Rattle.store_model.specs.Effects.{EffectSite, Operand, Action, Effects}
use Rattle.store_model.specs.Places.Place.{Place}
use Rattle.typed_tree.specs.Tree as tree
use Rattle.typed_tree.specs.Tree.{Node, node, Form, Nodes, no_node, a_node, BodyTree, ProgramTree}
use Rattle.src_meaning.specs.Evaluation.{meaning, meanings}
use Rattle.src_meaning.specs.Forms as forms
use Rattle.src_meaning.specs.Forms.{Into, LoopsAndGuards, Meaning, all_moved, site_in}
use Rattle.src_meaning.specs.Locals.Effects.{action_at, operand_at}
use Rattle.src_meaning.specs.Locals.OfBody.{local_ty, local_of}
use Rattle.src_meaning.specs.Scopes.{Scopes, Value, Breaks, Continues, Returns, Panics, Run, At, Over}
use Rattle.src_meaning.specs.Shape as shapes
use Rattle.soundness_values.specs.Laws.{IsSound}
use Rattle.soundness_values.proofs.AlsoTests.{Also}
use Rattle.soundness_values.proofs.Checked.{Checking}
use Rattle.soundness_values.proofs.CheckedBodies.{is_reference_param}
use Rattle.soundness_values.proofs.Checks as checks
use Rattle.soundness_values.proofs.Facts.{Naming, Facts, Each}
use Rattle.soundness_frame.proofs.PassWithin.{Outer}
use Rattle.soundness.proofs.PassAloneArgs.{Arg, KnownIf, AllKnown, locals_of, names_of, all_named, operands_so, makes_none}
use Rattle.soundness.proofs.PassAloneBrings.{args_of, Leaves, all_ends}
use Rattle.soundness.proofs.PassAloneFrame.{Stay, May_, any_halt, acts_in, keeping}
use Rattle.soundness.proofs.PassAloneLeft.{CallLeft, block_rises, same_locals}
use Rattle.soundness.proofs.PassAloneRoots.{sure_rooted}
use Rattle.soundness.proofs.PassAloneRun.{run, I, Does_, Drops, Stands, telling}
use Rattle.soundness_frame.proofs.PassArgsLeft.{named_of, named_left, args_in}
use Rattle.soundness.proofs.PassCallsAlone as alone
use Rattle.soundness_frame.proofs.PassFrame as frame
use Rattle.soundness_frame.proofs.PassFrameCalls as calls
use Rattle.soundness_frame.proofs.PassFrameCalls.{Ends, called_by, all_end}
use Rattle.soundness_frame.proofs.PassFrameCells.{Cells, cells_same}
use Rattle.soundness_frame.proofs.PassFrameFacts.{Fixed, named_by}
use Rattle.soundness_frame.proofs.PassFrameHeads as pass_frame_heads
use Rattle.soundness_frame.proofs.PassFrameOperands as pass_frame_operands
use Rattle.soundness_frame.proofs.PassFrameForms as frames
use Rattle.soundness_frame.proofs.PassFrameHeads.{Calls, a_call, a_method, a_virtual, a_closure, moved_nodes}
use Rattle.soundness_frame.proofs.PassFrameRuns.{MayAt}
use Rattle.soundness_cells.proofs.PassRest.{own_local}
use Rattle.soundness_frame.proofs.PassStays.{MayCall, MayIfUnique, stay_same, stay_sure}
use Rattle.soundness_frame.proofs.PassStillKnown.{Clear, still_usable}
use Rattle.soundness_frame.proofs.PassWithin as within

module _ (p : ProgramTree) (sound : IsSound p) (n fuel : ℕ) (b : BodyTree) (at : slice_get p.bodies n ≡ Some b) where
  abbrev V : Type 0
  V = Checking Facts

  abbrev also : Also
  also = alone.also p sound n

  abbrev q : Effects V
  q = run p.items b also

  abbrev M : Node → Meaning V
  M = meaning p.items q fuel

  abbrev Ms : Nodes → List (Meaning V)
  Ms = meanings p.items q fuel

  abbrev args : shapes.Aliases → Nodes → List Arg
  args = args_of p.items b also fuel (block_rises p sound n b at)

  abbrev named : List Arg → List Naming
  named as_ = named_of p.items (local_ty p.items b) (is_reference_param p.items b) (own_local p.items b) (names_of as_)

  -- what is said of nodes with numbers above one
  abbrev pub Above : ℕ → shapes.Aliases → Outer → ℕ → Form → Type 0
  Above least places loops id form = Stands p b places loops id form × (least < id)

  -- the calls with such numbers are in order
  abbrev pub LeftAbove : ℕ → Type 0
  LeftAbove least = (form : Form) (ns : Nodes) (action : EffectSite → List Operand → Action) → Calls form ns action →
      (id : ℕ) (around : LoopsAndGuards) (loops : Outer) → Above least around.aliases loops id form →
      within.KeysAround around (within.passing id loops) →
      CallLeft p sound n fuel b (block_rises p sound n b at) form ns around

  module _ (least : ℕ) (left : LeftAbove least) (May : Place → Type 0) (facts0 : Facts) (cells0 : Cells) where
    abbrev Kept : V → Type 0
    Kept = Stay p.items b also May facts0 cells0

    abbrev May_at : Place → Type 0
    May_at = May_ p.items b also May facts0 cells0

    abbrev MayNamed : Naming → Type 0
    MayNamed = MayIfUnique May p.items (local_ty p.items b) (is_reference_param p.items b)

    -- what arguments name by `&mut` may be changed
    pub each_may : (ns : Nodes) (places : shapes.Aliases) (loops : Outer) →
        within.AllWithin p.items May_at (Above least) places loops ns → Each MayNamed (named (args places ns))
    each_may no_node places loops w = tt
    each_may (a_node (node id at ty by form) rest) places loops w = by_form form w.0 (each_may rest places loops w.1)
      where
        by_form : (form : Form) → within.Within p.items May_at (Above least) places loops (node id at ty by form) →
            Each MayNamed (named (args places rest)) →
            Each MayNamed (named (args places (a_node (node id at ty by form) rest)))
        by_form (tree.Borrow unique base) w later = (w.1.1.0.1, later)
        by_form form w later = later

    by_number : (at_node : ℕ) (ns : Nodes) → all_moved at_node (Ms ns) ≡ moved_nodes at_node ns
    by_number at_node ns = pass_frame_heads.all_by_number p.items q (any_halt p.items b also May facts0 cells0)
        (Does_ p.items b also) (Drops p.items b also) May_at May_at May_at Kept (keeping p.items b also May facts0
        cells0)
        (Above least) fuel at_node ns

    pub may_action : (form : Form) (ns : Nodes) (action : EffectSite → List Operand → Action) → Calls form ns action →
        (site : EffectSite) (operands : List Operand) (facts : Facts) →
        Each MayNamed (checks.named_by_all p.items (local_ty p.items b) (is_reference_param p.items b) facts
        (map (operand_at (local_of p.items b)) operands)) →
        MayCall May p.items (local_ty p.items b) (is_reference_param p.items b) facts
        (action_at (local_of p.items b) (action site operands))
    may_action _ _ _ (a_call callee args) site operands facts h = h
    may_action _ _ _ (a_method callee receiver args) site operands facts h = h
    may_action _ _ _ (a_virtual trait_no method receiver args) site operands facts h = h
    may_action _ _ _ (a_closure callee value args) site operands facts h = h

    pub names_so : (form : Form) (ns : Nodes) (around : LoopsAndGuards) →
        CallLeft p sound n fuel b (block_rises p sound n b at) form ns around → (id : ℕ) (v : V) →
        AllKnown p.items b (args around.aliases ns) v →
        checks.named_by_all p.items (local_ty p.items b) (is_reference_param p.items b) v.facts
        (map (operand_at (local_of p.items b)) (moved_nodes id ns)) ≡ named (args around.aliases ns)
    names_so form ns around k id v j =
        ap (checks.named_by_all p.items (local_ty p.items b) (is_reference_param p.items b) v.facts)
        (operands_so p.items b id ns
        ∙ ap (args_in p.items (local_ty p.items b) (is_reference_param p.items b) (own_local p.items b) id)
        (sym (same_locals p sound b also fuel (block_rises p sound n b at) around.aliases ns)))
        ∙ named_left p.items (local_ty p.items b) (is_reference_param p.items b) (own_local p.items b) id v.facts
        (locals_of (args around.aliases ns)) (names_of (args around.aliases ns)) k.suit.distinct k.suit.off
        (all_named p.items b v (args around.aliases ns) j)

    -- each call inside changes only what its own arguments name
    pub at_calls : pass_frame_operands.AtCalls p.items q (any_halt p.items b also May facts0 cells0) (Does_ p.items b also)
        (Drops p.items b also) May_at May_at May_at Kept (keeping p.items b also May facts0 cells0) (Above least) fuel
    at_calls = record {
      called_kept = λ form ns action c id ty by s around loops a w says ev own_cell own to d.
          let k = left form ns action c id around loops says a.1 in
          called_by p.items q (any_halt p.items b also May facts0 cells0) (Does_ p.items b also) (Drops p.items b also)
          May_at May_at May_at Kept (keeping p.items b also May facts0 cells0) (AllKnown p.items b (args around.aliases
          ns))
          (Above least) fuel id ty by s (Ms ns) action around own to ev
          (λ S v i. all_end p.items q (any_halt p.items b also May facts0 cells0) (Does_ p.items b also)
          (Drops p.items b also) May_at May_at May_at Kept (keeping p.items b also May facts0 cells0) Arg (AllKnown
          p.items b) around
          [] (Ms ns) (args around.aliases ns) ev
          (all_ends p.items b also fuel (block_rises p sound n b at) (any_halt p.items b also May facts0 cells0)
          (Does_ p.items b also) (Drops p.items b also) May_at May_at May_at Kept (keeping p.items b also May facts0
          cells0)
          (λ v i. i.1) ns around [] ev k.fit k.leave) S v i tt)
          (λ key x v i j. acts_in p.items b also May facts0 cells0 (action (site_in id key) (all_moved id (Ms ns))) v
          (pass_frame_operands.called_allowed p.items q (any_halt p.items b also May facts0 cells0) (Does_ p.items b also)
          (Drops p.items b also) May_at May_at May_at Kept (keeping p.items b also May facts0 cells0) (Above least) fuel
          form ns
          action c id key (all_moved id (Ms ns)) x
          (pass_frame_operands.all_taken p.items q (any_halt p.items b also May facts0 cells0) (Does_ p.items b also)
          (Drops p.items b also) May_at May_at May_at Kept (keeping p.items b also May facts0 cells0) (Above least) fuel
          id around
          (Ms ns) ev))
          (subst (λ l. MayCall May p.items (local_ty p.items b) (is_reference_param p.items b) v.facts
          (action_at (local_of p.items b) (action (site_in id key) l))) (sym (by_number id ns))
          (may_action form ns action c (site_in id key) (moved_nodes id ns) v.facts
          (subst (Each MayNamed) (sym (names_so form ns around k id v j)) (each_may ns around.aliases (within.passing
          id loops) w))))
          (makes_none p.items b also form ns action c (site_in id key) (all_moved id (Ms ns))) i) own_cell d;
    }

    pub saying : pass_frame_heads.Telling p.items (Does_ p.items b also) (Drops p.items b also) (Above least)
    saying = record {
      borrows = λ places loops id unique base s. (telling p b also).borrows places loops id unique base s.0;
      assigns = λ places loops id place value s. tt;
    }

    to_ends : (r : Run V) → frame.KeptAt p.items q (any_halt p.items b also May facts0 cells0) (Does_ p.items b also)
        (Drops p.items b also) May_at May_at May_at Kept (keeping p.items b also May facts0 cells0) 0 r → Ends Kept r
    to_ends (At Value S v) k = k.1
    to_ends (At (Breaks loop) S v) k = tt
    to_ends (At (Continues loop) S v) k = tt
    to_ends (At Returns S v) k = tt
    to_ends (At Panics S v) k = tt
    to_ends (Over halt v) k = tt

    -- a node that changes only such places leaves what is known of others
    pub stays_so : (m : Node) (around : LoopsAndGuards) (loops : Outer) → within.Around May_at around loops →
        within.Within p.items May_at (Above least) around.aliases loops m → (S : Scopes) (v : V) → Kept v →
        Ends Kept ((M m).evaluate around false (Into (M m).head.id) S v)
    stays_so m around loops a w S v k = to_ends ((M m).evaluate around false (Into (M m).head.id) S v)
        ((pass_frame_operands.operand_from p.items q (any_halt p.items b also May facts0 cells0) (Does_ p.items b also)
        (Drops p.items b also) May_at May_at May_at Kept (keeping p.items b also May facts0 cells0) (Above least) fuel m
        around
        loops w
        (λ own to d. frames.evaluated p.items q (any_halt p.items b also May facts0 cells0) (Does_ p.items b also)
        (Drops p.items b also) May_at May_at May_at Kept (keeping p.items b also May facts0 cells0) (Above least) fuel
        saying at_calls
        m around loops a w own to d)).0.kept 0 S v
        (calls.none_looked_at p.items q (any_halt p.items b also May facts0 cells0) (Does_ p.items b also)
        (Drops p.items b also) May_at May_at May_at Kept (keeping p.items b also May facts0 cells0) S) k)

    -- so does one that is a scope of its own, as a guard is
    pub stays_alone : (m : Node) (around : LoopsAndGuards) (loops : Outer) → within.Around May_at around loops →
        within.Within p.items May_at (Above least) around.aliases loops m → (S : Scopes) (v : V) → Kept v →
        Ends Kept (forms.alone p.items q around (M m) (Into (M m).head.id) S v)
    stays_alone m around loops a w S v k = to_ends (forms.alone p.items q around (M m) (Into (M m).head.id) S v)
        ((pass_frame_operands.body_from p.items q (any_halt p.items b also May facts0 cells0) (Does_ p.items b also)
        (Drops p.items b also) May_at May_at May_at Kept (keeping p.items b also May facts0 cells0) (Above least) fuel m
        around loops w
        (λ own to d. frames.evaluated p.items q (any_halt p.items b also May facts0 cells0) (Does_ p.items b also)
        (Drops p.items b also) May_at May_at May_at Kept (keeping p.items b also May facts0 cells0) (Above least) fuel
        saying at_calls m around loops a w own to d)).kept 0 S v
        (calls.none_looked_at p.items q (any_halt p.items b also May facts0 cells0) (Does_ p.items b also)
        (Drops p.items b also) May_at May_at May_at Kept (keeping p.items b also May facts0 cells0) S) k)

  -- ---- what stays known

  -- what an argument names lies apart from what may be changed; a local that names nothing never does
  abbrev pub KeptIf : (Place → Type 0) → ℕ → Option Naming → Type 0
  KeptIf May local None = (w : V) → I p.items b also w → named_by local w.facts ≡ None
  KeptIf May local (Some m) = Fixed May local × Clear May m.place

  abbrev pub AllKept : (Place → Type 0) → List Arg → Type 0
  AllKept May [] = Unit {0}
  AllKept May (a ∷ as_) = KeptIf May a.0 a.1 × AllKept May as_

  one_stays : (May : Place → Type 0) (v w : V) (local : ℕ) (o : Option Naming) → KeptIf May local o →
      KnownIf p.items b v local o → Stay p.items b also May v.facts v.free.cells w → KnownIf p.items b w local o
  one_stays May v w local None c k s = (c w s.1, k.1)
  one_stays May v w local (Some m) c k s = (
    s.0.0.naming local m c.0 c.1.way k.0,
    (
      stay_sure May p.items (local_ty p.items b) (is_reference_param p.items b) v.facts w.facts s.0.0 m.place c.1
          k.1.0,
      (
        still_usable May p.items (local_ty p.items b m.place.local) v.free.cells w.free.cells s.0.1 m.place c.1
            (sure_rooted p.items (local_ty p.items b) (is_reference_param p.items b) v.facts m.place k.1.0) ∙ k.1.1.0,
        k.1.1.1,
      ),
    ),
  )

  all_stay : (May : Place → Type 0) (v w : V) (es : List Arg) → AllKept May es → AllKnown p.items b es v →
      Stay p.items b also May v.facts v.free.cells w → AllKnown p.items b es w
  all_stay May v w [] c k s = tt
  all_stay May v w (e ∷ es) c k s = (one_stays May v w e.0 e.1 c.0 k.0 s, all_stay May v w es c.1 k.1 s)

  pub ends_more : (J K : V → Type 0) → ((w : V) → J w → K w) → (r : Run V) → Ends J r → Ends K r
  ends_more J K f (At Value S v) j = f v j
  ends_more J K f (At (Breaks loop) S v) j = tt
  ends_more J K f (At (Continues loop) S v) j = tt
  ends_more J K f (At Returns S v) j = tt
  ends_more J K f (At Panics S v) j = tt
  ends_more J K f (Over halt v) j = tt

  -- so an argument leaves what earlier ones name
  pub leaves_so : (least : ℕ) → LeftAbove least → (May : Place → Type 0) (es : List Arg) → AllKept May es → (m : Node)
      (around : LoopsAndGuards) (loops : Outer) →
      within.Around (MayAt (local_of p.items b) May) around loops →
      within.Within p.items (MayAt (local_of p.items b) May) (Above least) around.aliases loops m →
      Leaves p.items b also fuel (block_rises p sound n b at) around es m
  leaves_so least left May es c m around loops a w S v k j =
      ends_more (Stay p.items b also May v.facts v.free.cells) (AllKnown p.items b es)
      (λ u s. all_stay May v u es c j s) ((M m).evaluate around false (Into (M m).head.id) S v)
      (stays_so least left May v.facts v.free.cells m around loops a w S v
      ((stay_same May v.facts, cells_same May v.free.cells), k))
