-- What an argument brings: a borrow names its place, which is known and may be used; any other names nothing. So of
-- each argument nothing is left to show but that it leaves what earlier ones name.
use Rattle.std.proofs.Common.{◌≡◌, inl, ℕ, ◌==◌, Bool, true, false, List, [], ◌∷◌, ◌++◌, Option, Some, None, if◌then◌else◌, refl, sym, ◌∙◌, subst}
use Rattle.std.specs.List.{find}
use Rattle.std.proofs.lemmas.Bool.{false≢true}
use Rattle.std.proofs.lemmas.Bool.Decides.{Decides-eqb}
use Rattle.std.proofs.lemmas.Option.{none-some}
use Rattle.mir_base.specs.declared.place_in_text.Pos.{Pos}
use Rattle.mir_ty.specs.declared.ty.TyId.{TyId}
use Rattle.mir_ty.specs.ItemTable.{ItemTable}
use Rattle.store_model.specs.Effects as effects
use Rattle.store_model.specs.Effects.{EffectSite, Action, Halt, Out, Go, Unwind, Halts, Effects}
use Rattle.typed_tree.specs.declared.node.Use.{Use}
use Rattle.typed_tree.specs.Nodes.{number_of, nodes_of, nodes_among}
use Rattle.typed_tree.specs.Tree as tree
use Rattle.typed_tree.specs.Tree.{Node, node, Form, Nodes, no_node, a_node, BodyTree}
use Rattle.store_model.specs.Places.Place.{Place}
use Rattle.src_meaning.specs.Evaluation.{meaning, meanings, to_own_key}
use Rattle.src_meaning.specs.Forms as forms
use Rattle.src_meaning.specs.Forms.{Into, LoopsAndGuards, Meaning, is_never, site_in, site_of}
use Rattle.src_meaning.specs.Locals.Effects.{place_at}
use Rattle.src_meaning.specs.Locals.OfBody.{local_of, local_keys}
use Rattle.src_meaning.specs.Scopes.{Scopes, Value, Breaks, Continues, Returns, Panics, Run, At, Over}
use Rattle.src_meaning.specs.Shape as shapes
use Rattle.src_meaning.specs.Shape.{Shape, shape}
use Rattle.well_typed.specs.Places.{form_of, is_borrow}
use Rattle.soundness_values.proofs.AlsoTests.{Also}
use Rattle.soundness_values.proofs.Checked.{Checking}
use Rattle.soundness_values.proofs.Facts.{Naming, Facts, Each}
use Rattle.soundness.proofs.PassAloneArgs.{Arg, KnownIf, AllKnown}
use Rattle.soundness.proofs.PassAloneNever.{never_local, is_use_or_call, no_value}
use Rattle.soundness.proofs.PassAloneRun.{run, I, MadeAt, marks_stand}
use Rattle.soundness.proofs.PassBorrowKnown.{borrow_known}
use Rattle.soundness.proofs.PassCallsAlone.{alone_marks}
use Rattle.soundness_cells.proofs.PassCells.{NodeIn, node_left, node_right, one_node}
use Rattle.soundness_frame.proofs.PassFrame as frame
use Rattle.soundness_frame.proofs.PassFrameActs.{KeepingSo}
use Rattle.soundness_frame.proofs.PassFrameCalls as calls
use Rattle.soundness_frame.proofs.PassFrameFacts.{named_by}
use Rattle.soundness_values.proofs.PassHeads as heads
use Rattle.soundness_cells.proofs.PassLocals.{one_key}
use Rattle.soundness_frame.proofs.PassToldPlaces.{Rises}

-- the first of a list of which a test holds
found_of : {A : Type 0} (P : A → Type 0) (test : A → Bool) (l : List A) (m : A) → Each P l → find test l ≡ Some m →
    (test m ≡ true) × P m
found_of P test [] m h e = absurd (none-some m e)
found_of P test (x ∷ l) m h e = by (test x) refl e (found_of P test l m h.1)
  where
    same : Some x ≡ Some m → x ≡ m
    same k = cc

    by : (b : Bool) → test x ≡ b → (if b then Some x else find test l) ≡ Some m →
        (find test l ≡ Some m → (test m ≡ true) × P m) → (test m ≡ true) × P m
    by true t k later = subst (λ y. (test y ≡ true) × P y) (same k) (t, h.0)
    by false t k later = later k

module _ (items : ItemTable) (body : BodyTree) (also : Also) (fuel : ℕ) (rise : Rises (nodes_of body.block)) where
  abbrev V : Type 0
  V = Checking Facts

  abbrev local : ℕ → ℕ
  local = local_of items body

  abbrev q : Effects V
  q = run items body also

  abbrev M : Node → Meaning V
  M = meaning items q fuel

  abbrev Ms : Nodes → List (Meaning V)
  Ms = meanings items q fuel

  abbrev Known : V → Type 0
  Known = I items body also

  abbrev Ends : (V → Type 0) → Run V → Type 0
  Ends = calls.Ends

  -- the local of an argument, and what it names, with these bindings of guards around
  abbrev pub named_form : shapes.Aliases → ℕ → Form → Arg
  named_form places id (tree.Borrow unique base) = (
    local id,
    Some (record { local = local id; unique = unique; place = place_at local ((shape items base).place places) }),
  )
  named_form places id form = (local id, None)

  abbrev pub named_arg : shapes.Aliases → Node → Arg
  named_arg places (node id at ty by form) = named_form places id form

  abbrev pub args_of : shapes.Aliases → Nodes → List Arg
  args_of places no_node = []
  args_of places (a_node first rest) = named_arg places first ∷ args_of places rest

  -- ---- a borrow

  ends_any : (r : Run V) → Ends (λ v. Unit {0}) r
  ends_any (At Value S v) = tt
  ends_any (At (Breaks loop) S v) = tt
  ends_any (At (Continues loop) S v) = tt
  ends_any (At Returns S v) = tt
  ends_any (At Panics S v) = tt
  ends_any (Over halt v) = tt

  acts_end : (J : V → Type 0) (action : Action) → ((v u : V) → q.act action v ≡ Go u → J u) → (S : Scopes) (v : V) →
      Ends J (forms.acts items q action S v)
  acts_end J action f S v = by (q.act action v) refl
    where
      by : (o : Out V) → q.act action v ≡ o → Ends J (Rattle.src_meaning.specs.Scopes.in_scopes S o)
      by (Go u) e = f v u e
      by (Unwind u) e = tt
      by (Halts halt u) e = tt

  borrow_brings : (id : ℕ) (ty : TyId) (by : Option Use) (unique : Bool) (base : Node) (around : LoopsAndGuards)
      (b : Bool) (S : Scopes) (v : V) → Ends (λ w. KnownIf items body w (local id) (Some (record {
        local = local id;
        unique = unique;
        place = place_at local ((shape items base).place around.aliases);
      })))
      (forms.borrowing items q (shapes.head id ty by) unique (M base) around false (to_own_key b id (Into id)) S v)
  borrow_brings id ty by unique base around b S v = of_dest b
    where
      P : V → Type 0
      P w = KnownIf items body w (local id) (Some (record {
        local = local id;
        unique = unique;
        place = place_at local ((shape items base).place around.aliases);
      }))

      brought : (w u : V) → q.act (effects.Borrow (site_in (M base).head.id id) unique (site_of (M base) around)) w
          ≡ Go u → P u
      brought w u e = subst (λ (s : Shape). KnownIf items body u (local id) (Some (record {
        local = local id;
        unique = unique;
        place = place_at local (s.place around.aliases);
      }))) (heads.shape_is items q fuel base)
          (let k = borrow_known items body also (M base).head.id (local id) unique
          (Rattle.src_meaning.specs.Locals.Effects.site_at local (site_of (M base) around)) (alone_marks items body
          also)
          (marks_stand items body also) w u e in (k.named, (k.is_sure, (k.is_usable, k.is_typed))))

      made : Ends P (forms.borrowing items q (shapes.head id ty by) unique (M base) around false (Into id) S v)
      made = calls.ends_then (λ w. Unit {0}) P ((M base).reach around S v) _ (ends_any ((M base).reach around S v))
          (λ T w k. acts_end P (effects.Borrow (site_in (M base).head.id id) unique (site_of (M base) around)) brought
          T w)

      of_dest : (b : Bool) → Ends P (forms.borrowing items q (shapes.head id ty by) unique (M base) around false
          (to_own_key b id (Into id)) S v)
      of_dest true = made
      of_dest false = made

  -- ---- any other node

  -- the local of a node that is no borrow names nothing
  pub names_nothing : (n : Node) → NodeIn (nodes_of body.block) n → is_borrow (form_of n) ≡ false → (w : V) → Known w →
      named_by (local (number_of n)) w.facts ≡ None
  names_nothing n i b w k = by (named_by (local (number_of n)) w.facts) refl
    where
      by : (o : Option Naming) → named_by (local (number_of n)) w.facts ≡ o → o ≡ None
      by None e = refl
      by (Some m) e =
          let f = found_of (MadeAt items body also) (λ (x : Naming). x.local == local (number_of n)) w.facts.naming m
          k e in
          let made : MadeAt items body also m = f.1 in
          let here : m.local ≡ local (number_of n) = (Decides-eqb m.local (local (number_of n))).0 f.0 in
          let same : made.1.1.0 ≡ n = one_node (nodes_of body.block) rise made.1.1.0 n made.1.1.1.1.1 i
          (made.1.1.1.0 ∙ one_key (local_keys items body) made.0 (number_of n) (made.1.0 ∙ here)) in
          absurd (false≢true (sym b ∙ subst (λ x. is_borrow (form_of x) ≡ true) same made.1.1.1.1.0))

  -- a node of the block; and if its local is of type `!`, it is the use of a place or a call
  abbrev pub Fit : Node → Type 0
  Fit m = NodeIn (nodes_of body.block) m
      × (never_local items body (local (number_of m)) ≡ true → is_use_or_call (form_of m) ≡ true)

  abbrev pub AllFit : Nodes → Type 0
  AllFit no_node = Unit {0}
  AllFit (a_node first rest) = Fit first × AllFit rest

  ends_never : (J : V → Type 0) (r : Run V) → Ends (λ w. ⊥) r → Ends J r
  ends_never J (At Value S v) n = absurd n
  ends_never J (At (Breaks loop) S v) n = tt
  ends_never J (At (Continues loop) S v) n = tt
  ends_never J (At Returns S v) n = tt
  ends_never J (At Panics S v) n = tt
  ends_never J (Over halt v) n = tt

  -- ---- all arguments

  -- an argument leaves what earlier ones name
  abbrev pub Leaves : LoopsAndGuards → List Arg → Node → Type 0
  Leaves around es n = (S : Scopes) (v : V) → Known v → AllKnown items body es v →
      Ends (AllKnown items body es) ((M n).evaluate around false (Into (M n).head.id) S v)

  abbrev pub AllLeave : LoopsAndGuards → List Arg → Nodes → Type 0
  AllLeave around es no_node = Unit {0}
  AllLeave around es (a_node first rest) =
      Leaves around es first × AllLeave around (es ++ named_arg around.aliases first ∷ []) rest

  -- in a frame in which so much is known of references
  module _ (over : Halt → V → Type 0) (Does_ : Action → Type 0) (Drops : EffectSite → Type 0)
      (Store Coerce May : Place → Type 0)
      (J_ : V → Type 0) (keeping : KeepingSo q over Does_ Drops Store Coerce May J_) (known : (v : V) → J_ v → Known v)
    where
      abbrev Evaluated : LoopsAndGuards → Meaning V → Type 0
      Evaluated = frame.Evaluated items q over Does_ Drops Store Coerce May J_ keeping

      abbrev AllEvaluated : LoopsAndGuards → List (Meaning V) → Type 0
      AllEvaluated = frame.AllEvaluated items q over Does_ Drops Store Coerce May J_ keeping

      none_at : (J : V → Type 0) (r : Run V) → frame.KeptAt items q over Does_ Drops Store Coerce May J_ keeping 0 r →
          ((w : V) → Known w → J w) → Ends J r
      none_at J (At Value S v) k f = f v (known v k.1)
      none_at J (At (Breaks loop) S v) k f = tt
      none_at J (At (Continues loop) S v) k f = tt
      none_at J (At Returns S v) k f = tt
      none_at J (At Panics S v) k f = tt
      none_at J (Over halt v) k f = tt

      abbrev Brings : LoopsAndGuards → Node → Type 0
      Brings around n = (S : Scopes) (v : V) → J_ v →
          Ends (λ w. KnownIf items body w (named_arg around.aliases n).0 (named_arg around.aliases n).1)
          ((M n).evaluate around false (Into (M n).head.id) S v)

      -- what is no borrow names nothing, and its local is not of type `!`
      other_brings : (form : Form) (id : ℕ) (at : Pos) (ty : TyId) (by : Option Use) (around : LoopsAndGuards) →
          is_borrow form ≡ false → Evaluated around (M (node id at ty by form)) → Fit (node id at ty by form) →
          (S : Scopes) (v : V) → J_ v → Ends (λ w. KnownIf items body w (local id) None)
          ((M (node id at ty by form)).evaluate around false (Into (M (node id at ty by form)).head.id) S v)
      other_brings form id at ty by around none e i S v k = of_local (never_local items body (local id)) refl
        where
          r : Run V
          r = (M (node id at ty by form)).evaluate around false (Into (M (node id at ty by form)).head.id) S v

          of_local : (b : Bool) → never_local items body (local id) ≡ b →
              Ends (λ w. KnownIf items body w (local id) None) r
          of_local true n = ends_never (λ w. KnownIf items body w (local id) None) r
              (no_value items body also fuel form id at ty by (i.1 n) n around S v)
          of_local false n = none_at (λ w. KnownIf items body w (local id) None) r
              (e.0.kept 0 S v (calls.none_looked_at items q over Does_ Drops Store Coerce May J_ keeping S) k)
              (λ w j. (names_nothing (node id at ty by form) i.0 none w j, n))

      brings_form : (form : Form) (id : ℕ) (at : Pos) (ty : TyId) (by : Option Use) (around : LoopsAndGuards) →
          Evaluated around (M (node id at ty by form)) → Fit (node id at ty by form) →
          Brings around (node id at ty by form)
      brings_form (tree.Borrow unique base) id at ty by around e i S v k =
          borrow_brings id ty by unique base around (is_never items ty) S v
      brings_form form id at ty by around e i S v k = other_brings form id at ty by around refl e i S v k

      brings : (n : Node) (around : LoopsAndGuards) → Evaluated around (M n) → Fit n → Brings around n
      brings (node id at ty by form) around e i = brings_form form id at ty by around e i

      known_append : (es : List Arg) (a : Arg) (w : V) → AllKnown items body es w → KnownIf items body w a.0 a.1 →
          AllKnown items body (es ++ a ∷ []) w
      known_append [] a w k j = (j, tt)
      known_append (e ∷ es) a w k j = (k.0, known_append es a w k.1 j)

      both_end : (J K L : V → Type 0) → ((w : V) → J w → K w → L w) → (r : Run V) → Ends J r → Ends K r → Ends L r
      both_end J K L f (At Value S v) j k = f v j k
      both_end J K L f (At (Breaks loop) S v) j k = tt
      both_end J K L f (At (Continues loop) S v) j k = tt
      both_end J K L f (At Returns S v) j k = tt
      both_end J K L f (At Panics S v) j k = tt
      both_end J K L f (Over halt v) j k = tt

      abbrev pub AllEnd : LoopsAndGuards → List Arg → List (Meaning V) → List Arg → Type 0
      AllEnd = calls.AllEnd items q over Does_ Drops Store Coerce May J_ keeping Arg (AllKnown items body)

      pub all_ends : (ns : Nodes) (around : LoopsAndGuards) (es : List Arg) → AllEvaluated around (Ms ns) →
          AllFit ns → AllLeave around es ns → AllEnd around es (Ms ns) (args_of around.aliases ns)
      all_ends no_node around es e i l = tt
      all_ends (a_node first rest) around es e i l = (
        λ S v k j. both_end (AllKnown items body es)
            (λ w. KnownIf items body w (named_arg around.aliases first).0 (named_arg around.aliases first).1)
            (AllKnown items body (es ++ named_arg around.aliases first ∷ []))
            (λ w. known_append es (named_arg around.aliases first) w)
            ((M first).evaluate around false (Into (M first).head.id) S v) (l.0 S v (known v k) j)
            (brings first around e.0 i.0 S v k),
        all_ends rest around (es ++ named_arg around.aliases first ∷ []) e.1 i.1 l.1,
      )
