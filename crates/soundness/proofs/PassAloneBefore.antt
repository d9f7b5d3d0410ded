-- Each argument of a call leaves what those before it name: the cells of its nodes are others, and the places of which
-- the rule of borrows tells that it changes them do not overlap what they name.
use Rattle.std.proofs.Common.{◌≡◌, inl, inr, ℕ, ◌<◌, ◌&&◌, Bool, true, false, List, [], ◌∷◌, ◌++◌, map, Option, Some, None, refl, ap, sym, subst, arith}
use Rattle.std.specs.Prelude.{slice_get}
use Rattle.std.proofs.lemmas.Bool.{false≢true}
use Rattle.mir_base.specs.declared.place_in_text.Pos.{Pos}
use Rattle.mir_ty.specs.declared.ty.TyId.{TyId}
use Rattle.store_model.specs.Places.Place.{Place, Step}
use Rattle.typed_tree.specs.declared.node.Use.{Use}
use Rattle.typed_tree.specs.Nodes.{number_of, nodes_of, nodes_among}
use Rattle.typed_tree.specs.Tree as tree
use Rattle.typed_tree.specs.Tree.{Node, node, Form, Nodes, no_node, a_node, BodyTree, ProgramTree}
use Rattle.src_meaning.specs.Forms.{Destination, Into, Coerced, LoopsAndGuards, loop_destination}
use Rattle.src_meaning.specs.Locals.Effects.{place_at, step_at}
use Rattle.src_meaning.specs.Locals.OfBody.{local_of, local_keys}
use Rattle.src_meaning.specs.Shape as shapes
use Rattle.src_meaning.specs.Shape.{shape}
use Rattle.typing_rules.specs.Accesses as rules
use Rattle.typing_rules.specs.Accesses.{AccessPlace, Accessed, Argument, begin_alike, changes, is_against, told, place_of, conflicts_among}
use Rattle.well_typed.specs.Claim.{Holds}
use Rattle.well_typed.specs.Nodes as typing
use Rattle.well_typed.specs.Places.{Standing, Passed}
use Rattle.soundness_values.specs.Laws.{IsSound}
use Rattle.soundness_values.proofs.AlsoTests.{Also}
use Rattle.soundness_values.proofs.NoOverlap.{Seen, SeenIf, is_seen, seen}
use Rattle.soundness_frame.proofs.PassWithin.{Outer}
use Rattle.soundness.proofs.PassAloneApart.{OffOne, OffAll, Nameless, AllNameless, all_kept, cell_off, place_off}
use Rattle.soundness.proofs.PassAloneArgs.{Arg}
use Rattle.soundness.proofs.PassAloneBrings.{named_arg, AllLeave, Leaves, names_nothing}
use Rattle.soundness.proofs.PassAloneLeaves as leaves
use Rattle.soundness.proofs.PassAloneLeaves.{LeftAbove, leaves_so}
use Rattle.soundness.proofs.PassAloneLeft.{block_rises}
use Rattle.soundness.proofs.PassAlonePairs.{Placed}
use Rattle.soundness.proofs.PassAlonePassed.{Argued, AllTold}
use Rattle.soundness.proofs.PassAloneRun.{InBlock, Of}
use Rattle.soundness.proofs.PassAloneTogether.{arg_placed, none_behind}
use Rattle.soundness.proofs.PassBorrowApart.{no_index}
use Rattle.soundness.proofs.PassCallsAlone as alone
use Rattle.soundness_cells.proofs.PassCells.{Above, NodeIn, above_in}
use Rattle.soundness_frame.proofs.PassConflicts.{EachAccess, EachArgument, Apart, change_apart, first_apart, rest_apart}
use Rattle.soundness_cells.proofs.PassFacts.{Standpoint, context}
use Rattle.soundness_frame.proofs.PassFrameActs.{DestSo}
use Rattle.soundness_frame.proofs.PassFrameBodies.{any_place}
use Rattle.soundness_frame.proofs.PassFrameRuns.{MayAt}
use Rattle.soundness_frame.proofs.PassKeys.{KeysIn, keys_in_more}
use Rattle.soundness_frame.proofs.PassPlacesApart.{locals_differ}
use Rattle.soundness_frame.proofs.PassTold as here
use Rattle.soundness_frame.proofs.PassTold.{ids, IsValue, KnownOf, RootIf, Here, IfRoot, Told}
use Rattle.soundness_frame.proofs.PassToldBelow.{Saying, node_above}
use Rattle.soundness_frame.proofs.PassToldForms.{node_within}
use Rattle.soundness_frame.proofs.PassToldPlaces.{AllOwned, MaySeen, AllPermit}
use Rattle.soundness_frame.proofs.PassWithin as within

-- ---- two things that may be changed, both of which are asked

module _ (A B : Place → Type 0) where
  abbrev Both : Place → Type 0
  Both q = A q × B q

  dest_both : (to : Destination) → DestSo A A to → DestSo B B to → DestSo Both Both to
  dest_both (Into key) a b = (a, b)
  dest_both (Coerced key trait_no to) a b = ((a.0, b.0), (a.1, b.1))

module _ (p : ProgramTree) (sound : IsSound p) (n fuel : ℕ) (b : BodyTree) (at : slice_get p.bodies n ≡ Some b) where
  abbrev also : Also
  also = alone.also p sound n

  abbrev local : ℕ → ℕ
  local = local_of p.items b

  -- a place is off what an argument names
  abbrev pub OffAt : Arg → Place → Type 0
  OffAt e q = OffOne e (place_at local q)

  -- off what all of them name
  abbrev OffAllAt : List Arg → Place → Type 0
  OffAllAt es = MayAt local (OffAll es)

  abbrev pub SeenOff : (Place → Type 0) → Accessed → Type 0
  SeenOff May a = changes a.access ≡ true → MaySeen p.items (IfRoot p.items May (Of p b)) a.place

  -- ---- what is known of an earlier argument and some later ones

  module _ (around : LoopsAndGuards) (loops : Outer) where
    pub record Before (e : Arg) (ns : Nodes) (as_ : List Argument) : Type 0 where
      pub cells : AllOwned p.items (OffAt e) (nodes_among ns)
      pub told : EachArgument (λ (a : Argument). EachAccess (SeenOff (OffAt e)) a.told.accesses) as_
      pub nameless : Nameless p sound n fuel b at e
      pub outer : within.DestsAround (OffAt e) (OffAt e) around loops

    abbrev pub AllBefore : List Arg → Nodes → List Argument → Type 0
    AllBefore [] ns as_ = Unit {0}
    AllBefore (e ∷ es) ns as_ = Before e ns as_ × AllBefore es ns as_

    all_rest : (es : List Arg) (m : Node) (rest : Nodes) (a : Argument) (as_ : List Argument) →
        AllBefore es (a_node m rest) (a ∷ as_) → AllBefore es rest as_
    all_rest [] m rest a as_ k = tt
    all_rest (e ∷ es) m rest a as_ k = (
      record {
        cells = Rattle.soundness_frame.proofs.PassToldPlaces.owned_right p.items (OffAt e) (nodes_of m) (nodes_among rest)
            k.0.cells;
        told = k.0.told.1;
        nameless = k.0.nameless;
        outer = k.0.outer;
      },
      all_rest es m rest a as_ k.1,
    )

    and_one : (es : List Arg) (e : Arg) (ns : Nodes) (as_ : List Argument) → AllBefore es ns as_ → Before e ns as_ →
        AllBefore (es ++ e ∷ []) ns as_
    and_one [] e ns as_ k f = (f, tt)
    and_one (x ∷ es) e ns as_ k f = (k.0, and_one es e ns as_ k.1 f)

    all_nameless : (es : List Arg) (ns : Nodes) (as_ : List Argument) → AllBefore es ns as_ →
        AllNameless p sound n fuel b at es
    all_nameless [] ns as_ k = tt
    all_nameless (e ∷ es) ns as_ k = (k.0.nameless, all_nameless es ns as_ k.1)

    owned_by : (May : Place → Type 0) (ns : List Node) → ((m : Node) → NodeIn ns m → (steps : List Step) →
        May (record { local = number_of m; steps = steps })) → AllOwned p.items May ns
    owned_by May [] f = tt
    owned_by May (m ∷ ns) f = (f m (inl refl), owned_by May ns (λ j i. f j (inr i)))

    owned_all : (es : List Arg) (m : Node) (rest : Nodes) (as_ : List Argument) → AllBefore es (a_node m rest) as_ →
        (ns : List Node) → ((e : Arg) → AllOwned p.items (OffAt e) (nodes_of m ++ nodes_among rest) →
        AllOwned p.items (OffAt e) ns) → AllOwned p.items (OffAllAt es) ns
    owned_all [] m rest as_ k ns f = owned_by (OffAllAt []) ns (λ j i steps. tt)
    owned_all (e ∷ es) m rest as_ k ns f = both ns (f e k.0.cells) (owned_all es m rest as_ k.1 ns f)
      where
        both : (ns : List Node) → AllOwned p.items (OffAt e) ns → AllOwned p.items (OffAllAt es) ns →
            AllOwned p.items (OffAllAt (e ∷ es)) ns
        both [] x y = tt
        both (j ∷ ns) x y = (λ steps. (x.0 steps, y.0 steps), both ns x.1 y.1)

    outer_all : (es : List Arg) (ns : Nodes) (as_ : List Argument) → AllBefore es ns as_ →
        within.DestsAround (OffAllAt es) (OffAllAt es) around loops
    outer_all [] ns as_ k = (anywhere around.answer, λ loop i. anywhere (loop_destination loop around.loops))
      where
        anywhere : (to : Destination) → DestSo (OffAllAt []) (OffAllAt []) to
        anywhere (Into key) = tt
        anywhere (Coerced key trait_no to) = (tt, tt)
    outer_all (e ∷ es) ns as_ k =
        let later = outer_all es ns as_ k.1 in (
          dest_both (OffAt e) (OffAllAt es) around.answer k.0.outer.0 later.0,
          λ loop i. dest_both (OffAt e) (OffAllAt es) (loop_destination loop around.loops) (k.0.outer.1 loop i)
              (later.1 loop i),
        )

    -- ---- what is told of a later argument

    seen_all : (es : List Arg) (ns : Nodes) (a : Argument) (as_ : List Argument) → AllBefore es ns (a ∷ as_) →
        EachAccess (SeenOff (OffAllAt es)) a.told.accesses
    seen_all [] ns a as_ k = any_access a.told.accesses
      where
        any_place_seen : (o : Option AccessPlace) → MaySeen p.items (IfRoot p.items (OffAllAt []) (Of p b)) o
        any_place_seen None = tt
        any_place_seen (Some c) = λ q s r. tt

        any_access : (l : List Accessed) → EachAccess (SeenOff (OffAllAt [])) l
        any_access [] = tt
        any_access (x ∷ l) = (λ c. any_place_seen x.place, any_access l)
    seen_all (e ∷ es) ns a as_ k = both a.told.accesses k.0.told.0 (seen_all es ns a as_ k.1)
      where
        two : (o : Option AccessPlace) → MaySeen p.items (IfRoot p.items (OffAt e) (Of p b)) o →
            MaySeen p.items (IfRoot p.items (OffAllAt es) (Of p b)) o →
            MaySeen p.items (IfRoot p.items (OffAllAt (e ∷ es)) (Of p b)) o
        two None x y = tt
        two (Some c) x y = λ q s r. (x q s r, y q s r)

        both : (l : List Accessed) → EachAccess (SeenOff (OffAt e)) l → EachAccess (SeenOff (OffAllAt es)) l →
            EachAccess (SeenOff (OffAllAt (e ∷ es))) l
        both [] x y = tt
        both (z ∷ l) x y = (λ c. two z.place (x.0 c) (y.0 c), both l x.1 y.1)

  -- ---- one argument leaves what others name

  module _ (least : ℕ) (May : Place → Type 0) where
    -- nodes of the block with higher numbers
    abbrev pub Inner : KnownOf
    Inner = record { node = λ m. InBlock p b m × (least < number_of m); root = (Of p b).root; typed = (Of p b).typed }

    pub permit_so : (aliases : rules.Aliases) (l : List Accessed) → EachAccess (SeenOff May) l →
        AllPermit p.items (IfRoot p.items any_place (Of p b)) aliases l →
        AllPermit p.items (IfRoot p.items May Inner) aliases l
    permit_so aliases [] e k = tt
    permit_so aliases (x ∷ l) e k =
        (record { changed = λ c. e.0 c; replaced = k.0.replaced }, permit_so aliases l e.1 k.1)

    pub here_so : (aliases : rules.Aliases) (places : shapes.Aliases) (x : Standpoint) (ns : List Node) →
        Here p.items any_place (Of p b) aliases places x ns → AllOwned p.items May ns → Above least ns →
        Here p.items May Inner aliases places x ns
    here_so aliases places x ns h owned above = record {
      sees = record {
        seen = h.sees.seen;
        guarded = h.sees.guarded;
        closure = h.sees.closure;
        plain = h.sees.plain;
      };
      past = h.past;
      outer = h.outer;
      rises = h.rises;
      owned = owned;
      all = λ m i. (h.all m i, above_in least ns m above i);
      low = h.low;
      names = h.names;
      others = h.others;
      stand = h.stand;
      self = h.self;
      types = h.types;
      self_type = h.self_type;
      name_types = h.name_types;
      under = h.under;
      away = λ d i. record { names = (h.away d i).names; self = (h.away d i).self };
    }

    -- where such a node stands is known for any place
    permit_any : (aliases : rules.Aliases) (l : List Accessed) →
        AllPermit p.items (IfRoot p.items May Inner) aliases l →
        AllPermit p.items (IfRoot p.items any_place (Of p b)) aliases l
    permit_any aliases [] k = tt
    permit_any aliases (x ∷ l) k =
        (record { changed = λ c. any_seen x.place; replaced = k.0.replaced }, permit_any aliases l k.1)
      where
        any_seen : (o : Option AccessPlace) → MaySeen p.items (IfRoot p.items any_place (Of p b)) o
        any_seen None = tt
        any_seen (Some c) = λ q s r. tt

    all_any : (ns : List Node) → AllOwned p.items any_place ns
    all_any [] = tt
    all_any (m ∷ ns) = (λ steps. tt, all_any ns)

    pub says_so : Saying p.items May Inner (leaves.Above p sound n fuel b at least)
    says_so form id from ty by aliases places x o g h t = (
      record {
        at = from;
        ty = ty;
        by = by;
        aliases = aliases;
        x = x;
        around = refl;
        here = record {
          sees = record {
            seen = o.sees.seen;
            guarded = o.sees.guarded;
            closure = o.sees.closure;
            plain = o.sees.plain;
          };
          past = o.past;
          outer = o.outer;
          rises = o.rises;
          owned = all_any (nodes_of (node id from ty by form));
          all = λ m i. (o.all m i).0;
          low = o.low;
          names = o.names;
          others = o.others;
          stand = o.stand;
          self = o.self;
          types = o.types;
          self_type = o.self_type;
          name_types = o.name_types;
          under = o.under;
          away = λ d i. record { names = (o.away d i).names; self = (o.away d i).self };
        };
        typed = h;
        told = (permit_any aliases (rules.told_form aliases from form).accesses t.0, t.1);
      },
      (o.all (node id from ty by form) (inl refl)).1,
    )

    pub within_so : (m : Node) (standing : Standing) (aliases : rules.Aliases) (places : shapes.Aliases)
        (x : Standpoint) → IsValue standing →
        Here p.items any_place (Of p b) aliases places x (nodes_of m) → AllOwned p.items May (nodes_of m) →
        Above least (nodes_of m) → Holds (typing.typed (context p.items x) standing m) →
        EachAccess (SeenOff May) (told aliases m).accesses → Told p.items any_place (Of p b) aliases (told aliases m) →
        within.Within p.items May (leaves.Above p sound n fuel b at least) places (ids x) m
    within_so m standing aliases places x value o owned above h e t =
        node_within p.items May Inner (leaves.Above p sound n fuel b at least) says_so m standing aliases places x value
        (here_so aliases places x (nodes_of m) o owned above) h
        (permit_so aliases (told aliases m).accesses e t.0, t.1)

  -- ---- all of them

  module _ (least : ℕ) (left : LeftAbove p sound n fuel b at least) (aliases : rules.Aliases) (x : Standpoint)
      (around : LoopsAndGuards) (keys : within.KeysAround around (ids x)) where
    abbrev places : shapes.Aliases
    places = around.aliases

    abbrev named : Node → Arg
    named m = named_arg p.items b also fuel (block_rises p sound n b at) places m

    abbrev Stand : List Node → Type 0
    Stand = Here p.items any_place (Of p b) aliases places x

    one_leaves : (es : List Arg) (m : Node) (rest : Nodes) (a : Argument) (as_ : List Argument) (want : TyId) →
        AllBefore around (ids x) es (a_node m rest) (a ∷ as_) → Stand (nodes_of m) → Above least (nodes_of m) →
        Holds (typing.typed (context p.items x) (Passed want) m) → a.told ≡ told aliases m →
        Told p.items any_place (Of p b) aliases a.told →
        Leaves p.items b also fuel (block_rises p sound n b at) around es m
    one_leaves es m rest a as_ want k o above h e t =
        leaves_so p sound n fuel b at least left (OffAll es) es
        (all_kept p sound n fuel b at (OffAll es) es (λ q f. f)
        (all_nameless around (ids x) es (a_node m rest) (a ∷ as_) k)) m around (ids x)
        (outer_all around (ids x) es (a_node m rest) (a ∷ as_) k, keys)
        (within_so least (OffAllAt es) m (Passed want) aliases places x tt o
        (owned_all around (ids x) es m rest (a ∷ as_) k (nodes_of m)
        (λ f c. Rattle.soundness_frame.proofs.PassToldPlaces.owned_left p.items (OffAt f) (nodes_of m) (nodes_among rest) c))
        above h
        (subst (λ c. EachAccess (SeenOff (OffAllAt es)) c.accesses) e
        (seen_all around (ids x) es (a_node m rest) a as_ k))
        (subst (Told p.items any_place (Of p b) aliases) e t))

    -- ---- of a new one

    module _ (id : ℕ) (from : Pos) (ty : TyId) (by : Option Use) (unique : Bool) (base : Node) where
      abbrev place : Place
      place = (shape p.items base).place places

      abbrev first : Node
      first = node id from ty by (tree.Borrow unique base)

      -- what is changed without going against it is off what it names
      off_one : Placed p.items any_place (Of p b) aliases places base unique → ((Of p b).root id → ⊥) →
          (allows_none : Bool) (y : Accessed) → is_against allows_none (place_of aliases base) y ≡ false →
          SeenOff (OffAt (named first)) y
      off_one q own allows_none y h c = by_place y.place refl
        where
          not_id : (u : Place) → (Of p b).root u.local → id ≡ u.local → ⊥
          not_id u r e = own (subst (Of p b).root (sym e) r)

          way : (u : Place) → (Of p b).root u.local → KeysIn (λ k. k ≡ u.local → ⊥) place.steps
          way u r = keys_in_more (λ k. (Of p b).root k → ⊥) (λ k. k ≡ u.local → ⊥)
              (λ k none e. none (subst (Of p b).root (sym e) r)) place.steps q.stands.1

          off : (d : AccessPlace) → y.place ≡ Some d → (u : Place) → Seen d u → (Of p b).root u.local →
              (o : Option AccessPlace) → place_of aliases base ≡ o → SeenIf o place → RootIf (Of p b).root o
              place.local →
              OffAt (named first) u
          off d e u s r None f k none = (
            locals_differ (local_keys p.items b) id u.local (λ same. absurd (not_id u r same)),
            (
              ap (λ z. z && begin_alike (seen (map (step_at local) place.steps)) (seen (map (step_at local) u.steps)))
                  (locals_differ (local_keys p.items b) place.local u.local
                  (λ same. absurd (none (subst (Of p b).root (sym same) r)))),
              no_index (local_keys p.items b) u.local place.steps (way u r),
            ),
          )
          off d e u s r (Some a) f (is_seen _ _ k) root = place_off (local_keys p.items b) id unique place u a d k s
              (change_apart allows_none (place_of aliases base) y a d h f e c) (not_id u r) (way u r)

          by_place : (o : Option AccessPlace) → y.place ≡ o →
              MaySeen p.items (IfRoot p.items (OffAt (named first)) (Of p b)) o
          by_place None e = tt
          by_place (Some d) e = λ u s r. off d e u s r (place_of aliases base) refl q.seen q.stands.0

      each_off : Placed p.items any_place (Of p b) aliases places base unique → ((Of p b).root id → ⊥) →
          (allows_none : Bool) (l : List Accessed) →
          EachAccess (λ y. is_against allows_none (place_of aliases base) y ≡ false) l →
          EachAccess (SeenOff (OffAt (named first))) l
      each_off q own allows_none [] h = tt
      each_off q own allows_none (y ∷ l) h = (off_one q own allows_none y h.0, each_off q own allows_none l h.1)

      args_off : Placed p.items any_place (Of p b) aliases places base unique → ((Of p b).root id → ⊥) →
          (is_receiver : Bool) (as_ : List Argument) →
          EachArgument (Apart is_receiver (record { place = place_of aliases base; unique = unique })) as_ →
          EachArgument (λ (a : Argument). EachAccess (SeenOff (OffAt (named first))) a.told.accesses) as_
      args_off q own is_receiver [] h = tt
      args_off q own is_receiver (a ∷ as_) h =
          (each_off q own _ a.told.accesses h.0.accesses, args_off q own is_receiver as_ h.1)

      borrow_before : (rest : Nodes) (a : Argument) (as_ : List Argument) (want : TyId) →
          Stand (nodes_of first ++ nodes_among rest) → Holds (typing.typed (context p.items x) (Passed want) first) →
          Told p.items any_place (Of p b) aliases (told aliases first) →
          a.refers ≡ Some (record { place = place_of aliases base; unique = unique }) →
          conflicts_among (a ∷ as_) ≡ [] → within.DestsAround (OffAt (named first)) (OffAt (named first)) around (ids
          x) →
          Before around (ids x) (named first) rest as_
      borrow_before rest a as_ want o h t e free outer =
          let q = arg_placed p.items any_place (Of p b) aliases places x id from ty by unique base want
          (here.here_left p.items any_place (Of p b) aliases places x (nodes_of first) (nodes_among rest) o) h t in
          record {
            cells = owned_by around (ids x) (OffAt (named first)) (nodes_among rest)
                (λ m i steps. cell_off (local_keys p.items b) id (number_of m) unique place (map (step_at local) steps)
                (λ same.
                let less : id < number_of m = above_in id (nodes_among rest) m
                (node_above (nodes_of first) (nodes_among rest) first o.rises (inl refl)) i in
                let equal : id ≡ number_of m = same in
                let never : ⊥ = omega (less, equal, arith) in never)
                (none_behind p.items any_place (Of p b) aliases places x first rest o base (λ j k. inr k)
                (unique, h.1.0) m i));
            told = args_off q (o.others first (inl refl) (λ name. name)) a.is_receiver as_
                (first_apart a as_ (record { place = place_of aliases base; unique = unique }) free e);
            nameless = tt;
            outer = outer;
          }

    new_before : (m : Node) (rest : Nodes) (a : Argument) (as_ : List Argument) (want : TyId) →
        Stand (nodes_of m ++ nodes_among rest) → Holds (typing.typed (context p.items x) (Passed want) m) →
        Told p.items any_place (Of p b) aliases a.told → a.refers ≡ Rattle.soundness.proofs.PassAlonePassed.refers_of
        aliases m →
        a.told ≡ told aliases m → conflicts_among (a ∷ as_) ≡ [] →
        within.DestsAround (OffAt (named m)) (OffAt (named m)) around (ids x) → Before around (ids x) (named m) rest as_
    new_before (node id from ty by form) rest a as_ want o h t refers e free outer = of_form form o h refers e outer
      where
        nothing : (as_ : List Argument) (k : ℕ) →
            EachArgument (λ (a : Argument). EachAccess (SeenOff (OffAt (k, None))) a.told.accesses) as_
        nothing [] k = tt
        nothing (a ∷ as_) k = (no_access a.told.accesses, nothing as_ k)
          where
            no_seen : (o : Option AccessPlace) → MaySeen p.items (IfRoot p.items (OffAt (k, None)) (Of p b)) o
            no_seen None = tt
            no_seen (Some c) = λ q s r. tt

            no_access : (l : List Accessed) → EachAccess (SeenOff (OffAt (k, None))) l
            no_access [] = tt
            no_access (y ∷ l) = (λ c. no_seen y.place, no_access l)

        of_form : (form : Form) → Stand (nodes_of (node id from ty by form) ++ nodes_among rest) →
            Holds (typing.typed (context p.items x) (Passed want) (node id from ty by form)) →
            a.refers ≡ rules.refers_by aliases form → a.told ≡ told aliases (node id from ty by form) →
            within.DestsAround (OffAt (named (node id from ty by form))) (OffAt (named (node id from ty by form)))
            around (ids x) →
            Before around (ids x) (named (node id from ty by form)) rest as_
        of_form (tree.Borrow unique base) o h refers e outer = borrow_before id from ty by unique base rest a as_
            want o h
            (subst (Told p.items any_place (Of p b) aliases) e t) refers free outer
        of_form form o h refers e outer = record {
          cells = owned_by around (ids x) (OffAt (local id, None)) (nodes_among rest) (λ m i steps. tt);
          told = nothing as_ (local id);
          nameless = names_nothing p.items b also fuel (block_rises p sound n b at) (node id from ty by form)
              (o.all (node id from ty by form) (inl refl)) refl;
          outer = outer;
        }

    -- each leaves what those before name
    pub all_leave : (ns : Nodes) (tys : List TyId) (as_ : List Argument) (es : List Arg) → Argued aliases ns as_ →
        Stand (nodes_among ns) → Above least (nodes_among ns) →
        Holds (typing.arguments (context p.items x) tys ns) → AllTold p.items any_place (Of p b) aliases as_ →
        conflicts_among as_ ≡ [] →
        ((m : Node) → Rattle.soundness.proofs.PassAloneOff.ArgIn ns m →
        within.DestsAround (OffAt (named m)) (OffAt (named m)) around (ids x)) → AllBefore around (ids x) es ns as_ →
        AllLeave p.items b also fuel (block_rises p sound n b at) around es ns
    all_leave no_node tys as_ es k o above h t free outer j = tt
    all_leave (a_node m rest) [] as_ es k o above h t free outer j = absurd (false≢true h)
    all_leave (a_node m rest) (want ∷ tys) [] es k o above h t free outer j = absurd k
    all_leave (a_node m rest) (want ∷ tys) (a ∷ as_) es k o above h t free outer j = (
      one_leaves es m rest a as_ want j
          (here.here_left p.items any_place (Of p b) aliases places x (nodes_of m) (nodes_among rest) o)
          (Rattle.soundness_frame.proofs.PassToldPlaces.above_left least (nodes_of m) (nodes_among rest) above) h.0 k.0.1 t.0,
      all_leave rest tys as_ (es ++ named m ∷ []) k.1
          (here.here_right p.items any_place (Of p b) aliases places x (nodes_of m) (nodes_among rest) o)
          (Rattle.soundness_frame.proofs.PassToldPlaces.above_right least (nodes_of m) (nodes_among rest) above) h.1 t.1
          (rest_apart a as_ free) (λ q i. outer q (inr i))
          (and_one around (ids x) es (named m) rest as_ (all_rest around (ids x) es m rest a as_ j)
          (new_before m rest a as_ want o h.0 t.0 k.0.0 k.0.1 free (outer m (inl refl)))),
    )
