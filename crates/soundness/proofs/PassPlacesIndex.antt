-- An index leaves the place of its base known: it changes no index on the way there, since the cells of its nodes are
-- others, what the rule of borrows tells of it has names at its roots, and into the cells around go other numbers.
use Rattle.std.proofs.Common.{◌≡◌, inl, inr, ℕ, ◌<◌, ◌==◌, ◌||◌, Bool, true, false, List, [], ◌∷◌, ◌++◌, map, append_assoc, Option, Some, None, refl, ap, sym, ◌∙◌, subst, arith}
use Rattle.std.specs.Prelude.{slice_get}
use Rattle.std.proofs.lemmas.Bool.{false≢true}
use Rattle.std.proofs.lemmas.Bool.Decides.{Decides-eqb}
use Rattle.store_model.specs.Places.Place.{Place, Step, ToPart, ToField, ToContent, ToElement, whole_local}
use Rattle.typed_tree.specs.Nodes.{number_of, nodes_of}
use Rattle.typed_tree.specs.Tree as tree
use Rattle.typed_tree.specs.Tree.{Node, node, Form, BodyTree, ProgramTree}
use Rattle.src_meaning.specs.Forms.{Destination, Into, Coerced, LoopsAndGuards, Meaning, loop_destination}
use Rattle.src_meaning.specs.Evaluation.{meaning}
use Rattle.src_meaning.specs.Locals.Effects.{place_at, step_at}
use Rattle.src_meaning.specs.Locals.OfBody.{local_of, local_keys, local_ty}
use Rattle.src_meaning.specs.Scopes.{Scopes}
use Rattle.src_meaning.specs.Shape as shapes
use Rattle.src_meaning.specs.Shape.{NodeHead, head, shape, shape_of, extended, place_of_key}
use Rattle.typing_rules.specs.Accesses as rules
use Rattle.typing_rules.specs.Accesses.{AccessPlace, Accessed, told}
use Rattle.well_typed.specs.Claim.{Holds}
use Rattle.well_typed.specs.Nodes as typing
use Rattle.well_typed.specs.Places.{InScope, Base, Taken}
use Rattle.soundness_values.specs.Laws.{IsSound}
use Rattle.soundness_values.proofs.AlsoTests.{Also}
use Rattle.soundness_values.proofs.Checked.{Checking}
use Rattle.soundness_values.proofs.CheckedBodies.{is_reference_param}
use Rattle.soundness_values.proofs.Facts.{Facts, takes_index}
use Rattle.soundness.proofs.PassAloneBefore as before
use Rattle.soundness.proofs.PassAloneBefore.{SeenOff}
use Rattle.soundness.proofs.PassAloneFrame.{Stay}
use Rattle.soundness.proofs.PassAloneKeys.{other_keys, below_later}
use Rattle.soundness.proofs.PassAloneLeaves as leaves
use Rattle.soundness.proofs.PassAloneLeaves.{LeftAbove}
use Rattle.soundness.proofs.PassAloneRun.{run, I, Of}
use Rattle.soundness.proofs.PassBorrowApart.{no_index}
use Rattle.soundness.proofs.PassCallsAlone as alone
use Rattle.soundness_cells.proofs.PassCellNames.{map_append}
use Rattle.soundness_cells.proofs.PassCells.{Above, NodeIn, above_in}
use Rattle.soundness_frame.proofs.PassConflicts.{EachAccess}
use Rattle.soundness_cells.proofs.PassFacts.{Standpoint, context}
use Rattle.soundness_frame.proofs.PassFrameActs.{DestSo}
use Rattle.soundness_frame.proofs.PassFrameBodies.{any_place}
use Rattle.soundness_frame.proofs.PassFrameCalls.{Ends}
use Rattle.soundness_frame.proofs.PassFrameCells.{cells_same}
use Rattle.soundness_frame.proofs.PassFrameRuns.{MayAt}
use Rattle.soundness_frame.proofs.PassKeys.{Keys, KeysIn, keys_in_more, place_keys}
use Rattle.soundness.proofs.PassKnownJoined.{known_joined}
use Rattle.soundness.proofs.PassKnownPlaces.{Known, cell_known}
use Rattle.soundness.proofs.PassKnownStill.{no_variant, no_variant_then}
use Rattle.soundness.proofs.PassPlacesCalm.{all_known, alias_known}
use Rattle.soundness_frame.proofs.PassStays.{FactsStay, stay_same}
use Rattle.soundness_cells.proofs.PassSure.{known_place}
use Rattle.soundness_frame.proofs.PassTold as here
use Rattle.soundness_frame.proofs.PassTold.{ids, Here, IfRoot, Told, place_stands}
use Rattle.soundness_frame.proofs.PassToldForms.{node_within}
use Rattle.soundness_frame.proofs.PassToldPlaces.{AllOwned, MaySeen, is_alias}
use Rattle.soundness_frame.proofs.PassWithin as within
use Rattle.soundness_frame.proofs.PassWithin.{is_among, DestIn}

own_node : (m : Node) → NodeIn (nodes_of m) m
own_node (Rattle.typed_tree.specs.Tree.node id at ty by form) = inl refl

module _ (p : ProgramTree) (sound : IsSound p) (n fuel : ℕ) (b : BodyTree) (at : slice_get p.bodies n ≡ Some b) where
  abbrev V : Type 0
  V = Checking Facts

  abbrev also : Also
  also = alone.also p sound n

  abbrev local : ℕ → ℕ
  local = local_of p.items b

  abbrev M : Node → Meaning V
  M = meaning p.items (run p.items b also) fuel

  module _ (id : ℕ) (left : LeftAbove p sound n fuel b at id) (outer : rules.Aliases) (aliases : shapes.Aliases)
      (x : Standpoint) (base index : Node)
      (o : Here p.items any_place (Of p b) outer aliases x (nodes_of base ++ nodes_of index))
      (above : Above id (nodes_of index)) (base_typed : Holds (typing.typed (context p.items x) Base base))
      (typed : Holds (typing.typed (context p.items x) Taken index))
      (t : Told p.items any_place (Of p b) outer (told outer index)) where
    abbrev pub place : Place
    place = (shape p.items base).place aliases

    -- a place in none of the indices
    abbrev pub Off : Place → Type 0
    Off q = (i : ℕ) → takes_index i (place_at local place).steps ≡ true → (i == q.local) ≡ false

    abbrev Off_at : Place → Type 0
    Off_at = MayAt local Off

    off_by : (q : Place) → takes_index q.local (place_at local place).steps ≡ false → Off q
    off_by q h i k = by (i == q.local) refl
      where
        by : (c : Bool) → (i == q.local) ≡ c → c ≡ false
        by false e = refl
        by true e = absurd (false≢true (sym h
            ∙ subst (λ z. takes_index z (place_at local place).steps ≡ true) ((Decides-eqb i q.local).0 e) k))

    off_key : (key : ℕ) → KeysIn (λ k. k ≡ key → ⊥) place.steps → (q : Place) → q.local ≡ key → Off_at q
    off_key key k q e = off_by (place_at local q)
        (subst (λ z. takes_index (local z) (place_at local place).steps ≡ false) (sym e)
        (no_index (local_keys p.items b) key place.steps k))

    -- ---- the cells of its nodes

    owned_by : (ns : List Node) → ((m : Node) → NodeIn ns m → (steps : List Step) →
        Off_at (record { local = number_of m; steps = steps })) → AllOwned p.items Off_at ns
    owned_by [] f = tt
    owned_by (m ∷ ns) f = (f m (inl refl), owned_by ns (λ j i. f j (inr i)))

    owned : AllOwned p.items Off_at (nodes_of index)
    owned = owned_by (nodes_of index) (λ m i steps. off_key (number_of m)
        (other_keys (nodes_of index) m place i
        (below_later p.items any_place (Of p b) outer aliases x (nodes_of base) (nodes_of index) o base Base base_typed
        (λ j k. k))).1 (record { local = number_of m; steps = steps }) refl)

    -- ---- what is told of it

    roots : (key : ℕ) → (Of p b).root key → KeysIn (λ k. k ≡ key → ⊥) place.steps
    roots key r = keys_in_more (λ k. (Of p b).root k → ⊥) (λ k. k ≡ key → ⊥)
        (λ k none e. none (subst (Of p b).root (sym e) r)) place.steps
        (place_stands p.items any_place (Of p b) base Base outer aliases x
        (here.here_left p.items any_place (Of p b) outer aliases x (nodes_of base) (nodes_of index) o) base_typed).1

    seen_off : (as_ : List Accessed) → EachAccess (SeenOff p sound n fuel b at Off_at) as_
    seen_off [] = tt
    seen_off (a ∷ as_) = (λ c. by a.place, seen_off as_)
      where
        by : (o : Option AccessPlace) → MaySeen p.items (IfRoot p.items Off_at (Of p b)) o
        by None = tt
        by (Some d) = λ q s r. off_key q.local (roots q.local r) q refl

    -- ---- the cells around

    below : (d : ℕ) → is_among d x.outside ≡ true → (m : Node) → NodeIn (nodes_of base) m → number_of m ≡ d → ⊥
    below d i m j e =
        let less : d < number_of m = above_in d (nodes_of base ++ nodes_of index) m (o.under d i)
        (Rattle.soundness_cells.proofs.PassCells.node_left (nodes_of base) (nodes_of index) m j) in
        let same : number_of m ≡ d = e in
        let never : ⊥ = omega (less, same, arith) in never

    cell_around : (d : ℕ) → is_among d x.outside ≡ true → Off_at (whole_local d)
    cell_around d i = off_key d (place_keys (λ k. k ≡ d → ⊥) p.items aliases x (o.away d i).names
        (λ y e. closure d y e (is_alias outer y.key) refl ((o.away d i).self y e)) base Base base_typed (below d i)).1
        (whole_local d) refl
      where
        closure : (d : ℕ) (y : InScope) → x.closure ≡ Some y → (c : Bool) → is_alias outer y.key ≡ c → (y.key ≡ d → ⊥) →
            Keys (λ k. k ≡ d → ⊥) (place_of_key y.key aliases)
        closure d y e true u f = absurd (o.sees.closure y e u)
        closure d y e false u f = subst (Keys (λ k. k ≡ d → ⊥)) (sym (o.sees.plain y.key u)) (f, tt)

    dest_around : (to : Destination) → DestIn x.outside to → DestSo Off_at Off_at to
    dest_around (Into key) k = cell_around key k
    dest_around (Coerced key trait_no to) k = (cell_around key k.0, cell_around to k.1)

    index_within : within.Within p.items Off_at (leaves.Above p sound n fuel b at id) aliases (ids x) index
    index_within = node_within p.items Off_at (before.Inner p sound n fuel b at id Off_at)
        (leaves.Above p sound n fuel b at id) (before.says_so p sound n fuel b at id Off_at) index Taken outer aliases
        x tt (before.here_so p sound n fuel b at id Off_at outer aliases x (nodes_of index)
        (here.here_right p.items any_place (Of p b) outer aliases x (nodes_of base) (nodes_of index) o) owned above)
        typed (
          before.permit_so p sound n fuel b at id Off_at outer (told outer index).accesses
              (seen_off (told outer index).accesses) t.0,
          t.1,
        )

    module _ (around : LoopsAndGuards) (outside : around.aliases ≡ aliases) (keys : within.KeysAround around (ids x))
      where
        around_so : within.Around Off_at around (ids x)
        around_so = (
          (
            dest_around around.answer keys.0,
            λ loop i. dest_around (loop_destination loop around.loops) (keys.1 loop
                i),
          ),
          keys,
        )

        -- so where the index has a value, only places that are no index there may have changed
        pub index_stays : (S : Scopes) (v : V) → I p.items b also v →
            Ends (Stay p.items b also Off v.facts v.free.cells)
            ((M index).evaluate around false (Into (M index).head.id) S v)
        index_stays S v i =
            leaves.stays_so p sound n fuel b at id left Off v.facts v.free.cells index around (ids x) around_so
            (subst (λ a. within.Within p.items Off_at (leaves.Above p sound n fuel b at id) a (ids x) index) (sym
            outside) index_within) S v ((stay_same Off v.facts, cells_same Off v.free.cells), i)

    -- ---- the place of the base, where what names stand for is known anew

    -- a place that is known anew, and steps behind it that go into no variant
    record Rooted (q : Place) : Type 0 where
      pub way : Place
      pub rest : List Step
      pub same : q ≡ record { local = way.local; steps = way.steps ++ rest }
      pub plain : no_variant rest ≡ true
      pub anew : (facts : Facts) → all_known p.items b aliases facts ≡ true → Known p.items b facts way

    append_nil : (steps : List Step) → steps ++ [] ≡ steps
    append_nil [] = refl
    append_nil (s ∷ steps) = ap (λ l. s ∷ l) (append_nil steps)

    itself : (q : Place) → ((facts : Facts) → all_known p.items b aliases facts ≡ true → Known p.items b facts q) →
        Rooted q
    itself q f = record {
      way = q;
      rest = [];
      same = ap (λ (s : List Step). record { local = q.local; steps = s }) (sym (append_nil q.steps));
      plain = refl;
      anew = f;
    }

    further : (q : Place) (step : Step) → no_variant (step ∷ []) ≡ true → Rooted q → Rooted (extended step q)
    further q step e k = record {
      way = k.way;
      rest = k.rest ++ step ∷ [];
      same = ap (extended step) k.same
          ∙ ap (λ (s : List Step). record { local = k.way.local; steps = s }) (append_assoc k.way.steps k.rest (step ∷
          []));
      plain = no_variant_then k.rest step k.plain e;
      anew = k.anew;
    }

    mutual
      rooted : (m : Node) → Rooted ((shape p.items m).place aliases)
      rooted (node id at_ ty by form) = rooted_form form (head id ty by)

      rooted_form : (form : Form) (h : NodeHead) → Rooted ((shape_of p.items form h).place aliases)
      rooted_form (tree.Variable key) h =
          itself (place_of_key key aliases) (λ facts k. alias_known p.items b aliases facts k key)
      rooted_form (tree.Captured closure part name) h = further (place_of_key closure aliases) (ToPart part) refl
          (itself (place_of_key closure aliases) (λ facts k. alias_known p.items b aliases facts k closure))
      rooted_form (tree.Field base part) h = further ((shape p.items base).place aliases) (ToPart part) refl (rooted
          base)
      rooted_form (tree.Index base index count) h =
          further ((shape p.items base).place aliases) (ToElement (number_of index)) refl (rooted base)
      rooted_form (tree.Deref base) h = further ((shape p.items base).place aliases) ToContent refl (rooted base)
      rooted_form form h = itself (whole_local h.id) (λ facts k. cell_known p.items b facts h.id)

    plain_at : (steps : List Step) → no_variant (map (step_at local) steps) ≡ no_variant steps
    plain_at [] = refl
    plain_at (ToPart m ∷ steps) = plain_at steps
    plain_at (ToField v m ∷ steps) = refl
    plain_at (ToContent ∷ steps) = plain_at steps
    plain_at (ToElement i ∷ steps) = plain_at steps

    -- so it is known
    pub base_known : (v w : Facts) → FactsStay Off v w → all_known p.items b aliases w ≡ true →
        Known p.items b v place → Known p.items b w place
    base_known v w s k h = let q = rooted base in subst (Known p.items b w) (sym q.same)
        (subst (λ (z : Place). known_place p.items (local_ty p.items b) (is_reference_param p.items b) w z ≡ true)
        (sym (at_local q.way q.rest))
        (known_joined p.items (local_ty p.items b) (is_reference_param p.items b) v w (local q.way.local)
        (map (step_at local) q.way.steps) (map (step_at local) q.rest) (plain_at q.rest ∙ q.plain)
        (λ i count t e. s.bounded i count (λ u f. f i (on_way q i t)) e) (q.anew w k)
        (subst (λ (z : Place). known_place p.items (local_ty p.items b) (is_reference_param p.items b) v z ≡ true)
        (at_local q.way q.rest) (subst (Known p.items b v) q.same h))))
      where
        at_local : (way : Place) (rest : List Step) →
            place_at local (record { local = way.local; steps = way.steps ++ rest })
            ≡ record { local = local way.local; steps = map (step_at local) way.steps ++ map (step_at local) rest }
        at_local way rest = ap (λ (s : List Step). record { local = local way.local; steps = s })
            (map_append (step_at local) way.steps rest)

        behind : (i : ℕ) (way rest : List Step) → takes_index i rest ≡ true → takes_index i (way ++ rest) ≡ true
        behind i [] rest t = t
        behind i (ToPart m ∷ way) rest t = behind i way rest t
        behind i (ToField u m ∷ way) rest t = behind i way rest t
        behind i (ToContent ∷ way) rest t = behind i way rest t
        behind i (ToElement j ∷ way) rest t = second (j == i) (takes_index i (way ++ rest)) (behind i way rest t)
          where
            second : (a c : Bool) → c ≡ true → (a || c) ≡ true
            second true c e = refl
            second false c e = e

        on_way : (q : Rooted place) (i : ℕ) → takes_index i (map (step_at local) q.rest) ≡ true →
            takes_index i (place_at local place).steps ≡ true
        on_way q i t = subst (λ (z : Place). takes_index i (place_at local z).steps ≡ true) (sym q.same)
            (subst (λ (z : Place). takes_index i z.steps ≡ true) (sym (at_local q.way q.rest))
            (behind i (map (step_at local) q.way.steps) (map (step_at local) q.rest) t))
