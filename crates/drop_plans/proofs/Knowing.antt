-- Rows that are passed through the statements of a block say what the paths that come to its drop tell.
use Rattle.std.proofs.Common.{◌≡◌, ◌↔◌, ◌∙◌, ◌∷◌, [], ◌++◌, ℕ, zero, suc, Bool, true, false, not, ◌&&◌, ◌||◌, List, Option, Some, None, map, flat_map, length, slice_get, refl, sym, ap, subst, append_assoc, arith, if◌then◌else◌}
use Rattle.std.specs.Prelude.{slice_index_or, nat_eq}
use Rattle.std.specs.Option.{option_map_or}
use Rattle.std.proofs.lemmas.Bool.{false≢true, eqb-true}
use Rattle.std.proofs.lemmas.List.{get_or-map, length-map, map-append, same_from_push}
use Rattle.std.proofs.lemmas.Option.{get_or_from_slice_get, slice_get_within}
use Rattle.bit_rows.specs.Words.{union, difference}
use Rattle.mir_ty.specs.ItemTable.{ItemTable}
use Rattle.store_model.specs.Places.Place.{Place}
use Rattle.cfg_graph.specs.declared.graph.Block.{Block}
use Rattle.cfg_graph.specs.declared.graph.Body.{Body}
use Rattle.cfg_graph.specs.declared.place.Place as graph
use Rattle.cfg_graph.specs.declared.statement.Stmt.{Stmt}
use Rattle.cfg_graph.specs.declared.terminator.Term.{Term}
use Rattle.cfg_graph.specs.declared.terminator.Unwind.{Unwind}
use Rattle.cfg_graph.specs.Moves.Actions.{at_line, stmt_actions, block_actions, actions_on}
use Rattle.cfg_graph.specs.Moves.Gone.{PathAction, is_gone_after}
use Rattle.cfg_graph.specs.Moves.Paths.{IsPath}
use Rattle.cfg_graph.specs.Places.{named}
use Rattle.cfg_graph.specs.Uses.{PlaceUse, Drops, stmt_uses, term_uses}
use Rattle.drop_elaborate.specs.Kinds.{Comes, MayBe, before_last}
use Rattle.init_flow.proofs.Along.{came, came-is, state-plain}
use Rattle.init_flow.proofs.Following.{state, acts, act, follows, AreIn}
use Rattle.init_flow.proofs.Inside.{inside}
use Rattle.init_flow.specs.Carried.{Bits, last_of}
use Rattle.init_flow.specs.Fits.{Fits}
use Rattle.init_flow.specs.Laws.{length-all}
use Rattle.init_flow.specs.Moved.{LeadsTo, says, masks_of}
use Rattle.init_flow.specs.Switches.{by_mask, switch_by, all_switched}
use Rattle.init_flow.specs.declared.switches.Switch.{Switch}
use Rattle.move_paths.specs.Forest.{PathForest, IsForest}
use Rattle.drop_plans.specs.Known.{RowSays}

-- Rows, bit by bit.

abbrev bit : Bits → ℕ → Bool
bit row k = slice_index_or row k false

bit-union : (a b : Bits) (k : ℕ) → length a ≡ length b → bit (union a b) k ≡ (bit a k || bit b k)
bit-union [] [] k e = refl
bit-union [] (y ∷ ys) k e = absurd (omega (e, arith))
bit-union (x ∷ xs) [] k e = absurd (omega (e, arith))
bit-union (x ∷ xs) (y ∷ ys) zero e = refl
bit-union (x ∷ xs) (y ∷ ys) (suc k) e = bit-union xs ys k (omega (e, arith))

-- a bit past the end is off
bit-difference : (a b : Bits) (k : ℕ) → length a ≡ length b → bit (difference a b) k ≡ (not (bit a k) && bit b k)
bit-difference [] [] k e = refl
bit-difference [] (y ∷ ys) k e = absurd (omega (e, arith))
bit-difference (x ∷ xs) [] k e = absurd (omega (e, arith))
bit-difference (x ∷ xs) (y ∷ ys) zero e = refl
bit-difference (x ∷ xs) (y ∷ ys) (suc k) e = bit-difference xs ys k (omega (e, arith))

or-grows : (m a b : Bool) → (a ≡ true → b ≡ true) → (m || a) ≡ true → (m || b) ≡ true
or-grows true a b f h = refl
or-grows false a b f h = f h

and-grows : (m a b : Bool) → (a ≡ true → b ≡ true) → (m && a) ≡ true → (m && b) ≡ true
and-grows true a b f h = f h
and-grows false a b f h = absurd (false≢true h)

-- where more bits are on, more bits are on behind a switch
module _ (k : ℕ) (one other : Bits) (same : length one ≡ length other) (grows : bit one k ≡ true → bit other k ≡ true) where
  by-grows : (mask : Bits) (on b : Bool) → nat_eq (length mask) (length one) ≡ b →
      bit (if b then (if on then union mask one else difference mask one) else one) k ≡ true →
      bit (if b then (if on then union mask other else difference mask other) else other) k ≡ true
  by-grows mask true true e h =
      let long : length mask ≡ length one = eqb-true (length mask) (length one) e in
      bit-union mask other k (long ∙ same)
      ∙ or-grows (bit mask k) (bit one k) (bit other k) grows (sym (bit-union mask one k long) ∙ h)
  by-grows mask false true e h =
      let long : length mask ≡ length one = eqb-true (length mask) (length one) e in
      bit-difference mask other k (long ∙ same)
      ∙ and-grows (not (bit mask k)) (bit one k) (bit other k) grows (sym (bit-difference mask one k long) ∙ h)
  by-grows mask on false e h = grows h

  switch-grows : (mask : Option Bits) (on : Bool) → bit (by_mask mask on one) k ≡ true → bit (by_mask mask on other) k ≡ true
  switch-grows None on h = grows h
  switch-grows (Some mask) on h =
      ap (λ (n : ℕ). bit (if nat_eq (length mask) n then (if on then union mask other else difference mask other) else other) k) (sym same)
      ∙ by-grows mask on (nat_eq (length mask) (length one)) refl h

pub all-grow : (below : List Bits) (switches : List Switch) (k : ℕ) (one other : Bits) → length one ≡ length other →
    (bit one k ≡ true → bit other k ≡ true) → bit (all_switched below switches one) k ≡ true →
    bit (all_switched below switches other) k ≡ true
all-grow below [] k one other same grows h = grows h
all-grow below (switch ∷ switches) k one other same grows h =
    all-grow below switches k (switch_by below switch one) (switch_by below switch other)
    (length-all below (switch ∷ []) one ∙ same ∙ sym (length-all below (switch ∷ []) other))
    (switch-grows k one other same grows (slice_get below switch.path) switch.on) h

-- What is done before a drop.

before-drop : (xs : List PathAction) (last : PathAction) → before_last (xs ++ last ∷ []) ≡ xs
before-drop [] last = refl
before-drop (x ∷ []) last = refl
before-drop (x ∷ y ∷ xs) last = ap (λ (z : List PathAction). x ∷ z) (before-drop (y ∷ xs) last)

-- a list and its last element
front : ℕ → List ℕ → List ℕ
front n [] = []
front n (next ∷ rest) = n ∷ front next rest

front-last : (n : ℕ) (rest : List ℕ) → n ∷ rest ≡ front n rest ++ last_of n rest ∷ []
unfolding front
front-last n [] = refl
front-last n (next ∷ rest) = ap (λ (z : List ℕ). n ∷ z) (front-last next rest)

-- an action, wherever it stands
abbrev plain : PathAction → PathAction
plain action = record { how = action.how; place = action.place; block = 0; line = 0 }

line-plain : (block line : ℕ) (uses : List (PlaceUse × graph.Place)) → map plain (at_line block line uses) ≡ acts uses
line-plain block line [] = refl
line-plain block line (made ∷ uses) = ap (λ (z : List PathAction). act made ∷ z) (line-plain block line uses)

stmts-plain : (block line : ℕ) (stmts : List Stmt) →
    map plain (stmt_actions block line stmts) ≡ acts (flat_map stmt_uses stmts)
stmts-plain block line [] = refl
stmts-plain block line (stmt ∷ stmts) =
    map-append plain (at_line block line (stmt_uses stmt)) (stmt_actions block (suc line) stmts)
    ∙ (λ i. line-plain block line (stmt_uses stmt) i ++ stmts-plain block (suc line) stmts i)
    ∙ sym (map-append act (stmt_uses stmt) (flat_map stmt_uses stmts))

acts-plain : (uses : List (PlaceUse × graph.Place)) → map plain (acts uses) ≡ acts uses
acts-plain [] = refl
acts-plain (made ∷ uses) = ap (λ (z : List PathAction). act made ∷ z) (acts-plain uses)

in-front : (items : ItemTable) (body : Body) (paths : List Place) (uses rest : List (PlaceUse × graph.Place)) →
    AreIn items body paths (uses ++ rest) → AreIn items body paths uses
in-front items body paths [] rest h = tt
in-front items body paths (made ∷ uses) rest h = (h.0, in-front items body paths uses rest h.1)

-- what a path begins with
from-zero : (items : ItemTable) (body : Body) (path : List ℕ) (given : List Bool) → IsPath items body path given →
    (rest : List ℕ) × (path ≡ 0 ∷ rest)
from-zero items body [] given has = absurd (let k = has.1 in omega (k, arith))
from-zero items body (zero ∷ rest) given has = (rest, refl)
from-zero items body (suc n ∷ rest) given has = absurd (let k = has.1 in omega (k, arith))

module _ (items : ItemTable) (body : Body) (forest : PathForest) (is : IsForest items body forest) (n : ℕ) (block : Block)
    (at : slice_get body.blocks n ≡ Some block) (dropped : graph.Place) (next : ℕ) (unwind : Unwind)
    (term : block.term ≡ Term.DropAt dropped next unwind) (gone : Bool) where
  abbrev stmts : List PathAction
  stmts = stmt_actions n 0 block.stmts

  abbrev the_drop : PathAction
  the_drop = record { how = Drops; place = named dropped; block = n; line = length block.stmts }

  in-drop : actions_on body (n ∷ []) ≡ stmts ++ the_drop ∷ []
  in-drop =
      ap (λ (o : Option Block). option_map_or (block_actions n) o []) at
      ∙ ap (λ (t : Term). stmts ++ at_line n (length block.stmts) (term_uses t)) term

  -- what is done before the drop on a path to it
  done : (path : List ℕ) (earlier : List PathAction) →
      actions_on body (path ++ n ∷ []) ≡ earlier ++ actions_on body (n ∷ []) →
      before_last (actions_on body (path ++ n ∷ [])) ≡ earlier ++ stmts
  done path earlier all =
      ap before_last
      (all ∙ ap (λ (z : List PathAction). earlier ++ z) in-drop ∙ sym (append_assoc earlier stmts (the_drop ∷ [])))
      ∙ before-drop (earlier ++ stmts) the_drop

  comes : (q : Place) (g : Bool) (it : LeadsTo items body n q g) → Comes items body n (it.earlier ++ stmts)
  comes q g it =
      let split : 0 ∷ it.rest ≡ front 0 it.rest ++ n ∷ [] =
      front-last 0 it.rest ∙ ap (λ (m : ℕ). front 0 it.rest ++ m ∷ []) it.ends in record {
        path = front 0 it.rest;
        given = it.choices;
        is_path = subst (λ (l : List ℕ). IsPath items body l it.choices) split it.is_path;
        before_is = sym (done (front 0 it.rest) it.earlier (ap (actions_on body) (sym split) ∙ it.before));
      }

  -- a path that comes to the drop leads to its block
  came-so : (before : List PathAction) (c : Comes items body n before) →
      (earlier : List PathAction) × (before ≡ earlier ++ stmts)
      × ((q : Place) (g : Bool) → is_gone_after items body earlier q ≡ g → LeadsTo items body n q g)
  came-so before c =
      let zero = from-zero items body (c.path ++ n ∷ []) c.given c.is_path in
      let split = same_from_push c.path (front 0 zero.0) n (last_of 0 zero.0) (zero.1 ∙ front-last 0 zero.0) in
      let earlier : List PathAction = came body 0 zero.0 in
      let on : actions_on body (0 ∷ zero.0) ≡ earlier ++ actions_on body (n ∷ []) =
      came-is body 0 zero.0 ∙ ap (λ (m : ℕ). earlier ++ actions_on body (m ∷ [])) (sym split.1) in (
        earlier,
        c.before_is ∙ done c.path earlier (ap (actions_on body) zero.1 ∙ on),
        λ q g gone_so. record {
          rest = zero.0;
          choices = c.given;
          earlier = earlier;
          is_path = subst (λ (l : List ℕ). IsPath items body l c.given) zero.1 c.is_path;
          ends = sym split.1;
          before = on;
          is = gone_so;
        },
      )

  module _ (row : Bits) (said : RowSays items body forest.paths n gone row) (switches : List Switch)
      (fits : Fits forest.paths gone switches (flat_map stmt_uses block.stmts)) where
    abbrev says_of : List PathAction → Bits
    says_of earlier = state items body forest.paths gone earlier

    abbrev passed : Bits → Bits
    passed start = all_switched (masks_of forest.paths) switches start

    passed-state : (earlier : List PathAction) → passed (says_of earlier) ≡ says_of (earlier ++ stmts)
    passed-state earlier =
        let uses = flat_map stmt_uses block.stmts in
        follows items body forest is gone uses switches fits
        (in-front items body forest.paths uses _ (inside items body forest is n 0 block at)) earlier
        ∙ sym (state-plain items body forest.paths gone (earlier ++ acts uses))
        ∙ ap says_of (map-append plain earlier (acts uses)
        ∙ ap (λ (z : List PathAction). map plain earlier ++ z) (acts-plain uses ∙ sym (stmts-plain n 0 block.stmts))
        ∙ sym (map-append plain earlier stmts))
        ∙ state-plain items body forest.paths gone (earlier ++ stmts)

    state-bit : (k : ℕ) (path : Place) → slice_get forest.paths k ≡ Some path → (earlier : List PathAction) →
        bit (says_of earlier) k ≡ says gone (is_gone_after items body earlier path)
    state-bit k path here earlier =
        get_or-map (λ (q : Place). says gone (is_gone_after items body earlier q)) forest.paths k path false
        (slice_get_within forest.paths k path here)
        ∙ ap (λ (q : Place). says gone (is_gone_after items body earlier q))
        (get_or_from_slice_get forest.paths k path path here)

    said-so : (g is_so : Bool) → says g is_so ≡ true → is_so ≡ g
    said-so true is_so h = h
    said-so false true h = absurd (false≢true h)
    said-so false false h = refl

    so-said : (g is_so : Bool) → is_so ≡ g → says g is_so ≡ true
    so-said true is_so h = h
    so-said false true h = absurd (false≢true (sym h))
    so-said false false h = refl

    long : (earlier : List PathAction) → length row ≡ length (says_of earlier)
    long earlier =
        said.width ∙ sym (length-map forest.paths (λ (q : Place). says gone (is_gone_after items body earlier q)))

    module _ (k : ℕ) (path : Place) (here : slice_get forest.paths k ≡ Some path) where
      may-be : (q : Place) (g : Bool) (it : LeadsTo items body n q g) →
          (bit row k ≡ true → bit (says_of it.earlier) k ≡ true) → bit (passed row) k ≡ true → MayBe items body n path gone
      may-be q g it grows on = (
        it.earlier ++ stmts,
        comes q g it,
        said-so gone (is_gone_after items body (it.earlier ++ stmts) path)
            (sym (ap (λ (z : Bits). bit z k) (passed-state it.earlier) ∙ state-bit k path here (it.earlier ++ stmts))
            ∙ all-grow (masks_of forest.paths) switches k row (says_of it.earlier) (long it.earlier) grows on),
      )

      forth : (q : Place) (g : Bool) → LeadsTo items body n q g → bit (passed row) k ≡ true → MayBe items body n path gone
      forth q g reached on = by (bit row k) refl
        where
          by : (b : Bool) → bit row k ≡ b → MayBe items body n path gone
          by true e =
              let it = (said.bits k path here).0 e in
              may-be path gone it (λ h. state-bit k path here it.earlier ∙ so-said gone (is_gone_after items body it.earlier path) it.is) on
          by false e = may-be q g reached (λ h. absurd (false≢true (sym e ∙ h))) on

      back : MayBe items body n path gone → bit (passed row) k ≡ true
      back may =
          let before = came-so may.0 may.1 in
          let after : bit (passed (says_of before.0)) k ≡ true =
          ap (λ (z : Bits). bit z k) (passed-state before.0) ∙ state-bit k path here (before.0 ++ stmts)
          ∙ so-said gone (is_gone_after items body (before.0 ++ stmts) path)
          (ap (λ (z : List PathAction). is_gone_after items body z path) (sym before.1) ∙ may.2) in
          all-grow (masks_of forest.paths) switches k (says_of before.0) row (sym (long before.0))
          (λ h. (said.bits k path here).1
          (before.2 path gone (said-so gone (is_gone_after items body before.0 path) (sym (state-bit k path here before.0) ∙ h)))) after

      pub passed-says : (q : Place) (g : Bool) → LeadsTo items body n q g →
          (bit (passed row) k ≡ true) ↔ MayBe items body n path gone
      passed-says q g reached = (forth q g reached, back)

  -- a block to which no path leads
  pub none-comes : (q : Place) → (LeadsTo items body n q true → ⊥) → (LeadsTo items body n q false → ⊥) →
      (path : Place) → MayBe items body n path gone → ⊥
  none-comes q not_gone not_there path may =
      let before = came-so may.0 may.1 in
      either (is_gone_after items body before.0 q) (before.2 q true) (before.2 q false)
    where
      either : (b : Bool) → (b ≡ true → LeadsTo items body n q true) → (b ≡ false → LeadsTo items body n q false) → ⊥
      either true f g = not_gone (f refl)
      either false f g = not_there (g refl)
