-- Each bit of a row of what is gone goes its own way.
use Rattle.std.proofs.Common.{◌≡◌, ◌⊎◌, inl, inr, ℕ, zero, suc, ◌*◌, ◌<◌, Bool, true, false, ◌&&◌, ◌||◌, if◌then◌else◌, List, [], ◌∷◌, length, nat_lt, Option, Some, None, slice_get, refl, sym, ap, subst, ◌∙◌, arith}
use Rattle.std.specs.Prelude.{unwrap_or, option_and_then}
use Rattle.std.specs.Option.{is_some}
use Rattle.std.specs.Cmp.{first_so, second_so}
use Rattle.std.proofs.lemmas.Bool.{false≢true, ltb-true}
use Rattle.std.proofs.lemmas.Option.{slice_get_within}
use Rattle.std.proofs.lemmas.List.{length-map}
use Rattle.mir_ty.specs.ItemTable.{ItemTable}
use Rattle.store_model.specs.Places.Place.{Place}
use Rattle.cfg_graph.specs.declared.graph.Block.{Block}
use Rattle.cfg_graph.specs.declared.graph.Body.{Body}
use Rattle.cfg_graph.specs.Edges.{is_turn}
use Rattle.cfg_graph.specs.Moves.Gone.{PathAction, left_by, is_gone_after}
use Rattle.init_flow.specs.Carried.{Bits}
use Rattle.init_flow.specs.Ways.{target}
use Rattle.move_errors.specs.Rows.{some_on, place_at, concerns, left, is_bad_by, after, first_by}
use Rattle.move_errors.specs.Runs.{Leads, problem, index_of, number_of, acts_at, point, entered, silently, arrived, leaving, left_block, is_silent, onward_from}
use Rattle.move_errors.specs.Searching.{bit, Own}
use Rattle.move_errors.specs.declared.point.Point.{Point}
use Rattle.move_errors.specs.declared.point.Stage.{Stage}
use Rattle.move_errors.specs.declared.point.Onward.{Onward}
use Rattle.move_errors.proofs.OnRows.{some-at}
use Rattle.move_errors.proofs.Leaving.{length-left}
use Rattle.move_errors.proofs.Turning.{stage-small}

some-in : (test : Place → Bool) (paths : List Place) (row : Bits) → some_on test paths row ≡ true
    → (i : ℕ) × (i < length paths) × (bit row i ≡ true) × (test (place_at paths i) ≡ true)
some-in test [] row h = absurd (false≢true h)
some-in test (q ∷ qs) [] h = absurd (false≢true h)
some-in test (q ∷ qs) (b ∷ row) h = by (some-in test qs row) (test q && b) refl h
  where
    by : (some_on test qs row ≡ true → (i : ℕ) × (i < length qs) × (bit row i ≡ true) × (test (place_at qs i) ≡ true)) → (a : Bool) → (test q && b) ≡ a → (a || some_on test qs row) ≡ true → (i : ℕ) × (i < suc (length qs)) × (bit (b ∷ row) i ≡ true) × (test (place_at (q ∷ qs) i) ≡ true)
    by again true e h = (0, omega arith, second_so (test q) b e, first_so (test q) b e)
    by again false e h = let it = again h in (suc it.0, (let k = it.1 in omega (k, arith)), it.2, it.3)

module _ (items : ItemTable) (body : Body) where
  left-bit : (a : PathAction) (paths : List Place) (row : Bits) (i : ℕ) → i < length paths → length row ≡ length paths
      → bit (left items body a paths row) i ≡ unwrap_or (left_by items body (place_at paths i) a) (bit row i)
  left-bit a [] row i within long = absurd (omega (within, arith))
  left-bit a (q ∷ qs) [] i within long = absurd (omega (long, arith))
  left-bit a (q ∷ qs) (b ∷ row) zero within long = refl
  left-bit a (q ∷ qs) (b ∷ row) (suc i) within long = left-bit a qs row i (omega (within, arith)) (omega (long, arith))

  module _ (paths : List Place) where
    pub after-width : (acts : List PathAction) (row : Bits) → length row ≡ length paths → length (after items body paths acts row) ≡ length paths
    after-width [] row long = long
    after-width (a ∷ acts) row long = after-width acts (left items body a paths row) (length-left items body a paths row long)

    abbrev pub Ways : (Bits → Bits) → ℕ → Type 0
    Ways g i = ((b : Bool) × ((row : Bits) → length row ≡ length paths → bit (g row) i ≡ b)) ⊎ ((row : Bits) → length row ≡ length paths → bit (g row) i ≡ bit row i)

    left-own : (a : PathAction) (i : ℕ) → i < length paths → Ways (left items body a paths) i
    left-own a i within = by (left_by items body (place_at paths i) a) refl
      where
        by : (o : Option Bool) → left_by items body (place_at paths i) a ≡ o → Ways (left items body a paths) i
        by None e = inr (λ row long. left-bit a paths row i within long ∙ ap (λ (z : Option Bool). unwrap_or z (bit row i)) e)
        by (Some b) e = inl (b, λ row long. left-bit a paths row i within long ∙ ap (λ (z : Option Bool). unwrap_or z (bit row i)) e)

    pub after-own : (acts : List PathAction) (i : ℕ) → i < length paths → Ways (after items body paths acts) i
    after-own [] i within = inr (λ row long. refl)
    after-own (a ∷ acts) i within = elim (after-own acts i within) [
      | inl always ↦ inl (always.0, λ row long. always.1 (left items body a paths row) (length-left items body a paths row long))
      | inr keeps ↦ elim (left-own a i within) [
        | inl first ↦ inl (first.0, λ row long. keeps (left items body a paths row) (length-left items body a paths row long) ∙ first.1 row long)
        | inr stays ↦ inr (λ row long. keeps (left items body a paths row) (length-left items body a paths row long) ∙ stays row long)
      ]
    ]

    abbrev bad : List PathAction → Bits → Bool
    bad acts row = is_some (first_by items body paths acts row)

    now-bad : (a : PathAction) (acts : List PathAction) (row : Bits) → is_bad_by items body paths a row ≡ true → bad (a ∷ acts) row ≡ true
    now-bad a acts row h = ap (λ (b : Bool). is_some (if b then Some a else first_by items body paths acts (left items body a paths row))) h

    -- whatever comes first, a later bad one makes some bad
    later-bad : (a : PathAction) (acts : List PathAction) (row : Bits) → bad acts (left items body a paths row) ≡ true → bad (a ∷ acts) row ≡ true
    later-bad a acts row h = by (is_bad_by items body paths a row)
      where
        by : (b : Bool) → is_some (if b then Some a else first_by items body paths acts (left items body a paths row)) ≡ true
        by true = refl
        by false = h

    abbrev pub Badly : List PathAction → Bits → Type 0
    Badly acts row =
        ((other : Bits) → length other ≡ length paths → bad acts other ≡ true)
        ⊎ ((i : ℕ) × (bit row i ≡ true) × ((other : Bits) → length other ≡ length paths → bit other i ≡ true → bad acts other ≡ true))

    bit-in : (row : Bits) (i : ℕ) → bit row i ≡ true → i < length row
    bit-in [] i on = absurd (false≢true on)
    bit-in (b ∷ row) zero on = omega arith
    bit-in (b ∷ row) (suc i) on = let k = bit-in row i on in omega (k, arith)

    pub bad-own : (acts : List PathAction) (row : Bits) → length row ≡ length paths → bad acts row ≡ true → Badly acts row
    bad-own [] row long h = absurd (false≢true h)
    bad-own (a ∷ acts) row long h = by (bad-own acts (left items body a paths row) (length-left items body a paths row long)) (is_bad_by items body paths a row) refl h
      where
        at : (i : ℕ) → bit (left items body a paths row) i ≡ true → ((other : Bits) → length other ≡ length paths → bit other i ≡ true → bad acts other ≡ true) → Badly (a ∷ acts) row
        at i on all =
            let within : i < length paths = (let k = bit-in (left items body a paths row) i on in let l = length-left items body a paths row long in omega (k, l, arith)) in
            elim (left-own a i within) [
              | inl always ↦ inl (λ other size. later-bad a acts other (all (left items body a paths other) (length-left items body a paths other size) (always.1 other size ∙ sym (always.1 row long) ∙ on)))
              | inr keeps ↦ inr (i, sym (keeps row long) ∙ on, λ other size set. later-bad a acts other (all (left items body a paths other) (length-left items body a paths other size) (keeps other size ∙ set)))
            ]

        by : (bad acts (left items body a paths row) ≡ true → Badly acts (left items body a paths row)) → (b : Bool) → is_bad_by items body paths a row ≡ b → is_some (if b then Some a else first_by items body paths acts (left items body a paths row)) ≡ true → Badly (a ∷ acts) row
        by again true e h =
            let it = some-in (λ q. concerns a.how q a.place) paths row e in
            inr (it.0, it.2, λ other size set. now-bad a acts other (some-at (λ q. concerns a.how q a.place) paths other it.0 it.1 set it.3))
        by again false e h = elim (again h) [
          | inl always ↦ inl (λ other size. later-bad a acts other (always (left items body a paths other) (length-left items body a paths other size)))
          | inr some ↦ at some.0 some.1 some.2
        ]

    pub owns : Own (problem items body paths)
    owns = record {
      starts = length-map paths (λ q. is_gone_after items body [] q);
      keeps = λ at row long. after-width (acts_at items body at.block at.stage) row long;
      pass_own = λ at i within. after-own (acts_at items body at.block at.stage) i within;
      bad_own = λ at row long h. bad-own (acts_at items body at.block at.stage) row long h;
    }

  -- Points that ways lead to are points of the body.

  in-body : (block : ℕ) (stage : Stage) → block < length body.blocks → index_of (point block stage) < length body.blocks * 4
  in-body block stage within = let k = stage-small stage in omega (within, k, arith)

  pub leads-inside : (block : ℕ) (stage : Stage) (choice : Option Bool) (to : Point) → Leads (onward_from items body block stage) choice to → index_of to < length body.blocks * 4
  leads-inside block Stage.Entry choice to leads = by (slice_get body.blocks block) refl leads
    where
      go : (b : Bool) → block < length body.blocks → Leads (if b then Onward.Choices (Some (point block Stage.Inside)) None else Onward.Silent (point block Stage.Inside)) choice to → index_of to < length body.blocks * 4
      go true within (inl none) = subst (λ (z : Point). index_of z < length body.blocks * 4) (let e : point block Stage.Inside ≡ to = cc (none.1) in e) (in-body block Stage.Inside within)
      go true within (inr one) = absurd (cc (one.1))
      go false within silent = subst (λ (z : Point). index_of z < length body.blocks * 4) silent.1 (in-body block Stage.Inside within)

      by : (o : Option Block) → slice_get body.blocks block ≡ o → Leads (entered block o) choice to → index_of to < length body.blocks * 4
      by None e leads = absurd leads
      by (Some found) e leads = go (is_turn found) (slice_get_within body.blocks block found e) leads
  leads-inside block Stage.Inside choice to leads = by (slice_get body.blocks block) refl leads
    where
      way : (k : Bool) → block < length body.blocks → leaving items body block k ≡ Some to → index_of to < length body.blocks * 4
      way k within e = from (target items body block (number_of k)) e
        where
          from : (o : Option ℕ) → option_and_then (λ to. Some (point block (Stage.Leaving k))) o ≡ Some to → index_of to < length body.blocks * 4
          from None e = absurd (cc)
          from (Some m) e = subst (λ (z : Point). index_of z < length body.blocks * 4) (let same : point block (Stage.Leaving k) ≡ to = cc in same) (in-body block (Stage.Leaving k) within)

      silent : (o : Option Point) → leaving items body block false ≡ o → block < length body.blocks → Leads (silently o) choice to → index_of to < length body.blocks * 4
      silent None e within leads = absurd leads
      silent (Some p) e within leads = way false within (e ∙ ap Some leads.1)

      go : (b : Bool) → block < length body.blocks → Leads (if b then silently (leaving items body block false) else Onward.Choices (leaving items body block false) (leaving items body block true)) choice to → index_of to < length body.blocks * 4
      go true within leads = silent (leaving items body block false) refl within leads
      go false within (inl none) = way false within none.1
      go false within (inr one) = way true within one.1

      by : (o : Option Block) → slice_get body.blocks block ≡ o → Leads (left_block items body block o) choice to → index_of to < length body.blocks * 4
      by None e leads = absurd leads
      by (Some found) e leads = go (is_silent items body found.term) (slice_get_within body.blocks block found e) leads
  leads-inside block (Stage.Leaving k) choice to leads = by (target items body block (number_of k)) leads
    where
      go : (m : ℕ) (b : Bool) → nat_lt m (length body.blocks) ≡ b → Leads (if b then Onward.Silent (point m Stage.Entry) else Onward.Nowhere) choice to → index_of to < length body.blocks * 4
      go m true e leads = subst (λ (z : Point). index_of z < length body.blocks * 4) leads.1 (in-body m Stage.Entry (ltb-true m (length body.blocks) e))
      go m false e leads = absurd leads

      by : (o : Option ℕ) → Leads (arrived (length body.blocks) o) choice to → index_of to < length body.blocks * 4
      by None leads = absurd leads
      by (Some m) leads = go m (nat_lt m (length body.blocks)) refl leads
