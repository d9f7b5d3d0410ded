-- Where the watch over what the reference in a local names finds nothing bad along the actions of a path, it stays
-- there while the reference is used.
use Rattle.std.proofs.Common.{◌≡◌, ℕ, zero, suc, ◌==◌, ◌||◌, ◌&&◌, not, Bool, true, false, List, [], ◌∷◌, ◌++◌, take_while, if◌then◌else◌, cond, Option, None, refl, sym, ap, subst, ◌∙◌}
use Rattle.std.specs.List.{list_all}
use Rattle.std.specs.Option.{option_map_or}
use Rattle.std.proofs.lemmas.Bool.{false≢true, eqb-true}
use Rattle.std.proofs.lemmas.List.Folds.{list_all-append}
use Rattle.std.proofs.lemmas.List.Sums.{take_while-cons}
use Rattle.store_model.specs.Places.Place.{Place}
use Rattle.cfg_graph.specs.declared.graph.Body.{Body}
use Rattle.cfg_graph.specs.Moves.Actions.{actions_on}
use Rattle.cfg_graph.specs.Moves.Gone.{PathAction}
use Rattle.cfg_graph.specs.NamedPlaces.{named_by, references_made, follow, followed, named_places, takes, overlap, spares, makes, uses, stores, goes_through, of_line, up_to_uses, stretches, keeps_named}
use Rattle.lower_ready.proofs.Noting.{Note}
use Rattle.lower_ready.proofs.PathWatch.{between, path_seen}
use Rattle.lower_ready.proofs.NamedWatch as watch
use Rattle.lower_ready.proofs.NamedWatch.{Since, Unmade, Kept, Taken, NamedState, used_by, taken_since}

or_left : (a b : Bool) → a ≡ true → a || b ≡ true
or_left true b e = refl
or_left false b e = absurd (false≢true e)

and_both : (a b : Bool) → a ≡ true → b ≡ true → a && b ≡ true
and_both true b e d = d
and_both false b e d = e

and_first : (a b : Bool) → a && b ≡ true → a ≡ true
and_first true b e = refl
and_first false b e = e

and_second : (a b : Bool) → a && b ≡ true → b ≡ true
and_second true b e = e
and_second false b e = absurd (false≢true e)

module _ (body : Body) (local : ℕ) where
  abbrev crosses : List Note → Bool
  crosses = watch.crosses body local

  abbrev line_notes : (block line : ℕ) → List Note
  line_notes = watch.line_notes body local

  abbrev crossed_at : PathAction → Bool
  crossed_at = watch.crossed_at body local

  abbrev step_by : (made used spared : Bool) → Bool → Note → NamedState → NamedState
  step_by = watch.step_by body local

  abbrev acts_run : List PathAction → NamedState → NamedState
  acts_run = watch.acts_run body local

  abbrev AllFrom : List PathAction → Type 0
  AllFrom = watch.AllFrom body local

  abbrev AllSpare : List PathAction → Bool
  AllSpare acts = list_all (spares body local) acts

  abbrev AllStay : List (List PathAction) → Bool
  AllStay parts = list_all (list_all (spares body local)) parts

  line_spares : (b l : ℕ) (acts : List PathAction) → AllFrom acts → crosses (line_notes b l) ≡ false →
      AllSpare (take_while (λ action. (action.block == b) && (action.line == l)) acts) ≡ true
  line_spares b l [] f e = refl
  line_spares b l (a ∷ later) f e =
      ap AllSpare (take_while-cons (λ (action : PathAction). (action.block == b) && (action.line == l)) a later)
      ∙ by ((a.block == b) && (a.line == l)) refl (line_spares b l later f.1 e)
    where
      by : (c : Bool) → ((a.block == b) && (a.line == l)) ≡ c →
          AllSpare (take_while (λ action. (action.block == b) && (action.line == l)) later) ≡ true →
          AllSpare (cond c (a ∷ take_while (λ action. (action.block == b) && (action.line == l)) later) []) ≡ true
      by false d rest = refl
      by true d rest =
          let same_block = eqb-true a.block b (and_first (a.block == b) (a.line == l) d) in
          let same_line = eqb-true a.line l (and_second (a.block == b) (a.line == l) d) in
          and_both (spares body local a) _
          (f.0 ((λ i. crosses (line_notes (same_block i) (same_line i))) ∙ e)) rest

  goes_first : (made : List (ℕ × Place)) (most : ℕ) (place : Place) → (place.local == local) ≡ true →
      goes_through body local (follow made most place) ≡ true
  goes_first made zero place e = ap (λ (c : Bool). c || false) e
  goes_first made (suc most) place e = or_left (place.local == local) _ e

  pub use_spares : (a : PathAction) → uses body local a ≡ true → spares body local a ≡ true
  use_spares a e =
      subst (λ (g : Bool). (not (takes body a) || g
      || not (overlap body (named_places body local) (followed body a.place))) ≡ true)
      (sym (goes_first _ _ a.place (and_first (a.place.local == local) (not (makes body local a)) e)))
      (by (not (takes body a)))
    where
      by : (x : Bool) → (x || true
          || not (overlap body (named_places body local) (followed body a.place))) ≡ true
      by true = refl
      by false = refl

  all_with : (xs ys : List PathAction) → AllSpare xs ≡ true → AllSpare ys ≡ true → AllSpare (xs ++ ys) ≡ true
  all_with xs ys e d = list_all-append (spares body local) xs ys ∙ and_both (AllSpare xs) (AllSpare ys) e d

  stay_with : (xs ys : List (List PathAction)) → AllStay xs ≡ true → AllStay ys ≡ true → AllStay (xs ++ ys) ≡ true
  stay_with xs ys e d = list_all-append (list_all (spares body local)) xs ys ∙ and_both (AllStay xs) (AllStay ys) e d

  abbrev since_of : Bool → Since
  since_of true = Kept
  since_of false = Taken

  abbrev Fine : List PathAction → Since → Bool → Type 0
  Fine acts since bad = (acts_run acts (record { since = since; is_bad = bad })).is_bad ≡ false

  bad_never : {P : Type 0} (acts : List PathAction) (m : NamedState) → (acts_run acts m).is_bad ≡ false →
      m.is_bad ≡ true → P
  bad_never acts m fine b = absurd (false≢true (sym fine ∙ watch.run_stays body local acts m b))

  up_to : (acts : List PathAction) → AllFrom acts → (between : List PathAction) (bad : Bool) →
      Fine acts (since_of (AllSpare between)) bad → AllStay (up_to_uses body local between acts) ≡ true
  up_to [] f between bad fine = refl
  up_to (a ∷ later) f between bad fine =
      by (λ more b h. up_to later f.1 more b h) (makes body local a) (uses body local a) (spares body local a) refl
      refl refl fine
    where
      -- what is shown of the actions that come later
      Again : Type 0
      Again = (more : List PathAction) (b : Bool) → Fine later (since_of (AllSpare more)) b →
          AllStay (up_to_uses body local more later) ≡ true

      more_of : Again → (x : Bool) → AllSpare (between ++ a ∷ []) ≡ x → Fine later (since_of x) bad →
          AllStay (up_to_uses body local (between ++ a ∷ []) later) ≡ true
      more_of again x e fine = again (between ++ a ∷ []) bad
          (subst (λ (c : Bool). Fine later (since_of c) bad) (sym e) fine)

      joined : AllSpare (between ++ a ∷ []) ≡ (AllSpare between && (spares body local a && true))
      joined = list_all-append (spares body local) between (a ∷ [])

      used : Again → uses body local a ≡ true → (kept : Bool) → AllSpare between ≡ kept → (by_store crossed : Bool) →
          crossed_at a ≡ crossed →
          Fine later (since_of kept) (used_by by_store crossed (since_of kept) bad) →
          AllStay (up_to_uses body local (between ++ a ∷ []) later) ≡ true × AllSpare
          (between ++ a ∷ of_line body a later) ≡ true
      used again u false e by_store crossed c fine = bad_never later (record { since = Taken; is_bad = true }) fine refl
      used again u true e true crossed c fine =
          bad_never later (record { since = Kept; is_bad = bad || true }) fine (or_true bad)
        where
          or_true : (x : Bool) → x || true ≡ true
          or_true true = refl
          or_true false = refl
      used again u true e false true c fine =
          bad_never later (record { since = Kept; is_bad = bad || true }) fine (or_true bad)
        where
          or_true : (x : Bool) → x || true ≡ true
          or_true true = refl
          or_true false = refl
      used again u true e false false c fine = (
        more_of again true (joined ∙ and_both (AllSpare between) _ e
            (and_both (spares body local a) true (use_spares a u) refl))
            (subst (λ (x : Bool). Fine later Kept x) (or_false bad) fine),
        all_with between (a ∷ of_line body a later) e
            (and_both (spares body local a) _ (use_spares a u) (line_spares a.block a.line later f.1 c)),
      )
        where
          or_false : (x : Bool) → x || false ≡ x
          or_false true = refl
          or_false false = refl

      by : Again → (made used_so spared : Bool) → makes body local a ≡ made → uses body local a ≡ used_so →
          spares body local a ≡ spared →
          (acts_run later (step_by made used_so spared (crossed_at a) (a.how, a.place)
          (record { since = since_of (AllSpare between); is_bad = bad }))).is_bad ≡ false →
          AllStay (if made then [] else
          ((if used_so then (between ++ a ∷ of_line body a later) ∷ [] else []) ++ up_to_uses body local
          (between ++ a ∷ []) later)) ≡ true
      by again true used_so spared em eu es fine = refl
      by again false true spared em eu es fine =
          let it = used again eu (AllSpare between) refl (stores body a.how) (crossed_at a) refl fine in
          and_both (AllSpare (between ++ a ∷ of_line body a later)) _ it.1 it.0
      by again false false true em eu es fine = kept (AllSpare between) refl fine
        where
          kept : (x : Bool) → AllSpare between ≡ x → Fine later (since_of x) bad →
              AllStay (up_to_uses body local (between ++ a ∷ []) later) ≡ true
          kept true e fine = more_of again true (joined ∙ and_both (AllSpare between) _ e
              (and_both (spares body local a) true es refl)) fine
          kept false e fine = more_of again false (joined ∙ ap (λ (c : Bool). c && (spares body local a && true)) e)
              fine
      by again false false false em eu es fine = kept (AllSpare between) refl fine
        where
          not_both : (c : Bool) → (c && false) ≡ false
          not_both true = refl
          not_both false = refl

          taken : AllSpare (between ++ a ∷ []) ≡ false
          taken = joined ∙ ap (λ (c : Bool). AllSpare between && (c && true)) es ∙ not_both (AllSpare between)

          kept : (x : Bool) → AllSpare between ≡ x → Fine later (taken_since (since_of x)) bad →
              AllStay (up_to_uses body local (between ++ a ∷ []) later) ≡ true
          kept true e fine = more_of again false taken fine
          kept false e fine = more_of again false taken fine

  all_stretches : (acts : List PathAction) → AllFrom acts → (m : NamedState) → (acts_run acts m).is_bad ≡ false →
      AllStay (stretches body local acts) ≡ true
  all_stretches [] f m fine = refl
  all_stretches (a ∷ later) f m fine = by (λ s h. all_stretches later f.1 s h) (makes body local a) refl fine
    where
      by : ((s : NamedState) → (acts_run later s).is_bad ≡ false → AllStay (stretches body local later) ≡ true) →
          (made : Bool) → makes body local a ≡ made →
          (acts_run later (step_by made (uses body local a) (spares body local a) (crossed_at a) (a.how, a.place)
          m)).is_bad ≡ false →
          AllStay ((if made then up_to_uses body local [] later else []) ++ stretches body local later) ≡ true
      by again true e fine =
          stay_with (up_to_uses body local [] later) (stretches body local later) (up_to later f.1 [] m.is_bad fine)
          (again (record { since = Kept; is_bad = m.is_bad }) fine)
      by again false e fine = again _ fine

  -- where the watch finds nothing bad on a path
  pub stays_named : (n : ℕ) (path : List ℕ) (m : NamedState) → (path_seen
      (watch.whole body local) body n path m).is_bad ≡ false →
      keeps_named body (actions_on body (n ∷ path)) local ≡ true
  stays_named n path m fine =
      all_stretches (actions_on body (n ∷ path)) (watch.from_path body local path n) m
      (ap (λ (s : NamedState). s.is_bad) (watch.run_path body local path n m) ∙ fine)

  -- ---- where no reference is made in the local, nothing is asked

  three_so : (a b : Bool) → (a || b || true) ≡ true
  three_so true true = refl
  three_so true false = refl
  three_so false true = refl
  three_so false false = refl

  all_so : {X : Type 0} (test : X → Bool) → ((x : X) → test x ≡ true) → (xs : List X) → list_all test xs ≡ true
  all_so test h [] = refl
  all_so test h (x ∷ xs) = and_both (test x) _ (h x) (all_so test h xs)

  spares_all : named_by local (references_made body) ≡ None → (a : PathAction) → spares body local a ≡ true
  spares_all none a =
      subst (λ (o : Option Place). (not (takes body a) || goes_through body local (followed body a.place)
      || not (overlap body (option_map_or (followed body) o []) (followed body a.place))) ≡ true) (sym none)
      (three_so (not (takes body a)) (goes_through body local (followed body a.place)))

  pub stays_unmade : named_by local (references_made body) ≡ None → (acts : List PathAction) →
      keeps_named body acts local ≡ true
  stays_unmade none acts =
      all_so (list_all (spares body local)) (all_so (spares body local) (spares_all none)) (stretches body local acts)
