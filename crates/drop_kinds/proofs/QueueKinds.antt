-- The kinds of the drops in a step of a job queue, and its flag, by computation. On each way the job is moved out of
-- the slot, or the slot itself where it holds none, so no drop of the slot is left; the result alone has a flag, for the
-- case that a drop panics.
use Rattle.std.proofs.Common.{◌≡◌, ◌∷◌, [], ◌⊎◌, inl, inr, ℕ, zero, suc, true, false, List, Option, Some, Contains, refl, sym, ap, subst}
use Rattle.std.specs.List.{list_all}
use Rattle.std.proofs.lemmas.Bool.{false≢true}
use Rattle.std.proofs.lemmas.Option.{none-some, same_Some}
use Rattle.mir_ty.specs.declared.ty.TyId.{TyId}
use Rattle.cfg_graph.specs.declared.terminator.Unwind.{Unwind}
use Rattle.cfg_graph.specs.Moves.Gone.{PathAction, below, is_gone_after}
use Rattle.move_paths.specs.Forest.{is_path}
use Rattle.store_model.specs.Places.Place.{Step, ToPart, ToContent, ToField, ToElement, Place, whole_local}
use Rattle.drop_values.specs.Facts.{no_branch}
use Rattle.drop_elaborate.specs.Kinds.{Comes, IsKind, IsDead, IsDrop, Dead, Plain, Conditional, IsFlagged, AreFlagged, place_id, stays_within, is_numbered}
use Rattle.drop_kinds.proofs.AllWays.{all_come, each-comes, one-of, either-of}
use Rattle.drop_kinds.proofs.KindsByWays.{all_gone, gone-below, one-drop, dead-by, alive-by, sure-by, unsure-by, may-be-there, may-be-gone, apart-by, flags-are}
use Rattle.drop_kinds.proofs.QueueBody.{ty_no, items, local, step}

abbrev the_slot : Place
the_slot = whole_local 1

abbrev the_job_in_it : Place
the_job_in_it = below the_slot (ToField 1 0 ∷ [])

-- where its job is gone, nothing numbered is left in a slot
no-job-dead : (n : ℕ) → all_come items step 30 n (λ before. all_gone items step 30 refl the_job_in_it before) ≡ true →
    IsDead items step n the_slot
no-job-dead n all before steps id c stays typed numbered = by steps stays typed
  where
    number : (k : ℕ) → ty_no k ≡ id → is_numbered items step (ty_no k) ≡ true
    number k same = subst (λ z. is_numbered items step z ≡ true) (sym same) numbered

    by : (steps : List Step) → stays_within items step the_slot steps ≡ true →
        place_id items step (below the_slot steps) ≡ Some id →
        is_gone_after items step before (below the_slot steps) ≡ true
    by [] stays typed = absurd (false≢true (number 3 (same_Some (ty_no 3) id typed)))
    by (ToPart k ∷ rest) stays typed = absurd (none-some id typed)
    by (ToContent ∷ rest) stays typed = absurd (none-some id typed)
    by (ToElement k ∷ rest) stays typed = absurd (false≢true stays)
    by (ToField zero k ∷ rest) stays typed = absurd (none-some id typed)
    by (ToField (suc zero) zero ∷ rest) stays typed =
        gone-below items step 30 refl the_job_in_it rest before
        (each-comes items step 30 n (λ b. all_gone items step 30 refl the_job_in_it b) refl all before c)
    by (ToField (suc zero) (suc k) ∷ rest) stays typed = absurd (none-some id typed)
    by (ToField (suc (suc zero)) zero ∷ []) stays typed = absurd (false≢true (number 0 (same_Some (ty_no 0) id typed)))
    by (ToField (suc (suc zero)) zero ∷ next ∷ rest) stays typed = absurd (no-part next rest typed)
      where
        no-part : (next : Step) (rest : List Step) →
            place_id items step (below the_slot (ToField 2 0 ∷ next ∷ rest)) ≡ Some id → ⊥
        no-part (ToPart k) rest e = none-some id e
        no-part (ToField v k) rest e = none-some id e
        no-part ToContent rest e = none-some id e
        no-part (ToElement k) rest e = none-some id e
    by (ToField (suc (suc zero)) (suc k) ∷ rest) stays typed = absurd (none-some id typed)
    by (ToField (suc (suc (suc v))) k ∷ rest) stays typed = absurd (none-some id typed)

-- ---- kinds

as_it_returns : IsKind items step 5 the_slot Dead
as_it_returns = no-job-dead 5 refl

after_a_panic : IsKind items step 6 the_slot Dead
after_a_panic = no-job-dead 6 refl

as_it_is_done : IsKind items step 15 the_slot Dead
as_it_is_done = no-job-dead 15 refl

as_it_costs_too_much : IsKind items step 22 the_slot Dead
as_it_costs_too_much = no-job-dead 22 refl

the_other_slot : IsKind items step 9 (whole_local 15) Dead
the_other_slot = dead-by items step 30 refl 9 (whole_local 15) refl

the_job_that_goes_back : IsKind items step 12 (whole_local 3) Dead
the_job_that_goes_back = dead-by items step 30 refl 12 (whole_local 3) refl

the_job_that_is_done : IsKind items step 16 (whole_local 3) Plain
the_job_that_is_done = (
  alive-by items step 30 refl 16 (whole_local 3) [] (ty_no 5) refl refl refl refl,
  sure-by items step 30 refl 16 (whole_local 3) refl,
)

the_job_that_panics : IsKind items step 18 (whole_local 3) Plain
the_job_that_panics = (
  alive-by items step 30 refl 18 (whole_local 3) [] (ty_no 5) refl refl refl refl,
  sure-by items step 30 refl 18 (whole_local 3) refl,
)

the_job_that_costs_too_much : IsKind items step 23 (whole_local 3) Plain
the_job_that_costs_too_much = (
  alive-by items step 30 refl 23 (whole_local 3) [] (ty_no 5) refl refl refl refl,
  sure-by items step 30 refl 23 (whole_local 3) refl,
)

the_result : IsKind items step 4 (whole_local 0) Conditional
the_result = (
  alive-by items step 30 refl 4 (whole_local 0) (ToField 1 0 ∷ []) (ty_no 5) refl refl refl refl,
  unsure-by items step 30 refl 4 (whole_local 0) refl,
  λ open_it. false≢true open_it.path,
)

-- ---- the flag

abbrev step_paths : List Place
step_paths =
    whole_local 0 ∷ whole_local 1 ∷ whole_local 2 ∷ whole_local 3 ∷ whole_local 4 ∷ whole_local 5 ∷ whole_local 6
    ∷ whole_local 7 ∷ whole_local 8 ∷ whole_local 9 ∷ whole_local 10 ∷ whole_local 11 ∷ whole_local 12 ∷ whole_local 13
    ∷ whole_local 14 ∷ whole_local 15 ∷ the_job_in_it ∷ []

these_are_paths : list_all (is_path items step) step_paths ≡ true
these_are_paths = refl

flag_of_the_result : IsFlagged items step step_paths (whole_local 0)
flag_of_the_result = (
  4,
  whole_local 0,
  record {
    block = _;
    there = refl;
    dropped = local 0;
    next = 3;
    unwind = Unwind.Abort;
    term_is = refl;
    place_is = refl;
  },
  record {
    not_dead = the_result.0;
    not_sure = the_result.1;
    steps = [];
    path_is = refl;
    number = 0;
    under = no_branch;
    tree = (refl, tt, λ step none. refl);
    id = ty_no 3;
    typed = refl;
    needed = refl;
    reads = refl;
    apart = apart-by items step 30 refl 4 (whole_local 0) [] refl;
    present = may-be-there items step 30 refl 4 (whole_local 0) refl;
    gone = may-be-gone items step 30 refl 4 (whole_local 0) refl;
  },
)

-- the drops of the slot
slot_drops : List ℕ
slot_drops = 5 ∷ 6 ∷ 15 ∷ 22 ∷ []

slot-dead : (n : ℕ) → IsDrop items step n the_slot → IsDead items step n the_slot → (place : Place) →
    IsDrop items step n place → IsDead items step n place
slot-dead n own dead place d = subst (IsDead items step n) (one-drop items step n the_slot place own d) dead

are-dead : (n : ℕ) → Contains (5 ∷ 6 ∷ 15 ∷ 22 ∷ []) n → (place : Place) → IsDrop items step n place →
    IsDead items step n place
are-dead n has = elim (either-of 5 n (6 ∷ 15 ∷ 22 ∷ []) has) [
  | inl same ↦ at same
      (slot-dead 5 (record {
        block = _;
        there = refl;
        dropped = local 1;
        next = 2;
        unwind = Unwind.Block 4;
        term_is = refl;
        place_is = refl;
      }) as_it_returns)
  | inr later ↦ elim (either-of 6 n (15 ∷ 22 ∷ []) later) [
    | inl same ↦ at same
        (slot-dead 6 (record {
          block = _;
          there = refl;
          dropped = local 1;
          next = 4;
          unwind = Unwind.Abort;
          term_is = refl;
          place_is = refl;
        }) after_a_panic)
    | inr later ↦ elim (either-of 15 n (22 ∷ []) later) [
      | inl same ↦ at same
          (slot-dead 15 (record {
            block = _;
            there = refl;
            dropped = local 1;
            next = 14;
            unwind = Unwind.Block 4;
            term_is = refl;
            place_is = refl;
          }) as_it_is_done)
      | inr last ↦ at (one-of 22 n last)
          (slot-dead 22 (record {
            block = _;
            there = refl;
            dropped = local 1;
            next = 21;
            unwind = Unwind.Block 4;
            term_is = refl;
            place_is = refl;
          }) as_it_costs_too_much)
    ]
  ]
]
  where
    at : {k : ℕ} → k ≡ n → ((place : Place) → IsDrop items step k place → IsDead items step k place) →
        (place : Place) → IsDrop items step n place → IsDead items step n place
    at same dead = subst (λ z. (place : Place) → IsDrop items step z place → IsDead items step z place) same dead

one_flag : AreFlagged items step step_paths (whole_local 0 ∷ [])
one_flag =
    flags-are items step 30 refl (5 ∷ 6 ∷ 15 ∷ 22 ∷ []) are-dead step_paths (whole_local 0 ∷ [])
    (λ path has. subst (IsFlagged items step step_paths) (one-of (whole_local 0) path has) flag_of_the_result) refl refl
