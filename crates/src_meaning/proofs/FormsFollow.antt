-- Each form follows the same form over other effects, if its parts do: the rules of `Forms`, one by one.
use Rattle.std.proofs.Common.{◌≡◌, ℕ, zero, suc, ◌<◌, ◌≤◌, ◌==◌, Bool, true, false, not, ◌||◌, List, [], ◌∷◌, Option, Some, None, if◌then◌else◌, refl, ap, subst, arith}
use Rattle.mir_base.specs.declared.operator.Cmp.{Cmp}
use Rattle.mir_base.specs.declared.trace.Why.{Why}
use Rattle.mir_ty.specs.Facts.{needs_drop}
use Rattle.mir_ty.specs.ItemTable.{ItemTable}
use Rattle.store_model.proofs.Effects.Following.{Relation, FollowsOut, goes_on, unwinds, halts, lapsed, outlived, refused, FollowsOuts, FollowsChoice, takes, declines, neither, lapsed_choice, outlived_choice, refused_choice, FollowsChoices, FollowsEffects, FollowsTick, Bounds, one_bound, more_turns, great_bounds, choice_after, says_yes, says_no, goes}
use Rattle.store_model.specs.Effects.{EffectSite, Operand, Copied, Number, Truth, UnitValue, Action, Put, Compare, Touch, Bounds as BoundsOf, Borrow, Unsize, IsTrue, HasVariant, Normal, Halt, Stuck, OutOfTicks, Out, Go, Unwind, Halts, Choice, Effects}
use Rattle.store_model.specs.Places.Place.{Place, whole_local}
use Rattle.src_meaning.proofs.RunsFollow.{Follows, is_at, is_over, lapsed_run, outlived_run, refused_run, FollowsDoes, run_after, within_run, stays, stops, then_follow, at_follow, changing_follow, doing_follow, choosing_follow, back_follow, leaving_follow, in_scope_follow, in_scope_with_follow}
use Rattle.src_meaning.specs.Forms.{Destination, Into, Coerced, LoopsAndGuards, aliases_with, Meaning, entry_of, bound_entry, site_in, site_of_key, moved, keys_of, all_moved, is_never, acts, panics, deliver, put_unit, put_unit_if, in_own_scope, alone, pending_if, complete, operand, operands, take, acting, dropping, temporary, use_of_place, array_around, reach_element, borrowing, stored, stored_after, dropped_first, replacing, assigning, condition, branch, tested, equals, tests_after, alternatives_after, holds, all_hold, any_holds, bind, touched, scrutinised, if_taken, arms_in_order, matching, taken_arm, guarded, arm, statements, tail_of, block, evaluating, let_name, let_parts, emptied, declared, let_value, letting, ticked, turned, turns, ends_loop, value_of_jump, jumping}
use Rattle.src_meaning.specs.Scopes.{Scope, Scopes, innermost, around_innermost, nearest_temporary, with_entry, without_pending, Exit, Value, Breaks, Continues, Returns, Panics, Run, At, Over, Does, choosing}
use Rattle.src_meaning.specs.Shape.{operand_of_bound, NodeHead, Shape, PatternTest, IsVariant, IsNumber, IsTruth, AnyOf, PatternTests, no_test, a_test, Alternatives, no_alternative, an_alternative, BoundName, site_at, operand_at}

abbrev pub FollowsReach : {W V : Type 0} → Relation W V → (LoopsAndGuards → Does W) → (LoopsAndGuards → Does V) → Type 0
FollowsReach rel r r' = (a : LoopsAndGuards) → FollowsDoes rel (r a) (r' a)

abbrev pub FollowsInto : {W V : Type 0} → Relation W V → (LoopsAndGuards → Destination → Does W) → (LoopsAndGuards → Destination → Does V) → Type 0
FollowsInto rel e e' = (a : LoopsAndGuards) (to : Destination) → FollowsDoes rel (e a to) (e' a to)

abbrev pub FollowsEvaluate : {W V : Type 0} → Relation W V → (LoopsAndGuards → Bool → Destination → Does W) → (LoopsAndGuards → Bool → Destination → Does V) → Type 0
FollowsEvaluate rel e e' = (a : LoopsAndGuards) (own : Bool) (to : Destination) → FollowsDoes rel (e a own to) (e' a own to)

abbrev pub FollowsArm : {W V : Type 0} → Relation W V → (Place → Does W → LoopsAndGuards → Destination → Does W) → (Place → Does V → LoopsAndGuards → Destination → Does V) → Type 0
FollowsArm {W} {V} rel x x' = (matched : Place) (f : Does W) (f' : Does V) → FollowsDoes rel f f' → FollowsInto rel (x matched f) (x' matched f')

-- the same head and shape; evaluated, reached and taken as an arm one after the other
pub data FollowsMeaning {W V : Type 0} (rel : Relation W V) : Meaning W → Meaning V → Type 0 where
  means : (h : NodeHead) (s : Shape) (e : LoopsAndGuards → Bool → Destination → Does W) (e' : LoopsAndGuards → Bool → Destination → Does V)
      (r : LoopsAndGuards → Does W) (r' : LoopsAndGuards → Does V)
      (x : Place → Does W → LoopsAndGuards → Destination → Does W) (x' : Place → Does V → LoopsAndGuards → Destination → Does V) →
      FollowsEvaluate rel e e' → FollowsReach rel r r' → FollowsArm rel x x' →
      FollowsMeaning rel (record { head = h; shape = s; evaluate = e; reach = r; arm = x }) (record { head = h; shape = s; evaluate = e'; reach = r'; arm = x' })

pub data FollowsMeanings {W V : Type 0} (rel : Relation W V) : List (Meaning W) → List (Meaning V) → Type 0 where
  no_meaning : FollowsMeanings rel [] []
  and_means : (m : Meaning W) (m' : Meaning V) (ms : List (Meaning W)) (ms' : List (Meaning V)) → FollowsMeaning rel m m' →
      FollowsMeanings rel ms ms' → FollowsMeanings rel (m ∷ ms) (m' ∷ ms')

pub data FollowsIfAny {W V : Type 0} (rel : Relation W V) : Option (Meaning W) → Option (Meaning V) → Type 0 where
  without : FollowsIfAny rel None None
  with_one : (m : Meaning W) (m' : Meaning V) → FollowsMeaning rel m m' → FollowsIfAny rel (Some m) (Some m')

module _ {W V : Type 0} (rel : Relation W V) where
  pub same_keys : {ms : List (Meaning W)} {ms' : List (Meaning V)} → FollowsMeanings rel ms ms' → keys_of ms ≡ keys_of ms'
  same_keys no_meaning = refl
  same_keys (and_means _ _ ms ms' (means h s e e' r r' x x' ae ar ax) ts) = ap (λ keys. h.id ∷ keys) (same_keys ts)

  pub same_moved : {ms : List (Meaning W)} {ms' : List (Meaning V)} (n : ℕ) → FollowsMeanings rel ms ms' → all_moved n ms ≡ all_moved n ms'
  same_moved n no_meaning = refl
  same_moved n (and_means _ _ ms ms' (means h s e e' r r' x x' ae ar ax) ts) = ap (λ list. moved n h.id ∷ list) (same_moved n ts)

  module _ (items : ItemTable) (p : Effects W) (q : Effects V) (follow : FollowsEffects rel p q) where
    pub acts_follow : (action : Action) → FollowsDoes rel (acts items p action) (acts items q action)
    acts_follow action = doing_follow rel (p.act action) (q.act action) (follow.acting action)

    pub panics_follow : (why : Why) → FollowsDoes rel (panics items p why) (panics items q why)
    panics_follow why = doing_follow rel (λ w. Unwind (p.panic why w)) (λ v. Unwind (q.panic why v)) (follow.panicking why)

    pub deliver_follow : (h : NodeHead) (action : EffectSite → Action) (to : Destination) → FollowsDoes rel (deliver items p h action to) (deliver items q h action to)
    deliver_follow h action (Into key) = acts_follow (action (site_in h.id key))
    deliver_follow h action (Coerced key trait_no to) =
        then_follow rel (acts_follow (action (site_in h.id key))) (acts_follow (Unsize (site_in h.id to) trait_no (moved h.id key)))

    pub unit_follow : (h : NodeHead) (to : Destination) → FollowsDoes rel (put_unit items p h to) (put_unit items q h to)
    unit_follow h to = deliver_follow h (λ site. Put site UnitValue) to

    unit_if_follow : (b : Bool) (h : NodeHead) (to : Destination) → FollowsDoes rel (put_unit_if items p b h to) (put_unit_if items q b h to)
    unit_if_follow true h to = at_follow rel Value
    unit_if_follow false h to = unit_follow h to

    pub own_scope_follow : {f : Does W} {f' : Does V} (h : NodeHead) (own : Bool) → FollowsDoes rel f f' →
        FollowsDoes rel (in_own_scope items p h own f) (in_own_scope items q h own f')
    own_scope_follow h true d = in_scope_follow rel items p q follow h.id true d
    own_scope_follow h false d = d

    pub alone_follow : {m : Meaning W} {m' : Meaning V} (a : LoopsAndGuards) → FollowsMeaning rel m m' → (to : Destination) →
        FollowsDoes rel (alone items p a m to) (alone items q a m' to)
    alone_follow a (means h s e e' r r' x x' ae ar ax) to =
        record { run = λ n S w c k. back_follow rel S ((ae a true to).run n S w c k) }

    pending_follow : (b : Bool) (in_that : (Scope → Scope) → Scopes → Scopes) (h : NodeHead) →
        FollowsDoes rel (pending_if items p b in_that h) (pending_if items q b in_that h)
    pending_follow b in_that h = changing_follow rel _

    complete_follow : (in_that : (Scope → Scope) → Scopes → Scopes) (h : NodeHead) →
        FollowsDoes rel (complete items p in_that h) (complete items q in_that h)
    complete_follow in_that h = changing_follow rel _

    operand_follow : {m : Meaning W} {m' : Meaning V} (a : LoopsAndGuards) → FollowsMeaning rel m m' →
        FollowsDoes rel (operand items p a m) (operand items q a m')
    operand_follow a (means h s e e' r r' x x' ae ar ax) =
        then_follow rel (pending_follow s.in_destination innermost h)
        (then_follow rel (ae a false (Into h.id)) (complete_follow innermost h))

    operands_follow : {ms : List (Meaning W)} {ms' : List (Meaning V)} (a : LoopsAndGuards) → FollowsMeanings rel ms ms' →
        FollowsDoes rel (operands items p a ms) (operands items q a ms')
    operands_follow a no_meaning = at_follow rel Value
    operands_follow a (and_means _ _ ms ms' t ts) = then_follow rel (operand_follow a t) (operands_follow a ts)

    take_follow : (keys : List ℕ) → FollowsDoes rel (take items p keys) (take items q keys)
    take_follow keys = changing_follow rel _

    pub acting_follow : {ms : List (Meaning W)} {ms' : List (Meaning V)} {act : Does W} {act' : Does V} (h : NodeHead) (a : LoopsAndGuards) (own : Bool) →
        FollowsMeanings rel ms ms' → FollowsDoes rel act act' → FollowsDoes rel (acting items p h a own ms act) (acting items q h a own ms' act')
    acting_follow {ms} {ms'} {act} {act'} h a own ts d =
        in_scope_follow rel items p q follow h.id own
        (then_follow rel (operands_follow a ts)
        (then_follow rel (subst (λ keys. FollowsDoes rel (take items p (keys_of ms)) (take items q keys)) (same_keys ts) (take_follow (keys_of ms))) d))

    pub dropping_follow : {m : Meaning W} {m' : Meaning V} {act : Does W} {act' : Does V} (h : NodeHead) (a : LoopsAndGuards) (own : Bool) →
        FollowsMeaning rel m m' → FollowsDoes rel act act' → FollowsDoes rel (dropping items p h a own m act) (dropping items q h a own m' act')
    dropping_follow h a own t d = in_scope_follow rel items p q follow h.id own (then_follow rel (operand_follow a t) d)

    pub temporary_follow : {e : LoopsAndGuards → Bool → Destination → Does W} {e' : LoopsAndGuards → Bool → Destination → Does V} (h : NodeHead) (s : Shape) →
        FollowsEvaluate rel e e' → FollowsReach rel (temporary items p h s e) (temporary items q h s e')
    temporary_follow h s ae a =
        then_follow rel (pending_follow s.in_destination nearest_temporary h)
        (then_follow rel (ae a false (Into h.id)) (complete_follow nearest_temporary h))

    pub use_follow : {r : LoopsAndGuards → Does W} {r' : LoopsAndGuards → Does V} (h : NodeHead) (s : Shape) → FollowsReach rel r r' →
        FollowsEvaluate rel (use_of_place items p h s r) (use_of_place items q h s r')
    use_follow h s ar a own to =
        own_scope_follow h own (then_follow rel (ar a) (deliver_follow h (λ site. Put site (operand_at h (s.place a.aliases))) to))

    pub element_follow : {base index : Meaning W} {base' index' : Meaning V} (h : NodeHead) (s : Shape) → FollowsMeaning rel base base' →
        FollowsMeaning rel index index' → (length : ℕ) → FollowsReach rel (reach_element items p h s base index length) (reach_element items q h s base' index' length)
    element_follow h s (means bh bs be be' br br' bx bx' abe abr abax) (means ih is_ ie ie' ir ir' ix ix' aie air aix) length a =
        then_follow rel (abr a)
        (then_follow rel (aie a false (Into ih.id))
        (then_follow rel (acts_follow (Touch (site_at h (array_around items p (s.place a.aliases)))))
        (acts_follow (BoundsOf (Copied (site_of_key ih.id)) length))))

    pub borrowing_follow : {base : Meaning W} {base' : Meaning V} (h : NodeHead) (unique : Bool) → FollowsMeaning rel base base' →
        FollowsEvaluate rel (borrowing items p h unique base) (borrowing items q h unique base')
    borrowing_follow h unique (means bh s e e' r r' x x' ae ar ax) a own to =
        own_scope_follow h own (then_follow rel (ar a)
        (deliver_follow h (λ site. Borrow (record site { node = bh.id }) unique (site_at bh (s.place a.aliases))) to))

    stored_follow : (site : EffectSite) (key : ℕ) → FollowsDoes rel (stored items p site key) (stored items q site key)
    stored_follow site key = then_follow rel (take_follow (key ∷ [])) (acts_follow (Put site (moved site.node key)))

    stored_after_follow : {n : rel.Stage} {o : Out W} {g : rel.Choices → Out V} (site : EffectSite) (key : ℕ) (S : Scopes) → FollowsOut rel n o g →
        Follows rel n (stored_after items p site key S o) (λ t. stored_after items q site key S (g t))
    stored_after_follow site key S (goes_on m w c l _ k d) =
        run_after rel l _ (λ rest. ap (stored_after items q site key S) (d rest)) ((stored_follow site key).run m S w c k)
    stored_after_follow site key S (unwinds m w c l _ k d) =
        run_after rel l _ (λ rest. ap (stored_after items q site key S) (d rest)) ((then_follow rel (stored_follow site key) (at_follow rel Panics)).run m S w c k)
    stored_after_follow site key S (halts m halt w c l _ k d) = is_over m halt w c l _ k (λ rest. ap (stored_after items q site key S) (d rest))
    stored_after_follow site key S (lapsed m halt w _ k) = lapsed_run m halt w _ k
    stored_after_follow site key S (outlived m halt w later s _ k d) =
        outlived_run m halt w later (stored_after items p site key S s) _ k (stored_after_follow site key S d)
    stored_after_follow site key S (refused m _ halt c l _ k d) = refused_run m _ halt c l _ k (λ rest. ap (stored_after items q site key S) (d rest))

    dropped_first_follow : (b : Bool) (site : EffectSite) → FollowsOuts rel (dropped_first items p b site) (dropped_first items q b site)
    dropped_first_follow true site n w c k = follow.dropping Normal site n w c k
    dropped_first_follow false site n w c k = goes rel n w c k

    replacing_follow : (b : Bool) (site : EffectSite) (key : ℕ) → FollowsDoes rel (replacing items p b site key) (replacing items q b site key)
    replacing_follow b site key = record { run = λ n S w c k. stored_after_follow site key S (dropped_first_follow b site n w c k) }

    pub assigning_follow : {place value : Meaning W} {place' value' : Meaning V} (h : NodeHead) → FollowsMeaning rel place place' → FollowsMeaning rel value value' →
        FollowsEvaluate rel (assigning items p h place value) (assigning items q h place' value')
    assigning_follow h (means ph ps pe pe' pr pr' px px' ape apr pax) (means vh s e e' r r' x x' ae ar ax) a own to =
        in_scope_follow rel items p q follow h.id own
        (then_follow rel (operand_follow a (means vh s e e' r r' x x' ae ar ax))
        (then_follow rel (apr a)
        (then_follow rel (replacing_follow (needs_drop items ph.ty) (site_at ph (ps.place a.aliases)) vh.id)
        (unit_follow h to))))

    pub condition_follow : {m : Meaning W} {m' : Meaning V} {f o : Does W} {f' o' : Does V} (a : LoopsAndGuards) → FollowsMeaning rel m m' →
        FollowsDoes rel f f' → FollowsDoes rel o o' → FollowsDoes rel (condition items p a m f o) (condition items q a m' f' o')
    condition_follow a (means h s e e' r r' x x' ae ar ax) d b =
        then_follow rel (alone_follow a (means h s e e' r r' x x' ae ar ax) (Into h.id))
        (choosing_follow rel (p.choose (IsTrue (moved h.id h.id))) (q.choose (IsTrue (moved h.id h.id))) (follow.choosing (IsTrue (moved h.id h.id))) d b)

    pub branch_follow : {o : Option (Meaning W)} {o' : Option (Meaning V)} {f : Does W} {f' : Does V} (a : LoopsAndGuards) (to : Destination) →
        FollowsIfAny rel o o' → FollowsDoes rel f f' → FollowsDoes rel (branch items p a to o f) (branch items q a to o' f')
    branch_follow a to without d = d
    branch_follow a to (with_one _ _ t) d = alone_follow a t to

    -- Patterns.

    -- a comparison does not panic, and then neither of the two has a step
    tested_follow : {n : rel.Stage} {o : Out W} {g : rel.Choices → Out V} (operand : Operand) → FollowsOut rel n o g →
        FollowsChoice rel n (tested items p o operand) (λ t. tested items q (g t) operand)
    tested_follow operand (goes_on m w c l _ k d) = choice_after rel l _ (λ rest. ap (λ o. tested items q o operand) (d rest)) (follow.choosing (IsTrue operand) m w c k)
    tested_follow operand (unwinds m w c l _ k d) = neither m Stuck w c l _ (rel.at_halt m w c k) (λ rest. ap (λ o. tested items q o operand) (d rest))
    tested_follow operand (halts m halt w c l _ k d) = neither m halt w c l _ k (λ rest. ap (λ o. tested items q o operand) (d rest))
    tested_follow operand (lapsed m halt w _ k) = lapsed_choice m halt w _ k
    tested_follow operand (outlived m halt w later s _ k d) = outlived_choice m halt w later (tested items p s operand) _ k (tested_follow operand d)
    tested_follow operand (refused m _ halt c l _ k d) = refused_choice m _ halt c l _ k (λ rest. ap (λ o. tested items q o operand) (d rest))

    equals_follow : (site : EffectSite) (value : Operand) → FollowsChoices rel (equals items p site value) (equals items q site value)
    equals_follow site value n w c k =
        tested_follow (moved site.node site.node) (follow.acting (Compare (site_of_key site.node) Cmp.Eq (Copied site) value) n w c k)

    after_tests : {n : rel.Stage} {o : Choice W} {g : rel.Choices → Choice V} {f : W → Choice W} (f' : V → Choice V) → FollowsChoice rel n o g →
        FollowsChoices rel f f' → FollowsChoice rel n (tests_after items p o f) (λ t. tests_after items q (g t) f')
    after_tests {n} {o} {g} {f} f' (takes m w c l _ k d) e = choice_after rel l _ (λ rest. ap (λ o. tests_after items q o f') (d rest)) (e m w c k)
    after_tests {n} {o} {g} {f} f' (declines m w c l _ k d) e = declines m w c l _ k (λ rest. ap (λ o. tests_after items q o f') (d rest))
    after_tests {n} {o} {g} {f} f' (neither m halt w c l _ k d) e = neither m halt w c l _ k (λ rest. ap (λ o. tests_after items q o f') (d rest))
    after_tests {n} {o} {g} {f} f' (lapsed_choice m halt w _ k) e = lapsed_choice m halt w _ k
    after_tests {n} {o} {g} {f} f' (outlived_choice m halt w later s _ k d) e = outlived_choice m halt w later (tests_after items p s f) _ k (after_tests f' d e)
    after_tests {n} {o} {g} {f} f' (refused_choice m _ halt c l _ k d) e = refused_choice m _ halt c l _ k (λ rest. ap (λ o. tests_after items q o f') (d rest))

    after_alternatives : {n : rel.Stage} {o : Choice W} {g : rel.Choices → Choice V} {f : W → Choice W} (f' : V → Choice V) → FollowsChoice rel n o g →
        FollowsChoices rel f f' → FollowsChoice rel n (alternatives_after items p o f) (λ t. alternatives_after items q (g t) f')
    after_alternatives {n} {o} {g} {f} f' (takes m w c l _ k d) e = takes m w c l _ k (λ rest. ap (λ o. alternatives_after items q o f') (d rest))
    after_alternatives {n} {o} {g} {f} f' (declines m w c l _ k d) e = choice_after rel l _ (λ rest. ap (λ o. alternatives_after items q o f') (d rest)) (e m w c k)
    after_alternatives {n} {o} {g} {f} f' (neither m halt w c l _ k d) e = neither m halt w c l _ k (λ rest. ap (λ o. alternatives_after items q o f') (d rest))
    after_alternatives {n} {o} {g} {f} f' (lapsed_choice m halt w _ k) e = lapsed_choice m halt w _ k
    after_alternatives {n} {o} {g} {f} f' (outlived_choice m halt w later s _ k d) e =
        outlived_choice m halt w later (alternatives_after items p s f) _ k (after_alternatives f' d e)
    after_alternatives {n} {o} {g} {f} f' (refused_choice m _ halt c l _ k d) e = refused_choice m _ halt c l _ k (λ rest. ap (λ o. alternatives_after items q o f') (d rest))

    mutual
      holds_follow : (test : PatternTest) → FollowsChoices rel (holds items p test) (holds items q test)
      holds_follow (IsVariant site variant) n w c k = follow.choosing (HasVariant site variant) n w c k
      holds_follow (IsNumber site value kind) n w c k = equals_follow site (Number value kind) n w c k
      holds_follow (IsTruth site value) n w c k = equals_follow site (Truth value) n w c k
      holds_follow (AnyOf alternatives) n w c k = any_follow alternatives n w c k

      all_follow : (tests : PatternTests) → FollowsChoices rel (all_hold items p tests) (all_hold items q tests)
      all_follow no_test n w c k = says_yes rel n w c k
      all_follow (a_test first rest) n w c k = after_tests (all_hold items q rest) (holds_follow first n w c k) (all_follow rest)

      any_follow : (alternatives : Alternatives) → FollowsChoices rel (any_holds items p alternatives) (any_holds items q alternatives)
      any_follow no_alternative n w c k = says_no rel n w c k
      any_follow (an_alternative tests rest) n w c k = after_alternatives (any_holds items q rest) (all_follow tests n w c k) (any_follow rest)

    takes_follow : {f h : Does W} {f' h' : Does V} (tests : PatternTests) → FollowsDoes rel f f' → FollowsDoes rel h h' →
        FollowsDoes rel (choosing (all_hold items p tests) f h) (choosing (all_hold items q tests) f' h')
    takes_follow tests d b = choosing_follow rel (all_hold items p tests) (all_hold items q tests) (all_follow tests) d b

    pub bind_follow : (in_that : (Scope → Scope) → Scopes → Scopes) (bounds : List BoundName) → FollowsDoes rel (bind items p in_that bounds) (bind items q in_that bounds)
    bind_follow in_that [] = at_follow rel Value
    bind_follow in_that (b ∷ bounds) =
        then_follow rel (acts_follow (Put (site_of_key b.key) (operand_of_bound b)))
        (then_follow rel (changing_follow rel (in_that (with_entry (bound_entry b)))) (bind_follow in_that bounds))

    touched_follow : (b : Bool) (site : EffectSite) → FollowsDoes rel (touched items p b site) (touched items q b site)
    touched_follow true site = acts_follow (Touch site)
    touched_follow false site = at_follow rel Value

    scrutinised_follow : {m : Meaning W} {m' : Meaning V} (a : LoopsAndGuards) → FollowsMeaning rel m m' → FollowsDoes rel (scrutinised items p a m) (scrutinised items q a m')
    scrutinised_follow a (means h s e e' r r' x x' ae ar ax) = then_follow rel (ar a) (touched_follow s.is_place (site_at h (s.place a.aliases)))

    pub if_taken_follow : {pattern m : Meaning W} {pattern' m' : Meaning V} {body o : Does W} {body' o' : Does V} (h : NodeHead) (a : LoopsAndGuards) →
        FollowsMeaning rel pattern pattern' → FollowsMeaning rel m m' → FollowsDoes rel body body' → FollowsDoes rel o o' →
        FollowsDoes rel (if_taken items p h a pattern m body o) (if_taken items q h a pattern' m' body' o')
    if_taken_follow h a (means ph ps pe pe' pr pr' px px' ape apr pax) (means mh s e e' r r' x x' ae ar ax) b d =
        in_scope_with_follow rel items p q follow h.id true (scrutinised_follow a (means mh s e e' r r' x x' ae ar ax))
        (takes_follow (ps.tests (s.place a.aliases))
        (leaving_follow rel items p q follow (then_follow rel (bind_follow innermost (ps.bindings (s.place a.aliases))) b))
        (then_follow rel (leaving_follow rel items p q follow (at_follow rel Value)) d))

    arms_follow : {ms : List (Meaning W)} {ms' : List (Meaning V)} → FollowsMeanings rel ms ms' → (matched : Place) →
        FollowsInto rel (arms_in_order items p ms matched) (arms_in_order items q ms' matched)
    arms_follow no_meaning matched a to = panics_follow Why.Match
    arms_follow (and_means _ _ ms ms' (means h s e e' r r' x x' ae ar ax) ts) matched a to = ax matched _ _ (arms_follow ts matched a to) a to

    pub matching_follow : {m : Meaning W} {m' : Meaning V} {ms : List (Meaning W)} {ms' : List (Meaning V)} (h : NodeHead) → FollowsMeaning rel m m' →
        FollowsMeanings rel ms ms' → FollowsEvaluate rel (matching items p h m ms) (matching items q h m' ms')
    matching_follow h (means mh s e e' r r' x x' ae ar ax) ts a own to =
        own_scope_follow h own (then_follow rel (scrutinised_follow a (means mh s e e' r r' x x' ae ar ax)) (arms_follow ts (s.place a.aliases) a to))

    taken_arm_follow : {m : Meaning W} {m' : Meaning V} (h : NodeHead) (a : LoopsAndGuards) (bounds : List BoundName) → FollowsMeaning rel m m' → (to : Destination) →
        FollowsDoes rel (taken_arm items p h a bounds m to) (taken_arm items q h a bounds m' to)
    taken_arm_follow h a bounds t to =
        in_scope_follow rel items p q follow h.id false (then_follow rel (bind_follow innermost bounds) (alone_follow a t to))

    guarded_follow : {o : Option (Meaning W)} {o' : Option (Meaning V)} {h f : Does W} {h' f' : Does V} (a : LoopsAndGuards) (bounds : List BoundName) →
        FollowsIfAny rel o o' → FollowsDoes rel h h' → FollowsDoes rel f f' → FollowsDoes rel (guarded items p a bounds o h f) (guarded items q a bounds o' h' f')
    guarded_follow a bounds without b d = b
    guarded_follow a bounds (with_one _ _ t) b d = condition_follow (record a { aliases = aliases_with bounds a.aliases }) t b d

    pub arm_follow : {pattern body : Meaning W} {pattern' body' : Meaning V} {o : Option (Meaning W)} {o' : Option (Meaning V)} (h : NodeHead) →
        FollowsMeaning rel pattern pattern' → FollowsIfAny rel o o' → FollowsMeaning rel body body' →
        FollowsArm rel (arm items p h pattern o body) (arm items q h pattern' o' body')
    arm_follow h (means ph ps pe pe' pr pr' px px' ape apr pax) u t matched f f' d a to =
        takes_follow (ps.tests matched)
        (guarded_follow a (ps.bindings matched) u (taken_arm_follow h a (ps.bindings matched) t to) d)
        d

    -- Blocks and statements.

    statements_follow : {ms : List (Meaning W)} {ms' : List (Meaning V)} (a : LoopsAndGuards) → FollowsMeanings rel ms ms' →
        FollowsDoes rel (statements items p a ms) (statements items q a ms')
    statements_follow a no_meaning = at_follow rel Value
    statements_follow a (and_means _ _ ms ms' (means h s e e' r r' x x' ae ar ax) ts) = then_follow rel (ae a false (Into h.id)) (statements_follow a ts)

    tail_follow : {o : Option (Meaning W)} {o' : Option (Meaning V)} (h : NodeHead) → FollowsIfAny rel o o' → FollowsInto rel (tail_of items p h o) (tail_of items q h o')
    tail_follow h without a to = unit_if_follow (is_never items h.ty) h to
    tail_follow h (with_one _ _ t) a to = alone_follow a t to

    pub block_follow : {ms : List (Meaning W)} {ms' : List (Meaning V)} {o : Option (Meaning W)} {o' : Option (Meaning V)} (h : NodeHead) →
        FollowsMeanings rel ms ms' → FollowsIfAny rel o o' → FollowsEvaluate rel (block items p h ms o) (block items q h ms' o')
    block_follow h ts t a own to = in_scope_follow rel items p q follow h.id own (then_follow rel (statements_follow a ts) (tail_follow h t a to))

    pub evaluating_follow : {m : Meaning W} {m' : Meaning V} (h : NodeHead) → FollowsMeaning rel m m' → FollowsReach rel (evaluating items p h m) (evaluating items q h m')
    evaluating_follow h (means mh s e e' r r' x x' ae ar ax) a =
        in_scope_follow rel items p q follow h.id true
        (then_follow rel (pending_follow true innermost mh) (then_follow rel (ae a false (Into mh.id)) (complete_follow innermost mh)))

    let_name_follow : {m : Meaning W} {m' : Meaning V} (h n : NodeHead) → FollowsMeaning rel m m' → FollowsReach rel (let_name items p h n m) (let_name items q h n m')
    let_name_follow h n (means mh s e e' r r' x x' ae ar ax) a =
        in_scope_follow rel items p q follow h.id true
        (then_follow rel (pending_follow true innermost n)
        (then_follow rel (ae a false (Into n.id))
        (then_follow rel (changing_follow rel (innermost (without_pending (entry_of n)))) (changing_follow rel (around_innermost (with_entry (entry_of n)))))))

    let_parts_follow : {pattern m : Meaning W} {pattern' m' : Meaning V} (h : NodeHead) → FollowsMeaning rel pattern pattern' → FollowsMeaning rel m m' →
        FollowsReach rel (let_parts items p h pattern m) (let_parts items q h pattern' m')
    let_parts_follow h (means ph ps pe pe' pr pr' px px' ape apr pax) (means mh s e e' r r' x x' ae ar ax) a =
        in_scope_follow rel items p q follow h.id true
        (then_follow rel (pending_follow (not (s.is_place || s.in_destination)) innermost mh)
        (then_follow rel (ar a) (bind_follow around_innermost (ps.bindings (s.place a.aliases)))))

    emptied_follow : (b : Bool) (key : ℕ) → FollowsDoes rel (emptied items p b key) (emptied items q b key)
    emptied_follow true key = at_follow rel Value
    emptied_follow false key = doing_follow rel (p.drop Normal (site_of_key key)) (q.drop Normal (site_of_key key)) (follow.dropping Normal (site_of_key key))

    declared_follow : (bounds : List BoundName) → FollowsDoes rel (declared items p bounds) (declared items q bounds)
    declared_follow [] = at_follow rel Value
    declared_follow (b ∷ bounds) =
        then_follow rel (emptied_follow (needs_drop items b.ty) b.key)
        (then_follow rel (changing_follow rel (innermost (with_entry (bound_entry b)))) (declared_follow bounds))

    let_value_follow : {pattern m : Meaning W} {pattern' m' : Meaning V} (b : Bool) (h : NodeHead) → FollowsMeaning rel pattern pattern' → FollowsMeaning rel m m' →
        FollowsReach rel (let_value items p b h pattern m) (let_value items q b h pattern' m')
    let_value_follow true h (means ph ps pe pe' pr pr' px px' ape apr pax) t = let_name_follow h ph t
    let_value_follow false h u t = let_parts_follow h u t

    pub letting_follow : {pattern : Meaning W} {pattern' : Meaning V} {o : Option (Meaning W)} {o' : Option (Meaning V)} (h : NodeHead) → FollowsMeaning rel pattern pattern' →
        FollowsIfAny rel o o' → FollowsReach rel (letting items p h pattern o) (letting items q h pattern' o')
    letting_follow h (means ph ps pe pe' pr pr' px px' ape apr pax) without a = declared_follow (ps.bindings (whole_local 0))
    letting_follow h (means ph ps pe pe' pr pr' px px' ape apr pax) (with_one _ _ t) a =
        let_value_follow ps.is_binding h (means ph ps pe pe' pr pr' px px' ape apr pax) t a

    -- Loops and jumps.

    break_follow : (n : rel.Stage) (b : Bool) (loop : ℕ) (begun S : Scopes) (w : W) (c : rel.Known) → rel.related n w c →
        Follows rel n (if b then At Value begun w else At (Breaks loop) S w) (λ t. if b then At Value begun (rel.feed t c) else At (Breaks loop) S (rel.feed t c))
    break_follow n true loop begun S w c k = stays rel n Value begun w c k
    break_follow n false loop begun S w c k = stays rel n (Breaks loop) S w c k

    continue_follow : (n : rel.Stage) (f : W → Run W) (f' : V → Run V) (b : Bool) (loop : ℕ) (S : Scopes) (w : W) (c : rel.Known) → rel.related n w c →
        Follows rel n (f w) (λ t. f' (rel.feed t c)) →
        Follows rel n ((if b then f else At (Continues loop) S) w) (λ t. (if b then f' else At (Continues loop) S) (rel.feed t c))
    continue_follow n f f' true loop S w c k e = e
    continue_follow n f f' false loop S w c k e = stays rel n (Continues loop) S w c k

    -- what is done at stages of which something holds, that shadows keep
    abbrev FollowsAt : (rel.Stage → Type 0) → Does W → Does V → Type 0
    FollowsAt P f f' = (n : rel.Stage) → P n → (S : Scopes) (w : W) (c : rel.Known) → rel.related n w c → Follows rel n (f S w) (λ t. f' S (rel.feed t c))

    module _ (P : rel.Stage → Type 0) (kept : (n : rel.Stage) (halt : Halt) (w : W) (later : rel.Stage) → P n → rel.outlives n halt w later → P later) where
      after_turn : {n : rel.Stage} {r : Run W} {g : rel.Choices → Run V} {f : Does W} (f' : Does V) (id : ℕ) (begun : Scopes) → P n → Follows rel n r g →
          FollowsAt P f f' → Follows rel n (turned items p id begun r f) (λ t. turned items q id begun (g t) f')
      after_turn {n} {r} {g} {f} f' id begun h (is_at m Value S w c l _ k d) e =
          run_after rel l _ (λ rest. ap (λ x. turned items q id begun x f') (d rest)) (e m h S w c k)
      after_turn {n} {r} {g} {f} f' id begun h (is_at m (Breaks loop) S w c l _ k d) e =
          run_after rel l _ (λ rest. ap (λ x. turned items q id begun x f') (d rest)) (break_follow m (id == loop) loop begun S w c k)
      after_turn {n} {r} {g} {f} f' id begun h (is_at m (Continues loop) S w c l _ k d) e =
          run_after rel l _ (λ rest. ap (λ x. turned items q id begun x f') (d rest)) (continue_follow m (f begun) (f' begun) (id == loop) loop S w c k (e m h begun w c k))
      after_turn {n} {r} {g} {f} f' id begun h (is_at m Returns S w c l _ k d) e = is_at m Returns S w c l _ k (λ rest. ap (λ x. turned items q id begun x f') (d rest))
      after_turn {n} {r} {g} {f} f' id begun h (is_at m Panics S w c l _ k d) e = is_at m Panics S w c l _ k (λ rest. ap (λ x. turned items q id begun x f') (d rest))
      after_turn {n} {r} {g} {f} f' id begun h (is_over m halt w c l _ k d) e = is_over m halt w c l _ k (λ rest. ap (λ x. turned items q id begun x f') (d rest))
      after_turn {n} {r} {g} {f} f' id begun h (lapsed_run m halt w _ k) e = lapsed_run m halt w _ k
      after_turn {n} {r} {g} {f} f' id begun h (outlived_run m halt w later s _ k d) e =
          outlived_run m halt w later (turned items p id begun s f) _ k (after_turn f' id begun (kept m halt w later h k) d e)
      after_turn {n} {r} {g} {f} f' id begun h (refused_run m _ halt c l _ k d) e = refused_run m _ halt c l _ k (λ rest. ap (λ x. turned items q id begun x f') (d rest))

      after_tick : {n : rel.Stage} {o : Out W} {g : rel.Choices → Out V} {f : W → Run W} (f' : V → Run V) → P n → FollowsOut rel n o g →
          ((n : rel.Stage) → P n → (w : W) (c : rel.Known) → rel.related n w c → Follows rel n (f w) (λ t. f' (rel.feed t c))) →
          Follows rel n (ticked items p o f) (λ t. ticked items q (g t) f')
      after_tick {n} {o} {g} {f} f' h (goes_on m w c l _ k d) e = run_after rel l _ (λ rest. ap (λ o. ticked items q o f') (d rest)) (e m h w c k)
      after_tick {n} {o} {g} {f} f' h (unwinds m w c l _ k d) e = is_over m Stuck w c l _ (rel.at_halt m w c k) (λ rest. ap (λ o. ticked items q o f') (d rest))
      after_tick {n} {o} {g} {f} f' h (halts m halt w c l _ k d) e = is_over m halt w c l _ k (λ rest. ap (λ o. ticked items q o f') (d rest))
      after_tick {n} {o} {g} {f} f' h (lapsed m halt w _ k) e = lapsed_run m halt w _ k
      after_tick {n} {o} {g} {f} f' h (outlived m halt w later s _ k d) e =
          outlived_run m halt w later (ticked items p s f) _ k (after_tick f' (kept m halt w later h k) d e)
      after_tick {n} {o} {g} {f} f' h (refused m _ halt c l _ k d) e = refused_run m _ halt c l _ k (λ rest. ap (λ o. ticked items q o f') (d rest))

    abbrev Any : rel.Stage → Type 0
    Any n = Unit {0}

    turns_of_one : {turn : Does W} {turn' : Does V} (fuel id : ℕ) → FollowsDoes rel turn turn' → FollowsAt Any (turns items p fuel id turn) (turns items q fuel id turn')
    turns_of_one zero id d n h S w c k = stops rel n OutOfTicks w c k
    turns_of_one {turn} {turn'} (suc fuel) id d n h S w c k =
        after_tick Any (λ n halt w later h o. tt) (λ v. turned items q id S (turn' S v) (turns items q fuel id turn')) h (follow.ticking n w c k)
        (λ m h v z j. after_turn Any (λ n halt w later h o. tt) (turns items q fuel id turn') id S h (d.run m S v z j) (turns_of_one fuel id d))

    turns_of_more : {turn : Does W} {turn' : Does V} (fuel fuel' id : ℕ) → fuel ≤ fuel' →
        ((n : rel.Stage) (w : W) (c : rel.Known) → rel.related n w c → rel.lapses n OutOfTicks w) → FollowsDoes rel turn turn' →
        FollowsAt Any (turns items p fuel id turn) (turns items q fuel' id turn')
    turns_of_more zero fuel' id b o d n h S w c k = lapsed_run n OutOfTicks w _ (o n w c k)
    turns_of_more (suc fuel) zero id b o d n h S w c k = absurd (let never : ⊥ = omega arith in never)
    turns_of_more {turn} {turn'} (suc fuel) (suc fuel') id b o d n h S w c k =
        after_tick Any (λ n halt w later h o. tt) (λ v. turned items q id S (turn' S v) (turns items q fuel' id turn')) h (follow.ticking n w c k)
        (λ m h v z j. after_turn Any (λ n halt w later h o. tt) (turns items q fuel' id turn') id S h (d.run m S v z j) (turns_of_more fuel fuel' id (omega arith) o d))

    -- a tick that does not go on
    stopped_follow : {n : rel.Stage} {v : W} {g : rel.Choices → Out V} (f : W → Run W) (f' : V → Run V) → FollowsOut rel n (Unwind v) g →
        Follows rel n (ticked items p (Unwind v) f) (λ t. ticked items q (g t) f')
    stopped_follow f f' (unwinds m w c l _ k d) = is_over m Stuck w c l _ (rel.at_halt m w c k) (λ rest. ap (λ o. ticked items q o f') (d rest))
    stopped_follow f f' (refused m _ halt c l _ k d) = refused_run m _ halt c l _ k (λ rest. ap (λ o. ticked items q o f') (d rest))

    halted_follow : ((n : rel.Stage) (halt : Halt) (w : W) (later : rel.Stage) → rel.outlives n halt w later → ⊥) → {n : rel.Stage} {halt : Halt} {v : W} {g : rel.Choices → Out V} (f : W → Run W) (f' : V → Run V) → FollowsOut rel n (Halts halt v) g →
        Follows rel n (Over halt v) (λ t. ticked items q (g t) f')
    halted_follow none f f' (halts m halt w c l _ k d) = is_over m halt w c l _ k (λ rest. ap (λ o. ticked items q o f') (d rest))
    halted_follow none f f' (lapsed m halt w _ k) = lapsed_run m halt w _ k
    halted_follow none f f' (outlived m halt w later s _ k d) = absurd (none m halt w later k)
    halted_follow none f f' (refused m _ halt c l _ k d) = refused_run m _ halt c l _ k (λ rest. ap (λ o. ticked items q o f') (d rest))

    -- where each turn leaves less, both bounds stay greater than what is left
    module _ (left : rel.Stage → ℕ) (no_shadow : (n : rel.Stage) (halt : Halt) (w : W) (later : rel.Stage) → rel.outlives n halt w later → ⊥) where
      abbrev Below : (fuel fuel' : ℕ) → rel.Stage → Type 0
      Below fuel fuel' n = (left n < fuel) × (left n < fuel')

      after_great : (fuel fuel' : ℕ) {n : rel.Stage} (o : Out W) (g : rel.Choices → Out V) {f : W → Run W} (f' : V → Run V) → left n < suc fuel → left n < suc fuel' →
          FollowsTick rel left n o g →
          ((n : rel.Stage) → Below fuel fuel' n → (w : W) (c : rel.Known) → rel.related n w c → Follows rel n (f w) (λ t. f' (rel.feed t c))) →
          Follows rel n (ticked items p o f) (λ t. ticked items q (g t) f')
      after_great fuel fuel' {n} (Go v) g {f} f' h h' (later, b, i, d) e =
          within_run rel i (after_tick (Below fuel fuel') (λ n halt w later h o. absurd (no_shadow n halt w later o)) f' (omega arith, omega arith) d e)
      after_great fuel fuel' {n} (Unwind v) g {f} f' h h' d e = stopped_follow f f' d
      after_great fuel fuel' {n} (Halts halt v) g {f} f' h h' d e = halted_follow no_shadow f f' d

      turns_of_great : {turn : Does W} {turn' : Does V} (fuel fuel' id : ℕ) → ((n : rel.Stage) (w : W) (c : rel.Known) → rel.related n w c →
          FollowsTick rel left n (p.tick w) (λ t. q.tick (rel.feed t c))) → FollowsDoes rel turn turn' →
          FollowsAt (Below fuel fuel') (turns items p fuel id turn) (turns items q fuel' id turn')
      turns_of_great zero fuel' id ticks d n h S w c k = absurd (let b : left n < zero = h.0 in let never : ⊥ = omega arith in never)
      turns_of_great (suc fuel) zero id ticks d n h S w c k = absurd (let b : left n < zero = h.1 in let never : ⊥ = omega arith in never)
      turns_of_great {turn} {turn'} (suc fuel) (suc fuel') id ticks d n h S w c k =
          after_great fuel fuel' (p.tick w) (λ t. q.tick (rel.feed t c)) (λ v. turned items q id S (turn' S v) (turns items q fuel' id turn')) h.0 h.1 (ticks n w c k)
          (λ m h v z j. after_turn (Below fuel fuel') (λ n halt w later h o. absurd (no_shadow n halt w later o)) (turns items q fuel' id turn') id S h
          (d.run m S v z j) (turns_of_great fuel fuel' id ticks d))

    pub turns_follow : {fuel fuel' : ℕ} {turn : Does W} {turn' : Does V} (id : ℕ) → Bounds rel p.tick q.tick fuel fuel' → FollowsDoes rel turn turn' →
        FollowsDoes rel (turns items p fuel id turn) (turns items q fuel' id turn')
    turns_follow id (one_bound m) d = record { run = λ n S w c k. turns_of_one m id d n tt S w c k }
    turns_follow id (more_turns m m' b o) d = record { run = λ n S w c k. turns_of_more m m' id b o d n tt S w c k }
    turns_follow id (great_bounds m m' left h h' ticks no_shadow) d =
        record { run = λ n S w c k. turns_of_great left no_shadow m m' id ticks d n (h n w c k, h' n w c k) S w c k }

    pub end_follow : (h : NodeHead) (to : Destination) → FollowsDoes rel (ends_loop items p h to) (ends_loop items q h to)
    end_follow h to = then_follow rel (unit_follow h to) (at_follow rel (Breaks h.id))

    value_of_jump_follow : {o : Option (Meaning W)} {o' : Option (Meaning V)} (h : NodeHead) → FollowsIfAny rel o o' →
        FollowsInto rel (value_of_jump items p h o) (value_of_jump items q h o')
    value_of_jump_follow h without a to = unit_follow h to
    value_of_jump_follow h (with_one _ _ (means mh s e e' r r' x x' ae ar ax)) a to = ae a false to

    pub jumping_follow : {o : Option (Meaning W)} {o' : Option (Meaning V)} (exit : Exit) (h : NodeHead) → FollowsIfAny rel o o' →
        FollowsInto rel (jumping items p exit h o) (jumping items q exit h o')
    jumping_follow exit h t a to = then_follow rel (value_of_jump_follow h t a to) (at_follow rel exit)
