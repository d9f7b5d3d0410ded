-- One run of a source follows another: what the rules of evaluation are made of, one after another, a test, a scope that
-- is left, follows where its parts do.
use Rattle.std.proofs.Common.{◌≡◌, ℕ, Bool, List, [], ◌∷◌, ◌++◌, ap}
use Rattle.mir_ty.specs.ItemTable.{ItemTable}
use Rattle.store_model.proofs.Effects.Following.{Relation, FollowsOut, goes_on, unwinds, halts, lapsed, outlived, refused, FollowsOuts, FollowsChoice, takes, declines, neither, lapsed_choice, outlived_choice, refused_choice, FollowsChoices, FollowsEffects, Within, along}
use Rattle.store_model.specs.Effects.{Normal, Unwinding, Halt, Aborted, Out, Choice, Effects}
use Rattle.src_meaning.specs.Scopes.{Entry, Scopes, with_scope, needing_drop, Exit, Value, Breaks, Continues, Returns, Panics, Run, At, Over, Does, on_value, ◌>>◌, in_scopes, doing, changing, chosen, choosing, back_in, entry_site, dropped_unwinding, drop_unwinding, dropped_normally, drop_normally, leave, leaving, in_scope, then_or_leave, in_scope_with}

pub data Follows {W V : Type 0} (rel : Relation W V) : rel.Stage → Run W → (rel.Choices → Run V) → Type 0 where
  is_at : (n : rel.Stage) (exit : Exit) (S : Scopes) (w : W) (c : rel.Known) (l : rel.Choices) (g : rel.Choices → Run V) → rel.related n w c →
      ((rest : rel.Choices) → g (rel.joined l rest) ≡ At exit S (rel.feed rest c)) → Follows rel n (At exit S w) g
  is_over : (n : rel.Stage) (halt : Halt) (w : W) (c : rel.Known) (l : rel.Choices) (g : rel.Choices → Run V) → rel.halted n w c →
      ((rest : rel.Choices) → g (rel.joined l rest) ≡ Over halt (rel.feed rest c)) → Follows rel n (Over halt w) g
  lapsed_run : (n : rel.Stage) (halt : Halt) (w : W) (g : rel.Choices → Run V) → rel.lapses n halt w → Follows rel n (Over halt w) g
  outlived_run : (n : rel.Stage) (halt : Halt) (w : W) (later : rel.Stage) (shadow : Run W) (g : rel.Choices → Run V) →
      rel.outlives n halt w later → Follows rel later shadow g → Follows rel n (Over halt w) g
  refused_run : (n : rel.Stage) (r : Run W) (halt : Halt) (c : rel.Known) (l : rel.Choices) (g : rel.Choices → Run V) → rel.refuses halt →
      ((rest : rel.Choices) → g (rel.joined l rest) ≡ Over halt (rel.feed rest c)) → Follows rel n r g

-- at each stage, wherever states are related
pub record FollowsDoes {W V : Type 0} (rel : Relation W V) (f : Does W) (f' : Does V) : Type 0 where
  pub run : (n : rel.Stage) (S : Scopes) (w : W) (c : rel.Known) → rel.related n w c → Follows rel n (f S w) (λ t. f' S (rel.feed t c))

abbrev pub FollowsRuns : {W V : Type 0} → Relation W V → (W → Run W) → (V → Run V) → Type 0
FollowsRuns {W} {V} rel f f' = (n : rel.Stage) (w : W) (c : rel.Known) → rel.related n w c → Follows rel n (f w) (λ t. f' (rel.feed t c))

module _ {W V : Type 0} (rel : Relation W V) where
  pub run_after : {n : rel.Stage} {r : Run W} {g' : rel.Choices → Run V} (l : rel.Choices) (g : rel.Choices → Run V) →
      ((rest : rel.Choices) → g (rel.joined l rest) ≡ g' rest) → Follows rel n r g' → Follows rel n r g
  run_after l g e (is_at n exit S w c m g' k d) = is_at n exit S w c (rel.joined l m) g k (along rel l m g g' _ e d)
  run_after l g e (is_over n halt w c m g' k d) = is_over n halt w c (rel.joined l m) g k (along rel l m g g' _ e d)
  run_after l g e (lapsed_run n halt w g' k) = lapsed_run n halt w g k
  run_after l g e (outlived_run n halt w later s g' k d) = outlived_run n halt w later s g k (run_after l g e d)
  run_after l g e (refused_run n r halt c m g' k d) = refused_run n r halt c (rel.joined l m) g k (along rel l m g g' _ e d)

  pub within_run : {later n : rel.Stage} {r : Run W} {g : rel.Choices → Run V} → Within rel later n → Follows rel later r g → Follows rel n r g
  within_run i (is_at m exit S w c l g k d) = is_at _ exit S w c l g (i.relating w c k) d
  within_run i (is_over m halt w c l g k d) = is_over _ halt w c l g (i.halting w c k) d
  within_run i (lapsed_run m halt w g k) = lapsed_run _ halt w g (i.lapsing halt w k)
  within_run i (outlived_run m halt w s shadow g k d) = outlived_run _ halt w s shadow g (i.outliving halt w s k) d
  within_run i (refused_run m r halt c l g k d) = refused_run _ r halt c l g k d

  pub stays : (n : rel.Stage) (exit : Exit) (S : Scopes) (w : W) (c : rel.Known) → rel.related n w c → Follows rel n (At exit S w) (λ t. At exit S (rel.feed t c))
  stays n exit S w c k = is_at n exit S w c rel.none _ k (λ rest. ap (λ t. At exit S (rel.feed t c)) (rel.from_none rest))

  pub stops : (n : rel.Stage) (halt : Halt) (w : W) (c : rel.Known) → rel.related n w c → Follows rel n (Over halt w) (λ t. Over halt (rel.feed t c))
  stops n halt w c k = is_over n halt w c rel.none _ (rel.at_halt n w c k) (λ rest. ap (λ t. Over halt (rel.feed t c)) (rel.from_none rest))

  pub after_value : {n : rel.Stage} {r : Run W} {g : rel.Choices → Run V} {f : Does W} (f' : Does V) → Follows rel n r g → FollowsDoes rel f f' →
      Follows rel n (on_value r f) (λ t. on_value (g t) f')
  after_value {n} {r} {g} {f} f' (is_at m Value S w c l _ k d) e = run_after l (λ t. on_value (g t) f') (λ rest. ap (λ x. on_value x f') (d rest)) (e.run m S w c k)
  after_value {n} {r} {g} {f} f' (is_at m (Breaks loop) S w c l _ k d) e = is_at m (Breaks loop) S w c l _ k (λ rest. ap (λ x. on_value x f') (d rest))
  after_value {n} {r} {g} {f} f' (is_at m (Continues loop) S w c l _ k d) e = is_at m (Continues loop) S w c l _ k (λ rest. ap (λ x. on_value x f') (d rest))
  after_value {n} {r} {g} {f} f' (is_at m Returns S w c l _ k d) e = is_at m Returns S w c l _ k (λ rest. ap (λ x. on_value x f') (d rest))
  after_value {n} {r} {g} {f} f' (is_at m Panics S w c l _ k d) e = is_at m Panics S w c l _ k (λ rest. ap (λ x. on_value x f') (d rest))
  after_value {n} {r} {g} {f} f' (is_over m halt w c l _ k d) e = is_over m halt w c l _ k (λ rest. ap (λ x. on_value x f') (d rest))
  after_value {n} {r} {g} {f} f' (lapsed_run m halt w _ k) e = lapsed_run m halt w _ k
  after_value {n} {r} {g} {f} f' (outlived_run m halt w later s _ k d) e = outlived_run m halt w later (on_value s f) _ k (after_value f' d e)
  after_value {n} {r} {g} {f} f' (refused_run m _ halt c l _ k d) e = refused_run m _ halt c l _ k (λ rest. ap (λ x. on_value x f') (d rest))

  pub then_follow : {f g : Does W} {f' g' : Does V} → FollowsDoes rel f f' → FollowsDoes rel g g' → FollowsDoes rel (f >> g) (f' >> g')
  then_follow {f} {g} {f'} {g'} e d = record { run = λ n S w c k. after_value g' (e.run n S w c k) d }

  pub at_follow : (exit : Exit) → FollowsDoes rel (At exit) (At exit)
  at_follow exit = record { run = λ n S w c k. stays n exit S w c k }

  pub changing_follow : (change : Scopes → Scopes) → FollowsDoes rel (changing change) (changing change)
  changing_follow change = record { run = λ n S w c k. stays n Value (change S) w c k }

  pub scoped : {n : rel.Stage} {o : Out W} {g : rel.Choices → Out V} (S : Scopes) → FollowsOut rel n o g → Follows rel n (in_scopes S o) (λ t. in_scopes S (g t))
  scoped S (goes_on m w c l _ k d) = is_at m Value S w c l _ k (λ rest. ap (in_scopes S) (d rest))
  scoped S (unwinds m w c l _ k d) = is_at m Panics S w c l _ k (λ rest. ap (in_scopes S) (d rest))
  scoped S (halts m halt w c l _ k d) = is_over m halt w c l _ k (λ rest. ap (in_scopes S) (d rest))
  scoped S (lapsed m halt w _ k) = lapsed_run m halt w _ k
  scoped S (outlived m halt w later s _ k d) = outlived_run m halt w later (in_scopes S s) _ k (scoped S d)
  scoped S (refused m _ halt c l _ k d) = refused_run m _ halt c l _ k (λ rest. ap (in_scopes S) (d rest))

  pub doing_follow : (f : W → Out W) (f' : V → Out V) → FollowsOuts rel f f' → FollowsDoes rel (doing f) (doing f')
  doing_follow f f' e = record { run = λ n S w c k. scoped S (e n w c k) }

  pub after_choice : {n : rel.Stage} {o : Choice W} {g : rel.Choices → Choice V} {f h : W → Run W} (f' h' : V → Run V) → FollowsChoice rel n o g →
      FollowsRuns rel f f' → FollowsRuns rel h h' → Follows rel n (chosen o f h) (λ t. chosen (g t) f' h')
  after_choice {n} {o} {g} {f} {h} f' h' (takes m w c l _ k d) e b = run_after l (λ t. chosen (g t) f' h') (λ rest. ap (λ x. chosen x f' h') (d rest)) (e m w c k)
  after_choice {n} {o} {g} {f} {h} f' h' (declines m w c l _ k d) e b = run_after l (λ t. chosen (g t) f' h') (λ rest. ap (λ x. chosen x f' h') (d rest)) (b m w c k)
  after_choice {n} {o} {g} {f} {h} f' h' (neither m halt w c l _ k d) e b = is_over m halt w c l _ k (λ rest. ap (λ x. chosen x f' h') (d rest))
  after_choice {n} {o} {g} {f} {h} f' h' (lapsed_choice m halt w _ k) e b = lapsed_run m halt w _ k
  after_choice {n} {o} {g} {f} {h} f' h' (outlived_choice m halt w later s _ k d) e b = outlived_run m halt w later (chosen s f h) _ k (after_choice f' h' d e b)
  after_choice {n} {o} {g} {f} {h} f' h' (refused_choice m _ halt c l _ k d) e b = refused_run m _ halt c l _ k (λ rest. ap (λ x. chosen x f' h') (d rest))

  pub choosing_follow : (test : W → Choice W) (test' : V → Choice V) → FollowsChoices rel test test' →
      {f h : Does W} {f' h' : Does V} → FollowsDoes rel f f' → FollowsDoes rel h h' → FollowsDoes rel (choosing test f h) (choosing test' f' h')
  choosing_follow test test' e {f} {h} {f'} {h'} d b =
      record { run = λ n S w c k. after_choice (f' S) (h' S) (e n w c k) (λ m v z j. d.run m S v z j) (λ m v z j. b.run m S v z j) }

  pub back_follow : {n : rel.Stage} {r : Run W} {g : rel.Choices → Run V} (S : Scopes) → Follows rel n r g → Follows rel n (back_in S r) (λ t. back_in S (g t))
  back_follow S (is_at m Value S' w c l _ k d) = is_at m Value S w c l _ k (λ rest. ap (back_in S) (d rest))
  back_follow S (is_at m (Breaks loop) S' w c l _ k d) = is_at m (Breaks loop) S' w c l _ k (λ rest. ap (back_in S) (d rest))
  back_follow S (is_at m (Continues loop) S' w c l _ k d) = is_at m (Continues loop) S' w c l _ k (λ rest. ap (back_in S) (d rest))
  back_follow S (is_at m Returns S' w c l _ k d) = is_at m Returns S' w c l _ k (λ rest. ap (back_in S) (d rest))
  back_follow S (is_at m Panics S' w c l _ k d) = is_at m Panics S' w c l _ k (λ rest. ap (back_in S) (d rest))
  back_follow S (is_over m halt w c l _ k d) = is_over m halt w c l _ k (λ rest. ap (back_in S) (d rest))
  back_follow S (lapsed_run m halt w _ k) = lapsed_run m halt w _ k
  back_follow S (outlived_run m halt w later s _ k d) = outlived_run m halt w later (back_in S s) _ k (back_follow S d)
  back_follow S (refused_run m _ halt c l _ k d) = refused_run m _ halt c l _ k (λ rest. ap (back_in S) (d rest))

  -- Scopes are left.
  module _ (items : ItemTable) (p : Effects W) (q : Effects V) (follow : FollowsEffects rel p q) where
    after_unwinding : {n : rel.Stage} {o : Out W} {g : rel.Choices → Out V} {f : W → Run W} (f' : V → Run V) → FollowsOut rel n o g → FollowsRuns rel f f' →
        Follows rel n (dropped_unwinding items p o f) (λ t. dropped_unwinding items q (g t) f')
    after_unwinding {n} {o} {g} {f} f' (goes_on m w c l _ k d) e =
        run_after l (λ t. dropped_unwinding items q (g t) f') (λ rest. ap (λ x. dropped_unwinding items q x f') (d rest)) (e m w c k)
    after_unwinding {n} {o} {g} {f} f' (unwinds m w c l _ k d) e = is_over m Aborted w c l _ (rel.at_halt m w c k) (λ rest. ap (λ x. dropped_unwinding items q x f') (d rest))
    after_unwinding {n} {o} {g} {f} f' (halts m halt w c l _ k d) e = is_over m halt w c l _ k (λ rest. ap (λ x. dropped_unwinding items q x f') (d rest))
    after_unwinding {n} {o} {g} {f} f' (lapsed m halt w _ k) e = lapsed_run m halt w _ k
    after_unwinding {n} {o} {g} {f} f' (outlived m halt w later s _ k d) e =
        outlived_run m halt w later (dropped_unwinding items p s f) _ k (after_unwinding f' d e)
    after_unwinding {n} {o} {g} {f} f' (refused m _ halt c l _ k d) e = refused_run m _ halt c l _ k (λ rest. ap (λ x. dropped_unwinding items q x f') (d rest))

    unwinding_follow : (es : List Entry) (S : Scopes) → FollowsRuns rel (drop_unwinding items p es S) (drop_unwinding items q es S)
    unwinding_follow [] S n w c k = stays n Panics S w c k
    unwinding_follow (e ∷ es) S n w c k = after_unwinding (drop_unwinding items q es S) (follow.dropping Unwinding (entry_site e) n w c k) (unwinding_follow es S)

    after_calm : {n : rel.Stage} {o : Out W} {g : rel.Choices → Out V} {f h : W → Run W} (f' h' : V → Run V) → FollowsOut rel n o g →
        FollowsRuns rel f f' → FollowsRuns rel h h' → Follows rel n (dropped_normally items p o f h) (λ t. dropped_normally items q (g t) f' h')
    after_calm {n} {o} {g} {f} {h} f' h' (goes_on m w c l _ k d) e b =
        run_after l (λ t. dropped_normally items q (g t) f' h') (λ rest. ap (λ x. dropped_normally items q x f' h') (d rest)) (e m w c k)
    after_calm {n} {o} {g} {f} {h} f' h' (unwinds m w c l _ k d) e b =
        run_after l (λ t. dropped_normally items q (g t) f' h') (λ rest. ap (λ x. dropped_normally items q x f' h') (d rest)) (b m w c k)
    after_calm {n} {o} {g} {f} {h} f' h' (halts m halt w c l _ k d) e b = is_over m halt w c l _ k (λ rest. ap (λ x. dropped_normally items q x f' h') (d rest))
    after_calm {n} {o} {g} {f} {h} f' h' (lapsed m halt w _ k) e b = lapsed_run m halt w _ k
    after_calm {n} {o} {g} {f} {h} f' h' (outlived m halt w later s _ k d) e b =
        outlived_run m halt w later (dropped_normally items p s f h) _ k (after_calm f' h' d e b)
    after_calm {n} {o} {g} {f} {h} f' h' (refused m _ halt c l _ k d) e b = refused_run m _ halt c l _ k (λ rest. ap (λ x. dropped_normally items q x f' h') (d rest))

    calm_follow : (exit : Exit) (es : List Entry) (S : Scopes) → FollowsRuns rel (drop_normally items p exit es S) (drop_normally items q exit es S)
    calm_follow exit [] S n w c k = stays n exit S w c k
    calm_follow exit (e ∷ es) S n w c k =
        after_calm (drop_normally items q exit es S) (drop_unwinding items q es S) (follow.dropping Normal (entry_site e) n w c k) (calm_follow exit es S) (unwinding_follow es S)

    left_follow : (exit : Exit) (S : Scopes) → FollowsRuns rel (λ w. leave items p (At exit S w)) (λ v. leave items q (At exit S v))
    left_follow exit [] n w c k = stays n exit [] w c k
    left_follow Value (s ∷ S) n w c k = calm_follow Value (needing_drop items s.entries) S n w c k
    left_follow (Breaks loop) (s ∷ S) n w c k = calm_follow (Breaks loop) (needing_drop items s.entries) S n w c k
    left_follow (Continues loop) (s ∷ S) n w c k = calm_follow (Continues loop) (needing_drop items s.entries) S n w c k
    left_follow Returns (s ∷ S) n w c k = calm_follow Returns (needing_drop items s.entries) S n w c k
    left_follow Panics (s ∷ S) n w c k = unwinding_follow (needing_drop items (s.pending ++ s.entries)) S n w c k

    leave_follow : {n : rel.Stage} {r : Run W} {g : rel.Choices → Run V} → Follows rel n r g → Follows rel n (leave items p r) (λ t. leave items q (g t))
    leave_follow {n} {r} {g} (is_at m exit S w c l _ k d) = run_after l (λ t. leave items q (g t)) (λ rest. ap (leave items q) (d rest)) (left_follow exit S m w c k)
    leave_follow {n} {r} {g} (is_over m halt w c l _ k d) = is_over m halt w c l _ k (λ rest. ap (leave items q) (d rest))
    leave_follow {n} {r} {g} (lapsed_run m halt w _ k) = lapsed_run m halt w _ k
    leave_follow {n} {r} {g} (outlived_run m halt w later s _ k d) = outlived_run m halt w later (leave items p s) _ k (leave_follow d)
    leave_follow {n} {r} {g} (refused_run m _ halt c l _ k d) = refused_run m _ halt c l _ k (λ rest. ap (leave items q) (d rest))

    pub leaving_follow : {f : Does W} {f' : Does V} → FollowsDoes rel f f' → FollowsDoes rel (leaving items p f) (leaving items q f')
    leaving_follow e = record { run = λ n S w c k. leave_follow (e.run n S w c k) }

    pub in_scope_follow : {f : Does W} {f' : Does V} (node : ℕ) (own : Bool) → FollowsDoes rel f f' → FollowsDoes rel (in_scope items p node own f) (in_scope items q node own f')
    in_scope_follow node own e = record { run = λ n S w c k. leave_follow (e.run n (with_scope node own S) w c k) }

    value_or_leave : {n : rel.Stage} {r : Run W} {g : rel.Choices → Run V} {f : Does W} (f' : Does V) → Follows rel n r g → FollowsDoes rel f f' →
        Follows rel n (then_or_leave items p r f) (λ t. then_or_leave items q (g t) f')
    value_or_leave {n} {r} {g} {f} f' (is_at m Value S w c l _ k d) e =
        run_after l (λ t. then_or_leave items q (g t) f') (λ rest. ap (λ x. then_or_leave items q x f') (d rest)) (e.run m S w c k)
    value_or_leave {n} {r} {g} {f} f' (is_at m (Breaks loop) S w c l _ k d) e =
        run_after l (λ t. then_or_leave items q (g t) f') (λ rest. ap (λ x. then_or_leave items q x f') (d rest)) (left_follow (Breaks loop) S m w c k)
    value_or_leave {n} {r} {g} {f} f' (is_at m (Continues loop) S w c l _ k d) e =
        run_after l (λ t. then_or_leave items q (g t) f') (λ rest. ap (λ x. then_or_leave items q x f') (d rest)) (left_follow (Continues loop) S m w c k)
    value_or_leave {n} {r} {g} {f} f' (is_at m Returns S w c l _ k d) e =
        run_after l (λ t. then_or_leave items q (g t) f') (λ rest. ap (λ x. then_or_leave items q x f') (d rest)) (left_follow Returns S m w c k)
    value_or_leave {n} {r} {g} {f} f' (is_at m Panics S w c l _ k d) e =
        run_after l (λ t. then_or_leave items q (g t) f') (λ rest. ap (λ x. then_or_leave items q x f') (d rest)) (left_follow Panics S m w c k)
    value_or_leave {n} {r} {g} {f} f' (is_over m halt w c l _ k d) e = is_over m halt w c l _ k (λ rest. ap (λ x. then_or_leave items q x f') (d rest))
    value_or_leave {n} {r} {g} {f} f' (lapsed_run m halt w _ k) e = lapsed_run m halt w _ k
    value_or_leave {n} {r} {g} {f} f' (outlived_run m halt w later s _ k d) e =
        outlived_run m halt w later (then_or_leave items p s f) _ k (value_or_leave f' d e)
    value_or_leave {n} {r} {g} {f} f' (refused_run m _ halt c l _ k d) e = refused_run m _ halt c l _ k (λ rest. ap (λ x. then_or_leave items q x f') (d rest))

    pub in_scope_with_follow : {f h : Does W} {f' h' : Does V} (node : ℕ) (own : Bool) → FollowsDoes rel f f' → FollowsDoes rel h h' →
        FollowsDoes rel (in_scope_with items p node own f h) (in_scope_with items q node own f' h')
    in_scope_with_follow {f} {h} {f'} {h'} node own e d = record { run = λ n S w c k. value_or_leave h' (e.run n (with_scope node own S) w c k) d }
