-- An effect on values does what a free effect does: both go on or both panic, in related states; or the first ends the
-- run as it may, or the second is refused. It never halts together with the free one.
use Rattle.std.proofs.Common.{◌≡◌, ap, ◌∙◌}
use Rattle.store_model.proofs.Effects.Following as following
use Rattle.store_model.proofs.Effects.Following.{Relation}
use Rattle.store_model.specs.Effects.{Halt, Out, Go, Unwind, Halts, Choice, Yes, No, Neither}

pub data FollowsOut {W V : Type 0} (rel : Relation W V) : rel.Stage → Out W → (rel.Choices → Out V) → Type 0 where
  goes_on : (n : rel.Stage) (w : W) (c : rel.Known) (l : rel.Choices) (g : rel.Choices → Out V) →
      rel.related n w c → ((rest : rel.Choices) → g (rel.joined l rest) ≡ Go (rel.feed rest c)) →
      FollowsOut rel n (Go w) g
  unwinds : (n : rel.Stage) (w : W) (c : rel.Known) (l : rel.Choices) (g : rel.Choices → Out V) →
      rel.related n w c → ((rest : rel.Choices) → g (rel.joined l rest) ≡ Unwind (rel.feed rest c)) →
      FollowsOut rel n (Unwind w) g
  lapsed : (n : rel.Stage) (halt : Halt) (w : W) (g : rel.Choices → Out V) → rel.lapses n halt w →
      FollowsOut rel n (Halts halt w) g
  refused : (n : rel.Stage) (o : Out W) (halt : Halt) (c : rel.Known) (l : rel.Choices) (g : rel.Choices → Out V) →
      rel.refuses halt → ((rest : rel.Choices) → g (rel.joined l rest) ≡ Halts halt (rel.feed rest c)) →
      FollowsOut rel n o g

pub data FollowsChoice {W V : Type 0} (rel : Relation W V) : rel.Stage → Choice W → (rel.Choices → Choice V) →
    Type 0 where
  takes : (n : rel.Stage) (w : W) (c : rel.Known) (l : rel.Choices) (g : rel.Choices → Choice V) →
      rel.related n w c → ((rest : rel.Choices) → g (rel.joined l rest) ≡ Yes (rel.feed rest c)) →
      FollowsChoice rel n (Yes w) g
  declines : (n : rel.Stage) (w : W) (c : rel.Known) (l : rel.Choices) (g : rel.Choices → Choice V) →
      rel.related n w c → ((rest : rel.Choices) → g (rel.joined l rest) ≡ No (rel.feed rest c)) →
      FollowsChoice rel n (No w) g
  lapsed_choice : (n : rel.Stage) (halt : Halt) (w : W) (g : rel.Choices → Choice V) → rel.lapses n halt w →
      FollowsChoice rel n (Neither halt w) g
  refused_choice : (n : rel.Stage) (o : Choice W) (halt : Halt) (c : rel.Known) (l : rel.Choices)
      (g : rel.Choices → Choice V) → rel.refuses halt →
      ((rest : rel.Choices) → g (rel.joined l rest) ≡ Neither halt (rel.feed rest c)) → FollowsChoice rel n o g

module _ {W V : Type 0} (rel : Relation W V) where
  along : {A : Type 0} (l m : rel.Choices) (g g' : rel.Choices → A) (x : rel.Choices → A) →
      ((rest : rel.Choices) → g (rel.joined l rest) ≡ g' rest) →
      ((rest : rel.Choices) → g' (rel.joined m rest) ≡ x rest) →
      (rest : rel.Choices) → g (rel.joined (rel.joined l m) rest) ≡ x rest
  along l m g g' x e d rest = ap g (rel.associates l m rest) ∙ e (rel.joined m rest) ∙ d rest

  -- some choices are taken before
  pub out_after : {n : rel.Stage} {o : Out W} {g' : rel.Choices → Out V} (l : rel.Choices) (g : rel.Choices → Out V) →
      ((rest : rel.Choices) → g (rel.joined l rest) ≡ g' rest) → FollowsOut rel n o g' → FollowsOut rel n o g
  out_after l g e (goes_on n w c m g' k d) = goes_on n w c (rel.joined l m) g k (along l m g g' _ e d)
  out_after l g e (unwinds n w c m g' k d) = unwinds n w c (rel.joined l m) g k (along l m g g' _ e d)
  out_after l g e (lapsed n halt w g' k) = lapsed n halt w g k
  out_after l g e (refused n o halt c m g' k d) = refused n o halt c (rel.joined l m) g k (along l m g g' _ e d)

  pub as_following : {n : rel.Stage} {o : Out W} {g : rel.Choices → Out V} → FollowsOut rel n o g →
      following.FollowsOut rel n o g
  as_following (goes_on n w c l g k d) = following.goes_on n w c l g k d
  as_following (unwinds n w c l g k d) = following.unwinds n w c l g k d
  as_following (lapsed n halt w g k) = following.lapsed n halt w g k
  as_following (refused n o halt c l g k d) = following.refused n o halt c l g k d

  pub as_following_choice : {n : rel.Stage} {o : Choice W} {g : rel.Choices → Choice V} → FollowsChoice rel n o g →
      following.FollowsChoice rel n o g
  as_following_choice (takes n w c l g k d) = following.takes n w c l g k d
  as_following_choice (declines n w c l g k d) = following.declines n w c l g k d
  as_following_choice (lapsed_choice n halt w g k) = following.lapsed_choice n halt w g k
  as_following_choice (refused_choice n o halt c l g k d) = following.refused_choice n o halt c l g k d
