-- Looking back at a place tells what is present there after each action in turn.
use Rattle.std.proofs.Common.{◌≡◌, Bool, true, false, not, ◌&&◌, if◌then◌else◌, List, [], ◌∷◌, Option, Some, None, refl, ap, subst, sym, ◌∙◌}
use Rattle.std.specs.Prelude.{◌==◌, unwrap_or}
use Rattle.std.specs.Option.{option_or}
use Rattle.std.proofs.lemmas.Bool.{false≢true}
use Rattle.mir_ty.specs.ItemTable.{ItemTable}
use Rattle.store_model.specs.Places.Place.{Step, same_step, Place}
use Rattle.store_model.specs.Abstract.Presence.{Presence, Parts, known, none_named, named, is_present, is_gone, itself_gone, part_among, presence_at, presence_along, changed_among, changed_at, after_action}
use Rattle.cfg_graph.specs.declared.graph.Body.{Body}
use Rattle.cfg_graph.specs.Moves.Gone.{PathAction, leaves_gone, are_first, counts, left_by, last_left, is_param}
use Rattle.cfg_graph.specs.Moves.Present.{changed_by, present_by, present_from, present_at_start, GoneIsNotPresent}
use Rattle.cfg_graph.proofs.WholePlaces.{same_step-sound, same_step-refl}

-- The part to which a step leads, after another step's part was changed.

same_part : (a b : Bool) (change : Presence → Presence) (part rest : Presence) → a ≡ b
    → (if a then change part else rest) ≡ (if b then change (if a then part else rest) else if a then part else rest)
same_part true true change part rest e = refl
same_part false false change part rest e = refl
same_part true false change part rest e = absurd (false≢true (sym e))
same_part false true change part rest e = absurd (false≢true e)

other_part : (a b : Bool) (change : Presence → Presence) (part rest changed : Presence) → (a ≡ true → b ≡ true → ⊥) → changed ≡ (if b then change rest else rest)
    → (if a then part else changed) ≡ (if b then change (if a then part else rest) else if a then part else rest)
other_part true true change part rest changed apart e = absurd (apart refl refl)
other_part true false change part rest changed apart e = refl
other_part false b change part rest changed apart e = e

part-changed : (s t : Step) (change : Presence → Presence) (o : Presence) (parts : Parts)
    → part_among s o (changed_among t change o parts) ≡ (if same_step s t then change (part_among s o parts) else part_among s o parts)
part-changed s t change o none_named = refl
part-changed s t change o (named other part rest) = by (same_step t other) refl (part-changed s t change o rest)
  where
    by : (c : Bool) → same_step t other ≡ c
        → part_among s o (changed_among t change o rest) ≡ (if same_step s t then change (part_among s o rest) else part_among s o rest)
        → part_among s o (if c then named other (change part) rest else named other part (changed_among t change o rest))
        ≡ (if same_step s t then change (if same_step s other then part else part_among s o rest) else if same_step s other then part else part_among s o rest)
    by true e later = same_part (same_step s other) (same_step s t) change part (part_among s o rest) (ap (same_step s) (sym (same_step-sound t other e)))
    by false e later =
        other_part (same_step s other) (same_step s t) change part (part_among s o rest) (part_among s o (changed_among t change o rest))
        (λ h k. false≢true (sym e ∙ subst (λ x. same_step x other ≡ true) (same_step-sound s t k) h)) later

presence-changed : (s t : Step) (change : Presence → Presence) (p : Presence)
    → presence_at s (changed_at t change p) ≡ (if same_step s t then change (presence_at s p) else presence_at s p)
presence-changed s t change (known gone parts) = part-changed s t change (known gone none_named) parts

along-closed : (steps : List Step) (gone : Bool) → presence_along steps (known gone none_named) ≡ known gone none_named
along-closed [] gone = refl
along-closed (step ∷ steps) gone = along-closed steps gone

itself-changed : (t : Step) (change : Presence → Presence) (p : Presence) → itself_gone (changed_at t change p) ≡ itself_gone p
itself-changed t change (known gone parts) = refl

-- Whether a place is gone, after something was taken from another or stored there.

met : (a b f takes old : Bool) (x : Bool) → (a ≡ true → b ≡ true) → (b ≡ true → a ≡ true) → (a ≡ true → x ≡ (if f then takes else old)) → (a ≡ false → x ≡ old)
    → x ≡ (if b && f then takes else old)
met true true f takes old x ab ba h k = h refl
met false false f takes old x ab ba h k = k refl
met true false f takes old x ab ba h k = absurd (false≢true (ab refl))
met false true f takes old x ab ba h k = absurd (false≢true (ba refl))

same_step-turned : (s t : Step) → same_step s t ≡ true → same_step t s ≡ true
same_step-turned s t h = subst (λ x. same_step x s ≡ true) (same_step-sound s t h) (same_step-refl s)

gone-after_action : (steps at : List Step) (takes : Bool) (p : Presence)
    → itself_gone (presence_along steps (after_action takes at p)) ≡ (if are_first at steps then takes else itself_gone (presence_along steps p))
gone-after_action steps [] takes p = ap itself_gone (along-closed steps takes)
gone-after_action [] (t ∷ at) takes p = itself-changed t (after_action takes at) p
gone-after_action (s ∷ steps) (t ∷ at) takes p =
    met (same_step s t) (same_step t s) (are_first at steps) takes (itself_gone (presence_along steps (presence_at s p)))
    (itself_gone (presence_along steps (presence_at s (changed_at t (after_action takes at) p))))
    (same_step-turned s t) (same_step-turned t s)
    (λ e. ap (λ q. itself_gone (presence_along steps q)) (presence-changed s t (after_action takes at) p ∙ ap (λ b. if b then after_action takes at (presence_at s p) else presence_at s p) e)
    ∙ gone-after_action steps at takes (presence_at s p))
    (λ e. ap (λ q. itself_gone (presence_along steps q)) (presence-changed s t (after_action takes at) p ∙ ap (λ b. if b then after_action takes at (presence_at s p) else presence_at s p) e))

left-here : (c l f : Bool) (x : Option Bool) (steps at : List Step) (p : Presence) → are_first at steps ≡ f
    → itself_gone (presence_along steps (if c && l then changed_by x at p else p)) ≡ unwrap_or (if c && (l && f) then x else None) (itself_gone (presence_along steps p))
left-here false l f x steps at p e = refl
left-here true false f x steps at p e = refl
left-here true true true None steps at p e = refl
left-here true true false None steps at p e = refl
left-here true true true (Some takes) steps at p e = gone-after_action steps at takes p ∙ ap (λ b. if b then takes else itself_gone (presence_along steps p)) e
left-here true true false (Some takes) steps at p e = gone-after_action steps at takes p ∙ ap (λ b. if b then takes else itself_gone (presence_along steps p)) e

unwrap-or : (x y : Option Bool) (d : Bool) → unwrap_or x (unwrap_or y d) ≡ unwrap_or (option_or x y) d
unwrap-or None y d = refl
unwrap-or (Some v) y d = refl

at-start : (param : Bool) (steps : List Step) → itself_gone (presence_along steps (if param then is_present else is_gone)) ≡ not param
at-start true steps = ap itself_gone (along-closed steps false)
at-start false steps = ap itself_gone (along-closed steps true)

module _ (items : ItemTable) (body : Body) where
  gone-present_from : (place : Place) (actions : List PathAction) (p : Presence)
      → itself_gone (presence_along place.steps (present_from items body place.local actions p)) ≡ unwrap_or (last_left items body place actions) (itself_gone (presence_along place.steps p))
  gone-present_from place [] p = refl
  gone-present_from place (a ∷ later) p =
      gone-present_from place later (present_by items body place.local a p)
      ∙ ap (unwrap_or (last_left items body place later))
      (left-here (counts items body a.place) (a.place.local == place.local) (are_first a.place.steps place.steps) (leaves_gone a.how) place.steps a.place.steps p refl)
      ∙ unwrap-or (last_left items body place later) (left_by items body place a) (itself_gone (presence_along place.steps p))

pub gone_is_not_present : GoneIsNotPresent
gone_is_not_present items body actions place =
    gone-present_from items body place actions (present_at_start items body place.local)
    ∙ ap (unwrap_or (last_left items body place actions)) (at-start (is_param items body place.local) place.steps)
